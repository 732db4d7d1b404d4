-- The proofs of the theorems about texts. Assumes nothing.
use Rattle.checksum.proofs.Theorems.{pieces_joined, entries_are_weights, checksum_bounded, printed_values_right}
use Rattle.cue_lines.proofs.Theorems.{cue_write_then_read, cue_read_is_canonical}
use Rattle.cue_texts.proofs.Theorems.{body_then_lf, cue_line_short, cue_line_no_lf}
use Rattle.cues.proofs.Theorems.{key_keeps_order, key_one_to_one, key_gives_cue, key_is_cue_key}
use Rattle.lines.proofs.Theorems.{lines_joined, lines_without_lf, lines_read}
use Rattle.numbered_lines.proofs.Theorems.{numbered_bytes, numbered_places, line_within}
use Rattle.numbers.proofs.Theorems.{write_then_read, read_is_canonical, every_number}
use Rattle.scripts.proofs.Theorems.{read_is_sound, same_bytes_same_cues, accepted_cues, text_fits}
use Rattle.scripts.proofs.Theorems.{write_then_read as script_write_then_read}

pub ruleset of_lines = (lines_joined, lines_without_lf, lines_read)

pub ruleset of_numbered_lines = (numbered_bytes, numbered_places, line_within)

pub ruleset of_numbers = (write_then_read, read_is_canonical, every_number)

pub ruleset of_cues = (key_keeps_order, key_one_to_one, key_gives_cue, key_is_cue_key)

pub ruleset of_cue_lines = (cue_write_then_read, cue_read_is_canonical, body_then_lf, cue_line_short, cue_line_no_lf)

pub ruleset of_scripts = (script_write_then_read, same_bytes_same_cues, accepted_cues, read_is_sound, text_fits)

pub ruleset of_stamps = (entries_are_weights, pieces_joined, checksum_bounded, printed_values_right)
