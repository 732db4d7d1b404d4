-- A list is its count and its cue lines, and the closing text its two lists. Assumes nothing.
use Rattle.std.proofs.Common.{ℕ, List, ◌++◌, length, refl}
use Rattle.buffers.proofs.Rest.{Parts}
use Rattle.lines.specs.Ascii.{bytes}
use Rattle.records.specs.Record.{field_text}
use Rattle.scripts.specs.ScriptText.{text_of}
use Rattle.closing_lists.specs.Closing.{state_of, list_text, closing_text}

pub list_parts : (word keys : List ℕ) → Parts (list_text word keys) (word ++ field_text (length keys) 10) (text_of keys)
list_parts word keys = record { are = refl }

pub closing_parts : (script queue : List ℕ)
    → Parts (closing_text (state_of script queue)) (list_text (bytes "script,") script) (list_text (bytes "queue,") queue)
unfolding closing_text
closing_parts script queue = record { are = refl }
