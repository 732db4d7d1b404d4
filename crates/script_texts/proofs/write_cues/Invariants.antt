-- What is left to write gives the whole.
use Rattle.std.proofs.Common.{drop}
use Rattle.buffers.proofs.Rest.{Left}
use Rattle.scripts.specs.ScriptText.{text_of}
use Rattle.script_texts.proofs.write_cues.Given as goal

abbrev pub invariant-loop-key : goal.invariant-loop-key
invariant-loop-key l =
    Left l.initial.buf (text_of l.key-items) l.at l.buf (text_of (drop l.key-index l.key-items)) l.end
