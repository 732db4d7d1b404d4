-- The sum so far and what is left are the whole length.
use Rattle.std.proofs.Common.{drop, take, length, ◌*◌, ◌+◌, ◌≡◌, ◌≤◌}
use Rattle.scripts.specs.ScriptText.{text_of}
use Rattle.script_texts.proofs.cues_length.Given as goal

abbrev pub invariant-loop-key : goal.invariant-loop-key
invariant-loop-key l =
    record {
      so_far : l.sum + length (text_of (drop l.key-index (take 256 l.keys))) ≡ length (text_of (take 256 l.keys));
      few : l.sum ≤ 63 * l.key-index;
    }
