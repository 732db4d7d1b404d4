-- All of it fits, so no line is refused.
use Rattle.std.proofs.Common.{arith}
use Rattle.std.proofs.lemmas.List.{at_drop_all}
use Rattle.scripts.specs.ScriptText.{text_of}
use Rattle.buffers.proofs.Rest.{left_more, left_none, left_refused}
use Rattle.script_texts.proofs.Laws.{text_parts, written_whole}
use Rattle.script_texts.proofs.write_cues.Goals as goal

pub returns-in_err-end : goal.returns-in_err-end
returns-in_err-end c =
    let parts = text_parts _ c.loop-key.key-index _ c.of_key.ensures c.loop-key-test.true in
    absurd (left_refused c.loop-key.invariant parts c.write_cue.ensures c.in_err-end.was)

pub loop-key-preserved : goal.loop-key-preserved
loop-key-preserved c =
    let parts = text_parts _ c.loop-key.key-index _ c.of_key.ensures c.loop-key-test.true in
    left_more c.loop-key.invariant parts c.write_cue.ensures c.in_ok-end.was

pub returns : goal.returns
unfolding text_of
returns c =
    written_whole _ c.args.keys.now c.args.at c.first_keys-key-items.ensures.first
    (left_none c.loop-key.invariant (at_drop_all text_of _ c.loop-key.key-index (omega arith)))
