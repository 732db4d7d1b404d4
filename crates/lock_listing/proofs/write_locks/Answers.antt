-- Each line fits, so no writer refuses.
use Rattle.std.proofs.Common.{ℕ, List, ◌++◌, ◌+◌, ap, arith, length, sym, ◌∙◌}
use Rattle.std.proofs.lemmas.List.{at_drop_all}
use mathlib.Core.List.{flatten}
use Rattle.boosting.specs.Listing.{lock_lines, modes_of}
use Rattle.buffers.proofs.Rest.{Parts, left_last, left_more, left_refused}
use Rattle.lock_listing.proofs.Listings.{locks_from, locks_parts}
use Rattle.lock_listing.proofs.write_locks.Goals as goal
use Rattle.lock_listing.proofs.write_locks.Goals.{After-write_bytes}

-- the line is the next part
parts : (c : After-write_bytes) →
    Parts (locks_from c.args.e c.args.locks.now c.loop-key.key-index) c.as_bytes.result.now
    (locks_from c.args.e c.args.locks.now (c.loop-key.key-index + 1))
parts c =
    locks_parts c.args.e c.args.locks.now c.loop-key.key-index _ _ _ c.cues-key-items.ensures.value c.loop-key-test.true
    (c.as_bytes.ensures ∙ c.lock_line.ensures.text)

pub returns-in_err-middle : goal.returns-in_err-middle
returns-in_err-middle c =
    let w = (goal.at.returns-in_err-middle c).After-write_bytes in
    absurd (left_refused c.loop-key.invariant (parts w) c.write_bytes.ensures c.in_err-middle.was)

pub loop-key-preserved : goal.loop-key-preserved
loop-key-preserved c =
    let w = (goal.at.loop-key-preserved c).After-write_bytes in
    left_more c.loop-key.invariant (parts w) c.write_bytes.ensures c.in_ok-middle.was

pub returns : goal.returns
unfolding lock_lines
returns c =
    let over = at_drop_all (λ (ks : List ℕ). flatten (lock_lines c.args.e ks ++ modes_of c.args.e c.args.locks.now))
    c.args.locks.now.cues c.loop-key.key-index (omega (arith, ap length c.cues-key-items.ensures.value)) in
    left_last c.loop-key.invariant (over ∙ sym (c.as_bytes-2.ensures ∙ c.mode_lines.ensures.text)) c.write_bytes-2.ensures
