use Rattle.std.proofs.Common.{◌≡◌, refl, ◌∙◌, length, arith}
use mathlib.Core.Logic.{inl, inr}
use Rattle.std.proofs.lemmas.Bool.{le-leb, lt-leb}
use Rattle.boosting.specs.Store.{transaction}
use Rattle.boosting.specs.Rows.{first_met}
use Rattle.admission.specs.Answers.{store_of}
use Rattle.admission.proofs.Rows as laws
use Rattle.admission.proofs.try_entry.Goals as goal
use Rattle.admission.proofs.try_entry.Goals.{After-len}

log : (c : After-len)
    → (transaction (store_of c.args.object.now c.args.transactions.now) c.args.e).log ≡ c.log.result.now
log c = search (laws.log_at, arith)

pub returns-in_default : goal.returns-in_default
unfolding first_met
returns-in_default c = rw c.in_default.is refl

pub returns-then-len-ge16 : goal.returns-then-len-ge16
unfolding first_met
returns-then-len-ge16 c =
    let full = le-leb 16 (length c.log.result.now) (omega arith) in
    rw (c.in-Some.is, log (goal.at.returns-then-len-ge16 c).After-len, full) refl

pub returns-in-Added : goal.returns-in-Added
unfolding first_met
returns-in-Added c =
    let room = lt-leb 16 (length c.log.result.now) (omega arith) in
    c.refused_when.ensures
    ∙ rw (c.in-Some.is, c.in-Added.is, log (goal.at.returns-in-Added c).After-len, room, ← c.script_full.ensures)
    (laws.one_row _ _ _ _ refl)

pub returns-in-Pushed : goal.returns-in-Pushed
unfolding first_met
returns-in-Pushed c =
    let room = lt-leb 16 (length c.log.result.now) (omega arith) in
    c.refused_when-in-Pushed.ensures
    ∙ rw (c.in-Some.is, c.in-Pushed.is, log (goal.at.returns-in-Pushed c).After-len, room, ← c.queue.ensures.value, ← c.queue_full.ensures)
    (laws.one_row _ _ _ _ refl)

pub returns-in-Removed : goal.returns-in-Removed
unfolding first_met
returns-in-Removed c =
    let room = lt-leb 16 (length c.log.result.now) (omega arith) in
    rw (c.in-Some.is, log (goal.at.returns-in-Removed c).After-len, room)
    (elim c.in-Removed.is [ inl p ↦ rw p.1 refl | inr p ↦ rw p.1 refl ])
