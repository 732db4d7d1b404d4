use Rattle.std.proofs.Common.{◌≡◌, Err, Ok, refl, ap, ◌∙◌, arith}
use Rattle.std.proofs.lemmas.Result.{err_from_is_err_and}
use Rattle.boosting.specs.Undo.{entry_of}
use Rattle.boosting.specs.Store.{Store, transaction}
use Rattle.boosting.specs.Rows.{call_rows, first_met}
use Rattle.admission.specs.Answers.{room_rows, store_of}
use Rattle.admission.proofs.Rows as laws
use Rattle.admission.proofs.try_call.Goals as goal
use Rattle.admission.proofs.try_call.Goals.{After-is_full, After-try_entry}

locks : (c : After-is_full)
    → (transaction (store_of c.args.object.now c.args.transactions.now) c.args.e).locks ≡ c.locks.result.now
locks c = search (laws.locks_at, arith)

pub returns-in-Some : goal.returns-in-Some
unfolding first_met
returns-in-Some c =
    let blocked = rw c.from.ensures at c.in-Some.ensures.first in
    rw (← c.lock_of-lock.ensures, ← blocked) refl

pub returns-then-is_full : goal.returns-then-is_full
unfolding first_met
returns-then-is_full c =
    let held = locks (goal.at.returns-then-is_full c).After-is_full in
    let free = rw c.from.ensures at c.in_default.ensures.first in
    rw (← c.lock_of-lock.ensures, ← free, held, ← c.if-is_full.ensures) refl

rest : (c : After-try_entry)
    → let d : Store = store_of c.args.object.now c.args.transactions.now in
    first_met (call_rows d c.args.e c.args.call) ≡ first_met (room_rows d c.args.e c.entry_of.result)
rest c =
    let held = locks (goal.at.After-try_entry c).After-is_full in
    let noted = c.entry_of.ensures ∙ ap (entry_of c.args.call) c.reply-reply.ensures in
    let free = rw c.from.ensures at c.in_default.ensures.first in
    laws.behind _ _ c.args.call _ c.lock_of-lock.ensures free _ held c.if-is_full.ensures _ noted

pub returns-in_err-try_entry : goal.returns-in_err-try_entry
returns-in_err-try_entry c =
    let p = err_from_is_err_and c.from_residual.result c.from_residual.ensures.1 in
    let row = laws.admitted-Err _ _ _ c.in_err-try_entry.ensures in
    p.1 ∙ ap Err p.2 ∙ rw (rest (goal.at.returns-in_err-try_entry c).After-try_entry, row) refl

pub returns : goal.returns
returns c =
    let none = laws.admitted-Ok _ _ _ c.in_ok-try_entry.ensures in
    ap Ok c.reply-reply.ensures ∙ rw (rest (goal.at.returns c).After-try_entry, none) refl
