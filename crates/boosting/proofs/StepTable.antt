-- The table of steps: what an accepted begin, commit, abort and rollback step leave. Assumes nothing.
use Prim.Native.Nat.{ℕ}
use mathlib.Core.Path.{◌≡◌, refl}
use native.Mathlib.Omega.{arith}
use Rattle.answers.specs.declared.Answer.{Answer}
use Rattle.boosting.specs.Object.{State}
use Rattle.boosting.specs.Store.{Transaction, Store, put}
use Rattle.boosting.specs.Rows.{Action, begin, commit, abort, roll_back, request}
use Rattle.boosting.specs.Step.{perform, step_on}
use Rattle.boosting.specs.Sound.{Sound}
use Rattle.boosting.specs.Theorems.{Leaves, StepTableHolds}
use Rattle.boosting.proofs.StoreLaws.{put_same, put_other}
use Rattle.boosting.proofs.Accepted.{Accepts, accepted_valid, step_accepted}

module _ (d : Store) (e : ℕ) (v : Sound d) where
  -- an accepted step that puts one state and one transaction
  leaves : (a : Action) → Accepts d e a → (r : Answer) (s : State) (t : Transaction)
      → perform d e a ≡ record { store = put d s e t; answer = r } → Leaves d e (step_on d (request e a)) r s t
  unfolding put
  leaves a h r s t p =
      rw (step_accepted d e a h, p) (grind (arith, put_same, put_other, v.eight, accepted_valid d e a h))

pub step_table_holds : StepTableHolds
unfolding perform
step_table_holds d e v = record {
  begins = λ h. leaves d e v begin h _ _ _ refl;
  commits = λ h. leaves d e v commit h _ _ _ refl;
  aborts = λ h. leaves d e v abort h _ _ _ refl;
  rolls_back_none = λ h l. leaves d e v roll_back h _ _ _ (rw l refl);
  rolls_back_last = λ n h l. leaves d e v roll_back h _ _ _ (rw l refl);
  rolls_back_newest = λ n m log h l. leaves d e v roll_back h _ _ _ (rw l refl);
}
