-- A store that is opened: the keys of the script read, an empty queue, eight closed transactions. Assumes nothing.
use Rattle.std.proofs.Common.{◌≡◌, ℕ, List, [], replicate, sym, ap, subst, ◌∙◌, arith}
use Rattle.std.specs.Prelude.{Result, Ok}
use Rattle.refusals.specs.declared.RefusedText.{RefusedText}
use Rattle.tables.specs.Table.{Ordered}
use Rattle.scripts.specs.Script.{script_of, script_or_empty}
use Rattle.scripts.proofs.Theorems.{read_in_order}
use Rattle.boosting.specs.Object.{State}
use Rattle.boosting.specs.Store.{Transaction, closed_transaction, started, opened}
use Rattle.boosting.specs.Sound.{Sound}
use Rattle.boosting.proofs.Theorems.{opened_is_sound}
use Rattle.boosting.proofs.Sound.{keys_sound}

-- the store of the empty script
pub new_is : (s : State) (ts : List Transaction) → s ≡ started [] → ts ≡ replicate 8 closed_transaction
    → record { state = s; transactions = ts } ≡ opened []
unfolding opened
new_is s ts q r = λ i. record { state = q i; transactions = r i }

empty_sound : Sound (opened [])
empty_sound = keys_sound [] (record { rising = tt; in_range = tt; at_most = omega arith })

pub new-Sound : (s : State) (ts : List Transaction) → s ≡ started [] → ts ≡ replicate 8 closed_transaction
    → Sound (record { state = s; transactions = ts })
new-Sound s ts q r = subst Sound (sym (new_is s ts q r)) empty_sound

-- the keys of an accepted script, and none of a refused one
pub accepted_keys : (r : Result (List ℕ) RefusedText) (keys script : List ℕ) → keys ≡ script → Ok script ≡ r
    → keys ≡ script_or_empty r
accepted_keys r keys script p q = p ∙ ap script_or_empty q

-- those of a script that was read are in order
pub keys_in_order : (keys script text : List ℕ) → keys ≡ script → Ok script ≡ script_of text → Ordered 0 keys
keys_in_order keys script text p is = rw p (read_in_order script text is)

-- the store of a text, whose script these keys are
module _ (s : State) (ts : List Transaction) (keys text : List ℕ) (q : s ≡ started keys)
    (r : ts ≡ replicate 8 closed_transaction) (is : keys ≡ script_or_empty (script_of text)) where
  pub opened_is : record { state = s; transactions = ts } ≡ opened (script_or_empty (script_of text))
  unfolding opened
  opened_is = λ i. record { state = (q ∙ ap started is) i; transactions = r i }

  opened-Sound : Sound (record { state = s; transactions = ts })
  opened-Sound = subst Sound (sym opened_is) (opened_is_sound text)

pub accepted-Sound : (s : State) (ts : List Transaction) (keys script text : List ℕ) → s ≡ started keys
    → ts ≡ replicate 8 closed_transaction → keys ≡ script → Ok script ≡ script_of text → Sound (record { state = s; transactions = ts })
accepted-Sound s ts keys script text q r p is =
    opened-Sound s ts keys text q r (accepted_keys (script_of text) keys script p is)
