-- So many rollback steps, and recovery transaction by transaction. Assumes nothing.
use Rattle.std.proofs.Common.{◌≡◌, ℕ, suc, ◌+◌, ◌-◌, ◌<◌, ◌≤◌, List, length, get_or, drop, refl, ◌∙◌, arith, add-one}
use Rattle.std.proofs.lemmas.List.{drop_more}
use Rattle.boosting.specs.Undo.{Entry}
use Rattle.boosting.specs.Store.{Store, transaction}
use Rattle.boosting.specs.Rows.{request, abort, roll_back}
use Rattle.boosting.specs.Step.{step_on}
use Rattle.boosting.specs.Recovery.{roll_backs, recover_one, recover}

pub one_more : (d : Store) (e i n : ℕ) → i < n
    → roll_backs (n - i) d e ≡ roll_backs (n - (i + 1)) (step_on d (request e roll_back)).store e
unfolding roll_backs
one_more d e i n h = let m : n - i ≡ suc (n - (i + 1)) = omega arith in rw m refl

pub no_more : (d : Store) (e i n : ℕ) → n ≤ i → roll_backs (n - i) d e ≡ d
unfolding roll_backs
no_more d e i n h = let m : n - i ≡ 0 = omega arith in rw m

pub one_recovered : (d d' x : Store) (e n : ℕ) (log : List Entry) → x ≡ roll_backs (n + 1) d' e
    → d' ≡ (step_on d (request e abort)).store → n ≡ length log → log ≡ (transaction d e).log → x ≡ recover_one d e
unfolding recover_one
one_recovered d d' x e n log r a p q = r ∙ rw (p, q, add-one, a) refl

pub next : (d : Store) (es : List ℕ) (i x : ℕ) → i < length es
    → recover d (drop i es) ≡ recover (recover_one d (get_or es i x)) (drop (i + 1) es)
unfolding recover
next d es i x h = rw (drop_more es i x h) refl

pub ruleset steps_rules = (one_more, no_more)
