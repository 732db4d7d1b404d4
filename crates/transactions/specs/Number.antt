-- The transaction that a number names. Assumes nothing.
use Rattle.std.specs.Prelude.{ℕ, ◌≡◌, if◌then◌else◌, Result, Ok, Err}
use Rattle.refusals.specs.declared.Refusal.{Refusal}
use Rattle.refusals.specs.declared.Refusal.TheVariants.{TransactionOutOfRange}
use Rattle.boosting.specs.Store.{valid}

-- the number where it is one of the eight; else the row that it meets
abbrev pub numbered : ℕ → Result ℕ Refusal
numbered e = if valid e then Ok e else Err TransactionOutOfRange

abbrev pub GivesNumber : ℕ → Result ℕ Refusal → Type 0
GivesNumber e r = r ≡ numbered e
