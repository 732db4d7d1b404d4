-- A number at the front of a part of a text stands at the part's place. Assumes nothing.
use Prim.Native.Nat.{ℕ, ◌+◌, ◌-◌, ◌≤◌}
use mathlib.Core.Path.{◌≡◌, sym, ap, ◌∙◌}
use mathlib.Core.List.{List}
use native.Mathlib.Omega.{arith}
use lib.ListN.{length, take, drop}
use lib.Seq.{take-take}
use Rattle.numbers.specs.Number.{number_of}
use Rattle.quick_numbers.specs.declared.Short.{Short}
use Rattle.quick_numbers.specs.Short.{short_of, ShortFits}
use Rattle.std.specs.Prelude.{Option, Some, None}
use Rattle.quick_numbers.proofs.Laws.{short_fits}

pub in_text : (s : List ℕ) (at end most window : ℕ) (r : Option Short) → at + most ≤ end → end ≤ length s
    → r ≡ short_of most window (take (end - at) (drop at s)) → ShortFits s at most r
in_text s at end most window r m l e =
    let part = take (end - at) (drop at s) in
    let fits : ShortFits part 0 most r = rw e (short_fits part 0 most window) in
    by_case r fits
  where
    by_case : (q : Option Short) → ShortFits (take (end - at) (drop at s)) 0 most q → ShortFits s at most q
    by_case None f = tt
    by_case (Some q) f =
        let few : q.digits ≤ most = f.few in
        let part_number = f.number in
        record {
          some = f.some;
          few = few;
          within = omega arith;
          number = ap number_of (sym (take-take q.digits (end - at) (drop at s) (omega arith))) ∙ part_number;
        }
