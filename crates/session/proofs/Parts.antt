-- Laws of printing: a text that a writer had room for, and a text in two parts. Assumes nothing.
use mathlib.Core.Path.{◌≡◌, refl, sym, ap, ◌∙◌}
use mathlib.Core.Bool.{Bool, true, false}
use mathlib.Core.List.{List, ◌++◌}
use Prim.Native.Nat.{ℕ, ◌+◌, ◌-◌, ◌≤◌}
use native.Mathlib.Omega.{arith}
use lib.ListN.{length, length-append}
use lib.Seq.{sets, length-sets}
use Rattle.std.specs.Prelude.{Result, if◌then◌else◌}
use Rattle.std.specs.Result.{result_unwrap_or}
use Rattle.refusals.specs.declared.Refusal.{Refusal}
use Rattle.buffers.specs.Written.{written_at}
use Rattle.buffers.proofs.Laws.{sets-append, written_back}
use Rattle.short_answers.specs.Appended.{appended_at}
use Rattle.session.specs.Printing.{HasRoom, HoldsOneLine, Printed}

-- a writer that had room printed the text
pub appended : (keep : Bool) (buf mid text : List ℕ) (at end : ℕ) → keep ≡ true → HasRoom keep buf at text
    → (end, mid) ≡ appended_at buf at text → Printed keep buf at text end mid
appended keep buf mid text at end k h e =
    let w = written_back _ buf _ text at (h.in_buffer k) refl in
    record {
      place = ap (λ (p : ℕ × List ℕ). p.0) e ∙ ap (λ (x : Result ℕ Refusal). result_unwrap_or x at) w.0;
      stored = λ t. ap (λ (p : ℕ × List ℕ). p.1) e ∙ w.1;
    }

pub by_writer : (keep : Bool) (buf mid text : List ℕ) (r : Result ℕ Refusal) (at end : ℕ) → keep ≡ true
    → HasRoom keep buf at text → (r, mid) ≡ written_at buf at text → end ≡ result_unwrap_or r at
    → Printed keep buf at text end mid
by_writer keep buf mid text r at end k h e u =
    let w = written_back r buf mid text at (h.in_buffer k) e in
    record { place = u ∙ ap (λ (x : Result ℕ Refusal). result_unwrap_or x at) w.0; stored = λ t. w.1 }

-- what is kept leaves a buffer of the same length
pub as_long : (keep : Bool) (buf mid text : List ℕ) (at end : ℕ) → keep ≡ true → Printed keep buf at text end mid
    → length mid ≡ length buf
as_long keep buf mid text at end k p = ap length (p.stored k) ∙ length-sets buf at text

-- an answer's line that had room: it was kept behind the others, or counted over the last one
module _ (keep : Bool) (buf mid text : List ℕ) (at end : ℕ) (few : length text ≤ 72) (h : HasRoom keep buf at text)
    (l : HoldsOneLine keep buf) where
  abbrev pub place_of : ℕ
  place_of = if keep then at else 0

  pub at_end : (place : ℕ) → keep ≡ true → place ≡ at → place ≡ place_of
  at_end place k q = q ∙ rw k refl

  pub in_front : (place : ℕ) → keep ≡ false → place ≡ 0 → place ≡ place_of
  in_front place k q = q ∙ rw k refl

  line_room : HasRoom true buf place_of text
  line_room = by_keep keep h l
    where
      by_keep : (k : Bool) → HasRoom k buf at text → HoldsOneLine k buf
          → HasRoom true buf (if k then at else 0) text
      by_keep true r o = r
      by_keep false r o = record { in_count = omega (arith, r.in_count); in_buffer = λ k. omega (arith, few, o refl) }

  module _ (place : ℕ) (q : place ≡ place_of) (e : (end, mid) ≡ appended_at buf place text) where
    put : Printed true buf place text end mid
    put = appended true buf mid text place end refl (rw q line_room) e

    pub behind : end ≡ place + length text
    behind = put.place

    pub line_long : length mid ≡ length buf
    line_long = as_long true buf mid text place end refl put

    pub answered : (last : ℕ) → last ≡ at + (end - place) → Printed keep buf at text last mid
    answered last m = record {
      place = omega (arith, m, behind);
      stored = λ t. put.stored refl ∙ ap (λ (n : ℕ). sets buf n text) (q ∙ rw t refl);
    }

-- a text in two parts
module _ (keep : Bool) (buf u v all : List ℕ) (at : ℕ) (q : all ≡ u ++ v) where
  both : length all ≡ length u + length v
  both = ap length q ∙ length-append u v

  pub first_room : HasRoom keep buf at all → HasRoom keep buf at u
  first_room h = record {
    in_count = omega (arith, both, h.in_count);
    in_buffer = λ k. omega (arith, both, h.in_buffer k);
  }

  module _ (mid : List ℕ) (middle : ℕ) (p : Printed keep buf at u middle mid) where
    pub rest_room : HasRoom keep buf at all → HasRoom keep mid middle v
    rest_room h = record {
      in_count = omega (arith, both, p.place, h.in_count);
      in_buffer = λ k. omega (arith, both, p.place, h.in_buffer k, as_long keep buf mid u at middle k p);
    }

    pub both_printed : (after : List ℕ) (end : ℕ) → Printed keep mid middle v end after
        → Printed keep buf at all end after
    both_printed after end r = record {
      place = omega (arith, both, p.place, r.place);
      stored = λ k. r.stored k ∙ rw (p.place, p.stored k, q) (sym (sets-append u v buf at));
    }
