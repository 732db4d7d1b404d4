-- Laws of the lines from a reader's place on. Assumes nothing.
use Rattle.std.proofs.Common.{◌≡◌, ℕ, suc, ◌+◌, ◌≤◌, nat_eq, Bool, true, false, cond, List, [], ◌∷◌, length, Bor}
use Rattle.std.proofs.Common.{ap, arith}
use Rattle.lines.specs.declared.Line.{Line}
use Rattle.lines.specs.Line.{FirstLine}
use Rattle.lines.specs.Lines.{onto, lines_of}
use Rattle.line_reader.specs.declared.LineReader.{LineReader}
use Rattle.line_reader.specs.Reader.{TookLine}

pub took : (before after : LineReader) (line : Line) → FirstLine before.text.now before.at line
    → after.text ≡ before.text → after.at ≡ line.next → TookLine before after line
took before after line f t p = record {
  is_first = rw (p, ap (λ (b : Bor (List ℕ)). b.now) t) f.is_first;
  place = f.place;
  within = f.within;
  same_text = t;
  goes_on = p;
}

-- ---- a text has no more lines than bytes
onto_at_most : (b : ℕ) (ls : List (List ℕ)) → length (onto b ls) ≤ length ls + 1
unfolding onto
onto_at_most b [] = omega arith
onto_at_most b (l ∷ ls) = omega arith

pub lines_at_most : (s : List ℕ) → length (lines_of s) ≤ length s
unfolding lines_of
lines_at_most [] = omega arith
lines_at_most (b ∷ bs) = by_test (nat_eq b 10) (lines_at_most bs)
  where
    by_test : (t : Bool) → length (lines_of bs) ≤ length bs
        → length (cond t ([] ∷ lines_of bs) (onto b (lines_of bs))) ≤ suc (length bs)
    by_test true h = omega arith
    by_test false h = omega (arith, onto_at_most b (lines_of bs))
