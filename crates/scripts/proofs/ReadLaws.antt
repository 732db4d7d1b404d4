-- Laws of reading a script, a key and a line at a time. Assumes nothing.
use mathlib.Core.Path.{◌≡◌, refl, ap, ◌∙◌}
use mathlib.Core.Bool.{Bool, true, false, cond}
use mathlib.Core.List.{List, [], ◌∷◌}
use Prim.Native.Nat.{ℕ, ◌+◌, ◌≤◌, ◌<◌}
use native.Mathlib.Omega.{arith}
use lib.Dec.{ltb}
use lib.ListN.{length}
use borrow.Author.Tests.{ltb-true, ltb-false, lt-ltb, le-ltb}
use Rattle.std.proofs.lemmas.Bool.{both_ways}
use Rattle.refusals.specs.declared.Refusal.{Refusal}
use Rattle.refusals.specs.declared.Refusal.TheVariants.{ScriptFull, TextTooLong}
use Rattle.lines.specs.Lines.{lines_of}
use Rattle.cues.specs.Cue.{key_of}
use Rattle.cue_lines.specs.CueLine.{cue_line_of}
use Rattle.tables.specs.Table.{Ordered, member_of, insert_of, put_once_of}
use Rattle.tables.proofs.Laws.{split, length_insert, insert_ordered, Apart-new}
use Rattle.std.specs.Prelude.{Result, Ok, Err, is_ok, MatchResult}
use Rattle.refusals.specs.declared.RefusedText.{RefusedText}
use Rattle.cues.specs.declared.Cue.{Cue}
use Rattle.scripts.specs.Script.{by_key, by_line, refused_at, read_from, script_of}
use Rattle.scripts.specs.Taken.{taken}

-- ---- one key
pub key_full : (t : List ℕ) (k : ℕ) → 256 ≤ length t → member_of k t ≡ false → Err ScriptFull ≡ by_key t k
key_full t k h e = rw (e, le-ltb (length t) 256 h) refl

-- where a full table has the key, one without it has room
short : (t : List ℕ) (k : ℕ) → length t ≤ 256 → (length t ≡ 256 → member_of k t ≡ true) → member_of k t ≡ false
    → length t < 256
short t k h there e =
    split (ltb (length t) 256) (λ q. ltb-true _ _ q)
    (λ q.
    let full : length t ≡ 256 = omega (arith, h, ltb-false _ _ q) in
    absurd (both_ways _ e (there full)))

-- a key that is there, or finds room, is put in once
pub key_taken : (t : List ℕ) (k : ℕ) → length t ≤ 256 → (length t ≡ 256 → member_of k t ≡ true) → Ok (put_once_of k t) ≡ by_key t k
unfolding put_once_of
key_taken t k h there =
    split (member_of k t) (λ e. rw e refl)
    (λ e. rw (e, lt-ltb (length t) 256 (short t k h there e)) refl)

-- and so there is room for it
pub key_room : (t : List ℕ) (k : ℕ) → length t ≤ 256 → (length t ≡ 256 → member_of k t ≡ true) → length (put_once_of k t) ≤ 256
unfolding put_once_of
key_room t k h there =
    split (member_of k t) (λ e. rw e h)
    (λ e. rw e (omega (arith, length_insert k t, short t k h there e)))

pub ruleset key_rules = (key_full, key_taken, key_room)

-- ---- one line
key_ordered : (t u : List ℕ) (k : ℕ) → Ordered 1 t → Ok u ≡ by_key t k → Ordered 1 u
key_ordered t u k o e = by_tests (member_of k t) (ltb (length t) 256) refl e
  where
    by_tests : (a b : Bool) → member_of k t ≡ a
        → Ok u ≡ cond a (Ok t) (cond b (Ok (insert_of k t)) (Err ScriptFull)) → Ordered 1 u
    by_tests true b m q = let p : u ≡ t = cc in rw p o
    by_tests false true m q =
        let p : u ≡ insert_of k t = cc in
        rw p (insert_ordered 1 k t (omega arith) (Apart-new k t m) o)
    by_tests false false m q = let z : ◌≡◌ {A = ℕ} 0 1 = cc in absurd (omega arith)

pub line_ordered : (t u : List ℕ) (l : Result Cue Refusal) → Ordered 1 t → Ok u ≡ by_line t l → Ordered 1 u
line_ordered t u (Ok c) o e = key_ordered t u (key_of c) o e
line_ordered t u (Err r) o e = let z : ◌≡◌ {A = ℕ} 0 1 = cc in absurd (omega arith)

-- what a line left in the table, where it was taken in; and the refusal, with the line's number, where it was not
pub line_taken : (r : Result (Unit {0}) Refusal) (t : List ℕ) (x : Result (List ℕ) Refusal) → true ≡ is_ok r
    → taken r t ≡ x → Ok t ≡ x
line_taken (Ok done) t x o e = e
line_taken (Err why) t x o e = cc

pub line_refused : (r : Result (Unit {0}) Refusal) (t : List ℕ) (x : Result (List ℕ) Refusal) (why : RefusedText) (n : ℕ)
    (Q : Refusal → Type 0) → MatchResult r (λ done. ◌≡◌ {A = Result (Unit {0}) RefusedText} (Err why) (Ok done)) Q
    → ((e : Refusal) → Q e → why ≡ record { refusal = e; line = n })
    → taken r t ≡ x → (Err why.refusal ≡ x) × (why.line ≡ n)
line_refused (Ok done) t x why n Q m q e = cc
line_refused (Err refusal) t x why n Q m q e =
    (ap (λ (w : RefusedText). Err w.refusal) (q refusal m) ∙ e, ap (λ (w : RefusedText). w.line) (q refusal m))

-- ---- the next line of a text
pub read_on_lem : (n : ℕ) (t u l : List ℕ) (ls : List (List ℕ)) → Ok u ≡ by_line t (cue_line_of l)
    → read_from (n + 1) u ls ≡ read_from n t (l ∷ ls)
unfolding read_from
read_on_lem n t u l ls e = rw (← e)

pub read_refused : (n : ℕ) (t l : List ℕ) (ls : List (List ℕ)) (r : Refusal) → Err r ≡ by_line t (cue_line_of l)
    → refused_at n r ≡ read_from n t (l ∷ ls)
unfolding read_from
read_refused n t l ls r e = rw (← e)

pub read_end : (n : ℕ) (t : List ℕ) → Ok t ≡ read_from n t []
unfolding read_from
read_end n t = refl

-- ---- the whole text
pub too_long : (s : List ℕ) → 65536 < length s → refused_at 0 TextTooLong ≡ script_of s
unfolding script_of
too_long s h = rw (lt-ltb _ _ h)

pub not_long : (s : List ℕ) → length s ≤ 65536 → script_of s ≡ read_from 1 [] (lines_of s)
unfolding script_of
not_long s h = rw (le-ltb _ _ h)

pub ruleset text_rules = (too_long, not_long)
