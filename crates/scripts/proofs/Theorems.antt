-- Every script read is sound; written and read it is the same script, and its bytes tell its cues. Assumes nothing.
use mathlib.Core.Path.{◌≡◌, refl, sym, ap, ◌∙◌}
use mathlib.Core.Bool.{Bool, true, false, cond, ◌||◌, or-false}
use mathlib.Core.List.{List, [], ◌∷◌, ◌++◌, map, append_assoc, append-nil}
use Prim.Native.Nat.{ℕ, ◌+◌, ◌*◌, ◌≤◌, ◌<◌}
use native.Mathlib.Omega.{arith}
use lib.Dec.{eqb, ltb}
use lib.ListN.{length, length-append}
use borrow.Author.Tests.{lt-ltb, ltb-true, eqb-true, ne_eqb}
use Rattle.refusals.specs.declared.Refusal.TheVariants.{ScriptFull}
use Rattle.lines.specs.Lines.{lines_of}
use Rattle.lines.proofs.Laws.{lines_append}
use Rattle.cues.specs.Cue.{key_of, cue_of, CueKey}
use Rattle.cue_lines.specs.CueLine.{cue_line_of}
use Rattle.cue_texts.specs.CueText.{cue_body, cue_text}
use Rattle.std.specs.Prelude.{Result, Ok, Err}
use Rattle.refusals.specs.declared.Refusal.{Refusal}
use Rattle.cues.specs.declared.Cue.{Cue}
use Rattle.cues.proofs.Theorems.{key_is_cue_key}
use Rattle.cue_texts.proofs.Theorems.{body_text, cue_line_no_lf, cue_line_short}
use Rattle.cue_lines.proofs.Theorems.{cue_write_then_read, cue_read_is_canonical}
use Rattle.tables.specs.Table.{From, Ordered, member_of, insert_of}
use Rattle.tables.proofs.Laws.{split, Ordered-weaken, length_insert, member_insert, ext_rising}
use Rattle.scripts.specs.Script.{by_key, by_line, onward, read_from, script_of, script_or_empty}
use Rattle.scripts.specs.ScriptText.{text_of}
use Rattle.scripts.specs.Theorems.{
  AllCues,
  SoundScript,
  ReadIsSound,
  WriteThenRead,
  SameBytesSameCues,
  is_cue,
  any_cue,
  AcceptedCues,
  TextFits,
}
use Rattle.scripts.proofs.ReadLaws.{line_ordered, not_long}

-- ---- the longest text
pub text_at_most : (t : List ℕ) → AllCues t → length (text_of t) ≤ 14 * length t
unfolding text_of
text_at_most [] c = omega arith
text_at_most (k ∷ ks) c =
    omega (
      arith,
      length-append (cue_text (cue_of k)) (text_of ks),
      cue_line_short (cue_of k) c.0.in_range,
      text_at_most ks c.1,
    )

pub text_fits : TextFits
text_fits t s = omega (arith, text_at_most t s.in_range, s.at_most)

-- ---- one line: it left the script as it was, or put its cue in
data Grown (k : ℕ) (t u : List ℕ) : Type 0 where
  known : member_of k t ≡ true → u ≡ t → Grown k t u
  new : length t < 256 → u ≡ insert_of k t → Grown k t u

grown : (k : ℕ) (t u : List ℕ) → Ok u ≡ by_key t k → Grown k t u
grown k t u e = by_tests (member_of k t) (ltb (length t) 256) refl refl e
  where
    by_tests : (a b : Bool) → member_of k t ≡ a → ltb (length t) 256 ≡ b
        → Ok u ≡ cond a (Ok t) (cond b (Ok (insert_of k t)) (Err ScriptFull)) → Grown k t u
    by_tests true b m l q = known m (cc)
    by_tests false true m l q = new (ltb-true _ _ l) (cc)
    by_tests false false m l q = let z : ◌≡◌ {A = ℕ} 0 1 = cc in absurd (omega arith)

pub all_insert : (k : ℕ) (t : List ℕ) → CueKey k → AllCues t → AllCues (insert_of k t)
unfolding insert_of
all_insert k [] g c = (g, tt)
all_insert k (x ∷ t) g c =
    split (ltb x k) (λ e. rw e (c.0, all_insert k t g c.1)) (λ e. rw e (g, c))

key_sound : (k : ℕ) (t u : List ℕ) → CueKey k → SoundScript t → Ordered 1 u → Grown k t u → SoundScript u
key_sound k t u g s o (known m e) = rw e s
key_sound k t u g s o (new l e) = record {
  rising = o;
  in_range = rw e (all_insert k t g s.in_range);
  at_most = omega (arith, ap length e, length_insert k t);
}

-- ---- what is read is sound
pub line_sound : (t u l : List ℕ) → SoundScript t → Ok u ≡ by_line t (cue_line_of l) → SoundScript u
line_sound t u l s e = by_line_lem (cue_line_of l) refl e
  where
    by_line_lem : (c : Result Cue Refusal) → cue_line_of l ≡ c → Ok u ≡ by_line t c → SoundScript u
    by_line_lem (Ok c) q f =
        key_sound (key_of c) t u (key_is_cue_key c (cue_read_is_canonical l c q).1) s
        (line_ordered t u (Ok c) s.rising f) (grown (key_of c) t u f)
    by_line_lem (Err r) q f = let z : ◌≡◌ {A = ℕ} 0 1 = cc in absurd (omega arith)

pub empty_sound : SoundScript []
empty_sound = record { rising = tt; in_range = tt; at_most = omega arith }

lines_sound : (ls : List (List ℕ)) (t : List ℕ) (n : ℕ) → SoundScript t → SoundScript (script_or_empty (read_from n t ls))
unfolding read_from
lines_sound [] t n s = s
lines_sound (l ∷ ls) t n s =
    by_read (by_line t (cue_line_of l)) refl (λ u e. lines_sound ls u (n + 1) (line_sound t u l s e))
  where
    by_read : (r : Result (List ℕ) Refusal) → r ≡ by_line t (cue_line_of l)
        → ((u : List ℕ) → Ok u ≡ by_line t (cue_line_of l) → SoundScript (script_or_empty (read_from (n + 1) u ls)))
        → SoundScript (script_or_empty (onward n r (λ u. read_from (n + 1) u ls)))
    by_read (Ok u) e more = more u e
    by_read (Err r) e more = empty_sound

pub read_is_sound : ReadIsSound
unfolding script_of
read_is_sound s =
    split (ltb 65536 (length s)) (λ e. rw e empty_sound)
    (λ e. rw e (lines_sound (lines_of s) [] 1 empty_sound))

-- the keys of a text's script are in order
pub read_in_order : (t s : List ℕ) → Ok t ≡ script_of s → Ordered 0 t
read_in_order t s e =
    let is : t ≡ script_or_empty (script_of s) = ap script_or_empty e in
    let sound = read_is_sound s in
    rw is (Ordered-weaken 1 (script_or_empty (script_of s)) sound.rising)

-- ---- written, then read
pub text_lines : (t : List ℕ) → lines_of (text_of t) ≡ map (λ k. cue_body (cue_of k)) t
unfolding text_of lines_of
text_lines [] = refl
text_lines (k ∷ ks) =
    ap lines_of (body_text (cue_of k) (text_of ks))
    ∙ (lines_append (cue_body (cue_of k)) (text_of ks) (cue_line_no_lf (cue_of k))
    ∙ ap (λ (l : List (List ℕ)). cue_body (cue_of k) ∷ l) (text_lines ks))

-- the next key of a rising list is new to those before it, and its place is behind them
from_next : (b k : ℕ) (u r : List ℕ) → From b (u ++ k ∷ r) → b ≤ k
from_next b k [] r f = f.0
from_next b k (x ∷ u) r f = from_next b k u r f.1

next_new : (k : ℕ) (u r : List ℕ) → Ordered 1 (u ++ k ∷ r) → member_of k u ≡ false
unfolding member_of
next_new k [] r o = refl
next_new k (x ∷ u) r o =
    rw (ne_eqb x k (λ e. omega (arith, from_next (x + 1) k u r o.0))) (next_new k u r o.1)

next_last : (k : ℕ) (u r : List ℕ) → Ordered 1 (u ++ k ∷ r) → insert_of k u ≡ u ++ (k ∷ [])
unfolding insert_of
next_last k [] r o = refl
next_last k (x ∷ u) r o =
    let h : x < k = omega (arith, from_next (x + 1) k u r o.0) in
    rw (lt-ltb x k h) (ap (λ (l : List ℕ). x ∷ l) (next_last k u r o.1))

key_last : (k : ℕ) (u r : List ℕ) → Ordered 1 (u ++ k ∷ r) → length u < 256 → by_key u k ≡ Ok (u ++ (k ∷ []))
key_last k u r o h = rw (next_new k u r o, lt-ltb (length u) 256 h, next_last k u r o)

line_last : (k : ℕ) (u r : List ℕ) → CueKey k → Ordered 1 (u ++ k ∷ r) → length u < 256
    → by_line u (cue_line_of (cue_body (cue_of k))) ≡ Ok (u ++ (k ∷ []))
line_last k u r g o h =
    ap (by_line u) (cue_write_then_read (cue_of k) g.in_range) ∙ (ap (by_key u) g.is_key ∙ key_last k u r o h)

lines_read : (t u : List ℕ) (n : ℕ) → AllCues t → Ordered 1 (u ++ t) → length (u ++ t) ≤ 256
    → read_from n u (map (λ k. cue_body (cue_of k)) t) ≡ Ok (u ++ t)
unfolding read_from
lines_read [] u n c o h = ap Ok (sym (append-nil u))
lines_read (k ∷ ks) u n c o h =
    let e : (u ++ (k ∷ [])) ++ ks ≡ u ++ k ∷ ks = append_assoc u (k ∷ []) ks in
    let l : length u < 256 = omega (arith, length-append u (k ∷ ks)) in
    rw (line_last k u ks c.0 o l)
    (lines_read ks (u ++ (k ∷ [])) (n + 1) c.1 (rw e o) (rw e h) ∙ ap Ok e)

pub write_then_read : WriteThenRead
write_then_read t s =
    not_long (text_of t) (omega (arith, text_fits t s))
    ∙ (ap (read_from 1 []) (text_lines t) ∙ lines_read t [] 1 s.in_range s.rising s.at_most)

-- ---- equal bytes exactly where the cues are equal
pub text_one_to_one : (t u : List ℕ) → SoundScript t → SoundScript u → text_of t ≡ text_of u → t ≡ u
text_one_to_one t u s v e =
    ap script_or_empty (sym (write_then_read t s) ∙ (ap script_of e ∙ write_then_read u v))

pub same_bytes_same_cues : SameBytesSameCues
same_bytes_same_cues t u s v = (
  (λ e k. ap (member_of k) (text_one_to_one t u s v e)),
  (λ f. ap text_of (ext_rising t u s.rising v.rising f)),
)

-- ---- the cues of an accepted text are those of its lines
key_member : (j k : ℕ) (t u : List ℕ) → Grown k t u → member_of j u ≡ (eqb k j || member_of j t)
key_member j k t u (new l e) = ap (member_of j) e ∙ member_insert j k t
key_member j k t u (known m e) =
    ap (member_of j) e
    ∙ split (eqb k j) (λ q. rw q (ap (λ (x : ℕ). member_of x t) (sym (eqb-true k j q)) ∙ m)) (λ q. rw q)

line_member : (j : ℕ) (t u : List ℕ) (c : Result Cue Refusal) → Ok u ≡ by_line t c → member_of j u ≡ (is_cue j c || member_of j t)
line_member j t u (Ok c) e = key_member j (key_of c) t u (grown (key_of c) t u e)
line_member j t u (Err r) e = let z : ◌≡◌ {A = ℕ} 0 1 = cc in absurd (omega arith)

lines_member : (ls : List (List ℕ)) (t v : List ℕ) (n j : ℕ) → read_from n t ls ≡ Ok v
    → member_of j v ≡ (any_cue j ls || member_of j t)
unfolding read_from any_cue
lines_member [] t v n j a = let e : t ≡ v = cc in ap (member_of j) (sym e)
lines_member (l ∷ ls) t v n j a = by_read (by_line t (cue_line_of l)) refl a (λ u. lines_member ls u v (n + 1) j)
  where
    either : (a b c : Bool) → (a || (b || c)) ≡ (b || a || c)
    either true true c = refl
    either true false c = refl
    either false true c = refl
    either false false c = refl

    by_read : (r : Result (List ℕ) Refusal) → r ≡ by_line t (cue_line_of l)
        → onward n r (λ u. read_from (n + 1) u ls) ≡ Ok v
        → ((u : List ℕ) → read_from (n + 1) u ls ≡ Ok v → member_of j v ≡ (any_cue j ls || member_of j u))
        → member_of j v ≡ (is_cue j (cue_line_of l) || any_cue j ls || member_of j t)
    by_read (Ok u) e b more =
        more u b
        ∙ (ap (λ (x : Bool). any_cue j ls || x) (line_member j t u (cue_line_of l) e)
        ∙ either (any_cue j ls) (is_cue j (cue_line_of l)) (member_of j t))
    by_read (Err r) e b more = let z : ◌≡◌ {A = ℕ} 0 1 = cc in absurd (omega arith)

pub accepted_cues : AcceptedCues
unfolding script_of member_of
accepted_cues s t k =
    split (ltb 65536 (length s))
    (λ e. rw e (λ a. let z : ◌≡◌ {A = ℕ} 0 1 = cc in absurd (omega arith)))
    (λ e. rw e (λ a. lines_member (lines_of s) [] t 1 k a ∙ or-false (any_cue k (lines_of s))))
