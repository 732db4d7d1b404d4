-- Laws of the table of words: the guess is right for each word, a masked number tells the word, and so what a look
-- finds; and that the word found stands there. Assumes nothing.
use Prim.Native.Nat.{ℕ, zero, suc, ◌+◌, ◌*◌, ◌-◌, ◌/◌, ◌%◌, ◌^◌, ◌≤◌, ◌<◌}
use mathlib.Core.Path.{◌≡◌, refl, sym, ap, ap₂, subst, ◌∙◌}
use mathlib.Core.Bool.{Bool, true, false, ◌&&◌, cond}
use mathlib.Core.List.{List, [], ◌∷◌}
use native.Mathlib.Nat.{pow-suc}
use native.Mathlib.Omega.{arith}
use lib.Bits.{bit_and, and_mask}
use lib.Pow.{pow-add}
use lib.Dec.{ltb, leb}
use lib.ListN.{length, get_or, take, drop, length-drop}
use lib.Seq.{take-take, length-take-le}
use borrow.Author.Tests.{ltb-true, leb-true, le-leb, lt-leb}
use Rattle.std.proofs.lemmas.List.{get_or-map}
use Rattle.std.proofs.lemmas.Slice.Eq.{bytes_eq-Decides}
use Rattle.std.specs.Prelude.{Option, Some, None, find}
use Rattle.std.specs.Option.{option_map}
use Rattle.lines.specs.Standing.{Stands}
use Rattle.step_words.specs.declared.CueWord.TheVariants.{Add, Remove, Has, Push}
use Rattle.step_words.specs.declared.NumberWord.TheVariants.{Min, Take, Begin, Commit, Undo, Back}
use Rattle.step_words.specs.declared.Word.{Word}
use Rattle.step_words.specs.declared.Word.TheVariants.{WithNumber, WithCue}
use Rattle.step_words.specs.Word.{words}
use Rattle.step_words.proofs.WordText.{found}
use Rattle.eight_bytes.specs.Eight.{number_from, AllBytes, eight_at}
use Rattle.eight_bytes.proofs.Laws.{eight_found, eight_none, low_bytes, number_take}
use Rattle.quick_words.specs.declared.QuickWord.{QuickWord}
use Rattle.quick_words.specs.declared.Row.{Row}
use Rattle.quick_words.specs.QuickWord.{begins, with_length, word_found}
use Rattle.quick_words.specs.Row.{word_line, row_of, slots, table_rows}

-- a fact of each word, computed
each_word : (test : Word → Bool) → test (WithNumber Begin) ≡ true → test (WithNumber Min) ≡ true
    → test (WithNumber Take) ≡ true → test (WithNumber Commit) ≡ true → test (WithNumber Undo) ≡ true
    → test (WithNumber Back) ≡ true → test (WithCue Add) ≡ true → test (WithCue Remove) ≡ true
    → test (WithCue Has) ≡ true → test (WithCue Push) ≡ true → (w : Word) → test w ≡ true
each_word test b m t c u k a r h p (WithNumber Begin) = b
each_word test b m t c u k a r h p (WithNumber Min) = m
each_word test b m t c u k a r h p (WithNumber Take) = t
each_word test b m t c u k a r h p (WithNumber Commit) = c
each_word test b m t c u k a r h p (WithNumber Undo) = u
each_word test b m t c u k a r h p (WithNumber Back) = k
each_word test b m t c u k a r h p (WithCue Add) = a
each_word test b m t c u k a r h p (WithCue Remove) = r
each_word test b m t c u k a r h p (WithCue Has) = h
each_word test b m t c u k a r h p (WithCue Push) = p

both : (a b : Bool) → a && b ≡ true → (a ≡ true) × (b ≡ true)
both true b e = (refl, e)
both false b e = absurd (cc)

-- ---- each word with its comma has from two to seven bytes
abbrev bytes_test : List ℕ → Bool
bytes_test [] = true
bytes_test (b ∷ l) = ltb b 256 && bytes_test l

all_bytes : (l : List ℕ) → bytes_test l ≡ true → AllBytes l
all_bytes [] e = tt
all_bytes (b ∷ l) e = let p = both (ltb b 256) (bytes_test l) e in (ltb-true b 256 p.0, all_bytes l p.1)

line_bytes : (w : Word) → AllBytes (word_line w)
line_bytes w =
    all_bytes (word_line w)
    (each_word (λ v. bytes_test (word_line v)) refl refl refl refl refl refl refl refl refl refl w)

line_some : (w : Word) → 2 ≤ length (word_line w)
line_some w =
    leb-true 2 _ (each_word (λ v. leb 2 (length (word_line v))) refl refl refl refl refl refl refl refl refl refl w)

pub line_few : (w : Word) → length (word_line w) ≤ 7
line_few w =
    leb-true _ 7 (each_word (λ v. leb (length (word_line v)) 7) refl refl refl refl refl refl refl refl refl refl w)

-- ---- the guess: the word of the slot of a number
abbrev slot : ℕ → ℕ
slot x = (x / 2 + x / 256) % 16

abbrev guess : ℕ → Word
guess x = get_or slots (slot x) (WithNumber Begin)

-- from the first two bytes of each word that word is guessed
right : (w : Word) → guess (number_from (take 2 (word_line w))) ≡ w
right (WithNumber Begin) = refl
right (WithNumber Min) = refl
right (WithNumber Take) = refl
right (WithNumber Commit) = refl
right (WithNumber Undo) = refl
right (WithNumber Back) = refl
right (WithCue Add) = refl
right (WithCue Remove) = refl
right (WithCue Has) = refl
right (WithCue Push) = refl

sixteens : (q a b : ℕ) → (32768 * q + a + (256 * q + b)) % 16 ≡ (a + b) % 16
sixteens q a b = omega arith

-- only the low two bytes count
slot_low : (x : ℕ) → slot x ≡ slot (x % 65536)
slot_low x =
    let q = x / 65536 in
    let a : x / 2 ≡ 32768 * q + x % 65536 / 2 = omega arith in
    let b : x / 256 ≡ 256 * q + x % 65536 / 256 = omega arith in
    ap (λ (z : ℕ). z % 16) (ap₂ ◌+◌ a b) ∙ sixteens q (x % 65536 / 2) (x % 65536 / 256)

-- ---- the comparison
byte_power : (n : ℕ) → 256 ^ n ≡ 2 ^ (8 * n)
byte_power zero = refl
byte_power (suc n) =
    let e : 8 * n + 8 ≡ 8 * suc n = omega arith in
    pow-suc 256 n
    ∙ (ap (λ (x : ℕ). x * 256) (byte_power n) ∙ (sym (pow-add 2 (8 * n) 8) ∙ ap (λ (x : ℕ). 2 ^ x) e))

begins_text : (l : List ℕ) (w : Word) → begins l w ≡ true → take (length (word_line w)) l ≡ word_line w
begins_text l w e = sym ((bytes_eq-Decides (word_line w) (take (length (word_line w)) l)).0 e)

-- eight bytes at the front of a list, as one number
module _ (l : List ℕ) (x : ℕ) (v : x ≡ number_from (take 8 l)) (b : AllBytes (take 8 l)) (h : 8 ≤ length l) where
  low_number : (n : ℕ) → n ≤ 8 → x % 256 ^ n ≡ number_from (take n l)
  low_number n k = rw v (number_take n (take 8 l) b ∙ ap number_from (take-take n 8 l k))

  masked : (n : ℕ) → bit_and x (256 ^ n - 1) ≡ x % 256 ^ n
  masked n = rw (byte_power n) (and_mask x (8 * n))

  -- the comparison tells whether the word stands there
  compared : (w : Word) → bit_and x (row_of w).mask ≡ (row_of w).number → begins l w ≡ true
  compared w e =
      let t = word_line w in
      let n = length t in
      let few : n ≤ 8 = omega (arith, line_few w) in
      let eight : length (take 8 l) ≡ 8 = length-take-le 8 l h in
      let q : number_from (take 8 l) % 256 ^ n ≡ number_from t = rw (← v) (sym (masked n) ∙ e) in
      let p : take n l ≡ t =
      sym (take-take n 8 l few) ∙ low_bytes n (take 8 l) t refl (omega arith) b (line_bytes w) q in
      (bytes_eq-Decides t (take n l)).1 (sym p)

  begun : (w : Word) → begins l w ≡ true → bit_and x (row_of w).mask ≡ (row_of w).number
  begun w e =
      let n = length (word_line w) in
      masked n ∙ (low_number n (omega (arith, line_few w)) ∙ ap number_from (begins_text l w e))

  -- a word that stands there is the one guessed
  guessed : (w : Word) → begins l w ≡ true → w ≡ guess x
  guessed w e =
      let t = word_line w in
      let two : take 2 l ≡ take 2 t =
      sym (take-take 2 (length t) l (line_some w)) ∙ ap (take 2) (begins_text l w e) in
      let low : x % 65536 ≡ number_from (take 2 t) = low_number 2 (omega arith) ∙ ap number_from two in
      let g : guess x ≡ guess (number_from (take 2 t)) =
      ap (λ (k : ℕ). get_or slots k (WithNumber Begin)) (slot_low x ∙ ap slot low) in
      sym (g ∙ right w)

-- ---- the first of the ten words that passes a test
misses : (test : Word → Bool) (ws : List Word) (k : ℕ) (d : Word) → find test ws ≡ None → k < length ws
    → test (get_or ws k d) ≡ false
misses test [] k d e h = absurd (omega arith)
misses test (w ∷ ws) k d e h = by_test (test w) refl e k h (λ i m. misses test ws i d m)
  where
    by_test : (t : Bool) → test w ≡ t → cond t (Some w) (find test ws) ≡ None → (i : ℕ) → i < suc (length ws)
        → ((j : ℕ) → find test ws ≡ None → j < length ws → test (get_or ws j d) ≡ false)
        → test (get_or (w ∷ ws) i d) ≡ false
    by_test true q m i n more = absurd (cc)
    by_test false q m zero n more = q
    by_test false q m (suc i) n more = more i m (omega arith)

-- the place of each word among the ten
abbrev place : Word → ℕ
place (WithNumber Begin) = 0
place (WithCue Add) = 1
place (WithCue Remove) = 2
place (WithCue Has) = 3
place (WithCue Push) = 4
place (WithNumber Min) = 5
place (WithNumber Take) = 6
place (WithNumber Commit) = 7
place (WithNumber Undo) = 8
place (WithNumber Back) = 9

placed : (w : Word) → (get_or words (place w) (WithNumber Begin) ≡ w) × (place w < length words)
placed (WithNumber Begin) = (refl, omega arith)
placed (WithCue Add) = (refl, omega arith)
placed (WithCue Remove) = (refl, omega arith)
placed (WithCue Has) = (refl, omega arith)
placed (WithCue Push) = (refl, omega arith)
placed (WithNumber Min) = (refl, omega arith)
placed (WithNumber Take) = (refl, omega arith)
placed (WithNumber Commit) = (refl, omega arith)
placed (WithNumber Undo) = (refl, omega arith)
placed (WithNumber Back) = (refl, omega arith)

none_passes : (test : Word → Bool) → find test words ≡ None → (w : Word) → test w ≡ false
none_passes test e w =
    let p = placed w in
    sym (ap test p.0) ∙ misses test words (place w) (WithNumber Begin) e p.1

-- ---- the table
pub table_made : (add remove has push min take begin commit undo back : Row) → add ≡ row_of (WithCue Add)
    → remove ≡ row_of (WithCue Remove) → has ≡ row_of (WithCue Has) → push ≡ row_of (WithCue Push)
    → min ≡ row_of (WithNumber Min) → take ≡ row_of (WithNumber Take) → begin ≡ row_of (WithNumber Begin)
    → commit ≡ row_of (WithNumber Commit) → undo ≡ row_of (WithNumber Undo) → back ≡ row_of (WithNumber Back)
    → commit ∷ add ∷ back ∷ add ∷ add ∷ has ∷ begin ∷ add ∷ undo ∷ add ∷ add ∷ take ∷ add ∷ push ∷ remove ∷ min ∷ []
    ≡ table_rows
unfolding table_rows
table_made add remove has push min take begin commit undo back a r h p m t b c u k = rw (a, r, h, p, m, t, b, c, u, k)

-- ---- what a look finds, where no word but one stands
module _ (l : List ℕ) (g : Word) (only : (w : Word) → begins l w ≡ true → w ≡ g) (room : 8 ≤ length l) where
  look_finds : begins l g ≡ true → Some (with_length g) ≡ word_found l
  unfolding word_found
  look_finds b = rw (le-leb 8 _ room) (by_look (find (begins l) words) refl)
    where
      by_look : (r : Option Word) → find (begins l) words ≡ r → Some (with_length g) ≡ option_map with_length r
      by_look (Some w) e = ap (λ (v : Word). Some (with_length v)) (sym (only w (found (begins l) w words e)))
      by_look None e = let n = none_passes (begins l) e g in absurd (cc)

  look_misses : (begins l g ≡ true → ⊥) → None ≡ word_found l
  unfolding word_found
  look_misses n = rw (le-leb 8 _ room) (by_look (find (begins l) words) refl)
    where
      by_look : (r : Option Word) → find (begins l) words ≡ r → None ≡ option_map with_length r
      by_look (Some w) e =
          let b = found (begins l) w words e in
          absurd (n (subst (λ v. begins l v ≡ true) (only w b) b))
      by_look None e = refl

-- ---- what the table's look answers, over the eight bytes at a place
pub short_look : (s : List ℕ) (at : ℕ) → None ≡ eight_at s at → None ≡ word_found (drop at s)
unfolding word_found
short_look s at e =
    let few = eight_none s at e in
    let n : length (drop at s) < 8 = omega (arith, length-drop at s) in
    rw (lt-leb 8 _ n) refl

module _ (rows : List Row) (known : rows ≡ table_rows) (s : List ℕ) (at : ℕ) where
  module _ (x : ℕ) (e : Some x ≡ eight_at s at) (bytes : at + 8 ≤ length s → AllBytes (take 8 (drop at s))) (d : Row)
    where
      room : 8 ≤ length (drop at s)
      room = let f = eight_found s at x e in omega (arith, length-drop at s)

      value : x ≡ number_from (take 8 (drop at s))
      value = (eight_found s at x e).1

      small : AllBytes (take 8 (drop at s))
      small = bytes (eight_found s at x e).0

      only : (w : Word) → begins (drop at s) w ≡ true → w ≡ guess x
      only = guessed (drop at s) x value small room

      row_is : get_or rows (slot x) d ≡ row_of (guess x)
      unfolding table_rows
      row_is = rw known (get_or-map row_of slots (slot x) (WithNumber Begin) d (omega arith))

      pub word_is : bit_and x (get_or rows (slot x) d).mask ≡ (get_or rows (slot x) d).number
          → Some (record { word = (get_or rows (slot x) d).word; length = (get_or rows (slot x) d).length })
          ≡ word_found (drop at s)
      word_is q =
          let same : bit_and x (row_of (guess x)).mask ≡ (row_of (guess x)).number = rw row_is at q in
          rw row_is
          (look_finds (drop at s) (guess x) only room (compared (drop at s) x value small room (guess x) same))

      pub word_not : (bit_and x (get_or rows (slot x) d).mask ≡ (get_or rows (slot x) d).number → ⊥)
          → None ≡ word_found (drop at s)
      word_not n =
          look_misses (drop at s) (guess x) only room
          (λ b. n (rw row_is (begun (drop at s) x value small room (guess x) b)))

-- the word that a look found stands there
pub word_stands : (s : List ℕ) (at : ℕ) (q : QuickWord) → word_found (drop at s) ≡ Some q
    → Stands s at (word_line q.word) × (q.length ≡ length (word_line q.word))
unfolding word_found
word_stands s at q e = by_test (leb 8 (length (drop at s))) (find (begins (drop at s)) words) refl e
  where
    by_test : (t : Bool) (r : Option Word) → find (begins (drop at s)) words ≡ r
        → cond t (option_map with_length r) None ≡ Some q
        → Stands s at (word_line q.word) × (q.length ≡ length (word_line q.word))
    by_test true (Some w) f m =
        let same : with_length w ≡ q = cc in
        subst (λ (v : QuickWord). Stands s at (word_line v.word) × (v.length ≡ length (word_line v.word))) same
        (begins_text (drop at s) w (found (begins (drop at s)) w words f), refl)
    by_test true None f m = absurd (cc)
    by_test false r f m = absurd (cc)
