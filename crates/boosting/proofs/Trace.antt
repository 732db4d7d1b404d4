-- Traces: the calls of unclosed transactions, newest first. What stays true when one transaction's calls are settled
-- by a commit, or its newest ones are taken back: since calls of different transactions change places, they can be
-- moved to the start or to the end. Of the object only the laws of `ObjectLaws` are used. Assumes nothing.
use Prim.Native.Nat.{ℕ}
use mathlib.Core.Path.{◌≡◌, refl, ap, ◌∙◌}
use mathlib.Core.Bool.{cond}
use mathlib.Core.List.{List, [], ◌∷◌, ◌++◌}
use mathlib.Core.Logic.{◌⊎◌, inl, inr}
use Rattle.std.specs.Prelude.{Option, None, Some}
use native.Mathlib.Omega.{arith}
use lib.Dec.{eqb}
use borrow.Author.Tests.{ne_eqb}
use Rattle.boosting.specs.Object.{Call, Reply, State, effect, reply}
use Rattle.boosting.specs.Undo.{Entry, entry_of, inverse, noted}
use Rattle.boosting.proofs.ObjectLaws.{Good, Commute, Free, effect-Good, idle, cancel}

-- a call of the transaction `of`, with the reply that the desk gave
pub record Item : Type 0 where
  pub of : ℕ
  pub call : Call
  pub reply : Reply

-- a plain desk, fed with calls, newest first
unfoldable pub play : State → List Item → State
play s [] = s
play s (i ∷ t) = effect i.call (play s t)

-- the replies of the plain desk are those that the items carry
abbrev pub Same : State → List Item → Type 0
Same s [] = Unit {0}
Same s (i ∷ t) = (reply i.call (play s t) ≡ i.reply) × Same s t

abbrev pub In : Item → List Item → Type 0
In i [] = ⊥
In i (j ∷ t) = (i ≡ j) ⊎ In i t

-- the items of the transaction e, the others, and all without e's newest
unfoldable pub mine : ℕ → List Item → List Item
mine e [] = []
mine e (i ∷ t) = cond (eqb i.of e) (i ∷ mine e t) (mine e t)

unfoldable pub others : ℕ → List Item → List Item
others e [] = []
others e (i ∷ t) = cond (eqb i.of e) (others e t) (i ∷ others e t)

unfoldable pub less : ℕ → List Item → List Item
less e [] = []
less e (i ∷ t) = cond (eqb i.of e) t (i ∷ less e t)

-- the log entries of calls, newest first
unfoldable pub entries : List Item → List Entry
entries [] = []
entries (i ∷ t) = noted (entry_of i.call i.reply) (entries t)

-- entries undone, the first of the list first
unfoldable pub undo_all : List Entry → State → State
undo_all [] s = s
undo_all (n ∷ ns) s = undo_all ns (inverse n s)

-- calls of different transactions change places
abbrev pub Clear : List Item → Type 0
Clear t = (i j : Item) → In i t → In j t → (i.of ≡ j.of → ⊥) → Free i.call j.call

Clear-tail : (i : Item) (t : List Item) → Clear (i ∷ t) → Clear t
Clear-tail i t k a b p q = k a b (inr p) (inr q)

-- ---- playing

pub play-Good : (s : State) (t : List Item) → Good s → Good (play s t)
unfolding play
play-Good s [] g = g
play-Good s (i ∷ t) g = effect-Good i.call (play s t) (play-Good s t g)

pub play-append : (s : State) (t u : List Item) → play s (t ++ u) ≡ play (play s u) t
unfolding play
play-append s [] u = refl
play-append s (i ∷ t) u = ap (effect i.call) (play-append s t u)

pub Same-append : (s : State) (t u : List Item) → Same (play s u) t → Same s u → Same s (t ++ u)
Same-append s [] u p q = q
Same-append s (i ∷ t) u p q = (ap (reply i.call) (play-append s t u) ∙ p.0, Same-append s t u p.1 q)

-- a call that changes places with all of t goes to t's other end
record Slid (c : Call) (s : State) (t : List Item) : Type 0 where
  pub state : effect c (play s t) ≡ play (effect c s) t
  pub reply : reply c (play s t) ≡ reply c s
  pub same : Same s t → Same (effect c s) t

slide : (c : Call) (s : State) (t : List Item) → Good s → ((j : Item) → In j t → Free c j.call) → Slid c s t
unfolding play
slide c s [] g f = record { state = refl; reply = refl; same = λ q. tt }
slide c s (j ∷ t) g f =
    grind (arith, slide c s t g (λ k p. f k (inr p)), f j (inl refl) (play s t) (play-Good s t g))

-- ---- membership

pub In-others : (e : ℕ) (t : List Item) (i : Item) → In i (others e t) → In i t × (i.of ≡ e → ⊥)
unfolding others
In-others e [] i p = absurd p
In-others e (j ∷ t) i p = grind (arith, In-others e t i)

In-less : (e : ℕ) (t : List Item) (i : Item) → In i (less e t) → In i t
unfolding less
In-less e [] i p = p
In-less e (j ∷ t) i p = grind (arith, In-less e t i)

pub mine_none : (e : ℕ) (t : List Item) → mine e t ≡ [] → (i : Item) → In i t → i.of ≡ e → ⊥
unfolding mine
mine_none e [] m i p q = p
mine_none e (j ∷ t) m i p q = grind (arith, mine_none e t)

pub none_of : (e : ℕ) (t : List Item) → ((i : Item) → In i t → i.of ≡ e → ⊥) → mine e t ≡ []
unfolding mine
none_of e [] f = refl
none_of e (i ∷ t) f = grind (arith, f i (inl refl), none_of e t (λ j p. f j (inr p)))

-- ---- a commit: e's calls first, then the others

pub record Split (e : ℕ) (s : State) (t : List Item) : Type 0 where
  pub state : play s t ≡ play (play s (mine e t)) (others e t)
  pub own : Same s (mine e t)
  pub rest : Same (play s (mine e t)) (others e t)

pub split : (e : ℕ) (s : State) (t : List Item) → Good s → Clear t → Same s t → Split e s t
unfolding mine others play
split e s [] g k q = record { state = refl; own = tt; rest = tt }
split e s (i ∷ t) g k q =
    let r = split e s t g (Clear-tail i t k) q.1 in
    let l : i.of ≡ e → Slid i.call (play s (mine e t)) (others e t) = λ h.
    slide i.call (play s (mine e t)) (others e t) (play-Good s (mine e t) g)
    (λ j p. k i j (inl refl) (inr (In-others e t j p).0) (λ z. (In-others e t j p).1 (cc))) in
    grind (arith, l, r)

pub mine-others : (e f : ℕ) (t : List Item) → (f ≡ e → ⊥) → mine f (others e t) ≡ mine f t
unfolding mine others
mine-others e f [] n = refl
mine-others e f (i ∷ t) n = grind (arith, mine-others e f t n)

-- ---- taking back: e's newest call is moved to the front

record Taken (e : ℕ) (s : State) (t : List Item) (x : Item) (p : List Item) : Type 0 where
  pub state : play s t ≡ effect x.call (play s (less e t))
  pub reply : reply x.call (play s (less e t)) ≡ x.reply
  pub same : Same s (less e t)
  pub own : mine e (less e t) ≡ p
  pub item : In x t
  pub of : x.of ≡ e

mine-less : (e f : ℕ) (t : List Item) → (f ≡ e → ⊥) → mine f (less e t) ≡ mine f t
unfolding mine less
mine-less e f [] n = refl
mine-less e f (i ∷ t) n = grind (arith, mine-less e f t n)

-- e's newest calls q are taken back: what is left is a trace with e's other calls p
pub record Cut (e : ℕ) (s : State) (t : List Item) (q p : List Item) : Type 0 where
  pub trace : List Item
  pub state : play s trace ≡ undo_all (entries q) (play s t)
  pub same : Same s trace
  pub own : mine e trace ≡ p
  pub sub : (i : Item) → In i trace → In i t
  pub mines : (f : ℕ) → (f ≡ e → ⊥) → mine f trace ≡ mine f t

-- the calls down to the newest entry
pub record Newest (t : List Item) (n : Entry) (ns : List Entry) : Type 0 where
  pub q : List Item
  pub p : List Item
  pub parts : t ≡ q ++ p
  pub top : entries q ≡ n ∷ []
  pub under : entries p ≡ ns

pub newest : (t : List Item) (n : Entry) (ns : List Entry) → entries t ≡ n ∷ ns → Newest t n ns
unfolding entries
newest [] n ns h = cc
newest (i ∷ t) n ns h = go (entry_of i.call i.reply) refl (newest t n ns)
  where
    go : (o : Option Entry) → entry_of i.call i.reply ≡ o → (entries t ≡ n ∷ ns → Newest t n ns)
        → Newest (i ∷ t) n ns
    go None o ih =
        let r = ih (rw o at h) in
        record { q = i ∷ r.q; p = r.p; parts = grind arith; top = grind arith; under = r.under }
    go (Some m) o ih = record { q = i ∷ []; p = t; parts = refl; top = grind arith; under = grind arith }

taken : (e : ℕ) (s : State) (t : List Item) (x : Item) (p : List Item) → Good s → Clear t → Same s t
    → mine e t ≡ x ∷ p → Taken e s t x p
unfolding mine less play
taken e s [] x p g k q m = cc
taken e s (i ∷ t) x p g k q m =
    let r : (i.of ≡ e → ⊥) → Taken e s t x p = λ h.
    taken e s t x p g (Clear-tail i t k) q.1 (rw (ne_eqb i.of e h) at m) in
    let f : (i.of ≡ e → ⊥) → Commute i.call x.call (play s (less e t)) = λ h.
    k i x (inl refl) (inr (r h).item) (λ z. h (cc (r h).of)) (play s (less e t)) (play-Good s (less e t) g) in
    grind (arith, r, f)

pub cut : (e : ℕ) (s : State) (q p t : List Item) → Good s → Clear t → Same s t → mine e t ≡ q ++ p → Cut e s t q p
unfolding undo_all entries
cut e s [] p t g k a m = record { trace = t; state = refl; same = a; own = m; sub = λ i w. w; mines = λ f n. refl }
cut e s (x ∷ q) p t g k a m =
    let r = taken e s t x (q ++ p) g k a m in
    let k' : Clear (less e t) = λ i j u w. k i j (In-less e t i u) (In-less e t j w) in
    let c = cut e s q p (less e t) g k' r.same r.own in
    let l = less e t in
    let i = idle x.call (play s l) (play-Good s l g) in
    let w = λ (n : Entry). cancel x.call (play s l) n (play-Good s l g) in
    record {
      trace = c.trace;
      state = grind (arith, c, r, i, w);
      same = c.same;
      own = c.own;
      sub = λ i w. In-less e t i (c.sub i w);
      mines = λ f n. c.mines f n ∙ mine-less e f t n;
    }
