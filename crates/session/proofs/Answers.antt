-- Laws of stepping through lines: one line more, its answer in front of the others; and the same by the steps that a
-- reader gives. Assumes nothing.
use mathlib.Core.Path.{◌≡◌, refl, sym, ap, ◌∙◌}
use mathlib.Core.Bool.{Bool}
use mathlib.Core.List.{List, [], ◌∷◌, ◌++◌, map, map-append, reverse-append, append_assoc}
use Prim.Native.Nat.{ℕ}
use native.Mathlib.Omega.{arith}
use Rattle.std.specs.Prelude.{Option}
use Rattle.steps.specs.declared.reading.Step.{Step}
use Rattle.steps.specs.Step.{step_of}
use Rattle.answers.specs.Answer.{answer_text}
use Rattle.answers.specs.declared.Answer.{Answer}
use Rattle.boosting.specs.Store.{Store}
use Rattle.boosting.specs.Rows.{request_of}
use Rattle.boosting.specs.Step.{Out, step_on, step_line}
use Rattle.boosting.specs.Run.{Event, Run, advance, run_from, run}
use Rattle.session.specs.Output.{answers_text, answer_lines}
use Rattle.session.specs.Printing.{HasRoom, Printed}
use Rattle.session.proofs.Parts.{first_room, rest_room, both_printed}

-- ---- a run, one line more
abbrev event : Store → List ℕ → Event
event d l = record { line = l; answer = (step_line d l).answer }

abbrev after : Store → List ℕ → Store
after d l = (step_line d l).store

-- the past does not matter to the store, and stays behind what happens
abbrev behind : Run → List Event → Run
behind r p = record { store = r.store; past = r.past ++ p }

from_past : (ls : List (List ℕ)) (d : Store) (p : List Event)
    → run_from (record { store = d; past = p }) ls ≡ behind (run d ls) p
unfolding run_from advance
from_past [] d p = refl
from_past (l ∷ ls) d p =
    from_past ls (after d l) (event d l ∷ p)
    ∙ rw (from_past ls (after d l) (event d l ∷ [])) (simp append_assoc)

run_more : (d : Store) (l : List ℕ) (ls : List (List ℕ))
    → run d (l ∷ ls) ≡ behind (run (after d l) ls) (event d l ∷ [])
unfolding run_from advance
run_more d l ls = from_past ls (after d l) (event d l ∷ [])

pub lines_answered : (d : Store) (l : List ℕ) (ls : List (List ℕ))
    → answer_lines d (l ∷ ls) ≡ answer_text (step_line d l).answer ++ answer_lines (after d l) ls
unfolding answers_text
lines_answered d l ls = rw (run_more d l ls) (simp (map-append, reverse-append))

pub nothing_answered : (d : Store) → answer_lines d [] ≡ []
unfolding answers_text run_from
nothing_answered d = refl

-- ---- a run by the steps of its lines
abbrev pub out : Store → Option Step → Out
out d s = step_on d (request_of s)

abbrev pub store_by : Store → List (Option Step) → Store
store_by d [] = d
store_by d (s ∷ ss) = store_by (out d s).store ss

abbrev pub lines_by : Store → List (Option Step) → List ℕ
lines_by d [] = []
lines_by d (s ∷ ss) = answer_text (out d s).answer ++ lines_by (out d s).store ss

by_steps : (ls : List (List ℕ)) (d : Store)
    → ((run d ls).store ≡ store_by d (map step_of ls)) × (answer_lines d ls ≡ lines_by d (map step_of ls))
unfolding step_line run_from
by_steps [] d = (refl, nothing_answered d)
by_steps (l ∷ ls) d =
    let h = by_steps ls (after d l) in
    (ap (λ (r : Run). r.store) (run_more d l ls) ∙ h.0, lines_answered d l ls ∙ ap (λ (t : List ℕ). answer_text (step_line d l).answer ++ t) h.1)

-- ---- the loop: what is left to do gives the whole
pub record Left (keep : Bool) (buf₀ : List ℕ) (d₀ : Store) (ls₀ : List (List ℕ)) (buf : List ℕ) (end : ℕ) (d : Store)
    (ss : List (Option Step)) : Type 0 where
  pub room : HasRoom keep buf end (lines_by d ss)
  pub store : store_by d ss ≡ (run d₀ ls₀).store
  pub printed : (last : ℕ) (after : List ℕ) → Printed keep buf end (lines_by d ss) last after
      → Printed keep buf₀ 0 (answer_lines d₀ ls₀) last after

pub all_left : (keep : Bool) (buf : List ℕ) (d : Store) (ls : List (List ℕ)) (ss : List (Option Step))
    → HasRoom keep buf 0 (answer_lines d ls) → ss ≡ map step_of ls → Left keep buf d ls buf 0 d ss
all_left keep buf d ls ss h e =
    let b = by_steps ls d in
    rw e (record { room = rw (← b.1) h; store = sym b.0; printed = λ last after p. rw b.1 p })

module _ (keep : Bool) (buf₀ : List ℕ) (d₀ : Store) (ls₀ : List (List ℕ)) (buf : List ℕ) (end : ℕ) (d : Store) where
  -- one step less
  module _ (s : Option Step) (ss left : List (Option Step)) (e : left ≡ s ∷ ss)
      (v : Left keep buf₀ d₀ ls₀ buf end d left) where
    next_left : Left keep buf₀ d₀ ls₀ buf end d (s ∷ ss)
    next_left = rw (← e) v

    pub step_room : (a : Answer) → a ≡ (out d s).answer → HasRoom keep buf end (answer_text a)
    step_room a ea = rw ea (first_room keep buf _ _ _ end refl next_left.room)

    pub less_left : (a : Answer) (d₁ : Store) (mid : List ℕ) (next : ℕ) → a ≡ (out d s).answer
        → d₁ ≡ (out d s).store → Printed keep buf end (answer_text a) next mid
        → Left keep buf₀ d₀ ls₀ mid next d₁ ss
    less_left a d₁ mid next ea ed p =
        let p₁ = rw ea at p in
        rw ed
        (record {
          room = rest_room keep buf _ _ _ end refl mid next p₁ next_left.room;
          store = next_left.store;
          printed = λ last after z. next_left.printed last after (both_printed keep buf _ _ _ end refl mid next p₁ after last z);
        })

  -- no step left
  pub none_left : (left : List (Option Step)) → left ≡ [] → Left keep buf₀ d₀ ls₀ buf end d left
      → Printed keep buf₀ 0 (answer_lines d₀ ls₀) end buf × (d ≡ (run d₀ ls₀).store)
  none_left left e v =
      let u : Left keep buf₀ d₀ ls₀ buf end d [] = rw (← e) v in
      (u.printed end buf (record { place = omega arith; stored = λ k. refl }), u.store)
