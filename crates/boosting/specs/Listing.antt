-- The lock listing, the users' lock sheet: one line for each cue lock held and one for each queue mode held, each
-- once. The order of the lines is left to the program. Assumes nothing.
use Rattle.std.specs.Prelude.{ℕ, suc, Bool, if◌then◌else◌, List, [], ◌∷◌, ◌++◌}
use Rattle.lines.specs.Ascii.{bytes}
use Rattle.records.specs.Record.{field_text}
use Rattle.cues.specs.Cue.{cue_of}
use Rattle.cue_texts.specs.CueText.{cue_text}
use Rattle.boosting.specs.Locks.{Locks}
use Rattle.boosting.specs.Store.{Transaction, Store}

-- `lock,e,t,m,p` and LF
abbrev pub lock_line : ℕ → ℕ → List ℕ
lock_line e k = bytes "lock," ++ (field_text e 44 ++ cue_text (cue_of k))

-- `mode,e,` and the mode's word and LF
abbrev pub mode_line : ℕ → List ℕ → List ℕ
mode_line e word = bytes "mode," ++ (field_text e 44 ++ word)

unfoldable pub lock_lines : ℕ → List ℕ → List (List ℕ)
lock_lines e [] = []
lock_lines e (k ∷ ks) = lock_line e k ∷ lock_lines e ks

abbrev pub mode_lines : ℕ → Bool → List ℕ → List (List ℕ)
mode_lines e held word = if held then mode_line e word ∷ [] else []

abbrev pub modes_of : ℕ → Locks → List (List ℕ)
modes_of e l =
    mode_lines e l.pushes (bytes "push\n")
    ++ (mode_lines e l.looks (bytes "look\n") ++ mode_lines e l.takes (bytes "take\n"))

-- the lines of transaction e
abbrev pub listing_of : ℕ → Locks → List (List ℕ)
listing_of e l = lock_lines e l.cues ++ modes_of e l

unfoldable pub listing_from : ℕ → List Transaction → List (List ℕ)
listing_from e [] = []
listing_from e (t ∷ ts) = listing_of e t.locks ++ listing_from (suc e) ts

-- the lines of the listing, in one of their orders
abbrev pub listing : Store → List (List ℕ)
listing d = listing_from 1 d.transactions
