-- The words of step lines, in small letters, and what stands behind each: a number, or a number and a cue.
-- Assumes nothing.
use Rattle.std.specs.Prelude.{ℕ, List, [], ◌∷◌, Option, find, bytes_eq, codes}
use Rattle.step_words.specs.declared.NumberWord.{NumberWord}
use Rattle.step_words.specs.declared.NumberWord.TheVariants.{Begin, Min, Take, Commit, Undo, Back}
use Rattle.step_words.specs.declared.CueWord.{CueWord}
use Rattle.step_words.specs.declared.CueWord.TheVariants.{Add, Remove, Has, Push}
use Rattle.step_words.specs.declared.Word.{Word}
use Rattle.step_words.specs.declared.Word.TheVariants.{WithNumber, WithCue}

-- the text of each word
abbrev pub number_word : NumberWord → List ℕ
number_word Begin = codes "begin"
number_word Min = codes "min"
number_word Take = codes "take"
number_word Commit = codes "commit"
number_word Undo = codes "undo"
number_word Back = codes "back"

abbrev pub cue_word : CueWord → List ℕ
cue_word Add = codes "add"
cue_word Remove = codes "remove"
cue_word Has = codes "has"
cue_word Push = codes "push"

abbrev pub word_text : Word → List ℕ
word_text (WithNumber w) = number_word w
word_text (WithCue w) = cue_word w

-- the ten words
abbrev pub words : List Word
words =
    WithNumber Begin ∷ WithCue Add ∷ WithCue Remove ∷ WithCue Has ∷ WithCue Push ∷ WithNumber Min ∷ WithNumber Take
    ∷ WithNumber Commit ∷ WithNumber Undo ∷ WithNumber Back ∷ []

-- the word that the bytes before the first comma are
unfoldable pub word_of : List ℕ → Option Word
word_of bytes = find (λ word. bytes_eq bytes (word_text word)) words
