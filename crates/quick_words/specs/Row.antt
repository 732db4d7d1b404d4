-- The rows of the table of words: what is known of each word, and the word of each slot. Assumes nothing.
use Rattle.std.specs.Prelude.{ℕ, ◌-◌, ◌^◌, List, [], ◌∷◌, ◌++◌, length, map}
use Rattle.step_words.specs.declared.CueWord.TheVariants.{Add, Remove, Has, Push}
use Rattle.step_words.specs.declared.NumberWord.TheVariants.{Min, Take, Begin, Commit, Undo, Back}
use Rattle.step_words.specs.declared.Word.{Word}
use Rattle.step_words.specs.declared.Word.TheVariants.{WithNumber, WithCue}
use Rattle.step_words.specs.Word.{word_text}
use Rattle.eight_bytes.specs.Eight.{number_from}
use Rattle.quick_words.specs.declared.Row.{Row}

-- a word with its comma (44)
abbrev pub word_line : Word → List ℕ
word_line w = word_text w ++ (44 ∷ [])

abbrev pub row_of : Word → Row
row_of w = record {
  number = number_from (word_line w);
  mask = 256 ^ length (word_line w) - 1;
  length = length (word_line w);
  word = w;
}

abbrev pub slots : List Word
slots =
    WithNumber Commit ∷ WithCue Add ∷ WithNumber Back ∷ WithCue Add ∷ WithCue Add ∷ WithCue Has ∷ WithNumber Begin
    ∷ WithCue Add ∷ WithNumber Undo ∷ WithCue Add ∷ WithCue Add ∷ WithNumber Take ∷ WithCue Add ∷ WithCue Push
    ∷ WithCue Remove ∷ WithNumber Min ∷ []

unfoldable pub table_rows : List Row
table_rows = map row_of slots
