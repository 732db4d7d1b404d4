-- What a look at the front of a text finds. Assumes nothing.
use Rattle.std.specs.Prelude.{ℕ, Bool, if◌then◌else◌, List, nat_le, nat_eq, length, Option, None, find}
use Rattle.std.specs.Option.{option_map}
use Rattle.std.specs.List.{starts_with}
use Rattle.step_words.specs.declared.Word.{Word}
use Rattle.step_words.specs.Word.{words}
use Rattle.quick_words.specs.declared.QuickWord.{QuickWord}
use Rattle.quick_words.specs.Row.{word_line}

-- a word stands at the front with its comma
abbrev pub begins : List ℕ → Word → Bool
begins l w = starts_with nat_eq l (word_line w)

abbrev pub with_length : Word → QuickWord
with_length w = record { word = w; length = length (word_line w) }

-- the word at the front of at least eight bytes
unfoldable pub word_found : List ℕ → Option QuickWord
word_found l = if nat_le 8 (length l) then option_map with_length (find (begins l) words) else None
