-- Script and queue as the program prints them at the end. Assumes nothing.
use Rattle.std.specs.Prelude.{ℕ, List, ◌++◌, length}
use Rattle.lines.specs.Ascii.{bytes}
use Rattle.records.specs.Record.{field_text}
use Rattle.scripts.specs.ScriptText.{text_of}
use Rattle.boosting.specs.Object.{State}

abbrev pub state_of : List ℕ → List ℕ → State
state_of script queue = record { script = script; queue = queue }

-- `word,n` with its LF (10), and n cue lines in order; the word ends with its comma
abbrev pub list_text : List ℕ → List ℕ → List ℕ
list_text word keys = (word ++ field_text (length keys) 10) ++ text_of keys

unfoldable pub closing_text : State → List ℕ
closing_text s = list_text (bytes "script,") s.script ++ list_text (bytes "queue,") s.queue
