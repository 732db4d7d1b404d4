-- What formatting a script text answers, and what the formatter prints. Assumes nothing.
use Rattle.std.specs.Prelude.{ℕ, List, Result, Ok, Err}
use Rattle.refusals.specs.Refusal.{refusal_number}
use Rattle.refusals.specs.declared.Refusal.{Refusal}
use Rattle.refusals.specs.declared.RefusedText.{RefusedText}
use Rattle.buffers.specs.Written.{written_at}
use Rattle.lines.specs.Ascii.{bytes}
use Rattle.records.specs.Record.{record_text}
use Rattle.scripts.specs.Script.{script_of}
use Rattle.scripts.specs.ScriptText.{text_of}

-- what the writer answered, as the formatter's answer: no line is to blame for a short buffer
abbrev pub normal : Result ℕ Refusal → Result ℕ RefusedText
normal (Ok n) = Ok n
normal (Err r) = Err (record { refusal = r; line = 0 })

-- the normal form at the front of the buffer; or, where the text or the buffer is refused, the buffer as it was
abbrev pub format_with : Result (List ℕ) RefusedText → List ℕ → Result ℕ RefusedText × List ℕ
format_with (Ok t) buf = (normal (written_at buf 0 (text_of t)).0, (written_at buf 0 (text_of t)).1)
format_with (Err refused) buf = (Err refused, buf)

unfoldable pub format_of : List ℕ → List ℕ → Result ℕ RefusedText × List ℕ
format_of s buf = format_with (script_of s) buf

-- what the formatter prints: the normal form, or `refused,n,line` and LF
abbrev pub report_with : Result (List ℕ) RefusedText → List ℕ
report_with (Ok t) = text_of t
report_with (Err refused) = record_text (bytes "refused") (refusal_number refused.refusal) refused.line

unfoldable pub report_of : List ℕ → List ℕ
report_of s = report_with (script_of s)
