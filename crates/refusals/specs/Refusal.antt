-- The numbers of the refusals, row by row of the table of what is turned away (docs/RULES.md, 4). The users' edit is a
-- transaction here, an edit that unwinds an aborting one, the log the undo log, a place a slot. Assumes nothing.
use Rattle.std.specs.Prelude.{ℕ, if◌then◌else◌, List, length, nat_lt, Result, Ok, Err}
use Rattle.refusals.specs.declared.Refusal.{Refusal}
use Rattle.refusals.specs.declared.RefusedText.{RefusedText}
use Rattle.refusals.specs.declared.Refusal.TheVariants.{
  Malformed,
  TransactionOutOfRange,
  AlreadyBegun,
  NotBegun,
  Aborting,
  NotAborting,
  CueOutOfRange,
  Blocked,
  LocksFull,
  UndoLogFull,
  ScriptFull,
  QueueFull,
  TextTooLong,
  BufferTooShort,
}

abbrev pub refusal_number : Refusal → ℕ
refusal_number Malformed = 1  -- malformed line or unknown step word
refusal_number TransactionOutOfRange = 2  -- edit number not 1 to 8
refusal_number AlreadyBegun = 3  -- begin on an unclosed edit
refusal_number NotBegun = 4  -- other step on a closed edit
refusal_number Aborting = 5  -- call, commit or undo on an unwinding edit
refusal_number NotAborting = 6  -- back on an edit not unwinding
refusal_number CueOutOfRange = 7  -- cue number out of range
refusal_number (Blocked e) = 8  -- conflicting lock, held by the edit e
refusal_number LocksFull = 9  -- a 25th cue lock needed
refusal_number UndoLogFull = 10  -- a 17th log entry needed
refusal_number ScriptFull = 11  -- a 257th script place needed, by a call or by a script text
refusal_number QueueFull = 12  -- a 65th queue place needed
refusal_number TextTooLong = 13  -- script text or program input of more than 65,536 bytes
refusal_number BufferTooShort = 14  -- lent buffer shorter than the text to write

-- more than 65,536 bytes meet 13, and no line is to blame
abbrev pub length_checked : List ℕ → Result (Unit {0}) RefusedText
length_checked s = if nat_lt 65536 (length s) then Err (record { refusal = TextTooLong; line = 0 }) else Ok tt
