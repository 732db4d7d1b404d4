-- What a refusal says to people, in the users' words. Assumes nothing.
use Rattle.std.specs.Prelude.{ℕ, if◌then◌else◌, List, ◌++◌, nat_eq, codes}
use Rattle.std.specs.Fmt.{decimal}
use Rattle.refusals.specs.declared.Refusal.{Refusal}
use Rattle.refusals.specs.declared.Refusal.TheVariants.{
  Malformed,
  TransactionOutOfRange,
  AlreadyBegun,
  NotBegun,
  Aborting,
  NotAborting,
  CueOutOfRange,
  Blocked,
  LocksFull,
  UndoLogFull,
  ScriptFull,
  QueueFull,
  TextTooLong,
  BufferTooShort,
}
use Rattle.refusals.specs.declared.RefusedText.{RefusedText}

abbrev pub refusal_message : Refusal → List ℕ
refusal_message Malformed = codes "malformed line or unknown word"
refusal_message TransactionOutOfRange = codes "edit number not 1 to 8"
refusal_message AlreadyBegun = codes "the edit has begun already"
refusal_message NotBegun = codes "the edit has not begun"
refusal_message Aborting = codes "the edit is being undone"
refusal_message NotAborting = codes "the edit is not being undone"
refusal_message CueOutOfRange = codes "cue number out of range"
refusal_message (Blocked holder) = codes "edit " ++ (decimal holder ++ codes " holds a lock in the way")
refusal_message LocksFull = codes "the edit has 24 cue locks already"
refusal_message UndoLogFull = codes "the edit has 16 log entries already"
refusal_message ScriptFull = codes "all 256 places of the script are taken"
refusal_message QueueFull = codes "all 64 places of the queue are taken"
refusal_message TextTooLong = codes "more than 65,536 bytes"
refusal_message BufferTooShort = codes "the buffer is too short"

-- with the number of the line in front, where a line is to blame
abbrev pub refused_message : RefusedText → List ℕ
refused_message refused =
    if nat_eq refused.line 0 then refusal_message refused.refusal
    else codes "line " ++ (decimal refused.line ++ (codes ": " ++ refusal_message refused.refusal))
