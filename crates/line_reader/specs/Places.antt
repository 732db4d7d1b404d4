-- What an iterator of the places of lines gives. Assumes nothing.
use Rattle.std.specs.Prelude.{Option, MatchOption}
use Rattle.lines.specs.declared.Line.{Line}
use Rattle.line_reader.specs.declared.LinePlaces.{LinePlaces}
use Rattle.line_reader.specs.Reader.{TookLine, TookNone}

-- its reader took the line; or none is left to the reader
abbrev pub TookPlace : LinePlaces → Option Line → LinePlaces → Type 0
TookPlace before found after =
    MatchOption found (TookNone before.reader after.reader) (λ line. TookLine before.reader after.reader line)
