-- What a writer of lines has written.
use Rattle.std.specs.Prelude.{ℕ, List}
use Rattle.ipdl_base.specs.declared.line.Line.{Line}
use Rattle.history.specs.declared.line_writer.LineWriter.{LineWriter}
use Rattle.history.specs.Noted.{Knows}

-- the writer has written exactly these lines: it knows the messages that they give to numbers
abbrev pub HasWritten : List Line → LineWriter → Type 0
HasWritten lines writer = Knows lines writer.messages

-- the text of the newest line
abbrev pub newest_text : LineWriter → List ℕ
newest_text writer = writer.newest.items
