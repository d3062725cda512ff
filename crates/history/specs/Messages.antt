-- Which message a number refers to at an end, by the lines so far.
use Rattle.std.specs.Prelude.{ℕ, ℤ, Bool, true, false, if◌then◌else◌, List, [], ◌∷◌, Option, Some, None, is_some, option_and_then}
use Rattle.std.specs.Ordering.{int_eq}
use Rattle.ipdl_base.specs.declared.kinds.Side.{Side}
use Rattle.ipdl_base.specs.Lines.{same_side}
use Rattle.ipdl_base.specs.declared.line.Line.{Line}
use Rattle.ipdl_base.specs.declared.line.What.{What}
use Rattle.ipdl_base.specs.declared.line.What.TheVariants as what

-- the number of a request and its message, if a line gives them: the line of a send, a call or a take does
abbrev pub given : What → Option (ℤ × ℕ)
given (what.Send number route message values) = Some (number, message)
given (what.Call number transaction route message values) = Some (number, message)
given (what.Take number route message values) = Some (number, message)
given _ = None

-- the message that a line gives this number at this end
abbrev pub message_at : Side → ℤ → Line → Option ℕ
message_at end n line = if same_side line.side end then option_and_then (λ g. if int_eq g.0 n then Some g.1 else None) (given line.what) else None

-- the message of a number at an end: the one that the end's last line with this number gives
abbrev pub message_of_number : Side → List Line → ℤ → Option ℕ
message_of_number end [] n = None
message_of_number end (line ∷ rest) n = if is_some (message_of_number end rest n) then message_of_number end rest n else message_at end n line
