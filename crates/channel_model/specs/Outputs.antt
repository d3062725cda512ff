-- What a step makes: the new end, its lines and its packets. Also the changes from which steps are built.
use Rattle.std.specs.Prelude.{ℕ, ◌+◌, ℤ, pos, Bool, true, false, List, [], ◌∷◌, ◌++◌, map}
use Rattle.ipdl_base.specs.declared.line.Line.{Line}
use Rattle.ipdl_base.specs.declared.line.What.{What}
use Rattle.ipdl_base.specs.declared.line.What.TheVariants as what
use Rattle.ipdl_base.specs.declared.kinds.Side.{Side}
use Rattle.ipdl_base.specs.declared.kinds.Reason.TheVariants.{ResolverDestroyed}
use Rattle.ipdl_base.specs.declared.message.Body.{Body}
use Rattle.ipdl_base.specs.declared.message.Body.TheVariants.{Reply, Fault}
use Rattle.ipdl_base.specs.declared.message.Message.{Message}
use Rattle.nesting_core.specs.declared.frame.Answer.{Answer}
use Rattle.nesting_core.specs.declared.frame.Answer.TheVariants as answer
use Rattle.ipdl_base.specs.declared.kinds.EndState.{EndState}
use Rattle.ipdl_base.specs.declared.kinds.EndState.TheVariants.{Open, Draining, Closed, Dead}
use Rattle.channel_model.specs.Ends.{End, Packet, message, Resolver}

-- The end, the lines and the packets of a step so far.
pub record Output : Type 0 where
  pub end : End
  pub lines : List Line
  pub packets : List Packet

-- the output before any change of a step
abbrev pub beginning : End → Output
beginning e = record { end = e; lines = []; packets = [] }

abbrev pub Change : Type 0
Change = Output → Output

abbrev pub unchanged : Change
unchanged output = output

infixr 4 ◌▷◌
-- one change, and then another
abbrev pub ◌▷◌ : Change → Change → Change
(first ▷ second) output = second (first output)

-- a change under a condition
abbrev pub when : Bool → Change → Change
when true change output = change output
when false change output = output

-- a change of the end alone
abbrev pub on_end : (End → End) → Change
on_end change output = record output { end = change output.end }

abbrev pub line_at : Side → What → Line
line_at side what = record { side = side; what = what }

-- prints a line
abbrev pub line : What → Change
line what output = record output { lines = output.lines ++ line_at output.end.side what ∷ [] }

-- prints lines, one after another
abbrev pub lines : List What → Change
lines whats output = record output { lines = output.lines ++ map (line_at output.end.side) whats }

-- sends a packet, after all that waits in the outbox
abbrev pub put : Packet → Change
put packet output = record output {
  end = record output.end { outbox = [] };
  packets = output.packets ++ map message output.end.outbox ++ packet ∷ [];
}

abbrev pub is_open : EndState → Bool
is_open Open = true
is_open Draining = false
is_open Closed = false
is_open Dead = false

abbrev pub is_closed : EndState → Bool
is_closed Open = false
is_closed Draining = false
is_closed Closed = true
is_closed Dead = false

abbrev pub is_dead_end : EndState → Bool
is_dead_end Open = false
is_dead_end Draining = false
is_dead_end Closed = false
is_dead_end Dead = true

-- a change that only an open end makes
abbrev pub when_open : Change → Change
when_open change output = when (is_open output.end.state) change output

-- What the answer to a request repeats from it.
pub record AnsweredRequest : Type 0 where
  pub seq : ℤ
  pub route : ℤ
  pub number : ℕ
  pub transaction : ℤ

abbrev pub request_answered : Message → AnsweredRequest
request_answered m = record { seq = m.seq; route = m.route; number = m.number; transaction = m.transaction }

abbrev pub resolver_answered : Resolver → AnsweredRequest
resolver_answered r = record { seq = r.seq; route = r.route; number = r.number; transaction = pos 0 }

-- the reply to a request, with the number after that of the request
abbrev pub reply_to : AnsweredRequest → Body → Message
reply_to q body = record { route = q.route; number = q.number + 1; seq = q.seq; transaction = q.transaction; made = pos 0; body = body }

abbrev pub body_of : Answer → Body
body_of (answer.Ok vs) = Reply vs
body_of (answer.Fault reason) = Fault reason

abbrev pub answer_line : ℤ → Answer → What
answer_line seq (answer.Ok vs) = what.AnswerOk seq vs
answer_line seq (answer.Fault reason) = what.AnswerFault seq reason

-- a reply with its line, which only an open end sends
abbrev pub answered : AnsweredRequest → Answer → Change
answered q a = when_open (line (answer_line q.seq a) ▷ put (message (reply_to q (body_of a))))

-- a resolver is destroyed
abbrev pub destroyed : Resolver → Change
destroyed r = answered (resolver_answered r) (answer.Fault ResolverDestroyed)
