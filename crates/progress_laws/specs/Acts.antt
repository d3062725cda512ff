-- Acts of the program, and what happens by itself: by events, and by the lines of histories.
use Rattle.std.specs.Prelude.{◌≡◌, ℕ, Bool, true, false, not, ◌&&◌, List, Some}
use Rattle.ipdl_base.specs.declared.line.Line.{Line}
use Rattle.ipdl_base.specs.declared.line.What.{What}
use Rattle.ipdl_base.specs.declared.line.What.TheVariants as what
use Rattle.ipdl_base.specs.declared.schema.Schema.{Schema}
use Rattle.ipdl_base.specs.Lines.{is_effect}
use Rattle.channel_model.specs.Ends.{End, Packet}
use Rattle.channel_model.specs.Events.{Event}
use Rattle.channel_model.specs.Events as event
use Rattle.channel_model.specs.Outputs.{Output}
use Rattle.channel_model.specs.Steps.{step}
use Rattle.channel_laws.specs.Counts.{how_many, one_if}

-- Whether an event is an act of the program: it sends, answers, keeps a resolver, names an actor, closes or dies. An act
-- may be refused.
abbrev pub is_act : Event → Bool
is_act (event.send route number vs name) = true
is_act (event.answer by vs) = true
is_act (event.keep seq name) = true
is_act (event.name name id) = true
is_act event.close = true
is_act event.die = true
is_act event.deliver = false
is_act event.take = false
is_act (event.return vs) = false
is_act event.resume = false
is_act event.flush = false

-- All other events happen by themselves: a delivery, a take, the return of a handler, a call that continues, and a
-- flush.
abbrev pub happens_by_itself : Event → Bool
happens_by_itself ev = not (is_act ev)

-- whether a line is that of an act
abbrev pub tells_act : What → Bool
tells_act (what.Send n id message values) = true
tells_act (what.Call n transaction id message values) = true
tells_act (what.RefusedSend cause message) = true
tells_act (what.Resolve n values) = true
tells_act (what.Reject n) = true
tells_act (what.RefusedResolve cause) = true
tells_act (what.RefusedReject cause) = true
tells_act (what.Keep n name) = true
tells_act (what.Let name id) = true
tells_act what.Close = true
tells_act (what.RefusedClose cause) = true
tells_act what.Die = true
tells_act _ = false

-- whether a line is that of an event that happens by itself: neither an act nor an effect
abbrev pub tells_by_itself : What → Bool
tells_by_itself w = not (is_effect w) && not (tells_act w)

-- the number of acts in lines, and the number of events that happen by themselves
abbrev pub acts : List Line → ℕ
acts lines = how_many (λ line. tells_act line.what) lines

abbrev pub by_themselves : List Line → ℕ
by_themselves lines = how_many (λ line. tells_by_itself line.what) lines

-- The lines of an event show one act if it is an act, and otherwise one event that happens by itself.
pub record TellEvent (ev : Event) (lines : List Line) : Type 0 where
  pub as_act : acts lines ≡ one_if (is_act ev)
  pub by_itself : by_themselves lines ≡ one_if (happens_by_itself ev)

-- The lines of every event that is possible, at every end, show it so.
abbrev pub LinesTellActs : Type 0
LinesTellActs = (schema : Schema) (e : End) (link : List Packet) (ev : Event) (output : Output) → step schema e link ev ≡ Some output → TellEvent ev output.lines
