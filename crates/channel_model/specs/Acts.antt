-- What an end does when it names an actor, closes or dies.
use Rattle.std.specs.Prelude.{ℕ, ℤ, pos, int_lt, Bool, not, if◌then◌else◌, List, [], Option, Some, None}
use Rattle.ipdl_base.specs.declared.line.What.TheVariants as what
use Rattle.ipdl_base.specs.declared.kinds.Destroy.TheVariants.{NormalShutdown}
use Rattle.ipdl_base.specs.declared.kinds.SendRefusal.{SendRefusal}
use Rattle.ipdl_base.specs.declared.kinds.SendRefusal.TheVariants as refusal
use Rattle.ipdl_base.specs.declared.message.Body.TheVariants.{Goodbye}
use Rattle.ipdl_base.specs.declared.message.Message.{Message}
use Rattle.nesting_core.specs.Frames.{has_wait}
use Rattle.ipdl_base.specs.declared.kinds.EndState.TheVariants.{Dead}
use Rattle.ipdl_base.specs.Sides.{goodbye_number}
use Rattle.channel_model.specs.Ends.{End, actor, message, mark}
use Rattle.channel_model.specs.Falls.{closed}
use Rattle.channel_model.specs.Names.{renamed}
use Rattle.channel_model.specs.Outputs.{Change, ◌▷◌, on_end, line, put, when_open, is_open, is_dead_end}
use Rattle.channel_model.specs.Sends.{frames_of}

abbrev pub is_positive : ℤ → Bool
is_positive id = int_lt (pos 0) id

-- an actor gets a name; an id that is not positive is no actor
abbrev pub name_actor : List ℕ → ℤ → Change
name_actor name id = line (what.Let name (if is_positive id then id else pos 0)) ▷ renamed name (if is_positive id then Some (actor id) else None)

abbrev pub goodbye : Message
goodbye = record { route = pos 0; number = goodbye_number; seq = pos 0; transaction = pos 0; made = pos 0; body = Goodbye }

-- why a close is refused
abbrev pub close_refusal : End → Option SendRefusal
close_refusal e = if not (is_open e.state) then Some refusal.Closed else (if has_wait (frames_of e) then Some refusal.InCall else None)

abbrev pub close_unless : Option SendRefusal → Change
close_unless None = line what.Close ▷ put (message goodbye) ▷ closed NormalShutdown
close_unless (Some cause) = line (what.RefusedClose cause)

-- a close, or its refusal
abbrev pub close : End → Change
close e = close_unless (close_refusal e)

abbrev pub may_die : End → Bool
may_die e = not (is_dead_end e.state)

-- a death: a mark follows what was sent, and nothing is settled
abbrev pub die : Change
die = line what.Die ▷ when_open (put mark) ▷ on_end (λ e. record e { state = Dead; stack = []; arrived = [] })
