-- Names that are bound anew, and the resolvers that they destroy.
use Rattle.std.specs.Prelude.{◌≡◌, ◌+◌, ◌<◌, ◌≤◌, Bool, if◌then◌else◌, ℕ, List, length, Option, Some, None}
use Rattle.ipdl_base.specs.declared.kinds.Reason.TheVariants.{ResolverDestroyed}
use Rattle.ipdl_base.specs.declared.kinds.Side.{Side}
use Rattle.ipdl_base.specs.declared.line.What.TheVariants as what
use Rattle.ipdl_base.specs.declared.message.Body.TheVariants.{Fault}
use Rattle.ipdl_base.specs.declared.message.Message.{Message}
use Rattle.ipdl_base.specs.declared.schema.Schema.{Schema}
use Rattle.value_types.specs.declared.layout.TheConstants.{NEW}
use Rattle.value_codec.specs.Spelling.{frame_bytes}
use Rattle.channel_model.specs.Ends as model
use Rattle.channel_model.specs.Names.{held_by_name}
use Rattle.channel_model.specs.Outputs.{AnsweredRequest, line_at, reply_to, resolver_answered}
use Rattle.end_parts.specs.declared.packet.Packet.TheVariants.{Bytes}
use Rattle.end_steps.specs.declared.renaming.DestroyedReply.{DestroyedReply}
use Rattle.end_steps.specs.declared.renaming.NewName.{NewName}
use Rattle.end_parts.specs.NamesView.{NamesView}
use Rattle.end_parts.specs.OutputView.{OutputView, with_line, with_packet}

-- what answers a request whose resolver is destroyed
abbrev pub destroyed_message : AnsweredRequest → Message
destroyed_message q = reply_to q (Fault ResolverDestroyed)

-- that in its frame
abbrev pub destroyed_frame : Schema → AnsweredRequest → DestroyedReply
destroyed_frame schema q = record { seq = q.seq; frame = frame_bytes NEW schema (destroyed_message q) }

-- what answers when a name is bound anew: only an open end answers, and only for a resolver
abbrev pub destroyed_of : Bool → Schema → Option model.NameContent → Option DestroyedReply
destroyed_of is_open schema None = None
destroyed_of is_open schema (Some (model.actor id)) = None
destroyed_of is_open schema (Some (model.resolver r)) = if is_open then Some (destroyed_frame schema (resolver_answered r)) else None

-- the output after that answer
abbrev pub with_destroyed : Side → OutputView → Option DestroyedReply → OutputView
with_destroyed side out None = out
with_destroyed side out (Some reply) = with_packet (with_line out (line_at side (what.AnswerFault reply.seq ResolverDestroyed))) (Bytes reply.frame)

-- All is there for a new binding of a name: its copies, the answer for the resolver that it has, and room.
pub record IsNewName (schema : Schema) (is_open : Bool) (name : List ℕ) (new : NewName) (names : NamesView) (before after : OutputView) : Type 0 where
  pub shown : new.shown ≡ name
  pub held : new.held ≡ name
  pub destroyed : new.destroyed ≡ destroyed_of is_open schema (held_by_name name names.names)
  pub room : 0 < names.spare
  pub lines : before.lines_owed + 2 ≤ after.line_spare
  pub packets : length before.frames + 2 ≤ after.packet_spare
