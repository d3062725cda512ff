-- What is true of every end.
use Rattle.std.specs.Prelude.{◌≡◌, ℕ, suc, ◌≤◌, true, map, length, Some}
use Rattle.std.specs.List.{AllByRecursion}
use Rattle.ipdl_base.specs.declared.schema.Schema.{Schema}
use Rattle.ipdl_base.specs.Sound.{IsSound}
use Rattle.channel_model.specs.Actors.{AreKnown, ids_of}
use Rattle.channel_model.specs.Acts.{goodbye}
use Rattle.channel_model.specs.Bounds.{IsCounted}
use Rattle.channel_model.specs.Ends.{End}
use Rattle.channel_model.specs.Fitting.{IsFitting}
use Rattle.channel_model.specs.Outputs.{is_open}
use Rattle.channel_model.specs.Requests.{AreNumbered, requests_of}
use Rattle.channel_model.specs.States.{IsInState}
use Rattle.end_parts.specs.OutputView.{OutputView}
use Rattle.channel_core.specs.Room.{room}
use Rattle.channel_core.specs.EndView.{frame_packet, HasFrame}

-- What every step of the model keeps of an end: its actors are known below the top actor of a protocol, all else is as
-- its state says, its promises are numbered, all that it keeps fits the schema, and its counts are those of a run.
pub record IsKept (schema : Schema) (e : End) : Type 0 where
  pub top : ℕ
  pub known : AreKnown top (ids_of schema e)
  pub in_state : IsInState e
  pub numbered : AreNumbered (requests_of e)
  pub fitting : IsFitting schema e
  pub counted : IsCounted e
  pub few : e.sent ≤ 268435456

-- The schema is sound. There is room for the lines that the end owes, for its outbox, and for a goodbye or a mark. What
-- waits in the outbox has its frames, and an open end has that of its goodbye.
pub record IsInside (schema : Schema) (e : End) (out : OutputView) : Type 0 where
  pub sound : IsSound schema
  pub owes : room e ≤ out.lines_owed
  pub spare : out.lines_owed ≤ out.line_spare
  pub packets : is_open e.state ≡ true → suc (length out.frames) ≤ out.packet_spare
  pub frames : out.frames ≡ map (frame_packet schema) out.outbox
  pub framed : AllByRecursion (HasFrame schema) out.outbox
  pub farewell : is_open e.state ≡ true → out.goodbye ≡ Some (frame_packet schema goodbye)
  pub kept : IsKept schema e
