-- What the code has made of a step: with its output, the end after it and the room that is left, all that a call
-- promises.
use Rattle.std.proofs.Common.{◌≡◌, suc, ◌≤◌, true, List, length, Some, ap, sym, subst}
use Rattle.ipdl_base.specs.declared.schema.Schema.{Schema}
use Rattle.channel_model.specs.Acts.{goodbye}
use Rattle.channel_model.specs.Ends.{End}
use Rattle.channel_model.specs.Ends as model
use Rattle.channel_model.specs.Events.{Event}
use Rattle.channel_model.specs.Fitting.{IsFittingDelivery}
use Rattle.channel_model.specs.Outputs.{Output, is_open}
use Rattle.channel_model.specs.Steps.{step}
use Rattle.end_parts.specs.OutputView.{OutputView}
use Rattle.channel_core.specs.Inside.{IsInside, IsKept}
use Rattle.channel_core.specs.Room.{room}
use Rattle.channel_core.specs.EndView.{EndView, frame_packet}
use Rattle.channel_core.specs.Steps.{IsStepBy}
use Rattle.channel_core.specs.Tracks.{Tracks}
use Rattle.channel_core.proofs.KeptLemmas.{keeps}
use Rattle.channel_core.proofs.TrackLemmas.{is_step}

-- The code has made this end and this of its output; and it is what the step of an event makes.
pub record Made (v : EndView) (link : List model.Packet) (event : Event) (e : End) (out : OutputView) : Type 0 where
  pub output : Output
  pub steps : step v.schema v.end link event ≡ Some output
  pub tracks : Tracks v output out
  pub ends : e ≡ output.end

-- The output has the room that an end needs.
pub record HasRoom (schema : Schema) (e : End) (out : OutputView) : Type 0 where
  pub owes : room e ≤ out.lines_owed
  pub spare : out.lines_owed ≤ out.line_spare
  pub packets : is_open e.state ≡ true → suc (length out.frames) ≤ out.packet_spare
  pub farewell : is_open e.state ≡ true → out.goodbye ≡ Some (frame_packet schema goodbye)

-- what contracts see of an end with these
abbrev pub seen_as : EndView → End → OutputView → EndView
seen_as v e out = record { end = e; schema = v.schema; lines = out.lines; packets = out.packets }

-- so the call makes its step
pub made_step : (v : EndView) (link : List model.Packet) (event : Event) (e : End) (out : OutputView) → Made v link event e out → IsStepBy v link event (seen_as v e out)
made_step v link event e out m = is_step v (seen_as v e out) link event m.output out m.steps m.tracks (ap (λ (x : End). seen_as v x out) m.ends)

-- and the invariant is kept, where at most 2^28 requests are sent after it
pub made_inside : (v : EndView) (link : List model.Packet) (event : Event) (e : End) (out out' : OutputView) → Made v link event e out' → IsInside v.schema v.end out → e.sent ≤ 268435456 → IsFittingDelivery v.schema v.end link event → HasRoom v.schema e out' → IsInside v.schema e out'
made_inside v link event e out out' m inside few fits r = record {
  sound = inside.sound;
  owes = r.owes;
  spare = r.spare;
  packets = r.packets;
  frames = m.tracks.frames;
  framed = m.tracks.waiting;
  farewell = r.farewell;
  kept = subst (IsKept v.schema) (sym m.ends) (keeps v.schema v.end link event m.output m.steps inside.sound (subst (λ (x : End). x.sent ≤ 268435456) m.ends few) fits inside.kept);
}
