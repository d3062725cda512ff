-- An end as it begins.
use Rattle.std.proofs.Common.{◌≡◌, ℕ, ◌≤◌, List, [], ◌∷◌, map, Some, refl, sym, subst, arith}
use Rattle.actor_tree.specs.declared.actor.Actor.{Actor}
use Rattle.actor_tree.specs.Tree.{top}
use Rattle.ipdl_base.specs.declared.kinds.Side.{Side}
use Rattle.ipdl_base.specs.declared.schema.Schema.{Schema}
use Rattle.ipdl_base.specs.Sound.{IsSound}
use Rattle.pending_queue.specs.declared.item.Item.{Item}
use Rattle.pending_queue.specs.Plain.{plain_item}
use Rattle.channel_model.specs.Acts.{goodbye}
use Rattle.channel_model.specs.Ends.{opening_end, StackEntry, PromiseEntry, Naming}
use Rattle.channel_model.proofs.FittingParts.{first_ends_fit}
use Rattle.channel_model.proofs.KnownSteps.{first_actors_are_known}
use Rattle.channel_model.proofs.StateSteps.{first_states}
use Rattle.end_parts.specs.declared.packet.Packet.{Packet}
use Rattle.end_parts.specs.OutputView.{OutputView}
use Rattle.channel_core.specs.Inside.{IsInside}
use Rattle.channel_core.specs.Room.{room}
use Rattle.channel_core.specs.EndView.{frame_packet}

-- the output of a new end
abbrev pub fresh : ℕ → ℕ → ℕ → Packet → OutputView
fresh line_spare packet_spare outbox_spare farewell = record {
  lines = [];
  line_spare = line_spare;
  lines_owed = 3;
  packets = [];
  packet_spare = packet_spare;
  outbox = [];
  outbox_spare = outbox_spare;
  frames = [];
  goodbye = Some farewell;
}

opens : (schema : Schema) (side : Side) (protocol : ℕ) (out : OutputView) → IsSound schema → out ≡ fresh out.line_spare out.packet_spare out.outbox_spare (frame_packet schema goodbye) → 3 ≤ out.line_spare → 1 ≤ out.packet_spare
    → IsInside schema (opening_end protocol side) (fresh out.line_spare out.packet_spare out.outbox_spare (frame_packet schema goodbye))
unfolding room
opens schema side protocol out sound is lines packets = record {
  sound = sound;
  owes = omega arith;
  spare = lines;
  packets = λ e. packets;
  frames = refl;
  framed = tt;
  farewell = λ e. refl;
  kept = record {
    top = protocol;
    known = first_actors_are_known schema protocol side;
    in_state = first_states protocol side;
    numbered = record { promised = tt; distinct = tt };
    fitting = (first_ends_fit schema protocol side).0;
    counted = (first_ends_fit schema protocol side).1;
    few = omega arith;
  };
}

-- an end of parts that are as they begin
pub opens_with : (schema : Schema) (side : Side) (protocol : ℕ) (out : OutputView) (actors : List Actor) (items : List Item) (stack : List StackEntry) (promises : List PromiseEntry) (names : List Naming)
    → IsSound schema → out ≡ fresh out.line_spare out.packet_spare out.outbox_spare (frame_packet schema goodbye) → 3 ≤ out.line_spare → 1 ≤ out.packet_spare → actors ≡ top protocol ∷ [] → items ≡ [] → stack ≡ [] → promises ≡ [] → names ≡ []
    → IsInside schema (record (opening_end protocol side) { actors = actors; arrived = map plain_item items; stack = stack; promises = promises; names = names; outbox = out.outbox }) out
opens_with schema side protocol out actors items stack promises names sound is lines packets a i s p n =
    rw (a, i, s, p, n) (subst (λ (g : OutputView). IsInside schema (record (opening_end protocol side) { outbox = g.outbox }) g) (sym is) (opens schema side protocol out sound is lines packets))
