-- In every run the actors that live can be built and the requests can be sent.
use Rattle.std.proofs.Common.{◌≡◌, ℕ, List, [], ◌∷◌, ◌++◌, drop, Option, Some, None, refl, subst}
use Rattle.std.specs.List.{AllByRecursion}
use Rattle.ipdl_base.specs.declared.kinds.Side.{Side}
use Rattle.ipdl_base.specs.declared.kinds.Side.TheVariants.{Parent, Child}
use Rattle.ipdl_base.specs.declared.line.What.{What}
use Rattle.ipdl_base.specs.declared.schema.Schema.{Schema}
use Rattle.channel_model.specs.Ends.{End, World, Packet, opening, opening_end}
use Rattle.channel_model.specs.Events.{Event, Move}
use Rattle.channel_model.specs.Events as event
use Rattle.ipdl_base.specs.Sides.{other}
use Rattle.channel_model.specs.Outputs.{Output}
use Rattle.channel_model.specs.Parts.{OwnParts}
use Rattle.channel_model.specs.Phases.{Phase}
use Rattle.channel_model.specs.Runs.{after_event, output_of, passed_by, happens, run}
use Rattle.channel_model.specs.StepLaws.{IsStepOfParts}
use Rattle.channel_model.proofs.Known.{all-append}
use Rattle.channel_model.proofs.StepParts.{steps_are_made_of_parts}
use Rattle.channel_laws.proofs.TwoEnds.{first-is}
use Rattle.wait_report.specs.Sendable.{is_top}
use Rattle.wait_laws.specs.SendableWorlds.{PacketIsSendable, IsSendableEnd, IsSendableWorld, SendableInEveryRun}
use Rattle.wait_laws.proofs.SendableParts.{Stays, own-stays, delivery-stays}

module _ (schema : Schema) (top : ℕ) where
  -- An end after a step, the link toward it and the link away from it.
  record Moved (side : Side) (next : End) (to_me to_them : List Packet) : Type 0 where
    keeps : IsSendableEnd schema top side next
    comes : AllByRecursion (PacketIsSendable schema top (other side)) to_me
    goes : AllByRecursion (PacketIsSendable schema top side) to_them

  acts : (side : Side) (mine next : End) (to_me to_them ps : List Packet) (ws : List What) (q : Phase) → OwnParts schema mine ws ps next q → IsSendableEnd schema top side mine → AllByRecursion (PacketIsSendable schema top (other side)) to_me → AllByRecursion (PacketIsSendable schema top side) to_them → Moved side next to_me (to_them ++ ps)
  acts side mine next to_me to_them ps ws q parts k comes goes =
      let s : Stays schema top side next ps q = own-stays schema top side parts k in
      record { keeps = s.keeps; comes = comes; goes = all-append (PacketIsSendable schema top side) to_them ps goes s.packets }

  moved : (side : Side) (ev : Event) (mine : End) (to_me to_them : List Packet) (o : Output) → IsSendableEnd schema top side mine → AllByRecursion (PacketIsSendable schema top (other side)) to_me → AllByRecursion (PacketIsSendable schema top side) to_them → IsStepOfParts schema mine to_me ev o
      → Moved side o.end (after_event ev to_me) (to_them ++ o.packets)
  moved side event.deliver mine to_me to_them o k comes goes (packet, first, opened, s) =
      let all : AllByRecursion (PacketIsSendable schema top (other side)) (packet ∷ drop 1 to_me) = subst (AllByRecursion (PacketIsSendable schema top (other side))) (first-is to_me packet first) comes in
      let d : Stays schema top side o.end o.packets s.phase = delivery-stays schema top side s.parts all.0 k in
      record { keeps = d.keeps; comes = all.1; goes = all-append (PacketIsSendable schema top side) to_them o.packets goes d.packets }
  moved side (event.send route number vs name) mine to_me to_them o k comes goes s = acts side mine o.end to_me to_them o.packets s.whats s.phase s.parts k comes goes
  moved side (event.answer by vs) mine to_me to_them o k comes goes s = acts side mine o.end to_me to_them o.packets s.whats s.phase s.parts k comes goes
  moved side (event.keep seq name) mine to_me to_them o k comes goes s = acts side mine o.end to_me to_them o.packets s.whats s.phase s.parts k comes goes
  moved side (event.name name id) mine to_me to_them o k comes goes s = acts side mine o.end to_me to_them o.packets s.whats s.phase s.parts k comes goes
  moved side event.close mine to_me to_them o k comes goes s = acts side mine o.end to_me to_them o.packets s.whats s.phase s.parts k comes goes
  moved side event.die mine to_me to_them o k comes goes s = acts side mine o.end to_me to_them o.packets s.whats s.phase s.parts k comes goes
  moved side event.take mine to_me to_them o k comes goes s = acts side mine o.end to_me to_them o.packets s.whats s.phase s.parts k comes goes
  moved side (event.return vs) mine to_me to_them o k comes goes s = acts side mine o.end to_me to_them o.packets s.whats s.phase s.parts k comes goes
  moved side event.resume mine to_me to_them o k comes goes s = acts side mine o.end to_me to_them o.packets s.whats s.phase s.parts k comes goes
  moved side event.flush mine to_me to_them o k comes goes s = acts side mine o.end to_me to_them o.packets s.whats s.phase s.parts k comes goes

  following : (side : Side) (ev : Event) (w : World) (found : Option Output) → output_of schema w (record { side = side; event = ev }) ≡ found → IsSendableWorld schema top w → IsSendableWorld schema top (passed_by found (record { side = side; event = ev }) w).world
  following side ev w None is h = h
  following Parent ev w (Some o) is h =
      let m : Moved Parent o.end (after_event ev w.to_parent) (w.to_child ++ o.packets) = moved Parent ev w.parent w.to_parent w.to_child o h.parent h.to_parent h.to_child (steps_are_made_of_parts schema w.parent w.to_parent ev o is) in
      record { parent = m.keeps; child = h.child; to_parent = m.comes; to_child = m.goes }
  following Child ev w (Some o) is h =
      let m : Moved Child o.end (after_event ev w.to_child) (w.to_parent ++ o.packets) = moved Child ev w.child w.to_child w.to_parent o h.child h.to_child h.to_parent (steps_are_made_of_parts schema w.child w.to_child ev o is) in
      record { parent = h.parent; child = m.keeps; to_parent = m.goes; to_child = m.comes }

  runs-sendable : (moves : List Move) (w : World) → IsSendableWorld schema top w → IsSendableWorld schema top (run schema moves w).world
  runs-sendable [] w h = h
  runs-sendable (move ∷ moves) w h = runs-sendable moves (happens schema w move).world (following move.side move.event w (output_of schema w move) refl h)

  first-sendable : (side : Side) → IsSendableEnd schema top side (opening_end top side)
  first-sendable side = record { side_is = refl; actors = (is_top, tt); entries = tt; arrived = tt; outbox = tt }

  opening-sendable : IsSendableWorld schema top (opening top)
  opening-sendable = record { parent = first-sendable Parent; child = first-sendable Child; to_parent = tt; to_child = tt }

pub sendable_in_every_run : SendableInEveryRun
sendable_in_every_run schema top moves = runs-sendable schema top moves (opening top) (opening-sendable schema top)
