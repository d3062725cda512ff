-- The states of both sides at the end of a run are a relay: packets and stamps that came to each are a prefix of what the other has sent.
use Rattle.std.proofs.Common.{◌≡◌, ◌⊎◌, inl, inr, ⊎_elim, Bool, true, false, ◌&&◌, ◌||◌, is_some, ℕ, List, [], ◌∷◌, ◌++◌, drop, length, map, None, refl, sym, ap, subst, ◌∙◌, append-nil, append_assoc}
use Rattle.std.proofs.lemmas.List.{append_cancel_left, map-append}
use Rattle.std.proofs.Math.Seq.{drop-append_seam}
use Rattle.std.specs.List.{AllByRecursion}
use Rattle.handler_script.specs.ScriptOf.{first_of}
use Rattle.channel_core.specs.EndView.{IsFramed, packet_of, packets_of}
use Rattle.channel_model.specs.Ends as model
use Rattle.ipdl_base.specs.Sides.{other}
use Rattle.channel_model.specs.Outputs.{is_open}
use Rattle.end_parts.specs.declared.packet.Packet.{Packet}
use Rattle.end_parts.specs.declared.packet.Packet.TheVariants.{Broken}
use Rattle.end_parts.specs.PacketReading.{packet_read}
use Rattle.ipdl_base.specs.declared.kinds.Side.{Side}
use Rattle.ipdl_base.specs.declared.kinds.Side.TheVariants as sides
use Rattle.ipdl_base.specs.declared.schema.Schema.{Schema}
use Rattle.law_statements.specs.Prefix.{IsPrefix}
use Rattle.relay_history.specs.Stamps.{StampedHalf}
use Rattle.relay_history.proofs.Stamps.{stamped_relays_run}
use Rattle.relay_runs.specs.HalfRuns.{own_event}
use Rattle.relay_runs.specs.RelaySteps.{IsRelay, RelayState, half_of, next_packet}
use Rattle.relay_runs.specs.Relays.{ComeInOrder, EndsAs, Relayed}
use Rattle.script_steps.specs.Choices.{Setting}
use Rattle.script_steps.specs.Turns.{RunEnding, at_limit, at_rest}
use Rattle.world_core.specs.declared.answers.RunAnswer.{RunAnswer}
use Rattle.world_core.specs.declared.answers.RunAnswer.TheVariants as run
use Rattle.world_core.specs.HalfView.{HalfView}
use Rattle.world_core.specs.Relaying.{came_by}
use Rattle.queue_link.specs.declared.packets.StampedPacket.{StampedPacket}
use Rattle.queue_link.specs.Stamping.{packets_in, stamps_in}
use Rattle.queue_link.specs.Work.{BothEnd, EndsRelay, IsReadBack, IsOrdered, IsResting, IsSpent, PacketView, Stands, StandsSomehow}

-- What is left of packets after those that were taken.
record IsFront (schema : Schema) (sent taken : List model.Packet) (held : List Packet) : Type 0 where
  waiting : List model.Packet
  is : sent ≡ taken ++ waiting
  held_is : held ≡ packets_of schema waiting

abbrev head-of : Packet → List Packet → Packet
head-of p [] = p
head-of p (first ∷ rest) = first

abbrev rest-of : List Packet → List Packet
rest-of [] = []
rest-of (first ∷ rest) = rest

module _ (schema : Schema) where
  abbrev read : Packet → model.Packet
  read packet = came_by (packet_read schema packet)

  -- what was popped is read as a prefix of what was sent
  front : (popped : List Packet) (sent : List model.Packet) (held : List Packet) → AllByRecursion (IsReadBack schema) popped → AllByRecursion (IsFramed schema) sent → packets_of schema sent ≡ popped ++ held → IsFront schema sent (map read popped) held
  front [] sent held reads framed same = record { waiting = sent; is = refl; held_is = sym same }
  front (p ∷ ps) [] held reads framed same = cc
  front (p ∷ ps) (s ∷ ss) held reads framed same =
      let first : read p ≡ s = ap came_by (reads.0 s framed.0 (sym (ap (head-of Broken) same))) in
      let f : IsFront schema ss (map read ps) held = front ps ss held reads.1 framed.1 (ap rest-of same) in
      record {
        waiting = f.waiting;
        is = ap (λ (p : model.Packet). p ∷ ss) (sym first) ∙ ap (λ (ps : List model.Packet). read p ∷ ps) f.is;
        held_is = f.held_is;
      }

-- Lists

none-mapped : {A B : Type 0} (f : A → B) (xs : List A) → [] ≡ map f xs → xs ≡ []
none-mapped f [] e = refl
none-mapped f (x ∷ xs) e = cc

-- Whether something is left to do

nothing-left : (own opened next : Bool) → own ≡ false → (opened ≡ false) ⊎ (next ≡ false) → own || opened && next ≡ false
nothing-left true opened next h e = cc
nothing-left false false next h e = refl
nothing-left false true next h (inl e) = cc
nothing-left false true next h (inr e) = e

own-left : (own opened next : Bool) → own ≡ true → own || opened && next ≡ true
own-left true opened next h = refl
own-left false opened next h = cc

packet-left : (own opened next : Bool) → opened ≡ true → next ≡ true → own || opened && next ≡ true
packet-left true opened next h e = refl
packet-left false true next h e = e
packet-left false false next h e = cc

module _ (setting : Setting) where
  -- What one side has taken is a prefix of what the other has sent.
  module _ (side other_side : Side) (pushed popped pushed_there popped_there : List StampedPacket) (half half_there : HalfView) where
    taken-front : (in_hands hands_there : List model.Packet) (here : Stands setting side pushed popped half in_hands) (there : Stands setting other_side pushed_there popped_there half_there hands_there) (held : List StampedPacket) → pushed_there ≡ popped ++ held
        → IsFront setting.schema there.state.sent (here.state.came ++ in_hands) (packets_in held)
    taken-front in_hands hands_there here there held order =
        subst (λ (ps : List model.Packet). IsFront setting.schema there.state.sent ps (packets_in held)) (sym here.pops.is)
        (front setting.schema (packets_in popped) there.state.sent (packets_in held) here.pops.reads there.goes.framed
        (sym there.pushes ∙ ap packets_in order ∙ map-append (λ (v : StampedPacket). v.packet) popped held))

    -- and so are the stamps of what came
    taken-stamps : (in_hands hands_there : List model.Packet) (here : Stands setting side pushed popped half in_hands) (there : Stands setting other_side pushed_there popped_there half_there hands_there) (held : List StampedPacket) → pushed_there ≡ popped ++ held
        → IsPrefix here.stamps.came (stamps_in pushed_there)
    taken-stamps in_hands hands_there here there held order = (
      here.stamps.hands ++ stamps_in held,
      ap stamps_in order ∙ map-append (λ (v : StampedPacket). v.stamp.at) popped held ∙ ap (λ (ns : List ℕ). ns ++ stamps_in held) here.stamps.popped_is
          ∙ append_assoc here.stamps.came here.stamps.hands (stamps_in held),
    )

  module _ (parent child : HalfView) (down up : PacketView) (down_order : IsOrdered down) (up_order : IsOrdered up) where
    module _ (parent_hands child_hands : List model.Packet) (p : Stands setting sides.Parent down.pushed up.popped parent parent_hands) (c : Stands setting sides.Child up.pushed down.popped child child_hands) where
      -- the relay of these ends
      abbrev relay : RelayState
      relay = record { parent = p.state; child = c.state }

      to-parent : IsFront setting.schema c.state.sent (p.state.came ++ parent_hands) (packets_in up_order.0)
      to-parent = taken-front sides.Parent sides.Child down.pushed up.popped up.pushed down.popped parent child parent_hands child_hands p c up_order.0 up_order.1

      to-child : IsFront setting.schema p.state.sent (c.state.came ++ child_hands) (packets_in down_order.0)
      to-child = taken-front sides.Child sides.Parent up.pushed down.popped down.pushed up.popped child parent child_hands parent_hands c p down_order.0 down_order.1

      parent-order : c.state.sent ≡ p.state.came ++ (parent_hands ++ to-parent.waiting)
      parent-order = to-parent.is ∙ append_assoc p.state.came parent_hands to-parent.waiting

      child-order : p.state.sent ≡ c.state.came ++ (child_hands ++ to-child.waiting)
      child-order = to-child.is ∙ append_assoc c.state.came child_hands to-child.waiting

      -- what was pushed by each side, and of that what came to the other
      abbrev sent-stamps : Side → List ℕ
      sent-stamps sides.Parent = stamps_in down.pushed
      sent-stamps sides.Child = stamps_in up.pushed

      abbrev came-stamps : Side → List ℕ
      came-stamps sides.Parent = p.stamps.came
      came-stamps sides.Child = c.stamps.came

      stamped-at : (side : Side) → StampedHalf setting side (half_of side relay) (sent-stamps side) (came-stamps side)
      stamped-at sides.Parent = p.stamps.stamped
      stamped-at sides.Child = c.stamps.stamped

      order-at : (side : Side) → ComeInOrder side relay
      order-at sides.Parent = (parent_hands ++ to-parent.waiting, parent-order)
      order-at sides.Child = (child_hands ++ to-child.waiting, child-order)

      prefix-at : (side : Side) → IsPrefix (came-stamps side) (sent-stamps (other side))
      prefix-at sides.Parent = taken-stamps sides.Parent sides.Child down.pushed up.popped up.pushed down.popped parent child parent_hands child_hands p c up_order.0 up_order.1
      prefix-at sides.Child = taken-stamps sides.Child sides.Parent up.pushed down.popped down.pushed up.popped child parent child_hands parent_hands c p down_order.0 down_order.1

      is-relay : IsRelay setting relay
      is-relay = stamped_relays_run setting relay (record { sent = sent-stamps; came = came-stamps; halves = stamped-at; packets = order-at; stamps = prefix-at })

      -- what comes to the parent next is the first in its hands, or else of what waits; and so with the child
      parent-next : next_packet sides.Parent relay ≡ first_of (parent_hands ++ to-parent.waiting)
      parent-next = ap first_of (ap (drop (length p.state.came)) parent-order ∙ drop-append_seam p.state.came (parent_hands ++ to-parent.waiting))

      child-next : next_packet sides.Child relay ≡ first_of (child_hands ++ to-child.waiting)
      child-next = ap first_of (ap (drop (length c.state.came)) child-order ∙ drop-append_seam c.state.came (child_hands ++ to-child.waiting))

      -- such lines, where it ends so
      relayed-at : (ending : RunEnding) → EndsAs setting relay ending → Relayed setting parent.history child.history ending
      relayed-at ending ends = record { state = relay; relay = is-relay; parent_lines = sym p.goes.history; child_lines = sym c.goes.history; ends = ends }

    none-waits : (pushed popped held : List StampedPacket) → pushed ≡ popped ++ held → pushed ≡ popped → held ≡ []
    none-waits pushed popped held order same = append_cancel_left popped held [] (sym order ∙ (same ∙ sym (append-nil popped)))

    -- neither has anything left to do
    finished : IsResting setting sides.Parent down.pushed up parent → IsResting setting sides.Child up.pushed down child → up.pushes ≡ true → down.pushes ≡ true → Relayed setting parent.history child.history at_rest
    finished p c may_up may_down =
        let parent_none : (up.pushed ≡ up.popped) → next_packet sides.Parent (relay [] [] p.work c.work) ≡ None =
        λ same. parent-next [] [] p.work c.work ∙ ap first_of (none-mapped (packet_of setting.schema) (to-parent [] [] p.work c.work).waiting (sym (ap packets_in (none-waits up.pushed up.popped up_order.0 up_order.1 same)) ∙ (to-parent [] [] p.work c.work).held_is))
        in
        let child_none : (down.pushed ≡ down.popped) → next_packet sides.Child (relay [] [] p.work c.work) ≡ None =
        λ same. child-next [] [] p.work c.work ∙ ap first_of (none-mapped (packet_of setting.schema) (to-child [] [] p.work c.work).waiting (sym (ap packets_in (none-waits down.pushed down.popped down_order.0 down_order.1 same)) ∙ (to-child [] [] p.work c.work).held_is))
        in
        relayed-at [] [] p.work c.work at_rest (
          nothing-left (is_some (own_event setting sides.Parent p.work.state)) (is_open p.work.state.end.state) (is_some (next_packet sides.Parent (relay [] [] p.work c.work))) (ap is_some p.none)
              (⊎_elim inl (λ waits. inr (ap is_some (parent_none (waits may_up)))) p.no_packet),
          nothing-left (is_some (own_event setting sides.Child c.work.state)) (is_open c.work.state.end.state) (is_some (next_packet sides.Child (relay [] [] p.work c.work))) (ap is_some c.none)
              (⊎_elim inl (λ waits. inr (ap is_some (child_none (waits may_down)))) c.no_packet),
        )

    -- one side has something left to do, but has reached the limit
    parent-spent : (p : IsSpent setting sides.Parent down.pushed up.popped parent) → StandsSomehow setting sides.Child up.pushed down.popped child → Relayed setting parent.history child.history (at_limit sides.Parent)
    parent-spent p c =
        let state : RelayState = relay p.in_hands c.in_hands p.stands c.stands in
        let own : Bool = is_some (own_event setting sides.Parent p.stands.state) in
        let opened : Bool = is_open p.stands.state.end.state in
        let next : Bool = is_some (next_packet sides.Parent state) in
        relayed-at p.in_hands c.in_hands p.stands c.stands (at_limit sides.Parent) (
          ⊎_elim (own-left own opened next)
              (λ left. packet-left own opened next left.2
              (ap is_some (parent-next p.in_hands c.in_hands p.stands c.stands) ∙ ap (λ (ps : List model.Packet). is_some (first_of (ps ++ (to-parent p.in_hands c.in_hands p.stands c.stands).waiting))) left.1))
              p.left,
          p.full,
        )

    child-spent : StandsSomehow setting sides.Parent down.pushed up.popped parent → (c : IsSpent setting sides.Child up.pushed down.popped child) → Relayed setting parent.history child.history (at_limit sides.Child)
    child-spent p c =
        let state : RelayState = relay p.in_hands c.in_hands p.stands c.stands in
        let own : Bool = is_some (own_event setting sides.Child c.stands.state) in
        let opened : Bool = is_open c.stands.state.end.state in
        let next : Bool = is_some (next_packet sides.Child state) in
        relayed-at p.in_hands c.in_hands p.stands c.stands (at_limit sides.Child) (
          ⊎_elim (own-left own opened next)
              (λ left. packet-left own opened next left.2
              (ap is_some (child-next p.in_hands c.in_hands p.stands c.stands) ∙ ap (λ (ps : List model.Packet). is_some (first_of (ps ++ (to-child p.in_hands c.in_hands p.stands c.stands).waiting))) left.1))
              c.left,
          c.full,
        )

    -- both ended so
    pub ends-relay : (answer : RunAnswer) → up.pushes ≡ true → down.pushes ≡ true → BothEnd setting down up answer parent child → EndsRelay setting answer parent child
    ends-relay run.Finished may_up may_down ends = finished ends.0 ends.1 may_up may_down
    ends-relay (run.Spent sides.Parent) may_up may_down ends = parent-spent ends.0 ends.1
    ends-relay (run.Spent sides.Child) may_up may_down ends = child-spent ends.0 ends.1
    ends-relay run.NoMemory may_up may_down ends = tt
