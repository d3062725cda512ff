-- The stamps of what is pushed are above those of what was popped.
use Rattle.std.proofs.Common.{◌≡◌, ℕ, ◌≤◌, ◌+◌, List, [], ◌∷◌, ◌++◌, length, map, None, refl, sym, ap, subst, ◌∙◌, append-nil, append_assoc, arith}
use Rattle.std.proofs.lemmas.List.{append_cancel_left, length-map, map-append, nil_from_length}
use Rattle.std.specs.List.{AllByRecursion}
use Rattle.channel_model.specs.Ends as model
use Rattle.ipdl_base.specs.declared.kinds.Side.{Side}
use Rattle.relay_history.specs.Stamps.{IsAbove, StampedHalf, acts, gets}
use Rattle.relay_runs.specs.HalfRuns.{HalfState, after, after_packet, delivered_for, own_event}
use Rattle.script_steps.specs.Choices.{Setting}
use Rattle.world_core.specs.HalfView.{HalfView}
use Rattle.world_core.specs.Relaying.{GoesApart, HasAccepted, HasActed}
use Rattle.queue_link.specs.declared.packets.StampedPacket.{StampedPacket}
use Rattle.queue_link.specs.Stamping.{HasStamps, next_stamp, stamps_in}

-- The next stamp is above all

higher : (stamps : List ℕ) (n m : ℕ) → n ≤ m → IsAbove stamps n → IsAbove stamps m
higher [] n m few h = tt
higher (stamp ∷ stamps) n m few h = (let first = h.0 in omega (arith, few, first), higher stamps n m few h.1)

above-next : (stamps : List ℕ) → IsAbove stamps (next_stamp stamps)
above-next [] = tt
above-next (stamp ∷ stamps) = (omega arith, higher stamps (next_stamp stamps) (stamp + next_stamp stamps + 1) (omega arith) (above-next stamps))

-- the next stamp, for each of these packets
abbrev next-for : List ℕ → List model.Packet → List ℕ
next-for came packets = map (λ packet. next_stamp came) packets

all-above : (came : List ℕ) (packets : List model.Packet) → AllByRecursion (IsAbove came) (next-for came packets)
all-above came [] = tt
all-above came (packet ∷ packets) = (above-next came, all-above came packets)

module _ (setting : Setting) (side : Side) where
  -- what a half has, by what it has handed out
  held-is : (state : HalfState) (handed held : List model.Packet) (half : HalfView) (goes : GoesApart setting side state handed half) → state.sent ≡ handed ++ held → goes.held ≡ held
  held-is state handed held half goes is = append_cancel_left handed goes.held held (sym goes.sent ∙ is)

  -- nothing is in its hands
  pub stamped-work : (state : HalfState) (pushed popped : List StampedPacket) → HasStamps setting side state pushed popped [] → StampedHalf setting side state (stamps_in pushed) (stamps_in popped)
  stamped-work state pushed popped has =
      subst (λ (came : List ℕ). StampedHalf setting side state (stamps_in pushed) came) (sym (has.popped_is ∙ ap (λ (ns : List ℕ). has.came ++ ns) (nil_from_length has.hands has.many) ∙ append-nil has.came)) has.stamped

  pub work-stamps : (state : HalfState) (pushed popped : List StampedPacket) → StampedHalf setting side state (stamps_in pushed) (stamps_in popped) → HasStamps setting side state pushed popped []
  work-stamps state pushed popped stamped = record { came = stamps_in popped; hands = []; many = refl; popped_is = sym (append-nil (stamps_in popped)); stamped = stamped }

  -- Steps

  module _ (state : HalfState) (pushed popped : List StampedPacket) (half' : HalfView) (stamped : StampedHalf setting side state (stamps_in pushed) (stamps_in popped)) where
    pub acted-stamps : (has : HasActed setting side state state.sent half') → StampedHalf setting side (after state has.output) (stamps_in pushed ++ next-for (stamps_in popped) has.goes.held) (stamps_in popped)
    acted-stamps has =
        let held = held-is (after state has.output) state.sent has.output.packets half' has.goes refl in
        acts state (stamps_in pushed) (stamps_in popped) (next-for (stamps_in popped) has.goes.held) has.own has.output stamped has.within has.is_own has.is_step
        (length-map has.goes.held (λ packet. next_stamp (stamps_in popped)) ∙ ap length held) (all-above (stamps_in popped) has.goes.held)

    -- what was popped is one packet more
    more-popped : (value : StampedPacket) → stamps_in (popped ++ value ∷ []) ≡ stamps_in popped ++ value.stamp.at ∷ []
    more-popped value = map-append (λ (v : StampedPacket). v.stamp.at) popped (value ∷ [])

    pub accepted-stamps : (value : StampedPacket) (came : model.Packet) → own_event setting side state ≡ None → (has : HasAccepted setting side state state.sent came half')
        → StampedHalf setting side (after_packet state came (delivered_for setting.schema state.end came) has.output) (stamps_in pushed ++ next-for (stamps_in (popped ++ value ∷ [])) has.goes.held) (stamps_in (popped ++ value ∷ []))
    accepted-stamps value came none has =
        let next : HalfState = after_packet state came (delivered_for setting.schema state.end came) has.output in
        let held = held-is next state.sent has.output.packets half' has.goes refl in
        let all : List ℕ = stamps_in popped ++ value.stamp.at ∷ [] in
        subst (λ (ns : List ℕ). StampedHalf setting side next (stamps_in pushed ++ next-for ns has.goes.held) ns) (sym (more-popped value))
        (gets state (stamps_in pushed) (stamps_in popped) (next-for all has.goes.held) came value.stamp.at has.output stamped has.within none has.opened has.is_step
        (length-map has.goes.held (λ packet. next_stamp all) ∙ ap length held) (all-above all has.goes.held))

    -- the packet is in the hands of a half that is spent
    pub spent-stamps : (value : StampedPacket) (packet : model.Packet) → HasStamps setting side state pushed (popped ++ value ∷ []) (packet ∷ [])
    spent-stamps value packet = record { came = stamps_in popped; hands = value.stamp.at ∷ []; many = refl; popped_is = more-popped value; stamped = stamped }

  -- Handing out

  module _ (state : HalfState) (handed : List model.Packet) (pushed popped : List StampedPacket) (half : HalfView) (goes : GoesApart setting side state handed half)
      (stamped : StampedHalf setting side state (stamps_in pushed ++ next-for (stamps_in popped) goes.held) (stamps_in popped)) where
    -- the next packet is pushed with the next stamp
    pub pushed-stamps : (next : model.Packet) (half' : HalfView) (goes' : GoesApart setting side state (handed ++ next ∷ []) half') (value : StampedPacket) → value.stamp.at ≡ next_stamp (stamps_in popped)
        → StampedHalf setting side state (stamps_in (pushed ++ value ∷ []) ++ next-for (stamps_in popped) goes'.held) (stamps_in popped)
    pushed-stamps next half' goes' value is =
        let held : goes.held ≡ next ∷ goes'.held = held-is state handed (next ∷ goes'.held) half goes (goes'.sent ∙ append_assoc handed (next ∷ []) goes'.held) in
        let rest : List ℕ = next-for (stamps_in popped) goes'.held in
        let same : stamps_in (pushed ++ value ∷ []) ++ rest ≡ stamps_in pushed ++ next-for (stamps_in popped) goes.held =
        ap (λ (ns : List ℕ). ns ++ rest) (map-append (λ (v : StampedPacket). v.stamp.at) pushed (value ∷ []))
        ∙ append_assoc (stamps_in pushed) (value.stamp.at ∷ []) rest ∙ ap (λ (n : ℕ). stamps_in pushed ++ n ∷ rest) is
        ∙ ap (λ (ps : List model.Packet). stamps_in pushed ++ next-for (stamps_in popped) ps) (sym held)
        in
        subst (λ (ns : List ℕ). StampedHalf setting side state ns (stamps_in popped)) (sym same) stamped

    -- all were pushed
    pub all-pushed : state.sent ≡ handed → StampedHalf setting side state (stamps_in pushed) (stamps_in popped)
    all-pushed is =
        let held : goes.held ≡ [] = held-is state handed [] half goes (is ∙ sym (append-nil handed)) in
        subst (λ (ns : List ℕ). StampedHalf setting side state ns (stamps_in popped))
        (ap (λ (ps : List model.Packet). stamps_in pushed ++ next-for (stamps_in popped) ps) held ∙ append-nil (stamps_in pushed)) stamped
