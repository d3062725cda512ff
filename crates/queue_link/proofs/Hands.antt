-- What a step of a half does to what was pushed and popped for it.
use Rattle.std.proofs.Common.{◌≡◌, inl, inr, true, false, Result, Ok, Err, MatchResult, OnOk, Bool, List, [], ◌∷◌, ◌++◌, Some, None, refl, sym, ap, subst, ◌∙◌, append-nil}
use Rattle.std.proofs.lemmas.List.{map-append}
use Rattle.channel_core.specs.EndView.{packet_of, packets_of}
use Rattle.channel_model.proofs.Known.{all-append}
use Rattle.channel_model.specs.Ends as model
use Rattle.channel_model.specs.Outputs.{is_open}
use Rattle.end_parts.specs.declared.packet.Packet.{Packet}
use Rattle.end_parts.specs.PacketReading.{packet_read}
use Rattle.ipdl_base.specs.declared.kinds.Side.{Side}
use Rattle.relay_history.specs.Stamps.{StampedHalf}
use Rattle.relay_runs.specs.HalfRuns.{after, after_packet, delivered_for}
use Rattle.script_steps.specs.Choices.{Setting}
use Rattle.world_core.specs.declared.answers.AcceptAnswer.{AcceptAnswer}
use Rattle.world_core.specs.declared.answers.AcceptAnswer.TheVariants as accept
use Rattle.world_core.specs.declared.answers.StepAnswer.{StepAnswer}
use Rattle.world_core.specs.declared.answers.StepAnswer.TheVariants as answer
use Rattle.world_core.specs.HalfView.{HalfView}
use Rattle.world_core.specs.Relaying.{AcceptGives, GoesApart, GoingGives, HasAccepted, IsApart, PutGives, came_by, turn_answer}
use Rattle.queue_link.specs.declared.packets.StampedPacket.{StampedPacket}
use Rattle.queue_link.specs.Stamping.{next_stamp, packets_in, stamps_in}
use Rattle.queue_link.proofs.Stamping.{accepted-stamps, acted-stamps, all-pushed, pushed-stamps, spent-stamps, stamped-work, work-stamps}
use Rattle.queue_link.specs.Work.{DeliveryGives, HandsOver, HasNoStep, HasTaken, IsAtWork, IsReadBack, IsResting, OwnGives, PacketView, PushGives, StepGives, TakeGives}

module _ (setting : Setting) where
  -- what comes by a packet
  abbrev read : Packet → model.Packet
  read packet = came_by (packet_read setting.schema packet)

  -- one packet more
  more-taken : (popped : List Packet) (taken : List model.Packet) (packet : Packet) → HasTaken setting popped taken → IsReadBack setting.schema packet → HasTaken setting (popped ++ packet ∷ []) (taken ++ read packet ∷ [])
  more-taken popped taken packet has reads = record {
    is = ap (λ (ps : List model.Packet). ps ++ read packet ∷ []) has.is ∙ sym (map-append read popped (packet ∷ []));
    reads = all-append (IsReadBack setting.schema) popped (packet ∷ []) has.reads (reads, tt);
  }

  module _ (side : Side) (pushed popped : List StampedPacket) (half half' : HalfView) where
    came : (work : IsAtWork setting side pushed popped half) → HasTaken setting (packets_in popped) work.state.came
    came work = subst (λ (ps : List model.Packet). HasTaken setting (packets_in popped) ps) (append-nil work.state.came) work.pops

    stamps : (work : IsAtWork setting side pushed popped half) → StampedHalf setting side work.state (stamps_in pushed) (stamps_in popped)
    stamps work = stamped-work setting side work.state pushed popped work.stamps

    pub put-some : (h : HandsOver setting side pushed popped half) (value : StampedPacket) → value.stamp.at ≡ next_stamp (stamps_in popped) → PutGives setting side h.state h.handed (Some value.packet) half' → HandsOver setting side (pushed ++ value ∷ []) popped half'
    put-some h value is gives = record {
      state = h.state;
      handed = h.handed ++ gives.next ∷ [];
      goes = gives.goes;
      pushes =
          map-append (λ (v : StampedPacket). v.packet) pushed (value ∷ []) ∙ ap (λ (ps : List Packet). ps ++ value.packet ∷ []) h.pushes
          ∙ (ap (λ (p : Packet). packets_of setting.schema h.handed ++ p ∷ []) gives.is ∙ sym (map-append (packet_of setting.schema) h.handed (gives.next ∷ [])));
      pops = h.pops;
      stamped = pushed-stamps setting side h.state h.handed pushed popped half h.goes h.stamped gives.next half' gives.goes value is;
    }

    pub put-none : (h : HandsOver setting side pushed popped half) → PutGives setting side h.state h.handed None half' → IsAtWork setting side pushed popped half'
    put-none h gives = record {
      state = h.state;
      goes = subst (λ (ps : List model.Packet). GoesApart setting side h.state ps half') (sym gives.0) gives.1;
      pushes = h.pushes ∙ ap (packets_of setting.schema) (sym gives.0);
      pops = subst (λ (ps : List model.Packet). HasTaken setting (packets_in popped) ps) (sym (append-nil h.state.came)) h.pops;
      stamps = work-stamps setting side h.state pushed popped (all-pushed setting side h.state h.handed pushed popped half h.goes h.stamped gives.0);
    }

    pub work-apart : IsAtWork setting side pushed popped half → IsApart half
    work-apart work = record { setting = setting; side = side; state = work.state; handed = work.state.sent; goes = work.goes }

    -- a half in the same state, after a call that changed nothing
    abbrev still : (work : IsAtWork setting side pushed popped half) → GoesApart setting side work.state work.state.sent half' → IsAtWork setting side pushed popped half'
    still work goes = record { state = work.state; goes = goes; pushes = work.pushes; pops = work.pops; stamps = work.stamps }

    pub own-gives : (work : IsAtWork setting side pushed popped half) (result : StepAnswer) → GoingGives setting side work.state work.state.sent result half' → OwnGives setting side pushed popped result half'
    own-gives work answer.Did gives = record {
      state = after work.state gives.output;
      handed = work.state.sent;
      goes = gives.goes;
      pushes = work.pushes;
      pops = came work;
      stamped = acted-stamps setting side work.state pushed popped half' (stamps work) gives;
    }
    own-gives work answer.Nothing gives = record { work = still work gives.1; none = gives.0 }
    own-gives work (answer.Spent at) gives = (gives.2, record { in_hands = []; stands = still work gives.3; full = gives.1; left = inl gives.0 })
    own-gives work answer.NoMemory gives = tt

    -- A delivery

    opened : (rest : HasNoStep setting side pushed popped half) → is_open half.end.end.state ≡ true → is_open rest.work.state.end.state ≡ true
    opened rest is = ap (λ (e : model.End). is_open e.state) (sym rest.work.goes.end) ∙ is

    module _ (rest : HasNoStep setting side pushed popped half) (value : StampedPacket) (reads : IsReadBack setting.schema value.packet) where
      taken : HasTaken setting (packets_in (popped ++ value ∷ [])) (rest.work.state.came ++ read value.packet ∷ [])
      taken =
          subst (λ (ps : List Packet). HasTaken setting ps (rest.work.state.came ++ read value.packet ∷ [])) (sym (map-append (λ (v : StampedPacket). v.packet) popped (value ∷ [])))
          (more-taken (packets_in popped) rest.work.state.came value.packet (came rest.work) reads)

      accepted : HasAccepted setting side rest.work.state rest.work.state.sent (read value.packet) half' → HandsOver setting side pushed (popped ++ value ∷ []) half'
      accepted has = record {
        state = after_packet rest.work.state (read value.packet) (delivered_for setting.schema rest.work.state.end (read value.packet)) has.output;
        handed = rest.work.state.sent;
        goes = has.goes;
        pushes = rest.work.pushes;
        pops = taken;
        stamped = accepted-stamps setting side rest.work.state pushed popped half' (stamps rest.work) value (read value.packet) rest.none has;
      }

      not-both : {A : Type 0} (b : Bool) → b ≡ true → b ≡ false → A
      not-both b h k =
          let e : true ≡ false = sym h ∙ k in
          cc

      pub delivery-gives : is_open half.end.end.state ≡ true → (told : AcceptAnswer) → AcceptGives setting side rest.work.state rest.work.state.sent (packet_read setting.schema value.packet) told half' → DeliveryGives setting side pushed (popped ++ value ∷ []) (turn_answer told) half'
      delivery-gives opens accept.Did gives = accepted gives.1
      delivery-gives opens accept.Refused gives = accepted gives.1
      delivery-gives opens accept.Nothing gives = not-both (is_open rest.work.state.end.state) (opened rest opens) gives.0
      delivery-gives opens (accept.Spent at) gives = (
        gives.2,
        record {
          in_hands = read value.packet ∷ [];
          stands = record {
            state = rest.work.state;
            goes = gives.3;
            pushes = rest.work.pushes;
            pops = taken;
            stamps = spent-stamps setting side rest.work.state pushed popped half' (stamps rest.work) value (read value.packet);
          };
          full = gives.1;
          left = inr (read value.packet, refl, gives.0);
        },
      )
      delivery-gives opens accept.NoMemory gives = tt

    -- a half that is not open rests
    pub shut-resting : (incoming : PacketView) → HasNoStep setting side pushed incoming.popped half → (b : Bool) → b ≡ is_open half.end.end.state → b ≡ false → IsResting setting side pushed incoming half
    shut-resting incoming rest b is shut = record {
      work = rest.work;
      none = rest.none;
      no_packet = inl (ap (λ (e : model.End). is_open e.state) (sym rest.work.goes.end) ∙ (sym is ∙ shut));
    }

  module _ (side : Side) (pushed : List StampedPacket) (half : HalfView) where
    -- and so does a half for which nothing waits
    pub empty-resting : (incoming incoming' : PacketView) → incoming' ≡ incoming → (incoming.pushes ≡ true → incoming.pushed ≡ incoming.popped) → HasNoStep setting side pushed incoming.popped half → IsResting setting side pushed incoming' half
    empty-resting incoming incoming' same empty rest = subst (λ (v : PacketView). IsResting setting side pushed v half) (sym same) (record { work = rest.work; none = rest.none; no_packet = inr empty })

  -- What steps answer

  module _ (side : Side) (pushed popped : List StampedPacket) (half' : HalfView) where
    pub push-ended : (more : Bool) → more ≡ false → PushGives setting side pushed popped more half' → IsAtWork setting side pushed popped half'
    push-ended true is gives = cc
    push-ended false is gives = gives

    pub did-hand : (told : StepAnswer) → told ≡ answer.Did → DeliveryGives setting side pushed popped told half' → HandsOver setting side pushed popped half'
    did-hand told is gives = subst (λ (t : StepAnswer). DeliveryGives setting side pushed popped t half') is gives

    pub done-take : {A E : Type 0} (r : Result A E) (told : StepAnswer) → MatchResult r (λ _. told ≡ answer.Did) (λ _. told ≡ answer.NoMemory) → OnOk r (IsAtWork setting side pushed popped half') → TakeGives setting side pushed popped told half'
    done-take (Ok x) told is work = subst (λ (t : StepAnswer). TakeGives setting side pushed popped t half') (sym is) work
    done-take (Err e) told is work = subst (λ (t : StepAnswer). TakeGives setting side pushed popped t half') (sym is) tt

    pub other-take : (told : StepAnswer) → ¬ (told ≡ answer.Did) → DeliveryGives setting side pushed popped told half' → TakeGives setting side pushed popped told half'
    other-take answer.Did apart gives = absurd (apart refl)
    other-take answer.Nothing apart gives = gives
    other-take (answer.Spent at) apart gives = gives
    other-take answer.NoMemory apart gives = tt

  module _ (side : Side) (out incoming out' incoming' : PacketView) (half' : HalfView) where
    pub take-step : (told : StepAnswer) → TakeGives setting side out'.pushed incoming'.popped told half' → StepGives setting side out incoming told out' incoming' half'
    take-step answer.Did gives = gives
    take-step answer.Nothing gives = absurd gives
    take-step (answer.Spent at) gives = gives
    take-step answer.NoMemory gives = tt

  module _ (side : Side) (out incoming : PacketView) (half' : HalfView) where
    pub own-step : (told : StepAnswer) → ¬ (told ≡ answer.Did) → ¬ (told ≡ answer.Nothing) → OwnGives setting side out.pushed incoming.popped told half' → StepGives setting side out incoming told out incoming half'
    own-step answer.Did apart other gives = absurd (apart refl)
    own-step answer.Nothing apart other gives = absurd (other refl)
    own-step (answer.Spent at) apart other gives = gives
    own-step answer.NoMemory apart other gives = tt
