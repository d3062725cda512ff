-- What a half keeps that goes by itself, and what its calls make of it.
use Rattle.std.proofs.Common.{◌≡◌, ℕ, ◌+◌, ◌*◌, ◌-◌, ◌<◌, ◌≤◌, nat_lt, ◌==◌, Bool, true, false, not, if◌then◌else◌, List, [], ◌∷◌, ◌++◌, length, map, Option, Some, None, is_some, refl, sym, ap, subst, ◌∙◌, append_assoc, arith}
use Rattle.std.specs.Prelude.{MatchOption}
use Rattle.std.specs.List.{AllByRecursion, AllZip}
use Rattle.std.specs.Option.{option_map_or}
use Rattle.std.proofs.lemmas.List.{append-nil, length-append, map-append}
use Rattle.handler_script.specs.Valid.{IsValid}
use Rattle.ipdl_base.specs.declared.kinds.Side.{Side}
use Rattle.ipdl_base.specs.declared.kinds.Side.TheVariants as sides
use Rattle.ipdl_base.specs.declared.line.Line.{Line}
use Rattle.ipdl_base.specs.declared.schema.Schema.{Schema}
use Rattle.ipdl_base.specs.Sound.{IsSound}
use Rattle.value_types.specs.declared.layout.TheConstants.{NEW}
use Rattle.value_types.specs.Fits.{Fits}
use Rattle.value_codec.proofs.Framed.{IsTold, begins_told}
use Rattle.value_codec.specs.declared.decoding.DecodeResult.{DecodeResult}
use Rattle.value_codec.specs.declared.decoding.DecodeResult.TheVariants as decoded
use Rattle.value_codec.specs.Decoding.{FrameBegins, begins}
use Rattle.value_codec.specs.Laws.{AreBytes}
use Rattle.channel_model.specs.Bounds.{unsettled}
use Rattle.channel_model.specs.Ends.{End, end_of, opening, opening_end}
use Rattle.channel_model.specs.Ends as model
use Rattle.channel_model.specs.Events.{Event}
use Rattle.channel_model.specs.Events as event
use Rattle.channel_model.specs.Fitting.{FitsPacket, IsFitting}
use Rattle.channel_model.specs.Outputs.{Output, is_open, line_at}
use Rattle.channel_model.specs.Refusals.{DeliveryRefusal, packet_refusal, wrong_direction, wrong_number, wrong_new_id, stray, wrong_actor}
use Rattle.channel_model.specs.Runs.{RunState}
use Rattle.channel_model.specs.Steps.{step}
use Rattle.channel_model.proofs.Known.{all-append}
use Rattle.end_parts.specs.declared.packet.Packet.{Packet}
use Rattle.end_parts.specs.declared.packet.Packet.TheVariants.{Bytes, Broken}
use Rattle.end_parts.specs.PacketReading.{PacketContent, carried, content_decoded, faulty, packet_read}
use Rattle.channel_core.specs.declared.answers.DeliverAnswer.{DeliverAnswer}
use Rattle.channel_core.specs.declared.answers.DeliverAnswer.TheVariants as delivery
use Rattle.channel_core.specs.Delivered.{answer_to, delivery_answer, refusal_answer}
use Rattle.channel_core.specs.EndView.{EndView, IsFramed, packet_of, packets_of}
use Rattle.script_runs.proofs.Changes.{end-apart}
use Rattle.script_runs.specs.Allowed.{IsAllowed}
use Rattle.script_runs.specs.Dispatches.{dispatches}
use Rattle.script_runs.specs.Handlers.{IsHandlerOf}
use Rattle.script_steps.proofs.StepLines.{Prints, step-prints}
use Rattle.script_steps.specs.Choices.{Setting, beginning_of}
use Rattle.script_steps.specs.NextEvent.{next_event}
use Rattle.script_steps.specs.Progress.{Progress, progress_of}
use Rattle.relay_runs.specs.HalfRuns.{HalfRun, HalfState, after, after_next, after_own, after_packet, delivered_for, is_within, opening_half, own_event}
use Rattle.relay_runs.specs.HalfRuns as half_run
use Rattle.relay_runs.proofs.HalfRuns.{delivered-itself, delivered-mark, delivered-taken}
use Rattle.world_core.proofs.Delivering.{framed-read}
use Rattle.world_core.proofs.KeptEnds.{KeepsEnd, begins-kept, delivery-keeps, delivery-possible, fewer, grown, kept, known, own-allowed, own-keeps, own-possible, stands}
use Rattle.world_core.proofs.Played.{own-progress}
use Rattle.world_core.specs.declared.answers.AcceptAnswer.{AcceptAnswer}
use Rattle.world_core.specs.declared.answers.AcceptAnswer.TheVariants as accept
use Rattle.world_core.specs.declared.answers.StepAnswer.{StepAnswer}
use Rattle.world_core.specs.declared.answers.StepAnswer.TheVariants as answer
use Rattle.world_core.specs.HalfSteps.{IsHalfDelivery, IsHalfStep, MayGoOn, OwnGives, next_of}
use Rattle.world_core.specs.HalfView.{HalfView, IsCountedBy, setting_of}
use Rattle.world_core.specs.LinkView.{HoldsBytes, LinkView}
use Rattle.world_core.specs.WorldView.{WorldView, opening_of}
use Rattle.world_core.specs.Worlds.{IsHalfOf, IsRun, most_events}
use Rattle.world_core.specs.Resolvers.{AreApart}
use Rattle.world_core.specs.Relaying.{AcceptGives, ContentGives, DeliversFor, GoesApart, GoingGives, HasAccepted, HasHandedOut, HasLineRoom, HasTakenOver, InEach, IsApart, PutGives, came_by, is_refused, own_progress}

-- a state of a half run keeps what an end keeps that runs by itself
pub run-keeps : (setting : Setting) (side : Side) → IsSound setting.schema → IsValid setting.schema setting.script → setting.limit < 268435456 → (state : HalfState) → HalfRun setting side state → KeepsEnd setting side state.end state.lines state.delivered
run-keeps setting side sound valid limit _ half_run.begins = begins-kept setting side sound valid limit
run-keeps setting side sound valid limit _ (half_run.acts state own output run within is_own is) =
    own-keeps setting side sound valid limit state.end state.lines state.delivered (run-keeps setting side sound valid limit state run) own output is_own is (fewer (progress_of side state.lines).events setting.limit within)
run-keeps setting side sound valid limit _ (half_run.gets state packet output run within rests opened fits is) =
    let given = delivered-taken setting.schema state.end packet fits in
    delivery-keeps setting side sound valid limit state.end state.lines state.delivered (run-keeps setting side sound valid limit state run) (delivered_for setting.schema state.end packet) output
    given.0 given.1 is (fewer (progress_of side state.lines).events setting.limit within)

-- Each step of a half run is one event more

-- A half has come to another by one event more, which it might have.
pub record IsOneMore (setting : Setting) (side : Side) (half next : HalfState) : Type 0 where
  pub few : (progress_of side half.lines).events < setting.limit
  pub more : (progress_of side next.lines).events ≡ (progress_of side half.lines).events + 1

module _ (setting : Setting) (side : Side) (sound : IsSound setting.schema) (valid : IsValid setting.schema setting.script) (limit : setting.limit < 268435456) where
  module _ (half : HalfState) (run : HalfRun setting side half) (within : is_within setting side half ≡ true) where
    run-kept : KeepsEnd setting side half.end half.lines half.delivered
    run-kept = run-keeps setting side sound valid limit half run

    might-have : (progress_of side half.lines).events < setting.limit
    might-have = fewer (progress_of side half.lines).events setting.limit within

    run-grows : (happened : Event) (link : List model.Packet) (output : Output) → step setting.schema half.end link happened ≡ Some output → (progress_of side (half.lines ++ output.lines)).events ≡ (progress_of side half.lines).events + 1
    run-grows happened link output is =
        grown setting side sound valid limit half.end half.lines half.delivered run-kept happened link output is (step-prints setting.schema half.end link happened output is)

    own-made : (x : Event) (made : Option Output) → step setting.schema half.end [] x ≡ made → is_some made ≡ true → IsOneMore setting side half (option_map_or (after half) made half)
    own-made x None is h = cc
    own-made x (Some output) is h = record { few = might-have; more = run-grows x [] output is }

    pub own-more : (x : Event) → own_event setting side half ≡ Some x → IsOneMore setting side half (after_own setting half x)
    own-more x next = own-made x (step setting.schema half.end [] x) refl (own-possible setting side sound valid limit half.end half.lines half.delivered run-kept x next)

    next-made : (packet given : model.Packet) (made : Option Output) → step setting.schema half.end (given ∷ []) event.deliver ≡ made → is_some made ≡ true → IsOneMore setting side half (option_map_or (after_packet half packet given) made half)
    next-made packet given None is h = cc
    next-made packet given (Some output) is h = record { few = might-have; more = run-grows event.deliver (given ∷ []) output is }

    pub next-more : (packet : model.Packet) → is_open half.end.state ≡ true → IsOneMore setting side half (after_next setting half packet)
    next-more packet opened =
        let given : model.Packet = delivered_for setting.schema half.end packet in
        next-made packet given (step setting.schema half.end (given ∷ []) event.deliver) refl (delivery-possible setting side sound valid limit half.end half.lines half.delivered run-kept given opened)

-- what bytes carry fits the schema
decoded-fits : (schema : Schema) (bytes : List ℕ) (size : ℕ) → AreBytes bytes → (d : DecodeResult) → begins NEW schema bytes ≡ d → FitsPacket schema (came_by (content_decoded size d))
decoded-fits schema bytes size are (decoded.Frame m n) is =
    let told : FrameBegins NEW schema bytes m n = subst (IsTold NEW schema bytes are) is (begins_told NEW schema bytes are) in
    by (n == size) told.frame.fits
  where
    by : (b : Bool) → Fits schema m → FitsPacket schema (came_by (if b then carried (model.message m) else faulty n 10))
    by true fits = fits
    by false fits = tt
decoded-fits schema bytes size are (decoded.Short n) is = tt
decoded-fits schema bytes size are (decoded.Bad offset rule) is = tt
decoded-fits schema bytes size are decoded.NoMemory is = tt

pub content-fits : (schema : Schema) (packet : Packet) → HoldsBytes packet → FitsPacket schema (came_by (packet_read schema packet))
unfolding packet_read
content-fits schema (Bytes bytes) holds = decoded-fits schema bytes (length bytes) holds (begins NEW schema bytes) refl
content-fits schema Broken holds = tt

module _ (setting : Setting) (side : Side) (state : HalfState) (handed : List model.Packet) (half : HalfView) (goes : GoesApart setting side state handed half) where
  abbrev progress : Progress
  progress = progress_of side state.lines

  pub few-events : setting.limit < 268435456
  few-events = let small = goes.small in omega (arith, small)

  keeps : KeepsEnd setting side state.end state.lines state.delivered
  keeps = run-keeps setting side goes.sound goes.valid few-events state goes.runs

  pub schema-is : half.end.schema ≡ setting.schema
  schema-is = ap (λ (s : Setting). s.schema) goes.about

  pub next-is : next_of half progress ≡ own_event setting side state
  next-is = ap (λ (s : Setting). next_event s.script s.stop half.end.end progress) goes.about ∙ ap (λ (e : End). next_event setting.script setting.stop e progress) goes.end

  pub within-is : nat_lt half.counts.events half.limit ≡ is_within setting side state
  within-is = ap (λ (n : ℕ). nat_lt n half.limit) goes.counted.counts.events ∙ ap (λ (s : Setting). nat_lt progress.events s.limit) goes.about

  state-side : state.end.side ≡ side
  state-side = (kept setting side goes.sound goes.valid few-events state.end state.lines state.delivered keeps).side_is

  pub side-is : half.end.end.side ≡ side
  side-is = ap (λ (e : End). e.side) goes.end ∙ state-side

  pub progress-is : own_progress half ≡ progress
  progress-is = ap (λ (s : Side). progress_of s half.history) side-is ∙ ap (progress_of side) goes.history

  -- What is known where it makes a step

  abbrev MayGoOnAt : Schema → End → Type 0
  MayGoOnAt schema e = (x : Event) → next_event setting.script setting.stop e progress ≡ Some x → IsAllowed schema e x

  pub may-go-on : MayGoOn half progress
  may-go-on =
      let sent = keeps.sent in
      let within = keeps.within_limit in
      let few = few-events in
      let same = ap (λ (e : End). e.sent) goes.end in
      record {
        counted = goes.counted;
        few = omega (arith, sent, within, few, same);
        allowed = λ x is.
            subst (λ (e : End). IsAllowed half.end.schema e x) (sym goes.end)
            (subst (λ (schema : Schema). IsAllowed schema state.end x) (sym schema-is) (own-allowed setting side goes.sound goes.valid few-events state.end state.lines state.delivered keeps x (sym next-is ∙ is)));
        fitting = subst (λ (e : End). IsFitting half.end.schema e) (sym goes.end) (subst (λ (schema : Schema). IsFitting schema state.end) (sym schema-is) keeps.fits);
        valid = subst (λ (s : Setting). IsValid s.schema s.script) (sym goes.about) goes.valid;
        handlers =
            subst (λ (e : End). AllZip (IsHandlerOf half.end.schema half.script e.side e) (dispatches e.stack) progress.handled) (sym goes.end)
            (subst (λ (s : Setting). AllZip (IsHandlerOf s.schema s.script state.end.side state.end) (dispatches state.end.stack) progress.handled) (sym goes.about)
            (stands setting side goes.sound goes.valid few-events state.end state.lines state.delivered keeps));
        apart =
            subst AreApart (sym goes.end)
            (end-apart setting.schema state.end (known setting side goes.sound goes.valid few-events state.end state.lines state.delivered keeps));
      }

  pub few-delivered : half.end.end.delivered < 268435456
  few-delivered =
      let delivered = keeps.delivered in
      let within = keeps.within_limit in
      let few = few-events in
      let same = ap (λ (e : End). e.delivered) goes.end in
      omega (arith, delivered, within, few, same)

  -- each step is one event more
  pub step-grows : (happened : Event) (link : List model.Packet) (output : Output) → step setting.schema state.end link happened ≡ Some output → (progress_of side (state.lines ++ output.lines)).events ≡ progress.events + 1
  step-grows happened link output is =
      grown setting side goes.sound goes.valid few-events state.end state.lines state.delivered keeps happened link output is (step-prints setting.schema state.end link happened output is)

  -- with other room for lines it goes apart all the same
  pub goes-roomy : (half' : HalfView) → half' ≡ record half { spare = half'.spare } → GoesApart setting side state handed half'
  goes-roomy half' same =
      subst (GoesApart setting side state handed) (sym same)
      (record {
        sound = goes.sound;
        valid = goes.valid;
        small = goes.small;
        about = goes.about;
        runs = goes.runs;
        end = goes.end;
        counted = record { counts = goes.counted.counts; held = goes.counted.held };
        history = goes.history;
        no_lines = goes.no_lines;
        held = goes.held;
        sent = goes.sent;
        packets = goes.packets;
        framed = goes.framed;
      })

  -- it has taken over nothing where its end has no line
  pub goes-over : (half' : HalfView) → HasTakenOver half half' → GoesApart setting side state handed half'
  goes-over half' over =
      let same : half' ≡ record half { spare = half'.spare } =
      over.same
      ∙ ap (λ (v : EndView). record half { end = v; history = half'.history; spare = half'.spare }) (over.end ∙ ap (λ (ls : List Line). record half.end { lines = ls }) (sym goes.no_lines))
      ∙ ap (λ (ls : List Line). record half { history = ls; spare = half'.spare }) (over.history ∙ ap (λ (ls : List Line). half.history ++ ls) goes.no_lines ∙ append-nil half.history) in
      goes-roomy half' same

  -- It has made a step

  module _ (happened : Event) (link : List model.Packet) (between : HalfView) (steps : IsHalfStep half progress link happened between) where
    pub made : step setting.schema state.end link happened ≡ Some steps.output
    made =
        sym (ap (λ (schema : Schema). step schema half.end.end link happened) schema-is ∙ ap (λ (e : End). step setting.schema e link happened) goes.end) ∙ steps.is_step

    said : between.end.lines ≡ steps.output.lines
    said = ap (λ (v : EndView). v.lines) steps.is_after ∙ ap (λ (ls : List Line). ls ++ steps.output.lines) goes.no_lines

    packets-are : between.end.packets ≡ packets_of setting.schema (goes.held ++ steps.output.packets)
    packets-are =
        ap (λ (v : EndView). v.packets) steps.is_after
        ∙ ap (λ (ps : List Packet). ps ++ packets_of half.end.schema steps.output.packets) goes.packets
        ∙ ap (λ (schema : Schema). packets_of setting.schema goes.held ++ packets_of schema steps.output.packets) schema-is
        ∙ sym (map-append (packet_of setting.schema) goes.held steps.output.packets)

    about-is : setting_of between ≡ setting
    about-is =
        ap setting_of steps.same ∙ ap (λ (schema : Schema). record { schema = schema; script = half.script; stop = half.stop; limit = half.limit }) (ap (λ (v : EndView). v.schema) steps.is_after) ∙ goes.about

    pub history-is : between.history ≡ state.lines
    history-is = ap (λ (h : HalfView). h.history) steps.same ∙ goes.history

    counted-on : IsCountedBy between (progress_of side (state.lines ++ steps.output.lines))
    counted-on =
        let prints : Prints state.end happened steps.output = step-prints setting.schema state.end link happened steps.output made in
        let are : steps.output.lines ≡ map (line_at side) (prints.first ∷ prints.rest) = prints.lines ∙ ap (λ (s : Side). map (line_at s) (prints.first ∷ prints.rest)) state-side in
        subst (λ (p : Progress). IsCountedBy between p) (sym (own-progress side state.lines steps.output.lines (prints.first ∷ prints.rest) are)) steps.counted

    -- the half has the lines of the step and still runs by itself, as packets came and were delivered
    module _ (half' : HalfView) (over : HasTakenOver between half') (came delivered : List model.Packet) where
      abbrev next : HalfState
      next = record { end = steps.output.end; lines = state.lines ++ steps.output.lines; came = came; delivered = delivered; sent = state.sent ++ steps.output.packets }

      pub goes-on : HalfRun setting side next → GoesApart setting side next handed half'
      goes-on runs =
          let taken : HalfView = record between { end = record between.end { lines = [] }; history = half'.history; spare = half'.spare } in
          let same : half' ≡ taken = over.same ∙ ap (λ (v : EndView). record between { end = v; history = half'.history; spare = half'.spare }) over.end in
          let history : half'.history ≡ state.lines ++ steps.output.lines = over.history ∙ ap (λ (ls : List Line). ls ++ between.end.lines) history-is ∙ ap (λ (ls : List Line). state.lines ++ ls) said in
          let counted = counted-on in
          subst (GoesApart setting side next handed) (sym same)
          (record {
            sound = goes.sound;
            valid = goes.valid;
            small = goes.small;
            about = about-is;
            runs = runs;
            end = ap (λ (v : EndView). v.end) steps.is_after;
            counted = record { counts = counted.counts; held = counted.held };
            history = history;
            no_lines = refl;
            held = goes.held ++ steps.output.packets;
            sent = ap (λ (ps : List model.Packet). ps ++ steps.output.packets) goes.sent ∙ append_assoc handed goes.held steps.output.packets;
            packets = packets-are;
            framed = all-append (IsFramed setting.schema) state.sent steps.output.packets goes.framed (subst (λ (schema : Schema). AllByRecursion (IsFramed schema) steps.output.packets) schema-is steps.framed);
          })

    -- and has room for them
    pub room-for : HasLineRoom half → (packets : List model.Packet) → KeepsEnd setting side steps.output.end (state.lines ++ steps.output.lines) packets → length between.end.lines ≤ between.spare
    room-for room packets k =
        let all : length (state.lines ++ steps.output.lines) + unsettled steps.output.end ≤ 5 * (progress_of side (state.lines ++ steps.output.lines)).events + 1 = k.room in
        let few : (progress_of side (state.lines ++ steps.output.lines)).events ≤ setting.limit = k.within_limit in
        let longer : length (state.lines ++ steps.output.lines) ≡ length state.lines + length steps.output.lines = length-append state.lines steps.output.lines in
        let lines : length between.end.lines ≡ length steps.output.lines = ap length said in
        let had : length half.history ≡ length state.lines = ap length goes.history in
        let limit : half.limit ≡ setting.limit = ap (λ (s : Setting). s.limit) goes.about in
        let spare : between.spare ≡ half.spare = ap (λ (h : HalfView). h.spare) steps.same in
        let left : 5 * half.limit + 1 - length half.history ≤ half.spare = room in
        omega (arith, all, few, longer, lines, had, limit, spare, left)

  -- Its own step

  own-runs : (own : Event) (output : Output) → is_within setting side state ≡ true → own_event setting side state ≡ Some own → step setting.schema state.end [] own ≡ Some output → KeepsEnd setting side output.end (state.lines ++ output.lines) state.delivered
  own-runs own output within is_own is =
      own-keeps setting side goes.sound goes.valid few-events state.end state.lines state.delivered keeps own output is_own is (fewer progress.events setting.limit within)

  -- where nothing changed there is no line to take over
  same-room : (between : HalfView) → between ≡ half → length between.end.lines ≤ between.spare
  same-room between same = subst (λ (v : HalfView). length v.end.lines ≤ v.spare) (sym same) (subst (λ (ls : List Line). length ls ≤ half.spare) (sym goes.no_lines) (omega arith))

  own-room : HasLineRoom half → (told : StepAnswer) (between : HalfView) → OwnGives half progress told between → length between.end.lines ≤ between.spare
  own-room room answer.Did between h =
      room-for h.event [] between h.steps room state.delivered (own-runs h.event h.steps.output (sym within-is ∙ h.within) (sym next-is ∙ h.is_next) (made h.event [] between h.steps))
  own-room room answer.Nothing between h = same-room between h.1
  own-room room (answer.Spent at) between h = same-room between h.3
  own-room room answer.NoMemory between h = same-room between h

  same-over : (between half' : HalfView) → between ≡ half → HasTakenOver between half' → GoesApart setting side state handed half'
  same-over between half' same over = goes-over half' (subst (λ (v : HalfView). HasTakenOver v half') same over)

  own-gives : (told : StepAnswer) (between half' : HalfView) → OwnGives half progress told between → HasTakenOver between half' → GoingGives setting side state handed told half'
  own-gives answer.Did between half' h over =
      let is : step setting.schema state.end [] h.event ≡ Some h.steps.output = made h.event [] between h.steps in
      let within : is_within setting side state ≡ true = sym within-is ∙ h.within in
      let own : own_event setting side state ≡ Some h.event = sym next-is ∙ h.is_next in
      record {
        own = h.event;
        output = h.steps.output;
        within = within;
        is_own = own;
        is_step = is;
        goes = goes-on h.event [] between h.steps half' over state.came state.delivered (half_run.acts state h.event h.steps.output goes.runs within own is);
      }
  own-gives answer.Nothing between half' h over = (sym next-is ∙ h.0, same-over between half' h.1 over)
  own-gives (answer.Spent at) between half' h over = (ap is_some (sym next-is) ∙ h.0, sym within-is ∙ h.1, h.2 ∙ side-is, same-over between half' h.3 over)
  own-gives answer.NoMemory between half' h over = same-over between half' h over

  -- A packet that comes to it

  pub opened-is : is_open half.end.end.state ≡ is_open state.end.state
  opened-is = ap (λ (e : End). is_open e.state) goes.end

  -- whether it is spent
  pub full-is : not (nat_lt half.counts.events half.limit) ≡ true → is_within setting side state ≡ false
  full-is full = sym within-is ∙ isnt (nat_lt half.counts.events half.limit) full
    where
      isnt : (b : Bool) → not b ≡ true → b ≡ false
      isnt true h = cc
      isnt false h = refl

  pub content-is : (packet : Packet) → packet_read half.end.schema packet ≡ packet_read setting.schema packet
  content-is packet = ap (λ (schema : Schema). packet_read schema packet) schema-is

  refused-is : (content : PacketContent) → is_refused half.end.schema half.end.end content ≡ is_refused setting.schema state.end content
  refused-is content = ap (λ (schema : Schema). is_refused schema half.end.end content) schema-is ∙ ap (λ (e : End). is_refused setting.schema e content) goes.end

  -- what is delivered, where the end refuses the packet and where it does not
  accepted : (content : PacketContent) → is_refused setting.schema state.end content ≡ false → came_by content ≡ delivered_for setting.schema state.end (came_by content)
  accepted (carried p) not_refused = by (packet_refusal setting.schema state.end p) refl not_refused
    where
      by : (r : Option DeliveryRefusal) → packet_refusal setting.schema state.end p ≡ r → is_some r ≡ false → p ≡ delivered_for setting.schema state.end p
      by None is h = sym (delivered-itself setting.schema state.end p is)
      by (Some r) is h = cc
  accepted (faulty offset rule) not_refused = cc

  refused : (content : PacketContent) → is_refused setting.schema state.end content ≡ true → model.mark ≡ delivered_for setting.schema state.end (came_by content)
  refused (carried p) is_so = by (packet_refusal setting.schema state.end p) refl is_so
    where
      by : (r : Option DeliveryRefusal) → packet_refusal setting.schema state.end p ≡ r → is_some r ≡ true → model.mark ≡ delivered_for setting.schema state.end p
      by None is h = cc
      by (Some r) is h = sym (delivered-mark setting.schema state.end p r is)
  refused (faulty offset rule) is_so = refl

  module _ (content : PacketContent) (fits : FitsPacket setting.schema (came_by content)) (opened : is_open state.end.state ≡ true) (within : is_within setting side state ≡ true) where
    abbrev came : model.Packet
    came = came_by content

    abbrev given : model.Packet
    given = delivered_for setting.schema state.end came

    steps-given : (put : model.Packet) (between : HalfView) → put ≡ given → IsHalfStep half progress (put ∷ []) event.deliver between → IsHalfStep half progress (given ∷ []) event.deliver between
    steps-given put between same steps = subst (λ (p : model.Packet). IsHalfStep half progress (p ∷ []) event.deliver between) same steps

    given-keeps : (between : HalfView) (steps : IsHalfStep half progress (given ∷ []) event.deliver between) → KeepsEnd setting side steps.output.end (state.lines ++ steps.output.lines) (state.delivered ++ given ∷ [])
    given-keeps between steps =
        let taken = delivered-taken setting.schema state.end came fits in
        delivery-keeps setting side goes.sound goes.valid few-events state.end state.lines state.delivered keeps given steps.output
        taken.0 taken.1 (made event.deliver (given ∷ []) between steps) (fewer progress.events setting.limit within)

    given-room : HasLineRoom half → (between : HalfView) → IsHalfStep half progress (given ∷ []) event.deliver between → length between.end.lines ≤ between.spare
    given-room room between steps = room-for event.deliver (given ∷ []) between steps room (state.delivered ++ given ∷ []) (given-keeps between steps)

    accept-room : HasLineRoom half → (told : AcceptAnswer) (between : HalfView) → DeliversFor half progress content told between → length between.end.lines ≤ between.spare
    accept-room room accept.Did between h = given-room room between (steps-given came between (accepted content (sym (refused-is content) ∙ h.0)) h.1)
    accept-room room accept.Refused between h = given-room room between (steps-given model.mark between (refused content (sym (refused-is content) ∙ h.0)) h.1)
    accept-room room accept.Nothing between h = absurd h
    accept-room room (accept.Spent at) between h = absurd h
    accept-room room accept.NoMemory between h = same-room between h

    module _ (rests : own_event setting side state ≡ None) where
      has-accepted : (between half' : HalfView) → IsHalfStep half progress (given ∷ []) event.deliver between → HasTakenOver between half' → HasAccepted setting side state handed came half'
      has-accepted between half' steps over =
          let is : step setting.schema state.end (given ∷ []) event.deliver ≡ Some steps.output = made event.deliver (given ∷ []) between steps in
          record {
            output = steps.output;
            within = within;
            opened = opened;
            is_step = is;
            goes =
                goes-on event.deliver (given ∷ []) between steps half' over (state.came ++ came ∷ []) (state.delivered ++ given ∷ [])
                (half_run.gets state came steps.output goes.runs within rests opened fits is);
          }

      accept-gives : (told : AcceptAnswer) (between half' : HalfView) → DeliversFor half progress content told between → HasTakenOver between half' → AcceptGives setting side state handed content told half'
      accept-gives accept.Did between half' h over =
          let is : is_refused setting.schema state.end content ≡ false = sym (refused-is content) ∙ h.0 in
          (is, has-accepted between half' (steps-given came between (accepted content is) h.1) over)
      accept-gives accept.Refused between half' h over =
          let is : is_refused setting.schema state.end content ≡ true = sym (refused-is content) ∙ h.0 in
          (is, has-accepted between half' (steps-given model.mark between (refused content is) h.1) over)
      accept-gives accept.Nothing between half' h over = absurd h
      accept-gives (accept.Spent at) between half' h over = absurd h
      accept-gives accept.NoMemory between half' h over = same-over between half' h over

  -- A packet that it hands out

  module _ (half' : HalfView) (same : half' ≡ record half { end = half'.end }) where
    none-held : (held : List model.Packet) → state.sent ≡ handed ++ held → packets_of setting.schema held ≡ [] → state.sent ≡ handed
    none-held [] sent none = sent ∙ append-nil handed
    none-held (p ∷ ps) sent none = cc

    pub put-none : half.end.packets ≡ [] → half'.end ≡ half.end → PutGives setting side state handed None half'
    put-none none end = (
      none-held goes.held goes.sent (sym goes.packets ∙ none),
      subst (GoesApart setting side state handed) (sym (same ∙ ap (λ (v : EndView). record half { end = v }) end)) goes,
    )

    first-held : (packet : Packet) (rest : List Packet) (held : List model.Packet) → state.sent ≡ handed ++ held → packets_of setting.schema held ≡ packet ∷ rest → half'.end ≡ record half.end { packets = rest } → HasHandedOut setting side state handed packet half'
    first-held packet rest [] sent are end = cc
    first-held packet rest (p ∷ ps) sent are end =
        let is : packet ≡ packet_of setting.schema p = cc in
        let left : rest ≡ packets_of setting.schema ps = cc in
        let apart : state.sent ≡ (handed ++ p ∷ []) ++ ps = sent ∙ sym (append_assoc handed (p ∷ []) ps) in
        record {
          next = p;
          is = is;
          framed = all-middle handed p ps (subst (AllByRecursion (IsFramed setting.schema)) sent goes.framed);
          goes =
              subst (GoesApart setting side state (handed ++ p ∷ [])) (sym (same ∙ ap (λ (v : EndView). record half { end = v }) end))
              (record {
                sound = goes.sound;
                valid = goes.valid;
                small = goes.small;
                about = goes.about;
                runs = goes.runs;
                end = goes.end;
                counted = record { counts = goes.counted.counts; held = goes.counted.held };
                history = goes.history;
                no_lines = goes.no_lines;
                held = ps;
                sent = apart;
                packets = left;
                framed = goes.framed;
              });
        }
      where
        all-middle : (before : List model.Packet) (p : model.Packet) (ps : List model.Packet) → AllByRecursion (IsFramed setting.schema) (before ++ p ∷ ps) → IsFramed setting.schema p
        all-middle [] p ps h = h.0
        all-middle (q ∷ qs) p ps h = all-middle qs p ps h.1

    pub put-some : (packet : Packet) → half.end ≡ record half'.end { packets = packet ∷ half'.end.packets } → HasHandedOut setting side state handed packet half'
    put-some packet end =
        first-held packet half'.end.packets goes.held goes.sent (sym goes.packets ∙ ap (λ (v : EndView). v.packets) end) (sym (ap (λ (v : EndView). record v { packets = half'.end.packets }) end))

    pub put-gives : (told : Option Packet) → MatchOption told ((half.end.packets ≡ []) × (half'.end ≡ half.end)) (λ packet. half.end ≡ record half'.end { packets = packet ∷ half'.end.packets }) → PutGives setting side state handed told half'
    put-gives None h = put-none h.0 h.1
    put-gives (Some packet) h = put-some packet h

-- What the calls give, in each state

pub step-may : (half : HalfView) → IsApart half → MayGoOn half (own_progress half)
step-may half is = subst (MayGoOn half) (sym (progress-is is.setting is.side is.state is.handed half is.goes)) (may-go-on is.setting is.side is.state is.handed half is.goes)

pub step-room : (half : HalfView) → IsApart half → HasLineRoom half → (told : StepAnswer) (between : HalfView) → OwnGives half (own_progress half) told between → length between.end.lines ≤ between.spare
step-room half is room told between h =
    own-room is.setting is.side is.state is.handed half is.goes room told between (subst (λ (p : Progress). OwnGives half p told between) (progress-is is.setting is.side is.state is.handed half is.goes) h)

pub step-gives : (half : HalfView) (told : StepAnswer) (between half' : HalfView) → OwnGives half (own_progress half) told between → HasTakenOver between half' → InEach half (λ setting side state handed. GoingGives setting side state handed told half')
step-gives half told between half' h over setting side state handed goes =
    own-gives setting side state handed half goes told between half' (subst (λ (p : Progress). OwnGives half p told between) (progress-is setting side state handed half goes) h) over

pub roomy-apart : (half half' : HalfView) → half' ≡ record half { spare = half'.spare } → IsApart half → IsApart half'
roomy-apart half half' same is = record { setting = is.setting; side = is.side; state = is.state; handed = is.handed; goes = goes-roomy is.setting is.side is.state is.handed half is.goes half' same }

pub roomy-each : (half half' : HalfView) → half' ≡ record half { spare = half'.spare } → InEach half (λ setting side state handed. GoesApart setting side state handed half')
roomy-each half half' same setting side state handed goes = goes-roomy setting side state handed half goes half' same

-- what holds in each state with more room holds in each state
pub roomy-gives : (Holds : Setting → Side → HalfState → List model.Packet → Type 0) (half half' : HalfView) → half' ≡ record half { spare = half'.spare } → InEach half' Holds → InEach half Holds
roomy-gives Holds half half' same holds setting side state handed goes = holds setting side state handed (goes-roomy setting side state handed half goes half' same)

pub apart-counted : (half : HalfView) → IsApart half → IsCountedBy half (own_progress half)
apart-counted half is = subst (IsCountedBy half) (sym (progress-is is.setting is.side is.state is.handed half is.goes)) is.goes.counted

pub apart-few : (half : HalfView) → IsApart half → half.end.end.delivered < 268435456
apart-few half is = few-delivered is.setting is.side is.state is.handed half is.goes

-- whether it has an own step
pub apart-rests : (half : HalfView) → next_of half (own_progress half) ≡ None → InEach half (λ setting side state handed. own_event setting side state ≡ None)
apart-rests half none setting side state handed goes =
    sym (next-is setting side state handed half goes) ∙ ap (next_of half) (sym (progress-is setting side state handed half goes)) ∙ none

pub rests-apart : (setting : Setting) (side : Side) (state : HalfState) (handed : List model.Packet) (half : HalfView) → GoesApart setting side state handed half → own_event setting side state ≡ None → next_of half (own_progress half) ≡ None
rests-apart setting side state handed half goes none = ap (next_of half) (progress-is setting side state handed half goes) ∙ next-is setting side state handed half goes ∙ none

module _ (half : HalfView) (packet : Packet) (holds : HoldsBytes packet) (opened : is_open half.end.end.state ≡ true) (within : nat_lt half.counts.events half.limit ≡ true) where
  module _ (setting : Setting) (side : Side) (state : HalfState) (handed : List model.Packet) (goes : GoesApart setting side state handed half) where
    abbrev content : PacketContent
    content = packet_read setting.schema packet

    content-fit : FitsPacket setting.schema (came_by content)
    content-fit = content-fits setting.schema packet holds

    opened-so : is_open state.end.state ≡ true
    opened-so = sym (opened-is setting side state handed half goes) ∙ opened

    within-so : is_within setting side state ≡ true
    within-so = sym (within-is setting side state handed half goes) ∙ within

    delivers-so : (told : AcceptAnswer) (between : HalfView) → DeliversFor half (own_progress half) (packet_read half.end.schema packet) told between → DeliversFor half (progress_of side state.lines) content told between
    delivers-so told between h =
        subst (λ (p : Progress). DeliversFor half p content told between) (progress-is setting side state handed half goes)
        (subst (λ (c : PacketContent). DeliversFor half (own_progress half) c told between) (content-is setting side state handed half goes packet) h)

  pub take-room : IsApart half → HasLineRoom half → (told : AcceptAnswer) (between : HalfView) → DeliversFor half (own_progress half) (packet_read half.end.schema packet) told between → length between.end.lines ≤ between.spare
  take-room is room told between h =
      accept-room is.setting is.side is.state is.handed half is.goes (content is.setting is.side is.state is.handed is.goes) (content-fit is.setting is.side is.state is.handed is.goes)
      (opened-so is.setting is.side is.state is.handed is.goes) (within-so is.setting is.side is.state is.handed is.goes) room told between (delivers-so is.setting is.side is.state is.handed is.goes told between h)

  pub take-gives : next_of half (own_progress half) ≡ None → (told : AcceptAnswer) (between half' : HalfView) → DeliversFor half (own_progress half) (packet_read half.end.schema packet) told between → HasTakenOver between half'
      → InEach half (λ setting side state handed. AcceptGives setting side state handed (packet_read setting.schema packet) told half')
  take-gives none told between half' h over setting side state handed goes =
      accept-gives setting side state handed half goes (content setting side state handed goes) (content-fit setting side state handed goes) (opened-so setting side state handed goes) (within-so setting side state handed goes)
      (apart-rests half none setting side state handed goes) told between half' (delivers-so setting side state handed goes told between h) over

pub closed-gives : (half : HalfView) (reading : Schema → PacketContent) → is_open half.end.end.state ≡ false → InEach half (λ setting side state handed. AcceptGives setting side state handed (reading setting.schema) accept.Nothing half)
closed-gives half reading closed setting side state handed goes = (sym (opened-is setting side state handed half goes) ∙ closed, goes)

pub spent-gives : (half : HalfView) (reading : Schema → PacketContent) (at : Side) → is_open half.end.end.state ≡ true → not (nat_lt half.counts.events half.limit) ≡ true → at ≡ half.end.end.side
    → InEach half (λ setting side state handed. AcceptGives setting side state handed (reading setting.schema) (accept.Spent at) half)
spent-gives half reading at opened full is setting side state handed goes =
    (sym (opened-is setting side state handed half goes) ∙ opened, full-is setting side state handed half goes full, is ∙ side-is setting side state handed half goes, goes)

pub put-gives-each : (half half' : HalfView) → half' ≡ record half { end = half'.end } → (told : Option Packet)
    → MatchOption told ((half.end.packets ≡ []) × (half'.end ≡ half.end)) (λ packet. half.end ≡ record half'.end { packets = packet ∷ half'.end.packets }) → InEach half (λ setting side state handed. PutGives setting side state handed told half')
put-gives-each half half' same told h setting side state handed goes = put-gives setting side state handed half goes half' same told h

-- what is read of a packet that is that of what has a frame
pub reads-framed : (half : HalfView) → IsApart half → (packet : Packet) → HoldsBytes packet → (carries : model.Packet) → IsFramed half.end.schema carries → packet ≡ packet_of half.end.schema carries → packet_read half.end.schema packet ≡ carried carries
reads-framed half is packet holds carries framed same =
    framed-read half.end.schema carries packet (subst IsSound (sym (schema-is is.setting is.side is.state is.handed half is.goes)) is.goes.sound) framed holds same

-- A packet that is offered

offered-as : (seen : EndView) (packet : Packet) → delivery_answer seen packet ≡ answer_to seen (packet_read seen.schema packet)
unfolding delivery_answer
offered-as seen packet = refl

told-none : (r : Option DeliveryRefusal) → refusal_answer r ≡ delivery.Done → is_some r ≡ false
told-none None is = refl
told-none (Some wrong_direction) is = cc
told-none (Some wrong_number) is = cc
told-none (Some wrong_new_id) is = cc
told-none (Some (stray seq)) is = cc
told-none (Some (wrong_actor id number)) is = cc

told-some : (r : Option DeliveryRefusal) (a : DeliverAnswer) → (a ≡ delivery.Done → ⊥) → refusal_answer r ≡ a → is_some r ≡ true
told-some None a isnt is = absurd (isnt (sym is))
told-some (Some r) a isnt is = refl

taken-content : (seen : EndView) (content : PacketContent) → answer_to seen content ≡ delivery.Done → is_refused seen.schema seen.end content ≡ false
taken-content seen (carried p) is = told-none (packet_refusal seen.schema seen.end p) is
taken-content seen (faulty offset rule) is = cc

left-content : (seen : EndView) (content : PacketContent) (a : DeliverAnswer) → (a ≡ delivery.Done → ⊥) → answer_to seen content ≡ a → is_refused seen.schema seen.end content ≡ true
left-content seen (carried p) a isnt is = told-some (packet_refusal seen.schema seen.end p) a isnt is
left-content seen (faulty offset rule) a isnt is = refl

pub offered-refused : (seen : EndView) (packet : Packet) (a : DeliverAnswer) → (a ≡ delivery.Done → ⊥) → delivery_answer seen packet ≡ a → is_refused seen.schema seen.end (packet_read seen.schema packet) ≡ true
offered-refused seen packet a isnt is = left-content seen (packet_read seen.schema packet) a isnt (sym (offered-as seen packet) ∙ is)

pub offered-done : (half between : HalfView) (progress : Progress) (packet : Packet) → delivery_answer half.end packet ≡ delivery.Done → IsHalfDelivery half progress packet between → ContentGives half progress (packet_read half.end.schema packet) delivery.Done between
offered-done half between progress packet is d = (
  taken-content half.end (packet_read half.end.schema packet) (sym (offered-as half.end packet) ∙ is),
  subst (λ (p : model.Packet). IsHalfStep half progress (p ∷ []) event.deliver between) (sym (ap came_by d.is_read)) d.steps,
)

-- a half with the end that it had is as it was
pub same-end : (half : HalfView) (v : EndView) → v ≡ half.end → record half { end = v } ≡ half
same-end half v same = ap (λ (w : EndView). record half { end = w }) same

-- The halves of a run that has just begun

opening-side : (top : ℕ) (side : Side) → end_of side (opening top) ≡ opening_end top side
opening-side top sides.Parent = refl
opening-side top sides.Child = refl

begun-apart : (setting : Setting) (side : Side) (state : RunState) (half half' : HalfView) → IsSound setting.schema → IsValid setting.schema setting.script → setting.limit ≤ most_events → IsHalfOf setting state side half → state ≡ beginning_of setting
    → half' ≡ record half { history = []; spare = half'.spare } → GoesApart setting side (opening_half setting side) [] half'
begun-apart setting side state half half' sound valid small is begins same =
    let counted : IsCountedBy half (progress_of side []) = subst (λ (s : RunState). IsCountedBy half (progress_of side s.lines)) begins is.counted in
    subst (GoesApart setting side (opening_half setting side) []) (sym same)
    (record {
      sound = sound;
      valid = valid;
      small = small;
      about = is.about;
      runs = half_run.begins;
      end = is.end ∙ ap (λ (s : RunState). end_of side s.world) begins ∙ opening-side setting.script.top side;
      counted = record { counts = counted.counts; held = counted.held };
      history = refl;
      no_lines = is.no_lines;
      held = [];
      sent = refl;
      packets = is.no_packets;
      framed = tt;
    })

pub world-apart : (setting : Setting) (state : RunState) (side : Side) (link : LinkView) (half half' : HalfView) (view : WorldView) → IsRun setting state link → IsHalfOf setting state side half → record { setting = setting; state = state } ≡ view → view ≡ opening_of view.setting
    → half' ≡ record half { history = []; spare = half'.spare } → GoesApart view.setting side (opening_half view.setting side) [] half'
world-apart setting state side link half half' view run is seen opens same =
    let told : setting ≡ view.setting = ap (λ (v : WorldView). v.setting) seen in
    let begins : state ≡ beginning_of setting = ap (λ (v : WorldView). v.state) seen ∙ ap (λ (v : WorldView). v.state) opens ∙ ap beginning_of (sym told) in
    subst (λ (s : Setting). GoesApart s side (opening_half s side) [] half') told (begun-apart setting side state half half' run.sound run.valid run.small is begins same)
