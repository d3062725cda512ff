-- The half of a feed at a state of it, and what turns make of both.
use Rattle.std.proofs.Common.{◌≡◌, ℕ, ◌+◌, ◌<◌, ◌≤◌, nat_lt, Bool, true, false, not, if◌then◌else◌, List, [], ◌∷◌, ◌++◌, drop, length, length-drop, map, Option, Some, None, is_some, refl, sym, ap, subst, ◌∙◌, arith}
use Rattle.std.specs.List.{AllZip}
use Rattle.std.specs.Option.{option_map_or}
use Rattle.std.proofs.lemmas.List.{map-append}
use Rattle.handler_script.specs.declared.script.Script.{Script}
use Rattle.handler_script.specs.Valid.{IsValid}
use Rattle.ipdl_base.specs.declared.kinds.Side.{Side}
use Rattle.ipdl_base.specs.declared.line.Line.{Line}
use Rattle.ipdl_base.specs.declared.message.Message.{Message}
use Rattle.ipdl_base.specs.declared.schema.Schema.{Schema}
use Rattle.ipdl_base.specs.Sound.{IsSound}
use Rattle.history.specs.HistoryView.{HistoryView}
use Rattle.value_types.specs.declared.layout.TheConstants.{NEW}
use Rattle.value_codec.specs.Decoding.{begins}
use Rattle.value_codec.specs.Laws.{AreBytes}
use Rattle.channel_model.specs.Ends.{End, Packet, message, mark}
use Rattle.channel_model.specs.Events.{Event}
use Rattle.channel_model.specs.Events as event
use Rattle.channel_model.specs.Fitting.{IsFitting}
use Rattle.channel_model.specs.Outputs.{Output, is_open, line_at}
use Rattle.channel_model.specs.Steps.{step}
use Rattle.channel_core.specs.EndView.{EndView, opened}
use Rattle.end_parts.specs.PlainLines.{plain_line}
use Rattle.script_runs.specs.Allowed.{IsAllowed}
use Rattle.script_runs.specs.Dispatches.{dispatches}
use Rattle.script_runs.specs.Handlers.{IsHandlerOf}
use Rattle.script_steps.proofs.StepLines.{Prints, step-prints}
use Rattle.script_steps.specs.Choices.{Setting}
use Rattle.script_steps.specs.NextEvent.{next_event}
use Rattle.script_steps.specs.Progress.{Progress, no_progress, progress_of}
use Rattle.relay_runs.proofs.HalfRuns.{delivered-itself}
use Rattle.relay_runs.specs.HalfRuns.{after, after_next, after_packet, delivered_for, is_within, own_event}
use Rattle.feed_runs.proofs.FeedRuns.{IsTaken, left-at, reached-read, taken-at}
use Rattle.feed_runs.specs.declared.fault.FeedFault.{FeedFault}
use Rattle.feed_runs.specs.FeedTurns.{FeedState, Feeds, leads, idles, exceeds, rests, stops, goes_on, after_frame, after_step, beginning_of, feed_turn, kept_fault, reading_turn, turn_by}
use Rattle.feed_runs.specs.NextFrame.{NextFrame, taken, refused, frame_at, next_frame}
use Rattle.feed_runs.specs.Reached.{Reaches, stays, turns}
use Rattle.world_core.proofs.FeedEnds.{feed_turns_are_possible, turns_are_counted}
use Rattle.world_core.proofs.Played.{own-progress}
use Rattle.world_core.specs.declared.answers.StepAnswer.{StepAnswer}
use Rattle.world_core.specs.declared.answers.StepAnswer.TheVariants as answer
use Rattle.world_core.specs.declared.feeding.FeedTrace.{FeedTrace}
use Rattle.world_core.specs.declared.feeding.FrameAnswer.TheVariants as frame
use Rattle.world_core.specs.FeedLaws.{CanGoOn}
use Rattle.world_core.specs.Feeding.{BreakGives, FrameGives, HasCome, HasEnded, HasLedOn, HasStored, IsTraced, MayBeGiven, MayRead, OwnTurnGives, Passed, RestsAt, StoreGives, TurnGives, lines_in, progress_in, state_in}
use Rattle.world_core.specs.HalfSteps.{IsHalfStep, IsOwnStep, MayGoOn, next_of}
use Rattle.world_core.specs.HalfView.{HalfView, IsCountedBy, appended, setting_of}
use Rattle.world_core.specs.Worlds.{most_events}

-- what a feed makes from a state to which it comes, it makes from its beginning
pub reached-feeds : (setting : Setting) (side : Side) (bytes : List ℕ) (from state last : FeedState) (spent : Bool) → Reaches setting side bytes from state → Feeds setting side bytes state last spent → Feeds setting side bytes from last spent
reached-feeds setting side bytes from _ last spent stays f = f
reached-feeds setting side bytes from _ last spent (turns state next before is) f = reached-feeds setting side bytes from state last spent before (goes_on state next last spent is f)

-- a state of these parts; states are the same whose parts are
abbrev state_of_parts : End → List Line → Passed → ℕ → Option FeedFault → FeedState
state_of_parts end lines passed place fault =
    record { half = record { end = end; lines = lines; came = passed.came; delivered = passed.delivered; sent = passed.sent }; place = place; fault = fault }

same-state : (end end' : End) (lines lines' : List Line) (passed : Passed) (place place' : ℕ) (fault fault' : Option FeedFault) → end ≡ end' → lines ≡ lines' → place ≡ place' → fault ≡ fault'
    → state_of_parts end lines passed place fault ≡ state_of_parts end' lines' passed place' fault'
same-state end end' lines lines' passed place place' fault fault' a b c d =
    ap (λ (e : End). state_of_parts e lines passed place fault) a ∙ ap (λ (ls : List Line). state_of_parts end' ls passed place fault) b ∙ ap (λ (n : ℕ). state_of_parts end' lines' passed n fault) c
    ∙ ap (λ (f : Option FeedFault). state_of_parts end' lines' passed place' f) d

module _ (setting : Setting) (side : Side) (bytes : List ℕ) (half : HalfView) (trace : FeedTrace) (come : HasCome setting side bytes half trace) where
  abbrev state_is : FeedState
  state_is = state_in half trace come.passed

  few-events : setting.limit < 268435456
  few-events = let small = come.small in omega (arith, small)

  can : CanGoOn setting side state_is.half
  can = feed_turns_are_possible setting side bytes state_is come.sound come.valid few-events come.are come.reached

  pub schema-is : half.end.schema ≡ setting.schema
  schema-is = ap (λ (s : Setting). s.schema) come.traced.about

  pub next-is : next_of half (progress_in side trace) ≡ own_event setting side state_is.half
  next-is = ap (λ (s : Setting). next_event s.script s.stop half.end.end (progress_in side trace)) come.traced.about

  pub within-is : nat_lt half.counts.events half.limit ≡ is_within setting side state_is.half
  within-is =
      ap (λ (n : ℕ). nat_lt n half.limit) come.traced.counted.counts.events
      ∙ ap (λ (s : Setting). nat_lt (progress_in side trace).events s.limit) come.traced.about

  pub may-go-on : MayGoOn half (progress_in side trace)
  may-go-on =
      let sent = can.sent in
      let within = can.within in
      let few = few-events in
      record {
        counted = come.traced.counted;
        few = omega (arith, sent, within, few);
        allowed = λ event is. subst (λ (schema : Schema). IsAllowed schema half.end.end event) (sym schema-is) (can.allowed event (sym next-is ∙ is));
        fitting = subst (λ (schema : Schema). IsFitting schema half.end.end) (sym schema-is) can.fitting;
        valid = subst (λ (s : Setting). IsValid s.schema s.script) (sym come.traced.about) come.valid;
        handlers = subst (λ (s : Setting). AllZip (IsHandlerOf s.schema s.script half.end.end.side half.end.end) (dispatches half.end.end.stack) (progress_in side trace).handled) (sym come.traced.about) can.handlers;
        apart = can.apart;
      }

  pub may-be-given : MayRead setting side half trace → MayBeGiven half (progress_in side trace)
  may-be-given may =
      let delivered = can.delivered in
      let within = can.within in
      let few = few-events in
      record {
        sound = subst IsSound (sym schema-is) come.sound;
        open_is = may.open_is;
        counted = come.traced.counted;
        few = omega (arith, delivered, within, few);
        within = may.within;
      }

  pub place-within : trace.place ≤ length bytes
  place-within = (reached-read setting side bytes come.are state_is come.reached).within

  -- a turn that leads to a new half and a new trace has led on
  leads-on : (half' : HalfView) (trace' : FeedTrace) (passed : Passed) → IsTraced setting side half' trace' → feed_turn setting side bytes state_is ≡ leads (state_in half' trace' passed) → HasLedOn setting side bytes trace half' trace'
  leads-on half' trace' passed traced is =
      let counted = turns_are_counted setting side bytes state_is (state_in half' trace' passed) come.sound come.valid few-events come.are come.reached is in
      record {
        come = record {
          sound = come.sound;
          valid = come.valid;
          small = come.small;
          are = come.are;
          traced = traced;
          passed = passed;
          reached = turns state_is (state_in half' trace' passed) come.reached is;
        };
        few = counted.0;
        more = counted.1;
      }

  -- The half has made a step and stored its lines
  module _ (happened : Event) (link : List Packet) (between half' : HalfView) (middle trace' : FeedTrace) (steps : IsHalfStep half (progress_in side trace) link happened between) (same : middle.history ≡ trace.history)
      (stored : HasStored between middle half' trace') where
    is : step setting.schema half.end.end link happened ≡ Some steps.output
    is = ap (λ (schema : Schema). step schema half.end.end link happened) (sym schema-is) ∙ steps.is_step

    made : between.end.lines ≡ steps.output.lines
    made = ap (λ (v : EndView). v.lines) steps.is_after ∙ ap (λ (ls : List Line). ls ++ steps.output.lines) come.traced.no_lines

    pub lines-are : lines_in trace' ≡ lines_in trace ++ steps.output.lines
    lines-are =
        ap (map plain_line) stored.moved.last
        ∙ map-append plain_line middle.history.lines stored.moved.moved
        ∙ ap (λ (ls : List Line). map plain_line middle.history.lines ++ ls) (stored.moved.are ∙ made)
        ∙ ap (λ (h : HistoryView). map plain_line h.lines ++ steps.output.lines) same

    pub end-is : half'.end.end ≡ steps.output.end
    end-is = ap (λ (h : HalfView). h.end.end) stored.half_is ∙ ap (λ (v : EndView). v.end) steps.is_after

    pub place-is : trace'.place ≡ middle.place
    place-is = ap (λ (t : FeedTrace). t.place) stored.trace_is

    pub fault-is : trace'.fault ≡ middle.fault
    fault-is = ap (λ (t : FeedTrace). t.fault) stored.trace_is

    pub traced-on : IsTraced setting side half' trace'
    traced-on =
        let prints : Prints half.end.end happened steps.output = step-prints setting.schema half.end.end link happened steps.output is in
        let are : steps.output.lines ≡ map (line_at side) (prints.first ∷ prints.rest) = prints.lines ∙ ap (λ (s : Side). map (line_at s) (prints.first ∷ prints.rest)) can.side_is in
        let about : setting_of between ≡ setting =
        ap setting_of steps.same ∙ ap (λ (schema : Schema). record { schema = schema; script = half.script; stop = half.stop; limit = half.limit }) (ap (λ (v : EndView). v.schema) steps.is_after) ∙ come.traced.about in
        let moved : progress_in side trace' ≡ _ =
        ap (progress_of side) lines-are ∙ own-progress side (lines_in trace) steps.output.lines (prints.first ∷ prints.rest) are in
        let counted : IsCountedBy between (progress_in side trace') = subst (λ (p : Progress). IsCountedBy between p) (sym moved) steps.counted in
        let traced : IsTraced setting side (appended between) trace' = record { about = about; no_lines = refl; no_packets = refl; counted = record { counts = counted.counts; held = counted.held } } in
        subst (λ (h : HalfView). IsTraced setting side h trace') (sym stored.half_is) traced

  -- An own step

  own-turn : (own : Event) → own_event setting side state_is.half ≡ Some own → is_within setting side state_is.half ≡ true → feed_turn setting side bytes state_is ≡ leads (after_step setting state_is own)
  own-turn own has within = ap (turn_by setting side bytes state_is) has ∙ ap (λ (b : Bool). if b then leads (after_step setting state_is own) else exceeds) within

  own-full : (own : Option Event) → own_event setting side state_is.half ≡ own → is_some own ≡ true → is_within setting side state_is.half ≡ false → feed_turn setting side bytes state_is ≡ exceeds
  own-full None has some full = cc
  own-full (Some own) has some full = ap (turn_by setting side bytes state_is) has ∙ ap (λ (b : Bool). if b then leads (after_step setting state_is own) else exceeds) full

  ended : (spent : Bool) → Feeds setting side bytes state_is state_is spent → HasEnded setting side bytes spent half trace
  ended spent feeds = record { passed = come.passed; feeds = reached-feeds setting side bytes (beginning_of setting side) state_is state_is spent come.reached feeds }

  -- the packets after a step, of which these came and were delivered
  abbrev passed_by : Output → List Packet → List Packet → Passed
  passed_by output came delivered = record { came = came; delivered = delivered; sent = come.passed.sent ++ output.packets }

  pub own-led : (between half' : HalfView) (trace' : FeedTrace) → IsOwnStep half (progress_in side trace) between → HasStored between trace half' trace' → HasLedOn setting side bytes trace half' trace'
  own-led between half' trace' own stored =
      let steps = own.steps in
      let has : own_event setting side state_is.half ≡ Some own.event = sym next-is ∙ own.is_next in
      let passed : Passed = passed_by steps.output come.passed.came come.passed.delivered in
      let next : after_step setting state_is own.event ≡ state_in half' trace' passed =
      ap (λ (found : Option Output). record state_is { half = option_map_or (after state_is.half) found state_is.half }) (is own.event [] between half' trace trace' steps refl stored)
      ∙ sym (same-state half'.end.end steps.output.end (lines_in trace') (lines_in trace ++ steps.output.lines) passed trace'.place trace.place trace'.fault trace.fault
      (end-is own.event [] between half' trace trace' steps refl stored) (lines-are own.event [] between half' trace trace' steps refl stored)
      (place-is own.event [] between half' trace trace' steps refl stored) (fault-is own.event [] between half' trace trace' steps refl stored)) in
      leads-on half' trace' passed (traced-on own.event [] between half' trace trace' steps refl stored)
      (own-turn own.event has (sym within-is ∙ own.within) ∙ ap leads next)

  -- an own turn that is made, or none as the limit is reached
  pub own-gives : (a : StepAnswer) (half' : HalfView) (trace' : FeedTrace) → (a ≡ answer.Nothing → ⊥) → OwnTurnGives half (progress_in side trace) trace a half' trace' → TurnGives setting side bytes trace a half' trace'
  own-gives answer.Did half' trace' isnt h = own-led h.0 half' trace' h.1 h.2
  own-gives answer.Nothing half' trace' isnt h = absurd (isnt refl)
  own-gives (answer.Spent s) half' trace' isnt h =
      subst (λ (v : HalfView). HasEnded setting side bytes true v trace') (sym h.2)
      (subst (λ (t : FeedTrace). HasEnded setting side bytes true half t) (sym h.3)
      (ended true (stops state_is (own-full (own_event setting side state_is.half) refl (ap is_some (sym next-is) ∙ h.0) (sym within-is ∙ h.1)))))
  own-gives answer.NoMemory half' trace' isnt h = tt

  -- where it has none, nothing changed, and the end rests
  pub own-rests : (half' : HalfView) (trace' : FeedTrace) → OwnTurnGives half (progress_in side trace) trace answer.Nothing half' trace' → HasCome setting side bytes half' trace' × RestsAt setting side half' trace'
  own-rests half' trace' h =
      subst (λ (v : HalfView). HasCome setting side bytes v trace' × RestsAt setting side v trace') (sym h.1)
      (subst (λ (t : FeedTrace). HasCome setting side bytes half t × RestsAt setting side half t) (sym h.2) (come, sym next-is ∙ h.0))

  -- A look at the bytes

  -- what is at the place is looked at under the schema of the half
  pub frame-is : (left : List ℕ) (next : NextFrame) → left ≡ drop trace.place bytes → frame_at half.end.schema half.end.end trace.place (begins NEW half.end.schema left) ≡ next → next_frame setting.schema half.end.end trace.place bytes ≡ next
  frame-is left next are h =
      sym (ap (λ (schema : Schema). frame_at schema half.end.end trace.place (begins NEW schema left)) schema-is ∙ ap (λ (bs : List ℕ). frame_at setting.schema half.end.end trace.place (begins NEW setting.schema bs)) are) ∙ h

  module _ (none : RestsAt setting side half trace) where
    reads : feed_turn setting side bytes state_is ≡ reading_turn setting side bytes state_is
    reads = ap (turn_by setting side bytes state_is) none

    pub closed-ends : is_open half.end.end.state ≡ false → HasEnded setting side bytes false half trace
    closed-ends closed =
        ended false (rests state_is (reads ∙ ap (λ (b : Bool). if b then (if is_within setting side state_is.half then leads (after_frame setting bytes state_is (next_frame setting.schema half.end.end trace.place bytes)) else exceeds) else idles) closed))

    pub full-ends : is_open half.end.end.state ≡ true → not (nat_lt half.counts.events half.limit) ≡ true → HasEnded setting side bytes true half trace
    full-ends opens full =
        ended true (stops state_is (reads
        ∙ ap (λ (b : Bool). if b then (if is_within setting side state_is.half then leads (after_frame setting bytes state_is (next_frame setting.schema half.end.end trace.place bytes)) else exceeds) else idles) opens
        ∙ ap (λ (b : Bool). if b then leads (after_frame setting bytes state_is (next_frame setting.schema half.end.end trace.place bytes)) else exceeds) (sym within-is ∙ isnt (nat_lt half.counts.events half.limit) full)))
      where
        isnt : (b : Bool) → not b ≡ true → b ≡ false
        isnt true h = cc
        isnt false h = refl

    frame-turn : (next : NextFrame) → next_frame setting.schema half.end.end trace.place bytes ≡ next → is_open half.end.end.state ≡ true → nat_lt half.counts.events half.limit ≡ true → feed_turn setting side bytes state_is ≡ leads (after_frame setting bytes state_is next)
    frame-turn next stands opens within =
        reads
        ∙ ap (λ (b : Bool). if b then (if is_within setting side state_is.half then leads (after_frame setting bytes state_is (next_frame setting.schema half.end.end trace.place bytes)) else exceeds) else idles) opens
        ∙ ap (λ (b : Bool). if b then leads (after_frame setting bytes state_is (next_frame setting.schema half.end.end trace.place bytes)) else exceeds) (sym within-is ∙ within)
        ∙ ap (λ (n : NextFrame). leads (after_frame setting bytes state_is n)) stands

    module _ (left : List ℕ) (are : left ≡ drop trace.place bytes) (may : MayRead setting side half trace) where
      -- a packet came, for which this was delivered; the trace has moved to this place, with this fault
      came-led : (packet given : Packet) (frame : NextFrame) (place : ℕ) (fault : Option FeedFault) (between half' : HalfView) (middle trace' : FeedTrace) → next_frame setting.schema half.end.end trace.place bytes ≡ frame
          → after_frame setting bytes state_is frame ≡ record { half = after_next setting state_is.half packet; place = place; fault = fault } → delivered_for setting.schema half.end.end packet ≡ given
          → (steps : IsHalfStep half (progress_in side trace) (given ∷ []) event.deliver between) → middle ≡ record trace { place = place; fault = fault } → HasStored between middle half' trace' → HasLedOn setting side bytes trace half' trace'
      came-led packet given frame place fault between half' middle trace' stands makes gives steps moved stored =
          let same = ap (λ (t : FeedTrace). t.history) moved in
          let passed : Passed = passed_by steps.output (come.passed.came ++ packet ∷ []) (come.passed.delivered ++ given ∷ []) in
          let next : after_frame setting bytes state_is frame ≡ state_in half' trace' passed =
          makes
          ∙ ap (λ (p : Packet). record { half = option_map_or (after_packet state_is.half packet p) (step setting.schema half.end.end (p ∷ []) event.deliver) state_is.half; place = place; fault = fault }) gives
          ∙ ap (λ (found : Option Output). record { half = option_map_or (after_packet state_is.half packet given) found state_is.half; place = place; fault = fault }) (is event.deliver (given ∷ []) between half' middle trace' steps same stored)
          ∙ sym (same-state half'.end.end steps.output.end (lines_in trace') (lines_in trace ++ steps.output.lines) passed trace'.place place trace'.fault fault
          (end-is event.deliver (given ∷ []) between half' middle trace' steps same stored) (lines-are event.deliver (given ∷ []) between half' middle trace' steps same stored)
          (place-is event.deliver (given ∷ []) between half' middle trace' steps same stored ∙ ap (λ (t : FeedTrace). t.place) moved)
          (fault-is event.deliver (given ∷ []) between half' middle trace' steps same stored ∙ ap (λ (t : FeedTrace). t.fault) moved)) in
          leads-on half' trace' passed (traced-on event.deliver (given ∷ []) between half' middle trace' steps same stored) (frame-turn frame stands may.open_is may.within ∙ ap leads next)

      -- a frame was delivered
      pub taken-led : (m : Message) (size : ℕ) (between half' : HalfView) (middle trace' : FeedTrace) → frame_at half.end.schema half.end.end trace.place (begins NEW half.end.schema left) ≡ taken m size
          → IsHalfStep half (progress_in side trace) (message m ∷ []) event.deliver between → middle ≡ record trace { place = trace.place + size } → HasStored between middle half' trace' → HasLedOn setting side bytes trace half' trace'
      taken-led m size between half' middle trace' stands steps moved stored =
          let at : next_frame setting.schema half.end.end trace.place bytes ≡ taken m size = frame-is left (taken m size) are stands in
          came-led (message m) (message m) (taken m size) (trace.place + size) trace.fault between half' middle trace' at refl
          (delivered-itself setting.schema half.end.end (message m) (taken-at setting side bytes come.are state_is m size at).accepted) steps moved stored

      -- what is there was refused, and the mark was delivered
      pub refused-led : (packet : Packet) (fault : FeedFault) (between half' : HalfView) (middle trace' : FeedTrace) → frame_at half.end.schema half.end.end trace.place (begins NEW half.end.schema left) ≡ refused packet fault
          → IsHalfStep half (progress_in side trace) (mark ∷ []) event.deliver between → middle ≡ record trace { fault = kept_fault left fault } → HasStored between middle half' trace' → HasLedOn setting side bytes trace half' trace'
      refused-led packet fault between half' middle trace' stands steps kept stored =
          let at : next_frame setting.schema half.end.end trace.place bytes ≡ refused packet fault = frame-is left (refused packet fault) are stands in
          came-led packet mark (refused packet fault) trace.place (kept_fault (drop trace.place bytes) fault) between half' middle trace' at refl
          (left-at setting side bytes come.are state_is packet fault at).given steps (kept ∙ ap (λ (bs : List ℕ). record trace { fault = kept_fault bs fault }) are) stored

-- What an end makes that looks at the bytes

module _ (setting : Setting) (side : Side) (bytes : List ℕ) (half : HalfView) (trace : FeedTrace) (come : HasCome setting side bytes half trace) (progress : Progress) (left : List ℕ) (are : left ≡ drop trace.place bytes) where
  -- a frame that was taken ends among the bytes
  pub read-room : (size : ℕ) (between : HalfView) → FrameGives half progress (frame_at half.end.schema half.end.end trace.place (begins NEW half.end.schema left)) (frame.Taken size) between → trace.place + size ≤ length bytes
  read-room size between h =
      let stands : next_frame setting.schema half.end.end trace.place bytes ≡ taken h.0 size = frame-is setting side bytes half trace come left (taken h.0 size) are h.1 in
      let t : IsTaken setting.schema half.end.end (drop trace.place bytes) h.0 size = taken-at setting side bytes come.are (state_in half trace come.passed) h.0 size stands in
      let whole : size ≤ length (drop trace.place bytes) = t.begun.within in
      let before = place-within setting side bytes half trace come in
      let rest = length-drop trace.place bytes in
      omega (arith, whole, before, rest)

  module _ (told : progress ≡ progress_in side trace) (may : MayRead setting side half trace) where
    told-steps : (link : List Packet) (between : HalfView) → IsHalfStep half progress link event.deliver between → IsHalfStep half (progress_in side trace) link event.deliver between
    told-steps link between steps = subst (λ (p : Progress). IsHalfStep half p link event.deliver between) told steps

    pub read-taken : (size : ℕ) (between half' : HalfView) (trace' : FeedTrace) → FrameGives half progress (frame_at half.end.schema half.end.end trace.place (begins NEW half.end.schema left)) (frame.Taken size) between
        → (a : StepAnswer) → StoreGives between (record trace { place = trace.place + size }) a half' trace' → TurnGives setting side bytes trace a half' trace'
    read-taken size between half' trace' h answer.Did stored =
        taken-led setting side bytes half trace come may.rests left are may h.0 size between half' (record trace { place = trace.place + size }) trace' h.1 (told-steps (message h.0 ∷ []) between h.2) refl stored
    read-taken size between half' trace' h answer.Nothing stored = absurd stored
    read-taken size between half' trace' h (answer.Spent at) stored = absurd stored
    read-taken size between half' trace' h answer.NoMemory stored = tt

    broken-off : (packet : Packet) (fault : FeedFault) (half' : HalfView) (trace' : FeedTrace) → frame_at half.end.schema half.end.end trace.place (begins NEW half.end.schema left) ≡ refused packet fault
        → (a : StepAnswer) → BreakGives half progress (record trace { fault = kept_fault left fault }) a half' trace' → TurnGives setting side bytes trace a half' trace'
    broken-off packet fault half' trace' stands answer.Did b =
        refused-led setting side bytes half trace come may.rests left are may packet fault b.between half' (record trace { fault = kept_fault left fault }) trace' stands (told-steps (mark ∷ []) b.between b.steps) refl b.stored
    broken-off packet fault half' trace' stands answer.Nothing b = absurd b
    broken-off packet fault half' trace' stands (answer.Spent at) b = absurd b
    broken-off packet fault half' trace' stands answer.NoMemory b = tt

    pub read-break : (fault : FeedFault) (between : HalfView) → FrameGives half progress (frame_at half.end.schema half.end.end trace.place (begins NEW half.end.schema left)) (frame.Refused fault) between
        → (kept : Option FeedFault) → kept ≡ kept_fault left fault → (half' : HalfView) (trace' : FeedTrace) (a : StepAnswer) → BreakGives between progress (record trace { fault = kept }) a half' trace' → TurnGives setting side bytes trace a half' trace'
    read-break fault between h kept is half' trace' a b =
        broken-off h.0 fault half' trace' h.1 a
        (subst (λ (k : Option FeedFault). BreakGives half progress (record trace { fault = k }) a half' trace') is (subst (λ (v : HalfView). BreakGives v progress (record trace { fault = kept }) a half' trace') h.2 b))

-- A feed as it begins

module _ (schema : Schema) (script : Script) (side : Side) (limit : ℕ) (bytes : List ℕ) (half : HalfView)
    (made : half ≡ record { end = opened side schema script.top; script = script; stop = None; limit = limit; counts = half.counts; history = half.history; spare = half.spare }) where
  abbrev setting_is : Setting
  setting_is = record { schema = schema; script = script; stop = None; limit = limit }

  feed-begins : (trace : FeedTrace) → IsSound schema → IsValid schema script → limit ≤ most_events → AreBytes bytes → IsCountedBy half no_progress → trace.history.lines ≡ [] → trace.place ≡ 0 → trace.fault ≡ None → HasCome setting_is side bytes half trace
  feed-begins trace sound valid small are counted lines place fault =
      let opens : half.end ≡ opened side schema script.top = ap (λ (h : HalfView). h.end) made in
      let no : lines_in trace ≡ [] = ap (map plain_line) lines in
      let none : Passed = record { came = []; delivered = []; sent = [] } in
      let begins : beginning_of setting_is side ≡ state_in half trace none =
      sym (same-state half.end.end (opened side schema script.top).end (lines_in trace) [] none trace.place 0 trace.fault None (ap (λ (v : EndView). v.end) opens) no place fault) in
      record {
        sound = sound;
        valid = valid;
        small = small;
        are = are;
        traced = record {
          about = ap setting_of made;
          no_lines = ap (λ (v : EndView). v.lines) opens;
          no_packets = ap (λ (v : EndView). v.packets) opens;
          counted = subst (λ (ls : List Line). IsCountedBy half (progress_of side ls)) (sym no) counted;
        };
        passed = none;
        reached = subst (λ (s : FeedState). Reaches setting_is side bytes (beginning_of setting_is side) s) begins stays;
      }

  pub feed-opens : (trace : FeedTrace) → IsSound schema → IsValid schema script → limit ≤ most_events → AreBytes bytes → IsCountedBy half no_progress → trace.history.lines ≡ [] → trace.place ≡ 0 → trace.fault ≡ None
      → HasCome (setting_of half) half.end.end.side bytes half trace
  feed-opens trace sound valid small are counted lines place fault =
      subst (λ (h : HalfView). HasCome (setting_of h) h.end.end.side bytes half trace) (sym made) (feed-begins trace sound valid small are counted lines place fault)
