-- What an end keeps that runs by itself by a valid script: whatever comes to it, each next step and each delivery is
-- possible, and is one event more; and it has few lines for its events.
use Rattle.std.proofs.Common.{◌≡◌, ℕ, ℤ, ◌+◌, ◌*◌, ◌<◌, ◌≤◌, nat_lt, true, false, cond, if◌then◌else◌, List, [], ◌∷◌, ◌++◌, length, Some, None, is_some, refl, sym, ap, subst, ◌∙◌, arith}
use Rattle.std.specs.List.{AllZip}
use Rattle.std.proofs.lemmas.Bool.Decides.{Decides-ltb}
use Rattle.std.proofs.lemmas.List.{length-append}
use Rattle.handler_script.specs.Valid.{IsValid}
use Rattle.ipdl_base.specs.declared.kinds.Side.{Side}
use Rattle.ipdl_base.specs.declared.line.Line.{Line}
use Rattle.ipdl_base.specs.Lines.{same_side}
use Rattle.ipdl_base.specs.Sound.{IsSound}
use Rattle.history_reading.specs.Reading.{end_reading_of, read}
use Rattle.channel_model.specs.Bounds.{HasCounted, IsBounded, IsCounted, unsettled}
use Rattle.channel_model.specs.Deliveries.{deliver}
use Rattle.channel_model.specs.Ends.{End, Packet, opening_end}
use Rattle.channel_model.specs.Events.{Event}
use Rattle.channel_model.specs.Events as event
use Rattle.channel_model.specs.Fitting.{FitsPacket, IsFitting, IsFittingDelivery}
use Rattle.channel_model.specs.Outputs.{Output, is_dead_end, is_open}
use Rattle.channel_model.specs.Refusals.{packet_refusal}
use Rattle.channel_model.specs.Steps.{step}
use Rattle.channel_model.proofs.BoundedParts.{steps_are_bounded}
use Rattle.channel_model.proofs.CountedParts.{counts_grow}
use Rattle.channel_model.proofs.FittingParts.{first_ends_fit, fitting_ends_stay}
use Rattle.channel_laws.specs.AnswersOnce.{owes_answer}
use Rattle.channel_laws.specs.Counts.{how_many}
use Rattle.channel_laws.proofs.FallenRuns.{known-of, top_protocol}
use Rattle.channel_laws.proofs.Testing.{same-side}
use Rattle.script_steps.specs.Choices.{Setting}
use Rattle.script_steps.specs.NextEvent.{next_event}
use Rattle.script_steps.specs.Progress.{Progress, after_lines, lines_of, progress_of}
use Rattle.script_steps.proofs.Counting.{lines_of-own, progress-append, step-counted}
use Rattle.script_steps.proofs.StepLines.{Prints, step-prints}
use Rattle.script_runs.specs.Allowed.{IsAllowed}
use Rattle.script_runs.specs.Dispatches.{dispatches}
use Rattle.script_runs.specs.Handlers.{IsHandlerOf}
use Rattle.script_runs.proofs.CaseRuns.{IsCaseEnd}
use Rattle.script_runs.proofs.Handlers.{IsKept, delivery-kept, names-kept, next-kept}
use Rattle.script_runs.proofs.KeptRuns.{stand-all}
use Rattle.script_runs.proofs.Leaves.{NameNoNulls}
use Rattle.script_runs.proofs.NextSteps.{IsNext, next-is}
use Rattle.script_runs.proofs.Possible.{allowed-possible, next-allowed, next-own}
use Rattle.script_runs.proofs.Shows.{step-shows}
use Rattle.alone_laws.specs.AloneRuns.{RunsAlone}
use Rattle.alone_laws.specs.AloneRuns as alone
use Rattle.alone_laws.specs.KeptAlone.{KeepsAlone}
use Rattle.alone_laws.proofs.AloneRuns.{runs-keep}
use Rattle.relay_runs.proofs.HalfRuns.{provided-some}

pub fewer : (n limit : ℕ) → nat_lt n limit ≡ true → n < limit
fewer n limit h = (Decides-ltb n limit).0 h

-- What is kept of an end with its lines and the packets that were delivered.
pub record KeepsEnd (setting : Setting) (side : Side) (e : End) (lines : List Line) (packets : List Packet) : Type 0 where
  pub run : RunsAlone setting.schema setting.script.top side e lines packets
  pub handled : AllZip (IsKept setting side) (dispatches e.stack) (progress_of side lines).handled
  pub names : NameNoNulls e
  pub fits : IsFitting setting.schema e
  pub counted : IsCounted e
  pub sent : e.sent ≤ (progress_of side lines).events
  pub delivered : e.delivered ≤ (progress_of side lines).events
  pub within_limit : (progress_of side lines).events ≤ setting.limit
  pub room : length lines + unsettled e ≤ 5 * (progress_of side lines).events + 1

module _ (setting : Setting) (side : Side) (sound : IsSound setting.schema) (valid : IsValid setting.schema setting.script) (limit : setting.limit < 268435456) where
  abbrev progress : List Line → Progress
  progress lines = progress_of side lines

  abbrev Keeps : End → List Line → List Packet → Type 0
  Keeps e lines packets = KeepsEnd setting side e lines packets

  pub begins-kept : Keeps (opening_end setting.script.top side) [] []
  begins-kept =
      let first = first_ends_fit setting.schema setting.script.top side in
      record { run = alone.begins; handled = tt; names = tt; fits = first.0; counted = first.1; sent = omega arith; delivered = omega arith; within_limit = omega arith; room = omega arith }

  module _ (e : End) (lines : List Line) (packets : List Packet) (k : Keeps e lines packets) where
    pub kept : KeepsAlone setting.schema setting.script.top side e lines packets
    kept = runs-keep setting.schema sound setting.script.top side e lines packets k.run

    once : (n : ℤ) → how_many (owes_answer n) e.stack ≤ 1
    once n =
        let all = kept.read_is.exchanges.answers.numbered.once n in
        omega (arith, all)

    pub known : IsCaseEnd setting.schema e
    known = record { state = kept.read_is.actors.state; once = once }

    pub stands : AllZip (IsHandlerOf setting.schema setting.script e.side e) (dispatches e.stack) (progress lines).handled
    stands =
        subst (λ (s : Side). AllZip (IsHandlerOf setting.schema setting.script s e) (dispatches e.stack) (progress lines).handled) (sym kept.side_is)
        (stand-all setting side e limit valid known [] e.stack (progress lines).handled refl k.fits.stack k.handled)

    own-next : (x : Event) → next_event setting.script setting.stop e (progress lines) ≡ Some x → (is_dead_end e.state ≡ false) × IsNext setting.script e (progress lines) x
    own-next x is = next-is setting.script setting.stop e (progress lines) x is

    pub own-allowed : (x : Event) → next_event setting.script setting.stop e (progress lines) ≡ Some x → IsAllowed setting.schema e x
    own-allowed x is =
        let n = own-next x is in
        next-allowed setting e (progress lines) valid k.fits k.names stands n.0 x n.1

    pub own-possible : (x : Event) → next_event setting.script setting.stop e (progress lines) ≡ Some x → is_some (step setting.schema e [] x) ≡ true
    own-possible x is = allowed-possible setting.schema e [] x (next-own setting e (progress lines) x (own-next x is).1) (own-allowed x is)

    pub delivery-possible : (packet : Packet) → is_open e.state ≡ true → is_some (step setting.schema e (packet ∷ []) event.deliver) ≡ true
    delivery-possible packet opened = provided-some (is_open e.state) (deliver setting.schema packet) e opened

    related : AllZip (IsKept setting e.side) (dispatches e.stack) (progress lines).handled
    related = subst (λ (s : Side). AllZip (IsKept setting s) (dispatches e.stack) (progress lines).handled) (sym kept.side_is) k.handled

    -- A step

    module _ (x : Event) (link : List Packet) (output : Output) (is : step setting.schema e link x ≡ Some output) (pr : Prints e x output) where
      pub grown : (progress (lines ++ output.lines)).events ≡ (progress lines).events + 1
      grown =
          step-counted e x output lines side pr
          ∙ ap (λ (s : Side). (progress lines).events + (if same_side s side then 1 else 0)) kept.side_is
          ∙ ap (λ b. (progress lines).events + (if b then 1 else 0)) (same-side side)

      moved : progress (lines ++ output.lines) ≡ after_lines (progress lines) (pr.first ∷ pr.rest)
      moved =
          progress-append side lines output.lines
          ∙ ap (λ ls. after_lines (progress lines) (lines_of side ls)) pr.lines
          ∙ ap (after_lines (progress lines)) (lines_of-own e.side side (pr.first ∷ pr.rest) ∙ ap (λ (s : Side). cond (same_side s side) (pr.first ∷ pr.rest) []) kept.side_is ∙ ap (λ b. cond b (pr.first ∷ pr.rest) []) (same-side side))

      bounded : IsBounded e output
      bounded = steps_are_bounded setting.schema (top_protocol e.actors) e link x output is (known-of setting.schema e (end_reading_of side (read setting.schema lines)) kept.read_is.actors)

      goes-on : (all : List Packet) → (progress lines).events < setting.limit → AllZip (IsKept setting e.side) (dispatches output.end.stack) (after_lines (progress lines) (pr.first ∷ pr.rest)).handled
          → IsFittingDelivery setting.schema e link x → RunsAlone setting.schema setting.script.top side output.end (lines ++ output.lines) all → Keeps output.end (lines ++ output.lines) all
      goes-on all few zip fitting run =
          let counts : HasCounted e output.end × (IsCounted e → IsCounted output.end) = counts_grow setting.schema e link x output is in
          let one : output.end.sent ≤ e.sent + 1 = counts.0.sent.1 in
          let sent : e.sent ≤ (progress lines).events = k.sent in
          let arrives : output.end.delivered ≤ e.delivered + 1 = counts.0.delivered.1 in
          let delivered : e.delivered ≤ (progress lines).events = k.delivered in
          let more : (progress (lines ++ output.lines)).events ≡ (progress lines).events + 1 = grown in
          let short : output.end.sent ≤ 268435456 = omega (arith, one, sent, few, limit) in
          let room : length lines + unsettled e ≤ 5 * (progress lines).events + 1 = k.room in
          let said : length output.lines + unsettled output.end ≤ unsettled e + 5 = bounded.lines in
          let longer : length (lines ++ output.lines) ≡ length lines + length output.lines = length-append lines output.lines in
          record {
            run = run;
            handled =
                subst (λ (q : Progress). AllZip (IsKept setting side) (dispatches output.end.stack) q.handled) (sym moved)
                (subst (λ (s : Side). AllZip (IsKept setting s) (dispatches output.end.stack) (after_lines (progress lines) (pr.first ∷ pr.rest)).handled) kept.side_is zip);
            names = names-kept setting.schema e x output (step-shows setting.schema e link x output is) k.names;
            fits = (fitting_ends_stay setting.schema e link x output is sound k.counted short fitting k.fits).end;
            counted = counts.1 k.counted;
            sent = omega (arith, one, sent, more);
            delivered = omega (arith, arrives, delivered, more);
            within_limit = omega (arith, few, more);
            room = omega (arith, room, said, longer, more);
          }

    pub own-keeps : (x : Event) (output : Output) → next_event setting.script setting.stop e (progress lines) ≡ Some x → step setting.schema e [] x ≡ Some output → (progress lines).events < setting.limit → Keeps output.end (lines ++ output.lines) packets
    own-keeps x output next is few =
        let pr : Prints e x output = step-prints setting.schema e [] x output is in
        goes-on x [] output is pr packets few (next-kept setting e (progress lines) known (λ l. k.fits) related x output (own-next x next).1 (step-shows setting.schema e [] x output is) pr) tt (alone.acts x output k.run is)

    pub delivery-keeps : (packet : Packet) (output : Output) → FitsPacket setting.schema packet → packet_refusal setting.schema e packet ≡ None → step setting.schema e (packet ∷ []) event.deliver ≡ Some output → (progress lines).events < setting.limit
        → Keeps output.end (lines ++ output.lines) (packets ++ packet ∷ [])
    delivery-keeps packet output fits accepted is few =
        let pr : Prints e event.deliver output = step-prints setting.schema e (packet ∷ []) event.deliver output is in
        goes-on event.deliver (packet ∷ []) output is pr (packets ++ packet ∷ []) few (delivery-kept setting e (progress lines) known (λ l. k.fits) related output (step-shows setting.schema e (packet ∷ []) event.deliver output is) pr) (fits, accepted)
        (alone.gets packet output k.run fits accepted is)
