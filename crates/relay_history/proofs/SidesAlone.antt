-- Each side of a run of a script is a run of one end by itself.
use Rattle.std.proofs.Common.{◌≡◌, Bool, true, false, ◌&&◌, if◌then◌else◌, List, [], ◌∷◌, ◌++◌, Option, Some, None, is_some, refl, sym, ap, subst, ◌∙◌}
use Rattle.std.specs.List.{AllByRecursion}
use Rattle.ipdl_base.specs.declared.kinds.Side.{Side}
use Rattle.ipdl_base.specs.declared.kinds.Side.TheVariants as sides
use Rattle.ipdl_base.specs.declared.line.Line.{Line}
use Rattle.ipdl_base.specs.Sound.{IsSound}
use Rattle.alone_laws.specs.Alone.{Alone}
use Rattle.alone_laws.specs.AloneRuns.{RunsAlone}
use Rattle.alone_laws.specs.AloneRuns as alone
use Rattle.alone_laws.proofs.AloneRuns.{one_end_obeys_alone}
use Rattle.channel_model.specs.Ends.{End, Packet, end_of, link_to}
use Rattle.channel_model.specs.Events.{Event}
use Rattle.channel_model.specs.Events as event
use Rattle.channel_model.specs.Fitting.{FitsPacket}
use Rattle.ipdl_base.specs.Sides.{other}
use Rattle.channel_model.specs.Outputs.{Output, is_open}
use Rattle.channel_model.specs.Runs.{RunState, is_delivery}
use Rattle.channel_model.specs.Steps.{first_packet, step}
use Rattle.script_steps.specs.Choices.{Choice, Setting, beginning_of, event_by, may_deliver, own_event, played}
use Rattle.script_steps.proofs.Choosing.{Happens, HasPlayed, HaveSides, begin-sides, choice-happens, event-delivers, plays-one, side-of}
use Rattle.script_steps.proofs.Playing.{Chooses, PlaysOn, chooses, plays_on}
use Rattle.script_runs.specs.Laws.{FitsCase, HasLimit}
use Rattle.script_runs.proofs.CaseRuns.{IsCase, case-fits, case-next}
use Rattle.relay_runs.proofs.Sides.{by-sides}
use Rattle.relay_history.specs.OneHistory.{side_lines}
use Rattle.relay_history.specs.SidesAlone.{SideRunsAlone, SidesObeyAlone, SidesRunAlone}
use Rattle.relay_history.proofs.OneHistory.{end-here, end-there, lines-here, lines-there, link-splits, own-step, printed-at}

module _ (setting : Setting) (sound : IsSound setting.schema) (limit : HasLimit setting) where
  abbrev Runs : Side → End → List Line → List Packet → Type 0
  Runs side e lines delivered = RunsAlone setting.schema setting.script.top side e lines delivered

  -- The end after an event of a side, with its lines.
  record HasRun (side : Side) (e : End) (lines : List Line) : Type 0 where
    delivered : List Packet
    run : Runs side e lines delivered

  -- an open end to which a packet may be delivered
  opened : (is some : Bool) → (is && some) ≡ true → (is ≡ true) × (some ≡ true)
  opened true some h = (refl, h)
  opened false some h = cc

  first-of : (found : Option Packet) → is_some found ≡ true → (packet : Packet) × (found ≡ Some packet)
  first-of None h = cc
  first-of (Some packet) h = (packet, refl)

  may : (b : Bool) (x : Event) → (if b then Some event.deliver else None) ≡ Some x → (b ≡ true) × (x ≡ event.deliver)
  may true x h = (refl, cc)
  may false x h = cc

  own-run : (side : Side) (state : RunState) (x : Event) (output : Output) → is_delivery x ≡ false → step setting.schema (end_of side state.world) (link_to side state.world) x ≡ Some output
      → SideRunsAlone setting state side → HasRun side output.end (side_lines side state.lines ++ output.lines)
  own-run side state x output kind is runs = record {
    delivered = runs.delivered;
    run = alone.acts x output runs.run (own-step setting (end_of side state.world) [] (link_to side state.world) x kind ∙ is);
  }

  delivery-run : (side : Side) (state : RunState) (output : Output) → IsCase setting state → may_deliver side state.world ≡ true
      → step setting.schema (end_of side state.world) (link_to side state.world) event.deliver ≡ Some output → SideRunsAlone setting state side → HasRun side output.end (side_lines side state.lines ++ output.lines)
  delivery-run side state output case' may is runs =
      let e : End = end_of side state.world in
      let flags = opened (is_open e.state) (is_some (first_packet (link_to side state.world))) may in
      let first = first-of (first_packet (link_to side state.world)) flags.1 in
      let split = link-splits (link_to side state.world) first.0 first.1 in
      let fits : FitsCase setting state side = case-fits setting state side sound limit case' in
      record {
        delivered = runs.delivered ++ first.0 ∷ [];
        run = alone.gets first.0 output runs.run (subst (λ (link : List Packet). AllByRecursion (FitsPacket setting.schema) link) split.1 fits.link).0 (fits.accepted first.0 split.0 flags.0 split.1)
            (sym (ap (λ (link : List Packet). step setting.schema e link event.deliver) split.1) ∙ is);
      }

  -- the event of a choice, at its side
  choice-run : (choice : Choice) (state : RunState) (x : Event) (output : Output) (delivers : Bool) → choice.delivers ≡ delivers → event_by setting choice state ≡ Some x → IsCase setting state
      → step setting.schema (end_of choice.side state.world) (link_to choice.side state.world) x ≡ Some output → SideRunsAlone setting state choice.side → HasRun choice.side output.end (side_lines choice.side state.lines ++ output.lines)
  choice-run choice state x output true kind has case' is runs =
      let m = may (may_deliver choice.side state.world) x (sym (ap (λ (b : Bool). if b then (if may_deliver choice.side state.world then Some event.deliver else None) else own_event setting choice.side state) kind) ∙ has) in
      delivery-run choice.side state output case' m.0 (subst (λ (y : Event). step setting.schema (end_of choice.side state.world) (link_to choice.side state.world) y ≡ Some output) m.1 is) runs
  choice-run choice state x output false kind has case' is runs = own-run choice.side state x output (event-delivers setting choice state x has ∙ kind) is runs

  -- both sides after a choice
  next-runs : (side : Side) (state next : RunState) (x : Event) (h : Happens setting side state x next) → (end_of side state.world).side ≡ side → HasRun side h.output.end (side_lines side state.lines ++ h.output.lines)
      → SideRunsAlone setting state (other side) → (SideRunsAlone setting next side) × (SideRunsAlone setting next (other side))
  next-runs side state next x h own here there =
      let printed = printed-at setting side (end_of side state.world) (link_to side state.world) x h.output own h.is in
      let here-end : end_of side next.world ≡ h.output.end = ap (end_of side) h.world ∙ end-here side x h.output state.world in
      let here-lines : side_lines side next.lines ≡ side_lines side state.lines ++ h.output.lines =
      ap (side_lines side) h.lines ∙ ap (λ (ls : List Line). side_lines side (state.lines ++ ls)) printed.0.1 ∙ lines-here side state.lines printed.0.0 ∙ ap (λ (ls : List Line). side_lines side state.lines ++ ls) (sym printed.0.1)
      in
      let there-end : end_of (other side) next.world ≡ end_of (other side) state.world = ap (end_of (other side)) h.world ∙ end-there side x h.output state.world in
      let there-lines : side_lines (other side) next.lines ≡ side_lines (other side) state.lines =
      ap (side_lines (other side)) h.lines ∙ ap (λ (ls : List Line). side_lines (other side) (state.lines ++ ls)) printed.0.1 ∙ lines-there side state.lines printed.0.0
      in (
        record {
          delivered = here.delivered;
          run = subst (λ (e : End). Runs side e (side_lines side next.lines) here.delivered) (sym here-end) (subst (λ (ls : List Line). Runs side h.output.end ls here.delivered) (sym here-lines) here.run);
        },
        record {
          delivered = there.delivered;
          run = subst (λ (e : End). Runs (other side) e (side_lines (other side) next.lines) there.delivered) (sym there-end)
              (subst (λ (ls : List Line). Runs (other side) (end_of (other side) state.world) ls there.delivered) (sym there-lines) there.run);
        },
      )

  record BothRun (state : RunState) : Type 0 where
    sided : HaveSides state.world
    runs : (side : Side) → SideRunsAlone setting state side

  all-run : (choices : List Choice) (from last : RunState) → IsCase setting from → played setting choices from ≡ Some last → BothRun from → BothRun last
  all-run [] from last case' h both =
      let same : from ≡ last = cc in
      subst BothRun same both
  all-run (choice ∷ more) from last case' h both =
      let p : PlaysOn setting choice more from last = plays_on setting choice more from last h in
      let one : Chooses setting choice from p.next = chooses setting choice from p.next p.first in
      let made : Happens setting choice.side from one.event p.next = choice-happens setting choice from p.next one in
      let sided : HasPlayed choice from p.next = plays-one setting choice from p.next one both.sided in
      let here = choice-run choice from one.event made.output choice.delivers refl one.has case' made.is (both.runs choice.side) in
      let next = next-runs choice.side from p.next one.event made (side-of from.world choice.side both.sided) here (both.runs (other choice.side)) in
      all-run more p.next last (case-next setting choice from p.next case' p.first) p.rest (record { sided = sided.sides; runs = by-sides (SideRunsAlone setting p.next) choice.side next.0 next.1 })

  begins : (side : Side) → SideRunsAlone setting (beginning_of setting) side
  begins sides.Parent = record { delivered = []; run = alone.begins }
  begins sides.Child = record { delivered = []; run = alone.begins }

  pub side-runs : (choices : List Choice) (state : RunState) → played setting choices (beginning_of setting) ≡ Some state → (side : Side) → SideRunsAlone setting state side
  side-runs choices state h side = (all-run choices (beginning_of setting) state (record { choices = []; plays = refl }) h (record { sided = begin-sides setting; runs = begins })).runs side

pub sides_run_alone : SidesRunAlone
sides_run_alone setting choices state sound limit h side = side-runs setting sound limit choices state h side

pub sides_obey_alone : SidesObeyAlone
sides_obey_alone setting lines sound limit history side =
    let runs : SideRunsAlone setting history.state side = side-runs setting sound limit history.choices history.state history.plays side in
    record {
      delivered = runs.delivered;
      alone = subst (λ (ls : List Line). Alone setting.schema setting.script.top side (side_lines side ls) runs.delivered) history.made
          (one_end_obeys_alone setting.schema sound setting.script.top side (end_of side history.state.world) (side_lines side history.state.lines) runs.delivered runs.run);
    }
