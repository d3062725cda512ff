-- Where an exploration is whole, each legal text is that of a way.
use Rattle.std.proofs.Common.{◌≡◌, Bool, true, false, if◌then◌else◌, List, [], ◌∷◌, ◌++◌, Contains, Option, Some, None, is_some, option_map, refl, sym, ap, subst, ◌∙◌}
use Rattle.std.specs.Prelude.{option_and_then}
use Rattle.std.specs.Option.{option_map_or}
use Rattle.handler_script.specs.Valid.{IsValid}
use Rattle.ipdl_base.specs.declared.kinds.Side.{Side}
use Rattle.ipdl_base.specs.Sound.{IsSound}
use Rattle.channel_model.specs.Events.{Event}
use Rattle.channel_model.specs.Events as event
use Rattle.channel_model.specs.Runs.{RunState}
use Rattle.schedules.specs.declared.turn.Turn.{Turn}
use Rattle.script_runs.specs.Endings.{EndsAs}
use Rattle.script_runs.specs.Laws.{HasLimit}
use Rattle.script_steps.specs.Choices.{Choice, Setting, beginning_of, following_event, is_within, may_deliver, own_event, played}
use Rattle.script_steps.specs.Turns.{RunEnding, at_limit, at_rest, delivery_choice, exceeds, is_quiet_at, leads, led_to, outcome, outcome_by, turn_choice, whole_turn}
use Rattle.script_steps.proofs.Playing.{Chooses, PlaysOn, chooses, plays_on}
use Rattle.script_transcripts.proofs.Ends.{Wants, wants}
use Rattle.explorations.proofs.Points.{point-by}
use Rattle.explorations.specs.Explorations.{IsCovered, StopsAt, Way, ending_at, way_of, ways_of}
use Rattle.explorations.specs.Laws.{IsWayOf, WaysCoverTexts}
use Rattle.explorations.specs.Words.{Point, point_from, reached}
use Rattle.exploration_laws.proofs.Alike.{SameSides, quiet-same}
use Rattle.exploration_laws.proofs.Futures.{point-append, reached-alike}
use Rattle.exploration_laws.proofs.Ways.{in-filtered}

-- Each choice has a turn that does it: a delivery has one for deliveries only, and an own step a whole turn

abbrev turn_of : Choice → Turn
turn_of choice = record { side = choice.side; only_deliver = choice.delivers }

module _ (setting : Setting) (state : RunState) (side : Side) where
  delivery-turn : (may : Bool) (happened : Event) → may_deliver side state.world ≡ may → (if may then Some event.deliver else None) ≡ Some happened → delivery_choice side state ≡ Some (record { side = side; delivers = true })
  delivery-turn true happened is h = ap (λ (b : Bool). if b then Some (record { side = side; delivers = true }) else None) is
  delivery-turn false happened is h = cc

  turn-by : (delivers : Bool) (happened : Event) → (if delivers then (if may_deliver side state.world then Some event.deliver else None) else own_event setting side state) ≡ Some happened
      → turn_choice setting (record { side = side; only_deliver = delivers }) state ≡ Some (record { side = side; delivers = delivers })
  turn-by true happened h = delivery-turn (may_deliver side state.world) happened refl h
  turn-by false happened h = ap (λ (own : Option Event). if is_some own then Some (record { side = side; delivers = false }) else delivery_choice side state) h

choice-leads : (setting : Setting) (choice : Choice) (state next : RunState) → Chooses setting choice state next → outcome setting (turn_of choice) state ≡ leads next
choice-leads setting choice state next c =
    ap (outcome_by setting choice.side state) (turn-by setting state choice.side choice.delivers c.event c.has)
    ∙ ap (λ (b : Bool). if b then leads (led_to setting choice state) else exceeds) c.within
    ∙ ap (λ (found : Option Event). leads (option_map_or (following_event setting choice.side state) found state)) c.has ∙ ap leads (sym c.is)

-- so choices are a word
record IsWord (setting : Setting) (from state : RunState) : Type 0 where
  word : List Turn
  leads_to : point_from setting word from ≡ Some (record { state = state; spent = None })

choices-word : (setting : Setting) (choices : List Choice) (from state : RunState) → played setting choices from ≡ Some state → IsWord setting from state
choices-word setting [] from state h =
    let same : from ≡ state = cc in
    record { word = []; leads_to = ap (λ (s : RunState). Some (record { state = s; spent = None })) same }
choices-word setting (choice ∷ more) from state h =
    let p : PlaysOn setting choice more from state = plays_on setting choice more from state h in
    let rest : IsWord setting p.next state = choices-word setting more p.next state p.rest in
    record {
      word = turn_of choice ∷ rest.word;
      leads_to = point-by setting (turn_of choice) rest.word from (leads p.next) (choice-leads setting choice from p.next (chooses setting choice from p.next p.first)) ∙ rest.leads_to;
    }

-- A side that has something left to do and no event left exceeds its limit
side-exceeds : (setting : Setting) (state : RunState) (side : Side) → is_within setting side state ≡ false → is_quiet_at setting state side ≡ false → outcome setting (whole_turn side) state ≡ exceeds
side-exceeds setting state side full busy =
    let w : Wants setting state side = wants setting state side busy in
    ap (outcome_by setting side state) w.chooses ∙ ap (λ (b : Bool). if b then leads (led_to setting w.choice state) else exceeds) full

-- The point of a run that ends

abbrev spent_at : RunEnding → Option Side
spent_at at_rest = None
spent_at (at_limit side) = Some side

record EndsAt (setting : Setting) (state : RunState) (ending : RunEnding) : Type 0 where
  word : List Turn
  leads_to : reached setting word ≡ Some (record { state = state; spent = spent_at ending })

ends-at : (setting : Setting) (state : RunState) (ending : RunEnding) → IsWord setting (beginning_of setting) state → EndsAs setting state ending → EndsAt setting state ending
ends-at setting state at_rest w ends = record { word = w.word; leads_to = w.leads_to }
ends-at setting state (at_limit side) w ends = record {
  word = w.word ++ whole_turn side ∷ [];
  leads_to = point-append setting w.word (whole_turn side ∷ []) (beginning_of setting) state w.leads_to ∙ point-by setting (whole_turn side) [] state exceeds (side-exceeds setting state side ends.0 ends.1);
}

-- how a point like it ends
ends-alike : (setting : Setting) (state same : RunState) (ending : RunEnding) → SameSides same state → EndsAs setting state ending → ending_at setting same (spent_at ending) ≡ Some ending
ends-alike setting state same at_rest alike ends = ap (λ (b : Bool). if b then Some at_rest else None) (quiet-same setting same state alike ∙ ends)
ends-alike setting state same (at_limit side) alike ends = refl

-- The law

abbrev way_by : List Turn → RunEnding → Way
way_by word ending = record { ending = ending; word = word }

covers-so : (setting : Setting) (words : List (List Turn)) (ways : List Way) (state : RunState) (ending : RunEnding) → IsSound setting.schema → IsValid setting.schema setting.script → HasLimit setting → ways ≡ ways_of setting words
    → (e : EndsAt setting state ending) → EndsAs setting state ending → IsCovered setting words (record { state = state; spent = spent_at ending }) → (way : Way) × Contains ways way × IsWayOf setting way state ending
covers-so setting words ways state ending sound valid limit is e ends c =
    let alike : SameSides c.same.state state = reached-alike setting sound valid limit c.word e.word c.same (record { state = state; spent = spent_at ending }) c.leads e.leads_to c.alike.lines in
    let ends_so : ending_at setting c.same.state c.same.spent ≡ Some ending = ap (ending_at setting c.same.state) c.alike.spent ∙ ends-alike setting state c.same.state ending alike ends in
    let shows : way_of setting c.word ≡ Some (way_by c.word ending) =
    ap (λ (found : Option Point). option_map (way_by c.word) (option_and_then (λ (point : Point). ending_at setting point.state point.spent) found)) c.leads ∙ ap (option_map (way_by c.word)) ends_so
    in (
      way_by c.word ending,
      subst (λ (found : List Way). Contains found (way_by c.word ending)) (sym is) (in-filtered (way_of setting) words c.word (way_by c.word ending) c.listed shows),
      record { point = c.same; leads = c.leads; lines = c.alike.lines; ends = refl },
    )

pub ways_cover_texts : WaysCoverTexts
ways_cover_texts setting most exploration text sound valid limit explored whole legal =
    let e : EndsAt setting legal.state legal.ending = ends-at setting legal.state legal.ending (choices-word setting legal.choices (beginning_of setting) legal.state legal.plays) legal.ends in
    let stops : StopsAt setting most explored.words true = subst (StopsAt setting most explored.words) whole explored.stops in
    covers-so setting explored.words exploration.ways legal.state legal.ending sound valid limit explored.ways e legal.ends (stops e.word (record { state = legal.state; spent = spent_at legal.ending }) e.leads_to)
