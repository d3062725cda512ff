-- A line of a history, and of a run of one end, is among the lines of the step that printed it.
use Rattle.std.proofs.Common.{◌≡◌, ℕ, Bool, true, false, not, IsTrue, List, [], ◌∷◌, ◌++◌, map, Option, Some, None, refl, sym, ap, subst, append_assoc, ◌∙◌}
use Rattle.std.specs.List.{AllByRecursion, list_all}
use Rattle.std.proofs.lemmas.Bool.{and_from}
use Rattle.std.proofs.lemmas.List.{append-nil, map-append}
use Rattle.ipdl_base.specs.declared.kinds.Side.{Side}
use Rattle.ipdl_base.specs.declared.line.Line.{Line}
use Rattle.ipdl_base.specs.declared.line.What.{What}
use Rattle.ipdl_base.specs.declared.schema.Schema.{Schema}
use Rattle.ipdl_base.specs.Lines.{is_effect}
use Rattle.ipdl_base.specs.Sound.{IsSound}
use Rattle.channel_model.specs.Ends.{End, Packet, World, end_of, link_to, opening}
use Rattle.channel_model.specs.EventLines.{IsEffectOf, IsEventWithEffects}
use Rattle.channel_model.specs.Events.{Event, Move}
use Rattle.channel_model.specs.Events as event
use Rattle.channel_model.specs.Fitting.{FitsPacket}
use Rattle.channel_model.specs.Outputs.{Output}
use Rattle.channel_model.specs.Refusals.{packet_refusal}
use Rattle.channel_model.specs.Runs.{happens, history_of, output_of, passed_by, run}
use Rattle.channel_model.specs.Steps.{step}
use Rattle.channel_model.proofs.Events.{events_have_their_lines}
use Rattle.channel_laws.specs.Laws.{world_of}
use Rattle.channel_laws.proofs.EveryRun.{end-side, nesting_in_every_run}
use Rattle.law_statements.specs.Said.{is_moment, line_of}
use Rattle.alone_laws.specs.AloneRuns.{RunsAlone, begins, acts as does, gets as accepts}
use Rattle.alone_laws.proofs.AloneRuns.{runs-keep}
use Rattle.order_statements.specs.Shape.{HasEffects}

-- An event line: the step that printed it began after the lines before it, and its effects follow.
pub record EventIn (Step : List Line → Output → Type 0) (end : Side) (w : What) (before following : List Line) : Type 0 where
  pub output : Output
  pub by : Step before output
  pub effects : List What
  pub lines : output.lines ≡ map (line_of end) (w ∷ effects)
  pub has : HasEffects end effects following

-- An effect line: the step that printed it began earlier, with an event, and some effects may be between the event's
-- line and this one.
pub record EffectIn (Step : List Line → Output → Type 0) (end : Side) (w : What) (before following : List Line) : Type 0 where
  pub start : List Line
  pub output : Output
  pub by : Step start output
  pub event : What
  pub event_is : is_effect event ≡ false
  pub earlier : List What
  pub more : List What
  pub before_is : before ≡ start ++ map (line_of end) (event ∷ earlier)
  pub lines : output.lines ≡ map (line_of end) (event ∷ (earlier ++ w ∷ more))
  pub has : HasEffects end more following

-- A step of a history, after these lines: one of its moves, at this end.
pub record MoveAt (schema : Schema) (top : ℕ) (moves : List Move) (end : Side) (start : List Line) (output : Output) : Type 0 where
  pub front : List Move
  pub move : Move
  pub back : List Move
  pub moves_are : moves ≡ front ++ move ∷ back
  pub start_is : start ≡ history_of schema top front
  pub side_is : move.side ≡ end
  pub made : output_of schema (world_of schema top front) move ≡ Some output

-- The steps of a run of one end: its own, and deliveries of packets that fit and are not refused.
pub data IsAloneStep (schema : Schema) (e : End) (packets : List Packet) : List Packet → Event → List Packet → Type 0 where
  acts : (own : Event) → IsAloneStep schema e packets [] own packets
  gets : (packet : Packet) → FitsPacket schema packet → packet_refusal schema e packet ≡ None → IsAloneStep schema e packets (packet ∷ []) event.deliver (packets ++ packet ∷ [])

-- A step of a run of one end, after these lines.
pub record StepAt (schema : Schema) (top : ℕ) (side : Side) (start : List Line) (output : Output) : Type 0 where
  pub e : End
  pub packets : List Packet
  pub run : RunsAlone schema top side e start packets
  pub link : List Packet
  pub happened : Event
  pub given : List Packet
  pub kind : IsAloneStep schema e packets link happened given
  pub made : step schema e link happened ≡ Some output

-- the run after that step
pub run-after : {schema : Schema} {top : ℕ} {side : Side} {start : List Line} {output : Output} (s : StepAt schema top side start output) → RunsAlone schema top side output.end (start ++ output.lines) s.given
run-after {schema} {top} {side} {start} {output} s = by s.packets s.link s.happened s.given s.kind s.run s.made
  where
    by : (packets link : List Packet) (happened : Event) (given : List Packet) → IsAloneStep schema s.e packets link happened given → RunsAlone schema top side s.e start packets → step schema s.e link happened ≡ Some output → RunsAlone schema top side output.end (start ++ output.lines) given
    by packets _ _ _ (acts own) run made = does own output run made
    by packets _ _ _ (gets packet fits accepted) run made = accepts packet output run fits accepted made

-- Lines of one end

abbrev pub whats : List Line → List What
whats ls = map (λ (l : Line). l.what) ls

pub of-side : (side : Side) (ls : List Line) → AllByRecursion (IsEffectOf side) ls → ls ≡ map (line_of side) (whats ls)
of-side side [] h = refl
of-side side (l ∷ ls) h = ap (λ (s : Side). record { side = s; what = l.what } ∷ ls) h.0.0 ∙ ap (λ (rest : List Line). line_of side l.what ∷ rest) (of-side side ls h.1)

effects-of : (side : Side) (ls : List Line) → AllByRecursion (IsEffectOf side) ls → IsTrue (list_all is_effect (whats ls))
effects-of side [] h = refl
effects-of side (l ∷ ls) h = and_from (is_effect l.what) (list_all is_effect (whats ls)) h.0.1 (effects-of side ls h.1)

all-parts : (P : Line → Type 0) (xs ys : List Line) → AllByRecursion P (xs ++ ys) → AllByRecursion P xs × AllByRecursion P ys
all-parts P [] ys h = (tt, h)
all-parts P (x ∷ xs) ys h = let r = all-parts P xs ys h.1 in ((h.0, r.0), r.1)

-- A line, and the lines of its step before it and after it.
record LineIn (Step : List Line → Output → Type 0) (end : Side) (w : What) (before following : List Line) : Type 0 where
  start : List Line
  output : Output
  by : Step start output
  printed : IsEventWithEffects end output.lines
  head : List Line
  tail : List Line
  later : List Line
  before_is : before ≡ start ++ head
  lines : output.lines ≡ head ++ line_of end w ∷ tail
  after_is : following ≡ tail ++ later
  moment : IsTrue (is_moment later)

never : {A : Type 0} (b : Bool) → b ≡ true → b ≡ false → A
never true h k = cc
never false h k = cc

effects-following : (end : Side) (tail following later : List Line) → AllByRecursion (IsEffectOf end) tail → following ≡ tail ++ later → IsTrue (is_moment later) → HasEffects end (whats tail) following
effects-following end tail following later all is moment = record { later = later; split = is ∙ ap (λ (ls : List Line). ls ++ later) (of-side end tail all); are_effects = effects-of end tail all; moment = moment }

event-in : {Step : List Line → Output → Type 0} {end : Side} {w : What} {before following : List Line} → is_effect w ≡ false → LineIn Step end w before following → EventIn Step end w before following
event-in {Step} {end} {w} {before} {following} is l = by l.head l.before_is l.lines
  where
    by : (head : List Line) → before ≡ l.start ++ head → l.output.lines ≡ head ++ line_of end w ∷ l.tail → EventIn Step end w before following
    by [] at lines =
        let h : IsEventWithEffects end (line_of end w ∷ l.tail) = subst (IsEventWithEffects end) lines l.printed in
        record {
          output = l.output;
          by = subst (λ (ls : List Line). Step ls l.output) (sym (at ∙ append-nil l.start)) l.by;
          effects = whats l.tail;
          lines = lines ∙ ap (λ (ls : List Line). line_of end w ∷ ls) (of-side end l.tail h.1);
          has = effects-following end l.tail following l.later h.1 l.after_is l.moment;
        }
    by (x ∷ head) at lines =
        let h : IsEventWithEffects end (x ∷ (head ++ line_of end w ∷ l.tail)) = subst (IsEventWithEffects end) lines l.printed in
        let r = all-parts (IsEffectOf end) head (line_of end w ∷ l.tail) h.1 in
        never (is_effect w) r.1.0.1 is

effect-in : {Step : List Line → Output → Type 0} {end : Side} {w : What} {before following : List Line} → is_effect w ≡ true → LineIn Step end w before following → EffectIn Step end w before following
effect-in {Step} {end} {w} {before} {following} is l = by l.head l.before_is l.lines
  where
    by : (head : List Line) → before ≡ l.start ++ head → l.output.lines ≡ head ++ line_of end w ∷ l.tail → EffectIn Step end w before following
    by [] at lines =
        let h : IsEventWithEffects end (line_of end w ∷ l.tail) = subst (IsEventWithEffects end) lines l.printed in
        never (is_effect w) is h.0.1
    by (x ∷ head) at lines =
        let h : IsEventWithEffects end (x ∷ (head ++ line_of end w ∷ l.tail)) = subst (IsEventWithEffects end) lines l.printed in
        let r = all-parts (IsEffectOf end) head (line_of end w ∷ l.tail) h.1 in
        let first : x ≡ line_of end x.what = ap (λ (s : Side). record { side = s; what = x.what }) h.0.0 in
        let front : x ∷ head ≡ map (line_of end) (x.what ∷ whats head) = ap (λ (y : Line). y ∷ head) first ∙ ap (λ (ls : List Line). line_of end x.what ∷ ls) (of-side end head r.0) in
        record {
          start = l.start;
          output = l.output;
          by = l.by;
          event = x.what;
          event_is = h.0.1;
          earlier = whats head;
          more = whats l.tail;
          before_is = at ∙ ap (λ (ls : List Line). l.start ++ ls) front;
          lines = lines
              ∙ (ap (λ (ls : List Line). ls ++ line_of end w ∷ l.tail) front
              ∙ (ap (λ (ls : List Line). map (line_of end) (x.what ∷ whats head) ++ line_of end w ∷ ls) (of-side end l.tail r.1.1)
              ∙ ap (λ (ls : List Line). line_of end x.what ∷ ls) (sym (map-append (line_of end) (whats head) (w ∷ whats l.tail)))));
          has = effects-following end l.tail following l.later r.1.1 l.after_is l.moment;
        }

line-side : (s : Side) (ls front : List Line) (l : Line) (rest : List Line) → IsEventWithEffects s ls → ls ≡ front ++ l ∷ rest → l.side ≡ s
line-side s ls [] l rest h is = let k : IsEventWithEffects s (l ∷ rest) = subst (IsEventWithEffects s) is h in k.0.0
line-side s ls (x ∷ front) l rest h is =
    let k : IsEventWithEffects s (x ∷ (front ++ l ∷ rest)) = subst (IsEventWithEffects s) is h in
    (all-parts (IsEffectOf s) front (l ∷ rest) k.1).1.0.0

event-first : (s : Side) (ls more : List Line) → IsEventWithEffects s ls → IsTrue (is_moment (ls ++ more))
event-first s [] more h = absurd h
event-first s (l ∷ ls) more h = ap not h.0.1

step-moment : (schema : Schema) (e : End) (link : List Packet) (happened : Event) (output : Output) → step schema e link happened ≡ Some output → IsTrue (is_moment output.lines)
step-moment schema e link happened output made = by output.lines (events_have_their_lines schema e link happened output made).lines
  where
    by : (ls : List Line) → IsEventWithEffects e.side ls → IsTrue (is_moment ls)
    by [] h = refl
    by (l ∷ ls) h = ap not h.0.1

-- Places in two lists

-- A place in two lists, one after the other, is in the first or in the second.
pub data PlaceIn {X : Type 0} (xs ys before : List X) (l : X) (following : List X) : Type 0 where
  in_first : (rest : List X) → xs ≡ before ++ l ∷ rest → following ≡ rest ++ ys → PlaceIn xs ys before l following
  in_second : (front : List X) → before ≡ xs ++ front → ys ≡ front ++ l ∷ following → PlaceIn xs ys before l following

pub place-in : {X : Type 0} (xs ys before : List X) (l : X) (following : List X) → xs ++ ys ≡ before ++ l ∷ following → PlaceIn xs ys before l following
place-in [] ys before l following e = in_second before refl e
place-in (x ∷ xs) ys [] l following e =
    let first : x ≡ l = cc in
    let rest : xs ++ ys ≡ following = cc in
    in_first xs (ap (λ y. y ∷ xs) first) (sym rest)
place-in {X} (x ∷ xs) ys (b ∷ before) l following e =
    let first : x ≡ b = cc in
    let rest : xs ++ ys ≡ before ++ l ∷ following = cc in
    by first (place-in xs ys before l following rest)
  where
    by : x ≡ b → PlaceIn xs ys before l following → PlaceIn (x ∷ xs) ys (b ∷ before) l following
    by first (in_first rest is same) = in_first rest (ap (λ (zs : List X). x ∷ zs) is ∙ ap (λ (y : X). y ∷ before ++ l ∷ rest) first) same
    by first (in_second front is same) = in_second front (ap (λ (zs : List X). b ∷ zs) is ∙ ap (λ (y : X). y ∷ xs ++ front) (sym first)) same

no-place : {A : Type 0} (before : List Line) (l : Line) (following : List Line) → [] ≡ before ++ l ∷ following → A
no-place [] l following e = cc
no-place (b ∷ before) l following e = cc

-- Histories

run-moment : (schema : Schema) (moves : List Move) (w : World) → IsTrue (is_moment (run schema moves w).lines)
run-moment schema [] w = refl
run-moment schema (move ∷ moves) w = by (output_of schema w move) refl (λ v. run-moment schema moves v)
  where
    by : (found : Option Output) → output_of schema w move ≡ found → ((v : World) → IsTrue (is_moment (run schema moves v).lines)) → IsTrue (is_moment ((passed_by found move w).lines ++ (run schema moves (passed_by found move w).world).lines))
    by None is rec = rec w
    by (Some output) is rec = event-first (end_of move.side w).side output.lines (run schema moves (passed_by (Some output) move w).world).lines (events_have_their_lines schema (end_of move.side w) (link_to move.side w) move.event output is).lines

-- The move that printed a line, in a run from some world.
record PrintedBy (schema : Schema) (w : World) (moves : List Move) (before : List Line) (l : Line) (following : List Line) : Type 0 where
  front : List Move
  move : Move
  back : List Move
  moves_are : moves ≡ front ++ move ∷ back
  output : Output
  made : output_of schema (run schema front w).world move ≡ Some output
  head : List Line
  tail : List Line
  later : List Line
  before_is : before ≡ (run schema front w).lines ++ head
  lines : output.lines ≡ head ++ l ∷ tail
  after_is : following ≡ tail ++ later
  moment : IsTrue (is_moment later)

printed-by : (schema : Schema) (moves : List Move) (w : World) (before : List Line) (l : Line) (following : List Line) → (run schema moves w).lines ≡ before ++ l ∷ following → PrintedBy schema w moves before l following
printed-by schema [] w before l following e = no-place before l following e
printed-by schema (move ∷ moves) w before l following e =
    by (place-in (happens schema w move).lines (run schema moves (happens schema w move).world).lines before l following e) (λ front is. printed-by schema moves (happens schema w move).world front l following is)
  where
    first : (found : Option Output) → output_of schema w move ≡ found → (rest : List Line) → (passed_by found move w).lines ≡ before ++ l ∷ rest → following ≡ rest ++ (run schema moves (happens schema w move).world).lines → PrintedBy schema w (move ∷ moves) before l following
    first None is rest at same = no-place before l rest at
    first (Some output) is rest at same = record {
      front = [];
      move = move;
      back = moves;
      moves_are = refl;
      output = output;
      made = is;
      head = before;
      tail = rest;
      later = (run schema moves (happens schema w move).world).lines;
      before_is = refl;
      lines = at;
      after_is = same;
      moment = run-moment schema moves (happens schema w move).world;
    }

    by : PlaceIn (happens schema w move).lines (run schema moves (happens schema w move).world).lines before l following
        → ((front : List Line) → (run schema moves (happens schema w move).world).lines ≡ front ++ l ∷ following → PrintedBy schema (happens schema w move).world moves front l following) → PrintedBy schema w (move ∷ moves) before l following
    by (in_first rest at same) rec = first (output_of schema w move) refl rest at same
    by (in_second front is same) rec =
        let p = rec front same in
        record {
          front = move ∷ p.front;
          move = p.move;
          back = p.back;
          moves_are = ap (λ (ms : List Move). move ∷ ms) p.moves_are;
          output = p.output;
          made = p.made;
          head = p.head;
          tail = p.tail;
          later = p.later;
          before_is = is ∙ (ap (λ (ls : List Line). (happens schema w move).lines ++ ls) p.before_is ∙ sym (append_assoc (happens schema w move).lines (run schema p.front (happens schema w move).world).lines p.head));
          lines = p.lines;
          after_is = p.after_is;
          moment = p.moment;
        }

history-line : (schema : Schema) → IsSound schema → (top : ℕ) (moves : List Move) (end : Side) (w : What) (before following : List Line) → history_of schema top moves ≡ before ++ line_of end w ∷ following → LineIn (MoveAt schema top moves end) end w before following
history-line schema sound top moves end w before following e =
    let p = printed-by schema moves (opening top) before (line_of end w) following e in
    let world : World = world_of schema top p.front in
    let printed : IsEventWithEffects (end_of p.move.side world).side p.output.lines = (events_have_their_lines schema (end_of p.move.side world) (link_to p.move.side world) p.move.event p.output p.made).lines in
    let here : end ≡ (end_of p.move.side world).side = line-side (end_of p.move.side world).side p.output.lines p.head (line_of end w) p.tail printed p.lines in
    record {
      start = history_of schema top p.front;
      output = p.output;
      by = record { front = p.front; move = p.move; back = p.back; moves_are = p.moves_are; start_is = refl; side_is = sym (here ∙ end-side schema p.move.side world (nesting_in_every_run schema sound top p.front)); made = p.made };
      printed = subst (λ (s : Side). IsEventWithEffects s p.output.lines) (sym here) printed;
      head = p.head;
      tail = p.tail;
      later = p.later;
      before_is = p.before_is;
      lines = p.lines;
      after_is = p.after_is;
      moment = p.moment;
    }

-- an event in a legal history, and an effect
pub event-at : (schema : Schema) → IsSound schema → (top : ℕ) (moves : List Move) (end : Side) (w : What) (before following : List Line) → is_effect w ≡ false → history_of schema top moves ≡ before ++ line_of end w ∷ following → EventIn (MoveAt schema top moves end) end w before following
event-at schema sound top moves end w before following is e = event-in is (history-line schema sound top moves end w before following e)

pub effect-at : (schema : Schema) → IsSound schema → (top : ℕ) (moves : List Move) (end : Side) (w : What) (before following : List Line) → is_effect w ≡ true → history_of schema top moves ≡ before ++ line_of end w ∷ following → EffectIn (MoveAt schema top moves end) end w before following
effect-at schema sound top moves end w before following is e = effect-in is (history-line schema sound top moves end w before following e)

-- Runs of one end

module _ (schema : Schema) (sound : IsSound schema) (top : ℕ) (side : Side) (end : Side) (w : What) where
  -- a line among those of the last step
  new-line : (e : End) (start : List Line) (packets link : List Packet) (happened : Event) (given : List Packet) (output : Output) → RunsAlone schema top side e start packets → IsAloneStep schema e packets link happened given → step schema e link happened ≡ Some output
      → (before following front : List Line) → before ≡ start ++ front → output.lines ≡ front ++ line_of end w ∷ following → (end ≡ side) × LineIn (StepAt schema top side) end w before following
  new-line e start packets link happened given output run kind made before following front is same =
      let printed : IsEventWithEffects e.side output.lines = (events_have_their_lines schema e link happened output made).lines in
      let here : end ≡ e.side = line-side e.side output.lines front (line_of end w) following printed same in (
        here ∙ (runs-keep schema sound top side e start packets run).side_is,
        record {
          start = start;
          output = output;
          by = record { e = e; packets = packets; run = run; link = link; happened = happened; given = given; kind = kind; made = made };
          printed = subst (λ (s : Side). IsEventWithEffects s output.lines) (sym here) printed;
          head = front;
          tail = following;
          later = [];
          before_is = is;
          lines = same;
          after_is = sym (append-nil following);
          moment = refl;
        },
      )

  -- a line of an earlier step
  old-line : (before rest more following : List Line) → IsTrue (is_moment more) → following ≡ rest ++ more → (end ≡ side) × LineIn (StepAt schema top side) end w before rest → (end ≡ side) × LineIn (StepAt schema top side) end w before following
  old-line before rest more following m same (here, l) = (
    here,
    record {
      start = l.start;
      output = l.output;
      by = l.by;
      printed = l.printed;
      head = l.head;
      tail = l.tail;
      later = l.later ++ more;
      before_is = l.before_is;
      lines = l.lines;
      after_is = same ∙ (ap (λ (ls : List Line). ls ++ more) l.after_is ∙ append_assoc l.tail l.later more);
      moment = both l.later l.moment;
    },
  )
    where
      both : (later : List Line) → IsTrue (is_moment later) → IsTrue (is_moment (later ++ more))
      both [] k = m
      both (x ∷ later) k = k

  alone-line : (e : End) (lines : List Line) (packets : List Packet) → RunsAlone schema top side e lines packets → (before following : List Line) → lines ≡ before ++ line_of end w ∷ following → (end ≡ side) × LineIn (StepAt schema top side) end w before following
  alone-line _ _ _ begins before following at = no-place before (line_of end w) following at
  alone-line _ _ _ (does {e = e} {lines = lines} {packets = packets} own output run made) before following at =
      by (place-in lines output.lines before (line_of end w) following at) (λ rest is. alone-line e lines packets run before rest is)
    where
      by : PlaceIn lines output.lines before (line_of end w) following → ((rest : List Line) → lines ≡ before ++ line_of end w ∷ rest → (end ≡ side) × LineIn (StepAt schema top side) end w before rest) → (end ≡ side) × LineIn (StepAt schema top side) end w before following
      by (in_first rest is same) rec = old-line before rest output.lines following (step-moment schema e [] own output made) same (rec rest is)
      by (in_second front is same) rec = new-line e lines packets [] own packets output run (acts own) made before following front is same
  alone-line _ _ _ (accepts {e = e} {lines = lines} {packets = packets} packet output run fits accepted made) before following at =
      by (place-in lines output.lines before (line_of end w) following at) (λ rest is. alone-line e lines packets run before rest is)
    where
      by : PlaceIn lines output.lines before (line_of end w) following → ((rest : List Line) → lines ≡ before ++ line_of end w ∷ rest → (end ≡ side) × LineIn (StepAt schema top side) end w before rest) → (end ≡ side) × LineIn (StepAt schema top side) end w before following
      by (in_first rest is same) rec = old-line before rest output.lines following (step-moment schema e (packet ∷ []) event.deliver output made) same (rec rest is)
      by (in_second front is same) rec = new-line e lines packets (packet ∷ []) event.deliver (packets ++ packet ∷ []) output run (gets packet fits accepted) made before following front is same

-- an event in a run of one end, and an effect; all lines of such a run are of that end
pub event-alone : (schema : Schema) → IsSound schema → (top : ℕ) (side : Side) (e : End) (lines : List Line) (packets : List Packet) → RunsAlone schema top side e lines packets → (end : Side) (w : What) (before following : List Line) → is_effect w ≡ false → lines ≡ before ++ line_of end w ∷ following → (end ≡ side) × EventIn (StepAt schema top side) end w before following
event-alone schema sound top side e lines packets run end w before following is at = let l = alone-line schema sound top side end w e lines packets run before following at in (l.0, event-in is l.1)
