-- What the lines of an end show of it between its steps: in every legal history, and in every run of one end.
use Rattle.std.proofs.Common.{◌≡◌, ℕ, ℤ, Bool, true, false, not, ◌&&◌, ◌||◌, cond, int_eq, find, List, [], ◌∷◌, ◌++◌, filter_map, map, reverse, Option, Some, None, refl, sym, ap, subst, ◌∙◌}
use Rattle.std.specs.List.{AllByRecursion, cons_option, list_any, slice_get}
use Rattle.std.specs.Option.{option_map_or}
use Rattle.std.specs.Prelude.{unwrap_or}
use Rattle.std.proofs.lemmas.Bool.Decides.{Decides-int_eq}
use Rattle.std.proofs.lemmas.List.{append-nil, reverse-append}
use Rattle.actor_tree.specs.Tree as tree
use Rattle.ipdl_base.specs.declared.kinds.EndState.{EndState}
use Rattle.ipdl_base.specs.declared.kinds.EndState.TheVariants as state
use Rattle.ipdl_base.specs.declared.kinds.Side.{Side}
use Rattle.ipdl_base.specs.declared.kinds.Side.TheVariants.{Parent, Child}
use Rattle.ipdl_base.specs.declared.line.Line.{Line}
use Rattle.ipdl_base.specs.declared.line.What.{What}
use Rattle.ipdl_base.specs.declared.line.What.TheVariants as what
use Rattle.ipdl_base.specs.declared.schema.Schema.{Schema}
use Rattle.ipdl_base.specs.Lines.{is_effect}
use Rattle.ipdl_base.specs.Sound.{IsSound}
use Rattle.history_reading.specs.EndReading.{EndReading}
use Rattle.history_reading.specs.Holds.{IsReadable}
use Rattle.history_reading.specs.Numbers.{has}
use Rattle.history_reading.specs.Reading.{after_what, end_reading_of, read}
use Rattle.history_reading.specs.SentPacket.{SentPacket, requests_of}
use Rattle.promise_table.specs.Promises.{is_pending}
use Rattle.channel_model.specs.Ends.{End, Packet, PromiseEntry, World, end_of, link_to, opening}
use Rattle.channel_model.specs.Events.{Event, Move}
use Rattle.channel_model.specs.Outputs.{Output, line_at}
use Rattle.channel_model.specs.Laws.{MovesFollow}
use Rattle.channel_model.specs.Runs.{happens, history_of, passed_by, run, world_after}
use Rattle.channel_model.specs.Steps.{step}
use Rattle.channel_model.specs.Takes.{is_awaited}
use Rattle.channel_model.proofs.Histories.{moves_go_one_after_another}
use Rattle.channel_laws.specs.EndActors.{HasIds, ReadsActors, shown_actor, standing}
use Rattle.channel_laws.specs.Exchanges.{ReadsExchanges}
use Rattle.channel_laws.specs.Laws.{world_of}
use Rattle.channel_laws.specs.Notes.{Note, notes}
use Rattle.channel_laws.specs.Origins.{HasOrigins}
use Rattle.channel_laws.specs.Outlines.{HasOutline, outline, placeless, shown_entry}
use Rattle.channel_laws.specs.Promised.{IsReadPromise, Promised, promised_entry, promised_in}
use Rattle.channel_laws.specs.ReadingLaws.{WorldIsRead}
use Rattle.channel_laws.proofs.EveryRun.{end-side, nesting_in_every_run}
use Rattle.channel_laws.proofs.Readable.{histories_are_readable}
use Rattle.channel_laws.proofs.Standing as standing_actors
use Rattle.channel_laws.proofs.WorldReading.{reading_is_world}
use Rattle.law_statements.specs.Actors.{built, fallen, lives}
use Rattle.law_statements.specs.Arrived.{state_after, state_of}
use Rattle.law_statements.specs.Packets.{sent, settled}
use Rattle.law_statements.specs.Said.{line_of, said_by}
use Rattle.law_statements.specs.Stack.{stack}
use Rattle.law_statements.proofs.Along.{along, holds-readable}
use Rattle.law_statements.proofs.Fields.{built-read, fallen-read, of-reply, sent-read, settled-read}
use Rattle.law_statements.proofs.StackRead.{stack-read}
use Rattle.alone_laws.specs.AloneRuns.{RunsAlone}
use Rattle.alone_laws.proofs.AloneLines.{said-more}
use Rattle.alone_laws.proofs.AloneRuns.{one_end_obeys_fallen, runs-keep}
use Rattle.alone_laws.proofs.AloneSteps.{whats-same}
use Rattle.order_statements.proofs.ArrivedReplies.{ItemIsPromised, RepliesArePromised, replies-alone, replies-promised}
use Rattle.order_statements.proofs.Places.{EventIn, MoveAt, StepAt, event-alone, event-at, run-after}

-- What the lines of an end show of it: its state, which actors were built and live, its stack, and its promises; and
-- what is read of these lines, for more.
pub record EndTells (schema : Schema) (e : End) (end : Side) (lines : List Line) : Type 0 where
  pub side_is : e.side ≡ end
  pub state : state_of (said_by end lines) ≡ e.state
  -- the actors that were built and have not fallen, in order; and so whether an actor lives
  pub living : standing (fallen (said_by end lines)) (built (said_by end lines)) ≡ map shown_actor e.actors
  pub alive : (id : ℤ) → lives (said_by end lines) id ≡ tree.lives id e.actors
  -- the actors that live are a tree, and all that were built have ids that are taken, none twice
  pub ids : HasIds schema [] e (built (said_by end lines))
  -- frames, except for the places of their lines
  pub frames : map placeless (stack schema end lines) ≡ map shown_entry e.stack
  -- the promises are those of the requests that were sent, and one is awaited until it is settled
  pub promises : map promised_entry e.promises ≡ promised_in (requests_of (sent schema (said_by end lines)))
  pub awaited : (n : ℤ) → is_awaited n e.promises ≡ list_any (λ (p : Promised). int_eq p.seq n) (promised_in (requests_of (sent schema (said_by end lines)))) && not (has (settled (said_by end lines)) n)
  pub readable : IsReadable schema lines
  pub actors : ReadsActors schema e (end_reading_of end (read schema lines))
  pub exchanges : ReadsExchanges schema e (end_reading_of end (read schema lines))
  pub outlined : HasOutline e (outline (end_reading_of end (read schema lines)))
  -- what the other end has sent, as far as it is known, and what belongs to it
  pub theirs : List Note
  pub origins : HasOrigins schema theirs e
  -- each reply that has arrived is for one of these promises
  pub replies : AllByRecursion (ItemIsPromised (promised_in (requests_of (sent schema (said_by end lines))))) e.arrived

-- The state

state-step : (schema : Schema) (place : ℕ) (w : What) (own : EndReading) → (after_what schema place w own).state ≡ unwrap_or (state_after w) own.state
state-step schema place (what.DeliverReply n) own = of-reply (λ o. o.state) n own refl
state-step schema place _ own = refl

first-state : (o : Option EndState) (rest : List EndState) → unwrap_or (slice_get (cons_option o rest) 0) state.Open ≡ unwrap_or o (unwrap_or (slice_get rest 0) state.Open)
first-state None rest = refl
first-state (Some s) rest = refl

pub state-more : (told : List What) (w : What) → state_of (told ++ w ∷ []) ≡ unwrap_or (state_after w) (state_of told)
state-more told w =
    ap (λ (ws : List What). unwrap_or (slice_get (filter_map state_after ws) 0) state.Open) (reverse-append told (w ∷ []))
    ∙ first-state (state_after w) (filter_map state_after (reverse told))

state-read : (schema : Schema) (end : Side) (lines : List Line) → (end_reading_of end (read schema lines)).state ≡ state_of (said_by end lines)
state-read schema end lines =
    along schema (λ own said. own.state ≡ state_of said) refl (λ place own said w p. state-step schema place w own ∙ ap (unwrap_or (state_after w)) p ∙ sym (state-more said w)) end lines

-- Promises

awaited-read : (ns : List ℤ) (n : ℤ) (promises : List PromiseEntry) → AllByRecursion (IsReadPromise ns) promises → is_awaited n promises ≡ list_any (λ (p : Promised). int_eq p.seq n) (map promised_entry promises) && not (has ns n)
awaited-read ns n [] h = refl
awaited-read ns n (entry ∷ promises) h = by (int_eq entry.promise.seq n) refl (awaited-read ns n promises h.1)
  where
    by : (b : Bool) → int_eq entry.promise.seq n ≡ b → is_awaited n promises ≡ list_any (λ (p : Promised). int_eq p.seq n) (map promised_entry promises) && not (has ns n)
        → option_map_or (λ (x : PromiseEntry). is_pending x.promise) (cond b (Some entry) (find (λ (x : PromiseEntry). int_eq x.promise.seq n) promises)) false
        ≡ (b || list_any (λ (p : Promised). int_eq p.seq n) (map promised_entry promises)) && not (has ns n)
    by true is rec = h.0 ∙ ap (λ (m : ℤ). not (has ns m)) ((Decides-int_eq entry.promise.seq n).0 is)
    by false is rec = rec

-- Both settings

tells : (schema : Schema) (e : End) (end : Side) (lines : List Line) → e.side ≡ end → IsReadable schema lines → ReadsActors schema e (end_reading_of end (read schema lines)) → ReadsExchanges schema e (end_reading_of end (read schema lines)) → HasOutline e (outline (end_reading_of end (read schema lines)))
    → (theirs : List Note) → HasOrigins schema theirs e → RepliesArePromised e (end_reading_of end (read schema lines)) → EndTells schema e end lines
tells schema e end lines side readable actors exchanges outlined theirs origins replies =
    let own : EndReading = end_reading_of end (read schema lines) in
    let is_built : own.built ≡ built (said_by end lines) = built-read schema end lines in
    let is_fallen : own.fallen ≡ fallen (said_by end lines) = fallen-read schema end lines in
    let is_sent : promised_in (requests_of own.sent) ≡ promised_in (requests_of (sent schema (said_by end lines))) = ap (λ (xs : List SentPacket). promised_in (requests_of xs)) (sent-read schema end lines) in
    let stands : standing (fallen (said_by end lines)) (built (said_by end lines)) ≡ map shown_actor e.actors =
    sym (ap (standing own.fallen) is_built ∙ ap (λ (ids : List ℤ). standing ids (built (said_by end lines))) is_fallen) ∙ actors.living.living
    in
    record {
      side_is = side;
      state = sym (state-read schema end lines) ∙ outlined.state;
      living = stands;
      alive = λ id. standing_actors.lives-read (built (said_by end lines)) (fallen (said_by end lines)) e.actors id stands;
      ids = subst (HasIds schema [] e) is_built actors.ids;
      frames = sym (ap (map placeless) (stack-read schema lines readable end lines [] (sym (append-nil lines)))) ∙ outlined.stack;
      promises = exchanges.promises.promises_are ∙ is_sent;
      awaited = λ n.
          awaited-read own.settled n e.promises exchanges.promises.outcomes
          ∙ (ap (λ (ps : List Promised). list_any (λ (p : Promised). int_eq p.seq n) ps && not (has own.settled n)) (exchanges.promises.promises_are ∙ is_sent)
          ∙ ap (λ (ns : List ℤ). list_any (λ (p : Promised). int_eq p.seq n) (promised_in (requests_of (sent schema (said_by end lines)))) && not (has ns n)) (settled-read schema end lines));
      readable = readable;
      actors = actors;
      exchanges = exchanges;
      outlined = outlined;
      theirs = theirs;
      origins = origins;
      replies = subst (λ (ps : List Promised). AllByRecursion (ItemIsPromised ps) e.arrived) is_sent replies;
    }

-- the end of a side in a legal history
pub history-tells : (schema : Schema) → IsSound schema → (top : ℕ) (moves : List Move) (end : Side) → EndTells schema (end_of end (world_of schema top moves)) end (history_of schema top moves)
history-tells schema sound top moves end =
    let w : World = world_of schema top moves in
    let is : WorldIsRead schema w (read schema (history_of schema top moves)) = reading_is_world schema sound top moves in
    let sides : (end_of end w).side ≡ end = end-side schema end w (nesting_in_every_run schema sound top moves) in
    by end sides is
  where
    by : (s : Side) → (end_of s (world_of schema top moves)).side ≡ s → WorldIsRead schema (world_of schema top moves) (read schema (history_of schema top moves)) → EndTells schema (end_of s (world_of schema top moves)) s (history_of schema top moves)
    by Parent sides is =
        tells schema (world_of schema top moves).parent Parent (history_of schema top moves) sides (histories_are_readable schema sound top moves) is.parent.actors is.parent.exchanges is.between.ends.outlined _ is.between.ends.origins (replies-promised schema sound top moves).0
    by Child sides is =
        tells schema (world_of schema top moves).child Child (history_of schema top moves) sides (histories_are_readable schema sound top moves) is.child.actors is.child.exchanges is.between.ends.their_outlined _ is.between.ends.their_origins (replies-promised schema sound top moves).1

-- an end by itself
pub alone-tells : (schema : Schema) → IsSound schema → (top : ℕ) (side : Side) (e : End) (lines : List Line) (packets : List Packet) → RunsAlone schema top side e lines packets → EndTells schema e side lines
alone-tells schema sound top side e lines packets run =
    let k = runs-keep schema sound top side e lines packets run in
    tells schema e side lines k.side_is (holds-readable _ schema lines (one_end_obeys_fallen schema sound top side e lines packets run)) k.read_is.actors k.read_is.exchanges k.read_is.outlined (notes schema packets) k.read_is.origins (replies-alone schema sound top side e lines packets run)

-- Steps

-- A step of an end, and what its lines show of it before the step and after it.
pub record TellingStep (schema : Schema) (end : Side) (start : List Line) (output : Output) : Type 0 where
  pub e : End
  pub link : List Packet
  pub happened : Event
  pub made : step schema e link happened ≡ Some output
  pub tells : EndTells schema e end start
  pub tells_after : EndTells schema output.end end (start ++ output.lines)

mover-end : (move : Move) (output : Output) (world : World) → end_of move.side (world_after move output world) ≡ output.end
mover-end move output world = by move.side move.event
  where
    by : (s : Side) (happened : Event) → end_of s (world_after (record { side = s; event = happened }) output world) ≡ output.end
    by Parent happened = refl
    by Child happened = refl

pub move-tells : (schema : Schema) → IsSound schema → (top : ℕ) (moves : List Move) (end : Side) (start : List Line) (output : Output) → MoveAt schema top moves end start output → TellingStep schema end start output
move-tells schema sound top moves end start output m = by end m.side_is
  where
    world : World
    world = world_of schema top m.front

    follows : MovesFollow schema m.front (m.move ∷ []) (opening top)
    follows = moves_go_one_after_another schema m.front (m.move ∷ []) (opening top)

    lines-after : history_of schema top (m.front ++ m.move ∷ []) ≡ start ++ output.lines
    lines-after =
        follows.lines
        ∙ (ap (λ (ls : List Line). history_of schema top m.front ++ ls) (append-nil (happens schema world m.move).lines ∙ ap (λ (found : Option Output). (passed_by found m.move world).lines) m.made)
        ∙ ap (λ (ls : List Line). ls ++ output.lines) (sym m.start_is))

    end-after : (s : Side) → m.move.side ≡ s → end_of s (world_of schema top (m.front ++ m.move ∷ [])) ≡ output.end
    end-after s is =
        ap (end_of s) (follows.world ∙ ap (λ (found : Option Output). (passed_by found m.move world).world) m.made)
        ∙ (ap (λ (x : Side). end_of x (world_after m.move output world)) (sym is) ∙ mover-end m.move output world)

    by : (s : Side) → m.move.side ≡ s → TellingStep schema s start output
    by s is = record {
      e = end_of m.move.side world;
      link = link_to m.move.side world;
      happened = m.move.event;
      made = m.made;
      tells = subst (λ (ls : List Line). EndTells schema (end_of m.move.side world) s ls) (sym m.start_is) (subst (λ (x : Side). EndTells schema (end_of m.move.side world) x (history_of schema top m.front)) is (history-tells schema sound top m.front m.move.side));
      tells_after = subst (EndTells schema output.end s) lines-after (subst (λ (x : End). EndTells schema x s (history_of schema top (m.front ++ m.move ∷ []))) (end-after s is) (history-tells schema sound top (m.front ++ m.move ∷ []) s));
    }

pub alone-step-tells : (schema : Schema) → IsSound schema → (top : ℕ) (side : Side) (start : List Line) (output : Output) → StepAt schema top side start output → TellingStep schema side start output
alone-step-tells schema sound top side start output s = record {
  e = s.e;
  link = s.link;
  happened = s.happened;
  made = s.made;
  tells = alone-tells schema sound top side s.e start s.packets s.run;
  tells_after = alone-tells schema sound top side output.end (start ++ output.lines) s.given (run-after s);
}

-- Lines in which each event was printed by a step, with what the lines show of its end
abbrev pub EventsAreTold : Schema → List Line → Type 0
EventsAreTold schema lines = (end : Side) (w : What) (before following : List Line) → is_effect w ≡ false → lines ≡ before ++ line_of end w ∷ following → EventIn (TellingStep schema end) end w before following

pub event-by : {S T : List Line → Output → Type 0} {end : Side} {w : What} {before following : List Line} → ((start : List Line) (output : Output) → S start output → T start output) → EventIn S end w before following → EventIn T end w before following
event-by {before = before} step i = record { output = i.output; by = step before i.output i.by; effects = i.effects; lines = i.lines; has = i.has }

pub history-events : (schema : Schema) → IsSound schema → (top : ℕ) (moves : List Move) → EventsAreTold schema (history_of schema top moves)
history-events schema sound top moves end w before following is at = event-by (move-tells schema sound top moves end) (event-at schema sound top moves end w before following is at)

pub alone-events : (schema : Schema) → IsSound schema → (top : ℕ) (side : Side) (e : End) (lines : List Line) (packets : List Packet) → RunsAlone schema top side e lines packets → EventsAreTold schema lines
alone-events schema sound top side e lines packets run end w before following is at =
    let here = event-alone schema sound top side e lines packets run end w before following is at in
    event-by (λ start output s. subst (λ (x : Side). TellingStep schema x start output) (sym here.0) (alone-step-tells schema sound top side start output s)) here.1

-- what an end has printed after an event and its effects
pub told-after : (schema : Schema) {end : Side} {w : What} {before following : List Line} (i : EventIn (TellingStep schema end) end w before following) → said_by end (before ++ i.output.lines) ≡ said_by end before ++ w ∷ i.effects
told-after schema {end} {w} {before} i = ap (λ (ls : List Line). said_by end (before ++ ls)) i.lines ∙ said-more end before (w ∷ i.effects)

rest-same : {x y : What} {xs ys : List What} → x ∷ xs ≡ y ∷ ys → xs ≡ ys
rest-same e = cc

-- the effects of an event, where all lines of its step are known
pub effects-are : (schema : Schema) {end : Side} {w : What} {before following : List Line} (i : EventIn (TellingStep schema end) end w before following) (first : What) (effects : List What) → i.output.lines ≡ map (line_at i.by.e.side) (first ∷ effects) → i.effects ≡ effects
effects-are schema {end} {w} i first effects said = rest-same (whats-same end (w ∷ i.effects) (first ∷ effects) (sym i.lines ∙ (said ∙ ap (λ (s : Side). map (line_at s) (first ∷ effects)) i.by.tells.side_is)))
