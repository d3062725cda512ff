-- Each end obeys the law of falls, and so does every legal history.
use Rattle.std.proofs.Common.{◌≡◌, inl, inr, ℕ, ◌+◌, ℤ, Bool, true, false, not, ◌&&◌, cond, if◌then◌else◌, int_eq, List, [], ◌∷◌, ◌++◌, map, Option, Some, None, refl, sym, ap, subst, ◌∙◌}
use Rattle.std.specs.List.{AllByRecursion}
use Rattle.std.specs.Option.{option_map_or}
use Rattle.std.proofs.lemmas.Bool.Decides.{Decides-int_eq}
use Rattle.std.proofs.lemmas.Option.{same_Some}
use Rattle.actor_tree.specs.declared.actor.Actor.{Actor}
use Rattle.actor_tree.specs.Tree.{lives, top, IsTree, AreMadeAfter}
use Rattle.actor_tree.proofs.Ids.{Has, Has-left, has_not}
use Rattle.ipdl_base.specs.declared.kinds.Side.{Side}
use Rattle.ipdl_base.specs.declared.kinds.Side.TheVariants.{Parent, Child}
use Rattle.ipdl_base.specs.declared.line.Line.{Line}
use Rattle.ipdl_base.specs.declared.line.What.{What}
use Rattle.ipdl_base.specs.declared.message.Body.{Body}
use Rattle.ipdl_base.specs.declared.message.Body.TheVariants.{Request}
use Rattle.ipdl_base.specs.declared.schema.MessageRow.{MessageRow}
use Rattle.ipdl_base.specs.declared.schema.Schema.{Schema}
use Rattle.ipdl_base.specs.Sound.{IsSound}
use Rattle.history_reading.specs.declared.law.Law.TheVariants as law
use Rattle.history_reading.specs.declared.parts.BuiltActor.{BuiltActor}
use Rattle.history_reading.specs.EndReading as end_reading
use Rattle.history_reading.specs.EndReading.{EndReading}
use Rattle.history_reading.specs.Fallen.{fallen_line, fallen_moment, all_fallen}
use Rattle.history_reading.specs.Holds.{moment_test}
use Rattle.history_reading.specs.Numbers.{has as has_number}
use Rattle.history_reading.specs.Reading.{Reading, end_reading_of, read}
use Rattle.channel_model.specs.Actors.{ids_of, AreKnown, IsTopOf, IsNew}
use Rattle.channel_model.specs.Ends.{End, World, Packet, message, mark, end_of, link_to, opening, opening_end}
use Rattle.channel_model.specs.Events.{Event, Move}
use Rattle.channel_model.specs.Events as event
use Rattle.ipdl_base.specs.Sides.{other, top_id}
use Rattle.channel_model.specs.Numbers.{id_of, is_constructor}
use Rattle.channel_model.specs.Outputs.{Output, is_open}
use Rattle.channel_model.specs.Phases.{Phase}
use Rattle.channel_model.specs.Refusals.{packet_refusal, body_refusal, expected_id, wrong_direction, wrong_number, wrong_new_id, actor_refusal}
use Rattle.channel_model.specs.Runs.{history_of, run}
use Rattle.channel_model.specs.StepLaws.{IsStepOfParts, IsMadeOf}
use Rattle.channel_model.specs.Parts.{OwnParts}
use Rattle.channel_model.specs.States.{IsInState}
use Rattle.channel_model.specs.Steps.{step, first_packet}
use Rattle.channel_model.proofs.Known.{all-map}
use Rattle.channel_model.proofs.KnownSteps.{first_actors_are_known, third_passes}
use Rattle.channel_model.proofs.StateSteps.{states_stay, first_states}
use Rattle.channel_model.proofs.StepParts.{steps_are_made_of_parts}
use Rattle.channel_laws.specs.ActorLaws.{DeliversNextId, StepObeysFallen, EndsObeyFallen, HistoriesObeyFallen}
use Rattle.channel_laws.specs.EndActors.{shown_actor, standing, built_ids, HasNextId, ReadsActors}
use Rattle.channel_laws.specs.RequestOrder.{IsNextRequest, WorldInOrder}
use Rattle.channel_laws.specs.Tested.{after_whats, test_at}
use Rattle.channel_laws.proofs.ActorsKept.{KeptBy, own-kept, delivery-kept, lives-taken}
use Rattle.channel_laws.proofs.ComingRequests.{coming-request, reached-in-order}
use Rattle.channel_laws.proofs.EveryRun.{end-side}
use Rattle.channel_laws.proofs.DeferralContext.{holds-in-runs}
use Rattle.channel_laws.proofs.Moves.{StepParts, acts, delivers}
use Rattle.channel_laws.proofs.Rows.{sound_schemas_have_sound_rows}
use Rattle.channel_laws.proofs.Runs.{EveryMoveKeeps, AtEnds, at-ends, ends-keep, ends-pass, every-run, moment_at, moments-pass}
use Rattle.channel_laws.proofs.Standing.{alive-built, built-lives}
use Rattle.channel_laws.proofs.Testing.{pass-both}

-- The actors of an end are known

not-true : (b : Bool) → (b ≡ true → ⊥) → b ≡ false
not-true true n = absurd (n refl)
not-true false n = refl

-- the protocol of the top actor
pub top_protocol : List Actor → ℕ
top_protocol [] = 0
top_protocol (a ∷ later) = a.protocol

later-tops : (protocol : ℕ) (older later : List Actor) → AreMadeAfter older later → Has top_id older → AllByRecursion (IsTopOf protocol) later
later-tops protocol older [] t h = tt
later-tops protocol older (a ∷ later) t h = ((λ e. absurd (has_not a.id older t.0 (subst (λ (i : ℤ). Has i older) (sym e) h))), later-tops protocol (older ++ a ∷ []) later t.2 (Has-left top_id older (a ∷ []) h))

tops : (actors : List Actor) → IsTree actors → AllByRecursion (IsTopOf (top_protocol actors)) actors
unfolding top_protocol
tops [] t = tt
tops (a ∷ later) t = ((λ e. refl), later-tops a.protocol (a ∷ []) later t.1 (inl (ap (λ (x : Actor). x.id) t.0)))

pub known-of : (schema : Schema) (e : End) (own : EndReading) → ReadsActors schema e own → AreKnown (top_protocol e.actors) (ids_of schema e)
known-of schema e own k = record {
  tree = k.ids.tree;
  top = tops e.actors k.ids.tree;
  taken = λ id alive. lives-taken schema [] e own.built own.fallen k.living k.ids id alive;
  waiting = all-map (IsNew (built_ids schema e own.built)) (IsNew (ids_of schema e)) (ids_of schema e).waiting
      (λ id new. (new.0, not-true (lives id e.actors) (λ t. let z : true ≡ false = sym (built-lives own.built id ∙ alive-built own.built own.fallen e.actors id k.living.living t) ∙ new.1 in cc))) k.ids.known.waiting;
  distinct = k.ids.known.distinct;
}

-- Each end alone

-- after a whole step
settled-reads : (schema : Schema) (e : End) (link : List Packet) (ev : Event) (output : Output) (place : ℕ) (ws : List What) (own : EndReading) (q : Phase) → step schema e link ev ≡ Some output → ReadsActors schema e own → KeptBy schema place ws own q output.end → ReadsActors schema output.end (after_whats schema place ws own)
settled-reads schema e link ev output place ws own q is k b =
    let state : IsInState output.end = states_stay schema (top_protocol e.actors) e link ev output is (known-of schema e own k) k.state in
    record {
      living = b.kept.living;
      handled = b.kept.event.handled;
      over = λ o. elim (b.kept.falls.over o) [ inl closed ↦ state.nobody closed | inr none ↦ none ];
      ids = record { tree = b.kept.ids.tree; known = b.kept.ids.known; pending = tt };
      state = state;
    }

pub opening-reads : (schema : Schema) (protocol : ℕ) (side : Side) → ReadsActors schema (opening_end protocol side) end_reading.opening
opening-reads schema protocol side = record {
  living = record { living = refl; fell = tt };
  handled = refl;
  over = λ o. cc;
  ids = record { tree = (refl, tt); known = first_actors_are_known schema 0 side; pending = tt };
  state = first_states protocol side;
}

next-of : (schema : Schema) (e : End) (link : List Packet) (packet : Packet) → DeliversNextId schema e link event.deliver → first_packet link ≡ Some packet → HasNextId schema e packet
next-of schema e [] packet next first = cc
next-of schema e (p ∷ rest) packet next first = subst (HasNextId schema e) (same_Some p packet first) next

made-obeys : (schema : Schema) → IsSound schema → (e : End) (link : List Packet) (ev : Event) (output : Output) (place : ℕ) (own : EndReading) → step schema e link ev ≡ Some output → ReadsActors schema e own → IsMadeOf (OwnParts schema e) e.side output → StepObeysFallen schema place own e output
made-obeys schema sound e link ev output place own is k m =
    let b : KeptBy schema place m.whats own m.phase output.end = own-kept schema (sound_schemas_have_sound_rows schema sound) place own m.parts k in
    record { whats = m.whats; lines = m.lines; pass = b.pass; reads = settled-reads schema e link ev output place m.whats own m.phase is k b }

step-obeys : (schema : Schema) → IsSound schema → (e : End) (link : List Packet) (ev : Event) (output : Output) (place : ℕ) (own : EndReading) → step schema e link ev ≡ Some output → DeliversNextId schema e link ev → ReadsActors schema e own → StepObeysFallen schema place own e output
step-obeys schema sound e link ev output place own is next k = by ev is next (steps_are_made_of_parts schema e link ev output is)
  where
    by : (ev : Event) → step schema e link ev ≡ Some output → DeliversNextId schema e link ev → IsStepOfParts schema e link ev output → StepObeysFallen schema place own e output
    by event.deliver is next (packet, first, opened, m) =
        let b : KeptBy schema place m.whats own m.phase output.end = delivery-kept schema place own packet m.parts (next-of schema e link packet next first) k in
        record { whats = m.whats; lines = m.lines; pass = b.pass; reads = settled-reads schema e link event.deliver output place m.whats own m.phase is k b }
    by (event.send route number vs name) is next m = made-obeys schema sound e link (event.send route number vs name) output place own is k m
    by (event.answer how vs) is next m = made-obeys schema sound e link (event.answer how vs) output place own is k m
    by (event.keep seq name) is next m = made-obeys schema sound e link (event.keep seq name) output place own is k m
    by (event.name name id) is next m = made-obeys schema sound e link (event.name name id) output place own is k m
    by event.close is next m = made-obeys schema sound e link event.close output place own is k m
    by event.die is next m = made-obeys schema sound e link event.die output place own is k m
    by event.take is next m = made-obeys schema sound e link event.take output place own is k m
    by (event.return vs) is next m = made-obeys schema sound e link (event.return vs) output place own is k m
    by event.resume is next m = made-obeys schema sound e link event.resume output place own is k m
    by event.flush is next m = made-obeys schema sound e link event.flush output place own is k m

none-stands : (fallen : List ℤ) (built : List BuiltActor) → standing fallen built ≡ [] → all_fallen fallen built ≡ true
none-stands fallen [] e = refl
none-stands fallen (x ∷ xs) e = by (has_number fallen x.id) (none-stands fallen xs) e
  where
    by : (b : Bool) → (standing fallen xs ≡ [] → all_fallen fallen xs ≡ true) → cond (not b) (x ∷ standing fallen xs) (standing fallen xs) ≡ [] → b && all_fallen fallen xs ≡ true
    by true rec e = rec e
    by false rec e = cc

moment-obeys : (schema : Schema) (e : End) (own : EndReading) → ReadsActors schema e own → fallen_moment own ≡ true
moment-obeys schema e own k = by own.over k.over
  where
    by : (over : Bool) → (over ≡ true → e.actors ≡ []) → (if over then all_fallen own.fallen own.built else true) ≡ true
    by true none = none-stands own.fallen own.built (k.living.living ∙ ap (map shown_actor) (none refl))
    by false none = refl

accepted-next : (schema : Schema) (e : End) (packet : Packet) → packet_refusal schema e packet ≡ None → HasNextId schema e packet
accepted-next schema e mark accepted = tt
accepted-next schema e (message m) accepted = λ row vs body found constructor.
    let refused : body_refusal schema e m (Request vs) row ≡ None =
    ap (λ (b : Body). body_refusal schema e m b row) (sym body) ∙ (sym (ap (λ (r : Option MessageRow). option_map_or (body_refusal schema e m m.body) r None) found) ∙ accepted) in
    (Decides-int_eq m.made (expected_id e)).0 (third_passes _ _ (is_constructor row.kind) (int_eq m.made (expected_id e)) wrong_direction wrong_number wrong_new_id (actor_refusal schema e row m) refused constructor)

pub ends_obey_fallen : EndsObeyFallen
ends_obey_fallen = record { opening = opening-reads; step = step-obeys; moment = moment-obeys; accepted = accepted-next }

-- Runs

-- a constructor that is delivered has the next id
next-id : (schema : Schema) (side : Side) (w : World) (packet : Packet) → WorldInOrder schema w → (end_of side w).side ≡ side → first_packet (link_to side w) ≡ Some packet → is_open (end_of side w).state ≡ true → HasNextId schema (end_of side w) packet
next-id schema side w mark order is first opened = tt
next-id schema side w (message m) order is first opened = λ row vs body found constructor.
    let next : IsNextRequest schema (other side) m (end_of side w).delivered (end_of side w).constructors_delivered = coming-request schema side w order m vs first body opened in
    let row_is : next.row ≡ row = same_Some next.row row (sym next.found ∙ found) in
    next.made_is (ap (λ (r : MessageRow). is_constructor r.kind) row_is ∙ constructor) ∙ ap (λ (s : Side). id_of (other s) ((end_of side w).constructors_delivered + 1)) (sym is)

module _ (schema : Schema) (sound : IsSound schema) where
  abbrev fallen_at : EndReading → EndReading → What → Bool
  fallen_at own others said = fallen_line own said

  parts-keep : (side : Side) (w : World) (own : EndReading) (place : ℕ) (ev : Event) {ws : List What} {ps : List Packet} {f : End} {q : Phase} → (end_of side w).side ≡ side → WorldInOrder schema w → StepParts schema (end_of side w) (link_to side w) ev ws ps f q → ReadsActors schema (end_of side w) own → KeptBy schema place ws own q f
  parts-keep side w own place ev is order (acts link parts) k = own-kept schema (sound_schemas_have_sound_rows schema sound) place own parts k
  parts-keep side w own place ev is order (delivers packet first opened one) k =
      delivery-kept schema place own packet one (next-id schema side w packet order is first opened) k

  moment-is : (w : World) (r : Reading) → AtEnds schema (ReadsActors schema) w r → moment_test law.Fallen schema r ≡ true
  unfolding moment_test
  moment-is w r k = both (fallen_moment r.parent) (fallen_moment r.child) (moment-obeys schema w.parent r.parent k.0) (moment-obeys schema w.child r.child k.1)
    where
      both : (x y : Bool) → x ≡ true → y ≡ true → x && y ≡ true
      both true y e f = f
      both false y e f = cc

  -- moments and lines pass the law of falls
  abbrev pub fallen_test : Reading → Line → List Line → Bool
  fallen_test r l b = moment_at (moment_test law.Fallen schema) r l b && test_at fallen_at r l b

  pub fallen-keeps_moves : EveryMoveKeeps schema (AtEnds schema (ReadsActors schema)) fallen_test
  fallen-keeps_moves move w r output m k =
      let side : Side = move.side in
      let ends = at-ends schema (ReadsActors schema) side w r k in
      let is : (end_of side w).side ≡ side = end-side schema side w m.nested in
      let order : WorldInOrder schema w = reached-in-order schema sound w r m.reached in
      let b : KeptBy schema r.lines m.ends.whats (end_reading_of side r) m.ends.phase output.end = parts-keep side w (end_reading_of side r) r.lines move.event is order m.ends.parts ends.0 in
      record {
        kept = ends-keep schema (ReadsActors schema) side move.event w r output m.nested m.ends
            (settled-reads schema (end_of side w) (link_to side w) move.event output r.lines m.ends.whats (end_reading_of side r) m.ends.phase m.step ends.0 b) ends.1;
        passes = λ following. pass-both schema (moment_at (moment_test law.Fallen schema)) (test_at fallen_at) r output.lines following
            (moments-pass schema (moment_test law.Fallen schema) move w r output following m.step (moment-is w r k))
            (ends-pass schema fallen_at side move.event w r output following m.nested m.ends b.pass);
      }

pub histories_obey_fallen : HistoriesObeyFallen
histories_obey_fallen schema sound top moves =
    let run_keeps = every-run schema sound (AtEnds schema (ReadsActors schema)) (fallen_test schema sound) (fallen-keeps_moves schema sound) top moves (opening-reads schema top Parent, opening-reads schema top Child) in
    holds-in-runs law.Fallen schema sound top moves (run_keeps.passes []) (moment-is schema sound (run schema moves (opening top)).world (read schema (history_of schema top moves)) run_keeps.kept)
