-- Every legal history obeys the law of the living.
use Rattle.std.proofs.Common.{◌≡◌, ℕ, Bool, ◌&&◌, true, false, if◌then◌else◌, List, [], ◌∷◌, ◌++◌, map, Some, None, refl, sym, subst, ◌∙◌}
use Rattle.ipdl_base.specs.declared.kinds.Side.{Side}
use Rattle.ipdl_base.specs.declared.kinds.Side.TheVariants.{Parent, Child}
use Rattle.ipdl_base.specs.declared.line.Line.{Line}
use Rattle.ipdl_base.specs.declared.line.What.{What}
use Rattle.ipdl_base.specs.declared.message.Body.TheVariants.{Request}
use Rattle.ipdl_base.specs.declared.message.Message.{Message}
use Rattle.ipdl_base.specs.declared.schema.Schema.{Schema}
use Rattle.ipdl_base.specs.declared.value.Values.{Values}
use Rattle.ipdl_base.specs.Lines.{is_effect}
use Rattle.ipdl_base.specs.Sound.{IsSound, message_of}
use Rattle.pending_queue.specs.declared.item.Item.TheVariants as item
use Rattle.history_reading.specs.declared.law.Law.TheVariants as law
use Rattle.history_reading.specs.EndReading.{EndReading}
use Rattle.history_reading.specs.Holds.{moment_test}
use Rattle.history_reading.specs.Living.{living_line}
use Rattle.history_reading.specs.Reading.{Reading, after_at, end_reading_of, other_of}
use Rattle.channel_model.specs.Ends.{End, World, Packet, end_of, link_to}
use Rattle.channel_model.specs.Events.{Event}
use Rattle.ipdl_base.specs.Sides.{other}
use Rattle.channel_model.specs.Outputs.{line_at}
use Rattle.channel_model.specs.Parts as part
use Rattle.channel_model.specs.Parts.{LaterParts, OwnParts, DeliveryPart}
use Rattle.channel_model.specs.Phases.{Phase}
use Rattle.channel_model.specs.Takes as take
use Rattle.channel_laws.specs.TwoEndLaws.{HistoriesObeyLiving}
use Rattle.channel_laws.specs.EndActors.{actor_reading, KeepsActors, ReadsActors}
use Rattle.channel_laws.specs.NotedArrivals.{ArrivalsAreNoted, IsNoted}
use Rattle.channel_laws.specs.Notes.{Note, told_notes, notes}
use Rattle.channel_laws.specs.Origins.{BodyOrigin}
use Rattle.channel_laws.specs.Protocols.{Protocols, HasProtocols, WorldHasProtocols}
use Rattle.channel_laws.specs.Rows.{HasSoundRows}
use Rattle.channel_laws.specs.SentAccounts.{EndAccount}
use Rattle.channel_laws.specs.Tested.{after_whats, EndLinesPass, LinesPass}
use Rattle.channel_laws.specs.TwoEnds.{TwoEnds}
use Rattle.channel_laws.proofs.ActorsKept.{first-kept, later-kept}
use Rattle.channel_laws.proofs.EveryRun.{end-side}
use Rattle.channel_laws.proofs.DeferralContext.{holds-in-runs, law_at}
use Rattle.channel_laws.proofs.LivingParts.{IsLivingLine, first-lives, later-lives, delivery-lives}
use Rattle.channel_laws.proofs.MadeByEvents.{FreshIsMade, first-made, later-made}
use Rattle.channel_laws.proofs.Moves.{StepParts, acts, delivers}
use Rattle.channel_laws.proofs.Origins.{taken-origin}
use Rattle.channel_laws.proofs.Reached.{actors-reached, noted-reached, protocols-reached}
use Rattle.channel_laws.proofs.RequestOrder.{first-posts}
use Rattle.channel_laws.proofs.Rows.{request-message, sound_schemas_have_sound_rows}
use Rattle.channel_laws.proofs.Runs.{at-ends, across-ends, EveryMoveKeeps, every-run, side-lines}
use Rattle.channel_laws.proofs.Testing.{tested-append}
use Rattle.channel_laws.proofs.TwoEnds.{EndKeeps, keeps-of, first-keeps}

-- lines of a side pass a test that depends on the side
pass-side : (schema : Schema) (side : Side) (ws : List What) (r : Reading) (following : List Line) → EndLinesPass schema (λ own w. living_line schema side own (other_of side r) w ≡ true) r.lines ws (end_reading_of side r) → LinesPass schema (law_at law.Living schema) r (map (line_at side) ws) following
unfolding moment_test
pass-side schema side [] r following t = tt
pass-side schema Parent (w ∷ ws) r following t = (by (is_effect w) t.0, pass-side schema Parent ws (after_at schema Parent w r) following t.1)
  where
    by : (b : Bool) → living_line schema Parent r.parent r.child w ≡ true → (if b then true else true) && living_line schema Parent r.parent r.child w ≡ true
    by true e = e
    by false e = e
pass-side schema Child (w ∷ ws) r following t = (by (is_effect w) t.0, pass-side schema Child ws (after_at schema Child w r) following t.1)
  where
    by : (b : Bool) → living_line schema Child r.child r.parent w ≡ true → (if b then true else true) && living_line schema Child r.child r.parent w ≡ true
    by true e = e
    by false e = e

module _ (schema : Schema) (sound : IsSound schema) (side : Side) (others : EndReading) where
  laters-live : {p q : Phase} {e f : End} {ws : List What} {ps : List Packet} (place : ℕ) (own : EndReading) → LaterParts p e ws ps f q → KeepsActors schema p e (actor_reading own) → FreshIsMade schema side others own p → EndLinesPass schema (IsLivingLine schema sound side others) place ws own
  laters-live place own part.done k made = tt
  laters-live place own (part.then {ws} {vs} one more) k made =
      tested-append schema (IsLivingLine schema sound side others) place ws vs own (later-lives schema sound side others place own one k made)
      (λ at. laters-live at (after_whats schema place ws own) more (later-kept schema place own one k).kept (later-made schema side others place own one k made))

  -- an end's own step
  own-lives : {q : Phase} {e g : End} {ws : List What} {ps : List Packet} (place : ℕ) (own : EndReading) (made : Protocols) (theirs : End) (left their_left : List Note) → OwnParts schema e ws ps g q → e.side ≡ side → theirs.side ≡ other side → ReadsActors schema e own → HasProtocols schema made e
      → EndKeeps schema (told_notes theirs.side others.sent) e own left → EndAccount schema theirs others their_left → ArrivalsAreNoted schema (told_notes (other side) others.sent) e → EndLinesPass schema (IsLivingLine schema sound side others) place ws own
  own-lives {e = mine} place own made theirs left their_left (part.begun {p} {f} {ws} {vs} {ps} first more ended) is their_side reads keeps ends account noted =
      let rows : HasSoundRows schema = sound_schemas_have_sound_rows schema sound in
      let begun : KeepsActors schema p f (actor_reading (after_whats schema place ws own)) = (first-kept schema rows place own first reads).kept in
      let kept = first-keeps schema rows (told_notes theirs.side others.sent) place own left first ends in
      tested-append schema (IsLivingLine schema sound side others) place ws vs own
      (first-lives schema sound side others made mine own reads keeps place theirs their_left first their_side account noted rowed)
      (λ at. laters-live at (after_whats schema place ws own) more begun (first-made schema side others (after_whats schema place ws own) theirs left their_left first ((first-posts schema first).side_is ∙ is) their_side kept.0.sent account noted))
    where
      rowed : (m : Message) (sync : Bool) (level : _) (vs : Values) → take.taken_next mine ≡ Some (item.Message m sync level) → m.body ≡ Request vs → message_of schema m.number ≡ None → ⊥
      rowed m sync level vs next body none =
          let o : BodyOrigin schema (told_notes theirs.side others.sent) m (Request vs) = subst (BodyOrigin schema (told_notes theirs.side others.sent) m) body (taken-origin schema (told_notes theirs.side others.sent) mine (item.Message m sync level) ends.origins next) in
          let known : Some o.row ≡ None = sym (request-message schema m.number o.row o.found) ∙ none in
          cc

  -- a step
  step-lives : {ev : Event} {q : Phase} {f : End} {ws : List What} {ps : List Packet} (place : ℕ) (mine theirs : End) (own : EndReading) (to_me to_them : List Packet) (made : Protocols) → StepParts schema mine to_me ev ws ps f q → mine.side ≡ side → theirs.side ≡ other side → ReadsActors schema mine own → HasProtocols schema made mine
      → (pair : TwoEnds schema mine theirs own others to_me to_them) → ArrivalsAreNoted schema (told_notes (other side) others.sent) mine → EndLinesPass schema (IsLivingLine schema sound side others) place ws own
  step-lives place mine theirs own to_me to_them made (acts link parts) is their_side reads keeps pair noted =
      own-lives place own made theirs (pair.goes.got ++ notes schema to_them) (pair.comes.got ++ notes schema to_me) parts is their_side reads keeps (keeps-of schema (sound_schemas_have_sound_rows schema sound) mine theirs own others to_me to_them pair) pair.comes.sent noted
  step-lives place mine theirs own to_me to_them made (delivers packet first o one) is their_side reads keeps pair noted = delivery-lives schema sound side others place own one

-- Moves

side-keeps : (schema : Schema) (top : ℕ) (side : Side) (w : World) (h : WorldHasProtocols schema top w) → HasProtocols schema h.made (end_of side w)
side-keeps schema top Parent w h = h.keeps
side-keeps schema top Child w h = h.their_keeps

module _ (schema : Schema) (sound : IsSound schema) where
  moves-live : EveryMoveKeeps schema (λ w r. Unit {0}) (law_at law.Living schema)
  moves-live move w r output m k =
      let side : Side = move.side in
      let protocols : WorldHasProtocols schema m.reached.top w = protocols-reached schema sound w r m.reached in
      let reads = at-ends schema (ReadsActors schema) side w r (actors-reached schema sound w r m.reached) in
      let noted = across-ends schema (IsNoted schema) side w r (noted-reached schema sound w r m.reached) in
      let lines : output.lines ≡ map (line_at side) m.ends.whats = side-lines (end_of side w) side output.lines m.ends.whats (end-side schema side w m.nested) m.ends.lines in
      record {
        kept = tt;
        passes = λ following. subst (λ (ls : List Line). LinesPass schema (law_at law.Living schema) r ls following) (sym lines)
            (pass-side schema side m.ends.whats r following
            (step-lives schema sound side (other_of side r) r.lines (end_of side w) (end_of (other side) w) (end_reading_of side r) (link_to side w) (link_to (other side) w) protocols.made m.ends.parts (end-side schema side w m.nested) (end-side schema (other side) w m.nested) reads.0 (side-keeps schema m.reached.top side w protocols) m.ends.before noted.0.arrived));
      }

pub histories_obey_living : HistoriesObeyLiving
unfolding moment_test
histories_obey_living schema sound top moves =
    holds-in-runs law.Living schema sound top moves ((every-run schema sound (λ w r. Unit {0}) (law_at law.Living schema) (moves-live schema sound) top moves tt).passes []) refl
