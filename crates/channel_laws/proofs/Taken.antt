-- In every run what is taken has arrived, and ends keep what they read of requests and replies.
use Rattle.std.proofs.Common.{◌≡◌, ℕ, ◌+◌, ◌≤◌, ℤ, true, List, ◌∷◌, ◌++◌, drop, map, Some, refl, sym, ap, subst, ◌∙◌}
use Rattle.ipdl_base.specs.declared.kinds.Side.{Side}
use Rattle.ipdl_base.specs.declared.line.What.{What}
use Rattle.ipdl_base.specs.declared.line.What.TheVariants as what
use Rattle.ipdl_base.specs.declared.message.Body.{Body}
use Rattle.ipdl_base.specs.declared.message.Body.TheVariants.{Request, Reply, Fault, Goodbye}
use Rattle.ipdl_base.specs.declared.message.Message.{Message}
use Rattle.ipdl_base.specs.declared.schema.Schema.{Schema}
use Rattle.ipdl_base.specs.Sound.{IsSound}
use Rattle.nesting_core.specs.declared.frame.Answer.TheVariants as answer
use Rattle.channel_model.specs.Ends.{End, World, Packet, message, mark, end_of, link_to}
use Rattle.channel_model.specs.Events.{Event}
use Rattle.channel_model.specs.Steps.{first_packet}
use Rattle.ipdl_base.specs.Sides.{other}
use Rattle.channel_model.specs.Numbers.{seq_of, is_sync_row}
use Rattle.channel_model.specs.Outputs.{is_open}
use Rattle.channel_model.specs.Phases.{Phase}
use Rattle.history_reading.specs.EndReading.{EndReading}
use Rattle.history_reading.specs.Reading.{Reading, end_reading_of, other_of}
use Rattle.channel_laws.specs.Arrivals.{arrival_reading, replies_delivered, ArrivalsAreRead, IsDueBody, IsDueMessage, IsDue}
use Rattle.channel_laws.specs.Exchanges.{ReadsExchanges}
use Rattle.channel_laws.specs.NestedWorlds.{IsNestedWorld}
use Rattle.channel_laws.specs.Notes.{told_notes}
use Rattle.channel_laws.specs.Origins.{BodyOrigin}
use Rattle.channel_laws.specs.RequestOrder.{InOrder, BodyInOrder, IsNextRequest, on_way}
use Rattle.channel_laws.specs.Taken.{there_line}
use Rattle.channel_laws.specs.Tested.{after_whats, EndLinesPass, test_at}
use Rattle.channel_laws.proofs.ComingRequests.{comes-at, reached-in-order}
use Rattle.channel_laws.proofs.EveryRun.{end-side}
use Rattle.channel_laws.proofs.Exchanges.{own-exchanges, delivery-exchanges, request-there, reply-there, replies-once}
use Rattle.channel_laws.proofs.Moves.{StepParts, acts, delivers}
use Rattle.channel_laws.proofs.Outlines.{RepliesFit}
use Rattle.channel_laws.proofs.Runs.{IsReached, EveryMoveKeeps, AtEnds, at-ends, ends-keep, ends-pass}
use Rattle.channel_laws.proofs.TakingLines.{takes_nothing, TakesPass, own-pass, delivery-pass}
use Rattle.channel_laws.proofs.TwoEnds.{Arrival}

-- Lines

-- lines that find what they take there
abbrev There : Schema → ℕ → List What → EndReading → EndReading → Type 0
There schema place ws own others = EndLinesPass schema (λ read w. there_line read others w ≡ true) place ws own

there-free : (others own : EndReading) (w : What) → takes_nothing w ≡ true → there_line own others w ≡ true
there-free others own (what.Take n route number vs) e = cc
there-free others own (what.Drop n route number id) e = cc
there-free others own (what.TakeReply n) e = cc
there-free others own _ e = refl

-- what an end takes has arrived
takes-there : (schema : Schema) (others : EndReading) (e : End) (own : EndReading) → ArrivalsAreRead e own → ((n : ℤ) → replies_delivered (arrival_reading own) n ≤ 1) → TakesPass schema (λ read w. there_line read others w ≡ true) e own
takes-there schema others e own h once = record {
  takes = λ m sync level row vs next body found. request-there e own m sync level vs h next body;
  drops = λ m sync level vs id next body. request-there e own m sync level vs h next body;
  takes_reply = λ m sync level a next body. reply-there e own m sync level a h next body (once m.seq);
}

-- What comes is due

due-message : (schema : Schema) (mine : End) (own : EndReading) (side : Side) (sent : _) (m : Message) (goes_on : ℕ → ℕ → Type 0) (b : Body) → mine.side ≡ side → RepliesFit schema (message m) mine own → m.body ≡ b → BodyOrigin schema sent m b → BodyInOrder schema (other side) m b goes_on mine.delivered mine.constructors_delivered → IsDueMessage schema mine own m b
due-message schema mine own side sent m goes_on (Request vs) at fit is origin order =
    let next : IsNextRequest schema (other side) m mine.delivered mine.constructors_delivered = order.0 in
    (next.row, next.found, subst (IsDueBody mine own m (is_sync_row next.row)) (sym is) (next.seq_is ∙ ap (λ (s : Side). seq_of (other s) (mine.delivered + 1)) (sym at)))
due-message schema mine own side sent m goes_on (Reply vs) at fit is origin order = (origin.0, origin.1, subst (IsDueBody mine own m (is_sync_row origin.0)) (sym is) (fit.sync m origin.0 (answer.Ok vs) refl is origin.1))
due-message schema mine own side sent m goes_on (Fault reason) at fit is origin order = (origin.0, origin.1, subst (IsDueBody mine own m (is_sync_row origin.0)) (sym is) (fit.sync m origin.0 (answer.Fault reason) refl is origin.1))
due-message schema mine own side sent m goes_on Goodbye at fit is origin order = tt

due-packet : (schema : Schema) (side : Side) (mine theirs : End) (own others : EndReading) (link : List Packet) (packet : Packet) → mine.side ≡ side → Arrival schema mine theirs own others link packet → InOrder schema (other side) (on_way theirs (packet ∷ drop 1 link)) theirs.sent theirs.constructors_sent mine.delivered mine.constructors_delivered → IsDue schema mine own packet
due-packet schema side mine theirs own others link (message m) at arrival order =
    due-message schema mine own side (told_notes theirs.side others.sent) m (InOrder schema (other side) (drop 1 link ++ map message theirs.outbox) theirs.sent theirs.constructors_sent) m.body at arrival.fits refl arrival.origin order
due-packet schema side mine theirs own others link mark at arrival order = tt

-- Moves

module _ (schema : Schema) (sound : IsSound schema) where
  -- what both ends read of requests and replies
  abbrev pub ReadExchanges : World → Reading → Type 0
  ReadExchanges w r = AtEnds schema (ReadsExchanges schema) w r

  -- what comes to an end is due
  pub coming-due : (side : Side) (w : World) (r : Reading) (packet : Packet) → IsReached schema w r → IsNestedWorld schema w → is_open (end_of side w).state ≡ true → Arrival schema (end_of side w) (end_of (other side) w) (end_reading_of side r) (other_of side r) (link_to side w) packet → IsDue schema (end_of side w) (end_reading_of side r) packet
  coming-due side w r packet reached nested opened arrival =
      due-packet schema side (end_of side w) (end_of (other side) w) (end_reading_of side r) (other_of side r) (link_to side w) packet (end-side schema side w nested) arrival
      (subst (λ (link : List Packet). InOrder schema (other side) (on_way (end_of (other side) w) link) (end_of (other side) w).sent (end_of (other side) w).constructors_sent (end_of side w).delivered (end_of side w).constructors_delivered) arrival.link (comes-at schema side w (reached-in-order schema sound w r reached) opened))

  parts-keep : (mine : End) (own others : EndReading) (place : ℕ) (link : List Packet) {ev : Event} {ws : List What} {ps : List Packet} {f : End} {q : Phase} → StepParts schema mine link ev ws ps f q → ((packet : Packet) → first_packet link ≡ Some packet → is_open mine.state ≡ true → IsDue schema mine own packet) → ((n : ℤ) → replies_delivered (arrival_reading own) n ≤ 1) → ReadsExchanges schema mine own
      → ReadsExchanges schema f (after_whats schema place ws own) × There schema place ws own others
  parts-keep mine own others place link (acts same part) due once h = (own-exchanges schema place own part h, own-pass schema (λ read w. there_line read others w ≡ true) (there-free others) place own part (takes-there schema others mine own h.arrivals once))
  parts-keep mine own others place link (delivers packet first opened part) due once h = (delivery-exchanges schema place own part (due packet first opened) h, delivery-pass schema (λ read w. there_line read others w ≡ true) (there-free others) place own part)

  pub exchanges-keep : EveryMoveKeeps schema ReadExchanges (test_at there_line)
  exchanges-keep move w r output h k =
      let mine = at-ends schema (ReadsExchanges schema) move.side w r k in
      let once = replies-once schema (end_of (other move.side) w) (other_of move.side r) (end_reading_of move.side r) (link_to move.side w) h.ends.before.comes mine.1.answers in
      let p = parts-keep (end_of move.side w) (end_reading_of move.side r) (other_of move.side r) r.lines (link_to move.side w) h.ends.parts (λ packet first opened. coming-due move.side w r packet h.reached h.nested opened (h.ends.arrives packet first opened)) once mine.0 in
      record {
        kept = ends-keep schema (ReadsExchanges schema) move.side move.event w r output h.nested h.ends p.0 mine.1;
        passes = λ following. ends-pass schema there_line move.side move.event w r output following h.nested h.ends p.1;
      }
