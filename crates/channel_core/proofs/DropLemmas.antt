-- A request that is dropped.
use Rattle.std.proofs.Common.{◌≡◌, ℤ, ◌+◌, ◌-◌, ◌≤◌, List, [], length, map, Option, Some, refl, ap, sym, ◌∙◌, arith}
use Rattle.std.specs.Option.{option_map_or}
use Rattle.ipdl_base.specs.declared.line.What.TheVariants as what
use Rattle.ipdl_base.specs.declared.kinds.Reason.TheVariants.{ActorDestroyed}
use Rattle.ipdl_base.specs.declared.message.Message.{Message}
use Rattle.ipdl_base.specs.declared.schema.MessageRow.{MessageRow}
use Rattle.nesting_core.specs.declared.frame.Answer.TheVariants as answer
use Rattle.pending_queue.specs.declared.item.Item.{Item}
use Rattle.pending_queue.specs.Plain.{plain_item}
use Rattle.channel_model.specs.Ends.{End}
use Rattle.channel_model.specs.Events as event
use Rattle.channel_model.specs.Outputs.{Output, beginning, is_open, line, line_at, request_answered}
use Rattle.channel_model.specs.Parts.{left_end, owes_reply}
use Rattle.channel_model.specs.Steps.{step}
use Rattle.channel_model.specs.Takes.{dropped_or_handled}
use Rattle.channel_model.specs.ValueActors.{nulled}
use Rattle.end_steps.specs.declared.answer_packet.AnswerPacket.{AnswerPacket}
use Rattle.end_steps.specs.AnswerPackets.{OwedAnswer, owed_if, with_answer_packet}
use Rattle.end_parts.specs.OutputView.{OutputView, with_line}
use Rattle.end_steps.specs.TakenItems.{owed_by_drop}
use Rattle.channel_core.specs.Inside.{IsInside}
use Rattle.channel_core.specs.NextItems.{IsNextDrop}
use Rattle.channel_core.specs.Room.{room}
use Rattle.channel_core.specs.EndView.{EndView}
use Rattle.channel_core.specs.Taken.{drop, handle, nothing, kind_of, body_kind, item_kind, request_kind}
use Rattle.channel_core.specs.Tracks.{Tracks}
use Rattle.channel_core.proofs.MadeLemmas.{Made, HasRoom}
use Rattle.channel_core.proofs.OwedLemmas.{answered_owed, answers_owed, owed_end, owed_room, tracks_owed, LeavesRoom}
use Rattle.channel_core.proofs.TakeLemmas.{left, request_steps}
use Rattle.channel_core.proofs.TrackLemmas.{tracks_end, tracks_line, tracks_room}

-- What the code makes of a request that it drops.
pub record CodeDrops (v : EndView) (out mid said told : OutputView) (m : Message) (id : ℤ) (packet : Option AnswerPacket) (items : List Item) : Type 0 where
  pub same : mid ≡ record out { line_spare = mid.line_spare; packet_spare = mid.packet_spare }
  pub lines : out.lines_owed + 2 ≤ mid.line_spare
  pub packets : length out.frames + 1 + 1 ≤ mid.packet_spare
  pub leaves : map plain_item items ≡ (left_end v.end).arrived
  pub says : said ≡ with_line mid (line_at v.end.side (what.Drop m.seq m.route m.number id))
  pub puts : told ≡ with_answer_packet v.end.side packet said

-- the end after it
abbrev pub dropped_with : End → List Item → OutputView → End
dropped_with e items out = record e { arrived = map plain_item items; outbox = out.outbox }

module _ (v : EndView) (id : ℤ) (packet : Option AnswerPacket) (n : IsNextDrop v id packet) where
  abbrev spoken : Output
  spoken = line (what.Drop n.m.seq n.m.route n.m.number id) (left v.end)

  abbrev owed : Option OwedAnswer
  owed = owed_if (is_open v.end.state) (owed_by_drop n.drop.row n.m)

  drop_steps : step v.schema v.end [] event.take ≡ Some (answers_owed owed spoken)
  drop_steps =
      request_steps v n.m n.drop.row n.drop.given n.is_next n.drop.body n.drop.found
      ∙ ap (λ (d : Option ℤ). Some (dropped_or_handled d n.drop.row n.m (nulled v.schema v.end.actors n.drop.row.params n.drop.given) (left v.end))) n.drop.dropped
      ∙ ap Some (answered_owed (owes_reply n.drop.row) (is_open v.end.state) (request_answered n.m) (answer.Fault ActorDestroyed) spoken refl)

  pub drops : (out mid said told : OutputView) (items : List Item) → Tracks v (beginning v.end) out → CodeDrops v out mid said told n.m id packet items → Made v [] event.take (dropped_with v.end items told) told
  drops out mid said told items t h =
      let t0 : Tracks v (beginning v.end) mid = tracks_room v (beginning v.end) out mid t (h.same ∙ rw h.same refl) in
      let t1 : Tracks v (left v.end) mid = tracks_end v (beginning v.end) mid left_end t0 refl in
      let t2 : Tracks v spoken said = tracks_line v (left v.end) mid said (what.Drop n.m.seq n.m.route n.m.number id) t1 h.says in
      let t3 : Tracks v (answers_owed owed spoken) told = tracks_owed v spoken said told owed packet n.drop.answer t2 h.puts in
      record {
        output = answers_owed owed spoken;
        steps = drop_steps;
        tracks = t3;
        ends = rw (h.leaves, t3.outbox) (sym (owed_end owed spoken));
      }

  pub drop_room : (out mid said told : OutputView) (items : List Item) → out.outbox ≡ v.end.outbox → IsInside v.schema v.end out → CodeDrops v out mid said told n.m id packet items → HasRoom v.schema (dropped_with v.end items told) told
  unfolding room
  drop_room out mid said told items box inside h =
      let r : LeavesRoom said told = owed_room v.end.side packet said told h.puts in
      let said_spare : said.line_spare ≡ mid.line_spare - 1 = ap (λ (g : OutputView). g.line_spare) h.says in
      let said_owed : said.lines_owed ≡ out.lines_owed = ap (λ (g : OutputView). g.lines_owed) h.says ∙ ap (λ (g : OutputView). g.lines_owed) h.same in
      let said_packets : said.packet_spare ≡ mid.packet_spare = ap (λ (g : OutputView). g.packet_spare) h.says in
      let said_frames : length said.frames ≡ length out.frames = ap (λ (g : OutputView). length g.frames) h.says ∙ ap (λ (g : OutputView). length g.frames) h.same in
      let said_bye : said.goodbye ≡ out.goodbye = ap (λ (g : OutputView). g.goodbye) h.says ∙ ap (λ (g : OutputView). g.goodbye) h.same in
      let said_box : length said.outbox ≡ length v.end.outbox = ap (λ (g : OutputView). length g.outbox) h.says ∙ ap (λ (g : OutputView). length g.outbox) h.same ∙ ap length box in
      record {
        owes = omega (arith, inside.owes, r.owed, said_owed, r.outbox, said_box);
        spare = omega (arith, inside.spare, h.lines, r.owed, r.lines, said_owed, said_spare);
        packets = λ e. r.packets (omega (arith, h.packets, said_packets, said_frames));
        farewell = λ e. r.goodbye ∙ said_bye ∙ inside.farewell e;
      }

  -- what is done is a drop
  pub drop_kind : kind_of v ≡ drop
  unfolding kind_of
  drop_kind =
      ap (λ (x : Option Item). option_map_or (item_kind v) x nothing) n.is_next.next
      ∙ ap (body_kind v n.m) n.drop.body ∙ ap (λ (r : Option MessageRow). option_map_or (request_kind v n.m n.drop.given) r drop) n.drop.found
      ∙ ap (λ (d : Option ℤ). option_map_or (λ (id : ℤ). drop) d (handle n.m n.drop.row (nulled v.schema v.end.actors n.drop.row.params n.drop.given))) n.drop.dropped
