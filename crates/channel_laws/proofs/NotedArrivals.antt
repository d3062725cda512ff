-- What arrives is noted, and requests are read as their messages are, after every step of one of two ends.
use Rattle.std.proofs.Common.{◌≡◌, ℕ, ◌+◌, ℤ, pos, Bool, true, false, if◌then◌else◌, List, [], ◌∷◌, ◌++◌, drop, Some, None, refl, sym, ap, subst, ◌∙◌}
use Rattle.std.specs.List.{AllByRecursion}
use Rattle.std.proofs.lemmas.List.{map-append}
use Rattle.ipdl_base.specs.declared.kinds.Side.{Side}
use Rattle.ipdl_base.specs.declared.line.What.{What}
use Rattle.ipdl_base.specs.declared.line.What.TheVariants as what
use Rattle.ipdl_base.specs.declared.message.Message.{Message}
use Rattle.ipdl_base.specs.declared.schema.MessageRow.{MessageRow}
use Rattle.ipdl_base.specs.declared.schema.Schema.{Schema}
use Rattle.pending_queue.specs.declared.item.Item.{Item}
use Rattle.pending_queue.specs.declared.item.Item.TheVariants as item
use Rattle.pending_queue.specs.Compression.{staying}
use Rattle.pending_queue.specs.DeferralContext.{is_free, without_first}
use Rattle.history_reading.specs.declared.parts.PacketKind.TheVariants as seen
use Rattle.history_reading.specs.EndReading.{EndReading, is_sync_request}
use Rattle.history_reading.specs.Reading as reads
use Rattle.history_reading.specs.Reading.{Reading, after_what, request_after, end_reading_of, other_of}
use Rattle.history_reading.specs.SentPacket as told
use Rattle.history_reading.specs.SentPacket.{SentPacket, requests_of}
use Rattle.channel_model.specs.Answers as answering
use Rattle.channel_model.specs.Deliveries as delivery
use Rattle.channel_model.specs.Ends.{End, World, Packet, message, mark, end_of, link_to}
use Rattle.channel_model.specs.Events.{Event, Move, Answering, handled, kept}
use Rattle.ipdl_base.specs.Sides.{other}
use Rattle.channel_model.specs.Outputs.{Output, is_open}
use Rattle.channel_model.specs.Parts
use Rattle.channel_model.specs.Parts.{FirstPart, LaterPart, LaterParts, OwnParts, DeliveryPart, end_after, left_end, farewell_item}
use Rattle.channel_model.specs.Phases.{Phase}
use Rattle.channel_model.specs.Runs.{world_after}
use Rattle.channel_model.specs.Steps.{first_packet}
use Rattle.channel_model.specs.Takes as take
use Rattle.channel_model.proofs.Known.{all-append, all-map}
use Rattle.channel_model.proofs.Sublists.{all-sublist, without_first-sublist, staying-sublist}
use Rattle.channel_laws.specs.NotedArrivals.{ItemIsNoted, ArrivalsAreNoted, HasWantsOfRow, HaveWantsOfRows, IsNoted}
use Rattle.channel_laws.specs.Notes.{Note, packet_note, told_note, told_notes, In, here}
use Rattle.channel_laws.specs.Tested.{after_whats, read_from}
use Rattle.channel_laws.specs.TwoEnds.{LinkAccount}
use Rattle.channel_laws.proofs.Growing.{grows, in-before, in-following}
use Rattle.channel_laws.proofs.EveryRun.{end-side}
use Rattle.channel_laws.proofs.Moves.{StepParts, acts, delivers}
use Rattle.channel_laws.proofs.Runs.{RunMove, AcrossEnds, across-ends, across-keep}
use Rattle.channel_laws.proofs.SentAccounts.{requests-append}

-- What has arrived, and what arrives

module _ (P : Item → Type 0) where
  arrived-following : (b : Bool) (e : End) → AllByRecursion P e.arrived → AllByRecursion P (end_after b e).arrived
  arrived-following true e h = h
  arrived-following false e h = h

  arrived-without : (by : Answering) (e : End) → AllByRecursion P e.arrived → AllByRecursion P (answering.without_resolver by e).arrived
  arrived-without (handled seq) e h = h
  arrived-without (kept name number) e h = h

  arrived-left : (e : End) → AllByRecursion P e.arrived → AllByRecursion P (left_end e).arrived
  arrived-left e h = all-sublist P (without_first (is_free (take.deferral_context_of e)) e.arrived) e.arrived (without_first-sublist (is_free (take.deferral_context_of e)) e.arrived) h

  first-arrived : {schema : Schema} {e f : End} {ws : List What} {ps : List Packet} {p : Phase} → FirstPart schema e ws ps f p → AllByRecursion P e.arrived → AllByRecursion P f.arrived
  first-arrived (Parts.refuses w is) h = h
  first-arrived (Parts.renames w is) h = h
  first-arrived (Parts.flushes o) h = h
  first-arrived (Parts.sends row route vs name sent) h = h
  first-arrived {e} (Parts.answers by vs r row found may accepted used) h = arrived-without by e h
  first-arrived (Parts.closes o waits) h = tt
  first-arrived (Parts.dies o) h = tt
  first-arrived (Parts.dies_silent o alive) h = tt
  first-arrived {e} (Parts.takes m sync level row vs next body found stays) h = arrived-left e h
  first-arrived {e} (Parts.drops m sync level row vs id replies next body found gone is) h = arrived-following replies (left_end e) (arrived-left e h)
  first-arrived {e} (Parts.drops_unknown m sync level vs next body found) h = arrived-left e h
  first-arrived {e} (Parts.takes_reply m sync level a next body settles) h = arrived-left e h
  first-arrived {e} (Parts.settles m sync level row a next body found is) h = arrived-left e h
  first-arrived (Parts.shuts last next is) h = tt
  first-arrived {e} (Parts.returns entry row vs told lost is t l) h = arrived-following lost (end_after told (record e { stack = drop 1 e.stack })) (arrived-following told (record e { stack = drop 1 e.stack }) h)
  first-arrived (Parts.resumes wait row on_top found) h = h

  later-arrived : {p q : Phase} {e f : End} {ws : List What} {ps : List Packet} → LaterPart p e ws ps f q → AllByRecursion P e.arrived → AllByRecursion P f.arrived
  later-arrived (Parts.unnames name may silent) h = h
  later-arrived (Parts.lets_go name r may is o) h = h
  later-arrived (Parts.names more a) h = h
  later-arrived (Parts.releases seq closed) h = h
  later-arrived (Parts.keeps seq name r is goes) h = h
  later-arrived (Parts.builds id protocol rest fresh built) h = h
  later-arrived (Parts.deletes id cause) h = h
  later-arrived (Parts.falls why cause) h = h

  laters-arrived : {p q : Phase} {e f : End} {ws : List What} {ps : List Packet} → LaterParts p e ws ps f q → AllByRecursion P e.arrived → AllByRecursion P f.arrived
  laters-arrived Parts.done h = h
  laters-arrived (Parts.then part rest) h = laters-arrived rest (later-arrived part h)

  -- nothing arrives in an end's own step
  pub own-arrived : {schema : Schema} {e f : End} {ws : List What} {ps : List Packet} {q : Phase} → OwnParts schema e ws ps f q → AllByRecursion P e.arrived → AllByRecursion P f.arrived
  own-arrived (Parts.begun part rest ended) h = laters-arrived rest (first-arrived part h)

  arrived-counted : (row : MessageRow) (m : Message) (e : End) → P (delivery.item_of row m) → AllByRecursion P e.arrived → AllByRecursion P (delivery.counted row (delivery.item_of row m) e).arrived
  arrived-counted row m e new h =
      all-append P (staying row.compress (delivery.item_of row m) e.arrived) (delivery.item_of row m ∷ []) (all-sublist P (staying row.compress (delivery.item_of row m) e.arrived) e.arrived (staying-sublist row.compress (delivery.item_of row m) e.arrived) h) (new, tt)

  -- in a delivery the packet may arrive
  pub delivery-arrived : {schema : Schema} {packet : Packet} {e f : End} {ws : List What} {ps : List Packet} {q : Phase} → DeliveryPart schema packet e ws ps f q → ((m : Message) (row : MessageRow) → packet ≡ message m → P (delivery.item_of row m)) → P (farewell_item packet)
      → AllByRecursion P e.arrived → AllByRecursion P f.arrived
  delivery-arrived {e} (Parts.gets_request m row vs body found none) new last h = arrived-counted row m e (new m row refl) h
  delivery-arrived {e} (Parts.replaces m row vs old sync level replies body found rep is) new last h = arrived-following replies (delivery.counted row (delivery.item_of row m) e) (arrived-counted row m e (new m row refl) h)
  delivery-arrived (Parts.gets_answer m row a body found sync) new last h = h
  delivery-arrived {e} (Parts.gets_reply m row a body found sync) new last h = all-append P e.arrived (delivery.item_of row m ∷ []) h (new m row refl, tt)
  delivery-arrived {packet} {e} (Parts.drains _ is) new last h = all-append P e.arrived (farewell_item packet ∷ []) h (last, tt)
  delivery-arrived (Parts.passes_by m other found) new last h = h

-- Requests are read as their messages are

module _ (schema : Schema) where
  wants-said : (sent : List SentPacket) (t : SentPacket) → told.request_in t ≡ None → HaveWantsOfRows schema sent → HaveWantsOfRows schema (sent ++ t ∷ [])
  wants-said sent t none h = subst (AllByRecursion (HasWantsOfRow schema)) (sym (requests-append sent (t ∷ []))) (all-append (HasWantsOfRow schema) (requests_of sent) (requests_of (t ∷ [])) h (by t none))
    where
      by : (t : SentPacket) → told.request_in t ≡ None → AllByRecursion (HasWantsOfRow schema) (requests_of (t ∷ []))
      by (told.request r) e = cc
      by (told.said n content) e = tt
      by told.goodbye e = tt
      by told.broken e = tt

  wants-asked : (sent : List SentPacket) (r : told.Request) → HasWantsOfRow schema r → HaveWantsOfRows schema sent → HaveWantsOfRows schema (sent ++ told.request r ∷ [])
  wants-asked sent r is h = subst (AllByRecursion (HasWantsOfRow schema)) (sym (requests-append sent (told.request r ∷ []))) (all-append (HasWantsOfRow schema) (requests_of sent) (r ∷ []) h (is, tt))

  wants-replying : (n : ℤ) (own : EndReading) → HaveWantsOfRows schema own.sent → HaveWantsOfRows schema (reads.replying n own).sent
  wants-replying n own h = by (is_sync_request own n)
    where
      by : (b : Bool) → HaveWantsOfRows schema (if b then reads.answering n (reads.delivering (seen.Reply n) own) else reads.arriving (seen.Reply n) own).sent
      by true = h
      by false = h

  wants-dying : (own : EndReading) → HaveWantsOfRows schema own.sent → HaveWantsOfRows schema (reads.dying own).sent
  wants-dying own h = by own.ended
    where
      by : (b : Bool) → HaveWantsOfRows schema (if b then own.sent else own.sent ++ told.broken ∷ [])
      by true = h
      by false = wants-said own.sent told.broken refl h

  wants-one : (place : ℕ) (w : What) (own : EndReading) → HaveWantsOfRows schema own.sent → HaveWantsOfRows schema (after_what schema place w own).sent
  wants-one place (what.Send n route number vs) own h = wants-asked own.sent (request_after schema n (pos 0) route number vs own) refl h
  wants-one place (what.Call n transaction route number vs) own h = wants-asked own.sent (request_after schema n transaction route number vs own) refl h
  wants-one place (what.Resolve n vs) own h = wants-said own.sent (told.said n (told.resolved vs)) refl h
  wants-one place (what.Reject n) own h = wants-said own.sent (told.said n told.rejected) refl h
  wants-one place (what.AnswerOk n vs) own h = wants-said own.sent (told.said n (told.ok vs)) refl h
  wants-one place (what.AnswerFault n reason) own h = wants-said own.sent (told.said n (told.fault reason)) refl h
  wants-one place what.Close own h = wants-said own.sent told.goodbye refl h
  wants-one place what.Die own h = wants-dying own h
  wants-one place (what.DeliverReply n) own h = wants-replying n own h
  wants-one place _ own h = h

  wants-following : (place : ℕ) (ws : List What) (own : EndReading) → HaveWantsOfRows schema own.sent → HaveWantsOfRows schema (after_whats schema place ws own).sent
  wants-following place [] own h = h
  wants-following place (w ∷ ws) own h = wants-following (place + 1) ws (after_what schema place w own) (wants-one place w own h)

  -- Both ends

  -- the first packet on a link is noted
  pub noted-coming : (theirs : End) (others own : EndReading) (packet : Packet) (rest : List Packet) → LinkAccount schema theirs others own (packet ∷ rest) → In (packet_note schema packet) (told_notes theirs.side others.sent)
  noted-coming theirs others own packet rest c = subst (In (packet_note schema packet)) (sym c.sent.whole) (in-before _ (in-following c.got here))

  item-grows : (sent more : List Note) (x : Item) → ItemIsNoted schema sent x → ItemIsNoted schema (sent ++ more) x
  item-grows sent more (item.Message m sync level) h = in-before more h
  item-grows sent more item.Broken h = tt

  farewell-noted : (sent : List Note) (packet : Packet) → In (packet_note schema packet) sent → ItemIsNoted schema sent (farewell_item packet)
  farewell-noted sent (message m) h = h
  farewell-noted sent mark h = tt

  mine-noted : {ev : Event} {ws : List What} {ps : List Packet} {next : End} {q : Phase} (mine : End) (to_me : List Packet) (sent : List Note) → StepParts schema mine to_me ev ws ps next q → ((packet : Packet) → first_packet to_me ≡ Some packet → is_open mine.state ≡ true → In (packet_note schema packet) sent)
      → ArrivalsAreNoted schema sent mine → ArrivalsAreNoted schema sent next
  mine-noted mine to_me sent (acts link parts) coming h = own-arrived (ItemIsNoted schema sent) parts h
  mine-noted mine to_me sent (delivers packet first o part) coming h =
      delivery-arrived (ItemIsNoted schema sent) part (λ k row packet_is. subst (λ (p : Packet). In (packet_note schema p) sent) packet_is (coming packet first o)) (farewell-noted sent packet (coming packet first o)) h

  -- what is kept across both ends

  grown-noted : (side : Side) (own : EndReading) (theirs : End) (others : EndReading) (place : ℕ) (ws : List What) → IsNoted schema side own theirs others → IsNoted schema side (after_whats schema place ws own) theirs others
  grown-noted side own theirs others place ws h =
      let g = grows schema place ws own in
      record {
        arrived = subst (λ (sent : List Note). ArrivalsAreNoted schema sent theirs) (sym (ap (told_notes side) g.1 ∙ map-append (told_note side) own.sent g.0))
            (all-map (ItemIsNoted schema (told_notes side own.sent)) (ItemIsNoted schema (told_notes side own.sent ++ told_notes side g.0)) theirs.arrived (item-grows (told_notes side own.sent) (told_notes side g.0)) h.arrived);
        wants = h.wants;
      }

  pub noted-following : (move : Move) (w : World) (r : Reading) (output : Output) → RunMove schema move w r output → AcrossEnds schema (IsNoted schema) w r → AcrossEnds schema (IsNoted schema) (world_after move output w) (read_from schema r output.lines)
  noted-following move w r output m k =
      let side : Side = move.side in
      let both = across-ends schema (IsNoted schema) side w r k in
      let sent_by : (end_of (other side) w).side ≡ other side = end-side schema (other side) w m.nested in
      across-keep schema (IsNoted schema) side move.event w r output m.nested m.ends
      (record {
        arrived = mine-noted (end_of side w) (link_to side w) (told_notes (other side) (other_of side r).sent) m.ends.parts
            (λ packet first o. subst (λ (s : Side). In (packet_note schema packet) (told_notes s (other_of side r).sent)) sent_by (noted-coming (end_of (other side) w) (other_of side r) (end_reading_of side r) packet (drop 1 (link_to side w)) (m.ends.arrives packet first o).account)) both.0.arrived;
        wants = wants-following r.lines m.ends.whats (end_reading_of side r) both.0.wants;
      })
      (grown-noted side (end_reading_of side r) (end_of (other side) w) (other_of side r) r.lines m.ends.whats both.1)
