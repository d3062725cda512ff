-- Each step of one end keeps what a run of it keeps.
use Rattle.std.proofs.Common.{◌≡◌, inl, inr, ℕ, ◌+◌, ℤ, pos, Bool, true, false, ◌&&◌, ◌||◌, cond, if◌then◌else◌, int_eq, List, [], ◌∷◌, ◌++◌, filter_map, map, Option, Some, None, refl, sym, ap, subst, append_assoc, ◌∙◌}
use Rattle.std.specs.List.{AllByRecursion, cons_option}
use Rattle.std.specs.Option.{option_map_or}
use Rattle.std.proofs.lemmas.Bool.{false≢true}
use Rattle.std.proofs.lemmas.Bool.Decides.{Decides-int_eq}
use Rattle.std.proofs.lemmas.List.{append-nil, map-append}
use Rattle.std.proofs.lemmas.List.Elements.{filter_map-append}
use Rattle.std.proofs.lemmas.Option.{same_Some}
use Rattle.ipdl_base.specs.declared.kinds.EndState.TheVariants as state
use Rattle.ipdl_base.specs.declared.kinds.Side.{Side}
use Rattle.ipdl_base.specs.declared.kinds.Side.TheVariants.{Parent, Child}
use Rattle.ipdl_base.specs.declared.line.Line.{Line}
use Rattle.ipdl_base.specs.declared.line.What.{What}
use Rattle.ipdl_base.specs.declared.line.What.TheVariants as what
use Rattle.ipdl_base.specs.declared.message.Body.{Body}
use Rattle.ipdl_base.specs.declared.message.Body.TheVariants as bodies
use Rattle.ipdl_base.specs.declared.message.Message.{Message}
use Rattle.ipdl_base.specs.declared.schema.MessageRow.{MessageRow}
use Rattle.ipdl_base.specs.declared.schema.Schema.{Schema}
use Rattle.ipdl_base.specs.declared.value.Values.{Values}
use Rattle.ipdl_base.specs.Sound.{IsSound, message_of}
use Rattle.nesting_core.specs.declared.frame.Answer.{Answer}
use Rattle.nesting_core.specs.declared.frame.Answer.TheVariants as answer
use Rattle.value_types.specs.Fits.{FitsBody}
use Rattle.channel_model.specs.Deliveries as delivery
use Rattle.channel_model.specs.Ends.{End, Packet, message, mark, opening_end}
use Rattle.channel_model.specs.Events.{Event}
use Rattle.channel_model.specs.Events as event
use Rattle.channel_model.specs.Fitting.{FitsPacket}
use Rattle.channel_model.specs.Numbers.{is_sync_row}
use Rattle.channel_model.specs.Outputs.{Output, body_of, is_open, line_at}
use Rattle.channel_model.specs.Parts as parts
use Rattle.channel_model.specs.Parts.{DeliveryPart, FirstPart, LaterParts, OwnParts, farewell_item, farewell_line}
use Rattle.channel_model.specs.Phases.{Phase}
use Rattle.channel_model.specs.Refusals.{packet_refusal}
use Rattle.channel_model.specs.Sends as send
use Rattle.channel_model.specs.States.{is_farewell, is_goodbye}
use Rattle.channel_model.specs.StepLaws.{IsMadeOf, IsStepOfParts}
use Rattle.channel_model.specs.Steps.{first_packet, step}
use Rattle.channel_model.specs.Takes as take
use Rattle.channel_model.proofs.Events.{events_have_their_lines}
use Rattle.channel_model.proofs.Known.{all-append}
use Rattle.channel_model.proofs.StepParts.{steps_are_made_of_parts}
use Rattle.history_reading.specs.EndReading.{EndReading, is_sync_request, opening}
use Rattle.history_reading.specs.Numbers.{has}
use Rattle.history_reading.specs.Reading as reads
use Rattle.history_reading.specs.Reading.{Reading, end_reading_of, other_of, read}
use Rattle.history_reading.specs.SentPacket as told
use Rattle.history_reading.specs.SentPacket.{SentPacket}
use Rattle.channel_laws.specs.ActorLaws.{StepObeysFallen}
use Rattle.channel_laws.specs.Arrivals.{IsDue, IsDueMessage}
use Rattle.channel_laws.specs.Delivered.{delivered_by_lines, delivered_kind}
use Rattle.channel_laws.specs.EndActors.{HasNextId, ReadsActors}
use Rattle.channel_laws.specs.Exchanges.{ReadsExchanges}
use Rattle.channel_laws.specs.Notes.{In, Note, RequestNote, asks, here, notes, packet_note, request_note, there, told_note, told_notes}
use Rattle.channel_laws.specs.Origins.{HasOrigins, IsRequested, PacketReplies}
use Rattle.channel_laws.specs.Outlines.{HasOutline, outline}
use Rattle.channel_laws.specs.Replies.{ReadsReplies}
use Rattle.channel_laws.specs.Rows.{HasSoundRows}
use Rattle.channel_laws.specs.SentAccounts.{EndAccount}
use Rattle.channel_laws.specs.Tested.{after_whats}
use Rattle.channel_laws.proofs.Counting.{int-same}
use Rattle.channel_laws.proofs.Delivered.{delivery-delivers, own-delivers-none}
use Rattle.channel_laws.proofs.Exchanges.{ends_read_exchanges}
use Rattle.channel_laws.proofs.FallenRuns.{ends_obey_fallen}
use Rattle.channel_laws.proofs.Growing.{delivered-are, grows, in-before, in-following, origins-grow, whats-append}
use Rattle.channel_laws.proofs.Moves.{StepParts, acts, delivers}
use Rattle.channel_laws.proofs.Outlines.{RepliesFit}
use Rattle.channel_laws.proofs.RepliesKept.{replies-step}
use Rattle.channel_laws.proofs.Rows.{sound_schemas_have_sound_rows}
use Rattle.channel_laws.proofs.SettledMoments.{step-settles}
use Rattle.channel_laws.proofs.Standing.{has-append}
use Rattle.channel_laws.proofs.TwoEnds.{EndKeeps, delivery-keeps, own-keeps, replies-fit}
use Rattle.law_statements.specs.Packets.{failed, number_failed}
use Rattle.law_statements.specs.Said.{said_by}
use Rattle.law_statements.proofs.Fields.{failed-read}
use Rattle.alone_laws.specs.KeptAlone.{KeepsAlone, KeepsRead, WasBuilt}
use Rattle.alone_laws.specs.KeptReplies.{KeepsReplies}
use Rattle.alone_laws.proofs.AcceptedReplies.{accepted-awaits, accepted-due, accepted-origin, accepted-replies}
use Rattle.alone_laws.proofs.AloneLines.{others-more, own-more, said-more}
use Rattle.alone_laws.proofs.LivingActors.{delivery-built, own-built}
use Rattle.alone_laws.proofs.RepliesKept.{SendIsNoted, delivery-replies, first-replies, laters-replies, more-failed, more-noted}

-- Lines of one side are their contents

pub whats-same : (side : Side) (xs ys : List What) → map (line_at side) xs ≡ map (line_at side) ys → xs ≡ ys
whats-same side [] [] e = refl
whats-same side [] (y ∷ ys) e = cc
whats-same side (x ∷ xs) [] e = cc
whats-same side (x ∷ xs) (y ∷ ys) e =
    let first : line_at side x ≡ line_at side y = cc in
    let rest : map (line_at side) xs ≡ map (line_at side) ys = cc in
    ap (λ (w : What). w ∷ xs) (ap (λ (l : Line). l.what) first) ∙ ap (λ (ws : List What). y ∷ ws) (whats-same side xs ys rest)

-- What has failed

or-left : (b c : Bool) → b ≡ true → b || c ≡ true
or-left true c e = refl
or-left false c e = cc

or-following : (b c : Bool) → c ≡ true → b || c ≡ true
or-following true c e = refl
or-following false c e = e

has-here : (n : ℤ) (ns : List ℤ) → In n ns → has ns n ≡ true
has-here n _ (here {xs}) = ap (λ (b : Bool). b || has xs n) (int-same n)
has-here n _ (there {y} {xs} i) = or-following (int_eq y n) (has xs n) (has-here n xs i)

failed-all : (ns : List ℤ) → filter_map number_failed (map what.Fails ns) ≡ ns
failed-all [] = refl
failed-all (n ∷ ns) = ap (λ (xs : List ℤ). n ∷ xs) (failed-all ns)

module _ (schema : Schema) (side : Side) (lines : List Line) (ws : List What) where
  abbrev own : EndReading
  own = end_reading_of side (read schema lines)

  abbrev next : EndReading
  next = end_reading_of side (read schema (lines ++ map (line_at side) ws))

  failed-more : next.failed ≡ own.failed ++ failed ws
  failed-more =
      failed-read schema side (lines ++ map (line_at side) ws)
      ∙ (ap failed (said-more side lines ws) ∙ (filter_map-append number_failed (said_by side lines) ws ∙ ap (λ (xs : List ℤ). xs ++ failed ws) (sym (failed-read schema side lines))))

  failed-stays : (n : ℤ) → has own.failed n ≡ true → has next.failed n ≡ true
  failed-stays n h = ap (λ (xs : List ℤ). has xs n) failed-more ∙ (has-append own.failed (failed ws) n ∙ or-left (has own.failed n) (has (failed ws) n) h)

  failed-said : (n : ℤ) → has (failed ws) n ≡ true → has next.failed n ≡ true
  failed-said n h = ap (λ (xs : List ℤ). has xs n) failed-more ∙ (has-append own.failed (failed ws) n ∙ or-following (has own.failed n) (has (failed ws) n) h)

-- the calls that a farewell fails
farewell-fails : (packet : Packet) (ns : List ℤ) (n : ℤ) → In n ns → has (failed (farewell_line packet ∷ map what.Fails ns)) n ≡ true
farewell-fails packet ns n i = by packet
  where
    all : has (filter_map number_failed (map what.Fails ns)) n ≡ true
    all = ap (λ (xs : List ℤ). has xs n) (failed-all ns) ∙ has-here n ns i

    by : (packet : Packet) → has (filter_map number_failed (farewell_line packet ∷ map what.Fails ns)) n ≡ true
    by (message m) = all
    by mark = all

-- A request that lines send is noted

last-noted : (side : Side) (sent : List SentPacket) (r : told.Request) → In (asks (request_note side r)) (told_notes side (sent ++ told.request r ∷ []))
last-noted side sent r = subst (In (asks (request_note side r))) (sym (map-append (told_note side) sent (told.request r ∷ []))) (in-following (told_notes side sent) here)

send-noted : (schema : Schema) (place : ℕ) (side : Side) (own : EndReading) (row : MessageRow) (m : Message) (vs : Values) → IsRequested (told_notes side (reads.after_what schema place (send.send_line row m vs) own).sent) m.seq m.route m.number
send-noted schema place side own row m vs = by (is_sync_row row)
  where
    by : (b : Bool) → IsRequested (told_notes side (reads.after_what schema place (if b then what.Call m.seq m.transaction m.route m.number vs else what.Send m.seq m.route m.number vs) own).sent) m.seq m.route m.number
    by true = record { request = request_note side (reads.request_after schema m.seq m.transaction m.route m.number vs own); sent_it = last-noted side own.sent (reads.request_after schema m.seq m.transaction m.route m.number vs own); seq_is = refl; route_is = refl; number_is = refl }
    by false = record { request = request_note side (reads.request_after schema m.seq (pos 0) m.route m.number vs own); sent_it = last-noted side own.sent (reads.request_after schema m.seq (pos 0) m.route m.number vs own); seq_is = refl; route_is = refl; number_is = refl }

lines-noted : (schema : Schema) (place : ℕ) (side : Side) (own : EndReading) (ws : List What) → SendIsNoted schema (notes schema []) [] [] (told_notes side (after_whats schema place ws own).sent) ws
lines-noted schema place side own ws row m vs is = subst (λ (xs : List What). IsRequested (told_notes side (after_whats schema place xs own).sent) m.seq m.route m.number) (sym is) (send-noted schema place side own row m vs)

told-more : (schema : Schema) (place : ℕ) (side : Side) (own : EndReading) (ws : List What) → (more : List Note) × (told_notes side (after_whats schema place ws own).sent ≡ told_notes side own.sent ++ more)
told-more schema place side own ws = let g = grows schema place ws own in (told_notes side g.0, ap (told_notes side) g.1 ∙ map-append (told_note side) own.sent g.0)

-- no request and no reply is a farewell

no-farewell : (b body : Body) → body ≡ b → is_goodbye b ≡ false → is_goodbye body ≡ true → ⊥
no-farewell b body is none far = false≢true (sym none ∙ (ap is_goodbye (sym is) ∙ far))

reply-ordinary : (a : Answer) → is_goodbye (body_of a) ≡ false
reply-ordinary (answer.Ok vs) = refl
reply-ordinary (answer.Fault why) = refl

-- A step of the end's own

pub own-made : (schema : Schema) (e : End) (own : Event) (output : Output) → IsStepOfParts schema e [] own output → IsMadeOf (OwnParts schema e) e.side output
own-made schema e event.deliver output (packet, first, opened, m) = cc
own-made schema e (event.send route number vs name) output m = m
own-made schema e (event.answer by vs) output m = m
own-made schema e (event.keep seq name) output m = m
own-made schema e (event.name name id) output m = m
own-made schema e event.close output m = m
own-made schema e event.die output m = m
own-made schema e event.take output m = m
own-made schema e (event.return vs) output m = m
own-made schema e event.resume output m = m
own-made schema e event.flush output m = m

module _ (schema : Schema) (sound : IsSound schema) (packets : List Packet) (e : End) (place : ℕ) (own : EndReading) (k : KeepsRead schema packets e own) where
  rows : HasSoundRows schema
  rows = sound_schemas_have_sound_rows schema sound

  -- the replies that the parts of a step keep
  own-replies : (side : Side) {f : End} {ws : List What} {ps : List Packet} {q : Phase} → OwnParts schema e ws ps f q → e.side ≡ side → f.side ≡ e.side → ((n : ℤ) → has own.failed n ≡ true → has (after_whats schema place ws own).failed n ≡ true)
      → KeepsReplies f packets (after_whats schema place ws own).failed (told_notes f.side (after_whats schema place ws own).sent)
  own-replies side {f = g} (parts.begun {f = f} {ws = ws} {vs = vs} part rest ended) is same stays =
      let at = whats-append schema place ws vs own in
      let mid : EndReading = after_whats schema place ws own in
      let last : EndReading = after_whats schema at.0 vs mid in
      let a = told-more schema place e.side own ws in
      let b = told-more schema at.0 e.side mid vs in
      let noted : KeepsReplies e packets own.failed (told_notes e.side mid.sent) = subst (KeepsReplies e packets own.failed) (sym a.1) (more-noted e packets own.failed (told_notes e.side own.sent) a.0 k.replies) in
      let first : KeepsReplies f packets own.failed (told_notes e.side mid.sent) = first-replies schema (notes schema packets) packets own.failed (told_notes e.side mid.sent) part k.origins (lines-noted schema place e.side own ws) noted in
      let whole : KeepsReplies g packets own.failed (told_notes e.side mid.sent) = laters-replies schema (notes schema packets) packets own.failed (told_notes e.side mid.sent) rest first in
      let more : KeepsReplies g packets own.failed (told_notes e.side last.sent) = subst (KeepsReplies g packets own.failed) (sym b.1) (more-noted g packets own.failed (told_notes e.side mid.sent) b.0 whole) in
      subst (λ (s : Side). KeepsReplies g packets (after_whats schema place (ws ++ vs) own).failed (told_notes s (after_whats schema place (ws ++ vs) own).sent)) (sym same)
      (more-failed g packets own.failed (after_whats schema place (ws ++ vs) own).failed (told_notes e.side (after_whats schema place (ws ++ vs) own).sent) stays
      (subst (λ (x : EndReading). KeepsReplies g packets own.failed (told_notes e.side x.sent)) (sym at.1) more))

  pub own-read : (link_event : Event) (output : Output) (ws : List What) (q : Phase) → step schema e [] link_event ≡ Some output → OwnParts schema e ws output.packets output.end q → output.lines ≡ map (line_at e.side) ws
      → ((n : ℤ) → has own.failed n ≡ true → has (after_whats schema place ws own).failed n ≡ true) → KeepsRead schema packets output.end (after_whats schema place ws own)
  own-read ev output ws q is made lines stays =
      let same : output.end.side ≡ e.side = (events_have_their_lines schema e [] ev output is).side in
      let fallen : StepObeysFallen schema place own e output = ends_obey_fallen.step schema sound e [] ev output place own is tt k.actors in
      let actors : ReadsActors schema output.end (after_whats schema place ws own) = subst (λ (xs : List What). ReadsActors schema output.end (after_whats schema place xs own)) (whats-same e.side fallen.whats ws (sym fallen.lines ∙ lines)) fallen.reads in
      let step_parts : StepParts schema e [] event.flush ws output.packets output.end q = acts refl made in
      let kept = own-keeps schema rows (notes schema packets) place own k.left made (record { outlined = k.outlined; origins = k.origins; sent = k.account }) in
      record {
        actors = actors;
        exchanges = ends_read_exchanges.acts schema place own made k.exchanges;
        outlined = kept.0.outlined;
        origins = kept.0.origins;
        left = k.left ++ notes schema output.packets;
        account = kept.0.sent;
        replied = replies-step schema place e own [] step_parts same (λ packet first o. absurd (no-first packet first)) k.replied;
        over = step-settles schema rows place e own [] step_parts k.actors k.outlined actors.state k.over;
        replies = own-replies e.side made refl same stays;
        delivered = delivered-are schema place ws own ∙ (ap (λ (xs : _). own.delivered ++ xs) (own-delivers-none made) ∙ (append-nil own.delivered ∙ k.delivered));
        fits = k.fits;
      }
    where
      no-first : (packet : Packet) → first_packet [] ≡ Some packet → ⊥
      no-first packet e = cc

  -- A delivery

  due-of : (packet : Packet) → FitsPacket schema packet → packet_refusal schema e packet ≡ None → IsDue schema e own packet
  due-of mark fits accepted = tt
  due-of (message m) fits accepted = by m.body refl
    where
      by : (b : Body) → m.body ≡ b → IsDueMessage schema e own m m.body
      by (bodies.Request vs) is = let f = subst (FitsBody schema m) is fits in ends_read_exchanges.accepts schema e own k.exchanges m f.0 f.1.found accepted
      by (bodies.Reply vs) is = let f = subst (FitsBody schema m) is fits in ends_read_exchanges.accepts schema e own k.exchanges m f.0 f.1.found accepted
      by (bodies.Fault why) is = let f = subst (FitsBody schema m) is fits in ends_read_exchanges.accepts schema e own k.exchanges m f.0 f.1.found accepted
      by bodies.Goodbye is = subst (IsDueMessage schema e own m) (sym is) tt

  open-takes : is_open e.state ≡ true → take.takes_in_state e.state ≡ true
  open-takes o = by e.state o
    where
      by : (s : _) → is_open s ≡ true → take.takes_in_state s ≡ true
      by state.Open o = refl
      by state.Draining o = cc
      by state.Closed o = cc
      by state.Dead o = cc

  pub delivery-read : (packet : Packet) (output : Output) (ws : List What) (q : Phase) → FitsPacket schema packet → packet_refusal schema e packet ≡ None → step schema e (packet ∷ []) event.deliver ≡ Some output → is_open e.state ≡ true → DeliveryPart schema packet e ws output.packets output.end q
      → output.lines ≡ map (line_at e.side) ws → ((n : ℤ) → has own.failed n ≡ true → has (after_whats schema place ws own).failed n ≡ true) → ((n : ℤ) → has (failed ws) n ≡ true → has (after_whats schema place ws own).failed n ≡ true)
      → KeepsRead schema (packets ++ packet ∷ []) output.end (after_whats schema place ws own)
  delivery-read packet output ws q fits accepted is o part lines stays said =
      let same : output.end.side ≡ e.side = (events_have_their_lines schema e (packet ∷ []) event.deliver output is).side in
      let fallen : StepObeysFallen schema place own e output = ends_obey_fallen.step schema sound e (packet ∷ []) event.deliver output place own is (ends_obey_fallen.accepted schema e packet accepted) k.actors in
      let actors : ReadsActors schema output.end (after_whats schema place ws own) = subst (λ (xs : List What). ReadsActors schema output.end (after_whats schema place xs own)) (whats-same e.side fallen.whats ws (sym fallen.lines ∙ lines)) fallen.reads in
      let step_parts : StepParts schema e (packet ∷ []) event.deliver ws output.packets output.end q = delivers packet refl o part in
      let theirs : List Note = notes schema (packets ++ packet ∷ []) in
      let grown : HasOrigins schema theirs e = subst (λ (ns : List Note). HasOrigins schema ns e) (sym (map-append (packet_note schema) packets (packet ∷ []))) (origins-grow schema (notes schema packets) (notes schema (packet ∷ [])) e k.origins) in
      let replies_it : PacketReplies schema (told_notes e.side own.sent) packet = accepted-replies schema sound e own packets own.failed k.replies k.exchanges.promises k.exchanges.waits packet fits accepted in
      let fit : RepliesFit schema packet e own = replies-fit schema rows e own k.left theirs packet (packet ∷ []) refl o (accepted-awaits schema sound e own packets own.failed k.replies k.exchanges.promises k.exchanges.waits packet accepted) (accepted-origin schema packets packet fits) k.account replies_it in
      let kept = delivery-keeps schema rows theirs place own k.left part o fit (accepted-origin schema packets packet fits) (record { outlined = k.outlined; origins = grown; sent = k.account }) in
      let a = told-more schema place e.side own ws in
      record {
        actors = actors;
        exchanges = ends_read_exchanges.delivers schema place own part (due-of packet fits accepted) k.exchanges;
        outlined = kept.0.outlined;
        origins = kept.0.origins;
        left = k.left ++ notes schema output.packets;
        account = kept.0.sent;
        replied = replies-step schema place e own (packet ∷ []) step_parts same (λ p first op. subst (PacketReplies schema (told_notes e.side own.sent)) (same_Some packet p first) replies_it) k.replied;
        over = step-settles schema rows place e own (packet ∷ []) step_parts k.actors k.outlined actors.state k.over;
        replies = subst (λ (s : Side). KeepsReplies output.end (packets ++ packet ∷ []) (after_whats schema place ws own).failed (told_notes s (after_whats schema place ws own).sent)) (sym same)
            (subst (KeepsReplies output.end (packets ++ packet ∷ []) (after_whats schema place ws own).failed) (sym a.1)
            (more-noted output.end (packets ++ packet ∷ []) (after_whats schema place ws own).failed (told_notes e.side own.sent) a.0
            (delivery-replies schema packets own.failed (after_whats schema place ws own).failed (told_notes e.side own.sent) part (open-takes o) stays (fails-all part said)
            (accepted-due schema sound e own packets own.failed k.replies k.exchanges.promises k.exchanges.waits packet accepted fit.sync) fit.known k.replies)));
        delivered = delivered-are schema place ws own ∙ (ap (λ (xs : _). own.delivered ++ xs) (delivery-delivers part) ∙ (ap (λ (xs : _). xs ++ delivered_kind packet ∷ []) k.delivered ∙ sym (map-append delivered_kind packets (packet ∷ []))));
        fits = all-append (FitsPacket schema) packets (packet ∷ []) k.fits (fits, tt);
      }
    where
      fails-all : {p : Packet} {f : End} {xs : List What} {ps : List Packet} {r : Phase} → DeliveryPart schema p e xs ps f r → ((n : ℤ) → has (failed xs) n ≡ true → has (after_whats schema place ws own).failed n ≡ true)
          → (n : ℤ) → In n (delivery.unanswered e) → is_farewell (farewell_item p) ≡ true → has (after_whats schema place ws own).failed n ≡ true
      fails-all (parts.drains p ended) h n i far = h n (farewell-fails p (delivery.unanswered e) n i)
      fails-all (parts.gets_request m row vs body found none) h n i far = absurd (no-farewell (bodies.Request vs) m.body body refl far)
      fails-all (parts.replaces m row vs old sync level replies body found rep told_it) h n i far = absurd (no-farewell (bodies.Request vs) m.body body refl far)
      fails-all (parts.gets_answer m row a body found sync) h n i far = absurd (no-farewell (body_of a) m.body body (reply-ordinary a) far)
      fails-all (parts.gets_reply m row a body found sync) h n i far = absurd (no-farewell (body_of a) m.body body (reply-ordinary a) far)
      fails-all (parts.passes_by m ordinary none) h n i far = absurd (false≢true (sym ordinary ∙ far))

-- Runs

module _ (schema : Schema) (sound : IsSound schema) (top : ℕ) (side : Side) where
  abbrev Kept : End → List Line → List Packet → Type 0
  Kept e lines packets = KeepsAlone schema top side e lines packets

  -- the same with other lines that are equal
  same-lines : (e : End) (lines more : List Line) (packets : List Packet) → lines ≡ more → Kept e lines packets → Kept e more packets
  same-lines e lines more packets is k = subst (λ (ls : List Line). Kept e ls packets) is k

  pub own-keeps-alone : (e : End) (lines : List Line) (packets : List Packet) (own : Event) (output : Output) (ws : List What) (q : Phase) → Kept e lines packets → step schema e [] own ≡ Some output → OwnParts schema e ws output.packets output.end q → output.lines ≡ map (line_at e.side) ws → Kept output.end (lines ++ map (line_at side) ws) packets
  own-keeps-alone e lines packets own output ws q k is made said = record {
    side_is = (events_have_their_lines schema e [] own output is).side ∙ k.side_is;
    read_is = subst (KeepsRead schema packets output.end) (sym (own-more schema side lines ws))
        (own-read schema sound packets e (read schema lines).lines (end_reading_of side (read schema lines)) k.read_is own output ws q is made said
        (λ n h. ap (λ (x : EndReading). has x.failed n) (sym (own-more schema side lines ws)) ∙ failed-stays schema side lines ws n h));
    others = others-more schema side lines ws ∙ k.others;
    built = subst (λ (xs : List What). AllByRecursion (WasBuilt top xs) output.end.actors) (sym (said-more side lines ws))
        (own-built schema (sound_schemas_have_sound_rows schema sound) top (read schema lines).lines (end_reading_of side (read schema lines)) (said_by side lines) made k.read_is.actors k.built);
  }

  pub delivery-keeps-alone : (e : End) (lines : List Line) (packets : List Packet) (packet : Packet) (output : Output) (ws : List What) (q : Phase) → Kept e lines packets → FitsPacket schema packet → packet_refusal schema e packet ≡ None → step schema e (packet ∷ []) event.deliver ≡ Some output → is_open e.state ≡ true
      → DeliveryPart schema packet e ws output.packets output.end q → output.lines ≡ map (line_at e.side) ws → Kept output.end (lines ++ map (line_at side) ws) (packets ++ packet ∷ [])
  delivery-keeps-alone e lines packets packet output ws q k fits accepted is o part said = record {
    side_is = (events_have_their_lines schema e (packet ∷ []) event.deliver output is).side ∙ k.side_is;
    read_is = subst (KeepsRead schema (packets ++ packet ∷ []) output.end) (sym (own-more schema side lines ws))
        (delivery-read schema sound packets e (read schema lines).lines (end_reading_of side (read schema lines)) k.read_is packet output ws q fits accepted is o part said
        (λ n h. ap (λ (x : EndReading). has x.failed n) (sym (own-more schema side lines ws)) ∙ failed-stays schema side lines ws n h)
        (λ n h. ap (λ (x : EndReading). has x.failed n) (sym (own-more schema side lines ws)) ∙ failed-said schema side lines ws n h));
    others = others-more schema side lines ws ∙ k.others;
    built = subst (λ (xs : List What). AllByRecursion (WasBuilt top xs) output.end.actors) (sym (said-more side lines ws))
        (delivery-built schema top (read schema lines).lines (end_reading_of side (read schema lines)) (said_by side lines) packet part k.read_is.actors k.built);
  }
