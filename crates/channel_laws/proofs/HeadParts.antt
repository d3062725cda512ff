-- Each step keeps the heads of frames and of what has arrived.
use Rattle.std.proofs.Common.{◌≡◌, ℕ, ℤ, Bool, true, false, cond, List, [], ◌∷◌, ◌++◌, drop, map, Some, None, refl, sym, ap, subst, ◌∙◌}
use Rattle.std.specs.List.{AllByRecursion}
use Rattle.std.proofs.lemmas.List.{map-append}
use Rattle.ipdl_base.specs.declared.kinds.Level.TheVariants.{Not}
use Rattle.ipdl_base.specs.declared.kinds.Side.{Side}
use Rattle.ipdl_base.specs.declared.line.What.{What}
use Rattle.ipdl_base.specs.declared.message.Body.{Body}
use Rattle.ipdl_base.specs.declared.message.Body.TheVariants.{Request, Reply, Fault, Goodbye}
use Rattle.ipdl_base.specs.declared.message.Message.{Message}
use Rattle.ipdl_base.specs.declared.schema.MessageRow.{MessageRow}
use Rattle.ipdl_base.specs.declared.schema.Schema.{Schema}
use Rattle.ipdl_base.specs.declared.value.Values.{Values}
use Rattle.ipdl_base.specs.Sound.{IsSound, message_of}
use Rattle.nesting_core.specs.declared.frame.Answer.{Answer}
use Rattle.nesting_core.specs.declared.frame.Answer.TheVariants as answer
use Rattle.nesting_core.specs.declared.frame.StackFrame.{StackFrame}
use Rattle.nesting_core.specs.declared.frame.StackFrame.TheVariants.{Dispatch, Wait}
use Rattle.nesting_core.specs.Answers.{with_answer}
use Rattle.pending_queue.specs.declared.item.Item.TheVariants as item
use Rattle.pending_queue.specs.Compression.{staying}
use Rattle.pending_queue.specs.DeferralContext.{is_free, without_first}
use Rattle.history_reading.specs.EndReading.{EndReading}
use Rattle.history_reading.specs.Reading.{Reading, end_reading_of, other_of}
use Rattle.channel_model.specs.Answers as answering
use Rattle.channel_model.specs.Deliveries as delivery
use Rattle.channel_model.specs.Ends.{End, World, Packet, message, mark, StackEntry, end_of}
use Rattle.channel_model.specs.Events.{Answering, Event, handled, kept}
use Rattle.ipdl_base.specs.Sides.{other}
use Rattle.channel_model.specs.Numbers.{is_sync_row}
use Rattle.channel_model.specs.Outputs.{body_of}
use Rattle.channel_model.specs.Parts as parts
use Rattle.channel_model.specs.Parts.{FirstPart, LaterPart, LaterParts, OwnParts, DeliveryPart, end_after, farewell_item, left_end}
use Rattle.channel_model.specs.Phases.{Phase}
use Rattle.channel_model.specs.Sends as send
use Rattle.channel_model.specs.States.{is_farewell, is_goodbye}
use Rattle.channel_model.specs.Takes as take
use Rattle.channel_model.proofs.Known.{all-map, all-append}
use Rattle.channel_model.proofs.Sublists.{all-sublist, without_first-sublist, staying-sublist}
use Rattle.channel_model.proofs.FittingEnds.{all-drop}
use Rattle.channel_laws.specs.Heads.{FrameHead, EntryHead, BodyHead, ItemHead, HasHeads}
use Rattle.channel_laws.specs.NotedArrivals.{IsNoted, ItemIsNoted, ArrivalsAreNoted}
use Rattle.channel_laws.specs.Notes.{Note, told_note, told_notes, body_note, message_note, In}
use Rattle.channel_laws.specs.Tested.{after_whats}
use Rattle.channel_laws.proofs.GivenAnswers.{released-all, same-all}
use Rattle.channel_laws.proofs.Growing.{grows, in-before}
use Rattle.channel_laws.proofs.Moves.{StepParts, acts, delivers}
use Rattle.channel_laws.proofs.PrefixRuns.{all-taken}
use Rattle.channel_laws.proofs.Reached.{reached-has, all-pass, noted-reached}
use Rattle.channel_laws.proofs.Rows.{request-message}
use Rattle.channel_laws.proofs.Runs.{IsReached, EveryMoveKeeps, AcrossEnds, across-ends, across-keep, every-run}

module _ (schema : Schema) (sent : List Note) where
  -- stacks

  unresolved-head : (x : StackEntry) (f : StackFrame) → FrameHead schema sent x.number f → FrameHead schema sent x.number f
  unresolved-head x f h = h

  released-heads : (seq : ℤ) (es : List StackEntry) → AllByRecursion (EntryHead schema sent) es → AllByRecursion (EntryHead schema sent) (answering.released seq es)
  released-heads seq es h = released-all (λ x f. FrameHead schema sent x.number f) unresolved-head seq es h

  answered-heads : (a : Answer) (es : List StackEntry) → AllByRecursion (EntryHead schema sent) es → AllByRecursion (EntryHead schema sent) (delivery.with_frames (with_answer a (map (λ (x : StackEntry). x.frame) es)) es)
  answered-heads a [] h = tt
  answered-heads a (x ∷ xs) h = by x.frame h.0 (answered-heads a xs h.1)
    where
      frames : List StackFrame
      frames = map (λ (x : StackEntry). x.frame) xs

      by : (f : StackFrame) → FrameHead schema sent x.number f → AllByRecursion (EntryHead schema sent) (delivery.with_frames (with_answer a frames) xs) → AllByRecursion (EntryHead schema sent) (delivery.with_frames (with_answer a (f ∷ frames)) (x ∷ xs))
      by (Dispatch head) o rec = (o, rec)
      by (Wait head None) o rec = (o, same-all (EntryHead schema sent) xs h.1)
      by (Wait head (Some b)) o rec = (o, rec)

  failed-heads : (es : List StackEntry) → AllByRecursion (EntryHead schema sent) es → AllByRecursion (EntryHead schema sent) (map delivery.with_failed_wait es)
  failed-heads [] h = tt
  failed-heads (x ∷ xs) h = (by x.frame h.0, failed-heads xs h.1)
    where
      by : (f : StackFrame) → FrameHead schema sent x.number f → FrameHead schema sent x.number (delivery.failed f)
      by (Dispatch head) o = o
      by (Wait head None) o = o
      by (Wait head (Some a)) o = o

  following-heads : (b : Bool) (e : End) → HasHeads schema sent e → HasHeads schema sent (end_after b e)
  following-heads true e k = record { entries = k.entries; arrived = k.arrived }
  following-heads false e k = k

  left-heads : (e : End) → HasHeads schema sent e → HasHeads schema sent (left_end e)
  left-heads e k = record { entries = k.entries; arrived = all-sublist (ItemHead schema) (without_first (is_free (take.deferral_context_of e)) e.arrived) e.arrived (without_first-sublist (is_free (take.deferral_context_of e)) e.arrived) k.arrived }

  popped-heads : (e : End) → HasHeads schema sent e → HasHeads schema sent (record e { stack = drop 1 e.stack })
  popped-heads e k = record { entries = all-drop (EntryHead schema sent) e.stack k.entries; arrived = k.arrived }

  -- parts

  first-heads : {q : Phase} {e f : End} {ws : List What} {ps : List Packet} → FirstPart schema e ws ps f q → ArrivalsAreNoted schema sent e → HasHeads schema sent e → HasHeads schema sent f
  first-heads (parts.refuses w q) noted k = k
  first-heads (parts.renames w q) noted k = k
  first-heads (parts.flushes o) noted k = record { entries = k.entries; arrived = k.arrived }
  first-heads {e} (parts.sends row route vs name is) noted k = by (is_sync_row row) refl
    where
      by : (sync : Bool) → is_sync_row row ≡ sync → HasHeads schema sent (record (parts.sent_end row (send.request_of e row route vs) e) { stack = cond sync (send.wait_for row (send.request_of e row route vs) ∷ e.stack) e.stack })
      by true sync = record { entries = (record { row = row; found = request-message schema row.number row is.found; sync_is = sym sync; level_is = refl }, k.entries); arrived = k.arrived }
      by false sync = record { entries = k.entries; arrived = k.arrived }
  first-heads {e} (parts.answers by vs r row found may ok used) noted k = at by
    where
      at : (by : Answering) → HasHeads schema sent (record (answering.without_resolver by e) { outbox = [] })
      at (handled seq) = record { entries = released-heads seq e.stack k.entries; arrived = k.arrived }
      at (kept name number) = record { entries = k.entries; arrived = k.arrived }
  first-heads (parts.closes o waits) noted k = record { entries = k.entries; arrived = tt }
  first-heads (parts.dies o) noted k = record { entries = tt; arrived = tt }
  first-heads (parts.dies_silent o alive) noted k = record { entries = tt; arrived = tt }
  first-heads {e} (parts.takes m sync level row vs next body found stays) noted k =
      let l : HasHeads schema sent (left_end e) = left-heads e k in
      let i : In (body_note schema m m.body) sent = all-taken (ItemIsNoted schema sent) e (item.Message m sync level) next noted in
      record {
        entries = ((record { row = row; found = found; sync_is = refl; level_is = refl }, record { request = message_note schema m vs; sent_it = subst (λ (b : Body). In (body_note schema m b) sent) body i; seq_is = refl; transaction_is = refl; number_is = refl }), l.entries);
        arrived = l.arrived;
      }
  first-heads {e} (parts.drops m sync level row vs id replies next body found gone is) noted k = following-heads replies (left_end e) (left-heads e k)
  first-heads {e} (parts.drops_unknown m sync level vs next body none) noted k = left-heads e k
  first-heads {e} (parts.takes_reply m sync level a next body late) noted k = left-heads e k
  first-heads {e} (parts.settles m sync level row a next body found is) noted k = let l : HasHeads schema sent (left_end e) = left-heads e k in record { entries = l.entries; arrived = l.arrived }
  first-heads (parts.shuts last next is) noted k = record { entries = k.entries; arrived = tt }
  first-heads {e} (parts.returns entry row vs told lost on_top t l) noted k =
      following-heads lost (end_after told (record e { stack = drop 1 e.stack })) (following-heads told (record e { stack = drop 1 e.stack }) (popped-heads e k))
  first-heads {e} (parts.resumes wait row on_top found) noted k = popped-heads e k

  later-heads : {p q : Phase} {e f : End} {ws : List What} {ps : List Packet} → LaterPart p e ws ps f q → HasHeads schema sent e → HasHeads schema sent f
  later-heads (parts.unnames name now silent) k = record { entries = k.entries; arrived = k.arrived }
  later-heads (parts.lets_go name r now is o) k = record { entries = k.entries; arrived = k.arrived }
  later-heads (parts.names more a) k = record { entries = k.entries; arrived = k.arrived }
  later-heads {e} (parts.releases seq closed) k = record { entries = released-heads seq e.stack k.entries; arrived = k.arrived }
  later-heads {e} (parts.keeps seq name r is open_end) k = record { entries = released-heads seq e.stack k.entries; arrived = k.arrived }
  later-heads (parts.builds id protocol rest fresh alive) k = record { entries = k.entries; arrived = k.arrived }
  later-heads (parts.deletes id cause) k = record { entries = k.entries; arrived = k.arrived }
  later-heads (parts.falls why cause) k = record { entries = k.entries; arrived = k.arrived }

  laters-heads : {p q : Phase} {e f : End} {ws : List What} {ps : List Packet} → LaterParts p e ws ps f q → HasHeads schema sent e → HasHeads schema sent f
  laters-heads parts.done k = k
  laters-heads (parts.then part rest) k = laters-heads rest (later-heads part k)

  own-heads : {q : Phase} {e f : End} {ws : List What} {ps : List Packet} → OwnParts schema e ws ps f q → ArrivalsAreNoted schema sent e → HasHeads schema sent e → HasHeads schema sent f
  own-heads (parts.begun part rest ended) noted k = laters-heads rest (first-heads part noted k)

  counted : (e : End) (row : MessageRow) (m : Message) (vs : Values) → m.body ≡ Request vs → message_of schema m.number ≡ Some row → HasHeads schema sent e → HasHeads schema sent (delivery.counted row (delivery.item_of row m) e)
  counted e row m vs body found k = record {
    entries = k.entries;
    arrived = all-append (ItemHead schema) (staying row.compress (delivery.item_of row m) e.arrived) (delivery.item_of row m ∷ []) (all-sublist (ItemHead schema) (staying row.compress (delivery.item_of row m) e.arrived) e.arrived (staying-sublist row.compress (delivery.item_of row m) e.arrived) k.arrived)
        (subst (BodyHead schema m (is_sync_row row) row.level) (sym body) (record { row = row; found = found; sync_is = refl; level_is = refl }), tt);
  }

  reply-head : (m : Message) (row : MessageRow) (a : Answer) → m.body ≡ body_of a → is_sync_row row ≡ false → BodyHead schema m (is_sync_row row) row.level m.body
  reply-head m row (answer.Ok vs) body is = subst (BodyHead schema m (is_sync_row row) row.level) (sym body) is
  reply-head m row (answer.Fault r) body is = subst (BodyHead schema m (is_sync_row row) row.level) (sym body) is

  farewell-head : (packet : Packet) → is_farewell (farewell_item packet) ≡ true → ItemHead schema (farewell_item packet)
  farewell-head mark is = tt
  farewell-head (message m) is = by m.body is
    where
      by : (b : Body) → is_goodbye b ≡ true → BodyHead schema m false Not b
      by (Request vs) is = cc
      by (Reply vs) is = cc
      by (Fault r) is = cc
      by Goodbye is = tt

  delivery-heads : {packet : Packet} {q : Phase} {e f : End} {ws : List What} {ps : List Packet} → DeliveryPart schema packet e ws ps f q → HasHeads schema sent e → HasHeads schema sent f
  delivery-heads {e} (parts.gets_request m row vs body found none) k = counted e row m vs body found k
  delivery-heads {e} (parts.replaces m row vs old sync level replies body found rep is) k = following-heads replies (delivery.counted row (delivery.item_of row m) e) (counted e row m vs body found k)
  delivery-heads {e} (parts.gets_answer m row a body found is) k = record { entries = answered-heads a e.stack k.entries; arrived = k.arrived }
  delivery-heads {e} (parts.gets_reply m row a body found is) k = record { entries = k.entries; arrived = all-append (ItemHead schema) e.arrived (delivery.item_of row m ∷ []) k.arrived (reply-head m row a body is, tt) }
  delivery-heads {e} (parts.drains packet is) k = record { entries = failed-heads e.stack k.entries; arrived = all-append (ItemHead schema) e.arrived (farewell_item packet ∷ []) k.arrived (farewell-head packet is, tt) }
  delivery-heads (parts.passes_by m ordinary none) k = k

  parts-heads : {e : End} {link : List Packet} {ev : Event} {ws : List What} {ps : List Packet} {f : End} {q : Phase} → StepParts schema e link ev ws ps f q → ArrivalsAreNoted schema sent e → HasHeads schema sent e → HasHeads schema sent f
  parts-heads (acts same steps) noted k = own-heads steps noted k
  parts-heads (delivers packet first o part) noted k = delivery-heads part k

-- what was sent grows

module _ (schema : Schema) (sent more : List Note) where
  frame-grows : (number : ℕ) (f : StackFrame) → FrameHead schema sent number f → FrameHead schema (sent ++ more) number f
  frame-grows number (Dispatch head) h = (h.0, record { request = h.1.request; sent_it = in-before more h.1.sent_it; seq_is = h.1.seq_is; transaction_is = h.1.transaction_is; number_is = h.1.number_is })
  frame-grows number (Wait head a) h = h

  heads-grow : (e : End) → HasHeads schema sent e → HasHeads schema (sent ++ more) e
  heads-grow e k = record { entries = all-map (EntryHead schema sent) (EntryHead schema (sent ++ more)) e.stack (λ x h. frame-grows x.number x.frame h) k.entries; arrived = k.arrived }

-- Moves

-- an end keeps this with the lines of the other end, which is on this side
abbrev pub KeepsHeads : Schema → Side → EndReading → End → EndReading → Type 0
KeepsHeads schema side others e own = HasHeads schema (told_notes side others.sent) e

heads-following : (schema : Schema) (side : Side) (place : ℕ) (ws : List What) (h : EndReading) (e : End) → HasHeads schema (told_notes side h.sent) e → HasHeads schema (told_notes side (after_whats schema place ws h).sent) e
heads-following schema side place ws h e k =
    let g = grows schema place ws h in
    subst (λ (l : List Note). HasHeads schema l e) (sym (ap (told_notes side) g.1 ∙ map-append (told_note side) h.sent g.0)) (heads-grow schema (told_notes side h.sent) (told_notes side g.0) e k)

module _ (schema : Schema) (sound : IsSound schema) where
  heads-keep : EveryMoveKeeps schema (AcrossEnds schema (KeepsHeads schema)) (λ r l b. true)
  heads-keep move w r output m k =
      let side : Side = move.side in
      let both = across-ends schema (KeepsHeads schema) side w r k in
      let noted = across-ends schema (IsNoted schema) side w r (noted-reached schema sound w r m.reached) in
      record {
        kept = across-keep schema (KeepsHeads schema) side move.event w r output m.nested m.ends
            (parts-heads schema (told_notes (other side) (other_of side r).sent) m.ends.parts noted.0.arrived both.0)
            (heads-following schema side r.lines m.ends.whats (end_reading_of side r) (end_of (other side) w) both.1);
        passes = λ following. all-pass schema r output.lines following;
      }

  pub heads-reached : (w : World) (r : Reading) → IsReached schema w r → AcrossEnds schema (KeepsHeads schema) w r
  heads-reached w r h =
      reached-has schema (AcrossEnds schema (KeepsHeads schema)) (λ top moves. (every-run schema sound (AcrossEnds schema (KeepsHeads schema)) (λ r l b. true) heads-keep top moves (record { entries = tt; arrived = tt }, record { entries = tt; arrived = tt })).kept) w r h
