-- Each step keeps the origins of the answers of waits.
use Rattle.std.proofs.Common.{◌≡◌, ℕ, ◌+◌, ℤ, pos, Bool, true, false, ◌||◌, cond, if◌then◌else◌, int_eq, List, [], ◌∷◌, ◌++◌, drop, filter, map, Option, Some, None, refl, sym, ap, subst, ◌∙◌}
use Rattle.std.specs.List.{AllByRecursion}
use Rattle.std.specs.Option.{option_map_or}
use Rattle.std.proofs.lemmas.Bool.Decides.{Decides-int_eq}
use Rattle.std.proofs.lemmas.List.{append-nil, map-append}
use Rattle.std.proofs.lemmas.Option.{same_Some}
use Rattle.ipdl_base.specs.declared.kinds.Side.{Side}
use Rattle.ipdl_base.specs.declared.line.What.{What}
use Rattle.ipdl_base.specs.declared.line.What.TheVariants as what
use Rattle.ipdl_base.specs.declared.message.Message.{Message}
use Rattle.ipdl_base.specs.declared.schema.MessageRow.{MessageRow}
use Rattle.ipdl_base.specs.declared.schema.Schema.{Schema}
use Rattle.ipdl_base.specs.Sound.{message_of}
use Rattle.nesting_core.specs.declared.frame.Answer.{Answer}
use Rattle.nesting_core.specs.declared.frame.Answer.TheVariants as answer
use Rattle.nesting_core.specs.declared.frame.StackFrame.{StackFrame}
use Rattle.nesting_core.specs.declared.frame.StackFrame.TheVariants.{Dispatch, Wait}
use Rattle.nesting_core.specs.Answers.{awaited, with_answer}
use Rattle.nesting_core.specs.Frames.{head_of, is_unanswered}
use Rattle.history_reading.specs.EndReading.{EndReading, is_sync_request}
use Rattle.history_reading.specs.Numbers.{has}
use Rattle.history_reading.specs.Reading as reads
use Rattle.history_reading.specs.Reading.{after_what}
use Rattle.history_reading.specs.Rows as reading
use Rattle.history_reading.specs.declared.parts.PacketKind.TheVariants as seen
use Rattle.history_reading.specs.SentPacket.{SentPacket}
use Rattle.history_reading.specs.SentPacket as told
use Rattle.channel_model.specs.Answers as answering
use Rattle.channel_model.specs.Deliveries as delivery
use Rattle.channel_model.specs.Ends.{End, Packet, message, mark, StackEntry}
use Rattle.channel_model.specs.Events.{Answering, Event, handled, kept}
use Rattle.channel_model.specs.Numbers.{is_sync_row}
use Rattle.channel_model.specs.Outputs.{Output, body_of}
use Rattle.channel_model.specs.Parts as parts
use Rattle.channel_model.specs.Parts.{FirstPart, LaterPart, LaterParts, OwnParts, DeliveryPart, end_after, farewell_item, left_end}
use Rattle.channel_model.specs.Phases.{Phase}
use Rattle.channel_model.specs.Sends as send
use Rattle.channel_model.proofs.Known.{all-map}
use Rattle.channel_model.proofs.FittingEnds.{all-drop}
use Rattle.channel_laws.specs.GivenAnswers.{answer_content, IsGiven, was_said, has_failed, FrameIsGiven, FrameIsOwn, PacketIsSent, HasAnswers}
use Rattle.channel_laws.specs.Notes.{Note, says, asks, told_note, told_notes, request_note, body_note, packet_note, notes, In, here, there}
use Rattle.channel_laws.specs.Notes as note
use Rattle.channel_laws.specs.Origins.{IsRequested}
use Rattle.channel_laws.specs.Tested.{after_whats}
use Rattle.channel_laws.proofs.Growing.{whats-append, grows, in-before, in-following}
use Rattle.channel_laws.proofs.Moves.{EndMove, StepParts, acts, delivers}
use Rattle.channel_laws.proofs.Outlines.{RepliesFit}
use Rattle.channel_laws.proofs.TwoEnds.{Arrival}

-- Which calls have failed

has-before : (f g : List ℤ) (n : ℤ) → has f n ≡ true → has (f ++ g) n ≡ true
has-before [] g n e = cc
has-before (x ∷ f) g n e = by (int_eq x n) (has-before f g n) e
  where
    by : (b : Bool) → (has f n ≡ true → has (f ++ g) n ≡ true) → b || has f n ≡ true → b || has (f ++ g) n ≡ true
    by true rec e = refl
    by false rec e = rec e

abbrev FailsMore : EndReading → EndReading → Type 0
FailsMore next h = (more : List ℤ) × (next.failed ≡ h.failed ++ more)

replying-fails : (n : ℤ) (h : EndReading) → FailsMore (reads.quiet (reads.replying n h)) h
replying-fails n h = by (is_sync_request h n)
  where
    by : (b : Bool) → (more : List ℤ) × ((if b then reads.answering n (reads.delivering (seen.Reply n) h) else reads.arriving (seen.Reply n) h).failed ≡ h.failed ++ more)
    by true = ([], sym (append-nil h.failed))
    by false = ([], sym (append-nil h.failed))

fails-one : (schema : Schema) (place : ℕ) (w : What) (h : EndReading) → FailsMore (after_what schema place w h) h
fails-one schema place (what.Fails n) h = (n ∷ [], refl)
fails-one schema place (what.DeliverReply n) h = replying-fails n h
fails-one schema place _ h = ([], sym (append-nil h.failed))

has-more : (next h : EndReading) (n : ℤ) → FailsMore next h → has h.failed n ≡ true → has next.failed n ≡ true
has-more next h n m e = ap (λ (f : List ℤ). has f n) m.1 ∙ has-before h.failed m.0 n e

-- calls that have failed stay failed
failed-stays : (schema : Schema) (place : ℕ) (ws : List What) (h : EndReading) (n : ℤ) → has h.failed n ≡ true → has (after_whats schema place ws h).failed n ≡ true
failed-stays schema place [] h n e = e
failed-stays schema place (w ∷ ws) h n e = failed-stays schema (place + 1) ws (after_what schema place w h) n (has-more (after_what schema place w h) h n (fails-one schema place w h) e)

has-last : (f : List ℤ) (n : ℤ) → has (f ++ n ∷ []) n ≡ true
has-last [] n = ap (λ (b : Bool). b || false) ((Decides-int_eq n n).1 refl)
has-last (x ∷ f) n = by (int_eq x n) (has-last f n)
  where
    by : (b : Bool) → has (f ++ n ∷ []) n ≡ true → b || has (f ++ n ∷ []) n ≡ true
    by true e = refl
    by false e = e

-- a call has failed if its line shows so
fails-in : (schema : Schema) (place : ℕ) (ns : List ℤ) (h : EndReading) (n : ℤ) → In n ns → has (after_whats schema place (map what.Fails ns) h).failed n ≡ true
fails-in schema place [] h n i = elim i [ ]
fails-in schema place (n ∷ ns) h _ here = failed-stays schema (place + 1) (map what.Fails ns) (after_what schema place (what.Fails n) h) n (has-last h.failed n)
fails-in schema place (m ∷ ns) h n (there i) = fails-in schema (place + 1) ns (after_what schema place (what.Fails m) h) n i

-- What is given stays given, and what was sent stays sent

module _ (sent more own further : List Note) (failed next : List ℤ) (stays : (n : ℤ) → has failed n ≡ true → has next n ≡ true) where
  given-grows : (seq : ℤ) (a : Answer) → IsGiven sent failed seq a → IsGiven (sent ++ more) next seq a
  given-grows seq a (was_said i) = was_said (in-before more i)
  given-grows seq _ (has_failed e) = has_failed (stays seq e)

  frame-grows : (f : StackFrame) → FrameIsGiven sent failed f → FrameIsGiven (sent ++ more) next f
  frame-grows (Dispatch head) h = tt
  frame-grows (Wait head None) h = tt
  frame-grows (Wait head (Some a)) h = given-grows head.seq a h

  own-grows : (entry : StackEntry) (f : StackFrame) → FrameIsOwn own entry f → FrameIsOwn (own ++ further) entry f
  own-grows entry (Dispatch head) h = tt
  own-grows entry (Wait head a) h = record { request = h.request; sent_it = in-before further h.sent_it; seq_is = h.seq_is; route_is = h.route_is; number_is = h.number_is }

  pub answers-grow : (e : End) → HasAnswers sent own failed e → HasAnswers (sent ++ more) (own ++ further) next e
  answers-grow e k = record {
    given = all-map (λ (x : StackEntry). FrameIsGiven sent failed x.frame) (λ (x : StackEntry). FrameIsGiven (sent ++ more) next x.frame) e.stack (λ x h. frame-grows x.frame h) k.given;
    waits = all-map (λ (x : StackEntry). FrameIsOwn own x x.frame) (λ (x : StackEntry). FrameIsOwn (own ++ further) x x.frame) e.stack (λ x h. own-grows x x.frame h) k.waits;
  }

-- Stacks, by a property of each frame

module _ (P : StackEntry → StackFrame → Type 0) (unresolved : (x : StackEntry) (f : StackFrame) → P x f → P (record x { resolves = false }) f) where
  released-one : (b : Bool) (x : StackEntry) → P x x.frame → P (cond b (record x { resolves = false }) x) (cond b (record x { resolves = false }) x).frame
  released-one true x h = unresolved x x.frame h
  released-one false x h = h

  pub released-all : (seq : ℤ) (es : List StackEntry) → AllByRecursion (λ x. P x x.frame) es → AllByRecursion (λ x. P x x.frame) (answering.released seq es)
  released-all seq [] h = tt
  released-all seq (x ∷ xs) h = (released-one (answering.has_resolver seq x) x h.0, released-all seq xs h.1)

pub same-all : (P : StackEntry → Type 0) (es : List StackEntry) → AllByRecursion P es → AllByRecursion P (delivery.with_frames (map (λ (x : StackEntry). x.frame) es) es)
same-all P [] h = tt
same-all P (x ∷ xs) h = (h.0, same-all P xs h.1)

-- The parts of steps

module _ (schema : Schema) (sent own : List Note) where
  released-given : (failed : List ℤ) (seq : ℤ) (es : List StackEntry) → AllByRecursion (λ x. FrameIsGiven sent failed x.frame) es → AllByRecursion (λ x. FrameIsGiven sent failed x.frame) (answering.released seq es)
  released-given failed seq es h = released-all (λ x f. FrameIsGiven sent failed f) (λ x f k. k) seq es h

  unresolved-own : (x : StackEntry) (f : StackFrame) → FrameIsOwn own x f → FrameIsOwn own (record x { resolves = false }) f
  unresolved-own x (Dispatch head) h = tt
  unresolved-own x (Wait head a) h = h

  released-own : (seq : ℤ) (es : List StackEntry) → AllByRecursion (λ x. FrameIsOwn own x x.frame) es → AllByRecursion (λ x. FrameIsOwn own x x.frame) (answering.released seq es)
  released-own seq es h = released-all (λ x f. FrameIsOwn own x f) unresolved-own seq es h

  following-answers : (b : Bool) (failed : List ℤ) (e : End) → HasAnswers sent own failed e → HasAnswers sent own failed (end_after b e)
  following-answers true failed e k = record { given = k.given; waits = k.waits }
  following-answers false failed e k = k

  left-answers : (failed : List ℤ) (e : End) → HasAnswers sent own failed e → HasAnswers sent own failed (left_end e)
  left-answers failed e k = record { given = k.given; waits = k.waits }

  popped-answers : (failed : List ℤ) (e : End) → HasAnswers sent own failed e → HasAnswers sent own failed (record e { stack = drop 1 e.stack })
  popped-answers failed e k = record { given = all-drop (λ (x : StackEntry). FrameIsGiven sent failed x.frame) e.stack k.given; waits = all-drop (λ (x : StackEntry). FrameIsOwn own x x.frame) e.stack k.waits }

  -- the first part of a step; the request of a call is the end's own once its line is read
  abbrev SentIsOwn : {q : Phase} {e f : End} {ws : List What} {ps : List Packet} → FirstPart schema e ws ps f q → Type 0
  SentIsOwn {e} (parts.sends row route vs name is) = is_sync_row row ≡ true → IsRequested own (send.request_of e row route vs).seq route row.number
  SentIsOwn _ = Unit {0}

  first-answers : {q : Phase} {e f : End} {ws : List What} {ps : List Packet} (failed : List ℤ) (part : FirstPart schema e ws ps f q) → SentIsOwn part → HasAnswers sent own failed e → HasAnswers sent own failed f
  first-answers failed (parts.refuses w q) new k = k
  first-answers failed (parts.renames w q) new k = k
  first-answers failed (parts.flushes o) new k = record { given = k.given; waits = k.waits }
  first-answers {e} failed (parts.sends row route vs name is) new k = by (is_sync_row row) new
    where
      by : (sync : Bool) → (sync ≡ true → IsRequested own (send.request_of e row route vs).seq route row.number)
          → HasAnswers sent own failed (record (parts.sent_end row (send.request_of e row route vs) e) { stack = cond sync (send.wait_for row (send.request_of e row route vs) ∷ e.stack) e.stack })
      by true own_request = record { given = (tt, k.given); waits = (own_request refl, k.waits) }
      by false own_request = record { given = k.given; waits = k.waits }
  first-answers {e} failed (parts.answers by vs r row found may ok used) new k = at by
    where
      at : (by : Answering) → HasAnswers sent own failed (record (answering.without_resolver by e) { outbox = [] })
      at (handled seq) = record { given = released-given failed seq e.stack k.given; waits = released-own seq e.stack k.waits }
      at (kept name number) = record { given = k.given; waits = k.waits }
  first-answers failed (parts.closes o waits) new k = record { given = k.given; waits = k.waits }
  first-answers failed (parts.dies o) new k = record { given = tt; waits = tt }
  first-answers failed (parts.dies_silent o alive) new k = record { given = tt; waits = tt }
  first-answers {e} failed (parts.takes m sync level row vs next body found stays) new k =
      let l : HasAnswers sent own failed (left_end e) = left-answers failed e k in record { given = (tt, l.given); waits = (tt, l.waits) }
  first-answers {e} failed (parts.drops m sync level row vs id replies next body found gone is) new k = following-answers replies failed (left_end e) (left-answers failed e k)
  first-answers {e} failed (parts.drops_unknown m sync level vs next body none) new k = left-answers failed e k
  first-answers {e} failed (parts.takes_reply m sync level a next body late) new k = left-answers failed e k
  first-answers {e} failed (parts.settles m sync level row a next body found is) new k = let l : HasAnswers sent own failed (left_end e) = left-answers failed e k in record { given = l.given; waits = l.waits }
  first-answers failed (parts.shuts last next is) new k = record { given = k.given; waits = k.waits }
  first-answers {e} failed (parts.returns entry row vs told lost on_top t l) new k =
      following-answers lost failed (end_after told (record e { stack = drop 1 e.stack })) (following-answers told failed (record e { stack = drop 1 e.stack }) (popped-answers failed e k))
  first-answers {e} failed (parts.resumes wait row on_top found) new k = popped-answers failed e k

  later-answers : {p q : Phase} {e f : End} {ws : List What} {ps : List Packet} (failed : List ℤ) → LaterPart p e ws ps f q → HasAnswers sent own failed e → HasAnswers sent own failed f
  later-answers failed (parts.unnames name now silent) k = record { given = k.given; waits = k.waits }
  later-answers failed (parts.lets_go name r now is o) k = record { given = k.given; waits = k.waits }
  later-answers failed (parts.names more a) k = record { given = k.given; waits = k.waits }
  later-answers {e} failed (parts.releases seq closed) k = record { given = released-given failed seq e.stack k.given; waits = released-own seq e.stack k.waits }
  later-answers {e} failed (parts.keeps seq name r is open_end) k = record { given = released-given failed seq e.stack k.given; waits = released-own seq e.stack k.waits }
  later-answers failed (parts.builds id protocol rest fresh alive) k = record { given = k.given; waits = k.waits }
  later-answers failed (parts.deletes id cause) k = record { given = k.given; waits = k.waits }
  later-answers failed (parts.falls why cause) k = record { given = k.given; waits = k.waits }

  laters-answers : {p q : Phase} {e f : End} {ws : List What} {ps : List Packet} (failed : List ℤ) → LaterParts p e ws ps f q → HasAnswers sent own failed e → HasAnswers sent own failed f
  laters-answers failed parts.done k = k
  laters-answers failed (parts.then part rest) k = laters-answers failed rest (later-answers failed part k)

  -- an answer goes to the wait that is awaited
  answered-given : (failed : List ℤ) (n : ℤ) (a : Answer) (es : List StackEntry) → awaited (map (λ (x : StackEntry). x.frame) es) ≡ Some n → IsGiven sent failed n a → AllByRecursion (λ x. FrameIsGiven sent failed x.frame) es → AllByRecursion (λ x. FrameIsGiven sent failed x.frame) (delivery.with_frames (with_answer a (map (λ (x : StackEntry). x.frame) es)) es)
  answered-given failed n a [] w g h = tt
  answered-given failed n a (x ∷ xs) w g h = by x.frame h.0 w (λ v. answered-given failed n a xs v g h.1)
    where
      frames : List StackFrame
      frames = map (λ (x : StackEntry). x.frame) xs

      by : (f : StackFrame) → FrameIsGiven sent failed f → awaited (f ∷ frames) ≡ Some n → (awaited frames ≡ Some n → AllByRecursion (λ x. FrameIsGiven sent failed x.frame) (delivery.with_frames (with_answer a frames) xs))
          → AllByRecursion (λ x. FrameIsGiven sent failed x.frame) (delivery.with_frames (with_answer a (f ∷ frames)) (x ∷ xs))
      by (Dispatch head) g1 w rec = (tt, rec w)
      by (Wait head None) g1 w rec = (subst (λ (seq : ℤ). IsGiven sent failed seq a) (sym (same_Some head.seq n w)) g, same-all (λ (x : StackEntry). FrameIsGiven sent failed x.frame) xs h.1)
      by (Wait head (Some b)) g1 w rec = (g1, rec w)

  answered-own : (a : Answer) (es : List StackEntry) → AllByRecursion (λ x. FrameIsOwn own x x.frame) es → AllByRecursion (λ x. FrameIsOwn own x x.frame) (delivery.with_frames (with_answer a (map (λ (x : StackEntry). x.frame) es)) es)
  answered-own a [] h = tt
  answered-own a (x ∷ xs) h = by x.frame h.0 (answered-own a xs h.1)
    where
      frames : List StackFrame
      frames = map (λ (x : StackEntry). x.frame) xs

      by : (f : StackFrame) → FrameIsOwn own x f → AllByRecursion (λ x. FrameIsOwn own x x.frame) (delivery.with_frames (with_answer a frames) xs) → AllByRecursion (λ x. FrameIsOwn own x x.frame) (delivery.with_frames (with_answer a (f ∷ frames)) (x ∷ xs))
      by (Dispatch head) o rec = (tt, rec)
      by (Wait head None) o rec = (o, same-all (λ (x : StackEntry). FrameIsOwn own x x.frame) xs h.1)
      by (Wait head (Some b)) o rec = (o, rec)

  -- all waits fail
  failed-given : (failed next : List ℤ) (es : List StackEntry) → ((n : ℤ) → has failed n ≡ true → has next n ≡ true) → ((n : ℤ) → In n (map (λ (f : StackFrame). (head_of f).seq) (filter is_unanswered (map (λ (x : StackEntry). x.frame) es))) → has next n ≡ true)
      → AllByRecursion (λ x. FrameIsGiven sent failed x.frame) es → AllByRecursion (λ x. FrameIsGiven sent next x.frame) (map delivery.with_failed_wait es)
  failed-given failed next [] stays fails h = tt
  failed-given failed next (x ∷ xs) stays fails h = by x.frame h.0 fails (λ f. failed-given failed next xs stays f h.1)
    where
      stays-given : (seq : ℤ) (a : Answer) → IsGiven sent failed seq a → IsGiven sent next seq a
      stays-given seq a (was_said i) = was_said i
      stays-given seq _ (has_failed e) = has_failed (stays seq e)

      by : (f : StackFrame) → FrameIsGiven sent failed f → ((n : ℤ) → In n (map (λ (f : StackFrame). (head_of f).seq) (filter is_unanswered (f ∷ map (λ (x : StackEntry). x.frame) xs))) → has next n ≡ true)
          → (((n : ℤ) → In n (map (λ (f : StackFrame). (head_of f).seq) (filter is_unanswered (map (λ (x : StackEntry). x.frame) xs))) → has next n ≡ true) → AllByRecursion (λ x. FrameIsGiven sent next x.frame) (map delivery.with_failed_wait xs))
          → AllByRecursion (λ x. FrameIsGiven sent next x.frame) (map delivery.with_failed_wait (record x { frame = f } ∷ xs))
      by (Dispatch head) g fails rest = (tt, rest fails)
      by (Wait head None) g fails rest = (has_failed (fails head.seq here), rest (λ n i. fails n (there i)))
      by (Wait head (Some a)) g fails rest = (stays-given head.seq a g, rest fails)

  failed-own : (es : List StackEntry) → AllByRecursion (λ x. FrameIsOwn own x x.frame) es → AllByRecursion (λ x. FrameIsOwn own x x.frame) (map delivery.with_failed_wait es)
  failed-own [] h = tt
  failed-own (x ∷ xs) h = (by x.frame h.0, failed-own xs h.1)
    where
      by : (f : StackFrame) → FrameIsOwn own x f → FrameIsOwn own x (delivery.failed f)
      by (Dispatch head) o = tt
      by (Wait head None) o = o
      by (Wait head (Some a)) o = o

  -- the content of a sync request's reply
  said-answer : (m : Message) (a : Answer) (row : MessageRow) → m.body ≡ body_of a → message_of schema m.number ≡ Some row → is_sync_row row ≡ true → In (body_note schema m m.body) sent → In (says m.seq (answer_content a)) sent
  said-answer m a row body found sync i = subst (λ (n : Note). In n sent) (ap (body_note schema m) body ∙ by a) i
    where
      is : reading.is_sync_number schema m.number ≡ true
      is = ap (λ (x : Option MessageRow). option_map_or is_sync_row x false) found ∙ sync

      by : (a : Answer) → body_note schema m (body_of a) ≡ says m.seq (answer_content a)
      by (answer.Ok vs) = ap (λ (b : Bool). says m.seq (note.values_content b vs)) is
      by (answer.Fault r) = ap (λ (b : Bool). says m.seq (note.fault_content b r)) is

  counted : (e : End) (failed : List ℤ) (row : MessageRow) (m : Message) → HasAnswers sent own failed e → HasAnswers sent own failed (delivery.counted row (delivery.item_of row m) e)
  counted e failed row m k = record { given = k.given; waits = k.waits }

  more-failed : (failed next : List ℤ) (e : End) → ((n : ℤ) → has failed n ≡ true → has next n ≡ true) → HasAnswers sent own failed e → HasAnswers sent own next e
  more-failed failed next e stays k =
      subst (λ (xs : List Note). HasAnswers xs own next e) (append-nil sent) (subst (λ (ys : List Note). HasAnswers (sent ++ []) ys next e) (append-nil own) (answers-grow sent [] own [] failed next stays e k))

  later-failed : (place : ℕ) (ws : List What) (h : EndReading) (e : End) → HasAnswers sent own h.failed e → HasAnswers sent own (after_whats schema place ws h).failed e
  later-failed place ws h e k = more-failed h.failed (after_whats schema place ws h).failed e (λ n x. failed-stays schema place ws h n x) k

  delivery-answers : {packet : Packet} {q : Phase} {e f : End} {ws : List What} {ps : List Packet} (place : ℕ) (h : EndReading) → DeliveryPart schema packet e ws ps f q → RepliesFit schema packet e h → PacketIsSent schema sent packet → HasAnswers sent own h.failed e → HasAnswers sent own (after_whats schema place ws h).failed f
  delivery-answers {e} {f = g} {ws} place h (parts.gets_request m row vs body found none) fit new k = later-failed place ws h g (counted e h.failed row m k)
  delivery-answers {e} {f = g} {ws} place h (parts.replaces m row vs old sync level replies body found rep is) fit new k = later-failed place ws h g (following-answers replies h.failed (delivery.counted row (delivery.item_of row m) e) (counted e h.failed row m k))
  delivery-answers {e} {f = g} {ws} place h (parts.gets_answer m row a body found is) fit new k = later-failed place ws h g (record {
    given = answered-given h.failed m.seq a e.stack (fit.awaits m row a refl body found is) (was_said (said-answer m a row body found is new)) k.given;
    waits = answered-own a e.stack k.waits;
  })
  delivery-answers {e} {f = g} {ws} place h (parts.gets_reply m row a body found is) fit new k = later-failed place ws h g (record { given = k.given; waits = k.waits })
  delivery-answers {packet} {e} place h (parts.drains _ is) fit new k = record {
    given = failed-given h.failed (after_whats schema place (parts.farewell_line packet ∷ map what.Fails (delivery.unanswered e)) h).failed e.stack (λ n x. failed-stays schema place (parts.farewell_line packet ∷ map what.Fails (delivery.unanswered e)) h n x)
        (λ n i. fails-in schema (place + 1) (delivery.unanswered e) (after_what schema place (parts.farewell_line packet) h) n i) k.given;
    waits = failed-own e.stack k.waits;
  }
  delivery-answers place h (parts.passes_by m ordinary none) fit new k = absurd (fit.known m refl ordinary none)

-- Steps

module _ (schema : Schema) (sent : List Note) (side : Side) where
  told-following : (place : ℕ) (ws : List What) (h : EndReading) → (more : List Note) × (told_notes side (after_whats schema place ws h).sent ≡ told_notes side h.sent ++ more)
  told-following place ws h = let g = grows schema place ws h in (told_notes side g.0, ap (told_notes side) g.1 ∙ map-append (told_note side) h.sent g.0)

  -- what is kept after more lines
  answers-following : (place : ℕ) (ws : List What) (h : EndReading) (e : End) → HasAnswers sent (told_notes side h.sent) h.failed e → HasAnswers sent (told_notes side (after_whats schema place ws h).sent) (after_whats schema place ws h).failed e
  answers-following place ws h e k =
      let g = told-following place ws h in
      let next : List ℤ = (after_whats schema place ws h).failed in
      subst (λ (own : List Note). HasAnswers sent own next e) (sym g.1)
      (subst (λ (xs : List Note). HasAnswers xs (told_notes side h.sent ++ g.0) next e) (append-nil sent) (answers-grow sent [] (told_notes side h.sent) g.0 h.failed next (λ n x. failed-stays schema place ws h n x) e k))

  first-own : {q : Phase} {e f : End} {ws : List What} {ps : List Packet} (place : ℕ) (h : EndReading) (part : FirstPart schema e ws ps f q) → SentIsOwn schema sent (told_notes side (after_whats schema place ws h).sent) part
  first-own {e} place h (parts.sends row route vs name is) = λ sync. by (is_sync_row row)
    where
      last : (r : told.Request) → In (asks (request_note side r)) (told_notes side (h.sent ++ told.request r ∷ []))
      last r = subst (In (asks (request_note side r))) (sym (map-append (told_note side) h.sent (told.request r ∷ []))) (in-following (told_notes side h.sent) here)

      by : (sync : Bool) → IsRequested (told_notes side (after_what schema place (if sync then what.Call (send.request_of e row route vs).seq (send.request_of e row route vs).transaction route row.number vs else what.Send (send.request_of e row route vs).seq route row.number vs) h).sent) (send.request_of e row route vs).seq route row.number
      by true = let r : told.Request = reads.request_after schema (send.request_of e row route vs).seq (send.request_of e row route vs).transaction route row.number vs h in record { request = request_note side r; sent_it = last r; seq_is = refl; route_is = refl; number_is = refl }
      by false = let r : told.Request = reads.request_after schema (send.request_of e row route vs).seq (pos 0) route row.number vs h in record { request = request_note side r; sent_it = last r; seq_is = refl; route_is = refl; number_is = refl }
  first-own place h (parts.refuses w q) = tt
  first-own place h (parts.renames w q) = tt
  first-own place h (parts.flushes o) = tt
  first-own place h (parts.answers by vs r row found may ok used) = tt
  first-own place h (parts.closes o waits) = tt
  first-own place h (parts.dies o) = tt
  first-own place h (parts.dies_silent o alive) = tt
  first-own place h (parts.takes m sync level row vs next body found stays) = tt
  first-own place h (parts.drops m sync level row vs id replies next body found gone is) = tt
  first-own place h (parts.drops_unknown m sync level vs next body none) = tt
  first-own place h (parts.takes_reply m sync level a next body late) = tt
  first-own place h (parts.settles m sync level row a next body found is) = tt
  first-own place h (parts.shuts last next is) = tt
  first-own place h (parts.returns entry row vs told lost on_top t l) = tt
  first-own place h (parts.resumes wait row on_top found) = tt

  own-answers : {q : Phase} {e f : End} {ws : List What} {ps : List Packet} (place : ℕ) (h : EndReading) → OwnParts schema e ws ps f q → HasAnswers sent (told_notes side h.sent) h.failed e → HasAnswers sent (told_notes side (after_whats schema place ws h).sent) (after_whats schema place ws h).failed f
  own-answers {e} {f = g} place h (parts.begun {f} {ws} {vs} part rest ended) k =
      let mid : EndReading = after_whats schema place ws h in
      let own : List Note = told_notes side mid.sent in
      let a : HasAnswers sent own mid.failed f = first-answers schema sent own mid.failed part (first-own place h part) (answers-following place ws h e k) in
      let b : HasAnswers sent own mid.failed g = laters-answers schema sent own mid.failed rest a in
      let at = whats-append schema place ws vs h in
      subst (λ (x : EndReading). HasAnswers sent (told_notes side x.sent) x.failed g) (sym at.1) (answers-following at.0 vs mid g b)

arrival-sent : (schema : Schema) (mine theirs : End) (own others : EndReading) (to_me : List Packet) (packet : Packet) → Arrival schema mine theirs own others to_me packet → PacketIsSent schema (told_notes theirs.side others.sent) packet
arrival-sent schema mine theirs own others to_me mark a = tt
arrival-sent schema mine theirs own others to_me (message m) a = subst (λ (l : List Note). In (packet_note schema (message m)) l) (sym a.account.sent.whole) (in-before _ (in-following a.account.got here))

-- An end keeps it after its own step, and after a step of the other end.
pub move-answers : (schema : Schema) (side : Side) (place : ℕ) (mine theirs : End) (own others : EndReading) (to_me to_them : List Packet) (ev : Event) (output : Output) (m : EndMove schema place mine theirs own others to_me to_them ev output) → HasAnswers (told_notes theirs.side others.sent) (told_notes side own.sent) own.failed mine
    → HasAnswers (told_notes theirs.side others.sent) (told_notes side (after_whats schema place m.whats own).sent) (after_whats schema place m.whats own).failed output.end
move-answers schema side place mine theirs own others to_me to_them ev output m k = by m.parts
  where
    sent : List Note
    sent = told_notes theirs.side others.sent

    by : {ev : Event} {ws : List What} {ps : List Packet} {f : End} {q : Phase} → StepParts schema mine to_me ev ws ps f q → HasAnswers (told_notes theirs.side others.sent) (told_notes side (after_whats schema place ws own).sent) (after_whats schema place ws own).failed f
    by (acts same steps) = own-answers schema (told_notes theirs.side others.sent) side place own steps k
    by {ws} {f} (delivers packet first o part) =
        let a : Arrival schema mine theirs own others to_me packet = m.arrives packet first o in
        let g = told-following schema (told_notes theirs.side others.sent) side place ws own in
        let d : HasAnswers (told_notes theirs.side others.sent) (told_notes side own.sent) (after_whats schema place ws own).failed f = delivery-answers schema (told_notes theirs.side others.sent) (told_notes side own.sent) place own part a.fits (arrival-sent schema mine theirs own others to_me packet a) k in
        subst (λ (x : List Note). HasAnswers (told_notes theirs.side others.sent) x (after_whats schema place ws own).failed f) (sym g.1)
        (subst (λ (xs : List Note). HasAnswers xs (told_notes side own.sent ++ g.0) (after_whats schema place ws own).failed f) (append-nil (told_notes theirs.side others.sent))
        (answers-grow (told_notes theirs.side others.sent) [] (told_notes side own.sent) g.0 (after_whats schema place ws own).failed (after_whats schema place ws own).failed (λ n x. x) f d))

pub other-answers : (schema : Schema) (side : Side) (place : ℕ) (ws : List What) (h others : EndReading) (own : List Note) (theirs : End) → HasAnswers (told_notes side h.sent) own others.failed theirs → HasAnswers (told_notes side (after_whats schema place ws h).sent) own others.failed theirs
other-answers schema side place ws h others own theirs k =
    let g = told-following schema [] side place ws h in
    subst (λ (xs : List Note). HasAnswers xs own others.failed theirs) (sym g.1)
    (subst (λ (ys : List Note). HasAnswers (told_notes side h.sent ++ g.0) ys others.failed theirs) (append-nil own) (answers-grow (told_notes side h.sent) g.0 own [] others.failed others.failed (λ n x. x) theirs k))
