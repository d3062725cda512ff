-- Each part of a step keeps each wait one for a sync request of the end.
use Rattle.std.proofs.Common.{◌≡◌, ℕ, zero, suc, ◌+◌, ℤ, pos, Bool, true, false, not, ◌&&◌, cond, if◌then◌else◌, int_eq, find, List, [], ◌∷◌, ◌++◌, drop, map, Option, Some, None, is_some, refl, sym, ap, subst, ◌∙◌, arith}
use Rattle.std.specs.List.{AllByRecursion}
use Rattle.std.specs.Option.{option_map_or, option_or}
use Rattle.std.proofs.lemmas.List.Folds.{find-append}
use Rattle.ipdl_base.specs.declared.line.What.{What}
use Rattle.ipdl_base.specs.declared.line.What.TheVariants as what
use Rattle.ipdl_base.specs.declared.message.Message.{Message}
use Rattle.ipdl_base.specs.declared.schema.MessageRow.{MessageRow}
use Rattle.ipdl_base.specs.declared.schema.Schema.{Schema}
use Rattle.ipdl_base.specs.declared.value.Values.{Values}
use Rattle.ipdl_base.specs.Sound.{message_of}
use Rattle.nesting_core.specs.declared.frame.Answer.{Answer}
use Rattle.nesting_core.specs.declared.frame.StackFrame.{StackFrame}
use Rattle.nesting_core.specs.declared.frame.StackFrame.TheVariants.{Dispatch, Wait}
use Rattle.nesting_core.specs.Answers.{with_answer}
use Rattle.nesting_core.specs.Frames.{head_of}
use Rattle.channel_model.specs.Answers as answering
use Rattle.channel_model.specs.Deliveries as delivery
use Rattle.channel_model.specs.Ends.{End, Packet, StackEntry}
use Rattle.channel_model.specs.Events.{Answering, handled, kept}
use Rattle.channel_model.specs.Numbers.{is_sync_row, request_row}
use Rattle.channel_model.specs.Parts
use Rattle.channel_model.specs.Parts.{FirstPart, LaterPart, DeliveryPart, end_after, left_end}
use Rattle.channel_model.specs.Phases.{Phase}
use Rattle.channel_model.specs.Sends as send
use Rattle.channel_model.proofs.Known.{all-append, all-map}
use Rattle.history_reading.specs.declared.parts.PacketKind.TheVariants as kind
use Rattle.history_reading.specs.EndReading.{EndReading, is_sync_request}
use Rattle.history_reading.specs.Reading as reads
use Rattle.history_reading.specs.Reading.{after_what, request_after}
use Rattle.history_reading.specs.Rows as rows_read
use Rattle.history_reading.specs.SentPacket as told
use Rattle.history_reading.specs.SentPacket.{SentPacket, Request, request_of, requests_of}
use Rattle.channel_model.proofs.Numbered.{next-is_free}
use Rattle.channel_laws.specs.OwnWaits.{IsOwnWait, WaitsOneWay, WaitsAreOwn}
use Rattle.channel_laws.specs.Promised.{PromisesAreRead, requests_numbered}
use Rattle.channel_laws.specs.Counts.{is_number}
use Rattle.channel_laws.specs.SentAccounts.{request_seq}
use Rattle.channel_laws.specs.Tested.{after_whats}
use Rattle.channel_laws.proofs.Counting.{int-same, none-passes}
use Rattle.channel_laws.proofs.Growing.{grows}
use Rattle.channel_laws.proofs.PromiseParts.{message-row}
use Rattle.channel_laws.proofs.SentAccounts.{requests-append}

-- Requests

-- a request that was found is still found after more packets
sync-grows : (own next : EndReading) (more : List SentPacket) (n : ℤ) → next.sent ≡ own.sent ++ more → is_sync_request own n ≡ true → is_sync_request next n ≡ true
sync-grows own next more n is h =
    ap (λ (sent : List SentPacket). option_map_or (λ (r : Request). r.sync) (request_of sent n) false) is
    ∙ (ap (λ (o : Option Request). option_map_or (λ (r : Request). r.sync) o false) (ap (find (λ r. int_eq r.seq n)) (requests-append own.sent more) ∙ find-append (λ r. int_eq r.seq n) (requests_of own.sent) (requests_of more))
    ∙ by (request_of own.sent n) (request_of more n) h)
  where
    by : (a b : Option Request) → option_map_or (λ (r : Request). r.sync) a false ≡ true → option_map_or (λ (r : Request). r.sync) (option_or a b) false ≡ true
    by None b h = cc
    by (Some r) b h = h

waits-grow : (own next : EndReading) (more : List SentPacket) (stack : List StackEntry) → next.sent ≡ own.sent ++ more → AllByRecursion (IsOwnWait own) stack → AllByRecursion (IsOwnWait next) stack
waits-grow own next more stack is h = all-map (IsOwnWait own) (IsOwnWait next) stack (λ entry k wait. sync-grows own next more (head_of entry.frame).seq is (k wait)) h

one-way : (schema : Schema) (number : ℕ) → rows_read.wants_number schema number ≡ true → rows_read.is_sync_number schema number ≡ false
one-way schema number = by (message_of schema number)
  where
    not-both : (b c : Bool) → not b && c ≡ true → b ≡ false
    not-both true c e = cc
    not-both false c e = refl

    by : (found : Option MessageRow) → option_map_or rows_read.wants_row found false ≡ true → option_map_or rows_read.is_sync_row found false ≡ false
    by None e = refl
    by (Some row) e = not-both (rows_read.is_sync_row row) (is_some row.returns) e

abbrev OneWays : List SentPacket → Type 0
OneWays sent = AllByRecursion WaitsOneWay (requests_of sent)

more-ways : (sent : List SentPacket) (p : SentPacket) → OneWays (p ∷ []) → OneWays sent → OneWays (sent ++ p ∷ [])
more-ways sent p one h = subst (AllByRecursion WaitsOneWay) (sym (requests-append sent (p ∷ []))) (all-append WaitsOneWay (requests_of sent) (requests_of (p ∷ [])) h one)

replying-ways : (n : ℤ) (own : EndReading) → OneWays own.sent → OneWays (reads.replying n own).sent
replying-ways n own h = by (is_sync_request own n)
  where
    by : (b : Bool) → OneWays (if b then reads.answering n (reads.delivering (kind.Reply n) own) else reads.arriving (kind.Reply n) own).sent
    by true = h
    by false = h

dying-ways : (own : EndReading) → OneWays own.sent → OneWays (reads.dying own).sent
dying-ways own h = by own.ended
  where
    by : (b : Bool) → OneWays (if b then own.sent else own.sent ++ told.broken ∷ [])
    by true = h
    by false = more-ways own.sent told.broken tt h

one-ways : (schema : Schema) (place : ℕ) (w : What) (own : EndReading) → OneWays own.sent → OneWays (after_what schema place w own).sent
one-ways schema place (what.Send n route number vs) own h = more-ways own.sent (told.request (request_after schema n (pos 0) route number vs own)) (one-way schema number, tt) h
one-ways schema place (what.Call n transaction route number vs) own h = more-ways own.sent (told.request (request_after schema n transaction route number vs own)) (one-way schema number, tt) h
one-ways schema place (what.Resolve n vs) own h = more-ways own.sent (told.said n (told.resolved vs)) tt h
one-ways schema place (what.Reject n) own h = more-ways own.sent (told.said n told.rejected) tt h
one-ways schema place (what.AnswerOk n vs) own h = more-ways own.sent (told.said n (told.ok vs)) tt h
one-ways schema place (what.AnswerFault n reason) own h = more-ways own.sent (told.said n (told.fault reason)) tt h
one-ways schema place what.Close own h = more-ways own.sent told.goodbye tt h
one-ways schema place what.Die own h = dying-ways own h
one-ways schema place (what.DeliverReply n) own h = replying-ways n own h
one-ways schema place _ own h = h

lines-ways : (schema : Schema) (place : ℕ) (ws : List What) (own : EndReading) → OneWays own.sent → OneWays (after_whats schema place ws own).sent
lines-ways schema place [] own h = h
lines-ways schema place (w ∷ ws) own h = lines-ways schema (place + 1) ws (after_what schema place w own) (one-ways schema place w own h)

-- the request that was just sent is found

found-none : (requests : List Request) (n : ℤ) → AllByRecursion (λ m. int_eq m n ≡ false) (map request_seq requests) → find (λ r. int_eq r.seq n) requests ≡ None
found-none [] n h = refl
found-none (r ∷ requests) n h = ap (λ (b : Bool). cond b (Some r) (find (λ (x : Request). int_eq x.seq n) requests)) h.0 ∙ found-none requests n h.1

none-numbered : (e : End) (own : EndReading) → PromisesAreRead e own → requests_numbered (requests_of own.sent) (send.next_seq e) ≡ 0
none-numbered e own h = by (requests_numbered (requests_of own.sent) (send.next_seq e)) refl
  where
    by : (c : ℕ) → requests_numbered (requests_of own.sent) (send.next_seq e) ≡ c → requests_numbered (requests_of own.sent) (send.next_seq e) ≡ 0
    by zero is = is
    by (suc c) is = absurd (next-is_free e.side e.sent (send.next_seq e) (h.numbered.known (send.next_seq e) (let k = is in omega arith)) refl)

call-found : (schema : Schema) (place : ℕ) (e : End) (own : EndReading) (row : MessageRow) (route : ℤ) (vs : Values) → request_row schema row.number ≡ Some row → is_sync_row row ≡ true → PromisesAreRead e own → (m : Message) → m.seq ≡ send.next_seq e → m.number ≡ row.number
    → is_sync_request (after_what schema place (what.Call m.seq m.transaction m.route m.number vs) own) m.seq ≡ true
call-found schema place e own row route vs found sync h m seq number =
    let r : Request = request_after schema m.seq m.transaction m.route m.number vs own in
    let none : request_of own.sent m.seq ≡ None = ap (request_of own.sent) seq ∙ found-none (requests_of own.sent) (send.next_seq e) (none-passes (is_number (send.next_seq e)) (map request_seq (requests_of own.sent)) (none-numbered e own h)) in
    let last : request_of (own.sent ++ told.request r ∷ []) m.seq ≡ Some r =
    ap (find (λ x. int_eq x.seq m.seq)) (requests-append own.sent (told.request r ∷ []))
    ∙ (find-append (λ x. int_eq x.seq m.seq) (requests_of own.sent) (r ∷ [])
    ∙ (ap (λ (o : Option Request). option_or o (cond (int_eq m.seq m.seq) (Some r) None)) none ∙ ap (λ (b : Bool). cond b (Some r) None) (int-same m.seq))) in
    ap (λ (o : Option Request). option_map_or (λ (x : Request). x.sync) o false) last
    ∙ (ap (λ (o : Option MessageRow). option_map_or rows_read.is_sync_row o false) (ap (message_of schema) number ∙ message-row schema row.number row found) ∙ sync)

-- Stacks

module _ (own : EndReading) where
  abbrev Own : List StackEntry → Type 0
  Own stack = AllByRecursion (IsOwnWait own) stack

  drop-own : (stack : List StackEntry) → Own stack → Own (drop 1 stack)
  drop-own [] h = tt
  drop-own (x ∷ xs) h = h.1

  released-own : (seq : ℤ) (stack : List StackEntry) → Own stack → Own (answering.released seq stack)
  released-own seq [] h = tt
  released-own seq (x ∷ xs) h = (by (answering.has_resolver seq x), released-own seq xs h.1)
    where
      by : (b : Bool) → IsOwnWait own (if b then record x { resolves = false } else x)
      by true = h.0
      by false = h.0

  frame-own : (x : StackEntry) (f : StackFrame) → x.frame ≡ f → IsOwnWait own x → IsOwnWait own (record x { frame = f })
  frame-own x f is h = subst (λ (g : StackFrame). IsOwnWait own (record x { frame = g })) is h

  same-own : (stack : List StackEntry) → Own stack → Own (delivery.with_frames (map (λ (x : StackEntry). x.frame) stack) stack)
  same-own [] h = tt
  same-own (x ∷ xs) h = (h.0, same-own xs h.1)

  answered-own : (a : Answer) (stack : List StackEntry) → Own stack → Own (delivery.with_frames (with_answer a (map (λ (x : StackEntry). x.frame) stack)) stack)
  answered-own a [] h = tt
  answered-own a (x ∷ xs) h = by x.frame refl (answered-own a xs h.1)
    where
      frames : List StackFrame
      frames = map (λ (y : StackEntry). y.frame) xs

      by : (f : StackFrame) → x.frame ≡ f → Own (delivery.with_frames (with_answer a frames) xs) → Own (delivery.with_frames (with_answer a (f ∷ frames)) (x ∷ xs))
      by (Dispatch head) is rec = (frame-own x (Dispatch head) is h.0, rec)
      by (Wait head None) is rec = (frame-own x (Wait head None) is h.0, same-own xs h.1)
      by (Wait head (Some b)) is rec = (frame-own x (Wait head (Some b)) is h.0, rec)

  failed-one : (x : StackEntry) (f : StackFrame) → x.frame ≡ f → IsOwnWait own x → IsOwnWait own (record x { frame = delivery.failed f })
  failed-one x (Dispatch head) is h = frame-own x (Dispatch head) is h
  failed-one x (Wait head None) is h = frame-own x (Wait head None) is h
  failed-one x (Wait head (Some a)) is h = frame-own x (Wait head (Some a)) is h

  failed-own : (stack : List StackEntry) → Own stack → Own (map delivery.with_failed_wait stack)
  failed-own [] h = tt
  failed-own (x ∷ xs) h = (failed-one x x.frame refl h.0, failed-own xs h.1)

  following-own : (b : Bool) (e : End) → Own e.stack → Own (end_after b e).stack
  following-own true e h = h
  following-own false e h = h

  without-own : (by : Answering) (e : End) → Own e.stack → Own (answering.without_resolver by e).stack
  without-own (handled seq) e h = released-own seq e.stack h
  without-own (kept name number) e h = h

-- Parts

module _ (schema : Schema) where
  following-lines : (place : ℕ) (ws : List What) (own : EndReading) (f : End) → AllByRecursion (IsOwnWait own) f.stack → OneWays own.sent → WaitsAreOwn f (after_whats schema place ws own)
  following-lines place ws own f waits requests =
      let g = grows schema place ws own in
      record { waits = waits-grow own (after_whats schema place ws own) g.0 f.stack g.1 waits; requests = lines-ways schema place ws own requests }

  sent-own : (place : ℕ) (e : End) (own : EndReading) (row : MessageRow) (route : ℤ) (vs : Values) → request_row schema row.number ≡ Some row → PromisesAreRead e own → WaitsAreOwn e own → (m : Message) → m.seq ≡ send.next_seq e → m.number ≡ row.number → (b : Bool) → is_sync_row row ≡ b
      → AllByRecursion (IsOwnWait (after_what schema place (if b then what.Call m.seq m.transaction m.route m.number vs else what.Send m.seq m.route m.number vs) own)) (cond b (send.wait_for row m ∷ e.stack) e.stack)
  sent-own place e own row route vs found h k m seq number true sync =
      let w : What = what.Call m.seq m.transaction m.route m.number vs in
      ((λ wait. call-found schema place e own row route vs found sync h m seq number), (following-lines place (w ∷ []) own e k.waits k.requests).waits)
  sent-own place e own row route vs found h k m seq number false sync = (following-lines place (what.Send m.seq m.route m.number vs ∷ []) own e k.waits k.requests).waits

  pub first-waits : {e f : End} {ws : List What} {ps : List Packet} {q : Phase} (place : ℕ) (own : EndReading) → FirstPart schema e ws ps f q → PromisesAreRead e own → WaitsAreOwn e own → WaitsAreOwn f (after_whats schema place ws own)
  first-waits {e} {f} {ws} place own (Parts.refuses w is) h k = following-lines place ws own f k.waits k.requests
  first-waits {e} {f} {ws} place own (Parts.renames w is) h k = following-lines place ws own f k.waits k.requests
  first-waits {e} {f} {ws} place own (Parts.flushes o) h k = following-lines place ws own f k.waits k.requests
  first-waits {e} {f} {ws} place own (Parts.sends row route vs name sent) h k =
      let m : Message = send.request_of e row route vs in
      record { waits = sent-own place e own row route vs sent.found h k m refl refl (is_sync_row row) refl; requests = lines-ways schema place ws own k.requests }
  first-waits {e} {f} {ws} place own (Parts.answers by vs r row found may ok used) h k = following-lines place ws own f (without-own own by e k.waits) k.requests
  first-waits {e} {f} {ws} place own (Parts.closes o waits) h k = following-lines place ws own f k.waits k.requests
  first-waits {e} {f} {ws} place own (Parts.dies o) h k = following-lines place ws own f tt k.requests
  first-waits {e} {f} {ws} place own (Parts.dies_silent o alive) h k = following-lines place ws own f tt k.requests
  first-waits {e} {f} {ws} place own (Parts.takes m sync level row vs next body found stays) h k = following-lines place ws own f ((λ wait. cc), k.waits) k.requests
  first-waits {e} {f} {ws} place own (Parts.drops m sync level row vs id replies next body found gone is) h k = following-lines place ws own f (following-own own replies (left_end e) k.waits) k.requests
  first-waits {e} {f} {ws} place own (Parts.drops_unknown m sync level vs next body found) h k = following-lines place ws own f k.waits k.requests
  first-waits {e} {f} {ws} place own (Parts.takes_reply m sync level a next body late) h k = following-lines place ws own f k.waits k.requests
  first-waits {e} {f} {ws} place own (Parts.settles m sync level row a next body found awaited) h k = following-lines place ws own f k.waits k.requests
  first-waits {e} {f} {ws} place own (Parts.shuts last next is) h k = following-lines place ws own f k.waits k.requests
  first-waits {e} {f} {ws} place own (Parts.returns entry row vs told_it lost may t l) h k =
      following-lines place ws own f (following-own own lost (end_after told_it (record e { stack = drop 1 e.stack })) (following-own own told_it (record e { stack = drop 1 e.stack }) (drop-own own e.stack k.waits))) k.requests
  first-waits {e} {f} {ws} place own (Parts.resumes wait row on_top found) h k = following-lines place ws own f (drop-own own e.stack k.waits) k.requests

  later-stack : {p q : Phase} {e f : End} {ws : List What} {ps : List Packet} (own : EndReading) → LaterPart p e ws ps f q → AllByRecursion (IsOwnWait own) e.stack → AllByRecursion (IsOwnWait own) f.stack
  later-stack own (Parts.unnames name may silent) h = h
  later-stack own (Parts.lets_go name r may held o) h = h
  later-stack own (Parts.names more holds) h = h
  later-stack {e = e} own (Parts.releases seq is) h = released-own own seq e.stack h
  later-stack {e = e} own (Parts.keeps seq name r is o) h = released-own own seq e.stack h
  later-stack own (Parts.builds id protocol rest fresh alive) h = h
  later-stack own (Parts.deletes id is) h = h
  later-stack own (Parts.falls why is) h = h

  pub later-waits : {p q : Phase} {e f : End} {ws : List What} {ps : List Packet} (place : ℕ) (own : EndReading) → LaterPart p e ws ps f q → WaitsAreOwn e own → WaitsAreOwn f (after_whats schema place ws own)
  later-waits {f = f} {ws = ws} place own part k = following-lines place ws own f (later-stack own part k.waits) k.requests

  delivery-stack : {packet : Packet} {q : Phase} {e f : End} {ws : List What} {ps : List Packet} (own : EndReading) → DeliveryPart schema packet e ws ps f q → AllByRecursion (IsOwnWait own) e.stack → AllByRecursion (IsOwnWait own) f.stack
  delivery-stack own (Parts.gets_request m row vs body found none) h = h
  delivery-stack {e = e} own (Parts.replaces m row vs old sync level replies body found is told_it) h = following-own own replies (delivery.counted row (delivery.item_of row m) e) h
  delivery-stack {e = e} own (Parts.gets_answer m row a body found is) h = answered-own own a e.stack h
  delivery-stack own (Parts.gets_reply m row a body found is) h = h
  delivery-stack {e = e} own (Parts.drains packet is) h = failed-own own e.stack h
  delivery-stack own (Parts.passes_by m is found) h = h

  pub delivery-waits : {packet : Packet} {q : Phase} {e f : End} {ws : List What} {ps : List Packet} (place : ℕ) (own : EndReading) → DeliveryPart schema packet e ws ps f q → WaitsAreOwn e own → WaitsAreOwn f (after_whats schema place ws own)
  delivery-waits {f = f} {ws = ws} place own part k = following-lines place ws own f (delivery-stack own part k.waits) k.requests
