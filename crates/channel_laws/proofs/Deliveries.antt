-- Deliveries to an open end.
use Rattle.channel_model.proofs.Tests.{and-left, and-right}
use Rattle.std.proofs.Common.{◌≡◌, ℕ, suc, ◌+◌, ◌-◌, Bool, true, false, not, ◌&&◌, ◌==◌, cond, if◌then◌else◌, int_eq, List, [], ◌∷◌, ◌++◌, map, length, take, ◌⊎◌, Option, Some, None, option_and_then, is_some, refl, sym, ap, subst, ◌∙◌}
use Rattle.std.proofs.Math.Numerals.{sub-one}
use Rattle.std.proofs.lemmas.List.{append-nil}
use Rattle.std.proofs.lemmas.Grind.{flat_map-append}
use Rattle.std.proofs.lemmas.Option.{same_Some}
use Rattle.std.proofs.lemmas.Bool.{cases_Bool}
use Rattle.std.specs.List.{AllByRecursion, list_any, slice_get}
use Rattle.std.specs.Option.{option_map_or}
use Rattle.ipdl_base.specs.declared.line.What.TheVariants as what
use Rattle.ipdl_base.specs.declared.kinds.Compress.{Compress}
use Rattle.ipdl_base.specs.declared.kinds.Compress.TheVariants as compress
use Rattle.ipdl_base.specs.declared.kinds.Level.{Level}
use Rattle.ipdl_base.specs.declared.kinds.Reason.TheVariants as reason
use Rattle.ipdl_base.specs.declared.kinds.Side.{Side}
use Rattle.ipdl_base.specs.declared.message.Body.{Body}
use Rattle.ipdl_base.specs.declared.message.Body.TheVariants.{Request, Reply, Fault, Goodbye}
use Rattle.ipdl_base.specs.declared.message.Message.{Message}
use Rattle.ipdl_base.specs.declared.schema.MessageRow.{MessageRow}
use Rattle.ipdl_base.specs.declared.schema.Schema.{Schema}
use Rattle.ipdl_base.specs.declared.value.Values.{Values}
use Rattle.ipdl_base.specs.Sound.{message_of}
use Rattle.nesting_core.specs.declared.frame.Answer.{Answer}
use Rattle.nesting_core.specs.declared.frame.Answer.TheVariants as answer
use Rattle.nesting_core.specs.declared.frame.StackFrame.{StackFrame}
use Rattle.nesting_core.specs.declared.frame.StackFrame.TheVariants.{Dispatch, Wait}
use Rattle.nesting_core.specs.declared.frame.Head.{Head}
use Rattle.nesting_core.specs.Answers.{with_answer}
use Rattle.nesting_core.specs.Frames.{head_of}
use Rattle.pending_queue.specs.declared.item.Item.{Item}
use Rattle.pending_queue.specs.declared.item.Item.TheVariants as item
use Rattle.pending_queue.specs.Compression.{is_request, is_request_of, are_alike, last_of, latest, without_latest, replaced, staying}
use Rattle.channel_model.specs.Deliveries as delivery
use Rattle.channel_model.specs.Ends.{End, StackEntry, Packet, message, mark}
use Rattle.channel_model.specs.Numbers.{request_row, is_sync_row, makes_promise}
use Rattle.channel_model.specs.Outputs.{Output, Change, beginning, unchanged, on_end, line, answered, request_answered}
use Rattle.std.proofs.lemmas.Bool.{eqb-true}
use Rattle.channel_model.proofs.StateSteps.{all_failed-answered}
use Rattle.channel_model.proofs.Known.{all-append, all-map}
use Rattle.channel_model.proofs.Sublists.{all-sublist, staying-sublist}
use Rattle.channel_model.proofs.FittingEnds.{all-at}
use Rattle.channel_laws.proofs.SyncSteps.{SyncStep, no_step, one_step, drains, at-open, at-start}
use Rattle.channel_laws.proofs.Track.{Track, IsOnTrack, KeepsTrack, keeps-when, keeps-answered, frames_in}
use Rattle.channel_laws.proofs.Rows.{request-message}
use Rattle.channel_laws.specs.Laws.{IsReply}
use Rattle.channel_laws.specs.OpenEnds.{EntryAgrees, IsRequestNumber, BodyAgrees, PacketAgrees, ArrivedAgrees, ItemAgrees, IsOpenEnd}
use Rattle.channel_laws.specs.SyncCalls.{is_sync_number, level_of, listed, call_of, sync_body, sync_packet, sync_packets, body_call, item_call, sync_calls, reply_head}
use Rattle.channel_laws.specs.SyncStack.{waits, Shows, no_answer, cpow_on_top, entry_of, ShowsUnderAnswer, has_answer, no_cpow}
use Rattle.nesting_laws.specs.Calls.{Call, wait, dispatch, SyncPacket, request, reply, sync_end, ReplyHead, SyncFrame}
use Rattle.nesting_laws.specs.Progress.{IsForTop}
use Rattle.nesting_laws.specs.Steps.{Step, request_arrives, reply_arrives}
use Rattle.channel_laws.specs.Rows.{HasSoundRows}

-- Replies

-- a stack with the frames that it has
same-frames : (stack : List StackEntry) → delivery.with_frames (frames_in stack) stack ≡ stack
same-frames [] = refl
same-frames (entry ∷ stack) = ap (λ (s : List StackEntry). entry ∷ s) (same-frames stack)

-- an entry with another frame of the same head
entry-same_head : (schema : Schema) (entry : StackEntry) (f : StackFrame) → head_of f ≡ head_of entry.frame → EntryAgrees schema entry → EntryAgrees schema (record entry { frame = f })
entry-same_head schema entry f e h = record {
  row = h.row;
  found = h.found;
  is_sync = h.is_sync ∙ ap (λ (head : Head). head.sync) (sym e);
  resolves = λ r. ap (λ (head : Head). head.sync) e ∙ h.resolves r;
}

entries-kept : (schema : Schema) (stack : List StackEntry) → AllByRecursion (EntryAgrees schema) stack → AllByRecursion (EntryAgrees schema) (delivery.with_frames (map (λ (entry : StackEntry). entry.frame) stack) stack)
entries-kept schema [] h = tt
entries-kept schema (entry ∷ stack) h = (h.0, entries-kept schema stack h.1)

entries-answered_at : (schema : Schema) (a : Answer) (f : StackFrame) (entry : StackEntry) (stack : List StackEntry) → f ≡ entry.frame → EntryAgrees schema entry → AllByRecursion (EntryAgrees schema) stack
    → AllByRecursion (EntryAgrees schema) (delivery.with_frames (with_answer a (map (λ (entry : StackEntry). entry.frame) stack)) stack) → AllByRecursion (EntryAgrees schema) (delivery.with_frames (with_answer a (f ∷ map (λ (entry : StackEntry). entry.frame) stack)) (entry ∷ stack))
entries-answered_at schema a (Dispatch head) entry stack e h all rest = (entry-same_head schema entry (Dispatch head) (ap head_of e) h, rest)
entries-answered_at schema a (Wait head None) entry stack e h all rest = (entry-same_head schema entry (Wait head (Some a)) (ap head_of e) h, entries-kept schema stack all)
entries-answered_at schema a (Wait head (Some b)) entry stack e h all rest = (entry-same_head schema entry (Wait head (Some b)) (ap head_of e) h, rest)

entries-answered : (schema : Schema) (a : Answer) (stack : List StackEntry) → AllByRecursion (EntryAgrees schema) stack → AllByRecursion (EntryAgrees schema) (delivery.with_frames (with_answer a (map (λ (entry : StackEntry). entry.frame) stack)) stack)
entries-answered schema a [] h = tt
entries-answered schema a (entry ∷ stack) h = entries-answered_at schema a entry.frame entry stack refl h.0 h.1 (entries-answered schema a stack h.1)

under-answered : (side : Side) (a : Answer) {entries : List StackEntry} {q : Call} {below : List SyncFrame} → ShowsUnderAnswer side entries (wait q ∷ below) → ShowsUnderAnswer side (delivery.with_frames (with_answer a (frames_in entries)) entries) below
under-answered side a {below} (no_answer (waits {head} {route} {number} {resolves} {entries} s k f p)) =
    subst (λ (s : List StackEntry). ShowsUnderAnswer side (entry_of (Wait head (Some a)) route number resolves ∷ s) below) (sym (same-frames entries)) (has_answer f p)
under-answered side a (has_answer f p) = absurd f

shows-answered : (side : Side) (a : Answer) {entries : List StackEntry} {q : Call} {below : List SyncFrame} → Shows side entries (wait q ∷ below) → Shows side (delivery.with_frames (with_answer a (frames_in entries)) entries) below
shows-answered side a (no_cpow p) = no_cpow (under-answered side a p)
shows-answered side a (cpow_on_top s e p) = cpow_on_top s e (under-answered side a p)

-- what arrives last
calls-last : (items : List Item) (new : Item) → sync_calls (items ++ new ∷ []) ≡ sync_calls items ++ item_call new
calls-last items new = flat_map-append item_call items (new ∷ []) ∙ ap (λ (qs : List Call). sync_calls items ++ qs) (append-nil (item_call new))

-- the wait on top is the one that is answered
top-answered : (schema : Schema) (e : End) (a : Answer) (r : ReplyHead) (stack : List SyncFrame) (rest : List SyncPacket) (new : End) → new ≡ delivery.answers_wait a e → IsOpenEnd schema e stack → IsForTop stack r
    → (below : List SyncFrame) × (IsOpenEnd schema new below × Step e.side (sync_end stack (sync_calls e.arrived) (reply r ∷ rest)) (sync_end below (sync_calls new.arrived) rest) [])
top-answered schema e a r [] rest new is h top = absurd top
top-answered schema e a r (dispatch d ∷ below) rest new is h top = absurd top
top-answered schema e a r (wait w ∷ below) rest new is h top =
    let done : IsOpenEnd schema (delivery.answers_wait a e) below = record {
      state = h.state;
      shows = shows-answered e.side a h.shows;
      entries = entries-answered schema a e.stack h.entries;
      arrived = h.arrived;
      names = h.names;
      outbox = h.outbox;
      waiting = h.waiting;
    } in
    (below, (subst (λ (n : End). IsOpenEnd schema n below) (sym is) done, subst (λ (n : End). Step e.side (sync_end (wait w ∷ below) (sync_calls e.arrived) (reply r ∷ rest)) (sync_end below (sync_calls n.arrived) rest) []) (sym is) reply_arrives))

-- an item that is not a request arrives
arrives-open : (schema : Schema) (e : End) (new : Item) (stack : List SyncFrame) → ItemAgrees schema new → IsOpenEnd schema e stack → IsOpenEnd schema (delivery.arrives new e) stack
arrives-open schema e new stack agrees h = record {
  state = h.state;
  shows = h.shows;
  entries = h.entries;
  arrived = all-append (ItemAgrees schema) e.arrived (new ∷ []) h.arrived (agrees, tt);
  names = h.names;
  outbox = h.outbox;
  waiting = h.waiting;
}

reply-item_agree : (schema : Schema) (m : Message) (sync : Bool) (level : Level) (body : Body) → IsReply body → ArrivedAgrees schema m sync level body
reply-item_agree schema m sync level (Request vs) is = absurd is
reply-item_agree schema m sync level (Reply vs) is = tt
reply-item_agree schema m sync level (Fault why) is = tt
reply-item_agree schema m sync level Goodbye is = absurd is

reply-item_call : (m : Message) (sync : Bool) (level : Level) (body : Body) → IsReply body → body_call sync level m body ≡ []
reply-item_call m sync level (Request vs) is = absurd is
reply-item_call m sync level (Reply vs) is = refl
reply-item_call m sync level (Fault why) is = refl
reply-item_call m sync level Goodbye is = absurd is

module _ (schema : Schema) (e : End) (stack : List SyncFrame) (m : Message) (rest : List Packet) (h : IsOpenEnd schema e stack) (is_reply : IsReply m.body) (a : Answer) (top : is_sync_number schema m.number ≡ true → IsForTop stack (reply_head m)) where
  reply-arrived : (sync : Bool) (row : MessageRow) → is_sync_row row ≡ sync → is_sync_number schema m.number ≡ sync → sync_packets schema (message m ∷ rest) ≡ listed sync (reply (reply_head m)) ++ sync_packets schema rest
      → SyncStep schema e stack (message m ∷ rest) rest (delivery.reply_arrives m a row (line (what.DeliverReply m.seq) (beginning e)))
  reply-arrived true row is number link =
      let o : Output = delivery.reply_arrives m a row (line (what.DeliverReply m.seq) (beginning e)) in
      let new : o.end ≡ delivery.answers_wait a e = ap (λ (b : Bool). if b then delivery.answers_wait a e else delivery.arrives (delivery.item_of row m) e) is in
      let r = top-answered schema e a (reply_head m) stack (sync_packets schema rest) o.end new h (top number) in
      one_step r.1.0 (subst (λ (ps : List SyncPacket). Step e.side (sync_end stack (sync_calls e.arrived) ps) (sync_end r.0 (sync_calls o.end.arrived) (sync_packets schema rest)) []) (sym link) r.1.1) tt
  reply-arrived false row is number link =
      let o : Output = delivery.reply_arrives m a row (line (what.DeliverReply m.seq) (beginning e)) in
      let new : o.end ≡ delivery.arrives (delivery.item_of row m) e = ap (λ (b : Bool). if b then delivery.answers_wait a e else delivery.arrives (delivery.item_of row m) e) is in
      let open_end : IsOpenEnd schema o.end stack = subst (λ (n : End). IsOpenEnd schema n stack) (sym new) (arrives-open schema e (delivery.item_of row m) stack (reply-item_agree schema m (is_sync_row row) row.level m.body is_reply) h) in
      let calls : sync_calls o.end.arrived ≡ sync_calls e.arrived =
      ap (λ (n : End). sync_calls n.arrived) new ∙ (calls-last e.arrived (delivery.item_of row m) ∙ (ap (λ (qs : List Call). sync_calls e.arrived ++ qs) (reply-item_call m (is_sync_row row) row.level m.body is_reply) ∙ append-nil (sync_calls e.arrived))) in
      no_step open_end calls (sym link) refl tt

  reply-delivered : (found : Option MessageRow) → message_of schema m.number ≡ found → (sync_packets schema (message m ∷ rest) ≡ listed (is_sync_number schema m.number) (reply (reply_head m)) ++ sync_packets schema rest)
      → SyncStep schema e stack (message m ∷ rest) rest (option_map_or (delivery.reply_arrives m a) found unchanged (line (what.DeliverReply m.seq) (beginning e)))
  reply-delivered None is link =
      no_step h refl (sym (link ∙ ap (λ (r : Option MessageRow). listed (option_map_or is_sync_row r false) (reply (reply_head m)) ++ sync_packets schema rest) is)) refl tt
  reply-delivered (Some row) is link =
      let number : is_sync_number schema m.number ≡ is_sync_row row = ap (λ (r : Option MessageRow). option_map_or is_sync_row r false) is in
      reply-arrived (is_sync_row row) row refl number (link ∙ ap (λ (b : Bool). listed b (reply (reply_head m)) ++ sync_packets schema rest) number)

-- Requests

-- the items that stay have the sync requests that were there, if no item that is replaced is one
latest-silent_at : (b c : Bool) (x : Item) (items some : List Item) → (b ≡ true → item_call x ≡ []) → sync_calls some ≡ sync_calls items → sync_calls (cond (b && not c) items (x ∷ some)) ≡ item_call x ++ sync_calls items
latest-silent_at true false x items some h e = ap (λ (qs : List Call). qs ++ sync_calls items) (sym (h refl))
latest-silent_at true true x items some h e = ap (λ (qs : List Call). item_call x ++ qs) e
latest-silent_at false c x items some h e = ap (λ (qs : List Call). item_call x ++ qs) e

latest-silent : (p : Item → Bool) (items : List Item) → AllByRecursion (λ x. p x ≡ true → item_call x ≡ []) items → sync_calls (without_latest p items) ≡ sync_calls items
latest-silent p [] h = refl
latest-silent p (x ∷ items) h = latest-silent_at (p x) (list_any p items) x items (without_latest p items) h.0 (latest-silent p items h.1)

-- the last item of all
last-silent : (items : List Item) (x : Item) → last_of items ≡ Some x → item_call x ≡ [] → sync_calls (take (length items - 1) items) ≡ sync_calls items
last-silent [] x e h = cc
last-silent (y ∷ []) x e h = let s : y ≡ x = same_Some y x e in sym (append-nil (item_call y) ∙ (ap item_call s ∙ h))
last-silent (y ∷ z ∷ items) x e h =
    let n : suc (length items) - 1 ≡ length items = rw sub-one refl in
    let m : suc (suc (length items)) - 1 ≡ suc (length items) = rw sub-one refl in
    let there : last_of (z ∷ items) ≡ Some x = ap (slice_get (z ∷ items)) n ∙ (ap (λ (k : ℕ). slice_get (y ∷ z ∷ items) k) (sym m) ∙ e) in
    let later : sync_calls (take (length items) (z ∷ items)) ≡ sync_calls (z ∷ items) = ap (λ (k : ℕ). sync_calls (take k (z ∷ items))) (sym n) ∙ last-silent (z ∷ items) x there h in
    ap (λ (k : ℕ). sync_calls (take k (y ∷ z ∷ items))) m ∙ ap (λ (qs : List Call). item_call y ++ qs) later

replaced-last_at : (b : Bool) (old x : Item) → cond b (Some old) None ≡ Some x → (b ≡ true) × (old ≡ x)
replaced-last_at true old x e = (refl, same_Some old x e)
replaced-last_at false old x e = cc

pub replaced-last : (new : Item) (found : Option Item) (x : Item) → option_and_then (λ old. if are_alike new old then Some old else None) found ≡ Some x → (found ≡ Some x) × (are_alike new x ≡ true)
replaced-last new None x e = cc
replaced-last new (Some old) x e =
    let r = replaced-last_at (are_alike new old) old x e in
    (ap (λ (i : Item). Some i) r.1, ap (are_alike new) (sym r.1) ∙ r.0)

-- an item is silent if it is like a new one
abbrev IsSilentLike : Item → Item → Type 0
IsSilentLike new old = are_alike new old ≡ true → item_call old ≡ []

staying-last : (new : Item) (items : List Item) (r : Option Item) → replaced compress.Last new items ≡ r → AllByRecursion (IsSilentLike new) items → sync_calls (if is_some r then take (length items - 1) items else items) ≡ sync_calls items
staying-last new items None is h = refl
staying-last new items (Some x) is h =
    let r = replaced-last new (last_of items) x is in
    last-silent items x r.0 (all-at (IsSilentLike new) items (length items - 1) x h r.0 r.1)

staying-silent : (c : Compress) (new : Item) (items : List Item) → AllByRecursion (IsSilentLike new) items → sync_calls (staying c new items) ≡ sync_calls items
staying-silent compress.Plain new items h = refl
staying-silent compress.Last new items h = staying-last new items (replaced compress.Last new items) refl h
staying-silent compress.All new items h = latest-silent (are_alike new) items h

-- what is replaced is alike, and has every property of all that is alike
latest-found_at : (p : Item → Bool) (P : Item → Type 0) (b c : Bool) (x old : Item) (later : Option Item) → c ≡ true ⊎ c ≡ false → cond c later (cond b (Some x) None) ≡ Some old → (b ≡ true → P x) → (later ≡ Some old → P old) → P old
latest-found_at p P true false x old later k e h rest = subst P (same_Some x old e) (h refl)
latest-found_at p P false false x old later k e h rest = cc
latest-found_at p P b true x old later k e h rest = rest e

latest-found : (p : Item → Bool) (P : Item → Type 0) (items : List Item) (old : Item) → latest p items ≡ Some old → AllByRecursion (λ x. p x ≡ true → P x) items → P old
latest-found p P [] old e h = cc
latest-found p P (x ∷ items) old e h = latest-found_at p P (p x) (list_any p items) x old (latest p items) (cases_Bool (list_any p items)) e h.0 (λ k. latest-found p P items old k h.1)

replaced-found : (c : Compress) (new old : Item) (P : Item → Type 0) (items : List Item) → replaced c new items ≡ Some old → AllByRecursion (λ x. are_alike new x ≡ true → P x) items → P old
replaced-found compress.Plain new old P items e h = cc
replaced-found compress.Last new old P items e h =
    let r = replaced-last new (last_of items) old e in
    all-at (λ x. are_alike new x ≡ true → P x) items (length items - 1) old h r.0 r.1
replaced-found compress.All new old P items e h = latest-found (are_alike new) P items old e h

-- what is known of an item that is like a request that is not sync
abbrev IsLike : Message → Item → Type 0
IsLike m (item.Message old sync level) = (body_call sync level old old.body ≡ []) × (old.number ≡ m.number)
IsLike m item.Broken = ⊥

like-silent : (m : Message) (old : Item) → IsLike m old → item_call old ≡ []
like-silent m (item.Message old sync level) h = h.0
like-silent m item.Broken h = absurd h

module _ (schema : Schema) (rows : HasSoundRows schema) (m : Message) (row : MessageRow) (found : request_row schema m.number ≡ Some row) where
  like-calls : (old : Message) (sync : Bool) (level : Level) (body : Body) → is_sync_row row ≡ false → old.number ≡ m.number → ArrivedAgrees schema old sync level body → body_call sync level old body ≡ []
  like-calls old sync level (Request vs) is n agrees =
      let same_row : row ≡ agrees.row = same_Some row agrees.row (sym found ∙ (ap (request_row schema) (sym n) ∙ agrees.found)) in
      ap (λ (b : Bool). listed b (call_of level old)) (sym agrees.is_sync ∙ (ap is_sync_row (sym same_row) ∙ is))
  like-calls old sync level (Reply vs) is n agrees = refl
  like-calls old sync level (Fault why) is n agrees = refl
  like-calls old sync level Goodbye is n agrees = refl

  like : (old : Item) → is_sync_row row ≡ false → ItemAgrees schema old → are_alike (delivery.item_of row m) old ≡ true → IsLike m old
  like (item.Message old sync level) is agrees e =
      let of : is_request_of m.number m.route (item.Message old sync level) ≡ true = and-right (is_request m.body) (is_request_of m.number m.route (item.Message old sync level)) e in
      let n : old.number ≡ m.number = eqb-true old.number m.number (and-right (is_request old.body) (old.number == m.number) (and-left (is_request old.body && old.number == m.number) (int_eq old.route m.route) of)) in
      (like-calls old sync level old.body is n agrees, n)
  like item.Broken is agrees e = absurd agrees

  all-like : (items : List Item) → is_sync_row row ≡ false → AllByRecursion (ItemAgrees schema) items → AllByRecursion (λ old. are_alike (delivery.item_of row m) old ≡ true → IsLike m old) items
  all-like items is h = all-map (ItemAgrees schema) (λ old. are_alike (delivery.item_of row m) old ≡ true → IsLike m old) items (λ old agrees e. like old is agrees e) h

  -- a request that is replaced is answered, by a reply that is not sync
  keeps-replacing : (old : Option Item) → is_sync_row row ≡ false → ((x : Item) → old ≡ Some x → IsLike m x) → KeepsTrack schema (delivery.replacing row old)
  keeps-replacing None is h w o a = a
  keeps-replacing (Some item.Broken) is h w o a = absurd (h item.Broken refl)
  keeps-replacing (Some (item.Message old sync level)) is h w o a =
      let number : old.number ≡ m.number = (h (item.Message old sync level) refl).1 in
      let change : Change = answered (request_answered old) (answer.Fault reason.ResolverDestroyed) in
      keeps-when schema (makes_promise row) change (keeps-answered schema (request_answered old) (answer.Fault reason.ResolverDestroyed)
      (ap (λ (n : ℕ). is_sync_number schema (n + 1)) number ∙ ((rows m.number row found).reply_sync ∙ is))) w (line (what.Replaced old.seq) o) a

  module _ (e : End) (stack : List SyncFrame) (rest : List Packet) (h : IsOpenEnd schema e stack) (vs : Values) (body_is : m.body ≡ Request vs) where
    abbrev new : Item
    new = delivery.item_of row m

    abbrev come_track : Track
    come_track = record { side = e.side; stack = e.stack; arrived = staying row.compress new e.arrived ++ new ∷ []; sent = [] }

    abbrev counted : Output
    counted = on_end (delivery.counted row new) (line (what.DeliverRequest m.seq) (beginning e))

    at-counted : IsOnTrack schema come_track counted.end []
    at-counted = at-start schema e counted.end stack refl refl refl h

    new-agree : ItemAgrees schema new
    new-agree = subst (ArrivedAgrees schema m (is_sync_row row) row.level) (sym body_is) (record { row = row; found = found; is_sync = refl; has_level = refl })

    new-calls : item_call new ≡ listed (is_sync_row row) (call_of row.level m)
    new-calls = ap (body_call (is_sync_row row) row.level m) body_is

    packet-is : sync_packet schema (message m) ≡ listed (is_sync_row row) (request (call_of row.level m))
    packet-is =
        let f = rows m.number row found in
        ap (sync_body (is_sync_number schema m.number) (level_of schema m.number) m) body_is
        ∙ (ap (λ (b : Bool). listed b (request (call_of (level_of schema m.number) m))) f.is_sync
        ∙ ap (λ (l : Level). listed (is_sync_row row) (request (call_of l m))) f.has_level)

    come-agree : AllByRecursion (ItemAgrees schema) come_track.arrived
    come-agree = all-append (ItemAgrees schema) (staying row.compress new e.arrived) (new ∷ []) (all-sublist (ItemAgrees schema) (staying row.compress new e.arrived) e.arrived (staying-sublist row.compress new e.arrived) h.arrived) (new-agree, tt)

    arrived-open : (o : Output) → IsOnTrack schema come_track o.end o.packets → IsOpenEnd schema o.end stack
    arrived-open o a = at-open schema come_track o.end o.packets stack a h.shows h.entries come-agree

    -- a request that is not sync
    async-arrives : is_sync_row row ≡ false → SyncStep schema e stack (message m ∷ rest) rest (delivery.request_arrives m row (line (what.DeliverRequest m.seq) (beginning e)))
    async-arrives is =
        let old : Option Item = replaced row.compress new e.arrived in
        let likes = all-like e.arrived is h.arrived in
        let o : Output = delivery.replacing row old counted in
        let a = keeps-replacing old is (λ x k. replaced-found row.compress new x (IsLike m) e.arrived k likes) come_track counted at-counted in
        let stay : sync_calls (staying row.compress new e.arrived) ≡ sync_calls e.arrived =
        staying-silent row.compress new e.arrived (all-map (λ old. are_alike new old ≡ true → IsLike m old) (IsSilentLike new) e.arrived (λ x k t. like-silent m x (k t)) likes) in
        let none_new : item_call new ≡ [] = new-calls ∙ ap (λ (b : Bool). listed b (call_of row.level m)) is in
        let calls : sync_calls come_track.arrived ≡ sync_calls e.arrived =
        calls-last (staying row.compress new e.arrived) new ∙ (ap (λ (qs : List Call). sync_calls (staying row.compress new e.arrived) ++ qs) none_new ∙ (append-nil (sync_calls (staying row.compress new e.arrived)) ∙ stay)) in
        let link : sync_packet schema (message m) ≡ [] = packet-is ∙ ap (λ (b : Bool). listed b (request (call_of row.level m))) is in
        no_step (arrived-open o a) (ap sync_calls a.arrived_is ∙ calls) (ap (λ (ps : List SyncPacket). ps ++ sync_packets schema rest) (sym link)) a.sent_is a.agree

    sync-arrives : is_sync_row row ≡ true → SyncStep schema e stack (message m ∷ rest) rest (delivery.request_arrives m row (line (what.DeliverRequest m.seq) (beginning e)))
    sync-arrives is =
        let c : row.compress ≡ compress.Plain = (rows m.number row found).compress is in
        let none_old : replaced row.compress new e.arrived ≡ None = ap (λ (k : Compress). replaced k new e.arrived) c in
        let stay : staying row.compress new e.arrived ≡ e.arrived = ap (λ (k : Compress). staying k new e.arrived) c in
        let o : Output = delivery.replacing row (replaced row.compress new e.arrived) counted in
        let a : IsOnTrack schema come_track o.end o.packets = subst (λ (n : Output). IsOnTrack schema come_track n.end n.packets) (sym (ap (λ (old : Option Item). delivery.replacing row old counted) none_old)) at-counted in
        let one_new : item_call new ≡ call_of row.level m ∷ [] = new-calls ∙ ap (λ (b : Bool). listed b (call_of row.level m)) is in
        let calls : sync_calls o.end.arrived ≡ sync_calls e.arrived ++ call_of row.level m ∷ [] =
        ap sync_calls a.arrived_is ∙ (calls-last (staying row.compress new e.arrived) new ∙ (ap (λ (items : List Item). sync_calls items ++ item_call new) stay ∙ ap (λ (qs : List Call). sync_calls e.arrived ++ qs) one_new)) in
        let link : sync_packets schema (message m ∷ rest) ≡ request (call_of row.level m) ∷ sync_packets schema rest = ap (λ (ps : List SyncPacket). ps ++ sync_packets schema rest) (packet-is ∙ ap (λ (b : Bool). listed b (request (call_of row.level m))) is) in
        one_step (arrived-open o a)
        (subst (λ (sent : List SyncPacket). Step e.side (sync_end stack (sync_calls e.arrived) (sync_packets schema (message m ∷ rest))) (sync_end stack (sync_calls o.end.arrived) (sync_packets schema rest)) sent) (sym a.sent_is)
        (subst (λ (qs : List Call). Step e.side (sync_end stack (sync_calls e.arrived) (sync_packets schema (message m ∷ rest))) (sync_end stack qs (sync_packets schema rest)) []) (sym calls)
        (subst (λ (ps : List SyncPacket). Step e.side (sync_end stack (sync_calls e.arrived) ps) (sync_end stack (sync_calls e.arrived ++ call_of row.level m ∷ []) (sync_packets schema rest)) []) (sym link) request_arrives))) a.agree

    arrives-by : (b : Bool) → is_sync_row row ≡ b → SyncStep schema e stack (message m ∷ rest) rest (delivery.request_arrives m row (line (what.DeliverRequest m.seq) (beginning e)))
    arrives-by true is = sync-arrives is
    arrives-by false is = async-arrives is

-- Every delivery

module _ (schema : Schema) (rows : HasSoundRows schema) (e : End) (stack : List SyncFrame) (rest : List Packet) (h : IsOpenEnd schema e stack) where
  message-delivered : (m : Message) (body : Body) → m.body ≡ body → PacketAgrees schema (message m) → ((below : List SyncPacket) → sync_packets schema (message m ∷ rest) ≡ reply (reply_head m) ∷ below → IsForTop stack (reply_head m))
      → SyncStep schema e stack (message m ∷ rest) rest (delivery.body_delivered schema m body (beginning e))
  message-delivered m (Request vs) is agrees top =
      let r : IsRequestNumber schema m.number = subst (BodyAgrees schema m) is agrees in
      subst (λ (found : Option MessageRow). SyncStep schema e stack (message m ∷ rest) rest (option_map_or (delivery.request_arrives m) found unchanged (line (what.DeliverRequest m.seq) (beginning e)))) (sym (request-message schema m.number r.row r.found))
      (arrives-by schema rows m r.row r.found e stack rest h vs is (is_sync_row r.row) refl)
  message-delivered m (Reply vs) is agrees top =
      let link : sync_packets schema (message m ∷ rest) ≡ listed (is_sync_number schema m.number) (reply (reply_head m)) ++ sync_packets schema rest = ap (λ (b : Body). sync_body (is_sync_number schema m.number) (level_of schema m.number) m b ++ sync_packets schema rest) is in
      reply-delivered schema e stack m rest h (subst IsReply (sym is) tt) (answer.Ok vs) (λ sync. top (sync_packets schema rest) (link ∙ ap (λ (b : Bool). listed b (reply (reply_head m)) ++ sync_packets schema rest) sync)) (message_of schema m.number) refl link
  message-delivered m (Fault why) is agrees top =
      let link : sync_packets schema (message m ∷ rest) ≡ listed (is_sync_number schema m.number) (reply (reply_head m)) ++ sync_packets schema rest = ap (λ (b : Body). sync_body (is_sync_number schema m.number) (level_of schema m.number) m b ++ sync_packets schema rest) is in
      reply-delivered schema e stack m rest h (subst IsReply (sym is) tt) (answer.Fault why) (λ sync. top (sync_packets schema rest) (link ∙ ap (λ (b : Bool). listed b (reply (reply_head m)) ++ sync_packets schema rest) sync)) (message_of schema m.number) refl link
  message-delivered m Goodbye is agrees top = drains refl (all_failed-answered e.stack) refl (ap (λ (b : Body). sync_body (is_sync_number schema m.number) (level_of schema m.number) m b ++ sync_packets schema rest) is)

  -- each sync reply on the link is for the wait on top
  pub delivered : (packet : Packet) → PacketAgrees schema packet → ((r : ReplyHead) (below : List SyncPacket) → sync_packets schema (packet ∷ rest) ≡ reply r ∷ below → IsForTop stack r) → SyncStep schema e stack (packet ∷ rest) rest (delivery.deliver schema packet (beginning e))
  delivered (message m) agrees top = message-delivered m m.body refl agrees (top (reply_head m))
  delivered mark agrees top = drains refl (all_failed-answered e.stack) refl refl
