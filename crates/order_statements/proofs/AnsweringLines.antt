-- Which requests the lines of a step answer: a request that has arrived and is dropped or replaced, or one that is
-- handled or kept.
use Rattle.std.proofs.Common.{◌≡◌, ℕ, ◌≤◌, ℤ, Bool, true, false, not, ◌&&◌, ◌==◌, if◌then◌else◌, cond, int_eq, List, [], ◌∷◌, ◌++◌, drop, find, map, Option, Some, None, option_map, refl, sym, ap, subst, ◌∙◌, arith}
use Rattle.std.specs.List.{AllByRecursion}
use Rattle.std.proofs.lemmas.Bool.{eqb-true, or_left, or_right}
use Rattle.std.proofs.lemmas.Option.{same_Some}
use Rattle.ipdl_base.specs.declared.kinds.Level.{Level}
use Rattle.ipdl_base.specs.declared.kinds.Reason.TheVariants as reason
use Rattle.ipdl_base.specs.declared.kinds.Destroy.{Destroy}
use Rattle.ipdl_base.specs.declared.kinds.SendRefusal.TheVariants as refusal
use Rattle.ipdl_base.specs.declared.line.What.{What}
use Rattle.ipdl_base.specs.declared.line.What.TheVariants as what
use Rattle.ipdl_base.specs.declared.message.Body.{Body}
use Rattle.ipdl_base.specs.declared.message.Body.TheVariants.{Fault, Goodbye, Reply, Request}
use Rattle.ipdl_base.specs.declared.message.Message.{Message}
use Rattle.ipdl_base.specs.declared.schema.MessageRow.{MessageRow}
use Rattle.ipdl_base.specs.declared.schema.Schema.{Schema}
use Rattle.ipdl_base.specs.declared.value.Values.{Values}
use Rattle.ipdl_base.specs.Sound.{message_of}
use Rattle.nesting_core.specs.declared.frame.Answer.{Answer}
use Rattle.nesting_core.specs.declared.frame.Answer.TheVariants as answer
use Rattle.nesting_core.specs.Frames.{head_of}
use Rattle.pending_queue.specs.declared.item.Item.{Item}
use Rattle.pending_queue.specs.declared.item.Item.TheVariants as item
use Rattle.pending_queue.specs.Compression.{are_alike, is_request, is_request_of, replaced, staying}
use Rattle.promise_table.specs.declared.promise.Outcome.{Outcome}
use Rattle.promise_table.specs.declared.promise.Outcome.TheVariants.{Resolved, Rejected}
use Rattle.channel_model.specs.Answers as answering
use Rattle.channel_model.specs.Deliveries as delivery
use Rattle.channel_model.specs.Ends.{End, NameContent, Naming, Packet, Resolver, StackEntry, actor, mark, message, resolver}
use Rattle.channel_model.specs.Events.{Answering, handled, kept}
use Rattle.channel_model.specs.Falls as fall
use Rattle.channel_model.specs.Names.{has_name, held_by_name}
use Rattle.ipdl_base.specs.Sides.{top_id}
use Rattle.channel_model.specs.Numbers.{is_sync_row, makes_promise, request_row}
use Rattle.channel_model.specs.Outputs.{AnsweredRequest, Output, answer_line, is_open, request_answered, resolver_answered}
use Rattle.channel_model.specs.Parts as parts
use Rattle.channel_model.specs.Parts.{DeliveryPart, FirstPart, IsRefusal, IsRenaming, LaterPart, LaterParts, OwnParts, end_after, fall_lines, reply_lines}
use Rattle.channel_model.specs.Phases.{Phase}
use Rattle.channel_model.specs.Returns as return
use Rattle.channel_model.specs.Sends as send
use Rattle.channel_model.specs.Takes as take
use Rattle.channel_model.proofs.Known.{all-following, all-both}
use Rattle.channel_model.proofs.Tests.{and-left, and-right}
use Rattle.channel_laws.specs.Arrivals.{item_kind}
use Rattle.channel_laws.specs.Counts.{how_many, is_packet, one_if}
use Rattle.channel_laws.specs.Notes.{Note}
use Rattle.channel_laws.specs.Origins.{BodyOrigin, ContentOrigin, EntryOrigin, HasOrigins, IsRequested, ItemOrigin, NamingOrigin, Origin}
use Rattle.channel_laws.proofs.Answering.{used-held}
use Rattle.channel_laws.proofs.ArrivalParts.{taken-first}
use Rattle.channel_laws.proofs.Arriving.{leaves-count, request-kind}
use Rattle.channel_laws.proofs.Counting.{int-same}
use Rattle.channel_laws.proofs.Leaving.{TakenFrom}
use Rattle.channel_laws.proofs.PartLines.{falls-have, closing-has, mapped-lines}
use Rattle.channel_laws.proofs.PrefixRuns.{all-taken}
use Rattle.channel_laws.proofs.Replacing.{alike-request, replaced-taken}
use Rattle.channel_laws.proofs.Rows.{request-message}
use Rattle.history_reading.specs.declared.parts.PacketKind.{PacketKind}
use Rattle.history_reading.specs.declared.parts.PacketKind.TheVariants as kind
use Rattle.history_reading.specs.Numbers.{has, same_packet}
use Rattle.law_statements.specs.Packets.{gone}
use Rattle.order_statements.specs.Shape.{number_answered, owes_reply}
use Rattle.order_statements.proofs.Dropping.{owes-same}
use Rattle.order_statements.proofs.Handling.{Anything, ContentIs, EndIs, EntryIs, HandledWereTaken, NamingIs, WasTaken, later-is, resolver-is, sent-is}
use Rattle.order_statements.proofs.LateReplies.{laters-state}
use Rattle.order_statements.proofs.OwedAnswers.{top-entry}
use Rattle.order_statements.proofs.Places.{PlaceIn, in_first, in_second, place-in}
use Rattle.order_statements.proofs.StepLines.{MadeOf, of_delivery, of_own}

-- a request of a number has arrived
abbrev pub HasArrived : End → ℤ → Type 0
HasArrived e n = 1 ≤ how_many (is_packet (kind.Request n)) (map item_kind e.arrived)

-- A request of this message was sent by the other end, and needs a reply.
pub record Owes (schema : Schema) (theirs : List Note) (n : ℤ) (number : ℕ) : Type 0 where
  pub route : ℤ
  pub requested : IsRequested theirs n route number
  pub owes : owes_reply schema number ≡ true

-- The request that a line answers, given these lines of its step before it: it was taken before, or has arrived and
-- is dropped or replaced.
pub data IsAnswered (e : End) (said front : List What) (n : ℤ) : Type 0 where
  was_taken : has (gone said) n ≡ true → IsAnswered e said front n
  is_dropped : HasArrived e n → (route : ℤ) (number : ℕ) (id : ℤ) → front ≡ what.Drop n route number id ∷ [] → IsAnswered e said front n
  is_replaced : HasArrived e n → (m : ℤ) → front ≡ what.DeliverRequest m ∷ what.Replaced n ∷ [] → IsAnswered e said front n

-- no line of an answer
abbrev NoAnswer : What → Type 0
NoAnswer w = number_answered w ≡ None

-- Places in lists

no-place : {A : Type 0} (front : List What) (w : What) (rest : List What) → [] ≡ front ++ w ∷ rest → A
no-place [] w rest e = cc
no-place (x ∷ front) w rest e = cc

none-there : {A : Type 0} (us front : List What) (w : What) (rest : List What) (n : ℤ) → AllByRecursion NoAnswer us → us ≡ front ++ w ∷ rest → number_answered w ≡ Some n → A
none-there [] front w rest n h e is = no-place front w rest e
none-there (u ∷ us) [] w rest n h e is = let same : u ≡ w = cc in let k : None ≡ Some n = sym h.0 ∙ (ap number_answered same ∙ is) in cc
none-there (u ∷ us) (x ∷ front) w rest n h e is = let more : us ≡ front ++ w ∷ rest = cc in none-there us front w rest n h.1 more is

-- the one line of a reply
reply-place : (b : Bool) (q : AnsweredRequest) (a : Answer) (front : List What) (w : What) (rest : List What) (n : ℤ) → reply_lines b q a ≡ front ++ w ∷ rest → number_answered w ≡ Some n → (b ≡ true) × (front ≡ []) × (n ≡ q.seq)
reply-place false q a front w rest n e is = no-place front w rest e
reply-place true q a [] w rest n e is = let same : answer_line q.seq a ≡ w = cc in (refl, refl, same_Some n q.seq (sym is ∙ (ap number_answered (sym same) ∙ number-of q.seq a)))
  where
    number-of : (seq : ℤ) (given : Answer) → number_answered (answer_line seq given) ≡ Some seq
    number-of seq (answer.Ok vs) = refl
    number-of seq (answer.Fault why) = refl
reply-place true q a (x ∷ front) w rest n e is = no-place front w rest cc

-- Lines that answer nothing

refusal-none : (schema : Schema) (w : What) → IsRefusal schema w → NoAnswer w
refusal-none schema (what.RefusedSend cause number) is = refl
refusal-none schema (what.RefusedClose cause) is = refl
refusal-none schema (what.RefusedResolve cause) is = refl
refusal-none schema (what.RefusedReject cause) is = refl
refusal-none schema _ is = absurd is

renaming-none : (w : What) → IsRenaming w → NoAnswer w
renaming-none (what.Keep seq name) is = refl
renaming-none (what.Let name id) is = refl
renaming-none _ is = absurd is

send-none : (b : Bool) (m : Message) (vs : Values) → NoAnswer (if b then what.Call m.seq m.transaction m.route m.number vs else what.Send m.seq m.route m.number vs)
send-none true m vs = refl
send-none false m vs = refl

resume-none : (seq : ℤ) (a : Answer) → NoAnswer (return.resume_line seq a)
resume-none seq (answer.Ok vs) = refl
resume-none seq (answer.Fault why) = refl

settle-none : (seq : ℤ) (outcome : Outcome) → NoAnswer (take.settle_line seq outcome)
settle-none seq (Resolved vs) = refl
settle-none seq (Rejected why) = refl

shut-none : (last : Item) → NoAnswer (parts.shut_line last)
shut-none (item.Message m sync level) = refl
shut-none item.Broken = refl

farewell-none : (packet : Packet) → NoAnswer (parts.farewell_line packet)
farewell-none (message m) = refl
farewell-none mark = refl

unknown-none : (seq : ℤ) (body : Body) → NoAnswer (parts.unknown_line seq body)
unknown-none seq (Request vs) = refl
unknown-none seq (Reply vs) = refl
unknown-none seq (Fault why) = refl
unknown-none seq Goodbye = refl

answering-number : (seq : ℤ) (vs : Option Values) → number_answered (answering.answering_line seq vs) ≡ Some seq
answering-number seq None = refl
answering-number seq (Some vs) = refl

-- What has arrived

one-arrived : (e : End) (rest : List Item) (m : Message) (sync : Bool) (level : Level) (vs : Values) → TakenFrom e.arrived rest (item.Message m sync level) → m.body ≡ Request vs → HasArrived e m.seq
one-arrived e rest m sync level vs t body =
    let counted = leaves-count (is_packet (kind.Request m.seq)) e.arrived rest (item.Message m sync level) t in
    let shows : same_packet (item_kind (item.Message m sync level)) (kind.Request m.seq) ≡ true = ap (λ (p : PacketKind). same_packet p (kind.Request m.seq)) (request-kind m.seq vs m.body body) ∙ int-same m.seq in
    let one : one_if (same_packet (item_kind (item.Message m sync level)) (kind.Request m.seq)) ≡ 1 = ap one_if shows in
    omega (arith, counted, one)

body-asked : (schema : Schema) (theirs : List Note) (m : Message) (vs : Values) → m.body ≡ Request vs → BodyOrigin schema theirs m m.body → Origin schema theirs m.seq m.route m.number
body-asked schema theirs m vs body h = subst (BodyOrigin schema theirs m) body h

request-body : (body : Body) → is_request body ≡ true → (vs : Values) × (body ≡ Request vs)
request-body (Request vs) h = (vs, refl)
request-body (Reply vs) h = cc
request-body (Fault why) h = cc
request-body Goodbye h = cc

-- A request that is replaced has arrived, was sent by the other end, and is of the message of the new one.
pub record OldRequest (schema : Schema) (theirs : List Note) (e : End) (m : Message) (row : MessageRow) (old : Message) (sync : Bool) (level : Level) : Type 0 where
  pub taken : TakenFrom e.arrived (staying row.compress (delivery.item_of row m) e.arrived) (item.Message old sync level)
  pub values : Values
  pub body : old.body ≡ Request values
  pub asked : Origin schema theirs old.seq old.route old.number
  pub number_is : old.number ≡ m.number

alike-number : (m old : Message) (sync olds : Bool) (level older : Level) → are_alike (item.Message m sync level) (item.Message old olds older) ≡ true → old.number ≡ m.number
alike-number m old sync olds level older h =
    eqb-true old.number m.number (and-right (is_request old.body) (old.number == m.number) (and-left (is_request old.body && old.number == m.number) (int_eq old.route m.route) (and-right (is_request m.body) (is_request_of m.number m.route (item.Message old olds older)) h)))

pub old-request : (schema : Schema) (theirs : List Note) (e : End) (m : Message) (row : MessageRow) (old : Message) (sync : Bool) (level : Level) → replaced row.compress (delivery.item_of row m) e.arrived ≡ Some (item.Message old sync level) → HasOrigins schema theirs e
    → OldRequest schema theirs e m row old sync level
old-request schema theirs e m row old sync level rep origins =
    let new : Item = delivery.item_of row m in
    let r = replaced-taken row.compress new e.arrived (item.Message old sync level) rep in
    let b : (values : Values) × (old.body ≡ Request values) = request-body old.body (alike-request new (item.Message old sync level) r.alike) in
    record {
      taken = r.taken;
      values = b.0;
      body = b.1;
      asked = body-asked schema theirs old b.0 b.1 (all-following (ItemOrigin schema theirs) r.taken.front (item.Message old sync level ∷ r.taken.back) (subst (AllByRecursion (ItemOrigin schema theirs)) r.taken.whole origins.arrived)).0;
      number_is = alike-number m old (is_sync_row row) sync row.level level r.alike;
    }

-- Names

content-is : (G : ℤ → ℕ → Type 0) (H : ℕ → Type 0) (name : List ℕ) (names : List Naming) (c : NameContent) → AllByRecursion (NamingIs G H) names → held_by_name name names ≡ Some c → ContentIs G H c
content-is G H name [] c h e = cc
content-is G H name (x ∷ xs) c h e = by (has_name name x) e (λ k. content-is G H name xs c h.1 k)
  where
    by : (b : Bool) → option_map (λ (y : Naming). y.holds) (cond b (Some x) (find (has_name name) xs)) ≡ Some c → (held_by_name name xs ≡ Some c → ContentIs G H c) → ContentIs G H c
    by true k rec = subst (ContentIs G H) (same_Some x.holds c k) h.0
    by false k rec = rec k

module _ (schema : Schema) (theirs : List Note) (said : List What) where
  -- a request of this number and message was sent by the other end, and taken
  abbrev Asked : ℤ → ℕ → Type 0
  Asked n number = ((route : ℤ) × IsRequested theirs n route number) × (has (gone said) n ≡ true)

  abbrev OwesReply : ℕ → Type 0
  OwesReply number = owes_reply schema number ≡ true

  promised-owes : (number : ℕ) (row : MessageRow) → request_row schema number ≡ Some row → makes_promise row ≡ true → OwesReply number
  promised-owes number row found makes = owes-same schema number row (request-message schema number row found) ∙ or_right (is_sync_row row) (makes_promise row) makes

  -- all that an end handles or keeps
  end-asked : (e : End) → HasOrigins schema theirs e → HandledWereTaken e said → EndIs Asked OwesReply e
  end-asked e origins taken = record {
    stack = all-both (EntryOrigin schema theirs) (EntryIs (WasTaken said) Anything) (EntryIs Asked OwesReply) e.stack
        (λ x o t. record { handled_is = λ dispatch. ((x.route, o.requested dispatch), t.handled_is dispatch); resolver_is = λ r. promised-owes x.number o.row o.found (o.resolves r) }) origins.entries taken.stack;
    names = all-both (NamingOrigin schema theirs) (NamingIs (WasTaken said) Anything) (NamingIs Asked OwesReply) e.names (λ x o t. by x.holds o t) origins.names taken.names;
  }
    where
      by : (c : NameContent) → ContentOrigin schema theirs c → ContentIs (WasTaken said) Anything c → ContentIs Asked OwesReply c
      by (actor id) o t = tt
      by (resolver r) o t = (((r.route, o.origin.requested), t.0), promised-owes r.number o.origin.row o.origin.found o.promised)

  -- What a line of an answer shows.
  pub record Tells (e : End) (front : List What) (n : ℤ) : Type 0 where
    pub number : ℕ
    pub owes : Owes schema theirs n number
    pub how : IsAnswered e said front n

  tells-asked : (e : End) (front : List What) (n : ℤ) (number : ℕ) → Asked n number → OwesReply number → Tells e front n
  tells-asked e front n number a o = record { number = number; owes = record { route = a.0.0; requested = a.0.1; owes = o }; how = was_taken a.1 }

  tells-at : (e : End) (front : List What) (m n : ℤ) (number : ℕ) → n ≡ m → Asked m number → OwesReply number → Tells e front n
  tells-at e front m n number same a o = subst (Tells e front) (sym same) (tells-asked e front m number a o)

  -- Later parts

  falls-none : (id : ℤ) (why : ℤ → Destroy) (e : End) → AllByRecursion NoAnswer (fall_lines id why e)
  falls-none id why e = falls-have NoAnswer (record { rejected = λ n r. refl; fell = λ a w. refl }) id why e

  -- only a name that loses a resolver answers, at an open end
  pub record LaterTells (e g : End) (front : List What) (n : ℤ) : Type 0 where
    pub opened : is_open g.state ≡ true
    pub tells : Tells e front n

  part-answers : {p q : Phase} {e f : End} {ws : List What} {ps : List Packet} → LaterPart p e ws ps f q → (p.renames ≡ true → EndIs Asked OwesReply e) → (start : End) (before front : List What) (w : What) (rest : List What) (n : ℤ) → ws ≡ front ++ w ∷ rest → number_answered w ≡ Some n
      → LaterTells start f before n
  part-answers (parts.unnames name may silent) h start before front w rest n at is = no-place front w rest at
  part-answers {e} (parts.lets_go name r may held opened) h start before front w rest n at is =
      let c = content-is Asked OwesReply name e.names (resolver r) (h may).names held in
      let p = reply-place true (resolver_answered r) (answer.Fault reason.ResolverDestroyed) front w rest n at is in
      record { opened = opened; tells = tells-at start before r.seq n r.number p.2 c.0 c.1 }
  part-answers (parts.names more actors) h start before front w rest n at is = no-place front w rest at
  part-answers (parts.releases seq closed) h start before front w rest n at is = no-place front w rest at
  part-answers (parts.keeps seq name r held closed) h start before front w rest n at is = no-place front w rest at
  part-answers (parts.builds id protocol more fresh built) h start before front w rest n at is = none-there (what.Built id protocol ∷ []) front w rest n (refl, tt) at is
  part-answers {e} (parts.deletes id due) h start before front w rest n at is = none-there (fall_lines id (fall.why_deleted id) e) front w rest n (falls-none id (fall.why_deleted id) e) at is
  part-answers {e} (parts.falls why due) h start before front w rest n at is =
      none-there (parts.abandoned_lines e ++ fall_lines top_id (λ id. why) (parts.abandoned_end e)) front w rest n (closing-has NoAnswer (record { rejected = λ k r. refl; fell = λ a d. refl }) why e) at is

  part-renames : {p q : Phase} {e f : End} {ws : List What} {ps : List Packet} → LaterPart p e ws ps f q → q.renames ≡ true → p.renames ≡ true
  part-renames (parts.unnames name may silent) r = may
  part-renames (parts.lets_go name x may held opened) r = may
  part-renames (parts.names more actors) r = r
  part-renames (parts.releases seq closed) r = r
  part-renames (parts.keeps seq name x held closed) r = r
  part-renames (parts.builds id protocol more fresh built) r = r
  part-renames (parts.deletes id due) r = r
  part-renames (parts.falls why due) r = r

  laters-answer : {p q : Phase} {e g : End} {ws : List What} {ps : List Packet} → LaterParts p e ws ps g q → (p.renames ≡ true → EndIs Asked OwesReply e) → (start : End) (before front : List What) (w : What) (rest : List What) (n : ℤ) → ws ≡ front ++ w ∷ rest → number_answered w ≡ Some n
      → LaterTells start g before n
  laters-answer parts.done h start before front w rest n at is = no-place front w rest at
  laters-answer {g} (parts.then {ws} {vs} part more) h start before front w rest n at is = by (place-in ws vs front w rest at) (λ later same. laters-answer more (λ r. later-is Asked OwesReply part (h (part-renames part r))) start before later w rest n same is)
    where
      by : PlaceIn ws vs front w rest → ((later : List What) → vs ≡ later ++ w ∷ rest → LaterTells start g before n) → LaterTells start g before n
      by (in_first between same after_is) rec =
          let one = part-answers part h start before front w between n same is in
          record { opened = ap is_open (laters-state more) ∙ one.opened; tells = one.tells }
      by (in_second later front_is same) rec = rec later same

  -- First parts

  following-state : (b : Bool) (e : End) → (end_after b e).state ≡ e.state
  following-state true e = refl
  following-state false e = refl

  open-and : (a b : Bool) → a && b ≡ true → (a ≡ true) × (b ≡ true)
  open-and true b h = (refl, h)
  open-and false b h = cc

  -- an answer that is not refused comes from an open end
  accepted-open : (e : End) (row : MessageRow) (by : Answering) (vs : Option Values) → answering.answer_refusal schema e row by vs ≡ None → is_open e.state ≡ true
  accepted-open e row by vs h = from (is_open e.state) h
    where
      from : (b : Bool) → (if not b then Some refusal.Closed else answering.resolver_refusal schema e row vs (answering.resolver_used e by)) ≡ None → b ≡ true
      from true k = refl
      from false k = cc

  used-asked : (e : End) (by : Answering) (r : Resolver) → answering.resolver_used e by ≡ Some r → EndIs Asked OwesReply e → Asked r.seq r.number × OwesReply r.number
  used-asked e (handled seq) r used h = resolver-is Asked OwesReply seq e.stack r h.stack used
  used-asked e (kept name number) r used h = content-is Asked OwesReply name e.names (resolver r) h.names (used-held number r (held_by_name name e.names) used)

  used-state : (by : Answering) (e : End) → (answering.without_resolver by e).state ≡ e.state
  used-state (handled seq) e = refl
  used-state (kept name number) e = refl

  -- one line
  single : (v : What) (front : List What) (w : What) (rest : List What) (n m : ℤ) → v ∷ [] ≡ front ++ w ∷ rest → number_answered w ≡ Some n → number_answered v ≡ Some m → n ≡ m
  single v [] w rest n m e is has_number = let same : v ≡ w = cc in same_Some n m (sym is ∙ (ap number_answered (sym same) ∙ has_number))
  single v (x ∷ front) w rest n m e is has_number = no-place front w rest cc

  top-asked : (e : End) (entry : StackEntry) → return.dispatch_on_top e.stack ≡ Some entry → EndIs Asked OwesReply e → Asked (head_of entry.frame).seq entry.number × (entry.resolves ≡ true → OwesReply entry.number)
  top-asked e entry top h = let t = top-entry (EntryIs Asked OwesReply) e.stack entry top h.stack in (t.0.handled_is t.1, t.0.resolver_is)

  first-answers : {e f : End} {us : List What} {ps : List Packet} {p : Phase} → FirstPart schema e us ps f p → HasOrigins schema theirs e → EndIs Asked OwesReply e → (front : List What) (w : What) (rest : List What) (n : ℤ) → us ≡ front ++ w ∷ rest → number_answered w ≡ Some n
      → LaterTells e f front n
  first-answers (parts.refuses v r) origins h front w rest n at is = none-there (v ∷ []) front w rest n (refusal-none schema v r, tt) at is
  first-answers (parts.renames v r) origins h front w rest n at is = none-there (v ∷ []) front w rest n (renaming-none v r, tt) at is
  first-answers (parts.flushes opened) origins h front w rest n at is = none-there (_ ∷ []) front w rest n (refl, tt) at is
  first-answers (parts.sends {e = x} row route vs name sent) origins h front w rest n at is = none-there (_ ∷ []) front w rest n (send-none (is_sync_row row) (send.request_of x row route vs) vs, tt) at is
  first-answers (parts.answers {e = x} by vs r row found may accepted used) origins h front w rest n at is =
      let a = used-asked x by r used h in
      record { opened = ap is_open (used-state by x) ∙ accepted-open x row by vs accepted; tells = tells-at x front r.seq n r.number (single (answering.answering_line r.seq vs) front w rest n r.seq at is (answering-number r.seq vs)) a.0 a.1 }
  first-answers (parts.closes opened none) origins h front w rest n at is = none-there (what.Close ∷ []) front w rest n (refl, tt) at is
  first-answers (parts.dies opened) origins h front w rest n at is = none-there (what.Die ∷ []) front w rest n (refl, tt) at is
  first-answers (parts.dies_silent closed dead) origins h front w rest n at is = none-there (what.Die ∷ []) front w rest n (refl, tt) at is
  first-answers (parts.takes m sync level row vs next body found stays) origins h front w rest n at is = none-there (_ ∷ []) front w rest n (refl, tt) at is
  first-answers (parts.drops {e = x} m sync level row vs id told next body found gone is_told) origins h [] w rest n at is = let same : what.Drop m.seq m.route m.number id ≡ w = cc in let k : None ≡ Some n = ap number_answered same ∙ is in cc
  first-answers (parts.drops {e = x} m sync level row vs id told next body found gone is_told) origins h (v ∷ front) w rest n at is =
      let first : what.Drop m.seq m.route m.number id ≡ v = cc in
      let more : reply_lines told (request_answered m) (answer.Fault reason.ActorDestroyed) ≡ front ++ w ∷ rest = cc in
      let p = reply-place told (request_answered m) (answer.Fault reason.ActorDestroyed) front w rest n more is in
      let o = open-and (is_open x.state) (parts.owes_reply row) (sym is_told ∙ p.0) in
      let asked = body-asked schema theirs m vs body (all-taken (ItemOrigin schema theirs) x (item.Message m sync level) next origins.arrived) in
      let front_is : v ∷ front ≡ what.Drop n m.route m.number id ∷ [] = ap (λ (xs : List What). v ∷ xs) p.1 ∙ (ap (λ (y : What). y ∷ []) (sym first) ∙ ap (λ (k : ℤ). what.Drop k m.route m.number id ∷ []) (sym p.2)) in
      record {
        opened = ap is_open (following-state told (parts.left_end x)) ∙ o.0;
        tells = record {
          number = m.number;
          owes = subst (λ (k : ℤ). Owes schema theirs k m.number) (sym p.2) (record { route = m.route; requested = asked.requested; owes = owes-same schema m.number row found ∙ o.1 });
          how = is_dropped (subst (HasArrived x) (sym p.2) (one-arrived x _ m sync level vs (taken-first x (item.Message m sync level) next).taken body)) m.route m.number id front_is;
        };
      }
  first-answers (parts.drops_unknown m sync level vs next body found) origins h front w rest n at is = none-there (_ ∷ []) front w rest n (refl, tt) at is
  first-answers (parts.takes_reply m sync level a next body settling) origins h front w rest n at is = none-there (_ ∷ []) front w rest n (refl, tt) at is
  first-answers (parts.settles m sync level row a next body found awaited) origins h front w rest n at is = none-there (_ ∷ _ ∷ []) front w rest n (refl, (settle-none m.seq _, tt)) at is
  first-answers (parts.shuts last next farewell) origins h front w rest n at is = none-there (_ ∷ []) front w rest n (shut-none last, tt) at is
  first-answers (parts.returns {e = x} entry row vs told lost ret told_is lost_is) origins h [] w rest n at is = let same : what.Return (head_of entry.frame).seq ≡ w = cc in let k : None ≡ Some n = ap number_answered same ∙ is in cc
  first-answers (parts.returns {e = x} entry row vs told lost ret told_is lost_is) origins h (v ∷ front) w rest n at is = by (place-in answers loses front w rest more)
    where
      answers : List What
      answers = reply_lines told (return.dispatch_answered entry) (return.return_answer schema x row entry vs)

      loses : List What
      loses = reply_lines lost (resolver_answered (answering.resolver_in entry)) (answer.Fault reason.ResolverDestroyed)

      more : answers ++ loses ≡ front ++ w ∷ rest
      more = cc

      popped : End
      popped = record x { stack = drop 1 x.stack }

      state-same : (end_after lost (end_after told popped)).state ≡ x.state
      state-same = following-state lost (end_after told popped) ∙ following-state told popped

      by : PlaceIn answers loses front w rest → LaterTells x (end_after lost (end_after told (record x { stack = drop 1 x.stack }))) (v ∷ front) n
      by (in_first between same after_is) =
          let p = reply-place told (return.dispatch_answered entry) (return.return_answer schema x row entry vs) front w between n same is in
          let o = open-and (is_open x.state) (is_sync_row row) (sym told_is ∙ p.0) in
          let owes : OwesReply entry.number = owes-same schema entry.number row (request-message schema entry.number row ret.found) ∙ or_left (is_sync_row row) (makes_promise row) o.1 in
          record { opened = ap is_open state-same ∙ o.0; tells = tells-at x (v ∷ front) (head_of entry.frame).seq n entry.number p.2 (top-asked x entry ret.on_top h).0 owes }
      by (in_second later front_is same) =
          let p = reply-place lost (resolver_answered (answering.resolver_in entry)) (answer.Fault reason.ResolverDestroyed) later w rest n same is in
          let o = open-and (is_open x.state) entry.resolves (sym lost_is ∙ p.0) in
          let t = top-asked x entry ret.on_top h in
          record { opened = ap is_open state-same ∙ o.0; tells = tells-at x (v ∷ front) (head_of entry.frame).seq n entry.number p.2 t.0 (t.1 o.1) }
  first-answers (parts.resumes {e = x} wait row top found) origins h front w rest n at is = none-there (_ ∷ []) front w rest n (resume-none wait.seq _, tt) at is

  -- a part after which a name may lose a resolver changes no resolver
  first-renames : {e f : End} {us : List What} {ps : List Packet} {p : Phase} → FirstPart schema e us ps f p → p.renames ≡ true → EndIs Asked OwesReply e → EndIs Asked OwesReply f
  first-renames (parts.refuses v r) renames h = cc
  first-renames (parts.renames v r) renames h = h
  first-renames (parts.flushes opened) renames h = cc
  first-renames (parts.sends {e = x} row route vs name sent) renames h = sent-is Asked OwesReply row (send.request_of x row route vs) x h
  first-renames (parts.answers by vs r row found may accepted used) renames h = cc
  first-renames (parts.closes opened none) renames h = cc
  first-renames (parts.dies opened) renames h = cc
  first-renames (parts.dies_silent closed dead) renames h = cc
  first-renames (parts.takes m sync level row vs next body found stays) renames h = cc
  first-renames (parts.drops m sync level row vs id told next body found gone is_told) renames h = cc
  first-renames (parts.drops_unknown m sync level vs next body found) renames h = cc
  first-renames (parts.takes_reply m sync level a next body settling) renames h = cc
  first-renames (parts.settles m sync level row a next body found awaited) renames h = cc
  first-renames (parts.shuts last next farewell) renames h = cc
  first-renames (parts.returns entry row vs told lost ret told_is lost_is) renames h = cc
  first-renames (parts.resumes wait row top found) renames h = cc

  own-answers : {e g : End} {ws : List What} {ps : List Packet} {q : Phase} → OwnParts schema e ws ps g q → HasOrigins schema theirs e → EndIs Asked OwesReply e → (front : List What) (w : What) (rest : List What) (n : ℤ) → ws ≡ front ++ w ∷ rest → number_answered w ≡ Some n → LaterTells e g front n
  own-answers {e} {g} (parts.begun {ws = us} {vs = vs} first later over) origins h front w rest n at is = by (place-in us vs front w rest at)
    where
      by : PlaceIn us vs front w rest → LaterTells e g front n
      by (in_first between same after_is) = let one = first-answers first origins h front w between n same is in record { opened = ap is_open (laters-state later) ∙ one.opened; tells = one.tells }
      by (in_second after front_is same) = laters-answer later (λ r. first-renames first r h) e front after w rest n same is

  -- Deliveries

  delivery-answers : {packet : Packet} {e f : End} {ws : List What} {ps : List Packet} {q : Phase} → DeliveryPart schema packet e ws ps f q → is_open e.state ≡ true → HasOrigins schema theirs e → (front : List What) (w : What) (rest : List What) (n : ℤ) → ws ≡ front ++ w ∷ rest → number_answered w ≡ Some n → LaterTells e f front n
  delivery-answers (parts.gets_request m row vs body found none) opened origins front w rest n at is = none-there (_ ∷ []) front w rest n (refl, tt) at is
  delivery-answers (parts.replaces {e = x} m row vs old sync level told body found rep is_told) opened origins front w rest n at is = by front at
    where
      o : OldRequest schema theirs x m row old sync level
      o = old-request schema theirs x m row old sync level rep origins

      loses : List What
      loses = reply_lines told (request_answered old) (answer.Fault reason.ResolverDestroyed)

      by : (front : List What) → what.DeliverRequest m.seq ∷ what.Replaced old.seq ∷ loses ≡ front ++ w ∷ rest → LaterTells x (end_after told (delivery.counted row (delivery.item_of row m) x)) front n
      by [] e = let same : what.DeliverRequest m.seq ≡ w = cc in let k : None ≡ Some n = ap number_answered same ∙ is in cc
      by (v ∷ []) e = let same : what.Replaced old.seq ≡ w = cc in let k : None ≡ Some n = ap number_answered same ∙ is in cc
      by (v ∷ u ∷ later) e =
          let first : what.DeliverRequest m.seq ≡ v = cc in
          let second : what.Replaced old.seq ≡ u = cc in
          let more : loses ≡ later ++ w ∷ rest = cc in
          let p = reply-place told (request_answered old) (answer.Fault reason.ResolverDestroyed) later w rest n more is in
          let makes : makes_promise row ≡ true = sym is_told ∙ p.0 in
          let owes : OwesReply old.number = owes-same schema old.number row (ap (message_of schema) o.number_is ∙ found) ∙ or_right (is_sync_row row) (makes_promise row) makes in
          let front_is : v ∷ u ∷ later ≡ what.DeliverRequest m.seq ∷ what.Replaced n ∷ [] =
          ap (λ (xs : List What). v ∷ u ∷ xs) p.1 ∙ (ap (λ (y : What). y ∷ u ∷ []) (sym first) ∙ (ap (λ (y : What). what.DeliverRequest m.seq ∷ y ∷ []) (sym second) ∙ ap (λ (k : ℤ). what.DeliverRequest m.seq ∷ what.Replaced k ∷ []) (sym p.2))) in
          record {
            opened = ap is_open (following-state told (delivery.counted row (delivery.item_of row m) x)) ∙ opened;
            tells = record {
              number = old.number;
              owes = subst (λ (k : ℤ). Owes schema theirs k old.number) (sym p.2) (record { route = old.route; requested = o.asked.requested; owes = owes });
              how = is_replaced (subst (HasArrived x) (sym p.2) (one-arrived x (staying row.compress (delivery.item_of row m) x.arrived) old sync level o.values o.taken o.body)) m.seq front_is;
            };
          }
  delivery-answers (parts.gets_answer m row a body found sync) opened origins front w rest n at is = none-there (_ ∷ []) front w rest n (refl, tt) at is
  delivery-answers (parts.gets_reply m row a body found sync) opened origins front w rest n at is = none-there (_ ∷ []) front w rest n (refl, tt) at is
  delivery-answers (parts.drains {e = x} packet farewell) opened origins front w rest n at is =
      none-there (parts.farewell_line packet ∷ map what.Fails (delivery.unanswered x)) front w rest n (farewell-none packet, mapped-lines NoAnswer what.Fails (delivery.unanswered x) (λ k. refl)) at is
  delivery-answers (parts.passes_by m farewell found) opened origins front w rest n at is = none-there (_ ∷ []) front w rest n (unknown-none m.seq m.body, tt) at is

  -- the request that a line of a step answers
  pub step-answers : (e : End) (output : Output) (ws : List What) → MadeOf schema e output ws → HasOrigins schema theirs e → HandledWereTaken e said → (front : List What) (w : What) (rest : List What) (n : ℤ) → ws ≡ front ++ w ∷ rest → number_answered w ≡ Some n → LaterTells e output.end front n
  step-answers e output ws (of_own own) origins taken front w rest n at is = own-answers own origins (end-asked e origins taken) front w rest n at is
  step-answers e output ws (of_delivery packet opened part) origins taken front w rest n at is = delivery-answers part opened origins front w rest n at is
