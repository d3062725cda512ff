-- What sync frames show of the innermost wait, and of what is possible at an end.
use Rattle.channel_laws.proofs.Track.{frames_in}
use Rattle.std.proofs.Common.{◌≡◌, pos, Bool, true, false, not, ◌&&◌, cond, List, [], ◌∷◌, ◌++◌, map, find, Option, Some, None, option_and_then, is_some, refl, sym, ap, subst, ◌∙◌}
use Rattle.std.specs.List.{AllByRecursion}
use Rattle.std.specs.Option.{unwrap_or}
use Rattle.ipdl_base.specs.declared.kinds.Level.{Level}
use Rattle.ipdl_base.specs.declared.kinds.Side.{Side}
use Rattle.ipdl_base.specs.declared.message.Body.{Body}
use Rattle.ipdl_base.specs.declared.message.Body.TheVariants.{Request, Reply, Fault, Goodbye}
use Rattle.ipdl_base.specs.declared.message.Message.{Message}
use Rattle.ipdl_base.specs.declared.schema.MessageRow.{MessageRow}
use Rattle.ipdl_base.specs.declared.schema.Schema.{Schema}
use Rattle.ipdl_base.specs.Deferral.{defers_arrival, request as request_arrival}
use Rattle.nesting_core.specs.declared.frame.Answer.{Answer}
use Rattle.nesting_core.specs.declared.frame.StackFrame.{StackFrame}
use Rattle.nesting_core.specs.declared.frame.StackFrame.TheVariants.{Dispatch, Wait}
use Rattle.nesting_core.specs.declared.frame.Head.{Head}
use Rattle.nesting_core.specs.Answers.{awaited}
use Rattle.nesting_core.specs.Deferral.{awaited_level, inner_transaction}
use Rattle.nesting_core.specs.Top.{top_of}
use Rattle.pending_queue.specs.declared.deferral_context.DeferralContext.{DeferralContext}
use Rattle.pending_queue.specs.declared.item.Item.{Item}
use Rattle.pending_queue.specs.declared.item.Item.TheVariants as item
use Rattle.pending_queue.specs.DeferralContext.{is_free, arrival_of_body}
use Rattle.channel_model.specs.Deliveries as delivery
use Rattle.ipdl_base.specs.declared.kinds.EndState.{EndState}
use Rattle.ipdl_base.specs.declared.kinds.EndState.TheVariants.{Open}
use Rattle.channel_model.specs.Ends.{End, StackEntry, Packet}
use Rattle.channel_model.specs.Events as event
use Rattle.channel_model.specs.Numbers.{request_row}
use Rattle.channel_model.specs.Outputs.{is_open}
use Rattle.channel_model.specs.Returns as returns
use Rattle.channel_model.specs.Sends.{frames_of}
use Rattle.channel_model.specs.Steps.{step, provided}
use Rattle.channel_model.specs.Takes as takes
use Rattle.channel_laws.proofs.Takes.{holding-same}
use Rattle.channel_laws.specs.Laws.{awaited_reply}
use Rattle.channel_laws.specs.NestedWorlds.{sync_end_of}
use Rattle.channel_laws.specs.OpenEnds.{EntryAgrees, IsOpenEnd}
use Rattle.channel_laws.specs.SyncCalls.{listed, call_of, sync_packets, body_call, item_call, sync_calls}
use Rattle.channel_laws.specs.SyncStack.{empty, async_base, waits, handles, Shows, no_answer, cpow_on_top, ShowsUnderAnswer, has_answer, no_cpow}
use Rattle.nesting_laws.specs.Calls.{Call, wait, dispatch, SyncPacket, sync_end, ReplyHead, reply_of, SyncFrame}
use Rattle.nesting_laws.specs.Progress.{IsForTop, CanMove, delivers, returns as has_return, takes as has_take}
use Rattle.nesting_laws.specs.Steps.{MayTake, IsInserted, here, there}

-- The innermost wait

awaited_answered : (side : Side) {entries : List StackEntry} {w : Call} {below : List SyncFrame} → ShowsUnderAnswer side entries (wait w ∷ below) → awaited_reply entries ≡ Some (reply_of w)
awaited_answered side (no_answer (waits s k f p)) = refl
awaited_answered side (has_answer f p) = absurd f

pub awaited-top : (side : Side) {entries : List StackEntry} {w : Call} {below : List SyncFrame} → Shows side entries (wait w ∷ below) → awaited_reply entries ≡ Some (reply_of w)
awaited-top side (no_cpow a) = awaited_answered side a
awaited-top side (cpow_on_top s e a) = awaited_answered side a

pub awaited-for : (side : Side) (entries : List StackEntry) (stack : List SyncFrame) (r : ReplyHead) → Shows side entries stack → IsForTop stack r → awaited_reply entries ≡ Some r
awaited-for side entries [] r h top = absurd top
awaited-for side entries (wait w ∷ below) r h top = awaited-top side h ∙ ap (λ (n : ReplyHead). Some n) top
awaited-for side entries (dispatch d ∷ below) r h top = absurd top

nothing_answered : (side : Side) {entries : List StackEntry} → ShowsUnderAnswer side entries [] → awaited (frames_in entries) ≡ None
nothing_answered side (no_answer empty) = refl
nothing_answered side (no_answer (async_base s n)) = refl
nothing_answered side (has_answer f empty) = refl
nothing_answered side (has_answer f (async_base s n)) = refl

pub nothing_awaited : (side : Side) {entries : List StackEntry} → Shows side entries [] → awaited (frames_in entries) ≡ None
nothing_awaited side (no_cpow a) = nothing_answered side a
nothing_awaited side (cpow_on_top s e a) = nothing_answered side a

-- An end at which nothing happens by itself

pub record IsAtRest (schema : Schema) (e : End) (link : List Packet) : Type 0 where
  pub deliver : is_some (step schema e link event.deliver) ≡ false
  pub take : is_some (step schema e link event.take) ≡ false
  pub return : is_some (step schema e link (event.return None)) ≡ false
  pub resume : is_some (step schema e link event.resume) ≡ false

provided-some : (b : Bool) (change : _) (e : End) → b ≡ true → is_some (provided b change e) ≡ true
provided-some true change e h = refl
provided-some false change e h = cc

-- a packet on the link is delivered
delivers-at : (schema : Schema) (e : End) (stack : List SyncFrame) (link : List Packet) {first : SyncPacket} {later : List SyncPacket} → IsOpenEnd schema e stack → sync_packets schema link ≡ first ∷ later → is_some (step schema e link event.deliver) ≡ true
delivers-at schema e stack [] h is = cc
delivers-at schema e stack (packet ∷ rest) h is = provided-some (is_open e.state) (delivery.deliver schema packet) e (ap is_open h.state)

-- a dispatch on top returns
returns-entry : (schema : Schema) (e : End) (link : List Packet) (entry : StackEntry) → EntryAgrees schema entry → returns.dispatch_on_top e.stack ≡ Some entry → is_some (step schema e link (event.return None)) ≡ true
returns-entry schema e link entry agrees top =
    ap (λ (x : Option StackEntry). is_some (option_and_then (λ entry. option_and_then (λ row. provided (returns.may_return schema row None) (returns.return schema e row entry None) e) (request_row schema entry.number)) x)) top
    ∙ ap (λ (x : Option MessageRow). is_some (option_and_then (λ row. provided (returns.may_return schema row None) (returns.return schema e row entry None) e) x)) agrees.found

top-dispatch : (stack : List StackEntry) (head : Head) (frames : List StackFrame) → map (λ (x : StackEntry). x.frame) stack ≡ Dispatch head ∷ frames → (entry : StackEntry) × ((below : List StackEntry) × ((stack ≡ entry ∷ below) × (returns.dispatch_on_top stack ≡ Some entry)))
top-dispatch [] head frames is = cc
top-dispatch (entry ∷ below) head frames is =
    let f : entry.frame ≡ Dispatch head = cc in
    (entry, (below, (refl, ap (λ (x : StackFrame). elim x as (λ y. Option StackEntry) [ Dispatch head ↦ Some entry | Wait head a ↦ None ]) f)))

returns-at : (schema : Schema) (e : End) (stack : List SyncFrame) (link : List Packet) (head : Head) (frames : List StackFrame) → IsOpenEnd schema e stack → frames_of e ≡ Dispatch head ∷ frames → is_some (step schema e link (event.return None)) ≡ true
returns-at schema e stack link head frames h is =
    let r = top-dispatch e.stack head frames is in
    returns-entry schema e link r.0 (subst (AllByRecursion (EntryAgrees schema)) r.1.1.0 h.entries).0 r.1.1.1

-- a call with its answer on top continues
top-answered : (stack : List StackEntry) (head : Head) (a : Answer) (frames : List StackFrame) → map (λ (x : StackEntry). x.frame) stack ≡ Wait head (Some a) ∷ frames → (entry : StackEntry) × ((below : List StackEntry) × ((stack ≡ entry ∷ below) × (returns.answered_wait_on_top stack ≡ Some (record { seq = head.seq; number = entry.number; given = a }))))
top-answered [] head a frames is = cc
top-answered (entry ∷ below) head a frames is =
    let f : entry.frame ≡ Wait head (Some a) = cc in
    (entry, (below, (refl, ap (returns.answered_wait_of entry.number) f)))

resumes-at : (schema : Schema) (e : End) (stack : List SyncFrame) (link : List Packet) (head : Head) (a : Answer) (frames : List StackFrame) → IsOpenEnd schema e stack → frames_of e ≡ Wait head (Some a) ∷ frames → is_some (step schema e link event.resume) ≡ true
resumes-at schema e stack link head a frames h is =
    let r = top-answered e.stack head a frames is in
    let agrees : EntryAgrees schema r.0 = (subst (AllByRecursion (EntryAgrees schema)) r.1.1.0 h.entries).0 in
    ap (λ (x : Option returns.AnsweredWait). is_some (option_and_then (λ wait. option_and_then (λ row. provided true (returns.resume schema e wait row) e) (request_row schema wait.number)) x)) r.1.1.1
    ∙ ap (λ (x : Option MessageRow). is_some (option_and_then (λ row. provided true (returns.resume schema e (record { seq = head.seq; number = r.0.number; given = a }) row) e) x)) agrees.found

-- an item that is not deferred is taken

data AtMostOne : List Call → Type 0 where
  no_call : AtMostOne []
  one_call : {c : Call} → AtMostOne (c ∷ [])

listed-few : (b : Bool) (c : Call) → AtMostOne (listed b c)
listed-few true c = one_call
listed-few false c = no_call

body-few : (sync : Bool) (level : Level) (m : Message) (body : Body) → AtMostOne (body_call sync level m body)
body-few sync level m (Request vs) = listed-few sync (call_of level m)
body-few sync level m (Reply vs) = no_call
body-few sync level m (Fault why) = no_call
body-few sync level m Goodbye = no_call

item-few : (x : Item) → AtMostOne (item_call x)
item-few (item.Message m sync level) = body-few sync level m m.body
item-few item.Broken = no_call

-- what is awaited does not defer the call
abbrev IsFreeUnder : DeferralContext → Call → Type 0
IsFreeUnder h q = not (defers_arrival h.side h.level (Some h.transaction) (request_arrival true q.level q.transaction)) ≡ true

listed-free : (h : DeferralContext) (sync : Bool) (level : Level) (m : Message) (q : Call) → listed sync (call_of level m) ≡ q ∷ [] → IsFreeUnder h q → not (defers_arrival h.side h.level (Some h.transaction) (request_arrival sync level m.transaction)) ≡ true
listed-free h true level m q e free = let s : q ≡ call_of level m = cc in subst (IsFreeUnder h) s free
listed-free h false level m q e free = cc

body-free : (h : DeferralContext) (sync : Bool) (level : Level) (m : Message) (body : Body) (q : Call) → body_call sync level m body ≡ q ∷ [] → IsFreeUnder h q → not (defers_arrival h.side h.level (Some h.transaction) (arrival_of_body sync level m.transaction body)) ≡ true
body-free h sync level m (Request vs) q e free = listed-free h sync level m q e free
body-free h sync level m (Reply vs) q e free = cc
body-free h sync level m (Fault why) q e free = cc
body-free h sync level m Goodbye q e free = cc

item-free : (h : DeferralContext) (x : Item) (q : Call) → item_call x ≡ q ∷ [] → IsFreeUnder h q → is_free h x ≡ true
item-free h (item.Message m sync level) q e free = body-free h sync level m m.body q e free
item-free h item.Broken q e free = cc

some-later : {A : Type 0} (b : Bool) (x : A) (later : Option A) → is_some later ≡ true → is_some (cond b (Some x) later) ≡ true
some-later true x later h = refl
some-later false x later h = h

some-here : {A : Type 0} (b : Bool) (x : A) (later : Option A) → b ≡ true → is_some (cond b (Some x) later) ≡ true
some-here true x later h = refl
some-here false x later h = cc

found-at : (h : DeferralContext) (x : Item) (items : List Item) (q : Call) {rest cs : List Call} → item_call x ≡ cs → AtMostOne cs → IsInserted q rest (cs ++ sync_calls items) → IsFreeUnder h q → ((some : List Call) → IsInserted q some (sync_calls items) → is_some (find (is_free h) items) ≡ true) → is_some (find (is_free h) (x ∷ items)) ≡ true
found-at h x items q e no_call i free later = some-later (is_free h x) x (find (is_free h) items) (later _ i)
found-at h x items q e one_call here free later = some-here (is_free h x) x (find (is_free h) items) (item-free h x q e free)
found-at h x items q e one_call (there i) free later = some-later (is_free h x) x (find (is_free h) items) (later _ i)

found-free : (h : DeferralContext) (items : List Item) (q : Call) {rest : List Call} → IsInserted q rest (sync_calls items) → IsFreeUnder h q → is_some (find (is_free h) items) ≡ true
found-free h [] q i free = elim i [ ]
found-free h (x ∷ items) q i free = found-at h x items q refl (item-few x) i free (λ some j. found-free h items q j free)

takes-step : (schema : Schema) (e : End) (link : List Packet) → e.state ≡ Open → takes.takes_under (top_of (frames_of e)) ≡ true → is_some (takes.first_free e) ≡ true → is_some (step schema e link event.take) ≡ true
takes-step schema e link is_open_end under some = found (takes.first_free e) refl some
  where
    found : (x : Option Item) → takes.first_free e ≡ x → is_some x ≡ true → is_some (step schema e link event.take) ≡ true
    found None is h = cc
    found (Some x) is h =
        let next : takes.taken_next e ≡ Some x = ap (λ (s : EndState). cond (takes.takes_in_state s && takes.takes_under (top_of (frames_of e))) (takes.first_free e) None) is_open_end ∙ (ap (λ (b : Bool). cond b (takes.first_free e) None) under ∙ is) in
        ap (λ (o : Option Item). is_some (option_and_then (λ item. provided true (takes.take schema item) e) o)) next

module _ (schema : Schema) (e : End) (stack : List SyncFrame) (link : List Packet) (h : IsOpenEnd schema e stack) (r : IsAtRest schema e link) where
  -- what happens is not possible
  not_possible : {A : Type 0} (b : Bool) → b ≡ true → b ≡ false → A
  not_possible b x y = let k : true ≡ false = sym x ∙ y in cc

  -- the top is not a dispatch, and not an answered wait
  no_dispatch : {A : Type 0} (head : Head) (frames : List StackFrame) → frames_of e ≡ Dispatch head ∷ frames → A
  no_dispatch head frames is = not_possible (is_some (step schema e link (event.return None))) (returns-at schema e stack link head frames h is) r.return

  no_answered : {A : Type 0} (head : Head) (a : Answer) (frames : List StackFrame) → frames_of e ≡ Wait head (Some a) ∷ frames → A
  no_answered head a frames is = not_possible (is_some (step schema e link event.resume)) (resumes-at schema e stack link head a frames h is) r.resume

  rests-no_return : {A : Type 0} {d : Call} {below : List SyncFrame} (entries : List StackEntry) → e.stack ≡ entries → Shows e.side entries (dispatch d ∷ below) → A
  rests-no_return entries is (no_cpow (no_answer (handles {head} {entries = es} s p))) = no_dispatch head (frames_in es) (ap frames_in is)
  rests-no_return entries is (no_cpow (has_answer {head} {a} {entries = es} f p)) = no_answered head a (frames_in es) (ap frames_in is)
  rests-no_return entries is (cpow_on_top {head} {entries = es} s l p) = no_dispatch head (frames_in es) (ap frames_in is)

  take-possible : {A : Type 0} (q : Call) {rest : List Call} → takes.takes_under (top_of (frames_of e)) ≡ true → IsInserted q rest (sync_calls e.arrived) → IsFreeUnder (takes.deferral_context_of e) q → A
  take-possible q under i free = not_possible (is_some (step schema e link event.take)) (takes-step schema e link h.state under (found-free (takes.deferral_context_of e) e.arrived q i free)) r.take

  -- the entries are variables here
  rests-no_take : {A : Type 0} (q : Call) {rest : List Call} {below : List SyncFrame} (entries : List StackEntry) → e.stack ≡ entries → Shows e.side entries below → MayTake e.side below q → IsInserted q rest (sync_calls e.arrived) → A
  rests-no_take q entries is (no_cpow (no_answer empty)) may i =
      take-possible q (ap (λ (es : List StackEntry). takes.takes_under (top_of (frames_in es))) is) i
      (ap (λ (es : List StackEntry). not (defers_arrival e.side (awaited_level (frames_in es)) (Some (unwrap_or (inner_transaction (frames_in es)) (pos 0))) (request_arrival true q.level q.transaction))) is)
  rests-no_take q entries is (no_cpow (no_answer (async_base {head} s n))) may i = no_dispatch head [] (ap frames_in is)
  rests-no_take q entries is (no_cpow (no_answer (waits {head} {route} {number} {entries = es} s k f p))) may i =
      take-possible q (ap (λ (es : List StackEntry). takes.takes_under (top_of (frames_in es))) is) i
      (ap (λ (es : List StackEntry). not (defers_arrival e.side (awaited_level (frames_in es)) (Some (unwrap_or (inner_transaction (frames_in es)) (pos 0))) (request_arrival true q.level q.transaction))) is
      ∙ ap not (holding-same e.side head route number (frames_in es) q.level q.transaction s k ∙ may))
  rests-no_take q entries is (no_cpow (no_answer (handles {head} {entries = es} s p))) may i = no_dispatch head (frames_in es) (ap frames_in is)
  rests-no_take q entries is (no_cpow (has_answer {head} {a} {entries = es} f p)) may i = no_answered head a (frames_in es) (ap frames_in is)
  rests-no_take q entries is (cpow_on_top {head} {entries = es} s l p) may i = no_dispatch head (frames_in es) (ap frames_in is)

  rests-no_move_at : {A : Type 0} {above : List SyncFrame} {calls : List Call} {later : List SyncPacket} → CanMove e.side (sync_end above calls later) → Shows e.side e.stack above → calls ≡ sync_calls e.arrived → later ≡ sync_packets schema link → A
  rests-no_move_at (delivers {first} {link = later}) shows a l = not_possible (is_some (step schema e link event.deliver)) (delivers-at schema e stack link {first = first} {later = later} h (sym l)) r.deliver
  rests-no_move_at has_return shows a l = rests-no_return e.stack refl shows
  rests-no_move_at (has_take {q} {rest} i may) shows a l = rests-no_take q e.stack refl shows may (subst (IsInserted q rest) a i)

  pub rests-no_move : {A : Type 0} → CanMove e.side (sync_end_of schema e link stack) → A
  rests-no_move m = rests-no_move_at m h.shows refl refl
