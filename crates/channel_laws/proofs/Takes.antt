-- Takes of an open end.
use Rattle.std.proofs.Common.{◌≡◌, ◌+◌, ℤ, pos, Bool, true, false, not, ◌&&◌, ◌||◌, cond, List, [], ◌∷◌, ◌++◌, find, Option, Some, None, is_some, refl, sym, ap, subst, ◌∙◌, ℕ}
use Rattle.std.proofs.lemmas.Option.{same_Some}
use Rattle.std.specs.List.{AllByRecursion}
use Rattle.std.specs.Option.{option_map_or, unwrap_or}
use Rattle.ipdl_base.specs.declared.line.What.TheVariants as what
use Rattle.ipdl_base.specs.declared.kinds.Level.{Level}
use Rattle.ipdl_base.specs.declared.kinds.Level.TheVariants.{Not, InsideSync, InsideCpow}
use Rattle.ipdl_base.specs.declared.kinds.Reason.TheVariants as reason
use Rattle.ipdl_base.specs.declared.kinds.Side.{Side}
use Rattle.ipdl_base.specs.declared.kinds.Side.TheVariants.{Parent, Child}
use Rattle.ipdl_base.specs.declared.message.Body.{Body}
use Rattle.ipdl_base.specs.declared.message.Body.TheVariants.{Request, Reply, Fault, Goodbye}
use Rattle.ipdl_base.specs.declared.message.Message.{Message}
use Rattle.ipdl_base.specs.declared.schema.MessageRow.{MessageRow}
use Rattle.ipdl_base.specs.declared.schema.Schema.{Schema}
use Rattle.ipdl_base.specs.declared.value.Values.{Values}
use Rattle.ipdl_base.specs.Deferral.{defers_request, defers_arrival, request as request_arrival}
use Rattle.ipdl_base.specs.Sound.{message_of}
use Rattle.nesting_core.specs.declared.frame.Answer.{Answer}
use Rattle.nesting_core.specs.declared.frame.Answer.TheVariants as answer
use Rattle.nesting_core.specs.declared.frame.StackFrame.{StackFrame}
use Rattle.nesting_core.specs.declared.frame.StackFrame.TheVariants.{Dispatch, Wait}
use Rattle.nesting_core.specs.declared.frame.Head.{Head}
use Rattle.nesting_core.specs.Deferral.{awaited_level, inner_transaction}
use Rattle.nesting_core.specs.Top.{top_of}
use Rattle.pending_queue.specs.declared.item.Item.{Item}
use Rattle.pending_queue.specs.declared.item.Item.TheVariants as item
use Rattle.pending_queue.specs.DeferralContext.{arrival_of_body, is_free, without_first}
use Rattle.channel_model.specs.Ends.{End, Packet, StackEntry}
use Rattle.channel_model.specs.Numbers.{is_sync_row, makes_promise}
use Rattle.channel_model.specs.Outputs.{Output, Change, beginning, unchanged, on_end, line, answered, request_answered}
use Rattle.channel_model.specs.Sends.{frames_of}
use Rattle.channel_model.specs.Takes as takes
use Rattle.channel_model.specs.ValueActors.{nulled, received}
use Rattle.channel_model.proofs.Sublists.{all-sublist, without_first-sublist, TakenOut, taken_out}
use Rattle.nesting_laws.specs.Steps as sync_step
use Rattle.channel_laws.proofs.Tests.{not-false}
use Rattle.channel_laws.proofs.Rows.{request-message}
use Rattle.channel_laws.proofs.Sends.{at-push, when-true, is-sync_head}
use Rattle.channel_laws.proofs.SyncSteps.{SyncStep, no_step, at-open, track-steps, at-start}
use Rattle.channel_laws.proofs.Track.{answered_reply, Track, IsOnTrack, KeepsTrack, keeps-when, at-like, at-sent, at-answered, keeps-answered, keeps-constructs, all-found, frames_in}
use Rattle.channel_laws.specs.OpenEnds.{EntryAgrees, RequestAgrees, ArrivedAgrees, ItemAgrees, IsOpenEnd}
use Rattle.channel_laws.specs.SyncCalls.{is_sync_number, listed, call_of, call_of_head, body_call, item_call, sync_calls}
use Rattle.channel_laws.specs.SyncStack.{empty, async_base, waits, handles, Shows, no_answer, cpow_on_top, no_cpow, entry_of, has_answer}
use Rattle.nesting_laws.specs.Calls.{Call, dispatch, reply, SyncFrame}
use Rattle.nesting_laws.specs.Steps.{HasLevelOf, MayTake, IsInserted, here, there, Step, IsBelowCpow}
use Rattle.channel_laws.specs.Rows.{HasSoundRows}

-- What may be taken

child-defers : (w l : Level) (x y : Option ℤ) (n : ℤ) → defers_request Child w x true l n ≡ defers_request Child w y true l n
child-defers Not Not x y n = refl
child-defers Not InsideSync x y n = refl
child-defers InsideSync Not x y n = refl
child-defers InsideSync InsideSync x y n = refl
child-defers InsideCpow Not x y n = refl
child-defers InsideCpow InsideSync x y n = refl
child-defers w InsideCpow x y n = refl

inner-at : (w : Level) (seq t : ℤ) (below : List StackFrame) → w ≡ InsideSync → inner_transaction (Wait (record { sync = true; level = w; seq = seq; transaction = t }) None ∷ below) ≡ Some t
inner-at InsideSync seq t below e = refl
inner-at Not seq t below e = cc
inner-at InsideCpow seq t below e = cc

inner-is : (head : Head) (below : List StackFrame) → head.sync ≡ true → head.level ≡ InsideSync → inner_transaction (Wait head None ∷ below) ≡ Some head.transaction
inner-is head below is e = ap (λ (x : Head). inner_transaction (Wait x None ∷ below)) (sym (is-sync_head head is)) ∙ inner-at head.level head.seq head.transaction below e

-- what a waiting end defers depends on the wait alone
pub deferral-same : (side : Side) (head : Head) (route : ℤ) (number : ℕ) (below : List StackFrame) (l : Level) (n : ℤ) → head.sync ≡ true → HasLevelOf side (call_of_head route number head)
    → defers_request side head.level (inner_transaction (Wait head None ∷ below)) true l n ≡ defers_request side head.level (Some head.transaction) true l n
deferral-same Child head route number below l n is k = child-defers head.level l (inner_transaction (Wait head None ∷ below)) (Some head.transaction) n
deferral-same Parent head route number below l n is k = ap (λ (t : Option ℤ). defers_request Parent head.level t true l n) (inner-is head below is k)

-- the same for the values of a `Holding`
pub holding-same : (side : Side) (head : Head) (route : ℤ) (number : ℕ) (below : List StackFrame) (l : Level) (n : ℤ) → head.sync ≡ true → HasLevelOf side (call_of_head route number head)
    → defers_request side head.level (Some (unwrap_or (inner_transaction (Wait head None ∷ below)) (pos 0))) true l n ≡ defers_request side head.level (Some head.transaction) true l n
holding-same Child head route number below l n is k = child-defers head.level l (Some (unwrap_or (inner_transaction (Wait head None ∷ below)) (pos 0))) (Some head.transaction) n
holding-same Parent head route number below l n is k = ap (λ (t : Option ℤ). defers_request Parent head.level (Some (unwrap_or t (pos 0))) true l n) (inner-is head below is k)

-- what is taken from what has arrived is not deferred
abbrev pub IsTakenUnder : Side → List StackFrame → Bool → Level → ℤ → Type 0
IsTakenUnder side frames sync level n = not (defers_arrival side (awaited_level frames) (Some (unwrap_or (inner_transaction frames) (pos 0))) (request_arrival sync level n)) ≡ true

may-take : (side : Side) {entries : List StackEntry} {stack : List SyncFrame} (q : Call) → Shows side entries stack → takes.takes_under (top_of (frames_in entries)) ≡ true → IsTakenUnder side (frames_in entries) true q.level q.transaction → MayTake side stack q
may-take side q (no_cpow (no_answer empty)) under free = tt
may-take side q (no_cpow (no_answer (async_base s n))) under free = cc
may-take side q (no_cpow (no_answer (waits {head} {route} {number} {entries} s k f p))) under free =
    sym (holding-same side head route number (frames_in entries) q.level q.transaction s k)
    ∙ not-false (defers_request side head.level (Some (unwrap_or (inner_transaction (Wait head None ∷ frames_in entries)) (pos 0))) true q.level q.transaction) free
may-take side q (no_cpow (no_answer (handles s p))) under free = cc
may-take side q (no_cpow (has_answer f p)) under free = cc
may-take side q (cpow_on_top s e a) under free = cc

-- a sync request is dispatched
sync-shows : (side : Side) {entries : List StackEntry} {stack : List SyncFrame} (head : Head) (route : ℤ) (number : ℕ) (resolves : Bool) → head.sync ≡ true → Shows side entries stack → takes.takes_under (top_of (frames_in entries)) ≡ true
    → Shows side (entry_of (Dispatch head) route number resolves ∷ entries) (dispatch (call_of_head route number head) ∷ stack)
sync-shows side head route number resolves is (no_cpow (no_answer p)) under = no_cpow (no_answer (handles is p))
sync-shows side head route number resolves is (no_cpow (has_answer f p)) under = cc
sync-shows side head route number resolves is (cpow_on_top s e a) under = cc

-- an async request is dispatched
async-free : (side : Side) (w l : Level) (inner : Option ℤ) (n : ℤ) → not (defers_request side w inner false l n) ≡ true → l ≡ InsideCpow
async-free side w Not inner n e = cc
async-free side w InsideSync inner n e = cc
async-free side w InsideCpow inner n e = refl

async-empty : (side : Side) (head : Head) (route : ℤ) (number : ℕ) (resolves : Bool) (l : Level) → head.level ≡ l → head.sync ≡ false → Shows side (entry_of (Dispatch head) route number resolves ∷ []) []
async-empty side head route number resolves Not e s = no_cpow (no_answer (async_base s (subst IsBelowCpow (sym e) tt)))
async-empty side head route number resolves InsideSync e s = no_cpow (no_answer (async_base s (subst IsBelowCpow (sym e) tt)))
async-empty side head route number resolves InsideCpow e s = cpow_on_top s e (no_answer empty)

async-shows : (side : Side) {entries : List StackEntry} {stack : List SyncFrame} (head : Head) (route : ℤ) (number : ℕ) (resolves : Bool) (n : ℤ) → head.sync ≡ false → Shows side entries stack → takes.takes_under (top_of (frames_in entries)) ≡ true → IsTakenUnder side (frames_in entries) false head.level n
    → Shows side (entry_of (Dispatch head) route number resolves ∷ entries) stack
async-shows side head route number resolves n is (no_cpow (no_answer empty)) under free = async-empty side head route number resolves head.level refl is
async-shows side head route number resolves n is (no_cpow (no_answer (async_base s k))) under free = cc
async-shows side head route number resolves n is (no_cpow (no_answer (waits {head = w} {entries} s k f p))) under free =
    cpow_on_top is (async-free side w.level head.level (Some (unwrap_or (inner_transaction (Wait w None ∷ frames_in entries)) (pos 0))) n free) (no_answer (waits s k f p))
async-shows side head route number resolves n is (no_cpow (no_answer (handles s p))) under free = cc
async-shows side head route number resolves n is (no_cpow (has_answer f p)) under free = cc
async-shows side head route number resolves n is (cpow_on_top s e a) under free = cc

-- The item that is taken

found-passes_at : {A : Type 0} (p : A → Bool) (y x : A) (b : Bool) (later : Option A) → p y ≡ b → cond b (Some y) later ≡ Some x → (later ≡ Some x → p x ≡ true) → p x ≡ true
found-passes_at p y x true later is e h = ap p (sym (same_Some y x e)) ∙ is
found-passes_at p y x false later is e h = h e

pub found-passes : {A : Type 0} (p : A → Bool) (xs : List A) (x : A) → find p xs ≡ Some x → p x ≡ true
found-passes p [] x e = cc
found-passes p (y ∷ ys) x e = found-passes_at p y x (p y) (find p ys) refl e (λ k. found-passes p ys x k)

between : {A : Type 0} {x : A} (before following : List A) → IsInserted x (before ++ following) (before ++ x ∷ following)
between [] following = here
between (y ∷ before) following = there (between before following)

module _ (schema : Schema) (rows : HasSoundRows schema) (e : End) (stack : List SyncFrame) (link : List Packet) (h : IsOpenEnd schema e stack) (m : Message) (sync : Bool) (level : Level) (next : find (is_free (takes.deferral_context_of e)) e.arrived ≡ Some (item.Message m sync level)) (under : takes.takes_under (top_of (frames_of e)) ≡ true) where
  abbrev rest : List Item
  rest = without_first (is_free (takes.deferral_context_of e)) e.arrived

  abbrev left_track : Track
  left_track = record { side = e.side; stack = e.stack; arrived = rest; sent = [] }

  abbrev left : Output
  left = on_end (λ e. record e { arrived = without_first (is_free (takes.deferral_context_of e)) e.arrived }) (beginning e)

  at-left : IsOnTrack schema left_track left.end []
  at-left = at-start schema e left.end stack refl refl refl h

  rest-agree : AllByRecursion (ItemAgrees schema) rest
  rest-agree = all-sublist (ItemAgrees schema) rest e.arrived (without_first-sublist (is_free (takes.deferral_context_of e)) e.arrived) h.arrived

  item-agree : ArrivedAgrees schema m sync level m.body
  item-agree = all-found (ItemAgrees schema) (is_free (takes.deferral_context_of e)) e.arrived (item.Message m sync level) h.arrived next

  out : TakenOut item_call (is_free (takes.deferral_context_of e)) e.arrived (item.Message m sync level)
  out = taken_out item_call (is_free (takes.deferral_context_of e)) e.arrived (item.Message m sync level) next

  -- what is taken is no sync request
  rest-calls : body_call sync level m m.body ≡ [] → sync_calls rest ≡ sync_calls e.arrived
  rest-calls silent = out.rest ∙ sym (out.whole ∙ ap (λ (qs : List Call). out.before ++ (qs ++ out.following)) silent)

  silent-same : (o : Output) → body_call sync level m m.body ≡ [] → IsOnTrack schema left_track o.end o.packets → SyncStep schema e stack link link o
  silent-same o silent a =
      no_step (at-open schema left_track o.end o.packets stack a h.shows h.entries rest-agree) (ap sync_calls a.arrived_is ∙ rest-calls silent) refl a.sent_is a.agree

  -- the item is a sync request
  rest-inserted : (q : Call) → body_call sync level m m.body ≡ q ∷ [] → IsInserted q (sync_calls rest) (sync_calls e.arrived)
  rest-inserted q one =
      subst (λ (qs : List Call). IsInserted q qs (sync_calls e.arrived)) (sym out.rest)
      (subst (λ (qs : List Call). IsInserted q (out.before ++ out.following) qs) (sym (out.whole ∙ ap (λ (qs : List Call). out.before ++ (qs ++ out.following)) one)) (between out.before out.following))

  -- replies
  keeps-settles : (seq : ℤ) (a : _) → KeepsTrack schema (takes.settles seq a)
  keeps-settles seq a w o k = at-like schema w o.end (takes.settles seq a o).end o.packets refl refl refl refl refl refl k

  reply-taken : (a : Answer) (found : Option MessageRow) → body_call sync level m m.body ≡ [] → SyncStep schema e stack link link (option_map_or (takes.reply_taken schema m a) found unchanged (line (what.TakeReply m.seq) left))
  reply-taken a None silent = silent-same (line (what.TakeReply m.seq) left) silent at-left
  reply-taken a (Some row) silent =
      let change : Change = takes.settles m.seq (takes.outcome_of (received schema left.end.actors row a)) in
      silent-same (takes.reply_taken schema m a row (line (what.TakeReply m.seq) left)) silent
      (keeps-when schema (takes.is_awaited m.seq left.end.promises) change (keeps-settles m.seq (takes.outcome_of (received schema left.end.actors row a))) left_track (line (what.TakeReply m.seq) left) at-left)

  module _ (vs : Values) (body_is : m.body ≡ Request vs) where
    agrees : RequestAgrees schema m sync level
    agrees = subst (ArrivedAgrees schema m sync level) body_is item-agree

    abbrev row : MessageRow
    row = agrees.row

    abbrev head : Head
    head = record { sync = is_sync_row row; level = row.level; seq = m.seq; transaction = m.transaction }

    free : IsTakenUnder e.side (frames_of e) sync level m.transaction
    free =
        subst (λ (b : Body). not (defers_arrival e.side (awaited_level (frames_of e)) (Some (unwrap_or (inner_transaction (frames_of e)) (pos 0))) (arrival_of_body sync level m.transaction b)) ≡ true) body_is
        (found-passes (is_free (takes.deferral_context_of e)) e.arrived (item.Message m sync level) next)

    free-at : (b : Bool) → is_sync_row row ≡ b → IsTakenUnder e.side (frames_of e) b row.level m.transaction
    free-at b is =
        subst (λ (s : Bool). IsTakenUnder e.side (frames_of e) s row.level m.transaction) (sym agrees.is_sync ∙ is)
        (subst (λ (l : Level). IsTakenUnder e.side (frames_of e) sync l m.transaction) (sym agrees.has_level) free)

    item-calls : (b : Bool) → is_sync_row row ≡ b → body_call sync level m m.body ≡ listed b (call_of row.level m)
    item-calls b is =
        ap (body_call sync level m) body_is
        ∙ (ap (λ (s : Bool). listed s (call_of level m)) (sym agrees.is_sync ∙ is) ∙ ap (λ (l : Level). listed b (call_of l m)) (sym agrees.has_level))

    promise-async : (b c : Bool) → not b && c ≡ true → b ≡ false
    promise-async true c k = cc
    promise-async false c k = refl

    entry-agree : EntryAgrees schema (takes.dispatch_of row m)
    entry-agree = record { row = row; found = agrees.found; is_sync = refl; resolves = promise-async (is_sync_row row) (is_some row.returns) }

    -- the track after a dispatch
    abbrev handled_track : Track
    handled_track = record { side = e.side; stack = takes.dispatch_of row m ∷ e.stack; arrived = rest; sent = [] }

    at-handled : (given : Values) → IsOnTrack schema handled_track (takes.handled row m given left).end (takes.handled row m given left).packets
    at-handled given =
        let o : Output = on_end (λ e. record e { stack = takes.dispatch_of row m ∷ e.stack }) (line (what.Take m.seq m.route m.number given) left) in
        keeps-constructs schema m.made m.route row.kind handled_track o (at-push schema left_track (takes.dispatch_of row m) left.end [] at-left)

    handled-sync_step : (b : Bool) → is_sync_row row ≡ b → (given : Values) → SyncStep schema e stack link link (takes.handled row m given left)
    handled-sync_step true is given =
        track-steps schema e stack (dispatch (call_of row.level m) ∷ stack) link handled_track (takes.handled row m given left) (at-handled given) (sync-shows e.side head m.route m.number (makes_promise row) is h.shows under) (entry-agree, h.entries) rest-agree
        (sync_step.takes (rest-inserted (call_of row.level m) (item-calls true is)) (may-take e.side (call_of row.level m) h.shows under (free-at true is)))
    handled-sync_step false is given =
        let o : Output = takes.handled row m given left in
        let a = at-handled given in
        no_step (at-open schema handled_track o.end o.packets stack a (async-shows e.side head m.route m.number (makes_promise row) m.transaction is h.shows under (free-at false is)) (entry-agree, h.entries) rest-agree) (ap sync_calls a.arrived_is ∙ rest-calls (item-calls false is)) refl a.sent_is a.agree

    -- a drop
    abbrev answers : Change
    answers = answered (request_answered m) (answer.Fault reason.ActorDestroyed)

    expects : (b c : Bool) → b ≡ true → b || c ≡ true
    expects true c k = refl
    expects false c k = cc

    dropped-sync_step : (b : Bool) → is_sync_row row ≡ b → (id : ℤ) → SyncStep schema e stack link link (takes.dropped row m id left)
    dropped-sync_step true is id =
        let told : Output = line (what.Drop m.seq m.route m.number id) left in
        let replied : is_sync_number schema (m.number + 1) ≡ true = (rows m.number row agrees.found).reply_sync ∙ is in
        let sent = at-sent schema left_track (listed (is_sync_number schema (m.number + 1)) (reply (answered_reply (request_answered m)))) (reply (answered_reply (request_answered m)) ∷ []) (answers told).end (answers told).packets (ap (λ (s : Bool). listed s (reply (answered_reply (request_answered m)))) replied) (at-answered schema (request_answered m) (answer.Fault reason.ActorDestroyed) left_track told at-left) in
        let a = subst (λ (n : Output). IsOnTrack schema (record left_track { sent = reply (answered_reply (request_answered m)) ∷ [] }) n.end n.packets) (sym (when-true (is_sync_row row || makes_promise row) answers told (expects (is_sync_row row) (makes_promise row) is))) sent in
        track-steps schema e stack stack link (record left_track { sent = reply (answered_reply (request_answered m)) ∷ [] }) (takes.dropped row m id left) a h.shows h.entries rest-agree
        (sync_step.drops (rest-inserted (call_of row.level m) (item-calls true is)) (may-take e.side (call_of row.level m) h.shows under (free-at true is)))
    dropped-sync_step false is id =
        let told : Output = line (what.Drop m.seq m.route m.number id) left in
        let replied : is_sync_number schema (m.number + 1) ≡ false = (rows m.number row agrees.found).reply_sync ∙ is in
        silent-same (takes.dropped row m id left) (item-calls false is)
        (keeps-when schema (is_sync_row row || makes_promise row) answers (keeps-answered schema (request_answered m) (answer.Fault reason.ActorDestroyed) replied) left_track told at-left)

    taken-for : (id : Option ℤ) (given : Values) → SyncStep schema e stack link link (takes.dropped_or_handled id row m given left)
    taken-for None given = handled-sync_step (is_sync_row row) refl given
    taken-for (Some id) given = dropped-sync_step (is_sync_row row) refl id

    request-taken : SyncStep schema e stack link link (takes.body_taken schema m (Request vs) left)
    request-taken =
        subst (λ (found : Option MessageRow). SyncStep schema e stack link link (option_map_or (takes.request_taken schema m vs) found (line (what.Drop m.seq m.route m.number m.route)) left)) (sym (request-message schema m.number row agrees.found))
        (taken-for (takes.dropped_for schema left.end row m vs) (nulled schema left.end.actors row.params vs))

  body-taken : (body : Body) → m.body ≡ body → SyncStep schema e stack link link (takes.body_taken schema m body left)
  body-taken (Request vs) is = request-taken vs is
  body-taken (Reply vs) is = reply-taken (answer.Ok vs) (message_of schema m.number) (ap (body_call sync level m) is)
  body-taken (Fault why) is = reply-taken (answer.Fault why) (message_of schema m.number) (ap (body_call sync level m) is)
  body-taken Goodbye is = absurd (subst (ArrivedAgrees schema m sync level) is item-agree)

-- A take

next-is : (a b : Bool) (found : Option Item) (x : Item) → cond (a && b) found None ≡ Some x → (b ≡ true) × (found ≡ Some x)
next-is true true found x e = (refl, e)
next-is true false found x e = cc
next-is false b found x e = cc

pub taken : (schema : Schema) (rows : HasSoundRows schema) (e : End) (stack : List SyncFrame) (link : List Packet) → IsOpenEnd schema e stack → (x : Item) → takes.taken_next e ≡ Some x → SyncStep schema e stack link link (takes.take schema x (beginning e))
taken schema rows e stack link h (item.Message m sync level) is =
    let r = next-is (takes.takes_in_state e.state) (takes.takes_under (top_of (frames_of e))) (takes.first_free e) (item.Message m sync level) is in
    body-taken schema rows e stack link h m sync level r.1 r.0 m.body refl
taken schema rows e stack link h item.Broken is =
    let r = next-is (takes.takes_in_state e.state) (takes.takes_under (top_of (frames_of e))) (takes.first_free e) item.Broken is in
    absurd (all-found (ItemAgrees schema) (is_free (takes.deferral_context_of e)) e.arrived item.Broken h.arrived r.1)
