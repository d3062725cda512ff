-- The lines of each part of a step of an end are as the law of one end requires.
use Rattle.std.proofs.Common.{◌≡◌, ◌≢◌, ◌⊎◌, inl, inr, ℕ, ◌+◌, ℤ, Bool, true, false, not, ◌&&◌, cond, if◌then◌else◌, int_eq, find, is_some, IsTrue, List, [], ◌∷◌, ◌++◌, filter_map, length, map, take, Option, Some, None, refl, sym, ap, subst, append_assoc, ◌∙◌, arith}
use Rattle.std.specs.List.{AllByRecursion, cons_option, slice_get}
use Rattle.std.specs.Option.{option_map_or}
use Rattle.std.proofs.lemmas.Bool.{false≢true, true≢false}
use Rattle.std.proofs.lemmas.Bool.Decides.{Decides-int_eq}
use Rattle.std.proofs.lemmas.List.{append-nil, length-map, map-append, take_all}
use Rattle.std.proofs.lemmas.List.Elements.{filter_map-append}
use Rattle.std.proofs.lemmas.Option.{same_Some}
use Rattle.ipdl_base.specs.declared.kinds.Destroy.{Destroy}
use Rattle.ipdl_base.specs.declared.kinds.Level.{Level}
use Rattle.ipdl_base.specs.declared.kinds.Reason.{Reason}
use Rattle.ipdl_base.specs.declared.kinds.Reason.TheVariants as reason
use Rattle.ipdl_base.specs.declared.kinds.Reason.TheVariants.{ActorDestroyed, ChannelClosed, HandlerRejected, ResolverDestroyed}
use Rattle.ipdl_base.specs.declared.kinds.Side.{Side}
use Rattle.ipdl_base.specs.declared.line.Line.{Line}
use Rattle.ipdl_base.specs.declared.line.What.{What}
use Rattle.ipdl_base.specs.declared.line.What.TheVariants as what
use Rattle.ipdl_base.specs.declared.message.Body.{Body}
use Rattle.ipdl_base.specs.declared.message.Body.TheVariants as bodies
use Rattle.ipdl_base.specs.declared.message.Message.{Message}
use Rattle.ipdl_base.specs.declared.schema.MessageRow.{MessageRow}
use Rattle.ipdl_base.specs.declared.schema.Schema.{Schema}
use Rattle.ipdl_base.specs.declared.value.Values.{Values}
use Rattle.ipdl_base.specs.Signatures.{returns_of_row}
use Rattle.ipdl_base.specs.Sound.{message_of}
use Rattle.nesting_core.specs.declared.frame.Answer.{Answer}
use Rattle.nesting_core.specs.declared.frame.Answer.TheVariants as answer
use Rattle.nesting_core.specs.declared.frame.StackFrame.{StackFrame}
use Rattle.nesting_core.specs.declared.frame.StackFrame.TheVariants.{Dispatch, Wait}
use Rattle.nesting_core.specs.Frames.{head_of}
use Rattle.nesting_core.specs.Top.{top_of}
use Rattle.pending_queue.specs.declared.item.Item.{Item}
use Rattle.pending_queue.specs.declared.item.Item.TheVariants as item
use Rattle.promise_table.specs.declared.promise.Outcome.{Outcome}
use Rattle.promise_table.specs.declared.promise.Outcome.TheVariants.{Resolved, Rejected}
use Rattle.value_types.specs.Fits.{Fits, FitsBody, IsFaultOf}
use Rattle.channel_model.specs.Answers as answering
use Rattle.channel_model.specs.Deliveries as delivery
use Rattle.channel_model.specs.Ends.{End, Packet, message, mark, StackEntry}
use Rattle.channel_model.specs.Fitting.{FitsPacket}
use Rattle.channel_model.specs.Numbers.{is_sync_row, request_row}
use Rattle.channel_model.specs.Outputs.{AnsweredRequest, body_of, line_at, request_answered, resolver_answered}
use Rattle.channel_model.specs.Parts as parts
use Rattle.channel_model.specs.Parts.{FirstPart, LaterPart, LaterParts, OwnParts, DeliveryPart, IsRefusal, IsRenaming, reply_lines, reply_outcome, left_end}
use Rattle.channel_model.specs.Phases.{Phase, closing}
use Rattle.channel_model.specs.Returns as return
use Rattle.channel_model.specs.Sends as send
use Rattle.channel_model.specs.Takes as take
use Rattle.channel_model.specs.ValueActors.{received, missing, nulled}
use Rattle.channel_model.proofs.Known.{all-append}
use Rattle.history_reading.specs.declared.parts.PacketKind.{PacketKind}
use Rattle.history_reading.specs.declared.parts.PacketKind.TheVariants as seen
use Rattle.history_reading.specs.EndReading.{EndReading, opening, own_request}
use Rattle.history_reading.specs.Numbers.{has, same_packet}
use Rattle.history_reading.specs.Reading.{Reading, after_what, end_reading_of, other_of, read}
use Rattle.history_reading.specs.SentPacket as told
use Rattle.history_reading.specs.Settled.{is_close_event, settled_line}
use Rattle.history_reading.specs.SentPacket.{SentPacket, request_of}
use Rattle.channel_laws.specs.Arrivals.{item_kind}
use Rattle.channel_laws.specs.Delivered.{body_kind, delivered_kind}
use Rattle.channel_laws.specs.EndActors.{KeepsActors, ReadsActors, actor_reading}
use Rattle.channel_laws.specs.GivenAnswers.{FrameIsOwn}
use Rattle.channel_laws.specs.Notes.{Note, RequestNote, In, told_notes}
use Rattle.channel_laws.specs.Origins.{BodyReplies, EntryOrigin, IsRequested, RepliesTo}
use Rattle.channel_laws.specs.Promised.{PromisesAreRead, promise_reading}
use Rattle.channel_laws.specs.Replies.{ItemReplies}
use Rattle.channel_laws.specs.Rows.{HasSoundRows}
use Rattle.channel_laws.specs.SentAccounts.{EndAccount}
use Rattle.channel_laws.specs.Settlings.{SettledPass}
use Rattle.channel_laws.specs.Tested.{after_whats}
use Rattle.channel_laws.proofs.ActorsKept.{first-kept, later-kept}
use Rattle.channel_laws.proofs.ArrivalParts.{reply-is-taken}
use Rattle.channel_laws.proofs.Arriving.{Leaves}
use Rattle.channel_laws.proofs.Counting.{int-same}
use Rattle.channel_laws.proofs.EffectLines.{IsEffectLine, answers_fault, answers_ok, built, effects-leave, fails, fell, later-effects, laters-effects, rejected, resolved}
use Rattle.channel_laws.proofs.Growing.{own-request, whats-append}
use Rattle.channel_laws.proofs.Leaving.{ShowOthers}
use Rattle.channel_laws.proofs.PrefixRuns.{all-taken}
use Rattle.channel_laws.proofs.PromiseParts.{first-keeps-promises, later-keeps-promises}
use Rattle.channel_laws.proofs.Rows.{request-message}
use Rattle.channel_laws.proofs.SettledLines.{ClosesWith, awaited-unsettled, first-closes, later-settles}
use Rattle.channel_laws.proofs.Settling.{pending-unsettled}
use Rattle.channel_laws.proofs.Takes.{found-passes}
use Rattle.law_statements.specs.Packets.{delivered, failed, sent}
use Rattle.law_statements.specs.Said.{said_by}
use Rattle.law_statements.specs.Settled.{IsPending}
use Rattle.law_statements.proofs.Fields.{built-read, delivered-read, failed-read, fallen-read, sent-read}
use Rattle.alone_laws.specs.Alone.{HasReason}
use Rattle.alone_laws.specs.AloneLines.{LineIsAlone}
use Rattle.alone_laws.specs.KeptAlone.{KeepsAlone, KeepsRead, WasBuilt}
use Rattle.alone_laws.specs.KeptReplies.{FrameReceives, KeepsReplies, answers_in, item_answer}
use Rattle.alone_laws.specs.Received.{HasReceived, actors_living, answer_in, answer_to, answers_to, delivered_by_then}
use Rattle.alone_laws.proofs.AloneLines.{IsSilent, LinesAreAlone, alone-append, effects-alone, own-more, pending-is, reading-more, said-more, silent-lines}
use Rattle.alone_laws.proofs.LivingActors.{all-built-more, living-is}
use Rattle.alone_laws.proofs.ReplyLists.{answer-of, answer-same, answers-none}

-- What was received

-- all packets were delivered by then
all-delivered : (schema : Schema) (side : Side) (before : List Line) (packets : List Packet) → (end_reading_of side (read schema before)).delivered ≡ map delivered_kind packets → delivered_by_then (said_by side before) packets ≡ packets
all-delivered schema side before packets is =
    let count : length (delivered (said_by side before)) ≡ length packets = ap length (sym (delivered-read schema side before) ∙ is) ∙ length-map packets delivered_kind in
    ap (λ (n : ℕ). take n packets) count ∙ take_all (length packets) packets (omega arith)

-- no packet that fits gives the reason that the channel has closed
no-closed : (schema : Schema) (n : ℤ) (packets : List Packet) → AllByRecursion (FitsPacket schema) packets → slice_get (answers_to n packets) 0 ≡ Some (answer.Fault ChannelClosed) → ⊥
no-closed schema n [] fits e = cc
no-closed schema n (mark ∷ packets) fits e = no-closed schema n packets fits.1 e
no-closed schema n (message m ∷ packets) fits e = by (int_eq m.seq n) m.body fits.0 e (no-closed schema n packets fits.1)
  where
    by : (b : Bool) (body : Body) → FitsBody schema m body → slice_get (cons_option (if b then answer_in body else None) (answers_to n packets)) 0 ≡ Some (answer.Fault ChannelClosed) → (slice_get (answers_to n packets) 0 ≡ Some (answer.Fault ChannelClosed) → ⊥) → ⊥
    by false body f e rest = rest e
    by true (bodies.Request vs) f e rest = rest e
    by true (bodies.Reply vs) f e rest = cc
    by true (bodies.Fault why) f e rest = let same : why ≡ ChannelClosed = cc in subst (λ (w : Reason). IsFaultOf f.0.semantics w) same f.2
    by true bodies.Goodbye f e rest = rest e

-- items before the reply that is taken do not answer its request
front-none : (n : ℤ) (x : Item) (items : List Item) → item_kind x ≡ seen.Reply n → ShowOthers x items → answers_in n items ≡ []
front-none n x [] shows others = refl
front-none n x (y ∷ items) shows others = ap (λ (o : Option Answer). cons_option o (answers_in n items)) (by y others.0) ∙ front-none n x items shows others.1
  where
    reply-other : (seq : ℤ) (b : Body) (a : Answer) → answer_in b ≡ Some a → same_packet (body_kind seq b) (item_kind x) ≡ false → int_eq seq n ≡ false
    reply-other seq (bodies.Request vs) a is o = cc
    reply-other seq (bodies.Reply vs) a is o = sym (ap (same_packet (seen.Reply seq)) shows) ∙ o
    reply-other seq (bodies.Fault why) a is o = sym (ap (same_packet (seen.Reply seq)) shows) ∙ o
    reply-other seq bodies.Goodbye a is o = cc

    by : (y : Item) → same_packet (item_kind y) (item_kind x) ≡ false → item_answer n y ≡ None
    by item.Broken o = refl
    by (item.Message m sync level) o = at (answer_in m.body) refl
      where
        at : (found : Option Answer) → answer_in m.body ≡ found → (if int_eq m.seq n then answer_in m.body else None) ≡ None
        at None is = answers-none n m is
        at (Some a) is = ap (λ (b : Bool). if b then answer_in m.body else None) (reply-other m.seq m.body a is o)

-- so its answer is the first
first-taken-answer : (n : ℤ) (items rest : List Item) (m : Message) (sync : Bool) (level : Level) (a : Answer) (l : Leaves items rest (item.Message m sync level) (seen.Reply n)) → answer_to n (message m) ≡ Some a → slice_get (answers_in n items) 0 ≡ Some a
first-taken-answer n items rest m sync level a l is =
    ap (λ (xs : List Item). slice_get (answers_in n xs) 0) l.taken.whole
    ∙ (ap (λ (xs : List Answer). slice_get xs 0) (filter_map-append (item_answer n) l.taken.front (item.Message m sync level ∷ l.taken.back) ∙ ap (λ (xs : List Answer). xs ++ cons_option (answer_to n (message m)) (answers_in n l.taken.back)) (front-none n (item.Message m sync level) l.taken.front l.shows l.others))
    ∙ ap (λ (o : Option Answer). slice_get (cons_option o (answers_in n l.taken.back)) 0) is)

-- Silent lines

refusal-silent : (schema : Schema) (w : What) → IsRefusal schema w → IsSilent w
refusal-silent schema (what.RefusedSend cause number) is = tt
refusal-silent schema (what.RefusedClose cause) is = tt
refusal-silent schema (what.RefusedResolve cause) is = tt
refusal-silent schema (what.RefusedReject cause) is = tt
refusal-silent schema _ is = absurd is

renaming-silent : (w : What) → IsRenaming w → IsSilent w
renaming-silent (what.Keep n name) is = tt
renaming-silent (what.Let name id) is = tt
renaming-silent _ is = absurd is

send-silent : (b : Bool) (m : Message) (vs : Values) → IsSilent (if b then what.Call m.seq m.transaction m.route m.number vs else what.Send m.seq m.route m.number vs)
send-silent true m vs = tt
send-silent false m vs = tt

answering-silent : (n : ℤ) (vs : Option Values) → IsSilent (answering.answering_line n vs)
answering-silent n None = tt
answering-silent n (Some vs) = tt

shut-silent : (last : Item) → IsSilent (parts.shut_line last)
shut-silent (item.Message m sync level) = tt
shut-silent item.Broken = tt

farewell-silent : (packet : Packet) → IsSilent (parts.farewell_line packet)
farewell-silent (message m) = tt
farewell-silent mark = tt

unknown-silent : (n : ℤ) (body : Body) → IsSilent (parts.unknown_line n body)
unknown-silent n (bodies.Request vs) = tt
unknown-silent n (bodies.Reply vs) = tt
unknown-silent n (bodies.Fault why) = tt
unknown-silent n bodies.Goodbye = tt

replies-silent : (b : Bool) (q : AnsweredRequest) (a : Answer) → AllByRecursion IsSilent (reply_lines b q a)
replies-silent true q (answer.Ok vs) = (tt, tt)
replies-silent true q (answer.Fault why) = (tt, tt)
replies-silent false q a = tt

fails-silent : (ns : List ℤ) → AllByRecursion IsSilent (map what.Fails ns)
fails-silent [] = tt
fails-silent (n ∷ ns) = (tt, fails-silent ns)

module _ (schema : Schema) (rows : HasSoundRows schema) (top : ℕ) (side : Side) (packets : List Packet) (before : List Line) where
  abbrev own : EndReading
  own = end_reading_of side (read schema before)

  abbrev said : List What
  said = said_by side before

  -- lines for which the law has no condition
  silent : (ws : List What) → AllByRecursion IsSilent ws → LinesAreAlone schema top side packets before ws
  silent ws h = silent-lines schema top side packets before ws h

  -- a reply that settles its promise

  module _ (e : End) (k : KeepsAlone schema top side e before packets) (m : Message) (sync : Bool) (level : Level) (row : MessageRow) (a : Answer) (next : take.taken_next e ≡ Some (item.Message m sync level)) (body : m.body ≡ body_of a) (found : message_of schema m.number ≡ Some row) (awaited : take.is_awaited m.seq e.promises ≡ true) where
    -- the lines and the reading after the line of the take
    abbrev taken : List Line
    taken = before ++ line_at side (what.TakeReply m.seq) ∷ []

    taken-own : end_reading_of side (read schema taken) ≡ after_what schema (read schema before).lines (what.TakeReply m.seq) own
    taken-own = own-more schema side before (what.TakeReply m.seq ∷ [])

    taken-said : said_by side taken ≡ said ++ what.TakeReply m.seq ∷ []
    taken-said = said-more side before (what.TakeReply m.seq ∷ [])

    pending-taken : (r : told.Request) × IsPending schema (said_by side taken) m.seq r
    pending-taken =
        pending-is schema side taken (after_what schema (read schema before).lines (what.TakeReply m.seq) own) m.seq (sym taken-own)
        (awaited-unsettled schema side opening (promise_reading own) m.seq e.promises (pending-unsettled e.side e.promises e.sent (promise_reading own) k.read_is.exchanges.promises) awaited)

    replies-it : RepliesTo schema (told_notes e.side own.sent) m
    replies-it = by a body
      where
        it : BodyReplies schema (told_notes e.side own.sent) m m.body
        it = all-taken (ItemReplies schema (told_notes e.side own.sent)) e (item.Message m sync level) next k.read_is.replied.arrived

        by : (a : Answer) → m.body ≡ body_of a → RepliesTo schema (told_notes e.side own.sent) m
        by (answer.Ok vs) is = subst (BodyReplies schema (told_notes e.side own.sent) m) is it
        by (answer.Fault why) is = subst (BodyReplies schema (told_notes e.side own.sent) m) is it

    -- the promise's request has the row of the reply
    row-of-request : (r : told.Request) → IsPending schema (said_by side taken) m.seq r → message_of schema r.number ≡ Some row
    row-of-request r p =
        let q = own-request schema e.side _ e.outbox e.sent own.sent k.read_is.left replies-it.origin.requested.request k.read_is.account replies-it.origin.requested.sent_it in
        let there : request_of own.sent m.seq ≡ Some q.0 = ap (request_of own.sent) (sym replies-it.origin.requested.seq_is) ∙ q.1.0 in
        let asked : request_of own.sent m.seq ≡ Some r = ap (λ (ps : List SentPacket). request_of ps m.seq) (sym (ap (λ (x : EndReading). x.sent) taken-own) ∙ sent-read schema side taken) ∙ p.0 in
        let same : q.0 ≡ r = same_Some q.0 r (sym there ∙ asked) in
        let number : r.number ≡ replies-it.number = ap (λ (x : told.Request). x.number) (sym same) ∙ (ap (λ (x : RequestNote). x.number) q.1.1.0 ∙ replies-it.origin.requested.number_is) in
        let row_is : replies-it.origin.row ≡ row = same_Some replies-it.origin.row row (sym (ap (message_of schema) replies-it.is ∙ (rows replies-it.number replies-it.origin.row replies-it.origin.found).reply replies-it.replied) ∙ found) in
        ap (message_of schema) number ∙ (request-message schema replies-it.number replies-it.origin.row replies-it.origin.found ∙ ap (λ (x : MessageRow). Some x) row_is)

    living-taken : actors_living top (said_by side taken) ≡ e.actors
    living-taken =
        living-is schema top e own (said_by side taken)
        (sym (ap (λ (x : EndReading). x.built) taken-own) ∙ built-read schema side taken) (sym (ap (λ (x : EndReading). x.fallen) taken-own) ∙ fallen-read schema side taken) k.read_is.actors
        (subst (λ (ws : List What). AllByRecursion (WasBuilt top ws) e.actors) (sym taken-said) (all-built-more top said (what.TakeReply m.seq ∷ []) e.actors k.built))

    takes : take.takes_in_state e.state ≡ true
    takes = by (take.takes_in_state e.state) (take.takes_under (top_of (send.frames_of e))) next
      where
        by : (b c : Bool) → (if b && c then take.first_free e else None) ≡ Some (item.Message m sync level) → b ≡ true
        by true c is = refl
        by false c is = cc

    first-given : slice_get (answers_to m.seq packets) 0 ≡ Some a
    first-given =
        ap (λ (xs : List Answer). slice_get xs 0) (sym (k.read_is.replies.pending m.seq awaited takes))
        ∙ first-taken-answer m.seq e.arrived (left_end e).arrived m sync level a (reply-is-taken e own m sync level a k.read_is.exchanges.arrivals next body) (answer-same m.seq m a refl body)

    received-taken : (r : told.Request) → IsPending schema (said_by side taken) m.seq r → HasReceived schema top (said_by side taken) packets m.seq r.number (received schema e.actors row a)
    received-taken r p = record {
      row = row;
      found = row-of-request r p;
      given = a;
      first = ap (λ (ps : List Packet). slice_get (answers_to m.seq ps) 0) (all-delivered schema side taken packets (ap (λ (x : EndReading). x.delivered) taken-own ∙ k.read_is.delivered)) ∙ first-given;
      is = ap (λ (xs : _). received schema xs row a) living-taken;
    }

    received-request : (r : told.Request) → IsPending schema (said_by side taken) m.seq r → HasReceived schema top (said_by side taken) packets r.seq r.number (received schema e.actors row a)
    received-request r p = subst (λ (n : ℤ). HasReceived schema top (said_by side taken) packets n r.number (received schema e.actors row a)) (sym (request-seq r p.0)) (received-taken r p)
      where
        request-seq : (r : told.Request) → request_of (sent schema (said_by side taken)) m.seq ≡ Some r → r.seq ≡ m.seq
        request-seq r is = (Decides-int_eq r.seq m.seq).0 (found-passes (λ (x : told.Request). int_eq x.seq m.seq) (told.requests_of (sent schema (said_by side taken))) r is)

    -- a rejection has its cause
    reason-taken : (r : told.Request) → IsPending schema (said_by side taken) m.seq r → (why : Reason) (following : List Line) → received schema e.actors row a ≡ answer.Fault why → HasReason schema top side taken following packets r why
    reason-taken r p HandlerRejected following is = subst (HasReceived schema top (said_by side taken) packets r.seq r.number) is (received-request r p)
    reason-taken r p ResolverDestroyed following is = subst (HasReceived schema top (said_by side taken) packets r.seq r.number) is (received-request r p)
    reason-taken r p ActorDestroyed following is = inl (subst (HasReceived schema top (said_by side taken) packets r.seq r.number) is (received-request r p))
    reason-taken r p ChannelClosed following is = absurd (no-closed schema m.seq packets k.read_is.fits (first-given ∙ ap (λ (x : Answer). Some x) (closed-fault a is)))
      where
        closed-fault : (a : Answer) → received schema e.actors row a ≡ answer.Fault ChannelClosed → a ≡ answer.Fault ChannelClosed
        closed-fault (answer.Fault why) is = is
        closed-fault (answer.Ok vs) is = by (is_some (missing schema e.actors (returns_of_row row) vs)) is
          where
            by : (b : Bool) → (if b then answer.Fault ActorDestroyed else answer.Ok (nulled schema e.actors (returns_of_row row) vs)) ≡ answer.Fault ChannelClosed → answer.Ok vs ≡ answer.Fault ChannelClosed
            by true e = cc
            by false e = cc

    settles-alone : LinesAreAlone schema top side packets before (what.TakeReply m.seq ∷ take.settle_line m.seq (reply_outcome schema e row a) ∷ [])
    settles-alone = ((λ more. tt), ((λ more. by (received schema e.actors row a) refl more), tt))
      where
        by : (x : Answer) → received schema e.actors row a ≡ x → (more : List Line) → LineIsAlone schema top side packets taken (take.settle_line m.seq (take.outcome_of x)) more
        by (answer.Ok vs) is more = (pending-taken.0, pending-taken.1, subst (HasReceived schema top (said_by side taken) packets pending-taken.0.seq pending-taken.0.number) is (received-request pending-taken.0 pending-taken.1))
        by (answer.Fault why) is more = (pending-taken.0, pending-taken.1, reason-taken pending-taken.0 pending-taken.1 why more is)

  -- a call that continues

  module _ (e : End) (k : KeepsAlone schema top side e before packets) (wait : return.AnsweredWait) (row : MessageRow) (on_top : return.answered_wait_on_top e.stack ≡ Some wait) (found : request_row schema wait.number ≡ Some row) where
    -- What is known of the wait: its request, and its answer.
    record WaitIsKnown : Type 0 where
      request : told.Request
      asked : request_of own.sent wait.seq ≡ Some request
      number : request.number ≡ wait.number
      given : (slice_get (answers_to wait.seq packets) 0 ≡ Some wait.given) ⊎ ((wait.given ≡ answer.Fault ChannelClosed) × (has own.failed wait.seq ≡ true))

    known-request : {route : ℤ} → IsRequested (told_notes e.side own.sent) wait.seq route wait.number → (slice_get (answers_to wait.seq packets) 0 ≡ Some wait.given) ⊎ ((wait.given ≡ answer.Fault ChannelClosed) × (has own.failed wait.seq ≡ true)) → WaitIsKnown
    known-request r given =
        let q = own-request schema e.side _ e.outbox e.sent own.sent k.read_is.left r.request k.read_is.account r.sent_it in
        record { request = q.0; asked = ap (request_of own.sent) (sym r.seq_is) ∙ q.1.0; number = ap (λ (x : RequestNote). x.number) q.1.1.0 ∙ r.number_is; given = given }

    on-top : (es : List StackEntry) → return.answered_wait_on_top es ≡ Some wait → AllByRecursion (λ (x : StackEntry). FrameIsOwn (told_notes e.side own.sent) x x.frame) es → AllByRecursion (λ (x : StackEntry). FrameReceives packets own.failed x.frame) es → WaitIsKnown
    on-top [] at o g = cc
    on-top (x ∷ es) at o g = by x.frame at o.0 g.0
      where
        by : (f : StackFrame) → return.answered_wait_of x.number f ≡ Some wait → FrameIsOwn (told_notes e.side own.sent) x f → FrameReceives packets own.failed f → WaitIsKnown
        by (Dispatch head) at o g = cc
        by (Wait head None) at o g = cc
        by (Wait head (Some b)) at o g =
            let same : record { seq = head.seq; number = x.number; given = b } ≡ wait = same_Some (record { seq = head.seq; number = x.number; given = b }) wait at in
            known-request
            (subst (λ (w : return.AnsweredWait). IsRequested (told_notes e.side own.sent) w.seq x.route w.number) same o)
            (subst (λ (w : return.AnsweredWait). (slice_get (answers_to w.seq packets) 0 ≡ Some w.given) ⊎ ((w.given ≡ answer.Fault ChannelClosed) × (has own.failed w.seq ≡ true))) same g)

    wait-known : WaitIsKnown
    wait-known = on-top e.stack on_top k.read_is.replies.requested k.read_is.replies.waits.given

    living-now : actors_living top said ≡ e.actors
    living-now = living-is schema top e own said (built-read schema side before) (fallen-read schema side before) k.read_is.actors k.built

    asked-now : (w : WaitIsKnown) → request_of (sent schema said) wait.seq ≡ Some w.request
    asked-now w = ap (λ (ps : List SentPacket). request_of ps wait.seq) (sym (sent-read schema side before)) ∙ w.asked

    received-now : (w : WaitIsKnown) → slice_get (answers_to wait.seq packets) 0 ≡ Some wait.given → HasReceived schema top said packets wait.seq w.request.number (received schema e.actors row wait.given)
    received-now w first = record {
      row = row;
      found = ap (message_of schema) w.number ∙ request-message schema wait.number row found;
      given = wait.given;
      first = ap (λ (ps : List Packet). slice_get (answers_to wait.seq ps) 0) (all-delivered schema side before packets k.read_is.delivered) ∙ first;
      is = ap (λ (xs : _). received schema xs row wait.given) living-now;
    }

    goes-on : (w : WaitIsKnown) → (slice_get (answers_to wait.seq packets) 0 ≡ Some wait.given) ⊎ ((wait.given ≡ answer.Fault ChannelClosed) × (has own.failed wait.seq ≡ true)) → (x : Answer) → received schema e.actors row wait.given ≡ x → (following : List Line) → LineIsAlone schema top side packets before (return.resume_line wait.seq x) following
    goes-on w (inl first) (answer.Ok vs) is following = (w.request, asked-now w, subst (HasReceived schema top said packets wait.seq w.request.number) is (received-now w first))
    goes-on w (inl first) (answer.Fault why) is following = inl (w.request, asked-now w, subst (HasReceived schema top said packets wait.seq w.request.number) is (received-now w first))
    goes-on w (inr lost) (answer.Ok vs) is following = let z : answer.Fault ChannelClosed ≡ answer.Ok vs = sym (ap (received schema e.actors row) lost.0) ∙ is in cc
    goes-on w (inr lost) (answer.Fault why) is following =
        let z : answer.Fault ChannelClosed ≡ answer.Fault why = sym (ap (received schema e.actors row) lost.0) ∙ is in
        let same : ChannelClosed ≡ why = cc in
        inr (sym same, ap (λ (ns : List ℤ). has ns wait.seq) (sym (failed-read schema side before)) ∙ lost.1)

    resumes-alone : LinesAreAlone schema top side packets before (return.resume_line wait.seq (received schema e.actors row wait.given) ∷ [])
    resumes-alone = ((λ more. goes-on wait-known wait-known.given (received schema e.actors row wait.given) refl more), tt)

  -- Parts

  first-alone : {e f : End} {ws : List What} {ps : List Packet} {q : Phase} → KeepsAlone schema top side e before packets → FirstPart schema e ws ps f q → LinesAreAlone schema top side packets before ws
  first-alone k (parts.refuses w is) = silent (w ∷ []) (refusal-silent schema w is, tt)
  first-alone k (parts.renames w is) = silent (w ∷ []) (renaming-silent w is, tt)
  first-alone k (parts.flushes open_end) = ((λ more. tt), tt)
  first-alone {e} k (parts.sends row route vs name sent) = silent (send.send_line row (send.request_of e row route vs) vs ∷ []) (send-silent (is_sync_row row) (send.request_of e row route vs) vs, tt)
  first-alone k (parts.answers by vs r row found may ok used) = silent (answering.answering_line r.seq vs ∷ []) (answering-silent r.seq vs, tt)
  first-alone k (parts.closes open_end waits) = ((λ more. tt), tt)
  first-alone k (parts.dies open_end) = ((λ more. tt), tt)
  first-alone k (parts.dies_silent closed alive) = ((λ more. tt), tt)
  first-alone k (parts.takes m sync level row vs next body found stays) = ((λ more. tt), tt)
  first-alone k (parts.drops m sync level row vs id replies next body found gone is) =
      silent (what.Drop m.seq m.route m.number id ∷ reply_lines replies (request_answered m) (answer.Fault ActorDestroyed)) (tt, replies-silent replies (request_answered m) (answer.Fault ActorDestroyed))
  first-alone k (parts.drops_unknown m sync level vs next body none) = ((λ more. tt), tt)
  first-alone k (parts.takes_reply m sync level a next body late) = ((λ more. tt), tt)
  first-alone {e} k (parts.settles m sync level row a next body found is) = settles-alone e k m sync level row a next body found is
  first-alone k (parts.shuts last next is) = silent (parts.shut_line last ∷ []) (shut-silent last, tt)
  first-alone {e} k (parts.returns entry row vs told_it lost may t l) =
      let ls : List What = reply_lines told_it (return.dispatch_answered entry) (return.return_answer schema e row entry vs) in
      let ms : List What = reply_lines lost (resolver_answered (answering.resolver_in entry)) (answer.Fault ResolverDestroyed) in
      silent (what.Return (head_of entry.frame).seq ∷ ls ++ ms) (tt, all-append IsSilent ls ms (replies-silent told_it (return.dispatch_answered entry) (return.return_answer schema e row entry vs)) (replies-silent lost (resolver_answered (answering.resolver_in entry)) (answer.Fault ResolverDestroyed)))
  first-alone {e} k (parts.resumes wait row on_top found) = resumes-alone e k wait row on_top found

  pub delivery-alone : {packet : Packet} {e f : End} {ws : List What} {ps : List Packet} {q : Phase} → DeliveryPart schema packet e ws ps f q → LinesAreAlone schema top side packets before ws
  delivery-alone (parts.gets_request m row vs body found none) = ((λ more. tt), tt)
  delivery-alone (parts.replaces m row vs old sync level replies body found is told_it) =
      silent (what.DeliverRequest m.seq ∷ what.Replaced old.seq ∷ reply_lines replies (request_answered old) (answer.Fault ResolverDestroyed)) (tt, (tt, replies-silent replies (request_answered old) (answer.Fault ResolverDestroyed)))
  delivery-alone (parts.gets_answer m row a body found is) = ((λ more. tt), tt)
  delivery-alone (parts.gets_reply m row a body found is) = ((λ more. tt), tt)
  delivery-alone {e = e} (parts.drains packet is) = silent (parts.farewell_line packet ∷ map what.Fails (delivery.unanswered e)) (farewell-silent packet, fails-silent (delivery.unanswered e))
  delivery-alone (parts.passes_by m ordinary none) = silent (parts.unknown_line m.seq m.body ∷ []) (unknown-silent m.seq m.body, tt)

-- Later parts pass the law of settlings, whatever the other end has sent

pass-both : (schema : Schema) (side : Side) (place : ℕ) (ws vs : List What) (told : EndReading) → SettledPass schema side opening place ws told → ((at : ℕ) → SettledPass schema side opening at vs (after_whats schema place ws told)) → SettledPass schema side opening place (ws ++ vs) told
pass-both schema side place [] vs told a b = b place
pass-both schema side place (w ∷ ws) vs told a b = (
  (λ more. ap (settled_line schema side told opening w) (ap (λ (ls : List Line). ls ++ more) (map-append (line_at side) ws vs) ∙ append_assoc (map (line_at side) ws) (map (line_at side) vs) more) ∙ a.0 (map (line_at side) vs ++ more)),
  pass-both schema side (place + 1) ws vs (after_what schema place w told) a.1 b,
)

-- a closing that is due after a later part was due before, and its effects leave the event unchanged
event-left : (schema : Schema) (place : ℕ) (w : What) (told : EndReading) → IsEffectLine w → (after_what schema place w told).event ≡ told.event
event-left schema place w told (built id protocol) = refl
event-left schema place w told (answers_ok n vs) = refl
event-left schema place w told (answers_fault n why) = refl
event-left schema place w told (fails n) = refl
event-left schema place w told (resolved n vs) = refl
event-left schema place w told (rejected n why) = refl
event-left schema place w told (fell id why) = refl

later-due : {p q : Phase} {e f : End} {ws : List What} {ps : List Packet} → LaterPart p e ws ps f q → (why : Destroy) → q.due ≡ closing why → p.due ≡ closing why
later-due (parts.unnames name may is) why due = due
later-due (parts.lets_go name r may held o) why due = due
later-due (parts.names more holds) why due = due
later-due (parts.releases seq is) why due = due
later-due (parts.keeps seq name r is o) why due = due
later-due (parts.builds id protocol rest fresh alive) why due = due
later-due (parts.deletes id is) why due = cc
later-due (parts.falls other is) why due = cc

later-closes : (schema : Schema) (side : Side) {p q : Phase} {e f : End} {ws : List What} {ps : List Packet} (place : ℕ) (told : EndReading) → LaterPart p e ws ps f q → ClosesWith schema side opening p told → ClosesWith schema side opening q (after_whats schema place ws told)
later-closes schema side {ws = ws} place told part closes why is = ap is_close_event (effects-leave (λ (read : EndReading). read.event) schema (event-left schema) place ws told (later-effects part)) ∙ closes why (later-due part why is)

laters-pass : (schema : Schema) (side : Side) {p q : Phase} {e f : End} {ws : List What} {ps : List Packet} (place : ℕ) (told : EndReading) → LaterParts p e ws ps f q → KeepsActors schema p e (actor_reading told) → ClosesWith schema side opening p told → PromisesAreRead e told → SettledPass schema side opening place ws told
laters-pass schema side place told parts.done actors closes h = tt
laters-pass schema side place told (parts.then {ws = ws} {vs = vs} part rest) actors closes h =
    pass-both schema side place ws vs told (later-settles schema side opening place told part actors.ids.tree closes h)
    (λ at. laters-pass schema side at (after_whats schema place ws told) rest (later-kept schema place told part actors).kept (later-closes schema side place told part closes) (later-keeps-promises schema place told part h))

module _ (schema : Schema) (rows : HasSoundRows schema) (top : ℕ) (side : Side) (packets : List Packet) (before : List Line) where
  pub own-alone : {e f : End} {ws : List What} {ps : List Packet} {q : Phase} → KeepsAlone schema top side e before packets → OwnParts schema e ws ps f q → LinesAreAlone schema top side packets before ws
  own-alone k (parts.begun {ws = ws} {vs = vs} part rest ended) =
      let place : ℕ = (read schema before).lines in
      let own : EndReading = end_reading_of side (read schema before) in
      let following : List Line = before ++ map (line_at side) ws in
      alone-append schema top side packets before ws vs (first-alone schema rows top side packets before k part)
      (effects-alone schema top side packets following (read schema following).lines (end_reading_of side (read schema following)) vs refl refl (laters-effects rest)
      (subst (SettledPass schema side opening (read schema following).lines vs) (sym (own-more schema side before ws))
      (laters-pass schema side (read schema following).lines (after_whats schema place ws own) rest (first-kept schema rows place own part k.read_is.actors).kept (first-closes schema side opening place own part) (first-keeps-promises schema place own part k.read_is.exchanges.promises))))
