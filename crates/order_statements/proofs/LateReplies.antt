-- While an end takes what has arrived, each of its promises that is settled had its reply taken, or was rejected
-- because an actor fell.
use Rattle.std.proofs.Common.{◌≡◌, ◌⊎◌, inl, inr, ℤ, Bool, true, false, ◌||◌, if◌then◌else◌, int_eq, List, [], ◌∷◌, ◌++◌, Contains, drop, filter, filter_map, Option, Some, None, refl, sym, ap, ◌∙◌, arith}
use Rattle.std.specs.List.{AllByRecursion}
use Rattle.std.proofs.lemmas.Bool.{or_cases, or_left, or_right}
use Rattle.std.proofs.lemmas.Bool.Decides.{Decides-int_eq}
use Rattle.std.proofs.lemmas.List.Elements.{Contains-append_left, Contains-append_right, filter_map-append}
use Rattle.std.proofs.lemmas.List.Folds.{list_any-append}
use Rattle.ipdl_base.specs.declared.kinds.Destroy.{Destroy}
use Rattle.ipdl_base.specs.declared.kinds.EndState.{EndState}
use Rattle.ipdl_base.specs.declared.kinds.EndState.TheVariants as state
use Rattle.ipdl_base.specs.declared.kinds.Reason.{Reason}
use Rattle.ipdl_base.specs.declared.kinds.Reason.TheVariants as reason
use Rattle.ipdl_base.specs.declared.line.What.{What}
use Rattle.ipdl_base.specs.declared.line.What.TheVariants as what
use Rattle.ipdl_base.specs.declared.message.Body.{Body}
use Rattle.ipdl_base.specs.declared.message.Body.TheVariants.{Fault, Goodbye, Reply, Request}
use Rattle.ipdl_base.specs.declared.message.Message.{Message}
use Rattle.ipdl_base.specs.declared.schema.Kind.{Kind}
use Rattle.ipdl_base.specs.declared.schema.Kind.TheVariants.{Normal, Constructor, Delete}
use Rattle.ipdl_base.specs.declared.schema.Schema.{Schema}
use Rattle.ipdl_base.specs.declared.value.Values.{Values}
use Rattle.nesting_core.specs.declared.frame.Answer.{Answer}
use Rattle.nesting_core.specs.declared.frame.Answer.TheVariants as answer
use Rattle.nesting_core.specs.Frames.{head_of}
use Rattle.promise_table.specs.declared.promise.Outcome.{Outcome}
use Rattle.promise_table.specs.declared.promise.Outcome.TheVariants.{Resolved, Rejected}
use Rattle.promise_table.specs.Promises.{is_pending_of}
use Rattle.channel_model.specs.Answers as answering
use Rattle.channel_model.specs.Deliveries as delivery
use Rattle.channel_model.specs.Ends.{End, Packet, PromiseEntry, mark, message}
use Rattle.channel_model.specs.Events.{Answering, handled, kept}
use Rattle.channel_model.specs.Falls as fall
use Rattle.channel_model.specs.Numbers.{is_sync_row}
use Rattle.channel_model.specs.Outputs.{AnsweredRequest, Output, is_open, request_answered, resolver_answered}
use Rattle.channel_model.specs.Parts as parts
use Rattle.channel_model.specs.Parts.{DeliveryPart, FirstPart, IsRefusal, IsRenaming, LaterPart, LaterParts, OwnParts, end_after, fall_lines, reply_lines}
use Rattle.channel_model.specs.Phases.{Phase, closing, kind_cause}
use Rattle.channel_model.specs.Returns as return
use Rattle.channel_model.specs.Sends as send
use Rattle.channel_model.specs.Takes as take
use Rattle.channel_model.specs.Takes.{takes_in_state}
use Rattle.channel_model.proofs.Known.{all-append}
use Rattle.channel_laws.proofs.PartLines.{flat-lines, mapped-lines}
use Rattle.history_reading.specs.Numbers.{has}
use Rattle.law_statements.specs.Packets.{number_of_reply, number_settled, replies, settled}
use Rattle.order_statements.proofs.KeptAlong.{EveryStepKeeps}
use Rattle.order_statements.proofs.StepLines.{MadeOf, made-of, of_delivery, of_own}

-- Lists of numbers

pub has-append : (f : What → Option ℤ) (xs ys : List What) (n : ℤ) → has (filter_map f (xs ++ ys)) n ≡ has (filter_map f xs) n || has (filter_map f ys) n
has-append f xs ys n = ap (λ (ns : List ℤ). has ns n) (filter_map-append f xs ys) ∙ list_any-append (λ m. int_eq m n) (filter_map f xs) (filter_map f ys)

-- a promise whose reply was taken, or that was rejected because an actor fell
abbrev pub IsDone : List What → ℤ → Type 0
IsDone said n = Contains said (what.Rejected n reason.ActorDestroyed) ⊎ (has (replies said) n ≡ true)

done-before : (said more : List What) (n : ℤ) → IsDone said n → IsDone (said ++ more) n
done-before said more n (inl c) = inl (Contains-append_left said more (what.Rejected n reason.ActorDestroyed) c)
done-before said more n (inr h) = inr (has-append number_of_reply said more n ∙ or_left (has (replies said) n) (has (replies more) n) h)

done-following : (said more : List What) (n : ℤ) → IsDone more n → IsDone (said ++ more) n
done-following said more n (inl c) = inl (Contains-append_right said more (what.Rejected n reason.ActorDestroyed) c)
done-following said more n (inr h) = inr (has-append number_of_reply said more n ∙ or_right (has (replies said) n) (has (replies more) n) h)

-- each promise that these lines settle
abbrev pub AllDone : List What → Type 0
AllDone said = (n : ℤ) → has (settled said) n ≡ true → IsDone said n

done-append : (xs ys : List What) → AllDone xs → AllDone ys → AllDone (xs ++ ys)
done-append xs ys a b n h = by (or_cases (has (settled xs) n) (has (settled ys) n) (sym (has-append number_settled xs ys n) ∙ h))
  where
    by : (has (settled xs) n ≡ true) ⊎ (has (settled ys) n ≡ true) → IsDone (xs ++ ys) n
    by (inl k) = done-before xs ys n (a n k)
    by (inr k) = done-following xs ys n (b n k)

-- a line that settles nothing, except by a fall
abbrev IsDoneLine : What → Type 0
IsDoneLine (what.Resolved n values) = ⊥
IsDoneLine (what.Rejected n why) = why ≡ reason.ActorDestroyed
IsDoneLine _ = Unit {0}

done-line : (w : What) → IsDoneLine w → AllDone (w ∷ [])
done-line (what.Resolved n values) is m h = absurd is
done-line (what.Rejected n why) is m h =
    let same : n ≡ m = (Decides-int_eq n m).0 (by (int_eq n m) h) in
    inl (0, omega arith, ap (λ (r : Reason). what.Rejected n r) is ∙ ap (λ (k : ℤ). what.Rejected k reason.ActorDestroyed) same)
  where
    by : (b : Bool) → (b || false) ≡ true → b ≡ true
    by true k = refl
    by false k = cc
done-line _ is m h = cc

done-lines : (ws : List What) → AllByRecursion IsDoneLine ws → AllDone ws
done-lines [] h = λ n k. cc
done-lines (w ∷ ws) h = done-append (w ∷ []) ws (done-line w h.0) (done-lines ws h.1)

-- Lines of parts

refusal-done : (schema : Schema) (w : What) → IsRefusal schema w → IsDoneLine w
refusal-done schema (what.RefusedSend cause number) is = tt
refusal-done schema (what.RefusedClose cause) is = tt
refusal-done schema (what.RefusedResolve cause) is = tt
refusal-done schema (what.RefusedReject cause) is = tt
refusal-done schema _ is = absurd is

renaming-done : (w : What) → IsRenaming w → IsDoneLine w
renaming-done (what.Keep seq name) is = tt
renaming-done (what.Let name id) is = tt
renaming-done _ is = absurd is

send-done : (b : Bool) (m : Message) (vs : Values) → IsDoneLine (if b then what.Call m.seq m.transaction m.route m.number vs else what.Send m.seq m.route m.number vs)
send-done true m vs = tt
send-done false m vs = tt

answering-done : (seq : ℤ) (vs : Option Values) → IsDoneLine (answering.answering_line seq vs)
answering-done seq None = tt
answering-done seq (Some vs) = tt

resume-done : (seq : ℤ) (a : Answer) → IsDoneLine (return.resume_line seq a)
resume-done seq (answer.Ok vs) = tt
resume-done seq (answer.Fault why) = tt

reply-done : (b : Bool) (q : AnsweredRequest) (a : Answer) → AllByRecursion IsDoneLine (reply_lines b q a)
reply-done true q (answer.Ok vs) = (tt, tt)
reply-done true q (answer.Fault why) = (tt, tt)
reply-done false q a = tt

farewell-done : (packet : Packet) → IsDoneLine (parts.farewell_line packet)
farewell-done (message m) = tt
farewell-done mark = tt

unknown-done : (seq : ℤ) (body : Body) → IsDoneLine (parts.unknown_line seq body)
unknown-done seq (Request vs) = tt
unknown-done seq (Reply vs) = tt
unknown-done seq (Fault why) = tt
unknown-done seq Goodbye = tt

fall-done : (id : ℤ) (e : End) → AllByRecursion IsDoneLine (fall_lines id (fall.why_deleted id) e)
fall-done id e =
    flat-lines IsDoneLine (fall.fall_lines (fall.why_deleted id) e.promises) (parts.falling id e)
    (λ a. all-append IsDoneLine (fall.rejections (is_pending_of a.id) reason.ActorDestroyed e.promises) (what.Fall a.id (fall.why_deleted id a.id) ∷ [])
    (mapped-lines IsDoneLine (λ (entry : PromiseEntry). what.Rejected entry.promise.seq reason.ActorDestroyed) (filter (fall.passes (is_pending_of a.id)) e.promises) (λ entry. refl)) (tt, tt))

settle-done : (n : ℤ) (outcome : Outcome) → AllDone (what.TakeReply n ∷ take.settle_line n outcome ∷ [])
settle-done n (Resolved vs) m h = inr h
settle-done n (Rejected why) m h = inr h

-- Parts

-- no closing is due
abbrev IsCalm : Phase → Type 0
IsCalm p = (why : Destroy) → p.due ≡ closing why → ⊥

later-state : {p q : Phase} {e f : End} {ws : List What} {ps : List Packet} → LaterPart p e ws ps f q → f.state ≡ e.state
later-state (parts.unnames name may silent) = refl
later-state (parts.lets_go name r may held opened) = refl
later-state (parts.names more actors) = refl
later-state (parts.releases seq closed) = refl
later-state (parts.keeps seq name r held closed) = refl
later-state (parts.builds id protocol rest fresh built) = refl
later-state (parts.deletes id due) = refl
later-state (parts.falls why due) = refl

pub laters-state : {p q : Phase} {e f : End} {ws : List What} {ps : List Packet} → LaterParts p e ws ps f q → f.state ≡ e.state
laters-state parts.done = refl
laters-state (parts.then part rest) = laters-state rest ∙ later-state part

later-done : {p q : Phase} {e f : End} {ws : List What} {ps : List Packet} → LaterPart p e ws ps f q → IsCalm p → AllByRecursion IsDoneLine ws × IsCalm q
later-done (parts.unnames name may silent) calm = (tt, calm)
later-done (parts.lets_go name r may held opened) calm = ((tt, tt), calm)
later-done (parts.names more actors) calm = (tt, calm)
later-done (parts.releases seq closed) calm = (tt, calm)
later-done (parts.keeps seq name r held closed) calm = (tt, calm)
later-done (parts.builds id protocol rest fresh built) calm = ((tt, tt), calm)
later-done {e} (parts.deletes id due) calm = (fall-done id e, λ why k. cc)
later-done (parts.falls why due) calm = absurd (calm why due)

laters-done : {p q : Phase} {e f : End} {ws : List What} {ps : List Packet} → LaterParts p e ws ps f q → IsCalm p → AllByRecursion IsDoneLine ws
laters-done parts.done calm = tt
laters-done (parts.then {ws} {vs} part rest) calm = let a = later-done part calm in all-append IsDoneLine ws vs a.0 (laters-done rest a.1)

kind-calm : (kind : Kind) (route : ℤ) (why : Destroy) → kind_cause kind route ≡ closing why → ⊥
kind-calm Normal route why e = cc
kind-calm (Constructor protocol) route why e = cc
kind-calm Delete route why e = cc

-- What the first part of an event shows of its end before it, of what is due, and of its lines.
record Goes (e : End) (us : List What) (p : Phase) : Type 0 where
  takes : takes_in_state e.state ≡ true
  calm : IsCalm p
  lines : AllDone us

following-takes : (b : Bool) (e : End) → takes_in_state (end_after b e).state ≡ true → takes_in_state e.state ≡ true
following-takes true e h = h
following-takes false e h = h

first-goes : {schema : Schema} {e f : End} {us : List What} {ps : List Packet} {p : Phase} → FirstPart schema e us ps f p → takes_in_state f.state ≡ true → Goes e us p
first-goes {schema} (parts.refuses w is) h = record { takes = h; calm = λ why k. cc; lines = done-line w (refusal-done schema w is) }
first-goes (parts.renames w is) h = record { takes = h; calm = λ why k. cc; lines = done-line w (renaming-done w is) }
first-goes (parts.flushes {e = x} opened) h = record { takes = h; calm = λ why k. cc; lines = done-line _ tt }
first-goes (parts.sends {e = x} row route vs name sent) h = record { takes = h; calm = kind-calm row.kind route; lines = done-line _ (send-done (is_sync_row row) (send.request_of x row route vs) vs) }
first-goes (parts.answers {e = x} by vs r row found may accepted used) h = record { takes = left by h; calm = λ why k. cc; lines = done-line _ (answering-done r.seq vs) }
  where
    left : (way : Answering) → takes_in_state (answering.without_resolver way x).state ≡ true → takes_in_state x.state ≡ true
    left (handled seq) k = k
    left (kept name number) k = k
first-goes (parts.closes opened none) h = cc
first-goes (parts.dies opened) h = cc
first-goes (parts.dies_silent closed dead) h = cc
first-goes (parts.takes m sync level row vs next body found stays) h = record { takes = h; calm = λ why k. cc; lines = done-line _ tt }
first-goes (parts.drops {e = x} m sync level row vs id told next body found gone is) h =
    let answers : AllByRecursion IsDoneLine (reply_lines told (request_answered m) (answer.Fault reason.ActorDestroyed)) = reply-done told (request_answered m) (answer.Fault reason.ActorDestroyed) in
    record { takes = following-takes told (parts.left_end x) h; calm = λ why k. cc; lines = done-lines (what.Drop m.seq m.route m.number id ∷ reply_lines told (request_answered m) (answer.Fault reason.ActorDestroyed)) (tt, answers) }
first-goes (parts.drops_unknown m sync level vs next body found) h = record { takes = h; calm = λ why k. cc; lines = done-line _ tt }
first-goes (parts.takes_reply m sync level a next body settling) h = record { takes = h; calm = λ why k. cc; lines = done-line _ tt }
first-goes (parts.settles m sync level row a next body found awaited) h = record { takes = h; calm = λ why k. cc; lines = settle-done m.seq _ }
first-goes (parts.shuts last next farewell) h = cc
first-goes {schema} (parts.returns {e = x} entry row vs told lost is told_is lost_is) h =
    let popped : End = record x { stack = drop 1 x.stack } in
    let answers : List What = reply_lines told (return.dispatch_answered entry) (return.return_answer schema x row entry vs) in
    let loses : List What = reply_lines lost (resolver_answered (answering.resolver_in entry)) (answer.Fault reason.ResolverDestroyed) in
    let both : AllByRecursion IsDoneLine (answers ++ loses) = all-append IsDoneLine answers loses (reply-done told (return.dispatch_answered entry) (return.return_answer schema x row entry vs)) (reply-done lost (resolver_answered (answering.resolver_in entry)) (answer.Fault reason.ResolverDestroyed)) in
    record {
      takes = following-takes told popped (following-takes lost (end_after told popped) h);
      calm = kind-calm row.kind entry.route;
      lines = done-lines (what.Return (head_of entry.frame).seq ∷ (answers ++ loses)) (tt, both);
    }
first-goes (parts.resumes wait row top found) h = record { takes = h; calm = λ why k. cc; lines = done-line _ (resume-done wait.seq _) }

delivery-done : {schema : Schema} {packet : Packet} {e f : End} {ws : List What} {ps : List Packet} {q : Phase} → DeliveryPart schema packet e ws ps f q → AllByRecursion IsDoneLine ws
delivery-done (parts.gets_request m row vs body found none) = (tt, tt)
delivery-done (parts.replaces m row vs old sync level told body found rep is) = (tt, (tt, reply-done told (request_answered old) (answer.Fault reason.ResolverDestroyed)))
delivery-done (parts.gets_answer m row a body found sync) = (tt, tt)
delivery-done (parts.gets_reply m row a body found sync) = (tt, tt)
delivery-done (parts.drains {e = x} packet farewell) = (farewell-done packet, mapped-lines IsDoneLine what.Fails (delivery.unanswered x) (λ n. tt))
delivery-done (parts.passes_by m farewell found) = (unknown-done m.seq m.body, tt)

-- Steps

-- while the end takes what has arrived
abbrev pub SettledAreDone : End → List What → Type 0
SettledAreDone e said = takes_in_state e.state ≡ true → AllDone said

open-takes : (s : EndState) → is_open s ≡ true → takes_in_state s ≡ true
open-takes state.Open h = refl
open-takes state.Draining h = refl
open-takes state.Closed h = cc
open-takes state.Dead h = cc

pub settled-done : (schema : Schema) → EveryStepKeeps schema SettledAreDone
settled-done schema = record {
  begins = λ top side takes n h. cc;
  goes_on = λ e link ev output ws said is at k takes. by e output ws said k takes (made-of schema e link ev output is e.side ws at);
}
  where
    own : (e g : End) (ws said : List What) (ps : List Packet) (q : Phase) → SettledAreDone e said → takes_in_state g.state ≡ true → OwnParts schema e ws ps g q → AllDone (said ++ ws)
    own e g ws said ps q k takes (parts.begun {f} {ws = us} {vs} first later over) =
        let goes : Goes e us _ = first-goes first (ap takes_in_state (sym (laters-state later)) ∙ takes) in
        done-append said (us ++ vs) (k goes.takes) (done-append us vs goes.lines (done-lines vs (laters-done later goes.calm)))

    by : (e : End) (output : Output) (ws said : List What) → SettledAreDone e said → takes_in_state output.end.state ≡ true → MadeOf schema e output ws → AllDone (said ++ ws)
    by e output ws said k takes (of_own p) = own e output.end ws said output.packets _ k takes p
    by e output ws said k takes (of_delivery packet opened part) = done-append said ws (k (open-takes e.state opened)) (done-lines ws (delivery-done part))
