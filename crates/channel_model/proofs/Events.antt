-- Each event prints its line, and then a line for each of its effects: part by part.
use Rattle.std.proofs.Common.{◌≡◌, ℤ, Bool, true, false, if◌then◌else◌, List, [], ◌∷◌, ◌++◌, drop, filter, flat_map, map, Option, Some, None, refl, sym, subst, ◌∙◌}
use Rattle.std.specs.List.{AllByRecursion}
use Rattle.ipdl_base.specs.declared.kinds.Destroy.{Destroy}
use Rattle.ipdl_base.specs.declared.kinds.Reason.{Reason}
use Rattle.ipdl_base.specs.declared.kinds.Reason.TheVariants as reason
use Rattle.ipdl_base.specs.declared.kinds.Side.{Side}
use Rattle.ipdl_base.specs.declared.line.What.{What}
use Rattle.ipdl_base.specs.declared.line.What.TheVariants as what
use Rattle.ipdl_base.specs.declared.message.Body.{Body}
use Rattle.ipdl_base.specs.declared.message.Body.TheVariants.{Request, Reply, Fault, Goodbye}
use Rattle.ipdl_base.specs.declared.message.Message.{Message}
use Rattle.ipdl_base.specs.declared.schema.Schema.{Schema}
use Rattle.ipdl_base.specs.declared.value.Values.{Values}
use Rattle.ipdl_base.specs.Lines.{is_effect}
use Rattle.nesting_core.specs.declared.frame.Answer.{Answer}
use Rattle.nesting_core.specs.declared.frame.Answer.TheVariants as answer
use Rattle.pending_queue.specs.declared.item.Item.{Item}
use Rattle.pending_queue.specs.declared.item.Item.TheVariants as item
use Rattle.promise_table.specs.declared.promise.Outcome.{Outcome}
use Rattle.promise_table.specs.declared.promise.Outcome.TheVariants.{Resolved, Rejected}
use Rattle.promise_table.specs.declared.promise.Promise.{Promise}
use Rattle.promise_table.specs.Promises.{is_pending_of}
use Rattle.channel_model.specs.Answers as answering
use Rattle.channel_model.specs.Deliveries as delivery
use Rattle.channel_model.specs.Ends.{End, Packet, message, mark, PromiseEntry}
use Rattle.channel_model.specs.EventLines.{IsEffectOf, IsEventWithEffects}
use Rattle.channel_model.specs.Events.{Answering, handled, kept}
use Rattle.channel_model.specs.Falls as fall
use Rattle.ipdl_base.specs.Sides.{top_id}
use Rattle.channel_model.specs.Numbers.{is_sync_row}
use Rattle.channel_model.specs.Outputs.{Output, AnsweredRequest, request_answered, resolver_answered, line_at}
use Rattle.channel_model.specs.Parts
use Rattle.channel_model.specs.Parts.{FirstPart, LaterPart, LaterParts, OwnParts, DeliveryPart, IsRefusal, IsRenaming, reply_lines, end_after, falling, shut_line, farewell_line, unknown_line}
use Rattle.channel_model.specs.Phases.{Phase}
use Rattle.channel_model.specs.Returns as return
use Rattle.channel_model.specs.Sends as send
use Rattle.channel_model.specs.StepLaws.{HasItsLines, EventsHaveTheirLines}
use Rattle.channel_model.specs.Takes as take
use Rattle.channel_model.specs.ValueActors.{received}
use Rattle.channel_model.proofs.Known.{all-append}
use Rattle.channel_model.proofs.StepParts.{by-parts}

-- Lines

abbrev IsEffect : What → Type 0
IsEffect w = is_effect w ≡ true

abbrev AllEffects : List What → Type 0
AllEffects = AllByRecursion IsEffect

-- a line of an event, and then lines of effects
abbrev BeginsEvent : List What → Type 0
BeginsEvent [] = ⊥
BeginsEvent (w ∷ ws) = (is_effect w ≡ false) × AllEffects ws

begins-append : (ws vs : List What) → BeginsEvent ws → AllEffects vs → BeginsEvent (ws ++ vs)
begins-append [] vs h k = absurd h
begins-append (w ∷ ws) vs h k = (h.0, all-append IsEffect ws vs h.1 k)

effects-map : {A : Type 0} (f : A → What) (xs : List A) → ((x : A) → IsEffect (f x)) → AllEffects (map f xs)
effects-map f [] h = tt
effects-map f (x ∷ xs) h = (h x, effects-map f xs h)

effects-flat_map : {A : Type 0} (f : A → List What) (xs : List A) → ((x : A) → AllEffects (f x)) → AllEffects (flat_map f xs)
effects-flat_map f [] h = tt
effects-flat_map f (x ∷ xs) h = all-append IsEffect (f x) (flat_map f xs) (h x) (effects-flat_map f xs h)

rejections-effects : (test : Promise → Bool) (why : Reason) (promises : List PromiseEntry) → AllEffects (fall.rejections test why promises)
rejections-effects test why promises = effects-map (λ (entry : PromiseEntry). what.Rejected entry.promise.seq why) (filter (fall.passes test) promises) (λ entry. refl)

falls-effects : (id : ℤ) (why : ℤ → Destroy) (e : End) → AllEffects (Parts.fall_lines id why e)
falls-effects id why e =
    effects-flat_map (fall.fall_lines why e.promises) (falling id e)
    (λ a. all-append IsEffect (fall.rejections (is_pending_of a.id) reason.ActorDestroyed e.promises) (what.Fall a.id (why a.id) ∷ []) (rejections-effects (is_pending_of a.id) reason.ActorDestroyed e.promises) (refl, tt))

reply-effects : (b : Bool) (q : AnsweredRequest) (a : Answer) → AllEffects (reply_lines b q a)
reply-effects true q (answer.Ok vs) = (refl, tt)
reply-effects true q (answer.Fault why) = (refl, tt)
reply-effects false q a = tt

settle-effect : (seq : ℤ) (outcome : Outcome) → IsEffect (take.settle_line seq outcome)
settle-effect seq (Resolved vs) = refl
settle-effect seq (Rejected why) = refl

refusal-event : (schema : Schema) (w : What) → IsRefusal schema w → is_effect w ≡ false
refusal-event schema (what.RefusedSend cause number) h = refl
refusal-event schema (what.RefusedClose cause) h = refl
refusal-event schema (what.RefusedResolve cause) h = refl
refusal-event schema (what.RefusedReject cause) h = refl
refusal-event schema _ h = absurd h

renaming-event : (w : What) → IsRenaming w → is_effect w ≡ false
renaming-event (what.Keep seq name) h = refl
renaming-event (what.Let name id) h = refl
renaming-event _ h = absurd h

send-event : (sync : Bool) (m : Message) (vs : Values) → is_effect (if sync then what.Call m.seq m.transaction m.route m.number vs else what.Send m.seq m.route m.number vs) ≡ false
send-event true m vs = refl
send-event false m vs = refl

answering-event : (seq : ℤ) (vs : Option Values) → is_effect (answering.answering_line seq vs) ≡ false
answering-event seq None = refl
answering-event seq (Some vs) = refl

resume-event : (seq : ℤ) (a : Answer) → is_effect (return.resume_line seq a) ≡ false
resume-event seq (answer.Ok vs) = refl
resume-event seq (answer.Fault why) = refl

shut-event : (last : Item) → is_effect (shut_line last) ≡ false
shut-event (item.Message m sync level) = refl
shut-event item.Broken = refl

farewell-event : (packet : Packet) → is_effect (farewell_line packet) ≡ false
farewell-event (message m) = refl
farewell-event mark = refl

unknown-event : (seq : ℤ) (body : Body) → is_effect (unknown_line seq body) ≡ false
unknown-event seq (Request vs) = refl
unknown-event seq (Reply vs) = refl
unknown-event seq (Fault why) = refl
unknown-event seq Goodbye = refl

-- Parts

-- What a part prints, and that the end keeps its side.
record Prints (P : List What → Type 0) (e f : End) (ws : List What) : Type 0 where
  lines : P ws
  side : f.side ≡ e.side

following-side : (b : Bool) (e : End) → (end_after b e).side ≡ e.side
following-side true e = refl
following-side false e = refl

used-side : (by : Answering) (e : End) → (answering.without_resolver by e).side ≡ e.side
used-side (handled seq) e = refl
used-side (kept name number) e = refl

first-prints : {schema : Schema} {p : Phase} {e f : End} {ws : List What} {ps : List Packet} → FirstPart schema e ws ps f p → Prints BeginsEvent e f ws
first-prints {schema} (Parts.refuses w is) = record { lines = (refusal-event schema w is, tt); side = refl }
first-prints (Parts.renames w is) = record { lines = (renaming-event w is, tt); side = refl }
first-prints (Parts.flushes open_is) = record { lines = (refl, tt); side = refl }
first-prints {e} (Parts.sends row route vs name sent) = record { lines = (send-event (is_sync_row row) (send.request_of e row route vs) vs, tt); side = refl }
first-prints {e} (Parts.answers by vs r row found may ok is) = record { lines = (answering-event r.seq vs, tt); side = used-side by e }
first-prints (Parts.closes open_is none) = record { lines = (refl, tt); side = refl }
first-prints (Parts.dies open_is) = record { lines = (refl, tt); side = refl }
first-prints (Parts.dies_silent open_is alive) = record { lines = (refl, tt); side = refl }
first-prints (Parts.takes m sync level row vs next body found stays) = record { lines = (refl, tt); side = refl }
first-prints {e} (Parts.drops m sync level row vs id replies next body found gone is) = record { lines = (refl, reply-effects replies (request_answered m) (answer.Fault reason.ActorDestroyed)); side = following-side replies (Parts.left_end e) }
first-prints (Parts.drops_unknown m sync level vs next body none) = record { lines = (refl, tt); side = refl }
first-prints (Parts.takes_reply m sync level a next body late) = record { lines = (refl, tt); side = refl }
first-prints {schema} {e} (Parts.settles m sync level row a next body found is) = record { lines = (refl, (settle-effect m.seq (Parts.reply_outcome schema e row a), tt)); side = refl }
first-prints (Parts.shuts last next is) = record { lines = (shut-event last, tt); side = refl }
first-prints {schema} {e} (Parts.returns entry row vs told lost returns t l) =
    let off : End = record e { stack = drop 1 e.stack } in
    record {
      lines = (
        refl,
        all-append IsEffect (reply_lines told (return.dispatch_answered entry) (return.return_answer schema e row entry vs)) (reply_lines lost (resolver_answered (answering.resolver_in entry)) (answer.Fault reason.ResolverDestroyed))
            (reply-effects told (return.dispatch_answered entry) (return.return_answer schema e row entry vs)) (reply-effects lost (resolver_answered (answering.resolver_in entry)) (answer.Fault reason.ResolverDestroyed)),
      );
      side = following-side lost (end_after told off) ∙ following-side told off;
    }
first-prints {schema} {e} (Parts.resumes wait row on_top found) = record { lines = (resume-event wait.seq (received schema e.actors row wait.given), tt); side = refl }

later-prints : {p q : Phase} {e f : End} {ws : List What} {ps : List Packet} → LaterPart p e ws ps f q → Prints AllEffects e f ws
later-prints (Parts.unnames name may silent) = record { lines = tt; side = refl }
later-prints (Parts.lets_go name r may held open_is) = record { lines = (refl, tt); side = refl }
later-prints (Parts.names more actors) = record { lines = tt; side = refl }
later-prints (Parts.releases seq closed) = record { lines = tt; side = refl }
later-prints (Parts.keeps seq name r held closed) = record { lines = tt; side = refl }
later-prints (Parts.builds id protocol rest fresh built) = record { lines = (refl, tt); side = refl }
later-prints {e} (Parts.deletes id cause) = record { lines = falls-effects id (fall.why_deleted id) e; side = refl }
later-prints {e} (Parts.falls why cause) = record { lines = all-append IsEffect (Parts.abandoned_lines e) (Parts.fall_lines top_id (λ id. why) (Parts.abandoned_end e)) (rejections-effects (λ p. true) reason.ChannelClosed e.promises) (falls-effects top_id (λ id. why) (Parts.abandoned_end e)); side = refl }

laters-print : {p q : Phase} {e f : End} {ws : List What} {ps : List Packet} → LaterParts p e ws ps f q → Prints AllEffects e f ws
laters-print Parts.done = record { lines = tt; side = refl }
laters-print (Parts.then {ws} {vs} part rest) =
    let a = later-prints part in
    let b = laters-print rest in
    record { lines = all-append IsEffect ws vs a.lines b.lines; side = b.side ∙ a.side }

own-prints : {schema : Schema} {p : Phase} {e f : End} {ws : List What} {ps : List Packet} → OwnParts schema e ws ps f p → Prints BeginsEvent e f ws
own-prints (Parts.begun {ws} {vs} first rest over) =
    let a = first-prints first in
    let b = laters-print rest in
    record { lines = begins-append ws vs a.lines b.lines; side = b.side ∙ a.side }

delivery-prints : {schema : Schema} {packet : Packet} {p : Phase} {e f : End} {ws : List What} {ps : List Packet} → DeliveryPart schema packet e ws ps f p → Prints BeginsEvent e f ws
delivery-prints (Parts.gets_request m row vs body found none) = record { lines = (refl, tt); side = refl }
delivery-prints {e} (Parts.replaces m row vs old sync level replies body found rep is) = record { lines = (refl, (refl, reply-effects replies (request_answered old) (answer.Fault reason.ResolverDestroyed))); side = following-side replies (delivery.counted row (delivery.item_of row m) e) }
delivery-prints (Parts.gets_answer m row a body found sync) = record { lines = (refl, tt); side = refl }
delivery-prints (Parts.gets_reply m row a body found async) = record { lines = (refl, tt); side = refl }
delivery-prints {e} (Parts.drains packet is) = record { lines = (farewell-event packet, effects-map what.Fails (delivery.unanswered e) (λ n. refl)); side = refl }
delivery-prints (Parts.passes_by m ordinary none) = record { lines = (unknown-event m.seq m.body, tt); side = refl }

-- Steps

effect-lines : (side : Side) (ws : List What) → AllEffects ws → AllByRecursion (IsEffectOf side) (map (line_at side) ws)
effect-lines side [] h = tt
effect-lines side (w ∷ ws) h = ((refl, h.0), effect-lines side ws h.1)

event-lines : (side : Side) (ws : List What) → BeginsEvent ws → IsEventWithEffects side (map (line_at side) ws)
event-lines side [] h = absurd h
event-lines side (w ∷ ws) h = ((refl, h.0), effect-lines side ws h.1)

made-lines : (e : End) (output : Output) (ws : List What) → output.lines ≡ map (line_at e.side) ws → Prints BeginsEvent e output.end ws → HasItsLines e output
made-lines e output ws is h = record { lines = subst (IsEventWithEffects e.side) (sym is) (event-lines e.side ws h.lines); side = h.side }

pub events_have_their_lines : EventsHaveTheirLines
events_have_their_lines schema e link happened output is =
    by-parts schema e link happened output (HasItsLines e output) is (λ made. made-lines e output made.whats made.lines (own-prints made.parts)) (λ same made. made-lines e output made.3.whats made.3.lines (delivery-prints made.3.parts))
