-- An end's own step delivers nothing, and a delivery its one packet, by its lines.
use Rattle.std.proofs.Common.{◌≡◌, ℕ, ℤ, Bool, true, false, if◌then◌else◌, List, [], ◌∷◌, ◌++◌, map, Option, Some, None, refl, sym, ap, ◌∙◌}
use Rattle.std.specs.List.{AllByRecursion}
use Rattle.ipdl_base.specs.declared.kinds.Reason.TheVariants as reason
use Rattle.ipdl_base.specs.declared.line.What.{What}
use Rattle.ipdl_base.specs.declared.line.What.TheVariants as what
use Rattle.ipdl_base.specs.declared.message.Body.{Body}
use Rattle.ipdl_base.specs.declared.message.Body.TheVariants.{Request, Reply, Fault, Goodbye}
use Rattle.ipdl_base.specs.declared.schema.Schema.{Schema}
use Rattle.ipdl_base.specs.declared.value.Values.{Values}
use Rattle.nesting_core.specs.declared.frame.Answer.{Answer}
use Rattle.nesting_core.specs.declared.frame.Answer.TheVariants as answer
use Rattle.pending_queue.specs.declared.item.Item.{Item}
use Rattle.pending_queue.specs.declared.item.Item.TheVariants as item
use Rattle.promise_table.specs.declared.promise.Outcome.{Outcome}
use Rattle.promise_table.specs.declared.promise.Outcome.TheVariants.{Resolved, Rejected}
use Rattle.history_reading.specs.declared.parts.PacketKind.{PacketKind}
use Rattle.channel_model.specs.Answers as answering
use Rattle.channel_model.specs.Deliveries as delivery
use Rattle.channel_model.specs.Ends.{End, Packet, message, mark}
use Rattle.channel_model.specs.Numbers.{is_sync_row}
use Rattle.channel_model.specs.Outputs.{body_of, request_answered, resolver_answered}
use Rattle.channel_model.specs.Parts as parts
use Rattle.channel_model.specs.Parts.{FirstPart, LaterPart, LaterParts, OwnParts, DeliveryPart, IsRefusal, IsRenaming, reply_lines, fall_lines, farewell_line}
use Rattle.channel_model.specs.Phases.{Phase}
use Rattle.channel_model.specs.Returns as return
use Rattle.channel_model.specs.Sends as send
use Rattle.channel_model.specs.States.{is_farewell, is_goodbye}
use Rattle.channel_model.specs.Takes as take
use Rattle.channel_model.specs.ValueActors.{received}
use Rattle.channel_model.proofs.Known.{all-append}
use Rattle.channel_laws.specs.Delivered.{body_kind, delivered_kind, delivered_by, delivered_by_lines}
use Rattle.channel_laws.proofs.PartLines.{EffectsHave, reply-has, laters-have, mapped-lines}

-- Lines that deliver nothing

abbrev DeliversNone : What → Type 0
DeliversNone w = delivered_by w ≡ []

none-delivered : (ws : List What) → AllByRecursion DeliversNone ws → delivered_by_lines ws ≡ []
none-delivered [] h = refl
none-delivered (w ∷ ws) h = ap (λ (xs : List PacketKind). xs ++ delivered_by_lines ws) h.0 ∙ none-delivered ws h.1

none-effects : EffectsHave DeliversNone
none-effects = record { built = λ id protocol. refl; ok = λ n vs. refl; fault = λ n r. refl; falls = record { rejected = λ n r. refl; fell = λ id why. refl } }

none-refusal : (schema : Schema) (w : What) → IsRefusal schema w → DeliversNone w
none-refusal schema (what.RefusedSend c n) q = refl
none-refusal schema (what.RefusedClose c) q = refl
none-refusal schema (what.RefusedResolve c) q = refl
none-refusal schema (what.RefusedReject c) q = refl
none-refusal schema _ q = absurd q

none-renaming : (w : What) → IsRenaming w → DeliversNone w
none-renaming (what.Keep n name) q = refl
none-renaming (what.Let name id) q = refl
none-renaming _ q = absurd q

none-send : (sync : Bool) (seq transaction route : ℤ) (number : ℕ) (vs : Values) → DeliversNone (if sync then what.Call seq transaction route number vs else what.Send seq route number vs)
none-send true seq transaction route number vs = refl
none-send false seq transaction route number vs = refl

none-answering : (seq : ℤ) (vs : Option Values) → DeliversNone (answering.answering_line seq vs)
none-answering seq None = refl
none-answering seq (Some vs) = refl

none-settle : (seq : ℤ) (o : Outcome) → DeliversNone (take.settle_line seq o)
none-settle seq (Resolved vs) = refl
none-settle seq (Rejected r) = refl

none-resume : (seq : ℤ) (a : Answer) → DeliversNone (return.resume_line seq a)
none-resume seq (answer.Ok vs) = refl
none-resume seq (answer.Fault r) = refl

none-shut : (last : Item) → DeliversNone (parts.shut_line last)
none-shut (item.Message m sync level) = refl
none-shut item.Broken = refl

-- Parts of an end's own step

first-none : {schema : Schema} {q : Phase} {e f : End} {ws : List What} {ps : List Packet} → FirstPart schema e ws ps f q → AllByRecursion DeliversNone ws
first-none {schema} (parts.refuses w q) = (none-refusal schema w q, tt)
first-none (parts.renames w q) = (none-renaming w q, tt)
first-none (parts.flushes o) = (refl, tt)
first-none {e} (parts.sends row route vs name sent) = (none-send (is_sync_row row) (send.request_of e row route vs).seq (send.request_of e row route vs).transaction route row.number vs, tt)
first-none (parts.answers by vs r row found may ok used) = (none-answering r.seq vs, tt)
first-none (parts.closes o waits) = (refl, tt)
first-none (parts.dies o) = (refl, tt)
first-none (parts.dies_silent o alive) = (refl, tt)
first-none (parts.takes m sync level row vs next body found stays) = (refl, tt)
first-none (parts.drops m sync level row vs id replies next body found gone is) = (refl, reply-has DeliversNone none-effects replies (request_answered m) (answer.Fault reason.ActorDestroyed))
first-none (parts.drops_unknown m sync level vs next body none) = (refl, tt)
first-none (parts.takes_reply m sync level a next body late) = (refl, tt)
first-none {schema} {e} (parts.settles m sync level row a next body found is) = (refl, (none-settle m.seq (parts.reply_outcome schema e row a), tt))
first-none (parts.shuts last next is) = (none-shut last, tt)
first-none {schema} {e} (parts.returns entry row vs told lost on_top t l) = (
  refl,
  all-append DeliversNone (reply_lines told (return.dispatch_answered entry) (return.return_answer schema e row entry vs)) (reply_lines lost (resolver_answered (answering.resolver_in entry)) (answer.Fault reason.ResolverDestroyed))
      (reply-has DeliversNone none-effects told (return.dispatch_answered entry) (return.return_answer schema e row entry vs)) (reply-has DeliversNone none-effects lost (resolver_answered (answering.resolver_in entry)) (answer.Fault reason.ResolverDestroyed)),
)
first-none {schema} {e} (parts.resumes wait row on_top found) = (none-resume wait.seq (received schema e.actors row wait.given), tt)

pub own-delivers-none : {schema : Schema} {q : Phase} {e f : End} {ws : List What} {ps : List Packet} → OwnParts schema e ws ps f q → delivered_by_lines ws ≡ []
own-delivers-none {ws = all} (parts.begun {ws} {vs} part rest ended) = none-delivered all (all-append DeliversNone ws vs (first-none part) (laters-have DeliversNone none-effects rest))

-- A delivery

answer-kind : (seq : ℤ) (a : Answer) → delivered_by (what.DeliverReply seq) ≡ body_kind seq (body_of a) ∷ []
answer-kind seq (answer.Ok vs) = refl
answer-kind seq (answer.Fault r) = refl

farewell-kind : (packet : Packet) → is_farewell (parts.farewell_item packet) ≡ true → delivered_by (farewell_line packet) ≡ delivered_kind packet ∷ []
farewell-kind mark is = refl
farewell-kind (message m) is = by m.body is
  where
    by : (b : Body) → is_goodbye b ≡ true → delivered_by what.DeliverGoodbye ≡ body_kind m.seq b ∷ []
    by (Request vs) is = cc
    by (Reply vs) is = cc
    by (Fault r) is = cc
    by Goodbye is = refl

unknown-kind : (seq : ℤ) (b : Body) → delivered_by (parts.unknown_line seq b) ≡ body_kind seq b ∷ []
unknown-kind seq (Request vs) = refl
unknown-kind seq (Reply vs) = refl
unknown-kind seq (Fault r) = refl
unknown-kind seq Goodbye = refl

with-none : (w : What) (ws : List What) (kind : PacketKind) → AllByRecursion DeliversNone ws → delivered_by w ≡ kind ∷ [] → delivered_by_lines (w ∷ ws) ≡ kind ∷ []
with-none w ws kind none is = ap (λ (xs : List PacketKind). xs ++ delivered_by_lines ws) is ∙ ap (λ (xs : List PacketKind). kind ∷ xs) (none-delivered ws none)

pub delivery-delivers : {schema : Schema} {packet : Packet} {q : Phase} {e f : End} {ws : List What} {ps : List Packet} → DeliveryPart schema packet e ws ps f q → delivered_by_lines ws ≡ delivered_kind packet ∷ []
delivery-delivers (parts.gets_request m row vs body found none) = ap (λ (b : Body). body_kind m.seq b ∷ []) (sym body)
delivery-delivers (parts.replaces m row vs old sync level replies body found rep is) =
    with-none (what.DeliverRequest m.seq) (what.Replaced old.seq ∷ reply_lines replies (request_answered old) (answer.Fault reason.ResolverDestroyed)) (body_kind m.seq m.body) (refl, reply-has DeliversNone none-effects replies (request_answered old) (answer.Fault reason.ResolverDestroyed)) (ap (λ (b : Body). body_kind m.seq b ∷ []) (sym body))
delivery-delivers (parts.gets_answer m row a body found is) = answer-kind m.seq a ∙ ap (λ (b : Body). body_kind m.seq b ∷ []) (sym body)
delivery-delivers (parts.gets_reply m row a body found is) = answer-kind m.seq a ∙ ap (λ (b : Body). body_kind m.seq b ∷ []) (sym body)
delivery-delivers {e} (parts.drains packet is) = with-none (farewell_line packet) (map what.Fails (delivery.unanswered e)) (delivered_kind packet) (mapped-lines DeliversNone what.Fails (delivery.unanswered e) (λ n. refl)) (farewell-kind packet is)
delivery-delivers (parts.passes_by m ordinary none) = with-none (parts.unknown_line m.seq m.body) [] (body_kind m.seq m.body) tt (unknown-kind m.seq m.body)
