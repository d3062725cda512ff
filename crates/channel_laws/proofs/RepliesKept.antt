-- Every step of an end keeps what it reads of replies.
use Rattle.std.proofs.Common.{◌≡◌, ℕ, ◌+◌, ℤ, Bool, true, false, if◌then◌else◌, List, [], ◌∷◌, ◌++◌, Option, Some, None, is_none, sym, ap, subst, ◌∙◌}
use Rattle.std.specs.List.{AllByRecursion}
use Rattle.ipdl_base.specs.declared.kinds.Reason.TheVariants.{ActorDestroyed, HandlerRejected, ResolverDestroyed}
use Rattle.ipdl_base.specs.declared.kinds.Side.{Side}
use Rattle.ipdl_base.specs.declared.line.What.{What}
use Rattle.ipdl_base.specs.declared.line.What.TheVariants as what
use Rattle.ipdl_base.specs.declared.message.Body.{Body}
use Rattle.ipdl_base.specs.declared.message.Body.TheVariants as bodies
use Rattle.ipdl_base.specs.declared.message.Message.{Message}
use Rattle.ipdl_base.specs.declared.schema.MessageRow.{MessageRow}
use Rattle.ipdl_base.specs.declared.schema.Schema.{Schema}
use Rattle.ipdl_base.specs.declared.value.Values.{Values}
use Rattle.ipdl_base.specs.declared.value.Values.TheVariants.{Nothing}
use Rattle.nesting_core.specs.declared.frame.Answer.{Answer}
use Rattle.nesting_core.specs.declared.frame.Answer.TheVariants as answer
use Rattle.pending_queue.specs.declared.item.Item.{Item}
use Rattle.pending_queue.specs.declared.item.Item.TheVariants as item
use Rattle.promise_table.specs.declared.promise.Outcome.{Outcome}
use Rattle.promise_table.specs.declared.promise.Outcome.TheVariants.{Resolved, Rejected}
use Rattle.channel_model.specs.Answers as answering
use Rattle.channel_model.specs.Deliveries as delivery
use Rattle.channel_model.specs.Ends.{End, Packet, message, mark, StackEntry}
use Rattle.channel_model.specs.Events.{Event}
use Rattle.channel_model.specs.Falls as fall
use Rattle.channel_model.specs.Numbers.{is_sync_row}
use Rattle.channel_model.specs.Outputs.{AnsweredRequest, request_answered, resolver_answered, is_open}
use Rattle.channel_model.specs.Parts
use Rattle.channel_model.specs.Parts.{OwnParts, FirstPart, LaterPart, LaterParts, DeliveryPart, IsRefusal, IsRenaming, reply_lines, fall_lines, falling, farewell_item, farewell_line, shut_line, reply_outcome}
use Rattle.channel_model.specs.Phases.{Phase}
use Rattle.channel_model.specs.Returns as return
use Rattle.channel_model.specs.Sends as send
use Rattle.channel_model.specs.Steps.{first_packet}
use Rattle.channel_model.specs.Takes as take
use Rattle.channel_model.specs.ValueActors.{received}
use Rattle.channel_model.proofs.Known.{all-append, all-map}
use Rattle.history_reading.specs.declared.parts.PacketKind.TheVariants as kind
use Rattle.history_reading.specs.EndReading.{EndReading, is_sync_request}
use Rattle.history_reading.specs.Reading as reads
use Rattle.history_reading.specs.Reading.{after_what}
use Rattle.history_reading.specs.SentPacket as told
use Rattle.history_reading.specs.SentPacket.{SentPacket}
use Rattle.channel_laws.specs.Notes.{Note, told_note, told_notes}
use Rattle.channel_laws.specs.Origins.{PacketReplies}
use Rattle.channel_laws.specs.Replies.{ItemReplies, IsNoClosedFault, SaysNoClosedFault, ReadsReplies}
use Rattle.channel_laws.specs.Tested.{after_whats}
use Rattle.channel_laws.proofs.PartLines.{mapped-lines, FallsHave, falls-have, closing-has}
use Rattle.channel_laws.proofs.Growing.{grows, replies-grow}
use Rattle.channel_laws.proofs.Moves.{StepParts, acts, delivers}
use Rattle.channel_laws.proofs.NotedArrivals.{own-arrived, delivery-arrived}
use Rattle.std.proofs.lemmas.List.{map-append}

-- Lines

-- a line by which no end replies that the channel has closed
abbrev IsAllowed : What → Type 0
IsAllowed (what.AnswerFault n reason) = IsNoClosedFault (told.fault reason)
IsAllowed _ = Unit {0}

abbrev AllSay : List SentPacket → Type 0
AllSay sent = AllByRecursion SaysNoClosedFault sent

one-more : (sent : List SentPacket) (p : SentPacket) → SaysNoClosedFault p → AllSay sent → AllSay (sent ++ p ∷ [])
one-more sent p is h = all-append SaysNoClosedFault sent (p ∷ []) h (is, tt)

replying-says : (n : ℤ) (own : EndReading) → AllSay own.sent → AllSay (reads.replying n own).sent
replying-says n own h = by (is_sync_request own n)
  where
    by : (b : Bool) → AllSay (if b then reads.answering n (reads.delivering (kind.Reply n) own) else reads.arriving (kind.Reply n) own).sent
    by true = h
    by false = h

dying-says : (own : EndReading) → AllSay own.sent → AllSay (reads.dying own).sent
dying-says own h = by own.ended
  where
    by : (b : Bool) → AllSay (if b then own.sent else own.sent ++ told.broken ∷ [])
    by true = h
    by false = one-more own.sent told.broken tt h

one-says : (schema : Schema) (place : ℕ) (w : What) (own : EndReading) → IsAllowed w → AllSay own.sent → AllSay (after_what schema place w own).sent
one-says schema place (what.Send n route number vs) own is h = one-more own.sent (told.request _) tt h
one-says schema place (what.Call n transaction route number vs) own is h = one-more own.sent (told.request _) tt h
one-says schema place (what.Resolve n vs) own is h = one-more own.sent (told.said n (told.resolved vs)) tt h
one-says schema place (what.Reject n) own is h = one-more own.sent (told.said n told.rejected) tt h
one-says schema place (what.AnswerOk n vs) own is h = one-more own.sent (told.said n (told.ok vs)) tt h
one-says schema place (what.AnswerFault n reason) own is h = one-more own.sent (told.said n (told.fault reason)) is h
one-says schema place what.Close own is h = one-more own.sent told.goodbye tt h
one-says schema place what.Die own is h = dying-says own h
one-says schema place (what.DeliverReply n) own is h = replying-says n own h
one-says schema place _ own is h = h

lines-say : (schema : Schema) (place : ℕ) (ws : List What) (own : EndReading) → AllByRecursion IsAllowed ws → AllSay own.sent → AllSay (after_whats schema place ws own).sent
lines-say schema place [] own is h = h
lines-say schema place (w ∷ ws) own is h = lines-say schema (place + 1) ws (after_what schema place w own) is.1 (one-says schema place w own is.0 h)

-- Lines of parts

abbrev AnswerAllowed : Answer → Type 0
AnswerAllowed (answer.Ok vs) = Unit {0}
AnswerAllowed (answer.Fault reason) = IsNoClosedFault (told.fault reason)

replies-allowed : (b : Bool) (q : AnsweredRequest) (a : Answer) → AnswerAllowed a → AllByRecursion IsAllowed (reply_lines b q a)
replies-allowed true q (answer.Ok vs) is = (tt, tt)
replies-allowed true q (answer.Fault reason) is = (is, tt)
replies-allowed false q a is = tt

return-allowed : (schema : Schema) (e : End) (row : MessageRow) (entry : StackEntry) (vs : Option Values) → AnswerAllowed (return.return_answer schema e row entry vs)
return-allowed schema e row entry vs = by (is_none row.returns) vs
  where
    bad : (b : Bool) (us : Values) → AnswerAllowed (if b then answer.Fault HandlerRejected else answer.Ok us)
    bad true us = tt
    bad false us = tt

    by : (b : Bool) (vs : Option Values) → AnswerAllowed (if b then answer.Ok Nothing else return.given_answer schema e row entry vs)
    by true vs = tt
    by false None = tt
    by false (Some us) = bad (return.is_bad_return schema e row entry us) us

refusal-allowed : (schema : Schema) (w : What) → IsRefusal schema w → IsAllowed w
refusal-allowed schema (what.RefusedSend cause number) is = tt
refusal-allowed schema (what.RefusedClose cause) is = tt
refusal-allowed schema (what.RefusedResolve cause) is = tt
refusal-allowed schema (what.RefusedReject cause) is = tt
refusal-allowed schema _ is = absurd is

renaming-allowed : (w : What) → IsRenaming w → IsAllowed w
renaming-allowed (what.Keep n name) is = tt
renaming-allowed (what.Let name id) is = tt
renaming-allowed _ is = absurd is

send-allowed : (b : Bool) (m : Message) (vs : Values) → IsAllowed (if b then what.Call m.seq m.transaction m.route m.number vs else what.Send m.seq m.route m.number vs)
send-allowed true m vs = tt
send-allowed false m vs = tt

answering-allowed : (n : ℤ) (vs : Option Values) → IsAllowed (answering.answering_line n vs)
answering-allowed n None = tt
answering-allowed n (Some vs) = tt

resume-allowed : (n : ℤ) (a : Answer) → IsAllowed (return.resume_line n a)
resume-allowed n (answer.Ok vs) = tt
resume-allowed n (answer.Fault reason) = tt

settle-allowed : (n : ℤ) (outcome : Outcome) → IsAllowed (take.settle_line n outcome)
settle-allowed n (Resolved vs) = tt
settle-allowed n (Rejected reason) = tt

shut-allowed : (last : Item) → IsAllowed (shut_line last)
shut-allowed (item.Message m sync level) = tt
shut-allowed item.Broken = tt

farewell-allowed : (packet : Packet) → IsAllowed (farewell_line packet)
farewell-allowed (message m) = tt
farewell-allowed mark = tt

unknown-allowed : (n : ℤ) (body : Body) → IsAllowed (Parts.unknown_line n body)
unknown-allowed n (bodies.Request vs) = tt
unknown-allowed n (bodies.Reply vs) = tt
unknown-allowed n (bodies.Fault reason) = tt
unknown-allowed n bodies.Goodbye = tt

allowed-falls : FallsHave IsAllowed
allowed-falls = record { rejected = λ n r. tt; fell = λ id why. tt }

module _ (schema : Schema) where
  first-allowed : {e f : End} {ws : List What} {ps : List Packet} {q : Phase} → FirstPart schema e ws ps f q → AllByRecursion IsAllowed ws
  first-allowed (Parts.refuses w is) = (refusal-allowed schema w is, tt)
  first-allowed (Parts.renames w is) = (renaming-allowed w is, tt)
  first-allowed (Parts.flushes o) = (tt, tt)
  first-allowed {e} (Parts.sends row route vs name sent) = (send-allowed (is_sync_row row) (send.request_of e row route vs) vs, tt)
  first-allowed (Parts.answers by vs r row found may ok used) = (answering-allowed r.seq vs, tt)
  first-allowed (Parts.closes o waits) = (tt, tt)
  first-allowed (Parts.dies o) = (tt, tt)
  first-allowed (Parts.dies_silent o alive) = (tt, tt)
  first-allowed (Parts.takes m sync level row vs next body found stays) = (tt, tt)
  first-allowed (Parts.drops m sync level row vs id replies next body found gone is) = (tt, replies-allowed replies (request_answered m) (answer.Fault ActorDestroyed) tt)
  first-allowed (Parts.drops_unknown m sync level vs next body found) = (tt, tt)
  first-allowed (Parts.takes_reply m sync level a next body late) = (tt, tt)
  first-allowed {e} (Parts.settles m sync level row a next body found awaited) = (tt, (settle-allowed m.seq (reply_outcome schema e row a), tt))
  first-allowed (Parts.shuts last next is) = (shut-allowed last, tt)
  first-allowed {e} (Parts.returns entry row vs told_it lost may t l) = (
    tt,
    all-append IsAllowed (reply_lines told_it (return.dispatch_answered entry) (return.return_answer schema e row entry vs)) (reply_lines lost (resolver_answered (answering.resolver_in entry)) (answer.Fault ResolverDestroyed))
        (replies-allowed told_it (return.dispatch_answered entry) (return.return_answer schema e row entry vs) (return-allowed schema e row entry vs)) (replies-allowed lost (resolver_answered (answering.resolver_in entry)) (answer.Fault ResolverDestroyed) tt),
  )
  first-allowed {e} (Parts.resumes wait row on_top found) = (resume-allowed wait.seq (received schema e.actors row wait.given), tt)

  later-allowed : {p q : Phase} {e f : End} {ws : List What} {ps : List Packet} → LaterPart p e ws ps f q → AllByRecursion IsAllowed ws
  later-allowed (Parts.unnames name may silent) = tt
  later-allowed (Parts.lets_go name r may held o) = (tt, tt)
  later-allowed (Parts.names more holds) = tt
  later-allowed (Parts.releases seq is) = tt
  later-allowed (Parts.keeps seq name r is o) = tt
  later-allowed (Parts.builds id protocol rest fresh alive) = (tt, tt)
  later-allowed {e = e} (Parts.deletes id is) = falls-have IsAllowed allowed-falls id (fall.why_deleted id) e
  later-allowed {e = e} (Parts.falls why is) = closing-has IsAllowed allowed-falls why e

  laters-allowed : {p q : Phase} {e f : End} {ws : List What} {ps : List Packet} → LaterParts p e ws ps f q → AllByRecursion IsAllowed ws
  laters-allowed Parts.done = tt
  laters-allowed (Parts.then {ws} {vs} part rest) = all-append IsAllowed ws vs (later-allowed part) (laters-allowed rest)

  own-allowed : {q : Phase} {e f : End} {ws : List What} {ps : List Packet} → OwnParts schema e ws ps f q → AllByRecursion IsAllowed ws
  own-allowed (Parts.begun {ws} {vs} part rest ended) = all-append IsAllowed ws vs (first-allowed part) (laters-allowed rest)

  delivery-allowed : {packet : Packet} {q : Phase} {e f : End} {ws : List What} {ps : List Packet} → DeliveryPart schema packet e ws ps f q → AllByRecursion IsAllowed ws
  delivery-allowed (Parts.gets_request m row vs body found none) = (tt, tt)
  delivery-allowed (Parts.replaces m row vs old sync level replies body found is told_it) = (tt, (tt, replies-allowed replies (request_answered old) (answer.Fault ResolverDestroyed) tt))
  delivery-allowed (Parts.gets_answer m row a body found is) = (tt, tt)
  delivery-allowed (Parts.gets_reply m row a body found is) = (tt, tt)
  delivery-allowed {e = e} (Parts.drains packet is) = (farewell-allowed packet, mapped-lines IsAllowed what.Fails (delivery.unanswered e) (λ n. tt))
  delivery-allowed (Parts.passes_by m is found) = (unknown-allowed m.seq m.body, tt)

  -- What has arrived

  item-grows : (sent more : List Note) (x : Item) → ItemReplies schema sent x → ItemReplies schema (sent ++ more) x
  item-grows sent more (item.Message m sync level) h = (replies-grow schema sent more (message m ∷ []) (h, tt)).0
  item-grows sent more item.Broken h = tt

  arrived-step : (sent : List Note) (e : End) (link : List Packet) {ev : Event} {ws : List What} {ps : List Packet} {f : End} {q : Phase} → StepParts schema e link ev ws ps f q → ((packet : Packet) → first_packet link ≡ Some packet → is_open e.state ≡ true → PacketReplies schema sent packet)
      → AllByRecursion (ItemReplies schema sent) e.arrived → AllByRecursion (ItemReplies schema sent) f.arrived
  arrived-step sent e link (acts same part) comes h = own-arrived (ItemReplies schema sent) part h
  arrived-step sent e link (delivers packet first o part) comes h =
      delivery-arrived (ItemReplies schema sent) part (λ m row is. subst (PacketReplies schema sent) is (comes packet first o)) (farewell-replies packet (comes packet first o)) h
    where
      farewell-replies : (p : Packet) → PacketReplies schema sent p → ItemReplies schema sent (farewell_item p)
      farewell-replies (message m) h = h
      farewell-replies mark h = tt

  step-allowed : (e : End) (link : List Packet) {ev : Event} {ws : List What} {ps : List Packet} {f : End} {q : Phase} → StepParts schema e link ev ws ps f q → AllByRecursion IsAllowed ws
  step-allowed e link (acts same part) = own-allowed part
  step-allowed e link (delivers packet first o part) = delivery-allowed part

  -- after a step an end reads replies as before
  pub replies-step : (place : ℕ) (e : End) (own : EndReading) (link : List Packet) {ev : Event} {ws : List What} {ps : List Packet} {f : End} {q : Phase} → StepParts schema e link ev ws ps f q → f.side ≡ e.side → ((packet : Packet) → first_packet link ≡ Some packet → is_open e.state ≡ true → PacketReplies schema (told_notes e.side own.sent) packet)
      → ReadsReplies schema e own → ReadsReplies schema f (after_whats schema place ws own)
  replies-step place e own link {ws = ws} {f = f} part side comes h =
      let g = grows schema place ws own in
      record {
        arrived = subst (λ (s : Side). AllByRecursion (ItemReplies schema (told_notes s (after_whats schema place ws own).sent)) f.arrived) (sym side)
            (subst (λ (sent : List Note). AllByRecursion (ItemReplies schema sent) f.arrived) (sym (ap (told_notes e.side) g.1 ∙ map-append (told_note e.side) own.sent g.0))
            (all-map (ItemReplies schema (told_notes e.side own.sent)) (ItemReplies schema (told_notes e.side own.sent ++ told_notes e.side g.0)) f.arrived (item-grows (told_notes e.side own.sent) (told_notes e.side g.0)) (arrived-step (told_notes e.side own.sent) e link part comes h.arrived)));
        said_by = lines-say schema place ws own (step-allowed e link part) h.said_by;
      }
