-- A test that all lines pass, except perhaps those that take or drop what has arrived: the lines of a step pass if
-- those do.
use Rattle.std.proofs.Common.{◌≡◌, ℕ, ◌+◌, ℤ, Bool, true, false, if◌then◌else◌, List, [], ◌∷◌, ◌++◌, map, Option, Some, None, refl}
use Rattle.ipdl_base.specs.declared.kinds.Level.{Level}
use Rattle.ipdl_base.specs.declared.kinds.Reason.TheVariants.{ActorDestroyed, ResolverDestroyed}
use Rattle.ipdl_base.specs.declared.line.What.{What}
use Rattle.ipdl_base.specs.declared.line.What.TheVariants as what
use Rattle.ipdl_base.specs.declared.message.Body.{Body}
use Rattle.ipdl_base.specs.declared.message.Body.TheVariants.{Request, Reply, Fault, Goodbye}
use Rattle.ipdl_base.specs.declared.message.Message.{Message}
use Rattle.ipdl_base.specs.declared.schema.MessageRow.{MessageRow}
use Rattle.ipdl_base.specs.declared.schema.Schema.{Schema}
use Rattle.ipdl_base.specs.declared.value.Values.{Values}
use Rattle.ipdl_base.specs.Sound.{message_of}
use Rattle.nesting_core.specs.declared.frame.Answer.{Answer}
use Rattle.nesting_core.specs.declared.frame.Answer.TheVariants as answer
use Rattle.pending_queue.specs.declared.item.Item.{Item}
use Rattle.pending_queue.specs.declared.item.Item.TheVariants as item
use Rattle.channel_model.specs.Answers as answering
use Rattle.channel_model.specs.Deliveries as delivery
use Rattle.channel_model.specs.Ends.{End, Packet, message, mark}
use Rattle.channel_model.specs.Numbers.{is_sync_row}
use Rattle.channel_model.specs.Outputs.{request_answered, resolver_answered, body_of}
use Rattle.channel_model.specs.Parts
use Rattle.channel_model.specs.Parts.{OwnParts, FirstPart, LaterPart, LaterParts, DeliveryPart, IsRefusal, IsRenaming, reply_lines, farewell_line, shut_line, reply_outcome}
use Rattle.channel_model.specs.Phases.{Phase}
use Rattle.channel_model.specs.Returns as return
use Rattle.channel_model.specs.Sends as send
use Rattle.channel_model.specs.Takes as take
use Rattle.channel_model.specs.ValueActors.{nulled, received}
use Rattle.channel_model.proofs.Known.{all-append, all-map}
use Rattle.history_reading.specs.EndReading.{EndReading}
use Rattle.history_reading.specs.Reading.{after_what}
use Rattle.channel_laws.specs.Tested.{after_whats, EndLinesPass}
use Rattle.channel_laws.proofs.EffectLines.{IsEffectLine, AreEffectLines, built, answers_ok, answers_fault, fails, resolved, rejected, fell, reply-effects, fail-effects, settle-effect, laters-effects}
use Rattle.channel_laws.proofs.Testing.{tested-append, tested-free}

-- whether a line takes nothing from what has arrived: it is no take, no drop and no take of a reply
abbrev pub takes_nothing : What → Bool
takes_nothing (what.Take n route number vs) = false
takes_nothing (what.Drop n route number id) = false
takes_nothing (what.TakeReply n) = false
takes_nothing _ = true

effect-takes_nothing : (w : What) → IsEffectLine w → takes_nothing w ≡ true
effect-takes_nothing w (built id protocol) = refl
effect-takes_nothing w (answers_ok n vs) = refl
effect-takes_nothing w (answers_fault n reason) = refl
effect-takes_nothing w (fails n) = refl
effect-takes_nothing w (resolved n vs) = refl
effect-takes_nothing w (rejected n reason) = refl
effect-takes_nothing w (fell id why) = refl

refusal-takes_nothing : (schema : Schema) (w : What) → IsRefusal schema w → takes_nothing w ≡ true
refusal-takes_nothing schema (what.RefusedSend cause number) is = refl
refusal-takes_nothing schema (what.RefusedClose cause) is = refl
refusal-takes_nothing schema (what.RefusedResolve cause) is = refl
refusal-takes_nothing schema (what.RefusedReject cause) is = refl
refusal-takes_nothing schema _ is = absurd is

renaming-takes_nothing : (w : What) → IsRenaming w → takes_nothing w ≡ true
renaming-takes_nothing (what.Keep n name) is = refl
renaming-takes_nothing (what.Let name id) is = refl
renaming-takes_nothing _ is = absurd is

send-takes_nothing : (b : Bool) (m : Message) (vs : Values) → takes_nothing (if b then what.Call m.seq m.transaction m.route m.number vs else what.Send m.seq m.route m.number vs) ≡ true
send-takes_nothing true m vs = refl
send-takes_nothing false m vs = refl

answering-takes_nothing : (n : ℤ) (vs : Option Values) → takes_nothing (answering.answering_line n vs) ≡ true
answering-takes_nothing n None = refl
answering-takes_nothing n (Some vs) = refl

resume-takes_nothing : (n : ℤ) (a : Answer) → takes_nothing (return.resume_line n a) ≡ true
resume-takes_nothing n (answer.Ok vs) = refl
resume-takes_nothing n (answer.Fault reason) = refl

shut-takes_nothing : (last : Item) → takes_nothing (shut_line last) ≡ true
shut-takes_nothing (item.Message m sync level) = refl
shut-takes_nothing item.Broken = refl

farewell-takes_nothing : (packet : Packet) → takes_nothing (farewell_line packet) ≡ true
farewell-takes_nothing (message m) = refl
farewell-takes_nothing mark = refl

unknown-takes_nothing : (n : ℤ) (body : Body) → takes_nothing (Parts.unknown_line n body) ≡ true
unknown-takes_nothing n (Request vs) = refl
unknown-takes_nothing n (Reply vs) = refl
unknown-takes_nothing n (Fault reason) = refl
unknown-takes_nothing n Goodbye = refl

-- Whatever an end takes or drops next, its line passes.
pub record TakesPass (schema : Schema) (Test : EndReading → What → Type 0) (e : End) (own : EndReading) : Type 0 where
  pub takes : (m : Message) (sync : Bool) (level : Level) (row : MessageRow) (vs : Values) → take.taken_next e ≡ Some (item.Message m sync level) → m.body ≡ Request vs → message_of schema m.number ≡ Some row → Test own (what.Take m.seq m.route m.number (nulled schema e.actors row.params vs))
  pub drops : (m : Message) (sync : Bool) (level : Level) (vs : Values) (id : ℤ) → take.taken_next e ≡ Some (item.Message m sync level) → m.body ≡ Request vs → Test own (what.Drop m.seq m.route m.number id)
  pub takes_reply : (m : Message) (sync : Bool) (level : Level) (a : Answer) → take.taken_next e ≡ Some (item.Message m sync level) → m.body ≡ body_of a → Test own (what.TakeReply m.seq)

module _ (schema : Schema) (Test : EndReading → What → Type 0) (free : (own : EndReading) (w : What) → takes_nothing w ≡ true → Test own w) where
  abbrev Pass : ℕ → List What → EndReading → Type 0
  Pass place ws own = EndLinesPass schema Test place ws own

  effects-pass : (place : ℕ) (ws : List What) (own : EndReading) → AreEffectLines ws → Pass place ws own
  effects-pass place ws own effects = tested-free schema Test place ws own (all-map IsEffectLine (λ w. (read : EndReading) → Test read w) ws (λ w effect read. free read w (effect-takes_nothing w effect)) effects)

  first-pass : {e f : End} {ws : List What} {ps : List Packet} {q : Phase} (place : ℕ) (own : EndReading) → FirstPart schema e ws ps f q → TakesPass schema Test e own → Pass place ws own
  first-pass place own (Parts.refuses w is) t = (free own w (refusal-takes_nothing schema w is), tt)
  first-pass place own (Parts.renames w is) t = (free own w (renaming-takes_nothing w is), tt)
  first-pass {e} place own (Parts.flushes o) t = (free own _ refl, tt)
  first-pass {e} place own (Parts.sends row route vs name sent) t = (free own _ (send-takes_nothing (is_sync_row row) (send.request_of e row route vs) vs), tt)
  first-pass place own (Parts.answers by vs r row found may ok used) t = (free own _ (answering-takes_nothing r.seq vs), tt)
  first-pass place own (Parts.closes o waits) t = (free own _ refl, tt)
  first-pass place own (Parts.dies o) t = (free own _ refl, tt)
  first-pass place own (Parts.dies_silent o alive) t = (free own _ refl, tt)
  first-pass place own (Parts.takes m sync level row vs next body found stays) t = (t.takes m sync level row vs next body found, tt)
  first-pass place own (Parts.drops m sync level row vs id replies next body found gone is) t =
      (t.drops m sync level vs id next body, effects-pass (place + 1) (reply_lines replies (request_answered m) (answer.Fault ActorDestroyed)) _ (reply-effects replies (request_answered m) (answer.Fault ActorDestroyed)))
  first-pass place own (Parts.drops_unknown m sync level vs next body found) t = (t.drops m sync level vs m.route next body, tt)
  first-pass place own (Parts.takes_reply m sync level a next body late) t = (t.takes_reply m sync level a next body, tt)
  first-pass {e} place own (Parts.settles m sync level row a next body found awaited) t =
      (t.takes_reply m sync level a next body, effects-pass (place + 1) (take.settle_line m.seq (reply_outcome schema e row a) ∷ []) (after_what schema place (what.TakeReply m.seq) own) (settle-effect m.seq (reply_outcome schema e row a), tt))
  first-pass place own (Parts.shuts last next is) t = (free own _ (shut-takes_nothing last), tt)
  first-pass {e} place own (Parts.returns entry row vs told lost may x y) t =
      let ls : List What = reply_lines told (return.dispatch_answered entry) (return.return_answer schema e row entry vs) in
      let ms : List What = reply_lines lost (resolver_answered (answering.resolver_in entry)) (answer.Fault ResolverDestroyed) in
      (free own _ refl, effects-pass (place + 1) (ls ++ ms) _ (all-append IsEffectLine ls ms (reply-effects told (return.dispatch_answered entry) (return.return_answer schema e row entry vs)) (reply-effects lost (resolver_answered (answering.resolver_in entry)) (answer.Fault ResolverDestroyed))))
  first-pass {e} place own (Parts.resumes wait row on_top found) t = (free own _ (resume-takes_nothing wait.seq (received schema e.actors row wait.given)), tt)

  -- the lines of an end's own step pass, if those of what it takes do
  pub own-pass : {q : Phase} {e f : End} {ws : List What} {ps : List Packet} (place : ℕ) (own : EndReading) → OwnParts schema e ws ps f q → TakesPass schema Test e own → Pass place ws own
  own-pass place own (Parts.begun {ws} {vs} part rest ended) t =
      tested-append schema Test place ws vs own (first-pass place own part t) (λ at. effects-pass at vs (after_whats schema place ws own) (laters-effects rest))

  -- the lines of a delivery pass
  pub delivery-pass : {packet : Packet} {q : Phase} {e f : End} {ws : List What} {ps : List Packet} (place : ℕ) (own : EndReading) → DeliveryPart schema packet e ws ps f q → Pass place ws own
  delivery-pass place own (Parts.gets_request m row vs body found none) = (free own _ refl, tt)
  delivery-pass place own (Parts.replaces m row vs old sync level replies body found is told) =
      (free own _ refl, (free _ _ refl, effects-pass (place + 1 + 1) (reply_lines replies (request_answered old) (answer.Fault ResolverDestroyed)) _ (reply-effects replies (request_answered old) (answer.Fault ResolverDestroyed))))
  delivery-pass place own (Parts.gets_answer m row a body found is) = (free own _ refl, tt)
  delivery-pass place own (Parts.gets_reply m row a body found is) = (free own _ refl, tt)
  delivery-pass {e} place own (Parts.drains packet is) = (free own _ (farewell-takes_nothing packet), effects-pass (place + 1) (map what.Fails (delivery.unanswered e)) _ (fail-effects (delivery.unanswered e)))
  delivery-pass place own (Parts.passes_by m is found) = (free own _ (unknown-takes_nothing m.seq m.body), tt)
