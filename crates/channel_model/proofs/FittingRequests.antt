-- Requests that fit, and the replies to them.
use Rattle.std.proofs.Common.{◌≡◌, ℕ, ◌+◌, ◌==◌, Bool, true, not, ◌&&◌, ◌||◌, cond, List, [], is_some, unwrap_or, option_and_then, Option, Some, None, refl, sym, ap, subst, ◌∙◌}
use Rattle.std.specs.List.{All}
use Rattle.std.specs.Option.{option_map_or}
use Rattle.std.proofs.lemmas.Bool.{eq-eqb}
use Rattle.std.proofs.lemmas.Option.{same_Some}
use Rattle.ipdl_base.specs.declared.kinds.Reason.{Reason}
use Rattle.ipdl_base.specs.declared.kinds.Reason.TheVariants.{HandlerRejected, ActorDestroyed, ResolverDestroyed}
use Rattle.ipdl_base.specs.declared.kinds.Semantics.{Semantics}
use Rattle.ipdl_base.specs.declared.kinds.Semantics.TheVariants.{Async, Sync}
use Rattle.ipdl_base.specs.declared.message.Body.{Body}
use Rattle.ipdl_base.specs.declared.message.Body.TheVariants.{Request, Reply, Fault}
use Rattle.ipdl_base.specs.declared.message.Message.{Message}
use Rattle.ipdl_base.specs.declared.schema.MessageRow.{MessageRow}
use Rattle.ipdl_base.specs.declared.schema.ParamRow.{ParamRow}
use Rattle.ipdl_base.specs.declared.schema.Schema.{Schema}
use Rattle.ipdl_base.specs.declared.value.Values.{Values}
use Rattle.ipdl_base.specs.Signatures.{returns_of_row}
use Rattle.ipdl_base.specs.Sound.{IsSound, is_sync, has_reply, message_of}
use Rattle.nesting_core.specs.declared.frame.Answer.{Answer}
use Rattle.nesting_core.specs.declared.frame.Answer.TheVariants as answer
use Rattle.value_types.specs.Fits.{IsFaultOf, IsCarriedId, IsRequestOf, IsReplyTo, GivesReturns, FitsBody, Fits, all_actor_ids}
use Rattle.value_types.specs.HasType.{HaveTypes}
use Rattle.channel_model.specs.Fitting.{IsRequestKept, FitsAnswer, FitsPromised}
use Rattle.channel_model.specs.Numbers.{is_sync_row, makes_promise, request_row}
use Rattle.channel_model.specs.Outputs.{AnsweredRequest, request_answered, reply_to, body_of}
use Rattle.channel_model.proofs.SendParts.{request-number}
use Rattle.channel_model.proofs.SoundRows.{reply-row}

-- Rows

-- a message that makes a promise is async and has a reply
pub promise-reply : (row : MessageRow) → makes_promise row ≡ true → has_reply row ≡ true
promise-reply row e = by row.semantics (is_some row.returns) e
  where
    by : (s : Semantics) (b : Bool) → not (is_sync s) && b ≡ true → is_sync s || b ≡ true
    by Sync b e = refl
    by Async b e = e

pub promise-async : (row : MessageRow) → makes_promise row ≡ true → row.semantics ≡ Async
promise-async row e = by row.semantics e
  where
    by : (s : Semantics) → not (is_sync s) && is_some row.returns ≡ true → s ≡ Async
    by Sync e = cc
    by Async e = refl

pub sync-reply : (row : MessageRow) → is_sync_row row ≡ true → has_reply row ≡ true
sync-reply row e = by row.semantics e
  where
    by : (s : Semantics) → is_sync s ≡ true → is_sync s || is_some row.returns ≡ true
    by Sync e = refl
    by Async e = cc

-- a number finds at most one row
pub same-row : (schema : Schema) (n : ℕ) (row other : MessageRow) → message_of schema n ≡ Some row → message_of schema n ≡ Some other → row ≡ other
same-row schema n row other found also = same_Some row other (sym found ∙ also)

-- the row of a request's number
pub request-row : (schema : Schema) (n : ℕ) (row : MessageRow) → message_of schema n ≡ Some row → n ≡ row.number → request_row schema n ≡ Some row
request-row schema n row found number =
    ap (λ (m : Option MessageRow). option_and_then (λ (r : MessageRow). cond (r.number == n) (Some r) None) m) found ∙ ap (λ (b : Bool). cond b (Some row) None) (eq-eqb row.number n (sym number))

-- Requests that are kept

-- what is kept of a request that fits
pub request-kept : (schema : Schema) (row : MessageRow) (m : Message) (vs : Values) → IsRequestOf schema row m vs → IsRequestKept schema row (request_answered m)
request-kept schema row m vs h = record {
  found = request-row schema m.number row h.found h.number;
  fields = λ body. record { carried = h.fields.carried; route = h.fields.route; seq = h.fields.seq; transaction = h.fields.transaction };
}

-- a message with a request's body that fits is one of its row
pub request-of : (schema : Schema) (row : MessageRow) (m : Message) (vs : Values) → Fits schema m → m.body ≡ Request vs → message_of schema m.number ≡ Some row → IsRequestOf schema row m vs
request-of schema row m vs h body found =
    let f : FitsBody schema m (Request vs) = subst (FitsBody schema m) body h in
    subst (λ (r : MessageRow). IsRequestOf schema r m vs) (same-row schema m.number f.0 row f.1.found found) f.1

module _ (schema : Schema) (sound : IsSound schema) (row : MessageRow) (q : AnsweredRequest) (kept : IsRequestKept schema row q) where
  -- every answer to a request that has a reply is a reply to it
  is-reply : (body : Body) → has_reply row ≡ true → IsReplyTo schema row (reply_to q body)
  is-reply body replies =
      let n = request-number schema q.number row kept.found in
      record { found = reply-row schema sound q.number row n.1 n.0 replies; number = ap (λ (k : ℕ). k + 1) (sym n.0); replies = replies; fields = kept.fields body; made = refl }

  pub values-fit : (vs : Values) → has_reply row ≡ true → GivesReturns schema row vs → Fits schema (reply_to q (Reply vs))
  values-fit vs replies gives = (row, is-reply (Reply vs) replies, gives)

  pub fault-fits : (reason : Reason) → has_reply row ≡ true → IsFaultOf row.semantics reason → Fits schema (reply_to q (Fault reason))
  fault-fits reason replies fault = (row, is-reply (Fault reason) replies, fault)

-- the faults with which an end answers

pub rejected-fault : (s : Semantics) → IsFaultOf s HandlerRejected
rejected-fault Sync = tt
rejected-fault Async = tt

pub destroyed-fault : (s : Semantics) → IsFaultOf s ActorDestroyed
destroyed-fault Sync = tt
destroyed-fault Async = tt

pub resolver-fault : (row : MessageRow) → makes_promise row ≡ true → IsFaultOf row.semantics ResolverDestroyed
resolver-fault row e = subst (λ (s : Semantics). IsFaultOf s ResolverDestroyed) (sym (promise-async row e)) tt

-- a resolver that is destroyed is answered by a message that fits
pub promised-fault : (schema : Schema) → IsSound schema → (q : AnsweredRequest) → FitsPromised schema q → Fits schema (reply_to q (Fault ResolverDestroyed))
promised-fault schema sound q h = fault-fits schema sound h.0 q h.1 ResolverDestroyed (promise-reply h.0 h.2) (resolver-fault h.0 h.2)

-- Answers

-- the returns of a row are the same by both definitions
returns-are : (returns : Option (List ParamRow)) → option_map_or (λ (types : List ParamRow). types) returns [] ≡ unwrap_or returns []
returns-are None = refl
returns-are (Some types) = refl

pub gives-returns : (schema : Schema) (row : MessageRow) (vs : Values) → HaveTypes schema (returns_of_row row) vs → All IsCarriedId (all_actor_ids vs) → GivesReturns schema row vs
gives-returns schema row vs types ids = record { types = subst (λ (fields : List ParamRow). HaveTypes schema fields vs) (returns-are row.returns) types; ids = ids }

-- a reply that fits, by its row and its answer
pub reply-of : (schema : Schema) (row : MessageRow) (m : Message) (a : Answer) → Fits schema m → m.body ≡ body_of a → message_of schema m.number ≡ Some row → IsReplyTo schema row m × FitsAnswer schema row a
reply-of schema row m (answer.Ok vs) h body found =
    let f : FitsBody schema m (Reply vs) = subst (FitsBody schema m) body h in
    let same : f.0 ≡ row = same-row schema m.number f.0 row f.1.found found in
    (subst (λ (r : MessageRow). IsReplyTo schema r m) same f.1, subst (λ (r : MessageRow). GivesReturns schema r vs) same f.2)
reply-of schema row m (answer.Fault reason) h body found =
    let f : FitsBody schema m (Fault reason) = subst (FitsBody schema m) body h in
    (subst (λ (r : MessageRow). IsReplyTo schema r m) (same-row schema m.number f.0 row f.1.found found) f.1, tt)
