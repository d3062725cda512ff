-- Answers by resolvers: their steps and refusals, and what the code makes of them.
use Rattle.std.proofs.Common.{◌≡◌, ℕ, ◌≤◌, Bool, true, false, not, cond, if◌then◌else◌, nat_lt, List, [], Option, Some, None, option_and_then, refl, ap, sym, subst, ◌∙◌, arith}
use Rattle.std.specs.Option.{option_map}
use Rattle.std.proofs.lemmas.Bool.Decides.{nat_tests}
use Rattle.std.proofs.lemmas.Option.{same_Some}
use Rattle.ipdl_base.specs.declared.kinds.SendRefusal.{SendRefusal}
use Rattle.ipdl_base.specs.declared.kinds.SendRefusal.TheVariants as refusal
use Rattle.ipdl_base.specs.declared.message.Body.{Body}
use Rattle.ipdl_base.specs.declared.message.Body.TheVariants.{Request, Reply, Fault, Goodbye}
use Rattle.ipdl_base.specs.declared.message.Message.{Message}
use Rattle.ipdl_base.specs.declared.schema.MessageRow.{MessageRow}
use Rattle.ipdl_base.specs.declared.schema.Schema.{Schema}
use Rattle.ipdl_base.specs.declared.value.Values.{Values}
use Rattle.ipdl_base.specs.Plain.{plain_body, plain_message}
use Rattle.ipdl_base.specs.Signatures.{returns_of_row}
use Rattle.ipdl_base.specs.Sound.{IsSound, message_of}
use Rattle.actor_tree.specs.declared.actor.Actor.{Actor}
use Rattle.value_types.specs.declared.layout.TheConstants.{NEW}
use Rattle.value_types.specs.Sizes.{payload_size}
use Rattle.value_types.proofs.Boxes.{body_size-plain}
use Rattle.value_codec.specs.Spelling.{FrameOf, frame_bytes}
use Rattle.channel_model.specs.Answers.{answered_row, may_answer, answer, answer_body, answer_refusal, answered_unless, answering_line, handled_resolver, is_reply_too_large, resolver_refusal, resolver_used, refused_line, resolved}
use Rattle.channel_model.specs.Ends.{End, Resolver}
use Rattle.channel_model.specs.Events.{Answering, handled, kept}
use Rattle.channel_model.specs.Events as event
use Rattle.channel_model.specs.Fitting.{IsFitting}
use Rattle.channel_model.specs.Numbers.{makes_promise, request_row}
use Rattle.channel_model.specs.Outputs.{AnsweredRequest, resolver_answered, reply_to, beginning, line, is_open}
use Rattle.channel_model.specs.Sends.{is_too_large, value_refusal}
use Rattle.channel_model.specs.Steps.{step, provided}
use Rattle.channel_model.specs.ValueActors.{has_dead}
use Rattle.channel_model.proofs.FittingParts.{used, answer-fits}
use Rattle.channel_model.proofs.PlainValues.{plain_forms_commute}
use Rattle.end_steps.specs.Refusals.{answer_refusal_by, reply_refusal_by}
use Rattle.end_parts.specs.Replies.{line_of_reply}
use Rattle.channel_core.specs.Answers.{refusal_of_answer}
use Rattle.channel_core.specs.declared.end.answering.ReplyCheck.{ReplyCheck}
use Rattle.channel_core.specs.declared.end.answering.ReplyCheck.TheVariants.{Refused, Accepted}
use Rattle.channel_core.specs.ResolverReplies.{IsCheckOf, IsReplyCheck, reply_by, reply_refusal}
use Rattle.channel_core.specs.EndView.{EndView, HasFrame}
use Rattle.channel_core.specs.Steps.{MayAnswer}

-- Rows

-- the message that a resolver answers
pub row-handled : (schema : Schema) (e : End) (r : Resolver) (row : MessageRow) → handled_resolver e r.seq ≡ Some r → answered_row schema e (handled r.seq) ≡ Some row → request_row schema r.number ≡ Some row
row-handled schema e r row own found = ap (λ (x : Option Resolver). option_and_then (λ r. request_row schema r.number) x) (sym own) ∙ found

-- the message that a name's resolver answers
pub row-kept : (schema : Schema) (e : End) (name : List ℕ) (number : ℕ) (row : MessageRow) → answered_row schema e (kept name number) ≡ Some row → request_row schema number ≡ Some row
row-kept schema e name number row found = at (request_row schema number) found
  where
    by : (b : Bool) (x : MessageRow) → cond b (Some x) None ≡ Some row → Some x ≡ Some row
    by true x e = e
    by false x e = cc

    at : (x : Option MessageRow) → option_and_then (λ (row : MessageRow). cond (makes_promise row) (Some row) None) x ≡ Some row → x ≡ Some row
    at None e = cc
    at (Some x) e = by (makes_promise x) x e

-- Refusals

-- boxes make no difference to why an answer is refused
refusal-plain : (b : Bool) (schema : Schema) (actors : List Actor) (row : MessageRow) (reply : Option Message) → answer_refusal_by b schema actors row reply ≡ answer_refusal_by b schema actors row (option_map plain_message reply)
refusal-plain b schema actors row None = refl
refusal-plain b schema actors row (Some m) = ap (λ (rest : Option SendRefusal). if not b then Some refusal.Closed else rest) (by m.body)
  where
    size : payload_size NEW schema m ≡ payload_size NEW schema (plain_message m)
    size = sym (body_size-plain NEW schema (message_of schema m.number) m.body)

    by : (body : Body) → reply_refusal_by schema actors row m body ≡ reply_refusal_by schema actors row (plain_message m) (plain_body body)
    by (Request vs) = refl
    by (Reply vs) =
        ap (λ (n : ℕ). value_refusal (nat_lt NEW.most_payload n) (has_dead schema actors (returns_of_row row) vs)) size
        ∙ ap (λ (dead : Bool). value_refusal (is_too_large schema (plain_message m)) dead) (sym (plain_forms_commute.has_dead schema actors (returns_of_row row) vs))
    by (Fault reason) = refl
    by Goodbye = refl

-- why an answer is refused, by the reply that would be sent
refusal-by : (schema : Schema) (e : End) (row : MessageRow) (vs : Option Values) (r : Option Resolver)
    → answer_refusal_by (is_open e.state) schema e.actors row (reply_by (option_map resolver_answered r) vs) ≡ (if not (is_open e.state) then Some refusal.Closed else resolver_refusal schema e row vs r)
refusal-by schema e row vs None = refl
refusal-by schema e row None (Some r) = refl
refusal-by schema e row (Some vs) (Some r) = refl

-- and so as the code finds it
refusal-found : (v : EndView) (row : MessageRow) (by : Answering) (vs : Option Values) (number : ℕ) → message_of v.schema number ≡ Some row → reply_refusal v number (option_map resolver_answered (resolver_used v.end by)) vs ≡ answer_refusal v.schema v.end row by vs
refusal-found v row by vs number found =
    ap (λ (x : Option MessageRow). option_and_then (λ row. answer_refusal_by (is_open v.end.state) v.schema v.end.actors row (reply_by (option_map resolver_answered (resolver_used v.end by)) vs)) x) found
    ∙ refusal-by v.schema v.end row vs (resolver_used v.end by)

-- so a check of the reply finds what the definitions give
pub check-so : (v : EndView) (number : ℕ) (row : MessageRow) (q : Option AnsweredRequest) (vs : Option Values) (reply : Option Message) (cause : Option SendRefusal) (check : ReplyCheck) → message_of v.schema number ≡ Some row → option_map plain_message reply ≡ reply_by q vs
    → cause ≡ answer_refusal_by (is_open v.end.state) v.schema v.end.actors row reply → IsCheckOf cause reply check → IsReplyCheck v number q vs check
check-so v number row q vs reply cause check found made refused is = by check is
  where
    same : reply_refusal v number q vs ≡ cause
    same =
        ap (λ (x : Option MessageRow). option_and_then (λ row. answer_refusal_by (is_open v.end.state) v.schema v.end.actors row (reply_by q vs)) x) found
        ∙ ap (answer_refusal_by (is_open v.end.state) v.schema v.end.actors row) (sym made)
        ∙ sym (refusal-plain (is_open v.end.state) v.schema v.end.actors row reply)
        ∙ sym refused

    by : (check : ReplyCheck) → IsCheckOf cause reply check → IsReplyCheck v number q vs check
    by (Refused told) is = same ∙ is
    by (Accepted m) is = (same ∙ is.0, sym made ∙ is.1)

-- Steps

provides : (schema : Schema) (e : End) (by : Answering) (vs : Option Values) (row : MessageRow) → answered_row schema e by ≡ Some row → may_answer schema e row vs ≡ true
    → step schema e [] (event.answer by vs) ≡ Some (answer schema e row by vs (beginning e))
provides schema e by vs row found may =
    ap (λ (r : Option MessageRow). option_and_then (λ row. provided (may_answer schema e row vs) (answer schema e row by vs) e) r) found
    ∙ ap (λ (b : Bool). provided b (answer schema e row by vs) e) may

refusal-at : (v : EndView) (by : Answering) (vs : Option Values) (row : MessageRow) → answered_row v.schema v.end by ≡ Some row → refusal_of_answer v by vs ≡ answer_refusal v.schema v.end row by vs
unfolding refusal_of_answer
refusal-at v by vs row found = ap (λ (r : Option MessageRow). option_and_then (λ row. answer_refusal v.schema v.end row by vs) r) found

-- An answer is refused for this cause, and its step is a line.
pub record Refuses (v : EndView) (by : Answering) (vs : Option Values) (cause : SendRefusal) : Type 0 where
  pub refused : refusal_of_answer v by vs ≡ Some cause
  pub steps : step v.schema v.end [] (event.answer by vs) ≡ Some (line (refused_line cause vs) (beginning v.end))

pub refuses : (v : EndView) (by : Answering) (vs : Option Values) (cause : SendRefusal) (number : ℕ) (may : MayAnswer v by vs) → message_of v.schema number ≡ Some may.row
    → reply_refusal v number (option_map resolver_answered (resolver_used v.end by)) vs ≡ Some cause → Refuses v by vs cause
refuses v by vs cause number may found says =
    let is : answer_refusal v.schema v.end may.row by vs ≡ Some cause = sym (refusal-found v may.row by vs number found) ∙ says in
    record {
      refused = refusal-at v by vs may.row may.found ∙ is;
      steps = provides v.schema v.end by vs may.row may.found may.may ∙ ap (λ (c : Option SendRefusal). Some (answered_unless c by vs (resolver_used v.end by) (beginning v.end))) is;
    }

-- the resolver by which a reply is sent
reply-there : (vs : Option Values) (m : Message) (r : Option Resolver) → reply_by (option_map resolver_answered r) vs ≡ Some m → (x : Resolver) × (r ≡ Some x) × (reply_to (resolver_answered x) (answer_body vs) ≡ m)
reply-there vs m None e = cc
reply-there vs m (Some r) e = (r, refl, same_Some (reply_to (resolver_answered r) (answer_body vs)) m e)

-- what is not refused by an open end
open-passed : (b : Bool) (rest : Option SendRefusal) → cond (not b) (Some refusal.Closed) rest ≡ None → rest ≡ None
open-passed true rest e = e
open-passed false rest e = cc

small-at : (n : ℕ) (large dead : Bool) → nat_lt 4096 n ≡ large → value_refusal large dead ≡ None → n ≤ 4096
small-at n true dead is e = cc
small-at n false dead is e = grind (arith, nat_tests)

-- a reply that is not refused is small
reply-small : (schema : Schema) (e : End) (row : MessageRow) (vs : Option Values) (r : Resolver) → resolver_refusal schema e row vs (Some r) ≡ None → payload_size NEW schema (reply_to (resolver_answered r) (answer_body vs)) ≤ NEW.most_payload
reply-small schema e row None r ok = omega arith
reply-small schema e row (Some vs) r ok = small-at (payload_size NEW schema (reply_to (resolver_answered r) (Reply vs))) (is_reply_too_large schema r vs) (has_dead schema e.actors (returns_of_row row) vs) refl ok

-- An answer is sent by this message, which has a frame, and its step is that of the resolver.
pub record Sends (v : EndView) (by : Answering) (vs : Option Values) (m : Message) : Type 0 where
  pub r : Resolver
  pub used : resolver_used v.end by ≡ Some r
  pub is : reply_to (resolver_answered r) (answer_body vs) ≡ m
  pub framed : HasFrame v.schema m
  pub accepted : refusal_of_answer v by vs ≡ None
  pub steps : step v.schema v.end [] (event.answer by vs) ≡ Some (resolved by vs r (beginning v.end))

pub sends : (v : EndView) (by : Answering) (vs : Option Values) (m : Message) (number : ℕ) (may : MayAnswer v by vs) → IsSound v.schema → IsFitting v.schema v.end → message_of v.schema number ≡ Some may.row
    → reply_refusal v number (option_map resolver_answered (resolver_used v.end by)) vs ≡ None → reply_by (option_map resolver_answered (resolver_used v.end by)) vs ≡ Some m → plain_message m ≡ m → Sends v by vs m
sends v by vs m number may sound fitting found says there plain =
    let none : answer_refusal v.schema v.end may.row by vs ≡ None = sym (refusal-found v may.row by vs number found) ∙ says in
    let reply = reply-there vs m (resolver_used v.end by) there in
    let r : Resolver = reply.0 in
    let ok : resolver_refusal v.schema v.end may.row vs (Some r) ≡ None =
    ap (λ (x : Option Resolver). resolver_refusal v.schema v.end may.row vs x) (sym reply.1) ∙ open-passed (is_open v.end.state) (resolver_refusal v.schema v.end may.row vs (resolver_used v.end by)) none in
    record {
      r = r;
      used = reply.1;
      is = reply.2;
      framed = record {
        frame = subst (λ (m : Message). FrameOf NEW v.schema m (frame_bytes NEW v.schema m)) reply.2 (record {
          fits = answer-fits v.schema sound v.end vs r may.row (used v.schema sound v.end by r may.row may.found reply.1 fitting) may.may ok fitting;
          small = reply-small v.schema v.end may.row vs r ok;
          spelled = refl;
        });
        plain = plain;
      };
      accepted = refusal-at v by vs may.row may.found ∙ none;
      steps = provides v.schema v.end by vs may.row may.found may.may
          ∙ ap (λ (c : Option SendRefusal). Some (answered_unless c by vs (resolver_used v.end by) (beginning v.end))) none
          ∙ ap (λ (x : Option Resolver). Some (answered_unless None by vs x (beginning v.end))) reply.1;
    }

-- the line of an answer is that of its reply
pub line-answering : (q : AnsweredRequest) (vs : Option Values) → line_of_reply (reply_to q (answer_body vs)) ≡ answering_line q.seq vs
line-answering q None = refl
line-answering q (Some vs) = refl
