-- The form of the content of a line, and the content of a line of a form.
use Rattle.std.proofs.Common.{◌≡◌, ℕ, ℤ, pos, List, [], refl}
use Rattle.ipdl_base.specs.declared.kinds.Destroy.{Destroy}
use Rattle.ipdl_base.specs.declared.kinds.Destroy.TheVariants as destroys
use Rattle.ipdl_base.specs.declared.kinds.Reason.{Reason}
use Rattle.ipdl_base.specs.declared.kinds.Reason.TheVariants as reasons
use Rattle.ipdl_base.specs.declared.kinds.SendRefusal.{SendRefusal}
use Rattle.ipdl_base.specs.declared.kinds.SendRefusal.TheVariants as causes
use Rattle.ipdl_base.specs.declared.line.What.{What}
use Rattle.ipdl_base.specs.declared.line.What.TheVariants as what
use Rattle.ipdl_base.specs.declared.value.Values.{Values}
use Rattle.ipdl_base.specs.declared.value.Values.TheVariants as values

pub data WhatForm : Type 0 where
  form_send : WhatForm
  form_call : WhatForm
  form_refused_send : WhatForm
  form_refused_close : WhatForm
  form_refused_resolve : WhatForm
  form_refused_reject : WhatForm
  form_resolve : WhatForm
  form_reject : WhatForm
  form_keep : WhatForm
  form_let : WhatForm
  form_close : WhatForm
  form_die : WhatForm
  form_deliver_request : WhatForm
  form_deliver_reply : WhatForm
  form_deliver_goodbye : WhatForm
  form_deliver_broken : WhatForm
  form_take : WhatForm
  form_drop : WhatForm
  form_take_reply : WhatForm
  form_shut_normal : WhatForm
  form_shut_abnormal : WhatForm
  form_return : WhatForm
  form_resume_ok : WhatForm
  form_resume_fault : WhatForm
  form_flush : WhatForm
  form_built : WhatForm
  form_replaced : WhatForm
  form_answer_ok : WhatForm
  form_answer_fault : WhatForm
  form_fails : WhatForm
  form_resolved : WhatForm
  form_rejected : WhatForm
  form_fall : WhatForm

abbrev pub what_form : What → WhatForm
what_form (what.Send n route message vs) = form_send
what_form (what.Call n transaction route message vs) = form_call
what_form (what.RefusedSend cause message) = form_refused_send
what_form (what.RefusedClose cause) = form_refused_close
what_form (what.RefusedResolve cause) = form_refused_resolve
what_form (what.RefusedReject cause) = form_refused_reject
what_form (what.Resolve n vs) = form_resolve
what_form (what.Reject n) = form_reject
what_form (what.Keep n name) = form_keep
what_form (what.Let name id) = form_let
what_form what.Close = form_close
what_form what.Die = form_die
what_form (what.DeliverRequest n) = form_deliver_request
what_form (what.DeliverReply n) = form_deliver_reply
what_form what.DeliverGoodbye = form_deliver_goodbye
what_form what.DeliverBroken = form_deliver_broken
what_form (what.Take n route message vs) = form_take
what_form (what.Drop n route message id) = form_drop
what_form (what.TakeReply n) = form_take_reply
what_form what.ShutNormal = form_shut_normal
what_form what.ShutAbnormal = form_shut_abnormal
what_form (what.Return n) = form_return
what_form (what.ResumeOk n vs) = form_resume_ok
what_form (what.ResumeFault n reason) = form_resume_fault
what_form (what.Flush count) = form_flush
what_form (what.Built id protocol) = form_built
what_form (what.Replaced n) = form_replaced
what_form (what.AnswerOk n vs) = form_answer_ok
what_form (what.AnswerFault n reason) = form_answer_fault
what_form (what.Fails n) = form_fails
what_form (what.Resolved n vs) = form_resolved
what_form (what.Rejected n reason) = form_rejected
what_form (what.Fall id destroy) = form_fall

-- the content of a line of a form, for each kind; for another form, anything

abbrev pub first_in : What → ℤ
first_in (what.Send n route message vs) = n
first_in (what.Call n transaction route message vs) = n
first_in (what.Resolve n vs) = n
first_in (what.Reject n) = n
first_in (what.Keep n name) = n
first_in (what.DeliverRequest n) = n
first_in (what.DeliverReply n) = n
first_in (what.Take n route message vs) = n
first_in (what.Drop n route message id) = n
first_in (what.TakeReply n) = n
first_in (what.Return n) = n
first_in (what.ResumeOk n vs) = n
first_in (what.ResumeFault n reason) = n
first_in (what.Replaced n) = n
first_in (what.AnswerOk n vs) = n
first_in (what.AnswerFault n reason) = n
first_in (what.Fails n) = n
first_in (what.Resolved n vs) = n
first_in (what.Rejected n reason) = n
first_in _ = pos 0

abbrev pub second_in : What → ℤ
second_in (what.Call n transaction route message vs) = transaction
second_in (what.Let name id) = id
second_in (what.Drop n route message id) = id
second_in (what.Built id protocol) = id
second_in (what.Fall id destroy) = id
second_in _ = pos 0

abbrev pub third_in : What → ℤ
third_in (what.Send n route message vs) = route
third_in (what.Call n transaction route message vs) = route
third_in (what.Take n route message vs) = route
third_in (what.Drop n route message id) = route
third_in _ = pos 0

abbrev pub message_in : What → ℕ
message_in (what.Send n route message vs) = message
message_in (what.Call n transaction route message vs) = message
message_in (what.RefusedSend cause message) = message
message_in (what.Take n route message vs) = message
message_in (what.Drop n route message id) = message
message_in (what.Flush count) = count
message_in (what.Built id protocol) = protocol
message_in _ = 0

abbrev pub values_in : What → Values
values_in (what.Send n route message vs) = vs
values_in (what.Call n transaction route message vs) = vs
values_in (what.Resolve n vs) = vs
values_in (what.Take n route message vs) = vs
values_in (what.ResumeOk n vs) = vs
values_in (what.AnswerOk n vs) = vs
values_in (what.Resolved n vs) = vs
values_in _ = values.Nothing

abbrev pub name_in : What → List ℕ
name_in (what.Keep n name) = name
name_in (what.Let name id) = name
name_in _ = []

abbrev pub cause_in : What → SendRefusal
cause_in (what.RefusedSend cause message) = cause
cause_in (what.RefusedClose cause) = cause
cause_in (what.RefusedResolve cause) = cause
cause_in (what.RefusedReject cause) = cause
cause_in _ = causes.Closed

abbrev pub reason_in : What → Reason
reason_in (what.ResumeFault n reason) = reason
reason_in (what.AnswerFault n reason) = reason
reason_in (what.Rejected n reason) = reason
reason_in _ = reasons.ChannelClosed

abbrev pub destroy_in : What → Destroy
destroy_in (what.Fall id destroy) = destroy
destroy_in _ = destroys.Deletion

-- the content in a form, by the content of each kind
abbrev pub said : WhatForm → What → What
said form_send w = what.Send (first_in w) (third_in w) (message_in w) (values_in w)
said form_call w = what.Call (first_in w) (second_in w) (third_in w) (message_in w) (values_in w)
said form_refused_send w = what.RefusedSend (cause_in w) (message_in w)
said form_refused_close w = what.RefusedClose (cause_in w)
said form_refused_resolve w = what.RefusedResolve (cause_in w)
said form_refused_reject w = what.RefusedReject (cause_in w)
said form_resolve w = what.Resolve (first_in w) (values_in w)
said form_reject w = what.Reject (first_in w)
said form_keep w = what.Keep (first_in w) (name_in w)
said form_let w = what.Let (name_in w) (second_in w)
said form_close w = what.Close
said form_die w = what.Die
said form_deliver_request w = what.DeliverRequest (first_in w)
said form_deliver_reply w = what.DeliverReply (first_in w)
said form_deliver_goodbye w = what.DeliverGoodbye
said form_deliver_broken w = what.DeliverBroken
said form_take w = what.Take (first_in w) (third_in w) (message_in w) (values_in w)
said form_drop w = what.Drop (first_in w) (third_in w) (message_in w) (second_in w)
said form_take_reply w = what.TakeReply (first_in w)
said form_shut_normal w = what.ShutNormal
said form_shut_abnormal w = what.ShutAbnormal
said form_return w = what.Return (first_in w)
said form_resume_ok w = what.ResumeOk (first_in w) (values_in w)
said form_resume_fault w = what.ResumeFault (first_in w) (reason_in w)
said form_flush w = what.Flush (message_in w)
said form_built w = what.Built (second_in w) (message_in w)
said form_replaced w = what.Replaced (first_in w)
said form_answer_ok w = what.AnswerOk (first_in w) (values_in w)
said form_answer_fault w = what.AnswerFault (first_in w) (reason_in w)
said form_fails w = what.Fails (first_in w)
said form_resolved w = what.Resolved (first_in w) (values_in w)
said form_rejected w = what.Rejected (first_in w) (reason_in w)
said form_fall w = what.Fall (second_in w) (destroy_in w)

pub said-again : (w : What) → w ≡ said (what_form w) w
said-again (what.Send n route message vs) = refl
said-again (what.Call n transaction route message vs) = refl
said-again (what.RefusedSend cause message) = refl
said-again (what.RefusedClose cause) = refl
said-again (what.RefusedResolve cause) = refl
said-again (what.RefusedReject cause) = refl
said-again (what.Resolve n vs) = refl
said-again (what.Reject n) = refl
said-again (what.Keep n name) = refl
said-again (what.Let name id) = refl
said-again what.Close = refl
said-again what.Die = refl
said-again (what.DeliverRequest n) = refl
said-again (what.DeliverReply n) = refl
said-again what.DeliverGoodbye = refl
said-again what.DeliverBroken = refl
said-again (what.Take n route message vs) = refl
said-again (what.Drop n route message id) = refl
said-again (what.TakeReply n) = refl
said-again what.ShutNormal = refl
said-again what.ShutAbnormal = refl
said-again (what.Return n) = refl
said-again (what.ResumeOk n vs) = refl
said-again (what.ResumeFault n reason) = refl
said-again (what.Flush count) = refl
said-again (what.Built id protocol) = refl
said-again (what.Replaced n) = refl
said-again (what.AnswerOk n vs) = refl
said-again (what.AnswerFault n reason) = refl
said-again (what.Fails n) = refl
said-again (what.Resolved n vs) = refl
said-again (what.Rejected n reason) = refl
said-again (what.Fall id destroy) = refl
