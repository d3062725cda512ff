-- What a script says to do is plain.
use Rattle.std.proofs.Common.{◌≡◌, ℕ, zero, suc, ℤ, [], ◌∷◌, Option, Some, None, refl, ap}
use Rattle.std.specs.Prelude.{option_map}
use Rattle.handler_script.specs.declared.action.Action.{Action}
use Rattle.handler_script.specs.declared.action.Action.TheVariants as action
use Rattle.handler_script.specs.declared.script.Script.{Script}
use Rattle.handler_script.specs.declared.term.Term.{Term, Union', Maybe', Held-Term-Maybe-0, None', Some'}
use Rattle.handler_script.specs.declared.term.Term.TheVariants as term
use Rattle.handler_script.specs.declared.term.Terms.{Terms, First'}
use Rattle.handler_script.specs.declared.term.Terms.TheVariants as terms
use Rattle.handler_script.specs.ScriptOf.{reply_at}
use Rattle.handler_script.specs.ValueOf.{TermContext, given_at, held_of, no_id, value_at, value_of, values_of}
use Rattle.ipdl_base.specs.declared.value.Value as boxed
use Rattle.ipdl_base.specs.declared.value.Value.TheVariants as value
use Rattle.ipdl_base.specs.declared.value.Values.{Values}
use Rattle.ipdl_base.specs.declared.value.Values as boxed_list
use Rattle.ipdl_base.specs.Plain.{one_box, plain, plain_held, plain_values}
use Rattle.channel_model.specs.Ends.{End}
use Rattle.channel_model.specs.Events.{Event}
use Rattle.schedules.specs.declared.stop.Stop.{Stop}
use Rattle.script_parts.proofs.GivenLemmas.{plain-again}
use Rattle.script_runs.proofs.NextSteps as next
use Rattle.script_runs.proofs.NextSteps.{IsNext, next-is}
use Rattle.script_steps.specs.NextEvent.{block_for, context_of, event_of, next_event}
use Rattle.script_steps.specs.Progress.{Progress}
use Rattle.plain_runs.specs.PlainEnds.{IsPlainEvent}

given-plain : (given : Values) (n : ℕ) → plain (given_at given n) ≡ given_at given n
given-plain given zero = refl
given-plain given (suc n) = plain-again (value_at given n)

mutual
  value-plain : (seen : TermContext) (t : Term) → plain (value_of seen t) ≡ value_of seen t
  value-plain seen (term.Bool b) = refl
  value-plain seen (term.Int n) = refl
  value-plain seen (term.Text text) = refl
  value-plain seen (term.Bytes bytes) = refl
  value-plain seen (term.Bits bits) = refl
  value-plain seen (term.Struct ts) = ap value.Struct (values-plain seen ts)
  value-plain seen (Union' index _ t) = ap (boxed.Union' index one_box) (value-plain seen t)
  value-plain seen (term.Array ts) = ap value.Array (values-plain seen ts)
  value-plain seen (Maybe' held) = ap boxed.Maybe' (held-plain seen held)
  value-plain seen (term.Actor id) = refl
  value-plain seen (term.Param n) = given-plain seen.given n
  value-plain seen (term.Who w) = refl

  held-plain : (seen : TermContext) (held : Held-Term-Maybe-0) → plain_held (held_of seen held) ≡ held_of seen held
  held-plain seen None' = refl
  held-plain seen (Some' _ t) = ap (boxed.Some' one_box) (value-plain seen t)

  values-plain : (seen : TermContext) (ts : Terms) → plain_values (values_of seen ts) ≡ values_of seen ts
  values-plain seen terms.Nothing = refl
  values-plain seen (First' _ t _ ts) = λ i. boxed_list.First' one_box (value-plain seen t i) one_box (values-plain seen ts i)

event-plain : (seen : TermContext) (seq : ℤ) (a : Action) → IsPlainEvent (event_of seen seq a)
event-plain seen seq (action.Send who number ts) = values-plain seen ts
event-plain seen seq (action.New name who number ts) = values-plain seen ts
event-plain seen seq (action.Let name who) = tt
event-plain seen seq (action.Resolve ts) = ap Some (values-plain seen ts)
event-plain seen seq action.Reject = refl
event-plain seen seq (action.Keep name) = tt
event-plain seen seq (action.ResolveNamed name number ts) = ap Some (values-plain seen ts)
event-plain seen seq (action.RejectNamed name number) = refl
event-plain seen seq action.Close = tt
event-plain seen seq action.Die = tt

return-plain : (seen : TermContext) (ts : Option Terms) → option_map plain_values (option_map (values_of seen) ts) ≡ option_map (values_of seen) ts
return-plain seen None = refl
return-plain seen (Some ts) = ap Some (values-plain seen ts)

next-plain : (script : Script) (e : End) (progress : Progress) (x : Event) → IsNext script e progress x → IsPlainEvent x
next-plain script e progress _ next.stops = tt
next-plain script e progress _ (next.acts head request below a top is found) = event-plain (context_of e (request ∷ below)) request.seq a
next-plain script e progress _ (next.returns head request below top is) = return-plain (context_of e (request ∷ below)) (reply_at script e.side request.number (block_for script e.side request))
next-plain script e progress _ (next.returns_none head top) = refl
next-plain script e progress _ (next.takes may) = tt
next-plain script e progress _ (next.acts_in_main a top opened found) = event-plain (context_of e []) no_id a
next-plain script e progress _ (next.resumes head top) = tt
next-plain script e progress _ (next.flushes may) = tt

-- what an end does next of its own is plain
pub own-plain : (script : Script) (stop : Option Stop) (e : End) (progress : Progress) (x : Event) → next_event script stop e progress ≡ Some x → IsPlainEvent x
own-plain script stop e progress x is = next-plain script e progress x (next-is script stop e progress x is).1
