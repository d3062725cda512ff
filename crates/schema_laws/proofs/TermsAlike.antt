-- The values of terms, and what actions do, where their boxes are elsewhere.
use Rattle.std.proofs.Common.{◌≡◌, ℤ, refl}
use Rattle.ipdl_base.specs.Plain.{one_box}
use Rattle.ipdl_base.specs.declared.value.Value as boxed
use Rattle.ipdl_base.specs.declared.value.Value.TheVariants as value
use Rattle.ipdl_base.specs.declared.value.Values as boxed_list
use Rattle.handler_script.specs.declared.action.Action.{Action}
use Rattle.handler_script.specs.declared.action.Action.TheVariants as action
use Rattle.handler_script.specs.declared.term.Term.{Term, Union', Maybe', Held-Term-Maybe-0, None', Some'}
use Rattle.handler_script.specs.declared.term.Term.TheVariants as term
use Rattle.handler_script.specs.declared.term.Terms.{Terms, First'}
use Rattle.handler_script.specs.declared.term.Terms.TheVariants as terms
use Rattle.handler_script.specs.Plain.{plain_term, plain_held, plain_terms, plain_action}
use Rattle.handler_script.specs.ValueOf.{TermContext, id_of, value_of, held_of, values_of}
use Rattle.channel_model.specs.Events.{handled, kept}
use Rattle.channel_model.specs.Events as event
use Rattle.std.specs.Prelude.{Some, None}
use Rattle.script_steps.specs.NextEvent.{event_of}

module _ (seen : TermContext) where
  mutual
    value_alike : (t : Term) → value_of seen (plain_term t) ≡ value_of seen t
    value_alike (term.Bool b) = refl
    value_alike (term.Int n) = refl
    value_alike (term.Text text) = refl
    value_alike (term.Bytes bytes) = refl
    value_alike (term.Bits bits) = refl
    value_alike (term.Struct ts) = λ i. value.Struct (values_alike ts i)
    value_alike (Union' index _ t) = λ i. boxed.Union' index one_box (value_alike t i)
    value_alike (term.Array ts) = λ i. value.Array (values_alike ts i)
    value_alike (Maybe' held) = λ i. boxed.Maybe' (held_alike held i)
    value_alike (term.Actor id) = refl
    value_alike (term.Param n) = refl
    value_alike (term.Who w) = refl

    held_alike : (held : Held-Term-Maybe-0) → held_of seen (plain_held held) ≡ held_of seen held
    held_alike None' = refl
    held_alike (Some' _ t) = λ i. boxed.Some' one_box (value_alike t i)

    pub values_alike : (ts : Terms) → values_of seen (plain_terms ts) ≡ values_of seen ts
    values_alike terms.Nothing = refl
    values_alike (First' _ t _ ts) = λ i. boxed_list.First' one_box (value_alike t i) one_box (values_alike ts i)

  pub event_alike : (seq : ℤ) (a : Action) → event_of seen seq (plain_action a) ≡ event_of seen seq a
  event_alike seq (action.Send who number ts) = λ i. event.send (id_of seen who) number (values_alike ts i) None
  event_alike seq (action.New name who number ts) = λ i. event.send (id_of seen who) number (values_alike ts i) (Some name)
  event_alike seq (action.Resolve ts) = λ i. event.answer (handled seq) (Some (values_alike ts i))
  event_alike seq (action.ResolveNamed name number ts) = λ i. event.answer (kept name number) (Some (values_alike ts i))
  event_alike seq a = refl
