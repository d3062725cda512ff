-- No rule on a statement, and no term, looks at where the boxes of values lie.
use Rattle.std.proofs.Common.{◌≡◌, Bool, false, ◌||◌, List, [], ◌∷◌, Option, Some, None, ◌⊎◌, refl}
use Rattle.std.specs.Prelude.{IsTrue, IsSomeAnd, unwrap_or}
use Rattle.ipdl_base.specs.Plain.{one_box}
use Rattle.ipdl_base.specs.declared.schema.MessageRow.{MessageRow}
use Rattle.ipdl_base.specs.declared.schema.ParamRow.{ParamRow}
use Rattle.ipdl_base.specs.declared.schema.Schema.{Schema}
use Rattle.ipdl_base.specs.declared.schema.Shape.{Shape}
use Rattle.script_reader.specs.declared.statement.Statement.{Statement}
use Rattle.script_reader.specs.declared.statement.Statement.TheVariants as forms
use Rattle.script_reader.specs.declared.written.Who.{Who}
use Rattle.script_reader.specs.declared.written.WrittenValue.{WrittenValue, Union', Held'}
use Rattle.script_reader.specs.declared.written.WrittenValue.TheVariants as written
use Rattle.script_reader.specs.declared.written.WrittenValues.{WrittenValues, First'}
use Rattle.script_reader.specs.declared.written.WrittenValues.TheVariants as values
use Rattle.script_reader.specs.Plain.{plain_written, plain_values, plain_statement}
use Rattle.value_types.specs.Shapes.{element_of, held_by, fields_of, component_of}
use Rattle.handler_script.specs.declared.action.Action.TheVariants as action
use Rattle.handler_script.specs.declared.term.Term.{Term}
use Rattle.handler_script.specs.declared.term.Term as boxed
use Rattle.handler_script.specs.declared.term.Term.TheVariants as term
use Rattle.handler_script.specs.declared.term.Terms as boxed_list
use Rattle.handler_script.specs.declared.term.Terms.{Terms}
use Rattle.handler_script.specs.Blocks.{BlockContext}
use Rattle.handler_script.specs.Broken.{is_absent, is_no_actor, types_by, types_of, AreUnfit, ValuesBreak}
use Rattle.handler_script.specs.Mentions.{mentions, any_mentions, speaks_of}
use Rattle.handler_script.specs.ScriptOf.{number_of, action_of, reply_of}
use Rattle.handler_script.specs.Terms.{Fits, AllFit, EachFits, term_of, elements_of, terms_of}

mutual
  fits_alike : (schema : Schema) (given : List ParamRow) (shape : Shape) (v : WrittenValue) → Fits schema given shape (plain_written v) ≡ Fits schema given shape v
  fits_alike schema given shape (written.Atom a) = refl
  fits_alike schema given shape (written.Struct vs) = λ i. IsSomeAnd (fields_of schema shape) (λ fields. each_alike schema given fields vs i)
  fits_alike schema given shape (written.Array vs) = λ i. IsSomeAnd (element_of shape) (λ element. all_alike schema given element vs i)
  fits_alike schema given shape (Union' index _ v) = λ i. IsSomeAnd (component_of schema shape index) (λ component. fits_alike schema given component v i)
  fits_alike schema given shape (Held' _ v) = λ i. IsSomeAnd (held_by shape) (λ inner. fits_alike schema given inner v i)

  all_alike : (schema : Schema) (given : List ParamRow) (shape : Shape) (vs : WrittenValues) → AllFit schema given shape (plain_values vs) ≡ AllFit schema given shape vs
  all_alike schema given shape values.Nothing = refl
  all_alike schema given shape (First' _ v _ vs) = λ i. fits_alike schema given shape v i × all_alike schema given shape vs i

  each_alike : (schema : Schema) (given fields : List ParamRow) (vs : WrittenValues) → EachFits schema given fields (plain_values vs) ≡ EachFits schema given fields vs
  each_alike schema given [] values.Nothing = refl
  each_alike schema given (field ∷ fields) values.Nothing = refl
  each_alike schema given [] (First' _ v _ vs) = refl
  each_alike schema given (field ∷ fields) (First' _ v _ vs) = λ i. fits_alike schema given field.shape v i × each_alike schema given fields vs i

mutual
  mentions_alike : (test : Who → Bool) (v : WrittenValue) → mentions test (plain_written v) ≡ mentions test v
  mentions_alike test (written.Atom a) = refl
  mentions_alike test (written.Struct vs) = any_alike test vs
  mentions_alike test (written.Array vs) = any_alike test vs
  mentions_alike test (Union' index _ v) = mentions_alike test v
  mentions_alike test (Held' _ v) = mentions_alike test v

  any_alike : (test : Who → Bool) (vs : WrittenValues) → any_mentions test (plain_values vs) ≡ any_mentions test vs
  any_alike test values.Nothing = refl
  any_alike test (First' _ v _ vs) = λ i. mentions_alike test v i || any_alike test vs i

mutual
  term_alike : (schema : Schema) (shape : Shape) (v : WrittenValue) → term_of schema shape (plain_written v) ≡ term_of schema shape v
  term_alike schema shape (written.Atom a) = refl
  term_alike schema shape (written.Struct vs) = λ i. term.Struct (terms_alike schema (unwrap_or (fields_of schema shape) []) vs i)
  term_alike schema shape (written.Array vs) = λ i. term.Array (elements_alike schema (unwrap_or (element_of shape) shape) vs i)
  term_alike schema shape (Union' index _ v) = λ i. boxed.Union' index one_box (term_alike schema (unwrap_or (component_of schema shape index) shape) v i)
  term_alike schema shape (Held' _ v) = λ i. boxed.Maybe' (boxed.Some' one_box (term_alike schema (unwrap_or (held_by shape) shape) v i))

  elements_alike : (schema : Schema) (shape : Shape) (vs : WrittenValues) → elements_of schema shape (plain_values vs) ≡ elements_of schema shape vs
  elements_alike schema shape values.Nothing = refl
  elements_alike schema shape (First' _ v _ vs) = λ i. boxed_list.First' one_box (term_alike schema shape v i) one_box (elements_alike schema shape vs i)

  terms_alike : (schema : Schema) (fields : List ParamRow) (vs : WrittenValues) → terms_of schema fields (plain_values vs) ≡ terms_of schema fields vs
  terms_alike schema fields values.Nothing = refl
  terms_alike schema [] (First' _ v _ vs) = refl
  terms_alike schema (field ∷ fields) (First' _ v _ vs) = λ i. boxed_list.First' one_box (term_alike schema field.shape v i) one_box (terms_alike schema fields vs i)

-- Statements

pub types_alike : (message : Option MessageRow) (b : BlockContext) (s : Statement) → types_by message b (plain_statement s) ≡ types_by message b s
types_alike message b (forms.Send w c) = refl
types_alike message b s = refl

typed_alike : (schema : Schema) (types : Option (List ParamRow)) (vs : WrittenValues) → terms_of schema (unwrap_or types []) (plain_values vs) ≡ terms_of schema (unwrap_or types []) vs
typed_alike schema types vs = terms_alike schema (unwrap_or types []) vs

pub action_alike : (schema : Schema) (b : BlockContext) (s : Statement) → action_of schema b (plain_statement s) ≡ action_of schema b s
action_alike schema b (forms.Send w c) = λ i. Some (action.Send w (number_of schema c.message) (typed_alike schema (types_of schema b (forms.Send w c)) c.values i))
action_alike schema b (forms.New n w c) = λ i. Some (action.New n w (number_of schema c.message) (typed_alike schema (types_of schema b (forms.New n w c)) c.values i))
action_alike schema b (forms.Resolve vs) = λ i. Some (action.Resolve (typed_alike schema (types_of schema b (forms.Resolve vs)) vs i))
action_alike schema b (forms.ResolveKept n c) = λ i. Some (action.ResolveNamed n (number_of schema c.message) (typed_alike schema (types_of schema b (forms.ResolveKept n c)) c.values i))
action_alike schema b s = refl

pub reply_alike : (schema : Schema) (b : BlockContext) (s : Statement) → reply_of schema b (plain_statement s) ≡ reply_of schema b s
reply_alike schema b (forms.Return vs) = λ i. Some (typed_alike schema (types_of schema b (forms.Return vs)) vs i)
reply_alike schema b s = refl

pub speaks_alike : (test : Who → Bool) (s : Statement) → speaks_of test (plain_statement s) ≡ speaks_of test s
speaks_alike test (forms.Send w c) = λ i. test w || any_alike test c.values i
speaks_alike test (forms.New n w c) = λ i. test w || any_alike test c.values i
speaks_alike test (forms.Resolve vs) = λ i. false || any_alike test vs i
speaks_alike test (forms.ResolveKept n c) = λ i. false || any_alike test c.values i
speaks_alike test (forms.Return vs) = λ i. false || any_alike test vs i
speaks_alike test s = refl

unfit_alike : (schema : Schema) (given : List ParamRow) (types : Option (List ParamRow)) (vs : WrittenValues) → AreUnfit schema given types (plain_values vs) ≡ AreUnfit schema given types vs
unfit_alike schema given None vs = λ i. IsTrue (any_alike (is_absent given) vs i)
unfit_alike schema given (Some types) vs = λ i. ¬ (each_alike schema given types vs i)

pub values_alike : (schema : Schema) (given : List ParamRow) (types : Option (List ParamRow)) (s : Statement) → ValuesBreak schema given types (plain_statement s) ≡ ValuesBreak schema given types s
values_alike schema given types (forms.Send w c) = λ i. IsTrue (is_no_actor given w) ⊎ unfit_alike schema given types c.values i
values_alike schema given types (forms.New n w c) = λ i. IsTrue (is_no_actor given w) ⊎ unfit_alike schema given types c.values i
values_alike schema given types (forms.Resolve vs) = λ i. ⊥ ⊎ unfit_alike schema given types vs i
values_alike schema given types (forms.ResolveKept n c) = λ i. ⊥ ⊎ unfit_alike schema given types c.values i
values_alike schema given types (forms.Return vs) = λ i. ⊥ ⊎ unfit_alike schema given types vs i
values_alike schema given types s = refl
