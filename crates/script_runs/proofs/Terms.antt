-- Terms that fit represent values of the type.
use Rattle.std.proofs.Common.{◌≡◌, ◌≢◌, ℕ, zero, suc, ℤ, pos, Bool, true, false, List, [], ◌∷◌, Option, Some, None, slice_get, refl, subst}
use Rattle.std.specs.Prelude.{IsTrue, IsSomeAnd}
use Rattle.handler_script.specs.declared.term.Term.{Term, Union', Maybe', Held-Term-Maybe-0, None', Some'}
use Rattle.handler_script.specs.declared.term.Term.TheVariants as term
use Rattle.handler_script.specs.declared.term.Terms.{Terms, First'}
use Rattle.handler_script.specs.declared.term.Terms.TheVariants as terms
use Rattle.handler_script.specs.Blocks.{BlockContext, given_in}
use Rattle.handler_script.specs.Terms.{param_at, is_actor, StandsFor}
use Rattle.handler_script.specs.Valid.{TermFits, HeldTermFits, AllTermsFit, EachTermFits}
use Rattle.handler_script.specs.ValueOf.{TermContext, value_at, given_at, id_of, value_of, held_of, values_of}
use Rattle.ipdl_base.specs.declared.schema.ParamRow.{ParamRow}
use Rattle.ipdl_base.specs.declared.schema.Schema.{Schema}
use Rattle.ipdl_base.specs.declared.schema.Shape.{Shape, Builtin, Using, Actor, Named, Endpoint}
use Rattle.ipdl_base.specs.declared.schema.Shape as shapes
use Rattle.ipdl_base.specs.declared.value.Value.{Value}
use Rattle.ipdl_base.specs.declared.value.Value as boxed
use Rattle.ipdl_base.specs.declared.value.Value.TheVariants as value
use Rattle.ipdl_base.specs.declared.value.Values.{Values}
use Rattle.ipdl_base.specs.declared.value.Values as boxed_list
use Rattle.ipdl_base.specs.declared.value.Values.TheVariants as values
use Rattle.ipdl_base.specs.Plain.{plain_shape}
use Rattle.value_types.specs.HasType.{HasType, HeldHasType, AllHaveType, HaveTypes, IsActorOf}
use Rattle.value_types.specs.Shapes.{element_of, held_by, fields_of, component_of}
use Rattle.value_types.proofs.Boxes.{has_type, both}
use Rattle.value_types.proofs.PlainTypes.{type_has}
use Rattle.script_runs.specs.Contexts.{FitsContext}
use Rattle.script_runs.specs.Laws.{TermsStandForValues}

some-map : {A : Type 0} (o : Option A) (P Q : A → Type 0) → ((x : A) → P x → Q x) → IsSomeAnd o P → IsSomeAnd o Q
some-map None P Q h k = k
some-map (Some x) P Q h k = h x k

-- Parameters

same-type : (schema : Schema) (one other : Shape) (v : Value) → plain_shape one ≡ plain_shape other → HasType schema one v → HasType schema other v
same-type schema one other v e h = (both (type_has schema other v)).0 (subst (λ s. HasType schema s v) e ((both (type_has schema one v)).1 h))

nullable-type : (schema : Schema) (p q : ℕ) (n : Bool) (v : Value) → HasType schema (Actor p n) v → HasType schema (Actor q true) v
nullable-type schema p q n (value.Bool b) h = h
nullable-type schema p q n (value.Int i) h = h
nullable-type schema p q n (value.Text text) h = h
nullable-type schema p q n (value.Bytes bytes) h = h
nullable-type schema p q n (value.Bits bits) h = h
nullable-type schema p q n (value.Struct vs) h = absurd h
nullable-type schema p q n (boxed.Union' index _ v) h = absurd h
nullable-type schema p q n (value.Array vs) h = absurd h
nullable-type schema p q n (boxed.Maybe' held) h = absurd h
nullable-type schema p q n (value.Actor id) h = λ e. refl

stands : (schema : Schema) (one other : Shape) (v : Value) → StandsFor one other → HasType schema one v → HasType schema other v
stands schema (Actor p n) (Actor q true) v e h = nullable-type schema p q n v h
stands schema (Actor p n) (Actor q false) v e h = same-type schema (Actor p n) (Actor q false) v e h
stands schema (Actor p n) (Builtin b) v e h = same-type schema (Actor p n) (Builtin b) v e h
stands schema (Actor p n) (Using name) v e h = same-type schema (Actor p n) (Using name) v e h
stands schema (Actor p n) (Named t) v e h = same-type schema (Actor p n) (Named t) v e h
stands schema (Actor p n) (shapes.Array' b s) v e h = same-type schema (Actor p n) (shapes.Array' b s) v e h
stands schema (Actor p n) (shapes.Maybe' b s) v e h = same-type schema (Actor p n) (shapes.Maybe' b s) v e h
stands schema (Actor p n) (shapes.Unique' b s) v e h = same-type schema (Actor p n) (shapes.Unique' b s) v e h
stands schema (Actor p n) (Endpoint q m) v e h = same-type schema (Actor p n) (Endpoint q m) v e h
stands schema (Builtin b) other v e h = same-type schema (Builtin b) other v e h
stands schema (Using name) other v e h = same-type schema (Using name) other v e h
stands schema (Named t) other v e h = same-type schema (Named t) other v e h
stands schema (shapes.Array' b s) other v e h = same-type schema (shapes.Array' b s) other v e h
stands schema (shapes.Maybe' b s) other v e h = same-type schema (shapes.Maybe' b s) other v e h
stands schema (shapes.Unique' b s) other v e h = same-type schema (shapes.Unique' b s) other v e h
stands schema (Endpoint q m) other v e h = same-type schema (Endpoint q m) other v e h

given-type : (schema : Schema) (params : List ParamRow) (vs : Values) (n : ℕ) (P : Shape → Type 0) → HaveTypes schema params vs → IsSomeAnd (slice_get params n) (λ p. P p.shape) → (s : Shape) × P s × HasType schema s (value_at vs n)
given-type schema [] vs n P h k = absurd k
given-type schema (p ∷ params) values.Nothing n P h k = absurd h
given-type schema (p ∷ params) (boxed_list.First' _ v _ vs) zero P h k = (p.shape, k, h.0)
given-type schema (p ∷ params) (boxed_list.First' _ v _ vs) (suc n) P h k = given-type schema params vs n P h.1 k

param-fits : (schema : Schema) (params : List ParamRow) (given : Values) (n : ℕ) (shape : Shape) → HaveTypes schema params given → IsSomeAnd (param_at params n) (λ p. StandsFor p.shape shape) → HasType schema shape (given_at given n)
param-fits schema params given zero shape h k = absurd k
param-fits schema params given (suc n) shape h k =
    let g : (s : Shape) × StandsFor s shape × HasType schema s (value_at given n) = given-type schema params given n (λ s. StandsFor s shape) h k in
    (both (has_type schema shape (value_at given n))).1 (stands schema g.0 shape (value_at given n) g.1 g.2)

-- Actors

actor-fits : (shape : Shape) (id : ℤ) → IsTrue (is_actor shape) → id ≢ pos 0 → IsActorOf shape id
actor-fits (Actor p n) id h k = λ e. absurd (k e)
actor-fits (Builtin b) id h k = cc
actor-fits (Using name) id h k = cc
actor-fits (Named t) id h k = cc
actor-fits (shapes.Array' b s) id h k = cc
actor-fits (shapes.Maybe' b s) id h k = cc
actor-fits (shapes.Unique' b s) id h k = cc
actor-fits (Endpoint q m) id h k = cc

-- Terms

module _ (schema : Schema) (block : BlockContext) (context : TermContext) (f : FitsContext schema block context) where
  mutual
    term-has : (shape : Shape) (t : Term) → TermFits schema block shape t → HasType schema shape (value_of context t)
    term-has shape (term.Bool b) h = h
    term-has shape (term.Int n) h = h
    term-has shape (term.Text text) h = h
    term-has shape (term.Bytes bytes) h = h
    term-has shape (term.Bits bits) h = h
    term-has shape (term.Struct ts) h = some-map (fields_of schema shape) (λ fields. EachTermFits schema block fields ts) (λ fields. HaveTypes schema fields (values_of context ts)) (λ fields k. each-has fields ts k) h
    term-has shape (Union' index _ t) h = some-map (component_of schema shape index) (λ component. TermFits schema block component t) (λ component. HasType schema component (value_of context t)) (λ component k. term-has component t k) h
    term-has shape (term.Array ts) h = some-map (element_of shape) (λ element. AllTermsFit schema block element ts) (λ element. AllHaveType schema element (values_of context ts)) (λ element k. all-have element ts k) h
    term-has shape (Maybe' held) h = some-map (held_by shape) (λ inner. HeldTermFits schema block inner held) (λ inner. HeldHasType schema inner (held_of context held)) (λ inner k. held-has inner held k) h
    term-has shape (term.Actor id) h = h.1
    term-has shape (term.Param n) h = param-fits schema (given_in block) context.given n shape f.given h
    term-has shape (term.Who w) h = actor-fits shape (id_of context w) h.0 (f.who w h.2 h.1)

    held-has : (shape : Shape) (held : Held-Term-Maybe-0) → HeldTermFits schema block shape held → HeldHasType schema shape (held_of context held)
    held-has shape None' h = tt
    held-has shape (Some' _ t) h = term-has shape t h

    all-have : (shape : Shape) (ts : Terms) → AllTermsFit schema block shape ts → AllHaveType schema shape (values_of context ts)
    all-have shape terms.Nothing h = tt
    all-have shape (First' _ t _ ts) h = (term-has shape t h.0, all-have shape ts h.1)

    each-has : (fields : List ParamRow) (ts : Terms) → EachTermFits schema block fields ts → HaveTypes schema fields (values_of context ts)
    each-has [] terms.Nothing h = tt
    each-has (field ∷ fields) terms.Nothing h = absurd h
    each-has [] (First' _ t _ ts) h = absurd h
    each-has (field ∷ fields) (First' _ t _ ts) h = (term-has field.shape t h.0, each-has fields ts h.1)

pub terms_stand_for_values : TermsStandForValues
terms_stand_for_values schema block context fields ts f h = each-has schema block context f fields ts h
