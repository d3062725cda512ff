-- Which messages fit a schema does not depend on where its boxes are.
use Rattle.std.proofs.Common.{◌≡◌, ◌∙◌, ℕ, ◌<◌, ◌^◌, List, [], ◌∷◌, map, Option, Some, None, refl, sym, ap, subst, unwrap_or}
use Rattle.std.specs.Prelude.{◌≤ℤ◌, IsTrue, IsSomeAnd, option_map, option_and_then}
use Rattle.std.specs.Str.{IsUtf8}
use Rattle.std.proofs.Math.Path.{transport, transport⁻¹}
use Rattle.ipdl_base.specs.declared.builtin.Builtin.TheVariants as builtin
use Rattle.ipdl_base.specs.declared.message.Body.{Body}
use Rattle.ipdl_base.specs.declared.message.Body.TheVariants as body
use Rattle.ipdl_base.specs.declared.message.Message.{Message}
use Rattle.ipdl_base.specs.declared.schema.MessageRow.{MessageRow}
use Rattle.ipdl_base.specs.declared.schema.ParamRow.{ParamRow}
use Rattle.ipdl_base.specs.declared.schema.Schema.{Schema}
use Rattle.ipdl_base.specs.declared.schema.Shape.{Shape}
use Rattle.ipdl_base.specs.declared.value.Value.{Value, Union', Maybe', Held-Value-Maybe-0, None', Some'}
use Rattle.ipdl_base.specs.declared.value.Value.TheVariants as value
use Rattle.ipdl_base.specs.declared.value.Values.{Values, First'}
use Rattle.ipdl_base.specs.declared.value.Values.TheVariants as values
use Rattle.ipdl_base.specs.Plain.{plain_shape}
use Rattle.ipdl_base.specs.Sound.{message_of}
use Rattle.value_types.specs.Fits.{Fits, FitsBody, HasFields, IsRequestOf, IsReplyTo, GivesReturns, IsFaultOf}
use Rattle.value_types.specs.HasType.{HasType, HeldHasType, AllHaveType, HaveTypes}
use Rattle.value_types.specs.Shapes.{range_of, float_bits, component_of, element_of, fields_of, held_by}
use Rattle.program_schema.specs.Laws.{plain_param_row, plain_message_row, plain_schema}
use Rattle.value_types.proofs.PlainTypes.{builtin_of-plain, is_bytes-plain, element_of-plain, held_by-plain, actor_of-plain}
use Rattle.schema_laws.proofs.Rows.{under, message_alike, fields_alike, component_alike, listed_alike, same_reply}

pub some_alike : {X : Type 0} (look : X → X) (P Q : X → Type 0) → ((x : X) → P (look x) ≡ Q x) → (o : Option X) → IsSomeAnd (option_map look o) P ≡ IsSomeAnd o Q
some_alike look P Q same None = refl
some_alike look P Q same (Some x) = same x

module _ (s : Schema) where
  mutual
    typed : (shape : Shape) (v : Value) → HasType (plain_schema s) (plain_shape shape) v ≡ HasType s shape v
    typed shape (value.Bool b) = λ i. builtin_of-plain shape i ≡ Some builtin.Bool
    typed shape (value.Int n) = λ i. IsSomeAnd (option_and_then range_of (builtin_of-plain shape i)) (λ range. (range.0 ≤ℤ n) × (n ≤ℤ range.1))
    typed shape (value.Text text) = λ i. (builtin_of-plain shape i ≡ Some builtin.NsString) × IsUtf8 text
    typed shape (value.Bytes bytes) = λ i. IsTrue (is_bytes-plain shape i)
    typed shape (value.Bits bits) = λ i. IsSomeAnd (option_and_then float_bits (builtin_of-plain shape i)) (λ most. bits < 2 ^ most)
    typed shape (value.Struct vs) =
        (λ i. IsSomeAnd (fields_alike s shape i) (λ fields. HaveTypes (plain_schema s) fields vs))
        ∙ some_alike (map plain_param_row) (λ fields. HaveTypes (plain_schema s) fields vs) (λ fields. HaveTypes s fields vs) (λ fields. all_typed fields vs) (fields_of s shape)
    typed shape (Union' index _ v) =
        (λ i. IsSomeAnd (component_alike s shape index i) (λ component. HasType (plain_schema s) component v))
        ∙ some_alike plain_shape (λ component. HasType (plain_schema s) component v) (λ component. HasType s component v) (λ component. typed component v) (component_of s shape index)
    typed shape (value.Array vs) =
        (λ i. IsSomeAnd (element_of-plain shape i) (λ element. AllHaveType (plain_schema s) element vs))
        ∙ some_alike plain_shape (λ element. AllHaveType (plain_schema s) element vs) (λ element. AllHaveType s element vs) (λ element. elements_typed element vs) (element_of shape)
    typed shape (Maybe' held) =
        (λ i. IsSomeAnd (held_by-plain shape i) (λ inner. HeldHasType (plain_schema s) inner held))
        ∙ some_alike plain_shape (λ inner. HeldHasType (plain_schema s) inner held) (λ inner. HeldHasType s inner held) (λ inner. held_typed inner held) (held_by shape)
    typed shape (value.Actor id) = actor_of-plain shape id

    held_typed : (shape : Shape) (held : Held-Value-Maybe-0) → HeldHasType (plain_schema s) (plain_shape shape) held ≡ HeldHasType s shape held
    held_typed shape None' = refl
    held_typed shape (Some' _ v) = typed shape v

    elements_typed : (shape : Shape) (vs : Values) → AllHaveType (plain_schema s) (plain_shape shape) vs ≡ AllHaveType s shape vs
    elements_typed shape values.Nothing = refl
    elements_typed shape (First' _ v _ vs) = λ i. typed shape v i × elements_typed shape vs i

    all_typed : (fields : List ParamRow) (vs : Values) → HaveTypes (plain_schema s) (map plain_param_row fields) vs ≡ HaveTypes s fields vs
    all_typed [] values.Nothing = refl
    all_typed [] (First' _ v _ vs) = refl
    all_typed (field ∷ fields) values.Nothing = refl
    all_typed (field ∷ fields) (First' _ v _ vs) = λ i. typed field.shape v i × all_typed fields vs i

  returns_typed : (row : MessageRow) (vs : Values) → HaveTypes (plain_schema s) (unwrap_or (plain_message_row row).returns []) vs ≡ HaveTypes s (unwrap_or row.returns []) vs
  returns_typed row vs = (λ i. HaveTypes (plain_schema s) (listed_alike plain_param_row row.returns i) vs) ∙ all_typed (unwrap_or row.returns []) vs

  -- the row of a number in one schema is that in the other

  row_under : (n : ℕ) (other : MessageRow) → message_of (plain_schema s) n ≡ Some other → (row : MessageRow) × (message_of s n ≡ Some row) × (plain_message_row row ≡ other)
  row_under n other is = under plain_message_row (message_of s n) other (sym (message_alike s n) ∙ is)

  row_over : (n : ℕ) (row : MessageRow) → message_of s n ≡ Some row → message_of (plain_schema s) n ≡ Some (plain_message_row row)
  row_over n row is = message_alike s n ∙ ap (option_map plain_message_row) is

  -- fields

  fields_from : (row : MessageRow) (m : Message) → HasFields (plain_message_row row) m → HasFields row m
  fields_from row m h = record { carried = h.carried; route = h.route; seq = h.seq; transaction = h.transaction }

  fields_to : (row : MessageRow) (m : Message) → HasFields row m → HasFields (plain_message_row row) m
  fields_to row m h = record { carried = h.carried; route = h.route; seq = h.seq; transaction = h.transaction }

  -- requests

  request_from : (row : MessageRow) (m : Message) (vs : Values) → message_of s m.number ≡ Some row → IsRequestOf (plain_schema s) (plain_message_row row) m vs → IsRequestOf s row m vs
  request_from row m vs found h = record { found = found; number = h.number; fields = fields_from row m h.fields; made = h.made; types = transport (all_typed row.params vs) h.types; ids = h.ids }

  request_to : (row : MessageRow) (m : Message) (vs : Values) → IsRequestOf s row m vs → IsRequestOf (plain_schema s) (plain_message_row row) m vs
  request_to row m vs h =
      record { found = row_over m.number row h.found; number = h.number; fields = fields_to row m h.fields; made = h.made; types = transport⁻¹ (all_typed row.params vs) h.types; ids = h.ids }

  -- replies

  reply_from : (row : MessageRow) (m : Message) → message_of s m.number ≡ Some row → IsReplyTo (plain_schema s) (plain_message_row row) m → IsReplyTo s row m
  reply_from row m found h = record { found = found; number = h.number; replies = subst IsTrue (same_reply row) h.replies; fields = fields_from row m h.fields; made = h.made }

  reply_to : (row : MessageRow) (m : Message) → IsReplyTo s row m → IsReplyTo (plain_schema s) (plain_message_row row) m
  reply_to row m h = record { found = row_over m.number row h.found; number = h.number; replies = subst IsTrue (sym (same_reply row)) h.replies; fields = fields_to row m h.fields; made = h.made }

  gives_from : (row : MessageRow) (vs : Values) → GivesReturns (plain_schema s) (plain_message_row row) vs → GivesReturns s row vs
  gives_from row vs h = record { types = transport (returns_typed row vs) h.types; ids = h.ids }

  gives_to : (row : MessageRow) (vs : Values) → GivesReturns s row vs → GivesReturns (plain_schema s) (plain_message_row row) vs
  gives_to row vs h = record { types = transport⁻¹ (returns_typed row vs) h.types; ids = h.ids }

  -- messages

  body_from : (m : Message) (b : Body) → FitsBody (plain_schema s) m b → FitsBody s m b
  body_from m (body.Request vs) (other, h) =
      let under = row_under m.number other h.found in
      (under.0, request_from under.0 m vs under.1 (subst (λ (r : MessageRow). IsRequestOf (plain_schema s) r m vs) (sym under.2) h))
  body_from m (body.Reply vs) (other, h, gives) =
      let under = row_under m.number other h.found in (
        under.0,
        reply_from under.0 m under.1 (subst (λ (r : MessageRow). IsReplyTo (plain_schema s) r m) (sym under.2) h),
        gives_from under.0 vs (subst (λ (r : MessageRow). GivesReturns (plain_schema s) r vs) (sym under.2) gives),
      )
  body_from m (body.Fault reason) (other, h, is) =
      let under = row_under m.number other h.found in (
        under.0,
        reply_from under.0 m under.1 (subst (λ (r : MessageRow). IsReplyTo (plain_schema s) r m) (sym under.2) h),
        subst (λ (r : MessageRow). IsFaultOf r.semantics reason) (sym under.2) is,
      )
  body_from m body.Goodbye h = h

  body_to : (m : Message) (b : Body) → FitsBody s m b → FitsBody (plain_schema s) m b
  body_to m (body.Request vs) (row, h) = (plain_message_row row, request_to row m vs h)
  body_to m (body.Reply vs) (row, h, gives) = (plain_message_row row, reply_to row m h, gives_to row vs gives)
  body_to m (body.Fault reason) (row, h, is) = (plain_message_row row, reply_to row m h, is)
  body_to m body.Goodbye h = h

  pub fits_from : (m : Message) → Fits (plain_schema s) m → Fits s m
  fits_from m h = body_from m m.body h

  pub fits_to : (m : Message) → Fits s m → Fits (plain_schema s) m
  fits_to m h = body_to m m.body h
