-- What is read of a type is a value of it, as it is spelled.
use Rattle.std.proofs.Common.{◌≡◌, ℕ, zero, suc, ◌<◌, ◌^◌, ℤ, Bool, true, false, cond, ltb, replicate, List, [], ◌∷◌, ◌++◌, Option, Some, None, Ok, refl, sym, ap, subst, arith, unwrap_or}
use Rattle.std.proofs.lemmas.Bool.{lt-ltb}
use Rattle.std.specs.Prelude.{IsSomeAnd, slice_get, option_and_then}
use Rattle.std.specs.List.{AllByRecursion}
use Rattle.std.specs.Option.{option_map_or}
use Rattle.ipdl_base.specs.declared.schema.ParamRow.{ParamRow}
use Rattle.ipdl_base.specs.declared.schema.Schema.{Schema}
use Rattle.ipdl_base.specs.declared.schema.Shape.{Shape, Builtin, Using, Actor, Named, Array', Maybe', Unique', Endpoint}
use Rattle.ipdl_base.specs.declared.schema.TypeRow.{TypeRow}
use Rattle.ipdl_base.specs.declared.schema.TypeRow.TheVariants.{Struct, Union}
use Rattle.ipdl_base.specs.declared.value.Value.{Value, Held-Value-Maybe-0, None', Some'}
use Rattle.ipdl_base.specs.declared.value.Value as boxed
use Rattle.ipdl_base.specs.declared.value.Value.TheVariants as value
use Rattle.ipdl_base.specs.declared.value.Values.{Values, First'}
use Rattle.ipdl_base.specs.declared.value.Values.TheVariants as values
use Rattle.ipdl_base.specs.Plain.{one_box}
use Rattle.value_types.specs.declared.layout.Layout.{Layout}
use Rattle.value_types.specs.Fits.{actor_ids, held_actor_ids, all_actor_ids, IsCarriedId}
use Rattle.value_types.specs.HasType.{HasType, HeldHasType, AllHaveType, HaveTypes}
use Rattle.value_types.specs.Shapes.{fields_in, component_in, fields_of, component_of}
use Rattle.value_codec.specs.Reading.{◌>>=◌, word_at, flag_at, struct_at, Inside, elements_at, values_at, array_at, held_at, maybe_at, fields_at, component_at, union_at, row_at, shape_at, value_at}
use Rattle.value_codec.specs.Spelling.{part, word, index_bytes, struct_byte, truth_byte, count, value_bytes, held_bytes, elements_bytes, values_bytes}
use Rattle.value_codec.proofs.LittleEndian.{IsBytes}
use Rattle.value_codec.proofs.Taken.{bind_ok, moved, Takes, Takes-then, word_takes, flag_takes, struct_takes}
use Rattle.value_codec.proofs.BuiltinsRead.{IsRead, builtin_read, bytes_read, actor_read}

pub all_append : (P : ℤ → Type 0) (xs ys : List ℤ) → AllByRecursion P xs → AllByRecursion P ys → AllByRecursion P (xs ++ ys)
all_append P [] ys p q = q
all_append P (x ∷ xs) ys p q = (p.0, all_append P xs ys p.1 q)

pub index_word : (index : ℕ) → index < 2 ^ 32 → index_bytes index ≡ word index
index_word index small = let lt : ltb index (2 ^ 32) ≡ true = lt-ltb index (2 ^ 32) small in λ i. cond (lt i) (word index) (replicate 4 index)

-- Values of one type were read.
pub record AreElements (layout : Layout) (schema : Schema) (shape : Shape) (n : ℕ) (bytes : List ℕ) (vs : Values) (rest : List ℕ) : Type 0 where
  pub takes : Takes bytes (elements_bytes layout schema shape vs) rest
  pub types : AllHaveType schema shape vs
  pub ids : AllByRecursion IsCarriedId (all_actor_ids vs)
  pub size : count vs ≡ n

-- Values of the types of fields were read.
pub record AreValues (layout : Layout) (schema : Schema) (fields : List ParamRow) (bytes : List ℕ) (vs : Values) (rest : List ℕ) : Type 0 where
  pub takes : Takes bytes (values_bytes layout schema fields vs) rest
  pub types : HaveTypes schema fields vs
  pub ids : AllByRecursion IsCarriedId (all_actor_ids vs)

abbrev pub ReadsSoundly : Layout → Schema → Inside → Type 0
ReadsSoundly layout schema inside = (shape : Shape) (bytes : List ℕ) (v : Value) (rest : List ℕ) → IsBytes bytes → inside shape bytes ≡ Ok (v, rest) → IsRead layout schema shape bytes v rest

module _ (layout : Layout) (schema : Schema) (inside : Inside) (sound : ReadsSoundly layout schema inside) where
  elements_read : (shape : Shape) (n : ℕ) (bytes : List ℕ) (vs : Values) (rest : List ℕ) → IsBytes bytes → elements_at inside shape n bytes ≡ Ok (vs, rest) → AreElements layout schema shape n bytes vs rest
  unfolding elements_at
  elements_read shape zero bytes vs rest fits e =
      moved (AreElements layout schema shape zero bytes) values.Nothing bytes vs rest e (record { takes = record { parts = refl; rest_fits = fits }; types = tt; ids = tt; size = refl })
  elements_read shape (suc n) bytes vs rest fits e =
      let b = bind_ok (inside shape bytes) (λ first. elements_at inside shape n first.1 >>= λ others. Ok (First' one_box first.0 one_box others.0, others.1)) (vs, rest) e in
      let c = bind_ok (elements_at inside shape n b.0.1) (λ others. Ok (First' one_box b.0.0 one_box others.0, others.1)) (vs, rest) b.2 in
      let f = sound shape bytes b.0.0 b.0.1 fits b.1 in
      let o = elements_read shape n b.0.1 c.0.0 c.0.1 f.takes.rest_fits c.1 in
      moved (AreElements layout schema shape (suc n) bytes) (First' one_box b.0.0 one_box c.0.0) c.0.1 vs rest c.2 (record {
        takes = Takes-then bytes (value_bytes layout schema shape b.0.0) b.0.1 (elements_bytes layout schema shape c.0.0) c.0.1 f.takes o.takes;
        types = (f.type, o.types);
        ids = all_append IsCarriedId (actor_ids b.0.0) (all_actor_ids c.0.0) f.ids o.ids;
        size = omega (arith, o.size);
      })

  pub values_read : (fields : List ParamRow) (bytes : List ℕ) (vs : Values) (rest : List ℕ) → IsBytes bytes → values_at inside fields bytes ≡ Ok (vs, rest) → AreValues layout schema fields bytes vs rest
  unfolding values_at
  values_read [] bytes vs rest fits e =
      moved (AreValues layout schema [] bytes) values.Nothing bytes vs rest e (record { takes = record { parts = refl; rest_fits = fits }; types = tt; ids = tt })
  values_read (field ∷ fields) bytes vs rest fits e =
      let b = bind_ok (inside field.shape bytes) (λ first. values_at inside fields first.1 >>= λ others. Ok (First' one_box first.0 one_box others.0, others.1)) (vs, rest) e in
      let c = bind_ok (values_at inside fields b.0.1) (λ others. Ok (First' one_box b.0.0 one_box others.0, others.1)) (vs, rest) b.2 in
      let f = sound field.shape bytes b.0.0 b.0.1 fits b.1 in
      let o = values_read fields b.0.1 c.0.0 c.0.1 f.takes.rest_fits c.1 in
      moved (AreValues layout schema (field ∷ fields) bytes) (First' one_box b.0.0 one_box c.0.0) c.0.1 vs rest c.2 (record {
        takes = Takes-then bytes (value_bytes layout schema field.shape b.0.0) b.0.1 (values_bytes layout schema fields c.0.0) c.0.1 f.takes o.takes;
        types = (f.type, o.types);
        ids = all_append IsCarriedId (actor_ids b.0.0) (all_actor_ids c.0.0) f.ids o.ids;
      })

  array_read : (at : _) (shape : Shape) (bytes : List ℕ) (v : Value) (rest : List ℕ) → IsBytes bytes → array_at inside shape bytes ≡ Ok (v, rest) → IsRead layout schema (Array' at shape) bytes v rest
  unfolding array_at
  array_read at shape bytes v rest fits e =
      let b = bind_ok (word_at bytes) (λ n. elements_at inside shape n.0 n.1 >>= λ elements. Ok (value.Array elements.0, elements.1)) (v, rest) e in
      let c = bind_ok (elements_at inside shape b.0.0 b.0.1) (λ elements. Ok (value.Array elements.0, elements.1)) (v, rest) b.2 in
      let w = word_takes bytes b.0.0 b.0.1 fits b.1 in
      let o = elements_read shape b.0.0 b.0.1 c.0.0 c.0.1 w.0.rest_fits c.1 in
      let n-is : b.0.0 ≡ count c.0.0 = sym o.size in
      let counted : Takes bytes (word (count c.0.0)) b.0.1 = subst (λ (n : ℕ). Takes bytes (word n) b.0.1) n-is w.0 in
      moved (IsRead layout schema (Array' at shape) bytes) (value.Array c.0.0) c.0.1 v rest c.2 (record {
        takes = Takes-then bytes (word (count c.0.0)) b.0.1 (elements_bytes layout schema shape c.0.0) c.0.1 counted o.takes;
        type = o.types;
        ids = o.ids;
      })

  abbrev IsHeld : Shape → List ℕ → (Value → List ℕ → Type 0) → Type 0
  IsHeld shape bytes S = (held : Held-Value-Maybe-0) (r : List ℕ) → Takes bytes (held_bytes layout schema (Some shape) held) r → HeldHasType schema shape held → AllByRecursion IsCarriedId (held_actor_ids held) → S (boxed.Maybe' held) r

  held_read : (shape : Shape) (S : Value → List ℕ → Type 0) (bytes : List ℕ) (flag : Bool) (following : List ℕ) (v : Value) (rest : List ℕ) → Takes bytes (part layout (truth_byte flag ∷ [])) following → held_at inside shape flag following ≡ Ok (v, rest) → IsHeld shape bytes S → S v rest
  unfolding held_at
  held_read shape S bytes false following v rest t e h = moved S (boxed.Maybe' None') following v rest e (h None' following t tt tt)
  held_read shape S bytes true following v rest t e h =
      let b = bind_ok (inside shape following) (λ held. Ok (boxed.Maybe' (Some' one_box held.0), held.1)) (v, rest) e in
      let f = sound shape following b.0.0 b.0.1 t.rest_fits b.1 in
      moved S (boxed.Maybe' (Some' one_box b.0.0)) b.0.1 v rest b.2 (h (Some' one_box b.0.0) b.0.1 (Takes-then bytes (part layout (1 ∷ [])) following (value_bytes layout schema shape b.0.0) b.0.1 t f.takes) f.type f.ids)

  maybe_read : (shape : Shape) (S : Value → List ℕ → Type 0) (bytes : List ℕ) (v : Value) (rest : List ℕ) → IsBytes bytes → maybe_at inside layout shape bytes ≡ Ok (v, rest) → IsHeld shape bytes S → S v rest
  unfolding maybe_at
  maybe_read shape S bytes v rest fits e h =
      let b = bind_ok (flag_at layout bytes) (λ flag. held_at inside shape flag.0 flag.1) (v, rest) e in
      held_read shape S bytes b.0.0 b.0.1 v rest (flag_takes layout bytes b.0.0 b.0.1 fits b.1) b.2 h

  struct_read : (t : ℕ) (name : List ℕ) (fields : List ParamRow) → slice_get schema.types t ≡ Some (Struct name fields) → (bytes : List ℕ) (v : Value) (rest : List ℕ) → IsBytes bytes → fields_at inside layout fields bytes ≡ Ok (v, rest) → IsRead layout schema (Named t) bytes v rest
  unfolding fields_at
  struct_read t name fields is bytes v rest fits e =
      let b = bind_ok (struct_at layout bytes) (λ following. values_at inside fields following >>= λ found. Ok (value.Struct found.0, found.1)) (v, rest) e in
      let c = bind_ok (values_at inside fields b.0) (λ found. Ok (value.Struct found.0, found.1)) (v, rest) b.2 in
      let s = struct_takes layout bytes b.0 fits b.1 in
      let o = values_read fields b.0 c.0.0 c.0.1 s.rest_fits c.1 in
      let whole = Takes-then bytes (part layout (struct_byte ∷ [])) b.0 (values_bytes layout schema fields c.0.0) c.0.1 s o.takes in
      let found : fields_of schema (Named t) ≡ Some fields = ap (option_and_then fields_in) is in
      moved (IsRead layout schema (Named t) bytes) (value.Struct c.0.0) c.0.1 v rest c.2 (record {
        takes = subst (λ (o : Option (List ParamRow)). Takes bytes (part layout (struct_byte ∷ []) ++ values_bytes layout schema (unwrap_or o []) c.0.0) c.0.1) (sym found) whole;
        type = subst (λ (o : Option (List ParamRow)). IsSomeAnd o (λ fields. HaveTypes schema fields c.0.0)) (sym found) o.types;
        ids = o.ids;
      })

  component_read : (t index : ℕ) (component : Option Shape) → component_of schema (Named t) index ≡ component → (bytes following : List ℕ) (v : Value) (rest : List ℕ) → Takes bytes (index_bytes index) following → component_at inside component index bytes following ≡ Ok (v, rest) → IsRead layout schema (Named t) bytes v rest
  unfolding component_at
  component_read t index None is bytes following v rest w e = absurd cc
  component_read t index (Some shape) is bytes following v rest w e =
      let b = bind_ok (inside shape following) (λ held. Ok (boxed.Union' index one_box held.0, held.1)) (v, rest) e in
      let f = sound shape following b.0.0 b.0.1 w.rest_fits b.1 in
      let whole = Takes-then bytes (index_bytes index) following (value_bytes layout schema shape b.0.0) b.0.1 w f.takes in
      moved (IsRead layout schema (Named t) bytes) (boxed.Union' index one_box b.0.0) b.0.1 v rest b.2 (record {
        takes = subst (λ (o : Option Shape). Takes bytes (index_bytes index ++ option_map_or (λ component. value_bytes layout schema component b.0.0) o []) b.0.1) (sym is) whole;
        type = subst (λ (o : Option Shape). IsSomeAnd o (λ component. HasType schema component b.0.0)) (sym is) f.type;
        ids = f.ids;
      })

  union_read : (t : ℕ) (name : List ℕ) (components : List Shape) → slice_get schema.types t ≡ Some (Union name components) → (bytes : List ℕ) (v : Value) (rest : List ℕ) → IsBytes bytes → union_at inside components bytes ≡ Ok (v, rest) → IsRead layout schema (Named t) bytes v rest
  unfolding union_at
  union_read t name components is bytes v rest fits e =
      let b = bind_ok (word_at bytes) (λ index. component_at inside (slice_get components index.0) index.0 bytes index.1) (v, rest) e in
      let w = word_takes bytes b.0.0 b.0.1 fits b.1 in
      component_read t b.0.0 (slice_get components b.0.0) (ap (option_and_then (component_in b.0.0)) is) bytes b.0.1 v rest (subst (λ (xs : List ℕ). Takes bytes xs b.0.1) (sym (index_word b.0.0 w.1)) w.0) b.2

  named_read : (t : ℕ) (row : Option TypeRow) → slice_get schema.types t ≡ row → (bytes : List ℕ) (v : Value) (rest : List ℕ) → IsBytes bytes → row_at inside layout row bytes ≡ Ok (v, rest) → IsRead layout schema (Named t) bytes v rest
  named_read t None is bytes v rest fits e = absurd cc
  named_read t (Some (Struct name fields)) is bytes v rest fits e = struct_read t name fields is bytes v rest fits e
  named_read t (Some (Union name components)) is bytes v rest fits e = union_read t name components is bytes v rest fits e

  shape_read : (shape : Shape) (bytes : List ℕ) (v : Value) (rest : List ℕ) → IsBytes bytes → shape_at inside layout schema shape bytes ≡ Ok (v, rest) → IsRead layout schema shape bytes v rest
  shape_read (Builtin b) bytes v rest fits e = builtin_read layout schema b bytes v rest fits e
  shape_read (Using name) bytes v rest fits e = bytes_read layout (IsRead layout schema (Using name) bytes) bytes v rest fits e (λ found r t. record { takes = t; type = refl; ids = tt })
  shape_read (Actor p nullable) bytes v rest fits e = actor_read layout schema p nullable bytes v rest fits e
  shape_read (Named t) bytes v rest fits e = named_read t (slice_get schema.types t) refl bytes v rest fits e
  shape_read (Array' at s) bytes v rest fits e = array_read at s bytes v rest fits e
  shape_read (Maybe' at s) bytes v rest fits e = maybe_read s (IsRead layout schema (Maybe' at s) bytes) bytes v rest fits e (λ held r t type ids. record { takes = t; type = type; ids = ids })
  shape_read (Unique' at s) bytes v rest fits e = maybe_read s (IsRead layout schema (Unique' at s) bytes) bytes v rest fits e (λ held r t type ids. record { takes = t; type = type; ids = ids })
  shape_read (Endpoint p managed) bytes v rest fits e = absurd cc

pub value_read : (layout : Layout) (schema : Schema) (depth : ℕ) → ReadsSoundly layout schema (value_at depth layout schema)
unfolding value_at
value_read layout schema zero shape bytes v rest fits e = absurd cc
value_read layout schema (suc depth) shape bytes v rest fits e = shape_read layout schema (value_at depth layout schema) (value_read layout schema depth) shape bytes v rest fits e
