-- What fits a type has a term that fits it.
use Rattle.std.proofs.Common.{◌≡◌, ℕ, ◌*◌, ◌<◌, ◌^◌, Bool, true, false, List, [], ◌∷◌, length, Option, Some, None, ℤ, pos, ◌≤ℤ◌, ◌⊎◌, inl, inr, refl, sym, subst, arith}
use Rattle.std.specs.Prelude.{IsTrue, IsSome, IsSomeAnd, unwrap_or, option_and_then, if◌then◌else◌}
use Rattle.std.proofs.lemmas.Bool.{true≢false, or_parts, not-false, eq-eqb}
use Rattle.std.proofs.lemmas.Int.{by_lt_z, ints}
use Rattle.ipdl_base.specs.declared.builtin.Builtin.{Builtin as BuiltinType}
use Rattle.ipdl_base.specs.declared.builtin.Builtin.TheVariants as builtin
use Rattle.ipdl_base.specs.declared.schema.ParamRow.{ParamRow}
use Rattle.ipdl_base.specs.declared.schema.Schema.{Schema}
use Rattle.ipdl_base.specs.declared.schema.Shape.{Shape, Builtin, Using, Actor}
use Rattle.script_reader.specs.declared.written.Atom.{Atom}
use Rattle.script_reader.specs.declared.written.Atom.TheVariants as atom
use Rattle.script_reader.specs.declared.written.Who.{Who}
use Rattle.script_reader.specs.declared.written.Who.TheVariants as whos
use Rattle.script_reader.specs.declared.written.WrittenValue.{WrittenValue, Union', Held'}
use Rattle.script_reader.specs.declared.written.WrittenValue.TheVariants as written
use Rattle.script_reader.specs.declared.written.WrittenValues.{WrittenValues, First'}
use Rattle.script_reader.specs.declared.written.WrittenValues.TheVariants as values
use Rattle.value_types.specs.HasType.{IsInRange, IsActorOf}
use Rattle.value_types.specs.Shapes.{range_of, builtin_of, is_bytes, element_of, held_by, fields_of, component_of}
use Rattle.handler_script.specs.declared.term.Term.TheVariants as term
use Rattle.handler_script.specs.Blocks.{BlockContext, in_main, in_handler, given_in}
use Rattle.handler_script.specs.Broken.{is_unknown}
use Rattle.handler_script.specs.Mentions.{atom_mentions, mentions, any_mentions}
use Rattle.handler_script.specs.Messages.{is_constructor}
use Rattle.handler_script.specs.Terms.{Fits, AllFit, EachFits, AtomFits, AreBits, StandsFor, WhoFits, param_at, is_actor, number_of, bytes_term, who_term, atom_term, term_of, elements_of, terms_of}
use Rattle.handler_script.specs.Valid.{MayName, TermFits, AllTermsFit, EachTermFits}
use Rattle.handler_script.proofs.SameTypes.{same_nat, stands}
use Rattle.handler_script.proofs.Names.{AreBytes, IsNamed, AtomNames, ValueNames, ValuesNames}

-- An actor that is known in a block may be named there.
pub may_name : (b : BlockContext) (w : Who) → is_unknown b w ≡ false → IsNamed w → ((n : ℕ) → whos.Param n ≡ w → MayName b w) → MayName b w
may_name b whos.Top k n p = tt
may_name (in_main side) whos.This k n p = absurd (true≢false k)
may_name (in_handler side message) whos.This k n p = refl
may_name (in_main side) whos.Made k n p = absurd (true≢false k)
may_name (in_handler side message) whos.Made k n p = not-false (is_constructor message.kind) k
may_name b (whos.Param i) k n p = p i refl
may_name b (whos.Name name) k n p = n

-- What is not false of things that can be distinguished is true

not_both : {A B : Type 0} → ¬ ¬ (A × B) → (¬ ¬ A) × (¬ ¬ B)
not_both h = (λ n. h (λ p. n p.0), λ n. h (λ p. n p.1))

-- parts of values, by the type that a type gives them
some_part : {X : Type 0} (P Q : X → Type 0) (o : Option X) → ¬ ¬ IsSomeAnd o P → ((x : X) → o ≡ Some x → ¬ ¬ P x → Q x) → IsSomeAnd o Q
some_part P Q None h f = absurd (h (λ x. x))
some_part P Q (Some x) h f = f x refl h

pub is_true : (b : Bool) → ¬ ¬ (b ≡ true) → b ≡ true
is_true true h = refl
is_true false h = absurd (h (λ e. true≢false (sym e)))

is_below : (a b : ℤ) → ¬ ¬ (a ≤ℤ b) → a ≤ℤ b
is_below a b h = by_lt_z b a (λ lt. absurd (h (λ le. let no : ⊥ = omega (arith, ints) in no))) (λ le. le)

-- an actor that fits as a value has a term
who_fits : (schema : Schema) (b : BlockContext) (shape : Shape) (w : Who) → ¬ ¬ WhoFits (given_in b) shape w → is_unknown b w ≡ false → IsNamed w → TermFits schema b shape (who_term w)
who_fits schema b shape whos.Top h k n = (is_true (is_actor shape) h, refl, tt)
who_fits schema b shape whos.This h k n = (is_true (is_actor shape) h, refl, may_name b whos.This k n (λ i e. let no : ⊥ = cc in absurd no))
who_fits schema b shape whos.Made h k n = (is_true (is_actor shape) h, refl, may_name b whos.Made k n (λ i e. let no : ⊥ = cc in absurd no))
who_fits schema b shape (whos.Param i) h k n = some_part (λ (param : ParamRow). StandsFor param.shape shape) (λ param. StandsFor param.shape shape) (param_at (given_in b) i) h (λ param e s. stands param.shape shape s)
who_fits schema b shape (whos.Name name) h k n = (is_true (is_actor shape) h, refl, n)

-- bits of four and of eight bytes

four_bytes : (bytes : List ℕ) → AreBytes bytes → length bytes ≡ 4 → number_of bytes < 2 ^ 32
four_bytes [] h e = omega arith
four_bytes (b1 ∷ []) h e = omega arith
four_bytes (b1 ∷ b2 ∷ []) h e = omega arith
four_bytes (b1 ∷ b2 ∷ b3 ∷ []) h e = omega arith
four_bytes (b1 ∷ b2 ∷ b3 ∷ b4 ∷ []) h e = let h1 = h.0 in let h2 = h.1.0 in let h3 = h.1.1.0 in let h4 = h.1.1.1.0 in omega arith
four_bytes (b1 ∷ b2 ∷ b3 ∷ b4 ∷ b5 ∷ bs) h e = omega arith

eight_bytes : (bytes : List ℕ) → AreBytes bytes → length bytes ≡ 8 → number_of bytes < 2 ^ 64
eight_bytes [] h e = omega arith
eight_bytes (b1 ∷ []) h e = omega arith
eight_bytes (b1 ∷ b2 ∷ []) h e = omega arith
eight_bytes (b1 ∷ b2 ∷ b3 ∷ []) h e = omega arith
eight_bytes (b1 ∷ b2 ∷ b3 ∷ b4 ∷ []) h e = omega arith
eight_bytes (b1 ∷ b2 ∷ b3 ∷ b4 ∷ b5 ∷ []) h e = omega arith
eight_bytes (b1 ∷ b2 ∷ b3 ∷ b4 ∷ b5 ∷ b6 ∷ []) h e = omega arith
eight_bytes (b1 ∷ b2 ∷ b3 ∷ b4 ∷ b5 ∷ b6 ∷ b7 ∷ []) h e = omega arith
eight_bytes (b1 ∷ b2 ∷ b3 ∷ b4 ∷ b5 ∷ b6 ∷ b7 ∷ b8 ∷ []) h e =
    let h1 = h.0 in let h2 = h.1.0 in let h3 = h.1.1.0 in let h4 = h.1.1.1.0 in
    let h5 = h.1.1.1.1.0 in let h6 = h.1.1.1.1.1.0 in let h7 = h.1.1.1.1.1.1.0 in let h8 = h.1.1.1.1.1.1.1.0 in
    omega arith
eight_bytes (b1 ∷ b2 ∷ b3 ∷ b4 ∷ b5 ∷ b6 ∷ b7 ∷ b8 ∷ b9 ∷ bs) h e = omega arith

-- the term of bytes in a type of floats, or in one that has bytes
float_fits : (schema : Schema) (b : BlockContext) (k : BuiltinType) (bytes : List ℕ) → AreBytes bytes → AreBits (Builtin k) bytes → TermFits schema b (Builtin k) (bytes_term (Some k) bytes)
float_fits schema b builtin.Float bytes small h =
    let four : length bytes ≡ 4 = omega (arith, h) in
    let P : Bool → Type 0 = λ t. TermFits schema b (Builtin builtin.Float) (if t then term.Bits (number_of bytes) else term.Bytes bytes) in
    subst P (sym (eq-eqb (length bytes) 4 four)) (four_bytes bytes small four)
float_fits schema b builtin.Double bytes small h =
    let eight : length bytes ≡ 8 = omega (arith, h) in
    let P : Bool → Type 0 = λ t. TermFits schema b (Builtin builtin.Double) (if t then term.Bits (number_of bytes) else term.Bytes bytes) in
    subst P (sym (eq-eqb (length bytes) 8 eight)) (eight_bytes bytes small eight)
float_fits schema b k bytes small h = absurd h

bytes_fit : (schema : Schema) (b : BlockContext) (shape : Shape) (bytes : List ℕ) → AreBytes bytes → ¬ ¬ (IsTrue (is_bytes shape) ⊎ AreBits shape bytes) → TermFits schema b shape (bytes_term (builtin_of shape) bytes)
bytes_fit schema b (Builtin builtin.Float) bytes small h = float_fits schema b builtin.Float bytes small (same_nat 32 (8 * length bytes) (λ n. h (λ s. elim s [ inl t ↦ true≢false (sym t) | inr e ↦ n e ])))
bytes_fit schema b (Builtin builtin.Double) bytes small h = float_fits schema b builtin.Double bytes small (same_nat 64 (8 * length bytes) (λ n. h (λ s. elim s [ inl t ↦ true≢false (sym t) | inr e ↦ n e ])))
bytes_fit schema b (Builtin builtin.NsCString) bytes small h = refl
bytes_fit schema b (Builtin builtin.ByteBuf) bytes small h = refl
bytes_fit schema b (Using name) bytes small h = refl
bytes_fit schema b shape bytes small h = absurd (h (λ s. elim s [ inl t ↦ true≢false (sym t) | inr bits ↦ bits ]))

-- the builtins by which values of one token fit
bool_fits : (shape : Shape) → ¬ ¬ (builtin_of shape ≡ Some builtin.Bool) → builtin_of shape ≡ Some builtin.Bool
bool_fits (Builtin builtin.Bool) h = refl
bool_fits shape h = absurd (h (λ e. let no : ⊥ = cc in no))

text_fits : (shape : Shape) → ¬ ¬ (builtin_of shape ≡ Some builtin.NsString) → builtin_of shape ≡ Some builtin.NsString
text_fits (Builtin builtin.NsString) h = refl
text_fits shape h = absurd (h (λ e. let no : ⊥ = cc in no))

null_fits : (shape : Shape) → ¬ ¬ IsActorOf shape (pos 0) → IsActorOf shape (pos 0)
null_fits (Actor p nullable) h = λ e. is_true nullable (λ n. h (λ f. n (f refl)))
null_fits shape h = absurd (h (λ no. no))

number_fits : (shape : Shape) (i : ℤ) → ¬ ¬ IsInRange shape i → IsInRange shape i
number_fits shape i h =
    some_part (λ (range : ℤ × ℤ). (range.0 ≤ℤ i) × (i ≤ℤ range.1)) (λ range. (range.0 ≤ℤ i) × (i ≤ℤ range.1)) (option_and_then range_of (builtin_of shape)) h
    (λ range e s. let both = not_both s in (is_below range.0 i both.0, is_below i range.1 both.1))

atom_fits : (schema : Schema) (b : BlockContext) (shape : Shape) (a : Atom) → ¬ ¬ AtomFits (given_in b) shape a → atom_mentions (is_unknown b) a ≡ false → AtomNames a → TermFits schema b shape (atom_term shape a)
atom_fits schema b shape (atom.Bool t) h k n = bool_fits shape h
atom_fits schema b shape (atom.Number i) h k n = number_fits shape i h
atom_fits schema b shape (atom.Text text) h k n = (text_fits shape (not_both h).0, n)
atom_fits schema b shape (atom.Bytes bytes) h k n = bytes_fit schema b shape bytes n h
atom_fits schema b shape atom.Nothing h k n = elim (held_by shape) as (λ o. ¬ ¬ IsSome o → IsSomeAnd o (λ inner. Unit {0})) [ None ↦ (λ h. absurd (h (λ none. true≢false (sym none)))) | Some inner ↦ (λ h. tt) ] h
atom_fits schema b shape atom.Null h k n = (refl, null_fits shape h)
atom_fits schema b shape (atom.Who w) h k n = who_fits schema b shape w h k n

mutual
  pub value_fits : (schema : Schema) (b : BlockContext) (shape : Shape) (v : WrittenValue) → ¬ ¬ Fits schema (given_in b) shape v → mentions (is_unknown b) v ≡ false → ValueNames v → TermFits schema b shape (term_of schema shape v)
  value_fits schema b shape (written.Atom a) h k n = atom_fits schema b shape a h k n
  value_fits schema b shape (written.Struct vs) h k n =
      some_part (λ fields. EachFits schema (given_in b) fields vs) (λ fields. EachTermFits schema b fields (terms_of schema (unwrap_or (fields_of schema shape) []) vs)) (fields_of schema shape) h
      (λ fields e fit. let P : Option (List ParamRow) → Type 0 = λ o. EachTermFits schema b fields (terms_of schema (unwrap_or o []) vs) in subst P (sym e) (each_value_fits schema b fields vs fit k n))
  value_fits schema b shape (written.Array vs) h k n =
      some_part (λ element. AllFit schema (given_in b) element vs) (λ element. AllTermsFit schema b element (elements_of schema (unwrap_or (element_of shape) shape) vs)) (element_of shape) h
      (λ element e fit. let P : Option Shape → Type 0 = λ o. AllTermsFit schema b element (elements_of schema (unwrap_or o shape) vs) in subst P (sym e) (all_values_fit schema b element vs fit k n))
  value_fits schema b shape (Union' index _ v) h k n =
      some_part (λ component. Fits schema (given_in b) component v) (λ component. TermFits schema b component (term_of schema (unwrap_or (component_of schema shape index) shape) v)) (component_of schema shape index) h
      (λ component e fit. let P : Option Shape → Type 0 = λ o. TermFits schema b component (term_of schema (unwrap_or o shape) v) in subst P (sym e) (value_fits schema b component v fit k n))
  value_fits schema b shape (Held' _ v) h k n =
      some_part (λ inner. Fits schema (given_in b) inner v) (λ inner. TermFits schema b inner (term_of schema (unwrap_or (held_by shape) shape) v)) (held_by shape) h
      (λ inner e fit. let P : Option Shape → Type 0 = λ o. TermFits schema b inner (term_of schema (unwrap_or o shape) v) in subst P (sym e) (value_fits schema b inner v fit k n))

  all_values_fit : (schema : Schema) (b : BlockContext) (shape : Shape) (vs : WrittenValues) → ¬ ¬ AllFit schema (given_in b) shape vs → any_mentions (is_unknown b) vs ≡ false → ValuesNames vs → AllTermsFit schema b shape (elements_of schema shape vs)
  all_values_fit schema b shape values.Nothing h k n = tt
  all_values_fit schema b shape (First' _ v _ vs) h k n =
      let both = not_both h in (
        value_fits schema b shape v both.0 (or_parts (mentions (is_unknown b) v) (any_mentions (is_unknown b) vs) k).0 n.0,
        all_values_fit schema b shape vs both.1 (or_parts (mentions (is_unknown b) v) (any_mentions (is_unknown b) vs) k).1 n.1,
      )

  -- values that do not fail to fit have terms that fit
  pub each_value_fits : (schema : Schema) (b : BlockContext) (fields : List ParamRow) (vs : WrittenValues) → ¬ ¬ EachFits schema (given_in b) fields vs → any_mentions (is_unknown b) vs ≡ false → ValuesNames vs → EachTermFits schema b fields (terms_of schema fields vs)
  each_value_fits schema b [] values.Nothing h k n = tt
  each_value_fits schema b (field ∷ fields) values.Nothing h k n = absurd (h (λ no. no))
  each_value_fits schema b [] (First' _ v _ vs) h k n = absurd (h (λ no. no))
  each_value_fits schema b (field ∷ fields) (First' _ v _ vs) h k n =
      let both = not_both h in (
        value_fits schema b field.shape v both.0 (or_parts (mentions (is_unknown b) v) (any_mentions (is_unknown b) vs) k).0 n.0,
        each_value_fits schema b fields vs both.1 (or_parts (mentions (is_unknown b) v) (any_mentions (is_unknown b) vs) k).1 n.1,
      )
