use Rattle.std.specs.Prelude.{◌≡◌, ℕ, pos, negsuc, Bool, true, [], ◌∷◌, codes, refl}
use Rattle.std.specs.Fmt.{digits}
use Rattle.ipdl_base.specs.declared.builtin.Builtin.TheVariants as builtin
use Rattle.ipdl_base.specs.declared.schema.Schema.{Schema}
use Rattle.ipdl_base.specs.declared.schema.Shape.{Builtin, Actor, Named}
use Rattle.ipdl_base.specs.declared.schema.TypeRow.TheVariants as row
use Rattle.ipdl_base.specs.declared.value.Value.{Value}
use Rattle.ipdl_base.specs.declared.value.Value as boxed
use Rattle.ipdl_base.specs.declared.value.Value.TheVariants as value
use Rattle.ipdl_base.specs.declared.value.Values.{First'}
use Rattle.ipdl_base.specs.declared.value.Values.TheVariants as values
use Rattle.ipdl_base.specs.Plain.{one_box}
use Rattle.value_types.specs.declared.layout.TheConstants.{NEW, OLD}
use Rattle.value_types.specs.HasType.{HasType}
use Rattle.value_types.specs.Sizes.{value_size}
use Rattle.value_types.specs.ValueText.{value_text, hex_digits}

-- a schema with one type, a struct of a byte and a truth value
abbrev pair : Schema
pair = record { protocols = []; types = row.Struct (codes "Pair") (record { name = codes "a"; shape = Builtin builtin.Uint8 } ∷ record { name = codes "b"; shape = Builtin builtin.Bool } ∷ []) ∷ [] }

-- the struct's value of a number and a truth value
abbrev of : ℕ → Bool → Value
of n b = value.Struct (First' one_box (value.Int (pos n)) one_box (First' one_box (value.Bool b) one_box values.Nothing))

-- the struct's type has the value with the byte 255, but not one with 256 and not one with a single field
byte_and_truth : HasType pair (Named 0) (of 255 true) ≡ ((HasType pair (Builtin builtin.Uint8) (value.Int (pos 255))) × (HasType pair (Builtin builtin.Bool) (value.Bool true) × Unit {0}))
byte_and_truth = refl

one_field : HasType pair (Named 0) (value.Struct (First' one_box (value.Int (pos 7)) one_box values.Nothing)) ≡ (HasType pair (Builtin builtin.Uint8) (value.Int (pos 7)) × ⊥)
one_field = refl

no_such_type : HasType pair (Named 1) (of 7 true) ≡ ⊥
no_such_type = refl

old_size : value_size OLD pair (Named 0) (of 7 true) ≡ 3
old_size = refl

new_size : value_size NEW pair (Named 0) (of 7 true) ≡ 12
new_size = refl

text_of_pair : value_text pair (Named 0) (of 7 true) ≡ codes "{7, true}"
unfolding digits
text_of_pair = refl

text_of_union_index : value_text pair (Builtin builtin.Bool) (boxed.Union' 3 one_box (value.Bool true)) ≡ codes "@3 "
unfolding digits
text_of_union_index = refl

quotes_and_lines : value_text pair (Builtin builtin.NsString) (value.Text (97 ∷ 34 ∷ 10 ∷ 31 ∷ 127 ∷ [])) ≡ codes "\"a\\\"\\n\\x1f\\x7f\""
quotes_and_lines = refl

bits_of_one : value_text pair (Builtin builtin.Float) (value.Bits 1065353216) ≡ codes "h\"3f800000\""
unfolding hex_digits
bits_of_one = refl

null : value_text pair (Actor 0 true) (value.Actor (pos 0)) ≡ codes "null"
null = refl

third_of_the_child : value_text pair (Actor 0 true) (value.Actor (negsuc 2)) ≡ codes "#-3"
unfolding digits
third_of_the_child = refl
