-- Values of parameters, wherever their boxes lie.
use Rattle.std.proofs.Common.{◌≡◌, ◌∙◌, ℕ, zero, suc, refl, sym, ap}
use Rattle.ipdl_base.specs.declared.value.Value.{Value, Union', Maybe', Held-Value-Maybe-0, None', Some'}
use Rattle.ipdl_base.specs.declared.value.Value as boxed
use Rattle.ipdl_base.specs.declared.value.Value.TheVariants as value
use Rattle.ipdl_base.specs.declared.value.Values.{Values, First'}
use Rattle.ipdl_base.specs.declared.value.Values as boxed_list
use Rattle.ipdl_base.specs.declared.value.Values.TheVariants as values
use Rattle.ipdl_base.specs.Plain.{one_box, plain, plain_held, plain_values}
use Rattle.handler_script.specs.ValueOf.{value_at, given_at}

-- plain values are plain already
mutual
  pub plain-again : (v : Value) → plain (plain v) ≡ plain v
  plain-again (value.Bool b) = refl
  plain-again (value.Int n) = refl
  plain-again (value.Text text) = refl
  plain-again (value.Bytes bytes) = refl
  plain-again (value.Bits bits) = refl
  plain-again (value.Struct fields) = ap value.Struct (values-again fields)
  plain-again (Union' index _ held) = ap (boxed.Union' index one_box) (plain-again held)
  plain-again (value.Array elements) = ap value.Array (values-again elements)
  plain-again (Maybe' held) = ap boxed.Maybe' (held-again held)
  plain-again (value.Actor id) = refl

  held-again : (held : Held-Value-Maybe-0) → plain_held (plain_held held) ≡ plain_held held
  held-again None' = refl
  held-again (Some' _ v) = ap (Some' one_box) (plain-again v)

  values-again : (vs : Values) → plain_values (plain_values vs) ≡ plain_values vs
  values-again values.Nothing = refl
  values-again (First' _ v _ vs) = rw (plain-again v, values-again vs) refl

-- a value among plain values is the plain one
pub value-at-plain : (given : Values) (n : ℕ) → plain (value_at (plain_values given) n) ≡ plain (value_at given n)
value-at-plain values.Nothing n = refl
value-at-plain (First' _ v _ vs) zero = plain-again v
value-at-plain (First' _ v _ vs) (suc n) = value-at-plain vs n

pub given-plain : (given : Values) (n : ℕ) → given_at (plain_values given) n ≡ given_at given n
given-plain given zero = refl
given-plain given (suc n) = value-at-plain given n
