-- Values are equal to themselves by the test.
use Rattle.std.proofs.Common.{◌≡◌, ◌&&◌, Bool, true, false, nat_eq, refl}
use Rattle.std.proofs.lemmas.Bool.{eq-eqb}
use Rattle.std.proofs.lemmas.Bool.Decides.{Decides-int_eq, Decides-eqb}
use Rattle.std.proofs.lemmas.Slice.Eq.{slice_eq-Decides}
use Rattle.std.specs.Cmp.Lexicographic.{pointwise}
use Rattle.ipdl_base.specs.declared.value.Value.{Value, Union', Maybe', Held-Value-Maybe-0, None', Some'}
use Rattle.ipdl_base.specs.declared.value.Value.TheVariants as value
use Rattle.ipdl_base.specs.declared.value.Values.{Values, First'}
use Rattle.ipdl_base.specs.declared.value.Values.TheVariants as values
use Rattle.history_reading.specs.Nulled.{bool_eq, same_value, same_held, same_values}

same-bool : (b : Bool) → bool_eq b b ≡ true
same-bool true = refl
same-bool false = refl

both : (a b : Bool) → a ≡ true → b ≡ true → a && b ≡ true
both true b e f = f
both false b e f = cc

mutual
  value-same : (v : Value) → same_value v v ≡ true
  value-same (value.Bool b) = same-bool b
  value-same (value.Int n) = (Decides-int_eq n n).1 refl
  value-same (value.Text text) = (slice_eq-Decides Decides-eqb text text (pointwise nat_eq text text) refl).1 refl
  value-same (value.Bytes bytes) = (slice_eq-Decides Decides-eqb bytes bytes (pointwise nat_eq bytes bytes) refl).1 refl
  value-same (value.Bits bits) = eq-eqb bits bits refl
  value-same (value.Struct vs) = values-same vs
  value-same (Union' i at v) = both (nat_eq i i) (same_value v v) (eq-eqb i i refl) (value-same v)
  value-same (value.Array vs) = values-same vs
  value-same (Maybe' held) = held-same held
  value-same (value.Actor id) = (Decides-int_eq id id).1 refl

  held-same : (held : Held-Value-Maybe-0) → same_held held held ≡ true
  held-same None' = refl
  held-same (Some' at v) = value-same v

  pub values-same : (vs : Values) → same_values vs vs ≡ true
  values-same values.Nothing = refl
  values-same (First' at v more vs) = both (same_value v v) (same_values vs vs) (value-same v) (values-same vs)
