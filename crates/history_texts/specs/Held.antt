-- What a line and a value of a program can contain: numbers of 32 bits where they have such, whatever their types.
use Rattle.std.specs.Prelude.{ℕ, ◌<◌, ◌≤◌, ◌^◌, ℤ, nat_abs}
use Rattle.ipdl_base.specs.declared.value.Value.{Value, Union', Maybe', Held-Value-Maybe-0, None', Some'}
use Rattle.ipdl_base.specs.declared.value.Value.TheVariants as value
use Rattle.ipdl_base.specs.declared.value.Values.{Values, First'}
use Rattle.ipdl_base.specs.declared.value.Values.TheVariants as values

-- a number of 32 bits, without and with a sign
abbrev pub IsCount : ℕ → Type 0
IsCount n = n < 2 ^ 32

abbrev pub IsNumber : ℤ → Type 0
IsNumber n = nat_abs n ≤ 2 ^ 31

-- the index of each union and the id of each actor in a value are numbers of 32 bits
abbrev mutual
  pub IsHeld : Value → Type 0
  IsHeld (value.Bool b) = Unit {0}
  IsHeld (value.Int n) = Unit {0}
  IsHeld (value.Text text) = Unit {0}
  IsHeld (value.Bytes bytes) = Unit {0}
  IsHeld (value.Bits bits) = Unit {0}
  IsHeld (value.Struct vs) = AreHeld vs
  IsHeld (Union' index _ v) = IsCount index × IsHeld v
  IsHeld (value.Array vs) = AreHeld vs
  IsHeld (Maybe' held) = IsHeldIn held
  IsHeld (value.Actor id) = IsNumber id

  pub IsHeldIn : Held-Value-Maybe-0 → Type 0
  IsHeldIn None' = Unit {0}
  IsHeldIn (Some' _ v) = IsHeld v

  pub AreHeld : Values → Type 0
  AreHeld values.Nothing = Unit {0}
  AreHeld (First' _ v _ vs) = IsHeld v × AreHeld vs
