-- Whether something is true is decided: tests, what is in an option, orders, and types.
use Rattle.std.proofs.Common.{◌≡◌, ◌⊎◌, ℕ, Bool, true, false, ℤ, ◌≤ℤ◌, Option, Some, None, inl, inr, refl, ap, ◌∙◌, sym, arith}
use Rattle.std.specs.Prelude.{IsSomeAnd}
use Rattle.std.specs.Bool.{Decides}
use Rattle.std.proofs.lemmas.Bool.{true≢false, cases_Bool, cases_eq}
use Rattle.std.proofs.lemmas.Int.{by_lt_z, ints}
use Rattle.std.proofs.lemmas.Slice.Eq.{bytes_eq-Decides}
use denote.Enum.Bare.{sameb, same_true, same_false}
use Rattle.ipdl_base.specs.Plain.{one_box, plain_shape}
use Rattle.ipdl_base.specs.contracts.builtin.Builtin.{the_type}
use Rattle.ipdl_base.specs.declared.builtin.Builtin.{Builtin as BuiltinType}
use Rattle.ipdl_base.specs.declared.schema.Shape.{Shape, Builtin, Using, Actor, Named, Array', Maybe', Unique', Endpoint}
use Rattle.report_existence.proofs.Finite.{both_or_not}

-- it is true, or it is not
abbrev pub IsDecided : Type 0 → Type 0
IsDecided Fact = Fact ⊎ (Fact → ⊥)

pub decided_as : {P Q : Type 0} → (P → Q) → (Q → P) → IsDecided P → IsDecided Q
decided_as to from (inl p) = inl (to p)
decided_as to from (inr none) = inr (λ q. none (from q))

-- what a test shows

pub is_true : (b : Bool) → IsDecided (b ≡ true)
is_true true = inl refl
is_true false = inr (λ e. true≢false (sym e))

pub is_false : (b : Bool) → IsDecided (b ≡ false)
is_false true = inr (λ e. true≢false e)
is_false false = inl refl

by_test : {P : Type 0} (b : Bool) → Decides b P → IsDecided P
by_test b d = decided_as d.0 d.1 (is_true b)

-- what is true of the content of an option
pub some_decided : {X : Type 0} (P : X → Type 0) → ((x : X) → IsDecided (P x)) → (o : Option X) → IsDecided (IsSomeAnd o P)
some_decided P each None = inr (λ h. h)
some_decided P each (Some x) = each x

pub order_decided : (a b : ℤ) → IsDecided (a ≤ℤ b)
order_decided a b = by_lt_z b a (λ less. inr (λ le. omega (arith, ints))) (λ le. inl le)

-- Types

same_bool : (a b : Bool) → IsDecided (a ≡ b)
same_bool true true = inl refl
same_bool false false = inl refl
same_bool a b = inr (λ e. let no : ⊥ = cc in no)

same_builtin : (j k : BuiltinType) → IsDecided (j ≡ k)
same_builtin j k = elim (cases_Bool (sameb the_type j k)) [
  | inl same ↦ inl (same_true the_type tt j k same)
  | inr other ↦ inr (same_false the_type j k other)
]

both_same : (m n : ℕ) (a b : Bool) → IsDecided ((m ≡ n) × (a ≡ b))
both_same m n a b = both_or_not (cases_eq m n) (same_bool a b)

-- two types are the same, up to where boxes lie, or not
pub same_shape : (a b : Shape) → IsDecided (plain_shape a ≡ plain_shape b)
same_shape (Builtin j) (Builtin k) = decided_as (ap Builtin) (λ e. let same : j ≡ k = cc in same) (same_builtin j k)
same_shape (Using x) (Using y) = decided_as (ap Using) (λ e. let same : x ≡ y = cc in same) (by_test _ (bytes_eq-Decides x y))
same_shape (Actor p m) (Actor q n) = decided_as (λ h. ap (λ z. Actor z m) h.0 ∙ ap (λ z. Actor q z) h.1) (λ e. (let same : p ≡ q = cc in same, let same : m ≡ n = cc in same)) (both_same p q m n)
same_shape (Named s) (Named t) = decided_as (ap Named) (λ e. let same : s ≡ t = cc in same) (cases_eq s t)
same_shape (Array' _ a) (Array' _ b) = decided_as (ap (λ s. Array' one_box s)) (λ e. let same : plain_shape a ≡ plain_shape b = cc in same) (same_shape a b)
same_shape (Maybe' _ a) (Maybe' _ b) = decided_as (ap (λ s. Maybe' one_box s)) (λ e. let same : plain_shape a ≡ plain_shape b = cc in same) (same_shape a b)
same_shape (Unique' _ a) (Unique' _ b) = decided_as (ap (λ s. Unique' one_box s)) (λ e. let same : plain_shape a ≡ plain_shape b = cc in same) (same_shape a b)
same_shape (Endpoint p m) (Endpoint q n) = decided_as (λ h. ap (λ z. Endpoint z m) h.0 ∙ ap (λ z. Endpoint q z) h.1) (λ e. (let same : p ≡ q = cc in same, let same : m ≡ n = cc in same)) (both_same p q m n)
same_shape a b = inr (λ e. let no : ⊥ = cc in no)
