-- All is known: if nothing changes any more, each derivation is known.
use Rattle.std.proofs.Common.{◌≡◌, ◌↔◌, ℕ, ◌+◌, ◌≤◌, Bool, true, false, ◌&&◌, nat_le, List, [], ◌∷◌, ap, subst, ◌∙◌, arith, inl, inr}
use Rattle.std.specs.List.{Contains}
use Rattle.std.proofs.lemmas.Bool.Decides.{leb_tells}
use Rattle.ipdl_base.specs.declared.schema.MessageRow.{MessageRow}
use Rattle.ipdl_base.specs.declared.schema.ParamRow.{ParamRow}
use Rattle.ipdl_base.specs.declared.schema.Schema.{Schema}
use Rattle.ipdl_base.specs.declared.schema.Shape.{Shape, Actor}
use Rattle.ipdl_base.specs.declared.schema.TypeRow.TheVariants.{Struct, Union}
use Rattle.value_types.specs.Sizes.{made_size}
use Rattle.wait_report.specs.Sendable as sendable
use Rattle.wait_report.specs.Sendable.{home_of, IsBuildable, is_top, constructed, IsSendable, fits, HasValueWithin, using_type, null, actor, array, maybe, unique, struct, union, HaveValuesWithin, nothing, first}
use Rattle.wait_report.specs.Least.{is_built, least_of, sum_of, least_in, can_send, AreClosed, IsKnown}
use Rattle.wait_report.proofs.Looks.{sound-message}
use Rattle.wait_report.proofs.SchemaRows.{contains-cases, none-in-nothing, of-protocol}

pub both : (a b : Bool) → a ≡ true → b ≡ true → a && b ≡ true
both a b e f = ap (λ (x : Bool). x && b) e ∙ f

at-most : (a b : ℕ) → a ≤ b → nat_le a b ≡ true
at-most a b few = elim (leb_tells a b) [ inl so ↦ so.0 | inr not_so ↦ absurd (omega (arith, few, not_so.1)) ]

least-below : (types : List ℕ) (built : List Bool) (components : List Shape) (component : Shape) → Contains components component → least_in types built components ≤ least_of types built component
least-below types built [] component there = none-in-nothing component there
least-below types built (c ∷ cs) component there = elim (contains-cases c component cs there) [
  | inl same ↦ subst (λ (s : Shape). least_in types built (c ∷ cs) ≤ least_of types built s) same (omega arith)
  | inr later ↦ let rest = least-below types built cs component later in omega (arith, rest)
]

module _ (schema : Schema) (top : ℕ) (types : List ℕ) (built : List Bool) (h : AreClosed schema top types built) where
  actor-known : (protocol : ℕ) (nullable : Bool) (bytes : ℕ) → is_built built protocol ≡ true → 4 ≤ bytes → least_of types built (Actor protocol nullable) ≤ bytes
  actor-known protocol true bytes live few = few
  actor-known protocol false bytes live few = rw live few

  mutual
    built-known : (protocol : ℕ) → IsBuildable schema top protocol → is_built built protocol ≡ true
    built-known _ is_top = h.top_built
    built-known protocol (constructed row sendable kind) = h.all_messages row (of-protocol schema row (is-found row sendable)) protocol kind (message-known row sendable)

    is-found : (row : MessageRow) → IsSendable schema top row → sendable.IsMessage schema row
    is-found row (fits bytes found carried home values few) = found

    message-known : (row : MessageRow) → IsSendable schema top row → can_send types built row ≡ true
    message-known row (fits bytes found carried home values few) =
        let sum : sum_of types built row.params ≤ bytes = values-known row.params bytes values (omega (arith, few)) in
        both row.carried (is_built built (home_of row) && nat_le (made_size row.kind + sum_of types built row.params) 4096) carried
        (both (is_built built (home_of row)) (nat_le (made_size row.kind + sum_of types built row.params) 4096) (built-known (home_of row) home) (at-most (made_size row.kind + sum_of types built row.params) 4096 (omega (arith, sum, few))))

    value-known : (shape : Shape) (bytes : ℕ) → HasValueWithin schema top shape bytes → bytes ≤ 4096 → least_of types built shape ≤ bytes
    value-known _ bytes (sendable.builtin carried few) most = rw carried few
    value-known _ bytes (using_type few) most = few
    value-known _ bytes (null few) most = few
    value-known _ bytes (actor {protocol} {nullable} live few) most = actor-known protocol nullable bytes (built-known protocol live) few
    value-known _ bytes (array few) most = few
    value-known _ bytes (maybe few) most = few
    value-known _ bytes (unique few) most = few
    value-known _ bytes (struct {t} name fields inside is values few) most =
        let sum = values-known fields inside values (omega (arith, few, most)) in
        let row = h.all_types t (Struct name fields) is in
        omega (arith, sum, row, few)
    value-known _ bytes (union {t} name components component inside is there value few) most =
        let least = value-known component inside value (omega (arith, few, most)) in
        let below = least-below types built components component there in
        let row = h.all_types t (Union name components) is in
        omega (arith, least, below, row, few)

    values-known : (fields : List ParamRow) (bytes : ℕ) → HaveValuesWithin schema top fields bytes → bytes ≤ 4096 → sum_of types built fields ≤ bytes
    values-known _ bytes nothing most = omega arith
    values-known _ bytes (first {field} {fields} here others value values few) most =
        let one = value-known field.shape here value (omega (arith, few, most)) in
        let rest = values-known fields others values (omega (arith, few, most)) in
        omega (arith, one, rest, few)

-- a message can be sent exactly where this is known
pub known-exactly : (schema : Schema) (top : ℕ) (types : List ℕ) (built : List Bool) → IsKnown schema top types built → (row : MessageRow) → sendable.IsMessage schema row → (can_send types built row ≡ true) ↔ IsSendable schema top row
known-exactly schema top types built h row found = (λ e. sound-message schema top types built row h.sound found e, λ s. message-known schema top types built h.closed row s)

-- what can be sent is a message of the schema
pub is-sendable-message : (schema : Schema) (top : ℕ) (row : MessageRow) → IsSendable schema top row → sendable.IsMessage schema row
is-sendable-message schema top row (fits bytes found carried home values few) = found
