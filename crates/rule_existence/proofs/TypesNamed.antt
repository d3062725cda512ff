-- The rules on the names of types, on `nullable` and on definedness: the places at which they are broken are listed.
use Rattle.report_existence.proofs.Lists.{bool_or_not}
use Rattle.std.proofs.Common.{◌≡◌, ◌⊎◌, ◌∙◌, ℕ, true, List, Any, Option, sym, subst, inl, inr}
use Rattle.ipdl_syntax.specs.declared.program.Entry.{Entry}
use Rattle.ipdl_syntax.specs.declared.tree.Base.{Base, Named, Unique'}
use Rattle.ipdl_syntax.specs.declared.tree.StructDecl.{StructDecl}
use Rattle.ipdl_syntax.specs.declared.tree.UnionDecl.{UnionDecl}
use Rattle.name_table.specs.declared.decl.DeclId.{DeclId}
use Rattle.name_table.specs.declared.decl.DeclId.TheVariants.{Protocol}
use Rattle.name_table.specs.declared.decl.Found.{Found}
use Rattle.name_table.specs.declared.decl.Found.TheVariants as found
use Rattle.name_table.specs.Finds.{Counts, Finds}
use Rattle.type_rules.specs.Defined.{IsDefined, IsDefinedStruct, IsDefinedUnion, IsUndefinedType}
use Rattle.type_rules.specs.TypeNames.{IsActor, IsAmbiguous, IsAmbiguousType, IsNoActor, IsNullableNonActor, IsUnknown, IsUnknownType}
use Rattle.written_parts.specs.Types.{written_types}
use Rattle.report_existence.specs.Laws.{IsListed}
use Rattle.report_existence.proofs.Finite.{any_or_not, both_or_not, either_place, not_or, of_any, same_places, of_some}
use Rattle.name_existence.proofs.Decisions.{all_or_not, like_or_not}
use Rattle.name_existence.proofs.Defined.{types_are_decided}
use Rattle.name_existence.proofs.Names.{names_have_answers}
use Rattle.rule_existence.proofs.Listed.{at_place}

-- Names of types

unknown_by : (program : List Entry) (file : ℕ) (name : List ℕ) (argument : Option (List ℕ)) (finds : Found) → Counts (Finds program file name argument) finds → IsUnknown program file (Named name argument) ⊎ (IsUnknown program file (Named name argument) → ⊥)
unknown_by program file name argument found.None counts = inl counts
unknown_by program file name argument (found.One d) counts = inr (λ none. none d counts.0)
unknown_by program file name argument (found.Many d e) counts = inr (λ none. none d counts.0)

unknown_or_not : (program : List Entry) (file : ℕ) (base : Base) → IsUnknown program file base ⊎ (IsUnknown program file base → ⊥)
unknown_or_not program file (Named name argument) = let a = names_have_answers program file name argument in unknown_by program file name argument a.0 a.1
unknown_or_not program file (Unique' at nullable inner after place) = inr (λ h. h)

ambiguous_by : (program : List Entry) (file : ℕ) (name : List ℕ) (argument : Option (List ℕ)) (finds : Found) → Counts (Finds program file name argument) finds → IsAmbiguous program file (Named name argument) ⊎ (IsAmbiguous program file (Named name argument) → ⊥)
ambiguous_by program file name argument found.None counts = inr (λ h. counts h.0 h.2.0)
ambiguous_by program file name argument (found.One d) counts = inr (λ h. h.2.2 (counts.1 h.0 h.2.0 ∙ sym (counts.1 h.1 h.2.1)))
ambiguous_by program file name argument (found.Many d e) counts = inl (d, e, counts)

ambiguous_or_not : (program : List Entry) (file : ℕ) (base : Base) → IsAmbiguous program file base ⊎ (IsAmbiguous program file base → ⊥)
ambiguous_or_not program file (Named name argument) = let a = names_have_answers program file name argument in ambiguous_by program file name argument a.0 a.1
ambiguous_or_not program file (Unique' at nullable inner after place) = inr (λ h. h)

actor_or_not : (d : DeclId) → IsActor d ⊎ (IsActor d → ⊥)
actor_or_not (Protocol p) = inl tt
actor_or_not _ = inr (λ h. h)

no_actor_by : (program : List Entry) (file : ℕ) (name : List ℕ) (argument : Option (List ℕ)) (finds : Found) → Counts (Finds program file name argument) finds → IsNoActor program file (Named name argument) ⊎ (IsNoActor program file (Named name argument) → ⊥)
no_actor_by program file name argument found.None counts = inr (λ h. counts h.0 h.1.0)
no_actor_by program file name argument (found.One d) counts =
    like_or_not (λ (none : ¬ IsActor d). (d, counts, none)) (λ h. subst (λ e. ¬ IsActor e) (counts.1 h.0 h.1.0) h.2) (not_or (actor_or_not d))
no_actor_by program file name argument (found.Many d e) counts = inr (λ h. counts.2 (h.1.1 d counts.0 ∙ sym (h.1.1 e counts.1)))

no_actor_or_not : (program : List Entry) (file : ℕ) (base : Base) → IsNoActor program file base ⊎ (IsNoActor program file base → ⊥)
no_actor_or_not program file (Named name argument) = let a = names_have_answers program file name argument in no_actor_by program file name argument a.0 a.1
no_actor_or_not program file (Unique' at nullable inner after place) = inl tt

pub unknown_listed : (program : List Entry) → IsListed (IsUnknownType program)
unknown_listed program =
    of_any (written_types program) (λ w place. IsUnknown program w.file w.spec.base × (w.spec.place ≡ place))
    (λ w. at_place (IsUnknown program w.file w.spec.base) (unknown_or_not program w.file w.spec.base) w.spec.place)

pub ambiguous_listed : (program : List Entry) → IsListed (IsAmbiguousType program)
ambiguous_listed program =
    of_any (written_types program) (λ w place. IsAmbiguous program w.file w.spec.base × (w.spec.place ≡ place))
    (λ w. at_place (IsAmbiguous program w.file w.spec.base) (ambiguous_or_not program w.file w.spec.base) w.spec.place)

pub nullable_listed : (program : List Entry) → IsListed (IsNullableNonActor program)
nullable_listed program =
    of_any (written_types program) (λ w place. (w.spec.nullable ≡ true) × IsNoActor program w.file w.spec.base × (w.spec.place ≡ place))
    (λ w.
    same_places (λ place. ((w.spec.nullable ≡ true) × IsNoActor program w.file w.spec.base) × (w.spec.place ≡ place)) (λ place. (w.spec.nullable ≡ true) × IsNoActor program w.file w.spec.base × (w.spec.place ≡ place))
    (λ place h. (h.0.0, h.0.1, h.1)) (λ place h. ((h.0, h.1), h.2))
    (at_place ((w.spec.nullable ≡ true) × IsNoActor program w.file w.spec.base) (both_or_not (bool_or_not w.spec.nullable true) (no_actor_or_not program w.file w.spec.base)) w.spec.place))

-- Definedness

struct_or_not : (program : List Entry) (file : ℕ) (s : StructDecl) → IsDefinedStruct program file s ⊎ (IsDefinedStruct program file s → ⊥)
struct_or_not program file s = all_or_not (λ field. IsDefined program file field.spec.base) (λ field. types_are_decided program file field.spec.base) s.fields

union_or_not : (program : List Entry) (file : ℕ) (u : UnionDecl) → IsDefinedUnion program file u ⊎ (IsDefinedUnion program file u → ⊥)
union_or_not program file u =
    like_or_not (λ (i, component, below, at, h). (component, (i, below, at), h)) (λ (component, (i, below, at), h). (i, component, below, at, h))
    (any_or_not (λ component. IsDefined program file component.base) (λ component. types_are_decided program file component.base) u.components)

pub undefined_listed : (program : List Entry) → IsListed (IsUndefinedType program)
undefined_listed program =
    of_some program
    (λ file e place.
    Any (λ s. (¬ IsDefinedStruct program file s) × (s.place ≡ place)) e.unit.structs
    ⊎ Any (λ u. (¬ IsDefinedUnion program file u) × (u.place ≡ place)) e.unit.unions)
    (λ file e.
    either_place (λ place. Any (λ s. (¬ IsDefinedStruct program file s) × (s.place ≡ place)) e.unit.structs) (λ place. Any (λ u. (¬ IsDefinedUnion program file u) × (u.place ≡ place)) e.unit.unions)
    (of_any e.unit.structs (λ s place. (¬ IsDefinedStruct program file s) × (s.place ≡ place)) (λ s. at_place (¬ IsDefinedStruct program file s) (not_or (struct_or_not program file s)) s.place))
    (of_any e.unit.unions (λ u place. (¬ IsDefinedUnion program file u) × (u.place ≡ place)) (λ u. at_place (¬ IsDefinedUnion program file u) (not_or (union_or_not program file u)) u.place)))
