-- The structs and unions without a mark are those that are not defined.
use Rattle.std.proofs.Common.{◌≡◌, ℕ, Bool, true, List, length, map, Some, inl, inr, refl, sym, ap, ◌∙◌, option_map}
use Rattle.std.specs.Prelude.{slice_get, option_and_then}
use Rattle.std.proofs.lemmas.Option.{slice_get-map, slice_get_within, slice_get_read, get_or_from_slice_get, option_and_then_some}
use Rattle.ipdl_base.specs.declared.finding.Finding.{Finding}
use Rattle.ipdl_base.specs.declared.finding.Place.{Place}
use Rattle.ipdl_base.specs.declared.finding.Rule.{Rule}
use Rattle.ipdl_syntax.specs.declared.program.Entry.{Entry}
use Rattle.findings.specs.Gains.{Gains, AtSome}
use Rattle.least_fixed_points.specs.Derived.{AreMarks}
use Rattle.least_fixed_points.specs.declared.nodes.Node.{Node}
use Rattle.type_rules.specs.Compounds.{NumberedType, struct, union, told, place_of, IsDefinedCompound, IsIn, AllNumbered}
use Rattle.type_rules.specs.Defined.{IsUndefinedType}
use Rattle.type_rules.specs.Parts.{AreNodes}
use Rattle.type_rules.specs.declared.compounds.Compound.{Compound}
use Rattle.type_rules.specs.declared.compounds.FileNumbers.{FileNumbers}
use Rattle.type_rules.proofs.Definedness.{derived_defined, defined_derived}
use Rattle.findings.proofs.Gathers.{Gains-like}
use Rattle.type_rules.proofs.Lists.{read_map, contains_read}

-- a struct or union of the program that is not defined is reported at its place
reported : (program : List Entry) (place : Place) (c : NumberedType) → IsIn program c → ¬ IsDefinedCompound program c → place_of c ≡ place → IsUndefinedType program place
reported program place (struct file s) (k, at) not here = option_and_then_some (λ (e : Entry). slice_get e.unit.structs k) (slice_get program file) s at (λ e there is.
    (file, e, there, inl (k, s, slice_get_within e.unit.structs k s is, get_or_from_slice_get e.unit.structs k s s is, (not, here))))
reported program place (union file u) (k, at) not here = option_and_then_some (λ (e : Entry). slice_get e.unit.unions k) (slice_get program file) u at (λ e there is.
    (file, e, there, inr (k, u, slice_get_within e.unit.unions k u is, get_or_from_slice_get e.unit.unions k u u is, (not, here))))

-- an undefined struct or union has a number
has_number : (program : List Entry) (all : List NumberedType) (files : List FileNumbers) (place : Place) → AllNumbered program all files → IsUndefinedType program place
    → (n : ℕ) × (c : NumberedType) × (slice_get all n ≡ Some c) × (¬ IsDefinedCompound program c) × (place_of c ≡ place)
has_number program all files place numbered (file, e, at, inl (k, s, lt, is, (not, here))) =
    let m = numbered.structs file k s (ap (option_and_then (λ (e : Entry). slice_get e.unit.structs k)) at ∙ slice_get_read e.unit.structs (length e.unit.structs) k s refl lt (sym is)) in
    (m.0, struct file s, m.2, not, here)
has_number program all files place numbered (file, e, at, inr (k, u, lt, is, (not, here))) =
    let m = numbered.unions file k u (ap (option_and_then (λ (e : Entry). slice_get e.unit.unions k)) at ∙ slice_get_read e.unit.unions (length e.unit.unions) k u refl lt (sym is)) in
    (m.0, union file u, m.2, not, here)

-- the findings at those without a mark are the findings of the rule
pub undefined_types : (r : Rule) (program : List Entry) (listed : List Compound) (files : List FileNumbers) (nodes : List Node) (marks : List Bool) (old new : List Finding) → AllNumbered program (map told listed) files → AreNodes program files (map told listed) nodes → AreMarks nodes marks
    → Gains (λ f. AtSome (λ k c. (f.rule ≡ r) × (¬ (slice_get marks k ≡ Some true)) × (place_of (told c) ≡ f.place)) listed) old new
    → Gains (λ f. (f.rule ≡ r) × IsUndefinedType program f.place) old new
undefined_types r program listed files nodes marks old new numbered are set g =
    let all = map told listed in
    Gains-like _ (λ f. (f.rule ≡ r) × IsUndefinedType program f.place) old new g
    (λ f h.
    let at : slice_get all h.0 ≡ Some (told h.1) = slice_get-map told listed h.0 ∙ ap (option_map told) h.2 in (
      h.3.0,
      reported program f.place (told h.1) (numbered.only (told h.1) (contains_read all h.0 (told h.1) at))
          (λ defined. h.3.1 ((set.exact h.0).1 (defined_derived program all files nodes numbered are h.0 (told h.1) at defined))) h.3.2,
    ))
    (λ f h.
    let m = has_number program all files f.place numbered h.1 in
    let x = read_map told listed m.0 m.1 m.2 in
    (m.0, x.0, x.1, (h.0, (λ marked. m.3 (derived_defined program all files nodes numbered are ((set.exact m.0).0 marked) m.1 m.2)), ap place_of x.2 ∙ m.4)))
