-- It is decided which types are defined.
use Rattle.std.proofs.Common.{◌≡◌, ◌⊎◌, ◌∙◌, ℕ, List, Contains, Any, Option, Some, IsSomeAnd, slice_get, option_map, refl, sym, ap, subst, inl, inr, ⊎_elim}
use Rattle.std.specs.Prelude.{option_and_then}
use Rattle.std.proofs.lemmas.Option.{option_and_then_some}
use Rattle.ipdl_syntax.specs.declared.program.Entry.{Entry}
use Rattle.ipdl_syntax.specs.declared.tree.Base.{Base, Named, Unique'}
use Rattle.ipdl_syntax.specs.declared.tree.Param.{Param}
use Rattle.ipdl_syntax.specs.declared.tree.StructDecl.{StructDecl}
use Rattle.ipdl_syntax.specs.declared.tree.UnionDecl.{UnionDecl}
use Rattle.name_table.specs.declared.decl.DeclId.{DeclId}
use Rattle.name_table.specs.declared.decl.DeclId.TheVariants as decl
use Rattle.name_table.specs.declared.decl.Found.{Found}
use Rattle.name_table.specs.declared.decl.Found.TheVariants as found
use Rattle.name_table.specs.Decls.{FindsOne, struct_of, union_of}
use Rattle.name_table.specs.Finds.{Counts, Finds}
use Rattle.name_table.specs.Rows.{declared_from}
use Rattle.name_table.proofs.Order.{all_declared}
use Rattle.type_rules.specs.Defined.{IsCompound, IsDefined, IsDefinedStruct, IsDefinedUnion, loose, atom, struct, union, inside}
use Rattle.type_rules.proofs.Lists.{contains_map}
use Rattle.report_existence.proofs.Finite.{any_or_not}
use Rattle.program_schema.proofs.Unbroken.{and_some, some_and}
use Rattle.name_existence.specs.Laws.{TypesAreDecided}
use Rattle.name_existence.proofs.Decisions.{like_or_not, all_or_not, contains_or_not, some_and_or_not}
use Rattle.name_existence.proofs.Least.{closed_marks}
use Rattle.name_existence.proofs.Names.{decls, decl_or_not, names_have_answers}

-- each struct or union that a base, or the inside of its UniquePtr, finds alone is marked
abbrev Rests : List Entry → List DeclId → ℕ → Base → Type 0
Rests program marks file (Named name argument) = (d : DeclId) → FindsOne program file name argument d → IsCompound d → Contains marks d
Rests program marks file (Unique' at nullable inner after place) = Rests program marks file inner

-- from marked structs and unions a step leads to a struct if all of its fields depend on these alone, and to a union
-- if one component does
abbrev Step : List Entry → List DeclId → DeclId → Type 0
Step program marks (decl.Struct file place) = IsSomeAnd (struct_of program file place) (λ s. (field : Param) → Contains s.fields field → Rests program marks file field.spec.base)
Step program marks (decl.Union file place) = IsSomeAnd (union_of program file place) (λ u. Any (λ component. Rests program marks file component.base) u.components)
Step program marks _ = ⊥

-- a struct or a union that is defined
abbrev IsDefinedDecl : List Entry → DeclId → Type 0
IsDefinedDecl program (decl.Struct file place) = IsSomeAnd (struct_of program file place) (IsDefinedStruct program file)
IsDefinedDecl program (decl.Union file place) = IsSomeAnd (union_of program file place) (IsDefinedUnion program file)
IsDefinedDecl program _ = ⊥

-- Steps are decided

compound_or_not : (d : DeclId) → IsCompound d ⊎ (IsCompound d → ⊥)
compound_or_not (decl.Struct file place) = inl tt
compound_or_not (decl.Union file place) = inl tt
compound_or_not _ = inr (λ h. h)

name_rests_or_not : (program : List Entry) (marks : List DeclId) (file : ℕ) (name : List ℕ) (argument : Option (List ℕ)) (finds : Found) → Counts (Finds program file name argument) finds
    → Rests program marks file (Named name argument) ⊎ (Rests program marks file (Named name argument) → ⊥)
name_rests_or_not program marks file name argument found.None counts = inl (λ d one c. absurd (counts d one.0))
name_rests_or_not program marks file name argument (found.Many a b) counts = inl (λ d one c. absurd (counts.2 (one.1 a counts.0 ∙ sym (one.1 b counts.1))))
name_rests_or_not program marks file name argument (found.One d) counts =
    ⊎_elim
    (λ (is : IsCompound d).
    like_or_not (λ (c : Contains marks d) e one h. subst (Contains marks) (sym (counts.1 e one.0)) c) (λ rests. rests d counts is) (contains_or_not decl_or_not marks d))
    (λ (none : IsCompound d → ⊥). inl (λ e one h. absurd (none (subst IsCompound (counts.1 e one.0) h))))
    (compound_or_not d)

rests_or_not : (program : List Entry) (marks : List DeclId) (file : ℕ) (base : Base) → Rests program marks file base ⊎ (Rests program marks file base → ⊥)
rests_or_not program marks file (Named name argument) = let a = names_have_answers program file name argument in name_rests_or_not program marks file name argument a.0 a.1
rests_or_not program marks file (Unique' at nullable inner after place) = rests_or_not program marks file inner

step_or_not : (program : List Entry) (marks : List DeclId) (d : DeclId) → Step program marks d ⊎ (Step program marks d → ⊥)
step_or_not program marks (decl.Struct file place) =
    some_and_or_not (struct_of program file place) (λ s. (field : Param) → Contains s.fields field → Rests program marks file field.spec.base)
    (λ s. all_or_not (λ field. Rests program marks file field.spec.base) (λ field. rests_or_not program marks file field.spec.base) s.fields)
step_or_not program marks (decl.Union file place) =
    some_and_or_not (union_of program file place) (λ u. Any (λ component. Rests program marks file component.base) u.components)
    (λ u. any_or_not (λ component. Rests program marks file component.base) (λ component. rests_or_not program marks file component.base) u.components)
step_or_not program marks _ = inr (λ h. h)

-- Steps lead to what is defined

one_defined : (program : List Entry) (file : ℕ) (name : List ℕ) (argument : Option (List ℕ)) (d : DeclId) → FindsOne program file name argument d → (IsCompound d → IsDefinedDecl program d) → IsDefined program file (Named name argument)
one_defined program file name argument (decl.Struct other place) one defined =
    let s = some_and (struct_of program other place) (IsDefinedStruct program other) (defined tt) in
    struct other place s.0 one s.1 s.2
one_defined program file name argument (decl.Union other place) one defined =
    let u = some_and (union_of program other place) (IsDefinedUnion program other) (defined tt) in
    union other place u.0 u.2.0 one u.1 u.2.1 u.2.2
one_defined program file name argument (decl.Builtin type) one defined = atom (decl.Builtin type) one (λ h. h)
one_defined program file name argument (decl.Using other place) one defined = atom (decl.Using other place) one (λ h. h)
one_defined program file name argument (decl.Protocol p) one defined = atom (decl.Protocol p) one (λ h. h)
one_defined program file name argument (decl.Endpoint p managed) one defined = atom (decl.Endpoint p managed) one (λ h. h)

name_defined : (program : List Entry) (marks : List DeclId) → ((d : DeclId) → Contains marks d → IsDefinedDecl program d) → (file : ℕ) (name : List ℕ) (argument : Option (List ℕ)) (finds : Found) → Counts (Finds program file name argument) finds
    → Rests program marks file (Named name argument) → IsDefined program file (Named name argument)
name_defined program marks sound file name argument found.None counts rests = loose (λ d one. counts d one.0)
name_defined program marks sound file name argument (found.Many a b) counts rests = loose (λ d one. counts.2 (one.1 a counts.0 ∙ sym (one.1 b counts.1)))
name_defined program marks sound file name argument (found.One d) counts rests = one_defined program file name argument d counts (λ is. sound d (rests d counts is))

rests_defined : (program : List Entry) (marks : List DeclId) → ((d : DeclId) → Contains marks d → IsDefinedDecl program d) → (file : ℕ) (base : Base) → Rests program marks file base → IsDefined program file base
rests_defined program marks sound file (Named name argument) rests = let a = names_have_answers program file name argument in name_defined program marks sound file name argument a.0 a.1 rests
rests_defined program marks sound file (Unique' at nullable inner after place) rests = inside (rests_defined program marks sound file inner rests)

step_defined : (program : List Entry) (marks : List DeclId) → ((d : DeclId) → Contains marks d → IsDefinedDecl program d) → (d : DeclId) → Step program marks d → IsDefinedDecl program d
step_defined program marks sound (decl.Struct file place) step =
    let s = some_and (struct_of program file place) (λ s. (field : Param) → Contains s.fields field → Rests program marks file field.spec.base) step in
    and_some (struct_of program file place) (IsDefinedStruct program file) s.0 s.1 (λ field c. rests_defined program marks sound file field.spec.base (s.2 field c))
step_defined program marks sound (decl.Union file place) step =
    let u = some_and (union_of program file place) (λ u. Any (λ component. Rests program marks file component.base) u.components) step in
    let c = u.2 in
    and_some (union_of program file place) (IsDefinedUnion program file) u.0 u.1 (c.1, (c.0, c.2, c.3), rests_defined program marks sound file c.1.base c.4)
step_defined program marks sound _ step = absurd step

-- What is defined, by closed marks

-- a struct or union that exists has a full name
named : {X : Type 0} (inner : Entry → Option X) (full_of : X → List ℕ) (o : Option Entry) (x : X) → option_and_then inner o ≡ Some x → option_and_then (λ e. option_map full_of (inner e)) o ≡ Some (full_of x)
named inner full_of o x e = option_and_then_some inner o x e (λ entry here there. ap (option_and_then (λ e. option_map full_of (inner e))) here ∙ ap (option_map full_of) there)

struct_declared : (program : List Entry) (file place : ℕ) (s : StructDecl) → struct_of program file place ≡ Some s → Contains (decls program) (decl.Struct file place)
struct_declared program file place s at =
    contains_map (λ (x : DeclId × List ℕ). x.0) (declared_from 0 program) (decl.Struct file place, s.full)
    (all_declared program file (decl.Struct file place) s.full (refl, named (λ (e : Entry). slice_get e.unit.structs place) (λ (s : StructDecl). s.full) (slice_get program file) s at))

union_declared : (program : List Entry) (file place : ℕ) (u : UnionDecl) → union_of program file place ≡ Some u → Contains (decls program) (decl.Union file place)
union_declared program file place u at =
    contains_map (λ (x : DeclId × List ℕ). x.0) (declared_from 0 program) (decl.Union file place, u.full)
    (all_declared program file (decl.Union file place) u.full (refl, named (λ (e : Entry). slice_get e.unit.unions place) (λ (u : UnionDecl). u.full) (slice_get program file) u at))

module _ (program : List Entry) (marks : List DeclId) (closed : (d : DeclId) → Contains (decls program) d → Step program marks d → Contains marks d) where
  defined_rests : {file : ℕ} {base : Base} → IsDefined program file base → Rests program marks file base
  defined_rests (loose none) = λ d one c. absurd (none d one)
  defined_rests (atom d one not) = λ e two c. absurd (not (subst IsCompound (one.1 e two.0) c))
  defined_rests (struct other place s one of fields) = λ e two c.
      subst (Contains marks) (sym (one.1 e two.0))
      (closed (decl.Struct other place) (struct_declared program other place s of)
      (and_some (struct_of program other place) (λ s. (field : Param) → Contains s.fields field → Rests program marks other field.spec.base) s of (λ field k. defined_rests (fields field k))))
  defined_rests (union other place u component one of k defined) = λ e two c.
      subst (Contains marks) (sym (one.1 e two.0))
      (closed (decl.Union other place) (union_declared program other place u of)
      (and_some (union_of program other place) (λ u. Any (λ component. Rests program marks other component.base) u.components) u of (k.0, component, k.1, k.2, defined_rests defined)))
  defined_rests (inside defined) = defined_rests defined

pub types_are_decided : TypesAreDecided
types_are_decided program file base =
    let end = closed_marks (decls program) (IsDefinedDecl program) (Step program) (step_or_not program) (step_defined program) in
    like_or_not (rests_defined program end.0 end.1.sound file base) (λ h. defined_rests program end.0 end.1.closed h) (rests_or_not program end.0 file base)
