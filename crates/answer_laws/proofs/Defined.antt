-- The same types are defined in programs that are alike.
use Rattle.std.proofs.Common.{◌≡◌, ◌⊎◌, inl, inr, ℕ, List, sym, subst}
use Rattle.std.specs.List.{Any}
use Rattle.ipdl_base.specs.declared.finding.Place.{Place}
use Rattle.ipdl_syntax.specs.declared.program.Entry.{Entry}
use Rattle.ipdl_syntax.specs.declared.tree.Base.{Base, Named, Unique'}
use Rattle.ipdl_syntax.specs.declared.tree.StructDecl.{StructDecl}
use Rattle.ipdl_syntax.specs.declared.tree.UnionDecl.{UnionDecl}
use Rattle.grammar_laws.specs.Boxes.{unboxed_base, unboxed_type, unboxed_param, unboxed_struct, unboxed_union}
use Rattle.name_table.specs.declared.decl.DeclId.TheVariants.{Struct, Union}
use Rattle.name_table.specs.Decls.{struct_of, union_of}
use Rattle.type_rules.specs.Defined.{IsDefined, loose, atom, struct, union, inside, IsDefinedStruct, IsDefinedUnion, IsUndefinedType}
use Rattle.answer_laws.specs.Programs.{unboxed_entry, AreProgramsAlike}
use Rattle.answer_laws.proofs.Lists.{any_alike, at_alike, member_alike, some_alike}
use Rattle.answer_laws.proofs.Names.{one_alike, struct_alike, union_alike}
use Rattle.answer_laws.proofs.Written.{SameBase, same_named}

module _ (program other : List Entry) (alike : AreProgramsAlike program other) where
  defined : {file : ℕ} {b : Base} → IsDefined program file b → (c : Base) → SameBase b c → IsDefined other file c
  defined (loose {file = file} {name = name} {argument = argument} none) c same =
      subst (IsDefined other file) (sym (same_named name argument c same)) (loose (λ d finds. none d (one_alike other program (sym alike) file name argument d finds)))
  defined (atom {file = file} {name = name} {argument = argument} d finds not) c same =
      subst (IsDefined other file) (sym (same_named name argument c same)) (atom d (one_alike program other alike file name argument d finds) not)
  defined (struct {file = file} {name = name} {argument = argument} there place s finds at each) c same =
      let found = some_alike unboxed_struct (struct_of program there place) (struct_of other there place) (struct_alike program other alike there place) s at in
      subst (IsDefined other file) (sym (same_named name argument c same))
      (struct there place found.0 (one_alike program other alike file name argument (Struct there place) finds) found.1
      (λ field among.
      let from = member_alike unboxed_param (found.0).fields s.fields (λ i. (sym found.2 i).fields) field among in
      defined (each from.0 from.1) field.spec.base (λ i. (sym from.2 i).spec.base)))
  defined (union {file = file} {name = name} {argument = argument} there place u component finds at among is) c same =
      let found = some_alike unboxed_union (union_of program there place) (union_of other there place) (union_alike program other alike there place) u at in
      let from = member_alike unboxed_type u.components (found.0).components (λ i. (found.2 i).components) component among in
      subst (IsDefined other file) (sym (same_named name argument c same))
      (union there place found.0 from.0 (one_alike program other alike file name argument (Union there place) finds) found.1 from.1 (defined is (from.0).base (λ i. (from.2 i).base)))
  defined (inside is) (Named name argument) same = absurd (let no : ⊥ = cc in no)
  defined (inside {inner = inner} is) (Unique' at flag c after place) same =
      let held : unboxed_base inner ≡ unboxed_base c = cc in
      inside (defined is c held)

  defined_struct : (file : ℕ) (s t : StructDecl) → unboxed_struct s ≡ unboxed_struct t → IsDefinedStruct program file s → IsDefinedStruct other file t
  defined_struct file s t same each field among =
      let from = member_alike unboxed_param t.fields s.fields (λ i. (sym same i).fields) field among in
      defined (each from.0 from.1) field.spec.base (λ i. (sym from.2 i).spec.base)

  defined_union : (file : ℕ) (u v : UnionDecl) → unboxed_union u ≡ unboxed_union v → IsDefinedUnion program file u → IsDefinedUnion other file v
  defined_union file u v same one =
      let from = member_alike unboxed_type u.components v.components (λ i. (same i).components) one.0 one.1 in
      (from.0, from.1, defined one.2 (from.0).base (λ i. (from.2 i).base))

module _ (program other : List Entry) (alike : AreProgramsAlike program other) where
  pub undefined_type : (place : Place) → IsUndefinedType program place → IsUndefinedType other place
  undefined_type place broken =
      at_alike unboxed_entry
      (λ file e. Any (λ s. (¬ IsDefinedStruct program file s) × (s.place ≡ place)) e.unit.structs ⊎ Any (λ u. (¬ IsDefinedUnion program file u) × (u.place ≡ place)) e.unit.unions)
      (λ file e. Any (λ s. (¬ IsDefinedStruct other file s) × (s.place ≡ place)) e.unit.structs ⊎ Any (λ u. (¬ IsDefinedUnion other file u) × (u.place ≡ place)) e.unit.unions)
      (λ file x y same. elim [
        | inl some ↦ inl (any_alike unboxed_struct (λ s. (¬ IsDefinedStruct program file s) × (s.place ≡ place)) (λ s. (¬ IsDefinedStruct other file s) × (s.place ≡ place))
            (λ s t looks is. (λ each. is.0 (defined_struct other program (sym alike) file t s (sym looks) each), subst (λ (d : StructDecl). d.place ≡ place) looks is.1)) x.unit.structs y.unit.structs (λ i. (same i).unit.structs) some)
        | inr some ↦ inr (any_alike unboxed_union (λ u. (¬ IsDefinedUnion program file u) × (u.place ≡ place)) (λ u. (¬ IsDefinedUnion other file u) × (u.place ≡ place))
            (λ u v looks is. (λ one. is.0 (defined_union other program (sym alike) file v u (sym looks) one), subst (λ (d : UnionDecl). d.place ≡ place) looks is.1)) x.unit.unions y.unit.unions (λ i. (same i).unit.unions) some)
      ]) program other alike broken
