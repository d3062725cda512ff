-- Types that are written in programs that are alike, and the rules on them.
use Rattle.std.proofs.Common.{◌≡◌, inl, inr, ℕ, Bool, true, List, Option, map, sym, subst}
use Rattle.std.specs.List.{Any}
use Rattle.ipdl_base.specs.declared.finding.Place.{Place}
use Rattle.ipdl_syntax.specs.declared.program.Entry.{Entry}
use Rattle.ipdl_syntax.specs.declared.tree.Base.{Base, Named, Unique'}
use Rattle.ipdl_syntax.specs.declared.tree.MessageDecl.{MessageDecl}
use Rattle.ipdl_syntax.specs.declared.tree.Param.{Param}
use Rattle.ipdl_syntax.specs.declared.tree.TypeSpec.{TypeSpec}
use Rattle.ipdl_syntax.specs.declared.tree.Unit.{Unit as FileUnit}
use Rattle.grammar_laws.specs.Boxes.{unboxed_base, unboxed_type, unboxed_param, unboxed_struct, unboxed_union, unboxed}
use Rattle.type_rules.specs.Written.{OfType, SomeType}
use Rattle.type_rules.proofs.Places.{HoldsWithin, InType, InParams, InMessage, InUnit, some_in_file, file_of_some}
use Rattle.type_rules.specs.TypeNames.{IsUnknown, IsAmbiguous, IsNoActor, IsUnknownType, IsAmbiguousType, IsNullableNonActor}
use Rattle.answer_laws.specs.Programs.{unboxed_entry, AreProgramsAlike}
use Rattle.answer_laws.proofs.Lists.{any_alike, at_alike, option_alike}
use Rattle.answer_laws.proofs.Names.{none_alike, one_alike, two_alike}
use Rattle.answer_laws.proofs.Protocols.{SameMessage, any_message_alike, held_alike, returns_alike}

-- bases that are the same up to boxes
abbrev pub SameBase : Base → Base → Type 0
SameBase b c = unboxed_base b ≡ unboxed_base c

-- a name has no box
pub same_named : (name : List ℕ) (argument : Option (List ℕ)) (c : Base) → SameBase (Named name argument) c → c ≡ Named name argument
same_named name argument (Named other inner) same = sym same
same_named name argument (Unique' at nullable inner after place) same = cc

-- Types

-- a property of a base holds of one that is the same up to boxes
abbrev Passes : OfType → OfType → Type 0
Passes P Q = (nullable : Bool) (b c : Base) (place : Place) → SameBase b c → P nullable b place → Q nullable c place

module _ (P Q : OfType) (passes : Passes P Q) where
  within : (nullable : Bool) (b c : Base) (place : Place) → SameBase b c → HoldsWithin P nullable b place → HoldsWithin Q nullable c place
  within nullable (Named name argument) (Named other inner) place same holds = passes nullable (Named name argument) (Named other inner) place same holds
  within nullable (Named name argument) (Unique' at flag c after there) place same holds = absurd (let no : ⊥ = cc in no)
  within nullable (Unique' at flag b after there) (Named other inner) place same holds = absurd (let no : ⊥ = cc in no)
  within nullable (Unique' at flag b after there) (Unique' at' flag' c after' there') place same (inl holds) = inl (passes nullable (Unique' at flag b after there) (Unique' at' flag' c after' there') place same holds)
  within nullable (Unique' at flag b after there) (Unique' at' flag' c after' there') place same (inr holds) =
      let flags : flag ≡ flag' = cc in
      let inside : unboxed_base b ≡ unboxed_base c = cc in
      let places : there ≡ there' = cc in
      inr (subst (λ f. HoldsWithin Q f c there') flags (subst (λ p. HoldsWithin Q flag c p) places (within flag b c there inside holds)))

  in_type : (s t : TypeSpec) → unboxed_type s ≡ unboxed_type t → InType P s → InType Q t
  in_type s t same holds = subst (λ (x : TypeSpec). HoldsWithin Q x.nullable t.base x.place) same (within s.nullable s.base t.base s.place (λ i. (same i).base) holds)

  in_params : (ps qs : List Param) → map unboxed_param ps ≡ map unboxed_param qs → InParams P ps → InParams Q qs
  in_params ps qs same holds = any_alike unboxed_param (λ p. InType P p.spec) (λ p. InType Q p.spec) (λ p q as' is. in_type p.spec q.spec (λ i. (as' i).spec) is) ps qs same holds

  in_message : (m n : MessageDecl) → SameMessage m n → InMessage P m → InMessage Q n
  in_message m n same (inl holds) = inl (in_params m.params n.params (λ i. (same i).params) holds)
  in_message m n same (inr holds) = inr (option_alike (map unboxed_param) (InParams P) (InParams Q) in_params m.returns n.returns (returns_alike m n same) holds)

  in_unit : (u v : FileUnit) → unboxed u ≡ unboxed v → InUnit P u → InUnit Q v
  in_unit u v same (inl holds) =
      inl (any_alike unboxed_struct (λ s. InParams P s.fields) (λ s. InParams Q s.fields) (λ s t as' is. in_params s.fields t.fields (λ i. (as' i).fields) is) u.structs v.structs (λ i. (same i).structs) holds)
  in_unit u v same (inr (inl holds)) =
      inr (inl (any_alike unboxed_union (λ s. Any (InType P) s.components) (λ s. Any (InType Q) s.components)
      (λ s t as' is. any_alike unboxed_type (InType P) (InType Q) in_type s.components t.components (λ i. (as' i).components) is) u.unions v.unions (λ i. (same i).unions) holds))
  in_unit u v same (inr (inr holds)) =
      inr (inr (held_alike (λ p. Any (InMessage P) p.messages) (λ p. Any (InMessage Q) p.messages) (λ p q as' is. any_message_alike (InMessage P) (InMessage Q) in_message p q as' is) u.protocol v.protocol (λ i. (same i).protocol) holds))

some_type : (P Q : ℕ → OfType) → ((file : ℕ) → Passes (P file) (Q file)) → (program other : List Entry) → AreProgramsAlike program other → SomeType P program → SomeType Q other
some_type P Q passes program other alike holds =
    some_in_file Q other
    (at_alike unboxed_entry (λ file e. InUnit (P file) e.unit) (λ file e. InUnit (Q file) e.unit) (λ file x y same is. in_unit (P file) (Q file) (passes file) x.unit y.unit (λ i. (same i).unit) is) program other alike
    (file_of_some P program holds))

-- The rules

module _ (program other : List Entry) (alike : AreProgramsAlike program other) where
  unknown : (file : ℕ) (b c : Base) → SameBase b c → IsUnknown program file b → IsUnknown other file c
  unknown file (Named name argument) c same is = subst (IsUnknown other file) (sym (same_named name argument c same)) (none_alike program other alike file name argument is)
  unknown file (Unique' at flag b after there) c same is = elim is [ ]

  ambiguous : (file : ℕ) (b c : Base) → SameBase b c → IsAmbiguous program file b → IsAmbiguous other file c
  ambiguous file (Named name argument) c same is = subst (IsAmbiguous other file) (sym (same_named name argument c same)) (two_alike program other alike file name argument is)
  ambiguous file (Unique' at flag b after there) c same is = elim is [ ]

  no_actor : (file : ℕ) (b c : Base) → SameBase b c → IsNoActor program file b → IsNoActor other file c
  no_actor file (Named name argument) c same is = subst (IsNoActor other file) (sym (same_named name argument c same)) (is.0, one_alike program other alike file name argument is.0 is.1, is.2)
  no_actor file (Unique' at flag b after there) (Named other' inner) same is = absurd (let no : ⊥ = cc in no)
  no_actor file (Unique' at flag b after there) (Unique' at' flag' c after' there') same is = tt

  pub unknown_type : (place : Place) → IsUnknownType program place → IsUnknownType other place
  unknown_type place broken =
      some_type (λ file nullable base here. IsUnknown program file base × (here ≡ place)) (λ file nullable base here. IsUnknown other file base × (here ≡ place))
      (λ file nullable b c here same is. (unknown file b c same is.0, is.1)) program other alike broken

  pub ambiguous_type : (place : Place) → IsAmbiguousType program place → IsAmbiguousType other place
  ambiguous_type place broken =
      some_type (λ file nullable base here. IsAmbiguous program file base × (here ≡ place)) (λ file nullable base here. IsAmbiguous other file base × (here ≡ place))
      (λ file nullable b c here same is. (ambiguous file b c same is.0, is.1)) program other alike broken

  pub nullable_non_actor : (place : Place) → IsNullableNonActor program place → IsNullableNonActor other place
  nullable_non_actor place broken =
      some_type (λ file nullable base here. (nullable ≡ true) × IsNoActor program file base × (here ≡ place)) (λ file nullable base here. (nullable ≡ true) × IsNoActor other file base × (here ≡ place))
      (λ file nullable b c here same is. (is.0, no_actor file b c same is.1, is.2)) program other alike broken
