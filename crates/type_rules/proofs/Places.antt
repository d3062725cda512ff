-- Where a type may be in the trees of a program: a property of a type that is written holds of one in such a place,
-- and the other way round.
use Rattle.std.proofs.Common.{◌≡◌, ℕ, ◌+◌, Bool, List, [], ◌++◌, Option, Some, None, ◌⊎◌, inl, inr, subst, unwrap_or, arith}
use Rattle.std.specs.Prelude.{IsSomeAnd}
use Rattle.std.specs.List.{Any, enumerate_from, flat_map}
use Rattle.ipdl_base.specs.declared.finding.Place.{Place}
use Rattle.ipdl_syntax.specs.declared.program.Entry.{Entry}
use Rattle.ipdl_syntax.specs.declared.tree.Base.{Base, Named, Unique'}
use Rattle.ipdl_syntax.specs.declared.tree.MessageDecl.{MessageDecl}
use Rattle.ipdl_syntax.specs.declared.tree.Param.{Param}
use Rattle.ipdl_syntax.specs.declared.tree.ProtocolDecl.{ProtocolDecl}
use Rattle.ipdl_syntax.specs.declared.tree.StructDecl.{StructDecl}
use Rattle.ipdl_syntax.specs.declared.tree.TypeSpec.{TypeSpec}
use Rattle.ipdl_syntax.specs.declared.tree.UnionDecl.{UnionDecl}
use Rattle.ipdl_syntax.specs.declared.tree.Unit.{Unit as FileUnit}
use Rattle.findings.specs.Gains.{AtSome}
use Rattle.findings.proofs.Elements.{any_left}
use Rattle.written_parts.specs.Types.{TypeInFile, types_inside, types_within, types_of_params, types_of_components, types_of_message, types_of_protocol, types_of_unit}
use Rattle.type_rules.specs.Written.{OfType, SomeType}
use Rattle.type_rules.proofs.Lists.{any_nothing, any_first, any_rest, any_parts, any_either, any_right, any_like, any_joined, any_apart, any_numbered, any_with_number}

-- this holds of a type, or of one inside its UniquePtr
abbrev pub HoldsWithin : OfType → Bool → Base → Place → Type 0
HoldsWithin Holds nullable (Named name argument) place = Holds nullable (Named name argument) place
HoldsWithin Holds nullable (Unique' at inner_nullable inner after inner_place) place =
    Holds nullable (Unique' at inner_nullable inner after inner_place) place ⊎ HoldsWithin Holds inner_nullable inner inner_place

-- of a type as a tree has it
abbrev pub InType : OfType → TypeSpec → Type 0
InType Holds spec = HoldsWithin Holds spec.nullable spec.base spec.place

-- of a type of these parameters, returns or fields
abbrev pub InParams : OfType → List Param → Type 0
InParams Holds params = Any (λ p. InType Holds p.spec) params

-- of a type of a message
abbrev pub InMessage : OfType → MessageDecl → Type 0
InMessage Holds m = InParams Holds m.params ⊎ IsSomeAnd m.returns (InParams Holds)

-- of a type of a file
abbrev pub InUnit : OfType → FileUnit → Type 0
InUnit Holds unit =
    Any (λ s. InParams Holds s.fields) unit.structs
    ⊎ (Any (λ u. Any (InType Holds) u.components) unit.unions ⊎ IsSomeAnd unit.protocol (λ p. Any (InMessage Holds) p.messages))

-- of a type of the list
abbrev Told : (ℕ → OfType) → TypeInFile → Type 0
Told Holds w = Holds w.file w.spec.nullable w.spec.base w.spec.place

module _ (Holds : ℕ → OfType) (file : ℕ) where
  -- From places to the list

  to_within : (nullable : Bool) (base : Base) (suffixes : _) (place : Place) → HoldsWithin (Holds file) nullable base place → Any (Told Holds) (types_within file (record { nullable = nullable; base = base; suffixes = suffixes; place = place }))
  to_within nullable (Named name argument) suffixes place h = any_first (Told Holds) _ [] h
  to_within nullable (Unique' at flag inner after there) suffixes place (inl h) = any_first (Told Holds) _ (types_inside file (Unique' at flag inner after there)) h
  to_within nullable (Unique' at flag inner after there) suffixes place (inr h) = any_rest (Told Holds) _ (types_within file (record { nullable = flag; base = inner; suffixes = after; place = there })) (to_within flag inner after there h)

  to_type : (spec : TypeSpec) → InType (Holds file) spec → Any (Told Holds) (types_within file spec)
  to_type spec h = to_within spec.nullable spec.base spec.suffixes spec.place h

  to_params : (params : List Param) → InParams (Holds file) params → Any (Told Holds) (types_of_params file params)
  to_params params h = any_joined (Told Holds) (λ (p : Param). types_within file p.spec) params (any_like (λ (p : Param). InType (Holds file) p.spec) (λ p. Any (Told Holds) (types_within file p.spec)) params (λ p. to_type p.spec) h)

  to_returns : (returns : Option (List Param)) → IsSomeAnd returns (InParams (Holds file)) → Any (Told Holds) (types_of_params file (unwrap_or returns []))
  to_returns None h = absurd h
  to_returns (Some params) h = to_params params h

  to_message : (m : MessageDecl) → InMessage (Holds file) m → Any (Told Holds) (types_of_message file m)
  to_message m (inl h) = any_left (Told Holds) (types_of_params file m.params) (types_of_params file (unwrap_or m.returns [])) (to_params m.params h)
  to_message m (inr h) = any_right (Told Holds) (types_of_params file m.params) (types_of_params file (unwrap_or m.returns [])) (to_returns m.returns h)

  to_protocol : (held : Option ProtocolDecl) → IsSomeAnd held (λ p. Any (InMessage (Holds file)) p.messages) → Any (Told Holds) (types_of_protocol file held)
  to_protocol None h = absurd h
  to_protocol (Some p) h = any_joined (Told Holds) (types_of_message file) p.messages (any_like (InMessage (Holds file)) (λ m. Any (Told Holds) (types_of_message file m)) p.messages to_message h)

  of_structs : List StructDecl → List TypeInFile
  of_structs structs = flat_map (λ s. types_of_params file s.fields) structs

  of_unions : List UnionDecl → List TypeInFile
  of_unions unions = flat_map (λ u. types_of_components file u.components) unions

  to_components : (u : UnionDecl) → Any (InType (Holds file)) u.components → Any (Told Holds) (types_of_components file u.components)
  to_components u h = any_joined (Told Holds) (types_within file) u.components (any_like (InType (Holds file)) (λ spec. Any (Told Holds) (types_within file spec)) u.components to_type h)

  to_unit : (unit : FileUnit) → InUnit (Holds file) unit → Any (Told Holds) (types_of_unit file unit)
  unfolding of_structs of_unions
  to_unit unit (inl h) =
      any_left (Told Holds) (of_structs unit.structs) (of_unions unit.unions ++ types_of_protocol file unit.protocol)
      (any_joined (Told Holds) (λ (s : StructDecl). types_of_params file s.fields) unit.structs (any_like (λ (s : StructDecl). InParams (Holds file) s.fields) (λ s. Any (Told Holds) (types_of_params file s.fields)) unit.structs (λ s. to_params s.fields) h))
  to_unit unit (inr (inl h)) =
      any_right (Told Holds) (of_structs unit.structs) (of_unions unit.unions ++ types_of_protocol file unit.protocol)
      (any_left (Told Holds) (of_unions unit.unions) (types_of_protocol file unit.protocol)
      (any_joined (Told Holds) (λ (u : UnionDecl). types_of_components file u.components) unit.unions (any_like (λ (u : UnionDecl). Any (InType (Holds file)) u.components) (λ u. Any (Told Holds) (types_of_components file u.components)) unit.unions to_components h)))
  to_unit unit (inr (inr h)) =
      any_right (Told Holds) (of_structs unit.structs) (of_unions unit.unions ++ types_of_protocol file unit.protocol)
      (any_right (Told Holds) (of_unions unit.unions) (types_of_protocol file unit.protocol) (to_protocol unit.protocol h))

  -- From the list to places

  from_within : (nullable : Bool) (base : Base) (suffixes : _) (place : Place) → Any (Told Holds) (types_within file (record { nullable = nullable; base = base; suffixes = suffixes; place = place })) → HoldsWithin (Holds file) nullable base place
  from_within nullable (Named name argument) suffixes place h = elim (any_parts (Told Holds) _ [] h) [ inl p ↦ p | inr none ↦ absurd (any_nothing (Told Holds) none) ]
  from_within nullable (Unique' at flag inner after there) suffixes place h = elim (any_parts (Told Holds) _ (types_inside file (Unique' at flag inner after there)) h) [ inl p ↦ inl p | inr more ↦ inr (from_within flag inner after there more) ]

  from_type : (spec : TypeSpec) → Any (Told Holds) (types_within file spec) → InType (Holds file) spec
  from_type spec h = from_within spec.nullable spec.base spec.suffixes spec.place h

  from_params : (params : List Param) → Any (Told Holds) (types_of_params file params) → InParams (Holds file) params
  from_params params h = any_like (λ (p : Param). Any (Told Holds) (types_within file p.spec)) (λ p. InType (Holds file) p.spec) params (λ p. from_type p.spec) (any_apart (Told Holds) (λ (p : Param). types_within file p.spec) params h)

  from_returns : (returns : Option (List Param)) → Any (Told Holds) (types_of_params file (unwrap_or returns [])) → IsSomeAnd returns (InParams (Holds file))
  from_returns None h = absurd (any_nothing (Told Holds) h)
  from_returns (Some params) h = from_params params h

  from_message : (m : MessageDecl) → Any (Told Holds) (types_of_message file m) → InMessage (Holds file) m
  from_message m h = elim (any_either (Told Holds) (types_of_params file m.params) (types_of_params file (unwrap_or m.returns [])) h) [ inl p ↦ inl (from_params m.params p) | inr r ↦ inr (from_returns m.returns r) ]

  from_protocol : (held : Option ProtocolDecl) → Any (Told Holds) (types_of_protocol file held) → IsSomeAnd held (λ p. Any (InMessage (Holds file)) p.messages)
  from_protocol None h = absurd (any_nothing (Told Holds) h)
  from_protocol (Some p) h = any_like (λ m. Any (Told Holds) (types_of_message file m)) (InMessage (Holds file)) p.messages from_message (any_apart (Told Holds) (types_of_message file) p.messages h)

  from_components : (u : UnionDecl) → Any (Told Holds) (types_of_components file u.components) → Any (InType (Holds file)) u.components
  from_components u h = any_like (λ spec. Any (Told Holds) (types_within file spec)) (InType (Holds file)) u.components from_type (any_apart (Told Holds) (types_within file) u.components h)

  from_unit : (unit : FileUnit) → Any (Told Holds) (types_of_unit file unit) → InUnit (Holds file) unit
  unfolding of_structs of_unions
  from_unit unit h = elim (any_either (Told Holds) (of_structs unit.structs) (of_unions unit.unions ++ types_of_protocol file unit.protocol) h) [
    | inl s ↦ inl (any_like (λ (s : StructDecl). Any (Told Holds) (types_of_params file s.fields)) (λ s. InParams (Holds file) s.fields) unit.structs (λ s. from_params s.fields) (any_apart (Told Holds) (λ (s : StructDecl). types_of_params file s.fields) unit.structs s))
    | inr more ↦ elim (any_either (Told Holds) (of_unions unit.unions) (types_of_protocol file unit.protocol) more) [
      | inl u ↦ inr (inl (any_like (λ (u : UnionDecl). Any (Told Holds) (types_of_components file u.components)) (λ u. Any (InType (Holds file)) u.components) unit.unions from_components (any_apart (Told Holds) (λ (u : UnionDecl). types_of_components file u.components) unit.unions u)))
      | inr p ↦ inr (inr (from_protocol unit.protocol p))
    ]
  ]

abbrev of_file : ℕ × Entry → List TypeInFile
of_file e = types_of_unit e.0 e.1.unit

-- a type in a file of the program
pub some_in_file : (Holds : ℕ → OfType) (program : List Entry) → AtSome (λ file e. InUnit (Holds file) e.unit) program → SomeType Holds program
some_in_file Holds program (file, e, at, h) =
    let P : ℕ × Entry → Type 0 = λ x. Any (Told Holds) (of_file x) in
    let number : file ≡ 0 + file = omega arith in
    let Q : ℕ → Type 0 = λ n. P (n, e) in
    any_joined (Told Holds) of_file (enumerate_from 0 program) (any_numbered P 0 program file e at (subst Q number (to_unit Holds file e.unit h)))

pub file_of_some : (Holds : ℕ → OfType) (program : List Entry) → SomeType Holds program → AtSome (λ file e. InUnit (Holds file) e.unit) program
file_of_some Holds program h =
    let P : ℕ × Entry → Type 0 = λ x. Any (Told Holds) (of_file x) in
    let t = any_with_number P 0 program (any_apart (Told Holds) of_file (enumerate_from 0 program) h) in
    let number : 0 + t.0 ≡ t.0 = omega arith in
    let Q : ℕ → Type 0 = λ n. P (n, t.1) in
    (t.0, t.1, t.2, from_unit Holds t.0 t.1.unit (subst Q number t.3))
