-- Programs that are alike break the same rules on names of declarations, names of fields, and attributes.
use Rattle.std.proofs.Common.{◌≡◌, ◌⊎◌, ◌∙◌, List, [], ◌∷◌, ◌++◌, Option, Some, None, option_map, unwrap_or, false, true, map, refl, sym, subst}
use Rattle.std.proofs.lemmas.Option.{same_Some}
use Rattle.std.specs.List.{Any}
use Rattle.ipdl_base.specs.declared.finding.Place.{Place}
use Rattle.ipdl_syntax.specs.declared.program.Entry.{Entry}
use Rattle.ipdl_syntax.specs.declared.tree.MessageDecl.{MessageDecl}
use Rattle.ipdl_syntax.specs.declared.tree.Param.{Param}
use Rattle.ipdl_syntax.specs.declared.tree.ProtocolDecl.{ProtocolDecl}
use Rattle.ipdl_syntax.specs.declared.tree.StructDecl.{StructDecl}
use Rattle.ipdl_syntax.specs.declared.tree.UnionDecl.{UnionDecl}
use Rattle.ipdl_syntax.specs.declared.tree.Unit.{Unit as FileUnit}
use Rattle.ipdl_syntax.specs.declared.tree.Using.{Using}
use Rattle.grammar_laws.specs.Boxes.{unboxed_param, unboxed_message, unboxed_protocol, unboxed_struct, unboxed_union, unboxed_held, unboxed}
use Rattle.findings.specs.Repeats.{IsRepeatedAt}
use Rattle.type_rules.specs.Declarations.{Declaration, of_protocol, declarations, Repeats, TakesTypeWord, IsRepeatedDeclaration, IsRepeatedField}
use Rattle.type_rules.specs.Attributes.{HasRepeat, HasUnlisted, IsBadAttribute}
use Rattle.written_parts.specs.Attributes.{AttributesOf, borne_by, lists_of_params, lists_of_message, lists_of_protocol, lists_of_unit}
use Rattle.written_parts.specs.declared.attributes.Bearer.TheVariants as bearer
use Rattle.answer_laws.specs.Programs.{unboxed_entry, AreProgramsAlike}
use Rattle.answer_laws.proofs.Lists.{any_alike, flat_alike, map_alike}
use Rattle.answer_laws.proofs.Names.{held_is}
use Rattle.answer_laws.proofs.Protocols.{SameProtocol, SameMessage, returns_alike}

-- Declarations

of_struct : StructDecl → Declaration
of_struct s = record { full = s.full; place = s.place; is_using = false }

of_union : UnionDecl → Declaration
of_union u = record { full = u.full; place = u.place; is_using = false }

held_declared : (held : Option ProtocolDecl) → of_protocol (unboxed_held held) ≡ of_protocol held
held_declared None = refl
held_declared (Some p) = refl

declared_alike : (u v : FileUnit) → unboxed u ≡ unboxed v → declarations u ≡ declarations v
unfolding of_struct of_union
declared_alike u v same =
    let structs : map of_struct u.structs ≡ map of_struct v.structs = map_alike unboxed_struct of_struct (λ s. refl) u.structs v.structs (λ i. (same i).structs) in
    let unions : map of_union u.unions ≡ map of_union v.unions = map_alike unboxed_union of_union (λ s. refl) u.unions v.unions (λ i. (same i).unions) in
    let held : of_protocol u.protocol ≡ of_protocol v.protocol = sym (held_declared u.protocol) ∙ (λ i. of_protocol (same i).protocol) ∙ held_declared v.protocol in
    λ i. map (λ s. record { full = s.full; place = s.place; is_using = true }) (same i).usings ++ (structs i ++ (unions i ++ held i))

module _ (program other : List Entry) (alike : AreProgramsAlike program other) (place : Place) where
  pub repeated_declaration : IsRepeatedDeclaration program place → IsRepeatedDeclaration other place
  repeated_declaration broken =
      any_alike unboxed_entry
      (λ e. Any (λ d. (Any (λ earlier. Repeats earlier d) (declarations e.unit) ⊎ TakesTypeWord d) × (d.place ≡ place)) (declarations e.unit)) (λ e. Any (λ d. (Any (λ earlier. Repeats earlier d) (declarations e.unit) ⊎ TakesTypeWord d) × (d.place ≡ place)) (declarations e.unit))
      (λ x y same is. subst (λ ds. Any (λ d. (Any (λ earlier. Repeats earlier d) ds ⊎ TakesTypeWord d) × (d.place ≡ place)) ds) (declared_alike x.unit y.unit (λ i. (same i).unit)) is) program other alike broken

  pub repeated_field : IsRepeatedField program place → IsRepeatedField other place
  repeated_field broken =
      any_alike unboxed_entry (λ e. Any (λ s. IsRepeatedAt (map (λ f. (f.name, f.place)) s.fields) place) e.unit.structs) (λ e. Any (λ s. IsRepeatedAt (map (λ f. (f.name, f.place)) s.fields) place) e.unit.structs)
      (λ x y same is. any_alike unboxed_struct (λ s. IsRepeatedAt (map (λ f. (f.name, f.place)) s.fields) place) (λ s. IsRepeatedAt (map (λ f. (f.name, f.place)) s.fields) place)
      (λ s t looks repeated. subst (λ names. IsRepeatedAt names place) (map_alike unboxed_param (λ (f : Param). (f.name, f.place)) (λ f. refl) s.fields t.fields (λ i. (looks i).fields)) repeated)
      x.unit.structs y.unit.structs (λ i. (same i).unit.structs) is) program other alike broken

-- Attributes

of_params : (ps qs : List Param) → map unboxed_param ps ≡ map unboxed_param qs → lists_of_params ps ≡ lists_of_params qs
of_params ps qs same = map_alike unboxed_param (λ (p : Param). borne_by bearer.Parameter p.attributes) (λ p. refl) ps qs same

of_returns : (a b : Option (List Param)) → option_map (map unboxed_param) a ≡ option_map (map unboxed_param) b → lists_of_params (unwrap_or a []) ≡ lists_of_params (unwrap_or b [])
of_returns None None same = refl
of_returns None (Some qs) same = absurd (let no : ⊥ = cc in no)
of_returns (Some ps) None same = absurd (let no : ⊥ = cc in no)
of_returns (Some ps) (Some qs) same = of_params ps qs (same_Some (map unboxed_param ps) (map unboxed_param qs) same)

of_message : (m n : MessageDecl) → SameMessage m n → lists_of_message m ≡ lists_of_message n
of_message m n same =
    let params = of_params m.params n.params (λ i. (same i).params) in
    let returns = of_returns m.returns n.returns (returns_alike m n same) in
    λ i. borne_by bearer.Message (same i).attributes ∷ (params i ++ returns i)

of_held : (a b : Option ProtocolDecl) → option_map unboxed_protocol a ≡ option_map unboxed_protocol b → lists_of_protocol a ≡ lists_of_protocol b
of_held None None same = refl
of_held None (Some q) same = absurd (let no : ⊥ = cc in no)
of_held (Some p) None same = absurd (let no : ⊥ = cc in no)
of_held (Some p) (Some q) same =
    let protocols : SameProtocol p q = same_Some (unboxed_protocol p) (unboxed_protocol q) same in
    let messages = flat_alike unboxed_message lists_of_message of_message p.messages q.messages (λ i. (protocols i).messages) in
    λ i. borne_by bearer.Protocol (protocols i).attributes ∷ messages i

of_unit : (u v : FileUnit) → unboxed u ≡ unboxed v → lists_of_unit u ≡ lists_of_unit v
of_unit u v same =
    let structs = map_alike unboxed_struct (λ (s : StructDecl). borne_by bearer.Struct s.attributes) (λ s. refl) u.structs v.structs (λ i. (same i).structs) in
    let unions = map_alike unboxed_union (λ (s : UnionDecl). borne_by bearer.Union s.attributes) (λ s. refl) u.unions v.unions (λ i. (same i).unions) in
    let held = of_held u.protocol v.protocol (sym (held_is u.protocol) ∙ (λ i. (same i).protocol) ∙ held_is v.protocol) in
    λ i. map (λ (s : Using). borne_by bearer.Using s.attributes) (same i).usings ++ (structs i ++ (unions i ++ held i))

pub bad_attribute : (program other : List Entry) → AreProgramsAlike program other → (place : Place) → IsBadAttribute program place → IsBadAttribute other place
bad_attribute program other alike place broken =
    let lists = flat_alike unboxed_entry (λ (e : Entry). lists_of_unit e.unit) (λ x y same. of_unit x.unit y.unit (λ i. (same i).unit)) program other alike in
    subst (λ (ls : List AttributesOf). Any (λ l. HasRepeat place l.attributes ⊎ HasUnlisted place l.bearer l.attributes) ls) lists broken
