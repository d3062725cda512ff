-- The claims of declarations that are read from tokens with that claim.
use Rattle.std.proofs.Common.{ℕ, List, [], ◌∷◌, sym, subst}
use Rattle.std.specs.List.{AllByRecursion, flat_map}
use Rattle.ipdl_base.specs.declared.finding.Place.{Place}
use Rattle.ipdl_base.specs.declared.kinds.Semantics.{Semantics}
use Rattle.ipdl_base.specs.declared.kinds.Semantics.TheVariants.{Async, Sync}
use Rattle.ipdl_syntax.specs.declared.tree.Include.{Include}
use Rattle.ipdl_syntax.specs.declared.tree.IncludeKind.{IncludeKind}
use Rattle.ipdl_syntax.specs.declared.tree.IncludeKind.TheVariants as include_kind
use Rattle.ipdl_syntax.specs.declared.tree.NameAt.{NameAt}
use Rattle.ipdl_syntax.specs.declared.tree.Param.{Param}
use Rattle.ipdl_syntax.specs.declared.tree.ProtocolDecl.{ProtocolDecl}
use Rattle.ipdl_syntax.specs.declared.tree.StructDecl.{StructDecl}
use Rattle.ipdl_syntax.specs.declared.tree.TypeSpec.{TypeSpec}
use Rattle.ipdl_syntax.specs.declared.tree.UnionDecl.{UnionDecl}
use Rattle.ipdl_syntax.specs.declared.tree.Using.{Using}
use Rattle.ipdl_syntax.specs.Parts.{quoted, identifier}
use Rattle.ipdl_syntax.specs.Grammar.{MessageSection, section, sections, Management, managed_by, manages, more_managers, management, managements, managers_of, managed_of, protocol_semantics, protocol, field, fields, struct_decl, components, union_decl, foreign_name, using_decl, included, include}
use Rattle.ipdl_syntax.specs.Units.{IsIn}
use Rattle.grammar_laws.proofs.Claims.{Claim, of_words, of_places, Good, OfWord, OfName, OfPlace, OfAttributes, OfType, OfParam, OfMessage, OfNameAt, OfProtocol, OfStruct, OfUnion, OfUsing, OfIncluded, OfInclude}
use Rattle.grammar_laws.proofs.ClaimedForms.{identifier_tells, at_tells, named_tells, declared_tells, attributes_tell, type_tells, param_told, messages_tell}
use Rattle.grammar_laws.proofs.Protocols.{built_of}
use Rattle.grammar_laws.proofs.Tells.{Tells, tells_more, nothing_tells, token_tells, mark_tells, reserved_tells, both_tell, first_tells, next_tells, provided_tells, either_tells, both_all}

-- Protocols

-- a section
section_tells : (c : Claim) (s : MessageSection) → Tells (Good c) (section s) (AllByRecursion (OfMessage c) s.messages)
section_tells c s = next_tells reserved_tells (next_tells mark_tells (messages_tell c s.direction s.messages))

-- sections
sections_tell : (c : Claim) (all : List MessageSection) → Tells (Good c) (sections all) (AllByRecursion (OfMessage c) (flat_map (λ s. s.messages) all))
sections_tell c [] = nothing_tells tt
sections_tell c (s ∷ rest) =
    tells_more (λ e. both_all (OfMessage c) s.messages (flat_map (λ s. s.messages) rest) e.0 e.1) (both_tell (section_tells c s) (sections_tell c rest))

-- what a name at its place claims
name_told : (c : Claim) (n : NameAt) → OfWord c n.name × OfPlace c n.place → OfNameAt c n
name_told of_words n e = e.0
name_told (of_places k) n e = e.1

-- a name at its place
name_tells : (c : Claim) (n : NameAt) → Tells (Good c) (identifier n.name n.place) (OfNameAt c n)
name_tells c n = tells_more (name_told c n) (identifier_tells c)

-- further managers
managers_tell : (c : Claim) (all : List NameAt) → Tells (Good c) (more_managers all) (AllByRecursion (OfNameAt c) all)
managers_tell c [] = nothing_tells tt
managers_tell c (n ∷ rest) = next_tells reserved_tells (both_tell (name_tells c n) (managers_tell c rest))

-- a statement on management
management_tells : (c : Claim) (m : Management) → Tells (Good c) (management m) (AllByRecursion (OfNameAt c) (managers_of m) × AllByRecursion (OfNameAt c) (managed_of m))
management_tells c (managed_by first others) =
    tells_more (λ e. (e, tt)) (next_tells reserved_tells (both_tell (name_tells c first) (first_tells (managers_tell c others) mark_tells)))
management_tells c (manages n) = tells_more (λ e. (tt, (e, tt))) (next_tells reserved_tells (first_tells (name_tells c n) mark_tells))

-- such statements
managements_tell : (c : Claim) (all : List Management) → Tells (Good c) (managements all) (AllByRecursion (OfNameAt c) (flat_map managers_of all) × AllByRecursion (OfNameAt c) (flat_map managed_of all))
managements_tell c [] = nothing_tells (tt, tt)
managements_tell c (m ∷ rest) =
    tells_more
    (λ e. (both_all (OfNameAt c) (managers_of m) (flat_map managers_of rest) e.0.0 e.1.0, both_all (OfNameAt c) (managed_of m) (flat_map managed_of rest) e.0.1 e.1.1))
    (both_tell (management_tells c m) (managements_tell c rest))

-- the word for a protocol's semantics
semantics_tell : (c : Claim) (s : Semantics) → Tells (Good c) (protocol_semantics s) (Unit {0})
semantics_tell c Sync = reserved_tells
semantics_tell c Async = either_tells (nothing_tells tt) reserved_tells

-- what a protocol claims
protocol_told : (c : Claim) (p : ProtocolDecl) → OfAttributes c p.attributes → OfName c p.full × OfPlace c p.place
    → AllByRecursion (OfNameAt c) p.managers → AllByRecursion (OfNameAt c) p.manages → AllByRecursion (OfMessage c) p.messages → OfProtocol c p
protocol_told of_words p a e managers managed held = record { full = e.0; managers = managers; manages = managed; messages = held }
protocol_told (of_places n) p a e managers managed held = record { place = e.1; managers = managers; manages = managed; messages = held; attributes = a }

-- what the parts of a protocol claim
abbrev OfBuilt : Claim → ProtocolDecl → List Management → List MessageSection → Type 0
OfBuilt c p ms xs =
    OfAttributes c p.attributes
    × ((OfName c p.full × OfPlace c p.place)
    × ((AllByRecursion (OfNameAt c) (flat_map managers_of ms) × AllByRecursion (OfNameAt c) (flat_map managed_of ms))
    × AllByRecursion (OfMessage c) (flat_map (λ s. s.messages) xs)))

built_tells : (c : Claim) (scope : List (List ℕ)) (p : ProtocolDecl) (ms : List Management) (xs : List MessageSection) → AllByRecursion (OfWord c) scope → Tells (Good c) (built_of scope p ms xs) (OfBuilt c p ms xs)
built_tells c scope p ms xs all =
    both_tell (attributes_tell c p.attributes) (next_tells (semantics_tell c p.semantics) (next_tells reserved_tells
    (both_tell (declared_tells c scope all) (next_tells mark_tells
    (both_tell (managements_tell c ms) (first_tells (sections_tell c xs) (next_tells mark_tells mark_tells)))))))

-- a protocol in namespaces with that claim
pub protocol_tells : (c : Claim) (scope : List (List ℕ)) (p : ProtocolDecl) → AllByRecursion (OfWord c) scope → Tells (Good c) (protocol scope p) (OfProtocol c p)
protocol_tells c scope p all = record {
  tell = λ from to (ms, xs, a, b, h, d) g.
      let r = (built_tells c scope p ms xs all).tell from to d g in (
        protocol_told c p r.0.0 r.0.1.0 (subst (AllByRecursion (OfNameAt c)) (sym a) r.0.1.1.0.0) (subst (AllByRecursion (OfNameAt c)) (sym b) r.0.1.1.0.1)
            (subst (AllByRecursion (OfMessage c)) (sym h) r.0.1.1.1),
        r.1,
      );
}

-- Structs and unions

-- a field
field_tells : (c : Claim) (p : Param) → Tells (Good c) (field p) (OfParam c p)
field_tells c p =
    provided_tells (λ none. tells_more (λ e. param_told c p (subst (OfAttributes c) (sym none) tt) e.0 e.1)
    (both_tell (type_tells c p.spec) (first_tells (identifier_tells c) mark_tells)))

-- fields
fields_tell : (c : Claim) (all : List Param) → Tells (Good c) (fields all) (AllByRecursion (OfParam c) all)
fields_tell c [] = nothing_tells tt
fields_tell c (p ∷ rest) = both_tell (field_tells c p) (fields_tell c rest)

-- what a struct claims
struct_told : (c : Claim) (s : StructDecl) → OfAttributes c s.attributes → OfName c s.full × OfPlace c s.place → AllByRecursion (OfParam c) s.fields → OfStruct c s
struct_told of_words s a e held = record { full = e.0; fields = held }
struct_told (of_places n) s a e held = record { place = e.1; fields = held; attributes = a }

-- a struct in namespaces with that claim
pub struct_tells : (c : Claim) (scope : List (List ℕ)) (s : StructDecl) → AllByRecursion (OfWord c) scope → Tells (Good c) (struct_decl scope s) (OfStruct c s)
struct_tells c scope s all =
    tells_more (λ e. struct_told c s e.0 e.1.0 e.1.1)
    (both_tell (attributes_tell c s.attributes) (next_tells reserved_tells
    (both_tell (declared_tells c scope all) (next_tells mark_tells (first_tells (fields_tell c s.fields) (next_tells mark_tells mark_tells))))))

-- components
components_tell : (c : Claim) (all : List TypeSpec) → Tells (Good c) (components all) (AllByRecursion (OfType c) all)
components_tell c [] = nothing_tells tt
components_tell c (spec ∷ rest) = both_tell (type_tells c spec) (next_tells mark_tells (components_tell c rest))

-- what a union claims
union_told : (c : Claim) (u : UnionDecl) → OfAttributes c u.attributes → OfName c u.full × OfPlace c u.place → AllByRecursion (OfType c) u.components → OfUnion c u
union_told of_words u a e held = record { full = e.0; components = held }
union_told (of_places n) u a e held = record { place = e.1; components = held; attributes = a }

-- a union in namespaces with that claim
pub union_tells : (c : Claim) (scope : List (List ℕ)) (u : UnionDecl) → AllByRecursion (OfWord c) scope → Tells (Good c) (union_decl scope u) (OfUnion c u)
union_tells c scope u all =
    provided_tells (λ some. tells_more (λ e. union_told c u e.0 e.1.0 e.1.1)
    (both_tell (attributes_tell c u.attributes) (next_tells reserved_tells
    (both_tell (declared_tells c scope all) (next_tells mark_tells (first_tells (components_tell c u.components) (next_tells mark_tells mark_tells)))))))

-- Usings and includes

-- what another language declares
foreign_tells : (c : Claim) (full : List ℕ) → Tells (Good c) (foreign_name full) (Unit {0})
foreign_tells c full = record { tell = λ from to (name, inner, e, d) g. (tt, ((named_tells c name inner).tell from to d g).1) }

-- what a using claims
using_told : (c : Claim) (u : Using) → OfAttributes c u.attributes → OfPlace c u.place × Unit {0} → OfUsing c u
using_told of_words u a e = tt
using_told (of_places n) u a e = record { place = e.0; attributes = a }

-- a using
pub using_tells : (c : Claim) (u : Using) → Tells (Good c) (using_decl u) (OfUsing c u)
using_tells c u =
    tells_more (λ e. using_told c u e.0 e.1)
    (both_tell (attributes_tell c u.attributes) (next_tells reserved_tells (next_tells (either_tells (nothing_tells tt) (either_tells reserved_tells reserved_tells))
    (first_tells (at_tells c (foreign_tells c u.full)) (next_tells reserved_tells (next_tells (token_tells {Told = Unit {0}} (λ t g i. tt)) mark_tells))))))

-- a quoted text
quoted_tells : (c : Claim) {text : List ℕ} {place : Place} → Tells (Good c) (quoted text place) (OfPlace c place)
quoted_tells of_words = token_tells (λ t g i. tt)
quoted_tells (of_places n) = token_tells (λ t g i. subst (IsIn n) i.2 g)

-- what an include's word claims
header_told : (c : Claim) (name : List ℕ) (place : Place) → OfWord c name × OfPlace c place → OfIncluded c include_kind.Header name place
header_told of_words name place e = e.0
header_told (of_places n) name place e = e.1

protocol_file_told : (c : Claim) (name : List ℕ) (place : Place) → OfWord c name × OfPlace c place → OfIncluded c include_kind.Protocol name place
protocol_file_told of_words name place e = e.0
protocol_file_told (of_places n) name place e = e.1

-- what an include's text claims
quoted_told : (c : Claim) (text : List ℕ) (place : Place) → OfPlace c place → OfIncluded c include_kind.Quoted text place
quoted_told of_words text place e = tt
quoted_told (of_places n) text place e = e

-- what is included
included_tells : (c : Claim) (k : IncludeKind) (name : List ℕ) (place : Place) → Tells (Good c) (included k name place) (OfIncluded c k name place)
included_tells c include_kind.Protocol name place = tells_more (protocol_file_told c name place) (next_tells reserved_tells (identifier_tells c))
included_tells c include_kind.Header name place = tells_more (header_told c name place) (identifier_tells c)
included_tells c include_kind.Quoted text place = tells_more (quoted_told c text place) (quoted_tells c)

-- an include claims what its name claims
include_told : (c : Claim) (i : Include) → OfIncluded c i.kind i.name i.place → OfInclude c i
include_told of_words i e = e
include_told (of_places n) i e = e

-- an include
pub include_tells : (c : Claim) (i : Include) → Tells (Good c) (include i) (OfInclude c i)
include_tells c i = tells_more (include_told c i) (next_tells reserved_tells (first_tells (included_tells c i.kind i.name i.place) mark_tells))
