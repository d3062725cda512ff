-- The claims of files that are read from tokens with that claim. So the names in a tree are words, and its places are
-- in one file.
use Rattle.std.proofs.Common.{ℕ, ◌-◌, List, [], ◌∷◌, ◌++◌, Option, Some, None, sym, subst}
use Rattle.std.specs.Prelude.{IfSome}
use Rattle.std.specs.List.{AllByRecursion}
use Rattle.ipdl_base.specs.declared.token.Token.{Token}
use Rattle.ipdl_syntax.specs.declared.tree.FileKind.{FileKind}
use Rattle.ipdl_syntax.specs.declared.tree.FileKind.TheVariants as file
use Rattle.ipdl_syntax.specs.declared.tree.Include.{Include}
use Rattle.ipdl_syntax.specs.declared.tree.ProtocolDecl.{ProtocolDecl}
use Rattle.ipdl_syntax.specs.declared.tree.StructDecl.{StructDecl}
use Rattle.ipdl_syntax.specs.declared.tree.UnionDecl.{UnionDecl}
use Rattle.ipdl_syntax.specs.declared.tree.Unit.{Unit as FileUnit}
use Rattle.ipdl_syntax.specs.declared.tree.Using.{Using}
use Rattle.ipdl_syntax.specs.Parts.{Part}
use Rattle.ipdl_syntax.specs.Grammar.{in_namespace, Inside, inside_end, inside_struct, inside_union, inside_namespace, Outside, outside_end, outside_include, outside_using, outside_struct, outside_union, outside_namespace, Holder, holder_protocol, holder_namespace, inside, outside, holder, protocol_file}
use Rattle.ipdl_syntax.specs.Program.{Declarations, ◌&◌, no_declaration, an_include, a_using, a_struct, a_union, declared_inside, declared_outside, declared_round, protocol_of, unit_of, Tree}
use Rattle.grammar_laws.specs.Laws.{NamesHold, PlacesHold}
use Rattle.grammar_laws.proofs.Claims.{Claim, of_words, of_places, Good, OfWord, OfProtocol, OfStruct, OfUnion, OfUsing, OfInclude, OfDeclared, OfUnit}
use Rattle.grammar_laws.proofs.ClaimedForms.{word_tells, all_and_one}
use Rattle.grammar_laws.proofs.ClaimedDeclarations.{protocol_tells, struct_tells, union_tells, using_tells, include_tells}
use Rattle.grammar_laws.proofs.Tells.{Tells, tells_more, nothing_tells, mark_tells, reserved_tells, given_tell, both_tell, first_tells, next_tells, provided_tells, both_all}

-- what declarations claim

none_told : (c : Claim) → OfDeclared c no_declaration
none_told c = record { includes = tt; usings = tt; structs = tt; unions = tt }

include_told : (c : Claim) (i : Include) → OfInclude c i → OfDeclared c (an_include i)
include_told c i e = record { includes = (e, tt); usings = tt; structs = tt; unions = tt }

using_told : (c : Claim) (u : Using) → OfUsing c u → OfDeclared c (a_using u)
using_told c u e = record { includes = tt; usings = (e, tt); structs = tt; unions = tt }

struct_told : (c : Claim) (s : StructDecl) → OfStruct c s → OfDeclared c (a_struct s)
struct_told c s e = record { includes = tt; usings = tt; structs = (e, tt); unions = tt }

union_told : (c : Claim) (u : UnionDecl) → OfUnion c u → OfDeclared c (a_union u)
union_told c u e = record { includes = tt; usings = tt; structs = tt; unions = (e, tt) }

and_told : (c : Claim) (a b : Declarations) → OfDeclared c a → OfDeclared c b → OfDeclared c (a & b)
and_told c a b x y = record {
  includes = both_all (OfInclude c) a.includes b.includes x.includes y.includes;
  usings = both_all (OfUsing c) a.usings b.usings x.usings y.usings;
  structs = both_all (OfStruct c) a.structs b.structs x.structs y.structs;
  unions = both_all (OfUnion c) a.unions b.unions x.unions y.unions;
}

-- a namespace around its content, if its name is known
namespace_tells : (c : Claim) (name : List ℕ) {P : Part} {Told : Type 0} → (OfWord c name → Tells (Good c) P Told) → Tells (Good c) (in_namespace name P) Told
namespace_tells c name f = next_tells reserved_tells (tells_more (λ e. e.1) (given_tell (word_tells c) (λ w. next_tells mark_tells (first_tells (f w) mark_tells))))

-- the declarations in a namespace
inside_tells : (c : Claim) (room : ℕ) (scope : List (List ℕ)) (a : Inside) → AllByRecursion (OfWord c) scope → Tells (Good c) (inside room scope a) (OfDeclared c (declared_inside a))
inside_tells c room scope inside_end all = nothing_tells (none_told c)
inside_tells c room scope (inside_struct s rest) all =
    tells_more (λ e. and_told c (a_struct s) (declared_inside rest) (struct_told c s e.0) e.1) (both_tell (struct_tells c scope s all) (inside_tells c room scope rest all))
inside_tells c room scope (inside_union u rest) all =
    tells_more (λ e. and_told c (a_union u) (declared_inside rest) (union_told c u e.0) e.1) (both_tell (union_tells c scope u all) (inside_tells c room scope rest all))
inside_tells c room scope (inside_namespace name held rest) all =
    tells_more (λ e. and_told c (declared_inside held) (declared_inside rest) e.0 e.1)
    (both_tell (provided_tells (λ deep. namespace_tells c name (λ w. inside_tells c (room - 1) (scope ++ name ∷ []) held (all_and_one (OfWord c) scope name all w))))
    (inside_tells c room scope rest all))

-- the declarations outside of all namespaces
outside_tells : (c : Claim) (a : Outside) → Tells (Good c) (outside a) (OfDeclared c (declared_outside a))
outside_tells c outside_end = nothing_tells (none_told c)
outside_tells c (outside_include i rest) =
    tells_more (λ e. and_told c (an_include i) (declared_outside rest) (include_told c i e.0) e.1) (both_tell (include_tells c i) (outside_tells c rest))
outside_tells c (outside_using u rest) =
    tells_more (λ e. and_told c (a_using u) (declared_outside rest) (using_told c u e.0) e.1) (both_tell (using_tells c u) (outside_tells c rest))
outside_tells c (outside_struct s rest) =
    tells_more (λ e. and_told c (a_struct s) (declared_outside rest) (struct_told c s e.0) e.1) (both_tell (struct_tells c [] s tt) (outside_tells c rest))
outside_tells c (outside_union u rest) =
    tells_more (λ e. and_told c (a_union u) (declared_outside rest) (union_told c u e.0) e.1) (both_tell (union_tells c [] u tt) (outside_tells c rest))
outside_tells c (outside_namespace name held rest) =
    tells_more (λ e. and_told c (declared_inside held) (declared_outside rest) e.0 e.1)
    (both_tell (namespace_tells c name (λ w. inside_tells c 15 (name ∷ []) held (w, tt))) (outside_tells c rest))

-- the protocol and the declarations around it
holder_tells : (c : Claim) (room : ℕ) (scope : List (List ℕ)) (h : Holder) → AllByRecursion (OfWord c) scope → Tells (Good c) (holder room scope h) (OfDeclared c (declared_round h) × OfProtocol c (protocol_of h))
holder_tells c room scope (holder_protocol p) all = tells_more (λ e. (none_told c, e)) (protocol_tells c scope p all)
holder_tells c room scope (holder_namespace name before held after) all =
    provided_tells (λ deep. namespace_tells c name (λ w.
    let inner : AllByRecursion (OfWord c) (scope ++ name ∷ []) = all_and_one (OfWord c) scope name all w in
    tells_more (λ e. (
      and_told c (declared_inside before) (declared_round held & declared_inside after) e.0 (and_told c (declared_round held) (declared_inside after) e.1.0.0 e.1.1),
      e.1.0.1,
    ))
    (both_tell (inside_tells c (room - 1) (scope ++ name ∷ []) before inner)
    (both_tell (holder_tells c (room - 1) (scope ++ name ∷ []) held inner) (inside_tells c (room - 1) (scope ++ name ∷ []) after inner)))))

-- what a file claims
unit_told : (c : Claim) (all : Declarations) (p : Option ProtocolDecl) → OfDeclared c all → IfSome p (OfProtocol c) → OfUnit c (unit_of all p)
unit_told of_words all p e h = record { includes = e.includes; structs = e.structs; unions = e.unions; protocol = h }
unit_told (of_places n) all p e h = record { includes = e.includes; usings = e.usings; structs = e.structs; unions = e.unions; protocol = h }

-- the tree of tokens with a claim has it
tree_tells : (c : Claim) (kind : FileKind) (tokens : List Token) (unit : FileUnit) → AllByRecursion (Good c) tokens → Tree kind tokens unit → OfUnit c unit
tree_tells c file.Header tokens unit good (all, d, e) =
    subst (OfUnit c) (sym e) (unit_told c (declared_outside all) None ((outside_tells c all).tell tokens [] d good).0 tt)
tree_tells c file.Protocol tokens unit good (before, one, after, d, e) =
    let s : Tells (Good c) (protocol_file before one after) (OfDeclared c (declared_outside before) × ((OfDeclared c (declared_round one) × OfProtocol c (protocol_of one)) × OfDeclared c (declared_outside after))) =
    both_tell (outside_tells c before) (both_tell (holder_tells c 16 [] one tt) (outside_tells c after)) in
    let r = (s.tell tokens [] d good).0 in
    subst (OfUnit c) (sym e)
    (unit_told c (declared_outside before & declared_round one & declared_outside after) (Some (protocol_of one))
    (and_told c (declared_outside before) (declared_round one & declared_outside after) r.0 (and_told c (declared_round one) (declared_outside after) r.1.0.0 r.1.1)) r.1.0.1)

pub names_hold : NamesHold
names_hold kind tokens unit spelled tree = tree_tells of_words kind tokens unit spelled tree

pub places_hold : PlacesHold
places_hold kind tokens unit number there tree = tree_tells (of_places number) kind tokens unit there tree
