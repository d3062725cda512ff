-- What a name finds is in the program.
use Rattle.std.proofs.Common.{◌≡◌, ℕ, List, Option, Some, None, IsSome, slice_get, option_map, subst, refl}
use Rattle.std.specs.Prelude.{option_and_then}
use Rattle.std.proofs.lemmas.Option.{none-some}
use Rattle.ipdl_syntax.specs.declared.program.Entry.{Entry}
use Rattle.ipdl_syntax.specs.declared.tree.Base.{Named}
use Rattle.ipdl_syntax.specs.declared.tree.ProtocolDecl.{ProtocolDecl}
use Rattle.ipdl_syntax.specs.declared.tree.StructDecl.{StructDecl}
use Rattle.ipdl_syntax.specs.declared.tree.UnionDecl.{UnionDecl}
use Rattle.name_table.specs.declared.decl.DeclId.{DeclId}
use Rattle.name_table.specs.declared.decl.DeclId.TheVariants.{Builtin, Using, Struct, Union, Protocol, Endpoint}
use Rattle.name_table.specs.declared.decl.Found.{Found}
use Rattle.name_table.specs.declared.decl.Found.TheVariants as found
use Rattle.name_table.specs.Declares.{full_name_of}
use Rattle.name_table.specs.Decls.{FindsOne, FindsOneProtocol, protocol_of}
use Rattle.name_table.specs.Finds.{Finds, FindsAsProtocol, FindsProtocol, Counts}
use Rattle.name_table.proofs.Seeing.{sees_shown}
use Rattle.actor_tables.specs.SchemaSource.{IsThere, FindsSole, FindsSoleProtocol}

struct_there : (o : Option Entry) (index : ℕ) (full : List ℕ) → option_and_then (λ e. option_map (λ s. s.full) (slice_get e.unit.structs index)) o ≡ Some full
    → IsSome (option_map (λ (s : StructDecl). s.place) (option_and_then (λ e. slice_get e.unit.structs index) o))
struct_there None index full h = absurd (none-some full h)
struct_there (Some e) index full h = go (slice_get e.unit.structs index) h
  where
    go : (o : Option StructDecl) → option_map (λ s. s.full) o ≡ Some full → IsSome (option_map (λ (s : StructDecl). s.place) o)
    go None h = absurd (none-some full h)
    go (Some s) h = refl

union_there : (o : Option Entry) (index : ℕ) (full : List ℕ) → option_and_then (λ e. option_map (λ u. u.full) (slice_get e.unit.unions index)) o ≡ Some full
    → IsSome (option_map (λ (u : UnionDecl). u.place) (option_and_then (λ e. slice_get e.unit.unions index) o))
union_there None index full h = absurd (none-some full h)
union_there (Some e) index full h = go (slice_get e.unit.unions index) h
  where
    go : (o : Option UnionDecl) → option_map (λ u. u.full) o ≡ Some full → IsSome (option_map (λ (u : UnionDecl). u.place) o)
    go None h = absurd (none-some full h)
    go (Some u) h = refl

protocol_there : (o : Option Entry) (full : List ℕ) → option_and_then (λ e. option_map (λ p. p.full) e.unit.protocol) o ≡ Some full → IsSome (option_and_then (λ e. e.unit.protocol) o)
protocol_there None full h = absurd (none-some full h)
protocol_there (Some e) full h = go e.unit.protocol h
  where
    go : (o : Option ProtocolDecl) → option_map (λ p. p.full) o ≡ Some full → IsSome o
    go None h = absurd (none-some full h)
    go (Some p) h = refl

some_full : (o : Option (List ℕ)) (full : List ℕ) → o ≡ Some full → IsSome o
some_full None full h = absurd (none-some full h)
some_full (Some f) full h = refl

pub protocol_found : (program : List Entry) (file : ℕ) (text : List ℕ) (p : ℕ) → FindsProtocol program file text p → IsSome (protocol_of program p)
protocol_found program file text p (full, seen, named) = protocol_there (slice_get program p) full (sees_shown program seen).1

finds_there : (program : List Entry) (file : ℕ) (text : List ℕ) (argument : Option (List ℕ)) (d : DeclId) → Finds program file text argument d → IsThere program d
finds_there program file text argument (Builtin type) h = tt
finds_there program file text argument (Using other index) h = some_full (full_name_of program (Using other index)) h.full (sees_shown program h.seen).1
finds_there program file text argument (Struct other index) (full, seen, named) = struct_there (slice_get program other) index full (sees_shown program seen).1
finds_there program file text argument (Union other index) (full, seen, named) = union_there (slice_get program other) index full (sees_shown program seen).1
finds_there program file text argument (Protocol other) (full, seen, named) = protocol_there (slice_get program other) full (sees_shown program seen).1
finds_there program file text None (Endpoint other managed) h = absurd h.1
finds_there program file text (Some inner) (Endpoint other managed) h = protocol_found program file inner other h.1

-- what was found in the program that the names are of
pub found_in : (program names : List Entry) (file : ℕ) (text : List ℕ) (a b : Option (List ℕ)) (r : Found) → names ≡ program → a ≡ b → Counts (Finds names file text a) r → Counts (Finds program file text b) r
found_in program names file text a b r same argument h =
    subst (λ (o : Option (List ℕ)). Counts (Finds program file text o) r) argument (subst (λ (p : List Entry). Counts (Finds p file text a) r) same h)

pub one_there : (program : List Entry) (file : ℕ) (text : List ℕ) (argument : Option (List ℕ)) (d : DeclId) → FindsOne program file text argument d → IsThere program d
one_there program file text argument d h = finds_there program file text argument d h.0

-- a name that finds neither nothing nor two declarations finds one
pub never_other : (program : List Entry) (file : ℕ) (text : List ℕ) (argument : Option (List ℕ)) (r : Found) → FindsSole program file (Named text argument) → Counts (Finds program file text argument) r → ((d : DeclId) → ¬ (r ≡ found.One d)) → ⊥
never_other program file text argument found.None sole h other = sole.0 h
never_other program file text argument (found.One d) sole h other = other d refl
never_other program file text argument (found.Many d e) sole h other = sole.1 (d, e, h)

-- the same of protocols
pub found_protocol_in : (program names : List Entry) (file : ℕ) (text : List ℕ) (r : Found) → names ≡ program → Counts (FindsAsProtocol names file text) r → Counts (FindsAsProtocol program file text) r
found_protocol_in program names file text r same h = subst (λ (p : List Entry). Counts (FindsAsProtocol p file text) r) same h

pub never_no_protocol : (program : List Entry) (file : ℕ) (text : List ℕ) (r : Found) → FindsSoleProtocol program file text → Counts (FindsAsProtocol program file text) r → ((d : DeclId) → ¬ (r ≡ found.One d)) → ⊥
never_no_protocol program file text found.None sole h other = sole.some h
never_no_protocol program file text (found.One d) sole h other = other d refl
never_no_protocol program file text (found.Many d e) sole h other = sole.one d e h

pub never_other_decl : (program : List Entry) (file : ℕ) (text : List ℕ) (d : DeclId) → FindsAsProtocol program file text d → ((p : ℕ) → ¬ (d ≡ Protocol p)) → ⊥
never_other_decl program file text (Protocol p) h other = other p refl
never_other_decl program file text (Builtin type) h other = h
never_other_decl program file text (Using f i) h other = h
never_other_decl program file text (Struct f i) h other = h
never_other_decl program file text (Union f i) h other = h
never_other_decl program file text (Endpoint f m) h other = h

pub one_protocol : (program names : List Entry) (file : ℕ) (text : List ℕ) (d : DeclId) (p : ℕ) → names ≡ program → d ≡ Protocol p → Counts (FindsAsProtocol names file text) (found.One d) → FindsOneProtocol program file text p
one_protocol program names file text d p same is h =
    subst (λ (e : DeclId). Counts (FindsAsProtocol program file text) (found.One e)) is (found_protocol_in program names file text (found.One d) same h)
