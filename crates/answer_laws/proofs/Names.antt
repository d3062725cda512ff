-- What names find in programs that are alike.
use Rattle.std.proofs.Common.{◌≡◌, inl, inr, ◌∙◌, ℕ, List, Option, Some, None, IsSomeAnd, slice_get, refl, sym, ap, subst}
use Rattle.std.specs.Prelude.{option_map, option_and_then}
use Rattle.std.specs.List.{Contains}
use Rattle.ipdl_syntax.specs.declared.program.Entry.{Entry}
use Rattle.ipdl_syntax.specs.declared.tree.ProtocolDecl.{ProtocolDecl}
use Rattle.grammar_laws.specs.Boxes.{unboxed_protocol, unboxed_struct, unboxed_union, unboxed_held}
use Rattle.name_table.specs.declared.decl.DeclId.{DeclId}
use Rattle.name_table.specs.declared.decl.DeclId.TheVariants.{Builtin, Using, Struct, Union, Protocol, Endpoint}
use Rattle.name_table.specs.declared.decl.Found.{Found}
use Rattle.name_table.specs.declared.decl.Found.TheVariants as found
use Rattle.name_table.specs.Declares.{file_of, full_name_in, full_name_of, Declares, Includes, IsHeader}
use Rattle.name_table.specs.Visible.{Sees, own, protocol, header}
use Rattle.name_table.specs.Finds.{SeesNamed, FindsProtocol, NamesBuiltin, Finds, FindsAsProtocol, Counts}
use Rattle.name_table.specs.Decls.{protocol_of, struct_of, union_of, FindsNone, FindsOne, FindsTwo, FindsNoProtocol, FindsOneProtocol}
use Rattle.answer_laws.specs.Programs.{unboxed_entry, unboxed_program, AreProgramsAlike}
use Rattle.answer_laws.proofs.Lists.{at_place_alike, at_look}

-- Full names

held_full : (held : Option ProtocolDecl) → option_map (λ p. p.full) (unboxed_held held) ≡ option_map (λ p. p.full) held
held_full None = refl
held_full (Some p) = refl

full_in : (e : Entry) (d : DeclId) → full_name_in (unboxed_entry e) d ≡ full_name_in e d
full_in e (Using file place) = refl
full_in e (Struct file place) = at_look unboxed_struct (option_map (λ s. s.full)) (option_map (λ s. s.full)) refl (λ s. refl) e.unit.structs place
full_in e (Union file place) = at_look unboxed_union (option_map (λ u. u.full)) (option_map (λ u. u.full)) refl (λ u. refl) e.unit.unions place
full_in e (Protocol file) = held_full e.unit.protocol
full_in e (Builtin type) = refl
full_in e (Endpoint file managed) = refl

full_of : (program : List Entry) (d : DeclId) → full_name_of (unboxed_program program) d ≡ full_name_of program d
full_of program d =
    let in_file : (file : ℕ) → option_and_then (λ entry. full_name_in entry d) (slice_get (unboxed_program program) file) ≡ option_and_then (λ entry. full_name_in entry d) (slice_get program file)
    = λ file. at_look unboxed_entry (option_and_then (λ entry. full_name_in entry d)) (option_and_then (λ entry. full_name_in entry d)) refl (λ e. full_in e d) program file in
    λ i. option_and_then (λ file. in_file file i) (file_of d)

-- What a name finds, one way

pub full_alike : (program other : List Entry) → AreProgramsAlike program other → (d : DeclId) → full_name_of program d ≡ full_name_of other d
full_alike program other alike d = sym (full_of program d) ∙ ap (λ files. full_name_of files d) alike ∙ full_of other d

held_none : (a b : Option ProtocolDecl) → unboxed_held a ≡ unboxed_held b → a ≡ None → b ≡ None
held_none None None same is = refl
held_none None (Some q) same is = cc
held_none (Some p) b same is = cc

module _ (program other : List Entry) (alike : AreProgramsAlike program other) where
  declares_alike : (file : ℕ) (d : DeclId) (full : List ℕ) → Declares program file d full → Declares other file d full
  declares_alike file d full declares = (declares.0, sym (full_alike program other alike d) ∙ declares.1)

  includes_alike : (file k : ℕ) → Includes program file k → Includes other file k
  includes_alike file k includes =
      at_place_alike unboxed_entry (λ e. Contains e.includes k) (λ e. Contains e.includes k) (λ x y same has. subst (λ (e : Entry). Contains e.includes k) same has) program other alike file includes

  header_alike : (file : ℕ) → IsHeader program file → IsHeader other file
  header_alike file is =
      at_place_alike unboxed_entry (λ e. e.unit.protocol ≡ None) (λ e. e.unit.protocol ≡ None) (λ x y same none. held_none x.unit.protocol y.unit.protocol (λ i. (same i).unit.protocol) none) program other alike file is

  sees_alike : {file : ℕ} {d : DeclId} {full : List ℕ} → Sees program file d full → Sees other file d full
  sees_alike (own {file = file} {d = d} {full = full} declares) = own (declares_alike file d full declares)
  sees_alike (protocol {file = file} {other = there} {full = full} includes declares) = protocol (includes_alike file there includes) (declares_alike there (Protocol there) full declares)
  sees_alike (header {file = file} {other = there} includes is sees) = header (includes_alike file there includes) (header_alike there is) (sees_alike sees)

  named_alike : (file : ℕ) (text : List ℕ) (argument : Option (List ℕ)) (d : DeclId) → SeesNamed program file text argument d → SeesNamed other file text argument d
  named_alike file text argument d named = (named.0, sees_alike named.1, named.2)

  names_builtin_alike : (file : ℕ) (full : List ℕ) → NamesBuiltin program file full → NamesBuiltin other file full
  names_builtin_alike file full (inl names) = inl names
  names_builtin_alike file full (inr (inl names)) = inr (inl names)
  names_builtin_alike file full (inr (inr names)) = inr (inr (names.0, names.1, names.2, names.3, named_alike file names.1 None (Protocol names.2) names.4))

argument_alike : (P Q : List ℕ → Type 0) → ((inner : List ℕ) → P inner → Q inner) → (argument : Option (List ℕ)) → IsSomeAnd argument P → IsSomeAnd argument Q
argument_alike P Q step None is = elim is [ ]
argument_alike P Q step (Some inner) is = step inner is

module _ (program other : List Entry) (alike : AreProgramsAlike program other) where
  finds_alike : (file : ℕ) (text : List ℕ) (argument : Option (List ℕ)) (d : DeclId) → Finds program file text argument d → Finds other file text argument d
  finds_alike file text argument (Builtin type) finds = finds
  finds_alike file text argument (Endpoint p managed) finds =
      (finds.0, argument_alike (λ inner. FindsProtocol program file inner p) (λ inner. FindsProtocol other file inner p) (λ inner named. named_alike program other alike file inner None (Protocol p) named) argument finds.1)
  finds_alike file text argument (Using there place) finds = record {
    full = finds.full;
    seen = sees_alike program other alike finds.seen;
    named = finds.named;
    own = λ names. finds.own (names_builtin_alike other program (sym alike) file finds.full names);
    first = λ before at sees. finds.first before at (sees_alike other program (sym alike) sees);
  }
  finds_alike file text argument (Struct there place) finds = named_alike program other alike file text argument (Struct there place) finds
  finds_alike file text argument (Union there place) finds = named_alike program other alike file text argument (Union there place) finds
  finds_alike file text argument (Protocol there) finds = named_alike program other alike file text argument (Protocol there) finds

  finds_as_alike : (file : ℕ) (text : List ℕ) (d : DeclId) → FindsAsProtocol program file text d → FindsAsProtocol other file text d
  finds_as_alike file text (Protocol p) finds = named_alike program other alike file text None (Protocol p) finds
  finds_as_alike file text _ finds = absurd finds

-- The number of declarations that a name finds

counts_alike : (P Q : DeclId → Type 0) → ((d : DeclId) → P d → Q d) → ((d : DeclId) → Q d → P d) → (answer : Found) → Counts P answer → Counts Q answer
counts_alike P Q to back found.None counts = λ d holds. counts d (back d holds)
counts_alike P Q to back (found.One d) counts = (to d counts.0, λ e holds. counts.1 e (back e holds))
counts_alike P Q to back (found.Many d e) counts = (to d counts.0, to e counts.1, counts.2)

module _ (program other : List Entry) (alike : AreProgramsAlike program other) where
  found_alike : (file : ℕ) (text : List ℕ) (argument : Option (List ℕ)) (answer : Found) → Counts (Finds program file text argument) answer → Counts (Finds other file text argument) answer
  found_alike file text argument = counts_alike (Finds program file text argument) (Finds other file text argument) (finds_alike program other alike file text argument) (finds_alike other program (sym alike) file text argument)

  found_as_alike : (file : ℕ) (text : List ℕ) (answer : Found) → Counts (FindsAsProtocol program file text) answer → Counts (FindsAsProtocol other file text) answer
  found_as_alike file text = counts_alike (FindsAsProtocol program file text) (FindsAsProtocol other file text) (finds_as_alike program other alike file text) (finds_as_alike other program (sym alike) file text)

  pub none_alike : (file : ℕ) (text : List ℕ) (argument : Option (List ℕ)) → FindsNone program file text argument → FindsNone other file text argument
  none_alike file text argument = found_alike file text argument found.None

  pub one_alike : (file : ℕ) (text : List ℕ) (argument : Option (List ℕ)) (d : DeclId) → FindsOne program file text argument d → FindsOne other file text argument d
  one_alike file text argument d = found_alike file text argument (found.One d)

  pub two_alike : (file : ℕ) (text : List ℕ) (argument : Option (List ℕ)) → FindsTwo program file text argument → FindsTwo other file text argument
  two_alike file text argument two = (two.0, two.1, found_alike file text argument (found.Many two.0 two.1) two.2)

  pub no_protocol_alike : (file : ℕ) (text : List ℕ) → FindsNoProtocol program file text → FindsNoProtocol other file text
  no_protocol_alike file text = found_as_alike file text found.None

  pub one_protocol_alike : (file : ℕ) (text : List ℕ) (p : ℕ) → FindsOneProtocol program file text p → FindsOneProtocol other file text p
  one_protocol_alike file text p = found_as_alike file text (found.One (Protocol p))

-- The declaration at a number

pub held_is : (held : Option ProtocolDecl) → unboxed_held held ≡ option_map unboxed_protocol held
held_is None = refl
held_is (Some p) = refl

protocol_look : (program : List Entry) (file : ℕ) → protocol_of (unboxed_program program) file ≡ option_map unboxed_protocol (protocol_of program file)
protocol_look program file =
    at_look unboxed_entry (option_and_then (λ e. e.unit.protocol)) (λ o. option_map unboxed_protocol (option_and_then (λ (e : Entry). e.unit.protocol) o)) refl (λ e. held_is e.unit.protocol) program file

struct_look : (program : List Entry) (file place : ℕ) → struct_of (unboxed_program program) file place ≡ option_map unboxed_struct (struct_of program file place)
struct_look program file place =
    at_look unboxed_entry (option_and_then (λ e. slice_get e.unit.structs place)) (λ o. option_map unboxed_struct (option_and_then (λ (e : Entry). slice_get e.unit.structs place) o)) refl
    (λ e. at_look unboxed_struct (λ o. o) (option_map unboxed_struct) refl (λ s. refl) e.unit.structs place) program file

union_look : (program : List Entry) (file place : ℕ) → union_of (unboxed_program program) file place ≡ option_map unboxed_union (union_of program file place)
union_look program file place =
    at_look unboxed_entry (option_and_then (λ e. slice_get e.unit.unions place)) (λ o. option_map unboxed_union (option_and_then (λ (e : Entry). slice_get e.unit.unions place) o)) refl
    (λ e. at_look unboxed_union (λ o. o) (option_map unboxed_union) refl (λ u. refl) e.unit.unions place) program file

module _ (program other : List Entry) (alike : AreProgramsAlike program other) where
  pub protocol_alike : (file : ℕ) → option_map unboxed_protocol (protocol_of program file) ≡ option_map unboxed_protocol (protocol_of other file)
  protocol_alike file = sym (protocol_look program file) ∙ ap (λ files. protocol_of files file) alike ∙ protocol_look other file

  pub struct_alike : (file place : ℕ) → option_map unboxed_struct (struct_of program file place) ≡ option_map unboxed_struct (struct_of other file place)
  struct_alike file place = sym (struct_look program file place) ∙ ap (λ files. struct_of files file place) alike ∙ struct_look other file place

  pub union_alike : (file place : ℕ) → option_map unboxed_union (union_of program file place) ≡ option_map unboxed_union (union_of other file place)
  union_alike file place = sym (union_look program file place) ∙ ap (λ files. union_of files file place) alike ∙ union_look other file place
