-- The protocols of a program, which have the names of their files.
use Rattle.std.proofs.Common.{◌≡◌, ℕ, ◌<◌, inl, inr, List, ◌++◌, get_or, Option, Some, None, slice_get, option_map, refl, sym, ap, subst, ◌∙◌}
use Rattle.std.specs.Prelude.{option_and_then, IfSome}
use Rattle.std.proofs.lemmas.Bool.{cases_order}
use Rattle.std.proofs.lemmas.List.Elements.{All-from_recursion}
use Rattle.std.proofs.lemmas.Option.{none-some, same_Some, slice_get_within, get_or_from_slice_get, option_and_then_some}
use Rattle.ipdl_base.specs.Words.{IsWord, short_name}
use Rattle.ipdl_syntax.specs.declared.program.Entry.{Entry}
use Rattle.ipdl_syntax.specs.declared.tree.FileKind.TheVariants as kinds
use Rattle.ipdl_syntax.specs.declared.tree.ProtocolDecl.{ProtocolDecl}
use Rattle.ipdl_syntax.specs.Programs.{IsProgram, BearTheirNames, ending}
use Rattle.name_table.specs.declared.decl.DeclId.{DeclId}
use Rattle.name_table.specs.declared.decl.DeclId.TheVariants.{Builtin, Using, Struct, Union, Protocol, Endpoint}
use Rattle.name_table.specs.declared.decl.Found.TheVariants as found
use Rattle.name_table.specs.Decls.{protocol_of}
use Rattle.name_table.specs.Finds.{FindsAsProtocol, FindsProtocol, Counts}
use Rattle.name_table.proofs.Seeing.{sees_shown}
use Rattle.program_schema.proofs.KindsOfMessages.{word_short}

-- the key of a file is that of its protocol
key_of : (program : List Entry) (file : ℕ) (e : Entry) (p : ProtocolDecl) → BearTheirNames program → slice_get program file ≡ Some e → e.unit.protocol ≡ Some p → e.key ≡ short_name p.full ++ ending kinds.Protocol
key_of program file e p named at has =
    let same : get_or program file e ≡ e = get_or_from_slice_get program file e e at in
    let all = All-from_recursion (λ (x : Entry). IfSome x.unit.protocol (λ q. x.key ≡ short_name q.full ++ ending kinds.Protocol)) program named in
    let here : IfSome e.unit.protocol (λ q. e.key ≡ short_name q.full ++ ending kinds.Protocol) = subst (λ (x : Entry). IfSome x.unit.protocol (λ q. x.key ≡ short_name q.full ++ ending kinds.Protocol)) same (all file e (slice_get_within program file e at)) in
    subst (λ (o : Option ProtocolDecl). IfSome o (λ q. e.key ≡ short_name q.full ++ ending kinds.Protocol)) has here

one_before : (program : List Entry) (a b : ℕ) (d e : Entry) → IsProgram program → slice_get program a ≡ Some d → slice_get program b ≡ Some e → d.key ≡ e.key → ¬ (a < b)
one_before program a b d e is at there same before =
    is.distinct a b d before (slice_get_within program b e there)
    (ap (λ (x : Entry). x.key) (get_or_from_slice_get program a d d at) ∙ same ∙ sym (ap (λ (x : Entry). x.key) (get_or_from_slice_get program b e d there)))

one_file : (program : List Entry) (a b : ℕ) (d e : Entry) → IsProgram program → slice_get program a ≡ Some d → slice_get program b ≡ Some e → d.key ≡ e.key → a ≡ b
one_file program a b d e is at there same = elim (cases_order a b) [
  | inl equal ↦ equal
  | inr differ ↦ elim differ [
    | inl before ↦ absurd (one_before program a b d e is at there same before)
    | inr following ↦ absurd (one_before program b a e d is there at (sym same) following)
  ]
]

-- two files whose protocols have the same short name are the same
pub same_file : (program : List Entry) (a b : ℕ) (p q : ProtocolDecl) → IsProgram program → BearTheirNames program → protocol_of program a ≡ Some p → protocol_of program b ≡ Some q → short_name p.full ≡ short_name q.full → a ≡ b
same_file program a b p q is named has other same =
    option_and_then_some (λ (e : Entry). e.unit.protocol) (slice_get program a) p has (λ d at here.
    option_and_then_some (λ (e : Entry). e.unit.protocol) (slice_get program b) q other (λ e there has_it.
    one_file program a b d e is at there
    (key_of program a d p named at here ∙ ap (λ (name : List ℕ). name ++ ending kinds.Protocol) same ∙ sym (key_of program b e q named there has_it))))

-- Names that are words

-- a protocol that a word finds has the word as its short name
found_short : (program : List Entry) (file : ℕ) (text : List ℕ) (p : ℕ) → IsWord text → FindsProtocol program file text p → (q : ProtocolDecl) × (protocol_of program p ≡ Some q) × (short_name q.full ≡ text)
found_short program file text p word (full, seen, named) = go (slice_get program p) refl (sees_shown program seen).1
  where
    short : short_name full ≡ text
    short = elim named [ inl whole ↦ ap short_name whole.0 ∙ word_short text word | inr by ↦ by.1 ]

    held : (e : Entry) (o : Option ProtocolDecl) → slice_get program p ≡ Some e → e.unit.protocol ≡ o → option_map (λ r. r.full) o ≡ Some full → (q : ProtocolDecl) × (protocol_of program p ≡ Some q) × (short_name q.full ≡ text)
    held e None at has h = absurd (none-some full h)
    held e (Some q) at has h = (q, ap (λ (o : Option Entry). option_and_then (λ x. x.unit.protocol) o) at ∙ has, ap short_name (same_Some q.full full h) ∙ short)

    go : (o : Option Entry) → slice_get program p ≡ o → option_and_then (λ e. option_map (λ r. r.full) e.unit.protocol) o ≡ Some full → (q : ProtocolDecl) × (protocol_of program p ≡ Some q) × (short_name q.full ≡ text)
    go None at h = absurd (none-some full h)
    go (Some e) at h = held e e.unit.protocol at refl h

-- a word never finds two protocols
pub never_two : (program : List Entry) (file : ℕ) (text : List ℕ) → IsProgram program → BearTheirNames program → IsWord text → (d e : DeclId) → ¬ Counts (FindsAsProtocol program file text) (found.Many d e)
never_two program file text is named word (Protocol a) (Protocol b) (one, two, differ) =
    let p = found_short program file text a word one in
    let q = found_short program file text b word two in
    differ (ap Protocol (same_file program a b p.0 q.0 is named p.1 q.1 (p.2 ∙ sym q.2)))
never_two program file text is named word (Protocol a) (Builtin type) h = h.1
never_two program file text is named word (Protocol a) (Using f i) h = h.1
never_two program file text is named word (Protocol a) (Struct f i) h = h.1
never_two program file text is named word (Protocol a) (Union f i) h = h.1
never_two program file text is named word (Protocol a) (Endpoint f m) h = h.1
never_two program file text is named word (Builtin type) e h = h.0
never_two program file text is named word (Using f i) e h = h.0
never_two program file text is named word (Struct f i) e h = h.0
never_two program file text is named word (Union f i) e h = h.0
never_two program file text is named word (Endpoint f m) e h = h.0
