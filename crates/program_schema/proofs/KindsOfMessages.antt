-- The kinds of messages in a schema are those that their names determine.
use Rattle.std.proofs.Common.{◌≡◌, ◌∙◌, inl, inr, ℕ, Bool, true, false, true≢false, ◌&&◌, List, [], ◌∷◌, Some, None, option_map, codes, slice_get, bytes_eq, nat_le, refl, sym, ap, subst}
use Rattle.std.specs.Prelude.{if◌then◌else◌}
use Rattle.std.specs.List.{AllZip, Contains, list_any, list_all}
use Rattle.std.proofs.lemmas.Bool.{and_from, and_parts, eqb-true, false_from_ne_true, or_from, or_left}
use Rattle.std.proofs.lemmas.Bool.Decides.{not_from_Decides}
use Rattle.std.proofs.lemmas.List.Folds.{Any-from_list_any, list_any-from_Any}
use Rattle.std.proofs.lemmas.Slice.Eq.{bytes_eq-Decides}
use Rattle.ipdl_base.specs.Sound.{IsKindOf as IsSoundKind, IsNamed}
use Rattle.ipdl_base.specs.Words.{IsWord, is_word_byte, is_word_start, short_name}
use Rattle.ipdl_base.specs.declared.schema.Kind.{Kind}
use Rattle.ipdl_base.specs.declared.schema.Kind.TheVariants.{Normal, Constructor, Delete}
use Rattle.ipdl_base.specs.declared.schema.ProtocolRow.{ProtocolRow}
use Rattle.ipdl_base.specs.declared.schema.Schema.{Schema}
use Rattle.ipdl_syntax.specs.Units.{NamesHaveWords}
use Rattle.ipdl_syntax.specs.declared.program.Entry.{Entry}
use Rattle.ipdl_syntax.specs.declared.tree.MessageDecl.{MessageDecl}
use Rattle.ipdl_syntax.specs.declared.tree.NameAt.{NameAt}
use Rattle.ipdl_syntax.specs.declared.tree.ProtocolDecl.{ProtocolDecl}
use Rattle.name_table.specs.declared.kinds.MessageKind.{MessageKind}
use Rattle.name_table.specs.declared.kinds.MessageKind.TheVariants as kind
use Rattle.name_table.specs.Decls.{FindsOneProtocol, protocol_of}
use Rattle.name_table.specs.Finds.{IsNameOf}
use Rattle.name_table.proofs.FullNames.{colon, short_name-whole}
use Rattle.name_table.proofs.Seeing.{sees_shown}
use Rattle.program_schema.specs.SchemaOf.{IsNumberOfName, IsRowKind, IsSchemaOf}
use Rattle.program_schema.proofs.Lists.{any_at, any_place, holds_at, in_place, place_in, row_had, row_of, rows_of}
use Rattle.program_schema.proofs.Numberings.{one_number_each}
use Rattle.program_schema.proofs.OneSchema.{one_number_of_name}
use Rattle.program_schema.proofs.Unbroken.{and_some, entry_with, some_and}

-- A word is its own short name

no_colon : (b : ℕ) → is_word_byte b ≡ true → colon b ≡ false
no_colon b is = false_from_ne_true (colon b) (λ e. true≢false (sym (ap is_word_byte (sym (eqb-true b 58 e)) ∙ is)))

no_colons : (bs : List ℕ) → list_all is_word_byte bs ≡ true → list_any colon bs ≡ false
no_colons [] all = refl
no_colons (b ∷ bs) all =
    let parts = and_parts (is_word_byte b) (list_all is_word_byte bs) all in
    or_from (colon b) (list_any colon bs) (no_colon b parts.0) (no_colons bs parts.1)

word_bytes : (text : List ℕ) → IsWord text → list_all is_word_byte text ≡ true
word_bytes [] is = refl
word_bytes (b ∷ bs) is =
    let parts = and_parts (is_word_start b) (list_all is_word_byte bs) is in
    and_from (is_word_byte b) (list_all is_word_byte bs) (or_left (is_word_start b) (nat_le 48 b && nat_le b 57) parts.0) parts.1

pub word_short : (text : List ℕ) → IsWord text → short_name text ≡ text
word_short text is = short_name-whole text (no_colons text (word_bytes text is))

-- A declaration that a word finds has the word as its short name

short_of_named : (text full : List ℕ) → IsWord text → IsNameOf text None full → short_name full ≡ text
short_of_named text full is (inl named) = ap short_name named.0 ∙ word_short text is
short_of_named text full is (inr named) = named.1

found_short : (program : List Entry) (file other : ℕ) (text : List ℕ) (q : ProtocolDecl) → IsWord text → FindsOneProtocol program file text other → protocol_of program other ≡ Some q → short_name q.full ≡ text
found_short program file other text q is finds there =
    let seen = finds.0 in
    let its = entry_with program other (λ e. e.unit.protocol) q there in
    let named = entry_with program other (λ e. option_map (λ p. p.full) e.unit.protocol) seen.0 (sees_shown program seen.1).1 in
    let one : Some its.0 ≡ Some named.0 = sym its.1 ∙ named.1 in
    let entries : its.0 ≡ named.0 = cc in
    let names : Some q.full ≡ Some seen.0 = ap (option_map (λ (p : ProtocolDecl). p.full)) (sym its.2) ∙ ap (λ (e : Entry). option_map (λ (p : ProtocolDecl). p.full) e.unit.protocol) entries ∙ named.2 in
    let same : q.full ≡ seen.0 = cc in
    ap short_name same ∙ short_of_named text seen.0 is seen.2

-- The meaning of the tests that give a kind

abbrev by_tests : Bool → Bool → MessageKind
by_tests delete managed = if delete then kind.Destructor else (if managed then kind.Constructor else kind.Normal)

delete_tests : (delete managed : Bool) → kind.Destructor ≡ by_tests delete managed → delete ≡ true
delete_tests true managed is = refl
delete_tests false true is = cc
delete_tests false false is = cc

constructor_tests : (delete managed : Bool) → kind.Constructor ≡ by_tests delete managed → (delete ≡ false) × (managed ≡ true)
constructor_tests true managed is = cc
constructor_tests false true is = (refl, refl)
constructor_tests false false is = cc

normal_tests : (delete managed : Bool) → kind.Normal ≡ by_tests delete managed → (delete ≡ false) × (managed ≡ false)
normal_tests true managed is = cc
normal_tests false true is = cc
normal_tests false false is = (refl, refl)

-- Kinds

module _ (program : List Entry) (schema : Schema) (is : IsSchemaOf program schema) where
  -- the row of the protocol that a word finds
  row_of_word : (file : ℕ) (text : List ℕ) (c : ℕ) → IsWord text → IsNumberOfName program is.numbering file text c → (r : ProtocolRow) × (slice_get schema.protocols c ≡ Some r) × (short_name r.name ≡ text)
  row_of_word file text c word number =
      let r = row_of _ is.numbering.files schema.protocols is.protocols c number.0 number.2 in
      let q = some_and (protocol_of program number.0) _ r.2 in
      (r.0, r.1, ap short_name q.2.name ∙ found_short program file number.0 text q.0 word number.1 q.1)

  word_is_named : (file : ℕ) (text : List ℕ) (c : ℕ) → IsWord text → IsNumberOfName program is.numbering file text c → IsNamed schema.protocols c text
  word_is_named file text c word number = let r = row_of_word file text c word number in and_some (slice_get schema.protocols c) _ r.0 r.1 r.2

  named_once : (file : ℕ) (text other : List ℕ) (c : ℕ) → IsWord text → IsNumberOfName program is.numbering file text c → IsNamed schema.protocols c other → text ≡ other
  named_once file text other c word number named =
      let r = row_of_word file text c word number in
      let u = some_and (slice_get schema.protocols c) _ named in
      let one : Some r.0 ≡ Some u.0 = sym r.1 ∙ u.1 in
      let rows : r.0 ≡ u.0 = cc in
      sym r.2 ∙ ap (λ (w : ProtocolRow). short_name w.name) rows ∙ u.2

  module _ (file : ℕ) (p : ProtocolDecl) (row : ProtocolRow) (words : NamesHaveWords p.manages) (manages : AllZip (λ (at : NameAt) c. IsNumberOfName program is.numbering file at.name c) p.manages row.manages) (m : MessageDecl) (word : IsWord m.name) where
    managed_number : list_any (λ n. bytes_eq n.name m.name) p.manages ≡ true → (c : ℕ) → IsNumberOfName program is.numbering file m.name c → Contains row.manages c
    managed_number some c number =
        let found = any_place _ p.manages (Any-from_list_any (λ n. bytes_eq n.name m.name) p.manages some) in
        let there = row_of _ p.manages row.manages (rows_of _ 0 p.manages row.manages manages) found.0 found.1 found.2 in
        let names : found.1.name ≡ m.name = (bytes_eq-Decides found.1.name m.name).0 found.3 in
        let same : there.0 ≡ c = one_number_of_name program is.numbering (one_number_each program is.numbering is.files is.ids) file m.name there.0 c (subst (λ text. IsNumberOfName program is.numbering file text there.0) names there.2) number in
        in_place row.manages found.0 c (there.1 ∙ ap Some same)

    none_named : list_any (λ n. bytes_eq n.name m.name) p.manages ≡ false → (c : ℕ) → Contains row.manages c → ¬ IsNamed schema.protocols c m.name
    none_named none c among named =
        let place = place_in row.manages c among in
        let had = row_had _ p.manages row.manages (rows_of _ 0 p.manages row.manages manages) place.0 c place.1 in
        let names : had.0.name ≡ m.name = named_once file had.0.name m.name c (holds_at (λ n. IsWord n.name) p.manages place.0 had.0 words had.1) had.2 named in
        true≢false (sym (list_any-from_Any (λ n. bytes_eq n.name m.name) p.manages (any_at _ p.manages place.0 had.0 had.1 ((bytes_eq-Decides had.0.name m.name).1 names))) ∙ none)

    pub sound_kind : (k : Kind) → IsRowKind program is.numbering file p m k → IsSoundKind schema.protocols row m.name k
    sound_kind Normal told =
        let tests = normal_tests _ _ told in
        (not_from_Decides _ (bytes_eq-Decides m.name (codes "__delete__")) tests.0, none_named tests.1)
    sound_kind (Constructor c) told =
        let tests = constructor_tests _ _ told.0 in
        (not_from_Decides _ (bytes_eq-Decides m.name (codes "__delete__")) tests.0, managed_number tests.1 c told.1, word_is_named file m.name c word told.1)
    sound_kind Delete told = (bytes_eq-Decides m.name (codes "__delete__")).0 (delete_tests _ _ told)
