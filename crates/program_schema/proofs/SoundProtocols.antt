-- The protocols of a clean program's schema are as the rules demand.
use Rattle.std.proofs.Common.{◌≡◌, ◌≢◌, ◌∙◌, inl, inr, ◌<◌, ◌≤◌, ◌++◌, ℕ, List, length, get_or, Option, Some, None, IfSome, slice_get, sym, ap, subst, arith}
use Rattle.std.specs.List.{All, AllPairs}
use Rattle.std.proofs.lemmas.Bool.{cases_order}
use Rattle.std.proofs.lemmas.Option.{slice_get-get_or}
use Rattle.ipdl_base.specs.Sound.{IsSoundProtocol}
use Rattle.ipdl_base.specs.Words.{IsFullName, short_name}
use Rattle.ipdl_base.specs.declared.schema.MessageRow.{MessageRow}
use Rattle.ipdl_base.specs.declared.schema.ProtocolRow.{ProtocolRow}
use Rattle.ipdl_base.specs.declared.schema.Schema.{Schema}
use Rattle.ipdl_syntax.specs.Programs.{ending}
use Rattle.ipdl_syntax.specs.Units.{ProtocolHasWords}
use Rattle.ipdl_syntax.specs.declared.program.Entry.{Entry}
use Rattle.ipdl_syntax.specs.declared.tree.FileKind.TheVariants as file_kind
use Rattle.ipdl_syntax.specs.declared.tree.ProtocolDecl.{ProtocolDecl}
use Rattle.name_table.specs.Decls.{protocol_of}
use Rattle.program_schema.specs.Clean.{IsClean}
use Rattle.program_schema.specs.SchemaOf.{IsProtocolRow, IsSchemaOf}
use Rattle.program_schema.proofs.Lists.{holds_at, pair_at, row_had, rows_length}
use Rattle.program_schema.proofs.Numbered.{few_files, names_in_range}
use Rattle.program_schema.proofs.Numberings.{one_number_each}
use Rattle.program_schema.proofs.SoundMessages.{sound_message}
use Rattle.program_schema.proofs.Unbroken.{entry_with, few_messages, messages_apart, some_and}

at_some : {X : Type 0} (o : Option X) (P : X → Type 0) (x : X) → IfSome o P → o ≡ Some x → P x
at_some None P x holds is = cc
at_some (Some y) P x holds is = let same : y ≡ x = cc in subst P same holds

-- elements that differ at any two indices differ pairwise
pairwise : {X : Type 0} (R : X → X → Type 0) (xs : List X) → ((i j : ℕ) (x y : X) → i < j → slice_get xs i ≡ Some x → slice_get xs j ≡ Some y → R x y) → AllPairs R xs
pairwise R xs apart i j d before within = apart i j (get_or xs i d) (get_or xs j d) before (slice_get-get_or xs i d (omega arith)) (slice_get-get_or xs j d within)

module _ (program : List Entry) (schema : Schema) (clean : IsClean program) (is : IsSchemaOf program schema) where
  pub protocols_length : length schema.protocols ≡ length is.numbering.files
  protocols_length = sym (rows_length _ 0 is.numbering.files schema.protocols is.protocols)

  protocol_words : (file : ℕ) (p : ProtocolDecl) → protocol_of program file ≡ Some p → ProtocolHasWords p
  protocol_words file p there =
      let entry = entry_with program file (λ e. e.unit.protocol) p there in
      at_some entry.0.unit.protocol ProtocolHasWords p (clean.is_program.entries file entry.0 entry.1).words.protocol entry.2

  messages_distinct : (number file : ℕ) (p : ProtocolDecl) (row : ProtocolRow) → protocol_of program file ≡ Some p → IsProtocolRow program is.numbering schema.types number file p row → AllPairs (λ a b. a.name ≢ b.name) row.messages
  messages_distinct number file p row there its = pairwise (λ (a b : MessageRow). a.name ≢ b.name) row.messages (λ i j a b before first second same.
      let one = row_had _ p.messages row.messages its.messages i a first in
      let other = row_had _ p.messages row.messages its.messages j b second in
      messages_apart program clean file p there i j one.0 other.0 before one.1 other.1 (sym one.2.name ∙ same ∙ other.2.name))

  pub sound_protocol : length schema.types ≡ length is.numbering.types → (number : ℕ) (row : ProtocolRow) → slice_get schema.protocols number ≡ Some row → IsSoundProtocol schema number row
  sound_protocol types number row at =
      let had = row_had _ is.numbering.files schema.protocols is.protocols number row at in
      let p = some_and (protocol_of program had.0) _ had.2 in
      let words = protocol_words had.0 p.0 p.1 in
      let few = few_messages program clean had.0 p.0 p.1 in
      let same = rows_length _ 0 p.0.messages row.messages p.2.messages in
      record {
        name = subst IsFullName (sym p.2.name) words.full;
        managers = subst (λ k. All (λ m. m < k) row.managers) (sym protocols_length) (names_in_range program is.numbering had.0 p.0.managers row.managers p.2.managers);
        manages = subst (λ k. All (λ m. m < k) row.manages) (sym protocols_length) (names_in_range program is.numbering had.0 p.0.manages row.manages p.2.manages);
        few = omega arith;
        messages = λ i message there.
            let m = row_had _ p.0.messages row.messages p.2.messages i message there in
            sound_message program schema clean is number had.0 p.0 row p.1 words p.2 i m.0 message m.1 m.2 protocols_length types;
        distinct = messages_distinct number had.0 p.0 row p.1 p.2;
      }

  -- files at two indices have protocols with different short names
  files_apart : (x y : ℕ) (p q : ProtocolDecl) → x ≢ y → protocol_of program x ≡ Some p → protocol_of program y ≡ Some q → short_name p.full ≢ short_name q.full
  files_apart x y p q differ there other same =
      let e = entry_with program x (λ e. e.unit.protocol) p there in
      let f = entry_with program y (λ e. e.unit.protocol) q other in
      let e_key = at_some e.0.unit.protocol _ p (holds_at _ program x e.0 clean.named e.1) e.2 in
      let f_key = at_some f.0.unit.protocol _ q (holds_at _ program y f.0 clean.named f.1) f.2 in
      let keys : e.0.key ≡ f.0.key = e_key ∙ ap (λ (name : List ℕ). name ++ ending file_kind.Protocol) same ∙ sym f_key in
      elim (cases_order x y) [
        | inl one ↦ differ one
        | inr (inl before) ↦ pair_at (λ (a b : Entry). a.key ≢ b.key) program x y e.0 f.0 clean.is_program.distinct before e.1 f.1 keys
        | inr (inr after) ↦ pair_at (λ (a b : Entry). a.key ≢ b.key) program y x f.0 e.0 clean.is_program.distinct after f.1 e.1 (sym keys)
      ]

  pub protocols_distinct : AllPairs (λ a b. short_name a.name ≢ short_name b.name) schema.protocols
  protocols_distinct = pairwise (λ (a b : ProtocolRow). short_name a.name ≢ short_name b.name) schema.protocols (λ i j a b before first second same.
      let each = one_number_each program is.numbering is.files is.ids in
      let one = row_had _ is.numbering.files schema.protocols is.protocols i a first in
      let other = row_had _ is.numbering.files schema.protocols is.protocols j b second in
      let p = some_and (protocol_of program one.0) _ one.2 in
      let q = some_and (protocol_of program other.0) _ other.2 in
      files_apart one.0 other.0 p.0 q.0 (λ files. let places : i ≡ j = each.files i j one.0 one.1 (other.1 ∙ ap Some (sym files)) in omega arith) p.1 q.1
      (sym (ap short_name p.2.name) ∙ same ∙ ap short_name q.2.name))

  pub few_protocols : length schema.protocols ≤ 4096
  few_protocols =
      let few = few_files program is.numbering is.files (one_number_each program is.numbering is.files is.ids) clean.is_program.few in
      let same = protocols_length in
      omega arith
