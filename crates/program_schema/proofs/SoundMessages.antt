-- The messages of a clean program's schema are as the rules demand.
use Rattle.std.proofs.Common.{◌≡◌, ◌≢◌, ◌∙◌, inl, inr, ℕ, IsTrue, List, length, Option, Some, None, IsSome, IfSome, slice_get, refl, sym, subst}
use Rattle.std.specs.List.{All}
use Rattle.ipdl_base.specs.Sound.{IsFieldInRange, IsSoundMessage, IsPlainAsync as IsPlainRow, IsKindOf as IsSoundKind}
use Rattle.ipdl_base.specs.Words.{IsWord}
use Rattle.ipdl_base.specs.declared.kinds.Direction.{Direction}
use Rattle.ipdl_base.specs.declared.kinds.Direction.TheVariants as direction
use Rattle.ipdl_base.specs.declared.kinds.Semantics.{Semantics}
use Rattle.ipdl_base.specs.declared.kinds.Semantics.TheVariants.{Async, Sync}
use Rattle.ipdl_base.specs.declared.schema.Kind.{Kind}
use Rattle.ipdl_base.specs.declared.schema.Kind.TheVariants.{Normal, Constructor, Delete}
use Rattle.ipdl_base.specs.declared.schema.MessageRow.{MessageRow}
use Rattle.ipdl_base.specs.declared.schema.ParamRow.{ParamRow}
use Rattle.ipdl_base.specs.declared.schema.ProtocolRow.{ProtocolRow}
use Rattle.ipdl_base.specs.declared.schema.Schema.{Schema}
use Rattle.ipdl_syntax.specs.Units.{ProtocolHasWords}
use Rattle.ipdl_syntax.specs.declared.program.Entry.{Entry}
use Rattle.ipdl_syntax.specs.declared.tree.MessageDecl.{MessageDecl}
use Rattle.ipdl_syntax.specs.declared.tree.Param.{Param}
use Rattle.ipdl_syntax.specs.declared.tree.ProtocolDecl.{ProtocolDecl}
use Rattle.message_rules.specs.Messages.{IsPlainAsync}
use Rattle.name_table.specs.declared.kinds.MessageKind.{MessageKind}
use Rattle.name_table.specs.declared.kinds.MessageKind.TheVariants as kind
use Rattle.name_table.specs.Decls.{protocol_of}
use Rattle.name_table.specs.Kinds.{IsKindOf, kind_of_message}
use Rattle.program_schema.specs.Clean.{IsClean}
use Rattle.program_schema.specs.Numbers.{Numbering}
use Rattle.program_schema.specs.SchemaOf.{AreReturnRows, IsMessageRow, IsProtocolRow, IsRowKind, IsSchemaOf}
use Rattle.program_schema.proofs.Lists.{holds_at}
use Rattle.program_schema.proofs.KindsOfMessages.{sound_kind}
use Rattle.program_schema.proofs.Numbered.{FieldInRange, params_in_range}
use Rattle.program_schema.proofs.Unbroken.{not_plain_sync, not_inside_sync, not_inside_cpow, not_bad_compress, not_bad_lazy, not_bad_maker}

-- What cannot be denied of words with finitely many values

to_parent : (d : Direction) → ¬ (d ≢ direction.Parent) → d ≡ direction.Parent
to_parent direction.Parent undenied = refl
to_parent direction.Child undenied = absurd (undenied (λ is. cc))
to_parent direction.Both undenied = absurd (undenied (λ is. cc))

sync_else : (s : Semantics) → ¬ (s ≡ Async) → s ≡ Sync
sync_else Sync denied = refl
sync_else Async denied = absurd (denied refl)

async_else : (s : Semantics) → ¬ (s ≡ Sync) → s ≡ Async
async_else Async denied = refl
async_else Sync denied = absurd (denied refl)

async_undenied : (s : Semantics) → ¬ ¬ (s ≡ Async) → s ≡ Async
async_undenied Async undenied = refl
async_undenied Sync undenied = absurd (undenied (λ is. cc))

normal_undenied : (k : MessageKind) → ¬ ¬ (kind.Normal ≡ k) → kind.Normal ≡ k
normal_undenied kind.Normal undenied = refl
normal_undenied kind.Constructor undenied = absurd (undenied (λ is. cc))
normal_undenied kind.Destructor undenied = absurd (undenied (λ is. cc))

none_else : {X : Type 0} (o : Option X) → ¬ IsSome o → o ≡ None
none_else None denied = refl
none_else (Some x) denied = absurd (denied refl)

-- Rows of returns

no_returns : (program : List Entry) (n : Numbering) (file : ℕ) (ps : Option (List Param)) (rows : Option (List ParamRow)) → AreReturnRows program n file ps rows → ps ≡ None → rows ≡ None
no_returns program n file None None are is = refl
no_returns program n file None (Some rows) are is = absurd are
no_returns program n file (Some ps) rows are is = cc

returns_in_range : (program : List Entry) (n : Numbering) (file : ℕ) (ps : Option (List Param)) (rows : Option (List ParamRow)) → AreReturnRows program n file ps rows → IfSome rows (λ rs. All (FieldInRange n) rs)
returns_in_range program n file None None are = tt
returns_in_range program n file None (Some rows) are = absurd are
returns_in_range program n file (Some ps) None are = absurd are
returns_in_range program n file (Some ps) (Some rows) are = params_in_range program n file ps rows are

-- a message that is normal has a normal row
normal_row : (program : List Entry) (n : Numbering) (file : ℕ) (p : ProtocolDecl) (m : MessageDecl) (k : Kind) → IsRowKind program n file p m k → kind.Normal ≡ kind_of_message p m → k ≡ Normal
normal_row program n file p m Normal told is = refl
normal_row program n file p m (Constructor c) told is = let clash : kind.Constructor ≡ kind.Normal = told.0 ∙ sym is in cc
normal_row program n file p m Delete told is = let clash : kind.Destructor ≡ kind.Normal = told ∙ sym is in cc

module _ (program : List Entry) (schema : Schema) (clean : IsClean program) (is : IsSchemaOf program schema) where
  module _ (number file : ℕ) (p : ProtocolDecl) (row : ProtocolRow) (there : protocol_of program file ≡ Some p) (words : ProtocolHasWords p) (its : IsProtocolRow program is.numbering schema.types number file p row) where
    module _ (index : ℕ) (m : MessageDecl) (message : MessageRow) (at : slice_get p.messages index ≡ Some m) (told : IsMessageRow program is.numbering schema.types number file p index m message) where
      plain_row : ¬ ¬ IsPlainAsync p m → IsPlainRow message
      plain_row undenied =
          let semantics : m.semantics ≡ Async = async_undenied m.semantics (λ denied. undenied (λ plain. denied plain.semantics)) in
          let normal : kind.Normal ≡ kind_of_message p m = normal_undenied (kind_of_message p m) (λ denied. undenied (λ plain. denied plain.kind)) in
          (told.semantics ∙ semantics, normal_row program is.numbering file p m message.kind told.kind_is normal)

      delete_row : message.kind ≡ Delete → (message.semantics ≡ Async) × (message.returns ≡ None)
      delete_row deletes =
          let made : IsKindOf p m kind.Destructor = subst (IsRowKind program is.numbering file p m) deletes told.kind_is in
          let good = not_bad_maker program clean file p there index m at in
          (told.semantics ∙ async_else m.semantics (λ sync. good (inl (made, inl sync))), no_returns program is.numbering file m.returns message.returns told.returns (none_else m.returns (λ some. good (inl (made, inr some)))))

      constructor_row : (made : ℕ) → message.kind ≡ Constructor made → message.semantics ≡ Async → message.returns ≡ None
      constructor_row made constructs async =
          let its_kind : IsRowKind program is.numbering file p m (Constructor made) = subst (IsRowKind program is.numbering file p m) constructs told.kind_is in
          let good = not_bad_maker program clean file p there index m at in
          no_returns program is.numbering file m.returns message.returns told.returns (none_else m.returns (λ some. good (inr (its_kind.0, sym told.semantics ∙ async, some))))

      pub sound_message : length schema.protocols ≡ length is.numbering.files → length schema.types ≡ length is.numbering.types → IsSoundMessage schema number row index message
      sound_message protocols types =
          let m_words = holds_at _ p.messages index m words.messages at in
          record {
            number = told.number_is;
            name = subst IsWord (sym told.name) m_words.name;
            params = subst (λ k. All (IsFieldInRange k (length schema.types)) message.params) (sym protocols) (subst (λ k. All (IsFieldInRange (length is.numbering.files) k) message.params) (sym types) (params_in_range program is.numbering file m.params message.params told.params));
            returns = subst (λ k. IfSome message.returns (λ rs. All (IsFieldInRange k (length schema.types)) rs)) (sym protocols) (subst (λ k. IfSome message.returns (λ rs. All (IsFieldInRange (length is.numbering.files) k) rs)) (sym types) (returns_in_range program is.numbering file m.returns message.returns told.returns));
            kind = subst (λ text. IsSoundKind schema.protocols row text message.kind) (sym told.name) (sound_kind program schema is file p row words.manages its.manages m m_words.name message.kind told.kind_is);
            carried = told.carried;
            plain_sync = λ sync level. told.direction ∙ to_parent m.direction (λ child. not_plain_sync program clean file p there index m at (record { sync = sym told.semantics ∙ sync; level = sym told.level ∙ level; child = child }));
            inside_sync = λ level. told.semantics ∙ sync_else m.semantics (λ async. not_inside_sync program clean file p there index m at (record { level = sym told.level ∙ level; semantics = async }));
            inside_cpow = λ level. told.direction ∙ to_parent m.direction (λ child. not_inside_cpow program clean file p there index m at (record { level = sym told.level ∙ level; child = child }));
            compressed = λ compressed. plain_row (λ other. not_bad_compress program clean file p there index m at (record { compressed = λ plain. compressed (told.compress ∙ plain); other = other }));
            lazy = λ lazy. plain_row (λ other. not_bad_lazy program clean file p there index m at (record { lazy = subst IsTrue told.lazy lazy; other = other }));
            delete = delete_row;
            constructor = constructor_row;
          }
