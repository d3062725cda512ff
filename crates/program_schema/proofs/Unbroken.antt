-- What a program that breaks no rule has, place by place.
use Rattle.std.proofs.Common.{◌≡◌, ◌≢◌, inl, inr, ◌∙◌, ◌<◌, ◌≤◌, ℕ, zero, suc, List, [], ◌∷◌, map, length, take, Option, Some, None, IsSomeAnd, option_map, option_and_then, slice_get, refl, sym, ap, subst, arith}
use Rattle.std.specs.List.{Contains}
use Rattle.std.proofs.lemmas.Option.{slice_get-map, slice_get_cases}
use Rattle.ipdl_base.specs.declared.finding.Place.{Place}
use Rattle.ipdl_base.specs.declared.finding.Finding.{Finding}
use Rattle.ipdl_base.specs.declared.finding.Rule.{Rule}
use Rattle.ipdl_base.specs.declared.finding.TheConstants.Rule as rule
use Rattle.ipdl_syntax.specs.declared.program.Entry.{Entry}
use Rattle.ipdl_syntax.specs.declared.tree.MessageDecl.{MessageDecl}
use Rattle.ipdl_syntax.specs.declared.tree.ProtocolDecl.{ProtocolDecl}
use Rattle.ipdl_syntax.specs.declared.tree.StructDecl.{StructDecl}
use Rattle.ipdl_syntax.specs.declared.tree.UnionDecl.{UnionDecl}
use Rattle.findings.specs.Repeats.{IsRepeatedAt}
use Rattle.name_table.specs.Decls.{protocol_of, struct_of, union_of}
use Rattle.manager_rules.specs.Broken.{IsRepeatedName, messages_at}
use Rattle.message_rules.specs.Broken.{SomeMessage}
use Rattle.message_rules.specs.Messages.{IsTooMany, IsPlainSyncToChild, IsAsyncInsideSync, IsInsideCpowToChild, IsBadCompress, IsBadLazy, IsBadMaker}
use Rattle.type_rules.specs.Defined.{IsDefinedStruct, IsDefinedUnion, IsUndefinedType}
use Rattle.program_schema.specs.Clean.{IsClean}
use Rattle.program_schema.proofs.Lists.{any_at, in_place}

-- a value that is there, with a property
pub some_and : {X : Type 0} (o : Option X) (P : X → Type 0) → IsSomeAnd o P → (x : X) × (o ≡ Some x) × P x
some_and None P holds = absurd holds
some_and (Some x) P holds = (x, refl, holds)

pub and_some : {X : Type 0} (o : Option X) (P : X → Type 0) (x : X) → o ≡ Some x → P x → IsSomeAnd o P
and_some o P x is holds = subst (λ q. IsSomeAnd q P) (sym is) holds

-- what is looked up in a file of the program is in the file's entry
pub entry_with : {X : Type 0} (program : List Entry) (file : ℕ) (part : Entry → Option X) (x : X) → option_and_then part (slice_get program file) ≡ Some x → (e : Entry) × (slice_get program file ≡ Some e) × (part e ≡ Some x)
entry_with program file part x at = go (slice_get program file) refl at
  where
    go : (o : Option Entry) → slice_get program file ≡ o → option_and_then part o ≡ Some x → (e : Entry) × (slice_get program file ≡ Some e) × (part e ≡ Some x)
    go None is found = cc
    go (Some e) is found = (e, is, found)

taken_at : {X : Type 0} (xs : List X) (j i : ℕ) (x : X) → i < j → slice_get xs i ≡ Some x → slice_get (take j xs) i ≡ Some x
taken_at [] j i x before at = cc
taken_at (y ∷ ys) zero i x before at = absurd (omega arith)
taken_at (y ∷ ys) (suc j) zero x before at = at
taken_at (y ∷ ys) (suc j) (suc i) x before at = taken_at ys j i x (omega arith) at

finding_of : Place → Rule → Finding
finding_of place rule = record { place = place; rule = rule }

module _ (program : List Entry) (clean : IsClean program) where
  module _ (file : ℕ) (p : ProtocolDecl) (there : protocol_of program file ≡ Some p) where
    module _ (index : ℕ) (m : MessageDecl) (at : slice_get p.messages index ≡ Some m) where
      some_message : (Holds : ProtocolDecl → ℕ → MessageDecl → Type 0) → Holds p index m → SomeMessage Holds program m.place
      some_message Holds holds =
          let entry = entry_with program file (λ e. e.unit.protocol) p there in
          any_at _ program file entry.0 entry.1 (and_some entry.0.unit.protocol _ p entry.2 (index, m, at, (holds, refl)))

      pub not_too_many : ¬ IsTooMany index
      unfolding finding_of
      not_too_many h = clean.messages (finding_of m.place rule.TOO_MANY_MESSAGES) (inl (refl, some_message (λ p index m. IsTooMany index) h))

      pub not_plain_sync : ¬ IsPlainSyncToChild m
      unfolding finding_of
      not_plain_sync h = clean.messages (finding_of m.place rule.PLAIN_SYNC_TO_CHILD) (inr (inl (refl, some_message (λ p index m. IsPlainSyncToChild m) h)))

      pub not_inside_sync : ¬ IsAsyncInsideSync m
      unfolding finding_of
      not_inside_sync h = clean.messages (finding_of m.place rule.INSIDE_SYNC_NOT_SYNC) (inr (inr (inl (refl, some_message (λ p index m. IsAsyncInsideSync m) h))))

      pub not_inside_cpow : ¬ IsInsideCpowToChild m
      unfolding finding_of
      not_inside_cpow h = clean.messages (finding_of m.place rule.INSIDE_CPOW_TO_CHILD) (inr (inr (inr (inl (refl, some_message (λ p index m. IsInsideCpowToChild m) h)))))

      pub not_bad_compress : ¬ IsBadCompress p m
      unfolding finding_of
      not_bad_compress h = clean.messages (finding_of m.place rule.BAD_COMPRESS) (inr (inr (inr (inr (inr (inl (refl, some_message (λ p index m. IsBadCompress p m) h)))))))

      pub not_bad_maker : ¬ IsBadMaker p m
      unfolding finding_of
      not_bad_maker h = clean.messages (finding_of m.place rule.BAD_CONSTRUCTOR) (inr (inr (inr (inr (inr (inr (inr (inl (refl, some_message (λ p index m. IsBadMaker p m) h)))))))))

      pub not_bad_lazy : ¬ IsBadLazy p m
      unfolding finding_of
      not_bad_lazy h = clean.messages (finding_of m.place rule.BAD_LAZY_SEND) (inr (inr (inr (inr (inr (inr (inr (inr (refl, some_message (λ p index m. IsBadLazy p m) h)))))))))

    pub few_messages : length p.messages ≤ 32768
    few_messages = elim (slice_get_cases p.messages 32768).1 [
      | inl found ↦ absurd (not_too_many 32768 found.0 found.2 (omega arith))
      | inr past ↦ past.0
    ]

    -- no two messages of a protocol have one name
    pub messages_apart : (i j : ℕ) (a b : MessageDecl) → i < j → slice_get p.messages i ≡ Some a → slice_get p.messages j ≡ Some b → a.name ≢ b.name
    unfolding finding_of
    messages_apart i j a b before first second same =
        let pairs = messages_at p.messages in
        let names : List (List ℕ) = map (λ n. n.0) pairs in
        let name_at : slice_get names i ≡ Some b.name = slice_get-map (λ (n : List ℕ × Place). n.0) pairs i ∙ ap (option_map (λ (n : List ℕ × Place). n.0)) (slice_get-map (λ (m : MessageDecl). (m.name, m.place)) p.messages i ∙ ap (option_map (λ (m : MessageDecl). (m.name, m.place))) first) ∙ ap Some same in
        let among : Contains (take j names) b.name = in_place (take j names) i b.name (taken_at names j i b.name before name_at) in
        let repeated : IsRepeatedAt pairs b.place = (j, (b.name, b.place), slice_get-map (λ (m : MessageDecl). (m.name, m.place)) p.messages j ∙ ap (option_map (λ (m : MessageDecl). (m.name, m.place))) second, (among, refl)) in
        let entry = entry_with program file (λ e. e.unit.protocol) p there in
        let broken : IsRepeatedName program b.place = (file, entry.0, entry.1, and_some entry.0.unit.protocol _ p entry.2 (inr (inr repeated))) in
        clean.managers (finding_of b.place rule.REPEATED_NAME) (inr (inr (inr (inr (inr (inr (inr (refl, broken))))))))

  -- that a struct or a union is defined cannot be denied
  pub struct_undenied : (file index : ℕ) (s : StructDecl) → struct_of program file index ≡ Some s → ¬ ¬ IsDefinedStruct program file s
  unfolding finding_of
  struct_undenied file index s there undefined =
      let entry = entry_with program file (λ e. slice_get e.unit.structs index) s there in
      let broken : IsUndefinedType program s.place = (file, entry.0, entry.1, inl (any_at _ entry.0.unit.structs index s entry.2 (undefined, refl))) in
      clean.types (finding_of s.place rule.UNDEFINED_TYPE) (inr (inr (inl (refl, broken))))

  pub union_undenied : (file index : ℕ) (u : UnionDecl) → union_of program file index ≡ Some u → ¬ ¬ IsDefinedUnion program file u
  unfolding finding_of
  union_undenied file index u there undefined =
      let entry = entry_with program file (λ e. slice_get e.unit.unions index) u there in
      let broken : IsUndefinedType program u.place = (file, entry.0, entry.1, inr (any_at _ entry.0.unit.unions index u entry.2 (undefined, refl))) in
      clean.types (finding_of u.place rule.UNDEFINED_TYPE) (inr (inr (inl (refl, broken))))
