-- The findings of the rules on files, listed.
use Rattle.std.proofs.Common.{◌≡◌, ◌≢◌, ◌⊎◌, ℕ, List, ◌++◌, Contains, length, Option, Some, None, IsSome, refl, sym, ap, inl, inr, arith, true≢false}
use Rattle.std.specs.Prelude.{◌↔◌, IsSomeAnd}
use Rattle.std.proofs.lemmas.Bool.{cases_lt}
use Rattle.std.proofs.lemmas.Option.{none-some, same_Some}
use Rattle.ipdl_base.specs.Outside.{HasMore}
use Rattle.ipdl_base.specs.Words.{short_name}
use Rattle.ipdl_base.specs.declared.files.TheConstants.{MOST_BYTES}
use Rattle.ipdl_base.specs.declared.finding.Place.{Place}
use Rattle.ipdl_base.specs.declared.finding.TheConstants.Rule as rule
use Rattle.ipdl_base.proofs.Ends.{by_test, same_is}
use Rattle.ipdl_syntax.specs.declared.tree.FileKind.TheVariants as file
use Rattle.ipdl_syntax.specs.declared.tree.ProtocolDecl.{ProtocolDecl}
use Rattle.ipdl_syntax.specs.Programs.{ending}
use Rattle.grammar_laws.specs.Boxes.{unboxed_held}
use Rattle.include_graph.specs.Keys.{is_same}
use Rattle.include_graph.specs.Rules.{HasBadToken, HasSyntaxFault, IncludesAt, IsBadToken, IsMisnamed, IsMisnamedAt, IsNotFound, IsSyntaxFault, IsTooLarge, OfFile, OfUnit, whole_file}
use Rattle.include_graph.specs.Sources.{LoadInput, IsAbsent, content, word_of}
use Rattle.include_graph.proofs.Ends.{other_is}
use Rattle.include_graph.proofs.Places.{found_or_not}
use Rattle.report_existence.specs.Laws.{IsListed}
use Rattle.report_existence.proofs.Finite.{both_or_not, either_place, no_place, not_or, of_rule, same_places, when}
use Rattle.file_existence.specs.Laws.{FindingsAreListed}
use Rattle.file_existence.proofs.Contents.{bad_token_listed, syntax_fault_listed}
use Rattle.file_existence.proofs.OfFiles.{of_files, of_includes, of_units}

-- protocols that are misnamed

differ_or_not : (one other : List ℕ) → (one ≢ other) ⊎ ((one ≢ other) → ⊥)
differ_or_not one other = by_test (is_same one other) (λ same. inr (λ differ. differ (same_is one other same))) (λ differ. inl (other_is one other differ))

-- the protocol's name is at the place, and the file's key has another name
abbrev Misnamed : List ℕ → Place → Option ProtocolDecl → Type 0
Misnamed key place held = IsSomeAnd held (λ p. (p.place ≡ place) × (short_name p.full ++ ending file.Protocol ≢ key))

plain_name : (key : List ℕ) (place : Place) (held : Option ProtocolDecl) → Misnamed key place held ↔ Misnamed key place (unboxed_held held)
plain_name key place None = ((λ h. h), (λ h. h))
plain_name key place (Some p) = ((λ h. h), (λ h. h))

misnamed_in : (key : List ℕ) (held : Option ProtocolDecl) → IsListed (λ place. Misnamed key place held)
misnamed_in key None = no_place (λ place. Misnamed key place None) (λ place h. h)
misnamed_in key (Some p) = when (short_name p.full ++ ending file.Protocol ≢ key) (differ_or_not (short_name p.full ++ ending file.Protocol) key) p.place

misnamed_listed : (given : LoadInput) (keys : List (List ℕ)) → IsListed (IsMisnamed given keys)
misnamed_listed given keys = of_units given keys (λ key unit p. IsMisnamedAt p key unit) (λ key unit p. plain_name key p unit.protocol) (λ key unit. misnamed_in key unit.protocol)

-- files that are absent or large

none_or_some : (held : Option (List ℕ)) → (held ≡ None) ⊎ ((held ≡ None) → ⊥)
none_or_some None = inl refl
none_or_some (Some bytes) = inr (λ e. none-some bytes (sym e))

some_or_none : (word : Option (List ℕ)) → IsSome word ⊎ (IsSome word → ⊥)
some_or_none None = inr (λ h. true≢false (sym h))
some_or_none (Some word) = inl refl

more_or_not : (held : Option (List ℕ)) → HasMore MOST_BYTES held ⊎ (HasMore MOST_BYTES held → ⊥)
more_or_not None = inr (λ h. none-some h.bytes h.has)
more_or_not (Some bytes) = elim (cases_lt MOST_BYTES (length bytes)) [
  | inl large ↦ inl (record { bytes = bytes; has = refl; large = large })
  | inr small ↦ inr (λ h. let large = h.large in let same = ap length (same_Some bytes h.bytes h.has) in omega arith)
]

not_found_listed : (given : LoadInput) (keys : List (List ℕ)) → IsListed (IsNotFound given keys)
not_found_listed given keys =
    either_place (λ p. OfFile keys (λ number key. IsSome (word_of given.words key) × IsAbsent given key × (p ≡ whole_file number))) (λ p. OfUnit given keys (λ _. IncludesAt p (λ key. Contains keys key × IsAbsent given key)))
    (of_files keys (λ number key p. IsSome (word_of given.words key) × IsAbsent given key × (p ≡ whole_file number))
    (λ number key.
    same_places (λ p. (whole_file number ≡ p) × (IsSome (word_of given.words key) × IsAbsent given key)) (λ p. IsSome (word_of given.words key) × IsAbsent given key × (p ≡ whole_file number))
    (λ p h. (h.1.0, h.1.1, sym h.0)) (λ p h. (sym h.2, (h.0, h.1)))
    (when (IsSome (word_of given.words key) × IsAbsent given key) (both_or_not (some_or_none (word_of given.words key)) (none_or_some (content given key))) (whole_file number))))
    (of_includes given keys (λ key. Contains keys key × IsAbsent given key) (λ key. both_or_not (found_or_not keys key) (none_or_some (content given key))))

too_large_listed : (given : LoadInput) (keys : List (List ℕ)) → IsListed (IsTooLarge given keys)
too_large_listed given keys =
    either_place (λ p. OfFile keys (λ number key. HasMore MOST_BYTES (content given key) × (p ≡ whole_file number))) (λ p. OfUnit given keys (λ _. IncludesAt p (λ key. Contains keys key → ⊥)))
    (of_files keys (λ number key p. HasMore MOST_BYTES (content given key) × (p ≡ whole_file number))
    (λ number key.
    same_places (λ p. (whole_file number ≡ p) × HasMore MOST_BYTES (content given key)) (λ p. HasMore MOST_BYTES (content given key) × (p ≡ whole_file number)) (λ p h. (h.1, sym h.0)) (λ p h. (sym h.1, h.0))
    (when (HasMore MOST_BYTES (content given key)) (more_or_not (content given key)) (whole_file number))))
    (of_includes given keys (λ key. Contains keys key → ⊥) (λ key. not_or (found_or_not keys key)))

pub findings_are_listed : FindingsAreListed
findings_are_listed given keys =
    either_place _ _ (of_rule rule.BAD_TOKEN (IsBadToken given keys) (of_files keys (λ n key. HasBadToken n (content given key)) (λ n key. bad_token_listed n (content given key))))
    (either_place _ _ (of_rule rule.SYNTAX_FAULT (IsSyntaxFault given keys) (of_files keys (λ n key. HasSyntaxFault n key (content given key)) (λ n key. syntax_fault_listed n key (content given key))))
    (either_place _ _ (of_rule rule.FILE_NOT_FOUND (IsNotFound given keys) (not_found_listed given keys))
    (either_place _ _ (of_rule rule.MISNAMED_PROTOCOL (IsMisnamed given keys) (misnamed_listed given keys))
    (of_rule rule.TOO_LARGE (IsTooLarge given keys) (too_large_listed given keys)))))
