-- The content of the file of a key, the keys that it names, and the place of its bad token or syntax fault.
use Rattle.std.proofs.Common.{◌≡◌, ◌⊎◌, ℕ, ◌≤◌, List, [], length, Option, Some, None, refl, sym, ap, subst, ◌∙◌, inl, inr}
use Rattle.std.proofs.lemmas.Bool.{cases_lt}
use Rattle.ipdl_base.specs.declared.files.TheConstants.{MOST_BYTES}
use Rattle.ipdl_base.specs.declared.finding.Place.{Place}
use Rattle.ipdl_lex.specs.declared.token.LexedText.{LexedText}
use Rattle.ipdl_lex.specs.declared.token.LexFault.{LexFault}
use Rattle.ipdl_lex.specs.declared.token.LexFault.TheVariants.{BadByte, OpenComment, OpenString, TooLong, NoMemory}
use Rattle.ipdl_lex.specs.Tokens.{FailsAt, IsTokens}
use Rattle.ipdl_lex.proofs.Unique.{tokens_unique, fault_unique, never_both}
use Rattle.ipdl_syntax.specs.declared.tree.FileKind.TheVariants as file
use Rattle.ipdl_syntax.specs.declared.tree.Unit.{Unit as FileUnit}
use Rattle.ipdl_syntax.specs.Programs.{ending, named_keys}
use Rattle.grammar_laws.specs.Boxes.{unboxed}
use Rattle.grammar_laws.proofs.Files.{one_tree}
use Rattle.include_graph.specs.declared.content.Content.{Content}
use Rattle.include_graph.specs.declared.content.Content.TheVariants.{Absent, Large, BadToken, SyntaxFault, Read}
use Rattle.include_graph.specs.Reach.{IsUnitOf, Names}
use Rattle.include_graph.specs.Reading.{IsContent}
use Rattle.include_graph.specs.Rules.{HasBadToken, HasSyntaxFault, place_of}
use Rattle.include_graph.proofs.Contents.{OneAnswer, bad_is, fault_is, unit_is}
use Rattle.report_existence.specs.Laws.{IsListed}
use Rattle.report_existence.proofs.Finite.{no_place, one_place, same_places}
use Rattle.file_existence.proofs.Endings.{Kinded, kind_or_none}
use Rattle.file_existence.proofs.Texts.{texts_have_answers}
use Rattle.file_existence.proofs.Trees.{tokens_have_answers}

-- a fault of a text has a place
fault_place : (rest : List ℕ) (here : Place) (fault : LexFault) → FailsAt rest here fault → (place : Place) × (place_of fault ≡ Some place)
fault_place rest here (BadByte place) h = (place, refl)
fault_place rest here (OpenComment place) h = (place, refl)
fault_place rest here (OpenString place) h = (place, refl)
fault_place rest here (TooLong place) h = (place, refl)
fault_place rest here NoMemory h = absurd h

-- the file of this number and key, which contains these bytes, if any, has some content
abbrev pub HasContent : ℕ → List ℕ → Option (List ℕ) → Type 0
HasContent number key held = (content : Content) × IsContent number key held content

by_tokens : (number : ℕ) (key bytes : List ℕ) → Kinded key → length bytes ≤ MOST_BYTES → (lexed : LexedText) → IsTokens number bytes lexed → HasContent number key (Some bytes)
by_tokens number key bytes (kind, is_kind) small lexed tokens = elim (tokens_have_answers kind lexed.tokens lexed.end) [
  | inl tree ↦ (Read tree.0, record { bytes = bytes; has = refl; small = small; lexed = lexed; tokens = tokens; kind = kind; is_kind = is_kind; tree = tree.1 })
  | inr fault ↦ (
    SyntaxFault fault.place,
    record {
      bytes = bytes;
      has = refl;
      small = small;
      lexed = lexed;
      tokens = tokens;
      kind = kind;
      is_kind = is_kind;
      none = fault.none;
      index = fault.index;
      longest = fault.longest;
      here = fault.here;
    },
  )
]

pub content_of : (number : ℕ) (key : List ℕ) (held : Option (List ℕ)) → Kinded key → HasContent number key held
content_of number key None kinded = (Absent, refl)
content_of number key (Some bytes) kinded = elim (cases_lt MOST_BYTES (length bytes)) [
  | inl large ↦ (Large, record { bytes = bytes; has = refl; large = large })
  | inr small ↦ elim (texts_have_answers number bytes) [
    | inl found ↦ by_tokens number key bytes kinded small found.0 found.1
    | inr fault ↦ (
        let place = fault_place fault.1.rest _ fault.0 fault.1.fails in
        (BadToken place.0, record { bytes = bytes; has = refl; small = small; fault = fault.0; is_fault = fault.1; here = place.1 })
        )
  ]
]

-- a text has one answer, and tokens have one tree
answers : OneAnswer
answers = record { one = record { tokens = tokens_unique; tree = one_tree }; fault = fault_unique; never_both = never_both }

module _ (number : ℕ) (key : List ℕ) (held : Option (List ℕ)) where
  -- trees

  unit_by : (c : Content) → IsContent number key held c → ((unit : FileUnit) × IsUnitOf number key held unit) ⊎ ((unit : FileUnit) → IsUnitOf number key held unit → ⊥)
  unit_by Absent is = inr (λ unit u. let e = (unit_is answers number key held Absent unit is u).1 in cc)
  unit_by Large is = inr (λ unit u. let e = (unit_is answers number key held Large unit is u).1 in cc)
  unit_by (BadToken place) is = inr (λ unit u. let e = (unit_is answers number key held (BadToken place) unit is u).1 in cc)
  unit_by (SyntaxFault place) is = inr (λ unit u. let e = (unit_is answers number key held (SyntaxFault place) unit is u).1 in cc)
  unit_by (Read unit) is = inl (unit, is)

  -- the file has a tree, or has no tree
  pub unit_or_none : ((unit : FileUnit) × IsUnitOf number key held unit) ⊎ ((unit : FileUnit) → IsUnitOf number key held unit → ⊥)
  unit_or_none = elim (kind_or_none key) [
    | inl kinded ↦ (let c = content_of number key held kinded in unit_by c.0 c.1)
    | inr none ↦ inr (λ unit u. none u.kind u.is_kind)
  ]

  -- two trees of the file are the same up to where their boxes lie
  pub one_unit : (one other : FileUnit) → IsUnitOf number key held one → IsUnitOf number key held other → unboxed one ≡ unboxed other
  one_unit one other is also =
      let found = unit_is answers number key held (Read other) one also is in
      let same : other ≡ found.0 = (let e = found.1 in cc) in
      found.2 ∙ ap unboxed (sym same)

  -- the file names a list of keys
  pub names_exist : (named : List (List ℕ)) × Names number key held named
  names_exist = elim unit_or_none [ inl found ↦ (named_keys found.0.includes, inl (found.0, found.1, refl)) | inr none ↦ ([], inr (none, refl)) ]

  -- syntax faults

  fault_by : (c : Content) → IsContent number key held c → IsListed (HasSyntaxFault number key held)
  fault_by Absent is = no_place (HasSyntaxFault number key held) (λ p h. let e = fault_is answers number key held Absent p is h in cc)
  fault_by Large is = no_place (HasSyntaxFault number key held) (λ p h. let e = fault_is answers number key held Large p is h in cc)
  fault_by (BadToken place) is = no_place (HasSyntaxFault number key held) (λ p h. let e = fault_is answers number key held (BadToken place) p is h in cc)
  fault_by (SyntaxFault place) is =
      same_places (λ p. p ≡ place) (HasSyntaxFault number key held) (λ p e. subst (HasSyntaxFault number key held) (sym e) is)
      (λ p h. let e = fault_is answers number key held (SyntaxFault place) p is h in cc) (one_place place)
  fault_by (Read unit) is = no_place (HasSyntaxFault number key held) (λ p h. let e = fault_is answers number key held (Read unit) p is h in cc)

  pub syntax_fault_listed : IsListed (HasSyntaxFault number key held)
  syntax_fault_listed = elim (kind_or_none key) [
    | inl kinded ↦ (let c = content_of number key held kinded in fault_by c.0 c.1)
    | inr none ↦ no_place (HasSyntaxFault number key held) (λ p h. none h.kind h.is_kind)
  ]

  -- bad tokens

  bad_by : (c : Content) → IsContent number key held c → IsListed (HasBadToken number held)
  bad_by Absent is = no_place (HasBadToken number held) (λ p h. let e = bad_is answers number key held Absent p is h in cc)
  bad_by Large is = no_place (HasBadToken number held) (λ p h. let e = bad_is answers number key held Large p is h in cc)
  bad_by (BadToken place) is =
      same_places (λ p. p ≡ place) (HasBadToken number held) (λ p e. subst (HasBadToken number held) (sym e) is)
      (λ p h. let e = bad_is answers number key held (BadToken place) p is h in cc) (one_place place)
  bad_by (SyntaxFault place) is = no_place (HasBadToken number held) (λ p h. let e = bad_is answers number key held (SyntaxFault place) p is h in cc)
  bad_by (Read unit) is = no_place (HasBadToken number held) (λ p h. let e = bad_is answers number key held (Read unit) p is h in cc)

-- whatever its key is
pub bad_token_listed : (number : ℕ) (held : Option (List ℕ)) → IsListed (HasBadToken number held)
bad_token_listed number held =
    let key = ending file.Header in
    let c = content_of number key held (file.Header, ([], refl)) in
    bad_by number key held c.0 c.1
