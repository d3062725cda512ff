-- The rules on how files are read and named, each with the places at which it is broken.
use Rattle.std.specs.Prelude.{◌≡◌, ◌≢◌, ℕ, ◌≤◌, ◌⊎◌, List, ◌++◌, length, slice_get, Option, Some, None, IsSome, IsSomeAnd}
use Rattle.std.specs.List.{Any, Contains}
use Rattle.ipdl_base.specs.declared.finding.Finding.{Finding}
use Rattle.ipdl_base.specs.declared.finding.Place.{Place}
use Rattle.ipdl_base.specs.declared.files.TheConstants.{MOST_BYTES}
use Rattle.ipdl_base.specs.Outside.{HasMore}
use Rattle.ipdl_base.specs.declared.finding.TheConstants.Rule as rule
use Rattle.ipdl_base.specs.Words.{short_name}
use Rattle.ipdl_lex.specs.declared.token.LexedText.{LexedText}
use Rattle.ipdl_lex.specs.declared.token.LexFault.{LexFault}
use Rattle.ipdl_lex.specs.declared.token.LexFault.TheVariants.{BadByte, OpenComment, OpenString, TooLong, NoMemory}
use Rattle.ipdl_lex.specs.Tokens.{IsTokens, IsFault}
use Rattle.ipdl_syntax.specs.declared.tree.FileKind.{FileKind}
use Rattle.ipdl_syntax.specs.declared.tree.FileKind.TheVariants as file
use Rattle.ipdl_syntax.specs.declared.tree.Unit.{Unit as FileUnit}
use Rattle.ipdl_syntax.specs.Programs.{ending, named_key}
use Rattle.ipdl_parse.specs.Place.{HasTree, IsSyntaxPlace, IsPlaceAt}
use Rattle.include_graph.specs.Keys.{HasKind}
use Rattle.include_graph.specs.Sources.{LoadInput, word_of, content, IsAbsent}
use Rattle.include_graph.specs.Reach.{IsUnitOf}

-- the place that means a whole file
abbrev pub whole_file : ℕ → Place
whole_file number = record { file = number; line = 0; column = 0 }

-- the place of a fault of the text
abbrev pub place_of : LexFault → Option Place
place_of (BadByte place) = Some place
place_of (OpenComment place) = Some place
place_of (OpenString place) = Some place
place_of (TooLong place) = Some place
place_of NoMemory = None

-- The file of this number, which contains these bytes, has no tokens; this is the place of the fault.
pub record HasBadToken (number : ℕ) (held : Option (List ℕ)) (place : Place) : Type 0 where
  pub bytes : List ℕ
  pub has : held ≡ Some bytes
  pub small : length bytes ≤ MOST_BYTES
  pub fault : LexFault
  pub is_fault : IsFault number bytes fault
  pub here : place_of fault ≡ Some place

-- The file of this number and key has tokens, and these have no tree; this is the place at which they cannot continue
-- to a tree.
pub record HasSyntaxFault (number : ℕ) (key : List ℕ) (held : Option (List ℕ)) (place : Place) : Type 0 where
  pub bytes : List ℕ
  pub has : held ≡ Some bytes
  pub small : length bytes ≤ MOST_BYTES
  pub lexed : LexedText
  pub tokens : IsTokens number bytes lexed
  pub kind : FileKind
  pub is_kind : HasKind key kind
  pub none : ¬ HasTree kind lexed.tokens
  pub index : ℕ
  pub longest : IsSyntaxPlace kind lexed.tokens index
  pub here : IsPlaceAt lexed.tokens lexed.end index place

-- this holds of the number and the key of one of the files
abbrev pub OfFile : List (List ℕ) → (ℕ → List ℕ → Type 0) → Type 0
OfFile keys Holds = (number : ℕ) × (key : List ℕ) × (slice_get keys number ≡ Some key) × Holds number key

-- this holds of the key of one of the files and of its tree
abbrev pub OfUnit : LoadInput → List (List ℕ) → (List ℕ → FileUnit → Type 0) → Type 0
OfUnit given keys Holds = OfFile keys (λ number key. (unit : FileUnit) × IsUnitOf number key (content given key) unit × Holds key unit)

-- an include at this place names a key with this property
abbrev pub IncludesAt : Place → (List ℕ → Type 0) → FileUnit → Type 0
IncludesAt place Holds unit = Any (λ i. (i.place ≡ place) × Any Holds (named_key i.kind i.name)) unit.includes

-- the protocol of the file, whose name is at this place, has another short name than the file's key
abbrev pub IsMisnamedAt : Place → List ℕ → FileUnit → Type 0
IsMisnamedAt place key unit = IsSomeAnd unit.protocol (λ p. (p.place ≡ place) × (short_name p.full ++ ending file.Protocol ≢ key))

-- a file has no tokens
abbrev pub IsBadToken : LoadInput → List (List ℕ) → Place → Type 0
IsBadToken given keys place = OfFile keys (λ number key. HasBadToken number (content given key) place)

-- a file has tokens that have no tree
abbrev pub IsSyntaxFault : LoadInput → List (List ℕ) → Place → Type 0
IsSyntaxFault given keys place = OfFile keys (λ number key. HasSyntaxFault number key (content given key) place)

-- A word names no file, or an include names a key of the list that has no file.
abbrev pub IsNotFound : LoadInput → List (List ℕ) → Place → Type 0
IsNotFound given keys place =
    OfFile keys (λ number key. IsSome (word_of given.words key) × IsAbsent given key × (place ≡ whole_file number))
    ⊎ OfUnit given keys (λ _. IncludesAt place (λ key. Contains keys key × IsAbsent given key))

-- a protocol has another name than its file
abbrev pub IsMisnamed : LoadInput → List (List ℕ) → Place → Type 0
IsMisnamed given keys place = OfUnit given keys (IsMisnamedAt place)

-- A file has more bytes than are read, or an include names a key that is not in the list.
abbrev pub IsTooLarge : LoadInput → List (List ℕ) → Place → Type 0
IsTooLarge given keys place =
    OfFile keys (λ number key. HasMore MOST_BYTES (content given key) × (place ≡ whole_file number))
    ⊎ OfUnit given keys (λ _. IncludesAt place (λ key. ¬ Contains keys key))

-- the finding holds of the files of these keys: its rule is broken at its place
abbrev pub IsBroken : LoadInput → List (List ℕ) → Finding → Type 0
IsBroken given keys f =
    ((f.rule ≡ rule.BAD_TOKEN) × IsBadToken given keys f.place)
    ⊎ (((f.rule ≡ rule.SYNTAX_FAULT) × IsSyntaxFault given keys f.place)
    ⊎ (((f.rule ≡ rule.FILE_NOT_FOUND) × IsNotFound given keys f.place)
    ⊎ (((f.rule ≡ rule.MISNAMED_PROTOCOL) × IsMisnamed given keys f.place)
    ⊎ ((f.rule ≡ rule.TOO_LARGE) × IsTooLarge given keys f.place))))
