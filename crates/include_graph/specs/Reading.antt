-- What is stored of a file that was searched for.
use Rattle.std.specs.Prelude.{◌≡◌, ℕ, List, [], ◌∷◌, length, map, slice_get, Option, Some, None, string_bytes, unwrap_or}
use Rattle.std.specs.List.{AllZip, Contains, filter_map}
use Rattle.std.specs.Option.{option_and_then, option_or}
use Rattle.ipdl_base.specs.declared.files.TheConstants.{MOST_BYTES}
use Rattle.ipdl_base.specs.Outside.{FileMap, HasMore, IsHeldWithin}
use Rattle.ipdl_lex.specs.declared.token.LexedText.{LexedText}
use Rattle.ipdl_syntax.specs.declared.program.Entry.{Entry}
use Rattle.ipdl_syntax.specs.declared.tree.FileKind.{FileKind}
use Rattle.ipdl_syntax.specs.declared.tree.Include.{Include}
use Rattle.ipdl_syntax.specs.declared.tree.Unit.{Unit as FileUnit}
use Rattle.ipdl_syntax.specs.Program.{Tree}
use Rattle.ipdl_syntax.specs.Programs.{named_key, named_keys}
use Rattle.ipdl_parse.specs.Place.{HasTree, IsSyntaxPlace, IsPlaceAt}
use Rattle.include_graph.specs.declared.content.Content.{Content}
use Rattle.include_graph.specs.declared.content.Content.TheVariants.{Absent, Large, BadToken, SyntaxFault, Read}
use Rattle.include_graph.specs.declared.read.FoundFile.{FoundFile}
use Rattle.include_graph.specs.declared.read.SourceFile.{SourceFile}
use Rattle.include_graph.specs.declared.walk.ReachedFile.{ReachedFile}
use Rattle.include_graph.specs.declared.walk.Target.{Target}
use Rattle.include_graph.specs.declared.walk.Target.TheVariants.{Nothing, LeftOut, File}
use Rattle.include_graph.specs.Growth.{HasWords}
use Rattle.include_graph.specs.Sources.{LoadInput, word_of, name_on_path, content}
use Rattle.include_graph.specs.Reach.{IsUnitOf, IsReachBy}
use Rattle.include_graph.specs.Rules.{HasBadToken, HasSyntaxFault}

-- the content that the tokens of a file of this kind are read as
abbrev pub IsContentOfTokens : FileKind → LexedText → Content → Type 0
IsContentOfTokens kind lexed Absent = ⊥
IsContentOfTokens kind lexed Large = ⊥
IsContentOfTokens kind lexed (BadToken place) = ⊥
IsContentOfTokens kind lexed (SyntaxFault place) = (¬ HasTree kind lexed.tokens) × ((index : ℕ) × IsSyntaxPlace kind lexed.tokens index × IsPlaceAt lexed.tokens lexed.end index place)
IsContentOfTokens kind lexed (Read unit) = Tree kind lexed.tokens unit

-- the content that the file of this number and key is read as, if it contains these bytes, if any
abbrev pub IsContent : ℕ → List ℕ → Option (List ℕ) → Content → Type 0
IsContent number key held Absent = held ≡ None
IsContent number key held Large = HasMore MOST_BYTES held
IsContent number key held (BadToken place) = HasBadToken number held place
IsContent number key held (SyntaxFault place) = HasSyntaxFault number key held place
IsContent number key held (Read unit) = IsUnitOf number key held unit

-- the file of a key that is read under this name, if any
pub record IsSource (number : ℕ) (key : List ℕ) (files : FileMap) (name : Option (List ℕ)) (source : SourceFile) : Type 0 where
  pub called : source.text ≡ unwrap_or name key
  pub content : IsContent number key (option_and_then files name) source.content

-- the first file of the key on the path, if there is one: its name, and the bytes that were read
abbrev pub IsFirstOnPath : FileMap → List (List ℕ) → List ℕ → Option FoundFile → Type 0
IsFirstOnPath files path key None = name_on_path files path key ≡ None
IsFirstOnPath files path key (Some file) = (name_on_path files path key ≡ Some (string_bytes file.name)) × IsHeldWithin MOST_BYTES (files (string_bytes file.name)) file.found

-- what an include leads to among the files of these keys
abbrev pub IsTarget : List (List ℕ) → Include → Target → Type 0
IsTarget keys i Nothing = named_key i.kind i.name ≡ []
IsTarget keys i LeftOut = (key : List ℕ) × (named_key i.kind i.name ≡ key ∷ []) × (length keys ≡ 4096) × (¬ Contains keys key)
IsTarget keys i (File number) = (key : List ℕ) × (named_key i.kind i.name ≡ key ∷ []) × (slice_get keys number ≡ Some key)

-- what each include of a file with a tree leads to
abbrev pub AreTargets : List (List ℕ) → Content → List Target → Type 0
AreTargets keys Absent targets = Unit {0}
AreTargets keys Large targets = Unit {0}
AreTargets keys (BadToken place) targets = Unit {0}
AreTargets keys (SyntaxFault place) targets = Unit {0}
AreTargets keys (Read unit) targets = AllZip (IsTarget keys) unit.includes targets

-- the keys that a file names
abbrev pub row_of : Content → List (List ℕ)
row_of Absent = []
row_of Large = []
row_of (BadToken place) = []
row_of (SyntaxFault place) = []
row_of (Read unit) = named_keys unit.includes

-- the keys that files name
abbrev pub rows_of : List ReachedFile → List (List (List ℕ))
rows_of files = map (λ f. row_of f.source.content) files

-- the file of the key of this number among these keys
pub record IsReached (given : LoadInput) (keys : List (List ℕ)) (number : ℕ) (key : List ℕ) (file : ReachedFile) : Type 0 where
  pub source : IsSource number key given.files (option_or (word_of given.words key) (name_on_path given.files given.path key)) file.source
  pub targets : AreTargets keys file.source.content file.targets.items

-- the files of these keys are read, and the keys are the reach
pub record AreRead (given : LoadInput) (keys : List (List ℕ)) (files : List ReachedFile) : Type 0 where
  pub size : length files ≡ length keys
  pub each : (number : ℕ) (key : List ℕ) (file : ReachedFile) → slice_get keys number ≡ Some key → slice_get files number ≡ Some file → IsReached given keys number key file
  pub reached : IsReachBy given.words keys (rows_of files)

-- the files of these keys are read, and the first `count` keys are those of words
pub record IsGathered (given : LoadInput) (count : ℕ) (keys : List (List ℕ)) (files : List ReachedFile) : Type 0 where
  pub first : List (List ℕ)
  pub firsts : List (List ℕ)
  pub words : HasWords given.words first firsts
  pub counted : length firsts ≡ count
  pub read : AreRead given keys files

-- the number of the file that an include leads to
abbrev pub number_of : Target → Option ℕ
number_of Nothing = None
number_of LeftOut = None
number_of (File number) = Some number

-- the numbers of the files that includes lead to
abbrev pub numbers_of : List Target → List ℕ
numbers_of targets = filter_map number_of targets

-- the file has a tree
abbrev pub IsOfTree : Content → Type 0
IsOfTree content = (unit : FileUnit) × (content ≡ Read unit)

-- the entry is made of the key and its file
pub record IsEntryFrom (key : List ℕ) (file : ReachedFile) (entry : Entry) : Type 0 where
  pub has_key : entry.key ≡ key
  pub name : entry.name ≡ file.source.text
  pub unit : file.source.content ≡ Read entry.unit
  pub includes : entry.includes ≡ numbers_of file.targets.items

-- each entry is made of the key and the file at its index
abbrev pub AreEntriesFrom : List (List ℕ) → List ReachedFile → List Entry → Type 0
AreEntriesFrom [] [] [] = Unit {0}
AreEntriesFrom (key ∷ keys) (file ∷ files) (entry ∷ program) = IsEntryFrom key file entry × AreEntriesFrom keys files program
AreEntriesFrom _ _ _ = ⊥
