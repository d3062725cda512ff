-- What a program is: the files that are reached, in the order in which they are reached.
use Rattle.std.specs.Prelude.{◌≡◌, ◌≢◌, ℕ, ◌≤◌, ◌<◌, List, [], ◌∷◌, ◌++◌, map, length, slice_get, Option, Some, IfSome, codes}
use Rattle.std.specs.List.{AllPairs, AllByRecursion, flat_map}
use Rattle.ipdl_base.specs.Words.{short_name}
use Rattle.ipdl_syntax.specs.declared.program.Entry.{Entry}
use Rattle.ipdl_syntax.specs.declared.tree.FileKind.{FileKind}
use Rattle.ipdl_syntax.specs.declared.tree.FileKind.TheVariants as file
use Rattle.ipdl_syntax.specs.declared.tree.Include.{Include}
use Rattle.ipdl_syntax.specs.declared.tree.IncludeKind.{IncludeKind}
use Rattle.ipdl_syntax.specs.declared.tree.IncludeKind.TheVariants as include_kind
use Rattle.ipdl_syntax.specs.Units.{IsOfKind, HasWords, HasPlacesOf}

-- how the keys of files of a kind end
abbrev pub ending : FileKind → List ℕ
ending file.Protocol = codes ".ipdl"
ending file.Header = codes ".ipdlh"

-- the key of the file that an include names; a quoted text names no file
abbrev pub named_key : IncludeKind → List ℕ → List (List ℕ)
named_key include_kind.Protocol name = (name ++ ending file.Protocol) ∷ []
named_key include_kind.Header name = (name ++ ending file.Header) ∷ []
named_key include_kind.Quoted text = []

-- the keys of the files that includes name, in text order
abbrev pub named_keys : List Include → List (List ℕ)
named_keys includes = flat_map (λ i. named_key i.kind i.name) includes

-- the key of the entry at an index, where there is one
abbrev pub key_at : List Entry → ℕ → Option (List ℕ)
key_at program index = slice_get (map (λ e. e.key) program) index

-- An entry's key ends as those of files of its kind do, and its tree is of that kind.
pub record IsKeyed (entry : Entry) : Type 0 where
  pub kind : FileKind
  pub front : List ℕ
  pub key : entry.key ≡ front ++ ending kind
  pub unit : IsOfKind kind entry.unit

-- The entry at this index of a program: its names are words and its places are in the file of this index. Its
-- includes have one index for each include that names a file, in text order: that of the entry with the key of that
-- file.
pub record IsEntry (program : List Entry) (index : ℕ) (entry : Entry) : Type 0 where
  pub keyed : IsKeyed entry
  pub words : HasWords entry.unit
  pub places : HasPlacesOf index entry.unit
  pub below : AllByRecursion (λ i. i < length program) entry.includes
  pub includes : map (key_at program) entry.includes ≡ map Some (named_keys entry.unit.includes)

-- A program: at most 4,096 files with distinct keys, each an entry at its index.
pub record IsProgram (program : List Entry) : Type 0 where
  pub few : length program ≤ 4096
  pub distinct : AllPairs (λ a b. a.key ≢ b.key) program
  pub entries : (index : ℕ) (entry : Entry) → slice_get program index ≡ Some entry → IsEntry program index entry

-- the protocol of each file has the name of the file
abbrev pub BearTheirNames : List Entry → Type 0
BearTheirNames program = AllByRecursion (λ e. IfSome e.unit.protocol (λ p. e.key ≡ short_name p.full ++ ending file.Protocol)) program
