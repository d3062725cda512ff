-- The files that are reached.
use Rattle.std.specs.Prelude.{◌≡◌, ◌≢◌, ℕ, ◌≤◌, ◌<◌, ◌⊎◌, List, [], ◌++◌, length, take, slice_get, Option, Some}
use Rattle.std.specs.List.{All, AllPairs, Contains, flat_map, position_or_len}
use Rattle.ipdl_base.specs.declared.files.TheConstants.{MOST_BYTES}
use Rattle.ipdl_lex.specs.declared.token.LexedText.{LexedText}
use Rattle.ipdl_lex.specs.Tokens.{IsTokens}
use Rattle.ipdl_syntax.specs.declared.tree.FileKind.{FileKind}
use Rattle.ipdl_syntax.specs.declared.tree.Unit.{Unit as FileUnit}
use Rattle.ipdl_syntax.specs.Program.{Tree}
use Rattle.ipdl_syntax.specs.Programs.{named_keys}
use Rattle.include_graph.specs.Keys.{HasKind, is_same, word_keys}
use Rattle.include_graph.specs.Sources.{LoadInput, content}

-- The file of this key has this tree, if it is read as the file of this number and contains these bytes, if any.
pub record IsUnitOf (number : ℕ) (key : List ℕ) (held : Option (List ℕ)) (unit : FileUnit) : Type 0 where
  pub bytes : List ℕ
  pub has : held ≡ Some bytes
  pub small : length bytes ≤ MOST_BYTES
  pub lexed : LexedText
  pub tokens : IsTokens number bytes lexed
  pub kind : FileKind
  pub is_kind : HasKind key kind
  pub tree : Tree kind lexed.tokens unit

-- The keys that such a file names, in text order: those of its tree's includes. A file without a tree names no key.
abbrev pub Names : ℕ → List ℕ → Option (List ℕ) → List (List ℕ) → Type 0
Names number key held named =
    ((unit : FileUnit) × IsUnitOf number key held unit × (named ≡ named_keys unit.includes))
    ⊎ (((unit : FileUnit) → ¬ IsUnitOf number key held unit) × (named ≡ []))

-- each row has the keys that the file of the key at its index names
pub record AreNamed (given : LoadInput) (keys : List (List ℕ)) (rows : List (List (List ℕ))) : Type 0 where
  pub size : length rows ≡ length keys
  pub each : (number : ℕ) (key : List ℕ) (row : List (List ℕ)) → slice_get keys number ≡ Some key → slice_get rows number ≡ Some row → Names number key (content given key) row

-- the keys that all files name, file by file and include by include
abbrev pub all_named : List (List (List ℕ)) → List (List ℕ)
all_named rows = flat_map (λ row. row) rows

-- the index of a key among names: that of its first occurrence
abbrev pub first_place : List (List ℕ) → List ℕ → ℕ
first_place named key = position_or_len (λ name. is_same name key) named

-- A key is left out: the list is full, and all keys that the list has beyond those of words are named before this one.
pub record IsLeftOut (keys further named : List (List ℕ)) (key : List ℕ) : Type 0 where
  pub full : length keys ≡ 4096
  pub following : All (λ other. first_place named other < first_place named key) further

-- The keys are what the words reach, if these rows are what their files name: first the keys of the words, each once;
-- then further keys, each named by a file before it, in the order in which the files name them first. Every named key
-- is there, unless the list is full of keys that are named before it.
pub record IsReachBy (words keys : List (List ℕ)) (rows : List (List (List ℕ))) : Type 0 where
  pub few : length keys ≤ 4096
  pub once : AllPairs (λ one other. one ≢ other) keys
  pub further : List (List ℕ)
  pub begins : keys ≡ word_keys words ++ further
  pub earlier : (number : ℕ) (key : List ℕ) → slice_get keys number ≡ Some key → Contains (word_keys words) key ⊎ Contains (all_named (take number rows)) key
  pub ordered : AllPairs (λ one other. first_place (all_named rows) one < first_place (all_named rows) other) further
  pub whole : (key : List ℕ) → Contains (all_named rows) key → Contains keys key ⊎ IsLeftOut keys further (all_named rows) key

-- The keys are the reach: what the words reach by what the files of the keys name.
pub record IsReach (given : LoadInput) (keys : List (List ℕ)) : Type 0 where
  pub rows : List (List (List ℕ))
  pub named : AreNamed given keys rows
  pub reached : IsReachBy given.words keys rows
