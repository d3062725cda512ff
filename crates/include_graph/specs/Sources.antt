-- Where the file of a key is searched for, and its bytes.
use Rattle.std.specs.Prelude.{◌≡◌, ℕ, if◌then◌else◌, List, ◌++◌, map, find, Option, Some, None, is_some, unwrap_or, codes}
use Rattle.std.specs.Option.{option_and_then, option_or}
use Rattle.ipdl_base.specs.Outside.{FileMap}
use Rattle.ipdl_base.specs.FileNames.{key_of}
use Rattle.include_graph.specs.Keys.{is_same}

-- the input of a load: the map of files, the words of the command, and the path
pub record LoadInput : Type 0 where
  pub files : FileMap
  pub words : List (List ℕ)
  pub path : List (List ℕ)

-- the name of a key in a directory; the directory `.` leaves the key as it is
abbrev pub in_directory : List ℕ → List ℕ → List ℕ
in_directory directory key = if is_same directory (codes ".") then key else directory ++ codes "/" ++ key

-- the first of the words with this key
abbrev pub word_of : List (List ℕ) → List ℕ → Option (List ℕ)
word_of words key = find (λ word. is_same (key_of word) key) words

-- the first name of this key in a directory of the path at which there is a file
abbrev pub name_on_path : FileMap → List (List ℕ) → List ℕ → Option (List ℕ)
name_on_path files path key = find (λ name. is_some (files name)) (map (λ directory. in_directory directory key) path)

-- the name under which a key is read: the word that has the key, whether or not there is such a file; if no word has
-- it, the first name on the path at which there is a file
abbrev pub read_name : LoadInput → List ℕ → Option (List ℕ)
read_name given key = option_or (word_of given.words key) (name_on_path given.files given.path key)

abbrev pub IsReadUnder : LoadInput → List ℕ → List ℕ → Type 0
IsReadUnder given key name = read_name given key ≡ Some name

-- the bytes of the file of a key
abbrev pub content : LoadInput → List ℕ → Option (List ℕ)
content given key = option_and_then given.files (read_name given key)

-- the key has no file
abbrev pub IsAbsent : LoadInput → List ℕ → Type 0
IsAbsent given key = content given key ≡ None

-- the name of the file of a key in a report: the name under which it is read, or the key if there is no such name
abbrev pub text_of : LoadInput → List ℕ → List ℕ
text_of given key = unwrap_or (read_name given key) key
