-- The sync list that a command names, as a file after those of the program.
use Rattle.std.specs.Prelude.{◌≡◌, ℕ, ◌≤◌, ◌⊎◌, List, [], ◌∷◌, length, Option, Some, None, IsSomeAnd}
use Rattle.ipdl_base.specs.declared.files.TheConstants.{MOST_BYTES}
use Rattle.ipdl_base.specs.Outside.{FileMap, HasMore}
use Rattle.ipdl_base.specs.declared.finding.Finding.{Finding}
use Rattle.ipdl_base.specs.declared.finding.Place.{Place}
use Rattle.ipdl_base.specs.declared.finding.Rule.{Rule}
use Rattle.ipdl_base.specs.declared.finding.TheConstants.Rule as rule
use Rattle.include_graph.specs.Rules.{whole_file}
use Rattle.sync_list.specs.declared.list.Section.{Section}
use Rattle.sync_list.specs.Lists.{IsListOf, IsFirstBad}

-- a finding of this rule at this place
abbrev pub finding_at : Rule → Place → Finding
finding_at rule place = record { place = place; rule = rule }

-- the file has more bytes than are read of a list
abbrev pub IsLargeList : Option (List ℕ) → Type 0
IsLargeList held = HasMore MOST_BYTES held

-- the line with this number is the first that is not of the list's format
pub record HasBadLine (held : Option (List ℕ)) (line : ℕ) : Type 0 where
  pub bytes : List ℕ
  pub has : held ≡ Some bytes
  pub small : length bytes ≤ MOST_BYTES
  pub bad : IsFirstBad bytes line

-- What a list of these bytes breaks, as the file of this number: it is absent, too large, or has a line that is not of its format.
abbrev pub IsListFault : Option (List ℕ) → ℕ → Finding → Type 0
IsListFault held number f =
    ((held ≡ None) × (f ≡ finding_at rule.FILE_NOT_FOUND (whole_file number)))
    ⊎ ((IsLargeList held × (f ≡ finding_at rule.TOO_LARGE (whole_file number)))
    ⊎ ((line : ℕ) × HasBadLine held line × (f ≡ finding_at rule.SYNTAX_FAULT (record { file = number; line = line; column = 1 }))))

-- what a list breaks as the file of this number, if one is named
abbrev pub IsFaultOfList : FileMap → Option (List ℕ) → ℕ → Finding → Type 0
IsFaultOfList files list number f = IsSomeAnd list (λ word. IsListFault (files word) number f)

-- the bytes of a list spell these sections
pub record SpellsList (held : Option (List ℕ)) (sections : List Section) : Type 0 where
  pub bytes : List ℕ
  pub has : held ≡ Some bytes
  pub small : length bytes ≤ MOST_BYTES
  pub spells : IsListOf bytes sections

-- the sections of the list, or `None` if no list is named
abbrev pub AreSections : FileMap → Option (List ℕ) → Option (List Section) → Type 0
AreSections files None None = Unit {0}
AreSections files (Some word) (Some sections) = SpellsList (files word) sections
AreSections files _ _ = ⊥

-- the name of the list as a file, if one is named
abbrev pub list_names : Option (List ℕ) → List (List ℕ)
list_names None = []
list_names (Some word) = word ∷ []
