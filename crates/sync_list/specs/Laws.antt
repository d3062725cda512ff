-- What follows from the definitions, for every text.
use Rattle.std.specs.Prelude.{◌≡◌, ℕ, List}
use Rattle.sync_list.specs.declared.list.Section.{Section}
use Rattle.sync_list.specs.declared.list.ListFault.{ListFault}
use Rattle.sync_list.specs.Lists.{IsListOf, IsFault}

-- A text spells at most one list.
abbrev pub OneList : Type 0
OneList = (text : List ℕ) (a b : List Section) → IsListOf text a → IsListOf text b → a ≡ b

-- A text has at most one fault.
abbrev pub OneFault : Type 0
OneFault = (text : List ℕ) (a b : ListFault) → IsFault text a → IsFault text b → a ≡ b

-- A text that spells a list has no fault.
abbrev pub NeverBoth : Type 0
NeverBoth = (text : List ℕ) (list : List Section) (fault : ListFault) → IsListOf text list → ¬ IsFault text fault
