-- What names find, and which types are defined: every program has an answer.
use Rattle.std.specs.Prelude.{◌⊎◌, ℕ, List, Option}
use Rattle.ipdl_syntax.specs.declared.program.Entry.{Entry}
use Rattle.ipdl_syntax.specs.declared.tree.Base.{Base}
use Rattle.least_fixed_points.specs.declared.nodes.Node.{Node}
use Rattle.least_fixed_points.specs.Derived.{IsDerived}
use Rattle.name_table.specs.declared.decl.DeclId.{DeclId}
use Rattle.name_table.specs.declared.decl.Found.{Found}
use Rattle.name_table.specs.Finds.{Counts, Finds, FindsAsProtocol}
use Rattle.name_table.specs.Visible.{Sees}
use Rattle.report_existence.specs.Laws.{IsListed}
use Rattle.type_rules.specs.Defined.{IsDefined}

-- Each node is derived, or it is not.
abbrev pub DerivationsAreDecided : Type 0
DerivationsAreDecided = (nodes : List Node) (k : ℕ) → IsDerived nodes k ⊎ ¬ IsDerived nodes k

-- For each file of a program some list has exactly the declarations that the file sees, each with its full name.
abbrev pub SightsAreListed : Type 0
SightsAreListed = (program : List Entry) (file : ℕ) → IsListed (λ (seen : DeclId × List ℕ). Sees program file seen.0 seen.1)

-- In each file each text, with or without an argument, finds nothing, one declaration, or two different declarations.
abbrev pub NamesHaveAnswers : Type 0
NamesHaveAnswers = (program : List Entry) (file : ℕ) (text : List ℕ) (argument : Option (List ℕ)) → (finds : Found) × Counts (Finds program file text argument) finds

-- In each file each text finds no protocol, one protocol, or two different ones.
abbrev pub ProtocolNamesHaveAnswers : Type 0
ProtocolNamesHaveAnswers = (program : List Entry) (file : ℕ) (text : List ℕ) → (finds : Found) × Counts (FindsAsProtocol program file text) finds

-- Each type is defined in a file, or it is not.
abbrev pub TypesAreDecided : Type 0
TypesAreDecided = (program : List Entry) (file : ℕ) (base : Base) → IsDefined program file base ⊎ ¬ IsDefined program file base
