-- What a fault of the grammar means.
use Rattle.ipdl_base.specs.declared.finding.Place.{Place}
use Rattle.ipdl_base.specs.declared.token.Token.{Token}
use Rattle.std.specs.Prelude.{◌≡◌, ℕ, List}
use Rattle.ipdl_syntax.specs.declared.tree.FileKind.{FileKind}
use Rattle.ipdl_parse.specs.declared.parser.SyntaxFault.{SyntaxFault}
use Rattle.ipdl_parse.specs.declared.parser.SyntaxFault.TheVariants.{Fault, NoMemory}
use Rattle.ipdl_parse.specs.Place.{HasTree, IsSyntaxPlace, IsPlaceAt}

-- A fault means that there is no tree, and has the syntax place. Memory may run out in any case.
abbrev pub IsFault : FileKind → List Token → Place → SyntaxFault → Type 0
IsFault kind tokens end (Fault index place) = (¬ HasTree kind tokens) × IsSyntaxPlace kind tokens index × IsPlaceAt tokens end index place
IsFault kind tokens end NoMemory = Unit {0}

-- the fault at this index
abbrev pub IsFaultAt : List Token → Place → ℕ → SyntaxFault → Type 0
IsFaultAt tokens end at (Fault index place) = (index ≡ at) × IsPlaceAt tokens end index place
IsFaultAt tokens end at NoMemory = ⊥
