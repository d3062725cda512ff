-- What it means for a tree to be the only one.
use Rattle.std.specs.Prelude.{◌≡◌, List}
use Rattle.ipdl_base.specs.declared.token.Token.{Token}
use Rattle.ipdl_syntax.specs.declared.tree.FileKind.{FileKind}
use Rattle.ipdl_syntax.specs.declared.tree.Unit.{Unit as FileUnit}
use Rattle.ipdl_syntax.specs.Program.{Tree}
use Rattle.grammar_laws.specs.Boxes.{unboxed}

-- Every tree of the tokens is this one, up to where the boxes of the two lie in memory.
abbrev pub IsOnlyTree : FileKind → List Token → FileUnit → Type 0
IsOnlyTree kind tokens unit = (other : FileUnit) → Tree kind tokens other → unboxed other ≡ unboxed unit
