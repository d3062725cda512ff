-- What follows from the grammar, for all tokens.
use Rattle.std.specs.Prelude.{◌≡◌, ℕ, ◌+◌, ◌≤◌, List, length}
use Rattle.ipdl_base.specs.declared.token.Token.{Token}
use Rattle.ipdl_base.specs.Tokens.{AreSpelled, StandIn}
use Rattle.ipdl_syntax.specs.declared.tree.Base.{Base, Named, Unique'}
use Rattle.ipdl_syntax.specs.declared.tree.FileKind.{FileKind}
use Rattle.ipdl_syntax.specs.declared.tree.TypeSpec.{TypeSpec}
use Rattle.ipdl_syntax.specs.declared.tree.Unit.{Unit as FileUnit}
use Rattle.ipdl_syntax.specs.Grammar.{type_spec}
use Rattle.ipdl_syntax.specs.Program.{Tree}
use Rattle.ipdl_syntax.specs.Units.{IsOfKind, HasWords, HasPlacesOf}
use Rattle.grammar_laws.specs.Boxes.{unboxed}

-- For each kind of file, tokens have at most one tree, up to where its boxes lie.
abbrev pub HasOneTree : Type 0
HasOneTree = (kind : FileKind) (tokens : List Token) (one other : FileUnit) → Tree kind tokens one → Tree kind tokens other → unboxed one ≡ unboxed other

-- the number of nested UniquePtr
abbrev pub depth : Base → ℕ
depth (Named name inner) = 0
depth (Unique' _ nullable inner after place) = 1 + depth inner

-- each type in a UniquePtr has at most four suffixes
abbrev pub HasFewSuffixes : Base → Type 0
HasFewSuffixes (Named name inner) = Unit {0}
HasFewSuffixes (Unique' _ nullable inner after place) = (length after ≤ 4) × HasFewSuffixes inner

-- a type is within the limits
pub record IsWithinLimits (spec : TypeSpec) : Type 0 where
  pub suffixes : length spec.suffixes ≤ 4
  pub deep : depth spec.base ≤ 4
  pub inner : HasFewSuffixes spec.base

-- A type that is read from tokens is within the limits.
abbrev pub LimitsHold : Type 0
LimitsHold = (spec : TypeSpec) (from to : List Token) → type_spec spec from to → IsWithinLimits spec

-- The tree of a header has no protocol, and that of a protocol file has a protocol.
abbrev pub FilesHold : Type 0
FilesHold = (kind : FileKind) (tokens : List Token) (unit : FileUnit) → Tree kind tokens unit → IsOfKind kind unit

-- If the text of each word among some tokens is a word, then the names in their tree are words, or words joined by colons.
abbrev pub NamesHold : Type 0
NamesHold = (kind : FileKind) (tokens : List Token) (unit : FileUnit) → AreSpelled tokens → Tree kind tokens unit → HasWords unit

-- If tokens are in one file, then so are all places in their tree.
abbrev pub PlacesHold : Type 0
PlacesHold = (kind : FileKind) (tokens : List Token) (unit : FileUnit) (number : ℕ) → StandIn number tokens → Tree kind tokens unit → HasPlacesOf number unit
