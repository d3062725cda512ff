-- The place up to which tokens can continue to some file.
use Rattle.std.specs.Prelude.{◌≡◌, ℕ, ◌+◌, ◌≤◌, ◌<◌, List, ◌++◌, length, take, slice_get, MatchOption}
use Rattle.ipdl_base.specs.declared.finding.Place.{Place}
use Rattle.ipdl_base.specs.declared.token.Token.{Token}
use Rattle.ipdl_syntax.specs.declared.tree.FileKind.{FileKind}
use Rattle.ipdl_syntax.specs.declared.tree.Unit.{Unit as FileUnit}
use Rattle.ipdl_syntax.specs.Program.{Tree}

-- the tokens have a tree
abbrev pub HasTree : FileKind → List Token → Type 0
HasTree kind tokens = (unit : FileUnit) × Tree kind tokens unit

-- the tokens are a prefix of tokens that have a tree
abbrev pub GoesOn : FileKind → List Token → Type 0
GoesOn kind tokens = (more : List Token) × HasTree kind (tokens ++ more)

-- The syntax place: the longest prefix of the tokens that can continue to tokens with a tree.
pub record IsSyntaxPlace (kind : FileKind) (tokens : List Token) (index : ℕ) : Type 0 where
  pub within : index ≤ length tokens
  pub goes_on : GoesOn kind (take index tokens)
  pub longest : index < length tokens → ¬ GoesOn kind (take (index + 1) tokens)

-- the place of the token at an index, or that of the end
abbrev pub IsPlaceAt : List Token → Place → ℕ → Place → Type 0
IsPlaceAt tokens end index place = MatchOption (slice_get tokens index) (place ≡ end) (λ t. place ≡ t.place)
