-- What contracts see of a token.
use Rattle.std.specs.Prelude.{ℕ, List}
use Rattle.ipdl_base.specs.declared.finding.Place.{Place}
use Rattle.ipdl_base.specs.declared.token.TokenKind.{TokenKind}

-- the kind of the token, its bytes as they are in the text, and the place of the first of them
pub record TokenView : Type 0 where
  pub kind : TokenKind
  pub text : List ℕ
  pub place : Place
