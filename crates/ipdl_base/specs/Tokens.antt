-- What holds of the tokens of every text.
use Rattle.std.specs.Prelude.{◌≡◌, ℕ, List}
use Rattle.std.specs.List.{AllByRecursion}
use Rattle.ipdl_base.specs.declared.token.Token.{Token}
use Rattle.ipdl_base.specs.declared.token.TokenKind.TheVariants.{Word}
use Rattle.ipdl_base.specs.Words.{IsWord}

-- the text of each word is a word
abbrev pub AreSpelled : List Token → Type 0
AreSpelled tokens = AllByRecursion (λ t. t.kind ≡ Word → IsWord t.text) tokens

-- each token is in the file of this number
abbrev pub StandIn : ℕ → List Token → Type 0
StandIn number tokens = AllByRecursion (λ t. t.place.file ≡ number) tokens
