-- What follows from the definition of tokens, for all texts.
use Rattle.std.specs.Prelude.{ℕ, List}
use Rattle.ipdl_base.specs.Tokens.{AreSpelled, StandIn}
use Rattle.ipdl_lex.specs.declared.token.LexedText.{LexedText}
use Rattle.ipdl_lex.specs.Tokens.{IsTokens}

-- The text of each word among the tokens of a text is a word, and the place of each token is in the text's file.
abbrev pub WordsHold : Type 0
WordsHold = (file : ℕ) (text : List ℕ) (lexed : LexedText) → IsTokens file text lexed → AreSpelled lexed.tokens × StandIn file lexed.tokens
