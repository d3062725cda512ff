-- The words among the tokens of a text, and the file of the tokens' places.
use Rattle.std.proofs.Common.{ℕ, List, [], ◌∷◌, ◌++◌, Option, Some, None, refl, sym, subst}
use Rattle.ipdl_base.specs.declared.finding.Place.{Place}
use Rattle.ipdl_base.specs.declared.token.Token.{Token}
use Rattle.ipdl_base.specs.declared.token.TokenKind.{TokenKind}
use Rattle.ipdl_base.specs.declared.token.TokenKind.TheVariants.{Word, Reserved, Quoted, Mark}
use Rattle.ipdl_base.specs.Tokens.{AreSpelled, StandIn}
use Rattle.ipdl_lex.specs.Laws.{WordsHold}
use Rattle.ipdl_lex.specs.Pieces.{Piece, IsPieceOf}
use Rattle.ipdl_lex.specs.Places.{place_after}
use Rattle.ipdl_lex.specs.Tokens.{Cuts, token_at, tokens_of}

-- one more token before them
token_spelled : (place : Place) (k : Option TokenKind) (bytes : List ℕ) (more : List Token) → IsPieceOf k bytes → AreSpelled more → AreSpelled (token_at place k bytes ++ more)
token_spelled place None bytes more is h = h
token_spelled place (Some Word) bytes more is h = ((λ e. is.0), h)
token_spelled place (Some Reserved) bytes more is h = ((λ e. cc), h)
token_spelled place (Some Quoted) bytes more is h = ((λ e. cc), h)
token_spelled place (Some Mark) bytes more is h = ((λ e. cc), h)

all_spelled : (file : ℕ) (before text : List ℕ) (pieces : List Piece) (rest : List ℕ) → Cuts text pieces rest → AreSpelled (tokens_of file before pieces)
all_spelled file before text [] rest cut = tt
all_spelled file before text (piece ∷ pieces) rest cut =
    token_spelled (place_after file before) piece.kind piece.bytes _ cut.1.is_piece (all_spelled file (before ++ piece.bytes) cut.0 pieces rest cut.2)

-- one more token before them, at a place of the file
token_stands : (file : ℕ) (before : List ℕ) (k : Option TokenKind) (bytes : List ℕ) (more : List Token) → StandIn file more → StandIn file (token_at (place_after file before) k bytes ++ more)
token_stands file before None bytes more h = h
token_stands file before (Some kind) bytes more h = (refl, h)

all_stand : (file : ℕ) (before : List ℕ) (pieces : List Piece) → StandIn file (tokens_of file before pieces)
all_stand file before [] = tt
all_stand file before (piece ∷ pieces) = token_stands file before piece.kind piece.bytes _ (all_stand file (before ++ piece.bytes) pieces)

pub words_hold : WordsHold
words_hold file text lexed h = (
  subst AreSpelled (sym h.tokens) (all_spelled file [] text h.pieces [] h.cut),
  subst (StandIn file) (sym h.tokens) (all_stand file [] h.pieces),
)
