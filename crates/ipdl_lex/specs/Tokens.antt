-- The tokens of a text, and the fault of a text that has no list of tokens.
use Rattle.std.specs.Prelude.{◌≡◌, ◌≢◌, ℕ, ◌≤◌, ◌<◌, ◌⊎◌, List, [], ◌∷◌, ◌++◌, length, Option, Some, None, Result, Err, All, codes}
use Rattle.ipdl_base.specs.declared.finding.Place.{Place}
use Rattle.ipdl_base.specs.declared.token.TokenKind.{TokenKind}
use Rattle.ipdl_base.specs.declared.token.Token.{Token}
use Rattle.ipdl_lex.specs.declared.token.LexedText.{LexedText}
use Rattle.ipdl_lex.specs.declared.token.LexFault.{LexFault}
use Rattle.ipdl_lex.specs.declared.token.LexFault.TheVariants.{BadByte, OpenComment, OpenString, TooLong, NoMemory}
use Rattle.ipdl_lex.specs.Pieces.{Piece, IsPiece}
use Rattle.ipdl_lex.specs.Places.{place_after}

-- the text begins with the piece, the rest follows, and the text begins with no longer piece
pub record Begins (text : List ℕ) (piece : Piece) (rest : List ℕ) : Type 0 where
  pub is_piece : IsPiece piece
  pub split : text ≡ piece.bytes ++ rest
  pub longest : (other : Piece) (after : List ℕ) → IsPiece other → text ≡ other.bytes ++ after → length other.bytes ≤ length piece.bytes

-- the text is these pieces and then the rest, and each piece is the longest at its place
abbrev pub Cuts : List ℕ → List Piece → List ℕ → Type 0
Cuts text [] rest = text ≡ rest
Cuts text (piece ∷ pieces) rest = (after : List ℕ) × Begins text piece after × Cuts after pieces rest

-- a token of this kind and these bytes has at most 256; a blank or a comment may have any number
abbrev pub IsShortOf : Option TokenKind → List ℕ → Type 0
IsShortOf None bytes = Unit {0}
IsShortOf (Some kind) bytes = length bytes ≤ 256

-- the same of a piece
abbrev pub IsShort : Piece → Type 0
IsShort piece = IsShortOf piece.kind piece.bytes

-- the token of a piece of this kind, at its place; no token for a blank or a comment
abbrev pub token_at : Place → Option TokenKind → List ℕ → List Token
token_at place None bytes = []
token_at place (Some kind) bytes = record { kind = kind; text = bytes; place = place } ∷ []

-- the tokens among pieces that follow these bytes of the file
abbrev pub tokens_of : ℕ → List ℕ → List Piece → List Token
tokens_of file before [] = []
tokens_of file before (piece ∷ pieces) =
    token_at (place_after file before) piece.kind piece.bytes ++ tokens_of file (before ++ piece.bytes) pieces

-- the text is cut completely, each token is short, and these are its tokens and the place after its last byte
pub record IsTokens (file : ℕ) (text : List ℕ) (lexed : LexedText) : Type 0 where
  pub pieces : List Piece
  pub cut : Cuts text pieces []
  pub short : All IsShort pieces
  pub tokens : lexed.tokens ≡ tokens_of file [] pieces
  pub end : lexed.end ≡ place_after file text

-- no piece begins here
abbrev pub IsStuck : List ℕ → Type 0
IsStuck rest = (piece : Piece) (after : List ℕ) → IsPiece piece → rest ≡ piece.bytes ++ after → ⊥

-- the rest begins with these bytes
abbrev pub BeginsWith : List ℕ → List ℕ → Type 0
BeginsWith bytes rest = (after : List ℕ) × (rest ≡ bytes ++ after)

-- no piece begins with the `/*`, so no `*/` closes it
pub record IsOpenComment (rest : List ℕ) : Type 0 where
  pub stuck : IsStuck rest
  pub opens : BeginsWith (codes "/*") rest

-- no piece begins with the quote, so no quote closes it on its line
pub record IsOpenString (rest : List ℕ) : Type 0 where
  pub stuck : IsStuck rest
  pub opens : BeginsWith (codes "\"") rest

-- no piece begins with the first byte, which opens neither a comment nor a quoted text
pub record IsBadByte (rest : List ℕ) : Type 0 where
  pub stuck : IsStuck rest
  pub is_byte : rest ≢ []
  pub no_comment : ¬ BeginsWith (codes "/*") rest
  pub no_string : ¬ BeginsWith (codes "\"") rest

-- a token of more than 256 bytes begins here
pub record IsTooLong (rest : List ℕ) : Type 0 where
  pub kind : TokenKind
  pub bytes : List ℕ
  pub after : List ℕ
  pub begins : Begins rest (record { kind = Some kind; bytes = bytes }) after
  pub long : 256 < length bytes

-- cutting a text stops at this rest, which begins at the place, for the reason that the fault gives
abbrev pub FailsAt : List ℕ → Place → LexFault → Type 0
FailsAt rest here (BadByte place) = (place ≡ here) × IsBadByte rest
FailsAt rest here (OpenComment place) = (place ≡ here) × IsOpenComment rest
FailsAt rest here (OpenString place) = (place ≡ here) × IsOpenString rest
FailsAt rest here (TooLong place) = (place ≡ here) × IsTooLong rest
FailsAt rest here NoMemory = ⊥

-- the text is cut into short pieces up to a rest at which cutting stops with this fault
pub record IsFault (file : ℕ) (text : List ℕ) (fault : LexFault) : Type 0 where
  pub pieces : List Piece
  pub before : List ℕ
  pub rest : List ℕ
  pub split : text ≡ before ++ rest
  pub cut : Cuts text pieces rest
  pub short : All IsShort pieces
  pub fails : FailsAt rest (place_after file before) fault

-- the result of a call is this answer, unless memory ran out
abbrev pub Gives : Result LexedText LexFault → Result LexedText LexFault → Type 0
Gives result answer = (result ≡ Err NoMemory) ⊎ (result ≡ answer)
