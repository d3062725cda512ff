-- What a text is made of: blanks, comments and the spellings of tokens.
use Rattle.std.specs.Prelude.{◌≡◌, ◌≢◌, ℕ, Bool, ◌==◌, ◌⊎◌, List, [], ◌∷◌, ◌++◌, Option, Some, None, IsTrue, All, Contains, codes}
use Rattle.std.specs.List.{list_any}
use Rattle.ipdl_base.specs.Words.{IsWord}
use Rattle.ipdl_base.specs.declared.token.TokenKind.{TokenKind}
use Rattle.ipdl_base.specs.declared.token.TokenKind.TheVariants.{Word, Reserved, Quoted, Mark}

-- a space, a tab, a carriage return or a line feed
abbrev pub is_blank : ℕ → Bool
is_blank b = list_any (λ c. c == b) (codes " \t\r\n")

-- a line feed
abbrev pub is_line_feed : ℕ → Bool
is_line_feed b = b == 10

-- a byte that is a mark by itself
abbrev pub is_mark : ℕ → Bool
is_mark b = list_any (λ c. c == b) (codes "{}()[]<>;,:=?")

-- the reserved words of the language
abbrev pub reserved_words : List (List ℕ)
reserved_words =
    codes "async" ∷ codes "both" ∷ codes "child" ∷ codes "class" ∷ codes "from" ∷ codes "include"
    ∷ codes "manager" ∷ codes "manages" ∷ codes "namespace" ∷ codes "nullable" ∷ codes "or"
    ∷ codes "parent" ∷ codes "protocol" ∷ codes "returns" ∷ codes "struct" ∷ codes "sync"
    ∷ codes "union" ∷ codes "UniquePtr" ∷ codes "using" ∷ []

-- bytes between two quotes, none of them a quote or a line feed
pub record IsQuoted (bytes : List ℕ) : Type 0 where
  pub inner : List ℕ
  pub spelled : bytes ≡ 34 ∷ inner ++ 34 ∷ []
  pub within_line : All (λ c. (c ≢ 34) × (c ≢ 10)) inner

-- `::` or a mark of one byte
abbrev pub IsMark : List ℕ → Type 0
IsMark bytes = (bytes ≡ codes "::") ⊎ ((b : ℕ) × IsTrue (is_mark b) × (bytes ≡ b ∷ []))

-- the bytes spell a token of this kind
abbrev pub Spells : TokenKind → List ℕ → Type 0
Spells Word bytes = IsWord bytes × ¬ Contains reserved_words bytes
Spells Reserved bytes = Contains reserved_words bytes
Spells Quoted bytes = IsQuoted bytes
Spells Mark bytes = IsMark bytes

-- one blank byte
abbrev pub IsBlank : List ℕ → Type 0
IsBlank bytes = (b : ℕ) × IsTrue (is_blank b) × (bytes ≡ b ∷ [])

-- `//` and then any bytes but line feeds
pub record IsLineComment (bytes : List ℕ) : Type 0 where
  pub inner : List ℕ
  pub spelled : bytes ≡ codes "//" ++ inner
  pub within_line : All (λ c. c ≢ 10) inner

-- `/*`, any bytes, and the first `*/` after the `/*`
pub record IsBlockComment (bytes : List ℕ) : Type 0 where
  pub inner : List ℕ
  pub spelled : bytes ≡ codes "/*" ++ (inner ++ codes "*/")
  pub first : (before after : List ℕ) → inner ++ codes "*/" ≡ before ++ (codes "*/" ++ after) → after ≡ []

-- a blank or a comment
abbrev pub IsSpacing : List ℕ → Type 0
IsSpacing bytes = IsBlank bytes ⊎ (IsLineComment bytes ⊎ IsBlockComment bytes)

-- Some bytes, and the kind of token that they spell; a blank or a comment has no kind.
pub record Piece : Type 0 where
  pub kind : Option TokenKind
  pub bytes : List ℕ

-- what a piece's bytes are, by its kind
abbrev pub IsPieceOf : Option TokenKind → List ℕ → Type 0
IsPieceOf None bytes = IsSpacing bytes
IsPieceOf (Some kind) bytes = Spells kind bytes

-- the piece's bytes spell its kind
abbrev pub IsPiece : Piece → Type 0
IsPiece piece = IsPieceOf piece.kind piece.bytes
