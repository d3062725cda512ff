-- What the functions of the scan find at the beginning of a text.
use Rattle.std.specs.Prelude.{◌≡◌, ℕ, Bool, ◌==◌, ◌||◌, filter, ◌+◌, ◌≤◌, if◌then◌else◌, List, length, take, drop, fold, Option, slice_index}
use Rattle.std.specs.List.{list_any}
use Rattle.std.specs.Str.{bytes_eq}
use Rattle.ipdl_base.specs.declared.finding.Place.{Place}
use Rattle.ipdl_base.specs.declared.token.TokenKind.{TokenKind}
use Rattle.ipdl_lex.specs.declared.scan.PieceClass.{PieceClass}
use Rattle.ipdl_lex.specs.declared.scan.PieceClass.TheVariants as class
use Rattle.ipdl_base.specs.Words.{is_word_start}
use Rattle.ipdl_lex.specs.Pieces.{is_blank, is_line_feed, is_mark, reserved_words}
use Rattle.ipdl_lex.specs.Tokens.{Begins}

-- what a piece that begins with the byte may be
abbrev pub class_of : ℕ → PieceClass
class_of b =
    if is_blank b then class.Blank
    else (if b == 47 then class.Slash
    else (if b == 34 then class.Quote
    else (if is_mark b then class.Mark
    else (if is_word_start b then class.Letter
    else class.Other))))

-- whether a word is reserved
abbrev pub is_reserved : List ℕ → Bool
is_reserved word = list_any (λ w. bytes_eq word w) reserved_words

-- the reserved words of this length in bytes
abbrev pub reserved_of_length : ℕ → List (List ℕ)
reserved_of_length bytes = filter (λ w. length w == bytes) reserved_words

-- a quote or a line feed, which end a quoted text
abbrev pub ends_quoted : ℕ → Bool
ends_quoted b = b == 34 || is_line_feed b

-- `*/` is at this index
pub record ClosesAt (text : List ℕ) (k : ℕ) : Type 0 where
  pub star : slice_index text k ≡ 42
  pub slash : slice_index text (k + 1) ≡ 47

-- the text begins with a piece of this kind and length
pub record IsFront (text : List ℕ) (kind : Option TokenKind) (len : ℕ) : Type 0 where
  pub fits : len ≤ length text
  pub begins : Begins text (record { kind = kind; bytes = take len text }) (drop len text)

-- the place of the next byte
abbrev pub after_byte : Place → ℕ → Place
after_byte here b = record {
  file = here.file;
  line = if is_line_feed b then here.line + 1 else here.line;
  column = if is_line_feed b then 1 else here.column + 1;
}

-- the place after these bytes
abbrev pub after_bytes : Place → List ℕ → Place
after_bytes here bytes = fold after_byte here bytes
