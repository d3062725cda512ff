-- The symbols of tokens.
use Rattle.std.specs.Prelude.{ℕ, List, [], ◌∷◌, if◌then◌else◌, codes}
use Rattle.std.specs.Str.{bytes_eq}
use Rattle.ipdl_base.specs.declared.token.Token.{Token}
use Rattle.ipdl_base.specs.declared.token.TokenKind.{TokenKind}
use Rattle.ipdl_base.specs.declared.token.TokenKind.TheVariants as kind
use Rattle.tree_reader.specs.declared.symbol.Symbol.{Symbol}
use Rattle.tree_reader.specs.declared.symbol.Symbol.TheVariants.{End, Word, Quoted, OtherWord, OtherMark, Colons, OpenBrace, CloseBrace, OpenParen, CloseParen, OpenBracket, CloseBracket, Less, Greater, Semicolon, Comma, Colon, Equals, Question, Async, Both, Child, Class, From, Include, Manager, Manages, Namespace, Nullable, Or, Parent, Protocol, Returns, Struct, Sync, Union, UniquePtr, Using}

-- the symbol of a mark
unfoldable pub mark_symbol : List ℕ → Symbol
mark_symbol text =
    if bytes_eq text (codes "::") then Colons else (
    if bytes_eq text (codes "{") then OpenBrace else (
    if bytes_eq text (codes "}") then CloseBrace else (
    if bytes_eq text (codes "(") then OpenParen else (
    if bytes_eq text (codes ")") then CloseParen else (
    if bytes_eq text (codes "[") then OpenBracket else (
    if bytes_eq text (codes "]") then CloseBracket else (
    if bytes_eq text (codes "<") then Less else (
    if bytes_eq text (codes ">") then Greater else (
    if bytes_eq text (codes ";") then Semicolon else (
    if bytes_eq text (codes ",") then Comma else (
    if bytes_eq text (codes ":") then Colon else (
    if bytes_eq text (codes "=") then Equals else (
    if bytes_eq text (codes "?") then Question else (
    OtherMark))))))))))))))

-- the symbol of a reserved word
unfoldable pub word_symbol : List ℕ → Symbol
word_symbol text =
    if bytes_eq text (codes "async") then Async else (
    if bytes_eq text (codes "both") then Both else (
    if bytes_eq text (codes "child") then Child else (
    if bytes_eq text (codes "class") then Class else (
    if bytes_eq text (codes "from") then From else (
    if bytes_eq text (codes "include") then Include else (
    if bytes_eq text (codes "manager") then Manager else (
    if bytes_eq text (codes "manages") then Manages else (
    if bytes_eq text (codes "namespace") then Namespace else (
    if bytes_eq text (codes "nullable") then Nullable else (
    if bytes_eq text (codes "or") then Or else (
    if bytes_eq text (codes "parent") then Parent else (
    if bytes_eq text (codes "protocol") then Protocol else (
    if bytes_eq text (codes "returns") then Returns else (
    if bytes_eq text (codes "struct") then Struct else (
    if bytes_eq text (codes "sync") then Sync else (
    if bytes_eq text (codes "union") then Union else (
    if bytes_eq text (codes "UniquePtr") then UniquePtr else (
    if bytes_eq text (codes "using") then Using else (
    OtherWord)))))))))))))))))))

abbrev pub symbol_of : TokenKind → List ℕ → Symbol
symbol_of kind.Word text = Word
symbol_of kind.Quoted text = Quoted
symbol_of kind.Reserved text = word_symbol text
symbol_of kind.Mark text = mark_symbol text

-- the symbol of a token
abbrev pub symbol : Token → Symbol
symbol t = symbol_of t.kind t.text

-- the symbol of the first token, or that of the end
abbrev pub first_symbol : List Token → Symbol
first_symbol [] = End
first_symbol (t ∷ rest) = symbol t
