-- What a symbol means for a token.
use Rattle.std.specs.Prelude.{◌≡◌, codes}
use Rattle.ipdl_base.specs.declared.token.Token.{Token}
use Rattle.ipdl_base.specs.declared.token.TokenKind.TheVariants as kind
use Rattle.ipdl_syntax.specs.Parts.{Part, token}
use Rattle.tree_reader.specs.declared.symbol.Symbol.{Symbol}
use Rattle.tree_reader.specs.declared.symbol.Symbol.TheVariants.{End, Word, Quoted, OtherWord, OtherMark, Colons, OpenBrace, CloseBrace, OpenParen, CloseParen, OpenBracket, CloseBracket, Less, Greater, Semicolon, Comma, Colon, Equals, Question, Async, Both, Child, Class, From, Include, Manager, Manages, Namespace, Nullable, Or, Parent, Protocol, Returns, Struct, Sync, Union, UniquePtr, Using}

-- the kind of the token, and the text of a mark and of a reserved word that the grammar knows
abbrev pub Means : Symbol → Token → Type 0
Means Word t = t.kind ≡ kind.Word
Means Quoted t = t.kind ≡ kind.Quoted
Means OtherWord t = t.kind ≡ kind.Reserved
Means OtherMark t = t.kind ≡ kind.Mark
Means End t = ⊥
Means Colons t = (t.kind ≡ kind.Mark) × (t.text ≡ codes "::")
Means OpenBrace t = (t.kind ≡ kind.Mark) × (t.text ≡ codes "{")
Means CloseBrace t = (t.kind ≡ kind.Mark) × (t.text ≡ codes "}")
Means OpenParen t = (t.kind ≡ kind.Mark) × (t.text ≡ codes "(")
Means CloseParen t = (t.kind ≡ kind.Mark) × (t.text ≡ codes ")")
Means OpenBracket t = (t.kind ≡ kind.Mark) × (t.text ≡ codes "[")
Means CloseBracket t = (t.kind ≡ kind.Mark) × (t.text ≡ codes "]")
Means Less t = (t.kind ≡ kind.Mark) × (t.text ≡ codes "<")
Means Greater t = (t.kind ≡ kind.Mark) × (t.text ≡ codes ">")
Means Semicolon t = (t.kind ≡ kind.Mark) × (t.text ≡ codes ";")
Means Comma t = (t.kind ≡ kind.Mark) × (t.text ≡ codes ",")
Means Colon t = (t.kind ≡ kind.Mark) × (t.text ≡ codes ":")
Means Equals t = (t.kind ≡ kind.Mark) × (t.text ≡ codes "=")
Means Question t = (t.kind ≡ kind.Mark) × (t.text ≡ codes "?")
Means Async t = (t.kind ≡ kind.Reserved) × (t.text ≡ codes "async")
Means Both t = (t.kind ≡ kind.Reserved) × (t.text ≡ codes "both")
Means Child t = (t.kind ≡ kind.Reserved) × (t.text ≡ codes "child")
Means Class t = (t.kind ≡ kind.Reserved) × (t.text ≡ codes "class")
Means From t = (t.kind ≡ kind.Reserved) × (t.text ≡ codes "from")
Means Include t = (t.kind ≡ kind.Reserved) × (t.text ≡ codes "include")
Means Manager t = (t.kind ≡ kind.Reserved) × (t.text ≡ codes "manager")
Means Manages t = (t.kind ≡ kind.Reserved) × (t.text ≡ codes "manages")
Means Namespace t = (t.kind ≡ kind.Reserved) × (t.text ≡ codes "namespace")
Means Nullable t = (t.kind ≡ kind.Reserved) × (t.text ≡ codes "nullable")
Means Or t = (t.kind ≡ kind.Reserved) × (t.text ≡ codes "or")
Means Parent t = (t.kind ≡ kind.Reserved) × (t.text ≡ codes "parent")
Means Protocol t = (t.kind ≡ kind.Reserved) × (t.text ≡ codes "protocol")
Means Returns t = (t.kind ≡ kind.Reserved) × (t.text ≡ codes "returns")
Means Struct t = (t.kind ≡ kind.Reserved) × (t.text ≡ codes "struct")
Means Sync t = (t.kind ≡ kind.Reserved) × (t.text ≡ codes "sync")
Means Union t = (t.kind ≡ kind.Reserved) × (t.text ≡ codes "union")
Means UniquePtr t = (t.kind ≡ kind.Reserved) × (t.text ≡ codes "UniquePtr")
Means Using t = (t.kind ≡ kind.Reserved) × (t.text ≡ codes "using")

-- one token with this symbol
abbrev pub spelled : Symbol → Part
spelled s = token (Means s)
