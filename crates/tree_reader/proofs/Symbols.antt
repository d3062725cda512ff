-- What the symbol of a token means for the token.
use Rattle.std.proofs.Common.{◌≡◌, ℕ, Bool, true, false, cond, ◌⊎◌, inl, inr, List, Option, Some, None, codes, refl, sym, ap, subst, ◌∙◌}
use Rattle.std.specs.Str.{bytes_eq}
use Rattle.std.proofs.lemmas.Slice.Eq.{bytes_eq-Decides}
use Rattle.ipdl_base.specs.declared.token.Token.{Token}
use Rattle.ipdl_base.specs.declared.token.TokenKind.{TokenKind}
use Rattle.ipdl_base.specs.declared.token.TokenKind.TheVariants as kind
use Rattle.tree_reader.specs.declared.symbol.Symbol.{Symbol}
use Rattle.tree_reader.specs.declared.symbol.Symbol.TheVariants.{End, Word, Quoted, OtherWord, OtherMark, Colons, OpenBrace, CloseBrace, OpenParen, CloseParen, OpenBracket, CloseBracket, Less, Greater, Semicolon, Comma, Colon, Equals, Question, Async, Both, Child, Class, From, Include, Manager, Manages, Namespace, Nullable, Or, Parent, Protocol, Returns, Struct, Sync, Union, UniquePtr, Using}
use Rattle.tree_reader.specs.Spelling.{Means}
use Rattle.tree_reader.specs.Symbols.{mark_symbol, word_symbol, symbol_of, symbol}

abbrev mark_spelling : Symbol → Option (List ℕ)
mark_spelling Colons = Some (codes "::")
mark_spelling OpenBrace = Some (codes "{")
mark_spelling CloseBrace = Some (codes "}")
mark_spelling OpenParen = Some (codes "(")
mark_spelling CloseParen = Some (codes ")")
mark_spelling OpenBracket = Some (codes "[")
mark_spelling CloseBracket = Some (codes "]")
mark_spelling Less = Some (codes "<")
mark_spelling Greater = Some (codes ">")
mark_spelling Semicolon = Some (codes ";")
mark_spelling Comma = Some (codes ",")
mark_spelling Colon = Some (codes ":")
mark_spelling Equals = Some (codes "=")
mark_spelling Question = Some (codes "?")
mark_spelling _ = None

abbrev word_spelling : Symbol → Option (List ℕ)
word_spelling Async = Some (codes "async")
word_spelling Both = Some (codes "both")
word_spelling Child = Some (codes "child")
word_spelling Class = Some (codes "class")
word_spelling From = Some (codes "from")
word_spelling Include = Some (codes "include")
word_spelling Manager = Some (codes "manager")
word_spelling Manages = Some (codes "manages")
word_spelling Namespace = Some (codes "namespace")
word_spelling Nullable = Some (codes "nullable")
word_spelling Or = Some (codes "or")
word_spelling Parent = Some (codes "parent")
word_spelling Protocol = Some (codes "protocol")
word_spelling Returns = Some (codes "returns")
word_spelling Struct = Some (codes "struct")
word_spelling Sync = Some (codes "sync")
word_spelling Union = Some (codes "union")
word_spelling UniquePtr = Some (codes "UniquePtr")
word_spelling Using = Some (codes "using")
word_spelling _ = None

-- a symbol that is chosen by a text: it is the last one, or the text is that of the symbol
abbrev Chosen : (Symbol → Option (List ℕ)) → Symbol → List ℕ → Symbol → Type 0
Chosen spell last text s = (s ≡ last) ⊎ (spell s ≡ Some text)

choose : (spell : Symbol → Option (List ℕ)) (b : Bool) (last : Symbol) (text : List ℕ) (s other : Symbol) → (b ≡ true → spell s ≡ Some text) → Chosen spell last text other → Chosen spell last text (cond b s other)
choose spell true last text s other h o = inr (h refl)
choose spell false last text s other h o = o

eq_of : (text key : List ℕ) → bytes_eq text key ≡ true → Some key ≡ Some text
eq_of text key h = ap (λ (x : List ℕ). Some x) (sym ((bytes_eq-Decides text key).0 h))

of_mark : (text : List ℕ) → Chosen mark_spelling OtherMark text (mark_symbol text)
unfolding mark_symbol
of_mark text =
    choose mark_spelling (bytes_eq text (codes "::")) OtherMark text Colons _ (eq_of text (codes "::")) (
    choose mark_spelling (bytes_eq text (codes "{")) OtherMark text OpenBrace _ (eq_of text (codes "{")) (
    choose mark_spelling (bytes_eq text (codes "}")) OtherMark text CloseBrace _ (eq_of text (codes "}")) (
    choose mark_spelling (bytes_eq text (codes "(")) OtherMark text OpenParen _ (eq_of text (codes "(")) (
    choose mark_spelling (bytes_eq text (codes ")")) OtherMark text CloseParen _ (eq_of text (codes ")")) (
    choose mark_spelling (bytes_eq text (codes "[")) OtherMark text OpenBracket _ (eq_of text (codes "[")) (
    choose mark_spelling (bytes_eq text (codes "]")) OtherMark text CloseBracket _ (eq_of text (codes "]")) (
    choose mark_spelling (bytes_eq text (codes "<")) OtherMark text Less _ (eq_of text (codes "<")) (
    choose mark_spelling (bytes_eq text (codes ">")) OtherMark text Greater _ (eq_of text (codes ">")) (
    choose mark_spelling (bytes_eq text (codes ";")) OtherMark text Semicolon _ (eq_of text (codes ";")) (
    choose mark_spelling (bytes_eq text (codes ",")) OtherMark text Comma _ (eq_of text (codes ",")) (
    choose mark_spelling (bytes_eq text (codes ":")) OtherMark text Colon _ (eq_of text (codes ":")) (
    choose mark_spelling (bytes_eq text (codes "=")) OtherMark text Equals _ (eq_of text (codes "=")) (
    choose mark_spelling (bytes_eq text (codes "?")) OtherMark text Question _ (eq_of text (codes "?")) (
    inl refl))))))))))))))

of_word : (text : List ℕ) → Chosen word_spelling OtherWord text (word_symbol text)
unfolding word_symbol
of_word text =
    choose word_spelling (bytes_eq text (codes "async")) OtherWord text Async _ (eq_of text (codes "async")) (
    choose word_spelling (bytes_eq text (codes "both")) OtherWord text Both _ (eq_of text (codes "both")) (
    choose word_spelling (bytes_eq text (codes "child")) OtherWord text Child _ (eq_of text (codes "child")) (
    choose word_spelling (bytes_eq text (codes "class")) OtherWord text Class _ (eq_of text (codes "class")) (
    choose word_spelling (bytes_eq text (codes "from")) OtherWord text From _ (eq_of text (codes "from")) (
    choose word_spelling (bytes_eq text (codes "include")) OtherWord text Include _ (eq_of text (codes "include")) (
    choose word_spelling (bytes_eq text (codes "manager")) OtherWord text Manager _ (eq_of text (codes "manager")) (
    choose word_spelling (bytes_eq text (codes "manages")) OtherWord text Manages _ (eq_of text (codes "manages")) (
    choose word_spelling (bytes_eq text (codes "namespace")) OtherWord text Namespace _ (eq_of text (codes "namespace")) (
    choose word_spelling (bytes_eq text (codes "nullable")) OtherWord text Nullable _ (eq_of text (codes "nullable")) (
    choose word_spelling (bytes_eq text (codes "or")) OtherWord text Or _ (eq_of text (codes "or")) (
    choose word_spelling (bytes_eq text (codes "parent")) OtherWord text Parent _ (eq_of text (codes "parent")) (
    choose word_spelling (bytes_eq text (codes "protocol")) OtherWord text Protocol _ (eq_of text (codes "protocol")) (
    choose word_spelling (bytes_eq text (codes "returns")) OtherWord text Returns _ (eq_of text (codes "returns")) (
    choose word_spelling (bytes_eq text (codes "struct")) OtherWord text Struct _ (eq_of text (codes "struct")) (
    choose word_spelling (bytes_eq text (codes "sync")) OtherWord text Sync _ (eq_of text (codes "sync")) (
    choose word_spelling (bytes_eq text (codes "union")) OtherWord text Union _ (eq_of text (codes "union")) (
    choose word_spelling (bytes_eq text (codes "UniquePtr")) OtherWord text UniquePtr _ (eq_of text (codes "UniquePtr")) (
    choose word_spelling (bytes_eq text (codes "using")) OtherWord text Using _ (eq_of text (codes "using")) (
    inl refl)))))))))))))))))))

some : {x y : List ℕ} → Some x ≡ Some y → y ≡ x
some e = cc

mark_means : (s : Symbol) (t : Token) → t.kind ≡ kind.Mark → Chosen mark_spelling OtherMark t.text s → Means s t
mark_means End t k (inl e) = absurd (cc)
mark_means End t k (inr e) = absurd (cc)
mark_means Word t k (inl e) = absurd (cc)
mark_means Word t k (inr e) = absurd (cc)
mark_means Quoted t k (inl e) = absurd (cc)
mark_means Quoted t k (inr e) = absurd (cc)
mark_means OtherWord t k (inl e) = absurd (cc)
mark_means OtherWord t k (inr e) = absurd (cc)
mark_means OtherMark t k h = k
mark_means Colons t k (inl e) = absurd (cc)
mark_means Colons t k (inr e) = (k, some e)
mark_means OpenBrace t k (inl e) = absurd (cc)
mark_means OpenBrace t k (inr e) = (k, some e)
mark_means CloseBrace t k (inl e) = absurd (cc)
mark_means CloseBrace t k (inr e) = (k, some e)
mark_means OpenParen t k (inl e) = absurd (cc)
mark_means OpenParen t k (inr e) = (k, some e)
mark_means CloseParen t k (inl e) = absurd (cc)
mark_means CloseParen t k (inr e) = (k, some e)
mark_means OpenBracket t k (inl e) = absurd (cc)
mark_means OpenBracket t k (inr e) = (k, some e)
mark_means CloseBracket t k (inl e) = absurd (cc)
mark_means CloseBracket t k (inr e) = (k, some e)
mark_means Less t k (inl e) = absurd (cc)
mark_means Less t k (inr e) = (k, some e)
mark_means Greater t k (inl e) = absurd (cc)
mark_means Greater t k (inr e) = (k, some e)
mark_means Semicolon t k (inl e) = absurd (cc)
mark_means Semicolon t k (inr e) = (k, some e)
mark_means Comma t k (inl e) = absurd (cc)
mark_means Comma t k (inr e) = (k, some e)
mark_means Colon t k (inl e) = absurd (cc)
mark_means Colon t k (inr e) = (k, some e)
mark_means Equals t k (inl e) = absurd (cc)
mark_means Equals t k (inr e) = (k, some e)
mark_means Question t k (inl e) = absurd (cc)
mark_means Question t k (inr e) = (k, some e)
mark_means Async t k (inl e) = absurd (cc)
mark_means Async t k (inr e) = absurd (cc)
mark_means Both t k (inl e) = absurd (cc)
mark_means Both t k (inr e) = absurd (cc)
mark_means Child t k (inl e) = absurd (cc)
mark_means Child t k (inr e) = absurd (cc)
mark_means Class t k (inl e) = absurd (cc)
mark_means Class t k (inr e) = absurd (cc)
mark_means From t k (inl e) = absurd (cc)
mark_means From t k (inr e) = absurd (cc)
mark_means Include t k (inl e) = absurd (cc)
mark_means Include t k (inr e) = absurd (cc)
mark_means Manager t k (inl e) = absurd (cc)
mark_means Manager t k (inr e) = absurd (cc)
mark_means Manages t k (inl e) = absurd (cc)
mark_means Manages t k (inr e) = absurd (cc)
mark_means Namespace t k (inl e) = absurd (cc)
mark_means Namespace t k (inr e) = absurd (cc)
mark_means Nullable t k (inl e) = absurd (cc)
mark_means Nullable t k (inr e) = absurd (cc)
mark_means Or t k (inl e) = absurd (cc)
mark_means Or t k (inr e) = absurd (cc)
mark_means Parent t k (inl e) = absurd (cc)
mark_means Parent t k (inr e) = absurd (cc)
mark_means Protocol t k (inl e) = absurd (cc)
mark_means Protocol t k (inr e) = absurd (cc)
mark_means Returns t k (inl e) = absurd (cc)
mark_means Returns t k (inr e) = absurd (cc)
mark_means Struct t k (inl e) = absurd (cc)
mark_means Struct t k (inr e) = absurd (cc)
mark_means Sync t k (inl e) = absurd (cc)
mark_means Sync t k (inr e) = absurd (cc)
mark_means Union t k (inl e) = absurd (cc)
mark_means Union t k (inr e) = absurd (cc)
mark_means UniquePtr t k (inl e) = absurd (cc)
mark_means UniquePtr t k (inr e) = absurd (cc)
mark_means Using t k (inl e) = absurd (cc)
mark_means Using t k (inr e) = absurd (cc)

word_means : (s : Symbol) (t : Token) → t.kind ≡ kind.Reserved → Chosen word_spelling OtherWord t.text s → Means s t
word_means End t k (inl e) = absurd (cc)
word_means End t k (inr e) = absurd (cc)
word_means Word t k (inl e) = absurd (cc)
word_means Word t k (inr e) = absurd (cc)
word_means Quoted t k (inl e) = absurd (cc)
word_means Quoted t k (inr e) = absurd (cc)
word_means OtherWord t k h = k
word_means OtherMark t k (inl e) = absurd (cc)
word_means OtherMark t k (inr e) = absurd (cc)
word_means Colons t k (inl e) = absurd (cc)
word_means Colons t k (inr e) = absurd (cc)
word_means OpenBrace t k (inl e) = absurd (cc)
word_means OpenBrace t k (inr e) = absurd (cc)
word_means CloseBrace t k (inl e) = absurd (cc)
word_means CloseBrace t k (inr e) = absurd (cc)
word_means OpenParen t k (inl e) = absurd (cc)
word_means OpenParen t k (inr e) = absurd (cc)
word_means CloseParen t k (inl e) = absurd (cc)
word_means CloseParen t k (inr e) = absurd (cc)
word_means OpenBracket t k (inl e) = absurd (cc)
word_means OpenBracket t k (inr e) = absurd (cc)
word_means CloseBracket t k (inl e) = absurd (cc)
word_means CloseBracket t k (inr e) = absurd (cc)
word_means Less t k (inl e) = absurd (cc)
word_means Less t k (inr e) = absurd (cc)
word_means Greater t k (inl e) = absurd (cc)
word_means Greater t k (inr e) = absurd (cc)
word_means Semicolon t k (inl e) = absurd (cc)
word_means Semicolon t k (inr e) = absurd (cc)
word_means Comma t k (inl e) = absurd (cc)
word_means Comma t k (inr e) = absurd (cc)
word_means Colon t k (inl e) = absurd (cc)
word_means Colon t k (inr e) = absurd (cc)
word_means Equals t k (inl e) = absurd (cc)
word_means Equals t k (inr e) = absurd (cc)
word_means Question t k (inl e) = absurd (cc)
word_means Question t k (inr e) = absurd (cc)
word_means Async t k (inl e) = absurd (cc)
word_means Async t k (inr e) = (k, some e)
word_means Both t k (inl e) = absurd (cc)
word_means Both t k (inr e) = (k, some e)
word_means Child t k (inl e) = absurd (cc)
word_means Child t k (inr e) = (k, some e)
word_means Class t k (inl e) = absurd (cc)
word_means Class t k (inr e) = (k, some e)
word_means From t k (inl e) = absurd (cc)
word_means From t k (inr e) = (k, some e)
word_means Include t k (inl e) = absurd (cc)
word_means Include t k (inr e) = (k, some e)
word_means Manager t k (inl e) = absurd (cc)
word_means Manager t k (inr e) = (k, some e)
word_means Manages t k (inl e) = absurd (cc)
word_means Manages t k (inr e) = (k, some e)
word_means Namespace t k (inl e) = absurd (cc)
word_means Namespace t k (inr e) = (k, some e)
word_means Nullable t k (inl e) = absurd (cc)
word_means Nullable t k (inr e) = (k, some e)
word_means Or t k (inl e) = absurd (cc)
word_means Or t k (inr e) = (k, some e)
word_means Parent t k (inl e) = absurd (cc)
word_means Parent t k (inr e) = (k, some e)
word_means Protocol t k (inl e) = absurd (cc)
word_means Protocol t k (inr e) = (k, some e)
word_means Returns t k (inl e) = absurd (cc)
word_means Returns t k (inr e) = (k, some e)
word_means Struct t k (inl e) = absurd (cc)
word_means Struct t k (inr e) = (k, some e)
word_means Sync t k (inl e) = absurd (cc)
word_means Sync t k (inr e) = (k, some e)
word_means Union t k (inl e) = absurd (cc)
word_means Union t k (inr e) = (k, some e)
word_means UniquePtr t k (inl e) = absurd (cc)
word_means UniquePtr t k (inr e) = (k, some e)
word_means Using t k (inl e) = absurd (cc)
word_means Using t k (inr e) = (k, some e)

by_kind : (k : TokenKind) (t : Token) → t.kind ≡ k → Means (symbol_of k t.text) t
by_kind kind.Word t e = e
by_kind kind.Quoted t e = e
by_kind kind.Reserved t e = word_means (word_symbol t.text) t e (of_word t.text)
by_kind kind.Mark t e = mark_means (mark_symbol t.text) t e (of_mark t.text)

-- what the symbol of a token means holds
pub means : (t : Token) (s : Symbol) → symbol t ≡ s → Means s t
means t s e = subst (λ (z : Symbol). Means z t) e (by_kind t.kind t refl)

mark_of : (t : Token) (text : List ℕ) → (t.kind ≡ kind.Mark) × (t.text ≡ text) → symbol t ≡ mark_symbol text
mark_of t text h = ap (λ (k : TokenKind). symbol_of k t.text) h.0 ∙ ap mark_symbol h.1

word_of : (t : Token) (text : List ℕ) → (t.kind ≡ kind.Reserved) × (t.text ≡ text) → symbol t ≡ word_symbol text
word_of t text h = ap (λ (k : TokenKind). symbol_of k t.text) h.0 ∙ ap word_symbol h.1

-- a token with this property has this symbol
pub is_word : (t : Token) → t.kind ≡ kind.Word → symbol t ≡ Word
is_word t h = ap (λ (k : TokenKind). symbol_of k t.text) h

pub is_quoted : (t : Token) → t.kind ≡ kind.Quoted → symbol t ≡ Quoted
is_quoted t h = ap (λ (k : TokenKind). symbol_of k t.text) h

pub is_colons : (t : Token) → (t.kind ≡ kind.Mark) × (t.text ≡ codes "::") → symbol t ≡ Colons
unfolding mark_symbol
is_colons t h = mark_of t (codes "::") h

pub is_open_brace : (t : Token) → (t.kind ≡ kind.Mark) × (t.text ≡ codes "{") → symbol t ≡ OpenBrace
unfolding mark_symbol
is_open_brace t h = mark_of t (codes "{") h

pub is_close_brace : (t : Token) → (t.kind ≡ kind.Mark) × (t.text ≡ codes "}") → symbol t ≡ CloseBrace
unfolding mark_symbol
is_close_brace t h = mark_of t (codes "}") h

pub is_open_paren : (t : Token) → (t.kind ≡ kind.Mark) × (t.text ≡ codes "(") → symbol t ≡ OpenParen
unfolding mark_symbol
is_open_paren t h = mark_of t (codes "(") h

pub is_close_paren : (t : Token) → (t.kind ≡ kind.Mark) × (t.text ≡ codes ")") → symbol t ≡ CloseParen
unfolding mark_symbol
is_close_paren t h = mark_of t (codes ")") h

pub is_open_bracket : (t : Token) → (t.kind ≡ kind.Mark) × (t.text ≡ codes "[") → symbol t ≡ OpenBracket
unfolding mark_symbol
is_open_bracket t h = mark_of t (codes "[") h

pub is_close_bracket : (t : Token) → (t.kind ≡ kind.Mark) × (t.text ≡ codes "]") → symbol t ≡ CloseBracket
unfolding mark_symbol
is_close_bracket t h = mark_of t (codes "]") h

pub is_less : (t : Token) → (t.kind ≡ kind.Mark) × (t.text ≡ codes "<") → symbol t ≡ Less
unfolding mark_symbol
is_less t h = mark_of t (codes "<") h

pub is_greater : (t : Token) → (t.kind ≡ kind.Mark) × (t.text ≡ codes ">") → symbol t ≡ Greater
unfolding mark_symbol
is_greater t h = mark_of t (codes ">") h

pub is_semicolon : (t : Token) → (t.kind ≡ kind.Mark) × (t.text ≡ codes ";") → symbol t ≡ Semicolon
unfolding mark_symbol
is_semicolon t h = mark_of t (codes ";") h

pub is_comma : (t : Token) → (t.kind ≡ kind.Mark) × (t.text ≡ codes ",") → symbol t ≡ Comma
unfolding mark_symbol
is_comma t h = mark_of t (codes ",") h

pub is_colon : (t : Token) → (t.kind ≡ kind.Mark) × (t.text ≡ codes ":") → symbol t ≡ Colon
unfolding mark_symbol
is_colon t h = mark_of t (codes ":") h

pub is_equals : (t : Token) → (t.kind ≡ kind.Mark) × (t.text ≡ codes "=") → symbol t ≡ Equals
unfolding mark_symbol
is_equals t h = mark_of t (codes "=") h

pub is_question : (t : Token) → (t.kind ≡ kind.Mark) × (t.text ≡ codes "?") → symbol t ≡ Question
unfolding mark_symbol
is_question t h = mark_of t (codes "?") h

pub is_async : (t : Token) → (t.kind ≡ kind.Reserved) × (t.text ≡ codes "async") → symbol t ≡ Async
unfolding word_symbol
is_async t h = word_of t (codes "async") h

pub is_both : (t : Token) → (t.kind ≡ kind.Reserved) × (t.text ≡ codes "both") → symbol t ≡ Both
unfolding word_symbol
is_both t h = word_of t (codes "both") h

pub is_child : (t : Token) → (t.kind ≡ kind.Reserved) × (t.text ≡ codes "child") → symbol t ≡ Child
unfolding word_symbol
is_child t h = word_of t (codes "child") h

pub is_class : (t : Token) → (t.kind ≡ kind.Reserved) × (t.text ≡ codes "class") → symbol t ≡ Class
unfolding word_symbol
is_class t h = word_of t (codes "class") h

pub is_from : (t : Token) → (t.kind ≡ kind.Reserved) × (t.text ≡ codes "from") → symbol t ≡ From
unfolding word_symbol
is_from t h = word_of t (codes "from") h

pub is_include : (t : Token) → (t.kind ≡ kind.Reserved) × (t.text ≡ codes "include") → symbol t ≡ Include
unfolding word_symbol
is_include t h = word_of t (codes "include") h

pub is_manager : (t : Token) → (t.kind ≡ kind.Reserved) × (t.text ≡ codes "manager") → symbol t ≡ Manager
unfolding word_symbol
is_manager t h = word_of t (codes "manager") h

pub is_manages : (t : Token) → (t.kind ≡ kind.Reserved) × (t.text ≡ codes "manages") → symbol t ≡ Manages
unfolding word_symbol
is_manages t h = word_of t (codes "manages") h

pub is_namespace : (t : Token) → (t.kind ≡ kind.Reserved) × (t.text ≡ codes "namespace") → symbol t ≡ Namespace
unfolding word_symbol
is_namespace t h = word_of t (codes "namespace") h

pub is_nullable : (t : Token) → (t.kind ≡ kind.Reserved) × (t.text ≡ codes "nullable") → symbol t ≡ Nullable
unfolding word_symbol
is_nullable t h = word_of t (codes "nullable") h

pub is_or : (t : Token) → (t.kind ≡ kind.Reserved) × (t.text ≡ codes "or") → symbol t ≡ Or
unfolding word_symbol
is_or t h = word_of t (codes "or") h

pub is_parent : (t : Token) → (t.kind ≡ kind.Reserved) × (t.text ≡ codes "parent") → symbol t ≡ Parent
unfolding word_symbol
is_parent t h = word_of t (codes "parent") h

pub is_protocol : (t : Token) → (t.kind ≡ kind.Reserved) × (t.text ≡ codes "protocol") → symbol t ≡ Protocol
unfolding word_symbol
is_protocol t h = word_of t (codes "protocol") h

pub is_returns : (t : Token) → (t.kind ≡ kind.Reserved) × (t.text ≡ codes "returns") → symbol t ≡ Returns
unfolding word_symbol
is_returns t h = word_of t (codes "returns") h

pub is_struct : (t : Token) → (t.kind ≡ kind.Reserved) × (t.text ≡ codes "struct") → symbol t ≡ Struct
unfolding word_symbol
is_struct t h = word_of t (codes "struct") h

pub is_sync : (t : Token) → (t.kind ≡ kind.Reserved) × (t.text ≡ codes "sync") → symbol t ≡ Sync
unfolding word_symbol
is_sync t h = word_of t (codes "sync") h

pub is_union : (t : Token) → (t.kind ≡ kind.Reserved) × (t.text ≡ codes "union") → symbol t ≡ Union
unfolding word_symbol
is_union t h = word_of t (codes "union") h

pub is_unique_ptr : (t : Token) → (t.kind ≡ kind.Reserved) × (t.text ≡ codes "UniquePtr") → symbol t ≡ UniquePtr
unfolding word_symbol
is_unique_ptr t h = word_of t (codes "UniquePtr") h

pub is_using : (t : Token) → (t.kind ≡ kind.Reserved) × (t.text ≡ codes "using") → symbol t ≡ Using
unfolding word_symbol
is_using t h = word_of t (codes "using") h
