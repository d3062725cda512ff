-- Which tokens the forms of one token take.
use Rattle.std.proofs.Common.{◌≡◌, ◌≢◌, ℕ, List, [], ◌∷◌, length, Some, None, refl, sym, subst, ◌∙◌, arith}
use Rattle.ipdl_base.specs.declared.token.Token.{Token}
use Rattle.ipdl_base.specs.declared.token.TokenKind.TheVariants as kind
use Rattle.ipdl_base.specs.declared.finding.Place.{Place}
use Rattle.ipdl_syntax.specs.Parts.{identifier}
use Rattle.tree_reader.specs.declared.refusal.TreeRefusal.{TreeRefusal}
use Rattle.tree_reader.specs.declared.refusal.TreeRefusal.TheVariants.{Left}
use Rattle.tree_reader.specs.declared.symbol.Symbol.{Symbol}
use Rattle.tree_reader.specs.declared.symbol.Symbol.TheVariants.{End, Word, Quoted, OtherWord, OtherMark, Colons, OpenBrace, CloseBrace, OpenParen, CloseParen, OpenBracket, CloseBracket, Less, Greater, Semicolon, Comma, Colon, Equals, Question, Async, Both, Child, Class, From, Include, Manager, Manages, Namespace, Nullable, Or, Parent, Protocol, Returns, Struct, Sync, Union, UniquePtr, Using}
use Rattle.tree_reader.specs.Symbols.{symbol, first_symbol}
use Rattle.tree_reader.specs.Machine.{take, any_word, production}
use Rattle.tree_reader.specs.Reading.{Turns, Stops, IsNext, IsNextText}
use Rattle.tree_reader.proofs.Symbols.{means}
use Rattle.tree_reader.proofs.Turns.{turn, refused}

take_table : (s : Symbol) → s ≢ End → production (take s) s ≡ Some []
unfolding production
take_table End n = absurd (n refl)
take_table Word n = refl
take_table Quoted n = refl
take_table OtherWord n = refl
take_table OtherMark n = refl
take_table Colons n = refl
take_table OpenBrace n = refl
take_table CloseBrace n = refl
take_table OpenParen n = refl
take_table CloseParen n = refl
take_table OpenBracket n = refl
take_table CloseBracket n = refl
take_table Less n = refl
take_table Greater n = refl
take_table Semicolon n = refl
take_table Comma n = refl
take_table Colon n = refl
take_table Equals n = refl
take_table Question n = refl
take_table Async n = refl
take_table Both n = refl
take_table Child n = refl
take_table Class n = refl
take_table From n = refl
take_table Include n = refl
take_table Manager n = refl
take_table Manages n = refl
take_table Namespace n = refl
take_table Nullable n = refl
take_table Or n = refl
take_table Parent n = refl
take_table Protocol n = refl
take_table Returns n = refl
take_table Struct n = refl
take_table Sync n = refl
take_table Union n = refl
take_table UniquePtr n = refl
take_table Using n = refl

-- any other symbol has no production
take_other : (s x : Symbol) → s ≢ End → x ≢ s → production (take s) x ≡ None
unfolding production
take_other End x n o = absurd (n refl)
take_other Word Word n o = absurd (o refl)
take_other Quoted Quoted n o = absurd (o refl)
take_other OtherWord OtherWord n o = absurd (o refl)
take_other OtherMark OtherMark n o = absurd (o refl)
take_other Colons Colons n o = absurd (o refl)
take_other OpenBrace OpenBrace n o = absurd (o refl)
take_other CloseBrace CloseBrace n o = absurd (o refl)
take_other OpenParen OpenParen n o = absurd (o refl)
take_other CloseParen CloseParen n o = absurd (o refl)
take_other OpenBracket OpenBracket n o = absurd (o refl)
take_other CloseBracket CloseBracket n o = absurd (o refl)
take_other Less Less n o = absurd (o refl)
take_other Greater Greater n o = absurd (o refl)
take_other Semicolon Semicolon n o = absurd (o refl)
take_other Comma Comma n o = absurd (o refl)
take_other Colon Colon n o = absurd (o refl)
take_other Equals Equals n o = absurd (o refl)
take_other Question Question n o = absurd (o refl)
take_other Async Async n o = absurd (o refl)
take_other Both Both n o = absurd (o refl)
take_other Child Child n o = absurd (o refl)
take_other Class Class n o = absurd (o refl)
take_other From From n o = absurd (o refl)
take_other Include Include n o = absurd (o refl)
take_other Manager Manager n o = absurd (o refl)
take_other Manages Manages n o = absurd (o refl)
take_other Namespace Namespace n o = absurd (o refl)
take_other Nullable Nullable n o = absurd (o refl)
take_other Or Or n o = absurd (o refl)
take_other Parent Parent n o = absurd (o refl)
take_other Protocol Protocol n o = absurd (o refl)
take_other Returns Returns n o = absurd (o refl)
take_other Struct Struct n o = absurd (o refl)
take_other Sync Sync n o = absurd (o refl)
take_other Union Union n o = absurd (o refl)
take_other UniquePtr UniquePtr n o = absurd (o refl)
take_other Using Using n o = absurd (o refl)
take_other _ _ n o = refl

-- a token that is not a mark is a value
pub any_word_table : (s : Symbol) (t : Token) → symbol t ≡ s → t.kind ≢ kind.Mark → production any_word s ≡ Some []
unfolding production
any_word_table End t is k = absurd (means t End is)
any_word_table Word t is k = refl
any_word_table Quoted t is k = refl
any_word_table OtherWord t is k = refl
any_word_table OtherMark t is k = absurd (k (means t OtherMark is))
any_word_table Colons t is k = absurd (k (means t Colons is).0)
any_word_table OpenBrace t is k = absurd (k (means t OpenBrace is).0)
any_word_table CloseBrace t is k = absurd (k (means t CloseBrace is).0)
any_word_table OpenParen t is k = absurd (k (means t OpenParen is).0)
any_word_table CloseParen t is k = absurd (k (means t CloseParen is).0)
any_word_table OpenBracket t is k = absurd (k (means t OpenBracket is).0)
any_word_table CloseBracket t is k = absurd (k (means t CloseBracket is).0)
any_word_table Less t is k = absurd (k (means t Less is).0)
any_word_table Greater t is k = absurd (k (means t Greater is).0)
any_word_table Semicolon t is k = absurd (k (means t Semicolon is).0)
any_word_table Comma t is k = absurd (k (means t Comma is).0)
any_word_table Colon t is k = absurd (k (means t Colon is).0)
any_word_table Equals t is k = absurd (k (means t Equals is).0)
any_word_table Question t is k = absurd (k (means t Question is).0)
any_word_table Async t is k = refl
any_word_table Both t is k = refl
any_word_table Child t is k = refl
any_word_table Class t is k = refl
any_word_table From t is k = refl
any_word_table Include t is k = refl
any_word_table Manager t is k = refl
any_word_table Manages t is k = refl
any_word_table Namespace t is k = refl
any_word_table Nullable t is k = refl
any_word_table Or t is k = refl
any_word_table Parent t is k = refl
any_word_table Protocol t is k = refl
any_word_table Returns t is k = refl
any_word_table Struct t is k = refl
any_word_table Sync t is k = refl
any_word_table Union t is k = refl
any_word_table UniquePtr t is k = refl
any_word_table Using t is k = refl

mark_table : (s : Symbol) (t : Token) → symbol t ≡ s → t.kind ≡ kind.Mark → production any_word s ≡ None
unfolding production
mark_table End t is k = refl
mark_table Word t is k = absurd (cc (means t Word is))
mark_table Quoted t is k = absurd (cc (means t Quoted is))
mark_table OtherWord t is k = absurd (cc (means t OtherWord is))
mark_table OtherMark t is k = refl
mark_table Colons t is k = refl
mark_table OpenBrace t is k = refl
mark_table CloseBrace t is k = refl
mark_table OpenParen t is k = refl
mark_table CloseParen t is k = refl
mark_table OpenBracket t is k = refl
mark_table CloseBracket t is k = refl
mark_table Less t is k = refl
mark_table Greater t is k = refl
mark_table Semicolon t is k = refl
mark_table Comma t is k = refl
mark_table Colon t is k = refl
mark_table Equals t is k = refl
mark_table Question t is k = refl
mark_table Async t is k = absurd (cc (means t Async is).0)
mark_table Both t is k = absurd (cc (means t Both is).0)
mark_table Child t is k = absurd (cc (means t Child is).0)
mark_table Class t is k = absurd (cc (means t Class is).0)
mark_table From t is k = absurd (cc (means t From is).0)
mark_table Include t is k = absurd (cc (means t Include is).0)
mark_table Manager t is k = absurd (cc (means t Manager is).0)
mark_table Manages t is k = absurd (cc (means t Manages is).0)
mark_table Namespace t is k = absurd (cc (means t Namespace is).0)
mark_table Nullable t is k = absurd (cc (means t Nullable is).0)
mark_table Or t is k = absurd (cc (means t Or is).0)
mark_table Parent t is k = absurd (cc (means t Parent is).0)
mark_table Protocol t is k = absurd (cc (means t Protocol is).0)
mark_table Returns t is k = absurd (cc (means t Returns is).0)
mark_table Struct t is k = absurd (cc (means t Struct is).0)
mark_table Sync t is k = absurd (cc (means t Sync is).0)
mark_table Union t is k = absurd (cc (means t Union is).0)
mark_table UniquePtr t is k = absurd (cc (means t UniquePtr is).0)
mark_table Using t is k = absurd (cc (means t Using is).0)

-- a token of the expected symbol is taken
pub taken : (s : Symbol) (from to : List Token) → s ≢ End → IsNext s from to → Turns (take s ∷ []) from [] to
taken s from to n here = turn (take s) s [] from to here (take_table s n)

-- any other is refused, and the end
pub not_taken : (s : Symbol) (from : List Token) (e : TreeRefusal) → s ≢ End → first_symbol from ≢ s → e ≡ Left (length from) → Stops (take s ∷ []) from e
not_taken s from e n other is = refused (take s) from e (take_other s (first_symbol from) n other) is

-- a word with its text and its place is an identifier
pub is_identifier : (s : Symbol) (name : List ℕ) (place : Place) (from to : List Token) → s ≡ Word → IsNextText s name place from to → identifier name place from to
is_identifier s name place from to e (t, here, (is, text, at)) = (t, here, (means t Word (is ∙ e), text, at))

-- any word is taken
pub word_taken : (from : List Token) (t : Token) (to : List Token) → from ≡ t ∷ to → t.kind ≢ kind.Mark → Turns (any_word ∷ []) from [] to
word_taken from t to here k = turn any_word (symbol t) [] from to (t, here, refl) (any_word_table (symbol t) t refl k)

-- a mark is refused where any word is expected
pub mark_refused : (from : List Token) (t : Token) (to : List Token) (e : TreeRefusal) → from ≡ t ∷ to → t.kind ≡ kind.Mark → e ≡ Left (length from) → Stops (any_word ∷ []) from e
mark_refused from t to e here k is =
    refused any_word from e (subst (λ (x : List Token). production any_word (first_symbol x) ≡ None) (sym here) (mark_table (symbol t) t refl k)) is

-- the same of the end
end_has_none : (from : List Token) → length from ≡ 0 → production any_word (first_symbol from) ≡ None
unfolding production
end_has_none [] n = refl
end_has_none (t ∷ rest) n = absurd (omega arith)

pub end_refused : (from : List Token) (e : TreeRefusal) → length from ≡ 0 → e ≡ Left (length from) → Stops (any_word ∷ []) from e
end_refused from e n is = refused any_word from e (end_has_none from n) is

-- a token whose symbol is known
pub next_word : (s one : Symbol) (name : List ℕ) (place : Place) (from to : List Token) → s ≡ one → IsNextText s name place from to → IsNext one from to
next_word s one name place from to e (t, here, (is, text, at)) = (t, here, is ∙ e)
