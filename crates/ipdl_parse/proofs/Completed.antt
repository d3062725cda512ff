-- For each state of the machine, tokens that it takes to its end.
use Rattle.std.proofs.Common.{◌≡◌, ℕ, zero, suc, ◌+◌, ◌-◌, Bool, true, false, List, [], ◌∷◌, ◌++◌, length, Option, Some, None, codes, refl, ap, ◌∙◌, arith, append_assoc}
use Rattle.std.proofs.lemmas.Bool.{lt-ltb}
use Rattle.ipdl_base.specs.declared.token.Token.{Token}
use Rattle.ipdl_base.specs.declared.token.TokenKind.{TokenKind}
use Rattle.ipdl_base.specs.declared.token.TokenKind.TheVariants as kind
use Rattle.tree_reader.specs.Ending.{Ending}
use Rattle.tree_reader.specs.Ending as ending
use Rattle.tree_reader.specs.declared.symbol.Symbol.{Symbol}
use Rattle.tree_reader.specs.declared.symbol.Symbol.TheVariants.{End, Word, Quoted, OtherWord, OtherMark, Colons, OpenBrace, CloseBrace, OpenParen, CloseParen, OpenBracket, CloseBracket, Less, Greater, Semicolon, Comma, Colon, Equals, Question, Async, Both, Child, Class, From, Include, Manager, Manages, Namespace, Nullable, Or, Parent, Protocol, Returns, Struct, Sync, Union, UniquePtr, Using}
use Rattle.tree_reader.specs.Symbols.{symbol, mark_symbol, word_symbol}
use Rattle.tree_reader.specs.Machine.{Form, proper, take, any_word, argument_name, argument_words, suffixed, named, based, typed, attributed, after_attribute, more_attributed, one_param, parameters, more_parameters, after_parameters, one_message, messaged, managing, more_managing, fielded, componented, using_named, using_word, after_using, include_named, FileState, stand, stepped, step, gone_at, refusal, production}

-- a token with a symbol
abbrev of_kind : TokenKind → List ℕ → Token
of_kind k text = record { kind = k; text = text; place = record { file = 0; line = 0; column = 0 } }

abbrev token_of : Symbol → Token
token_of Quoted = of_kind kind.Quoted []
token_of OtherWord = of_kind kind.Reserved []
token_of OtherMark = of_kind kind.Mark []
token_of Colons = of_kind kind.Mark (codes "::")
token_of OpenBrace = of_kind kind.Mark (codes "{")
token_of CloseBrace = of_kind kind.Mark (codes "}")
token_of OpenParen = of_kind kind.Mark (codes "(")
token_of CloseParen = of_kind kind.Mark (codes ")")
token_of OpenBracket = of_kind kind.Mark (codes "[")
token_of CloseBracket = of_kind kind.Mark (codes "]")
token_of Less = of_kind kind.Mark (codes "<")
token_of Greater = of_kind kind.Mark (codes ">")
token_of Semicolon = of_kind kind.Mark (codes ";")
token_of Comma = of_kind kind.Mark (codes ",")
token_of Colon = of_kind kind.Mark (codes ":")
token_of Equals = of_kind kind.Mark (codes "=")
token_of Question = of_kind kind.Mark (codes "?")
token_of Async = of_kind kind.Reserved (codes "async")
token_of Both = of_kind kind.Reserved (codes "both")
token_of Child = of_kind kind.Reserved (codes "child")
token_of Class = of_kind kind.Reserved (codes "class")
token_of From = of_kind kind.Reserved (codes "from")
token_of Include = of_kind kind.Reserved (codes "include")
token_of Manager = of_kind kind.Reserved (codes "manager")
token_of Manages = of_kind kind.Reserved (codes "manages")
token_of Namespace = of_kind kind.Reserved (codes "namespace")
token_of Nullable = of_kind kind.Reserved (codes "nullable")
token_of Or = of_kind kind.Reserved (codes "or")
token_of Parent = of_kind kind.Reserved (codes "parent")
token_of Protocol = of_kind kind.Reserved (codes "protocol")
token_of Returns = of_kind kind.Reserved (codes "returns")
token_of Struct = of_kind kind.Reserved (codes "struct")
token_of Sync = of_kind kind.Reserved (codes "sync")
token_of Union = of_kind kind.Reserved (codes "union")
token_of UniquePtr = of_kind kind.Reserved (codes "UniquePtr")
token_of Using = of_kind kind.Reserved (codes "using")
token_of _ = of_kind kind.Word []

token_symbol : (s : Symbol) → symbol (token_of (proper s)) ≡ proper s
unfolding mark_symbol word_symbol
token_symbol End = refl
token_symbol Word = refl
token_symbol Quoted = refl
token_symbol OtherWord = refl
token_symbol OtherMark = refl
token_symbol Colons = refl
token_symbol OpenBrace = refl
token_symbol CloseBrace = refl
token_symbol OpenParen = refl
token_symbol CloseParen = refl
token_symbol OpenBracket = refl
token_symbol CloseBracket = refl
token_symbol Less = refl
token_symbol Greater = refl
token_symbol Semicolon = refl
token_symbol Comma = refl
token_symbol Colon = refl
token_symbol Equals = refl
token_symbol Question = refl
token_symbol Async = refl
token_symbol Both = refl
token_symbol Child = refl
token_symbol Class = refl
token_symbol From = refl
token_symbol Include = refl
token_symbol Manager = refl
token_symbol Manages = refl
token_symbol Namespace = refl
token_symbol Nullable = refl
token_symbol Or = refl
token_symbol Parent = refl
token_symbol Protocol = refl
token_symbol Returns = refl
token_symbol Struct = refl
token_symbol Sync = refl
token_symbol Union = refl
token_symbol UniquePtr = refl
token_symbol Using = refl

abbrev tokens_of : List Symbol → List Token
tokens_of [] = []
tokens_of (s ∷ ss) = token_of (proper s) ∷ tokens_of ss

abbrev last : Ending → Symbol
last ending.Name = Word
last ending.Semicolon = Semicolon
last ending.Greater = Greater

-- what completes a form
abbrev completion : Form → List Symbol
completion (take s) = s ∷ []
completion any_word = Word ∷ []
completion argument_name = Word ∷ Greater ∷ []
completion argument_words = Greater ∷ []
completion (suffixed n e) = last e ∷ []
completion (named e) = last e ∷ []
completion (based room e) = Word ∷ last e ∷ []
completion (typed room e) = Word ∷ last e ∷ []
completion attributed = Word ∷ CloseBracket ∷ []
completion after_attribute = CloseBracket ∷ []
completion more_attributed = CloseBracket ∷ []
completion one_param = Word ∷ Word ∷ []
completion parameters = CloseParen ∷ []
completion more_parameters = CloseParen ∷ []
completion after_parameters = Semicolon ∷ []
completion one_message = Async ∷ Word ∷ OpenParen ∷ CloseParen ∷ Semicolon ∷ []
completion (messaged d) = CloseBrace ∷ Semicolon ∷ []
completion managing = CloseBrace ∷ Semicolon ∷ []
completion more_managing = Semicolon ∷ []
completion fielded = CloseBrace ∷ Semicolon ∷ []
completion componented = CloseBrace ∷ Semicolon ∷ []
completion using_named = Word ∷ From ∷ Quoted ∷ Semicolon ∷ []
completion using_word = Word ∷ From ∷ Quoted ∷ Semicolon ∷ []
completion after_using = From ∷ Quoted ∷ Semicolon ∷ []
completion include_named = Word ∷ Semicolon ∷ []

-- a form is completed: the machine takes the tokens, and is then after the form
abbrev Completes : Form → Type 0
Completes f = (forms : List Form) (at : FileState) (rest : List Token) → refusal (f ∷ forms) at (tokens_of (completion f) ++ rest) ≡ refusal forms at rest

take_completes : (s : Symbol) → Completes (take s)
unfolding refusal production mark_symbol word_symbol
take_completes End forms at rest = refl
take_completes Word forms at rest = refl
take_completes Quoted forms at rest = refl
take_completes OtherWord forms at rest = refl
take_completes OtherMark forms at rest = refl
take_completes Colons forms at rest = refl
take_completes OpenBrace forms at rest = refl
take_completes CloseBrace forms at rest = refl
take_completes OpenParen forms at rest = refl
take_completes CloseParen forms at rest = refl
take_completes OpenBracket forms at rest = refl
take_completes CloseBracket forms at rest = refl
take_completes Less forms at rest = refl
take_completes Greater forms at rest = refl
take_completes Semicolon forms at rest = refl
take_completes Comma forms at rest = refl
take_completes Colon forms at rest = refl
take_completes Equals forms at rest = refl
take_completes Question forms at rest = refl
take_completes Async forms at rest = refl
take_completes Both forms at rest = refl
take_completes Child forms at rest = refl
take_completes Class forms at rest = refl
take_completes From forms at rest = refl
take_completes Include forms at rest = refl
take_completes Manager forms at rest = refl
take_completes Manages forms at rest = refl
take_completes Namespace forms at rest = refl
take_completes Nullable forms at rest = refl
take_completes Or forms at rest = refl
take_completes Parent forms at rest = refl
take_completes Protocol forms at rest = refl
take_completes Returns forms at rest = refl
take_completes Struct forms at rest = refl
take_completes Sync forms at rest = refl
take_completes Union forms at rest = refl
take_completes UniquePtr forms at rest = refl
take_completes Using forms at rest = refl

suffixed_completes : (n : ℕ) (e : Ending) → Completes (suffixed n e)
unfolding refusal production mark_symbol word_symbol
suffixed_completes n ending.Name forms at rest = refl
suffixed_completes n ending.Semicolon forms at rest = refl
suffixed_completes n ending.Greater forms at rest = refl

named_completes : (e : Ending) → Completes (named e)
unfolding refusal production mark_symbol word_symbol
named_completes ending.Name forms at rest = refl
named_completes ending.Semicolon forms at rest = refl
named_completes ending.Greater forms at rest = refl

based_completes : (room : ℕ) (e : Ending) → Completes (based room e)
unfolding refusal production mark_symbol word_symbol
based_completes room ending.Name forms at rest = refl
based_completes room ending.Semicolon forms at rest = refl
based_completes room ending.Greater forms at rest = refl

typed_completes : (room : ℕ) (e : Ending) → Completes (typed room e)
unfolding refusal production mark_symbol word_symbol
typed_completes room ending.Name forms at rest = refl
typed_completes room ending.Semicolon forms at rest = refl
typed_completes room ending.Greater forms at rest = refl

completes : (f : Form) → Completes f
unfolding refusal production mark_symbol word_symbol
completes (take s) = take_completes s
completes (suffixed n e) = suffixed_completes n e
completes (named e) = named_completes e
completes (based room e) = based_completes room e
completes (typed room e) = typed_completes room e
completes any_word = λ forms at rest. refl
completes argument_name = λ forms at rest. refl
completes argument_words = λ forms at rest. refl
completes attributed = λ forms at rest. refl
completes after_attribute = λ forms at rest. refl
completes more_attributed = λ forms at rest. refl
completes one_param = λ forms at rest. refl
completes parameters = λ forms at rest. refl
completes more_parameters = λ forms at rest. refl
completes after_parameters = λ forms at rest. refl
completes one_message = λ forms at rest. refl
completes managing = λ forms at rest. refl
completes more_managing = λ forms at rest. refl
completes fielded = λ forms at rest. refl
completes componented = λ forms at rest. refl
completes using_named = λ forms at rest. refl
completes using_word = λ forms at rest. refl
completes after_using = λ forms at rest. refl
completes include_named = λ forms at rest. refl
completes (messaged d) = λ forms at rest. refl

-- what completes forms, one after the other
abbrev completions : List Form → List Token
completions [] = []
completions (f ∷ fs) = tokens_of (completion f) ++ completions fs

all_complete : (forms : List Form) (at : FileState) (rest : List Token) → refusal forms at (completions forms ++ rest) ≡ refusal [] at rest
all_complete [] at rest = refl
all_complete (f ∷ fs) at rest =
    ap (λ (x : List Token). refusal (f ∷ fs) at x) (append_assoc (tokens_of (completion f)) (completions fs) rest)
    ∙ completes f fs at (completions fs ++ rest) ∙ all_complete fs at rest

-- the ends of this number of namespaces
abbrev closings : ℕ → List Token
closings zero = []
closings (suc n) = token_of CloseBrace ∷ closings n

closed_steps : (may : Bool) (n : ℕ) → step (stand may (suc n) false) CloseBrace ≡ Some ([], stand may n false)
unfolding step
closed_steps may n =
    let e : suc n - 1 ≡ n = omega arith in
    ap (λ (b : Bool). stepped b [] (stand may (suc n - 1) false)) (lt-ltb 0 (suc n) (omega arith)) ∙ ap (λ (k : ℕ). Some ([], stand may k false)) e

closings_complete : (n : ℕ) → refusal [] (stand false n false) (closings n) ≡ None
unfolding refusal mark_symbol
closings_complete zero = refl
closings_complete (suc n) = ap (λ (o : Option (List Form × FileState)). gone_at o (length (closings n) + 1) (λ forms to. refusal forms to (closings n))) (closed_steps false n) ∙ closings_complete n

-- a protocol, where it may still come
abbrev protocols : Bool → List Token
protocols true = tokens_of (Protocol ∷ Word ∷ OpenBrace ∷ CloseBrace ∷ Semicolon ∷ [])
protocols false = []

protocols_complete : (may : Bool) (n : ℕ) → refusal [] (stand may n false) (protocols may ++ closings n) ≡ None
unfolding refusal production step mark_symbol word_symbol
protocols_complete true n = closings_complete n
protocols_complete false n = closings_complete n

-- a struct, if attributes came before
abbrev structs : Bool → List Token
structs true = tokens_of (Struct ∷ Word ∷ OpenBrace ∷ CloseBrace ∷ Semicolon ∷ [])
structs false = []

structs_complete : (may headed : Bool) (n : ℕ) → refusal [] (stand may n headed) (structs headed ++ (protocols may ++ closings n)) ≡ None
unfolding refusal production step mark_symbol word_symbol
structs_complete may true n = protocols_complete may n
structs_complete may false n = protocols_complete may n

-- what completes a file in this state
abbrev file_completion : FileState → List Token
file_completion (stand may n headed) = structs headed ++ (protocols may ++ closings n)

stand_complete : (at : FileState) → refusal [] at (file_completion at) ≡ None
stand_complete (stand may n headed) = structs_complete may headed n

-- Each state is completed.
pub completed : (forms : List Form) (at : FileState) → (more : List Token) × (refusal forms at more ≡ None)
completed forms at = (completions forms ++ file_completion at, all_complete forms at (file_completion at) ∙ stand_complete at)
