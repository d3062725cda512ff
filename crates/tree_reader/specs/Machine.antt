-- The machine that takes a file's tokens, one after another. Its state is what is still to come: forms, and then the
-- rest of the file.
use Rattle.std.specs.Prelude.{ℕ, ◌+◌, ◌-◌, Bool, true, false, ◌&&◌, ◌==◌, not, nat_lt, cond, List, [], ◌∷◌, ◌++◌, length, Option, Some, None}
use Rattle.ipdl_base.specs.declared.kinds.Direction.{Direction}
use Rattle.ipdl_base.specs.declared.kinds.Direction.TheVariants as direction
use Rattle.ipdl_base.specs.declared.token.Token.{Token}
use Rattle.ipdl_syntax.specs.declared.tree.FileKind.{FileKind}
use Rattle.ipdl_syntax.specs.declared.tree.FileKind.TheVariants as file_kind
use Rattle.tree_reader.specs.Ending.{Ending}
use Rattle.tree_reader.specs.Ending as ending
use Rattle.tree_reader.specs.declared.symbol.Symbol.{Symbol}
use Rattle.tree_reader.specs.declared.symbol.Symbol.TheVariants.{End, Word, Quoted, OtherWord, OtherMark, Colons, OpenBrace, CloseBrace, OpenParen, CloseParen, OpenBracket, CloseBracket, Less, Greater, Semicolon, Comma, Colon, Equals, Question, Async, Both, Child, Class, From, Include, Manager, Manages, Namespace, Nullable, Or, Parent, Protocol, Returns, Struct, Sync, Union, UniquePtr, Using}
use Rattle.tree_reader.specs.Symbols.{symbol}

-- What may still be to come. Each form ends with the mark or the word that ends it.
pub data Form : Type 0 where
  -- one token
  take : Symbol → Form
  -- the value of an attribute
  any_word : Form
  -- the argument of a name after its `<`, and the same after a word of it
  argument_name : Form
  argument_words : Form
  -- at most this number of suffixes, and what ends the type
  suffixed : ℕ → Ending → Form
  -- a type after a word of its name
  named : Ending → Form
  -- a type without `nullable`, and a type, with room for this number of nested `UniquePtr`
  based : ℕ → Ending → Form
  typed : ℕ → Ending → Form
  -- attributes after the `[` or a comma, the same after the name of an attribute, and after an attribute
  attributed : Form
  after_attribute : Form
  more_attributed : Form
  -- a parameter; parameters after the `(`, and after one of them
  one_param : Form
  parameters : Form
  more_parameters : Form
  -- a message after its parameters, and after its attributes
  after_parameters : Form
  one_message : Form
  -- a protocol from a message of a section on, from its first statement on, and managers after one of them
  messaged : Direction → Form
  managing : Form
  more_managing : Form
  -- fields and components
  fielded : Form
  componented : Form
  -- a using from its name, or the word before it, on; from its name on; and after a word of its name
  using_named : Form
  using_word : Form
  after_using : Form
  -- the name of an include
  include_named : Form

-- the symbol that a form of one token requires; the end is not a token
abbrev pub proper : Symbol → Symbol
proper End = Word
proper s = s

abbrev pub following : Option (List Form) → List Form → Option (List Form)
following None more = None
following (Some forms) more = Some (forms ++ more)

abbrev pub provided_that : Bool → List Form → Option (List Form)
provided_that true forms = Some forms
provided_that false forms = None

-- what ends a type
abbrev pub ends : Ending → Symbol → Option (List Form)
ends ending.Name Word = Some []
ends ending.Semicolon Semicolon = Some []
ends ending.Greater Greater = Some []
ends _ _ = None

abbrev pub suffix_begins : ℕ → Ending → Symbol → Option (List Form)
suffix_begins n e OpenBracket = provided_that (nat_lt 0 n) (take CloseBracket ∷ suffixed (n - 1) e ∷ [])
suffix_begins n e Question = provided_that (nat_lt 0 n) (suffixed (n - 1) e ∷ [])
suffix_begins n e s = ends e s

abbrev pub base_begins : ℕ → Ending → Symbol → Option (List Form)
base_begins room e Word = Some (named e ∷ [])
base_begins room e UniquePtr = provided_that (nat_lt 0 room) (take Less ∷ typed (room - 1) ending.Greater ∷ suffixed 4 e ∷ [])
base_begins room e _ = None

abbrev pub type_begins : ℕ → Ending → Symbol → Option (List Form)
type_begins room e Nullable = Some (based room e ∷ [])
type_begins room e s = base_begins room e s

abbrev pub param_begins : Symbol → Option (List Form)
param_begins OpenBracket = Some (attributed ∷ typed 4 ending.Name ∷ [])
param_begins s = type_begins 4 ending.Name s

abbrev pub message_begins : Symbol → Option (List Form)
message_begins Async = Some (take Word ∷ take OpenParen ∷ parameters ∷ after_parameters ∷ [])
message_begins Sync = Some (take Word ∷ take OpenParen ∷ parameters ∷ after_parameters ∷ [])
message_begins _ = None

abbrev pub section_begins : Symbol → Option (List Form)
section_begins Parent = Some (take Colon ∷ messaged direction.Parent ∷ [])
section_begins Child = Some (take Colon ∷ messaged direction.Child ∷ [])
section_begins Both = Some (take Colon ∷ messaged direction.Both ∷ [])
section_begins CloseBrace = Some (take Semicolon ∷ [])
section_begins _ = None

-- What is still to come of a form after a first token with this symbol, or None if the form does not begin with such
-- a token.
unfoldable pub production : Form → Symbol → Option (List Form)
production (take End) Word = Some []
production (take Word) Word = Some []
production (take Quoted) Quoted = Some []
production (take OtherWord) OtherWord = Some []
production (take OtherMark) OtherMark = Some []
production (take Colons) Colons = Some []
production (take OpenBrace) OpenBrace = Some []
production (take CloseBrace) CloseBrace = Some []
production (take OpenParen) OpenParen = Some []
production (take CloseParen) CloseParen = Some []
production (take OpenBracket) OpenBracket = Some []
production (take CloseBracket) CloseBracket = Some []
production (take Less) Less = Some []
production (take Greater) Greater = Some []
production (take Semicolon) Semicolon = Some []
production (take Comma) Comma = Some []
production (take Colon) Colon = Some []
production (take Equals) Equals = Some []
production (take Question) Question = Some []
production (take Async) Async = Some []
production (take Both) Both = Some []
production (take Child) Child = Some []
production (take Class) Class = Some []
production (take From) From = Some []
production (take Include) Include = Some []
production (take Manager) Manager = Some []
production (take Manages) Manages = Some []
production (take Namespace) Namespace = Some []
production (take Nullable) Nullable = Some []
production (take Or) Or = Some []
production (take Parent) Parent = Some []
production (take Protocol) Protocol = Some []
production (take Returns) Returns = Some []
production (take Struct) Struct = Some []
production (take Sync) Sync = Some []
production (take Union) Union = Some []
production (take UniquePtr) UniquePtr = Some []
production (take Using) Using = Some []
production (take _) _ = None
production any_word Word = Some []
production any_word Quoted = Some []
production any_word OtherWord = Some []
production any_word Async = Some []
production any_word Both = Some []
production any_word Child = Some []
production any_word Class = Some []
production any_word From = Some []
production any_word Include = Some []
production any_word Manager = Some []
production any_word Manages = Some []
production any_word Namespace = Some []
production any_word Nullable = Some []
production any_word Or = Some []
production any_word Parent = Some []
production any_word Protocol = Some []
production any_word Returns = Some []
production any_word Struct = Some []
production any_word Sync = Some []
production any_word Union = Some []
production any_word UniquePtr = Some []
production any_word Using = Some []
production any_word _ = None
production argument_name Word = Some (argument_words ∷ [])
production argument_name _ = None
production argument_words Colons = Some (take Word ∷ argument_words ∷ [])
production argument_words Greater = Some []
production argument_words _ = None
production (suffixed n e) s = suffix_begins n e s
production (named e) Colons = Some (take Word ∷ named e ∷ [])
production (named e) Less = Some (argument_name ∷ suffixed 4 e ∷ [])
production (named e) s = suffix_begins 4 e s
production (based room e) s = base_begins room e s
production (typed room e) s = type_begins room e s
production attributed Word = Some (after_attribute ∷ [])
production attributed _ = None
production after_attribute Equals = Some (any_word ∷ more_attributed ∷ [])
production after_attribute Comma = Some (attributed ∷ [])
production after_attribute CloseBracket = Some []
production after_attribute _ = None
production more_attributed Comma = Some (attributed ∷ [])
production more_attributed CloseBracket = Some []
production more_attributed _ = None
production one_param s = param_begins s
production parameters CloseParen = Some []
production parameters s = following (param_begins s) (more_parameters ∷ [])
production more_parameters Comma = Some (one_param ∷ more_parameters ∷ [])
production more_parameters CloseParen = Some []
production more_parameters _ = None
production after_parameters Returns = Some (take OpenParen ∷ parameters ∷ take Semicolon ∷ [])
production after_parameters Semicolon = Some []
production after_parameters _ = None
production one_message s = message_begins s
production (messaged d) OpenBracket = Some (attributed ∷ one_message ∷ messaged d ∷ [])
production (messaged d) Async = Some (take Word ∷ take OpenParen ∷ parameters ∷ after_parameters ∷ messaged d ∷ [])
production (messaged d) Sync = Some (take Word ∷ take OpenParen ∷ parameters ∷ after_parameters ∷ messaged d ∷ [])
production (messaged d) s = section_begins s
production managing Manager = Some (take Word ∷ more_managing ∷ managing ∷ [])
production managing Manages = Some (take Word ∷ take Semicolon ∷ managing ∷ [])
production managing s = section_begins s
production more_managing Or = Some (take Word ∷ more_managing ∷ [])
production more_managing Semicolon = Some []
production more_managing _ = None
production fielded CloseBrace = Some (take Semicolon ∷ [])
production fielded s = following (type_begins 4 ending.Name s) (take Semicolon ∷ fielded ∷ [])
production componented CloseBrace = Some (take Semicolon ∷ [])
production componented s = following (type_begins 4 ending.Semicolon s) (componented ∷ [])
production using_named Class = Some (using_word ∷ [])
production using_named Struct = Some (using_word ∷ [])
production using_named Word = Some (after_using ∷ [])
production using_named _ = None
production using_word Word = Some (after_using ∷ [])
production using_word _ = None
production after_using Colons = Some (take Word ∷ after_using ∷ [])
production after_using Less = Some (argument_name ∷ take From ∷ take Quoted ∷ take Semicolon ∷ [])
production after_using From = Some (take Quoted ∷ take Semicolon ∷ [])
production after_using _ = None
production include_named Protocol = Some (take Word ∷ take Semicolon ∷ [])
production include_named Word = Some (take Semicolon ∷ [])
production include_named Quoted = Some (take Semicolon ∷ [])
production include_named _ = None

-- The state of a file between its declarations: whether the protocol may still come, the number of open namespaces,
-- and whether attributes came just before.
pub data FileState : Type 0 where
  stand : Bool → ℕ → Bool → FileState

abbrev pub stepped : Bool → List Form → FileState → Option (List Form × FileState)
stepped true forms to = Some (forms, to)
stepped false forms to = None

-- what begins a declaration without attributes before it: its words, attributes, or a namespace's end; and what comes
-- after that
abbrev pub bare_step : Bool → ℕ → Symbol → Option (List Form × FileState)
bare_step may depth OpenBracket = Some (attributed ∷ [], stand may depth true)
bare_step may depth Include = stepped (depth == 0) (include_named ∷ []) (stand may depth false)
bare_step may depth Namespace = stepped (nat_lt depth 16) (take Word ∷ take OpenBrace ∷ []) (stand may (depth + 1) false)
bare_step may depth CloseBrace = stepped (nat_lt 0 depth) [] (stand may (depth - 1) false)
bare_step _ _ _ = None

abbrev pub unheaded_step : Bool → Bool → ℕ → Symbol → Option (List Form × FileState)
unheaded_step true may depth s = None
unheaded_step false may depth s = bare_step may depth s

-- the words that begin a declaration, and what comes after them
unfoldable pub step : FileState → Symbol → Option (List Form × FileState)
step (stand may depth headed) Struct = Some (take Word ∷ take OpenBrace ∷ fielded ∷ [], stand may depth false)
step (stand may depth headed) Union = Some (take Word ∷ take OpenBrace ∷ typed 4 ending.Semicolon ∷ componented ∷ [], stand may depth false)
step (stand may depth headed) Using = stepped (depth == 0) (using_named ∷ []) (stand may depth false)
step (stand may depth headed) Protocol = stepped may (take Word ∷ take OpenBrace ∷ managing ∷ []) (stand false depth false)
step (stand may depth headed) Async = stepped may (take Protocol ∷ take Word ∷ take OpenBrace ∷ managing ∷ []) (stand false depth false)
step (stand may depth headed) Sync = stepped may (take Protocol ∷ take Word ∷ take OpenBrace ∷ managing ∷ []) (stand false depth false)
step (stand may depth headed) s = unheaded_step headed may depth s

-- whether a file may end here
abbrev pub is_end : List Form → FileState → Bool
is_end [] (stand may depth headed) = not may && ((depth == 0) && not headed)
is_end (f ∷ forms) at = false

-- the state in which a file begins
abbrev pub begin : FileKind → FileState
begin file_kind.Protocol = stand true 0 false
begin file_kind.Header = stand false 0 false

abbrev pub gone_at : Option (List Form × FileState) → ℕ → (List Form → FileState → Option ℕ) → Option ℕ
gone_at None left go = Some left
gone_at (Some next) left go = go next.0 next.1

abbrev pub gone_in : Option (List Form) → ℕ → (List Form → Option ℕ) → Option ℕ
gone_in None left go = Some left
gone_in (Some new) left go = go new

-- The number of tokens that are left where the machine refuses, or None where it takes all and may end.
unfoldable pub refusal : List Form → FileState → List Token → Option ℕ
refusal forms at [] = cond (is_end forms at) None (Some 0)
refusal [] at (t ∷ rest) = gone_at (step at (symbol t)) (length rest + 1) (λ forms to. refusal forms to rest)
refusal (f ∷ forms) at (t ∷ rest) = gone_in (production f (symbol t)) (length rest + 1) (λ new. refusal (new ++ forms) at rest)
