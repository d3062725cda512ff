-- The state of a reader of a file between two declarations: what was read, and what is still to come.
use Rattle.std.specs.Prelude.{◌≡◌, ◌≢◌, ℕ, ◌-◌, ◌⊎◌, Bool, true, false, List, [], ◌∷◌, ◌++◌, length, Option, Some, None, codes}
use Rattle.ipdl_base.specs.declared.kinds.Semantics.{Semantics}
use Rattle.ipdl_base.specs.declared.token.Token.{Token}
use Rattle.ipdl_syntax.specs.declared.tree.Attribute.{Attribute}
use Rattle.ipdl_syntax.specs.declared.tree.FileKind.{FileKind}
use Rattle.ipdl_syntax.specs.declared.tree.FileKind.TheVariants as file
use Rattle.ipdl_syntax.specs.declared.tree.ProtocolDecl.{ProtocolDecl}
use Rattle.ipdl_syntax.specs.Parts.{◌⨾◌, mark}
use Rattle.ipdl_syntax.specs.Grammar.{attributes, protocol_semantics, Inside, Outside, Holder, inside, outside, holder, protocol_file}
use Rattle.ipdl_syntax.specs.Program.{Tree, Declarations, ◌&◌, declared_inside, declared_outside, declared_round, protocol_of, unit_of}
use Rattle.tree_reader.specs.declared.file.Draft.{Draft}
use Rattle.tree_reader.specs.declared.refusal.TreeRefusal.{TreeRefusal}
use Rattle.tree_reader.specs.declared.refusal.TreeRefusal.TheVariants.{Left, NoMemory}
use Rattle.tree_reader.specs.declared.symbol.Symbol.{Symbol}
use Rattle.tree_reader.specs.declared.symbol.Symbol.TheVariants as symbols
use Rattle.tree_reader.specs.Symbols.{first_symbol}
use Rattle.tree_reader.specs.Machine.{stand, take, managing, unheaded_step, begin, refusal}

-- The machine refuses the tokens of a file where this number of tokens is left. Memory may run out in any case.
abbrev pub FileStops : FileKind → List Token → TreeRefusal → Type 0
FileStops kind tokens (Left n) = refusal [] (begin kind) tokens ≡ Some n
FileStops kind tokens NoMemory = Unit {0}

-- Open namespaces, by their names from the innermost to the outermost

-- the names from the outermost to the innermost
abbrev pub scope_of : List (List ℕ) → List (List ℕ)
scope_of [] = []
scope_of (name ∷ outer) = scope_of outer ++ name ∷ []

-- the number of namespaces that may still be opened inside one another
abbrev pub room_of : List (List ℕ) → ℕ
room_of [] = 16
room_of (name ∷ outer) = room_of outer - 1

-- What is left of a file and what it declares, if no protocol may come: the rest of each open namespace, from the
-- innermost, and of the file.
abbrev pub ClosedRest : List (List ℕ) → Declarations → List Token → Type 0
ClosedRest [] all from = (x : Outside) × (all ≡ declared_outside x) × outside x from []
ClosedRest (name ∷ outer) all from =
    (x : Inside) × (rest : Declarations) × (middle : List Token) × (all ≡ declared_inside x & rest)
    × (inside (room_of (name ∷ outer)) (scope_of (name ∷ outer)) x ⨾ mark (codes "}")) from middle × ClosedRest outer rest middle

-- The same if the protocol is still to come: in the innermost namespace, or after its end.
abbrev pub OpenRest : List (List ℕ) → Declarations → ProtocolDecl → List Token → Type 0
OpenRest [] all p from =
    (before : Outside) × (one : Holder) × (after : Outside) × (all ≡ declared_outside before & declared_round one & declared_outside after)
    × (p ≡ protocol_of one) × protocol_file before one after from []
OpenRest (name ∷ outer) all p from =
    (x : Inside) × (middle : List Token) × inside (room_of (name ∷ outer)) (scope_of (name ∷ outer)) x from middle
    × (((rest : Declarations) × (end : List Token) × (all ≡ declared_inside x & rest) × mark (codes "}") middle end × OpenRest outer rest p end)
    ⊎ ((one : Holder) × (y : Inside) × (rest : Declarations) × (end : List Token) × (all ≡ declared_inside x & declared_round one & declared_inside y & rest) × (p ≡ protocol_of one)
    × (holder (room_of (name ∷ outer)) (scope_of (name ∷ outer)) one ⨾ inside (room_of (name ∷ outer)) (scope_of (name ∷ outer)) y ⨾ mark (codes "}")) middle end × ClosedRest outer rest end))

-- Whatever is left from here makes a tree of all tokens together with what was declared so far.
abbrev pub Makes : FileKind → List Token → Bool → List (List ℕ) → Declarations → Option ProtocolDecl → List Token → Type 0
Makes kind tokens true path so_far protocol from = (rest : Declarations) (p : ProtocolDecl) → OpenRest path rest p from → Tree kind tokens (unit_of (so_far & rest) (Some p))
Makes kind tokens false path so_far protocol from = (rest : Declarations) → ClosedRest path rest from → Tree kind tokens (unit_of (so_far & rest) protocol)

-- whether the protocol may still come
abbrev pub may_come : FileKind → Option ProtocolDecl → Bool
may_come file.Protocol None = true
may_come file.Protocol (Some p) = false
may_come file.Header protocol = false

-- whether a protocol begins with this symbol: its keyword, or the word before it
abbrev pub begins_protocol : Symbol → Bool
begins_protocol symbols.Protocol = true
begins_protocol symbols.Async = true
begins_protocol symbols.Sync = true
begins_protocol _ = false

-- the declarations of a draft
abbrev pub declared_of : Draft → Declarations
declared_of draft = record { includes = draft.includes.items; usings = draft.usings.items; structs = draft.structs.items; unions = draft.unions.items }

-- A draft has what is in the tokens of a file before those that are left, and the machine is between two declarations.
pub record IsDraft (kind : FileKind) (tokens : List Token) (draft : Draft) (from : List Token) : Type 0 where
  pub path : List (List ℕ)
  pub scope : draft.scope.items ≡ scope_of path
  pub makes : Makes kind tokens (may_come kind draft.protocol) path (declared_of draft) draft.protocol from
  pub goes : refusal [] (begin kind) tokens ≡ refusal [] (stand (may_come kind draft.protocol) (length path) false) from

-- The same after the attributes of a declaration. Without attributes, no step but that of a declaration may follow.
pub record IsHeadedDraft (kind : FileKind) (tokens : List Token) (list : List Attribute) (draft : Draft) (from : List Token) : Type 0 where
  pub path : List (List ℕ)
  pub scope : draft.scope.items ≡ scope_of path
  pub before : List Token
  pub head : attributes list before from
  pub makes : Makes kind tokens (may_come kind draft.protocol) path (declared_of draft) draft.protocol before
  pub headed : Bool
  pub goes : refusal [] (begin kind) tokens ≡ refusal [] (stand (may_come kind draft.protocol) (length path) headed) from
  pub bare : unheaded_step headed (may_come kind draft.protocol) (length path) (first_symbol from) ≡ None
  pub more : headed ≡ false → first_symbol from ≢ symbols.End

-- The same after the attributes of the protocol and the word that gives its semantics.
pub record IsProtocolDraft (kind : FileKind) (tokens : List Token) (list : List Attribute) (how : Semantics) (draft : Draft) (from : List Token) : Type 0 where
  pub path : List (List ℕ)
  pub scope : draft.scope.items ≡ scope_of path
  pub before : List Token
  pub middle : List Token
  pub head : attributes list before middle
  pub word : protocol_semantics how middle from
  pub may : may_come kind draft.protocol ≡ true
  pub makes : Makes kind tokens true path (declared_of draft) None before
  pub goes : refusal [] (begin kind) tokens ≡ refusal (take symbols.Protocol ∷ take symbols.Word ∷ take symbols.OpenBrace ∷ managing ∷ []) (stand false (length path) false) from
