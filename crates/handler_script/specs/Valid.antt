-- Scripts that a run can follow. Every script that is read is valid for its schema.
use Rattle.std.specs.Prelude.{◌≡◌, ℕ, ◌<◌, ◌≤◌, ◌^◌, Bool, true, false, IsTrue, List, [], ◌∷◌, length, count_by, Option, Some, None, IfSome, IsSome, IsSomeAnd, option_and_then, pos}
use Rattle.std.specs.List.{All}
use Rattle.std.specs.Str.{IsUtf8}
use Rattle.ipdl_base.specs.declared.builtin.Builtin.TheVariants as builtin
use Rattle.ipdl_base.specs.declared.schema.MessageRow.{MessageRow}
use Rattle.ipdl_base.specs.declared.schema.ParamRow.{ParamRow}
use Rattle.ipdl_base.specs.declared.schema.Schema.{Schema}
use Rattle.ipdl_base.specs.declared.schema.Shape.{Shape}
use Rattle.ipdl_base.specs.Sound.{message_of}
use Rattle.ipdl_base.specs.Words.{IsWord}
use Rattle.script_reader.specs.declared.written.Who.{Who}
use Rattle.script_reader.specs.declared.written.Who.TheVariants as whos
use Rattle.script_reader.specs.Grammar.{is_no_name}
use Rattle.value_types.specs.HasType.{IsInRange, IsWithinBits, IsActorOf}
use Rattle.value_types.specs.Shapes.{builtin_of, is_bytes, element_of, held_by, fields_of, component_of}
use Rattle.handler_script.specs.declared.action.Action.{Action}
use Rattle.handler_script.specs.declared.action.Action.TheVariants as action
use Rattle.handler_script.specs.declared.action.Block.{Block}
use Rattle.handler_script.specs.declared.script.Script.{Script}
use Rattle.handler_script.specs.declared.term.Term.{Term, Union', Maybe', Held-Term-Maybe-0, None', Some'}
use Rattle.handler_script.specs.declared.term.Term.TheVariants as term
use Rattle.handler_script.specs.declared.term.Terms.{Terms, First'}
use Rattle.handler_script.specs.declared.term.Terms.TheVariants as terms
use Rattle.handler_script.specs.Blocks.{BlockContext, in_main, in_handler, side_of, given_in, handled_in}
use Rattle.handler_script.specs.Broken.{HasManager}
use Rattle.ipdl_base.specs.Sides.{sends}
use Rattle.handler_script.specs.Messages.{receives, resolves, replies, is_constructor}
use Rattle.handler_script.specs.Terms.{param_at, is_actor, StandsFor}

-- a name: a word without another meaning
abbrev pub IsName : List ℕ → Type 0
IsName name = IsWord name × (is_no_name name ≡ false)

-- Who may be named in a block: a parameter must be an actor of the handled message, and what a constructor built is known only in its handler.
abbrev pub MayName : BlockContext → Who → Type 0
MayName block whos.Top = Unit {0}
MayName block whos.This = IsSome (handled_in block)
MayName block whos.Made = IsSomeAnd (handled_in block) (λ message. IsTrue (is_constructor message.kind))
MayName block (whos.Param n) = IsSomeAnd (param_at (given_in block) n) (λ param. IsTrue (is_actor param.shape))
MayName block (whos.Name name) = IsName name

-- whether it is a parameter
abbrev pub is_param : Who → Bool
is_param (whos.Param n) = true
is_param _ = false

-- A term fits a type in a block: a parameter by its own type, any other actor if the type is that of an actor.
abbrev mutual
  pub TermFits : Schema → BlockContext → Shape → Term → Type 0
  TermFits schema block shape (term.Bool b) = builtin_of shape ≡ Some builtin.Bool
  TermFits schema block shape (term.Int n) = IsInRange shape n
  TermFits schema block shape (term.Text text) = (builtin_of shape ≡ Some builtin.NsString) × IsUtf8 text
  TermFits schema block shape (term.Bytes bytes) = IsTrue (is_bytes shape)
  TermFits schema block shape (term.Bits bits) = IsWithinBits shape bits
  TermFits schema block shape (term.Struct ts) = IsSomeAnd (fields_of schema shape) (λ fields. EachTermFits schema block fields ts)
  TermFits schema block shape (Union' index _ t) = IsSomeAnd (component_of schema shape index) (λ component. TermFits schema block component t)
  TermFits schema block shape (term.Array ts) = IsSomeAnd (element_of shape) (λ element. AllTermsFit schema block element ts)
  TermFits schema block shape (Maybe' held) = IsSomeAnd (held_by shape) (λ inner. HeldTermFits schema block inner held)
  TermFits schema block shape (term.Actor id) = (id ≡ pos 0) × IsActorOf shape id
  TermFits schema block shape (term.Param n) = IsSomeAnd (param_at (given_in block) n) (λ param. StandsFor param.shape shape)
  TermFits schema block shape (term.Who w) = IsTrue (is_actor shape) × (is_param w ≡ false) × MayName block w

  -- nothing, or a term of the type
  pub HeldTermFits : Schema → BlockContext → Shape → Held-Term-Maybe-0 → Type 0
  HeldTermFits schema block shape None' = Unit {0}
  HeldTermFits schema block shape (Some' _ t) = TermFits schema block shape t

  -- each term fits the type
  pub AllTermsFit : Schema → BlockContext → Shape → Terms → Type 0
  AllTermsFit schema block shape terms.Nothing = Unit {0}
  AllTermsFit schema block shape (First' _ t _ ts) = TermFits schema block shape t × AllTermsFit schema block shape ts

  -- one term for each field or parameter, which fits its type
  pub EachTermFits : Schema → BlockContext → List ParamRow → Terms → Type 0
  EachTermFits schema block [] terms.Nothing = Unit {0}
  EachTermFits schema block (field ∷ fields) terms.Nothing = ⊥
  EachTermFits schema block [] (First' _ t _ ts) = ⊥
  EachTermFits schema block (field ∷ fields) (First' _ t _ ts) = TermFits schema block field.shape t × EachTermFits schema block fields ts

-- a carried message of this request's number, that the side sends, takes the terms
abbrev pub IsSendable : Schema → BlockContext → ℕ → Terms → MessageRow → Type 0
IsSendable schema block number values message =
    (message.number ≡ number) × IsTrue (sends (side_of block) message.direction) × IsTrue message.carried × EachTermFits schema block message.params values

-- an action can be done in a block
abbrev pub IsValidAction : Schema → BlockContext → Action → Type 0
IsValidAction schema block (action.Send who number values) = MayName block who × IsSomeAnd (message_of schema number) (IsSendable schema block number values)
IsValidAction schema block (action.New name who number values) =
    IsName name × MayName block who × IsSomeAnd (message_of schema number) (λ message. IsSendable schema block number values message × IsTrue (is_constructor message.kind))
IsValidAction schema block (action.Let name who) = IsName name × MayName block who
IsValidAction schema block (action.Resolve values) = IsSomeAnd (option_and_then resolves (handled_in block)) (λ returns. EachTermFits schema block returns values)
IsValidAction schema block action.Reject = IsSome (option_and_then resolves (handled_in block))
IsValidAction schema block (action.Keep name) = IsName name × IsSome (option_and_then resolves (handled_in block))
IsValidAction schema block (action.ResolveNamed name number values) =
    IsName name × IsSomeAnd (message_of schema number) (λ message. (message.number ≡ number) × IsSomeAnd (resolves message) (λ returns. EachTermFits schema block returns values))
IsValidAction schema block (action.RejectNamed name number) = IsName name × IsSomeAnd (message_of schema number) (λ message. (message.number ≡ number) × IsSome (resolves message))
IsValidAction schema block action.Close = Unit {0}
IsValidAction schema block action.Die = Unit {0}

-- whether an action answers the handled message, or keeps its resolver
abbrev pub answers_handled : Action → Bool
answers_handled (action.Resolve values) = true
answers_handled action.Reject = true
answers_handled (action.Keep name) = true
answers_handled _ = false

-- The actions of a block can be done, its returned values can be given, and at most one action answers the handled message.
pub record IsValidIn (schema : Schema) (standing : BlockContext) (block : Block) : Type 0 where
  pub actions : All (IsValidAction schema standing) block.actions
  pub once : count_by answers_handled block.actions ≤ 1
  pub reply : IfSome block.reply (λ values. IsSomeAnd (option_and_then replies (handled_in standing)) (λ returns. EachTermFits schema standing returns values))

-- a carried message of this request's number, that the side receives, is handled by the block
abbrev pub IsHandledBy : Schema → Block → ℕ → MessageRow → Type 0
IsHandledBy schema block number message =
    (message.number ≡ number) × IsTrue (receives block.side message.direction) × IsTrue message.carried × IsValidIn schema (in_handler block.side message) block

abbrev pub IsValidBlock : Schema → Block → Option ℕ → Type 0
IsValidBlock schema block None = IsValidIn schema (in_main block.side) block
IsValidBlock schema block (Some number) = IsSomeAnd (message_of schema number) (IsHandledBy schema block number)

-- The script is valid for the schema: its top is a protocol of it without a manager, it has fewer than 2^32 blocks, and each of these can be run.
pub record IsValid (schema : Schema) (script : Script) : Type 0 where
  pub top : script.top < length schema.protocols
  pub unmanaged : ¬ HasManager schema script.top
  pub few : length script.blocks < 2 ^ 32
  pub blocks : All (λ block. IsValidBlock schema block block.handles) script.blocks
