-- The rules of a script, where a text breaks them, and the report.
use Rattle.std.specs.Prelude.{◌≡◌, ◌≢◌, ℕ, ◌+◌, ◌⊎◌, Bool, true, false, not, IsTrue, List, [], take, drop, slice_get, Option, Some, None, IsSome, IsNone, IsSomeAnd, is_some, option_and_then}
use Rattle.std.specs.List.{list_any}
use Rattle.std.specs.Option.{option_map, option_map_or}
use Rattle.ipdl_base.specs.declared.finding.Finding.{Finding}
use Rattle.ipdl_base.specs.declared.finding.Place.{Place}
use Rattle.ipdl_base.specs.declared.finding.TheConstants.Rule as rule
use Rattle.ipdl_base.specs.declared.finding.Rule.{Rule}
use Rattle.ipdl_base.specs.declared.kinds.Side.{Side}
use Rattle.ipdl_base.specs.declared.schema.MessageRow.{MessageRow}
use Rattle.ipdl_base.specs.declared.schema.ParamRow.{ParamRow}
use Rattle.ipdl_base.specs.declared.schema.Schema.{Schema}
use Rattle.script_reader.specs.declared.line.LineReading.{LineReading}
use Rattle.script_reader.specs.declared.line.LineReading.TheVariants as line
use Rattle.script_reader.specs.declared.statement.Statement.{Statement}
use Rattle.script_reader.specs.declared.statement.Statement.TheVariants as forms
use Rattle.script_reader.specs.declared.written.Who.{Who}
use Rattle.script_reader.specs.declared.written.Who.TheVariants as whos
use Rattle.script_reader.specs.declared.written.WrittenValues.{WrittenValues}
use Rattle.script_reader.specs.Lines.{IsReading}
use Rattle.findings.specs.Gains.{AtSome}
use Rattle.findings.specs.Report as report
use Rattle.handler_script.specs.Blocks.{opens, closes, answers, statements, IsInBlock, IsFollowed, BlockContext, in_main, in_handler, standing_of, side_of, given_in, handled_in}
use Rattle.handler_script.specs.Mentions.{any_mentions, values_of, who_of, message_of, speaks_of}
use Rattle.ipdl_base.specs.Sides.{sends}
use Rattle.ipdl_base.specs.Lines.{same_side}
use Rattle.handler_script.specs.Messages.{named, receives, resolves, replies, is_constructor}
use Rattle.handler_script.specs.Terms.{param_at, is_actor, EachFits}

-- Block structure

abbrev pub is_main : Side → Statement → Bool
is_main s (forms.Main other) = same_side s other
is_main s _ = false

-- there is a main of the side before it
abbrev pub IsSecondMain : List Statement → Statement → Type 0
IsSecondMain before (forms.Main s) = IsTrue (list_any (is_main s) before)
IsSecondMain before _ = ⊥

-- it is in some block
abbrev pub IsInside : List Statement → Type 0
IsInside before = IsInBlock before (λ first above. Unit {0})

-- BLOCK_STRUCTURE: a statement that opens no block is outside all blocks; or one that opens a block is inside one, is a side's second main, or opens a block that nothing closes
abbrev pub BreaksBlocks : List Statement → Statement → List Statement → Type 0
BreaksBlocks before s after =
    ((opens s ≡ false) × ¬ IsInside before)
    ⊎ ((opens s ≡ true) × (IsInside before ⊎ (IsSecondMain before s ⊎ (list_any closes after ≡ false))))

-- Messages. (The rules on a statement are given the message that it names, if that exists.)

-- UNKNOWN_MESSAGE: the statement names a message that does not exist
abbrev pub NamesNone : Option MessageRow → Statement → Type 0
NamesNone message s = IsSome (message_of s) × IsNone message

-- the message that a statement sends
abbrev pub sent : Option MessageRow → Statement → Option MessageRow
sent message (forms.Send w c) = message
sent message (forms.New n w c) = message
sent message _ = None

-- WRONG_DIRECTION: the side cannot receive the message whose block is opened, ..
abbrev pub is_misdirected : Option BlockContext → Bool
is_misdirected (Some (in_handler side message)) = not (receives side message.direction)
is_misdirected _ = false

-- .. or the side of a block cannot send the message that is sent
abbrev pub IsMissent : BlockContext → Option MessageRow → Type 0
IsMissent b message = IsSomeAnd message (λ m. sends (side_of b) m.direction ≡ false)

-- UNCARRIED_TYPE: the message whose block is opened is not carried, ..
abbrev pub is_uncarried : Option BlockContext → Bool
is_uncarried (Some (in_handler side message)) = not message.carried
is_uncarried _ = false

-- .. or the message that is sent in a block
abbrev pub IsUnsent : Option MessageRow → Type 0
IsUnsent message = IsSomeAnd message (λ m. m.carried ≡ false)

-- Values

-- a parameter that the handled message does not have
abbrev pub is_absent : List ParamRow → Who → Bool
is_absent given (whos.Param n) = not (is_some (param_at given n))
is_absent given _ = false

-- a parameter that is not an actor, or does not exist
abbrev pub is_no_actor : List ParamRow → Who → Bool
is_no_actor given (whos.Param n) = option_map_or (λ param. not (is_actor param.shape)) (param_at given n) true
is_no_actor given _ = false

-- the types that the values of a statement must fit in a block, if there are any
abbrev pub types_by : Option MessageRow → BlockContext → Statement → Option (List ParamRow)
types_by message b (forms.Send w c) = option_map (λ m. m.params) message
types_by message b (forms.New n w c) = option_map (λ m. m.params) message
types_by message b (forms.Resolve vs) = option_and_then resolves (handled_in b)
types_by message b (forms.ResolveKept n c) = option_and_then resolves message
types_by message b (forms.Return vs) = option_and_then replies (handled_in b)
types_by message b _ = None

abbrev pub types_of : Schema → BlockContext → Statement → Option (List ParamRow)
types_of schema b s = types_by (named schema s) b s

-- the values do not fit the types or, if there are no types, refer to a parameter that does not exist
abbrev pub AreUnfit : Schema → List ParamRow → Option (List ParamRow) → WrittenValues → Type 0
AreUnfit schema given (Some types) vs = ¬ EachFits schema given types vs
AreUnfit schema given None vs = IsTrue (any_mentions (is_absent given) vs)

-- UNFIT_VALUES: the receiver of the statement is not an actor, or its values do not fit these types
abbrev pub ValuesBreak : Schema → List ParamRow → Option (List ParamRow) → Statement → Type 0
ValuesBreak schema given types s =
    IsSomeAnd (who_of s) (λ w. IsTrue (is_no_actor given w))
    ⊎ IsSomeAnd (values_of s) (AreUnfit schema given types)

-- What is allowed where

-- who is unknown in a block: in a main, the actor and parameters of a handled message; anywhere but in the handler of a constructor, the actor that it built
abbrev pub is_unknown : BlockContext → Who → Bool
is_unknown (in_main side) whos.This = true
is_unknown (in_main side) (whos.Param n) = true
is_unknown (in_main side) whos.Made = true
is_unknown (in_handler side message) whos.Made = not (is_constructor message.kind)
is_unknown b _ = false

-- A statement is in a block, or at a place in a block, that does not allow its kind. The `Bool` is whether a statement
-- above it answered; the list has the statements after it.
abbrev pub IsMisplaced : Option MessageRow → Bool → BlockContext → Statement → List Statement → Type 0
IsMisplaced message answered b (forms.New n w c) below = IsSomeAnd message (λ m. is_constructor m.kind ≡ false)
IsMisplaced message answered b (forms.Return vs) below = IsNone (option_and_then replies (handled_in b)) ⊎ IsFollowed below
IsMisplaced message answered b (forms.ResolveKept n c) below = IsSomeAnd message (λ m. IsNone (resolves m))
IsMisplaced message answered b (forms.RejectKept n name) below = IsSomeAnd message (λ m. IsNone (resolves m))
IsMisplaced message answered b s below = IsTrue (answers s) × (IsNone (option_and_then resolves (handled_in b)) ⊎ IsTrue answered)

-- NOT_ALLOWED_HERE: the statement refers to what is unknown in its block, or is misplaced there
abbrev pub IsNotAllowed : Option MessageRow → Bool → BlockContext → Statement → List Statement → Type 0
IsNotAllowed message answered b s below = IsTrue (speaks_of (is_unknown b) s) ⊎ IsMisplaced message answered b s below

-- The report

-- the rule is broken by the opening of a block
abbrev pub OpeningBreaks : Rule → Option BlockContext → Type 0
OpeningBreaks r opened = ((r ≡ rule.WRONG_DIRECTION) × IsTrue (is_misdirected opened)) ⊎ ((r ≡ rule.UNCARRIED_TYPE) × IsTrue (is_uncarried opened))

-- the rule is broken by a statement in a block, where the `Bool` is whether one above it answered, and these follow
abbrev pub BlockBreaks : Schema → Rule → Option MessageRow → Bool → BlockContext → Statement → List Statement → Type 0
BlockBreaks schema r message answered b s below =
    ((r ≡ rule.WRONG_DIRECTION) × IsMissent b (sent message s))
    ⊎ (((r ≡ rule.UNFIT_VALUES) × ValuesBreak schema (given_in b) (types_by message b s) s)
    ⊎ (((r ≡ rule.NOT_ALLOWED_HERE) × IsNotAllowed message answered b s below)
    ⊎ ((r ≡ rule.UNCARRIED_TYPE) × IsUnsent (sent message s))))

-- the rule is broken by a statement after these, in the block that it is in, if the message of that block exists
abbrev pub InsideBreaks : Schema → Rule → List Statement → Statement → List Statement → Type 0
InsideBreaks schema r before s after =
    IsInBlock before (λ first above. IsSomeAnd (standing_of schema first) (λ b. BlockBreaks schema r (named schema s) (list_any answers above) b s after))

-- The rule is broken by the message that a statement names, or by its place in a block. One that names a message that does not exist is tested for nothing else.
abbrev pub MessageBreaks : Schema → Rule → List Statement → Statement → List Statement → Type 0
MessageBreaks schema r before s after =
    ((r ≡ rule.UNKNOWN_MESSAGE) × NamesNone (named schema s) s)
    ⊎ ((¬ NamesNone (named schema s) s) × (OpeningBreaks r (standing_of schema s) ⊎ InsideBreaks schema r before s after))

-- the rule is broken by a statement after these and before the others
abbrev pub StatementBreaks : Schema → Rule → List Statement → Statement → List Statement → Type 0
StatementBreaks schema r before s after = ((r ≡ rule.BLOCK_STRUCTURE) × BreaksBlocks before s after) ⊎ MessageBreaks schema r before s after

-- the rule is broken by a line after these statements and before the others
abbrev pub LineBreaks : Schema → Rule → List Statement → LineReading → List Statement → Type 0
LineBreaks schema r before line.Silent after = ⊥
LineBreaks schema r before (line.Statement held) after = StatementBreaks schema r before held.value after
LineBreaks schema r before line.NoStatement after = r ≡ rule.NOT_A_STATEMENT
LineBreaks schema r before line.TooLong after = r ≡ rule.UNREADABLE_SCRIPT

-- the place of the first column of a line, and that of the script as a whole; the script is file 0
abbrev pub line_place : ℕ → Place
line_place number = record { file = 0; line = number; column = 1 }

abbrev pub whole_place : Place
whole_place = record { file = 0; line = 0; column = 0 }

-- the top protocol has a manager
abbrev pub HasManager : Schema → ℕ → Type 0
HasManager schema top = IsSomeAnd (slice_get schema.protocols top) (λ protocol. protocol.managers ≢ [])

-- the rule is broken at the place by the line of this index, among all lines
abbrev pub IsBrokenAt : Schema → List LineReading → Finding → ℕ → LineReading → Type 0
IsBrokenAt schema readings f index reading = (line_place (index + 1) ≡ f.place) × LineBreaks schema f.rule (statements (take index readings)) reading (statements (drop (index + 1) readings))

-- a rule is broken by a line
abbrev pub IsBrokenByLine : Schema → List LineReading → Finding → Type 0
IsBrokenByLine schema readings f = AtSome (IsBrokenAt schema readings f) readings

-- or by the top protocol
abbrev pub IsBrokenByTop : Schema → ℕ → Finding → Type 0
IsBrokenByTop schema top f = (f.rule ≡ rule.NOT_A_TOP_PROTOCOL) × (whole_place ≡ f.place) × HasManager schema top

abbrev pub IsBroken : Schema → ℕ → List LineReading → Finding → Type 0
IsBroken schema top readings f = IsBrokenByTop schema top f ⊎ IsBrokenByLine schema readings f

-- The report on the readings of a text. (The readings are given up to where boxes lie, which no rule looks at.)
pub record IsReport (text : List ℕ) (schema : Schema) (top : ℕ) (findings : List Finding) : Type 0 where
  pub readings : List LineReading
  pub is_reading : IsReading text readings
  pub report : report.IsReport (IsBroken schema top readings) findings
