-- The rules that a line breaks are listed.
use Rattle.std.proofs.Common.{◌≡◌, ◌⊎◌, Bool, false, List, slice_get, Option, Some, None, is_some, inl, inr, sym}
use Rattle.std.specs.Prelude.{IsTrue, IsNone, IsSomeAnd, option_and_then}
use Rattle.std.specs.List.{list_any}
use Rattle.ipdl_base.specs.declared.finding.Rule.{Rule}
use Rattle.ipdl_base.specs.declared.finding.TheConstants.Rule as rule
use Rattle.ipdl_base.specs.declared.schema.MessageRow.{MessageRow}
use Rattle.ipdl_base.specs.declared.schema.ParamRow.{ParamRow}
use Rattle.ipdl_base.specs.declared.schema.Schema.{Schema}
use Rattle.script_reader.specs.declared.line.LineReading.{LineReading}
use Rattle.script_reader.specs.declared.line.LineReading.TheVariants as line
use Rattle.script_reader.specs.declared.statement.Statement.{Statement}
use Rattle.script_reader.specs.declared.statement.Statement.TheVariants as forms
use Rattle.script_reader.specs.declared.written.WrittenValues.{WrittenValues}
use Rattle.handler_script.specs.Blocks.{opens, closes, answers, IsFollowed, BlockContext, standing_of, side_of, given_in, handled_in}
use Rattle.handler_script.specs.Broken.{is_main, IsSecondMain, IsInside, BreaksBlocks, NamesNone, sent, is_misdirected, IsMissent, is_uncarried, IsUnsent, is_absent, is_no_actor, types_by, AreUnfit, ValuesBreak, is_unknown, IsMisplaced, IsNotAllowed, OpeningBreaks, BlockBreaks, InsideBreaks, MessageBreaks, StatementBreaks, LineBreaks}
use Rattle.handler_script.specs.Knowing.{place_of}
use Rattle.handler_script.specs.Mentions.{any_mentions, values_of, who_of, message_of, speaks_of}
use Rattle.ipdl_base.specs.Sides.{sends}
use Rattle.handler_script.specs.Messages.{named, resolves, replies, is_constructor}
use Rattle.handler_script.proofs.Standing.{at_place, in_block}
use Rattle.report_existence.specs.Laws.{IsListed}
use Rattle.report_existence.proofs.Finite.{either_or_not, both_or_not, not_or, same_places, no_place, one_place, either_place, when}
use Rattle.script_existence.proofs.Decided.{IsDecided, decided_as, is_true, is_false, some_decided}
use Rattle.script_existence.proofs.FitsDecided.{fits_decided}

-- Block structure

inside_decided : (before : List Statement) → IsDecided (IsInside before)
inside_decided before =
    let Holds : Statement → List Statement → Type 0 = λ first above. Unit {0} in
    decided_as (in_block before Holds) (at_place before Holds) (some_decided (λ p. Unit {0}) (λ p. inl tt) (place_of before))

second_decided : (before : List Statement) (s : Statement) → IsDecided (IsSecondMain before s)
second_decided before (forms.Main side) = is_true (list_any (is_main side) before)
second_decided before s = inr (λ h. h)

blocks_decided : (before : List Statement) (s : Statement) (after : List Statement) → IsDecided (BreaksBlocks before s after)
blocks_decided before s after =
    either_or_not
    (both_or_not (is_false (opens s)) (not_or (inside_decided before)))
    (both_or_not (is_true (opens s)) (either_or_not (inside_decided before) (either_or_not (second_decided before s) (is_false (list_any closes after)))))

-- Messages

none_decided : (message : Option MessageRow) (s : Statement) → IsDecided (NamesNone message s)
none_decided message s = both_or_not (is_true (is_some (message_of s))) (is_false (is_some message))

missent_decided : (b : BlockContext) (message : Option MessageRow) → IsDecided (IsMissent b message)
missent_decided b message = some_decided (λ m. sends (side_of b) m.direction ≡ false) (λ m. is_false (sends (side_of b) m.direction)) message

unsent_decided : (message : Option MessageRow) → IsDecided (IsUnsent message)
unsent_decided message = some_decided (λ m. m.carried ≡ false) (λ m. is_false m.carried) message

-- Values

unfit_decided : (schema : Schema) (given : List ParamRow) (types : Option (List ParamRow)) (vs : WrittenValues) → IsDecided (AreUnfit schema given types vs)
unfit_decided schema given (Some types) vs = not_or (fits_decided schema given types vs)
unfit_decided schema given None vs = is_true (any_mentions (is_absent given) vs)

values_decided : (schema : Schema) (given : List ParamRow) (types : Option (List ParamRow)) (s : Statement) → IsDecided (ValuesBreak schema given types s)
values_decided schema given types s =
    either_or_not
    (some_decided (λ w. IsTrue (is_no_actor given w)) (λ w. is_true (is_no_actor given w)) (who_of s))
    (some_decided (AreUnfit schema given types) (unfit_decided schema given types) (values_of s))

-- What is allowed where

followed_decided : (below : List Statement) → IsDecided (IsFollowed below)
followed_decided below = some_decided (λ s. closes s ≡ false) (λ s. is_false (closes s)) (slice_get below 0)

unresolved_decided : (message : Option MessageRow) → IsDecided (IsSomeAnd message (λ m. IsNone (resolves m)))
unresolved_decided message = some_decided (λ m. IsNone (resolves m)) (λ m. is_false (is_some (resolves m))) message

answer_decided : (answered : Bool) (b : BlockContext) (s : Statement) → IsDecided (IsTrue (answers s) × (IsNone (option_and_then resolves (handled_in b)) ⊎ IsTrue answered))
answer_decided answered b s = both_or_not (is_true (answers s)) (either_or_not (is_false (is_some (option_and_then resolves (handled_in b)))) (is_true answered))

misplaced_decided : (message : Option MessageRow) (answered : Bool) (b : BlockContext) (s : Statement) (below : List Statement) → IsDecided (IsMisplaced message answered b s below)
misplaced_decided message answered b (forms.New n w c) below = some_decided (λ m. is_constructor m.kind ≡ false) (λ m. is_false (is_constructor m.kind)) message
misplaced_decided message answered b (forms.Return vs) below = either_or_not (is_false (is_some (option_and_then replies (handled_in b)))) (followed_decided below)
misplaced_decided message answered b (forms.ResolveKept n c) below = unresolved_decided message
misplaced_decided message answered b (forms.RejectKept n name) below = unresolved_decided message
misplaced_decided message answered b s below = answer_decided answered b s

allowed_decided : (message : Option MessageRow) (answered : Bool) (b : BlockContext) (s : Statement) (below : List Statement) → IsDecided (IsNotAllowed message answered b s below)
allowed_decided message answered b s below = either_or_not (is_true (speaks_of (is_unknown b) s)) (misplaced_decided message answered b s below)

-- Rules

-- the one rule, if something is true
rule_when : (rule : Rule) (Fact : Type 0) → IsDecided Fact → IsListed (λ r. (r ≡ rule) × Fact)
rule_when rule Fact d = same_places (λ r. (rule ≡ r) × Fact) (λ r. (r ≡ rule) × Fact) (λ r h. (sym h.0, h.1)) (λ r h. (sym h.0, h.1)) (when Fact d rule)

-- what is true if something else is
where_holds : {X : Type 0} (Fact : Type 0) → IsDecided Fact → (P : X → Type 0) → IsListed P → IsListed (λ x. Fact × P x)
where_holds Fact (inl h) P listed = same_places P (λ x. Fact × P x) (λ x p. (h, p)) (λ x p. p.1) listed
where_holds Fact (inr none) P listed = no_place (λ x. Fact × P x) (λ x p. none p.0)

-- what is true of the content of an option
where_some : {X Y : Type 0} (Holds : X → Y → Type 0) → ((x : X) → IsListed (Holds x)) → (o : Option X) → IsListed (λ y. IsSomeAnd o (λ x. Holds x y))
where_some Holds each None = no_place (λ y. ⊥) (λ y h. h)
where_some Holds each (Some x) = each x

opening_listed : (opened : Option BlockContext) → IsListed (λ r. OpeningBreaks r opened)
opening_listed opened =
    either_place (λ r. (r ≡ rule.WRONG_DIRECTION) × IsTrue (is_misdirected opened)) (λ r. (r ≡ rule.UNCARRIED_TYPE) × IsTrue (is_uncarried opened))
    (rule_when rule.WRONG_DIRECTION (IsTrue (is_misdirected opened)) (is_true (is_misdirected opened)))
    (rule_when rule.UNCARRIED_TYPE (IsTrue (is_uncarried opened)) (is_true (is_uncarried opened)))

block_listed : (schema : Schema) (message : Option MessageRow) (answered : Bool) (b : BlockContext) (s : Statement) (below : List Statement) → IsListed (λ r. BlockBreaks schema r message answered b s below)
block_listed schema message answered b s below =
    let types = types_by message b s in
    let Missent : Rule → Type 0 = λ r. (r ≡ rule.WRONG_DIRECTION) × IsMissent b (sent message s) in
    let Unfit : Rule → Type 0 = λ r. (r ≡ rule.UNFIT_VALUES) × ValuesBreak schema (given_in b) types s in
    let Barred : Rule → Type 0 = λ r. (r ≡ rule.NOT_ALLOWED_HERE) × IsNotAllowed message answered b s below in
    let Unsent : Rule → Type 0 = λ r. (r ≡ rule.UNCARRIED_TYPE) × IsUnsent (sent message s) in
    either_place Missent (λ r. Unfit r ⊎ (Barred r ⊎ Unsent r))
    (rule_when rule.WRONG_DIRECTION (IsMissent b (sent message s)) (missent_decided b (sent message s)))
    (either_place Unfit (λ r. Barred r ⊎ Unsent r)
    (rule_when rule.UNFIT_VALUES (ValuesBreak schema (given_in b) types s) (values_decided schema (given_in b) types s))
    (either_place Barred Unsent
    (rule_when rule.NOT_ALLOWED_HERE (IsNotAllowed message answered b s below) (allowed_decided message answered b s below))
    (rule_when rule.UNCARRIED_TYPE (IsUnsent (sent message s)) (unsent_decided (sent message s)))))

inside_listed : (schema : Schema) (before : List Statement) (s : Statement) (after : List Statement) → IsListed (λ r. InsideBreaks schema r before s after)
inside_listed schema before s after =
    let Holds : Rule → Statement → List Statement → Type 0 = λ r first above. IsSomeAnd (standing_of schema first) (λ b. BlockBreaks schema r (named schema s) (list_any answers above) b s after) in
    same_places (λ r. IsSomeAnd (place_of before) (λ p. Holds r p.0 p.1)) (λ r. InsideBreaks schema r before s after)
    (λ r. in_block before (Holds r)) (λ r. at_place before (Holds r))
    (where_some (λ p r. Holds r p.0 p.1)
    (λ p. where_some (λ b r. BlockBreaks schema r (named schema s) (list_any answers p.1) b s after) (λ b. block_listed schema (named schema s) (list_any answers p.1) b s after) (standing_of schema p.0))
    (place_of before))

statement_listed : (schema : Schema) (before : List Statement) (s : Statement) (after : List Statement) → IsListed (λ r. StatementBreaks schema r before s after)
statement_listed schema before s after =
    let Unknown : Type 0 = NamesNone (named schema s) s in
    let Opening : Rule → Type 0 = λ r. OpeningBreaks r (standing_of schema s) in
    let Inside : Rule → Type 0 = λ r. InsideBreaks schema r before s after in
    either_place (λ r. (r ≡ rule.BLOCK_STRUCTURE) × BreaksBlocks before s after) (λ r. MessageBreaks schema r before s after)
    (rule_when rule.BLOCK_STRUCTURE (BreaksBlocks before s after) (blocks_decided before s after))
    (either_place (λ r. (r ≡ rule.UNKNOWN_MESSAGE) × Unknown) (λ r. (¬ Unknown) × (Opening r ⊎ Inside r))
    (rule_when rule.UNKNOWN_MESSAGE Unknown (none_decided (named schema s) s))
    (where_holds (¬ Unknown) (not_or (none_decided (named schema s) s)) (λ r. Opening r ⊎ Inside r)
    (either_place Opening Inside (opening_listed (standing_of schema s)) (inside_listed schema before s after))))

-- the rules that a line breaks between these statements
pub line_listed : (schema : Schema) (before : List Statement) (reading : LineReading) (after : List Statement) → IsListed (λ r. LineBreaks schema r before reading after)
line_listed schema before line.Silent after = no_place (λ r. ⊥) (λ r h. h)
line_listed schema before (line.Statement held) after = statement_listed schema before held.value after
line_listed schema before line.NoStatement after = one_place rule.NOT_A_STATEMENT
line_listed schema before line.TooLong after = one_place rule.UNREADABLE_SCRIPT
