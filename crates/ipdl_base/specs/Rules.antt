-- The texts of the rules.
use Rattle.std.specs.Prelude.{ℕ, ◌==◌, ◌&&◌, Bool, if◌then◌else◌, List, [], ◌∷◌, ◌++◌, codes}
use Rattle.std.specs.Char.{encode_utf8}
use Rattle.std.specs.Fmt.{decimal}
use Rattle.ipdl_base.specs.declared.finding.Rule.{Rule}
use Rattle.ipdl_base.specs.declared.finding.TheConstants.Rule as rule

-- the rules, each with its text
abbrev pub rule_texts : List (Rule × List ℕ)
rule_texts =
    (rule.BAD_TOKEN, codes "bad token") ∷
    (rule.SYNTAX_FAULT, codes "syntax fault") ∷
    (rule.FILE_NOT_FOUND, codes "file not found") ∷
    (rule.MISNAMED_PROTOCOL, codes "protocol does not bear the name of its file") ∷
    (rule.TOO_LARGE, codes "too large") ∷
    (rule.UNKNOWN_TYPE, codes "unknown type") ∷
    (rule.AMBIGUOUS_TYPE, codes "ambiguous type") ∷
    (rule.UNDEFINED_TYPE, codes "type is not defined") ∷
    (rule.REPEATED_DECLARATION, codes "repeated declaration") ∷
    (rule.NULLABLE_NON_ACTOR, codes "nullable on a type that is not an actor") ∷
    (rule.REPEATED_FIELD, codes "repeated field") ∷
    (rule.BAD_ATTRIBUTE, codes "bad attribute") ∷
    (rule.UNKNOWN_PROTOCOL, codes "unknown protocol") ∷
    (rule.MANAGER_DISAGREEMENT, codes "manager and manages disagree") ∷
    (rule.TOO_MANY_MESSAGES, codes "too many messages") ∷
    (rule.PLAIN_SYNC_TO_CHILD, codes "sync message of level not sent by the parent") ∷
    (rule.INSIDE_SYNC_NOT_SYNC, codes "inside_sync message is not sync") ∷
    (rule.INSIDE_CPOW_TO_CHILD, codes "inside_cpow message sent by the parent") ∷
    (rule.STRONGER_MESSAGE, codes "message is stronger than its protocol") ∷
    (rule.STRONGER_PROTOCOL, codes "protocol is stronger than its manager") ∷
    (rule.BAD_COMPRESS, codes "compress on a message that is not plain async") ∷
    (rule.MANAGER_CYCLE, codes "manager cycle") ∷
    (rule.MISSING_CONSTRUCTOR, codes "constructor is missing") ∷
    (rule.MISSING_DESTRUCTOR, codes "destructor is missing") ∷
    (rule.UNMANAGED_CONSTRUCTOR, codes "constructor of a protocol that is not managed") ∷
    (rule.REPEATED_NAME, codes "repeated name") ∷
    (rule.REPEATED_PARAMETER, codes "repeated parameter") ∷
    (rule.BAD_CONSTRUCTOR, codes "bad constructor or destructor") ∷
    (rule.BAD_LAZY_SEND, codes "lazy send on a message that is not plain async") ∷
    (rule.UNLISTED_SYNC, codes "sync message is not listed") ∷
    (rule.LISTED_ASYNC, codes "listed message is async") ∷
    (rule.LISTED_ABSENT, codes "listed message does not exist") ∷
    (rule.NO_DESCRIPTION, codes "section has no description") ∷
    (rule.NOT_A_STATEMENT, codes "not a statement") ∷
    (rule.BLOCK_STRUCTURE, codes "block structure") ∷
    (rule.UNKNOWN_MESSAGE, codes "unknown message") ∷
    (rule.WRONG_DIRECTION, codes "wrong direction") ∷
    (rule.UNFIT_VALUES, codes "values do not fit") ∷
    (rule.NOT_ALLOWED_HERE, codes "not allowed here") ∷
    (rule.UNCARRIED_TYPE, codes "type is not carried") ∷
    (rule.NOT_A_TOP_PROTOCOL, codes "not a top protocol") ∷
    (rule.UNREADABLE_SCRIPT, codes "script too large or absent") ∷
    (rule.LARGE_PAYLOAD, codes "payload too large") ∷
    (rule.UNKNOWN_FRAME_TYPE, codes "unknown type") ∷
    (rule.BAD_FLAGS, codes "bad flags") ∷
    (rule.BAD_FIELD, codes "bad field") ∷
    (rule.BAD_TAG, codes "bad tag") ∷
    (rule.BAD_TEXT, codes "bad text") ∷
    (rule.SHORT_PAYLOAD, codes "payload too short") ∷
    (rule.LONG_PAYLOAD, codes "payload too long") ∷
    (rule.BAD_VALUE, codes "bad value") ∷
    (rule.NOT_ONE_FRAME, codes "not one frame") ∷
    (rule.UNSENT_REQUEST, codes "wrong direction") ∷
    (rule.WRONG_NUMBER, codes "wrong number") ∷
    (rule.WRONG_ID, codes "wrong id") ∷
    (rule.BAD_PADDING, codes "bad padding") ∷
    (rule.BAD_MARK, codes "bad mark") ∷
    (rule.EARLY_END, codes "ends too early") ∷
    (rule.NO_SUCH_STEP, codes "no such step") ∷
    []

abbrev pub is_same_rule : Rule → Rule → Bool
is_same_rule one other = one.letter == other.letter && one.number == other.number

-- the text of a rule in a table, or an empty text if the table does not have the rule
abbrev pub text_in : List (Rule × List ℕ) → Rule → List ℕ
text_in [] rule = []
text_in (row ∷ rows) rule = if is_same_rule rule row.0 then row.1 else text_in rows rule

-- the text of a rule
abbrev pub rule_text : Rule → List ℕ
rule_text rule = text_in rule_texts rule

-- the letter and the number of a rule, as `B21`
abbrev pub rule_name : Rule → List ℕ
rule_name rule = encode_utf8 rule.letter ++ decimal rule.number

-- a rule with its text, as a finding prints it
abbrev pub rule_line : Rule → List ℕ
rule_line rule = rule_name rule ++ codes " " ++ rule_text rule
