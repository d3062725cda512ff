-- Answers with a second copy of their values.
use Rattle.std.specs.Prelude.{◌≡◌, Option, Some, None, option_map}
use Rattle.ipdl_base.specs.declared.value.Values.{Values}
use Rattle.ipdl_base.specs.Plain.{plain_values}
use Rattle.nesting_core.specs.declared.frame.Answer.{Answer}
use Rattle.nesting_core.specs.declared.frame.Answer.TheVariants as answer
use Rattle.end_parts.specs.declared.copied_answer.CopiedAnswer.{CopiedAnswer}

-- the values of an answer, if it has any
abbrev pub values_of : Answer → Option Values
values_of (answer.Ok vs) = Some (plain_values vs)
values_of (answer.Fault reason) = None

-- these are the values of the answer a second time, up to where boxes lie
abbrev pub IsCopyOf : Answer → Option Values → Type 0
IsCopyOf a copy = option_map plain_values copy ≡ values_of a

-- an answer has its copy
abbrev pub IsCopied : CopiedAnswer → Type 0
IsCopied given = IsCopyOf given.answer given.copy
