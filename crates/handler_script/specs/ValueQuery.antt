-- A question about the actors and parameters that values refer to.
use Rattle.std.specs.Prelude.{Bool}
use Rattle.script_reader.specs.declared.written.Who.{Who}
use Rattle.handler_script.specs.declared.mentions.ValueQuery.{ValueQuery}
use Rattle.handler_script.specs.declared.mentions.ValueQuery.TheVariants as asked
use Rattle.handler_script.specs.Broken.{is_absent, is_unknown}
use Rattle.handler_script.specs.Contexts.{standing_in}

abbrev pub test_of : ValueQuery → Who → Bool
test_of (asked.Absent given) who = is_absent given.now who
test_of (asked.Unknown context) who = is_unknown (standing_in context) who
