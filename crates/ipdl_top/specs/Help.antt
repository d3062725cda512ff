-- The texts of `ipdl help` and `ipdl version`.
use Rattle.std.specs.Prelude.{ℕ, List}
use Rattle.command_words.specs.declared.topic.CommandName.{CommandName}
use Rattle.command_words.specs.declared.topic.CommandName.TheVariants as names
use Rattle.command_words.specs.declared.topic.Topic.{Topic}
use Rattle.command_words.specs.declared.topic.Topic.TheVariants.{Program, Command, Version}
use Rattle.ipdl_top.specs.declared.help.TheConstants.{PROGRAM_HELP, VERSION, COMPILE_HELP, RUN_HELP, FRAMES_HELP, GEN_HELP, FEED_HELP, RELAY_HELP, AUDIT_HELP, WAITS_HELP, CHART_HELP, EXPLORE_HELP}

-- the words of a command, what it does with them, and an example
abbrev pub help_on : CommandName → List ℕ
help_on names.Compile = (COMPILE_HELP).now
help_on names.Run = (RUN_HELP).now
help_on names.Frames = (FRAMES_HELP).now
help_on names.Gen = (GEN_HELP).now
help_on names.Feed = (FEED_HELP).now
help_on names.Relay = (RELAY_HELP).now
help_on names.Audit = (AUDIT_HELP).now
help_on names.Waits = (WAITS_HELP).now
help_on names.Chart = (CHART_HELP).now
help_on names.Explore = (EXPLORE_HELP).now

-- the text on what words ask about
abbrev pub topic_text : Topic → List ℕ
topic_text Program = (PROGRAM_HELP).now
topic_text (Command name) = help_on name
topic_text Version = (VERSION).now
