use Rattle.std.proofs.Common.{◌≡◌, take}
use Rattle.clap.specs.Words.{app_of}
use Rattle.command_words.proofs.Builders.{app_with, first_rules}
use Rattle.command_words.specs.Tables.{choices_of}
use Rattle.command_words.proofs.options.form.Given as goal

-- the command has the arguments of the options so far
abbrev pub invariant-loop-option : goal.invariant-loop-option
invariant-loop-option l = app_of l.command ≡ app_with (first_rules (choices_of (take l.option-index l.options)))
