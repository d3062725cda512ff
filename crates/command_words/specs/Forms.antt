-- The command that the kit's parser is given for a table of options.
use Rattle.std.specs.Prelude.{ℕ, true, List, [], ◌∷◌, Some, codes}
use Rattle.clap.specs.Words.{App, Rule, new_app, new_rule}
use Rattle.clap.specs.Simple.{on_top}
use Rattle.clap.specs.declared.builder.action.ArgAction.TheVariants.{Set, Append}
use Rattle.command_words.specs.Options.{Choice}

-- the argument of an option, known by the option's name
abbrev pub rule_for : Choice → Rule
rule_for o = record (new_rule o.name) { long = Some o.name; short = o.letter; action = Some Set }

-- by what the words that are values of no option are known
abbrev pub own_id : List ℕ
own_id = codes "words"

-- the argument that takes the words that are values of no option
abbrev pub own_rule : Rule
own_rule = record (new_rule own_id) { action = Some Append }

-- the arguments for the options, and then for the other words
abbrev pub rules_for : List Choice → List Rule
rules_for [] = own_rule ∷ []
rules_for (o ∷ os) = rule_for o ∷ rules_for os

-- a command with no program's name among its words, and with no option of its own
abbrev pub bare : App
bare = on_top (λ s. record s { no_binary_name = true; disable_help_flag = true; disable_version_flag = true }) (new_app (codes "ipdl"))

abbrev pub form_of : List Choice → App
form_of options = on_top (λ s. record s { rules = rules_for options }) bare
