-- It is decided whether words are a command, and what they ask about.
use Rattle.std.specs.Prelude.{◌⊎◌, ℕ, List}
use Rattle.std.specs.List.{AllByRecursion}
use Rattle.std.specs.Str.{IsUtf8}
use Rattle.command_words.specs.declared.topic.Topic.{Topic}
use Rattle.command_words.specs.Command.{CommandView, IsNoCommand, Say}
use Rattle.command_words.specs.Topics.{AskNothing, Asks}

-- words that are texts are a command, or are not
abbrev pub WordsAreDecided : Type 0
WordsAreDecided = (words : List (List ℕ)) → AllByRecursion IsUtf8 words → ((command : CommandView) × Say words command) ⊎ IsNoCommand words

-- words ask about something, or about nothing
abbrev pub AskingIsDecided : Type 0
AskingIsDecided = (words : List (List ℕ)) → ((topic : Topic) × Asks words topic) ⊎ AskNothing words
