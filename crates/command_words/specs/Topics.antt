-- Words that ask for help or for the version.
use Rattle.std.specs.Prelude.{◌≡◌, ◌⊎◌, ℕ, List, [], ◌∷◌, codes}
use Rattle.command_words.specs.declared.topic.CommandName.{CommandName}
use Rattle.command_words.specs.declared.topic.CommandName.TheVariants as names
use Rattle.command_words.specs.declared.topic.Topic.{Topic}
use Rattle.command_words.specs.declared.topic.Topic.TheVariants.{Program, Command, Version}
use Rattle.command_words.specs.Command.{IsNoCommand}

-- the word that asks for help
abbrev pub help_word : List ℕ
help_word = codes "help"

-- the word by which help asks for a command: its first word, and `compile` where it has none
abbrev pub name_of : CommandName → List ℕ
name_of names.Compile = codes "compile"
name_of names.Run = codes "run"
name_of names.Frames = codes "frames"
name_of names.Gen = codes "gen"
name_of names.Feed = codes "feed"
name_of names.Relay = codes "relay"
name_of names.Audit = codes "audit"
name_of names.Waits = codes "waits"
name_of names.Chart = codes "chart"
name_of names.Explore = codes "explore"

abbrev pub IsHelpFlag : List ℕ → Type 0
IsHelpFlag word = (word ≡ codes "--help") ⊎ (word ≡ codes "-h")

abbrev pub IsVersionWord : List ℕ → Type 0
IsVersionWord word = (word ≡ codes "version") ⊎ (word ≡ codes "--version")

-- The words ask about this: `help` and `--help` about the program, `help NAME` and `NAME --help` about a command, and
-- `version` about the version.
abbrev pub Asks : List (List ℕ) → Topic → Type 0
Asks [] topic = ⊥
Asks (word ∷ []) Program = (word ≡ help_word) ⊎ IsHelpFlag word
Asks (word ∷ []) (Command name) = ⊥
Asks (word ∷ []) Version = IsVersionWord word
Asks (word ∷ other ∷ []) Program = ⊥
Asks (word ∷ other ∷ []) (Command name) = ((word ≡ help_word) × (other ≡ name_of name)) ⊎ ((word ≡ name_of name) × IsHelpFlag other)
Asks (word ∷ other ∷ []) Version = ⊥
Asks (word ∷ other ∷ third ∷ words) topic = ⊥

-- the words ask about nothing
abbrev pub AskNothing : List (List ℕ) → Type 0
AskNothing words = (topic : Topic) → ¬ Asks words topic

-- the words are no command, and ask about nothing
abbrev pub MeanNothing : List (List ℕ) → Type 0
MeanNothing words = IsNoCommand words × AskNothing words

-- words ask about one thing at most
abbrev pub OneTopic : Type 0
OneTopic = (words : List (List ℕ)) (one other : Topic) → Asks words one → Asks words other → one ≡ other

-- words that ask about something are no command
abbrev pub AskingIsNoCommand : Type 0
AskingIsNoCommand = (words : List (List ℕ)) (topic : Topic) → Asks words topic → IsNoCommand words
