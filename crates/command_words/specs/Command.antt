-- The command that words are.
use Rattle.std.specs.Prelude.{◌≡◌, ℕ, Bool, List, Option, map, option_map, string_bytes}
use Rattle.command_words.specs.declared.command.Command.{Command}
use Rattle.command_words.specs.declared.command.Command.TheVariants as commands
use Rattle.command_words.specs.declared.command.Sources.{Sources}
use Rattle.command_words.specs.declared.explore.ExploreOptions.{ExploreOptions}
use Rattle.command_words.specs.declared.feed.FeedOptions.{FeedOptions}
use Rattle.command_words.specs.declared.relay.RelayOptions.{RelayOptions}
use Rattle.command_words.specs.declared.run.RunOptions.{RunOptions}
use Rattle.command_words.specs.Audit.{IsAudit}
use Rattle.command_words.specs.Compile.{IsCompile}
use Rattle.command_words.specs.Explore.{ExploreCourse, IsExplore}
use Rattle.command_words.specs.Feed.{FeedCourse, IsFeed}
use Rattle.command_words.specs.Frames.{IsFrames}
use Rattle.command_words.specs.Gen.{IsGen}
use Rattle.command_words.specs.Relay.{RelayCourse, IsRelay}
use Rattle.command_words.specs.Run.{Course, IsChart, IsRun}
use Rattle.command_words.specs.Waits.{IsWaits}

-- What a command says: the sync list, the folders, and what is its own; one that runs a generated case, its rounds and its actors.
pub data CommandView : Type 0 where
  compile : Option (List ℕ) → List (List ℕ) → List (List ℕ) → CommandView
  frames : Option (List ℕ) → List (List ℕ) → List ℕ → List ℕ → Bool → CommandView
  waits : Option (List ℕ) → List (List ℕ) → List ℕ → CommandView
  run : Option (List ℕ) → List (List ℕ) → Course → List ℕ → List ℕ → CommandView
  gen : ℕ → ℕ → CommandView
  feed : Option (List ℕ) → List (List ℕ) → FeedCourse → List ℕ → List ℕ → List ℕ → CommandView
  audit : Option (List ℕ) → List (List ℕ) → ℕ → List ℕ → List ℕ → List ℕ → CommandView
  relay : Option (List ℕ) → List (List ℕ) → RelayCourse → List ℕ → List ℕ → CommandView
  chart : Option (List ℕ) → List (List ℕ) → Course → List ℕ → List ℕ → CommandView
  explore : Option (List ℕ) → List (List ℕ) → ExploreCourse → List ℕ → List ℕ → CommandView

-- the sync list, the folders and the file that a command names
abbrev pub list_of : Sources → Option (List ℕ)
list_of sources = option_map string_bytes sources.list

abbrev pub path_of : Sources → List (List ℕ)
path_of sources = map string_bytes sources.path.items

abbrev pub file_of : Sources → List ℕ
file_of sources = string_bytes sources.file

-- how a run, a feed, a relay and an exploration go by their options
abbrev pub run_course : RunOptions → Course
run_course options = record { schedule = option_map (λ turns. turns.items) options.schedule; limit = options.limit; death = options.death }

abbrev pub feed_course : FeedOptions → FeedCourse
feed_course options = record { side = options.side; limit = options.limit }

abbrev pub relay_course : RelayOptions → RelayCourse
relay_course options = record { limit = options.limit; death = options.death }

abbrev pub explore_course : ExploreOptions → ExploreCourse
explore_course options = record { limit = options.limit; ways = options.ways }

-- what a command says
abbrev pub view_of : Command → CommandView
view_of (commands.Compile list path files) = compile (option_map string_bytes list) (map string_bytes path.items) (map string_bytes files.items)
view_of (commands.Frames sources options) = frames (list_of sources) (path_of sources) (file_of sources) (string_bytes options.frames) options.convert
view_of (commands.Waits sources) = waits (list_of sources) (path_of sources) (file_of sources)
view_of (commands.Run sources options) = run (list_of sources) (path_of sources) (run_course options) (string_bytes options.script) (file_of sources)
view_of (commands.Gen rounds actors) = gen rounds actors
view_of (commands.Feed sources options) = feed (list_of sources) (path_of sources) (feed_course options) (string_bytes options.script) (file_of sources) (string_bytes options.frames)
view_of (commands.Audit sources options) = audit (list_of sources) (path_of sources) options.limit (string_bytes options.script) (file_of sources) (string_bytes options.transcript)
view_of (commands.Relay sources options) = relay (list_of sources) (path_of sources) (relay_course options) (string_bytes options.script) (file_of sources)
view_of (commands.Chart sources options) = chart (list_of sources) (path_of sources) (run_course options) (string_bytes options.script) (file_of sources)
view_of (commands.Explore sources options) = explore (list_of sources) (path_of sources) (explore_course options) (string_bytes options.script) (file_of sources)

-- the words say this
abbrev pub Say : List (List ℕ) → CommandView → Type 0
Say words (compile list path files) = IsCompile words list path files
Say words (frames list path file given convert) = IsFrames words list path file given convert
Say words (waits list path file) = IsWaits words list path file
Say words (run list path course script file) = IsRun words list path course script file
Say words (gen rounds actors) = IsGen words rounds actors
Say words (feed list path course script file given) = IsFeed words list path course script file given
Say words (audit list path limit script file given) = IsAudit words list path limit script file given
Say words (relay list path course script file) = IsRelay words list path course script file
Say words (chart list path course script file) = IsChart words list path course script file
Say words (explore list path course script file) = IsExplore words list path course script file

-- the words are this command
abbrev pub CommandOf : List (List ℕ) → Command → Type 0
CommandOf words command = Say words (view_of command)

-- the words are no command
abbrev pub IsNoCommand : List (List ℕ) → Type 0
IsNoCommand words = (command : CommandView) → ¬ Say words command

-- words are one command at most
abbrev pub OneCommand : Type 0
OneCommand = (words : List (List ℕ)) (one other : CommandView) → Say words one → Say words other → one ≡ other
