-- The text of an exploration.
use Rattle.std.specs.Prelude.{ℕ, ◌==◌, Bool, true, false, if◌then◌else◌, List, [], ◌∷◌, ◌++◌, length, map, codes}
use Rattle.std.specs.Fmt.{decimal}
use Rattle.std.specs.List.{flat_map}
use Rattle.command_words.specs.RunOptions.{letter_of}
use Rattle.history.specs.Words.{side_word}
use Rattle.schedules.specs.declared.turn.Turn.{Turn}
use Rattle.script_steps.specs.Turns.{RunEnding, at_rest, at_limit}
use Rattle.explorations.specs.Explorations.{Exploration, Way}

-- the words that report how a run ends
abbrev pub ending_words : RunEnding → List ℕ
ending_words at_rest = codes "finished"
ending_words (at_limit side) = codes "spent " ++ side_word side

-- a blank and the letters of a word, as `--schedule` takes them, or nothing if it has no letter
abbrev pub word_text : List Turn → List ℕ
word_text [] = []
word_text (turn ∷ word) = codes " " ++ map letter_of (turn ∷ word)

-- the line of a way: how the run ends, and the word that leads there
abbrev pub way_line : Way → List ℕ
way_line way = ending_words way.ending ++ (word_text way.word ++ codes "\n")

-- the word for so many ways
abbrev pub ways_word : ℕ → List ℕ
ways_word count = if count == 1 then codes " way" else codes " ways"

-- what follows the number of the ways, by whether these are all ways
abbrev pub rest_words : Bool → List ℕ
rest_words true = []
rest_words false = codes " and more"

-- the last line: the number of the ways that are listed, and whether there are more
abbrev pub count_line : ℕ → Bool → List ℕ
count_line count whole = decimal count ++ (ways_word count ++ (rest_words whole ++ codes "\n"))

-- The text: a line for each way, in their order, and the last line.
abbrev pub exploration_text : Exploration → List ℕ
exploration_text exploration = flat_map way_line exploration.ways ++ count_line (length exploration.ways) exploration.whole
