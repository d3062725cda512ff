-- What the values of the options of a run say: how it goes, how far, and where an end dies.
use Rattle.std.specs.Prelude.{◌≡◌, ℕ, ◌≤◌, List, ◌++◌, length, map, Option, Some, None, codes}
use Rattle.std.specs.Str.Parse.{IsNumeral, digits_value}
use Rattle.ipdl_base.specs.declared.kinds.Side.{Side}
use Rattle.ipdl_base.specs.declared.kinds.Side.TheVariants.{Parent, Child}
use Rattle.schedules.specs.declared.stop.Stop.{Stop}
use Rattle.schedules.specs.declared.turn.Turn.{Turn}
use Rattle.std.specs.Prelude.{Bool, true, false}

-- a number in decimal digits without a sign, perhaps after zeros
pub record IsNumber (text : List ℕ) (n : ℕ) : Type 0 where
  pub digits : IsNumeral 10 text
  pub value : n ≡ digits_value 10 text

-- a number from 1 to the greatest
pub record IsCount (most : ℕ) (text : List ℕ) (n : ℕ) : Type 0 where
  pub number : IsNumber text n
  pub least : 1 ≤ n
  pub greatest : n ≤ most

-- the letter of a turn: a capital one, and a small one for a delivery alone
abbrev pub letter_for : Side → Bool → ℕ
letter_for Parent false = 80
letter_for Child false = 67
letter_for Parent true = 112
letter_for Child true = 99

abbrev pub letter_of : Turn → ℕ
letter_of turn = letter_for turn.side turn.only_deliver

-- a word of at most 40,000 letters, each that of a turn
pub record IsWordOf (text : List ℕ) (turns : List Turn) : Type 0 where
  pub letters : text ≡ map letter_of turns
  pub most : length text ≤ 40000

-- the turns of `--schedule`, if it is given
abbrev pub IsSchedule : Option (List ℕ) → Option (List Turn) → Type 0
IsSchedule None schedule = schedule ≡ None
IsSchedule (Some text) schedule = (turns : List Turn) × (IsWordOf text turns × (schedule ≡ Some turns))

-- the most events of a side: 10,000, and with `--limit` any number from 1 to 20,000
pub record IsGivenLimit (text : List ℕ) (limit : ℕ) : Type 0 where
  pub number : IsNumber text limit
  pub least : 1 ≤ limit
  pub most : limit ≤ 20000

abbrev pub IsLimit : Option (List ℕ) → ℕ → Type 0
IsLimit None limit = limit ≡ 10000
IsLimit (Some text) limit = IsGivenLimit text limit

-- the word of a side
abbrev pub word_of : Side → List ℕ
word_of Parent = codes "parent"
word_of Child = codes "child"

-- `SIDE:K`, with K at most 20,000: this side dies once it has K events
pub record IsStopOf (text : List ℕ) (stop : Stop) : Type 0 where
  pub number : List ℕ
  pub text_is : text ≡ word_of stop.side ++ (codes ":" ++ number)
  pub is_number : IsNumber number stop.after
  pub most : stop.after ≤ 20000

-- the death that `--die` gives an end, if it is given
abbrev pub IsDeath : Option (List ℕ) → Option Stop → Type 0
IsDeath None death = death ≡ None
IsDeath (Some text) death = (stop : Stop) × (IsStopOf text stop × (death ≡ Some stop))
