-- What the writer of transcripts knows of numbers after some lines.
use Rattle.std.specs.Prelude.{◌≡◌, ℕ, ℤ, if◌then◌else◌, List, Option, Some}
use Rattle.std.specs.HashMap.{get}
use Rattle.std.specs.Ordering.{int_eq}
use Rattle.ipdl_base.specs.declared.kinds.Side.{Side}
use Rattle.ipdl_base.specs.declared.kinds.Side.TheVariants as side
use Rattle.ipdl_base.specs.declared.line.Line.{Line}
use Rattle.history.specs.declared.messages.Messages.{Messages}
use Rattle.history.specs.Messages.{message_of_number}
use Rattle.ipdl_base.specs.Lines.{same_side}

-- the message that is noted for a number at an end
abbrev pub noted_at : Messages → Side → ℤ → Option ℕ
noted_at messages side.Parent n = get int_eq messages.parent n
noted_at messages side.Child n = get int_eq messages.child n

-- the new map has this message for the number at the end, and otherwise what the old map has
abbrev pub Gives : Messages → Messages → Side → ℤ → ℕ → Type 0
Gives old new end number message =
    (other : Side) (n : ℤ) → noted_at new other n ≡ (if same_side end other then (if int_eq number n then Some message else noted_at old other n) else noted_at old other n)

-- all numbers at both ends have the messages that these lines give them
abbrev pub Knows : List Line → Messages → Type 0
Knows lines messages = (end : Side) (n : ℤ) → noted_at messages end n ≡ message_of_number end lines n
