-- What may happen at an end.
use Rattle.std.specs.Prelude.{ℕ, ℤ, List, Option}
use Rattle.ipdl_base.specs.declared.kinds.Side.{Side}
use Rattle.ipdl_base.specs.declared.value.Values.{Values}

-- Whose resolver answers: that of the request of this number, whose handler runs, or the one that a name has for a
-- request of this message.
pub data Answering : Type 0 where
  handled : ℤ → Answering
  kept : List ℕ → ℕ → Answering

-- A send goes to an actor, has a message and values, and may name the actor that it makes. An answer with values
-- resolves, and one without values rejects. A handler may return with or without values.
pub data Event : Type 0 where
  send : ℤ → ℕ → Values → Option (List ℕ) → Event
  answer : Answering → Option Values → Event
  keep : ℤ → List ℕ → Event
  name : List ℕ → ℤ → Event
  close : Event
  die : Event
  deliver : Event
  take : Event
  return : Option Values → Event
  resume : Event
  flush : Event

-- an event at the end of a side
pub record Move : Type 0 where
  pub side : Side
  pub event : Event
