-- What is found, or that nothing is found.
use Rattle.std.proofs.Common.{Option, Some, None, option_map, option_and_then}

-- this is found; or nothing is found that has the property
abbrev pub Finds : {X : Type 0} → (X → Type 0) → Option X → Type 0
Finds {X} Holds None = (x : X) → ¬ Holds x
Finds {X} Holds (Some x) = Holds x

-- this is at the start, and that is left after it
abbrev pub AtFront : {X Y : Type 0} → (X → Y → Y → Type 0) → Y → X × Y → Type 0
AtFront Holds from found = Holds found.0 from found.1

-- what is found for a part decides what is found for the whole
pub finds_as : {X Z : Type 0} (Part : X → Type 0) (Whole : Z → Type 0) (f : X → Z)
    → ((x : X) → Part x → Whole (f x)) → (((x : X) → ¬ Part x) → (z : Z) → ¬ Whole z)
    → (o : Option X) → Finds Part o → Finds Whole (option_map f o)
finds_as Part Whole f some none None h = none h
finds_as Part Whole f some none (Some x) h = some x h

-- and what is found after a part
pub finds_then : {X Z : Type 0} (Part : X → Type 0) (Whole : Z → Type 0) (next : X → Option Z)
    → ((x : X) → Part x → Finds Whole (next x)) → (((x : X) → ¬ Part x) → (z : Z) → ¬ Whole z)
    → (o : Option X) → Finds Part o → Finds Whole (option_and_then next o)
finds_then Part Whole next some none None h = none h
finds_then Part Whole next some none (Some x) h = some x h

-- what holds is the same
pub finds_also : {X : Type 0} (One Other : X → Type 0) → ((x : X) → One x → Other x) → ((x : X) → Other x → One x) → (o : Option X) → Finds One o → Finds Other o
finds_also One Other to from None h = λ x k. h x (from x k)
finds_also One Other to from (Some x) h = to x h
