-- A loop over an iterator that gives a known list.
use Rattle.std.proofs.Common.{◌≡◌, ◌<◌, List, Option, Some, None, length, take, get_or, map}
use Rattle.std.specs.Iterator.{Yields}
use Rattle.std.proofs.lemmas.Iterator.{YieldsList}
use Rattle.std.proofs.lemmas.Iterator.Consumers.{YieldsList-so_far, YieldsList-turn, YieldsList-end}

-- at a turn: the items so far are the first of the list, and this one is the next
pub turn_of : {S A B : Type 0} {steps : S → Option A → S → Type 0} {v : A → B} {s : S} {all : List B} (xs : List A) (t : S) → Yields steps s xs t → (r : Option A) (u : S) (x : A) → r ≡ Some x → steps t r u → YieldsList steps v s all → (map v xs ≡ take (length xs) all) × ((length xs < length all) × (v x ≡ get_or all (length xs) (v x)))
turn_of xs t y r u x is step road = (YieldsList-so_far road xs t y, YieldsList-turn road xs t y r u x is step)

-- at the end: they are the list
pub end_of : {S A B : Type 0} {steps : S → Option A → S → Type 0} {v : A → B} {s : S} {all : List B} (xs : List A) (t : S) → Yields steps s xs t → (r : Option A) (u : S) → r ≡ None → steps t r u → YieldsList steps v s all → map v xs ≡ all
end_of xs t y r u is step road = (YieldsList-end road xs t y r u is step).0
