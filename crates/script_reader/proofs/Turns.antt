-- A loop over an iterator that gives a known list, and lines that are read.
use Rattle.std.proofs.Common.{◌≡◌, ℕ, List, [], ◌∷◌, ◌++◌, Option, None, map}
use Rattle.std.specs.Iterator.{Yields}
use Rattle.std.proofs.lemmas.Iterator.{YieldsList}
use Rattle.std.proofs.lemmas.Iterator.Consumers.{YieldsList-end}
use Rattle.script_reader.specs.declared.line.LineReading.{LineReading}
use Rattle.script_reader.specs.Lines.{Says, AreRead}

-- at the end the items are the list
pub end_of : {S A B : Type 0} {steps : S → Option A → S → Type 0} {v : A → B} {s : S} {all : List B} (xs : List A) (t : S) → Yields steps s xs t → (r : Option A) (u : S) → r ≡ None → steps t r u → YieldsList steps v s all → map v xs ≡ all
end_of xs t y r u is step road = (YieldsList-end road xs t y r u is step).0

-- the readings of these lines
pub record HasRead (lines : List (List ℕ)) (readings : List LineReading) : Type 0 where
  pub each : AreRead lines readings

AreRead-push : (lines : List (List ℕ)) (readings : List LineReading) (line : List ℕ) (reading : LineReading) → AreRead lines readings → Says line reading → AreRead (lines ++ line ∷ []) (readings ++ reading ∷ [])
AreRead-push [] [] line reading h says = (says, tt)
AreRead-push [] (r ∷ rs) line reading h says = absurd h
AreRead-push (l ∷ ls) [] line reading h says = absurd h
AreRead-push (l ∷ ls) (r ∷ rs) line reading h says = (h.0, AreRead-push ls rs line reading h.1 says)

-- one more line is read
pub HasRead-next : (lines more : List (List ℕ)) (readings all : List LineReading) (line : List ℕ) (reading : LineReading) → HasRead lines readings → Says line reading → more ≡ lines ++ line ∷ [] → all ≡ readings ++ reading ∷ [] → HasRead more all
HasRead-next lines more readings all line reading read says e f = rw (e, f) (record { each = AreRead-push lines readings line reading read.each says })

pub HasRead-none : (readings : List LineReading) → readings ≡ [] → HasRead [] readings
HasRead-none [] e = record { each = tt }
HasRead-none (r ∷ rs) e = absurd (let no : ⊥ = cc in no)
