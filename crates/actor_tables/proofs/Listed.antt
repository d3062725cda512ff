-- Texts with commas between them.
use Rattle.std.proofs.Common.{◌≡◌, ℕ, List, [], ◌∷◌, ◌++◌, Result, Ok, Err, map, sym, ap, ◌∙◌, append_assoc, append-nil}
use Rattle.std.specs.Prelude.{codes, OnOk}
use Rattle.std.specs.List.{flat_map}
use Rattle.actor_tables.specs.TableText.{listed}

-- the first text, and a comma before each other
listed_begins : {X : Type 0} (f : X → List ℕ) (x : X) (xs : List X) → listed (map f (x ∷ xs)) ≡ f x ++ flat_map (λ y. codes ", " ++ f y) xs
listed_begins f x [] = sym (append-nil (f x))
listed_begins f x (y ∷ ys) = append_assoc (f x) (codes ", ") (listed (map f (y ∷ ys))) ∙ ap (λ rest. f x ++ (codes ", " ++ rest)) (listed_begins f y ys)

put : {X : Type 0} (f : X → List ℕ) (x : X) (xs all : List X) (old middle new : List ℕ) → all ≡ x ∷ xs → middle ≡ old ++ f x
    → new ≡ middle ++ flat_map (λ y. codes ", " ++ f y) xs → new ≡ old ++ listed (map f all)
put f x xs all old middle new is first rest =
    rest ∙ ap (λ m. m ++ flat_map (λ y. codes ", " ++ f y) xs) first ∙ append_assoc old (f x) (flat_map (λ y. codes ", " ++ f y) xs)
    ∙ ap (λ t. old ++ t) (sym (listed_begins f x xs)) ∙ ap (λ all. old ++ listed (map f all)) (sym is)

-- if the first text was appended, and then a comma and each other text, then the whole list was appended
pub listed_put : {A E X : Type 0} (r : Result A E) (f : X → List ℕ) (x : X) (xs all : List X) (old middle new : List ℕ) → all ≡ x ∷ xs → middle ≡ old ++ f x
    → OnOk r (new ≡ middle ++ flat_map (λ y. codes ", " ++ f y) xs) → OnOk r (new ≡ old ++ listed (map f all))
listed_put (Ok a) f x xs all old middle new is first rest = put f x xs all old middle new is first rest
listed_put (Err e) f x xs all old middle new is first rest = rest
