-- The first among two lists that is looked for.
use Rattle.std.proofs.Common.{◌≡◌, ℤ, Bool, true, false, ◌||◌, cond, List, [], ◌∷◌, ◌++◌, Option, Some, None, is_some, refl, ◌∙◌}
use Rattle.std.specs.Option.{option_map}
use Rattle.std.specs.List.{find, list_any}
use Rattle.channel_model.specs.ValueActors.{ActorValue}
use Rattle.end_parts.specs.SoughtActors.{first_id}

front_at : (b : Bool) (a : ActorValue) (f g : Option ActorValue) (id : ℤ) → option_map (λ (x : ActorValue). x.id) (cond b (Some a) f) ≡ Some id → (option_map (λ (x : ActorValue). x.id) f ≡ Some id → option_map (λ (x : ActorValue). x.id) g ≡ Some id) → option_map (λ (x : ActorValue). x.id) (cond b (Some a) g) ≡ Some id
front_at true a f g id h k = h
front_at false a f g id h k = k h

-- who is found in the front is found in both
pub found_front : (test : ActorValue → Bool) (xs ys : List ActorValue) (id : ℤ) → first_id test xs ≡ Some id → first_id test (xs ++ ys) ≡ Some id
found_front test [] ys id h = cc
found_front test (x ∷ xs) ys id h = front_at (test x) x (find test xs) (find test (xs ++ ys)) id h (found_front test xs ys id)

back_at : (b : Bool) (a : ActorValue) (f g h : Option ActorValue) → option_map (λ (x : ActorValue). x.id) (cond b (Some a) f) ≡ None → (option_map (λ (x : ActorValue). x.id) f ≡ None → option_map (λ (x : ActorValue). x.id) g ≡ option_map (λ (x : ActorValue). x.id) h) → option_map (λ (x : ActorValue). x.id) (cond b (Some a) g) ≡ option_map (λ (x : ActorValue). x.id) h
back_at true a f g h e k = cc
back_at false a f g h e k = k e

-- where nobody is found in the front, what is found in the back is found in both
pub found_back : (test : ActorValue → Bool) (xs ys : List ActorValue) → first_id test xs ≡ None → first_id test (xs ++ ys) ≡ first_id test ys
found_back test [] ys h = refl
found_back test (x ∷ xs) ys h = back_at (test x) x (find test xs) (find test (xs ++ ys)) (find test ys) h (found_back test xs ys)

any_at : (b c : Bool) (a : ActorValue) (f : Option ActorValue) → is_some f ≡ c → is_some (option_map (λ (x : ActorValue). x.id) (cond b (Some a) f)) ≡ (b || c)
any_at true c a f h = refl
any_at false c a f h = some_id f ∙ h where
  some_id : (f : Option ActorValue) → is_some (option_map (λ (x : ActorValue). x.id) f) ≡ is_some f
  some_id None = refl
  some_id (Some a) = refl

found_at : (b c : Bool) (a : ActorValue) (f : Option ActorValue) → is_some f ≡ c → is_some (cond b (Some a) f) ≡ (b || c)
found_at true c a f h = refl
found_at false c a f h = h

finds_any : (test : ActorValue → Bool) (xs : List ActorValue) → is_some (find test xs) ≡ list_any test xs
finds_any test [] = refl
finds_any test (x ∷ xs) = found_at (test x) (list_any test xs) x (find test xs) (finds_any test xs)

-- somebody is found where some actor passes
pub some_first_id : (test : ActorValue → Bool) (xs : List ActorValue) → is_some (first_id test xs) ≡ list_any test xs
some_first_id test [] = refl
some_first_id test (x ∷ xs) = any_at (test x) (list_any test xs) x (find test xs) (finds_any test xs)
