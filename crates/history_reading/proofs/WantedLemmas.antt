-- The first actor that is looked for, in two lists.
use Rattle.std.proofs.Common.{◌≡◌, ◌∙◌, ℤ, Bool, List, ◌++◌, Option, Some, None, option_map, refl, sym, ap}
use Rattle.std.specs.List.{find}
use Rattle.std.specs.Option.{option_or}
use Rattle.std.proofs.lemmas.List.Folds.{find-append}
use Rattle.history_reading.specs.declared.nulled.ActorQuery.{ActorQuery}
use Rattle.history_reading.specs.Nulled.{TypedActor}
use Rattle.history_reading.specs.ActorQuery.{first_wanted, is_wanted}

mapped : (a b : Option TypedActor) → option_map (λ (n : TypedActor). n.id) (option_or a b) ≡ option_or (option_map (λ (n : TypedActor). n.id) a) (option_map (λ (n : TypedActor). n.id) b)
mapped None b = refl
mapped (Some x) b = refl

joined : (w : ActorQuery) (lives : ℤ → Bool) (xs ys : List TypedActor) → first_wanted w lives (xs ++ ys) ≡ option_or (first_wanted w lives xs) (first_wanted w lives ys)
joined w lives xs ys = ap (option_map (λ (n : TypedActor). n.id)) (find-append (is_wanted w lives) xs ys) ∙ mapped (find (is_wanted w lives) xs) (find (is_wanted w lives) ys)

-- one that is found in the first list is the first of both
pub first_here : (w : ActorQuery) (lives : ℤ → Bool) (xs ys : List TypedActor) (id : ℤ) → Some id ≡ first_wanted w lives xs → Some id ≡ first_wanted w lives (xs ++ ys)
first_here w lives xs ys id found = ap (λ (o : Option ℤ). option_or o (first_wanted w lives ys)) found ∙ sym (joined w lives xs ys)

-- where none is, that of the second list is
pub first_later : (w : ActorQuery) (lives : ℤ → Bool) (xs ys : List TypedActor) (r : Option ℤ) → None ≡ first_wanted w lives xs → r ≡ first_wanted w lives ys → r ≡ first_wanted w lives (xs ++ ys)
first_later w lives xs ys r none found = found ∙ (ap (λ (o : Option ℤ). option_or o (first_wanted w lives ys)) none ∙ sym (joined w lives xs ys))
