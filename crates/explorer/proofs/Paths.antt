-- The spots before the letters of a word.
use Rattle.std.proofs.Common.{◌≡◌, List, [], ◌∷◌, ◌++◌, sym, subst, append_assoc}
use Rattle.std.proofs.lemmas.List.{append-nil}
use Rattle.schedules.specs.declared.turn.Turn.{Turn}
use Rattle.explorer.specs.declared.search.Spot.{Spot}
use Rattle.explorer.specs.Searching.{IsPath}

module _ (At : List Turn → Spot → Type 0) where
  -- one letter more
  pub path-push : (before word : List Turn) (spots : List Spot) (turn : Turn) (spot : Spot) → IsPath At before word spots → At (before ++ word) spot → IsPath At before (word ++ turn ∷ []) (spots ++ spot ∷ [])
  path-push before [] [] turn spot path at = (subst (λ (w : List Turn). At w spot) (append-nil before) at, tt)
  path-push before [] (s ∷ spots) turn spot path at = absurd path
  path-push before (t ∷ word) [] turn spot path at = absurd path
  path-push before (t ∷ word) (s ∷ spots) turn spot path at =
      (path.0, path-push (before ++ t ∷ []) word spots turn spot path.1 (subst (λ (w : List Turn). At w spot) (sym (append_assoc before (t ∷ []) word)) at))

  -- one letter less
  pub record IsPopped (before word : List Turn) (spots front : List Spot) (last : Spot) : Type 0 where
    pub path : IsPath At before word front
    pub at : At (before ++ word) last

  pub path-pop : (before word : List Turn) (turn : Turn) (spots front : List Spot) (last : Spot) → IsPath At before (word ++ turn ∷ []) spots → spots ≡ front ++ last ∷ [] → IsPopped before word spots front last
  path-pop before word turn spots front last path is = by before word front (subst (IsPath At before (word ++ turn ∷ [])) is path)
    where
      by : (before word : List Turn) (front : List Spot) → IsPath At before (word ++ turn ∷ []) (front ++ last ∷ []) → IsPopped before word spots front last
      by before [] [] path = record { path = tt; at = subst (λ (w : List Turn). At w last) (sym (append-nil before)) path.0 }
      by before [] (s ∷ []) path = absurd path.1
      by before [] (s ∷ r ∷ front) path = absurd path.1
      by before (t ∷ []) [] path = absurd path.1
      by before (t ∷ u ∷ word) [] path = absurd path.1
      by before (t ∷ word) (s ∷ front) path =
          let rest = by (before ++ t ∷ []) word front path.1 in
          record { path = (path.0, rest.path); at = subst (λ (w : List Turn). At w last) (append_assoc before (t ∷ []) word) rest.at }

  -- a letter has a spot before it
  pub path-has : (before word : List Turn) (turn : Turn) → IsPath At before (word ++ turn ∷ []) [] → ⊥
  path-has before [] turn path = path
  path-has before (t ∷ word) turn path = path

pub path-more : (At Of : List Turn → Spot → Type 0) → ((word : List Turn) (spot : Spot) → At word spot → Of word spot) → (before word : List Turn) (spots : List Spot) → IsPath At before word spots → IsPath Of before word spots
path-more At Of f before [] [] path = tt
path-more At Of f before [] (s ∷ spots) path = absurd path
path-more At Of f before (t ∷ word) [] path = absurd path
path-more At Of f before (t ∷ word) (s ∷ spots) path = (f before s path.0, path-more At Of f (before ++ t ∷ []) word spots path.1)
