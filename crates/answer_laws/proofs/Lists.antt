-- Lists and options whose elements look alike: a property that the looks decide passes from one to the other.
use Rattle.std.proofs.Common.{◌≡◌, ◌∙◌, ℕ, zero, suc, ◌+◌, List, [], ◌∷◌, ◌++◌, Option, Some, None, IsSomeAnd, slice_get, map, refl, sym, ap}
use Rattle.std.specs.Prelude.{option_map, IsSome}
use Rattle.std.specs.List.{AllZip, Any, Contains, flat_map}
use Rattle.std.proofs.lemmas.Option.{same_Some}
use Rattle.findings.specs.Gains.{AtSome}
use Rattle.program_schema.specs.SchemaOf.{AreRows}
use Rattle.program_schema.proofs.Lists.{place_in, in_place, any_place, any_at, alike_at}

module _ {X Z : Type 0} (look : X → Z) where
  -- A property of an element that looks alike

  pub any_alike : (P Q : X → Type 0) → ((x y : X) → look x ≡ look y → P x → Q y) → (xs ys : List X) → map look xs ≡ map look ys → Any P xs → Any Q ys
  any_alike P Q step xs ys same some =
      let one = any_place P xs some in
      let other = alike_at look xs ys same one.0 one.1 one.2 in
      any_at Q ys one.0 other.0 other.1 (step one.1 other.0 (sym other.2) one.3)

  pub at_alike : (P Q : ℕ → X → Type 0) → ((k : ℕ) (x y : X) → look x ≡ look y → P k x → Q k y) → (xs ys : List X) → map look xs ≡ map look ys → AtSome P xs → AtSome Q ys
  at_alike P Q step xs ys same one =
      let other = alike_at look xs ys same one.0 one.1 one.2 in
      (one.0, other.0, other.1, step one.0 one.1 other.0 (sym other.2) one.3)

  pub member_alike : (xs ys : List X) → map look xs ≡ map look ys → (x : X) → Contains xs x → (y : X) × Contains ys y × (look x ≡ look y)
  member_alike xs ys same x among =
      let place = place_in xs x among in
      let other = alike_at look xs ys same place.0 x place.1 in
      (other.0, in_place ys place.0 other.0 other.1, sym other.2)

  pub option_alike : (P Q : X → Type 0) → ((x y : X) → look x ≡ look y → P x → Q y) → (a b : Option X) → option_map look a ≡ option_map look b → IsSomeAnd a P → IsSomeAnd b Q
  option_alike P Q step None b same some = elim some [ ]
  option_alike P Q step (Some x) None same some = absurd (let no : ⊥ = cc in no)
  option_alike P Q step (Some x) (Some y) same some = step x y (same_Some (look x) (look y) same) some

  pub has_alike : (a b : Option X) → option_map look a ≡ option_map look b → IsSome a → IsSome b
  has_alike None b same some = absurd (let no : ⊥ = cc in no)
  has_alike (Some x) None same some = absurd (let no : ⊥ = cc in no)
  has_alike (Some x) (Some y) same some = refl

  pub some_alike : (a b : Option X) → option_map look a ≡ option_map look b → (x : X) → a ≡ Some x → (y : X) × (b ≡ Some y) × (look x ≡ look y)
  some_alike None b same x is = cc
  some_alike (Some z) None same x is = cc
  some_alike (Some z) (Some y) same x is = (y, refl, ap look (sym (same_Some z x is)) ∙ same_Some (look z) (look y) same)

  pub at_place_alike : (P Q : X → Type 0) → ((x y : X) → look x ≡ look y → P x → Q y) → (xs ys : List X) → map look xs ≡ map look ys → (k : ℕ) → IsSomeAnd (slice_get xs k) P → IsSomeAnd (slice_get ys k) Q
  at_place_alike P Q step [] ys same k some = elim some [ ]
  at_place_alike P Q step (x ∷ xs) [] same k some = absurd (let no : ⊥ = cc in no)
  at_place_alike P Q step (x ∷ xs) (y ∷ ys) same zero some = let first : look x ≡ look y = cc in step x y first some
  at_place_alike P Q step (x ∷ xs) (y ∷ ys) same (suc k) some = let others : map look xs ≡ map look ys = cc in at_place_alike P Q step xs ys others k some

  -- Rows of things that look alike

  pub rows_alike : {Y : Type 0} (R S : ℕ → X → Y → Type 0) → ((n : ℕ) (x z : X) (y : Y) → look x ≡ look z → R n x y → S n z y) → (index : ℕ) (xs zs : List X) (ys : List Y) → map look xs ≡ map look zs → AreRows R index xs ys → AreRows S index zs ys
  rows_alike R S step index [] [] [] same are = tt
  rows_alike R S step index [] [] (y ∷ ys) same are = absurd are
  rows_alike R S step index [] (z ∷ zs) ys same are = absurd (let no : ⊥ = cc in no)
  rows_alike R S step index (x ∷ xs) [] ys same are = absurd (let no : ⊥ = cc in no)
  rows_alike R S step index (x ∷ xs) (z ∷ zs) [] same are = absurd are
  rows_alike R S step index (x ∷ xs) (z ∷ zs) (y ∷ ys) same are =
      let first : look x ≡ look z = cc in
      let others : map look xs ≡ map look zs = cc in
      (step index x z y first are.0, rows_alike R S step (index + 1) xs zs ys others are.1)

  pub zip_alike : {Y : Type 0} (R S : X → Y → Type 0) → ((x z : X) (y : Y) → look x ≡ look z → R x y → S z y) → (xs zs : List X) (ys : List Y) → map look xs ≡ map look zs → AllZip R xs ys → AllZip S zs ys
  zip_alike R S step [] [] [] same are = tt
  zip_alike R S step [] [] (y ∷ ys) same are = absurd are
  zip_alike R S step [] (z ∷ zs) ys same are = absurd (let no : ⊥ = cc in no)
  zip_alike R S step (x ∷ xs) [] ys same are = absurd (let no : ⊥ = cc in no)
  zip_alike R S step (x ∷ xs) (z ∷ zs) [] same are = absurd are
  zip_alike R S step (x ∷ xs) (z ∷ zs) (y ∷ ys) same are =
      let first : look x ≡ look z = cc in
      let others : map look xs ≡ map look zs = cc in
      (step x z y first are.0, zip_alike R S step xs zs ys others are.1)

-- What a look keeps

pub at_look : {X W : Type 0} (look : X → X) (F G : Option X → W) → F None ≡ G None → ((x : X) → F (Some (look x)) ≡ G (Some x)) → (xs : List X) (k : ℕ) → F (slice_get (map look xs) k) ≡ G (slice_get xs k)
at_look look F G past there [] k = past
at_look look F G past there (x ∷ xs) zero = there x
at_look look F G past there (x ∷ xs) (suc k) = at_look look F G past there xs k

kept_map : {X W : Type 0} (look : X → X) (g : X → W) → ((x : X) → g (look x) ≡ g x) → (xs : List X) → map g (map look xs) ≡ map g xs
kept_map look g keeps [] = refl
kept_map look g keeps (x ∷ xs) =
    let first = keeps x in
    let others = kept_map look g keeps xs in
    cc

pub map_alike : {X W : Type 0} (look : X → X) (g : X → W) → ((x : X) → g (look x) ≡ g x) → (xs ys : List X) → map look xs ≡ map look ys → map g xs ≡ map g ys
map_alike look g keeps xs ys same = sym (kept_map look g keeps xs) ∙ ap (map g) same ∙ kept_map look g keeps ys

-- lists that are made of parts that the look decides
pub flat_alike : {X W : Type 0} (look : X → X) (f : X → List W) → ((x y : X) → look x ≡ look y → f x ≡ f y) → (xs ys : List X) → map look xs ≡ map look ys → flat_map f xs ≡ flat_map f ys
flat_alike look f step [] [] same = refl
flat_alike look f step [] (y ∷ ys) same = absurd (let no : ⊥ = cc in no)
flat_alike look f step (x ∷ xs) [] same = absurd (let no : ⊥ = cc in no)
flat_alike look f step (x ∷ xs) (y ∷ ys) same =
    let first : look x ≡ look y = cc in
    let others : map look xs ≡ map look ys = cc in
    let here = step x y first in
    let rest = flat_alike look f step xs ys others in
    λ i. here i ++ rest i

kept_option : {X W : Type 0} (look : X → X) (g : X → W) → ((x : X) → g (look x) ≡ g x) → (a : Option X) → option_map g (option_map look a) ≡ option_map g a
kept_option look g keeps None = refl
kept_option look g keeps (Some x) = ap Some (keeps x)

pub option_map_alike : {X W : Type 0} (look : X → X) (g : X → W) → ((x : X) → g (look x) ≡ g x) → (a b : Option X) → option_map look a ≡ option_map look b → option_map g a ≡ option_map g b
option_map_alike look g keeps a b same = sym (kept_option look g keeps a) ∙ ap (option_map g) same ∙ kept_option look g keeps b
