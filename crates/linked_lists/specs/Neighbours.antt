-- The positions of elements on a list, by a test of equality.
use Rattle.std.specs.Prelude.{◌≡◌, Bool, false, not, Decides, List, [], ◌∷◌, filter, Option, Some, None, ◌⊎◌, if◌then◌else◌}

-- the test decides equality
abbrev pub IsTest : {A : Type 0} → (A → A → Bool) → Type 0
IsTest {A} eq = (x y : A) → Decides (eq x y) (x ≡ y)

module _ {A : Type 0} where
  -- x is on the list
  abbrev pub IsIn : A → List A → Type 0
  IsIn x [] = ⊥
  IsIn x (y ∷ ys) = (y ≡ x) ⊎ IsIn x ys

  -- no element is on the list twice
  abbrev pub AreDistinct : List A → Type 0
  AreDistinct [] = Unit {0}
  AreDistinct (x ∷ xs) = (IsIn x xs → ⊥) × AreDistinct xs

  -- the first, if there is one
  abbrev pub head : List A → Option A
  head [] = None
  head (x ∷ xs) = Some x

  -- the last, or else what is before the list
  abbrev pub last_with : Option A → List A → Option A
  last_with earlier [] = earlier
  last_with earlier (x ∷ xs) = last_with (Some x) xs

  -- the last, if there is one
  abbrev pub last : List A → Option A
  last xs = last_with None xs

module _ {A : Type 0} (eq : A → A → Bool) where
  -- whether there is an element, and it is x
  abbrev pub is_the : Option A → A → Bool
  is_the None x = false
  is_the (Some y) x = eq y x

  -- the element after x, if there is one
  abbrev pub after : A → List A → Option A
  after x [] = None
  after x (y ∷ ys) = if eq y x then head ys else after x ys

  -- the element before x, where the given one is before the list
  abbrev pub before_with : Option A → A → List A → Option A
  before_with earlier x [] = None
  before_with earlier x (y ∷ ys) = if eq y x then earlier else before_with (Some y) x ys

  -- the element before x, if there is one
  abbrev pub before : A → List A → Option A
  before x ys = before_with None x ys

  -- the list without x
  abbrev pub omit : A → List A → List A
  omit x ys = filter (λ y. not (eq y x)) ys
