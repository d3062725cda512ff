-- Full names, their parts and their short names.
use Rattle.std.proofs.Common.{◌≡◌, ◌⊎◌, inl, inr, ◌∙◌, ℕ, zero, suc, ◌+◌, ◌-◌, ◌<◌, Bool, true, false, true≢false, cond, List, [], ◌∷◌, ◌++◌, length, take, drop, Option, Some, None, refl, sym, ap, subst, arith, not, nat_eq, ◌||◌, append_assoc}
use Rattle.std.specs.Prelude.{if◌then◌else◌, ◌==◌}
use Rattle.std.specs.List.{Contains, list_any, before_first, prefix_len}
use Rattle.std.specs.Cmp.Lexicographic.{pointwise}
use Rattle.std.proofs.lemmas.Bool.Decides.{eqb_tells}
use Rattle.std.proofs.lemmas.List.{take-append-drop, append_cancel_left, append_cancel_right}
use Rattle.std.proofs.lemmas.Slice.Eq.{bytes_eq-Decides}
use Rattle.std.proofs.Math.Seq.{take-append_seam}
use Rattle.ipdl_base.specs.Words.{short_name}
use Rattle.ipdl_syntax.specs.Grammar.{whole_name}

abbrev pub colon : ℕ → Bool
colon b = b == 58

-- without a colon the short name is the full name
pub short_name-whole : (xs : List ℕ) → list_any colon xs ≡ false → short_name xs ≡ xs
short_name-whole [] h = refl
short_name-whole (b ∷ bs) h = go (colon b) (list_any colon bs) refl refl h
  where
    go : (here there : Bool) → colon b ≡ here → list_any colon bs ≡ there → here || there ≡ false → short_name (b ∷ bs) ≡ b ∷ bs
    go true there p q bare = absurd (true≢false bare)
    go false true p q bare = absurd (true≢false bare)
    go false false p q bare = ap (λ (t : Bool). if t then short_name bs else (if colon b then bs else b ∷ bs)) q ∙ ap (λ (t : Bool). if t then bs else b ∷ bs) p

-- a short name is shorter than the full name, or is the full name
pub short_name-length : (xs : List ℕ) → (length (short_name xs) < length xs) ⊎ (short_name xs ≡ xs)
short_name-length [] = inr refl
short_name-length (b ∷ bs) = go (list_any colon bs) (colon b) refl refl (short_name-length bs)
  where
    go : (there here : Bool) → list_any colon bs ≡ there → colon b ≡ here → (length (short_name bs) < length bs) ⊎ (short_name bs ≡ bs) → (length (short_name (b ∷ bs)) < length (b ∷ bs)) ⊎ (short_name (b ∷ bs) ≡ b ∷ bs)
    go true here q p rest =
        let e : short_name (b ∷ bs) ≡ short_name bs = ap (λ (t : Bool). if t then short_name bs else (if colon b then bs else b ∷ bs)) q in
        elim rest [
          | inl less ↦ inl (omega (arith, ap length e, less))
          | inr same ↦ inl (omega (arith, ap length e, ap length same))
        ]
    go false true q p rest =
        let e : short_name (b ∷ bs) ≡ bs = ap (λ (t : Bool). if t then short_name bs else (if colon b then bs else b ∷ bs)) q ∙ ap (λ (t : Bool). if t then bs else b ∷ bs) p in
        inl (omega (arith, ap length e))
    go false false q p rest = inr (ap (λ (t : Bool). if t then short_name bs else (if colon b then bs else b ∷ bs)) q ∙ ap (λ (t : Bool). if t then bs else b ∷ bs) p)

-- the part before the first of some bytes is all if there is no such byte, and shorter if there is one
pub before_first-all : (p : ℕ → Bool) (xs : List ℕ) → list_any p xs ≡ false → before_first p xs ≡ xs
before_first-all p [] h = refl
before_first-all p (x ∷ xs) h = go (p x) refl h (before_first-all p xs)
  where
    go : (here : Bool) → p x ≡ here → p x || list_any p xs ≡ false → (list_any p xs ≡ false → before_first p xs ≡ xs) → before_first p (x ∷ xs) ≡ x ∷ xs
    go true q bare rest = absurd (true≢false (sym (ap (λ (t : Bool). t || list_any p xs) q) ∙ bare))
    go false q bare rest =
        let one : 1 + prefix_len (λ y. not (p y)) xs ≡ suc (prefix_len (λ y. not (p y)) xs) = omega arith in
        ap (λ (t : Bool). take (cond (not t) (1 + prefix_len (λ y. not (p y)) xs) 0) (x ∷ xs)) q
        ∙ ap (λ n. take n (x ∷ xs)) one
        ∙ ap (λ ys. x ∷ ys) (rest (sym (ap (λ (t : Bool). t || list_any p xs) q) ∙ bare))

pub before_first-less : (p : ℕ → Bool) (xs : List ℕ) → list_any p xs ≡ true → length (before_first p xs) < length xs
before_first-less p [] h = absurd (true≢false (sym h))
before_first-less p (x ∷ xs) h = go (p x) refl h (before_first-less p xs)
  where
    go : (here : Bool) → p x ≡ here → p x || list_any p xs ≡ true → (list_any p xs ≡ true → length (before_first p xs) < length xs) → length (before_first p (x ∷ xs)) < length (x ∷ xs)
    go true q some rest =
        let e : before_first p (x ∷ xs) ≡ [] = ap (λ (t : Bool). take (cond (not t) (1 + prefix_len (λ y. not (p y)) xs) 0) (x ∷ xs)) q in
        omega (arith, ap length e)
    go false q some rest =
        let one : 1 + prefix_len (λ y. not (p y)) xs ≡ suc (prefix_len (λ y. not (p y)) xs) = omega arith in
        let e : before_first p (x ∷ xs) ≡ x ∷ before_first p xs = ap (λ (t : Bool). take (cond (not t) (1 + prefix_len (λ y. not (p y)) xs) 0) (x ∷ xs)) q ∙ ap (λ n. take n (x ∷ xs)) one in
        let less = rest (sym (ap (λ (t : Bool). t || list_any p xs) q) ∙ some) in
        omega (arith, ap length e, less)

-- a text without such a byte, followed by one, is the part before the first
pub before_first-append : (p : ℕ → Bool) (xs : List ℕ) (y : ℕ) (ys : List ℕ) → list_any p xs ≡ false → p y ≡ true → before_first p (xs ++ y ∷ ys) ≡ xs
before_first-append p [] y ys h q = ap (λ (t : Bool). take (cond (not t) (1 + prefix_len (λ z. not (p z)) ys) 0) (y ∷ ys)) q
before_first-append p (x ∷ xs) y ys h q = go (p x) refl h (λ bare. before_first-append p xs y ys bare q)
  where
    go : (here : Bool) → p x ≡ here → p x || list_any p xs ≡ false → (list_any p xs ≡ false → before_first p (xs ++ y ∷ ys) ≡ xs) → before_first p (x ∷ xs ++ y ∷ ys) ≡ x ∷ xs
    go true r bare rest = absurd (true≢false (sym (ap (λ (t : Bool). t || list_any p xs) r) ∙ bare))
    go false r bare rest =
        let one : 1 + prefix_len (λ z. not (p z)) (xs ++ y ∷ ys) ≡ suc (prefix_len (λ z. not (p z)) (xs ++ y ∷ ys)) = omega arith in
        ap (λ (t : Bool). take (cond (not t) (1 + prefix_len (λ z. not (p z)) (xs ++ y ∷ ys)) 0) (x ∷ xs ++ y ∷ ys)) r
        ∙ ap (λ n. take n (x ∷ xs ++ y ∷ ys)) one
        ∙ ap (λ zs. x ∷ zs) (rest (sym (ap (λ (t : Bool). t || list_any p xs) r) ∙ bare))

-- a test finds each number that a list contains
pub contains_any : (n : ℕ) (xs : List ℕ) → Contains xs n → list_any (λ b. b == n) xs ≡ true
contains_any n [] c = let k = c.1 in absurd (omega arith)
contains_any n (x ∷ xs) (zero, below, is) = ap (λ (t : Bool). t || list_any (λ b. b == n) xs) (subst (λ m. (x == m) ≡ true) is (elim (eqb_tells x x) [ inl h ↦ h.0 | inr h ↦ absurd (h.1 refl) ]))
contains_any n (x ∷ xs) (suc k, below, is) = go (x == n) (contains_any n xs (k, omega (arith, below), is))
  where
    go : (b : Bool) → list_any (λ c. c == n) xs ≡ true → b || list_any (λ c. c == n) xs ≡ true
    go true h = refl
    go false h = h

pub any_contains : (n : ℕ) (xs : List ℕ) → list_any (λ b. b == n) xs ≡ true → Contains xs n
any_contains n [] h = absurd (true≢false (sym h))
any_contains n (x ∷ xs) h = elim (eqb_tells x n) [
  | inl same ↦ (0, omega arith, same.1)
  | inr other ↦ (let c = any_contains n xs (sym (ap (λ (t : Bool). t || list_any (λ b. b == n) xs) other.0) ∙ h) in (suc c.0, omega (arith, c.1), c.2))
]

pub contains_not : (n : ℕ) (xs : List ℕ) → ¬ Contains xs n → list_any (λ b. b == n) xs ≡ false
contains_not n xs none = go (list_any (λ b. b == n) xs) refl
  where
    go : (b : Bool) → list_any (λ c. c == n) xs ≡ b → list_any (λ c. c == n) xs ≡ false
    go true h = absurd (none (any_contains n xs h))
    go false h = h

-- when a text begins with a prefix, and when it does not
pub front_not : (front whole : List ℕ) → pointwise nat_eq (take (length front) whole) front ≡ false → (more : List ℕ) → ¬ (whole ≡ front ++ more)
front_not front whole differ more e =
    true≢false (sym ((bytes_eq-Decides (take (length front) whole) front).1 (ap (take (length front)) e ∙ take-append_seam front more)) ∙ differ)

pub front_is : (front whole : List ℕ) → pointwise nat_eq (take (length front) whole) front ≡ true → whole ≡ front ++ drop (length front) whole
front_is front whole same =
    sym (take-append-drop (length front) whole) ∙ ap (λ xs. xs ++ drop (length front) whole) ((bytes_eq-Decides (take (length front) whole) front).0 same)

-- a text that ends with one byte
pub last_is : (whole : List ℕ) (b : ℕ) → pointwise nat_eq (drop (length whole - 1) whole) (b ∷ []) ≡ true → whole ≡ take (length whole - 1) whole ++ b ∷ []
last_is whole b same =
    sym (take-append-drop (length whole - 1) whole) ∙ ap (λ xs. take (length whole - 1) whole ++ xs) ((bytes_eq-Decides (drop (length whole - 1) whole) (b ∷ [])).0 same)

-- a name with its argument, from its beginning
pub whole_name-parts : (text inner : List ℕ) → whole_name text (Some inner) ≡ text ++ (60 ∷ (inner ++ 62 ∷ []))
whole_name-parts text inner = append_assoc (text ++ 60 ∷ []) inner (62 ∷ []) ∙ append_assoc text (60 ∷ []) (inner ++ 62 ∷ [])

pub whole_name-inner : (text inner other : List ℕ) → whole_name text (Some inner) ≡ whole_name text (Some other) → inner ≡ other
whole_name-inner text inner other e =
    let parts : text ++ (60 ∷ (inner ++ 62 ∷ [])) ≡ text ++ (60 ∷ (other ++ 62 ∷ [])) = sym (whole_name-parts text inner) ∙ e ∙ whole_name-parts text other in
    append_cancel_right inner other (62 ∷ []) (ap (drop 1) (append_cancel_left text (60 ∷ (inner ++ 62 ∷ [])) (60 ∷ (other ++ 62 ∷ [])) parts))

-- the text before the first `<` of a name with its argument
pub whole_name-front : (text : List ℕ) (argument : Option (List ℕ)) → ¬ Contains text 60 → before_first (λ b. b == 60) (whole_name text argument) ≡ text
whole_name-front text None none = before_first-all (λ b. b == 60) text (contains_not 60 text none)
whole_name-front text (Some inner) none =
    ap (before_first (λ b. b == 60)) (whole_name-parts text inner) ∙ before_first-append (λ b. b == 60) text 60 (inner ++ 62 ∷ []) (contains_not 60 text none) refl
