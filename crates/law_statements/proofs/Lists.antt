-- Lists that grow at their end: what becomes of filters, counts and tests of them.
use Rattle.std.proofs.Common.{◌≡◌, ℕ, ◌+◌, Bool, true, false, if◌then◌else◌, ◌||◌, List, [], ◌∷◌, ◌++◌, reverse, fold, find, filter_map, count_by, Option, Some, None, refl, sym, ap, ◌∙◌, arith, append_assoc}
use Rattle.std.specs.List.{cons_option, list_any}
use Rattle.std.proofs.lemmas.List.{append-nil, reverse-append}
use Rattle.ipdl_base.specs.declared.line.What.{What}
use Rattle.law_statements.specs.Said.{made_of}

-- one more element at the end, if there is one
abbrev pub add : {A : Type 0} → List A → Option A → List A
add xs None = xs
add xs (Some x) = xs ++ x ∷ []

add-nil : {A : Type 0} (o : Option A) → cons_option o [] ≡ add [] o
add-nil None = refl
add-nil (Some x) = refl

cons-add : {A : Type 0} (o p : Option A) (xs : List A) → cons_option o (add xs p) ≡ add (cons_option o xs) p
cons-add None p xs = refl
cons-add (Some x) None xs = refl
cons-add (Some x) (Some y) xs = refl

pub filter-add : {A B : Type 0} (f : A → Option B) (xs : List A) (x : A) → filter_map f (xs ++ x ∷ []) ≡ add (filter_map f xs) (f x)
filter-add f [] x = add-nil (f x)
filter-add f (y ∷ ys) x = ap (cons_option (f y)) (filter-add f ys x) ∙ cons-add (f y) (f x) (filter_map f ys)

pub made-add : {A : Type 0} (make : List What → What → Option A) (before xs : List What) (x : What) → made_of make before (xs ++ x ∷ []) ≡ add (made_of make before xs) (make (before ++ xs) x)
made-add make before [] x = add-nil (make before x) ∙ ap (λ b. add [] (make b x)) (sym (append-nil before))
made-add make before (y ∷ ys) x =
    ap (cons_option (make before y)) (made-add make (before ++ y ∷ []) ys x ∙ ap (λ b. add (made_of make (before ++ y ∷ []) ys) (make b x)) (append_assoc before (y ∷ []) ys))
    ∙ cons-add (make before y) (make (before ++ y ∷ ys) x) (made_of make (before ++ y ∷ []) ys)

or-if : (a b c : Bool) → (a || (if b then true else c)) ≡ (if b then true else (a || c))
or-if true true c = refl
or-if true false c = refl
or-if false b c = refl

or-one : (b : Bool) → (b || false) ≡ (if b then true else false)
or-one true = refl
or-one false = refl

pub any-add : {A : Type 0} (p : A → Bool) (xs : List A) (x : A) → list_any p (xs ++ x ∷ []) ≡ (if p x then true else list_any p xs)
any-add p [] x = or-one (p x)
any-add p (y ∷ ys) x = ap (λ b. p y || b) (any-add p ys x) ∙ or-if (p y) (p x) (list_any p ys)

fold-one : {A B : Type 0} (f : B → A → B) (b : B) (xs : List A) (x : A) → fold f b (xs ++ x ∷ []) ≡ f (fold f b xs) x
fold-one f b [] x = refl
fold-one f b (y ∷ ys) x = fold-one f (f b y) ys x

plus-if : (b : Bool) (n : ℕ) → n + (if b then 1 else 0) ≡ (if b then n + 1 else n)
plus-if true n = refl
plus-if false n = omega arith

pub count-add : {A : Type 0} (p : A → Bool) (xs : List A) (x : A) → count_by p (xs ++ x ∷ []) ≡ (if p x then count_by p xs + 1 else count_by p xs)
count-add p xs x = fold-one (λ n y. n + (if p y then 1 else 0)) 0 xs x ∙ plus-if (p x) (count_by p xs)

pub last-add : {A : Type 0} (p : A → Bool) (xs : List A) (x : A) → find p (reverse (xs ++ x ∷ [])) ≡ (if p x then Some x else find p (reverse xs))
last-add p xs x = ap (find p) (reverse-append xs (x ∷ []))
