-- The actors that were built and have not fallen.
use Rattle.std.proofs.Common.{◌≡◌, inl, inr, ℤ, Bool, true, false, not, ◌&&◌, ◌||◌, cond, if◌then◌else◌, int_eq, List, [], ◌∷◌, ◌++◌, find, map, Option, Some, is_some, refl, sym, ap, ◌∙◌}
use Rattle.std.specs.List.{list_any}
use Rattle.std.proofs.lemmas.Bool.{cases_Bool}
use Rattle.std.proofs.lemmas.Bool.Decides.{Decides-int_eq}
use Rattle.actor_tree.specs.declared.actor.Actor.{Actor}
use Rattle.actor_tree.specs.Fall.{others}
use Rattle.actor_tree.specs.Tree.{lives}
use Rattle.history_reading.specs.declared.parts.BuiltActor.{BuiltActor}
use Rattle.history_reading.specs.EndReading.{was_built}
use Rattle.history_reading.specs.Fallen.{is_living_under}
use Rattle.history_reading.specs.Numbers.{has}
use Rattle.channel_laws.specs.EndActors.{shown_actor, is_standing, standing, built_actor}

-- the ids of actors
abbrev pub ids_in : List Actor → List ℤ
ids_in fs = map (λ (a : Actor). a.id) fs

pub has-append : (f g : List ℤ) (n : ℤ) → has (f ++ g) n ≡ has f n || has g n
has-append [] g n = refl
has-append (x ∷ f) g n = by (int_eq x n) (has-append f g n)
  where
    by : (b : Bool) → has (f ++ g) n ≡ has f n || has g n → b || has (f ++ g) n ≡ (b || has f n) || has g n
    by true e = refl
    by false e = e

filter-one : (b c : Bool) (x : BuiltActor) (all some : List BuiltActor) → all ≡ some → cond (not (b || c)) (x ∷ all) all ≡ (if not b then cond (not c) (x ∷ some) some else some)
filter-one true c x all some e = e
filter-one false true x all some e = e
filter-one false false x all some e = ap (λ (xs : List BuiltActor). x ∷ xs) e

filter-if : (g : List ℤ) (b : Bool) (x : BuiltActor) (xs : List BuiltActor) → standing g (cond b (x ∷ xs) xs) ≡ (if b then cond (is_standing g x) (x ∷ standing g xs) (standing g xs) else standing g xs)
filter-if g true x xs = refl
filter-if g false x xs = refl

-- the actors that remain after more falls
standing-more : (f g : List ℤ) (xs : List BuiltActor) → standing (f ++ g) xs ≡ standing g (standing f xs)
standing-more f g [] = refl
standing-more f g (x ∷ xs) =
    ap (λ (b : Bool). cond (not b) (x ∷ standing (f ++ g) xs) (standing (f ++ g) xs)) (has-append f g x.id)
    ∙ (filter-one (has f x.id) (has g x.id) x (standing (f ++ g) xs) (standing g (standing f xs)) (standing-more f g xs)
    ∙ sym (filter-if g (is_standing f x) x (standing f xs)))

some-or : (b : Bool) (x : Actor) (rest : Option Actor) (c : Bool) → is_some rest ≡ c → is_some (cond b (Some x) rest) ≡ b || c
some-or true x rest c e = refl
some-or false x rest c e = e

pub lives-has : (fs : List Actor) (n : ℤ) → lives n fs ≡ has (ids_in fs) n
lives-has [] n = refl
lives-has (x ∷ fs) n = some-or (int_eq x.id n) x (find (λ (a : Actor). int_eq a.id n) fs) (has (ids_in fs) n) (lives-has fs n)

map-if : (b : Bool) (x : Actor) (xs : List Actor) → map shown_actor (cond b (x ∷ xs) xs) ≡ cond b (shown_actor x ∷ map shown_actor xs) (map shown_actor xs)
map-if true x xs = refl
map-if false x xs = refl

others-shown : (fs xs : List Actor) → standing (ids_in fs) (map shown_actor xs) ≡ map shown_actor (others fs xs)
others-shown fs [] = refl
others-shown fs (x ∷ xs) =
    ap (λ (b : Bool). cond (not b) (shown_actor x ∷ standing (ids_in fs) (map shown_actor xs)) (standing (ids_in fs) (map shown_actor xs))) (sym (lives-has fs x.id))
    ∙ (ap (λ (ys : List BuiltActor). cond (not (lives x.id fs)) (shown_actor x ∷ ys) ys) (others-shown fs xs) ∙ sym (map-if (not (lives x.id fs)) x (others fs xs)))

-- after falls the other actors remain
pub standing-falls : (built : List BuiltActor) (fallen : List ℤ) (fs actors : List Actor) → standing fallen built ≡ map shown_actor actors → standing (fallen ++ ids_in fs) built ≡ map shown_actor (others fs actors)
standing-falls built fallen fs actors e = standing-more fallen (ids_in fs) built ∙ (ap (standing (ids_in fs)) e ∙ others-shown fs actors)

-- an actor that is built comes last
pub standing-last : (f : List ℤ) (xs : List BuiltActor) (x : BuiltActor) → has f x.id ≡ false → standing f (xs ++ x ∷ []) ≡ standing f xs ++ x ∷ []
standing-last f [] x e = ap (λ (b : Bool). cond (not b) (x ∷ []) []) e
standing-last f (y ∷ ys) x e = ap (λ (zs : List BuiltActor). cond (is_standing f y) (y ∷ zs) zs) (standing-last f ys x e) ∙ by (is_standing f y)
  where
    by : (b : Bool) → cond b (y ∷ (standing f ys ++ x ∷ [])) (standing f ys ++ x ∷ []) ≡ cond b (y ∷ standing f ys) (standing f ys) ++ x ∷ []
    by true = refl
    by false = refl

-- An actor that lives by the lines lives

and-false : (b c : Bool) → c ≡ false → b && c ≡ false
and-false true c e = e
and-false false c e = refl

here-case : (fell all : Bool) (x : BuiltActor) (xs : List BuiltActor) (id : ℤ) → int_eq x.id id ≡ true → was_built xs id ≡ all && not fell → was_built (cond (not fell) (x ∷ xs) xs) id ≡ not fell
here-case true all x xs id e rec = rec ∙ and-false all false refl
here-case false all x xs id e rec = ap (λ (b : Bool). b || was_built xs id) e

there-case : (b : Bool) (x : BuiltActor) (xs : List BuiltActor) (id : ℤ) → int_eq x.id id ≡ false → was_built (cond b (x ∷ xs) xs) id ≡ was_built xs id
there-case true x xs id e = ap (λ (b : Bool). b || was_built xs id) e
there-case false x xs id e = refl

built-standing : (f : List ℤ) (xs : List BuiltActor) (id : ℤ) → was_built (standing f xs) id ≡ was_built xs id && not (has f id)
built-standing f [] id = refl
built-standing f (x ∷ xs) id = elim (cases_Bool (int_eq x.id id)) [
  | inl t ↦
      ap (λ (n : ℤ). was_built (cond (not (has f n)) (x ∷ standing f xs) (standing f xs)) id) ((Decides-int_eq x.id id).0 t)
      ∙ (here-case (has f id) (was_built xs id) x (standing f xs) id t (built-standing f xs id) ∙ ap (λ (b : Bool). (b || was_built xs id) && not (has f id)) (sym t))
  | inr n ↦
      there-case (is_standing f x) x (standing f xs) id n ∙ (built-standing f xs id ∙ ap (λ (b : Bool). (b || was_built xs id) && not (has f id)) (sym n))
]

found-or : (b : Bool) (x : Actor) (rest : Option Actor) (c : Bool) → is_some rest ≡ c → b || c ≡ is_some (cond b (Some x) rest)
found-or true x rest c e = refl
found-or false x rest c e = sym e

shown-lives : (xs : List Actor) (id : ℤ) → was_built (map shown_actor xs) id ≡ lives id xs
shown-lives [] id = refl
shown-lives (x ∷ xs) id = found-or (int_eq x.id id) x (find (λ (a : Actor). int_eq a.id id) xs) (was_built (map shown_actor xs) id) (sym (shown-lives xs id))

-- an actor that was built and has not fallen lives
pub lives-read : (built : List BuiltActor) (fallen : List ℤ) (actors : List Actor) (id : ℤ) → standing fallen built ≡ map shown_actor actors → was_built built id && not (has fallen id) ≡ lives id actors
lives-read built fallen actors id k = sym (built-standing fallen built id) ∙ (ap (λ (xs : List BuiltActor). was_built xs id) k ∙ shown-lives actors id)

-- so an actor that lives was built and has not fallen
pub alive-unfallen : (built : List BuiltActor) (fallen : List ℤ) (actors : List Actor) (id : ℤ) → standing fallen built ≡ map shown_actor actors → lives id actors ≡ true → has fallen id ≡ false
alive-unfallen built fallen actors id k alive = by (was_built built id) (has fallen id) (lives-read built fallen actors id k ∙ alive)
  where
    by : (a b : Bool) → a && not b ≡ true → b ≡ false
    by true true x = cc
    by true false x = refl
    by false b x = cc

pub alive-built : (built : List BuiltActor) (fallen : List ℤ) (actors : List Actor) (id : ℤ) → standing fallen built ≡ map shown_actor actors → lives id actors ≡ true → was_built built id ≡ true
alive-built built fallen actors id k alive = by (was_built built id) (has fallen id) (lives-read built fallen actors id k ∙ alive)
  where
    by : (a b : Bool) → a && not b ≡ true → a ≡ true
    by true b x = refl
    by false b x = cc

-- All that were built, as actors

pub built-lives : (built : List BuiltActor) (id : ℤ) → lives id (map built_actor built) ≡ was_built built id
built-lives [] id = refl
built-lives (x ∷ xs) id = by (int_eq x.id id) (built-lives xs id)
  where
    by : (b : Bool) → is_some (find (λ (a : Actor). int_eq a.id id) (map built_actor xs)) ≡ was_built xs id → is_some (cond b (Some (built_actor x)) (find (λ (a : Actor). int_eq a.id id) (map built_actor xs))) ≡ b || was_built xs id
    by true rec = refl
    by false rec = rec

-- more were built
pub built-more : (xs : List BuiltActor) (x : BuiltActor) (id : ℤ) → was_built xs id ≡ true → was_built (xs ++ x ∷ []) id ≡ true
built-more [] x id e = cc
built-more (y ∷ ys) x id e = by (int_eq y.id id) (built-more ys x id) e
  where
    by : (b : Bool) → (was_built ys id ≡ true → was_built (ys ++ x ∷ []) id ≡ true) → b || was_built ys id ≡ true → b || was_built (ys ++ x ∷ []) id ≡ true
    by true rec e = refl
    by false rec e = rec e

-- Tests of the actors that have not fallen

under-one : (m : ℤ) (x : BuiltActor) (b : Bool) (xs : List BuiltActor) → list_any (λ (a : BuiltActor). int_eq a.manager m) (cond (not b) (x ∷ xs) xs) ≡ (if not b then int_eq x.manager m || list_any (λ (a : BuiltActor). int_eq a.manager m) xs else list_any (λ (a : BuiltActor). int_eq a.manager m) xs)
under-one m x true xs = refl
under-one m x false xs = refl

and-or : (a b rest : Bool) → (a && not b) || rest ≡ (if not b then a || rest else rest)
and-or true true rest = refl
and-or true false rest = refl
and-or false true rest = refl
and-or false false rest = refl

-- some actor lives under a manager exactly where one that has not fallen is under it
pub under-standing : (f : List ℤ) (m : ℤ) (xs : List BuiltActor) → list_any (is_living_under f m) xs ≡ list_any (λ (a : BuiltActor). int_eq a.manager m) (standing f xs)
under-standing f m [] = refl
under-standing f m (x ∷ xs) =
    ap (λ (b : Bool). (int_eq x.manager m && not (has f x.id)) || b) (under-standing f m xs)
    ∙ (and-or (int_eq x.manager m) (has f x.id) (list_any (λ (a : BuiltActor). int_eq a.manager m) (standing f xs)) ∙ sym (under-one m x (has f x.id) (standing f xs)))
