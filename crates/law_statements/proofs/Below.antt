-- The path from an actor to its manager, and so on, leads to the actors that it is below.
use Rattle.std.proofs.Common.{◌≡◌, inl, inr, ℤ, Bool, true, false, ◌||◌, if◌then◌else◌, List, [], ◌∷◌, ◌++◌, reverse, refl, sym, ap, subst, ◌∙◌, append_assoc}
use Rattle.std.specs.Bool.{Decides}
use Rattle.std.specs.List.{list_any}
use Rattle.std.specs.Ordering.{int_eq}
use Rattle.std.proofs.lemmas.Bool.{or_cases}
use Rattle.std.proofs.lemmas.Bool.Decides.{Decides-int_eq}
use Rattle.std.proofs.lemmas.List.{reverse-append, reverse-reverse}
use Rattle.history_reading.specs.declared.parts.BuiltActor.{BuiltActor}
use Rattle.history_reading.specs.EndReading.{was_built}
use Rattle.history_reading.specs.Fallen.{climbs, is_below}
use Rattle.law_statements.specs.Fallen.{IsBelow, under, further}
use Rattle.law_statements.proofs.Lists.{any-add}

later-none : (later : List BuiltActor) (a : BuiltActor) (id : ℤ) → int_eq a.id id ≡ false → was_built later id ≡ false → was_built (later ++ a ∷ []) id ≡ false
later-none later a id e f = any-add (λ (x : BuiltActor). int_eq x.id id) later a ∙ ap (λ (b : Bool). if b then true else was_built later id) e ∙ f

one-later : (actors earlier later : List BuiltActor) (a b : BuiltActor) → actors ≡ earlier ++ b ∷ later → actors ++ a ∷ [] ≡ earlier ++ b ∷ (later ++ a ∷ [])
one-later actors earlier later a b e = ap (λ (xs : List BuiltActor). xs ++ a ∷ []) e ∙ append_assoc earlier (b ∷ later) (a ∷ [])

extend : (xs : List BuiltActor) (a : BuiltActor) (i t : ℤ) → int_eq a.id i ≡ false → IsBelow xs i t → IsBelow (xs ++ a ∷ []) i t
extend xs a i t e (under actors earlier later b id top split same none managed) = under (actors ++ a ∷ []) earlier (later ++ a ∷ []) b id top (one-later actors earlier later a b split) same (later-none later a id e none) managed
extend xs a i t e (further actors earlier later b id top split same none way) = further (actors ++ a ∷ []) earlier (later ++ a ∷ []) b id top (one-later actors earlier later a b split) same (later-none later a id e none) way

below-to : (rs : List BuiltActor) (id top : ℤ) → climbs rs id top ≡ true → IsBelow (reverse rs) id top
below-to [] id top e = cc
below-to (a ∷ rs) id top e = subst (λ (xs : List BuiltActor). IsBelow xs id top) (sym (reverse-append (a ∷ []) rs)) (by (int_eq a.id id) refl e (below-to rs id top) (below-to rs a.manager top))
  where
    by : (b : Bool) → int_eq a.id id ≡ b → (if b then (int_eq a.manager top || climbs rs a.manager top) else climbs rs id top) ≡ true → (climbs rs id top ≡ true → IsBelow (reverse rs) id top) → (climbs rs a.manager top ≡ true → IsBelow (reverse rs) a.manager top)
        → IsBelow (reverse rs ++ a ∷ []) id top
    by true is f skip up = (
        elim (or_cases (int_eq a.manager top) (climbs rs a.manager top) f) [
          | inl m ↦ under (reverse rs ++ a ∷ []) (reverse rs) [] a id top refl ((Decides-int_eq a.id id).0 is) refl ((Decides-int_eq a.manager top).0 m)
          | inr c ↦ further (reverse rs ++ a ∷ []) (reverse rs) [] a id top refl ((Decides-int_eq a.id id).0 is) refl (up c)
        ])
    by false is f skip up = extend (reverse rs) a id top is (skip f)

any-reverse : {A : Type 0} (p : A → Bool) (xs : List A) → list_any p (reverse xs) ≡ list_any p xs
any-reverse p [] = refl
any-reverse p (x ∷ xs) = ap (list_any p) (reverse-append (x ∷ []) xs) ∙ any-add p (reverse xs) x ∙ ap (λ (b : Bool). if p x then true else b) (any-reverse p xs) ∙ by (p x)
  where
    by : (b : Bool) → (if b then true else list_any p xs) ≡ (b || list_any p xs)
    by true = refl
    by false = refl

skips : (ls rs : List BuiltActor) (id top : ℤ) → was_built ls id ≡ false → climbs (ls ++ rs) id top ≡ climbs rs id top
skips [] rs id top e = refl
skips (x ∷ ls) rs id top e = by (int_eq x.id id) e (skips ls rs id top)
  where
    by : (b : Bool) → (b || was_built ls id) ≡ false → (was_built ls id ≡ false → climbs (ls ++ rs) id top ≡ climbs rs id top) → (if b then (int_eq x.manager top || climbs (ls ++ rs) x.manager top) else climbs (ls ++ rs) id top) ≡ climbs rs id top
    by true f more = cc
    by false f more = more f

turned : (actors earlier later : List BuiltActor) (a : BuiltActor) (id top : ℤ) → actors ≡ earlier ++ a ∷ later → a.id ≡ id → was_built later id ≡ false → climbs (reverse actors) id top ≡ (int_eq a.manager top || climbs (reverse earlier) a.manager top)
turned actors earlier later a id top split same none =
    ap (λ (xs : List BuiltActor). climbs xs id top) (ap reverse split ∙ reverse-append earlier (a ∷ later) ∙ ap (λ (xs : List BuiltActor). xs ++ reverse earlier) (reverse-append (a ∷ []) later) ∙ append_assoc (reverse later) (a ∷ []) (reverse earlier))
    ∙ skips (reverse later) (a ∷ reverse earlier) id top (any-reverse (λ (x : BuiltActor). int_eq x.id id) later ∙ none)
    ∙ ap (λ (b : Bool). if b then (int_eq a.manager top || climbs (reverse earlier) a.manager top) else climbs (reverse earlier) id top) ((Decides-int_eq a.id id).1 same)

or-true : (b c : Bool) → c ≡ true → (b || c) ≡ true
or-true true c e = refl
or-true false c e = e

below-from : (xs : List BuiltActor) (i t : ℤ) → IsBelow xs i t → climbs (reverse xs) i t ≡ true
below-from xs i t (under actors earlier later a id top split same none managed) =
    turned actors earlier later a id top split same none ∙ ap (λ (b : Bool). b || climbs (reverse earlier) a.manager top) ((Decides-int_eq a.manager top).1 managed)
below-from xs i t (further actors earlier later a id top split same none way) =
    turned actors earlier later a id top split same none ∙ or-true (int_eq a.manager top) (climbs (reverse earlier) a.manager top) (below-from earlier a.manager top way)

pub below : (actors : List BuiltActor) (id top : ℤ) → Decides (is_below actors id top) (IsBelow actors id top)
below actors id top = (λ e. subst (λ (xs : List BuiltActor). IsBelow xs id top) (reverse-reverse actors) (below-to (reverse actors) id top e), below-from actors id top)
