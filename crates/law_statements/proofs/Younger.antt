-- The test of places decides which of two actors that were built is younger.
use Rattle.std.proofs.Common.{◌≡◌, ℕ, ◌+◌, ◌<◌, nat_lt, ℤ, pos, Bool, true, false, not, ◌||◌, cond, List, [], ◌∷◌, ◌++◌, find, length, unwrap_or, Option, Some, None, option_map, refl, sym, ap, subst, ◌∙◌, append_assoc, arith}
use Rattle.std.specs.List.{list_any, prefix_len}
use Rattle.std.specs.Ordering.{int_eq}
use Rattle.std.proofs.lemmas.Bool.{and_parts, and_from, lt-ltb, ltb-true, or_parts}
use Rattle.std.proofs.lemmas.Bool.Decides.{Decides-int_eq}
use Rattle.std.proofs.lemmas.List.{append-nil, length-append}
use Rattle.ipdl_base.specs.declared.line.What.{What}
use Rattle.history_reading.specs.declared.parts.ActorPlace.{ActorPlace}
use Rattle.history_reading.specs.declared.parts.BuiltActor.{BuiltActor}
use Rattle.history_reading.specs.EndReading.{was_built}
use Rattle.history_reading.specs.Fallen.{is_younger}
use Rattle.history_reading.specs.Reading.{actor_place}
use Rattle.law_statements.specs.Actors.{built, built_at}
use Rattle.law_statements.specs.Fallen.{IsYounger}
use Rattle.law_statements.proofs.Fields.{built-add}
use Rattle.law_statements.proofs.Lists.{add}

-- The first element that passes

abbrev first_place : {A : Type 0} → (A → Bool) → List A → ℕ
first_place p xs = prefix_len (λ x. not (p x)) xs

place-first : {A : Type 0} (p : A → Bool) (earlier later : List A) (a : A) → list_any p earlier ≡ false → p a ≡ true → first_place p (earlier ++ a ∷ later) ≡ length earlier
place-first p [] later a none is = ap (λ (b : Bool). cond (not b) (1 + first_place p later) 0) is
place-first p (x ∷ xs) later a none is =
    let more : first_place p (xs ++ a ∷ later) ≡ length xs = place-first p xs later a (or_parts (p x) (list_any p xs) none).1 is in
    let one : 1 + first_place p (xs ++ a ∷ later) ≡ length (x ∷ xs) = omega (arith, more) in
    ap (λ (b : Bool). cond (not b) (1 + first_place p (xs ++ a ∷ later)) 0) (or_parts (p x) (list_any p xs) none).0 ∙ one

find-first : {A : Type 0} (p : A → Bool) (earlier later : List A) (a : A) → list_any p earlier ≡ false → p a ≡ true → find p (earlier ++ a ∷ later) ≡ Some a
find-first p [] later a none is = ap (λ (b : Bool). cond b (Some a) (find p later)) is
find-first p (x ∷ xs) later a none is =
    ap (λ (b : Bool). cond b (Some x) (find p (xs ++ a ∷ later))) (or_parts (p x) (list_any p xs) none).0 ∙ find-first p xs later a (or_parts (p x) (list_any p xs) none).1 is

record First {A : Type 0} (p : A → Bool) (xs : List A) : Type 0 where
  earlier : List A
  here : A
  later : List A
  split : xs ≡ earlier ++ here ∷ later
  none : list_any p earlier ≡ false
  is : p here ≡ true

split-first : {A : Type 0} (p : A → Bool) (xs : List A) → list_any p xs ≡ true → First p xs
split-first p [] e = cc
split-first {A} p (x ∷ xs) e = by (p x) refl e (split-first p xs)
  where
    by : (b : Bool) → p x ≡ b → (b || list_any p xs) ≡ true → (list_any p xs ≡ true → First p xs) → First p (x ∷ xs)
    by true is f more = record { earlier = []; here = x; later = xs; split = refl; none = refl; is = is }
    by false is f more =
        let one : First p xs = more f in
        record { earlier = x ∷ one.earlier; here = one.here; later = one.later; split = ap (λ (ys : List A). x ∷ ys) one.split; none = ap (λ (b : Bool). b || list_any p one.earlier) is ∙ one.none; is = one.is }

-- of two splits of a list, the one with the shorter beginning has its place within the beginning of the other
following-shorter : {A : Type 0} (xs ys xs' ys' : List A) (x y : A) → xs ++ x ∷ xs' ≡ ys ++ y ∷ ys' → length xs < length ys → (between : List A) × (ys ≡ xs ++ x ∷ between)
following-shorter xs [] xs' ys' x y e lt = absurd (omega (arith, lt))
following-shorter [] (b ∷ ys) xs' ys' x y e lt = (ys, ap (λ (z : _). z ∷ ys) cc)
following-shorter (a ∷ xs) (b ∷ ys) xs' ys' x y e lt =
    let less : length xs < length ys = omega (arith, lt) in
    let more : (between : List _) × (ys ≡ xs ++ x ∷ between) = following-shorter xs ys xs' ys' x y (cc) less in
    let same : b ≡ a = cc in
    (more.0, ap (λ (z : _). z ∷ ys) same ∙ ap (λ (zs : List _). a ∷ zs) more.1)

-- The place of an actor

place-at : (actors earlier later : List BuiltActor) (a : BuiltActor) (id : ℤ) → actors ≡ earlier ++ a ∷ later → was_built earlier id ≡ false → a.id ≡ id → actor_place actors id ≡ record { place = length earlier; manager = a.manager }
unfolding actor_place
place-at actors earlier later a id split none same =
    ap (λ (xs : List BuiltActor). actor_place xs id) split
    ∙ ap (λ (n : ℕ). record { place = unwrap_or (cond (nat_lt n (length (earlier ++ a ∷ later))) (Some n) None) (length (earlier ++ a ∷ later)); manager = unwrap_or (option_map (λ (x : BuiltActor). x.manager) (find is_it (earlier ++ a ∷ later))) (pos 0) })
    (place-first is_it earlier later a none is)
    ∙ ap (λ (b : Bool). record { place = unwrap_or (cond b (Some (length earlier)) None) (length (earlier ++ a ∷ later)); manager = unwrap_or (option_map (λ (x : BuiltActor). x.manager) (find is_it (earlier ++ a ∷ later))) (pos 0) })
    (lt-ltb (length earlier) (length (earlier ++ a ∷ later)) (let n : length (earlier ++ a ∷ later) ≡ length earlier + length (a ∷ later) = length-append earlier (a ∷ later) in omega (arith, n)))
    ∙ ap (λ (o : Option BuiltActor). record { place = length earlier; manager = unwrap_or (option_map (λ (x : BuiltActor). x.manager) o) (pos 0) }) (find-first is_it earlier later a none is)
  where
    is_it : BuiltActor → Bool
    is_it x = int_eq x.id id

    is : int_eq a.id id ≡ true
    is = (Decides-int_eq a.id id).1 same

-- an actor keeps the place where it was built
pub place-stays : (actors more : List BuiltActor) (id : ℤ) → was_built actors id ≡ true → actor_place (actors ++ more) id ≡ actor_place actors id
place-stays actors more id e =
    let f : First (λ (x : BuiltActor). int_eq x.id id) actors = split-first (λ (x : BuiltActor). int_eq x.id id) actors e in
    let same : f.here.id ≡ id = (Decides-int_eq f.here.id id).0 f.is in
    place-at (actors ++ more) f.earlier (f.later ++ more) f.here id (ap (λ (xs : List BuiltActor). xs ++ more) f.split ∙ append_assoc f.earlier (f.here ∷ f.later) more) f.none same
    ∙ sym (place-at actors f.earlier f.later f.here id f.split f.none same)

added : {A : Type 0} (xs : List A) (o : Option A) → (more : List A) × (add xs o ≡ xs ++ more)
added xs None = ([], sym (append-nil xs))
added xs (Some x) = (x ∷ [], refl)

-- what was built stays, whatever is printed next
pub built-grows : (said next : List What) → (more : List BuiltActor) × (built (said ++ next) ≡ built said ++ more)
built-grows said [] = ([], ap built (append-nil said) ∙ sym (append-nil (built said)))
built-grows said (w ∷ next) =
    let one : (more : List BuiltActor) × (add (built said) (built_at said w) ≡ built said ++ more) = added (built said) (built_at said w) in
    let rest : (more : List BuiltActor) × (built ((said ++ w ∷ []) ++ next) ≡ built (said ++ w ∷ []) ++ more) = built-grows (said ++ w ∷ []) next in
    (one.0 ++ rest.0, ap built (sym (append_assoc said (w ∷ []) next)) ∙ rest.1 ∙ ap (λ (xs : List BuiltActor). xs ++ rest.0) (built-add said w ∙ one.1) ∙ append_assoc (built said) one.0 rest.0)

-- From the test to the split, and back

pub younger-to : (actors : List BuiltActor) (young old : ℤ) → was_built actors young ≡ true → was_built actors old ≡ true → is_younger (actor_place actors old) (actor_place actors young) ≡ true → IsYounger actors young old
younger-to actors young old y o e =
    let f : First (λ (x : BuiltActor). int_eq x.id old) actors = split-first (λ (x : BuiltActor). int_eq x.id old) actors o in
    let g : First (λ (x : BuiltActor). int_eq x.id young) actors = split-first (λ (x : BuiltActor). int_eq x.id young) actors y in
    let is_old : f.here.id ≡ old = (Decides-int_eq f.here.id old).0 f.is in
    let is_young : g.here.id ≡ young = (Decides-int_eq g.here.id young).0 g.is in
    let test : (int_eq g.here.manager f.here.manager ≡ true) × (nat_lt (length f.earlier) (length g.earlier) ≡ true) = and_parts (int_eq g.here.manager f.here.manager) (nat_lt (length f.earlier) (length g.earlier))
    (ap (λ (p : ActorPlace). is_younger p (record { place = length g.earlier; manager = g.here.manager })) (sym (place-at actors f.earlier f.later f.here old f.split f.none is_old))
    ∙ ap (is_younger (actor_place actors old)) (sym (place-at actors g.earlier g.later g.here young g.split g.none is_young)) ∙ e) in
    let apart : (between : List BuiltActor) × (g.earlier ≡ f.earlier ++ f.here ∷ between) =
    following-shorter f.earlier g.earlier f.later g.later f.here g.here (sym f.split ∙ g.split) (ltb-true (length f.earlier) (length g.earlier) test.1) in
    record {
      earlier = f.earlier;
      older = f.here;
      between = apart.0;
      younger = g.here;
      later = g.later;
      split = g.split ∙ ap (λ (xs : List BuiltActor). xs ++ g.here ∷ g.later) apart.1;
      is_old = is_old;
      is_first_old = f.none;
      is_young = is_young;
      is_first_young = subst (λ (xs : List BuiltActor). was_built xs young ≡ false) apart.1 g.none;
      one_manager = (Decides-int_eq g.here.manager f.here.manager).0 test.0;
    }

pub younger-from : (actors : List BuiltActor) (young old : ℤ) → IsYounger actors young old → is_younger (actor_place actors old) (actor_place actors young) ≡ true
younger-from actors young old y =
    ap (λ (p : ActorPlace). is_younger p (actor_place actors young)) (place-at actors y.earlier (y.between ++ y.younger ∷ y.later) y.older old (y.split ∙ append_assoc y.earlier (y.older ∷ y.between) (y.younger ∷ y.later)) y.is_first_old y.is_old)
    ∙ ap (is_younger (record { place = length y.earlier; manager = y.older.manager }))
    (place-at actors (y.earlier ++ y.older ∷ y.between) y.later y.younger young y.split y.is_first_young y.is_young)
    ∙ and_from (int_eq y.younger.manager y.older.manager) (nat_lt (length y.earlier) (length (y.earlier ++ y.older ∷ y.between))) ((Decides-int_eq y.younger.manager y.older.manager).1 y.one_manager)
    (lt-ltb (length y.earlier) (length (y.earlier ++ y.older ∷ y.between)) (let n : length (y.earlier ++ y.older ∷ y.between) ≡ length y.earlier + length (y.older ∷ y.between) = length-append y.earlier (y.older ∷ y.between) in omega (arith, n)))
