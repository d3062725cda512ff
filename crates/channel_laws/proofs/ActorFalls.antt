-- The lines by which actors fall obey the law of falls, whatever the end has received.
use Rattle.std.proofs.Common.{◌≡◌, ◌≢◌, inl, inr, ℕ, ◌+◌, ◌≤◌, nat_lt, ℤ, pos, Bool, true, false, not, ◌&&◌, ◌||◌, cond, if◌then◌else◌, int_eq, List, [], ◌∷◌, ◌++◌, find, length, map, reverse, unwrap_or, Option, Some, None, option_map, refl, sym, ap, subst, ◌∙◌, append_assoc, arith}
use Rattle.std.specs.List.{AllByRecursion, list_any, flat_map, position_or_len}
use Rattle.std.proofs.lemmas.Bool.{cases_Bool, le-ltb, ltb-false}
use Rattle.std.proofs.lemmas.List.{append-nil, map-append, reverse-append}
use Rattle.std.proofs.lemmas.List.Elements.{filter-append}
use Rattle.std.proofs.lemmas.List.Sums.{prefix_len-le-length}
use Rattle.actor_tree.specs.declared.actor.Actor.{Actor}
use Rattle.actor_tree.specs.Fall.{post_order, others}
use Rattle.actor_tree.specs.Laws.{EachOnce}
use Rattle.actor_tree.specs.Tree.{lives, IsTree}
use Rattle.actor_tree.proofs.Ids.{same, other, same_or_other, lives-true, lives-false, has, has_not, Has}
use Rattle.actor_tree.proofs.Order.{falls_once}
use Rattle.ipdl_base.specs.declared.kinds.Destroy.{Destroy}
use Rattle.ipdl_base.specs.declared.kinds.Destroy.TheVariants as destroy
use Rattle.ipdl_base.specs.declared.kinds.Reason.TheVariants as reason
use Rattle.ipdl_base.specs.declared.line.What.{What}
use Rattle.ipdl_base.specs.declared.line.What.TheVariants as what
use Rattle.ipdl_base.specs.declared.schema.Schema.{Schema}
use Rattle.history_reading.specs.declared.parts.ActorPlace.{ActorPlace}
use Rattle.history_reading.specs.declared.parts.BuiltActor.{BuiltActor}
use Rattle.history_reading.specs.declared.parts.Cause.{Cause}
use Rattle.history_reading.specs.declared.parts.Cause.TheVariants as cause
use Rattle.history_reading.specs.EndReading.{EndReading, was_built}
use Rattle.history_reading.specs.Fallen.{fallen_line, may_fall, is_next, lets_fall, is_deleted, is_younger, younger_fell_of, manages_living_of, climbs}
use Rattle.history_reading.specs.Numbers.{has as has_number}
use Rattle.history_reading.specs.Reading.{actor_place, manager_of, after_what}
use Rattle.promise_table.specs.Promises.{is_pending_of}
use Rattle.channel_model.specs.Ends.{PromiseEntry}
use Rattle.channel_model.specs.Falls as fall
use Rattle.channel_laws.specs.EndActors.{ActorReading, actor_reading, shown_actor, is_standing, standing}
use Rattle.channel_laws.specs.Notes.{In, here, there}
use Rattle.channel_laws.specs.Tested.{after_whats, EndLinesPass}
use Rattle.channel_laws.proofs.ActorLines.{SaysNoActor, no_actor-read, no_actor-rejections, no_actor-pass}
use Rattle.channel_laws.proofs.FallOrder.{precedes, precedes-past, in-right, in-order, has-in, managed-fell, older-fell, same-actor, falls-below}
use Rattle.channel_laws.proofs.Growing.{whats-append}
use Rattle.channel_laws.proofs.Standing.{ids_in, standing-falls, lives-read, alive-unfallen, under-standing}
use Rattle.channel_laws.proofs.Testing.{tested-append}

-- Places

abbrev place_in : List BuiltActor → ℤ → ℕ
place_in built id = position_or_len (λ (a : BuiltActor). int_eq a.id id) built

position-is : (n l : ℕ) → n ≤ l → unwrap_or (cond (nat_lt n l) (Some n) None) l ≡ n
position-is n l h = elim (cases_Bool (nat_lt n l)) [
  | inl t ↦ ap (λ (b : Bool). unwrap_or (cond b (Some n) None) l) t
  | inr f ↦ ap (λ (b : Bool). unwrap_or (cond b (Some n) None) l) f ∙ (let k : l ≤ n = ltb-false n l f in omega arith)
]

place-is : (built : List BuiltActor) (id : ℤ) → (actor_place built id).place ≡ place_in built id
unfolding actor_place
place-is built id = position-is (place_in built id) (length built) (prefix_len-le-length (λ (a : BuiltActor). not (int_eq a.id id)) built)

manager-is : (built : List BuiltActor) (id : ℤ) → (actor_place built id).manager ≡ manager_of built id
unfolding actor_place
manager-is built id = refl

abbrev built_ids_in : List BuiltActor → List ℤ
built_ids_in built = map (λ (a : BuiltActor). a.id) built

-- an element that is before another has no later place
places-in-order : (built : List BuiltActor) (b a : ℤ) → precedes (built_ids_in built) b a ≡ true → place_in built b ≤ place_in built a
places-in-order [] b a e = cc
places-in-order (x ∷ xs) b a e = by (int_eq x.id b) (int_eq x.id a) (places-in-order xs b a) e
  where
    by : (c d : Bool) → (precedes (built_ids_in xs) b a ≡ true → place_in xs b ≤ place_in xs a) → (if c then true else (if d then false else precedes (built_ids_in xs) b a)) ≡ true → cond (not c) (1 + place_in xs b) 0 ≤ cond (not d) (1 + place_in xs a) 0
    by true d rec e = omega arith
    by false true rec e = cc
    by false false rec e = let k : place_in xs b ≤ place_in xs a = rec e in omega arith

-- among the actors that have not fallen, if one is before another, it was built before it
standing-precedes : (f : List ℤ) (built : List BuiltActor) (b a : ℤ) → has_number f b ≡ false → has_number f a ≡ false → precedes (built_ids_in (standing f built)) b a ≡ true → precedes (built_ids_in built) b a ≡ true
standing-precedes f [] b a nb na e = e
standing-precedes f (x ∷ xs) b a nb na e = by (has_number f x.id) refl (standing-precedes f xs b a nb na) e
  where
    differs : (i : ℤ) → has_number f x.id ≡ true → has_number f i ≡ false → x.id ≢ i
    differs i fell not_fell s = let k : true ≡ false = sym fell ∙ (ap (has_number f) s ∙ not_fell) in cc

    by : (c : Bool) → has_number f x.id ≡ c → (precedes (built_ids_in (standing f xs)) b a ≡ true → precedes (built_ids_in xs) b a ≡ true) → precedes (built_ids_in (cond (not c) (x ∷ standing f xs) (standing f xs))) b a ≡ true → precedes (x.id ∷ built_ids_in xs) b a ≡ true
    by true is rec e = precedes-past x.id b a (built_ids_in xs) (differs b is nb) (differs a is na) (rec e)
    by false is rec e = head (int_eq x.id b) (int_eq x.id a) e
      where
        head : (c d : Bool) → (if c then true else (if d then false else precedes (built_ids_in (standing f xs)) b a)) ≡ true → (if c then true else (if d then false else precedes (built_ids_in xs) b a)) ≡ true
        head true d e = refl
        head false true e = e
        head false false e = rec e

shown-ids : (actors : List Actor) → built_ids_in (map shown_actor actors) ≡ ids_in actors
shown-ids [] = refl
shown-ids (x ∷ xs) = ap (λ (l : List ℤ). x.id ∷ l) (shown-ids xs)

-- Managers

find-standing : (f : List ℤ) (built : List BuiltActor) (id : ℤ) → has_number f id ≡ false → find (λ (a : BuiltActor). int_eq a.id id) (standing f built) ≡ find (λ (a : BuiltActor). int_eq a.id id) built
find-standing f [] id dead = refl
find-standing f (x ∷ xs) id dead = by (has_number f x.id) refl (find-standing f xs id dead)
  where
    by : (c : Bool) → has_number f x.id ≡ c → find (λ (a : BuiltActor). int_eq a.id id) (standing f xs) ≡ find (λ (a : BuiltActor). int_eq a.id id) xs
        → find (λ (a : BuiltActor). int_eq a.id id) (cond (not c) (x ∷ standing f xs) (standing f xs)) ≡ cond (int_eq x.id id) (Some x) (find (λ (a : BuiltActor). int_eq a.id id) xs)
    by true is rec = rec ∙ sym (ap (λ (t : Bool). cond t (Some x) (find (λ (a : BuiltActor). int_eq a.id id) xs)) (other x.id id (λ s. let k : true ≡ false = sym is ∙ (ap (has_number f) s ∙ dead) in cc)))
    by false is rec = ap (λ (o : Option BuiltActor). cond (int_eq x.id id) (Some x) o) rec

find-shown : (xs : List Actor) (a : Actor) → In a xs → ((y : Actor) → In y xs → y.id ≡ a.id → y ≡ a) → find (λ (b : BuiltActor). int_eq b.id a.id) (map shown_actor xs) ≡ Some (shown_actor a)
find-shown [] a i one = elim i [ ]
find-shown (x ∷ xs) a i one = elim (same_or_other x.id a.id) [
  | inl s ↦ ap (λ (t : Bool). cond t (Some (shown_actor x)) (find (λ (b : BuiltActor). int_eq b.id a.id) (map shown_actor xs))) (same x.id a.id s) ∙ ap (λ (z : Actor). Some (shown_actor z)) (one x here s)
  | inr n ↦ ap (λ (t : Bool). cond t (Some (shown_actor x)) (find (λ (b : BuiltActor). int_eq b.id a.id) (map shown_actor xs))) (other x.id a.id n) ∙ find-shown xs a (tail xs x a i n) (λ y j s. one y (there j) s)
]
  where
    tail : (xs : List Actor) (x a : Actor) → In a (x ∷ xs) → x.id ≢ a.id → In a xs
    tail xs x a here n = absurd (n refl)
    tail xs x a (there j) n = j

manager-read : (built : List BuiltActor) (fallen : List ℤ) (actors : List Actor) (a : Actor) → standing fallen built ≡ map shown_actor actors → IsTree actors → In a actors → manager_of built a.id ≡ a.manager
manager-read built fallen actors a k tree i =
    ap (λ (o : Option BuiltActor). unwrap_or (option_map (λ (b : BuiltActor). b.manager) o) (pos 0))
    (sym (find-standing fallen built a.id (alive-unfallen built fallen actors a.id k (lives-true a.id actors (has-in actors a i))))
    ∙ (ap (find (λ (b : BuiltActor). int_eq b.id a.id)) k ∙ find-shown actors a i (λ y j s. same-actor actors y a tree j i s)))

-- Tests of an actor that falls

-- all that the law requires of an actor that falls
pub record MayFall (built : List BuiltActor) (fallen : List ℤ) (falls : List ActorPlace) (why : Cause) (id : ℤ) (reason : Destroy) : Type 0 where
  pub alive : was_built built id && not (has_number fallen id) ≡ true
  pub alone : manages_living_of fallen built id ≡ false
  pub oldest : younger_fell_of falls (actor_place built id) ≡ false
  pub allowed : lets_fall built why id reason ≡ true

four : (a b c d : Bool) → a ≡ true → b ≡ false → c ≡ false → d ≡ true → a && ((not b && not c) && d) ≡ true
four true false false true e f g h = refl
four true false false false e f g h = h
four true false true d e f g h = cc
four true true c d e f g h = cc
four false b c d e f g h = e

may_fall-is : (own : EndReading) (id : ℤ) (reason : Destroy) → MayFall own.built own.fallen own.falls own.cause id reason → may_fall own id reason ≡ true
unfolding is_next
may_fall-is own id reason m = four (was_built own.built id && not (has_number own.fallen id)) (manages_living_of own.fallen own.built id) (younger_fell_of own.falls (actor_place own.built id)) (lets_fall own.built own.cause id reason) m.alive m.alone m.oldest m.allowed

abbrev pub places_of : List BuiltActor → List Actor → List ActorPlace
places_of built xs = map (λ (a : Actor). actor_place built a.id) xs

any-none : {A : Type 0} (test : A → Bool) (xs : List A) → AllByRecursion (λ x. test x ≡ false) xs → list_any test xs ≡ false
any-none test [] h = refl
any-none test (x ∷ xs) h = ap (λ (b : Bool). b || list_any test xs) h.0 ∙ any-none test xs h.1

others-lives : (id : ℤ) (front xs : List Actor) → lives id xs ≡ true → lives id front ≡ false → lives id (others front xs) ≡ true
others-lives id front xs alive gone = lives-true id (others front xs) (by xs (has id xs alive))
  where
    by : (xs : List Actor) → Has id xs → Has id (others front xs)
    by [] h = h
    by (x ∷ xs) (inl e) = subst (λ (b : Bool). Has id (cond (not b) (x ∷ others front xs) (others front xs))) (sym (ap (λ (i : ℤ). lives i front) e ∙ gone)) (inl e)
    by (x ∷ xs) (inr h) = keeps (lives x.id front) (by xs h)
      where
        keeps : (b : Bool) → Has id (others front xs) → Has id (cond (not b) (x ∷ others front xs) (others front xs))
        keeps true k = k
        keeps false k = inr k

others-alone : (front xs : List Actor) (m : ℤ) → ((x : Actor) → In x xs → x.manager ≡ m → lives x.id front ≡ true) → list_any (λ (a : BuiltActor). int_eq a.manager m) (map shown_actor (others front xs)) ≡ false
others-alone front [] m h = refl
others-alone front (x ∷ xs) m h = by (lives x.id front) refl (others-alone front xs m (λ y i e. h y (there i) e))
  where
    by : (b : Bool) → lives x.id front ≡ b → list_any (λ (a : BuiltActor). int_eq a.manager m) (map shown_actor (others front xs)) ≡ false → list_any (λ (a : BuiltActor). int_eq a.manager m) (map shown_actor (cond (not b) (x ∷ others front xs) (others front xs))) ≡ false
    by true is rec = rec
    by false is rec = elim (same_or_other x.manager m) [
      | inl e ↦ (let k : true ≡ false = sym (h x here e) ∙ is in cc)
      | inr n ↦ ap (λ (t : Bool). t || list_any (λ (a : BuiltActor). int_eq a.manager m) (map shown_actor (others front xs))) (other x.manager m n) ∙ rec
    ]

once-before : (front : List Actor) (a : Actor) (back : List Actor) → EachOnce (front ++ a ∷ back) → lives a.id front ≡ false
once-before [] a back o = refl
once-before (x ∷ front) a back o = lives-false a.id (x ∷ front) (λ k. elim k [
  | inl e ↦ has_not x.id (front ++ a ∷ back) o.0 (has-there front e)
  | inr h ↦ has_not a.id front (once-before front a back o.1) h
])
  where
    has-there : (xs : List Actor) → x.id ≡ a.id → Has x.id (xs ++ a ∷ back)
    has-there [] e = inl (sym e)
    has-there (y ∷ xs) e = inr (has-there xs e)

-- In the fall of a subtree each actor falls, after those before it, as the law requires.
module _ (built : List BuiltActor) (fallen : List ℤ) (actors : List Actor) (shows : standing fallen built ≡ map shown_actor actors) (tree : IsTree actors) (zero : lives (pos 0) actors ≡ false) (root : ℤ) where
  falls-alive : (front : List Actor) (a : Actor) (back : List Actor) → post_order root actors ≡ front ++ a ∷ back → In a actors
  falls-alive front a back order = in-order root actors a (subst (In a) (sym order) (in-right front (a ∷ back) a here))

  oldest-one : (front : List Actor) (a : Actor) (back : List Actor) (b : Actor) → post_order root actors ≡ front ++ a ∷ back → In b front → In b actors → is_younger (actor_place built a.id) (actor_place built b.id) ≡ false
  oldest-one front a back b order i lived = elim (same_or_other (actor_place built b.id).manager (actor_place built a.id).manager) [
    | inl s ↦ (
        let in_a : In a actors = falls-alive front a back order in
        let managers : b.manager ≡ a.manager = sym (manager-is built b.id ∙ manager-read built fallen actors b shows tree lived) ∙ (s ∙ (manager-is built a.id ∙ manager-read built fallen actors a shows tree in_a)) in
        let before : precedes (built_ids_in (standing fallen built)) b.id a.id ≡ true = subst (λ (l : List ℤ). precedes l b.id a.id ≡ true) (sym (ap built_ids_in shows ∙ shown-ids actors)) (older-fell root actors front a back b tree zero order i managers) in
        let dead : (x : Actor) → In x actors → has_number fallen x.id ≡ false = λ x j. alive-unfallen built fallen actors x.id shows (lives-true x.id actors (has-in actors x j)) in
        let le : place_in built b.id ≤ place_in built a.id = places-in-order built b.id a.id (standing-precedes fallen built b.id a.id (dead b lived) (dead a in_a) before) in
        let later : nat_lt (actor_place built a.id).place (actor_place built b.id).place ≡ false =
        ap (λ (n : ℕ). nat_lt n (actor_place built b.id).place) (place-is built a.id) ∙ (ap (λ (n : ℕ). nat_lt (place_in built a.id) n) (place-is built b.id) ∙ le-ltb (place_in built a.id) (place_in built b.id) le) in
        and-none (int_eq (actor_place built b.id).manager (actor_place built a.id).manager) (nat_lt (actor_place built a.id).place (actor_place built b.id).place) later)
    | inr n ↦ ap (λ (t : Bool). t && nat_lt (actor_place built a.id).place (actor_place built b.id).place) (other (actor_place built b.id).manager (actor_place built a.id).manager n)
  ]
    where
      and-none : (x y : Bool) → y ≡ false → x && y ≡ false
      and-none true y e = e
      and-none false y e = refl

  oldest-all : (front : List Actor) (a : Actor) (back some : List Actor) → post_order root actors ≡ front ++ a ∷ back → ((x : Actor) → In x some → In x front × In x actors) → AllByRecursion (λ (p : ActorPlace). is_younger (actor_place built a.id) p ≡ false) (places_of built some)
  oldest-all front a back [] order all = tt
  oldest-all front a back (b ∷ some) order all = (oldest-one front a back b order (all b here).0 (all b here).1, oldest-all front a back some order (λ x i. all x (there i)))

  pub one-may_fall : (why : Cause) (reason : Destroy) (front : List Actor) (a : Actor) (back : List Actor) → post_order root actors ≡ front ++ a ∷ back → lets_fall built why a.id reason ≡ true
      → MayFall built (fallen ++ ids_in front) (places_of built front) why a.id reason
  one-may_fall why reason front a back order allowed =
      let in_a : In a actors = falls-alive front a back order in
      let alive : lives a.id actors ≡ true = lives-true a.id actors (has-in actors a in_a) in
      let gone : standing (fallen ++ ids_in front) built ≡ map shown_actor (others front actors) = standing-falls built fallen front actors shows in
      let still : lives a.id front ≡ false = once-before front a back (subst EachOnce order (falls_once root actors tree)) in
      record {
        alive = lives-read built (fallen ++ ids_in front) (others front actors) a.id gone ∙ others-lives a.id front actors alive still;
        alone = under-standing (fallen ++ ids_in front) a.id built ∙ (ap (list_any (λ (b : BuiltActor). int_eq b.manager a.id)) gone
            ∙ others-alone front actors a.id (λ x i e. managed-fell root actors front a back x tree order (λ z. has_not (pos 0) actors zero (subst (λ (j : ℤ). Has j actors) z (has-in actors a in_a))) i e));
        oldest = any-none (is_younger (actor_place built a.id)) (places_of built front) (oldest-all front a back front order (λ x i. (i, in-order root actors x (subst (In x) (sym order) (in-front front x i)))));
        allowed = allowed;
      }
    where
      in-front : (xs : List Actor) (x : Actor) → In x xs → In x (xs ++ a ∷ back)
      in-front [] x i = elim i [ ]
      in-front (y ∷ xs) x here = here
      in-front (y ∷ xs) x (there i) = there (in-front xs x i)

-- Why they fall

climbs-dead : (f : List ℤ) (built : List BuiltActor) (id top : ℤ) → climbs (standing f built) id top ≡ true → has_number f id ≡ false
climbs-dead f [] id top e = cc
climbs-dead f (x ∷ xs) id top e = by (has_number f x.id) refl (climbs-dead f xs id top) e
  where
    by : (c : Bool) → has_number f x.id ≡ c → (climbs (standing f xs) id top ≡ true → has_number f id ≡ false) → climbs (cond (not c) (x ∷ standing f xs) (standing f xs)) id top ≡ true → has_number f id ≡ false
    by true is rec e = rec e
    by false is rec e = elim (same_or_other x.id id) [
      | inl s ↦ ap (has_number f) (sym s) ∙ is
      | inr n ↦ rec (sym (ap (λ (t : Bool). if t then (int_eq x.manager top || climbs (standing f xs) x.manager top) else climbs (standing f xs) id top) (other x.id id n)) ∙ e)
    ]

-- an actor that is below another among those that have not fallen is below it among all
standing-climbs : (f : List ℤ) (built : List BuiltActor) (id top : ℤ) → climbs (standing f built) id top ≡ true → climbs built id top ≡ true
standing-climbs f [] id top e = e
standing-climbs f (x ∷ xs) id top e = by (has_number f x.id) refl (standing-climbs f xs) e
  where
    by : (c : Bool) → has_number f x.id ≡ c → ((id top : ℤ) → climbs (standing f xs) id top ≡ true → climbs xs id top ≡ true) → climbs (cond (not c) (x ∷ standing f xs) (standing f xs)) id top ≡ true
        → (if int_eq x.id id then (int_eq x.manager top || climbs xs x.manager top) else climbs xs id top) ≡ true
    by true is rec e = ap (λ (t : Bool). if t then (int_eq x.manager top || climbs xs x.manager top) else climbs xs id top) (other x.id id (λ s. let k : true ≡ false = sym is ∙ (ap (has_number f) s ∙ climbs-dead f xs id top e) in cc)) ∙ rec id top e
    by false is rec e = head (int_eq x.id id) (int_eq x.manager top) e
      where
        head : (c d : Bool) → (if c then (d || climbs (standing f xs) x.manager top) else climbs (standing f xs) id top) ≡ true → (if c then (d || climbs xs x.manager top) else climbs xs id top) ≡ true
        head true true e = refl
        head true false e = rec x.manager top e
        head false d e = rec id top e

standing-reverse : (f : List ℤ) (built : List BuiltActor) → standing f (reverse built) ≡ reverse (standing f built)
standing-reverse f [] = refl
standing-reverse f (x ∷ xs) =
    ap (standing f) (reverse-append (x ∷ []) xs)
    ∙ (filter-append (is_standing f) (reverse xs) (x ∷ []) ∙ (ap (λ (l : List BuiltActor). l ++ cond (is_standing f x) (x ∷ []) []) (standing-reverse f xs) ∙ by (is_standing f x)))
  where
    by : (c : Bool) → reverse (standing f xs) ++ cond c (x ∷ []) [] ≡ reverse (cond c (x ∷ standing f xs) (standing f xs))
    by true = sym (reverse-append (x ∷ []) (standing f xs))
    by false = append-nil (reverse (standing f xs))

-- by a destructor its actor falls, and all that are below it
pub deleted-allowed : (built : List BuiltActor) (fallen : List ℤ) (actors : List Actor) (root : ℤ) (a : Actor) → standing fallen built ≡ map shown_actor actors → IsTree actors → lives (pos 0) actors ≡ false → In a (post_order root actors)
    → lets_fall built (cause.Delete root) a.id (fall.why_deleted root a.id) ≡ true
unfolding lets_fall
deleted-allowed built fallen actors root a shows tree zero i = elim (same_or_other a.id root) [
  | inl s ↦ ap (λ (t : Bool). is_deleted built root a.id (if t then destroy.Deletion else destroy.AncestorDeletion)) (same a.id root s) ∙ same a.id root s
  | inr n ↦ ap (λ (t : Bool). is_deleted built root a.id (if t then destroy.Deletion else destroy.AncestorDeletion)) (other a.id root n)
      ∙ standing-climbs fallen (reverse built) a.id root (subst (λ (l : List BuiltActor). climbs l a.id root ≡ true) (sym (standing-reverse fallen built ∙ ap reverse shows)) (falls-below root actors tree zero a (in-order root actors a i) i n))
]

pub closing-allowed : (built : List BuiltActor) (reason : Destroy) (id : ℤ) → lets_fall built (cause.Closing reason) id reason ≡ true
unfolding lets_fall
closing-allowed built destroy.Deletion id = refl
closing-allowed built destroy.AncestorDeletion id = refl
closing-allowed built destroy.NormalShutdown id = refl
closing-allowed built destroy.AbnormalShutdown id = refl

-- The lines of a subtree that falls

-- what is read after the fall of some actors
abbrev pub fallen_reading : ActorReading → List Actor → ActorReading
fallen_reading read front = record read { fallen = read.fallen ++ ids_in front; falls = read.falls ++ places_of read.built front }

pub none-fallen : (read : ActorReading) → fallen_reading read [] ≡ read
none-fallen read = ap (λ (f : List ℤ). record read { fallen = f; falls = read.falls ++ [] }) (append-nil read.fallen) ∙ ap (λ (f : List ActorPlace). record read { falls = f }) (append-nil read.falls)

more-fallen : (read : ActorReading) (xs ys : List Actor) → fallen_reading (fallen_reading read xs) ys ≡ fallen_reading read (xs ++ ys)
more-fallen read xs ys =
    ap (λ (f : List ℤ). record read { fallen = f; falls = (read.falls ++ places_of read.built xs) ++ places_of read.built ys }) (append_assoc read.fallen (ids_in xs) (ids_in ys) ∙ ap (λ (l : List ℤ). read.fallen ++ l) (sym (map-append (λ (a : Actor). a.id) xs ys)))
    ∙ ap (λ (f : List ActorPlace). record read { fallen = read.fallen ++ ids_in (xs ++ ys); falls = f }) (append_assoc read.falls (places_of read.built xs) (places_of read.built ys) ∙ ap (λ (l : List ActorPlace). read.falls ++ l) (sym (map-append (λ (a : Actor). actor_place read.built a.id) xs ys)))

module _ (schema : Schema) (why : ℤ → Destroy) (promises : List PromiseEntry) where
  -- the line of an actor that falls, after the lines that reject its promises
  one-read : (place : ℕ) (ws : List What) (a : Actor) (own : EndReading) → AllByRecursion SaysNoActor ws → actor_reading (after_whats schema place (ws ++ what.Fall a.id (why a.id) ∷ []) own) ≡ fallen_reading (actor_reading own) (a ∷ [])
  one-read place [] a own l = refl
  one-read place (w ∷ ws) a own l = one-read (place + 1) ws a (after_what schema place w own) l.1 ∙ ap (λ (r : ActorReading). fallen_reading r (a ∷ [])) (no_actor-read schema place (w ∷ []) own (l.0, tt))

  -- what is read after the lines of all that fall
  pub falls-read : (place : ℕ) (fs : List Actor) (own : EndReading) → actor_reading (after_whats schema place (flat_map (fall.fall_lines why promises) fs) own) ≡ fallen_reading (actor_reading own) fs
  falls-read place [] own = sym (none-fallen (actor_reading own))
  falls-read place (a ∷ fs) own =
      let next : EndReading = after_whats schema place (fall.fall_lines why promises a) own in
      let s = whats-append schema place (fall.fall_lines why promises a) (flat_map (fall.fall_lines why promises) fs) own in
      ap actor_reading s.1 ∙ (falls-read s.0 fs next
      ∙ (ap (λ (r : ActorReading). fallen_reading r fs) (one-read place (fall.rejections (is_pending_of a.id) reason.ActorDestroyed promises) a own (no_actor-rejections (is_pending_of a.id) reason.ActorDestroyed promises))
      ∙ more-fallen (actor_reading own) (a ∷ []) fs))

  -- If each may fall after those before it, all their lines pass the law.
  pub falls-pass : (start : ActorReading) (whole : List Actor) → start.falls ≡ []
      → ((front : List Actor) (a : Actor) (back : List Actor) → whole ≡ front ++ a ∷ back → MayFall start.built (start.fallen ++ ids_in front) (places_of start.built front) start.cause a.id (why a.id))
      → (place : ℕ) (front fs : List Actor) (own : EndReading) → whole ≡ front ++ fs → actor_reading own ≡ fallen_reading start front → EndLinesPass schema (λ h w. fallen_line h w ≡ true) place (flat_map (fall.fall_lines why promises) fs) own
  falls-pass start whole none may place front [] own is at = tt
  falls-pass start whole none may place front (a ∷ fs) own is at =
      let ls : List What = fall.rejections (is_pending_of a.id) reason.ActorDestroyed promises in
      let quiet : AllByRecursion SaysNoActor ls = no_actor-rejections (is_pending_of a.id) reason.ActorDestroyed promises in
      let more : List What = flat_map (fall.fall_lines why promises) fs in
      let here_reading : ActorReading = fallen_reading start front in
      tested-append schema (λ h w. fallen_line h w ≡ true) place (ls ++ what.Fall a.id (why a.id) ∷ []) more own
      (tested-append schema (λ h w. fallen_line h w ≡ true) place ls (what.Fall a.id (why a.id) ∷ []) own (no_actor-pass schema place ls own quiet)
      (λ next. (
        may_fall-is (after_whats schema place ls own) a.id (why a.id)
            (subst (λ (r : ActorReading). MayFall r.built r.fallen r.falls r.cause a.id (why a.id)) (sym (no_actor-read schema place ls own quiet ∙ at))
            (subst (λ (f : List ActorPlace). MayFall start.built (start.fallen ++ ids_in front) (f ++ places_of start.built front) start.cause a.id (why a.id)) (sym none) (may front a fs is))),
        tt,
      )))
      (λ next. falls-pass start whole none may next (front ++ a ∷ []) fs (after_whats schema place (ls ++ what.Fall a.id (why a.id) ∷ []) own) (is ∙ sym (append_assoc front (a ∷ []) fs))
      (one-read place ls a own quiet ∙ (ap (λ (r : ActorReading). fallen_reading r (a ∷ [])) at ∙ more-fallen start front (a ∷ []))))
