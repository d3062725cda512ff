-- Numbers, ids and values that fit.
use Rattle.std.proofs.Common.{◌≡◌, ◌≢◌, ℕ, T, leb, inl, inr, zero, suc, ◌+◌, ◌*◌, ◌≤◌, ℤ, pos, negsuc, ◌≤ℤ◌, Bool, true, false, not, ◌&&◌, ◌||◌, ◌==◌, cond, List, [], ◌∷◌, find, map, Option, Some, None, is_some, refl, sym, ap, subst, ◌∙◌, arith}
use Rattle.std.specs.List.{All, AllByRecursion, list_any}
use Rattle.std.specs.Option.{option_map_or}
use Rattle.std.specs.Ordering.{int_eq}
use Rattle.std.specs.Int.Signed.{le_z_yes}
use Rattle.std.proofs.lemmas.Bool.Decides.{Decides-int_eq, leb_tells}
use Rattle.std.proofs.lemmas.List.Elements.{All-nil, All-cons}
use Rattle.std.proofs.lemmas.Option.{same_Some}
use Rattle.actor_tree.specs.declared.actor.Actor.{Actor}
use Rattle.actor_tree.specs.Tree.{actor_of, lives}
use Rattle.ipdl_base.specs.declared.kinds.Side.{Side}
use Rattle.ipdl_base.specs.declared.kinds.Side.TheVariants.{Parent, Child}
use Rattle.ipdl_base.specs.declared.schema.ParamRow.{ParamRow}
use Rattle.ipdl_base.specs.declared.schema.Schema.{Schema}
use Rattle.ipdl_base.specs.declared.value.Values.{Values}
use Rattle.value_types.specs.Fits.{IsFieldNumber, IsLivingId, IsCarriedId, all_actor_ids}
use Rattle.value_types.specs.HasType.{HaveTypes}
use Rattle.channel_model.specs.Fitting.{HasLivingId}
use Rattle.channel_model.specs.Numbers.{seq_of, id_of}
use Rattle.channel_model.specs.Typed.{have_types}
use Rattle.channel_model.specs.ValueActors.{ActorValue, actors_in_parts, lives_as, is_dead, has_dead}
use Rattle.channel_model.proofs.Known.{all-map}
use Rattle.channel_model.proofs.TypedValues.{typed-ids}
use Rattle.channel_model.proofs.TypesDecided.{decides_types}

-- Numbers and ids

leb-holds : (a b : ℕ) → a ≤ b → T (leb a b)
leb-holds a b low = elim (leb_tells a b) [
  | inl h ↦ subst T (sym h.0) tt
  | inr h ↦ absurd (omega (arith, low, h.1))
]

pos-le : (a b : ℕ) → a ≤ b → pos a ≤ℤ pos b
pos-le a b low = le_z_yes (leb-holds a b low)

negsuc-le : (a b : ℕ) → b ≤ a → negsuc a ≤ℤ negsuc b
negsuc-le a b low = le_z_yes (leb-holds b a low)

pub living-carried : (id : ℤ) → IsLivingId id → IsCarriedId id
living-carried (pos n) h = (pos-le 0 n (omega arith), h.1)
living-carried (negsuc n) h = absurd h.0.le

pub null-carried : IsCarriedId (pos 0)
null-carried = (pos-le 0 0 (omega arith), pos-le 0 2147483647 (omega arith))

pub top-lives : IsLivingId (pos 2147483647)
top-lives = (pos-le 1 2147483647 (omega arith), pos-le 2147483647 2147483647 (omega arith))

pub seq-fits : (side : Side) (k : ℕ) → 1 ≤ k → k ≤ 268435456 → (seq_of side k ≢ pos 0) × IsFieldNumber (seq_of side k)
seq-fits Parent zero one few = absurd (omega arith)
seq-fits Parent (suc k) one few = ((λ e. cc), (le_z_yes tt, pos-le (suc k) 2147483647 (omega arith)))
seq-fits Child zero one few = absurd (omega arith)
seq-fits Child (suc k) one few = ((λ e. cc), (negsuc-le 2147483647 k (omega arith), le_z_yes tt))

pub id-lives : (side : Side) (k : ℕ) → 1 ≤ k → k ≤ 268435456 → IsLivingId (id_of side k)
id-lives Parent k one few = (pos-le 1 (4 * k + 2) (omega arith), pos-le (4 * k + 2) 2147483647 (omega arith))
id-lives Child k one few = (pos-le 1 (4 * k) (omega arith), pos-le (4 * k) 2147483647 (omega arith))

-- Lists

-- what holds of all elements of a list holds of the element that is found in it, and that element passes
found-one : {A : Type 0} (P : A → Type 0) (test : A → Bool) (y x : A) (rest : Option A) (b : Bool) → P y → (rest ≡ Some x → P x × (test x ≡ true)) → test y ≡ b → cond b (Some y) rest ≡ Some x → P x × (test x ≡ true)
found-one P test y x rest true h k is e = let same : y ≡ x = same_Some y x e in (subst P same h, ap test (sym same) ∙ is)
found-one P test y x rest false h k is e = k e

pub found-in : {A : Type 0} (P : A → Type 0) (test : A → Bool) (xs : List A) (x : A) → AllByRecursion P xs → find test xs ≡ Some x → P x × (test x ≡ true)
found-in P test [] x h e = cc
found-in P test (y ∷ ys) x h e = found-one P test y x (find test ys) (test y) h.0 (λ k. found-in P test ys x h.1 k) refl e

one-fails : (b c : Bool) → b || c ≡ false → (b ≡ false) × (c ≡ false)
one-fails true c e = cc
one-fails false c e = (refl, e)

none-passes : {A : Type 0} (test : A → Bool) (xs : List A) → list_any test xs ≡ false → AllByRecursion (λ x. test x ≡ false) xs
none-passes test [] e = tt
none-passes test (x ∷ xs) e = let f = one-fails (test x) (list_any test xs) e in (f.0, none-passes test xs f.1)

all-ids : (P : ℤ → Type 0) (xs : List ActorValue) → AllByRecursion (λ a. P a.id) xs → All P (map (λ (a : ActorValue). a.id) xs)
all-ids P [] h = All-nil P
all-ids P (x ∷ xs) h = All-cons P x.id (map (λ (a : ActorValue). a.id) xs) h.0 (all-ids P xs h.1)

-- Values

module _ (actors : List Actor) (living : AllByRecursion HasLivingId actors) where
  -- an actor that lives has an id that fits
  pub lives-fits : (id : ℤ) → lives id actors ≡ true → IsLivingId id
  lives-fits id e = by (actor_of id actors) refl e
    where
      by : (found : Option Actor) → actor_of id actors ≡ found → is_some found ≡ true → IsLivingId id
      by None is e = cc
      by (Some a) is e =
          let f = found-in HasLivingId (λ (a : Actor). int_eq a.id id) actors a living is in
          subst IsLivingId ((Decides-int_eq a.id id).0 f.1) f.0

  lives_as-fits : (protocol : ℕ) (id : ℤ) → lives_as actors protocol id ≡ true → IsLivingId id
  lives_as-fits protocol id e = by (actor_of id actors) refl e
    where
      by : (found : Option Actor) → actor_of id actors ≡ found → option_map_or (λ (a : Actor). a.protocol == protocol) found false ≡ true → IsLivingId id
      by None is e = cc
      by (Some a) is e =
          let f = found-in HasLivingId (λ (a : Actor). int_eq a.id id) actors a living is in
          subst IsLivingId ((Decides-int_eq a.id id).0 f.1) f.0

  -- an actor in a value that is null or lives has an id that a frame carries
  carried : (a : ActorValue) → not (int_eq a.id (pos 0)) && is_dead actors a ≡ false → IsCarriedId a.id
  carried a e = by (int_eq a.id (pos 0)) (lives_as actors a.protocol a.id) refl refl e
    where
      by : (null alive : Bool) → int_eq a.id (pos 0) ≡ null → lives_as actors a.protocol a.id ≡ alive → not null && not alive ≡ false → IsCarriedId a.id
      by true alive is lives e = subst IsCarriedId (sym ((Decides-int_eq a.id (pos 0)).0 is)) null-carried
      by false true is lives e = living-carried a.id (lives_as-fits a.protocol a.id lives)
      by false false is lives e = cc

  -- values that have their types, and no dead actor, are those of a message that fits
  pub values-carried : (schema : Schema) (fields : List ParamRow) (vs : Values) → have_types schema fields vs ≡ true → has_dead schema actors fields vs ≡ false → All IsCarriedId (all_actor_ids vs)
  values-carried schema fields vs typed alive =
      let xs : List ActorValue = actors_in_parts schema fields vs in
      let test : ActorValue → Bool = λ a. not (int_eq a.id (pos 0)) && is_dead actors a in
      subst (All IsCarriedId) (typed-ids schema fields vs typed) (all-ids IsCarriedId xs (all-map (λ a. test a ≡ false) (λ (a : ActorValue). IsCarriedId a.id) xs carried (none-passes test xs alive)))

pub values-typed : (schema : Schema) (fields : List ParamRow) (vs : Values) → have_types schema fields vs ≡ true → HaveTypes schema fields vs
values-typed schema fields vs e = (decides_types.values schema fields vs).0 e
