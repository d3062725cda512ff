-- The numbers of structs and unions.
use Rattle.std.proofs.Common.{◌≡◌, ℕ, ◌+◌, ◌<◌, ◌≤◌, inl, inr, Bool, true, false, List, length, get_or, Option, Some, IsSomeAnd, slice_get, refl, sym, ap, subst, ◌∙◌, arith, cond, true≢false}
use Rattle.std.specs.Prelude.{◌&&◌, ◌==◌}
use Rattle.std.specs.Bool.{beq}
use Rattle.std.specs.Cmp.{booleans_Decides}
use Rattle.std.specs.HashMap.{get, HashMap}
use Rattle.std.proofs.lemmas.Bool.{and_from, and_parts, cases_lt}
use Rattle.std.proofs.lemmas.Bool.Decides.{Decides-eqb}
use Rattle.std.proofs.lemmas.Option.{slice_get-get_or, get_or_from_slice_get}
use Rattle.actor_tables.specs.Numbered.{same_id, GivesNumbers}
use Rattle.actor_tables.specs.declared.numbers.TypeId.{TypeId}

abbrev id_at : ℕ → Bool → ℕ → TypeId
id_at file is_union index = record { file = file; is_union = is_union; index = index }

same_when : (a b : TypeId) → same_id a b ≡ true → a ≡ b
same_when a b h =
    let one = and_parts (a.file == b.file) (beq a.is_union b.is_union && (a.index == b.index)) h in
    let two = and_parts (beq a.is_union b.is_union) (a.index == b.index) one.1 in
    ap (λ n. id_at n a.is_union a.index) ((Decides-eqb a.file b.file).0 one.0) ∙ ap (λ u. id_at b.file u a.index) ((booleans_Decides a.is_union b.is_union).0 two.0) ∙ ap (id_at b.file b.is_union) ((Decides-eqb a.index b.index).0 two.1)

same_itself : (a : TypeId) → same_id a a ≡ true
same_itself a =
    and_from (a.file == a.file) (beq a.is_union a.is_union && (a.index == a.index)) ((Decides-eqb a.file a.file).1 refl) (and_from (beq a.is_union a.is_union) (a.index == a.index) ((booleans_Decides a.is_union a.is_union).1 refl) ((Decides-eqb a.index a.index).1 refl))

get_or_default : (ids : List TypeId) (i : ℕ) (d e : TypeId) → i < length ids → get_or ids i d ≡ get_or ids i e
get_or_default ids i d e below = get_or_from_slice_get ids i (get_or ids i e) d (slice_get-get_or ids i e below)

-- each of the first types has its index among them
abbrev pub GivesBelow : {S : Type 0} → List TypeId → HashMap TypeId ℕ S → ℕ → Type 0
GivesBelow ids numbers limit = (k : ℕ) (d : TypeId) → k < limit → IsSomeAnd (get same_id numbers (get_or ids k d)) (λ number. slice_get ids number ≡ Some (get_or ids k d))

pub gives_more : {S : Type 0} (ids : List TypeId) (old new : HashMap TypeId ℕ S) (i number : ℕ) (e : TypeId) → i < length ids → number ≡ i
    → ((q : TypeId) → get same_id new q ≡ cond (same_id (get_or ids i e) q) (Some number) (get same_id old q)) → GivesBelow ids old i → GivesBelow ids new (i + 1)
gives_more ids old new i number e below is updates so_far k d lt = go (same_id id q) refl
  where
    id : TypeId
    id = get_or ids i e

    q : TypeId
    q = get_or ids k d

    P : Option ℕ → Type 0
    P o = IsSomeAnd o (λ n. slice_get ids n ≡ Some q)

    go : (b : Bool) → same_id id q ≡ b → P (get same_id new q)
    go true same = subst P (sym (updates q ∙ ap (λ b. cond b (Some number) (get same_id old q)) same)) (ap (slice_get ids) is ∙ slice_get-get_or ids i e below ∙ ap Some (same_when id q same))
    go false differ = subst P (sym (updates q ∙ ap (λ b. cond b (Some number) (get same_id old q)) differ)) (so_far k d (elim (cases_lt k i) [
      | inl earlier ↦ earlier
      | inr past ↦ (
          let here : k ≡ i = omega arith in
          let same : id ≡ q = get_or_default ids i e d below ∙ ap (λ n. get_or ids n d) (sym here) in
          absurd (true≢false (sym (ap (same_id id) (sym same) ∙ same_itself id) ∙ differ)))
    ]))

pub gives_all : {S : Type 0} (ids : List TypeId) (numbers : HashMap TypeId ℕ S) (i : ℕ) → length ids ≤ i → GivesBelow ids numbers i → GivesNumbers ids numbers
gives_all ids numbers i over so_far id (k, lt, at) =
    subst (λ (x : TypeId). IsSomeAnd (get same_id numbers x) (λ number. slice_get ids number ≡ Some x)) at (so_far k id (omega arith))
