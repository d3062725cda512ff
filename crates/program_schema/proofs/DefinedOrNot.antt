-- Each type of a schema is defined or is not: defined types get marks, one after another, as long as a row earns one.
use Rattle.std.proofs.Common.{get_or, ◌≡◌, ◌⊎◌, inl, inr, ◌∙◌, ◌<◌, ◌≤◌, ◌+◌, ◌==◌, ℕ, zero, suc, Bool, true, false, true≢false, cond, List, length, Option, Some, None, slice_get, refl, sym, ap, subst, arith}
use Rattle.std.specs.List.{list_any, list_all}
use Rattle.std.proofs.lemmas.Bool.{cases_Bool, cases_eq, eq-eqb, ne_eqb}
use Rattle.std.proofs.lemmas.List.Elements.{All-contains, Contains-get_or}
use Rattle.std.proofs.lemmas.List.Sums.{AllPass-from_list_all, list_all-from_AllPass}
use Rattle.std.proofs.lemmas.List.Folds.{Any-from_list_any, list_any-from_Any}
use Rattle.std.proofs.lemmas.Option.{slice_get_cases}
use Rattle.ipdl_base.specs.Sound.{IsDefined}
use Rattle.ipdl_base.specs.Sound.{builtin, using_type, actor, endpoint, array, maybe, unique, struct, union}
use Rattle.ipdl_base.specs.declared.schema.ParamRow.{ParamRow}
use Rattle.ipdl_base.specs.declared.schema.Shape.{Shape, Builtin, Using, Actor, Named, Array', Maybe', Unique', Endpoint}
use Rattle.ipdl_base.specs.declared.schema.TypeRow.{TypeRow}
use Rattle.ipdl_base.specs.declared.schema.TypeRow.TheVariants.{Struct, Union}
use Rattle.program_schema.proofs.Lists.{any_at, any_place, in_place, place_in}

-- marks on the numbers of types
abbrev Marks : Type 0
Marks = ℕ → Bool

-- whether a shape is defined where the marked types are
abbrev shape_earns : Marks → Shape → Bool
shape_earns marks (Named t) = marks t
shape_earns marks (Array' at s) = shape_earns marks s
shape_earns marks (Maybe' at s) = shape_earns marks s
shape_earns marks (Unique' at s) = shape_earns marks s
shape_earns marks _ = true

abbrev row_earns : Marks → Option TypeRow → Bool
row_earns marks None = false
row_earns marks (Some (Struct name fields)) = list_all (λ f. shape_earns marks f.shape) fields
row_earns marks (Some (Union name components)) = list_any (shape_earns marks) components

module _ (types : List TypeRow) where
  -- a marked type is defined
  abbrev AreSound : Marks → Type 0
  AreSound marks = (t : ℕ) → marks t ≡ true → IsDefined types (Named t)

  -- a row that earns a mark has it
  abbrev AreClosed : Marks → Type 0
  AreClosed marks = (t : ℕ) → row_earns marks (slice_get types t) ≡ true → marks t ≡ true

  shape_sound : (marks : Marks) → AreSound marks → (s : Shape) → shape_earns marks s ≡ true → IsDefined types s
  shape_sound marks sound (Named t) is = sound t is
  shape_sound marks sound (Array' at s) is = array (shape_sound marks sound s is)
  shape_sound marks sound (Maybe' at s) is = maybe (shape_sound marks sound s is)
  shape_sound marks sound (Unique' at s) is = unique (shape_sound marks sound s is)
  shape_sound marks sound (Builtin b) is = builtin
  shape_sound marks sound (Using name) is = using_type
  shape_sound marks sound (Actor p nullable) is = actor
  shape_sound marks sound (Endpoint p managed) is = endpoint

  row_sound : (marks : Marks) → AreSound marks → (t : ℕ) (row : Option TypeRow) → slice_get types t ≡ row → row_earns marks row ≡ true → IsDefined types (Named t)
  row_sound marks sound t None at is = cc
  row_sound marks sound t (Some (Struct name fields)) at is =
      struct name fields at (λ field among. shape_sound marks sound field.shape
      (All-contains (λ (f : ParamRow). shape_earns marks f.shape ≡ true) fields field (AllPass-from_list_all (λ (f : ParamRow). shape_earns marks f.shape) fields is) among))
  row_sound marks sound t (Some (Union name components)) at is =
      let found = any_place _ components (Any-from_list_any (shape_earns marks) components is) in
      union name components found.1 at (in_place components found.0 found.1 found.2) (shape_sound marks sound found.1 found.3)

  -- all defined types have closed marks
  complete : (marks : Marks) → AreClosed marks → {s : Shape} → IsDefined types s → shape_earns marks s ≡ true
  complete marks closed builtin = refl
  complete marks closed using_type = refl
  complete marks closed actor = refl
  complete marks closed endpoint = refl
  complete marks closed (array d) = complete marks closed d
  complete marks closed (maybe d) = complete marks closed d
  complete marks closed (unique d) = complete marks closed d
  complete marks closed (struct {t} name fields at each) =
      closed t (ap (row_earns marks) at ∙ list_all-from_AllPass (λ (f : ParamRow). shape_earns marks f.shape) fields (λ k d within. complete marks closed (each (get_or fields k d) (Contains-get_or fields k d within))))
  complete marks closed (union {t} name components component at among d) =
      let place = place_in components component among in
      closed t (ap (row_earns marks) at ∙ list_any-from_Any (shape_earns marks) components (any_at _ components place.0 component place.1 (complete marks closed d)))

  -- a number below a bound that earns a mark and has no mark, if there is one
  find_earned : (marks : Marks) (n : ℕ) → ((t : ℕ) × (t < n) × (row_earns marks (slice_get types t) ≡ true) × (marks t ≡ false)) ⊎ ((t : ℕ) → t < n → row_earns marks (slice_get types t) ≡ true → marks t ≡ true)
  find_earned marks zero = inr (λ t below earned. absurd (omega arith))
  find_earned marks (suc n) = elim (find_earned marks n) [
    | inl found ↦ inl (found.0, omega arith, found.2, found.3)
    | inr none ↦ elim (cases_Bool (marks n)) [
      | inl marked ↦ inr (λ t below earned. elim (cases_eq t n) [ inl same ↦ ap marks same ∙ marked | inr other ↦ none t (omega arith) earned ])
      | inr bare ↦ elim (cases_Bool (row_earns marks (slice_get types n))) [
        | inl earned ↦ inl (n, omega arith, earned, bare)
        | inr idle ↦ inr (λ t below earned. elim (cases_eq t n) [
          | inl same ↦ absurd (true≢false (sym earned ∙ ap (λ k. row_earns marks (slice_get types k)) same ∙ idle))
          | inr other ↦ none t (omega arith) earned
        ])
      ]
    ]
  ]

-- the number of numbers below a bound without a mark

lack : Bool → ℕ
lack true = 0
lack false = 1

unmarked : ℕ → Marks → ℕ
unmarked zero marks = 0
unmarked (suc n) marks = lack (marks n) + unmarked n marks

mark : Marks → ℕ → Marks
mark marks t u = cond (u == t) true (marks u)

mark_there : (marks : Marks) (t : ℕ) → mark marks t t ≡ true
unfolding mark
mark_there marks t = ap (λ b. cond b true (marks t)) (eq-eqb t t refl)

mark_cases : (marks : Marks) (t u : ℕ) → mark marks t u ≡ true → (u ≡ t) ⊎ (marks u ≡ true)
unfolding mark
mark_cases marks t u is = elim (cases_eq u t) [
  | inl same ↦ inl same
  | inr other ↦ inr (sym (ap (λ b. cond b true (marks u)) (ne_eqb u t other)) ∙ is)
]

lack_less : (b c : Bool) → lack (cond b true c) ≤ lack c
unfolding lack
lack_less true true = omega arith
lack_less true false = omega arith
lack_less false c = omega arith

mark_kept : (marks : Marks) (t u : ℕ) → lack (mark marks t u) ≤ lack (marks u)
unfolding mark
mark_kept marks t u = lack_less (u == t) (marks u)

unmarked_kept : (marks : Marks) (t n : ℕ) → unmarked n (mark marks t) ≤ unmarked n marks
unfolding unmarked
unmarked_kept marks t zero = omega arith
unmarked_kept marks t (suc n) =
    let here = mark_kept marks t n in
    let others = unmarked_kept marks t n in
    omega arith

lack_there : (marks : Marks) (t n : ℕ) → n ≡ t → marks t ≡ false → lack (mark marks t n) + 1 ≡ lack (marks n)
unfolding lack
lack_there marks t n same bare =
    let now : lack (mark marks t n) ≡ 0 = ap (λ (u : ℕ). lack (mark marks t u)) same ∙ ap lack (mark_there marks t) in
    let before : lack (marks n) ≡ 1 = ap (λ (u : ℕ). lack (marks u)) same ∙ ap lack bare in
    omega arith

unmarked_less : (marks : Marks) (t n : ℕ) → t < n → marks t ≡ false → unmarked n (mark marks t) + 1 ≤ unmarked n marks
unfolding unmarked
unmarked_less marks t zero below bare = absurd (omega arith)
unmarked_less marks t (suc n) below bare = elim (cases_eq n t) [
  | inl same ↦
      let here = lack_there marks t n same bare in
      let others = unmarked_kept marks t n in
      omega arith
  | inr other ↦
      let here = mark_kept marks t n in
      let others = unmarked_less marks t n (omega arith) bare in
      omega arith
]

module _ (types : List TypeRow) where
  mark_sound : (marks : Marks) (t : ℕ) → AreSound types marks → row_earns marks (slice_get types t) ≡ true → AreSound types (mark marks t)
  mark_sound marks t sound earned u is = elim (mark_cases marks t u is) [
    | inl same ↦ subst (λ k. IsDefined types (Named k)) (sym same) (row_sound types marks sound t (slice_get types t) refl earned)
    | inr before ↦ sound u before
  ]

  -- if no number below the count of types earns a mark, no number does
  all_closed : (marks : Marks) → ((t : ℕ) → t < length types → row_earns marks (slice_get types t) ≡ true → marks t ≡ true) → AreClosed types marks
  all_closed marks none t earned = elim (slice_get_cases types t).1 [
    | inl found ↦ none t found.1 earned
    | inr past ↦ absurd (true≢false (sym earned ∙ ap (row_earns marks) past.1))
  ]

  -- sound and closed marks
  settle : (fuel : ℕ) (marks : Marks) → AreSound types marks → unmarked (length types) marks ≤ fuel → (final : Marks) × AreSound types final × AreClosed types final
  settle zero marks sound enough = elim (find_earned types marks (length types)) [
    | inl found ↦ absurd (let less = unmarked_less marks found.0 (length types) found.1 found.3 in omega arith)
    | inr none ↦ (marks, sound, all_closed marks none)
  ]
  settle (suc fuel) marks sound enough = elim (find_earned types marks (length types)) [
    | inl found ↦ settle fuel (mark marks found.0) (mark_sound marks found.0 sound found.2) (let less = unmarked_less marks found.0 (length types) found.1 found.3 in omega arith)
    | inr none ↦ (marks, sound, all_closed marks none)
  ]

  no_marks : Marks
  no_marks t = false

  none_sound : AreSound types no_marks
  unfolding no_marks
  none_sound t is = cc

  -- a type that is not undefined is defined
  pub defined_undenied : (t : ℕ) → ¬ ¬ IsDefined types (Named t) → IsDefined types (Named t)
  defined_undenied t undenied =
      let final = settle (unmarked (length types) no_marks) no_marks none_sound (omega arith) in
      elim (cases_Bool (final.0 t)) [
        | inl marked ↦ final.1 t marked
        | inr bare ↦ absurd (undenied (λ d. true≢false (sym (complete types final.0 final.2 d) ∙ bare)))
      ]
