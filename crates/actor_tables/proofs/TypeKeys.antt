-- The keys of structs and unions.
use Rattle.std.proofs.Common.{◌≡◌, ℕ, ◌+◌, ◌<◌, ◌≤◌, ◌⊎◌, inl, inr, Bool, true, false, List, [], ◌∷◌, ◌++◌, length, get_or, Option, Some, None, slice_get, option_map, refl, sym, ap, subst, ◌∙◌, arith}
use Rattle.std.specs.Prelude.{option_and_then}
use Rattle.std.specs.List.{Contains}
use Rattle.std.proofs.lemmas.Bool.{cases_lt}
use Rattle.std.proofs.lemmas.List.Elements.{Contains-append_left, Contains-push, Contains-push_cases}
use Rattle.std.proofs.lemmas.Option.{none-some, same_Some, slice_get_within, slice_get_read}
use Rattle.ipdl_base.specs.declared.finding.Place.{Place}
use Rattle.ipdl_syntax.specs.declared.program.Entry.{Entry}
use Rattle.ipdl_syntax.specs.declared.tree.StructDecl.{StructDecl}
use Rattle.ipdl_syntax.specs.declared.tree.UnionDecl.{UnionDecl}
use Rattle.program_schema.specs.Numbers.{place_of}
use Rattle.actor_tables.specs.Numbered.{decl_of, AddsKeys, IsStructKey, IsUnionKey, IsKeyBelow}
use Rattle.actor_tables.specs.declared.numbers.TypeKey.{TypeKey}

-- the key of one of a list, by the place of its name
abbrev pub IsKeyIn : {X : Type 0} → (X → Place) → Bool → List X → TypeKey → Type 0
IsKeyIn place is_union xs key = (key.is_union ≡ is_union) × (option_map place (slice_get xs key.index) ≡ Some key.place)

abbrev key_from : Place → Bool → ℕ → TypeKey
key_from place is_union index = record { place = place; is_union = is_union; index = index }

same_key : (key : TypeKey) (place : Place) (is_union : Bool) (index : ℕ) → place ≡ key.place → is_union ≡ key.is_union → index ≡ key.index → key_from place is_union index ≡ key
same_key key place is_union index p u i = ap (λ (q : Place). key_from q is_union index) p ∙ ap (λ (b : Bool). key_from key.place b index) u ∙ ap (λ (n : ℕ). key_from key.place key.is_union n) i

module _ {X : Type 0} (place : X → Place) (is_union : Bool) (xs : List X) where
  pub keys_none : (old : List TypeKey) → AddsKeys (λ key. (key.index < 0) × IsKeyIn place is_union xs key) old old
  keys_none old = record { exact = λ key. (λ h. inl h, λ h. elim h [ inl a ↦ a | inr b ↦ absurd (let below : key.index < 0 = b.0 in omega arith) ]) }

  pub keys_more : (i : ℕ) (x : X) (old now new : List TypeKey) → i < length xs → x ≡ get_or xs i x → AddsKeys (λ key. (key.index < i) × IsKeyIn place is_union xs key) old now
      → new ≡ now ++ record { place = place x; is_union = is_union; index = i } ∷ [] → AddsKeys (λ key. (key.index < i + 1) × IsKeyIn place is_union xs key) old new
  keys_more i x old now new below at are is = subst (AddsKeys (λ key. (key.index < i + 1) × IsKeyIn place is_union xs key) old) (sym is) (record {
    exact = λ key. (
      (λ h. elim (Contains-push_cases now made key h) [
        | inl before ↦ elim ((are.exact key).0 before) [ inl a ↦ inl a | inr b ↦ inr ((let less : key.index < i = b.0 in omega arith), b.1) ]
        | inr same ↦ inr (subst (λ (k : TypeKey). (k.index < i + 1) × IsKeyIn place is_union xs k) same (omega arith, (refl, ap (option_map place) there)))
      ]),
      (λ h. elim h [
        | inl a ↦ Contains-append_left now (made ∷ []) key ((are.exact key).1 (inl a))
        | inr b ↦ elim (cases_lt key.index i) [
          | inl earlier ↦ Contains-append_left now (made ∷ []) key ((are.exact key).1 (inr (earlier, b.1)))
          | inr past ↦ (
              let less : key.index < i + 1 = b.0 in
              let here : key.index ≡ i = omega arith in
              let same_place : place x ≡ key.place = same_Some (place x) key.place (sym (ap (λ n. option_map place (slice_get xs n)) here ∙ ap (option_map place) there) ∙ b.1.1) in
              subst (Contains (now ++ made ∷ [])) (same_key key (place x) is_union i same_place (sym b.1.0) (sym here)) (Contains-push now made))
        ]
      ]),
    );
  })
    where
      made : TypeKey
      made = key_from (place x) is_union i

      there : slice_get xs i ≡ Some x
      there = slice_get_read xs (length xs) i x refl below at

  pub keys_all : (i : ℕ) (old new : List TypeKey) → length xs ≤ i → AddsKeys (λ key. (key.index < i) × IsKeyIn place is_union xs key) old new → AddsKeys (IsKeyIn place is_union xs) old new
  keys_all i old new over are = record {
    exact = λ key. (
      (λ h. elim ((are.exact key).0 h) [ inl a ↦ inl a | inr b ↦ inr b.1 ]),
      (λ h. elim h [ inl a ↦ (are.exact key).1 (inl a) | inr b ↦ (are.exact key).1 (inr (within key b.1, b)) ]),
    );
  }
    where
      within : (key : TypeKey) → option_map place (slice_get xs key.index) ≡ Some key.place → key.index < i
      within key h = go (slice_get xs key.index) refl h
        where
          go : (o : Option X) → slice_get xs key.index ≡ o → option_map place o ≡ Some key.place → key.index < i
          go None e k = absurd (none-some key.place k)
          go (Some y) e k = let below : key.index < length xs = slice_get_within xs key.index y e in omega arith

-- Files

-- what a key means for the tree of a file
to_place : (program : List Entry) (i : ℕ) (e : Entry) (key : TypeKey) → slice_get program i ≡ Some e → IsStructKey e.unit.structs key ⊎ IsUnionKey e.unit.unions key
    → place_of program (decl_of (record { file = i; is_union = key.is_union; index = key.index })) ≡ Some key.place
to_place program i e key at h = elim h [
  | inl s ↦ subst (λ (u : Bool). place_of program (decl_of (record { file = i; is_union = u; index = key.index })) ≡ Some key.place) (sym s.0)
      (ap (λ (o : Option Entry). option_map (λ (x : StructDecl). x.place) (option_and_then (λ (y : Entry). slice_get y.unit.structs key.index) o)) at ∙ s.1)
  | inr u ↦ subst (λ (b : Bool). place_of program (decl_of (record { file = i; is_union = b; index = key.index })) ≡ Some key.place) (sym u.0)
      (ap (λ (o : Option Entry). option_map (λ (x : UnionDecl). x.place) (option_and_then (λ (y : Entry). slice_get y.unit.unions key.index) o)) at ∙ u.1)
]

from_place : (program : List Entry) (i : ℕ) (e : Entry) (key : TypeKey) → slice_get program i ≡ Some e → place_of program (decl_of (record { file = i; is_union = key.is_union; index = key.index })) ≡ Some key.place
    → IsStructKey e.unit.structs key ⊎ IsUnionKey e.unit.unions key
from_place program i e key at h = go key.is_union refl
  where
    go : (u : Bool) → key.is_union ≡ u → IsStructKey e.unit.structs key ⊎ IsUnionKey e.unit.unions key
    go false is = inl (
      is,
      sym (ap (λ (o : Option Entry). option_map (λ (x : StructDecl). x.place) (option_and_then (λ (y : Entry). slice_get y.unit.structs key.index) o)) at)
          ∙ subst (λ (u : Bool). place_of program (decl_of (record { file = i; is_union = u; index = key.index })) ≡ Some key.place) is h,
    )
    go true is = inr (
      is,
      sym (ap (λ (o : Option Entry). option_map (λ (x : UnionDecl). x.place) (option_and_then (λ (y : Entry). slice_get y.unit.unions key.index) o)) at)
          ∙ subst (λ (u : Bool). place_of program (decl_of (record { file = i; is_union = u; index = key.index })) ≡ Some key.place) is h,
    )

pub below_none : (program : List Entry) (keys : List TypeKey) → keys ≡ [] → AddsKeys (IsKeyBelow program 0) [] keys
below_none program keys is = subst (AddsKeys (IsKeyBelow program 0) []) (sym is) (record { exact = λ key. (λ h. inl h, λ h. elim h [ inl a ↦ a | inr b ↦ absurd (let below : b.0 < 0 = b.1 in omega arith) ]) })

pub below_more : (program : List Entry) (i : ℕ) (e : Entry) (structs : List StructDecl) (unions : List UnionDecl) (old middle new : List TypeKey) → i < length program → e ≡ get_or program i e → structs ≡ e.unit.structs → unions ≡ e.unit.unions
    → AddsKeys (IsKeyBelow program i) [] old → AddsKeys (IsStructKey structs) old middle → AddsKeys (IsUnionKey unions) middle new → AddsKeys (IsKeyBelow program (i + 1)) [] new
below_more program i e structs unions old middle new within at has_structs has_unions before one two = record {
  exact = λ key. (
    (λ h. elim ((two.exact key).0 h) [
      | inl a ↦ elim ((one.exact key).0 a) [
        | inl b ↦ elim ((before.exact key).0 b) [ inl none ↦ inl none | inr k ↦ inr (k.0, (let less : k.0 < i = k.1 in omega arith), k.2) ]
        | inr s ↦ inr (i, omega arith, to_place program i e key there (inl (subst (λ (xs : List StructDecl). IsStructKey xs key) has_structs s)))
      ]
      | inr u ↦ inr (i, omega arith, to_place program i e key there (inr (subst (λ (xs : List UnionDecl). IsUnionKey xs key) has_unions u)))
    ]),
    (λ h. elim h [
      | inl none ↦ (two.exact key).1 (inl ((one.exact key).1 (inl ((before.exact key).1 (inl none)))))
      | inr k ↦ elim (cases_lt k.0 i) [
        | inl earlier ↦ (two.exact key).1 (inl ((one.exact key).1 (inl ((before.exact key).1 (inr (k.0, earlier, k.2))))))
        | inr past ↦ (
            let less : k.0 < i + 1 = k.1 in
            let here : k.0 ≡ i = omega arith in
            elim (from_place program i e key there (subst (λ (f : ℕ). place_of program (decl_of (record { file = f; is_union = key.is_union; index = key.index })) ≡ Some key.place) here k.2)) [
              | inl s ↦ (two.exact key).1 (inl ((one.exact key).1 (inr (subst (λ (xs : List StructDecl). IsStructKey xs key) (sym has_structs) s))))
              | inr u ↦ (two.exact key).1 (inr (subst (λ (xs : List UnionDecl). IsUnionKey xs key) (sym has_unions) u))
            ])
      ]
    ]),
  );
}
  where
    there : slice_get program i ≡ Some e
    there = slice_get_read program (length program) i e refl within at
