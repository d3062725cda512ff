-- First places of names, and what they mean for earlier declarations.
use Rattle.std.proofs.Common.{◌≡◌, ℕ, ◌+◌, ◌<◌, Bool, true, false, cond, IsTrue, List, [], ◌∷◌, ◌++◌, length, take, get_or, map, Option, Some, None, ◌⊎◌, inl, inr, refl, sym, ap, subst, ◌∙◌, arith, Bor}
use Rattle.std.specs.Prelude.{◌↔◌, IsSomeAnd}
use Rattle.std.specs.HashMap.{HashMap}
use Rattle.std.specs.List.{Any}
use Rattle.std.specs.Str.{bytes_eq}
use Rattle.std.proofs.lemmas.Bool.{true≢false}
use Rattle.std.proofs.lemmas.List.{take_more, map-append}
use Rattle.std.proofs.lemmas.List.Quantifiers.{Any-push}
use Rattle.std.proofs.lemmas.Option.{none-some, same_Some}
use Rattle.std.proofs.lemmas.Slice.Eq.{bytes_eq-Decides}
use Rattle.ipdl_base.specs.declared.finding.Place.{Place}
use Rattle.findings.proofs.Elements.{any_cases, any_left}
use Rattle.type_rules.specs.Declarations.{Declaration, Repeats}
use Rattle.type_rules.specs.Firsts.{told, IsBefore, first_of, StandsBefore, IsEarlier, FirstsAre}
use Rattle.type_rules.specs.declared.declarations.Declaration.{Declaration as Listed}

some_there : (o : Option Place) (P : Place → Type 0) → IsSomeAnd o P → (p : Place) × (o ≡ Some p) × P p
some_there None P h = absurd h
some_there (Some p) P h = (p, refl, h)

there_some : (o : Option Place) (P : Place → Type 0) (p : Place) → o ≡ Some p → P p → IsSomeAnd o P
there_some o P p e h = let Q : Option Place → Type 0 = λ o. IsSomeAnd o P in subst Q (sym e) h

-- a map in which one name has the first of its place and another
pub noted : {S : Type 0} (old new : HashMap (Bor (List ℕ)) Place S) (full : List ℕ) (at first : Place)
    → ((name : List ℕ) → first_of new name ≡ cond (bytes_eq full name) (Some first) (first_of old name))
    → ((later : Place) → IsBefore first later ↔ (IsBefore at later ⊎ IsSomeAnd (first_of old full) (λ there. IsBefore there later)))
    → (name : List ℕ) (place : Place) → StandsBefore new name place ↔ (StandsBefore old name place ⊎ ((full ≡ name) × IsBefore at place))
noted {S} old new full at first updates told name place = by (bytes_eq full name) refl
  where
    by : (b : Bool) → bytes_eq full name ≡ b → StandsBefore new name place ↔ (StandsBefore old name place ⊎ ((full ≡ name) × IsBefore at place))
    by true e =
        let same : full ≡ name = (bytes_eq-Decides full name).0 e in
        let now : first_of new name ≡ Some first = updates name ∙ ap (λ b. cond b (Some first) (first_of old name)) e in (
          λ h. let is : h.0 ≡ first = same_Some h.0 first (sym h.1 ∙ now) in
              elim ((told place).0 (subst (λ (p : Place). IsBefore p place) is h.2)) [
                | inl x ↦ inr (same, x)
                | inr x ↦ (let t = some_there (first_of old full) _ x in inl (t.0, sym (ap (first_of old) same) ∙ t.1, t.2))
              ],
          λ h. elim h [
            | inl x ↦ (first, now, (told place).1 (inr (there_some (first_of old full) _ x.0 (ap (first_of old) same ∙ x.1) x.2)))
            | inr x ↦ (first, now, (told place).1 (inl x.1))
          ],
        )
    by false e =
        let now : first_of new name ≡ first_of old name = updates name ∙ ap (λ b. cond b (Some first) (first_of old name)) e in (
          λ h. inl (h.0, sym now ∙ h.1, h.2),
          λ h. elim h [
            | inl x ↦ (x.0, now ∙ x.1, x.2)
            | inr x ↦ absurd (true≢false (sym ((bytes_eq-Decides full name).1 x.0) ∙ e))
          ],
        )

-- the result of a read past the end
abbrev pub blank : Listed
blank = record { full = record { ref_ptr = (0, 0); now = [] }; place = record { file = 0; line = 0; column = 0 }; is_using = false }

-- no place without declarations
pub firsts_none : {S : Type 0} (own : Bool) (firsts : HashMap (Bor (List ℕ)) Place S) → ((name : List ℕ) → first_of firsts name ≡ None) → FirstsAre own [] firsts
firsts_none own firsts empty = record {
  exact = λ name place. (λ h. absurd (none-some h.0 (sym (empty name) ∙ h.1)), λ h. absurd (omega (arith, h.2)));
}

-- one more declaration
firsts_more : {S : Type 0} (own : Bool) (xs : List Listed) (i : ℕ) (d : Listed) (old new : HashMap (Bor (List ℕ)) Place S) → i < length xs → FirstsAre own (map told (take i xs)) old
    → ((name : List ℕ) (place : Place) → StandsBefore new name place ↔ (StandsBefore old name place ⊎ IsEarlier own name place (told (get_or xs i d))))
    → FirstsAre own (map told (take (i + 1) xs)) new
firsts_more own xs i d old new lt before grown =
    let x = told (get_or xs i d) in
    let longer : map told (take (i + 1) xs) ≡ map told (take i xs) ++ x ∷ [] = ap (map told) (take_more xs i d lt) ∙ map-append told (take i xs) (get_or xs i d ∷ []) in
    rw longer
    (record {
      exact = λ name place. (
        λ h. elim ((grown name place).0 h) [
          | inl a ↦ any_left (IsEarlier own name place) (map told (take i xs)) (x ∷ []) ((before.exact name place).0 a)
          | inr b ↦ Any-push (IsEarlier own name place) (map told (take i xs)) x b
        ],
        λ h. (grown name place).1 (elim (any_cases (IsEarlier own name place) (map told (take i xs)) x h) [
          | inl a ↦ inl ((before.exact name place).1 a)
          | inr b ↦ inr b
        ]),
      );
    })

-- one that counts
pub firsts_counted : {S : Type 0} (own : Bool) (xs : List Listed) (i : ℕ) (d : Listed) (old new : HashMap (Bor (List ℕ)) Place S) → i < length xs → FirstsAre own (map told (take i xs)) old
    → (IsTrue own → ¬ IsTrue (get_or xs i d).is_using)
    → ((name : List ℕ) (place : Place) → StandsBefore new name place ↔ (StandsBefore old name place ⊎ (((get_or xs i d).full.now ≡ name) × IsBefore (get_or xs i d).place place)))
    → FirstsAre own (map told (take (i + 1) xs)) new
firsts_counted own xs i d old new lt before counts grown = firsts_more own xs i d old new lt before (λ name place. (
  λ h. elim ((grown name place).0 h) [ inl a ↦ inl a | inr b ↦ inr (record { named = b.0; before = b.1; counts = counts }) ],
  λ h. (grown name place).1 (elim h [ inl a ↦ inl a | inr b ↦ inr (b.named, b.before) ]),
))

-- one that does not count
pub firsts_left_out : {S : Type 0} (own : Bool) (xs : List Listed) (i : ℕ) (d : Listed) (old new : HashMap (Bor (List ℕ)) Place S) → i < length xs → FirstsAre own (map told (take i xs)) old
    → ¬ (IsTrue own → ¬ IsTrue (get_or xs i d).is_using) → new ≡ old → FirstsAre own (map told (take (i + 1) xs)) new
firsts_left_out {S} own xs i d old new lt before not_counted same =
    let Q : HashMap (Bor (List ℕ)) Place S → Type 0 = FirstsAre own (map told (take (i + 1) xs)) in
    subst Q (sym same) (firsts_more own xs i d old old lt before (λ name place. (λ h. inl h, λ h. elim h [ inl a ↦ a | inr b ↦ absurd (not_counted b.counts) ])))

-- a declaration repeats one of these if the first place of its name, among those that count for it, is before its own
pub repeats_by_first : {S : Type 0} (own : Bool) (all : List Declaration) (firsts : HashMap (Bor (List ℕ)) Place S) (d : Declaration) → d.is_using ≡ own → FirstsAre own all firsts → StandsBefore firsts d.full d.place ↔ Any (λ earlier. Repeats earlier d) all
repeats_by_first own all firsts d is are = (
  λ h. let e = (are.exact d.full d.place).0 h in
      (e.0, e.1, e.2, e.3, record { name = e.4.named; before = e.4.before; not_both = λ both. e.4.counts (sym is ∙ both.1) both.0 }),
  λ h. (are.exact d.full d.place).1 (h.0, h.1, h.2, h.3, record { named = h.4.name; before = h.4.before; counts = λ t u. h.4.not_both (u, is ∙ t) }),
)
