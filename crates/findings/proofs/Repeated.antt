-- Repeated names, when one more name is appended.
use Rattle.std.proofs.Common.{◌≡◌, ℕ, ◌+◌, ◌<◌, ◌≤◌, Bool, true, false, not, cond, List, [], ◌∷◌, ◌++◌, length, take, get_or, map, Bor, ◌⊎◌, inl, inr, refl, sym, ◌∙◌, ap, subst, arith}
use Rattle.std.specs.Prelude.{nat_eq}
use Rattle.std.specs.List.{list_any, Contains}
use Rattle.std.specs.Str.{bytes_eq}
use Rattle.std.specs.Cmp.Lexicographic.{pointwise}
use Rattle.std.specs.Bool.{Decides}
use Rattle.std.proofs.lemmas.Bool.{true≢false}
use Rattle.std.proofs.lemmas.Bool.Decides.{Decides-by_or, Decides-eqb}
use Rattle.std.proofs.lemmas.List.{take_more, take-append-le, take_all, map-append}
use Rattle.std.proofs.lemmas.List.Elements.{Contains-append_left, Contains-push, Contains-push_cases, Decides-contains}
use Rattle.std.proofs.lemmas.Option.{slice_get_within}
use Rattle.std.proofs.lemmas.Slice.Eq.{bytes_eq-Decides, slice_eq-Decides}
use Rattle.ipdl_base.specs.declared.finding.Finding.{Finding}
use Rattle.ipdl_base.specs.declared.finding.Place.{Place}
use Rattle.ipdl_base.specs.declared.finding.Rule.{Rule}
use Rattle.findings.specs.Adds.{Adds}
use Rattle.findings.specs.Repeats.{IsRepeatedAt}
use Rattle.findings.proofs.Gains.{Adds-none, Adds-like, Adds-then, Adds-push}
use Rattle.findings.proofs.Indexed.{slice_get-push, slice_get-left, slice_get-last}

-- the test of two names decides whether they are the same
decided : (xs ys : List ℕ) → Decides (pointwise nat_eq xs ys) (xs ≡ ys)
decided xs ys = slice_eq-Decides Decides-eqb xs ys (pointwise nat_eq xs ys) refl

-- a borrowed name with its place
abbrev pub Given : Type 0
Given = Bor (List ℕ) × Place

-- the same, as the definitions see it
abbrev pub plain_name : Given → List ℕ × Place
plain_name n = (n.0.now, n.1)

-- the names without their places
abbrev pub texts : List (List ℕ × Place) → List (List ℕ)
texts names = map (λ n. n.0) names

-- the names with one more
texts-more : (names : List Given) (i : ℕ) (d : Given) → i < length names → texts (map plain_name (take (i + 1) names)) ≡ texts (map plain_name (take i names)) ++ (get_or names i d).0.now ∷ []
texts-more names i d lt =
    rw (take_more names i d lt, map-append plain_name (take i names) (get_or names i d ∷ []), map-append (λ (n : List ℕ × Place). n.0) (map plain_name (take i names)) (plain_name (get_or names i d) ∷ [])) refl

-- an answer that is true, or else the earlier answer
pub cond_true : (b x : Bool) → cond b true x ≡ true → (b ≡ true) ⊎ (x ≡ true)
cond_true true x h = inl refl
cond_true false x h = inr h

pub true_cond : (b x : Bool) → x ≡ true → cond b true x ≡ true
true_cond true x h = refl
true_cond false x h = h

-- the answer of a test of the names, and with one more name
pub told_more : (names : List Given) (i : ℕ) (d : Given) (q : List ℕ) (before after : Bool) → i < length names → after ≡ cond (pointwise nat_eq (get_or names i d).0.now q) true before
    → Decides before (Contains (texts (map plain_name (take i names))) q) → Decides after (Contains (texts (map plain_name (take (i + 1) names))) q)
told_more names i d q before after lt put was =
    let old = texts (map plain_name (take i names)) in
    let y = (get_or names i d).0.now in
    rw (texts-more names i d lt) (
      (λ h. elim (cond_true (pointwise nat_eq y q) before (sym put ∙ h)) [
        | inl same ↦ (let P : List ℕ → Type 0 = λ z. Contains (old ++ y ∷ []) z in subst P ((decided y q).0 same) (Contains-push old y))
        | inr h ↦ Contains-append_left old (y ∷ []) q (was.0 h)
      ]),
      (λ h. elim (Contains-push_cases old y q h) [
        | inl h ↦ put ∙ true_cond (pointwise nat_eq y q) before (was.1 h)
        | inr same ↦ put ∙ ap (λ b. cond b true before) ((decided y q).1 same)
      ]),
    )

texts_long : (names : List (List ℕ × Place)) → length (texts names) ≡ length names
texts_long [] = refl
texts_long (n ∷ names) = rw (texts_long names) refl

take_texts : (names : List (List ℕ × Place)) (y : List ℕ × Place) (k : ℕ) → k ≤ length names → take k (texts (names ++ y ∷ [])) ≡ take k (texts names)
take_texts names y k le =
    let le' : k ≤ length (texts names) = omega (arith, le, texts_long names) in
    rw (map-append (λ (n : List ℕ × Place). n.0) names (y ∷ [])) (take-append-le k (texts names) (y.0 ∷ []) le')

-- the repeated ones among the names with one more
repeated_cases : (names : List (List ℕ × Place)) (y : List ℕ × Place) (place : Place) → IsRepeatedAt (names ++ y ∷ []) place → IsRepeatedAt names place ⊎ (Contains (texts names) y.0 × (y.1 ≡ place))
repeated_cases names y place (k, x, at, told) = elim (slice_get-push names y k x at) [
  | inl e ↦ inl (k, x, e, (rw (take_texts names y k (let lt = slice_get_within names k x e in omega (arith, lt))) at told.0, told.1))
  | inr e ↦ (
      let P : List (List ℕ) → Type 0 = λ ns. Contains ns x.0 in
      let all : take k (texts (names ++ y ∷ [])) ≡ texts names = take_texts names y k (omega (arith, e.0)) ∙ take_all k (texts names) (omega (arith, e.0, texts_long names)) in
      let Q : List ℕ × Place → Type 0 = λ z. Contains (texts names) z.0 × (z.1 ≡ place) in
      inr (subst Q (sym e.1) (subst P all told.0, told.1))
      )
]

repeated_left : (names : List (List ℕ × Place)) (y : List ℕ × Place) (place : Place) → IsRepeatedAt names place → IsRepeatedAt (names ++ y ∷ []) place
repeated_left names y place (k, x, at, told) =
    (k, x, slice_get-left names y k x at, (rw (take_texts names y k (let lt = slice_get_within names k x at in omega (arith, lt))) told.0, told.1))

repeated_last : (names : List (List ℕ × Place)) (y : List ℕ × Place) (place : Place) → Contains (texts names) y.0 → y.1 ≡ place → IsRepeatedAt (names ++ y ∷ []) place
repeated_last names y place has here =
    (length names, y, slice_get-last names y, (rw (take_texts names y (length names) (omega arith), take_all (length names) (texts names) (omega (arith, texts_long names))) has, here))

plain-more : (names : List Given) (i : ℕ) (d : Given) → i < length names → map plain_name (take (i + 1) names) ≡ map plain_name (take i names) ++ plain_name (get_or names i d) ∷ []
plain-more names i d lt = rw (take_more names i d lt) (map-append plain_name (take i names) (get_or names i d ∷ []))

-- a finding at a name that is among those before it
pub Adds-repeated : (rule : Rule) (names : List Given) (i : ℕ) (d : Given) (a b c : List Finding) → i < length names
    → Contains (texts (map plain_name (take i names))) (get_or names i d).0.now → c ≡ b ++ record { place = (get_or names i d).1; rule = rule } ∷ []
    → Adds rule (IsRepeatedAt (map plain_name (take i names))) a b → Adds rule (IsRepeatedAt (map plain_name (take (i + 1) names))) a c
Adds-repeated rule names i d a b c lt has more old =
    let before = map plain_name (take i names) in
    let y = plain_name (get_or names i d) in
    rw (plain-more names i d lt, more)
    (Adds-like rule (λ place. IsRepeatedAt before place ⊎ (y.1 ≡ place)) (IsRepeatedAt (before ++ y ∷ [])) a _
    (Adds-then rule (IsRepeatedAt before) (λ place. y.1 ≡ place) a b _ old (Adds-push rule y.1 b))
    (λ place h. elim h [ inl r ↦ repeated_left before y place r | inr e ↦ repeated_last before y place has e ])
    (λ place h. elim (repeated_cases before y place h) [ inl r ↦ inl r | inr e ↦ inr e.1 ]))

-- no finding at a name that is not
pub Adds-new : (rule : Rule) (names : List Given) (i : ℕ) (d : Given) (a b : List Finding) → i < length names
    → ¬ Contains (texts (map plain_name (take i names))) (get_or names i d).0.now
    → Adds rule (IsRepeatedAt (map plain_name (take i names))) a b → Adds rule (IsRepeatedAt (map plain_name (take (i + 1) names))) a b
Adds-new rule names i d a b lt none old =
    let before = map plain_name (take i names) in
    let y = plain_name (get_or names i d) in
    rw (plain-more names i d lt)
    (Adds-like rule (IsRepeatedAt before) (IsRepeatedAt (before ++ y ∷ [])) a b old
    (λ place r. repeated_left before y place r)
    (λ place h. elim (repeated_cases before y place h) [ inl r ↦ r | inr e ↦ absurd (none e.0) ]))

-- the test that finds a name among others

among_texts : (names : List Given) (q : List ℕ) → list_any (λ (n : Given). bytes_eq q n.0.now) names ≡ list_any (λ w. bytes_eq q w) (texts (map plain_name names))
among_texts [] q = refl
among_texts (n ∷ names) q = rw (among_texts names q) refl

pub among_decided : (names : List Given) (q : List ℕ) → Decides (list_any (λ (n : Given). bytes_eq q n.0.now) names) (Contains (texts (map plain_name names)) q)
among_decided names q =
    rw (among_texts names q)
    (Decides-contains (texts (map plain_name names)) q _
    (Decides-by_or (λ w. bytes_eq q w) (λ w. w ≡ q) (list_any (λ w. bytes_eq q w))
    (λ w. let d = bytes_eq-Decides q w in (λ h. sym (d.0 h), λ e. d.1 (sym e))) refl (λ _ _. refl) (texts (map plain_name names))))

-- without names there is no repeated name
pub Adds-no_name : (rule : Rule) (a : List Finding) → Adds rule (IsRepeatedAt []) a a
Adds-no_name rule a = Adds-none rule (IsRepeatedAt []) a (λ place (k, x, at, h). let no : ⊥ = cc in no)

-- an element that was not new was there before
pub was_there : (added before : Bool) → added ≡ not before → added ≡ false → before ≡ true
was_there added true told h = refl
was_there added false told h = absurd (true≢false (sym told ∙ h))

pub was_new : (added before : Bool) → added ≡ not before → added ≡ true → before ≡ false
was_new added true told h = absurd (true≢false (sym h ∙ told))
was_new added false told h = refl
