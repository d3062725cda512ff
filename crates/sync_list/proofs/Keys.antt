-- Sets that grow.
use Rattle.std.proofs.Common.{◌≡◌, ℕ, ◌+◌, ◌<◌, Bool, true, false, cond, List, [], length, take, get_or, Option, Some, None, Bor, subst, ◌⊎◌, inl, inr, refl, sym, ◌∙◌, ap, arith}
use Rattle.std.specs.Prelude.{IsSomeAnd}
use Rattle.std.specs.Bool.{Decides}
use Rattle.std.specs.HashSet.{HashSet, contains}
use Rattle.std.specs.List.{Any, list_any}
use Rattle.std.proofs.lemmas.Bool.{true≢false}
use Rattle.std.proofs.lemmas.Bool.Decides.{Decides-and, Decides-like}
use Rattle.std.proofs.lemmas.Slice.Eq.{bytes_eq-Decides}
use Rattle.findings.proofs.Elements.{any_more, any_before, any_here}
use Rattle.sync_list.specs.Sets.{NamePair, same_name, same_pair, KeysAre, AddsKeys}

-- pairs are the same if both names are
pub pair_decides : (x y : NamePair) → Decides (same_pair x y) ((x.0.now ≡ y.0.now) × (x.1.now ≡ y.1.now))
pair_decides x y = Decides-and _ _ (bytes_eq-Decides x.0.now y.0.now) (bytes_eq-Decides x.1.now y.1.now)

set_or : (b x : Bool) → cond b true x ≡ true → (x ≡ true) ⊎ (b ≡ true)
set_or true x h = inr refl
set_or false x h = inl h

set_new : (b x : Bool) → b ≡ true → cond b true x ≡ true
set_new b x h = rw h refl

set_old : (b x : Bool) → x ≡ true → cond b true x ≡ true
set_old true x h = refl
set_old false x h = h

-- one more key
pub Adds-insert : {K S : Type 0} (eq : K → K → Bool) (old new : HashSet K S) (key : K) (Holds : K → Type 0) → ((q : K) → contains eq new q ≡ cond (eq key q) true (contains eq old q)) → ((q : K) → Decides (eq key q) (Holds q)) → AddsKeys eq old new Holds
Adds-insert eq old new key Holds put decides = record {
  exact = λ q. (
    λ h. elim (set_or (eq key q) (contains eq old q) (sym (put q) ∙ h)) [ inl x ↦ inl x | inr x ↦ inr ((decides q).0 x) ],
    λ h. put q ∙ elim h [ inl x ↦ set_old (eq key q) (contains eq old q) x | inr x ↦ set_new (eq key q) (contains eq old q) ((decides q).1 x) ],
  );
}

-- no key more
pub Adds-nothing : {K S : Type 0} (eq : K → K → Bool) (old new : HashSet K S) (Holds : K → Type 0) → new ≡ old → ((q : K) → ¬ Holds q) → AddsKeys eq old new Holds
Adds-nothing {K} {S} eq old new Holds same none = record {
  exact = λ q. (
    λ h. inl (sym (ap (λ (s : HashSet K S). contains eq s q) same) ∙ h),
    λ h. elim h [ inl x ↦ ap (λ (s : HashSet K S). contains eq s q) same ∙ x | inr x ↦ absurd (none q x) ],
  );
}

-- the same, in other words
pub Adds-as : {K S : Type 0} (eq : K → K → Bool) (old new : HashSet K S) (P Q : K → Type 0) → AddsKeys eq old new P → ((q : K) → P q → Q q) → ((q : K) → Q q → P q) → AddsKeys eq old new Q
Adds-as eq old new P Q adds to back = record {
  exact = λ q. (
    λ h. elim ((adds.exact q).0 h) [ inl x ↦ inl x | inr x ↦ inr (to q x) ],
    λ h. (adds.exact q).1 (elim h [ inl x ↦ inl x | inr x ↦ inr (back q x) ]),
  );
}

-- the keys of one more element
pub Adds-one_more : {K S X : Type 0} (eq : K → K → Bool) (P : K → X → Type 0) (xs : List X) (i : ℕ) (d : X) (a b c : HashSet K S) → i < length xs → AddsKeys eq a b (λ q. Any (P q) (take i xs)) → AddsKeys eq b c (λ q. P q (get_or xs i d)) → AddsKeys eq a c (λ q. Any (P q) (take (i + 1) xs))
Adds-one_more eq P xs i d a b c lt one two = record {
  exact = λ q. (
    λ h. elim ((two.exact q).0 h) [
      | inl x ↦ elim ((one.exact q).0 x) [ inl y ↦ inl y | inr y ↦ inr (any_before (P q) xs i d lt y) ]
      | inr x ↦ inr (any_here (P q) xs i d lt x)
    ],
    λ h. elim h [
      | inl x ↦ (two.exact q).1 (inl ((one.exact q).1 (inl x)))
      | inr x ↦ elim (any_more (P q) xs i d lt x) [
        | inl y ↦ (two.exact q).1 (inl ((one.exact q).1 (inr y)))
        | inr y ↦ (two.exact q).1 (inr y)
      ]
    ],
  );
}

-- a set without keys has those of no element
pub Keys-none : {K S X : Type 0} (eq : K → K → Bool) (P : K → X → Type 0) (set : HashSet K S) → set.keys ≡ [] → KeysAre eq set (λ q. Any (P q) [])
Keys-none {K} eq P set none = record {
  exact = λ q. (
    λ h. absurd (true≢false (sym h ∙ ap (list_any (eq q)) none)),
    λ h. absurd (omega (arith, h.2)),
  );
}

-- a set that has the keys of some elements, and those of one more
pub Keys-one_more : {K S X : Type 0} (eq : K → K → Bool) (P : K → X → Type 0) (xs : List X) (i : ℕ) (d : X) (a b : HashSet K S) → i < length xs → KeysAre eq a (λ q. Any (P q) (take i xs)) → AddsKeys eq a b (λ q. P q (get_or xs i d)) → KeysAre eq b (λ q. Any (P q) (take (i + 1) xs))
Keys-one_more eq P xs i d a b lt one two = record {
  exact = λ q. (
    λ h. elim ((two.exact q).0 h) [ inl x ↦ any_before (P q) xs i d lt ((one.exact q).0 x) | inr x ↦ any_here (P q) xs i d lt x ],
    λ h. elim (any_more (P q) xs i d lt h) [ inl y ↦ (two.exact q).1 (inl ((one.exact q).1 y)) | inr y ↦ (two.exact q).1 (inr y) ],
  );
}

-- one more pair
pub Adds-pair : {S : Type 0} (old new : HashSet NamePair S) (key : NamePair) (protocol message : List ℕ) → key.0.now ≡ protocol → key.1.now ≡ message → ((q : NamePair) → contains same_pair new q ≡ cond (same_pair key q) true (contains same_pair old q)) → AddsKeys same_pair old new (λ q. (protocol ≡ q.0.now) × (message ≡ q.1.now))
Adds-pair old new key protocol message first second put =
    Adds-insert same_pair old new key _ put (λ q. Decides-like _ (λ h. (sym first ∙ h.0, sym second ∙ h.1)) (λ h. (first ∙ h.0, second ∙ h.1)) (pair_decides key q))

-- one more name
pub Adds-name : {S : Type 0} (old new : HashSet (Bor (List ℕ)) S) (key : Bor (List ℕ)) (name : List ℕ) → key.now ≡ name → ((q : Bor (List ℕ)) → contains same_name new q ≡ cond (same_name key q) true (contains same_name old q)) → AddsKeys same_name old new (λ q. name ≡ q.now)
Adds-name old new key name is put =
    Adds-insert same_name old new key _ put (λ q. Decides-like _ (λ h. sym is ∙ h) (λ h. is ∙ h) (bytes_eq-Decides key.now q.now))

-- the keys of the value of an option
pub Adds-some : {K S X : Type 0} (eq : K → K → Bool) (old new : HashSet K S) (Holds : K → X → Type 0) (o : Option X) (x : X) → o ≡ Some x → AddsKeys eq old new (λ q. Holds q x) → AddsKeys eq old new (λ q. IsSomeAnd o (Holds q))
Adds-some {K} {S} {X} eq old new Holds o x e adds = let P : Option X → Type 0 = λ o. AddsKeys eq old new (λ q. IsSomeAnd o (Holds q)) in subst P (sym e) adds

-- or of no value
pub Adds-no_some : {K S X : Type 0} (eq : K → K → Bool) (old new : HashSet K S) (Holds : K → X → Type 0) (o : Option X) → o ≡ None → new ≡ old → AddsKeys eq old new (λ q. IsSomeAnd o (Holds q))
Adds-no_some {K} {S} {X} eq old new Holds o e same =
    Adds-nothing eq old new _ same (λ q h. let P : Option X → Type 0 = λ o. IsSomeAnd o (Holds q) in subst P e h)

-- what a lookup means for a pair of names
pub told_pair : {S : Type 0} (set : HashSet NamePair S) (Holds : List ℕ → List ℕ → Type 0) (key : NamePair) (protocol message : List ℕ) → key.0.now ≡ protocol → key.1.now ≡ message → KeysAre same_pair set (λ q. Holds q.0.now q.1.now) → (found : Bool) → found ≡ contains same_pair set key → Decides found (Holds protocol message)
told_pair set Holds key protocol message first second are found is =
    let h = are.exact key in (
      λ t. (let P : List ℕ → Type 0 = λ p. Holds p message in let Q : List ℕ → Type 0 = λ m. Holds key.0.now m in subst P first (subst Q second (h.0 (sym is ∙ t)))),
      λ t. is ∙ h.1 (let P : List ℕ → Type 0 = λ p. Holds p key.1.now in let Q : List ℕ → Type 0 = λ m. Holds protocol m in subst P (sym first) (subst Q (sym second) t)),
    )

-- the same for a name
pub told_name : {S : Type 0} (set : HashSet (Bor (List ℕ)) S) (Holds : List ℕ → Type 0) (key : Bor (List ℕ)) (name : List ℕ) → key.now ≡ name → KeysAre same_name set (λ q. Holds q.now) → (found : Bool) → found ≡ contains same_name set key → Decides found (Holds name)
told_name set Holds key name named are found is =
    let h = are.exact key in (λ t. subst Holds named (h.0 (sym is ∙ t)), λ t. is ∙ h.1 (subst Holds (sym named) t))
