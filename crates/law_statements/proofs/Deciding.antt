-- Tests that decide statements from tests of their parts.
use Rattle.std.proofs.Common.{◌≡◌, ◌⊎◌, inl, inr, ℤ, Bool, true, false, not, ◌&&◌, if◌then◌else◌, IsTrue, List, [], ◌∷◌, ◌++◌, Option, Some, None, refl, sym, ap, subst, ◌∙◌}
use Rattle.std.specs.Bool.{Decides}
use Rattle.std.specs.Option.{option_map_or}
use Rattle.std.specs.Ordering.{int_eq}
use Rattle.std.proofs.lemmas.Bool.Decides.{Decides-int_eq}
use Rattle.std.proofs.lemmas.Bool.{and_parts, and_from, false≢true, not-true}
use Rattle.ipdl_base.specs.declared.line.Line.{Line}
use Rattle.std.proofs.lemmas.List.{append-nil}
use Rattle.std.proofs.Common.{append_assoc}

pub itself : (b : Bool) → Decides b (IsTrue b)
itself b = (λ e. e, λ e. e)

-- two tests, the second of which decides if the first is passed
pub both-then : {P Q : Type 0} (a b : Bool) → Decides a P → (IsTrue a → Decides b Q) → Decides (a && b) (P × Q)
both-then a b p q = (λ e. (p.0 (and_parts a b e).0, (q (and_parts a b e).0).0 (and_parts a b e).1), λ e. and_from a b (p.1 e.0) ((q (p.1 e.0)).1 e.1))

pub both : {P Q : Type 0} (a b : Bool) → Decides a P → Decides b Q → Decides (a && b) (P × Q)
both a b p q = both-then a b p (λ e. q)

pub untrue : (b : Bool) → Decides (not b) (b ≡ false)
untrue b = (not-true b, λ e. ap not e)

pub recast : {P Q : Type 0} (b : Bool) → Decides b P → (P → Q) → (Q → P) → Decides b Q
recast b p to from = (λ e. to (p.0 e), λ q. p.1 (from q))

pub either : {P Q : Type 0} (a b : Bool) → Decides a P → Decides b Q → Decides (if a then true else b) (P ⊎ Q)
either {P} {Q} true b p q = (λ e. inl (p.0 e), λ e. refl)
either {P} {Q} false b p q = (λ e. inr (q.0 e), λ e. by e)
  where
    by : P ⊎ Q → b ≡ true
    by (inl x) = absurd (false≢true (p.1 x))
    by (inr x) = q.1 x

pub found : {A : Type 0} (o : Option A) (test : A → Bool) (P : A → Type 0) → ((a : A) → Decides (test a) (P a)) → Decides (option_map_or test o false) ((a : A) × (o ≡ Some a) × P a)
found {A} None test P d = (λ e. cc, λ e. cc (e.1))
found {A} (Some a) test P d = (λ e. (a, refl, (d a).0 e), λ e. by e.0 e.1 e.2)
  where
    by : (x : A) → Some a ≡ Some x → P x → test a ≡ true
    by x is p = let k : a ≡ x = cc in subst (λ (y : A). test y ≡ true) (sym k) ((d x).1 p)

-- what is true at first, and true after each line if it was true before it, is true at each place
through-from : (lines : List Line) (P : List Line → Type 0) → ((before : List Line) (line : Line) (following : List Line) → lines ≡ before ++ line ∷ following → P before → P (before ++ line ∷ []))
    → (front mid following : List Line) → P front → lines ≡ front ++ (mid ++ following) → P (front ++ mid)
through-from lines P next front [] following p e = subst P (sym (append-nil front)) p
through-from lines P next front (line ∷ mid) following p e =
    subst P (append_assoc front (line ∷ []) mid)
    (through-from lines P next (front ++ line ∷ []) mid following (next front line (mid ++ following) e p) (e ∙ sym (append_assoc front (line ∷ []) (mid ++ following))))

pub through : (lines : List Line) (P : List Line → Type 0) → P [] → ((before : List Line) (line : Line) (following : List Line) → lines ≡ before ++ line ∷ following → P before → P (before ++ line ∷ []))
    → (before following : List Line) → lines ≡ before ++ following → P before
through lines P first next before following e = through-from lines P next [] before following first e

-- a test that must fail first
pub fails-then : {P : Type 0} (a b : Bool) → Decides b P → Decides (if a then false else b) ((a ≡ false) × P)
fails-then true b p = (λ e. cc, λ e. cc (e.0))
fails-then false b p = (λ e. (refl, p.0 e), λ e. p.1 e.1)

pub is-this : (o : Option ℤ) (id : ℤ) → Decides (option_map_or (λ first. int_eq first id) o false) (o ≡ Some id)
is-this None id = (λ e. cc, λ e. cc)
is-this (Some x) id = (λ e. ap (λ (y : ℤ). Some y) ((Decides-int_eq x id).0 e), λ e. (Decides-int_eq x id).1 cc)
