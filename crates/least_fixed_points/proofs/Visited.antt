-- What a visit to a node that needs all of its parts finds.
use Rattle.std.proofs.Common.{◌≡◌, ◌≢◌, ◌⊎◌, ◌∙◌, inl, inr, ◌≤◌, ◌<◌, ℕ, Bool, true, false, List, [], ◌∷◌, length, sym, subst, arith, Some, eqb}
use Rattle.std.proofs.lemmas.Bool.Decides.{eqb_tells}
use Rattle.std.proofs.lemmas.Bool.{cases_lt}
use Rattle.std.specs.Prelude.{slice_get, slice_index}
use Rattle.std.specs.List.{slice_set}
use Rattle.std.proofs.lemmas.List.{get_or-set_same, get_or-set_other, length-set}
use Rattle.std.proofs.lemmas.List.{get_or_default}
use Rattle.std.proofs.lemmas.Option.{slice_get_within}
use Rattle.least_fixed_points.specs.declared.nodes.Need.{Need}
use Rattle.least_fixed_points.specs.declared.nodes.Need.TheVariants.{All}
use Rattle.least_fixed_points.specs.declared.nodes.Node.{Node}
use Rattle.least_fixed_points.specs.Derived.{all}
use Rattle.least_fixed_points.specs.Marking.{IsMarked, WaitsFor, IsOpen, Marks, Knows, Visits}
use Rattle.least_fixed_points.proofs.Growth.{Visits-settled, Visits-marked}

-- the parts of a node that are marked, up to a place
abbrev pub AreMarkedTo : List Bool → List ℕ → ℕ → Type 0
AreMarkedTo marks parts to = (j : ℕ) → j < to → j < length parts → IsMarked marks (slice_index parts j)

-- the parts up to an index are marked: those that were known to be, and those that were passed
pub marked_to : (nodes : List Node) (x : ℕ) (node : Node) (to : ℕ) (marks : List Bool) (seen : List ℕ) → Knows nodes marks seen → slice_get nodes x ≡ Some node
    → ((j : ℕ) → slice_index seen x ≤ j → j < to → j < length node.parts.items → IsMarked marks (slice_index node.parts.items j)) → AreMarkedTo marks node.parts.items to
marked_to nodes x node to marks seen knows at passed j below within = elim (cases_lt j (slice_index seen x)) [
  | inl before ↦ knows.seen_marked x node j at before within
  | inr following ↦ passed j following below within
]

same_node : (nodes : List Node) (x : ℕ) (one other : Node) → slice_get nodes x ≡ Some one → slice_get nodes x ≡ Some other → one ≡ other
same_node nodes x one other p q = let e : Some one ≡ Some other = sym p ∙ q in let same : one ≡ other = cc in same

-- more parts of one node are seen
Knows-seen : (nodes : List Node) (x : ℕ) (node : Node) (to : ℕ) (marks : List Bool) (seen : List ℕ) → Knows nodes marks seen → slice_get nodes x ≡ Some node → AreMarkedTo marks node.parts.items to → Knows nodes marks (slice_set seen x to)
Knows-seen nodes x node to marks seen knows at marked = record {
  size = knows.size;
  seen_size = length-set seen x to ∙ knows.seen_size;
  sound = knows.sound;
  seen_marked = λ user other j there below within. go user other j there below within (eqb_tells user x);
}
  where
    go : (user : ℕ) (other : Node) (j : ℕ) → slice_get nodes user ≡ Some other → j < slice_index (slice_set seen x to) user → j < length other.parts.items
        → ((eqb user x ≡ true) × (user ≡ x)) ⊎ ((eqb user x ≡ false) × (user ≢ x)) → IsMarked marks (slice_index other.parts.items j)
    go user other j there below within (inl e) =
        let P : ℕ → Type 0 = λ u. slice_get nodes u ≡ Some other in
        let same : node ≡ other = same_node nodes x node other at (subst P e.1 there) in
        let inside : x < length seen = omega (arith, slice_get_within nodes x node at, knows.seen_size) in
        let Q : ℕ → Type 0 = λ u. j < slice_index (slice_set seen x to) u in
        let R : ℕ → Type 0 = λ n. j < n in
        let L : Node → Type 0 = λ n. j < length n.parts.items in
        let M : Node → Type 0 = λ n. IsMarked marks (slice_index n.parts.items j) in
        subst M same (marked j (subst R (get_or-set_same seen x to 0 inside) (subst Q e.1 below)) (subst L (sym same) within))
    go user other j there below within (inr ne) =
        let R : ℕ → Type 0 = λ n. j < n in
        knows.seen_marked user other j there (subst R (get_or-set_other seen x user to 0 ne.1) below) within

-- a part has no mark
pub Visits-open : (nodes : List Node) (x : ℕ) (node : Node) (to : ℕ) (marks : List Bool) (work seen : List ℕ) → Knows nodes marks seen → slice_get nodes x ≡ Some node → node.need ≡ All
    → to < length node.parts.items → (¬ IsMarked marks (slice_index node.parts.items to)) → AreMarkedTo marks node.parts.items to
    → Visits nodes (x ∷ []) marks work marks work (slice_set seen x to)
Visits-open nodes x node to marks work seen knows at need within bare marked =
    Visits-settled nodes x marks work (slice_set seen x to) (Knows-seen nodes x node to marks seen knows at marked)
    (inr (λ other there.
    let same = same_node nodes x node other at there in
    let P : Node → Type 0 = λ n. WaitsFor n.need n.parts.items (IsOpen marks work) in
    let Q : Need → Type 0 = λ need. WaitsFor need node.parts.items (IsOpen marks work) in
    let part = slice_index node.parts.items to in
    subst P same (subst Q (sym need) (part, (to, within, get_or_default node.parts.items to part 0 within), inl bare))))

-- all parts are marked, and now the node is too
pub Visits-full : (nodes : List Node) (x : ℕ) (node : Node) (to : ℕ) (a : List Bool) (u : List ℕ) (b : List Bool) (v seen : List ℕ) → Knows nodes a seen → slice_get nodes x ≡ Some node → node.need ≡ All
    → length node.parts.items ≤ to → AreMarkedTo a node.parts.items to → Marks x a u b v
    → Visits nodes (x ∷ []) a u b v (slice_set seen x to)
Visits-full nodes x node to a u b v seen knows at need past marked marks =
    Visits-marked nodes x a u b v (slice_set seen x to) (Knows-seen nodes x node to a seen knows at marked) marks
    (all node at need (λ part has. knows.sound part (let M : ℕ → Type 0 = λ p. IsMarked a p in let inside = has.1 in subst M (get_or_default node.parts.items has.0 0 part has.1 ∙ has.2) (marked has.0 (omega (arith, has.1, past)) has.1))))
