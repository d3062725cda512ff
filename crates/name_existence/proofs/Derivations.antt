-- It is decided which nodes are derived.
use Rattle.std.proofs.Common.{◌≡◌, ◌⊎◌, ℕ, zero, suc, ◌<◌, List, [], ◌∷◌, Contains, Any, Some, length, slice_get, refl, sym, subst, inl, inr, ⊎_elim, arith, IsSomeAnd, ◌≤◌}
use Rattle.std.proofs.lemmas.Bool.{cases_lt, cases_eq}
use Rattle.std.proofs.lemmas.Option.{slice_get_within}
use Rattle.least_fixed_points.specs.declared.nodes.Need.{Need}
use Rattle.least_fixed_points.specs.declared.nodes.Need.TheVariants.{All, One}
use Rattle.least_fixed_points.specs.declared.nodes.Node.{Node}
use Rattle.least_fixed_points.specs.Derived.{IsDerived, all, one}
use Rattle.report_existence.proofs.Finite.{any_or_not, contains_more}
use Rattle.program_schema.proofs.Unbroken.{and_some, some_and}
use Rattle.name_existence.specs.Laws.{DerivationsAreDecided}
use Rattle.name_existence.proofs.Least.{least_or_not}
use Rattle.name_existence.proofs.Decisions.{all_or_not, contains_or_not, some_and_or_not}

-- the numbers below a number
abbrev pub numbers_below : ℕ → List ℕ
numbers_below zero = []
numbers_below (suc n) = n ∷ numbers_below n

pub is_below : (n k : ℕ) → k < n → Contains (numbers_below n) k
is_below zero k less = absurd (omega arith)
is_below (suc n) k less =
    ⊎_elim (λ (below : k < n). contains_more n (numbers_below n) k (inr (is_below n k below))) (λ (above : n ≤ k). contains_more n (numbers_below n) k (inl (omega (arith, less, above)))) (cases_lt k n)

-- the need of a node is met by marks
abbrev IsMet : List ℕ → Need → List ℕ → Type 0
IsMet marks All parts = (part : ℕ) → Contains parts part → Contains marks part
IsMet marks One parts = Any (λ part. Contains marks part) parts

abbrev Step : List Node → List ℕ → ℕ → Type 0
Step nodes marks k = IsSomeAnd (slice_get nodes k) (λ node. IsMet marks node.need node.parts.items)

met_or_not : (marks : List ℕ) (need : Need) (parts : List ℕ) → IsMet marks need parts ⊎ (IsMet marks need parts → ⊥)
met_or_not marks All parts = all_or_not (Contains marks) (contains_or_not cases_eq marks) parts
met_or_not marks One parts = any_or_not (Contains marks) (contains_or_not cases_eq marks) parts

step_derives : (nodes : List Node) (marks : List ℕ) → ((k : ℕ) → Contains marks k → IsDerived nodes k) → (k : ℕ) (node : Node) → slice_get nodes k ≡ Some node → (need : Need) → node.need ≡ need → IsMet marks need node.parts.items → IsDerived nodes k
step_derives nodes marks sound k node at All is met = all node at is (λ part c. sound part (met part c))
step_derives nodes marks sound k node at One is (i, part, below, here, marked) = one node part at is (i, below, here) (sound part marked)

-- closed marks have what a step leads to
marked : (nodes : List Node) (marks : List ℕ) → ((k : ℕ) → Contains (numbers_below (length nodes)) k → Step nodes marks k → Contains marks k) → (k : ℕ) → Step nodes marks k → Contains marks k
marked nodes marks closed k s =
    let node = some_and (slice_get nodes k) (λ node. IsMet marks node.need node.parts.items) s in
    closed k (is_below (length nodes) k (slice_get_within nodes k node.0 node.1)) s

-- from closed marks a step leads to all that is derived
derived_step : (nodes : List Node) (marks : List ℕ) → ((k : ℕ) → Contains (numbers_below (length nodes)) k → Step nodes marks k → Contains marks k) → {k : ℕ} → IsDerived nodes k → Step nodes marks k
derived_step nodes marks closed (all {k} node at is parts) =
    and_some (slice_get nodes k) (λ node. IsMet marks node.need node.parts.items) node at
    (subst (λ n. IsMet marks n node.parts.items) (sym is) (λ part c. marked nodes marks closed part (derived_step nodes marks closed (parts part c))))
derived_step nodes marks closed (one {k} node part at is c derived) =
    and_some (slice_get nodes k) (λ node. IsMet marks node.need node.parts.items) node at
    (subst (λ n. IsMet marks n node.parts.items) (sym is) (c.0, part, c.1, c.2, marked nodes marks closed part (derived_step nodes marks closed derived)))

pub derivations_are_decided : DerivationsAreDecided
derivations_are_decided nodes k =
    least_or_not (numbers_below (length nodes)) (IsDerived nodes) (Step nodes)
    (λ marks n. some_and_or_not (slice_get nodes n) (λ node. IsMet marks node.need node.parts.items) (λ node. met_or_not marks node.need node.parts.items))
    (λ marks sound n s. let node = some_and (slice_get nodes n) (λ node. IsMet marks node.need node.parts.items) s in step_derives nodes marks sound n node.0 node.1 node.0.need refl node.2)
    (λ marks closed n derived. derived_step nodes marks closed derived)
    k
