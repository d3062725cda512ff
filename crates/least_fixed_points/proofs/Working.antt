-- Marking to the end: what is known while users are visited, and why the marks are exactly the derived nodes when no
-- work is left.
use Rattle.std.proofs.Common.{◌≡◌, ◌≢◌, ◌⊎◌, ◌∙◌, inl, inr, ◌<◌, ◌+◌, ℕ, zero, suc, Bool, true, false, List, [], ◌∷◌, ◌++◌, length, take, get_or, Some, refl, sym, ap, subst, arith, eqb}
use Rattle.std.specs.Prelude.{◌↔◌, slice_get}
use Rattle.std.specs.List.{Contains, slice_index_or}
use Rattle.std.specs.declared.alloc.Global.{Global}
use Rattle.std.specs.declared.vec.Vec.{Vec}
use Rattle.std.proofs.lemmas.Bool.Decides.{eqb_tells}
use Rattle.std.proofs.Math.ListN.{replicate}
use Rattle.std.proofs.lemmas.List.{take_more, length-take, get_or-replicate, length-replicate}
use Rattle.std.proofs.lemmas.List.Elements.{Contains-append_left, Contains-append_right, Contains-append_cases}
use Rattle.std.proofs.lemmas.Option.{slice_get_cases, slice_get-get_or, get_or_from_slice_get, slice_get_within}
use Rattle.least_fixed_points.specs.declared.nodes.Need.{Need}
use Rattle.least_fixed_points.specs.declared.nodes.Need.TheVariants.{All, One}
use Rattle.least_fixed_points.specs.declared.nodes.Node.{Node}
use Rattle.least_fixed_points.specs.Derived.{IsDerived, AreMarks, all, one}
use Rattle.least_fixed_points.specs.Marking.{AreUsers, IsMarked, WaitsFor, IsOpen, IsSettled, HasReason, Knows, Visits}
use Rattle.least_fixed_points.specs.Starting.{NeedsAll}
use Rattle.least_fixed_points.proofs.Growth.{the_one, has_one, marked_within, WaitsFor-like, IsOpen-grown}

-- What is known when only the users of the nodes in the work wait to be visited.
pub record Working (nodes : List Node) (rows : List (Vec ℕ Global)) (marks : List Bool) (work seen : List ℕ) : Type 0 where
  pub users : AreUsers nodes rows
  pub knows : Knows nodes marks seen
  pub worked : (k : ℕ) → Contains work k → IsMarked marks k
  pub settled : (user : ℕ) → IsSettled nodes marks work user

none_in : (k : ℕ) → ¬ Contains [] k
none_in k h = let below = h.1 in omega (arith, below)

same_some : {X : Type 0} (x y : X) → Some x ≡ Some y → x ≡ y
same_some x y e = cc

-- whether a list has a number
is_in : (xs : List ℕ) (n : ℕ) → Contains xs n ⊎ ¬ Contains xs n
is_in [] n = inr (none_in n)
is_in (x ∷ xs) n = go (eqb_tells x n) (is_in xs n)
  where
    go : ((eqb x n ≡ true) × (x ≡ n)) ⊎ ((eqb x n ≡ false) × (x ≢ n)) → Contains xs n ⊎ ¬ Contains xs n → Contains (x ∷ xs) n ⊎ ¬ Contains (x ∷ xs) n
    go (inl e) rest = inl (0, omega arith, e.1)
    go (inr ne) (inl h) = inl (suc h.0, (let below = h.1 in omega (arith, below)), h.2)
    go (inr ne) (inr none) = inr (λ h. out h.0 h.1 h.2)
      where
        out : (k : ℕ) → k < length (x ∷ xs) → slice_index_or (x ∷ xs) k n ≡ n → ⊥
        out zero below e = ne.1 e
        out (suc k) below e = none (k, omega (arith, below), e)

-- first the nodes that need all of their parts are visited
pub Working-first : (nodes : List Node) (rows : List (Vec ℕ Global)) (starters : List ℕ) (a b : List Bool) (work seen : List ℕ) → AreUsers nodes rows → ((k : ℕ) → ¬ IsMarked a k) → ((k : ℕ) → Contains starters k ↔ NeedsAll nodes k)
    → Visits nodes starters a [] b work seen → Working nodes rows b work seen
Working-first nodes rows starters a b work seen users bare exact visits = record {
  users = users;
  knows = visits.knows;
  worked = λ k c. elim (visits.grows.told k c) [ inl no_one ↦ absurd (none_in k no_one) | inr m ↦ m ];
  settled = λ user. elim (slice_get_cases nodes user).1 [
    | inl h ↦ go user h.0 h.2 h.0.need refl
    | inr h ↦ inr (λ node at. let both = sym h.1 ∙ at in let no_node : ⊥ = cc in absurd no_node)
  ];
}
  where
    go : (user : ℕ) (node : Node) → slice_get nodes user ≡ Some node → (need : Need) → node.need ≡ need → IsSettled nodes b work user
    go user node at All needs = visits.settled user ((exact user).1 (node, at, needs))
    go user node at One needs = inr (λ other there.
        let same = same_some node other (sym at ∙ there) in
        let P : Node → Type 0 = λ n. WaitsFor n.need n.parts.items (IsOpen b work) in
        let Q : Need → Type 0 = λ need. WaitsFor need node.parts.items (IsOpen b work) in
        subst P same (subst Q (sym needs) (λ part has. IsOpen-grown a [] b work visits.grows part (inl (bare part)))))

-- a node that leaves the work is within the rows
pub in_rows : (nodes : List Node) (rows : List (Vec ℕ Global)) (marks : List Bool) (work : List ℕ) (x : ℕ) (seen : List ℕ) → Working nodes rows marks (work ++ x ∷ []) seen → x < length rows
in_rows nodes rows marks work x seen w =
    let m = w.worked x (Contains-append_right work (x ∷ []) x (has_one x)) in
    omega (arith, marked_within marks x m, w.knows.size, w.users.size)

-- each of its users has a part that is derived
pub has_reason : (nodes : List Node) (rows : List (Vec ℕ Global)) (marks : List Bool) (work : List ℕ) (x : ℕ) (seen : List ℕ) (row : Vec ℕ Global) → Working nodes rows marks (work ++ x ∷ []) seen → slice_get rows x ≡ Some row
    → (user : ℕ) → Contains row.items user → HasReason nodes user
has_reason nodes rows marks work x seen row w at user has node there need =
    let part = ((w.users.exact x user).0 (row, at, has)).1 in
    let same = same_some part.0 node (sym part.1 ∙ there) in
    let In : Node → Type 0 = λ n. Contains n.parts.items x in
    one node x there need (subst In same part.2) (w.knows.sound x (w.worked x (Contains-append_right work (x ∷ []) x (has_one x))))

-- one node leaves the work, and its users are visited
pub Working-step : (nodes : List Node) (rows : List (Vec ℕ Global)) (a : List Bool) (work : List ℕ) (x : ℕ) (seen : List ℕ) (row : Vec ℕ Global) (b : List Bool) (left seen_then : List ℕ)
    → slice_get rows x ≡ Some row → Working nodes rows a (work ++ x ∷ []) seen → Visits nodes row.items a work b left seen_then → Working nodes rows b left seen_then
Working-step nodes rows a work x seen row b left seen_then at w visits = record {
  users = w.users;
  knows = visits.knows;
  worked = λ k c. elim (visits.grows.told k c) [ inl o ↦ visits.grows.kept k (w.worked k (Contains-append_left work (x ∷ []) k o)) | inr m ↦ m ];
  settled = λ user. elim (is_in row.items user) [
    | inl has ↦ visits.settled user has
    | inr out ↦ elim (w.settled user) [
      | inl m ↦ inl (visits.grows.kept user m)
      | inr waits ↦ inr (λ node there. WaitsFor-like node.need node.parts.items (IsOpen a (work ++ x ∷ [])) (IsOpen b left) (λ part has open_part. go user node part out there has open_part) (waits node there))
    ]
  ];
}
  where
    go : (user : ℕ) (node : Node) (part : ℕ) → ¬ Contains row.items user → slice_get nodes user ≡ Some node → Contains node.parts.items part → IsOpen a (work ++ x ∷ []) part → IsOpen b left part
    go user node part out there has (inl bare) = IsOpen-grown a work b left visits.grows part (inl bare)
    go user node part out there has (inr c) = elim (Contains-append_cases work (x ∷ []) part c) [
      | inl o ↦ inr (visits.grows.stays part o)
      | inr last ↦ (
          let In : ℕ → Type 0 = λ p. Contains node.parts.items p in
          let has_x = subst In (the_one x part last) has in
          let below : x < length nodes = omega (arith, slice_get_within rows x row at, w.users.size) in
          let user_of = (w.users.exact x user).1 (below, (node, there, has_x)) in
          let same = same_some user_of.0 row (sym user_of.1 ∙ at) in
          let R : Vec ℕ Global → Type 0 = λ v. Contains v.items user in
          absurd (out (subst R same user_of.2))
          )
    ]

-- with no work left, by induction on a derivation, all that is derived is marked
complete : (nodes : List Node) (rows : List (Vec ℕ Global)) (marks : List Bool) (seen : List ℕ) → Working nodes rows marks [] seen → {k : ℕ} → IsDerived nodes k → IsMarked marks k
complete nodes rows marks seen w (all {k} node at need parts) = elim (w.settled k) [
  | inl m ↦ m
  | inr waits ↦ (
      let Q : Need → Type 0 = λ need. WaitsFor need node.parts.items (IsOpen marks []) in
      let held : Q All = subst Q need (waits node at) in
      elim held.2 [ inl bare ↦ absurd (bare (complete nodes rows marks seen w (parts held.0 held.1))) | inr c ↦ absurd (none_in held.0 c) ]
      )
]
complete nodes rows marks seen w (one {k} node part at need has derived) = elim (w.settled k) [
  | inl m ↦ m
  | inr waits ↦ (
      let Q : Need → Type 0 = λ need. WaitsFor need node.parts.items (IsOpen marks []) in
      let held : Q One = subst Q need (waits node at) in
      elim (held part has) [ inl bare ↦ absurd (bare (complete nodes rows marks seen w derived)) | inr c ↦ absurd (none_in part c) ]
      )
]

-- the marks at the end
pub Working-end : (nodes : List Node) (rows : List (Vec ℕ Global)) (marks : List Bool) (seen : List ℕ) → Working nodes rows marks [] seen → AreMarks nodes marks
Working-end nodes rows marks seen w = record {
  long = w.knows.size;
  exact = λ k. (
    (λ h. w.knows.sound k (get_or_from_slice_get marks k true false h)),
    (λ h. let m = complete nodes rows marks seen w h in slice_get-get_or marks k false (marked_within marks k m) ∙ ap (λ (b : Bool). Some b) m),
  );
}

-- Starters

needs_push : (nodes : List Node) (y : Node) (k : ℕ) → NeedsAll (nodes ++ y ∷ []) k → NeedsAll nodes k ⊎ ((k ≡ length nodes) × (y.need ≡ All))
needs_push [] y zero (node, at, need) = let same : y ≡ node = cc in let P : Node → Type 0 = λ n. n.need ≡ All in inr (refl, subst P (sym same) need)
needs_push [] y (suc k) (node, at, need) = let no_node : ⊥ = cc in absurd no_node
needs_push (z ∷ nodes) y zero h = inl h
needs_push (z ∷ nodes) y (suc k) h = elim (needs_push nodes y k h) [ inl x ↦ inl x | inr x ↦ inr (omega (arith, x.0), x.1) ]

needs_left : (nodes : List Node) (y : Node) (k : ℕ) → NeedsAll nodes k → NeedsAll (nodes ++ y ∷ []) k
needs_left [] y k (node, at, need) = let no_node : ⊥ = cc in absurd no_node
needs_left (z ∷ nodes) y zero h = h
needs_left (z ∷ nodes) y (suc k) h = needs_left nodes y k h

needs_last : (nodes : List Node) (y : Node) → y.need ≡ All → NeedsAll (nodes ++ y ∷ []) (length nodes)
needs_last [] y need = (y, refl, need)
needs_last (z ∷ nodes) y need = needs_last nodes y need

-- the numbers of those of these nodes that need all of their parts
pub record AreStarters (nodes : List Node) (starters : List ℕ) : Type 0 where
  pub exact : (k : ℕ) → Contains starters k ↔ NeedsAll nodes k

pub AreStarters-none : AreStarters [] []
AreStarters-none = record { exact = λ k. (λ h. absurd (none_in k h), λ h. let at = h.1 in let no_node : ⊥ = cc in absurd no_node) }

pub AreStarters-more : (nodes : List Node) (i : ℕ) (d : Node) (starters : List ℕ) → i < length nodes → (get_or nodes i d).need ≡ All → AreStarters (take i nodes) starters → AreStarters (take (i + 1) nodes) (starters ++ i ∷ [])
AreStarters-more nodes i d starters below need old =
    let y = get_or nodes i d in
    let long : length (take i nodes) ≡ i = omega (arith, length-take i nodes, below) in
    let N : ℕ → Type 0 = λ k. NeedsAll (take i nodes ++ y ∷ []) k in
    let In : ℕ → Type 0 = λ k. Contains (starters ++ i ∷ []) k in
    rw (take_more nodes i d below)
    (record {
      exact = λ k. (
        (λ h. elim (Contains-append_cases starters (i ∷ []) k h) [
          | inl o ↦ needs_left (take i nodes) y k ((old.exact k).0 o)
          | inr last ↦ subst N (long ∙ sym (the_one i k last)) (needs_last (take i nodes) y need)
        ]),
        (λ h. elim (needs_push (take i nodes) y k h) [
          | inl o ↦ Contains-append_left starters (i ∷ []) k ((old.exact k).1 o)
          | inr e ↦ subst In (sym (e.0 ∙ long)) (Contains-append_right starters (i ∷ []) i (has_one i))
        ]),
      );
    })

pub AreStarters-other : (nodes : List Node) (i : ℕ) (d : Node) (starters : List ℕ) → i < length nodes → ((get_or nodes i d).need ≢ All) → AreStarters (take i nodes) starters → AreStarters (take (i + 1) nodes) starters
AreStarters-other nodes i d starters below other old =
    let y = get_or nodes i d in
    rw (take_more nodes i d below)
    (record {
      exact = λ k. (
        (λ h. needs_left (take i nodes) y k ((old.exact k).0 h)),
        (λ h. elim (needs_push (take i nodes) y k h) [ inl o ↦ (old.exact k).1 o | inr e ↦ absurd (other e.1) ]),
      );
    })

-- what is known at first
pub Knows-first : (nodes : List Node) (marks : List Bool) (seen : List ℕ) → length marks ≡ length nodes → ((k : ℕ) → ¬ IsMarked marks k) → seen ≡ replicate (length nodes) 0 → Knows nodes marks seen
Knows-first nodes marks seen size bare zeros = record {
  size = size;
  seen_size = ap length zeros ∙ length-replicate (length nodes) 0;
  sound = λ k m. absurd (bare k m);
  seen_marked = λ user node j at below within.
      let inside = slice_get_within nodes user node at in
      let P : List ℕ → Type 0 = λ s. j < get_or s user 0 in
      let zero_of = get_or-replicate {A = ℕ} (length nodes) user 0 0 inside in
      let less = subst P zeros below in
      let no_place : ⊥ = omega (arith, less, zero_of) in
      absurd no_place;
}

-- a starter needs no reason
pub starter_reason : (nodes : List Node) (starters : List ℕ) → ((k : ℕ) → Contains starters k ↔ NeedsAll nodes k) → (user : ℕ) → Contains starters user → HasReason nodes user
starter_reason nodes starters exact user has node at need =
    let all_of = (exact user).0 has in
    let same = same_some all_of.0 node (sym all_of.1 ∙ at) in
    let P : Node → Type 0 = λ n. n.need ≡ All in
    let both = sym need ∙ subst P same all_of.2 in
    let no_need : ⊥ = cc in
    absurd no_need
