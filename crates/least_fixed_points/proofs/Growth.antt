-- How marks grow.
use Rattle.std.proofs.Common.{◌≡◌, ◌≢◌, ◌⊎◌, ◌∙◌, inl, inr, ◌<◌, ◌+◌, ℕ, zero, suc, Bool, true, false, List, [], ◌∷◌, ◌++◌, length, get_or, refl, sym, ap, subst, arith, length-append, cond, eqb, true≢false}
use Rattle.std.proofs.lemmas.Bool.Decides.{eqb_tells}
use Rattle.std.proofs.lemmas.Bool.{cases_lt, cases_Bool}
use Rattle.std.proofs.Math.ListN.{get_or-eq_default}
use Rattle.std.specs.List.{Contains, slice_set, slice_index_or}
use Rattle.std.proofs.lemmas.List.{get_or-set_same, get_or-set_other, length-set}
use Rattle.std.proofs.lemmas.List.Sums.{sum_by-set}
use Rattle.std.proofs.lemmas.List.Elements.{Contains-append_left, Contains-append_right, Contains-append_cases}
use Rattle.least_fixed_points.specs.declared.nodes.Need.{Need}
use Rattle.least_fixed_points.specs.declared.nodes.Need.TheVariants.{All, One}
use Rattle.least_fixed_points.specs.declared.nodes.Node.{Node}
use Rattle.least_fixed_points.specs.Derived.{IsDerived}
use Rattle.least_fixed_points.specs.Marking.{IsMarked, unmarked, AreSeen, WaitsFor, IsOpen, IsSettled, Grows, Marks, Knows, Visits}

pub the_one : (x n : ℕ) → Contains (x ∷ []) n → n ≡ x
the_one x n (zero, below, is) = sym is
the_one x n (suc k, below, is) = absurd (omega arith)

pub has_one : (x : ℕ) → Contains (x ∷ []) x
has_one x = (0, omega arith, refl)

pub marked_within : (marks : List Bool) (n : ℕ) → IsMarked marks n → n < length marks
marked_within marks n h = elim (cases_lt n (length marks)) [
  | inl below ↦ below
  | inr above ↦ absurd (true≢false (sym h ∙ get_or-eq_default marks false above))
]

-- Growth

pub Grows-none : (marks : List Bool) (work : List ℕ) → Grows marks work marks work
Grows-none marks work = record { size = refl; kept = λ k h. h; added = λ k h. inl h; stays = λ k c. c; told = λ k c. inl c; less = omega arith }

pub Grows-then : (a : List Bool) (u : List ℕ) (b : List Bool) (v : List ℕ) (c : List Bool) (w : List ℕ) → Grows a u b v → Grows b v c w → Grows a u c w
Grows-then a u b v c w p q = record {
  size = q.size ∙ p.size;
  kept = λ k h. q.kept k (p.kept k h);
  added = λ k h. elim (q.added k h) [ inl m ↦ elim (p.added k m) [ inl o ↦ inl o | inr l ↦ inr (q.stays k l) ] | inr r ↦ inr r ];
  stays = λ k h. q.stays k (p.stays k h);
  told = λ k h. elim (q.told k h) [ inl l ↦ elim (p.told k l) [ inl o ↦ inl o | inr m ↦ inr (q.kept k m) ] | inr m ↦ inr m ];
  less = omega (arith, p.less, q.less);
}

new_or_old : (x n : ℕ) (marks : List Bool) → IsMarked (slice_set marks x true) n → IsMarked marks n ⊎ (n ≡ x)
new_or_old x n marks h = go (eqb_tells n x)
  where
    go : ((eqb n x ≡ true) × (n ≡ x)) ⊎ ((eqb n x ≡ false) × (n ≢ x)) → IsMarked marks n ⊎ (n ≡ x)
    go (inl e) = inr e.1
    go (inr ne) = inl (sym (get_or-set_other marks x n true false ne.1) ∙ h)

still : (x n : ℕ) (marks : List Bool) → x < length marks → IsMarked marks n → IsMarked (slice_set marks x true) n
still x n marks within h = go (eqb_tells n x)
  where
    go : ((eqb n x ≡ true) × (n ≡ x)) ⊎ ((eqb n x ≡ false) × (n ≢ x)) → IsMarked (slice_set marks x true) n
    go (inl e) = subst (IsMarked (slice_set marks x true)) (sym e.1) (get_or-set_same marks x true false within)
    go (inr ne) = get_or-set_other marks x n true false ne.1 ∙ h

-- a node that had a mark
pub Marks-old : (x : ℕ) (marks : List Bool) (work : List ℕ) → IsMarked marks x → Marks x marks work marks work
Marks-old x marks work has = record { grows = Grows-none marks work; marked = has; only = λ k h. inl h }

-- a node that had no mark is added to the work
pub Marks-new : (x : ℕ) (marks : List Bool) (work : List ℕ) → x < length marks → slice_index_or marks x false ≡ false → Marks x marks work (slice_set marks x true) (work ++ x ∷ [])
Marks-new x marks work within bare =
    let now : IsMarked (slice_set marks x true) x = get_or-set_same marks x true false within in
    record {
      grows = record {
        size = length-set marks x true;
        kept = λ n h. still x n marks within h;
        added = λ n h. elim (new_or_old x n marks h) [ inl m ↦ inl m | inr e ↦ inr (subst (Contains (work ++ x ∷ [])) (sym e) (Contains-append_right work (x ∷ []) x (has_one x))) ];
        stays = λ n c. Contains-append_left work (x ∷ []) n c;
        told = λ n c. elim (Contains-append_cases work (x ∷ []) n c) [ inl l ↦ inl l | inr o ↦ inr (subst (IsMarked (slice_set marks x true)) (sym (the_one x n o)) now) ];
        less =
            let f : Bool → ℕ = λ b. cond b 0 1 in
            let w : unmarked (slice_set marks x true) + f (get_or marks x false) ≡ unmarked marks + 0 = sum_by-set f marks x true false within in
            let e : f (get_or marks x false) ≡ f false = ap f bare in
            let one : f (get_or marks x false) ≡ 1 = e in
            omega (arith, length-append work (x ∷ []), w, one);
      };
      marked = now;
      only = λ n h. new_or_old x n marks h;
    }

-- Waiting

-- a need that waits for parts with a property waits for parts with a weaker property
pub WaitsFor-like : (need : Need) (parts : List ℕ) (P Q : ℕ → Type 0) → ((part : ℕ) → Contains parts part → P part → Q part) → WaitsFor need parts P → WaitsFor need parts Q
WaitsFor-like All parts P Q to w = (w.0, w.1, to w.0 w.1 w.2)
WaitsFor-like One parts P Q to w = λ part has. to part has (w part has)

-- an open part stays open while marks grow
pub IsOpen-grown : (a : List Bool) (u : List ℕ) (b : List Bool) (v : List ℕ) → Grows a u b v → (part : ℕ) → IsOpen a u part → IsOpen b v part
IsOpen-grown a u b v grows part open_part = elim open_part [
  | inr c ↦ inr (grows.stays part c)
  | inl bare ↦ elim (cases_Bool (slice_index_or b part false)) [
    | inl h ↦ elim (grows.added part h) [ inl m ↦ absurd (bare m) | inr c ↦ inr c ]
    | inr unset ↦ inl (λ h. true≢false (sym h ∙ unset))
  ]
]

-- a settled node stays settled
pub IsSettled-grown : (nodes : List Node) (a : List Bool) (u : List ℕ) (b : List Bool) (v : List ℕ) → Grows a u b v → (user : ℕ) → IsSettled nodes a u user → IsSettled nodes b v user
IsSettled-grown nodes a u b v grows user settled = elim settled [
  | inl m ↦ inl (grows.kept user m)
  | inr w ↦ inr (λ node at. WaitsFor-like node.need node.parts.items (IsOpen a u) (IsOpen b v) (λ part _. IsOpen-grown a u b v grows part) (w node at))
]

-- Visits

pub AreSeen-grown : (nodes : List Node) (a b : List Bool) (seen : List ℕ) → ((k : ℕ) → IsMarked a k → IsMarked b k) → AreSeen nodes a seen → AreSeen nodes b seen
AreSeen-grown nodes a b seen kept known = λ user node j at below within. kept _ (known user node j at below within)

pub Visits-none : (nodes : List Node) (marks : List Bool) (work seen : List ℕ) → Knows nodes marks seen → Visits nodes [] marks work marks work seen
Visits-none nodes marks work seen knows = record { grows = Grows-none marks work; knows = knows; settled = λ user c. let below = c.1 in absurd (omega arith) }

pub Visits-then : (nodes : List Node) (these those : List ℕ) (a : List Bool) (u : List ℕ) (b : List Bool) (v seen : List ℕ) (c : List Bool) (w seen_then : List ℕ)
    → Visits nodes these a u b v seen → Visits nodes those b v c w seen_then → Visits nodes (these ++ those) a u c w seen_then
Visits-then nodes these those a u b v seen c w seen_then p q = record {
  grows = Grows-then a u b v c w p.grows q.grows;
  knows = q.knows;
  settled = λ user h. elim (Contains-append_cases these those user h) [
    | inl l ↦ IsSettled-grown nodes b v c w q.grows user (p.settled user l)
    | inr r ↦ q.settled user r
  ];
}

-- one node, which is settled already
pub Visits-settled : (nodes : List Node) (x : ℕ) (marks : List Bool) (work seen : List ℕ) → Knows nodes marks seen → IsSettled nodes marks work x → Visits nodes (x ∷ []) marks work marks work seen
Visits-settled nodes x marks work seen knows settled = record {
  grows = Grows-none marks work;
  knows = knows;
  settled = λ user c. subst (IsSettled nodes marks work) (sym (the_one x user c)) settled;
}

-- one node, which is marked and is derived
pub Visits-marked : (nodes : List Node) (x : ℕ) (a : List Bool) (u : List ℕ) (b : List Bool) (v seen : List ℕ) → Knows nodes a seen → Marks x a u b v → IsDerived nodes x → Visits nodes (x ∷ []) a u b v seen
Visits-marked nodes x a u b v seen knows marks derived = record {
  grows = marks.grows;
  knows = record {
    size = marks.grows.size ∙ knows.size;
    seen_size = knows.seen_size;
    sound = λ k h. elim (marks.only k h) [ inl o ↦ knows.sound k o | inr e ↦ subst (IsDerived nodes) (sym e) derived ];
    seen_marked = AreSeen-grown nodes a b seen marks.grows.kept knows.seen_marked;
  };
  settled = λ user c. inl (subst (IsMarked b) (sym (the_one x user c)) marks.marked);
}

-- no mark
pub none_marked : (count : ℕ) (marks : List Bool) → ((k : ℕ) → k < count → slice_index_or marks k false ≡ false) → length marks ≡ count → (k : ℕ) → ¬ IsMarked marks k
none_marked count marks bare size k h =
    let below : k < count = omega (arith, marked_within marks k h, size) in
    true≢false (sym h ∙ bare k below)
