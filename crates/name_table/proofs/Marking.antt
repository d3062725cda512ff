-- How marks grow, and why all reached files have marks that are closed.
use Rattle.std.proofs.Common.{◌≡◌, ◌≢◌, ◌⊎◌, ◌∙◌, inl, inr, ◌<◌, ◌+◌, ℕ, zero, suc, Bool, true, false, List, [], ◌∷◌, ◌++◌, length, get_or, refl, sym, ap, subst, arith, Option, Some, None, IsSomeAnd, is_some, not, length-append, cond, eqb, true≢false, slice_get, ◌≤◌, take, drop, append-nil, append_assoc}
use Rattle.std.proofs.lemmas.Bool.Decides.{eqb_tells}
use Rattle.std.proofs.lemmas.Bool.{cases_lt}
use Rattle.std.proofs.Math.ListN.{get_or-eq_default}
use Rattle.std.specs.List.{Contains, slice_set, slice_index_or}
use Rattle.std.proofs.lemmas.List.{get_or-set_same, get_or-set_other, length-set, take_all, take_more, take-append-le, take-append-drop}
use Rattle.std.proofs.lemmas.List.Sums.{sum_by-set}
use Rattle.std.proofs.lemmas.List.Elements.{Contains-append_left, Contains-append_right, Contains-append_cases, Contains-get_or}
use Rattle.ipdl_syntax.specs.declared.program.Entry.{Entry}
use Rattle.name_table.specs.Declares.{Includes, IsHeader}
use Rattle.name_table.specs.Marks.{IsFollowed, Reaches, start, step, IsMarked, Marks, Joins, AreFilesOf, unmarked}

pub the_one : (x n : ℕ) → Contains (x ∷ []) n → n ≡ x
the_one x n (zero, below, is) = sym is
the_one x n (suc k, below, is) = absurd (omega arith)

pub has_one : (x : ℕ) → Contains (x ∷ []) x
has_one x = (0, omega arith, refl)

pub marked_within : (marks : List Bool) (n : ℕ) → IsMarked marks n → n < length marks
marked_within marks n h = elim (cases_lt n (length marks)) [
  | inl below ↦ below
  | inr above ↦ absurd (true≢false (sym h ∙ get_or-eq_default marks false above))
]

new_or_old : (x n : ℕ) (marks : List Bool) → IsMarked (slice_set marks x true) n → IsMarked marks n ⊎ (n ≡ x)
new_or_old x n marks h = go (eqb_tells n x)
  where
    go : ((eqb n x ≡ true) × (n ≡ x)) ⊎ ((eqb n x ≡ false) × (n ≢ x)) → IsMarked marks n ⊎ (n ≡ x)
    go (inl e) = inr e.1
    go (inr ne) = inl (sym (get_or-set_other marks x n true false ne.1) ∙ h)

still : (x n : ℕ) (marks : List Bool) → x < length marks → IsMarked marks n → IsMarked (slice_set marks x true) n
still x n marks within h = go (eqb_tells n x)
  where
    go : ((eqb n x ≡ true) × (n ≡ x)) ⊎ ((eqb n x ≡ false) × (n ≢ x)) → IsMarked (slice_set marks x true) n
    go (inl e) = subst (IsMarked (slice_set marks x true)) (sym e.1) (get_or-set_same marks x true false within)
    go (inr ne) = get_or-set_other marks x n true false ne.1 ∙ h

-- a file that had no mark is added to the work
pub marks_new : (x : ℕ) (marks : List Bool) (work : List ℕ) → x < length marks → slice_index_or marks x false ≡ false
    → Marks (x ∷ []) marks work (slice_set marks x true) (work ++ x ∷ [])
marks_new x marks work within bare =
    let now : IsMarked (slice_set marks x true) x = get_or-set_same marks x true false within in
    record {
      size = length-set marks x true;
      kept = λ n h. still x n marks within h;
      marked = λ n c b. subst (IsMarked (slice_set marks x true)) (sym (the_one x n c)) now;
      only = λ n h. elim (new_or_old x n marks h) [ inl m ↦ inl m | inr e ↦ inr (subst (Contains (x ∷ [])) (sym e) (has_one x)) ];
      added = λ n h. elim (new_or_old x n marks h) [ inl m ↦ inl m | inr e ↦ inr (subst (Contains (work ++ x ∷ [])) (sym e) (Contains-append_right work (x ∷ []) x (has_one x))) ];
      stays = λ n c. Contains-append_left work (x ∷ []) n c;
      told = λ n c. elim (Contains-append_cases work (x ∷ []) n c) [ inl l ↦ inl l | inr o ↦ inr (subst (IsMarked (slice_set marks x true)) (sym (the_one x n o)) now) ];
      less =
          let f : Bool → ℕ = λ b. cond b 0 1 in
          let w : unmarked (slice_set marks x true) + f (get_or marks x false) ≡ unmarked marks + 0 = sum_by-set f marks x true false within in
          let e : f (get_or marks x false) ≡ f false = ap f bare in
          let one : f (get_or marks x false) ≡ 1 = e in
          omega (arith, length-append work (x ∷ []), w, one);
    }

-- first these are marked, and then those
pub marks_more : (these those : List ℕ) (a : List Bool) (u : List ℕ) (b : List Bool) (v : List ℕ) (c : List Bool) (w : List ℕ)
    → Marks these a u b v → Marks those b v c w → Marks (these ++ those) a u c w
marks_more these those a u b v c w p q = record {
  size = q.size ∙ p.size;
  kept = λ n h. q.kept n (p.kept n h);
  marked = λ n h below. elim (Contains-append_cases these those n h) [ inl l ↦ q.kept n (p.marked n l below) | inr r ↦ q.marked n r (subst (λ k. n < k) (sym p.size) below) ];
  only = λ n h. elim (q.only n h) [
    | inl m ↦ elim (p.only n m) [ inl o ↦ inl o | inr l ↦ inr (Contains-append_left these those n l) ]
    | inr r ↦ inr (Contains-append_right these those n r)
  ];
  added = λ n h. elim (q.added n h) [ inl m ↦ elim (p.added n m) [ inl o ↦ inl o | inr l ↦ inr (q.stays n l) ] | inr r ↦ inr r ];
  stays = λ n h. q.stays n (p.stays n h);
  told = λ n h. elim (q.told n h) [ inl l ↦ elim (p.told n l) [ inl o ↦ inl o | inr m ↦ inr (q.kept n m) ] | inr m ↦ inr m ];
  less = omega (arith, p.less, q.less);
}

-- Marks while includes are followed: each has a derivation, those in the work are marked, and of any other marked
-- file that is followed the included files are marked.
pub record Follows (program : List Entry) (from : ℕ) (marks : List Bool) (work : List ℕ) : Type 0 where
  pub size : length marks ≡ length program
  pub begun : IsMarked marks from
  pub sound : (n : ℕ) → IsMarked marks n → Reaches program from n
  pub waiting : (n : ℕ) → Contains work n → IsMarked marks n
  pub closed : (n : ℕ) → IsMarked marks n → Contains work n ⊎ (IsFollowed program from n → (m : ℕ) → Includes program n m → m < length program → IsMarked marks m)

-- if no work is left, the files that a marked file includes are marked, and all reached files are too
pub complete : (program : List Entry) (from : ℕ) (marks : List Bool) → Follows program from marks [] → {n : ℕ} → Reaches program from n → IsMarked marks n
complete program from marks f (start below) = f.begun
complete program from marks f (step {file} {other} r along e below) =
    elim (f.closed file (complete program from marks f r)) [ inl c ↦ (let k = c.1 in absurd (omega arith)) | inr next ↦ next along other e below ]

-- the files that the entry at an index includes
pub included : (program : List Entry) (x : ℕ) (entry : Entry) → slice_get program x ≡ Some entry → (m : ℕ) → Contains entry.includes m → Includes program x m
included program x entry at m c = subst (λ (o : Option Entry). IsSomeAnd o (λ (e : Entry). Contains e.includes m)) (sym at) c

pub includes_at : (program : List Entry) (x : ℕ) (entry : Entry) → slice_get program x ≡ Some entry → (m : ℕ) → Includes program x m → Contains entry.includes m
includes_at program x entry at m i = subst (λ (o : Option Entry). IsSomeAnd o (λ (e : Entry). Contains e.includes m)) at i

-- one file leaves the work, and what it includes is marked
pub follows_more : (program : List Entry) (from : ℕ) (a : List Bool) (u : List ℕ) (x : ℕ) (entry : Entry) (b : List Bool) (v : List ℕ)
    → slice_get program x ≡ Some entry → IsFollowed program from x → Follows program from a (u ++ x ∷ []) → Marks entry.includes a u b v → Follows program from b v
follows_more program from a u x entry b v at along f m =
    let mine : IsMarked a x = f.waiting x (Contains-append_right u (x ∷ []) x (has_one x)) in
    record {
      size = m.size ∙ f.size;
      begun = m.kept from f.begun;
      sound = λ n h. elim (m.only n h) [
        | inl o ↦ f.sound n o
        | inr c ↦ step (f.sound x mine) along (included program x entry at n c) (subst (λ k. n < k) (m.size ∙ f.size) (marked_within b n h))
      ];
      waiting = λ n c. elim (m.told n c) [ inl o ↦ m.kept n (f.waiting n (Contains-append_left u (x ∷ []) n o)) | inr h ↦ h ];
      closed = λ n h. elim (m.added n h) [
        | inr c ↦ inl c
        | inl o ↦ elim (f.closed n o) [
          | inr next ↦ inr (λ l k e below. m.kept k (next l k e below))
          | inl c ↦ elim (Contains-append_cases u (x ∷ []) n c) [
            | inl l ↦ inl (m.stays n l)
            | inr l ↦ inr (λ _ k e below. m.marked k (includes_at program x entry at k (subst (λ j. Includes program j k) (the_one x n l) e)) (subst (λ j. k < j) (sym f.size) below))
          ]
        ]
      ];
    }

-- one file leaves the work that is not followed
pub follows_past : (program : List Entry) (from : ℕ) (a : List Bool) (u : List ℕ) (x : ℕ) → ¬ IsFollowed program from x → Follows program from a (u ++ x ∷ []) → Follows program from a u
follows_past program from a u x never f = record {
  size = f.size;
  begun = f.begun;
  sound = f.sound;
  waiting = λ n c. f.waiting n (Contains-append_left u (x ∷ []) n c);
  closed = λ n h. elim (f.closed n h) [
    | inr next ↦ inr next
    | inl c ↦ elim (Contains-append_cases u (x ∷ []) n c) [
      | inl l ↦ inl l
      | inr l ↦ inr (λ along. absurd (never (subst (IsFollowed program from) (the_one x n l) along)))
    ]
  ];
}

-- at first only the start is marked
pub follows_first : (program : List Entry) (from : ℕ) (a b : List Bool) (v : List ℕ) → from < length program → length a ≡ length program → ((n : ℕ) → ¬ IsMarked a n) → Marks (from ∷ []) a [] b v → Follows program from b v
follows_first program from a b v below size bare m = record {
  size = m.size ∙ size;
  begun = m.marked from (has_one from) (subst (λ k. from < k) (sym size) below);
  sound = λ n h. elim (m.only n h) [ inl o ↦ absurd (bare n o) | inr c ↦ subst (Reaches program from) (sym (the_one from n c)) (start below) ];
  waiting = λ n c. elim (m.told n c) [ inl l ↦ (let k = l.1 in absurd (omega arith)) | inr h ↦ h ];
  closed = λ n h. elim (m.added n h) [ inl o ↦ absurd (bare n o) | inr c ↦ inl c ];
}

-- the file at an index is a header if its entry has no protocol
pub header_at : (program : List Entry) (x : ℕ) (entry : Entry) → slice_get program x ≡ Some entry → entry.unit.protocol ≡ None → IsHeader program x
header_at program x entry at none = subst (λ (o : Option Entry). IsSomeAnd o (λ (e : Entry). e.unit.protocol ≡ None)) (sym at) none

pub no_protocol : (program : List Entry) (x : ℕ) (entry : Entry) → slice_get program x ≡ Some entry → IsHeader program x → entry.unit.protocol ≡ None
no_protocol program x entry at h = subst (λ (o : Option Entry). IsSomeAnd o (λ (e : Entry). e.unit.protocol ≡ None)) at h

-- what `is_none` means
pub is_none_tells : {X : Type 0} (o : Option X) (answer : Bool) → is_some o ≡ not answer → answer ≡ true → o ≡ None
is_none_tells None answer e h = refl
is_none_tells (Some x) answer e h = absurd (true≢false (e ∙ ap not h))

pub is_none_denies : {X : Type 0} (o : Option X) (answer : Bool) → is_some o ≡ not answer → answer ≡ false → ¬ (o ≡ None)
is_none_denies None answer e h none = true≢false (sym (e ∙ ap not h))
is_none_denies (Some x) answer e h none = true≢false (ap is_some none)

-- A list of files while includes are followed from one file: each file is reached, and for each followed file before
-- an index the list has the files that it includes.
pub record Walks (program : List Entry) (from : ℕ) (files : List ℕ) (next : ℕ) : Type 0 where
  pub begun : Contains files from
  pub sound : (n : ℕ) → Contains files n → Reaches program from n
  pub closed : (n : ℕ) → Contains (take next files) n → IsFollowed program from n → (m : ℕ) → Includes program n m → m < length program → Contains files m

-- a list whose files are all followed has all reached files
all_reached : (program : List Entry) (from : ℕ) (files : List ℕ) (next : ℕ) → Walks program from files next → length files ≤ next → {n : ℕ} → Reaches program from n → Contains files n
all_reached program from files next w all (start below) = w.begun
all_reached program from files next w all (step {file} {other} r along e below) =
    w.closed file (subst (λ (xs : List ℕ). Contains xs file) (sym (take_all next files all)) (all_reached program from files next w all r)) along other e below

pub walks_all : (program : List Entry) (from : ℕ) (files : List ℕ) (next : ℕ) → Walks program from files next → length files ≤ next → AreFilesOf program from files
walks_all program from files next w all file = (w.sound file, all_reached program from files next w all)

pub walks_first : (program : List Entry) (from : ℕ) → from < length program → Walks program from (from ∷ []) 0
walks_first program from below = record {
  begun = has_one from;
  sound = λ n h. subst (Reaches program from) (sym (the_one from n h)) (start below);
  closed = λ n h. (let k = h.1 in absurd (omega arith));
}

-- an index in the prefix of a longer list, or its last
front_or_last : (files more : List ℕ) (next n : ℕ) → next < length files → Contains (take (next + 1) (files ++ more)) n → Contains (take next files) n ⊎ (n ≡ get_or files next 0)
front_or_last files more next n below h =
    let longer = take-append-le (next + 1) files more (omega (arith, below)) in
    let one = take_more files next 0 below in
    elim (Contains-append_cases _ _ n (subst (λ (xs : List ℕ). Contains xs n) (longer ∙ one) h)) [ inl l ↦ inl l | inr r ↦ inr (the_one _ n r) ]

in_front : (files : List ℕ) (next n : ℕ) → Contains (take next files) n → Contains files n
in_front files next n h = subst (λ (xs : List ℕ). Contains xs n) (take-append-drop next files) (Contains-append_left _ (drop next files) n h)

-- one more file is followed
pub walks_more : (program : List Entry) (from : ℕ) (files : List ℕ) (next x : ℕ) (entry : Entry) (new : List ℕ)
    → next < length files → x ≡ get_or files next 0 → slice_get program x ≡ Some entry → IsFollowed program from x
    → Walks program from files next → Joins (length program) entry.includes files new → Walks program from new (next + 1)
walks_more program from files next x entry new below is at along w j =
    let mine : Contains files x = subst (Contains files) (sym is) (Contains-get_or files next 0 below) in
    let kept : (n : ℕ) → Contains files n → Contains new n = λ n h. subst (λ (xs : List ℕ). Contains xs n) (sym j.grown) (Contains-append_left files j.more n h) in
    record {
      begun = kept from w.begun;
      sound = λ n h. elim (Contains-append_cases files j.more n (subst (λ (xs : List ℕ). Contains xs n) j.grown h)) [
        | inl o ↦ w.sound n o
        | inr c ↦ (let fresh = j.only n c in step (w.sound x mine) along (included program x entry at n fresh.0) fresh.1)
      ];
      closed = λ n h f m e b. elim (front_or_last files j.more next n below (subst (λ (xs : List ℕ). Contains (take (next + 1) xs) n) j.grown h)) [
        | inl o ↦ kept m (w.closed n o f m e b)
        | inr last ↦ j.joined m (includes_at program x entry at m (subst (λ k. Includes program k m) (last ∙ sym is) e)) b
      ];
    }

-- one more file is passed that is not followed
pub walks_past : (program : List Entry) (from : ℕ) (files : List ℕ) (next x : ℕ) → next < length files → x ≡ get_or files next 0 → ¬ IsFollowed program from x → Walks program from files next → Walks program from files (next + 1)
walks_past program from files next x below is never w = record {
  begun = w.begun;
  sound = w.sound;
  closed = λ n h f m e b. elim (front_or_last files [] next n below (subst (λ (xs : List ℕ). Contains (take (next + 1) xs) n) (sym (append-nil files)) h)) [
    | inl o ↦ w.closed n o f m e b
    | inr last ↦ absurd (never (subst (IsFollowed program from) (last ∙ sym is) f))
  ];
}

-- a reached file is one of the program
pub reached_within : (program : List Entry) (from : ℕ) {file : ℕ} → Reaches program from file → file < length program
reached_within program from (start below) = below
reached_within program from (step r along e below) = below

-- a number that is there, or is no file, is not added
pub joins_none : (count file : ℕ) (files : List ℕ) → (file < count → Contains files file) → Joins count (file ∷ []) files files
joins_none count file files there = record {
  more = [];
  grown = sym (append-nil files);
  only = λ n h. (let k = h.1 in absurd (omega arith));
  joined = λ n h b. (let is = the_one file n h in subst (Contains files) (sym is) (there (subst (λ k. k < count) is b)));
}

-- first these files are added, and then those
pub joins_more : (count : ℕ) (these those a b c : List ℕ) → Joins count these a b → Joins count those b c → Joins count (these ++ those) a c
joins_more count these those a b c p q = record {
  more = p.more ++ q.more;
  grown = q.grown ∙ ap (λ xs. xs ++ q.more) p.grown ∙ append_assoc a p.more q.more;
  only = λ n h. elim (Contains-append_cases p.more q.more n h) [
    | inl l ↦ (let is = p.only n l in (Contains-append_left these those n is.0, is.1))
    | inr r ↦ (let is = q.only n r in (Contains-append_right these those n is.0, is.1))
  ];
  joined = λ n h below. elim (Contains-append_cases these those n h) [
    | inl l ↦ subst (λ (xs : List ℕ). Contains xs n) (sym q.grown) (Contains-append_left b q.more n (p.joined n l below))
    | inr r ↦ q.joined n r below
  ];
}
