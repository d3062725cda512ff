-- The marks that decide whether types mention one that is not carried.
use Rattle.std.proofs.Common.{◌≡◌, ℕ, ◌+◌, ◌<◌, ◌≤◌, zero, suc, Bool, true, false, List, [], ◌∷◌, ◌++◌, length, get_or, take, Option, Some, None, IsSomeAnd, slice_get, ◌⊎◌, inl, inr, refl, sym, ap, subst, ◌∙◌, arith, cond}
use Rattle.std.specs.Prelude.{◌↔◌, IsTrue, MatchOption}
use Rattle.std.specs.List.{Contains, filter_map, cons_option}
use Rattle.std.proofs.Math.Numerals.{add-one}
use Rattle.std.proofs.lemmas.List.{take_more}
use Rattle.std.proofs.lemmas.List.Elements.{Contains-append_right, Contains-append_cases, Contains-push_cases}
use Rattle.std.proofs.lemmas.Option.{none-some, same_Some, slice_get_past}
use Rattle.std.proofs.lemmas.Slice.Zip.{all_zipped_more, AllZip-left, AllZip-right}
use Rattle.ipdl_base.specs.Builtins.{is_carried}
use Rattle.ipdl_base.specs.Sound.{MentionsUncarried, builtin, endpoint, in_array, in_maybe, in_unique, in_struct, in_union}
use Rattle.ipdl_base.specs.declared.schema.ParamRow.{ParamRow}
use Rattle.ipdl_base.specs.declared.schema.Shape.{Shape, Builtin, Using, Actor, Named, Array', Maybe', Unique', Endpoint}
use Rattle.ipdl_base.specs.declared.schema.TypeRow.{TypeRow}
use Rattle.ipdl_base.specs.declared.schema.TypeRow.TheVariants as row
use Rattle.least_fixed_points.specs.Derived.{IsDerived, all, one, AreMarks}
use Rattle.least_fixed_points.specs.declared.nodes.Need.TheVariants.{All, One}
use Rattle.least_fixed_points.specs.declared.nodes.Node.{Node}
use Rattle.program_schema.proofs.Lists.{place_in}
use Rattle.actor_tables.specs.Marked.{part_of, parts_of, IsNodeOf, AreNodesOf, AreMarked}
use Rattle.actor_tables.specs.declared.carried.MarkedTypes.{MarkedTypes}

-- Lists of the results of a function

nothing_in : {X : Type 0} (x : X) → ¬ Contains [] x
nothing_in x (k, lt, at) = let no : ⊥ = omega arith in no

in_cons : {X : Type 0} (o : Option X) (xs : List X) (x : X) → Contains xs x → Contains (cons_option o xs) x
in_cons None xs x h = h
in_cons (Some y) xs x h = Contains-append_right (y ∷ []) xs x h

in_first : {X : Type 0} (o : Option X) (xs : List X) (x : X) → o ≡ Some x → Contains (cons_option o xs) x
in_first {X} o xs x e = let P : Option X → Type 0 = λ p. Contains (cons_option p xs) x in subst P (sym e) (0, (let lt : 0 < length (x ∷ xs) = omega arith in lt), refl)

in_filter_map : {X Y : Type 0} (f : X → Option Y) (xs : List X) (k : ℕ) (x : X) (y : Y) → slice_get xs k ≡ Some x → f x ≡ Some y → Contains (filter_map f xs) y
in_filter_map f [] k x y at e = absurd (none-some x at)
in_filter_map f (z ∷ xs) zero x y at e = in_first (f z) (filter_map f xs) y (ap f (same_Some z x at) ∙ e)
in_filter_map f (z ∷ xs) (suc k) x y at e = in_cons (f z) (filter_map f xs) y (in_filter_map f xs k x y at e)

out_first : {X Y : Type 0} (f : X → Option Y) (x : X) (xs : List X) (ys : List Y) (y : Y) (o : Option Y) → f x ≡ o → (Contains ys y → (z : X) × Contains xs z × (f z ≡ Some y)) → Contains (cons_option o ys) y → (z : X) × Contains (x ∷ xs) z × (f z ≡ Some y)
out_first f x xs ys y None e later k = let r = later k in (r.0, Contains-append_right (x ∷ []) xs r.0 r.1, r.2)
out_first f x xs ys y (Some z) e later k = elim (Contains-append_cases (z ∷ []) ys y k) [
  | inl here ↦ elim (Contains-push_cases [] z y here) [
    | inl nowhere ↦ absurd (nothing_in y nowhere)
    | inr same ↦ (x, (0, (let lt : 0 < length (x ∷ xs) = omega arith in lt), refl), e ∙ ap Some same)
  ]
  | inr there ↦ (let r = later there in (r.0, Contains-append_right (x ∷ []) xs r.0 r.1, r.2))
]

out_filter_map : {X Y : Type 0} (f : X → Option Y) (xs : List X) (y : Y) → Contains (filter_map f xs) y → (x : X) × Contains xs x × (f x ≡ Some y)
out_filter_map f [] y h = absurd (nothing_in y h)
out_filter_map f (x ∷ xs) y h = out_first f x xs (filter_map f xs) y (f x) refl (out_filter_map f xs y) h

-- Shapes and their marks

-- a shape mentions a type that is not carried if the type of its mark does
part_mentions : (rows : List TypeRow) (s : Shape) (p : ℕ) → part_of s ≡ Some p → ((t : ℕ) → p ≡ t + 1 → MentionsUncarried rows (Named t)) → MentionsUncarried rows s
part_mentions rows (Builtin b) p e of = go (is_carried b) refl e
  where
    go : (c : Bool) → is_carried b ≡ c → cond c None (Some 0) ≡ Some p → MentionsUncarried rows (Builtin b)
    go true is h = absurd (none-some p h)
    go false is h = builtin is
part_mentions rows (Using name) p e of = absurd (none-some p e)
part_mentions rows (Actor protocol nullable) p e of = absurd (none-some p e)
part_mentions rows (Named number) p e of = of number (sym (same_Some (number + 1) p e))
part_mentions rows (Array' at s) p e of = in_array (part_mentions rows s p e of)
part_mentions rows (Maybe' at s) p e of = in_maybe (part_mentions rows s p e of)
part_mentions rows (Unique' at s) p e of = in_unique (part_mentions rows s p e of)
part_mentions rows (Endpoint protocol managed) p e of = endpoint

-- the mark of a shape that mentions a type that is not carried: the first one, or that of a type that mentions one
abbrev HasMark : List TypeRow → Shape → Type 0
HasMark rows s = (p : ℕ) × (part_of s ≡ Some p) × ((p ≡ 0) ⊎ ((t : ℕ) × (p ≡ t + 1) × MentionsUncarried rows (Named t)))

has_mark : (rows : List TypeRow) {s : Shape} → MentionsUncarried rows s → HasMark rows s
has_mark rows (builtin {b} is) = (0, ap (λ c. cond c None (Some 0)) is, inl refl)
has_mark rows endpoint = (0, refl, inl refl)
has_mark rows (in_array h) = has_mark rows h
has_mark rows (in_maybe h) = has_mark rows h
has_mark rows (in_unique h) = has_mark rows h
has_mark rows (in_struct {t} name fields field at contains h) = (t + 1, refl, inr (t, refl, in_struct name fields field at contains h))
has_mark rows (in_union {t} name components component at contains h) = (t + 1, refl, inr (t, refl, in_union name components component at contains h))

-- what a mark means for a shape
set_mark : (types : MarkedTypes) (s : Shape) → AreMarked types → MentionsUncarried types.rows.items s → (p : ℕ) × (part_of s ≡ Some p) × (slice_get types.marks.items p ≡ Some true)
set_mark types s are h =
    let m = has_mark types.rows.items h in
    let P : ℕ → Type 0 = λ p. slice_get types.marks.items p ≡ Some true in
    (m.0, m.1, elim m.2 [ inl none ↦ subst P (sym none) are.first | inr type ↦ subst P (sym type.1) ((are.each type.0).1 type.2) ])

pub mark_tells : (types : MarkedTypes) (s : Shape) (p : ℕ) (mark : Bool) → AreMarked types → Some p ≡ part_of s → slice_get types.marks.items p ≡ Some mark → IsTrue mark ↔ MentionsUncarried types.rows.items s
mark_tells types s p mark are part at = (
  (λ is. part_mentions types.rows.items s p (sym part) (λ t e. (are.each t).0 (subst (λ (k : ℕ). slice_get types.marks.items k ≡ Some true) e (at ∙ ap Some is)))),
  (λ h.
      let m = set_mark types s are h in
      let same : m.0 ≡ p = same_Some m.0 p (sym m.1 ∙ sym part) in
      same_Some mark true (sym at ∙ subst (λ (k : ℕ). slice_get types.marks.items k ≡ Some true) same m.2)),
)

pub past_marks : (types : MarkedTypes) (s : Shape) (p : ℕ) → AreMarked types → Some p ≡ part_of s → length types.marks.items ≤ p → ¬ MentionsUncarried types.rows.items s
past_marks types s p are part past h =
    let m = set_mark types s are h in
    let same : m.0 ≡ p = same_Some m.0 p (sym m.1 ∙ sym part) in
    none-some true (sym (slice_get_past types.marks.items p past) ∙ subst (λ (k : ℕ). slice_get types.marks.items k ≡ Some true) same m.2)

pub no_mark : (types : MarkedTypes) (s : Shape) → AreMarked types → None ≡ part_of s → ¬ MentionsUncarried types.rows.items s
no_mark types s are none h = let m = set_mark types s are h in none-some m.0 (none ∙ m.1)

-- Nodes

following : {X : Type 0} (x : X) (xs : List X) (t : ℕ) → slice_get (x ∷ xs) (t + 1) ≡ slice_get xs t
following x xs t = rw add-one refl

module _ (rows : List TypeRow) (nodes : List Node) (are : AreNodesOf rows nodes) where
  at_first : slice_get nodes 0 ≡ Some are.first
  at_first = ap (λ (ns : List Node). slice_get ns 0) are.is

  at_type : (t : ℕ) → slice_get nodes (t + 1) ≡ slice_get are.rest t
  at_type t = ap (λ (ns : List Node). slice_get ns (t + 1)) are.is ∙ following are.first are.rest t

  first_derived : IsDerived nodes 0
  first_derived = all are.first at_first are.need (λ part h. absurd (nothing_in part (subst (λ (ps : List ℕ). Contains ps part) are.none h)))

  node_of : (t : ℕ) (r : TypeRow) → slice_get rows t ≡ Some r → (node : Node) × (slice_get nodes (t + 1) ≡ Some node) × IsNodeOf r node
  node_of t r at = found (slice_get are.rest t) refl (here (slice_get rows t) at (AllZip-left IsNodeOf rows are.rest are.each t))
    where
      here : (o : Option TypeRow) → o ≡ Some r → MatchOption o (Unit {0}) (λ x. IsSomeAnd (slice_get are.rest t) (IsNodeOf x)) → IsSomeAnd (slice_get are.rest t) (IsNodeOf r)
      here o e h = let P : Option TypeRow → Type 0 = λ p. MatchOption p (Unit {0}) (λ x. IsSomeAnd (slice_get are.rest t) (IsNodeOf x)) in subst P e h

      found : (o : Option Node) → slice_get are.rest t ≡ o → IsSomeAnd o (IsNodeOf r) → (node : Node) × (slice_get nodes (t + 1) ≡ Some node) × IsNodeOf r node
      found None e h = absurd h
      found (Some node) e h = (node, at_type t ∙ e, h)

  row_of : (t : ℕ) (node : Node) → slice_get nodes (t + 1) ≡ Some node → (r : TypeRow) × (slice_get rows t ≡ Some r) × IsNodeOf r node
  row_of t node at = found (slice_get rows t) refl (here (slice_get are.rest t) (sym (at_type t) ∙ at) (AllZip-right IsNodeOf rows are.rest are.each t))
    where
      here : (o : Option Node) → o ≡ Some node → MatchOption o (Unit {0}) (λ n. IsSomeAnd (slice_get rows t) (λ x. IsNodeOf x n)) → IsSomeAnd (slice_get rows t) (λ x. IsNodeOf x node)
      here o e h = let P : Option Node → Type 0 = λ p. MatchOption p (Unit {0}) (λ n. IsSomeAnd (slice_get rows t) (λ x. IsNodeOf x n)) in subst P e h

      found : (o : Option TypeRow) → slice_get rows t ≡ o → IsSomeAnd o (λ x. IsNodeOf x node) → (r : TypeRow) × (slice_get rows t ≡ Some r) × IsNodeOf r node
      found None e h = absurd h
      found (Some r) e h = (r, e, h)

  -- a shape that mentions a type that is not carried has a mark that is derived
  derived_mark : {s : Shape} → MentionsUncarried rows s → (p : ℕ) × (part_of s ≡ Some p) × IsDerived nodes p
  derived_mark (builtin {b} is) = (0, ap (λ c. cond c None (Some 0)) is, first_derived)
  derived_mark endpoint = (0, refl, first_derived)
  derived_mark (in_array h) = derived_mark h
  derived_mark (in_maybe h) = derived_mark h
  derived_mark (in_unique h) = derived_mark h
  derived_mark (in_struct {t} name fields field at contains h) =
      let m = derived_mark h in
      let n = node_of t (row.Struct name fields) at in
      let k = place_in fields field contains in
      let c : Contains n.0.parts.items m.0 = subst (λ (ps : List ℕ). Contains ps m.0) (sym n.2.parts) (in_filter_map (λ (f : ParamRow). part_of f.shape) fields k.0 field m.0 k.1 m.1) in
      (t + 1, refl, one n.0 m.0 n.1 n.2.need c m.2)
  derived_mark (in_union {t} name components component at contains h) =
      let m = derived_mark h in
      let n = node_of t (row.Union name components) at in
      let k = place_in components component contains in
      let c : Contains n.0.parts.items m.0 = subst (λ (ps : List ℕ). Contains ps m.0) (sym n.2.parts) (in_filter_map part_of components k.0 component m.0 k.1 m.1) in
      (t + 1, refl, one n.0 m.0 n.1 n.2.need c m.2)

  from_part : (t : ℕ) (r : TypeRow) (part : ℕ) → slice_get rows t ≡ Some r → Contains (parts_of r) part → ((u : ℕ) → part ≡ u + 1 → MentionsUncarried rows (Named u)) → MentionsUncarried rows (Named t)
  from_part t (row.Struct name fields) part at contains of =
      let f = out_filter_map (λ (f : ParamRow). part_of f.shape) fields part contains in
      in_struct name fields f.0 at f.1 (part_mentions rows f.0.shape part f.2 of)
  from_part t (row.Union name components) part at contains of =
      let s = out_filter_map part_of components part contains in
      in_union name components s.0 at s.1 (part_mentions rows s.0 part s.2 of)

  -- a type whose mark is derived mentions one
  derived_mentions : {k : ℕ} → IsDerived nodes k → (t : ℕ) → k ≡ t + 1 → MentionsUncarried rows (Named t)
  derived_mentions (all {k} node at need each) t e =
      let r = row_of t node (subst (λ (j : ℕ). slice_get nodes j ≡ Some node) e at) in
      let both : One ≡ All = sym r.2.need ∙ need in
      absurd (let no : ⊥ = cc in no)
  derived_mentions (one {k} node part at need contains sub) t e =
      let r = row_of t node (subst (λ (j : ℕ). slice_get nodes j ≡ Some node) e at) in
      from_part t r.0 part r.1 (subst (λ (ps : List ℕ). Contains ps part) r.2.parts contains) (λ u f. derived_mentions sub u f)

pub marked : (types : MarkedTypes) (nodes : List Node) → AreNodesOf types.rows.items nodes → AreMarks nodes types.marks.items → AreMarked types
marked types nodes are marks = record {
  first = (marks.exact 0).1 (first_derived types.rows.items nodes are);
  each = λ number. (
    (λ is. derived_mentions types.rows.items nodes are ((marks.exact (number + 1)).0 is) number refl),
    (λ h.
        let m = derived_mark types.rows.items nodes are h in
        (marks.exact (number + 1)).1 (subst (IsDerived nodes) (sym (same_Some (number + 1) m.0 m.1)) m.2)),
  );
}

-- one more row
nodes_more : (rows : List TypeRow) (nodes : List Node) (r : TypeRow) (node : Node) → AreNodesOf rows nodes → IsNodeOf r node → AreNodesOf (rows ++ r ∷ []) (nodes ++ node ∷ [])
nodes_more rows nodes r node are is = record {
  first = are.first;
  rest = are.rest ++ node ∷ [];
  is = ap (λ (ns : List Node). ns ++ node ∷ []) are.is;
  need = are.need;
  none = are.none;
  each = all_zipped_more IsNodeOf rows are.rest r node are.each is;
}

pub nodes_first : (nodes old : List Node) (node : Node) → nodes ≡ old ++ node ∷ [] → old ≡ [] → node.need ≡ All → node.parts.items ≡ [] → AreNodesOf [] nodes
nodes_first nodes old node is none need parts = record {
  first = node;
  rest = [];
  is = is ∙ ap (λ (ns : List Node). ns ++ node ∷ []) none;
  need = need;
  none = parts;
  each = tt;
}

pub nodes_next : (rows : List TypeRow) (nodes new : List Node) (i : ℕ) (r : TypeRow) (node : Node) → i < length rows → r ≡ get_or rows i r → AreNodesOf (take i rows) nodes → IsNodeOf r node → new ≡ nodes ++ node ∷ [] → AreNodesOf (take (i + 1) rows) new
nodes_next rows nodes new i r node below at are is more =
    let prefix : take (i + 1) rows ≡ take i rows ++ r ∷ [] = take_more rows i r below ∙ ap (λ (x : TypeRow). take i rows ++ x ∷ []) (sym at) in
    subst (λ (xs : List TypeRow). AreNodesOf xs new) (sym prefix) (subst (AreNodesOf (take i rows ++ r ∷ [])) (sym more) (nodes_more (take i rows) nodes r node are is))
