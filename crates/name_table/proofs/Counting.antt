-- How a lookup counts what a name finds.
use Rattle.std.proofs.Common.{◌≡◌, ◌≢◌, ◌⊎◌, inl, inr, ◌∙◌, ◌<◌, ◌≤◌, ◌+◌, ℕ, Bool, true, false, List, [], ◌∷◌, ◌++◌, length, take, get_or, Option, Some, None, refl, sym, ap, subst, arith}
use Rattle.std.specs.List.{Contains}
use Rattle.std.proofs.lemmas.Bool.{cases_lt}
use Rattle.std.proofs.lemmas.List.{take_more, take_all}
use Rattle.std.proofs.lemmas.Option.{get_or_from_slice_get, slice_get-get_or}
use Rattle.std.proofs.lemmas.List.Elements.{Contains-append_cases}
use Rattle.ipdl_syntax.specs.declared.program.Entry.{Entry}
use Rattle.name_table.specs.declared.decl.DeclId.{DeclId}
use Rattle.name_table.specs.declared.decl.DeclId.TheVariants.{Builtin, Using, Struct, Union, Protocol, Endpoint}
use Rattle.name_table.specs.declared.decl.Found.{Found}
use Rattle.name_table.specs.declared.decl.Found.TheVariants as found
use Rattle.name_table.specs.Candidates.{IsCandidate, AreOne, IsBuiltinOrEndpoint}
use Rattle.name_table.specs.Declares.{full_name_of}
use Rattle.name_table.specs.Finds.{IsBefore, FindsUsing, Finds, FindsAsProtocol, Counts, endpoint_word, IsNameOfBuiltin}
use Rattle.ipdl_base.specs.declared.builtin.Builtin.{Builtin as BuiltinType}
use Rattle.name_table.proofs.BuiltinNames.{one_builtin}
use Rattle.name_table.specs.Rows.{declared_from, listed_under}
use Rattle.name_table.specs.Visible.{Sees}
use Rattle.name_table.proofs.Order.{in_none, in_cons, in_row, row_order, comes_before}
use Rattle.name_table.proofs.Seeing.{sees_shown}

-- What was found after some of a row: of the candidates there, and of what was found before the row. F is what must
-- be found, B what was found before, C the candidates, and E means that two count as one.
abbrev pub Tally : (F B C : DeclId → Type 0) → (DeclId → DeclId → Type 0) → List DeclId → Found → Type 0
Tally F B C E seen found.None = ((d : DeclId) → ¬ B d) × ((d : DeclId) → Contains seen d → ¬ C d)
Tally F B C E seen (found.One a) = F a × ((d : DeclId) → B d → d ≡ a) × ((d : DeclId) → Contains seen d → C d → E a d)
Tally F B C E seen (found.Many a b) = F a × F b × (a ≢ b)

module _ (F B C : DeclId → Type 0) (E : DeclId → DeclId → Type 0) where
  -- before the row
  pub tally_start : (f : Found) → ((d : DeclId) → B d → F d) → Counts B f → Tally F B C E [] f
  tally_start found.None into h = (h, λ d c. absurd (in_none d c))
  tally_start (found.One a) into h = (into a h.0, h.1, λ d c. absurd (in_none d c))
  tally_start (found.Many a b) into h = (into a h.0, into b h.1, h.2)

  -- a declaration that is not a candidate
  pub tally_miss : (row : List DeclId) (k : ℕ) (d : DeclId) (f : Found) → k < length row → d ≡ get_or row k d → ¬ C d → Tally F B C E (take k row) f → Tally F B C E (take (k + 1) row) f
  tally_miss row k d f below at none t =
      subst (λ (s : List DeclId). Tally F B C E s f) (sym (take_more row k d below ∙ ap (λ y. take k row ++ y ∷ []) (sym at))) (go f t)
    where
      last : (e : DeclId) → Contains (d ∷ []) e → C e → ⊥
      last e c h = elim (in_cons d [] e c) [ inl same ↦ none (subst C same h) | inr there ↦ in_none e there ]

      go : (g : Found) → Tally F B C E (take k row) g → Tally F B C E (take k row ++ d ∷ []) g
      go found.None h = (h.0, λ e c. elim (Contains-append_cases (take k row) (d ∷ []) e c) [ inl l ↦ h.1 e l | inr r ↦ last e r ])
      go (found.One a) h = (h.0, h.1, λ e c p. elim (Contains-append_cases (take k row) (d ∷ []) e c) [ inl l ↦ h.2 e l p | inr r ↦ absurd (last e r p) ])
      go (found.Many a b) h = h

  -- the first candidate
  pub tally_first : (row : List DeclId) (k : ℕ) (d : DeclId) → k < length row → d ≡ get_or row k d → E d d → F d → Tally F B C E (take k row) found.None → Tally F B C E (take (k + 1) row) (found.One d)
  tally_first row k d below at same is t =
      subst (λ (s : List DeclId). Tally F B C E s (found.One d)) (sym (take_more row k d below ∙ ap (λ y. take k row ++ y ∷ []) (sym at))) (
        is,
        (λ e b. absurd (t.0 e b)),
        λ e c p. elim (Contains-append_cases (take k row) (d ∷ []) e c) [
          | inl l ↦ absurd (t.1 e l p)
          | inr r ↦ elim (in_cons d [] e r) [ inl one ↦ subst (E d) (sym one) same | inr there ↦ absurd (in_none e there) ]
        ],
      )

  -- a candidate that is the one that was found
  pub tally_same : (row : List DeclId) (k : ℕ) (a d : DeclId) → k < length row → d ≡ get_or row k d → E a d → Tally F B C E (take k row) (found.One a) → Tally F B C E (take (k + 1) row) (found.One a)
  tally_same row k a d below at one t =
      subst (λ (s : List DeclId). Tally F B C E s (found.One a)) (sym (take_more row k d below ∙ ap (λ y. take k row ++ y ∷ []) (sym at))) (
        t.0,
        t.1,
        λ e c p. elim (Contains-append_cases (take k row) (d ∷ []) e c) [
          | inl l ↦ t.2 e l p
          | inr r ↦ elim (in_cons d [] e r) [ inl is ↦ subst (E a) (sym is) one | inr there ↦ absurd (in_none e there) ]
        ],
      )

  -- after the row everything is counted
  pub tally_end : (row : List DeclId) (f : Found) → ((d : DeclId) → F d → B d ⊎ (C d × Contains row d)) → ((a d : DeclId) → F a → F d → E a d → d ≡ a) → Tally F B C E row f → Counts F f
  tally_end row found.None cover once t = λ d h. elim (cover d h) [ inl b ↦ t.0 d b | inr c ↦ t.1 d c.1 c.0 ]
  tally_end row (found.One a) cover once t = (t.0, λ d h. elim (cover d h) [ inl b ↦ t.1 d b | inr c ↦ once a d t.0 h (t.2 d c.1 c.0) ])
  tally_end row (found.Many a b) cover once t = t

-- Protocols

pub protocol_once : (a d : DeclId) → a ≡ d → d ≡ a
protocol_once a d e = sym e

pub protocol_covered : (program : List Entry) (file : ℕ) (text : List ℕ) (d : DeclId) → FindsAsProtocol program file text d → ⊥ ⊎ (FindsAsProtocol program file text d × Contains (listed_under text (declared_from 0 program)) d)
protocol_covered program file text (Protocol p) h = inr (h, in_row program p (Protocol p) h.0 text None (refl, (sees_shown program h.1).1) h.2)
protocol_covered program file text (Using o p) h = absurd h
protocol_covered program file text (Struct o p) h = absurd h
protocol_covered program file text (Union o p) h = absurd h
protocol_covered program file text (Builtin t) h = absurd h
protocol_covered program file text (Endpoint p m) h = absurd h

-- All that is declared

pub one_through : (program : List Entry) (a d u : DeclId) → AreOne program a u → AreOne program d u → AreOne program a d
one_through program a d u (inl p) (inl q) = inl (p ∙ sym q)
one_through program a d u (inl p) (inr (f, i, o, j, q, r, e)) = inr (o, j, f, i, p ∙ r, q, ap (full_name_of program) p ∙ sym e)
one_through program a d u (inr (f, i, o, j, q, r, e)) (inl p) = inr (f, i, o, j, q, p ∙ r, e ∙ ap (full_name_of program) (sym p))
one_through program a d u (inr (f, i, o, j, q, r, e)) (inr (g, k, o', j', q', r', e')) = inr (f, i, g, k, q, q', e ∙ sym e')

-- a candidate is found if no using of its full name comes before it in the row
pub finds_new : (program : List Entry) (file : ℕ) (text : List ℕ) (argument : Option (List ℕ)) (k : ℕ) (d : DeclId)
    → k < length (listed_under text (declared_from 0 program)) → d ≡ get_or (listed_under text (declared_from 0 program)) k d
    → IsCandidate program file text argument d
    → ((u : DeclId) → Contains (take k (listed_under text (declared_from 0 program))) u → IsCandidate program file text argument u → AreOne program d u → ⊥)
    → Finds program file text argument d
finds_new program file text argument k (Struct o p) below at c new = (c.full, c.seen, c.named)
finds_new program file text argument k (Union o p) below at c new = (c.full, c.seen, c.named)
finds_new program file text argument k (Protocol o) below at c new = (c.full, c.seen, c.named)
finds_new program file text argument k (Builtin t) below at c new = absurd (sees_shown program c.seen).0
finds_new program file text argument k (Endpoint p m) below at c new = absurd (sees_shown program c.seen).0
finds_new program file text argument k (Using o p) below at c new = record {
  full = c.full;
  seen = c.seen;
  named = c.named;
  own = c.own o p refl;
  first = λ before there s late.
      let row = listed_under text (declared_from 0 program) in
      let u = Using before there in
      let mine = (sees_shown program c.seen).1 in
      let its = (sees_shown program s).1 in
      let there_is = in_row program before u c.full text argument (refl, its) c.named in
      let earlier = comes_before row k (Using o p) o p before there (row_order text program) below at refl there_is late in
      new u earlier (record { full = c.full; seen = s; named = c.named; own = λ x y e. c.own o p refl }) (inr (o, p, before, there, refl, refl, mine ∙ sym its));
}

pub found_covered : (program : List Entry) (file : ℕ) (text : List ℕ) (argument : Option (List ℕ)) (d : DeclId) → Finds program file text argument d
    → (IsBuiltinOrEndpoint d × Finds program file text argument d) ⊎ (IsCandidate program file text argument d × Contains (listed_under text (declared_from 0 program)) d)
found_covered program file text argument (Builtin t) h = inl (tt, h)
found_covered program file text argument (Endpoint p m) h = inl (tt, h)
found_covered program file text argument (Struct o p) h =
    inr (record { full = h.0; seen = h.1; named = h.2; own = λ x y e. absurd (wrong x y e) }, in_row program o (Struct o p) h.0 text argument (refl, (sees_shown program h.1).1) h.2)
  where
    wrong : (x y : ℕ) → Struct o p ≡ Using x y → ⊥
    wrong x y e = cc
found_covered program file text argument (Union o p) h =
    inr (record { full = h.0; seen = h.1; named = h.2; own = λ x y e. absurd (wrong x y e) }, in_row program o (Union o p) h.0 text argument (refl, (sees_shown program h.1).1) h.2)
  where
    wrong : (x y : ℕ) → Union o p ≡ Using x y → ⊥
    wrong x y e = cc
found_covered program file text argument (Protocol o) h =
    inr (record { full = h.0; seen = h.1; named = h.2; own = λ x y e. absurd (wrong x y e) }, in_row program o (Protocol o) h.0 text argument (refl, (sees_shown program h.1).1) h.2)
  where
    wrong : (x y : ℕ) → Protocol o ≡ Using x y → ⊥
    wrong x y e = cc
found_covered program file text argument (Using o p) h =
    inr (record { full = h.full; seen = h.seen; named = h.named; own = λ x y e. h.own }, in_row program o (Using o p) h.full text argument (refl, (sees_shown program h.seen).1) h.named)

-- two usings that count as one are the same if each is the first
same_place : (file place other there : ℕ) → ¬ IsBefore file place other there → ¬ IsBefore other there file place → (file ≡ other) × (place ≡ there)
same_place file place other there p q =
    elim (cases_lt file other) [
      | inl less ↦ absurd (p (inl less))
      | inr above ↦ elim (cases_lt other file) [
        | inl less ↦ absurd (q (inl less))
        | inr below ↦
            (let same : file ≡ other = omega (arith, above, below) in
            elim (cases_lt place there) [
              | inl less ↦ absurd (p (inr (same, less)))
              | inr high ↦ elim (cases_lt there place) [
                | inl less ↦ absurd (q (inr (sym same, less)))
                | inr low ↦ (same, omega (arith, high, low))
              ]
            ])
      ]
    ]

usings_once : (program : List Entry) (file : ℕ) (text : List ℕ) (argument : Option (List ℕ)) (f i o j : ℕ)
    → FindsUsing program file text argument f i → FindsUsing program file text argument o j → full_name_of program (Using f i) ≡ full_name_of program (Using o j) → Using o j ≡ Using f i
usings_once program file text argument f i o j p q e =
    let same : Some p.full ≡ Some q.full = sym (sees_shown program p.seen).1 ∙ e ∙ (sees_shown program q.seen).1 in
    let full : p.full ≡ q.full = cc in
    let r = same_place f i o j (q.first f i (subst (Sees program file (Using f i)) full p.seen)) (p.first o j (subst (Sees program file (Using o j)) (sym full) q.seen)) in
    ap (λ n. Using n j) (sym r.0) ∙ ap (λ n. Using f n) (sym r.1)

pub found_once : (program : List Entry) (file : ℕ) (text : List ℕ) (argument : Option (List ℕ)) (a d : DeclId) → Finds program file text argument a → Finds program file text argument d → AreOne program a d → d ≡ a
found_once program file text argument a d p q (inl e) = sym e
found_once program file text argument a d p q (inr (f, i, o, j, e, g, same)) =
    g ∙ usings_once program file text argument f i o j (subst (Finds program file text argument) e p) (subst (Finds program file text argument) g q) (ap (full_name_of program) (sym e) ∙ same ∙ ap (full_name_of program) g) ∙ sym e

-- an element that was read with any default
pub item_at : (xs : List DeclId) (k : ℕ) (a : DeclId) → k < length xs → get_or xs k a ≡ get_or xs k (get_or xs k a)
item_at xs k a below = sym (get_or_from_slice_get xs k (get_or xs k a) (get_or xs k a) (slice_get-get_or xs k a below))

-- what follows from the tally of a whole row
pub counted : (F B C : DeclId → Type 0) (E : DeclId → DeclId → Type 0) (row whole : List DeclId) (k : ℕ) (f : Found) → row ≡ whole → length row ≤ k
    → ((d : DeclId) → F d → B d ⊎ (C d × Contains whole d)) → ((a d : DeclId) → F a → F d → E a d → d ≡ a) → Tally F B C E (take k row) f → Counts F f
counted F B C E row whole k f same past cover once t =
    tally_end F B C E whole f cover once (subst (λ (s : List DeclId). Tally F B C E s f) (take_all k row past ∙ same) t)

-- Builtin types and endpoints

word_once : (m n : Bool) → endpoint_word m ≡ endpoint_word n → m ≡ n
word_once false false e = refl
word_once true true e = refl
word_once false true e = let h : 69 ≡ 77 = ap (λ (w : List ℕ). get_or w 0 0) e in absurd (omega (arith, h))
word_once true false e = let h : 77 ≡ 69 = ap (λ (w : List ℕ). get_or w 0 0) e in absurd (omega (arith, h))

-- the one endpoint of the one protocol
pub endpoint_one : (program : List Entry) (file : ℕ) (text inner : List ℕ) (managed : Bool) (p : ℕ) → text ≡ endpoint_word managed → Counts (FindsAsProtocol program file inner) (found.One (Protocol p))
    → (d : DeclId) → IsBuiltinOrEndpoint d × Finds program file text (Some inner) d → d ≡ Endpoint p managed
endpoint_one program file text inner managed p word one (Endpoint q m) h =
    let same : Protocol q ≡ Protocol p = one.1 (Protocol q) h.1.1 in
    let number : q ≡ p = cc in
    ap (λ n. Endpoint n m) number ∙ ap (Endpoint p) (word_once m managed (sym h.1.0 ∙ word))
endpoint_one program file text inner managed p word one (Builtin t) h = absurd (wrong h.1.0)
  where
    wrong : Some inner ≡ None → ⊥
    wrong e = cc
endpoint_one program file text inner managed p word one (Using o i) h = absurd h.0
endpoint_one program file text inner managed p word one (Struct o i) h = absurd h.0
endpoint_one program file text inner managed p word one (Union o i) h = absurd h.0
endpoint_one program file text inner managed p word one (Protocol o) h = absurd h.0

pub endpoint_none : (program : List Entry) (file : ℕ) (text inner : List ℕ) → Counts (FindsAsProtocol program file inner) found.None → (d : DeclId) → ¬ (IsBuiltinOrEndpoint d × Finds program file text (Some inner) d)
endpoint_none program file text inner none (Endpoint q m) h = none (Protocol q) h.1.1
endpoint_none program file text inner none (Builtin t) h = wrong h.1.0
  where
    wrong : Some inner ≡ None → ⊥
    wrong e = cc
endpoint_none program file text inner none (Using o i) h = h.0
endpoint_none program file text inner none (Struct o i) h = h.0
endpoint_none program file text inner none (Union o i) h = h.0
endpoint_none program file text inner none (Protocol o) h = h.0

pub builtin_one : (program : List Entry) (file : ℕ) (text : List ℕ) (type : BuiltinType) → IsNameOfBuiltin type text → Counts (λ d. IsBuiltinOrEndpoint d × Finds program file text None d) (found.One (Builtin type))
builtin_one program file text type named = ((tt, (refl, named)), only)
  where
    only : (d : DeclId) → IsBuiltinOrEndpoint d × Finds program file text None d → d ≡ Builtin type
    only (Builtin t) h = ap Builtin (one_builtin t type text h.1.1 named)
    only (Endpoint p m) h = absurd h.1.1
    only (Using o i) h = absurd h.0
    only (Struct o i) h = absurd h.0
    only (Union o i) h = absurd h.0
    only (Protocol o) h = absurd h.0

pub builtin_none : (program : List Entry) (file : ℕ) (text : List ℕ) → ((type : BuiltinType) → ¬ IsNameOfBuiltin type text) → Counts (λ d. IsBuiltinOrEndpoint d × Finds program file text None d) found.None
builtin_none program file text none (Builtin t) h = none t h.1.1
builtin_none program file text none (Endpoint p m) h = h.1.1
builtin_none program file text none (Using o i) h = h.0
builtin_none program file text none (Struct o i) h = h.0
builtin_none program file text none (Union o i) h = h.0
builtin_none program file text none (Protocol o) h = h.0
