-- What is listed, and in which order.
use Rattle.std.proofs.Common.{◌≡◌, ◌⊎◌, inl, inr, ◌∙◌, ◌<◌, ◌≤◌, ◌+◌, ℕ, zero, suc, Bool, true, false, true≢false, cond, ◌||◌, ◌&&◌, not, List, [], ◌∷◌, ◌++◌, length, take, get_or, map, filter, Option, Some, None, slice_get, option_map, refl, sym, ap, subst, arith}
use Rattle.std.specs.Prelude.{option_and_then, ◌==◌}
use Rattle.std.specs.List.{Contains, list_any, before_first}
use Rattle.std.specs.Str.{bytes_eq}
use Rattle.std.proofs.lemmas.List.Elements.{Contains-append_left, Contains-append_right, Contains-append_cases}
use Rattle.std.proofs.lemmas.Option.{slice_get-map}
use Rattle.ipdl_base.specs.Words.{short_name}
use Rattle.ipdl_syntax.specs.declared.program.Entry.{Entry}
use Rattle.ipdl_syntax.specs.declared.tree.ProtocolDecl.{ProtocolDecl}
use Rattle.name_table.specs.declared.decl.DeclId.{DeclId}
use Rattle.name_table.specs.declared.decl.DeclId.TheVariants.{Builtin, Using, Struct, Union, Protocol, Endpoint}
use Rattle.name_table.specs.Declares.{file_of, full_name_in, Declares}
use Rattle.name_table.specs.Finds.{IsBefore, IsNameOf}
use Rattle.name_table.specs.Rows.{numbered, protocol_in, declared_in, declared_from, is_listed_under, listed_under}
use Rattle.name_table.proofs.FullNames.{whole_name-front, contains_not}
use Rattle.name_table.proofs.Listing.{bytes_eq-same}

-- Members of lists

pub in_front : {X : Type 0} (x : X) (xs : List X) → Contains (x ∷ xs) x
in_front x xs = (0, omega arith, refl)

pub in_tail : {X : Type 0} (x : X) (xs : List X) (y : X) → Contains xs y → Contains (x ∷ xs) y
in_tail x xs y c = Contains-append_right (x ∷ []) xs y c

pub in_cons : {X : Type 0} (x : X) (xs : List X) (y : X) → Contains (x ∷ xs) y → (y ≡ x) ⊎ Contains xs y
in_cons x xs y (zero, below, is) = inl (sym is)
in_cons x xs y (suc k, below, is) = inr (k, omega (arith, below), is)

pub in_none : {X : Type 0} (y : X) → ¬ Contains [] y
in_none y c = let k = c.1 in absurd (omega arith)

-- All that is declared is listed

numbered_at : (make : ℕ → DeclId) (place : ℕ) (names : List (List ℕ)) (i : ℕ) (full : List ℕ) → slice_get names i ≡ Some full → Contains (numbered make place names) (make (place + i), full)
numbered_at make place [] i full e = elim (wrong e) [ ]
  where
    wrong : None ≡ Some full → ⊥
    wrong q = cc
numbered_at make place (name ∷ names) zero full e =
    let same : name ≡ full = cc in
    let at : place ≡ place + 0 = omega arith in
    subst (λ (x : DeclId × List ℕ). Contains ((make place, name) ∷ numbered make (place + 1) names) x) (ap (λ n. (make n, name)) at ∙ ap (λ f. (make (place + 0), f)) same) (in_front (make place, name) (numbered make (place + 1) names))
numbered_at make place (name ∷ names) (suc i) full e =
    let at : place + 1 + i ≡ place + suc i = omega arith in
    in_tail (make place, name) (numbered make (place + 1) names) (make (place + suc i), full) (subst (λ n. Contains (numbered make (place + 1) names) (make n, full)) at (numbered_at make (place + 1) names i full e))

placed : {X : Type 0} (full_of : X → List ℕ) (xs : List X) (make : ℕ → DeclId) (i : ℕ) (full : List ℕ) → option_map full_of (slice_get xs i) ≡ Some full → Contains (numbered make 0 (map full_of xs)) (make i, full)
placed full_of xs make i full e =
    let at : 0 + i ≡ i = omega arith in
    subst (λ n. Contains (numbered make 0 (map full_of xs)) (make n, full)) at (numbered_at make 0 (map full_of xs) i full (slice_get-map full_of xs i ∙ e))

in_file : (f : ℕ) (entry : Entry) (d : DeclId) (full : List ℕ) → file_of d ≡ Some f → full_name_in entry d ≡ Some full → Contains (declared_in f entry) (d, full)
in_file f entry (Using file place) full at is =
    let same : f ≡ file = cc in
    subst (λ g. Contains (declared_in g entry) (Using file place, full)) (sym same)
    (Contains-append_left _ _ (Using file place, full) (placed (λ u. u.full) entry.unit.usings (Using file) place full is))
in_file f entry (Struct file place) full at is =
    let same : f ≡ file = cc in
    subst (λ g. Contains (declared_in g entry) (Struct file place, full)) (sym same)
    (Contains-append_right (numbered (Using file) 0 (map (λ u. u.full) entry.unit.usings)) _ (Struct file place, full)
    (Contains-append_left _ _ (Struct file place, full) (placed (λ s. s.full) entry.unit.structs (Struct file) place full is)))
in_file f entry (Union file place) full at is =
    let same : f ≡ file = cc in
    subst (λ g. Contains (declared_in g entry) (Union file place, full)) (sym same)
    (Contains-append_right (numbered (Using file) 0 (map (λ u. u.full) entry.unit.usings)) _ (Union file place, full)
    (Contains-append_right (numbered (Struct file) 0 (map (λ s. s.full) entry.unit.structs)) _ (Union file place, full)
    (Contains-append_left _ _ (Union file place, full) (placed (λ u. u.full) entry.unit.unions (Union file) place full is))))
in_file f entry (Protocol file) full at is =
    let same : f ≡ file = cc in
    subst (λ g. Contains (declared_in g entry) (Protocol file, full)) (sym same)
    (Contains-append_right (numbered (Using file) 0 (map (λ u. u.full) entry.unit.usings)) _ (Protocol file, full)
    (Contains-append_right (numbered (Struct file) 0 (map (λ s. s.full) entry.unit.structs)) _ (Protocol file, full)
    (Contains-append_right (numbered (Union file) 0 (map (λ u. u.full) entry.unit.unions)) _ (Protocol file, full)
    (there entry.unit.protocol is))))
  where
    there : (o : Option ProtocolDecl) → option_map (λ p. p.full) o ≡ Some full → Contains (protocol_in file o) (Protocol file, full)
    there None e = elim (wrong e) [ ]
      where
        wrong : None ≡ Some full → ⊥
        wrong q = cc
    there (Some p) e = let same : p.full ≡ full = cc in subst (λ g. Contains (protocol_in file (Some p)) (Protocol file, g)) same (in_front (Protocol file, p.full) [])
in_file f entry (Builtin type) full at is = elim (wrong at) [ ]
  where
    wrong : None ≡ Some f → ⊥
    wrong q = cc
in_file f entry (Endpoint p managed) full at is = elim (wrong at) [ ]
  where
    wrong : None ≡ Some f → ⊥
    wrong q = cc

in_program : (from : ℕ) (program : List Entry) (k : ℕ) (entry : Entry) (x : DeclId × List ℕ) → slice_get program k ≡ Some entry → Contains (declared_in (from + k) entry) x → Contains (declared_from from program) x
in_program from [] k entry x e c = elim (wrong e) [ ]
  where
    wrong : None ≡ Some entry → ⊥
    wrong q = cc
in_program from (e' ∷ program) zero entry x e c =
    let same : entry ≡ e' = cc in
    let at : from + 0 ≡ from = omega arith in
    Contains-append_left _ _ x (subst (λ n. Contains (declared_in n e') x) at (subst (λ e. Contains (declared_in (from + 0) e) x) same c))
in_program from (e' ∷ program) (suc k) entry x e c =
    let at : from + suc k ≡ from + 1 + k = omega arith in
    Contains-append_right (declared_in from e') _ x (in_program (from + 1) program k entry x e (subst (λ n. Contains (declared_in n entry) x) at c))

pub all_declared : (program : List Entry) (file : ℕ) (d : DeclId) (full : List ℕ) → Declares program file d full → Contains (declared_from 0 program) (d, full)
all_declared program file d full (at, is) =
    go (slice_get program file) refl (sym (ap (λ (o : Option ℕ). option_and_then (λ f. option_and_then (λ entry. full_name_in entry d) (slice_get program f)) o) at) ∙ is)
  where
    wrong : None ≡ Some full → ⊥
    wrong e = cc

    go : (o : Option Entry) → slice_get program file ≡ o → option_and_then (λ entry. full_name_in entry d) (slice_get program file) ≡ Some full → Contains (declared_from 0 program) (d, full)
    go None e h = absurd (wrong (sym (ap (λ (o : Option Entry). option_and_then (λ entry. full_name_in entry d) o) e) ∙ h))
    go (Some entry) e h =
        let zero_on : 0 + file ≡ file = omega arith in
        in_program 0 program file entry (d, full) e (subst (λ n. Contains (declared_in n entry) (d, full)) (sym zero_on)
        (in_file file entry d full at (sym (ap (λ (o : Option Entry). option_and_then (λ entry'. full_name_in entry' d) o) e) ∙ h)))

-- a name is listed under its text
pub name_listed : (text : List ℕ) (argument : Option (List ℕ)) (full : List ℕ) → IsNameOf text argument full → is_listed_under text full ≡ true
name_listed text argument full (inl h) =
    let front : bytes_eq text (before_first (λ b. b == 60) full) ≡ true = ap (bytes_eq text) (ap (before_first (λ b. b == 60)) h.0 ∙ whole_name-front text argument h.1) ∙ bytes_eq-same text in
    ap (λ (t : Bool). t || (not (list_any (λ b. b == 60) full) && bytes_eq text (short_name full))) front
name_listed text argument full (inr h) =
    ap (λ (t : Bool). bytes_eq text (before_first (λ b. b == 60) full) || (not t && bytes_eq text (short_name full))) (contains_not 60 full h.2)
    ∙ ap (λ (t : Bool). bytes_eq text (before_first (λ b. b == 60) full) || t) (ap (bytes_eq text) h.1 ∙ bytes_eq-same text)
    ∙ always (bytes_eq text (before_first (λ b. b == 60) full))
  where
    always : (b : Bool) → b || true ≡ true
    always true = refl
    always false = refl

in_listed : (text : List ℕ) (all : List (DeclId × List ℕ)) (d : DeclId) (full : List ℕ) → Contains all (d, full) → is_listed_under text full ≡ true → Contains (listed_under text all) d
in_listed text [] d full c e = absurd (in_none (d, full) c)
in_listed text (x ∷ all) d full c e = go (is_listed_under text x.1) refl (in_cons x all (d, full) c) (λ k. in_listed text all d full k e)
  where
    go : (b : Bool) → is_listed_under text x.1 ≡ b → ((d, full) ≡ x) ⊎ Contains all (d, full) → (Contains all (d, full) → Contains (listed_under text all) d)
        → Contains (map (λ (p : DeclId × List ℕ). p.0) (cond (is_listed_under text x.1) (x ∷ filter (λ p. is_listed_under text p.1) all) (filter (λ p. is_listed_under text p.1) all))) d
    go true t (inl same) rest =
        subst (λ (b : Bool). Contains (map (λ (p : DeclId × List ℕ). p.0) (cond b (x ∷ filter (λ p. is_listed_under text p.1) all) (filter (λ p. is_listed_under text p.1) all))) d) (sym t)
        (subst (λ (y : DeclId). Contains (y ∷ listed_under text all) d) (ap (λ (p : DeclId × List ℕ). p.0) same) (in_front d (listed_under text all)))
    go true t (inr there) rest =
        subst (λ (b : Bool). Contains (map (λ (p : DeclId × List ℕ). p.0) (cond b (x ∷ filter (λ p. is_listed_under text p.1) all) (filter (λ p. is_listed_under text p.1) all))) d) (sym t)
        (in_tail x.0 (listed_under text all) d (rest there))
    go false t (inl same) rest = absurd (true≢false (sym e ∙ ap (λ (p : DeclId × List ℕ). is_listed_under text p.1) same ∙ t))
    go false t (inr there) rest =
        subst (λ (b : Bool). Contains (map (λ (p : DeclId × List ℕ). p.0) (cond b (x ∷ filter (λ p. is_listed_under text p.1) all) (filter (λ p. is_listed_under text p.1) all))) d) (sym t) (rest there)

-- a declaration that a text names is in the row of the text
pub in_row : (program : List Entry) (file : ℕ) (d : DeclId) (full text : List ℕ) (argument : Option (List ℕ)) → Declares program file d full → IsNameOf text argument full → Contains (listed_under text (declared_from 0 program)) d
in_row program file d full text argument is named = in_listed text (declared_from 0 program) d full (all_declared program file d full is) (name_listed text argument full named)

-- a listed declaration is one of the given ones
from_listed : (text : List ℕ) (all : List (DeclId × List ℕ)) (d : DeclId) → Contains (listed_under text all) d → (full : List ℕ) × Contains all (d, full)
from_listed text [] d c = absurd (in_none d c)
from_listed text (x ∷ all) d c = go (is_listed_under text x.1) c (from_listed text all d)
  where
    go : (b : Bool) → Contains (map (λ (p : DeclId × List ℕ). p.0) (cond b (x ∷ filter (λ p. is_listed_under text p.1) all) (filter (λ p. is_listed_under text p.1) all))) d
        → (Contains (listed_under text all) d → (full : List ℕ) × Contains all (d, full)) → (full : List ℕ) × Contains (x ∷ all) (d, full)
    go true k rest = elim (in_cons x.0 (listed_under text all) d k) [
      | inl same ↦ (x.1, subst (λ (y : DeclId). Contains (x ∷ all) (y, x.1)) (sym same) (in_front x all))
      | inr there ↦ (let r = rest there in (r.0, in_tail x all (d, r.0) r.1))
    ]
    go false k rest = let r = rest k in (r.0, in_tail x all (d, r.0) r.1)

-- Usings come in their order

-- no using in the list is before this file and place
abbrev Following : ℕ → ℕ → List (DeclId × List ℕ) → Type 0
Following file place all = (other there : ℕ) (full : List ℕ) → Contains all (Using other there, full) → ¬ IsBefore other there file place

-- after each using there is no using that is before it
abbrev InOrder : List (DeclId × List ℕ) → Type 0
InOrder [] = Unit {0}
InOrder (x ∷ all) = ((file place : ℕ) → x.0 ≡ Using file place → Following file place all) × InOrder all

abbrev NoUsings : List (DeclId × List ℕ) → Type 0
NoUsings all = (file place : ℕ) (full : List ℕ) → ¬ Contains all (Using file place, full)

no_usings_order : (all : List (DeclId × List ℕ)) → NoUsings all → InOrder all
no_usings_order [] none = tt
no_usings_order (x ∷ all) none = (
  (λ file place e other there full c. absurd (none other there full (in_tail x all (Using other there, full) c))),
  no_usings_order all (λ file place full c. none file place full (in_tail x all (Using file place, full) c)),
)

order-append : (xs ys : List (DeclId × List ℕ)) → InOrder xs → InOrder ys → ((file place : ℕ) (full : List ℕ) → Contains xs (Using file place, full) → Following file place ys) → InOrder (xs ++ ys)
order-append [] ys p q cross = q
order-append (x ∷ xs) ys p q cross = (
  (λ file place e other there full c. elim (Contains-append_cases xs ys (Using other there, full) c) [
    | inl l ↦ p.0 file place e other there full l
    | inr r ↦ cross file place x.1 (subst (λ (y : DeclId). Contains (x ∷ xs) (y, x.1)) e (in_front x xs)) other there full r
  ]),
  order-append xs ys p.1 q (λ file place full c. cross file place full (in_tail x xs (Using file place, full) c)),
)

-- a numbered declaration has its place from the first on
numbered_place : (make : ℕ → DeclId) (place : ℕ) (names : List (List ℕ)) (d : DeclId) (full : List ℕ) → Contains (numbered make place names) (d, full) → (i : ℕ) × (place ≤ i) × (d ≡ make i)
numbered_place make place [] d full c = absurd (in_none (d, full) c)
numbered_place make place (name ∷ names) d full c = elim (in_cons (make place, name) (numbered make (place + 1) names) (d, full) c) [
  | inl same ↦ (place, omega arith, ap (λ (p : DeclId × List ℕ). p.0) same)
  | inr there ↦ (let r = numbered_place make (place + 1) names d full there in (r.0, omega (arith, r.1), r.2))
]

usings_order : (file place : ℕ) (names : List (List ℕ)) → InOrder (numbered (Using file) place names)
usings_order file place [] = tt
usings_order file place (name ∷ names) = (
  (λ f i e other there full c before.
      let r = numbered_place (Using file) (place + 1) names (Using other there) full c in
      let one : other ≡ file = using_file other there file r.0 r.2 in
      let two : there ≡ r.0 = using_place other there file r.0 r.2 in
      let three : file ≡ f = using_file file place f i e in
      let four : place ≡ i = using_place file place f i e in
      elim before [ inl less ↦ absurd (omega (arith, less, one, three)) | inr late ↦ absurd (omega (arith, late.1, two, four, r.1)) ]),
  usings_order file (place + 1) names,
)
  where
    using_file : (a b g h : ℕ) → Using a b ≡ Using g h → a ≡ g
    using_file a b g h e = cc

    using_place : (a b g h : ℕ) → Using a b ≡ Using g h → b ≡ h
    using_place a b g h e = cc

no_structs : (file place : ℕ) (names : List (List ℕ)) → NoUsings (numbered (Struct file) place names)
no_structs file place names f i full c = let r = numbered_place (Struct file) place names (Using f i) full c in elim (wrong r.0 r.2) [ ]
  where
    wrong : (n : ℕ) → Using f i ≡ Struct file n → ⊥
    wrong n e = cc

no_unions : (file place : ℕ) (names : List (List ℕ)) → NoUsings (numbered (Union file) place names)
no_unions file place names f i full c = let r = numbered_place (Union file) place names (Using f i) full c in elim (wrong r.0 r.2) [ ]
  where
    wrong : (n : ℕ) → Using f i ≡ Union file n → ⊥
    wrong n e = cc

no_protocol_using : (file : ℕ) (o : Option ProtocolDecl) → NoUsings (protocol_in file o)
no_protocol_using file None f i full c = in_none (Using f i, full) c
no_protocol_using file (Some p) f i full c = elim (in_cons (Protocol file, p.full) [] (Using f i, full) c) [
  | inl same ↦ elim (wrong (ap (λ (q : DeclId × List ℕ). q.0) same)) [ ]
  | inr there ↦ in_none (Using f i, full) there
]
  where
    wrong : Using f i ≡ Protocol file → ⊥
    wrong e = cc

none-append : (xs ys : List (DeclId × List ℕ)) → NoUsings xs → NoUsings ys → NoUsings (xs ++ ys)
none-append xs ys p q f i full c = elim (Contains-append_cases xs ys (Using f i, full) c) [ inl l ↦ p f i full l | inr r ↦ q f i full r ]

others : (file : ℕ) (entry : Entry) → NoUsings (numbered (Struct file) 0 (map (λ s. s.full) entry.unit.structs) ++ (numbered (Union file) 0 (map (λ u. u.full) entry.unit.unions) ++ protocol_in file entry.unit.protocol))
others file entry = none-append _ _ (no_structs file 0 (map (λ s. s.full) entry.unit.structs)) (none-append _ _ (no_unions file 0 (map (λ u. u.full) entry.unit.unions)) (no_protocol_using file entry.unit.protocol))

file_order : (file : ℕ) (entry : Entry) → InOrder (declared_in file entry)
file_order file entry =
    order-append _ _ (usings_order file 0 (map (λ u. u.full) entry.unit.usings)) (no_usings_order _ (others file entry)) (λ f i full c other there name d. absurd (others file entry other there name d))

own_file : (file : ℕ) (entry : Entry) (f i : ℕ) (full : List ℕ) → Contains (declared_in file entry) (Using f i, full) → f ≡ file
own_file file entry f i full c = elim (Contains-append_cases (numbered (Using file) 0 (map (λ u. u.full) entry.unit.usings)) _ (Using f i, full) c) [
  | inl l ↦ (let r = numbered_place (Using file) 0 (map (λ u. u.full) entry.unit.usings) (Using f i) full l in same r.0 r.2)
  | inr r ↦ absurd (others file entry f i full r)
]
  where
    same : (n : ℕ) → Using f i ≡ Using file n → f ≡ file
    same n e = cc

later_file : (from : ℕ) (program : List Entry) (f i : ℕ) (full : List ℕ) → Contains (declared_from from program) (Using f i, full) → from ≤ f
later_file from [] f i full c = absurd (in_none (Using f i, full) c)
later_file from (entry ∷ program) f i full c = elim (Contains-append_cases (declared_in from entry) (declared_from (from + 1) program) (Using f i, full) c) [
  | inl l ↦ (let e = own_file from entry f i full l in omega (arith, e))
  | inr r ↦ (let h = later_file (from + 1) program f i full r in omega (arith, h))
]

program_order : (from : ℕ) (program : List Entry) → InOrder (declared_from from program)
program_order from [] = tt
program_order from (entry ∷ program) =
    order-append _ _ (file_order from entry) (program_order (from + 1) program)
    (λ f i full c other there name d before.
    let mine = own_file from entry f i full c in
    let late = later_file (from + 1) program other there name d in
    elim before [ inl less ↦ absurd (omega (arith, less, mine, late)) | inr same ↦ absurd (omega (arith, same.0, mine, late)) ])

-- the same of a row
abbrev pub IsRowInOrder : List DeclId → Type 0
IsRowInOrder [] = Unit {0}
IsRowInOrder (d ∷ ds) = ((file place other there : ℕ) → d ≡ Using file place → Contains ds (Using other there) → ¬ IsBefore other there file place) × IsRowInOrder ds

listed_order : (text : List ℕ) (all : List (DeclId × List ℕ)) → InOrder all → IsRowInOrder (listed_under text all)
listed_order text [] p = tt
listed_order text (x ∷ all) p = go (is_listed_under text x.1) (listed_order text all p.1)
  where
    go : (b : Bool) → IsRowInOrder (listed_under text all)
        → IsRowInOrder (map (λ (q : DeclId × List ℕ). q.0) (cond b (x ∷ filter (λ q. is_listed_under text q.1) all) (filter (λ q. is_listed_under text q.1) all)))
    go true rest = ((λ file place other there e c. let r = from_listed text all (Using other there) c in p.0 file place e other there r.0 r.1), rest)
    go false rest = rest

pub row_order : (text : List ℕ) (program : List Entry) → IsRowInOrder (listed_under text (declared_from 0 program))
row_order text program = listed_order text (declared_from 0 program) (program_order 0 program)

-- a using that is before another one comes before it in the row
pub comes_before : (row : List DeclId) (k : ℕ) (d : DeclId) (file place other there : ℕ) → IsRowInOrder row → k < length row → d ≡ get_or row k d → d ≡ Using file place
    → Contains row (Using other there) → IsBefore other there file place → Contains (take k row) (Using other there)
comes_before [] k d file place other there order below at is c before = absurd (in_none (Using other there) c)
comes_before (x ∷ row) zero d file place other there order below at is c before =
    elim (in_cons x row (Using other there) c) [
      | inl same ↦ absurd (apart (at ∙ sym same))
      | inr following ↦ absurd (order.0 file place other there (sym at ∙ is) following before)
    ]
  where
    using_file : Using file place ≡ Using other there → file ≡ other
    using_file e = cc

    using_place : Using file place ≡ Using other there → place ≡ there
    using_place e = cc

    apart : d ≡ Using other there → ⊥
    apart e =
        let one = using_file (sym is ∙ e) in
        let two = using_place (sym is ∙ e) in
        elim before [ inl less ↦ absurd (omega (arith, less, one)) | inr late ↦ absurd (omega (arith, late.1, two)) ]
comes_before (x ∷ row) (suc k) d file place other there order below at is c before = elim (in_cons x row (Using other there) c) [
  | inl same ↦ subst (λ (y : DeclId). Contains (y ∷ take k row) (Using other there)) same (in_front (Using other there) (take k row))
  | inr following ↦ in_tail x (take k row) (Using other there) (comes_before row k d file place other there order.1 (omega (arith, below)) at is following before)
]
