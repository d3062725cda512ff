-- What is known of least values is true, and stays true when a lesser one is found.
use Rattle.std.proofs.Common.{◌≡◌, ◌≢◌, ◌⊎◌, inl, inr, ℕ, suc, ◌+◌, ◌<◌, ◌≤◌, min, Bool, true, false, cond, List, [], ◌∷◌, length, get_or, Some, eqb, refl, sym, ap, subst, ◌∙◌, arith}
use Rattle.std.specs.List.{Contains, slice_get, slice_set, slice_index_or}
use Rattle.std.proofs.lemmas.Bool.{cases_lt}
use Rattle.std.proofs.lemmas.Option.{slice_get-get_or}
use Rattle.std.proofs.lemmas.Bool.Decides.{eqb_tells}
use Rattle.std.proofs.lemmas.List.{get_or-set_same, get_or-set_other, get_or_default, length-set, get_or-replicate, length-replicate}
use Rattle.std.proofs.Math.ListN.{replicate, get_or-eq_default}
use Rattle.std.proofs.lemmas.List.Sums.{sum_by-set}
use Rattle.ipdl_base.specs.declared.schema.ParamRow.{ParamRow}
use Rattle.ipdl_base.specs.declared.schema.Schema.{Schema}
use Rattle.ipdl_base.specs.declared.schema.Shape.{Shape, Builtin, Using, Actor, Named, Array', Maybe', Unique', Endpoint}
use Rattle.ipdl_base.specs.declared.schema.TypeRow.{TypeRow}
use Rattle.ipdl_base.specs.declared.schema.TypeRow.TheVariants.{Struct, Union}
use Rattle.ipdl_base.specs.Builtins.{is_carried}
use Rattle.wait_report.specs.Sendable as sendable
use Rattle.wait_report.specs.Sendable.{least_bytes, IsBuildable, is_top, HasValueWithin, using_type, null, actor, array, maybe, unique, struct, union, HaveValuesWithin, nothing, first}
use Rattle.wait_report.specs.Least.{too_many, is_built, least_of, sum_of, least_in, row_least, AreSound, known, TypeLook, Spreads}

-- One of some components, and a value of it.
pub record HasComponent (schema : Schema) (top : ℕ) (components : List Shape) (bytes : ℕ) : Type 0 where
  pub component : Shape
  pub there : Contains components component
  pub value : HasValueWithin schema top component bytes

module _ (schema : Schema) (top : ℕ) (types : List ℕ) (built : List Bool) (h : AreSound schema top types built) where
  built-in : (b : _) (c : Bool) → is_carried b ≡ c → cond c (least_bytes b) too_many ≤ 4096 → HasValueWithin schema top (Builtin b) (cond c (least_bytes b) too_many)
  built-in b true is few = sendable.builtin is (omega arith)
  built-in b false is few = absurd (omega (arith, few))

  live : (protocol : ℕ) (c : Bool) → is_built built protocol ≡ c → cond c 4 too_many ≤ 4096 → HasValueWithin schema top (Actor protocol false) (cond c 4 too_many)
  live protocol true is few = actor (h.protocols protocol is) (omega arith)
  live protocol false is few = absurd (omega (arith, few))

  pub sound-shape : (shape : Shape) → least_of types built shape ≤ 4096 → HasValueWithin schema top shape (least_of types built shape)
  sound-shape (Builtin b) few = built-in b (is_carried b) refl few
  sound-shape (Using name) few = using_type (omega arith)
  sound-shape (Actor protocol true) few = null (omega arith)
  sound-shape (Actor protocol false) few = live protocol (is_built built protocol) refl few
  sound-shape (Named t) few = h.values t few
  sound-shape (Array' at s) few = array (omega arith)
  sound-shape (Maybe' at s) few = maybe (omega arith)
  sound-shape (Unique' at s) few = unique (omega arith)
  sound-shape (Endpoint p managed) few = absurd (omega (arith, few))

  pub sound-fields : (fields : List ParamRow) → sum_of types built fields ≤ 4096 → HaveValuesWithin schema top fields (sum_of types built fields)
  sound-fields [] few = nothing
  sound-fields (field ∷ fields) few =
      first (least_of types built field.shape) (sum_of types built fields) (sound-shape field.shape (omega (arith, few))) (sound-fields fields (omega (arith, few))) (omega (arith, few))

  farther : (x : Shape) (xs : List Shape) (y : Shape) → Contains xs y → Contains (x ∷ xs) y
  farther x xs y (k, below, is) = (suc k, omega (arith, below), is)

  later : (component : Shape) (components : List Shape) (bytes : ℕ) → HasComponent schema top components bytes → HasComponent schema top (component ∷ components) bytes
  later component components bytes found = record { component = found.component; there = farther component components found.component found.there; value = found.value }

  sound-in : (components : List Shape) → least_in types built components ≤ 4096 → HasComponent schema top components (least_in types built components)
  sound-in [] few = absurd (omega (arith, few))
  sound-in (component ∷ components) few = elim (cases_lt (least_of types built component) (least_in types built components)) [
    | inl less ↦ subst (HasComponent schema top (component ∷ components)) (omega (arith, less)) (record { component = component; there = (0, omega arith, refl); value = sound-shape component (omega (arith, few, less)) })
    | inr more ↦ subst (HasComponent schema top (component ∷ components)) (omega (arith, more)) (later component components (least_in types built components) (sound-in components (omega (arith, few, more))))
  ]

  pub sound-row : (t : ℕ) (row : TypeRow) → slice_get schema.types t ≡ Some row → row_least types built row ≤ 4096 → HasValueWithin schema top (Named t) (row_least types built row)
  sound-row t (Struct name fields) is few = struct name fields (sum_of types built fields) is (sound-fields fields (omega (arith, few))) (omega (arith, few))
  sound-row t (Union name components) is few =
      let found = sound-in components (omega (arith, few)) in
      union name components found.component (least_in types built components) is found.there found.value (omega (arith, few))

-- A lesser value of a type is found

pub gain-sound : (schema : Schema) (built : List Bool) (t : ℕ) (old : List ℕ) (bytes : ℕ) → t < length old → (top : ℕ) → AreSound schema top old built → (bytes ≤ 4096 → HasValueWithin schema top (Named t) bytes) → AreSound schema top (slice_set old t bytes) built
gain-sound schema built t old bytes within top h value = record { values = values; protocols = h.protocols }
  where
    values : (k : ℕ) → slice_index_or (slice_set old t bytes) k too_many ≤ 4096 → HasValueWithin schema top (Named k) (slice_index_or (slice_set old t bytes) k too_many)
    values k few = go (eqb_tells k t)
      where
        go : ((eqb k t ≡ true) × (k ≡ t)) ⊎ ((eqb k t ≡ false) × (k ≢ t)) → HasValueWithin schema top (Named k) (slice_index_or (slice_set old t bytes) k too_many)
        go (inl e) =
            let here : slice_index_or (slice_set old t bytes) k too_many ≡ bytes = ap (λ (n : ℕ). slice_index_or (slice_set old t bytes) n too_many) e.1 ∙ get_or-set_same old t bytes too_many within in
            subst (HasValueWithin schema top (Named k)) (sym here) (subst (λ (n : ℕ). HasValueWithin schema top (Named n) bytes) (sym e.1) (value (subst (λ (n : ℕ). n ≤ 4096) here few)))
        go (inr ne) =
            let there : slice_index_or (slice_set old t bytes) k too_many ≡ slice_index_or old k too_many = get_or-set_other old t k bytes too_many ne.1 in
            subst (HasValueWithin schema top (Named k)) (sym there) (h.values k (subst (λ (n : ℕ). n ≤ 4096) there few))

-- A type is looked at

module _ (schema : Schema) (built : List Bool) (t : ℕ) (old : List ℕ) (row : TypeRow) (is : slice_get schema.types t ≡ Some row) (within : t < length old) where
  abbrev next : List ℕ
  next = slice_set old t (row_least old built row)

  lower-sound : (top : ℕ) → AreSound schema top old built → AreSound schema top (slice_set old t (row_least old built row)) built
  lower-sound top h = gain-sound schema built t old (row_least old built row) within top h (λ few. sound-row schema top old built h t row is few)

  looked-lower : row_least old built row < slice_index_or old t too_many → TypeLook schema built t old (slice_set old t (row_least old built row)) true
  looked-lower less =
      let moved : known (slice_set old t (row_least old built row)) + get_or old t too_many ≡ known old + row_least old built row = sum_by-set (λ bytes. bytes) old t (row_least old built row) too_many within in
      record {
        size = length-set old t (row_least old built row);
        sound = lower-sound;
        lower = omega (arith, moved, less);
        less = λ e. omega (arith, moved, less);
        same = λ e. cc;
        closed = λ e. cc;
      }

  pub looked-same : slice_index_or old t too_many ≤ row_least old built row → TypeLook schema built t old old false
  looked-same more = record {
    size = refl;
    sound = λ top h. h;
    lower = omega arith;
    less = λ e. cc;
    same = λ e. refl;
    closed = λ e r there. subst (λ (x : TypeRow). slice_index_or old t too_many ≤ row_least old built x) (let same : row ≡ r = cc in same) more;
  }

  pub lower-by : (bytes before : ℕ) → bytes ≡ row_least old built row → before ≡ get_or old t before → bytes < before → TypeLook schema built t old (slice_set old t bytes) true
  lower-by bytes before is was less =
      subst (λ (n : ℕ). TypeLook schema built t old (slice_set old t n) true) (sym is)
      (looked-lower (omega (arith, is, less, was ∙ get_or_default old t before too_many within)))

  pub same-by : (bytes before : ℕ) → bytes ≡ row_least old built row → before ≡ get_or old t before → before ≤ bytes → TypeLook schema built t old old false
  same-by bytes before is was more = looked-same (omega (arith, is, more, was ∙ get_or_default old t before too_many within))

-- what is read at a place is there
pub read-there : {A : Type 0} (xs : List A) (i : ℕ) (x : A) → i < length xs → x ≡ get_or xs i x → slice_get xs i ≡ Some x
read-there xs i x within is = slice_get-get_or xs i x within ∙ ap (λ (y : _). Some y) (sym is)

-- What is known first

all-same : {A : Type 0} (n k : ℕ) (x : A) → get_or (replicate n x) k x ≡ x
all-same n k x = elim (cases_lt k n) [
  | inl below ↦ get_or-replicate n k x x below
  | inr above ↦ get_or-eq_default (replicate n x) x (subst (λ (m : ℕ). m ≤ k) (sym (length-replicate n x)) above)
]

-- no value is known, and the top alone is built
pub first-sound : (schema : Schema) (top n m : ℕ) (types : List ℕ) (built : List Bool) → types ≡ replicate n too_many → built ≡ replicate m false → AreSound schema top types (slice_set built top true)
first-sound schema top n m types built none nobody = record { values = values; protocols = protocols }
  where
    values : (t : ℕ) → slice_index_or types t too_many ≤ 4096 → HasValueWithin schema top (Named t) (slice_index_or types t too_many)
    values t few =
        let all : slice_index_or types t too_many ≡ too_many = ap (λ (l : List ℕ). slice_index_or l t too_many) none ∙ all-same n t too_many in
        absurd (omega (arith, few, all))

    protocols : (protocol : ℕ) → is_built (slice_set built top true) protocol ≡ true → IsBuildable schema top protocol
    protocols protocol live = go (eqb_tells protocol top)
      where
        go : ((eqb protocol top ≡ true) × (protocol ≡ top)) ⊎ ((eqb protocol top ≡ false) × (protocol ≢ top)) → IsBuildable schema top protocol
        go (inl same) = subst (IsBuildable schema top) (sym same.1) is_top
        go (inr other) =
            let dead : is_built (slice_set built top true) protocol ≡ false = get_or-set_other built top protocol true false other.1 ∙ (ap (λ (l : List Bool). is_built l protocol) nobody ∙ all-same m protocol false) in
            let both : true ≡ false = sym live ∙ dead in
            cc

-- a lesser value of a union is found through one component
pub component-spreads : (schema : Schema) (built : List Bool) (t : ℕ) (old : List ℕ) (name : List ℕ) (components : List Shape) (component : Shape) (bytes before : ℕ) → slice_get schema.types t ≡ Some (Union name components) → Contains components component → t < length old
    → bytes ≡ min too_many (4 + least_of old built component) → before ≡ get_or old t before → bytes < before → Spreads schema old built (slice_set old t bytes) built
component-spreads schema built t old name components component bytes before is there within e was less =
    let moved : known (slice_set old t bytes) + get_or old t too_many ≡ known old + bytes = sum_by-set (λ bytes. bytes) old t bytes too_many within in
    let read : before ≡ get_or old t too_many = was ∙ get_or_default old t before too_many within in
    record {
      size = length-set old t bytes;
      count = refl;
      sound = λ top h. gain-sound schema built t old bytes within top h (λ few. union name components component (least_of old built component) is there (sound-shape schema top old built h component (omega (arith, e, few))) (omega (arith, e, few)));
      kept = λ p h. h;
      lower = omega (arith, moved, read, less);
    }
