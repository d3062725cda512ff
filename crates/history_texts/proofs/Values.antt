-- Values of one type with one text are the same, except for where their boxes are, and what follows them is the same.
use Rattle.std.proofs.Common.{◌≡◌, ℕ, zero, suc, ◌==◌, get_or, true≢false, ℤ, pos, Bool, true, false, if◌then◌else◌, List, [], ◌∷◌, ◌++◌, codes, drop, Option, Some, None, IsSomeAnd, unwrap_or, refl, sym, ap, subst, ◌∙◌, arith, append_assoc}
use Rattle.std.specs.Fmt.{decimal, signed_decimal}
use Rattle.std.specs.List.{flat_map, list_all}
use Rattle.std.specs.Option.{option_map_or}
use Rattle.std.specs.Ordering.{int_eq}
use Rattle.std.proofs.lemmas.Bool.{eq-eqb}
use Rattle.std.proofs.lemmas.Bool.Decides.{Decides-int_eq}
use Rattle.std.specs.declared.alloc.Global.{Global}
use Rattle.std.specs.declared.boxed.Box.{Box}
use Rattle.ipdl_base.specs.declared.schema.ParamRow.{ParamRow}
use Rattle.ipdl_base.specs.declared.schema.Schema.{Schema}
use Rattle.ipdl_base.specs.declared.schema.Shape.{Shape}
use Rattle.ipdl_base.specs.declared.value.Value.{Value, Union', Maybe', Held-Value-Maybe-0, None', Some'}
use Rattle.ipdl_base.specs.declared.value.Value.TheVariants as value
use Rattle.ipdl_base.specs.declared.value.Values.{Values, First'}
use Rattle.ipdl_base.specs.declared.value.Values.TheVariants as values
use Rattle.ipdl_base.specs.Plain.{one_box, plain, plain_held, plain_values}
use Rattle.value_types.specs.HasType.{AllHaveType, HasType, HaveTypes, HeldHasType}
use Rattle.value_types.specs.Shapes.{builtin_of, component_of, element_of, fields_of, held_by}
use Rattle.value_types.specs.ValueText.{digit_count_of, elements_text, escaped, held_text, hex_byte, hex_digits, parts_text, value_text, values_text}
use Rattle.history_texts.proofs.Forms.{bits-small, form, range-small, same-form}
use Rattle.history_texts.proofs.Spans.{Stops, bits-decide, bytes-decide, counts-decide, is_number_byte, lengths-decide, numbers-decide, signed-numbers, signed-some, texts-decide}
use Rattle.history_texts.specs.Held.{AreHeld, IsHeld, IsHeldIn}

-- The content of a value of a form; for another form, anything.

abbrev bool_in : Value → Bool
bool_in (value.Bool b) = b
bool_in _ = false

abbrev int_in : Value → ℤ
int_in (value.Int n) = n
int_in (value.Actor id) = id
int_in _ = pos 0

abbrev bytes_in : Value → List ℕ
bytes_in (value.Text text) = text
bytes_in (value.Bytes bytes) = bytes
bytes_in _ = []

abbrev count_in : Value → ℕ
count_in (value.Bits bits) = bits
count_in (Union' index _ v) = index
count_in _ = 0

abbrev values_in : Value → Values
values_in (value.Struct vs) = vs
values_in (value.Array vs) = vs
values_in _ = values.Nothing

abbrev box_in : Value → Box (Unit {0}) Global
box_in (Union' index at v) = at
box_in _ = one_box

abbrev component_in : Value → Value
component_in (Union' index _ v) = v
component_in _ = value.Bool false

abbrev maybe_in : Value → Held-Value-Maybe-0
maybe_in (Maybe' held) = held
maybe_in _ = None'

-- a value of a form, by its content
abbrev built : ℕ → Value → Value
built zero v = value.Bool (bool_in v)
built (suc zero) v = value.Int (int_in v)
built (suc (suc zero)) v = value.Text (bytes_in v)
built (suc (suc (suc zero))) v = value.Bytes (bytes_in v)
built (suc (suc (suc (suc zero)))) v = value.Bits (count_in v)
built (suc (suc (suc (suc (suc zero))))) v = value.Struct (values_in v)
built (suc (suc (suc (suc (suc (suc zero)))))) v = Union' (count_in v) (box_in v) (component_in v)
built (suc (suc (suc (suc (suc (suc (suc zero))))))) v = value.Array (values_in v)
built (suc (suc (suc (suc (suc (suc (suc (suc zero)))))))) v = Maybe' (maybe_in v)
built (suc (suc (suc (suc (suc (suc (suc (suc (suc more))))))))) v = value.Actor (int_in v)

built-again : (v : Value) → v ≡ built (form v) v
built-again (value.Bool b) = refl
built-again (value.Int n) = refl
built-again (value.Text text) = refl
built-again (value.Bytes bytes) = refl
built-again (value.Bits bits) = refl
built-again (value.Struct vs) = refl
built-again (Union' index at v) = refl
built-again (value.Array vs) = refl
built-again (Maybe' held) = refl
built-again (value.Actor id) = refl

-- Lists in parts

pub cancelled : (before x y : List ℕ) → before ++ x ≡ before ++ y → x ≡ y
cancelled before x y e = (lengths-decide before before x y refl e).1

-- what is between two other texts is the same, if the text after the first is
inner : (a b c r b' c' q : List ℕ) → a ++ b ++ c ++ r ≡ a ++ b' ++ c' ++ q → b ++ (c ++ r) ≡ b' ++ (c' ++ q)
inner a b c r b' c' q e =
    let one : a ++ b ++ c ++ r ≡ a ++ (b ++ (c ++ r)) = append_assoc (a ++ b) c r ∙ append_assoc a b (c ++ r) in
    let other : a ++ b' ++ c' ++ q ≡ a ++ (b' ++ (c' ++ q)) = append_assoc (a ++ b') c' q ∙ append_assoc a b' (c' ++ q) in
    cancelled a (b ++ (c ++ r)) (b' ++ (c' ++ q)) (sym one ∙ e ∙ other)

-- two lists that begin with different bytes are not equal
pub differ : {a b : ℕ} {x y : List ℕ} → (a == b) ≡ false → a ∷ x ≡ b ∷ y → ⊥
differ {a} {b} {x} {y} d e =
    let same : a ≡ b = ap (λ (bytes : List ℕ). get_or bytes 0 0) e in
    true≢false (sym (eq-eqb a b same) ∙ d)

module _ (s : Schema) where
  -- the texts of two values decide them
  abbrev Decide : Shape → Value → Value → Type 0
  Decide shape v w =
      (r q : List ℕ) → HasType s shape v → HasType s shape w → IsHeld v → IsHeld w → Stops r → Stops q → value_text s shape v ++ r ≡ value_text s shape w ++ q → (plain v ≡ plain w) × (r ≡ q)

  bools : (shape : Shape) (b c : Bool) → Decide shape (value.Bool b) (value.Bool c)
  bools shape true true r q h k i j st sq e = (refl, ap (drop 4) e)
  bools shape true false r q h k i j st sq e = absurd (differ {a = 116} {b = 102} refl e)
  bools shape false true r q h k i j st sq e = absurd (differ {a = 102} {b = 116} refl e)
  bools shape false false r q h k i j st sq e = (refl, ap (drop 5) e)

  ints : (shape : Shape) (m n : ℤ) → Decide shape (value.Int m) (value.Int n)
  ints shape m n r q h k i j st sq e = let d = numbers-decide m n r q (range-small shape m h) (range-small shape n k) st sq e in (ap value.Int d.0, d.1)

  texts : (shape : Shape) (t u : List ℕ) → Decide shape (value.Text t) (value.Text u)
  texts shape t u r q h k i j st sq e = let d = texts-decide t u r q (inner (codes "\"") (flat_map escaped t) (codes "\"") r (flat_map escaped u) (codes "\"") q e) in (ap value.Text d.0, d.1)

  bytes : (shape : Shape) (t u : List ℕ) → Decide shape (value.Bytes t) (value.Bytes u)
  bytes shape t u r q h k i j st sq e = let d = bytes-decide t u r q (inner (codes "h\"") (flat_map hex_byte t) (codes "\"") r (flat_map hex_byte u) (codes "\"") q e) in (ap value.Bytes d.0, d.1)

  bits : (shape : Shape) (m n : ℕ) → Decide shape (value.Bits m) (value.Bits n)
  bits shape m n r q h k i j st sq e =
      let count : ℕ = digit_count_of (builtin_of shape) in
      let d = bits-decide count m n (codes "\"" ++ r) (codes "\"" ++ q) (bits-small shape m h) (bits-small shape n k) (inner (codes "h\"") (hex_digits count m) (codes "\"") r (hex_digits count n) (codes "\"") q e) in
      (ap value.Bits d.0, ap (drop 1) d.1)

  actors : (shape : Shape) (m n : ℤ) → Decide shape (value.Actor m) (value.Actor n)
  actors shape m n r q h k i j st sq e = by (int_eq m (pos 0)) (int_eq n (pos 0)) refl refl e
    where
      by : (a b : Bool) → int_eq m (pos 0) ≡ a → int_eq n (pos 0) ≡ b → (if a then codes "null" else codes "#" ++ signed_decimal m) ++ r ≡ (if b then codes "null" else codes "#" ++ signed_decimal n) ++ q
          → (value.Actor m ≡ value.Actor n) × (r ≡ q)
      by true true a b e = (ap value.Actor ((Decides-int_eq m (pos 0)).0 a ∙ sym ((Decides-int_eq n (pos 0)).0 b)), ap (drop 4) e)
      by true false a b e = absurd (differ {a = 110} {b = 35} refl e)
      by false true a b e = absurd (differ {a = 35} {b = 110} refl e)
      by false false a b e = let d = numbers-decide m n r q (omega (arith, i)) (omega (arith, j)) st sq (ap (drop 1) e) in (ap value.Actor d.0, d.1)

  -- no value begins with the bracket that ends an array
  value-isnt : (shape : Shape) (v : Value) (r q : List ℕ) → HasType s shape v → value_text s shape v ++ r ≡ 93 ∷ q → ⊥
  value-isnt shape (value.Bool true) r q h e = differ {a = 116} {b = 93} refl e
  value-isnt shape (value.Bool false) r q h e = differ {a = 102} {b = 93} refl e
  value-isnt shape (value.Int n) r q h e = by (signed_decimal n) (signed-numbers n) (signed-some n (range-small shape n h)) e
    where
      by : (text : List ℕ) → list_all is_number_byte text ≡ true → (text ≡ [] → ⊥) → text ++ r ≡ 93 ∷ q → ⊥
      by [] all some e = some refl
      by (b ∷ bs) all some e = let is : b ≡ 93 = ap (λ (bytes : List ℕ). get_or bytes 0 0) e in let none : list_all is_number_byte (93 ∷ bs) ≡ true = subst (λ (c : ℕ). list_all is_number_byte (c ∷ bs) ≡ true) is all in absurd (true≢false (sym none))
  value-isnt shape (value.Text text) r q h e = differ {a = 34} {b = 93} refl e
  value-isnt shape (value.Bytes bs) r q h e = differ {a = 104} {b = 93} refl e
  value-isnt shape (value.Bits n) r q h e = differ {a = 104} {b = 93} refl e
  value-isnt shape (value.Struct vs) r q h e = differ {a = 123} {b = 93} refl e
  value-isnt shape (Union' index at v) r q h e = differ {a = 64} {b = 93} refl e
  value-isnt shape (value.Array vs) r q h e = differ {a = 91} {b = 93} refl e
  value-isnt shape (Maybe' None') r q h e = differ {a = 110} {b = 93} refl e
  value-isnt shape (Maybe' (Some' at v)) r q h e = differ {a = 115} {b = 93} refl e
  value-isnt shape (value.Actor id) r q h e = by (int_eq id (pos 0)) e
    where
      by : (b : Bool) → (if b then codes "null" else codes "#" ++ signed_decimal id) ++ r ≡ 93 ∷ q → ⊥
      by true e = differ {a = 110} {b = 93} refl e
      by false e = differ {a = 35} {b = 93} refl e

  -- the text after a value in a list ends a number
  parts-stop : (fields : List ParamRow) (vs : Values) (r : List ℕ) → Stops r → Stops (parts_text (codes ", ") s fields vs ++ r)
  parts-stop [] vs r st = st
  parts-stop (field ∷ fields) values.Nothing r st = st
  parts-stop (field ∷ fields) (First' _ v _ vs) r st = refl

  elements-stop : (shape : Shape) (vs : Values) (r : List ℕ) → Stops (elements_text (codes ", ") s shape vs ++ 93 ∷ r)
  elements-stop shape values.Nothing r = refl
  elements-stop shape (First' _ v _ vs) r = refl

  abbrev lead : Bool → List ℕ
  lead true = codes ", "
  lead false = []

  -- an element and what follows it do not begin with the end of an array
  elements-isnt : (later : Bool) (shape : Shape) (v : Value) (vs : Values) (r q : List ℕ) → HasType s shape v → lead later ++ value_text s shape v ++ elements_text (codes ", ") s shape vs ++ r ≡ 93 ∷ q → ⊥
  elements-isnt true shape v vs r q h e = differ {a = 44} {b = 93} refl e
  elements-isnt false shape v vs r q h e = value-isnt shape v (elements_text (codes ", ") s shape vs ++ r) q h (sym (append_assoc (value_text s shape v) (elements_text (codes ", ") s shape vs) r) ∙ e)

  fields-found : (found : Option (List ParamRow)) (vs : Values) → IsSomeAnd found (λ fields. HaveTypes s fields vs) → HaveTypes s (unwrap_or found []) vs
  fields-found None vs h = absurd h
  fields-found (Some fields) vs h = h

  -- the value of a type that is found
  shape-found : (found : Option Shape) (v w : Value) (r q : List ℕ) → ((shape : Shape) → Decide shape v w) → IsSomeAnd found (λ shape. HasType s shape v) → IsSomeAnd found (λ shape. HasType s shape w) → IsHeld v → IsHeld w → Stops r → Stops q
      → option_map_or (λ shape. value_text s shape v) found [] ++ r ≡ option_map_or (λ shape. value_text s shape w) found [] ++ q → (plain v ≡ plain w) × (r ≡ q)
  shape-found None v w r q d h k i j st sq e = absurd h
  shape-found (Some shape) v w r q d h k i j st sq e = d shape r q h k i j st sq e

  elements-found : (found : Option Shape) (vs ws : Values) (r q : List ℕ)
      → ((shape : Shape) → AllHaveType s shape vs → AllHaveType s shape ws → elements_text [] s shape vs ++ 93 ∷ r ≡ elements_text [] s shape ws ++ 93 ∷ q → (plain_values vs ≡ plain_values ws) × (r ≡ q))
      → IsSomeAnd found (λ shape. AllHaveType s shape vs) → IsSomeAnd found (λ shape. AllHaveType s shape ws)
      → option_map_or (λ shape. elements_text [] s shape vs) found [] ++ 93 ∷ r ≡ option_map_or (λ shape. elements_text [] s shape ws) found [] ++ 93 ∷ q → (plain_values vs ≡ plain_values ws) × (r ≡ q)
  elements-found None vs ws r q d h k e = absurd h
  elements-found (Some shape) vs ws r q d h k e = d shape h k e

  same-component : (shape : Shape) (m n : ℕ) (v w : Value) (r q : List ℕ) → ((shape : Shape) → Decide shape v w) → HasType s shape (Union' m one_box v) → HasType s shape (Union' n one_box w) → IsHeld v → IsHeld w → Stops r → Stops q → m ≡ n
      → option_map_or (λ component. value_text s component v) (component_of s shape m) [] ++ r ≡ option_map_or (λ component. value_text s component w) (component_of s shape n) [] ++ q → (plain v ≡ plain w) × (r ≡ q)
  same-component shape m n v w r q d h k i j st sq same e =
      shape-found (component_of s shape n) v w r q d (subst (λ (index : ℕ). IsSomeAnd (component_of s shape index) (λ component. HasType s component v)) same h) k i j st sq
      (subst (λ (index : ℕ). option_map_or (λ component. value_text s component v) (component_of s shape index) [] ++ r ≡ option_map_or (λ component. value_text s component w) (component_of s shape n) [] ++ q) same e)

  unions : (shape : Shape) (m n : ℕ) (at at' : Box (Unit {0}) Global) (v w : Value) → ((shape : Shape) → Decide shape v w) → Decide shape (Union' m at v) (Union' n at' w)
  unions shape m n at at' v w d r q h k i j st sq e =
      let x : List ℕ = option_map_or (λ component. value_text s component v) (component_of s shape m) [] in
      let y : List ℕ = option_map_or (λ component. value_text s component w) (component_of s shape n) [] in
      let first : decimal m ++ (codes " " ++ (x ++ r)) ≡ decimal n ++ (codes " " ++ (y ++ q)) =
      inner (codes "@") (decimal m) (codes " ") (x ++ r) (decimal n) (codes " ") (y ++ q)
      (sym (append_assoc (codes "@" ++ decimal m ++ codes " ") x r) ∙ e ∙ append_assoc (codes "@" ++ decimal n ++ codes " ") y q) in
      let index = counts-decide m n (codes " " ++ (x ++ r)) (codes " " ++ (y ++ q)) (omega (arith, i.0)) (omega (arith, j.0)) refl refl first in
      let held = same-component shape m n v w r q d h k i.1 j.1 st sq index.0 (ap (drop 1) index.1) in
      ((λ z. Union' (index.0 z) one_box (held.0 z)), held.1)

  maybes : (shape : Shape) (v w : Held-Value-Maybe-0) (r q : List ℕ)
      → (held_text s (held_by shape) v ++ r ≡ held_text s (held_by shape) w ++ q → (plain_held v ≡ plain_held w) × (r ≡ q))
      → value_text s shape (Maybe' v) ++ r ≡ value_text s shape (Maybe' w) ++ q → (plain (Maybe' v) ≡ plain (Maybe' w)) × (r ≡ q)
  maybes shape v w r q d e = let h = d e in (ap Maybe' h.0, h.1)

  -- the texts of two values of one form decide them
  abbrev DecideBuilt : Shape → Value → Value → Type 0
  DecideBuilt shape v w =
      (r q : List ℕ) → HasType s shape v → HasType s shape (built (form v) w) → IsHeld v → IsHeld (built (form v) w) → Stops r → Stops q
      → value_text s shape v ++ r ≡ value_text s shape (built (form v) w) ++ q → (plain v ≡ plain (built (form v) w)) × (r ≡ q)

  decided : (shape : Shape) (v w : Value) → DecideBuilt shape v w → Decide shape v w
  decided shape v w d r q h k =
      subst (λ (u : Value). HasType s shape u → IsHeld v → IsHeld u → Stops r → Stops q → value_text s shape v ++ r ≡ value_text s shape u ++ q → (plain v ≡ plain u) × (r ≡ q))
      (sym (built-again w ∙ ap (λ (n : ℕ). built n w) (same-form s shape v w h k))) (d r q h) k

  mutual
    built-decides : (shape : Shape) (v w : Value) → DecideBuilt shape v w
    built-decides shape (value.Bool b) w r q h k i j st sq e = bools shape b (bool_in w) r q h k i j st sq e
    built-decides shape (value.Int n) w r q h k i j st sq e = ints shape n (int_in w) r q h k i j st sq e
    built-decides shape (value.Text text) w r q h k i j st sq e = texts shape text (bytes_in w) r q h k i j st sq e
    built-decides shape (value.Bytes bs) w r q h k i j st sq e = bytes shape bs (bytes_in w) r q h k i j st sq e
    built-decides shape (value.Bits n) w r q h k i j st sq e = bits shape n (count_in w) r q h k i j st sq e
    built-decides shape (value.Struct vs) w r q h k i j st sq e =
        let fields : List ParamRow = unwrap_or (fields_of s shape) [] in
        let ws : Values = values_in w in
        let d = parts-decide [] fields vs ws (codes "}" ++ r) (codes "}" ++ q) (fields-found (fields_of s shape) vs h) (fields-found (fields_of s shape) ws k) i j refl refl
        (inner (codes "{") (parts_text [] s fields vs) (codes "}") r (parts_text [] s fields ws) (codes "}") q e) in
        (ap value.Struct d.0, ap (drop 1) d.1)
    built-decides shape (Union' index at v) w r q h k i j st sq e = unions shape index (count_in w) at (box_in w) v (component_in w) (λ component. decided component v (component_in w) (built-decides component v (component_in w))) r q h k i j st sq e
    built-decides shape (value.Array vs) w r q h k i j st sq e =
        let ws : Values = values_in w in
        let d = elements-found (element_of shape) vs ws r q (λ element a b. elements-decide false element vs ws r q a b i j) h k
        (inner (codes "[") (option_map_or (λ element. elements_text [] s element vs) (element_of shape) []) (codes "]") r (option_map_or (λ element. elements_text [] s element ws) (element_of shape) []) (codes "]") q e) in
        (ap value.Array d.0, d.1)
    built-decides shape (Maybe' held) w r q h k i j st sq e = maybes shape held (maybe_in w) r q (held-decides (held_by shape) held (maybe_in w) r q h k i j st sq) e
    built-decides shape (value.Actor id) w r q h k i j st sq e = actors shape id (int_in w) r q h k i j st sq e

    held-decides : (found : Option Shape) (v w : Held-Value-Maybe-0) (r q : List ℕ) → IsSomeAnd found (λ inner. HeldHasType s inner v) → IsSomeAnd found (λ inner. HeldHasType s inner w) → IsHeldIn v → IsHeldIn w → Stops r → Stops q
        → held_text s found v ++ r ≡ held_text s found w ++ q → (plain_held v ≡ plain_held w) × (r ≡ q)
    held-decides found None' None' r q h k i j st sq e = (refl, ap (drop 4) e)
    held-decides found None' (Some' at w) r q h k i j st sq e = absurd (differ {a = 110} {b = 115} refl e)
    held-decides found (Some' at v) None' r q h k i j st sq e = absurd (differ {a = 115} {b = 110} refl e)
    held-decides found (Some' at v) (Some' at' w) r q h k i j st sq e =
        let d = shape-found found v w r q (λ shape. decided shape v w (built-decides shape v w)) h k i j st sq (ap (drop 5) e) in
        (ap (Some' one_box) d.0, d.1)

    parts-decide : (before : List ℕ) (fields : List ParamRow) (vs ws : Values) (r q : List ℕ) → HaveTypes s fields vs → HaveTypes s fields ws → AreHeld vs → AreHeld ws → Stops r → Stops q
        → parts_text before s fields vs ++ r ≡ parts_text before s fields ws ++ q → (plain_values vs ≡ plain_values ws) × (r ≡ q)
    parts-decide before [] values.Nothing values.Nothing r q h k i j st sq e = (refl, e)
    parts-decide before [] values.Nothing (First' _ w _ ws) r q h k i j st sq e = absurd k
    parts-decide before [] (First' _ v _ vs) ws r q h k i j st sq e = absurd h
    parts-decide before (field ∷ fields) values.Nothing ws r q h k i j st sq e = absurd h
    parts-decide before (field ∷ fields) (First' _ v _ vs) values.Nothing r q h k i j st sq e = absurd k
    parts-decide before (field ∷ fields) (First' _ v _ vs) (First' _ w _ ws) r q h k i j st sq e =
        let more : List ℕ = parts_text (codes ", ") s fields vs in
        let more' : List ℕ = parts_text (codes ", ") s fields ws in
        let first = decided field.shape v w (built-decides field.shape v w) (more ++ r) (more' ++ q) h.0 k.0 i.0 j.0 (parts-stop fields vs r st) (parts-stop fields ws q sq)
        (inner before (value_text s field.shape v) more r (value_text s field.shape w) more' q e) in
        let rest = parts-decide (codes ", ") fields vs ws r q h.1 k.1 i.1 j.1 st sq first.1 in
        ((λ z. First' one_box (first.0 z) one_box (rest.0 z)), rest.1)

    elements-decide : (later : Bool) (shape : Shape) (vs ws : Values) (r q : List ℕ) → AllHaveType s shape vs → AllHaveType s shape ws → AreHeld vs → AreHeld ws
        → elements_text (lead later) s shape vs ++ 93 ∷ r ≡ elements_text (lead later) s shape ws ++ 93 ∷ q → (plain_values vs ≡ plain_values ws) × (r ≡ q)
    elements-decide later shape values.Nothing values.Nothing r q h k i j e = (refl, ap (drop 1) e)
    elements-decide later shape values.Nothing (First' _ w _ ws) r q h k i j e = absurd (elements-isnt later shape w ws (93 ∷ q) r k.0 (sym e))
    elements-decide later shape (First' _ v _ vs) values.Nothing r q h k i j e = absurd (elements-isnt later shape v vs (93 ∷ r) q h.0 e)
    elements-decide later shape (First' _ v _ vs) (First' _ w _ ws) r q h k i j e =
        let more : List ℕ = elements_text (codes ", ") s shape vs in
        let more' : List ℕ = elements_text (codes ", ") s shape ws in
        let first = decided shape v w (built-decides shape v w) (more ++ 93 ∷ r) (more' ++ 93 ∷ q) h.0 k.0 i.0 j.0 (elements-stop shape vs r) (elements-stop shape ws q)
        (inner (lead later) (value_text s shape v) more (93 ∷ r) (value_text s shape w) more' (93 ∷ q) e) in
        let rest = elements-decide true shape vs ws r q h.1 k.1 i.1 j.1 first.1 in
        ((λ z. First' one_box (first.0 z) one_box (rest.0 z)), rest.1)

  -- values in parentheses, with what follows
  pub listed-decide : (fields : List ParamRow) (vs ws : Values) (r q : List ℕ) → HaveTypes s fields vs → HaveTypes s fields ws → AreHeld vs → AreHeld ws
      → codes "(" ++ values_text s fields vs ++ codes ")" ++ r ≡ codes "(" ++ values_text s fields ws ++ codes ")" ++ q → (plain_values vs ≡ plain_values ws) × (r ≡ q)
  listed-decide fields vs ws r q h k i j e =
      let d = parts-decide [] fields vs ws (codes ")" ++ r) (codes ")" ++ q) h k i j refl refl (inner (codes "(") (values_text s fields vs) (codes ")") r (values_text s fields ws) (codes ")") q e) in
      (d.0, ap (drop 1) d.1)
