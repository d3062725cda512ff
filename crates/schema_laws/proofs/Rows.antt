-- The messages and the types of a schema, with every box at one place.
use Rattle.std.proofs.Common.{◌≡◌, ◌∙◌, ℕ, ◌+◌, ◌==◌, List, [], ◌∷◌, ◌++◌, Bool, true, false, cond, map, Option, Some, None, refl, sym, ap}
use Rattle.std.specs.Prelude.{slice_get, option_map, option_and_then, unwrap_or, is_some, ◌&&◌, ◌||◌}
use Rattle.std.specs.List.{find, flat_map}
use Rattle.std.specs.Option.{option_map_or}
use Rattle.std.proofs.lemmas.List.{map-append}
use Rattle.std.proofs.lemmas.Option.{slice_get-map}
use Rattle.ipdl_base.specs.Plain.{plain_shape}
use Rattle.ipdl_base.specs.Sound.{has_number, has_reply, is_sync, message_of}
use Rattle.ipdl_base.specs.declared.schema.MessageRow.{MessageRow}
use Rattle.ipdl_base.specs.declared.schema.ProtocolRow.{ProtocolRow}
use Rattle.ipdl_base.specs.declared.schema.Schema.{Schema}
use Rattle.ipdl_base.specs.declared.schema.Shape.{Shape, Builtin, Using, Actor, Named, Array', Maybe', Unique', Endpoint}
use Rattle.ipdl_base.specs.declared.schema.TypeRow.{TypeRow}
use Rattle.ipdl_base.specs.declared.schema.TypeRow.TheVariants.{Struct, Union}
use Rattle.value_types.specs.Shapes.{row_of, fields_in, fields_of, component_in, component_of}
use Rattle.program_schema.specs.Laws.{plain_param_row, plain_message_row, plain_protocol_row, plain_type_row, plain_schema}

-- Options whose values are mapped

-- the value from which a mapped option was made
pub under : {X Y : Type 0} (look : X → Y) (o : Option X) (y : Y) → option_map look o ≡ Some y → (x : X) × (o ≡ Some x) × (look x ≡ y)
under look None y e = absurd (let no : ⊥ = cc in no)
under look (Some x) y e = (x, refl, let same : look x ≡ y = cc in same)

-- what two functions give of an option is the same if it is the same of each value
pub option_alike : {X Y : Type 0} (look : X → X) (f g : X → Y) → ((x : X) → f (look x) ≡ g x) → (d : Y) (o : Option X) → option_map_or f (option_map look o) d ≡ option_map_or g o d
option_alike look f g same d None = refl
option_alike look f g same d (Some x) = same x

pub then_alike : {X Y : Type 0} (look : X → X) (after : Y → Y) (f : X → Option Y) → ((x : X) → f (look x) ≡ option_map after (f x)) → (o : Option X) → option_and_then f (option_map look o) ≡ option_map after (option_and_then f o)
then_alike look after f same None = refl
then_alike look after f same (Some x) = same x

-- a list that may be missing
pub listed_alike : {X : Type 0} (look : X → X) (o : Option (List X)) → unwrap_or (option_map (map look) o) [] ≡ map look (unwrap_or o [])
listed_alike look None = refl
listed_alike look (Some xs) = refl

-- Messages

pub still_there : {X Y : Type 0} (f : X → Y) (o : Option X) → is_some (option_map f o) ≡ is_some o
still_there f None = refl
still_there f (Some x) = refl

pub same_reply : (row : MessageRow) → has_reply (plain_message_row row) ≡ has_reply row
same_reply row = ap (λ (there : Bool). is_sync row.semantics || there) (still_there (map plain_param_row) row.returns)

has_number_alike : (n : ℕ) (row : MessageRow) → has_number n (plain_message_row row) ≡ has_number n row
has_number_alike n row = ap (λ (replies : Bool). (row.number == n) || (replies && (row.number + 1 == n))) (same_reply row)

pub either : {X Y : Type 0} (f : X → Y) (x y : X) (b : Bool) → cond b (f x) (f y) ≡ f (cond b x y)
either f x y true = refl
either f x y false = refl

pub found : {X : Type 0} (look : X → X) (test : X → Bool) → ((x : X) → test (look x) ≡ test x) → (xs : List X) → find test (map look xs) ≡ option_map look (find test xs)
found look test same [] = refl
found look test same (x ∷ xs) =
    ap (λ b. cond b (Some (look x)) (find test (map look xs))) (same x)
    ∙ ap (λ o. cond (test x) (Some (look x)) o) (found look test same xs)
    ∙ either (option_map look) (Some x) (find test xs) (test x)

messages_alike : (rows : List ProtocolRow) → flat_map (λ p. p.messages) (map plain_protocol_row rows) ≡ map plain_message_row (flat_map (λ p. p.messages) rows)
messages_alike [] = refl
messages_alike (row ∷ rows) =
    ap (λ ms. map plain_message_row row.messages ++ ms) (messages_alike rows)
    ∙ sym (map-append plain_message_row row.messages (flat_map (λ p. p.messages) rows))

pub message_alike : (s : Schema) (n : ℕ) → message_of (plain_schema s) n ≡ option_map plain_message_row (message_of s n)
message_alike s n = ap (find (has_number n)) (messages_alike s.protocols) ∙ found plain_message_row (has_number n) (has_number_alike n) (flat_map (λ p. p.messages) s.protocols)

-- Types

pub type_alike : (s : Schema) (t : ℕ) → slice_get (plain_schema s).types t ≡ option_map plain_type_row (slice_get s.types t)
type_alike s t = slice_get-map plain_type_row s.types t

row_alike : (s : Schema) (shape : Shape) → row_of (plain_schema s) (plain_shape shape) ≡ option_map plain_type_row (row_of s shape)
row_alike s (Builtin b) = refl
row_alike s (Using name) = refl
row_alike s (Actor p nullable) = refl
row_alike s (Named t) = type_alike s t
row_alike s (Array' _ e) = refl
row_alike s (Maybe' _ e) = refl
row_alike s (Unique' _ e) = refl
row_alike s (Endpoint p managed) = refl

fields_in_alike : (row : TypeRow) → fields_in (plain_type_row row) ≡ option_map (map plain_param_row) (fields_in row)
fields_in_alike (Struct name fields) = refl
fields_in_alike (Union name components) = refl

component_in_alike : (index : ℕ) (row : TypeRow) → component_in index (plain_type_row row) ≡ option_map plain_shape (component_in index row)
component_in_alike index (Struct name fields) = refl
component_in_alike index (Union name components) = slice_get-map plain_shape components index

pub fields_alike : (s : Schema) (shape : Shape) → fields_of (plain_schema s) (plain_shape shape) ≡ option_map (map plain_param_row) (fields_of s shape)
fields_alike s shape = ap (option_and_then fields_in) (row_alike s shape) ∙ then_alike plain_type_row (map plain_param_row) fields_in fields_in_alike (row_of s shape)

pub component_alike : (s : Schema) (shape : Shape) (index : ℕ) → component_of (plain_schema s) (plain_shape shape) index ≡ option_map plain_shape (component_of s shape index)
component_alike s shape index = ap (option_and_then (component_in index)) (row_alike s shape) ∙ then_alike plain_type_row plain_shape (component_in index) (component_in_alike index) (row_of s shape)
