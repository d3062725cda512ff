-- The text of tables does not look at where boxes lie.
use Rattle.std.proofs.Common.{◌≡◌, ℕ, zero, suc, List, [], ◌∷◌, ◌++◌, map, refl, sym, ◌∙◌, ap}
use Rattle.std.specs.Prelude.{Option, Some, None, slice_get, option_map, codes}
use Rattle.std.specs.List.{flat_map}
use Rattle.ipdl_base.specs.Plain.{plain_shape}
use Rattle.ipdl_base.specs.declared.schema.MessageRow.{MessageRow}
use Rattle.ipdl_base.specs.declared.schema.ParamRow.{ParamRow}
use Rattle.ipdl_base.specs.declared.schema.ProtocolRow.{ProtocolRow}
use Rattle.ipdl_base.specs.declared.schema.Schema.{Schema}
use Rattle.ipdl_base.specs.declared.schema.Shape.{Shape, Builtin, Using, Actor, Named, Array', Maybe', Unique', Endpoint}
use Rattle.ipdl_base.specs.declared.schema.TypeRow.{TypeRow}
use Rattle.ipdl_base.specs.declared.schema.TypeRow.TheVariants.{Struct, Union}
use Rattle.program_schema.specs.Laws.{plain_param_row, plain_message_row, plain_protocol_row, plain_type_row, plain_schema}
use Rattle.actor_tables.specs.TableText.{name_of_protocol, name_of_type, protocol_name, type_name, shape_text, listed, param_text, params_text, returns_text, message_text, manager_text, managed_text, protocol_text, protocols_text, type_text, types_text, table_text}

-- names

protocol_at : (rows : List ProtocolRow) (p : ℕ) → name_of_protocol (slice_get (map plain_protocol_row rows) p) ≡ name_of_protocol (slice_get rows p)
protocol_at [] zero = refl
protocol_at [] (suc p) = refl
protocol_at (row ∷ rows) zero = refl
protocol_at (row ∷ rows) (suc p) = protocol_at rows p

type_at : (rows : List TypeRow) (t : ℕ) → name_of_type (slice_get (map plain_type_row rows) t) ≡ name_of_type (slice_get rows t)
type_at [] zero = refl
type_at [] (suc t) = refl
type_at (Struct name fields ∷ rows) zero = refl
type_at (Union name components ∷ rows) zero = refl
type_at (row ∷ rows) (suc t) = type_at rows t

protocol_same : (s : Schema) (p : ℕ) → protocol_name (plain_schema s) p ≡ protocol_name s p
protocol_same s p = protocol_at s.protocols p

type_same : (s : Schema) (t : ℕ) → type_name (plain_schema s) t ≡ type_name s t
type_same s t = type_at s.types t

-- lists

-- the images of two lists are the same where those of their elements are
mapped : {X : Type 0} (f : X → X) (old new : X → List ℕ) → ((x : X) → new (f x) ≡ old x) → (xs : List X) → map new (map f xs) ≡ map old xs
mapped f old new same [] = refl
mapped f old new same (x ∷ xs) = let head : new (f x) ≡ old x = same x in let tail : map new (map f xs) ≡ map old xs = mapped f old new same xs in cc

flat : {X : Type 0} (f : X → X) (old new : X → List ℕ) → ((x : X) → new (f x) ≡ old x) → (xs : List X) → flat_map new (map f xs) ≡ flat_map old xs
flat f old new same [] = refl
flat f old new same (x ∷ xs) = let head : new (f x) ≡ old x = same x in let tail : flat_map new (map f xs) ≡ flat_map old xs = flat f old new same xs in rw (head, tail) refl

flat_same : (old new : ℕ → List ℕ) → ((x : ℕ) → new x ≡ old x) → (xs : List ℕ) → flat_map new xs ≡ flat_map old xs
flat_same old new same [] = refl
flat_same old new same (x ∷ xs) = let head : new x ≡ old x = same x in let tail : flat_map new xs ≡ flat_map old xs = flat_same old new same xs in rw (head, tail) refl

-- rows

shape_same : (s : Schema) (shape : Shape) → shape_text (plain_schema s) (plain_shape shape) ≡ shape_text s shape
shape_same s (Builtin b) = refl
shape_same s (Using name) = refl
shape_same s (Actor p nullable) = rw (protocol_same s p) refl
shape_same s (Named t) = type_same s t
shape_same s (Array' _ e) = rw (shape_same s e) refl
shape_same s (Maybe' _ e) = rw (shape_same s e) refl
shape_same s (Unique' _ e) = rw (shape_same s e) refl
shape_same s (Endpoint p managed) = rw (protocol_same s p) refl

param_same : (s : Schema) (row : ParamRow) → param_text (plain_schema s) (plain_param_row row) ≡ param_text s row
param_same s row = rw (shape_same s row.shape) refl

params_same : (s : Schema) (rows : List ParamRow) → params_text (plain_schema s) (map plain_param_row rows) ≡ params_text s rows
params_same s rows = ap (λ (texts : List (List ℕ)). codes "(" ++ listed texts ++ codes ")") (mapped plain_param_row (param_text s) (param_text (plain_schema s)) (param_same s) rows)

returns_same : (s : Schema) (rows : Option (List ParamRow)) → returns_text (plain_schema s) (option_map (map plain_param_row) rows) ≡ returns_text s rows
returns_same s None = refl
returns_same s (Some rows) = ap (λ (text : List ℕ). codes " returns " ++ text) (params_same s rows)

message_same : (s : Schema) (row : MessageRow) → message_text (plain_schema s) (plain_message_row row) ≡ message_text s row
message_same s row = rw (params_same s row.params, returns_same s row.returns) refl

protocol_row_same : (s : Schema) (number : ℕ) (row : ProtocolRow) → protocol_text (plain_schema s) number (plain_protocol_row row) ≡ protocol_text s number row
protocol_row_same s number row =
    rw (
      flat_same (manager_text s) (manager_text (plain_schema s)) (λ p. rw (protocol_same s p) refl) row.managers,
      flat_same (managed_text s) (managed_text (plain_schema s)) (λ p. rw (protocol_same s p) refl) row.manages,
      flat plain_message_row (message_text s) (message_text (plain_schema s)) (message_same s) row.messages,
    )
    refl

protocols_same : (s : Schema) (rows : List ProtocolRow) (number : ℕ) → protocols_text (plain_schema s) number (map plain_protocol_row rows) ≡ protocols_text s number rows
protocols_same s [] number = refl
protocols_same s (row ∷ rows) number =
    ap (λ (text : List ℕ). text ++ protocols_text (plain_schema s) (suc number) (map plain_protocol_row rows)) (protocol_row_same s number row)
    ∙ ap (λ (text : List ℕ). protocol_text s number row ++ text) (protocols_same s rows (suc number))

type_row_same : (s : Schema) (number : ℕ) (row : TypeRow) → type_text (plain_schema s) number (plain_type_row row) ≡ type_text s number row
type_row_same s number (Struct name fields) = rw (params_same s fields) refl
type_row_same s number (Union name components) = rw (mapped plain_shape (shape_text s) (shape_text (plain_schema s)) (shape_same s) components) refl

types_same : (s : Schema) (rows : List TypeRow) (number : ℕ) → types_text (plain_schema s) number (map plain_type_row rows) ≡ types_text s number rows
types_same s [] number = refl
types_same s (row ∷ rows) number =
    ap (λ (text : List ℕ). text ++ types_text (plain_schema s) (suc number) (map plain_type_row rows)) (type_row_same s number row)
    ∙ ap (λ (text : List ℕ). type_text s number row ++ text) (types_same s rows (suc number))

table_same : (s : Schema) → table_text (plain_schema s) ≡ table_text s
table_same s =
    ap (λ (text : List ℕ). text ++ types_text (plain_schema s) 0 (map plain_type_row s.types)) (protocols_same s s.protocols 0)
    ∙ ap (λ (text : List ℕ). protocols_text s 0 s.protocols ++ text) (types_same s s.types 0)

-- schemas that are the same up to boxes have one text
pub one_text : (a b : Schema) → plain_schema a ≡ plain_schema b → table_text a ≡ table_text b
one_text a b e = sym (table_same a) ∙ ap table_text e ∙ table_same b
