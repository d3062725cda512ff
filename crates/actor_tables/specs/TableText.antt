-- The text of a program's tables.
use Rattle.std.specs.Prelude.{ℕ, Bool, true, false, if◌then◌else◌, suc, List, [], ◌∷◌, ◌++◌, map, codes, Option, Some, None, slice_get}
use Rattle.std.specs.List.{flat_map}
use Rattle.std.specs.Fmt.{decimal}
use Rattle.ipdl_base.specs.declared.kinds.Level.{Level}
use Rattle.ipdl_base.specs.declared.kinds.Level.TheVariants as level
use Rattle.ipdl_base.specs.declared.kinds.Semantics.{Semantics}
use Rattle.ipdl_base.specs.declared.kinds.Semantics.TheVariants.{Async, Sync}
use Rattle.ipdl_base.specs.declared.kinds.Direction.{Direction}
use Rattle.ipdl_base.specs.declared.kinds.Direction.TheVariants as direction
use Rattle.ipdl_base.specs.declared.kinds.Compress.{Compress}
use Rattle.ipdl_base.specs.declared.kinds.Compress.TheVariants as compress
use Rattle.ipdl_base.specs.declared.schema.Kind.{Kind}
use Rattle.ipdl_base.specs.declared.schema.Kind.TheVariants as kind
use Rattle.ipdl_base.specs.declared.schema.Schema.{Schema}
use Rattle.ipdl_base.specs.declared.schema.ProtocolRow.{ProtocolRow}
use Rattle.ipdl_base.specs.declared.schema.MessageRow.{MessageRow}
use Rattle.ipdl_base.specs.declared.schema.ParamRow.{ParamRow}
use Rattle.ipdl_base.specs.declared.schema.TypeRow.{TypeRow}
use Rattle.ipdl_base.specs.declared.schema.TypeRow.TheVariants.{Struct, Union}
use Rattle.ipdl_base.specs.declared.schema.Shape.{Shape, Builtin, Using, Actor, Named, Array', Maybe', Unique', Endpoint}
use Rattle.ipdl_base.specs.Builtins.{builtin_name}

-- the full name of a protocol, or an empty text if there is no protocol
abbrev pub name_of_protocol : Option ProtocolRow → List ℕ
name_of_protocol None = []
name_of_protocol (Some protocol) = protocol.name

abbrev pub protocol_name : Schema → ℕ → List ℕ
protocol_name schema p = name_of_protocol (slice_get schema.protocols p)

-- the full name of a struct or a union, or an empty text if there is no type
abbrev pub name_of_type : Option TypeRow → List ℕ
name_of_type None = []
name_of_type (Some (Struct name fields)) = name
name_of_type (Some (Union name components)) = name

abbrev pub type_name : Schema → ℕ → List ℕ
type_name schema t = name_of_type (slice_get schema.types t)

-- a type, with the full names of declarations and the short names of builtins
abbrev pub shape_text : Schema → Shape → List ℕ
shape_text schema (Builtin b) = builtin_name b
shape_text schema (Using name) = name
shape_text schema (Actor p nullable) = (if nullable then codes "nullable " else []) ++ protocol_name schema p
shape_text schema (Named t) = type_name schema t
shape_text schema (Array' _ s) = shape_text schema s ++ codes "[]"
shape_text schema (Maybe' _ s) = shape_text schema s ++ codes "?"
shape_text schema (Unique' _ s) = codes "UniquePtr<" ++ shape_text schema s ++ codes ">"
shape_text schema (Endpoint p managed) = (if managed then codes "ManagedEndpoint<" else codes "Endpoint<") ++ protocol_name schema p ++ codes ">"

-- the texts, with a comma and a space between each two
abbrev pub listed : List (List ℕ) → List ℕ
listed [] = []
listed (text ∷ []) = text
listed (text ∷ next ∷ rest) = text ++ codes ", " ++ listed (next ∷ rest)

-- a parameter, a return or a field: its type and its name
abbrev pub param_text : Schema → ParamRow → List ℕ
param_text schema p = shape_text schema p.shape ++ codes " " ++ p.name

-- parameters in brackets
abbrev pub params_text : Schema → List ParamRow → List ℕ
params_text schema ps = codes "(" ++ listed (map (param_text schema) ps) ++ codes ")"

abbrev pub semantics_text : Semantics → List ℕ
semantics_text Async = codes "async"
semantics_text Sync = codes "sync"

abbrev pub level_text : Level → List ℕ
level_text level.Not = codes "not"
level_text level.InsideSync = codes "inside_sync"
level_text level.InsideCpow = codes "inside_cpow"

abbrev pub direction_text : Direction → List ℕ
direction_text direction.Parent = codes "parent"
direction_text direction.Child = codes "child"
direction_text direction.Both = codes "both"

abbrev pub compress_text : Compress → List ℕ
compress_text compress.Plain = codes "plain"
compress_text compress.Last = codes "compress"
compress_text compress.All = codes "compressall"

-- the kind of a message, which is `lazy` for one that may wait in the outbox
abbrev pub kind_text : Kind → Bool → List ℕ
kind_text kind.Normal true = codes "lazy"
kind_text kind.Normal false = codes "normal"
kind_text (kind.Constructor p) lazy = codes "constructor"
kind_text kind.Delete lazy = codes "delete"

abbrev pub returns_text : Schema → Option (List ParamRow) → List ℕ
returns_text schema None = []
returns_text schema (Some ps) = codes " returns " ++ params_text schema ps

-- the line of a message
abbrev pub message_text : Schema → MessageRow → List ℕ
message_text schema m =
    codes "message " ++ decimal m.number ++ codes " " ++ direction_text m.direction ++ codes " " ++ semantics_text m.semantics ++ codes " " ++ level_text m.level
    ++ codes " " ++ compress_text m.compress ++ codes " " ++ kind_text m.kind m.lazy ++ codes " " ++ m.name ++ params_text schema m.params ++ returns_text schema m.returns ++ codes "\n"

-- the line of a manager, and that of a managed protocol
abbrev pub manager_text : Schema → ℕ → List ℕ
manager_text schema p = codes "manager " ++ protocol_name schema p ++ codes "\n"

abbrev pub managed_text : Schema → ℕ → List ℕ
managed_text schema p = codes "manages " ++ protocol_name schema p ++ codes "\n"

-- the lines of a protocol of this number: its own, those of its managers, of its managed protocols and of its messages
abbrev pub protocol_text : Schema → ℕ → ProtocolRow → List ℕ
protocol_text schema number p =
    codes "protocol " ++ decimal number ++ codes " " ++ p.name ++ codes " " ++ semantics_text p.semantics ++ codes " " ++ level_text p.level ++ codes "\n"
    ++ flat_map (manager_text schema) p.managers ++ flat_map (managed_text schema) p.manages ++ flat_map (message_text schema) p.messages

-- the lines of protocols that are numbered from here
abbrev pub protocols_text : Schema → ℕ → List ProtocolRow → List ℕ
protocols_text schema number [] = []
protocols_text schema number (p ∷ rest) = protocol_text schema number p ++ protocols_text schema (suc number) rest

-- the line of a struct or a union of this number
abbrev pub type_text : Schema → ℕ → TypeRow → List ℕ
type_text schema number (Struct name fields) = codes "struct " ++ decimal number ++ codes " " ++ name ++ codes " " ++ params_text schema fields ++ codes "\n"
type_text schema number (Union name components) = codes "union " ++ decimal number ++ codes " " ++ name ++ codes " (" ++ listed (map (shape_text schema) components) ++ codes ")\n"

-- the lines of structs and unions that are numbered from here
abbrev pub types_text : Schema → ℕ → List TypeRow → List ℕ
types_text schema number [] = []
types_text schema number (t ∷ rest) = type_text schema number t ++ types_text schema (suc number) rest

-- the tables: each protocol in the order of numbers, and then each struct and union
abbrev pub table_text : Schema → List ℕ
table_text schema = protocols_text schema 0 schema.protocols ++ types_text schema 0 schema.types
