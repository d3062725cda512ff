-- What follows from the definitions, for every program.
use Rattle.std.specs.Prelude.{◌≡◌, List, map, option_map}
use Rattle.ipdl_base.specs.Plain.{plain_shape}
use Rattle.ipdl_base.specs.Sound.{IsSound}
use Rattle.ipdl_base.specs.declared.schema.MessageRow.{MessageRow}
use Rattle.ipdl_base.specs.declared.schema.ParamRow.{ParamRow}
use Rattle.ipdl_base.specs.declared.schema.ProtocolRow.{ProtocolRow}
use Rattle.ipdl_base.specs.declared.schema.Schema.{Schema}
use Rattle.ipdl_base.specs.declared.schema.TypeRow.{TypeRow}
use Rattle.ipdl_base.specs.declared.schema.TypeRow.TheVariants.{Struct, Union}
use Rattle.ipdl_syntax.specs.declared.program.Entry.{Entry}
use Rattle.program_schema.specs.Clean.{IsClean}
use Rattle.program_schema.specs.SchemaOf.{IsSchemaOf}

-- the rows of a schema, with every box at one place

abbrev pub plain_param_row : ParamRow → ParamRow
plain_param_row row = record row { shape = plain_shape row.shape }

abbrev pub plain_message_row : MessageRow → MessageRow
plain_message_row row = record row { params = map plain_param_row row.params; returns = option_map (map plain_param_row) row.returns }

abbrev pub plain_protocol_row : ProtocolRow → ProtocolRow
plain_protocol_row row = record row { messages = map plain_message_row row.messages }

abbrev pub plain_type_row : TypeRow → TypeRow
plain_type_row (Struct name fields) = Struct name (map plain_param_row fields)
plain_type_row (Union name components) = Union name (map plain_shape components)

abbrev pub plain_schema : Schema → Schema
plain_schema schema = record { protocols = map plain_protocol_row schema.protocols; types = map plain_type_row schema.types }

-- A program has at most one schema, up to where boxes lie.
abbrev pub OneSchema : Type 0
OneSchema = (program : List Entry) (a b : Schema) → IsSchemaOf program a → IsSchemaOf program b → plain_schema a ≡ plain_schema b

-- The schema of a program that breaks no rule is sound.
abbrev pub CleanIsSound : Type 0
CleanIsSound = (program : List Entry) (schema : Schema) → IsClean program → IsSchemaOf program schema → IsSound schema
