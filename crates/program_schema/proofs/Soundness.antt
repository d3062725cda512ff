-- The schema of a program that breaks no rule is sound.
use Rattle.std.proofs.Common.{◌≡◌, List, length, sym, subst}
use Rattle.std.specs.List.{All}
use Rattle.ipdl_base.specs.Sound.{IsTypeInRange}
use Rattle.ipdl_base.specs.declared.schema.Schema.{Schema}
use Rattle.ipdl_syntax.specs.declared.program.Entry.{Entry}
use Rattle.program_schema.specs.Laws.{CleanIsSound}
use Rattle.program_schema.specs.SchemaOf.{IsSchemaOf, IsTypeRow}
use Rattle.program_schema.proofs.DefinedTypes.{types_defined}
use Rattle.program_schema.proofs.Lists.{rows_length, rows_of}
use Rattle.program_schema.proofs.Numbered.{types_in_range}
use Rattle.program_schema.proofs.SoundProtocols.{few_protocols, protocols_distinct, protocols_length, sound_protocol}

types_length : (program : List Entry) (schema : Schema) (is : IsSchemaOf program schema) → length schema.types ≡ length is.numbering.types
types_length program schema is = sym (rows_length _ 0 is.numbering.types schema.types (rows_of (IsTypeRow program is.numbering) 0 is.numbering.types schema.types is.types))

pub clean_is_sound : CleanIsSound
clean_is_sound program schema clean is =
    let types = types_length program schema is in
    let protocols = protocols_length program schema clean is in
    record {
      few = few_protocols program schema clean is;
      protocols = sound_protocol program schema clean is types;
      types = subst (λ k. All (IsTypeInRange k (length schema.types)) schema.types) (sym protocols) (subst (λ k. All (IsTypeInRange (length is.numbering.files) k) schema.types) (sym types) (types_in_range program is.numbering is.numbering.types schema.types is.types));
      defined = types_defined program is.numbering schema.types is.types clean;
      distinct = protocols_distinct program schema clean is;
    }
