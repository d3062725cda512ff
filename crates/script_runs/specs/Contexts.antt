-- The context of terms fits the block that they are in.
use Rattle.std.specs.Prelude.{◌≡◌, ◌≢◌, false, pos}
use Rattle.handler_script.specs.Blocks.{BlockContext, given_in}
use Rattle.handler_script.specs.Valid.{MayName, is_param}
use Rattle.handler_script.specs.ValueOf.{TermContext, id_of}
use Rattle.ipdl_base.specs.declared.schema.Schema.{Schema}
use Rattle.script_reader.specs.declared.written.Who.{Who}
use Rattle.value_types.specs.HasType.{HaveTypes}

-- The given values have the types of the handled message's parameters. Each actor that may be named, other than by a
-- parameter, is not null.
pub record FitsContext (schema : Schema) (block : BlockContext) (context : TermContext) : Type 0 where
  pub given : HaveTypes schema (given_in block) context.given
  pub who : (w : Who) → MayName block w → is_param w ≡ false → id_of context w ≢ pos 0
