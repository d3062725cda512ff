-- The block that a context represents.
use Rattle.handler_script.specs.declared.context.Context.{Context}
use Rattle.handler_script.specs.declared.context.Context.TheVariants as context
use Rattle.handler_script.specs.Blocks.{BlockContext, in_main, in_handler}

abbrev pub standing_in : Context → BlockContext
standing_in (context.Main side) = in_main side
standing_in (context.Handler side message) = in_handler side message.now
