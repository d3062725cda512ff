use Rattle.std.proofs.Common.{◌∙◌, refl, ap}
use Rattle.std.specs.Prelude.{option_and_then, slice_get}
use Rattle.script_parts.proofs.TableLemmas.{block-is, taken-more}
use Rattle.script_parts.proofs.blocks.BlockTable.take.Goals as goal

pub returns : goal.returns
returns c = λ blocks side taken is. (
  taken-more side blocks taken c.args.self.now _ c.args.number refl c.take_block.ensures.listed c.take_block.ensures.next is,
  ap (option_and_then (slice_get blocks)) c.take_block.ensures.taken ∙ block-is side blocks taken c.args.self.now c.args.number is,
)
