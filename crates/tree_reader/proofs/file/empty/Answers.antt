use Rattle.std.proofs.Common.{refl}
use Rattle.tree_reader.proofs.FileForms.{nothing_read}
use Rattle.tree_reader.proofs.file.empty.Goals as goal

pub returns : goal.returns
returns c = λ kind tokens. nothing_read kind tokens _ c.new.ensures.items c.new-2.ensures.items c.new-3.ensures.items c.new-4.ensures.items refl c.new-5.ensures.items
