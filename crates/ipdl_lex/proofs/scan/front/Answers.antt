use Rattle.std.proofs.Common.{refl, sym}
use Rattle.ipdl_lex.proofs.Fronts.{blank_at, bad_byte_at}
use Rattle.ipdl_lex.proofs.scan.front.Goals as goal

pub returns-in-Blank-clause-front : goal.returns-in-Blank-clause-front
returns-in-Blank-clause-front c = blank_at c.args.text.now (sym c.in-Blank.ensures)

pub returns-in-Other-clause-fault : goal.returns-in-Other-clause-fault
returns-in-Other-clause-fault c = (refl, bad_byte_at c.args.text.now c.requires (sym c.in-Other.ensures))
