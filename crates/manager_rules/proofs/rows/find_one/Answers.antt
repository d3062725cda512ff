use Rattle.std.proofs.Common.{◌∙◌, sym}
use Rattle.name_table.specs.declared.decl.DeclId.TheVariants.{Protocol}
use Rattle.name_table.specs.Finds.{FindsAsProtocol}
use Rattle.manager_rules.proofs.Counted.{counted_one}
use Rattle.manager_rules.proofs.rows.find_one.Goals as goal

pub returns-in-None-clause-none : goal.returns-in-None-clause-none
returns-in-None-clause-none c other one = let e = sym c.in-None.is ∙ counted_one (FindsAsProtocol c.args.names.now c.args.file c.args.name.now) c.find_protocol.result (Protocol other) c.find_protocol.ensures one in let x : ⊥ = cc in x
