use Rattle.std.proofs.Common.{◌∙◌, ap, subst}
use Rattle.name_table.specs.declared.decl.DeclId.TheVariants.{Protocol}
use Rattle.name_table.specs.declared.decl.Found.TheVariants as found
use Rattle.name_table.specs.Finds.{FindsAsProtocol, Counts}
use Rattle.name_table.proofs.Counting.{endpoint_one, endpoint_none}
use Rattle.name_table.proofs.names.Names.endpoints.Goals as goal

pub returns-in-One-Protocol : goal.returns-in-One-Protocol
returns-in-One-Protocol c =
    let one : Counts (FindsAsProtocol c.args.self.now c.args.file c.args.inner.now) (found.One (Protocol c.in-One-Protocol.p)) =
    subst (Counts (FindsAsProtocol c.args.self.now c.args.file c.args.inner.now)) (c.in-One-Protocol.is ∙ ap found.One c.in-One-Protocol.field-0-is) c.protocols.ensures in
    ((tt, (c.in-Some.ensures.some, one.0)), endpoint_one c.args.self.now c.args.file c.args.text.now c.args.inner.now c.in-Some.managed c.in-One-Protocol.p c.in-Some.ensures.some one)

pub returns-in_default-protocols-4 : goal.returns-in_default-protocols-4
returns-in_default-protocols-4 c =
    endpoint_none c.args.self.now c.args.file c.args.text.now c.args.inner.now (subst (Counts (FindsAsProtocol c.args.self.now c.args.file c.args.inner.now)) c.in_default-protocols.is c.protocols.ensures)
