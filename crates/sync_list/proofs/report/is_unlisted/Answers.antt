use Rattle.std.proofs.Common.{refl, sym, ◌∙◌}
use Rattle.std.proofs.lemmas.Bool.Decides.{Decides-not}
use Rattle.ipdl_base.specs.declared.kinds.Semantics.TheVariants.{Sync}
use Rattle.sync_list.specs.Broken.{Lists}
use Rattle.sync_list.proofs.Keys.{told_pair}
use Rattle.sync_list.proofs.Same.{semantics_decides}
use Rattle.sync_list.proofs.report.is_unlisted.Goals as goal

pub returns-then-eq : goal.returns-then-eq
returns-then-eq c list are =
    let m = c.args.message.now in
    let same = (semantics_decides m.semantics Sync).0 (sym c.eq.ensures ∙ c.if-eq.true) in
    let told = told_pair c.args.names.now (Lists list) (c.args.protocol, c.as_slice.result) c.args.protocol.now m.name refl c.as_slice.ensures are c.contains.result c.contains.ensures in
    let no = Decides-not c.contains.result told in
    (λ t. (same, no.0 t), λ h. no.1 h.1)
