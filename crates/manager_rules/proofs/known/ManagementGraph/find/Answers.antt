use Rattle.std.proofs.Common.{◌≡◌, ◌∙◌, List, Some, None, sym, ap, subst}
use Rattle.ipdl_syntax.specs.declared.program.Entry.{Entry}
use Rattle.name_table.specs.Decls.{FindsOneProtocol, protocol_of}
use Rattle.name_table.specs.Finds.{FindsAsProtocol}
use Rattle.manager_rules.proofs.Counted.{one_number}
use Rattle.manager_rules.proofs.known.ManagementGraph.find.Goals as goal

pub returns-in_err-other-clause-none : goal.returns-in_err-other-clause-none
returns-in_err-other-clause-none c = rw c.from_residual.ensures (λ other q finds there. let P : List Entry → Type 0 = λ program. FindsOneProtocol program c.args.file c.args.name.now other in c.in_err-other.ensures.none other (subst P (sym c.requires.names) finds))

pub returns-in_err-protocol-clause-none : goal.returns-in_err-protocol-clause-none
returns-in_err-protocol-clause-none c = rw c.from_residual-in_err-protocol.ensures (λ other q finds there.
    let program = c.args.self.now.program.now in
    let P : List Entry → Type 0 = λ program. FindsOneProtocol program c.args.file c.args.name.now c.in_ok-other.other in
    let same = one_number (FindsAsProtocol program c.args.file c.args.name.now) other c.in_ok-other.other finds (subst P c.requires.names c.in_ok-other.ensures.some) in
    let e : None ≡ Some q = c.in_err-protocol.ensures ∙ ap (λ k. protocol_of program k) (sym same) ∙ there in
    cc)
