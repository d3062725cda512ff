use Rattle.std.proofs.Common.{◌≡◌, subst}
use Rattle.std.specs.Prelude.{OnOk}
use Rattle.std.proofs.lemmas.Result.{on_ok_weaker}
use Rattle.ipdl_base.specs.declared.finding.Place.{Place}
use Rattle.ipdl_base.specs.declared.finding.TheConstants.Rule as rule
use Rattle.findings.specs.Gains.{Gains}
use Rattle.findings.proofs.Gathers.{Gains-like, Gains-then}
use Rattle.include_graph.specs.Additions.{finding_at}
use Rattle.include_graph.proofs.rules.add_in.Goals as goal

pub returns-in-Large : goal.returns-in-Large
returns-in-Large c =
    let P : Place → Type 0 = λ place. OnOk c.add-in-Large.result (Gains (λ f. f ≡ finding_at rule.TOO_LARGE place) c.args.found.now.items c.add-in-Large.new.found.items) in
    rw c.in-Large.is (subst P c.whole_file-in-Large.ensures c.add-in-Large.ensures)

pub returns-in-BadToken : goal.returns-in-BadToken
returns-in-BadToken c = rw c.in-BadToken.is c.add-in-BadToken.ensures

pub returns-in-SyntaxFault : goal.returns-in-SyntaxFault
returns-in-SyntaxFault c = rw c.in-SyntaxFault.is c.add-in-SyntaxFault.ensures

pub returns-in_ok-add_of_name-in-Read : goal.returns-in_ok-add_of_name-in-Read
returns-in_ok-add_of_name-in-Read c = rw c.in-Read.is (on_ok_weaker c.add_among.result (λ g. Gains-then _ _ _ _ _ c.in_ok-add_of_name-in-Read.ensures (rw (c.as_slice.ensures, c.as_slice-in-Read.ensures.value) at g)) c.add_among.ensures)

pub returns-then-word : goal.returns-then-word
returns-then-word c =
    let P : Place → Type 0 = λ place. OnOk c.add.result (Gains (λ f. f ≡ finding_at rule.FILE_NOT_FOUND place) c.args.found.now.items c.add.new.found.items) in
    rw c.in-Absent.is (on_ok_weaker c.add.result (λ g. Gains-like _ _ _ _ g (λ f p. (c.if-word.true, p)) (λ f p. p.1)) (subst P c.whole_file.ensures c.add.ensures))
