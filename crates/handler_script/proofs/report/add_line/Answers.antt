use Rattle.std.proofs.Common.{◌≡◌, sym, subst}
use Rattle.std.proofs.lemmas.Result.{on_ok_weaker}
use Rattle.ipdl_base.specs.declared.finding.TheConstants.Rule as rule
use Rattle.findings.specs.Gains.{Gains}
use Rattle.script_reader.specs.declared.line.LineReading.{LineReading}
use Rattle.script_reader.specs.declared.statement.Statement.{Statement}
use Rattle.handler_script.specs.Blocks.{statements}
use Rattle.handler_script.specs.Broken.{LineBreaks, StatementBreaks}
use Rattle.handler_script.proofs.Gathered.{gains_plain}
use Rattle.handler_script.proofs.report.add_line.Goals as goal

pub returns-in-Statement-clause-gains : goal.returns-in-Statement-clause-gains
returns-in-Statement-clause-gains c = on_ok_weaker c.add_statement.result (λ gains before k.
    let Q : LineReading → Type 0 = λ x. Gains (λ f. (c.args.place ≡ f.place) × LineBreaks c.args.schema.now f.rule before x (statements c.args.after.now)) c.args.found.now.items c.add_statement.new.found.items in
    let D : Statement → Type 0 = λ s. Gains (λ f. (c.args.place ≡ f.place) × StatementBreaks c.args.schema.now f.rule before s (statements c.args.after.now)) c.args.found.now.items c.add_statement.new.found.items in
    subst Q (sym c.in-Statement.is) (subst D c.deref.ensures (gains before k))) c.add_statement.ensures.gains

pub returns-in_ok-add_if-in-NoStatement-clause-gains : goal.returns-in_ok-add_if-in-NoStatement-clause-gains
returns-in_ok-add_if-in-NoStatement-clause-gains c before k =
    let Q : LineReading → Type 0 = λ x. Gains (λ f. (c.args.place ≡ f.place) × LineBreaks c.args.schema.now f.rule before x (statements c.args.after.now)) c.args.found.now.items c.add_if.new.found.items in
    subst Q (sym c.in-NoStatement.is) (gains_plain rule.NOT_A_STATEMENT c.args.place _ _ c.in_ok-add_if-in-NoStatement.ensures)

pub returns-in_ok-add_if-in-TooLong-clause-gains : goal.returns-in_ok-add_if-in-TooLong-clause-gains
returns-in_ok-add_if-in-TooLong-clause-gains c before k =
    let Q : LineReading → Type 0 = λ x. Gains (λ f. (c.args.place ≡ f.place) × LineBreaks c.args.schema.now f.rule before x (statements c.args.after.now)) c.args.found.now.items c.add_if-in-TooLong.new.found.items in
    subst Q (sym c.in-TooLong.is) (gains_plain rule.UNREADABLE_SCRIPT c.args.place _ _ c.in_ok-add_if-in-TooLong.ensures)
