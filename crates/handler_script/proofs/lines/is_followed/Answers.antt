use Rattle.std.proofs.Common.{◌≡◌, List, not, Some, None, sym, ◌∙◌, subst}
use Rattle.std.specs.Prelude.{◌↔◌, IsTrue}
use Rattle.script_reader.specs.declared.statement.Statement.{Statement}
use Rattle.handler_script.specs.Blocks.{said, IsFollowed}
use Rattle.handler_script.proofs.Built.{statements_from, not_is}
use Rattle.handler_script.proofs.lines.is_followed.Goals as goal

pub loop-line-preserved : goal.loop-line-preserved
loop-line-preserved c =
    let x = c.line-item.result in
    let none : said x ≡ None = rw c.in_default.is at (sym c.said.ensures) in
    sym (statements_from c.args.lines.now c.loop-line.line-index x None c.loop-line-test.true c.line-item.is none) ∙ c.loop-line.invariant

pub returns-in-Some : goal.returns-in-Some
returns-in-Some c =
    let x = c.line-item.result in
    let some : said x ≡ Some c.in-Some.statement.now = rw c.in-Some.is at (sym c.said.ensures) in
    let P : List Statement → Type 0 = λ ss. IsTrue (not c.closes.result) ↔ IsFollowed ss in
    subst P (sym (statements_from c.args.lines.now c.loop-line.line-index x (Some c.in-Some.statement.now) c.loop-line-test.true c.line-item.is some) ∙ c.loop-line.invariant) (rw c.closes.ensures (not_is _))
