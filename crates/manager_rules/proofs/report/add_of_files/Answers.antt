use Rattle.std.proofs.Common.{ℕ, List, length, refl}
use Rattle.std.specs.Prelude.{IsSomeAnd}
use Rattle.std.proofs.lemmas.Option.{slice_get_read}
use Rattle.ipdl_base.specs.declared.finding.Finding.{Finding}
use Rattle.ipdl_syntax.specs.declared.program.Entry.{Entry}
use Rattle.findings.specs.Gains.{AtSome}
use Rattle.manager_rules.specs.Broken.{BrokenAt}
use Rattle.manager_rules.specs.InProtocol.{BrokenIn}
use Rattle.manager_rules.proofs.Gathered.{gains_first, gains_more, gains_all, gains_like}
use Rattle.manager_rules.proofs.Spread.{broken_to, broken_from}
use Rattle.manager_rules.proofs.report.add_of_files.Goals as goal

holds : List Entry → Finding → ℕ → Entry → Type 0
holds program f file e = IsSomeAnd e.unit.protocol (λ p. BrokenIn program file p f)

pub loop-file-init : goal.loop-file-init
unfolding holds
loop-file-init c = let program = c.args.known.now.program.now in gains_first (holds program) program c.args.found.now.items

pub loop-file-preserved : goal.loop-file-preserved
unfolding holds
loop-file-preserved c =
    let program = c.args.known.now.program.now in
    let file = c.loop-file.file in
    let e = c.entry-item.result in
    let at = slice_get_read program (length program) file e refl c.loop-file-test.true c.entry-item.is in
    gains_more (holds program) program file e c.args.found.now.items c.loop-file.found.items c.add_of_file.new.found.items at c.loop-file.invariant c.in_ok-add_of_file.ensures

pub returns : goal.returns
unfolding holds
returns c =
    let program = c.args.known.now.program.now in
    let all = gains_all (holds program) program c.loop-file.file c.args.found.now.items c.loop-file.found.items c.loop-file-test.false c.loop-file.invariant in
    gains_like (λ f. AtSome (holds program f) program) (BrokenAt program) c.args.found.now.items c.loop-file.found.items (broken_to program) (broken_from program) all
