use Rattle.std.proofs.Common.{◌≡◌, ◌+◌, ◌≤◌, List, length, sym, ap, ◌∙◌, subst, arith}
use Rattle.std.proofs.lemmas.Bool.Decides.{Decides-eqb}
use Rattle.findings.specs.Report as report
use Rattle.script_reader.specs.declared.line.LineReading.{LineReading}
use Rattle.handler_script.specs.Broken.{IsBroken}
use Rattle.handler_script.specs.ScriptOf.{blocks_of}
use Rattle.handler_script.proofs.Validity.{script_valid}
use Rattle.handler_script.proofs.Whole.{few_lines, none_broken, script_is}
use Rattle.handler_script.proofs.read.read_script.Goals as goal

pub report_of-requires-clause-few : goal.report_of-requires-clause-few
report_of-requires-clause-few c =
    let few : length c.in_ok-readings.readings ≤ length c.args.text.now + 1 = few_lines c.args.text.now c.in_ok-readings.readings c.in_ok-readings.ensures in
    let same : length c.as_slice.result.now ≡ length c.in_ok-readings.readings = ap length c.as_slice.ensures in
    omega (arith, few, same, c.requires.small)

pub returns-clause-script : goal.returns-clause-script
returns-clause-script c =
    let R : List LineReading → Type 0 = λ rs. report.IsReport (IsBroken c.args.schema.now c.args.top rs) c.in_ok-findings.findings in
    let zero : length c.as_slice-2.result.now ≡ 0 = (Decides-eqb (length c.as_slice-2.result.now) 0).0 (sym c.is_empty.ensures ∙ c.if-not-is_empty.false) in
    record {
      readings = c.in_ok-readings.readings;
      is_reading = c.in_ok-readings.ensures;
      kept = none_broken c.in_ok-findings.findings (subst R c.as_slice.ensures c.in_ok-findings.ensures) (sym (ap length c.as_slice-2.ensures) ∙ zero);
      is = script_is c.args.top c.in_ok-blocks.blocks _ (c.in_ok-blocks.ensures ∙ ap (blocks_of c.args.schema.now) c.as_slice-3.ensures);
    }

pub returns-clause-valid : goal.returns-clause-valid
returns-clause-valid c = script_valid c.args.text.now c.args.schema.now c.args.top _ c.requires.small c.requires.sound c.requires.protocol (returns-clause-script c)
