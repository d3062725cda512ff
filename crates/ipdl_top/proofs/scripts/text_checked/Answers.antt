use Rattle.std.proofs.Common.{refl, subst, sym}
use Rattle.std.proofs.lemmas.Result.{IfOk-weaker}
use Rattle.handler_script.specs.Faults.{IsFault}
use Rattle.ipdl_top.specs.ScriptSteps.{IsTextChecked, IsValidChecked}
use Rattle.ipdl_top.proofs.scripts.text_checked.Goals as goal

pub returns-in-Err-Broken-clause-found : goal.returns-in-Err-Broken-clause-found
returns-in-Err-Broken-clause-found c =
    let IsIt = IsTextChecked c.args.name.now c.args.text.now c.args.schema.now c.args.top in
    let told = subst (IsFault c.args.text.now c.args.schema.now c.args.top) c.in-Err-Broken.field-0-is c.in-Err-Broken.ensures.fault in
    IfOk-weaker c.broken_script.result _ IsIt (λ checked is. subst IsIt (sym is) (record { is_report = told.0; some = told.1; called = refl })) c.broken_script.ensures

pub returns-in-Err-Broken-clause-valid : goal.returns-in-Err-Broken-clause-valid
returns-in-Err-Broken-clause-valid c =
    IfOk-weaker c.broken_script.result _ (IsValidChecked c.args.schema.now) (λ checked is. subst (IsValidChecked c.args.schema.now) (sym is) tt) c.broken_script.ensures
