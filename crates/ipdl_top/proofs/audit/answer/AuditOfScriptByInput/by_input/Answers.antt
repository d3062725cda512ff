use Rattle.std.proofs.Common.{◌≡◌, ℕ, List, subst}
use Rattle.std.proofs.lemmas.Result.{IfOk-weaker}
use Rattle.ipdl_top.specs.Audit.{audit_answer}
use Rattle.ipdl_top.proofs.audit.answer.AuditOfScriptByInput.by_input.Goals as goal

pub returns : goal.returns
returns c =
    IfOk-weaker c.found_answer.result _ _
    (λ answer says. record {
      sound = c.requires.ready.0;
      valid = c.requires.ready.1;
      found = c.in_ok-found.found;
      audited = c.in_ok-found.ensures;
      says = subst (λ (name : List ℕ). answer ≡ audit_answer name c.in_ok-found.found) c.as_str.ensures.value says;
    }) c.found_answer.ensures
