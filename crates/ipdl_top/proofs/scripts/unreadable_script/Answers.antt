use Rattle.std.proofs.Common.{◌≡◌, ◌∙◌, List, [], ◌∷◌, ap, subst, sym}
use Rattle.std.proofs.lemmas.Result.{IfOk-weaker}
use Rattle.ipdl_base.specs.declared.finding.Finding.{Finding}
use Rattle.ipdl_base.specs.declared.finding.TheConstants.Rule as rule
use Rattle.include_graph.specs.Rules.{whole_file}
use Rattle.ipdl_top.specs.Lists.{finding_at}
use Rattle.ipdl_top.specs.ScriptSteps.{IsUnreadable}
use Rattle.ipdl_top.proofs.scripts.unreadable_script.Goals as goal

pub returns : goal.returns
returns c =
    let name = c.args.name.now in
    let one : c.from_vec.result ≡ finding_at rule.UNREADABLE_SCRIPT (whole_file 0) ∷ [] = c.from_vec.ensures ∙ c.in_ok-found.ensures.items in
    IfOk-weaker c.broken_script.result _ (IsUnreadable name) (λ checked is. subst (IsUnreadable name) (sym is) (ap (λ (fs : List Finding). record { findings = fs; names = name ∷ [] }) one)) c.broken_script.ensures
