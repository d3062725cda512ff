use Rattle.std.proofs.Common.{ℕ, subst}
use Rattle.std.proofs.lemmas.Result.{IfOk-weaker}
use Rattle.std.specs.Option.{option_copied}
use Rattle.ipdl_top.specs.Steps.{IsListed}
use Rattle.ipdl_top.proofs.Compilations.{of_loaded}
use Rattle.ipdl_top.proofs.compile.checked_of.Goals as goal

pub returns : goal.returns
returns c =
    let word = option_copied c.args.list in
    let listed = c.in_ok-listed.listed in
    IfOk-weaker c.loaded_checked.result _ _
    (λ checked found given lists answer held.
    of_loaded given lists word c.args.loaded listed checked answer c.requires.good (subst (λ (number : ℕ). IsListed lists word number listed) c.number_after.ensures (c.in_ok-listed.ensures lists held)) found) c.loaded_checked.ensures
