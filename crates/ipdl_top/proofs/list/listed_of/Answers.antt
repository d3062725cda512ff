use Rattle.std.proofs.Common.{◌≡◌, List, ℕ, ap, subst, sym}
use Rattle.std.proofs.lemmas.Result.{IfOk-weaker}
use Rattle.std.specs.Option.{option_copied}
use Rattle.std.specs.Prelude.{IfSome, Option, Some}
use Rattle.ipdl_top.specs.Steps.{IsHeld, IsListed}
use Rattle.ipdl_top.proofs.Found.{listed_so}
use Rattle.ipdl_top.proofs.list.listed_of.Goals as goal

pub returns-in-Some : goal.returns-in-Some
returns-in-Some c =
    let number = c.args.number in
    let name = c.in-Some.field-0.now in
    let word : option_copied c.args.list ≡ Some name = ap option_copied c.in-Some.is in
    IfOk-weaker c.listed_of_found.result _ _
    (λ listed is lists held.
    subst (λ (o : Option (List ℕ)). IsListed lists o number listed) (sym word)
    (listed_so lists name number listed (is (lists name) (subst (λ (o : Option (List ℕ)). IfSome o (λ w. IsHeld (lists w) c.args.found.now)) word held)))) c.listed_of_found.ensures
