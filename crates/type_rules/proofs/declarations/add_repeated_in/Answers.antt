use Rattle.std.proofs.Common.{◌≡◌, List, map, subst, rules}
use Rattle.std.specs.List.{Any}
use Rattle.std.proofs.lemmas.Result.{on_ok_weaker}
use Rattle.ipdl_base.specs.declared.finding.Place.{Place}
use Rattle.ipdl_base.specs.declared.finding.TheConstants.Rule as rule
use Rattle.findings.specs.Adds.{Adds}
use Rattle.findings.proofs.Gains.{Adds-like}
use Rattle.type_rules.specs.Declarations.{Declaration, declarations}
use Rattle.type_rules.specs.Firsts.{told, IsRepeatedAmong}
use Rattle.type_rules.proofs.Lists.{any_of_map, any_to_map}
use Rattle.type_rules.proofs.declarations.add_repeated_in.Goals as goal

pub returns : goal.returns
returns c =
    let listed = c.list_declarations.new.all.items in
    let Told : List Declaration → Place → Type 0 = λ all place. Any (λ d. IsRepeatedAmong all d × (d.place ≡ place)) all in
    let all = map told listed in
    let P : Place → Declaration → Type 0 = λ place d. IsRepeatedAmong all d × (d.place ≡ place) in
    let Q : List Declaration → Type 0 = λ all. Adds rule.REPEATED_DECLARATION (Told all) c.args.found.now.items c.add_repeated_of.new.found.items in
    let is : map told listed ≡ declarations c.args.unit.now = search rules in
    on_ok_weaker c.add_repeated_of.result (λ g.
    subst Q is
    (Adds-like rule.REPEATED_DECLARATION (λ place. Any (λ d. P place (told d)) listed) (Told all) _ _ (rw c.as_slice.ensures.value at g)
    (λ place h. any_to_map told (P place) listed h)
    (λ place h. any_of_map told (P place) listed h)))
    c.add_repeated_of.ensures
