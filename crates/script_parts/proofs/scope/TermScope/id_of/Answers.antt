use Rattle.std.proofs.Common.{rules, ◌∙◌, sym, ap, SFits, w32, to_z-of_z}
use Rattle.handler_script.specs.ValueOf.{id_in}
use Rattle.script_parts.proofs.GivenLemmas.{given-plain}
use Rattle.script_parts.proofs.scope.TermScope.id_of.Goals as goal

pub returns-in-Param : goal.returns-in-Param
returns-in-Param g c =
    let fits : SFits w32 c.given_actor.result = search rules in
    rw c.in-Param.is (to_z-of_z fits ∙ c.given_actor.ensures ∙ ap id_in (sym (given-plain c.args.self.now.given.now c.in-Param.number)))
