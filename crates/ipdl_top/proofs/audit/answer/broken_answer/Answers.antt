use Rattle.std.proofs.Common.{◌≡◌, ◌∙◌, ◌++◌, ℕ, List, [], ◌∷◌, ap, append_assoc, codes}
use Rattle.std.proofs.lemmas.Result.{IfOk-weaker}
use Rattle.std.specs.Fmt.{decimal}
use Rattle.ipdl_base.specs.Rules.{rule_line}
use Rattle.ipdl_top.specs.Inputs.{bad_input_answer}
use Rattle.ipdl_top.specs.declared.status.Status.TheVariants.{BadTranscript}
use Rattle.ipdl_top.proofs.audit.answer.broken_answer.Goals as goal

-- the parts of the line, grouped from the right
regrouped : (name line rule : List ℕ) → name ++ (58 ∷ (line ++ 58 ∷ 32 ∷ (rule ++ 10 ∷ []))) ≡ name ++ codes ":" ++ line ++ codes ": " ++ rule ++ codes "\n"
regrouped name line rule = simp append_assoc

pub returns : goal.returns
returns c =
    let name = c.args.name.now in
    let line = decimal c.args.at in
    let rule = rule_line c.args.rule in
    let why : c.as_str.result.now ≡ 58 ∷ (line ++ 58 ∷ 32 ∷ (rule ++ 10 ∷ [])) = c.as_str.ensures.value ∙ c.in_ok-why.ensures.ok in
    IfOk-weaker c.fault_answer.result _ _ (λ answer says. says ∙ ap (λ (text : List ℕ). bad_input_answer BadTranscript [] (name ++ text)) why ∙ ap (bad_input_answer BadTranscript []) (regrouped name line rule)) c.fault_answer.ensures
