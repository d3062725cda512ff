use Rattle.std.proofs.Common.{◌≡◌, List, Option, ◌⊎◌, sym, subst}
use Rattle.std.specs.Prelude.{◌↔◌, IsTrue, IsSomeAnd}
use Rattle.std.specs.Option.{option_map}
use Rattle.std.proofs.lemmas.Result.{on_ok_weaker}
use Rattle.ipdl_base.specs.declared.finding.Finding.{Finding}
use Rattle.ipdl_base.specs.declared.finding.TheConstants.Rule as rule
use Rattle.ipdl_base.specs.declared.schema.MessageRow.{MessageRow}
use Rattle.ipdl_base.specs.declared.schema.ParamRow.{ParamRow}
use Rattle.findings.specs.Gains.{Gains}
use Rattle.handler_script.specs.declared.context.Context.{Context}
use Rattle.handler_script.specs.Blocks.{statements, given_in}
use Rattle.handler_script.specs.Broken.{sent, BlockBreaks, IsMissent, IsUnsent, types_by, ValuesBreak, IsNotAllowed}
use Rattle.handler_script.specs.Contexts.{standing_in}
use Rattle.handler_script.proofs.Gathered.{gains_if, gains_or}
use Rattle.handler_script.proofs.report.add_in_block.Goals as goal

pub returns : goal.returns
returns c =
    let schema = c.args.schema.now in
    let b = standing_in c.in-Some.context in
    let s = c.args.statement.now in
    let m : Option MessageRow = option_map (λ m. m.now) c.args.message in
    let below = statements c.args.after.now in
    let place = c.args.place in
    let Sent : Option MessageRow → Type 0 = λ o. IsTrue c.is_missent-direction.result ↔ IsMissent b o in
    let Carried : Option MessageRow → Type 0 = λ o. IsTrue c.is_unsent-carried.result ↔ IsUnsent o in
    let Given : List ParamRow → Type 0 = λ given. IsTrue c.values_break-values.result ↔ ValuesBreak schema given (option_map (λ ps. ps.now) c.types_of-types.result) s in
    let Types : Option (List ParamRow) → Type 0 = λ types. IsTrue c.values_break-values.result ↔ ValuesBreak schema (given_in b) types s in
    let D : Finding → Type 0 = λ f. (f.rule ≡ rule.WRONG_DIRECTION) × IsMissent b (sent m s) in
    let V : Finding → Type 0 = λ f. (f.rule ≡ rule.UNFIT_VALUES) × ValuesBreak schema (given_in b) (types_by m b s) s in
    let A : Finding → Type 0 = λ f. (f.rule ≡ rule.NOT_ALLOWED_HERE) × IsNotAllowed m c.args.block.answered b s below in
    let C : Finding → Type 0 = λ f. (f.rule ≡ rule.UNCARRIED_TYPE) × IsUnsent (sent m s) in
    let Held : Option Context → Type 0 = λ o. Gains (λ f. (place ≡ f.place) × IsSomeAnd (option_map standing_in o) (λ x. BlockBreaks schema f.rule m c.args.block.answered x s below)) c.args.found.now.items c.add_if-4.new.found.items in
    on_ok_weaker c.add_if-4.result (λ last. subst Held (sym c.in-Some.is) (
    gains_or place D (λ f. V f ⊎ (A f ⊎ C f)) _ _ _ (gains_if rule.WRONG_DIRECTION place _ (IsMissent b (sent m s)) _ _ c.in_ok-add_if.ensures (subst Sent c.sent-sent.ensures c.is_missent-direction.ensures))
    (gains_or place V (λ f. A f ⊎ C f) _ _ _ (gains_if rule.UNFIT_VALUES place _ (ValuesBreak schema (given_in b) (types_by m b s) s) _ _ c.in_ok-add_if-2.ensures (subst Types c.types_of-types.ensures (subst Given c.given_in.ensures c.values_break-values.ensures)))
    (gains_or place A C _ _ _ (gains_if rule.NOT_ALLOWED_HERE place _ (IsNotAllowed m c.args.block.answered b s below) _ _ c.in_ok-add_if-3.ensures c.is_not_allowed-allowed.ensures)
    (gains_if rule.UNCARRIED_TYPE place c.is_unsent-carried.result (IsUnsent (sent m s)) _ _ last (subst Carried c.sent-sent.ensures c.is_unsent-carried.ensures)))))) c.add_if-4.ensures
