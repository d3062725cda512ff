use Rattle.std.proofs.Common.{◌≡◌, Option, refl, subst}
use Rattle.std.specs.Prelude.{IsSomeAnd}
use Rattle.std.specs.Option.{option_map}
use Rattle.std.proofs.lemmas.Result.{on_ok_weaker}
use Rattle.ipdl_base.specs.declared.finding.Finding.{Finding}
use Rattle.ipdl_base.specs.declared.schema.MessageRow.{MessageRow}
use Rattle.findings.specs.Gains.{Gains}
use Rattle.findings.proofs.Gathers.{Gains-like, Gains-none}
use Rattle.handler_script.specs.Blocks.{statements}
use Rattle.handler_script.specs.Broken.{BlockBreaks, InsideBreaks}
use Rattle.handler_script.specs.Contexts.{standing_in}
use Rattle.handler_script.specs.Messages.{named}
use Rattle.handler_script.proofs.Told.{breaks_inside, none_inside}
use Rattle.handler_script.proofs.report.add_inside.Goals as goal

pub returns-in-Some : goal.returns-in-Some
returns-in-Some c =
    let schema = c.args.schema.now in
    let s = c.args.statement.now in
    let after = statements c.args.after.now in
    let place = c.args.place in
    let b = c.in-Some.block in
    let Breaks : Option MessageRow → Finding → Type 0 = λ o f. IsSomeAnd (option_map standing_in b.context) (λ x. BlockBreaks schema f.rule o b.answered x s after) in
    let P : Option MessageRow → Type 0 = λ o. Gains (λ f. (place ≡ f.place) × Breaks o f) c.args.found.now.items c.add_in_block.new.found.items in
    on_ok_weaker c.add_in_block.result (λ gains before k named_is.
    let is = λ (f : Finding). breaks_inside schema f.rule before s after c.args.block b c.in-Some.is k in
    Gains-like (λ f. (place ≡ f.place) × Breaks (named schema s) f) (λ f. (place ≡ f.place) × InsideBreaks schema f.rule before s after) _ _
    (subst P named_is gains) (λ f h. (h.0, (is f).0 h.1)) (λ f h. (h.0, (is f).1 h.1))) c.add_in_block.ensures

pub returns-in-None : goal.returns-in-None
returns-in-None c before k named_is =
    Gains-none _ _ _ (λ f h. none_inside c.args.schema.now f.rule before c.args.statement.now (statements c.args.after.now) c.args.block c.in-None.is k h.1) refl
