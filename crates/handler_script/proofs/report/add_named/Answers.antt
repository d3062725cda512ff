use Rattle.std.proofs.Common.{◌≡◌, true, Option, ◌⊎◌, refl, sym, ◌∙◌, subst}
use Rattle.std.specs.Prelude.{◌↔◌, IsTrue}
use Rattle.std.specs.Option.{option_map}
use Rattle.std.proofs.lemmas.Result.{on_ok_weaker}
use Rattle.std.proofs.lemmas.Bool.{true≢false}
use Rattle.ipdl_base.specs.declared.finding.Finding.{Finding}
use Rattle.ipdl_base.specs.declared.finding.TheConstants.Rule as rule
use Rattle.ipdl_base.specs.declared.schema.MessageRow.{MessageRow}
use Rattle.findings.specs.Gains.{Gains}
use Rattle.handler_script.specs.Blocks.{BlockContext, statements, standing_by, standing_of}
use Rattle.handler_script.specs.Broken.{NamesNone, OpeningBreaks, InsideBreaks}
use Rattle.handler_script.specs.Contexts.{standing_in}
use Rattle.handler_script.specs.Messages.{named}
use Rattle.handler_script.proofs.Gathered.{gains_if, gains_or, gains_absent, gains_known}
use Rattle.handler_script.proofs.report.add_named.Goals as goal

pub returns-then-names_none : goal.returns-then-names_none
returns-then-names_none c = on_ok_weaker c.add_if.result (λ one before k named_is.
    let schema = c.args.schema.now in
    let s = c.args.statement.now in
    let place = c.args.place in
    let N : Type 0 = NamesNone (named schema s) s in
    let U : Finding → Type 0 = λ f. f.rule ≡ rule.UNKNOWN_MESSAGE in
    let K : Finding → Type 0 = λ f. OpeningBreaks f.rule (standing_of schema s) ⊎ InsideBreaks schema f.rule before s (statements c.args.after.now) in
    let P : Option MessageRow → Type 0 = λ o. NamesNone o s in
    let none : N = subst P named_is (c.names_none.ensures.0 c.if-names_none.true) in
    gains_absent place U K N _ _ (gains_if rule.UNKNOWN_MESSAGE place true N _ _ one ((λ h. none), (λ h. refl))) none) c.add_if.ensures

pub returns : goal.returns
returns c = on_ok_weaker c.add_inside.result (λ inside before k named_is.
    let schema = c.args.schema.now in
    let s = c.args.statement.now in
    let place = c.args.place in
    let N : Type 0 = NamesNone (named schema s) s in
    let U : Finding → Type 0 = λ f. f.rule ≡ rule.UNKNOWN_MESSAGE in
    let O : Finding → Type 0 = λ f. OpeningBreaks f.rule (standing_of schema s) in
    let I : Finding → Type 0 = λ f. InsideBreaks schema f.rule before s (statements c.args.after.now) in
    let P : Option MessageRow → Type 0 = λ o. IsTrue c.names_none.result ↔ NamesNone o s in
    let Q : Option BlockContext → Type 0 = λ o. Gains (λ f. (place ≡ f.place) × OpeningBreaks f.rule o) c.args.found.now.items c.add_opening.new.found.items in
    let R : Option MessageRow → Type 0 = λ o. option_map standing_in c.context_of.result ≡ standing_by o s in
    let opened = subst Q (subst R named_is c.context_of.ensures) c.in_ok-add_opening.ensures in
    let is = subst P named_is c.names_none.ensures in
    gains_known place U (λ f. O f ⊎ I f) N _ _ (gains_or place O I _ _ _ opened (inside before k named_is)) (λ n. true≢false (sym (is.1 n) ∙ c.if-names_none.false))) c.add_inside.ensures
