use Rattle.std.proofs.Common.{◌≡◌, refl, sym, ◌∙◌}
use Rattle.std.proofs.lemmas.Bool.{true≢false}
use Rattle.std.proofs.lemmas.List.{take_all}
use Rattle.ipdl_base.specs.declared.finding.TheConstants.Rule as rule
use Rattle.ipdl_syntax.specs.declared.tree.Attribute.{Attribute}
use Rattle.type_rules.specs.Attributes.{IsUnlistedOf}
use Rattle.type_rules.proofs.Placed.{Adds-turn, Adds-found, Adds-quiet}
use Rattle.type_rules.proofs.attributes.add_unlisted_of.Goals as goal
use Rattle.type_rules.proofs.attributes.add_unlisted_of.Goals.{then-is_unlisted+in_ok-push, else-is_unlisted}

pub loop-attribute-preserved : goal.loop-attribute-preserved
loop-attribute-preserved c =
    let a = c.attribute-item.result in
    let bearer = c.args.bearer in
    let told = c.is_unlisted.ensures in
    Adds-turn rule.BAD_ATTRIBUTE (λ place (x : Attribute). IsUnlistedOf bearer x × (x.place ≡ place)) c.args.attributes.now c.loop-attribute.attribute-index a _ _ _ c.loop-attribute-test.true c.attribute-item.is c.loop-attribute.invariant
    (elim c.if-is_unlisted.branch [
      | then-is_unlisted+in_ok-push w ↦ Adds-found rule.BAD_ATTRIBUTE a.place _ _ _ (told.0 w.if-is_unlisted.true) (rw w.found-is w.in_ok-push.ensures.items)
      | else-is_unlisted w ↦ Adds-quiet rule.BAD_ATTRIBUTE (λ place. IsUnlistedOf bearer a × (a.place ≡ place)) _ _ (λ place h. true≢false (sym (told.1 h.0) ∙ w.if-is_unlisted.false)) (rw w.found-is refl)
    ])

pub returns : goal.returns
returns c = rw (take_all c.loop-attribute.attribute-index c.args.attributes.now c.loop-attribute-test.false) at c.loop-attribute.invariant
