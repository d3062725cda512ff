use Rattle.std.proofs.Common.{◌≡◌, ◌++◌, List, sym, ap, subst, ◌∙◌}
use Rattle.ipdl_base.specs.declared.kinds.Side.TheVariants.{Parent, Child}
use Rattle.wait_report.specs.declared.pair.Pair.{Pair}
use Rattle.wait_report.specs.Listed.{pairs_of}
use Rattle.wait_report.specs.Pairs.{IsReport}
use Rattle.wait_report.proofs.Whole.{is-report}
use Rattle.wait_report.proofs.report.pairs.Goals as goal

pub returns : goal.returns
returns c =
    let types = c.in_ok-known.known.types.items in
    let built = c.in_ok-known.known.built.items in
    let protocols = c.args.schema.now.protocols in
    let first : c.add_side.new.pairs.items ≡ pairs_of types built protocols Parent = c.in_ok-add_side.ensures ∙ ap (λ (l : List Pair). l ++ pairs_of types built protocols Parent) c.new-pairs.ensures.items in
    let both : c.add_side-2.new.pairs.items ≡ pairs_of types built protocols Parent ++ pairs_of types built protocols Child = c.in_ok-add_side-2.ensures ∙ ap (λ (l : List Pair). l ++ pairs_of types built protocols Child) first in
    subst (IsReport c.args.schema.now c.args.top) (sym (c.from_vec.ensures ∙ both)) (is-report c.args.schema.now c.requires.sound c.args.top types built c.in_ok-known.ensures)
