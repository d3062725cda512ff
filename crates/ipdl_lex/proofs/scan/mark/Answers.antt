use Rattle.std.proofs.Common.{sym, ◌∙◌}
use Rattle.std.specs.Prelude.{codes}
use Rattle.std.proofs.lemmas.Bool.{false≢true}
use Rattle.std.proofs.lemmas.Bool.Decides.{Decides-eqb}
use Rattle.std.proofs.lemmas.Slice.Eq.{starts_is}
use Rattle.ipdl_lex.proofs.Fronts.{mark_at, double_at}
use Rattle.ipdl_lex.proofs.scan.mark.Goals as goal

pub returns-then-starts_with : goal.returns-then-starts_with
returns-then-starts_with c = double_at c.args.text.now _ ((starts_is Decides-eqb c.args.text.now (codes "::") _ c.starts_with.ensures.value).0 c.if-starts_with.true)

pub returns-else-starts_with : goal.returns-else-starts_with
returns-else-starts_with c =
    mark_at c.args.text.now c.requires
    (λ rest e. false≢true (sym c.if-starts_with.false ∙ (starts_is Decides-eqb c.args.text.now (codes "::") _ c.starts_with.ensures.value).1 rest e))
