use Rattle.std.proofs.Common.{◌∙◌, sym, ap}
use Rattle.std.proofs.lemmas.Slice.Eq.{bytes_eq-Decides}
use Rattle.ipdl_syntax.specs.Grammar.{whole_name}
use Rattle.std.specs.Prelude.{Some}
use Rattle.name_table.proofs.FullNames.{whole_name-inner}
use Rattle.name_table.proofs.texts.is_whole.Goals as goal

pub returns-in-Some : goal.returns-in-Some
returns-in-Some c =
    let d = bytes_eq-Decides c.in-Some.found.now c.args.inner.now in
    let found = c.in-Some.ensures.some in (
      λ h. found ∙ ap (λ i. whole_name c.args.text.now (Some i)) (d.0 (sym c.eq.ensures ∙ h)),
      λ e. c.eq.ensures ∙ d.1 (whole_name-inner c.args.text.now c.in-Some.found.now c.args.inner.now (sym found ∙ e)),
    )
