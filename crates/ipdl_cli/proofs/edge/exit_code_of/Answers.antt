use Rattle.std.proofs.Common.{◌∙◌, ap, inl, inr, sym}
use Rattle.std.specs.Prelude.{Option, Some, None}
use Rattle.ipdl_base.specs.Outside.{FileMap}
use Rattle.ipdl_top.specs.Codes.{code_of}
use Rattle.ipdl_top.specs.FileViews.{FileViews, ForMap, steady}
use Rattle.ipdl_cli.proofs.Statuses.{usage_alone}
use Rattle.ipdl_cli.proofs.edge.exit_code_of.Goals as goal

-- what follows from all that is seen
for_each_seen : (told : Option FileMap) (P Q : FileViews → Type 0) → ((seen : FileViews) → P seen → Q seen) → ForMap told P → ForMap told Q
for_each_seen None P Q to (seen, h) = (seen, to seen h)
for_each_seen (Some told) P Q to h = to (steady told) h

pub returns-clause-usage : goal.returns-clause-usage
returns-clause-usage g c = λ is. c.ipdl.ensures.usage (usage_alone c.ipdl.result (sym c.code.ensures ∙ sym c.from.ensures ∙ is))

pub returns-clause-answer : goal.returns-clause-answer
returns-clause-answer g c =
    for_each_seen (g.F.Files.known c.args.files.now.files) _ _ (λ seen outcome. record { status = c.ipdl.result; outcome = outcome; ends = c.from.ensures ∙ c.code.ensures }) c.ipdl.ensures.answer

pub returns-clause-no_command : goal.returns-clause-no_command
returns-clause-no_command g c = λ none.
    let code = c.from.ensures ∙ c.code.ensures in
    elim (c.ipdl.ensures.no_command none) [
      | inl usage ↦ inl (code ∙ ap code_of usage)
      | inr other ↦ elim other [ inl write_fault ↦ inr (inl (code ∙ ap code_of write_fault)) | inr no_memory ↦ inr (inr (code ∙ ap code_of no_memory)) ]
    ]

pub returns-clause-usage_text : goal.returns-clause-usage_text
returns-clause-usage_text g c = λ is. c.ipdl.ensures.usage_text (usage_alone c.ipdl.result (sym c.code.ensures ∙ sym c.from.ensures ∙ is))
