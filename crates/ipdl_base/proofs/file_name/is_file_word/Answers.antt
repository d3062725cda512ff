use Rattle.std.proofs.Common.{sym, ◌∙◌, inl, inr}
use Rattle.std.specs.Prelude.{codes}
use Rattle.std.proofs.lemmas.Bool.{true≢false}
use Rattle.ipdl_base.proofs.Ends.{ends, has_ending}
use Rattle.ipdl_base.proofs.file_name.is_file_word.Goals as goal

pub returns-then-ends_with : goal.returns-then-ends_with
returns-then-ends_with c =
    (λ h. let cut = ends c.args.word.now (codes ".ipdl") (sym c.ends_with.ensures.value ∙ h) in (cut.0, inl cut.1), λ _. c.if-ends_with.true)

pub returns-else-ends_with : goal.returns-else-ends_with
returns-else-ends_with c = (
  λ h. let cut = ends c.args.word.now (codes ".ipdlh") (sym c.ends_with-else-ends_with.ensures.value ∙ h) in (cut.0, inr cut.1),
  λ w. elim w.1 [
    | inl p ↦ absurd (true≢false (sym (has_ending c.args.word.now (codes ".ipdl") w.0 p) ∙ (sym c.ends_with.ensures.value ∙ c.if-ends_with.false)))
    | inr h ↦ c.ends_with-else-ends_with.ensures.value ∙ has_ending c.args.word.now (codes ".ipdlh") w.0 h
  ],
)
