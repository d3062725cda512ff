use Rattle.std.proofs.Common.{◌≡◌, false, inl, inr, sym, ◌∙◌}
use Rattle.std.proofs.lemmas.Bool.{true≢false, not-true, not-false, not_from_true, not_from_false, false_from_ne_true}
use Rattle.handler_script.specs.Broken.{IsSecondMain}
use Rattle.handler_script.proofs.Told.{open_inside}
use Rattle.handler_script.proofs.rules.breaks_blocks.Goals as goal
use Rattle.handler_script.proofs.rules.breaks_blocks.Goals.{then-is_some, else-is_some}

pub returns-then-not-opens : goal.returns-then-not-opens
returns-then-not-opens c schema before k =
    let inside = open_inside schema before c.args.reached.block k.block in
    let shut = sym c.opens.ensures ∙ c.if-not-opens.true in (
      (λ h. inl (shut, λ i. true≢false (sym (inside.1 i) ∙ (c.is_none.ensures ∙ not_from_true _ h)))),
      (λ h. elim h [
        | inl outside ↦ not-false _ (sym c.is_none.ensures ∙ false_from_ne_true _ (λ i. outside.1 (inside.0 i)))
        | inr opening ↦ absurd (true≢false (sym opening.0 ∙ shut))
      ]),
    )

pub returns-then-is_second_main : goal.returns-then-is_second_main
returns-then-is_second_main c schema before k =
    let inside = open_inside schema before c.args.reached.block k.block in
    let opening = sym c.opens.ensures ∙ c.if-not-opens.false in (
      (λ h. elim c.if-is_some.branch [
        | then-is_some w ↦ inr (opening, inl (inside.0 (sym c.is_some.ensures ∙ w.if-is_some.true)))
        | else-is_some w ↦ inr (opening, inr (inl ((w.is_second_main.ensures schema before k).0 (sym w.value-is ∙ c.if-is_second_main.true))))
      ]),
      (λ h. c.if-is_second_main.true),
    )

pub returns-else-is_second_main : goal.returns-else-is_second_main
returns-else-is_second_main c schema before k =
    let inside = open_inside schema before c.args.reached.block k.block in
    let opening = sym c.opens.ensures ∙ c.if-not-opens.false in
    let neither : (c.is_some.result ≡ false) × ¬ IsSecondMain before c.args.statement.now = elim c.if-is_some.branch [
      | then-is_some w ↦ absurd (let no : ⊥ = cc (w.value-is, w.if-is_some.true, c.if-is_second_main.false) in no)
      | else-is_some w ↦ (w.if-is_some.false, λ second. true≢false (sym ((w.is_second_main.ensures schema before k).1 second) ∙ (sym w.value-is ∙ c.if-is_second_main.false)))
    ] in (
      (λ h. inr (opening, inr (inr (sym c.is_closed.ensures ∙ not-true _ h)))),
      (λ h. elim h [
        | inl outside ↦ absurd (true≢false (sym opening ∙ outside.0))
        | inr (_, inl i) ↦ absurd (true≢false (sym (c.is_some.ensures ∙ inside.1 i) ∙ neither.0))
        | inr (_, inr (inl second)) ↦ absurd (neither.1 second)
        | inr (_, inr (inr none)) ↦ not_from_false _ (c.is_closed.ensures ∙ none)
      ]),
    )
