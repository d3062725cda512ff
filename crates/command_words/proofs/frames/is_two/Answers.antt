use Rattle.std.proofs.Common.{◌∙◌, List, ℕ, sym, subst}
use Rattle.command_words.specs.Frames.{IsTwo}
use Rattle.command_words.proofs.Twos.{two_is}
use Rattle.command_words.proofs.frames.is_two.Goals as goal

pub returns-in-Some : goal.returns-in-Some
returns-in-Some c =
    let is = two_is c.as_bytes.result.now c.in-Some.zeros.now c.in-Some.ensures.cases.0 c.in-Some.ensures.cases.1 in (
      λ t. subst (λ (text : List ℕ). IsTwo text) c.as_bytes.ensures.value (is.0 (sym c.are_zeros.ensures ∙ t)),
      λ two. c.are_zeros.ensures ∙ is.1 (subst (λ (text : List ℕ). IsTwo text) (sym c.as_bytes.ensures.value) two),
    )
