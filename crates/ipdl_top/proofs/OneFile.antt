-- A file has one answer where the command says one thing of its bytes.
use Rattle.std.proofs.Common.{◌≡◌, ◌∙◌, ℕ, List, sym, arith, inl, inr}
use Rattle.std.specs.Prelude.{None, Option, Some}
use Rattle.ipdl_top.specs.declared.answer.CommandAnswer.{CommandAnswer}
use Rattle.ipdl_top.specs.Inputs.{SaysByFile}

pub file_one : (absent larger : CommandAnswer) (most : ℕ) (P Q : List ℕ → CommandAnswer → Type 0) (one other : CommandAnswer) → ((bytes : List ℕ) → P bytes one → Q bytes other → one ≡ other)
    → (held : Option (List ℕ)) → SaysByFile absent larger most P held one → SaysByFile absent larger most Q held other → one ≡ other
file_one absent larger most P Q one other unique None x y = x ∙ sym y
file_one absent larger most P Q one other unique (Some bytes) (inl x) (inl y) = x.1 ∙ sym y.1
file_one absent larger most P Q one other unique (Some bytes) (inl x) (inr y) = absurd (omega (arith, x.0, y.0))
file_one absent larger most P Q one other unique (Some bytes) (inr x) (inl y) = absurd (omega (arith, x.0, y.0))
file_one absent larger most P Q one other unique (Some bytes) (inr x) (inr y) = unique bytes x.1 y.1
