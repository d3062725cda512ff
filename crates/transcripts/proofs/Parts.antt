-- The texts of lines, in two parts.
use Rattle.std.proofs.Common.{◌≡◌, ℕ, List, [], ◌∷◌, ◌++◌, refl, sym, ap, ◌∙◌, append_assoc}
use Rattle.std.proofs.lemmas.List.{append-nil}
use Rattle.ipdl_base.specs.declared.line.Line.{Line}
use Rattle.ipdl_base.specs.declared.schema.Schema.{Schema}
use Rattle.history.specs.Text.{line_text}
use Rattle.transcripts.specs.Printed.{line_texts}

pub texts-append : (schema : Schema) (before xs ys : List Line) → line_texts schema before (xs ++ ys) ≡ line_texts schema before xs ++ line_texts schema (before ++ xs) ys
texts-append schema before [] ys = ap (λ ls. line_texts schema ls ys) (sym (append-nil before))
texts-append schema before (x ∷ xs) ys =
    ap (λ ts. line_text schema before x ∷ ts)
    (texts-append schema (before ++ x ∷ []) xs ys ∙ ap (λ ls. line_texts schema (before ++ x ∷ []) xs ++ line_texts schema ls ys) (append_assoc before (x ∷ []) xs))
