-- What an end reports by more lines.
use Rattle.std.proofs.Common.{◌≡◌, Bool, true, false, if◌then◌else◌, List, [], ◌∷◌, ◌++◌, map, Some, None, refl, sym, ap, ◌∙◌, append_assoc}
use Rattle.std.specs.List.{cons_option}
use Rattle.std.proofs.lemmas.List.Elements.{filter_map-append}
use Rattle.ipdl_base.specs.declared.kinds.Side.{Side}
use Rattle.ipdl_base.specs.declared.line.Line.{Line}
use Rattle.ipdl_base.specs.declared.line.What.{What}
use Rattle.ipdl_base.specs.Lines.{same_side}
use Rattle.law_statements.specs.Said.{line_of, said_by, said_in}
use Rattle.law_statements.proofs.Lists.{add, filter-add}
use Rattle.law_statements.proofs.StackRead.{side-own}

-- by one more
pub said-more : (end : Side) (lines : List Line) (line : Line) → said_by end (lines ++ line ∷ []) ≡ (if same_side line.side end then said_by end lines ++ line.what ∷ [] else said_by end lines)
said-more end lines line = filter-add (said_in end) lines line ∙ by (same_side line.side end)
  where
    by : (b : Bool) → add (said_by end lines) (if b then Some line.what else None) ≡ (if b then said_by end lines ++ line.what ∷ [] else said_by end lines)
    by true = refl
    by false = refl

pub said-append : (end : Side) (lines more : List Line) → said_by end (lines ++ more) ≡ said_by end lines ++ said_by end more
said-append end lines more = filter_map-append (said_in end) lines more

said-own-lines : (end : Side) (ws : List What) → said_by end (map (line_of end) ws) ≡ ws
said-own-lines end [] = refl
said-own-lines end (w ∷ ws) =
    ap (λ (b : Bool). cons_option (if b then Some w else None) (said_by end (map (line_of end) ws))) (side-own end) ∙ ap (λ (vs : List What). w ∷ vs) (said-own-lines end ws)

-- by an event and its effects
pub said-after : (end : Side) (w : What) (before : List Line) (effects : List What) → said_by end (before ++ line_of end w ∷ map (line_of end) effects) ≡ (said_by end before ++ w ∷ []) ++ effects
said-after end w before effects =
    said-append end before (map (line_of end) (w ∷ effects)) ∙ ap (λ (ws : List What). said_by end before ++ ws) (said-own-lines end (w ∷ effects)) ∙ sym (append_assoc (said_by end before) (w ∷ []) effects)
