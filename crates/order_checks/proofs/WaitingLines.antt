-- What one more line does with the packets that wait at each end.
use Rattle.std.proofs.Common.{◌≡◌, ◌∙◌, if◌then◌else◌, List, [], ◌∷◌, ◌++◌, Option, Some, None, sym, ap}
use Rattle.ipdl_base.specs.declared.kinds.Side.{Side}
use Rattle.ipdl_base.specs.declared.kinds.Side.TheVariants.{Parent, Child}
use Rattle.ipdl_base.specs.declared.line.Line.{Line}
use Rattle.ipdl_base.specs.declared.line.What.{What}
use Rattle.ipdl_base.specs.declared.schema.Schema.{Schema}
use Rattle.ipdl_base.specs.Lines.{same_side}
use Rattle.history_reading.specs.declared.parts.PacketKind.{PacketKind}
use Rattle.law_statements.specs.Arrived.{Passing, arrives, gives_up, leaves, passing, passings}
use Rattle.ipdl_base.specs.Sides.{other}
use Rattle.law_statements.specs.Said.{line_of, said_by}
use Rattle.law_statements.proofs.Ends.{said-other, said-own}
use Rattle.law_statements.proofs.Lists.{add, made-add}
use Rattle.order_statements.specs.Waiting.{waiting}
use Rattle.order_statements.proofs.Arrived.{waiting-arrives, waiting-given_up, waiting-leaves}
use Rattle.order_checks.specs.Waiting.{waiting_after}

-- what waits at an end
abbrev pub waits_at : Schema → Side → List Line → List PacketKind
waits_at schema end lines = waiting (passings schema (said_by end lines))

waiting-one : (ps : List Passing) (x : Passing) → waiting (ps ++ x ∷ []) ≡ waiting_after x (waiting ps)
waiting-one ps (arrives p) = waiting-arrives ps p
waiting-one ps (leaves p) = waiting-leaves ps p
waiting-one ps gives_up = waiting-given_up ps

own-passing : (schema : Schema) (end : Side) (lines : List Line) (w : What) → waits_at schema end (lines ++ line_of end w ∷ []) ≡ waiting (add (passings schema (said_by end lines)) (passing schema (said_by end lines) w))
own-passing schema end lines w = ap (λ (ws : List What). waiting (passings schema ws)) (said-own end lines w) ∙ ap waiting (made-add (passing schema) [] (said_by end lines) w)

own-with : (schema : Schema) (end : Side) (lines : List Line) (w : What) (x : Passing) → passing schema (said_by end lines) w ≡ Some x → waiting_after x (waits_at schema end lines) ≡ waits_at schema end (lines ++ line_of end w ∷ [])
own-with schema end lines w x is =
    sym (own-passing schema end lines w ∙ ap (λ (o : Option Passing). waiting (add (passings schema (said_by end lines)) o)) is ∙ waiting-one (passings schema (said_by end lines)) x)

own-without : (schema : Schema) (end : Side) (lines : List Line) (w : What) → passing schema (said_by end lines) w ≡ None → waits_at schema end lines ≡ waits_at schema end (lines ++ line_of end w ∷ [])
own-without schema end lines w is = sym (own-passing schema end lines w ∙ ap (λ (o : Option Passing). waiting (add (passings schema (said_by end lines)) o)) is)

others-same : (schema : Schema) (end : Side) (lines : List Line) (w : What) → waits_at schema (other end) lines ≡ waits_at schema (other end) (lines ++ line_of end w ∷ [])
others-same schema end lines w = ap (λ (ws : List What). waiting (passings schema ws)) (sym (said-other end lines w))

-- where something passes by the line
pub waits-with : (schema : Schema) (lines : List Line) (side : Side) (w : What) (x : Passing) → passing schema (said_by side lines) w ≡ Some x → (old new : Side → List PacketKind)
    → ((end : Side) → new end ≡ (if same_side side end then waiting_after x (old end) else old end)) → ((end : Side) → old end ≡ waits_at schema end lines) → (end : Side) → new end ≡ waits_at schema end (lines ++ line_of side w ∷ [])
waits-with schema lines Parent w x is old new more are Parent = more Parent ∙ ap (waiting_after x) (are Parent) ∙ own-with schema Parent lines w x is
waits-with schema lines Child w x is old new more are Child = more Child ∙ ap (waiting_after x) (are Child) ∙ own-with schema Child lines w x is
waits-with schema lines Parent w x is old new more are Child = more Child ∙ are Child ∙ others-same schema Parent lines w
waits-with schema lines Child w x is old new more are Parent = more Parent ∙ are Parent ∙ others-same schema Child lines w

-- and where nothing does
pub waits-without : (schema : Schema) (lines : List Line) (side : Side) (w : What) → passing schema (said_by side lines) w ≡ None → (old : Side → List PacketKind)
    → ((end : Side) → old end ≡ waits_at schema end lines) → (end : Side) → old end ≡ waits_at schema end (lines ++ line_of side w ∷ [])
waits-without schema lines Parent w is old are Parent = are Parent ∙ own-without schema Parent lines w is
waits-without schema lines Child w is old are Child = are Child ∙ own-without schema Child lines w is
waits-without schema lines Parent w is old are Child = are Child ∙ others-same schema Parent lines w
waits-without schema lines Child w is old are Parent = are Parent ∙ others-same schema Child lines w
