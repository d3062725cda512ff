-- What each step of an end keeps of the end and of what it has printed is true in every history, and in every run of
-- one end.
use Rattle.std.proofs.Common.{◌≡◌, ℕ, List, [], ◌∷◌, ◌++◌, map, Option, Some, None, refl, sym, ap, subst, append_assoc, ◌∙◌}
use Rattle.std.proofs.lemmas.List.{append-nil}
use Rattle.std.proofs.lemmas.List.Elements.{filter_map-append}
use Rattle.ipdl_base.specs.declared.kinds.Side.{Side}
use Rattle.ipdl_base.specs.declared.kinds.Side.TheVariants.{Parent, Child}
use Rattle.ipdl_base.specs.declared.line.Line.{Line}
use Rattle.ipdl_base.specs.declared.line.What.{What}
use Rattle.ipdl_base.specs.declared.schema.Schema.{Schema}
use Rattle.channel_model.specs.Ends.{End, Packet, World, end_of, link_to, opening, opening_end}
use Rattle.channel_model.specs.EventLines.{IsEventWithEffects}
use Rattle.channel_model.specs.Events.{Event, Move}
use Rattle.channel_model.specs.Events as event
use Rattle.channel_model.specs.Outputs.{Output}
use Rattle.channel_model.specs.Runs.{happens, history_of, output_of, passed_by, run}
use Rattle.channel_model.specs.Steps.{step}
use Rattle.channel_model.proofs.Events.{events_have_their_lines}
use Rattle.channel_laws.specs.Laws.{world_of}
use Rattle.ipdl_base.specs.Sides.{other}
use Rattle.law_statements.specs.Said.{line_of, said_by, said_in}
use Rattle.alone_laws.specs.AloneRuns.{RunsAlone, acts as does, begins, gets}
use Rattle.alone_laws.proofs.AloneLines.{said-more}
use Rattle.order_statements.proofs.Places.{of-side, whats}

-- Each step of an end keeps this of it and of what it has printed by then.
pub record EveryStepKeeps (schema : Schema) (K : End → List What → Type 0) : Type 0 where
  pub begins : (top : ℕ) (side : Side) → K (opening_end top side) []
  pub goes_on : (e : End) (link : List Packet) (ev : Event) (output : Output) (ws said : List What) → step schema e link ev ≡ Some output → output.lines ≡ map (line_of e.side) ws → K e said → K output.end (said ++ ws)

-- Lines of one side

lines-of : (side : Side) (ls : List Line) → IsEventWithEffects side ls → ls ≡ map (line_of side) (whats ls)
lines-of side [] h = absurd h
lines-of side (l ∷ ls) h = ap (λ (s : Side). record { side = s; what = l.what } ∷ ls) h.0.0 ∙ ap (λ (rest : List Line). line_of side l.what ∷ rest) (of-side side ls h.1)

-- the lines of a step are of its end
pub step-lines : (schema : Schema) (e : End) (link : List Packet) (ev : Event) (output : Output) → step schema e link ev ≡ Some output → output.lines ≡ map (line_of e.side) (whats output.lines)
step-lines schema e link ev output is = lines-of e.side output.lines (events_have_their_lines schema e link ev output is).lines

pub none-said : (s : Side) (ws : List What) → said_by (other s) (map (line_of s) ws) ≡ []
none-said s [] = refl
none-said Parent (w ∷ ws) = none-said Parent ws
none-said Child (w ∷ ws) = none-said Child ws

all-said : (s : Side) (ws : List What) → said_by s (map (line_of s) ws) ≡ ws
all-said s ws = said-more s [] ws

module _ (schema : Schema) (K : End → List What → Type 0) (keeps : EveryStepKeeps schema K) where
  -- Histories

  -- both ends of a world keep it, each with what it has printed
  record Both (w : World) (parents childs : List What) : Type 0 where
    parent_side : w.parent.side ≡ Parent
    child_side : w.child.side ≡ Child
    parent : K w.parent parents
    child : K w.child childs

  record Following (w : World) (lines : List Line) (parents childs : List What) : Type 0 where
    both : Both w (parents ++ said_by Parent lines) (childs ++ said_by Child lines)

  passed-keeps : (move : Move) (w : World) (found : Option Output) (parents childs : List What) → output_of schema w move ≡ found → Both w parents childs → Following (passed_by found move w).world (passed_by found move w).lines parents childs
  passed-keeps move w None parents childs is b = record { both = subst (λ (xs : List What). Both w xs (childs ++ [])) (sym (append-nil parents)) (subst (Both w parents) (sym (append-nil childs)) b) }
  passed-keeps move w (Some output) parents childs is b = by move.side refl is
    where
      by : (s : Side) → move.side ≡ s → step schema (end_of s w) (link_to s w) move.event ≡ Some output → Following (passed_by (Some output) (record { side = s; event = move.event }) w).world output.lines parents childs
      by Parent at made =
          let ws : List What = whats output.lines in
          let lines : output.lines ≡ map (line_of Parent) ws = step-lines schema w.parent w.to_parent move.event output made ∙ ap (λ (s : Side). map (line_of s) ws) b.parent_side in
          record {
            both = record {
              parent_side = (events_have_their_lines schema w.parent w.to_parent move.event output made).side ∙ b.parent_side;
              child_side = b.child_side;
              parent = subst (λ (xs : List What). K output.end (parents ++ xs)) (sym (ap (said_by Parent) lines ∙ all-said Parent ws)) (keeps.goes_on w.parent w.to_parent move.event output ws parents made (step-lines schema w.parent w.to_parent move.event output made) b.parent);
              child = subst (K w.child) (sym (ap (λ (xs : List What). childs ++ xs) (ap (said_by Child) lines ∙ none-said Parent ws) ∙ append-nil childs)) b.child;
            };
          }
      by Child at made =
          let ws : List What = whats output.lines in
          let lines : output.lines ≡ map (line_of Child) ws = step-lines schema w.child w.to_child move.event output made ∙ ap (λ (s : Side). map (line_of s) ws) b.child_side in
          record {
            both = record {
              parent_side = b.parent_side;
              child_side = (events_have_their_lines schema w.child w.to_child move.event output made).side ∙ b.child_side;
              parent = subst (K w.parent) (sym (ap (λ (xs : List What). parents ++ xs) (ap (said_by Parent) lines ∙ none-said Child ws) ∙ append-nil parents)) b.parent;
              child = subst (λ (xs : List What). K output.end (childs ++ xs)) (sym (ap (said_by Child) lines ∙ all-said Child ws)) (keeps.goes_on w.child w.to_child move.event output ws childs made (step-lines schema w.child w.to_child move.event output made) b.child);
            };
          }

  moves-keep : (moves : List Move) (w : World) (parents childs : List What) → Both w parents childs → Following (run schema moves w).world (run schema moves w).lines parents childs
  moves-keep [] w parents childs b = record { both = subst (λ (xs : List What). Both w xs (childs ++ [])) (sym (append-nil parents)) (subst (Both w parents) (sym (append-nil childs)) b) }
  moves-keep (move ∷ moves) w parents childs b =
      let one : List Line = (happens schema w move).lines in
      let rest : List Line = (run schema moves (happens schema w move).world).lines in
      let first : Following (happens schema w move).world one parents childs = passed-keeps move w (output_of schema w move) parents childs refl b in
      let last : Following (run schema moves (happens schema w move).world).world rest (parents ++ said_by Parent one) (childs ++ said_by Child one) = moves-keep moves (happens schema w move).world (parents ++ said_by Parent one) (childs ++ said_by Child one) first.both in
      let grown : (s : Side) (before : List What) → (before ++ said_by s one) ++ said_by s rest ≡ before ++ said_by s (one ++ rest) =
      λ s before. append_assoc before (said_by s one) (said_by s rest) ∙ ap (λ (xs : List What). before ++ xs) (sym (filter_map-append (said_in s) one rest)) in
      record { both = subst (λ (xs : List What). Both (run schema moves (happens schema w move).world).world xs (childs ++ said_by Child (one ++ rest))) (grown Parent parents) (subst (Both (run schema moves (happens schema w move).world).world ((parents ++ said_by Parent one) ++ said_by Parent rest)) (grown Child childs) last.both) }

  pub kept-in-history : (top : ℕ) (moves : List Move) (end : Side) → K (end_of end (world_of schema top moves)) (said_by end (history_of schema top moves))
  kept-in-history top moves end = by end (moves-keep moves (opening top) [] [] (record { parent_side = refl; child_side = refl; parent = keeps.begins top Parent; child = keeps.begins top Child })).both
    where
      by : (s : Side) → Both (world_of schema top moves) (said_by Parent (history_of schema top moves)) (said_by Child (history_of schema top moves)) → K (end_of s (world_of schema top moves)) (said_by s (history_of schema top moves))
      by Parent b = b.parent
      by Child b = b.child

  -- Runs of one end

  run-grows : (side : Side) (e : End) (lines : List Line) (link : List Packet) (ev : Event) (output : Output) → step schema e link ev ≡ Some output → (e.side ≡ side) × K e (said_by side lines) → (output.end.side ≡ side) × K output.end (said_by side (lines ++ output.lines))
  run-grows side e lines link ev output made k =
      let ws : List What = whats output.lines in
      let is : output.lines ≡ map (line_of e.side) ws = step-lines schema e link ev output made in (
        (events_have_their_lines schema e link ev output made).side ∙ k.0,
        subst (K output.end) (sym (ap (λ (ls : List Line). said_by side (lines ++ ls)) (is ∙ ap (λ (s : Side). map (line_of s) ws) k.0) ∙ said-more side lines ws)) (keeps.goes_on e link ev output ws (said_by side lines) made is k.1),
      )

  run-keeps : (top : ℕ) (side : Side) (e : End) (lines : List Line) (packets : List Packet) → RunsAlone schema top side e lines packets → (e.side ≡ side) × K e (said_by side lines)
  run-keeps top side _ _ _ begins = (refl, keeps.begins top side)
  run-keeps top side _ _ _ (does {e} {lines} {packets} own output run made) = run-grows side e lines [] own output made (run-keeps top side e lines packets run)
  run-keeps top side _ _ _ (gets {e} {lines} {packets} packet output run fits accepted made) = run-grows side e lines (packet ∷ []) event.deliver output made (run-keeps top side e lines packets run)

  pub kept-alone : (top : ℕ) (side : Side) (e : End) (lines : List Line) (packets : List Packet) → RunsAlone schema top side e lines packets → K e (said_by side lines)
  kept-alone top side e lines packets run = (run-keeps top side e lines packets run).1
