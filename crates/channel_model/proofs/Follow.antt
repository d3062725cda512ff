-- Effects follow their events in every history.
use Rattle.std.proofs.Common.{◌≡◌, Bool, true, false, List, [], ◌∷◌, ◌++◌, Option, Some, None, refl, sym, ap, subst}
use Rattle.std.specs.Bool.{MatchBool}
use Rattle.std.specs.List.{AllByRecursion}
use Rattle.ipdl_base.specs.declared.line.Line.{Line}
use Rattle.ipdl_base.specs.Lines.{is_effect}
use Rattle.ipdl_base.specs.declared.kinds.Side.{Side}
use Rattle.ipdl_base.specs.declared.schema.Schema.{Schema}
use Rattle.channel_model.specs.Ends.{World, opening, end_of, link_to}
use Rattle.channel_model.specs.Events.{Move}
use Rattle.channel_model.specs.Outputs.{Output}
use Rattle.channel_model.specs.Runs.{output_of, passed_by, happens, run}
use Rattle.channel_model.specs.EventLines.{IsEffectOf, IsEventWithEffects, EffectsFollow}
use Rattle.channel_model.specs.StepLaws.{HasItsLines, EffectsFollowEvents}
use Rattle.channel_model.proofs.Events.{events_have_their_lines}

effect-follows : (b : Bool) (before : Option Side) (side : Side) → b ≡ true → before ≡ Some side → MatchBool b (before ≡ Some side) (Unit {0})
effect-follows true before side h is = is
effect-follows false before side h is = cc

event-follows : (b : Bool) (P : Type 0) → b ≡ false → MatchBool b P (Unit {0})
event-follows true P h = cc
event-follows false P h = tt

-- effects of a side, followed by what follows an event of it
effects-follow : (side : Side) (xs ys : List Line) → AllByRecursion (IsEffectOf side) xs → EffectsFollow (Some side) ys → EffectsFollow (Some side) (xs ++ ys)
effects-follow side [] ys h k = k
effects-follow side (x ∷ xs) ys h k =
    (effect-follows (is_effect x.what) (Some side) x.side h.0.1 (ap Some (sym h.0.0)), subst (λ (s : Side). EffectsFollow (Some s) (xs ++ ys)) (sym h.0.0) (effects-follow side xs ys h.1 k))

-- an event with its effects, followed by what follows any event
event_with_effects-follow : (before : Option Side) (side : Side) (xs ys : List Line) → IsEventWithEffects side xs → ((s : Option Side) → EffectsFollow s ys) → EffectsFollow before (xs ++ ys)
event_with_effects-follow before side [] ys h k = absurd h
event_with_effects-follow before side (x ∷ xs) ys h k =
    (event-follows (is_effect x.what) (before ≡ Some x.side) h.0.1, subst (λ (s : Side). EffectsFollow (Some s) (xs ++ ys)) (sym h.0.0) (effects-follow side xs ys h.1 (k (Some side))))

passed-follow : (before : Option Side) (schema : Schema) (world : World) (move : Move) (found : Option Output) (ys : List Line) → output_of schema world move ≡ found → ((s : Option Side) → EffectsFollow s ys) → EffectsFollow before ((passed_by found move world).lines ++ ys)
passed-follow before schema world move None ys is k = k before
passed-follow before schema world move (Some output) ys is k =
    let own : HasItsLines (end_of move.side world) output = events_have_their_lines schema (end_of move.side world) (link_to move.side world) move.event output is in
    event_with_effects-follow before (end_of move.side world).side output.lines ys own.lines k

runs-follow : (before : Option Side) (schema : Schema) (moves : List Move) (world : World) → EffectsFollow before (run schema moves world).lines
runs-follow before schema [] world = tt
runs-follow before schema (move ∷ moves) world =
    passed-follow before schema world move (output_of schema world move) (run schema moves (happens schema world move).world).lines refl (λ s. runs-follow s schema moves (happens schema world move).world)

pub effects_follow_events : EffectsFollowEvents
effects_follow_events schema top moves = runs-follow None schema moves (opening top)
