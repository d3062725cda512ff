-- The weights of every run.
use Rattle.std.proofs.Common.{◌≡◌, ℕ, ◌+◌, ◌*◌, ◌<◌, ◌≤◌, Bool, true, false, not, ◌&&◌, cond, List, [], ◌∷◌, Option, Some, None, is_some, refl, ap, arith}
use Rattle.std.specs.List.{AllByRecursion}
use Rattle.ipdl_base.specs.declared.kinds.Side.{Side}
use Rattle.ipdl_base.specs.declared.line.Line.{Line}
use Rattle.ipdl_base.specs.declared.line.What.{What}
use Rattle.ipdl_base.specs.declared.line.What.TheVariants as what
use Rattle.ipdl_base.specs.declared.schema.Schema.{Schema}
use Rattle.ipdl_base.specs.Lines.{is_effect}
use Rattle.ipdl_base.specs.Sound.{IsSound}
use Rattle.channel_model.specs.Ends.{World, end_of, link_to, opening}
use Rattle.channel_model.specs.EventLines.{IsEffectOf, IsEventWithEffects}
use Rattle.channel_model.specs.Events.{Event, Move}
use Rattle.channel_model.specs.Outputs.{Output}
use Rattle.channel_model.specs.Runs.{RunState, output_of, passed_by, happens, run, is_possible, world_after}
use Rattle.channel_model.proofs.Events.{events_have_their_lines}
use Rattle.channel_laws.specs.Counts.{one_if}
use Rattle.channel_laws.specs.Laws.{world_of}
use Rattle.channel_laws.specs.NestedWorlds.{IsNestedWorld}
use Rattle.channel_laws.proofs.Counting.{many-append}
use Rattle.channel_laws.proofs.EveryRun.{nested_worlds_stay, nesting_in_every_run}
use Rattle.channel_laws.proofs.Rows.{sound_schemas_have_sound_rows}
use Rattle.progress_laws.specs.Acts.{is_act, happens_by_itself, tells_act, tells_by_itself, acts, by_themselves, TellEvent, LinesTellActs}
use Rattle.progress_laws.specs.Progress.{MovesAreMeasured, MovesAreWeighed, HistoriesAreWeighed}
use Rattle.progress_laws.specs.Weights.{weight, full_weight}
use Rattle.progress_laws.proofs.Heads.{flushes, Tells, BeginsWith, step-begins}
use Rattle.progress_laws.proofs.WeighedSteps.{move-weighs, move-weighs_fully}

-- Moves

-- in a step what happens by itself lowers a measure of worlds, and an act adds at most this number
abbrev IsMeasured : (World → ℕ) → ℕ → Move → World → Output → Type 0
IsMeasured measure most move w output = measure (world_after move output w) + one_if (happens_by_itself move.event) ≤ measure w + cond (happens_by_itself move.event) 0 most

module _ (measure : World → ℕ) (most : ℕ) (schema : Schema) (move : Move) (w : World) (measured : (output : Output) → output_of schema w move ≡ Some output → IsMeasured measure most move w output) where
  measure-falls : happens_by_itself move.event ≡ true → is_possible schema w move.side move.event ≡ true → measure (happens schema w move).world < measure w
  measure-falls own possible = by (output_of schema w move) refl possible
    where
      by : (found : Option Output) → output_of schema w move ≡ found → is_some found ≡ true → measure (passed_by found move w).world < measure w
      by None is some = cc
      by (Some output) is some =
          let h = measured output is in
          let a : one_if (happens_by_itself move.event) ≡ 1 = ap one_if own in
          let b : cond (happens_by_itself move.event) 0 most ≡ 0 = ap (λ (b : Bool). cond b 0 most) own in
          omega (arith, h, a, b)

  measure-grows : measure (happens schema w move).world ≤ measure w + most
  measure-grows = by (output_of schema w move) refl
    where
      at_most : (b : Bool) → cond b 0 most ≤ most
      at_most true = omega arith
      at_most false = omega arith

      by : (found : Option Output) → output_of schema w move ≡ found → measure (passed_by found move w).world ≤ measure w + most
      by None is = omega arith
      by (Some output) is = let h = measured output is in let m = at_most (happens_by_itself move.event) in omega (arith, h, m)

-- a measure of all nested worlds is a measure of the worlds of every run
run-measured : (measure : World → ℕ) (most : ℕ) → ((schema : Schema) → IsSound schema → (w : World) → IsNestedWorld schema w → (move : Move) (output : Output) → output_of schema w move ≡ Some output → IsMeasured measure most move w output) → MovesAreMeasured measure most
run-measured measure most measured = record {
  falls = λ schema sound top moves move. measure-falls measure most schema move (world_of schema top moves) (measured schema sound (world_of schema top moves) (nesting_in_every_run schema sound top moves) move);
  grows = λ schema sound top moves move. measure-grows measure most schema move (world_of schema top moves) (measured schema sound (world_of schema top moves) (nesting_in_every_run schema sound top moves) move);
}

module _ (schema : Schema) (sound : IsSound schema) (w : World) (nested : IsNestedWorld schema w) (move : Move) where
  weighed : (output : Output) → output_of schema w move ≡ Some output → IsMeasured weight 8 move w output
  weighed output is = move-weighs schema (sound_schemas_have_sound_rows schema sound) move w output is nested

  fully-weighed : (output : Output) → output_of schema w move ≡ Some output → IsMeasured full_weight 6 move w output
  fully-weighed output is = move-weighs_fully schema (sound_schemas_have_sound_rows schema sound) move w output is nested

  pub itself-falls : happens_by_itself move.event ≡ true → is_possible schema w move.side move.event ≡ true → weight (happens schema w move).world < weight w
  itself-falls own possible = measure-falls weight 8 schema move w weighed own possible

pub moves_are_weighed : MovesAreWeighed
moves_are_weighed = record { plain = run-measured weight 8 weighed; full = run-measured full_weight 6 fully-weighed }

-- Lines

effect-tells : (w : What) → is_effect w ≡ true → (tells_by_itself w ≡ false) × (tells_act w ≡ false)
effect-tells (what.Built id protocol) h = (refl, refl)
effect-tells (what.Replaced n) h = (refl, refl)
effect-tells (what.AnswerOk n vs) h = (refl, refl)
effect-tells (what.AnswerFault n r) h = (refl, refl)
effect-tells (what.Fails n) h = (refl, refl)
effect-tells (what.Resolved n vs) h = (refl, refl)
effect-tells (what.Rejected n r) h = (refl, refl)
effect-tells (what.Fall id why) h = (refl, refl)
effect-tells _ h = cc

effects-count : (side : Side) (lines : List Line) → AllByRecursion (IsEffectOf side) lines → (by_themselves lines ≡ 0) × (acts lines ≡ 0)
effects-count side [] h = (refl, refl)
effects-count side (l ∷ ls) h =
    let n = effect-tells l.what h.0.1 in
    let a : one_if (tells_by_itself l.what) ≡ 0 = ap one_if n.0 in
    let b : one_if (tells_act l.what) ≡ 0 = ap one_if n.1 in
    let rest = effects-count side ls h.1 in
    (omega (arith, a, rest.0), omega (arith, b, rest.1))

-- a line of an event is that of an act or of an event that happens by itself
event-tells : (w : What) (act : Bool) → is_effect w ≡ false → tells_by_itself w ≡ not act → tells_act w ≡ act
event-tells w act event h = by (tells_act w) act (ap (λ (b : Bool). not b && not (tells_act w)) event) h
  where
    by : (a act : Bool) → tells_by_itself w ≡ not a → tells_by_itself w ≡ not act → a ≡ act
    by true true e h = refl
    by true false e h = cc
    by false true e h = cc
    by false false e h = refl

-- the lines of an event count as one act, or as one event that happens by itself
event-counts : (ev : Event) (side : Side) (lines : List Line) → IsEventWithEffects side lines → BeginsWith (Tells (happens_by_itself ev) (flushes ev)) lines → TellEvent ev lines
event-counts ev side [] h t = absurd h
event-counts ev side (l ∷ ls) h t =
    let a : one_if (tells_act l.what) ≡ one_if (is_act ev) = ap one_if (event-tells l.what (is_act ev) h.0.1 t.0) in
    let b : one_if (tells_by_itself l.what) ≡ one_if (happens_by_itself ev) = ap one_if t.0 in
    let rest = effects-count side ls h.1 in
    record { as_act = omega (arith, a, rest.1); by_itself = omega (arith, b, rest.0) }

pub lines_tell_acts : LinesTellActs
lines_tell_acts schema e link ev output is = event-counts ev e.side output.lines (events_have_their_lines schema e link ev output is).lines (step-begins schema e link ev output is)

-- Histories

sixes : (act : Bool) → cond (not act) 0 6 ≡ 6 * one_if act
sixes true = refl
sixes false = refl

abbrev Account : World → RunState → Type 0
Account before after = by_themselves after.lines + full_weight after.world ≤ full_weight before + 6 * acts after.lines

module _ (schema : Schema) (sound : IsSound schema) where
  move-account : (move : Move) (w : World) (found : Option Output) → output_of schema w move ≡ found → IsNestedWorld schema w → Account w (passed_by found move w)
  move-account move w None is nested = omega arith
  move-account move w (Some output) is nested =
      let h = fully-weighed schema sound w nested move output is in
      let six = sixes (is_act move.event) in
      let c = lines_tell_acts schema (end_of move.side w) (link_to move.side w) move.event output is in
      omega (arith, h, six, c.as_act, c.by_itself)

  run-account : (moves : List Move) (w : World) → IsNestedWorld schema w → Account w (run schema moves w)
  run-account [] w nested = omega arith
  run-account (move ∷ moves) w nested =
      let next : RunState = happens schema w move in
      let rest : RunState = run schema moves next.world in
      let a = move-account move w (output_of schema w move) refl nested in
      let b = run-account moves next.world (nested_worlds_stay.stays schema sound move w nested) in
      let c = many-append (λ (line : Line). tells_by_itself line.what) next.lines rest.lines in
      let d = many-append (λ (line : Line). tells_act line.what) next.lines rest.lines in
      omega (arith, a, b, c, d)

pub histories_are_weighed : HistoriesAreWeighed
histories_are_weighed schema sound top moves = let a = run-account schema sound moves (opening top) (nested_worlds_stay.opening schema top) in omega (arith, a)
