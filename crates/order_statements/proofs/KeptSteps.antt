-- The steps of histories and of runs of one end, with what every step keeps of the end and of what it has printed.
use Rattle.std.proofs.Common.{◌≡◌, ℕ, false, List, ◌∷◌, ◌++◌, sym, subst}
use Rattle.ipdl_base.specs.declared.kinds.Side.{Side}
use Rattle.ipdl_base.specs.declared.line.Line.{Line}
use Rattle.ipdl_base.specs.declared.line.What.{What}
use Rattle.ipdl_base.specs.declared.schema.Schema.{Schema}
use Rattle.ipdl_base.specs.Lines.{is_effect}
use Rattle.ipdl_base.specs.Sound.{IsSound}
use Rattle.channel_model.specs.Ends.{End, Packet, World, end_of, link_to}
use Rattle.channel_model.specs.Events.{Event, Move}
use Rattle.channel_model.specs.Outputs.{Output}
use Rattle.channel_model.specs.Runs.{history_of}
use Rattle.channel_model.specs.Steps.{step}
use Rattle.channel_laws.specs.Laws.{world_of}
use Rattle.law_statements.specs.Said.{line_of, said_by}
use Rattle.alone_laws.specs.AloneRuns.{RunsAlone}
use Rattle.order_statements.proofs.KeptAlong.{EveryStepKeeps, kept-alone, kept-in-history}
use Rattle.order_statements.proofs.Places.{EventIn, MoveAt, StepAt, event-alone, event-at}
use Rattle.order_statements.proofs.Tells.{EndTells, alone-tells, event-by, history-tells}
use Rattle.std.specs.Prelude.{Some}

-- A step of an end, what its lines show of it before, and what is kept of it and of what it has printed by then.
pub record KeptStep (schema : Schema) (K : End → List What → Type 0) (end : Side) (start : List Line) (output : Output) : Type 0 where
  pub e : End
  pub link : List Packet
  pub happened : Event
  pub made : step schema e link happened ≡ Some output
  pub tells : EndTells schema e end start
  pub kept : K e (said_by end start)

-- lines each event of which was printed by such a step
abbrev pub EventsAreKept : Schema → (End → List What → Type 0) → List Line → Type 0
EventsAreKept schema K lines = (end : Side) (w : What) (before following : List Line) → is_effect w ≡ false → lines ≡ before ++ line_of end w ∷ following → EventIn (KeptStep schema K end) end w before following

module _ (schema : Schema) (sound : IsSound schema) (K : End → List What → Type 0) (keeps : EveryStepKeeps schema K) where
  move-kept : (top : ℕ) (moves : List Move) (end : Side) (start : List Line) (output : Output) → MoveAt schema top moves end start output → KeptStep schema K end start output
  move-kept top moves end start output m =
      let world : World = world_of schema top m.front in
      let e : End = end_of m.move.side world in
      record {
        e = e;
        link = link_to m.move.side world;
        happened = m.move.event;
        made = m.made;
        tells = subst (EndTells schema e end) (sym m.start_is) (subst (λ (s : Side). EndTells schema e s (history_of schema top m.front)) m.side_is (history-tells schema sound top m.front m.move.side));
        kept = subst (λ (ls : List Line). K e (said_by end ls)) (sym m.start_is) (subst (λ (s : Side). K e (said_by s (history_of schema top m.front))) m.side_is (kept-in-history schema K keeps top m.front m.move.side));
      }

  step-kept : (top : ℕ) (side : Side) (start : List Line) (output : Output) → StepAt schema top side start output → KeptStep schema K side start output
  step-kept top side start output s = record {
    e = s.e;
    link = s.link;
    happened = s.happened;
    made = s.made;
    tells = alone-tells schema sound top side s.e start s.packets s.run;
    kept = kept-alone schema K keeps top side s.e start s.packets s.run;
  }

  pub history-kept : (top : ℕ) (moves : List Move) → EventsAreKept schema K (history_of schema top moves)
  history-kept top moves end w before following is at = event-by (move-kept top moves end) (event-at schema sound top moves end w before following is at)

  pub run-kept : (top : ℕ) (side : Side) (e : End) (lines : List Line) (packets : List Packet) → RunsAlone schema top side e lines packets → EventsAreKept schema K lines
  run-kept top side e lines packets run end w before following is at =
      let here = event-alone schema sound top side e lines packets run end w before following is at in
      event-by (λ start output s. subst (λ (x : Side). KeptStep schema K x start output) (sym here.0) (step-kept top side start output s)) here.1
