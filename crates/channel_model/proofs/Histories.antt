-- Laws of moves and histories, for all moves.
use Rattle.std.proofs.Common.{◌≡◌, List, [], ◌∷◌, ◌++◌, Option, Some, None, IsNone, refl, sym, ap, ◌∙◌, append_assoc}
use Rattle.ipdl_base.specs.declared.schema.Schema.{Schema}
use Rattle.channel_model.specs.Ends.{World, opening}
use Rattle.channel_model.specs.Events.{Move}
use Rattle.channel_model.specs.Laws.{ImpossibleMovesChangeNothing, MovesFollow, MovesGoOneAfterAnother, HistoriesGrow}
use Rattle.channel_model.specs.Outputs.{Output}
use Rattle.channel_model.specs.Runs.{RunState, output_of, passed_by, happens, run}

passed_by_none : (output : Option Output) (move : Move) (world : World) → IsNone output → passed_by output move world ≡ (record { world = world; lines = [] })
passed_by_none None move world none = refl
passed_by_none (Some output) move world none = cc

pub impossible_moves_change_nothing : ImpossibleMovesChangeNothing
impossible_moves_change_nothing schema world move none = passed_by_none (output_of schema world move) move world none

pub moves_follow : (schema : Schema) (front back : List Move) (world : World) → MovesFollow schema front back world
moves_follow schema [] back world = record { world = refl; lines = refl }
moves_follow schema (move ∷ front) back world =
    let first : RunState = happens schema world move in
    let rest : MovesFollow schema front back first.world = moves_follow schema front back first.world in
    record {
      world = rest.world;
      lines = ap (λ ls. first.lines ++ ls) rest.lines ∙ sym (append_assoc first.lines (run schema front first.world).lines (run schema back (run schema front first.world).world).lines);
    }

pub moves_go_one_after_another : MovesGoOneAfterAnother
moves_go_one_after_another schema front back world = moves_follow schema front back world

pub histories_grow : HistoriesGrow
histories_grow schema top front back = ((run schema back (run schema front (opening top)).world).lines, (moves_follow schema front back (opening top)).lines)
