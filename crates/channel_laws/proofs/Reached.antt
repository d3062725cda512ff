-- What is true in every run is true of each world that moves have led to.
use Rattle.std.proofs.Common.{true, List, [], ◌∷◌, refl, subst}
use Rattle.ipdl_base.specs.declared.line.Line.{Line}
use Rattle.ipdl_base.specs.declared.kinds.Side.TheVariants.{Parent, Child}
use Rattle.ipdl_base.specs.declared.schema.Schema.{Schema}
use Rattle.ipdl_base.specs.Sound.{IsSound}
use Rattle.history_reading.specs.Reading.{Reading, after, opening_reading}
use Rattle.channel_model.specs.Ends.{World, opening}
use Rattle.channel_model.specs.Events.{Move}
use Rattle.channel_model.specs.Runs.{run, history_of}
use Rattle.channel_laws.specs.EndActors.{ReadsActors}
use Rattle.channel_laws.specs.NotedArrivals.{IsNoted}
use Rattle.channel_laws.specs.Protocols.{WorldHasProtocols}
use Rattle.channel_laws.specs.Tested.{read_from, LinesPass}
use Rattle.channel_laws.proofs.FallenRuns.{fallen_test, fallen-keeps_moves, opening-reads}
use Rattle.channel_laws.proofs.NotedArrivals.{noted-following}
use Rattle.channel_laws.proofs.ProtocolRuns.{protocols_in_every_run}
use Rattle.channel_laws.proofs.Runs.{IsReached, AtEnds, AcrossEnds, EveryMoveKeeps, every-run}

-- what is true after all moves from the opening is true of a world that is reached, and of its reading
pub reached-has : (schema : Schema) (Holds : World → Reading → Type 0) → ((top : _) (moves : List Move) → Holds (run schema moves (opening top)).world (read_from schema opening_reading (history_of schema top moves)))
    → (w : World) (r : Reading) → IsReached schema w r → Holds w r
reached-has schema Holds all w r h = subst (λ (x : Reading). Holds w x) h.reading (subst (λ (v : World). Holds v (read_from schema opening_reading (history_of schema h.top h.front))) h.world (all h.top h.front))

pub all-pass : (schema : Schema) (r : Reading) (lines following : List Line) → LinesPass schema (λ r l b. true) r lines following
all-pass schema r [] following = tt
all-pass schema r (l ∷ ls) following = (refl, all-pass schema (after schema r l) ls following)

module _ (schema : Schema) (sound : IsSound schema) (w : World) (r : Reading) (h : IsReached schema w r) where
  -- both ends read their actors
  pub actors-reached : AtEnds schema (ReadsActors schema) w r
  actors-reached = reached-has schema (AtEnds schema (ReadsActors schema))
      (λ top moves. (every-run schema sound (AtEnds schema (ReadsActors schema)) (fallen_test schema sound) (fallen-keeps_moves schema sound) top moves (opening-reads schema top Parent, opening-reads schema top Child)).kept) w r h

  -- what has arrived is noted
  noted-moves : EveryMoveKeeps schema (AcrossEnds schema (IsNoted schema)) (λ r l b. true)
  noted-moves move w r output m k = record { kept = noted-following schema move w r output m k; passes = λ following. all-pass schema r output.lines following }

  pub noted-reached : AcrossEnds schema (IsNoted schema) w r
  noted-reached = reached-has schema (AcrossEnds schema (IsNoted schema))
      (λ top moves. (every-run schema sound (AcrossEnds schema (IsNoted schema)) (λ r l b. true) noted-moves top moves (record { arrived = tt; wants = tt }, record { arrived = tt; wants = tt })).kept) w r h

  -- ids have protocols
  pub protocols-reached : WorldHasProtocols schema h.top w
  protocols-reached = subst (WorldHasProtocols schema h.top) h.world (protocols_in_every_run schema sound h.top h.front)
