-- Every legal history obeys the law of settlings.
use Rattle.std.proofs.Common.{◌≡◌, ℕ, Bool, true, false, ◌&&◌, List, [], sym, subst}
use Rattle.ipdl_base.specs.declared.kinds.Side.{Side}
use Rattle.ipdl_base.specs.declared.kinds.Side.TheVariants.{Parent, Child}
use Rattle.ipdl_base.specs.declared.line.Line.{Line}
use Rattle.ipdl_base.specs.declared.line.What.{What}
use Rattle.ipdl_base.specs.declared.schema.Schema.{Schema}
use Rattle.ipdl_base.specs.Sound.{IsSound}
use Rattle.channel_model.specs.Ends.{End, World, Packet, end_of, link_to, opening}
use Rattle.channel_model.specs.Events.{Event}
use Rattle.ipdl_base.specs.Sides.{other}
use Rattle.channel_model.specs.Outputs.{Output, is_open}
use Rattle.channel_model.specs.Phases.{Phase}
use Rattle.channel_model.specs.Runs.{run, history_of, world_after}
use Rattle.channel_model.specs.States.{IsInState}
use Rattle.history_reading.specs.declared.law.Law.TheVariants as law
use Rattle.history_reading.specs.EndReading.{EndReading}
use Rattle.history_reading.specs.Holds.{moment_test}
use Rattle.history_reading.specs.Reading.{Reading, end_reading_of, other_of, opening_reading, read}
use Rattle.history_reading.specs.Settled.{settled_moment}
use Rattle.channel_laws.specs.EndActors.{ReadsActors}
use Rattle.channel_laws.specs.Exchanges.{ReadsExchanges}
use Rattle.channel_laws.specs.NotedArrivals.{IsNoted}
use Rattle.channel_laws.specs.Protocols.{WorldHasProtocols}
use Rattle.channel_laws.specs.Replies.{ReadsReplies}
use Rattle.channel_laws.specs.Rows.{HasSoundRows}
use Rattle.channel_laws.specs.SettledLaws.{HistoriesObeySettled}
use Rattle.channel_laws.specs.Tested.{LinesPass, read_from}
use Rattle.channel_laws.proofs.EveryRun.{end-side}
use Rattle.channel_laws.proofs.Exchanges.{opening-exchanges}
use Rattle.channel_laws.proofs.FallenRuns.{fallen-keeps_moves}
use Rattle.channel_laws.proofs.DeferralContext.{holds-in-runs}
use Rattle.channel_laws.proofs.Moves.{StepParts, acts, delivers}
use Rattle.channel_laws.proofs.ReadAlike.{protocols-at}
use Rattle.channel_laws.proofs.Reached.{actors-reached, noted-reached, protocols-reached}
use Rattle.channel_laws.proofs.RepliesKept.{replies-step}
use Rattle.channel_laws.proofs.Rows.{sound_schemas_have_sound_rows}
use Rattle.channel_laws.proofs.Runs.{EveryMoveKeeps, AtEnds, at-ends, ends-keep, across-ends, side-lines, every-run, moment_at, moments-pass}
use Rattle.channel_laws.proofs.SettledCauses.{KnowsReplies, replies-have-causes}
use Rattle.channel_laws.specs.Settlings.{SettledPass, RepliesHaveCauses, EndsSettle}
use Rattle.channel_laws.proofs.SettledLines.{settled_test, settled-lines, own-settles, delivery-settles}
use Rattle.channel_laws.proofs.SettledMoments.{OverSettles, step-settles, moment-settled}
use Rattle.channel_laws.proofs.Taken.{ReadExchanges, exchanges-keep}
use Rattle.channel_laws.proofs.Testing.{pass-both}

-- What an end reads of replies, and that it has settled its promises if it has closed.
pub record SettlesPromises (schema : Schema) (e : End) (own : EndReading) : Type 0 where
  pub replies : ReadsReplies schema e own
  pub over : OverSettles schema e own

-- the end of a step is that of its side in the world after it
state-after : (schema : Schema) (side : Side) (ev : Event) (w : World) (r : Reading) (output : Output) → AtEnds schema (ReadsActors schema) (world_after (record { side = side; event = ev }) output w) r → IsInState output.end
state-after schema Parent ev w r output k = k.0.state
state-after schema Child ev w r output k = k.1.state

module _ (schema : Schema) (sound : IsSound schema) where
  rows : HasSoundRows schema
  rows = sound_schemas_have_sound_rows schema sound

  -- what both ends keep
  abbrev pub SettledKept : World → Reading → Type 0
  SettledKept w r = ReadExchanges schema sound w r × AtEnds schema (SettlesPromises schema) w r

  parts-settle : (side : Side) (mine : End) (own others : EndReading) (place : ℕ) (link : List Packet) {ev : Event} {ws : List What} {ps : List Packet} {f : End} {q : Phase} → StepParts schema mine link ev ws ps f q → ReadsActors schema mine own → RepliesHaveCauses schema side others mine own → ReadsExchanges schema mine own
      → SettledPass schema side others place ws own
  parts-settle side mine own others place link (acts same part) actors causes h = own-settles schema side others rows place own part actors causes h.promises
  parts-settle side mine own others place link (delivers packet first o part) actors causes h = delivery-settles schema side others place own part

  moment-is : (w : World) (r : Reading) → SettledKept w r → moment_test law.Settled schema r ≡ true
  unfolding moment_test
  moment-is w r k = both (settled_moment r.parent) (settled_moment r.child) (moment-settled schema w.parent r.parent k.0.0.promises k.1.0.over) (moment-settled schema w.child r.child k.0.1.promises k.1.1.over)
    where
      both : (x y : Bool) → x ≡ true → y ≡ true → x && y ≡ true
      both true y e f = f
      both false y e f = cc

  -- moments and lines pass the law of settlings
  abbrev pub settlings_test : Reading → Line → List Line → Bool
  settlings_test r l b = moment_at (moment_test law.Settled schema) r l b && settled_test schema r l b

  settled-moves : EveryMoveKeeps schema SettledKept settlings_test
  settled-moves move w r output m k =
      let side : Side = move.side in
      let e : End = end_of side w in
      let own : EndReading = end_reading_of side r in
      let others : EndReading = other_of side r in
      let exchanges = at-ends schema (ReadsExchanges schema) side w r k.0 in
      let settles = at-ends schema (SettlesPromises schema) side w r k.1 in
      let reached : AtEnds schema (ReadsActors schema) w r = actors-reached schema sound w r m.reached in
      let actors = at-ends schema (ReadsActors schema) side w r reached in
      let noted = across-ends schema (IsNoted schema) side w r (noted-reached schema sound w r m.reached) in
      let made : WorldHasProtocols schema m.reached.top w = protocols-reached schema sound w r m.reached in
      let after : IsInState output.end = state-after schema side move.event w (read_from schema r output.lines) output (fallen-keeps_moves schema sound move w r output m reached).kept in
      let knows : KnowsReplies schema (other side) e own others = record {
        made = made.made;
        open_end = is_open e.state;
        left = _;
        account = m.ends.before.goes.sent;
        promises = exchanges.0.promises;
        wants = noted.0.wants;
        noted = noted.0.arrived;
        replies = settles.0.replies.arrived;
        protocols = protocols-at schema m.reached.top side w made;
        actors = actors.0;
        said_by = settles.1.replies.said_by;
      } in
      let pass : SettledPass schema side others r.lines m.ends.whats own = parts-settle side e own others r.lines (link_to side w) m.ends.parts actors.0 (replies-have-causes schema rows side (other side) e own others knows) exchanges.0 in
      record {
        kept = (
          (exchanges-keep schema sound move w r output m k.0).kept,
          ends-keep schema (SettlesPromises schema) side move.event w r output m.nested m.ends
              (record {
                replies = replies-step schema r.lines e own (link_to side w) m.ends.parts m.ends.side (λ packet first o. (m.ends.arrives packet first o).replies.0) settles.0.replies;
                over = step-settles schema rows r.lines e own (link_to side w) m.ends.parts actors.0 m.ends.before.outlined after settles.0.over;
              }) settles.1,
        );
        passes = λ following. pass-both schema (moment_at (moment_test law.Settled schema)) (settled_test schema) r output.lines following
            (moments-pass schema (moment_test law.Settled schema) move w r output following m.step (moment-is w r k))
            (subst (λ (ls : List Line). LinesPass schema (settled_test schema) r ls following) (sym (side-lines e side output.lines m.ends.whats (end-side schema side w m.nested) m.ends.lines)) (settled-lines schema side m.ends.whats r following pass));
      }

  opening-settles : (top : ℕ) → AtEnds schema (SettlesPromises schema) (opening top) opening_reading
  opening-settles top = (record { replies = record { arrived = tt; said_by = tt }; over = λ is. tt }, record { replies = record { arrived = tt; said_by = tt }; over = λ is. tt })

pub histories_obey_settled : HistoriesObeySettled
histories_obey_settled schema sound top moves =
    let keeps = every-run schema sound (SettledKept schema sound) (settlings_test schema sound) (settled-moves schema sound) top moves ((opening-exchanges schema top Parent, opening-exchanges schema top Child), opening-settles schema sound top) in
    holds-in-runs law.Settled schema sound top moves (keeps.passes []) (moment-is schema sound (run schema moves (opening top)).world (read schema (history_of schema top moves)) keeps.kept)

pub ends_settle : EndsSettle
ends_settle = record { passes = λ schema sound side others q e f whats packets place own parts actors exchanges causes. own-settles schema side others (sound_schemas_have_sound_rows schema sound) place own parts actors causes exchanges.promises }
