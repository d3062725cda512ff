-- What is left where only acts are possible follows from other laws on lines.
use Rattle.std.proofs.Common.{◌≡◌, ◌⊎◌, inl, inr, IsTrue, List, ◌++◌, map, [], refl, sym, subst}
use Rattle.ipdl_base.specs.declared.kinds.EndState.{EndState}
use Rattle.ipdl_base.specs.declared.kinds.EndState.TheVariants as state
use Rattle.ipdl_base.specs.declared.kinds.Side.{Side}
use Rattle.ipdl_base.specs.declared.kinds.Side.TheVariants as side
use Rattle.ipdl_base.specs.declared.line.Line.{Line}
use Rattle.ipdl_base.specs.declared.schema.Schema.{Schema}
use Rattle.history_reading.specs.SentPacket.{packet_kind}
use Rattle.history_reading.specs.Still.{takes_items}
use Rattle.law_statements.specs.Arrived.{state_of}
use Rattle.law_statements.specs.Packets.{delivered, sent}
use Rattle.law_statements.specs.Prefix.{Prefix}
use Rattle.ipdl_base.specs.Sides.{other}
use Rattle.law_statements.specs.Said.{is_moment, said_by}
use Rattle.law_statements.specs.Stack.{stack}
use Rattle.law_statements.specs.Waits.{IsStillAt, Waits}
use Rattle.order_statements.specs.Effects.{Effects}
use Rattle.order_statements.specs.Order.{Order}
use Rattle.channel_model.specs.Runs.{history_of}
use Rattle.channel_laws.proofs.PrefixRuns.{histories_obey_prefix}
use Rattle.channel_laws.proofs.WaitLaw.{histories_obey_waits}
use Rattle.channel_laws.proofs.Readable.{histories_are_readable}
use Rattle.law_statements.proofs.PrefixLaw.{prefix-to}
use Rattle.law_statements.proofs.WaitsLaw.{waits-to}
use Rattle.order_statements.proofs.EffectsLaw.{history-effects-owed}
use Rattle.order_statements.proofs.OrderLaw.{histories_keep_order}
use Rattle.rest_statements.specs.Laws.{HistoriesRest, RestFollows}
use Rattle.rest_statements.specs.Rest.{HasEnded, NothingIsLeft, RestsAt, both_ended, both_rest}
use Rattle.rest_statements.proofs.BothEnds.{one-open}
use Rattle.rest_statements.proofs.Promises.{promise-unanswered}
use Rattle.rest_statements.proofs.Still.{still-delivered, still-none, still-not-draining, still-stack}

module _ (schema : Schema) (lines : List Line) (prefix : Prefix schema lines) (waits : Waits schema lines) (order : Order schema lines) (effects : Effects schema lines) (before following : List Line) (at : lines ≡ before ++ following) (moment : IsTrue (is_moment following)) (still : (end : Side) → IsStillAt schema end before) where
  stacks : (end : Side) → stack schema end before ≡ []
  stacks end = still-stack schema lines waits before following at moment still end

  all-delivered : (end : Side) → state_of (said_by end before) ≡ state.Open → delivered (said_by end before) ≡ map packet_kind (sent schema (said_by (other end) before))
  all-delivered end opened = still-delivered schema lines prefix before following at end (still end) opened

  -- an end that is not draining is open or has ended
  open-or-ended : (end : Side) → (state_of (said_by end before) ≡ state.Open) ⊎ HasEnded end before
  open-or-ended end = by (state_of (said_by end before)) refl
    where
      by : (s : EndState) → state_of (said_by end before) ≡ s → (state_of (said_by end before) ≡ state.Open) ⊎ HasEnded end before
      by state.Open is = inl is
      by state.Draining is = absurd (still-not-draining schema before end (stacks end) (still end) is)
      by state.Closed is = inr (inl is)
      by state.Dead is = inr (inr is)

  nothing-left : (end : Side) → state_of (said_by end before) ≡ state.Open → NothingIsLeft schema end before
  nothing-left end opened =
      let takes : IsTrue (takes_items (state_of (said_by end before))) = subst (λ (s : EndState). IsTrue (takes_items s)) (sym opened) refl in
      record {
        delivered = all-delivered end opened;
        waiting = still-none schema before end (stacks end) (still end) takes;
        stack = stacks end;
        promises = promise-unanswered schema lines before following effects at moment end opened (all-delivered end opened) (still-none schema before end (stacks end) (still end) takes);
      }

  each : (P : Side → Type 0) → P side.Parent → P side.Child → (end : Side) → P end
  each P p c side.Parent = p
  each P p c side.Child = c

  rests-at : RestsAt schema before
  rests-at = by (open-or-ended side.Parent) (open-or-ended side.Child)
    where
      by : (state_of (said_by side.Parent before) ≡ state.Open) ⊎ HasEnded side.Parent before → (state_of (said_by side.Child before) ≡ state.Open) ⊎ HasEnded side.Child before → RestsAt schema before
      by (inl p) (inl c) = both_rest (each (λ end. state_of (said_by end before) ≡ state.Open) p c) (each (λ end. NothingIsLeft schema end before) (nothing-left side.Parent p) (nothing-left side.Child c))
      by (inl p) (inr c) = absurd (one-open schema lines prefix order before following at side.Parent p (all-delivered side.Parent p) c)
      by (inr p) (inl c) = absurd (one-open schema lines prefix order before following at side.Child c (all-delivered side.Child c) p)
      by (inr p) (inr c) = both_ended (each (λ end. HasEnded end before) p c) stacks

pub rest_follows : RestFollows
rest_follows schema lines prefix waits order effects = record { rests = λ before following at moment still. rests-at schema lines prefix waits order effects before following at moment still }

pub histories_rest : HistoriesRest
histories_rest schema sound top moves =
    let lines : List Line = history_of schema top moves in
    rest_follows schema lines (prefix-to schema lines (histories_obey_prefix schema sound top moves)) (waits-to schema lines (histories_are_readable schema sound top moves) (histories_obey_waits schema sound top moves))
    (histories_keep_order schema sound top moves) (history-effects-owed schema sound top moves)
