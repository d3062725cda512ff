-- Actors that fall, with their promises and lines.
use Rattle.std.specs.Prelude.{◌≡◌, true, ℤ, ◌+◌, ◌≤◌, List, ◌++◌, map, length}
use Rattle.std.specs.List.{flat_map}
use Rattle.actor_tree.specs.declared.actor.Actor.{Actor}
use Rattle.actor_tree.specs.Fall.{post_order, others}
use Rattle.actor_tree.specs.Tree.{lives}
use Rattle.ipdl_base.specs.declared.kinds.Destroy.{Destroy}
use Rattle.ipdl_base.specs.declared.kinds.Reason.TheVariants.{ActorDestroyed, ChannelClosed}
use Rattle.ipdl_base.specs.declared.kinds.Side.{Side}
use Rattle.channel_model.specs.Ends.{PromiseEntry}
use Rattle.channel_model.specs.Falls.{rejected, fall_lines, why_deleted}
use Rattle.ipdl_base.specs.Sides.{top_id}
use Rattle.channel_model.specs.Outputs.{line_at}
use Rattle.end_steps.specs.declared.closing.FallCause.{FallCause}
use Rattle.end_steps.specs.declared.closing.FallCause.TheVariants.{Deletion, Closing}
use Rattle.end_parts.specs.OutputView.{OutputView}
use Rattle.end_parts.specs.PromiseRequests.{pending_in}
use Rattle.end_steps.specs.Rejections.{HasRejected}

-- the reason for which an actor falls
abbrev pub destroy_by : FallCause → ℤ → Destroy
destroy_by (Deletion id) = why_deleted id
destroy_by (Closing destroy) = λ id. destroy

-- The subtree of an id falls, with its promises and lines; each printed line is of an actor or of a promise that is
-- pending no more.
pub record HasFallen (side : Side) (id : ℤ) (why : ℤ → Destroy) (actors : List Actor) (promises : List PromiseEntry) (out : OutputView) (actors' : List Actor) (promises' : List PromiseEntry) (out' : OutputView) : Type 0 where
  pub left : actors' ≡ others (post_order id actors) actors
  pub rejected : promises' ≡ rejected (λ p. lives p.actor (post_order id actors)) ActorDestroyed promises
  pub said : out' ≡ record out { lines = out.lines ++ map (line_at side) (flat_map (fall_lines why promises) (post_order id actors)); line_spare = out'.line_spare }
  pub room : out.line_spare + (length actors' + pending_in promises') ≤ out'.line_spare + (length actors + pending_in promises)
  pub fewer : length actors' + pending_in promises' ≤ length actors + pending_in promises

-- An end closes: its promises are rejected, and then its actors fall.
pub record HasClosed (side : Side) (why : Destroy) (actors : List Actor) (promises : List PromiseEntry) (out : OutputView) (actors' : List Actor) (promises' : List PromiseEntry) (out' : OutputView) : Type 0 where
  pub left : List PromiseEntry
  pub said : OutputView
  pub rejects : HasRejected side (λ p. true) ChannelClosed promises out left said
  pub falls : HasFallen side top_id (λ id. why) actors left said actors' promises' out'
