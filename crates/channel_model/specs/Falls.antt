-- Actors that fall, with their promises, and an end that closes.
use Rattle.std.specs.Prelude.{ℤ, Bool, true, ◌&&◌, if◌then◌else◌, List, [], ◌∷◌, ◌++◌, map, filter, Some}
use Rattle.std.specs.List.{flat_map}
use Rattle.std.specs.Ordering.{int_eq}
use Rattle.actor_tree.specs.declared.actor.Actor.{Actor}
use Rattle.actor_tree.specs.Fall.{post_order, others}
use Rattle.actor_tree.specs.Tree.{lives}
use Rattle.ipdl_base.specs.declared.line.What.{What}
use Rattle.ipdl_base.specs.declared.line.What.TheVariants as what
use Rattle.ipdl_base.specs.declared.kinds.Destroy.{Destroy}
use Rattle.ipdl_base.specs.declared.kinds.Destroy.TheVariants.{Deletion, AncestorDeletion}
use Rattle.ipdl_base.specs.declared.kinds.Reason.{Reason}
use Rattle.ipdl_base.specs.declared.kinds.Reason.TheVariants.{ActorDestroyed, ChannelClosed}
use Rattle.ipdl_base.specs.declared.schema.Kind.{Kind}
use Rattle.ipdl_base.specs.declared.schema.Kind.TheVariants.{Normal, Constructor, Delete}
use Rattle.promise_table.specs.declared.promise.Outcome.TheVariants.{Rejected}
use Rattle.promise_table.specs.declared.promise.Promise.{Promise}
use Rattle.promise_table.specs.Promises.{is_pending, is_pending_of}
use Rattle.ipdl_base.specs.declared.kinds.EndState.TheVariants.{Closed}
use Rattle.channel_model.specs.Ends.{PromiseEntry}
use Rattle.channel_model.specs.Names.{without_resolvers}
use Rattle.ipdl_base.specs.Sides.{top_id}
use Rattle.channel_model.specs.Outputs.{Change, ◌▷◌, unchanged, on_end, lines}

-- whether a promise is pending and passes the test
abbrev pub passes : (Promise → Bool) → PromiseEntry → Bool
passes test entry = is_pending entry.promise && test entry.promise

-- the lines that reject the pending promises that pass, oldest first
abbrev pub rejections : (Promise → Bool) → Reason → List PromiseEntry → List What
rejections test reason promises = map (λ entry. what.Rejected entry.promise.seq reason) (filter (passes test) promises)

abbrev pub rejected_entry : Reason → PromiseEntry → PromiseEntry
rejected_entry reason entry = record entry { promise = record entry.promise { outcome = Some (Rejected reason) } }

-- the promises after those that pass are rejected
abbrev pub rejected : (Promise → Bool) → Reason → List PromiseEntry → List PromiseEntry
rejected test reason promises = map (λ (entry : PromiseEntry). if passes test entry then rejected_entry reason entry else entry) promises

-- the lines of an actor that falls: its pending promises are rejected just before
abbrev pub fall_lines : (ℤ → Destroy) → List PromiseEntry → Actor → List What
fall_lines why promises a = rejections (is_pending_of a.id) ActorDestroyed promises ++ what.Fall a.id (why a.id) ∷ []

-- the actors of the subtree of an id fall, each for its reason
abbrev pub fallen : ℤ → (ℤ → Destroy) → Change
fallen id why output =
    let falling : List Actor = post_order id output.end.actors in
    (lines (flat_map (fall_lines why output.end.promises) falling)
    ▷ on_end (λ e. record e { actors = others falling e.actors; promises = rejected (λ p. lives p.actor falling) ActorDestroyed e.promises })) output

abbrev pub why_deleted : ℤ → ℤ → Destroy
why_deleted deleted id = if int_eq id deleted then Deletion else AncestorDeletion

-- an actor is deleted, with all actors below it
abbrev pub deleted : ℤ → Change
deleted id = fallen id (why_deleted id)

-- a destructor deletes the actor that it goes to
abbrev pub deletes : ℤ → Kind → Change
deletes route Normal = unchanged
deletes route (Constructor protocol) = unchanged
deletes route Delete = deleted route

-- all pending promises are rejected, oldest first
abbrev pub abandoned : Change
abandoned output =
    (lines (rejections (λ p. true) ChannelClosed output.end.promises)
    ▷ on_end (λ e. record e { promises = rejected (λ p. true) ChannelClosed e.promises })) output

-- an end closes: its promises are rejected, its actors fall, and what had arrived and its kept resolvers are dropped
abbrev pub closed : Destroy → Change
closed why =
    abandoned
    ▷ fallen top_id (λ id. why)
    ▷ on_end (λ e. record e { state = Closed; arrived = []; names = without_resolvers e.names })
