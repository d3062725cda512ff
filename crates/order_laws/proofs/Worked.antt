-- Worked takes and effects.
use Rattle.std.proofs.Common.{◌≡◌, pos, negsuc, List, [], ◌∷◌, Some, None, codes, refl}
use Rattle.ipdl_base.specs.declared.kinds.Reason.TheVariants.{ResolverDestroyed}
use Rattle.ipdl_base.specs.declared.kinds.Side.TheVariants.{Parent}
use Rattle.ipdl_base.specs.declared.line.What.TheVariants as what
use Rattle.ipdl_base.specs.declared.schema.Schema.{Schema}
use Rattle.ipdl_base.specs.declared.value.Values.TheVariants.{Nothing}
use Rattle.pending_queue.specs.declared.item.Item.{Item}
use Rattle.channel_model.specs.Ends.{End, Packet}
use Rattle.channel_model.specs.Events.{Move}
use Rattle.channel_model.specs.Events as event
use Rattle.channel_model.specs.Outputs.{Output, line_at}
use Rattle.channel_model.specs.Runs.{happens}
use Rattle.channel_model.specs.Steps.{step}
use Rattle.channel_laws.specs.Laws.{world_of}
use Rattle.channel_laws.proofs.Worked.{parent, child, top}
use Rattle.channel_laws.proofs.WorkedSchema.{calling, calling_is_sound, ask, tell}
use Rattle.progress_laws.proofs.WorkedSchema.{making}
use Rattle.order_laws.specs.DueEffects.{Builds}
use Rattle.order_laws.specs.Order.{FirstLine, IsTakeOf, TakesLast}
use Rattle.order_laws.proofs.DueEffects.{constructors_build}
use Rattle.order_laws.proofs.Farewells.{farewells_are_taken_last}

-- Both ends call at once. The child handles the parent's call and calls back, and the parent takes that call before the
-- older one.

abbrev called_back : List Move
called_back =
    parent (event.send top tell Nothing None)
    ∷ child (event.send top ask Nothing None)
    ∷ parent event.deliver
    ∷ child event.deliver
    ∷ child event.take
    ∷ child (event.send top ask Nothing None)
    ∷ parent event.deliver ∷ []

younger_first : (happens calling (world_of calling 0 called_back) (parent event.take)).lines ≡ line_at Parent (what.Take (negsuc 1) top ask Nothing) ∷ []
younger_first = refl

-- So an end that waits may take an item that is not the oldest, even of the oldest item's kind and level.
oldest_may_stay : ((schema : Schema) (e : End) (link : List Packet) (output : Output) (first : Item) (rest : List Item) → e.arrived ≡ first ∷ rest → step schema e link event.take ≡ Some output → FirstLine (IsTakeOf first) output.lines) → ⊥
oldest_may_stay h = let k : negsuc 1 ≡ negsuc 0 = (h calling (world_of calling 0 called_back).parent [] _ _ _ refl refl).0 in cc

-- The child dies, and the parent takes its mark when no other item waits.

abbrev child_has_died : List Move
child_has_died = child event.die ∷ parent event.deliver ∷ []

mark_is_alone : TakesLast (world_of calling 0 child_has_died).parent
mark_is_alone = farewells_are_taken_last calling calling_is_sound 0 child_has_died Parent _ refl tt

-- A handler keeps its resolver under a name.

abbrev kept_first : List Move
kept_first =
    child (event.send top 0 Nothing None)
    ∷ child event.flush
    ∷ parent event.deliver
    ∷ parent event.take
    ∷ parent (event.keep (negsuc 0) (codes "a")) ∷ []

-- A constructor is sent under a name that had a resolver: the resolver is answered, and the actor is built.
makes_one : (output : Output) → step making (world_of making 0 kept_first).parent [] (event.send top 2 Nothing (Some (codes "a"))) ≡ Some output → Builds (world_of making 0 kept_first).parent output (what.Call (pos 1) (pos 1) top 2 Nothing) (what.AnswerFault (negsuc 0) ResolverDestroyed ∷ []) (pos 6) 1 top
makes_one output is = constructors_build.sends making (world_of making 0 kept_first).parent [] _ top 2 Nothing (Some (codes "a")) 1 output (record { found = refl; accepted = refl }) refl is
