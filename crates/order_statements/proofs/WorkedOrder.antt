-- The order, worked: a history in which a call of level inside_cpow overtakes one that waits, and lines that are no
-- such history.
use Rattle.std.proofs.Common.{◌≡◌, pos, negsuc, true, false, IsTrue, List, [], ◌∷◌, ◌++◌, None, refl, ap, subst}
use Rattle.ipdl_base.specs.declared.kinds.Level.TheVariants.{InsideSync, InsideCpow}
use Rattle.ipdl_base.specs.declared.kinds.Side.TheVariants as side
use Rattle.ipdl_base.specs.declared.line.Line.{Line}
use Rattle.ipdl_base.specs.declared.line.What.{What}
use Rattle.ipdl_base.specs.declared.line.What.TheVariants as what
use Rattle.ipdl_base.specs.declared.value.Values.TheVariants.{Nothing}
use Rattle.ipdl_base.specs.Deferral.{request}
use Rattle.history_reading.specs.declared.parts.PacketKind.{PacketKind}
use Rattle.history_reading.specs.declared.parts.PacketKind.TheVariants as seen
use Rattle.channel_model.specs.Events.{Move}
use Rattle.channel_model.specs.Events as event
use Rattle.channel_model.specs.Runs.{history_of}
use Rattle.channel_laws.proofs.Worked as worked
use Rattle.channel_laws.proofs.Worked.{top}
use Rattle.channel_laws.proofs.WorkedSchema.{ask, calling, calling_is_sound, peek, tell}
use Rattle.progress_laws.proofs.WorkedSchema.{making}
use Rattle.law_statements.specs.Arrived.{Passing, arrives}
use Rattle.law_statements.specs.Said.{line_of}
use Rattle.order_statements.specs.Order.{IsPassedOver, Order, TakesFirstFree, cpow_over_sync, still_waits}
use Rattle.order_statements.proofs.Arrived.{no-place}
use Rattle.order_statements.proofs.OrderLaw.{histories_keep_order}

abbrev parent : What → Line
parent what = line_of side.Parent what

abbrev child : What → Line
child what = line_of side.Child what

abbrev first : PacketKind
first = seen.Request (negsuc 0)

abbrev second : PacketKind
second = seen.Request (negsuc 1)

-- Both ends call at once. The child handles the parent's call, and peeks under it: the parent takes that call before the older
-- one, which it defers.

abbrev peeked : List Move
peeked =
    worked.parent (event.send top tell Nothing None)
    ∷ worked.child (event.send top ask Nothing None)
    ∷ worked.parent event.deliver
    ∷ worked.child event.deliver
    ∷ worked.child event.take
    ∷ worked.child (event.send top peek Nothing None)
    ∷ worked.parent event.deliver
    ∷ worked.parent event.take ∷ []

abbrev both_arrived : List Line
both_arrived =
    parent (what.Call (pos 1) (pos 1) top tell Nothing)
    ∷ child (what.Call (negsuc 0) (negsuc 0) top ask Nothing)
    ∷ parent (what.DeliverRequest (negsuc 0))
    ∷ child (what.DeliverRequest (pos 1))
    ∷ child (what.Take (pos 1) top tell Nothing)
    ∷ child (what.Call (negsuc 1) (pos 1) top peek Nothing)
    ∷ parent (what.DeliverRequest (negsuc 1)) ∷ []

abbrev peek_taken : What
peek_taken = what.Take (negsuc 1) top peek Nothing

peeked_lines : history_of calling 0 peeked ≡ both_arrived ++ parent peek_taken ∷ []
peeked_lines = refl

younger_first : TakesFirstFree calling side.Parent both_arrived second
younger_first = (histories_keep_order calling calling_is_sound 0 peeked).takes side.Parent peek_taken second both_arrived [] refl refl

older_waits : IsTrue (still_waits first (arrives second ∷ []))
older_waits = refl

older_passed : IsPassedOver calling side.Parent both_arrived second first
older_passed = record {
  deferred = refl;
  overtaken = record { taken = request true InsideCpow (pos 1); waiting = request true InsideSync (negsuc 0); taken_is = refl; waiting_is = refl; may = cpow_over_sync true (pos 1) InsideSync (negsuc 0) (λ e. cc) };
}

-- An end that waits for nothing does not take the younger of two requests first.

abbrev two_arrived : List Line
two_arrived =
    child (what.Send (negsuc 0) top 0 Nothing)
    ∷ child (what.Send (negsuc 1) top 0 Nothing)
    ∷ parent (what.DeliverRequest (negsuc 0))
    ∷ parent (what.DeliverRequest (negsuc 1)) ∷ []

younger_refused : Order making (two_arrived ++ parent (what.Take (negsuc 1) top 0 Nothing) ∷ []) → ⊥
younger_refused o = by t.earlier t.later t.arrival t.older
  where
    t : TakesFirstFree making side.Parent two_arrived second
    t = o.takes side.Parent (what.Take (negsuc 1) top 0 Nothing) second two_arrived [] refl refl

    by : (earlier later : List Passing) → arrives first ∷ arrives second ∷ [] ≡ earlier ++ arrives second ∷ later
        → ((other : PacketKind) (front back : List Passing) → earlier ≡ front ++ arrives other ∷ back → IsTrue (still_waits other (back ++ arrives second ∷ later)) → IsPassedOver making side.Parent two_arrived second other) → ⊥
    by [] later e older = cc
    by (x ∷ []) later e older =
        let is : x ≡ arrives first = cc in
        let none : [] ≡ later = cc in
        let passed : IsPassedOver making side.Parent two_arrived second first = older first [] [] (ap (λ (y : Passing). y ∷ []) is) (subst (λ (ps : List Passing). IsTrue (still_waits first (arrives second ∷ ps))) none refl) in
        let k : false ≡ true = passed.deferred in
        cc
    by (x ∷ y ∷ zs) later e older = let none : [] ≡ zs ++ arrives second ∷ later = cc in no-place zs later (arrives second) none
