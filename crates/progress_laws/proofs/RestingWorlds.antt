-- A still world is at rest: both ends are open, or both have ended.
use Rattle.std.proofs.Common.{◌≡◌, ℕ, Bool, true, false, List, [], ◌∷◌, ◌++◌, length, map, refl, sym, ap, subst, ◌∙◌, arith}
use Rattle.std.proofs.lemmas.List.{length-append}
use Rattle.ipdl_base.specs.declared.kinds.EndState.{EndState}
use Rattle.ipdl_base.specs.declared.kinds.EndState.TheVariants.{Open, Draining, Closed, Dead}
use Rattle.ipdl_base.specs.declared.kinds.Side.{Side}
use Rattle.ipdl_base.specs.declared.kinds.Side.TheVariants.{Parent, Child}
use Rattle.ipdl_base.specs.declared.schema.Schema.{Schema}
use Rattle.ipdl_base.specs.Sound.{IsSound}
use Rattle.pending_queue.specs.declared.item.Item.{Item}
use Rattle.channel_model.specs.Ends.{End, World, Packet, message, end_of, link_to}
use Rattle.channel_model.specs.Events.{Move}
use Rattle.ipdl_base.specs.Sides.{other}
use Rattle.channel_model.specs.Outputs.{is_open, is_closed}
use Rattle.channel_model.specs.Runs.{is_still}
use Rattle.channel_model.specs.States.{IsInState, HasArrived}
use Rattle.channel_laws.specs.Laws.{world_of}
use Rattle.channel_laws.specs.NestedWorlds.{EndsAreNested, both_open, mine_open, theirs_open, both_over, EndsInLastPacket, last_alone, last_later}
use Rattle.channel_laws.specs.RequestOrder.{InOrder, on_way, ComesInOrder, WorldInOrder}
use Rattle.channel_laws.proofs.EveryRun.{nesting_in_every_run}
use Rattle.channel_laws.proofs.OrderRuns.{requests_come_in_order}
use Rattle.progress_laws.specs.Rest.{IsEmptyEnd, NothingIsLeft, HasEnded, has_closed, has_died, IsRestingWorld, both_rest, both_ended, StillWorldsRest}
use Rattle.progress_laws.proofs.ClosedNames.{KeepsNone, closed-names}
use Rattle.progress_laws.proofs.EmptyWorlds.{end-none, states-in_every_run, still_worlds_are_empty}

-- Ends that have ended

-- the last packet of an end is on a link that ends in it
not-empty : (link : List Packet) → EndsInLastPacket link → link ≡ [] → ⊥
not-empty _ (last_alone is) none = cc
not-empty _ (last_later ordinary rest) none = cc

-- a list with a last element
has-last : (items front : List Item) (last : Item) → items ≡ front ++ last ∷ [] → items ≡ [] → ⊥
has-last items front last whole none = let l : length (front ++ last ∷ []) ≡ 0 = ap length (sym whole ∙ none) in absurd (omega (arith, l, length-append front (last ∷ [])))

-- an end that is neither open nor draining: the farewell that an end drains for has arrived there
ended : (e : End) → IsEmptyEnd e → is_open e.state ≡ false → IsInState e → KeepsNone e → HasEnded e
ended e empty shut h names = by e.state refl h.arrived
  where
    by : (state : EndState) → e.state ≡ state → HasArrived state e.arrived → HasEnded e
    by Open is k = let c : true ≡ false = sym (ap is_open is) ∙ shut in cc
    by Draining is k = absurd (has-last e.arrived k.0 k.1.0 k.1.1.0 empty.arrived)
    by Closed is k = let closed : is_closed e.state ≡ true = ap is_closed is in has_closed is (h.nobody closed) (h.settled closed) (names closed)
    by Dead is k = has_died is

ended-shut : (e : End) → HasEnded e → is_open e.state ≡ false
ended-shut e (has_closed is nobody settled names) = ap is_open is
ended-shut e (has_died is) = ap is_open is

-- Worlds

-- what is left in a world at rest
rest-leaves : (w : World) → IsRestingWorld w → NothingIsLeft w.parent w.to_parent × NothingIsLeft w.child w.to_child
rest-leaves w (both_rest p c to_p to_c at_p at_c) = (record { at_end = at_p; on_link = λ opened. to_p }, record { at_end = at_c; on_link = λ opened. to_c })
rest-leaves w (both_ended p c at_p at_c) = (
  record { at_end = at_p; on_link = λ opened. let k : true ≡ false = sym opened ∙ ended-shut w.parent p in cc },
  record { at_end = at_c; on_link = λ opened. let k : true ≡ false = sym opened ∙ ended-shut w.child c in cc },
)

-- at rest an end is open only if the other one is
pub both-or_none : (side : Side) (w : World) → IsRestingWorld w → is_open (end_of side w).state ≡ is_open (end_of (other side) w).state
both-or_none Parent w (both_rest p c to_p to_c at_p at_c) = ap is_open (p ∙ sym c)
both-or_none Child w (both_rest p c to_p to_c at_p at_c) = ap is_open (c ∙ sym p)
both-or_none Parent w (both_ended p c at_p at_c) = ended-shut w.parent p ∙ sym (ended-shut w.child c)
both-or_none Child w (both_ended p c at_p at_c) = ended-shut w.child c ∙ sym (ended-shut w.parent p)

module _ (schema : Schema) (sound : IsSound schema) (top : ℕ) (moves : List Move) where
  abbrev w : World
  w = world_of schema top moves

  rests : is_still schema w ≡ true → IsRestingWorld w
  rests still = by (nesting_in_every_run schema sound top moves).ends
    where
      p : NothingIsLeft w.parent w.to_parent
      p = still_worlds_are_empty.empty schema sound top moves Parent still

      c : NothingIsLeft w.child w.to_child
      c = still_worlds_are_empty.empty schema sound top moves Child still

      by : EndsAreNested schema Parent w.parent w.child w.to_parent w.to_child → IsRestingWorld w
      by (both_open a b n) = both_rest a.state b.state (p.on_link (ap is_open a.state)) (c.on_link (ap is_open b.state)) p.at_end c.at_end
      by (mine_open a gone last n) = absurd (not-empty w.to_parent last (p.on_link (ap is_open a.state)))
      by (theirs_open b gone last n) = absurd (not-empty w.to_child last (c.on_link (ap is_open b.state)))
      by (both_over a b) =
          let states = states-in_every_run schema sound top moves in
          let names = closed-names schema top moves in
          both_ended (ended w.parent p.at_end a.over states.0 names.0) (ended w.child c.at_end b.over states.1 names.1) p.at_end c.at_end

  still-at_rest : IsRestingWorld w → is_still schema w ≡ true
  still-at_rest rest =
      let left = rest-leaves w rest in
      let p = end-none w.parent w.to_parent left.0 in
      let c = end-none w.child w.to_child left.1 in
      still_worlds_are_empty.still schema sound top moves (omega (arith, p, c))

  not-still : (side : Side) → (end_of side w).state ≡ Open → is_open (end_of (other side) w).state ≡ false → is_still schema w ≡ false
  not-still side opened shut = by (is_still schema w) refl
    where
      by : (b : Bool) → is_still schema w ≡ b → b ≡ false
      by true still = let k : true ≡ false = sym (ap is_open opened) ∙ both-or_none side w (rests still) ∙ shut in cc
      by false still = refl

  -- nothing is on the way to an open end
  all-delivered : (side : Side) → is_still schema w ≡ true → (end_of side w).state ≡ Open → (end_of side w).delivered ≡ (end_of (other side) w).sent
  all-delivered side still opened = (subst (λ (packets : List Packet). InOrder schema (other side) packets (end_of (other side) w).sent (end_of (other side) w).constructors_sent (end_of side w).delivered (end_of side w).constructors_delivered) nothing
      (comes side (requests_come_in_order schema sound top moves) (ap is_open opened))).0
    where
      comes : (side : Side) → WorldInOrder schema w → ComesInOrder schema (other side) (end_of side w) (end_of (other side) w) (link_to side w)
      comes Parent order = order.comes
      comes Child order = order.goes

      nothing : on_way (end_of (other side) w) (link_to side w) ≡ []
      nothing =
          ap (λ (packets : List Packet). packets ++ map message (end_of (other side) w).outbox) ((still_worlds_are_empty.empty schema sound top moves side still).on_link (ap is_open opened))
          ∙ ap (map message) (still_worlds_are_empty.empty schema sound top moves (other side) still).at_end.outbox

pub still_worlds_rest : StillWorldsRest
still_worlds_rest = record { rests = rests; still = still-at_rest; one_open = not-still; delivered = all-delivered }
