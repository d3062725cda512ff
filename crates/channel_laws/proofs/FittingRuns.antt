-- In every run that is not too long, what the ends keep and what is on the links fits the schema.
use Rattle.std.proofs.Common.{◌≡◌, ℕ, Bool, true, false, List, [], ◌∷◌, Some, None, refl, subst, arith}
use Rattle.std.specs.List.{AllByRecursion}
use Rattle.ipdl_base.specs.declared.kinds.EndState.TheVariants.{Open}
use Rattle.ipdl_base.specs.declared.kinds.Side.{Side}
use Rattle.ipdl_base.specs.declared.kinds.Side.TheVariants.{Parent, Child}
use Rattle.ipdl_base.specs.declared.schema.Schema.{Schema}
use Rattle.ipdl_base.specs.Sound.{IsSound}
use Rattle.history_reading.specs.Reading.{Reading}
use Rattle.channel_model.specs.Ends.{End, World, Packet, end_of, link_to, opening}
use Rattle.channel_model.specs.Events.{Event, Move}
use Rattle.channel_model.specs.Events as event
use Rattle.channel_model.specs.Fitting.{FitsPacket, IsFittingDelivery}
use Rattle.channel_model.specs.Outputs.{Output, Change, is_open}
use Rattle.channel_model.specs.Refusals.{packet_refusal}
use Rattle.channel_model.specs.Runs.{after_event, output_of, world_after}
use Rattle.channel_model.specs.StepLaws.{FitsOutput}
use Rattle.channel_model.specs.Steps.{step, provided}
use Rattle.channel_model.proofs.CountedParts.{counts_grow}
use Rattle.channel_model.proofs.FittingParts.{fitting_ends_stay, first_ends_fit}
use Rattle.channel_model.proofs.Known.{all-append}
use Rattle.channel_laws.specs.FittingWorlds.{IsFittingWorld, IsShort}
use Rattle.channel_laws.specs.TwoEndLaws.{WorldsFitInRuns}
use Rattle.channel_laws.proofs.HonestRuns.{honest_packets_are_accepted}
use Rattle.channel_laws.proofs.Outlines.{open-is}
use Rattle.channel_laws.proofs.Reached.{all-pass}
use Rattle.channel_laws.proofs.Runs.{IsReached, EveryMoveKeeps, every-run}

-- what is delivered is delivered to an open end
provided-open : (b : Bool) (change : Change) (e : End) (output : Output) → provided b change e ≡ Some output → b ≡ true
provided-open true change e output is = refl
provided-open false change e output is = cc

after-fits : (schema : Schema) (ev : Event) (link : List Packet) → AllByRecursion (FitsPacket schema) link → AllByRecursion (FitsPacket schema) (after_event ev link)
after-fits schema event.deliver [] h = tt
after-fits schema event.deliver (packet ∷ rest) h = h.1
after-fits schema (event.send route number vs name) link h = h
after-fits schema (event.answer by vs) link h = h
after-fits schema (event.keep seq name) link h = h
after-fits schema (event.name name id) link h = h
after-fits schema event.close link h = h
after-fits schema event.die link h = h
after-fits schema event.take link h = h
after-fits schema (event.return vs) link h = h
after-fits schema event.resume link h = h
after-fits schema event.flush link h = h

module _ (schema : Schema) (sound : IsSound schema) where
  -- what comes first to an open end is not refused in a world that is reached
  abbrev Accepts : World → Type 0
  Accepts w = (side : Side) (packet : Packet) (rest : List Packet) → (end_of side w).state ≡ Open → link_to side w ≡ packet ∷ rest → packet_refusal schema (end_of side w) packet ≡ None

  accepts : (w : World) (r : Reading) → IsReached schema w r → Accepts w
  accepts w r h = subst Accepts h.world (honest_packets_are_accepted schema sound h.top h.front)

  delivery-fits : (side : Side) (w : World) (ev : Event) (link : List Packet) (output : Output) → Accepts w → link_to side w ≡ link → step schema (end_of side w) link ev ≡ Some output → AllByRecursion (FitsPacket schema) link → IsFittingDelivery schema (end_of side w) link ev
  delivery-fits side w ev [] output a is made h = tt
  delivery-fits side w event.deliver (packet ∷ rest) output a is made h = (h.0, a side packet rest (open-is (end_of side w).state (provided-open (is_open (end_of side w).state) _ (end_of side w) output made)) is)
  delivery-fits side w (event.send route number vs name) (packet ∷ rest) output a is made h = tt
  delivery-fits side w (event.answer by vs) (packet ∷ rest) output a is made h = tt
  delivery-fits side w (event.keep seq name) (packet ∷ rest) output a is made h = tt
  delivery-fits side w (event.name name id) (packet ∷ rest) output a is made h = tt
  delivery-fits side w event.close (packet ∷ rest) output a is made h = tt
  delivery-fits side w event.die (packet ∷ rest) output a is made h = tt
  delivery-fits side w event.take (packet ∷ rest) output a is made h = tt
  delivery-fits side w (event.return vs) (packet ∷ rest) output a is made h = tt
  delivery-fits side w event.resume (packet ∷ rest) output a is made h = tt
  delivery-fits side w event.flush (packet ∷ rest) output a is made h = tt

  -- a world fits, if no end has sent too many requests
  abbrev FitsIfShort : World → Reading → Type 0
  FitsIfShort w r = IsShort w → IsFittingWorld schema w

  step-fits : (side : Side) (ev : Event) (w : World) (r : Reading) (output : Output) → Accepts w → output_of schema w (record { side = side; event = ev }) ≡ Some output → FitsIfShort w r → FitsIfShort (world_after (record { side = side; event = ev }) output w) r
  step-fits Parent ev w r output a is h short =
      let counts = counts_grow schema w.parent w.to_parent ev output is in
      let grown = counts.0.sent.0 in
      let last = short.parent in
      let before : IsFittingWorld schema w = h (record { parent = omega arith; child = short.child }) in
      let fits : FitsOutput schema output = fitting_ends_stay schema w.parent w.to_parent ev output is sound before.parent_counted (omega arith) (delivery-fits Parent w ev w.to_parent output a refl is before.to_parent) before.parent in
      record { parent = fits.end; child = before.child; parent_counted = counts.1 before.parent_counted; child_counted = before.child_counted; to_parent = after-fits schema ev w.to_parent before.to_parent; to_child = all-append (FitsPacket schema) w.to_child output.packets before.to_child fits.packets }
  step-fits Child ev w r output a is h short =
      let counts = counts_grow schema w.child w.to_child ev output is in
      let grown = counts.0.sent.0 in
      let last = short.child in
      let before : IsFittingWorld schema w = h (record { parent = short.parent; child = omega arith }) in
      let fits : FitsOutput schema output = fitting_ends_stay schema w.child w.to_child ev output is sound before.child_counted (omega arith) (delivery-fits Child w ev w.to_child output a refl is before.to_child) before.child in
      record { parent = before.parent; child = fits.end; parent_counted = before.parent_counted; child_counted = counts.1 before.child_counted; to_parent = all-append (FitsPacket schema) w.to_parent output.packets before.to_parent fits.packets; to_child = after-fits schema ev w.to_child before.to_child }

  moves-fit : EveryMoveKeeps schema FitsIfShort (λ r l b. true)
  moves-fit move w r output m k = record { kept = step-fits move.side move.event w r output (accepts w r m.reached) m.step k; passes = λ following. all-pass schema r output.lines following }

  opening-fits : (top : ℕ) → IsFittingWorld schema (opening top)
  opening-fits top = record { parent = (first_ends_fit schema top Parent).0; child = (first_ends_fit schema top Child).0; parent_counted = (first_ends_fit schema top Parent).1; child_counted = (first_ends_fit schema top Child).1; to_parent = tt; to_child = tt }

pub worlds_fit_in_runs : WorldsFitInRuns
worlds_fit_in_runs schema sound top moves short = (every-run schema sound (FitsIfShort schema sound) (λ r l b. true) (moves-fit schema sound) top moves (λ s. opening-fits schema sound top)).kept short
