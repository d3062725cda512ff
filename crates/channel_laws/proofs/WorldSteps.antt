-- Every move keeps how the two ends wait.
use Rattle.std.proofs.Common.{◌≡◌, List, [], ◌∷◌, ◌++◌, drop, Option, Some, None, refl, sym, ap, subst, ◌∙◌}
use Rattle.std.proofs.lemmas.List.{append-nil}
use Rattle.std.proofs.lemmas.Grind.{flat_map-append}
use Rattle.std.specs.List.{AllByRecursion}
use Rattle.ipdl_base.specs.declared.kinds.Side.{Side}
use Rattle.ipdl_base.specs.declared.kinds.Side.TheVariants.{Parent, Child}
use Rattle.ipdl_base.specs.declared.schema.Schema.{Schema}
use Rattle.channel_model.specs.Ends.{End, World, Packet, opening}
use Rattle.channel_model.specs.Events.{Event, Move}
use Rattle.channel_model.specs.Events as event
use Rattle.ipdl_base.specs.Sides.{other}
use Rattle.channel_model.specs.Outputs.{Output, is_open}
use Rattle.channel_model.specs.Runs.{after_event, output_of, passed_by, happens, run, world_after}
use Rattle.channel_model.specs.Steps.{step}
use Rattle.channel_model.proofs.Events.{events_have_their_lines}
use Rattle.channel_model.proofs.Known.{all-append}
use Rattle.channel_laws.proofs.EndedSteps.{StaysOver, ended_step}
use Rattle.channel_laws.proofs.LastPackets.{link-goes_on, ends-following, ends-left}
use Rattle.channel_laws.proofs.OpenSteps.{ReplyIsForTop, open_step}
use Rattle.channel_laws.proofs.SyncSteps.{SyncStep, no_step, one_step, ends, drains}
use Rattle.channel_laws.specs.NestedWorlds.{AreNestedFrom, sync_end_of, IsGone, EndsAreNested, both_open, mine_open, theirs_open, both_over, IsNestedWorld, EndsInLastPacket}
use Rattle.channel_laws.specs.OpenEnds.{PacketAgrees, IsOpenEnd}
use Rattle.channel_laws.specs.SyncCalls.{sync_calls, sync_packets, sync_packet}
use Rattle.channel_laws.specs.SyncStack.{no_answer, empty, no_cpow}
use Rattle.nesting_laws.proofs.AloneSteps.{alone_stays}
use Rattle.nesting_laws.proofs.NestedSteps.{nesting_stays}
use Rattle.nesting_laws.proofs.Replies.{replies_are_for_top}
use Rattle.nesting_laws.specs.Alone.{IsAlone}
use Rattle.nesting_laws.specs.Calls.{IsNoFarewell, ReplyHead, Call, SyncFrame, SyncPacket, reply, farewell, SyncEnd, sync_end, with_packets}
use Rattle.nesting_laws.proofs.Farewells.{links_tell_of_ends}
use Rattle.nesting_laws.specs.Nested.{idle}
use Rattle.nesting_laws.specs.Progress.{IsForTop}
use Rattle.nesting_laws.specs.Steps.{Step}
use Rattle.channel_laws.specs.Rows.{HasSoundRows}

-- Both ends

nested_step : (side : Side) (mine theirs next : SyncEnd) (sent : List SyncPacket) → AreNestedFrom side mine theirs → Step side mine next sent → AreNestedFrom side next (with_packets theirs sent)
nested_step Parent mine theirs next sent n s = nesting_stays.parent mine theirs next sent n s
nested_step Child mine theirs next sent n s = nesting_stays.child theirs mine next sent n s

nested_ends : (side : Side) (mine theirs : SyncEnd) → AreNestedFrom side mine theirs → IsAlone (other side) (with_packets theirs (farewell ∷ []))
nested_ends Parent mine theirs n = alone_stays.child mine theirs n
nested_ends Child mine theirs n = alone_stays.parent theirs mine n

pub nested_top : (side : Side) (stack : List SyncFrame) (others : List Call) (r : ReplyHead) (link : List SyncPacket) (theirs : SyncEnd) → AreNestedFrom side (sync_end stack others (reply r ∷ link)) theirs → IsForTop stack r
nested_top Parent stack others seq link theirs n = replies_are_for_top.parent stack others seq link theirs n
nested_top Child stack others seq link theirs n = replies_are_for_top.child stack others seq link theirs n

-- no last packet is on a link between open ends

pub nested-goes_on : (side : Side) (stack : List SyncFrame) (others : List Call) (link : List SyncPacket) (theirs : SyncEnd) → AreNestedFrom side (sync_end stack others link) theirs → AllByRecursion IsNoFarewell link
nested-goes_on Parent stack others link theirs n = links_tell_of_ends.to_parent stack others link theirs n
nested-goes_on Child stack others link theirs n = links_tell_of_ends.to_child stack others link theirs n

theirs-go_on : (side : Side) (mine : SyncEnd) (stack : List SyncFrame) (others : List Call) (link : List SyncPacket) → AreNestedFrom side mine (sync_end stack others link) → AllByRecursion IsNoFarewell link
theirs-go_on Parent mine stack others link n = links_tell_of_ends.to_child stack others link mine n
theirs-go_on Child mine stack others link n = links_tell_of_ends.to_parent stack others link mine n

-- what an event leaves on a link that ends in a last packet
after-ends : (schema : Schema) (happening : Event) (link : List Packet) → (after_event happening link ≡ [] → ⊥) → EndsInLastPacket link → EndsInLastPacket (after_event happening link)
after-ends schema event.deliver link h e = ends-left link h e
after-ends schema (event.send route number vs name) link h e = e
after-ends schema (event.answer by vs) link h e = e
after-ends schema (event.keep seq name) link h e = e
after-ends schema (event.name name id) link h e = e
after-ends schema event.close link h e = e
after-ends schema event.die link h e = e
after-ends schema event.take link h e = e
after-ends schema (event.return vs) link h e = e
after-ends schema event.resume link h e = e
after-ends schema event.flush link h e = e

-- A move at one side

module _ (schema : Schema) (rows : HasSoundRows schema) (side : Side) (mine theirs : End) (to_me to_them : List Packet) (is_side : mine.side ≡ side) (agree : AllByRecursion (PacketAgrees schema) to_me) (happening : Event) (output : Output) (is : step schema mine to_me happening ≡ Some output) where
  -- the packets on the link away from the end
  link-more : (sent : List SyncPacket) → sync_packets schema output.packets ≡ sent → sync_packets schema (to_them ++ output.packets) ≡ sync_packets schema to_them ++ sent
  link-more sent e = flat_map-append (sync_packet schema) to_them output.packets ∙ ap (λ (ps : List SyncPacket). sync_packets schema to_them ++ ps) e

  theirs-more : (under : List SyncFrame) (sent : List SyncPacket) → sync_packets schema output.packets ≡ sent → with_packets (sync_end_of schema theirs to_them under) sent ≡ sync_end_of schema theirs (to_them ++ output.packets) under
  theirs-more under sent e = ap (sync_end under (sync_calls theirs.arrived)) (sym (link-more sent e))

  top_both : (stack under : List SyncFrame) → AreNestedFrom side (sync_end_of schema mine to_me stack) (sync_end_of schema theirs to_them under) → ReplyIsForTop schema stack to_me
  top_both stack under n seq below e = nested_top side stack (sync_calls mine.arrived) seq below (sync_end_of schema theirs to_them under) (subst (λ (ps : List SyncPacket). AreNestedFrom side (sync_end stack (sync_calls mine.arrived) ps) (sync_end_of schema theirs to_them under)) e n)

  top_alone : (stack : List SyncFrame) → IsAlone side (sync_end_of schema mine to_me stack) → ReplyIsForTop schema stack to_me
  top_alone stack a seq below e = replies_are_for_top.alone side stack (sync_calls mine.arrived) seq below (subst (λ (ps : List SyncPacket). IsAlone side (sync_end stack (sync_calls mine.arrived) ps)) e a)

  abbrev Then : Type 0
  Then = EndsAreNested schema side output.end theirs (after_event happening to_me) (to_them ++ output.packets)

  same_end : (stack : List SyncFrame) → sync_calls output.end.arrived ≡ sync_calls mine.arrived → sync_packets schema (after_event happening to_me) ≡ sync_packets schema to_me → sync_end_of schema mine to_me stack ≡ sync_end_of schema output.end (after_event happening to_me) stack
  same_end stack a b = ap (λ (qs : List Call). sync_end stack qs (sync_packets schema to_me)) (sym a) ∙ ap (sync_end stack (sync_calls output.end.arrived)) (sym b)

  both-then : (stack under : List SyncFrame) → IsOpenEnd schema theirs under → AreNestedFrom side (sync_end_of schema mine to_me stack) (sync_end_of schema theirs to_them under) → SyncStep schema mine stack to_me (after_event happening to_me) output → Then
  both-then stack under t n (no_step h a b sent f) =
      let moved = subst (λ (x : SyncEnd). AreNestedFrom side x (sync_end_of schema theirs to_them under)) (same_end stack a b) n in
      let back : sync_end_of schema theirs to_them under ≡ sync_end_of schema theirs (to_them ++ output.packets) under = ap (sync_end under (sync_calls theirs.arrived)) (sym (link-more [] sent ∙ append-nil (sync_packets schema to_them))) in
      both_open h t (subst (AreNestedFrom side (sync_end_of schema output.end (after_event happening to_me) stack)) back moved)
  both-then stack under t n (one_step {new} h s f) =
      both_open h t (subst (AreNestedFrom side (sync_end_of schema output.end (after_event happening to_me) new)) (theirs-more under (sync_packets schema output.packets) refl)
      (nested_step side (sync_end_of schema mine to_me stack) (sync_end_of schema theirs to_them under) (sync_end_of schema output.end (after_event happening to_me) new) (sync_packets schema output.packets) n
      (subst (λ (x : Side). Step x (sync_end_of schema mine to_me stack) (sync_end_of schema output.end (after_event happening to_me) new) (sync_packets schema output.packets)) is_side s)))
  both-then stack under t n (ends over told nobody last sent f) =
      theirs_open t (record { ended = record { over = over; nobody = nobody }; told = told }) (ends-following to_them output.packets (link-goes_on schema to_them (theirs-go_on side (sync_end_of schema mine to_me stack) under (sync_calls theirs.arrived) (sync_packets schema to_them) n)) last) (subst (IsAlone (other side)) (theirs-more under (farewell ∷ []) sent) (nested_ends side (sync_end_of schema mine to_me stack) (sync_end_of schema theirs to_them under) n))
  both-then stack under t n (drains {following} d nobody nothing link) =
      let gone_on = subst (AllByRecursion IsNoFarewell) link (nested-goes_on side stack (sync_calls mine.arrived) (sync_packets schema to_me) (sync_end_of schema theirs to_them under) n) in
      absurd gone_on.0

  -- what is left on the link of an end that is alone
  left-ends : (stack : List SyncFrame) → IsAlone side (sync_end_of schema output.end (after_event happening to_me) stack) → EndsInLastPacket to_me → EndsInLastPacket (after_event happening to_me)
  left-ends stack a e = after-ends schema happening to_me (λ empty. links_tell_of_ends.alone side stack (sync_calls output.end.arrived) (sync_packets schema (after_event happening to_me)) a (ap (sync_packets schema) empty)) e

  alone-then : (stack : List SyncFrame) → IsGone theirs → EndsInLastPacket to_me → IsAlone side (sync_end_of schema mine to_me stack) → SyncStep schema mine stack to_me (after_event happening to_me) output → Then
  alone-then stack gone l n (no_step h a b sent f) =
      let moved = subst (IsAlone side) (same_end stack a b) n in
      mine_open h gone (left-ends stack moved l) moved
  alone-then stack gone l n (one_step {new} h s f) =
      let moved = alone_stays.stays side (sync_end_of schema mine to_me stack) (sync_end_of schema output.end (after_event happening to_me) new) (sync_packets schema output.packets) n
      (subst (λ (x : Side). Step x (sync_end_of schema mine to_me stack) (sync_end_of schema output.end (after_event happening to_me) new) (sync_packets schema output.packets)) is_side s) in
      mine_open h gone (left-ends new moved l) moved
  alone-then stack gone l n (ends over told nobody last sent f) = both_over (record { over = over; nobody = nobody }) gone.ended
  alone-then stack gone l n (drains d nobody nothing link) = both_over (record { over = ap is_open d; nobody = nobody }) gone.ended

  sent_nothing : StaysOver mine output → to_them ++ output.packets ≡ to_them
  sent_nothing o = ap (λ (ps : List Packet). to_them ++ ps) o.nothing ∙ append-nil to_them

  moves : EndsAreNested schema side mine theirs to_me to_them → Then
  moves (both_open {stack} {under} h t n) = both-then stack under t n (open_step schema rows mine stack to_me happening output h agree (top_both stack under n) is)
  moves (mine_open {stack} h gone l a) = alone-then stack gone l a (open_step schema rows mine stack to_me happening output h agree (top_alone stack a) is)
  moves (theirs_open {stack} t gone l a) =
      let o = ended_step schema mine gone.ended.over gone.ended.nobody to_me happening output is in
      theirs_open t (record { ended = record { over = o.over; nobody = o.nobody }; told = λ d. gone.told (o.drained d) }) (subst EndsInLastPacket (sym (sent_nothing o)) l) (subst (λ (link : List Packet). IsAlone (other side) (sync_end_of schema theirs link stack)) (sym (sent_nothing o)) a)
  moves (both_over a b) =
      let o = ended_step schema mine a.over a.nobody to_me happening output is in
      both_over (record { over = o.over; nobody = o.nobody }) b

  -- what is sent agrees
  simulated-agree : (stack : List SyncFrame) → SyncStep schema mine stack to_me (after_event happening to_me) output → AllByRecursion (PacketAgrees schema) output.packets
  simulated-agree stack (no_step h a b sent f) = f
  simulated-agree stack (one_step h s f) = f
  simulated-agree stack (ends over told nobody last sent f) = f
  simulated-agree stack (drains d nobody nothing link) = subst (AllByRecursion (PacketAgrees schema)) (sym nothing) tt

  sent-agree : EndsAreNested schema side mine theirs to_me to_them → AllByRecursion (PacketAgrees schema) output.packets
  sent-agree (both_open {stack} {under} h t n) = simulated-agree stack (open_step schema rows mine stack to_me happening output h agree (top_both stack under n) is)
  sent-agree (mine_open {stack} h gone l a) = simulated-agree stack (open_step schema rows mine stack to_me happening output h agree (top_alone stack a) is)
  sent-agree (theirs_open t gone l a) = subst (AllByRecursion (PacketAgrees schema)) (sym (ended_step schema mine gone.ended.over gone.ended.nobody to_me happening output is).nothing) tt
  sent-agree (both_over a b) = subst (AllByRecursion (PacketAgrees schema)) (sym (ended_step schema mine a.over a.nobody to_me happening output is).nothing) tt

-- The same from the other side

pub flipped : (schema : Schema) (side : Side) (a b : End) (to_a to_b : List Packet) → EndsAreNested schema side a b to_a to_b → EndsAreNested schema (other side) b a to_b to_a
flipped schema Parent a b to_a to_b (both_open h t n) = both_open t h n
flipped schema Child a b to_a to_b (both_open h t n) = both_open t h n
flipped schema Parent a b to_a to_b (mine_open h gone l n) = theirs_open h gone l n
flipped schema Child a b to_a to_b (mine_open h gone l n) = theirs_open h gone l n
flipped schema side a b to_a to_b (theirs_open h gone l n) = mine_open h gone l n
flipped schema side a b to_a to_b (both_over x y) = both_over y x

-- Moves

drop-agree : (schema : Schema) (link : List Packet) → AllByRecursion (PacketAgrees schema) link → AllByRecursion (PacketAgrees schema) (drop 1 link)
drop-agree schema [] h = tt
drop-agree schema (p ∷ link) h = h.1

after-agree : (schema : Schema) (happening : Event) (link : List Packet) → AllByRecursion (PacketAgrees schema) link → AllByRecursion (PacketAgrees schema) (after_event happening link)
after-agree schema event.deliver link h = drop-agree schema link h
after-agree schema (event.send route number vs name) link h = h
after-agree schema (event.answer by vs) link h = h
after-agree schema (event.keep seq name) link h = h
after-agree schema (event.name name id) link h = h
after-agree schema event.close link h = h
after-agree schema event.die link h = h
after-agree schema event.take link h = h
after-agree schema (event.return vs) link h = h
after-agree schema event.resume link h = h
after-agree schema event.flush link h = h

moved : (schema : Schema) (rows : HasSoundRows schema) (side : Side) (happening : Event) (w : World) (output : Output) → output_of schema w (record { side = side; event = happening }) ≡ Some output → IsNestedWorld schema w → IsNestedWorld schema (world_after (record { side = side; event = happening }) output w)
moved schema rows Parent happening w output is h = record {
  parent = (events_have_their_lines schema w.parent w.to_parent happening output is).side ∙ h.parent;
  child = h.child;
  to_parent = after-agree schema happening w.to_parent h.to_parent;
  to_child = all-append (PacketAgrees schema) w.to_child output.packets h.to_child (sent-agree schema rows Parent w.parent w.child w.to_parent w.to_child h.parent h.to_parent happening output is h.ends);
  ends = moves schema rows Parent w.parent w.child w.to_parent w.to_child h.parent h.to_parent happening output is h.ends;
}
moved schema rows Child happening w output is h =
    let from_child = flipped schema Parent w.parent w.child w.to_parent w.to_child h.ends in
    record {
      parent = h.parent;
      child = (events_have_their_lines schema w.child w.to_child happening output is).side ∙ h.child;
      to_parent = all-append (PacketAgrees schema) w.to_parent output.packets h.to_parent (sent-agree schema rows Child w.child w.parent w.to_child w.to_parent h.child h.to_child happening output is from_child);
      to_child = after-agree schema happening w.to_child h.to_child;
      ends = flipped schema Child output.end w.parent (after_event happening w.to_child) (w.to_parent ++ output.packets) (moves schema rows Child w.child w.parent w.to_child w.to_parent h.child h.to_child happening output is from_child);
    }

happens-waits : (schema : Schema) (rows : HasSoundRows schema) (move : Move) (w : World) (found : Option Output) → output_of schema w move ≡ found → IsNestedWorld schema w → IsNestedWorld schema (passed_by found move w).world
happens-waits schema rows move w None is h = h
happens-waits schema rows move w (Some output) is h = moved schema rows move.side move.event w output is h

pub run-waits : (schema : Schema) (rows : HasSoundRows schema) (moves : List Move) (w : World) → IsNestedWorld schema w → IsNestedWorld schema (run schema moves w).world
run-waits schema rows [] w h = h
run-waits schema rows (move ∷ moves) w h = run-waits schema rows moves (happens schema w move).world (happens-waits schema rows move w (output_of schema w move) refl h)

pub move-waits : (schema : Schema) (rows : HasSoundRows schema) (move : Move) (w : World) → IsNestedWorld schema w → IsNestedWorld schema (happens schema w move).world
move-waits schema rows move w h = happens-waits schema rows move w (output_of schema w move) refl h

pub opening-waits : (schema : Schema) (top : _) → IsNestedWorld schema (opening top)
opening-waits schema top = record {
  parent = refl;
  child = refl;
  to_parent = tt;
  to_child = tt;
  ends = both_open (record { state = refl; shows = no_cpow (no_answer empty); entries = tt; arrived = tt; names = tt; outbox = refl; waiting = tt }) (record { state = refl; shows = no_cpow (no_answer empty); entries = tt; arrived = tt; names = tt; outbox = refl; waiting = tt }) idle;
}
