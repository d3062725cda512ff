-- The weights of every step, at its end with the link toward it, and in its world.
use Rattle.std.proofs.Common.{◌≡◌, ℕ, ◌+◌, ◌≤◌, Bool, true, false, not, ◌&&◌, cond, List, [], ◌∷◌, ◌++◌, drop, length, map, Some, refl, sym, ap, subst, ◌∙◌, arith}
use Rattle.std.proofs.lemmas.Bool.{not-true}
use Rattle.ipdl_base.specs.declared.kinds.EndState.{EndState}
use Rattle.ipdl_base.specs.declared.kinds.Side.{Side}
use Rattle.ipdl_base.specs.declared.kinds.Side.TheVariants.{Parent, Child}
use Rattle.ipdl_base.specs.declared.line.What.{What}
use Rattle.ipdl_base.specs.declared.message.Message.{Message}
use Rattle.ipdl_base.specs.declared.schema.Schema.{Schema}
use Rattle.channel_model.specs.Ends.{End, World, Packet, end_of, link_to}
use Rattle.channel_model.specs.Events.{Event, Move}
use Rattle.channel_model.specs.Events as event
use Rattle.ipdl_base.specs.Sides.{other}
use Rattle.channel_model.specs.Outputs.{Output, is_open, line_at}
use Rattle.channel_model.specs.Parts.{OwnParts}
use Rattle.channel_model.specs.Phases.{Phase}
use Rattle.channel_model.specs.Returns as returns
use Rattle.channel_model.specs.Runs.{output_of, world_after, after_event}
use Rattle.channel_model.specs.StepLaws.{IsMadeOf, IsDeliveryOfOnePart}
use Rattle.channel_model.specs.Steps.{step, first_packet}
use Rattle.channel_model.proofs.Provided.{provided-gives}
use Rattle.channel_model.proofs.StepParts.{by-parts, steps_are_made_of_parts}
use Rattle.channel_model.proofs.Tests.{and-right}
use Rattle.channel_laws.specs.Counts.{one_if}
use Rattle.channel_laws.specs.NestedWorlds.{EndsAreNested, both_open, mine_open, theirs_open, both_over, IsOver, IsNestedWorld}
use Rattle.channel_laws.specs.Rows.{HasSoundRows}
use Rattle.channel_laws.proofs.EndedSteps.{ended_step}
use Rattle.channel_laws.proofs.EveryRun.{from-side}
use Rattle.progress_laws.specs.Acts.{happens_by_itself, tells_by_itself}
use Rattle.progress_laws.specs.Weights.{packet_weight, total, link_weight, weight, full_weight}
use Rattle.progress_laws.proofs.Heads.{flushes, Tells, BeginsWith, step-begins}
use Rattle.progress_laws.proofs.WeighedParts.{HasAgreeing, Begins, is_flush, own-parts_leave, delivery-leaves}
use Rattle.progress_laws.proofs.Weighing.{total-append, outbox-weight, end_with, nothing-kept}

-- Steps that deliver nothing

-- what happens by itself lowers the weight, and an act adds at most 6 + j
abbrev Weighs : ℕ → Bool → ℕ → ℕ → Type 0
Weighs j own before after = after + one_if own ≤ before + cond own 0 (6 + j)

begun-weighs : (k j : ℕ) (own : Bool) (side : Side) (n : ℕ) (ps : List Packet) (f : End) (q : Phase) (ws : List What) → BeginsWith (Tells own false) (map (line_at side) ws) → Begins k j n ws ps f q → Weighs j own n (total packet_weight ps + end_with k f)
begun-weighs k j own side n ps f q [] t b = absurd b
begun-weighs k j own side n ps f q (w ∷ ws) t b =
    let c : one_if (tells_by_itself w && not (is_flush w)) ≡ one_if own = ap (λ (c : Bool). one_if (c && not (is_flush w))) t.0 ∙ (ap (λ (c : Bool). one_if (own && not c)) t.1 ∙ true-right own) in
    let l : cond (tells_by_itself w) 0 (6 + j) ≡ cond own 0 (6 + j) = ap (λ (c : Bool). cond c 0 (6 + j)) t.0 in
    omega (arith, b, c, l)
  where
    true-right : (own : Bool) → one_if (own && true) ≡ one_if own
    true-right true = refl
    true-right false = refl

module _ (k j : ℕ) (two : k + j ≡ 2) (schema : Schema) (rows : HasSoundRows schema) (e : End) (agrees : HasAgreeing schema e) where
  own-weighs : (ev : Event) (output : Output) → BeginsWith (Tells (happens_by_itself ev) (flushes ev)) output.lines → flushes ev ≡ false → IsMadeOf (OwnParts schema e) e.side output → Weighs j (happens_by_itself ev) (end_with k e) (total packet_weight output.packets + end_with k output.end)
  own-weighs ev output begins none made =
      let t : BeginsWith (Tells (happens_by_itself ev) false) (map (line_at e.side) made.whats) =
      subst (λ (b : Bool). BeginsWith (Tells (happens_by_itself ev) b) (map (line_at e.side) made.whats)) none (subst (BeginsWith (Tells (happens_by_itself ev) (flushes ev))) made.lines begins) in
      begun-weighs k j (happens_by_itself ev) e.side (end_with k e) output.packets output.end made.phase made.whats t (own-parts_leave k j two schema rows e agrees made.parts)

-- an outbox that is flushed is not empty
some-out : (ms : List Message) → returns.is_empty ms ≡ false → 1 ≤ length ms
some-out [] h = cc
some-out (m ∷ ms) h = omega arith

flush-weighs : (k j : ℕ) (schema : Schema) (e : End) (link : List Packet) (output : Output) → step schema e link event.flush ≡ Some output → Weighs j true (end_with k e) (total packet_weight output.packets + end_with k output.end)
flush-weighs k j schema e link output is =
    provided-gives (λ o. Weighs j true (end_with k e) (total packet_weight o.packets + end_with k o.end)) (returns.may_flush e) returns.flush e output
    (λ may. let some = some-out e.outbox (not-true (returns.is_empty e.outbox) (and-right (is_open e.state) (not (returns.is_empty e.outbox)) may)) in omega (arith, some, outbox-weight e.outbox)) is

-- Links

link-open : (state : EndState) (link : List Packet) → is_open state ≡ true → link_weight state link ≡ total packet_weight link
link-open state link is = ap (λ (b : Bool). cond b (total packet_weight link) 0) is

link-least : (state : EndState) (link : List Packet) → link_weight state link ≤ total packet_weight link
link-least state link = by (is_open state)
  where
    by : (b : Bool) → cond b (total packet_weight link) 0 ≤ total packet_weight link
    by true = omega arith
    by false = omega arith

-- no end opens, so a link toward an end never begins to weigh
link-stays : (before after : EndState) (link : List Packet) → (is_open before ≡ false → is_open after ≡ false) → link_weight after link ≤ link_weight before link
link-stays before after link stays = by (is_open before) refl
  where
    by : (b : Bool) → is_open before ≡ b → link_weight after link ≤ link_weight before link
    by true is = let k = link-open before link is in let l = link-least after link in omega (arith, k, l)
    by false is = let k : link_weight after link ≡ 0 = ap (λ (b : Bool). cond b (total packet_weight link) 0) (stays is) in omega (arith, k)

-- packets are put on a link
link-more : (state : EndState) (link packets : List Packet) → link_weight state (link ++ packets) ≤ link_weight state link + total packet_weight packets
link-more state link packets = by (is_open state)
  where
    by : (b : Bool) → cond b (total packet_weight (link ++ packets)) 0 ≤ cond b (total packet_weight link) 0 + total packet_weight packets
    by true = omega (arith, total-append packet_weight link packets)
    by false = omega arith

first-weight : (link : List Packet) (packet : Packet) → first_packet link ≡ Some packet → total packet_weight link ≡ packet_weight packet + total packet_weight (drop 1 link)
first-weight [] packet is = cc
first-weight (p ∷ ps) packet is = let k : p ≡ packet = cc in ap (λ (x : Packet). packet_weight x + total packet_weight ps) k

-- Ends with their links

abbrev EndWeighs : ℕ → ℕ → End → List Packet → Event → Output → Type 0
EndWeighs k j e link ev output = Weighs j (happens_by_itself ev) (end_with k e + link_weight e.state link) (total packet_weight output.packets + (end_with k output.end + link_weight output.end.state (after_event ev link)))

abbrev StaysOverThere : End → Output → Type 0
StaysOverThere e output = is_open e.state ≡ false → is_open output.end.state ≡ false

module _ (k j : ℕ) (two : k + j ≡ 2) (schema : Schema) (rows : HasSoundRows schema) (e : End) (link : List Packet) (agrees : HasAgreeing schema e) where
  delivered-weighs : (output : Output) → IsDeliveryOfOnePart schema e link output → EndWeighs k j e link event.deliver output
  delivered-weighs output (packet, first, opened, made) =
      let d = delivery-leaves k made.parts in
      let w = first-weight link packet first in
      let o = link-open e.state link opened in
      let l = link-least output.end.state (drop 1 link) in
      omega (arith, d, w, o, l)

  left-weighs : (own : Bool) (output : Output) → StaysOverThere e output → Weighs j own (end_with k e) (total packet_weight output.packets + end_with k output.end) → Weighs j own (end_with k e + link_weight e.state link) (total packet_weight output.packets + (end_with k output.end + link_weight output.end.state link))
  left-weighs own output stays h = let l = link-stays e.state output.end.state link stays in omega (arith, h, l)

  pub step-weighs : (ev : Event) (output : Output) → step schema e link ev ≡ Some output → StaysOverThere e output → EndWeighs k j e link ev output
  step-weighs ev output is stays = by ev refl
    where
      deliver-weighs : step schema e link event.deliver ≡ Some output → EndWeighs k j e link event.deliver output
      deliver-weighs is = delivered-weighs output (steps_are_made_of_parts schema e link event.deliver output is)

      own : (at : Event) → flushes at ≡ false → step schema e link at ≡ Some output → (at ≡ event.deliver → ⊥) → Weighs j (happens_by_itself at) (end_with k e + link_weight e.state link) (total packet_weight output.packets + (end_with k output.end + link_weight output.end.state link))
      own at none is other = left-weighs (happens_by_itself at) output stays (by-parts schema e link at output (Weighs j (happens_by_itself at) (end_with k e) (total packet_weight output.packets + end_with k output.end)) is
          (λ made. own-weighs k j two schema rows e agrees at output (step-begins schema e link at output is) none made) (λ same made. absurd (other same)))

      by : (at : Event) → ev ≡ at → EndWeighs k j e link at output
      by event.deliver same = deliver-weighs (subst (λ (x : Event). step schema e link x ≡ Some output) same is)
      by (event.send route number vs name) same = own (event.send route number vs name) refl (subst (λ (x : Event). step schema e link x ≡ Some output) same is) (λ same. cc)
      by (event.answer way vs) same = own (event.answer way vs) refl (subst (λ (x : Event). step schema e link x ≡ Some output) same is) (λ same. cc)
      by (event.keep seq name) same = own (event.keep seq name) refl (subst (λ (x : Event). step schema e link x ≡ Some output) same is) (λ same. cc)
      by (event.name name id) same = own (event.name name id) refl (subst (λ (x : Event). step schema e link x ≡ Some output) same is) (λ same. cc)
      by event.close same = own event.close refl (subst (λ (x : Event). step schema e link x ≡ Some output) same is) (λ same. cc)
      by event.die same = own event.die refl (subst (λ (x : Event). step schema e link x ≡ Some output) same is) (λ same. cc)
      by event.take same = own event.take refl (subst (λ (x : Event). step schema e link x ≡ Some output) same is) (λ same. cc)
      by (event.return vs) same = own (event.return vs) refl (subst (λ (x : Event). step schema e link x ≡ Some output) same is) (λ same. cc)
      by event.resume same = own event.resume refl (subst (λ (x : Event). step schema e link x ≡ Some output) same is) (λ same. cc)
      by event.flush same = left-weighs true output stays (flush-weighs k j schema e link output (subst (λ (x : Event). step schema e link x ≡ Some output) same is))

-- Worlds

module _ (schema : Schema) (mine theirs : End) (to_me to_them : List Packet) (side : Side) where
  open-entries : EndsAreNested schema side mine theirs to_me to_them → HasAgreeing schema mine
  open-entries (both_open a b n) is = a.entries
  open-entries (mine_open a gone l n) is = a.entries
  open-entries (theirs_open a gone l n) is = let k : true ≡ false = sym is ∙ gone.ended.over in cc
  open-entries (both_over a b) is = let k : true ≡ false = sym is ∙ a.over in cc

  over-nobody : EndsAreNested schema side mine theirs to_me to_them → is_open mine.state ≡ false → IsOver mine
  over-nobody (both_open a b n) is = let k : true ≡ false = sym (ap is_open a.state) ∙ is in cc
  over-nobody (mine_open a gone l n) is = let k : true ≡ false = sym (ap is_open a.state) ∙ is in cc
  over-nobody (theirs_open a gone l n) is = gone.ended
  over-nobody (both_over a b) is = a

-- an end that is not open stays so
pub move-stays_over : (schema : Schema) (move : Move) (w : World) (output : Output) → output_of schema w move ≡ Some output → IsNestedWorld schema w → StaysOverThere (end_of move.side w) output
move-stays_over schema move w output is nested shut =
    let e : End = end_of move.side w in
    let link : List Packet = link_to move.side w in
    let over = over-nobody schema e (end_of (other move.side) w) link (link_to (other move.side) w) move.side (from-side schema move.side w nested) shut in
    (ended_step schema e over.over over.nobody link move.event output is).over

-- a world with its kept resolvers, each at a weight
abbrev pub world_with : ℕ → World → ℕ
world_with k w = (end_with k w.parent + link_weight w.parent.state w.to_parent) + (end_with k w.child + link_weight w.child.state w.to_child)

module _ (k j : ℕ) (two : k + j ≡ 2) (schema : Schema) (rows : HasSoundRows schema) where
  end-weighs : (move : Move) (w : World) (output : Output) → output_of schema w move ≡ Some output → IsNestedWorld schema w → EndWeighs k j (end_of move.side w) (link_to move.side w) move.event output
  end-weighs move w output is nested =
      let e : End = end_of move.side w in
      let link : List Packet = link_to move.side w in
      let n : EndsAreNested schema move.side e (end_of (other move.side) w) link (link_to (other move.side) w) = from-side schema move.side w nested in
      step-weighs k j two schema rows e link (open-entries schema e (end_of (other move.side) w) link (link_to (other move.side) w) move.side n) move.event output is (move-stays_over schema move w output is nested)

  world-weighs : (move : Move) (w : World) (output : Output) → output_of schema w move ≡ Some output → IsNestedWorld schema w → world_with k (world_after move output w) + one_if (happens_by_itself move.event) ≤ world_with k w + cond (happens_by_itself move.event) 0 (6 + j)
  world-weighs move w output is nested = by move.side (end-weighs move w output is nested)
    where
      by : (side : Side) → EndWeighs k j (end_of side w) (link_to side w) move.event output
          → world_with k (world_after (record { side = side; event = move.event }) output w) + one_if (happens_by_itself move.event) ≤ world_with k w + cond (happens_by_itself move.event) 0 (6 + j)
      by Parent h = omega (arith, h, link-more w.child.state w.to_child output.packets)
      by Child h = omega (arith, h, link-more w.parent.state w.to_parent output.packets)

module _ (schema : Schema) (rows : HasSoundRows schema) where
  -- What happens by itself lowers the weight of a world, and an act adds at most 8.
  pub move-weighs : (move : Move) (w : World) (output : Output) → output_of schema w move ≡ Some output → IsNestedWorld schema w → weight (world_after move output w) + one_if (happens_by_itself move.event) ≤ weight w + cond (happens_by_itself move.event) 0 8
  move-weighs move w output is nested =
      let h = world-weighs 0 2 refl schema rows move w output is nested in
      let next : World = world_after move output w in
      omega (arith, h, nothing-kept w.parent.names, nothing-kept w.child.names, nothing-kept next.parent.names, nothing-kept next.child.names)

  -- The same with the full weight, to which an act adds at most 6.
  pub move-weighs_fully : (move : Move) (w : World) (output : Output) → output_of schema w move ≡ Some output → IsNestedWorld schema w → full_weight (world_after move output w) + one_if (happens_by_itself move.event) ≤ full_weight w + cond (happens_by_itself move.event) 0 6
  move-weighs_fully move w output is nested = let h = world-weighs 2 0 refl schema rows move w output is nested in omega (arith, h)
