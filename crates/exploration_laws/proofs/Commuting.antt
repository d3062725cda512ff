-- A choice of each side, both possible in one state: each is possible after the other, and both orders lead to states that
-- are alike.
use Rattle.std.proofs.Common.{◌≡◌, Bool, true, false, ◌&&◌, cond, if◌then◌else◌, nat_lt, List, [], ◌∷◌, ◌++◌, map, Option, Some, None, is_some, refl, sym, ap, subst, ◌∙◌}
use Rattle.std.specs.Prelude.{option_and_then}
use Rattle.std.proofs.lemmas.List.{append-nil}
use Rattle.ipdl_base.specs.declared.kinds.Side.{Side}
use Rattle.ipdl_base.specs.declared.kinds.Side.TheVariants as sides
use Rattle.ipdl_base.specs.declared.line.Line.{Line}
use Rattle.ipdl_base.specs.declared.line.What.{What}
use Rattle.ipdl_base.specs.declared.schema.Schema.{Schema}
use Rattle.ipdl_base.specs.Lines.{same_side}
use Rattle.ipdl_base.specs.Sides.{other}
use Rattle.channel_model.specs.Deliveries.{deliver}
use Rattle.channel_model.specs.Ends.{End, Packet, World, end_of, link_to}
use Rattle.channel_model.specs.Events.{Event}
use Rattle.channel_model.specs.Events as event
use Rattle.channel_model.specs.Outputs.{Output, is_open, line_at}
use Rattle.channel_model.specs.Runs.{RunState, after_event, output_of, passed_by, world_after}
use Rattle.channel_model.specs.Steps.{first_packet, provided, step}
use Rattle.script_steps.specs.Choices.{Choice, Setting, chosen, may_deliver, own_event}
use Rattle.script_steps.specs.NextEvent.{next_event}
use Rattle.script_steps.specs.Progress.{Progress, after_lines, lines_of, no_progress, progress_of}
use Rattle.script_steps.proofs.Choosing.{Happens, HaveSides, choice-happens, side-of}
use Rattle.script_steps.proofs.Counting.{lines_of-append, lines_of-own}
use Rattle.script_steps.proofs.Playing.{Chooses, chooses}
use Rattle.script_steps.proofs.StepLines.{Prints, step-prints}
use Rattle.exploration_laws.proofs.Alike.{SameSides, chosen-by}

-- The first packet of a link

-- the first packet of one link is first on the other
abbrev StaysFirst : List Packet → List Packet → Type 0
StaysFirst one two = (packet : Packet) → first_packet one ≡ Some packet → first_packet two ≡ Some packet

stays-first : (link more : List Packet) → StaysFirst link (link ++ more)
stays-first [] more packet h = cc
stays-first (first ∷ rest) more packet h = h

-- what an event makes depends on no other packet
step-there : (schema : Schema) (e : End) (one two : List Packet) (happened : Event) (output : Output) → StaysFirst one two → step schema e one happened ≡ Some output → step schema e two happened ≡ Some output
step-there schema e one two event.deliver output still h = by (first_packet one) refl h
  where
    by : (found : Option Packet) → first_packet one ≡ found → option_and_then (λ packet. provided (is_open e.state) (deliver schema packet) e) found ≡ Some output → step schema e two event.deliver ≡ Some output
    by None is k = cc
    by (Some packet) is k = ap (option_and_then (λ packet. provided (is_open e.state) (deliver schema packet) e)) (still packet is) ∙ k
step-there schema e one two (event.send route number vs name) output still h = h
step-there schema e one two (event.answer by vs) output still h = h
step-there schema e one two (event.keep seq name) output still h = h
step-there schema e one two (event.name name id) output still h = h
step-there schema e one two event.close output still h = h
step-there schema e one two event.die output still h = h
step-there schema e one two event.take output still h = h
step-there schema e one two (event.return vs) output still h = h
step-there schema e one two event.resume output still h = h
step-there schema e one two event.flush output still h = h

-- and it takes its packet from the link, whatever is added at the end
after-added : (schema : Schema) (e : End) (link more : List Packet) (happened : Event) (output : Output) → step schema e link happened ≡ Some output → after_event happened (link ++ more) ≡ after_event happened link ++ more
after-added schema e [] more event.deliver output h = cc
after-added schema e (packet ∷ rest) more event.deliver output h = refl
after-added schema e link more (event.send route number vs name) output h = refl
after-added schema e link more (event.answer by vs) output h = refl
after-added schema e link more (event.keep seq name) output h = refl
after-added schema e link more (event.name name id) output h = refl
after-added schema e link more event.close output h = refl
after-added schema e link more event.die output h = refl
after-added schema e link more event.take output h = refl
after-added schema e link more (event.return vs) output h = refl
after-added schema e link more event.resume output h = refl
after-added schema e link more event.flush output h = refl

-- The state after an event with this output
abbrev made_of : Side → Event → Output → RunState → RunState
made_of side happened output state = record { world = world_after (record { side = side; event = happened }) output state.world; lines = state.lines ++ output.lines }

-- A state in which a side has the same end and lines, and the same packet is first on the link to it. A choice that is
-- possible is possible there too, with the same output.
record IsThere (side : Side) (state later : RunState) : Type 0 where
  end : end_of side later.world ≡ end_of side state.world
  lines : lines_of side later.lines ≡ lines_of side state.lines
  link : StaysFirst (link_to side state.world) (link_to side later.world)

module _ (setting : Setting) (choice : Choice) (state later : RunState) (there : IsThere choice.side state later) where
  progress-there : progress_of choice.side later.lines ≡ progress_of choice.side state.lines
  progress-there = ap (after_lines no_progress) there.lines

  may-by : (opened : Bool) (found : Option Packet) → is_open (end_of choice.side state.world).state ≡ opened → first_packet (link_to choice.side state.world) ≡ found → (opened && is_some found) ≡ true → may_deliver choice.side later.world ≡ true
  may-by true (Some packet) o f h =
      ap (λ (e : End). is_open e.state && is_some (first_packet (link_to choice.side later.world))) there.end ∙ ap (λ (b : Bool). b && is_some (first_packet (link_to choice.side later.world))) o ∙ ap is_some (there.link packet f)
  may-by true None o f h = cc
  may-by false found o f h = cc

  may-there : (may : Bool) (happened : Event) → may_deliver choice.side state.world ≡ may → (if may then Some event.deliver else None) ≡ Some happened → (if may_deliver choice.side later.world then Some event.deliver else None) ≡ Some happened
  may-there true happened is h =
      ap (λ (b : Bool). if b then Some event.deliver else None) (may-by (is_open (end_of choice.side state.world).state) (first_packet (link_to choice.side state.world)) refl refl is) ∙ h
  may-there false happened is h = cc

  own-there : own_event setting choice.side later ≡ own_event setting choice.side state
  own-there =
      ap (λ (e : End). next_event setting.script setting.stop e (progress_of choice.side later.lines)) there.end
      ∙ ap (λ (p : Progress). next_event setting.script setting.stop (end_of choice.side state.world) p) progress-there

  event-by : (delivers : Bool) (happened : Event) → (if delivers then (if may_deliver choice.side state.world then Some event.deliver else None) else own_event setting choice.side state) ≡ Some happened
      → (if delivers then (if may_deliver choice.side later.world then Some event.deliver else None) else own_event setting choice.side later) ≡ Some happened
  event-by true happened h = may-there (may_deliver choice.side state.world) happened refl h
  event-by false happened h = own-there ∙ h

  chosen-there : (next : RunState) (c : Chooses setting choice state next) (made : Happens setting choice.side state c.event next) → chosen setting choice later ≡ Some (made_of choice.side c.event made.output later)
  chosen-there next c made =
      let so : output_of setting.schema later.world (record { side = choice.side; event = c.event }) ≡ Some made.output =
      step-there setting.schema (end_of choice.side later.world) (link_to choice.side state.world) (link_to choice.side later.world) c.event made.output there.link
      (ap (λ (e : End). step setting.schema e (link_to choice.side state.world) c.event) there.end ∙ made.is)
      in
      chosen-by setting choice later c.event (ap (λ (p : Progress). nat_lt p.events setting.limit) progress-there ∙ c.within) (event-by choice.delivers c.event c.has) (ap is_some so)
      ∙ ap (λ (found : Option Output). Some (let made : RunState = passed_by found (record { side = choice.side; event = c.event }) later.world in record { world = made.world; lines = later.lines ++ made.lines })) so

-- The state after a choice of the other side is one

-- lines of one side are no lines of the other
lines-apart : (side : Side) (before : List Line) (ws : List What) → same_side side (other side) ≡ false → lines_of (other side) (before ++ map (line_at side) ws) ≡ lines_of (other side) before
lines-apart side before ws apart =
    lines_of-append (other side) before (map (line_at side) ws) ∙ ap (λ vs. lines_of (other side) before ++ vs) (lines_of-own side (other side) ws ∙ ap (λ b. cond b ws []) apart) ∙ append-nil (lines_of (other side) before)

there-made : (side : Side) (state : RunState) (happened : Event) (output : Output) (ws : List What) → output.lines ≡ map (line_at side) ws → IsThere (other side) state (made_of side happened output state)
there-made sides.Parent state happened output ws printed = record {
  end = refl;
  lines = ap (λ (ls : List Line). lines_of sides.Child (state.lines ++ ls)) printed ∙ lines-apart sides.Parent state.lines ws refl;
  link = stays-first state.world.to_child output.packets;
}
there-made sides.Child state happened output ws printed = record {
  end = refl;
  lines = ap (λ (ls : List Line). lines_of sides.Parent (state.lines ++ ls)) printed ∙ lines-apart sides.Child state.lines ws refl;
  link = stays-first state.world.to_parent output.packets;
}

-- What is known of a choice that is possible: its output, whose lines are its side's.
record Makes (setting : Setting) (side : Side) (state next : RunState) : Type 0 where
  event : Event
  output : Output
  is : output_of setting.schema state.world (record { side = side; event = event }) ≡ Some output
  leads_to : next ≡ made_of side event output state
  whats : List What
  printed : output.lines ≡ map (line_at side) whats

made-by : (state : RunState) (side : Side) (happened : Event) (output : Output) (next : RunState) → next.world ≡ world_after (record { side = side; event = happened }) output state.world → next.lines ≡ state.lines ++ output.lines
    → next ≡ made_of side happened output state
made-by state side happened output next world lines =
    ap (λ (w : World). record next { world = w }) world ∙ ap (λ (ls : List Line). record { world = world_after (record { side = side; event = happened }) output state.world; lines = ls }) lines

makes : (setting : Setting) (choice : Choice) (state next : RunState) (c : Chooses setting choice state next) → Happens setting choice.side state c.event next → HaveSides state.world → Makes setting choice.side state next
makes setting choice state next c h sided =
    let e : End = end_of choice.side state.world in
    let p : Prints e c.event h.output = step-prints setting.schema e (link_to choice.side state.world) c.event h.output h.is in
    record {
      event = c.event;
      output = h.output;
      is = h.is;
      leads_to = made-by state choice.side c.event h.output next h.world h.lines;
      whats = p.first ∷ p.rest;
      printed = p.lines ∙ ap (λ (s : Side). map (line_at s) (p.first ∷ p.rest)) (side-of state.world choice.side sided);
    }

there-after : (setting : Setting) (side : Side) (state next : RunState) → Makes setting side state next → IsThere (other side) state next
there-after setting side state next m = subst (IsThere (other side) state) (sym m.leads_to) (there-made side state m.event m.output m.whats m.printed)

there-before : (setting : Setting) (side : Side) (state next : RunState) → Makes setting (other side) state next → IsThere side state next
there-before setting sides.Parent state next m = there-after setting sides.Child state next m
there-before setting sides.Child state next m = there-after setting sides.Parent state next m

-- Both orders lead to the same world

module _ (schema : Schema) (world : World) (x y : Event) (o p : Output) where
  parent-first : output_of schema world (record { side = sides.Parent; event = x }) ≡ Some o → output_of schema world (record { side = sides.Child; event = y }) ≡ Some p
      → world_after (record { side = sides.Child; event = y }) p (world_after (record { side = sides.Parent; event = x }) o world) ≡ world_after (record { side = sides.Parent; event = x }) o (world_after (record { side = sides.Child; event = y }) p world)
  parent-first h k =
      ap (λ (ps : List Packet). record { parent = o.end; child = p.end; to_parent = ps; to_child = after_event y (world.to_child ++ o.packets) }) (sym (after-added schema world.parent world.to_parent p.packets x o h))
      ∙ ap (λ (ps : List Packet). record { parent = o.end; child = p.end; to_parent = after_event x (world.to_parent ++ p.packets); to_child = ps }) (after-added schema world.child world.to_child o.packets y p k)

worlds-commute : (schema : Schema) (side : Side) (world : World) (x y : Event) (o p : Output) → output_of schema world (record { side = side; event = x }) ≡ Some o → output_of schema world (record { side = other side; event = y }) ≡ Some p
    → world_after (record { side = other side; event = y }) p (world_after (record { side = side; event = x }) o world) ≡ world_after (record { side = side; event = x }) o (world_after (record { side = other side; event = y }) p world)
worlds-commute schema sides.Parent world x y o p h k = parent-first schema world x y o p h k
worlds-commute schema sides.Child world x y o p h k = sym (parent-first schema world y x p o k h)

-- and to the same lines of each side

lines-commute : (side : Side) (before : List Line) (ws vs : List What) (s : Side)
    → lines_of s ((before ++ map (line_at side) ws) ++ map (line_at (other side)) vs) ≡ lines_of s ((before ++ map (line_at (other side)) vs) ++ map (line_at side) ws)
lines-commute side before ws vs s =
    two (map (line_at side) ws) (map (line_at (other side)) vs) ∙ ap (λ us. (lines_of s before ++ us) ++ lines_of s (map (line_at (other side)) vs)) (lines_of-own side s ws)
    ∙ ap (λ us. (lines_of s before ++ cond (same_side side s) ws []) ++ us) (lines_of-own (other side) s vs) ∙ swapped side s
    ∙ ap (λ us. (lines_of s before ++ us) ++ cond (same_side side s) ws []) (sym (lines_of-own (other side) s vs))
    ∙ ap (λ us. (lines_of s before ++ lines_of s (map (line_at (other side)) vs)) ++ us) (sym (lines_of-own side s ws)) ∙ sym (two (map (line_at (other side)) vs) (map (line_at side) ws))
  where
    two : (first second : List Line) → lines_of s ((before ++ first) ++ second) ≡ (lines_of s before ++ lines_of s first) ++ lines_of s second
    two first second = lines_of-append s (before ++ first) second ∙ ap (λ us. us ++ lines_of s second) (lines_of-append s before first)

    first-alone : (us : List What) → (lines_of s before ++ us) ++ [] ≡ (lines_of s before ++ []) ++ us
    first-alone us = append-nil (lines_of s before ++ us) ∙ ap (λ bs. bs ++ us) (sym (append-nil (lines_of s before)))

    swapped : (side s' : Side) → (lines_of s before ++ cond (same_side side s') ws []) ++ cond (same_side (other side) s') vs [] ≡ (lines_of s before ++ cond (same_side (other side) s') vs []) ++ cond (same_side side s') ws []
    swapped sides.Parent sides.Parent = first-alone ws
    swapped sides.Parent sides.Child = sym (first-alone vs)
    swapped sides.Child sides.Parent = sym (first-alone vs)
    swapped sides.Child sides.Child = first-alone ws

-- The two orders

-- After the first choice the second is possible, and after the second the first; both lead to states that are alike.
pub record Commutes (setting : Setting) (first second : Choice) (one two : RunState) : Type 0 where
  pub second_last : RunState
  pub first_last : RunState
  pub second_after : chosen setting second one ≡ Some second_last
  pub first_after : chosen setting first two ≡ Some first_last
  pub alike : SameSides first_last second_last

module _ (setting : Setting) (side : Side) (delivers delivers_other : Bool) (state one two : RunState) where
  abbrev first : Choice
  first = record { side = side; delivers = delivers }

  abbrev second : Choice
  second = record { side = other side; delivers = delivers_other }

  made-commute : (m : Makes setting side state one) (k : Makes setting (other side) state two) → SameSides (made_of side m.event m.output two) (made_of (other side) k.event k.output one)
  made-commute m k = record {
    world =
        ap (λ (s : RunState). world_after (record { side = side; event = m.event }) m.output s.world) k.leads_to ∙ sym (worlds-commute setting.schema side state.world m.event k.event m.output k.output m.is k.is)
        ∙ ap (λ (s : RunState). world_after (record { side = other side; event = k.event }) k.output s.world) (sym m.leads_to);
    lines = λ s.
        ap (λ (t : RunState). lines_of s (t.lines ++ m.output.lines)) k.leads_to ∙ ap (λ (ls : List Line). lines_of s ((state.lines ++ ls) ++ m.output.lines)) k.printed
        ∙ ap (λ (ls : List Line). lines_of s ((state.lines ++ map (line_at (other side)) k.whats) ++ ls)) m.printed ∙ sym (lines-commute side state.lines m.whats k.whats s)
        ∙ ap (λ (ls : List Line). lines_of s ((state.lines ++ ls) ++ map (line_at (other side)) k.whats)) (sym m.printed)
        ∙ ap (λ (ls : List Line). lines_of s ((state.lines ++ m.output.lines) ++ ls)) (sym k.printed) ∙ ap (λ (t : RunState). lines_of s (t.lines ++ k.output.lines)) (sym m.leads_to);
  }

  pub choices-commute : HaveSides state.world → chosen setting first state ≡ Some one → chosen setting second state ≡ Some two → Commutes setting first second one two
  unfolding makes
  choices-commute sided h k =
      let c : Chooses setting first state one = chooses setting first state one h in
      let d : Chooses setting second state two = chooses setting second state two k in
      let c_made : Happens setting side state c.event one = choice-happens setting first state one c in
      let d_made : Happens setting (other side) state d.event two = choice-happens setting second state two d in
      let m : Makes setting side state one = makes setting first state one c c_made sided in
      let n : Makes setting (other side) state two = makes setting second state two d d_made sided in
      record {
        second_last = made_of (other side) d.event d_made.output one;
        first_last = made_of side c.event c_made.output two;
        second_after = chosen-there setting second state one (there-after setting side state one m) two d d_made;
        first_after = chosen-there setting first state two (there-before setting side state two n) one c c_made;
        alike = made-commute m n;
      }
