-- The lines of every run of a script are plain.
use Rattle.std.proofs.Common.{◌≡◌, ℕ, Bool, true, false, if◌then◌else◌, List, [], ◌∷◌, Some, None, refl, sym, subst}
use Rattle.std.specs.List.{AllByRecursion}
use Rattle.ipdl_base.specs.declared.kinds.Side.{Side}
use Rattle.ipdl_base.specs.declared.kinds.Side.TheVariants as sides
use Rattle.channel_model.specs.Ends.{Packet, World, end_of, link_to, opening_end}
use Rattle.channel_model.specs.Events.{Event}
use Rattle.channel_model.specs.Events as event
use Rattle.channel_model.specs.Outputs.{Output}
use Rattle.channel_model.specs.Runs.{RunState, after_event, world_after}
use Rattle.channel_model.proofs.FittingEnds.{all-drop}
use Rattle.channel_model.proofs.Known.{all-append}
use Rattle.script_steps.specs.Choices.{Choice, Setting, beginning_of, may_deliver, own_event, played}
use Rattle.script_steps.specs.Progress.{progress_of}
use Rattle.script_steps.proofs.Choosing.{Happens, choice-happens}
use Rattle.script_steps.proofs.Playing.{Chooses, PlaysOn, chooses, plays_on}
use Rattle.plain_runs.specs.Laws.{ScriptLinesArePlain}
use Rattle.plain_runs.specs.PlainEnds.{ArePlainLines, IsPlainEnd, IsPlainEvent, IsPlainOutput, IsPlainPacket}
use Rattle.plain_runs.proofs.Events.{own-plain}
use Rattle.plain_runs.proofs.Parts.{lines-append}
use Rattle.plain_runs.proofs.Steps.{steps_stay_plain}

-- both ends are plain, and what is on the links
record IsPlainWorld (world : World) : Type 0 where
  parent : IsPlainEnd world.parent
  child : IsPlainEnd world.child
  to_parent : AllByRecursion IsPlainPacket world.to_parent
  to_child : AllByRecursion IsPlainPacket world.to_child

-- a world is plain, and the lines that led to it
record IsPlainRun (state : RunState) : Type 0 where
  world : IsPlainWorld state.world
  lines : ArePlainLines state.lines

end-plain : (side : Side) (world : World) → IsPlainWorld world → IsPlainEnd (end_of side world)
end-plain sides.Parent world h = h.parent
end-plain sides.Child world h = h.child

link-plain : (side : Side) (world : World) → IsPlainWorld world → AllByRecursion IsPlainPacket (link_to side world)
link-plain sides.Parent world h = h.to_parent
link-plain sides.Child world h = h.to_child

left-plain : (event : Event) (link : List Packet) → AllByRecursion IsPlainPacket link → AllByRecursion IsPlainPacket (after_event event link)
left-plain event.deliver link h = all-drop IsPlainPacket link h
left-plain _ link h = h

after-plain : (side : Side) (event : Event) (output : Output) (world : World) → IsPlainOutput output → IsPlainWorld world → IsPlainWorld (world_after (record { side = side; event = event }) output world)
after-plain sides.Parent event output world h k = record {
  parent = h.end;
  child = k.child;
  to_parent = left-plain event world.to_parent k.to_parent;
  to_child = all-append IsPlainPacket world.to_child output.packets k.to_child h.packets;
}
after-plain sides.Child event output world h k = record {
  parent = k.parent;
  child = h.end;
  to_parent = all-append IsPlainPacket world.to_parent output.packets k.to_parent h.packets;
  to_child = left-plain event world.to_child k.to_child;
}

choice-plain : (setting : Setting) (side : Side) (state : RunState) (x : Event) (delivers : Bool) → (if delivers then (if may_deliver side state.world then Some event.deliver else None) else own_event setting side state) ≡ Some x → IsPlainEvent x
choice-plain setting side state x false is = own-plain setting.script setting.stop (end_of side state.world) (progress_of side state.lines) x is
choice-plain setting side state x true is = by (may_deliver side state.world) is
  where
    by : (b : Bool) → (if b then Some event.deliver else None) ≡ Some x → IsPlainEvent x
    by true k = let same : event.deliver ≡ x = cc in subst IsPlainEvent same tt
    by false k = cc

next-plain : (setting : Setting) (choice : Choice) (state next : RunState) → Chooses setting choice state next → IsPlainRun state → IsPlainRun next
next-plain setting choice state next c h =
    let happened : Happens setting choice.side state c.event next = choice-happens setting choice state next c in
    let made : IsPlainOutput happened.output =
    steps_stay_plain setting.schema (end_of choice.side state.world) (link_to choice.side state.world) c.event happened.output happened.is
    (end-plain choice.side state.world h.world) (link-plain choice.side state.world h.world) (choice-plain setting choice.side state c.event choice.delivers c.has)
    in
    record {
      world = subst IsPlainWorld (sym happened.world) (after-plain choice.side c.event happened.output state.world made h.world);
      lines = subst ArePlainLines (sym happened.lines) (lines-append state.lines happened.output.lines h.lines made.lines);
    }

all-plain : (setting : Setting) (choices : List Choice) (from last : RunState) → played setting choices from ≡ Some last → IsPlainRun from → IsPlainRun last
all-plain setting [] from last is h =
    let same : from ≡ last = cc in
    subst IsPlainRun same h
all-plain setting (choice ∷ more) from last is h =
    let p : PlaysOn setting choice more from last = plays_on setting choice more from last is in
    all-plain setting more p.next last p.rest (next-plain setting choice from p.next (chooses setting choice from p.next p.first) h)

pub opening-plain : (protocol : ℕ) (side : Side) → IsPlainEnd (opening_end protocol side)
opening-plain protocol side = record { arrived = tt; stack = tt; promises = tt; outbox = tt }

pub script_lines_are_plain : ScriptLinesArePlain
script_lines_are_plain setting choices state is =
    (all-plain setting choices (beginning_of setting) state is (record {
      world = record {
        parent = opening-plain setting.script.top sides.Parent;
        child = opening-plain setting.script.top sides.Child;
        to_parent = tt;
        to_child = tt;
      };
      lines = refl;
    })).lines
