-- A choice of a run that a half has carried out: the half, the link and the run after it.
use Rattle.std.proofs.Common.{◌≡◌, ℕ, suc, ◌+◌, ◌*◌, ◌≤◌, Bool, true, false, cond, if◌then◌else◌, List, [], ◌∷◌, ◌++◌, drop, length, map, Option, Some, None, is_some, option_and_then, refl, sym, ap, subst, ◌∙◌, arith, length-append}
use Rattle.std.specs.List.{AllByRecursion}
use Rattle.std.specs.Option.{option_map_or}
use Rattle.std.proofs.lemmas.List.{map-append, length-map}
use Rattle.ipdl_base.specs.declared.kinds.Side.{Side}
use Rattle.ipdl_base.specs.declared.kinds.Side.TheVariants as sides
use Rattle.ipdl_base.specs.declared.line.Line.{Line}
use Rattle.ipdl_base.specs.declared.line.What.{What}
use Rattle.ipdl_base.specs.Lines.{same_side}
use Rattle.ipdl_base.specs.Sound.{IsSound}
use Rattle.ipdl_base.specs.declared.schema.Schema.{Schema}
use Rattle.channel_model.specs.Ends.{end_of, link_to}
use Rattle.channel_model.specs.Ends as model
use Rattle.channel_model.specs.Events.{Event}
use Rattle.channel_model.specs.Events as e
use Rattle.ipdl_base.specs.Sides.{other}
use Rattle.channel_model.specs.Outputs.{Output, line_at}
use Rattle.channel_model.specs.Runs.{RunState, after_event, passed_by, world_after}
use Rattle.channel_model.specs.Steps.{step}
use Rattle.channel_core.specs.EndView.{EndView, IsFramed, packet_of, packets_of}
use Rattle.end_parts.specs.declared.packet.Packet.{Packet}
use Rattle.script_runs.proofs.CaseRuns.{played-last}
use Rattle.script_runs.proofs.Room.{cases_have_room}
use Rattle.script_steps.proofs.Choosing.{side-of}
use Rattle.script_steps.proofs.Counting.{lines_of-own, progress-append}
use Rattle.script_steps.proofs.StepLines.{Prints, step-prints}
use Rattle.script_steps.specs.Choices.{Choice, Setting, following_event, beginning_of, chosen, event_by, is_doable, is_within, played}
use Rattle.script_steps.specs.Turns.{led_to}
use Rattle.script_steps.specs.Progress.{Progress, after_lines, lines_of, progress_of}
use Rattle.world_core.proofs.Chosen.{run-sides}
use Rattle.world_core.proofs.StepProgress.{whats-at}
use Rattle.world_core.specs.HalfSteps.{IsHalfStep}
use Rattle.world_core.specs.HalfView.{HalfView, IsCountedBy, appended, setting_of, whats_of}
use Rattle.world_core.specs.LinkView.{IsAppended, LinkHasRoom, LinkView, packets_to, room_to, with_packets_to}
use Rattle.world_core.specs.SideTurns.{HasPlayed, StandsIn}
use Rattle.world_core.specs.WorldView.{WorldView}
use Rattle.world_core.specs.Worlds.{IsHalfOf, IsLinkOf, IsRun, room_of}

-- the run after an event of a side
abbrev pub run_after : Side → RunState → Event → Output → RunState
run_after side state event output = record { world = world_after (record { side = side; event = event }) output state.world; lines = state.lines ++ output.lines }

-- Lines of both sides

pub both-sides : (lines : List Line) → length lines ≡ length (lines_of sides.Parent lines) + length (lines_of sides.Child lines)
both-sides [] = refl
both-sides (l ∷ ls) = by l.side (both-sides ls)
  where
    by : (s : Side) → length ls ≡ length (lines_of sides.Parent ls) + length (lines_of sides.Child ls) → suc (length ls) ≡ length (lines_of sides.Parent (record { side = s; what = l.what } ∷ ls)) + length (lines_of sides.Child (record { side = s; what = l.what } ∷ ls))
    by sides.Parent h = omega (arith, h)
    by sides.Child h = omega (arith, h)

-- no run has more lines than there is room for
pub few-lines : (setting : Setting) (state : RunState) (choices : List Choice) → IsSound setting.schema → played setting choices (beginning_of setting) ≡ Some state → length state.lines ≤ 2 * room_of setting.limit
few-lines setting state choices sound h =
    let p = cases_have_room setting choices state sound h sides.Parent in
    let c = cases_have_room setting choices state sound h sides.Child in
    let pe = p.events in let pl = p.lines in let ce = c.events in let cl = c.lines in
    let all = both-sides state.lines in
    omega (arith, pe, pl, ce, cl, all)

pub few-packets : (setting : Setting) (state : RunState) (choices : List Choice) → IsSound setting.schema → played setting choices (beginning_of setting) ≡ Some state → (side : Side) → length (link_to (other side) state.world) ≤ room_of setting.limit
few-packets setting state choices sound h side =
    let p = cases_have_room setting choices state sound h side in
    let pe = p.events in let pp = p.packets in
    omega (arith, pe, pp)

-- A choice whose event is possible is one of the run
pub chosen-is : (setting : Setting) (choice : Choice) (state : RunState) (event : Event) (output : Output) → is_within setting choice.side state ≡ true → event_by setting choice state ≡ Some event
    → step setting.schema (end_of choice.side state.world) (link_to choice.side state.world) event ≡ Some output
    → (chosen setting choice state ≡ Some (run_after choice.side state event output)) × (led_to setting choice state ≡ run_after choice.side state event output)
chosen-is setting choice state event output within has is = (
  ap (λ (b : Bool). if b then option_and_then (λ event. if is_doable setting choice.side state event then Some (following_event setting choice.side state event) else None) (event_by setting choice state) else None) within
      ∙ ap (option_and_then (λ event. if is_doable setting choice.side state event then Some (following_event setting choice.side state event) else None)) has
      ∙ ap (λ (found : Option Output). if is_some found then Some (record { world = (passed_by found (record { side = choice.side; event = event }) state.world).world; lines = state.lines ++ (passed_by found (record { side = choice.side; event = event }) state.world).lines }) else None) is,
  ap (λ (found : Option Event). option_map_or (following_event setting choice.side state) found state) has
      ∙ ap (λ (found : Option Output). record { world = (passed_by found (record { side = choice.side; event = event }) state.world).world; lines = state.lines ++ (passed_by found (record { side = choice.side; event = event }) state.world).lines }) is,
)

-- Lines of a side

pub other-side : (side : Side) → same_side side (other side) ≡ false
other-side sides.Parent = refl
other-side sides.Child = refl

own-side : (side : Side) → same_side side side ≡ true
own-side sides.Parent = refl
own-side sides.Child = refl

module _ (side : Side) (before : List Line) (lines : List Line) (ws : List What) (are : lines ≡ map (line_at side) ws) where
  pub own-progress : progress_of side (before ++ lines) ≡ after_lines (progress_of side before) (whats_of lines)
  own-progress =
      progress-append side before lines
      ∙ ap (λ (vs : List What). after_lines (progress_of side before) vs)
      (ap (lines_of side) are ∙ lines_of-own side side ws ∙ ap (λ (b : Bool). cond b ws []) (own-side side) ∙ sym (whats-at side ws) ∙ sym (ap whats_of are))

  rest-progress : progress_of (other side) (before ++ lines) ≡ progress_of (other side) before
  rest-progress =
      progress-append (other side) before lines
      ∙ ap (λ (vs : List What). after_lines (progress_of (other side) before) vs)
      (ap (lines_of (other side)) are ∙ lines_of-own side (other side) ws ∙ ap (λ (b : Bool). cond b ws []) (other-side side))

-- Links

pub all-append : (schema : Schema) (ps qs : List model.Packet) → AllByRecursion (IsFramed schema) ps → AllByRecursion (IsFramed schema) qs → AllByRecursion (IsFramed schema) (ps ++ qs)
all-append schema [] qs h k = k
all-append schema (p ∷ ps) qs h k = (h.0, all-append schema ps qs h.1 k)

all-drop : (schema : Schema) (ps : List model.Packet) → AllByRecursion (IsFramed schema) ps → AllByRecursion (IsFramed schema) (drop 1 ps)
all-drop schema [] h = tt
all-drop schema (p ∷ ps) h = h.1

-- the packets of a link toward a side stay framed after an event there
stays-framed : (schema : Schema) (event : Event) (ps : List model.Packet) → AllByRecursion (IsFramed schema) ps → AllByRecursion (IsFramed schema) (after_event event ps)
stays-framed schema e.deliver ps h = all-drop schema ps h
stays-framed schema (e.send route number vs name) ps h = h
stays-framed schema (e.answer by vs) ps h = h
stays-framed schema (e.keep seq name) ps h = h
stays-framed schema (e.name name id) ps h = h
stays-framed schema e.close ps h = h
stays-framed schema e.die ps h = h
stays-framed schema e.take ps h = h
stays-framed schema (e.return vs) ps h = h
stays-framed schema e.resume ps h = h
stays-framed schema e.flush ps h = h

-- the links after an event: what a side has put is last on the one away from it
links : (setting : Setting) (side : Side) (state : RunState) (event : Event) (output : Output) (link after : LinkView) (lines : List Line)
    → AllByRecursion (IsFramed setting.schema) output.packets
    → IsAppended (with_packets_to side (packets_of setting.schema (after_event event (link_to side state.world))) link) lines (other side) (packets_of setting.schema output.packets) after
    → IsLinkOf setting state sides.Parent link → IsLinkOf setting state sides.Child link → (at : Side) → IsLinkOf setting (run_after side state event output) at after
links setting sides.Parent state event output link after lines framed is p c sides.Parent = record {
  packets = ap (λ (l : LinkView). l.to_parent) is.is;
  framed = stays-framed setting.schema event state.world.to_parent p.framed;
  room = subst (λ (n : ℕ). room_of setting.limit ≤ n) (sym (ap (λ (l : LinkView). l.parent_room) is.is)) p.room;
}
links setting sides.Parent state event output link after lines framed is p c sides.Child = record {
  packets = ap (λ (l : LinkView). l.to_child) is.is ∙ ap (λ (ps : List Packet). ps ++ packets_of setting.schema output.packets) c.packets ∙ sym (map-append (packet_of setting.schema) state.world.to_child output.packets);
  framed = all-append setting.schema state.world.to_child output.packets c.framed framed;
  room = subst (λ (n : ℕ). room_of setting.limit ≤ n) (sym (ap (λ (l : LinkView). l.child_room) is.is)) c.room;
}
links setting sides.Child state event output link after lines framed is p c sides.Parent = record {
  packets = ap (λ (l : LinkView). l.to_parent) is.is ∙ ap (λ (ps : List Packet). ps ++ packets_of setting.schema output.packets) p.packets ∙ sym (map-append (packet_of setting.schema) state.world.to_parent output.packets);
  framed = all-append setting.schema state.world.to_parent output.packets p.framed framed;
  room = subst (λ (n : ℕ). room_of setting.limit ≤ n) (sym (ap (λ (l : LinkView). l.parent_room) is.is)) p.room;
}
links setting sides.Child state event output link after lines framed is p c sides.Child = record {
  packets = ap (λ (l : LinkView). l.to_child) is.is;
  framed = stays-framed setting.schema event state.world.to_child c.framed;
  room = subst (λ (n : ℕ). room_of setting.limit ≤ n) (sym (ap (λ (l : LinkView). l.child_room) is.is)) c.room;
}

pub ends-own : (side : Side) (state : RunState) (event : Event) (output : Output) → end_of side (run_after side state event output).world ≡ output.end
ends-own sides.Parent state event output = refl
ends-own sides.Child state event output = refl

pub ends-rest : (side : Side) (state : RunState) (event : Event) (output : Output) → end_of (other side) (run_after side state event output).world ≡ end_of (other side) state.world
ends-rest sides.Parent state event output = refl
ends-rest sides.Child state event output = refl

-- the link away from a side after an event
pub puts : (side : Side) (state : RunState) (event : Event) (output : Output) → link_to (other side) (run_after side state event output).world ≡ link_to (other side) state.world ++ output.packets
puts sides.Parent state event output = refl
puts sides.Child state event output = refl

-- What a half has done

with-lines : (side : Side) (packets : List Packet) (link : LinkView) → (with_packets_to side packets link).lines ≡ link.lines
with-lines sides.Parent packets link = refl
with-lines sides.Child packets link = refl

with-spare : (side : Side) (packets : List Packet) (link : LinkView) → (with_packets_to side packets link).spare ≡ link.spare
with-spare sides.Parent packets link = refl
with-spare sides.Child packets link = refl

with-rest : (side : Side) (packets : List Packet) (link : LinkView) → (packets_to (other side) (with_packets_to side packets link) ≡ packets_to (other side) link) × (room_to (other side) (with_packets_to side packets link) ≡ room_to (other side) link)
with-rest sides.Parent packets link = (refl, refl)
with-rest sides.Child packets link = (refl, refl)

pub link-of : (setting : Setting) (state : RunState) (link : LinkView) → IsRun setting state link → (side : Side) → IsLinkOf setting state side link
link-of setting state link run sides.Parent = run.to_parent
link-of setting state link run sides.Child = run.to_child

module _ (at : WorldView) (side : Side) (half after : HalfView) (link between : LinkView) (event : Event) (delivers : Bool) (packets : List model.Packet) (stands : StandsIn at side half link) (within : is_within at.setting side at.state ≡ true)
    (has : event_by at.setting (record { side = side; delivers = delivers }) at.state ≡ Some event) (steps : IsHalfStep half (progress_of side at.state.lines) packets event after)
    (is : step at.setting.schema (end_of side at.state.world) (link_to side at.state.world) event ≡ Some steps.output)
    (lies : between ≡ with_packets_to side (packets_of at.setting.schema (after_event event (link_to side at.state.world))) link) where
  abbrev output_is : Output
  output_is = steps.output

  abbrev next_is : RunState
  next_is = run_after side at.state event output_is

  abbrev choice_is : Choice
  choice_is = record { side = side; delivers = delivers }

  schema-is : half.end.schema ≡ at.setting.schema
  schema-is = ap (λ (s : Setting). s.schema) stands.half_is.about

  lines-are : after.end.lines ≡ output_is.lines
  lines-are = ap (λ (v : EndView). v.lines) steps.is_after ∙ ap (λ (ls : List Line). ls ++ output_is.lines) stands.half_is.no_lines

  packets-are : after.end.packets ≡ packets_of at.setting.schema output_is.packets
  packets-are =
      ap (λ (v : EndView). v.packets) steps.is_after ∙ ap (λ (ps : List Packet). ps ++ packets_of half.end.schema output_is.packets) stands.half_is.no_packets
      ∙ ap (λ (schema : Schema). packets_of schema output_is.packets) schema-is

  is-chosen : (chosen at.setting choice_is at.state ≡ Some next_is) × (led_to at.setting choice_is at.state ≡ next_is)
  is-chosen = chosen-is at.setting choice_is at.state event output_is within has is

  plays-next : played at.setting (stands.run.choices ++ choice_is ∷ []) (beginning_of at.setting) ≡ Some next_is
  plays-next = played-last at.setting stands.run.choices choice_is (beginning_of at.setting) at.state next_is stands.run.plays is-chosen.0

  -- the half after its event is of the same side
  pub after-side : after.end.end.side ≡ side
  after-side =
      ap (λ (v : EndView). v.end.side) steps.is_after ∙ (step-prints at.setting.schema (end_of side at.state.world) (link_to side at.state.world) event output_is is).side
      ∙ side-of at.state.world side (run-sides at.setting stands.run.choices at.state stands.run.plays)

  -- the link has room for what the half has made
  pub has-room : LinkHasRoom between (length after.end.lines) (other side) (length after.end.packets)
  has-room =
      let few = few-lines at.setting next_is (stands.run.choices ++ choice_is ∷ []) stands.run.sound plays-next in
      let long = length-append at.state.lines output_is.lines in
      let room = stands.run.room in
      let told : length link.lines ≡ length at.state.lines = ap (λ (ls : List Line). length ls) stands.run.lines in
      let spare : between.spare ≡ link.spare = ap (λ (l : LinkView). l.spare) lies ∙ with-spare side (packets_of at.setting.schema (after_event event (link_to side at.state.world))) link in
      let made : length after.end.lines ≡ length output_is.lines = ap (λ (ls : List Line). length ls) lines-are in
      let away = link-of at.setting at.state link stands.run (other side) in
      let most = few-packets at.setting next_is (stands.run.choices ++ choice_is ∷ []) stands.run.sound plays-next side in
      let put : length (link_to (other side) next_is.world) ≡ length (link_to (other side) at.state.world) + length output_is.packets =
      ap (λ (ps : List model.Packet). length ps) (puts side at.state event output_is) ∙ length-append (link_to (other side) at.state.world) output_is.packets in
      let sent : length after.end.packets ≡ length output_is.packets = ap (λ (ps : List Packet). length ps) packets-are ∙ length-map output_is.packets (packet_of at.setting.schema) in
      let rest = with-rest side (packets_of at.setting.schema (after_event event (link_to side at.state.world))) link in
      let lying : length (packets_to (other side) between) ≡ length (link_to (other side) at.state.world) =
      ap (λ (l : LinkView). length (packets_to (other side) l)) lies ∙ ap (λ (ps : List Packet). length ps) rest.0 ∙ ap (λ (ps : List Packet). length ps) away.packets
      ∙ length-map (link_to (other side) at.state.world) (packet_of at.setting.schema) in
      let roomy : room_to (other side) between ≡ room_to (other side) link = ap (λ (l : LinkView). room_to (other side) l) lies ∙ rest.1 in
      let enough = away.room in
      record { lines_fit = omega (arith, few, long, room, told, spare, made); packets_fit = omega (arith, most, put, sent, lying, roomy, enough) }

  -- and is in the next state when it has appended that
  pub has-played : (last : HalfView) (ends : LinkView) → last ≡ appended after → IsAppended between after.end.lines (other side) after.end.packets ends → HasPlayed at choice_is last ends
  has-played last ends emptied appends =
      let prints : Prints (end_of side at.state.world) event output_is = step-prints at.setting.schema (end_of side at.state.world) (link_to side at.state.world) event output_is is in
      let own : (end_of side at.state.world).side ≡ side = side-of at.state.world side (run-sides at.setting stands.run.choices at.state stands.run.plays) in
      let are : output_is.lines ≡ map (line_at side) (prints.first ∷ prints.rest) = prints.lines ∙ ap (λ (s : Side). map (line_at s) (prints.first ∷ prints.rest)) own in
      let onto : IsAppended (with_packets_to side (packets_of at.setting.schema (after_event event (link_to side at.state.world))) link) output_is.lines (other side) (packets_of at.setting.schema output_is.packets) ends =
      subst (λ (l : LinkView). IsAppended l output_is.lines (other side) (packets_of at.setting.schema output_is.packets) ends) lies
      (subst (λ (ps : List Packet). IsAppended between output_is.lines (other side) ps ends) packets-are (subst (λ (ls : List Line). IsAppended between ls (other side) after.end.packets ends) lines-are appends)) in
      let framed = subst (λ (schema : Schema). AllByRecursion (IsFramed schema) output_is.packets) schema-is steps.framed in
      let on = links at.setting side at.state event output_is link ends output_is.lines framed onto stands.run.to_parent stands.run.to_child in
      let told : ends.lines ≡ at.state.lines ++ output_is.lines =
      ap (λ (l : LinkView). l.lines) onto.is ∙ ap (λ (ls : List Line). ls ++ output_is.lines) (with-lines side (packets_of at.setting.schema (after_event event (link_to side at.state.world))) link ∙ stands.run.lines) in
      let long : length ends.lines ≡ length at.state.lines + length output_is.lines = ap (λ (ls : List Line). length ls) told ∙ length-append at.state.lines output_is.lines in
      let before : length link.lines ≡ length at.state.lines = ap (λ (ls : List Line). length ls) stands.run.lines in
      let spare = onto.spare in
      let kept = with-spare side (packets_of at.setting.schema (after_event event (link_to side at.state.world))) link in
      let room = stands.run.room in
      let about : setting_of after ≡ at.setting =
      ap setting_of steps.same ∙ ap (λ (schema : Schema). record { schema = schema; script = half.script; stop = half.stop; limit = half.limit }) (ap (λ (v : EndView). v.schema) steps.is_after) ∙ stands.half_is.about in
      let counted : IsCountedBy after (progress_of side next_is.lines) =
      subst (λ (p : Progress). IsCountedBy after p) (sym (own-progress side at.state.lines output_is.lines (prints.first ∷ prints.rest) are)) steps.counted in
      let half_is : IsHalfOf at.setting next_is side (appended after) = record {
        about = about;
        end = ap (λ (v : EndView). v.end) steps.is_after ∙ sym (ends-own side at.state event output_is);
        no_lines = refl;
        no_packets = refl;
        counted = record { counts = counted.counts; held = counted.held };
      } in
      record {
        next = next_is;
        is_chosen = is-chosen.0;
        leads_to = is-chosen.1;
        stands = record {
          run = record {
            sound = stands.run.sound;
            valid = stands.run.valid;
            small = stands.run.small;
            choices = stands.run.choices ++ choice_is ∷ [];
            plays = plays-next;
            lines = told;
            room = omega (arith, long, before, spare, kept, room);
            to_parent = on sides.Parent;
            to_child = on sides.Child;
          };
          half_is = subst (IsHalfOf at.setting next_is side) (sym emptied) half_is;
        };
        other_end = ends-rest side at.state event output_is;
        other_progress = rest-progress side at.state.lines output_is.lines (prints.first ∷ prints.rest) are;
      }
