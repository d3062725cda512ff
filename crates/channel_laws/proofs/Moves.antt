-- A step of one of two ends: what it is made of, and both ends and their reading before and after it.
use Rattle.std.proofs.Common.{◌≡◌, ℕ, ◌+◌, Bool, true, false, List, [], ◌∷◌, ◌++◌, cond, drop, find, map, Some, option_map, refl, sym, ap, subst, ◌∙◌}
use Rattle.ipdl_base.specs.declared.kinds.Side.{Side}
use Rattle.ipdl_base.specs.declared.kinds.Side.TheVariants.{Parent, Child}
use Rattle.ipdl_base.specs.declared.line.What.{What}
use Rattle.ipdl_base.specs.declared.message.Body.{Body}
use Rattle.ipdl_base.specs.declared.schema.Schema.{Schema}
use Rattle.nesting_core.specs.declared.frame.Answer.{Answer}
use Rattle.nesting_core.specs.declared.frame.Answer.TheVariants as answer
use Rattle.nesting_core.specs.Answers.{awaited}
use Rattle.nesting_core.specs.Frames.{head_of, is_unanswered}
use Rattle.nesting_laws.specs.Calls.{ReplyHead}
use Rattle.history_reading.specs.EndReading.{EndReading}
use Rattle.history_reading.specs.Reading.{Reading, end_reading_of, other_of}
use Rattle.channel_model.specs.Ends.{End, World, Packet, message, StackEntry, end_of, link_to}
use Rattle.channel_model.specs.Events.{Event}
use Rattle.channel_model.specs.Events as event
use Rattle.ipdl_base.specs.Sides.{other}
use Rattle.channel_model.specs.Outputs.{Output, is_open, line_at, body_of}
use Rattle.channel_model.specs.Parts.{OwnParts, DeliveryPart}
use Rattle.channel_model.specs.Phases.{Phase}
use Rattle.channel_model.specs.Runs.{after_event}
use Rattle.channel_model.specs.StepLaws.{IsMadeOf, IsStepOfParts}
use Rattle.channel_model.specs.Steps.{step, first_packet}
use Rattle.channel_model.proofs.Events.{events_have_their_lines}
use Rattle.channel_model.proofs.StepParts.{steps_are_made_of_parts}
use Rattle.channel_laws.specs.Laws.{IsReply, awaited_reply}
use Rattle.channel_laws.specs.NestedWorlds.{IsNestedWorld, EndsAreNested}
use Rattle.channel_laws.specs.Rows.{HasSoundRows}
use Rattle.channel_laws.specs.Tested.{after_whats}
use Rattle.channel_laws.specs.TwoEnds.{TwoEnds, ReadingIs}
use Rattle.channel_laws.proofs.EveryRun.{from-side}
use Rattle.channel_laws.proofs.Outlines.{open-is}
use Rattle.channel_laws.proofs.Replies.{reply-waits}
use Rattle.channel_laws.proofs.TwoEnds.{Awaits, Arrival, first-is, own-paired, delivery-paired, arrival}

-- The parts of a step: those of the end's own, which leave the link toward it, or the delivery of the first packet on
-- that link to an open end.
pub data StepParts (schema : Schema) (e : End) (link : List Packet) : Event → List What → List Packet → End → Phase → Type 0 where
  acts : {ev : Event} {ws : List What} {ps : List Packet} {f : End} {q : Phase} → after_event ev link ≡ link → OwnParts schema e ws ps f q → StepParts schema e link ev ws ps f q
  delivers : {ws : List What} {ps : List Packet} {f : End} {q : Phase} (packet : Packet) → first_packet link ≡ Some packet → is_open e.state ≡ true → DeliveryPart schema packet e ws ps f q → StepParts schema e link event.deliver ws ps f q

-- A step of an end: its lines on the end's side, its parts, and both ends with their reading before and after it.
pub record EndMove (schema : Schema) (place : ℕ) (mine theirs : End) (own others : EndReading) (to_me to_them : List Packet) (ev : Event) (output : Output) : Type 0 where
  pub whats : List What
  pub phase : Phase
  pub lines : output.lines ≡ map (line_at mine.side) whats
  pub side : output.end.side ≡ mine.side
  pub parts : StepParts schema mine to_me ev whats output.packets output.end phase
  pub before : TwoEnds schema mine theirs own others to_me to_them
  pub after : TwoEnds schema output.end theirs (after_whats schema place whats own) others (after_event ev to_me) (to_them ++ output.packets)
  pub arrives : (packet : Packet) → first_packet to_me ≡ Some packet → is_open mine.state ≡ true → Arrival schema mine theirs own others to_me packet

module _ (schema : Schema) (rows : HasSoundRows schema) where
  acts-move : (place : ℕ) (ev : Event) (mine theirs : End) (own others : EndReading) (to_me to_them : List Packet) (output : Output) → after_event ev to_me ≡ to_me → Awaits schema mine to_me → TwoEnds schema mine theirs own others to_me to_them → output.end.side ≡ mine.side → IsMadeOf (OwnParts schema mine) mine.side output
      → EndMove schema place mine theirs own others to_me to_them ev output
  acts-move place ev mine theirs own others to_me to_them output link aw p side m = record {
    whats = m.whats;
    phase = m.phase;
    lines = m.lines;
    side = side;
    parts = acts link m.parts;
    before = p;
    after = subst (λ (l : List Packet). TwoEnds schema output.end theirs (after_whats schema place m.whats own) others l (to_them ++ output.packets)) (sym link) (own-paired schema rows mine theirs output.end own others to_me to_them output.packets place m.whats m.phase p side m.parts);
    arrives = λ packet first o. arrival schema rows mine theirs own others to_me to_them packet p first o aw;
  }

  of-parts : (place : ℕ) (ev : Event) (mine theirs : End) (own others : EndReading) (to_me to_them : List Packet) (output : Output) → Awaits schema mine to_me → TwoEnds schema mine theirs own others to_me to_them → output.end.side ≡ mine.side → IsStepOfParts schema mine to_me ev output
      → EndMove schema place mine theirs own others to_me to_them ev output
  of-parts place event.deliver mine theirs own others to_me to_them output aw p side (packet, first, o, m) =
      let a : Arrival schema mine theirs own others to_me packet = arrival schema rows mine theirs own others to_me to_them packet p first o aw in
      record {
        whats = m.whats;
        phase = m.phase;
        lines = m.lines;
        side = side;
        parts = delivers packet first o m.parts;
        before = p;
        after = delivery-paired schema rows mine theirs output.end own others to_me to_them output.packets place m.whats m.phase packet p side o a m.parts;
        arrives = λ packet first o. arrival schema rows mine theirs own others to_me to_them packet p first o aw;
      }
  of-parts place (event.send route number vs name) mine theirs own others to_me to_them output aw p side m = acts-move place (event.send route number vs name) mine theirs own others to_me to_them output refl aw p side m
  of-parts place (event.answer by vs) mine theirs own others to_me to_them output aw p side m = acts-move place (event.answer by vs) mine theirs own others to_me to_them output refl aw p side m
  of-parts place (event.keep seq name) mine theirs own others to_me to_them output aw p side m = acts-move place (event.keep seq name) mine theirs own others to_me to_them output refl aw p side m
  of-parts place (event.name name id) mine theirs own others to_me to_them output aw p side m = acts-move place (event.name name id) mine theirs own others to_me to_them output refl aw p side m
  of-parts place event.close mine theirs own others to_me to_them output aw p side m = acts-move place event.close mine theirs own others to_me to_them output refl aw p side m
  of-parts place event.die mine theirs own others to_me to_them output aw p side m = acts-move place event.die mine theirs own others to_me to_them output refl aw p side m
  of-parts place event.take mine theirs own others to_me to_them output aw p side m = acts-move place event.take mine theirs own others to_me to_them output refl aw p side m
  of-parts place (event.return vs) mine theirs own others to_me to_them output aw p side m = acts-move place (event.return vs) mine theirs own others to_me to_them output refl aw p side m
  of-parts place event.resume mine theirs own others to_me to_them output aw p side m = acts-move place event.resume mine theirs own others to_me to_them output refl aw p side m
  of-parts place event.flush mine theirs own others to_me to_them output aw p side m = acts-move place event.flush mine theirs own others to_me to_them output refl aw p side m

  pub end-move : (place : ℕ) (ev : Event) (mine theirs : End) (own others : EndReading) (to_me to_them : List Packet) (output : Output) → Awaits schema mine to_me → TwoEnds schema mine theirs own others to_me to_them → step schema mine to_me ev ≡ Some output → EndMove schema place mine theirs own others to_me to_them ev output
  end-move place ev mine theirs own others to_me to_them output aw p is =
      of-parts place ev mine theirs own others to_me to_them output aw p (events_have_their_lines schema mine to_me ev output is).side (steps_are_made_of_parts schema mine to_me ev output is)

-- What is awaited

awaited-entry : (es : List StackEntry) → awaited (map (λ (x : StackEntry). x.frame) es) ≡ option_map (λ (r : ReplyHead). r.seq) (awaited_reply es)
awaited-entry [] = refl
awaited-entry (x ∷ es) = by (is_unanswered x.frame) (awaited-entry es)
  where
    by : (b : Bool) → awaited (map (λ (x : StackEntry). x.frame) es) ≡ option_map (λ (r : ReplyHead). r.seq) (awaited_reply es)
        → option_map (λ head. head.seq) (option_map head_of (cond b (Some x.frame) (find is_unanswered (map (λ (x : StackEntry). x.frame) es))))
        ≡ option_map (λ (r : ReplyHead). r.seq) (option_map (λ (entry : StackEntry). record { seq = (head_of entry.frame).seq; route = entry.route; number = entry.number + 1 }) (cond b (Some x) (find (λ (entry : StackEntry). is_unanswered entry.frame) es)))
    by true rec = refl
    by false rec = rec

answer-is : (body : Body) (a : Answer) → body ≡ body_of a → IsReply body
answer-is body (answer.Ok vs) is = subst IsReply (sym is) tt
answer-is body (answer.Fault x) is = subst IsReply (sym is) tt

awaits : (schema : Schema) (side : Side) (mine theirs : End) (to_me to_them : List Packet) → mine.side ≡ side → EndsAreNested schema side mine theirs to_me to_them → Awaits schema mine to_me
awaits schema side mine theirs to_me to_them is w m a first body open_end sync =
    awaited-entry mine.stack ∙ ap (option_map (λ (r : ReplyHead). r.seq)) (reply-waits schema side mine theirs to_me to_them m (drop 1 to_me) (open-is mine.state open_end) is (first-is to_me (message m) first) (answer-is m.body a body) sync w)

-- Sides

pub other-other : (side : Side) → other (other side) ≡ side
other-other Parent = refl
other-other Child = refl

pub flip : {schema : Schema} {mine theirs : End} {own others : EndReading} {to_me to_them : List Packet} → TwoEnds schema mine theirs own others to_me to_them → TwoEnds schema theirs mine others own to_them to_me
flip {mine} p = record {
  sides = sym (ap other p.sides ∙ other-other mine.side);
  outlined = p.their_outlined;
  their_outlined = p.outlined;
  origins = p.their_origins;
  their_origins = p.origins;
  comes = p.goes;
  goes = p.comes;
  replies = p.their_replies;
  their_replies = p.replies;
}

-- a step of the end of a side
abbrev pub SideMove : Schema → Side → World → Reading → Event → Output → Type 0
SideMove schema side w r ev output = EndMove schema r.lines (end_of side w) (end_of (other side) w) (end_reading_of side r) (other_of side r) (link_to side w) (link_to (other side) w) ev output

pub side-move : (schema : Schema) → HasSoundRows schema → (side : Side) (ev : Event) (w : World) (r : Reading) (output : Output) → IsNestedWorld schema w → ReadingIs schema w r → step schema (end_of side w) (link_to side w) ev ≡ Some output → SideMove schema side w r ev output
side-move schema rows Parent ev w r output n h is =
    end-move schema rows r.lines ev w.parent w.child r.parent r.child w.to_parent w.to_child output (awaits schema Parent w.parent w.child w.to_parent w.to_child n.parent (from-side schema Parent w n)) h.ends is
side-move schema rows Child ev w r output n h is =
    end-move schema rows r.lines ev w.child w.parent r.child r.parent w.to_child w.to_parent output (awaits schema Child w.child w.parent w.to_child w.to_parent n.child (from-side schema Child w n)) (flip h.ends) is
