-- A world after a turn of one of its halves.
use Rattle.std.proofs.Common.{◌≡◌, List, Option, Some, refl, sym, ap, subst, ◌∙◌, unwrap_or}
use Rattle.ipdl_base.specs.declared.kinds.Side.{Side}
use Rattle.ipdl_base.specs.declared.kinds.Side.TheVariants as sides
use Rattle.ipdl_base.specs.declared.line.Line.{Line}
use Rattle.channel_model.specs.Ends.{end_of}
use Rattle.ipdl_base.specs.Sides.{other}
use Rattle.channel_model.specs.Runs.{RunState}
use Rattle.script_steps.proofs.Choosing.{choices_are_read}
use Rattle.schedules.specs.declared.turn.Turn.{Turn}
use Rattle.script_steps.specs.Choices.{Choice, Setting, beginning_of, choices_of, played}
use Rattle.script_steps.specs.Progress.{Progress, progress_of}
use Rattle.script_steps.specs.Turns.{leads}
use Rattle.world_core.specs.declared.answers.StepAnswer.{StepAnswer}
use Rattle.world_core.specs.declared.answers.StepAnswer.TheVariants as answer
use Rattle.world_core.specs.HalfView.{HalfView, IsCountedBy, setting_of}
use Rattle.world_core.specs.LinkView.{LinkView}
use Rattle.world_core.specs.SideTurns.{HasTurned, StandsIn, TurnPlays}
use Rattle.world_core.specs.Turns.{TurnGives}
use Rattle.world_core.specs.WorldView.{WorldView, seen_by, state_of}
use Rattle.world_core.specs.Worlds.{IsHalfOf, IsRun, IsWorld}

-- the state that the lines of a link report is that of its run
pub told-state : (setting : Setting) (state : RunState) (link : LinkView) → IsRun setting state link → state_of setting link.lines ≡ state
unfolding state_of
told-state setting state link run =
    ap (λ (ls : List Line). unwrap_or (played setting (choices_of ls) (beginning_of setting)) (beginning_of setting)) run.lines
    ∙ ap (λ (cs : List Choice). unwrap_or (played setting cs (beginning_of setting)) (beginning_of setting)) (choices_are_read setting run.choices state run.plays)
    ∙ ap (λ (o : Option RunState). unwrap_or o (beginning_of setting)) run.plays

-- a half of which nothing changed is in the next state too
half-stays : (setting : Setting) (state next : RunState) (side : Side) (half : HalfView) → end_of side next.world ≡ end_of side state.world → progress_of side next.lines ≡ progress_of side state.lines → IsHalfOf setting state side half → IsHalfOf setting next side half
half-stays setting state next side half same progress is = record {
  about = is.about;
  end = is.end ∙ sym same;
  no_lines = is.no_lines;
  no_packets = is.no_packets;
  counted = subst (λ (p : Progress). IsCountedBy half p) (sym progress) is.counted;
}

-- What a turn makes of a world.
pub record Turned (setting : Setting) (turn : Turn) (a : StepAnswer) (link ends : LinkView) (parent child : HalfView) : Type 0 where
  pub is : IsWorld setting (state_of setting ends.lines) parent child ends
  pub gives : TurnGives (seen_by setting link) turn a (seen_by setting ends)

same-world : (setting : Setting) (parent child parent' child' : HalfView) (link ends : LinkView) → parent' ≡ parent → child' ≡ child → ends ≡ link → IsWorld setting (state_of setting link.lines) parent child link → IsWorld setting (state_of setting ends.lines) parent' child' ends
same-world setting parent child parent' child' link ends p c l is =
    subst (λ (x : LinkView). IsWorld setting (state_of setting x.lines) parent' child' x) (sym l)
    (subst (λ (h : HalfView). IsWorld setting (state_of setting link.lines) h child' link) (sym p) (subst (λ (h : HalfView). IsWorld setting (state_of setting link.lines) parent h link) (sym c) is))

same-view : (setting : Setting) (link ends : LinkView) → ends ≡ link → seen_by setting ends ≡ seen_by setting link
same-view setting link ends l = ap (seen_by setting) l

-- the parent has played a choice
parent-played : (setting : Setting) (parent child after : HalfView) (link ends : LinkView) (next : RunState) → IsWorld setting (state_of setting link.lines) parent child link → StandsIn (record { setting = setting; state = next }) sides.Parent after ends
    → end_of sides.Child next.world ≡ end_of sides.Child (state_of setting link.lines).world → progress_of sides.Child next.lines ≡ progress_of sides.Child (state_of setting link.lines).lines → IsWorld setting (state_of setting ends.lines) after child ends
parent-played setting parent child after link ends next is stands same progress =
    subst (λ (s : RunState). IsWorld setting s after child ends) (sym (told-state setting next ends stands.run))
    (record { run = stands.run; parent_is = stands.half_is; child_is = half-stays setting (state_of setting link.lines) next sides.Child child same progress is.child_is })

child-played : (setting : Setting) (parent child after : HalfView) (link ends : LinkView) (next : RunState) → IsWorld setting (state_of setting link.lines) parent child link → StandsIn (record { setting = setting; state = next }) sides.Child after ends
    → end_of sides.Parent next.world ≡ end_of sides.Parent (state_of setting link.lines).world → progress_of sides.Parent next.lines ≡ progress_of sides.Parent (state_of setting link.lines).lines → IsWorld setting (state_of setting ends.lines) parent after ends
child-played setting parent child after link ends next is stands same progress =
    subst (λ (s : RunState). IsWorld setting s parent after ends) (sym (told-state setting next ends stands.run))
    (record { run = stands.run; parent_is = half-stays setting (state_of setting link.lines) next sides.Parent parent same progress is.parent_is; child_is = stands.half_is })

turned-gives : (setting : Setting) (turn : Turn) (half : HalfView) (link ends : LinkView) (h : HasTurned (seen_by setting link) turn half ends) → TurnGives (seen_by setting link) turn answer.Did (seen_by setting ends)
turned-gives setting turn half link ends h =
    let to = told-state setting h.played.next ends h.played.stands.run in (
      h.is ∙ ap leads (sym to),
      refl,
      record { choice = h.choice; is = h.played.is_chosen ∙ ap Some (sym to) },
    )

module _ (setting : Setting) (turn : Turn) (parent child after : HalfView) (link ends : LinkView) (is : IsWorld setting (state_of setting link.lines) parent child link) where
  pub parent-turns : (a : StepAnswer) → turn.side ≡ sides.Parent → TurnPlays (seen_by setting link) turn parent link a after ends → Turned setting turn a link ends after child
  parent-turns answer.Did side h =
      let at_parent : h.choice.side ≡ sides.Parent = h.side ∙ side in
      record {
        is =
            parent-played setting parent child after link ends h.played.next is (subst (λ (s : Side). StandsIn (record { setting = setting; state = h.played.next }) s after ends) at_parent h.played.stands)
            (subst (λ (s : Side). end_of (other s) h.played.next.world ≡ end_of (other s) (state_of setting link.lines).world) at_parent h.played.other_end)
            (subst (λ (s : Side). progress_of (other s) h.played.next.lines ≡ progress_of (other s) (state_of setting link.lines).lines) at_parent h.played.other_progress);
        gives = turned-gives setting turn after link ends h;
      }
  parent-turns answer.Nothing side h = record { is = same-world setting parent child after child link ends h.1.0 refl h.1.1 is; gives = (h.0, same-view setting link ends h.1.1) }
  parent-turns (answer.Spent s) side h = record { is = same-world setting parent child after child link ends h.2.0 refl h.2.1 is; gives = (h.0, h.1, same-view setting link ends h.2.1) }
  parent-turns answer.NoMemory side h = record { is = same-world setting parent child after child link ends h.0 refl h.1 is; gives = same-view setting link ends h.1 }

  pub child-turns : (a : StepAnswer) → turn.side ≡ sides.Child → TurnPlays (seen_by setting link) turn child link a after ends → Turned setting turn a link ends parent after
  child-turns answer.Did side h =
      let at_child : h.choice.side ≡ sides.Child = h.side ∙ side in
      record {
        is =
            child-played setting parent child after link ends h.played.next is (subst (λ (s : Side). StandsIn (record { setting = setting; state = h.played.next }) s after ends) at_child h.played.stands)
            (subst (λ (s : Side). end_of (other s) h.played.next.world ≡ end_of (other s) (state_of setting link.lines).world) at_child h.played.other_end)
            (subst (λ (s : Side). progress_of (other s) h.played.next.lines ≡ progress_of (other s) (state_of setting link.lines).lines) at_child h.played.other_progress);
        gives = turned-gives setting turn after link ends h;
      }
  child-turns answer.Nothing side h = record { is = same-world setting parent child parent after link ends refl h.1.0 h.1.1 is; gives = (h.0, same-view setting link ends h.1.1) }
  child-turns (answer.Spent s) side h = record { is = same-world setting parent child parent after link ends refl h.2.0 h.2.1 is; gives = (h.0, h.1, same-view setting link ends h.2.1) }
  child-turns answer.NoMemory side h = record { is = same-world setting parent child parent after link ends refl h.0 h.1 is; gives = same-view setting link ends h.1 }

  pub parent-steps : (a : StepAnswer) → turn.side ≡ sides.Parent → TurnPlays (seen_by (setting_of parent) link) turn parent link a after ends → Turned setting turn a link ends after child
  parent-steps a side h = parent-turns a side (subst (λ (s : Setting). TurnPlays (seen_by s link) turn parent link a after ends) is.parent_is.about h)

  pub child-steps : (a : StepAnswer) → turn.side ≡ sides.Child → TurnPlays (seen_by (setting_of child) link) turn child link a after ends → Turned setting turn a link ends parent after
  child-steps a side h = child-turns a side (subst (λ (s : Setting). TurnPlays (seen_by s link) turn child link a after ends) is.child_is.about h)

-- what a turn gives, of a world that is seen so
pub gives-so : (turn : Turn) (before seen after last : WorldView) (a told : StepAnswer) → before ≡ seen → last ≡ after → told ≡ a → TurnGives before turn a after → TurnGives seen turn told last
gives-so turn before seen after last a told b l t h =
    subst (λ (w : WorldView). TurnGives w turn told last) b (subst (λ (w : WorldView). TurnGives before turn told w) (sym l) (subst (λ (x : StepAnswer). TurnGives before turn x after) (sym t) h))
