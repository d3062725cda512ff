-- States that are alike: they have the same world, and the same lines of each side. What a choice or a turn does is the same
-- in both.
use Rattle.std.proofs.Common.{◌≡◌, Bool, true, false, not, ◌&&◌, if◌then◌else◌, nat_lt, List, [], ◌∷◌, ◌++◌, Option, Some, None, is_some, refl, sym, ap, subst, ◌∙◌}
use Rattle.std.specs.Prelude.{option_and_then}
use Rattle.std.specs.Option.{option_map_or}
use Rattle.ipdl_base.specs.declared.kinds.Side.{Side}
use Rattle.ipdl_base.specs.declared.kinds.Side.TheVariants as sides
use Rattle.channel_model.specs.Ends.{World, end_of}
use Rattle.channel_model.specs.Events.{Event}
use Rattle.channel_model.specs.Events as event
use Rattle.channel_model.specs.Runs.{RunState, happens, output_of}
use Rattle.schedules.specs.declared.turn.Turn.{Turn}
use Rattle.script_steps.specs.Choices.{Choice, Setting, chosen, event_by, following_event, is_doable, is_within, may_deliver, own_event, played}
use Rattle.script_steps.specs.NextEvent.{next_event}
use Rattle.script_steps.specs.Progress.{Progress, after_lines, lines_of, no_progress, progress_of}
use Rattle.script_steps.specs.Turns.{delivery_choice, is_quiet, led_to, turn_choice}
use Rattle.script_steps.proofs.Counting.{lines_of-append}
use Rattle.script_steps.proofs.Playing.{Chooses, PlaysOn, chooses, plays_on}

pub record SameSides (one other : RunState) : Type 0 where
  pub world : one.world ≡ other.world
  pub lines : (side : Side) → lines_of side one.lines ≡ lines_of side other.lines

pub same-itself : (state : RunState) → SameSides state state
same-itself state = record { world = refl; lines = λ side. refl }

pub same-back : (one other : RunState) → SameSides one other → SameSides other one
same-back one other h = record { world = sym h.world; lines = λ side. sym (h.lines side) }

pub same-on : (one two three : RunState) → SameSides one two → SameSides two three → SameSides one three
same-on one two three h k = record { world = h.world ∙ k.world; lines = λ side. h.lines side ∙ k.lines side }

-- What a choice and a turn look at

module _ (setting : Setting) (one other : RunState) (same : SameSides one other) where
  progress-same : (side : Side) → progress_of side one.lines ≡ progress_of side other.lines
  progress-same side = ap (after_lines no_progress) (same.lines side)

  pub within-same : (side : Side) → is_within setting side one ≡ is_within setting side other
  within-same side = ap (λ (p : Progress). nat_lt p.events setting.limit) (progress-same side)

  own-same : (side : Side) → own_event setting side one ≡ own_event setting side other
  own-same side =
      ap (λ (w : World). next_event setting.script setting.stop (end_of side w) (progress_of side one.lines)) same.world
      ∙ ap (λ (p : Progress). next_event setting.script setting.stop (end_of side other.world) p) (progress-same side)

  may-same : (side : Side) → may_deliver side one.world ≡ may_deliver side other.world
  may-same side = ap (may_deliver side) same.world

  event-same : (choice : Choice) → event_by setting choice one ≡ event_by setting choice other
  event-same choice =
      ap (λ (may : Bool). if choice.delivers then (if may then Some event.deliver else None) else own_event setting choice.side one) (may-same choice.side)
      ∙ ap (λ (own : Option Event). if choice.delivers then (if may_deliver choice.side other.world then Some event.deliver else None) else own) (own-same choice.side)

  pub choice-same : (turn : Turn) → turn_choice setting turn one ≡ turn_choice setting turn other
  choice-same turn =
      ap (λ (own : Option Event). if not turn.only_deliver && is_some own then Some (record { side = turn.side; delivers = false }) else delivery_choice turn.side one) (own-same turn.side)
      ∙ ap (λ (may : Bool). if not turn.only_deliver && is_some (own_event setting turn.side other) then Some (record { side = turn.side; delivers = false }) else (if may then Some (record { side = turn.side; delivers = true }) else None))
      (may-same turn.side)

  quiet-at : (side : Side) → (not (is_some (own_event setting side one)) && not (may_deliver side one.world)) ≡ (not (is_some (own_event setting side other)) && not (may_deliver side other.world))
  quiet-at side =
      ap (λ (own : Option Event). not (is_some own) && not (may_deliver side one.world)) (own-same side)
      ∙ ap (λ (may : Bool). not (is_some (own_event setting side other)) && not may) (may-same side)

  pub quiet-same : is_quiet setting one ≡ is_quiet setting other
  quiet-same =
      ap (λ (b : Bool). b && (not (is_some (own_event setting sides.Child one)) && not (may_deliver sides.Child one.world))) (quiet-at sides.Parent)
      ∙ ap (λ (b : Bool). (not (is_some (own_event setting sides.Parent other)) && not (may_deliver sides.Parent other.world)) && b) (quiet-at sides.Child)

  -- What they do

  following-same : (side : Side) (happened : Event) → SameSides (following_event setting side one happened) (following_event setting side other happened)
  following-same side happened =
      let made : World → RunState = λ w. happens setting.schema w (record { side = side; event = happened }) in
      record {
        world = ap (λ (w : World). (made w).world) same.world;
        lines = λ s.
            lines_of-append s one.lines (made one.world).lines ∙ ap (λ ws. ws ++ lines_of s (made one.world).lines) (same.lines s)
            ∙ ap (λ (w : World). lines_of s other.lines ++ lines_of s (made w).lines) same.world ∙ sym (lines_of-append s other.lines (made other.world).lines);
      }

  led-by : (side : Side) (found : Option Event) → SameSides (option_map_or (following_event setting side one) found one) (option_map_or (following_event setting side other) found other)
  led-by side None = same
  led-by side (Some happened) = following-same side happened

  pub led-same : (choice : Choice) → SameSides (led_to setting choice one) (led_to setting choice other)
  led-same choice =
      subst (λ (found : Option Event). SameSides (led_to setting choice one) (option_map_or (following_event setting choice.side other) found other)) (event-same choice) (led-by choice.side (event_by setting choice one))

-- A choice that is possible leads to where its event leads
pub chosen-by : (setting : Setting) (choice : Choice) (state : RunState) (happened : Event) → is_within setting choice.side state ≡ true → event_by setting choice state ≡ Some happened → is_doable setting choice.side state happened ≡ true
    → chosen setting choice state ≡ Some (following_event setting choice.side state happened)
chosen-by setting choice state happened within has doable =
    ap (λ (b : Bool). if b then option_and_then (λ event. if is_doable setting choice.side state event then Some (following_event setting choice.side state event) else None) (event_by setting choice state) else None) within
    ∙ ap (option_and_then (λ event. if is_doable setting choice.side state event then Some (following_event setting choice.side state event) else None)) has
    ∙ ap (λ (b : Bool). if b then Some (following_event setting choice.side state happened) else None) doable

-- a choice, and then others
pub plays-first : (setting : Setting) (choice : Choice) (more : List Choice) (state next last : RunState) → chosen setting choice state ≡ Some next → played setting more next ≡ Some last → played setting (choice ∷ more) state ≡ Some last
plays-first setting choice more state next last h k = ap (option_and_then (played setting more)) h ∙ k

-- choices that are possible in one of two states that are alike are possible in the other, and lead to states that are alike
pub record PlaysAlike (setting : Setting) (choices : List Choice) (state last : RunState) : Type 0 where
  pub same : RunState
  pub plays : played setting choices state ≡ Some same
  pub alike : SameSides last same

pub record ChosenAlike (setting : Setting) (choice : Choice) (state next : RunState) : Type 0 where
  pub same : RunState
  pub is : chosen setting choice state ≡ Some same
  pub alike : SameSides next same

pub chosen-alike : (setting : Setting) (choice : Choice) (one other next : RunState) → SameSides one other → chosen setting choice one ≡ Some next → ChosenAlike setting choice other next
chosen-alike setting choice one other next same h =
    let c : Chooses setting choice one next = chooses setting choice one next h in
    record {
      same = following_event setting choice.side other c.event;
      is =
          chosen-by setting choice other c.event (sym (within-same setting one other same choice.side) ∙ c.within) (sym (event-same setting one other same choice) ∙ c.has)
          (ap (λ (w : World). is_some (output_of setting.schema w (record { side = choice.side; event = c.event }))) (sym same.world) ∙ c.doable);
      alike = subst (λ (s : RunState). SameSides s (following_event setting choice.side other c.event)) (sym c.is) (following-same setting one other same choice.side c.event);
    }

pub played-alike : (setting : Setting) (choices : List Choice) (one other last : RunState) → SameSides one other → played setting choices one ≡ Some last → PlaysAlike setting choices other last
played-alike setting [] one other last same h =
    let is : one ≡ last = cc in
    record { same = other; plays = refl; alike = subst (λ (s : RunState). SameSides s other) is same }
played-alike setting (choice ∷ more) one other last same h =
    let p : PlaysOn setting choice more one last = plays_on setting choice more one last h in
    let c : ChosenAlike setting choice other p.next = chosen-alike setting choice one other p.next same p.first in
    let rest : PlaysAlike setting more c.same last = played-alike setting more p.next c.same last c.alike p.rest in
    record { same = rest.same; plays = plays-first setting choice more other c.same rest.same c.is rest.plays; alike = rest.alike }
