-- Own steps of a side can be made from any state of a run where its end and its progress are the same.
use Rattle.std.proofs.Common.{◌≡◌, ℕ, zero, suc, nat_lt, true, false, List, [], ◌++◌, Some, option_and_then, refl, sym, ap, subst, ◌∙◌, append_assoc}
use Rattle.std.proofs.lemmas.List.{append-nil}
use Rattle.ipdl_base.specs.declared.kinds.Side.{Side}
use Rattle.ipdl_base.specs.declared.kinds.Side.TheVariants as sides
use Rattle.ipdl_base.specs.declared.line.Line.{Line}
use Rattle.channel_model.specs.Ends.{End, Packet, end_of, link_to}
use Rattle.channel_model.specs.Events.{Event}
use Rattle.ipdl_base.specs.Sides.{other}
use Rattle.channel_model.specs.Outputs.{Output}
use Rattle.channel_model.specs.Runs.{RunState, after_event, is_delivery}
use Rattle.channel_model.specs.Steps.{step}
use Rattle.script_steps.proofs.Choosing.{choice-happens, event-delivers}
use Rattle.script_steps.proofs.Counting.{progress-append}
use Rattle.script_steps.proofs.Playing.{PlaysOn, chooses, plays_on}
use Rattle.script_steps.specs.Choices.{Choice, Setting, chosen, is_within, own_event, played}
use Rattle.script_steps.specs.NextEvent.{next_event}
use Rattle.script_steps.specs.Progress.{Progress, after_lines, lines_of, progress_of}
use Rattle.world_core.proofs.Played.{chosen-is, ends-own, puts, run_after}
use Rattle.world_core.proofs.Standing.{link-free, link-kept}
use Rattle.world_core.specs.Halves.{own_choices}

-- From two states a side has come to two others by the same lines and the same packets.
pub record AreAlike (side : Side) (from last again to : RunState) : Type 0 where
  pub end : end_of side to.world ≡ end_of side last.world
  pub progress : progress_of side to.lines ≡ progress_of side last.lines
  pub lines : List Line
  pub first : last.lines ≡ from.lines ++ lines
  pub second : to.lines ≡ again.lines ++ lines
  pub sent : List Packet
  pub away : link_to (other side) last.world ≡ link_to (other side) from.world ++ sent
  pub away_again : link_to (other side) to.world ≡ link_to (other side) again.world ++ sent
  pub kept : link_to side to.world ≡ link_to side again.world

alike-on : (side : Side) (from next last again between to : RunState) → AreAlike side from next again between → AreAlike side next last between to → AreAlike side from last again to
alike-on side from next last again between to h k = record {
  end = k.end;
  progress = k.progress;
  lines = h.lines ++ k.lines;
  first = k.first ∙ ap (λ (ls : List Line). ls ++ k.lines) h.first ∙ append_assoc from.lines h.lines k.lines;
  second = k.second ∙ ap (λ (ls : List Line). ls ++ k.lines) h.second ∙ append_assoc again.lines h.lines k.lines;
  sent = h.sent ++ k.sent;
  away = k.away ∙ ap (λ (ps : List Packet). ps ++ k.sent) h.away ∙ append_assoc (link_to (other side) from.world) h.sent k.sent;
  away_again = k.away_again ∙ ap (λ (ps : List Packet). ps ++ k.sent) h.away_again ∙ append_assoc (link_to (other side) again.world) h.sent k.sent;
  kept = k.kept ∙ h.kept;
}

-- the link toward a side after an event there
takes : (side : Side) (state : RunState) (event : Event) (output : Output) → link_to side (run_after side state event output).world ≡ after_event event (link_to side state.world)
takes sides.Parent state event output = refl
takes sides.Child state event output = refl

-- the progress after the same lines is the same
same-progress : (side : Side) (from again : RunState) (lines : List Line) → progress_of side again.lines ≡ progress_of side from.lines → progress_of side (again.lines ++ lines) ≡ progress_of side (from.lines ++ lines)
same-progress side from again lines h =
    progress-append side again.lines lines ∙ ap (λ (p : Progress). after_lines p (lines_of side lines)) h ∙ sym (progress-append side from.lines lines)

-- What was played from the one state is played from the other too.
pub record IsPlayedAgain (setting : Setting) (side : Side) (choices : List Choice) (from last again : RunState) : Type 0 where
  pub to : RunState
  pub plays : played setting choices again ≡ Some to
  pub alike : AreAlike side from last again to

-- What was chosen in the one state is chosen in the other too.
record IsChosenAgain (setting : Setting) (side : Side) (choice : Choice) (from next again : RunState) : Type 0 where
  to : RunState
  is : chosen setting choice again ≡ Some to
  alike : AreAlike side from next again to

module _ (setting : Setting) (side : Side) where
  abbrev own : Choice
  own = record { side = side; delivers = false }

  choose-again : (from next again : RunState) → chosen setting own from ≡ Some next → end_of side again.world ≡ end_of side from.world → progress_of side again.lines ≡ progress_of side from.lines → IsChosenAgain setting side own from next again
  choose-again from next again is end progress =
      let c = chooses setting own from next is in
      let h = choice-happens setting own from next c in
      let no : is_delivery c.event ≡ false = event-delivers setting own from c.event c.has in
      let possible : step setting.schema (end_of side again.world) (link_to side again.world) c.event ≡ Some h.output =
      sym (link-free setting.schema (end_of side again.world) (link_to side again.world) c.event no) ∙ ap (λ (e : End). step setting.schema e [] c.event) end
      ∙ link-free setting.schema (end_of side from.world) (link_to side from.world) c.event no ∙ h.is in
      let within : is_within setting side again ≡ true = ap (λ (p : Progress). nat_lt p.events setting.limit) progress ∙ c.within in
      let has : own_event setting side again ≡ Some c.event =
      ap (λ (e : End). next_event setting.script setting.stop e (progress_of side again.lines)) end ∙ ap (next_event setting.script setting.stop (end_of side from.world)) progress ∙ c.has in
      record {
        to = run_after side again c.event h.output;
        is = (chosen-is setting own again c.event h.output within has possible).0;
        alike = record {
          end = ends-own side again c.event h.output ∙ sym (ap (end_of side) h.world ∙ ends-own side from c.event h.output);
          progress = same-progress side from again h.output.lines progress ∙ sym (ap (progress_of side) h.lines);
          lines = h.output.lines;
          first = h.lines;
          second = refl;
          sent = h.output.packets;
          away = ap (link_to (other side)) h.world ∙ puts side from c.event h.output;
          away_again = puts side again c.event h.output;
          kept = takes side again c.event h.output ∙ link-kept (link_to side again.world) c.event no;
        };
      }

  pub play-again : (count : ℕ) (from last again : RunState) → played setting (own_choices side count) from ≡ Some last → end_of side again.world ≡ end_of side from.world → progress_of side again.lines ≡ progress_of side from.lines
      → IsPlayedAgain setting side (own_choices side count) from last again
  play-again zero from last again h end progress =
      let same : from ≡ last = cc in
      subst (λ (s : RunState). IsPlayedAgain setting side [] from s again) same
      (record {
        to = again;
        plays = refl;
        alike = record {
          end = end;
          progress = progress;
          lines = [];
          first = sym (append-nil from.lines);
          second = sym (append-nil again.lines);
          sent = [];
          away = sym (append-nil (link_to (other side) from.world));
          away_again = sym (append-nil (link_to (other side) again.world));
          kept = refl;
        };
      })
  play-again (suc count) from last again h end progress =
      let p : PlaysOn setting own (own_choices side count) from last = plays_on setting own (own_choices side count) from last h in
      let one : IsChosenAgain setting side own from p.next again = choose-again from p.next again p.first end progress in
      let more : IsPlayedAgain setting side (own_choices side count) p.next last one.to = play-again count p.next last one.to p.rest one.alike.end one.alike.progress in
      record {
        to = more.to;
        plays = ap (option_and_then (played setting (own_choices side count))) one.is ∙ more.plays;
        alike = alike-on side from p.next last again one.to more.to one.alike more.alike;
      }
