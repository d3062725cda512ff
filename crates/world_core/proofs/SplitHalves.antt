-- The laws of halves apart from the link.
use Rattle.std.proofs.Common.{◌≡◌, ◌+◌, Bool, true, false, not, List, [], ◌∷◌, ◌++◌, map, Option, Some, None, is_some, refl, sym, ap, subst, ◌∙◌, append_assoc}
use Rattle.std.specs.List.{AllByRecursion}
use Rattle.std.proofs.lemmas.List.{append_cancel_left, map-append, replicate_more}
use Rattle.std.proofs.lemmas.List.Elements.{filter_map-append}
use Rattle.ipdl_base.specs.declared.kinds.Side.{Side}
use Rattle.ipdl_base.specs.declared.kinds.Side.TheVariants as sides
use Rattle.ipdl_base.specs.declared.line.Line.{Line}
use Rattle.ipdl_base.specs.declared.line.What.{What}
use Rattle.ipdl_base.specs.declared.schema.Schema.{Schema}
use Rattle.channel_model.specs.Ends.{end_of, link_to}
use Rattle.channel_model.specs.Ends as model
use Rattle.ipdl_base.specs.Sides.{other}
use Rattle.channel_model.specs.Outputs.{Output, line_at}
use Rattle.channel_model.specs.Runs.{RunState}
use Rattle.channel_core.specs.EndView.{EndView, IsFramed, packet_of, packets_of}
use Rattle.end_parts.specs.declared.packet.Packet.{Packet}
use Rattle.script_runs.proofs.CaseRuns.{played-last}
use Rattle.script_runs.proofs.Growth.{plays-following}
use Rattle.script_steps.proofs.Choosing.{choices_are_read, side-of}
use Rattle.script_steps.proofs.Counting.{progress-append}
use Rattle.script_steps.proofs.Playing.{choices_grow}
use Rattle.script_steps.proofs.StepLines.{Prints, step-prints}
use Rattle.script_steps.specs.Choices.{Choice, IsCaseHistory, Setting, beginning_of, choice_of, choices_of, played}
use Rattle.script_steps.specs.Laws.{GoesOn}
use Rattle.script_steps.specs.Progress.{Progress, after_lines, lines_of, progress_of}
use Rattle.world_core.proofs.Chosen.{run-sides}
use Rattle.world_core.proofs.OwnRuns.{IsPlayedAgain, play-again}
use Rattle.world_core.proofs.Played.{all-append, chosen-is, ends-own, own-progress, puts, run_after}
use Rattle.world_core.proofs.SideChoices.{RanAlone, all-alone, all-same, others-choose}
use Rattle.world_core.proofs.Standing.{has-at, may-go-on-at, own-within, schema-at, step-at}
use Rattle.world_core.specs.declared.answers.StepAnswer.{StepAnswer}
use Rattle.world_core.specs.declared.answers.StepAnswer.TheVariants as answer
use Rattle.world_core.specs.declared.half.next.NextStep.{NextStep}
use Rattle.world_core.specs.declared.half.next.NextStep.TheVariants as next
use Rattle.world_core.specs.HalfSteps.{IsOwnStep, MayGoOn, OwnGives, next_of}
use Rattle.world_core.specs.HalfView.{HalfView, IsCountedBy, setting_of}
use Rattle.world_core.specs.NextSteps.{IsNext}
use Rattle.world_core.specs.Halves.{FitsAfter, HalvesFitAfterMore, IsSplit, StoredLinesFollow, own_choices}
use Rattle.world_core.specs.LinkView.{LinkView}

-- what a half has stored is after the lines that it fits
pub reached : (setting : Setting) (side : Side) (seen : List Line) (half : HalfView) (fits : FitsAfter setting side seen half) → fits.to.lines ≡ seen ++ half.end.lines
reached setting side seen half fits = fits.stored.lines ∙ ap (λ (ls : List Line). ls ++ half.end.lines) fits.is_seen

-- and that is a history of the script
pub stored_lines_follow : StoredLinesFollow
stored_lines_follow setting side seen half fits = record { choices = fits.come.choices; state = fits.to; plays = fits.come.plays; made = reached setting side seen half fits }

-- What a half has stored is of its side.
pub stored-own : (setting : Setting) (side : Side) (seen : List Line) (half : HalfView) → FitsAfter setting side seen half → lines_of (other side) half.end.lines ≡ []
stored-own setting side seen half fits =
    let alone : RanAlone side fits.from fits.to =
    all-alone setting side (own_choices side fits.stored.count) fits.from fits.to (all-same side false fits.stored.count) fits.stored.plays (run-sides setting fits.leading fits.from fits.leads) in
    ap (lines_of (other side)) (append_cancel_left fits.from.lines half.end.lines alone.lines (sym fits.stored.lines ∙ alone.following)) ∙ alone.own

-- Own steps

same-at : (setting : Setting) (side : Side) (seen : List Line) (half : HalfView) (fits : FitsAfter setting side seen half) → progress_of side fits.to.lines ≡ progress_of side (seen ++ half.end.lines)
same-at setting side seen half fits = ap (progress_of side) (reached setting side seen half fits)

-- a half that fits after lines may go on
pub may-go-on-following : (setting : Setting) (side : Side) (seen : List Line) (half : HalfView) → FitsAfter setting side seen half → MayGoOn half (progress_of side (seen ++ half.end.lines))
may-go-on-following setting side seen half fits = subst (λ (p : Progress). MayGoOn half p) (same-at setting side seen half fits) (may-go-on-at setting fits.to side half fits.come)

goes-on : (setting : Setting) (side : Side) (seen : List Line) (half after : HalfView) (fits : FitsAfter setting side seen half) → IsOwnStep half (progress_of side fits.to.lines) after → FitsAfter setting side seen after
goes-on setting side seen half after fits own =
    let to : RunState = fits.to in
    let output : Output = own.steps.output in
    let choice : Choice = record { side = side; delivers = false } in
    let last : RunState = run_after side to own.event output in
    let is = step-at setting to side half fits.come after own in
    let chosen = chosen-is setting choice to own.event output (own-within setting to side half fits.come after own) (has-at setting to side half fits.come after own) is in
    let prints : Prints (end_of side to.world) own.event output = step-prints setting.schema (end_of side to.world) (link_to side to.world) own.event output is in
    let at_side : (end_of side to.world).side ≡ side = side-of to.world side (run-sides setting fits.come.choices to fits.come.plays) in
    let are : output.lines ≡ map (line_at side) (prints.first ∷ prints.rest) = prints.lines ∙ ap (λ (s : Side). map (line_at s) (prints.first ∷ prints.rest)) at_side in
    let schema = schema-at setting to side half fits.come in
    record {
      from = fits.from;
      leading = fits.leading;
      leads = fits.leads;
      is_seen = fits.is_seen;
      to = last;
      come = record {
        sound = fits.come.sound;
        valid = fits.come.valid;
        small = fits.come.small;
        choices = fits.come.choices ++ choice ∷ [];
        plays = played-last setting fits.come.choices choice (beginning_of setting) to last fits.come.plays chosen.0;
        about =
            ap setting_of own.steps.same ∙ ap (λ (s : Schema). record { schema = s; script = half.script; stop = half.stop; limit = half.limit }) (ap (λ (v : EndView). v.schema) own.steps.is_after) ∙ fits.come.about;
        end = ap (λ (v : EndView). v.end) own.steps.is_after ∙ sym (ends-own side to own.event output);
        counted = subst (λ (p : Progress). IsCountedBy after p) (sym (own-progress side to.lines output.lines (prints.first ∷ prints.rest) are)) own.steps.counted;
      };
      stored = record {
        count = fits.stored.count + 1;
        plays =
            subst (λ (cs : List Choice). played setting cs fits.from ≡ Some last) (replicate_more fits.stored.count choice)
            (played-last setting (own_choices side fits.stored.count) choice fits.from to last fits.stored.plays chosen.0);
        lines =
            ap (λ (ls : List Line). ls ++ output.lines) fits.stored.lines ∙ append_assoc fits.from.lines half.end.lines output.lines
            ∙ ap (λ (ls : List Line). fits.from.lines ++ ls) (sym (ap (λ (v : EndView). v.lines) own.steps.is_after));
        sent = fits.stored.sent ++ output.packets;
        away =
            puts side to own.event output ∙ ap (λ (ps : List model.Packet). ps ++ output.packets) fits.stored.away
            ∙ append_assoc (link_to (other side) fits.from.world) fits.stored.sent output.packets;
        packets =
            ap (λ (v : EndView). v.packets) own.steps.is_after ∙ ap (λ (ps : List Packet). ps ++ packets_of half.end.schema output.packets) fits.stored.packets
            ∙ ap (λ (s : Schema). packets_of setting.schema fits.stored.sent ++ packets_of s output.packets) schema
            ∙ sym (map-append (packet_of setting.schema) fits.stored.sent output.packets);
        framed = all-append setting.schema fits.stored.sent output.packets fits.stored.framed (subst (λ (s : Schema). AllByRecursion (IsFramed s) output.packets) schema own.steps.framed);
      };
    }

-- after an own step, or where none was made, a half fits where it did
pub own-fits : (setting : Setting) (side : Side) (seen : List Line) (half after : HalfView) (a : StepAnswer) → FitsAfter setting side seen half → OwnGives half (progress_of side (seen ++ half.end.lines)) a after → FitsAfter setting side seen after
own-fits setting side seen half after answer.Did fits h =
    goes-on setting side seen half after fits (subst (λ (p : Progress). IsOwnStep half p after) (sym (same-at setting side seen half fits)) h)
own-fits setting side seen half after answer.Nothing fits h = subst (FitsAfter setting side seen) (sym h.1) fits
own-fits setting side seen half after (answer.Spent s) fits h = subst (FitsAfter setting side seen) (sym h.3) fits
own-fits setting side seen half after answer.NoMemory fits h = subst (FitsAfter setting side seen) (sym h) fits

-- it rests where nothing is next
pub some-is-next : (half : HalfView) (progress : Progress) (step : Option NextStep) → IsNext half progress step → is_some step ≡ is_some (next_of half progress)
some-is-next half progress None h = sym (ap is_some h)
some-is-next half progress (Some next.Main) h = sym (ap is_some h.is)
some-is-next half progress (Some next.Die) h = sym (ap is_some h)
some-is-next half progress (Some next.Take) h = sym (ap is_some h)
some-is-next half progress (Some next.Resume) h = sym (ap is_some h)
some-is-next half progress (Some next.Flush) h = sym (ap is_some h)
some-is-next half progress (Some next.Handler) h = sym (ap is_some h.is)

pub rests-so : (rests next : Bool) → next ≡ not rests → rests ≡ not next
rests-so true next h = sym (ap not h)
rests-so false next h = sym (ap not h)

-- Lines of the other side

other-other : (side : Side) → other (other side) ≡ side
other-other sides.Parent = refl
other-other sides.Child = refl

-- A history goes on from another one by lines of the other side alone: end and progress of a side stay as they were.
record StandsAlike (side : Side) (from to : RunState) : Type 0 where
  end : end_of side to.world ≡ end_of side from.world
  progress : progress_of side to.lines ≡ progress_of side from.lines

others-pass : (setting : Setting) (side : Side) (leading : List Choice) (from : RunState) (others : List Line) (history : IsCaseHistory setting (from.lines ++ others)) → played setting leading (beginning_of setting) ≡ Some from → lines_of side others ≡ []
    → StandsAlike side from history.state
others-pass setting side leading from others history leads none =
    let begins : RunState = beginning_of setting in
    let made : history.choices ≡ leading ++ choices_of others =
    sym (choices_are_read setting history.choices history.state history.plays) ∙ ap choices_of history.made ∙ filter_map-append choice_of from.lines others
    ∙ ap (λ (cs : List Choice). cs ++ choices_of others) (choices_are_read setting leading from leads) in
    let g : GoesOn setting leading (choices_of others) begins history.state =
    choices_grow setting leading (choices_of others) begins history.state (subst (λ (cs : List Choice). played setting cs begins ≡ Some history.state) made history.plays) in
    let both : Some g.between ≡ Some from = sym g.before ∙ leads in
    let same : g.between ≡ from = cc in
    let goes : played setting (choices_of others) from ≡ Some history.state = subst (λ (s : RunState). played setting (choices_of others) s ≡ Some history.state) same g.after in
    let alone : RanAlone (other side) from history.state = all-alone setting (other side) (choices_of others) from history.state (others-choose side others none) goes (run-sides setting leading from leads) in
    record {
      end = subst (λ (s : Side). end_of s history.state.world ≡ end_of s from.world) (other-other side) alone.rest;
      progress = ap (progress_of side) history.made ∙ progress-append side from.lines others ∙ ap (λ (ws : List What). after_lines (progress_of side from.lines) ws) none;
    }

-- A half that fits after lines fits after more lines of the other side too, where these are a history of the script.
pub halves_fit_after_more : HalvesFitAfterMore
halves_fit_after_more setting side seen others half fits none history =
    let known : IsCaseHistory setting (fits.from.lines ++ others) = subst (λ (ls : List Line). IsCaseHistory setting (ls ++ others)) (sym fits.is_seen) history in
    let stands : StandsAlike side fits.from known.state = others-pass setting side fits.leading fits.from others known fits.leads none in
    let again : IsPlayedAgain setting side (own_choices side fits.stored.count) fits.from fits.to known.state = play-again setting side fits.stored.count fits.from fits.to known.state fits.stored.plays stands.end stands.progress in
    let lines : again.alike.lines ≡ half.end.lines = append_cancel_left fits.from.lines again.alike.lines half.end.lines (sym again.alike.first ∙ fits.stored.lines) in
    let sent : again.alike.sent ≡ fits.stored.sent = append_cancel_left (link_to (other side) fits.from.world) again.alike.sent fits.stored.sent (sym again.alike.away ∙ fits.stored.away) in
    record {
      from = known.state;
      leading = known.choices;
      leads = known.plays;
      is_seen = known.made ∙ ap (λ (ls : List Line). ls ++ others) fits.is_seen;
      to = again.to;
      come = record {
        sound = fits.come.sound;
        valid = fits.come.valid;
        small = fits.come.small;
        choices = known.choices ++ own_choices side fits.stored.count;
        plays = plays-following setting known.choices (own_choices side fits.stored.count) (beginning_of setting) known.state again.to known.plays again.plays;
        about = fits.come.about;
        end = fits.come.end ∙ sym again.alike.end;
        counted = subst (λ (p : Progress). IsCountedBy half p) (sym again.alike.progress) fits.come.counted;
      };
      stored = record {
        count = fits.stored.count;
        plays = again.plays;
        lines = again.alike.second ∙ ap (λ (ls : List Line). known.state.lines ++ ls) lines;
        sent = fits.stored.sent;
        away = again.alike.away_again ∙ ap (λ (ps : List model.Packet). link_to (other side) known.state.world ++ ps) sent;
        packets = fits.stored.packets;
        framed = fits.stored.framed;
      };
    }

-- halves apart are so in the setting of the parent
pub split-own : (setting : Setting) (parent child : HalfView) (link : LinkView) → IsSplit setting parent child link → IsSplit (setting_of parent) parent child link
split-own setting parent child link h = subst (λ (s : Setting). IsSplit s parent child link) (sym h.parent_fits.come.about) h
