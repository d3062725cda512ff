-- What is known of the worlds to which choices lead, because they are runs.
use Rattle.std.proofs.Common.{◌≡◌, ℕ, ◌<◌, ◌≤◌, true, List, [], ◌∷◌, ◌++◌, Some, None, refl, sym, ap, subst, ◌∙◌, arith}
use Rattle.std.specs.Prelude.{option_and_then}
use Rattle.std.specs.List.{AllByRecursion}
use Rattle.ipdl_base.specs.declared.kinds.EndState.{EndState}
use Rattle.ipdl_base.specs.declared.kinds.EndState.TheVariants.{Open, Draining, Closed, Dead}
use Rattle.ipdl_base.specs.declared.kinds.Side.{Side}
use Rattle.ipdl_base.specs.declared.kinds.Side.TheVariants as sides
use Rattle.ipdl_base.specs.declared.line.Line.{Line}
use Rattle.ipdl_base.specs.declared.schema.Schema.{Schema}
use Rattle.ipdl_base.specs.Sound.{IsSound}
use Rattle.history_reading.specs.EndReading.{EndReading}
use Rattle.history_reading.specs.Reading.{read}
use Rattle.channel_model.specs.Ends.{End, World, end_of, link_to, opening}
use Rattle.channel_model.specs.Events.{Move}
use Rattle.channel_model.specs.Fitting.{IsFitting, FitsPacket}
use Rattle.channel_model.specs.Outputs.{is_open}
use Rattle.channel_model.specs.Refusals.{packet_refusal}
use Rattle.channel_model.specs.Runs.{RunState, run, history_of}
use Rattle.channel_model.specs.States.{IsInState}
use Rattle.channel_laws.specs.AnswersOnce.{owes_answer}
use Rattle.channel_laws.specs.Counts.{how_many}
use Rattle.channel_laws.specs.FittingWorlds.{IsFittingWorld, IsShort}
use Rattle.channel_laws.specs.Laws.{world_of}
use Rattle.channel_laws.specs.ReadingLaws.{EndIsRead, WorldIsRead}
use Rattle.channel_laws.proofs.AllLaws.{histories_obey_all_laws}
use Rattle.channel_laws.proofs.FittingRuns.{worlds_fit_in_runs}
use Rattle.channel_laws.proofs.HonestRuns.{honest_packets_are_accepted}
use Rattle.channel_laws.proofs.Readable.{histories_are_readable}
use Rattle.channel_laws.proofs.WorldReading.{reading_is_world}
use Rattle.script_steps.specs.Choices.{Setting, Choice, beginning_of, chosen, played}
use Rattle.script_steps.specs.Laws.{IsRunOf, IsCountedBy}
use Rattle.script_steps.specs.Progress.{progress_of}
use Rattle.script_steps.proofs.Counting.{choices_are_counted}
use Rattle.script_steps.proofs.Playing.{choices_are_runs, PlaysOn, plays_on}
use Rattle.script_runs.specs.Laws.{HasLimit, FitsCase, CaseWorldsFit, ObeysAllLaws, CaseHistoriesObeyAllLaws}

-- Choices lead from the start to a state.
pub record IsCase (setting : Setting) (state : RunState) : Type 0 where
  pub choices : List Choice
  pub plays : played setting choices (beginning_of setting) ≡ Some state

-- one more choice
pub played-last : (setting : Setting) (front : List Choice) (choice : Choice) (from state next : RunState) → played setting front from ≡ Some state → chosen setting choice state ≡ Some next → played setting (front ++ choice ∷ []) from ≡ Some next
played-last setting [] choice from state next h k =
    let same : from ≡ state = cc in
    subst (λ (s : RunState). played setting (choice ∷ []) s ≡ Some next) (sym same) (ap (option_and_then (played setting [])) k)
played-last setting (first ∷ front) choice from state next h k =
    let p : PlaysOn setting first front from state = plays_on setting first front from state h in
    ap (option_and_then (played setting (front ++ choice ∷ []))) p.first ∙ played-last setting front choice p.next state next p.rest k

pub case-next : (setting : Setting) (choice : Choice) (state next : RunState) → IsCase setting state → chosen setting choice state ≡ Some next → IsCase setting next
case-next setting choice state next c k = record { choices = c.choices ++ choice ∷ []; plays = played-last setting c.choices choice (beginning_of setting) state next c.plays k }

-- Laws

obeys : (schema : Schema) (top : ℕ) (moves : List Move) → IsSound schema → ObeysAllLaws schema (history_of schema top moves)
obeys schema top moves sound = record { readable = histories_are_readable schema sound top moves; laws = histories_obey_all_laws schema sound top moves }

pub case_histories_obey_all_laws : CaseHistoriesObeyAllLaws
case_histories_obey_all_laws setting lines sound c =
    let r : IsRunOf setting c.state = choices_are_runs setting c.choices c.state c.plays in
    subst (ObeysAllLaws setting.schema) (ap (λ (s : RunState). s.lines) r.runs ∙ c.made) (obeys setting.schema setting.script.top r.moves sound)

-- Reading

read-at : (schema : Schema) (w : World) (lines : List Line) (side : Side) → WorldIsRead schema w (read schema lines) → (own : EndReading) × EndIsRead schema (end_of side w) own
read-at schema w lines sides.Parent r = ((read schema lines).parent, r.parent)
read-at schema w lines sides.Child r = ((read schema lines).child, r.child)

-- What is known of each end after choices.
pub record IsCaseEnd (schema : Schema) (e : End) : Type 0 where
  pub state : IsInState e
  pub once : (n : _) → how_many (owes_answer n) e.stack ≤ 1

once-of : (schema : Schema) (e : End) (own : EndReading) → EndIsRead schema e own → (n : _) → how_many (owes_answer n) e.stack ≤ 1
once-of schema e own r n =
    let all = r.exchanges.answers.numbered.once n in
    omega (arith, all)

pub case-end : (setting : Setting) (state : RunState) (side : Side) → IsSound setting.schema → IsCase setting state → IsCaseEnd setting.schema (end_of side state.world)
case-end setting state side sound c =
    let r : IsRunOf setting state = choices_are_runs setting c.choices state c.plays in
    let read : (own : EndReading) × EndIsRead setting.schema (end_of side (run setting.schema r.moves (opening setting.script.top)).world) own =
    read-at setting.schema (run setting.schema r.moves (opening setting.script.top)).world (history_of setting.schema setting.script.top r.moves) side (reading_is_world setting.schema sound setting.script.top r.moves)
    in
    subst (λ (s : RunState). IsCaseEnd setting.schema (end_of side s.world)) r.runs
    (record { state = read.1.actors.state; once = once-of setting.schema (end_of side (run setting.schema r.moves (opening setting.script.top)).world) read.0 read.1 })

-- Fitting

below : (a b : ℕ) → a ≤ b → b < 268435456 → a < 268435456
below a b h k = omega (arith, h, k)

short : (setting : Setting) (state : RunState) → HasLimit setting → IsCase setting state → IsShort state.world
short setting state limit c =
    let counted : (side : Side) → IsCountedBy setting state side = choices_are_counted setting c.choices state c.plays in
    let p = counted sides.Parent in
    let q = counted sides.Child in
    record {
      parent = below state.world.parent.sent (progress_of sides.Parent state.lines).events p.sent (below (progress_of sides.Parent state.lines).events setting.limit p.limit limit);
      child = below state.world.child.sent (progress_of sides.Child state.lines).events q.sent (below (progress_of sides.Child state.lines).events setting.limit q.limit limit);
    }

opened : (state : EndState) → is_open state ≡ true → state ≡ Open
opened Open h = refl
opened Draining h = cc
opened Closed h = cc
opened Dead h = cc

fits-at : (setting : Setting) (state : RunState) (side : Side) → IsFittingWorld setting.schema state.world → IsFitting setting.schema (end_of side state.world) × AllByRecursion (FitsPacket setting.schema) (link_to side state.world)
fits-at setting state sides.Parent f = (f.parent, f.to_parent)
fits-at setting state sides.Child f = (f.child, f.to_child)

fits-world : (setting : Setting) (state : RunState) (side : Side) → IsSound setting.schema → HasLimit setting → IsCase setting state → IsRunOf setting state → FitsCase setting state side
fits-world setting state side sound limit c r =
    let is : world_of setting.schema setting.script.top r.moves ≡ state.world = ap (λ (s : RunState). s.world) r.runs in
    let fits : IsFittingWorld setting.schema state.world = subst (IsFittingWorld setting.schema) is (worlds_fit_in_runs setting.schema sound setting.script.top r.moves (subst IsShort (sym is) (short setting state limit c))) in
    let both = fits-at setting state side fits in
    record {
      end = both.0;
      link = both.1;
      accepted = λ packet rest is_open link.
          subst (λ (w : World). packet_refusal setting.schema (end_of side w) packet ≡ None) is
          (honest_packets_are_accepted setting.schema sound setting.script.top r.moves side packet rest
          (subst (λ (w : World). (end_of side w).state ≡ Open) (sym is) (opened (end_of side state.world).state is_open))
          (subst (λ (w : World). link_to side w ≡ packet ∷ rest) (sym is) link));
    }

pub case-fits : (setting : Setting) (state : RunState) (side : Side) → IsSound setting.schema → HasLimit setting → IsCase setting state → FitsCase setting state side
case-fits setting state side sound limit c = fits-world setting state side sound limit c (choices_are_runs setting c.choices state c.plays)

pub case_worlds_fit : CaseWorldsFit
case_worlds_fit setting choices state sound limit h side = case-fits setting state side sound limit (record { choices = choices; plays = h })
