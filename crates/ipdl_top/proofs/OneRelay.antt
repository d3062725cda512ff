-- A relay has one answer where it is finished.
use Rattle.std.proofs.Common.{◌≡◌, ◌≢◌, ◌∙◌, ◌++◌, ℕ, List, refl, sym, ap, subst}
use Rattle.std.specs.Prelude.{Option}
use Rattle.ipdl_base.specs.declared.schema.Schema.{Schema}
use Rattle.command_words.specs.Relay.{RelayCourse}
use Rattle.handler_script.specs.declared.script.Script.{Script}
use Rattle.handler_script.specs.Plain.{plain_script}
use Rattle.history.specs.Text.{transcript_text}
use Rattle.relay_history.specs.Laws.{RelaysHaveOneResult}
use Rattle.relay_runs.specs.RelaySteps.{IsRelay, RelayState}
use Rattle.relay_runs.specs.Relays.{EndsAs}
use Rattle.schema_laws.specs.Frames.{AreSchemasAlike}
use Rattle.schema_laws.specs.Relays.{RelaysAlike}
use Rattle.schema_laws.specs.Runs.{AreSettingsAlike, ScriptsAlike, TextsAlike}
use Rattle.script_steps.specs.Choices.{Setting}
use Rattle.script_steps.specs.Turns.{RunEnding, at_limit, at_rest}
use Rattle.world_core.specs.declared.relay.Halves.{Halves}
use Rattle.ipdl_top.specs.declared.answer.CommandAnswer.{CommandAnswer}
use Rattle.ipdl_top.specs.declared.status.Status.TheVariants.{Spent}
use Rattle.ipdl_top.specs.Ended.{ended_answer, run_status}
use Rattle.ipdl_top.specs.Relay.{Relaying, SaysRelay, SaysRelayed, half_lines, halves_text, relay_setting}
use Rattle.ipdl_top.proofs.OneScript.{script_one_such}

-- the laws that a relay rests on
pub record RelayLaws : Type 0 where
  pub alike : RelaysAlike
  pub one : RelaysHaveOneResult
  pub texts : TextsAlike
  pub scripts : ScriptsAlike

-- An answer that is not that a side is spent says that the relay is finished.
is_finished : (ending : RunEnding) → run_status ending ≢ Spent → ending ≡ at_rest
is_finished at_rest unspent = refl
is_finished (at_limit side) unspent = absurd (unspent refl)

-- where a relay of a setting is finished, so is each other one, with the same lines
all_finished : RelaysHaveOneResult → (setting : Setting) (one two : RelayState) → IsRelay setting one → IsRelay setting two → EndsAs setting one at_rest → (ending : RunEnding) → EndsAs setting two ending → (one ≡ two) × (at_rest ≡ ending)
all_finished results setting one two run other finished at_rest ends = ((results setting one two run other).same finished ends, refl)
all_finished results setting one two run other finished (at_limit side) ends = absurd ((results setting one two run other).unspent finished side ends)

-- the text of both halves under schemas that are the same up to boxes
same_halves : TextsAlike → (a b : Schema) → AreSchemasAlike a b → (halves others : Halves) → half_lines halves.parent ≡ half_lines others.parent → half_lines halves.child ≡ half_lines others.child → halves_text a halves ≡ halves_text b others
same_halves texts a b alike halves others parent child =
    (λ i. texts a b alike (half_lines halves.parent) i ++ texts a b alike (half_lines halves.child) i) ∙ (λ i. transcript_text b (parent i) ++ transcript_text b (child i))

relayed_one : RelayLaws → (Relays : Relaying) (course : RelayCourse) (a b : Schema) → AreSchemasAlike a b → (s t : Script) → plain_script s ≡ plain_script t → (one other : CommandAnswer)
    → one.status ≢ Spent → SaysRelayed Relays course a s one → SaysRelayed Relays course b t other → one ≡ other
relayed_one laws Relays course a b alike s t same one other unspent x y =
    let S : Setting = relay_setting a s course in
    let T : Setting = relay_setting b t course in
    let settings : AreSettingsAlike S T = record { schemas = alike; scripts = same; stop = refl; limit = refl } in
    let rests : x.ending ≡ at_rest = is_finished x.ending (λ is. unspent (ap (λ (answer : CommandAnswer). answer.status) x.says ∙ is)) in
    let finished : EndsAs T x.relayed.state at_rest = laws.alike.ends S T settings x.relayed.state at_rest (subst (EndsAs S x.relayed.state) rests x.relayed.ends) in
    let ends = all_finished laws.one T x.relayed.state y.relayed.state (laws.alike.runs S T settings x.relayed.state x.relayed.relay) y.relayed.relay finished y.ending y.relayed.ends in
    let parent : half_lines x.halves.parent ≡ half_lines y.halves.parent = sym x.relayed.parent_lines ∙ ap (λ (state : RelayState). state.parent.lines) ends.0 ∙ y.relayed.parent_lines in
    let child : half_lines x.halves.child ≡ half_lines y.halves.child = sym x.relayed.child_lines ∙ ap (λ (state : RelayState). state.child.lines) ends.0 ∙ y.relayed.child_lines in
    x.says ∙ ap (λ (text : List ℕ). ended_answer text x.ending) (same_halves laws.texts a b alike x.halves y.halves parent child)
    ∙ ap (ended_answer (halves_text b y.halves)) (rests ∙ ends.1) ∙ sym y.says

pub relay_one : RelayLaws → (Relays : Relaying) (course : RelayCourse) (name : List ℕ) (held : Option (List ℕ)) (file : List ℕ) (a b : Schema) → AreSchemasAlike a b → (one other : CommandAnswer)
    → one.status ≢ Spent → SaysRelay Relays course name held file a one → SaysRelay Relays course name held file b other → one ≡ other
relay_one laws Relays course name held file = script_one_such laws.scripts (λ answer. answer.status ≢ Spent) (SaysRelayed Relays course) (relayed_one laws Relays course) name held file
