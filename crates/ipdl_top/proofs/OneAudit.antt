-- An audit has one answer.
use Rattle.std.proofs.Common.{◌≡◌, ◌∙◌, ℕ, ◌≤◌, Bool, true, false, not, ◌&&◌, cond, if◌then◌else◌, List, [], ◌∷◌, ◌++◌, length, take, drop, filter, refl, sym, ap, arith}
use Rattle.std.specs.Prelude.{Option, None, Some}
use Rattle.std.specs.List.{cons_option, filter_map}
use Rattle.std.proofs.lemmas.List.{append-nil, take-append-drop}
use Rattle.std.proofs.lemmas.List.Elements.{filter_map-append}
use Rattle.std.proofs.lemmas.List.Sums.{length-filter}
use Rattle.ipdl_base.specs.declared.kinds.Side.TheVariants as sides
use Rattle.ipdl_base.specs.declared.line.Line.{Line}
use Rattle.ipdl_base.specs.declared.schema.Schema.{Schema}
use Rattle.ipdl_base.specs.Lines.{is_effect}
use Rattle.ipdl_base.specs.Sound.{IsSound}
use Rattle.channel_model.specs.Runs.{RunState}
use Rattle.handler_script.specs.declared.script.Script.{Script}
use Rattle.handler_script.specs.Plain.{plain_script}
use Rattle.handler_script.specs.Valid.{IsValid}
use Rattle.schema_laws.specs.Frames.{AreSchemasAlike}
use Rattle.schema_laws.specs.Runs.{AreSettingsAlike, ChoicesAlike, ScriptsAlike, TextsAlike}
use Rattle.script_runs.specs.Endings.{EndsAs, ending_line}
use Rattle.script_runs.specs.Replays.{printed_lines}
use Rattle.script_runs.specs.Told.{choice_told}
use Rattle.script_runs.proofs.TextChoices.{texts-choices}
use Rattle.script_steps.specs.Choices.{Choice, Setting, choices_of, is_delivery_line}
use Rattle.script_steps.specs.Turns.{RunEnding, at_limit, at_rest}
use Rattle.script_transcripts.specs.Legal.{AreFirstLines, AreLegalSoFar, IsLegalText}
use Rattle.script_transcripts.proofs.Fronts.{ending-alone}
use Rattle.script_transcripts.proofs.Texts.{transcript-lines}
use Rattle.transcripts.specs.TextLines.{text_lines}
use Rattle.transcripts.specs.Compared.{events_in, most_text_bytes}
use Rattle.ipdl_top.specs.declared.answer.CommandAnswer.{CommandAnswer}
use Rattle.ipdl_top.specs.declared.audit.outcome.Audit.{Audit}
use Rattle.ipdl_top.specs.declared.audit.outcome.Audit.TheVariants as audit
use Rattle.ipdl_top.specs.Audit.{SaysAudit, SaysAudited, SaysAuditedOf, audit_answer}
use Rattle.ipdl_top.specs.Audited.{IsAudited, audited_setting}
use Rattle.ipdl_top.specs.Inputs.{absent_answer, larger_answer}
use Rattle.ipdl_top.specs.declared.status.Status.TheVariants.{BadTranscript}
use Rattle.ipdl_top.proofs.OneFile.{file_one}
use Rattle.ipdl_top.proofs.OneScript.{IsAny, script_one}

-- the laws that an audit rests on
pub record AuditLaws : Type 0 where
  pub choices : ChoicesAlike
  pub texts : TextsAlike
  pub scripts : ScriptsAlike

-- What settings that are the same up to boxes have in common

module _ (laws : AuditLaws) (a b : Setting) (alike : AreSettingsAlike a b) where
  ends_too : (state : RunState) (ending : RunEnding) → EndsAs a state ending → EndsAs b state ending
  ends_too state at_rest h =
      let parent = laws.choices.quiet a b alike state sides.Parent in
      let child = laws.choices.quiet a b alike state sides.Child in
      sym (λ i. parent i && child i) ∙ h
  ends_too state (at_limit side) h = (sym (laws.choices.within a b alike side state) ∙ h.0, sym (laws.choices.quiet a b alike state side) ∙ h.1)

  legal_too : (text : List ℕ) → IsLegalText a text → IsLegalText b text
  legal_too text l = record {
    choices = l.choices;
    state = l.state;
    plays = sym (laws.choices.plays a b alike l.choices) ∙ l.plays;
    ending = l.ending;
    ends = ends_too l.state l.ending l.ends;
    is = l.is ∙ ap (λ (t : List ℕ). t ++ ending_line l.ending) (laws.texts a.schema b.schema alike.schemas l.state.lines);
  }

  first_too : (lines : List (List ℕ)) → AreFirstLines a lines → AreFirstLines b lines
  first_too lines first = record { whole = first.whole; legal = legal_too first.whole first.legal; others = first.others; is = first.is }

  -- the first lines of a text that are legal under one are legal under the other
  no_fewer : (text : List ℕ) (count other : ℕ) → AreLegalSoFar a text count → AreLegalSoFar b text other → count ≤ other
  no_fewer text count other x y = y.most count x.there (first_too (take count (text_lines text)) x.first)

  -- all lines of a text that is legal under one are legal under the other
  all_lines : (text : List ℕ) (count : ℕ) → IsLegalText a text → AreLegalSoFar b text count → length (text_lines text) ≤ count
  all_lines text count l y =
      let lines = text_lines text in
      y.most (length lines) (omega arith) (record { whole = text; legal = legal_too text l; others = drop (length lines) lines; is = sym (take-append-drop (length lines) lines) })

settings_back : (a b : Setting) → AreSettingsAlike a b → AreSettingsAlike b a
settings_back a b alike = record { schemas = sym alike.schemas; scripts = sym alike.scripts; stop = sym alike.stop; limit = sym alike.limit }

-- The lines of a legal text give the number of its events

counted : (effect : Bool) (line : Line) (rest : List Line) (choice : Choice) (choices : List Choice) → length rest ≡ length choices
    → length (cond (not effect) (line ∷ rest) rest) ≡ length (cons_option (if effect then None else Some choice) choices)
counted true line rest choice choices h = h
counted false line rest choice choices h = omega (arith, h)

event_lines : (lines : List Line) → length (filter (λ (line : Line). not (is_effect line.what)) lines) ≡ length (choices_of lines)
event_lines [] = refl
event_lines (line ∷ lines) =
    counted (is_effect line.what) line (filter (λ (line : Line). not (is_effect line.what)) lines) (record { side = line.side; delivers = is_delivery_line line.what }) (choices_of lines) (event_lines lines)

ending_tells : (ending : RunEnding) → filter_map choice_told (ending_line ending ∷ []) ≡ []
ending_tells at_rest = refl
ending_tells (at_limit sides.Parent) = refl
ending_tells (at_limit sides.Child) = refl

events_told : (setting : Setting) → IsSound setting.schema → IsValid setting.schema setting.script → (text : List ℕ) (l : IsLegalText setting text) → events_in l.state.lines ≡ length (filter_map choice_told (text_lines text))
events_told setting sound valid text l =
    let printed : List (List ℕ) = printed_lines setting l.state in
    let ending : List ℕ = ending_line l.ending in
    let lines : text_lines text ≡ printed ++ ending ∷ [] =
    ap text_lines l.is ∙ transcript-lines setting l.choices l.state ending sound valid l.plays ∙ ap (λ (ls : List (List ℕ)). printed ++ ls) (ending-alone setting sound valid l.ending)
    in
    let told : filter_map choice_told (text_lines text) ≡ choices_of l.state.lines =
    ap (filter_map choice_told) lines ∙ filter_map-append choice_told printed (ending ∷ []) ∙ ap (λ (cs : List Choice). filter_map choice_told printed ++ cs) (ending_tells l.ending) ∙ append-nil (filter_map choice_told printed)
    ∙ texts-choices setting.schema [] l.state.lines
    in
    sym (length-filter (λ (line : Line). not (is_effect line.what)) l.state.lines) ∙ event_lines l.state.lines ∙ ap length (sym told)

-- What an audit says

-- a setting by which runs can be followed
pub record CanRun (setting : Setting) : Type 0 where
  pub sound : IsSound setting.schema
  pub valid : IsValid setting.schema setting.script

audits_one : AuditLaws → (a b : Setting) → AreSettingsAlike a b → CanRun a → CanRun b → (text : List ℕ) (one other : Audit) → IsAudited a text one → IsAudited b text other → one ≡ other
audits_one laws a b alike can may text (audit.Legal m) (audit.Legal n) x y =
    let same : m ≡ n = x.1 ∙ events_told a can.sound can.valid text x.0 ∙ sym (events_told b may.sound may.valid text y.0) ∙ sym y.1 in
    ap (λ (events : ℕ). audit.Legal events) same
audits_one laws a b alike can may text (audit.Legal m) (audit.Early n) x y = absurd (y.0 (legal_too laws a b alike text x.0))
audits_one laws a b alike can may text (audit.Legal m) (audit.NoStep n) x y =
    let all : length (text_lines text) ≤ y.0 = all_lines laws a b alike text y.0 x.0 y.1 in
    absurd (omega (arith, all, y.2))
audits_one laws a b alike can may text (audit.Early m) (audit.Legal n) x y = absurd (x.0 (legal_too laws b a (settings_back a b alike) text y.0))
audits_one laws a b alike can may text (audit.Early m) (audit.Early n) x y = ap (λ (at : ℕ). audit.Early at) (x.2 ∙ sym y.2)
audits_one laws a b alike can may text (audit.Early m) (audit.NoStep n) x y =
    let more : length (text_lines text) ≤ y.0 = no_fewer laws a b alike text (length (text_lines text)) y.0 x.1 y.1 in
    absurd (omega (arith, more, y.2))
audits_one laws a b alike can may text (audit.NoStep m) (audit.Legal n) x y =
    let all : length (text_lines text) ≤ x.0 = all_lines laws b a (settings_back a b alike) text x.0 y.0 x.1 in
    absurd (omega (arith, all, x.2))
audits_one laws a b alike can may text (audit.NoStep m) (audit.Early n) x y =
    let more : length (text_lines text) ≤ x.0 = no_fewer laws b a (settings_back a b alike) text (length (text_lines text)) x.0 y.1 x.1 in
    absurd (omega (arith, more, x.2))
audits_one laws a b alike can may text (audit.NoStep m) (audit.NoStep n) x y =
    let most : x.0 ≤ y.0 = no_fewer laws a b alike text x.0 y.0 x.1 y.1 in
    let least : y.0 ≤ x.0 = no_fewer laws b a (settings_back a b alike) text y.0 x.0 y.1 x.1 in
    let same : m ≡ n = omega (arith, most, least, x.3, y.3) in
    ap (λ (at : ℕ). audit.NoStep at) same

audited_one : AuditLaws → (limit : ℕ) (name text : List ℕ) (a b : Schema) → AreSchemasAlike a b → (s t : Script) → plain_script s ≡ plain_script t → (one other : CommandAnswer)
    → SaysAudited limit name text a s one → SaysAudited limit name text b t other → one ≡ other
audited_one laws limit name text a b alike s t same one other x y =
    let settings : AreSettingsAlike (audited_setting a s limit) (audited_setting b t limit) = record { schemas = alike; scripts = same; stop = refl; limit = refl } in
    let found : x.found ≡ y.found =
    audits_one laws (audited_setting a s limit) (audited_setting b t limit) settings (record { sound = x.sound; valid = x.valid }) (record { sound = y.sound; valid = y.valid }) text x.found y.found x.audited y.audited
    in
    x.says ∙ ap (audit_answer name) found ∙ sym y.says

audited_of_one : AuditLaws → (limit : ℕ) (name : List ℕ) (text : Option (List ℕ)) (a b : Schema) → AreSchemasAlike a b → (s t : Script) → plain_script s ≡ plain_script t → (one other : CommandAnswer)
    → IsAny one → SaysAuditedOf limit name text a s one → SaysAuditedOf limit name text b t other → one ≡ other
audited_of_one laws limit name text a b alike s t same one other any x y =
    file_one (absent_answer BadTranscript name) (larger_answer BadTranscript name) most_text_bytes (λ text. SaysAudited limit name text a s) (λ text. SaysAudited limit name text b t) one other
    (λ text. audited_one laws limit name text a b alike s t same one other) text x y

pub audit_one : AuditLaws → (limit : ℕ) (script : List ℕ) (held : Option (List ℕ)) (name : List ℕ) (text : Option (List ℕ)) (file : List ℕ) (a b : Schema) → AreSchemasAlike a b → (one other : CommandAnswer)
    → SaysAudit limit script held name text file a one → SaysAudit limit script held name text file b other → one ≡ other
audit_one laws limit script held name text file = script_one laws.scripts (SaysAuditedOf limit name text) (audited_of_one laws limit name text) script held file
