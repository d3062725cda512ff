-- What all the lines of transcripts show together.
use Rattle.std.proofs.Common.{◌≡◌, ℕ, List, [], ◌++◌, Some, sym, ap, ◌∙◌}
use Rattle.std.specs.List.{filter_map}
use Rattle.std.proofs.lemmas.List.{append-nil}
use Rattle.handler_script.specs.Valid.{IsValid}
use Rattle.ipdl_base.specs.Sound.{IsSound}
use Rattle.channel_model.specs.Runs.{RunState}
use Rattle.history.specs.Text.{transcript_text}
use Rattle.script_steps.proofs.Choosing.{choices_are_read}
use Rattle.script_steps.specs.Choices.{Setting, Choice, beginning_of, played}
use Rattle.script_transcripts.specs.Laws.{CaseTextsTellHistories}
use Rattle.script_runs.specs.Replays.{printed_lines}
use Rattle.script_runs.specs.Told.{choice_told}
use Rattle.script_runs.proofs.TextChoices.{texts-choices}
use Rattle.script_transcripts.proofs.Names.{case_names_are_words}
use Rattle.transcripts.specs.TextLines.{text_lines}
use Rattle.transcripts.proofs.Lines.{transcripts_are_lines}

-- the lines of what is printed, and then those of what follows
pub transcript-lines : (setting : Setting) (choices : List Choice) (state : RunState) (rest : List ℕ) → IsSound setting.schema → IsValid setting.schema setting.script → played setting choices (beginning_of setting) ≡ Some state
    → text_lines (transcript_text setting.schema state.lines ++ rest) ≡ printed_lines setting state ++ text_lines rest
transcript-lines setting choices state rest sound valid plays = transcripts_are_lines setting.schema state.lines rest sound (case_names_are_words setting choices state valid plays)

pub case_texts_tell_histories : CaseTextsTellHistories
case_texts_tell_histories setting one other state next sound valid plays goes same =
    let first : text_lines (transcript_text setting.schema state.lines ++ []) ≡ printed_lines setting state ++ [] = transcript-lines setting one state [] sound valid plays in
    let second : text_lines (transcript_text setting.schema next.lines ++ []) ≡ printed_lines setting next ++ [] = transcript-lines setting other next [] sound valid goes in
    let lines : printed_lines setting state ≡ printed_lines setting next =
    sym (append-nil (printed_lines setting state)) ∙ sym first ∙ ap (λ (text : List ℕ). text_lines (text ++ [])) same ∙ second ∙ append-nil (printed_lines setting next)
    in
    let as_one : one ≡ other =
    sym (choices_are_read setting one state plays) ∙ sym (texts-choices setting.schema [] state.lines) ∙ ap (filter_map choice_told) lines ∙ texts-choices setting.schema [] next.lines ∙ choices_are_read setting other next goes
    in
    let both : Some state ≡ Some next = sym plays ∙ ap (λ cs. played setting cs (beginning_of setting)) as_one ∙ goes in
    (as_one, cc)
