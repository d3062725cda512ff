-- A process whose words are not a command, and ask for nothing.
use Rattle.std.proofs.Common.{◌≡◌, ◌⊎◌, ℕ, List, [], refl, sym, ◌∙◌, ap, inl, inr}
use Rattle.std.specs.Prelude.{None}
use Rattle.std.proofs.lemmas.Option.{same_Some}
use Rattle.command_words.specs.Topics.{MeanNothing}
use Rattle.ipdl_top.specs.Command.{usage_text}
use Rattle.ipdl_top.specs.CommandAnswer.{usage_answer}
use Rattle.ipdl_top.specs.FileViews.{FileViews, steady}
use Rattle.ipdl_top.specs.Outcome.{IsBrokenOff, IsSaid}
use Rattle.ipdl_top.specs.declared.status.Status.TheVariants.{Usage}
use Rattle.ipdl_top.proofs.Answered.{of_no_command}
use Rattle.thread_link.specs.Runs.{RunsAtOnce}
use Rattle.world_core.specs.Relaying.{IsRelayed}
use Rattle.ipdl_cli.specs.Ending.{AnswersByReads, IsAnswerTo, Process, only_written}
use Rattle.ipdl_cli.proofs.Statuses.{usage_alone}

-- it may read nothing, end with 2, and write the usage text to standard error only
pub may_say_usage : (words : List (List ℕ)) → MeanNothing words → AnswersByReads (record { words = words; reads = []; code = 2; out = []; err = usage_text })
may_say_usage words none = record {
  status = Usage;
  outcome = inl record {
    parts = record { files = []; list = []; script = []; input = [] };
    logged = refl;
    told_agrees = tt;
    consistent = (steady (λ name. None), record { files = tt; list = tt; script = tt; input = tt });
    each = λ seen agrees. inl record { answer = usage_answer; is = inr (none.0, inr (none.1, refl)); ends = refl; written = record { out_text = refl; err_text = refl } };
  };
  reads = record { reads = []; logged = refl; none = tt };
  nothing = λ stops. absurd (elim stops [ inl is ↦ cc | inr is ↦ cc ]);
  ends = refl;
}

-- if it ends with 2, it wrote the usage text to standard error, and nothing to standard output
pub says_usage : (process : Process) → MeanNothing process.words → AnswersByReads process → process.code ≡ 2 → (process.out ≡ []) × (process.err ≡ usage_text)
says_usage process none answers two =
    let usage : answers.status ≡ Usage = usage_alone answers.status (sym answers.ends ∙ two) in
    elim answers.outcome [
      | inl views ↦ by_answer (views.consistent.0) usage (views.each views.consistent.0 views.consistent.1)
      | inr failed ↦ absurd (elim failed [ inl is ↦ (let no : ⊥ = cc in no) | inr is ↦ (let no : ⊥ = cc in no) ])
    ]
  where
    by_answer : (seen : FileViews) → answers.status ≡ Usage
        → IsSaid (IsAnswerTo process.words seen) answers.status (only_written process.out) (only_written process.err) ⊎ IsBrokenOff (IsAnswerTo process.words seen) answers.status (only_written process.out) (only_written process.err)
        → (process.out ≡ []) × (process.err ≡ usage_text)
    by_answer seen usage (inl said) =
        let answer = of_no_command RunsAtOnce (λ before. IsRelayed before.setting) seen process.words said.answer none said.is in
        (same_Some _ _ said.written.out_text ∙ ap (λ a. a.out) answer, same_Some _ _ said.written.err_text ∙ ap (λ a. a.err) answer)
    by_answer seen usage (inr broken) = absurd (let no : ⊥ = cc (usage, broken.ends) in no)
