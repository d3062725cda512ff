use Rattle.std.proofs.Common.{◌⊎◌, ap, inl, inr, map, refl, subst}
use Rattle.std.specs.Prelude.{string_bytes}
use Rattle.file_log.specs.Recorded.{files_of, reads_of}
use Rattle.ipdl_top.specs.declared.answer.CommandAnswer.{CommandAnswer}
use Rattle.ipdl_top.specs.declared.status.Status.TheVariants.{WriteFault}
use Rattle.ipdl_top.specs.CommandAnswer.{IsAnswer}
use Rattle.ipdl_top.specs.FileViews.{FileViews}
use Rattle.ipdl_top.specs.Outcome.{IsBrokenOff, IsOutcomeOfReads, IsSaid}
use Rattle.ipdl_top.specs.Written.{WritesAll, Writing}
use Rattle.ipdl_top.proofs.Answered.{no_command_of, no_failure, no_read_failed, no_write_failure, of_no_command, outcome_seen}
use Rattle.ipdl_top.proofs.Views.{for_each_view, some_seen}
use Rattle.ipdl_top.proofs.program.ipdl.Goals as goal

pub returns-in-Ok-write_answer : goal.returns-in-Ok-write_answer
returns-in-Ok-write_answer g c =
    let Gives = g.D.Driver.Gives c.args.driver.now in
    let Relays = g.Q.Relay.Gives c.args.relay.now in
    let words = map string_bytes c.args.words.now in
    let answer = c.in-Ok.answer in
    let told = g.F.Files.known (files_of c.args.files.now) in
    let old = reads_of c.args.files.now in
    let new = reads_of c.answer_to.new.files in
    let out : Writing = record { old = g.O.Sink.written c.args.out.now; new = g.O.Sink.written c.write_answer.new.out } in
    let err : Writing = record { old = g.E.Sink.written c.args.err.now; new = g.E.Sink.written c.write_answer.new.err } in
    let P : FileViews → CommandAnswer → Type 0 = λ seen answer. IsAnswer Gives Relays seen words answer in
    let some = some_seen (λ seen. P seen answer) c.in-Ok.ensures.reads in
    let outcome : IsOutcomeOfReads told old new P answer.status out err = inl (for_each_view (λ seen. P seen answer) (λ seen. IsSaid (P seen) answer.status out err ⊎ IsBrokenOff (P seen) answer.status out err)
    (λ seen is. inl (record { answer = answer; is = is; ends = refl; written = c.in-Ok-write_answer.ensures.all })) c.in-Ok.ensures.reads) in
    record {
      usage = λ usage. no_command_of Gives Relays some.0 words answer usage some.1;
      no_command = λ none. inl (ap (λ (a : CommandAnswer). a.status) (of_no_command Gives Relays some.0 words answer none some.1));
      usage_text = λ usage.
          subst (λ (a : CommandAnswer). WritesAll a out err) (of_no_command Gives Relays some.0 words answer (no_command_of Gives Relays some.0 words answer usage some.1) some.1) c.in-Ok-write_answer.ensures.all;
      answer = outcome_seen told old new P answer.status out err outcome;
      reads = outcome;
      ended = no_read_failed answer.status old new (λ fault. no_failure Gives Relays some.0 words answer some.1 (inl fault)) c.in-Ok.ensures.ended;
      read_fault = λ fault. absurd (no_failure Gives Relays some.0 words answer some.1 (inl fault));
      write_fault = λ fault. absurd (no_write_failure Gives Relays some.0 words answer some.1 fault);
      nothing = λ failed. absurd (no_failure Gives Relays some.0 words answer some.1 failed);
      unread = c.in-Ok.ensures.unread;
      untouched = c.in-Ok.ensures.untouched;
    }

pub returns-in-Ok-clause-reads : goal.returns-in-Ok-clause-reads
returns-in-Ok-clause-reads g c =
    let out : Writing = record { old = g.O.Sink.written c.args.out.now; new = g.O.Sink.written c.write_answer.new.out } in
    let err : Writing = record { old = g.E.Sink.written c.args.err.now; new = g.E.Sink.written c.write_answer.new.err } in
    let P : FileViews → CommandAnswer → Type 0 = λ seen answer. IsAnswer (g.D.Driver.Gives c.args.driver.now) (g.Q.Relay.Gives c.args.relay.now) seen (map string_bytes c.args.words.now) answer in
    inl (for_each_view (λ seen. P seen c.in-Ok.answer) (λ seen. IsSaid (P seen) WriteFault out err ⊎ IsBrokenOff (P seen) WriteFault out err)
    (λ seen is. inr (record { answer = c.in-Ok.answer; is = is; ends = refl; written = c.in-Err.ensures.front })) c.in-Ok.ensures.reads)

pub returns-in-Ok-clause-answer : goal.returns-in-Ok-clause-answer
returns-in-Ok-clause-answer g c = outcome_seen _ _ _ _ _ _ _ (returns-in-Ok-clause-reads g c)

pub returns-in-Err-ReadFault-clause-answer : goal.returns-in-Err-ReadFault-clause-answer
returns-in-Err-ReadFault-clause-answer g c = outcome_seen _ (reads_of c.args.files.now) (reads_of c.answer_to.new.files) _ _ _ _ (inr (inl refl))

pub returns-clause-answer : goal.returns-clause-answer
returns-clause-answer g c = outcome_seen _ (reads_of c.args.files.now) (reads_of c.answer_to.new.files) _ _ _ _ (inr (inr refl))
