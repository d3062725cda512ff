use Rattle.std.proofs.Common.{◌≡◌, ℕ, List, [], ◌++◌, ◌∙◌, ap, drop, inl, inr, map, string_bytes, subst}
use Rattle.std.specs.Prelude.{None, Some}
use Rattle.std.proofs.lemmas.Option.{same_Some}
use Rattle.std.specs.Process.{exit_status}
use Rattle.file_log.specs.Log.{ReadEntry}
use Rattle.file_log.specs.Recorded.{reads_of}
use Rattle.ipdl_top.specs.Codes.{code_of}
use Rattle.ipdl_top.specs.FileViews.{FileViews}
use Rattle.ipdl_top.specs.declared.answer.CommandAnswer.{CommandAnswer}
use Rattle.host_io.specs.Streams.{bytes_of}
use Rattle.ipdl_cli.specs.Ending.{EndsByReads, IsAnswerTo, only_written}
use Rattle.ipdl_cli.proofs.run.Goals as goal

-- how a call ends if nothing was read or written before it
from_nothing : (IsIt : FileViews → CommandAnswer → Type 0) (old new : List ReadEntry) (code : ℕ) (out out' err err' : List ℕ) → old ≡ [] → out ≡ [] → err ≡ []
    → EndsByReads None old new IsIt code (record { old = Some out; new = Some out' }) (record { old = Some err; new = Some err' })
    → EndsByReads None [] new IsIt code (only_written out') (only_written err')
from_nothing IsIt old new code out out' err err' unread no_out no_err ends =
    subst (λ bytes. EndsByReads None [] new IsIt code (only_written out') (record { old = Some bytes; new = Some err' })) no_err
    (subst (λ bytes. EndsByReads None [] new IsIt code (record { old = Some bytes; new = Some out' }) (record { old = Some err; new = Some err' })) no_out
    (subst (λ reads. EndsByReads None reads new IsIt code (record { old = Some out; new = Some out' }) (record { old = Some err; new = Some err' })) unread ends))

pub returns-clause-answers : goal.returns-clause-answers
returns-clause-answers g c =
    let call = c.exit_code_of.ensures in
    let new = c.exit_code_of.new in
    let ends = from_nothing (IsAnswerTo (map string_bytes (drop 1 c.args.all.now))) _ _ _ _ _ _ _ c.requires.unread c.requires.out_unused.bytes c.requires.err_unused.bytes
    (subst (λ words. EndsByReads None (reads_of c.args.files.now) (reads_of new.files) (IsAnswerTo (map string_bytes words)) (exit_status c.exit_code_of.result) (record { old = Some (bytes_of c.args.out.now); new = Some (bytes_of new.out) }) (record { old = Some (bytes_of c.args.err.now); new = Some (bytes_of new.err) })) c.words_after_name-words.ensures call.reads) in
    record {
      status = ends.status;
      outcome = ends.outcome;
      reads = ends.reads;
      nothing = λ stops.
          let same = call.nothing (elim stops [ inl read_fault ↦ inl (ends.ends ∙ ap code_of read_fault) | inr no_memory ↦ inr (ends.ends ∙ ap code_of no_memory) ]) in
          (ap bytes_of same.0 ∙ c.requires.out_unused.bytes, ap bytes_of same.1 ∙ c.requires.err_unused.bytes);
      ends = ends.ends;
    }

-- what was written to an empty stream is all that it contains
all_of : (old new text : List ℕ) → old ≡ [] → Some new ≡ Some (old ++ text) → new ≡ text
all_of old new text none put = same_Some _ _ put ∙ ap (λ bytes. bytes ++ text) none

pub returns-clause-usage_text : goal.returns-clause-usage_text
returns-clause-usage_text g c = λ is.
    let all = c.exit_code_of.ensures.usage_text is in
    (all_of _ _ _ c.requires.out_unused.bytes all.out_text, all_of _ _ _ c.requires.err_unused.bytes all.err_text)
