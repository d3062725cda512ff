-- In every run waits end in order and with what was sent.
use Rattle.std.proofs.Common.{◌≡◌, ℤ, List, ◌++◌, sym, subst, ◌∙◌}
use Rattle.ipdl_base.specs.declared.kinds.Side.{Side}
use Rattle.ipdl_base.specs.declared.schema.Schema.{Schema}
use Rattle.ipdl_base.specs.Signatures.{returns_of_row}
use Rattle.ipdl_base.specs.Sound.{IsSound}
use Rattle.nesting_core.specs.declared.frame.Answer.TheVariants as answer
use Rattle.history_reading.specs.EndReading.{EndReading}
use Rattle.history_reading.specs.Reading.{Reading, end_reading_of, other_of}
use Rattle.history_reading.specs.Waits.{waits_line}
use Rattle.channel_model.specs.Ends.{End, World, end_of, link_to}
use Rattle.ipdl_base.specs.Sides.{other}
use Rattle.channel_model.specs.Outputs.{is_open}
use Rattle.channel_model.specs.ValueActors.{actors_in_parts}
use Rattle.channel_laws.specs.GivenAnswers.{HasAnswers, KeepsAnswers}
use Rattle.channel_laws.specs.Notes.{told_notes, notes}
use Rattle.channel_laws.specs.Protocols.{Protocols, HasProtocols, WorldHasProtocols, AnswerHasProtocols}
use Rattle.channel_laws.specs.EndActors.{ReadsActors}
use Rattle.channel_laws.specs.Tested.{after_whats, test_at}
use Rattle.channel_laws.proofs.EveryRun.{end-side}
use Rattle.channel_laws.proofs.GivenAnswers.{move-answers, other-answers}
use Rattle.channel_laws.proofs.Moves.{other-other}
use Rattle.channel_laws.proofs.ReadAlike.{alike, protocols-at, top-protocols}
use Rattle.channel_laws.proofs.Reached.{actors-reached, protocols-reached}
use Rattle.channel_laws.proofs.Resumes.{AnswersAreAlike, resumes-pass}
use Rattle.channel_laws.proofs.Runs.{EveryMoveKeeps, AcrossEnds, across-ends, across-keep, at-ends, ends-pass}
use Rattle.channel_laws.proofs.WaitLines.{move-waits}

-- the actors that live in the answer of the wait on top are read alike
answers-alike : (schema : Schema) (made : Protocols) (e : End) (own : EndReading) → HasProtocols schema made e → ReadsActors schema e own → AnswersAreAlike schema e own
answers-alike schema made e own p k wait row vs on_top found given =
    let has : AnswerHasProtocols schema made wait.number (answer.Ok vs) = subst (AnswerHasProtocols schema made wait.number) given (top-protocols schema made e.stack wait on_top p.entries) in
    alike schema made e own p k (actors_in_parts schema (returns_of_row row) vs) (has row found)

-- notes are those of the ends' own sides
sides-are : (schema : Schema) (others own : EndReading) (failed : List ℤ) (e : End) (a b c d : Side) → a ≡ c → b ≡ d → HasAnswers (told_notes a others.sent) (told_notes b own.sent) failed e → HasAnswers (told_notes c others.sent) (told_notes d own.sent) failed e
sides-are schema others own failed e a b c d x y k = subst (λ (s : Side). HasAnswers (told_notes s others.sent) (told_notes d own.sent) failed e) x (subst (λ (s : Side). HasAnswers (told_notes a others.sent) (told_notes s own.sent) failed e) y k)

module _ (schema : Schema) (sound : IsSound schema) where
  abbrev pub AnswersKept : World → Reading → Type 0
  AnswersKept w r = AcrossEnds schema KeepsAnswers w r

  pub waits-keep : EveryMoveKeeps schema AnswersKept (test_at (waits_line schema))
  waits-keep move w r output m k =
      let side : Side = move.side in
      let mine : End = end_of side w in
      let theirs : End = end_of (other side) w in
      let own : EndReading = end_reading_of side r in
      let others : EndReading = other_of side r in
      let both = across-ends schema KeepsAnswers side w r k in
      let their_side : theirs.side ≡ other side = end-side schema (other side) w m.nested in
      let my_side : mine.side ≡ other (other side) = end-side schema side w m.nested ∙ sym (other-other side) in
      let before : HasAnswers (told_notes theirs.side others.sent) (told_notes mine.side own.sent) own.failed mine = sides-are schema others own own.failed mine (other side) (other (other side)) theirs.side mine.side (sym their_side) (sym my_side) both.0 in
      let following = move-answers schema mine.side r.lines mine theirs own others (link_to side w) (link_to (other side) w) move.event output m.ends before in
      let next : EndReading = after_whats schema r.lines m.ends.whats own in
      let p : WorldHasProtocols schema m.reached.top w = protocols-reached schema sound w r m.reached in
      let actors = at-ends schema (ReadsActors schema) side w r (actors-reached schema sound w r m.reached) in
      record {
        kept = across-keep schema KeepsAnswers side move.event w r output m.nested m.ends
            (sides-are schema others next next.failed output.end theirs.side mine.side (other side) (other (other side)) their_side my_side following)
            (other-answers schema side r.lines m.ends.whats own others (told_notes (other side) others.sent) theirs both.1);
        passes = λ rest. ends-pass schema (waits_line schema) side move.event w r output rest m.nested m.ends
            (move-waits schema r.lines mine theirs own others (link_to side w) (link_to (other side) w) move.event output m.ends
            (resumes-pass schema mine.side theirs.side own others mine (is_open mine.state) mine.outbox mine.sent (m.ends.before.goes.got ++ notes schema (link_to (other side) w)) m.ends.before.goes.sent before
            (answers-alike schema p.made mine own (protocols-at schema m.reached.top side w p) actors.0)));
      }
