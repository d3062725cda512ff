use Rattle.std.proofs.Common.{◌≡◌, List, ℤ, true, take, drop, ◌+◌, ◌++◌, ◌∷◌, [], ◌∙◌, sym, ap, arith, subst}
use Rattle.std.proofs.lemmas.List.{take_more, take_rest}
use Rattle.ipdl_base.specs.declared.line.Line.{Line}
use Rattle.history_reading.specs.declared.parts.PacketKind.{PacketKind}
use Rattle.history_reading.specs.Reading.{Reading, end_reading_of, other_of}
use Rattle.history_reading.specs.Readings.{reading_view}
use Rattle.law_statements.specs.Arrived.{passings}
use Rattle.law_statements.specs.Said.{said_by}
use Rattle.reading_checks.proofs.Loops.{each_goes_on, read_more}
use Rattle.order_statements.specs.Shape.{answered}
use Rattle.order_statements.specs.Waiting.{waiting}
use Rattle.order_checks.specs.Answered.{AreAnswered, numbers_of}
use Rattle.order_checks.specs.Waiting.{AreWaiting, packets_of}
use Rattle.order_checks.specs.Walk.{line_test, passes}
use Rattle.order_checks.proofs.walk.all_pass.Goals as goal

pub loop-index-preserved : goal.loop-index-preserved
loop-index-preserved c =
    let lines = c.args.lines.now in
    let schema = c.args.schema.now in
    let i = c.loop-index.index in
    let line = c.index-lines-index.result in
    let so_far = take i lines in
    let following = drop (i + 1) lines in
    let end = line.side in
    let test = λ (r : Reading) (numbers : List ℤ) (packets : List PacketKind) (after : List Line). line_test c.args.statement schema end (end_reading_of end r) (other_of end r) numbers packets so_far line.what after in
    let now = reading_view c.loop-index.reading in
    let numbers = numbers_of end c.loop-index.answered in
    let packets = packets_of end c.loop-index.waiting in
    let more : take (i + 1) lines ≡ so_far ++ line ∷ [] = take_more lines i line (omega arith) ∙ ap (λ (l : Line). so_far ++ l ∷ []) (sym c.index-lines-index.is) in
    let passed : test now numbers packets following ≡ true = ap (test now numbers packets) (sym (take_rest lines (i + 1))) ∙ sym c.line_test.ensures ∙ c.if-not-line_test.false in
    record {
      reads = read_more schema lines i line now (reading_view c.note-in-loop-index.new.self) (omega arith) c.index-lines-index.is c.loop-index.invariant.reads c.in_ok-note-2.ensures;
      answers = subst (λ (ls : List Line). AreAnswered ls c.note-in-loop-index-2.new.self) (sym more) (c.in_ok-note-3.ensures so_far c.loop-index.invariant.answers);
      waits = subst (λ (ls : List Line). AreWaiting schema ls c.note.new.self) (sym more) (c.in_ok-note.ensures schema so_far (c.end.ensures ∙ ap (end_reading_of end) c.loop-index.invariant.reads) c.loop-index.invariant.waits);
      pass = each_goes_on (passes c.args.statement schema) lines i line _ (omega arith) c.index-lines-index.is c.loop-index.invariant.pass
          (ap (λ (r : Reading). test r (answered (said_by end so_far)) (waiting (passings schema (said_by end so_far))) following) (sym c.loop-index.invariant.reads)
          ∙ ap (λ (ns : List ℤ). test now ns (waiting (passings schema (said_by end so_far))) following) (sym (c.loop-index.invariant.answers end))
          ∙ ap (λ (ps : List PacketKind). test now numbers ps following) (sym (c.loop-index.invariant.waits end)) ∙ passed);
    }
