use Rattle.std.proofs.Common.{option_map, sym, ap, ◌∙◌}
use Rattle.std.proofs.lemmas.Result.{on_ok_weaker}
use Rattle.history_reading.specs.EndReading.{EndReading}
use Rattle.law_statements.proofs.Fields.{sent-read}
use Rattle.law_statements.specs.Said.{said_by}
use Rattle.order_checks.specs.Waiting.{packets_of, passing_view}
use Rattle.order_checks.proofs.WaitingLines.{waits-with, waits-without}
use Rattle.order_checks.proofs.waiting.WaitingPackets.note.Goals as goal

pub returns-in-Some : goal.returns-in-Some
returns-in-Some c =
    let side = c.args.line.now.side in
    on_ok_weaker c.pass.result (λ one schema lines e are.
    waits-with schema lines side c.args.line.now.what (passing_view c.in-Some.passing)
    (sym (c.passing_of.ensures schema (said_by side lines) (ap (λ (o : EndReading). o.sent) e ∙ sent-read schema side lines)) ∙ ap (option_map passing_view) c.in-Some.is)
    (λ end. packets_of end c.args.self.now) (λ end. packets_of end c.pass.new.self) one are) c.pass.ensures

pub returns-in-None : goal.returns-in-None
returns-in-None c = λ schema lines e are.
    let side = c.args.line.now.side in
    waits-without schema lines side c.args.line.now.what
    (sym (c.passing_of.ensures schema (said_by side lines) (ap (λ (o : EndReading). o.sent) e ∙ sent-read schema side lines)) ∙ ap (option_map passing_view) c.in-None.is)
    (λ end. packets_of end c.args.self.now) are
