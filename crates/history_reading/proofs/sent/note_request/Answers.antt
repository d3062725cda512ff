use Rattle.std.proofs.Common.{◌≡◌, [], refl, sym, subst}
use Rattle.std.proofs.lemmas.Result.{on_ok_weaker}
use Rattle.history_reading.specs.declared.sent_packet.Request as kept
use Rattle.history_reading.specs.declared.sent_packet.SentPacket as kept_told
use Rattle.history_reading.specs.declared.sent_packet.SentPacket.TheVariants as told
use Rattle.history_reading.specs.Views.{packet_view}
use Rattle.history_reading.specs.SentPacket.{requests_of}
use Rattle.history_reading.specs.SentPacket as the
use Rattle.history_reading.proofs.SentLemmas.{keeps_other, keeps_request, no_requests}
use Rattle.history_reading.proofs.sent.note_request.Goals as goal

pub returns-in-Request-clause-ok : goal.returns-in-Request-clause-ok
returns-in-Request-clause-ok c =
    rw c.in-Request.is (on_ok_weaker c.insert_first.result (keeps_request c.args.requests.now c.insert_first.new.requests c.in-Request.request) c.insert_first.ensures.ok)

pub returns-in_default-clause-ok : goal.returns-in_default-clause-ok
returns-in_default-clause-ok c all are = keeps_other c.args.requests.now c.args.told.now (no_requests c.args.told.now c.in_default.not-Request) all are
