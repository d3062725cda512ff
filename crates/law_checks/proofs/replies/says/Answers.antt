use Rattle.std.proofs.Common.{SFits, w32, rules, sym, ap, ◌∙◌, to_z-of_z}
use Rattle.std.specs.List.{list_any}
use Rattle.law_checks.specs.Asking.{is_asked}
use Rattle.history_reading.specs.EndReadings.{end_view}
use Rattle.history_reading.specs.Views.{packet_view}
use Rattle.history_reading.specs.SentPacket.{is_said}
use Rattle.reading_checks.proofs.Maps.{any_mapped}
use Rattle.law_checks.proofs.replies.says.Goals as goal

pub returns : goal.returns
returns c =
    let fits : SFits w32 c.args.n = search rules in
    let test = is_said (is_asked c.args.schema.now (end_view c.args.own.now) c.args.asked.now) c.args.n in
    rw (to_z-of_z fits) at c.some_is_said.ensures ∙ ap (list_any (λ t. test (packet_view t))) c.as_slice.ensures ∙ sym (any_mapped packet_view test c.args.other.now.sent)
