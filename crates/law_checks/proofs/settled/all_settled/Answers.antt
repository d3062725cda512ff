use Rattle.std.proofs.Common.{sym, ap, ◌∙◌}
use Rattle.std.specs.List.{list_all}
use Rattle.history_reading.specs.EndReading.{is_settled_packet}
use Rattle.history_reading.specs.Views.{packet_view}
use Rattle.reading_checks.proofs.Maps.{all_mapped}
use Rattle.law_checks.proofs.settled.all_settled.Goals as goal

pub returns : goal.returns
returns c =
    let test = is_settled_packet c.args.own.now.settled in
    c.are_settled.ensures ∙ ap (list_all (λ t. test (packet_view t))) c.as_slice.ensures ∙ sym (all_mapped packet_view test c.args.own.now.sent)
