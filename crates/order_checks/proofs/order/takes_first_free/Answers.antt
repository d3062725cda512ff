use Rattle.std.proofs.Common.{◌≡◌, ℕ, Bool, true, ◌&&◌, take, sym, ap, ◌∙◌}
use Rattle.std.specs.List.{list_all, take_while}
use Rattle.history_reading.specs.EndReadings.{end_view}
use Rattle.history_reading.specs.Still.{DeferralState, defers_packet}
use Rattle.order_checks.specs.OrderTests.{is_deferred, is_first_free, packet_overtakes}
use Rattle.order_checks.proofs.order.takes_first_free.Goals as goal

pub returns-then-is_first_free : goal.returns-then-is_first_free
returns-then-is_first_free c =
    let schema = c.args.schema.now in
    let other = end_view c.args.other.now in
    let waiting = c.args.waiting.now in
    let overtaken = packet_overtakes schema c.args.side other c.args.packet in
    let deferred = is_deferred schema c.args.side (end_view c.args.own.now) other in
    let first : is_first_free deferred c.args.packet waiting ≡ true =
    ap (λ (d : DeferralState). is_first_free (defers_packet schema other d) c.args.packet waiting) (sym c.deferral_of-deferral.ensures) ∙ sym c.is_first_free.ensures ∙ c.if-is_first_free.true
    in
    c.overtakes_all.ensures
    ∙ ap (λ (n : ℕ). list_all overtaken (take n waiting)) c.count_deferred-older.ensures.count
    ∙ ap (λ (d : DeferralState). list_all overtaken (take_while (defers_packet schema other d) waiting)) c.deferral_of-deferral.ensures
    ∙ sym (ap (λ (b : Bool). b && list_all overtaken (take_while deferred waiting)) first)
