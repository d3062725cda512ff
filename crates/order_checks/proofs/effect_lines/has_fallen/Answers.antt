use Rattle.std.proofs.Common.{SFits, w32, rules, to_z-of_z, Bool, true, if◌then◌else◌, ap, sym, ◌∙◌}
use Rattle.std.specs.List.{list_any}
use Rattle.history_reading.specs.Settled.{is_fall_of}
use Rattle.reading_checks.proofs.Maps.{any_mapped}
use Rattle.order_checks.specs.EffectTests.{whats}
use Rattle.order_checks.proofs.effect_lines.has_fallen.Goals as goal

pub returns-else-has : goal.returns-else-has
returns-else-has c =
    let fits : SFits w32 c.args.id = search rules in
    let falls = list_any (is_fall_of c.args.id) (whats c.args.effects.now) in
    rw (to_z-of_z fits) at c.falls.ensures
    ∙ sym (any_mapped (λ line. line.what) (is_fall_of c.args.id) c.args.effects.now)
    ∙ ap (λ (b : Bool). if b then true else falls) (sym (sym (rw (to_z-of_z fits) at c.has.ensures) ∙ c.if-has.false))
