use Rattle.std.proofs.Common.{◌≡◌, ◌∙◌, ◌≤◌, Some, length, sym, rules}
use Rattle.charts.specs.Labels.{kept_values}
use Rattle.charts.proofs.Cuts.{kept_values_within}
use Rattle.charts.proofs.labels.kept_length.Goals as goal

pub overflow_add-result : goal.overflow_add-result
overflow_add-result c =
    let kept : kept_values 40 c.in-Some.more.now ≡ Some c.in-Some-kept_values.values = sym c.kept_values.ensures ∙ c.in-Some-kept_values.is in
    let within : c.in-Some-kept_values.values ≤ length c.in-Some.more.now = kept_values_within c.in-Some.more.now c.in-Some-kept_values.values kept in
    search rules
