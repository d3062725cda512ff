use Rattle.std.proofs.Common.{◌∙◌, ◌≤◌, length, sym, rules}
use Rattle.charts.proofs.Cuts.{kept_length_within}
use Rattle.charts.proofs.labels.push_cut.Goals as goal

pub slice_bounds-push_shown-end : goal.slice_bounds-push_shown-end
slice_bounds-push_shown-end c =
    let within : c.in-Some.kept ≤ length c.args.text.now = kept_length_within c.args.text.now c.in-Some.kept (sym c.kept_length.ensures ∙ c.in-Some.is) in
    search rules
