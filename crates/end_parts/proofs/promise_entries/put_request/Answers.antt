use Rattle.std.proofs.Common.{ℤ, ap, ◌∙◌, rules}
use Rattle.std.proofs.lemmas.Int.{to_z-of_z}
use Rattle.std.specs.Ordering.{int_eq}
use mir.Val.{SFits}
use mir.Syntax.{w32}
use Rattle.indexmap.specs.IndexMap.{insert_entry}
use Rattle.indexmap.proofs.CallerLemmas.{insert_entry-new}
use Rattle.end_parts.proofs.promise_entries.put_request.Goals as goal

pub returns : goal.returns
returns c =
    let fits : SFits w32 c.args.request.seq = search rules in
    c.in-Ok.ensures.entries ∙ ap (λ (z : ℤ). insert_entry int_eq c.args.requests.now.entries z c.args.request) (to_z-of_z w32 c.args.request.seq fits) ∙ insert_entry-new int_eq c.args.requests.now c.args.request.seq c.args.request c.requires.free
