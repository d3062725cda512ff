use Rattle.std.proofs.Common.{◌≡◌, ◌+◌, ◌-◌, ◌<◌, length, refl, vec_len, arith}
use Rattle.sync_list.proofs.Lines.{marked_set}
use Rattle.sync_list.proofs.reader.mark_last.Goals as goal

pub returns-in-Some : goal.returns-in-Some
returns-in-Some c =
    let sections = c.args.sections.now in
    let some : 0 < vec_len sections = c.in-Some.ensures.variant.0 refl in
    let last : (vec_len sections - 1) + 1 ≡ length sections.items = omega (arith, some) in
    marked_set c.args.described sections.items (vec_len sections - 1) c.in-Some.section.now last c.in-Some.ensures.value
