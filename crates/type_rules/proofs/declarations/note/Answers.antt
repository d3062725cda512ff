use Rattle.std.proofs.lemmas.Map.Text.{hash_map_updates_str}
use Rattle.type_rules.proofs.Firsts.{noted}
use Rattle.type_rules.proofs.declarations.note.Goals as goal

pub returns : goal.returns
returns c =
    let d = c.args.declaration in
    noted c.args.firsts.now c.insert.new.self d.full.now d.place c.first_of-first.result
    (hash_map_updates_str d.full.now c.args.firsts.now c.insert.new.self _ c.in_ok-insert.ensures.updates)
    (rw c.get.ensures.value at c.first_of-first.ensures)
