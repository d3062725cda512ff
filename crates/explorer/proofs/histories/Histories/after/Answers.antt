use Rattle.std.specs.List.{list_any}
use Rattle.explorer.proofs.Numbering.{apart-from, choice_eq, inserted, list-after}
use Rattle.explorer.proofs.histories.Histories.after.Goals as goal

pub returns-in-Ok-clause-apart : goal.returns-in-Ok-clause-apart
returns-in-Ok-clause-apart c = record { once = apart-from c.insert_full.new.self.keys c.len-count.ensures.unique }

pub returns-in-Ok-clause-number : goal.returns-in-Ok-clause-number
returns-in-Ok-clause-number c list h =
    let choices = c.args.self.now.choices.keys in
    let grown = inserted (list_any (choice_eq (record { before = c.args.before; delivers = c.args.delivers })) choices) choices c.insert_full.new.self.keys (record { before = c.args.before; delivers = c.args.delivers }) c.in-Ok.ensures.keys in
    let s = c.in-Ok.ensures.stored in
    list-after choices c.insert_full.new.self.keys grown.0 c.args.before c.in-Ok.place c.args.delivers s.0 list grown.1 s.1 s.2 h
