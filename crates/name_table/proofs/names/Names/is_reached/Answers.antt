use Rattle.std.proofs.Common.{◌≡◌, ◌≤◌, ◌<◌, List, length, sym, subst, true≢false, get_or}
use Rattle.ipdl_syntax.specs.declared.program.Entry.{Entry}
use Rattle.name_table.specs.declared.sight.Reach.{Reach}
use Rattle.name_table.specs.Marks.{AreSights}
use Rattle.name_table.proofs.Seeing.{not_reached, sight_at}
use Rattle.name_table.proofs.names.Names.is_reached.Goals as goal

pub returns-in-None : goal.returns-in-None
returns-in-None c =
    let past : length c.self.inside.sights.items ≤ c.args.file = subst (λ (xs : List Reach). length xs ≤ c.args.file) c.deref.ensures.value c.in-None.ensures.lookup.3 in
    let are : AreSights c.args.self.now c.self.inside.sights.items = subst (λ (p : List Entry). AreSights p c.self.inside.sights.items) c.self.view_is c.self.invariant.1 in
    (λ h. absurd (true≢false (sym h)), λ r. absurd (not_reached c.args.self.now c.self.inside.sights.items c.args.file c.args.other are past r))

pub returns-in-Some : goal.returns-in-Some
returns-in-Some c =
    let g = c.in-Some.ensures.lookup in
    let row = c.in-Some.sight.now in
    let below : c.args.file < length c.self.inside.sights.items = subst (λ (xs : List Reach). c.args.file < length xs) c.deref.ensures.value g.3.0 in
    let at : row ≡ get_or c.self.inside.sights.items c.args.file row = subst (λ (xs : List Reach). row ≡ get_or xs c.args.file row) c.deref.ensures.value g.1 in
    let are : AreSights c.args.self.now c.self.inside.sights.items = subst (λ (p : List Entry). AreSights p c.self.inside.sights.items) c.self.view_is c.self.invariant.1 in
    c.has.ensures c.args.self.now c.args.file (sight_at c.args.self.now c.self.inside.sights.items c.args.file row are below at)
