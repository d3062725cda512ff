use Rattle.std.proofs.Common.{List, [], ◌∷◌, length, sym, ap, subst, arith, length-append}
use Rattle.ipdl_syntax.specs.declared.program.Entry.{Entry}
use Rattle.include_graph.proofs.Entries.{Making, making_none, making_more, left_tree}
use Rattle.include_graph.proofs.program.program_of.Goals as goal

pub loop-file-init : goal.loop-file-init
loop-file-init c = record {
  size = c.requires.size;
  making = subst (λ (es : List Entry). Making c.args.keys.keys c.args.files.items c.args.keys.keys c.args.files.items es) (sym c.in_ok-program.ensures.items) (making_none c.args.keys.keys c.args.files.items);
}

pub entry_of-requires : goal.entry_of-requires
entry_of-requires c = left_tree c.args.keys.keys c.args.files.items c.loop-file.keys.keys c.loop-file.files.items c.pop.new.self.items c.loop-file.program.items c.in-Some.file c.loop-file.invariant.making c.in-Some.ensures.items c.requires.trees

pub loop-file-preserved : goal.loop-file-preserved
loop-file-preserved c =
    let keys = c.in-Some-pop.ensures.keys in
    let files = c.in-Some.ensures.items in
    let made = making_more c.args.keys.keys c.args.files.items c.loop-file.keys.keys c.pop-in-Some.new.self.keys c.loop-file.files.items c.pop.new.self.items c.loop-file.program.items c.in-Some-pop.key c.in-Some.file c.in_ok-entry_of.field-0 c.loop-file.invariant.making keys files c.in_ok-entry_of.ensures in
    record {
      size = (let s = c.loop-file.invariant.size in let a = ap length keys in let b = ap length files in omega (arith, length-append c.pop-in-Some.new.self.keys (c.in-Some-pop.key ∷ []), length-append c.pop.new.self.items (c.in-Some.file ∷ [])));
      making = subst (λ (es : List Entry). Making c.args.keys.keys c.args.files.items c.pop-in-Some.new.self.keys c.pop.new.self.items es) (sym c.in_ok-push.ensures.items) made;
    }
