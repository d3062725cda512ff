use Rattle.std.proofs.Common.{map}
use Rattle.std.proofs.lemmas.List.{take_all}
use Rattle.type_rules.specs.Compounds.{told}
use Rattle.type_rules.proofs.Numbering.{numbered_none, numbered_turn}
use Rattle.type_rules.proofs.compounds.compounds_of.Goals as goal

pub loop-file-init : goal.loop-file-init
loop-file-init c = rw (c.new-all.ensures.items, c.new-files.ensures.items) numbered_none

pub loop-file-preserved : goal.loop-file-preserved
loop-file-preserved c =
    numbered_turn c.args.program.now c.loop-file.file c.index-program-file.result (map told c.loop-file.all.items) _ c.loop-file.files.items c.push.new.self.items _ c.loop-file-test.true c.index-program-file.is c.in_ok-push.ensures.items c.loop-file.invariant c.in_ok-number_file.ensures

pub returns : goal.returns
returns c = rw (take_all c.loop-file.file c.args.program.now c.loop-file-test.false) at c.loop-file.invariant
