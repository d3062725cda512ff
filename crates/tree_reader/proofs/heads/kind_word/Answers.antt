use Rattle.tree_reader.proofs.HeadForms.{class_read, struct_read, class_turn, struct_turn}
use Rattle.tree_reader.proofs.heads.kind_word.Goals as goal

pub returns-then-not-skips-clause-read : goal.returns-then-not-skips-clause-read
returns-then-not-skips-clause-read c =
    let struct = c.skips-then-not-skips in
    struct_read struct.result c.args.reader.now c.skips.new.self struct.new.self (c.skips.ensures.not c.if-not-skips.true) struct.ensures.yes struct.ensures.not

pub returns-then-not-skips-clause-turns : goal.returns-then-not-skips-clause-turns
returns-then-not-skips-clause-turns c =
    let struct = c.skips-then-not-skips in
    struct_turn struct.result c.args.reader.now c.skips.new.self struct.new.self (c.skips.ensures.not c.if-not-skips.true) struct.ensures.yes struct.ensures.not

pub returns-else-not-skips-clause-read : goal.returns-else-not-skips-clause-read
returns-else-not-skips-clause-read c = class_read c.args.reader.now c.skips.new.self (c.skips.ensures.yes c.if-not-skips.false)

pub returns-else-not-skips-clause-turns : goal.returns-else-not-skips-clause-turns
returns-else-not-skips-clause-turns c = class_turn c.args.reader.now c.skips.new.self (c.skips.ensures.yes c.if-not-skips.false)
