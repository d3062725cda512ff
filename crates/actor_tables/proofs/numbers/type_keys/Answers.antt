use Rattle.std.proofs.Common.{◌≡◌, ℕ, [], length, subst, arith}
use Rattle.actor_tables.specs.Numbered.{AddsKeys, IsKeyBelow}
use Rattle.actor_tables.proofs.TypeKeys.{below_none, below_more}
use Rattle.actor_tables.proofs.numbers.type_keys.Goals as goal

pub loop-entry-init : goal.loop-entry-init
loop-entry-init c = below_none c.args.program.now c.new-keys.result.items c.new-keys.ensures.items

pub loop-entry-preserved : goal.loop-entry-preserved
loop-entry-preserved c =
    below_more c.args.program.now c.loop-entry.entry-index c.entry-item.result c.as_slice.result.now c.as_slice-in-loop-entry.result.now c.loop-entry.keys.items c.add_structs.new.keys.items c.add_unions.new.keys.items c.loop-entry-test.true c.entry-item.is
    c.as_slice.ensures c.as_slice-in-loop-entry.ensures c.loop-entry.invariant c.in_ok-add_structs.ensures c.in_ok-add_unions.ensures

pub returns : goal.returns
returns c =
    let same : c.loop-entry.entry-index ≡ length c.args.program.now = omega arith in
    subst (λ (n : ℕ). AddsKeys (IsKeyBelow c.args.program.now n) [] c.loop-entry.keys.items) same c.loop-entry.invariant
