use Rattle.std.proofs.Common.{length, refl, subst, arith, nat_lt}
use Rattle.std.proofs.lemmas.Bool.{ltb-true, lt-ltb}
use Rattle.std.proofs.lemmas.Option.{slice_get_read, slice_get_within}
use Rattle.findings.specs.Gains.{Gains}
use Rattle.include_graph.specs.Additions.{IsFoundIn}
use Rattle.include_graph.proofs.Gaining.{below_more, below_all, found_of, from_nothing}
use Rattle.include_graph.proofs.rules.found_in.Goals as goal

pub loop-number-preserved : goal.loop-number-preserved
loop-number-preserved c =
    let n = c.loop-number.number in
    let keys = c.args.keys.now in
    let files = c.args.files.now in
    let size = c.requires.size in
    let g = c.in-Some.ensures.lookup in
    let here = slice_get_read keys (length keys) n c.in-Some.key.now refl (omega arith) g.1 in
    let there = slice_get_read files (length files) n c.index-files-number.result refl c.loop-number-test.true c.index-files-number.is in
    below_more n c.loop-number.invariant (found_of c.args.words keys files n (nat_lt n c.args.words) c.in-Some.key.now c.index-files-number.result (λ h. ltb-true n c.args.words h, λ h. lt-ltb n c.args.words h) here there (subst (λ k. Gains (IsFoundIn files n (nat_lt n c.args.words) k c.index-files-number.result.source.content c.index-files-number.result.targets.items) c.loop-number.found.items c.add_in.new.found.items) c.as_slice.ensures c.in_ok-add_in.ensures))

pub returns : goal.returns
returns c = from_nothing (below_all c.loop-number.number (λ k f p. let a = slice_get_within c.args.files.now k p.2 p.5 in omega arith) c.loop-number.invariant)
