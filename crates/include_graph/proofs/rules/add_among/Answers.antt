use Rattle.std.proofs.Common.{length, sym, subst, refl, arith}
use Rattle.std.proofs.lemmas.List.{length_push}
use Rattle.std.proofs.lemmas.Option.{slice_get_read, slice_get_within}
use Rattle.std.proofs.lemmas.Slice.Zip.{zip_turn, zip_end}
use Rattle.findings.specs.Gains.{Gains}
use Rattle.include_graph.specs.Additions.{Below, IsFoundAt}
use Rattle.include_graph.proofs.Gaining.{below_more, below_all, found_at}
use Rattle.include_graph.proofs.rules.add_among.Goals as goal

pub loop-include-preserved : goal.loop-include-preserved
loop-include-preserved c =
    let n = length c.loop-include.yielded in
    let is = c.args.includes.now in
    let ts = c.args.targets.now in
    let t = zip_turn is ts c.loop-include.yielded c.into_iter-include-iterator.result c.loop-include.include-iterator c.next.new.self c.next.result (cc) (cc) c.loop-include.yielded_by (c.in-Some.include, c.in-Some.target) c.in-Some.is c.next.ensures.steps in
    let here = slice_get_read is (length is) n c.in-Some.include.now refl t.0 (t.2 c.in-Some.include.now) in
    let there = slice_get_read ts (length ts) n c.in-Some.target.now refl t.1 (t.3 c.in-Some.target.now) in
    let one = found_at c.args.files.now is ts n c.in-Some.include.now c.in-Some.target.now here there c.in_ok-add_for.ensures in
    subst (λ k. Gains (Below k (IsFoundAt c.args.files.now is ts)) c.args.found.now.items c.add_for.new.found.items) (sym (length_push c.loop-include.yielded (c.in-Some.include, c.in-Some.target))) (below_more n c.loop-include.invariant one)

pub returns : goal.returns
returns c =
    let is = c.args.includes.now in
    let ts = c.args.targets.now in
    let e = zip_end is ts c.loop-include.yielded c.into_iter-include-iterator.result c.loop-include.include-iterator c.next.new.self c.next.result (cc) (cc) c.loop-include.yielded_by c.in-None.is c.next.ensures.steps in
    below_all (length c.loop-include.yielded)
    (λ k f p. let a = slice_get_within is k p.0 p.2 in let b = slice_get_within ts k p.1 p.3 in omega arith)
    c.loop-include.invariant
