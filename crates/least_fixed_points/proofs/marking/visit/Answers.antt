use Rattle.std.proofs.Common.{◌≡◌, ◌≤◌, ◌<◌, arith, length, refl, ◌∙◌, Some}
use Rattle.std.specs.Prelude.{slice_get, slice_index}
use Rattle.std.proofs.lemmas.List.{get_or_default}
use Rattle.std.proofs.lemmas.Option.{slice_get_read}
use Rattle.std.proofs.lemmas.Result.{on_ok_weaker}
use Rattle.least_fixed_points.proofs.Growth.{Visits-marked}
use Rattle.least_fixed_points.proofs.Visited.{marked_to, Visits-open, Visits-full}
use Rattle.least_fixed_points.proofs.marking.visit.Goals as goal

pub returns-in-One : goal.returns-in-One
returns-in-One c =
    let nodes = c.args.nodes.now in
    let node = c.in-Some.node.now in
    let read = c.in-Some.ensures.lookup in
    let at : slice_get nodes c.args.user ≡ Some node = slice_get_read nodes (length nodes) c.args.user node refl read.3.0 read.1 in
    on_ok_weaker c.mark.result (λ marks. Visits-marked _ _ _ _ _ _ _ c.requires.knows marks (c.requires.reason node at c.in-One.is)) c.mark.ensures

pub returns-then-at-len : goal.returns-then-at-len
returns-then-at-len c =
    let nodes = c.args.nodes.now in
    let node = c.in-Some.node.now in
    let x = c.args.user in
    let marks = c.args.marks.now.items in
    let seen = c.args.seen.now.items in
    let read = c.in-Some.ensures.lookup in
    let at : slice_get nodes x ≡ Some node = slice_get_read nodes (length nodes) x node refl read.3.0 read.1 in
    let found = rw (c.as_slice-in-All.ensures.value, c.as_slice-in-All-2.ensures.value) at c.first_unmarked-at.ensures in
    let inside : x < length seen = omega (arith, c.requires.knows.seen_size, read.3.0) in
    let from : c.index.result.now ≡ slice_index seen x = c.index.ensures ∙ get_or_default seen x c.index.result.now 0 inside in
    let all = marked_to nodes x node c.first_unmarked-at.result marks seen c.requires.knows at (λ j past below within. found.passed j (omega (arith, past, from)) below within) in
    let within : c.first_unmarked-at.result < length node.parts.items = omega (arith, c.if-at-len.true, c.len.ensures, node.parts.ok.0) in
    Visits-open nodes x node c.first_unmarked-at.result marks c.args.work.now.items seen c.requires.knows at c.in-All.is within (found.stop within) all

pub returns-else-at-len : goal.returns-else-at-len
returns-else-at-len c =
    let nodes = c.args.nodes.now in
    let node = c.in-Some.node.now in
    let x = c.args.user in
    let marks = c.args.marks.now.items in
    let seen = c.args.seen.now.items in
    let read = c.in-Some.ensures.lookup in
    let at : slice_get nodes x ≡ Some node = slice_get_read nodes (length nodes) x node refl read.3.0 read.1 in
    let found = rw (c.as_slice-in-All.ensures.value, c.as_slice-in-All-2.ensures.value) at c.first_unmarked-at.ensures in
    let inside : x < length seen = omega (arith, c.requires.knows.seen_size, read.3.0) in
    let from : c.index.result.now ≡ slice_index seen x = c.index.ensures ∙ get_or_default seen x c.index.result.now 0 inside in
    let all = marked_to nodes x node c.first_unmarked-at.result marks seen c.requires.knows at (λ j past below within. found.passed j (omega (arith, past, from)) below within) in
    let past : length node.parts.items ≤ c.first_unmarked-at.result = omega (arith, c.if-at-len.false, c.len.ensures, node.parts.ok.0) in
    on_ok_weaker c.mark-else-at-len.result (λ marked. Visits-full nodes x node c.first_unmarked-at.result _ _ _ _ seen c.requires.knows at c.in-All.is past all marked) c.mark-else-at-len.ensures
