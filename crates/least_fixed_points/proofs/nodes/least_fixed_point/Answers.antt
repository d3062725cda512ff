use Rattle.std.proofs.Common.{◌≡◌, ◌<◌, ℕ, Bool, false, List, [], length, get_or, Some, refl, sym, ◌∙◌, ap, subst, arith}
use Rattle.std.specs.Prelude.{slice_get}
use Rattle.std.proofs.Math.ListN.{replicate}
use Rattle.std.proofs.lemmas.List.{get_or-replicate, length-replicate, nil_from_length}
use Rattle.std.proofs.lemmas.Option.{slice_get_read}
use Rattle.least_fixed_points.specs.Marking.{IsMarked}
use Rattle.least_fixed_points.proofs.Growth.{none_marked}
use Rattle.least_fixed_points.proofs.Working.{Working-first, Working-step, Working-end, has_reason, in_rows, starter_reason, Knows-first}
use Rattle.least_fixed_points.proofs.nodes.least_fixed_point.Goals as goal

none_false : (count : ℕ) (marks : List Bool) → marks ≡ replicate count false → (k : ℕ) → ¬ IsMarked marks k
none_false count marks e = none_marked count marks (λ k below. let P : List Bool → Type 0 = λ m. get_or m k false ≡ false in subst P (sym e) (get_or-replicate count k false false below)) (ap length e ∙ length-replicate count false)

pub visit_all-requires-clause-knows : goal.visit_all-requires-clause-knows
visit_all-requires-clause-knows c =
    let count = length c.args.nodes.now in
    let bare : c.in_ok-marks.marks.items ≡ replicate count false = c.in_ok-marks.ensures.items_if_clones_equal (λ y h. h) in
    let zeros : c.in_ok-seen.seen.items ≡ replicate count 0 = c.in_ok-seen.ensures.items_if_clones_equal (λ y h. h) in
    Knows-first c.args.nodes.now _ _ (ap length bare ∙ length-replicate count false) (none_false count _ bare) zeros

pub visit_all-requires-clause-reason : goal.visit_all-requires-clause-reason
visit_all-requires-clause-reason c =
    rw c.as_slice.ensures.value (λ user has. starter_reason c.args.nodes.now c.in_ok-starters.starters.items c.in_ok-starters.ensures user has)

pub loop-part-init : goal.loop-part-init
loop-part-init c =
    let count = length c.args.nodes.now in
    let bare : c.in_ok-marks.marks.items ≡ replicate count false = c.in_ok-marks.ensures.items_if_clones_equal (λ y h. h) in
    let visits = rw (c.as_slice.ensures.value, c.new-work.ensures.items) at c.in_ok-visit_all.ensures in
    Working-first c.args.nodes.now c.in_ok-users.users.items c.in_ok-starters.starters.items c.in_ok-marks.marks.items _ _ _ c.in_ok-users.ensures (none_false count _ bare) c.in_ok-starters.ensures visits

pub visit_all-requires-in-Some-get-clause-knows : goal.visit_all-requires-in-Some-get-clause-knows
visit_all-requires-in-Some-get-clause-knows c = c.loop-part.invariant.knows

pub visit_all-requires-in-Some-get-clause-reason : goal.visit_all-requires-in-Some-get-clause-reason
visit_all-requires-in-Some-get-clause-reason c =
    let rows = c.in_ok-users.users.items in
    let x = c.in-Some.part in
    let row = c.in-Some-get.row.now in
    let read = rw c.deref.ensures.value at c.in-Some-get.ensures.lookup in
    let at : slice_get rows x ≡ Some row = slice_get_read rows (length rows) x row refl read.3.0 read.1 in
    let before = rw c.in-Some.ensures.items at c.loop-part.invariant in
    rw c.as_slice-in-Some-get.ensures.value (has_reason c.args.nodes.now rows _ _ x _ row before at)

pub loop-part-preserved-in-Continue-branch-6 : goal.loop-part-preserved-in-Continue-branch-6
loop-part-preserved-in-Continue-branch-6 c =
    let rows = c.in_ok-users.users.items in
    let x = c.in-Some.part in
    let row = c.in-Some-get.row.now in
    let read = rw c.deref.ensures.value at c.in-Some-get.ensures.lookup in
    let at : slice_get rows x ≡ Some row = slice_get_read rows (length rows) x row refl read.3.0 read.1 in
    let before = rw c.in-Some.ensures.items at c.loop-part.invariant in
    let visits = rw c.as_slice-in-Some-get.ensures.value at c.in_ok-visit_all-2.ensures in
    Working-step c.args.nodes.now rows _ _ x _ row _ _ _ at before visits

pub loop-part-preserved : goal.loop-part-preserved
loop-part-preserved c =
    let rows = c.in_ok-users.users.items in
    let before = rw c.in-Some.ensures.items at c.loop-part.invariant in
    let read = rw c.deref.ensures.value at c.in_default-get.ensures.lookup in
    let inside : c.in-Some.part < length rows = in_rows c.args.nodes.now rows _ _ c.in-Some.part _ before in
    let no_row : ⊥ = omega (arith, inside, read.3) in
    absurd no_row

pub returns : goal.returns
returns c =
    let q = c.in_default.ensures.cases in
    let none : c.loop-part.work.items ≡ [] = nil_from_length _ (omega (arith, c.loop-part.work.ok.0)) in
    Working-end c.args.nodes.now c.in_ok-users.users.items c.loop-part.marks.items c.loop-part.seen.items (rw none at c.loop-part.invariant)
