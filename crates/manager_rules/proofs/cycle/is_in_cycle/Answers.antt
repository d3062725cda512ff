use Rattle.std.proofs.Common.{arith, rules, vec_len, ℕ, ◌≡◌, ◌<◌, ◌∙◌, List, [], ◌∷◌, length, Bool, false, true≢false, refl, sym, ap, subst}
use Rattle.std.specs.List.{Contains}
use Rattle.std.proofs.Math.ListN.{replicate}
use Rattle.std.proofs.lemmas.List.{get_or-replicate, length-replicate, nil_from_length}
use Rattle.std.proofs.lemmas.List.Elements.{Contains-append_right}
use Rattle.name_table.specs.Marks.{IsMarked, Marks}
use Rattle.name_table.proofs.Marking.{has_one, marked_within}
use Rattle.manager_rules.proofs.Cycles.{Searches, searches_first, searches_more, others_are, alone, cycle_met, no_cycle}
use Rattle.manager_rules.proofs.cycle.is_in_cycle.Goals as goal

none_marked : (k n : ℕ) → ¬ IsMarked (replicate k false) n
none_marked k n h =
    let below : n < k = omega (arith, marked_within (replicate k false) n h, length-replicate k false) in
    true≢false (sym h ∙ get_or-replicate k n false false below)

pub loop-file-init : goal.loop-file-init
loop-file-init c =
    let program = c.args.known.now.program.now in
    let from = c.args.from in
    let a = c.in_ok-marks.marks.items in
    let e : a ≡ replicate (length program) false = c.in_ok-marks.ensures.items_if_clones_equal (λ y h. h) in
    let others = c.in_ok-others.others.items in
    let P : List ℕ → List ℕ → Type 0 = λ these u. Marks these a u c.mark_all.new.marks.items c.mark_all.new.work.items in
    let m : P others [] = rw (sym c.as_slice.ensures.value, sym c.new-work.ensures.items) c.in_ok-mark_all.ensures in
    searches_first program from others a _ _ (ap length e ∙ length-replicate (length program) false) (λ n h. none_marked (length program) n (subst (λ (b : List Bool). IsMarked b n) e h))
    (others_are program from c.managers_of.result.now others c.in_ok-others.ensures c.managers_of.ensures) m

pub loop-file-preserved : goal.loop-file-preserved
loop-file-preserved c =
    let program = c.args.known.now.program.now in
    let before = subst (λ (u : List ℕ). Searches program c.args.from c.loop-file.marks.items u) c.in-Some.ensures.items c.loop-file.invariant in
    searches_more program c.args.from _ _ c.in-Some.file c.managers_of-in-Some.result.now _ _ c.if-file-from.false c.managers_of-in-Some.ensures before c.in_ok-mark_all-2.ensures

pub returns-then-file-from : goal.returns-then-file-from
returns-then-file-from c =
    let x = c.in-Some.file in
    let has : Contains c.loop-file.work.items x = rw c.in-Some.ensures.items (Contains-append_right _ (x ∷ []) x (has_one x)) in
    (λ t. cycle_met c.args.known.now.program.now c.args.from _ _ c.loop-file.invariant (subst (λ k. Contains c.loop-file.work.items k) c.if-file-from.true has), λ is. refl)

pub returns : goal.returns
returns c =
    let q = c.in_default.ensures.cases in
    let none : c.loop-file.work.items ≡ [] = nil_from_length _ (omega (arith, c.loop-file.work.ok.0)) in
    let f = subst (λ (u : List ℕ). Searches c.args.known.now.program.now c.args.from c.loop-file.marks.items u) none c.loop-file.invariant in
    (λ t. absurd (true≢false (sym t)), λ is. absurd (no_cycle c.args.known.now.program.now c.args.from _ f is))

pub returns-then-is_empty : goal.returns-then-is_empty
returns-then-is_empty c =
    let program = c.args.known.now.program.now in
    let from = c.args.from in
    let others = c.in_ok-others.others.items in
    let zero : vec_len c.in_ok-others.others ≡ 0 = search (rules, c.is_empty.ensures, c.if-is_empty.true) in
    let none : others ≡ [] = nil_from_length others (omega (arith, zero, c.in_ok-others.others.ok.0)) in
    (λ t. absurd (true≢false (sym t)), λ is. absurd (alone program from others none (others_are program from c.managers_of.result.now others c.in_ok-others.ensures c.managers_of.ensures) is))
