use Rattle.std.proofs.Common.{arith, ℕ, ◌≡◌, ◌<◌, ◌∙◌, List, [], ◌∷◌, length, Bool, false, true≢false, refl, sym, ap, subst, inl, inr}
use Rattle.std.proofs.Math.ListN.{replicate}
use Rattle.std.proofs.lemmas.List.{get_or-replicate, length-replicate, nil_from_length}
use Rattle.std.proofs.lemmas.List.Elements.{Contains-append_right}
use Rattle.std.proofs.lemmas.Option.{slice_get_read}
use Rattle.std.specs.List.{Contains}
use Rattle.name_table.specs.Marks.{IsFollowed, IsMarked, Marks}
use Rattle.name_table.proofs.Marking.{Follows, complete, follows_first, follows_more, follows_past, has_one, header_at, no_protocol, is_none_tells, is_none_denies, marked_within}
use Rattle.name_table.proofs.sight.sight.Goals as goal
use Rattle.name_table.proofs.sight.sight.Goals.{then-file-from-via-then-file-from, then-file-from-via-else-file-from+then-is_none}

none_marked : (k n : ℕ) → ¬ IsMarked (replicate k false) n
none_marked k n h =
    let below : n < k = omega (arith, marked_within (replicate k false) n h, length-replicate k false) in
    true≢false (sym h ∙ get_or-replicate k n false false below)

pub loop-file-init : goal.loop-file-init
loop-file-init c =
    let a = c.in_ok-marks.marks.items in
    let g = c.args.program.now in
    let e : a ≡ replicate (length g) false = c.in_ok-marks.ensures.items_if_clones_equal (λ y h. h) in
    let w : c.new-work.result.items ≡ [] = c.new-work.ensures.items in
    let m : Marks (c.args.from ∷ []) a [] c.mark.new.marks.items c.mark.new.work.items = subst (λ (u : List ℕ). Marks (c.args.from ∷ []) a u c.mark.new.marks.items c.mark.new.work.items) w c.in_ok-mark.ensures in
    follows_first g c.args.from a _ _ c.requires (ap length e ∙ length-replicate (length g) false) (λ n h. none_marked (length g) n (subst (λ (b : List Bool). IsMarked b n) e h)) m

pub unreachable-requires : goal.unreachable-requires
unreachable-requires c =
    let f = c.loop-file.invariant in
    let x = c.in-Some.file in
    let has : Contains c.loop-file.work.items x = rw c.in-Some.ensures.items (Contains-append_right _ (x ∷ []) x (has_one x)) in
    let below : x < length c.loop-file.marks.items = marked_within _ x (f.waiting x has) in
    let size = f.size in
    let g = c.in_default-get.ensures.lookup in
    grind (arith, g)

pub loop-file-preserved-in-Some : goal.loop-file-preserved-in-Some
loop-file-preserved-in-Some c =
    let f = c.loop-file.invariant in
    let x = c.in-Some.file in
    let g = c.in-Some-get.ensures.lookup in
    let program = c.args.program.now in
    let at = slice_get_read program (length program) x c.in-Some-get.entry.now refl g.3.0 g.1 in
    let along : IsFollowed program c.args.from x = elim c.then-file-from.branch [
      | then-file-from-via-then-file-from w ↦ inl w.if-file-from.true
      | then-file-from-via-else-file-from+then-is_none w ↦ inr (header_at program x c.in-Some-get.entry.now at (is_none_tells c.in-Some-get.entry.now.unit.protocol w.is_none.result w.is_none.ensures w.if-is_none.true))
    ] in
    let before = subst (λ (u : List ℕ). Follows program c.args.from c.loop-file.marks.items u) c.in-Some.ensures.items f in
    let m = subst (λ (u : List ℕ). Marks u c.loop-file.marks.items c.pop.new.self.items c.mark_all.new.marks.items c.mark_all.new.work.items) c.as_slice.ensures c.in_ok-mark_all.ensures in
    follows_more program c.args.from _ _ x c.in-Some-get.entry.now _ _ at along before m

pub loop-file-preserved : goal.loop-file-preserved
loop-file-preserved c =
    let x = c.in-Some.file in
    let g = c.in-Some-get.ensures.lookup in
    let program = c.args.program.now in
    let at = slice_get_read program (length program) x c.in-Some-get.entry.now refl g.3.0 g.1 in
    let before = subst (λ (u : List ℕ). Follows program c.args.from c.loop-file.marks.items u) c.in-Some.ensures.items c.loop-file.invariant in
    follows_past program c.args.from _ _ x (λ along. elim along [
      | inl same ↦ c.if-file-from.false same
      | inr header ↦ is_none_denies c.in-Some-get.entry.now.unit.protocol c.is_none.result c.is_none.ensures c.if-is_none.false (no_protocol program x _ at header)
    ]) before

pub returns : goal.returns
returns c =
    let q = c.in_default.ensures.cases in
    let none : c.loop-file.work.items ≡ [] = nil_from_length _ (omega (arith, c.loop-file.work.ok.0)) in
    let f = subst (λ (u : List ℕ). Follows c.args.program.now c.args.from c.loop-file.marks.items u) none c.loop-file.invariant in
    λ n. (f.sound n, complete _ _ _ f)
