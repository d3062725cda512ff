use Rattle.std.proofs.Common.{arith, ℕ, ◌≡◌, ◌<◌, ◌≤◌, ◌∙◌, List, [], ◌∷◌, ◌++◌, get_or, length, refl, sym, ap, subst, inl, inr}
use Rattle.std.proofs.lemmas.Bool.{true≢false}
use Rattle.std.proofs.lemmas.Option.{slice_get_read}
use Rattle.std.proofs.lemmas.List.Elements.{Contains-get_or}
use Rattle.std.specs.List.{Contains}
use Rattle.name_table.specs.Marks.{IsFollowed, Joins}
use Rattle.name_table.proofs.Marking.{Walks, walks_first, walks_all, walks_more, walks_past, reached_within, header_at, no_protocol}
use Rattle.name_table.proofs.sight.few.Goals as goal
use Rattle.name_table.proofs.sight.few.Goals.{then-is_followed+in_ok-join_all, else-is_followed}

pub files-init : goal.files-init
files-init c =
    let e = c.in_ok-push.ensures.items ∙ ap (λ (xs : List ℕ). xs ++ c.args.from ∷ []) c.new-files.ensures.items in
    subst (λ (xs : List ℕ). Walks c.args.program.now c.args.from xs 0) (sym e) (walks_first c.args.program.now c.args.from c.requires.within)

pub returns-in_default : goal.returns-in_default
returns-in_default c =
    let past : length c.files.files.items ≤ c.files.next = subst (λ (xs : List ℕ). length xs ≤ c.files.next) c.deref.ensures.value c.in_default.ensures.lookup.3 in
    walks_all c.args.program.now c.args.from _ _ c.files.invariant past

pub unreachable-requires : goal.unreachable-requires
unreachable-requires c =
    let g = c.in_default-get.ensures.lookup.3 in
    let h = c.in-Some.ensures.lookup.3 in
    let x = c.in-Some.file.now in
    let files = c.files.files.items in
    let below : c.files.next < length files = subst (λ (xs : List ℕ). c.files.next < length xs) c.deref.ensures.value h.0 in
    let is : x ≡ get_or files c.files.next 0 = subst (λ (xs : List ℕ). x ≡ get_or xs c.files.next 0) c.deref.ensures.value (h.1 0) in
    let within = reached_within _ _ (c.files.invariant.sound x (subst (Contains files) (sym is) (Contains-get_or files c.files.next 0 below))) in
    omega (arith, within, g)

pub files-preserved : goal.files-preserved
files-preserved c =
    let h = c.in-Some.ensures.lookup.3 in
    let g = c.in-Some-get.ensures.lookup in
    let x = c.in-Some.file.now in
    let files = c.files.files.items in
    let program = c.args.program.now in
    let from = c.args.from in
    let entry = c.in-Some-get.entry.now in
    let below : c.files.next < length files = subst (λ (xs : List ℕ). c.files.next < length xs) c.deref.ensures.value h.0 in
    let is : x ≡ get_or files c.files.next 0 = subst (λ (xs : List ℕ). x ≡ get_or xs c.files.next 0) c.deref.ensures.value (h.1 0) in
    let at = slice_get_read program (length program) x entry refl g.3.0 g.1 in
    elim c.if-is_followed.branch [
      | then-is_followed+in_ok-join_all w ↦
          (let along : IsFollowed program from x = elim (c.is_followed.ensures.0 w.if-is_followed.true) [ inl same ↦ inl same | inr none ↦ inr (header_at program x entry at none) ] in
          let joins = subst (λ (these : List ℕ). Joins (length program) these files w.join_all.new.files.items) w.as_slice.ensures w.in_ok-join_all.ensures in
          rw w.files-is (walks_more program from files c.files.next x entry _ below is at along c.files.invariant joins))
      | else-is_followed w ↦
          (let never : IsFollowed program from x → ⊥ = λ along. true≢false (sym (c.is_followed.ensures.1 (elim along [ inl same ↦ inl same | inr header ↦ inr (no_protocol program x entry at header) ])) ∙ w.if-is_followed.false) in
          rw w.files-is (walks_past program from files c.files.next x below is never c.files.invariant))
    ]
