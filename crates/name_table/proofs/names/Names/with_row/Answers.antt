use Rattle.std.proofs.Common.{◌≡◌, ◌∙◌, ◌<◌, ◌+◌, sym, refl, subst, get_or, take, true≢false, option_map, length, inl, ℕ, List, Option}
use Rattle.std.specs.List.{Contains}
use Rattle.ipdl_base.specs.declared.builtin.Builtin.TheVariants.{Bool}
use Rattle.ipdl_syntax.specs.declared.program.Entry.{Entry}
use Rattle.name_table.specs.declared.decl.DeclId.{DeclId}
use Rattle.name_table.specs.declared.decl.DeclId.TheVariants.{Builtin}
use Rattle.name_table.specs.declared.decl.Found.{Found}
use Rattle.name_table.specs.Candidates.{IsCandidate, AreOne, IsBuiltinOrEndpoint}
use Rattle.name_table.specs.Finds.{Finds}
use Rattle.name_table.specs.Rows.{listed_under, declared_from}
use Rattle.name_table.proofs.Counting.{Tally, tally_start, tally_miss, tally_first, tally_same, counted, item_at, one_through, finds_new, found_covered, found_once}
use Rattle.name_table.proofs.names.Names.with_row.Goals as goal
use Rattle.name_table.proofs.names.Names.with_row.Goals.{then-is_candidate+in-None, then-is_candidate+in-One+else-not-are_one, else-is_candidate}

-- a candidate of the row that differs from those before it is found
new_found : (program : List Entry) (file : ℕ) (text : List ℕ) (argument : Option (List ℕ)) (row : List DeclId) (k : ℕ) (d : DeclId)
    → row ≡ listed_under text (declared_from 0 program) → k < length row → d ≡ get_or row k d → IsCandidate program file text argument d
    → ((u : DeclId) → Contains (take k row) u → IsCandidate program file text argument u → AreOne program d u → ⊥) → Finds program file text argument d
new_found program file text argument row k d same below at c new =
    finds_new program file text argument k d (subst (λ (r : List DeclId). k < length r) same below) (subst (λ (r : List DeclId). d ≡ get_or r k d) same at) c
    (subst (λ (r : List DeclId). (u : DeclId) → Contains (take k r) u → IsCandidate program file text argument u → AreOne program d u → ⊥) same new)

pub loop-id-init : goal.loop-id-init
loop-id-init c =
    let F = Finds c.args.self.now c.args.file c.args.text.now (option_map (λ inner. inner.now) c.args.argument) in
    tally_start F (λ d. IsBuiltinOrEndpoint d × F d) (IsCandidate c.args.self.now c.args.file c.args.text.now (option_map (λ inner. inner.now) c.args.argument)) (AreOne c.args.self.now) c.args.first (λ d h. h.1) c.requires.first

pub returns-then-not-are_one : goal.returns-then-not-are_one
returns-then-not-are_one c =
    let program = c.args.self.now in
    let argument = option_map (λ inner. inner.now) c.args.argument in
    let F = Finds program c.args.file c.args.text.now argument in
    let C = IsCandidate program c.args.file c.args.text.now argument in
    let row = c.args.row.now in
    let k = c.loop-id.id-index in
    let d = get_or row k (Builtin Bool) in
    let at = item_at row k (Builtin Bool) c.loop-id-test.true in
    let t = subst (λ (f : Found). Tally F (λ e. IsBuiltinOrEndpoint e × F e) C (AreOne program) (take k row) f) c.in-One.is c.loop-id.invariant in
    let apart : ¬ AreOne program c.in-One.one d = λ h. true≢false (sym (c.are_one.ensures.1 h) ∙ c.if-not-are_one.true) in (
      t.0,
      new_found program c.args.file c.args.text.now argument row k d c.requires.row c.loop-id-test.true at (c.is_candidate.ensures.0 c.if-is_candidate.true)
          (λ u there is one. apart (one_through program c.in-One.one d u (t.2 u there is) one)),
      λ e. apart (inl e),
    )

pub loop-id-preserved : goal.loop-id-preserved
loop-id-preserved c =
    let program = c.args.self.now in
    let argument = option_map (λ inner. inner.now) c.args.argument in
    let F = Finds program c.args.file c.args.text.now argument in
    let B = λ (e : DeclId). IsBuiltinOrEndpoint e × F e in
    let C = IsCandidate program c.args.file c.args.text.now argument in
    let E = AreOne program in
    let row = c.args.row.now in
    let k = c.loop-id.id-index in
    let d = get_or row k (Builtin Bool) in
    let below = c.loop-id-test.true in
    let at = item_at row k (Builtin Bool) below in
    elim c.if-is_candidate.branch [
      | then-is_candidate+in-None w ↦
          (let t = subst (λ (f : Found). Tally F B C E (take k row) f) w.in-None.is c.loop-id.invariant in
          let is = new_found program c.args.file c.args.text.now argument row k d c.requires.row below at (c.is_candidate.ensures.0 w.if-is_candidate.true) (λ u there h one. t.1 u there h) in
          subst (λ (f : Found). Tally F B C E (take (k + 1) row) f) (sym w.found-is) (tally_first F B C E row k d below at (inl refl) is t))
      | then-is_candidate+in-One+else-not-are_one w ↦
          (let t = subst (λ (f : Found). Tally F B C E (take k row) f) w.in-One.is c.loop-id.invariant in
          subst (λ (f : Found). Tally F B C E (take (k + 1) row) f) (sym w.found-is) (tally_same F B C E row k w.in-One.one d below at (w.are_one.ensures.0 w.if-not-are_one.false) t))
      | else-is_candidate w ↦
          subst (λ (f : Found). Tally F B C E (take (k + 1) row) f) (sym w.found-is)
          (tally_miss F B C E row k d c.loop-id.found below at (λ h. true≢false (sym (c.is_candidate.ensures.1 h) ∙ w.if-is_candidate.false)) c.loop-id.invariant)
    ]

pub returns : goal.returns
returns c =
    let program = c.args.self.now in
    let argument = option_map (λ inner. inner.now) c.args.argument in
    let F = Finds program c.args.file c.args.text.now argument in
    counted F (λ (e : DeclId). IsBuiltinOrEndpoint e × F e) (IsCandidate program c.args.file c.args.text.now argument) (AreOne program) c.args.row.now _ c.loop-id.id-index c.loop-id.found c.requires.row c.loop-id-test.false
    (found_covered program c.args.file c.args.text.now argument) (found_once program c.args.file c.args.text.now argument) c.loop-id.invariant
