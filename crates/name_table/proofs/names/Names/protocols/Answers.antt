use Rattle.std.proofs.Common.{◌≡◌, ◌∙◌, sym, refl, subst, get_or, take, ◌+◌, true≢false}
use Rattle.ipdl_base.specs.declared.builtin.Builtin.TheVariants.{Bool}
use Rattle.name_table.specs.declared.decl.DeclId.TheVariants.{Builtin}
use Rattle.name_table.specs.declared.decl.Found.{Found}
use Rattle.name_table.specs.Finds.{FindsAsProtocol}
use Rattle.name_table.proofs.Counting.{Tally, tally_miss, tally_first, tally_same, counted, item_at, protocol_once, protocol_covered}
use Rattle.name_table.proofs.names.Names.protocols.Goals as goal
use Rattle.name_table.proofs.names.Names.protocols.Goals.{then-is_protocol+in-None, then-is_protocol+in-One+else-not-are_same, else-is_protocol}

pub loop-id-preserved : goal.loop-id-preserved
loop-id-preserved c =
    let F = FindsAsProtocol c.args.self.now c.args.file c.args.text.now in
    let row = c.row-id-items.result.now in
    let k = c.loop-id.id-index in
    let d = get_or row k (Builtin Bool) in
    let below = c.loop-id-test.true in
    let at = item_at row k (Builtin Bool) below in
    elim c.if-is_protocol.branch [
      | then-is_protocol+in-None w ↦
          subst (λ (f : Found). Tally F (λ _. ⊥) F (λ a e. a ≡ e) (take (k + 1) row) f) (sym w.found-is)
          (tally_first F (λ _. ⊥) F (λ a e. a ≡ e) row k d below at refl (c.is_protocol.ensures.0 w.if-is_protocol.true)
          (subst (λ (f : Found). Tally F (λ _. ⊥) F (λ a e. a ≡ e) (take k row) f) w.in-None.is c.loop-id.invariant))
      | then-is_protocol+in-One+else-not-are_same w ↦
          subst (λ (f : Found). Tally F (λ _. ⊥) F (λ a e. a ≡ e) (take (k + 1) row) f) (sym w.found-is)
          (tally_same F (λ _. ⊥) F (λ a e. a ≡ e) row k w.in-One.first d below at (w.are_same.ensures.0 w.if-not-are_same.false)
          (subst (λ (f : Found). Tally F (λ _. ⊥) F (λ a e. a ≡ e) (take k row) f) w.in-One.is c.loop-id.invariant))
      | else-is_protocol w ↦
          subst (λ (f : Found). Tally F (λ _. ⊥) F (λ a e. a ≡ e) (take (k + 1) row) f) (sym w.found-is)
          (tally_miss F (λ _. ⊥) F (λ a e. a ≡ e) row k d c.loop-id.found below at (λ h. true≢false (sym (c.is_protocol.ensures.1 h) ∙ w.if-is_protocol.false)) c.loop-id.invariant)
    ]

pub returns : goal.returns
returns c =
    let F = FindsAsProtocol c.args.self.now c.args.file c.args.text.now in
    counted F (λ _. ⊥) F (λ a e. a ≡ e) c.row-id-items.result.now _ c.loop-id.id-index c.loop-id.found c.row-id-items.ensures c.loop-id-test.false
    (protocol_covered c.args.self.now c.args.file c.args.text.now) (λ a e p q. protocol_once a e) c.loop-id.invariant
