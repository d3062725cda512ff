use Rattle.std.proofs.Common.{◌≡◌, ℤ, List, length, map, reverse, sym, ap, subst, ◌∙◌, arith}
use Rattle.std.specs.Vec.{with_items}
use Rattle.std.proofs.lemmas.List.{with_items_is}
use Rattle.std.proofs.lemmas.Int.{to_z-of_z}
use mir.Val.{to_z, of_z}
use mir.Syntax.{w32}
use Rattle.channel_model.specs.Answers.{released}
use Rattle.channel_model.specs.Ends.{StackEntry}
use Rattle.end_parts.specs.declared.stack_entries.EntryDetail.{EntryDetail}
use Rattle.end_parts.specs.StackDetails.{entries_of, released_detail, AreDetails}
use Rattle.end_parts.proofs.ReleaseLemmas.{released-entries, released-details}
use Rattle.end_parts.proofs.stack_entries.StackEntries.release.Goals as goal

pub invariant_of-self : goal.invariant_of-self
invariant_of-self c =
    let items = c.self.inside.details.items in
    let now = c.release_details.new.details in
    let is : (with_items c.self.inside.details now).items ≡ now = with_items_is c.self.inside.details now (omega (arith, c.release_details.auto.details, c.as_mut_slice.ensures.len, ap (λ (ds : List EntryDetail). length ds) c.as_mut_slice.ensures.value, c.self.inside.details.ok.0)) in
    let changed : reverse now ≡ map (released_detail c.args.seq) (reverse items) =
    subst (λ (z : ℤ). reverse now ≡ map (released_detail z) (reverse items)) (to_z-of_z w32 c.args.seq c.ranges.seq) (c.release_details.ensures ∙ ap (λ (ds : List EntryDetail). map (released_detail (to_z w32 (of_z w32 c.args.seq))) (reverse ds)) c.as_mut_slice.ensures.value) in (
      subst (λ (ds : List EntryDetail). AreDetails c.self.inside.frames (reverse ds)) (sym is)
          (subst (AreDetails c.self.inside.frames) (sym changed) (released-details c.args.seq c.self.inside.frames (reverse items) c.self.invariant.0)),
      c.self.invariant.1,
    )

pub returns : goal.returns
returns c =
    let items = c.self.inside.details.items in
    let now = c.release_details.new.details in
    let is : (with_items c.self.inside.details now).items ≡ now = with_items_is c.self.inside.details now (omega (arith, c.release_details.auto.details, c.as_mut_slice.ensures.len, ap (λ (ds : List EntryDetail). length ds) c.as_mut_slice.ensures.value, c.self.inside.details.ok.0)) in
    let changed : reverse now ≡ map (released_detail c.args.seq) (reverse items) =
    subst (λ (z : ℤ). reverse now ≡ map (released_detail z) (reverse items)) (to_z-of_z w32 c.args.seq c.ranges.seq) (c.release_details.ensures ∙ ap (λ (ds : List EntryDetail). map (released_detail (to_z w32 (of_z w32 c.args.seq))) (reverse ds)) c.as_mut_slice.ensures.value) in
    ap (λ (ds : List EntryDetail). entries_of c.self.inside.frames (reverse ds)) is
    ∙ ap (entries_of c.self.inside.frames) changed
    ∙ released-entries c.args.seq c.self.inside.frames (reverse items) c.self.invariant.0
    ∙ ap (λ (es : List StackEntry). released c.args.seq es) c.self.view_is
