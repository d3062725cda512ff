use Rattle.std.proofs.Common.{◌≡◌, true, false, length, ap, ◌∙◌, arith}
use Rattle.std.proofs.Math.ListN.{replicate}
use Rattle.std.proofs.lemmas.List.{get_or-set_same, length-set, length-replicate}
use Rattle.wait_report.specs.Least.{too_many}
use Rattle.wait_report.proofs.SoundValues.{first-sound}
use Rattle.wait_report.proofs.known.known_of.Goals as goal

pub loop-users-init : goal.loop-users-init
loop-users-init c =
    let types = length c.args.schema.now.types in
    let protocols = length c.args.schema.now.protocols in
    let none : c.in_ok-types.types.items ≡ replicate types too_many = rw c.len.ensures at (c.in_ok-types.ensures.items_if_clones_equal (λ y h. h)) in
    let nobody : c.in_ok-built.built.items ≡ replicate protocols false = rw c.len-2.ensures at (c.in_ok-built.ensures.items_if_clones_equal (λ y h. h)) in
    let many : length c.in_ok-built.built.items ≡ protocols = ap length nobody ∙ length-replicate protocols false in
    record {
      size = ap length none ∙ length-replicate types too_many;
      count = length-set c.in_ok-built.built.items c.args.top true ∙ many;
      sound = first-sound c.args.schema.now c.args.top types protocols c.in_ok-types.types.items c.in_ok-built.built.items none nobody;
      live = get_or-set_same c.in_ok-built.built.items c.args.top true false (omega (arith, many, c.requires.there));
    }
