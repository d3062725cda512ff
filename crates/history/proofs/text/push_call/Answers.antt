use Rattle.std.proofs.Common.{◌∙◌, ◌++◌, ℤ, List, ℕ, w32, to_z, of_z, to_z-of_z, ap, codes}
use Rattle.history.specs.Text.{numbered, request_text}
use Rattle.history.proofs.Lines.{put_three}
use Rattle.history.proofs.text.push_call.Goals as goal

pub returns : goal.returns
returns c =
    let out = c.args.out.now.items in
    let routed : ℤ → ℤ → List ℕ = λ n transaction. numbered (codes "call ") n ++ numbered (codes "/") transaction in
    let following : ℤ → List ℕ = λ route. c.push_routed.new.out.items ++ numbered (codes " to ") route in
    put_three c.push_request.result out (routed c.args.number c.args.transaction) (numbered (codes " to ") c.args.route) (codes " " ++ request_text c.args.schema.now c.args.message c.args.values.now) c.push_routed.new.out.items c.push_numbered.new.out.items c.push_request.new.out.items
    (c.in_ok-push_routed.ensures
    ∙ (ap (λ (n : ℤ). out ++ routed n (to_z w32 (of_z w32 c.args.transaction))) (to_z-of_z c.ranges.number)
    ∙ ap (λ (transaction : ℤ). out ++ routed c.args.number transaction) (to_z-of_z c.ranges.transaction)))
    (c.in_ok-push_numbered.ensures ∙ ap following (to_z-of_z c.ranges.route))
    c.push_request.ensures
