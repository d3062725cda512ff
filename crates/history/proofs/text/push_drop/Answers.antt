use Rattle.std.proofs.Common.{◌≡◌, ◌∙◌, ◌++◌, ℤ, List, ℕ, w32, to_z, of_z, to_z-of_z, ap, subst, codes}
use Rattle.std.specs.Prelude.{OnOk}
use Rattle.history.specs.Text.{numbered, message_text}
use Rattle.history.proofs.Lines.{put_three}
use Rattle.history.proofs.text.push_drop.Goals as goal

pub returns : goal.returns
returns c =
    let out = c.args.out.now.items in
    let following = c.push_blank_message.new.out.items in
    let new = c.push_numbered.new.out.items in
    let routed : ℤ → ℤ → List ℕ = λ n route. numbered (codes "drop ") n ++ numbered (codes " at ") route in
    put_three c.push_numbered.result out (routed c.args.number c.args.route) (codes " " ++ message_text c.args.schema.now c.args.message) (numbered (codes " for ") c.args.id) c.push_routed.new.out.items following new
    (c.in_ok-push_routed.ensures
    ∙ (ap (λ (n : ℤ). out ++ routed n (to_z w32 (of_z w32 c.args.route))) (to_z-of_z c.ranges.number)
    ∙ ap (λ (route : ℤ). out ++ routed c.args.number route) (to_z-of_z c.ranges.route)))
    c.in_ok-push_blank_message.ensures
    (subst (λ (id : ℤ). OnOk c.push_numbered.result (new ≡ following ++ numbered (codes " for ") id)) (to_z-of_z c.ranges.id) c.push_numbered.ensures)
