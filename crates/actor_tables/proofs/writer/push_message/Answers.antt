use Rattle.std.proofs.Common.{◌++◌, ◌∙◌, ap}
use Rattle.std.specs.Prelude.{codes}
use Rattle.actor_tables.specs.TableText.{params_text, returns_text}
use Rattle.actor_tables.proofs.Pieces.{put_five}
use Rattle.actor_tables.proofs.writer.push_message.Goals as goal

pub returns : goal.returns
returns c =
    put_five c.extend_from_slice-2.result c.args.out.now.items _ c.args.message.now.name (params_text c.args.schema.now c.args.message.now.params)
    (returns_text c.args.schema.now c.args.message.now.returns) (codes "\n") _ _ _ _ c.extend_from_slice-2.new.self.items
    c.in_ok-push_message_head.ensures
    (c.in_ok-extend_from_slice.ensures.items ∙ ap (λ name. c.push_message_head.new.out.items ++ name) c.as_slice.ensures)
    (c.in_ok-push_params.ensures ∙ ap (λ params. c.extend_from_slice.new.self.items ++ params_text c.args.schema.now params) c.as_slice-2.ensures)
    (c.in_ok-push_returns.ensures ∙ ap (λ returns. c.push_params.new.out.items ++ returns_text c.args.schema.now returns) c.as_ref.ensures.value)
    c.extend_from_slice-2.ensures.items
