use Rattle.std.proofs.Common.{◌∙◌, ◌++◌, ℕ, List, ap, subst}
use Rattle.ipdl_base.specs.Plain.{plain_message}
use Rattle.frame_list.specs.Frames.{placed_at}
use Rattle.frame_list.specs.Steps.{IsFound}
use Rattle.frame_list.proofs.Forms.{form_plain}
use Rattle.frame_list.proofs.PlainFrames.{first_has}
use Rattle.frame_list.proofs.told.push_step.Goals as goal

pub push_in_form-requires-clause-new : goal.push_in_form-requires-clause-new
push_in_form-requires-clause-new c =
    first_has c.boxes_say_nothing.ensures c.new_is_at_most_four_times.ensures c.args.schema.now c.args.bytes.now c.in-Frame.message c.in-Frame.size
    (subst (IsFound c.args.schema.now c.args.offset c.args.bytes.now) c.in-Frame.is c.in_ok-message.ensures)

pub returns-in_ok-push_in_form-in-Frame : goal.returns-in_ok-push_in_form-in-Frame
returns-in_ok-push_in_form-in-Frame c =
    let schema = c.args.schema.now in
    record {
      message = plain_message c.in-Frame.message;
      begins = subst (IsFound schema c.args.offset c.args.bytes.now) c.in-Frame.is c.in_ok-message.ensures;
      text = c.in_ok-push_in_form-in-Frame.ensures
          ∙ ap (λ (t : List ℕ). c.args.out.now.items ++ t) (form_plain c.boxes_say_nothing.ensures c.args.form schema (placed_at c.args.offset c.in-Frame.message));
    }
