-- The frame of a message, wherever the boxes of its values lie.
use Rattle.std.proofs.Common.{◌≡◌, ◌∙◌, List, ℕ, ℤ, refl, sym, ap, arith}
use Rattle.ipdl_base.specs.declared.line.What.{What}
use Rattle.ipdl_base.specs.declared.line.What.TheVariants as what
use Rattle.ipdl_base.specs.declared.message.Body.{Body}
use Rattle.ipdl_base.specs.declared.message.Body.TheVariants as body
use Rattle.ipdl_base.specs.declared.message.Message.{Message}
use Rattle.ipdl_base.specs.declared.schema.Schema.{Schema}
use Rattle.ipdl_base.specs.declared.value.Value.{Value, Union', Maybe', Held-Value-Maybe-0, None', Some'}
use Rattle.ipdl_base.specs.declared.value.Value as boxed
use Rattle.ipdl_base.specs.declared.value.Value.TheVariants as value
use Rattle.ipdl_base.specs.declared.value.Values.{Values, First'}
use Rattle.ipdl_base.specs.declared.value.Values.TheVariants as values
use Rattle.ipdl_base.specs.Plain.{one_box, plain, plain_body, plain_held, plain_message, plain_values}
use Rattle.ipdl_base.specs.Sound.{message_of}
use Rattle.nesting_core.specs.declared.frame.Answer.{Answer}
use Rattle.nesting_core.specs.declared.frame.Answer.TheVariants as answer
use Rattle.value_types.specs.declared.layout.TheConstants.{NEW}
use Rattle.value_types.proofs.Boxes.{body_size-plain, fits}
use Rattle.value_codec.specs.Spelling.{FrameOf}
use Rattle.channel_model.specs.Outputs.{AnsweredRequest, answer_line, body_of, reply_to}
use Rattle.end_parts.specs.PlainLines.{plain_what}
use Rattle.channel_core.specs.EndView.{HasFrame}

-- what is plain stays as it is
mutual
  plain-again : (v : Value) → plain (plain v) ≡ plain v
  plain-again (value.Bool b) = refl
  plain-again (value.Int n) = refl
  plain-again (value.Text text) = refl
  plain-again (value.Bytes bytes) = refl
  plain-again (value.Bits bits) = refl
  plain-again (value.Struct fields) = ap value.Struct (values-again fields)
  plain-again (Union' index _ held) = ap (boxed.Union' index one_box) (plain-again held)
  plain-again (value.Array elements) = ap value.Array (values-again elements)
  plain-again (Maybe' held) = ap boxed.Maybe' (held-again held)
  plain-again (value.Actor id) = refl

  held-again : (held : Held-Value-Maybe-0) → plain_held (plain_held held) ≡ plain_held held
  held-again None' = refl
  held-again (Some' _ v) = ap (Some' one_box) (plain-again v)

  values-again : (vs : Values) → plain_values (plain_values vs) ≡ plain_values vs
  values-again values.Nothing = refl
  values-again (First' _ v _ vs) = rw (plain-again v, values-again vs) refl

body-again : (b : Body) → plain_body (plain_body b) ≡ plain_body b
body-again (body.Request vs) = ap body.Request (values-again vs)
body-again (body.Reply vs) = ap body.Reply (values-again vs)
body-again (body.Fault reason) = refl
body-again body.Goodbye = refl

pub message-again : (m : Message) → plain_message (plain_message m) ≡ plain_message m
message-again m = ap (λ (b : Body). record m { body = b }) (body-again m.body)

-- a message that is plain has a frame where the message has
pub plain_framed : (schema : Schema) (m : Message) (frame : List ℕ) → FrameOf NEW schema m frame → HasFrame schema (plain_message m)
plain_framed schema m frame f =
    let size = body_size-plain NEW schema (message_of schema m.number) m.body in
    record { frame = record { fits = (fits schema m).1 f.fits; small = omega (arith, f.small, size); spelled = refl }; plain = message-again m }

-- values of an answer in a plain line are plain
told-plain : (w : What) (seq : ℤ) (vs : Values) → plain_what w ≡ what.AnswerOk seq vs → plain_values vs ≡ vs
told-plain (what.AnswerOk n ws) seq vs h =
    let same : plain_values ws ≡ vs = cc in
    ap plain_values (sym same) ∙ values-again ws ∙ same
told-plain other seq vs h = cc

-- and so is its reply
pub reply-plain : (q : AnsweredRequest) (a : Answer) (w : What) → plain_what w ≡ answer_line q.seq a → plain_message (reply_to q (body_of a)) ≡ reply_to q (body_of a)
reply-plain q (answer.Ok vs) w h = ap (λ (vs : Values). reply_to q (body.Reply vs)) (told-plain w q.seq vs h)
reply-plain q (answer.Fault reason) w h = refl
