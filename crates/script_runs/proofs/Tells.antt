-- The text of a line shows the choice that the line records.
use Rattle.std.proofs.Common.{◌≡◌, ℤ, List, refl}
use Rattle.ipdl_base.specs.declared.kinds.Side.{Side}
use Rattle.ipdl_base.specs.declared.kinds.Side.TheVariants as sides
use Rattle.ipdl_base.specs.declared.line.Line.{Line}
use Rattle.ipdl_base.specs.declared.line.What.{What}
use Rattle.ipdl_base.specs.declared.line.What.TheVariants as what
use Rattle.ipdl_base.specs.declared.schema.ParamRow.{ParamRow}
use Rattle.ipdl_base.specs.declared.schema.Schema.{Schema}
use Rattle.channel_model.specs.Outputs.{line_at}
use Rattle.history.specs.Messages.{message_of_number}
use Rattle.history.specs.Text.{line_saying, returns_named}
use Rattle.script_steps.specs.Choices.{choice_of}
use Rattle.script_runs.specs.Laws.{LineTextsTellChoices}
use Rattle.script_runs.specs.Told.{choice_told}

parent-tells : (schema : Schema) (types : ℤ → List ParamRow) (w : What) → choice_told (line_saying schema types (line_at sides.Parent w)) ≡ choice_of (line_at sides.Parent w)
parent-tells schema types (what.Send n route number vs) = refl
parent-tells schema types (what.Call n transaction route number vs) = refl
parent-tells schema types (what.RefusedSend cause number) = refl
parent-tells schema types (what.RefusedClose cause) = refl
parent-tells schema types (what.RefusedResolve cause) = refl
parent-tells schema types (what.RefusedReject cause) = refl
parent-tells schema types (what.Resolve n vs) = refl
parent-tells schema types (what.Reject n) = refl
parent-tells schema types (what.Keep n name) = refl
parent-tells schema types (what.Let name id) = refl
parent-tells schema types what.Close = refl
parent-tells schema types what.Die = refl
parent-tells schema types (what.DeliverRequest n) = refl
parent-tells schema types (what.DeliverReply n) = refl
parent-tells schema types what.DeliverGoodbye = refl
parent-tells schema types what.DeliverBroken = refl
parent-tells schema types (what.Take n route number vs) = refl
parent-tells schema types (what.Drop n route number id) = refl
parent-tells schema types (what.TakeReply n) = refl
parent-tells schema types what.ShutNormal = refl
parent-tells schema types what.ShutAbnormal = refl
parent-tells schema types (what.Return n) = refl
parent-tells schema types (what.ResumeOk n vs) = refl
parent-tells schema types (what.ResumeFault n reason) = refl
parent-tells schema types (what.Flush count) = refl
parent-tells schema types (what.Built id protocol) = refl
parent-tells schema types (what.Replaced n) = refl
parent-tells schema types (what.AnswerOk n vs) = refl
parent-tells schema types (what.AnswerFault n reason) = refl
parent-tells schema types (what.Fails n) = refl
parent-tells schema types (what.Resolved n vs) = refl
parent-tells schema types (what.Rejected n reason) = refl
parent-tells schema types (what.Fall id destroy) = refl

child-tells : (schema : Schema) (types : ℤ → List ParamRow) (w : What) → choice_told (line_saying schema types (line_at sides.Child w)) ≡ choice_of (line_at sides.Child w)
child-tells schema types (what.Send n route number vs) = refl
child-tells schema types (what.Call n transaction route number vs) = refl
child-tells schema types (what.RefusedSend cause number) = refl
child-tells schema types (what.RefusedClose cause) = refl
child-tells schema types (what.RefusedResolve cause) = refl
child-tells schema types (what.RefusedReject cause) = refl
child-tells schema types (what.Resolve n vs) = refl
child-tells schema types (what.Reject n) = refl
child-tells schema types (what.Keep n name) = refl
child-tells schema types (what.Let name id) = refl
child-tells schema types what.Close = refl
child-tells schema types what.Die = refl
child-tells schema types (what.DeliverRequest n) = refl
child-tells schema types (what.DeliverReply n) = refl
child-tells schema types what.DeliverGoodbye = refl
child-tells schema types what.DeliverBroken = refl
child-tells schema types (what.Take n route number vs) = refl
child-tells schema types (what.Drop n route number id) = refl
child-tells schema types (what.TakeReply n) = refl
child-tells schema types what.ShutNormal = refl
child-tells schema types what.ShutAbnormal = refl
child-tells schema types (what.Return n) = refl
child-tells schema types (what.ResumeOk n vs) = refl
child-tells schema types (what.ResumeFault n reason) = refl
child-tells schema types (what.Flush count) = refl
child-tells schema types (what.Built id protocol) = refl
child-tells schema types (what.Replaced n) = refl
child-tells schema types (what.AnswerOk n vs) = refl
child-tells schema types (what.AnswerFault n reason) = refl
child-tells schema types (what.Fails n) = refl
child-tells schema types (what.Resolved n vs) = refl
child-tells schema types (what.Rejected n reason) = refl
child-tells schema types (what.Fall id destroy) = refl

side-tells : (schema : Schema) (types : ℤ → List ParamRow) (side : Side) (w : What) → choice_told (line_saying schema types (line_at side w)) ≡ choice_of (line_at side w)
side-tells schema types sides.Parent w = parent-tells schema types w
side-tells schema types sides.Child w = child-tells schema types w

pub line_texts_tell_choices : LineTextsTellChoices
line_texts_tell_choices schema before line = side-tells schema (λ n. returns_named schema (message_of_number line.side before n)) line.side line.what
