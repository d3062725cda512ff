-- Lines whose values have the types of their messages, and whose names are words.
use Rattle.std.specs.Prelude.{◌≡◌, ℤ, List, [], ◌∷◌, ◌++◌}
use Rattle.ipdl_base.specs.declared.line.Line.{Line}
use Rattle.ipdl_base.specs.declared.line.What.{What}
use Rattle.ipdl_base.specs.declared.line.What.TheVariants as what
use Rattle.ipdl_base.specs.declared.schema.ParamRow.{ParamRow}
use Rattle.ipdl_base.specs.declared.schema.Schema.{Schema}
use Rattle.ipdl_base.specs.declared.value.Values.{Values}
use Rattle.ipdl_base.specs.Plain.{plain_values}
use Rattle.ipdl_base.specs.Signatures.{params_of}
use Rattle.ipdl_base.specs.Words.{IsWord}
use Rattle.value_types.specs.HasType.{HaveTypes}
use Rattle.history.specs.Messages.{message_of_number}
use Rattle.history.specs.Text.{returns_named}
use Rattle.history_texts.specs.Held.{AreHeld, IsCount, IsNumber}

-- Values of these types, as memory can contain them, with every box at one place.
pub record AreOf (schema : Schema) (types : List ParamRow) (vs : Values) : Type 0 where
  pub typed : HaveTypes schema types vs
  pub held : AreHeld vs
  pub plain : plain_values vs ≡ vs

-- The content of a line has its types. `types` has the returns of the message of a number at its end.
abbrev pub SaysTyped : Schema → (ℤ → List ParamRow) → What → Type 0
SaysTyped schema types (what.Send n route message vs) = IsNumber n × IsNumber route × AreOf schema (params_of schema message) vs
SaysTyped schema types (what.Call n transaction route message vs) = IsNumber n × IsNumber transaction × IsNumber route × AreOf schema (params_of schema message) vs
SaysTyped schema types (what.RefusedSend cause message) = Unit {0}
SaysTyped schema types (what.RefusedClose cause) = Unit {0}
SaysTyped schema types (what.RefusedResolve cause) = Unit {0}
SaysTyped schema types (what.RefusedReject cause) = Unit {0}
SaysTyped schema types (what.Resolve n vs) = IsNumber n × AreOf schema (types n) vs
SaysTyped schema types (what.Reject n) = IsNumber n
SaysTyped schema types (what.Keep n name) = IsNumber n × IsWord name
SaysTyped schema types (what.Let name id) = IsNumber id × IsWord name
SaysTyped schema types what.Close = Unit {0}
SaysTyped schema types what.Die = Unit {0}
SaysTyped schema types (what.DeliverRequest n) = IsNumber n
SaysTyped schema types (what.DeliverReply n) = IsNumber n
SaysTyped schema types what.DeliverGoodbye = Unit {0}
SaysTyped schema types what.DeliverBroken = Unit {0}
SaysTyped schema types (what.Take n route message vs) = IsNumber n × IsNumber route × AreOf schema (params_of schema message) vs
SaysTyped schema types (what.Drop n route message id) = IsNumber n × IsNumber route × IsNumber id
SaysTyped schema types (what.TakeReply n) = IsNumber n
SaysTyped schema types what.ShutNormal = Unit {0}
SaysTyped schema types what.ShutAbnormal = Unit {0}
SaysTyped schema types (what.Return n) = IsNumber n
SaysTyped schema types (what.ResumeOk n vs) = IsNumber n × AreOf schema (types n) vs
SaysTyped schema types (what.ResumeFault n reason) = IsNumber n
SaysTyped schema types (what.Flush count) = IsCount count
SaysTyped schema types (what.Built id protocol) = IsNumber id
SaysTyped schema types (what.Replaced n) = IsNumber n
SaysTyped schema types (what.AnswerOk n vs) = IsNumber n × AreOf schema (types n) vs
SaysTyped schema types (what.AnswerFault n reason) = IsNumber n
SaysTyped schema types (what.Fails n) = IsNumber n
SaysTyped schema types (what.Resolved n vs) = IsNumber n × AreOf schema (types n) vs
SaysTyped schema types (what.Rejected n reason) = IsNumber n
SaysTyped schema types (what.Fall id destroy) = IsNumber id

-- each of the lines after others has its types
abbrev pub AreTyped : Schema → List Line → List Line → Type 0
AreTyped schema before [] = Unit {0}
AreTyped schema before (line ∷ rest) = SaysTyped schema (λ n. returns_named schema (message_of_number line.side before n)) line.what × AreTyped schema (before ++ line ∷ []) rest
