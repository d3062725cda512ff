-- Worked transcripts: the definitions give these texts.
use Rattle.std.specs.Prelude.{◌≡◌, ℕ, ℤ, pos, negsuc, true, false, List, [], ◌∷◌, Option, Some, None, codes, refl}
use Rattle.std.specs.Fmt.{digits}
use Rattle.ipdl_base.specs.declared.builtin.Builtin.TheVariants as word
use Rattle.ipdl_base.specs.declared.kinds.Compress.TheVariants as compress
use Rattle.ipdl_base.specs.declared.kinds.Destroy.TheVariants as destroy
use Rattle.ipdl_base.specs.declared.kinds.Direction.TheVariants as direction
use Rattle.ipdl_base.specs.declared.kinds.Level.TheVariants as level
use Rattle.ipdl_base.specs.declared.kinds.Reason.TheVariants as reason
use Rattle.ipdl_base.specs.declared.kinds.Semantics.TheVariants.{Sync}
use Rattle.ipdl_base.specs.declared.kinds.SendRefusal.TheVariants as refusal
use Rattle.ipdl_base.specs.declared.kinds.Side.TheVariants as side
use Rattle.ipdl_base.specs.declared.schema.Kind.{Kind}
use Rattle.ipdl_base.specs.declared.schema.Kind.TheVariants.{Normal, Delete}
use Rattle.ipdl_base.specs.declared.schema.MessageRow.{MessageRow}
use Rattle.ipdl_base.specs.declared.schema.ParamRow.{ParamRow}
use Rattle.ipdl_base.specs.declared.schema.ProtocolRow.{ProtocolRow}
use Rattle.ipdl_base.specs.declared.schema.Schema.{Schema}
use Rattle.ipdl_base.specs.declared.schema.Shape.{Builtin, Actor}
use Rattle.ipdl_base.specs.declared.value.Value.TheVariants as value
use Rattle.ipdl_base.specs.declared.value.Values.{Values, First'}
use Rattle.ipdl_base.specs.declared.value.Values.TheVariants.{Nothing}
use Rattle.ipdl_base.specs.Plain.{one_box}
use Rattle.ipdl_base.specs.declared.line.Line.{Line}
use Rattle.ipdl_base.specs.declared.line.What.{What}
use Rattle.ipdl_base.specs.declared.line.What.TheVariants as what
use Rattle.history.specs.Text.{transcript_text}

abbrev message : ℕ → List ℕ → Kind → List ParamRow → Option (List ParamRow) → MessageRow
message number name kind params returns =
    record { number = number; name = name; direction = direction.Both; semantics = Sync; level = level.InsideSync; compress = compress.Plain; kind = kind; params = params; returns = returns; carried = true; lazy = false }

abbrev a_number : List ParamRow
a_number = record { name = codes "r"; shape = Builtin word.Int32 } ∷ []

abbrev protocol : List ℕ → List MessageRow → ProtocolRow
protocol name messages = record { name = name; semantics = Sync; level = level.InsideCpow; managers = []; manages = []; messages = messages }

-- a protocol with two calls that return a number, a message with a number and one with an actor, and a protocol in a namespace
abbrev schema : Schema
schema = record {
  protocols =
      protocol (codes "PW") (message 0 (codes "CallP") Normal [] (Some a_number) ∷ message 2 (codes "CallC") Normal [] (Some a_number) ∷ message 4 (codes "Tell") Normal a_number None
      ∷ message 6 (codes "Give") Normal (record { name = codes "w"; shape = Actor 1 true } ∷ []) None ∷ [])
      ∷ protocol (codes "n::PM") (message 65536 (codes "Get") Normal [] (Some a_number) ∷ message 65538 (codes "__delete__") Delete [] None ∷ []) ∷ [];
  types = [];
}

abbrev one : ℤ → Values
one n = First' one_box (value.Int n) one_box Nothing

abbrev an_actor : ℤ → Values
an_actor id = First' one_box (value.Actor id) one_box Nothing

abbrev parent : What → Line
parent what = record { side = side.Parent; what = what }

abbrev child : What → Line
child what = record { side = side.Child; what = what }

abbrev top : ℤ
top = pos 2147483647

-- Both ends call at once.
both_call : transcript_text schema (
    parent (what.Call (pos 1) (pos 1) top 2 Nothing)
    ∷ child (what.Call (negsuc 0) (negsuc 0) top 0 Nothing)
    ∷ parent (what.DeliverRequest (negsuc 0))
    ∷ child (what.DeliverRequest (pos 1))
    ∷ child (what.Take (pos 1) top 2 Nothing)
    ∷ child (what.Return (pos 1))
    ∷ child (what.AnswerOk (pos 1) (one (pos 20)))
    ∷ parent (what.DeliverReply (pos 1))
    ∷ parent (what.ResumeOk (pos 1) (one (pos 20)))
    ∷ parent (what.Take (negsuc 0) top 0 Nothing)
    ∷ parent (what.Return (negsuc 0))
    ∷ parent (what.AnswerOk (negsuc 0) (one (pos 10)))
    ∷ child (what.DeliverReply (negsuc 0))
    ∷ child (what.ResumeOk (negsuc 0) (one (pos 10))) ∷ [])
    ≡ codes "parent call 1/1 to 2147483647 PW.CallC()\nchild call -1/-1 to 2147483647 PW.CallP()\nparent deliver request -1\nchild deliver request 1\nchild take 1 at 2147483647 PW.CallC()\nchild return 1\n  answer 1 ok (20)\nparent deliver reply 1\nparent resume 1 ok (20)\nparent take -1 at 2147483647 PW.CallP()\nparent return -1\n  answer -1 ok (10)\nchild deliver reply -1\nchild resume -1 ok (10)\n"
unfolding digits
both_call = refl

-- Actors: one is built, one is sent as a value, one is missing, and a tree of them falls.
actors : transcript_text schema (
    child (what.Send (negsuc 0) top 4 (one (negsuc 6)))
    ∷ child (what.Built (pos 4) 1)
    ∷ child (what.Send (negsuc 1) (pos 4) 65538 Nothing)
    ∷ child (what.Fall (pos 4) destroy.Deletion)
    ∷ child (what.RefusedSend refusal.DeadActor 65536)
    ∷ parent (what.Send (pos 1) top 6 (an_actor (pos 4)))
    ∷ child (what.Take (pos 1) top 6 (an_actor (pos 0)))
    ∷ parent (what.Drop (negsuc 2) (pos 6) 65536 (pos 6))
    ∷ parent (what.AnswerFault (negsuc 2) reason.ActorDestroyed)
    ∷ child (what.Let (codes "a") (pos 8))
    ∷ child (what.Flush 2) ∷ [])
    ≡ codes "child send -1 to 2147483647 PW.Tell(-7)\n  built 4 PM\nchild send -2 to 4 PM.__delete__()\n  fall 4 Deletion\nchild refused DeadActor PM.Get\nparent send 1 to 2147483647 PW.Give(#4)\nchild take 1 at 2147483647 PW.Give(null)\nparent drop -3 at 6 PM.Get for 6\n  answer -3 fault ActorDestroyed\nchild let a 8\nchild flush 2\n"
unfolding digits
actors = refl

-- Promises: a number has the message that its last line gives it; closing settles the rest.
promises : transcript_text schema (
    child (what.Send (negsuc 0) (pos 4) 65536 Nothing)
    ∷ parent (what.Take (negsuc 0) (pos 4) 65536 Nothing)
    ∷ parent (what.Keep (negsuc 0) (codes "k"))
    ∷ parent (what.Resolve (negsuc 0) (one (pos 5)))
    ∷ child (what.TakeReply (negsuc 0))
    ∷ child (what.Resolved (negsuc 0) (one (pos 5)))
    ∷ parent (what.Reject (negsuc 1))
    ∷ child (what.Rejected (negsuc 1) reason.HandlerRejected)
    ∷ parent (what.RefusedClose refusal.InCall)
    ∷ parent (what.RefusedResolve refusal.Closed)
    ∷ parent (what.RefusedReject refusal.Closed)
    ∷ parent what.Close
    ∷ child what.DeliverGoodbye
    ∷ child (what.Fails (negsuc 2))
    ∷ child (what.ResumeFault (negsuc 2) reason.ChannelClosed)
    ∷ child (what.Replaced (pos 3))
    ∷ child what.ShutNormal
    ∷ child what.Die
    ∷ parent what.DeliverBroken
    ∷ parent what.ShutAbnormal ∷ [])
    ≡ codes "child send -1 to 4 PM.Get()\nparent take -1 at 4 PM.Get()\nparent keep -1 k\nparent resolve -1 (5)\nchild take reply -1\n  settle -1 resolved (5)\nparent reject -2\n  settle -2 rejected HandlerRejected\nparent refused InCall close\nparent refused Closed resolve\nparent refused Closed reject\nparent close\nchild deliver goodbye\n  fails -3\nchild resume -3 fault ChannelClosed\n  replaced 3\nchild shut NormalShutdown\nchild die\nparent deliver broken\nparent shut AbnormalShutdown\n"
unfolding digits
promises = refl
