-- Worked histories: the definitions decide the laws of them, and of false neighbours.
use Rattle.std.specs.Prelude.{◌≡◌, ℕ, ℤ, pos, negsuc, Bool, true, false, List, [], ◌∷◌, ◌++◌, Option, Some, None, codes, refl, map}
use Rattle.ipdl_base.specs.declared.builtin.Builtin.TheVariants as word
use Rattle.ipdl_base.specs.declared.kinds.Compress.TheVariants as compress
use Rattle.ipdl_base.specs.declared.kinds.Destroy.TheVariants as destroy
use Rattle.ipdl_base.specs.declared.kinds.Direction.TheVariants as direction
use Rattle.ipdl_base.specs.declared.kinds.Level.TheVariants as level
use Rattle.ipdl_base.specs.declared.kinds.Reason.TheVariants as reason
use Rattle.ipdl_base.specs.declared.kinds.Semantics.{Semantics}
use Rattle.ipdl_base.specs.declared.kinds.Semantics.TheVariants.{Async, Sync}
use Rattle.ipdl_base.specs.declared.kinds.Side.TheVariants as side
use Rattle.ipdl_base.specs.declared.schema.Kind.{Kind}
use Rattle.ipdl_base.specs.declared.schema.Kind.TheVariants.{Normal, Constructor, Delete}
use Rattle.ipdl_base.specs.declared.schema.MessageRow.{MessageRow}
use Rattle.ipdl_base.specs.declared.schema.ParamRow.{ParamRow}
use Rattle.ipdl_base.specs.declared.schema.ProtocolRow.{ProtocolRow}
use Rattle.ipdl_base.specs.declared.schema.Schema.{Schema}
use Rattle.ipdl_base.specs.declared.schema.Shape.{Builtin}
use Rattle.ipdl_base.specs.declared.value.Value.TheVariants as value
use Rattle.ipdl_base.specs.declared.value.Values.{Values, First'}
use Rattle.ipdl_base.specs.declared.value.Values.TheVariants.{Nothing}
use Rattle.ipdl_base.specs.Plain.{one_box}
use Rattle.ipdl_base.specs.declared.line.Line.{Line}
use Rattle.ipdl_base.specs.declared.line.What.{What}
use Rattle.ipdl_base.specs.declared.line.What.TheVariants as what
use Rattle.history_reading.specs.declared.unanswered_call.UnansweredCall.{UnansweredCall}
use Rattle.history_reading.specs.declared.law.Law.{Law}
use Rattle.history_reading.specs.declared.law.Law.TheVariants as law
use Rattle.history_reading.specs.Chain.{chain_of}
use Rattle.history_reading.specs.Holds.{holds_of, is_readable, moment_test, passes}
use Rattle.history_reading.specs.Settled.{is_destroyed, promise_falls_next, resolves_missing, reports_fallen}
use Rattle.history_reading.specs.Fallen.{is_next, lets_fall}
use Rattle.history_reading.specs.Reading.{actor_place, without_first}

abbrev message : ℕ → List ℕ → Semantics → Kind → List ParamRow → Option (List ParamRow) → MessageRow
message number name semantics kind params returns =
    record { number = number; name = name; direction = direction.Both; semantics = semantics; level = level.InsideSync; compress = compress.Plain; kind = kind; params = params; returns = returns; carried = true; lazy = false }

abbrev a_number : List ParamRow
a_number = record { name = codes "r"; shape = Builtin word.Int32 } ∷ []

abbrev protocol : List ℕ → List MessageRow → ProtocolRow
protocol name messages = record { name = name; semantics = Sync; level = level.InsideCpow; managers = []; manages = []; messages = messages }

-- two calls that return a number, a constructor, and of what it makes a question with an answer and a destructor
abbrev schema : Schema
schema = record {
  protocols =
      protocol (codes "PW") (message 0 (codes "CallP") Sync Normal [] (Some a_number) ∷ message 2 (codes "CallC") Sync Normal [] (Some a_number) ∷ message 4 (codes "PM") Async (Constructor 1) [] None ∷ [])
      ∷ protocol (codes "PM") (message 65536 (codes "Get") Async Normal [] (Some a_number) ∷ message 65538 (codes "__delete__") Async Delete [] None ∷ []) ∷ [];
  types = [];
}

abbrev one : ℤ → Values
one n = First' one_box (value.Int n) one_box Nothing

abbrev parent : What → Line
parent what = record { side = side.Parent; what = what }

abbrev child : What → Line
child what = record { side = side.Child; what = what }

abbrev top : ℤ
top = pos 2147483647

abbrev laws : List Law
laws = law.Prefix ∷ law.Living ∷ law.Waits ∷ law.Settled ∷ law.Fallen ∷ []

-- each law on these lines
abbrev verdicts : List Line → List Bool
verdicts lines = map (λ l. holds_of l schema lines) laws

-- Both ends call at once, and the child serves first.
abbrev both_begin : List Line
both_begin =
    parent (what.Call (pos 1) (pos 1) top 2 Nothing)
    ∷ child (what.Call (negsuc 0) (negsuc 0) top 0 Nothing)
    ∷ parent (what.DeliverRequest (negsuc 0))
    ∷ child (what.DeliverRequest (pos 1))
    ∷ child (what.Take (pos 1) top 2 Nothing)
    ∷ child (what.Return (pos 1))
    ∷ child (what.AnswerOk (pos 1) (one (pos 20)))
    ∷ parent (what.DeliverReply (pos 1)) ∷ []

abbrev both_end : List Line
both_end =
    parent (what.Take (negsuc 0) top 0 Nothing)
    ∷ parent (what.Return (negsuc 0))
    ∷ parent (what.AnswerOk (negsuc 0) (one (pos 10)))
    ∷ child (what.DeliverReply (negsuc 0))
    ∷ child (what.ResumeOk (negsuc 0) (one (pos 10))) ∷ []

abbrev both_call : List Line
both_call = both_begin ++ parent (what.ResumeOk (pos 1) (one (pos 20))) ∷ both_end

all_hold : verdicts both_call ≡ true ∷ true ∷ true ∷ true ∷ true ∷ []
unfolding without_first actor_place is_next lets_fall promise_falls_next reports_fallen resolves_missing is_destroyed passes moment_test is_readable
all_hold = refl

-- with another value the parent's call does not resume by the answer
other_value : verdicts (both_begin ++ parent (what.ResumeOk (pos 1) (one (pos 21))) ∷ both_end) ≡ true ∷ true ∷ false ∷ true ∷ true ∷ []
unfolding without_first actor_place is_next lets_fall promise_falls_next reports_fallen resolves_missing is_destroyed passes moment_test is_readable
other_value = refl

-- a call that is not there cannot resume
not_readable : verdicts (both_begin ++ parent (what.ResumeOk (pos 2) (one (pos 20))) ∷ both_end) ≡ false ∷ false ∷ false ∷ false ∷ false ∷ []
unfolding without_first actor_place is_next lets_fall promise_falls_next reports_fallen resolves_missing is_destroyed passes moment_test is_readable
not_readable = refl

-- both calls wait, the older first
both_wait : map (λ (h : UnansweredCall). h.head.seq) (chain_of schema (parent (what.Call (pos 1) (pos 1) top 2 Nothing) ∷ child (what.Call (negsuc 0) (negsuc 0) top 0 Nothing) ∷ [])) ≡ pos 1 ∷ negsuc 0 ∷ []
unfolding without_first actor_place is_next lets_fall promise_falls_next reports_fallen resolves_missing is_destroyed passes moment_test is_readable
both_wait = refl

-- An actor is made and asked, and the parent closes before the answer comes.
abbrev made_and_asked : List Line
made_and_asked =
    parent (what.Send (pos 1) top 4 Nothing)
    ∷ parent (what.Built (pos 6) 1)
    ∷ parent (what.Send (pos 2) (pos 6) 65536 Nothing)
    ∷ child (what.DeliverRequest (pos 1))
    ∷ child (what.Take (pos 1) top 4 Nothing)
    ∷ child (what.Built (pos 6) 1)
    ∷ child (what.Return (pos 1)) ∷ []

abbrev settles : What
settles = what.Rejected (pos 2) reason.ChannelClosed

abbrev falls : ℤ → What
falls id = what.Fall id destroy.NormalShutdown

abbrev closes_with : List What → List Line
closes_with effects = made_and_asked ++ parent what.Close ∷ map parent effects

closes : verdicts (closes_with (settles ∷ falls (pos 6) ∷ falls top ∷ [])) ≡ true ∷ true ∷ true ∷ true ∷ true ∷ []
unfolding without_first actor_place is_next lets_fall promise_falls_next reports_fallen resolves_missing is_destroyed passes moment_test is_readable
closes = refl

-- the manager falls first
manager_first : verdicts (closes_with (settles ∷ falls top ∷ falls (pos 6) ∷ [])) ≡ true ∷ true ∷ true ∷ true ∷ false ∷ []
unfolding without_first actor_place is_next lets_fall promise_falls_next reports_fallen resolves_missing is_destroyed passes moment_test is_readable
manager_first = refl

-- a promise is settled twice, or not at all
twice : verdicts (closes_with (settles ∷ settles ∷ falls (pos 6) ∷ falls top ∷ [])) ≡ true ∷ true ∷ true ∷ false ∷ true ∷ []
unfolding without_first actor_place is_next lets_fall promise_falls_next reports_fallen resolves_missing is_destroyed passes moment_test is_readable
twice = refl

never : verdicts (closes_with (falls (pos 6) ∷ falls top ∷ [])) ≡ true ∷ true ∷ true ∷ false ∷ true ∷ []
unfolding without_first actor_place is_next lets_fall promise_falls_next reports_fallen resolves_missing is_destroyed passes moment_test is_readable
never = refl

-- an end that dies promises nothing more, and nobody falls there
dies : verdicts (made_and_asked ++ parent what.Die ∷ []) ≡ true ∷ true ∷ true ∷ true ∷ true ∷ []
unfolding without_first actor_place is_next lets_fall promise_falls_next reports_fallen resolves_missing is_destroyed passes moment_test is_readable
dies = refl

-- what was not sent is delivered, and what does not live is asked
not_sent : verdicts (made_and_asked ++ child (what.DeliverRequest (pos 3)) ∷ []) ≡ false ∷ true ∷ true ∷ true ∷ true ∷ []
unfolding without_first actor_place is_next lets_fall promise_falls_next reports_fallen resolves_missing is_destroyed passes moment_test is_readable
not_sent = refl

not_living : verdicts (made_and_asked ++ parent (what.Send (pos 3) (pos 10) 65536 Nothing) ∷ []) ≡ true ∷ false ∷ true ∷ true ∷ true ∷ []
unfolding without_first actor_place is_next lets_fall promise_falls_next reports_fallen resolves_missing is_destroyed passes moment_test is_readable
not_living = refl
