-- Worked histories: the statements are true of them, and not of false neighbours.
use Rattle.std.proofs.Common.{◌≡◌, ℕ, ℤ, pos, negsuc, true, false, List, [], ◌∷◌, ◌++◌, map, Option, Some, None, refl, sym, ap, subst, ◌∙◌, arith}
use Rattle.std.specs.Prelude.{codes}
use Rattle.std.specs.Option.{option_map_or}
use Rattle.std.proofs.lemmas.Bool.{false≢true}
use Rattle.ipdl_base.specs.declared.builtin.Builtin.TheVariants as word
use Rattle.ipdl_base.specs.declared.kinds.Compress.TheVariants as compress
use Rattle.ipdl_base.specs.declared.kinds.Destroy.TheVariants as destroy
use Rattle.ipdl_base.specs.declared.kinds.Direction.TheVariants as direction
use Rattle.ipdl_base.specs.declared.kinds.Level.TheVariants as level
use Rattle.ipdl_base.specs.declared.kinds.Reason.TheVariants as reason
use Rattle.ipdl_base.specs.declared.kinds.Semantics.{Semantics}
use Rattle.ipdl_base.specs.declared.kinds.Semantics.TheVariants.{Async, Sync}
use Rattle.ipdl_base.specs.declared.kinds.Side.{Side}
use Rattle.ipdl_base.specs.declared.kinds.Side.TheVariants as side
use Rattle.ipdl_base.specs.declared.line.Line.{Line}
use Rattle.ipdl_base.specs.declared.line.What.{What}
use Rattle.ipdl_base.specs.declared.line.What.TheVariants as what
use Rattle.ipdl_base.specs.declared.schema.Kind.{Kind}
use Rattle.ipdl_base.specs.declared.schema.Kind.TheVariants.{Normal, Constructor}
use Rattle.ipdl_base.specs.declared.schema.MessageRow.{MessageRow}
use Rattle.ipdl_base.specs.declared.schema.ParamRow.{ParamRow}
use Rattle.ipdl_base.specs.declared.schema.Schema.{Schema}
use Rattle.ipdl_base.specs.declared.schema.Shape.{Builtin}
use Rattle.ipdl_base.specs.declared.value.Value.TheVariants as value
use Rattle.ipdl_base.specs.declared.value.Values.{Values, First'}
use Rattle.ipdl_base.specs.declared.value.Values.TheVariants.{Nothing}
use Rattle.ipdl_base.specs.Plain.{one_box}
use Rattle.history_reading.specs.declared.unanswered_call.UnansweredCall.{UnansweredCall}
use Rattle.history_reading.specs.declared.parts.Cause.{Cause}
use Rattle.history_reading.specs.Fallen.{is_next, lets_fall}
use Rattle.history_reading.specs.Nulled.{is_nulled}
use Rattle.history_reading.specs.Holds.{is_readable, moment_test, passes}
use Rattle.history_reading.specs.Reading.{actor_place, without_first}
use Rattle.history_reading.specs.SentPacket.{Request}
use Rattle.history_reading.specs.Settled.{is_destroyed, promise_falls_next, resolves_missing, reports_fallen}
use Rattle.law_statements.specs.Said.{line_of, said_by}
use Rattle.law_statements.specs.Actors.{built, lives}
use Rattle.law_statements.specs.Calls.{waiting_calls}
use Rattle.law_statements.specs.Fallen.{Fallen, LetsFall}
use Rattle.law_statements.specs.Living.{Living}
use Rattle.law_statements.specs.Prefix.{Prefix, WasSentWith}
use Rattle.law_statements.specs.Readable.{Readable}
use Rattle.law_statements.specs.Settled.{Settled}
use Rattle.law_statements.specs.Waits.{IsStillAt, Waits}
use Rattle.law_statements.proofs.Arrivals.{there}
use Rattle.law_statements.proofs.FallenLaw.{cause-read, fallen-to}
use Rattle.law_statements.proofs.LivingLaw.{living-to}
use Rattle.law_statements.proofs.PrefixLaw.{prefix-to}
use Rattle.law_statements.proofs.ReadableLines.{readable-to}
use Rattle.law_statements.proofs.SettledLaw.{settled-to}
use Rattle.law_statements.proofs.WaitsLaw.{waits-to}

-- a call that takes and returns a number, a constructor, and for the actor that it makes a question with an answer
abbrev a_number : List ParamRow
a_number = record { name = codes "r"; shape = Builtin word.Int32 } ∷ []

abbrev message : ℕ → Semantics → Kind → List ParamRow → Option (List ParamRow) → MessageRow
message number semantics kind params returns =
    record { number = number; name = codes "M"; direction = direction.Both; semantics = semantics; level = level.InsideSync; compress = compress.Plain; kind = kind; params = params; returns = returns; carried = true; lazy = false }

abbrev schema : Schema
schema = record {
  protocols =
      record { name = codes "P"; semantics = Sync; level = level.InsideCpow; managers = []; manages = []; messages = message 0 Sync Normal a_number (Some a_number) ∷ message 2 Async (Constructor 1) [] None ∷ [] }
      ∷ record { name = codes "Q"; semantics = Sync; level = level.InsideCpow; managers = []; manages = []; messages = message 65536 Async Normal [] (Some a_number) ∷ [] } ∷ [];
  types = [];
}

abbrev one : ℤ → Values
one n = First' one_box (value.Int n) one_box Nothing

abbrev parent : What → Line
parent what = line_of side.Parent what

abbrev child : What → Line
child what = line_of side.Child what

abbrev top : ℤ
top = pos 2147483647

-- A call with its answer

abbrev called : List Line
called = parent (what.Call (pos 1) (pos 1) top 0 (one (pos 7))) ∷ child (what.DeliverRequest (pos 1)) ∷ []

abbrev answered : List Line
answered = called ++ child (what.Take (pos 1) top 0 (one (pos 7))) ∷ child (what.Return (pos 1)) ∷ child (what.AnswerOk (pos 1) (one (pos 8))) ∷ parent (what.DeliverReply (pos 1)) ∷ parent (what.ResumeOk (pos 1) (one (pos 8))) ∷ []

-- An actor is made and asked, and its maker closes

abbrev asked : List Line
asked = parent (what.Send (pos 1) top 2 Nothing) ∷ parent (what.Built (pos 6) 1) ∷ parent (what.Send (pos 2) (pos 6) 65536 Nothing) ∷ []

abbrev falls : ℤ → What
falls id = what.Fall id destroy.NormalShutdown

abbrev settles : What
settles = what.Rejected (pos 2) reason.ChannelClosed

abbrev closed_with : List What → List Line
closed_with effects = asked ++ parent what.Close ∷ map parent effects

abbrev closed : List Line
closed = closed_with (settles ∷ falls (pos 6) ∷ falls top ∷ [])

-- Two actors are made, and their maker closes: the older falls first

abbrev both_closed_with : List What → List Line
both_closed_with effects =
    parent (what.Send (pos 1) top 2 Nothing) ∷ parent (what.Built (pos 6) 1) ∷ parent (what.Send (pos 2) top 2 Nothing) ∷ parent (what.Built (pos 10) 1) ∷ parent what.Close ∷ map parent effects

abbrev both_closed : List Line
both_closed = both_closed_with (falls (pos 6) ∷ falls (pos 10) ∷ falls top ∷ [])

record AllHold (lines : List Line) : Type 0 where
  readable : Readable schema lines
  prefix : Prefix schema lines
  living : Living schema lines
  waits : Waits schema lines
  settled : Settled schema lines
  fallen : Fallen schema lines

answered_holds : AllHold answered
unfolding without_first actor_place is_next lets_fall promise_falls_next reports_fallen resolves_missing is_destroyed passes moment_test is_readable
answered_holds = record {
  readable = readable-to schema answered refl;
  prefix = prefix-to schema answered refl;
  living = living-to schema answered refl;
  waits = waits-to schema answered refl refl;
  settled = settled-to schema answered refl;
  fallen = fallen-to schema answered refl refl;
}

closed_holds : AllHold closed
unfolding without_first actor_place is_next lets_fall promise_falls_next reports_fallen resolves_missing is_destroyed passes moment_test is_readable
closed_holds = record {
  readable = readable-to schema closed refl;
  prefix = prefix-to schema closed refl;
  living = living-to schema closed refl;
  waits = waits-to schema closed refl refl;
  settled = settled-to schema closed refl;
  fallen = fallen-to schema closed refl refl;
}

both_closed_hold : AllHold both_closed
unfolding without_first actor_place is_next lets_fall promise_falls_next reports_fallen resolves_missing is_destroyed passes moment_test is_readable
both_closed_hold = record {
  readable = readable-to schema both_closed refl;
  prefix = prefix-to schema both_closed refl;
  living = living-to schema both_closed refl;
  waits = waits-to schema both_closed refl refl;
  settled = settled-to schema both_closed refl;
  fallen = fallen-to schema both_closed refl refl;
}

-- the calls that wait, the older first, whichever end calls
both_wait : map (λ (h : UnansweredCall). h.head.seq) (waiting_calls schema (parent (what.Call (pos 1) (pos 1) top 0 (one (pos 7))) ∷ child (what.Call (negsuc 0) (negsuc 0) top 0 (one (pos 7))) ∷ [])) ≡ pos 1 ∷ negsuc 0 ∷ []
both_wait = refl

none_waits : waiting_calls schema answered ≡ []
none_waits = refl

-- False neighbours, each refused by the clause that it breaks

-- the second packet is delivered first
skipped : Prefix schema (asked ++ child (what.DeliverRequest (pos 2)) ∷ []) → ⊥
skipped p = cc ((p.prefixes side.Child (asked ++ child (what.DeliverRequest (pos 2)) ∷ []) [] refl).1)

-- values are taken that were not sent
other_values : Prefix schema (called ++ child (what.Take (pos 1) top 0 (one (pos 9))) ∷ []) → ⊥
other_values p = by ((p.takes side.Child (pos 1) top 0 (one (pos 9)) called [] refl).1)
  where
    by : (r : Request) × WasSentWith schema (said_by side.Child called) (said_by side.Parent called) (pos 1) top 0 (one (pos 9)) r → ⊥
    by w = false≢true (ap (λ (o : Option Request). option_map_or (λ (r : Request). is_nulled schema (lives (said_by side.Child called)) a_number r.values (one (pos 9))) o false) w.1.sent.is ∙ w.1.nulled)

-- a request is taken twice
taken_twice : Prefix schema (called ++ child (what.Take (pos 1) top 0 (one (pos 7))) ∷ child (what.Drop (pos 1) top 0 top) ∷ []) → ⊥
taken_twice p = false≢true (sym ((p.drops side.Child (pos 1) top 0 top (called ++ child (what.Take (pos 1) top 0 (one (pos 7))) ∷ []) [] refl).0.first))

-- a reply is taken that was not delivered
no_reply : Prefix schema (asked ++ parent (what.TakeReply (pos 2)) ∷ []) → ⊥
no_reply p = false≢true ((p.replies side.Parent (pos 2) asked [] refl).0)

-- a question is sent to an actor that was never built, and an actor is built that no event makes
not_built : Living schema (parent (what.Send (pos 1) (pos 6) 65536 Nothing) ∷ []) → ⊥
not_built l = false≢true (l.sends side.Parent (pos 1) (pos 6) 65536 Nothing [] [] refl)

wrong_id : Living schema (parent (what.Send (pos 1) top 2 Nothing) ∷ parent (what.Built (pos 10) 1) ∷ []) → ⊥
wrong_id l = cc ((l.builds side.Parent (pos 10) 1 (parent (what.Send (pos 1) top 2 Nothing) ∷ []) [] refl).1)

-- a request is dropped for an actor that lives
dropped_alive : Living schema (called ++ child (what.Drop (pos 1) top 0 top) ∷ []) → ⊥
dropped_alive l = false≢true (sym ((l.drops side.Child (pos 1) top 0 top called [] refl).0))

-- the outer wait is answered before the inner one, and a call continues with what was not answered
abbrev called_twice : List Line
called_twice = parent (what.Call (pos 1) (pos 1) top 0 (one (pos 7))) ∷ parent (what.Call (pos 2) (pos 1) top 0 (one (pos 7))) ∷ []

out_of_order : Waits schema (called_twice ++ parent (what.DeliverReply (pos 1)) ∷ []) → ⊥
out_of_order w = cc (w.replies side.Parent (pos 1) called_twice [] refl refl)

-- a call fails while the other end is there, or does not fail when its last packet is delivered
fails_early : Waits schema (called ++ parent (what.Fails (pos 1)) ∷ []) → ⊥
fails_early w = false≢true ((w.fails side.Parent (pos 1) called [] refl).1)

left_waiting : Waits schema (called ++ parent what.DeliverBroken ∷ []) → ⊥
left_waiting w = false≢true (sym (w.ended side.Parent (called ++ parent what.DeliverBroken ∷ []) [] refl refl refl))

-- a call was handled and was not answered: only acts are possible, and its end waits
abbrev unanswered : List Line
unanswered = called ++ child (what.Take (pos 1) top 0 (one (pos 7))) ∷ child (what.Return (pos 1)) ∷ []

stuck : Waits schema unanswered → ⊥
unfolding without_first
stuck w = false≢true (sym (w.still unanswered [] refl refl at side.Parent))
  where
    at : (end : Side) → IsStillAt schema end unanswered
    at side.Parent = record { delivered = λ o. omega arith; waiting = refl; deferred = λ t packet arrived. absurd (false≢true ((there schema side.Parent unanswered packet).1 arrived)) }
    at side.Child = record { delivered = λ o. omega arith; waiting = refl; deferred = λ t packet arrived. absurd (false≢true ((there schema side.Child unanswered packet).1 arrived)) }

-- a promise is settled twice, or not at all
twice : Settled schema (closed_with (settles ∷ settles ∷ [])) → ⊥
twice s = false≢true (sym ((s.rejects side.Parent (pos 2) reason.ChannelClosed (closed_with (settles ∷ [])) [] refl).1.2))

never : Settled schema (closed_with (falls (pos 6) ∷ falls top ∷ [])) → ⊥
never s =
    false≢true (s.closings side.Parent (record { seq = pos 2; transaction = pos 0; sync = false; wants = true; route = pos 6; number = 65536; made = 0; values = Nothing }) (closed_with (falls (pos 6) ∷ falls top ∷ [])) [] refl refl refl (1, omega arith, refl) refl)

-- the manager falls first, and an actor falls without a cause
manager_first : Fallen schema (closed_with (settles ∷ falls top ∷ [])) → ⊥
manager_first f = false≢true ((f.falls side.Parent top destroy.NormalShutdown (closed_with (settles ∷ [])) [] refl).managed (record { id = pos 6; manager = top }) (1, omega arith, refl) refl)

no_cause : Fallen schema (asked ++ parent (falls (pos 6)) ∷ []) → ⊥
unfolding is_readable
no_cause f =
    let cause : _ = (f.falls side.Parent (pos 6) destroy.NormalShutdown asked [] refl).cause in
    false≢true (subst (λ (c : Cause). LetsFall (built (said_by side.Parent asked)) c (pos 6) destroy.NormalShutdown) (sym (cause-read schema asked refl side.Parent asked [] refl cause.0)) cause.1)

-- of two actors that fall in one event the younger falls first
younger_first : Fallen schema (both_closed_with (falls (pos 10) ∷ falls (pos 6) ∷ [])) → ⊥
younger_first f =
    (f.falls side.Parent (pos 6) destroy.NormalShutdown (both_closed_with (falls (pos 10) ∷ [])) [] refl).oldest (pos 10) destroy.NormalShutdown (both_closed_with []) [] refl refl (record {
      earlier = record { id = top; manager = pos 0 } ∷ [];
      older = record { id = pos 6; manager = top };
      between = [];
      younger = record { id = pos 10; manager = top };
      later = [];
      split = refl;
      is_old = refl;
      is_first_old = refl;
      is_young = refl;
      is_first_young = refl;
      one_manager = refl;
    })

-- what was not taken returns, and an effect comes first
not_taken : Readable schema (parent (what.Return (pos 1)) ∷ []) → ⊥
not_taken r = let top_one : _ = r.returns side.Parent (pos 1) [] [] refl in cc (top_one.2)

no_event : Readable schema (parent (what.Built (pos 6) 1) ∷ []) → ⊥
no_event r = by ((r.effects side.Parent (what.Built (pos 6) 1) [] [] refl refl).before) ((r.effects side.Parent (what.Built (pos 6) 1) [] [] refl refl).split)
  where
    by : (before : List Line) → [] ≡ before ++ line_of side.Parent ((r.effects side.Parent (what.Built (pos 6) 1) [] [] refl refl).event) ∷ (r.effects side.Parent (what.Built (pos 6) 1) [] [] refl refl).effects → ⊥
    by [] e = cc
    by (x ∷ xs) e = cc
