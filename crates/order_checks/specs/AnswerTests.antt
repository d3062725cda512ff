-- Tests of the answers that an end owes to the requests of the other, by what is read of both before a line.
use Rattle.std.specs.Prelude.{ℤ, Bool, true, false, not, ◌&&◌, if◌then◌else◌, List, reverse, find}
use Rattle.std.specs.List.{list_any}
use Rattle.std.specs.Option.{option_map_or}
use Rattle.std.specs.Ordering.{int_eq}
use Rattle.ipdl_base.specs.declared.kinds.Reason.TheVariants as reason
use Rattle.ipdl_base.specs.declared.kinds.Side.{Side}
use Rattle.ipdl_base.specs.declared.line.Line.{Line}
use Rattle.ipdl_base.specs.declared.line.What.{What}
use Rattle.ipdl_base.specs.declared.line.What.TheVariants as what
use Rattle.ipdl_base.specs.declared.schema.Schema.{Schema}
use Rattle.ipdl_base.specs.Lines.{is_effect, same_side}
use Rattle.history_reading.specs.declared.parts.PacketKind.TheVariants as seen
use Rattle.history_reading.specs.EndReading.{EndReading, own_request}
use Rattle.history_reading.specs.Numbers.{has, has_packet}
use Rattle.history_reading.specs.Waits.{same_reason}
use Rattle.order_statements.specs.Shape.{is_open, number_answered, owes_reply}
use Rattle.order_checks.specs.EffectTests.{effects_next, is_fault_due}

-- the last event of an end is the delivery of the request of a number
abbrev pub is_delivery_of : ℤ → What → Bool
is_delivery_of n (what.DeliverRequest m) = int_eq m n
is_delivery_of n _ = false

abbrev pub is_event_at : Side → Line → Bool
is_event_at end line = same_side line.side end && not (is_effect line.what)

abbrev pub is_delivery_line : ℤ → Line → Bool
is_delivery_line n line = is_delivery_of n line.what

abbrev pub has_just_come : Side → ℤ → List Line → Bool
has_just_come end n before = option_map_or (is_delivery_line n) (find (is_event_at end) (reverse before)) false

-- the other end's request of a number owes a reply
abbrev pub is_owed : Schema → EndReading → ℤ → Bool
is_owed schema other n = option_map_or (λ r. owes_reply schema r.number) (own_request other n) false

-- it was delivered in an earlier event, and was not answered before
abbrev pub is_unanswered_request : Side → EndReading → List ℤ → List Line → ℤ → Bool
is_unanswered_request end own answered before n = has_packet own.delivered (seen.Request n) && (not (has_just_come end n before) && not (has answered n))

-- it may be answered
abbrev pub may_answer : Schema → Side → EndReading → EndReading → List ℤ → List Line → ℤ → Bool
may_answer schema end own other answered before n = is_open own.state && (is_owed schema other n && is_unanswered_request end own answered before n)

abbrev pub is_answered_right : Schema → Side → EndReading → EndReading → List ℤ → List Line → What → Bool
is_answered_right schema end own other answered before w = option_map_or (may_answer schema end own other answered before) (number_answered w) true

-- a request that is replaced is answered where it makes a promise
abbrev pub is_replaced_right : EndReading → ℤ → List What → Bool
is_replaced_right other n effects = option_map_or (λ r. is_fault_due r.wants n reason.ResolverDestroyed effects) (own_request other n) false

-- the lines of an end reject the promise of a number since an actor fell
abbrev pub is_rejection_of : ℤ → What → Bool
is_rejection_of n (what.Rejected m why) = int_eq m n && same_reason why reason.ActorDestroyed
is_rejection_of n _ = false

abbrev pub is_rejection_at : Side → ℤ → Line → Bool
is_rejection_at end n line = same_side line.side end && is_rejection_of n line.what

abbrev pub is_late_right : Side → EndReading → List Line → ℤ → Bool
is_late_right end own before n = if has own.settled n then list_any (is_rejection_at end n) before else true

-- A line of an end answers as is owed: by what is read of the end and of the other before it, the requests that the end has
-- answered, and the lines before it and after it.
abbrev pub answers_line : Schema → Side → EndReading → EndReading → List ℤ → List Line → What → List Line → Bool
answers_line schema end own other answered before (what.Replaced n) following = is_replaced_right other n (effects_next following)
answers_line schema end own other answered before (what.TakeReply n) following = is_late_right end own before n
answers_line schema end own other answered before w following = is_answered_right schema end own other answered before w
