-- Tests of the effects that an event owes, by what is read of its end before it.
use Rattle.std.specs.Prelude.{ℕ, ℤ, Bool, true, false, not, ◌&&◌, ◌==◌, nat_eq, if◌then◌else◌, List, [], ◌∷◌, map}
use Rattle.std.specs.List.{list_all, list_any, take_while}
use Rattle.std.specs.Option.{option_map_or}
use Rattle.std.specs.Ordering.{int_eq}
use Rattle.std.specs.Cmp.Lexicographic.{pointwise}
use Rattle.ipdl_base.specs.declared.kinds.Reason.{Reason}
use Rattle.ipdl_base.specs.declared.kinds.Reason.TheVariants as reason
use Rattle.ipdl_base.specs.declared.kinds.Side.{Side}
use Rattle.ipdl_base.specs.declared.line.Line.{Line}
use Rattle.ipdl_base.specs.declared.line.What.{What}
use Rattle.ipdl_base.specs.declared.line.What.TheVariants as what
use Rattle.ipdl_base.specs.declared.schema.Schema.{Schema}
use Rattle.ipdl_base.specs.Lines.{is_effect, same_side}
use Rattle.history_reading.specs.declared.parts.CallFrame.{CallFrame}
use Rattle.history_reading.specs.declared.parts.CallFrame.TheVariants as frame
use Rattle.history_reading.specs.declared.parts.HandledRequest.{HandledRequest}
use Rattle.history_reading.specs.EndReading.{EndReading}
use Rattle.history_reading.specs.Numbers.{has}
use Rattle.history_reading.specs.Rows.{is_sync_number, wants_number}
use Rattle.history_reading.specs.Settled.{is_fall_of}
use Rattle.history_reading.specs.Waits.{same_reason}
use Rattle.law_statements.specs.Packets.{number_settled}
use Rattle.order_statements.specs.Effects.{lets_go}
use Rattle.order_statements.specs.Shape.{constructor_of, is_destructor, is_open, number_kept, owes_reply}

-- the contents of lines
abbrev pub whats : List Line → List What
whats lines = map (λ line. line.what) lines

-- the effects that come before the next event
unfoldable pub is_effect_line : Line → Bool
is_effect_line line = is_effect line.what

abbrev pub effects_next : List Line → List What
effects_next following = whats (take_while is_effect_line following)

-- there is no effect
abbrev pub is_none : List What → Bool
is_none [] = true
is_none (w ∷ more) = false

-- one is the answer with a fault to the request of a number
abbrev pub is_fault_to : ℤ → Reason → What → Bool
is_fault_to n why (what.AnswerFault m given) = int_eq m n && same_reason given why
is_fault_to n why _ = false

-- that is the only one, or the first
abbrev pub is_fault_alone : ℤ → Reason → List What → Bool
is_fault_alone n why (w ∷ []) = is_fault_to n why w
is_fault_alone n why _ = false

abbrev pub is_fault_first : ℤ → Reason → List What → Bool
is_fault_first n why [] = false
is_fault_first n why (w ∷ more) = is_fault_to n why w

-- it is the only one if it is due, and there is no effect otherwise
abbrev pub is_fault_due : Bool → ℤ → Reason → List What → Bool
is_fault_due due n why effects = if due then is_fault_alone n why effects else is_none effects

-- the first is what the return of a handler answers to the sync request of a number
abbrev pub is_handler_fault : Reason → Bool
is_handler_fault why = same_reason why reason.HandlerRejected

abbrev pub is_returned : ℤ → What → Bool
is_returned n (what.AnswerOk m values) = int_eq m n
is_returned n (what.AnswerFault m why) = int_eq m n && is_handler_fault why
is_returned n _ = false

abbrev pub is_return_first : ℤ → List What → Bool
is_return_first n [] = false
is_return_first n (w ∷ more) = is_returned n w

-- the only one settles the promise of a number
abbrev pub is_settling_of : ℤ → What → Bool
is_settling_of n w = option_map_or (λ m. int_eq m n) (number_settled w) false

abbrev pub is_settling_alone : ℤ → List What → Bool
is_settling_alone n (w ∷ []) = is_settling_of n w
is_settling_alone n _ = false

-- one builds an actor of a protocol that has not fallen
abbrev pub is_birth : List ℤ → ℕ → What → Bool
is_birth fallen protocol (what.Built id p) = (p == protocol) && not (has fallen id)
is_birth fallen protocol _ = false

-- it is the only one, or the only one after an answer for a destroyed resolver
abbrev pub is_birth_alone : List ℤ → ℕ → List What → Bool
is_birth_alone fallen protocol (w ∷ []) = is_birth fallen protocol w
is_birth_alone fallen protocol _ = false

abbrev pub is_birth_last : List ℤ → ℕ → List What → Bool
is_birth_last fallen protocol (w ∷ []) = is_birth fallen protocol w
is_birth_last fallen protocol (lost ∷ w ∷ []) = lets_go lost && is_birth fallen protocol w
is_birth_last fallen protocol _ = false

-- an actor has fallen, at the latest in the event
abbrev pub has_fallen : List ℤ → ℤ → List What → Bool
has_fallen fallen id effects = if has fallen id then true else list_any (is_fall_of id) effects

-- what is due after a send or call of a message to an actor, and after a take
unfoldable pub is_deletion_given : Schema → List ℤ → ℤ → ℕ → List What → Bool
is_deletion_given schema fallen route number effects = if is_destructor schema number then has_fallen fallen route effects else true

abbrev pub is_birth_given : Schema → List ℤ → ℕ → List What → Bool
is_birth_given schema fallen number effects = option_map_or (λ protocol. is_birth_last fallen protocol effects) (constructor_of schema number) true

abbrev pub is_sent_right : Schema → EndReading → ℤ → ℕ → List What → Bool
is_sent_right schema own route number effects = is_deletion_given schema own.fallen route number effects && is_birth_given schema own.fallen number effects

abbrev pub is_taken_right : Schema → EndReading → ℕ → List What → Bool
is_taken_right schema own number effects = option_map_or (λ protocol. is_birth_alone own.fallen protocol effects) (constructor_of schema number) true

-- after a drop
abbrev pub is_dropped_right : Schema → EndReading → ℤ → ℕ → List What → Bool
is_dropped_right schema own n number effects = is_fault_due (is_open own.state && owes_reply schema number) n reason.ActorDestroyed effects

-- the lines of an end keep the resolver of a number
abbrev pub is_keep_of : ℤ → What → Bool
is_keep_of n w = option_map_or (λ m. int_eq m n) (number_kept w) false

abbrev pub is_keep_at : Side → ℤ → Line → Bool
is_keep_at end n line = same_side line.side end && is_keep_of n line.what

abbrev pub was_kept : Side → ℤ → List Line → Bool
was_kept end n before = list_any (is_keep_at end n) before

-- a request is handled whose resolver is still there
abbrev pub is_held : Schema → Side → List ℤ → List Line → HandledRequest → Bool
is_held schema end answered before d = wants_number schema d.number && (if has answered d.seq then false else not (was_kept end d.seq before))

-- after the return of a handler
abbrev pub is_sync_answered : Schema → EndReading → HandledRequest → List What → Bool
is_sync_answered schema own d effects = if is_open own.state && is_sync_number schema d.number then is_return_first d.seq effects else true

abbrev pub is_resolver_answered : Schema → Side → EndReading → List ℤ → List Line → HandledRequest → List What → Bool
is_resolver_answered schema end own answered before d effects =
    if is_open own.state && is_held schema end answered before d then is_fault_first d.seq reason.ResolverDestroyed effects else true

unfoldable pub is_return_answered : Schema → Side → EndReading → List ℤ → List Line → HandledRequest → List What → Bool
is_return_answered schema end own answered before d effects = is_sync_answered schema own d effects && is_resolver_answered schema end own answered before d effects

abbrev pub is_returned_right : Schema → Side → EndReading → List ℤ → List Line → HandledRequest → List What → Bool
is_returned_right schema end own answered before d effects = is_return_answered schema end own answered before d effects && is_deletion_given schema own.fallen d.route d.number effects

abbrev pub is_top_returned : Schema → Side → EndReading → List ℤ → List Line → List CallFrame → List What → Bool
is_top_returned schema end own answered before (frame.Dispatch d ∷ below) effects = is_returned_right schema end own answered before d effects
is_top_returned schema end own answered before _ effects = true

-- the resolver of a name is destroyed, if it has not answered and the name is bound anew
abbrev pub is_let_go : List ℤ → List ℕ → List What → What → Bool
is_let_go answered name effects (what.Keep n held) = if pointwise nat_eq held name && not (has answered n) then is_fault_alone n reason.ResolverDestroyed effects else true
is_let_go answered name effects _ = true

abbrev pub is_let_go_at : Side → List ℤ → List ℕ → List What → Line → Bool
is_let_go_at end answered name effects line = if same_side line.side end then is_let_go answered name effects line.what else true

abbrev pub is_renamed_right : Side → EndReading → List ℤ → List Line → List ℕ → List What → Bool
is_renamed_right end own answered before name effects = if is_open own.state then list_all (is_let_go_at end answered name effects) before else true

-- after a reply is taken
abbrev pub is_reply_right : EndReading → ℤ → List What → Bool
is_reply_right own n effects = if has own.settled n then is_none effects else is_settling_alone n effects

-- A line of an end gives its effects: by what is read of the end before it, the requests that the end has answered, and the
-- lines before it and after it.
abbrev pub effects_line : Schema → Side → EndReading → List ℤ → List Line → What → List Line → Bool
effects_line schema end own answered before (what.Send n route number values) following = is_sent_right schema own route number (effects_next following)
effects_line schema end own answered before (what.Call n transaction route number values) following = is_sent_right schema own route number (effects_next following)
effects_line schema end own answered before (what.Take n route number values) following = is_taken_right schema own number (effects_next following)
effects_line schema end own answered before (what.Drop n route number id) following = is_dropped_right schema own n number (effects_next following)
effects_line schema end own answered before (what.Return n) following = is_top_returned schema end own answered before own.stack (effects_next following)
effects_line schema end own answered before (what.Keep n name) following = is_renamed_right end own answered before name (effects_next following)
effects_line schema end own answered before (what.Let name id) following = is_renamed_right end own answered before name (effects_next following)
effects_line schema end own answered before (what.TakeReply n) following = is_reply_right own n (effects_next following)
effects_line schema end own answered before (what.RefusedSend refusal number) following = is_none (effects_next following)
effects_line schema end own answered before (what.RefusedClose refusal) following = is_none (effects_next following)
effects_line schema end own answered before (what.RefusedResolve refusal) following = is_none (effects_next following)
effects_line schema end own answered before (what.RefusedReject refusal) following = is_none (effects_next following)
effects_line schema end own answered before _ following = true
