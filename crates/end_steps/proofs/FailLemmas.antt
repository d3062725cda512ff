-- A loop that fails the waits of a stack one by one.
use Rattle.std.proofs.Common.{◌≡◌, ℕ, ℤ, suc, ◌+◌, ◌<◌, ◌≤◌, Bool, List, [], ◌∷◌, ◌++◌, map, length, Some, None, refl, ap, sym, ◌∙◌, arith, append_assoc, append-nil}
use Rattle.ipdl_base.specs.declared.kinds.Reason.TheVariants.{ChannelClosed}
use Rattle.ipdl_base.specs.declared.kinds.Side.{Side}
use Rattle.ipdl_base.specs.declared.line.Line.{Line}
use Rattle.ipdl_base.specs.declared.line.What.TheVariants as what
use Rattle.nesting_core.specs.declared.frame.Answer.TheVariants.{Fault}
use Rattle.nesting_core.specs.declared.frame.StackFrame.{StackFrame}
use Rattle.nesting_core.specs.declared.frame.StackFrame.TheVariants.{Dispatch, Wait}
use Rattle.nesting_core.specs.Answers.{awaited, with_answer}
use Rattle.channel_model.specs.Deliveries.{with_failed_wait, with_frames}
use Rattle.channel_model.specs.Ends.{StackEntry}
use Rattle.channel_model.specs.Outputs.{line_at}
use Rattle.end_steps.specs.FailedWaits.{unanswered_in, HasFailed}
use Rattle.end_parts.specs.OutputView.{OutputView, with_line}
use Rattle.end_parts.specs.StackDetails.{frames_in}
use Rattle.end_parts.proofs.WaitLemmas.{with_same_frames}

-- the stack when its innermost wait without an answer, if any, has failed
abbrev pub with_failed : List StackEntry → List StackEntry
with_failed stack = with_frames (with_answer (Fault ChannelClosed) (frames_in stack)) stack

-- What the failure of one wait does.
pub record FailsNext (stack : List StackEntry) (seq : ℤ) : Type 0 where
  pub waits : unanswered_in stack ≡ seq ∷ unanswered_in (with_failed stack)
  pub rest : map with_failed_wait (with_failed stack) ≡ map with_failed_wait stack

-- What stands where no wait is without an answer.
pub record NoneWaits (stack : List StackEntry) : Type 0 where
  pub waits : unanswered_in stack ≡ []
  pub same : with_failed stack ≡ stack
  pub rest : map with_failed_wait stack ≡ stack

fails_at : (frame : StackFrame) (route : ℤ) (number : ℕ) (resolves : Bool) (stack : List StackEntry) (seq : ℤ) → awaited (frame ∷ frames_in stack) ≡ Some seq → (awaited (frames_in stack) ≡ Some seq → FailsNext stack seq)
    → FailsNext (record { frame = frame; route = route; number = number; resolves = resolves } ∷ stack) seq
fails_at (Dispatch head) route number resolves stack seq found following =
    let next = following found in
    record { waits = next.waits; rest = ap (λ (es : List StackEntry). record { frame = Dispatch head; route = route; number = number; resolves = resolves } ∷ es) next.rest }
fails_at (Wait head None) route number resolves stack seq found following =
    let here : head.seq ≡ seq = cc in
    record {
      waits = ap (λ (z : ℤ). z ∷ unanswered_in stack) here ∙ ap (λ (es : List StackEntry). seq ∷ unanswered_in es) (sym (with_same_frames stack));
      rest = ap (λ (es : List StackEntry). record { frame = Wait head (Some (Fault ChannelClosed)); route = route; number = number; resolves = resolves } ∷ map with_failed_wait es) (with_same_frames stack);
    }
fails_at (Wait head (Some a)) route number resolves stack seq found following =
    let next = following found in
    record { waits = next.waits; rest = ap (λ (es : List StackEntry). record { frame = Wait head (Some a); route = route; number = number; resolves = resolves } ∷ es) next.rest }

-- the innermost wait without an answer fails
fails_next : (stack : List StackEntry) (seq : ℤ) → awaited (frames_in stack) ≡ Some seq → FailsNext stack seq
fails_next [] seq found = cc
fails_next (entry ∷ stack) seq found = fails_at entry.frame entry.route entry.number entry.resolves stack seq found (fails_next stack seq)

none_at : (frame : StackFrame) (route : ℤ) (number : ℕ) (resolves : Bool) (stack : List StackEntry) → awaited (frame ∷ frames_in stack) ≡ None → (awaited (frames_in stack) ≡ None → NoneWaits stack)
    → NoneWaits (record { frame = frame; route = route; number = number; resolves = resolves } ∷ stack)
none_at (Dispatch head) route number resolves stack found following =
    let next = following found in
    record {
      waits = next.waits;
      same = ap (λ (es : List StackEntry). record { frame = Dispatch head; route = route; number = number; resolves = resolves } ∷ es) next.same;
      rest = ap (λ (es : List StackEntry). record { frame = Dispatch head; route = route; number = number; resolves = resolves } ∷ es) next.rest;
    }
none_at (Wait head None) route number resolves stack found following = cc
none_at (Wait head (Some a)) route number resolves stack found following =
    let next = following found in
    record {
      waits = next.waits;
      same = ap (λ (es : List StackEntry). record { frame = Wait head (Some a); route = route; number = number; resolves = resolves } ∷ es) next.same;
      rest = ap (λ (es : List StackEntry). record { frame = Wait head (Some a); route = route; number = number; resolves = resolves } ∷ es) next.rest;
    }

none_waits : (stack : List StackEntry) → awaited (frames_in stack) ≡ None → NoneWaits stack
none_waits [] found = record { waits = refl; same = refl; rest = refl }
none_waits (entry ∷ stack) found = none_at entry.frame entry.route entry.number entry.resolves stack found (none_waits stack)

-- What holds while waits fail.
pub record IsFailing (side : Side) (stack : List StackEntry) (out : OutputView) (stack' : List StackEntry) (out' : OutputView) : Type 0 where
  pub same : out' ≡ record out { lines = out'.lines; line_spare = out'.line_spare }
  pub said : out'.lines ++ map (line_at side) (map what.Fails (unanswered_in stack')) ≡ out.lines ++ map (line_at side) (map what.Fails (unanswered_in stack))
  pub failed : map with_failed_wait stack' ≡ map with_failed_wait stack
  pub room : out'.line_spare + length (unanswered_in stack) ≡ out.line_spare + length (unanswered_in stack')

pub failing_begins : (side : Side) (stack : List StackEntry) (out : OutputView) → IsFailing side stack out stack out
failing_begins side stack out = record { same = refl; said = refl; failed = refl; room = refl }

-- a wait that fails is one less
pub is_fewer : (stack' next : List StackEntry) (seq : ℤ) → awaited (frames_in stack') ≡ Some seq → next ≡ with_failed stack' → length (unanswered_in next) < length (unanswered_in stack')
is_fewer stack' next seq found now =
    let count : length (unanswered_in stack') ≡ suc (length (unanswered_in (with_failed stack'))) = ap length (fails_next stack' seq found).waits in
    rw now (omega (arith, count))

pub has_room : (side : Side) (stack stack' : List StackEntry) (out out' : OutputView) (seq : ℤ) → length (unanswered_in stack) ≤ out.line_spare → IsFailing side stack out stack' out' → awaited (frames_in stack') ≡ Some seq → 0 < out'.line_spare
has_room side stack stack' out out' seq enough so_far found =
    let count : length (unanswered_in stack') ≡ suc (length (unanswered_in (with_failed stack'))) = ap length (fails_next stack' seq found).waits in
    omega (arith, count, so_far.room, enough)

pub failing_goes_on : (side : Side) (stack stack' next : List StackEntry) (out out' out'' : OutputView) (seq : ℤ) → length (unanswered_in stack) ≤ out.line_spare → IsFailing side stack out stack' out' → awaited (frames_in stack') ≡ Some seq → next ≡ with_failed stack'
    → out'' ≡ with_line out' (line_at side (what.Fails seq)) → IsFailing side stack out next out''
failing_goes_on side stack stack' next out out' out'' seq enough so_far found now says =
    let step : FailsNext stack' seq = fails_next stack' seq found in
    let count : length (unanswered_in stack') ≡ suc (length (unanswered_in (with_failed stack'))) = ap length step.waits in
    let room : 0 < out'.line_spare = has_room side stack stack' out out' seq enough so_far found in
    rw (says, now) (record {
      same = ap (λ (o : OutputView). with_line o (line_at side (what.Fails seq))) so_far.same;
      said = rw append_assoc (ap (λ (zs : List ℤ). out'.lines ++ map (line_at side) (map what.Fails zs)) (sym step.waits) ∙ so_far.said);
      failed = step.rest ∙ so_far.failed;
      room = omega (arith, count, so_far.room, room);
    })

pub failing_ends : (side : Side) (stack stack' next : List StackEntry) (out out' : OutputView) → IsFailing side stack out stack' out' → awaited (frames_in stack') ≡ None → next ≡ with_failed stack' → HasFailed side stack out next out'
failing_ends side stack stack' next out out' so_far found now =
    let none : NoneWaits stack' = none_waits stack' found in
    let count : length (unanswered_in stack') ≡ 0 = ap length none.waits in
    record {
      failed = now ∙ none.same ∙ sym none.rest ∙ so_far.failed;
      said = so_far.same ∙ ap (λ (ls : List Line). record out { lines = ls; line_spare = out'.line_spare }) (sym (append-nil out'.lines) ∙ ap (λ (zs : List ℤ). out'.lines ++ map (line_at side) (map what.Fails zs)) (sym none.waits) ∙ so_far.said);
      spare = omega (arith, so_far.room, count);
    }
