-- The sync requests of a stack that wait or are handled.
use Rattle.std.specs.Prelude.{◌≡◌, ℕ, ℤ, Bool, true, false, List, [], ◌∷◌, Some, None}
use Rattle.ipdl_base.specs.declared.kinds.Level.TheVariants.{InsideCpow}
use Rattle.ipdl_base.specs.declared.kinds.Side.{Side}
use Rattle.nesting_core.specs.declared.frame.Answer.{Answer}
use Rattle.nesting_core.specs.declared.frame.Head.{Head}
use Rattle.nesting_core.specs.declared.frame.StackFrame.{StackFrame}
use Rattle.nesting_core.specs.declared.frame.StackFrame.TheVariants.{Dispatch, Wait}
use Rattle.nesting_laws.specs.Calls.{SyncFrame, wait, dispatch}
use Rattle.nesting_laws.specs.Steps.{HasLevelOf, IsBelowCpow}
use Rattle.channel_model.specs.Ends.{StackEntry}
use Rattle.channel_laws.specs.SyncCalls.{call_of_head}

-- an entry by its parts
abbrev pub entry_of : StackFrame → ℤ → ℕ → Bool → StackEntry
entry_of frame route number resolves = record { frame = frame; route = route; number = number; resolves = resolves }

-- no wait is on top
abbrev pub HasNoWaitOnTop : List SyncFrame → Type 0
HasNoWaitOnTop [] = Unit {0}
HasNoWaitOnTop (wait q ∷ below) = ⊥
HasNoWaitOnTop (dispatch q ∷ below) = Unit {0}

-- The entries are unanswered waits and dispatches of sync requests, no wait directly above another. Below all of them
-- there may be the dispatch of one async request, of a level below inside_cpow.
pub data ShowsFrames (side : Side) : List StackEntry → List SyncFrame → Type 0 where
  empty : ShowsFrames side [] []
  async_base : {head : Head} {route : ℤ} {number : ℕ} {resolves : Bool} → head.sync ≡ false → IsBelowCpow head.level → ShowsFrames side (entry_of (Dispatch head) route number resolves ∷ []) []
  waits : {head : Head} {route : ℤ} {number : ℕ} {resolves : Bool} {entries : List StackEntry} {stack : List SyncFrame} → head.sync ≡ true → HasLevelOf side (call_of_head route number head) → HasNoWaitOnTop stack → ShowsFrames side entries stack → ShowsFrames side (entry_of (Wait head None) route number resolves ∷ entries) (wait (call_of_head route number head) ∷ stack)
  handles : {head : Head} {route : ℤ} {number : ℕ} {resolves : Bool} {entries : List StackEntry} {stack : List SyncFrame} → head.sync ≡ true → ShowsFrames side entries stack → ShowsFrames side (entry_of (Dispatch head) route number resolves ∷ entries) (dispatch (call_of_head route number head) ∷ stack)

-- On top of these there may be one answered wait, not directly above another wait.
pub data ShowsUnderAnswer (side : Side) : List StackEntry → List SyncFrame → Type 0 where
  no_answer : {entries : List StackEntry} {stack : List SyncFrame} → ShowsFrames side entries stack → ShowsUnderAnswer side entries stack
  has_answer : {head : Head} {a : Answer} {route : ℤ} {number : ℕ} {resolves : Bool} {entries : List StackEntry} {stack : List SyncFrame} → HasNoWaitOnTop stack → ShowsFrames side entries stack → ShowsUnderAnswer side (entry_of (Wait head (Some a)) route number resolves ∷ entries) stack

-- On top of all there may be one dispatch of an async request of level inside_cpow. This is what the stack of an open
-- end shows of sync requests.
pub data Shows (side : Side) : List StackEntry → List SyncFrame → Type 0 where
  no_cpow : {entries : List StackEntry} {stack : List SyncFrame} → ShowsUnderAnswer side entries stack → Shows side entries stack
  cpow_on_top : {head : Head} {route : ℤ} {number : ℕ} {resolves : Bool} {entries : List StackEntry} {stack : List SyncFrame} → head.sync ≡ false → head.level ≡ InsideCpow → ShowsUnderAnswer side entries stack → Shows side (entry_of (Dispatch head) route number resolves ∷ entries) stack
