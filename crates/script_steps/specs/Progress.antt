-- How far a side has come in its script, as its lines show: which handlers run, which block serves each, and how many acts
-- each has done.
use Rattle.std.specs.Prelude.{ℕ, ◌+◌, ◌==◌, ℤ, pos, Bool, true, false, if◌then◌else◌, List, [], ◌∷◌, drop, map, filter, fold, count_by}
use Rattle.ipdl_base.specs.declared.kinds.Side.{Side}
use Rattle.ipdl_base.specs.declared.line.Line.{Line}
use Rattle.ipdl_base.specs.declared.line.What.{What}
use Rattle.ipdl_base.specs.declared.line.What.TheVariants as what
use Rattle.ipdl_base.specs.declared.value.Values.{Values}
use Rattle.ipdl_base.specs.Lines.{same_side, is_effect}

-- A request whose handler runs: its number and message, how many requests of that message the side had taken before, how
-- many acts its handler has done, its values as they were taken, and the id of the actor that it built, or 0.
pub record HandledRequest : Type 0 where
  pub seq : ℤ
  pub number : ℕ
  pub block : ℕ
  pub acts : ℕ
  pub given : Values
  pub made : ℤ

-- How many events the side has, how many acts it did while no handler ran, the messages of the requests that it took, the
-- requests whose handlers run (the innermost first), and whether its last event is a take.
pub record Progress : Type 0 where
  pub events : ℕ
  pub main : ℕ
  pub taken : List ℕ
  pub handled : List HandledRequest
  pub takes : Bool

-- before any line
abbrev pub no_progress : Progress
no_progress = record { events = 0; main = 0; taken = []; handled = []; takes = false }

-- whether a line is that of an act, refused or not
abbrev pub is_act : What → Bool
is_act (what.Send seq route number vs) = true
is_act (what.Call seq transaction route number vs) = true
is_act (what.RefusedSend cause number) = true
is_act (what.RefusedClose cause) = true
is_act (what.RefusedResolve cause) = true
is_act (what.RefusedReject cause) = true
is_act (what.Resolve seq vs) = true
is_act (what.Reject seq) = true
is_act (what.Keep seq name) = true
is_act (what.Let name id) = true
is_act what.Close = true
is_act _ = false

-- one more event
abbrev pub one_event : Progress → Progress
one_event before = record before { events = before.events + 1; takes = false }

-- one more act of the innermost handler, or of main if no handler runs
abbrev pub one_act : List HandledRequest → Progress → Progress
one_act [] before = record before { main = before.main + 1 }
one_act (top ∷ below) before = record before { handled = record top { acts = top.acts + 1 } ∷ below }

-- a request is taken, and its handler begins
abbrev pub one_take : ℤ → ℕ → Values → Progress → Progress
one_take seq number vs before = record before {
  taken = number ∷ before.taken;
  handled = record { seq = seq; number = number; block = count_by (λ n. n == number) before.taken; acts = 0; given = vs; made = pos 0 } ∷ before.handled;
  takes = true;
}

-- the innermost request has built this actor
abbrev pub with_built : ℤ → List HandledRequest → List HandledRequest
with_built id [] = []
with_built id (top ∷ below) = record top { made = id } ∷ below

-- the innermost handler has returned, or a death has ended all of them
abbrev pub with_handled : List HandledRequest → Progress → Progress
with_handled handled before = record before { handled = handled }

-- the progress after one more line
abbrev pub after_line : Progress → What → Progress
after_line before (what.Take seq route number vs) = one_take seq number vs (one_event before)
after_line before (what.Built id protocol) = if before.takes then with_handled (with_built id before.handled) before else before
after_line before what.Die = with_handled [] (one_event before)
after_line before (what.Return seq) = with_handled (drop 1 before.handled) (one_event before)
after_line before w = if is_act w then one_act before.handled (one_event before) else (if is_effect w then before else one_event before)

-- the progress after lines of a side, one after another
abbrev pub after_lines : Progress → List What → Progress
after_lines before whats = fold after_line before whats

-- the lines of a side
abbrev pub lines_of : Side → List Line → List What
lines_of side lines = map (λ line. line.what) (filter (λ line. same_side line.side side) lines)

-- the progress of a side after the lines of a history
abbrev pub progress_of : Side → List Line → Progress
progress_of side lines = after_lines no_progress (lines_of side lines)
