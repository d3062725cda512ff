-- A half meets a link that continues after what its side has seen.
use Rattle.std.proofs.Common.{◌≡◌, ◌∙◌, ◌*◌, ◌<◌, ◌^◌, List, ◌++◌, sym, ap, subst, arith, length, append_assoc}
use Rattle.ipdl_base.specs.Sides.{other}
use Rattle.ipdl_base.specs.declared.kinds.Side.{Side}
use Rattle.ipdl_base.specs.declared.kinds.Side.TheVariants as sides
use Rattle.ipdl_base.specs.declared.line.Line.{Line}
use Rattle.ipdl_base.specs.declared.line.What.{What}
use Rattle.script_runs.proofs.Room.{cases_have_room}
use Rattle.script_steps.proofs.Counting.{lines_of-append}
use Rattle.script_steps.specs.Choices.{IsCaseHistory, Setting}
use Rattle.script_steps.specs.Progress.{lines_of}
use Rattle.thread_link.specs.Fronts.{HasSeen}
use Rattle.thread_link.specs.Seats.{Adds}
use Rattle.world_core.proofs.Played.{both-sides}
use Rattle.world_core.specs.HalfView.{HalfView}
use Rattle.world_core.specs.Halves.{FitsAfter, HalvesFitAfterMore, HasMet, IsHome}
use Rattle.world_core.specs.LinkView.{LinkView}
use Rattle.world_core.specs.Turns.{GrowsTo}
use Rattle.world_core.specs.WorldView.{state_of}

-- the lines of a link that is at home in the run are a history of the script
home-history : (setting : Setting) (link : LinkView) → IsHome setting link → IsCaseHistory setting link.lines
home-history setting link home = record { choices = home.choices; state = state_of setting link.lines; plays = home.plays; made = sym home.lines }

-- the other side's lines that were not seen do not change a half
pub fits-on : HalvesFitAfterMore → (setting : Setting) (side : Side) (seen : List Line) (link : LinkView) (half : HalfView) → FitsAfter setting side seen half → HasSeen side seen link.lines → IsHome setting link → FitsAfter setting side link.lines half
fits-on law setting side seen link half fits front home =
    subst (λ (ls : List Line). FitsAfter setting side ls half) front.front
    (law setting side seen front.rest half fits front.others (subst (IsCaseHistory setting) (sym front.front) (home-history setting link home)))

-- what a meeting adds to a link belongs to the side
pub met-adds : (setting : Setting) (side : Side) (half after : HalfView) (found left : LinkView) → HasMet setting side half found after left → Adds side found.lines left.lines
met-adds setting side half after found left met = record {
  more = half.end.lines ++ met.delivers.lines;
  following = met.lines ∙ append_assoc found.lines half.end.lines met.delivers.lines;
  own = lines_of-append (other side) half.end.lines met.delivers.lines ∙ (ap (λ (ws : List What). ws ++ lines_of (other side) met.delivers.lines) met.own ∙ met.delivers.own);
}

pub grows-on : (xs ys zs : List Line) → GrowsTo xs ys → GrowsTo ys zs → GrowsTo xs zs
grows-on xs ys zs a b = (a.0 ++ b.0, b.1 ∙ (ap (λ (ls : List Line). ls ++ b.0) a.1 ∙ append_assoc xs a.0 b.0))

seen-grows : (side : Side) (seen all : List Line) → HasSeen side seen all → GrowsTo seen all
seen-grows side seen all h = (h.rest, sym h.front)

-- a side that has met a link has seen more than before
pub met-grows : (side : Side) (seen found left now_seen : List Line) → HasSeen side seen found → Adds side found left → now_seen ≡ left → GrowsTo seen now_seen
met-grows side seen found left now_seen front adds told = grows-on seen found now_seen (seen-grows side seen found front) (adds.more, told ∙ adds.following)

-- Few lines

-- four times the number of lines of a link that is at home in the run fits a word
pub few : (setting : Setting) (link : LinkView) → IsHome setting link → 4 * length link.lines < 2 ^ 64
few setting link home =
    let p = cases_have_room setting home.choices (state_of setting link.lines) home.sound home.plays sides.Parent in
    let c = cases_have_room setting home.choices (state_of setting link.lines) home.sound home.plays sides.Child in
    let pe = p.events in let pl = p.lines in let ce = c.events in let cl = c.lines in
    let all = both-sides (state_of setting link.lines).lines in
    let same = ap (λ (ls : List Line). length ls) home.lines in
    let small = home.small in
    omega (arith, pe, pl, ce, cl, all, same, small)
