-- Halves that run separately, hand in and meet the link.
use Rattle.std.proofs.Common.{◌≡◌, List, [], ◌++◌, ap, subst, sym, ◌∙◌, append_assoc}
use Rattle.ipdl_base.specs.Sides.{other}
use Rattle.ipdl_base.specs.declared.kinds.Side.{Side}
use Rattle.ipdl_base.specs.declared.line.Line.{Line}
use Rattle.ipdl_base.specs.declared.line.What.{What}
use Rattle.script_steps.proofs.Counting.{lines_of-append}
use Rattle.script_steps.specs.Choices.{IsCaseHistory, Setting}
use Rattle.script_steps.specs.Progress.{lines_of}
use Rattle.world_core.proofs.SplitHalves.{stored-own}
use Rattle.world_core.specs.HalfView.{HalfView, setting_of}
use Rattle.world_core.specs.Halves.{FitsAfter, HalvesFitAfterMore, HasMet, IsHome, IsSplit}
use Rattle.world_core.specs.LinkView.{LinkView}

-- a half also fits after lines of the other side, if the link that has them is at home in the run
other-fits : HalvesFitAfterMore → (setting : Setting) (side : Side) (seen others : List Line) (link : LinkView) (rest : HalfView) → FitsAfter setting (other side) seen rest → lines_of (other side) others ≡ [] → link.lines ≡ seen ++ others
    → IsHome setting link → FitsAfter setting (other side) link.lines rest
other-fits law setting side seen others link rest fits none lines home =
    let history : IsCaseHistory setting (seen ++ others) = record { choices = home.choices; state = _; plays = home.plays; made = sym home.lines ∙ lines } in
    subst (λ (ls : List Line). FitsAfter setting (other side) ls rest) (sym lines) (law setting (other side) seen others rest fits none history)

-- if a half has handed in, the other one also fits after the link
pub fits-following-handed : HalvesFitAfterMore → (setting : Setting) (side : Side) (half : HalfView) (link link' : LinkView) → FitsAfter setting side link.lines half → link'.lines ≡ link.lines ++ half.end.lines
    → IsHome setting link' → (rest : HalfView) → FitsAfter setting (other side) link.lines rest → FitsAfter setting (other side) link'.lines rest
fits-following-handed law setting side half link link' own lines home rest fits = other-fits law setting side link.lines half.end.lines link' rest fits (stored-own setting side link.lines half own) lines home

-- and if it has met the link
pub fits-following-met : HalvesFitAfterMore → (setting : Setting) (side : Side) (half half' : HalfView) (link link' : LinkView) → HasMet setting side half link half' link' → (rest : HalfView) → FitsAfter setting (other side) link.lines rest
    → FitsAfter setting (other side) link'.lines rest
fits-following-met law setting side half half' link link' met rest fits =
    let others : List Line = half.end.lines ++ met.delivers.lines in
    let none : lines_of (other side) others ≡ [] =
    lines_of-append (other side) half.end.lines met.delivers.lines ∙ ap (λ (ws : List What). ws ++ lines_of (other side) met.delivers.lines) met.own ∙ met.delivers.own in
    other-fits law setting side link.lines others link' rest fits none (met.lines ∙ append_assoc link.lines half.end.lines met.delivers.lines) met.home
