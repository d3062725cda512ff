-- What choices of one side do to a run: they add lines of that side, and leave the other end as it was.
use Rattle.std.proofs.Common.{◌≡◌, ℕ, zero, suc, Bool, true, false, cond, if◌then◌else◌, List, [], ◌∷◌, ◌++◌, filter, map, replicate, Some, None, refl, sym, ap, subst, ◌∙◌, append_assoc}
use Rattle.std.specs.List.{AllByRecursion, cons_option}
use Rattle.std.proofs.lemmas.List.{append-nil}
use Rattle.ipdl_base.specs.declared.kinds.Side.{Side}
use Rattle.ipdl_base.specs.declared.kinds.Side.TheVariants as sides
use Rattle.ipdl_base.specs.declared.line.Line.{Line}
use Rattle.ipdl_base.specs.declared.line.What.{What}
use Rattle.ipdl_base.specs.Lines.{is_effect, same_side}
use Rattle.channel_model.specs.Ends.{End, end_of, link_to}
use Rattle.ipdl_base.specs.Sides.{other}
use Rattle.channel_model.specs.Outputs.{line_at}
use Rattle.channel_model.specs.Runs.{RunState}
use Rattle.script_steps.proofs.Choosing.{HaveSides, choice-happens, plays-one, side-of}
use Rattle.script_steps.proofs.Counting.{lines_of-append, lines_of-own}
use Rattle.script_steps.proofs.Playing.{PlaysOn, chooses, plays_on}
use Rattle.script_steps.proofs.StepLines.{Prints, step-prints}
use Rattle.script_steps.specs.Choices.{Choice, Setting, chosen, choices_of, is_delivery_line, played}
use Rattle.script_steps.specs.Progress.{lines_of}
use Rattle.world_core.proofs.Played.{ends-rest, other-side}

-- Choices of a side were made: they added lines of it, and the other end stayed as it was.
pub record RanAlone (side : Side) (from last : RunState) : Type 0 where
  pub lines : List Line
  pub following : last.lines ≡ from.lines ++ lines
  pub own : lines_of (other side) lines ≡ []
  pub rest : end_of (other side) last.world ≡ end_of (other side) from.world
  pub sides : HaveSides last.world

pub one-alone : (setting : Setting) (choice : Choice) (from next : RunState) → chosen setting choice from ≡ Some next → HaveSides from.world → RanAlone choice.side from next
one-alone setting choice from next is sided =
    let c = chooses setting choice from next is in
    let h = choice-happens setting choice from next c in
    let e : End = end_of choice.side from.world in
    let p : Prints e c.event h.output = step-prints setting.schema e (link_to choice.side from.world) c.event h.output h.is in
    let own : e.side ≡ choice.side = side-of from.world choice.side sided in
    record {
      lines = h.output.lines;
      following = h.lines;
      own =
          ap (lines_of (other choice.side)) (p.lines ∙ ap (λ (s : Side). map (line_at s) (p.first ∷ p.rest)) own) ∙ lines_of-own choice.side (other choice.side) (p.first ∷ p.rest)
          ∙ ap (λ (b : Bool). cond b (p.first ∷ p.rest) []) (other-side choice.side);
      rest = ap (end_of (other choice.side)) h.world ∙ ends-rest choice.side from c.event h.output;
      sides = (plays-one setting choice from next c sided).sides;
    }

pub all-alone : (setting : Setting) (side : Side) (choices : List Choice) (from last : RunState) → AllByRecursion (λ (c : Choice). c.side ≡ side) choices → played setting choices from ≡ Some last → HaveSides from.world → RanAlone side from last
all-alone setting side [] from last all h sided =
    let same : from ≡ last = cc in
    subst (RanAlone side from) same (record { lines = []; following = sym (append-nil from.lines); own = refl; rest = refl; sides = sided })
all-alone setting side (choice ∷ more) from last all h sided =
    let p : PlaysOn setting choice more from last = plays_on setting choice more from last h in
    let first : RanAlone side from p.next = subst (λ (s : Side). RanAlone s from p.next) all.0 (one-alone setting choice from p.next p.first sided) in
    let rest : RanAlone side p.next last = all-alone setting side more p.next last all.1 p.rest first.sides in
    record {
      lines = first.lines ++ rest.lines;
      following = rest.following ∙ ap (λ (ls : List Line). ls ++ rest.lines) first.following ∙ append_assoc from.lines first.lines rest.lines;
      own = lines_of-append (other side) first.lines rest.lines ∙ ap (λ (ws : List What). ws ++ lines_of (other side) rest.lines) first.own ∙ rest.own;
      rest = rest.rest ∙ first.rest;
      sides = rest.sides;
    }

pub all-same : (side : Side) (delivers : Bool) (count : ℕ) → AllByRecursion (λ (c : Choice). c.side ≡ side) (replicate count (record { side = side; delivers = delivers }))
all-same side delivers zero = tt
all-same side delivers (suc count) = (refl, all-same side delivers count)

-- Lines of the other side alone

sides-differ : (s side : Side) → same_side s side ≡ false → s ≡ other side
sides-differ sides.Parent sides.Parent h = cc
sides-differ sides.Parent sides.Child h = refl
sides-differ sides.Child sides.Parent h = refl
sides-differ sides.Child sides.Child h = cc

none-first : (b : Bool) (line : Line) (rest : List Line) → map (λ (line : Line). line.what) (cond b (line ∷ rest) rest) ≡ [] → (b ≡ false) × (map (λ (line : Line). line.what) rest ≡ [])
none-first true line rest h = cc
none-first false line rest h = (refl, h)

first-of : (side : Side) (b : Bool) (choice : Choice) (rest : List Choice) → choice.side ≡ side → AllByRecursion (λ (c : Choice). c.side ≡ side) rest → AllByRecursion (λ (c : Choice). c.side ≡ side) (cons_option (if b then None else Some choice) rest)
first-of side true choice rest is all = all
first-of side false choice rest is all = (is, all)

-- they report choices of the other side alone
pub others-choose : (side : Side) (lines : List Line) → lines_of side lines ≡ [] → AllByRecursion (λ (c : Choice). c.side ≡ other side) (choices_of lines)
others-choose side [] h = tt
others-choose side (line ∷ lines) h =
    let none = none-first (same_side line.side side) line (filter (λ (line : Line). same_side line.side side) lines) h in
    first-of (other side) (is_effect line.what) (record { side = line.side; delivers = is_delivery_line line.what }) (choices_of lines) (sides-differ line.side side none.0) (others-choose side lines none.1)
