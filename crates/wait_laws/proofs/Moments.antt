-- Each event line of a run begins the lines of one possible move, after the lines of the moves before it.
use Rattle.std.proofs.Common.{◌≡◌, ◌⊎◌, inl, inr, true, false, List, [], ◌∷◌, ◌++◌, Option, Some, None, refl, sym, ap, subst, ◌∙◌}
use Rattle.std.specs.List.{AllByRecursion}
use Rattle.ipdl_base.specs.declared.kinds.Side.{Side}
use Rattle.ipdl_base.specs.declared.line.Line.{Line}
use Rattle.ipdl_base.specs.declared.schema.Schema.{Schema}
use Rattle.ipdl_base.specs.Lines.{is_effect}
use Rattle.channel_model.specs.Ends.{World, end_of, link_to}
use Rattle.channel_model.specs.EventLines.{IsEventWithEffects, IsEffectOf}
use Rattle.channel_model.specs.Events.{Move}
use Rattle.channel_model.specs.Outputs.{Output}
use Rattle.channel_model.specs.Runs.{output_of, passed_by, happens, run}
use Rattle.channel_model.proofs.Events.{events_have_their_lines}

-- A line is the first of a move, which is possible after other moves, whose lines are all before it.
pub record IsMoment (schema : Schema) (w : World) (before : List Line) (line : Line) : Type 0 where
  pub front : List Move
  pub move : Move
  pub output : Output
  pub rest : List Line
  pub step : output_of schema (run schema front w).world move ≡ Some output
  pub lines : output.lines ≡ line ∷ rest
  pub before_is : (run schema front w).lines ≡ before

-- Lists

pub record InFirst (xs before : List Line) (line : Line) : Type 0 where
  pub rest : List Line
  pub whole : xs ≡ before ++ line ∷ rest

pub record InSecond (xs ys before : List Line) (line : Line) (following : List Line) : Type 0 where
  pub later : List Line
  pub before_is : before ≡ xs ++ later
  pub whole : ys ≡ later ++ line ∷ following

head-is : (x y : Line) (xs ys : List Line) → x ∷ xs ≡ y ∷ ys → x ≡ y
head-is x y xs ys e = cc

tail-is : (x y : Line) (xs ys : List Line) → x ∷ xs ≡ y ∷ ys → xs ≡ ys
tail-is x y xs ys e = cc

none-there : {A : Type 0} (before following : List Line) (line : Line) → [] ≡ before ++ line ∷ following → A
none-there [] following line e = cc
none-there (x ∷ xs) following line e = cc

-- a line of two lists is in one of them
split : (xs ys before following : List Line) (line : Line) → xs ++ ys ≡ before ++ line ∷ following → InFirst xs before line ⊎ InSecond xs ys before line following
split [] ys before following line e = inr (record { later = before; before_is = refl; whole = e })
split (x ∷ xs) ys [] following line e = inl (record { rest = xs; whole = ap (λ (l : Line). l ∷ xs) (head-is x line (xs ++ ys) following e) })
split (x ∷ xs) ys (b ∷ bs) following line e = by (split xs ys bs following line (tail-is x b (xs ++ ys) (bs ++ line ∷ following) e))
  where
    same : x ≡ b
    same = head-is x b (xs ++ ys) (bs ++ line ∷ following) e

    by : InFirst xs bs line ⊎ InSecond xs ys bs line following → InFirst (x ∷ xs) (b ∷ bs) line ⊎ InSecond (x ∷ xs) ys (b ∷ bs) line following
    by (inl f) = inl (record { rest = f.rest; whole = ap (λ (l : Line). l ∷ xs) same ∙ ap (λ (ls : List Line). b ∷ ls) f.whole })
    by (inr s) = inr (record { later = s.later; before_is = ap (λ (l : Line). l ∷ bs) (sym same) ∙ ap (λ (ls : List Line). x ∷ ls) s.before_is; whole = s.whole })

-- Lines of one event

effect-there : (side : Side) (before rest : List Line) (line : Line) → AllByRecursion (IsEffectOf side) (before ++ line ∷ rest) → is_effect line.what ≡ true
effect-there side [] rest line a = a.0.1
effect-there side (x ∷ xs) rest line a = effect-there side xs rest line a.1

-- an event line of one event is its first
event-first : (side : Side) (before rest : List Line) (line : Line) → is_effect line.what ≡ false → IsEventWithEffects side (before ++ line ∷ rest) → before ≡ []
event-first side [] rest line is a = refl
event-first side (x ∷ xs) rest line is a = let both : true ≡ false = sym (effect-there side xs rest line a.1) ∙ is in cc

module _ (schema : Schema) where
  -- the event of a possible move begins its lines
  here : (move : Move) (w : World) (output : Output) (before : List Line) (line : Line) → is_effect line.what ≡ false → output_of schema w move ≡ Some output → InFirst output.lines before line → IsMoment schema w before line
  here move w output before line is step f =
      let none : before ≡ [] = event-first (end_of move.side w).side before f.rest line is (subst (IsEventWithEffects (end_of move.side w).side) f.whole (events_have_their_lines schema (end_of move.side w) (link_to move.side w) move.event output step).lines) in
      record { front = []; move = move; output = output; rest = f.rest; step = step; lines = f.whole ∙ ap (λ (ls : List Line). ls ++ line ∷ f.rest) none; before_is = sym none }

  first-moment : (move : Move) (w : World) (found : Option Output) (before : List Line) (line : Line) → is_effect line.what ≡ false → output_of schema w move ≡ found → InFirst (passed_by found move w).lines before line → IsMoment schema w before line
  first-moment move w None before line is step f = none-there before f.rest line f.whole
  first-moment move w (Some output) before line is step f = here move w output before line is step f

  pub moment-of : (moves : List Move) (w : World) (before following : List Line) (line : Line) → is_effect line.what ≡ false → (run schema moves w).lines ≡ before ++ line ∷ following → IsMoment schema w before line
  moment-of [] w before following line is e = none-there before following line e
  moment-of (move ∷ moves) w before following line is e =
      by (split (happens schema w move).lines (run schema moves (happens schema w move).world).lines before following line e) (λ (later : List Line). λ (whole : (run schema moves (happens schema w move).world).lines ≡ later ++ line ∷ following). moment-of moves (happens schema w move).world later following line is whole)
    where
      by : InFirst (happens schema w move).lines before line ⊎ InSecond (happens schema w move).lines (run schema moves (happens schema w move).world).lines before line following
          → ((later : List Line) → (run schema moves (happens schema w move).world).lines ≡ later ++ line ∷ following → IsMoment schema (happens schema w move).world later line) → IsMoment schema w before line
      by (inl f) rec = first-moment move w (output_of schema w move) before line is refl f
      by (inr s) rec =
          let m : IsMoment schema (happens schema w move).world s.later line = rec s.later s.whole in
          record { front = move ∷ m.front; move = m.move; output = m.output; rest = m.rest; step = m.step; lines = m.lines; before_is = ap (λ (ls : List Line). (happens schema w move).lines ++ ls) m.before_is ∙ sym s.before_is }
