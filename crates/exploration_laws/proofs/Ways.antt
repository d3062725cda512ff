-- The run by the word of a way is that way, and no two ways are alike.
use Rattle.std.proofs.Common.{◌≡◌, zero, suc, Bool, true, false, if◌then◌else◌, List, [], ◌∷◌, Contains, filter_map, Option, Some, None, option_map, refl, sym, ap, subst, ◌∙◌, arith}
use Rattle.std.specs.List.{cons_option}
use Rattle.std.specs.Prelude.{option_and_then}
use Rattle.std.proofs.lemmas.Option.{none-some, same_Some}
use Rattle.ipdl_base.specs.declared.kinds.Side.TheVariants as sides
use Rattle.channel_model.specs.Runs.{RunState}
use Rattle.schedules.specs.declared.turn.Turn.{Turn}
use Rattle.script_steps.specs.Choices.{Setting, beginning_of}
use Rattle.script_steps.specs.Turns.{Picks, RunEnding, TurnOutcome, at_limit, at_rest, exceeds, idles, is_quiet, leads, outcome, passes, rests, turn_exceeds, turn_leads, whole_turn, word_ends}
use Rattle.script_steps.proofs.Rest.{quiet_does_nothing}
use Rattle.explorations.proofs.Points.{point-by}
use Rattle.explorations.specs.Explorations.{Exploration, IsExplored, IsFirst, Way, ending_at, way_of, ways_of}
use Rattle.explorations.specs.Laws.{WaysAreRun, WaysDiffer}
use Rattle.explorations.specs.Words.{Point, point_from, reached, spent_point}
use Rattle.exploration_laws.proofs.One.{first_of, one_word}
use Rattle.exploration_laws.proofs.Rising.{contains_later}

-- What a list gives of its elements

put-first : {Y : Type 0} (found : Option Y) (ys : List Y) (y : Y) → found ≡ Some y → Contains (cons_option found ys) y
put-first None ys y h = cc
put-first (Some x) ys y h = (0, omega arith, same_Some x y h)

put-later : {Y : Type 0} (found : Option Y) (ys : List Y) (y : Y) → Contains ys y → Contains (cons_option found ys) y
put-later None ys y c = c
put-later (Some x) ys y (k, below, is) = (suc k, omega (arith, below), is)

pub in-filtered : {X Y : Type 0} (f : X → Option Y) (xs : List X) (x : X) (y : Y) → Contains xs x → f x ≡ Some y → Contains (filter_map f xs) y
in-filtered f [] x y (k, below, is) h = absurd (omega (arith, below))
in-filtered f (first ∷ xs) x y (zero, below, is) h = put-first (f first) (filter_map f xs) y (ap f is ∙ h)
in-filtered f (first ∷ xs) x y (suc k, below, is) h = put-later (f first) (filter_map f xs) y (in-filtered f xs x y (k, omega (arith, below), is) h)

taken-from : {X Y : Type 0} (f : X → Option Y) (first : X) (xs : List X) (y : Y) (found : Option Y) → f first ≡ found → Contains (cons_option found (filter_map f xs)) y
    → (Contains (filter_map f xs) y → (x : X) × Contains xs x × (f x ≡ Some y)) → (x : X) × Contains (first ∷ xs) x × (f x ≡ Some y)
taken-from f first xs y None is c later = let rest = later c in (rest.0, contains_later first xs rest.0 rest.1, rest.2)
taken-from f first xs y (Some z) is (zero, below, here) later = (first, (0, omega arith, refl), is ∙ ap Some here)
taken-from f first xs y (Some z) is (suc k, below, there) later = let rest = later (k, omega (arith, below), there) in (rest.0, contains_later first xs rest.0 rest.1, rest.2)

of-filtered : {X Y : Type 0} (f : X → Option Y) (xs : List X) (y : Y) → Contains (filter_map f xs) y → (x : X) × Contains xs x × (f x ≡ Some y)
of-filtered f [] y (k, below, is) = absurd (omega (arith, below))
of-filtered f (x ∷ xs) y c = taken-from f x xs y (f x) refl c (of-filtered f xs y)

-- A way is that of a word

record ShowsWay (setting : Setting) (words : List (List Turn)) (way : Way) : Type 0 where
  listed : Contains words way.word
  point : Point
  leads_to : reached setting way.word ≡ Some point
  ends : ending_at setting point.state point.spent ≡ Some way.ending

ending-shows : (setting : Setting) (words : List (List Turn)) (word : List Turn) (way : Way) (point : Point) (found : Option RunEnding) → Contains words word → reached setting word ≡ Some point → ending_at setting point.state point.spent ≡ found
    → option_map (λ ending. record { ending = ending; word = word }) found ≡ Some way → ShowsWay setting words way
ending-shows setting words word way point None c leads_to ends h = cc
ending-shows setting words word way point (Some ending) c leads_to ends h =
    subst (ShowsWay setting words) (same_Some (record { ending = ending; word = word }) way h) (record { listed = c; point = point; leads_to = leads_to; ends = ends })

point-shows : (setting : Setting) (words : List (List Turn)) (word : List Turn) (way : Way) (found : Option Point) → Contains words word → reached setting word ≡ found
    → option_map (λ ending. record { ending = ending; word = word }) (option_and_then (λ (point : Point). ending_at setting point.state point.spent) found) ≡ Some way → ShowsWay setting words way
point-shows setting words word way None c is h = cc
point-shows setting words word way (Some point) c is h = ending-shows setting words word way point (ending_at setting point.state point.spent) c is refl h

shows-way : (setting : Setting) (words : List (List Turn)) (way : Way) → Contains (ways_of setting words) way → ShowsWay setting words way
shows-way setting words way c = let found = of-filtered (way_of setting) words way c in point-shows setting words found.0 way (reached setting found.0) found.1 refl found.2

explored-way : (setting : Setting) (most : _) (exploration : Exploration) (way : Way) (explored : IsExplored setting most exploration) → Contains exploration.ways way → ShowsWay setting explored.words way
explored-way setting most exploration way explored c = shows-way setting explored.words way (subst (λ (ways : List Way). Contains ways way) explored.ways c)

-- Its run

module _ (setting : Setting) where
  quiet-ends : (state : RunState) (ending : RunEnding) (quiet : Bool) → is_quiet setting state ≡ quiet → (if quiet then Some at_rest else None) ≡ Some ending → Picks setting [] state state ending
  quiet-ends state ending true is h =
      let still : is_quiet setting state ≡ true = is in
      subst (Picks setting [] state state) (same_Some at_rest ending h)
      (word_ends state state at_rest
      (passes sides.Parent 1 state state at_rest (quiet_does_nothing setting (whole_turn sides.Parent) state still)
      (passes sides.Child 0 state state at_rest (quiet_does_nothing setting (whole_turn sides.Child) state still) (rests sides.Parent state))))
  quiet-ends state ending false is h = cc

  -- at a point that is known
  at-point : (word : List Turn) (from : RunState) (made point : Point) (ending : RunEnding) → Some made ≡ Some point → (ending_at setting made.state made.spent ≡ Some ending → Picks setting word from made.state ending)
      → ending_at setting point.state point.spent ≡ Some ending → Picks setting word from point.state ending
  at-point word from made point ending is picks ends =
      let same : made ≡ point = same_Some made point is in
      subst (λ (p : Point). Picks setting word from p.state ending) same (picks (ap (λ (p : Point). ending_at setting p.state p.spent) same ∙ ends))

  spent-picks : (turn : Turn) (word : List Turn) (from : RunState) (point : Point) (ending : RunEnding) → outcome setting turn from ≡ exceeds → spent_point from turn.side word ≡ Some point → ending_at setting point.state point.spent ≡ Some ending
      → Picks setting (turn ∷ word) from point.state ending
  spent-picks turn [] from point ending is h ends =
      at-point (turn ∷ []) from (record { state = from; spent = Some turn.side }) point ending h (λ limit. subst (Picks setting (turn ∷ []) from from) (same_Some (at_limit turn.side) ending limit) (turn_exceeds turn [] from is)) ends
  spent-picks turn (next ∷ word) from point ending is h ends = cc

  point-picks : (word : List Turn) (from : RunState) (point : Point) (ending : RunEnding) → point_from setting word from ≡ Some point → ending_at setting point.state point.spent ≡ Some ending → Picks setting word from point.state ending
  point-picks [] from point ending h ends = at-point [] from (record { state = from; spent = None }) point ending h (λ rest. quiet-ends from ending (is_quiet setting from) refl rest) ends
  point-picks (turn ∷ word) from point ending h ends = by (outcome setting turn from) refl (λ next so. point-picks word next point ending so ends)
    where
      by : (found : TurnOutcome) → outcome setting turn from ≡ found → ((next : RunState) → point_from setting word next ≡ Some point → Picks setting word next point.state ending) → Picks setting (turn ∷ word) from point.state ending
      by (leads next) is onward = turn_leads turn word from next point.state ending is (onward next (sym (point-by setting turn word from (leads next) is) ∙ h))
      by idles is onward = absurd (none-some point (sym (point-by setting turn word from idles is) ∙ h))
      by exceeds is onward = spent-picks turn word from point ending is (sym (point-by setting turn word from exceeds is) ∙ h) ends

pub ways_are_run : WaysAreRun
ways_are_run setting most exploration way explored c =
    let shows : ShowsWay setting explored.words way = explored-way setting most exploration way explored c in
    record { point = shows.point; leads = shows.leads_to; runs = point-picks setting way.word (beginning_of setting) shows.point way.ending shows.leads_to shows.ends }

-- Two ways

same-way : (one other : Way) → one.ending ≡ other.ending → one.word ≡ other.word → one ≡ other
same-way one other ending word = ap (λ (e : RunEnding). record one { ending = e }) ending ∙ ap (λ (w : List Turn). record { ending = other.ending; word = w }) word

pub ways_differ : WaysDiffer
ways_differ setting most exploration one other point same explored c d h k alike =
    let first : ShowsWay setting explored.words one = explored-way setting most exploration one explored c in
    let second : ShowsWay setting explored.words other = explored-way setting most exploration other explored d in
    let one_first : IsFirst setting one.word = first_of setting explored.words one.word explored.first.each first.listed in
    let other_first : IsFirst setting other.word = first_of setting explored.words other.word explored.first.each second.listed in
    let word : one.word ≡ other.word = one_word setting one.word other.word point same one_first other_first h k alike in
    let points : Some first.point ≡ Some second.point = sym first.leads_to ∙ ap (reached setting) word ∙ second.leads_to in
    let point_is : first.point ≡ second.point = same_Some first.point second.point points in
    let endings : Some one.ending ≡ Some other.ending = sym first.ends ∙ ap (λ (p : Point). ending_at setting p.state p.spent) point_is ∙ second.ends in
    same-way one other (same_Some one.ending other.ending endings) word
