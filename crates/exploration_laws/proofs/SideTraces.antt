-- Two runs in which each side makes the same choices, in whatever mixture, lead to states that are alike.
use Rattle.std.proofs.Common.{◌≡◌, Bool, true, false, if◌then◌else◌, List, [], ◌∷◌, filter_map, Option, Some, None, refl, sym, ap, subst, ◌∙◌}
use Rattle.std.specs.List.{cons_option}
use Rattle.ipdl_base.specs.declared.kinds.Side.{Side}
use Rattle.ipdl_base.specs.declared.kinds.Side.TheVariants as sides
use Rattle.ipdl_base.specs.declared.line.Line.{Line}
use Rattle.ipdl_base.specs.declared.line.What.{What}
use Rattle.ipdl_base.specs.Lines.{is_effect, same_side}
use Rattle.ipdl_base.specs.Sides.{other}
use Rattle.channel_model.specs.Outputs.{line_at}
use Rattle.channel_model.specs.Runs.{RunState}
use Rattle.script_steps.specs.Choices.{Choice, Setting, beginning_of, choices_of, chosen, is_delivery_line, played}
use Rattle.script_steps.specs.Progress.{lines_of}
use Rattle.script_steps.proofs.Choosing.{HaveSides, begin-sides, choices_are_read, plays-one}
use Rattle.script_steps.proofs.Playing.{PlaysOn, chooses, plays_on}
use Rattle.explorations.specs.Laws.{SidesTellWorlds}
use Rattle.exploration_laws.proofs.Alike.{ChosenAlike, PlaysAlike, SameSides, chosen-alike, played-alike, plays-first, same-back, same-itself, same-on}
use Rattle.exploration_laws.proofs.Commuting.{Commutes, choices-commute}

-- What a side chooses, one after another: whether each is a delivery
abbrev pub delivers_of : Side → List Choice → List Bool
delivers_of side [] = []
delivers_of side (choice ∷ more) = if same_side choice.side side then choice.delivers ∷ delivers_of side more else delivers_of side more

abbrev pub SameChoices : List Choice → List Choice → Type 0
SameChoices one other = (side : Side) → delivers_of side one ≡ delivers_of side other

-- The lines of a side tell them

abbrev pub told : What → Option Bool
told w = if is_effect w then None else Some (is_delivery_line w)

told-here : (side : Side) (effect delivers : Bool) (choices : List Choice) (rest : List Bool) → delivers_of side choices ≡ rest
    → delivers_of side (cons_option (if effect then None else Some (record { side = side; delivers = delivers })) choices) ≡ cons_option (if effect then None else Some delivers) rest
told-here side true delivers choices rest h = h
told-here sides.Parent false delivers choices rest h = ap (λ ds. delivers ∷ ds) h
told-here sides.Child false delivers choices rest h = ap (λ ds. delivers ∷ ds) h

told-there : (side : Side) (effect delivers : Bool) (choices : List Choice) → delivers_of side (cons_option (if effect then None else Some (record { side = other side; delivers = delivers })) choices) ≡ delivers_of side choices
told-there side true delivers choices = refl
told-there sides.Parent false delivers choices = refl
told-there sides.Child false delivers choices = refl

told-line : (side own : Side) (w : What) (lines : List Line) → delivers_of side (choices_of lines) ≡ filter_map told (lines_of side lines)
    → delivers_of side (choices_of (line_at own w ∷ lines)) ≡ filter_map told (lines_of side (line_at own w ∷ lines))
told-line sides.Parent sides.Parent w lines h = told-here sides.Parent (is_effect w) (is_delivery_line w) (choices_of lines) (filter_map told (lines_of sides.Parent lines)) h
told-line sides.Child sides.Child w lines h = told-here sides.Child (is_effect w) (is_delivery_line w) (choices_of lines) (filter_map told (lines_of sides.Child lines)) h
told-line sides.Parent sides.Child w lines h = told-there sides.Parent (is_effect w) (is_delivery_line w) (choices_of lines) ∙ h
told-line sides.Child sides.Parent w lines h = told-there sides.Child (is_effect w) (is_delivery_line w) (choices_of lines) ∙ h

pub lines-tell : (side : Side) (lines : List Line) → delivers_of side (choices_of lines) ≡ filter_map told (lines_of side lines)
lines-tell side [] = refl
lines-tell side (line ∷ lines) = told-line side line.side line.what lines (lines-tell side lines)

module _ (setting : Setting) where
  -- so runs with the same lines of each side have the same choices of each side
  pub lines-tell-choices : (one other : List Choice) (state next : RunState) → played setting one (beginning_of setting) ≡ Some state → played setting other (beginning_of setting) ≡ Some next
      → ((side : Side) → lines_of side state.lines ≡ lines_of side next.lines) → SameChoices one other
  lines-tell-choices one other state next h k same side =
      ap (delivers_of side) (sym (choices_are_read setting one state h)) ∙ lines-tell side state.lines ∙ ap (filter_map told) (same side) ∙ sym (lines-tell side next.lines) ∙ ap (delivers_of side) (choices_are_read setting other next k)

  -- A choice that is possible at the start, and comes first of its side, may come first of all

  record ComesFirst (side : Side) (delivers : Bool) (choices : List Choice) (next last : RunState) : Type 0 where
    rest : List Choice
    same : RunState
    plays : played setting rest next ≡ Some same
    alike : SameSides last same
    here : delivers_of side choices ≡ delivers ∷ delivers_of side rest
    there : delivers_of (other side) choices ≡ delivers_of (other side) rest

  sides-next : (choice : Choice) (state next : RunState) → HaveSides state.world → chosen setting choice state ≡ Some next → HaveSides next.world
  sides-next choice state next sided h = let c = chooses setting choice state next h in (plays-one setting choice state next c sided).sides

  -- where the first choice is of the side, it is that one
  first-here : (side : Side) (delivers first : Bool) (more : List Choice) (state next last : RunState) → first ≡ delivers → chosen setting (record { side = side; delivers = delivers }) state ≡ Some next
      → played setting (record { side = side; delivers = first } ∷ more) state ≡ Some last → delivers_of side (record { side = side; delivers = first } ∷ more) ≡ first ∷ delivers_of side more
      → delivers_of (other side) (record { side = side; delivers = first } ∷ more) ≡ delivers_of (other side) more → ComesFirst side delivers (record { side = side; delivers = first } ∷ more) next last
  first-here side delivers first more state next last is h plays here there =
      let p : PlaysOn setting (record { side = side; delivers = first }) more state last = plays_on setting (record { side = side; delivers = first }) more state last plays in
      let both : Some p.next ≡ Some next = sym p.first ∙ ap (λ (b : Bool). chosen setting (record { side = side; delivers = b }) state) is ∙ h in
      let as_one : p.next ≡ next = cc in
      record { rest = more; same = last; plays = subst (λ (s : RunState). played setting more s ≡ Some last) as_one p.rest; alike = same-itself last; here = here ∙ ap (λ (b : Bool). b ∷ delivers_of side more) is; there = there }

  -- and where it is of the other, both orders lead to states that are alike
  first-there : (side : Side) (delivers first : Bool) (more : List Choice) (state next last : RunState) → HaveSides state.world
      → ((from to : RunState) → HaveSides from.world → chosen setting (record { side = side; delivers = delivers }) from ≡ Some to → played setting more from ≡ Some last → ComesFirst side delivers more to last)
      → chosen setting (record { side = side; delivers = delivers }) state ≡ Some next → played setting (record { side = other side; delivers = first } ∷ more) state ≡ Some last
      → ((choices : List Choice) → delivers_of side (record { side = other side; delivers = first } ∷ choices) ≡ delivers_of side choices)
      → ((choices : List Choice) → delivers_of (other side) (record { side = other side; delivers = first } ∷ choices) ≡ first ∷ delivers_of (other side) choices)
      → ComesFirst side delivers (record { side = other side; delivers = first } ∷ more) next last
  first-there side delivers first more state next last sided onward h plays passes adds =
      let d : Choice = record { side = other side; delivers = first } in
      let p : PlaysOn setting d more state last = plays_on setting d more state last plays in
      let both : Commutes setting (record { side = side; delivers = delivers }) d next p.next = choices-commute setting side delivers first state next p.next sided h p.first in
      let moved : ComesFirst side delivers more both.first_last last = onward p.next both.first_last (sides-next d state p.next sided p.first) both.first_after p.rest in
      let after : PlaysAlike setting moved.rest both.second_last moved.same = played-alike setting moved.rest both.first_last both.second_last moved.same both.alike moved.plays in
      record {
        rest = d ∷ moved.rest;
        same = after.same;
        plays = plays-first setting d moved.rest next both.second_last after.same both.second_after after.plays;
        alike = same-on last moved.same after.same moved.alike after.alike;
        here = passes more ∙ moved.here ∙ ap (λ (ds : List Bool). delivers ∷ ds) (sym (passes moved.rest));
        there = adds more ∙ ap (λ (ds : List Bool). first ∷ ds) moved.there ∙ sym (adds moved.rest);
      }

  comes-first : (side : Side) (delivers : Bool) (more : List Bool) (choices : List Choice) (state next last : RunState) → HaveSides state.world → chosen setting (record { side = side; delivers = delivers }) state ≡ Some next
      → played setting choices state ≡ Some last → delivers_of side choices ≡ delivers ∷ more → ComesFirst side delivers choices next last
  comes-first side delivers more [] state next last sided h plays is = cc
  comes-first side delivers more (choice ∷ choices) state next last sided h plays is =
      by side choice.side choice.delivers (λ side from to ok first rest told. comes-first side delivers more choices from to last ok first rest told) h plays is
    where
      by : (side own : Side) (first : Bool)
          → ((side : Side) (from to : RunState) → HaveSides from.world → chosen setting (record { side = side; delivers = delivers }) from ≡ Some to → played setting choices from ≡ Some last → delivers_of side choices ≡ delivers ∷ more → ComesFirst side delivers choices to last)
          → chosen setting (record { side = side; delivers = delivers }) state ≡ Some next → played setting (record { side = own; delivers = first } ∷ choices) state ≡ Some last
          → delivers_of side (record { side = own; delivers = first } ∷ choices) ≡ delivers ∷ more → ComesFirst side delivers (record { side = own; delivers = first } ∷ choices) next last
      by sides.Parent sides.Parent first onward h plays is = first-here sides.Parent delivers first choices state next last (let e : first ≡ delivers = cc in e) h plays refl refl
      by sides.Child sides.Child first onward h plays is = first-here sides.Child delivers first choices state next last (let e : first ≡ delivers = cc in e) h plays refl refl
      by sides.Parent sides.Child first onward h plays is =
          first-there sides.Parent delivers first choices state next last sided (λ from to ok now rest. onward sides.Parent from to ok now rest is) h plays (λ cs. refl) (λ cs. refl)
      by sides.Child sides.Parent first onward h plays is =
          first-there sides.Child delivers first choices state next last sided (λ from to ok now rest. onward sides.Child from to ok now rest is) h plays (λ cs. refl) (λ cs. refl)

  -- Two runs with the same choices of each side

  none-left : (choices : List Choice) → SameChoices [] choices → choices ≡ []
  none-left [] h = refl
  none-left (choice ∷ more) h = by choice.side choice.delivers (h sides.Parent) (h sides.Child)
    where
      by : (own : Side) (delivers : Bool) → [] ≡ delivers_of sides.Parent (record { side = own; delivers = delivers } ∷ more) → [] ≡ delivers_of sides.Child (record { side = own; delivers = delivers } ∷ more) → choice ∷ more ≡ []
      by sides.Parent delivers parent child = cc
      by sides.Child delivers parent child = cc

  same-rest : (side : Side) (delivers : Bool) (more choices rest : List Choice) → SameChoices (record { side = side; delivers = delivers } ∷ more) choices → delivers_of side choices ≡ delivers ∷ delivers_of side rest
      → delivers_of (other side) choices ≡ delivers_of (other side) rest → SameChoices more rest
  same-rest sides.Parent delivers more choices rest same here there sides.Parent = let e : delivers ∷ delivers_of sides.Parent more ≡ delivers ∷ delivers_of sides.Parent rest = same sides.Parent ∙ here in cc
  same-rest sides.Parent delivers more choices rest same here there sides.Child = same sides.Child ∙ there
  same-rest sides.Child delivers more choices rest same here there sides.Parent = same sides.Parent ∙ there
  same-rest sides.Child delivers more choices rest same here there sides.Child = let e : delivers ∷ delivers_of sides.Child more ≡ delivers ∷ delivers_of sides.Child rest = same sides.Child ∙ here in cc

  first-of : (side : Side) (delivers : Bool) (more choices : List Choice) → SameChoices (record { side = side; delivers = delivers } ∷ more) choices → delivers_of side choices ≡ delivers ∷ delivers_of side more
  first-of sides.Parent delivers more choices same = sym (same sides.Parent)
  first-of sides.Child delivers more choices same = sym (same sides.Child)

  pub traces-alike : (one choices : List Choice) (state same last end : RunState) → HaveSides state.world → HaveSides same.world → SameSides state same → played setting one state ≡ Some last → played setting choices same ≡ Some end
      → SameChoices one choices → SameSides last end
  traces-alike [] choices state same last end sided sided_too alike plays plays_too told =
      let none : Some same ≡ Some end = ap (λ (cs : List Choice). played setting cs same) (sym (none-left choices told)) ∙ plays_too in
      let end_is : same ≡ end = cc in
      let last_is : state ≡ last = cc in
      subst (λ (s : RunState). SameSides s end) last_is (subst (SameSides state) end_is alike)
  traces-alike (choice ∷ more) choices state same last end sided sided_too alike plays plays_too told =
      let p : PlaysOn setting choice more state last = plays_on setting choice more state last plays in
      let c : ChosenAlike setting choice same p.next = chosen-alike setting choice state same p.next alike p.first in
      let moved : ComesFirst choice.side choice.delivers choices c.same end =
      comes-first choice.side choice.delivers (delivers_of choice.side more) choices same c.same end sided_too c.is plays_too (first-of choice.side choice.delivers more choices told)
      in
      same-on last moved.same end
      (traces-alike more moved.rest p.next c.same last moved.same (sides-next choice state p.next sided p.first) (sides-next choice same c.same sided_too c.is) c.alike p.rest moved.plays
      (same-rest choice.side choice.delivers more choices moved.rest told moved.here moved.there))
      (same-back end moved.same moved.alike)

  pub choices-tell-states : (one other : List Choice) (state next : RunState) → played setting one (beginning_of setting) ≡ Some state → played setting other (beginning_of setting) ≡ Some next → SameChoices one other → SameSides state next
  choices-tell-states one other state next h k told = traces-alike one other (beginning_of setting) (beginning_of setting) state next (begin-sides setting) (begin-sides setting) (same-itself (beginning_of setting)) h k told

  pub sides-tell-states : (one other : List Choice) (state next : RunState) → played setting one (beginning_of setting) ≡ Some state → played setting other (beginning_of setting) ≡ Some next
      → ((side : Side) → lines_of side state.lines ≡ lines_of side next.lines) → SameSides state next
  sides-tell-states one other state next h k same = choices-tell-states one other state next h k (lines-tell-choices one other state next h k same)

pub sides_tell_worlds : SidesTellWorlds
sides_tell_worlds setting one other state next h k same = (sides-tell-states setting one other state next h k same).world
