-- Only short words lead somewhere, and it is decided which of their points are alike: so a script has an exploration.
use Rattle.std.proofs.Common.{◌≡◌, ◌⊎◌, ◌+◌, ◌<◌, ◌≤◌, List, Option, Some, None, length, refl, inl, inr, ⊎_elim, arith}
use Rattle.handler_script.specs.Valid.{IsValid}
use Rattle.ipdl_base.specs.declared.kinds.Side.{Side}
use Rattle.ipdl_base.specs.declared.kinds.Side.TheVariants as sides
use Rattle.ipdl_base.specs.Sound.{IsSound}
use Rattle.report_existence.proofs.Lists.{bool_or_not, same_or_not}
use Rattle.schedules.specs.declared.turn.Turn.{Turn}
use Rattle.script_runs.specs.Laws.{HasLimit}
use Rattle.script_steps.specs.Choices.{Choice, Setting, beginning_of}
use Rattle.script_transcripts.proofs.Ends.{few-choices, too_many}
use Rattle.explorations.specs.Laws.{ExplorationsExist}
use Rattle.explorations.specs.Words.{AreAlike, Point, reached}
use Rattle.exploration_laws.proofs.Alike.{SameSides}
use Rattle.exploration_laws.proofs.Futures.{ArePlayed, reached-played, spent_letters}
use Rattle.exploration_laws.proofs.SideTraces.{SameChoices, delivers_of, choices-tell-states, lines-tell-choices}
use Rattle.exploration_existence.proofs.Exists.{HasFewWords, has_exploration}

-- Sides and choices

side_or_not : (one other : Side) → (one ≡ other) ⊎ (one ≡ other → ⊥)
side_or_not sides.Parent sides.Parent = inl refl
side_or_not sides.Parent sides.Child = inr (λ e. cc)
side_or_not sides.Child sides.Parent = inr (λ e. cc)
side_or_not sides.Child sides.Child = inl refl

same_spent : (one other : Side) → Some one ≡ Some other → one ≡ other
same_spent one other e = cc

spent_or_not : (one other : Option Side) → (one ≡ other) ⊎ (one ≡ other → ⊥)
spent_or_not None None = inl refl
spent_or_not None (Some other) = inr (λ e. cc)
spent_or_not (Some one) None = inr (λ e. cc)
spent_or_not (Some one) (Some other) =
    ⊎_elim (λ (e : one ≡ other). inl (λ i. Some (e i))) (λ (differ : one ≡ other → ⊥). inr (λ e. differ (same_spent one other e))) (side_or_not one other)

choices_or_not : (one other : List Choice) → SameChoices one other ⊎ (SameChoices one other → ⊥)
choices_or_not one other = by (delivers_or_not sides.Parent) (delivers_or_not sides.Child)
  where
    delivers_or_not : (side : Side) → (delivers_of side one ≡ delivers_of side other) ⊎ (delivers_of side one ≡ delivers_of side other → ⊥)
    delivers_or_not side = same_or_not bool_or_not (delivers_of side one) (delivers_of side other)

    both : delivers_of sides.Parent one ≡ delivers_of sides.Parent other → delivers_of sides.Child one ≡ delivers_of sides.Child other → SameChoices one other
    both parent child sides.Parent = parent
    both parent child sides.Child = child

    by : (delivers_of sides.Parent one ≡ delivers_of sides.Parent other) ⊎ (delivers_of sides.Parent one ≡ delivers_of sides.Parent other → ⊥) → (delivers_of sides.Child one ≡ delivers_of sides.Child other) ⊎ (delivers_of sides.Child one ≡ delivers_of sides.Child other → ⊥)
        → SameChoices one other ⊎ (SameChoices one other → ⊥)
    by (inl parent) (inl child) = inl (both parent child)
    by (inl parent) (inr differ) = inr (λ same. differ (same sides.Child))
    by (inr differ) child = inr (λ same. differ (same sides.Parent))

-- Words and points

one_spent : (spent : Option Side) → spent_letters spent ≤ 1
one_spent None = omega arith
one_spent (Some side) = omega arith

module _ (setting : Setting) (sound : IsSound setting.schema) (valid : IsValid setting.schema setting.script) (limit : HasLimit setting) where
  short : (word : List Turn) (point : Point) → reached setting word ≡ Some point → length word ≤ too_many setting
  short word point is =
      let p : ArePlayed setting word (beginning_of setting) point = reached-played setting sound valid limit word point is in
      let long : length word ≡ length p.choices + spent_letters point.spent = p.long in
      let one : spent_letters point.spent ≤ 1 = one_spent point.spent in
      let less : length p.choices < too_many setting = few-choices setting sound valid limit p.choices point.state p.plays in
      omega (arith, long, one, less)

  -- points are alike if the sides make the same choices, and the same side is spent
  alike_or_not : (one other : List Turn) (point same : Point) → reached setting one ≡ Some point → reached setting other ≡ Some same → AreAlike point same ⊎ (AreAlike point same → ⊥)
  alike_or_not one other point same h k = by (choices_or_not first.choices second.choices) (spent_or_not point.spent same.spent)
    where
      first : ArePlayed setting one (beginning_of setting) point
      first = reached-played setting sound valid limit one point h

      second : ArePlayed setting other (beginning_of setting) same
      second = reached-played setting sound valid limit other same k

      by : SameChoices first.choices second.choices ⊎ (SameChoices first.choices second.choices → ⊥) → (point.spent ≡ same.spent) ⊎ (point.spent ≡ same.spent → ⊥) → AreAlike point same ⊎ (AreAlike point same → ⊥)
      by (inl told) (inl spent) =
          let alike : SameSides point.state same.state =
          choices-tell-states setting first.choices second.choices point.state same.state first.plays second.plays told
          in
          inl (record { lines = alike.lines; spent = spent })
      by (inl told) (inr differ) = inr (λ alike. differ alike.spent)
      by (inr differ) spent = inr (λ alike. differ (lines-tell-choices setting first.choices second.choices point.state same.state first.plays second.plays alike.lines))

  few_words : HasFewWords setting
  few_words = record { bound = too_many setting; short = short; decides = alike_or_not }

pub explorations_exist : ExplorationsExist
explorations_exist setting most sound valid limit = has_exploration setting (few_words setting sound valid limit) most
