-- Words that lead to points that are alike have the same number of letters.
use Rattle.std.proofs.Common.{◌≡◌, suc, ◌+◌, Bool, List, [], ◌∷◌, length, refl, ap, arith}
use Rattle.ipdl_base.specs.declared.kinds.Side.{Side}
use Rattle.ipdl_base.specs.declared.kinds.Side.TheVariants as sides
use Rattle.script_steps.specs.Choices.{Choice, beginning_of}
use Rattle.explorations.specs.Laws.{AlikeWordsAreAsLong}
use Rattle.exploration_laws.proofs.Futures.{ArePlayed, reached-played, spent_letters}
use Rattle.exploration_laws.proofs.SideTraces.{SameChoices, delivers_of, lines-tell-choices}

-- Each choice is of one side or of the other
counted-by : (side : Side) (delivers : Bool) (more : List Choice) → length more ≡ length (delivers_of sides.Parent more) + length (delivers_of sides.Child more)
    → suc (length more) ≡ length (delivers_of sides.Parent (record { side = side; delivers = delivers } ∷ more)) + length (delivers_of sides.Child (record { side = side; delivers = delivers } ∷ more))
counted-by sides.Parent delivers more h = omega (arith, h)
counted-by sides.Child delivers more h = omega (arith, h)

counted : (choices : List Choice) → length choices ≡ length (delivers_of sides.Parent choices) + length (delivers_of sides.Child choices)
counted [] = refl
counted (choice ∷ more) = counted-by choice.side choice.delivers more (counted more)

pub alike_words_are_as_long : AlikeWordsAreAsLong
alike_words_are_as_long setting one other point same sound valid limit h k alike =
    let first : ArePlayed setting one (beginning_of setting) point = reached-played setting sound valid limit one point h in
    let second : ArePlayed setting other (beginning_of setting) same = reached-played setting sound valid limit other same k in
    let told : SameChoices first.choices second.choices = lines-tell-choices setting first.choices second.choices point.state same.state first.plays second.plays alike.lines in
    let one_long = first.long in
    let other_long = second.long in
    let spent : spent_letters point.spent ≡ spent_letters same.spent = ap spent_letters alike.spent in
    let parent : length (delivers_of sides.Parent first.choices) ≡ length (delivers_of sides.Parent second.choices) = ap length (told sides.Parent) in
    let child : length (delivers_of sides.Child first.choices) ≡ length (delivers_of sides.Child second.choices) = ap length (told sides.Child) in
    let one_counted = counted first.choices in
    let other_counted = counted second.choices in
    omega (arith, one_long, other_long, spent, parent, child, one_counted, other_counted)
