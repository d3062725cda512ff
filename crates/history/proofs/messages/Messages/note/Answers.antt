use Rattle.std.proofs.Common.{◌≡◌, ◌∙◌, Some, None, SFits, w32, rules, sym, subst, to_z-of_z, ℤ}
use Rattle.std.specs.Result.{OnOk}
use Rattle.indexmap.proofs.MapLemmas.{OnOk-map}
use Rattle.history.specs.Messages.{given}
use Rattle.history.specs.Noted.{Gives}
use Rattle.history.proofs.Numbers.{knows_given, knows_none}
use Rattle.history.proofs.messages.Messages.note.Goals as goal

pub returns-in-Some : goal.returns-in-Some
returns-in-Some c =
    let some : given c.args.line.now.what ≡ Some (c.in-Some.number, c.in-Some.message) = sym c.given.ensures ∙ c.in-Some.is in
    let fits : SFits w32 c.in-Some.number = search rules in
    let gives : OnOk c.give.result (Gives c.args.self.now c.give.new.self c.args.line.now.side c.in-Some.number c.in-Some.message) =
    subst (λ (n : ℤ). OnOk c.give.result (Gives c.args.self.now c.give.new.self c.args.line.now.side n c.in-Some.message)) (to_z-of_z fits) c.give.ensures in
    OnOk-map c.give.result _ _ (knows_given c.args.self.now c.give.new.self c.args.line.now c.in-Some.number c.in-Some.message some) gives

pub returns-in-None : goal.returns-in-None
returns-in-None c = let none : given c.args.line.now.what ≡ None = sym c.given.ensures ∙ c.in-None.is in knows_none c.args.self.now c.args.line.now none
