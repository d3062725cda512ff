use Rattle.std.proofs.Common.{rules, ◌≡◌, ◌≢◌, List, [], ◌∷◌, length, sym, subst}
use Rattle.ipdl_base.specs.declared.token.Token.{Token}
use Rattle.ipdl_base.specs.declared.token.TokenKind.TheVariants.{Mark}
use Rattle.tree_reader.specs.Machine.{any_word}
use Rattle.tree_reader.specs.Reading.{Turns}
use Rattle.tree_reader.proofs.Tokens.{word_taken, mark_refused, end_refused}
use Rattle.tree_reader.proofs.reader.TokenReader.any_word.Goals as goal

pub returns-then-eq-clause-stops : goal.returns-then-eq-clause-stops
returns-then-eq-clause-stops c =
    let here : c.args.self.now ≡ c.in-Some.first.now ∷ c.in-Some.rest.now = search rules in
    let is : c.in-Some.first.now.kind ≡ Mark = search rules in
    mark_refused c.args.self.now c.in-Some.first.now c.in-Some.rest.now c.refusal.result here is c.refusal.ensures

pub returns-in_ok-name-in-Some-clause-turns : goal.returns-in_ok-name-in-Some-clause-turns
returns-in_ok-name-in-Some-clause-turns c =
    let here : c.args.self.now ≡ c.in-Some.first.now ∷ c.in-Some.rest.now = search rules in
    let is : c.in-Some.first.now.kind ≢ Mark = search rules in
    let following : c.self-in-Some.inside.rest.now ≡ c.in-Some.rest.now = search rules in
    let P : List Token → Type 0 = λ to. Turns (any_word ∷ []) c.args.self.now [] to in
    subst P (sym following) (word_taken c.args.self.now c.in-Some.first.now c.in-Some.rest.now here is)

pub returns-in-None-clause-stops : goal.returns-in-None-clause-stops
returns-in-None-clause-stops c =
    let none : length c.args.self.now ≡ 0 = search rules in
    end_refused c.args.self.now c.refusal-in-None.result none c.refusal-in-None.ensures
