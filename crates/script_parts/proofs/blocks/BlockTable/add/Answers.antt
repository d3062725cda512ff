use Rattle.std.proofs.Common.{◌∙◌, ◌++◌, ◌∷◌, [], List, ℕ, Some, nat_eq, cond, refl, sym, ap, subst}
use Rattle.script_parts.specs.Tables.{IsTableOf, listed_in}
use Rattle.script_parts.proofs.TableLemmas.{no-block, first-main, later-main, one-handler}
use Rattle.script_parts.proofs.blocks.BlockTable.add.Goals as goal

pub returns-then-not-is_of : goal.returns-then-not-is_of
returns-then-not-is_of c = λ blocks long is. no-block c.args.side blocks c.args.block.now c.args.self.now (sym c.is_of.ensures ∙ c.if-not-is_of.true) is

pub returns-in-None-main : goal.returns-in-None-main
returns-in-None-main c = λ blocks long is.
    subst (λ (index : ℕ). IsTableOf (blocks ++ c.args.block.now ∷ []) c.args.side [] (record c.args.self.now { main = Some index })) long
    (first-main c.args.side blocks c.args.block.now c.args.self.now (sym c.is_of.ensures ∙ c.if-not-is_of.false) c.in-None.is c.in-None-main.is is)

pub returns-in_default : goal.returns-in_default
returns-in_default c = λ blocks long is.
    later-main c.args.side blocks c.args.block.now c.args.self.now (sym c.is_of.ensures ∙ c.if-not-is_of.false) c.in-None.is c.in_default.field-0 c.in_default.is is

pub returns-in_ok-list-in-Some : goal.returns-in_ok-list-in-Some
returns-in_ok-list-in-Some c = λ blocks long is.
    one-handler c.args.side blocks c.args.block.now c.args.self.now _ c.in-Some.number (sym c.is_of.ensures ∙ c.if-not-is_of.false) c.in-Some.is refl
    (λ n. c.in_ok-list-in-Some.ensures.listed n ∙ ap (λ (index : ℕ). listed_in c.args.self.now.messages n ++ cond (nat_eq n c.in-Some.number) (index ∷ []) []) (sym long))
    c.in_ok-list-in-Some.ensures.next is
