-- How parameters are read, and how the machine goes over them.
use Rattle.std.proofs.Common.{◌≡◌, ◌≢◌, ◌<◌, List, [], ◌∷◌, ◌++◌, length, Some, Result, refl, sym, subst, arith, append_assoc}
use Rattle.std.specs.Prelude.{codes}
use Rattle.std.specs.Result.{IfErr, IsErrAnd, OnOk}
use Rattle.std.proofs.lemmas.Result.{IfErr-weaker, on_ok_weaker}
use Rattle.std.proofs.lemmas.List.{append-nil}
use Rattle.ipdl_base.specs.declared.token.Token.{Token}
use Rattle.ipdl_syntax.specs.declared.tree.Param.{Param}
use Rattle.ipdl_syntax.specs.Grammar.{param, params, more_params}
use Rattle.ipdl_syntax.specs.Parts.{◌⨾◌, mark}
use Rattle.tree_reader.specs.Ending as ending
use Rattle.tree_reader.specs.declared.refusal.TreeRefusal.{TreeRefusal}
use Rattle.tree_reader.specs.declared.symbol.Symbol.{Symbol}
use Rattle.tree_reader.specs.declared.symbol.Symbol.TheVariants.{OpenBracket, CloseParen, Comma}
use Rattle.tree_reader.specs.Symbols.{first_symbol}
use Rattle.tree_reader.specs.Machine.{Form, take, attributed, typed, one_param, parameters, more_parameters, following, production}
use Rattle.tree_reader.specs.Reading.{Turns, Stops, IsNext, MayBeHeaded}
use Rattle.tree_reader.proofs.Turns.{thrown, split_turn, turn, same_turn, turns, stops_after, stops_before, past, is_spelled, fewer_of}

-- Forms

-- the tokens after a test that took nothing are those before it
pub moved : (forms others : List Form) (from middle : List Token) → middle ≡ from → Turns forms from others from → Turns forms from others middle
moved forms others from middle same one = let P : List Token → Type 0 = λ x. Turns forms from others x in subst P (sym same) one

-- a result after a turn
pub turns_ok : {T : Type 0} (r : Result T TreeRefusal) (fs gs hs : List Form) (a b c : List Token) → Turns fs a gs b → OnOk r (Turns gs b hs c) → OnOk r (Turns fs a hs c)
turns_ok r fs gs hs a b c one = on_ok_weaker r (λ two. turns fs gs hs a b c one two)

-- an error after a turn
pub stops_err : {T : Type 0} (r : Result T TreeRefusal) (fs gs : List Form) (a b : List Token) → Turns fs a gs b → IfErr r (Stops gs b) → IfErr r (Stops fs a)
stops_err r fs gs a b one = IfErr-weaker r (Stops gs b) (Stops fs a) (λ e two. stops_after fs gs a b e one two)

-- an error that was handed on, after a turn
pub thrown_after : {T : Type 0} (r : Result T TreeRefusal) (e : TreeRefusal) (fs gs : List Form) (a b : List Token) → IsErrAnd r (λ x. x ≡ e) → Turns fs a gs b → Stops gs b e → IfErr r (Stops fs a)
thrown_after r e fs gs a b is one two = thrown r e (λ x. Stops fs a x) is (stops_after fs gs a b e one two)

-- the first form read to its end after a turn
pub then_past : (fs : List Form) (f : Form) (others : List Form) (a b c : List Token) → Turns fs a (f ∷ others) b → Turns (f ∷ []) b [] c → Turns fs a others c
then_past fs f others a b c one two = turns fs (f ∷ others) others a b c one (past f others b c two)

-- the first form refused after a turn, by an error that was handed on
pub thrown_then : {T : Type 0} (r : Result T TreeRefusal) (e : TreeRefusal) (fs : List Form) (f : Form) (others : List Form) (a b : List Token) → IsErrAnd r (λ x. x ≡ e) → Turns fs a (f ∷ others) b → Stops (f ∷ []) b e → IfErr r (Stops fs a)
thrown_then r e fs f others a b is one two = thrown_after r e fs (f ∷ others) a b is one (stops_before (f ∷ []) others b e two)

-- the same at the result of a last call
pub past_ok : {T : Type 0} (r : Result T TreeRefusal) (fs : List Form) (f : Form) (others : List Form) (a b c : List Token) → Turns fs a (f ∷ others) b → OnOk r (Turns (f ∷ []) b [] c) → OnOk r (Turns fs a others c)
past_ok r fs f others a b c one = on_ok_weaker r (λ two. then_past fs f others a b c one two)

pub stops_then : {T : Type 0} (r : Result T TreeRefusal) (fs : List Form) (f : Form) (others : List Form) (a b : List Token) → Turns fs a (f ∷ others) b → IfErr r (Stops (f ∷ []) b) → IfErr r (Stops fs a)
stops_then r fs f others a b one = IfErr-weaker r (Stops (f ∷ []) b) (Stops fs a) (λ e two. stops_after fs (f ∷ others) a b e one (stops_before (f ∷ []) others b e two))

-- One parameter

param_table : (s : Symbol) → s ≢ OpenBracket → production one_param s ≡ production (typed 4 ending.Name) s
unfolding production
param_table OpenBracket n = absurd (n refl)
param_table _ n = refl

bracket_table : production one_param OpenBracket ≡ Some (attributed ∷ typed 4 ending.Name ∷ [])
unfolding production
bracket_table = refl

-- attributes may come before a parameter
pub headed_param : (from : List Token) → MayBeHeaded one_param (typed 4 ending.Name ∷ []) from
headed_param from = (bracket_table, λ n. same_turn one_param (typed 4 ending.Name) from (param_table (first_symbol from) n))

-- More parameters

comma_table : production more_parameters Comma ≡ Some (one_param ∷ more_parameters ∷ [])
unfolding production
comma_table = refl

close_table : (s : Symbol) → s ≢ Comma → production more_parameters s ≡ production (take CloseParen) s
unfolding production
close_table Comma n = absurd (n refl)
close_table _ n = refl

-- a comma, and after it a parameter and more of them
pub comma_turn : (from to : List Token) → IsNext Comma from to → Turns (more_parameters ∷ []) from (one_param ∷ more_parameters ∷ []) to
comma_turn from to here = turn more_parameters Comma (one_param ∷ more_parameters ∷ []) from to here comma_table

-- without a comma the parameters end
pub close_turn : (from middle : List Token) → (first_symbol from ≢ Comma) × (middle ≡ from) → Turns (more_parameters ∷ []) from (take CloseParen ∷ []) middle
close_turn from middle kept = moved (more_parameters ∷ []) (take CloseParen ∷ []) from middle kept.1 (same_turn more_parameters (take CloseParen) from (close_table (first_symbol from) kept.0))

-- Any number of parameters

none_table : production parameters CloseParen ≡ Some []
unfolding production
none_table = refl

some_table : (s : Symbol) → s ≢ CloseParen → production parameters s ≡ following (production one_param s) (more_parameters ∷ [])
unfolding production
some_table CloseParen n = absurd (n refl)
some_table _ n = refl

-- no parameters
pub none_turn : (from to : List Token) → IsNext CloseParen from to → Turns (parameters ∷ []) from [] to
none_turn from to here = turn parameters CloseParen [] from to here none_table

-- at least one parameter
pub some_turn : (from middle : List Token) → (first_symbol from ≢ CloseParen) × (middle ≡ from) → Turns (parameters ∷ []) from (one_param ∷ more_parameters ∷ []) middle
some_turn from middle kept = moved (parameters ∷ []) (one_param ∷ more_parameters ∷ []) from middle kept.1 (split_turn parameters one_param (more_parameters ∷ []) from (some_table (first_symbol from) kept.0))

-- What is read

-- the parameters so far, with any that follow from here
abbrev pub GoOn : List Param → List Token → List Token → Type 0
GoOn so_far start from = (more : List Param) (to : List Token) → more_params more from to → params (so_far ++ more) start to

-- one more parameter
pub params_more : (p : Param) (so_far : List Param) (start from following middle : List Token) → mark (codes ",") from following → param p following middle → GoOn so_far start from → GoOn (so_far ++ p ∷ []) start middle
params_more p so_far start from following middle comma one before = λ more to rest. rw append_assoc (before (p ∷ more) to (following, comma, (middle, one, rest)))

-- the parameters, and the mark after them
pub params_all : (all so_far : List Param) (start from middle to : List Token) → all ≡ so_far → GoOn so_far start from → middle ≡ from → mark (codes ")") middle to → (params all ⨾ mark (codes ")")) start to
params_all all so_far start from middle to is before same close =
    let whole : params so_far start from = rw append-nil at (before [] from refl) in
    (middle, subst (λ (x : List Param). params x start middle) (sym is) (subst (λ (x : List Token). params so_far start x) (sym same) whole), close)

-- no parameters, and the mark after them
pub params_none : (all : List Param) (from to : List Token) → all ≡ [] → mark (codes ")") from to → (params all ⨾ mark (codes ")")) from to
params_none all from to is close = (from, subst (λ (x : List Param). params x from from) (sym is) refl, close)

-- The loop

-- the parameters so far are read, and after them more may come
pub record Read (so_far : List Param) (start from : List Token) : Type 0 where
  pub read : GoOn so_far start from
  pub turns : Turns (one_param ∷ more_parameters ∷ []) start (more_parameters ∷ []) from
  pub fewer : length from < length start

-- before one more
pub read_comma : (so_far : List Param) (start from following : List Token) → Read so_far start from → IsNext Comma from following → Turns (one_param ∷ more_parameters ∷ []) start (one_param ∷ more_parameters ∷ []) following
read_comma so_far start from following before comma =
    turns (one_param ∷ more_parameters ∷ []) (more_parameters ∷ []) (one_param ∷ more_parameters ∷ []) start from following before.turns (comma_turn from following comma)

-- after one more
pub read_more : (p : Param) (so_far all : List Param) (start from following to : List Token) → all ≡ so_far ++ p ∷ [] → Read so_far start from → IsNext Comma from following → param p following to → Turns (one_param ∷ []) following [] to → length to < length following → Read all start to
read_more p so_far all start from following to is before comma one turn less = record {
  read = subst (λ (x : List Param). GoOn x start to) (sym is) (params_more p so_far start from following to (is_spelled Comma from following comma) one before.read);
  turns = turns (one_param ∷ more_parameters ∷ []) (one_param ∷ more_parameters ∷ []) (more_parameters ∷ []) start following to
      (read_comma so_far start from following before comma) (past one_param (more_parameters ∷ []) following to turn);
  fewer = let l1 = before.fewer in let l2 = fewer_of Comma from following comma in omega arith;
}

-- before the mark at the end
pub read_close : (so_far : List Param) (start from middle : List Token) → Read so_far start from → (first_symbol from ≢ Comma) × (middle ≡ from) → Turns (one_param ∷ more_parameters ∷ []) start (take CloseParen ∷ []) middle
read_close so_far start from middle before kept =
    turns (one_param ∷ more_parameters ∷ []) (more_parameters ∷ []) (take CloseParen ∷ []) start from middle before.turns (close_turn from middle kept)
