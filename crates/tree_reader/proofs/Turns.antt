-- How the machine goes over forms.
use Rattle.std.proofs.Common.{◌≡◌, ℕ, ◌+◌, ◌<◌, List, [], ◌∷◌, ◌++◌, length, Option, Some, None, Result, Ok, Err, IfErr, IsErrAnd, refl, sym, ap, subst, ◌∙◌, arith, append_assoc}
use Rattle.ipdl_base.specs.declared.token.Token.{Token}
use Rattle.ipdl_base.specs.declared.finding.Place.{Place}
use Rattle.tree_reader.specs.declared.refusal.TreeRefusal.{TreeRefusal}
use Rattle.tree_reader.specs.declared.refusal.TreeRefusal.TheVariants.{Left, NoMemory}
use Rattle.tree_reader.specs.declared.symbol.Symbol.{Symbol}
use Rattle.tree_reader.specs.Symbols.{symbol, first_symbol}
use Rattle.tree_reader.specs.Machine.{Form, following, production, gone_in, refusal}
use Rattle.tree_reader.specs.Reading.{Turns, Stops, IsNext, IsNextAt}
use Rattle.tree_reader.specs.Spelling.{spelled}
use Rattle.tree_reader.proofs.Symbols.{means}

-- a token with a symbol is spelled so
pub is_spelled : (s : Symbol) (from to : List Token) → IsNext s from to → spelled s from to
is_spelled s from to (t, here, is) = (t, here, means t s is)

-- the first symbol is that of the next token
pub first_of : (s : Symbol) (from to : List Token) → IsNext s from to → first_symbol from ≡ s
first_of s from to (t, here, is) = ap (λ (x : List Token). first_symbol x) here ∙ is

pub fewer_of : (s : Symbol) (from to : List Token) → IsNext s from to → length to < length from
fewer_of s from to (t, here, is) = omega (arith, ap (λ (x : List Token). length x) here)

-- a form turns into what it becomes after the next token
pub turn : (f : Form) (s : Symbol) (new : List Form) (from to : List Token) → IsNext s from to → production f s ≡ Some new → Turns (f ∷ []) from new to
unfolding refusal
turn f s new from to (t, here, is) p = λ more at.
    ap (λ (x : List Token). refusal (f ∷ more) at x) here
    ∙ ap (λ (o : Option (List Form)). gone_in o (length to + 1) (λ y. refusal (y ++ more) at to)) (ap (λ (x : Symbol). production f x) is ∙ p)

-- a form is refused if it has no step for the next token
refused_there : (f : Form) (from : List Token) → production f (first_symbol from) ≡ None → Stops (f ∷ []) from (Left (length from))
unfolding refusal
refused_there f [] p = λ more at. refl
refused_there f (t ∷ rest) p = λ more at. ap (λ (o : Option (List Form)). gone_in o (length rest + 1) (λ y. refusal (y ++ more) at rest)) p ∙ ap (λ (n : ℕ). Some n) (omega arith)

pub refused : (f : Form) (from : List Token) (e : TreeRefusal) → production f (first_symbol from) ≡ None → e ≡ Left (length from) → Stops (f ∷ []) from e
refused f from e p is = let P : TreeRefusal → Type 0 = λ x. Stops (f ∷ []) from x in subst P (sym is) (refused_there f from p)

-- two forms with the same production at the next token
pub same_turn : (f g : Form) (from : List Token) → production f (first_symbol from) ≡ production g (first_symbol from) → Turns (f ∷ []) from (g ∷ []) from
unfolding refusal
same_turn f g [] p = λ more at. refl
same_turn f g (t ∷ rest) p = λ more at. ap (λ (o : Option (List Form)). gone_in o (length rest + 1) (λ y. refusal (y ++ more) at rest)) p

-- one turn after another
pub turns : (fs gs hs : List Form) (a b c : List Token) → Turns fs a gs b → Turns gs b hs c → Turns fs a hs c
turns fs gs hs a b c one two = λ more at. one more at ∙ two more at

-- a turn before other forms
pub turn_before : (fs gs others : List Form) (a b : List Token) → Turns fs a gs b → Turns (fs ++ others) a (gs ++ others) b
turn_before fs gs others a b one = λ more at.
    ap (λ (x : List Form). refusal x at a) (append_assoc fs others more) ∙ one (others ++ more) at ∙ sym (ap (λ (x : List Form). refusal x at b) (append_assoc gs others more))

-- a refusal after a turn
pub stops_after : (fs gs : List Form) (a b : List Token) (e : TreeRefusal) → Turns fs a gs b → Stops gs b e → Stops fs a e
stops_after fs gs a b (Left n) one two = λ more at. one more at ∙ two more at
stops_after fs gs a b NoMemory one two = tt

-- a refusal before other forms
pub stops_before : (fs others : List Form) (a : List Token) (e : TreeRefusal) → Stops fs a e → Stops (fs ++ others) a e
stops_before fs others a (Left n) one = λ more at. ap (λ (x : List Form). refusal x at a) (append_assoc fs others more) ∙ one (others ++ more) at
stops_before fs others a NoMemory one = tt

-- a form read to its end, and what follows it
pub past : (f : Form) (others : List Form) (a b : List Token) → Turns (f ∷ []) a [] b → Turns (f ∷ others) a others b
past f others a b one = λ more at. one (others ++ more) at

-- a property of the error that a `?` hands on
pub thrown : {T : Type 0} (r : Result T TreeRefusal) (e : TreeRefusal) (P : TreeRefusal → Type 0) → IsErrAnd r (λ x. x ≡ e) → P e → IfErr r P
thrown (Ok x) e P is holds = tt
thrown (Err x) e P is holds = subst P (sym is) holds

-- a refusal that a `?` hands on
pub stops_on : {T : Type 0} (r : Result T TreeRefusal) (e : TreeRefusal) (fs : List Form) (from : List Token) → IsErrAnd r (λ x. x ≡ e) → Stops fs from e → IfErr r (Stops fs from)
stops_on r e fs from is holds = thrown r e (λ x. Stops fs from x) is holds

-- what a form becomes, with others after it, behaves as the same before them
after_step : (o : Option (List Form)) (others more : List Form) (n : ℕ) (go : List Form → Option ℕ) → gone_in (following o others) n (λ y. go (y ++ more)) ≡ gone_in o n (λ y. go (y ++ (others ++ more)))
after_step None others more n go = refl
after_step (Some new) others more n go = ap go (append_assoc new others more)

-- a form that at the next token is the same as another form with others after it
pub split_turn : (f g : Form) (others : List Form) (from : List Token) → production f (first_symbol from) ≡ following (production g (first_symbol from)) others → Turns (f ∷ []) from (g ∷ others) from
unfolding refusal
split_turn f g others [] p = λ more at. refl
split_turn f g others (t ∷ rest) p = λ more at.
    ap (λ (o : Option (List Form)). gone_in o (length rest + 1) (λ y. refusal (y ++ more) at rest)) p
    ∙ after_step (production g (symbol t)) others more (length rest + 1) (λ y. refusal y at rest)

-- a form read to its end, and a turn of those after it
pub past_turn : (f : Form) (others new : List Form) (a b c : List Token) → Turns (f ∷ []) a [] b → Turns others b new c → Turns (f ∷ others) a new c
past_turn f others new a b c one two = turns (f ∷ others) others new a b c (past f others a b one) two

-- a form read to its end, and a refusal of those after it
pub past_stops : (f : Form) (others : List Form) (a b : List Token) (e : TreeRefusal) → Turns (f ∷ []) a [] b → Stops others b e → Stops (f ∷ others) a e
past_stops f others a b e one two = stops_after (f ∷ others) others a b e (past f others a b one) two

-- the next token, where its symbol is known
pub next_of : (s : Symbol) (place : Place) (from to : List Token) → first_symbol from ≡ s → IsNextAt (first_symbol from) place from to → IsNext s from to
next_of s place from to e (t, here, (is, at)) = (t, here, is ∙ e)
