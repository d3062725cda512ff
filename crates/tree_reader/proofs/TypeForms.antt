-- How types are composed, and how the machine goes over them.
use Rattle.std.proofs.Common.{◌≡◌, ◌≢◌, ℕ, ◌-◌, ◌≤◌, ◌<◌, Bool, true, false, List, [], ◌∷◌, ◌++◌, length, Some, None, Result, IfErr, IsErrAnd, codes, refl, sym, subst, ◌∙◌, arith}
use Rattle.std.proofs.lemmas.Bool.{lt-ltb}
use Rattle.std.proofs.lemmas.List.{append-nil}
use Rattle.ipdl_base.specs.declared.finding.Place.{Place}
use Rattle.ipdl_base.specs.declared.token.Token.{Token}
use Rattle.ipdl_syntax.specs.declared.tree.Suffix.{Suffix}
use Rattle.ipdl_syntax.specs.declared.tree.Suffix.TheVariants.{Array, Maybe}
use Rattle.ipdl_syntax.specs.declared.tree.TypeSpec.{TypeSpec}
use Rattle.ipdl_syntax.specs.Parts.{Part, ◌⨾◌, mark, reserved, at, provided}
use Rattle.ipdl_syntax.specs.Grammar.{suffixes, base, nullable_word, type_round}
use Rattle.tree_reader.specs.declared.refusal.TreeRefusal.{TreeRefusal}
use Rattle.tree_reader.specs.declared.refusal.TreeRefusal.TheVariants.{Left}
use Rattle.tree_reader.specs.declared.symbol.Symbol.{Symbol}
use Rattle.tree_reader.specs.declared.symbol.Symbol.TheVariants.{Word, Colons, OpenBracket, CloseBracket, Less, Greater, Semicolon, Question, Nullable, UniquePtr}
use Rattle.tree_reader.specs.Ending.{Ending}
use Rattle.tree_reader.specs.Ending as ending
use Rattle.tree_reader.specs.Spelling.{spelled}
use Rattle.tree_reader.specs.Symbols.{first_symbol}
use Rattle.tree_reader.specs.Machine.{Form, following as before_others, provided_that, take, suffixed, named, based, typed, production}
use Rattle.tree_reader.specs.Reading.{Turns, Stops, IsNext, IsNextAt, last, MaySuffix, IsNaming, MayHaveArgument}
use Rattle.tree_reader.proofs.Turns.{is_spelled, turn, refused, same_turn, split_turn, turns, turn_before, past, stops_after, stops_before, thrown}

-- the next token where nothing was taken before it
pub next_from : (s : Symbol) (start from to : List Token) → from ≡ start → IsNext s from to → IsNext s start to
next_from s start from to same (t, here, is) = (t, sym same ∙ here, is)

-- Suffixes

-- forms under a condition that holds
provided_true : (b : Bool) (forms : List Form) → b ≡ true → provided_that b forms ≡ Some forms
provided_true true forms is = refl
provided_true false forms is = absurd (cc)

-- a question mark, if there is room for a suffix
question_table : (n : ℕ) (e : Ending) → 0 < n → production (suffixed n e) Question ≡ Some (suffixed (n - 1) e ∷ [])
unfolding production
question_table n e room = provided_true _ (suffixed (n - 1) e ∷ []) (lt-ltb 0 n room)

-- a bracket, if there is room for a suffix
bracket_table : (n : ℕ) (e : Ending) → 0 < n → production (suffixed n e) OpenBracket ≡ Some (take CloseBracket ∷ suffixed (n - 1) e ∷ [])
unfolding production
bracket_table n e room = provided_true _ (take CloseBracket ∷ suffixed (n - 1) e ∷ []) (lt-ltb 0 n room)

-- a question mark is a suffix
pub question_read : (from to : List Token) → IsNext Question from to → MaySuffix (Some Maybe) from to
question_read from to here = (is_spelled Question from to here, λ n e room. turn (suffixed n e) Question (suffixed (n - 1) e ∷ []) from to here (question_table n e room))

-- a bracket leads on to the closing one
bracket_turn : (n : ℕ) (e : Ending) (from following : List Token) → 0 < n → IsNext OpenBracket from following → Turns (suffixed n e ∷ []) from (take CloseBracket ∷ suffixed (n - 1) e ∷ []) following
bracket_turn n e from following room here = turn (suffixed n e) OpenBracket (take CloseBracket ∷ suffixed (n - 1) e ∷ []) from following here (bracket_table n e room)

-- two brackets are a suffix
pub array_read : (from following to : List Token) → IsNext OpenBracket from following → spelled CloseBracket following to → Turns (take CloseBracket ∷ []) following [] to → MaySuffix (Some Array) from to
array_read from following to here read close = (
  (following, is_spelled OpenBracket from following here, read),
  λ n e room. turns (suffixed n e ∷ []) (take CloseBracket ∷ suffixed (n - 1) e ∷ []) (suffixed (n - 1) e ∷ []) from following to
      (bracket_turn n e from following room here)
      (past (take CloseBracket) (suffixed (n - 1) e ∷ []) following to close),
)

-- no closing bracket
pub array_stops : {T : Type 0} (r : Result T TreeRefusal) (x : TreeRefusal) (from following : List Token) → IsErrAnd r (λ y. y ≡ x) → IsNext OpenBracket from following → Stops (take CloseBracket ∷ []) following x → IfErr r (λ y. (n : ℕ) (e : Ending) → 0 < n → Stops (suffixed n e ∷ []) from y)
array_stops r x from following is_err here close =
    thrown r x (λ y. (n : ℕ) (e : Ending) → 0 < n → Stops (suffixed n e ∷ []) from y) is_err
    (λ n e room. stops_after (suffixed n e ∷ []) (take CloseBracket ∷ suffixed (n - 1) e ∷ []) from following x
    (bracket_turn n e from following room here)
    (stops_before (take CloseBracket ∷ []) (suffixed (n - 1) e ∷ []) following x close))

-- whatever follows from here makes suffixes together with those so far
abbrev pub SuffixesGoOn : List Suffix → List Token → List Token → Type 0
SuffixesGoOn so_far start from = (more : List Suffix) (to : List Token) → suffixes more from to → suffixes (so_far ++ more) start to

-- the machine has room for this number of further suffixes
abbrev pub HasRoom : ℕ → List Token → List Token → Type 0
HasRoom n start from = (e : Ending) → Turns (suffixed 4 e ∷ []) start (suffixed n e ∷ []) from

-- no more suffixes
pub suffixes_read : (all old : List Suffix) (start from to : List Token) → all ≡ old → from ≡ to → SuffixesGoOn old start from → suffixes all start to
suffixes_read all old start from to is same before = rw (is, ← append-nil old) (before [] to same)

-- where no suffix begins, the type must end
ends_table : (n : ℕ) (e : Ending) (s : Symbol) → s ≢ OpenBracket → s ≢ Question → production (suffixed n e) s ≡ production (take (last e)) s
unfolding production
ends_table n e OpenBracket b q = absurd (b refl)
ends_table n e Question b q = absurd (q refl)
ends_table n ending.Name Word b q = refl
ends_table n ending.Semicolon Semicolon b q = refl
ends_table n ending.Greater Greater b q = refl
ends_table n ending.Name _ b q = refl
ends_table n ending.Semicolon _ b q = refl
ends_table n ending.Greater _ b q = refl

-- if there is no room, the type must end too
full_table : (e : Ending) (s : Symbol) → production (suffixed 0 e) s ≡ production (take (last e)) s
unfolding production
full_table ending.Name Word = refl
full_table ending.Semicolon Semicolon = refl
full_table ending.Greater Greater = refl
full_table ending.Name _ = refl
full_table ending.Semicolon _ = refl
full_table ending.Greater _ = refl

-- the machine is before what ends the type
abbrev pub AtEnd : List Token → List Token → Type 0
AtEnd start from = (e : Ending) → Turns (suffixed 4 e ∷ []) start (take (last e) ∷ []) from

-- the end if there is no suffix
pub ended_turns : (n : ℕ) (start from to : List Token) → MaySuffix None from to → HasRoom n start from → AtEnd start to
ended_turns n start from to found before = λ e.
    rw (← found.0) (turns (suffixed 4 e ∷ []) (suffixed n e ∷ []) (take (last e) ∷ []) start from from (before e)
    (same_turn (suffixed n e) (take (last e)) from (ends_table n e (first_symbol from) found.1 found.2)))

-- the end if there are four suffixes
pub full_turns : (n : ℕ) (start from : List Token) → n ≡ 0 → HasRoom n start from → AtEnd start from
full_turns n start from full before = λ e.
    turns (suffixed 4 e ∷ []) (suffixed n e ∷ []) (take (last e) ∷ []) start from from (before e)
    (same_turn (suffixed n e) (take (last e)) from (rw full (full_table e (first_symbol from))))

-- a refusal in a suffix
pub suffix_stops : {T : Type 0} (r : Result T TreeRefusal) (x : TreeRefusal) (n : ℕ) (start from : List Token) → IsErrAnd r (λ y. y ≡ x) → n < 4 → HasRoom (4 - n) start from → ((n : ℕ) (e : Ending) → 0 < n → Stops (suffixed n e ∷ []) from x) → IfErr r (λ y. (e : Ending) → Stops (suffixed 4 e ∷ []) start y)
suffix_stops r x n start from is_err room before stop =
    thrown r x (λ y. (e : Ending) → Stops (suffixed 4 e ∷ []) start y) is_err
    (λ e. stops_after (suffixed 4 e ∷ []) (suffixed (4 - n) e ∷ []) start from x (before e) (stop (4 - n) e (omega arith)))

-- Bases

-- a type after a word of its name continues with the name
type_naming : (e : Ending) → IsNaming (named e)
unfolding production
type_naming e = refl

-- without `::` and `<` a name continues as its suffixes do
unargued : (e : Ending) (s : Symbol) → s ≢ Colons → s ≢ Less → production (named e) s ≡ production (suffixed 4 e) s
unfolding production
unargued e Colons c l = absurd (c refl)
unargued e Less c l = absurd (l refl)
unargued e _ c l = refl

-- an argument may come before the suffixes
type_argument : (e : Ending) → MayHaveArgument (named e) (suffixed 4 e ∷ [])
unfolding production
type_argument e = (refl, λ tokens c l. same_turn (named e) (suffixed 4 e) tokens (unargued e (first_symbol tokens) c l))

-- a base that begins with a word is a name
word_table : (room : ℕ) (e : Ending) (s : Symbol) → s ≡ Word → production (based room e) s ≡ before_others (production (take Word) s) (named e ∷ [])
unfolding production
word_table room e s is = subst (λ (x : Symbol). production (based room e) x ≡ before_others (production (take Word) x) (named e ∷ [])) (sym is) refl

-- such a base turns into its first word and what follows it
word_turn : (room : ℕ) (e : Ending) (from : List Token) → first_symbol from ≡ Word → Turns (based room e ∷ []) from (take Word ∷ named e ∷ []) from
word_turn room e from is = split_turn (based room e) (take Word) (named e ∷ []) from (word_table room e (first_symbol from) is)

-- the machine goes over a name to the suffixes
pub named_turns : (room : ℕ) (from to : List Token) → first_symbol from ≡ Word → ((f : Form) (others : List Form) → IsNaming f → MayHaveArgument f others → Turns (take Word ∷ f ∷ []) from others to) → (e : Ending) → Turns (based room e ∷ []) from (suffixed 4 e ∷ []) to
named_turns room from to is name e =
    turns (based room e ∷ []) (take Word ∷ named e ∷ []) (suffixed 4 e ∷ []) from from to (word_turn room e from is)
    (name (named e) (suffixed 4 e ∷ []) (type_naming e) (type_argument e))

-- The refusals of a base, for every end of the type
abbrev pub BaseStops : ℕ → List Token → TreeRefusal → Type 0
BaseStops room from x = (e : Ending) → Stops (based room e ∷ []) from x

-- a refusal of a type that a `?` carries over
pub base_stops_on : {T : Type 0} (r : Result T TreeRefusal) (x : TreeRefusal) (room : ℕ) (from : List Token) → IsErrAnd r (λ y. y ≡ x) → BaseStops room from x → IfErr r (λ y. (e : Ending) → Stops (based room e ∷ []) from y)
base_stops_on r x room from is_err stop = thrown r x (λ y. (e : Ending) → Stops (based room e ∷ []) from y) is_err stop

-- the machine refuses where the name is refused
pub unnamed_stops : (room : ℕ) (from : List Token) (x : TreeRefusal) → first_symbol from ≡ Word → ((f : Form) (others : List Form) → IsNaming f → MayHaveArgument f others → Stops (take Word ∷ f ∷ []) from x) → BaseStops room from x
unnamed_stops room from x is name e =
    stops_after (based room e ∷ []) (take Word ∷ named e ∷ []) from from x (word_turn room e from is)
    (name (named e) (suffixed 4 e ∷ []) (type_naming e) (type_argument e))

-- what is still to come after `UniquePtr`
abbrev wrapped : ℕ → Ending → List Form
wrapped room e = take Less ∷ typed (room - 1) ending.Greater ∷ suffixed 4 e ∷ []

-- `UniquePtr`, if there is room for it
unique_table : (room : ℕ) (e : Ending) → 0 < room → production (based room e) UniquePtr ≡ Some (wrapped room e)
unfolding production
unique_table room e some = provided_true _ (wrapped room e) (lt-ltb 0 room some)

-- a `UniquePtr` that there is room for, at its place
pub record IsUnique (room : ℕ) (place : Place) (from to : List Token) : Type 0 where
  pub some : 0 < room
  pub here : IsNextAt UniquePtr place from to

-- the next token is `UniquePtr`
pub is_unique : (room : ℕ) (place : Place) (from to : List Token) → 0 < room → UniquePtr ≡ first_symbol from → IsNextAt (first_symbol from) place from to → IsUnique room place from to
is_unique room place from to some same (t, is, (alike, there)) = record { some = some; here = (t, is, (alike ∙ sym same, there)) }

-- the token without its place
unique_next : (place : Place) (from to : List Token) → IsNextAt UniquePtr place from to → IsNext UniquePtr from to
unique_next place from to (t, is, (same, there)) = (t, is, same)

-- `UniquePtr` leads on to its `<`
unique_turn : (room : ℕ) (place : Place) (e : Ending) (from a : List Token) → IsUnique room place from a → Turns (based room e ∷ []) from (wrapped room e) a
unique_turn room place e from a u = turn (based room e) UniquePtr (wrapped room e) from a (unique_next place from a u.here) (unique_table room e u.some)

-- after the `<` a type must come
less_turn : (room : ℕ) (place : Place) (e : Ending) (from a b : List Token) → IsUnique room place from a → Turns (take Less ∷ []) a [] b → Turns (based room e ∷ []) from (typed (room - 1) ending.Greater ∷ suffixed 4 e ∷ []) b
less_turn room place e from a b u less =
    turns (based room e ∷ []) (wrapped room e) (typed (room - 1) ending.Greater ∷ suffixed 4 e ∷ []) from a b (unique_turn room place e from a u)
    (past (take Less) (typed (room - 1) ending.Greater ∷ suffixed 4 e ∷ []) a b less)

-- a type inside, and then its `>` must come
abbrev pub TypeTurns : ℕ → List Token → List Token → Type 0
TypeTurns room from to = (e : Ending) → Turns (typed room e ∷ []) from (take (last e) ∷ []) to

-- after the type inside a `>` must come
inner_turn : (room : ℕ) (place : Place) (e : Ending) (from a b c : List Token) → IsUnique room place from a → Turns (take Less ∷ []) a [] b → TypeTurns (room - 1) b c → Turns (based room e ∷ []) from (take Greater ∷ suffixed 4 e ∷ []) c
inner_turn room place e from a b c u less inner =
    turns (based room e ∷ []) (typed (room - 1) ending.Greater ∷ suffixed 4 e ∷ []) (take Greater ∷ suffixed 4 e ∷ []) from b c (less_turn room place e from a b u less)
    (turn_before (typed (room - 1) ending.Greater ∷ []) (take Greater ∷ []) (suffixed 4 e ∷ []) b c (inner ending.Greater))

-- the machine goes over all of it to the suffixes
pub unique_turns : (room : ℕ) (place : Place) (from a b c d : List Token) → IsUnique room place from a → Turns (take Less ∷ []) a [] b → TypeTurns (room - 1) b c → Turns (take Greater ∷ []) c [] d → (e : Ending) → Turns (based room e ∷ []) from (suffixed 4 e ∷ []) d
unique_turns room place from a b c d u less inner greater e =
    turns (based room e ∷ []) (take Greater ∷ suffixed 4 e ∷ []) (suffixed 4 e ∷ []) from c d (inner_turn room place e from a b c u less inner)
    (past (take Greater) (suffixed 4 e ∷ []) c d greater)

-- no `<`
pub less_stops : (room : ℕ) (place : Place) (from a : List Token) (x : TreeRefusal) → IsUnique room place from a → Stops (take Less ∷ []) a x → BaseStops room from x
less_stops room place from a x u less e =
    stops_after (based room e ∷ []) (wrapped room e) from a x (unique_turn room place e from a u)
    (stops_before (take Less ∷ []) (typed (room - 1) ending.Greater ∷ suffixed 4 e ∷ []) a x less)

-- no type after the `<`
pub inner_stops : (room : ℕ) (place : Place) (from a b : List Token) (x : TreeRefusal) → IsUnique room place from a → Turns (take Less ∷ []) a [] b → ((e : Ending) → Stops (typed (room - 1) e ∷ []) b x) → BaseStops room from x
inner_stops room place from a b x u less inner e =
    stops_after (based room e ∷ []) (typed (room - 1) ending.Greater ∷ suffixed 4 e ∷ []) from b x (less_turn room place e from a b u less)
    (stops_before (typed (room - 1) ending.Greater ∷ []) (suffixed 4 e ∷ []) b x (inner ending.Greater))

-- no `>` after the type
pub greater_stops : (room : ℕ) (place : Place) (from a b c : List Token) (x : TreeRefusal) → IsUnique room place from a → Turns (take Less ∷ []) a [] b → TypeTurns (room - 1) b c → Stops (take Greater ∷ []) c x → BaseStops room from x
greater_stops room place from a b c x u less inner greater e =
    stops_after (based room e ∷ []) (take Greater ∷ suffixed 4 e ∷ []) from c x (inner_turn room place e from a b c u less inner)
    (stops_before (take Greater ∷ []) (suffixed 4 e ∷ []) c x greater)

-- no base begins with any other symbol
other_table : (room : ℕ) (e : Ending) (s : Symbol) → s ≢ Word → s ≢ UniquePtr → production (based room e) s ≡ None
unfolding production
other_table room e Word w u = absurd (w refl)
other_table room e UniquePtr w u = absurd (u refl)
other_table room e _ w u = refl

-- nor with `UniquePtr` if there is no room
no_room_table : (e : Ending) → production (based 0 e) UniquePtr ≡ None
unfolding production
no_room_table e = refl

-- the refusal of any other symbol
pub other_stops : (room : ℕ) (from : List Token) (x : TreeRefusal) → first_symbol from ≢ Word → first_symbol from ≢ UniquePtr → x ≡ Left (length from) → BaseStops room from x
other_stops room from x w u is e = refused (based room e) from x (other_table room e (first_symbol from) w u) is

-- the refusal of one `UniquePtr` too many
pub no_room_stops : (room : ℕ) (from : List Token) (x : TreeRefusal) → room ≡ 0 → first_symbol from ≡ UniquePtr → x ≡ Left (length from) → BaseStops room from x
no_room_stops room from x none same is e = refused (based room e) from x (rw (none, same) (no_room_table e)) is

-- `UniquePtr` of a type, which is in a box
pub unique_read : (room : ℕ) (place : Place) (boxed inner : TypeSpec) (from a b c d : List Token) → IsUnique room place from a → boxed ≡ inner → spelled Less a b → type_round inner.nullable (base (room - 1) inner.base) inner.suffixes inner.place b c → spelled Greater c d → at place (provided (0 < room) (reserved (codes "UniquePtr") ⨾ mark (codes "<") ⨾ type_round boxed.nullable (base (room - 1) boxed.base) boxed.suffixes boxed.place ⨾ mark (codes ">"))) from d
unique_read room place boxed inner from a b c d u same less read greater =
    let there = u.here in
    let within = subst (λ (x : TypeSpec). type_round x.nullable (base (room - 1) x.base) x.suffixes x.place b c) (sym same) read in
    (there.0, a, there.1, there.2.1, (u.some, (a, is_spelled UniquePtr from a (unique_next place from a u.here), (b, less, (c, within, greater)))))

-- Types

-- Perhaps `nullable` was passed.
pub record MayPass (is : Bool) (from to : List Token) : Type 0 where
  pub passed : is ≡ true → IsNext Nullable from to
  pub kept : is ≡ false → (first_symbol from ≢ Nullable) × (to ≡ from)

-- it is what the grammar defines
nullable_read : (is : Bool) (from to : List Token) → MayPass is from to → nullable_word is from to
nullable_read true from to p = is_spelled Nullable from to (p.passed refl)
nullable_read false from to p = sym (p.kept refl).1

-- `nullable` leads on to a base
nullable_table : (room : ℕ) (e : Ending) → production (typed room e) Nullable ≡ Some (based room e ∷ [])
unfolding production
nullable_table room e = refl

-- without it a type begins as its base
bare_table : (room : ℕ) (e : Ending) (s : Symbol) → s ≢ Nullable → production (typed room e) s ≡ production (based room e) s
unfolding production
bare_table room e Nullable n = absurd (n refl)
bare_table room e _ n = refl

-- either way a base must come
nullable_turn : (is : Bool) (room : ℕ) (e : Ending) (from to : List Token) → MayPass is from to → Turns (typed room e ∷ []) from (based room e ∷ []) to
nullable_turn true room e from to p = turn (typed room e) Nullable (based room e ∷ []) from to (p.passed refl) (nullable_table room e)
nullable_turn false room e from to p = rw (p.kept refl).1 (same_turn (typed room e) (based room e) from (bare_table room e (first_symbol from) (p.kept refl).0))

-- a base after it, and its suffixes
abbrev pub BaseTurns : ℕ → List Token → List Token → Type 0
BaseTurns room from to = (e : Ending) → Turns (based room e ∷ []) from (suffixed 4 e ∷ []) to

-- after the base suffixes must come
base_turn : (is : Bool) (room : ℕ) (e : Ending) (from a b : List Token) → MayPass is from a → BaseTurns room a b → Turns (typed room e ∷ []) from (suffixed 4 e ∷ []) b
base_turn is room e from a b p base = turns (typed room e ∷ []) (based room e ∷ []) (suffixed 4 e ∷ []) from a b (nullable_turn is room e from a p) (base e)

-- the machine goes over a type
pub type_turns : (is : Bool) (room : ℕ) (from a b c : List Token) → MayPass is from a → BaseTurns room a b → AtEnd b c → TypeTurns room from c
type_turns is room from a b c p base after e =
    turns (typed room e ∷ []) (suffixed 4 e ∷ []) (take (last e) ∷ []) from b c (base_turn is room e from a b p base) (after e)

-- no base
pub no_base_stops : {T : Type 0} (r : Result T TreeRefusal) (x : TreeRefusal) (is : Bool) (room : ℕ) (from a : List Token) → IsErrAnd r (λ y. y ≡ x) → MayPass is from a → BaseStops room a x → IfErr r (λ y. (e : Ending) → Stops (typed room e ∷ []) from y)
no_base_stops r x is room from a is_err p base =
    thrown r x (λ y. (e : Ending) → Stops (typed room e ∷ []) from y) is_err
    (λ e. stops_after (typed room e ∷ []) (based room e ∷ []) from a x (nullable_turn is room e from a p) (base e))

-- a refusal in the suffixes
pub no_suffixes_stops : {T : Type 0} (r : Result T TreeRefusal) (x : TreeRefusal) (is : Bool) (room : ℕ) (from a b : List Token) → IsErrAnd r (λ y. y ≡ x) → MayPass is from a → BaseTurns room a b → ((e : Ending) → Stops (suffixed 4 e ∷ []) b x) → IfErr r (λ y. (e : Ending) → Stops (typed room e ∷ []) from y)
no_suffixes_stops r x is room from a b is_err p base after =
    thrown r x (λ y. (e : Ending) → Stops (typed room e ∷ []) from y) is_err
    (λ e. stops_after (typed room e ∷ []) (suffixed 4 e ∷ []) from b x (base_turn is room e from a b p base) (after e))

-- a type from its parts
pub type_read : (is : Bool) (inside : Part) (after : List Suffix) (place : Place) (from a b c : List Token) → MayPass is from a → at place inside a b → length after ≤ 4 → suffixes after b c → type_round is inside after place from c
type_read is inside after place from a b c p base few rest = (few, (a, nullable_read is from a p, (b, base, rest)))
