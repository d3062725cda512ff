-- How messages are read, and how the machine goes over them.
use Rattle.std.proofs.Common.{◌≡◌, ◌≢◌, true, List, [], ◌∷◌, length, Some, None, refl, ap, subst, ◌∙◌}
use Rattle.ipdl_base.specs.declared.token.Token.{Token}
use Rattle.ipdl_base.specs.declared.kinds.Direction.{Direction}
use Rattle.tree_reader.specs.declared.refusal.TreeRefusal.{TreeRefusal}
use Rattle.tree_reader.specs.declared.refusal.TreeRefusal.TheVariants.{Left}
use Rattle.tree_reader.specs.declared.symbol.Symbol.{Symbol}
use Rattle.tree_reader.specs.declared.symbol.Symbol.TheVariants.{Word, OpenParen, OpenBracket, Semicolon, Async, Sync, Returns}
use Rattle.tree_reader.specs.Symbols.{first_symbol}
use Rattle.tree_reader.specs.Machine.{Form, take, attributed, parameters, after_parameters, one_message, messaged, following, production}
use Rattle.tree_reader.specs.Reading.{Turns, Stops, IsNext, MayBeHeaded, begins_message}
use Rattle.tree_reader.proofs.Turns.{split_turn, turn, refused, same_turn}
use Rattle.tree_reader.proofs.ParamTurns.{moved}

-- Returns

returns_table : production after_parameters Returns ≡ Some (take OpenParen ∷ parameters ∷ take Semicolon ∷ [])
unfolding production
returns_table = refl

no_returns_table : (s : Symbol) → s ≢ Returns → production after_parameters s ≡ production (take Semicolon) s
unfolding production
no_returns_table Returns n = absurd (n refl)
no_returns_table _ n = refl

-- a message with returns
pub returns_turn : (from to : List Token) → IsNext Returns from to → Turns (after_parameters ∷ []) from (take OpenParen ∷ parameters ∷ take Semicolon ∷ []) to
returns_turn from to here = turn after_parameters Returns (take OpenParen ∷ parameters ∷ take Semicolon ∷ []) from to here returns_table

-- a message without returns
pub no_returns_turn : (from middle : List Token) → (first_symbol from ≢ Returns) × (middle ≡ from) → Turns (after_parameters ∷ []) from (take Semicolon ∷ []) middle
no_returns_turn from middle kept =
    moved (after_parameters ∷ []) (take Semicolon ∷ []) from middle kept.1 (same_turn after_parameters (take Semicolon) from (no_returns_table (first_symbol from) kept.0))

-- The semantics of a message

-- what follows that word
abbrev pub after_word : List Form
after_word = take Word ∷ take OpenParen ∷ parameters ∷ after_parameters ∷ []

async_table : production one_message Async ≡ Some after_word
unfolding production
async_table = refl

sync_table : production one_message Sync ≡ Some after_word
unfolding production
sync_table = refl

neither_table : (s : Symbol) → s ≢ Async → s ≢ Sync → production one_message s ≡ None
unfolding production
neither_table Async n m = absurd (n refl)
neither_table Sync n m = absurd (m refl)
neither_table _ n m = refl

pub async_turn : (from to : List Token) → IsNext Async from to → Turns (one_message ∷ []) from after_word to
async_turn from to here = turn one_message Async after_word from to here async_table

pub sync_turn : (from middle to : List Token) → middle ≡ from → IsNext Sync middle to → Turns (one_message ∷ []) from after_word to
sync_turn from middle to same here =
    turn one_message Sync after_word from to (subst (λ (x : List Token). IsNext Sync x to) same here) sync_table

-- a message begins with neither word
pub neither_stops : (from one two : List Token) (e : TreeRefusal) → (first_symbol from ≢ Async) × (one ≡ from) → (first_symbol one ≢ Sync) × (two ≡ one) → e ≡ Left (length two) → Stops (one_message ∷ []) from e
neither_stops from one two e no_async no_sync is =
    refused one_message from e
    (neither_table (first_symbol from) no_async.0 (subst (λ (x : List Token). first_symbol x ≢ Sync) no_async.1 no_sync.0))
    (is ∙ ap (λ (x : List Token). Left (length x)) (no_sync.1 ∙ no_async.1))

-- Attributes before a message

headed_table : (d : Direction) → production (messaged d) OpenBracket ≡ Some (attributed ∷ one_message ∷ messaged d ∷ [])
unfolding production
headed_table d = refl

bare_table : (d : Direction) (s : Symbol) → begins_message s ≡ true → s ≢ OpenBracket → production (messaged d) s ≡ following (production one_message s) (messaged d ∷ [])
unfolding production
bare_table d OpenBracket is n = absurd (n refl)
bare_table d Async is n = refl
bare_table d Sync is n = refl
bare_table d _ is n = absurd (cc)

-- attributes may come before a message
pub headed_message : (d : Direction) (from : List Token) → begins_message (first_symbol from) ≡ true → MayBeHeaded (messaged d) (one_message ∷ messaged d ∷ []) from
headed_message d from is =
    (headed_table d, λ n. split_turn (messaged d) one_message (messaged d ∷ []) from (bare_table d (first_symbol from) is n))

-- What is read
