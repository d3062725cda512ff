-- Worked weights, worlds at rest and promises.
use Rattle.std.proofs.Common.{◌≡◌, ℕ, ◌+◌, ◌*◌, ◌≤◌, pos, negsuc, true, false, List, [], ◌∷◌, ◌++◌, map, take, Some, None, codes, refl, arith}
use Rattle.ipdl_base.specs.declared.kinds.Level.TheVariants.{Not}
use Rattle.ipdl_base.specs.declared.kinds.Reason.TheVariants.{ResolverDestroyed}
use Rattle.ipdl_base.specs.declared.kinds.Side.TheVariants as side
use Rattle.ipdl_base.specs.declared.message.Body.TheVariants.{Request}
use Rattle.ipdl_base.specs.declared.schema.Schema.{Schema}
use Rattle.ipdl_base.specs.declared.value.Values.TheVariants.{Nothing}
use Rattle.ipdl_base.specs.Sound.{IsSound}
use Rattle.nesting_core.specs.declared.frame.Answer.TheVariants as answer
use Rattle.promise_table.specs.Promises.{is_pending}
use Rattle.channel_model.specs.Acts.{goodbye}
use Rattle.channel_model.specs.Ends.{World, message, PromiseEntry, resolver}
use Rattle.channel_model.specs.Events.{Event, Move}
use Rattle.channel_model.specs.Events as event
use Rattle.channel_model.specs.Runs.{history_of, is_still}
use Rattle.channel_laws.specs.Laws.{world_of}
use Rattle.channel_laws.specs.Notes.{here}
use Rattle.channel_laws.proofs.Worked.{parent, child, top, at_once, answers}
use Rattle.channel_laws.proofs.WorkedSchema.{calling, calling_is_sound}
use Rattle.progress_laws.specs.Acts.{acts, by_themselves}
use Rattle.progress_laws.specs.Progress.{MovesAreMeasured, HappenByThemselves, ComesToRest}
use Rattle.progress_laws.specs.Promises.{resolver_for, BringsResolver, has_arrived, is_handled, IsUnderWay, is_kept_back, goes_there, is_there, comes_back, is_back, IsKeptOnce}
use Rattle.progress_laws.specs.Rest.{IsRestingWorld, both_ended, has_closed, has_died}
use Rattle.progress_laws.specs.Weights.{weight, full_weight}
use Rattle.progress_laws.proofs.ComingToRest.{worlds_come_to_rest}
use Rattle.progress_laws.proofs.PromisesUnderWay.{promises_are_under_way, still_promises_are_kept}
use Rattle.progress_laws.proofs.RestingWorlds.{still_worlds_rest}
use Rattle.progress_laws.proofs.WeighedRuns.{histories_are_weighed}
use Rattle.progress_laws.proofs.WorkedSchema.{making, making_is_sound}

-- Both ends call at once: each request weighs 5 on its link, and each wait 1.
both_call : weight (world_of calling 0 at_once) ≡ 12
both_call = refl

-- Ten events that happen by themselves answer both calls, and nothing is left.
abbrev all : List Move
all = at_once ++ answers

nothing_is_left : (full_weight (world_of calling 0 all) ≡ 0) × (is_still calling (world_of calling 0 all) ≡ true)
nothing_is_left = (refl, refl)

two_acts : (acts (history_of calling 0 all) ≡ 2) × (by_themselves (history_of calling 0 all) ≡ 10)
two_acts = (refl, refl)

they_happen : HappenByThemselves calling answers (world_of calling 0 at_once)
they_happen = (refl, refl, (refl, refl, (refl, refl, (refl, refl, (refl, refl, (refl, refl, (refl, refl, (refl, refl, (refl, refl, (refl, refl, tt))))))))))

-- The world comes to rest from there, and from wherever three of these events have led.
comes_to_rest : ComesToRest calling 0 at_once (take 3 answers)
comes_to_rest = worlds_come_to_rest.rest calling calling_is_sound 0 at_once (take 3 answers) (refl, refl, (refl, refl, (refl, refl, tt)))

is_weighed : by_themselves (history_of calling 0 all) + full_weight (world_of calling 0 all) ≤ 6 * acts (history_of calling 0 all)
is_weighed = histories_are_weighed calling calling_is_sound 0 all

-- A lazy request with returns is flushed, delivered, taken and returned from, and its reply is delivered and taken: six events
-- for one act.

abbrev asked : List Move
asked = child (event.send top 0 Nothing None) ∷ []

abbrev six_events : List Move
six_events = child event.flush ∷ parent event.deliver ∷ parent event.take ∷ parent (event.return None) ∷ child event.deliver ∷ child event.take ∷ []

weighs_six : weight (world_of making 0 asked) ≡ 6
weighs_six = refl

six_happen : (by_themselves (history_of making 0 (asked ++ six_events)) ≡ 6) × (acts (history_of making 0 (asked ++ six_events)) ≡ 1)
six_happen = (refl, refl)

then_still : (weight (world_of making 0 (asked ++ six_events)) ≡ 0) × (is_still making (world_of making 0 (asked ++ six_events)) ≡ true)
then_still = (refl, refl)

-- While the request waits in the outbox the world is not still, though nothing can be delivered, taken, returned from or resumed.
not_flushed : is_still making (world_of making 0 asked) ≡ false
not_flushed = refl

-- A kept resolver weighs 2 in the full weight alone, and it may be left in a still world. An act destroys it, and its
-- answer is delivered and taken.

abbrev kept_resolver : List Move
kept_resolver = asked ++ (child event.flush ∷ parent event.deliver ∷ parent event.take ∷ parent (event.keep (negsuc 0) (codes "a")) ∷ parent (event.return None) ∷ [])

kept_weighs : (weight (world_of making 0 kept_resolver) ≡ 0) × (full_weight (world_of making 0 kept_resolver) ≡ 2)
kept_weighs = (refl, refl)

kept_is_still : is_still making (world_of making 0 kept_resolver) ≡ true
kept_is_still = refl

let_go_weighs : weight (world_of making 0 (kept_resolver ++ parent (event.name (codes "a") (pos 0)) ∷ [])) ≡ 2
let_go_weighs = refl

-- The call of a constructor whose name had a resolver adds a request on a link, a wait and an answer: 8, or 6 to the
-- full weight, which loses the resolver.

abbrev kept_first : List Move
kept_first = asked ++ (child event.flush ∷ parent event.deliver ∷ parent event.take ∷ parent (event.keep (negsuc 0) (codes "a")) ∷ [])

abbrev lets_go : Move
lets_go = parent (event.send top 2 Nothing (Some (codes "a")))

eight_more : (weight (world_of making 0 kept_first) ≡ 1) × (weight (world_of making 0 (kept_first ++ lets_go ∷ [])) ≡ 9)
eight_more = (refl, refl)

six_more : (full_weight (world_of making 0 kept_first) ≡ 3) × (full_weight (world_of making 0 (kept_first ++ lets_go ∷ [])) ≡ 9)
six_more = (refl, refl)

-- So none of these numbers can be less.
at_least_eight : (few : ℕ) → MovesAreMeasured weight few → 8 ≤ few
at_least_eight few h = let k = h.grows making making_is_sound 0 kept_first lets_go in omega (arith, k)

at_least_six : (few : ℕ) → MovesAreMeasured full_weight few → 6 ≤ few
at_least_six few h = let k = h.grows making making_is_sound 0 kept_first lets_go in omega (arith, k)

six_for_each : (few : ℕ) → ((schema : Schema) → IsSound schema → (top : ℕ) (moves : List Move) → by_themselves (history_of schema top moves) ≤ few * acts (history_of schema top moves)) → 6 ≤ few
six_for_each few h = let k : 6 ≤ few * 1 = h making making_is_sound 0 (asked ++ six_events) in omega (arith, k)

-- Rest

-- Both ends close at once, and rest with a goodbye on each link.
abbrev both_close : World
both_close = world_of making 0 (parent event.close ∷ child event.close ∷ [])

closed_rest : IsRestingWorld both_close
closed_rest = both_ended (has_closed refl refl tt tt) (has_closed refl refl tt tt) (record { outbox = refl; arrived = refl; stack = refl }) (record { outbox = refl; arrived = refl; stack = refl })

closed_still : is_still making both_close ≡ true
closed_still = still_worlds_rest.still making making_is_sound 0 (parent event.close ∷ child event.close ∷ []) closed_rest

goodbyes_are_left : (both_close.to_parent ≡ message goodbye ∷ []) × (both_close.to_child ≡ message goodbye ∷ [])
goodbyes_are_left = (refl, refl)

-- A dead end may keep what a closed one may not: the child has asked, and both die. Its promise stays pending for
-- ever.
abbrev both_die : List Move
both_die = parent event.die ∷ asked ++ child event.die ∷ []

dead_rest : IsRestingWorld (world_of making 0 both_die)
dead_rest = both_ended (has_died refl) (has_died refl) (record { outbox = refl; arrived = refl; stack = refl }) (record { outbox = refl; arrived = refl; stack = refl })

never_settled : map (λ (entry : PromiseEntry). is_pending entry.promise) (world_of making 0 both_die).child.promises ≡ true ∷ []
never_settled = refl

-- While one end alone has closed, its goodbye can be delivered.
one_closed : is_still making (world_of making 0 (parent event.close ∷ [])) ≡ false
one_closed = still_worlds_rest.one_open making making_is_sound 0 (parent event.close ∷ []) side.Child refl refl

-- Promises

-- the child's promise, and its resolver
abbrev promised : PromiseEntry
promised = record { promise = record { seq = negsuc 0; actor = top; outcome = None }; number = 0 }

abbrev brings_it : BringsResolver (resolver_for promised) (record { route = top; number = 0; seq = negsuc 0; transaction = pos 0; made = pos 0; body = Request Nothing })
brings_it = record { values = Nothing; body = refl; seq = refl; route = refl; number = refl }

abbrev UnderWay : List Move → Type 0
UnderWay moves = IsUnderWay (world_of making 0 moves).child (world_of making 0 moves).parent (world_of making 0 moves).to_child (world_of making 0 moves).to_parent (resolver_for promised)

-- Its answer is pending from the send on: the request waits in the outbox, is on the link, has arrived, and is
-- handled.
sent_lazily : UnderWay asked
sent_lazily = is_kept_back _ here brings_it

then_flushed : UnderWay (asked ++ take 1 six_events)
then_flushed = goes_there _ here brings_it

then_delivered : UnderWay (asked ++ take 2 six_events)
then_delivered = is_there (has_arrived _ false Not here brings_it)

then_taken : UnderWay (asked ++ take 3 six_events)
then_taken = is_there (is_handled _ here refl refl)

-- It returns, and its reply is on the link back and arrives.
then_returned : UnderWay (asked ++ take 4 six_events)
then_returned = comes_back _ here (record { answer = answer.Fault ResolverDestroyed; body = refl; seq = refl; route = refl; number = refl })

then_back : UnderWay (asked ++ take 5 six_events)
then_back = is_back _ false Not here (record { answer = answer.Fault ResolverDestroyed; body = refl; seq = refl; route = refl; number = refl })

-- The law says the same of this run and of any other.
is_under_way : UnderWay (asked ++ take 3 six_events)
is_under_way = promises_are_under_way making making_is_sound 0 (asked ++ take 3 six_events) side.Child promised refl refl here refl

-- The parent has kept the resolver in a still world: under one name.
kept_once : IsKeptOnce (world_of making 0 kept_resolver).parent.names (resolver_for promised)
kept_once = still_promises_are_kept making making_is_sound 0 kept_resolver side.Child promised refl refl here refl

kept_as : (world_of making 0 kept_resolver).parent.names ≡ record { name = codes "a"; holds = resolver (resolver_for promised) } ∷ []
kept_as = refl

-- Between dead ends no name keeps it.
kept_by_nobody : (world_of making 0 both_die).parent.names ≡ []
kept_by_nobody = refl
