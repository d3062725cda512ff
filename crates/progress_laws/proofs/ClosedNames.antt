-- At a closed end no name has a resolver, in every run.
use Rattle.std.proofs.Common.{◌≡◌, ℕ, Bool, true, false, List, [], ◌∷◌, filter, sym, ◌∙◌}
use Rattle.std.specs.List.{AllByRecursion}
use Rattle.ipdl_base.specs.declared.schema.Schema.{Schema}
use Rattle.ipdl_base.specs.declared.line.What.{What}
use Rattle.channel_model.specs.Answers.{without_resolver}
use Rattle.channel_model.specs.Ends.{End, Packet, Naming, NameContent, actor, resolver, opening}
use Rattle.channel_model.specs.Events.{Answering, Move, handled, kept}
use Rattle.channel_model.specs.Names.{is_actor, without_name, without_resolvers}
use Rattle.channel_model.specs.Outputs.{is_closed}
use Rattle.channel_model.specs.Parts
use Rattle.channel_model.specs.Parts.{FirstPart, LaterPart, DeliveryPart, HoldsActor, end_after}
use Rattle.channel_model.specs.Phases.{Phase}
use Rattle.channel_model.specs.Runs.{run}
use Rattle.channel_model.proofs.Known.{all-append, all-filter}
use Rattle.channel_model.proofs.RunsKeep.{BothHave, runs-keep}
use Rattle.channel_model.proofs.StepParts.{parts-keep}

-- a closed end keeps no resolver
abbrev pub KeepsNone : End → Type 0
KeepsNone e = is_closed e.state ≡ true → AllByRecursion HoldsActor e.names

-- names without resolvers
all-actors : (names : List Naming) → AllByRecursion HoldsActor (without_resolvers names)
all-actors [] = tt
all-actors (naming ∷ names) = by naming.holds (all-actors names)
  where
    by : (holds : NameContent) → AllByRecursion HoldsActor (without_resolvers names) → AllByRecursion HoldsActor (filter is_actor (record naming { holds = holds } ∷ names))
    by (actor id) rest = (tt, rest)
    by (resolver r) rest = rest

without-none : (name : List ℕ) (e : End) → KeepsNone e → is_closed e.state ≡ true → AllByRecursion HoldsActor (without_name name e.names)
without-none name e h closed = all-filter HoldsActor _ e.names (h closed)

following-none : (b : Bool) (e : End) → KeepsNone e → KeepsNone (end_after b e)
following-none true e h = h
following-none false e h = h

used-none : (by : Answering) (e : End) → KeepsNone e → KeepsNone (without_resolver by e)
used-none (handled seq) e h = h
used-none (kept name number) e h = without-none name e h

first-none : {schema : Schema} {p : Phase} {e f : End} {ws : List What} {ps : List Packet} → FirstPart schema e ws ps f p → KeepsNone e → KeepsNone f
first-none (Parts.refuses w is) h = h
first-none (Parts.renames w is) h = h
first-none (Parts.flushes open_is) h = h
first-none (Parts.sends row route vs name sent) h = h
first-none {e} (Parts.answers by vs r row found may ok is) h = used-none by e h
first-none {e} (Parts.closes open_is none) h = λ closed. all-actors e.names
first-none (Parts.dies open_is) h = λ closed. cc
first-none (Parts.dies_silent open_is alive) h = λ closed. cc
first-none (Parts.takes m sync level row vs next body found stays) h = h
first-none {e} (Parts.drops m sync level row vs id replies next body found gone is) h = following-none replies (Parts.left_end e) h
first-none (Parts.drops_unknown m sync level vs next body none) h = h
first-none (Parts.takes_reply m sync level a next body late) h = h
first-none (Parts.settles m sync level row a next body found is) h = h
first-none {e} (Parts.shuts last next is) h = λ closed. all-actors e.names
first-none {e} (Parts.returns entry row vs told lost returns t l) h = following-none lost _ (following-none told _ h)
first-none (Parts.resumes wait row on_top found) h = h

later-none : {p q : Phase} {e f : End} {ws : List What} {ps : List Packet} → LaterPart p e ws ps f q → KeepsNone e → KeepsNone f
later-none {e} (Parts.unnames name may silent) h = without-none name e h
later-none {e} (Parts.lets_go name r may is open_is) h = without-none name e h
later-none {e} (Parts.names more actors) h = λ closed. all-append HoldsActor e.names more (h closed) actors
later-none (Parts.releases seq closed) h = h
later-none (Parts.keeps seq name r is not_closed) h = λ closed. let k : true ≡ false = sym closed ∙ not_closed in cc
later-none (Parts.builds id protocol rest is built) h = h
later-none (Parts.deletes id cause) h = h
later-none (Parts.falls why cause) h = h

delivery-none : {schema : Schema} {packet : Packet} {p : Phase} {e f : End} {ws : List What} {ps : List Packet} → DeliveryPart schema packet e ws ps f p → KeepsNone e → KeepsNone f
delivery-none (Parts.gets_request m row vs body found none) h = h
delivery-none (Parts.replaces m row vs old sync level replies body found rep is) h = following-none replies _ h
delivery-none (Parts.gets_answer m row a body found sync) h = h
delivery-none (Parts.gets_reply m row a body found async) h = h
delivery-none (Parts.drains packet is) h = λ closed. cc
delivery-none (Parts.passes_by m ordinary none) h = h

-- So in every run neither end has such a name.
pub closed-names : (schema : Schema) (top : ℕ) (moves : List Move) → BothHave KeepsNone (run schema moves (opening top)).world
closed-names schema top moves = runs-keep schema KeepsNone (parts-keep schema KeepsNone (record { first = first-none; later = later-none; delivery = delivery-none })) moves (opening top) (λ closed. tt, λ closed. tt)
