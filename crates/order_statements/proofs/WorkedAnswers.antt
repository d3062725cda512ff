-- Worked answers: a legal history with its answers, and false neighbours, each refused by the clause that it breaks.
use Rattle.std.proofs.Common.{◌≡◌, ℤ, negsuc, Bool, true, false, List, [], ◌∷◌, ◌++◌, Contains, codes, map, Option, Some, None, refl, sym, ap, subst, arith}
use Rattle.std.specs.Option.{option_map_or}
use Rattle.std.proofs.lemmas.Bool.{false≢true}
use Rattle.std.proofs.lemmas.List.Elements.{All-contains, All-from_recursion}
use Rattle.ipdl_base.specs.declared.kinds.Reason.TheVariants as reason
use Rattle.ipdl_base.specs.declared.kinds.Side.{Side}
use Rattle.ipdl_base.specs.declared.kinds.Side.TheVariants.{Parent, Child}
use Rattle.ipdl_base.specs.declared.line.Line.{Line}
use Rattle.ipdl_base.specs.declared.line.What.{What}
use Rattle.ipdl_base.specs.declared.line.What.TheVariants as what
use Rattle.ipdl_base.specs.declared.value.Values.TheVariants.{Nothing}
use Rattle.history_reading.specs.SentPacket.{Request}
use Rattle.channel_model.specs.Events.{Move, handled}
use Rattle.channel_model.specs.Events as event
use Rattle.channel_model.specs.Runs.{history_of}
use Rattle.channel_laws.proofs.Worked.{child, parent, top}
use Rattle.channel_laws.proofs.WorkedSchema.{ask, calling}
use Rattle.progress_laws.proofs.WorkedSchema.{making, making_is_sound}
use Rattle.law_statements.specs.Said.{line_of, said_by}
use Rattle.order_statements.specs.Answers.{Answers}
use Rattle.order_statements.specs.Effects.{Effects, fault_due}
use Rattle.order_statements.specs.Shape.{HasEffects}
use Rattle.order_statements.proofs.AnswersLaw.{answers-hold}

abbrev by_parent : What → Line
by_parent what = line_of Parent what

abbrev by_child : What → Line
by_child what = line_of Child what

-- the child's first request, an async one with returns
abbrev first : ℤ
first = negsuc 0

-- A handler keeps its resolver under a name, and the name gets a new content: the request is answered.

abbrev kept_and_named : List Move
kept_and_named =
    child (event.send top 0 Nothing None)
    ∷ child event.flush
    ∷ parent event.deliver
    ∷ parent event.take
    ∷ parent (event.keep first (codes "a"))
    ∷ parent (event.name (codes "a") top) ∷ []

abbrev taken : List Line
taken = by_child (what.Send first top 0 Nothing) ∷ by_child (what.Flush 1) ∷ by_parent (what.DeliverRequest first) ∷ by_parent (what.Take first top 0 Nothing) ∷ []

abbrev named : List Line
named = taken ++ by_parent (what.Keep first (codes "a")) ∷ by_parent (what.Let (codes "a") top) ∷ []

kept_and_named_lines : history_of making 0 kept_and_named ≡ named ++ by_parent (what.AnswerFault first reason.ResolverDestroyed) ∷ []
kept_and_named_lines = refl

kept_and_named_answers : Answers making (history_of making 0 kept_and_named)
kept_and_named_answers = answers-hold making making_is_sound 0 kept_and_named

-- A request is answered twice, a request is answered that was never sent, and one is answered in the event that
-- delivers it.

answered_twice : Answers making (taken ++ by_parent (what.Resolve first Nothing) ∷ by_parent (what.Reject first) ∷ []) → ⊥
answered_twice a = false≢true (sym ((a.answers Parent (what.Reject first) first (taken ++ by_parent (what.Resolve first Nothing) ∷ []) [] refl refl).first))

never_sent : Answers making (taken ++ by_parent (what.Reject (negsuc 1)) ∷ []) → ⊥
never_sent a = let k : None ≡ Some _ = (a.answers Parent (what.Reject (negsuc 1)) (negsuc 1) taken [] refl refl).sent in cc

abbrev just_delivered : List Line
just_delivered = by_child (what.Send first top 0 Nothing) ∷ by_parent (what.DeliverRequest first) ∷ []

at_once : Answers making (just_delivered ++ by_parent (what.AnswerFault first reason.ActorDestroyed) ∷ []) → ⊥
at_once a = (a.answers Parent (what.AnswerFault first reason.ActorDestroyed) first just_delivered [] refl refl).earlier refl

-- an end that has closed answers
after_close : Answers making (taken ++ by_parent what.Close ∷ by_parent (what.Reject first) ∷ []) → ⊥
after_close a = false≢true ((a.answers Parent (what.Reject first) first (taken ++ by_parent what.Close ∷ []) [] refl refl).opened)

-- A request with a promise is replaced, and is not answered.

no-effects : {A : Type 0} (end : Side) (w : What) (more : List What) → HasEffects end (w ∷ more) [] → A
no-effects end w more h = let k : [] ≡ line_of end w ∷ (map (line_of end) more ++ h.later) = h.split in cc

abbrev sent_twice : List Line
sent_twice = by_child (what.Send first top 0 Nothing) ∷ by_child (what.Send (negsuc 1) top 0 Nothing) ∷ by_parent (what.DeliverRequest first) ∷ by_parent (what.DeliverRequest (negsuc 1)) ∷ []

replaced_silently : Answers making (sent_twice ++ by_parent (what.Replaced first) ∷ []) → ⊥
replaced_silently a =
    let r = a.replaced Parent first sent_twice [] refl in
    let wants : true ≡ r.0.wants = ap (λ (o : Option Request). option_map_or (λ (x : Request). x.wants) o false) r.1 in
    no-effects Parent (what.AnswerFault first reason.ResolverDestroyed) [] (subst (λ (b : Bool). HasEffects Parent (fault_due b first reason.ResolverDestroyed) []) (sym wants) r.2)

-- A reply is taken twice, and its promise was not rejected since an actor fell.

abbrev replied : List Line
replied = by_child (what.Send first top 0 Nothing) ∷ by_child (what.TakeReply first) ∷ by_child (what.Resolved first Nothing) ∷ []

abbrev is_rejected : What → Bool
is_rejected (what.Rejected n why) = true
is_rejected _ = false

taken_again : Answers making (replied ++ by_child (what.TakeReply first) ∷ []) → ⊥
taken_again a =
    let c : Contains (said_by Child replied) (what.Rejected first reason.ActorDestroyed) = a.late Child first replied [] refl refl in
    false≢true (sym (All-contains (λ w. is_rejected w ≡ false) (said_by Child replied) (what.Rejected first reason.ActorDestroyed) (All-from_recursion (λ w. is_rejected w ≡ false) (said_by Child replied) (refl, (refl, (refl, tt)))) c))

-- A sync request is dropped without an answer, or its handler returns without one.

abbrev called : List Line
called = by_child (what.Call first first top ask Nothing) ∷ by_parent (what.DeliverRequest first) ∷ []

dropped_silently : Effects calling (called ++ by_parent (what.Drop first top ask top) ∷ []) → ⊥
dropped_silently e = no-effects Parent (what.AnswerFault first reason.ActorDestroyed) [] (e.drops Parent first top ask top called [] refl)

abbrev handled_call : List Line
handled_call = called ++ by_parent (what.Take first top ask Nothing) ∷ []

returned_silently : Effects calling (handled_call ++ by_parent (what.Return first) ∷ []) → ⊥
returned_silently e = let r = (e.returns Parent first (record { seq = first; route = top; number = ask }) [] handled_call [] refl refl).sync refl in no-effects Parent r.0 r.1 r.3

-- A handler returns, and its resolver is neither used nor kept nor destroyed; and a name that had a resolver gets a
-- new content.

lost_silently : Effects making (taken ++ by_parent (what.Return first) ∷ []) → ⊥
lost_silently e =
    let r = (e.returns Parent first (record { seq = first; route = top; number = 0 }) [] taken [] refl refl).destroyed refl in
    no-effects Parent (what.AnswerFault first reason.ResolverDestroyed) r.0 r.1

renamed_silently : Effects making named → ⊥
renamed_silently e =
    no-effects Parent (what.AnswerFault first reason.ResolverDestroyed) []
    (e.renames Parent (what.Let (codes "a") top) (codes "a") first (taken ++ by_parent (what.Keep first (codes "a")) ∷ []) [] refl refl refl (2, omega arith, refl) refl)
