-- A farewell is taken when no other item waits.
use Rattle.std.proofs.Common.{◌≡◌, ℕ, Bool, true, false, ◌&&◌, cond, List, [], ◌∷◌, ◌++◌, Some, None, refl, sym, ap, subst, ◌∙◌}
use Rattle.std.specs.List.{AllByRecursion}
use Rattle.ipdl_base.specs.declared.kinds.EndState.{EndState}
use Rattle.ipdl_base.specs.declared.kinds.EndState.TheVariants.{Open, Draining, Closed, Dead}
use Rattle.ipdl_base.specs.declared.kinds.Side.{Side}
use Rattle.ipdl_base.specs.declared.kinds.Side.TheVariants.{Parent, Child}
use Rattle.ipdl_base.specs.declared.line.Line.{Line}
use Rattle.ipdl_base.specs.declared.line.What.{What}
use Rattle.ipdl_base.specs.declared.line.What.TheVariants as what
use Rattle.ipdl_base.specs.declared.message.Body.{Body}
use Rattle.ipdl_base.specs.declared.message.Body.TheVariants.{Request, Reply, Fault, Goodbye}
use Rattle.ipdl_base.specs.declared.message.Message.{Message}
use Rattle.ipdl_base.specs.declared.schema.Schema.{Schema}
use Rattle.ipdl_base.specs.Sound.{IsSound}
use Rattle.nesting_core.specs.Top.{top_of}
use Rattle.pending_queue.specs.DeferralContext.{is_free}
use Rattle.pending_queue.specs.declared.item.Item.{Item}
use Rattle.pending_queue.specs.declared.item.Item.TheVariants as item
use Rattle.history_reading.specs.Reading.{end_reading_of, opening_reading}
use Rattle.channel_model.specs.Runs.{history_of}
use Rattle.channel_model.specs.Ends.{End, Packet, end_of, link_to}
use Rattle.channel_model.specs.Events.{Move}
use Rattle.channel_model.specs.Events as event
use Rattle.channel_model.specs.Outputs.{Output, is_open}
use Rattle.channel_model.specs.Sends.{frames_of}
use Rattle.channel_model.specs.States.{IsAnswered, IsOrdinary, IsInState, HasArrived, is_farewell, is_goodbye}
use Rattle.channel_model.specs.Steps.{step}
use Rattle.channel_model.specs.Takes as takes
use Rattle.channel_model.proofs.FittingEnds.{taken-first}
use Rattle.channel_laws.proofs.Leaving.{FirstTaken, first-taken}
use Rattle.channel_laws.specs.EndActors.{ReadsActors}
use Rattle.channel_laws.specs.Laws.{world_of}
use Rattle.channel_laws.specs.Tested.{read_from}
use Rattle.channel_laws.proofs.FallenRuns.{fallen_test, fallen-keeps_moves, opening-reads}
use Rattle.channel_laws.proofs.Runs.{AtEnds, RunKeeps, every-run}
use Rattle.order_laws.specs.Order.{FirstLine, IsTakeOf, IsTakeOfBody, IsShut, TakesLast, FarewellsAreTakenLast}
use Rattle.order_laws.proofs.Takes.{step-taken, takes-first, item-told}

-- in every run an end has the actors that its lines show, and is as its state requires
pub reads-in-run : (schema : Schema) → IsSound schema → (top : ℕ) (moves : List Move) (side : Side) → ReadsActors schema (end_of side (world_of schema top moves)) (end_reading_of side (read_from schema opening_reading (history_of schema top moves)))
reads-in-run schema sound top moves side = by side
  where
    runs : RunKeeps schema (AtEnds schema (ReadsActors schema)) (fallen_test schema sound) (world_of schema top moves) opening_reading (history_of schema top moves)
    runs = every-run schema sound (AtEnds schema (ReadsActors schema)) (fallen_test schema sound) (fallen-keeps_moves schema sound) top moves (opening-reads schema top Parent, opening-reads schema top Child)

    by : (side : Side) → ReadsActors schema (end_of side (world_of schema top moves)) (end_reading_of side (read_from schema opening_reading (history_of schema top moves)))
    by Parent = runs.kept.0
    by Child = runs.kept.1

pub states-in-run : (schema : Schema) → IsSound schema → (top : ℕ) (moves : List Move) (side : Side) → IsInState (end_of side (world_of schema top moves))
states-in-run schema sound top moves side = (reads-in-run schema sound top moves side).state

-- a take by which an end shuts is that of a farewell

body-shuts : (m : Message) (body : Body) (w : What) → IsTakeOfBody m body w → IsShut w → is_goodbye body ≡ true
body-shuts m (Request vs) what.ShutNormal h k = absurd h
body-shuts m (Request vs) what.ShutAbnormal h k = absurd h
body-shuts m (Reply vs) what.ShutNormal h k = absurd h
body-shuts m (Reply vs) what.ShutAbnormal h k = absurd h
body-shuts m (Fault reason) what.ShutNormal h k = absurd h
body-shuts m (Fault reason) what.ShutAbnormal h k = absurd h
body-shuts m Goodbye w h k = refl
body-shuts m body _ h k = absurd k

item-shuts : (x : Item) (w : What) → IsTakeOf x w → IsShut w → is_farewell x ≡ true
item-shuts (item.Message m sync level) w h k = body-shuts m m.body w h k
item-shuts item.Broken w h k = refl

first-both : (P Q : What → Type 0) (R : Type 0) (ls : List Line) → ((w : What) → P w → Q w → R) → FirstLine P ls → FirstLine Q ls → R
first-both P Q R [] f h k = absurd h
first-both P Q R (l ∷ ls) f h k = f l.what h k

-- an item that is found is one of the list

in-all : (items : List Item) (x : Item) → AllByRecursion IsOrdinary items → (older younger : List Item) → items ≡ older ++ x ∷ younger → IsOrdinary x
in-all [] x h [] younger is = cc
in-all [] x h (y ∷ older) younger is = cc
in-all (y ∷ items) x h [] younger is = let k : y ≡ x = cc in subst IsOrdinary k h.0
in-all (y ∷ items) x h (z ∷ older) younger is = let k : items ≡ older ++ x ∷ younger = cc in in-all items x h.1 older younger k

never : {A : Type 0} (b : Bool) → b ≡ true → b ≡ false → A
never true h k = cc
never false h k = cc

farewell-last : (e : End) (x : Item) → IsInState e → takes.taken_next e ≡ Some x → is_farewell x ≡ true → TakesLast e
farewell-last e x h next farewell = by e.state refl h.arrived
  where
    f : FirstTaken (is_free (takes.deferral_context_of e)) e.arrived x
    f = first-taken (is_free (takes.deferral_context_of e)) e.arrived x (taken-first e x next)

    nothing-taken : (state : EndState) → e.state ≡ state → takes.takes_in_state state ≡ false → TakesLast e
    nothing-taken state is none =
        let k : cond (false && takes.takes_under (top_of (frames_of e))) (takes.first_free e) None ≡ Some x =
        ap (λ (b : Bool). cond (b && takes.takes_under (top_of (frames_of e))) (takes.first_free e) None) (sym (ap takes.takes_in_state is ∙ none)) ∙ next in
        cc

    drained : e.state ≡ Draining → (front : List Item) (last : Item) → e.arrived ≡ front ++ last ∷ [] → AllByRecursion IsOrdinary front → TakesLast e
    drained is [] last whole ordinary =
        let answered : AllByRecursion IsAnswered (frames_of e) = h.waits (ap is_open is) in
        record { last = x; farewell = farewell; alone = whole ∙ ap (λ (y : Item). y ∷ []) (takes-first e x last [] answered whole next); nobody = answered }
    drained is (y ∷ front) last whole ordinary =
        let answered : AllByRecursion IsAnswered (frames_of e) = h.waits (ap is_open is) in
        let same : y ≡ x = takes-first e x y (front ++ last ∷ []) answered whole next in
        never (is_farewell x) farewell (subst IsOrdinary same ordinary.0)

    by : (state : EndState) → e.state ≡ state → HasArrived state e.arrived → TakesLast e
    by Open is ordinary = never (is_farewell x) farewell (in-all e.arrived x ordinary f.taken.front f.taken.back f.taken.whole)
    by Draining is k = drained is k.0 k.1.0 k.1.1.0 k.1.1.1.0
    by Closed is none = nothing-taken Closed is refl
    by Dead is none = nothing-taken Dead is refl

shut-last : (schema : Schema) (e : End) (link : List Packet) (output : Output) → IsInState e → step schema e link event.take ≡ Some output → FirstLine IsShut output.lines → TakesLast e
shut-last schema e link output h is shut =
    let s = step-taken schema e link output is in
    let t : FirstLine (IsTakeOf s.0) output.lines = subst (λ (o : Output). FirstLine (IsTakeOf s.0) o.lines) s.2 (item-told schema s.0 e).first in
    farewell-last e s.0 h s.1 (first-both (IsTakeOf s.0) IsShut (is_farewell s.0 ≡ true) output.lines (item-shuts s.0) t shut)

pub farewells_are_taken_last : FarewellsAreTakenLast
farewells_are_taken_last schema sound top moves side output is shut =
    shut-last schema (end_of side (world_of schema top moves)) (link_to side (world_of schema top moves)) output (states-in-run schema sound top moves side) is shut
