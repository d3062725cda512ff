-- Worked effects: what an event owes is there in a history, and without it the statement is false.
use Rattle.std.proofs.Common.{◌≡◌, ℕ, pos, true, false, IsTrue, List, [], ◌∷◌, ◌++◌, map, codes, Option, Some, None, refl, sym, subst}
use Rattle.std.proofs.lemmas.Bool.{true≢false}
use Rattle.ipdl_base.specs.declared.kinds.Compress.TheVariants as compress
use Rattle.ipdl_base.specs.declared.kinds.Direction.TheVariants as direction
use Rattle.ipdl_base.specs.declared.kinds.Level.TheVariants as level
use Rattle.ipdl_base.specs.declared.kinds.Semantics.TheVariants.{Async}
use Rattle.ipdl_base.specs.declared.kinds.SendRefusal.TheVariants as refusal
use Rattle.ipdl_base.specs.declared.kinds.Side.{Side}
use Rattle.ipdl_base.specs.declared.kinds.Side.TheVariants as side
use Rattle.ipdl_base.specs.declared.line.Line.{Line}
use Rattle.ipdl_base.specs.declared.line.What.{What}
use Rattle.ipdl_base.specs.declared.line.What.TheVariants as what
use Rattle.ipdl_base.specs.declared.schema.Kind.{Kind}
use Rattle.ipdl_base.specs.declared.schema.Kind.TheVariants.{Normal, Constructor, Delete}
use Rattle.ipdl_base.specs.declared.schema.MessageRow.{MessageRow}
use Rattle.ipdl_base.specs.declared.schema.ParamRow.{ParamRow}
use Rattle.ipdl_base.specs.declared.schema.Schema.{Schema}
use Rattle.ipdl_base.specs.declared.value.Values.TheVariants.{Nothing}
use Rattle.channel_model.specs.Events as event
use Rattle.channel_laws.proofs.Worked.{parent, top}
use Rattle.progress_laws.proofs.WorkedSchema.{making, making_is_sound}
use Rattle.law_statements.specs.Actors.{lives}
use Rattle.law_statements.specs.Said.{is_moment, line_of, said_by}
use Rattle.order_statements.specs.Effects.{Effects, IsBuiltBySend, IsDeleted}
use Rattle.order_statements.specs.Shape.{HasEffects}
use Rattle.order_statements.proofs.Builds.{sends-build}
use Rattle.order_statements.proofs.Tells.{history-events}

-- A call of a constructor builds its actor.
calls-build : IsBuiltBySend side.Parent (what.Call (pos 1) (pos 1) top 2 Nothing ∷ []) 1 (line_of side.Parent (what.Built (pos 6) 1) ∷ [])
calls-build =
    sends-build making (line_of side.Parent (what.Call (pos 1) (pos 1) top 2 Nothing) ∷ line_of side.Parent (what.Built (pos 6) 1) ∷ []) (history-events making making_is_sound 0 (parent (event.send top 2 Nothing None) ∷ []))
    side.Parent (what.Call (pos 1) (pos 1) top 2 Nothing) _ 1 [] (line_of side.Parent (what.Built (pos 6) 1) ∷ []) refl refl refl

-- a question with an answer, and the constructor and the destructor of an actor
abbrev message : ℕ → Kind → Option (List ParamRow) → MessageRow
message number kind returns =
    record { number = number; name = codes "M"; direction = direction.Both; semantics = Async; level = level.Not; compress = compress.Plain; kind = kind; params = []; returns = returns; carried = true; lazy = false }

abbrev schema : Schema
schema = record {
  protocols =
      record { name = codes "P"; semantics = Async; level = level.Not; managers = []; manages = 1 ∷ []; messages = message 0 Normal (Some []) ∷ message 2 (Constructor 1) None ∷ [] }
      ∷ record { name = codes "Q"; semantics = Async; level = level.Not; managers = 0 ∷ []; manages = []; messages = message 65536 Delete None ∷ [] } ∷ [];
  types = [];
}

abbrev says : What → Line
says what = line_of side.Parent what

no-effects : {end : Side} (effects : List What) → HasEffects end effects [] → effects ≡ []
no-effects [] h = refl
no-effects {end} (w ∷ effects) h = let none : [] ≡ map (line_of end) (w ∷ effects) ++ h.later = h.split in cc

-- A constructor is sent, and no actor is built.

abbrev unbuilt : List Line
unbuilt = says (what.Send (pos 1) top 2 Nothing) ∷ []

no-last : {A : Type 0} (xs : List What) (w : What) → xs ++ w ∷ [] ≡ [] → A
no-last [] w e = cc
no-last (x ∷ xs) w e = cc

builds_nothing : Effects schema unbuilt → ⊥
builds_nothing h =
    let b : IsBuiltBySend side.Parent (what.Send (pos 1) top 2 Nothing ∷ []) 1 [] = h.builds side.Parent (what.Send (pos 1) top 2 Nothing) _ 1 [] [] refl refl refl in
    no-last b.lost (what.Built b.builds.id 1) (no-effects (b.lost ++ what.Built b.builds.id 1 ∷ []) b.builds.are)

-- A destructor is sent, and its actor does not fall.

abbrev built : List Line
built = unbuilt ++ says (what.Built (pos 6) 1) ∷ []

abbrev undeleted : List Line
undeleted = built ++ says (what.Send (pos 2) (pos 6) 65536 Nothing) ∷ []

deletes_nobody : Effects schema undeleted → ⊥
deletes_nobody h =
    let own : List What = said_by side.Parent undeleted in
    let d : IsDeleted side.Parent own (pos 6) [] = h.deletes side.Parent (what.Send (pos 2) (pos 6) 65536 Nothing) _ built [] refl refl refl in
    true≢false (subst (λ (ws : List What). lives (own ++ ws) (pos 6) ≡ false) (no-effects d.effects d.are) d.gone)

-- A reply is taken, and its promise is not settled.

abbrev unsettled : List Line
unsettled =
    says (what.Send (pos 1) top 0 Nothing)
    ∷ line_of side.Child (what.DeliverRequest (pos 1))
    ∷ line_of side.Child (what.Take (pos 1) top 0 Nothing)
    ∷ line_of side.Child (what.Resolve (pos 1) Nothing)
    ∷ says (what.DeliverReply (pos 1)) ∷ []

settles_nothing : Effects schema (unsettled ++ says (what.TakeReply (pos 1)) ∷ []) → ⊥
settles_nothing h = let s = h.settles side.Parent (pos 1) unsettled [] refl refl in no-last [] s.0 (no-effects (s.0 ∷ []) s.2)

-- A send is refused, and yet an actor is built.

abbrev refused : List Line
refused = says (what.RefusedSend refusal.DeadActor 2) ∷ says (what.Built (pos 6) 1) ∷ []

refusal_builds : Effects schema refused → ⊥
refusal_builds h =
    let r : HasEffects side.Parent [] (says (what.Built (pos 6) 1) ∷ []) = h.refusals side.Parent (what.RefusedSend refusal.DeadActor 2) [] (says (what.Built (pos 6) 1) ∷ []) refl refl in
    let moment : IsTrue (is_moment (says (what.Built (pos 6) 1) ∷ [])) = subst (λ (ls : List Line). IsTrue (is_moment ls)) (sym r.split) r.moment in
    cc
