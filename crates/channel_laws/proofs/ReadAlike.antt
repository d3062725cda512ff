-- At every reached world lines and ends agree on which actors live.
use Rattle.std.proofs.Common.{◌≡◌, ℕ, List, [], ◌∷◌, Some, None, sym, subst, ◌∙◌}
use Rattle.std.specs.List.{AllByRecursion}
use Rattle.std.proofs.lemmas.Option.{same_Some}
use Rattle.ipdl_base.specs.declared.kinds.Side.{Side}
use Rattle.ipdl_base.specs.declared.kinds.Side.TheVariants.{Parent, Child}
use Rattle.ipdl_base.specs.declared.schema.Schema.{Schema}
use Rattle.nesting_core.specs.declared.frame.StackFrame.{StackFrame}
use Rattle.nesting_core.specs.declared.frame.StackFrame.TheVariants.{Dispatch, Wait}
use Rattle.history_reading.specs.EndReading.{EndReading, lives}
use Rattle.channel_model.specs.Ends.{End, World, StackEntry, end_of}
use Rattle.channel_model.specs.Returns as return
use Rattle.channel_model.specs.ValueActors.{ActorValue}
use Rattle.channel_model.proofs.Known.{all-map}
use Rattle.channel_laws.specs.EndActors.{ReadsActors}
use Rattle.channel_laws.specs.Protocols.{Protocols, HasProtocols, HasItsProtocol, HaveTheirProtocols, WorldHasProtocols, EntryHasProtocols, FrameHasProtocols, AnswerHasProtocols}
use Rattle.channel_laws.specs.ValueReadings.{LivesAlike}
use Rattle.channel_laws.proofs.ProtocolRuns.{types_tell_who_lives}
use Rattle.channel_laws.proofs.Standing.{lives-read}

pub alike : (schema : Schema) (made : Protocols) (e : End) (own : EndReading) → HasProtocols schema made e → ReadsActors schema e own → (few : List ActorValue) → HaveTheirProtocols made few → AllByRecursion (LivesAlike e.actors (lives own)) few
alike schema made e own p k few h = all-map (HasItsProtocol made) (LivesAlike e.actors (lives own)) few (λ a has. types_tell_who_lives schema made e p a has ∙ sym (lives-read own.built own.fallen e.actors a.id k.living.living)) h

-- the protocols of what an end of a side keeps
pub protocols-at : (schema : Schema) (top : ℕ) (side : Side) (w : World) (p : WorldHasProtocols schema top w) → HasProtocols schema p.made (end_of side w)
protocols-at schema top Parent w p = p.keeps
protocols-at schema top Child w p = p.their_keeps

-- the protocols of the answer of the wait on top
pub top-protocols : (schema : Schema) (made : Protocols) (es : List StackEntry) (wait : return.AnsweredWait) → return.answered_wait_on_top es ≡ Some wait → AllByRecursion (EntryHasProtocols schema made) es → AnswerHasProtocols schema made wait.number wait.given
top-protocols schema made [] wait e h = cc
top-protocols schema made (x ∷ xs) wait e h = by x.frame e h.0.frame
  where
    by : (f : StackFrame) → return.answered_wait_of x.number f ≡ Some wait → FrameHasProtocols schema made x.number f → AnswerHasProtocols schema made wait.number wait.given
    by (Dispatch head) e h = cc
    by (Wait head None) e h = cc
    by (Wait head (Some a)) e h = subst (λ (w : return.AnsweredWait). AnswerHasProtocols schema made w.number w.given) (same_Some (record { seq = head.seq; number = x.number; given = a }) wait e) h
