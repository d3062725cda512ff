-- The resolvers that running requests have after a step are those of the dispatches that it leaves.
use Rattle.std.proofs.Common.{◌≡◌, ℕ, ℤ, Bool, true, false, if◌then◌else◌, List, [], ◌∷◌, drop, map, Option, Some, None, refl, sym, ap, subst, ◌∙◌}
use Rattle.std.specs.Option.{option_map_or}
use Rattle.ipdl_base.specs.declared.kinds.SendRefusal.{SendRefusal}
use Rattle.nesting_core.specs.Frames.{head_of}
use Rattle.ipdl_base.specs.declared.value.Values.{Values}
use Rattle.channel_model.specs.Answers.{released, resolver_in}
use Rattle.channel_model.specs.Ends.{Packet, Resolver, StackEntry}
use Rattle.channel_model.specs.Events.{Event, handled}
use Rattle.channel_model.specs.Events as event
use Rattle.channel_core.specs.Answers.{refusal_of_answer}
use Rattle.channel_core.specs.EndView.{EndView}
use Rattle.channel_core.specs.Steps.{IsStepBy}
use Rattle.script_runs.specs.Dispatches.{dispatches, dispatches_after}
use Rattle.script_runs.proofs.Changes.{steps_change_dispatches}
use Rattle.world_core.specs.CountsSteps.{holding_on_top, with_act, with_act_of, with_answer, with_event, with_resolver}
use Rattle.world_core.specs.CountsView.{CountsView, RunningView}
use Rattle.world_core.specs.Resolvers.{AreApart, HoldResolvers, resolver_of, resolver_on_top}

-- the resolvers of running requests, and those of dispatches
abbrev resolvers : List RunningView → List (Option Resolver)
resolvers running = map (λ r. r.resolver) running

-- After a step, running requests have the resolvers of their dispatches, if the step leaves these.
pub held-following : (before after : EndView) (link : List Packet) (happened : Event) (running : List RunningView) → IsStepBy before link happened after
    → map (λ r. r.resolver) running ≡ map resolver_of (dispatches_after before.schema before.end happened) → HoldResolvers running after.end
held-following before after link happened running is h =
    h ∙ ap (map resolver_of) (sym (ap (λ (v : EndView). dispatches v.end.stack) is.is_after ∙ steps_change_dispatches before.schema before.end link happened is.output is.is_step))

-- an act leaves all resolvers
act-leaves : (running : List RunningView) (c : CountsView) → c.running ≡ running → resolvers (with_act_of running c).running ≡ resolvers running
act-leaves [] c is = ap resolvers is
act-leaves (r ∷ rs) c is = refl

pub act-resolvers : (c : CountsView) → map (λ (r : RunningView). r.resolver) (with_act c).running ≡ map (λ (r : RunningView). r.resolver) c.running
act-resolvers c = act-leaves c.running (with_event c) refl

-- a return takes off the first
pub fewer-resolvers : (running : List RunningView) (entries : List StackEntry) → map (λ r. r.resolver) running ≡ map resolver_of entries → map (λ r. r.resolver) (drop 1 running) ≡ map resolver_of (drop 1 entries)
fewer-resolvers [] [] h = refl
fewer-resolvers (r ∷ rs) (x ∷ xs) h = cc
fewer-resolvers [] (x ∷ xs) h = cc
fewer-resolvers (r ∷ rs) [] h = cc

-- a dispatch whose resolver is there
there : (resolves : Bool) (r own : Resolver) → (if resolves then Some r else None) ≡ Some own → (resolves ≡ true) × (r ≡ own)
there true r own h = (refl, cc)
there false r own h = cc

-- the resolver that is used or kept is that of the innermost request, and goes from its dispatch too
used-resolver : (running : List RunningView) (entries : List StackEntry) (own : Resolver) → resolvers running ≡ map resolver_of entries → resolver_on_top running ≡ Some own
    → ((top : StackEntry) (below : List StackEntry) → entries ≡ top ∷ below → top.resolves ≡ true → released (head_of top.frame).seq (top ∷ below) ≡ record top { resolves = false } ∷ below)
    → resolvers (holding_on_top None running) ≡ map resolver_of (released own.seq entries)
used-resolver [] entries own held on_top apart = cc
used-resolver (r ∷ rs) [] own held on_top apart = cc
used-resolver (r ∷ rs) (x ∷ xs) own held on_top apart =
    let first : resolver_of x ≡ Some own = let e : r.resolver ≡ resolver_of x = cc in sym e ∙ on_top in
    let rest : resolvers rs ≡ map resolver_of xs = cc in
    let t = there x.resolves (resolver_in x) own first in
    let seq : (head_of x.frame).seq ≡ own.seq = ap (λ (y : Resolver). y.seq) t.1 in
    let left : released own.seq (x ∷ xs) ≡ record x { resolves = false } ∷ xs = subst (λ (n : ℤ). released n (x ∷ xs) ≡ record x { resolves = false } ∷ xs) seq (apart x xs refl t.0) in
    ap (λ (os : List (Option Resolver)). None ∷ os) rest ∙ sym (ap (map resolver_of) left)

module _ (seen : EndView) (c : CountsView) (own : Resolver) (held : HoldResolvers c.running seen.end) (on_top : resolver_on_top c.running ≡ Some own) (apart : AreApart seen.end) where
  used : resolvers (with_act (with_resolver None c)).running ≡ map resolver_of (released own.seq (dispatches seen.end.stack))
  used = act-resolvers (with_resolver None c) ∙ used-resolver c.running (dispatches seen.end.stack) own held on_top apart

  answered-by : (vs : Option Values) (refusal : Option SendRefusal) → refusal_of_answer seen (handled own.seq) vs ≡ refusal → map (λ (r : RunningView). r.resolver) (with_answer refusal c).running ≡ map resolver_of (dispatches_after seen.schema seen.end (event.answer (handled own.seq) vs))
  unfolding refusal_of_answer
  answered-by vs None is = used ∙ ap (λ (o : Option SendRefusal). map resolver_of (option_map_or (λ cause. dispatches seen.end.stack) o (released own.seq (dispatches seen.end.stack)))) (sym is)
  answered-by vs (Some cause) is = act-resolvers c ∙ held ∙ ap (λ (o : Option SendRefusal). map resolver_of (option_map_or (λ cause. dispatches seen.end.stack) o (released own.seq (dispatches seen.end.stack)))) (sym is)

  -- an answer by the resolver of the innermost request, and the keeping of it
  pub answered-resolvers : (seq : ℤ) (vs : Option Values) → own.seq ≡ seq → map (λ (r : RunningView). r.resolver) (with_answer (refusal_of_answer seen (handled seq) vs) c).running ≡ map resolver_of (dispatches_after seen.schema seen.end (event.answer (handled seq) vs))
  answered-resolvers seq vs same =
      subst (λ (n : ℤ). map (λ (r : RunningView). r.resolver) (with_answer (refusal_of_answer seen (handled n) vs) c).running ≡ map resolver_of (dispatches_after seen.schema seen.end (event.answer (handled n) vs))) same (answered-by vs (refusal_of_answer seen (handled own.seq) vs) refl)

  pub kept-resolvers : (seq : ℤ) (name : List ℕ) → own.seq ≡ seq → map (λ (r : RunningView). r.resolver) (with_answer None c).running ≡ map resolver_of (dispatches_after seen.schema seen.end (event.keep seq name))
  kept-resolvers seq name same = used ∙ ap (λ (n : ℤ). map resolver_of (released n (dispatches seen.end.stack))) same
