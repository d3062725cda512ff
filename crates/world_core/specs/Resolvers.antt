-- Whose resolvers the running requests of a side have.
use Rattle.std.specs.Prelude.{◌≡◌, true, false, List, [], ◌∷◌, map, Option, Some, None, if◌then◌else◌}
use Rattle.nesting_core.specs.Frames.{head_of}
use Rattle.channel_model.specs.Answers.{released, resolver_in}
use Rattle.channel_model.specs.Ends.{End, Resolver, StackEntry}
use Rattle.script_runs.specs.Dispatches.{dispatches}
use Rattle.world_core.specs.CountsView.{RunningView}

-- the resolver of a dispatch, where it was neither used nor kept
abbrev pub resolver_of : StackEntry → Option Resolver
resolver_of entry = if entry.resolves then Some (resolver_in entry) else None

-- each running request has the resolver of its dispatch, as long as that is there
abbrev pub HoldResolvers : List RunningView → End → Type 0
HoldResolvers running e = map (λ r. r.resolver) running ≡ map resolver_of (dispatches e.stack)

-- the resolver that the innermost running request has
abbrev pub resolver_on_top : List RunningView → Option Resolver
resolver_on_top [] = None
resolver_on_top (top ∷ below) = top.resolver

-- no two dispatches have the resolver of one request: where that of the innermost one is used or kept, the others stay
abbrev pub AreApart : End → Type 0
AreApart e = (top : StackEntry) (below : List StackEntry) → dispatches e.stack ≡ top ∷ below → top.resolves ≡ true → released (head_of top.frame).seq (top ∷ below) ≡ record top { resolves = false } ∷ below
