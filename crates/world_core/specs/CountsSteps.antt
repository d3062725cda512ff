-- The counts of a side after one more event.
use Rattle.std.specs.Prelude.{◌+◌, List, [], ◌∷◌, drop, Option, Some, None}
use Rattle.ipdl_base.specs.declared.kinds.SendRefusal.{SendRefusal}
use Rattle.channel_model.specs.Ends.{Resolver}
use Rattle.channel_core.specs.declared.answers.ResolveAnswer.{ResolveAnswer}
use Rattle.channel_core.specs.declared.answers.ResolveAnswer.TheVariants as resolve
use Rattle.world_core.specs.declared.answers.StepAnswer.{StepAnswer}
use Rattle.world_core.specs.declared.answers.StepAnswer.TheVariants as answer
use Rattle.world_core.specs.CountsView.{CountsView, RunningView}

-- one more event
abbrev pub with_event : CountsView → CountsView
with_event before = record before { events = before.events + 1 }

-- one more act of the innermost handler, or of main where no handler runs
abbrev pub with_act_of : List RunningView → CountsView → CountsView
with_act_of [] before = record before { main = before.main + 1 }
with_act_of (top ∷ below) before = record before { running = record top { acts = top.acts + 1 } ∷ below }

-- an act
abbrev pub with_act : CountsView → CountsView
with_act before = with_act_of before.running (with_event before)

-- the innermost handler returns
abbrev pub with_return : CountsView → CountsView
with_return before = record (with_event before) { running = drop 1 before.running }

-- all handlers end by a death
abbrev pub with_death : CountsView → CountsView
with_death before = record (with_event before) { running = [] }

-- running requests of which the innermost has this resolver, or no resolver
abbrev pub holding_on_top : Option Resolver → List RunningView → List RunningView
holding_on_top resolver [] = []
holding_on_top resolver (top ∷ below) = record top { resolver = resolver } ∷ below

-- the innermost request has this resolver, or no resolver
abbrev pub with_resolver : Option Resolver → CountsView → CountsView
with_resolver resolver before = record before { running = holding_on_top resolver before.running }

-- an act that answers the innermost request: its resolver is used, unless the answer is refused
abbrev pub with_answer : Option SendRefusal → CountsView → CountsView
with_answer None before = with_act (with_resolver None before)
with_answer (Some cause) before = with_act before

-- the counts after an answer by the innermost request's resolver, which was taken out, and what the call answers
abbrev pub after_answer : ResolveAnswer → CountsView → CountsView
after_answer resolve.Sent before = with_act before
after_answer (resolve.Refused cause back) before = with_act (with_resolver (Some back) before)
after_answer (resolve.NoMemory back) before = with_resolver (Some back) before

abbrev pub told_answer : ResolveAnswer → StepAnswer
told_answer resolve.Sent = answer.Did
told_answer (resolve.Refused cause back) = answer.Did
told_answer (resolve.NoMemory back) = answer.NoMemory
