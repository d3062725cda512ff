-- What main finds where no frame is on top, and the innermost handler where its dispatch is.
use Rattle.std.proofs.Common.{◌≡◌, ℤ, Bool, true, false, ◌&&◌, if◌then◌else◌, List, [], ◌∷◌, map, find, Option, Some, None, is_some, option_and_then, refl, sym, ap, subst, ◌∙◌}
use Rattle.std.specs.Prelude.{IsSome, option_map}
use Rattle.std.specs.List.{AllZip}
use Rattle.handler_script.specs.declared.action.Action.{Action}
use Rattle.handler_script.specs.declared.action.Action.TheVariants as action
use Rattle.handler_script.specs.ScriptOf.{first_of}
use Rattle.handler_script.specs.Valid.{answers_handled}
use Rattle.handler_script.specs.ValueOf.{TermContext}
use Rattle.ipdl_base.specs.declared.schema.Schema.{Schema}
use Rattle.nesting_core.specs.declared.frame.Head.{Head}
use Rattle.nesting_core.specs.declared.frame.StackFrame.{StackFrame}
use Rattle.nesting_core.specs.declared.frame.StackTop.TheVariants as top
use Rattle.nesting_core.specs.Top.{top_of}
use Rattle.channel_model.specs.Answers.{handled_resolver, has_resolver, resolver_in}
use Rattle.channel_model.specs.Ends.{End, Resolver, StackEntry}
use Rattle.channel_model.specs.Numbers.{makes_promise, request_row}
use Rattle.channel_model.specs.Returns.{dispatch_on_top}
use Rattle.channel_model.specs.Sends.{frames_of, may_act}
use Rattle.channel_core.specs.Answers.{IsHandedBack}
use Rattle.script_runs.proofs.Handlers.{HasDispatchOnTop, dispatch-top, empty-top}
use Rattle.script_runs.proofs.ValidBlocks.{IsHandlerAction, answering-row, handler-action}
use Rattle.script_runs.specs.Allowed.{IsAllowed}
use Rattle.script_runs.specs.Dispatches.{dispatches}
use Rattle.script_runs.specs.Handlers.{IsHandlerOf}
use Rattle.script_steps.specs.NextEvent.{event_of}
use Rattle.script_steps.specs.Progress.{HandledRequest, Progress}
use Rattle.world_core.specs.CountsView.{RunningView}
use Rattle.world_core.specs.HalfSteps.{MayGoOn}
use Rattle.world_core.specs.HalfView.{HalfView, IsCountedBy}
use Rattle.world_core.specs.NextSteps.{HasOwn, IsOnTop, acting_seq, handlers_action}
use Rattle.world_core.specs.Resolvers.{HoldResolvers, resolver_of, resolver_on_top}

-- No frame is on top

none-holds : (running : List RunningView) (e : End) → HoldResolvers running e → e.stack ≡ [] → running ≡ []
none-holds [] e held empty = refl
none-holds (r ∷ rs) e held empty = let no : map (λ (x : RunningView). x.resolver) (r ∷ rs) ≡ [] = held ∙ ap (λ (stack : List StackEntry). map resolver_of (dispatches stack)) empty in cc

-- no handler runs there
pub none-runs : (half : HalfView) (p : Progress) → IsCountedBy half p → top_of (frames_of half.end.end) ≡ top.Empty → half.counts.running ≡ []
none-runs half p counted on_top = none-holds half.counts.running half.end.end counted.held (empty-top half.end.end.stack on_top)

none-kept : (b : Bool) → (b && false) ≡ true → ⊥
none-kept true h = cc
none-kept false h = cc

none-there : (e : End) (seq : ℤ) → e.stack ≡ [] → handled_resolver e seq ≡ None
none-there e seq empty = ap (λ (stack : List StackEntry). option_map resolver_in (find (has_resolver seq) stack)) empty

-- and no act that answers a handled request may be tried
none-answers : (schema : Schema) (e : End) (context : TermContext) (seq : ℤ) (act : Action) → e.stack ≡ [] → IsAllowed schema e (event_of context seq act) → answers_handled act ≡ true → ⊥
none-answers schema e context seq (action.Resolve terms) empty may answers =
    let e : None ≡ Some may.0 = sym (ap (option_and_then (λ (r : Resolver). request_row schema r.number)) (none-there e seq empty)) ∙ may.1 in cc
none-answers schema e context seq action.Reject empty may answers =
    let e : None ≡ Some may.0 = sym (ap (option_and_then (λ (r : Resolver). request_row schema r.number)) (none-there e seq empty)) ∙ may.1 in cc
none-answers schema e context seq (action.Keep name) empty may answers = none-kept (may_act e) (ap (λ (o : Option Resolver). may_act e && is_some o) (sym (none-there e seq empty)) ∙ may)
none-answers schema e context seq (action.Send who number terms) empty may answers = cc
none-answers schema e context seq (action.New name who number terms) empty may answers = cc
none-answers schema e context seq (action.Let name who) empty may answers = cc
none-answers schema e context seq (action.ResolveNamed name number terms) empty may answers = cc
none-answers schema e context seq (action.RejectNamed name number) empty may answers = cc
none-answers schema e context seq action.Close empty may answers = cc
none-answers schema e context seq action.Die empty may answers = cc

module _ (half : HalfView) (p : Progress) (counted : IsCountedBy half p) (on_top : top_of (frames_of half.end.end) ≡ top.Empty) where
  pub main-on_top : IsOnTop half
  main-on_top running first = let no : None ≡ Some running = sym (ap (λ (rs : List RunningView). first_of rs) (none-runs half p counted on_top)) ∙ first in cc

  pub main-own : (context : TermContext) (seq : ℤ) (act : Action) → IsAllowed half.end.schema half.end.end (event_of context seq act) → answers_handled act ≡ true → HasOwn half seq
  main-own context seq act may answers = absurd (none-answers half.end.schema half.end.end context seq act (empty-top half.end.end.stack on_top) may answers)

-- A dispatch is on top

-- the innermost running request holds the resolver of the first dispatch
first-holds : (running : List RunningView) (x : StackEntry) (xs : List StackEntry) → map (λ r. r.resolver) running ≡ map resolver_of (x ∷ xs) → resolver_on_top running ≡ resolver_of x
first-holds [] x xs held = cc
first-holds (r ∷ rs) x xs held = cc

module _ (half : HalfView) (p : Progress) (may : MayGoOn half p) (head : Head) (on_top : top_of (frames_of half.end.end) ≡ top.Dispatch head) where
  abbrev frame_on_top : HasDispatchOnTop half.end.end.stack head
  frame_on_top = dispatch-top half.end.end.stack head on_top

  dispatch-is : dispatch_on_top half.end.end.stack ≡ Some frame_on_top.entry
  dispatch-is =
      ap dispatch_on_top frame_on_top.is ∙ ap (λ (f : StackFrame). dispatch_on_top (record frame_on_top.entry { frame = f } ∷ frame_on_top.below)) frame_on_top.frame
      ∙ ap (λ (f : StackFrame). Some (record frame_on_top.entry { frame = f })) (sym frame_on_top.frame)

  pub handler-on_top : IsOnTop half
  handler-on_top running first = subst (λ (o : Option StackEntry). IsSome o) (sym dispatch-is) refl

  holds-resolver : resolver_on_top half.counts.running ≡ resolver_of frame_on_top.entry
  holds-resolver = first-holds half.counts.running frame_on_top.entry (dispatches frame_on_top.below) (may.counted.held ∙ ap (map resolver_of) frame_on_top.entries)

  -- which a return hands back
  pub handed-back : IsHandedBack half.end (resolver_on_top half.counts.running)
  handed-back = ap (option_and_then resolver_of) dispatch-is ∙ sym holds-resolver

  own-of : (hs : List HandledRequest) (act : Action) → p.handled ≡ hs → handlers_action half hs ≡ Some act → answers_handled act ≡ true → HasOwn half (acting_seq hs)
  own-of [] act is found answers = cc
  own-of (request ∷ below) act is found answers =
      let stands : IsHandlerOf half.end.schema half.script half.end.end.side half.end.end frame_on_top.entry request =
      (subst (λ (hs : List HandledRequest). AllZip (IsHandlerOf half.end.schema half.script half.end.end.side half.end.end) (frame_on_top.entry ∷ dispatches frame_on_top.below) hs) is
      (subst (λ (es : List StackEntry). AllZip (IsHandlerOf half.end.schema half.script half.end.end.side half.end.end) es p.handled) frame_on_top.entries may.handlers)).0 in
      let known : IsHandlerAction half.end.schema half.script half.end.end.side request act = handler-action half.end.schema half.script half.end.end.side request act may.valid found in
      let same : known.row ≡ stands.row = let e : Some known.row ≡ Some stands.row = sym known.found ∙ stands.found in cc in
      let promised : makes_promise stands.row ≡ true = ap makes_promise (sym same) ∙ answering-row half.end.schema half.end.end.side known.row act answers known.valid in
      let resolves : frame_on_top.entry.resolves ≡ true = stands.unused promised (known.once answers) in
      record {
        own = resolver_in frame_on_top.entry;
        held = holds-resolver ∙ ap (λ (b : Bool). if b then Some (resolver_in frame_on_top.entry) else None) resolves;
        seq_is = stands.is_dispatch.0;
        found = stands.resolver resolves;
      }

  -- an action that answers the innermost request finds its resolver
  pub handler-own : (act : Action) → handlers_action half p.handled ≡ Some act → answers_handled act ≡ true → HasOwn half (acting_seq p.handled)
  handler-own act found answers = own-of p.handled act refl found answers
