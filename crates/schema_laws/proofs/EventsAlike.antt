-- What an end does next does not depend on where the boxes of a script are.
use Rattle.std.proofs.Common.{◌≡◌, ◌∙◌, ℕ, ◌-◌, List, [], ◌∷◌, length, map, Bool, true, false, cond, Option, None, Some, refl, sym, ap}
use Rattle.std.specs.Prelude.{min, filter, slice_get, if◌then◌else◌, option_map, option_and_then}
use Rattle.std.specs.Option.{option_map_or}
use Rattle.std.proofs.lemmas.List.{length-map}
use Rattle.std.proofs.lemmas.Option.{slice_get-map}
use Rattle.ipdl_base.specs.declared.kinds.Side.{Side}
use Rattle.nesting_core.specs.declared.frame.StackTop.{StackTop}
use Rattle.nesting_core.specs.declared.frame.StackTop.TheVariants as top
use Rattle.nesting_core.specs.Top.{top_of}
use Rattle.schema_laws.proofs.Rows.{option_alike, then_alike}
use Rattle.channel_model.specs.Ends.{End, end_of}
use Rattle.channel_model.specs.Events.{Event}
use Rattle.channel_model.specs.Events as event
use Rattle.channel_model.specs.Outputs.{is_open, is_dead_end}
use Rattle.channel_model.specs.Sends.{frames_of}
use Rattle.handler_script.specs.declared.action.Block.{Block}
use Rattle.handler_script.specs.declared.script.Point.{Point}
use Rattle.handler_script.specs.declared.script.Point.TheVariants as point
use Rattle.handler_script.specs.declared.script.Script.{Script}
use Rattle.handler_script.specs.Plain.{plain_terms, plain_action, plain_block, plain_script}
use Rattle.handler_script.specs.ScriptOf.{blocks_for, action_at, reply_at}
use Rattle.handler_script.specs.Served.{serves}
use Rattle.handler_script.specs.ValueOf.{TermContext, no_id, values_of}
use Rattle.schedules.specs.declared.stop.Stop.{Stop}
use Rattle.script_steps.specs.NextEvent.{context_of, event_of, block_for, handler_action, return_of, by_handler, by_taking, by_main, or_else, by_top, by_flushing, is_stopped, next_event}
use Rattle.script_steps.specs.Progress.{HandledRequest, Progress, progress_of}
use Rattle.schema_laws.specs.Runs.{EventsAlike}
use Rattle.schema_laws.proofs.TermsAlike.{values_alike, event_alike}

-- the result for an option is the same if it is the same for each value
mapped_alike : {X Y : Type 0} (look : X → X) (f : X → Y) → ((x : X) → f (look x) ≡ f x) → (o : Option X) → option_map f (option_map look o) ≡ option_map f o
mapped_alike look f same None = refl
mapped_alike look f same (Some x) = λ i. Some (same x i)

-- Blocks

kept_or : (b : Bool) (block : Block) (others blocks : List Block) → others ≡ map plain_block blocks → cond b (plain_block block ∷ others) others ≡ map plain_block (cond b (block ∷ blocks) blocks)
kept_or true block others blocks same = ap (λ rest. plain_block block ∷ rest) same
kept_or false block others blocks same = same

serving_alike : (side : Side) (handled : Option ℕ) (blocks : List Block) → filter (serves side handled) (map plain_block blocks) ≡ map plain_block (filter (serves side handled) blocks)
serving_alike side handled [] = refl
serving_alike side handled (block ∷ blocks) =
    kept_or (serves side handled block) block (filter (serves side handled) (map plain_block blocks)) (filter (serves side handled) blocks) (serving_alike side handled blocks)

module _ (s : Script) (side : Side) where
  blocks_alike : (handled : Option ℕ) → blocks_for (plain_script s) side handled ≡ map plain_block (blocks_for s side handled)
  blocks_alike handled = serving_alike side handled s.blocks

  block_at : (handled : Option ℕ) (place : ℕ) → slice_get (blocks_for (plain_script s) side handled) place ≡ option_map plain_block (slice_get (blocks_for s side handled) place)
  block_at handled place = (λ i. slice_get (blocks_alike handled i) place) ∙ slice_get-map plain_block (blocks_for s side handled) place

  -- the action of this index in a block
  action_in : (handled : Option ℕ) (place index : ℕ)
      → option_and_then (λ block. slice_get block.actions index) (slice_get (blocks_for (plain_script s) side handled) place)
      ≡ option_map plain_action (option_and_then (λ block. slice_get block.actions index) (slice_get (blocks_for s side handled) place))
  action_in handled place index =
      (λ i. option_and_then (λ block. slice_get block.actions index) (block_at handled place i))
      ∙ then_alike plain_block plain_action (λ block. slice_get block.actions index) (λ block. slice_get-map plain_action block.actions index) (slice_get (blocks_for s side handled) place)

  action_alike : (p : Point) → action_at (plain_script s) side p ≡ option_map plain_action (action_at s side p)
  action_alike (point.Main index) = action_in None 0 index
  action_alike (point.Handler number place index) = action_in (Some number) place index

  reply_alike : (number place : ℕ) → reply_at (plain_script s) side number place ≡ option_map plain_terms (reply_at s side number place)
  reply_alike number place =
      (λ i. option_and_then (λ block. block.reply) (block_at (Some number) place i))
      ∙ then_alike plain_block plain_terms (λ block. block.reply) (λ block. refl) (slice_get (blocks_for s side (Some number)) place)

  -- Handlers

  block_for_alike : (request : HandledRequest) → block_for (plain_script s) side request ≡ block_for s side request
  block_for_alike request =
      (λ i. min request.block (length (blocks_alike (Some request.number) i) - 1))
      ∙ (λ i. min request.block (length-map (blocks_for s side (Some request.number)) plain_block i - 1))

  handler_alike : (request : HandledRequest) → handler_action (plain_script s) side request ≡ option_map plain_action (handler_action s side request)
  handler_alike request =
      (λ i. action_at (plain_script s) side (point.Handler request.number (block_for_alike request i) request.acts))
      ∙ action_alike (point.Handler request.number (block_for s side request) request.acts)

  given_back : (context : TermContext) (request : HandledRequest)
      → option_map (values_of context) (reply_at (plain_script s) side request.number (block_for (plain_script s) side request)) ≡ option_map (values_of context) (reply_at s side request.number (block_for s side request))
  given_back context request =
      (λ i. option_map (values_of context) (reply_at (plain_script s) side request.number (block_for_alike request i)))
      ∙ (λ i. option_map (values_of context) (reply_alike request.number (block_for s side request) i))
      ∙ mapped_alike plain_terms (values_of context) (values_alike context) (reply_at s side request.number (block_for s side request))

  return_alike : (context : TermContext) (request : HandledRequest) → return_of (plain_script s) side context request ≡ return_of s side context request
  return_alike context request = λ i. event.return (given_back context request i)

module _ (s : Script) (e : End) where
  handlers_alike : (requests : List HandledRequest) → by_handler (plain_script s) e requests ≡ by_handler s e requests
  handlers_alike [] = refl
  handlers_alike (request ∷ below) =
      let context : TermContext = context_of e (request ∷ below) in
      (λ i. option_map_or (event_of context request.seq) (handler_alike s e.side request i) (return_alike s e.side context request i))
      ∙ option_alike plain_action (event_of context request.seq) (event_of context request.seq) (event_alike context request.seq) (return_of s e.side context request) (handler_action s e.side request)

  main_alike : (progress : Progress) → by_main (plain_script s) e progress ≡ by_main s e progress
  main_alike progress =
      (λ i. if is_open e.state then option_map (event_of (context_of e []) no_id) (action_alike s e.side (point.Main progress.main) i) else None)
      ∙ (λ i. if is_open e.state then mapped_alike plain_action (event_of (context_of e []) no_id) (event_alike (context_of e []) no_id) (action_at s e.side (point.Main progress.main)) i else None)

  top_alike : (progress : Progress) (frame : StackTop) → by_top (plain_script s) e progress frame ≡ by_top s e progress frame
  top_alike progress top.Empty = λ i. or_else (by_taking e) (main_alike progress i)
  top_alike progress (top.Dispatch head) = λ i. Some (handlers_alike progress.handled i)
  top_alike progress (top.Unanswered head) = refl
  top_alike progress (top.Answered head) = refl

  pub next_alike : (stop : Option Stop) (progress : Progress) → next_event (plain_script s) stop e progress ≡ next_event s stop e progress
  next_alike stop progress = λ i.
      if is_dead_end e.state then None else
      (if is_stopped stop e.side progress then Some event.die else
      or_else (top_alike progress (top_of (frames_of e)) i) (by_flushing e))

pub events_alike : EventsAlike
events_alike a b alike side state =
    let e : End = end_of side state.world in
    let progress : Progress = progress_of side state.lines in
    sym (next_alike a.script e a.stop progress) ∙ (λ i. next_event (alike.scripts i) (alike.stop i) e progress) ∙ next_alike b.script e b.stop progress
