-- Worked moments of a run: whose handlers run, which dispatches there are, and whether a handler has its resolver.
use Rattle.std.specs.Prelude.{◌≡◌, ℤ, pos, negsuc, Bool, true, false, List, [], ◌∷◌, map, Option, Some, None, codes, refl}
use Rattle.std.specs.Option.{option_map}
use Rattle.handler_script.specs.declared.action.Action.TheVariants as action
use Rattle.handler_script.specs.declared.script.Script.{Script}
use Rattle.handler_script.specs.declared.term.Terms.TheVariants as terms
use Rattle.ipdl_base.specs.declared.builtin.Builtin.TheVariants as word
use Rattle.ipdl_base.specs.declared.kinds.Compress.TheVariants as compress
use Rattle.ipdl_base.specs.declared.kinds.Direction.TheVariants as direction
use Rattle.ipdl_base.specs.declared.kinds.Level.TheVariants as level
use Rattle.ipdl_base.specs.declared.kinds.Semantics.TheVariants.{Async}
use Rattle.ipdl_base.specs.declared.kinds.Side.TheVariants as sides
use Rattle.ipdl_base.specs.declared.schema.Kind.TheVariants.{Normal}
use Rattle.ipdl_base.specs.declared.schema.Schema.{Schema}
use Rattle.ipdl_base.specs.declared.schema.Shape as shapes
use Rattle.nesting_core.specs.Frames.{head_of}
use Rattle.script_reader.specs.declared.written.Who.TheVariants as who
use Rattle.channel_model.specs.Answers.{handled_resolver}
use Rattle.channel_model.specs.Ends.{StackEntry, Resolver}
use Rattle.channel_model.specs.Events.{handled}
use Rattle.channel_model.specs.Events as event
use Rattle.channel_model.specs.Runs.{RunState}
use Rattle.script_steps.specs.Choices.{Setting, Choice, beginning_of, own_event, is_doable, played}
use Rattle.script_steps.specs.Progress.{HandledRequest, progress_of}
use Rattle.script_runs.specs.Dispatches.{dispatches, dispatches_after}
use Rattle.script_runs.specs.Handlers.{has_answered}

-- A request with a promise, which the child sends; the parent names an actor, keeps the resolver, and closes.

abbrev asking : Schema
asking = record {
  protocols = (
      record {
        name = (codes "PQ");
        semantics = Async;
        level = level.Not;
        managers = [];
        manages = [];
        messages = (
            record { number = 0; name = (codes "Get"); direction = direction.Parent; semantics = Async; level = level.Not; compress = compress.Plain; kind = Normal; params = []; returns = (Some (record { name = (codes "r"); shape = (shapes.Builtin word.Int32) } ∷ [])); carried = true; lazy = false } ∷ []);
      } ∷ []);
  types = [];
}

abbrev keeping : Script
keeping = record {
  top = 0;
  blocks = (
      record { side = sides.Child; handles = None; actions = (action.Send who.Top 0 terms.Nothing ∷ []); reply = None } ∷
      record { side = sides.Parent; handles = (Some 0); actions = (action.Let (codes "a") who.This ∷ action.Keep (codes "k") ∷ action.Close ∷ []); reply = None } ∷ []);
}

abbrev setting : Setting
setting = record { schema = asking; script = keeping; stop = None; limit = 100 }

abbrev own : Choice
own = record { side = sides.Parent; delivers = false }

-- the child sends, and the parent gets the request and makes a given number of steps of its own
abbrev choices : List Choice → List Choice
choices more = record { side = sides.Child; delivers = false } ∷ record { side = sides.Parent; delivers = true } ∷ more

-- What is seen of a handler at the parent.
record Seen : Type 0 where
  seqs : List ℤ
  handlers : List ℤ
  answered : List Bool
  resolver : Option Resolver
  next : Option Bool

abbrev seen : RunState → Seen
seen state = record {
  seqs = map (λ (entry : StackEntry). (head_of entry.frame).seq) (dispatches state.world.parent.stack);
  handlers = map (λ (request : HandledRequest). request.seq) (progress_of sides.Parent state.lines).handled;
  answered = map (has_answered keeping sides.Parent) (progress_of sides.Parent state.lines).handled;
  resolver = handled_resolver state.world.parent (negsuc 0);
  next = option_map (is_doable setting sides.Parent state) (own_event setting sides.Parent state);
}

abbrev its_resolver : Resolver
its_resolver = record { seq = negsuc 0; route = pos 2147483647; number = 0 }

-- before the take no handler runs for it
before_take : option_map seen (played setting (choices []) (beginning_of setting)) ≡ Some (record { seqs = []; handlers = []; answered = []; resolver = None; next = Some true })
before_take = refl

-- as it is taken, and after an act that does not answer, the handler has its resolver
taken : option_map seen (played setting (choices (own ∷ [])) (beginning_of setting)) ≡ Some (record { seqs = negsuc 0 ∷ []; handlers = negsuc 0 ∷ []; answered = false ∷ []; resolver = Some its_resolver; next = Some true })
taken = refl

named : option_map seen (played setting (choices (own ∷ own ∷ [])) (beginning_of setting)) ≡ Some (record { seqs = negsuc 0 ∷ []; handlers = negsuc 0 ∷ []; answered = false ∷ []; resolver = Some its_resolver; next = Some true })
named = refl

-- after the act that keeps the resolver, the handler does not have it, and still runs
kept_after : option_map seen (played setting (choices (own ∷ own ∷ own ∷ [])) (beginning_of setting)) ≡ Some (record { seqs = negsuc 0 ∷ []; handlers = negsuc 0 ∷ []; answered = true ∷ []; resolver = None; next = Some true })
kept_after = refl

-- after the close it returns, and nothing is left to do at a closed end
returned : option_map seen (played setting (choices (own ∷ own ∷ own ∷ own ∷ own ∷ [])) (beginning_of setting)) ≡ Some (record { seqs = []; handlers = []; answered = []; resolver = None; next = None })
returned = refl

-- the dispatches after steps from the moment before the keep
abbrev resolving : StackEntry → Bool
resolving entry = entry.resolves

kept_dispatches :
    option_map (λ (state : RunState). map resolving (dispatches_after asking state.world.parent (event.keep (negsuc 0) (codes "k")))) (played setting (choices (own ∷ own ∷ [])) (beginning_of setting)) ≡ Some (false ∷ [])
kept_dispatches = refl

answered_dispatches : option_map (λ (state : RunState). map resolving (dispatches_after asking state.world.parent (event.answer (handled (negsuc 0)) None))) (played setting (choices (own ∷ own ∷ [])) (beginning_of setting)) ≡ Some (false ∷ [])
answered_dispatches = refl

taken_dispatches : option_map (λ (state : RunState). map resolving (dispatches_after asking state.world.parent event.take)) (played setting (choices []) (beginning_of setting)) ≡ Some (true ∷ [])
taken_dispatches = refl
