-- Two ends that begin each other: each handles a request that the other sent only while it handled this one's. Each end by
-- itself may do so and what came to each was sent, and still it is no relay: nothing happens in a relay of this script.
use Rattle.std.proofs.Common.{◌≡◌, ℕ, pos, negsuc, true, false, List, [], ◌∷◌, length, Option, Some, None, codes, refl, ap, subst, arith}
use Rattle.std.proofs.lemmas.List.Elements.{All-nil}
use Rattle.ipdl_base.specs.declared.kinds.Compress.TheVariants as compress
use Rattle.ipdl_base.specs.declared.kinds.Direction.{Direction}
use Rattle.ipdl_base.specs.declared.kinds.Direction.TheVariants as direction
use Rattle.ipdl_base.specs.declared.kinds.Level.TheVariants as level
use Rattle.ipdl_base.specs.declared.kinds.Semantics.TheVariants.{Sync}
use Rattle.ipdl_base.specs.declared.kinds.Side.{Side}
use Rattle.ipdl_base.specs.declared.kinds.Side.TheVariants as sides
use Rattle.ipdl_base.specs.declared.line.Line.{Line}
use Rattle.ipdl_base.specs.declared.line.What.{What}
use Rattle.ipdl_base.specs.declared.line.What.TheVariants as what
use Rattle.ipdl_base.specs.declared.message.Body.TheVariants.{Request}
use Rattle.ipdl_base.specs.declared.schema.Kind.TheVariants.{Normal}
use Rattle.ipdl_base.specs.declared.schema.MessageRow.{MessageRow}
use Rattle.ipdl_base.specs.declared.value.Values.TheVariants.{Nothing}
use Rattle.handler_script.specs.declared.action.Action.TheVariants as action
use Rattle.handler_script.specs.declared.term.Terms.TheVariants as terms
use Rattle.script_reader.specs.declared.written.Who.TheVariants as who
use Rattle.channel_model.proofs.FittingValues.{seq-fits, top-lives}
use Rattle.channel_model.specs.Ends.{End, Packet, message}
use Rattle.channel_model.specs.Events.{Event}
use Rattle.channel_model.specs.Events as event
use Rattle.channel_model.specs.Fitting.{FitsPacket}
use Rattle.channel_model.specs.Outputs.{Output, beginning}
use Rattle.channel_model.specs.Steps.{step}
use Rattle.script_steps.specs.Choices.{Setting}
use Rattle.script_steps.specs.Turns.{at_rest}
use Rattle.relay_runs.specs.HalfRuns.{HalfState, begins, after, after_packet, delivered_for, opening_half}
use Rattle.relay_runs.specs.HalfRuns as halves
use Rattle.relay_runs.specs.RelaySteps.{IsRelay, RelayState, RelayStep, acts, gets, opening_relay, stays, steps}
use Rattle.relay_runs.specs.Relays.{EndsAs, IsHalfRunPair}

-- a call to one side
abbrev call_row : ℕ → List ℕ → Direction → MessageRow
call_row number name toward = record { number = number; name = name; direction = toward; semantics = Sync; level = level.InsideSync; compress = compress.Plain; kind = Normal; params = []; returns = Some []; carried = true; lazy = false }

-- Each side calls while it handles the call of the other, and neither has a main.
abbrev calls_back : Setting
calls_back = record {
  schema = record {
    protocols = record { name = codes "PW"; semantics = Sync; level = level.InsideSync; managers = []; manages = []; messages = call_row 0 (codes "CallP") direction.Parent ∷ call_row 2 (codes "CallC") direction.Child ∷ [] } ∷ [];
    types = [];
  };
  script = record {
    top = 0;
    blocks =
        record { side = sides.Parent; handles = Some 0; actions = action.Send who.Top 2 terms.Nothing ∷ []; reply = Some terms.Nothing }
        ∷ record { side = sides.Child; handles = Some 2; actions = action.Send who.Top 0 terms.Nothing ∷ []; reply = Some terms.Nothing }
        ∷ [];
  };
  stop = None;
  limit = 10000;
}

-- the call that each gets and the one that it sends then
abbrev to_parent : Packet
to_parent = message (record { route = pos 2147483647; number = 0; seq = negsuc 0; transaction = pos 1; made = pos 0; body = Request Nothing })

abbrev to_child : Packet
to_child = message (record { route = pos 2147483647; number = 2; seq = pos 1; transaction = pos 1; made = pos 0; body = Request Nothing })

-- what a step gives, where it is possible
abbrev given : End → Option Output → Output
given e None = beginning e
given e (Some output) = output

abbrev acted : HalfState → Event → HalfState
acted half own = after half (given half.end (step calls_back.schema half.end [] own))

abbrev after_call : HalfState → Packet → HalfState
after_call half packet =
    after_packet half packet (delivered_for calls_back.schema half.end packet) (given half.end (step calls_back.schema half.end (delivered_for calls_back.schema half.end packet ∷ []) event.deliver))

abbrev call_of : ℕ → Event
call_of number = event.send (pos 2147483647) number Nothing None

-- each has got the call of the other, has taken it, and calls
abbrev begun : RelayState
begun = record {
  parent = acted (acted (after_call (opening_half calls_back sides.Parent) to_parent) event.take) (call_of 2);
  child = acted (acted (after_call (opening_half calls_back sides.Child) to_child) event.take) (call_of 0);
}

abbrev p : What → Line
p what = record { side = sides.Parent; what = what }

abbrev c : What → Line
c what = record { side = sides.Child; what = what }

parent_lines : begun.parent.lines ≡ p (what.DeliverRequest (negsuc 0)) ∷ p (what.Take (negsuc 0) (pos 2147483647) 0 Nothing) ∷ p (what.Call (pos 1) (pos 1) (pos 2147483647) 2 Nothing) ∷ []
parent_lines = refl

child_lines : begun.child.lines ≡ c (what.DeliverRequest (pos 1)) ∷ c (what.Take (pos 1) (pos 2147483647) 2 Nothing) ∷ c (what.Call (negsuc 0) (pos 1) (pos 2147483647) 0 Nothing) ∷ []
child_lines = refl

-- By what each end knows this is right, and it is finished

fits-parent : FitsPacket calls_back.schema to_parent
fits-parent = (
  call_row 0 (codes "CallP") direction.Parent,
  record {
    found = refl;
    number = refl;
    fields = record { carried = refl; route = top-lives; seq = seq-fits sides.Child 1 (omega arith) (omega arith); transaction = seq-fits sides.Parent 1 (omega arith) (omega arith) };
    made = refl;
    types = tt;
    ids = All-nil _;
  },
)

fits-child : FitsPacket calls_back.schema to_child
fits-child = (
  call_row 2 (codes "CallC") direction.Child,
  record {
    found = refl;
    number = refl;
    fields = record { carried = refl; route = top-lives; seq = seq-fits sides.Parent 1 (omega arith) (omega arith); transaction = seq-fits sides.Parent 1 (omega arith) (omega arith) };
    made = refl;
    types = tt;
    ids = All-nil _;
  },
)

pairs_so : IsHalfRunPair calls_back begun
pairs_so = record {
  parent_runs = halves.acts _ (call_of 2) _ (halves.acts _ event.take _ (halves.gets (opening_half calls_back sides.Parent) to_parent _ begins refl refl refl fits-parent refl) refl refl refl) refl refl refl;
  child_runs = halves.acts _ (call_of 0) _ (halves.acts _ event.take _ (halves.gets (opening_half calls_back sides.Child) to_child _ begins refl refl refl fits-child refl) refl refl refl) refl refl refl;
  to_parent = ([], refl);
  to_child = ([], refl);
}

is_finished : EndsAs calls_back begun at_rest
is_finished = (refl, refl)

-- But no steps lead there: neither side has a first one

none_none : {A : Type 0} (found : A) → None ≡ Some found → ⊥
none_none found h = cc

no-first : (side : Side) (next : RelayState) → RelayStep calls_back side (opening_relay calls_back) next → ⊥
no-first sides.Parent _ (acts own output within is_own is) = none_none own is_own
no-first sides.Child _ (acts own output within is_own is) = none_none own is_own
no-first sides.Parent _ (gets packet output within none opened comes is) = none_none packet comes
no-first sides.Child _ (gets packet output within none opened comes is) = none_none packet comes

nothing-happens : (state : RelayState) → IsRelay calls_back state → state ≡ opening_relay calls_back
nothing-happens _ stays = refl
nothing-happens _ (steps side state next run step) = absurd (no-first side next (subst (λ (s : RelayState). RelayStep calls_back side s next) (nothing-happens state run) step))

three-none : (n : ℕ) → n ≡ 3 → n ≡ 0 → ⊥
three-none n h k = omega (arith, h, k)

no_relay : IsRelay calls_back begun → ⊥
no_relay run = three-none (length begun.parent.lines) refl (ap (λ (state : RelayState). length state.parent.lines) (nothing-happens begun run))
