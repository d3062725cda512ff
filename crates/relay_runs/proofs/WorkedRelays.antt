-- Worked relays in turns: each gives exactly these lines of the parent and of the child, and ends so.
use Rattle.std.specs.Prelude.{◌≡◌, ℤ, pos, negsuc, true, false, List, [], ◌∷◌, Option, Some, None, codes, option_map, refl}
use Rattle.ipdl_base.specs.declared.builtin.Builtin.TheVariants as word
use Rattle.ipdl_base.specs.declared.kinds.Compress.TheVariants as compress
use Rattle.ipdl_base.specs.declared.kinds.Destroy.TheVariants as destroy
use Rattle.ipdl_base.specs.declared.kinds.Direction.TheVariants as direction
use Rattle.ipdl_base.specs.declared.kinds.Level.TheVariants as level
use Rattle.ipdl_base.specs.declared.kinds.Semantics.TheVariants.{Async, Sync}
use Rattle.ipdl_base.specs.declared.kinds.Side.TheVariants as side
use Rattle.ipdl_base.specs.declared.line.Line.{Line}
use Rattle.ipdl_base.specs.declared.line.What.{What}
use Rattle.ipdl_base.specs.declared.line.What.TheVariants as what
use Rattle.ipdl_base.specs.declared.schema.Kind.TheVariants.{Normal}
use Rattle.ipdl_base.specs.declared.schema.Schema.{Schema}
use Rattle.ipdl_base.specs.declared.schema.Shape as shapes
use Rattle.ipdl_base.specs.declared.value.Value.TheVariants as value
use Rattle.ipdl_base.specs.declared.value.Values.{Values, First'}
use Rattle.ipdl_base.specs.declared.value.Values.TheVariants.{Nothing}
use Rattle.ipdl_base.specs.Plain.{one_box}
use Rattle.handler_script.specs.declared.action.Action.TheVariants as action
use Rattle.handler_script.specs.declared.term.Term.TheVariants as term
use Rattle.handler_script.specs.declared.term.Terms.{First' as Given}
use Rattle.handler_script.specs.declared.term.Terms.{Terms}
use Rattle.handler_script.specs.declared.term.Terms.TheVariants as terms
use Rattle.script_reader.specs.declared.written.Who.TheVariants as who
use Rattle.script_steps.specs.Choices.{Setting}
use Rattle.script_steps.specs.Turns.{RunEnding, at_limit, at_rest}
use Rattle.relay_runs.specs.RelaySteps.{opening_relay}
use Rattle.relay_runs.specs.Relays.{relayed}

-- What a relay shows.
record Shown : Type 0 where
  parent : List Line
  child : List Line
  ending : RunEnding

abbrev shown : Setting → Option Shown
shown setting = option_map (λ end. record { parent = end.state.parent.lines; child = end.state.child.lines; ending = end.ending }) (relayed setting 30 side.Parent 2 (opening_relay setting))

abbrev p : What → Line
p what = record { side = side.Parent; what = what }

abbrev c : What → Line
c what = record { side = side.Child; what = what }

abbrev number : ℤ → Values
number n = First' one_box (value.Int n) one_box Nothing

abbrev written : ℤ → Terms
written n = Given one_box (term.Int n) one_box terms.Nothing

-- calls to either side, and a message with a number to the child
abbrev schema : Schema
schema = record {
  protocols = record {
    name = codes "PW";
    semantics = Sync;
    level = level.InsideSync;
    managers = [];
    manages = [];
    messages =
        record { number = 0; name = codes "CallP"; direction = direction.Parent; semantics = Sync; level = level.InsideSync; compress = compress.Plain; kind = Normal; params = []; returns = Some (record { name = codes "r"; shape = shapes.Builtin word.Int32 } ∷ []); carried = true; lazy = false }
        ∷ record { number = 2; name = codes "CallC"; direction = direction.Child; semantics = Sync; level = level.InsideSync; compress = compress.Plain; kind = Normal; params = []; returns = Some (record { name = codes "r"; shape = shapes.Builtin word.Int32 } ∷ []); carried = true; lazy = false }
        ∷ record { number = 4; name = codes "Tell"; direction = direction.Child; semantics = Async; level = level.Not; compress = compress.Plain; kind = Normal; params = record { name = codes "n"; shape = shapes.Builtin word.Int32 } ∷ []; returns = None; carried = true; lazy = false }
        ∷ [];
  } ∷ [];
  types = [];
}

-- Two tells

abbrev two_tells : Setting
two_tells = record {
  schema = schema;
  script = record { top = 0; blocks = record { side = side.Parent; handles = None; actions = action.Send who.Top 4 (written (pos 5)) ∷ action.Send who.Top 4 (written (pos 6)) ∷ []; reply = None } ∷ [] };
  stop = None;
  limit = 10000;
}

abbrev two_sends : List Line
two_sends = p (what.Send (pos 1) (pos 2147483647) 4 (number (pos 5))) ∷ p (what.Send (pos 2) (pos 2147483647) 4 (number (pos 6))) ∷ []

tells_come_in_order : shown two_tells ≡ Some (record {
  parent = two_sends;
  child =
      c (what.DeliverRequest (pos 1))
      ∷ c (what.Take (pos 1) (pos 2147483647) 4 (number (pos 5)))
      ∷ c (what.Return (pos 1))
      ∷ c (what.DeliverRequest (pos 2))
      ∷ c (what.Take (pos 2) (pos 2147483647) 4 (number (pos 6)))
      ∷ c (what.Return (pos 2))
      ∷ [];
  ending = at_rest;
})
tells_come_in_order = refl

-- where each side may have one event, the parent is the first that has something left to do
spent_at_once : shown (record two_tells { limit = 1 }) ≡ Some (record {
  parent = p (what.Send (pos 1) (pos 2147483647) 4 (number (pos 5))) ∷ [];
  child = c (what.DeliverRequest (pos 1)) ∷ [];
  ending = at_limit side.Parent;
})
spent_at_once = refl

-- the child dies after its first event: the second tell never comes to it, and the parent hears of the death
child_dies : shown (record two_tells { stop = Some (record { side = side.Child; after = 1 }) }) ≡ Some (record {
  parent = p (what.Send (pos 1) (pos 2147483647) 4 (number (pos 5))) ∷ p (what.Send (pos 2) (pos 2147483647) 4 (number (pos 6))) ∷ p what.DeliverBroken ∷ p what.ShutAbnormal ∷ p (what.Fall (pos 2147483647) destroy.AbnormalShutdown) ∷ [];
  child = c (what.DeliverRequest (pos 1)) ∷ c what.Die ∷ [];
  ending = at_rest;
})
child_dies = refl

-- Both call at once

abbrev both_call : Setting
both_call = record {
  schema = schema;
  script = record {
    top = 0;
    blocks =
        record { side = side.Parent; handles = None; actions = action.Send who.Top 2 terms.Nothing ∷ []; reply = None }
        ∷ record { side = side.Child; handles = None; actions = action.Send who.Top 0 terms.Nothing ∷ []; reply = None }
        ∷ record { side = side.Parent; handles = Some 0; actions = []; reply = Some (written (pos 10)) }
        ∷ record { side = side.Child; handles = Some 2; actions = []; reply = Some (written (pos 20)) }
        ∷ [];
  };
  stop = None;
  limit = 10000;
}

-- each is answered once, the parent's call first
both_are_answered : shown both_call ≡ Some (record {
  parent =
      p (what.Call (pos 1) (pos 1) (pos 2147483647) 2 Nothing)
      ∷ p (what.DeliverRequest (negsuc 0))
      ∷ p (what.DeliverReply (pos 1))
      ∷ p (what.ResumeOk (pos 1) (number (pos 20)))
      ∷ p (what.Take (negsuc 0) (pos 2147483647) 0 Nothing)
      ∷ p (what.Return (negsuc 0))
      ∷ p (what.AnswerOk (negsuc 0) (number (pos 10)))
      ∷ [];
  child =
      c (what.Call (negsuc 0) (negsuc 0) (pos 2147483647) 0 Nothing)
      ∷ c (what.DeliverRequest (pos 1))
      ∷ c (what.Take (pos 1) (pos 2147483647) 2 Nothing)
      ∷ c (what.Return (pos 1))
      ∷ c (what.AnswerOk (pos 1) (number (pos 20)))
      ∷ c (what.DeliverReply (negsuc 0))
      ∷ c (what.ResumeOk (negsuc 0) (number (pos 10)))
      ∷ [];
  ending = at_rest;
})
both_are_answered = refl
