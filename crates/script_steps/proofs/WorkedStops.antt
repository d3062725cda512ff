-- Worked scripts with a stop, or with a limit that is reached.
use Rattle.std.specs.Prelude.{◌≡◌, ℕ, ℤ, pos, negsuc, Bool, true, false, List, [], ◌∷◌, Some, None, codes, replicate, refl}
use Rattle.std.proofs.Common.{ap}
use Rattle.std.specs.Str.{is_utf8, chars}
use Rattle.actor_tree.specs.declared.actor.Actor.{Actor}
use Rattle.ipdl_base.specs.declared.line.Line.{Line}
use Rattle.ipdl_base.specs.declared.line.What.{What}
use Rattle.ipdl_base.specs.declared.line.What.TheVariants as what
use Rattle.ipdl_base.specs.declared.builtin.Builtin.TheVariants as word
use Rattle.ipdl_base.specs.declared.kinds.Compress.TheVariants as compress
use Rattle.ipdl_base.specs.declared.kinds.Destroy.TheVariants as destroy
use Rattle.ipdl_base.specs.declared.kinds.Direction.TheVariants as direction
use Rattle.ipdl_base.specs.declared.kinds.Level.{Level}
use Rattle.ipdl_base.specs.declared.kinds.Level.TheVariants as level
use Rattle.ipdl_base.specs.declared.kinds.Reason.TheVariants as reason
use Rattle.ipdl_base.specs.declared.kinds.Semantics.TheVariants.{Async, Sync}
use Rattle.ipdl_base.specs.declared.kinds.SendRefusal.TheVariants as refusal
use Rattle.ipdl_base.specs.declared.kinds.Side.TheVariants as side
use Rattle.ipdl_base.specs.declared.message.Body.{Body}
use Rattle.ipdl_base.specs.declared.message.Body.TheVariants.{Request, Reply, Fault, Goodbye}
use Rattle.ipdl_base.specs.declared.message.Message.{Message}
use Rattle.ipdl_base.specs.declared.schema.Kind.TheVariants.{Normal, Constructor, Delete}
use Rattle.ipdl_base.specs.declared.schema.MessageRow.{MessageRow}
use Rattle.ipdl_base.specs.declared.schema.ParamRow.{ParamRow}
use Rattle.ipdl_base.specs.declared.schema.ProtocolRow.{ProtocolRow}
use Rattle.ipdl_base.specs.declared.schema.Schema.{Schema}
use Rattle.ipdl_base.specs.declared.schema.Shape as shapes
use Rattle.ipdl_base.specs.declared.schema.TypeRow.{TypeRow}
use Rattle.ipdl_base.specs.declared.schema.TypeRow.TheVariants as types
use Rattle.ipdl_base.specs.declared.value.Value.{Value, Union', Maybe', None', Some'}
use Rattle.ipdl_base.specs.declared.value.Value.TheVariants as value
use Rattle.ipdl_base.specs.declared.value.Values.{Values, First'}
use Rattle.ipdl_base.specs.declared.value.Values.TheVariants.{Nothing}
use Rattle.ipdl_base.specs.Plain.{one_box}
use Rattle.nesting_core.specs.declared.frame.Answer.TheVariants as answers
use Rattle.nesting_core.specs.declared.frame.StackFrame.TheVariants as frames
use Rattle.pending_queue.specs.declared.item.Item.{Item}
use Rattle.pending_queue.specs.declared.item.Item.TheVariants as items
use Rattle.promise_table.specs.declared.promise.Outcome.TheVariants as outcomes
use Rattle.ipdl_base.specs.declared.kinds.EndState.TheVariants as states
use Rattle.channel_model.specs.Ends.{End, World, StackEntry, PromiseEntry, Naming, Packet, opening, message, mark, actor, resolver}
use Rattle.std.specs.Prelude.{option_map}
use Rattle.handler_script.specs.declared.action.Action.{Action}
use Rattle.handler_script.specs.declared.action.Action.TheVariants as action
use Rattle.handler_script.specs.declared.action.Block.{Block}
use Rattle.handler_script.specs.declared.script.Script.{Script}
use Rattle.handler_script.specs.declared.term.Term.{Term}
use Rattle.handler_script.specs.declared.term.Term as boxed
use Rattle.handler_script.specs.declared.term.Term.TheVariants as term
use Rattle.handler_script.specs.declared.term.Terms.{Terms}
use Rattle.handler_script.specs.declared.term.Terms as boxed_terms
use Rattle.handler_script.specs.declared.term.Terms.TheVariants as terms
use Rattle.script_reader.specs.declared.written.Who.TheVariants as who
use Rattle.schedules.specs.declared.turn.Turn.{Turn}
use Rattle.script_steps.specs.Choices.{Setting}
use Rattle.script_steps.specs.Turns.{at_rest, at_limit}
use Rattle.script_steps.proofs.Shown.{shown}

abbrev p : What → Line
p what = record { side = side.Parent; what = what }

abbrev c : What → Line
c what = record { side = side.Child; what = what }

abbrev v : Value → Values → Values
v first rest = First' one_box first one_box rest

abbrev t : Term → Terms → Terms
t first rest = boxed_terms.First' one_box first one_box rest

abbrev tP : Turn
tP = record { side = side.Parent; only_deliver = false }

abbrev tC : Turn
tC = record { side = side.Child; only_deliver = false }

abbrev tp : Turn
tp = record { side = side.Parent; only_deliver = true }

abbrev tc : Turn
tc = record { side = side.Child; only_deliver = true }

abbrev death_under_nested_waits_schema : Schema
death_under_nested_waits_schema = record {
  protocols = (
      record {
        name = (codes "PW");
        semantics = Sync;
        level = level.InsideCpow;
        managers = ([]);
        manages = ([]);
        messages = (
            record { number = 0; name = (codes "CallP"); direction = direction.Parent; semantics = Sync; level = level.InsideSync; compress = compress.Plain; kind = Normal; params = ([]); returns = (Some (record { name = (codes "r"); shape = (shapes.Builtin word.Int32) } ∷ [])); carried = true; lazy = false } ∷
            record { number = 2; name = (codes "Poke"); direction = direction.Parent; semantics = Async; level = level.InsideCpow; compress = compress.Plain; kind = Normal; params = ([]); returns = None; carried = true; lazy = false } ∷
            record { number = 4; name = (codes "Base"); direction = direction.Parent; semantics = Sync; level = level.Not; compress = compress.Plain; kind = Normal; params = ([]); returns = None; carried = true; lazy = false } ∷
            record { number = 6; name = (codes "CallC"); direction = direction.Child; semantics = Sync; level = level.InsideSync; compress = compress.Plain; kind = Normal; params = ([]); returns = (Some (record { name = (codes "r"); shape = (shapes.Builtin word.Int32) } ∷ [])); carried = true; lazy = false } ∷
            record { number = 8; name = (codes "Tell"); direction = direction.Child; semantics = Async; level = level.Not; compress = compress.Plain; kind = Normal; params = (record { name = (codes "n"); shape = (shapes.Builtin word.Int32) } ∷ []); returns = None; carried = true; lazy = false } ∷
            record { number = 10; name = (codes "Give"); direction = direction.Child; semantics = Async; level = level.Not; compress = compress.Plain; kind = Normal; params = (record { name = (codes "w"); shape = (shapes.Actor 0 false) } ∷ []); returns = None; carried = true; lazy = false } ∷ []);
      } ∷ []);
  types = ([]);
}

abbrev death_under_nested_waits_script : Script
death_under_nested_waits_script = record {
  top = 0;
  blocks = (
      record { side = side.Parent; handles = None; actions = (action.Send who.Top 6 terms.Nothing ∷ []); reply = None } ∷
      record { side = side.Child; handles = (Some 6); actions = (action.Send who.Top 0 terms.Nothing ∷ []); reply = None } ∷
      record { side = side.Parent; handles = (Some 0); actions = (action.Send who.Top 6 terms.Nothing ∷ []); reply = None } ∷
      record { side = side.Child; handles = (Some 6); actions = (action.Die ∷ []); reply = None } ∷ []);
}

abbrev death_under_nested_waits_setting : Setting
death_under_nested_waits_setting = record { schema = death_under_nested_waits_schema; script = death_under_nested_waits_script; stop = None; limit = 10000 }

abbrev death_under_nested_waits_word : List Turn
death_under_nested_waits_word = (tP ∷ [])

abbrev death_under_nested_waits_lines : List Line
death_under_nested_waits_lines =
    p (what.Call (pos 1) (pos 1) (pos 2147483647) 6 Nothing)
    ∷ c (what.DeliverRequest (pos 1))
    ∷ c (what.Take (pos 1) (pos 2147483647) 6 Nothing)
    ∷ c (what.Call (negsuc 0) (pos 1) (pos 2147483647) 0 Nothing)
    ∷ p (what.DeliverRequest (negsuc 0))
    ∷ p (what.Take (negsuc 0) (pos 2147483647) 0 Nothing)
    ∷ p (what.Call (pos 2) (pos 1) (pos 2147483647) 6 Nothing)
    ∷ c (what.DeliverRequest (pos 2))
    ∷ c (what.Take (pos 2) (pos 2147483647) 6 Nothing)
    ∷ c what.Die
    ∷ p what.DeliverBroken
    ∷ p (what.Fails (pos 2))
    ∷ p (what.Fails (pos 1))
    ∷ p (what.ResumeFault (pos 2) reason.ChannelClosed)
    ∷ p (what.Return (negsuc 0))
    ∷ p (what.ResumeFault (pos 1) reason.ChannelClosed)
    ∷ p what.ShutAbnormal
    ∷ p (what.Fall (pos 2147483647) destroy.AbnormalShutdown)
    ∷ []

death_under_nested_waits : shown death_under_nested_waits_setting 46 death_under_nested_waits_word ≡ Some (record { lines = death_under_nested_waits_lines; ending = at_rest; quiet = true })
unfolding is_utf8 chars lib.Utf8.encode
death_under_nested_waits = refl

abbrev die_after_sixteen_schema : Schema
die_after_sixteen_schema = record {
  protocols = (
      record {
        name = (codes "PW");
        semantics = Sync;
        level = level.InsideCpow;
        managers = ([]);
        manages = ([]);
        messages = (
            record { number = 0; name = (codes "CallP"); direction = direction.Parent; semantics = Sync; level = level.InsideSync; compress = compress.Plain; kind = Normal; params = ([]); returns = (Some (record { name = (codes "r"); shape = (shapes.Builtin word.Int32) } ∷ [])); carried = true; lazy = false } ∷
            record { number = 2; name = (codes "Poke"); direction = direction.Parent; semantics = Async; level = level.InsideCpow; compress = compress.Plain; kind = Normal; params = ([]); returns = None; carried = true; lazy = false } ∷
            record { number = 4; name = (codes "Base"); direction = direction.Parent; semantics = Sync; level = level.Not; compress = compress.Plain; kind = Normal; params = ([]); returns = None; carried = true; lazy = false } ∷
            record { number = 6; name = (codes "CallC"); direction = direction.Child; semantics = Sync; level = level.InsideSync; compress = compress.Plain; kind = Normal; params = ([]); returns = (Some (record { name = (codes "r"); shape = (shapes.Builtin word.Int32) } ∷ [])); carried = true; lazy = false } ∷
            record { number = 8; name = (codes "Tell"); direction = direction.Child; semantics = Async; level = level.Not; compress = compress.Plain; kind = Normal; params = (record { name = (codes "n"); shape = (shapes.Builtin word.Int32) } ∷ []); returns = None; carried = true; lazy = false } ∷
            record { number = 10; name = (codes "Give"); direction = direction.Child; semantics = Async; level = level.Not; compress = compress.Plain; kind = Normal; params = (record { name = (codes "w"); shape = (shapes.Actor 0 false) } ∷ []); returns = None; carried = true; lazy = false } ∷ []);
      } ∷ []);
  types = ([]);
}

abbrev die_after_sixteen_script : Script
die_after_sixteen_script = record {
  top = 0;
  blocks = (
      record { side = side.Parent; handles = None; actions = (action.Send who.Top 6 terms.Nothing ∷ []); reply = None } ∷
      record { side = side.Child; handles = None; actions = (action.Send who.Top 4 terms.Nothing ∷ []); reply = None } ∷
      record { side = side.Child; handles = (Some 6); actions = (action.Send who.Top 0 terms.Nothing ∷ []); reply = (Some (t (term.Int (pos 1)) terms.Nothing)) } ∷
      record { side = side.Parent; handles = (Some 0); actions = (action.Send who.Top 6 terms.Nothing ∷ []); reply = (Some (t (term.Int (pos 2)) terms.Nothing)) } ∷
      record { side = side.Child; handles = (Some 6); actions = (action.Send who.Top 0 terms.Nothing ∷ []); reply = (Some (t (term.Int (pos 3)) terms.Nothing)) } ∷
      record { side = side.Parent; handles = (Some 0); actions = ([]); reply = (Some (t (term.Int (pos 4)) terms.Nothing)) } ∷ []);
}

abbrev die_after_sixteen_setting : Setting
die_after_sixteen_setting = record { schema = die_after_sixteen_schema; script = die_after_sixteen_script; stop = (Some (record { side = side.Child; after = 16 })); limit = 10000 }

abbrev die_after_sixteen_word : List Turn
die_after_sixteen_word = (tP ∷ tC ∷ [])

abbrev die_after_sixteen_lines : List Line
die_after_sixteen_lines =
    p (what.Call (pos 1) (pos 1) (pos 2147483647) 6 Nothing)
    ∷ c (what.Call (negsuc 0) (negsuc 0) (pos 2147483647) 4 Nothing)
    ∷ p (what.DeliverRequest (negsuc 0))
    ∷ c (what.DeliverRequest (pos 1))
    ∷ c (what.Take (pos 1) (pos 2147483647) 6 Nothing)
    ∷ c (what.Call (negsuc 1) (pos 1) (pos 2147483647) 0 Nothing)
    ∷ p (what.DeliverRequest (negsuc 1))
    ∷ p (what.Take (negsuc 1) (pos 2147483647) 0 Nothing)
    ∷ p (what.Call (pos 2) (pos 1) (pos 2147483647) 6 Nothing)
    ∷ c (what.DeliverRequest (pos 2))
    ∷ c (what.Take (pos 2) (pos 2147483647) 6 Nothing)
    ∷ c (what.Call (negsuc 2) (pos 1) (pos 2147483647) 0 Nothing)
    ∷ p (what.DeliverRequest (negsuc 2))
    ∷ p (what.Take (negsuc 2) (pos 2147483647) 0 Nothing)
    ∷ p (what.Return (negsuc 2))
    ∷ p (what.AnswerOk (negsuc 2) (v (value.Int (pos 4)) Nothing))
    ∷ c (what.DeliverReply (negsuc 2))
    ∷ c (what.ResumeOk (negsuc 2) (v (value.Int (pos 4)) Nothing))
    ∷ c (what.Return (pos 2))
    ∷ c (what.AnswerOk (pos 2) (v (value.Int (pos 3)) Nothing))
    ∷ p (what.DeliverReply (pos 2))
    ∷ p (what.ResumeOk (pos 2) (v (value.Int (pos 3)) Nothing))
    ∷ p (what.Return (negsuc 1))
    ∷ p (what.AnswerOk (negsuc 1) (v (value.Int (pos 2)) Nothing))
    ∷ c (what.DeliverReply (negsuc 1))
    ∷ c (what.ResumeOk (negsuc 1) (v (value.Int (pos 2)) Nothing))
    ∷ c (what.Return (pos 1))
    ∷ c (what.AnswerOk (pos 1) (v (value.Int (pos 1)) Nothing))
    ∷ p (what.DeliverReply (pos 1))
    ∷ p (what.ResumeOk (pos 1) (v (value.Int (pos 1)) Nothing))
    ∷ p (what.Take (negsuc 0) (pos 2147483647) 4 Nothing)
    ∷ p (what.Return (negsuc 0))
    ∷ p (what.AnswerOk (negsuc 0) Nothing)
    ∷ c (what.DeliverReply (negsuc 0))
    ∷ c (what.ResumeOk (negsuc 0) Nothing)
    ∷ []

die_after_sixteen : shown die_after_sixteen_setting 80 die_after_sixteen_word ≡ Some (record { lines = die_after_sixteen_lines; ending = at_rest; quiet = true })
unfolding is_utf8 chars lib.Utf8.encode
die_after_sixteen = refl

abbrev limit_spent_schema : Schema
limit_spent_schema = record {
  protocols = (
      record {
        name = (codes "PW");
        semantics = Sync;
        level = level.InsideCpow;
        managers = ([]);
        manages = ([]);
        messages = (
            record { number = 0; name = (codes "CallP"); direction = direction.Parent; semantics = Sync; level = level.InsideSync; compress = compress.Plain; kind = Normal; params = ([]); returns = (Some (record { name = (codes "r"); shape = (shapes.Builtin word.Int32) } ∷ [])); carried = true; lazy = false } ∷
            record { number = 2; name = (codes "Poke"); direction = direction.Parent; semantics = Async; level = level.InsideCpow; compress = compress.Plain; kind = Normal; params = ([]); returns = None; carried = true; lazy = false } ∷
            record { number = 4; name = (codes "Base"); direction = direction.Parent; semantics = Sync; level = level.Not; compress = compress.Plain; kind = Normal; params = ([]); returns = None; carried = true; lazy = false } ∷
            record { number = 6; name = (codes "CallC"); direction = direction.Child; semantics = Sync; level = level.InsideSync; compress = compress.Plain; kind = Normal; params = ([]); returns = (Some (record { name = (codes "r"); shape = (shapes.Builtin word.Int32) } ∷ [])); carried = true; lazy = false } ∷
            record { number = 8; name = (codes "Tell"); direction = direction.Child; semantics = Async; level = level.Not; compress = compress.Plain; kind = Normal; params = (record { name = (codes "n"); shape = (shapes.Builtin word.Int32) } ∷ []); returns = None; carried = true; lazy = false } ∷
            record { number = 10; name = (codes "Give"); direction = direction.Child; semantics = Async; level = level.Not; compress = compress.Plain; kind = Normal; params = (record { name = (codes "w"); shape = (shapes.Actor 0 false) } ∷ []); returns = None; carried = true; lazy = false } ∷ []);
      } ∷ []);
  types = ([]);
}

abbrev limit_spent_script : Script
limit_spent_script = record {
  top = 0;
  blocks = (
      record { side = side.Parent; handles = None; actions = (action.Send who.Top 6 terms.Nothing ∷ []); reply = None } ∷
      record { side = side.Child; handles = None; actions = (action.Send who.Top 0 terms.Nothing ∷ []); reply = None } ∷
      record { side = side.Parent; handles = (Some 0); actions = ([]); reply = (Some (t (term.Int (pos 10)) terms.Nothing)) } ∷
      record { side = side.Child; handles = (Some 6); actions = ([]); reply = (Some (t (term.Int (pos 20)) terms.Nothing)) } ∷ []);
}

abbrev limit_spent_setting : Setting
limit_spent_setting = record { schema = limit_spent_schema; script = limit_spent_script; stop = None; limit = 1 }

abbrev limit_spent_word : List Turn
limit_spent_word = (tP ∷ tC ∷ [])

abbrev limit_spent_lines : List Line
limit_spent_lines =
    p (what.Call (pos 1) (pos 1) (pos 2147483647) 6 Nothing)
    ∷ c (what.Call (negsuc 0) (negsuc 0) (pos 2147483647) 0 Nothing)
    ∷ []

limit_spent : shown limit_spent_setting 14 limit_spent_word ≡ Some (record { lines = limit_spent_lines; ending = (at_limit side.Parent); quiet = false })
unfolding is_utf8 chars lib.Utf8.encode
limit_spent = refl
