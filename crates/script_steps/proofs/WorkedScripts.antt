-- Worked scripts: with its word, each gives exactly these lines and this ending, and leaves nothing or something to do.
use Rattle.std.specs.Prelude.{◌≡◌, ℕ, ℤ, pos, negsuc, Bool, true, false, List, [], ◌∷◌, Some, None, codes, replicate, refl}
use Rattle.std.proofs.Common.{ap}
use Rattle.std.specs.Str.{is_utf8, chars}
use Rattle.actor_tree.specs.declared.actor.Actor.{Actor}
use Rattle.ipdl_base.specs.declared.line.Line.{Line}
use Rattle.ipdl_base.specs.declared.line.What.{What}
use Rattle.ipdl_base.specs.declared.line.What.TheVariants as what
use Rattle.ipdl_base.specs.declared.builtin.Builtin.TheVariants as word
use Rattle.ipdl_base.specs.declared.kinds.Compress.TheVariants as compress
use Rattle.ipdl_base.specs.declared.kinds.Destroy.TheVariants as destroy
use Rattle.ipdl_base.specs.declared.kinds.Direction.TheVariants as direction
use Rattle.ipdl_base.specs.declared.kinds.Level.{Level}
use Rattle.ipdl_base.specs.declared.kinds.Level.TheVariants as level
use Rattle.ipdl_base.specs.declared.kinds.Reason.TheVariants as reason
use Rattle.ipdl_base.specs.declared.kinds.Semantics.TheVariants.{Async, Sync}
use Rattle.ipdl_base.specs.declared.kinds.SendRefusal.TheVariants as refusal
use Rattle.ipdl_base.specs.declared.kinds.Side.TheVariants as side
use Rattle.ipdl_base.specs.declared.message.Body.{Body}
use Rattle.ipdl_base.specs.declared.message.Body.TheVariants.{Request, Reply, Fault, Goodbye}
use Rattle.ipdl_base.specs.declared.message.Message.{Message}
use Rattle.ipdl_base.specs.declared.schema.Kind.TheVariants.{Normal, Constructor, Delete}
use Rattle.ipdl_base.specs.declared.schema.MessageRow.{MessageRow}
use Rattle.ipdl_base.specs.declared.schema.ParamRow.{ParamRow}
use Rattle.ipdl_base.specs.declared.schema.ProtocolRow.{ProtocolRow}
use Rattle.ipdl_base.specs.declared.schema.Schema.{Schema}
use Rattle.ipdl_base.specs.declared.schema.Shape as shapes
use Rattle.ipdl_base.specs.declared.schema.TypeRow.{TypeRow}
use Rattle.ipdl_base.specs.declared.schema.TypeRow.TheVariants as types
use Rattle.ipdl_base.specs.declared.value.Value.{Value, Union', Maybe', None', Some'}
use Rattle.ipdl_base.specs.declared.value.Value.TheVariants as value
use Rattle.ipdl_base.specs.declared.value.Values.{Values, First'}
use Rattle.ipdl_base.specs.declared.value.Values.TheVariants.{Nothing}
use Rattle.ipdl_base.specs.Plain.{one_box}
use Rattle.nesting_core.specs.declared.frame.Answer.TheVariants as answers
use Rattle.nesting_core.specs.declared.frame.StackFrame.TheVariants as frames
use Rattle.pending_queue.specs.declared.item.Item.{Item}
use Rattle.pending_queue.specs.declared.item.Item.TheVariants as items
use Rattle.promise_table.specs.declared.promise.Outcome.TheVariants as outcomes
use Rattle.ipdl_base.specs.declared.kinds.EndState.TheVariants as states
use Rattle.channel_model.specs.Ends.{End, World, StackEntry, PromiseEntry, Naming, Packet, opening, message, mark, actor, resolver}
use Rattle.std.specs.Prelude.{option_map}
use Rattle.handler_script.specs.declared.action.Action.{Action}
use Rattle.handler_script.specs.declared.action.Action.TheVariants as action
use Rattle.handler_script.specs.declared.action.Block.{Block}
use Rattle.handler_script.specs.declared.script.Script.{Script}
use Rattle.handler_script.specs.declared.term.Term.{Term}
use Rattle.handler_script.specs.declared.term.Term as boxed
use Rattle.handler_script.specs.declared.term.Term.TheVariants as term
use Rattle.handler_script.specs.declared.term.Terms.{Terms}
use Rattle.handler_script.specs.declared.term.Terms as boxed_terms
use Rattle.handler_script.specs.declared.term.Terms.TheVariants as terms
use Rattle.script_reader.specs.declared.written.Who.TheVariants as who
use Rattle.schedules.specs.declared.turn.Turn.{Turn}
use Rattle.script_steps.specs.Choices.{Setting}
use Rattle.script_steps.specs.Turns.{at_rest, at_limit}
use Rattle.script_steps.proofs.Shown.{shown}

abbrev p : What → Line
p what = record { side = side.Parent; what = what }

abbrev c : What → Line
c what = record { side = side.Child; what = what }

abbrev v : Value → Values → Values
v first rest = First' one_box first one_box rest

abbrev t : Term → Terms → Terms
t first rest = boxed_terms.First' one_box first one_box rest

abbrev tP : Turn
tP = record { side = side.Parent; only_deliver = false }

abbrev tC : Turn
tC = record { side = side.Child; only_deliver = false }

abbrev tp : Turn
tp = record { side = side.Parent; only_deliver = true }

abbrev tc : Turn
tc = record { side = side.Child; only_deliver = true }

abbrev both_call_at_once_schema : Schema
both_call_at_once_schema = record {
  protocols = (
      record {
        name = (codes "PW");
        semantics = Sync;
        level = level.InsideCpow;
        managers = ([]);
        manages = ([]);
        messages = (
            record { number = 0; name = (codes "CallP"); direction = direction.Parent; semantics = Sync; level = level.InsideSync; compress = compress.Plain; kind = Normal; params = ([]); returns = (Some (record { name = (codes "r"); shape = (shapes.Builtin word.Int32) } ∷ [])); carried = true; lazy = false } ∷
            record { number = 2; name = (codes "Poke"); direction = direction.Parent; semantics = Async; level = level.InsideCpow; compress = compress.Plain; kind = Normal; params = ([]); returns = None; carried = true; lazy = false } ∷
            record { number = 4; name = (codes "Base"); direction = direction.Parent; semantics = Sync; level = level.Not; compress = compress.Plain; kind = Normal; params = ([]); returns = None; carried = true; lazy = false } ∷
            record { number = 6; name = (codes "CallC"); direction = direction.Child; semantics = Sync; level = level.InsideSync; compress = compress.Plain; kind = Normal; params = ([]); returns = (Some (record { name = (codes "r"); shape = (shapes.Builtin word.Int32) } ∷ [])); carried = true; lazy = false } ∷
            record { number = 8; name = (codes "Tell"); direction = direction.Child; semantics = Async; level = level.Not; compress = compress.Plain; kind = Normal; params = (record { name = (codes "n"); shape = (shapes.Builtin word.Int32) } ∷ []); returns = None; carried = true; lazy = false } ∷
            record { number = 10; name = (codes "Give"); direction = direction.Child; semantics = Async; level = level.Not; compress = compress.Plain; kind = Normal; params = (record { name = (codes "w"); shape = (shapes.Actor 0 false) } ∷ []); returns = None; carried = true; lazy = false } ∷ []);
      } ∷ []);
  types = ([]);
}

abbrev both_call_at_once_script : Script
both_call_at_once_script = record {
  top = 0;
  blocks = (
      record { side = side.Parent; handles = None; actions = (action.Send who.Top 6 terms.Nothing ∷ []); reply = None } ∷
      record { side = side.Child; handles = None; actions = (action.Send who.Top 0 terms.Nothing ∷ []); reply = None } ∷
      record { side = side.Parent; handles = (Some 0); actions = ([]); reply = (Some (t (term.Int (pos 10)) terms.Nothing)) } ∷
      record { side = side.Child; handles = (Some 6); actions = ([]); reply = (Some (t (term.Int (pos 20)) terms.Nothing)) } ∷ []);
}

abbrev both_call_at_once_setting : Setting
both_call_at_once_setting = record { schema = both_call_at_once_schema; script = both_call_at_once_script; stop = None; limit = 10000 }

abbrev both_call_at_once_word : List Turn
both_call_at_once_word = (tP ∷ tC ∷ tP ∷ tC ∷ [])

abbrev both_call_at_once_lines : List Line
both_call_at_once_lines =
    p (what.Call (pos 1) (pos 1) (pos 2147483647) 6 Nothing)
    ∷ c (what.Call (negsuc 0) (negsuc 0) (pos 2147483647) 0 Nothing)
    ∷ p (what.DeliverRequest (negsuc 0))
    ∷ c (what.DeliverRequest (pos 1))
    ∷ c (what.Take (pos 1) (pos 2147483647) 6 Nothing)
    ∷ c (what.Return (pos 1))
    ∷ c (what.AnswerOk (pos 1) (v (value.Int (pos 20)) Nothing))
    ∷ p (what.DeliverReply (pos 1))
    ∷ p (what.ResumeOk (pos 1) (v (value.Int (pos 20)) Nothing))
    ∷ p (what.Take (negsuc 0) (pos 2147483647) 0 Nothing)
    ∷ p (what.Return (negsuc 0))
    ∷ p (what.AnswerOk (negsuc 0) (v (value.Int (pos 10)) Nothing))
    ∷ c (what.DeliverReply (negsuc 0))
    ∷ c (what.ResumeOk (negsuc 0) (v (value.Int (pos 10)) Nothing))
    ∷ []

both_call_at_once : shown both_call_at_once_setting 38 both_call_at_once_word ≡ Some (record { lines = both_call_at_once_lines; ending = at_rest; quiet = true })
unfolding is_utf8 chars lib.Utf8.encode
both_call_at_once = refl

abbrev four_nested_calls_schema : Schema
four_nested_calls_schema = record {
  protocols = (
      record {
        name = (codes "PW");
        semantics = Sync;
        level = level.InsideCpow;
        managers = ([]);
        manages = ([]);
        messages = (
            record { number = 0; name = (codes "CallP"); direction = direction.Parent; semantics = Sync; level = level.InsideSync; compress = compress.Plain; kind = Normal; params = ([]); returns = (Some (record { name = (codes "r"); shape = (shapes.Builtin word.Int32) } ∷ [])); carried = true; lazy = false } ∷
            record { number = 2; name = (codes "Poke"); direction = direction.Parent; semantics = Async; level = level.InsideCpow; compress = compress.Plain; kind = Normal; params = ([]); returns = None; carried = true; lazy = false } ∷
            record { number = 4; name = (codes "Base"); direction = direction.Parent; semantics = Sync; level = level.Not; compress = compress.Plain; kind = Normal; params = ([]); returns = None; carried = true; lazy = false } ∷
            record { number = 6; name = (codes "CallC"); direction = direction.Child; semantics = Sync; level = level.InsideSync; compress = compress.Plain; kind = Normal; params = ([]); returns = (Some (record { name = (codes "r"); shape = (shapes.Builtin word.Int32) } ∷ [])); carried = true; lazy = false } ∷
            record { number = 8; name = (codes "Tell"); direction = direction.Child; semantics = Async; level = level.Not; compress = compress.Plain; kind = Normal; params = (record { name = (codes "n"); shape = (shapes.Builtin word.Int32) } ∷ []); returns = None; carried = true; lazy = false } ∷
            record { number = 10; name = (codes "Give"); direction = direction.Child; semantics = Async; level = level.Not; compress = compress.Plain; kind = Normal; params = (record { name = (codes "w"); shape = (shapes.Actor 0 false) } ∷ []); returns = None; carried = true; lazy = false } ∷ []);
      } ∷ []);
  types = ([]);
}

abbrev four_nested_calls_script : Script
four_nested_calls_script = record {
  top = 0;
  blocks = (
      record { side = side.Parent; handles = None; actions = (action.Send who.Top 6 terms.Nothing ∷ []); reply = None } ∷
      record { side = side.Child; handles = None; actions = (action.Send who.Top 4 terms.Nothing ∷ []); reply = None } ∷
      record { side = side.Child; handles = (Some 6); actions = (action.Send who.Top 0 terms.Nothing ∷ []); reply = (Some (t (term.Int (pos 1)) terms.Nothing)) } ∷
      record { side = side.Parent; handles = (Some 0); actions = (action.Send who.Top 6 terms.Nothing ∷ []); reply = (Some (t (term.Int (pos 2)) terms.Nothing)) } ∷
      record { side = side.Child; handles = (Some 6); actions = (action.Send who.Top 0 terms.Nothing ∷ []); reply = (Some (t (term.Int (pos 3)) terms.Nothing)) } ∷
      record { side = side.Parent; handles = (Some 0); actions = ([]); reply = (Some (t (term.Int (pos 4)) terms.Nothing)) } ∷ []);
}

abbrev four_nested_calls_setting : Setting
four_nested_calls_setting = record { schema = four_nested_calls_schema; script = four_nested_calls_script; stop = None; limit = 10000 }

abbrev four_nested_calls_word : List Turn
four_nested_calls_word = (tP ∷ tC ∷ [])

abbrev four_nested_calls_lines : List Line
four_nested_calls_lines =
    p (what.Call (pos 1) (pos 1) (pos 2147483647) 6 Nothing)
    ∷ c (what.Call (negsuc 0) (negsuc 0) (pos 2147483647) 4 Nothing)
    ∷ p (what.DeliverRequest (negsuc 0))
    ∷ c (what.DeliverRequest (pos 1))
    ∷ c (what.Take (pos 1) (pos 2147483647) 6 Nothing)
    ∷ c (what.Call (negsuc 1) (pos 1) (pos 2147483647) 0 Nothing)
    ∷ p (what.DeliverRequest (negsuc 1))
    ∷ p (what.Take (negsuc 1) (pos 2147483647) 0 Nothing)
    ∷ p (what.Call (pos 2) (pos 1) (pos 2147483647) 6 Nothing)
    ∷ c (what.DeliverRequest (pos 2))
    ∷ c (what.Take (pos 2) (pos 2147483647) 6 Nothing)
    ∷ c (what.Call (negsuc 2) (pos 1) (pos 2147483647) 0 Nothing)
    ∷ p (what.DeliverRequest (negsuc 2))
    ∷ p (what.Take (negsuc 2) (pos 2147483647) 0 Nothing)
    ∷ p (what.Return (negsuc 2))
    ∷ p (what.AnswerOk (negsuc 2) (v (value.Int (pos 4)) Nothing))
    ∷ c (what.DeliverReply (negsuc 2))
    ∷ c (what.ResumeOk (negsuc 2) (v (value.Int (pos 4)) Nothing))
    ∷ c (what.Return (pos 2))
    ∷ c (what.AnswerOk (pos 2) (v (value.Int (pos 3)) Nothing))
    ∷ p (what.DeliverReply (pos 2))
    ∷ p (what.ResumeOk (pos 2) (v (value.Int (pos 3)) Nothing))
    ∷ p (what.Return (negsuc 1))
    ∷ p (what.AnswerOk (negsuc 1) (v (value.Int (pos 2)) Nothing))
    ∷ c (what.DeliverReply (negsuc 1))
    ∷ c (what.ResumeOk (negsuc 1) (v (value.Int (pos 2)) Nothing))
    ∷ c (what.Return (pos 1))
    ∷ c (what.AnswerOk (pos 1) (v (value.Int (pos 1)) Nothing))
    ∷ p (what.DeliverReply (pos 1))
    ∷ p (what.ResumeOk (pos 1) (v (value.Int (pos 1)) Nothing))
    ∷ p (what.Take (negsuc 0) (pos 2147483647) 4 Nothing)
    ∷ p (what.Return (negsuc 0))
    ∷ p (what.AnswerOk (negsuc 0) Nothing)
    ∷ c (what.DeliverReply (negsuc 0))
    ∷ c (what.ResumeOk (negsuc 0) Nothing)
    ∷ []

four_nested_calls : shown four_nested_calls_setting 80 four_nested_calls_word ≡ Some (record { lines = four_nested_calls_lines; ending = at_rest; quiet = true })
unfolding is_utf8 chars lib.Utf8.encode
four_nested_calls = refl

abbrev reply_under_a_handler_schema : Schema
reply_under_a_handler_schema = record {
  protocols = (
      record {
        name = (codes "PW");
        semantics = Sync;
        level = level.InsideCpow;
        managers = ([]);
        manages = ([]);
        messages = (
            record { number = 0; name = (codes "CallP"); direction = direction.Parent; semantics = Sync; level = level.InsideSync; compress = compress.Plain; kind = Normal; params = ([]); returns = (Some (record { name = (codes "r"); shape = (shapes.Builtin word.Int32) } ∷ [])); carried = true; lazy = false } ∷
            record { number = 2; name = (codes "Poke"); direction = direction.Parent; semantics = Async; level = level.InsideCpow; compress = compress.Plain; kind = Normal; params = ([]); returns = None; carried = true; lazy = false } ∷
            record { number = 4; name = (codes "Base"); direction = direction.Parent; semantics = Sync; level = level.Not; compress = compress.Plain; kind = Normal; params = ([]); returns = None; carried = true; lazy = false } ∷
            record { number = 6; name = (codes "CallC"); direction = direction.Child; semantics = Sync; level = level.InsideSync; compress = compress.Plain; kind = Normal; params = ([]); returns = (Some (record { name = (codes "r"); shape = (shapes.Builtin word.Int32) } ∷ [])); carried = true; lazy = false } ∷
            record { number = 8; name = (codes "Tell"); direction = direction.Child; semantics = Async; level = level.Not; compress = compress.Plain; kind = Normal; params = (record { name = (codes "n"); shape = (shapes.Builtin word.Int32) } ∷ []); returns = None; carried = true; lazy = false } ∷
            record { number = 10; name = (codes "Give"); direction = direction.Child; semantics = Async; level = level.Not; compress = compress.Plain; kind = Normal; params = (record { name = (codes "w"); shape = (shapes.Actor 0 false) } ∷ []); returns = None; carried = true; lazy = false } ∷ []);
      } ∷ []);
  types = ([]);
}

abbrev reply_under_a_handler_script : Script
reply_under_a_handler_script = record {
  top = 0;
  blocks = (
      record { side = side.Parent; handles = None; actions = (action.Send who.Top 6 terms.Nothing ∷ []); reply = None } ∷
      record { side = side.Child; handles = (Some 6); actions = (action.Send who.Top 2 terms.Nothing ∷ []); reply = (Some (t (term.Int (pos 7)) terms.Nothing)) } ∷
      record { side = side.Parent; handles = (Some 2); actions = (action.Send who.Top 8 (t (term.Int (pos 1)) terms.Nothing) ∷ []); reply = None } ∷ []);
}

abbrev reply_under_a_handler_setting : Setting
reply_under_a_handler_setting = record { schema = reply_under_a_handler_schema; script = reply_under_a_handler_script; stop = None; limit = 10000 }

abbrev reply_under_a_handler_word : List Turn
reply_under_a_handler_word = (tP ∷ tC ∷ tC ∷ tC ∷ tC ∷ tP ∷ tP ∷ tp ∷ [])

abbrev reply_under_a_handler_lines : List Line
reply_under_a_handler_lines =
    p (what.Call (pos 1) (pos 1) (pos 2147483647) 6 Nothing)
    ∷ c (what.DeliverRequest (pos 1))
    ∷ c (what.Take (pos 1) (pos 2147483647) 6 Nothing)
    ∷ c (what.Send (negsuc 0) (pos 2147483647) 2 Nothing)
    ∷ c (what.Return (pos 1))
    ∷ c (what.AnswerOk (pos 1) (v (value.Int (pos 7)) Nothing))
    ∷ p (what.DeliverRequest (negsuc 0))
    ∷ p (what.Take (negsuc 0) (pos 2147483647) 2 Nothing)
    ∷ p (what.DeliverReply (pos 1))
    ∷ p (what.Send (pos 2) (pos 2147483647) 8 (v (value.Int (pos 1)) Nothing))
    ∷ c (what.DeliverRequest (pos 2))
    ∷ p (what.Return (negsuc 0))
    ∷ c (what.Take (pos 2) (pos 2147483647) 8 (v (value.Int (pos 1)) Nothing))
    ∷ p (what.ResumeOk (pos 1) (v (value.Int (pos 7)) Nothing))
    ∷ c (what.Return (pos 2))
    ∷ []

reply_under_a_handler : shown reply_under_a_handler_setting 40 reply_under_a_handler_word ≡ Some (record { lines = reply_under_a_handler_lines; ending = at_rest; quiet = true })
unfolding is_utf8 chars lib.Utf8.encode
reply_under_a_handler = refl

abbrev delete_of_a_tree_schema : Schema
delete_of_a_tree_schema = record {
  protocols = (
      record {
        name = (codes "PK");
        semantics = Async;
        level = level.Not;
        managers = (1 ∷ 0 ∷ []);
        manages = (0 ∷ []);
        messages = (
            record { number = 0; name = (codes "PK"); direction = direction.Parent; semantics = Async; level = level.Not; compress = compress.Plain; kind = Constructor 0; params = ([]); returns = None; carried = true; lazy = false } ∷
            record { number = 2; name = (codes "Get"); direction = direction.Parent; semantics = Async; level = level.Not; compress = compress.Plain; kind = Normal; params = ([]); returns = (Some (record { name = (codes "r"); shape = (shapes.Builtin word.Int32) } ∷ [])); carried = true; lazy = false } ∷
            record { number = 4; name = (codes "__delete__"); direction = direction.Parent; semantics = Async; level = level.Not; compress = compress.Plain; kind = Delete; params = ([]); returns = None; carried = true; lazy = false } ∷ []);
      } ∷
      record {
        name = (codes "PR");
        semantics = Async;
        level = level.Not;
        managers = ([]);
        manages = (0 ∷ []);
        messages = (
            record { number = 65536; name = (codes "PK"); direction = direction.Parent; semantics = Async; level = level.Not; compress = compress.Plain; kind = Constructor 0; params = ([]); returns = None; carried = true; lazy = false } ∷ []);
      } ∷ []);
  types = ([]);
}

abbrev delete_of_a_tree_script : Script
delete_of_a_tree_script = record {
  top = 1;
  blocks = (
      record { side = side.Child; handles = None; actions = (action.New (codes "a") who.Top 65536 terms.Nothing ∷ action.New (codes "b") (who.Name (codes "a")) 0 terms.Nothing ∷ action.New (codes "c") (who.Name (codes "b")) 0 terms.Nothing ∷ action.Send (who.Name (codes "b")) 2 terms.Nothing ∷ action.Send (who.Name (codes "a")) 4 terms.Nothing ∷ []); reply = None } ∷
      record { side = side.Parent; handles = (Some 2); actions = (action.Resolve (t (term.Int (pos 9)) terms.Nothing) ∷ []); reply = None } ∷ []);
}

abbrev delete_of_a_tree_setting : Setting
delete_of_a_tree_setting = record { schema = delete_of_a_tree_schema; script = delete_of_a_tree_script; stop = None; limit = 10000 }

abbrev delete_of_a_tree_word : List Turn
delete_of_a_tree_word = (tC ∷ tC ∷ tC ∷ tC ∷ tC ∷ [])

abbrev delete_of_a_tree_lines : List Line
delete_of_a_tree_lines =
    c (what.Send (negsuc 0) (pos 2147483647) 65536 Nothing)
    ∷ c (what.Built (pos 4) 0)
    ∷ c (what.Send (negsuc 1) (pos 4) 0 Nothing)
    ∷ c (what.Built (pos 8) 0)
    ∷ c (what.Send (negsuc 2) (pos 8) 0 Nothing)
    ∷ c (what.Built (pos 12) 0)
    ∷ c (what.Send (negsuc 3) (pos 8) 2 Nothing)
    ∷ c (what.Send (negsuc 4) (pos 4) 4 Nothing)
    ∷ c (what.Fall (pos 12) destroy.AncestorDeletion)
    ∷ c (what.Rejected (negsuc 3) reason.ActorDestroyed)
    ∷ c (what.Fall (pos 8) destroy.AncestorDeletion)
    ∷ c (what.Fall (pos 4) destroy.Deletion)
    ∷ p (what.DeliverRequest (negsuc 0))
    ∷ p (what.Take (negsuc 0) (pos 2147483647) 65536 Nothing)
    ∷ p (what.Built (pos 4) 0)
    ∷ p (what.Return (negsuc 0))
    ∷ p (what.DeliverRequest (negsuc 1))
    ∷ p (what.Take (negsuc 1) (pos 4) 0 Nothing)
    ∷ p (what.Built (pos 8) 0)
    ∷ p (what.Return (negsuc 1))
    ∷ p (what.DeliverRequest (negsuc 2))
    ∷ p (what.Take (negsuc 2) (pos 8) 0 Nothing)
    ∷ p (what.Built (pos 12) 0)
    ∷ p (what.Return (negsuc 2))
    ∷ p (what.DeliverRequest (negsuc 3))
    ∷ p (what.Take (negsuc 3) (pos 8) 2 Nothing)
    ∷ p (what.Resolve (negsuc 3) (v (value.Int (pos 9)) Nothing))
    ∷ c (what.DeliverReply (negsuc 3))
    ∷ p (what.Return (negsuc 3))
    ∷ c (what.TakeReply (negsuc 3))
    ∷ p (what.DeliverRequest (negsuc 4))
    ∷ p (what.Take (negsuc 4) (pos 4) 4 Nothing)
    ∷ p (what.Return (negsuc 4))
    ∷ p (what.Fall (pos 12) destroy.AncestorDeletion)
    ∷ p (what.Fall (pos 8) destroy.AncestorDeletion)
    ∷ p (what.Fall (pos 4) destroy.Deletion)
    ∷ []

delete_of_a_tree : shown delete_of_a_tree_setting 82 delete_of_a_tree_word ≡ Some (record { lines = delete_of_a_tree_lines; ending = at_rest; quiet = true })
unfolding is_utf8 chars lib.Utf8.encode
delete_of_a_tree = refl

abbrev close_with_promises_schema : Schema
close_with_promises_schema = record {
  protocols = (
      record {
        name = (codes "PQ");
        semantics = Async;
        level = level.Not;
        managers = ([]);
        manages = ([]);
        messages = (
            record { number = 0; name = (codes "Get"); direction = direction.Both; semantics = Async; level = level.Not; compress = compress.Plain; kind = Normal; params = ([]); returns = (Some (record { name = (codes "r"); shape = (shapes.Builtin word.Int32) } ∷ [])); carried = true; lazy = false } ∷
            record { number = 2; name = (codes "Tell"); direction = direction.Parent; semantics = Async; level = level.Not; compress = compress.Plain; kind = Normal; params = (record { name = (codes "n"); shape = (shapes.Builtin word.Int32) } ∷ []); returns = None; carried = true; lazy = false } ∷ []);
      } ∷ []);
  types = ([]);
}

abbrev close_with_promises_script : Script
close_with_promises_script = record {
  top = 0;
  blocks = (
      record { side = side.Parent; handles = None; actions = (action.Send who.Top 0 terms.Nothing ∷ action.Send who.Top 0 terms.Nothing ∷ action.Send who.Top 0 terms.Nothing ∷ []); reply = None } ∷
      record { side = side.Child; handles = None; actions = (action.Send who.Top 2 (t (term.Int (pos 1)) terms.Nothing) ∷ action.Send who.Top 2 (t (term.Int (pos 2)) terms.Nothing) ∷ action.Close ∷ []); reply = None } ∷ []);
}

abbrev close_with_promises_setting : Setting
close_with_promises_setting = record { schema = close_with_promises_schema; script = close_with_promises_script; stop = None; limit = 10000 }

abbrev close_with_promises_word : List Turn
close_with_promises_word = (tP ∷ tP ∷ tP ∷ tC ∷ tC ∷ tC ∷ tp ∷ tp ∷ tp ∷ [])

abbrev close_with_promises_lines : List Line
close_with_promises_lines =
    p (what.Send (pos 1) (pos 2147483647) 0 Nothing)
    ∷ p (what.Send (pos 2) (pos 2147483647) 0 Nothing)
    ∷ p (what.Send (pos 3) (pos 2147483647) 0 Nothing)
    ∷ c (what.Send (negsuc 0) (pos 2147483647) 2 (v (value.Int (pos 1)) Nothing))
    ∷ c (what.Send (negsuc 1) (pos 2147483647) 2 (v (value.Int (pos 2)) Nothing))
    ∷ c what.Close
    ∷ c (what.Fall (pos 2147483647) destroy.NormalShutdown)
    ∷ p (what.DeliverRequest (negsuc 0))
    ∷ p (what.DeliverRequest (negsuc 1))
    ∷ p what.DeliverGoodbye
    ∷ p (what.Take (negsuc 0) (pos 2147483647) 2 (v (value.Int (pos 1)) Nothing))
    ∷ p (what.Return (negsuc 0))
    ∷ p (what.Take (negsuc 1) (pos 2147483647) 2 (v (value.Int (pos 2)) Nothing))
    ∷ p (what.Return (negsuc 1))
    ∷ p what.ShutNormal
    ∷ p (what.Rejected (pos 1) reason.ChannelClosed)
    ∷ p (what.Rejected (pos 2) reason.ChannelClosed)
    ∷ p (what.Rejected (pos 3) reason.ChannelClosed)
    ∷ p (what.Fall (pos 2147483647) destroy.NormalShutdown)
    ∷ []

close_with_promises : shown close_with_promises_setting 48 close_with_promises_word ≡ Some (record { lines = close_with_promises_lines; ending = at_rest; quiet = true })
unfolding is_utf8 chars lib.Utf8.encode
close_with_promises = refl

abbrev compression_schema : Schema
compression_schema = record {
  protocols = (
      record {
        name = (codes "PC");
        semantics = Async;
        level = level.Not;
        managers = ([]);
        manages = ([]);
        messages = (
            record { number = 0; name = (codes "Up"); direction = direction.Parent; semantics = Async; level = level.Not; compress = compress.Last; kind = Normal; params = (record { name = (codes "n"); shape = (shapes.Builtin word.Int32) } ∷ []); returns = None; carried = true; lazy = false } ∷
            record { number = 2; name = (codes "Alls"); direction = direction.Parent; semantics = Async; level = level.Not; compress = compress.All; kind = Normal; params = (record { name = (codes "n"); shape = (shapes.Builtin word.Int32) } ∷ []); returns = None; carried = true; lazy = false } ∷
            record { number = 4; name = (codes "Mark"); direction = direction.Parent; semantics = Async; level = level.Not; compress = compress.Plain; kind = Normal; params = ([]); returns = None; carried = true; lazy = false } ∷
            record { number = 6; name = (codes "Ask"); direction = direction.Parent; semantics = Async; level = level.Not; compress = compress.Last; kind = Normal; params = (record { name = (codes "n"); shape = (shapes.Builtin word.Int32) } ∷ []); returns = (Some (record { name = (codes "b"); shape = (shapes.Builtin word.Bool) } ∷ [])); carried = true; lazy = false } ∷ []);
      } ∷ []);
  types = ([]);
}

abbrev compression_script : Script
compression_script = record {
  top = 0;
  blocks = (
      record { side = side.Child; handles = None; actions = (action.Send who.Top 0 (t (term.Int (pos 1)) terms.Nothing) ∷ action.Send who.Top 0 (t (term.Int (pos 2)) terms.Nothing) ∷ action.Send who.Top 4 terms.Nothing ∷ action.Send who.Top 0 (t (term.Int (pos 3)) terms.Nothing) ∷ action.Send who.Top 2 (t (term.Int (pos 1)) terms.Nothing) ∷ action.Send who.Top 4 terms.Nothing ∷ action.Send who.Top 2 (t (term.Int (pos 2)) terms.Nothing) ∷ action.Send who.Top 6 (t (term.Int (pos 1)) terms.Nothing) ∷ action.Send who.Top 6 (t (term.Int (pos 2)) terms.Nothing) ∷ []); reply = None } ∷ []);
}

abbrev compression_setting : Setting
compression_setting = record { schema = compression_schema; script = compression_script; stop = None; limit = 10000 }

abbrev compression_word : List Turn
compression_word = (tC ∷ tC ∷ tC ∷ tC ∷ tC ∷ tC ∷ tC ∷ tC ∷ tC ∷ tp ∷ tp ∷ tp ∷ tp ∷ tp ∷ tp ∷ tp ∷ tp ∷ tp ∷ [])

abbrev compression_lines : List Line
compression_lines =
    c (what.Send (negsuc 0) (pos 2147483647) 0 (v (value.Int (pos 1)) Nothing))
    ∷ c (what.Send (negsuc 1) (pos 2147483647) 0 (v (value.Int (pos 2)) Nothing))
    ∷ c (what.Send (negsuc 2) (pos 2147483647) 4 Nothing)
    ∷ c (what.Send (negsuc 3) (pos 2147483647) 0 (v (value.Int (pos 3)) Nothing))
    ∷ c (what.Send (negsuc 4) (pos 2147483647) 2 (v (value.Int (pos 1)) Nothing))
    ∷ c (what.Send (negsuc 5) (pos 2147483647) 4 Nothing)
    ∷ c (what.Send (negsuc 6) (pos 2147483647) 2 (v (value.Int (pos 2)) Nothing))
    ∷ c (what.Send (negsuc 7) (pos 2147483647) 6 (v (value.Int (pos 1)) Nothing))
    ∷ c (what.Send (negsuc 8) (pos 2147483647) 6 (v (value.Int (pos 2)) Nothing))
    ∷ p (what.DeliverRequest (negsuc 0))
    ∷ p (what.DeliverRequest (negsuc 1))
    ∷ p (what.Replaced (negsuc 0))
    ∷ p (what.DeliverRequest (negsuc 2))
    ∷ p (what.DeliverRequest (negsuc 3))
    ∷ p (what.DeliverRequest (negsuc 4))
    ∷ p (what.DeliverRequest (negsuc 5))
    ∷ p (what.DeliverRequest (negsuc 6))
    ∷ p (what.Replaced (negsuc 4))
    ∷ p (what.DeliverRequest (negsuc 7))
    ∷ p (what.DeliverRequest (negsuc 8))
    ∷ p (what.Replaced (negsuc 7))
    ∷ p (what.AnswerFault (negsuc 7) reason.ResolverDestroyed)
    ∷ p (what.Take (negsuc 1) (pos 2147483647) 0 (v (value.Int (pos 2)) Nothing))
    ∷ c (what.DeliverReply (negsuc 7))
    ∷ p (what.Return (negsuc 1))
    ∷ c (what.TakeReply (negsuc 7))
    ∷ c (what.Rejected (negsuc 7) reason.ResolverDestroyed)
    ∷ p (what.Take (negsuc 2) (pos 2147483647) 4 Nothing)
    ∷ p (what.Return (negsuc 2))
    ∷ p (what.Take (negsuc 3) (pos 2147483647) 0 (v (value.Int (pos 3)) Nothing))
    ∷ p (what.Return (negsuc 3))
    ∷ p (what.Take (negsuc 5) (pos 2147483647) 4 Nothing)
    ∷ p (what.Return (negsuc 5))
    ∷ p (what.Take (negsuc 6) (pos 2147483647) 2 (v (value.Int (pos 2)) Nothing))
    ∷ p (what.Return (negsuc 6))
    ∷ p (what.Take (negsuc 8) (pos 2147483647) 6 (v (value.Int (pos 2)) Nothing))
    ∷ p (what.Return (negsuc 8))
    ∷ p (what.AnswerFault (negsuc 8) reason.ResolverDestroyed)
    ∷ c (what.DeliverReply (negsuc 8))
    ∷ c (what.TakeReply (negsuc 8))
    ∷ c (what.Rejected (negsuc 8) reason.ResolverDestroyed)
    ∷ []

compression : shown compression_setting 92 compression_word ≡ Some (record { lines = compression_lines; ending = at_rest; quiet = true })
unfolding is_utf8 chars lib.Utf8.encode
compression = refl

abbrev lazy_outbox_schema : Schema
lazy_outbox_schema = record {
  protocols = (
      record {
        name = (codes "PLz");
        semantics = Async;
        level = level.Not;
        managers = ([]);
        manages = ([]);
        messages = (
            record { number = 0; name = (codes "Lz"); direction = direction.Parent; semantics = Async; level = level.Not; compress = compress.Plain; kind = Normal; params = (record { name = (codes "n"); shape = (shapes.Builtin word.Int32) } ∷ []); returns = None; carried = true; lazy = true } ∷
            record { number = 2; name = (codes "Now"); direction = direction.Parent; semantics = Async; level = level.Not; compress = compress.Plain; kind = Normal; params = ([]); returns = None; carried = true; lazy = false } ∷ []);
      } ∷ []);
  types = ([]);
}

abbrev lazy_outbox_script : Script
lazy_outbox_script = record {
  top = 0;
  blocks = (
      record { side = side.Child; handles = None; actions = (action.Send who.Top 0 (t (term.Int (pos 1)) terms.Nothing) ∷ action.Send who.Top 0 (t (term.Int (pos 2)) terms.Nothing) ∷ action.Send who.Top 2 terms.Nothing ∷ action.Send who.Top 0 (t (term.Int (pos 3)) terms.Nothing) ∷ []); reply = None } ∷ []);
}

abbrev lazy_outbox_setting : Setting
lazy_outbox_setting = record { schema = lazy_outbox_schema; script = lazy_outbox_script; stop = None; limit = 10000 }

abbrev lazy_outbox_word : List Turn
lazy_outbox_word = (tC ∷ [])

abbrev lazy_outbox_lines : List Line
lazy_outbox_lines =
    c (what.Send (negsuc 0) (pos 2147483647) 0 (v (value.Int (pos 1)) Nothing))
    ∷ c (what.Send (negsuc 1) (pos 2147483647) 0 (v (value.Int (pos 2)) Nothing))
    ∷ c (what.Send (negsuc 2) (pos 2147483647) 2 Nothing)
    ∷ p (what.DeliverRequest (negsuc 0))
    ∷ c (what.Send (negsuc 3) (pos 2147483647) 0 (v (value.Int (pos 3)) Nothing))
    ∷ p (what.Take (negsuc 0) (pos 2147483647) 0 (v (value.Int (pos 1)) Nothing))
    ∷ c (what.Flush 1)
    ∷ p (what.Return (negsuc 0))
    ∷ p (what.DeliverRequest (negsuc 1))
    ∷ p (what.Take (negsuc 1) (pos 2147483647) 0 (v (value.Int (pos 2)) Nothing))
    ∷ p (what.Return (negsuc 1))
    ∷ p (what.DeliverRequest (negsuc 2))
    ∷ p (what.Take (negsuc 2) (pos 2147483647) 2 Nothing)
    ∷ p (what.Return (negsuc 2))
    ∷ p (what.DeliverRequest (negsuc 3))
    ∷ p (what.Take (negsuc 3) (pos 2147483647) 0 (v (value.Int (pos 3)) Nothing))
    ∷ p (what.Return (negsuc 3))
    ∷ []

lazy_outbox : shown lazy_outbox_setting 44 lazy_outbox_word ≡ Some (record { lines = lazy_outbox_lines; ending = at_rest; quiet = true })
unfolding is_utf8 chars lib.Utf8.encode
lazy_outbox = refl

abbrev die_after_nine_schema : Schema
die_after_nine_schema = record {
  protocols = (
      record {
        name = (codes "PW");
        semantics = Sync;
        level = level.InsideCpow;
        managers = ([]);
        manages = ([]);
        messages = (
            record { number = 0; name = (codes "CallP"); direction = direction.Parent; semantics = Sync; level = level.InsideSync; compress = compress.Plain; kind = Normal; params = ([]); returns = (Some (record { name = (codes "r"); shape = (shapes.Builtin word.Int32) } ∷ [])); carried = true; lazy = false } ∷
            record { number = 2; name = (codes "Poke"); direction = direction.Parent; semantics = Async; level = level.InsideCpow; compress = compress.Plain; kind = Normal; params = ([]); returns = None; carried = true; lazy = false } ∷
            record { number = 4; name = (codes "Base"); direction = direction.Parent; semantics = Sync; level = level.Not; compress = compress.Plain; kind = Normal; params = ([]); returns = None; carried = true; lazy = false } ∷
            record { number = 6; name = (codes "CallC"); direction = direction.Child; semantics = Sync; level = level.InsideSync; compress = compress.Plain; kind = Normal; params = ([]); returns = (Some (record { name = (codes "r"); shape = (shapes.Builtin word.Int32) } ∷ [])); carried = true; lazy = false } ∷
            record { number = 8; name = (codes "Tell"); direction = direction.Child; semantics = Async; level = level.Not; compress = compress.Plain; kind = Normal; params = (record { name = (codes "n"); shape = (shapes.Builtin word.Int32) } ∷ []); returns = None; carried = true; lazy = false } ∷
            record { number = 10; name = (codes "Give"); direction = direction.Child; semantics = Async; level = level.Not; compress = compress.Plain; kind = Normal; params = (record { name = (codes "w"); shape = (shapes.Actor 0 false) } ∷ []); returns = None; carried = true; lazy = false } ∷ []);
      } ∷ []);
  types = ([]);
}

abbrev die_after_nine_script : Script
die_after_nine_script = record {
  top = 0;
  blocks = (
      record { side = side.Parent; handles = None; actions = (action.Send who.Top 6 terms.Nothing ∷ []); reply = None } ∷
      record { side = side.Child; handles = None; actions = (action.Send who.Top 4 terms.Nothing ∷ []); reply = None } ∷
      record { side = side.Child; handles = (Some 6); actions = (action.Send who.Top 0 terms.Nothing ∷ []); reply = (Some (t (term.Int (pos 1)) terms.Nothing)) } ∷
      record { side = side.Parent; handles = (Some 0); actions = (action.Send who.Top 6 terms.Nothing ∷ []); reply = (Some (t (term.Int (pos 2)) terms.Nothing)) } ∷
      record { side = side.Child; handles = (Some 6); actions = (action.Send who.Top 0 terms.Nothing ∷ []); reply = (Some (t (term.Int (pos 3)) terms.Nothing)) } ∷
      record { side = side.Parent; handles = (Some 0); actions = ([]); reply = (Some (t (term.Int (pos 4)) terms.Nothing)) } ∷ []);
}

abbrev die_after_nine_setting : Setting
die_after_nine_setting = record { schema = die_after_nine_schema; script = die_after_nine_script; stop = (Some (record { side = side.Child; after = 9 })); limit = 10000 }

abbrev die_after_nine_word : List Turn
die_after_nine_word = (tP ∷ tC ∷ [])

abbrev die_after_nine_lines : List Line
die_after_nine_lines =
    p (what.Call (pos 1) (pos 1) (pos 2147483647) 6 Nothing)
    ∷ c (what.Call (negsuc 0) (negsuc 0) (pos 2147483647) 4 Nothing)
    ∷ p (what.DeliverRequest (negsuc 0))
    ∷ c (what.DeliverRequest (pos 1))
    ∷ c (what.Take (pos 1) (pos 2147483647) 6 Nothing)
    ∷ c (what.Call (negsuc 1) (pos 1) (pos 2147483647) 0 Nothing)
    ∷ p (what.DeliverRequest (negsuc 1))
    ∷ p (what.Take (negsuc 1) (pos 2147483647) 0 Nothing)
    ∷ p (what.Call (pos 2) (pos 1) (pos 2147483647) 6 Nothing)
    ∷ c (what.DeliverRequest (pos 2))
    ∷ c (what.Take (pos 2) (pos 2147483647) 6 Nothing)
    ∷ c (what.Call (negsuc 2) (pos 1) (pos 2147483647) 0 Nothing)
    ∷ p (what.DeliverRequest (negsuc 2))
    ∷ p (what.Take (negsuc 2) (pos 2147483647) 0 Nothing)
    ∷ p (what.Return (negsuc 2))
    ∷ p (what.AnswerOk (negsuc 2) (v (value.Int (pos 4)) Nothing))
    ∷ c (what.DeliverReply (negsuc 2))
    ∷ c (what.ResumeOk (negsuc 2) (v (value.Int (pos 4)) Nothing))
    ∷ c what.Die
    ∷ p what.DeliverBroken
    ∷ p (what.Fails (pos 2))
    ∷ p (what.Fails (pos 1))
    ∷ p (what.ResumeFault (pos 2) reason.ChannelClosed)
    ∷ p (what.Return (negsuc 1))
    ∷ p (what.ResumeFault (pos 1) reason.ChannelClosed)
    ∷ p (what.Take (negsuc 0) (pos 2147483647) 4 Nothing)
    ∷ p (what.Return (negsuc 0))
    ∷ p what.ShutAbnormal
    ∷ p (what.Fall (pos 2147483647) destroy.AbnormalShutdown)
    ∷ []

die_after_nine : shown die_after_nine_setting 68 die_after_nine_word ≡ Some (record { lines = die_after_nine_lines; ending = at_rest; quiet = true })
unfolding is_utf8 chars lib.Utf8.encode
die_after_nine = refl

abbrev kept_resolver_schema : Schema
kept_resolver_schema = record {
  protocols = (
      record {
        name = (codes "PQ");
        semantics = Async;
        level = level.Not;
        managers = ([]);
        manages = ([]);
        messages = (
            record { number = 0; name = (codes "Get"); direction = direction.Both; semantics = Async; level = level.Not; compress = compress.Plain; kind = Normal; params = ([]); returns = (Some (record { name = (codes "r"); shape = (shapes.Builtin word.Int32) } ∷ [])); carried = true; lazy = false } ∷
            record { number = 2; name = (codes "Tell"); direction = direction.Parent; semantics = Async; level = level.Not; compress = compress.Plain; kind = Normal; params = (record { name = (codes "n"); shape = (shapes.Builtin word.Int32) } ∷ []); returns = None; carried = true; lazy = false } ∷ []);
      } ∷ []);
  types = ([]);
}

abbrev kept_resolver_script : Script
kept_resolver_script = record {
  top = 0;
  blocks = (
      record { side = side.Child; handles = None; actions = (action.Send who.Top 0 terms.Nothing ∷ action.Send who.Top 2 (t (term.Int (pos 1)) terms.Nothing) ∷ []); reply = None } ∷
      record { side = side.Parent; handles = (Some 0); actions = (action.Keep (codes "k") ∷ []); reply = None } ∷
      record { side = side.Parent; handles = (Some 2); actions = (action.ResolveNamed (codes "k") 0 (t (term.Int (pos 5)) terms.Nothing) ∷ []); reply = None } ∷ []);
}

abbrev kept_resolver_setting : Setting
kept_resolver_setting = record { schema = kept_resolver_schema; script = kept_resolver_script; stop = None; limit = 10000 }

abbrev kept_resolver_word : List Turn
kept_resolver_word = (tC ∷ tC ∷ [])

abbrev kept_resolver_lines : List Line
kept_resolver_lines =
    c (what.Send (negsuc 0) (pos 2147483647) 0 Nothing)
    ∷ c (what.Send (negsuc 1) (pos 2147483647) 2 (v (value.Int (pos 1)) Nothing))
    ∷ p (what.DeliverRequest (negsuc 0))
    ∷ p (what.Take (negsuc 0) (pos 2147483647) 0 Nothing)
    ∷ p (what.Keep (negsuc 0) (codes "k"))
    ∷ p (what.Return (negsuc 0))
    ∷ p (what.DeliverRequest (negsuc 1))
    ∷ p (what.Take (negsuc 1) (pos 2147483647) 2 (v (value.Int (pos 1)) Nothing))
    ∷ p (what.Resolve (negsuc 0) (v (value.Int (pos 5)) Nothing))
    ∷ c (what.DeliverReply (negsuc 0))
    ∷ p (what.Return (negsuc 1))
    ∷ c (what.TakeReply (negsuc 0))
    ∷ c (what.Resolved (negsuc 0) (v (value.Int (pos 5)) Nothing))
    ∷ []

kept_resolver : shown kept_resolver_setting 36 kept_resolver_word ≡ Some (record { lines = kept_resolver_lines; ending = at_rest; quiet = true })
unfolding is_utf8 chars lib.Utf8.encode
kept_resolver = refl
