-- Worked feeds: each gives exactly these lines, keeps this fault or none, and ends at rest.
use Rattle.std.specs.Prelude.{◌≡◌, ℕ, pos, negsuc, Bool, true, false, List, [], ◌∷◌, ◌++◌, Option, Some, None, codes, option_map, refl}
use Rattle.ipdl_base.specs.declared.builtin.Builtin.TheVariants as word
use Rattle.ipdl_base.specs.declared.kinds.Compress.TheVariants as compress
use Rattle.ipdl_base.specs.declared.kinds.Destroy.TheVariants as destroy
use Rattle.ipdl_base.specs.declared.kinds.Direction.TheVariants as direction
use Rattle.ipdl_base.specs.declared.kinds.Level.TheVariants as level
use Rattle.ipdl_base.specs.declared.kinds.Reason.TheVariants as reason
use Rattle.ipdl_base.specs.declared.kinds.Semantics.TheVariants.{Async}
use Rattle.ipdl_base.specs.declared.kinds.Side.TheVariants as side
use Rattle.ipdl_base.specs.declared.line.Line.{Line}
use Rattle.ipdl_base.specs.declared.line.What.{What}
use Rattle.ipdl_base.specs.declared.line.What.TheVariants as what
use Rattle.ipdl_base.specs.declared.schema.Kind.TheVariants.{Normal}
use Rattle.ipdl_base.specs.declared.schema.Schema.{Schema}
use Rattle.ipdl_base.specs.declared.schema.Shape as shapes
use Rattle.ipdl_base.specs.declared.value.Value.TheVariants as value
use Rattle.ipdl_base.specs.declared.value.Values.{First'}
use Rattle.ipdl_base.specs.declared.value.Values.TheVariants.{Nothing}
use Rattle.ipdl_base.specs.Plain.{one_box}
use Rattle.handler_script.specs.declared.action.Action.TheVariants as action
use Rattle.handler_script.specs.declared.term.Terms.TheVariants as terms
use Rattle.script_reader.specs.declared.written.Who.TheVariants as who
use Rattle.value_codec.specs.Decoding.{begins}
use Rattle.value_codec.specs.Frames.{ended, made_at, request_at, returns_at}
use Rattle.value_codec.specs.Reading.{field_at, flag_at, flag_value_at, signed_at, value_at, values_at, zeros}
use Rattle.feed_runs.specs.declared.fault.FeedFault.{FeedFault}
use Rattle.feed_runs.specs.declared.fault.FeedFault.TheVariants as fault
use Rattle.script_steps.specs.Choices.{Setting}
use Rattle.feed_runs.specs.FeedTurns.{beginning_of, fed}

-- What the feed of a parent shows.
record Shown : Type 0 where
  lines : List Line
  fault : Option FeedFault
  spent : Bool

abbrev shown : Setting → List ℕ → Option Shown
shown setting bytes =
    option_map (λ end. record { lines = end.state.half.lines; fault = end.state.fault; spent = end.spent }) (fed setting side.Parent bytes 12 (beginning_of setting side.Parent))

abbrev p : What → Line
p what = record { side = side.Parent; what = what }

-- a question with an answer, and a message of a number
abbrev asking : Schema
asking = record {
  protocols = record {
    name = codes "PQ";
    semantics = Async;
    level = level.Not;
    managers = [];
    manages = [];
    messages =
        record { number = 0; name = codes "Get"; direction = direction.Both; semantics = Async; level = level.Not; compress = compress.Plain; kind = Normal; params = []; returns = Some (record { name = codes "r"; shape = shapes.Builtin word.Int32 } ∷ []); carried = true; lazy = false }
        ∷ record { number = 2; name = codes "Tell"; direction = direction.Parent; semantics = Async; level = level.Not; compress = compress.Plain; kind = Normal; params = record { name = codes "n"; shape = shapes.Builtin word.Int32 } ∷ []; returns = None; carried = true; lazy = false }
        ∷ [];
  } ∷ [];
  types = [];
}

-- the parent asks once
abbrev asks_once : Setting
asks_once = record {
  schema = asking;
  script = record { top = 0; blocks = record { side = side.Parent; handles = None; actions = action.Send who.Top 0 terms.Nothing ∷ []; reply = None } ∷ [] };
  stop = None;
  limit = 10000;
}

-- the frame of a reply that gives 5 to the request of a number below 256
abbrev reply_frame : ℕ → List ℕ
reply_frame seq =
    73 ∷ 80 ∷ 68 ∷ 50 ∷ 4 ∷ 0 ∷ 0 ∷ 0 ∷ 255 ∷ 255 ∷ 255 ∷ 127 ∷ 1 ∷ 0 ∷ 0 ∷ 0
    ∷ 8 ∷ 0 ∷ 0 ∷ 0 ∷ seq ∷ 0 ∷ 0 ∷ 0 ∷ 0 ∷ 0 ∷ 0 ∷ 0 ∷ 5 ∷ 0 ∷ 0 ∷ 0 ∷ []

-- a reply settles its promise; then nothing is left, and the other end is as good as dead
settles : shown asks_once (reply_frame 1) ≡ Some (record {
  lines =
      p (what.Send (pos 1) (pos 2147483647) 0 Nothing)
      ∷ p (what.DeliverReply (pos 1))
      ∷ p (what.TakeReply (pos 1))
      ∷ p (what.Resolved (pos 1) (First' one_box (value.Int (pos 5)) one_box Nothing))
      ∷ p what.DeliverBroken
      ∷ p what.ShutAbnormal
      ∷ p (what.Fall (pos 2147483647) destroy.AbnormalShutdown)
      ∷ [];
  fault = None;
  spent = false;
})
unfolding begins ended field_at returns_at signed_at value_at values_at zeros
settles = refl

-- a reply to a request that was not sent is stray, and nothing after it is read: the promise is rejected as the end closes
stray : shown asks_once (reply_frame 2 ++ reply_frame 1) ≡ Some (record {
  lines =
      p (what.Send (pos 1) (pos 2147483647) 0 Nothing)
      ∷ p what.DeliverBroken
      ∷ p what.ShutAbnormal
      ∷ p (what.Rejected (pos 1) reason.ChannelClosed)
      ∷ p (what.Fall (pos 2147483647) destroy.AbnormalShutdown)
      ∷ [];
  fault = Some (fault.Stray 0 (pos 2));
  spent = false;
})
unfolding begins ended field_at returns_at signed_at value_at values_at zeros
stray = refl

-- bytes that end inside of a frame
cut : shown asks_once (73 ∷ 80 ∷ 68 ∷ []) ≡ Some (record {
  lines =
      p (what.Send (pos 1) (pos 2147483647) 0 Nothing)
      ∷ p what.DeliverBroken
      ∷ p what.ShutAbnormal
      ∷ p (what.Rejected (pos 1) reason.ChannelClosed)
      ∷ p (what.Fall (pos 2147483647) destroy.AbnormalShutdown)
      ∷ [];
  fault = Some (fault.Short 0 25);
  spent = false;
})
unfolding begins
cut = refl

-- at the limit the end is spent, and of bytes that it has not read no fault is kept
spent : shown (record asks_once { limit = 1 }) (reply_frame 2) ≡ Some (record { lines = p (what.Send (pos 1) (pos 2147483647) 0 Nothing) ∷ []; fault = None; spent = true })
spent = refl

-- a flag to the parent
abbrev flags : Schema
flags = record {
  protocols = record {
    name = codes "PF";
    semantics = Async;
    level = level.Not;
    managers = [];
    manages = [];
    messages = record { number = 0; name = codes "Flag"; direction = direction.Parent; semantics = Async; level = level.Not; compress = compress.Plain; kind = Normal; params = record { name = codes "b"; shape = shapes.Builtin word.Bool } ∷ []; returns = None; carried = true; lazy = false } ∷ [];
  } ∷ [];
  types = [];
}

-- the parent does nothing of its own
abbrev idle : Setting
idle = record { schema = flags; script = record { top = 0; blocks = [] }; stop = None; limit = 10000 }

abbrev flag_frame : List ℕ
flag_frame =
    73 ∷ 80 ∷ 68 ∷ 50 ∷ 4 ∷ 0 ∷ 0 ∷ 0 ∷ 255 ∷ 255 ∷ 255 ∷ 127 ∷ 0 ∷ 0 ∷ 0 ∷ 0
    ∷ 0 ∷ 0 ∷ 0 ∷ 0 ∷ 255 ∷ 255 ∷ 255 ∷ 255 ∷ 0 ∷ 0 ∷ 0 ∷ 0 ∷ 1 ∷ 0 ∷ 0 ∷ 0 ∷ []

-- the second of two requests of one number has a wrong number, at the place of that field
wrong_number : shown idle (flag_frame ++ flag_frame) ≡ Some (record {
  lines =
      p (what.DeliverRequest (negsuc 0))
      ∷ p (what.Take (negsuc 0) (pos 2147483647) 0 (First' one_box (value.Bool true) one_box Nothing))
      ∷ p (what.Return (negsuc 0))
      ∷ p what.DeliverBroken
      ∷ p what.ShutAbnormal
      ∷ p (what.Fall (pos 2147483647) destroy.AbnormalShutdown)
      ∷ [];
  fault = Some (fault.Bad 52 12);
  spent = false;
})
unfolding begins ended made_at request_at flag_at flag_value_at value_at values_at zeros
wrong_number = refl
