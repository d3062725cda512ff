-- Values, types and messages up to where their boxes lie: the plain form is the same with every box at one place.
use Rattle.std.specs.declared.alloc.Global.{Global}
use Rattle.std.specs.declared.boxed.Box.{Box}
use denote.RawPtr.{null_ptr}
use Rattle.ipdl_base.specs.declared.message.Body.{Body}
use Rattle.ipdl_base.specs.declared.message.Body.TheVariants.{Request, Reply, Fault, Goodbye}
use Rattle.ipdl_base.specs.declared.message.Message.{Message}
use Rattle.ipdl_base.specs.declared.schema.Shape.{Shape, Builtin, Using, Actor, Named, Array', Maybe', Unique', Endpoint}
use Rattle.ipdl_base.specs.declared.value.Value.{Value, Held-Value-Maybe-0, None', Some'}
use Rattle.ipdl_base.specs.declared.value.Value as boxed
use Rattle.ipdl_base.specs.declared.value.Value.TheVariants as value
use Rattle.ipdl_base.specs.declared.value.Values.{Values, First'}
use Rattle.ipdl_base.specs.declared.value.Values.TheVariants as values

-- a box at one place
abbrev pub one_box : Box (Unit {0}) Global
one_box = record { ptr = null_ptr; alloc = record { memory = record { seal = tt } }; value = tt }

-- a value, the value in a maybe, and values, with every box there
abbrev mutual
  pub plain : Value → Value
  plain (value.Bool b) = value.Bool b
  plain (value.Int n) = value.Int n
  plain (value.Text text) = value.Text text
  plain (value.Bytes bytes) = value.Bytes bytes
  plain (value.Bits bits) = value.Bits bits
  plain (value.Struct fields) = value.Struct (plain_values fields)
  plain (boxed.Union' index _ held) = boxed.Union' index one_box (plain held)
  plain (value.Array elements) = value.Array (plain_values elements)
  plain (boxed.Maybe' held) = boxed.Maybe' (plain_held held)
  plain (value.Actor id) = value.Actor id

  pub plain_held : Held-Value-Maybe-0 → Held-Value-Maybe-0
  plain_held None' = None'
  plain_held (Some' _ held) = Some' one_box (plain held)

  pub plain_values : Values → Values
  plain_values values.Nothing = values.Nothing
  plain_values (First' _ first _ rest) = First' one_box (plain first) one_box (plain_values rest)

-- a type with every box there
abbrev pub plain_shape : Shape → Shape
plain_shape (Builtin builtin) = Builtin builtin
plain_shape (Using name) = Using name
plain_shape (Actor protocol nullable) = Actor protocol nullable
plain_shape (Named number) = Named number
plain_shape (Array' _ element) = Array' one_box (plain_shape element)
plain_shape (Maybe' _ held) = Maybe' one_box (plain_shape held)
plain_shape (Unique' _ held) = Unique' one_box (plain_shape held)
plain_shape (Endpoint protocol managed) = Endpoint protocol managed

-- what a message carries, with every box there
abbrev pub plain_body : Body → Body
plain_body (Request parameters) = Request (plain_values parameters)
plain_body (Reply returns) = Reply (plain_values returns)
plain_body (Fault reason) = Fault reason
plain_body Goodbye = Goodbye

-- a message with every box there
abbrev pub plain_message : Message → Message
plain_message message = record message { body = plain_body message.body }
