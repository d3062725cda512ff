-- Numbers of requests and actors, and what the row of a message determines about its steps.
use Rattle.std.specs.Prelude.{ℕ, ◌+◌, ◌*◌, ◌/◌, ◌==◌, ℤ, pos, neg_ℤ, Bool, true, false, not, ◌&&◌, Option, Some, None, is_some, if◌then◌else◌, option_and_then}
use Rattle.ipdl_base.specs.declared.kinds.Side.{Side}
use Rattle.ipdl_base.specs.declared.kinds.Side.TheVariants.{Parent, Child}
use Rattle.ipdl_base.specs.declared.schema.Kind.{Kind}
use Rattle.ipdl_base.specs.declared.schema.Kind.TheVariants.{Normal, Constructor, Delete}
use Rattle.ipdl_base.specs.declared.schema.MessageRow.{MessageRow}
use Rattle.ipdl_base.specs.declared.schema.Schema.{Schema}
use Rattle.ipdl_base.specs.Sound.{is_sync, message_of}

-- the number of a side's k-th request
abbrev pub seq_of : Side → ℕ → ℤ
seq_of Parent k = pos k
seq_of Child k = neg_ℤ (pos k)

-- the id of the k-th actor that a side constructs
abbrev pub id_of : Side → ℕ → ℤ
id_of Parent k = pos (4 * k + 2)
id_of Child k = pos (4 * k)

-- the protocol of a message, by the number of its request or reply
abbrev pub protocol_of : ℕ → ℕ
protocol_of number = number / 65536

-- the message whose request has this number
abbrev pub request_row : Schema → ℕ → Option MessageRow
request_row schema number = option_and_then (λ row. if row.number == number then Some row else None) (message_of schema number)

abbrev pub is_sync_row : MessageRow → Bool
is_sync_row row = is_sync row.semantics

-- whether a request of the message makes a promise, and gives its handler a resolver
abbrev pub makes_promise : MessageRow → Bool
makes_promise row = not (is_sync_row row) && is_some row.returns

abbrev pub is_constructor : Kind → Bool
is_constructor Normal = false
is_constructor (Constructor protocol) = true
is_constructor Delete = false

-- a counter of constructors after a request of this kind
abbrev pub counting : Kind → ℕ → ℕ
counting kind n = if is_constructor kind then n + 1 else n
