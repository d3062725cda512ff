-- Lists of messages and pairs, in the order in which the code makes them.
use Rattle.std.specs.Prelude.{ℕ, Bool, ◌&&◌, List, map, flat_map, filter}
use Rattle.ipdl_base.specs.declared.kinds.Side.{Side}
use Rattle.ipdl_base.specs.declared.schema.MessageRow.{MessageRow}
use Rattle.ipdl_base.specs.declared.schema.ProtocolRow.{ProtocolRow}
use Rattle.wait_report.specs.declared.pair.Pair.{Pair}
use Rattle.wait_report.specs.declared.roles.Role.{Role}
use Rattle.wait_report.specs.declared.roles.Role.TheVariants.{Waits, Takes}
use Rattle.wait_report.specs.Least.{can_send}
use Rattle.wait_report.specs.Pairs.{may_wait, may_interrupt}

-- whether a message may have a role at the end of a side
abbrev pub plays : Role → Side → MessageRow → Bool
plays Waits side row = may_wait side row
plays Takes side row = may_interrupt side row

-- whether a message has a role and can be sent, by what is known
abbrev pub is_player : List ℕ → List Bool → Role → Side → MessageRow → Bool
is_player types built role side row = plays role side row && can_send types built row

-- the numbers of the messages that have a role and can be sent, among some messages
abbrev pub numbers_in : List ℕ → List Bool → Role → Side → List MessageRow → List ℕ
numbers_in types built role side rows = map (λ row. row.number) (filter (is_player types built role side) rows)

-- the same among the messages of protocols
abbrev pub numbers_of : List ℕ → List Bool → Role → Side → List ProtocolRow → List ℕ
numbers_of types built role side protocols = flat_map (λ protocol. numbers_in types built role side protocol.messages) protocols

-- the pairs of one message whose reply is waited for
abbrev pub pairs_under : Side → List ℕ → ℕ → List Pair
pairs_under side taken wait = map (λ number. record { side = side; waits = wait; takes = number }) taken

-- the pairs of some messages that are waited for with some that are taken
abbrev pub pairs_at : Side → List ℕ → List ℕ → List Pair
pairs_at side waiting taken = flat_map (pairs_under side taken) waiting

-- the pairs of a side, by what is known
abbrev pub pairs_of : List ℕ → List Bool → List ProtocolRow → Side → List Pair
pairs_of types built protocols side = pairs_at side (numbers_of types built Waits side protocols) (numbers_of types built Takes side protocols)
