-- What an end has sent, by its lines, is what has left it, what waits in its outbox, and what was lost.
use Rattle.std.specs.Prelude.{◌≡◌, ℕ, zero, suc, ℤ, Bool, true, List, [], ◌∷◌, ◌++◌, map}
use Rattle.std.specs.List.{AllByRecursion}
use Rattle.ipdl_base.specs.declared.kinds.Side.{Side}
use Rattle.ipdl_base.specs.declared.message.Message.{Message}
use Rattle.ipdl_base.specs.declared.schema.Schema.{Schema}
use Rattle.history_reading.specs.EndReading.{EndReading}
use Rattle.history_reading.specs.Rows.{is_sync_number}
use Rattle.history_reading.specs.SentPacket as told
use Rattle.history_reading.specs.SentPacket.{SentPacket, requests_of}
use Rattle.channel_model.specs.Ends.{End, message}
use Rattle.channel_model.specs.Numbers.{seq_of}
use Rattle.channel_model.specs.Outputs.{is_open}
use Rattle.channel_laws.specs.Notes.{Note, told_notes, notes}

-- the numbers of the first n requests of a side
abbrev pub seqs : Side → ℕ → List ℤ
seqs side zero = []
seqs side (suc n) = seqs side n ++ seq_of side (suc n) ∷ []

abbrev pub request_seq : told.Request → ℤ
request_seq r = r.seq

-- a request is read as sync exactly where its message is
abbrev pub HasSyncOfRow : Schema → told.Request → Type 0
HasSyncOfRow schema r = r.sync ≡ is_sync_number schema r.number

-- What was sent is what has left, what waits in the outbox, and what was lost; only an end that is not open has lost
-- anything. The requests among what was sent are numbered in order.
pub record SentAccount (schema : Schema) (side : Side) (open_end : Bool) (outbox : List Message) (count : ℕ) (sent : List SentPacket) (left : List Note) : Type 0 where
  pub lost : List Note
  pub whole : told_notes side sent ≡ left ++ (notes schema (map message outbox) ++ lost)
  pub kept : open_end ≡ true → lost ≡ []
  pub numbers : map request_seq (requests_of sent) ≡ seqs side count
  pub syncs : AllByRecursion (HasSyncOfRow schema) (requests_of sent)

-- the account of what an end has sent
abbrev pub EndAccount : Schema → End → EndReading → List Note → Type 0
EndAccount schema e own left = SentAccount schema e.side (is_open e.state) e.outbox e.sent own.sent left
