-- What has arrived at an end was sent by the other end, by that end's lines.
use Rattle.std.specs.Prelude.{◌≡◌, List}
use Rattle.std.specs.List.{AllByRecursion}
use Rattle.ipdl_base.specs.declared.kinds.Side.{Side}
use Rattle.ipdl_base.specs.declared.schema.Schema.{Schema}
use Rattle.pending_queue.specs.declared.item.Item.{Item}
use Rattle.pending_queue.specs.declared.item.Item.TheVariants as item
use Rattle.history_reading.specs.EndReading.{EndReading}
use Rattle.history_reading.specs.Rows.{wants_number}
use Rattle.history_reading.specs.SentPacket.{SentPacket, Request, requests_of}
use Rattle.channel_model.specs.Ends.{End}
use Rattle.channel_laws.specs.Notes.{Note, body_note, told_notes, In}

-- a message that has arrived is noted among what was sent, field by field
abbrev pub ItemIsNoted : Schema → List Note → Item → Type 0
ItemIsNoted schema sent (item.Message m sync level) = In (body_note schema m m.body) sent
ItemIsNoted schema sent item.Broken = Unit {0}

abbrev pub ArrivalsAreNoted : Schema → List Note → End → Type 0
ArrivalsAreNoted schema sent e = AllByRecursion (ItemIsNoted schema sent) e.arrived

-- a request is read as one that makes a promise exactly where its message makes one
abbrev pub HasWantsOfRow : Schema → Request → Type 0
HasWantsOfRow schema r = r.wants ≡ wants_number schema r.number

abbrev pub HaveWantsOfRows : Schema → List SentPacket → Type 0
HaveWantsOfRows schema sent = AllByRecursion (HasWantsOfRow schema) (requests_of sent)

-- What has arrived at an end is noted among what the other end, that of a side, has sent; and requests are read as
-- their messages require.
pub record IsNoted (schema : Schema) (their_side : Side) (others : EndReading) (e : End) (own : EndReading) : Type 0 where
  pub arrived : ArrivalsAreNoted schema (told_notes their_side others.sent) e
  pub wants : HaveWantsOfRows schema own.sent
