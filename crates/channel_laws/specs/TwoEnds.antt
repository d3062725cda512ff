-- The reading of both ends' lines is the world.
use Rattle.std.specs.Prelude.{◌≡◌, List, ◌++◌, map}
use Rattle.std.specs.List.{AllByRecursion}
use Rattle.ipdl_base.specs.declared.kinds.Side.TheVariants.{Parent}
use Rattle.ipdl_base.specs.declared.schema.Schema.{Schema}
use Rattle.history_reading.specs.EndReading.{EndReading}
use Rattle.history_reading.specs.Reading.{Reading}
use Rattle.channel_model.specs.Ends.{End, World, Packet}
use Rattle.ipdl_base.specs.Sides.{other}
use Rattle.channel_laws.specs.Notes.{Note, told_notes, notes, note_kind}
use Rattle.channel_laws.specs.Origins.{PacketReplies, HasOrigins}
use Rattle.channel_laws.specs.Outlines.{outline, HasOutline}
use Rattle.channel_laws.specs.SentAccounts.{EndAccount}

-- What an end has sent is what the other end has received, what is on the link, what waits in the outbox, and what
-- was lost.
pub record LinkAccount (schema : Schema) (sender : End) (sent_by given_to : EndReading) (link : List Packet) : Type 0 where
  pub got : List Note
  pub kinds : map note_kind got ≡ given_to.delivered
  pub sent : EndAccount schema sender sent_by (got ++ notes schema link)

-- Two ends, what is read of their lines, and the links to them.
pub record TwoEnds (schema : Schema) (mine theirs : End) (own others : EndReading) (to_me to_them : List Packet) : Type 0 where
  pub sides : theirs.side ≡ other mine.side
  pub outlined : HasOutline mine (outline own)
  pub their_outlined : HasOutline theirs (outline others)
  pub origins : HasOrigins schema (told_notes theirs.side others.sent) mine
  pub their_origins : HasOrigins schema (told_notes mine.side own.sent) theirs
  pub comes : LinkAccount schema theirs others own to_me
  pub goes : LinkAccount schema mine own others to_them
  pub replies : AllByRecursion (PacketReplies schema (told_notes mine.side own.sent)) to_me
  pub their_replies : AllByRecursion (PacketReplies schema (told_notes theirs.side others.sent)) to_them

-- The reading is the world: states and whether the ends have ended and closed, stacks, the number of constructed
-- actors, and what was sent and delivered. All that is handled, kept, replied to or has arrived belongs to what was
-- sent.
pub record ReadingIs (schema : Schema) (world : World) (reading : Reading) : Type 0 where
  pub parent : world.parent.side ≡ Parent
  pub ends : TwoEnds schema world.parent world.child reading.parent reading.child world.to_parent world.to_child
