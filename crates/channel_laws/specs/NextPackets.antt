-- The part of the law Prefix on deliveries: what is delivered is the next of what the other end has sent.
use Rattle.std.specs.Prelude.{Bool, true, List, [], ◌∷◌}
use Rattle.ipdl_base.specs.declared.line.What.{What}
use Rattle.history_reading.specs.declared.parts.PacketKind.{PacketKind}
use Rattle.history_reading.specs.EndReading.{EndReading}
use Rattle.history_reading.specs.Prefix.{is_next}
use Rattle.channel_laws.specs.Delivered.{delivered_by}

-- the first of these packets, if any, is the next that the other end has sent
abbrev pub next_of : List PacketKind → EndReading → EndReading → Bool
next_of [] own other = true
next_of (kind ∷ kinds) own other = is_next kind own other

-- what a line delivers is the next; a line that delivers nothing passes
abbrev pub next_line : EndReading → EndReading → What → Bool
next_line own other said = next_of (delivered_by said) own other
