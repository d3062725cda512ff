-- What contracts see of what an end has made and its owner has not fetched.
use Rattle.std.specs.Prelude.{ℕ, ◌+◌, ◌-◌, List, [], ◌∷◌, ◌++◌, length, Option}
use Rattle.ipdl_base.specs.declared.line.Line.{Line}
use Rattle.ipdl_base.specs.declared.message.Message.{Message}
use Rattle.end_parts.specs.declared.packet.Packet.{Packet}

-- The lines, the packets and the outbox, oldest first; the room for more of each; the number of lines that are owed
-- yet; the packets that the outbox will be; and the packet of the goodbye, until that is put.
pub record OutputView : Type 0 where
  pub lines : List Line
  pub line_spare : ℕ
  pub lines_owed : ℕ
  pub packets : List Packet
  pub packet_spare : ℕ
  pub outbox : List Message
  pub outbox_spare : ℕ
  pub frames : List Packet
  pub goodbye : Option Packet

-- a line more
abbrev pub with_line : OutputView → Line → OutputView
with_line out line = record out { lines = out.lines ++ line ∷ []; line_spare = out.line_spare - 1 }

-- a lazy request more, with its packet
abbrev pub with_lazy : OutputView → Message → Packet → OutputView
with_lazy out m packet = record out { outbox = out.outbox ++ m ∷ []; outbox_spare = out.outbox_spare - 1; frames = out.frames ++ packet ∷ [] }

-- nothing waits
abbrev pub without_outbox : OutputView → OutputView
without_outbox out = record out { outbox = []; outbox_spare = out.outbox_spare + length out.outbox; frames = [] }

-- a packet more, after the outbox
abbrev pub with_packet : OutputView → Packet → OutputView
with_packet out packet = record (without_outbox out) { packets = out.packets ++ out.frames ++ packet ∷ []; packet_spare = out.packet_spare - (length out.frames + 1) }
