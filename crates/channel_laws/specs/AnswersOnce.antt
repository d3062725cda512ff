-- Each request is answered once: the number of times that an end may still answer it, or has done so.
use Rattle.std.specs.Prelude.{◌≡◌, ℕ, ◌+◌, ℤ, Bool, true, false, ◌&&◌, ◌||◌, List, map, Some}
use Rattle.std.specs.List.{AllByRecursion}
use Rattle.std.specs.Ordering.{int_eq}
use Rattle.ipdl_base.specs.declared.kinds.Side.{Side}
use Rattle.ipdl_base.specs.declared.schema.MessageRow.{MessageRow}
use Rattle.ipdl_base.specs.declared.schema.Schema.{Schema}
use Rattle.nesting_core.specs.Frames.{head_of, is_dispatch}
use Rattle.pending_queue.specs.declared.item.Item.{Item}
use Rattle.channel_model.specs.Ends.{End, StackEntry, Naming, NameContent, actor, resolver}
use Rattle.ipdl_base.specs.Sides.{other}
use Rattle.channel_model.specs.Numbers.{is_sync_row, request_row}
use Rattle.history_reading.specs.declared.parts.PacketKind.{PacketKind}
use Rattle.history_reading.specs.declared.parts.PacketKind.TheVariants as kind
use Rattle.history_reading.specs.EndReading.{EndReading}
use Rattle.history_reading.specs.SentPacket.{packet_kind}
use Rattle.channel_laws.specs.Arrivals.{item_kind}
use Rattle.channel_laws.specs.Counts.{how_many, is_packet, AreNumberedOnce}

-- whether a frame is the dispatch of the request of a number, which its return or its resolver will answer
abbrev pub owes_answer : ℤ → StackEntry → Bool
owes_answer n entry = is_dispatch entry.frame && ((entry.resolves || (head_of entry.frame).sync) && int_eq (head_of entry.frame).seq n)

-- whether a name is for the resolver of the request of a number
abbrev pub holds_resolver_of : ℤ → NameContent → Bool
holds_resolver_of n (actor id) = false
holds_resolver_of n (resolver r) = int_eq r.seq n

abbrev pub names_resolver : ℤ → Naming → Bool
names_resolver n naming = holds_resolver_of n naming.holds

-- the number of times that the request of a number has arrived, has a frame or a name that will answer it, and was
-- answered
abbrev pub answers : List Item → List StackEntry → List Naming → List PacketKind → ℤ → ℕ
answers items stack names sent n =
    how_many (is_packet (kind.Request n)) (map item_kind items) + (how_many (owes_answer n) stack + (how_many (names_resolver n) names + how_many (is_packet (kind.Reply n)) sent))

-- A dispatch is sync as its message is, and only a dispatch that is not sync has a resolver.
pub record AnswersOneWay (schema : Schema) (entry : StackEntry) : Type 0 where
  pub is_sync : (row : MessageRow) → is_dispatch entry.frame ≡ true → request_row schema entry.number ≡ Some row → is_sync_row row ≡ (head_of entry.frame).sync
  pub resolves : entry.resolves ≡ true → (head_of entry.frame).sync ≡ false

-- Each request of the other side is answered at most once.
pub record IsAnsweredOnce (schema : Schema) (side : Side) (items : List Item) (stack : List StackEntry) (names : List Naming) (count : ℕ) (sent : List PacketKind) : Type 0 where
  pub numbered : AreNumberedOnce (other side) count (answers items stack names sent)
  pub entries : AllByRecursion (AnswersOneWay schema) stack

-- the packets that an end has sent, as deliveries show them
abbrev pub sent_kinds : EndReading → List PacketKind
sent_kinds own = map packet_kind own.sent

abbrev pub AnswersOnce : Schema → End → EndReading → Type 0
AnswersOnce schema e own = IsAnsweredOnce schema e.side e.arrived e.stack e.names e.delivered (sent_kinds own)
