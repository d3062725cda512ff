-- What the code keeps of an end shows what is read of it.
use Rattle.history_reading.specs.declared.end_reading.EndReading as kept
use Rattle.history_reading.specs.EndReading.{EndReading}
use Rattle.history_reading.specs.Views.{sent_view}

abbrev pub end_view : kept.EndReading → EndReading
end_view h = record {
  state = h.state;
  ended = h.ended;
  over = h.over;
  built = h.built.items;
  fallen = h.fallen;
  made = h.made;
  sent = sent_view h.sent;
  delivered = h.delivered.items;
  arrived = h.arrived.items;
  gone = h.gone;
  replaced = h.replaced;
  replies = h.replies;
  failed = h.failed;
  settled = h.settled;
  stack = h.stack;
  event = h.event;
  cause = h.cause;
  falls = h.falls.items;
}
