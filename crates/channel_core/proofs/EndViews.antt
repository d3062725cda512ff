-- What contracts see of the fields of an end.
use Rattle.std.proofs.Common.{map}
use Rattle.pending_queue.specs.Plain.{plain_item}
use Rattle.channel_model.specs.Ends.{End}
use Rattle.channel_core.specs.declared.end.End.TheInside.{Inside}
use Rattle.channel_core.specs.EndView.{EndView}

abbrev pub end_in : Inside → End
end_in a = record {
  side = a.side;
  state = a.state;
  actors = a.tree;
  arrived = map plain_item a.pending.items;
  stack = a.stack;
  promises = a.promises;
  names = a.names.names;
  outbox = a.out.outbox;
  sent = a.sent;
  constructors_sent = a.constructors_sent;
  delivered = a.delivered;
  constructors_delivered = a.constructors_delivered;
}

abbrev pub seen_in : Inside → EndView
seen_in a = record { end = end_in a; schema = a.schema.now; lines = a.out.lines; packets = a.out.packets }
