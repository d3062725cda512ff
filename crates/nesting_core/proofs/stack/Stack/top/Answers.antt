use Rattle.nesting_core.proofs.RoomLemmas.{leaves_room}
use Rattle.nesting_core.proofs.stack.Stack.top.Goals as goal

pub returns-clause-room : goal.returns-clause-room
returns-clause-room c = rw (c.top.ensures, c.outward.ensures.frames) (leaves_room c.args.self.now c.outward.ensures.room)
