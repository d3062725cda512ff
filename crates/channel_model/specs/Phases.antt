-- How far an event has come: what its later parts depend on.
use Rattle.std.specs.Prelude.{◌≡◌, ℤ, pos, Bool, true, false, if◌then◌else◌, List, [], ◌∷◌}
use Rattle.ipdl_base.specs.declared.kinds.Destroy.{Destroy}
use Rattle.ipdl_base.specs.declared.message.Message.{Message}
use Rattle.ipdl_base.specs.declared.schema.Kind.{Kind}
use Rattle.ipdl_base.specs.declared.schema.Kind.TheVariants.{Normal, Constructor, Delete}
use Rattle.ipdl_base.specs.declared.schema.MessageRow.{MessageRow}
use Rattle.channel_model.specs.Numbers.{is_constructor}

-- How an event began: a request of a number is sent to an actor, or is handled at one; the other end has ended; this
-- end closes; or in another way.
pub data EventStart : Type 0 where
  sends : ℤ → ℤ → EventStart
  takes : ℤ → ℤ → EventStart
  ends : EventStart
  closes : EventStart
  other : EventStart

-- Why actors fall in an event: no actor falls, the actor of a destructor falls with all below it, or all actors fall.
pub data FallCause : Type 0 where
  nobody : FallCause
  deletion : ℤ → FallCause
  closing : Destroy → FallCause

-- How far an event has come: how it began, the kind of its request, why actors fall in it, the ids of actors that are
-- still to be built, the falls that are still due, and whether a name may still lose its content.
pub record Phase : Type 0 where
  pub start : EventStart
  pub kind : Kind
  pub cause : FallCause
  pub fresh : List ℤ
  pub due : FallCause
  pub renames : Bool

-- the actor under which an event builds
abbrev pub manager_of : EventStart → ℤ
manager_of (sends seq route) = route
manager_of (takes seq route) = route
manager_of ends = pos 0
manager_of closes = pos 0
manager_of other = pos 0

-- nothing more will follow
abbrev pub quiet : Phase
quiet = record { start = other; kind = Normal; cause = nobody; fresh = []; due = nobody; renames = false }

-- a name gets a new content
abbrev pub renaming : Phase
renaming = record { start = other; kind = Normal; cause = nobody; fresh = []; due = nobody; renames = true }

-- the other end has closed or died
abbrev pub ending : Phase
ending = record { start = ends; kind = Normal; cause = nobody; fresh = []; due = nobody; renames = false }

-- the end closes for this reason
abbrev pub shutting : Destroy → Phase
shutting why = record { start = closes; kind = Normal; cause = closing why; fresh = []; due = closing why; renames = false }

-- why actors fall after a request of a kind that went to this actor
abbrev pub kind_cause : Kind → ℤ → FallCause
kind_cause Normal route = nobody
kind_cause (Constructor protocol) route = nobody
kind_cause Delete route = deletion route

-- the id of the actor that a request makes, if the request is a constructor
abbrev pub fresh_of : MessageRow → Message → List ℤ
fresh_of row m = if is_constructor row.kind then m.made ∷ [] else []

-- a request is sent
abbrev pub sending : MessageRow → Message → Phase
sending row m = record { start = sends m.seq m.route; kind = row.kind; cause = kind_cause row.kind m.route; fresh = fresh_of row m; due = kind_cause row.kind m.route; renames = true }

-- a request is handled
abbrev pub taking : MessageRow → Message → Phase
taking row m = record { start = takes m.seq m.route; kind = row.kind; cause = nobody; fresh = fresh_of row m; due = nobody; renames = false }

-- the handler of a request that went to this actor returns
abbrev pub returning : MessageRow → ℤ → Phase
returning row route = record { start = other; kind = Normal; cause = kind_cause row.kind route; fresh = []; due = kind_cause row.kind route; renames = false }

-- all actors that were due are built, and no fall is due
abbrev pub IsOver : Phase → Type 0
IsOver p = (p.fresh ≡ []) × (p.due ≡ nobody)
