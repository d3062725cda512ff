-- The classes of items that are deferred alike, and the likenesses of requests that are alike.
use Rattle.std.specs.Prelude.{ℕ, ◌==◌, Bool, true, false, ◌&&◌, Option, Some, None, if◌then◌else◌}
use Rattle.std.specs.Ordering.{int_eq}
use Rattle.ipdl_base.specs.declared.kinds.Level.{Level}
use Rattle.ipdl_base.specs.declared.kinds.Level.TheVariants.{Not, InsideSync, InsideCpow}
use Rattle.ipdl_base.specs.declared.message.Body.{Body}
use Rattle.ipdl_base.specs.declared.message.Body.TheVariants.{Request, Reply, Fault, Goodbye}
use Rattle.linked_lists.specs.declared.link.Ends.{Ends}
use Rattle.pending_queue.specs.declared.item.Item.{Item}
use Rattle.pending_queue.specs.declared.item.Item.TheVariants.{Message, Broken}
use Rattle.pending_queue.specs.declared.class.Class.{Class}
use Rattle.pending_queue.specs.declared.class.Class.TheVariants.{Asynchronous, SyncNot, SyncInside, Highest, Closing}
use Rattle.pending_queue.specs.declared.class.Likeness.{Likeness}
use Rattle.pending_queue.specs.declared.class.Classes.{Classes}
use Rattle.pending_queue.specs.Compression.{is_request}

-- the class of a request of that level, which is sync or not
abbrev pub class_of_request : Bool → Level → Class
class_of_request sync InsideCpow = Highest
class_of_request false Not = Asynchronous
class_of_request false InsideSync = Asynchronous
class_of_request true Not = SyncNot
class_of_request true InsideSync = SyncInside

-- the class of a message with that body
abbrev pub class_of_body : Bool → Level → Body → Class
class_of_body sync level (Request values) = class_of_request sync level
class_of_body sync level (Reply values) = if sync then Closing else Asynchronous
class_of_body sync level (Fault reason) = if sync then Closing else Asynchronous
class_of_body sync level Goodbye = Closing

-- the class of an item
abbrev pub class_of : Item → Class
class_of Broken = Closing
class_of (Message m sync level) = class_of_body sync level m.body

-- a number for each class
abbrev pub class_index : Class → ℕ
class_index Asynchronous = 0
class_index SyncNot = 1
class_index SyncInside = 2
class_index Highest = 3
class_index Closing = 4

-- whether an item is of the class
abbrev pub is_class : Class → Item → Bool
is_class g x = class_index (class_of x) == class_index g

-- the likeness of a request; no other item has one
abbrev pub likeness_of : Item → Option Likeness
likeness_of Broken = None
likeness_of (Message m sync level) = if is_request m.body then Some (record { number = m.number; route = m.route }) else None

-- whether two likenesses are one
abbrev pub likeness_eq : Likeness → Likeness → Bool
likeness_eq a b = a.number == b.number && int_eq a.route b.route

-- whether there is a likeness, and it is that one
abbrev pub likeness_is : Option Likeness → Likeness → Bool
likeness_is None q = false
likeness_is (Some likeness) q = likeness_eq likeness q

-- whether an item is of the likeness
abbrev pub is_likeness : Likeness → Item → Bool
is_likeness q x = likeness_is (likeness_of x) q

-- the ends of the list of a class
abbrev pub ends_at : Classes → Class → Ends
ends_at gs Asynchronous = gs.asynchronous
ends_at gs SyncNot = gs.sync_not
ends_at gs SyncInside = gs.sync_inside
ends_at gs Highest = gs.highest
ends_at gs Closing = gs.closing

-- the ends of all classes, once those of one are these
abbrev pub with_ends : Class → Ends → Classes → Classes
with_ends Asynchronous ends gs = record gs { asynchronous = ends }
with_ends SyncNot ends gs = record gs { sync_not = ends }
with_ends SyncInside ends gs = record gs { sync_inside = ends }
with_ends Highest ends gs = record gs { highest = ends }
with_ends Closing ends gs = record gs { closing = ends }

-- whether an end that awaits that level defers all of a class
abbrev pub defers_class : Option Level → Class → Bool
defers_class None g = false
defers_class (Some w) Asynchronous = true
defers_class (Some Not) SyncNot = false
defers_class (Some InsideSync) SyncNot = true
defers_class (Some InsideCpow) SyncNot = true
defers_class (Some Not) SyncInside = false
defers_class (Some InsideSync) SyncInside = false
defers_class (Some InsideCpow) SyncInside = true
defers_class (Some w) Highest = false
defers_class (Some w) Closing = false
