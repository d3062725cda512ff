-- The schemas of worked cases, and values that they send.
use Rattle.std.specs.Prelude.{ℕ, ℤ, pos, Bool, true, false, List, [], ◌∷◌, Some, None, codes}
use Rattle.ipdl_base.specs.declared.builtin.Builtin.TheVariants as word
use Rattle.ipdl_base.specs.declared.kinds.Compress.TheVariants as compress
use Rattle.ipdl_base.specs.declared.kinds.Direction.{Direction}
use Rattle.ipdl_base.specs.declared.kinds.Direction.TheVariants as direction
use Rattle.ipdl_base.specs.declared.kinds.Level.TheVariants as level
use Rattle.ipdl_base.specs.declared.kinds.Semantics.TheVariants.{Async, Sync}
use Rattle.ipdl_base.specs.declared.schema.Kind.TheVariants.{Normal, Constructor, Delete}
use Rattle.ipdl_base.specs.declared.schema.MessageRow.{MessageRow}
use Rattle.ipdl_base.specs.declared.schema.ParamRow.{ParamRow}
use Rattle.ipdl_base.specs.declared.schema.ProtocolRow.{ProtocolRow}
use Rattle.ipdl_base.specs.declared.schema.Schema.{Schema}
use Rattle.ipdl_base.specs.declared.schema.Shape.{Shape, Builtin, Actor}
use Rattle.ipdl_base.specs.declared.value.Value.{Value}
use Rattle.ipdl_base.specs.declared.value.Value.TheVariants as value
use Rattle.ipdl_base.specs.declared.value.Values.{Values, First'}
use Rattle.ipdl_base.specs.declared.value.Values.TheVariants.{Nothing}
use Rattle.ipdl_base.specs.Plain.{one_box}

abbrev pub top : ℤ
top = pos 2147483647

-- no value, and lists of one value

abbrev pub none : Values
none = Nothing

abbrev one : Value → Values
one v = First' one_box v one_box Nothing

abbrev pub a_number : ℤ → Values
a_number n = one (value.Int n)

abbrev pub an_actor : ℤ → Values
an_actor id = one (value.Actor id)

abbrev pub a_bool : Bool → Values
a_bool b = one (value.Bool b)

-- parts of schemas

abbrev typed : List ℕ → Shape → List ParamRow
typed name shape = record { name = name; shape = shape } ∷ []

abbrev number_typed : List ℕ → List ParamRow
number_typed name = typed name (Builtin word.Int32)

-- an async message of level not, without parameters and returns, to the end or the ends of a direction
abbrev message : ℕ → List ℕ → Direction → MessageRow
message number name receiver = record {
  number = number;
  name = name;
  direction = receiver;
  semantics = Async;
  level = level.Not;
  compress = compress.Plain;
  kind = Normal;
  params = [];
  returns = None;
  carried = true;
  lazy = false;
}

abbrev protocol : List ℕ → List ℕ → List ℕ → List MessageRow → ProtocolRow
protocol name managers manages messages = record { name = name; semantics = Sync; level = level.InsideCpow; managers = managers; manages = manages; messages = messages }

abbrev schema_of : List ProtocolRow → Schema
schema_of protocols = record { protocols = protocols; types = [] }

abbrev pub pw_call_p : ℕ
pw_call_p = 0

abbrev pub pw_poke : ℕ
pw_poke = 2

abbrev pub pw_base : ℕ
pw_base = 4

abbrev pub pw_call_c : ℕ
pw_call_c = 6

abbrev pub pw_tell : ℕ
pw_tell = 8

abbrev pub pw_give : ℕ
pw_give = 10

-- calls of all levels, and messages of the highest one
abbrev pub waiting : Schema
waiting = schema_of (
    protocol (codes "PW") [] [] (
    record (message pw_call_p (codes "CallP") direction.Parent) { semantics = Sync; level = level.InsideSync; returns = Some (number_typed (codes "r")) }
    ∷ record (message pw_poke (codes "Poke") direction.Parent) { level = level.InsideCpow }
    ∷ record (message pw_base (codes "Base") direction.Parent) { semantics = Sync }
    ∷ record (message pw_call_c (codes "CallC") direction.Child) { semantics = Sync; level = level.InsideSync; returns = Some (number_typed (codes "r")) }
    ∷ record (message pw_tell (codes "Tell") direction.Child) { params = number_typed (codes "n") }
    ∷ record (message pw_give (codes "Give") direction.Child) { params = typed (codes "w") (Actor 0 false) } ∷ []) ∷ [])

abbrev pub pm : ℕ
pm = 0

abbrev pub pn : ℕ
pn = 1

abbrev pub pm_ask : ℕ
pm_ask = 0

abbrev pub pm_construct : ℕ
pm_construct = 2

abbrev pub pn_ping : ℕ
pn_ping = 65536

abbrev pub pn_delete : ℕ
pn_delete = 65538

-- a manager whose actors are called
abbrev pub pinging : Schema
pinging = schema_of (
    protocol (codes "PM") [] (pn ∷ []) (
    record (message pm_ask (codes "Ask") direction.Parent) { semantics = Sync }
    ∷ record (message pm_construct (codes "PN") direction.Child) { kind = Constructor pn } ∷ [])
    ∷ protocol (codes "PN") (pm ∷ []) [] (
    record (message pn_ping (codes "Ping") direction.Child) { semantics = Sync; level = level.InsideSync }
    ∷ record (message pn_delete (codes "__delete__") direction.Child) { kind = Delete } ∷ []) ∷ [])

abbrev pub pk : ℕ
pk = 0

abbrev pub pr : ℕ
pr = 1

abbrev pub pk_construct : ℕ
pk_construct = 0

abbrev pub pk_get : ℕ
pk_get = 2

abbrev pub pk_delete : ℕ
pk_delete = 4

abbrev pub pr_construct : ℕ
pr_construct = 65536

-- actors that manage actors of their own protocol
abbrev pub keeping : Schema
keeping = schema_of (
    protocol (codes "PK") (pr ∷ pk ∷ []) (pk ∷ []) (
    record (message pk_construct (codes "PK") direction.Parent) { kind = Constructor pk }
    ∷ record (message pk_get (codes "Get") direction.Parent) { returns = Some (number_typed (codes "r")) }
    ∷ record (message pk_delete (codes "__delete__") direction.Parent) { kind = Delete } ∷ [])
    ∷ protocol (codes "PR") [] (pk ∷ []) (
    record (message pr_construct (codes "PK") direction.Parent) { kind = Constructor pk } ∷ []) ∷ [])

abbrev pub pq_get : ℕ
pq_get = 0

abbrev pub pq_tell : ℕ
pq_tell = 2

-- a question that either end asks
abbrev pub asking : Schema
asking = schema_of (
    protocol (codes "PQ") [] [] (
    record (message pq_get (codes "Get") direction.Both) { returns = Some (number_typed (codes "r")) }
    ∷ record (message pq_tell (codes "Tell") direction.Parent) { params = number_typed (codes "n") } ∷ []) ∷ [])

abbrev pub pc_up : ℕ
pc_up = 0

abbrev pub pc_alls : ℕ
pc_alls = 2

abbrev pub pc_mark : ℕ
pc_mark = 4

abbrev pub pc_ask : ℕ
pc_ask = 6

-- messages that compress
abbrev pub pressing : Schema
pressing = schema_of (
    protocol (codes "PC") [] [] (
    record (message pc_up (codes "Up") direction.Parent) { compress = compress.Last; params = number_typed (codes "n") }
    ∷ record (message pc_alls (codes "Alls") direction.Parent) { compress = compress.All; params = number_typed (codes "n") }
    ∷ message pc_mark (codes "Mark") direction.Parent
    ∷ record (message pc_ask (codes "Ask") direction.Parent) { compress = compress.Last; params = number_typed (codes "n"); returns = Some (typed (codes "b") (Builtin word.Bool)) } ∷ []) ∷ [])

abbrev pub plz_lz : ℕ
plz_lz = 0

abbrev pub plz_now : ℕ
plz_now = 2

-- a lazy message
abbrev pub idling : Schema
idling = schema_of (
    protocol (codes "PLz") [] [] (
    record (message plz_lz (codes "Lz") direction.Parent) { params = number_typed (codes "n"); lazy = true }
    ∷ message plz_now (codes "Now") direction.Parent ∷ []) ∷ [])

abbrev pub pown : ℕ
pown = 0

abbrev pub ptmp : ℕ
ptmp = 1

abbrev pub pown_construct : ℕ
pown_construct = 0

abbrev pub pown_mark : ℕ
pown_mark = 2

abbrev pub ptmp_hi : ℕ
ptmp_hi = 65536

abbrev pub ptmp_delete : ℕ
ptmp_delete = 65538

-- an actor that is made, given and deleted
abbrev pub owning : Schema
owning = schema_of (
    protocol (codes "POwn") [] (ptmp ∷ []) (
    record (message pown_construct (codes "PTmp") direction.Parent) { kind = Constructor ptmp }
    ∷ record (message pown_mark (codes "Mark") direction.Child) { params = typed (codes "p") (Actor ptmp true) } ∷ [])
    ∷ protocol (codes "PTmp") (pown ∷ []) [] (
    message ptmp_hi (codes "Hi") direction.Both
    ∷ record (message ptmp_delete (codes "__delete__") direction.Both) { kind = Delete } ∷ []) ∷ [])

abbrev pub pitem : ℕ
pitem = 0

abbrev pub pshop : ℕ
pshop = 1

abbrev pub pitem_delete : ℕ
pitem_delete = 0

abbrev pub pshop_construct : ℕ
pshop_construct = 65536

abbrev pub pshop_find : ℕ
pshop_find = 65538

abbrev pub pshop_swap : ℕ
pshop_swap = 65540

abbrev pub pshop_store : ℕ
pshop_store = 65542

-- actors that either end makes, asks for and exchanges, and bytes
abbrev pub trading : Schema
trading = schema_of (
    protocol (codes "PItem") (pshop ∷ []) [] (
    record (message pitem_delete (codes "__delete__") direction.Both) { kind = Delete } ∷ [])
    ∷ protocol (codes "PShop") [] (pitem ∷ []) (
    record (message pshop_construct (codes "PItem") direction.Both) { kind = Constructor pitem }
    ∷ record (message pshop_find (codes "Find") direction.Both) { returns = Some (typed (codes "r") (Actor pitem false)) }
    ∷ record (message pshop_swap (codes "Swap") direction.Both) { semantics = Sync; level = level.InsideSync; params = typed (codes "given") (Actor pitem false); returns = Some (typed (codes "got") (Actor pitem true)) }
    ∷ record (message pshop_store (codes "Store") direction.Both) { params = typed (codes "label") (Builtin word.NsCString) } ∷ []) ∷ [])

abbrev pub bytes : List ℕ → Values
bytes bs = one (value.Bytes bs)
