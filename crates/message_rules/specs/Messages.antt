-- The rules on single messages, each a test of a message in its protocol (B10 to B14, B16, B23, B24).
use Rattle.std.specs.Prelude.{◌≡◌, ◌≢◌, ℕ, ◌≤◌, ◌⊎◌, IsTrue, IsSome}
use Rattle.ipdl_base.specs.declared.kinds.Compress.TheVariants as compress
use Rattle.ipdl_base.specs.declared.kinds.Direction.TheVariants as direction
use Rattle.ipdl_base.specs.declared.kinds.Level.TheVariants.{Not, InsideSync, InsideCpow}
use Rattle.ipdl_base.specs.declared.kinds.Semantics.TheVariants.{Async, Sync}
use Rattle.ipdl_syntax.specs.declared.tree.MessageDecl.{MessageDecl}
use Rattle.ipdl_syntax.specs.declared.tree.ProtocolDecl.{ProtocolDecl}
use Rattle.name_table.specs.Kinds.{Converts, IsKindOf, compress_of_message, is_lazy_message, level_of_message, strength_of_message, strength_of_protocol}
use Rattle.name_table.specs.declared.kinds.MessageKind.TheVariants as kind

-- the index of a message is beyond the numbers that messages have
abbrev pub IsTooMany : ℕ → Type 0
IsTooMany index = 32768 ≤ index

-- the child may receive it: its section is `child` or `both`
abbrev pub IsToChild : MessageDecl → Type 0
IsToChild m = m.direction ≢ direction.Parent

-- B11: a sync message of level `not` may be sent by the parent
pub record IsPlainSyncToChild (m : MessageDecl) : Type 0 where
  pub sync : m.semantics ≡ Sync
  pub level : level_of_message m ≡ Not
  pub child : IsToChild m

-- B12: a message of level `inside_sync` is async
pub record IsAsyncInsideSync (m : MessageDecl) : Type 0 where
  pub level : level_of_message m ≡ InsideSync
  pub semantics : m.semantics ≡ Async

-- B13: a message of level `inside_cpow` may be sent by the parent
pub record IsInsideCpowToChild (m : MessageDecl) : Type 0 where
  pub level : level_of_message m ≡ InsideCpow
  pub child : IsToChild m

-- B14: a message does not convert to its protocol
abbrev pub IsStronger : ProtocolDecl → MessageDecl → Type 0
IsStronger p m = ¬ Converts (strength_of_message m) (strength_of_protocol p)

-- an async message that is neither a constructor nor a destructor
pub record IsPlainAsync (p : ProtocolDecl) (m : MessageDecl) : Type 0 where
  pub semantics : m.semantics ≡ Async
  pub kind : IsKindOf p m kind.Normal

-- B16: a message that is not plain async is compressed
pub record IsBadCompress (p : ProtocolDecl) (m : MessageDecl) : Type 0 where
  pub compressed : compress_of_message m ≢ compress.Plain
  pub other : ¬ IsPlainAsync p m

-- B24: a message that is not plain async is lazy
pub record IsBadLazy (p : ProtocolDecl) (m : MessageDecl) : Type 0 where
  pub lazy : IsTrue (is_lazy_message m)
  pub other : ¬ IsPlainAsync p m

-- B23: a destructor is sync or has returns, or an async constructor has returns
abbrev pub IsBadMaker : ProtocolDecl → MessageDecl → Type 0
IsBadMaker p m =
    (IsKindOf p m kind.Destructor × ((m.semantics ≡ Sync) ⊎ IsSome m.returns))
    ⊎ (IsKindOf p m kind.Constructor × (m.semantics ≡ Async) × IsSome m.returns)
