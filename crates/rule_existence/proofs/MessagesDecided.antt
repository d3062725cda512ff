-- Whether a single message breaks a rule is decided.
use Rattle.report_existence.proofs.Lists.{bool_or_not}
use Rattle.std.proofs.Common.{◌⊎◌, ℕ, true}
use Rattle.std.specs.Prelude.{is_some}
use Rattle.ipdl_base.specs.declared.kinds.Level.TheVariants.{Not, InsideSync, InsideCpow}
use Rattle.ipdl_base.specs.declared.kinds.Semantics.TheVariants.{Async, Sync}
use Rattle.ipdl_syntax.specs.declared.tree.MessageDecl.{MessageDecl}
use Rattle.ipdl_syntax.specs.declared.tree.ProtocolDecl.{ProtocolDecl}
use Rattle.name_table.specs.Kinds.{IsKindOf, compress_of_message, is_lazy_message, kind_of_message, level_of_message, strength_of_message, strength_of_protocol}
use Rattle.name_table.specs.declared.kinds.MessageKind.{MessageKind}
use Rattle.name_table.specs.declared.kinds.MessageKind.TheVariants as kind
use Rattle.message_rules.specs.Messages.{IsAsyncInsideSync, IsBadCompress, IsBadLazy, IsBadMaker, IsInsideCpowToChild, IsPlainAsync, IsPlainSyncToChild, IsStronger, IsToChild, IsTooMany}
use Rattle.report_existence.proofs.Finite.{both_or_not, either_or_not, not_or}
use Rattle.name_existence.proofs.Decisions.{like_or_not, three_or_not}
use Rattle.rule_existence.proofs.MessagesKinds.{at_most_or_not, converts_or_not, parent_or_not, plain_or_not, same_kind_or_not, same_level_or_not, same_semantics_or_not}

pub too_many_or_not : (index : ℕ) → IsTooMany index ⊎ (IsTooMany index → ⊥)
too_many_or_not index = at_most_or_not 32768 index

to_child_or_not : (m : MessageDecl) → IsToChild m ⊎ (IsToChild m → ⊥)
to_child_or_not m = not_or (parent_or_not m.direction)

pub plain_sync_or_not : (m : MessageDecl) → IsPlainSyncToChild m ⊎ (IsPlainSyncToChild m → ⊥)
plain_sync_or_not m =
    like_or_not (λ h. record { sync = h.0; level = h.1; child = h.2 }) (λ h. (h.sync, h.level, h.child))
    (three_or_not (same_semantics_or_not m.semantics Sync) (same_level_or_not (level_of_message m) Not) (to_child_or_not m))

pub inside_sync_or_not : (m : MessageDecl) → IsAsyncInsideSync m ⊎ (IsAsyncInsideSync m → ⊥)
inside_sync_or_not m =
    like_or_not (λ h. record { level = h.0; semantics = h.1 }) (λ h. (h.level, h.semantics))
    (both_or_not (same_level_or_not (level_of_message m) InsideSync) (same_semantics_or_not m.semantics Async))

pub inside_cpow_or_not : (m : MessageDecl) → IsInsideCpowToChild m ⊎ (IsInsideCpowToChild m → ⊥)
inside_cpow_or_not m =
    like_or_not (λ h. record { level = h.0; child = h.1 }) (λ h. (h.level, h.child)) (both_or_not (same_level_or_not (level_of_message m) InsideCpow) (to_child_or_not m))

pub stronger_or_not : (p : ProtocolDecl) (m : MessageDecl) → IsStronger p m ⊎ (IsStronger p m → ⊥)
stronger_or_not p m = not_or (converts_or_not (strength_of_message m) (strength_of_protocol p))

kind_or_not : (p : ProtocolDecl) (m : MessageDecl) (k : MessageKind) → IsKindOf p m k ⊎ (IsKindOf p m k → ⊥)
kind_or_not p m k = same_kind_or_not k (kind_of_message p m)

plain_async_or_not : (p : ProtocolDecl) (m : MessageDecl) → IsPlainAsync p m ⊎ (IsPlainAsync p m → ⊥)
plain_async_or_not p m =
    like_or_not (λ h. record { semantics = h.0; kind = h.1 }) (λ h. (h.semantics, h.kind)) (both_or_not (same_semantics_or_not m.semantics Async) (kind_or_not p m kind.Normal))

pub bad_compress_or_not : (p : ProtocolDecl) (m : MessageDecl) → IsBadCompress p m ⊎ (IsBadCompress p m → ⊥)
bad_compress_or_not p m =
    like_or_not (λ h. record { compressed = h.0; other = h.1 }) (λ h. (h.compressed, h.other))
    (both_or_not (not_or (plain_or_not (compress_of_message m))) (not_or (plain_async_or_not p m)))

pub bad_lazy_or_not : (p : ProtocolDecl) (m : MessageDecl) → IsBadLazy p m ⊎ (IsBadLazy p m → ⊥)
bad_lazy_or_not p m =
    like_or_not (λ h. record { lazy = h.0; other = h.1 }) (λ h. (h.lazy, h.other)) (both_or_not (bool_or_not (is_lazy_message m) true) (not_or (plain_async_or_not p m)))

pub bad_maker_or_not : (p : ProtocolDecl) (m : MessageDecl) → IsBadMaker p m ⊎ (IsBadMaker p m → ⊥)
bad_maker_or_not p m =
    either_or_not
    (both_or_not (kind_or_not p m kind.Destructor) (either_or_not (same_semantics_or_not m.semantics Sync) (bool_or_not (is_some m.returns) true)))
    (three_or_not (kind_or_not p m kind.Constructor) (same_semantics_or_not m.semantics Async) (bool_or_not (is_some m.returns) true))
