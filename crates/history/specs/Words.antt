-- The words of a transcript.
use Rattle.std.specs.Prelude.{ℕ, List, codes}
use Rattle.ipdl_base.specs.declared.kinds.Destroy.{Destroy}
use Rattle.ipdl_base.specs.declared.kinds.Destroy.TheVariants as destroy
use Rattle.ipdl_base.specs.declared.kinds.Reason.{Reason}
use Rattle.ipdl_base.specs.declared.kinds.Reason.TheVariants as reason
use Rattle.ipdl_base.specs.declared.kinds.SendRefusal.{SendRefusal}
use Rattle.ipdl_base.specs.declared.kinds.SendRefusal.TheVariants as refusal
use Rattle.ipdl_base.specs.declared.kinds.Side.{Side}
use Rattle.ipdl_base.specs.declared.kinds.Side.TheVariants as side

-- the word of an end
abbrev pub side_word : Side → List ℕ
side_word side.Parent = codes "parent"
side_word side.Child = codes "child"

-- the word of the cause for which a send is refused
abbrev pub refusal_word : SendRefusal → List ℕ
refusal_word refusal.Closed = codes "Closed"
refusal_word refusal.DeadActor = codes "DeadActor"
refusal_word refusal.NestedInNormal = codes "NestedInNormal"
refusal_word refusal.InsideCpow = codes "InsideCpow"
refusal_word refusal.LevelTooLow = codes "LevelTooLow"
refusal_word refusal.TooDeep = codes "TooDeep"
refusal_word refusal.TooLarge = codes "TooLarge"
refusal_word refusal.InCall = codes "InCall"
refusal_word refusal.DeadValue = codes "DeadValue"

-- the word of a fault
abbrev pub reason_word : Reason → List ℕ
reason_word reason.ChannelClosed = codes "ChannelClosed"
reason_word reason.HandlerRejected = codes "HandlerRejected"
reason_word reason.ActorDestroyed = codes "ActorDestroyed"
reason_word reason.ResolverDestroyed = codes "ResolverDestroyed"

-- the word of the reason why an actor falls
abbrev pub destroy_word : Destroy → List ℕ
destroy_word destroy.Deletion = codes "Deletion"
destroy_word destroy.AncestorDeletion = codes "AncestorDeletion"
destroy_word destroy.NormalShutdown = codes "NormalShutdown"
destroy_word destroy.AbnormalShutdown = codes "AbnormalShutdown"
