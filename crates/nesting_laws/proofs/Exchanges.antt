-- What a step of either end does to a chain of calls.
use Rattle.std.proofs.Common.{◌≡◌, ℤ, List, [], ◌∷◌, refl, ap, ◌∙◌}
use Rattle.std.proofs.lemmas.List.{append-nil}
use Rattle.ipdl_base.specs.declared.kinds.Level.{Level}
use Rattle.ipdl_base.specs.declared.kinds.Level.TheVariants.{Not, InsideSync, InsideCpow}
use Rattle.ipdl_base.specs.declared.kinds.Side.{Side}
use Rattle.ipdl_base.specs.declared.kinds.Side.TheVariants.{Parent, Child}
use Rattle.nesting_laws.specs.Calls.{Call, ReplyHead, SyncEnd, SyncFrame, SyncPacket, dispatch, reply, request, sync_end, wait, with_packets}
use Rattle.nesting_laws.specs.Chains.{Chain, Exchange, Faces, by_child, by_parent, down, inside, queued, replied, requested, running, up}
use Rattle.nesting_laws.specs.Steps.{Allows, HasLevelOf, IsAboveNot, IsInserted, IsTransactionOf, Step, calls, calls_inside, drops, here, reply_arrives, request_arrives, returns, takes, there}

pub with-nothing : (h : SyncEnd) → with_packets h [] ≡ h
with-nothing (sync_end stack arrived link) = ap (sync_end stack arrived) (append-nil link)

pub none-inserted : {A : Type 0} {x : A} {others : List A} {B : Type 0} → IsInserted x others [] → B
none-inserted i = elim i [ ]

-- The end that waits for the last call

-- what the end that began a chain knows of the base
abbrev pub IsBaseOf : Side → List SyncFrame → Type 0
IsBaseOf Parent base = Unit {0}
IsBaseOf Child base = base ≡ []

-- The result of a step of the waiting end for a chain: the chain ends, or goes back to the call before.
pub data AfterCaller (base : List SyncFrame) (t : ℤ) (s : Side) : SyncEnd → List SyncPacket → SyncEnd → Type 0 where
  ended : IsBaseOf s base → AfterCaller base t s (sync_end [] [] []) [] (sync_end base [] [])
  back : {o : Side} {next theirs : SyncEnd} → Faces s o → Exchange base t o theirs next → AfterCaller base t s next [] theirs

-- a waiting end with nothing on its link has no step
stuck : {s : Side} {q : Call} {below : List SyncFrame} {next : SyncEnd} {sent : List SyncPacket} {A : Type 0} → Step s (sync_end (wait q ∷ below) [] []) next sent → A
stuck (takes i may) = none-inserted i
stuck (drops i may) = none-inserted i

answered : {base : List SyncFrame} {t : ℤ} {r : ReplyHead} {s : Side} {q : Call} {below theirs : List SyncFrame} {next : SyncEnd} {sent : List SyncPacket} → Chain base t s q below theirs → Step s (sync_end (wait q ∷ below) [] (reply r ∷ [])) next sent → AfterCaller base t s next sent (sync_end theirs [] [])
answered (by_parent a b c) reply_arrives = ended tt
answered (by_child a b c) reply_arrives = ended a
answered (inside f chain c d e g) reply_arrives = back f (running chain)
answered chain (takes i may) = none-inserted i
answered chain (drops i may) = none-inserted i

pub caller-step : {base : List SyncFrame} {t : ℤ} {s : Side} {a b next : SyncEnd} {sent : List SyncPacket} → Exchange base t s a b → Step s a next sent → AfterCaller base t s next sent b
caller-step (requested chain) step = stuck step
caller-step (queued chain) step = stuck step
caller-step (running chain) step = stuck step
caller-step (replied chain) step = answered chain step

-- The other end

-- no dispatch is on top
abbrev pub IsBare : List SyncFrame → Type 0
IsBare [] = Unit {0}
IsBare (wait q ∷ below) = Unit {0}
IsBare (dispatch q ∷ below) = ⊥

bare : {base : List SyncFrame} {t : ℤ} {s : Side} {q : Call} {below theirs : List SyncFrame} → Chain base t s q below theirs → IsBare base → IsBare theirs
bare (by_parent a b c) h = h
bare (by_child a b c) h = h
bare (inside f chain c d e g) h = tt

pub chain-transaction : {base : List SyncFrame} {t : ℤ} {s : Side} {q : Call} {below theirs : List SyncFrame} → Chain base t s q below theirs → q.transaction ≡ t
chain-transaction (by_parent a b c) = b
chain-transaction (by_child a b c) = b
chain-transaction (inside f chain c d e g) = g

allows_parent : (d q : Level) → d ≡ InsideSync → Allows d q → (d ≡ InsideSync) × IsAboveNot q
allows_parent InsideSync q e h = (e, h)
allows_parent Not q e h = cc
allows_parent InsideCpow q e h = cc

allows_child : (d q : Level) → q ≡ InsideSync → Allows d q → (d ≡ InsideSync) × IsAboveNot q
allows_child InsideSync q e h = (refl, h)
allows_child Not Not e h = cc
allows_child Not InsideSync e h = absurd h
allows_child Not InsideCpow e h = absurd h
allows_child InsideCpow q e h = absurd h

-- a call inside the last one of a chain
allowed : {base : List SyncFrame} {t : ℤ} {s o : Side} {q : Call} {below theirs : List SyncFrame} (new : Call) → Faces o s → Chain base t s q below theirs → HasLevelOf o new → Allows q.level new.level → (q.level ≡ InsideSync) × IsAboveNot new.level
allowed {q} new f (by_parent a b c) h k = allows_parent q.level new.level a k
allowed {q} new down (by_child a b c) h k = allows_child q.level new.level h k
allowed {q} new up (inside f chain c d e g) h k = allows_parent q.level new.level d k
allowed {q} new down (inside f chain c d e g) h k = allows_child q.level new.level h k

-- The result of a step of the other end for a chain: the last call is at another place, or that end makes a call
-- inside it, or beside it.
pub data AfterOther (base : List SyncFrame) (t : ℤ) (s o : Side) (a : SyncEnd) : SyncEnd → SyncEnd → List SyncPacket → Type 0 where
  stays : {b next : SyncEnd} {sent : List SyncPacket} → Exchange base t s (with_packets a sent) next → AfterOther base t s o a b next sent
  called : {b next : SyncEnd} {sent : List SyncPacket} → Exchange base t o next (with_packets a sent) → AfterOther base t s o a b next sent
  called_beside : {q : Call} {others : List Call} {link : List SyncPacket} → HasLevelOf o q → IsTransactionOf o q.transaction → AfterOther base t s o a (sync_end [] others link) (sync_end (wait q ∷ []) others link) (request q ∷ [])

pub other-step : {base : List SyncFrame} {t : ℤ} {s o : Side} {a b next : SyncEnd} {sent : List SyncPacket} → IsBare base → Faces o s → Exchange base t s a b → Step o b next sent → AfterOther base t s o a b next sent
other-step h f (requested chain) (calls a b) = called_beside a b
other-step h f (requested chain) (calls_inside a b c) = absurd (bare chain h)
other-step h f (requested chain) request_arrives = stays (queued chain)
other-step h f (requested chain) (takes i may) = none-inserted i
other-step h f (requested chain) (drops i may) = none-inserted i
other-step h f (requested chain) returns = absurd (bare chain h)
other-step h f (queued chain) (calls a b) = called_beside a b
other-step h f (queued chain) (calls_inside a b c) = absurd (bare chain h)
other-step h f (queued chain) (takes here may) = stays (running chain)
other-step h f (queued chain) (takes (there i) may) = none-inserted i
other-step h f (queued chain) (drops here may) = stays (replied chain)
other-step h f (queued chain) (drops (there i) may) = none-inserted i
other-step h f (queued chain) returns = absurd (bare chain h)
other-step h f (running chain) (calls_inside {q = new} a b c) =
    let k = allowed new f chain a b in
    called (requested (inside f chain k.0 a k.1 (c k.0 ∙ chain-transaction chain)))
other-step h f (running chain) (takes i may) = none-inserted i
other-step h f (running chain) (drops i may) = none-inserted i
other-step h f (running chain) returns = stays (replied chain)
other-step h f (replied chain) (calls a b) = called_beside a b
other-step h f (replied chain) (calls_inside a b c) = absurd (bare chain h)
other-step h f (replied chain) (takes i may) = none-inserted i
other-step h f (replied chain) (drops i may) = none-inserted i
other-step h f (replied chain) returns = absurd (bare chain h)

-- What the parent defers

-- the parent waits in this transaction, or handles a request
abbrev pub IsInside : ℤ → List SyncFrame → Type 0
IsInside t [] = ⊥
IsInside t (wait w ∷ below) = (w.level ≡ InsideSync) × (w.transaction ≡ t)
IsInside t (dispatch d ∷ below) = Unit {0}

pub parent-inside : {base : List SyncFrame} {t : ℤ} {q : Call} {below theirs : List SyncFrame} → Chain base t Parent q below theirs → (q.level ≡ InsideSync) × (q.transaction ≡ t)
parent-inside (by_parent a b c) = (a, b)
parent-inside (inside f chain c d e g) = (d, g)

pub parent-inside_too : {x : Call} {t : ℤ} {q : Call} {below theirs : List SyncFrame} → Chain (wait x ∷ []) t Child q below theirs → IsInside t theirs
parent-inside_too (by_child a b c) = cc
parent-inside_too (inside up chain c d e g) = parent-inside chain

pub of-parent : {x : Call} {t : ℤ} {s : Side} {q : Call} {below theirs : List SyncFrame} → Chain (wait x ∷ []) t s q below theirs → IsTransactionOf Parent t
of-parent (by_parent a b c) = c
of-parent (by_child a b c) = cc
of-parent (inside f chain c d e g) = of-parent chain
