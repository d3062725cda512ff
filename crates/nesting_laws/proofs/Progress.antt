-- While an end waits, something can happen by itself.
use Rattle.nesting_laws.proofs.Exchanges.{chain-transaction}
use Rattle.std.proofs.Common.{◌≡◌, ℤ, true, false, List, [], ◌∷◌, Some, not, refl, sym, ap, subst, ◌∙◌}
use Rattle.std.specs.Ordering.{int_eq}
use Rattle.std.proofs.lemmas.Bool.Decides.{Decides-int_eq}
use Rattle.ipdl_base.specs.declared.kinds.Level.{Level}
use Rattle.ipdl_base.specs.declared.kinds.Level.TheVariants.{Not, InsideSync, InsideCpow}
use Rattle.ipdl_base.specs.declared.kinds.Side.{Side}
use Rattle.ipdl_base.specs.declared.kinds.Side.TheVariants.{Parent, Child}
use Rattle.ipdl_base.specs.Deferral.{defers_request}
use Rattle.nesting_laws.specs.Alone.{IsAlone, no_reply_comes, reply_comes, only_farewell, request_first, reply_first, request_ahead}
use Rattle.nesting_laws.specs.Calls.{Call, SyncEnd, SyncFrame, SyncPacket, sync_end, wait}
use Rattle.nesting_laws.specs.Chains.{Chain, Exchange, Faces, by_child, by_parent, down, inside, queued, replied, requested, running, up}
use Rattle.nesting_laws.specs.Laws.{NobodyIsStuck}
use Rattle.nesting_laws.specs.Nested.{AreNested, IsBeside, beside_child, beside_parent, crossed, crossed_back, crossed_after, idle, in_arrived, in_link, of_child, of_parent, on_top, overtaken, to_arrive, to_take}
use Rattle.nesting_laws.specs.Progress.{CanMove, IsNotStuck, at_child, at_parent, delivers, nobody, returns, takes}
use Rattle.nesting_laws.specs.Steps.{IsAboveNot, IsBelowCpow, MayTake, here, there}

same_transaction : (m n : ℤ) → m ≡ n → int_eq m n ≡ true
same_transaction m n e = (Decides-int_eq m n).1 e

takes_inside : (o : Side) (w x : Level) (m n : ℤ) → w ≡ InsideSync → IsAboveNot x → m ≡ n → defers_request o w (Some m) true x n ≡ false
takes_inside o InsideSync Not m n e h same = absurd h
takes_inside Child InsideSync InsideSync m n e h same = refl
takes_inside Parent InsideSync InsideSync m n e h same = ap not (same_transaction m n same)
takes_inside o InsideSync InsideCpow m n e h same = refl
takes_inside o Not x m n e h same = cc
takes_inside o InsideCpow x m n e h same = cc

takes_first : (w x : Level) (m n : ℤ) → IsBelowCpow w → x ≡ InsideSync → defers_request Child w (Some m) true x n ≡ false
takes_first Not InsideSync m n d e = refl
takes_first InsideSync InsideSync m n d e = refl
takes_first InsideCpow x m n d e = absurd d
takes_first Not Not m n d e = cc
takes_first Not InsideCpow m n d e = cc
takes_first InsideSync Not m n d e = cc
takes_first InsideSync InsideCpow m n d e = cc

takes_cpow : (o : Side) (w x : Level) (m n : ℤ) → x ≡ InsideCpow → defers_request o w (Some m) true x n ≡ false
takes_cpow o w InsideCpow m n e = refl
takes_cpow o w Not m n e = cc
takes_cpow o w InsideSync m n e = cc

-- the end to which the last call of a chain goes may take it, if it may take the first
may_take : {base : List SyncFrame} {t : ℤ} {s o : Side} {q : Call} {below theirs : List SyncFrame} → ((q : Call) → q.level ≡ InsideSync → MayTake Child base q) → Faces o s → Chain base t s q below theirs → MayTake o theirs q
may_take {q} first up (by_parent a b c) = first q a
may_take {q} first down (by_child a b c) = subst (λ (stack : List SyncFrame). MayTake Parent stack q) (sym a) tt
may_take {o} {q} first f (inside {p} g chain c d e k) = takes_inside o p.level q.level p.transaction q.transaction c e (chain-transaction chain ∙ sym k)

-- the child may take the parent's first call: its stack is empty, or has the wait for a stray on it
first-alone : (q : Call) → q.level ≡ InsideSync → MayTake Child [] q
first-alone q e = tt

first-beside : (x : Call) → IsBelowCpow x.level → (q : Call) → q.level ≡ InsideSync → MayTake Child (wait x ∷ []) q
first-beside x h q e = takes_first x.level q.level x.transaction q.transaction h e

-- one end of a chain moves, the one that waits first
data OneMoves (s o : Side) (a b : SyncEnd) : Type 0 where
  caller : CanMove s a → OneMoves s o a b
  other : CanMove o b → OneMoves s o a b

talk_moves : {t : ℤ} {s o : Side} {a b : SyncEnd} → Faces o s → Exchange [] t s a b → OneMoves s o a b
talk_moves f (requested chain) = other delivers
talk_moves f (queued chain) = other (takes here (may_take first-alone f chain))
talk_moves f (running chain) = other returns
talk_moves f (replied chain) = caller delivers

link_moves : {side : Side} {x : Call} {stack : List SyncFrame} {others all : List Call} {first : SyncPacket} {packets link : List SyncPacket} → IsBeside x others (first ∷ packets) all link → CanMove side (sync_end stack all link)
link_moves (in_arrived i) = delivers
link_moves (in_link here) = delivers
link_moves (in_link (there i)) = delivers

take_moves : {side : Side} {x q : Call} {stack : List SyncFrame} {all : List Call} {packets link : List SyncPacket} → MayTake side stack q → IsBeside x (q ∷ []) packets all link → CanMove side (sync_end stack all link)
take_moves may (in_arrived here) = takes (there here) may
take_moves may (in_arrived (there here)) = takes here may
take_moves may (in_link i) = takes here may

beside_parent_moves : {x : Call} {t : ℤ} {stack : List SyncFrame} {others all : List Call} {packets link : List SyncPacket} {c : SyncEnd} → IsBelowCpow x.level → Exchange (wait x ∷ []) t Parent (sync_end stack others packets) c → IsBeside x others packets all link → IsNotStuck (sync_end stack all link) c
beside_parent_moves h (requested chain) w = at_child delivers
beside_parent_moves {x} h (queued chain) w = at_child (takes here (may_take (first-beside x h) up chain))
beside_parent_moves h (running chain) w = at_child returns
beside_parent_moves h (replied chain) w = at_parent (link_moves w)

beside_child_moves : {x : Call} {t : ℤ} {stack : List SyncFrame} {others all : List Call} {packets link : List SyncPacket} {c : SyncEnd} → IsBelowCpow x.level → Exchange (wait x ∷ []) t Child c (sync_end stack others packets) → IsBeside x others packets all link → IsNotStuck (sync_end stack all link) c
beside_child_moves h (requested chain) w = at_parent (link_moves w)
beside_child_moves {x} h (queued chain) w = at_parent (take_moves (may_take (first-beside x h) down chain) w)
beside_child_moves h (running chain) w = at_parent returns
beside_child_moves h (replied chain) w = at_child delivers

of_parent_moves : {p c : SyncEnd} → OneMoves Parent Child p c → IsNotStuck p c
of_parent_moves (caller m) = at_parent m
of_parent_moves (other m) = at_child m

of_child_moves : {p c : SyncEnd} → OneMoves Child Parent c p → IsNotStuck p c
of_child_moves (caller m) = at_child m
of_child_moves (other m) = at_parent m

moves : {p c : SyncEnd} → AreNested p c → IsNotStuck p c
moves idle = nobody
moves (of_parent exchange) = of_parent_moves (talk_moves up exchange)
moves (of_child exchange) = of_child_moves (talk_moves down exchange)
moves (beside_parent h d exchange w) = beside_parent_moves d exchange w
moves (beside_child h d exchange w) = beside_child_moves d exchange w
moves (overtaken h k) = at_child delivers
moves (crossed h k is to_arrive comes) = at_parent delivers
moves (crossed {x} {q} h k is to_take comes) = at_parent (takes here (takes_cpow Parent q.level x.level q.transaction x.transaction is))
moves (crossed h k is on_top comes) = at_parent returns
moves (crossed_back h k is w) = at_child (link_moves w)
moves (crossed_after h k is) = at_parent delivers

-- a packet is on the link toward an end that is alone
alone_moves : {side : Side} {e : SyncEnd} → IsAlone side e → CanMove side e
alone_moves (no_reply_comes only_farewell) = delivers
alone_moves (no_reply_comes (request_first l)) = delivers
alone_moves (reply_comes k (reply_first l)) = delivers
alone_moves (reply_comes k (request_ahead a l)) = delivers

pub nobody_is_stuck : NobodyIsStuck
nobody_is_stuck = record { nested = λ p c n. moves n; alone = λ side e a. alone_moves a }
