-- Each reply that is first on a link is for the wait on top.
use Rattle.std.proofs.Common.{◌≡◌, ℤ, List, [], ◌∷◌, refl}
use Rattle.ipdl_base.specs.declared.kinds.Side.{Side}
use Rattle.nesting_laws.specs.Alone.{IsAlone, ReplyThenFarewell, no_reply_comes, reply_comes, reply_first}
use Rattle.nesting_laws.specs.Calls.{Call, ReplyHead, SyncEnd, SyncFrame, SyncPacket, reply, reply_of, sync_end}
use Rattle.nesting_laws.specs.Chains.{Exchange, replied}
use Rattle.nesting_laws.specs.Laws.{RepliesAreForTop}
use Rattle.nesting_laws.specs.Nested.{AreNested, IsBeside, beside_child, beside_parent, crossed, crossed_back, crossed_after, in_arrived, in_link, of_child, of_parent, overtaken}
use Rattle.nesting_laws.specs.Progress.{IsForTop}
use Rattle.nesting_laws.specs.Steps.{there}

caller-top : {base : List SyncFrame} {t : ℤ} {r : ReplyHead} {s : Side} {stack : List SyncFrame} {others : List Call} {link : List SyncPacket} {b : SyncEnd} → Exchange base t s (sync_end stack others (reply r ∷ link)) b → IsForTop stack r
caller-top (replied chain) = refl

other-top : {base : List SyncFrame} {t : ℤ} {r : ReplyHead} {s : Side} {stack : List SyncFrame} {others : List Call} {link : List SyncPacket} {a : SyncEnd} → Exchange base t s a (sync_end stack others (reply r ∷ link)) → IsForTop stack r
other-top exchange = elim exchange [ ]

caller-top_beside : {base : List SyncFrame} {t : ℤ} {r : ReplyHead} {s : Side} {x : Call} {stack : List SyncFrame} {others all : List Call} {packets link : List SyncPacket} {b : SyncEnd} → IsBeside x others packets all (reply r ∷ link) → Exchange base t s (sync_end stack others packets) b → IsForTop stack r
caller-top_beside (in_arrived i) exchange = caller-top exchange
caller-top_beside (in_link (there i)) exchange = caller-top exchange

other-top_beside : {base : List SyncFrame} {t : ℤ} {r : ReplyHead} {s : Side} {x : Call} {stack : List SyncFrame} {others all : List Call} {packets link : List SyncPacket} {a : SyncEnd} → IsBeside x others packets all (reply r ∷ link) → Exchange base t s a (sync_end stack others packets) → IsForTop stack r
other-top_beside (in_arrived i) exchange = other-top exchange
other-top_beside (in_link (there i)) exchange = other-top exchange

parent_top : {r : ReplyHead} {stack : List SyncFrame} {others : List Call} {link : List SyncPacket} {c : SyncEnd} → AreNested (sync_end stack others (reply r ∷ link)) c → IsForTop stack r
parent_top (of_parent exchange) = caller-top exchange
parent_top (of_child exchange) = other-top exchange
parent_top (beside_parent h d exchange w) = caller-top_beside w exchange
parent_top (beside_child h d exchange w) = other-top_beside w exchange
parent_top (crossed h k is serves comes) = elim serves [ ]
parent_top (crossed_after h k is) = refl

beside-first : {q : Call} {n r : ReplyHead} {others : List Call} {link : List SyncPacket} → IsBeside q [] (reply n ∷ []) others (reply r ∷ link) → n ≡ r
beside-first (in_arrived i) = refl
beside-first (in_link (there i)) = refl

child_top : {r : ReplyHead} {stack : List SyncFrame} {others : List Call} {link : List SyncPacket} {p : SyncEnd} → AreNested p (sync_end stack others (reply r ∷ link)) → IsForTop stack r
child_top (of_parent exchange) = other-top exchange
child_top (of_child exchange) = caller-top exchange
child_top (beside_parent h d exchange w) = other-top exchange
child_top (beside_child h d exchange w) = caller-top exchange
child_top (overtaken h k) = refl
child_top (crossed h k is serves comes) = elim comes [ ]
child_top (crossed_back h k is w) = beside-first w

reply-first : {side : Side} {w : Call} {r : ReplyHead} {link : List SyncPacket} → ReplyThenFarewell side w (reply r ∷ link) → reply_of w ≡ r
reply-first (reply_first l) = refl

alone_top : {side : Side} {r : ReplyHead} {stack : List SyncFrame} {others : List Call} {link : List SyncPacket} → IsAlone side (sync_end stack others (reply r ∷ link)) → IsForTop stack r
alone_top (no_reply_comes l) = elim l [ ]
alone_top (reply_comes h l) = reply-first l

pub replies_are_for_top : RepliesAreForTop
replies_are_for_top = record { parent = λ stack others seq link c n. parent_top n; child = λ stack others seq link p n. child_top n; alone = λ side stack others seq link a. alone_top a }
