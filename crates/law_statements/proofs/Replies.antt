-- What the other end has sent: tests of its replies decide which replies are among what it has sent.
use Rattle.std.proofs.Common.{◌≡◌, ℤ, Bool, true, IsTrue, List, Contains, Any, refl, ap, subst}
use Rattle.std.specs.Bool.{Decides}
use Rattle.std.specs.Ordering.{int_eq}
use Rattle.std.proofs.lemmas.Bool.{and_parts, and_from}
use Rattle.std.proofs.lemmas.Bool.Decides.{Decides-int_eq}
use Rattle.std.proofs.lemmas.List.Folds.{Any-from_list_any, list_any-from_Any}
use Rattle.ipdl_base.specs.declared.kinds.Reason.{Reason}
use Rattle.ipdl_base.specs.declared.kinds.Reason.TheVariants as reason
use Rattle.history_reading.specs.SentPacket.{ReplyContent, SentPacket, request, said, goodbye, broken, resolved, rejected, ok, fault, is_said, says}
use Rattle.history_reading.specs.Waits.{is_fault, same_reason}
use Rattle.law_statements.proofs.Deciding.{recast}

-- some reply to the request of a number is there and passes
abbrev pub SomeReply : (ReplyContent → Bool) → List SentPacket → ℤ → Type 0
SomeReply test sents n = (content : ReplyContent) × Contains sents (said n content) × IsTrue (test content)

one-said : (test : ReplyContent → Bool) (n : ℤ) (x : SentPacket) → is_said test n x ≡ true → (content : ReplyContent) × (x ≡ said n content) × IsTrue (test content)
one-said test n (said m content) e = (content, ap (λ (k : ℤ). said k content) ((Decides-int_eq m n).0 ((and_parts (int_eq m n) (test content) e).0)), (and_parts (int_eq m n) (test content) e).1)
one-said test n (request r) e = cc
one-said test n goodbye e = cc
one-said test n broken e = cc

pub reply-said : (test : ReplyContent → Bool) (sents : List SentPacket) (n : ℤ) → Decides (says test sents n) (SomeReply test sents n)
reply-said test sents n = (λ e. to (Any-from_list_any (is_said test n) sents e), λ s. from s.0 s.1 s.2)
  where
    to : Any (λ x. is_said test n x ≡ true) sents → SomeReply test sents n
    to a = let one : (content : ReplyContent) × (a.1 ≡ said n content) × IsTrue (test content) = one-said test n a.1 a.4 in
        (one.0, subst (λ (x : SentPacket). Contains sents x) one.1 (a.0, a.2, a.3), one.2)

    from : (content : ReplyContent) → Contains sents (said n content) → IsTrue (test content) → says test sents n ≡ true
    from content c t = list_any-from_Any (is_said test n) sents (c.0, said n content, c.1, c.2, and_from (int_eq n n) (test content) ((Decides-int_eq n n).1 refl) t)

pub reason-same : (q r : Reason) → Decides (same_reason q r) (q ≡ r)
reason-same reason.ChannelClosed reason.ChannelClosed = (λ e. refl, λ e. refl)
reason-same reason.HandlerRejected reason.HandlerRejected = (λ e. refl, λ e. refl)
reason-same reason.ActorDestroyed reason.ActorDestroyed = (λ e. refl, λ e. refl)
reason-same reason.ResolverDestroyed reason.ResolverDestroyed = (λ e. refl, λ e. refl)
reason-same _ _ = (λ e. cc, λ e. cc)

-- a fault, as it was sent
pub fault-said : (r : Reason) (sents : List SentPacket) (n : ℤ) → Decides (says (is_fault r) sents n) (Contains sents (said n (fault r)))
fault-said r sents n = recast (says (is_fault r) sents n) (reply-said (is_fault r) sents n) (λ s. by s.0 s.1 s.2) (λ c. (fault r, c, (reason-same r r).1 refl))
  where
    by : (content : ReplyContent) → Contains sents (said n content) → IsTrue (is_fault r content) → Contains sents (said n (fault r))
    by (fault q) c t = subst (λ (x : Reason). Contains sents (said n (fault x))) ((reason-same q r).0 t) c
    by (resolved vs) c t = cc
    by rejected c t = cc
    by (ok vs) c t = cc
