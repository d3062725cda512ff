-- Which calls are deferred.
use Rattle.std.proofs.Common.{◌≡◌, ℤ, pos, int_lt, Bool, true, false, not, List, [], ◌∷◌, Some, refl, sym, ap, subst, ◌∙◌}
use Rattle.std.specs.Ordering.{int_eq}
use Rattle.std.proofs.lemmas.Bool.Decides.{Decides-int_eq}
use Rattle.ipdl_base.specs.declared.kinds.Level.{Level}
use Rattle.ipdl_base.specs.declared.kinds.Level.TheVariants.{Not, InsideSync, InsideCpow}
use Rattle.ipdl_base.specs.declared.kinds.Side.{Side}
use Rattle.ipdl_base.specs.declared.kinds.Side.TheVariants.{Parent, Child}
use Rattle.ipdl_base.specs.Deferral.{defers_request}
use Rattle.nesting_laws.proofs.Exchanges.{IsInside}
use Rattle.nesting_laws.specs.Calls.{Call, SyncFrame, dispatch, wait}
use Rattle.nesting_laws.specs.Steps.{DefersCall, IsBelowCpow, IsTransactionOf, MayTake}

-- two transactions of the two sides are not one
other-transaction : (b : Bool) (m n : ℤ) → int_eq m n ≡ b → IsTransactionOf Parent m → IsTransactionOf Child n → b ≡ false
other-transaction true m n is p c = let e : m ≡ n = (Decides-int_eq m n).0 is in let k : true ≡ false = sym p ∙ ap (int_lt (pos 0)) e ∙ c in cc
other-transaction false m n is p c = refl

deferred_at : (w x : Level) (m n : ℤ) → IsBelowCpow x → w ≡ InsideSync → IsTransactionOf Parent m → IsTransactionOf Child n → defers_request Parent w (Some m) true x n ≡ true
deferred_at InsideSync Not m n d e p c = refl
deferred_at InsideSync InsideSync m n d e p c = ap not (other-transaction (int_eq m n) m n refl p c)
deferred_at InsideSync InsideCpow m n d e p c = absurd d
deferred_at Not x m n d e p c = cc
deferred_at InsideCpow x m n d e p c = cc

-- the parent defers a call of the child that is beside a chain
pub beside-deferred : (t : ℤ) (x w : Call) → (w.level ≡ InsideSync) × (w.transaction ≡ t) → IsTransactionOf Parent t → IsBelowCpow x.level → IsTransactionOf Child x.transaction → DefersCall Parent w x
beside-deferred t x w h p d c = deferred_at w.level x.level w.transaction x.transaction d h.0 (subst (IsTransactionOf Parent) (sym h.1) p) c

cpow_at : (w x : Level) (m n : ℤ) → w ≡ InsideCpow → x ≡ InsideSync → defers_request Child w (Some m) true x n ≡ true
cpow_at InsideCpow InsideSync m n e f = refl
cpow_at InsideCpow Not m n e f = cc
cpow_at InsideCpow InsideCpow m n e f = cc
cpow_at Not x m n e f = cc
cpow_at InsideSync x m n e f = cc

-- the child defers a first call of the parent under its own of level inside_cpow
pub cpow-deferred : (w q : Call) → w.level ≡ InsideCpow → q.level ≡ InsideSync → DefersCall Child w q
cpow-deferred w q e f = cpow_at w.level q.level w.transaction q.transaction e f

-- What is deferred is not taken

pub not-taken : {A : Type 0} (side : Side) (w q : Call) (below : List SyncFrame) → DefersCall side w q → MayTake side (wait w ∷ below) q → A
not-taken side w q below h may = let k : true ≡ false = sym h ∙ may in cc

pub beside-not_taken : {A : Type 0} (t : ℤ) (x : Call) (stack : List SyncFrame) → IsInside t stack → IsTransactionOf Parent t → IsBelowCpow x.level → IsTransactionOf Child x.transaction → MayTake Parent stack x → A
beside-not_taken t x [] h p d c may = absurd h
beside-not_taken t x (wait w ∷ below) h p d c may = not-taken Parent w x below (beside-deferred t x w h p d c) may
beside-not_taken t x (dispatch q ∷ below) h p d c may = absurd may

pub cpow-not_taken : {A : Type 0} (w q : Call) (below : List SyncFrame) → w.level ≡ InsideCpow → q.level ≡ InsideSync → MayTake Child (wait w ∷ below) q → A
cpow-not_taken w q below e f may = not-taken Child w q below (cpow-deferred w q e f) may
