-- Which packets overtake which, by what an end defers.
use Rattle.std.proofs.Common.{◌≡◌, ℤ, Bool, true, false, not, int_eq, Option, Some, None, sym, ap, ◌∙◌}
use Rattle.ipdl_base.specs.declared.kinds.Level.{Level}
use Rattle.ipdl_base.specs.declared.kinds.Level.TheVariants.{Not, InsideSync, InsideCpow}
use Rattle.ipdl_base.specs.declared.kinds.Side.{Side}
use Rattle.ipdl_base.specs.declared.kinds.Side.TheVariants.{Parent, Child}
use Rattle.ipdl_base.specs.Deferral.{Arrival, request, reply, goodbye, mark, defers_arrival}
use Rattle.order_statements.specs.Order.{IsAsync, MayOvertake, of_request, of_reply, cpow_over_async, cpow_over_sync, sync_over_async, sync_over_plain, sync_over_another}

-- what a side awaits: at the parent only calls of level inside_sync
abbrev pub MayAwait : Side → Option Level → Type 0
MayAwait Parent None = Unit {0}
MayAwait Parent (Some w) = w ≡ InsideSync
MayAwait Child level = Unit {0}

-- the requests that the parent sends: no sync ones that are not nested, and none of level inside_cpow
abbrev pub IsFromParent : Bool → Level → Type 0
IsFromParent sync InsideSync = Unit {0}
IsFromParent false Not = Unit {0}
IsFromParent true Not = ⊥
IsFromParent sync InsideCpow = ⊥

-- what waits at a side: at the child the requests of the parent, and at no side a reply to a call
abbrev pub MayArrive : Side → Arrival → Type 0
MayArrive Parent (request sync level transaction) = Unit {0}
MayArrive Child (request sync level transaction) = IsFromParent sync level
MayArrive side (reply sync) = sync ≡ false
MayArrive side goodbye = Unit {0}
MayArrive side mark = Unit {0}

-- what is no farewell
abbrev pub IsNoFarewell : Arrival → Type 0
IsNoFarewell (request sync level transaction) = Unit {0}
IsNoFarewell (reply sync) = Unit {0}
IsNoFarewell goodbye = ⊥
IsNoFarewell mark = ⊥

not-cpow : Not ≡ InsideCpow → ⊥
not-cpow e = cc

sync-cpow : InsideSync ≡ InsideCpow → ⊥
sync-cpow e = cc

-- of two calls of level inside_sync the one of the inner transaction is taken
inner-apart : (inner t u : ℤ) → not (int_eq inner t) ≡ false → not (int_eq inner u) ≡ true → t ≡ u → ⊥
inner-apart inner t u free deferred same = let k : not (int_eq inner u) ≡ false = sym (ap (λ (z : ℤ). not (int_eq inner z)) same) ∙ free in cc

over-async : (side : Side) (w : Level) (inner : ℤ) (x y : Arrival) → IsAsync y → MayAwait side (Some w) → MayArrive side x → IsNoFarewell x → defers_arrival side (Some w) (Some inner) x ≡ false → MayOvertake side x y
over-async Parent w inner (request sync InsideCpow t) y a await arrive last free = cpow_over_async sync t a
over-async Child w inner (request sync InsideCpow t) y a await arrive last free = absurd arrive
over-async side w inner (request false Not t) y a await arrive last free = cc
over-async side w inner (request false InsideSync t) y a await arrive last free = cc
over-async side w inner (request true InsideSync t) y a await arrive last free = sync_over_async t a
over-async Parent Not inner (request true Not t) y a await arrive last free = cc
over-async Parent InsideSync inner (request true Not t) y a await arrive last free = cc
over-async Parent InsideCpow inner (request true Not t) y a await arrive last free = cc
over-async Child w inner (request true Not t) y a await arrive last free = absurd arrive
over-async side w inner (reply sync) y a await arrive last free = let k : not false ≡ false = ap not (sym arrive) ∙ free in cc
over-async side w inner goodbye y a await arrive last free = absurd last
over-async side w inner mark y a await arrive last free = absurd last

over-plain : (w : Level) (inner u : ℤ) (x : Arrival) → w ≡ InsideSync → MayArrive Parent x → IsNoFarewell x → defers_arrival Parent (Some w) (Some inner) x ≡ false → MayOvertake Parent x (request true Not u)
over-plain w inner u (request sync InsideCpow t) await arrive last free = cpow_over_sync sync t Not u not-cpow
over-plain w inner u (request false Not t) await arrive last free = cc
over-plain w inner u (request false InsideSync t) await arrive last free = cc
over-plain w inner u (request true InsideSync t) await arrive last free = sync_over_plain t u
over-plain InsideSync inner u (request true Not t) await arrive last free = cc
over-plain Not inner u (request true Not t) await arrive last free = cc
over-plain InsideCpow inner u (request true Not t) await arrive last free = cc
over-plain w inner u (reply sync) await arrive last free = let k : not false ≡ false = ap not (sym arrive) ∙ free in cc
over-plain w inner u goodbye await arrive last free = absurd last
over-plain w inner u mark await arrive last free = absurd last

over-sync : (side : Side) (w : Level) (inner u : ℤ) (x : Arrival) → MayAwait side (Some w) → MayArrive side x → IsNoFarewell x → defers_arrival side (Some w) (Some inner) x ≡ false → defers_arrival side (Some w) (Some inner) (request true InsideSync u) ≡ true → MayOvertake side x (request true InsideSync u)
over-sync Parent w inner u (request sync InsideCpow t) await arrive last free deferred = cpow_over_sync sync t InsideSync u sync-cpow
over-sync Child w inner u (request sync InsideCpow t) await arrive last free deferred = absurd arrive
over-sync side w inner u (request false Not t) await arrive last free deferred = cc
over-sync side w inner u (request false InsideSync t) await arrive last free deferred = cc
over-sync Parent InsideSync inner u (request true InsideSync t) await arrive last free deferred = sync_over_another t u (inner-apart inner t u free deferred)
over-sync Parent Not inner u (request true InsideSync t) await arrive last free deferred = cc
over-sync Parent InsideCpow inner u (request true InsideSync t) await arrive last free deferred = cc
over-sync Child Not inner u (request true InsideSync t) await arrive last free deferred = cc
over-sync Child InsideSync inner u (request true InsideSync t) await arrive last free deferred = cc
over-sync Child InsideCpow inner u (request true InsideSync t) await arrive last free deferred = cc
over-sync Parent InsideSync inner u (request true Not t) await arrive last free deferred = cc
over-sync Parent Not inner u (request true Not t) await arrive last free deferred = cc
over-sync Parent InsideCpow inner u (request true Not t) await arrive last free deferred = cc
over-sync Child w inner u (request true Not t) await arrive last free deferred = absurd arrive
over-sync side w inner u (reply sync) await arrive last free deferred = let k : not false ≡ false = ap not (sym arrive) ∙ free in cc
over-sync side w inner u goodbye await arrive last free deferred = absurd last
over-sync side w inner u mark await arrive last free deferred = absurd last

-- What is not deferred may overtake what is.
pub overtakes : (side : Side) (level : Option Level) (inner : ℤ) (x y : Arrival) → MayAwait side level → MayArrive side x → MayArrive side y → IsNoFarewell x → defers_arrival side level (Some inner) x ≡ false → defers_arrival side level (Some inner) y ≡ true → MayOvertake side x y
overtakes side None inner x y await arrive waits last free deferred = cc
overtakes side (Some w) inner x (request sync InsideCpow u) await arrive waits last free deferred = cc
overtakes side (Some w) inner x (request false Not u) await arrive waits last free deferred = over-async side w inner x (request false Not u) (of_request Not u not-cpow) await arrive last free
overtakes side (Some w) inner x (request false InsideSync u) await arrive waits last free deferred = over-async side w inner x (request false InsideSync u) (of_request InsideSync u sync-cpow) await arrive last free
overtakes Parent (Some w) inner x (request true Not u) await arrive waits last free deferred = over-plain w inner u x await arrive last free
overtakes Child (Some w) inner x (request true Not u) await arrive waits last free deferred = absurd waits
overtakes side (Some w) inner x (request true InsideSync u) await arrive waits last free deferred = over-sync side w inner u x await arrive last free deferred
overtakes side (Some w) inner x (reply false) await arrive waits last free deferred = over-async side w inner x (reply false) of_reply await arrive last free
overtakes side (Some w) inner x (reply true) await arrive waits last free deferred = cc
overtakes side (Some w) inner x goodbye await arrive waits last free deferred = cc
overtakes side (Some w) inner x mark await arrive waits last free deferred = cc
