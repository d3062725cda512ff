-- Two waits do not defer the request of one another.
use Rattle.channel_laws.proofs.Track.{frames_in}
use Rattle.std.proofs.Common.{◌≡◌, ℤ, Bool, true, false, List, [], ◌∷◌, Some, None, sym, ap, subst, ◌∙◌, ℕ}
use Rattle.std.specs.List.{AllByRecursion}
use Rattle.ipdl_base.specs.declared.kinds.Side.{Side}
use Rattle.ipdl_base.specs.declared.kinds.Side.TheVariants.{Parent, Child}
use Rattle.ipdl_base.specs.declared.schema.Schema.{Schema}
use Rattle.ipdl_base.specs.Deferral.{defers_request}
use Rattle.nesting_core.specs.declared.frame.StackFrame.{StackFrame}
use Rattle.nesting_core.specs.declared.frame.StackFrame.TheVariants.{Dispatch, Wait}
use Rattle.nesting_core.specs.declared.frame.Head.{Head}
use Rattle.nesting_core.specs.declared.frame.StackTop.TheVariants as top
use Rattle.nesting_core.specs.Deferral.{inner_transaction, defers}
use Rattle.nesting_core.specs.Top.{top_of}
use Rattle.channel_model.specs.Ends.{World, StackEntry}
use Rattle.channel_model.specs.Sends.{frames_of}
use Rattle.channel_model.specs.States.{IsAnswered}
use Rattle.channel_laws.proofs.Takes.{deferral-same}
use Rattle.channel_laws.specs.Laws.{WaitsGiveWay, world_of}
use Rattle.channel_laws.specs.NestedWorlds.{EndsAreNested, both_open, mine_open, theirs_open, both_over, IsNestedWorld}
use Rattle.channel_laws.specs.SyncCalls.{call_of_head}
use Rattle.channel_laws.specs.SyncStack.{empty, async_base, waits, handles, Shows, no_answer, cpow_on_top, entry_of, has_answer, no_cpow}
use Rattle.nesting_laws.proofs.GivingWay.{one_gives_way}
use Rattle.nesting_laws.specs.Calls.{Call, SyncPacket, sync_end, wait, SyncFrame}
use Rattle.nesting_laws.specs.Nested.{AreNested}
use Rattle.nesting_laws.specs.Steps.{DefersCall, HasLevelOf}
use Rattle.channel_laws.proofs.EveryRun.{nesting_in_every_run}

-- an end with an unanswered wait on top
data HasWaitOnTop (side : Side) (w : Head) : List StackEntry → List SyncFrame → Type 0 where
  on_top : {route : ℤ} {number : ℕ} {resolves : Bool} {entries : List StackEntry} {below : List SyncFrame} → w.sync ≡ true → HasLevelOf side (call_of_head route number w) → HasWaitOnTop side w (entry_of (Wait w None) route number resolves ∷ entries) (wait (call_of_head route number w) ∷ below)

top-wait_at : (side : Side) (head w : Head) {route : ℤ} {number : ℕ} {resolves : Bool} {entries : List StackEntry} {below : List SyncFrame} → head ≡ w → head.sync ≡ true → HasLevelOf side (call_of_head route number head) → HasWaitOnTop side w (entry_of (Wait head None) route number resolves ∷ entries) (wait (call_of_head route number head) ∷ below)
top-wait_at side head w {route} {number} {resolves} {entries} {below} e s k = subst (λ (x : Head). HasWaitOnTop side x (entry_of (Wait head None) route number resolves ∷ entries) (wait (call_of_head route number head) ∷ below)) e (on_top s k)

top-wait : (side : Side) (w : Head) {entries : List StackEntry} {stack : List SyncFrame} → Shows side entries stack → top_of (frames_in entries) ≡ top.Unanswered w → HasWaitOnTop side w entries stack
top-wait side w (no_cpow (no_answer (waits {head} s k f p))) e = let h : head ≡ w = cc in top-wait_at side head w h s k
top-wait side w (no_cpow (no_answer empty)) e = cc
top-wait side w (no_cpow (no_answer (async_base s n))) e = cc
top-wait side w (no_cpow (no_answer (handles s p))) e = cc
top-wait side w (no_cpow (has_answer f p)) e = cc
top-wait side w (cpow_on_top s l p) e = cc

answered-top : {A : Type 0} (w : Head) (frames : List StackFrame) → AllByRecursion IsAnswered frames → top_of frames ≡ top.Unanswered w → A
answered-top w [] h e = cc
answered-top w (Dispatch head ∷ frames) h e = cc
answered-top w (Wait head None ∷ frames) h e = let k : true ≡ false = h.0 in cc
answered-top w (Wait head (Some a) ∷ frames) h e = cc

-- what a waiting end defers depends on the wait alone
held-by : (side : Side) (w v : Head) (route at : ℤ) (number of : ℕ) (frames : List StackFrame) → w.sync ≡ true → v.sync ≡ true → HasLevelOf side (call_of_head route number w) → defers side (Wait w None ∷ frames) v ≡ true → DefersCall side (call_of_head route number w) (call_of_head at of v)
held-by side w v route at number of frames s k l h =
    sym (deferral-same side w route number frames v.level v.transaction s l) ∙ (ap (λ (b : Bool). defers_request side w.level (inner_transaction (Wait w None ∷ frames)) b v.level v.transaction) (sym k) ∙ h)

gives-way : (w v : Head) {ps cs : List SyncFrame} {qs rs : List Call} {ls ks : List SyncPacket} {mine theirs : List StackEntry} → HasWaitOnTop Parent w mine ps → HasWaitOnTop Child v theirs cs → AreNested (sync_end ps qs ls) (sync_end cs rs ks) → defers Parent (frames_in mine) v ≡ true → defers Child (frames_in theirs) w ≡ true → ⊥
gives-way w v {qs} {rs} {ls} {ks} (on_top {route} {number} {entries} {below} s k) (on_top {route = at} {number = of} {entries = es} {below = under} t l) n x y =
    one_gives_way (call_of_head route number w) (call_of_head at of v) below under qs rs ls ks n (held-by Parent w v route at number of (frames_in entries) s t k x) (held-by Child v w at route of number (frames_in es) t s l y)

both-give_way : (schema : Schema) (w : World) (p c : Head) → IsNestedWorld schema w → top_of (frames_of w.parent) ≡ top.Unanswered p → top_of (frames_of w.child) ≡ top.Unanswered c → defers Parent (frames_of w.parent) c ≡ true → defers Child (frames_of w.child) p ≡ true → ⊥
both-give_way schema w p c h a b x y = by h.ends
  where
    by : EndsAreNested schema Parent w.parent w.child w.to_parent w.to_child → ⊥
    by (both_open {stack} {under} m t n) =
        gives-way p c (top-wait Parent p (subst (λ (s : Side). Shows s w.parent.stack stack) h.parent m.shows) a) (top-wait Child c (subst (λ (s : Side). Shows s w.child.stack under) h.child t.shows) b) n x y
    by (mine_open m gone l n) = answered-top c (frames_of w.child) gone.ended.nobody b
    by (theirs_open m gone l n) = answered-top p (frames_of w.parent) gone.ended.nobody a
    by (both_over m n) = answered-top p (frames_of w.parent) m.nobody a

pub waits_give_way : WaitsGiveWay
waits_give_way schema sound top moves w v a b x y = both-give_way schema (world_of schema top moves) w v (nesting_in_every_run schema sound top moves) a b x y
