-- Rejecting the oldest again and again rejects all that pass, with their lines.
use Rattle.std.proofs.Common.{◌≡◌, ℕ, ℤ, suc, ◌+◌, ◌<◌, ◌≤◌, Bool, true, false, ◌&&◌, cond, List, [], ◌∷◌, ◌++◌, map, Some, None, refl, ap, sym, ◌∙◌, arith, append_assoc, append-nil}
use Rattle.std.specs.Option.{option_map}
use Rattle.std.specs.Ordering.{int_eq}
use Rattle.std.specs.List.{find}
use Rattle.ipdl_base.specs.declared.line.Line.{Line}
use Rattle.ipdl_base.specs.declared.line.What.TheVariants as what
use Rattle.ipdl_base.specs.declared.kinds.Reason.{Reason}
use Rattle.ipdl_base.specs.declared.kinds.Side.{Side}
use Rattle.promise_table.specs.declared.promise.Promise.{Promise}
use Rattle.promise_table.specs.Promises.{is_pending, is_pending_of}
use Rattle.channel_model.specs.Ends.{PromiseEntry}
use Rattle.channel_model.specs.Falls.{passes, rejections, rejected}
use Rattle.channel_model.specs.Outputs.{line_at}
use Rattle.end_parts.specs.OutputView.{OutputView, with_line}
use Rattle.end_steps.specs.Rejections.{HasRejected}
use Rattle.end_parts.specs.PromiseRequests.{pending_in, oldest_of, with_oldest_rejected}
use Rattle.end_parts.proofs.PromiseLemmas.{pends_of}

-- The test of the code says what that of the definitions says, and only of what pends.
pub record Agree (t u : Promise → Bool) : Type 0 where
  pub same : (e : PromiseEntry) → passes u e ≡ t e.promise
  pub pends : (p : Promise) → t p ≡ true → is_pending p ≡ true

-- What one rejection of the oldest does.
pub record Rejects (t u : Promise → Bool) (reason : Reason) (es : List PromiseEntry) (seq : ℤ) : Type 0 where
  pub lines : rejections u reason es ≡ what.Rejected seq reason ∷ rejections u reason (with_oldest_rejected t reason es)
  pub rest : rejected u reason (with_oldest_rejected t reason es) ≡ rejected u reason es
  pub fewer : suc (pending_in (with_oldest_rejected t reason es)) ≡ pending_in es

-- What stands where nothing passes.
pub record IsOver (t u : Promise → Bool) (reason : Reason) (es : List PromiseEntry) : Type 0 where
  pub lines : rejections u reason es ≡ []
  pub rest : rejected u reason es ≡ es
  pub same : with_oldest_rejected t reason es ≡ es

rejects_at : (t u : Promise → Bool) (reason : Reason) (e : PromiseEntry) (es : List PromiseEntry) (seq : ℤ) (b : Bool) → t e.promise ≡ b → passes u e ≡ b → (b ≡ true → is_pending e.promise ≡ true)
    → option_map (λ (x : PromiseEntry). x.promise.seq) (cond b (Some e) (find (λ x. t x.promise) es)) ≡ Some seq
    → (oldest_of t es ≡ Some seq → Rejects t u reason es seq) → Rejects t u reason (e ∷ es) seq
rejects_at t u reason e es seq true here there pends found rest =
    let seq_is : e.promise.seq ≡ seq = cc in
    record {
      lines = rw (here, there, seq_is) refl;
      rest = rw (here, there) refl;
      fewer = rw (here, pends refl) refl;
    }
rejects_at t u reason e es seq false here there pends found rest =
    let following = rest found in
    record {
      lines = rw (here, there) following.lines;
      rest = rw (here, there) (ap (λ (xs : List PromiseEntry). e ∷ xs) following.rest);
      fewer = rw here (counted (is_pending e.promise) (pending_in (with_oldest_rejected t reason es)) (pending_in es) following.fewer);
    } where
      counted : (b : Bool) (m n : ℕ) → suc m ≡ n → suc (cond b (suc m) m) ≡ cond b (suc n) n
      counted true m n h = ap suc h
      counted false m n h = h

pub rejects_oldest : (t u : Promise → Bool) → Agree t u → (reason : Reason) (es : List PromiseEntry) (seq : ℤ) → oldest_of t es ≡ Some seq → Rejects t u reason es seq
rejects_oldest t u agree reason [] seq found = cc
rejects_oldest t u agree reason (e ∷ es) seq found =
    rejects_at t u reason e es seq (t e.promise) refl (agree.same e) (agree.pends e.promise) found (rejects_oldest t u agree reason es seq)

over_at : (t u : Promise → Bool) (reason : Reason) (e : PromiseEntry) (es : List PromiseEntry) (b : Bool) → t e.promise ≡ b → passes u e ≡ b
    → option_map (λ (x : PromiseEntry). x.promise.seq) (cond b (Some e) (find (λ x. t x.promise) es)) ≡ None
    → (oldest_of t es ≡ None → IsOver t u reason es) → IsOver t u reason (e ∷ es)
over_at t u reason e es true here there found rest = cc
over_at t u reason e es false here there found rest =
    let following = rest found in
    record {
      lines = rw there following.lines;
      rest = rw there (ap (λ (xs : List PromiseEntry). e ∷ xs) following.rest);
      same = rw here (ap (λ (xs : List PromiseEntry). e ∷ xs) following.same);
    }

pub over_where_none : (t u : Promise → Bool) → Agree t u → (reason : Reason) (es : List PromiseEntry) → oldest_of t es ≡ None → IsOver t u reason es
over_where_none t u agree reason [] found = record { lines = refl; rest = refl; same = refl }
over_where_none t u agree reason (e ∷ es) found =
    over_at t u reason e es (t e.promise) refl (agree.same e) found (over_where_none t u agree reason es)

and_true : (b : Bool) → b && true ≡ b
and_true true = refl
and_true false = refl

-- all that pend
pub agree_all : Agree is_pending (λ p. true)
agree_all = record { same = λ e. and_true (is_pending e.promise); pends = λ p e. e }

absorbs : (a b : Bool) → a && (b && a) ≡ b && a
absorbs true b = refl
absorbs false true = refl
absorbs false false = refl

-- those of an actor
pub agree_of : (actor : ℤ) → Agree (is_pending_of actor) (is_pending_of actor)
agree_of actor = record { same = λ e. absorbs (is_pending e.promise) (int_eq e.promise.actor actor); pends = pends_of actor }

-- The loop

-- What holds while some promises are rejected.
pub record IsRejecting (side : Side) (u : Promise → Bool) (reason : Reason) (promises : List PromiseEntry) (out : OutputView) (promises' : List PromiseEntry) (out' : OutputView) : Type 0 where
  pub same : out' ≡ record out { lines = out'.lines; line_spare = out'.line_spare }
  pub said : out'.lines ++ map (line_at side) (rejections u reason promises') ≡ out.lines ++ map (line_at side) (rejections u reason promises)
  pub rejected : rejected u reason promises' ≡ rejected u reason promises
  pub room : out'.line_spare + pending_in promises ≡ out.line_spare + pending_in promises'
  pub fewer : pending_in promises' ≤ pending_in promises

pub has_room : (side : Side) (t u : Promise → Bool) → Agree t u → (reason : Reason) (promises promises' : List PromiseEntry) (out out' : OutputView) (seq : ℤ)
    → pending_in promises ≤ out.line_spare → IsRejecting side u reason promises out promises' out' → oldest_of t promises' ≡ Some seq → 0 < out'.line_spare
has_room side t u agree reason promises promises' out out' seq enough so_far found =
    let step : Rejects t u reason promises' seq = rejects_oldest t u agree reason promises' seq found in
    omega (arith, step.fewer, so_far.room)

pub is_fewer : (t u : Promise → Bool) → Agree t u → (reason : Reason) (promises' next : List PromiseEntry) (seq : ℤ)
    → oldest_of t promises' ≡ Some seq → next ≡ with_oldest_rejected t reason promises' → pending_in next < pending_in promises'
is_fewer t u agree reason promises' next seq found now =
    let step : Rejects t u reason promises' seq = rejects_oldest t u agree reason promises' seq found in
    rw now (omega (arith, step.fewer))

pub goes_on : (side : Side) (t u : Promise → Bool) → Agree t u → (reason : Reason) (promises promises' next : List PromiseEntry) (out out' out'' : OutputView) (seq : ℤ)
    → pending_in promises ≤ out.line_spare → IsRejecting side u reason promises out promises' out' → oldest_of t promises' ≡ Some seq → next ≡ with_oldest_rejected t reason promises'
    → out'' ≡ with_line out' (line_at side (what.Rejected seq reason)) → IsRejecting side u reason promises out next out''
goes_on side t u agree reason promises promises' next out out' out'' seq enough so_far found now says =
    let step : Rejects t u reason promises' seq = rejects_oldest t u agree reason promises' seq found in
    let room : 0 < out'.line_spare = has_room side t u agree reason promises promises' out out' seq enough so_far found in
    rw (says, now) (record {
      same = ap (λ (o : OutputView). with_line o (line_at side (what.Rejected seq reason))) so_far.same;
      said = rw append_assoc (ap (λ ws. out'.lines ++ map (line_at side) ws) (sym step.lines) ∙ so_far.said);
      rejected = step.rest ∙ so_far.rejected;
      room = omega (arith, step.fewer, so_far.room, room);
      fewer = omega (arith, step.fewer, so_far.fewer);
    })

pub is_over : (side : Side) (t u : Promise → Bool) → Agree t u → (reason : Reason) (promises promises' next : List PromiseEntry) (out out' : OutputView)
    → IsRejecting side u reason promises out promises' out' → oldest_of t promises' ≡ None → next ≡ with_oldest_rejected t reason promises' → HasRejected side u reason promises out next out'
is_over side t u agree reason promises promises' next out out' so_far found now =
    let over : IsOver t u reason promises' = over_where_none t u agree reason promises' found in
    let stays : next ≡ promises' = now ∙ over.same in
    let said : out'.lines ≡ out.lines ++ map (line_at side) (rejections u reason promises) =
    sym (append-nil out'.lines) ∙ ap (λ ws. out'.lines ++ map (line_at side) ws) (sym over.lines) ∙ so_far.said in
    rw stays (record {
      rejected = sym over.rest ∙ so_far.rejected;
      said = so_far.same ∙ ap (λ (ls : List Line). record out { lines = ls; line_spare = out'.line_spare }) said;
      spare = so_far.room;
      fewer = so_far.fewer;
    })

pub begins : (side : Side) (u : Promise → Bool) (reason : Reason) (promises : List PromiseEntry) (out : OutputView) → IsRejecting side u reason promises out promises out
begins side u reason promises out = record { same = refl; said = refl; rejected = refl; room = refl; fewer = omega arith }
