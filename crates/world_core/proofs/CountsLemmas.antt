-- The counts of a side after one more event are those of its progress after it.
use Rattle.std.proofs.Common.{◌≡◌, ℕ, ◌+◌, ◌-◌, ◌<◌, List, [], ◌∷◌, ◌++◌, drop, length, map, reverse, Option, Some, None, refl, sym, ap, subst, ◌∙◌, arith}
use Rattle.std.specs.Prelude.{slice_index_or, slice_set}
use Rattle.std.proofs.lemmas.List.{reverse-append, length-append}
use Rattle.std.proofs.Math.Seq.{set-append_seam, get_or-append_seam}
use Rattle.handler_script.specs.declared.script.Script.{Script}
use Rattle.ipdl_base.specs.declared.kinds.SendRefusal.{SendRefusal}
use Rattle.ipdl_base.specs.declared.kinds.Side.{Side}
use Rattle.channel_model.specs.Ends.{Resolver}
use Rattle.script_steps.specs.Progress.{HandledRequest, Progress, one_act, one_event, with_handled}
use Rattle.world_core.specs.Counted.{AreCountsOf, AreRunning}
use Rattle.world_core.specs.CountsSteps.{holding_on_top, with_act, with_act_of, with_answer, with_death, with_event, with_resolver, with_return}
use Rattle.world_core.specs.CountsView.{CountsView, RunningView, view_of}
use Rattle.world_core.specs.declared.counts.RunningRequest.{RunningRequest}

module _ (script : Script) (side : Side) where
  pub event-counted : (p : Progress) (c : CountsView) → AreCountsOf script side p c → AreCountsOf script side (one_event p) (with_event c)
  event-counted p c is = record { events = ap (λ (n : ℕ). n + 1) is.events; main = is.main; table = is.table; running = is.running }

  more-acts : (p : Progress) (c : CountsView) (hs : List HandledRequest) (rs : List RunningView) → AreCountsOf script side p c → p.handled ≡ hs → c.running ≡ rs → AreRunning script side rs hs → AreCountsOf script side (one_act hs p) (with_act_of rs c)
  more-acts p c [] [] is a b all = record { events = is.events; main = ap (λ (n : ℕ). n + 1) is.main; table = is.table; running = is.running }
  more-acts p c (h ∷ hs) (r ∷ rs) is a b all = record {
    events = is.events;
    main = is.main;
    table = is.table;
    running = (record { block = all.0.block; acts = ap (λ (n : ℕ). n + 1) all.0.acts; given = all.0.given; made = all.0.made }, all.1);
  }
  more-acts p c [] (r ∷ rs) is a b all = absurd all
  more-acts p c (h ∷ hs) [] is a b all = absurd all

  pub act-counted : (p : Progress) (c : CountsView) → AreCountsOf script side p c → AreCountsOf script side (one_act p.handled (one_event p)) (with_act c)
  act-counted p c is = more-acts (one_event p) (with_event c) p.handled c.running (event-counted p c is) refl refl is.running

  still-running : (resolver : Option Resolver) (rs : List RunningView) (hs : List HandledRequest) → AreRunning script side rs hs → AreRunning script side (holding_on_top resolver rs) hs
  still-running resolver [] hs all = all
  still-running resolver (r ∷ rs) (h ∷ hs) all = (record { block = all.0.block; acts = all.0.acts; given = all.0.given; made = all.0.made }, all.1)
  still-running resolver (r ∷ rs) [] all = absurd all

  pub answer-counted : (refusal : Option SendRefusal) (p : Progress) (c : CountsView) → AreCountsOf script side p c → AreCountsOf script side (one_act p.handled (one_event p)) (with_answer refusal c)
  answer-counted None p c is = act-counted p (with_resolver None c) (record { events = is.events; main = is.main; table = is.table; running = still-running None c.running p.handled is.running })
  answer-counted (Some cause) p c is = act-counted p c is

  pub death-counted : (p : Progress) (c : CountsView) → AreCountsOf script side p c → AreCountsOf script side (with_handled [] (one_event p)) (with_death c)
  death-counted p c is = record { events = ap (λ (n : ℕ). n + 1) is.events; main = is.main; table = is.table; running = tt }

  fewer : (rs : List RunningView) (hs : List HandledRequest) → AreRunning script side rs hs → AreRunning script side (drop 1 rs) (drop 1 hs)
  fewer [] [] all = tt
  fewer (r ∷ rs) (h ∷ hs) all = all.1
  fewer [] (h ∷ hs) all = absurd all
  fewer (r ∷ rs) [] all = absurd all

  pub return-counted : (p : Progress) (c : CountsView) → AreCountsOf script side p c → AreCountsOf script side (with_handled (drop 1 p.handled) (one_event p)) (with_return c)
  return-counted p c is = record { events = ap (λ (n : ℕ). n + 1) is.events; main = is.main; table = is.table; running = fewer c.running p.handled is.running }

-- The innermost request is the last one that is kept.

-- a list that is not empty ends with an element
record EndsWith {X : Type 0} (xs : List X) : Type 0 where
  front : List X
  last : X
  is : xs ≡ front ++ last ∷ []

ends : {X : Type 0} (x : X) (xs : List X) → EndsWith (x ∷ xs)
ends x [] = record { front = []; last = x; is = refl }
ends x (y ∷ ys) = let e = ends y ys in record { front = x ∷ e.front; last = e.last; is = ap (λ zs. x ∷ zs) e.is }

pub newest-first : (front : List RunningRequest) (r : RunningRequest) → map view_of (reverse (front ++ r ∷ [])) ≡ view_of r ∷ map view_of (reverse front)
newest-first front r = ap (map view_of) (reverse-append front (r ∷ []))

last-place : {X : Type 0} (front : List X) (x : X) → length (front ++ x ∷ []) - 1 ≡ length front
last-place front x = let e = length-append front (x ∷ []) in omega (arith, e)

-- What becomes of the views of running requests when the last one that is kept is replaced.
pub record ChangesTop (before after : List RunningRequest) (was is : RunningRequest) : Type 0 where
  pub below : List RunningView
  pub before_is : map view_of (reverse before) ≡ view_of was ∷ below
  pub after_is : map view_of (reverse after) ≡ view_of is ∷ below

seam-changes : (front : List RunningRequest) (x d after : RunningRequest) (i : ℕ) → i ≡ length front → d ≡ slice_index_or (front ++ x ∷ []) i d → ChangesTop (front ++ x ∷ []) (slice_set (front ++ x ∷ []) i after) d after
seam-changes front x d after i at read =
    let place : slice_set (front ++ x ∷ []) i after ≡ front ++ after ∷ [] = ap (λ (k : ℕ). slice_set (front ++ x ∷ []) k after) at ∙ set-append_seam front x [] after in
    let same : d ≡ x = read ∙ ap (λ (k : ℕ). slice_index_or (front ++ x ∷ []) k d) at ∙ get_or-append_seam front x [] d in
    record {
      below = map view_of (reverse front);
      before_is = newest-first front x ∙ ap (λ (r : RunningRequest). view_of r ∷ map view_of (reverse front)) (sym same);
      after_is = ap (λ (ys : List RunningRequest). map view_of (reverse ys)) place ∙ newest-first front after;
    }

end-changes : (xs : List RunningRequest) (d after : RunningRequest) → 0 < length xs → d ≡ slice_index_or xs (length xs - 1) d → ChangesTop xs (slice_set xs (length xs - 1) after) d after
end-changes [] d after some read = absurd (let no : ⊥ = omega (arith, some) in no)
end-changes (x ∷ xs) d after some read =
    let e = ends x xs in
    subst (λ (ys : List RunningRequest). ChangesTop ys (slice_set ys (length ys - 1) after) d after) (sym e.is)
    (seam-changes e.front e.last d after (length (e.front ++ e.last ∷ []) - 1) (last-place e.front e.last) (subst (λ (ys : List RunningRequest). d ≡ slice_index_or ys (length ys - 1) d) e.is read))

pub top-changes : (xs : List RunningRequest) (d after : RunningRequest) (n : ℕ) → n ≡ length xs → 0 < n → d ≡ slice_index_or xs (n - 1) d → ChangesTop xs (slice_set xs (n - 1) after) d after
top-changes xs d after n same some read =
    subst (λ (m : ℕ). ChangesTop xs (slice_set xs (m - 1) after) d after) (sym same) (end-changes xs d after (subst (λ (m : ℕ). 0 < m) same some) (subst (λ (m : ℕ). d ≡ slice_index_or xs (m - 1) d) same read))
