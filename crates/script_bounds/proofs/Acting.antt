-- What lines do to the actions that a side has left.
use Rattle.std.proofs.Common.{◌≡◌, ℕ, zero, suc, ◌+◌, ◌-◌, ◌<◌, ◌≤◌, Bool, true, false, cond, ◌==◌, if◌then◌else◌, List, [], ◌∷◌, drop, count_by, length, Option, Some, None, refl, sym, ap, subst, ◌∙◌, arith}
use Rattle.std.specs.Prelude.{option_and_then}
use Rattle.std.specs.List.{slice_get}
use Rattle.std.proofs.lemmas.List.Sums.{sum_by-cons}
use Rattle.ipdl_base.specs.declared.kinds.Side.{Side}
use Rattle.ipdl_base.specs.declared.line.What.{What}
use Rattle.ipdl_base.specs.declared.line.What.TheVariants as what
use Rattle.channel_laws.specs.Counts.{one_if}
use Rattle.handler_script.specs.declared.action.Action.{Action}
use Rattle.handler_script.specs.declared.action.Block.{Block}
use Rattle.handler_script.specs.declared.script.Point.TheVariants as point
use Rattle.handler_script.specs.declared.script.Script.{Script}
use Rattle.handler_script.specs.ScriptOf.{action_at, blocks_for}
use Rattle.script_steps.specs.NextEvent.{block_for, handler_action}
use Rattle.script_steps.specs.Progress.{HandledRequest, Progress, after_line, after_lines, is_act, one_act, one_event, with_built, with_handled}
use Rattle.script_bounds.specs.Actions.{actions_for, actions_of, actions_served, main_actions, taken_before}

module _ (script : Script) (side : Side) where
  -- What is left

  abbrev pub left_of : HandledRequest → ℕ
  left_of request = actions_for script side request.number request.block - request.acts

  abbrev pub left_in : List HandledRequest → ℕ
  left_in [] = 0
  left_in (request ∷ below) = left_of request + left_in below

  abbrev pub left : Progress → ℕ
  left p = (main_actions script side - p.main) + left_in p.handled

  abbrev pub served : Progress → ℕ
  served p = actions_served script side p.taken

  -- Lines bring no more actions than the requests that they take.
  pub record BringsNoMore (p q : Progress) : Type 0 where
    pub more : served p ≤ served q
    pub left : left q + served p ≤ left p + served q

  same-progress : (p q : Progress) → q.main ≡ p.main → q.taken ≡ p.taken → left_in q.handled ≤ left_in p.handled → BringsNoMore p q
  same-progress p q main taken handled =
      let m : main_actions script side - q.main ≡ main_actions script side - p.main = ap (λ (n : ℕ). main_actions script side - n) main in
      let s : served q ≡ served p = ap (actions_served script side) taken in
      record { more = omega (arith, s); left = omega (arith, m, s, handled) }

  built-same : (id : _) (handled : List HandledRequest) → left_in (with_built id handled) ≡ left_in handled
  built-same id [] = refl
  built-same id (request ∷ below) = refl

  built-more : (b : Bool) (id : _) (p : Progress) → BringsNoMore p (if b then with_handled (with_built id p.handled) p else p)
  built-more true id p = let e = built-same id p.handled in same-progress p (with_handled (with_built id p.handled) p) refl refl (omega (arith, e))
  built-more false id p = same-progress p p refl refl (omega arith)

  return-less : (handled : List HandledRequest) → left_in (drop 1 handled) ≤ left_in handled
  return-less [] = omega arith
  return-less (request ∷ below) = omega arith

  act-less : (handled : List HandledRequest) (p : Progress) → p.handled ≡ handled → BringsNoMore p (one_act handled (one_event p))
  act-less [] p is = record { more = omega arith; left = omega arith }
  act-less (request ∷ below) p is =
      let was : left_in p.handled ≡ left_of request + left_in below = ap left_in is in
      same-progress p (one_act (request ∷ below) (one_event p)) refl refl (omega (arith, was))

  -- how often a message is among those that were taken
  counted : (number : ℕ) (taken : List ℕ) → count_by (λ n. n == number) taken ≡ taken_before number taken
  counted number [] = refl
  counted number (n ∷ taken) = sum_by-cons (λ m. cond (m == number) 1 0) n taken ∙ ap (λ (k : ℕ). cond (n == number) 1 0 + k) (counted number taken) ∙ by (n == number)
    where
      by : (b : Bool) → cond b 1 0 + taken_before number taken ≡ one_if b + taken_before number taken
      by true = refl
      by false = refl

  take-more : (p : Progress) (seq : _) (number : ℕ) (vs : _) (route : _) → BringsNoMore p (after_line p (what.Take seq route number vs))
  take-more p seq number vs route =
      let new : actions_for script side number (count_by (λ n. n == number) p.taken) ≡ actions_for script side number (taken_before number p.taken) = ap (actions_for script side number) (counted number p.taken) in
      record { more = omega arith; left = omega (arith, new) }

  pub line-more : (p : Progress) (w : What) → BringsNoMore p (after_line p w)
  line-more p (what.Take seq route number vs) = take-more p seq number vs route
  line-more p (what.Built id protocol) = built-more p.takes id p
  line-more p what.Die = same-progress p (after_line p what.Die) refl refl (omega arith)
  line-more p (what.Return seq) = same-progress p (after_line p (what.Return seq)) refl refl (return-less p.handled)
  line-more p (what.Send a b c d) = act-less p.handled p refl
  line-more p (what.Call a b c d f) = act-less p.handled p refl
  line-more p (what.RefusedSend a b) = act-less p.handled p refl
  line-more p (what.RefusedClose a) = act-less p.handled p refl
  line-more p (what.RefusedResolve a) = act-less p.handled p refl
  line-more p (what.RefusedReject a) = act-less p.handled p refl
  line-more p (what.Resolve a b) = act-less p.handled p refl
  line-more p (what.Reject a) = act-less p.handled p refl
  line-more p (what.Keep a b) = act-less p.handled p refl
  line-more p (what.Let a b) = act-less p.handled p refl
  line-more p what.Close = act-less p.handled p refl
  line-more p (what.DeliverRequest a) = same-progress p (one_event p) refl refl (omega arith)
  line-more p (what.DeliverReply a) = same-progress p (one_event p) refl refl (omega arith)
  line-more p what.DeliverGoodbye = same-progress p (one_event p) refl refl (omega arith)
  line-more p what.DeliverBroken = same-progress p (one_event p) refl refl (omega arith)
  line-more p (what.Drop a b c d) = same-progress p (one_event p) refl refl (omega arith)
  line-more p (what.TakeReply a) = same-progress p (one_event p) refl refl (omega arith)
  line-more p what.ShutNormal = same-progress p (one_event p) refl refl (omega arith)
  line-more p what.ShutAbnormal = same-progress p (one_event p) refl refl (omega arith)
  line-more p (what.ResumeOk a b) = same-progress p (one_event p) refl refl (omega arith)
  line-more p (what.ResumeFault a b) = same-progress p (one_event p) refl refl (omega arith)
  line-more p (what.Flush a) = same-progress p (one_event p) refl refl (omega arith)
  line-more p _ = same-progress p p refl refl (omega arith)

  pub lines-more : (p : Progress) (ws : List What) → BringsNoMore p (after_lines p ws)
  lines-more p [] = same-progress p p refl refl (omega arith)
  lines-more p (w ∷ ws) =
      let first = line-more p w in
      let more = lines-more (after_line p w) ws in
      let a = first.more in
      let b = first.left in
      let c = more.more in
      let d = more.left in
      record { more = omega (arith, a, c); left = omega (arith, a, b, c, d) }

  -- There is an action: of the innermost handler, or of main if no handler runs.
  pub data HasAction (p : Progress) : Type 0 where
    in_main : (a : Action) → p.handled ≡ [] → action_at script side (point.Main p.main) ≡ Some a → HasAction p
    in_handler : (request : HandledRequest) (below : List HandledRequest) (a : Action) → p.handled ≡ request ∷ below → handler_action script side request ≡ Some a → HasAction p

  got-few : {A : Type 0} (xs : List A) (k : ℕ) (x : A) → slice_get xs k ≡ Some x → k < length xs
  got-few [] k x e = cc
  got-few (y ∷ ys) zero x e = omega arith
  got-few (y ∷ ys) (suc k) x e = let l = got-few ys k x e in omega (arith, l)

  block-few : (o : Option Block) (k : ℕ) (a : Action) → option_and_then (λ (block : Block). slice_get block.actions k) o ≡ Some a → k < actions_of o
  block-few None k a e = cc
  block-few (Some block) k a e = got-few block.actions k a e

  -- so something is left
  pub action-left : (p : Progress) → HasAction p → 1 ≤ left p
  action-left p (in_main a none is) =
      let few : p.main < main_actions script side = block-few (slice_get (blocks_for script side None) 0) p.main a is in
      omega (arith, few)
  action-left p (in_handler request below a of is) =
      let few : request.acts < actions_for script side request.number request.block = block-few (slice_get (blocks_for script side (Some request.number)) (block_for script side request)) request.acts a is in
      let was : left_in p.handled ≡ left_of request + left_in below = ap left_in of in
      omega (arith, few, was)

  -- and an act takes it away
  act-takes : (handled : List HandledRequest) (p : Progress) → p.handled ≡ handled → HasAction p → left (one_act handled (one_event p)) + 1 ≤ left p
  act-takes [] p is (in_main a none e) =
      let few : p.main < main_actions script side = block-few (slice_get (blocks_for script side None) 0) p.main a e in
      omega (arith, few)
  act-takes (request ∷ below) p is (in_main a none e) = cc
  act-takes [] p is (in_handler request below a of e) = cc
  act-takes (top ∷ under) p is (in_handler request below a of e) =
      let same : top ≡ request = cc in
      let few : request.acts < actions_for script side request.number request.block = block-few (slice_get (blocks_for script side (Some request.number)) (block_for script side request)) request.acts a e in
      let here : top.acts < actions_for script side top.number top.block = subst (λ (r : HandledRequest). r.acts < actions_for script side r.number r.block) (sym same) few in
      let was : left_in p.handled ≡ left_of top + left_in under = ap left_in is in
      omega (arith, here, was)

  act-served : (handled : List HandledRequest) (p : Progress) → served (one_act handled (one_event p)) ≡ served p
  act-served [] p = refl
  act-served (request ∷ below) p = refl

  act-is : (p : Progress) (w : What) → is_act w ≡ true → after_line p w ≡ one_act p.handled (one_event p)
  act-is p (what.Send a b c d) h = refl
  act-is p (what.Call a b c d e) h = refl
  act-is p (what.RefusedSend a b) h = refl
  act-is p (what.RefusedClose a) h = refl
  act-is p (what.RefusedResolve a) h = refl
  act-is p (what.RefusedReject a) h = refl
  act-is p (what.Resolve a b) h = refl
  act-is p (what.Reject a) h = refl
  act-is p (what.Keep a b) h = refl
  act-is p (what.Let a b) h = refl
  act-is p what.Close h = refl
  act-is p _ h = cc

  pub act-uses : (p : Progress) (w : What) (ws : List What) → is_act w ≡ true → HasAction p → left (after_lines p (w ∷ ws)) + served p + 1 ≤ left p + served (after_lines p (w ∷ ws))
  act-uses p w ws act has =
      let one : left (after_line p w) + 1 ≤ left p = subst (λ (q : Progress). left q + 1 ≤ left p) (sym (act-is p w act)) (act-takes p.handled p refl has) in
      let same : served (after_line p w) ≡ served p = ap served (act-is p w act) ∙ act-served p.handled p in
      let more = (lines-more (after_line p w) ws).left in
      omega (arith, one, same, more)
