-- What lines do to the requests whose handlers run.
use Rattle.std.proofs.Common.{◌≡◌, ◌+◌, ℤ, Bool, true, false, if◌then◌else◌, List, [], ◌∷◌, map, refl, ap, ◌∙◌}
use Rattle.std.specs.List.{AllByRecursion}
use Rattle.ipdl_base.specs.declared.kinds.Side.{Side}
use Rattle.ipdl_base.specs.declared.line.Line.{Line}
use Rattle.ipdl_base.specs.declared.line.What.{What}
use Rattle.ipdl_base.specs.declared.line.What.TheVariants as what
use Rattle.ipdl_base.specs.Lines.{is_effect}
use Rattle.channel_model.specs.Outputs.{line_at}
use Rattle.script_steps.specs.Progress.{HandledRequest, Progress, is_act, one_event, one_act, with_built, with_handled, after_line, after_lines}

-- an effect after an event that is not a take
record StaysAfter (p q : Progress) : Type 0 where
  handled : q.handled ≡ p.handled
  takes : q.takes ≡ false

built-stays : (b : Bool) (id : ℤ) (p : Progress) → p.takes ≡ b → b ≡ false → StaysAfter p (if b then with_handled (with_built id p.handled) p else p)
built-stays true id p is h = cc
built-stays false id p is h = record { handled = refl; takes = is }

effect-stays : (p : Progress) (w : What) → is_effect w ≡ true → p.takes ≡ false → StaysAfter p (after_line p w)
effect-stays p (what.Built a b) h k = built-stays p.takes a p refl k
effect-stays p (what.Replaced a) h k = record { handled = refl; takes = k }
effect-stays p (what.AnswerOk a b) h k = record { handled = refl; takes = k }
effect-stays p (what.AnswerFault a b) h k = record { handled = refl; takes = k }
effect-stays p (what.Fails a) h k = record { handled = refl; takes = k }
effect-stays p (what.Resolved a b) h k = record { handled = refl; takes = k }
effect-stays p (what.Rejected a b) h k = record { handled = refl; takes = k }
effect-stays p (what.Fall a b) h k = record { handled = refl; takes = k }
effect-stays p _ h k = cc

pub effects-stay : (p : Progress) (ws : List What) → AllByRecursion (λ w. is_effect w ≡ true) ws → p.takes ≡ false → (after_lines p ws).handled ≡ p.handled
effects-stay p [] h k = refl
effects-stay p (w ∷ ws) h k = let s = effect-stays p w h.0 k in effects-stay (after_line p w) ws h.1 s.takes ∙ s.handled

-- one more act of the innermost handler
abbrev pub acted : List HandledRequest → List HandledRequest
acted [] = []
acted (request ∷ below) = record request { acts = request.acts + 1 } ∷ below

act-is : (p : Progress) (w : What) → is_act w ≡ true → after_line p w ≡ one_act p.handled (one_event p)
act-is p (what.Send a b c d) h = refl
act-is p (what.Call a b c d e) h = refl
act-is p (what.RefusedSend a b) h = refl
act-is p (what.RefusedClose a) h = refl
act-is p (what.RefusedResolve a) h = refl
act-is p (what.RefusedReject a) h = refl
act-is p (what.Resolve a b) h = refl
act-is p (what.Reject a) h = refl
act-is p (what.Keep a b) h = refl
act-is p (what.Let a b) h = refl
act-is p what.Close h = refl
act-is p _ h = cc

one-handled : (handled : List HandledRequest) (p : Progress) → p.handled ≡ handled → (one_act handled p).handled ≡ acted handled
one-handled [] p h = h
one-handled (request ∷ below) p h = refl

one-takes : (handled : List HandledRequest) (p : Progress) → p.takes ≡ false → (one_act handled p).takes ≡ false
one-takes [] p h = h
one-takes (request ∷ below) p h = h

pub act-handled : (p : Progress) (w : What) → is_act w ≡ true → (after_line p w).handled ≡ acted p.handled
act-handled p w h = ap (λ (q : Progress). q.handled) (act-is p w h) ∙ one-handled p.handled (one_event p) refl

pub act-takes : (p : Progress) (w : What) → is_act w ≡ true → (after_line p w).takes ≡ false
act-takes p w h = ap (λ (q : Progress). q.takes) (act-is p w h) ∙ one-takes p.handled (one_event p) refl

-- what lines of a side show
pub whats-back : (side : Side) (ws : List What) → map (λ (line : Line). line.what) (map (line_at side) ws) ≡ ws
whats-back side [] = refl
whats-back side (w ∷ ws) = ap (λ vs. w ∷ vs) (whats-back side ws)

first-what : List Line → What
first-what [] = what.Die
first-what (line ∷ lines) = line.what

pub first-is : (side : Side) (w v : What) (ws : List What) (more : List Line) → map (line_at side) (w ∷ ws) ≡ line_at side v ∷ more → w ≡ v
unfolding first-what
first-is side w v ws more h = ap first-what h
