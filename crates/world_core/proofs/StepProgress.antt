-- What the lines of a step make of a progress.
use Rattle.std.proofs.Common.{◌≡◌, Bool, true, false, if◌then◌else◌, List, [], ◌∷◌, map, refl, sym, ap, ◌∙◌}
use Rattle.std.specs.List.{AllByRecursion}
use Rattle.ipdl_base.specs.declared.kinds.Side.{Side}
use Rattle.ipdl_base.specs.declared.line.Line.{Line}
use Rattle.ipdl_base.specs.declared.line.What.{What}
use Rattle.ipdl_base.specs.declared.line.What.TheVariants as what
use Rattle.ipdl_base.specs.Lines.{is_effect}
use Rattle.channel_model.specs.Ends.{End}
use Rattle.channel_model.specs.Events.{Event}
use Rattle.channel_model.specs.Outputs.{Output, line_at}
use Rattle.script_steps.specs.Choices.{is_delivery_line}
use Rattle.script_steps.specs.Progress.{Progress, after_line, after_lines, is_act, one_act, one_event}
use Rattle.script_steps.proofs.StepLines.{Prints}
use Rattle.world_core.specs.HalfView.{whats_of}

-- a line makes this of every progress
abbrev pub Makes : (Progress → Progress) → What → Type 0
Makes f w = (p : Progress) → after_line p w ≡ f p

-- the lines of an output begin with one of this kind
abbrev pub Begins : Output → (What → Type 0) → Type 0
Begins output P = (side : Side) × (w : What) × (more : List Line) × (output.lines ≡ line_at side w ∷ more) × P w

-- Each kind of line

pub act-makes : (w : What) → is_act w ≡ true → Makes (λ p. one_act p.handled (one_event p)) w
act-makes (what.Send a b c d) h p = refl
act-makes (what.Call a b c d e) h p = refl
act-makes (what.RefusedSend a b) h p = refl
act-makes (what.RefusedClose a) h p = refl
act-makes (what.RefusedResolve a) h p = refl
act-makes (what.RefusedReject a) h p = refl
act-makes (what.Resolve a b) h p = refl
act-makes (what.Reject a) h p = refl
act-makes (what.Keep a b) h p = refl
act-makes (what.Let a b) h p = refl
act-makes what.Close h p = refl
act-makes _ h p = cc

pub delivery-makes : (w : What) → is_delivery_line w ≡ true → Makes one_event w
delivery-makes (what.DeliverRequest a) h p = refl
delivery-makes (what.DeliverReply a) h p = refl
delivery-makes what.DeliverGoodbye h p = refl
delivery-makes what.DeliverBroken h p = refl
delivery-makes _ h p = cc

-- Lines of effects after it

skip : (b : Bool) (x y : Progress) → b ≡ false → (if b then x else y) ≡ y
skip true x y h = cc
skip false x y h = refl

stays : (p : Progress) (w : What) → p.takes ≡ false → is_effect w ≡ true → after_line p w ≡ p
stays p (what.Built a b) t h = skip p.takes _ p t
stays p (what.Replaced a) t h = refl
stays p (what.AnswerOk a b) t h = refl
stays p (what.AnswerFault a b) t h = refl
stays p (what.Fails a) t h = refl
stays p (what.Resolved a b) t h = refl
stays p (what.Rejected a b) t h = refl
stays p (what.Fall a b) t h = refl
stays p _ t h = cc

stays-all : (p : Progress) (ws : List What) → p.takes ≡ false → AllByRecursion (λ w. is_effect w ≡ true) ws → after_lines p ws ≡ p
stays-all p [] t h = refl
stays-all p (w ∷ ws) t h = ap (λ (q : Progress). after_lines q ws) (stays p w t h.0) ∙ stays-all p ws t h.1

-- Steps

abbrev head_of : List What → What
head_of [] = what.Close
head_of (w ∷ ws) = w

pub whats-at : (side : Side) (ws : List What) → whats_of (map (line_at side) ws) ≡ ws
whats-at side [] = refl
whats-at side (w ∷ ws) = ap (λ (vs : List What). w ∷ vs) (whats-at side ws)

-- the lines of a step make of a progress what the first of them makes
pub step-makes : (f : Progress → Progress) → ((p : Progress) → (f p).takes ≡ false) → (e : End) (happened : Event) (output : Output) → Prints e happened output → Begins output (Makes f)
    → (p : Progress) → after_lines p (whats_of output.lines) ≡ f p
step-makes f quiet e happened output prints begins p =
    let same : prints.first ≡ begins.1 = ap (λ (ls : List Line). head_of (whats_of ls)) (sym prints.lines ∙ begins.3) in
    ap (λ (ls : List Line). after_lines p (whats_of ls)) prints.lines
    ∙ ap (after_lines p) (whats-at e.side (prints.first ∷ prints.rest))
    ∙ ap (λ (w : What). after_lines (after_line p w) prints.rest) same
    ∙ ap (λ (q : Progress). after_lines q prints.rest) (begins.4 p)
    ∙ stays-all (f p) prints.rest (quiet p) prints.effects
