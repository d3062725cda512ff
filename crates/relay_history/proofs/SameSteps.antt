-- In each state a side has at most one step, and neither side's step takes away that of the other.
use Rattle.std.proofs.Common.{◌≡◌, true, List, [], ◌∷◌, ◌++◌, map, drop, length, ℕ, zero, suc, Some, None, refl, sym, ap, subst, ◌∙◌, append_assoc}
use Rattle.std.proofs.lemmas.List.{append-nil}
use Rattle.std.proofs.lemmas.Option.{same_Some}
use Rattle.handler_script.specs.ScriptOf.{first_of}
use Rattle.ipdl_base.specs.declared.kinds.Side.{Side}
use Rattle.ipdl_base.specs.declared.line.Line.{Line}
use Rattle.channel_model.specs.Ends.{Packet}
use Rattle.channel_model.specs.Events.{Event}
use Rattle.channel_model.specs.Events as event
use Rattle.ipdl_base.specs.Sides.{other}
use Rattle.channel_model.specs.Outputs.{Output, is_open, line_at}
use Rattle.channel_model.specs.Steps.{step}
use Rattle.script_steps.specs.Choices.{Setting}
use Rattle.script_steps.proofs.StepLines.{Prints, step-prints}
use Rattle.relay_runs.specs.HalfRuns.{HalfState, after, after_packet, delivered_for, is_within, own_event}
use Rattle.relay_runs.specs.RelaySteps.{LeadsOn, RelayState, RelayStep, acts, gets, half_of, next_packet, stays, steps, with_half}
use Rattle.law_statements.specs.Prefix.{IsPrefix}
use Rattle.relay_history.specs.OneResult.{IsEarlierHalf}
use Rattle.relay_runs.proofs.Sides.{by-sides, half-apart, half-here, half-there, same-relay, twice}

-- At most one step
pub steps-once : (setting : Setting) (side : Side) (state one two : RelayState) → RelayStep setting side state one → RelayStep setting side state two → one ≡ two
steps-once setting side state _ _ (acts own output w o is) (acts own' output' w' o' is') =
    let half : HalfState = half_of side state in
    let as_one : own ≡ own' = same_Some own own' (sym o ∙ o') in
    let made : output ≡ output' = same_Some output output' (sym is ∙ ap (λ (x : Event). step setting.schema half.end [] x) as_one ∙ is') in
    ap (λ (made : Output). with_half side (after half made) state) made
steps-once setting side state _ _ (acts own output w o is) (gets packet output' w' o' opened next is') = let k : None ≡ Some own = sym o' ∙ o in cc
steps-once setting side state _ _ (gets packet output w o opened next is) (acts own output' w' o' is') = let k : None ≡ Some own = sym o ∙ o' in cc
steps-once setting side state _ _ (gets packet output w o opened next is) (gets packet' output' w' o' opened' next' is') =
    let half : HalfState = half_of side state in
    let as_one : packet ≡ packet' = same_Some packet packet' (sym next ∙ next') in
    let made : output ≡ output' = same_Some output output' (sym is ∙ ap (λ (p : Packet). step setting.schema half.end (delivered_for setting.schema half.end p ∷ []) event.deliver) as_one ∙ is') in
    ap (λ (p : Packet). with_half side (after_packet half p (delivered_for setting.schema half.end p) output) state) as_one
    ∙ ap (λ (made : Output). with_half side (after_packet half packet' (delivered_for setting.schema half.end packet') made) state) made

-- A step of a side is one in any state in which its half is the same and the same packet comes next
module _ (setting : Setting) (side : Side) (state : RelayState) where
  acts-at : (own : Event) (output : Output) (half : HalfState) → half_of side state ≡ half → is_within setting side half ≡ true → own_event setting side half ≡ Some own → step setting.schema half.end [] own ≡ Some output
      → RelayStep setting side state (with_half side (after half output) state)
  acts-at own output half same within is_own is =
      subst (λ (h : HalfState). RelayStep setting side state (with_half side (after h output) state)) same
      (acts own output (ap (is_within setting side) same ∙ within) (ap (own_event setting side) same ∙ is_own) (ap (λ (h : HalfState). step setting.schema h.end [] own) same ∙ is))

  gets-at : (packet : Packet) (output : Output) (half : HalfState) → half_of side state ≡ half → is_within setting side half ≡ true → own_event setting side half ≡ None → is_open half.end.state ≡ true → next_packet side state ≡ Some packet
      → step setting.schema half.end (delivered_for setting.schema half.end packet ∷ []) event.deliver ≡ Some output
      → RelayStep setting side state (with_half side (after_packet half packet (delivered_for setting.schema half.end packet) output) state)
  gets-at packet output half same within rests opened next is =
      subst (λ (h : HalfState). RelayStep setting side state (with_half side (after_packet h packet (delivered_for setting.schema h.end packet) output) state)) same
      (gets packet output (ap (is_within setting side) same ∙ within) (ap (own_event setting side) same ∙ rests) (ap (λ (h : HalfState). is_open h.end.state) same ∙ opened) next
      (ap (λ (h : HalfState). step setting.schema h.end (delivered_for setting.schema h.end packet ∷ []) event.deliver) same ∙ is))

abbrev StaysNext : Side → RelayState → RelayState → Type 0
StaysNext side state later = (packet : Packet) → next_packet side state ≡ Some packet → next_packet side later ≡ Some packet

pub steps-there : (setting : Setting) (side : Side) (state next later : RelayState) → RelayStep setting side state next → half_of side later ≡ half_of side state → StaysNext side state later
    → RelayStep setting side later (with_half side (half_of side next) later)
steps-there setting side state _ later (acts own output within is_own is) same still =
    subst (λ (h : HalfState). RelayStep setting side later (with_half side h later)) (sym (half-here side (after (half_of side state) output) state))
    (acts-at setting side later own output (half_of side state) same within is_own is)
steps-there setting side state _ later (gets packet output within rests opened next is) same still =
    subst (λ (h : HalfState). RelayStep setting side later (with_half side h later))
    (sym (half-here side (after_packet (half_of side state) packet (delivered_for setting.schema (half_of side state).end packet) output) state))
    (gets-at setting side later packet output (half_of side state) same within rests opened (still packet next) is)

-- Prefixes, of lists and of halves

pub prefix-same : {A : Type 0} (xs : List A) → IsPrefix xs xs
prefix-same xs = ([], sym (append-nil xs))

pub prefix-trans : {A : Type 0} (xs ys zs : List A) → IsPrefix xs ys → IsPrefix ys zs → IsPrefix xs zs
prefix-trans xs ys zs h k = (h.0 ++ k.0, k.1 ∙ ap (λ us. us ++ k.0) h.1 ∙ append_assoc xs h.0 k.0)

pub earlier-same : (half : HalfState) → IsEarlierHalf half half
earlier-same half = record { lines = prefix-same half.lines; came = prefix-same half.came; delivered = prefix-same half.delivered; sent = prefix-same half.sent }

earlier-trans : (one two three : HalfState) → IsEarlierHalf one two → IsEarlierHalf two three → IsEarlierHalf one three
earlier-trans one two three h k = record {
  lines = prefix-trans one.lines two.lines three.lines h.lines k.lines;
  came = prefix-trans one.came two.came three.came h.came k.came;
  delivered = prefix-trans one.delivered two.delivered three.delivered h.delivered k.delivered;
  sent = prefix-trans one.sent two.sent three.sent h.sent k.sent;
}

-- A step adds to the half of its side, at least one line, and leaves the other as it is
pub record Goes (side : Side) (state next : RelayState) : Type 0 where
  pub there : half_of (other side) next ≡ half_of (other side) state
  pub prefix : IsEarlierHalf (half_of side state) (half_of side next)
  pub line : Line
  pub more : List Line
  pub said : (half_of side next).lines ≡ (half_of side state).lines ++ line ∷ more

pub step-goes : (setting : Setting) (side : Side) (state next : RelayState) → RelayStep setting side state next → Goes side state next
step-goes setting side state _ (acts own output within is_own is) =
    let half : HalfState = half_of side state in
    let here : half_of side (with_half side (after half output) state) ≡ after half output = half-here side (after half output) state in
    let p : Prints half.end own output = step-prints setting.schema half.end [] own output is in
    record {
      there = half-there side (after half output) state;
      prefix = subst (IsEarlierHalf half) (sym here) (record { lines = (output.lines, refl); came = prefix-same half.came; delivered = prefix-same half.delivered; sent = (output.packets, refl) });
      line = line_at half.end.side p.first;
      more = map (line_at half.end.side) p.rest;
      said = ap (λ (h : HalfState). h.lines) here ∙ ap (λ (ls : List Line). half.lines ++ ls) p.lines;
    }
step-goes setting side state _ (gets packet output within rests opened next is) =
    let half : HalfState = half_of side state in
    let given : Packet = delivered_for setting.schema half.end packet in
    let here : half_of side (with_half side (after_packet half packet given output) state) ≡ after_packet half packet given output = half-here side (after_packet half packet given output) state in
    let p : Prints half.end event.deliver output = step-prints setting.schema half.end (given ∷ []) event.deliver output is in
    record {
      there = half-there side (after_packet half packet given output) state;
      prefix = subst (IsEarlierHalf half) (sym here) (record { lines = (output.lines, refl); came = (packet ∷ [], refl); delivered = (given ∷ [], refl); sent = (output.packets, refl) });
      line = line_at half.end.side p.first;
      more = map (line_at half.end.side) p.rest;
      said = ap (λ (h : HalfState). h.lines) here ∙ ap (λ (ls : List Line). half.lines ++ ls) p.lines;
    }

step-earlier : (setting : Setting) (side : Side) (state next : RelayState) → RelayStep setting side state next → (s : Side) → IsEarlierHalf (half_of s state) (half_of s next)
step-earlier setting side state next h =
    let g : Goes side state next = step-goes setting side state next h in
    by-sides (λ s. IsEarlierHalf (half_of s state) (half_of s next)) side g.prefix (subst (IsEarlierHalf (half_of (other side) state)) (sym g.there) (earlier-same (half_of (other side) state)))

pub leads-earlier : (setting : Setting) (from last : RelayState) → LeadsOn setting from last → (s : Side) → IsEarlierHalf (half_of s from) (half_of s last)
leads-earlier setting from _ stays s = earlier-same (half_of s from)
leads-earlier setting from _ (steps side state next run h) s = earlier-trans (half_of s from) (half_of s state) (half_of s next) (leads-earlier setting from state run s) (step-earlier setting side state next h s)

-- The next packet of a side stays the same while only the other makes steps
nothing-first : (packet : Packet) (more : List Packet) (n : ℕ) → first_of (drop n []) ≡ Some packet → first_of (drop n more) ≡ Some packet
nothing-first packet more zero h = cc
nothing-first packet more (suc n) h = cc

first-stays : (packet : Packet) (sent more : List Packet) (n : ℕ) → first_of (drop n sent) ≡ Some packet → first_of (drop n (sent ++ more)) ≡ Some packet
first-stays packet [] more n h = nothing-first packet more n h
first-stays packet (x ∷ sent) more zero h = h
first-stays packet (x ∷ sent) more (suc n) h = first-stays packet sent more n h

pub next-stays : (side : Side) (state later : RelayState) → half_of side later ≡ half_of side state → IsPrefix (half_of (other side) state).sent (half_of (other side) later).sent → StaysNext side state later
next-stays side state later same prefix packet h =
    ap (λ (half : HalfState). first_of (drop (length half.came) (half_of (other side) later).sent)) same ∙ ap (λ (ps : List Packet). first_of (drop (length (half_of side state).came) ps)) prefix.1
    ∙ first-stays packet (half_of (other side) state).sent prefix.0 (length (half_of side state).came) h

-- A step of each side: the other may be done after either, and the end is the same
pub record Commutes (setting : Setting) (side : Side) (one two : RelayState) : Type 0 where
  pub last : RelayState
  pub first : RelayStep setting (other side) one last
  pub second : RelayStep setting side two last
  pub here : half_of side last ≡ half_of side one

pub steps-commute : (setting : Setting) (side : Side) (state one two : RelayState) → RelayStep setting side state one → RelayStep setting (other side) state two → Commutes setting side one two
steps-commute setting side state one two h k =
    let g : Goes side state one = step-goes setting side state one h in
    let f : Goes (other side) state two = step-goes setting (other side) state two k in
    let still : half_of side two ≡ half_of side state = subst (λ (s : Side). half_of s two ≡ half_of s state) (twice side) f.there in
    let last : RelayState = with_half (other side) (half_of (other side) two) one in
    let first : RelayStep setting (other side) one last =
    steps-there setting (other side) state two one k g.there (next-stays (other side) state one g.there (subst (λ (s : Side). IsPrefix (half_of s state).sent (half_of s one).sent) (sym (twice side)) g.prefix.sent))
    in
    let second : RelayStep setting side two (with_half side (half_of side one) two) = steps-there setting side state one two h still (next-stays side state two still f.prefix.sent) in
    let here : half_of side last ≡ half_of side one = half-apart side (half_of (other side) two) one in
    let same : with_half side (half_of side one) two ≡ last =
    same-relay (with_half side (half_of side one) two) last
    (by-sides (λ s. half_of s (with_half side (half_of side one) two) ≡ half_of s last) side (half-here side (half_of side one) two ∙ sym here)
    (half-there side (half_of side one) two ∙ sym (half-here (other side) (half_of (other side) two) one)))
    in
    record { last = last; first = first; second = subst (RelayStep setting side two) same second; here = here }
