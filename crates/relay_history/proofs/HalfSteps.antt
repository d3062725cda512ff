-- Steps of one half: the packets that come to it decide all that it does.
use Rattle.std.proofs.Common.{◌≡◌, ◌⊎◌, inl, inr, List, [], ◌∷◌, ◌++◌, map, drop, length, Some, None, refl, sym, ap, subst, ◌∙◌}
use Rattle.std.proofs.lemmas.List.{append-nil}
use Rattle.std.proofs.lemmas.Option.{same_Some}
use Rattle.handler_script.specs.ScriptOf.{first_of}
use Rattle.ipdl_base.specs.declared.kinds.Side.{Side}
use Rattle.ipdl_base.specs.declared.line.Line.{Line}
use Rattle.channel_model.specs.Ends.{Packet}
use Rattle.channel_model.specs.Events.{Event}
use Rattle.channel_model.specs.Events as event
use Rattle.ipdl_base.specs.Sides.{other}
use Rattle.channel_model.specs.Outputs.{Output, line_at}
use Rattle.channel_model.specs.Steps.{step}
use Rattle.script_steps.specs.Choices.{Setting}
use Rattle.script_steps.proofs.StepLines.{Prints, step-prints}
use Rattle.relay_runs.specs.HalfRuns.{HalfState, after, after_packet, delivered_for}
use Rattle.relay_runs.specs.RelaySteps.{LeadsOn, RelayState, RelayStep, half_of, stays, steps, with_half}
use Rattle.law_statements.specs.Prefix.{IsPrefix}
use Rattle.relay_history.specs.HalfSteps.{HalfLeads, HalfStep, acts, gets, goes, rests}
use Rattle.relay_runs.specs.RelaySteps as relay
use Rattle.relay_history.proofs.OneResult.{not-longer}
use Rattle.relay_history.proofs.SameSteps.{Goes, prefix-same, prefix-trans, step-goes}
use Rattle.relay_runs.proofs.Sides.{half-here, which-side}

-- each step of a relay is one of the half of its side
pub half-steps : (setting : Setting) (side : Side) (state next : RelayState) → RelayStep setting side state next → HalfStep setting side (half_of side state) (half_of side next)
half-steps setting side state _ (relay.acts own output within is_own is) =
    subst (HalfStep setting side (half_of side state)) (sym (half-here side (after (half_of side state) output) state)) (acts own output within is_own is)
half-steps setting side state _ (relay.gets packet output within none opened next is) =
    subst (HalfStep setting side (half_of side state)) (sym (half-here side (after_packet (half_of side state) packet (delivered_for setting.schema (half_of side state).end packet) output) state)) (gets packet output within none opened is)

-- and a step of a half is one of the relay, if all that has come after it is a prefix of what the other has sent
first-after : (came : List Packet) (packet : Packet) (more : List Packet) → first_of (drop (length came) ((came ++ packet ∷ []) ++ more)) ≡ Some packet
first-after [] packet more = refl
first-after (x ∷ came) packet more = first-after came packet more

pub side-steps : (setting : Setting) (side : Side) (state : RelayState) (next : HalfState) → HalfStep setting side (half_of side state) next → IsPrefix next.came (half_of (other side) state).sent → RelayStep setting side state (with_half side next state)
side-steps setting side state _ (acts own output within is_own is) prefix = relay.acts own output within is_own is
side-steps setting side state _ (gets packet output within none opened is) prefix =
    relay.gets packet output within none opened
    (ap (λ (sent : List Packet). first_of (drop (length (half_of side state).came) sent)) prefix.1 ∙ first-after (half_of side state).came packet prefix.0) is

-- Where the same packets come, a half has at most one step
same-next : (came : List Packet) (one two : Packet) (more rest : List Packet) → (came ++ one ∷ []) ++ more ≡ (came ++ two ∷ []) ++ rest → one ≡ two
same-next [] one two more rest h = cc
same-next (x ∷ came) one two more rest h = same-next came one two more rest (by h)
  where
    by : x ∷ ((came ++ one ∷ []) ++ more) ≡ x ∷ ((came ++ two ∷ []) ++ rest) → (came ++ one ∷ []) ++ more ≡ (came ++ two ∷ []) ++ rest
    by h = cc

pub half-once : (setting : Setting) (side : Side) (half one two : HalfState) (all : List Packet) → HalfStep setting side half one → HalfStep setting side half two → IsPrefix one.came all → IsPrefix two.came all → one ≡ two
half-once setting side half _ _ all (acts own output w o is) (acts own' output' w' o' is') prefix prefix' =
    let as_one : own ≡ own' = same_Some own own' (sym o ∙ o') in
    let made : output ≡ output' = same_Some output output' (sym is ∙ ap (λ (x : Event). step setting.schema half.end [] x) as_one ∙ is') in
    ap (λ (made : Output). after half made) made
half-once setting side half _ _ all (acts own output w o is) (gets packet output' w' o' opened is') prefix prefix' = let k : None ≡ Some own = sym o' ∙ o in cc
half-once setting side half _ _ all (gets packet output w o opened is) (acts own output' w' o' is') prefix prefix' = let k : None ≡ Some own = sym o ∙ o' in cc
half-once setting side half _ _ all (gets packet output w o opened is) (gets packet' output' w' o' opened' is') prefix prefix' =
    let as_one : packet ≡ packet' = same-next half.came packet packet' prefix.0 prefix'.0 (sym prefix.1 ∙ prefix'.1) in
    let made : output ≡ output' = same_Some output output' (sym is ∙ ap (λ (p : Packet). step setting.schema half.end (delivered_for setting.schema half.end p ∷ []) event.deliver) as_one ∙ is') in
    ap (λ (p : Packet). after_packet half p (delivered_for setting.schema half.end p) output) as_one ∙ ap (λ (made : Output). after_packet half packet' (delivered_for setting.schema half.end packet') made) made

-- Several steps of a half

pub half-leads : (setting : Setting) (side : Side) (from last : RelayState) → LeadsOn setting from last → HalfLeads setting side (half_of side from) (half_of side last)
half-leads setting side from _ stays = rests
half-leads setting side from _ (steps s state next run h) = by (which-side s side) (half-leads setting side from state run)
  where
    by : (side ≡ s) ⊎ (side ≡ other s) → HalfLeads setting side (half_of side from) (half_of side state) → HalfLeads setting side (half_of side from) (half_of side next)
    by (inl is) leads = goes (half_of side state) (half_of side next) leads (half-steps setting side state next (subst (λ (s : Side). RelayStep setting s state next) (sym is) h))
    by (inr is) leads =
        let g : Goes s state next = step-goes setting s state next h in
        subst (HalfLeads setting side (half_of side from)) (subst (λ (x : Side). half_of x state ≡ half_of x next) (sym is) (sym g.there)) leads

pub half-trans : (setting : Setting) (side : Side) (one two three : HalfState) → HalfLeads setting side one two → HalfLeads setting side two three → HalfLeads setting side one three
half-trans setting side one two _ h rests = h
half-trans setting side one two _ h (goes half next k step) = goes half next (half-trans setting side one two half h k) step

-- either there is no step, or there is a first one
pub record FirstStep (setting : Setting) (side : Side) (from last : HalfState) : Type 0 where
  pub next : HalfState
  pub step : HalfStep setting side from next
  pub leads : HalfLeads setting side next last

pub first-step : (setting : Setting) (side : Side) (from last : HalfState) → HalfLeads setting side from last → (from ≡ last) ⊎ FirstStep setting side from last
first-step setting side from _ rests = inl refl
first-step setting side from _ (goes half next h step) = by (first-step setting side from half h)
  where
    by : (from ≡ half) ⊎ FirstStep setting side from half → (from ≡ next) ⊎ FirstStep setting side from next
    by (inl same) = inr (record { next = next; step = subst (λ (x : HalfState). HalfStep setting side x next) (sym same) step; leads = rests })
    by (inr f) = inr (record { next = f.next; step = f.step; leads = goes half next f.leads step })

-- lists of packets that came only grow, and lines grow with each step
step-came : (setting : Setting) (side : Side) (half next : HalfState) → HalfStep setting side half next → IsPrefix half.came next.came
step-came setting side half _ (acts own output within is_own is) = prefix-same half.came
step-came setting side half _ (gets packet output within none opened is) = (packet ∷ [], refl)

pub leads-came : (setting : Setting) (side : Side) (from last : HalfState) → HalfLeads setting side from last → IsPrefix from.came last.came
leads-came setting side from _ rests = prefix-same from.came
leads-came setting side from _ (goes half next h step) = prefix-trans from.came half.came next.came (leads-came setting side from half h) (step-came setting side half next step)

step-lines : (setting : Setting) (side : Side) (half next : HalfState) → HalfStep setting side half next → IsPrefix half.lines next.lines
step-lines setting side half _ (acts own output within is_own is) = (output.lines, refl)
step-lines setting side half _ (gets packet output within none opened is) = (output.lines, refl)

leads-lines : (setting : Setting) (side : Side) (from last : HalfState) → HalfLeads setting side from last → IsPrefix from.lines last.lines
leads-lines setting side from _ rests = prefix-same from.lines
leads-lines setting side from _ (goes half next h step) = prefix-trans from.lines half.lines next.lines (leads-lines setting side from half h) (step-lines setting side half next step)

record Said (half next : HalfState) : Type 0 where
  line : Line
  more : List Line
  said : next.lines ≡ half.lines ++ line ∷ more

step-said : (setting : Setting) (side : Side) (half next : HalfState) → HalfStep setting side half next → Said half next
step-said setting side half _ (acts own output within is_own is) =
    let p : Prints half.end own output = step-prints setting.schema half.end [] own output is in
    record { line = line_at half.end.side p.first; more = map (line_at half.end.side) p.rest; said = ap (λ (ls : List Line). half.lines ++ ls) p.lines }
step-said setting side half _ (gets packet output within none opened is) =
    let p : Prints half.end event.deliver output = step-prints setting.schema half.end (delivered_for setting.schema half.end packet ∷ []) event.deliver output is in
    record { line = line_at half.end.side p.first; more = map (line_at half.end.side) p.rest; said = ap (λ (ls : List Line). half.lines ++ ls) p.lines }

pub step-new : (setting : Setting) (side : Side) (half next : HalfState) → HalfStep setting side half next → half ≡ next → ⊥
step-new setting side half next step same =
    let s : Said half next = step-said setting side half next step in
    not-longer half.lines s.more [] s.line (ap (λ (h : HalfState). h.lines) same ∙ s.said ∙ sym (append-nil (half.lines ++ s.line ∷ s.more)))

-- so no steps lead back to where they began
pub never-back : (setting : Setting) (side : Side) (one two : HalfState) → HalfLeads setting side one two → HalfLeads setting side two one → one ≡ two
never-back setting side one two h k = by (first-step setting side one two h)
  where
    by : (one ≡ two) ⊎ FirstStep setting side one two → one ≡ two
    by (inl same) = same
    by (inr f) =
        let s : Said one f.next = step-said setting side one f.next f.step in
        let back : IsPrefix f.next.lines one.lines = leads-lines setting side f.next one (half-trans setting side f.next two one f.leads k) in
        absurd (not-longer one.lines s.more back.0 s.line (back.1 ∙ ap (λ (ls : List Line). ls ++ back.0) s.said))
