-- What steps of both sides make of the states of both.
use Rattle.std.proofs.Common.{◌≡◌, true, false, List, [], refl, sym, ap, subst, ◌∙◌}
use Rattle.ipdl_base.specs.declared.kinds.Side.{Side}
use Rattle.ipdl_base.specs.declared.kinds.Side.TheVariants as sides
use Rattle.ordered_queue.specs.InOrder.{first_view, popping_part, pushing_part, whole}
use Rattle.relay_history.specs.Stamps.{begins}
use Rattle.relay_runs.specs.HalfRuns.{opening_half}
use Rattle.script_steps.specs.Choices.{Setting}
use Rattle.world_core.specs.declared.answers.RunAnswer.{RunAnswer}
use Rattle.world_core.specs.declared.answers.RunAnswer.TheVariants as run
use Rattle.world_core.specs.declared.answers.StepAnswer.{StepAnswer}
use Rattle.world_core.specs.declared.answers.StepAnswer.TheVariants as answer
use Rattle.world_core.specs.HalfView.{HalfView, setting_of}
use Rattle.world_core.specs.Relaying.{GoesApart}
use Rattle.queue_link.proofs.Stamping.{work-stamps}
use Rattle.queue_link.specs.declared.packets.StampedPacket.{StampedPacket}
use Rattle.queue_link.specs.Work.{BothWorked, IsAtWork, IsResting, IsSpent, OneIsSpent, PacketView, RoundGives, StandsSomehow, StepGives, WorkEnds, is_over, of_both, of_round}

-- nothing but what was pushed, or what was popped, is another
abbrev pub OnlyPushed : PacketView → PacketView → Type 0
OnlyPushed before after = after ≡ record before { pushed = after.pushed }

abbrev pub OnlyPopped : PacketView → PacketView → Type 0
OnlyPopped before after = after ≡ record before { popped = after.popped }

module _ (setting : Setting) where
  module _ (side : Side) (half : HalfView) where
    -- what holds of lists of packets holds of the same lists
    moved : (F : List StampedPacket → List StampedPacket → Type 0) (pushed pushed' popped popped' : List StampedPacket) → pushed' ≡ pushed → popped' ≡ popped → F pushed popped → F pushed' popped'
    moved F pushed pushed' popped popped' same_pushed same_popped f = subst (λ (ps : List StampedPacket). F ps popped') (sym same_pushed) (subst (λ (ps : List StampedPacket). F pushed ps) (sym same_popped) f)

    at-work : (pushed pushed' popped popped' : List StampedPacket) → pushed' ≡ pushed → popped' ≡ popped → IsAtWork setting side pushed popped half → IsAtWork setting side pushed' popped' half
    at-work = moved (λ pushed popped. IsAtWork setting side pushed popped half)

    spent : (pushed pushed' popped popped' : List StampedPacket) → pushed' ≡ pushed → popped' ≡ popped → IsSpent setting side pushed popped half → IsSpent setting side pushed' popped' half
    spent = moved (λ pushed popped. IsSpent setting side pushed popped half)

    somehow : (pushed pushed' popped popped' : List StampedPacket) → pushed' ≡ pushed → popped' ≡ popped → StandsSomehow setting side pushed popped half → StandsSomehow setting side pushed' popped' half
    somehow = moved (λ pushed popped. StandsSomehow setting side pushed popped half)

    work-somehow : (pushed popped : List StampedPacket) → IsAtWork setting side pushed popped half → StandsSomehow setting side pushed popped half
    work-somehow pushed popped work = record { in_hands = []; stands = work }

    spent-somehow : (pushed popped : List StampedPacket) → IsSpent setting side pushed popped half → StandsSomehow setting side pushed popped half
    spent-somehow pushed popped is = record { in_hands = is.in_hands; stands = is.stands }

  module _ (parent parent' child : HalfView) (down down' up up' : PacketView) (pushes : OnlyPushed down down') (pops : OnlyPopped up up') where
    -- the child is as it was, after a step of the parent
    pub child-stays : IsAtWork setting sides.Child up.pushed down.popped child → IsAtWork setting sides.Child up'.pushed down'.popped child
    child-stays work = at-work sides.Child child up.pushed up'.pushed down.popped down'.popped (ap (λ (v : PacketView). v.pushed) pops) (ap (λ (v : PacketView). v.popped) pushes) work

    -- a step of the parent that ends the run
    pub first-over : (first : StepAnswer) → is_over first ≡ true → IsAtWork setting sides.Child up.pushed down.popped child → StepGives setting sides.Parent down up first down' up' parent' → RoundGives setting down' up' first parent' child
    first-over answer.Did over work gives = cc
    first-over answer.Nothing over work gives = cc
    first-over (answer.Spent at) over work gives =
        subst (λ (s : Side). OneIsSpent setting down' up' s parent' child) (sym gives.0) (gives.1, work-somehow sides.Child child up'.pushed down'.popped (child-stays work))
    first-over answer.NoMemory over work gives = tt

  -- a parent that was at work is still so, after a step of the child
  module _ (parent child' : HalfView) (down down' up up' : PacketView) (pushes : OnlyPushed up up') (pops : OnlyPopped down down') where
    parent-stays : IsAtWork setting sides.Parent down.pushed up.popped parent → IsAtWork setting sides.Parent down'.pushed up'.popped parent
    parent-stays work = at-work sides.Parent parent down.pushed down'.pushed up.popped up'.popped (ap (λ (v : PacketView). v.pushed) pops) (ap (λ (v : PacketView). v.popped) pushes) work

    following-work : (first second : StepAnswer) → is_over first ≡ false → IsAtWork setting sides.Parent down.pushed up.popped parent → StepGives setting sides.Child up down second up' down' child' → ((second ≡ answer.Nothing) → first ≡ answer.Did)
        → RoundGives setting down' up' (of_round first second) parent child'
    following-work answer.Did answer.Did over work gives did = (parent-stays work, gives)
    following-work answer.Did answer.Nothing over work gives did = (parent-stays work, gives.2.work)
    following-work answer.Did (answer.Spent at) over work gives did =
        subst (λ (s : Side). OneIsSpent setting down' up' s parent child') (sym gives.0) (work-somehow sides.Parent parent down'.pushed up'.popped (parent-stays work), gives.1)
    following-work answer.Did answer.NoMemory over work gives did = tt
    following-work answer.Nothing answer.Did over work gives did = (parent-stays work, gives)
    following-work answer.Nothing answer.Nothing over work gives did =
        let no : answer.Nothing ≡ answer.Did = did refl in
        cc
    following-work answer.Nothing (answer.Spent at) over work gives did =
        subst (λ (s : Side). OneIsSpent setting down' up' s parent child') (sym gives.0) (work-somehow sides.Parent parent down'.pushed up'.popped (parent-stays work), gives.1)
    following-work answer.Nothing answer.NoMemory over work gives did = tt
    following-work (answer.Spent at) second over work gives did = cc
    following-work answer.NoMemory second over work gives did = cc

    following-rest : (second : StepAnswer) → IsResting setting sides.Parent down.pushed up parent → StepGives setting sides.Child up down second up' down' child' → RoundGives setting down' up' (of_round answer.Nothing second) parent child'
    following-rest answer.Did rest gives = following-work answer.Nothing answer.Did refl rest.work gives (λ e. cc)
    following-rest answer.Nothing rest gives = (
      subst (λ (v : PacketView). IsResting setting sides.Parent v.pushed up' parent) (sym gives.1) (subst (λ (v : PacketView). IsResting setting sides.Parent down.pushed v parent) (sym gives.0) rest),
      gives.2,
    )
    following-rest (answer.Spent at) rest gives = following-work answer.Nothing (answer.Spent at) refl rest.work gives (λ e. cc)
    following-rest answer.NoMemory rest gives = tt

    -- a step of the child after a step of the parent
    pub round-gives : (before_down before_up : PacketView) (first second : StepAnswer) → is_over first ≡ false → StepGives setting sides.Parent before_down before_up first down up parent → StepGives setting sides.Child up down second up' down' child'
        → RoundGives setting down' up' (of_round first second) parent child'
    round-gives before_down before_up answer.Did second over first_gives gives = following-work answer.Did second over first_gives gives (λ e. refl)
    round-gives before_down before_up answer.Nothing second over first_gives gives = following-rest second first_gives.2 gives
    round-gives before_down before_up (answer.Spent at) second over first_gives gives = cc
    round-gives before_down before_up answer.NoMemory second over first_gives gives = cc

  -- A side begins to work with passes that were made of two new ones.
  pub begins-work : (side : Side) (half : HalfView) → GoesApart setting side (opening_half setting side) [] half → (pushing popping out incoming : PacketView) → pushing ≡ pushing_part out → out ≡ first_view → popping ≡ popping_part incoming → incoming ≡ first_view
      → (pushing.pushes ≡ true) × (popping.pops ≡ true) × IsAtWork (setting_of half) side pushing.pushed popping.popped half
  begins-work side half goes pushing popping out incoming pushes new pops new' =
      let begun : IsAtWork setting side [] [] half =
      record { state = opening_half setting side; goes = goes; pushes = refl; pops = record { is = refl; reads = tt }; stamps = work-stamps setting side (opening_half setting side) [] [] begins } in
      let pushed : pushing.pushed ≡ [] = ap (λ (v : PacketView). v.pushed) pushes ∙ ap (λ (v : PacketView). v.pushed) new in
      let popped : popping.popped ≡ [] = ap (λ (v : PacketView). v.popped) pops ∙ ap (λ (v : PacketView). v.popped) new' in (
        ap (λ (v : PacketView). v.pushes) pushes,
        ap (λ (v : PacketView). v.pops) pops,
        subst (λ (s : Setting). IsAtWork s side pushing.pushed popping.popped half) (sym goes.about) (at-work side half [] pushing.pushed [] popping.popped pushed popped begun),
      )

  -- what results from the work of both
  module _ (parent child : HalfView) (down up : PacketView) where
    pub both-worked : (first second : RunAnswer) → WorkEnds setting sides.Parent down.pushed up.popped first parent → WorkEnds setting sides.Child up.pushed down.popped second child → BothWorked setting down up (of_both first second) parent child
    both-worked run.NoMemory second p c = tt
    both-worked run.Finished run.Finished p c = (p, c)
    both-worked run.Finished (run.Spent at) p c = subst (λ (s : Side). OneIsSpent setting down up s parent child) (sym c.0) (work-somehow sides.Parent parent down.pushed up.popped p, c.1)
    both-worked run.Finished run.NoMemory p c = tt
    both-worked (run.Spent at) run.Finished p c = subst (λ (s : Side). OneIsSpent setting down up s parent child) (sym p.0) (p.1, work-somehow sides.Child child up.pushed down.popped c)
    both-worked (run.Spent at) (run.Spent other) p c = subst (λ (s : Side). OneIsSpent setting down up s parent child) (sym p.0) (p.1, spent-somehow sides.Child child up.pushed down.popped c.1)
    both-worked (run.Spent at) run.NoMemory p c = tt

  -- the same, where the passes were joined after the work
  module _ (parent child : HalfView) (of_parent of_child : Setting) (same : of_parent ≡ setting) (same' : of_child ≡ setting) where
    pub worked-so : (down up pushing_down popping_down pushing_up popping_up : PacketView) → down ≡ whole pushing_down popping_down → up ≡ whole pushing_up popping_up → (first second : RunAnswer)
        → WorkEnds of_parent sides.Parent pushing_down.pushed popping_up.popped first parent → WorkEnds of_child sides.Child pushing_up.pushed popping_down.popped second child → (told : RunAnswer) → told ≡ of_both first second → BothWorked setting down up told parent child
    worked-so down up pushing_down popping_down pushing_up popping_up is_down is_up first second p c told is =
        subst (λ (t : RunAnswer). BothWorked setting down up t parent child) (sym is)
        (subst (λ (v : PacketView). BothWorked setting v up (of_both first second) parent child) (sym is_down)
        (subst (λ (v : PacketView). BothWorked setting (whole pushing_down popping_down) v (of_both first second) parent child) (sym is_up)
        (both-worked parent child (whole pushing_down popping_down) (whole pushing_up popping_up) first second
        (subst (λ (s : Setting). WorkEnds s sides.Parent pushing_down.pushed popping_up.popped first parent) same p)
        (subst (λ (s : Setting). WorkEnds s sides.Child pushing_up.pushed popping_down.popped second child) same' c))))
