-- What a half that is fed makes of a frame, and of the mark of a death.
use Rattle.std.proofs.Common.{◌≡◌, ℕ, ◌≤◌, List, [], ◌∷◌, take, length, refl, ap, subst, arith}
use Rattle.std.proofs.lemmas.List.{length-take-le}
use Rattle.ipdl_base.specs.declared.message.Message.{Message}
use Rattle.ipdl_base.specs.declared.schema.Schema.{Schema}
use Rattle.value_types.specs.declared.layout.TheConstants.{NEW}
use Rattle.value_codec.proofs.Cases.{one_spelling}
use Rattle.value_codec.specs.Decoding.{FrameBegins}
use Rattle.channel_model.specs.Ends.{Packet, mark}
use Rattle.channel_model.specs.Events as event
use Rattle.end_parts.proofs.ReadLemmas.{read-broken}
use Rattle.end_parts.specs.declared.packet.Packet.TheVariants.{Broken}
use Rattle.channel_core.specs.declared.answers.DeliverAnswer.TheVariants as delivery
use Rattle.channel_core.specs.Delivered.{answer_to, delivery_answer}
use Rattle.channel_core.specs.EndView.{EndView}
use Rattle.script_steps.specs.Progress.{Progress}
use Rattle.world_core.specs.declared.answers.StepAnswer.{StepAnswer}
use Rattle.world_core.specs.declared.answers.StepAnswer.TheVariants as answer
use Rattle.world_core.specs.declared.feeding.FeedTrace.{FeedTrace}
use Rattle.world_core.specs.Feeding.{BreakGives, StoreGives}
use Rattle.world_core.specs.HalfSteps.{IsHalfDelivery, IsHalfStep}
use Rattle.world_core.specs.HalfView.{HalfView}

-- a frame that begins bytes has its header, and ends among them
pub frame-fits : (schema : Schema) (bytes : List ℕ) (m : Message) (n : ℕ) → FrameBegins NEW schema bytes m n → (28 ≤ n) × (n ≤ length bytes)
frame-fits schema bytes m n begins =
    let within : n ≤ length bytes = begins.within in
    let taken : length (take n bytes) ≡ n = length-take-le n bytes within in
    let long = one_spelling.size NEW schema m (take n bytes) begins.frame in
    (omega (arith, taken, long), within)

-- no end refuses the mark
pub mark-accepted : (seen : EndView) → delivery_answer seen Broken ≡ delivery.Done
unfolding delivery_answer
mark-accepted seen = ap (answer_to seen) (read-broken seen.schema Broken refl)

pub mark-steps : (half : HalfView) (progress : Progress) (between : HalfView) → IsHalfDelivery half progress Broken between → IsHalfStep half progress (mark ∷ []) event.deliver between
mark-steps half progress between d =
    let same : d.carries ≡ mark = (let told = d.is_read in let known = read-broken half.end.schema Broken refl in cc) in
    subst (λ (p : Packet). IsHalfStep half progress (p ∷ []) event.deliver between) same d.steps

-- the mark was delivered, and the lines of that were stored
pub break-gives : (half : HalfView) (progress : Progress) (between half' : HalfView) (trace trace' : FeedTrace) (a : StepAnswer) → IsHalfDelivery half progress Broken between → StoreGives between trace a half' trace' → BreakGives half progress trace a half' trace'
break-gives half progress between half' trace trace' answer.Did d h = record { between = between; steps = mark-steps half progress between d; stored = h }
break-gives half progress between half' trace trace' answer.Nothing d h = h
break-gives half progress between half' trace trace' (answer.Spent side) d h = h
break-gives half progress between half' trace trace' answer.NoMemory d h = tt
