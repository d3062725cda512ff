-- Worked parts, what fits and what does not, and counts.
use Rattle.std.specs.Prelude.{◌≡◌, ◌+◌, pos, negsuc, true, false, List, [], ◌∷◌, ◌++◌, length, Some, None}
use Rattle.std.proofs.Common.{refl, sym, ap, ◌∙◌}
use Rattle.std.specs.Option.{option_map_or}
use Rattle.ipdl_base.specs.declared.kinds.Level.TheVariants.{Not, InsideCpow}
use Rattle.ipdl_base.specs.declared.kinds.Side.TheVariants as side
use Rattle.ipdl_base.specs.declared.line.What.{What}
use Rattle.ipdl_base.specs.declared.line.What.TheVariants as what
use Rattle.ipdl_base.specs.declared.message.Body.TheVariants.{Request}
use Rattle.ipdl_base.specs.declared.message.Message.{Message}
use Rattle.pending_queue.specs.declared.item.Item.TheVariants as item
use Rattle.promise_table.specs.Promises as promises
use Rattle.channel_model.specs.Acts.{goodbye}
use Rattle.channel_model.specs.Bounds.{unsettled}
use Rattle.channel_model.specs.Ends.{End, Packet, message, opening_end}
use Rattle.channel_model.specs.Events as event
use Rattle.channel_model.specs.Fitting.{FitsItem, FitsPromise, FitsResolver}
use Rattle.channel_model.specs.Outputs.{Output}
use Rattle.channel_model.specs.Parts
use Rattle.channel_model.specs.Parts.{LaterPart, LaterParts, DeliveryPart, drained_end}
use Rattle.channel_model.specs.Phases.{Phase, nobody, deletion, closing, quiet, ending}
use Rattle.channel_model.specs.Steps.{step}
use Rattle.channel_model.proofs.WorkedDeliveries.{trader}
use Rattle.channel_model.proofs.WorkedSchemas.{top, none, waiting, trading, pw_call_p, pw_poke, pshop, pshop_construct}

-- Parts

-- the child as it begins
abbrev child : End
child = opening_end 0 side.Child

-- a goodbye drains the end that gets it
goodbye_drains : DeliveryPart waiting (message goodbye) child (what.DeliverGoodbye ∷ []) [] (drained_end (item.Message goodbye false Not) child) ending
goodbye_drains = Parts.drains (message goodbye) refl

-- a request of a number that the schema does not have
abbrev unknown : Message
unknown = record { route = top; number = 1000; seq = pos 1; transaction = pos 0; made = pos 0; body = Request none }

-- the message prints its line and changes nothing
unknown_passes_by : DeliveryPart waiting (message unknown) child (what.DeliverRequest (pos 1) ∷ []) [] child quiet
unknown_passes_by = Parts.passes_by unknown refl refl

-- nothing is printed, and nothing sent, where nothing more will follow
silent-one : {p q : Phase} {e f : End} {ws : List What} {ps : List Packet} → LaterPart p e ws ps f q → p ≡ quiet → (ws ≡ []) × (ps ≡ []) × (q ≡ quiet)
silent-one (Parts.unnames name may silent) is = let k : true ≡ false = sym may ∙ ap (λ (p : Phase). p.renames) is in cc
silent-one (Parts.lets_go name r may held open_is) is = let k : true ≡ false = sym may ∙ ap (λ (p : Phase). p.renames) is in cc
silent-one (Parts.names more actors) is = (refl, refl, is)
silent-one (Parts.releases seq closed) is = (refl, refl, is)
silent-one (Parts.keeps seq name r held closed) is = (refl, refl, is)
silent-one (Parts.builds id protocol rest fresh built) is = let k : id ∷ rest ≡ [] = sym fresh ∙ ap (λ (p : Phase). p.fresh) is in cc
silent-one (Parts.deletes id due) is = let k : deletion id ≡ nobody = sym due ∙ ap (λ (p : Phase). p.due) is in cc
silent-one (Parts.falls why due) is = let k : closing why ≡ nobody = sym due ∙ ap (λ (p : Phase). p.due) is in cc

quiet_is_silent : {p q : Phase} {e f : End} {ws : List What} {ps : List Packet} → LaterParts p e ws ps f q → p ≡ quiet → (ws ≡ []) × (ps ≡ [])
quiet_is_silent Parts.done is = (refl, refl)
quiet_is_silent (Parts.then {ws} {vs} {ps} {qs} part rest) is =
    let a = silent-one part is in
    let b = quiet_is_silent rest a.2 in
    (ap (λ (xs : List What). xs ++ vs) a.0 ∙ b.0, ap (λ (xs : List Packet). xs ++ qs) a.1 ∙ b.1)

-- What does not fit

-- a promise with a number that is no request's
reply_promise : ¬ FitsPromise waiting (record { promise = promises.made (pos 1) top; number = pw_call_p + 1 })
reply_promise (row, kept, makes) = let k : None ≡ Some row = kept.found in cc

-- a resolver of a sync message
sync_resolver : ¬ FitsResolver waiting (record { seq = negsuc 0; route = top; number = pw_call_p })
sync_resolver (row, kept, makes) = let k = kept.found in cc

-- an async request that has arrived as a sync one
poke_as_a_call : ¬ FitsItem waiting (item.Message (record unknown { number = pw_poke }) true InsideCpow)
poke_as_a_call (fits, flags) = let k = flags refl in cc

-- Counts

-- the trader has the top actor and one more, a promise and a wait
trader_is_to_settle : unsettled trader ≡ 4
trader_is_to_settle = refl

-- its first step made an actor and printed its line: three more than it settled
first_step_adds : option_map_or (λ (output : Output). length output.lines + unsettled output.end) (step trading (opening_end pshop side.Parent) [] (event.send top pshop_construct none None)) 0 ≡ unsettled (opening_end pshop side.Parent) + 3
first_step_adds = refl
