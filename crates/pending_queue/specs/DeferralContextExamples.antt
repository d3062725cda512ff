use Rattle.std.specs.Prelude.{◌≡◌, ℤ, pos, negsuc, Bool, true, false, Some, None, refl}
use Rattle.ipdl_base.specs.declared.kinds.Level.{Level}
use Rattle.ipdl_base.specs.declared.kinds.Level.TheVariants.{Not, InsideSync, InsideCpow}
use Rattle.ipdl_base.specs.declared.kinds.Side.{Side}
use Rattle.ipdl_base.specs.declared.kinds.Side.TheVariants.{Parent, Child}
use Rattle.ipdl_base.specs.declared.message.Body.{Body}
use Rattle.ipdl_base.specs.declared.message.Body.TheVariants.{Request, Reply, Goodbye}
use Rattle.ipdl_base.specs.declared.value.Values.{Nothing}
use Rattle.pending_queue.specs.declared.deferral_context.DeferralContext.{DeferralContext}
use Rattle.pending_queue.specs.declared.item.Item.{Item}
use Rattle.pending_queue.specs.declared.item.Item.TheVariants.{Message, Broken}
use Rattle.pending_queue.specs.DeferralContext.{defers_item}

abbrev arrived : Body → Bool → Level → ℤ → Item
arrived body sync level transaction = Message (record { route = pos 2; number = 0; seq = pos 1; transaction = transaction; made = pos 0; body = body }) sync level

-- an end of this side that awaits a reply of level 1 in the transaction 7
abbrev awaits : Side → DeferralContext
awaits side = record { side = side; level = Some InsideSync; transaction = pos 7 }

async_request : defers_item (awaits Child) (arrived (Request Nothing) false InsideSync (pos 0)) ≡ true
async_request = refl

promise_reply : defers_item (awaits Child) (arrived (Reply Nothing) false InsideCpow (pos 0)) ≡ true
promise_reply = refl

highest_level : defers_item (awaits Parent) (arrived (Request Nothing) false InsideCpow (pos 0)) ≡ false
highest_level = refl

lower_level : defers_item (awaits Child) (arrived (Request Nothing) true Not (pos 7)) ≡ true
lower_level = refl

own_level_at_the_child : defers_item (awaits Child) (arrived (Request Nothing) true InsideSync (negsuc 2)) ≡ false
own_level_at_the_child = refl

own_level_of_another_transaction : defers_item (awaits Parent) (arrived (Request Nothing) true InsideSync (negsuc 2)) ≡ true
own_level_of_another_transaction = refl

own_level_of_its_transaction : defers_item (awaits Parent) (arrived (Request Nothing) true InsideSync (pos 7)) ≡ false
own_level_of_its_transaction = refl

goodbye : defers_item (awaits Parent) (arrived Goodbye false Not (pos 0)) ≡ false
goodbye = refl

mark : defers_item (awaits Parent) Broken ≡ false
mark = refl

nothing_awaited : defers_item (record { side = Parent; level = None; transaction = pos 0 }) (arrived (Reply Nothing) false Not (pos 0)) ≡ false
nothing_awaited = refl
