use Rattle.std.specs.Prelude.{ℤ, Bool, not, cond, List, [], ◌∷◌, Some}
use Rattle.ipdl_base.specs.Deferral.{Arrival, request, reply, goodbye, mark, defers_arrival}
use Rattle.ipdl_base.specs.declared.kinds.Level.{Level}
use Rattle.ipdl_base.specs.declared.message.Body.{Body}
use Rattle.ipdl_base.specs.declared.message.Body.TheVariants.{Request, Reply, Fault, Goodbye}
use Rattle.pending_queue.specs.declared.deferral_context.DeferralContext.{DeferralContext}
use Rattle.pending_queue.specs.declared.item.Item.{Item}
use Rattle.pending_queue.specs.declared.item.Item.TheVariants.{Message, Broken}

-- what a message is as it arrives, by its sync, level, transaction and body: a request, the reply or
-- fault that answers one, or a goodbye
abbrev pub arrival_of_body : Bool → Level → ℤ → Body → Arrival
arrival_of_body sync level transaction (Request values) = request sync level transaction
arrival_of_body sync level transaction (Reply values) = reply sync
arrival_of_body sync level transaction (Fault reason) = reply sync
arrival_of_body sync level transaction Goodbye = goodbye

-- what an item is as it arrives: what its message is, or the mark that the other end has died
abbrev pub arrival_of : Item → Arrival
arrival_of Broken = mark
arrival_of (Message m sync level) = arrival_of_body sync level m.transaction m.body

-- whether an item is deferred by what is awaited
abbrev pub defers_item : DeferralContext → Item → Bool
defers_item h item = defers_arrival h.side h.level (Some h.transaction) (arrival_of item)

-- whether an item may be taken now
abbrev pub is_free : DeferralContext → Item → Bool
is_free h item = not (defers_item h item)

-- the items but the first that passes
abbrev pub without_first : (Item → Bool) → List Item → List Item
without_first test [] = []
without_first test (x ∷ xs) = cond (test x) xs (x ∷ without_first test xs)
