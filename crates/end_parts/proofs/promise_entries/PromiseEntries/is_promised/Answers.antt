use Rattle.std.proofs.Common.{◌≡◌, List, Option, sym, ap, ◌∙◌}
use Rattle.std.specs.Map.{lookup}
use Rattle.std.specs.Ordering.{int_eq}
use Rattle.channel_model.specs.Ends.{PromiseEntry}
use Rattle.end_parts.specs.declared.reply.RequestKey.{RequestKey}
use Rattle.end_parts.specs.Replies.{is_promised_in}
use Rattle.end_parts.proofs.RequestLemmas.{promised-entries, is_that_of}
use Rattle.end_parts.proofs.promise_entries.PromiseEntries.is_promised.Goals as goal
use Rattle.end_parts.proofs.promise_entries.PromiseEntries.is_promised.Goals.{After-get}

-- what is found says whether it is promised
promised : (c : After-get) → is_promised_in c.args.self.now c.args.reply.now ≡ is_that_of c.args.reply.now (lookup (int_eq c.args.reply.now.seq) c.self.inside.requests.entries)
promised c =
    ap (λ (es : List PromiseEntry). is_promised_in es c.args.reply.now) (sym c.self.view_is)
    ∙ promised-entries c.args.reply.now c.self.inside.promises c.self.inside.requests.entries c.self.invariant.0 c.self.invariant.1 c.self.invariant.2

pub returns-in-None : goal.returns-in-None
returns-in-None c =
    sym (promised (goal.at.returns-in-None c).After-get ∙ ap (λ (found : Option RequestKey). is_that_of c.args.reply.now found) (sym c.in-None.ensures.value))

pub returns-in-Some : goal.returns-in-Some
returns-in-Some c =
    c.is_replied_to.ensures ∙ sym (promised (goal.at.returns-in-Some c).After-get ∙ ap (λ (found : Option RequestKey). is_that_of c.args.reply.now found) (sym c.in-Some.ensures.value))
