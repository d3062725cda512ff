-- What an answer repeats of its request, and what waits for a reply.
use Rattle.std.specs.Prelude.{ℤ, Bool, false, List, Option, Some, None, find}
use Rattle.std.specs.List.{list_any}
use Rattle.std.specs.Option.{option_map_or}
use Rattle.ipdl_base.specs.declared.line.What.{What}
use Rattle.ipdl_base.specs.declared.line.What.TheVariants as what
use Rattle.ipdl_base.specs.declared.message.Body.{Body}
use Rattle.ipdl_base.specs.declared.message.Body.TheVariants.{Request, Reply, Fault, Goodbye}
use Rattle.ipdl_base.specs.declared.message.Message.{Message}
use Rattle.nesting_core.specs.Frames.{head_of, is_unanswered}
use Rattle.channel_model.specs.Ends.{StackEntry, PromiseEntry}
use Rattle.channel_model.specs.Ends as model
use Rattle.channel_model.specs.Outputs as model_of
use Rattle.channel_model.specs.Refusals.{is_replied_to}
use Rattle.end_parts.specs.declared.reply.AnsweredRequest.{AnsweredRequest}

-- what an answer repeats, in the model's words
abbrev pub answered_of : AnsweredRequest → model_of.AnsweredRequest
answered_of q = record { seq = q.seq; route = q.route; number = q.number; transaction = q.transaction }

-- the line of an answer by a resolver, by its reply
abbrev pub line_of_body : ℤ → Body → What
line_of_body seq (Reply vs) = what.Resolve seq vs
line_of_body seq (Request vs) = what.Reject seq
line_of_body seq (Fault reason) = what.Reject seq
line_of_body seq Goodbye = what.Reject seq

abbrev pub line_of_reply : Message → What
line_of_reply m = line_of_body m.seq m.body

-- what the answer by the resolver of a name repeats, if the name has one
abbrev pub answered_by : model.NameContent → Option model_of.AnsweredRequest
answered_by (model.actor id) = None
answered_by (model.resolver r) = Some (model_of.resolver_answered r)

-- whether the innermost wait of a stack without an answer waits for the reply
abbrev pub is_waited_for_in : List StackEntry → Message → Bool
is_waited_for_in stack m = option_map_or (λ entry. is_replied_to m (head_of entry.frame).seq entry.number entry.route) (find (λ entry. is_unanswered entry.frame) stack) false

-- whether a promise, settled or not, was made for the reply
abbrev pub is_promised_in : List PromiseEntry → Message → Bool
is_promised_in entries m = list_any (λ entry. is_replied_to m entry.promise.seq entry.number entry.promise.actor) entries
