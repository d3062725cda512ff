-- The answer when a handler returns.
use Rattle.std.proofs.Common.{◌≡◌, ℤ, Bool, true, false, ◌&&◌, if◌then◌else◌, List, [], ◌∷◌, ◌++◌, map, Option, Some, None, is_none, refl, sym, ap, append_assoc, ◌∙◌}
use Rattle.std.proofs.lemmas.List.{append-nil}
use Rattle.std.proofs.lemmas.Option.{same_Some}
use Rattle.ipdl_base.specs.declared.kinds.Reason.TheVariants as reason
use Rattle.ipdl_base.specs.declared.kinds.Side.{Side}
use Rattle.ipdl_base.specs.declared.line.What.{What}
use Rattle.ipdl_base.specs.declared.line.What.TheVariants as what
use Rattle.ipdl_base.specs.declared.schema.MessageRow.{MessageRow}
use Rattle.ipdl_base.specs.declared.schema.Schema.{Schema}
use Rattle.ipdl_base.specs.declared.value.Values.{Values}
use Rattle.ipdl_base.specs.declared.value.Values.TheVariants.{Nothing}
use Rattle.nesting_core.specs.declared.frame.Answer.TheVariants as answer
use Rattle.nesting_core.specs.declared.frame.StackFrame.{StackFrame}
use Rattle.nesting_core.specs.declared.frame.StackFrame.TheVariants.{Dispatch, Wait}
use Rattle.nesting_core.specs.Frames.{head_of}
use Rattle.history_reading.specs.declared.parts.CallFrame.{CallFrame}
use Rattle.history_reading.specs.declared.parts.CallFrame.TheVariants as frame
use Rattle.history_reading.specs.declared.parts.HandledRequest.{HandledRequest}
use Rattle.channel_model.specs.Answers as answering
use Rattle.channel_model.specs.Deliveries as delivery
use Rattle.channel_model.specs.Ends.{End, Packet, StackEntry}
use Rattle.channel_model.specs.Events.{Event}
use Rattle.channel_model.specs.Numbers.{is_sync_row, request_row}
use Rattle.channel_model.specs.Outputs as outputs
use Rattle.channel_model.specs.Outputs.{AnsweredRequest, Output, resolver_answered}
use Rattle.channel_model.specs.Parts as parts
use Rattle.channel_model.specs.Parts.{DeliveryPart, FirstPart, LaterParts, OwnParts, reply_lines}
use Rattle.channel_model.specs.Phases.{Phase}
use Rattle.channel_model.specs.Returns as return
use Rattle.channel_model.specs.Sends as send
use Rattle.channel_model.specs.Steps.{step}
use Rattle.channel_laws.specs.Outlines.{placeless, shown_entry}
use Rattle.law_statements.specs.Said.{line_of}
use Rattle.order_statements.specs.Effects.{IsReturned, with_rejection, with_values}
use Rattle.order_statements.proofs.StepLines.{MadeOf, answering-other, drops_or_returns, farewell-other, made-of, of_delivery, of_own, refusal-other, renaming-other, resume-other, send-other, shut-other, unknown-other}

-- A return, with the dispatch that it ends and all that is printed after its line: the answer to a sync request, that
-- of a resolver that is still there, and the actors that fall.
pub record Returned (schema : Schema) (e : End) (n : ℤ) (effects : List What) : Type 0 where
  pub entry : StackEntry
  pub row : MessageRow
  pub values : Option Values
  pub later : List What
  pub on_top : return.dispatch_on_top e.stack ≡ Some entry
  pub found : request_row schema entry.number ≡ Some row
  pub are : effects
      ≡ reply_lines (outputs.is_open e.state && is_sync_row row) (return.dispatch_answered entry) (return.return_answer schema e row entry values)
      ++ (reply_lines (outputs.is_open e.state && entry.resolves) (resolver_answered (answering.resolver_in entry)) (answer.Fault reason.ResolverDestroyed) ++ later)

module _ (schema : Schema) (n : ℤ) where
  -- a first line that is no return
  other-first : {A : Type 0} (w : What) (us vs more : List What) → drops_or_returns w ≡ false → (w ∷ us) ++ vs ≡ what.Return n ∷ more → A
  other-first w us vs more other e = let same : w ≡ what.Return n = cc in let k : false ≡ true = sym other ∙ ap drops_or_returns same in cc

  first-return : {e f g : End} {us vs : List What} {ps qs : List Packet} {p q : Phase} → FirstPart schema e us ps f p → LaterParts p f vs qs g q → (more : List What) → us ++ vs ≡ what.Return n ∷ more → Returned schema e n more
  first-return {vs} (parts.refuses w is) later more e = other-first w [] vs more (refusal-other schema w is) e
  first-return {vs} (parts.renames w is) later more e = other-first w [] vs more (renaming-other w is) e
  first-return (parts.flushes opened) later more e = cc
  first-return {vs} (parts.sends {e = f} row to values name sent) later more e = other-first _ [] vs more (send-other (is_sync_row row) (send.request_of f row to values) values) e
  first-return {vs} (parts.answers by values r row found may accepted used) later more e = other-first _ [] vs more (answering-other r.seq values) e
  first-return (parts.closes opened none) later more e = cc
  first-return (parts.dies opened) later more e = cc
  first-return (parts.dies_silent closed dead) later more e = cc
  first-return (parts.takes m sync level row values next body found stays) later more e = cc
  first-return (parts.drops m sync level row values gone replies next body found missing is) later more e = cc
  first-return (parts.drops_unknown m sync level values next body found) later more e = cc
  first-return (parts.takes_reply m sync level a next body settling) later more e = cc
  first-return (parts.settles m sync level row a next body found awaited) later more e = cc
  first-return {vs} (parts.shuts last next farewell) later more e = other-first _ [] vs more (shut-other last) e
  first-return {vs} (parts.returns {e = f} entry row values told lost is told_is lost_is) later more e =
      let answers : List What = reply_lines told (return.dispatch_answered entry) (return.return_answer schema f row entry values) in
      let loses : List What = reply_lines lost (resolver_answered (answering.resolver_in entry)) (answer.Fault reason.ResolverDestroyed) in
      let lines : (answers ++ loses) ++ vs ≡ more = cc in
      record {
        entry = entry;
        row = row;
        values = values;
        later = vs;
        on_top = is.on_top;
        found = is.found;
        are = sym lines
            ∙ (append_assoc answers loses vs
            ∙ (ap (λ (b : Bool). reply_lines b (return.dispatch_answered entry) (return.return_answer schema f row entry values) ++ (loses ++ vs)) told_is
            ∙ ap (λ (b : Bool). reply_lines (outputs.is_open f.state && is_sync_row row) (return.dispatch_answered entry) (return.return_answer schema f row entry values) ++ (reply_lines b (resolver_answered (answering.resolver_in entry)) (answer.Fault reason.ResolverDestroyed) ++ vs)) lost_is));
      }
  first-return {vs} (parts.resumes {e = f} wait row top found) later more e = other-first _ [] vs more (resume-other wait.seq _) e

  own-return : {e g : End} {ws : List What} {ps : List Packet} {q : Phase} → OwnParts schema e ws ps g q → (more : List What) → ws ≡ what.Return n ∷ more → Returned schema e n more
  own-return (parts.begun first later over) more e = first-return first later more e

  delivery-return : {A : Type 0} {packet : Packet} {e g : End} {ws : List What} {ps : List Packet} {q : Phase} → DeliveryPart schema packet e ws ps g q → (more : List What) → ws ≡ what.Return n ∷ more → A
  delivery-return (parts.gets_request m row vs body found none) more e = cc
  delivery-return (parts.replaces m row vs old sync level replies body found rep is) more e = cc
  delivery-return (parts.gets_answer m row a body found sync) more e = cc
  delivery-return (parts.gets_reply m row a body found sync) more e = cc
  delivery-return (parts.drains {e = f} packet farewell) more e = other-first _ (map what.Fails (delivery.unanswered f)) [] more (farewell-other packet) (append-nil _ ∙ e)
  delivery-return (parts.passes_by m farewell found) more e = other-first _ [] [] more (unknown-other m.seq m.body) e

-- what is printed after the line of a return, in its step
pub return-effects : (schema : Schema) (e : End) (link : List Packet) (ev : Event) (output : Output) → step schema e link ev ≡ Some output → (end : Side) (n : ℤ) (effects : List What) → output.lines ≡ map (line_of end) (what.Return n ∷ effects) → Returned schema e n effects
return-effects schema e link ev output is end n effects at = by (made-of schema e link ev output is end (what.Return n ∷ effects) at)
  where
    by : MadeOf schema e output (what.Return n ∷ effects) → Returned schema e n effects
    by (of_own parts) = own-return schema n parts effects refl
    by (of_delivery packet opened part) = delivery-return schema n part effects refl

-- The dispatch on top

-- the request of a dispatch
abbrev pub request_handled : StackEntry → HandledRequest
request_handled entry = record { seq = (head_of entry.frame).seq; route = entry.route; number = entry.number }

pub dispatch-read : (hs : List CallFrame) (es : List StackEntry) (d : HandledRequest) (below : List CallFrame) (entry : StackEntry) → hs ≡ frame.Dispatch d ∷ below → map placeless hs ≡ map shown_entry es → return.dispatch_on_top es ≡ Some entry
    → request_handled entry ≡ d
dispatch-read hs [] d below entry is shown top = cc
dispatch-read hs (x ∷ es) d below entry is shown top = by x.frame refl (ap (map placeless) (sym is) ∙ shown) top
  where
    by : (f : StackFrame) → x.frame ≡ f → map placeless (frame.Dispatch d ∷ below) ≡ shown_entry (record x { frame = f }) ∷ map shown_entry es → return.dispatch_on_top (record x { frame = f } ∷ es) ≡ Some entry → request_handled entry ≡ d
    by (Dispatch head) e k t =
        let same : record x { frame = Dispatch head } ≡ entry = same_Some _ entry t in
        let shows : frame.Dispatch d ≡ frame.Dispatch (request_handled (record x { frame = Dispatch head })) = cc in
        let request : d ≡ request_handled (record x { frame = Dispatch head }) = cc in
        ap request_handled (sym same) ∙ sym request
    by (Wait head a) e k t = cc

-- The answer to a sync request

given-returned : (schema : Schema) (e : End) (row : MessageRow) (entry : StackEntry) (n : ℤ) (values : Option Values) → IsReturned n (outputs.answer_line n (return.given_answer schema e row entry values))
given-returned schema e row entry n None = with_rejection
given-returned schema e row entry n (Some vs) = by (return.is_bad_return schema e row entry vs)
  where
    by : (b : Bool) → IsReturned n (outputs.answer_line n (if b then answer.Fault reason.HandlerRejected else answer.Ok vs))
    by true = with_rejection
    by false = with_values vs

pub answer-returned : (schema : Schema) (e : End) (row : MessageRow) (entry : StackEntry) (n : ℤ) (values : Option Values) → IsReturned n (outputs.answer_line n (return.return_answer schema e row entry values))
answer-returned schema e row entry n values = by (is_none row.returns)
  where
    by : (b : Bool) → IsReturned n (outputs.answer_line n (if b then answer.Ok Nothing else return.given_answer schema e row entry values))
    by true = with_values Nothing
    by false = given-returned schema e row entry n values
