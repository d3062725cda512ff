-- Answers by resolvers, as the code makes them.
use Rattle.std.proofs.Common.{◌≡◌, ℕ, ◌<◌, ℤ, Bool, true, false, ◌==◌, cond, List, [], Option, Some, None, option_and_then, refl, ap, sym, subst, ◌∙◌, arith}
use Rattle.std.specs.Option.{option_map, option_copied, IfSome}
use denote.Bor.{Bor}
use Rattle.std.proofs.lemmas.Bool.{eqb-true}
use Rattle.std.proofs.lemmas.Option.{same_Some}
use Rattle.ipdl_base.specs.declared.kinds.SendRefusal.{SendRefusal}
use Rattle.ipdl_base.specs.declared.line.What.{What}
use Rattle.ipdl_base.specs.declared.message.Message.{Message}
use Rattle.ipdl_base.specs.declared.value.Values.{Values}
use Rattle.ipdl_base.specs.Plain.{plain_message}
use Rattle.ipdl_base.specs.Sound.{message_of}
use Rattle.value_types.proofs.Boxes.{fits}
use Rattle.channel_model.specs.Answers.{answering_line, handled_resolver, refused_line, released, resolver_of, resolver_used}
use Rattle.channel_model.specs.Ends.{End, NameContent, actor, resolver, Naming, Resolver, StackEntry, message}
use Rattle.channel_model.specs.Events.{Answering, handled, kept}
use Rattle.channel_model.specs.Events as event
use Rattle.channel_model.specs.Names.{held_by_name, without_name}
use Rattle.channel_model.specs.Numbers.{request_row}
use Rattle.channel_model.specs.Outputs.{AnsweredRequest, beginning, line_at, put, resolver_answered}
use Rattle.channel_model.specs.Steps.{step}
use Rattle.channel_model.proofs.SendParts.{request-number}
use Rattle.end_parts.specs.OutputView.{OutputView}
use Rattle.end_parts.specs.declared.reply.AnsweredRequest.{AnsweredRequest as Answered}
use Rattle.end_parts.specs.Replies.{answered_of, line_of_reply}
use Rattle.end_steps.proofs.RenamingLemmas.{request-small}
use Rattle.channel_core.specs.declared.answers.NamedAnswer.{NamedAnswer}
use Rattle.channel_core.specs.declared.answers.NamedAnswer.TheVariants as answer
use Rattle.channel_core.specs.Answers.{AnswerGives}
use Rattle.channel_core.specs.declared.end.answering.ReplyCheck.{ReplyCheck}
use Rattle.channel_core.specs.declared.end.answering.ReplyCheck.TheVariants.{Accepted, Refused}
use Rattle.channel_core.specs.Inside.{IsInside}
use Rattle.channel_core.specs.ResolverReplies.{FitsCheck, HasReplied, HasReserved, HasSaid, IsPushed, IsReplyCheck, names_answered, reply_by, reply_refusal, stack_answered}
use Rattle.channel_core.specs.Room.{waits_in}
use Rattle.channel_core.specs.EndView.{EndView, frame_packet}
use Rattle.channel_core.specs.Steps.{MayAnswer}
use Rattle.channel_core.specs.Tracks.{Tracks}
use Rattle.channel_core.proofs.ActLemmas.{acted, acted_end, Acts, replied-acts, reserved-inside, said-acts, waits-released}
use Rattle.channel_core.proofs.MadeLemmas.{seen_as}
use Rattle.channel_core.proofs.FrameLemmas.{message-again}
use Rattle.channel_core.proofs.ReplyLemmas.{Refuses, Sends, line-answering, refuses, row-handled, row-kept, sends}

-- Checks

-- what a check has found is what the definitions give
abbrev pub IsFound : EndView → Answering → Option Values → ReplyCheck → Type 0
IsFound v by vs (Refused cause) = Refuses v by vs cause
IsFound v by vs (Accepted m) = Sends v by vs (plain_message m)

found-checked : (v : EndView) (by : Answering) (number : ℕ) (q : Option AnsweredRequest) (vs : Option Values) (check : ReplyCheck) (out : OutputView) (may : MayAnswer v by vs) → IsInside v.schema v.end out → message_of v.schema number ≡ Some may.row → q ≡ option_map resolver_answered (resolver_used v.end by)
    → IsReplyCheck v number q vs check → IsFound v by vs check
found-checked v by number q vs (Refused cause) out may inside found e check = refuses v by vs cause number may found (ap (λ (x : Option AnsweredRequest). reply_refusal v number x vs) (sym e) ∙ check)
found-checked v by number q vs (Accepted m) out may inside found e check =
    sends v by vs (plain_message m) number may inside.sound inside.kept.fitting found (ap (λ (x : Option AnsweredRequest). reply_refusal v number x vs) (sym e) ∙ check.0) (ap (λ (x : Option AnsweredRequest). reply_by x vs) (sym e) ∙ check.1) (message-again m)

-- the message of a resolver, by what the answer by it repeats
pub message-handled : (v : EndView) (r : Resolver) (q : AnsweredRequest) (vs : Option Values) (may : MayAnswer v (handled r.seq) vs) → handled_resolver v.end r.seq ≡ Some r → q ≡ resolver_answered r → request_row v.schema q.number ≡ Some may.row
message-handled v r q vs may own e = ap (λ (x : AnsweredRequest). request_row v.schema x.number) e ∙ row-handled v.schema v.end r may.row own may.found

used-handled : (v : EndView) (r : Resolver) (q : AnsweredRequest) → handled_resolver v.end r.seq ≡ Some r → q ≡ resolver_answered r → Some q ≡ option_map resolver_answered (resolver_used v.end (handled r.seq))
used-handled v r q own e = ap (λ (x : AnsweredRequest). Some x) e ∙ sym (ap (λ (x : Option Resolver). option_map resolver_answered x) own)

pub found-handled : (v : EndView) (r : Resolver) (q : AnsweredRequest) (vs : Option Values) (check : ReplyCheck) (out : OutputView) → MayAnswer v (handled r.seq) vs → handled_resolver v.end r.seq ≡ Some r → q ≡ resolver_answered r → IsInside v.schema v.end out
    → IsReplyCheck v q.number (Some q) vs check → IsFound v (handled r.seq) vs check
found-handled v r q vs check out may own e inside is =
    found-checked v (handled r.seq) q.number (Some q) vs check out may inside (request-number v.schema q.number may.row (message-handled v r q vs may own e)).1 (used-handled v r q own e) is

pub found-kept : (v : EndView) (name : List ℕ) (number : ℕ) (q : Option AnsweredRequest) (vs : Option Values) (check : ReplyCheck) (out : OutputView) → MayAnswer v (kept name number) vs → q ≡ option_map resolver_answered (resolver_used v.end (kept name number)) → IsInside v.schema v.end out
    → IsReplyCheck v number q vs check → IsFound v (kept name number) vs check
found-kept v name number q vs check out may e inside is =
    found-checked v (kept name number) number q vs check out may inside (request-number v.schema number may.row (row-kept v.schema v.end name number may.row may.found)).1 e is

-- a reply that is accepted fits, wherever its boxes lie
pub found-fits : (v : EndView) (by : Answering) (vs : Option Values) (check : ReplyCheck) → IsFound v by vs check → FitsCheck v.schema check
found-fits v by vs (Refused cause) found = tt
found-fits v by vs (Accepted m) found = (fits v.schema m).0 found.framed.frame.fits

-- the request by the resolver that a name holds has a number far below the greatest
kept-small : (v : EndView) (name : List ℕ) (number : ℕ) (q : AnsweredRequest) (vs : Option Values) (out : OutputView) → MayAnswer v (kept name number) vs → Some q ≡ option_map resolver_answered (resolver_used v.end (kept name number)) → IsInside v.schema v.end out → q.number < 4294967295
kept-small v name number q vs out may e inside = by (held_by_name name v.end.names) e
  where
    at : (b : Bool) (r : Resolver) → (r.number == number) ≡ b → Some q ≡ option_map resolver_answered (cond b (Some r) None) → q.number < 4294967295
    at true r is e =
        let number_is : q.number ≡ r.number = ap (λ (x : AnsweredRequest). x.number) (same_Some q (resolver_answered r) e) in
        let same : r.number ≡ number = eqb-true r.number number is in
        let small = request-small v.schema number may.row inside.sound (row-kept v.schema v.end name number may.row may.found) in
        omega (arith, number_is, same, small)
    at false r is e = cc

    by : (content : Option NameContent) → Some q ≡ option_map resolver_answered (option_and_then (resolver_of number) content) → q.number < 4294967295
    by None e = cc
    by (Some (actor id)) e = cc
    by (Some (resolver r)) e = at (r.number == number) r refl e

-- what the answer repeats, behind a reference
pub answered-following : (o : Option (Bor Answered)) (q : Option Answered) → option_copied o ≡ q → option_map (λ (b : Bor Answered). answered_of b.now) o ≡ option_map answered_of q
answered-following None q e = ap (option_map answered_of) e
answered-following (Some b) q e = ap (option_map answered_of) e

pub kept-small-following : (v : EndView) (name : List ℕ) (number : ℕ) (o : Option (Bor Answered)) (vs : Option Values) (out : OutputView) → MayAnswer v (kept name number) vs → option_map (λ (b : Bor Answered). answered_of b.now) o ≡ option_map resolver_answered (resolver_used v.end (kept name number))
    → IsInside v.schema v.end out → IfSome o (λ b. b.now.number < 4294967295)
kept-small-following v name number None vs out may e inside = tt
kept-small-following v name number (Some b) vs out may e inside = kept-small v name number (answered_of b.now) vs out may e inside

-- What is made

-- the line of an answer
line-sent : (v : EndView) (by : Answering) (vs : Option Values) (m : Message) (s : Sends v by vs m) → line_of_reply m ≡ answering_line s.r.seq vs
line-sent v by vs m s = ap line_of_reply (sym s.is) ∙ line-answering (resolver_answered s.r) vs

-- an answer by the resolver of a handler
handled-acts : (v : EndView) (seq : ℤ) (vs : Option Values) (m : Message) (stack : List StackEntry) (out out' : OutputView) → Sends v (handled seq) vs m → Tracks v (beginning v.end) out → IsInside v.schema v.end out
    → HasReplied (line_at v.end.side (line_of_reply m)) (frame_packet v.schema m) out out' → stack ≡ released seq v.end.stack → Acts v (event.answer (handled seq) vs) (acted_end v stack v.end.names out') out'
handled-acts v seq vs m stack out out' s t inside h e =
    let said : What = answering_line s.r.seq vs in
    let steps : step v.schema v.end [] (event.answer (handled seq) vs) ≡ Some (put (message m) (acted v said stack v.end.names)) =
    s.steps ∙ ap (λ (x : Message). Some (put (message x) (acted v said (released seq v.end.stack) v.end.names))) s.is ∙ ap (λ (es : List StackEntry). Some (put (message m) (acted v said es v.end.names))) (sym e) in
    let replied = subst (λ (w : What). HasReplied (line_at v.end.side w) (frame_packet v.schema m) out out') (line-sent v (handled seq) vs m s) h in
    replied-acts v (event.answer (handled seq) vs) said stack v.end.names m out out' steps s.framed (ap waits_in e ∙ waits-released seq v.end.stack) t inside replied

-- an answer by the resolver that a name holds
kept-acts : (v : EndView) (name : List ℕ) (number : ℕ) (vs : Option Values) (m : Message) (names : List Naming) (out out' : OutputView) → Sends v (kept name number) vs m → Tracks v (beginning v.end) out → IsInside v.schema v.end out
    → HasReplied (line_at v.end.side (line_of_reply m)) (frame_packet v.schema m) out out' → names ≡ without_name name v.end.names → Acts v (event.answer (kept name number) vs) (acted_end v v.end.stack names out') out'
kept-acts v name number vs m names out out' s t inside h e =
    let said : What = answering_line s.r.seq vs in
    let steps : step v.schema v.end [] (event.answer (kept name number) vs) ≡ Some (put (message m) (acted v said v.end.stack names)) =
    s.steps ∙ ap (λ (x : Message). Some (put (message x) (acted v said v.end.stack (without_name name v.end.names)))) s.is ∙ ap (λ (ns : List Naming). Some (put (message m) (acted v said v.end.stack ns))) (sym e) in
    let replied = subst (λ (w : What). HasReplied (line_at v.end.side w) (frame_packet v.schema m) out out') (line-sent v (kept name number) vs m s) h in
    replied-acts v (event.answer (kept name number) vs) said v.end.stack names m out out' steps s.framed refl t inside replied

-- What an answer shows: what it gives, and that the invariant is kept.
pub record Answers (v : EndView) (by : Answering) (vs : Option Values) (given : NamedAnswer) (e : End) (out : OutputView) : Type 0 where
  pub inside : IsInside v.schema e out
  pub gives : AnswerGives v by vs given (seen_as v e out)

-- no memory
answers-nothing : (v : EndView) (by : Answering) (vs : Option Values) (out out' : OutputView) → out.lines ≡ v.lines → out.packets ≡ v.packets → Tracks v (beginning v.end) out → IsInside v.schema v.end out → HasReserved out out' → Answers v by vs answer.NoMemory (acted_end v v.end.stack v.end.names out') out'
answers-nothing v by vs out out' l p t inside h =
    let lines : out'.lines ≡ v.lines = ap (λ (g : OutputView). g.lines) h.same ∙ l in
    let packets : out'.packets ≡ v.packets = ap (λ (g : OutputView). g.packets) h.same ∙ p in
    let outbox : out'.outbox ≡ v.end.outbox = ap (λ (g : OutputView). g.outbox) h.same ∙ t.outbox in
    record { inside = reserved-inside v out out' t inside h; gives = rw (lines, packets, outbox) refl }

-- a refusal
answers-refused : (v : EndView) (by : Answering) (vs : Option Values) (cause told : SendRefusal) (out out' : OutputView) → Refuses v by vs cause → told ≡ cause → Tracks v (beginning v.end) out → IsInside v.schema v.end out → HasSaid (line_at v.end.side (refused_line cause vs)) out out'
    → Answers v by vs (answer.Refused told) (acted_end v v.end.stack v.end.names out') out'
answers-refused v by vs cause told out out' r e t inside h =
    let did = said-acts v (event.answer by vs) (refused_line cause vs) out out' r.steps t inside h in
    record { inside = did.inside; gives = (r.refused ∙ ap Some (sym e), did.steps) }

-- an answer by the resolver of a handler, whatever was found
pub handled-answers : (v : EndView) (seq : ℤ) (vs : Option Values) (check : ReplyCheck) (given : NamedAnswer) (stack : List StackEntry) (out out' : OutputView) → out.lines ≡ v.lines → out.packets ≡ v.packets → IsFound v (handled seq) vs check → Tracks v (beginning v.end) out → IsInside v.schema v.end out
    → IsPushed v.schema v.end.side vs check out given out' → stack ≡ stack_answered given seq v.end.stack → Answers v (handled seq) vs given (acted_end v stack v.end.names out') out'
handled-answers v seq vs (Refused cause) answer.Sent stack out out' l p found t inside h e = absurd h
handled-answers v seq vs (Refused cause) (answer.Refused told) stack out out' l p found t inside h e =
    subst (λ (es : List StackEntry). Answers v (handled seq) vs (answer.Refused told) (acted_end v es v.end.names out') out') (sym e) (answers-refused v (handled seq) vs cause told out out' found h.0 t inside h.1)
handled-answers v seq vs (Refused cause) answer.NoMemory stack out out' l p found t inside h e =
    subst (λ (es : List StackEntry). Answers v (handled seq) vs answer.NoMemory (acted_end v es v.end.names out') out') (sym e) (answers-nothing v (handled seq) vs out out' l p t inside h)
handled-answers v seq vs (Accepted m) answer.Sent stack out out' l p found t inside h e =
    let did = handled-acts v seq vs (plain_message m) stack out out' found t inside h e in
    record { inside = did.inside; gives = (found.accepted, did.steps) }
handled-answers v seq vs (Accepted m) (answer.Refused told) stack out out' l p found t inside h e = absurd h
handled-answers v seq vs (Accepted m) answer.NoMemory stack out out' l p found t inside h e =
    subst (λ (es : List StackEntry). Answers v (handled seq) vs answer.NoMemory (acted_end v es v.end.names out') out') (sym e) (answers-nothing v (handled seq) vs out out' l p t inside h)

-- an answer by the resolver that a name holds, whatever was found
pub kept-answers : (v : EndView) (name : List ℕ) (number : ℕ) (vs : Option Values) (check : ReplyCheck) (given : NamedAnswer) (names : List Naming) (out out' : OutputView) → out.lines ≡ v.lines → out.packets ≡ v.packets → IsFound v (kept name number) vs check → Tracks v (beginning v.end) out → IsInside v.schema v.end out
    → IsPushed v.schema v.end.side vs check out given out' → names ≡ names_answered given name v.end.names → Answers v (kept name number) vs given (acted_end v v.end.stack names out') out'
kept-answers v name number vs (Refused cause) answer.Sent names out out' l p found t inside h e = absurd h
kept-answers v name number vs (Refused cause) (answer.Refused told) names out out' l p found t inside h e =
    subst (λ (ns : List Naming). Answers v (kept name number) vs (answer.Refused told) (acted_end v v.end.stack ns out') out') (sym e) (answers-refused v (kept name number) vs cause told out out' found h.0 t inside h.1)
kept-answers v name number vs (Refused cause) answer.NoMemory names out out' l p found t inside h e =
    subst (λ (ns : List Naming). Answers v (kept name number) vs answer.NoMemory (acted_end v v.end.stack ns out') out') (sym e) (answers-nothing v (kept name number) vs out out' l p t inside h)
kept-answers v name number vs (Accepted m) answer.Sent names out out' l p found t inside h e =
    let did = kept-acts v name number vs (plain_message m) names out out' found t inside h e in
    record { inside = did.inside; gives = (found.accepted, did.steps) }
kept-answers v name number vs (Accepted m) (answer.Refused told) names out out' l p found t inside h e = absurd h
kept-answers v name number vs (Accepted m) answer.NoMemory names out out' l p found t inside h e =
    subst (λ (ns : List Naming). Answers v (kept name number) vs answer.NoMemory (acted_end v v.end.stack ns out') out') (sym e) (answers-nothing v (kept name number) vs out out' l p t inside h)
