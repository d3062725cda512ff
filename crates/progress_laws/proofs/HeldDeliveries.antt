-- A delivery keeps what an open end may answer, and the request that brings a resolver arrives with it.
use Rattle.std.proofs.Common.{◌≡◌, ◌==◌, ◌⊎◌, inl, inr, Bool, true, false, ◌&&◌, int_eq, List, [], ◌∷◌, ◌++◌, map, Some, None, refl, sym, ap, subst, ◌∙◌}
use Rattle.std.proofs.lemmas.Bool.{eqb-true}
use Rattle.std.proofs.lemmas.Option.{same_Some}
use Rattle.ipdl_base.specs.declared.kinds.Level.{Level}
use Rattle.ipdl_base.specs.declared.kinds.Reason.TheVariants.{ResolverDestroyed}
use Rattle.ipdl_base.specs.declared.line.What.{What}
use Rattle.ipdl_base.specs.declared.message.Body.TheVariants.{Request}
use Rattle.ipdl_base.specs.declared.message.Message.{Message}
use Rattle.ipdl_base.specs.declared.schema.MessageRow.{MessageRow}
use Rattle.ipdl_base.specs.declared.schema.Schema.{Schema}
use Rattle.ipdl_base.specs.declared.value.Values.{Values}
use Rattle.ipdl_base.specs.Sound.{message_of}
use Rattle.nesting_core.specs.declared.frame.Answer.{Answer}
use Rattle.nesting_core.specs.declared.frame.Answer.TheVariants as answer
use Rattle.nesting_core.specs.declared.frame.StackFrame.{StackFrame}
use Rattle.nesting_core.specs.declared.frame.StackFrame.TheVariants.{Dispatch, Wait}
use Rattle.nesting_core.specs.Answers.{with_answer}
use Rattle.nesting_core.specs.Frames.{head_of, is_dispatch}
use Rattle.pending_queue.specs.declared.item.Item.{Item}
use Rattle.pending_queue.specs.declared.item.Item.TheVariants as item
use Rattle.pending_queue.specs.Compression.{is_request, is_request_of, are_alike, replaced, staying}
use Rattle.channel_model.specs.Deliveries as delivery
use Rattle.channel_model.specs.Ends.{End, Packet, message, StackEntry}
use Rattle.channel_model.specs.Ends.{Resolver}
use Rattle.channel_model.specs.Numbers.{is_sync_row, makes_promise}
use Rattle.channel_model.specs.Outputs.{is_open, request_answered, body_of}
use Rattle.channel_model.specs.Parts
use Rattle.channel_model.specs.Parts.{DeliveryPart, end_after, reply_packet, reply_packets}
use Rattle.channel_model.specs.Phases.{Phase}
use Rattle.channel_model.proofs.Tests.{and-left, and-right}
use Rattle.channel_laws.specs.Notes.{In, here, there}
use Rattle.channel_laws.proofs.ArrivalParts.{staying-all}
use Rattle.channel_laws.proofs.Growing.{in-before, in-following}
use Rattle.channel_laws.proofs.Replacing.{Replaces, replaced-taken}
use Rattle.channel_laws.proofs.Rows.{request-message}
use Rattle.channel_laws.proofs.Track.{frames_in}
use Rattle.progress_laws.specs.Promises.{BringsResolver, MayAnswer, has_arrived, is_handled, is_kept}
use Rattle.progress_laws.proofs.HeldResolvers.{IsAnswered, answers-request}
use Rattle.progress_laws.proofs.HeldSteps.{IsHeld}
use Rattle.progress_laws.proofs.Members.{in-cons, in-taken}

-- a dispatch stays when a wait gets its answer

same-frames : (stack : List StackEntry) (entry : StackEntry) → In entry stack → In entry (delivery.with_frames (frames_in stack) stack)
same-frames [] entry i = elim i [ ]
same-frames (first ∷ stack) entry here = here
same-frames (first ∷ stack) entry (there i) = there (same-frames stack entry i)

dispatch-stays : (a : Answer) (stack : List StackEntry) (entry : StackEntry) → is_dispatch entry.frame ≡ true → In entry stack → In entry (delivery.with_frames (with_answer a (frames_in stack)) stack)
dispatch-stays a [] entry dispatch i = elim i [ ]
dispatch-stays a (first ∷ stack) entry dispatch i = by first.frame refl (in-cons stack first entry i) (dispatch-stays a stack entry dispatch)
  where
    -- the first frame is a dispatch, if it is this one
    dispatched : (f : StackFrame) → first.frame ≡ f → entry ≡ first → is_dispatch f ≡ true
    dispatched f is same = ap is_dispatch (sym is ∙ ap (λ (x : StackEntry). x.frame) (sym same)) ∙ dispatch

    by : (f : StackFrame) → first.frame ≡ f → (entry ≡ first) ⊎ In entry stack → (In entry stack → In entry (delivery.with_frames (with_answer a (frames_in stack)) stack))
        → In entry (delivery.with_frames (with_answer a (f ∷ frames_in stack)) (first ∷ stack))
    by (Dispatch head) is (inl same) rec =
        subst (λ (x : StackEntry). In x (record first { frame = Dispatch head } ∷ delivery.with_frames (with_answer a (frames_in stack)) stack)) (sym same)
        (subst (λ (f : StackFrame). In first (record first { frame = f } ∷ delivery.with_frames (with_answer a (frames_in stack)) stack)) is here)
    by (Dispatch head) is (inr j) rec = there (rec j)
    by (Wait head None) is (inl same) rec = let k : false ≡ true = dispatched (Wait head None) is same in cc
    by (Wait head None) is (inr j) rec = there (same-frames stack entry j)
    by (Wait head (Some b)) is (inl same) rec = let k : false ≡ true = dispatched (Wait head (Some b)) is same in cc
    by (Wait head (Some b)) is (inr j) rec = there (rec j)

-- requests that are alike have one number
pub alike-number : (new : Message) (sync : Bool) (level : Level) (old : Message) (old_sync : Bool) (old_level : Level) → are_alike (item.Message new sync level) (item.Message old old_sync old_level) ≡ true → old.number ≡ new.number
alike-number new sync level old old_sync old_level alike =
    let of : (is_request old.body && (old.number == new.number)) && int_eq old.route new.route ≡ true = and-right (is_request new.body) (is_request_of new.number new.route (item.Message old old_sync old_level)) alike in
    eqb-true old.number new.number (and-right (is_request old.body) (old.number == new.number) (and-left (is_request old.body && (old.number == new.number)) (int_eq old.route new.route) of))

-- a request is no answer
pub not-answer : (vs : Values) (a : Answer) → Request vs ≡ body_of a → ⊥
not-answer vs (answer.Ok ws) is = cc
not-answer vs (answer.Fault reason) is = cc

pub delivery-names : {schema : Schema} {packet : Packet} {q : Phase} {e f : End} {ws : List What} {ps : List Packet} → DeliveryPart schema packet e ws ps f q → f.names ≡ e.names
delivery-names (Parts.gets_request m row vs body found none) = refl
delivery-names {e} (Parts.replaces m row vs old sync level replies body found rep is) = by replies
  where
    by : (b : Bool) → (end_after b (delivery.counted row (delivery.item_of row m) e)).names ≡ e.names
    by true = refl
    by false = refl
delivery-names (Parts.gets_answer m row a body found sync) = refl
delivery-names (Parts.gets_reply m row a body found async) = refl
delivery-names (Parts.drains packet is) = refl
delivery-names (Parts.passes_by m ordinary none) = refl

module _ (schema : Schema) (r : Resolver) where
  abbrev MayAt : End → Type 0
  MayAt e = MayAnswer e.arrived e.stack e.names r

  following-may : (b : Bool) (e : End) → MayAt e → MayAt (end_after b e)
  following-may true e h = h
  following-may false e h = h

  -- a request that is replaced is answered, if it makes a promise
  replaced-answered : (e : End) (m old : Message) (row other : MessageRow) (replies : Bool) → BringsResolver r old → old.number ≡ m.number → message_of schema m.number ≡ Some row → message_of schema r.number ≡ Some other → makes_promise other ≡ true → replies ≡ makes_promise row
      → IsAnswered r (reply_packets replies e (request_answered old) (answer.Fault ResolverDestroyed))
  replaced-answered e m old row other replies brings number found own promised is =
      let same : row ≡ other = same_Some row other (sym found ∙ ap (message_of schema) (sym number ∙ brings.number) ∙ own) in
      let owes : replies ≡ true = is ∙ ap makes_promise same ∙ promised in
      subst (λ (b : Bool). IsAnswered r (reply_packets b e (request_answered old) (answer.Fault ResolverDestroyed))) (sym owes)
      (record { reply = _; sent = in-following (map message e.outbox) here; answers = answers-request r old (answer.Fault ResolverDestroyed) brings })

  pub delivery-still : {packet : Packet} {q : Phase} {e f : End} {ws : List What} {ps : List Packet} → DeliveryPart schema packet e ws ps f q → IsHeld schema e r → is_open f.state ≡ true → MayAt f ⊎ IsAnswered r ps
  delivery-still {e} (Parts.gets_request m row vs body found none) held opened = inl (from held.may)
    where
      new : Item
      new = delivery.item_of row m

      stay : staying row.compress new e.arrived ≡ e.arrived
      stay = staying-all schema row new e.arrived (replaced row.compress new e.arrived) refl none

      from : MayAt e → MayAnswer (staying row.compress new e.arrived ++ new ∷ []) e.stack e.names r
      from (has_arrived old sync level i brings) = has_arrived old sync level (in-before (new ∷ []) (subst (In (item.Message old sync level)) (sym stay) i)) brings
      from (is_handled entry i has same) = is_handled entry i has same
      from (is_kept naming i holds) = is_kept naming i holds
  delivery-still {e} (Parts.replaces m row vs old sync level replies body found rep is) held opened = from held.may
    where
      new : Item
      new = delivery.item_of row m

      replacing : Replaces row.compress new e.arrived (item.Message old sync level)
      replacing = replaced-taken row.compress new e.arrived (item.Message old sync level) rep

      stays : MayAt (delivery.counted row new e) → MayAt (end_after replies (delivery.counted row new e)) ⊎ IsAnswered r (reply_packets replies e (request_answered old) (answer.Fault ResolverDestroyed))
      stays h = inl (following-may replies (delivery.counted row new e) h)

      from : MayAt e → MayAt (end_after replies (delivery.counted row new e)) ⊎ IsAnswered r (reply_packets replies e (request_answered old) (answer.Fault ResolverDestroyed))
      from (has_arrived one own_sync own_level i brings) = elim (in-taken e.arrived (staying row.compress new e.arrived) (item.Message old sync level) (item.Message one own_sync own_level) replacing.taken i) [
        | inl same ↦
            let this : one ≡ old = cc in
            inr (replaced-answered e m old row held.row replies (subst (BringsResolver r) this brings) (alike-number m (is_sync_row row) row.level old sync level replacing.alike) found (request-message schema r.number held.row held.found) held.promised is)
        | inr j ↦ stays (has_arrived one own_sync own_level (in-before (new ∷ []) j) brings)
      ]
      from (is_handled entry i has same) = stays (is_handled entry i has same)
      from (is_kept naming i holds) = stays (is_kept naming i holds)
  delivery-still {e} (Parts.gets_answer m row a body found sync) held opened = inl (from held.may)
    where
      from : MayAt e → MayAt (delivery.answers_wait a e)
      from (has_arrived old sync level i brings) = has_arrived old sync level i brings
      from (is_handled entry i has same) = is_handled entry (dispatch-stays a e.stack entry (and-left (is_dispatch entry.frame) (entry.resolves && int_eq (head_of entry.frame).seq r.seq) has) i) has same
      from (is_kept naming i holds) = is_kept naming i holds
  delivery-still {e} (Parts.gets_reply m row a body found async) held opened = inl (from held.may)
    where
      from : MayAt e → MayAt (delivery.arrives (delivery.item_of row m) e)
      from (has_arrived old sync level i brings) = has_arrived old sync level (in-before (delivery.item_of row m ∷ []) i) brings
      from (is_handled entry i has same) = is_handled entry i has same
      from (is_kept naming i holds) = is_kept naming i holds
  delivery-still (Parts.drains packet is) held opened = cc
  delivery-still (Parts.passes_by m ordinary none) held opened = inl held.may

  -- the request that brings a resolver arrives
  pub delivery-brings : {m : Message} {q : Phase} {e f : End} {ws : List What} {ps : List Packet} → DeliveryPart schema (message m) e ws ps f q → BringsResolver r m → (row : MessageRow) → message_of schema r.number ≡ Some row → is_open f.state ≡ true → MayAt f
  delivery-brings {e} (Parts.gets_request m row vs body found none) brings own own_found opened = has_arrived m (is_sync_row row) row.level (in-following (staying row.compress (delivery.item_of row m) e.arrived) here) brings
  delivery-brings {e} (Parts.replaces m row vs old sync level replies body found rep is) brings own own_found opened =
      following-may replies (delivery.counted row (delivery.item_of row m) e) (has_arrived m (is_sync_row row) row.level (in-following (staying row.compress (delivery.item_of row m) e.arrived) here) brings)
  delivery-brings (Parts.gets_answer m row a body found sync) brings own own_found opened = absurd (not-answer brings.values a (sym brings.body ∙ body))
  delivery-brings (Parts.gets_reply m row a body found async) brings own own_found opened = absurd (not-answer brings.values a (sym brings.body ∙ body))
  delivery-brings (Parts.drains packet is) brings own own_found opened = cc
  delivery-brings (Parts.passes_by m ordinary none) brings own own_found opened = let k : None ≡ Some own = sym none ∙ ap (message_of schema) brings.number ∙ own_found in cc
