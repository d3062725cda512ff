-- What an end takes next, and the step that takes it.
use Rattle.std.proofs.Common.{◌≡◌, ℤ, Bool, true, false, ◌&&◌, if◌then◌else◌, List, [], find, map, Option, Some, None, option_map, Result, Ok, Err, refl, ap, sym, subst, ◌∙◌}
use Rattle.std.specs.Prelude.{is_err, OnOk}
use Rattle.std.specs.Option.{option_map_or, option_and_then}
use Rattle.std.proofs.lemmas.Option.{same_Some}
use Rattle.actor_tree.specs.declared.actor.Actor.{Actor}
use Rattle.ipdl_base.specs.declared.kinds.Level.{Level}
use Rattle.ipdl_base.specs.declared.message.Body.{Body}
use Rattle.ipdl_base.specs.declared.message.Body.TheVariants.{Request, Reply, Fault, Goodbye}
use Rattle.ipdl_base.specs.declared.message.Message.{Message}
use Rattle.ipdl_base.specs.declared.schema.MessageRow.{MessageRow}
use Rattle.ipdl_base.specs.declared.schema.Schema.{Schema}
use Rattle.ipdl_base.specs.declared.value.Values.{Values}
use Rattle.ipdl_base.specs.declared.line.What.TheVariants as what
use Rattle.ipdl_base.specs.Plain.{plain_body, plain_message, plain_values}
use Rattle.ipdl_base.specs.Sound.{message_of}
use Rattle.nesting_core.specs.Top.{top_of}
use Rattle.pending_queue.specs.declared.deferral_context.DeferralContext.{DeferralContext}
use Rattle.pending_queue.specs.declared.item.Item.{Item}
use Rattle.pending_queue.specs.declared.item.Item.TheVariants as item
use Rattle.pending_queue.specs.Compression.{is_request}
use Rattle.pending_queue.specs.DeferralContext.{is_free, without_first}
use Rattle.pending_queue.specs.Plain.{plain_item}
use Rattle.pending_queue.proofs.PlainLemmas as plain
use Rattle.value_types.specs.Laws.{BoxesSayNothing}
use Rattle.channel_model.specs.Ends.{End}
use Rattle.channel_model.specs.Events as event
use Rattle.channel_model.specs.Outputs.{Output, beginning, is_open, line, on_end}
use Rattle.channel_model.specs.Parts.{left_end}
use Rattle.channel_model.specs.Sends.{frames_of}
use Rattle.channel_model.specs.Steps.{step, provided}
use Rattle.channel_model.specs.Takes.{body_taken, deferral_context_of, request_taken, take, taken_next, takes_in_state, takes_under}
use Rattle.channel_model.specs.Fitting.{FitsItem, IsFitting}
use Rattle.channel_model.proofs.FittingEnds.{taken-fits}
use Rattle.end_steps.specs.AnswerPackets.{IsAnswering}
use Rattle.end_steps.specs.declared.answer_packet.AnswerPacket.{AnswerPacket}
use Rattle.end_steps.specs.declared.request_plan.RequestPlan.TheVariants as plan
use Rattle.end_steps.specs.RequestPlans.{IsFittingRequest, IsPlanOf, IsReplyItem, IsMessage, IsTakenMessage}
use Rattle.channel_core.specs.declared.end.taking.ItemKind.{ItemKind}
use Rattle.channel_core.specs.declared.end.taking.ItemKind.TheVariants as kind
use Rattle.channel_core.specs.NextItems.{kind_of_body, kind_of_item, next_kind, IsNextDrop, IsNextHandling, IsNextMessage}
use Rattle.channel_core.specs.EndView.{EndView}
use Rattle.channel_core.specs.Taken.{kind_of, item_kind, nothing}

-- whether an end may take at all
abbrev pub may_take : End → Bool
may_take e = takes_in_state e.state && takes_under (top_of (frames_of e))

-- what is free of the items, with their boxes at one place
pub first_plain : (h : DeferralContext) (items : List Item) → find (is_free h) (map plain_item items) ≡ option_map plain_item (find (is_free h) items)
first_plain h items = plain.plain_forms_commute.first_free h items

pub rest_plain : (h : DeferralContext) (items : List Item) → without_first (is_free h) (map plain_item items) ≡ map plain_item (without_first (is_free h) items)
rest_plain h items = plain.plain_forms_commute.without_first_free h items

taking_at : (b : Bool) (found : Option Item) (k : ItemKind) → option_map kind_of_item (if b then found else None) ≡ Some k → (b ≡ true) × (option_map kind_of_item found ≡ Some k)
taking_at true found k e = (refl, e)
taking_at false found k e = cc

-- an end whose next item has a kind may take
pub taking : (v : EndView) (k : ItemKind) → next_kind v ≡ Some k → may_take v.end ≡ true
taking v k e = (taking_at (may_take v.end) _ k e).0

-- The item that is taken next, with its boxes wherever they lie.
pub record IsFirst (v : EndView) (found : Option Item) (k : ItemKind) : Type 0 where
  pub x : Item
  pub is : found ≡ Some x
  pub next : taken_next v.end ≡ Some (plain_item x)
  pub kind : kind_of_item (plain_item x) ≡ k

pub is_first : (v : EndView) (h : DeferralContext) (items : List Item) (k : ItemKind) → v.end.arrived ≡ map plain_item items → h ≡ deferral_context_of v.end → next_kind v ≡ Some k → IsFirst v (find (is_free h) items) k
is_first v h items k a is e = at (find (is_free h) items) refl
  where
    free : find (is_free (deferral_context_of v.end)) v.end.arrived ≡ option_map plain_item (find (is_free h) items)
    free = ap (λ (x : DeferralContext). find (is_free x) v.end.arrived) (sym is) ∙ ap (find (is_free h)) a ∙ first_plain h items

    kinds : option_map kind_of_item (option_map plain_item (find (is_free h) items)) ≡ Some k
    kinds = ap (option_map kind_of_item) (sym free) ∙ (taking_at (may_take v.end) _ k e).1

    at : (found : Option Item) → find (is_free h) items ≡ found → IsFirst v found k
    at None f = let bad : option_map kind_of_item (option_map plain_item None) ≡ Some k = ap (λ (x : Option Item). option_map kind_of_item (option_map plain_item x)) (sym f) ∙ kinds in cc
    at (Some x) f = record {
      x = x;
      is = refl;
      next = ap (λ (b : Bool). if b then find (is_free (deferral_context_of v.end)) v.end.arrived else None) (taking v k e) ∙ free ∙ ap (option_map plain_item) f;
      kind = same_Some (kind_of_item (plain_item x)) k (ap (λ (y : Option Item). option_map kind_of_item (option_map plain_item y)) (sym f) ∙ kinds);
    }

-- a request that is taken next fits
request_at : (law : BoxesSayNothing) (schema : Schema) (x : Item) → kind_of_item (plain_item x) ≡ kind.Request → FitsItem schema (plain_item x) → IsFittingRequest schema (Some x)
request_at law schema item.Broken e f = cc
request_at law schema (item.Message m sync level) e f = ((law.fits schema m).0 f.0, by m.body e)
  where
    by : (body : Body) → kind_of_body (plain_body body) ≡ kind.Request → is_request body ≡ true
    by (Request vs) e = refl
    by (Reply vs) e = cc
    by (Fault reason) e = cc
    by Goodbye e = cc

pub next_request : (law : BoxesSayNothing) (v : EndView) (found : Option Item) → IsFirst v found kind.Request → IsFitting v.schema v.end → IsFittingRequest v.schema found
next_request law v found f fits = subst (IsFittingRequest v.schema) (sym f.is) (request_at law v.schema f.x f.kind (taken-fits v.schema v.end (plain_item f.x) fits f.next))

-- a reply that is taken next answers
reply_at : (x : Item) → kind_of_item (plain_item x) ≡ kind.Reply → IsReplyItem (Some x)
reply_at item.Broken e = cc
reply_at (item.Message m sync level) e = by m.body e
  where
    by : (body : Body) → kind_of_body (plain_body body) ≡ kind.Reply → IsAnswering body
    by (Request vs) e = cc
    by (Reply vs) e = tt
    by (Fault reason) e = tt
    by Goodbye e = cc

pub next_reply : (v : EndView) (found : Option Item) → IsFirst v found kind.Reply → IsReplyItem found
next_reply v found f = subst IsReplyItem (sym f.is) (reply_at f.x f.kind)

-- The step

-- the step of a take
pub take_steps : (v : EndView) (x : Item) → taken_next v.end ≡ Some x → step v.schema v.end [] event.take ≡ Some (take v.schema x (beginning v.end))
take_steps v x next = ap (λ (found : Option Item). option_and_then (λ (y : Item). provided true (take v.schema y) v.end) found) next

-- the output when the item has left
abbrev pub left : End → Output
left e = on_end left_end (beginning e)

-- the step that takes a request of a message
pub request_steps : (v : EndView) (m : Message) (row : MessageRow) (vs : Values) → IsNextMessage v m → m.body ≡ Request vs → message_of v.schema m.number ≡ Some row → step v.schema v.end [] event.take ≡ Some (request_taken v.schema m vs row (left v.end))
request_steps v m row vs n body found =
    take_steps v (item.Message m n.sync n.level) n.next
    ∙ ap (λ (b : Body). Some (body_taken v.schema m b (left v.end))) body
    ∙ ap (λ (r : Option MessageRow). Some (option_map_or (request_taken v.schema m vs) r (line (what.Drop m.seq m.route m.number m.route)) (left v.end))) found

-- the code's queue when an item has left
pub left_items : (v : EndView) (h : DeferralContext) (items items' : List Item) → v.end.arrived ≡ map plain_item items → h ≡ deferral_context_of v.end → items' ≡ without_first (is_free h) items → map plain_item items' ≡ (left_end v.end).arrived
left_items v h items items' a is e =
    ap (map plain_item) e ∙ sym (rest_plain h items) ∙ ap (without_first (is_free h)) (sym a) ∙ ap (λ (x : DeferralContext). without_first (is_free x) v.end.arrived) is

-- where boxes lie does not matter for what an item is
pub kind_plain : (x : Item) → kind_of_item (plain_item x) ≡ kind_of_item x
kind_plain item.Broken = refl
kind_plain (item.Message m sync level) = by m.body
  where
    by : (body : Body) → kind_of_body (plain_body body) ≡ kind_of_body body
    by (Request vs) = refl
    by (Reply vs) = refl
    by (Fault reason) = refl
    by Goodbye = refl

-- what the code finds is what is taken next
pub kind_found : (v : EndView) (h : DeferralContext) (items : List Item) (found : Option Item) → v.end.arrived ≡ map plain_item items → h ≡ deferral_context_of v.end → may_take v.end ≡ true → find (is_free h) items ≡ found → next_kind v ≡ option_map kind_of_item (option_map plain_item found)
kind_found v h items found a is may f =
    ap (λ (b : Bool). option_map kind_of_item (if b then find (is_free (deferral_context_of v.end)) v.end.arrived else None)) may
    ∙ ap (λ (x : DeferralContext). option_map kind_of_item (find (is_free x) v.end.arrived)) (sym is) ∙ ap (λ (xs : List Item). option_map kind_of_item (find (is_free h) xs)) a
    ∙ ap (option_map kind_of_item) (first_plain h items) ∙ ap (λ (x : Option Item). option_map kind_of_item (option_map plain_item x)) f

taken_at : (found : Option Item) (m taken : Message) (sync : Bool) (level : Level) → option_map plain_item found ≡ Some (item.Message m sync level) → (IsMessage found) × (IsTakenMessage found taken → plain_message taken ≡ m)
taken_at None m taken sync level e = cc
taken_at (Some item.Broken) m taken sync level e = cc
taken_at (Some (item.Message x s l)) m taken sync level e = (tt, λ h. ap plain_message h ∙ same_message (plain_message x) m s sync l level (same_Some (item.Message (plain_message x) s l) (item.Message m sync level) e))
  where
    same_message : (a b : Message) (s t : Bool) (l k : Level) → item.Message a s l ≡ item.Message b t k → a ≡ b
    same_message a b s t l k e = cc

pub taken_message : (v : EndView) (h : DeferralContext) (items : List Item) (m taken : Message) → v.end.arrived ≡ map plain_item items → h ≡ deferral_context_of v.end → IsNextMessage v m → (IsMessage (find (is_free h) items)) × (IsTakenMessage (find (is_free h) items) taken → plain_message taken ≡ m)
taken_message v h items m taken a is n =
    let free : find (is_free (deferral_context_of v.end)) v.end.arrived ≡ Some (item.Message m n.sync n.level) = free_at (may_take v.end) _ n.next in
    let here : option_map plain_item (find (is_free h) items) ≡ Some (item.Message m n.sync n.level) = sym (first_plain h items) ∙ ap (find (is_free h)) (sym a) ∙ ap (λ (x : DeferralContext). find (is_free x) v.end.arrived) is ∙ free in
    taken_at (find (is_free h) items) m taken n.sync n.level here
  where
    free_at : (b : Bool) (found : Option Item) {x : Item} → (if b then found else None) ≡ Some x → found ≡ Some x
    free_at true found e = e
    free_at false found e = cc

-- what holds where a call went well
pub when_ok : {T E : Type 0} (r : Result T E) (P : Type 0) → is_err r ≡ false → OnOk r P → P
when_ok (Ok x) P e h = h
when_ok (Err x) P e h = cc

-- the plan for the request that is next
pub plan_drop : (v : EndView) (found : Option Item) (f : IsFirst v found kind.Request) (id : ℤ) (packet : Option AnswerPacket) → IsPlanOf v.schema (is_open v.end.state) v.end.actors found (plan.Drop id packet) → IsNextDrop v id packet
plan_drop v found f id packet h = at f.x f.next f.kind (subst (λ (o : Option Item). IsPlanOf v.schema (is_open v.end.state) v.end.actors o (plan.Drop id packet)) f.is h)
  where
    at : (x : Item) → taken_next v.end ≡ Some (plain_item x) → kind_of_item (plain_item x) ≡ kind.Request → IsPlanOf v.schema (is_open v.end.state) v.end.actors (Some x) (plan.Drop id packet) → IsNextDrop v id packet
    at item.Broken n k h = cc
    at (item.Message m sync level) n k h = record { m = plain_message m; is_next = record { sync = sync; level = level; next = n }; drop = h }

pub plan_handle : (v : EndView) (found : Option Item) (f : IsFirst v found kind.Request) (shown : Values) (built : Option Actor) → IsPlanOf v.schema (is_open v.end.state) v.end.actors found (plan.Handle shown built) → IsNextHandling v (plain_values shown) built
plan_handle v found f shown built h = at f.x f.next f.kind (subst (λ (o : Option Item). IsPlanOf v.schema (is_open v.end.state) v.end.actors o (plan.Handle shown built)) f.is h)
  where
    at : (x : Item) → taken_next v.end ≡ Some (plain_item x) → kind_of_item (plain_item x) ≡ kind.Request → IsPlanOf v.schema (is_open v.end.state) v.end.actors (Some x) (plan.Handle shown built) → IsNextHandling v (plain_values shown) built
    at item.Broken n k h = cc
    at (item.Message m sync level) n k h = record { m = plain_message m; is_next = record { sync = sync; level = level; next = n }; handled = h }

-- where nothing can be taken, nothing is done
pub nothing_next : (v : EndView) → next_kind v ≡ None → kind_of v ≡ nothing
unfolding kind_of
nothing_next v e = at (taken_next v.end) refl
  where
    at : (found : Option Item) → taken_next v.end ≡ found → option_map_or (item_kind v) (taken_next v.end) nothing ≡ nothing
    at None f = ap (λ (x : Option Item). option_map_or (item_kind v) x nothing) f
    at (Some x) f = let bad : Some (kind_of_item x) ≡ None = ap (option_map kind_of_item) (sym f) ∙ e in cc
