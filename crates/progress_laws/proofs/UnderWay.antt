-- While both ends are open the answer to each pending promise can still come, step by step.
use Rattle.std.proofs.Common.{◌≡◌, ◌⊎◌, inl, inr, ◌≤◌, ℤ, pos, true, List, [], ◌∷◌, ◌++◌, drop, Some, refl, sym, subst}
use Rattle.std.proofs.lemmas.Option.{same_Some}
use Rattle.ipdl_base.specs.declared.message.Message.{Message}
use Rattle.ipdl_base.specs.declared.schema.Schema.{Schema}
use Rattle.ipdl_base.specs.Sound.{IsSound}
use Rattle.promise_table.specs.Promises.{is_pending}
use Rattle.channel_model.specs.Ends.{End, Packet, message, PromiseEntry, Resolver}
use Rattle.channel_model.specs.Events.{Event}
use Rattle.channel_model.specs.Events as event
use Rattle.channel_model.specs.Outputs.{Output, is_open}
use Rattle.channel_model.specs.Parts.{DeliveryPart}
use Rattle.channel_model.specs.Runs.{after_event}
use Rattle.channel_model.specs.StepLaws.{IsDeliveryOfOnePart}
use Rattle.channel_model.specs.Steps.{step, first_packet}
use Rattle.channel_model.proofs.StepParts.{by-parts, steps_are_made_of_parts}
use Rattle.channel_laws.specs.AnswersOnce.{owes_answer}
use Rattle.channel_laws.specs.Counts.{how_many}
use Rattle.channel_laws.specs.Notes.{In, here, there}
use Rattle.channel_laws.proofs.Growing.{in-before, in-following, in-all}
use Rattle.channel_laws.proofs.Rows.{request-message}
use Rattle.progress_laws.specs.Promises.{resolver_for, BringsResolver, AnswersFor, MayAnswer, IsUnderWay, is_kept_back, goes_there, is_there, comes_back, is_back}
use Rattle.progress_laws.proofs.AskedSteps.{HasPromiseRow, IsAtAsker, held_back, come_back, IsAtOrAsked, IsAskedBy, before, anew, IsAsker, own-asks, delivery-asks, delivery-answers}
use Rattle.progress_laws.proofs.HeldDeliveries.{delivery-names, delivery-still, delivery-brings}
use Rattle.progress_laws.proofs.HeldResolvers.{NamesDiffer, IsAnswered}
use Rattle.progress_laws.proofs.HeldSteps.{IsHeld, own-kept}

-- Deliveries and other events

pub deliver-or_not : (ev : Event) → (ev ≡ event.deliver) ⊎ (ev ≡ event.deliver → ⊥)
deliver-or_not (event.send route number vs name) = inr (λ e. cc)
deliver-or_not (event.answer by vs) = inr (λ e. cc)
deliver-or_not (event.keep seq name) = inr (λ e. cc)
deliver-or_not (event.name name id) = inr (λ e. cc)
deliver-or_not event.close = inr (λ e. cc)
deliver-or_not event.die = inr (λ e. cc)
deliver-or_not event.deliver = inl refl
deliver-or_not event.take = inr (λ e. cc)
deliver-or_not (event.return vs) = inr (λ e. cc)
deliver-or_not event.resume = inr (λ e. cc)
deliver-or_not event.flush = inr (λ e. cc)

-- an event that delivers nothing leaves the link as it is
link-same : (ev : Event) (link : List Packet) → (ev ≡ event.deliver → ⊥) → after_event ev link ≡ link
link-same event.deliver link other = absurd (other refl)
link-same (event.send route number vs name) link other = refl
link-same (event.answer by vs) link other = refl
link-same (event.keep seq name) link other = refl
link-same (event.name name id) link other = refl
link-same event.close link other = refl
link-same event.die link other = refl
link-same event.take link other = refl
link-same (event.return vs) link other = refl
link-same event.resume link other = refl
link-same event.flush link other = refl

-- a packet on a link is the first, or after it
first-or_later : (link : List Packet) (first packet : Packet) → first_packet link ≡ Some first → In packet link → (first ≡ packet) ⊎ In packet (drop 1 link)
first-or_later [] first packet is i = elim i [ ]
first-or_later (p ∷ link) first packet is here = inl (sym (same_Some packet first is))
first-or_later (p ∷ link) first packet is (there i) = inr i

-- Names

-- any resolver
no_matter : Resolver
no_matter = record { seq = pos 0; route = pos 0; number = 0 }

pub names-differ_after : (schema : Schema) (e : End) (link : List Packet) (ev : Event) (output : Output) → step schema e link ev ≡ Some output → NamesDiffer e.names → NamesDiffer output.end.names
names-differ_after schema e link ev output is differ = elim (deliver-or_not ev) [
  | inl same ↦ delivered (steps_are_made_of_parts schema e link event.deliver output (subst (λ (x : Event). step schema e link x ≡ Some output) same is))
  | inr other ↦ (own-kept schema e no_matter link ev output is other differ).0
]
  where
    delivered : IsDeliveryOfOnePart schema e link output → NamesDiffer output.end.names
    delivered (packet, first, opened, made) = subst NamesDiffer (sym (delivery-names made.parts)) differ

module _ (schema : Schema) (sound : IsSound schema) where
  -- The asker's steps

  module _ (mine theirs : End) (to_me to_them : List Packet) (asker : IsAsker schema sound mine) where
    -- the answer to a request that is at the asker, or was sent by it, is pending
    asked-under_way : (f : End) (ps link : List Packet) (r : Resolver) → IsAtOrAsked f ps r → IsUnderWay f theirs link (to_them ++ ps) r
    asked-under_way f ps link r (inl (held_back m i brings)) = is_kept_back m i brings
    asked-under_way f ps link r (inl (come_back m sync level i answers)) = is_back m sync level i answers
    asked-under_way f ps link r (inr asked) = goes_there asked.request (in-following to_them asked.sent) asked.brings

    -- an answer on the link is still there, or has arrived
    before-under_way : (f : End) (ps link : List Packet) (r : Resolver) → (IsAtAsker mine.outbox mine.arrived r → IsAtOrAsked f ps r) → ((m : Message) → In (message m) to_me → AnswersFor r m → IsAtAsker f.outbox f.arrived r ⊎ In (message m) link)
        → IsUnderWay mine theirs to_me to_them r → IsUnderWay f theirs link (to_them ++ ps) r
    before-under_way f ps link r k comes (is_kept_back m i brings) = asked-under_way f ps link r (k (held_back m i brings))
    before-under_way f ps link r k comes (goes_there m i brings) = goes_there m (in-before ps i) brings
    before-under_way f ps link r k comes (is_there may) = is_there may
    before-under_way f ps link r k comes (comes_back m i answers) = elim (comes m i answers) [ inl at ↦ asked-under_way f ps link r (inl at) | inr j ↦ comes_back m j answers ]
    before-under_way f ps link r k comes (is_back m sync level i answers) = asked-under_way f ps link r (k (come_back m sync level i answers))

    abbrev AllUnderWay : End → End → List Packet → List Packet → Type 0
    AllUnderWay one another to_one to_other = (entry : PromiseEntry) → In entry one.promises → is_pending entry.promise ≡ true → IsUnderWay one another to_one to_other (resolver_for entry)

    pub asker-under_way : (ev : Event) (output : Output) → step schema mine to_me ev ≡ Some output → is_open output.end.state ≡ true → AllUnderWay mine theirs to_me to_them → AllUnderWay output.end theirs (after_event ev to_me) (to_them ++ output.packets)
    asker-under_way ev output is opened all entry i pending = elim (deliver-or_not ev) [
      | inl same ↦ subst (λ (x : Event). IsUnderWay output.end theirs (after_event x to_me) (to_them ++ output.packets) (resolver_for entry)) (sym same)
          (delivered (steps_are_made_of_parts schema mine to_me event.deliver output (subst (λ (x : Event). step schema mine to_me x ≡ Some output) same is)))
      | inr other ↦ by-parts schema mine to_me ev output (IsUnderWay output.end theirs (after_event ev to_me) (to_them ++ output.packets) (resolver_for entry)) is
          (λ made. own other (own-asks schema sound made.parts asker opened entry i pending)) (λ same made. absurd (other same))
    ]
      where
        own : (ev ≡ event.deliver → ⊥) → IsAskedBy mine output.packets output.end entry → IsUnderWay output.end theirs (after_event ev to_me) (to_them ++ output.packets) (resolver_for entry)
        own other (before j k) =
            before-under_way output.end output.packets (after_event ev to_me) (resolver_for entry) k (λ m l answers. inr (subst (In (message m)) (sym (link-same ev to_me other)) l)) (all entry j pending)
        own other (anew h) = asked-under_way output.end output.packets (after_event ev to_me) (resolver_for entry) h

        delivered : IsDeliveryOfOnePart schema mine to_me output → IsUnderWay output.end theirs (drop 1 to_me) (to_them ++ output.packets) (resolver_for entry)
        delivered (packet, first, was_open, made) = by (delivery-asks schema sound made.parts opened entry i pending)
          where
            by : IsAskedBy mine output.packets output.end entry → IsUnderWay output.end theirs (drop 1 to_me) (to_them ++ output.packets) (resolver_for entry)
            by (anew h) = asked-under_way output.end output.packets (drop 1 to_me) (resolver_for entry) h
            by (before j k) =
                before-under_way output.end output.packets (drop 1 to_me) (resolver_for entry) k
                (λ m l answers. elim (first-or_later to_me packet (message m) first l) [
                  | inl this ↦ inl (delivery-answers schema sound (subst (λ (p : Packet). DeliveryPart schema p mine made.whats output.packets output.end made.phase) this made.parts) (resolver_for entry) (in-all (λ (x : PromiseEntry). HasPromiseRow schema x.number) j asker.rows) answers opened)
                  | inr later ↦ inr later
                ]) (all entry j pending)

  -- The other end's steps

  module _ (mine theirs : End) (to_me to_them : List Packet) (r : Resolver) (row : HasPromiseRow schema r.number) (few : (n : ℤ) → how_many (owes_answer n) theirs.stack ≤ 1) (differ : NamesDiffer theirs.names) where
    held : is_open theirs.state ≡ true → MayAnswer theirs.arrived theirs.stack theirs.names r → IsHeld schema theirs r
    held opened may = record { opened = opened; few = few; row = row.row; found = row.found; promised = row.promised; may = may }

    -- what the other end may answer, or has answered
    may-under_way : (f : End) (ps link : List Packet) → MayAnswer f.arrived f.stack f.names r ⊎ IsAnswered r ps → IsUnderWay mine f (to_me ++ ps) link r
    may-under_way f ps link (inl may) = is_there may
    may-under_way f ps link (inr answered) = comes_back answered.reply (in-following to_me answered.sent) answered.answers

    other-under_way : (f : End) (ps link : List Packet) → (MayAnswer theirs.arrived theirs.stack theirs.names r → MayAnswer f.arrived f.stack f.names r ⊎ IsAnswered r ps) → ((m : Message) → In (message m) to_them → BringsResolver r m → MayAnswer f.arrived f.stack f.names r ⊎ In (message m) link)
        → IsUnderWay mine theirs to_me to_them r → IsUnderWay mine f (to_me ++ ps) link r
    other-under_way f ps link k goes (is_kept_back m i brings) = is_kept_back m i brings
    other-under_way f ps link k goes (goes_there m i brings) = elim (goes m i brings) [ inl may ↦ is_there may | inr j ↦ goes_there m j brings ]
    other-under_way f ps link k goes (is_there may) = may-under_way f ps link (k may)
    other-under_way f ps link k goes (comes_back m i answers) = comes_back m (in-before ps i) answers
    other-under_way f ps link k goes (is_back m sync level i answers) = is_back m sync level i answers

    pub answerer-under_way : (ev : Event) (output : Output) → step schema theirs to_them ev ≡ Some output → is_open theirs.state ≡ true → is_open output.end.state ≡ true → IsUnderWay mine theirs to_me to_them r → IsUnderWay mine output.end (to_me ++ output.packets) (after_event ev to_them) r
    answerer-under_way ev output is was_open opened h = elim (deliver-or_not ev) [
      | inl same ↦ subst (λ (x : Event). IsUnderWay mine output.end (to_me ++ output.packets) (after_event x to_them) r) (sym same)
          (delivered (steps_are_made_of_parts schema theirs to_them event.deliver output (subst (λ (x : Event). step schema theirs to_them x ≡ Some output) same is)))
      | inr other ↦ other-under_way output.end output.packets (after_event ev to_them) (λ may. (own-kept schema theirs r to_them ev output is other differ).1 (held was_open may) opened)
          (λ m i brings. inr (subst (In (message m)) (sym (link-same ev to_them other)) i)) h
    ]
      where
        delivered : IsDeliveryOfOnePart schema theirs to_them output → IsUnderWay mine output.end (to_me ++ output.packets) (drop 1 to_them) r
        delivered (packet, first, open_then, made) =
            other-under_way output.end output.packets (drop 1 to_them) (λ may. delivery-still schema r made.parts (held was_open may) opened)
            (λ m i brings. elim (first-or_later to_them packet (message m) first i) [
              | inl this ↦ inl (delivery-brings schema r (subst (λ (p : Packet). DeliveryPart schema p theirs made.whats output.packets output.end made.phase) this made.parts) brings row.row (request-message schema r.number row.row row.found) opened)
              | inr later ↦ inr later
            ]) h
