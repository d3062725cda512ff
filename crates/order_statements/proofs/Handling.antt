-- Properties of the requests that an end handles, or may answer by a name, as its parts change them; so each of these
-- was taken.
use Rattle.std.proofs.Common.{◌≡◌, ℕ, ℤ, Bool, true, false, ◌&&◌, ◌||◌, if◌then◌else◌, cond, int_eq, List, [], ◌∷◌, ◌++◌, drop, find, map, Some, None, option_map, refl, sym, ap, subst, ◌∙◌}
use Rattle.std.specs.List.{AllByRecursion}
use Rattle.std.proofs.lemmas.Bool.{or_left, or_right}
use Rattle.std.proofs.lemmas.Bool.Decides.{Decides-int_eq}
use Rattle.std.proofs.lemmas.Option.{same_Some}
use Rattle.ipdl_base.specs.declared.line.What.{What}
use Rattle.ipdl_base.specs.declared.line.What.TheVariants as what
use Rattle.ipdl_base.specs.declared.message.Message.{Message}
use Rattle.ipdl_base.specs.declared.schema.MessageRow.{MessageRow}
use Rattle.ipdl_base.specs.declared.schema.Schema.{Schema}
use Rattle.nesting_core.specs.declared.frame.Answer.{Answer}
use Rattle.nesting_core.specs.declared.frame.StackFrame.{StackFrame}
use Rattle.nesting_core.specs.declared.frame.StackFrame.TheVariants.{Dispatch, Wait}
use Rattle.nesting_core.specs.Answers.{with_answer}
use Rattle.nesting_core.specs.Frames.{head_of, is_dispatch}
use Rattle.channel_model.specs.Answers as answering
use Rattle.channel_model.specs.Answers.{has_resolver, released, resolver_in}
use Rattle.channel_model.specs.Deliveries as delivery
use Rattle.channel_model.specs.Ends.{End, NameContent, Naming, Packet, Resolver, StackEntry, actor, resolver}
use Rattle.channel_model.specs.Events.{Answering, handled, kept}
use Rattle.channel_model.specs.Names.{is_actor}
use Rattle.channel_model.specs.Numbers.{is_sync_row}
use Rattle.channel_model.specs.Outputs.{Output}
use Rattle.channel_model.specs.Parts as parts
use Rattle.channel_model.specs.Parts.{DeliveryPart, FirstPart, HoldsActor, LaterPart, LaterParts, OwnParts, end_after}
use Rattle.channel_model.specs.Phases.{Phase}
use Rattle.channel_model.specs.Sends as send
use Rattle.channel_model.specs.Takes as take
use Rattle.channel_model.proofs.Known.{all-append, all-filter, all-map}
use Rattle.channel_model.proofs.Tests.{and-left, and-right}
use Rattle.history_reading.specs.Numbers.{has}
use Rattle.law_statements.specs.Packets.{gone, number_gone}
use Rattle.order_statements.proofs.KeptAlong.{EveryStepKeeps}
use Rattle.order_statements.proofs.LateReplies.{has-append}
use Rattle.order_statements.proofs.StepLines.{MadeOf, made-of, of_delivery, of_own}

-- a stack with its own frames
pub same-entries : (stack : List StackEntry) → delivery.with_frames (map (λ (x : StackEntry). x.frame) stack) stack ≡ stack
same-entries [] = refl
same-entries (x ∷ xs) = ap (λ (ys : List StackEntry). x ∷ ys) (same-entries xs)

-- G is true of the number and the message of each request that is handled, and H of the message of each that has a
-- resolver.
module _ (G : ℤ → ℕ → Type 0) (H : ℕ → Type 0) where
  pub record EntryIs (entry : StackEntry) : Type 0 where
    pub handled_is : is_dispatch entry.frame ≡ true → G (head_of entry.frame).seq entry.number
    pub resolver_is : entry.resolves ≡ true → H entry.number

  abbrev pub ContentIs : NameContent → Type 0
  ContentIs (actor id) = Unit {0}
  ContentIs (resolver r) = G r.seq r.number × H r.number

  abbrev pub NamingIs : Naming → Type 0
  NamingIs naming = ContentIs naming.holds

  pub record EndIs (e : End) : Type 0 where
    pub stack : AllByRecursion EntryIs e.stack
    pub names : AllByRecursion NamingIs e.names

  drop-is : (stack : List StackEntry) → AllByRecursion EntryIs stack → AllByRecursion EntryIs (drop 1 stack)
  drop-is [] h = tt
  drop-is (x ∷ xs) h = h.1

  released-is : (seq : ℤ) (stack : List StackEntry) → AllByRecursion EntryIs stack → AllByRecursion EntryIs (released seq stack)
  released-is seq [] h = tt
  released-is seq (x ∷ xs) h = (by (has_resolver seq x), released-is seq xs h.1)
    where
      by : (b : Bool) → EntryIs (if b then record x { resolves = false } else x)
      by true = record { handled_is = h.0.handled_is; resolver_is = λ k. cc }
      by false = h.0

  frame-is : (x : StackEntry) (f : StackFrame) → is_dispatch f ≡ false → EntryIs x → EntryIs (record x { frame = f })
  frame-is x f wait h = record { handled_is = λ dispatch. let k : true ≡ false = sym dispatch ∙ wait in cc; resolver_is = h.resolver_is }

  answered-is : (a : Answer) (stack : List StackEntry) → AllByRecursion EntryIs stack → AllByRecursion EntryIs (delivery.with_frames (with_answer a (map (λ (x : StackEntry). x.frame) stack)) stack)
  answered-is a [] h = tt
  answered-is a (x ∷ xs) h = by x.frame refl (answered-is a xs h.1)
    where
      frames : List StackFrame
      frames = map (λ (y : StackEntry). y.frame) xs

      by : (f : StackFrame) → x.frame ≡ f → AllByRecursion EntryIs (delivery.with_frames (with_answer a frames) xs) → AllByRecursion EntryIs (delivery.with_frames (with_answer a (f ∷ frames)) (x ∷ xs))
      by (Dispatch head) is rec = (subst (λ (g : StackFrame). EntryIs (record x { frame = g })) is h.0, rec)
      by (Wait head None) is rec = (frame-is x (Wait head (Some a)) refl h.0, subst (AllByRecursion EntryIs) (sym (same-entries xs)) h.1)
      by (Wait head (Some b)) is rec = (frame-is x (Wait head (Some b)) refl h.0, rec)

  failed-is : (stack : List StackEntry) → AllByRecursion EntryIs stack → AllByRecursion EntryIs (map delivery.with_failed_wait stack)
  failed-is [] h = tt
  failed-is (x ∷ xs) h = (by x.frame refl, failed-is xs h.1)
    where
      by : (f : StackFrame) → x.frame ≡ f → EntryIs (record x { frame = delivery.failed f })
      by (Dispatch head) is = subst (λ (g : StackFrame). EntryIs (record x { frame = g })) is h.0
      by (Wait head None) is = frame-is x (delivery.failed (Wait head None)) refl h.0
      by (Wait head (Some b)) is = frame-is x (Wait head (Some b)) refl h.0

  actors-are : (more : List Naming) → AllByRecursion HoldsActor more → AllByRecursion NamingIs more
  actors-are [] h = tt
  actors-are (x ∷ xs) h = (by x.holds h.0, actors-are xs h.1)
    where
      by : (c : NameContent) → elim c as (λ y. Type 0) [ actor id ↦ Unit {0} | resolver r ↦ ⊥ ] → ContentIs c
      by (actor id) k = tt
      by (resolver r) k = absurd k

  -- the resolver of a frame
  pub resolver-is : (seq : ℤ) (stack : List StackEntry) (r : Resolver) → AllByRecursion EntryIs stack → option_map resolver_in (find (has_resolver seq) stack) ≡ Some r → G r.seq r.number × H r.number
  resolver-is seq [] r h e = cc
  resolver-is seq (x ∷ xs) r h e = by (has_resolver seq x) refl e (λ k. resolver-is seq xs r h.1 k)
    where
      by : (b : Bool) → has_resolver seq x ≡ b → option_map resolver_in (cond b (Some x) (find (has_resolver seq) xs)) ≡ Some r → (option_map resolver_in (find (has_resolver seq) xs) ≡ Some r → G r.seq r.number × H r.number) → G r.seq r.number × H r.number
      by true is k rec =
          let same : resolver_in x ≡ r = same_Some (resolver_in x) r k in
          let rest : x.resolves && int_eq (head_of x.frame).seq seq ≡ true = and-right (is_dispatch x.frame) (x.resolves && int_eq (head_of x.frame).seq seq) is in
          subst (λ (q : Resolver). G q.seq q.number × H q.number) same (h.0.handled_is (and-left (is_dispatch x.frame) (x.resolves && int_eq (head_of x.frame).seq seq) is), h.0.resolver_is (and-left x.resolves (int_eq (head_of x.frame).seq seq) rest))
      by false is k rec = rec k

  pub later-is : {p q : Phase} {e f : End} {ws : List What} {ps : List Packet} → LaterPart p e ws ps f q → EndIs e → EndIs f
  later-is {e} (parts.unnames name may silent) h = record { stack = h.stack; names = all-filter NamingIs _ e.names h.names }
  later-is {e} (parts.lets_go name r may held opened) h = record { stack = h.stack; names = all-filter NamingIs _ e.names h.names }
  later-is {e} (parts.names more actors) h = record { stack = h.stack; names = all-append NamingIs e.names more h.names (actors-are more actors) }
  later-is {e} (parts.releases seq closed) h = record { stack = released-is seq e.stack h.stack; names = h.names }
  later-is {e} (parts.keeps seq name r held closed) h =
      record { stack = released-is seq e.stack h.stack; names = all-append NamingIs e.names (record { name = name; holds = resolver r } ∷ []) h.names (resolver-is seq e.stack r h.stack held, tt) }
  later-is (parts.builds id protocol rest fresh built) h = record { stack = h.stack; names = h.names }
  later-is (parts.deletes id due) h = record { stack = h.stack; names = h.names }
  later-is (parts.falls why due) h = record { stack = h.stack; names = h.names }

  pub laters-are : {p q : Phase} {e f : End} {ws : List What} {ps : List Packet} → LaterParts p e ws ps f q → EndIs e → EndIs f
  laters-are parts.done h = h
  laters-are (parts.then part rest) h = laters-are rest (later-is part h)

  following-is : (b : Bool) (e : End) → EndIs e → EndIs (end_after b e)
  following-is true e h = record { stack = h.stack; names = h.names }
  following-is false e h = h

  waits-are : (b : Bool) (row : MessageRow) (m : Message) (stack : List StackEntry) → AllByRecursion EntryIs stack → AllByRecursion EntryIs (cond b (send.wait_for row m ∷ stack) stack)
  waits-are true row m stack h = (record { handled_is = λ k. cc; resolver_is = λ k. cc }, h)
  waits-are false row m stack h = h

  pub sent-is : (row : MessageRow) (m : Message) (e : End) → EndIs e → EndIs (parts.sent_end row m e)
  sent-is row m e h = record { stack = waits-are (is_sync_row row) row m e.stack h.stack; names = h.names }

  used-is : (way : Answering) (e : End) → EndIs e → EndIs (answering.without_resolver way e)
  used-is (handled seq) e h = record { stack = released-is seq e.stack h.stack; names = h.names }
  used-is (kept name number) e h = record { stack = h.stack; names = all-filter NamingIs _ e.names h.names }

  -- the first part of an event: the request that it takes, if any, must have the property too
  pub first-is : {schema : Schema} {e f : End} {us : List What} {ps : List Packet} {p : Phase} → FirstPart schema e us ps f p → ((row : MessageRow) (m : Message) (vs : _) (rest : List What) → us ≡ what.Take m.seq m.route m.number vs ∷ rest → EntryIs (take.dispatch_of row m)) → EndIs e → EndIs f
  first-is (parts.refuses w is) takes h = h
  first-is (parts.renames w is) takes h = h
  first-is (parts.flushes opened) takes h = record { stack = h.stack; names = h.names }
  first-is (parts.sends {e = x} row route vs name sent) takes h = sent-is row (send.request_of x row route vs) x h
  first-is (parts.answers {e = x} by vs r row found may accepted used) takes h = let k = used-is by x h in record { stack = k.stack; names = k.names }
  first-is (parts.closes {e = x} opened none) takes h = record { stack = h.stack; names = all-filter NamingIs is_actor x.names h.names }
  first-is (parts.dies opened) takes h = record { stack = tt; names = h.names }
  first-is (parts.dies_silent closed dead) takes h = record { stack = tt; names = h.names }
  first-is (parts.takes m sync level row vs next body found stays) takes h = record { stack = (takes row m _ [] refl, h.stack); names = h.names }
  first-is (parts.drops {e = x} m sync level row vs id told next body found missing is) takes h = following-is told (parts.left_end x) (record { stack = h.stack; names = h.names })
  first-is (parts.drops_unknown m sync level vs next body found) takes h = record { stack = h.stack; names = h.names }
  first-is (parts.takes_reply m sync level a next body settling) takes h = record { stack = h.stack; names = h.names }
  first-is (parts.settles m sync level row a next body found awaited) takes h = record { stack = h.stack; names = h.names }
  first-is (parts.shuts {e = x} last next farewell) takes h = record { stack = h.stack; names = all-filter NamingIs is_actor x.names h.names }
  first-is (parts.returns {e = x} entry row vs told lost is told_is lost_is) takes h =
      let popped : End = record x { stack = drop 1 x.stack } in
      following-is lost (end_after told popped) (following-is told popped (record { stack = drop-is x.stack h.stack; names = h.names }))
  first-is (parts.resumes {e = x} wait row top found) takes h = record { stack = drop-is x.stack h.stack; names = h.names }

  delivery-is : {schema : Schema} {packet : Packet} {e f : End} {ws : List What} {ps : List Packet} {q : Phase} → DeliveryPart schema packet e ws ps f q → EndIs e → EndIs f
  delivery-is (parts.gets_request m row vs body found none) h = record { stack = h.stack; names = h.names }
  delivery-is (parts.replaces {e = x} m row vs old sync level told body found rep is) h = following-is told (delivery.counted row (delivery.item_of row m) x) (record { stack = h.stack; names = h.names })
  delivery-is (parts.gets_answer {e = x} m row a body found sync) h = record { stack = answered-is a x.stack h.stack; names = h.names }
  delivery-is (parts.gets_reply m row a body found sync) h = record { stack = h.stack; names = h.names }
  delivery-is (parts.drains {e = x} packet farewell) h = record { stack = failed-is x.stack h.stack; names = h.names }
  delivery-is (parts.passes_by m farewell found) h = h

-- What is handled, or kept, was taken

-- a request was taken or dropped
abbrev pub WasTaken : List What → ℤ → ℕ → Type 0
WasTaken said n number = has (gone said) n ≡ true

abbrev pub Anything : ℕ → Type 0
Anything number = Unit {0}

abbrev pub HandledWereTaken : End → List What → Type 0
HandledWereTaken e said = EndIs (WasTaken said) Anything e

taken-more : (said more : List What) (n : ℤ) → has (gone said) n ≡ true → has (gone (said ++ more)) n ≡ true
taken-more said more n h = has-append number_gone said more n ∙ or_left (has (gone said) n) (has (gone more) n) h

end-more : (said more : List What) (e : End) → HandledWereTaken e said → HandledWereTaken e (said ++ more)
end-more said more e h = record {
  stack = all-map (EntryIs (WasTaken said) Anything) (EntryIs (WasTaken (said ++ more)) Anything) e.stack
      (λ x k. record { handled_is = λ dispatch. taken-more said more (head_of x.frame).seq (k.handled_is dispatch); resolver_is = λ r. tt }) h.stack;
  names = all-map (NamingIs (WasTaken said) Anything) (NamingIs (WasTaken (said ++ more)) Anything) e.names (λ x k. by x.holds k) h.names;
}
  where
    by : (c : NameContent) → ContentIs (WasTaken said) Anything c → ContentIs (WasTaken (said ++ more)) Anything c
    by (actor id) k = tt
    by (resolver r) k = (taken-more said more r.seq k.0, tt)

own-taken : {schema : Schema} {e g : End} {ws : List What} {ps : List Packet} {q : Phase} (said : List What) → OwnParts schema e ws ps g q → HandledWereTaken e said → HandledWereTaken g (said ++ ws)
own-taken said (parts.begun {e = x} {ws = us} {vs = vs} first later over) h =
    laters-are (WasTaken (said ++ (us ++ vs))) Anything later
    (first-is (WasTaken (said ++ (us ++ vs))) Anything first (λ row m values rest is. record { handled_is = λ dispatch. now m values rest is; resolver_is = λ r. tt }) (end-more said (us ++ vs) x h))
  where
    now : (m : Message) (values : _) (rest : List What) → us ≡ what.Take m.seq m.route m.number values ∷ rest → has (gone (said ++ (us ++ vs))) m.seq ≡ true
    now m values rest is =
        has-append number_gone said (us ++ vs) m.seq
        ∙ or_right (has (gone said) m.seq) (has (gone (us ++ vs)) m.seq) (ap (λ (xs : List What). has (gone (xs ++ vs)) m.seq) is ∙ ap (λ (b : Bool). b || has (gone (rest ++ vs)) m.seq) ((Decides-int_eq m.seq m.seq).1 refl))

pub handled-taken : (schema : Schema) → EveryStepKeeps schema HandledWereTaken
handled-taken schema = record {
  begins = λ top side. record { stack = tt; names = tt };
  goes_on = λ e link ev output ws said is at k. by e output ws said k (made-of schema e link ev output is e.side ws at);
}
  where
    by : (e : End) (output : Output) (ws said : List What) → HandledWereTaken e said → MadeOf schema e output ws → HandledWereTaken output.end (said ++ ws)
    by e output ws said k (of_own p) = own-taken said p k
    by e output ws said k (of_delivery packet opened part) = delivery-is (WasTaken (said ++ ws)) Anything part (end-more said ws e k)
