-- The text of a line determines its content.
use Rattle.std.proofs.Common.{◌≡◌, ℕ, ℤ, true, if◌then◌else◌, List, ◌∷◌, ◌++◌, codes, drop, Option, refl, sym, ap, subst, ◌∙◌, arith, append_assoc}
use Rattle.std.specs.Fmt.{signed_decimal}
use Rattle.std.specs.List.{list_all}
use Rattle.ipdl_base.specs.declared.kinds.Destroy.{Destroy}
use Rattle.ipdl_base.specs.declared.kinds.Destroy.TheVariants as destroys
use Rattle.ipdl_base.specs.declared.kinds.Reason.{Reason}
use Rattle.ipdl_base.specs.declared.kinds.Reason.TheVariants as reasons
use Rattle.ipdl_base.specs.declared.kinds.SendRefusal.{SendRefusal}
use Rattle.ipdl_base.specs.declared.kinds.SendRefusal.TheVariants as causes
use Rattle.ipdl_base.specs.declared.line.What.{What}
use Rattle.ipdl_base.specs.declared.line.What.TheVariants as what
use Rattle.ipdl_base.specs.declared.schema.ParamRow.{ParamRow}
use Rattle.ipdl_base.specs.declared.schema.Schema.{Schema}
use Rattle.ipdl_base.specs.declared.value.Values.{Values}
use Rattle.ipdl_base.specs.Signatures.{params_of}
use Rattle.ipdl_base.specs.Sound.{IsSound}
use Rattle.ipdl_base.specs.Words.{IsWord, is_word_byte}
use Rattle.history.specs.Text.{listed_values, message_text, numbered, protocol_text, request_text, returns_named, what_text}
use Rattle.history.specs.Words.{destroy_word, reason_word, refusal_word}
use Rattle.channel_laws.specs.PrintedNames.{finds_names, is_printable_message}
use Rattle.history_texts.proofs.Messages.{messages-decide, protocols-decide, word-bytes}
use Rattle.history_texts.proofs.Spans.{Stops, StopsAt, counts-decide, numbers-decide, spans}
use Rattle.history_texts.proofs.Told.{begins, form-told, form_told, three}
use Rattle.history_texts.proofs.Values.{cancelled, listed-decide}
use Rattle.history_texts.proofs.WhatForms.{WhatForm, cause_in, destroy_in, first_in, message_in, name_in, reason_in, said, said-again, second_in, third_in, values_in, what_form}
use Rattle.history_texts.specs.Held.{IsNumber}
use Rattle.history_texts.specs.Typed.{AreOf, SaysTyped}

-- Words for constants, one for each

module _ {A : Type 0} (word : A → List ℕ) (told : List ℕ → A) (is : (a : A) → told (word a) ≡ a) (all : (a : A) → list_all is_word_byte (word a) ≡ true) where
  word-decides : (a b : A) (r q : List ℕ) → StopsAt is_word_byte r → StopsAt is_word_byte q → word a ++ r ≡ word b ++ q → (a ≡ b) × (r ≡ q)
  word-decides a b r q s t e =
      let parts = spans is_word_byte (word a) (word b) r q (all a) (all b) s t e in
      (sym (is a) ∙ ap told parts.0 ∙ is b, parts.1)

abbrev cause_told : List ℕ → SendRefusal
cause_told text =
    if begins (codes "Closed") text then causes.Closed else
    (if begins (codes "DeadActor") text then causes.DeadActor else
    (if begins (codes "NestedInNormal") text then causes.NestedInNormal else
    (if begins (codes "InsideCpow") text then causes.InsideCpow else
    (if begins (codes "LevelTooLow") text then causes.LevelTooLow else
    (if begins (codes "TooDeep") text then causes.TooDeep else
    (if begins (codes "TooLarge") text then causes.TooLarge else
    (if begins (codes "InCall") text then causes.InCall else
    causes.DeadValue)))))))

cause-is : (a : SendRefusal) → cause_told (refusal_word a) ≡ a
cause-is causes.Closed = refl
cause-is causes.DeadActor = refl
cause-is causes.NestedInNormal = refl
cause-is causes.InsideCpow = refl
cause-is causes.LevelTooLow = refl
cause-is causes.TooDeep = refl
cause-is causes.TooLarge = refl
cause-is causes.InCall = refl
cause-is causes.DeadValue = refl

cause-all : (a : SendRefusal) → list_all is_word_byte (refusal_word a) ≡ true
cause-all causes.Closed = refl
cause-all causes.DeadActor = refl
cause-all causes.NestedInNormal = refl
cause-all causes.InsideCpow = refl
cause-all causes.LevelTooLow = refl
cause-all causes.TooDeep = refl
cause-all causes.TooLarge = refl
cause-all causes.InCall = refl
cause-all causes.DeadValue = refl

cause-decides : (a b : SendRefusal) (r q : List ℕ) → StopsAt is_word_byte r → StopsAt is_word_byte q → refusal_word a ++ r ≡ refusal_word b ++ q → (a ≡ b) × (r ≡ q)
cause-decides = word-decides refusal_word cause_told cause-is cause-all

abbrev reason_told : List ℕ → Reason
reason_told text =
    if begins (codes "ChannelClosed") text then reasons.ChannelClosed else
    (if begins (codes "HandlerRejected") text then reasons.HandlerRejected else
    (if begins (codes "ActorDestroyed") text then reasons.ActorDestroyed else
    reasons.ResolverDestroyed))

reason-is : (a : Reason) → reason_told (reason_word a) ≡ a
reason-is reasons.ChannelClosed = refl
reason-is reasons.HandlerRejected = refl
reason-is reasons.ActorDestroyed = refl
reason-is reasons.ResolverDestroyed = refl

reason-all : (a : Reason) → list_all is_word_byte (reason_word a) ≡ true
reason-all reasons.ChannelClosed = refl
reason-all reasons.HandlerRejected = refl
reason-all reasons.ActorDestroyed = refl
reason-all reasons.ResolverDestroyed = refl

reason-decides : (a b : Reason) (r q : List ℕ) → StopsAt is_word_byte r → StopsAt is_word_byte q → reason_word a ++ r ≡ reason_word b ++ q → (a ≡ b) × (r ≡ q)
reason-decides = word-decides reason_word reason_told reason-is reason-all

abbrev destroy_told : List ℕ → Destroy
destroy_told text =
    if begins (codes "Deletion") text then destroys.Deletion else
    (if begins (codes "AncestorDeletion") text then destroys.AncestorDeletion else
    (if begins (codes "NormalShutdown") text then destroys.NormalShutdown else
    destroys.AbnormalShutdown))

destroy-is : (a : Destroy) → destroy_told (destroy_word a) ≡ a
destroy-is destroys.Deletion = refl
destroy-is destroys.AncestorDeletion = refl
destroy-is destroys.NormalShutdown = refl
destroy-is destroys.AbnormalShutdown = refl

destroy-all : (a : Destroy) → list_all is_word_byte (destroy_word a) ≡ true
destroy-all destroys.Deletion = refl
destroy-all destroys.AncestorDeletion = refl
destroy-all destroys.NormalShutdown = refl
destroy-all destroys.AbnormalShutdown = refl

destroy-decides : (a b : Destroy) (r q : List ℕ) → StopsAt is_word_byte r → StopsAt is_word_byte q → destroy_word a ++ r ≡ destroy_word b ++ q → (a ≡ b) × (r ≡ q)
destroy-decides = word-decides destroy_word destroy_told destroy-is destroy-all

-- A number after a word, and what follows it

number-decides : (word : List ℕ) (m n : ℤ) (r q : List ℕ) → IsNumber m → IsNumber n → Stops r → Stops q → numbered word m ++ r ≡ numbered word n ++ q → (m ≡ n) × (r ≡ q)
number-decides word m n r q h k s t e =
    numbers-decide m n r q (omega (arith, h)) (omega (arith, k)) s t
    (cancelled word (signed_decimal m ++ r) (signed_decimal n ++ q) (sym (append_assoc word (signed_decimal m) r) ∙ e ∙ append_assoc word (signed_decimal n) q))

tail-decides : (word : List ℕ) (m n : ℤ) (between x y r q : List ℕ) → IsNumber m → IsNumber n → Stops (between ++ (x ++ r)) → Stops (between ++ (y ++ q))
    → numbered word m ++ between ++ x ++ r ≡ numbered word n ++ between ++ y ++ q → (m ≡ n) × (x ++ r ≡ y ++ q)
tail-decides word m n between x y r q h k s t e =
    let d = number-decides word m n (between ++ (x ++ r)) (between ++ (y ++ q)) h k s t (sym (three (numbered word m) between x r) ∙ e ∙ three (numbered word n) between y q) in
    (d.0, cancelled between (x ++ r) (y ++ q) d.1)

name-decides : (a b r q : List ℕ) → IsWord a → IsWord b → StopsAt is_word_byte r → StopsAt is_word_byte q → a ++ r ≡ b ++ q → (a ≡ b) × (r ≡ q)
name-decides a b r q h k s t e = spans is_word_byte a b r q (word-bytes a h) (word-bytes b k) s t e

-- a refused act
refused-decides : (a b : SendRefusal) (act r q : List ℕ) → StopsAt is_word_byte (act ++ r) → StopsAt is_word_byte (act ++ q) → refusal_word a ++ act ++ r ≡ refusal_word b ++ act ++ q → (a ≡ b) × (r ≡ q)
refused-decides a b act r q s t e =
    let d = cause-decides a b (act ++ r) (act ++ q) s t (sym (append_assoc (refusal_word a) act r) ∙ e ∙ append_assoc (refusal_word b) act q) in
    (d.0, cancelled act r q d.1)

four : (a b c d r : List ℕ) → a ++ b ++ c ++ d ++ r ≡ a ++ (b ++ (c ++ (d ++ r)))
four a b c d r = append_assoc (a ++ b ++ c) d r ∙ three a b c (d ++ r)

module _ (schema : Schema) (sound : IsSound schema) where
  values-decide : (fields : List ParamRow) (vs ws : Values) (r q : List ℕ) → AreOf schema fields vs → AreOf schema fields ws → listed_values schema fields vs ++ r ≡ listed_values schema fields ws ++ q → (vs ≡ ws) × (r ≡ q)
  values-decide fields vs ws r q h k e =
      let d = listed-decide schema fields vs ws r q h.typed k.typed h.held k.held e in
      (sym h.plain ∙ d.0 ∙ k.plain, d.1)

  request-decides : (m n : ℕ) (vs ws : Values) (r q : List ℕ) → is_printable_message schema m ≡ true → is_printable_message schema n ≡ true → AreOf schema (params_of schema m) vs → AreOf schema (params_of schema n) ws
      → request_text schema m vs ++ r ≡ request_text schema n ws ++ q → (m ≡ n) × (vs ≡ ws) × (r ≡ q)
  request-decides m n vs ws r q h k i j e =
      let first = messages-decide schema sound m n (listed_values schema (params_of schema m) vs ++ r) (listed_values schema (params_of schema n) ws ++ q) h k refl refl
      (sym (append_assoc (message_text schema m) (listed_values schema (params_of schema m) vs) r) ∙ e ∙ append_assoc (message_text schema n) (listed_values schema (params_of schema n) ws) q) in
      let second = values-decide (params_of schema m) vs ws r q i (subst (λ (x : ℕ). AreOf schema (params_of schema x) ws) (sym first.0) j)
      (first.1 ∙ ap (λ (x : ℕ). listed_values schema (params_of schema x) ws ++ q) (sym first.0)) in
      (first.0, second.0, second.1)

  -- an actor, and then a request
  sent-decides : (word : List ℕ) (route way : ℤ) (m n : ℕ) (vs ws : Values) (r q : List ℕ) → IsNumber route → IsNumber way → is_printable_message schema m ≡ true → is_printable_message schema n ≡ true
      → AreOf schema (params_of schema m) vs → AreOf schema (params_of schema n) ws
      → numbered word route ++ ((codes " " ++ request_text schema m vs) ++ r) ≡ numbered word way ++ ((codes " " ++ request_text schema n ws) ++ q) → (route ≡ way) × (m ≡ n) × (vs ≡ ws) × (r ≡ q)
  sent-decides word route way m n vs ws r q a b h k i j e =
      let first = number-decides word route way ((codes " " ++ request_text schema m vs) ++ r) ((codes " " ++ request_text schema n ws) ++ q) a b refl refl e in
      let second = request-decides m n vs ws r q h k i j (ap (drop 1) first.1) in
      (first.0, second.0, second.1, second.2)

  module _ (noted : ℤ → Option ℕ) where
    abbrev types : ℤ → List ParamRow
    types n = returns_named schema (noted n)

    -- values by the number of their request
    answer-decides : (n m : ℤ) → n ≡ m → (vs ws : Values) (r q : List ℕ) → AreOf schema (types n) vs → AreOf schema (types m) ws
        → listed_values schema (types n) vs ++ r ≡ listed_values schema (types m) ws ++ q → (vs ≡ ws) × (r ≡ q)
    answer-decides n m same vs ws r q h k e =
        values-decide (types n) vs ws r q h (subst (λ (x : ℤ). AreOf schema (types x) ws) (sym same) k) (e ∙ ap (λ (x : ℤ). listed_values schema (types x) ws ++ q) (sym same))

    abbrev Says : What → Type 0
    Says w = SaysTyped schema types w × (finds_names schema noted w ≡ true)

    by-form : (w u : What) (r q : List ℕ) → Says w → Says (said (what_form w) u) → what_text schema types w ++ 10 ∷ r ≡ what_text schema types (said (what_form w) u) ++ 10 ∷ q → (w ≡ said (what_form w) u) × (r ≡ q)
    by-form (what.Send n route message vs) u r q s t e =
        let first : numbered (codes "send ") n ++ (numbered (codes " to ") route ++ ((codes " " ++ request_text schema message vs) ++ 10 ∷ r))
        ≡ numbered (codes "send ") (first_in u) ++ (numbered (codes " to ") (third_in u) ++ ((codes " " ++ request_text schema (message_in u) (values_in u)) ++ 10 ∷ q)) =
        sym (three (numbered (codes "send ") n) (numbered (codes " to ") route) (codes " " ++ request_text schema message vs) (10 ∷ r)) ∙ e
        ∙ three (numbered (codes "send ") (first_in u)) (numbered (codes " to ") (third_in u)) (codes " " ++ request_text schema (message_in u) (values_in u)) (10 ∷ q) in
        let a = number-decides (codes "send ") n (first_in u) _ _ s.0.0 t.0.0 refl refl first in
        let b = sent-decides (codes " to ") route (third_in u) message (message_in u) vs (values_in u) (10 ∷ r) (10 ∷ q) s.0.1 t.0.1 s.1 t.1 s.0.2 t.0.2 a.1 in
        ((λ z. what.Send (a.0 z) (b.0 z) (b.1 z) (b.2 z)), ap (drop 1) b.3)
    by-form (what.Call n transaction route message vs) u r q s t e =
        let first : numbered (codes "call ") n ++ (numbered (codes "/") transaction ++ (numbered (codes " to ") route ++ ((codes " " ++ request_text schema message vs) ++ 10 ∷ r)))
        ≡ numbered (codes "call ") (first_in u) ++ (numbered (codes "/") (second_in u) ++ (numbered (codes " to ") (third_in u) ++ ((codes " " ++ request_text schema (message_in u) (values_in u)) ++ 10 ∷ q))) =
        sym (four (numbered (codes "call ") n) (numbered (codes "/") transaction) (numbered (codes " to ") route) (codes " " ++ request_text schema message vs) (10 ∷ r)) ∙ e
        ∙ four (numbered (codes "call ") (first_in u)) (numbered (codes "/") (second_in u)) (numbered (codes " to ") (third_in u)) (codes " " ++ request_text schema (message_in u) (values_in u)) (10 ∷ q) in
        let a = number-decides (codes "call ") n (first_in u) _ _ s.0.0 t.0.0 refl refl first in
        let b = number-decides (codes "/") transaction (second_in u) _ _ s.0.1 t.0.1 refl refl a.1 in
        let c = sent-decides (codes " to ") route (third_in u) message (message_in u) vs (values_in u) (10 ∷ r) (10 ∷ q) s.0.2 t.0.2 s.1 t.1 s.0.3 t.0.3 b.1 in
        ((λ z. what.Call (a.0 z) (b.0 z) (c.0 z) (c.1 z) (c.2 z)), ap (drop 1) c.3)
    by-form (what.RefusedSend cause message) u r q s t e =
        let first : refusal_word cause ++ (codes " " ++ (message_text schema message ++ 10 ∷ r)) ≡ refusal_word (cause_in u) ++ (codes " " ++ (message_text schema (message_in u) ++ 10 ∷ q)) =
        sym (three (refusal_word cause) (codes " ") (message_text schema message) (10 ∷ r)) ∙ ap (drop 8) e ∙ three (refusal_word (cause_in u)) (codes " ") (message_text schema (message_in u)) (10 ∷ q) in
        let a = cause-decides cause (cause_in u) _ _ refl refl first in
        let b = messages-decide schema sound message (message_in u) (10 ∷ r) (10 ∷ q) s.1 t.1 refl refl (ap (drop 1) a.1) in
        ((λ z. what.RefusedSend (a.0 z) (b.0 z)), ap (drop 1) b.1)
    by-form (what.RefusedClose cause) u r q s t e =
        let a = refused-decides cause (cause_in u) (codes " close") (10 ∷ r) (10 ∷ q) refl refl (ap (drop 8) e) in
        (ap what.RefusedClose a.0, ap (drop 1) a.1)
    by-form (what.RefusedResolve cause) u r q s t e =
        let a = refused-decides cause (cause_in u) (codes " resolve") (10 ∷ r) (10 ∷ q) refl refl (ap (drop 8) e) in
        (ap what.RefusedResolve a.0, ap (drop 1) a.1)
    by-form (what.RefusedReject cause) u r q s t e =
        let a = refused-decides cause (cause_in u) (codes " reject") (10 ∷ r) (10 ∷ q) refl refl (ap (drop 8) e) in
        (ap what.RefusedReject a.0, ap (drop 1) a.1)
    by-form (what.Resolve n vs) u r q s t e =
        let a = tail-decides (codes "resolve ") n (first_in u) (codes " ") (listed_values schema (types n) vs) (listed_values schema (types (first_in u)) (values_in u)) (10 ∷ r) (10 ∷ q) s.0.0 t.0.0 refl refl e in
        let b = answer-decides n (first_in u) a.0 vs (values_in u) (10 ∷ r) (10 ∷ q) s.0.1 t.0.1 a.1 in
        ((λ z. what.Resolve (a.0 z) (b.0 z)), ap (drop 1) b.1)
    by-form (what.Reject n) u r q s t e =
        let a = number-decides (codes "reject ") n (first_in u) (10 ∷ r) (10 ∷ q) s.0 t.0 refl refl e in
        (ap what.Reject a.0, ap (drop 1) a.1)
    by-form (what.Keep n name) u r q s t e =
        let a = tail-decides (codes "keep ") n (first_in u) (codes " ") name (name_in u) (10 ∷ r) (10 ∷ q) s.0.0 t.0.0 refl refl e in
        let b = name-decides name (name_in u) (10 ∷ r) (10 ∷ q) s.0.1 t.0.1 refl refl a.1 in
        ((λ z. what.Keep (a.0 z) (b.0 z)), ap (drop 1) b.1)
    by-form (what.Let name id) u r q s t e =
        let first : name ++ (numbered (codes " ") id ++ 10 ∷ r) ≡ name_in u ++ (numbered (codes " ") (second_in u) ++ 10 ∷ q) =
        sym (append_assoc name (numbered (codes " ") id) (10 ∷ r)) ∙ ap (drop 4) e ∙ append_assoc (name_in u) (numbered (codes " ") (second_in u)) (10 ∷ q) in
        let a = name-decides name (name_in u) _ _ s.0.1 t.0.1 refl refl first in
        let b = number-decides (codes " ") id (second_in u) (10 ∷ r) (10 ∷ q) s.0.0 t.0.0 refl refl a.1 in
        ((λ z. what.Let (a.0 z) (b.0 z)), ap (drop 1) b.1)
    by-form what.Close u r q s t e =
        (refl, ap (drop 6) e)
    by-form what.Die u r q s t e =
        (refl, ap (drop 4) e)
    by-form (what.DeliverRequest n) u r q s t e =
        let a = number-decides (codes "deliver request ") n (first_in u) (10 ∷ r) (10 ∷ q) s.0 t.0 refl refl e in
        (ap what.DeliverRequest a.0, ap (drop 1) a.1)
    by-form (what.DeliverReply n) u r q s t e =
        let a = number-decides (codes "deliver reply ") n (first_in u) (10 ∷ r) (10 ∷ q) s.0 t.0 refl refl e in
        (ap what.DeliverReply a.0, ap (drop 1) a.1)
    by-form what.DeliverGoodbye u r q s t e =
        (refl, ap (drop 16) e)
    by-form what.DeliverBroken u r q s t e =
        (refl, ap (drop 15) e)
    by-form (what.Take n route message vs) u r q s t e =
        let first : numbered (codes "take ") n ++ (numbered (codes " at ") route ++ ((codes " " ++ request_text schema message vs) ++ 10 ∷ r))
        ≡ numbered (codes "take ") (first_in u) ++ (numbered (codes " at ") (third_in u) ++ ((codes " " ++ request_text schema (message_in u) (values_in u)) ++ 10 ∷ q)) =
        sym (three (numbered (codes "take ") n) (numbered (codes " at ") route) (codes " " ++ request_text schema message vs) (10 ∷ r)) ∙ e
        ∙ three (numbered (codes "take ") (first_in u)) (numbered (codes " at ") (third_in u)) (codes " " ++ request_text schema (message_in u) (values_in u)) (10 ∷ q) in
        let a = number-decides (codes "take ") n (first_in u) _ _ s.0.0 t.0.0 refl refl first in
        let b = sent-decides (codes " at ") route (third_in u) message (message_in u) vs (values_in u) (10 ∷ r) (10 ∷ q) s.0.1 t.0.1 s.1 t.1 s.0.2 t.0.2 a.1 in
        ((λ z. what.Take (a.0 z) (b.0 z) (b.1 z) (b.2 z)), ap (drop 1) b.3)
    by-form (what.Drop n route message id) u r q s t e =
        let first : numbered (codes "drop ") n ++ (numbered (codes " at ") route ++ ((codes " " ++ message_text schema message) ++ (numbered (codes " for ") id ++ 10 ∷ r)))
        ≡ numbered (codes "drop ") (first_in u) ++ (numbered (codes " at ") (third_in u) ++ ((codes " " ++ message_text schema (message_in u)) ++ (numbered (codes " for ") (second_in u) ++ 10 ∷ q))) =
        sym (four (numbered (codes "drop ") n) (numbered (codes " at ") route) (codes " " ++ message_text schema message) (numbered (codes " for ") id) (10 ∷ r)) ∙ e
        ∙ four (numbered (codes "drop ") (first_in u)) (numbered (codes " at ") (third_in u)) (codes " " ++ message_text schema (message_in u)) (numbered (codes " for ") (second_in u)) (10 ∷ q) in
        let a = number-decides (codes "drop ") n (first_in u) _ _ s.0.0 t.0.0 refl refl first in
        let b = number-decides (codes " at ") route (third_in u) _ _ s.0.1 t.0.1 refl refl a.1 in
        let c = messages-decide schema sound message (message_in u) (numbered (codes " for ") id ++ 10 ∷ r) (numbered (codes " for ") (second_in u) ++ 10 ∷ q) s.1 t.1 refl refl (ap (drop 1) b.1) in
        let d = number-decides (codes " for ") id (second_in u) (10 ∷ r) (10 ∷ q) s.0.2 t.0.2 refl refl c.1 in
        ((λ z. what.Drop (a.0 z) (b.0 z) (c.0 z) (d.0 z)), ap (drop 1) d.1)
    by-form (what.TakeReply n) u r q s t e =
        let a = number-decides (codes "take reply ") n (first_in u) (10 ∷ r) (10 ∷ q) s.0 t.0 refl refl e in
        (ap what.TakeReply a.0, ap (drop 1) a.1)
    by-form what.ShutNormal u r q s t e =
        (refl, ap (drop 20) e)
    by-form what.ShutAbnormal u r q s t e =
        (refl, ap (drop 22) e)
    by-form (what.Return n) u r q s t e =
        let a = number-decides (codes "return ") n (first_in u) (10 ∷ r) (10 ∷ q) s.0 t.0 refl refl e in
        (ap what.Return a.0, ap (drop 1) a.1)
    by-form (what.ResumeOk n vs) u r q s t e =
        let a = tail-decides (codes "resume ") n (first_in u) (codes " ok ") (listed_values schema (types n) vs) (listed_values schema (types (first_in u)) (values_in u)) (10 ∷ r) (10 ∷ q) s.0.0 t.0.0 refl refl e in
        let b = answer-decides n (first_in u) a.0 vs (values_in u) (10 ∷ r) (10 ∷ q) s.0.1 t.0.1 a.1 in
        ((λ z. what.ResumeOk (a.0 z) (b.0 z)), ap (drop 1) b.1)
    by-form (what.ResumeFault n reason) u r q s t e =
        let a = tail-decides (codes "resume ") n (first_in u) (codes " fault ") (reason_word reason) (reason_word (reason_in u)) (10 ∷ r) (10 ∷ q) s.0 t.0 refl refl e in
        let b = reason-decides reason (reason_in u) (10 ∷ r) (10 ∷ q) refl refl a.1 in
        ((λ z. what.ResumeFault (a.0 z) (b.0 z)), ap (drop 1) b.1)
    by-form (what.Flush count) u r q s t e =
        let a = counts-decide count (message_in u) (10 ∷ r) (10 ∷ q) (omega (arith, s.0)) (omega (arith, t.0)) refl refl (ap (drop 6) e) in
        (ap what.Flush a.0, ap (drop 1) a.1)
    by-form (what.Built id protocol) u r q s t e =
        let a = tail-decides (codes "built ") id (second_in u) (codes " ") (protocol_text schema protocol) (protocol_text schema (message_in u)) (10 ∷ r) (10 ∷ q) s.0 t.0 refl refl e in
        let b = protocols-decide schema sound protocol (message_in u) (10 ∷ r) (10 ∷ q) s.1 t.1 refl refl a.1 in
        ((λ z. what.Built (a.0 z) (b.0 z)), ap (drop 1) b.1)
    by-form (what.Replaced n) u r q s t e =
        let a = number-decides (codes "replaced ") n (first_in u) (10 ∷ r) (10 ∷ q) s.0 t.0 refl refl e in
        (ap what.Replaced a.0, ap (drop 1) a.1)
    by-form (what.AnswerOk n vs) u r q s t e =
        let a = tail-decides (codes "answer ") n (first_in u) (codes " ok ") (listed_values schema (types n) vs) (listed_values schema (types (first_in u)) (values_in u)) (10 ∷ r) (10 ∷ q) s.0.0 t.0.0 refl refl e in
        let b = answer-decides n (first_in u) a.0 vs (values_in u) (10 ∷ r) (10 ∷ q) s.0.1 t.0.1 a.1 in
        ((λ z. what.AnswerOk (a.0 z) (b.0 z)), ap (drop 1) b.1)
    by-form (what.AnswerFault n reason) u r q s t e =
        let a = tail-decides (codes "answer ") n (first_in u) (codes " fault ") (reason_word reason) (reason_word (reason_in u)) (10 ∷ r) (10 ∷ q) s.0 t.0 refl refl e in
        let b = reason-decides reason (reason_in u) (10 ∷ r) (10 ∷ q) refl refl a.1 in
        ((λ z. what.AnswerFault (a.0 z) (b.0 z)), ap (drop 1) b.1)
    by-form (what.Fails n) u r q s t e =
        let a = number-decides (codes "fails ") n (first_in u) (10 ∷ r) (10 ∷ q) s.0 t.0 refl refl e in
        (ap what.Fails a.0, ap (drop 1) a.1)
    by-form (what.Resolved n vs) u r q s t e =
        let a = tail-decides (codes "settle ") n (first_in u) (codes " resolved ") (listed_values schema (types n) vs) (listed_values schema (types (first_in u)) (values_in u)) (10 ∷ r) (10 ∷ q) s.0.0 t.0.0 refl refl e in
        let b = answer-decides n (first_in u) a.0 vs (values_in u) (10 ∷ r) (10 ∷ q) s.0.1 t.0.1 a.1 in
        ((λ z. what.Resolved (a.0 z) (b.0 z)), ap (drop 1) b.1)
    by-form (what.Rejected n reason) u r q s t e =
        let a = tail-decides (codes "settle ") n (first_in u) (codes " rejected ") (reason_word reason) (reason_word (reason_in u)) (10 ∷ r) (10 ∷ q) s.0 t.0 refl refl e in
        let b = reason-decides reason (reason_in u) (10 ∷ r) (10 ∷ q) refl refl a.1 in
        ((λ z. what.Rejected (a.0 z) (b.0 z)), ap (drop 1) b.1)
    by-form (what.Fall id destroy) u r q s t e =
        let a = tail-decides (codes "fall ") id (second_in u) (codes " ") (destroy_word destroy) (destroy_word (destroy_in u)) (10 ∷ r) (10 ∷ q) s.0 t.0 refl refl e in
        let b = destroy-decides destroy (destroy_in u) (10 ∷ r) (10 ∷ q) refl refl a.1 in
        ((λ z. what.Fall (a.0 z) (b.0 z)), ap (drop 1) b.1)

    -- Two lines at one end, after the same lines, have the same content if they have the same text.
    pub whats-decide : (w v : What) (r q : List ℕ) → Says w → Says v → what_text schema types w ++ 10 ∷ r ≡ what_text schema types v ++ 10 ∷ q → (w ≡ v) × (r ≡ q)
    whats-decide w v r q s t e =
        let same : what_form v ≡ what_form w = sym (form-told schema sound types v q) ∙ ap form_told (sym e) ∙ form-told schema sound types w r in
        let is : said (what_form w) v ≡ v = ap (λ (f : WhatForm). said f v) (sym same) ∙ sym (said-again v) in
        let d = by-form w v r q s (subst Says (sym is) t) (e ∙ ap (λ (x : What). what_text schema types x ++ 10 ∷ q) (sym is)) in
        (d.0 ∙ is, d.1)
