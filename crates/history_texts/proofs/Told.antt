-- The text of a line determines its form.
use Rattle.std.proofs.Common.{◌≡◌, ℕ, ℤ, ◌/◌, ◌==◌, Bool, true, false, ◌&&◌, if◌then◌else◌, List, [], ◌∷◌, ◌++◌, codes, drop, refl, ap, ◌∙◌, append_assoc}
use Rattle.std.specs.Fmt.{signed_decimal}
use Rattle.std.specs.List.{list_all}
use Rattle.ipdl_base.specs.declared.kinds.SendRefusal.{SendRefusal}
use Rattle.ipdl_base.specs.declared.kinds.SendRefusal.TheVariants as causes
use Rattle.ipdl_base.specs.declared.line.What.{What}
use Rattle.ipdl_base.specs.declared.line.What.TheVariants as what
use Rattle.ipdl_base.specs.declared.schema.ParamRow.{ParamRow}
use Rattle.ipdl_base.specs.declared.schema.Schema.{Schema}
use Rattle.ipdl_base.specs.Sound.{IsSound}
use Rattle.ipdl_base.specs.Words.{is_word_byte}
use Rattle.history.specs.Text.{listed_values, message_text, protocol_text, request_text, what_text}
use Rattle.history.specs.Words.{reason_word, refusal_word}
use Rattle.history_texts.proofs.Messages.{message-begins, protocol-words}
use Rattle.history_texts.proofs.Spans.{StopsAt, both, is_number_byte, signed-numbers}
use Rattle.history_texts.proofs.WhatForms.{WhatForm, form_send, form_call, form_refused_send, form_refused_close, form_refused_resolve, form_refused_reject, form_resolve, form_reject, form_keep, form_let, form_close, form_die, form_deliver_request, form_deliver_reply, form_deliver_goodbye, form_deliver_broken, form_take, form_drop, form_take_reply, form_shut_normal, form_shut_abnormal, form_return, form_resume_ok, form_resume_fault, form_flush, form_built, form_replaced, form_answer_ok, form_answer_fault, form_fails, form_resolved, form_rejected, form_fall, what_form}

-- whether a text begins with a word
abbrev pub begins : List ℕ → List ℕ → Bool
begins [] text = true
begins (c ∷ word) [] = false
begins (c ∷ word) (b ∷ text) = (c == b) && begins word text

-- a text without the first bytes that a test accepts
abbrev following : (ℕ → Bool) → List ℕ → List ℕ
following ok [] = []
following ok (b ∷ bs) = if ok b then following ok bs else b ∷ bs

following-span : (ok : ℕ → Bool) (x r : List ℕ) → list_all ok x ≡ true → StopsAt ok r → following ok (x ++ r) ≡ r
following-span ok [] [] h s = refl
following-span ok [] (b ∷ bs) h s = ap (λ (t : Bool). if t then following ok bs else b ∷ bs) s
following-span ok (b ∷ x) r h s =
    let parts = both (ok b) (list_all ok x) h in
    ap (λ (t : Bool). if t then following ok (x ++ r) else b ∷ (x ++ r)) parts.0 ∙ following-span ok x r parts.1 s

-- The form of a text, by its first words

abbrev take_told : List ℕ → WhatForm
take_told text = if begins (codes "reply ") (following is_number_byte text) then form_take_reply else form_take

abbrev resume_told : List ℕ → WhatForm
resume_told text = if begins (codes " ok ") (following is_number_byte text) then form_resume_ok else form_resume_fault

abbrev answer_told : List ℕ → WhatForm
answer_told text = if begins (codes " ok ") (following is_number_byte text) then form_answer_ok else form_answer_fault

abbrev settle_told : List ℕ → WhatForm
settle_told text = if begins (codes " resolved ") (following is_number_byte text) then form_resolved else form_rejected

abbrev act_told : List ℕ → WhatForm
act_told text =
    if begins (codes ".") (following is_word_byte text) then form_refused_send else
    (if begins (codes "close") text then form_refused_close else
    (if begins (codes "resolve") text then form_refused_resolve else form_refused_reject))

abbrev refused_told : List ℕ → WhatForm
refused_told text = act_told (drop 1 (following is_word_byte text))

abbrev pub form_told : List ℕ → WhatForm
form_told text =
    if begins (codes "send ") text then form_send else
    (if begins (codes "call ") text then form_call else
    (if begins (codes "resolve ") text then form_resolve else
    (if begins (codes "reject ") text then form_reject else
    (if begins (codes "keep ") text then form_keep else
    (if begins (codes "let ") text then form_let else
    (if begins (codes "close") text then form_close else
    (if begins (codes "die") text then form_die else
    (if begins (codes "deliver request ") text then form_deliver_request else
    (if begins (codes "deliver reply ") text then form_deliver_reply else
    (if begins (codes "deliver goodbye") text then form_deliver_goodbye else
    (if begins (codes "deliver broken") text then form_deliver_broken else
    (if begins (codes "drop ") text then form_drop else
    (if begins (codes "shut NormalShutdown") text then form_shut_normal else
    (if begins (codes "shut AbnormalShutdown") text then form_shut_abnormal else
    (if begins (codes "return ") text then form_return else
    (if begins (codes "flush ") text then form_flush else
    (if begins (codes "built ") text then form_built else
    (if begins (codes "replaced ") text then form_replaced else
    (if begins (codes "fails ") text then form_fails else
    (if begins (codes "refused ") text then refused_told (drop 8 text) else
    (if begins (codes "take ") text then take_told (drop 5 text) else
    (if begins (codes "resume ") text then resume_told (drop 7 text) else
    (if begins (codes "answer ") text then answer_told (drop 7 text) else
    (if begins (codes "settle ") text then settle_told (drop 7 text) else
    form_fall))))))))))))))))))))))))

-- A text in parts

pub three : (a b c r : List ℕ) → a ++ b ++ c ++ r ≡ a ++ (b ++ (c ++ r))
three a b c r = append_assoc (a ++ b) c r ∙ append_assoc a b (c ++ r)

-- what follows a number is what was put after it
following-number : (n : ℤ) (b c r : List ℕ) → StopsAt is_number_byte (b ++ (c ++ r)) → following is_number_byte (signed_decimal n ++ b ++ c ++ r) ≡ b ++ (c ++ r)
following-number n b c r s = ap (following is_number_byte) (three (signed_decimal n) b c r) ∙ following-span is_number_byte (signed_decimal n) (b ++ (c ++ r)) (signed-numbers n) s

refusal-words : (cause : SendRefusal) → list_all is_word_byte (refusal_word cause) ≡ true
refusal-words causes.Closed = refl
refusal-words causes.DeadActor = refl
refusal-words causes.NestedInNormal = refl
refusal-words causes.InsideCpow = refl
refusal-words causes.LevelTooLow = refl
refusal-words causes.TooDeep = refl
refusal-words causes.TooLarge = refl
refusal-words causes.InCall = refl
refusal-words causes.DeadValue = refl

-- an act follows a cause
following-cause : (cause : SendRefusal) (act r : List ℕ) → StopsAt is_word_byte (act ++ r) → following is_word_byte (refusal_word cause ++ act ++ r) ≡ act ++ r
following-cause cause act r s = ap (following is_word_byte) (append_assoc (refusal_word cause) act r) ∙ following-span is_word_byte (refusal_word cause) (act ++ r) (refusal-words cause) s

module _ (schema : Schema) (sound : IsSound schema) where
  send-told : (number : ℕ) (r : List ℕ) → act_told (message_text schema number ++ r) ≡ form_refused_send
  send-told number r =
      let parts = message-begins schema sound number r in
      ap (λ (text : List ℕ). if begins (codes ".") (following is_word_byte text) then form_refused_send else (if begins (codes "close") (message_text schema number ++ r) then form_refused_close else (if begins (codes "resolve") (message_text schema number ++ r) then form_refused_resolve else form_refused_reject))) parts.1
      ∙ ap (λ (text : List ℕ). if begins (codes ".") text then form_refused_send else (if begins (codes "close") (message_text schema number ++ r) then form_refused_close else (if begins (codes "resolve") (message_text schema number ++ r) then form_refused_resolve else form_refused_reject)))
      (following-span is_word_byte (protocol_text schema (number / 65536)) (46 ∷ parts.0) (protocol-words schema sound (number / 65536)) refl)

  pub form-told : (types : ℤ → List ParamRow) (w : What) (r : List ℕ) → form_told (what_text schema types w ++ 10 ∷ r) ≡ what_form w
  form-told types (what.Send n route message vs) r = refl
  form-told types (what.Call n transaction route message vs) r = refl
  form-told types (what.RefusedSend cause message) r =
      ap (λ (text : List ℕ). act_told (drop 1 text)) (ap (following is_word_byte) (ap (λ (t : List ℕ). t ++ 10 ∷ r) (append_assoc (refusal_word cause) (codes " ") (message_text schema message))) ∙ following-cause cause (codes " " ++ message_text schema message) (10 ∷ r) refl) ∙ send-told message (10 ∷ r)
  form-told types (what.RefusedClose cause) r = ap (λ (text : List ℕ). act_told (drop 1 text)) (following-cause cause (codes " close") (10 ∷ r) refl)
  form-told types (what.RefusedResolve cause) r = ap (λ (text : List ℕ). act_told (drop 1 text)) (following-cause cause (codes " resolve") (10 ∷ r) refl)
  form-told types (what.RefusedReject cause) r = ap (λ (text : List ℕ). act_told (drop 1 text)) (following-cause cause (codes " reject") (10 ∷ r) refl)
  form-told types (what.Resolve n vs) r = refl
  form-told types (what.Reject n) r = refl
  form-told types (what.Keep n name) r = refl
  form-told types (what.Let name id) r = refl
  form-told types what.Close r = refl
  form-told types what.Die r = refl
  form-told types (what.DeliverRequest n) r = refl
  form-told types (what.DeliverReply n) r = refl
  form-told types what.DeliverGoodbye r = refl
  form-told types what.DeliverBroken r = refl
  form-told types (what.Take n route message vs) r = ap (λ (text : List ℕ). if begins (codes "reply ") text then form_take_reply else form_take) (following-number n (codes " at " ++ signed_decimal route) (codes " " ++ request_text schema message vs) (10 ∷ r) refl)
  form-told types (what.Drop n route message id) r = refl
  form-told types (what.TakeReply n) r = refl
  form-told types what.ShutNormal r = refl
  form-told types what.ShutAbnormal r = refl
  form-told types (what.Return n) r = refl
  form-told types (what.ResumeOk n vs) r = ap (λ (text : List ℕ). if begins (codes " ok ") text then form_resume_ok else form_resume_fault) (following-number n (codes " ok ") (listed_values schema (types n) vs) (10 ∷ r) refl)
  form-told types (what.ResumeFault n reason) r = ap (λ (text : List ℕ). if begins (codes " ok ") text then form_resume_ok else form_resume_fault) (following-number n (codes " fault ") (reason_word reason) (10 ∷ r) refl)
  form-told types (what.Flush count) r = refl
  form-told types (what.Built id protocol) r = refl
  form-told types (what.Replaced n) r = refl
  form-told types (what.AnswerOk n vs) r = ap (λ (text : List ℕ). if begins (codes " ok ") text then form_answer_ok else form_answer_fault) (following-number n (codes " ok ") (listed_values schema (types n) vs) (10 ∷ r) refl)
  form-told types (what.AnswerFault n reason) r = ap (λ (text : List ℕ). if begins (codes " ok ") text then form_answer_ok else form_answer_fault) (following-number n (codes " fault ") (reason_word reason) (10 ∷ r) refl)
  form-told types (what.Fails n) r = refl
  form-told types (what.Resolved n vs) r = ap (λ (text : List ℕ). if begins (codes " resolved ") text then form_resolved else form_rejected) (following-number n (codes " resolved ") (listed_values schema (types n) vs) (10 ∷ r) refl)
  form-told types (what.Rejected n reason) r = ap (λ (text : List ℕ). if begins (codes " resolved ") text then form_resolved else form_rejected) (following-number n (codes " rejected ") (reason_word reason) (10 ∷ r) refl)
  form-told types (what.Fall id destroy) r = refl
