-- What the soundness of a schema implies for the row of a request's number.
use Rattle.std.proofs.Common.{◌≡◌, ◌≢◌, ℕ, ◌+◌, ◌*◌, ◌/◌, ◌%◌, Bool, true, false, ◌==◌, ◌⊎◌, Option, Some, None, inl, inr, refl, sym, ap, subst, ◌∙◌, arith}
use Rattle.std.specs.List.{slice_get}
use Rattle.std.proofs.lemmas.Option.{same_Some}
use Rattle.std.proofs.lemmas.Bool.{cases_Bool, eqb-true, eq-eqb}
use Rattle.ipdl_base.specs.declared.schema.MessageRow.{MessageRow}
use Rattle.ipdl_base.specs.declared.schema.ProtocolRow.{ProtocolRow}
use Rattle.ipdl_base.specs.declared.schema.Schema.{Schema}
use Rattle.ipdl_base.specs.Sound.{IsSound, IsSoundMessage, has_reply, message_of}
use Rattle.ipdl_base.proofs.Numbers.{no_protocol, no_message, request_found, reply_found, no_reply}

even_or_not : (n : ℕ) → (n % 2 ≡ 0) ⊎ (n % 2 ≢ 0)
even_or_not n = elim (cases_Bool (n % 2 == 0)) [ inl q ↦ inl (eqb-true (n % 2) 0 q) | inr q ↦ inr (λ e. let k : (n % 2 == 0) ≡ true = eq-eqb (n % 2) 0 e in let l : true ≡ false = sym k ∙ q in cc) ]

-- The row of a request's number, at its place.
pub record IsAt (schema : Schema) (n : ℕ) (row : MessageRow) : Type 0 where
  pub protocol : ProtocolRow
  pub there : slice_get schema.protocols (n / 65536) ≡ Some protocol
  pub message : slice_get protocol.messages (n % 65536 / 2) ≡ Some row
  pub even : n % 2 ≡ 0
  pub sound : IsSoundMessage schema (n / 65536) protocol (n % 65536 / 2) row

module _ (schema : Schema) (sound : IsSound schema) (n : ℕ) (row : MessageRow) (found : message_of schema n ≡ Some row) (number : row.number ≡ n) where
  sound_at : (protocol : ProtocolRow) (m : MessageRow) → slice_get schema.protocols (n / 65536) ≡ Some protocol → slice_get protocol.messages (n % 65536 / 2) ≡ Some m → IsSoundMessage schema (n / 65536) protocol (n % 65536 / 2) m
  sound_at protocol m at e = (sound.protocols (n / 65536) protocol at).messages (n % 65536 / 2) m e

  even-at : (protocol : ProtocolRow) (m : MessageRow) (at : slice_get schema.protocols (n / 65536) ≡ Some protocol) (e : slice_get protocol.messages (n % 65536 / 2) ≡ Some m) → n % 2 ≡ 0 → IsAt schema n row
  even-at protocol m at e even =
      let same_row : m ≡ row = same_Some m row (request_found schema n sound protocol at m e even ∙ found) in
      record { protocol = protocol; there = at; message = e ∙ ap (λ (x : MessageRow). Some x) same_row; even = even; sound = subst (IsSoundMessage schema (n / 65536) protocol (n % 65536 / 2)) same_row (sound_at protocol m at e) }

  odd-at : {A : Type 0} (protocol : ProtocolRow) (m : MessageRow) (at : slice_get schema.protocols (n / 65536) ≡ Some protocol) (e : slice_get protocol.messages (n % 65536 / 2) ≡ Some m) (b : Bool) → has_reply m ≡ b → n % 2 ≢ 0 → A
  odd-at protocol m at e true r odd =
      let same_row : m ≡ row = same_Some m row (reply_found schema n sound protocol at m e odd r ∙ found) in
      let k : m.number ≡ n = ap (λ (x : MessageRow). x.number) same_row ∙ number in
      let l : m.number ≡ n / 65536 * 65536 + 2 * (n % 65536 / 2) = (sound_at protocol m at e).number in
      absurd (odd (omega arith))
  odd-at protocol m at e false r odd = let k : None ≡ message_of schema n = no_reply schema n sound protocol at m e odd r in cc

  at-message : (protocol : ProtocolRow) (m : MessageRow) (at : slice_get schema.protocols (n / 65536) ≡ Some protocol) (e : slice_get protocol.messages (n % 65536 / 2) ≡ Some m) → (n % 2 ≡ 0) ⊎ (n % 2 ≢ 0) → IsAt schema n row
  at-message protocol m at e (inl even) = even-at protocol m at e even
  at-message protocol m at e (inr odd) = odd-at protocol m at e (has_reply m) refl odd

  at-messages : (protocol : ProtocolRow) (at : slice_get schema.protocols (n / 65536) ≡ Some protocol) (m : Option MessageRow) → slice_get protocol.messages (n % 65536 / 2) ≡ m → IsAt schema n row
  at-messages protocol at None e = let k : None ≡ message_of schema n = no_message schema n sound protocol at e in cc
  at-messages protocol at (Some m) e = at-message protocol m at e (even_or_not n)

  at-protocol : (p : Option ProtocolRow) → slice_get schema.protocols (n / 65536) ≡ p → IsAt schema n row
  at-protocol None is = let k : None ≡ message_of schema n = no_protocol schema n sound is in cc
  at-protocol (Some protocol) is = at-messages protocol is (slice_get protocol.messages (n % 65536 / 2)) refl

  pub row-at : IsAt schema n row
  row-at = at-protocol (slice_get schema.protocols (n / 65536)) refl

  -- the next number is that of the reply, where the message has one
  pub reply-row : has_reply row ≡ true → message_of schema (n + 1) ≡ Some row
  reply-row r =
      let at : IsAt schema n row = row-at in
      let protocol_is : (n + 1) / 65536 ≡ n / 65536 = omega (arith, at.even) in
      let message_is : (n + 1) % 65536 / 2 ≡ n % 65536 / 2 = omega (arith, at.even) in
      let odd : (n + 1) % 2 ≢ 0 = omega (arith, at.even) in
      sym (reply_found schema (n + 1) sound at.protocol (ap (slice_get schema.protocols) protocol_is ∙ at.there) row (ap (slice_get at.protocol.messages) message_is ∙ at.message) odd r)
