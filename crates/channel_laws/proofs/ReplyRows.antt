-- The number after a request's number is that of its reply alone, and has its protocol.
use Rattle.std.proofs.Common.{◌≡◌, ◌≢◌, ℕ, ◌+◌, ◌/◌, ◌%◌, Bool, true, false, Some, refl, sym, ap, ◌∙◌, arith}
use Rattle.std.specs.List.{slice_get}
use Rattle.std.proofs.lemmas.Option.{same_Some}
use Rattle.ipdl_base.proofs.Numbers.{no_reply}
use Rattle.ipdl_base.specs.declared.schema.MessageRow.{MessageRow}
use Rattle.ipdl_base.specs.declared.schema.Schema.{Schema}
use Rattle.ipdl_base.specs.Sound.{IsSound, has_reply, message_of}
use Rattle.channel_model.specs.Numbers.{protocol_of, request_row}
use Rattle.channel_model.proofs.SoundRows.{IsAt, row-at, reply-row}
use Rattle.channel_laws.proofs.Rows.{request-message, sound_schemas_have_sound_rows}

module _ (schema : Schema) (sound : IsSound schema) (n : ℕ) (row : MessageRow) (request : request_row schema n ≡ Some row) where
  found : message_of schema n ≡ Some row
  found = request-message schema n row request

  number : row.number ≡ n
  number = (sound_schemas_have_sound_rows schema sound n row request).number

  at : IsAt schema n row
  at = row-at schema sound n row found number

  pub reply_protocol : protocol_of (n + 1) ≡ protocol_of n
  reply_protocol = omega (arith, at.even)

  pub reply_row-is : (other : MessageRow) → message_of schema (n + 1) ≡ Some other → other ≡ row
  reply_row-is other e = by (has_reply row) refl
    where
      by : (b : Bool) → has_reply row ≡ b → other ≡ row
      by true r = same_Some other row (sym e ∙ reply-row schema sound n row found number r)
      by false r =
          let message_is : (n + 1) % 65536 / 2 ≡ n % 65536 / 2 = omega (arith, at.even) in
          let odd : (n + 1) % 2 ≢ 0 = omega (arith, at.even) in
          let none = no_reply schema (n + 1) sound at.protocol (ap (slice_get schema.protocols) reply_protocol ∙ at.there) row (ap (slice_get at.protocol.messages) message_is ∙ at.message) odd r in
          cc
