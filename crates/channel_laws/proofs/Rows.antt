-- What the soundness of a schema implies for rows.
use Rattle.std.proofs.Common.{◌≡◌, ◌≢◌, ℕ, ◌+◌, ◌/◌, ◌%◌, Bool, true, false, ◌||◌, Option, Some, is_some, refl, sym, ap, ◌∙◌, arith}
use Rattle.std.specs.List.{slice_get}
use Rattle.std.specs.Option.{option_map_or}
use Rattle.ipdl_base.specs.declared.kinds.Compress.{Compress}
use Rattle.ipdl_base.specs.declared.kinds.Compress.TheVariants as compress
use Rattle.ipdl_base.specs.declared.kinds.Direction.{Direction}
use Rattle.ipdl_base.specs.declared.kinds.Direction.TheVariants as direction
use Rattle.ipdl_base.specs.declared.kinds.Level.{Level}
use Rattle.ipdl_base.specs.declared.kinds.Level.TheVariants.{Not, InsideSync, InsideCpow}
use Rattle.ipdl_base.specs.declared.kinds.Semantics.{Semantics}
use Rattle.ipdl_base.specs.declared.kinds.Semantics.TheVariants.{Async, Sync}
use Rattle.ipdl_base.specs.declared.kinds.Side.TheVariants.{Parent}
use Rattle.ipdl_base.specs.declared.schema.MessageRow.{MessageRow}
use Rattle.ipdl_base.specs.declared.schema.Schema.{Schema}
use Rattle.ipdl_base.specs.Sound.{IsSound, is_sync, has_reply, message_of}
use Rattle.ipdl_base.proofs.Numbers.{no_reply}
use Rattle.ipdl_base.specs.Sides.{sends}
use Rattle.channel_model.specs.Numbers.{is_sync_row, request_row}
use Rattle.channel_model.proofs.SendParts.{request-number}
use Rattle.channel_model.proofs.SoundRows.{IsAt, row-at, reply-row}
use Rattle.channel_laws.specs.SyncCalls.{is_sync_number}
use Rattle.channel_laws.specs.Laws.{SoundSchemasHaveSoundRows}

-- a request has the row that its number finds
pub request-message : (schema : Schema) (n : ℕ) (row : MessageRow) → request_row schema n ≡ Some row → message_of schema n ≡ Some row
request-message schema n row e = (request-number schema n row e).1

-- the reply of a message is sync as the message is
sync-or : (b c : Bool) → b || c ≡ false → b ≡ false
sync-or true c e = cc
sync-or false c e = refl

module _ (schema : Schema) (sound : IsSound schema) (n : ℕ) (row : MessageRow) (found : message_of schema n ≡ Some row) (number : row.number ≡ n) where
  at : IsAt schema n row
  at = row-at schema sound n row found number

  next_protocol : (n + 1) / 65536 ≡ n / 65536
  next_protocol = omega (arith, at.even)

  next_message : (n + 1) % 65536 / 2 ≡ n % 65536 / 2
  next_message = omega (arith, at.even)

  next_odd : (n + 1) % 2 ≢ 0
  next_odd = omega (arith, at.even)

  next_there : slice_get schema.protocols ((n + 1) / 65536) ≡ Some at.protocol
  next_there = ap (slice_get schema.protocols) next_protocol ∙ at.there

  next_row : slice_get at.protocol.messages ((n + 1) % 65536 / 2) ≡ Some row
  next_row = ap (slice_get at.protocol.messages) next_message ∙ at.message

  reply-sync : (b : Bool) → has_reply row ≡ b → is_sync_number schema (n + 1) ≡ is_sync_row row
  reply-sync true r = ap (λ (o : Option MessageRow). option_map_or is_sync_row o false) (reply-row schema sound n row found number r)
  reply-sync false r =
      ap (λ (o : Option MessageRow). option_map_or is_sync_row o false) (sym (no_reply schema (n + 1) sound at.protocol next_there row next_row next_odd r))
      ∙ sym (sync-or (is_sync row.semantics) (is_some row.returns) r)

-- rules

async-not : (s : Semantics) → s ≡ Async → is_sync s ≡ false
async-not s e = ap is_sync e

sync-is : (s : Semantics) → is_sync s ≡ true → s ≡ Sync
sync-is Sync e = refl
sync-is Async e = cc

compress-plain : (c : Compress) (s : Semantics) → (c ≢ compress.Plain → s ≡ Async) → is_sync s ≡ true → c ≡ compress.Plain
compress-plain compress.Plain s h e = refl
compress-plain compress.Last s h e = let k : s ≡ Async = h (λ p. cc) in let l : true ≡ false = sym e ∙ async-not s k in cc
compress-plain compress.All s h e = let k : s ≡ Async = h (λ p. cc) in let l : true ≡ false = sym e ∙ async-not s k in cc

toward-parent : {A : Type 0} (d : Direction) → d ≡ direction.Parent → sends Parent d ≡ true → A
toward-parent d e h = let k : true ≡ false = sym h ∙ ap (sends Parent) e in cc

parent-level : (l : Level) (s : Semantics) (d : Direction) → (s ≡ Sync → l ≡ Not → d ≡ direction.Parent) → (l ≡ InsideCpow → d ≡ direction.Parent) → is_sync s ≡ true → sends Parent d ≡ true → l ≡ InsideSync
parent-level InsideSync s d h k e way = refl
parent-level Not s d h k e way = toward-parent d (h (sync-is s e) refl) way
parent-level InsideCpow s d h k e way = toward-parent d (k refl) way

pub sound_schemas_have_sound_rows : SoundSchemasHaveSoundRows
sound_schemas_have_sound_rows schema sound n row found =
    let number : row.number ≡ n = (request-number schema n row found).0 in
    let is : message_of schema n ≡ Some row = request-message schema n row found in
    let at : IsAt schema n row = row-at schema sound n row is number in
    record {
      number = number;
      is_sync = ap (λ (o : Option MessageRow). option_map_or is_sync_row o false) is;
      has_level = ap (λ (o : Option MessageRow). option_map_or (λ r. r.level) o Not) is;
      reply = reply-row schema sound n row is number;
      reply_sync = reply-sync schema sound n row is number (has_reply row) refl;
      lazy = λ lazy. async-not row.semantics (at.sound.lazy lazy).0;
      delete = λ kind. async-not row.semantics (at.sound.delete kind).0;
      compress = λ e. compress-plain row.compress row.semantics (λ p. (at.sound.compressed p).0) e;
      of_parent = λ e way. parent-level row.level row.semantics row.direction at.sound.plain_sync at.sound.inside_cpow e way;
    }
