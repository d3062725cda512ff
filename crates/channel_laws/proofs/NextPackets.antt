-- What is delivered is the next that was sent.
use Rattle.std.proofs.Common.{◌≡◌, ℕ, suc, ◌+◌, true, false, List, [], ◌∷◌, ◌++◌, drop, length, map, refl, sym, ap, ◌∙◌, append_assoc}
use Rattle.std.specs.List.{slice_get}
use Rattle.std.specs.Option.{option_map_or}
use Rattle.std.proofs.lemmas.List.{append-nil}
use Rattle.ipdl_base.specs.declared.line.What.{What}
use Rattle.history_reading.specs.Prefix.{is_next, is_next_of}
use Rattle.history_reading.specs.declared.parts.PacketKind.{PacketKind}
use Rattle.history_reading.specs.EndReading.{EndReading}
use Rattle.history_reading.specs.Numbers.{same_packet}
use Rattle.history_reading.specs.Reading.{after_what}
use Rattle.history_reading.specs.SentPacket as told
use Rattle.history_reading.specs.SentPacket.{SentPacket, packet_kind}
use Rattle.ipdl_base.specs.declared.kinds.Side.{Side}
use Rattle.ipdl_base.specs.declared.schema.Schema.{Schema}
use Rattle.channel_model.specs.Ends.{End, Packet, message}
use Rattle.channel_laws.specs.Notes.{Note, told_note, told_notes, packet_note, notes, note_kind}
use Rattle.channel_laws.specs.Delivered.{delivered_kind, delivered_by, delivered_by_lines}
use Rattle.channel_laws.specs.TwoEnds.{LinkAccount}
use Rattle.channel_laws.specs.NextPackets.{next_of, next_line}
use Rattle.channel_laws.specs.Tested.{EndLinesPass}
use Rattle.channel_model.specs.Events.{Event}
use Rattle.channel_model.specs.Outputs.{Output}
use Rattle.channel_model.specs.Phases.{Phase}
use Rattle.channel_laws.proofs.Delivered.{own-delivers-none, delivery-delivers}
use Rattle.channel_laws.proofs.Moves.{EndMove, StepParts, acts, delivers}
use Rattle.channel_laws.proofs.Growing.{delivered-one}
use Rattle.channel_laws.proofs.Leaving.{same_packet-refl}
use Rattle.channel_laws.proofs.Outlines.{cons-head, cons-tail}
use Rattle.channel_laws.proofs.TwoEnds.{note-shows}

-- Lists

nothing : (xs ys : List PacketKind) → xs ++ ys ≡ [] → (xs ≡ []) × (ys ≡ [])
nothing [] ys e = (refl, e)
nothing (x ∷ xs) ys e = cc

-- Lines

module _ (schema : Schema) (others : EndReading) where
  abbrev pub IsNext : EndReading → What → Type 0
  IsNext h w = next_line h others w ≡ true

  unseen-next : (h : EndReading) (w : What) → delivered_by w ≡ [] → IsNext h w
  unseen-next h w e = ap (λ (xs : List PacketKind). next_of xs h others) e

  same-delivered : (place : ℕ) (w : What) (h : EndReading) → delivered_by w ≡ [] → (after_what schema place w h).delivered ≡ h.delivered
  same-delivered place w h e = delivered-one schema place w h ∙ (ap (λ (xs : List PacketKind). h.delivered ++ xs) e ∙ append-nil h.delivered)

  pub none-next : (place : ℕ) (ws : List What) (h : EndReading) → delivered_by_lines ws ≡ [] → EndLinesPass schema IsNext place ws h
  none-next place [] h e = tt
  none-next place (w ∷ ws) h e =
      let both = nothing (delivered_by w) (delivered_by_lines ws) e in
      (unseen-next h w both.0, none-next (place + 1) ws (after_what schema place w h) both.1)

  one-cases : (place : ℕ) (w : What) (ws : List What) (h : EndReading) (x : PacketKind) (xs : List PacketKind) → delivered_by w ≡ xs → xs ++ delivered_by_lines ws ≡ x ∷ [] → is_next x h others ≡ true
      → (delivered_by w ≡ [] → delivered_by_lines ws ≡ x ∷ [] → EndLinesPass schema IsNext (place + 1) ws (after_what schema place w h)) → EndLinesPass schema IsNext place (w ∷ ws) h
  one-cases place w ws h x [] is e n rec = (unseen-next h w is, rec is e)
  one-cases place w ws h x (y ∷ ys) is e n rec =
      let head : y ≡ x = cons-head e in
      let rest : ys ++ delivered_by_lines ws ≡ [] = cons-tail e in
      (ap (λ (xs : List PacketKind). next_of xs h others) is ∙ (ap (λ (z : PacketKind). is_next z h others) head ∙ n), none-next (place + 1) ws (after_what schema place w h) (nothing ys (delivered_by_lines ws) rest).1)

  pub one-next : (place : ℕ) (ws : List What) (h : EndReading) (x : PacketKind) → delivered_by_lines ws ≡ x ∷ [] → is_next x h others ≡ true → EndLinesPass schema IsNext place ws h
  one-next place [] h x e n = cc
  one-next place (w ∷ ws) h x e n =
      one-cases place w ws h x (delivered_by w) refl e n
      (λ quiet k. one-next (place + 1) ws (after_what schema place w h) x k (ap (λ (d : List PacketKind). is_next_of others.sent (length d) x) (same-delivered place w h quiet) ∙ n))

-- The next packet

pub told-shows : (side : Side) (t : SentPacket) → note_kind (told_note side t) ≡ packet_kind t
told-shows side (told.request r) = refl
told-shows side (told.said n w) = refl
told-shows side told.goodbye = refl
told-shows side told.broken = refl

-- a packet that was sent has the place of its note
note-at : (side : Side) (sent : List SentPacket) (front : List Note) (x : Note) (rest : List Note) → told_notes side sent ≡ front ++ x ∷ rest → option_map_or (λ t. same_packet (packet_kind t) (note_kind x)) (slice_get sent (length front)) false ≡ true
note-at side [] [] x rest e = cc
note-at side [] (y ∷ front) x rest e = cc
note-at side (t ∷ sent) [] x rest e =
    let head : told_note side t ≡ x = cons-head e in
    ap (λ (s : PacketKind). same_packet s (note_kind x)) (sym (told-shows side t) ∙ ap note_kind head) ∙ same_packet-refl (note_kind x)
note-at side (t ∷ sent) (y ∷ front) x rest e = note-at side sent front x rest (cons-tail e)

length-map : (ns : List Note) → length (map note_kind ns) ≡ length ns
length-map [] = refl
length-map (n ∷ ns) = ap suc (length-map ns)

pub packet-next : (schema : Schema) (theirs : End) (others own : EndReading) (packet : Packet) (rest : List Packet) → LinkAccount schema theirs others own (packet ∷ rest) → is_next (delivered_kind packet) own others ≡ true
packet-next schema theirs others own packet rest c =
    let x : Note = packet_note schema packet in
    let whole : told_notes theirs.side others.sent ≡ c.got ++ x ∷ (notes schema rest ++ (notes schema (map message theirs.outbox) ++ c.sent.lost)) = c.sent.whole ∙ append_assoc c.got (x ∷ notes schema rest) (notes schema (map message theirs.outbox) ++ c.sent.lost) in
    let count : length own.delivered ≡ length c.got = ap length (sym c.kinds) ∙ length-map c.got in
    ap (λ (n : ℕ). is_next_of others.sent n (delivered_kind packet)) count
    ∙ (ap (λ (s : PacketKind). is_next_of others.sent (length c.got) s) (sym (note-shows schema packet)) ∙ note-at theirs.side others.sent c.got x (notes schema rest ++ (notes schema (map message theirs.outbox) ++ c.sent.lost)) whole)

-- The lines of a step: only a delivery has a line that is tested, for the packet that it takes off the link
pub move-next : (schema : Schema) (place : ℕ) (mine theirs : End) (own others : EndReading) (to_me to_them : List Packet) (ev : Event) (output : Output) (m : EndMove schema place mine theirs own others to_me to_them ev output) → EndLinesPass schema (IsNext schema others) place m.whats own
move-next schema place mine theirs own others to_me to_them ev output m = by m.parts
  where
    by : {ev : Event} {ws : List What} {ps : List Packet} {f : End} {q : Phase} → StepParts schema mine to_me ev ws ps f q → EndLinesPass schema (IsNext schema others) place ws own
    by {ws} (acts same steps) = none-next schema others place ws own (own-delivers-none steps)
    by {ws} (delivers packet first o part) = one-next schema others place ws own (delivered_kind packet) (delivery-delivers part) (packet-next schema theirs others own packet (drop 1 to_me) (m.arrives packet first o).account)
