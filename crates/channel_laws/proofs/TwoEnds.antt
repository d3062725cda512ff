-- Every step of an end keeps the reading of both.
use Rattle.std.proofs.Common.{◌≡◌, ℕ, true, false, List, [], ◌∷◌, ◌++◌, drop, Option, Some, None, refl, sym, ap, subst, ◌∙◌, append_assoc}
use Rattle.std.specs.List.{AllByRecursion}
use Rattle.std.specs.Option.{option_map_or}
use Rattle.std.proofs.lemmas.List.{map-append, append-nil}
use Rattle.std.proofs.lemmas.Option.{same_Some}
use Rattle.ipdl_base.specs.declared.line.What.{What}
use Rattle.history_reading.specs.declared.parts.PacketKind.{PacketKind}
use Rattle.history_reading.specs.EndReading.{EndReading, is_sync_request}
use Rattle.history_reading.specs.Rows as reading
use Rattle.history_reading.specs.SentPacket as told
use Rattle.history_reading.specs.SentPacket.{SentPacket, request_of}
use Rattle.ipdl_base.specs.declared.kinds.Reason.TheVariants.{HandlerRejected}
use Rattle.ipdl_base.specs.declared.kinds.Side.{Side}
use Rattle.ipdl_base.specs.declared.message.Body.{Body}
use Rattle.ipdl_base.specs.declared.message.Body.TheVariants.{Request, Reply, Fault, Goodbye}
use Rattle.ipdl_base.specs.declared.message.Message.{Message}
use Rattle.ipdl_base.specs.declared.schema.MessageRow.{MessageRow}
use Rattle.ipdl_base.specs.declared.schema.Schema.{Schema}
use Rattle.ipdl_base.specs.Sound.{message_of}
use Rattle.nesting_core.specs.declared.frame.Answer.{Answer}
use Rattle.nesting_core.specs.declared.frame.Answer.TheVariants as answer
use Rattle.nesting_core.specs.Answers.{awaited}
use Rattle.channel_model.specs.Ends.{End, Packet, message, mark}
use Rattle.ipdl_base.specs.Sides.{other}
use Rattle.channel_model.specs.Numbers.{is_sync_row}
use Rattle.channel_model.specs.Outputs.{is_open}
use Rattle.channel_model.specs.Sends.{frames_of}
use Rattle.channel_model.specs.Steps.{first_packet}
use Rattle.channel_model.proofs.Known.{all-append}
use Rattle.channel_model.specs.Phases.{Phase}
use Rattle.channel_model.specs.Parts as parts
use Rattle.channel_model.specs.Parts.{FirstPart, LaterPart, LaterParts, OwnParts, DeliveryPart, farewell_item}
use Rattle.channel_laws.specs.Tested.{after_whats}
use Rattle.channel_laws.specs.Outlines.{outline, HasOutline}
use Rattle.channel_laws.specs.Notes.{RequestNote, Note, told_note, told_notes, message_note, body_note, packet_note, notes, note_kind, In, here}
use Rattle.channel_laws.specs.Origins.{BodyOrigin, PacketOrigin, RepliesTo, BodyReplies, PacketReplies, HasOrigins}
use Rattle.channel_laws.specs.SentAccounts.{EndAccount}
use Rattle.channel_laws.specs.Delivered.{body_kind, delivered_kind}
use Rattle.channel_laws.specs.TwoEnds.{LinkAccount, TwoEnds}
use Rattle.channel_laws.specs.Rows.{HasSoundRows}
use Rattle.channel_laws.proofs.Rows.{request-message}
use Rattle.channel_model.specs.States.{is_farewell, is_goodbye}
use Rattle.channel_model.specs.Outputs.{body_of}
use Rattle.channel_laws.proofs.Outlines.{RepliesFit, first-outlined, later-outlined, delivery-outlined}
use Rattle.channel_laws.proofs.Origins.{first-origins, later-origins, delivery-origins}
use Rattle.channel_laws.proofs.SentAccounts.{first-account, later-account, delivery-account}
use Rattle.channel_laws.proofs.Delivered.{own-delivers-none, delivery-delivers}
use Rattle.channel_laws.proofs.Growing.{whats-append, delivered-are, grows, in-before, in-following, origins-grow, replies-grow, own-request}

-- What one end keeps: its outline is read, all that it has belongs to what the other end has sent, and what it has
-- sent is accounted for.
pub record EndKeeps (schema : Schema) (theirs : List Note) (e : End) (h : EndReading) (left : List Note) : Type 0 where
  pub outlined : HasOutline e (outline h)
  pub origins : HasOrigins schema theirs e
  pub sent : EndAccount schema e h left

module _ (schema : Schema) (rows : HasSoundRows schema) (theirs : List Note) where
  -- an end keeps that, and its replies are only to what the other end has sent
  abbrev pub KeepsOn : End → EndReading → List Note → List Packet → Type 0
  KeepsOn f h left ps = EndKeeps schema theirs f h (left ++ notes schema ps) × AllByRecursion (PacketReplies schema theirs) ps

  pub first-keeps : {q : Phase} {e f : End} {ws : List What} {ps : List Packet} (place : ℕ) (h : EndReading) (left : List Note) → FirstPart schema e ws ps f q → EndKeeps schema theirs e h left → KeepsOn f (after_whats schema place ws h) left ps
  first-keeps place h left part k =
      let o = first-origins schema theirs part k.origins in
      (record { outlined = first-outlined schema place h part k.outlined; origins = o.0; sent = first-account schema rows theirs place h left part k.outlined k.origins k.sent }, o.1)

  pub later-keeps : {p q : Phase} {e f : End} {ws : List What} {ps : List Packet} (place : ℕ) (h : EndReading) (left : List Note) → LaterPart p e ws ps f q → EndKeeps schema theirs e h left → KeepsOn f (after_whats schema place ws h) left ps
  later-keeps place h left part k =
      let o = later-origins schema theirs part k.origins in
      (record { outlined = later-outlined schema place h part k.outlined; origins = o.0; sent = later-account schema rows theirs place h left part k.origins k.sent }, o.1)

  pub delivery-keeps : {packet : Packet} {q : Phase} {e f : End} {ws : List What} {ps : List Packet} (place : ℕ) (h : EndReading) (left : List Note) → DeliveryPart schema packet e ws ps f q → is_open e.state ≡ true → RepliesFit schema packet e h → PacketOrigin schema theirs packet → EndKeeps schema theirs e h left → KeepsOn f (after_whats schema place ws h) left ps
  delivery-keeps place h left part is_open_end fit new k =
      let o = delivery-origins schema theirs part new k.origins in
      (record { outlined = delivery-outlined schema place h part is_open_end fit k.outlined; origins = o.0; sent = delivery-account schema rows theirs place h left part is_open_end k.origins k.sent }, o.1)

  -- what two parts keep, the second after the first
  both-keep : (f g : End) (ws vs : List What) (ps qs : List Packet) (place : ℕ) (h : EndReading) (left : List Note) → KeepsOn f (after_whats schema place ws h) left ps
      → ((at : ℕ) → KeepsOn g (after_whats schema at vs (after_whats schema place ws h)) (left ++ notes schema ps) qs) → KeepsOn g (after_whats schema place (ws ++ vs) h) left (ps ++ qs)
  both-keep f g ws vs ps qs place h left a following =
      let at = whats-append schema place ws vs h in
      let b = following at.0 in (
        subst (λ (x : EndReading). EndKeeps schema theirs g x (left ++ notes schema (ps ++ qs))) (sym at.1)
            (subst (EndKeeps schema theirs g (after_whats schema at.0 vs (after_whats schema place ws h))) (append_assoc left (notes schema ps) (notes schema qs) ∙ ap (λ (l : List Note). left ++ l) (sym (map-append (packet_note schema) ps qs))) b.0),
        all-append (PacketReplies schema theirs) ps qs a.1 b.1,
      )

  pub laters-keep : {p q : Phase} {e f : End} {ws : List What} {ps : List Packet} (place : ℕ) (h : EndReading) (left : List Note) → LaterParts p e ws ps f q → EndKeeps schema theirs e h left → KeepsOn f (after_whats schema place ws h) left ps
  laters-keep {e} place h left parts.done k = (subst (EndKeeps schema theirs e h) (sym (append-nil left)) k, tt)
  laters-keep {f = g} place h left (parts.then {f} {ws} {vs} {ps} {qs} part rest) k =
      let a = later-keeps place h left part k in
      both-keep f g ws vs ps qs place h left a (λ at. laters-keep at (after_whats schema place ws h) (left ++ notes schema ps) rest a.0)

  pub own-keeps : {q : Phase} {e f : End} {ws : List What} {ps : List Packet} (place : ℕ) (h : EndReading) (left : List Note) → OwnParts schema e ws ps f q → EndKeeps schema theirs e h left → KeepsOn f (after_whats schema place ws h) left ps
  own-keeps {f = g} place h left (parts.begun {f} {ws} {vs} {ps} {qs} part rest ended) k =
      let a = first-keeps place h left part k in
      both-keep f g ws vs ps qs place h left a (λ at. laters-keep at (after_whats schema place ws h) (left ++ notes schema ps) rest a.0)

-- What comes

pub note-shows : (schema : Schema) (p : Packet) → note_kind (packet_note schema p) ≡ delivered_kind p
note-shows schema (message m) = by m.body
  where
    by : (b : Body) → note_kind (body_note schema m b) ≡ body_kind m.seq b
    by (Request vs) = refl
    by (Reply vs) = refl
    by (Fault r) = refl
    by Goodbye = refl
note-shows schema mark = refl

pub first-is : (link : List Packet) (packet : Packet) → first_packet link ≡ Some packet → link ≡ packet ∷ drop 1 link
first-is [] packet e = cc
first-is (p ∷ rest) packet e = ap (λ (x : Packet). x ∷ rest) (same_Some p packet e)

-- What is known of the first packet on the link toward an end, and of those after it.
pub record Arrival (schema : Schema) (mine theirs : End) (own others : EndReading) (to_me : List Packet) (packet : Packet) : Type 0 where
  pub link : to_me ≡ packet ∷ drop 1 to_me
  pub account : LinkAccount schema theirs others own (packet ∷ drop 1 to_me)
  pub replies : AllByRecursion (PacketReplies schema (told_notes mine.side own.sent)) (packet ∷ drop 1 to_me)
  pub origin : PacketOrigin schema (told_notes theirs.side others.sent) packet
  pub fits : RepliesFit schema packet mine own

-- The answer to a sync call is awaited.
abbrev pub Awaits : Schema → End → List Packet → Type 0
Awaits schema e link = (m : Message) (a : Answer) → first_packet link ≡ Some (message m) → m.body ≡ body_of a → is_open e.state ≡ true → reading.is_sync_number schema m.number ≡ true → awaited (frames_of e) ≡ Some m.seq

module _ (schema : Schema) (rows : HasSoundRows schema) where
  -- a request on the link was sent
  pub coming-origin : (theirs : End) (others own : EndReading) (mine : List Note) (packet : Packet) (rest : List Packet) → LinkAccount schema theirs others own (packet ∷ rest) → PacketReplies schema mine packet → PacketOrigin schema (told_notes theirs.side others.sent) packet
  coming-origin theirs others own mine mark rest c r = tt
  coming-origin theirs others own mine (message m) rest c r = by m.body refl r
    where
      there_is : (b : Body) → m.body ≡ b → In (body_note schema m b) (told_notes theirs.side others.sent)
      there_is b is = subst (λ (x : Note). In x (told_notes theirs.side others.sent)) (ap (body_note schema m) is) (subst (λ (l : List Note). In (packet_note schema (message m)) l) (sym c.sent.whole) (in-before _ (in-following c.got here)))

      reply-row : RepliesTo schema mine m → BodyOrigin schema (told_notes theirs.side others.sent) m (Fault HandlerRejected)
      reply-row h = (h.origin.row, ap (message_of schema) h.is ∙ (rows h.number h.origin.row h.origin.found).reply h.replied)

      by : (b : Body) → m.body ≡ b → BodyReplies schema mine m b → BodyOrigin schema (told_notes theirs.side others.sent) m b
      by (Request vs) is h = record { row = h.0; found = h.1; requested = record { request = message_note schema m vs; sent_it = there_is (Request vs) is; seq_is = refl; route_is = refl; number_is = refl } }
      by (Reply vs) is h = reply-row h
      by (Fault x) is h = reply-row h
      by Goodbye is h = tt

  -- a reply is sync exactly where the end's own request is
  answer-replies : (mine : List Note) (m : Message) (a : Answer) → m.body ≡ body_of a → BodyReplies schema mine m m.body → RepliesTo schema mine m
  answer-replies mine m (answer.Ok vs) is h = subst (BodyReplies schema mine m) is h
  answer-replies mine m (answer.Fault x) is h = subst (BodyReplies schema mine m) is h

  reply-sync : (e : End) (h : EndReading) (left : List Note) (m : Message) (row : MessageRow) → EndAccount schema e h left → RepliesTo schema (told_notes e.side h.sent) m → message_of schema m.number ≡ Some row → is_sync_request h m.seq ≡ is_sync_row row
  reply-sync e h left m row s r found =
      let k = own-request schema e.side (is_open e.state) e.outbox e.sent h.sent left r.origin.requested.request s r.origin.requested.sent_it in
      let t : told.Request = k.0 in
      let number : t.number ≡ r.number = ap (λ (x : RequestNote). x.number) k.1.1.0 ∙ r.origin.requested.number_is in
      let there : request_of h.sent m.seq ≡ Some t = ap (request_of h.sent) (sym r.origin.requested.seq_is) ∙ k.1.0 in
      let same_row : r.origin.row ≡ row = same_Some r.origin.row row (sym (ap (message_of schema) r.is ∙ (rows r.number r.origin.row r.origin.found).reply r.replied) ∙ found) in
      let synced : reading.is_sync_number schema r.number ≡ is_sync_row r.origin.row = ap (λ (x : Option MessageRow). option_map_or is_sync_row x false) (request-message schema r.number r.origin.row r.origin.found) in
      ap (λ (x : Option told.Request). option_map_or (λ (y : told.Request). y.sync) x false) there ∙ (k.1.1.1 ∙ (ap (reading.is_sync_number schema) number ∙ (synced ∙ ap is_sync_row same_row)))

  -- a packet that comes has a row
  row-known : (theirs : List Note) (packet : Packet) → PacketOrigin schema theirs packet → (m : Message) → packet ≡ message m → is_farewell (farewell_item packet) ≡ false → message_of schema m.number ≡ None → ⊥
  row-known theirs (message k) origin m is ordinary none = by k.body ordinary origin
    where
      number : message_of schema k.number ≡ None
      number = ap (λ (x : Packet). message_of schema (number_of x)) is ∙ none
        where
          number_of : Packet → ℕ
          number_of (message x) = x.number
          number_of mark = 0

      by : (b : Body) → is_goodbye b ≡ false → BodyOrigin schema theirs k b → ⊥
      by (Request vs) o h = let e : Some h.row ≡ None = sym (request-message schema k.number h.row h.found) ∙ number in cc
      by (Reply vs) o h = let e : Some h.0 ≡ None = sym h.1 ∙ number in cc
      by (Fault x) o h = let e : Some h.0 ≡ None = sym h.1 ∙ number in cc
      by Goodbye o h = cc
  row-known theirs mark origin m is ordinary none = cc

  pub replies-fit : (e : End) (h : EndReading) (left theirs : List Note) (packet : Packet) (link : List Packet) → first_packet link ≡ Some packet → is_open e.state ≡ true → Awaits schema e link → PacketOrigin schema theirs packet → EndAccount schema e h left → PacketReplies schema (told_notes e.side h.sent) packet → RepliesFit schema packet e h
  replies-fit e h left theirs packet link first o aw origin s r = record {
    sync = λ m row a is body found. reply-sync e h left m row s (answer-replies (told_notes e.side h.sent) m a body (subst (PacketReplies schema (told_notes e.side h.sent)) is r)) found;
    awaits = λ m row a is body found sync. aw m a (first ∙ ap (λ (x : Packet). Some x) is) body o (ap (λ (x : Option MessageRow). option_map_or is_sync_row x false) found ∙ sync);
    known = row-known theirs packet origin;
  }

  -- Both ends after a step

  owed-following : (side : Side) (theirs : End) (own next : EndReading) (more : List SentPacket) → next.sent ≡ own.sent ++ more → HasOrigins schema (told_notes side own.sent) theirs → HasOrigins schema (told_notes side next.sent) theirs
  owed-following side theirs own next more is k =
      subst (λ (l : List Note). HasOrigins schema l theirs) (sym (ap (told_notes side) is ∙ map-append (told_note side) own.sent more)) (origins-grow schema (told_notes side own.sent) (told_notes side more) theirs k)

  replies-following : (side : Side) (ps : List Packet) (own next : EndReading) (more : List SentPacket) → next.sent ≡ own.sent ++ more → AllByRecursion (PacketReplies schema (told_notes side own.sent)) ps → AllByRecursion (PacketReplies schema (told_notes side next.sent)) ps
  replies-following side ps own next more is k =
      subst (λ (l : List Note). AllByRecursion (PacketReplies schema l) ps) (sym (ap (told_notes side) is ∙ map-append (told_note side) own.sent more)) (replies-grow schema (told_notes side own.sent) (told_notes side more) ps k)

  -- both ends, where what comes to the end is known
  paired : (mine theirs next : End) (own others : EndReading) (to_me rest to_them sent : List Packet) (place : ℕ) (ws : List What) (pair : TwoEnds schema mine theirs own others to_me to_them) → next.side ≡ mine.side
      → EndKeeps schema (told_notes theirs.side others.sent) next (after_whats schema place ws own) ((pair.goes.got ++ notes schema to_them) ++ notes schema sent)
      → LinkAccount schema theirs others (after_whats schema place ws own) rest → AllByRecursion (PacketReplies schema (told_notes mine.side own.sent)) rest → AllByRecursion (PacketReplies schema (told_notes theirs.side others.sent)) sent
      → TwoEnds schema next theirs (after_whats schema place ws own) others rest (to_them ++ sent)
  paired mine theirs next own others to_me rest to_them sent place ws pair side k comes replies new =
      let after : EndReading = after_whats schema place ws own in
      let g = grows schema place ws own in
      record {
        sides = pair.sides ∙ ap other (sym side);
        outlined = k.outlined;
        their_outlined = pair.their_outlined;
        origins = k.origins;
        their_origins = subst (λ (s : Side). HasOrigins schema (told_notes s after.sent) theirs) (sym side) (owed-following mine.side theirs own after g.0 g.1 pair.their_origins);
        comes = comes;
        goes = record {
          got = pair.goes.got;
          kinds = pair.goes.kinds;
          sent = subst (EndAccount schema next after) (append_assoc pair.goes.got (notes schema to_them) (notes schema sent) ∙ ap (λ (l : List Note). pair.goes.got ++ l) (sym (map-append (packet_note schema) to_them sent))) k.sent;
        };
        replies = subst (λ (s : Side). AllByRecursion (PacketReplies schema (told_notes s after.sent)) rest) (sym side) (replies-following mine.side rest own after g.0 g.1 replies);
        their_replies = all-append (PacketReplies schema (told_notes theirs.side others.sent)) to_them sent pair.their_replies new;
      }

  pub keeps-of : (mine theirs : End) (own others : EndReading) (to_me to_them : List Packet) (pair : TwoEnds schema mine theirs own others to_me to_them) → EndKeeps schema (told_notes theirs.side others.sent) mine own (pair.goes.got ++ notes schema to_them)
  keeps-of mine theirs own others to_me to_them pair = record { outlined = pair.outlined; origins = pair.origins; sent = pair.goes.sent }

  -- a step of the end's own
  pub own-paired : (mine theirs next : End) (own others : EndReading) (to_me to_them sent : List Packet) (place : ℕ) (ws : List What) (q : Phase) (pair : TwoEnds schema mine theirs own others to_me to_them) → next.side ≡ mine.side → OwnParts schema mine ws sent next q
      → TwoEnds schema next theirs (after_whats schema place ws own) others to_me (to_them ++ sent)
  own-paired mine theirs next own others to_me to_them sent place ws q pair side steps =
      let k = own-keeps schema rows (told_notes theirs.side others.sent) place own (pair.goes.got ++ notes schema to_them) steps (keeps-of mine theirs own others to_me to_them pair) in
      paired mine theirs next own others to_me to_me to_them sent place ws pair side k.0
      (record { got = pair.comes.got; kinds = pair.comes.kinds ∙ (sym (append-nil own.delivered) ∙ (ap (λ (l : List PacketKind). own.delivered ++ l) (sym (own-delivers-none steps)) ∙ sym (delivered-are schema place ws own))); sent = pair.comes.sent })
      pair.replies k.1

  pub arrival : (mine theirs : End) (own others : EndReading) (to_me to_them : List Packet) (packet : Packet) (pair : TwoEnds schema mine theirs own others to_me to_them) → first_packet to_me ≡ Some packet → is_open mine.state ≡ true → Awaits schema mine to_me → Arrival schema mine theirs own others to_me packet
  arrival mine theirs own others to_me to_them packet pair first o aw =
      let link : to_me ≡ packet ∷ drop 1 to_me = first-is to_me packet first in
      let account : LinkAccount schema theirs others own (packet ∷ drop 1 to_me) = subst (LinkAccount schema theirs others own) link pair.comes in
      let replies : AllByRecursion (PacketReplies schema (told_notes mine.side own.sent)) (packet ∷ drop 1 to_me) = subst (AllByRecursion (PacketReplies schema (told_notes mine.side own.sent))) link pair.replies in
      let origin : PacketOrigin schema (told_notes theirs.side others.sent) packet = coming-origin theirs others own (told_notes mine.side own.sent) packet (drop 1 to_me) account replies.0 in
      record { link = link; account = account; replies = replies; origin = origin; fits = replies-fit mine own (pair.goes.got ++ notes schema to_them) (told_notes theirs.side others.sent) packet to_me first o aw origin pair.goes.sent replies.0 }

  -- a delivery
  pub delivery-paired : (mine theirs next : End) (own others : EndReading) (to_me to_them sent : List Packet) (place : ℕ) (ws : List What) (q : Phase) (packet : Packet) (pair : TwoEnds schema mine theirs own others to_me to_them) → next.side ≡ mine.side → is_open mine.state ≡ true → Arrival schema mine theirs own others to_me packet → DeliveryPart schema packet mine ws sent next q
      → TwoEnds schema next theirs (after_whats schema place ws own) others (drop 1 to_me) (to_them ++ sent)
  delivery-paired mine theirs next own others to_me to_them sent place ws q packet pair side o a part =
      let rest : List Packet = drop 1 to_me in
      let k = delivery-keeps schema rows (told_notes theirs.side others.sent) place own (pair.goes.got ++ notes schema to_them) part o a.fits a.origin (keeps-of mine theirs own others to_me to_them pair) in
      paired mine theirs next own others to_me rest to_them sent place ws pair side k.0
      (record {
        got = a.account.got ++ packet_note schema packet ∷ [];
        kinds = map-append note_kind a.account.got (packet_note schema packet ∷ []) ∙ (ap (λ (l : List PacketKind). l ++ note_kind (packet_note schema packet) ∷ []) a.account.kinds ∙ (ap (λ (x : PacketKind). own.delivered ++ x ∷ []) (note-shows schema packet) ∙ (ap (λ (l : List PacketKind). own.delivered ++ l) (sym (delivery-delivers part)) ∙ sym (delivered-are schema place ws own))));
        sent = subst (EndAccount schema theirs others) (sym (append_assoc a.account.got (packet_note schema packet ∷ []) (notes schema rest))) a.account.sent;
      })
      a.replies.1 k.1
