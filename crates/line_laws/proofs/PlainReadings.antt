-- What is read of lines with every box at one place is what is read of the lines, with its boxes there.
use Rattle.std.proofs.Common.{◌≡◌, ℕ, ◌+◌, ℤ, pos, Bool, true, false, if◌then◌else◌, List, [], ◌∷◌, ◌++◌, map, fold, find, Option, Some, None, option_map, refl, sym, ap, subst, ◌∙◌}
use Rattle.std.specs.List.{filter_map, cons_option}
use Rattle.std.specs.Option.{option_map_or}
use Rattle.std.specs.Ordering.{int_eq}
use Rattle.std.proofs.lemmas.List.{map-append}
use Rattle.ipdl_base.specs.declared.kinds.Destroy.TheVariants.{NormalShutdown}
use Rattle.ipdl_base.specs.declared.kinds.EndState.TheVariants as state
use Rattle.ipdl_base.specs.declared.kinds.Side.{Side}
use Rattle.ipdl_base.specs.declared.kinds.Side.TheVariants as side
use Rattle.ipdl_base.specs.declared.line.Line.{Line}
use Rattle.ipdl_base.specs.declared.line.What.{What}
use Rattle.ipdl_base.specs.declared.line.What.TheVariants as what
use Rattle.ipdl_base.specs.declared.schema.Schema.{Schema}
use Rattle.ipdl_base.specs.declared.value.Values.{Values}
use Rattle.ipdl_base.specs.Lines.{is_effect}
use Rattle.ipdl_base.specs.Plain.{plain_values}
use Rattle.history_reading.specs.declared.parts.CallFrame.TheVariants as frame
use Rattle.history_reading.specs.declared.parts.Cause.TheVariants as cause
use Rattle.history_reading.specs.declared.parts.EventKind.TheVariants as event
use Rattle.history_reading.specs.declared.parts.PacketKind.TheVariants as seen
use Rattle.history_reading.specs.EndReading.{EndReading, own_request, is_sync_request}
use Rattle.history_reading.specs.Reading.{Reading, begun, quiet, telling, pushing, made_after, request_after, sending, answering, delivering, arriving, replying, closing, closing_by_act, dying, after_what, after_at, after, last_after, opening_reading, read, end_reading_of, other_of}
use Rattle.history_reading.specs.Rows.{delete_cause}
use Rattle.history_reading.specs.SentPacket as told
use Rattle.history_reading.specs.SentPacket.{SentPacket, Request, ReplyContent, request_in, requests_of, request_of}
use Rattle.end_parts.specs.PlainLines.{plain_what, plain_line}
use Rattle.line_laws.proofs.Texts.{effect-plain}

-- what was sent, with its boxes at one place
abbrev pub plain_request : Request → Request
plain_request r = record r { values = plain_values r.values }

abbrev pub plain_content : ReplyContent → ReplyContent
plain_content (told.resolved vs) = told.resolved (plain_values vs)
plain_content told.rejected = told.rejected
plain_content (told.ok vs) = told.ok (plain_values vs)
plain_content (told.fault reason) = told.fault reason

abbrev pub plain_packet : SentPacket → SentPacket
plain_packet (told.request r) = told.request (plain_request r)
plain_packet (told.said n content) = told.said n (plain_content content)
plain_packet told.goodbye = told.goodbye
plain_packet told.broken = told.broken

abbrev pub plain_end : EndReading → EndReading
plain_end own = record own { sent = map plain_packet own.sent }

abbrev pub plain_reading : Reading → Reading
plain_reading reading = record reading { parent = plain_end reading.parent; child = plain_end reading.child }

-- The request of a number

request_in-plain : (packet : SentPacket) → request_in (plain_packet packet) ≡ option_map plain_request (request_in packet)
request_in-plain (told.request r) = refl
request_in-plain (told.said n content) = refl
request_in-plain told.goodbye = refl
request_in-plain told.broken = refl

cons-plain : (found : Option Request) (rest : List Request) → cons_option (option_map plain_request found) (map plain_request rest) ≡ map plain_request (cons_option found rest)
cons-plain None rest = refl
cons-plain (Some r) rest = refl

requests-plain : (sent : List SentPacket) → requests_of (map plain_packet sent) ≡ map plain_request (requests_of sent)
requests-plain [] = refl
requests-plain (packet ∷ sent) =
    ap (λ found. cons_option found (requests_of (map plain_packet sent))) (request_in-plain packet)
    ∙ ap (cons_option (option_map plain_request (request_in packet))) (requests-plain sent)
    ∙ cons-plain (request_in packet) (requests_of sent)

find-if : (b : Bool) (r : Request) (rest more : Option Request) → more ≡ option_map plain_request rest → (if b then Some (plain_request r) else more) ≡ option_map plain_request (if b then Some r else rest)
find-if true r rest more h = refl
find-if false r rest more h = h

find-plain : (n : ℤ) (rs : List Request) → find (λ (r : Request). int_eq r.seq n) (map plain_request rs) ≡ option_map plain_request (find (λ (r : Request). int_eq r.seq n) rs)
find-plain n [] = refl
find-plain n (r ∷ rs) = find-if (int_eq r.seq n) r (find (λ (r : Request). int_eq r.seq n) rs) (find (λ (r : Request). int_eq r.seq n) (map plain_request rs)) (find-plain n rs)

pub own-plain : (own : EndReading) (n : ℤ) → own_request (plain_end own) n ≡ option_map plain_request (own_request own n)
own-plain own n = ap (find (λ (r : Request). int_eq r.seq n)) (requests-plain own.sent) ∙ find-plain n (requests_of own.sent)

sync-of : (found : Option Request) → option_map_or (λ (r : Request). r.sync) (option_map plain_request found) false ≡ option_map_or (λ (r : Request). r.sync) found false
sync-of None = refl
sync-of (Some r) = refl

pub sync-plain : (own : EndReading) (n : ℤ) → is_sync_request (plain_end own) n ≡ is_sync_request own n
sync-plain own n = ap (λ found. option_map_or (λ (r : Request). r.sync) found false) (own-plain own n) ∙ sync-of (own_request own n)

-- One line more

sent-plain : (own : EndReading) (sent : List SentPacket) (packet : SentPacket) → (record own { sent = map plain_packet sent ++ plain_packet packet ∷ [] }) ≡ (record own { sent = map plain_packet (sent ++ packet ∷ []) })
sent-plain own sent packet = ap (λ s. record own { sent = s }) (sym (map-append plain_packet sent (packet ∷ [])))

telling-plain : (packet : SentPacket) (own : EndReading) → telling (plain_packet packet) (plain_end own) ≡ plain_end (telling packet own)
telling-plain packet own = sent-plain own own.sent packet

sending-plain : (schema : Schema) (n transaction route : ℤ) (number : ℕ) (vs : Values) (own : EndReading) → sending schema n transaction route number (plain_values vs) (plain_end own) ≡ plain_end (sending schema n transaction route number vs own)
sending-plain schema n transaction route number vs own =
    ap (λ (x : EndReading). record x { made = made_after schema number own.made }) (telling-plain (told.request (request_after schema n transaction route number vs own)) own)

plain-if : (b : Bool) (one other : EndReading) → (if b then plain_end one else plain_end other) ≡ plain_end (if b then one else other)
plain-if true one other = refl
plain-if false one other = refl

replying-plain : (n : ℤ) (own : EndReading) → replying n (plain_end own) ≡ plain_end (replying n own)
replying-plain n own =
    ap (λ (b : Bool). if b then plain_end (answering n (delivering (seen.Reply n) own)) else plain_end (arriving (seen.Reply n) own)) (sync-plain own n)
    ∙ plain-if (is_sync_request own n) (answering n (delivering (seen.Reply n) own)) (arriving (seen.Reply n) own)

broken-if : (b : Bool) (sent : List SentPacket) → (if b then map plain_packet sent else map plain_packet sent ++ told.broken ∷ []) ≡ map plain_packet (if b then sent else sent ++ told.broken ∷ [])
broken-if true sent = refl
broken-if false sent = sym (map-append plain_packet sent (told.broken ∷ []))

dying-plain : (own : EndReading) → dying (plain_end own) ≡ plain_end (dying own)
dying-plain own = ap (λ s. record (quiet own) { state = state.Dead; stack = []; arrived = []; sent = s }) (broken-if own.ended own.sent)

closing-plain : (own : EndReading) → closing_by_act (plain_end own) ≡ plain_end (closing_by_act own)
closing-plain own = ap (λ (x : EndReading). record (closing NormalShutdown x) { ended = true }) (telling-plain told.goodbye own)

pub what-plain : (schema : Schema) (place : ℕ) (w : What) (own : EndReading) → after_what schema place (plain_what w) (plain_end own) ≡ plain_end (after_what schema place w own)
what-plain schema place (what.Send n route number vs) own = ap (begun (event.Sends n route) (delete_cause schema number route)) (sending-plain schema n (pos 0) route number vs own)
what-plain schema place (what.Call n transaction route number vs) own =
    ap (λ (x : EndReading). begun (event.Sends n route) cause.Nobody (pushing (frame.Unanswered (record { seq = n; transaction = transaction; number = number; place = place })) x)) (sending-plain schema n transaction route number vs own)
what-plain schema place (what.RefusedSend a b) own = refl
what-plain schema place (what.RefusedClose a) own = refl
what-plain schema place (what.RefusedResolve a) own = refl
what-plain schema place (what.RefusedReject a) own = refl
what-plain schema place (what.Resolve n vs) own = ap quiet (telling-plain (told.said n (told.resolved vs)) own)
what-plain schema place (what.Reject n) own = ap quiet (telling-plain (told.said n told.rejected) own)
what-plain schema place (what.Keep a b) own = refl
what-plain schema place (what.Let a b) own = refl
what-plain schema place what.Close own = closing-plain own
what-plain schema place what.Die own = dying-plain own
what-plain schema place (what.DeliverRequest n) own = refl
what-plain schema place (what.DeliverReply n) own = ap quiet (replying-plain n own)
what-plain schema place what.DeliverGoodbye own = refl
what-plain schema place what.DeliverBroken own = refl
what-plain schema place (what.Take n route number vs) own = refl
what-plain schema place (what.Drop n route number id) own = refl
what-plain schema place (what.TakeReply n) own = refl
what-plain schema place what.ShutNormal own = refl
what-plain schema place what.ShutAbnormal own = refl
what-plain schema place (what.Return n) own = refl
what-plain schema place (what.ResumeOk n vs) own = refl
what-plain schema place (what.ResumeFault n reason) own = refl
what-plain schema place (what.Flush count) own = refl
what-plain schema place (what.Built id protocol) own = refl
what-plain schema place (what.Replaced n) own = refl
what-plain schema place (what.AnswerOk n vs) own = telling-plain (told.said n (told.ok vs)) own
what-plain schema place (what.AnswerFault n reason) own = telling-plain (told.said n (told.fault reason)) own
what-plain schema place (what.Fails n) own = refl
what-plain schema place (what.Resolved n vs) own = refl
what-plain schema place (what.Rejected n reason) own = refl
what-plain schema place (what.Fall id why) own = refl

-- All lines

last-plain : (w : What) (end : Side) (before : Option Side) → last_after (plain_what w) end before ≡ last_after w end before
last-plain w end before = ap (λ (b : Bool). if b then before else Some end) (effect-plain w)

at-plain : (schema : Schema) (end : Side) (w : What) (reading : Reading) → after_at schema end (plain_what w) (plain_reading reading) ≡ plain_reading (after_at schema end w reading)
at-plain schema side.Parent w reading =
    ap (λ (x : EndReading). record { parent = x; child = plain_end reading.child; last = last_after (plain_what w) side.Parent reading.last; lines = reading.lines + 1 }) (what-plain schema reading.lines w reading.parent)
    ∙ ap (λ x. record { parent = plain_end (after_what schema reading.lines w reading.parent); child = plain_end reading.child; last = x; lines = reading.lines + 1 }) (last-plain w side.Parent reading.last)
at-plain schema side.Child w reading =
    ap (λ (x : EndReading). record { parent = plain_end reading.parent; child = x; last = last_after (plain_what w) side.Child reading.last; lines = reading.lines + 1 }) (what-plain schema reading.lines w reading.child)
    ∙ ap (λ x. record { parent = plain_end reading.parent; child = plain_end (after_what schema reading.lines w reading.child); last = x; lines = reading.lines + 1 }) (last-plain w side.Child reading.last)

fold-plain : (schema : Schema) (lines : List Line) (from : Reading) → fold (after schema) (plain_reading from) (map plain_line lines) ≡ plain_reading (fold (after schema) from lines)
fold-plain schema [] from = refl
fold-plain schema (line ∷ lines) from = ap (λ (r : Reading). fold (after schema) r (map plain_line lines)) (at-plain schema line.side line.what from) ∙ fold-plain schema lines (after schema from line)

pub read-plain : (schema : Schema) (lines : List Line) → read schema (map plain_line lines) ≡ plain_reading (read schema lines)
read-plain schema lines = fold-plain schema lines opening_reading
