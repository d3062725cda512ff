-- One more packet after those that were sent.
use Rattle.std.proofs.Common.{◌≡◌, ◌∙◌, ℤ, Bool, true, false, cond, if◌then◌else◌, List, [], ◌∷◌, ◌++◌, map, Option, Some, None, option_map, refl, sym, ap}
use Rattle.std.specs.List.{find, filter_map}
use Rattle.std.specs.Option.{option_or}
use Rattle.std.specs.HashMap.{HashMap, get}
use Rattle.std.specs.Ordering.{int_eq}
use Rattle.std.specs.declared.hash.FoldHasher.{FoldHasher}
use Rattle.std.specs.declared.hash.BuildHasherDefault.{BuildHasherDefault}
use Rattle.std.proofs.lemmas.List.{map-append}
use Rattle.std.proofs.lemmas.List.Elements.{filter_map-append}
use Rattle.std.proofs.lemmas.List.Folds.{find-append}
use Rattle.history_reading.specs.declared.sent_packet.Request as kept
use Rattle.history_reading.specs.declared.sent_packet.SentPacket as kept_told
use Rattle.history_reading.specs.declared.sent_packet.SentPacket.TheVariants as told
use Rattle.history_reading.specs.Views.{AreRequests, InsertsFirst, request_view, sent_view, packet_view}
use Rattle.history_reading.specs.SentPacket.{Request, SentPacket, request_in, request_of, requests_of}

-- the packets with one more
pub sent_more : (all : List kept_told.SentPacket) (one : kept_told.SentPacket) → sent_view (all ++ one ∷ []) ≡ sent_view all ++ packet_view one ∷ []
sent_more all one = map-append packet_view all (one ∷ [])

-- the first request of a number, with one more packet
request_more : (sent : List SentPacket) (one : SentPacket) (n : ℤ) → request_of (sent ++ one ∷ []) n ≡ option_or (request_of sent n) (request_of (one ∷ []) n)
request_more sent one n = ap (find (λ r. int_eq r.seq n)) (filter_map-append request_in sent (one ∷ [])) ∙ find-append (λ r. int_eq r.seq n) (filter_map request_in sent) (filter_map request_in (one ∷ []))

seen_or : (a b : Option kept.Request) → option_map request_view (option_or a b) ≡ option_or (option_map request_view a) (option_map request_view b)
seen_or None b = refl
seen_or (Some x) b = refl

seen_if : (same : Bool) (r : kept.Request) → option_map request_view (if same then Some r else None) ≡ (if same then Some (request_view r) else None)
seen_if true r = refl
seen_if false r = refl

or_none : (a : Option Request) → option_or a None ≡ a
or_none None = refl
or_none (Some x) = refl

-- a further request counts where there was none of its number
pub keeps_request : (old new : HashMap ℤ kept.Request (BuildHasherDefault FoldHasher)) (r : kept.Request) → InsertsFirst old new r → (all : List kept_told.SentPacket) → AreRequests all old → AreRequests (all ++ told.Request r ∷ []) new
keeps_request old new r inserts all are n =
    ap (option_map request_view) (inserts n)
    ∙ (seen_or (get int_eq old n) (if int_eq r.seq n then Some r else None)
    ∙ (ap (λ (o : Option Request). option_or o (option_map request_view (if int_eq r.seq n then Some r else None))) (are n)
    ∙ (ap (option_or (request_of (sent_view all) n)) (seen_if (int_eq r.seq n) r)
    ∙ (sym (request_more (sent_view all) (packet_view (told.Request r)) n)
    ∙ sym (ap (λ (s : List SentPacket). request_of s n) (sent_more all (told.Request r)))))))

-- another packet does not
pub keeps_other : (kept : HashMap ℤ kept.Request (BuildHasherDefault FoldHasher)) (one : kept_told.SentPacket) → requests_of (packet_view one ∷ []) ≡ [] → (all : List kept_told.SentPacket) → AreRequests all kept → AreRequests (all ++ one ∷ []) kept
keeps_other kept one none all are n =
    are n
    ∙ (sym (or_none (request_of (sent_view all) n))
    ∙ (sym (ap (λ (rs : List Request). option_or (request_of (sent_view all) n) (find (λ r. int_eq r.seq n) rs)) none)
    ∙ (sym (request_more (sent_view all) (packet_view one) n)
    ∙ sym (ap (λ (s : List SentPacket). request_of s n) (sent_more all one)))))

-- a packet that is no request is none
pub no_requests : (one : kept_told.SentPacket) → ((r : kept.Request) → one ≡ told.Request r → ⊥) → requests_of (packet_view one ∷ []) ≡ []
no_requests (told.Request r) not = absurd (not r refl)
no_requests (told.Reply n what) not = refl
no_requests told.Goodbye not = refl
no_requests told.Broken not = refl
