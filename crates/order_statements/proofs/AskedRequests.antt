-- The requests of the other end that an end handles or may answer, as the lines of the other end show them, in legal
-- histories.
use Rattle.std.proofs.Common.{◌≡◌, ℕ, ℤ, Bool, true, false, if◌then◌else◌, int_eq, List, [], ◌∷◌, ◌++◌, Option, Some, None, refl, sym, ap, ◌∙◌}
use Rattle.std.specs.List.{AllByRecursion, cons_option}
use Rattle.ipdl_base.specs.declared.kinds.Side.{Side}
use Rattle.ipdl_base.specs.declared.kinds.Side.TheVariants.{Parent, Child}
use Rattle.ipdl_base.specs.declared.line.What.{What}
use Rattle.ipdl_base.specs.declared.line.What.TheVariants as what
use Rattle.ipdl_base.specs.declared.schema.Schema.{Schema}
use Rattle.ipdl_base.specs.Sound.{IsSound}
use Rattle.history_reading.specs.EndReading.{EndReading}
use Rattle.history_reading.specs.Reading.{read}
use Rattle.history_reading.specs.Rows.{wants_number}
use Rattle.history_reading.specs.SentPacket.{Request, SentPacket, broken, goodbye, request, request_of, requests_of, said}
use Rattle.channel_model.specs.Ends.{End, Packet, end_of}
use Rattle.channel_model.specs.Events.{Move}
use Rattle.channel_model.specs.Outputs.{is_open}
use Rattle.channel_model.specs.Runs.{history_of}
use Rattle.channel_laws.specs.Laws.{world_of}
use Rattle.channel_laws.specs.Notes.{Note, RequestNote, notes, told_notes}
use Rattle.channel_laws.specs.Origins.{HasOrigins, IsRequested}
use Rattle.channel_laws.specs.ReadingLaws.{WorldIsRead}
use Rattle.channel_laws.specs.TwoEnds.{LinkAccount}
use Rattle.channel_laws.proofs.Growing.{own-request}
use Rattle.channel_laws.proofs.Track.{all-found}
use Rattle.channel_laws.proofs.WorldReading.{reading_is_world}
use Rattle.law_statements.specs.Packets.{sent, sent_at}
use Rattle.ipdl_base.specs.Sides.{other as other_end}
use Rattle.law_statements.specs.Said.{made_of, said_by}
use Rattle.law_statements.proofs.Fields.{sent-read}

-- A request of a number was sent: it is of this message, and has a promise exactly where its message makes one.
pub record IsAsked (schema : Schema) (other : List What) (n : ℤ) (number : ℕ) : Type 0 where
  pub asked : Request
  pub found : request_of (sent schema other) n ≡ Some asked
  pub number_is : asked.number ≡ number
  pub wants_is : asked.wants ≡ wants_number schema number

-- All that an end handles or may answer belongs to requests that the other end has sent, by its lines.
pub record KnowsAsked (schema : Schema) (other : List What) (e : End) : Type 0 where
  pub theirs : List Note
  pub origins : HasOrigins schema theirs e
  pub asks : (seq route : ℤ) (number : ℕ) → IsRequested theirs seq route number → IsAsked schema other seq number

-- Requests that were sent have promises exactly where their messages make them

abbrev WantsRight : Schema → Request → Type 0
WantsRight schema r = r.wants ≡ wants_number schema r.number

abbrev PacketWants : Schema → SentPacket → Type 0
PacketWants schema (request r) = WantsRight schema r
PacketWants schema _ = Unit {0}

abbrev MaybeWants : Schema → Option SentPacket → Type 0
MaybeWants schema None = Unit {0}
MaybeWants schema (Some p) = PacketWants schema p

what-wants : (schema : Schema) (before : List What) (w : What) → MaybeWants schema (sent_at schema before w)
what-wants schema before (what.Send n route number values) = refl
what-wants schema before (what.Call n transaction route number values) = refl
what-wants schema before what.Die = by _
  where
    by : (b : Bool) → MaybeWants schema (if b then None else Some broken)
    by true = tt
    by false = tt
what-wants schema before _ = tt

cons-wants : (schema : Schema) (o : Option SentPacket) (ps : List SentPacket) → MaybeWants schema o → AllByRecursion (WantsRight schema) (requests_of ps) → AllByRecursion (WantsRight schema) (requests_of (cons_option o ps))
cons-wants schema None ps h k = k
cons-wants schema (Some (request r)) ps h k = (h, k)
cons-wants schema (Some (said n content)) ps h k = k
cons-wants schema (Some goodbye) ps h k = k
cons-wants schema (Some broken) ps h k = k

sent-wants : (schema : Schema) (before ws : List What) → AllByRecursion (WantsRight schema) (requests_of (made_of (sent_at schema) before ws))
sent-wants schema before [] = tt
sent-wants schema before (w ∷ ws) = cons-wants schema (sent_at schema before w) (made_of (sent_at schema) (before ++ w ∷ []) ws) (what-wants schema before w) (sent-wants schema (before ++ w ∷ []) ws)

-- One end of a legal history

end-asks : (schema : Schema) (theirs mine : End) (others own : EndReading) (link : List Packet) (other : List What) → LinkAccount schema theirs others own link → others.sent ≡ sent schema other → HasOrigins schema (told_notes theirs.side others.sent) mine → KnowsAsked schema other mine
end-asks schema theirs mine others own link other account is origins = record { theirs = told_notes theirs.side others.sent; origins = origins; asks = by }
  where
    by : (seq route : ℤ) (number : ℕ) → IsRequested (told_notes theirs.side others.sent) seq route number → IsAsked schema other seq number
    by seq route number a =
        let q = own-request schema theirs.side (is_open theirs.state) theirs.outbox theirs.sent others.sent (account.got ++ notes schema link) a.request account.sent a.sent_it in
        let found : request_of (sent schema other) seq ≡ Some q.0 = ap (λ (ps : List SentPacket). request_of ps seq) (sym is) ∙ (ap (request_of others.sent) (sym a.seq_is) ∙ q.1.0) in
        let number_is : q.0.number ≡ number = ap (λ (x : RequestNote). x.number) q.1.1.0 ∙ a.number_is in
        record {
          asked = q.0;
          found = found;
          number_is = number_is;
          wants_is = all-found (WantsRight schema) (λ r. int_eq r.seq seq) (requests_of (sent schema other)) q.0 (sent-wants schema [] other) found ∙ ap (wants_number schema) number_is;
        }

pub history-asks : (schema : Schema) → IsSound schema → (top : ℕ) (moves : List Move) (end : Side) → KnowsAsked schema (said_by (other_end end) (history_of schema top moves)) (end_of end (world_of schema top moves))
history-asks schema sound top moves end = by end (reading_is_world schema sound top moves)
  where
    by : (s : Side) → WorldIsRead schema (world_of schema top moves) (read schema (history_of schema top moves)) → KnowsAsked schema (said_by (other_end s) (history_of schema top moves)) (end_of s (world_of schema top moves))
    by Parent w = end-asks schema (world_of schema top moves).child (world_of schema top moves).parent (read schema (history_of schema top moves)).child (read schema (history_of schema top moves)).parent (world_of schema top moves).to_parent (said_by Child (history_of schema top moves)) w.between.ends.comes (sent-read schema Child (history_of schema top moves)) w.between.ends.origins
    by Child w = end-asks schema (world_of schema top moves).parent (world_of schema top moves).child (read schema (history_of schema top moves)).parent (read schema (history_of schema top moves)).child (world_of schema top moves).to_child (said_by Parent (history_of schema top moves)) w.between.ends.goes (sent-read schema Parent (history_of schema top moves)) w.between.ends.their_origins
