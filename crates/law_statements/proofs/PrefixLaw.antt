-- The test of the law Prefix decides its statement.
use Rattle.std.proofs.Common.{◌≡◌, ℕ, ◌==◌, ℤ, Bool, false, not, ◌&&◌, IsTrue, List, [], ◌∷◌, ◌++◌, length, map, Option, Some, None, refl, sym, ap, subst, ◌∙◌, append_assoc}
use Rattle.std.specs.Bool.{Decides}
use Rattle.std.specs.Option.{option_map_or}
use Rattle.std.specs.Ordering.{int_eq}
use Rattle.std.proofs.lemmas.Bool.Decides.{Decides-eqb, Decides-int_eq}
use Rattle.ipdl_base.specs.declared.kinds.Side.{Side}
use Rattle.ipdl_base.specs.declared.kinds.Side.TheVariants as side
use Rattle.ipdl_base.specs.declared.line.Line.{Line}
use Rattle.ipdl_base.specs.declared.line.What.{What}
use Rattle.ipdl_base.specs.declared.line.What.TheVariants as what
use Rattle.ipdl_base.specs.declared.schema.Schema.{Schema}
use Rattle.ipdl_base.specs.declared.value.Values.{Values}
use Rattle.ipdl_base.specs.Signatures.{params_of}
use Rattle.history_reading.specs.declared.law.Law.TheVariants as law
use Rattle.history_reading.specs.declared.parts.PacketKind.{PacketKind}
use Rattle.history_reading.specs.declared.parts.PacketKind.TheVariants as seen
use Rattle.history_reading.specs.EndReading.{EndReading, lives}
use Rattle.history_reading.specs.Holds.{Holds, IsReadable, moment_test}
use Rattle.history_reading.specs.Nulled.{is_nulled}
use Rattle.history_reading.specs.Numbers.{has, has_packet}
use Rattle.history_reading.specs.Prefix.{is_for, is_next, is_next_of, is_reply_there, is_there, prefix_line, was_sent, was_sent_with}
use Rattle.history_reading.specs.Reading.{end_reading_of, read}
use Rattle.history_reading.specs.SentPacket.{Request, SentPacket, packet_kind, request_of}
use Rattle.ipdl_base.specs.Sides.{other as other_end}
use Rattle.law_statements.specs.Said.{line_of, said_by}
use Rattle.law_statements.specs.Packets.{delivered, delivery, gone, replaced, replies, sent, sent_at}
use Rattle.law_statements.specs.Actors as actors
use Rattle.law_statements.specs.Prefix.{DeliversWhatWasSent, IsPrefix, IsUntaken, Prefix, WasSent, WasSentWith}
use Rattle.law_statements.proofs.Along.{Passes, holds-passes, passes-holds}
use Rattle.law_statements.proofs.Deciding.{recast, both, found, itself, through, untrue}
use Rattle.law_statements.proofs.Fields.{delivered-read, gone-read, lives-read, replaced-read, replies-read, sent-read}
use Rattle.law_statements.proofs.Fronts.{front-grows, front-next, next-front}
use Rattle.law_statements.proofs.Lists.{add, filter-add, made-add}
use Rattle.law_statements.proofs.Ends.{other-read, said-own, said-other}

-- Requests that wait, and what was sent

waiting : (schema : Schema) (end : Side) (before : List Line) (n : ℤ) → Decides (is_there (end_reading_of end (read schema before)) n) (IsUntaken (said_by end before) n)
waiting schema end before n =
    subst (λ (b : Bool). Decides b (IsUntaken (said_by end before) n))
    (ap (λ (ps : List PacketKind). has_packet ps (seen.Request n) && (not (has (replaced (said_by end before)) n) && not (has (gone (said_by end before)) n))) (sym (delivered-read schema end before))
    ∙ ap (λ (ns : List ℤ). has_packet (end_reading_of end (read schema before)).delivered (seen.Request n) && (not (has ns n) && not (has (gone (said_by end before)) n))) (sym (replaced-read schema end before))
    ∙ ap (λ (ns : List ℤ). has_packet (end_reading_of end (read schema before)).delivered (seen.Request n) && (not (has (end_reading_of end (read schema before)).replaced n) && not (has ns n))) (sym (gone-read schema end before)))
    (recast (has_packet (delivered (said_by end before)) (seen.Request n) && (not (has (replaced (said_by end before)) n) && not (has (gone (said_by end before)) n)))
    (both (has_packet (delivered (said_by end before)) (seen.Request n)) (not (has (replaced (said_by end before)) n) && not (has (gone (said_by end before)) n)) (itself (has_packet (delivered (said_by end before)) (seen.Request n)))
    (both (not (has (replaced (said_by end before)) n)) (not (has (gone (said_by end before)) n)) (untrue (has (replaced (said_by end before)) n)) (untrue (has (gone (said_by end before)) n))))
    (λ p. record { delivered = p.0; kept = p.1.0; first = p.1.1 }) (λ w. (w.delivered, (w.kept, w.first))))

for-this : (r : Request) (route : ℤ) (number : ℕ) → Decides (is_for route number r) ((r.route ≡ route) × (r.number ≡ number))
for-this r route number = both (int_eq r.route route) (r.number == number) (Decides-int_eq r.route route) (Decides-eqb r.number number)

was : (schema : Schema) (end : Side) (before : List Line) (n route : ℤ) (number : ℕ)
    → Decides (was_sent (end_reading_of (other_end end) (read schema before)) n route number) ((r : Request) × WasSent schema (said_by (other_end end) before) n route number r)
was schema end before n route number =
    subst (λ (ps : List SentPacket). Decides (option_map_or (is_for route number) (request_of ps n) false) ((r : Request) × WasSent schema (said_by (other_end end) before) n route number r)) (sym (sent-read schema (other_end end) before))
    (recast (option_map_or (is_for route number) (request_of (sent schema (said_by (other_end end) before)) n) false)
    (found (request_of (sent schema (said_by (other_end end) before)) n) (is_for route number) (λ r. (r.route ≡ route) × (r.number ≡ number)) (λ r. for-this r route number))
    (λ p. (p.0, record { is = p.1; route = p.2.0; number = p.2.1 })) (λ w. (w.0, w.1.is, (w.1.route, w.1.number))))

was-with : (schema : Schema) (end : Side) (before : List Line) (n route : ℤ) (number : ℕ) (values : Values)
    → Decides (was_sent_with schema (end_reading_of end (read schema before)) (end_reading_of (other_end end) (read schema before)) n route number values)
    ((r : Request) × WasSentWith schema (said_by end before) (said_by (other_end end) before) n route number values r)
was-with schema end before n route number values =
    subst (λ (ps : List SentPacket). Decides (option_map_or (λ r. is_for route number r && is_nulled schema (lives (end_reading_of end (read schema before))) (params_of schema number) r.values values) (request_of ps n) false)
    ((r : Request) × WasSentWith schema (said_by end before) (said_by (other_end end) before) n route number values r)) (sym (sent-read schema (other_end end) before))
    (subst (λ (live : ℤ → Bool). Decides (option_map_or (λ r. is_for route number r && is_nulled schema live (params_of schema number) r.values values) (request_of (sent schema (said_by (other_end end) before)) n) false)
    ((r : Request) × WasSentWith schema (said_by end before) (said_by (other_end end) before) n route number values r)) (sym (lives-read schema end before))
    (recast (option_map_or (λ r. is_for route number r && is_nulled schema (actors.lives (said_by end before)) (params_of schema number) r.values values) (request_of (sent schema (said_by (other_end end) before)) n) false)
    (found (request_of (sent schema (said_by (other_end end) before)) n) (λ r. is_for route number r && is_nulled schema (actors.lives (said_by end before)) (params_of schema number) r.values values)
    (λ r. ((r.route ≡ route) × (r.number ≡ number)) × IsTrue (is_nulled schema (actors.lives (said_by end before)) (params_of schema number) r.values values))
    (λ r. both (is_for route number r) (is_nulled schema (actors.lives (said_by end before)) (params_of schema number) r.values values) (for-this r route number) (itself (is_nulled schema (actors.lives (said_by end before)) (params_of schema number) r.values values))))
    (λ p. (p.0, record { sent = record { is = p.1; route = p.2.0.0; number = p.2.0.1 }; nulled = p.2.1 })) (λ w. (w.0, w.1.sent.is, ((w.1.sent.route, w.1.sent.number), w.1.nulled)))))

reply-waits : (schema : Schema) (end : Side) (before : List Line) (n : ℤ)
    → Decides (is_reply_there (end_reading_of end (read schema before)) n) (IsTrue (has_packet (delivered (said_by end before)) (seen.Reply n)) × (has (replies (said_by end before)) n ≡ false))
reply-waits schema end before n =
    subst (λ (b : Bool). Decides b (IsTrue (has_packet (delivered (said_by end before)) (seen.Reply n)) × (has (replies (said_by end before)) n ≡ false)))
    (ap (λ (ps : List PacketKind). has_packet ps (seen.Reply n) && not (has (replies (said_by end before)) n)) (sym (delivered-read schema end before))
    ∙ ap (λ (ns : List ℤ). has_packet (end_reading_of end (read schema before)).delivered (seen.Reply n) && not (has ns n)) (sym (replies-read schema end before)))
    (both (has_packet (delivered (said_by end before)) (seen.Reply n)) (not (has (replies (said_by end before)) n)) (itself (has_packet (delivered (said_by end before)) (seen.Reply n))) (untrue (has (replies (said_by end before)) n)))

-- Deliveries

next-read : (schema : Schema) (end : Side) (before : List Line) (p : PacketKind)
    → is_next p (end_reading_of end (read schema before)) (end_reading_of (other_end end) (read schema before)) ≡ is_next_of (sent schema (said_by (other_end end) before)) (length (delivered (said_by end before))) p
next-read schema end before p =
    ap (λ (ps : List PacketKind). is_next_of (end_reading_of (other_end end) (read schema before)).sent (length ps) p) (delivered-read schema end before)
    ∙ ap (λ (ps : List SentPacket). is_next_of ps (length (delivered (said_by end before))) p) (sent-read schema (other_end end) before)

deliver-test : (schema : Schema) (own other : EndReading) (w : What) (p : PacketKind) → delivery w ≡ Some p → prefix_line schema own other w ≡ is_next p own other
deliver-test schema own other (what.DeliverRequest n) p e = ap (λ (k : PacketKind). is_next k own other) cc
deliver-test schema own other (what.DeliverReply n) p e = ap (λ (k : PacketKind). is_next k own other) cc
deliver-test schema own other what.DeliverGoodbye p e = ap (λ (k : PacketKind). is_next k own other) cc
deliver-test schema own other what.DeliverBroken p e = ap (λ (k : PacketKind). is_next k own other) cc
deliver-test schema own other _ p e = cc

front-own : (schema : Schema) (end : Side) (before : List Line) (w : What) → IsTrue (prefix_line schema (end_reading_of end (read schema before)) (end_reading_of (other_end end) (read schema before)) w)
    → DeliversWhatWasSent schema end before → IsPrefix (delivered (said_by end before ++ w ∷ [])) (map packet_kind (sent schema (said_by (other_end end) before)))
front-own schema end before w test front =
    subst (λ (ps : List PacketKind). IsPrefix ps (map packet_kind (sent schema (said_by (other_end end) before)))) (sym (filter-add delivery (said_by end before) w)) (by (delivery w) refl)
  where
    by : (o : Option PacketKind) → delivery w ≡ o → IsPrefix (add (delivered (said_by end before)) o) (map packet_kind (sent schema (said_by (other_end end) before)))
    by None is = front
    by (Some p) is =
        next-front (sent schema (said_by (other_end end) before)) (delivered (said_by end before)) p front
        (sym (next-read schema end before p) ∙ sym (deliver-test schema (end_reading_of end (read schema before)) (end_reading_of (other_end end) (read schema before)) w p is) ∙ test)

front-other : (schema : Schema) (end : Side) (before : List Line) (w : What) → DeliversWhatWasSent schema end before
    → IsPrefix (delivered (said_by end before)) (map packet_kind (sent schema (said_by (other_end end) before ++ w ∷ [])))
front-other schema end before w front =
    subst (λ (ps : List SentPacket). IsPrefix (delivered (said_by end before)) (map packet_kind ps)) (sym (made-add (sent_at schema) [] (said_by (other_end end) before) w))
    (front-grows (sent schema (said_by (other_end end) before)) (delivered (said_by end before)) (sent_at schema (said_by (other_end end) before) w) front)

fronts-more : (schema : Schema) (before : List Line) (s : Side) (w : What) → IsTrue (prefix_line schema (end_reading_of s (read schema before)) (end_reading_of (other_end s) (read schema before)) w)
    → ((end : Side) → DeliversWhatWasSent schema end before) → (end : Side) → DeliversWhatWasSent schema end (before ++ line_of s w ∷ [])
fronts-more schema before side.Parent w test prefixes side.Parent =
    subst (λ (own : List What). IsPrefix (delivered own) (map packet_kind (sent schema (said_by side.Child (before ++ line_of side.Parent w ∷ []))))) (sym (said-own side.Parent before w))
    (subst (λ (other : List What). IsPrefix (delivered (said_by side.Parent before ++ w ∷ [])) (map packet_kind (sent schema other))) (sym (said-other side.Parent before w)) (front-own schema side.Parent before w test (prefixes side.Parent)))
fronts-more schema before side.Child w test prefixes side.Child =
    subst (λ (own : List What). IsPrefix (delivered own) (map packet_kind (sent schema (said_by side.Parent (before ++ line_of side.Child w ∷ []))))) (sym (said-own side.Child before w))
    (subst (λ (other : List What). IsPrefix (delivered (said_by side.Child before ++ w ∷ [])) (map packet_kind (sent schema other))) (sym (said-other side.Child before w)) (front-own schema side.Child before w test (prefixes side.Child)))
fronts-more schema before side.Parent w test prefixes side.Child =
    subst (λ (other : List What). IsPrefix (delivered (said_by side.Child (before ++ line_of side.Parent w ∷ []))) (map packet_kind (sent schema other))) (sym (said-own side.Parent before w))
    (subst (λ (own : List What). IsPrefix (delivered own) (map packet_kind (sent schema (said_by side.Parent before ++ w ∷ [])))) (sym (said-other side.Parent before w)) (front-other schema side.Child before w (prefixes side.Child)))
fronts-more schema before side.Child w test prefixes side.Parent =
    subst (λ (other : List What). IsPrefix (delivered (said_by side.Parent (before ++ line_of side.Child w ∷ []))) (map packet_kind (sent schema other))) (sym (said-own side.Child before w))
    (subst (λ (own : List What). IsPrefix (delivered own) (map packet_kind (sent schema (said_by side.Child before ++ w ∷ [])))) (sym (said-other side.Child before w)) (front-other schema side.Parent before w (prefixes side.Parent)))

-- From the test to the statement, and back

to : (schema : Schema) (lines : List Line) → Passes law.Prefix schema lines → Prefix schema lines
to schema lines p = record {
  prefixes = λ end before following e.
      through lines (λ front. (x : Side) → DeliversWhatWasSent schema x front) first (λ front line later is held. fronts-more schema front line.side line.what
      (subst (λ (o : EndReading). IsTrue (prefix_line schema (end_reading_of line.side (read schema front)) o line.what)) (other-read line.side (read schema front)) (p.places front line later is)) held) before following e end;
  takes = λ end n route number values before following e.
      (both (is_there (end_reading_of end (read schema before)) n) (was_sent_with schema (end_reading_of end (read schema before)) (end_reading_of (other_end end) (read schema before)) n route number values) (waiting schema end before n) (was-with schema end before n route number values)).0
      (subst (λ (o : EndReading). IsTrue (prefix_line schema (end_reading_of end (read schema before)) o (what.Take n route number values))) (other-read end (read schema before)) (p.places before (line_of end (what.Take n route number values)) following e));
  drops = λ end n route number id before following e.
      (both (is_there (end_reading_of end (read schema before)) n) (was_sent (end_reading_of (other_end end) (read schema before)) n route number) (waiting schema end before n) (was schema end before n route number)).0
      (subst (λ (o : EndReading). IsTrue (prefix_line schema (end_reading_of end (read schema before)) o (what.Drop n route number id))) (other-read end (read schema before)) (p.places before (line_of end (what.Drop n route number id)) following e));
  replies = λ end n before following e. (reply-waits schema end before n).0 (p.places before (line_of end (what.TakeReply n)) following e);
}
  where
    first : (x : Side) → DeliversWhatWasSent schema x []
    first x = (map packet_kind (sent schema (said_by (other_end x) [])), refl)

delivers : (schema : Schema) (lines : List Line) → Prefix schema lines → (before : List Line) (end : Side) (w : What) (following : List Line) (p : PacketKind) → delivery w ≡ Some p → lines ≡ before ++ line_of end w ∷ following
    → IsTrue (prefix_line schema (end_reading_of end (read schema before)) (end_reading_of (other_end end) (read schema before)) w)
delivers schema lines s before end w following p is e =
    deliver-test schema (end_reading_of end (read schema before)) (end_reading_of (other_end end) (read schema before)) w p is
    ∙ next-read schema end before p ∙ front-next (sent schema (said_by (other_end end) before)) (delivered (said_by end before)) p
    (subst (λ (ps : List PacketKind). IsPrefix ps (map packet_kind (sent schema (said_by (other_end end) before)))) (filter-add delivery (said_by end before) w ∙ ap (add (delivered (said_by end before))) is)
    (subst (λ (own : List What). IsPrefix (delivered own) (map packet_kind (sent schema (said_by (other_end end) before)))) (said-own end before w)
    (subst (λ (other : List What). IsPrefix (delivered (said_by end (before ++ line_of end w ∷ []))) (map packet_kind (sent schema other))) (said-other end before w)
    (s.prefixes end (before ++ line_of end w ∷ []) following (e ∙ sym (append_assoc before (line_of end w ∷ []) following))))))

place : (schema : Schema) (lines : List Line) → Prefix schema lines → (before : List Line) (end : Side) (w : What) (following : List Line) → lines ≡ before ++ line_of end w ∷ following
    → IsTrue (prefix_line schema (end_reading_of end (read schema before)) (end_reading_of (other_end end) (read schema before)) w)
place schema lines s before end (what.DeliverRequest n) following e = delivers schema lines s before end (what.DeliverRequest n) following (seen.Request n) refl e
place schema lines s before end (what.DeliverReply n) following e = delivers schema lines s before end (what.DeliverReply n) following (seen.Reply n) refl e
place schema lines s before end what.DeliverGoodbye following e = delivers schema lines s before end what.DeliverGoodbye following seen.Goodbye refl e
place schema lines s before end what.DeliverBroken following e = delivers schema lines s before end what.DeliverBroken following seen.Broken refl e
place schema lines s before end (what.Take n route number values) following e =
    (both (is_there (end_reading_of end (read schema before)) n) (was_sent_with schema (end_reading_of end (read schema before)) (end_reading_of (other_end end) (read schema before)) n route number values) (waiting schema end before n) (was-with schema end before n route number values)).1
    (s.takes end n route number values before following e)
place schema lines s before end (what.Drop n route number id) following e =
    (both (is_there (end_reading_of end (read schema before)) n) (was_sent (end_reading_of (other_end end) (read schema before)) n route number) (waiting schema end before n) (was schema end before n route number)).1
    (s.drops end n route number id before following e)
place schema lines s before end (what.TakeReply n) following e = (reply-waits schema end before n).1 (s.replies end n before following e)
place schema lines s before end _ following e = refl

back : (schema : Schema) (lines : List Line) → Prefix schema lines → Passes law.Prefix schema lines
unfolding moment_test
back schema lines s = record {
  places = λ before line following e. subst (λ (o : EndReading). IsTrue (prefix_line schema (end_reading_of line.side (read schema before)) o line.what)) (sym (other-read line.side (read schema before))) (place schema lines s before line.side line.what following e);
  moments = λ before following e m. refl;
}

pub prefix-to : (schema : Schema) (lines : List Line) → Holds law.Prefix schema lines → Prefix schema lines
prefix-to schema lines h = to schema lines (holds-passes law.Prefix schema lines h)

pub prefix-from : (schema : Schema) (lines : List Line) → IsReadable schema lines → Prefix schema lines → Holds law.Prefix schema lines
prefix-from schema lines r s = passes-holds law.Prefix schema lines r (back schema lines s)
