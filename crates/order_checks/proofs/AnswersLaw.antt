-- The test of answers decides their statement.
use Rattle.std.proofs.Common.{◌≡◌, ◌≢◌, ℤ, Bool, true, false, not, ◌&&◌, if◌then◌else◌, IsTrue, List, [], ◌∷◌, ◌++◌, Contains, Option, Some, refl, sym, ap, subst, ◌∙◌}
use Rattle.std.specs.Bool.{Decides}
use Rattle.std.specs.List.{list_any}
use Rattle.std.specs.Option.{option_map_or}
use Rattle.std.proofs.lemmas.Bool.{false≢true}
use Rattle.ipdl_base.specs.declared.kinds.Reason.TheVariants as reason
use Rattle.ipdl_base.specs.declared.kinds.Side.{Side}
use Rattle.ipdl_base.specs.declared.line.Line.{Line}
use Rattle.ipdl_base.specs.declared.line.What.{What}
use Rattle.ipdl_base.specs.declared.line.What.TheVariants as what
use Rattle.ipdl_base.specs.declared.schema.Schema.{Schema}
use Rattle.history_reading.specs.declared.parts.PacketKind.TheVariants as seen
use Rattle.history_reading.specs.EndReading.{EndReading}
use Rattle.history_reading.specs.Holds.{IsReadable}
use Rattle.history_reading.specs.Numbers.{has, has_packet}
use Rattle.history_reading.specs.Reading.{other_of, read}
use Rattle.history_reading.specs.SentPacket.{Request, SentPacket, request_of}
use Rattle.law_statements.specs.Packets.{delivered, sent, settled}
use Rattle.law_statements.specs.Readable.{Readable}
use Rattle.ipdl_base.specs.Sides.{other as other_end}
use Rattle.law_statements.specs.Said.{last_event, line_of, said_by}
use Rattle.law_statements.proofs.Along.{each-from, each-to}
use Rattle.law_statements.proofs.Deciding.{both, found, itself, recast, untrue}
use Rattle.law_statements.proofs.Ends.{other-read}
use Rattle.law_statements.proofs.Fields.{sent-read}
use Rattle.law_statements.proofs.ReadableLines.{readable-from}
use Rattle.order_statements.specs.Answers.{Answers, MayAnswer}
use Rattle.order_statements.specs.Effects.{fault_due}
use Rattle.order_statements.specs.Shape.{HasEffects, answered, is_open_by, number_answered, owes_reply}
use Rattle.order_checks.specs.declared.walk.Statement.TheVariants as statement
use Rattle.order_checks.specs.AnswerTests.{answers_line, has_just_come, is_answered_right, is_late_right, is_owed, is_rejection_at, is_replaced_right, is_unanswered_request, may_answer}
use Rattle.order_checks.specs.EffectTests.{effects_next, is_fault_due}
use Rattle.order_checks.specs.Walk.{all_pass, line_test, passes}
use Rattle.order_checks.proofs.AsSaid.{as_said, read-as-said}
use Rattle.order_checks.proofs.EffectLists.{fault-is-due}
use Rattle.order_checks.proofs.LastEvents.{just-come, rejected-said}
use Rattle.order_checks.proofs.Next.{has-next, next-are}

-- what is read of the other end, with what it has sent in the words of the statements
abbrev other_as_said : Schema → Side → List Line → EndReading
other_as_said schema end before = record (other_of end (read schema before)) { sent = sent schema (said_by (other_end end) before) }

other-is : (schema : Schema) (end : Side) (before : List Line) → other_of end (read schema before) ≡ other_as_said schema end before
other-is schema end before =
    ap (λ (ps : List SentPacket). record (other_of end (read schema before)) { sent = ps })
    (ap (λ (own : EndReading). own.sent) (other-read end (read schema before)) ∙ sent-read schema (other_end end) before)

-- Who may be answered

untold : {P : Type 0} (b : Bool) → Decides b P → Decides (not b) (P → ⊥)
untold true p = (λ e. cc, λ h. absurd (h (p.0 refl)))
untold false p = (λ e q. false≢true (p.1 q), λ h. refl)

abbrev Asked : Schema → Side → List Line → ℤ → Type 0
Asked schema end before n = (asked : Request) × (request_of (sent schema (said_by (other_end end) before)) n ≡ Some asked) × IsTrue (owes_reply schema asked.number)

abbrev NotAnswered : Side → List Line → ℤ → Type 0
NotAnswered end before n = IsTrue (has_packet (delivered (said_by end before)) (seen.Request n)) × ((last_event (said_by end before) ≢ Some (what.DeliverRequest n)) × (has (answered (said_by end before)) n ≡ false))

may-parts : (schema : Schema) (end : Side) (before : List Line) (n : ℤ)
    → Decides (may_answer schema end (as_said schema end before) (other_as_said schema end before) (answered (said_by end before)) before n) (IsTrue (is_open_by (said_by end before)) × (Asked schema end before n × NotAnswered end before n))
may-parts schema end before n =
    both (is_open_by own) (is_owed schema (other_as_said schema end before) n && is_unanswered_request end (as_said schema end before) (answered own) before n) (itself (is_open_by own))
    (both (is_owed schema (other_as_said schema end before) n) (is_unanswered_request end (as_said schema end before) (answered own) before n)
    (found (request_of (sent schema (said_by (other_end end) before)) n) (λ (r : Request). owes_reply schema r.number) (λ (r : Request). IsTrue (owes_reply schema r.number)) (λ r. itself (owes_reply schema r.number)))
    (both (has_packet (delivered own) (seen.Request n)) (not (has_just_come end n before) && not (has (answered own) n)) (itself (has_packet (delivered own) (seen.Request n)))
    (both (not (has_just_come end n before)) (not (has (answered own) n)) (untold (has_just_come end n before) (just-come end n before)) (untrue (has (answered own) n)))))
  where
    own : List What
    own = said_by end before

may : (schema : Schema) (end : Side) (before : List Line) (n : ℤ)
    → Decides (may_answer schema end (as_said schema end before) (other_as_said schema end before) (answered (said_by end before)) before n) (MayAnswer schema (said_by end before) (said_by (other_end end) before) n)
may schema end before n = recast (may_answer schema end (as_said schema end before) (other_as_said schema end before) (answered (said_by end before)) before n) (may-parts schema end before n)
    (λ p. record { opened = p.0; asked = p.1.0.0; sent = p.1.0.1; owes = p.1.0.2; delivered = p.1.1.0; earlier = p.1.1.1.0; first = p.1.1.1.1 })
    (λ m. (m.opened, ((m.asked, m.sent, m.owes), (m.delivered, (m.earlier, m.first)))))

-- Replaced requests, and late replies

abbrev IsReplaced : Schema → Side → List Line → List Line → ℤ → Type 0
IsReplaced schema end before following n =
    (asked : Request) × (request_of (sent schema (said_by (other_end end) before)) n ≡ Some asked) × HasEffects end (fault_due asked.wants n reason.ResolverDestroyed) following

replaced : (schema : Schema) (end : Side) (before following : List Line) (n : ℤ) → HasEffects end (effects_next following) following → Decides (is_replaced_right (other_as_said schema end before) n (effects_next following)) (IsReplaced schema end before following n)
replaced schema end before following n prints =
    found (request_of (sent schema (said_by (other_end end) before)) n) (λ (r : Request). is_fault_due r.wants n reason.ResolverDestroyed (effects_next following)) (λ (r : Request). HasEffects end (fault_due r.wants n reason.ResolverDestroyed) following) (λ r.
    recast (is_fault_due r.wants n reason.ResolverDestroyed (effects_next following)) (fault-is-due r.wants n reason.ResolverDestroyed (effects_next following))
    (λ e. subst (λ (ws : List What). HasEffects end ws following) e prints) (λ h. next-are end (fault_due r.wants n reason.ResolverDestroyed) following h))

late : (schema : Schema) (end : Side) (before : List Line) (n : ℤ)
    → Decides (is_late_right end (as_said schema end before) before n) (IsTrue (has (settled (said_by end before)) n) → Contains (said_by end before) (what.Rejected n reason.ActorDestroyed))
late schema end before n = by (has (settled (said_by end before)) n)
  where
    by : (b : Bool) → Decides (if b then list_any (is_rejection_at end n) before else true) (IsTrue b → Contains (said_by end before) (what.Rejected n reason.ActorDestroyed))
    by true = (λ e is. (rejected-said end n before).0 e, λ h. (rejected-said end n before).1 (h refl))
    by false = (λ e is. cc, λ h. refl)

-- Each place

abbrev PassesAt : Schema → Side → What → List Line → List Line → Type 0
PassesAt schema end w before following = answers_line schema end (as_said schema end before) (other_as_said schema end before) (answered (said_by end before)) before w following ≡ true

test-is : (schema : Schema) (lines : List Line) → IsReadable schema lines → (end : Side) (w : What) (before following : List Line) → lines ≡ before ++ line_of end w ∷ following
    → passes statement.Answers schema before (line_of end w) following ≡ answers_line schema end (as_said schema end before) (other_as_said schema end before) (answered (said_by end before)) before w following
unfolding line_test
test-is schema lines readable end w before following e =
    ap (λ (own : EndReading). answers_line schema end own (other_of end (read schema before)) (answered (said_by end before)) before w following) (read-as-said schema lines readable end before (line_of end w ∷ following) e)
    ∙ ap (λ (other : EndReading). answers_line schema end (as_said schema end before) other (answered (said_by end before)) before w following) (other-is schema end before)

answer-test : (schema : Schema) (end : Side) (w : What) (n : ℤ) (before following : List Line) → number_answered w ≡ Some n
    → answers_line schema end (as_said schema end before) (other_as_said schema end before) (answered (said_by end before)) before w following
    ≡ may_answer schema end (as_said schema end before) (other_as_said schema end before) (answered (said_by end before)) before n
answer-test schema end w n before following e =
    by w e ∙ ap (λ (o : Option ℤ). option_map_or (may_answer schema end (as_said schema end before) (other_as_said schema end before) (answered (said_by end before)) before) o true) e
  where
    by : (v : What) → number_answered v ≡ Some n → answers_line schema end (as_said schema end before) (other_as_said schema end before) (answered (said_by end before)) before v following
        ≡ is_answered_right schema end (as_said schema end before) (other_as_said schema end before) (answered (said_by end before)) before v
    by (what.Replaced m) f = cc
    by (what.TakeReply m) f = cc
    by _ f = refl

pub answers-to : (schema : Schema) (lines : List Line) → Readable schema lines → all_pass statement.Answers schema lines ≡ true → Answers schema lines
answers-to schema lines told h = record {
  answers = λ end w n before following e is. (may schema end before n).0 (sym (answer-test schema end w n before following is) ∙ test end w before following e);
  replaced = λ end n before following e. (replaced schema end before following n (has-next schema lines readable end (what.Replaced n) before following e)).0 (test end (what.Replaced n) before following e);
  late = λ end n before following e is. (late schema end before n).0 (test end (what.TakeReply n) before following e) is;
}
  where
    readable : IsReadable schema lines
    readable = readable-from schema lines told

    test : (end : Side) (w : What) (before following : List Line) → lines ≡ before ++ line_of end w ∷ following → PassesAt schema end w before following
    test end w before following e = sym (test-is schema lines readable end w before following e) ∙ each-from (passes statement.Answers schema) [] lines h before (line_of end w) following e

line-from : (schema : Schema) (lines : List Line) → IsReadable schema lines → Answers schema lines → (end : Side) (w : What) (before following : List Line) → lines ≡ before ++ line_of end w ∷ following → PassesAt schema end w before following
line-from schema lines readable s end (what.Replaced n) before following e = (replaced schema end before following n (has-next schema lines readable end (what.Replaced n) before following e)).1 (s.replaced end n before following e)
line-from schema lines readable s end (what.TakeReply n) before following e = (late schema end before n).1 (λ is. s.late end n before following e is)
line-from schema lines readable s end (what.Resolve n values) before following e = (may schema end before n).1 (s.answers end (what.Resolve n values) n before following e refl)
line-from schema lines readable s end (what.Reject n) before following e = (may schema end before n).1 (s.answers end (what.Reject n) n before following e refl)
line-from schema lines readable s end (what.AnswerOk n values) before following e = (may schema end before n).1 (s.answers end (what.AnswerOk n values) n before following e refl)
line-from schema lines readable s end (what.AnswerFault n why) before following e = (may schema end before n).1 (s.answers end (what.AnswerFault n why) n before following e refl)
line-from schema lines readable s end _ before following e = refl

pub answers-from : (schema : Schema) (lines : List Line) → Readable schema lines → Answers schema lines → all_pass statement.Answers schema lines ≡ true
answers-from schema lines told s =
    each-to (passes statement.Answers schema) [] lines (λ before line following e.
    test-is schema lines (readable-from schema lines told) line.side line.what before following e ∙ line-from schema lines (readable-from schema lines told) s line.side line.what before following e)
