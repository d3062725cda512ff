-- The test of the law Living decides its statement.
use Rattle.std.proofs.Common.{◌≡◌, ◌⊎◌, ℕ, ◌+◌, ◌*◌, ◌==◌, ℤ, pos, Bool, true, false, not, ◌&&◌, if◌then◌else◌, IsTrue, List, ◌∷◌, ◌++◌, Option, Some, None, option_and_then, refl, sym, ap, subst, ◌∙◌, arith}
use Rattle.std.specs.Bool.{Decides}
use Rattle.std.specs.Option.{option_map_or}
use Rattle.std.specs.Ordering.{int_eq}
use Rattle.std.proofs.lemmas.Bool.{and_parts, eqb-false, false≢true}
use Rattle.std.proofs.lemmas.Bool.Decides.{Decides-int_eq}
use Rattle.ipdl_base.specs.declared.kinds.Side.{Side}
use Rattle.ipdl_base.specs.declared.kinds.Side.TheVariants as side
use Rattle.ipdl_base.specs.declared.line.Line.{Line}
use Rattle.ipdl_base.specs.declared.line.What.{What}
use Rattle.ipdl_base.specs.declared.line.What.TheVariants as what
use Rattle.ipdl_base.specs.declared.schema.Schema.{Schema}
use Rattle.ipdl_base.specs.declared.value.Values.{Values}
use Rattle.ipdl_base.specs.Signatures.{params_of}
use Rattle.history_reading.specs.declared.law.Law.TheVariants as law
use Rattle.history_reading.specs.declared.parts.BuiltActor.{BuiltActor}
use Rattle.history_reading.specs.declared.parts.EventKind.{EventKind}
use Rattle.history_reading.specs.declared.parts.EventKind.TheVariants as event
use Rattle.history_reading.specs.EndReading.{EndReading, lives, was_built}
use Rattle.history_reading.specs.Holds.{Holds, IsReadable, moment_test}
use Rattle.history_reading.specs.Living as test
use Rattle.ipdl_base.specs.Sides.{other}
use Rattle.history_reading.specs.Living.{event_makes, is_built_right, is_dropped_for, is_first_missing, is_made, is_missing_in, is_taken_alive, living_line, request_makes}
use Rattle.history_reading.specs.Nulled.{all_live, missing}
use Rattle.history_reading.specs.Numbers.{id_of}
use Rattle.history_reading.specs.Reading.{end_reading_of, read}
use Rattle.history_reading.specs.SentPacket.{Request, SentPacket, request_of}
use Rattle.law_statements.specs.Said.{last_event, line_of, said_by}
use Rattle.law_statements.specs.Packets.{sent}
use Rattle.law_statements.specs.Actors as actors
use Rattle.law_statements.specs.Actors.{built, made_by, made_id, made_in}
use Rattle.law_statements.specs.Living.{IsFirstMissing, Living}
use Rattle.law_statements.proofs.Along.{Passes, holds-passes, passes-holds}
use Rattle.law_statements.proofs.Deciding.{both, either, fails-then, found, is-this, itself, untrue}
use Rattle.law_statements.proofs.Ends.{other-read}
use Rattle.law_statements.proofs.Fields.{built-read, event-read, kind_of, lives-read, sent-read}

live-read : (schema : Schema) (end : Side) (before : List Line) (id : ℤ) → lives (end_reading_of end (read schema before)) id ≡ actors.lives (said_by end before) id
live-read schema end before id = ap (λ (live : ℤ → Bool). live id) (lives-read schema end before)

taken : (schema : Schema) (end : Side) (before : List Line) (route : ℤ) (number : ℕ) (values : Values)
    → Decides (is_taken_alive schema (end_reading_of end (read schema before)) route number values)
    (IsTrue (actors.lives (said_by end before) route) × IsTrue (all_live schema (actors.lives (said_by end before)) (params_of schema number) values))
taken schema end before route number values =
    subst (λ (live : ℤ → Bool). Decides (live route && all_live schema live (params_of schema number) values) (IsTrue (actors.lives (said_by end before) route) × IsTrue (all_live schema (actors.lives (said_by end before)) (params_of schema number) values)))
    (sym (lives-read schema end before))
    (both (actors.lives (said_by end before) route) (all_live schema (actors.lives (said_by end before)) (params_of schema number) values) (itself (actors.lives (said_by end before) route)) (itself (all_live schema (actors.lives (said_by end before)) (params_of schema number) values)))

first-missing : (schema : Schema) (end : Side) (before : List Line) (n id : ℤ)
    → Decides (is_first_missing schema (end_reading_of end (read schema before)) (end_reading_of (other end) (read schema before)) n id) (IsFirstMissing schema end before n id)
first-missing schema end before n id =
    subst (λ (live : ℤ → Bool). Decides (option_map_or (λ r. option_map_or (λ first. int_eq first id) (missing schema live (params_of schema r.number) r.values) false) (request_of (end_reading_of (other end) (read schema before)).sent n) false) (IsFirstMissing schema end before n id))
    (sym (lives-read schema end before))
    (subst (λ (ps : List SentPacket). Decides (option_map_or (λ r. option_map_or (λ first. int_eq first id) (missing schema (actors.lives (said_by end before)) (params_of schema r.number) r.values) false) (request_of ps n) false) (IsFirstMissing schema end before n id))
    (sym (sent-read schema (other end) before))
    (found (request_of (sent schema (said_by (other end) before)) n) (λ r. option_map_or (λ first. int_eq first id) (missing schema (actors.lives (said_by end before)) (params_of schema r.number) r.values) false)
    (λ r. missing schema (actors.lives (said_by end before)) (params_of schema r.number) r.values ≡ Some id) (λ r. is-this (missing schema (actors.lives (said_by end before)) (params_of schema r.number) r.values) id)))

dropped : (schema : Schema) (end : Side) (before : List Line) (n route id : ℤ)
    → Decides (is_dropped_for schema (end_reading_of end (read schema before)) (end_reading_of (other end) (read schema before)) n route id)
    ((actors.lives (said_by end before) id ≡ false) × ((id ≡ route) ⊎ (IsTrue (actors.lives (said_by end before) route) × IsFirstMissing schema end before n id)))
dropped schema end before n route id =
    subst (λ (b : Bool). Decides (if b then false else (if int_eq id route then true else lives (end_reading_of end (read schema before)) route && is_first_missing schema (end_reading_of end (read schema before)) (end_reading_of (other end) (read schema before)) n id))
    ((actors.lives (said_by end before) id ≡ false) × ((id ≡ route) ⊎ (IsTrue (actors.lives (said_by end before) route) × IsFirstMissing schema end before n id)))) (sym (live-read schema end before id))
    (subst (λ (b : Bool). Decides (if actors.lives (said_by end before) id then false else (if int_eq id route then true else b && is_first_missing schema (end_reading_of end (read schema before)) (end_reading_of (other end) (read schema before)) n id))
    ((actors.lives (said_by end before) id ≡ false) × ((id ≡ route) ⊎ (IsTrue (actors.lives (said_by end before) route) × IsFirstMissing schema end before n id)))) (sym (live-read schema end before route))
    (fails-then (actors.lives (said_by end before) id) (if int_eq id route then true else actors.lives (said_by end before) route && is_first_missing schema (end_reading_of end (read schema before)) (end_reading_of (other end) (read schema before)) n id)
    (either (int_eq id route) (actors.lives (said_by end before) route && is_first_missing schema (end_reading_of end (read schema before)) (end_reading_of (other end) (read schema before)) n id) (Decides-int_eq id route)
    (both (actors.lives (said_by end before) route) (is_first_missing schema (end_reading_of end (read schema before)) (end_reading_of (other end) (read schema before)) n id) (itself (actors.lives (said_by end before) route)) (first-missing schema end before n id)))))

-- Actors that are made

none-made : (id : ℤ) → Decides (not (int_eq id (pos 0)) && int_eq (pos 0) id) (None ≡ Some id)
none-made id = (λ e. absurd (by e), λ e. cc)
  where
    by : (not (int_eq id (pos 0)) && int_eq (pos 0) id) ≡ true → ⊥
    by e =
        let parts : IsTrue (not (int_eq id (pos 0))) × IsTrue (int_eq (pos 0) id) = and_parts (not (int_eq id (pos 0))) (int_eq (pos 0) id) e in
        let zero : int_eq id (pos 0) ≡ true = (Decides-int_eq id (pos 0)).1 (sym ((Decides-int_eq (pos 0) id).0 parts.1)) in
        false≢true (sym (ap not zero) ∙ parts.0)

id-apart : (sender : Side) (k : ℕ) → (k == 0) ≡ false → int_eq (id_of sender k) (pos 0) ≡ false
id-apart sender k e = by (int_eq (id_of sender k) (pos 0)) refl
  where
    pos-apart : (m : ℕ) → (m ≡ 0 → ⊥) → pos m ≡ pos 0 → ⊥
    pos-apart m n is = n cc

    large : (s : Side) → id_of s k ≡ pos 0 → ⊥
    large side.Parent is = pos-apart (4 * k + 2) (λ z. omega (arith, z)) is
    large side.Child is = pos-apart (4 * k) (λ z. eqb-false k 0 e (omega (arith, z))) is

    by : (b : Bool) → int_eq (id_of sender k) (pos 0) ≡ b → int_eq (id_of sender k) (pos 0) ≡ false
    by true is = absurd (large sender ((Decides-int_eq (id_of sender k) (pos 0)).0 is))
    by false is = is

one-made : (sender : Side) (r : Request) (id : ℤ) (b : Bool) → (r.made == 0) ≡ b
    → Decides (not (int_eq id (pos 0)) && int_eq (if b then pos 0 else id_of sender r.made) id) ((if b then None else Some (id_of sender r.made)) ≡ Some id)
one-made sender r id true is = none-made id
one-made sender r id false is = (
  λ e. ap (λ (x : ℤ). Some x) ((Decides-int_eq (id_of sender r.made) id).0 ((and_parts (not (int_eq id (pos 0))) (int_eq (id_of sender r.made) id) e).1)),
  λ e. let same : id_of sender r.made ≡ id = cc in
      subst (λ (x : ℤ). (not (int_eq x (pos 0)) && int_eq (id_of sender r.made) x) ≡ true) same
      (ap (λ (b : Bool). not b && int_eq (id_of sender r.made) (id_of sender r.made)) (id-apart sender r.made is) ∙ (Decides-int_eq (id_of sender r.made) (id_of sender r.made)).1 refl),
)

request-makes : (sender : Side) (o : Option Request) (id : ℤ) → Decides (not (int_eq id (pos 0)) && int_eq (option_map_or (test.made_id sender) o (pos 0)) id) (option_and_then (made_id sender) o ≡ Some id)
request-makes sender None id = none-made id
request-makes sender (Some r) id = one-made sender r id (r.made == 0) refl

by-own : (schema : Schema) (end : Side) (before : List Line) (n id : ℤ) → Decides (not (int_eq id (pos 0)) && int_eq (request_makes end (end_reading_of end (read schema before)) n) id) (made_by schema end before n ≡ Some id)
by-own schema end before n id =
    subst (λ (ps : List SentPacket). Decides (not (int_eq id (pos 0)) && int_eq (option_map_or (test.made_id end) (request_of ps n) (pos 0)) id) (made_by schema end before n ≡ Some id)) (sym (sent-read schema end before))
    (request-makes end (request_of (sent schema (said_by end before)) n) id)

event-made : (schema : Schema) (end : Side) (before : List Line) (w : What) (id : ℤ)
    → Decides (not (int_eq id (pos 0)) && int_eq (event_makes end (end_reading_of end (read schema before)) (end_reading_of (other end) (read schema before)) (kind_of w)) id) (made_in schema end before w ≡ Some id)
event-made schema end before (what.Send n route number values) id = by-own schema end before n id
event-made schema end before (what.Call n transaction route number values) id = by-own schema end before n id
event-made schema end before (what.Take n route number values) id = by-own schema (other end) before n id
event-made schema end before _ id = none-made id

made : (schema : Schema) (end : Side) (before : List Line) (o : Option What) (id : ℤ)
    → Decides (not (int_eq id (pos 0)) && int_eq (event_makes end (end_reading_of end (read schema before)) (end_reading_of (other end) (read schema before)) (option_map_or kind_of o event.Other)) id)
    (option_and_then (made_in schema end before) o ≡ Some id)
made schema end before None id = none-made id
made schema end before (Some w) id = event-made schema end before w id

builds : (schema : Schema) (end : Side) (before : List Line) (id : ℤ)
    → Decides (is_built_right end (end_reading_of end (read schema before)) (end_reading_of (other end) (read schema before)) id)
    ((was_built (built (said_by end before)) id ≡ false) × (option_and_then (made_in schema end before) (last_event (said_by end before)) ≡ Some id))
builds schema end before id =
    subst (λ (xs : List BuiltActor). Decides (not (was_built xs id) && is_made end (end_reading_of end (read schema before)) (end_reading_of (other end) (read schema before)) id)
    ((was_built (built (said_by end before)) id ≡ false) × (option_and_then (made_in schema end before) (last_event (said_by end before)) ≡ Some id))) (sym (built-read schema end before))
    (both (not (was_built (built (said_by end before)) id)) (is_made end (end_reading_of end (read schema before)) (end_reading_of (other end) (read schema before)) id) (untrue (was_built (built (said_by end before)) id))
    (subst (λ (k : EventKind). Decides (not (int_eq id (pos 0)) && int_eq (event_makes end (end_reading_of end (read schema before)) (end_reading_of (other end) (read schema before)) k) id)
    (option_and_then (made_in schema end before) (last_event (said_by end before)) ≡ Some id)) (sym (event-read schema end before))
    (made schema end before (last_event (said_by end before)) id)))

-- From the test to the statement, and back

tested : (schema : Schema) (lines : List Line) → Passes law.Living schema lines → (before : List Line) (end : Side) (w : What) (following : List Line) → lines ≡ before ++ line_of end w ∷ following
    → IsTrue (living_line schema end (end_reading_of end (read schema before)) (end_reading_of (other end) (read schema before)) w)
tested schema lines p before end w following e =
    subst (λ (o : EndReading). IsTrue (living_line schema end (end_reading_of end (read schema before)) o w)) (other-read end (read schema before)) (p.places before (line_of end w) following e)

to : (schema : Schema) (lines : List Line) → Passes law.Living schema lines → Living schema lines
to schema lines p = record {
  sends = λ end n route number values before following e. sym (live-read schema end before route) ∙ tested schema lines p before end (what.Send n route number values) following e;
  calls = λ end n transaction route number values before following e. sym (live-read schema end before route) ∙ tested schema lines p before end (what.Call n transaction route number values) following e;
  takes = λ end n route number values before following e. (taken schema end before route number values).0 (tested schema lines p before end (what.Take n route number values) following e);
  drops = λ end n route number id before following e. (dropped schema end before n route id).0 (tested schema lines p before end (what.Drop n route number id) following e);
  builds = λ end id protocol before following e. (builds schema end before id).0 (tested schema lines p before end (what.Built id protocol) following e);
}

place : (schema : Schema) (lines : List Line) → Living schema lines → (before : List Line) (end : Side) (w : What) (following : List Line) → lines ≡ before ++ line_of end w ∷ following
    → IsTrue (living_line schema end (end_reading_of end (read schema before)) (end_reading_of (other end) (read schema before)) w)
place schema lines s before end (what.Send n route number values) following e = live-read schema end before route ∙ s.sends end n route number values before following e
place schema lines s before end (what.Call n transaction route number values) following e = live-read schema end before route ∙ s.calls end n transaction route number values before following e
place schema lines s before end (what.Take n route number values) following e = (taken schema end before route number values).1 (s.takes end n route number values before following e)
place schema lines s before end (what.Drop n route number id) following e = (dropped schema end before n route id).1 (s.drops end n route number id before following e)
place schema lines s before end (what.Built id protocol) following e = (builds schema end before id).1 (s.builds end id protocol before following e)
place schema lines s before end _ following e = refl

back : (schema : Schema) (lines : List Line) → Living schema lines → Passes law.Living schema lines
unfolding moment_test
back schema lines s = record {
  places = λ before line following e. subst (λ (o : EndReading). IsTrue (living_line schema line.side (end_reading_of line.side (read schema before)) o line.what)) (sym (other-read line.side (read schema before))) (place schema lines s before line.side line.what following e);
  moments = λ before following e m. refl;
}

pub living-to : (schema : Schema) (lines : List Line) → Holds law.Living schema lines → Living schema lines
living-to schema lines h = to schema lines (holds-passes law.Living schema lines h)

pub living-from : (schema : Schema) (lines : List Line) → IsReadable schema lines → Living schema lines → Holds law.Living schema lines
living-from schema lines r s = passes-holds law.Living schema lines r (back schema lines s)
