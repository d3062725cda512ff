-- The test of the law Settled decides its statement.
use Rattle.std.proofs.Common.{◌≡◌, ◌⊎◌, inl, inr, ℤ, Bool, true, false, not, ◌&&◌, if◌then◌else◌, IsTrue, List, [], ◌∷◌, ◌++◌, Contains, Option, Some, None, is_some, refl, sym, ap, subst, ◌∙◌}
use Rattle.std.specs.Bool.{Decides}
use Rattle.std.specs.List.{list_all, slice_index_or}
use Rattle.std.proofs.lemmas.List.{get_or_default}
use Rattle.std.proofs.lemmas.List.Sums.{AllPass-from_list_all, list_all-from_AllPass}
use Rattle.std.specs.Option.{option_map_or}
use Rattle.std.proofs.lemmas.Bool.{and_parts, and_from}
use Rattle.std.proofs.lemmas.Bool.Decides.{Decides-int_eq}
use Rattle.ipdl_base.specs.declared.kinds.Destroy.{Destroy}
use Rattle.ipdl_base.specs.declared.kinds.Reason.{Reason}
use Rattle.ipdl_base.specs.declared.kinds.Reason.TheVariants as reason
use Rattle.ipdl_base.specs.declared.kinds.Side.{Side}
use Rattle.ipdl_base.specs.declared.kinds.Side.TheVariants as side
use Rattle.ipdl_base.specs.declared.line.Line.{Line}
use Rattle.ipdl_base.specs.declared.line.What.{What}
use Rattle.ipdl_base.specs.declared.line.What.TheVariants as what
use Rattle.ipdl_base.specs.declared.schema.ParamRow.{ParamRow}
use Rattle.ipdl_base.specs.declared.schema.Schema.{Schema}
use Rattle.ipdl_base.specs.declared.value.Values.{Values}
use Rattle.ipdl_base.specs.Signatures.{returns_of}
use Rattle.ipdl_base.specs.Lines.{same_side}
use Rattle.history_reading.specs.declared.law.Law.TheVariants as law
use Rattle.history_reading.specs.declared.parts.EventKind.TheVariants as event
use Rattle.history_reading.specs.EndReading.{EndReading, is_settled_packet, lives, own_request}
use Rattle.history_reading.specs.Holds.{Holds, IsReadable, moment_test}
use Rattle.history_reading.specs.Nulled.{is_nulled, missing}
use Rattle.history_reading.specs.Numbers.{has}
use Rattle.history_reading.specs.Reading.{end_reading_of, read}
use Rattle.history_reading.specs.SentPacket.{Request, ReplyContent, SentPacket, request, said, goodbye, broken, resolved, rejected, ok, fault, request_of, says}
use Rattle.history_reading.specs.Settled as test
use Rattle.history_reading.specs.Settled.{all_settled, falls_next, is_cause, is_close_event, is_destroyed, is_fall_at, is_fall_of, is_rejected, is_resolved, is_settle, is_unsettled, promise_falls_next, resolves_missing, reports_fallen, settled_line, settled_moment}
use Rattle.history_reading.specs.Waits.{is_fault}
use Rattle.ipdl_base.specs.Sides.{other as other_end}
use Rattle.law_statements.specs.Said.{is_moment, last_event, line_of, said_by}
use Rattle.law_statements.specs.Packets.{has_closed, is_closing, number_settled, sent, settled}
use Rattle.law_statements.specs.Actors as actors
use Rattle.law_statements.specs.Settled.{FallsNext, HasCause, HasResolved, HasResolvedMissing, IsPending, Settled, is_settling}
use Rattle.law_statements.proofs.Along.{Passes, holds-passes, passes-holds}
use Rattle.law_statements.proofs.Deciding.{either, itself, recast, untrue}
use Rattle.law_statements.proofs.Ends.{other-read}
use Rattle.law_statements.proofs.Fields.{event-read, kind_of, last_kind, lives-read, over-read, sent-read, settled-read}
use Rattle.law_statements.proofs.Replies.{fault-said, reply-said}

-- A promise that is pending, with a further condition on it

promised : (o : Option Request) (done hold : Bool) (Q : Request → Type 0) → ((r : Request) → o ≡ Some r → Decides hold (Q r))
    → Decides ((option_map_or (λ (r : Request). r.wants) o false && not done) && hold) ((r : Request) × ((o ≡ Some r) × IsTrue r.wants × (done ≡ false)) × Q r)
promised None done hold Q d = (λ e. cc, λ e. cc (e.1.0))
promised (Some x) done hold Q d = (
  λ e. let parts : IsTrue (x.wants && not done) × IsTrue hold = and_parts (x.wants && not done) hold e in
      let more : IsTrue x.wants × IsTrue (not done) = and_parts x.wants (not done) parts.0 in
      (x, (refl, more.0, (untrue done).0 more.1), (d x refl).0 parts.1),
  λ e. from e.0 e.1.0 e.1.1 e.1.2 e.2,
)
  where
    from : (r : Request) → Some x ≡ Some r → IsTrue r.wants → done ≡ false → Q r → ((x.wants && not done) && hold) ≡ true
    from r is w f q =
        let same : x ≡ r = cc in
        and_from (x.wants && not done) hold (and_from x.wants (not done) (subst (λ (y : Request). IsTrue y.wants) (sym same) w) ((untrue done).1 f)) ((d r is).1 q)

pending : (schema : Schema) (end : Side) (before : List Line) (n : ℤ) (hold : Bool) (Q : Request → Type 0)
    → ((r : Request) → own_request (end_reading_of end (read schema before)) n ≡ Some r → Decides hold (Q r))
    → Decides (is_unsettled (end_reading_of end (read schema before)) n && hold) ((r : Request) × IsPending schema (said_by end before) n r × Q r)
pending schema end before n hold Q d =
    recast (is_unsettled (end_reading_of end (read schema before)) n && hold)
    (promised (own_request (end_reading_of end (read schema before)) n) (has (end_reading_of end (read schema before)).settled n) hold Q d)
    (λ e. (e.0, (sym ask ∙ e.1.0, e.1.1, sym done ∙ e.1.2), e.2)) (λ e. (e.0, (ask ∙ e.1.0, e.1.1, done ∙ e.1.2), e.2))
  where
    ask : own_request (end_reading_of end (read schema before)) n ≡ request_of (sent schema (said_by end before)) n
    ask = ap (λ (ps : List SentPacket). request_of ps n) (sent-read schema end before)

    done : has (end_reading_of end (read schema before)).settled n ≡ has (settled (said_by end before)) n
    done = ap (λ (ns : List ℤ). has ns n) (settled-read schema end before)

resolved-said : (schema : Schema) (live : ℤ → Bool) (types : List ParamRow) (values : Values) (own : EndReading) (sents : List SentPacket) (n : ℤ) → lives own ≡ live
    → Decides (says (test.is_resolved_with schema own types values) sents n) ((given : Values) × Contains sents (said n (resolved given)) × IsTrue (is_nulled schema live types given values))
resolved-said schema live types values own sents n l =
    recast (says (test.is_resolved_with schema own types values) sents n) (reply-said (test.is_resolved_with schema own types values) sents n) (λ s. to s.0 s.1 s.2)
    (λ s. (resolved s.0, s.1, subst (λ (f : ℤ → Bool). IsTrue (is_nulled schema f types s.0 values)) (sym l) s.2))
  where
    to : (content : ReplyContent) → Contains sents (said n content) → IsTrue (test.is_resolved_with schema own types values content) → (given : Values) × Contains sents (said n (resolved given)) × IsTrue (is_nulled schema live types given values)
    to (resolved vs) c t = (vs, c, subst (λ (f : ℤ → Bool). IsTrue (is_nulled schema f types vs values)) l t)
    to rejected c t = cc
    to (ok vs) c t = cc
    to (fault q) c t = cc

missing-said : (schema : Schema) (live : ℤ → Bool) (types : List ParamRow) (own : EndReading) (sents : List SentPacket) (n : ℤ) → lives own ≡ live
    → Decides (says (test.is_resolved_missing schema own types) sents n) ((given : Values) × Contains sents (said n (resolved given)) × IsTrue (is_some (missing schema live types given)))
missing-said schema live types own sents n l =
    recast (says (test.is_resolved_missing schema own types) sents n) (reply-said (test.is_resolved_missing schema own types) sents n) (λ s. to s.0 s.1 s.2)
    (λ s. (resolved s.0, s.1, subst (λ (f : ℤ → Bool). IsTrue (is_some (missing schema f types s.0))) (sym l) s.2))
  where
    to : (content : ReplyContent) → Contains sents (said n content) → IsTrue (test.is_resolved_missing schema own types content) → (given : Values) × Contains sents (said n (resolved given)) × IsTrue (is_some (missing schema live types given))
    to (resolved vs) c t = (vs, c, subst (λ (f : ℤ → Bool). IsTrue (is_some (missing schema f types vs))) l t)
    to rejected c t = cc
    to (ok vs) c t = cc
    to (fault q) c t = cc

rejection-said : (sents : List SentPacket) (n : ℤ) → Decides (says is_rejected sents n) (Contains sents (said n rejected))
rejection-said sents n = recast (says is_rejected sents n) (reply-said is_rejected sents n) (λ s. to s.0 s.1 s.2) (λ c. (rejected, c, refl))
  where
    to : (content : ReplyContent) → Contains sents (said n content) → IsTrue (is_rejected content) → Contains sents (said n rejected)
    to (resolved vs) c t = cc
    to rejected c t = c
    to (ok vs) c t = cc
    to (fault q) c t = cc

-- The fall after settlings

settle-same : (w : What) → is_settle w ≡ is_some (number_settled w)
settle-same (what.Resolved n values) = refl
settle-same (what.Rejected n r) = refl
settle-same _ = refl

fall-here : (end : Side) (id : ℤ) (s : Side) (w : What) → is_fall_at end id (line_of s w) ≡ true → (why : Destroy) × (line_of s w ≡ line_of end (what.Fall id why))
fall-here end id s w e = at s end w (and_parts (same_side s end) (is_fall_of id w) e).0 (and_parts (same_side s end) (is_fall_of id w) e).1
  where
    fall : (x : What) → is_fall_of id x ≡ true → (why : Destroy) × (x ≡ what.Fall id why)
    fall (what.Fall a why) f = (why, ap (λ (i : ℤ). what.Fall i why) ((Decides-int_eq a id).0 f))
    fall _ f = cc

    at : (x y : Side) (v : What) → same_side x y ≡ true → is_fall_of id v ≡ true → (why : Destroy) × (line_of x v ≡ line_of y (what.Fall id why))
    at side.Parent side.Parent v same f = ((fall v f).0, ap (line_of side.Parent) (fall v f).1)
    at side.Child side.Child v same f = ((fall v f).0, ap (line_of side.Child) (fall v f).1)
    at side.Parent side.Child v same f = cc
    at side.Child side.Parent v same f = cc

fall-there : (end : Side) (id : ℤ) (why : Destroy) → is_fall_at end id (line_of end (what.Fall id why)) ≡ true
fall-there side.Parent id why = (Decides-int_eq id id).1 refl
fall-there side.Child id why = (Decides-int_eq id id).1 refl

next-to : (end : Side) (id : ℤ) (following : List Line) → falls_next end id following ≡ true → FallsNext end id following
next-to end id [] e = cc
next-to end id (line ∷ following) e = by (is_settle line.what) refl e (λ h. next-to end id following h)
  where
    by : (b : Bool) → is_settle line.what ≡ b → (if b then falls_next end id following else is_fall_at end id line) ≡ true → (falls_next end id following ≡ true → FallsNext end id following) → FallsNext end id (line ∷ following)
    by true is h more =
        let later : FallsNext end id following = more h in
        (line ∷ later.0, later.1, later.2, ap (λ (ls : List Line). line ∷ ls) later.3, and_from (is_settling line) (list_all is_settling later.0) (sym (settle-same line.what) ∙ is) later.4)
    by false is h more =
        let fall : (why : Destroy) × (line_of line.side line.what ≡ line_of end (what.Fall id why)) = fall-here end id line.side line.what h in
        ([], fall.0, following, ap (λ (l : Line). l ∷ following) fall.1, refl)

next-from : (end : Side) (id : ℤ) (settlings : List Line) (why : Destroy) (later : List Line) → IsTrue (list_all is_settling settlings) → falls_next end id (settlings ++ line_of end (what.Fall id why) ∷ later) ≡ true
next-from end id [] why later a = fall-there end id why
next-from end id (line ∷ settlings) why later a =
    ap (λ (b : Bool). if b then falls_next end id (settlings ++ line_of end (what.Fall id why) ∷ later) else is_fall_at end id line) (settle-same line.what ∙ (and_parts (is_settling line) (list_all is_settling settlings) a).0)
    ∙ next-from end id settlings why later ((and_parts (is_settling line) (list_all is_settling settlings) a).1)

pub next : (end : Side) (id : ℤ) (following : List Line) → Decides (falls_next end id following) (FallsNext end id following)
next end id following = (next-to end id following, λ f. ap (falls_next end id) f.3 ∙ next-from end id f.0 f.1 f.2 f.4)

pub closes : (o : Option What) → is_close_event (option_map_or kind_of o event.Other) ≡ option_map_or is_closing o false
closes None = refl
closes (Some what.Close) = refl
closes (Some _) = refl

-- The lines

resolving : (schema : Schema) (end : Side) (before : List Line) (n : ℤ) (values : Values)
    → Decides (is_unsettled (end_reading_of end (read schema before)) n && is_resolved schema (end_reading_of end (read schema before)) (end_reading_of (other_end end) (read schema before)) n values)
    ((r : Request) × IsPending schema (said_by end before) n r × HasResolved schema (said_by end before) (said_by (other_end end) before) n r values)
resolving schema end before n values =
    pending schema end before n (is_resolved schema (end_reading_of end (read schema before)) (end_reading_of (other_end end) (read schema before)) n values)
    (λ r. HasResolved schema (said_by end before) (said_by (other_end end) before) n r values) by
  where
    by : (r : Request) → own_request (end_reading_of end (read schema before)) n ≡ Some r
        → Decides (is_resolved schema (end_reading_of end (read schema before)) (end_reading_of (other_end end) (read schema before)) n values) (HasResolved schema (said_by end before) (said_by (other_end end) before) n r values)
    by r q =
        subst (λ (found : Option Request). Decides (says (test.is_resolved_with schema (end_reading_of end (read schema before)) (option_map_or (λ x. returns_of schema x.number) found []) values) (end_reading_of (other_end end) (read schema before)).sent n)
        (HasResolved schema (said_by end before) (said_by (other_end end) before) n r values)) (sym q)
        (subst (λ (ps : List SentPacket). Decides (says (test.is_resolved_with schema (end_reading_of end (read schema before)) (returns_of schema r.number) values) ps n) (HasResolved schema (said_by end before) (said_by (other_end end) before) n r values))
        (sym (sent-read schema (other_end end) before))
        (resolved-said schema (actors.lives (said_by end before)) (returns_of schema r.number) values (end_reading_of end (read schema before)) (sent schema (said_by (other_end end) before)) n (lives-read schema end before)))

cause : (schema : Schema) (end : Side) (before following : List Line) (n : ℤ) (r : Request) (why : Reason) (own : EndReading) → lives own ≡ actors.lives (said_by end before) → own.event ≡ last_kind (said_by end before) → own_request own n ≡ Some r
    → (other : EndReading) → other.sent ≡ sent schema (said_by (other_end end) before) → Decides (is_cause schema end own other n following why) (HasCause schema end before following n r why)
unfolding is_destroyed reports_fallen resolves_missing promise_falls_next
cause schema end before following n r reason.HandlerRejected own l v q other o =
    subst (λ (ps : List SentPacket). Decides (says is_rejected ps n) (Contains (sent schema (said_by (other_end end) before)) (said n rejected))) (sym o) (rejection-said (sent schema (said_by (other_end end) before)) n)
cause schema end before following n r reason.ResolverDestroyed own l v q other o =
    subst (λ (ps : List SentPacket). Decides (says (is_fault reason.ResolverDestroyed) ps n) (Contains (sent schema (said_by (other_end end) before)) (said n (fault reason.ResolverDestroyed)))) (sym o)
    (fault-said reason.ResolverDestroyed (sent schema (said_by (other_end end) before)) n)
cause schema end before following n r reason.ChannelClosed own l v q other o =
    subst (λ (b : Bool). Decides b (IsTrue (option_map_or is_closing (last_event (said_by end before)) false))) (sym (ap is_close_event v ∙ closes (last_event (said_by end before)))) (itself (option_map_or is_closing (last_event (said_by end before)) false))
cause schema end before following n r reason.ActorDestroyed own l v q other o =
    subst (λ (ps : List SentPacket). Decides (if (if says (is_fault reason.ActorDestroyed) ps n then true else says (test.is_resolved_missing schema own (option_map_or (λ x. returns_of schema x.number) (own_request own n) [])) ps n) then true
    else option_map_or (λ x. falls_next end x.route following) (own_request own n) false) (HasCause schema end before following n r reason.ActorDestroyed)) (sym o)
    (subst (λ (found : Option Request). Decides (if (if says (is_fault reason.ActorDestroyed) (sent schema (said_by (other_end end) before)) n then true
    else says (test.is_resolved_missing schema own (option_map_or (λ x. returns_of schema x.number) found [])) (sent schema (said_by (other_end end) before)) n) then true
    else option_map_or (λ x. falls_next end x.route following) found false) (HasCause schema end before following n r reason.ActorDestroyed)) (sym q)
    (recast (if (if says (is_fault reason.ActorDestroyed) (sent schema (said_by (other_end end) before)) n then true else says (test.is_resolved_missing schema own (returns_of schema r.number)) (sent schema (said_by (other_end end) before)) n) then true
    else falls_next end r.route following)
    (either (if says (is_fault reason.ActorDestroyed) (sent schema (said_by (other_end end) before)) n then true else says (test.is_resolved_missing schema own (returns_of schema r.number)) (sent schema (said_by (other_end end) before)) n) (falls_next end r.route following)
    (either (says (is_fault reason.ActorDestroyed) (sent schema (said_by (other_end end) before)) n) (says (test.is_resolved_missing schema own (returns_of schema r.number)) (sent schema (said_by (other_end end) before)) n)
    (fault-said reason.ActorDestroyed (sent schema (said_by (other_end end) before)) n) (missing-said schema (actors.lives (said_by end before)) (returns_of schema r.number) own (sent schema (said_by (other_end end) before)) n l))
    (next end r.route following)) left right))
  where
    left : (Contains (sent schema (said_by (other_end end) before)) (said n (fault reason.ActorDestroyed)) ⊎ HasResolvedMissing schema (said_by end before) (said_by (other_end end) before) n r) ⊎ FallsNext end r.route following
        → HasCause schema end before following n r reason.ActorDestroyed
    left (inl (inl a)) = inl a
    left (inl (inr b)) = inr (inl b)
    left (inr c) = inr (inr c)

    right : HasCause schema end before following n r reason.ActorDestroyed
        → (Contains (sent schema (said_by (other_end end) before)) (said n (fault reason.ActorDestroyed)) ⊎ HasResolvedMissing schema (said_by end before) (said_by (other_end end) before) n r) ⊎ FallsNext end r.route following
    right (inl a) = inl (inl a)
    right (inr (inl b)) = inl (inr b)
    right (inr (inr c)) = inr c

rejecting : (schema : Schema) (end : Side) (before following : List Line) (n : ℤ) (why : Reason)
    → Decides (is_unsettled (end_reading_of end (read schema before)) n && is_cause schema end (end_reading_of end (read schema before)) (end_reading_of (other_end end) (read schema before)) n following why)
    ((r : Request) × IsPending schema (said_by end before) n r × HasCause schema end before following n r why)
rejecting schema end before following n why =
    pending schema end before n (is_cause schema end (end_reading_of end (read schema before)) (end_reading_of (other_end end) (read schema before)) n following why) (λ r. HasCause schema end before following n r why)
    (λ r q. cause schema end before following n r why (end_reading_of end (read schema before)) (lives-read schema end before) (event-read schema end before) q (end_reading_of (other_end end) (read schema before)) (sent-read schema (other_end end) before))

-- The moments

settled-if : (b c : Bool) → (if b then c else true) ≡ true → IsTrue b → c ≡ true
settled-if true c e w = e
settled-if false c e w = cc

if-settled : (b c : Bool) → (IsTrue b → c ≡ true) → (if b then c else true) ≡ true
if-settled true c h = h refl
if-settled false c h = refl

all-settled : (ns : List ℤ) (sents : List SentPacket) → Decides (all_settled ns sents) ((r : Request) → Contains sents (request r) → IsTrue r.wants → IsTrue (has ns r.seq))
all-settled ns sents = (
  λ e r c w. settled-if r.wants (has ns r.seq) (subst (λ (p : SentPacket). is_settled_packet ns p ≡ true) c.2 (AllPass-from_list_all (is_settled_packet ns) sents e c.0 (request r) c.1)) w,
  λ h. list_all-from_AllPass (is_settled_packet ns) sents (λ k d l. each h (slice_index_or sents k d) (k, l, get_or_default sents k (slice_index_or sents k d) d l)),
)
  where
    each : ((r : Request) → Contains sents (request r) → IsTrue r.wants → IsTrue (has ns r.seq)) → (p : SentPacket) → Contains sents p → is_settled_packet ns p ≡ true
    each h (request r) c = if-settled r.wants (has ns r.seq) (h r c)
    each h (said n content) c = refl
    each h goodbye c = refl
    each h broken c = refl

pub moment-to : (schema : Schema) (end : Side) (before : List Line) → IsTrue (settled_moment (end_reading_of end (read schema before))) → IsTrue (has_closed (said_by end before))
    → (r : Request) → Contains (sent schema (said_by end before)) (request r) → IsTrue r.wants → IsTrue (has (settled (said_by end before)) r.seq)
moment-to schema end before e closed r c w =
    ap (λ (ns : List ℤ). has ns r.seq) (sym (settled-read schema end before))
    ∙ (all-settled (end_reading_of end (read schema before)).settled (end_reading_of end (read schema before)).sent).0
    (settled-if (end_reading_of end (read schema before)).over (all_settled (end_reading_of end (read schema before)).settled (end_reading_of end (read schema before)).sent) e (over-read schema end before ∙ closed))
    r (subst (λ (ps : List SentPacket). Contains ps (request r)) (sym (sent-read schema end before)) c) w

moment-from : (schema : Schema) (end : Side) (before : List Line)
    → (IsTrue (has_closed (said_by end before)) → (r : Request) → Contains (sent schema (said_by end before)) (request r) → IsTrue r.wants → IsTrue (has (settled (said_by end before)) r.seq))
    → IsTrue (settled_moment (end_reading_of end (read schema before)))
moment-from schema end before h =
    if-settled (end_reading_of end (read schema before)).over (all_settled (end_reading_of end (read schema before)).settled (end_reading_of end (read schema before)).sent)
    (λ closed. (all-settled (end_reading_of end (read schema before)).settled (end_reading_of end (read schema before)).sent).1
    (λ r c w. ap (λ (ns : List ℤ). has ns r.seq) (settled-read schema end before)
    ∙ h (sym (over-read schema end before) ∙ closed) r (subst (λ (ps : List SentPacket). Contains ps (request r)) (sent-read schema end before) c) w))

-- From the test to the statement, and back

tested : (schema : Schema) (lines : List Line) → Passes law.Settled schema lines → (before : List Line) (end : Side) (w : What) (following : List Line) → lines ≡ before ++ line_of end w ∷ following
    → IsTrue (settled_line schema end (end_reading_of end (read schema before)) (end_reading_of (other_end end) (read schema before)) w following)
tested schema lines p before end w following e =
    subst (λ (o : EndReading). IsTrue (settled_line schema end (end_reading_of end (read schema before)) o w following)) (other-read end (read schema before)) (p.places before (line_of end w) following e)

moment-of : (schema : Schema) (lines : List Line) → Passes law.Settled schema lines → (end : Side) (before following : List Line) → lines ≡ before ++ following → IsTrue (is_moment following) → IsTrue (settled_moment (end_reading_of end (read schema before)))
unfolding moment_test
moment-of schema lines p side.Parent before following e m = (and_parts (settled_moment (read schema before).parent) (settled_moment (read schema before).child) (p.moments before following e m)).0
moment-of schema lines p side.Child before following e m = (and_parts (settled_moment (read schema before).parent) (settled_moment (read schema before).child) (p.moments before following e m)).1

to : (schema : Schema) (lines : List Line) → Passes law.Settled schema lines → Settled schema lines
to schema lines p = record {
  resolves = λ end n values before following e. (resolving schema end before n values).0 (tested schema lines p before end (what.Resolved n values) following e);
  rejects = λ end n why before following e. (rejecting schema end before following n why).0 (tested schema lines p before end (what.Rejected n why) following e);
  closings = λ end r before following e m closed c w. moment-to schema end before (moment-of schema lines p end before following e m) closed r c w;
}

place : (schema : Schema) (lines : List Line) → Settled schema lines → (before : List Line) (end : Side) (w : What) (following : List Line) → lines ≡ before ++ line_of end w ∷ following
    → IsTrue (settled_line schema end (end_reading_of end (read schema before)) (end_reading_of (other_end end) (read schema before)) w following)
place schema lines s before end (what.Resolved n values) following e = (resolving schema end before n values).1 (s.resolves end n values before following e)
place schema lines s before end (what.Rejected n why) following e = (rejecting schema end before following n why).1 (s.rejects end n why before following e)
place schema lines s before end _ following e = refl

back : (schema : Schema) (lines : List Line) → Settled schema lines → Passes law.Settled schema lines
unfolding moment_test
back schema lines s = record {
  places = λ before line following e. subst (λ (o : EndReading). IsTrue (settled_line schema line.side (end_reading_of line.side (read schema before)) o line.what following)) (sym (other-read line.side (read schema before))) (place schema lines s before line.side line.what following e);
  moments = λ before following e m.
      and_from (settled_moment (read schema before).parent) (settled_moment (read schema before).child)
      (moment-from schema side.Parent before (λ closed r c w. s.closings side.Parent r before following e m closed c w)) (moment-from schema side.Child before (λ closed r c w. s.closings side.Child r before following e m closed c w));
}

pub settled-to : (schema : Schema) (lines : List Line) → Holds law.Settled schema lines → Settled schema lines
settled-to schema lines h = to schema lines (holds-passes law.Settled schema lines h)

pub settled-from : (schema : Schema) (lines : List Line) → IsReadable schema lines → Settled schema lines → Holds law.Settled schema lines
settled-from schema lines r s = passes-holds law.Settled schema lines r (back schema lines s)
