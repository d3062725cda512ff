-- The test of effects decides their statement.
use Rattle.std.proofs.Common.{◌≡◌, ℕ, ℤ, Bool, true, false, not, ◌&&◌, if◌then◌else◌, IsTrue, List, [], ◌∷◌, ◌++◌, Contains, Option, Some, None, refl, sym, ap, subst, ◌∙◌}
use Rattle.std.specs.Bool.{Decides}
use Rattle.std.specs.List.{list_all}
use Rattle.std.specs.Option.{option_map_or}
use Rattle.std.specs.Cmp.Lexicographic.{pointwise}
use Rattle.std.specs.Prelude.{nat_eq}
use Rattle.std.proofs.lemmas.Bool.{and_parts, and_from, not-true}
use Rattle.std.proofs.lemmas.Bool.Decides.{Decides-eqb}
use Rattle.std.proofs.lemmas.Slice.Eq.{slice_eq-Decides}
use Rattle.ipdl_base.specs.declared.kinds.Reason.TheVariants as reason
use Rattle.ipdl_base.specs.declared.kinds.Side.{Side}
use Rattle.ipdl_base.specs.declared.line.Line.{Line}
use Rattle.ipdl_base.specs.declared.line.What.{What}
use Rattle.ipdl_base.specs.declared.line.What.TheVariants as what
use Rattle.ipdl_base.specs.declared.schema.Schema.{Schema}
use Rattle.history_reading.specs.declared.parts.CallFrame.{CallFrame}
use Rattle.history_reading.specs.declared.parts.CallFrame.TheVariants as frame
use Rattle.history_reading.specs.declared.parts.HandledRequest.{HandledRequest}
use Rattle.history_reading.specs.EndReading.{EndReading, was_built}
use Rattle.history_reading.specs.Holds.{IsReadable}
use Rattle.history_reading.specs.Numbers.{has}
use Rattle.history_reading.specs.Rows.{is_sync_number, wants_number}
use Rattle.law_statements.specs.Actors.{built, fallen, id_fallen}
use Rattle.law_statements.specs.Fallen.{Fallen}
use Rattle.law_statements.specs.Living.{Living}
use Rattle.law_statements.specs.Packets.{number_settled, settled}
use Rattle.law_statements.specs.Readable.{Readable}
use Rattle.law_statements.specs.Said.{line_of, said_by}
use Rattle.law_statements.specs.Stack.{stack}
use Rattle.law_statements.proofs.Along.{each-from, each-to}
use Rattle.law_statements.proofs.FallenLaw.{each-contained}
use Rattle.law_statements.proofs.ReadableLines.{readable-from}
use Rattle.order_statements.specs.Effects.{Effects, IsBuilt, IsBuiltBySend, IsDeleted, IsReturned, ReturnsAll, fault_due, has_resolver, is_refusal, lets_go, name_given}
use Rattle.order_statements.specs.Shape.{HasEffects, answered, constructor_of, is_destructor, is_open_by, kept, owes_reply, request_sent}
use Rattle.order_checks.specs.declared.walk.Statement.TheVariants as statement
use Rattle.order_checks.specs.EffectTests.{effects_line, effects_next, has_fallen, is_birth_alone, is_birth_given, is_birth_last, is_deletion_given, is_fault_alone, is_fault_first, is_held, is_let_go, is_let_go_at, is_none, is_renamed_right, is_resolver_answered, is_return_answered, is_return_first, is_returned_right, is_settling_alone, is_sync_answered, is_top_returned}
use Rattle.order_checks.specs.Walk.{all_pass, line_test, passes}
use Rattle.order_checks.proofs.AsSaid.{as_said, read-as-said}
use Rattle.order_checks.proofs.Births.{alive-after}
use Rattle.order_checks.proofs.Deletions.{deleted-from, deleted-to, handled-built, was-there}
use Rattle.order_checks.proofs.EffectLists.{Birth, LastBirth, birth-alone, birth-last, fault-alone, fault-first, fault-is-due, none, return-first, settling-alone}
use Rattle.order_checks.proofs.Lookups.{all-said, was-kept}
use Rattle.order_checks.proofs.Next.{has-next, next-are}

-- What is due under a condition

due-to : (b x : Bool) → (if b then x else true) ≡ true → b ≡ true → x ≡ true
due-to true x e f = e
due-to false x e f = cc

due-from : (b x : Bool) → (b ≡ true → x ≡ true) → (if b then x else true) ≡ true
due-from true x h = h refl
due-from false x h = refl

made-to : (o : Option ℕ) (test : ℕ → Bool) (protocol : ℕ) → option_map_or test o true ≡ true → o ≡ Some protocol → test protocol ≡ true
made-to o test protocol e is = sym (ap (λ (x : Option ℕ). option_map_or test x true) is) ∙ e

made-from : (o : Option ℕ) (test : ℕ → Bool) → ((protocol : ℕ) → o ≡ Some protocol → test protocol ≡ true) → option_map_or test o true ≡ true
made-from None test h = refl
made-from (Some protocol) test h = h protocol refl

-- A line of an end at its place, and the effects that come after it

record Place (schema : Schema) (lines : List Line) (end : Side) (w : What) (before following : List Line) : Type 0 where
  at : lines ≡ before ++ line_of end w ∷ following
  told : Readable schema lines
  falls : Fallen schema lines
  prints : HasEffects end (effects_next following) following

printed : (end : Side) (effects : List What) (following : List Line) → HasEffects end (effects_next following) following → effects_next following ≡ effects → HasEffects end effects following
printed end effects following h e = subst (λ (ws : List What). HasEffects end ws following) e h

-- Deletions

deletion-to : {schema : Schema} {lines : List Line} {end : Side} {w : What} {before following : List Line} (p : Place schema lines end w before following) → id_fallen w ≡ None → (route : ℤ) (number : ℕ)
    → is_deletion_given schema (fallen (said_by end before)) route number (effects_next following) ≡ true → is_destructor schema number ≡ true → IsDeleted end (said_by end before ++ w ∷ []) route following
unfolding is_deletion_given
deletion-to {schema} {lines} {end} {w} {before} {following} p quiet route number e is =
    deleted-to schema lines p.falls end w before following p.at quiet p.prints route (due-to (is_destructor schema number) (has_fallen (fallen (said_by end before)) route (effects_next following)) e is)

deletion-from : (schema : Schema) (end : Side) (w : What) (before following : List Line) → id_fallen w ≡ None → (route : ℤ) (number : ℕ) → was_built (built (said_by end before)) route ≡ true
    → (is_destructor schema number ≡ true → IsDeleted end (said_by end before ++ w ∷ []) route following) → is_deletion_given schema (fallen (said_by end before)) route number (effects_next following) ≡ true
unfolding is_deletion_given
deletion-from schema end w before following quiet route number there h =
    due-from (is_destructor schema number) (has_fallen (fallen (said_by end before)) route (effects_next following)) (λ is. deleted-from end w before following quiet route there (h is))

-- Births

built-to : {schema : Schema} {lines : List Line} {end : Side} {w : What} {before following : List Line} (p : Place schema lines end w before following) → id_fallen w ≡ None → (lost : List What) → IsTrue (list_all lets_go lost) → (protocol : ℕ)
    → Birth (fallen (said_by end before)) lost protocol (effects_next following) → IsBuilt end (said_by end before ++ w ∷ []) lost protocol following
built-to {schema} {lines} {end} {w} {before} {following} p quiet lost answers protocol b = record {
  id = b.id;
  are = printed end (lost ++ what.Built b.id protocol ∷ []) following p.prints b.are;
  alive = alive-after (said_by end before) w lost b.id protocol quiet answers ∙ ap not b.alive;
}

built-from : (end : Side) (w : What) (before following : List Line) → id_fallen w ≡ None → (lost : List What) → IsTrue (list_all lets_go lost) → (protocol : ℕ) → IsBuilt end (said_by end before ++ w ∷ []) lost protocol following
    → Birth (fallen (said_by end before)) lost protocol (effects_next following)
built-from end w before following quiet lost answers protocol b = record {
  id = b.id;
  are = next-are end (lost ++ what.Built b.id protocol ∷ []) following b.are;
  alive = not-true (has (fallen (said_by end before)) b.id) (sym (alive-after (said_by end before) w lost b.id protocol quiet answers) ∙ b.alive);
}

sent-built-to : {schema : Schema} {lines : List Line} {end : Side} {w : What} {before following : List Line} (p : Place schema lines end w before following) → id_fallen w ≡ None → (number protocol : ℕ)
    → is_birth_given schema (fallen (said_by end before)) number (effects_next following) ≡ true → constructor_of schema number ≡ Some protocol → IsBuiltBySend end (said_by end before ++ w ∷ []) protocol following
sent-built-to {schema} {lines} {end} {w} {before} {following} p quiet number protocol e is =
    let b : LastBirth (fallen (said_by end before)) protocol (effects_next following) =
    (birth-last (fallen (said_by end before)) protocol (effects_next following)).0 (made-to (constructor_of schema number) (λ (q : ℕ). is_birth_last (fallen (said_by end before)) q (effects_next following)) protocol e is) in
    record { lost = b.lost; few = b.few; answers = b.answers; builds = built-to p quiet b.lost b.answers protocol b.birth }

sent-built-from : (schema : Schema) (end : Side) (w : What) (before following : List Line) → id_fallen w ≡ None → (number : ℕ) → ((protocol : ℕ) → constructor_of schema number ≡ Some protocol → IsBuiltBySend end (said_by end before ++ w ∷ []) protocol following)
    → is_birth_given schema (fallen (said_by end before)) number (effects_next following) ≡ true
sent-built-from schema end w before following quiet number h =
    made-from (constructor_of schema number) (λ (q : ℕ). is_birth_last (fallen (said_by end before)) q (effects_next following)) (λ protocol is.
    by protocol (h protocol is))
  where
    by : (protocol : ℕ) → IsBuiltBySend end (said_by end before ++ w ∷ []) protocol following → is_birth_last (fallen (said_by end before)) protocol (effects_next following) ≡ true
    by protocol b = (birth-last (fallen (said_by end before)) protocol (effects_next following)).1 (record { lost = b.lost; few = b.few; answers = b.answers; birth = built-from end w before following quiet b.lost b.answers protocol b.builds })

-- Resolvers that are destroyed

name-is : (held name : List ℕ) → Decides (pointwise nat_eq held name) (held ≡ name)
name-is held name = slice_eq-Decides Decides-eqb held name (pointwise nat_eq held name) refl

abbrev LetsGo : Side → List What → List Line → List ℕ → Type 0
LetsGo end own following name = (n : ℤ) → Contains own (what.Keep n name) → has (answered own) n ≡ false → HasEffects end (what.AnswerFault n reason.ResolverDestroyed ∷ []) following

renamed-said : (end : Side) (before following : List Line) (name : List ℕ) → list_all (is_let_go_at end (answered (said_by end before)) name (effects_next following)) before ≡ list_all (is_let_go (answered (said_by end before)) name (effects_next following)) (said_by end before)
renamed-said end before following name = all-said (is_let_go (answered (said_by end before)) name (effects_next following)) end before

renamed-to : (end : Side) (before following : List Line) (name : List ℕ) → HasEffects end (effects_next following) following
    → list_all (is_let_go_at end (answered (said_by end before)) name (effects_next following)) before ≡ true → LetsGo end (said_by end before) following name
renamed-to end before following name prints e n c f =
    printed end (what.AnswerFault n reason.ResolverDestroyed ∷ []) following prints ((fault-alone n reason.ResolverDestroyed (effects_next following)).0
    (due-to (pointwise nat_eq name name && not (has (answered (said_by end before)) n)) (is_fault_alone n reason.ResolverDestroyed (effects_next following)) here
    (and_from (pointwise nat_eq name name) (not (has (answered (said_by end before)) n)) ((name-is name name).1 refl) (ap not f))))
  where
    here : is_let_go (answered (said_by end before)) name (effects_next following) (what.Keep n name) ≡ true
    here = (each-contained (is_let_go (answered (said_by end before)) name (effects_next following)) (said_by end before)).0 (sym (renamed-said end before following name) ∙ e) (what.Keep n name) c

renamed-from : (end : Side) (before following : List Line) (name : List ℕ) → LetsGo end (said_by end before) following name
    → list_all (is_let_go_at end (answered (said_by end before)) name (effects_next following)) before ≡ true
renamed-from end before following name h =
    renamed-said end before following name ∙ (each-contained (is_let_go (answered (said_by end before)) name (effects_next following)) (said_by end before)).1 each
  where
    each : (w : What) → Contains (said_by end before) w → is_let_go (answered (said_by end before)) name (effects_next following) w ≡ true
    each (what.Keep n held) c =
        due-from (pointwise nat_eq held name && not (has (answered (said_by end before)) n)) (is_fault_alone n reason.ResolverDestroyed (effects_next following)) (λ e.
        let both : IsTrue (pointwise nat_eq held name) × IsTrue (not (has (answered (said_by end before)) n)) = and_parts (pointwise nat_eq held name) (not (has (answered (said_by end before)) n)) e in
        (fault-alone n reason.ResolverDestroyed (effects_next following)).1
        (next-are end (what.AnswerFault n reason.ResolverDestroyed ∷ []) following
        (h n (subst (λ (x : List ℕ). Contains (said_by end before) (what.Keep n x)) ((name-is held name).0 both.0) c) (not-true (has (answered (said_by end before)) n) both.1))))
    each _ c = refl

-- Returns

held-is : (schema : Schema) (end : Side) (before : List Line) (d : HandledRequest) → (is_open_by (said_by end before) && is_held schema end (answered (said_by end before)) before d) ≡ has_resolver schema (said_by end before) d
held-is schema end before d =
    ap (λ (b : Bool). is_open_by (said_by end before) && (wants_number schema d.number && (if has (answered (said_by end before)) d.seq then false else not b))) (was-kept end d.seq before)
    ∙ ap (λ (b : Bool). is_open_by (said_by end before) && (wants_number schema d.number && (if has (answered (said_by end before)) d.seq then false else b))) (by (has (kept (said_by end before)) d.seq))
  where
    by : (b : Bool) → not b ≡ (if b then false else true)
    by true = refl
    by false = refl

return-to : {schema : Schema} {lines : List Line} {end : Side} {before following : List Line} (d : HandledRequest) (p : Place schema lines end (what.Return d.seq) before following)
    → is_returned_right schema end (as_said schema end before) (answered (said_by end before)) before d (effects_next following) ≡ true → ReturnsAll schema end (said_by end before) d following
unfolding is_return_answered
return-to {schema} {lines} {end} {before} {following} d p e = record {
  sync = λ is. first ((return-first d.seq (effects_next following)).0 (due-to (is_open_by own && is_sync_number schema d.number) (is_return_first d.seq (effects_next following)) answers.0 is));
  destroyed = λ is. only ((fault-first d.seq reason.ResolverDestroyed (effects_next following)).0
      (due-to (is_open_by own && is_held schema end (answered own) before d) (is_fault_first d.seq reason.ResolverDestroyed (effects_next following)) answers.1 (held-is schema end before d ∙ is)));
  deleted = λ is. deletion-to p refl d.route d.number parts.1 is;
}
  where
    own : List What
    own = said_by end before

    parts : IsTrue (is_return_answered schema end (as_said schema end before) (answered own) before d (effects_next following)) × IsTrue (is_deletion_given schema (fallen own) d.route d.number (effects_next following))
    parts = and_parts (is_return_answered schema end (as_said schema end before) (answered own) before d (effects_next following)) (is_deletion_given schema (fallen own) d.route d.number (effects_next following)) e

    answers : IsTrue (is_sync_answered schema (as_said schema end before) d (effects_next following)) × IsTrue (is_resolver_answered schema end (as_said schema end before) (answered own) before d (effects_next following))
    answers = and_parts (is_sync_answered schema (as_said schema end before) d (effects_next following)) (is_resolver_answered schema end (as_said schema end before) (answered own) before d (effects_next following)) parts.0

    first : (w : What) × (more : List What) × IsReturned d.seq w × (effects_next following ≡ w ∷ more) → (w : What) × (more : List What) × IsReturned d.seq w × HasEffects end (w ∷ more) following
    first r = (r.0, r.1, r.2, printed end (r.0 ∷ r.1) following p.prints r.3)

    only : (more : List What) × (effects_next following ≡ what.AnswerFault d.seq reason.ResolverDestroyed ∷ more) → (more : List What) × HasEffects end (what.AnswerFault d.seq reason.ResolverDestroyed ∷ more) following
    only r = (r.0, printed end (what.AnswerFault d.seq reason.ResolverDestroyed ∷ r.0) following p.prints r.1)

return-from : (schema : Schema) (end : Side) (before following : List Line) (d : HandledRequest) → was_built (built (said_by end before)) d.route ≡ true → ReturnsAll schema end (said_by end before) d following
    → is_returned_right schema end (as_said schema end before) (answered (said_by end before)) before d (effects_next following) ≡ true
unfolding is_return_answered
return-from schema end before following d there r =
    and_from (is_return_answered schema end (as_said schema end before) (answered own) before d (effects_next following)) (is_deletion_given schema (fallen own) d.route d.number (effects_next following))
    (and_from (is_sync_answered schema (as_said schema end before) d (effects_next following)) (is_resolver_answered schema end (as_said schema end before) (answered own) before d (effects_next following))
    (due-from (is_open_by own && is_sync_number schema d.number) (is_return_first d.seq (effects_next following)) (λ is. first (r.sync is)))
    (due-from (is_open_by own && is_held schema end (answered own) before d) (is_fault_first d.seq reason.ResolverDestroyed (effects_next following)) (λ is. only (r.destroyed (sym (held-is schema end before d) ∙ is)))))
    (deletion-from schema end (what.Return d.seq) before following refl d.route d.number there r.deleted)
  where
    own : List What
    own = said_by end before

    first : (w : What) × (more : List What) × IsReturned d.seq w × HasEffects end (w ∷ more) following → is_return_first d.seq (effects_next following) ≡ true
    first x = (return-first d.seq (effects_next following)).1 (x.0, x.1, x.2, next-are end (x.0 ∷ x.1) following x.3)

    only : (more : List What) × HasEffects end (what.AnswerFault d.seq reason.ResolverDestroyed ∷ more) following → is_fault_first d.seq reason.ResolverDestroyed (effects_next following) ≡ true
    only x = (fault-first d.seq reason.ResolverDestroyed (effects_next following)).1 (x.0, next-are end (what.AnswerFault d.seq reason.ResolverDestroyed ∷ x.0) following x.1)

-- Each place

-- a line passes the test, which looks at what is read in the words of the statements
abbrev PassesAt : Schema → Side → What → List Line → List Line → Type 0
PassesAt schema end w before following = effects_line schema end (as_said schema end before) (answered (said_by end before)) before w following ≡ true

test-is : (schema : Schema) (lines : List Line) → IsReadable schema lines → (end : Side) (w : What) (before following : List Line) → lines ≡ before ++ line_of end w ∷ following
    → passes statement.Effects schema before (line_of end w) following ≡ effects_line schema end (as_said schema end before) (answered (said_by end before)) before w following
unfolding line_test
test-is schema lines readable end w before following e =
    ap (λ (own : EndReading). effects_line schema end own (answered (said_by end before)) before w following) (read-as-said schema lines readable end before (line_of end w ∷ following) e)

-- From the test to the statement

sent-parts : (schema : Schema) (end : Side) (route : ℤ) (number : ℕ) (before following : List Line) → (is_deletion_given schema (fallen (said_by end before)) route number (effects_next following) && is_birth_given schema (fallen (said_by end before)) number (effects_next following)) ≡ true
    → IsTrue (is_deletion_given schema (fallen (said_by end before)) route number (effects_next following)) × IsTrue (is_birth_given schema (fallen (said_by end before)) number (effects_next following))
sent-parts schema end route number before following e = and_parts (is_deletion_given schema (fallen (said_by end before)) route number (effects_next following)) (is_birth_given schema (fallen (said_by end before)) number (effects_next following)) e

deletes-to : {schema : Schema} {lines : List Line} {end : Side} {before following : List Line} (w : What) (q : HandledRequest) → Place schema lines end w before following → PassesAt schema end w before following → request_sent w ≡ Some q → IsTrue (is_destructor schema q.number)
    → IsDeleted end (said_by end before ++ w ∷ []) q.route following
deletes-to {schema} {lines} {end} {before} {following} (what.Send n route number values) q p e is d =
    let same : record { seq = n; route = route; number = number } ≡ q = cc in
    subst (λ (x : HandledRequest). IsDeleted end (said_by end before ++ what.Send n route number values ∷ []) x.route following) same
    (deletion-to p refl route number (sent-parts schema end route number before following e).0 (ap (λ (x : HandledRequest). is_destructor schema x.number) same ∙ d))
deletes-to {schema} {lines} {end} {before} {following} (what.Call n transaction route number values) q p e is d =
    let same : record { seq = n; route = route; number = number } ≡ q = cc in
    subst (λ (x : HandledRequest). IsDeleted end (said_by end before ++ what.Call n transaction route number values ∷ []) x.route following) same
    (deletion-to p refl route number (sent-parts schema end route number before following e).0 (ap (λ (x : HandledRequest). is_destructor schema x.number) same ∙ d))
deletes-to _ q p e is d = cc

builds-to : {schema : Schema} {lines : List Line} {end : Side} {before following : List Line} (w : What) (q : HandledRequest) (protocol : ℕ) → Place schema lines end w before following → PassesAt schema end w before following → request_sent w ≡ Some q
    → constructor_of schema q.number ≡ Some protocol → IsBuiltBySend end (said_by end before ++ w ∷ []) protocol following
builds-to {schema} {lines} {end} {before} {following} (what.Send n route number values) q protocol p e is c =
    let same : record { seq = n; route = route; number = number } ≡ q = cc in
    sent-built-to p refl number protocol (sent-parts schema end route number before following e).1 (ap (λ (x : HandledRequest). constructor_of schema x.number) same ∙ c)
builds-to {schema} {lines} {end} {before} {following} (what.Call n transaction route number values) q protocol p e is c =
    let same : record { seq = n; route = route; number = number } ≡ q = cc in
    sent-built-to p refl number protocol (sent-parts schema end route number before following e).1 (ap (λ (x : HandledRequest). constructor_of schema x.number) same ∙ c)
builds-to _ q protocol p e is c = cc

renames-to : {schema : Schema} {lines : List Line} {end : Side} {before following : List Line} (w : What) (name : List ℕ) → Place schema lines end w before following → PassesAt schema end w before following → name_given w ≡ Some name
    → IsTrue (is_open_by (said_by end before)) → LetsGo end (said_by end before) following name
renames-to {schema} {lines} {end} {before} {following} (what.Keep m given) name p e is opened =
    let same : given ≡ name = cc in
    subst (LetsGo end (said_by end before) following) same (renamed-to end before following given p.prints (due-to (is_open_by (said_by end before)) (list_all (is_let_go_at end (answered (said_by end before)) given (effects_next following)) before) e opened))
renames-to {schema} {lines} {end} {before} {following} (what.Let given id) name p e is opened =
    let same : given ≡ name = cc in
    subst (LetsGo end (said_by end before) following) same (renamed-to end before following given p.prints (due-to (is_open_by (said_by end before)) (list_all (is_let_go_at end (answered (said_by end before)) given (effects_next following)) before) e opened))
renames-to _ name p e is opened = cc

none-printed : {schema : Schema} {lines : List Line} {end : Side} {w : What} {before following : List Line} → Place schema lines end w before following → is_none (effects_next following) ≡ true → HasEffects end [] following
none-printed {schema} {lines} {end} {w} {before} {following} p e = printed end [] following p.prints ((none (effects_next following)).0 e)

refusals-to : {schema : Schema} {lines : List Line} {end : Side} {before following : List Line} (w : What) → Place schema lines end w before following → PassesAt schema end w before following → IsTrue (is_refusal w) → HasEffects end [] following
refusals-to (what.RefusedSend refusal number) p e is = none-printed p e
refusals-to (what.RefusedClose refusal) p e is = none-printed p e
refusals-to (what.RefusedResolve refusal) p e is = none-printed p e
refusals-to (what.RefusedReject refusal) p e is = none-printed p e
refusals-to _ p e is = cc

returns-to : {schema : Schema} {lines : List Line} {end : Side} {before following : List Line} (n : ℤ) (d : HandledRequest) (below : List CallFrame) → Place schema lines end (what.Return n) before following
    → is_top_returned schema end (as_said schema end before) (answered (said_by end before)) before (stack schema end before) (effects_next following) ≡ true → stack schema end before ≡ frame.Dispatch d ∷ below
    → ReturnsAll schema end (said_by end before) d following
returns-to {schema} {lines} {end} {before} {following} n d below p e top =
    let r = p.told.returns end n before following p.at in
    let same : r.0 ≡ d = cc (sym r.2 ∙ top) in
    let number : n ≡ d.seq = sym r.3 ∙ ap (λ (x : HandledRequest). x.seq) same in
    return-to d (subst (λ (m : ℤ). Place schema lines end (what.Return m) before following) number p)
    (sym (ap (λ (fs : List CallFrame). is_top_returned schema end (as_said schema end before) (answered (said_by end before)) before fs (effects_next following)) top) ∙ e)

settles-to : {schema : Schema} {lines : List Line} {end : Side} {before following : List Line} (n : ℤ) → Place schema lines end (what.TakeReply n) before following → PassesAt schema end (what.TakeReply n) before following → has (settled (said_by end before)) n ≡ false
    → (w : What) × (number_settled w ≡ Some n) × HasEffects end (w ∷ []) following
settles-to {schema} {lines} {end} {before} {following} n p e f =
    let s : (w : What) × (number_settled w ≡ Some n) × (effects_next following ≡ w ∷ []) =
    (settling-alone n (effects_next following)).0 (sym (ap (λ (b : Bool). if b then is_none (effects_next following) else is_settling_alone n (effects_next following)) f) ∙ e) in
    (s.0, s.1, printed end (s.0 ∷ []) following p.prints s.2)

late-to : {schema : Schema} {lines : List Line} {end : Side} {before following : List Line} (n : ℤ) → Place schema lines end (what.TakeReply n) before following → PassesAt schema end (what.TakeReply n) before following → IsTrue (has (settled (said_by end before)) n)
    → HasEffects end [] following
late-to {schema} {lines} {end} {before} {following} n p e f = none-printed p (sym (ap (λ (b : Bool). if b then is_none (effects_next following) else is_settling_alone n (effects_next following)) f) ∙ e)

pub effects-to : (schema : Schema) (lines : List Line) → Readable schema lines → Fallen schema lines → all_pass statement.Effects schema lines ≡ true → Effects schema lines
effects-to schema lines told falls h = record {
  deletes = λ end w q before following e is d. deletes-to w q (place end w before following e) (test end w before following e) is d;
  builds = λ end w q protocol before following e is c. builds-to w q protocol (place end w before following e) (test end w before following e) is c;
  takes = λ end n route number protocol values before following e c.
      built-to (place end (what.Take n route number values) before following e) refl [] refl protocol
      ((birth-alone (fallen (said_by end before)) protocol (effects_next following)).0
      (made-to (constructor_of schema number) (λ (q : ℕ). is_birth_alone (fallen (said_by end before)) q (effects_next following)) protocol (test end (what.Take n route number values) before following e) c));
  drops = λ end n route number id before following e.
      printed end (fault_due (is_open_by (said_by end before) && owes_reply schema number) n reason.ActorDestroyed) following (place end (what.Drop n route number id) before following e).prints
      ((fault-is-due (is_open_by (said_by end before) && owes_reply schema number) n reason.ActorDestroyed (effects_next following)).0 (test end (what.Drop n route number id) before following e));
  returns = λ end n d below before following e top. returns-to n d below (place end (what.Return n) before following e) (test end (what.Return n) before following e) top;
  renames = λ end w name n before following e is opened c f. renames-to w name (place end w before following e) (test end w before following e) is opened n c f;
  settles = λ end n before following e f. settles-to n (place end (what.TakeReply n) before following e) (test end (what.TakeReply n) before following e) f;
  late = λ end n before following e f. late-to n (place end (what.TakeReply n) before following e) (test end (what.TakeReply n) before following e) f;
  refusals = λ end w before following e is. refusals-to w (place end w before following e) (test end w before following e) is;
}
  where
    readable : IsReadable schema lines
    readable = readable-from schema lines told

    place : (end : Side) (w : What) (before following : List Line) → lines ≡ before ++ line_of end w ∷ following → Place schema lines end w before following
    place end w before following e = record { at = e; told = told; falls = falls; prints = has-next schema lines readable end w before following e }

    test : (end : Side) (w : What) (before following : List Line) → lines ≡ before ++ line_of end w ∷ following → PassesAt schema end w before following
    test end w before following e = sym (test-is schema lines readable end w before following e) ∙ each-from (passes statement.Effects schema) [] lines h before (line_of end w) following e

-- From the statement to the test

sent-from : (schema : Schema) (end : Side) (w : What) (route : ℤ) (number : ℕ) (before following : List Line) → id_fallen w ≡ None → was_built (built (said_by end before)) route ≡ true
    → (is_destructor schema number ≡ true → IsDeleted end (said_by end before ++ w ∷ []) route following)
    → ((protocol : ℕ) → constructor_of schema number ≡ Some protocol → IsBuiltBySend end (said_by end before ++ w ∷ []) protocol following)
    → (is_deletion_given schema (fallen (said_by end before)) route number (effects_next following) && is_birth_given schema (fallen (said_by end before)) number (effects_next following)) ≡ true
sent-from schema end w route number before following quiet there d b =
    and_from (is_deletion_given schema (fallen (said_by end before)) route number (effects_next following)) (is_birth_given schema (fallen (said_by end before)) number (effects_next following))
    (deletion-from schema end w before following quiet route number there d) (sent-built-from schema end w before following quiet number b)

renaming-from : (schema : Schema) (lines : List Line) → Effects schema lines → (end : Side) (w : What) (name : List ℕ) (before following : List Line) → lines ≡ before ++ line_of end w ∷ following → name_given w ≡ Some name
    → is_renamed_right end (as_said schema end before) (answered (said_by end before)) before name (effects_next following) ≡ true
renaming-from schema lines s end w name before following e is =
    due-from (is_open_by (said_by end before)) (list_all (is_let_go_at end (answered (said_by end before)) name (effects_next following)) before) (λ opened.
    renamed-from end before following name (λ n c f. s.renames end w name n before following e is opened c f))

reply-from : (schema : Schema) (lines : List Line) → Effects schema lines → (end : Side) (n : ℤ) (before following : List Line) → lines ≡ before ++ line_of end (what.TakeReply n) ∷ following → (b : Bool) → has (settled (said_by end before)) n ≡ b
    → (if b then is_none (effects_next following) else is_settling_alone n (effects_next following)) ≡ true
reply-from schema lines s end n before following e true is = (none (effects_next following)).1 (next-are end [] following (s.late end n before following e is))
reply-from schema lines s end n before following e false is = by (s.settles end n before following e is)
  where
    by : (w : What) × (number_settled w ≡ Some n) × HasEffects end (w ∷ []) following → is_settling_alone n (effects_next following) ≡ true
    by r = (settling-alone n (effects_next following)).1 (r.0, r.1, next-are end (r.0 ∷ []) following r.2)

none-from : (schema : Schema) (lines : List Line) → Effects schema lines → (end : Side) (w : What) (before following : List Line) → lines ≡ before ++ line_of end w ∷ following → IsTrue (is_refusal w) → is_none (effects_next following) ≡ true
none-from schema lines s end w before following e is = (none (effects_next following)).1 (next-are end [] following (s.refusals end w before following e is))

line-from : (schema : Schema) (lines : List Line) → Readable schema lines → Living schema lines → Effects schema lines → (end : Side) (w : What) (before following : List Line) → lines ≡ before ++ line_of end w ∷ following → PassesAt schema end w before following
line-from schema lines told living s end (what.Send n route number values) before following e =
    sent-from schema end (what.Send n route number values) route number before following refl (was-there (said_by end before) route (living.sends end n route number values before following e))
    (λ d. s.deletes end (what.Send n route number values) (record { seq = n; route = route; number = number }) before following e refl d)
    (λ protocol c. s.builds end (what.Send n route number values) (record { seq = n; route = route; number = number }) protocol before following e refl c)
line-from schema lines told living s end (what.Call n transaction route number values) before following e =
    sent-from schema end (what.Call n transaction route number values) route number before following refl (was-there (said_by end before) route (living.calls end n transaction route number values before following e))
    (λ d. s.deletes end (what.Call n transaction route number values) (record { seq = n; route = route; number = number }) before following e refl d)
    (λ protocol c. s.builds end (what.Call n transaction route number values) (record { seq = n; route = route; number = number }) protocol before following e refl c)
line-from schema lines told living s end (what.Take n route number values) before following e =
    made-from (constructor_of schema number) (λ (q : ℕ). is_birth_alone (fallen (said_by end before)) q (effects_next following)) (λ protocol c.
    (birth-alone (fallen (said_by end before)) protocol (effects_next following)).1
    (built-from end (what.Take n route number values) before following refl [] refl protocol (s.takes end n route number protocol values before following e c)))
line-from schema lines told living s end (what.Drop n route number id) before following e =
    (fault-is-due (is_open_by (said_by end before) && owes_reply schema number) n reason.ActorDestroyed (effects_next following)).1
    (next-are end (fault_due (is_open_by (said_by end before) && owes_reply schema number) n reason.ActorDestroyed) following (s.drops end n route number id before following e))
line-from schema lines told living s end (what.Return n) before following e =
    let r = told.returns end n before following e in
    ap (λ (fs : List CallFrame). is_top_returned schema end (as_said schema end before) (answered (said_by end before)) before fs (effects_next following)) r.2
    ∙ return-from schema end before following r.0 (handled-built schema lines living end r.0 r.1 before (line_of end (what.Return n) ∷ following) e r.2) (s.returns end n r.0 r.1 before following e r.2)
line-from schema lines told living s end (what.Keep n name) before following e = renaming-from schema lines s end (what.Keep n name) name before following e refl
line-from schema lines told living s end (what.Let name id) before following e = renaming-from schema lines s end (what.Let name id) name before following e refl
line-from schema lines told living s end (what.TakeReply n) before following e = reply-from schema lines s end n before following e (has (settled (said_by end before)) n) refl
line-from schema lines told living s end (what.RefusedSend refusal number) before following e = none-from schema lines s end (what.RefusedSend refusal number) before following e refl
line-from schema lines told living s end (what.RefusedClose refusal) before following e = none-from schema lines s end (what.RefusedClose refusal) before following e refl
line-from schema lines told living s end (what.RefusedResolve refusal) before following e = none-from schema lines s end (what.RefusedResolve refusal) before following e refl
line-from schema lines told living s end (what.RefusedReject refusal) before following e = none-from schema lines s end (what.RefusedReject refusal) before following e refl
line-from schema lines told living s end _ before following e = refl

pub effects-from : (schema : Schema) (lines : List Line) → Readable schema lines → Living schema lines → Effects schema lines → all_pass statement.Effects schema lines ≡ true
effects-from schema lines told living s =
    each-to (passes statement.Effects schema) [] lines (λ before line following e.
    test-is schema lines (readable-from schema lines told) line.side line.what before following e ∙ line-from schema lines told living s line.side line.what before following e)
