-- In every run the answer to each pending promise can still come while both ends are open, and in a still world its
-- resolver is kept.
use Rattle.std.proofs.Common.{◌≡◌, ℕ, ◌≤◌, ℤ, true, false, List, [], Some, refl, sym, ap, subst, ◌∙◌, arith}
use Rattle.std.proofs.lemmas.Bool.{true_from_ne_false}
use Rattle.std.proofs.lemmas.Bool.Decides.{Decides-int_eq}
use Rattle.ipdl_base.specs.declared.kinds.EndState.TheVariants.{Open}
use Rattle.ipdl_base.specs.declared.kinds.Side.{Side}
use Rattle.ipdl_base.specs.declared.kinds.Side.TheVariants.{Parent, Child}
use Rattle.ipdl_base.specs.declared.schema.Schema.{Schema}
use Rattle.ipdl_base.specs.Sound.{IsSound}
use Rattle.promise_table.specs.Promises.{is_pending}
use Rattle.history_reading.specs.Reading.{Reading, opening_reading, read}
use Rattle.channel_model.specs.Ends.{End, World, Packet, message, PromiseEntry, Naming, resolver, Resolver, end_of, link_to, opening}
use Rattle.channel_model.specs.Events.{Event, Move}
use Rattle.ipdl_base.specs.Sides.{other}
use Rattle.channel_model.specs.Outputs.{Output, is_open}
use Rattle.channel_model.specs.Requests.{requests_of, AreNumbered}
use Rattle.channel_model.specs.Runs.{history_of, is_still, output_of, world_after}
use Rattle.channel_model.proofs.RunsKeep.{BothHave, numbers_in_every_run, runs-keep}
use Rattle.channel_model.proofs.StepParts.{parts-keep}
use Rattle.channel_laws.specs.AnswersOnce.{holds_resolver_of, names_resolver, owes_answer}
use Rattle.channel_laws.specs.Counts.{how_many}
use Rattle.channel_laws.specs.Exchanges.{ReadsExchanges}
use Rattle.channel_laws.specs.Laws.{world_of}
use Rattle.channel_laws.specs.Notes.{In}
use Rattle.channel_laws.specs.Taken.{there_line}
use Rattle.channel_laws.specs.Tested.{test_at}
use Rattle.channel_laws.proofs.Exchanges.{opening-exchanges}
use Rattle.channel_laws.proofs.Growing.{in-all}
use Rattle.channel_laws.proofs.Reached.{all-pass, reached-has}
use Rattle.channel_laws.proofs.Runs.{EveryMoveKeeps, every-run}
use Rattle.channel_laws.proofs.Taken.{ReadExchanges, exchanges-keep}
use Rattle.progress_laws.specs.Promises.{resolver_for, has_arrived, is_handled, is_kept, IsUnderWay, is_kept_back, goes_there, is_there, comes_back, is_back, PromisesAreUnderWay, IsKeptOnce, StillPromisesAreKept}
use Rattle.progress_laws.specs.Rest.{NothingIsLeft}
use Rattle.progress_laws.proofs.AskedSteps.{HasPromiseRow, PromisesHaveRows, each-has_rows, IsAsker}
use Rattle.progress_laws.proofs.EmptyWorlds.{still_worlds_are_empty}
use Rattle.progress_laws.proofs.HeldResolvers.{NamesDiffer}
use Rattle.progress_laws.proofs.Members.{counted-in}
use Rattle.progress_laws.proofs.RestingWorlds.{both-or_none, still_worlds_rest}
use Rattle.progress_laws.proofs.UnderWay.{names-differ_after, asker-under_way, answerer-under_way}
use Rattle.progress_laws.proofs.WeighedSteps.{move-stays_over}

module _ (schema : Schema) (sound : IsSound schema) where
  -- What is known of an end in every run: of its promises; that it answers each request at most once; and that its names
  -- differ.
  record IsAccountable (e : End) : Type 0 where
    asker : IsAsker schema sound e
    kept : (n : ℤ) → how_many (names_resolver n) e.names ≤ 1
    few : (n : ℤ) → how_many (owes_answer n) e.stack ≤ 1
    differ : NamesDiffer e.names

  end-accountable : (e : End) (own : _) → ReadsExchanges schema e own → PromisesHaveRows schema e → AreNumbered (requests_of e) → NamesDiffer e.names → IsAccountable e
  end-accountable e own reads rows numbered differ = record {
    asker = record { rows = rows; distinct = numbered.distinct };
    kept = λ n. let h = reads.answers.numbered.once n in omega (arith, h);
    few = λ n. let h = reads.answers.numbered.once n in omega (arith, h);
    differ = differ;
  }

  both-accountable : (top : ℕ) (moves : List Move) → BothHave IsAccountable (world_of schema top moves)
  both-accountable top moves =
      let reads = (every-run schema sound (ReadExchanges schema sound) (test_at there_line) (exchanges-keep schema sound) top moves (opening-exchanges schema top Parent, opening-exchanges schema top Child)).kept in
      let rows = runs-keep schema (PromisesHaveRows schema) (parts-keep schema (PromisesHaveRows schema) (each-has_rows schema)) moves (opening top) (tt, tt) in
      let numbered = numbers_in_every_run schema top moves in
      let differ = runs-keep schema (λ e. NamesDiffer e.names) (names-differ_after schema) moves (opening top) (tt, tt) in
      let w : World = world_of schema top moves in
      (end-accountable w.parent _ reads.0 rows.0 numbered.0 differ.0, end-accountable w.child _ reads.1 rows.1 numbered.1 differ.1)

  -- Moves

  abbrev UnderWayIn : World → Reading → Type 0
  UnderWayIn w r =
      (side : Side) (entry : PromiseEntry) → is_open (end_of side w).state ≡ true → is_open (end_of (other side) w).state ≡ true → In entry (end_of side w).promises → is_pending entry.promise ≡ true
      → IsUnderWay (end_of side w) (end_of (other side) w) (link_to side w) (link_to (other side) w) (resolver_for entry)

  module _ (w : World) (r : Reading) (known : BothHave IsAccountable w) (h : UnderWayIn w r) where
    row-of : (e : End) → IsAccountable e → (entry : PromiseEntry) → In entry e.promises → HasPromiseRow schema entry.number
    row-of e k entry i = in-all (λ (x : PromiseEntry). HasPromiseRow schema x.number) i k.asker.rows

    by-parent : (ev : Event) (output : Output) → output_of schema w (record { side = Parent; event = ev }) ≡ Some output → (is_open output.end.state ≡ true → is_open w.parent.state ≡ true) → UnderWayIn (world_after (record { side = Parent; event = ev }) output w) r
    by-parent ev output is stays Parent entry opened others i pending =
        asker-under_way schema sound w.parent w.child w.to_parent w.to_child known.0.asker ev output is opened (λ x j p. h Parent x (stays opened) others j p) entry i pending
    by-parent ev output is stays Child entry opened others i pending =
        answerer-under_way schema sound w.child w.parent w.to_child w.to_parent (resolver_for entry) (row-of w.child known.1 entry i) known.0.few known.0.differ ev output is (stays others) others (h Child entry opened (stays others) i pending)

    by-child : (ev : Event) (output : Output) → output_of schema w (record { side = Child; event = ev }) ≡ Some output → (is_open output.end.state ≡ true → is_open w.child.state ≡ true) → UnderWayIn (world_after (record { side = Child; event = ev }) output w) r
    by-child ev output is stays Child entry opened others i pending =
        asker-under_way schema sound w.child w.parent w.to_child w.to_parent known.1.asker ev output is opened (λ x j p. h Child x (stays opened) others j p) entry i pending
    by-child ev output is stays Parent entry opened others i pending =
        answerer-under_way schema sound w.parent w.child w.to_parent w.to_child (resolver_for entry) (row-of w.parent known.0 entry i) known.1.few known.1.differ ev output is (stays others) others (h Parent entry opened (stays others) i pending)

    by-side : (side : Side) (ev : Event) (output : Output) → output_of schema w (record { side = side; event = ev }) ≡ Some output → (is_open output.end.state ≡ true → is_open (end_of side w).state ≡ true) → UnderWayIn (world_after (record { side = side; event = ev }) output w) r
    by-side Parent ev output is stays = by-parent ev output is stays
    by-side Child ev output is stays = by-child ev output is stays

  moves-keep : EveryMoveKeeps schema UnderWayIn (λ r l b. true)
  moves-keep move w r output m h = record {
    kept = by-side w r (reached-has schema (λ v s. BothHave IsAccountable v) both-accountable w r m.reached) h move.side move.event output m.step
        (λ opened. true_from_ne_false (is_open (end_of move.side w).state) (λ shut. let k : true ≡ false = sym opened ∙ move-stays_over schema move w output m.step m.nested shut in cc));
    passes = λ following. all-pass schema r output.lines following;
  }

  opening-under_way : (top : ℕ) (r : Reading) → UnderWayIn (opening top) r
  opening-under_way top r Parent entry opened others i pending = elim i [ ]
  opening-under_way top r Child entry opened others i pending = elim i [ ]

  pub run-under_way : (top : ℕ) (moves : List Move) → UnderWayIn (world_of schema top moves) (read schema (history_of schema top moves))
  run-under_way top moves = (every-run schema sound UnderWayIn (λ r l b. true) moves-keep top moves (opening-under_way top opening_reading)).kept

  -- Still worlds

  side-accountable : (side : Side) (w : World) → BothHave IsAccountable w → IsAccountable (end_of side w)
  side-accountable Parent w k = k.0
  side-accountable Child w k = k.1

  -- where nothing is left but names, a name has the resolver
  kept-by_name : (mine theirs : End) (to_me to_them : List Packet) (r : Resolver) → mine.outbox ≡ [] → mine.arrived ≡ [] → to_me ≡ [] → to_them ≡ [] → theirs.arrived ≡ [] → theirs.stack ≡ [] → IsUnderWay mine theirs to_me to_them r
      → (naming : Naming) × (In naming theirs.names × (naming.holds ≡ resolver r))
  kept-by_name mine theirs to_me to_them r outbox arrived no_me no_them their_arrived their_stack = by
    where
      nowhere : {A : Type 0} (x : A) → In x [] → ⊥
      nowhere x i = elim i [ ]

      by : IsUnderWay mine theirs to_me to_them r → (naming : Naming) × (In naming theirs.names × (naming.holds ≡ resolver r))
      by (is_kept_back m i brings) = absurd (nowhere m (subst (In m) outbox i))
      by (goes_there m i brings) = absurd (nowhere (message m) (subst (In (message m)) no_them i))
      by (is_there (has_arrived m sync level i brings)) = absurd (nowhere _ (subst (In _) their_arrived i))
      by (is_there (is_handled entry i has same)) = absurd (nowhere entry (subst (In entry) their_stack i))
      by (is_there (is_kept naming i holds)) = (naming, (i, holds))
      by (comes_back m i answers) = absurd (nowhere (message m) (subst (In (message m)) no_me i))
      by (is_back m sync level i answers) = absurd (nowhere _ (subst (In _) arrived i))

  still-kept : (top : ℕ) (moves : List Move) (side : Side) (entry : PromiseEntry) → is_still schema (world_of schema top moves) ≡ true → (end_of side (world_of schema top moves)).state ≡ Open → In entry (end_of side (world_of schema top moves)).promises → is_pending entry.promise ≡ true
      → IsKeptOnce (end_of (other side) (world_of schema top moves)).names (resolver_for entry)
  still-kept top moves side entry still is i pending =
      let w : World = world_of schema top moves in
      let mine : NothingIsLeft (end_of side w) (link_to side w) = still_worlds_are_empty.empty schema sound top moves side still in
      let theirs : NothingIsLeft (end_of (other side) w) (link_to (other side) w) = still_worlds_are_empty.empty schema sound top moves (other side) still in
      let opened : is_open (end_of side w).state ≡ true = ap is_open is in
      let their_opened : is_open (end_of (other side) w).state ≡ true = sym (both-or_none side w (still_worlds_rest.rests schema sound top moves still)) ∙ opened in
      let r : Resolver = resolver_for entry in
      let found = kept-by_name (end_of side w) (end_of (other side) w) (link_to side w) (link_to (other side) w) r mine.at_end.outbox mine.at_end.arrived (mine.on_link opened) (theirs.on_link their_opened) theirs.at_end.arrived theirs.at_end.stack
      (run-under_way top moves side entry opened their_opened i pending) in
      let named : names_resolver r.seq found.0 ≡ true = ap (holds_resolver_of r.seq) found.1.1 ∙ (Decides-int_eq r.seq r.seq).1 refl in
      let some = counted-in (names_resolver r.seq) (end_of (other side) w).names found.0 found.1.0 named in
      let most = (side-accountable (other side) w (both-accountable top moves)).kept r.seq in
      record { naming = found.0; kept = found.1.0; holds = found.1.1; once = omega (arith, some, most) }

pub promises_are_under_way : PromisesAreUnderWay
promises_are_under_way schema sound top moves side entry is others i pending = run-under_way schema sound top moves side entry (ap is_open is) (ap is_open others) i pending

pub still_promises_are_kept : StillPromisesAreKept
still_promises_are_kept schema sound top moves side entry still is i pending = still-kept schema sound top moves side entry still is i pending
