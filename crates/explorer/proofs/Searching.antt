-- How a search goes on.
use Rattle.std.proofs.Common.{◌≡◌, ◌⊎◌, inl, inr, ℕ, ◌+◌, ◌<◌, ◌≤◌, Bool, true, false, not, ◌&&◌, List, [], ◌∷◌, ◌++◌, length, Option, Some, None, refl, sym, ap, subst, ◌∙◌, length-append, arith}
use Rattle.std.specs.Prelude.{Contains}
use Rattle.std.specs.List.{AllZip}
use Rattle.std.proofs.lemmas.List.Elements.{Contains-append_left, Contains-push}
use Rattle.std.proofs.lemmas.Slice.Zip.{AllZip-long, all_zipped_more}
use Rattle.ipdl_base.specs.declared.kinds.Side.{Side}
use Rattle.ipdl_base.specs.declared.kinds.Side.TheVariants as sides
use Rattle.channel_model.specs.Runs.{RunState}
use Rattle.schedules.specs.declared.turn.Turn.{Turn}
use Rattle.script_runs.specs.Laws.{HasLimit}
use Rattle.script_steps.specs.Choices.{Setting, beginning_of, may_deliver}
use Rattle.script_steps.specs.Progress.{lines_of}
use Rattle.script_steps.specs.Turns.{at_limit, at_rest, exceeds, idles, is_quiet, is_quiet_at, leads, outcome}
use Rattle.explorations.specs.Explorations.{AreFew, AreFirstWords, IsExplored, most_states, states_of, ways_of}
use Rattle.explorations.specs.Explorations as ways
use Rattle.explorations.specs.Laws.{AlikeWordsAreAsLong, FuturesAreAlike}
use Rattle.explorations.specs.Words.{AreAlike, Point, Precedes, rank, reached}
use Rattle.world_core.specs.declared.side_turns.SideOptions.{SideOptions}
use Rattle.world_core.specs.Options.{AreOptionsAt}
use Rattle.explorer.proofs.Counts.{states-more, states-spent, ways-rest, ways-same, ways-spent}
use Rattle.explorer.proofs.Covering.{back-covered, covered-append, covered-more, covered-start, covered-up-to, entered-first, first-words-before, first-words-to, next-idle, next-met, next-same, next-spent-too, spent-covered, spent-new}
use Rattle.explorer.proofs.Offers.{IsDoneBefore, MayDo, next-rank, nothing-new, spent-does}
use Rattle.explorer.proofs.Paths.{IsPopped, path-has, path-more, path-pop, path-push}
use Rattle.explorer.proofs.Places.{any-before, before-precedes, precedes-before}
use Rattle.explorer.proofs.Points.{at_spent, at_state, goes-on, goes-spent}
use Rattle.explorer.proofs.Keys.{IsMet, SameChoices, key-kept, keys-kept, met-before, new-state}
use Rattle.explorer.specs.declared.histories.NextChoice.{NextChoice}
use Rattle.explorer.specs.declared.letters.Offer.TheVariants as offer
use Rattle.explorer.specs.declared.search.Spot.{Spot}
use Rattle.explorer.specs.declared.states.StateKey.{StateKey}
use Rattle.explorer.specs.declared.states.States.{States}
use Rattle.explorer.specs.Numbering.{IsApart}
use Rattle.explorer.specs.Offers.{following, offer_by}
use Rattle.explorer.specs.Places.{IsBefore}
use Rattle.explorer.specs.Runs.{IsGiven}
use Rattle.explorer.specs.Searched.{HasCovered}
use Rattle.explorer.specs.Searching.{HasFound, IsAt, IsNew, IsSpotOf, StandsAt, options_in, quiet_in}
use Rattle.explorer.specs.Keys.{HasStates, IsKeyOf}

-- What is used of the laws of ways.
pub record Laws (setting : Setting) : Type 0 where
  pub given : IsGiven setting
  pub futures : FuturesAreAlike
  pub long : AlikeWordsAreAsLong
  pub told : (one other : RunState) → ((side : Side) → lines_of side one.lines ≡ lines_of side other.lines) → SameChoices one other
  pub tells : (one other : List Turn) (state next : RunState) → reached setting one ≡ Some (at_state state) → reached setting other ≡ Some (at_state next) → SameChoices state next → (side : Side) → lines_of side state.lines ≡ lines_of side next.lines

pub small-limit : (setting : Setting) → IsGiven setting → HasLimit setting
small-limit setting given = let small = given.small in omega arith

-- Spots as more is found

stands-more : (setting : Setting) (words : List (List Turn)) (last word : List Turn) (choices : List NextChoice) (spot : Spot) → StandsAt setting words choices word spot → StandsAt setting (words ++ last ∷ []) choices word spot
stands-more setting words last word choices spot h = record { state = h.state; leads = h.leads; listed = Contains-append_left words (last ∷ []) word h.listed; is = h.is }

spot-kept : (setting : Setting) (choices more : List NextChoice) (state : RunState) (spot : Spot) → IsSpotOf setting choices state spot → IsSpotOf setting (choices ++ more) state spot
spot-kept setting choices more state spot h = record { key = key-kept choices more spot.key state h.key; options = h.options }

stands-kept : (setting : Setting) (words : List (List Turn)) (choices more : List NextChoice) (word : List Turn) (spot : Spot) → StandsAt setting words choices word spot → StandsAt setting words (choices ++ more) word spot
stands-kept setting words choices more word spot h = record { state = h.state; leads = h.leads; listed = h.listed; is = spot-kept setting choices more h.state spot h.is }

-- what a side may do at a spot
pub may-do : (setting : Setting) (choices : List NextChoice) (state : RunState) (spot : Spot) (side : Side) → IsSpotOf setting choices state spot
    → MayDo setting side state (options_in side spot).acts (options_in side spot).receives (options_in side spot).spent
may-do setting choices state spot side h = let o = h.options side in record { own = o.acts; delivery = o.receives; full = o.spent }

pub quiet-so : (setting : Setting) (choices : List NextChoice) (state : RunState) (spot : Spot) → IsSpotOf setting choices state spot → is_quiet setting state ≡ quiet_in spot
quiet-so setting choices state spot h =
    let p = h.options sides.Parent in
    let c = h.options sides.Child in
    ap (λ (b : Bool). (not b && not (may_deliver sides.Parent state.world)) && is_quiet_at setting state sides.Child) (sym p.acts)
    ∙ ap (λ (b : Bool). (not spot.parent.acts && not b) && is_quiet_at setting state sides.Child) (sym p.receives)
    ∙ ap (λ (b : Bool). (not spot.parent.acts && not spot.parent.receives) && (not b && not (may_deliver sides.Child state.world))) (sym c.acts)
    ∙ ap (λ (b : Bool). (not spot.parent.acts && not spot.parent.receives) && (not spot.child.acts && not b)) (sym c.receives)
    ∙ by (not spot.parent.acts && not spot.parent.receives) (not spot.child.acts) (not spot.child.receives)
  where
    by : (a b c : Bool) → (a && (b && c)) ≡ ((a && b) && c)
    by true b c = refl
    by false b c = refl

-- the number of keys is that of the states
keys-long : (setting : Setting) (words : List (List Turn)) (states : States) → HasStates setting words states → length (states_of setting words) ≡ length states.met.keys
keys-long setting words states h = AllZip-long (IsKeyOf states.histories.choices.keys) states.met.keys (states_of setting words) h.keys

module _ (setting : Setting) (most : ℕ) where
  -- what was found so far is what there is to find, and it is not all
  not-whole : (words : List (List Turn)) (next : List Turn) (states : States) (found : List ways.Way) → AreFirstWords setting words → AreFirstWords setting (words ++ next ∷ []) → HasFound setting most words states found
      → (AreFew setting most (words ++ next ∷ []) → ⊥) → IsExplored setting most (record { ways = found; whole = false })
  not-whole words next states found first more h many = record { words = words; first = first; few = h.few; stops = (next, more, many); ways = h.ways_are }

  -- The next letter

  module _ (laws : Laws setting) (word : List Turn) (spots : List Spot) (spot : Spot) (turn : Turn) (states : States) (found : List ways.Way) (at : IsAt setting most word spots spot (Some turn) states found) where
    abbrev pub state : RunState
    state = at.stands.state

    leads_there : reached setting word ≡ Some (at_state state)
    leads_there = at.stands.leads.leads

    abbrev o : SideOptions
    o = options_in turn.side spot

    may : MayDo setting turn.side state o.acts o.receives o.spent
    may = may-do setting states.histories.choices.keys state spot turn.side at.stands.is

    -- the place after the letter, where the same words cover it
    after-letter : HasCovered setting (IsBefore word (rank turn + 1)) at.words → IsAt setting most word spots spot (following turn.only_deliver turn.side) states found
    after-letter covered = record {
      words = at.words;
      covered = subst (λ (n : ℕ). HasCovered setting (IsBefore word n) at.words) (sym (next-rank turn)) covered;
      path = at.path;
      stands = at.stands;
      has_found = at.has_found;
    }

    pub at-nothing : offer_by turn.only_deliver o.acts o.receives o.spent ≡ offer.Nothing → IsAt setting most word spots spot (following turn.only_deliver turn.side) states found
    at-nothing none = after-letter (by (nothing-new setting turn state o.acts o.receives o.spent may none))
      where
        done : (d : IsDoneBefore setting turn state)
            → (((next : RunState) × (outcome setting turn state ≡ leads next) × (outcome setting d.letter state ≡ leads next)) ⊎ ((outcome setting turn state ≡ exceeds) × (outcome setting d.letter state ≡ exceeds)))
            → HasCovered setting (IsBefore word (rank turn + 1)) at.words
        done d (inl h) = next-same setting at.words word turn state at.covered leads_there d.letter h.0 d.earlier h.1 h.2
        done d (inr h) = next-spent-too setting at.words word turn state at.covered leads_there d.letter d.earlier d.side_is h.0 h.1

        by : (outcome setting turn state ≡ idles) ⊎ IsDoneBefore setting turn state → HasCovered setting (IsBefore word (rank turn + 1)) at.words
        by (inl h) = next-idle setting at.words word turn state at.covered leads_there h
        by (inr d) = done d d.both

    -- A spent side

    module _ (spent : offer_by turn.only_deliver o.acts o.receives o.spent ≡ offer.Spent) where
      does : (outcome setting turn state ≡ exceeds) × (turn.only_deliver ≡ false)
      does = spent-does setting turn state o.acts o.receives o.spent may spent

      abbrev last : List Turn
      last = word ++ turn ∷ []

      there : reached setting last ≡ Some (at_spent state turn.side)
      there = goes-spent setting word turn state leads_there does.0

      is_new : (one : List Turn) (same : Point) → Contains at.words one → reached setting one ≡ Some same → AreAlike same (at_spent state turn.side) → ⊥
      is_new =
          spent-new setting at.words word turn state at.covered leads_there laws.long laws.given.sound laws.given.valid (small-limit setting laws.given) does.1 at.stands.listed

      abbrev way : ways.Way
      way = record { ending = at_limit turn.side; word = last }

      ways_more : ways_of setting (at.words ++ last ∷ []) ≡ ways_of setting at.words ++ way ∷ []
      ways_more = ways-spent setting at.words last state turn.side there

      states_same : states_of setting (at.words ++ last ∷ []) ≡ states_of setting at.words
      states_same = states-spent setting at.words last state turn.side there

      pub at-spent-full : most ≤ length found → IsExplored setting most (record { ways = found; whole = false })
      at-spent-full full =
          not-whole at.words last states found (first-words-before setting word (rank turn) at.words at.covered)
          (entered-first setting at.words word turn state at.covered leads_there (at_spent state turn.side) there is_new) at.has_found
          (λ few.
          let a = few.ways in
          let b = ap length ways_more in
          let c = length-append (ways_of setting at.words) (way ∷ []) in
          let d = ap length at.has_found.ways_are in
          omega (arith, a, b, c, d, full))

      pub at-spent : length found < most → IsAt setting most word spots spot (following turn.only_deliver turn.side) states (found ++ way ∷ [])
      at-spent room = record {
        words = at.words ++ last ∷ [];
        covered =
            subst (λ (n : ℕ). HasCovered setting (IsBefore word n) (at.words ++ last ∷ [])) (sym (next-rank turn))
            (spent-covered setting at.words word turn state at.covered leads_there (at_spent state turn.side) there is_new does.0);
        path =
            path-more (StandsAt setting at.words states.histories.choices.keys) (StandsAt setting (at.words ++ last ∷ []) states.histories.choices.keys)
            (λ w s h. stands-more setting at.words last w states.histories.choices.keys s h) [] word spots at.path;
        stands = stands-more setting at.words last word states.histories.choices.keys spot at.stands;
        has_found = record {
          few = record {
            ways =
                (let b = ap length ways_more in
                let c = length-append (ways_of setting at.words) (way ∷ []) in
                let d = ap length at.has_found.ways_are in
                omega (arith, b, c, d, room));
            states = subst (λ (ss : List RunState). length ss ≤ most_states) (sym states_same) at.has_found.few.states;
          };
          states_are = record {
            apart = at.has_found.states_are.apart;
            keys = subst (λ (ss : List RunState). AllZip (IsKeyOf states.histories.choices.keys) states.met.keys ss) (sym states_same) at.has_found.states_are.keys;
          };
          ways_are = ap (λ (ws : List ways.Way). ws ++ way ∷ []) at.has_found.ways_are ∙ sym ways_more;
        };
      }

    -- A step to a state, by its key

    -- the histories grew
    pub at-kept : (after : States) (more : List NextChoice) → after.histories.choices.keys ≡ states.histories.choices.keys ++ more → after.met ≡ states.met → IsApart after.histories → IsAt setting most word spots spot (Some turn) after found
    at-kept after more grown met apart = record {
      words = at.words;
      covered = at.covered;
      path =
          path-more (StandsAt setting at.words states.histories.choices.keys) (StandsAt setting at.words after.histories.choices.keys)
          (λ w s h. subst (λ (cs : List NextChoice). StandsAt setting at.words cs w s) (sym grown) (stands-kept setting at.words states.histories.choices.keys more w s h)) [] word spots at.path;
      stands = subst (λ (cs : List NextChoice). StandsAt setting at.words cs word spot) (sym grown) (stands-kept setting at.words states.histories.choices.keys more word spot at.stands);
      has_found = record {
        few = at.has_found.few;
        states_are = record {
          apart = apart;
          keys =
              subst (λ (cs : List NextChoice). AllZip (IsKeyOf cs) after.met.keys (states_of setting at.words)) (sym grown)
              (subst (λ (ks : List StateKey). AllZip (IsKeyOf (states.histories.choices.keys ++ more)) ks (states_of setting at.words)) (ap (λ m. m.keys) (sym met))
              (keys-kept states.histories.choices.keys more states.met.keys (states_of setting at.words) at.has_found.states_are.keys));
        };
        ways_are = at.has_found.ways_are;
      };
    }

    module _ (next : RunState) (goes : outcome setting turn state ≡ leads next) (key : StateKey) (key_is : IsKeyOf states.histories.choices.keys key next) where
      entered : reached setting (word ++ turn ∷ []) ≡ Some (at_state next)
      entered = goes-on setting word turn state leads_there next goes

      pub at-met : Contains states.met.keys key → IsAt setting most word spots spot (following turn.only_deliver turn.side) states found
      at-met met =
          let m : IsMet setting at.words next = met-before setting at.words states key next at.has_found.states_are met key_is in
          after-letter (next-met setting at.words word turn state at.covered leads_there laws.futures laws.long laws.given.sound laws.given.valid (small-limit setting laws.given) next m.same m.found goes m.listed m.leads
          (laws.tells (word ++ turn ∷ []) m.found next m.same entered m.leads m.choices))

      pub at-new : (Contains states.met.keys key → ⊥) → (there_spot : Spot) → there_spot.key ≡ key → ((side : Side) → AreOptionsAt (record { setting = setting; state = next }) side (options_in side there_spot))
          → IsNew setting most (word ++ turn ∷ []) (spots ++ spot ∷ []) there_spot states found
      at-new unmet there_spot same options = record {
        words = at.words;
        covered =
            covered-more setting (IsBefore word (rank turn)) (λ one. Precedes one (word ++ turn ∷ [])) at.words (λ one k. before-precedes word turn one k) (λ one point k leads_to. inl (precedes-before word turn one k)) at.covered;
        path = path-push (StandsAt setting at.words states.histories.choices.keys) [] word spots turn spot at.path at.stands;
        state = next;
        leads = record { leads = entered };
        is = record { key = subst (λ (k : StateKey). IsKeyOf states.histories.choices.keys k next) (sym same) key_is; options = options };
        has_found = at.has_found;
        is_new = new-state setting at.words states key next laws.told at.has_found.states_are unmet key_is;
        unmet = λ c. unmet (subst (Contains states.met.keys) same c);
      }

  -- A new state

  module _ (word : List Turn) (spots : List Spot) (spot : Spot) (states : States) (found : List ways.Way) (new : IsNew setting most word spots spot states found) where
    leads_here : reached setting word ≡ Some (at_state new.state)
    leads_here = new.leads.leads

    appended : HasCovered setting (λ one. Precedes one word ⊎ (one ≡ word)) (new.words ++ word ∷ [])
    appended = covered-append setting new.words word (at_state new.state) new.covered leads_here new.is_new

    first-so : AreFirstWords setting (new.words ++ word ∷ [])
    first-so = first-words-before setting word 0 (new.words ++ word ∷ []) (covered-up-to setting word (new.words ++ word ∷ []) appended)

    states_more : states_of setting (new.words ++ word ∷ []) ≡ states_of setting new.words ++ new.state ∷ []
    states_more = states-more setting new.words word new.state leads_here

    long : length (states_of setting new.words) ≡ length states.met.keys
    long = keys-long setting new.words states new.has_found.states_are

    pub new-many : most_states ≤ length states.met.keys → IsExplored setting most (record { ways = found; whole = false })
    new-many many =
        not-whole new.words word states found (first-words-to setting word new.words new.covered) first-so new.has_found
        (λ few.
        let a = few.states in
        let b = ap length states_more in
        let c = length-append (states_of setting new.words) (new.state ∷ []) in
        let d = long in
        omega (arith, a, b, c, d, many))

    abbrev way_here : ways.Way
    way_here = record { ending = at_rest; word = word }

    quiet-is : quiet_in spot ≡ true → is_quiet setting new.state ≡ true
    quiet-is quiet = quiet-so setting states.histories.choices.keys new.state spot new.is ∙ quiet

    ways_more_here : quiet_in spot ≡ true → ways_of setting (new.words ++ word ∷ []) ≡ ways_of setting new.words ++ way_here ∷ []
    ways_more_here quiet = ways-rest setting new.words word new.state leads_here (quiet-is quiet)

    pub new-full : quiet_in spot ≡ true → most ≤ length found → IsExplored setting most (record { ways = found; whole = false })
    new-full quiet full =
        not-whole new.words word states found (first-words-to setting word new.words new.covered) first-so new.has_found
        (λ few.
        let a = few.ways in
        let b = ap length (ways_more_here quiet) in
        let c = length-append (ways_of setting new.words) (way_here ∷ []) in
        let d = ap length new.has_found.ways_are in
        omega (arith, a, b, c, d, full))

    -- the state is added
    module _ (after : States) (same : after.histories ≡ states.histories) (added : after.met.keys ≡ states.met.keys ++ spot.key ∷ []) (few : length states.met.keys < most_states) where
      choices_same : after.histories.choices.keys ≡ states.histories.choices.keys
      choices_same = ap (λ h. h.choices.keys) same

      add-way : (found_after : List ways.Way) → found_after ≡ ways_of setting (new.words ++ word ∷ []) → length found_after ≤ most → IsAt setting most word spots spot (Some (record { side = sides.Parent; only_deliver = false })) after found_after
      add-way found_after ways_are room = record {
        words = new.words ++ word ∷ [];
        covered = covered-up-to setting word (new.words ++ word ∷ []) appended;
        path =
            path-more (StandsAt setting new.words states.histories.choices.keys) (StandsAt setting (new.words ++ word ∷ []) after.histories.choices.keys)
            (λ w s h. subst (λ (cs : List NextChoice). StandsAt setting (new.words ++ word ∷ []) cs w s) (sym choices_same) (stands-more setting new.words word w states.histories.choices.keys s h)) [] word spots new.path;
        stands = record { state = new.state; leads = new.leads; listed = Contains-push new.words word; is = subst (λ (cs : List NextChoice). IsSpotOf setting cs new.state spot) (sym choices_same) new.is };
        has_found = record {
          few = record {
            ways = (let e = ap length ways_are in omega (arith, e, room));
            states =
                (let b = ap length states_more in
                let c = length-append (states_of setting new.words) (new.state ∷ []) in
                let d = long in
                omega (arith, b, c, d, few));
          };
          states_are = record {
            apart = subst IsApart (sym same) new.has_found.states_are.apart;
            keys =
                subst (λ (cs : List NextChoice). AllZip (IsKeyOf cs) after.met.keys (states_of setting (new.words ++ word ∷ []))) (sym choices_same)
                (subst (λ (ks : List StateKey). AllZip (IsKeyOf states.histories.choices.keys) ks (states_of setting (new.words ++ word ∷ []))) (sym added)
                (subst (λ (ss : List RunState). AllZip (IsKeyOf states.histories.choices.keys) (states.met.keys ++ spot.key ∷ []) ss) (sym states_more)
                (all_zipped_more (IsKeyOf states.histories.choices.keys) states.met.keys (states_of setting new.words) spot.key new.state new.has_found.states_are.keys new.is.key)));
          };
          ways_are = ways_are;
        };
      }

      pub new-rest : quiet_in spot ≡ true → length found < most → IsAt setting most word spots spot (Some (record { side = sides.Parent; only_deliver = false })) after (found ++ way_here ∷ [])
      new-rest quiet room = add-way (found ++ way_here ∷ []) (ap (λ (ws : List ways.Way). ws ++ way_here ∷ []) new.has_found.ways_are ∙ sym (ways_more_here quiet))
          (let e = length-append found (way_here ∷ []) in omega (arith, e, room))

      pub new-busy : quiet_in spot ≡ false → IsAt setting most word spots spot (Some (record { side = sides.Parent; only_deliver = false })) after found
      new-busy busy = add-way found (new.has_found.ways_are ∙ sym (ways-same setting new.words word new.state leads_here (quiet-so setting states.histories.choices.keys new.state spot new.is ∙ busy)))
          (let a = new.has_found.few.ways in
          let d = ap length new.has_found.ways_are in
          omega (arith, a, d))

  -- The end of a word

  pub at-back : (word : List Turn) (turn : Turn) (all front : List Spot) (last spot : Spot) (states : States) (found : List ways.Way) → IsAt setting most (word ++ turn ∷ []) all spot None states found → all ≡ front ++ last ∷ []
      → IsAt setting most word front last (following turn.only_deliver turn.side) states found
  at-back word turn all front last spot states found at is =
      let p : IsPopped (StandsAt setting at.words states.histories.choices.keys) [] word all front last = path-pop (StandsAt setting at.words states.histories.choices.keys) [] word turn all front last at.path is in
      record {
        words = at.words;
        covered = subst (λ (n : ℕ). HasCovered setting (IsBefore word n) at.words) (sym (next-rank turn)) (back-covered setting at.words word turn at.covered);
        path = p.path;
        stands = p.at;
        has_found = at.has_found;
      }

  pub at-has : (word : List Turn) (turn : Turn) (spot : Spot) (next : Option Turn) (states : States) (found : List ways.Way) → IsAt setting most (word ++ turn ∷ []) [] spot next states found → ⊥
  at-has word turn spot next states found at = path-has (StandsAt setting at.words states.histories.choices.keys) [] word turn at.path

  pub at-end : (spots : List Spot) (spot : Spot) (states : States) (found : List ways.Way) → IsAt setting most [] spots spot None states found → IsExplored setting most (record { ways = found; whole = true })
  at-end spots spot states found at = record {
    words = at.words;
    first = first-words-before setting [] 4 at.words at.covered;
    few = at.has_found.few;
    stops = λ word point there. at.covered.covers word point (any-before word) there;
    ways = at.has_found.ways_are;
  }

  -- The beginning

  pub new-begin : (spot : Spot) (states : States) → states.met.keys ≡ [] → IsApart states.histories → IsSpotOf setting states.histories.choices.keys (beginning_of setting) spot → IsNew setting most [] [] spot states []
  new-begin spot states none apart is = record {
    words = [];
    covered = covered-start setting;
    path = tt;
    state = beginning_of setting;
    leads = record { leads = refl };
    is = is;
    has_found = record {
      few = record { ways = omega arith; states = omega arith };
      states_are = record { apart = apart; keys = subst (λ (ks : List StateKey). AllZip (IsKeyOf states.histories.choices.keys) ks []) (sym none) tt };
      ways_are = refl;
    };
    is_new = λ one same c there alike. absurd (omega (arith, c.1));
    unmet = λ c. absurd (omega (arith, subst (λ (ks : List StateKey). c.0 < length ks) none c.1));
  }
