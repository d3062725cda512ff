-- What the steps of a search come to.
use Rattle.std.proofs.Common.{◌≡◌, ℕ, ◌+◌, ◌<◌, Bool, true, false, ◌&&◌, ◌||◌, if◌then◌else◌, leb, List, [], ◌∷◌, ◌++◌, length, map, Option, Some, None, refl, sym, ap, subst, ◌∙◌, length-append, true≢false, arith}
use Rattle.std.specs.Prelude.{Contains}
use Rattle.std.specs.List.{AllZip}
use Rattle.std.proofs.lemmas.Bool.{leb-false, leb-true}
use Rattle.std.proofs.lemmas.List.{length-map, map-append}
use Rattle.ipdl_base.specs.declared.kinds.Side.{Side}
use Rattle.ipdl_base.specs.declared.kinds.Side.TheVariants as sides
use Rattle.channel_model.specs.Runs.{RunState}
use Rattle.schedules.specs.declared.turn.Turn.{Turn}
use Rattle.script_steps.specs.Choices.{Setting, beginning_of, choices_of}
use Rattle.script_steps.specs.Turns.{at_limit, at_rest, leads, led_to, outcome}
use Rattle.explorations.specs.declared.way.Way.{Way}
use Rattle.explorations.specs.Explorations.{IsExplored, most_states}
use Rattle.explorations.specs.Explorations as ways
use Rattle.explorations.specs.Seen.{ending_of, exploration_seen, way_seen}
use Rattle.explorations.specs.Words.{Point, rank, reached}
use Rattle.world_core.specs.Options.{AreOptionsAt}
use Rattle.world_core.specs.WorldView.{WorldView}
use Rattle.explorer.proofs.Lawful.{lawful, step-made}
use Rattle.explorer.proofs.Offers.{Steps, next-rank, step-does}
use Rattle.explorer.proofs.Keys.{key-next}
use Rattle.explorer.proofs.Places.{rank-small}
use Rattle.explorer.proofs.Points.{at_state, goes-on, point-same}
use Rattle.explorer.proofs.Searching.{Laws, at-back, at-end, at-has, at-kept, at-met, at-new, at-nothing, at-spent, at-spent-full, may-do, new-begin, new-busy, new-full, new-many, new-rest}
use Rattle.explorer.specs.declared.letters.Offer.TheVariants as offer
use Rattle.explorer.specs.declared.runner.Runner.{Runner}
use Rattle.explorer.specs.declared.search.Search.{Search}
use Rattle.explorer.specs.declared.search.Spot.{Spot}
use Rattle.explorer.specs.declared.states.StateKey.{StateKey}
use Rattle.explorer.specs.declared.states.States.{States}
use Rattle.explorer.specs.Keys.{IsKeyAfter, IsKeyOf, choices_by, number_of}
use Rattle.explorer.specs.Numbering.{Grows, IsApart, IsListOf}
use Rattle.explorer.specs.Offers.{following}
use Rattle.explorer.specs.Places.{rank_of}
use Rattle.explorer.specs.Runs.{HasCome, MayGoOn, RunsAt, setting_of}
use Rattle.explorer.specs.Searched.{LeadsTo}
use Rattle.explorer.specs.Searching.{AreLike, Arrives, Goes, IsArriving, IsAt, IsFinished, IsNew, IsPoppedTo, IsSearching, MayEnter, Offers, found_in, left_by, left_of, options_in, quiet_in, setting_in}

-- the options of both sides
pub options-both : (w : WorldView) (spot : Spot) → AreOptionsAt w sides.Parent spot.parent → AreOptionsAt w sides.Child spot.child → (side : Side) → AreOptionsAt w side (options_in side spot)
options-both w spot p c sides.Parent = p
options-both w spot p c sides.Child = c

-- the place of a search where a letter is next
at-letter : (search : Search) (turn : Turn) → IsSearching search → search.next ≡ Some turn → IsAt (setting_in search) search.most search.word.items search.spots.items search.spot (Some turn) search.states (found_in search)
at-letter search turn h at = subst (λ (n : Option Turn). IsAt (setting_in search) search.most search.word.items search.spots.items search.spot n search.states (found_in search)) at h.is_at

laws-of : (search : Search) → IsSearching search → Laws (setting_in search)
laws-of search h = lawful (setting_in search) h.runs.is.given

next-less : (states word : ℕ) (turn : Turn) (before after : Option Turn) → before ≡ Some turn → after ≡ following turn.only_deliver turn.side → left_by states word (rank_of after) < left_by states word (rank_of before)
next-less states word turn before after b a =
    let small = rank-small turn in
    let r : rank_of before ≡ rank turn = ap rank_of b in
    let n : rank_of after ≡ rank turn + 1 = ap rank_of a ∙ next-rank turn in
    omega arith

-- The next letter, where nothing else changed but the ways that were found

pub goes-next : (search after : Search) (turn : Turn) → IsSearching search → search.next ≡ Some turn → after.next ≡ following turn.only_deliver turn.side
    → after.runner ≡ search.runner → after.most ≡ search.most → after.word ≡ search.word → after.spots ≡ search.spots → after.spot ≡ search.spot → length after.states.met.keys ≡ length search.states.met.keys → after.found.whole ≡ true
    → IsAt (setting_in search) search.most search.word.items search.spots.items search.spot (following turn.only_deliver turn.side) after.states (found_in after) → Goes search true after
goes-next search after turn h at next runner most word spots spot count whole is = (
  record { setting = ap setting_of runner; most = most },
  record {
    runs = subst (λ (r : Runner). RunsAt after.word.items r) (sym runner) (subst (λ w. RunsAt w search.runner) (ap (λ w. w.items) (sym word)) h.runs);
    is_at =
        subst (λ (r : Runner). IsAt (setting_of r) after.most after.word.items after.spots.items after.spot after.next after.states (found_in after)) (sym runner)
        (subst (λ (n : ℕ). IsAt (setting_in search) n after.word.items after.spots.items after.spot after.next after.states (found_in after)) (sym most)
        (subst (λ (w : List Turn). IsAt (setting_in search) search.most w after.spots.items after.spot after.next after.states (found_in after)) (ap (λ w. w.items) (sym word))
        (subst (λ (ss : List Spot). IsAt (setting_in search) search.most search.word.items ss after.spot after.next after.states (found_in after)) (ap (λ w. w.items) (sym spots))
        (subst (λ (s : Spot). IsAt (setting_in search) search.most search.word.items search.spots.items s after.next after.states (found_in after)) (sym spot)
        (subst (λ (n : Option Turn). IsAt (setting_in search) search.most search.word.items search.spots.items search.spot n after.states (found_in after)) (sym next) is)))));
    whole = whole;
  },
  (let less = next-less (length search.states.met.keys) (length search.word.items) turn search.next after.next at next in
      let size : length after.word.items ≡ length search.word.items = ap (λ w. length w.items) word in
      subst (λ (n : ℕ). left_by n (length after.word.items) (rank_of after.next) < left_of search) (sym count)
      (subst (λ (n : ℕ). left_by (length search.states.met.keys) n (rank_of after.next) < left_of search) (sym size) less)),
)

-- a letter that does nothing new
pub goes-nothing : (search : Search) (turn : Turn) (next : Option Turn) → IsSearching search → search.next ≡ Some turn → Offers search turn offer.Nothing → next ≡ following turn.only_deliver turn.side → Goes search true (record search { next = next })
goes-nothing search turn next h at none is =
    goes-next search (record search { next = next }) turn h at is refl refl refl refl refl refl h.whole
    (at-nothing (setting_in search) search.most (laws-of search h) search.word.items search.spots.items search.spot turn search.states (found_in search) (at-letter search turn h at) none)

-- a spent side, and no room for its way
pub goes-full : (search : Search) (turn : Turn) → IsSearching search → search.next ≡ Some turn → Offers search turn offer.Spent → leb search.most (length search.found.ways.items) ≡ true
    → Goes search false (record search { found = record search.found { whole = false } })
goes-full search turn h at spent full = (
  record { setting = refl; most = refl },
  at-spent-full (setting_in search) search.most (laws-of search h) search.word.items search.spots.items search.spot turn search.states (found_in search) (at-letter search turn h at) spent
      (let a = leb-true search.most (length search.found.ways.items) full in
      let b = length-map search.found.ways.items way_seen in
      omega (arith, a, b)),
)

-- a spent side, and its way is added
pub goes-spent-way : (search after : Search) (turn : Turn) (way : Way) → IsSearching search → search.next ≡ Some turn → Offers search turn offer.Spent → leb search.most (length search.found.ways.items) ≡ false
    → after.next ≡ following turn.only_deliver turn.side → after.runner ≡ search.runner → after.most ≡ search.most → after.word ≡ search.word → after.spots ≡ search.spots → after.spot ≡ search.spot → after.states ≡ search.states → after.found.whole ≡ true
    → after.found.ways.items ≡ search.found.ways.items ++ way ∷ [] → way.spent ≡ Some turn.side → way.word.items ≡ search.word.items ++ turn ∷ [] → Goes search true after
goes-spent-way search after turn way h at spent room next runner most word spots spot states whole items side word_is =
    goes-next search after turn h at next runner most word spots spot (ap (λ (s : States). length s.met.keys) states) whole
    (subst (λ (s : States). IsAt (setting_in search) search.most search.word.items search.spots.items search.spot (following turn.only_deliver turn.side) s (found_in after)) (sym states)
    (subst (λ (ws : List ways.Way). IsAt (setting_in search) search.most search.word.items search.spots.items search.spot (following turn.only_deliver turn.side) search.states ws) (sym found)
    (at-spent (setting_in search) search.most (laws-of search h) search.word.items search.spots.items search.spot turn search.states (found_in search) (at-letter search turn h at) spent
    (let a = leb-false search.most (length search.found.ways.items) room in
    let b = length-map search.found.ways.items way_seen in
    omega (arith, a, b)))))
  where
    seen : way_seen way ≡ record { ending = at_limit turn.side; word = search.word.items ++ turn ∷ [] }
    seen =
        ap (λ (s : Option Side). record { ending = ending_of s; word = way.word.items }) side ∙ ap (λ (w : List Turn). record { ending = at_limit turn.side; word = w }) word_is

    found : found_in after ≡ found_in search ++ record { ending = at_limit turn.side; word = search.word.items ++ turn ∷ [] } ∷ []
    found = ap (map way_seen) items ∙ map-append way_seen search.found.ways.items (way ∷ []) ∙ ap (λ (w : ways.Way). found_in search ++ w ∷ []) seen

-- the way of a quiet state
pub rest-found : (search : Search) (after : List Way) (way : Way) (quiet : Bool) → quiet ≡ true → after ≡ search.found.ways.items ++ way ∷ [] → way.spent ≡ None → way.word.items ≡ search.word.items
    → map way_seen after ≡ (if quiet then found_in search ++ record { ending = at_rest; word = search.word.items } ∷ [] else found_in search)
rest-found search after way quiet is items spent word =
    ap (map way_seen) items ∙ map-append way_seen search.found.ways.items (way ∷ [])
    ∙ ap (λ (w : ways.Way). found_in search ++ w ∷ []) (ap (λ (s : Option Side). record { ending = ending_of s; word = way.word.items }) spent ∙ ap (λ (w : List Turn). record { ending = at_rest; word = w }) word)
    ∙ ap (λ (b : Bool). if b then found_in search ++ record { ending = at_rest; word = search.word.items } ∷ [] else found_in search) (sym is)

pub copied : (one other : List Turn) → AllZip (λ x y. y ≡ x) one other → other ≡ one
copied [] [] h = refl
copied [] (y ∷ other) h = absurd h
copied (x ∷ one) [] h = absurd h
copied (x ∷ one) (y ∷ other) h = ap (λ (t : Turn). t ∷ other) h.0 ∙ ap (λ (ts : List Turn). x ∷ ts) (copied one other h.1)

-- A step, by its key

module _ (search : Search) (turn : Turn) (delivers : Bool) (h : IsSearching search) (at : search.next ≡ Some turn) (steps_offered : Offers search turn (offer.Step delivers)) where
  abbrev pub state : RunState
  state = h.is_at.stands.state

  abbrev next_state : RunState
  next_state = led_to (setting_in search) (record { side = turn.side; delivers = delivers }) state

  steps : Steps (setting_in search) turn state delivers
  steps =
      step-does (setting_in search) turn state (options_in turn.side search.spot).acts (options_in turn.side search.spot).receives (options_in turn.side search.spot).spent delivers
      (may-do (setting_in search) search.states.histories.choices.keys state search.spot turn.side h.is_at.stands.is) steps_offered

  module _ (after : States) (key : StateKey) (grows : Grows search.states.histories after.histories) (apart : IsApart after.histories) (met : after.met ≡ search.states.met)
      (key_after : IsKeyAfter search.states.histories.choices.keys after.histories.choices.keys search.spot.key turn.side delivers key) where
    key_is : IsKeyOf after.histories.choices.keys key next_state
    key_is =
        key-next search.states.histories.choices.keys after.histories.choices.keys grows.more search.spot.key state next_state turn.side delivers key h.is_at.stands.is.key grows.is
        (step-made (setting_in search) h.runs.is.given search.word.items turn state delivers h.is_at.stands.leads.leads steps) key_after

    kept : IsAt (setting_in search) search.most search.word.items search.spots.items search.spot (Some turn) after (found_in search)
    kept = at-kept (setting_in search) search.most (laws-of search h) search.word.items search.spots.items search.spot turn search.states (found_in search) (at-letter search turn h at) after grows.more grows.is met apart

    -- the search with these states
    abbrev grown : Search
    grown = record search { states = after }

    pub grown-searching : IsSearching grown
    grown-searching = record {
      runs = h.runs;
      is_at = subst (λ (n : Option Turn). IsAt (setting_in search) search.most search.word.items search.spots.items search.spot n after (found_in search)) (sym at) kept;
      whole = h.whole;
    }

    -- its state was met
    pub goes-met : (next : Option Turn) → Contains after.met.keys key → next ≡ following turn.only_deliver turn.side → Goes search true (record search { states = after; next = next })
    goes-met next there is =
        goes-next search (record search { states = after; next = next }) turn h at is refl refl refl refl refl (ap (λ m. length m.keys) met) h.whole
        (at-met (setting_in search) search.most (laws-of search h) search.word.items search.spots.items search.spot turn after (found_in search) kept next_state (again kept.stands.state kept.stands.leads.leads) key key_is there)
      where
        again : (other : RunState) → reached (setting_in search) search.word.items ≡ Some (at_state other) → outcome (setting_in search) turn other ≡ leads next_state
        again other leads_too = subst (λ (s : RunState). outcome (setting_in search) turn s ≡ leads next_state) (ap (λ (p : Point). p.state) (point-same (sym h.is_at.stands.leads.leads ∙ leads_too))) steps.goes

    -- its state was not met
    pub may-enter : (Contains after.met.keys key → ⊥) → MayEnter grown turn key
    may-enter unmet = record { state = state; before = h.is_at.stands.leads; next = next_state; does = steps.goes; key_is = key_is; unmet = unmet }

    pub goes-entered : (goes : Bool) (last : Search) → Goes grown goes last → Goes search goes last
    goes-entered true last g = (record { setting = g.0.setting; most = g.0.most }, g.1, subst (λ (n : ℕ). left_of last < left_by n (length search.word.items) (rank_of search.next)) (ap (λ m. length m.keys) met) g.2)
    goes-entered false last g = (record { setting = g.0.setting; most = g.0.most }, g.1)

-- A new state is entered

pub may-go-on : (search : Search) (turn : Turn) (key : StateKey) → MayEnter search turn key → MayGoOn (setting_of search.runner) search.word.items turn
may-go-on search turn key may = record { state = may.state; before = may.before; next = may.next; does = may.does }

new-so : {s t : Setting} {m n : ℕ} {w v : List Turn} {ss rs : List Spot} {spot : Spot} {st : States} {f g : List ways.Way} → s ≡ t → m ≡ n → w ≡ v → ss ≡ rs → f ≡ g → IsNew s m w ss spot st f → IsNew t n v rs spot st g
new-so {s} {t} {m} {n} {w} {v} {ss} {rs} {spot} {st} {f} {g} a b c d e h =
    subst (λ (x : Setting). IsNew x n v rs spot st g) a
    (subst (λ (x : ℕ). IsNew s x v rs spot st g) b (subst (λ (x : List Turn). IsNew s m x rs spot st g) c (subst (λ (x : List Spot). IsNew s m w x spot st g) d (subst (λ (x : List ways.Way). IsNew s m w ss spot st x) e h))))

module _ (search mid : Search) (turn : Turn) (key : StateKey) (h : IsSearching search) (at : search.next ≡ Some turn) (may : MayEnter search turn key) (come : HasCome search.runner (search.word.items ++ turn ∷ []) mid.runner)
    (most : mid.most ≡ search.most) (word : mid.word.items ≡ search.word.items ++ turn ∷ []) (spots : mid.spots.items ≡ search.spots.items ++ search.spot ∷ [])
    (spot_key : mid.spot.key ≡ key) (options : (side : Side) → AreOptionsAt mid.runner.world side (options_in side mid.spot)) (states : mid.states ≡ search.states) (found : mid.found ≡ search.found) where
  there : reached (setting_in search) (search.word.items ++ turn ∷ []) ≡ Some (at_state may.next)
  there = goes-on (setting_in search) search.word.items turn may.state may.before.leads may.next may.does

  world_is : mid.runner.world ≡ record { setting = setting_in search; state = may.next }
  world_is =
      ap (λ (s : Setting). record { setting = s; state = mid.runner.world.state }) (come.is.about ∙ come.same)
      ∙ ap (λ (s : RunState). record { setting = setting_in search; state = s }) (ap (λ (p : Point). p.state) (point-same (sym come.here.leads ∙ there)))

  pub arriving : IsArriving mid
  arriving = record {
    runs = record {
      is = come.is;
      here = λ near. subst (λ (s : Setting). LeadsTo s mid.word.items mid.runner.world.state) (sym come.same) (subst (λ (w : List Turn). LeadsTo (setting_in search) w mid.runner.world.state) (sym word) come.here);
    };
    is_new =
        subst (λ (s : States). IsNew (setting_in mid) mid.most mid.word.items mid.spots.items mid.spot s (found_in mid)) (sym states)
        (new-so (sym come.same) (sym most) (sym word) (sym spots) (ap (λ f. map way_seen f.ways.items) (sym found))
        (at-new (setting_in search) search.most (laws-of search h) search.word.items search.spots.items search.spot turn search.states (found_in search) (at-letter search turn h at) may.next
        (subst (λ (s : RunState). outcome (setting_in search) turn s ≡ leads may.next) (sym (same_at)) may.does) key may.key_is may.unmet mid.spot spot_key
        (λ side. subst (λ (w : WorldView). AreOptionsAt w side (options_in side mid.spot)) world_is (options side))));
    whole = ap (λ f. f.whole) found ∙ h.whole;
  }
    where
      same_at : (at-letter search turn h at).stands.state ≡ may.state
      same_at = ap (λ (p : Point). p.state) (point-same (sym (at-letter search turn h at).stands.leads.leads ∙ may.before.leads))

-- A new state is added

or-false : (a b : Bool) → (a || b) ≡ false → (a ≡ false) × (b ≡ false)
or-false true b h = cc
or-false false b h = (refl, h)

-- no room for it
pub arrives-full : (search : Search) → IsArriving search → (leb most_states (length search.states.met.keys) || (quiet_in search.spot && leb search.most (length search.found.ways.items))) ≡ true
    → Arrives search false (record search { found = record search.found { whole = false } })
arrives-full search h full = (record { setting = refl; most = refl }, by (leb most_states (length search.states.met.keys)) (quiet_in search.spot) (leb search.most (length search.found.ways.items)) refl refl refl full)
  where
    by : (a b c : Bool) → leb most_states (length search.states.met.keys) ≡ a → quiet_in search.spot ≡ b → leb search.most (length search.found.ways.items) ≡ c → (a || (b && c)) ≡ true
        → IsExplored (setting_in search) search.most (record { ways = found_in search; whole = false })
    by true b c many quiet full t = new-many (setting_in search) search.most search.word.items search.spots.items search.spot search.states (found_in search) h.is_new (leb-true most_states (length search.states.met.keys) many)
    by false true true many quiet full t =
        new-full (setting_in search) search.most search.word.items search.spots.items search.spot search.states (found_in search) h.is_new quiet
        (let a = leb-true search.most (length search.found.ways.items) full in
        let b = length-map search.found.ways.items way_seen in
        omega (arith, a, b))
    by false true false many quiet full t = absurd (true≢false (sym t))
    by false false c many quiet full t = absurd (true≢false (sym t))

-- room for it
pub arrives-added : (search last : Search) (quiet : Bool) → IsArriving search → quiet ≡ quiet_in search.spot → (leb most_states (length search.states.met.keys) || (quiet && leb search.most (length search.found.ways.items))) ≡ false
    → last.states.histories ≡ search.states.histories → last.states.met.keys ≡ search.states.met.keys ++ search.spot.key ∷ []
    → last.runner ≡ search.runner → last.most ≡ search.most → last.word ≡ search.word → last.spots ≡ search.spots → last.spot ≡ search.spot → last.next ≡ Some (record { side = sides.Parent; only_deliver = false })
    → last.found.whole ≡ true → found_in last ≡ (if quiet then found_in search ++ record { ending = at_rest; word = search.word.items } ∷ [] else found_in search) → Arrives search true last
arrives-added search last quiet h is room same added runner most word spots spot next whole found = (
  record { setting = ap setting_of runner; most = most },
  record {
    runs = subst (λ (r : Runner). RunsAt last.word.items r) (sym runner) (subst (λ w. RunsAt w search.runner) (ap (λ w. w.items) (sym word)) h.runs);
    is_at =
        subst (λ (r : Runner). IsAt (setting_of r) last.most last.word.items last.spots.items last.spot last.next last.states (found_in last)) (sym runner)
        (subst (λ (n : ℕ). IsAt (setting_in search) n last.word.items last.spots.items last.spot last.next last.states (found_in last)) (sym most)
        (subst (λ (w : List Turn). IsAt (setting_in search) search.most w last.spots.items last.spot last.next last.states (found_in last)) (ap (λ w. w.items) (sym word))
        (subst (λ (ss : List Spot). IsAt (setting_in search) search.most search.word.items ss last.spot last.next last.states (found_in last)) (ap (λ w. w.items) (sym spots))
        (subst (λ (s : Spot). IsAt (setting_in search) search.most search.word.items search.spots.items s last.next last.states (found_in last)) (sym spot)
        (subst (λ (n : Option Turn). IsAt (setting_in search) search.most search.word.items search.spots.items search.spot n last.states (found_in last)) (sym next)
        (subst (λ (ws : List ways.Way). IsAt (setting_in search) search.most search.word.items search.spots.items search.spot (Some (record { side = sides.Parent; only_deliver = false })) last.states ws) (sym found) (by quiet is room)))))));
    whole = whole;
  },
  (let size : length last.word.items ≡ length search.word.items = ap (λ w. length w.items) word in
      let count : length last.states.met.keys ≡ length (search.states.met.keys ++ search.spot.key ∷ []) = ap length added in
      let one = length-append search.states.met.keys (search.spot.key ∷ []) in
      let r : rank_of last.next ≡ 0 = ap rank_of next in
      omega (arith, size, count, one, r, few)),
)
  where
    few : length search.states.met.keys < 100000
    few = leb-false most_states (length search.states.met.keys) (or-false (leb most_states (length search.states.met.keys)) (quiet && leb search.most (length search.found.ways.items)) room).0

    by : (b : Bool) → b ≡ quiet_in search.spot → (leb most_states (length search.states.met.keys) || (b && leb search.most (length search.found.ways.items))) ≡ false
        → IsAt (setting_in search) search.most search.word.items search.spots.items search.spot (Some (record { side = sides.Parent; only_deliver = false })) last.states (if b then found_in search ++ record { ending = at_rest; word = search.word.items } ∷ [] else found_in search)
    by true q r =
        new-rest (setting_in search) search.most search.word.items search.spots.items search.spot search.states (found_in search) h.is_new last.states same added few (sym q)
        (let a = leb-false search.most (length search.found.ways.items) (or-false (leb most_states (length search.states.met.keys)) (leb search.most (length search.found.ways.items)) r).1 in
        let b = length-map search.found.ways.items way_seen in
        omega (arith, a, b))
    by false q r = new-busy (setting_in search) search.most search.word.items search.spots.items search.spot search.states (found_in search) h.is_new last.states same added few (sym q)

-- The end of a word

at-none : (search : Search) → IsSearching search → search.next ≡ None → IsAt (setting_in search) search.most search.word.items search.spots.items search.spot None search.states (found_in search)
at-none search h none = subst (λ (n : Option Turn). IsAt (setting_in search) search.most search.word.items search.spots.items search.spot n search.states (found_in search)) none h.is_at

pub goes-end : (search after : Search) → IsSearching search → search.next ≡ None → search.word.items ≡ [] → after.runner ≡ search.runner → after.most ≡ search.most → after.found ≡ search.found → Goes search false after
goes-end search after h none empty runner most found = (
  record { setting = ap setting_of runner; most = most },
  subst (λ (r : Runner). IsExplored (setting_of r) after.most (exploration_seen after.found)) (sym runner)
      (subst (λ (n : ℕ). IsExplored (setting_in search) n (exploration_seen after.found)) (sym most)
      (subst (λ f. IsExplored (setting_in search) search.most (exploration_seen f)) (sym found)
      (subst (λ (b : Bool). IsExplored (setting_in search) search.most (record { ways = found_in search; whole = b })) (sym h.whole)
      (at-end (setting_in search) search.most search.spots.items search.spot search.states (found_in search)
      (subst (λ (w : List Turn). IsAt (setting_in search) search.most w search.spots.items search.spot None search.states (found_in search)) empty (at-none search h none)))))),
)

pub popped-has : (search : Search) (turn : Turn) → IsPoppedTo turn search → search.spots.items ≡ [] → ⊥
popped-has search turn h none = at-has (setting_in search) search.most search.word.items turn search.spot None search.states (found_in search)
    (subst (λ (ss : List Spot). IsAt (setting_in search) search.most (search.word.items ++ turn ∷ []) ss search.spot None search.states (found_in search)) none h.is_at)

pub popped-searching : (search after : Search) (turn : Turn) → IsPoppedTo turn search → search.spots.items ≡ after.spots.items ++ after.spot ∷ [] → after.runner ≡ record search.runner { is_away = true } → after.most ≡ search.most → after.word ≡ search.word
    → after.states ≡ search.states → after.found ≡ search.found → after.next ≡ following turn.only_deliver turn.side → AreLike search after × IsSearching after
popped-searching search after turn h spots runner most word states found next = (
  record { setting = ap setting_of runner; most = most },
  record {
    runs = subst (RunsAt after.word.items) (sym runner) (record { is = record { given = h.is.given; about = h.is.about }; here = λ near. absurd (never near) });
    is_at =
        subst (λ (r : Runner). IsAt (setting_of r) after.most after.word.items after.spots.items after.spot after.next after.states (found_in after)) (sym runner)
        (subst (λ (n : ℕ). IsAt (setting_in search) n after.word.items after.spots.items after.spot after.next after.states (found_in after)) (sym most)
        (subst (λ (w : List Turn). IsAt (setting_in search) search.most w after.spots.items after.spot after.next after.states (found_in after)) (ap (λ w. w.items) (sym word))
        (subst (λ (n : Option Turn). IsAt (setting_in search) search.most search.word.items after.spots.items after.spot n after.states (found_in after)) (sym next)
        (subst (λ (s : States). IsAt (setting_in search) search.most search.word.items after.spots.items after.spot (following turn.only_deliver turn.side) s (found_in after)) (sym states)
        (subst (λ f. IsAt (setting_in search) search.most search.word.items after.spots.items after.spot (following turn.only_deliver turn.side) search.states (map way_seen f.ways.items)) (sym found)
        (at-back (setting_in search) search.most search.word.items turn search.spots.items after.spots.items after.spot search.spot search.states (found_in search) h.is_at spots))))));
    whole = ap (λ f. f.whole) found ∙ h.whole;
  },
)
  where
    never : true ≡ false → ⊥
    never e = cc

-- going back leaves less to do
-- A run of a search: it goes on, or it is finished

abbrev pub RunsSo : Search → Bool → Search → Type 0
RunsSo begun true now = AreLike begun now × IsSearching now
RunsSo begun false now = AreLike begun now × IsFinished now

-- The beginning

pub begins-new : (search : Search) → RunsAt [] search.runner → search.runner.world.state ≡ beginning_of (setting_in search) → search.word.items ≡ [] → search.spots.items ≡ [] → search.states.met.keys ≡ [] → search.states.histories.choices.keys ≡ [] → IsApart search.states.histories
    → search.found.ways.items ≡ [] → search.found.whole ≡ true → search.spot.key ≡ record { parent = 0; child = 0 } → ((side : Side) → AreOptionsAt search.runner.world side (options_in side search.spot)) → IsArriving search
begins-new search runs begins word spots none empty apart found whole key options = record {
  runs = subst (λ (w : List Turn). RunsAt w search.runner) (sym word) runs;
  is_new =
      new-so refl refl (sym word) (sym spots) (ap (map way_seen) (sym found))
      (new-begin (setting_in search) search.most search.spot search.states none apart (record {
        key = subst (λ (k : StateKey). IsKeyOf search.states.histories.choices.keys k (beginning_of (setting_in search))) (sym key) (record { numbers = numbers });
        options = λ side. subst (λ (w : WorldView). AreOptionsAt w side (options_in side search.spot)) world_is (options side);
      }));
  whole = whole;
}
  where
    world_is : search.runner.world ≡ record { setting = setting_in search; state = beginning_of (setting_in search) }
    world_is = ap (λ (s : Setting). record { setting = s; state = search.runner.world.state }) runs.is.about ∙ ap (λ (s : RunState). record { setting = setting_in search; state = s }) begins

    numbers : (side : Side) → IsListOf search.states.histories.choices.keys (number_of side (record { parent = 0; child = 0 })) (choices_by side (choices_of (beginning_of (setting_in search)).lines))
    numbers sides.Parent = Rattle.explorer.specs.Numbering.begins 0 [] refl refl
    numbers sides.Child = Rattle.explorer.specs.Numbering.begins 0 [] refl refl
