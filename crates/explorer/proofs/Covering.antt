-- How the words that a search has found grow.
use Rattle.std.proofs.Common.{◌≡◌, ◌⊎◌, inl, inr, ℕ, suc, ◌+◌, ◌<◌, Bool, true, false, List, [], ◌∷◌, ◌++◌, length, get_or, Option, Some, None, refl, sym, ap, subst, ◌∙◌, append_assoc, length-append, arith}
use Rattle.std.specs.Prelude.{Contains}
use Rattle.std.proofs.lemmas.List.Elements.{All-contains_itself, All-weaker, Contains-append_left, Contains-get_or, Contains-push, Contains-push_cases, recursion_from_All}
use Rattle.std.proofs.lemmas.List.Quantifiers.{all_pairs_push}
use Rattle.handler_script.specs.Valid.{IsValid}
use Rattle.ipdl_base.specs.declared.kinds.Side.{Side}
use Rattle.ipdl_base.specs.declared.kinds.Side.TheVariants as sides
use Rattle.ipdl_base.specs.Sound.{IsSound}
use Rattle.channel_model.specs.Runs.{RunState}
use Rattle.schedules.specs.declared.turn.Turn.{Turn}
use Rattle.script_runs.specs.Laws.{HasLimit}
use Rattle.script_steps.specs.Choices.{Setting, beginning_of}
use Rattle.script_steps.specs.Progress.{lines_of}
use Rattle.script_steps.specs.Turns.{leads, idles, exceeds, outcome}
use Rattle.explorations.specs.Explorations.{AreFirstWords, IsCovered, IsFirst}
use Rattle.explorations.specs.Laws.{AlikeWordsAreAsLong, FuturesAreAlike, LeadsAlike}
use Rattle.explorations.proofs.Alike.{alike_back, alike_itself, alike_on}
use Rattle.explorations.proofs.Order.{none_before_empty, transitive}
use Rattle.explorations.specs.Words.{AreAlike, Point, Precedes, place_in_order, rank, reached}
use Rattle.explorer.proofs.Places.{GoesOn, back-before, before-back, before-earlier, before-longer, before-more, before-next, before-precedes, before-shorter, before-zero, precedes-before, zero-before}
use Rattle.explorer.proofs.Points.{IsSpentAfter, at_spent, at_state, goes-alike, goes-nowhere, goes-on, goes-spent, none-after-spent, point-same, spent-last}
use Rattle.explorer.specs.Places.{IsBefore}
use Rattle.explorer.specs.Searched.{HasCovered}

-- What is covered

covered-alike : (setting : Setting) (words : List (List Turn)) (point other : Point) → AreAlike point other → IsCovered setting words point → IsCovered setting words other
covered-alike setting words point other h c = record { word = c.word; listed = c.listed; same = c.same; leads = c.leads; alike = alike_on c.same point other c.alike h }

covered-pushed : (setting : Setting) (words : List (List Turn)) (last : List Turn) (point : Point) → IsCovered setting words point → IsCovered setting (words ++ last ∷ []) point
covered-pushed setting words last point c = record { word = c.word; listed = Contains-append_left words (last ∷ []) c.word c.listed; same = c.same; leads = c.leads; alike = c.alike }

module _ (setting : Setting) where
  -- At the beginning no word was found.
  pub covered-start : HasCovered setting (λ word. Precedes word []) []
  covered-start = record {
    ordered = λ i j d less within. absurd (omega arith);
    each = λ word c. absurd (omega (arith, c.1));
    inside = λ word c. absurd (omega (arith, c.1));
    covers = λ word point h leads. absurd (none_before_empty word h);
  }

  -- The words cover a greater set, where what its further words lead to is covered.
  pub covered-more : (IsIn IsWithin : List Turn → Type 0) (words : List (List Turn)) → ((word : List Turn) → IsIn word → IsWithin word)
      → ((word : List Turn) (point : Point) → IsWithin word → reached setting word ≡ Some point → IsIn word ⊎ IsCovered setting words point) → HasCovered setting IsIn words → HasCovered setting IsWithin words
  covered-more IsIn IsWithin words up down h = record {
    ordered = h.ordered;
    each = h.each;
    inside = λ word c. up word (h.inside word c);
    covers = λ word point within leads_to. by word point leads_to (down word point within leads_to);
  }
    where
      by : (word : List Turn) (point : Point) → reached setting word ≡ Some point → IsIn word ⊎ IsCovered setting words point → IsCovered setting words point
      by word point leads_to (inl k) = h.covers word point k leads_to
      by word point leads_to (inr k) = k

  -- One first word more
  module _ (words : List (List Turn)) (word : List Turn) (point : Point) (h : HasCovered setting (λ one. Precedes one word) words) (leads_to : reached setting word ≡ Some point)
      (is_new : (one : List Turn) (same : Point) → Contains words one → reached setting one ≡ Some same → AreAlike same point → ⊥) where
    new-first : IsFirst setting word
    new-first = record {
      point = point;
      leads = leads_to;
      first = λ one same there alike precedes.
          let c = h.covers one same precedes there in
          is_new c.word c.same c.listed c.leads (alike_on c.same same point c.alike (alike_back point same alike));
    }

    pub covered-append : HasCovered setting (λ one. Precedes one word ⊎ (one ≡ word)) (words ++ word ∷ [])
    covered-append = record {
      ordered = all_pairs_push Precedes words word h.ordered (λ k d within. h.inside (get_or words k d) (Contains-get_or words k d within));
      each = λ one c. each-by one (Contains-push_cases words word one c);
      inside = λ one c. inside-by one (Contains-push_cases words word one c);
      covers = covers-by;
    }
      where
        each-by : (one : List Turn) → Contains words one ⊎ (word ≡ one) → IsFirst setting one
        each-by one (inl c) = h.each one c
        each-by one (inr e) = subst (IsFirst setting) e new-first

        inside-by : (one : List Turn) → Contains words one ⊎ (word ≡ one) → Precedes one word ⊎ (one ≡ word)
        inside-by one (inl c) = inl (h.inside one c)
        inside-by one (inr e) = inr (sym e)

        covers-by : (one : List Turn) (same : Point) → Precedes one word ⊎ (one ≡ word) → reached setting one ≡ Some same → IsCovered setting (words ++ word ∷ []) same
        covers-by one same (inl k) there = covered-pushed setting words word same (h.covers one same k there)
        covers-by one same (inr e) there = record {
          word = word;
          listed = Contains-push words word;
          same = point;
          leads = leads_to;
          alike = subst (AreAlike point) (point-same (sym leads_to ∙ ap (reached setting) (sym e) ∙ there)) (alike_itself point);
        }

  -- Words that cover a set, which has what precedes each of its words, are first words up to each of them.
  pub first-words : (IsIn : List Turn → Type 0) (words : List (List Turn)) → ((one other : List Turn) → Precedes one other → IsIn other → IsIn one) → HasCovered setting IsIn words → AreFirstWords setting words
  first-words IsIn words earlier h = record {
    ordered = h.ordered;
    each = recursion_from_All (IsFirst setting) words (All-weaker (Contains words) (IsFirst setting) h.each words (All-contains_itself words));
    none_left_out = λ later word point c precedes there. h.covers word point (earlier word later precedes (h.inside later c)) there;
  }

  pub first-words-to : (word : List Turn) (words : List (List Turn)) → HasCovered setting (λ one. Precedes one word) words → AreFirstWords setting words
  first-words-to word words h = first-words (λ one. Precedes one word) words (λ one other precedes k. transitive one other word precedes k) h

  pub first-words-before : (word : List Turn) (next : ℕ) (words : List (List Turn)) → HasCovered setting (IsBefore word next) words → AreFirstWords setting words
  first-words-before word next words h = first-words (IsBefore word next) words (λ one other precedes k. before-earlier word next one other precedes k) h

-- what precedes a word, and the word itself, come before its first letter
pub covered-up-to : (setting : Setting) (word : List Turn) (words : List (List Turn)) → HasCovered setting (λ one. Precedes one word ⊎ (one ≡ word)) words → HasCovered setting (IsBefore word 0) words
covered-up-to setting word words h =
    covered-more setting (λ one. Precedes one word ⊎ (one ≡ word)) (IsBefore word 0) words (λ one k. zero-before word one k) (λ one point k there. inl (before-zero word one k)) h

-- Letters at a state

before-letter : (word : List Turn) (turn : Turn) (next : ℕ) (more : List Turn) → rank turn < next → IsBefore word next (word ++ turn ∷ more)
before-letter [] turn next more h = h
before-letter (y ∷ word) turn next more h = inr (refl, before-letter word turn next more h)

module _ (setting : Setting) (words : List (List Turn)) (word : List Turn) (turn : Turn) (state : RunState) (h : HasCovered setting (IsBefore word (rank turn)) words) (leads_there : reached setting word ≡ Some (at_state state)) where
  -- the next letter, where what follows this one is covered
  next-covered : ((more : List Turn) (point : Point) → reached setting (word ++ turn ∷ more) ≡ Some point → IsCovered setting words point) → HasCovered setting (IsBefore word (rank turn + 1)) words
  next-covered following =
      covered-more setting (IsBefore word (rank turn)) (IsBefore word (rank turn + 1)) words (λ one k. before-more word (rank turn) (rank turn + 1) one (omega arith) k)
      (λ one point k there. by one point there (before-next word turn one k)) h
    where
      by : (one : List Turn) (point : Point) → reached setting one ≡ Some point → IsBefore word (rank turn) one ⊎ GoesOn word turn one → IsBefore word (rank turn) one ⊎ IsCovered setting words point
      by one point there (inl k) = inl k
      by one point there (inr k) = inr (following k.0 point (ap (reached setting) (sym k.1) ∙ there))

  -- a letter that does nothing
  pub next-idle : outcome setting turn state ≡ idles → HasCovered setting (IsBefore word (rank turn + 1)) words
  next-idle idle = next-covered (λ more point there. absurd (none more point there))
    where
      none : (more : List Turn) (point : Point) → reached setting (word ++ turn ∷ more) ≡ Some point → ⊥
      none more point there = let e : None ≡ Some point = sym (goes-nowhere setting word turn state leads_there more idle) ∙ there in cc

  -- a letter that does what an earlier one does
  pub next-same : (letter : Turn) (next : RunState) → rank letter < rank turn → outcome setting turn state ≡ leads next → outcome setting letter state ≡ leads next → HasCovered setting (IsBefore word (rank turn + 1)) words
  next-same letter next less does other = next-covered (λ more point there.
      h.covers (word ++ letter ∷ more) point (before-letter word letter (rank turn) more less) (sym (goes-alike setting word turn state leads_there letter more next does other) ∙ there))

  -- a letter of a spent side, where an earlier one is of that side
  pub next-spent-too : (letter : Turn) → rank letter < rank turn → letter.side ≡ turn.side → outcome setting turn state ≡ exceeds → outcome setting letter state ≡ exceeds → HasCovered setting (IsBefore word (rank turn + 1)) words
  next-spent-too letter less side does other = next-covered by
    where
      by : (more : List Turn) (point : Point) → reached setting (word ++ turn ∷ more) ≡ Some point → IsCovered setting words point
      by [] point there =
          h.covers (word ++ letter ∷ []) point (before-letter word letter (rank turn) [] less)
          (goes-spent setting word letter state leads_there other ∙ ap (λ (s : Side). Some (at_spent state s)) side ∙ sym (goes-spent setting word turn state leads_there does) ∙ there)
      by (x ∷ more) point there = let e : None ≡ Some point = sym (none-after-spent setting word turn state leads_there x more does) ∙ there in cc

  -- a letter to a state like that of a word which was found
  pub next-met : FuturesAreAlike → AlikeWordsAreAsLong → IsSound setting.schema → IsValid setting.schema setting.script → HasLimit setting
      → (next same : RunState) (found : List Turn) → outcome setting turn state ≡ leads next → Contains words found → reached setting found ≡ Some (at_state same)
      → ((side : Side) → lines_of side next.lines ≡ lines_of side same.lines) → HasCovered setting (IsBefore word (rank turn + 1)) words
  next-met futures long sound valid limit next same found does listed there lines = next-covered by
    where
      entered : reached setting (word ++ turn ∷ []) ≡ Some (at_state next)
      entered = goes-on setting word turn state leads_there next does

      size : length found ≡ suc (length word)
      size =
          let e = long setting (word ++ turn ∷ []) found (at_state next) (at_state same) sound valid limit entered there (record { lines = lines; spent = refl }) in
          let n = length-append word (turn ∷ []) in
          omega (arith, e, n)

      by : (more : List Turn) (point : Point) → reached setting (word ++ turn ∷ more) ≡ Some point → IsCovered setting words point
      by more point k =
          let a : LeadsAlike setting (found ++ more) point = futures setting (word ++ turn ∷ []) found more next same point sound valid limit entered there lines (ap (reached setting) (append_assoc word (turn ∷ []) more) ∙ k) in
          covered-alike setting words a.same point (alike_back point a.same a.alike)
          (h.covers (found ++ more) a.same (before-longer word (rank turn) found more (h.inside found listed) size) a.leads)

  up-to : HasCovered setting (λ one. Precedes one (word ++ turn ∷ [])) words
  up-to =
      covered-more setting (IsBefore word (rank turn)) (λ one. Precedes one (word ++ turn ∷ [])) words (λ one k. before-precedes word turn one k)
      (λ one point k there. inl (precedes-before word turn one k)) h

  -- a letter to a point that was not met: one first word more, and the place after it
  module _ (point : Point) (there : reached setting (word ++ turn ∷ []) ≡ Some point) (is_new : (one : List Turn) (same : Point) → Contains words one → reached setting one ≡ Some same → AreAlike same point → ⊥) where
    appended : HasCovered setting (λ one. Precedes one (word ++ turn ∷ []) ⊎ (one ≡ word ++ turn ∷ [])) (words ++ (word ++ turn ∷ []) ∷ [])
    appended = covered-append setting words (word ++ turn ∷ []) point up-to there is_new

    pub spent-covered : outcome setting turn state ≡ exceeds → HasCovered setting (IsBefore word (rank turn + 1)) (words ++ (word ++ turn ∷ []) ∷ [])
    spent-covered does =
        covered-more setting (λ one. Precedes one (word ++ turn ∷ []) ⊎ (one ≡ word ++ turn ∷ [])) (IsBefore word (rank turn + 1)) (words ++ (word ++ turn ∷ []) ∷ []) up
        (λ one same k leads_to. inl (down one same leads_to (before-next word turn one k))) appended
      where
        up : (one : List Turn) → Precedes one (word ++ turn ∷ []) ⊎ (one ≡ word ++ turn ∷ []) → IsBefore word (rank turn + 1) one
        up one (inl k) = before-more word (rank turn) (rank turn + 1) one (omega arith) (precedes-before word turn one k)
        up one (inr e) = subst (IsBefore word (rank turn + 1)) (sym e) (before-letter word turn (rank turn + 1) [] (omega arith))

        ends-so : (one more : List Turn) (same : Point) → one ≡ word ++ turn ∷ more → reached setting one ≡ Some same → one ≡ word ++ turn ∷ []
        ends-so one [] same e leads_to = e
        ends-so one (x ∷ more) same e leads_to = let n : None ≡ Some same = sym (none-after-spent setting word turn state leads_there x more does) ∙ ap (reached setting) (sym e) ∙ leads_to in cc

        down : (one : List Turn) (same : Point) → reached setting one ≡ Some same → IsBefore word (rank turn) one ⊎ GoesOn word turn one → Precedes one (word ++ turn ∷ []) ⊎ (one ≡ word ++ turn ∷ [])
        down one same leads_to (inl k) = inl (before-precedes word turn one k)
        down one same leads_to (inr k) = inr (ends-so one k.0 same k.1 leads_to)

    pub entered-first : AreFirstWords setting (words ++ (word ++ turn ∷ []) ∷ [])
    entered-first = first-words-before setting (word ++ turn ∷ []) 0 (words ++ (word ++ turn ∷ []) ∷ []) (covered-up-to setting (word ++ turn ∷ []) (words ++ (word ++ turn ∷ []) ∷ []) appended)

  -- No word that was found leads to a point like a spent one.
  not-less : (b : Bool) (side : Side) → place_in_order b side < place_in_order false side → ⊥
  not-less false side k = absurd (omega arith)
  not-less true sides.Parent k = absurd (omega arith)
  not-less true sides.Child k = absurd (omega arith)

  pub spent-new : AlikeWordsAreAsLong → IsSound setting.schema → IsValid setting.schema setting.script → HasLimit setting → turn.only_deliver ≡ false → Contains words word
      → (one : List Turn) (same : Point) → Contains words one → reached setting one ≡ Some same → AreAlike same (at_spent state turn.side) → ⊥
  spent-new long sound valid limit whole listed one same c there alike =
      let last : IsSpentAfter setting (beginning_of setting) one same.state turn.side = spent-last setting one same.state turn.side (there ∙ ap (λ (s : Option Side). Some (record { state = same.state; spent = s })) alike.spent) in
      let f = h.each word listed in
      let at : f.point ≡ at_state state = point-same (sym f.leads ∙ leads_there) in
      let like : AreAlike (at_state state) (at_state same.state) = record { lines = λ side. sym (alike.lines side); spent = refl } in
      let size = long setting last.first word (at_state same.state) (at_state state) sound valid limit last.before leads_there (alike_back (at_state state) (at_state same.state) like) in
      by last (f.first last.first (at_state same.state) last.before (subst (λ (p : Point). AreAlike p (at_state same.state)) (sym at) like))
      (before-shorter word (rank turn) last.first last.turn (subst (IsBefore word (rank turn)) last.word_is (h.inside one c)) size)
    where
      by : (last : IsSpentAfter setting (beginning_of setting) one same.state turn.side) → (Precedes last.first word → ⊥) → Precedes last.first word ⊎ ((last.first ≡ word) × (rank last.turn < rank turn)) → ⊥
      by last none (inl k) = none k
      by last none (inr k) =
          let r : rank turn ≡ place_in_order false turn.side = ap (λ (b : Bool). place_in_order b turn.side) whole in
          let s : rank last.turn ≡ place_in_order last.turn.only_deliver turn.side = ap (place_in_order last.turn.only_deliver) last.side_is in
          not-less last.turn.only_deliver turn.side (subst (λ (n : ℕ). place_in_order last.turn.only_deliver turn.side < n) r (subst (λ (n : ℕ). n < rank turn) s k.1))

-- One letter back
pub back-covered : (setting : Setting) (words : List (List Turn)) (word : List Turn) (turn : Turn) → HasCovered setting (IsBefore (word ++ turn ∷ []) 4) words → HasCovered setting (IsBefore word (rank turn + 1)) words
back-covered setting words word turn h =
    covered-more setting (IsBefore (word ++ turn ∷ []) 4) (IsBefore word (rank turn + 1)) words (λ one k. back-before word turn one k) (λ one point k there. inl (before-back word turn one k)) h
