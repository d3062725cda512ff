-- The sides are split, and joined for good.
use Rattle.std.proofs.Common.{◌≡◌, ◌≢◌, ◌∙◌, ℕ, List, [], ◌∷◌, ◌++◌, inl, inr, sym, refl, ap, subst, true, false, true≢false, Option, Some}
use mathlib.Core.Option.{some, some-injective}
use lib.ListN.{get_elem?, set}
use Rattle.atomic_table.proofs.Lists.{at_set, at_longer, set_else}
use Rattle.atomic_table.specs.Table.{Final, Joins, Me, Seen, Splits, State}
use Rattle.ipdl_base.specs.declared.kinds.Side.{Side}
use Rattle.ipdl_base.specs.declared.kinds.Side.TheVariants as sides
use Rattle.script_steps.specs.Choices.{Setting}
use Rattle.thread_link.proofs.RuleSteps.{single-set}
use Rattle.thread_link.proofs.Views.{at-end, clash, each-push, each-set}
use Rattle.thread_link.specs.declared.parts.SeatView.{SeatView}
use Rattle.thread_link.specs.declared.parts.SharedLink.{SharedLink}
use Rattle.thread_link.specs.Fronts.{HasSeen}
use Rattle.thread_link.specs.LinkRule.{AreApart, HasLink, IsLawful, has, number_of, seen_by}
use Rattle.thread_link.specs.Seats.{IsOf}
use Rattle.thread_link.specs.Steps.{child_part, parent_part, spent_view, whole_view}
use Rattle.world_core.specs.declared.link.Link.{Link}
use Rattle.world_core.specs.Halves.{IsHome}

-- the slot of a state that differs from another only in its views
same-slot : (setting : Setting) (s t : State (Option SharedLink) SeatView) (law : IsLawful setting s) → t.homes ≡ s.homes → law.holder ≡ 0 → HasLink setting t law.all
same-slot setting s t law homes e =
    let there = law.free e in
    record { shared = there.shared; lies = ap (λ (hs : List (mathlib.Core.Option.Option (Option SharedLink))). get_elem? hs 0) homes ∙ there.lies; lines = there.lines; home = there.home }

-- the child's side goes to a new seat
pub parts : (setting : Setting) (id : ℕ) (v : SeatView) → v.holds ≡ false → Splits (IsLawful setting) id v (parent_part v) (child_part v)
parts setting id v idle s law at = record {
  all = law.all;
  holder = law.holder;
  size = law.size;
  word = law.word;
  range = law.range;
  free = same-slot setting s (record { words = s.words; homes = s.homes; views = set s.views id (parent_part v) ++ child_part v ∷ [] }) law refl;
  seen = λ d. each-push (λ (u : SeatView). has d u ≡ true → HasSeen d (seen_by d u) law.all) (set s.views id (parent_part v)) (child_part v) (seen' d)
      (each-set (λ (u : SeatView). has d u ≡ true → HasSeen d (seen_by d u) law.all) s.views id (parent_part v) (seen d) (λ j u _ there. law.seen d j u there));
  about = λ d. each-push (λ (u : SeatView). has d u ≡ true → u.setting ≡ setting) (set s.views id (parent_part v)) (child_part v) (about' d)
      (each-set (λ (u : SeatView). has d u ≡ true → u.setting ≡ setting) s.views id (parent_part v) (about d) (λ j u _ there. law.about d j u there));
  apart = apart;
  holders = λ d. each-push (λ (u : SeatView). has d u ≡ true → u.holds ≡ true → (law.holder ≡ number_of d) × (seen_by d u ≡ law.all)) (set s.views id (parent_part v)) (child_part v) (λ _ h. absurd (true≢false (sym h)))
      (each-set (λ (u : SeatView). has d u ≡ true → u.holds ≡ true → (law.holder ≡ number_of d) × (seen_by d u ≡ law.all)) s.views id (parent_part v) (λ _ h. absurd (true≢false (sym h))) (λ j u _ there. law.holders d j u there));
  held = λ d e. let by = law.held d e in (
    by.0,
    by.1,
    at_longer (set s.views id (parent_part v)) (child_part v ∷ []) by.0 by.1
        (set_else s.views id by.0 (parent_part v) (λ k. clash by.4 (ap (λ (u : SeatView). u.holds) (some-injective by.1 v (sym by.2 ∙ ap (get_elem? s.views) k ∙ at)) ∙ idle)) ∙ by.2),
    by.3,
    by.4,
  );
}
  where
    seen : (d : Side) → has d (parent_part v) ≡ true → HasSeen d (seen_by d (parent_part v)) law.all
    seen sides.Child h = absurd (true≢false (sym h))
    seen sides.Parent h = law.seen sides.Parent id v at h

    seen' : (d : Side) → has d (child_part v) ≡ true → HasSeen d (seen_by d (child_part v)) law.all
    seen' sides.Child h = law.seen sides.Child id v at h
    seen' sides.Parent h = absurd (true≢false (sym h))

    about : (d : Side) → has d (parent_part v) ≡ true → v.setting ≡ setting
    about sides.Child h = absurd (true≢false (sym h))
    about sides.Parent h = law.about sides.Parent id v at h

    about' : (d : Side) → has d (child_part v) ≡ true → v.setting ≡ setting
    about' sides.Child h = law.about sides.Child id v at h
    about' sides.Parent h = absurd (true≢false (sym h))

    -- the view that was there in place of each
    apart : AreApart (set s.views id (parent_part v) ++ child_part v ∷ [])
    apart sides.Parent i j a b at_i at_j is_a is_b =
        elim (at-end (set s.views id (parent_part v)) (child_part v) a i at_i) [
          | inl x ↦ elim (at-end (set s.views id (parent_part v)) (child_part v) b j at_j) [
            | inl y ↦ single-set sides.Parent s.views id v (parent_part v) at (λ h. h) (law.apart sides.Parent) i j a b x y is_a is_b
            | inr y ↦ absurd (clash is_b (ap (has sides.Parent) (sym y.1)))
          ]
          | inr x ↦ absurd (clash is_a (ap (has sides.Parent) (sym x.1)))
        ]
    apart sides.Child i j a b at_i at_j is_a is_b =
        elim (at-end (set s.views id (parent_part v)) (child_part v) a i at_i) [
          | inl x ↦ elim (at-end (set s.views id (parent_part v)) (child_part v) b j at_j) [
            | inl y ↦ single-set sides.Child s.views id v (parent_part v) at (λ t. absurd (true≢false (sym t))) (law.apart sides.Child) i j a b x y is_a is_b
            | inr y ↦ absurd (gone i a x is_a (ap (has sides.Child) y.1 ∙ is_b))
          ]
          | inr x ↦ elim (at-end (set s.views id (parent_part v)) (child_part v) b j at_j) [
            | inl y ↦ absurd (gone j b y is_b (ap (has sides.Child) x.1 ∙ is_a))
            | inr y ↦ x.0 ∙ sym y.0
          ]
        ]
      where
        gone : (k : ℕ) (u : SeatView) → get_elem? (set s.views id (parent_part v)) k ≡ some u → has sides.Child u ≡ true → v.child ≡ true → ⊥
        gone k u there is new =
            elim (at_set s.views id k (parent_part v) u there) [ inl h ↦ clash is (ap (has sides.Child) (sym h.1)) | inr h ↦ h.0 (law.apart sides.Child k id u v h.1 at is new) ]

-- both sides are joined
pub wholes : (setting : Setting) (id : ℕ) (v : SeatView) (place : ℕ) (w : SeatView) → IsOf sides.Parent v → IsOf sides.Child w → v.holds ≡ false → w.holds ≡ false → Joins (IsLawful setting) id v place w (whole_view v w) spent_view
wholes setting id v place w is is' idle idle' s law at far there = record {
  all = law.all;
  holder = law.holder;
  size = law.size;
  word = law.word;
  range = law.range;
  free = same-slot setting s (record { words = s.words; homes = s.homes; views = set (set s.views id (whole_view v w)) place spent_view }) law refl;
  seen = λ d. each (λ (u : SeatView). has d u ≡ true → HasSeen d (seen_by d u) law.all) (λ h. absurd (nobody d h)) (λ _. seen d) (λ j u _ _ was. law.seen d j u was);
  about = λ d. each (λ (u : SeatView). has d u ≡ true → u.setting ≡ setting) (λ h. absurd (nobody d h)) (λ _. law.about sides.Parent id v at is.0) (λ j u _ _ was. law.about d j u was);
  apart = λ d i j a b at_i at_j is_a is_b. here d i a at_i is_a ∙ sym (here d j b at_j is_b);
  holders = λ d. each (λ (u : SeatView). has d u ≡ true → u.holds ≡ true → (law.holder ≡ number_of d) × (seen_by d u ≡ law.all)) (λ h. absurd (nobody d h)) (λ _ h. absurd (true≢false (sym h))) (λ j u _ _ was. law.holders d j u was);
  held = λ d e. let by = law.held d e in (
    by.0,
    by.1,
    set_else (set s.views id (whole_view v w)) place by.0 spent_view (λ k. clash by.4 (ap (λ (u : SeatView). u.holds) (some-injective by.1 w (sym by.2 ∙ ap (get_elem? s.views) k ∙ before)) ∙ idle'))
        ∙ (set_else s.views id by.0 (whole_view v w) (λ k. clash by.4 (ap (λ (u : SeatView). u.holds) (some-injective by.1 v (sym by.2 ∙ ap (get_elem? s.views) k ∙ at)) ∙ idle)) ∙ by.2),
    by.3,
    by.4,
  );
}
  where
    before : get_elem? s.views place ≡ some w
    before = sym (set_else s.views id place (whole_view v w) far) ∙ there

    nobody : (d : Side) → has d spent_view ≡ true → ⊥
    nobody sides.Parent h = true≢false (sym h)
    nobody sides.Child h = true≢false (sym h)

    seen : (d : Side) → HasSeen d (seen_by d (whole_view v w)) law.all
    seen sides.Child = law.seen sides.Child place w before is'.0
    seen sides.Parent = law.seen sides.Parent id v at is.0

    each : (P : SeatView → Type 0) → P spent_view → P (whole_view v w) → ((j : ℕ) (u : SeatView) → j ≢ place → j ≢ id → get_elem? s.views j ≡ some u → P u)
        → (j : ℕ) (u : SeatView) → get_elem? (set (set s.views id (whole_view v w)) place spent_view) j ≡ some u → P u
    each P none new old =
        each-set P (set s.views id (whole_view v w)) place spent_view none (λ j u apart at_j. elim (at_set s.views id j (whole_view v w) u at_j) [ inl h ↦ subst P h.1 new | inr h ↦ old j u apart h.0 h.1 ])

    -- the view that has a side then is the joined one
    here : (d : Side) (j : ℕ) (u : SeatView) → get_elem? (set (set s.views id (whole_view v w)) place spent_view) j ≡ some u → has d u ≡ true → j ≡ id
    here d j u a h = elim (at_set (set s.views id (whole_view v w)) place j spent_view u a) [
      | inl x ↦ absurd (nobody d (ap (has d) x.1 ∙ h))
      | inr x ↦ elim (at_set s.views id j (whole_view v w) u x.1) [ inl k ↦ k.0 | inr k ↦ absurd (strange d k.0 x.0 k.1 h) ]
    ]
      where
        strange : (d : Side) → j ≢ id → j ≢ place → get_elem? s.views j ≡ some u → has d u ≡ true → ⊥
        strange sides.Child apart near was h = near (law.apart sides.Child j place u w was before h is'.0)
        strange sides.Parent apart near was h = apart (law.apart sides.Parent j id u v was at h is.0)

-- What is in the slot at the end: a link that is at home in the run, of which each side has seen a prefix.
pub record IsEnd (setting : Setting) (v w : SeatView) (link : Link) : Type 0 where
  pub home : IsHome setting link
  pub parent_seen : HasSeen sides.Parent v.parent_seen link.lines
  pub child_seen : HasSeen sides.Child w.child_seen link.lines

ends : (setting : Setting) (id : ℕ) (v w : SeatView) (words : List ℕ) (slots : List (Option SharedLink)) → Final (Seen (IsLawful setting) id (whole_view v w)) words slots
    → (l : SharedLink) × (get_elem? slots 0 ≡ some (Some l)) × IsEnd setting v w l.link
ends setting id v w words slots end =
    let s = end.0 in
    let law : IsLawful setting s = end.1.0 in
    let at = end.1.1 in
    let free : law.holder ≡ 0 = elim law.range [ inl e ↦ e | inr h ↦ absurd (idle law at h.0 (law.held h.0 h.1)) ] in
    let there : HasLink setting s law.all = law.free free in (
      there.shared,
      end.4 0 (Some there.shared) there.lies,
      record {
        home = there.home;
        parent_seen = subst (HasSeen sides.Parent v.parent_seen) (sym there.lines) (law.seen sides.Parent id (whole_view v w) at refl);
        child_seen = subst (HasSeen sides.Child w.child_seen) (sym there.lines) (law.seen sides.Child id (whole_view v w) at refl);
      },
    )
  where
    both : (d : Side) → has d (whole_view v w) ≡ true
    both sides.Parent = refl
    both sides.Child = refl

    idle : {s : State (Option SharedLink) SeatView} → (law : IsLawful setting s) → get_elem? s.views id ≡ some (whole_view v w) → (d : Side) → ((j : ℕ) × (u : SeatView) × (get_elem? s.views j ≡ some u) × (has d u ≡ true) × (u.holds ≡ true)) → ⊥
    idle {s} law at d by =
        let same : by.0 ≡ id = law.apart d by.0 id by.1 (whole_view v w) by.2 at by.3 (both d) in
        clash by.4 (ap (λ (u : SeatView). u.holds) (some-injective by.1 (whole_view v w) (sym by.2 ∙ ap (get_elem? s.views) same ∙ at)))

pub some-same : (a b : SharedLink) → ◌≡◌ {A = Option SharedLink} (Some a) (Some b) → a ≡ b
some-same a b e = cc

-- what is taken out of the slot at the end
pub closes : (setting : Setting) (id : ℕ) (v w : SeatView) (m : Me (Option SharedLink) SeatView) (words : List ℕ) (slots : List (Option SharedLink)) (taken : Option SharedLink) → m.0 ≡ whole_view v w → Final (Seen (IsLawful setting) id m.0) words slots
    → get_elem? slots 0 ≡ some taken → (l : SharedLink) × (taken ≡ Some l) × IsEnd setting v w l.link
closes setting id v w m words slots taken is end at =
    let e = ends setting id v w words slots (subst (λ (u : SeatView). Final (Seen (IsLawful setting) id u) words slots) is end) in
    (e.0, some-injective taken (Some e.0) (sym at ∙ e.1), e.2)

-- the same for a link that was found there
pub closed : (setting : Setting) (id : ℕ) (v w : SeatView) (m : Me (Option SharedLink) SeatView) (words : List ℕ) (slots : List (Option SharedLink)) (taken : Option SharedLink) (shared : SharedLink) (link : Link) → taken ≡ Some shared → link ≡ shared.link → m.0 ≡ whole_view v w
    → Final (Seen (IsLawful setting) id m.0) words slots → get_elem? slots 0 ≡ some taken → IsEnd setting v w link
closed setting id v w m words slots taken shared link found same is end at =
    let k = closes setting id v w m words slots taken is end at in
    let e : k.0.link ≡ link = ap (λ (x : SharedLink). x.link) (some-same k.0 shared (sym k.1 ∙ found)) ∙ sym same in
    subst (IsEnd setting v w) e k.2
