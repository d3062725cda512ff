-- Each step on the table keeps its rule.
use Rattle.std.proofs.Common.{◌≡◌, ◌≢◌, ◌∙◌, ℕ, ◌+◌, ◌*◌, ◌%◌, ◌^◌, List, [], ◌∷◌, ◌++◌, ◌⊎◌, Bool, get_or, eqb, inl, inr, sym, refl, ap, subst, arith, true, false, Option, Some, length, length-set, get_or-set_same, get_or-set_other}
use Rattle.std.proofs.lemmas.Bool.Decides.{eqb_tells}
use Rattle.std.proofs.lemmas.List.{set-get_or}
use mathlib.Core.Option.{some, some-injective}
use prog.Atomic.{either}
use lib.ListN.{get_elem?, set}
use Rattle.atomic_table.proofs.Lists.{at_set, set_again, set_here}
use Rattle.atomic_table.specs.Table.{Allows, Me, State, Step, gives, keeps, opening, takes}
use Rattle.ipdl_base.specs.Sides.{other}
use Rattle.ipdl_base.specs.declared.kinds.Side.{Side}
use Rattle.ipdl_base.specs.declared.kinds.Side.TheVariants as sides
use Rattle.ipdl_base.specs.declared.line.Line.{Line}
use Rattle.script_steps.specs.Choices.{Setting}
use Rattle.script_steps.specs.Progress.{lines_of}
use Rattle.thread_link.proofs.Fronts.{seen-all, seen-more}
use Rattle.thread_link.proofs.Views.{clash, each-set, only, written}
use Rattle.thread_link.specs.declared.parts.SeatView.{SeatView}
use Rattle.thread_link.specs.declared.parts.SharedLink.{SharedLink}
use Rattle.thread_link.specs.Fronts.{HasSeen}
use Rattle.thread_link.specs.LinkRule.{HasLink, IsLawful, has, number_of, seen_by}
use Rattle.thread_link.specs.Seats.{Adds, IsOf}
use Rattle.thread_link.specs.Steps.{HasTakenLink, Locked, Released, Unchanged, carried_lines, child_part, first_view, parent_part, side_of, spent_view, whole_view, with_seen}
use Rattle.world_core.specs.Halves.{IsHome}

abbrev state_with : List ℕ → List (mathlib.Core.Option.Option (Option SharedLink)) → List SeatView → State (Option SharedLink) SeatView
state_with words homes views = record { words = words; homes = homes; views = views }

-- Views of one side

has-seen : (holds : Bool) (side : Side) (d : Side) (lines : List Line) (v : SeatView) → has d (with_seen holds side lines v) ≡ has d v
has-seen holds sides.Parent sides.Parent lines v = refl
has-seen holds sides.Parent sides.Child lines v = refl
has-seen holds sides.Child sides.Parent lines v = refl
has-seen holds sides.Child sides.Child lines v = refl

pub seen-with : (holds : Bool) (side : Side) (lines : List Line) (v : SeatView) → seen_by side (with_seen holds side lines v) ≡ lines
seen-with holds sides.Parent lines v = refl
seen-with holds sides.Child lines v = refl

pub holds-with : (holds : Bool) (side : Side) (lines : List Line) (v : SeatView) → (with_seen holds side lines v).holds ≡ holds
holds-with holds sides.Parent lines v = refl
holds-with holds sides.Child lines v = refl

pub setting-with : (holds : Bool) (side : Side) (lines : List Line) (v : SeatView) → (with_seen holds side lines v).setting ≡ v.setting
setting-with holds sides.Parent lines v = refl
setting-with holds sides.Child lines v = refl

pub is-with : (holds : Bool) (side d : Side) (lines : List Line) (v : SeatView) → IsOf d v → IsOf d (with_seen holds side lines v)
is-with holds side d lines v is = (has-seen holds side d lines v ∙ is.0, has-seen holds side (other d) lines v ∙ is.1)

pub side-is : (side : Side) (v : SeatView) → IsOf side v → side_of v ≡ side
side-is sides.Parent v is = ap Rattle.thread_link.specs.Steps.side_by is.1
side-is sides.Child v is = ap Rattle.thread_link.specs.Steps.side_by is.0

-- a view of one side has no other
side-only : (side d : Side) (v : SeatView) → IsOf side v → has d v ≡ true → d ≡ side
side-only sides.Parent sides.Parent v is h = refl
side-only sides.Child sides.Child v is h = refl
side-only sides.Parent sides.Child v is h = absurd (clash h is.1)
side-only sides.Child sides.Parent v is h = absurd (clash h is.1)

numbered : (side : Side) → number_of side ≢ 0
numbered sides.Parent e = omega (arith, e)
numbered sides.Child e = omega (arith, e)

same-number : (side d : Side) → number_of side ≡ number_of d → d ≡ side
same-number sides.Parent sides.Parent e = refl
same-number sides.Child sides.Child e = refl
same-number sides.Parent sides.Child e = absurd (omega (arith, e))
same-number sides.Child sides.Parent e = absurd (omega (arith, e))

back : (d : Side) (views : List SeatView) (id : ℕ) (v w : SeatView) → get_elem? views id ≡ some v → (has d w ≡ true → has d v ≡ true) → (j : ℕ) (u : SeatView) → get_elem? (set views id w) j ≡ some u → has d u ≡ true
    → (x : SeatView) × (get_elem? views j ≡ some x) × (has d x ≡ true)
back d views id v w here ok j u at is =
    elim (at_set views id j w u at) [
      | inl h ↦ (v, subst (λ (k : ℕ). get_elem? views k ≡ some v) (sym h.0) here, ok (ap (has d) h.1 ∙ is))
      | inr h ↦ (u, h.1, is)
    ]

abbrev IsSingle : Side → List SeatView → Type 0
IsSingle d views = (i j : ℕ) (a b : SeatView) → get_elem? views i ≡ some a → get_elem? views j ≡ some b → has d a ≡ true → has d b ≡ true → i ≡ j

pub single-set : (d : Side) (views : List SeatView) (id : ℕ) (v w : SeatView) → get_elem? views id ≡ some v → (has d w ≡ true → has d v ≡ true) → IsSingle d views → IsSingle d (set views id w)
single-set d views id v w here ok all i j a b at_i at_j is_a is_b =
    let x = back d views id v w here ok i a at_i is_a in
    let y = back d views id v w here ok j b at_j is_b in
    all i j x.0 y.0 x.1 y.1 x.2 y.2

-- what is claimed of a new view of one side must hold only of that side
for-side : (side : Side) (v w : SeatView) (P : Side → Type 0) → IsOf side v → ((d : Side) → has d w ≡ has d v) → P side → (d : Side) → has d w ≡ true → P d
for-side side v w P is same p d h = subst P (sym (side-only side d v is (sym (same d) ∙ h))) p

free-number : (n m : ℕ) → (m ≡ 0) ⊎ ((side : Side) × (m ≡ number_of side)) → (4 * n + m) % 4 ≡ 0 → m ≡ 0
free-number n m range four = elim range [ inl e ↦ e | inr h ↦ absurd (odd h.0 h.1) ]
  where
    odd : (side : Side) → m ≡ number_of side → ⊥
    odd sides.Parent e = omega (arith, e, four)
    odd sides.Child e = omega (arith, e, four)

-- The opening

pub opens : (setting : Setting) (shared : SharedLink) (n : ℕ) → IsHome setting shared.link → n ≡ 4 * length shared.link.lines → IsLawful setting (opening (n ∷ 0 ∷ []) (Some shared ∷ []) (first_view setting shared.link.lines))
opens setting shared n home e =
    let first : SeatView = first_view setting shared.link.lines in
    record {
      all = shared.link.lines;
      holder = 0;
      size = refl;
      word = omega (arith, e);
      range = inl refl;
      seen = λ d id v at h. subst (λ (u : SeatView). HasSeen d (seen_by d u) shared.link.lines) (only first v id at).1 (seen d);
      about = λ d id v at h. ap (λ (u : SeatView). u.setting) (sym (only first v id at).1);
      apart = λ d i j v w at_i at_j a b. (only first v i at_i).0 ∙ sym (only first w j at_j).0;
      holders = λ d id v at h holds. absurd (clash holds (ap (λ (u : SeatView). u.holds) (sym (only first v id at).1)));
      held = λ d e. absurd (numbered d (sym e));
      free = λ _. record { shared = shared; lies = refl; lines = refl; home = home };
    }
  where
    seen : (d : Side) → HasSeen d (seen_by d (first_view setting shared.link.lines)) shared.link.lines
    seen sides.Parent = seen-all sides.Parent shared.link.lines
    seen sides.Child = seen-all sides.Child shared.link.lines

-- Taking and giving back

-- a view and a word that are written again
same-state : (s : State (Option SharedLink) SeatView) (id : ℕ) (v : SeatView) → get_elem? s.views id ≡ some v → state_with (set s.words 0 (get_or s.words 0 0)) s.homes (set s.views id v) ≡ s
same-state s id v at =
    let p = set-get_or s.words 0 0 in
    let q = set_again s.views id v at in
    λ k. record { words = p k; homes = s.homes; views = q k }

pub locks : (setting : Setting) (slots id : ℕ) (v : SeatView) (side : Side) (found : ℕ) (st : Step (Option SharedLink)) → st.first ≡ found → IsOf side v → found % 4 ≡ 0
    → Allows (IsLawful setting) slots id (v, []) 0 (λ n. either (eqb n found) (found + number_of side) n) (Locked st (v, []))
locks setting slots id v side found st first is four s law wide at fits =
    elim (eqb_tells (get_or s.words 0 0) found) [
      | inl hit ↦
          let free : law.holder ≡ 0 = free-number (length law.all) law.holder law.range (ap (λ (n : ℕ). n % 4) (sym law.word ∙ hit.1) ∙ four) in
          let there : HasLink setting s law.all = law.free free in
          let l : SharedLink = there.shared in
          let w : SeatView = with_seen true side l.link.lines v in
          let same : (d : Side) → has d w ≡ has d v = λ d. has-seen true side d l.link.lines v in
          let word : get_or (set s.words 0 (found + number_of side)) 0 0 ≡ 4 * length law.all + number_of side =
          get_or-set_same s.words 0 (found + number_of side) 0 (omega (arith, law.size)) ∙ omega (arith, law.word, hit.1, free) in (
            w,
            takes 0 (Some l),
            there.lies,
            rw hit.0 (record {
              all = law.all;
              holder = number_of side;
              size = length-set s.words 0 (found + number_of side) ∙ law.size;
              word = word;
              range = inr (side, refl);
              seen = λ d. each-set (λ (u : SeatView). has d u ≡ true → HasSeen d (seen_by d u) law.all) s.views id w
                  (for-side side v w (λ (k : Side). HasSeen k (seen_by k w) law.all) is same
                  (subst (λ (ls : List Line). HasSeen side ls law.all) (sym there.lines ∙ sym (seen-with true side l.link.lines v)) (seen-all side law.all)) d)
                  (λ j u _ there. law.seen d j u there);
              about = λ d. each-set (λ (u : SeatView). has d u ≡ true → u.setting ≡ setting) s.views id w
                  (λ h. setting-with true side l.link.lines v ∙ law.about d id v at (sym (same d) ∙ h))
                  (λ j u _ there. law.about d j u there);
              apart = λ d. single-set d s.views id v w at (λ h. sym (same d) ∙ h) (law.apart d);
              holders = λ d. each-set (λ (u : SeatView). has d u ≡ true → u.holds ≡ true → (number_of side ≡ number_of d) × (seen_by d u ≡ law.all)) s.views id w
                  (λ h _. for-side side v w (λ (k : Side). (number_of side ≡ number_of k) × (seen_by k w ≡ law.all)) is same (refl, seen-with true side l.link.lines v ∙ there.lines) d h)
                  (λ j u _ there h holds. absurd (numbered d (sym (law.holders d j u there h holds).0 ∙ free)));
              held = λ d e. (id, w, written s.views id v w at, same d ∙ subst (λ (k : Side). has k v ≡ true) (sym (same-number side d e)) is.0, holds-with true side l.link.lines v);
              free = λ e. absurd (numbered side e);
            }),
            (
              (λ _. subst (λ (d : Side). HasTakenLink d (v, []) (w, (0, Some l) ∷ [])) (sym (side-is side v is))
                  (record {
                    shared = l;
                    me = refl;
                    home = subst (λ (k : Setting). IsHome k l.link) (sym (law.about side id v at is.0)) there.home;
                    seen = subst (λ (ls : List Line). HasSeen side (seen_by side v) ls) (sym there.lines) (law.seen side id v at is.0);
                  })),
              λ ne. absurd (ne (hit.1 ∙ sym first)),
            ),
          )
      | inr miss ↦ (v, keeps, tt, rw miss.0 (subst (IsLawful setting) (sym (same-state s id v at)) law), ((λ e. absurd (miss.1 (e ∙ first))), λ _. refl))
    ]

pub releases : (setting : Setting) (id : ℕ) (v : SeatView) (side : Side) (l : SharedLink) (more : List (ℕ × Option SharedLink)) (m : Me (Option SharedLink) SeatView) (word : ℕ) (st : Step (Option SharedLink)) → m ≡ (v, (0, Some l) ∷ more) → v.holds ≡ true
    → IsOf side v → Adds side (seen_by side v) l.link.lines → IsHome v.setting l.link → word ≡ 4 * length l.link.lines → Allows (IsLawful setting) 1 id m 0 (λ _. word) (λ _. Released st m word)
releases setting id v side l more m word st e holds is adds home four =
    subst (λ (x : Me (Option SharedLink) SeatView). Allows (IsLawful setting) 1 id x 0 (λ _. word) (λ _. Released st x word)) (sym e) (λ s law wide at fits.
    let told = law.holders side id v at is.0 holds in
    let w : SeatView = with_seen false side l.link.lines v in
    let same : (d : Side) → has d w ≡ has d v = λ d. has-seen false side d l.link.lines v in
    let all : l.link.lines ≡ law.all ++ adds.more = adds.following ∙ ap (λ (ls : List Line). ls ++ adds.more) told.1 in (
      w,
      gives,
      tt,
      record {
        all = l.link.lines;
        holder = 0;
        size = length-set s.words 0 word ∙ law.size;
        word = get_or-set_same s.words 0 word 0 (omega (arith, law.size)) ∙ omega (arith, four);
        range = inl refl;
        seen = λ d. each-set (λ (u : SeatView). has d u ≡ true → HasSeen d (seen_by d u) l.link.lines) s.views id w
            (for-side side v w (λ (k : Side). HasSeen k (seen_by k w) l.link.lines) is same
            (subst (λ (ls : List Line). HasSeen side ls l.link.lines) (sym (seen-with false side l.link.lines v)) (seen-all side l.link.lines)) d)
            (λ j u far there h. subst (HasSeen d (seen_by d u)) (sym all)
            (seen-more d (seen_by d u) law.all adds.more (elsewhere side d u adds.own (λ k. far (law.apart side j id u v there at k is.0)) h) (law.seen d j u there h)));
        about = λ d. each-set (λ (u : SeatView). has d u ≡ true → u.setting ≡ setting) s.views id w
            (λ h. setting-with false side l.link.lines v ∙ law.about d id v at (sym (same d) ∙ h))
            (λ j u _ there. law.about d j u there);
        apart = λ d. single-set d s.views id v w at (λ h. sym (same d) ∙ h) (law.apart d);
        holders = λ d. each-set (λ (u : SeatView). has d u ≡ true → u.holds ≡ true → (0 ≡ number_of d) × (seen_by d u ≡ l.link.lines)) s.views id w
            (λ _ h. absurd (clash h (holds-with false side l.link.lines v)))
            (λ j u far there h held. absurd (far (law.apart side j id u v there at (subst (λ (k : Side). has k u ≡ true) (sym (same-number d side (sym (law.holders d j u there h held).0 ∙ told.0))) h) is.0)));
        held = λ d z. absurd (numbered d (sym z));
        free = λ _. record { shared = l; lies = set_here s.homes 0 (some (Some l)) (omega (arith, wide)); lines = refl; home = subst (λ (k : Setting). IsHome k l.link) (law.about side id v at is.0) home };
      },
      subst (λ (d : Side). Released st (v, (0, Some l) ∷ more) word (with_seen false d l.link.lines v, more)) (side-is side v is) refl,
    ))
  where
    -- another view is of the other side, to which the new lines do not belong
    elsewhere : (side d : Side) (u : SeatView) → lines_of (other side) adds.more ≡ [] → (has side u ≡ true → ⊥) → has d u ≡ true → lines_of d adds.more ≡ []
    elsewhere sides.Parent sides.Parent u own not h = absurd (not h)
    elsewhere sides.Child sides.Child u own not h = absurd (not h)
    elsewhere sides.Parent sides.Child u own not h = own
    elsewhere sides.Child sides.Parent u own not h = own

pub counts : (setting : Setting) (slots id : ℕ) (m : Me (Option SharedLink) SeatView) (k : ℕ) (st : Step (Option SharedLink)) → Allows (IsLawful setting) slots id m 1 (λ n. (n + k) % 2 ^ 64) (Unchanged st m)
counts setting slots id m k st s law wide at fits =
    let x = (get_or s.words 1 0 + k) % 2 ^ 64 in (
      m.0,
      keeps,
      tt,
      subst (λ (vs : List SeatView). IsLawful setting (state_with (set s.words 1 x) s.homes vs)) (sym (set_again s.views id m.0 at)) (record {
        all = law.all;
        holder = law.holder;
        size = length-set s.words 1 x ∙ law.size;
        word = get_or-set_other s.words 1 0 x 0 (λ e. omega (arith, e)) ∙ law.word;
        range = law.range;
        seen = law.seen;
        about = law.about;
        apart = law.apart;
        holders = law.holders;
        held = law.held;
        free = λ e. let there = law.free e in record { shared = there.shared; lies = there.lies; lines = there.lines; home = there.home };
      }),
      refl,
    )
