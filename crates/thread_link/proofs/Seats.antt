-- Seats that take the link and give it back.
use Rattle.std.proofs.Common.{◌≡◌, ◌∙◌, ℕ, List, [], ◌∷◌, Bool, sym, ap, subst, true, false, Option, Some, None}
use Rattle.atomic_table.specs.declared.shared.Seat.{Seat}
use Rattle.atomic_table.specs.Table.{Me, Step, rest}
use Rattle.ipdl_base.specs.declared.kinds.Side.{Side}
use Rattle.ipdl_base.specs.declared.line.Line.{Line}
use Rattle.thread_link.proofs.Ends.{some-same}
use Rattle.thread_link.proofs.RuleSteps.{holds-with, is-with, seen-with, setting-with, side-is}
use Rattle.thread_link.specs.declared.parts.SeatView.{SeatView}
use Rattle.thread_link.specs.declared.parts.SharedLink.{SharedLink}
use Rattle.thread_link.specs.Fronts.{HasSeen}
use Rattle.thread_link.specs.LinkRule.{seen_by}
use Rattle.thread_link.specs.Seats.{HasGiven, HasTaken, IsOf}
use Rattle.thread_link.specs.Steps.{HasTakenLink, Released, carried_lines, side_of, with_seen}
use Rattle.world_core.specs.Halves.{IsHome}

abbrev Place : Type 0
Place = Seat (Option SharedLink) SeatView

-- what a seat knows once its view is known
pub told-seen : (holds : Bool) (side : Side) (lines : List Line) (v : SeatView) (m : Me (Option SharedLink) SeatView) (carried : List (ℕ × Option SharedLink)) → m ≡ (with_seen holds side lines v, carried) → seen_by side m.0 ≡ lines
told-seen holds side lines v m carried e = ap (λ (n : Me (Option SharedLink) SeatView). seen_by side n.0) e ∙ seen-with holds side lines v

pub told-setting : (holds : Bool) (side : Side) (lines : List Line) (v : SeatView) (m : Me (Option SharedLink) SeatView) (carried : List (ℕ × Option SharedLink)) → m ≡ (with_seen holds side lines v, carried) → m.0.setting ≡ v.setting
told-setting holds side lines v m carried e = ap (λ (n : Me (Option SharedLink) SeatView). n.0.setting) e ∙ setting-with holds side lines v

abbrev first_slot : Option SharedLink → List (ℕ × Option SharedLink) → Option SharedLink
first_slot other [] = other
first_slot other (x ∷ xs) = x.1

pub taken-so : (side : Side) (before mid after : Place) (result : Option SharedLink) (shared : SharedLink) → IsOf side before.me.0 → HasTakenLink (side_of before.me.0) before.me mid.me → result ≡ Some shared → mid.me.1 ≡ (0, result) ∷ rest mid.me.1
    → after.me ≡ (mid.me.0, (0, None) ∷ rest mid.me.1) → after.table_id ≡ before.table_id → HasTaken side before after shared
taken-so side before mid after result shared is taken found carried me table =
    let got : HasTakenLink side before.me mid.me = subst (λ (d : Side). HasTakenLink d before.me mid.me) (side-is side before.me.0 is) taken in
    let slots : (0, result) ∷ rest mid.me.1 ≡ (0, Some got.shared) ∷ [] = sym carried ∙ ap (λ (m : Me (Option SharedLink) SeatView). m.1) got.me in
    let same : got.shared ≡ shared = some-same got.shared shared (sym (ap (first_slot None) slots) ∙ found) in
    let told : after.me ≡ (with_seen true side shared.link.lines before.me.0, (0, None) ∷ []) =
    me ∙ (ap (λ (m : Me (Option SharedLink) SeatView). (m.0, (0, None) ∷ rest m.1)) got.me ∙ ap (λ (s : SharedLink). (with_seen true side s.link.lines before.me.0, (0, None) ∷ [])) same) in
    record {
      table = table;
      me = told;
      holder = record {
        is_of = subst (λ (m : Me (Option SharedLink) SeatView). IsOf side m.0) (sym told) (is-with true side side shared.link.lines before.me.0 is);
        holds = ap (λ (m : Me (Option SharedLink) SeatView). m.0.holds) told ∙ holds-with true side shared.link.lines before.me.0;
        slot = ap (λ (m : Me (Option SharedLink) SeatView). m.1) told;
      };
      home = subst (λ (s : SharedLink). IsHome before.me.0.setting s.link) same got.home;
      seen = subst (λ (s : SharedLink). HasSeen side (seen_by side before.me.0) s.link.lines) same got.seen;
    }

pub given-so : (side : Side) (before mid after : Place) (shared : SharedLink) (more : List (ℕ × Option SharedLink)) (word : ℕ) (st : Step (Option SharedLink)) → IsOf side before.me.0 → mid.me ≡ (before.me.0, (0, Some shared) ∷ more) → more ≡ []
    → Released st mid.me word after.me → after.table_id ≡ before.table_id → HasGiven side before after shared
given-so side before mid after shared more word st is me none released table =
    let told : after.me ≡ (with_seen false side shared.link.lines before.me.0, []) =
    released
    ∙ (ap (λ (m : Me (Option SharedLink) SeatView). (with_seen false (side_of m.0) (carried_lines m.1) m.0, rest m.1)) me
    ∙ (ap (λ (d : Side). (with_seen false d shared.link.lines before.me.0, more)) (side-is side before.me.0 is)
    ∙ ap (λ (c : List (ℕ × Option SharedLink)). (with_seen false side shared.link.lines before.me.0, c)) none)) in
    record {
      table = table;
      me = told;
      seat = record {
        is_of = subst (λ (m : Me (Option SharedLink) SeatView). IsOf side m.0) (sym told) (is-with false side side shared.link.lines before.me.0 is);
        free = ap (λ (m : Me (Option SharedLink) SeatView). m.0.holds) told ∙ holds-with false side shared.link.lines before.me.0;
        empty = ap (λ (m : Me (Option SharedLink) SeatView). m.1) told;
      };
    }
