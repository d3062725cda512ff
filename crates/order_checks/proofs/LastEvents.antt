-- The last events of an end's lines, and whether these reject a promise.
use Rattle.std.proofs.Common.{◌≡◌, ℤ, Bool, true, false, ◌&&◌, if◌then◌else◌, IsTrue, List, [], ◌∷◌, ◌++◌, Any, Contains, reverse, find, Option, Some, None, option_map, refl, sym, ap, subst, ◌∙◌}
use Rattle.std.specs.Bool.{Decides}
use Rattle.std.specs.List.{list_any}
use Rattle.std.specs.Option.{option_map_or}
use Rattle.std.specs.Ordering.{int_eq}
use Rattle.std.proofs.lemmas.Bool.{and_parts, and_from}
use Rattle.std.proofs.lemmas.Bool.Decides.{Decides-int_eq}
use Rattle.std.proofs.lemmas.List.{append-nil}
use Rattle.std.proofs.lemmas.List.Folds.{Any-from_list_any, list_any-from_Any}
use Rattle.ipdl_base.specs.declared.kinds.Reason.{Reason}
use Rattle.ipdl_base.specs.declared.kinds.Reason.TheVariants as reason
use Rattle.ipdl_base.specs.declared.kinds.Side.{Side}
use Rattle.ipdl_base.specs.declared.line.Line.{Line}
use Rattle.ipdl_base.specs.declared.line.What.{What}
use Rattle.ipdl_base.specs.declared.line.What.TheVariants as what
use Rattle.ipdl_base.specs.Lines.{same_side}
use Rattle.history_reading.specs.Waits.{same_reason}
use Rattle.law_statements.specs.Said.{is_event, last_event, said_by}
use Rattle.law_statements.proofs.Deciding.{through}
use Rattle.law_statements.proofs.Lists.{last-add}
use Rattle.law_statements.proofs.Replies.{reason-same}
use Rattle.order_checks.specs.AnswerTests.{has_just_come, is_delivery_line, is_delivery_of, is_event_at, is_rejection_at, is_rejection_of}
use Rattle.order_checks.proofs.Lookups.{any-said}
use Rattle.order_checks.proofs.Said.{said-more}

-- the last event of an end
last-is : (end : Side) (before : List Line) → option_map (λ (line : Line). line.what) (find (is_event_at end) (reverse before)) ≡ last_event (said_by end before)
last-is end before = through before (λ (front : List Line). option_map (λ (line : Line). line.what) (find (is_event_at end) (reverse front)) ≡ last_event (said_by end front)) refl (λ front line following is p. more front line p) before [] (sym (append-nil before))
  where
    more : (front : List Line) (line : Line) → option_map (λ (l : Line). l.what) (find (is_event_at end) (reverse front)) ≡ last_event (said_by end front)
        → option_map (λ (l : Line). l.what) (find (is_event_at end) (reverse (front ++ line ∷ []))) ≡ last_event (said_by end (front ++ line ∷ []))
    more front line p =
        ap (option_map (λ (l : Line). l.what)) (last-add (is_event_at end) front line)
        ∙ (by (same_side line.side end) (is_event line.what) ∙ sym (ap last_event (said-more end front line) ∙ at (same_side line.side end)))
      where
        by : (b e : Bool) → option_map (λ (l : Line). l.what) (if b && e then Some line else find (is_event_at end) (reverse front)) ≡ (if b then (if e then Some line.what else last_event (said_by end front)) else last_event (said_by end front))
        by true true = refl
        by true false = p
        by false e = p

        at : (b : Bool) → last_event (if b then said_by end front ++ line.what ∷ [] else said_by end front) ≡ (if b then (if is_event line.what then Some line.what else last_event (said_by end front)) else last_event (said_by end front))
        at true = last-add is_event (said_by end front) line.what
        at false = refl

delivery-is : (n : ℤ) (w : What) → Decides (is_delivery_of n w) (w ≡ what.DeliverRequest n)
delivery-is n (what.DeliverRequest m) = (λ e. ap (λ (k : ℤ). what.DeliverRequest k) ((Decides-int_eq m n).0 e), λ e. let same : m ≡ n = cc in (Decides-int_eq m n).1 same)
delivery-is n _ = (λ e. cc, λ e. cc)

-- it is the delivery of the request of a number
pub just-come : (end : Side) (n : ℤ) (before : List Line) → Decides (has_just_come end n before) (last_event (said_by end before) ≡ Some (what.DeliverRequest n))
just-come end n before = by (find (is_event_at end) (reverse before)) (last-is end before)
  where
    by : (o : Option Line) → option_map (λ (line : Line). line.what) o ≡ last_event (said_by end before) → Decides (option_map_or (is_delivery_line n) o false) (last_event (said_by end before) ≡ Some (what.DeliverRequest n))
    by None is = (λ e. cc, λ e. cc (is ∙ e))
    by (Some line) is = (
      λ e. sym is ∙ ap (λ (w : What). Some w) ((delivery-is n line.what).0 e),
      λ e. let same : Some line.what ≡ Some (what.DeliverRequest n) = is ∙ e in let here : line.what ≡ what.DeliverRequest n = cc in (delivery-is n line.what).1 here,
    )

-- a promise was rejected since an actor fell

rejection-is : (n : ℤ) (w : What) → Decides (is_rejection_of n w) (w ≡ what.Rejected n reason.ActorDestroyed)
rejection-is n (what.Rejected m why) = (
  λ e. let both : IsTrue (int_eq m n) × IsTrue (same_reason why reason.ActorDestroyed) = and_parts (int_eq m n) (same_reason why reason.ActorDestroyed) e in
      ap (λ (k : ℤ). what.Rejected k why) ((Decides-int_eq m n).0 both.0) ∙ ap (λ (r : Reason). what.Rejected n r) ((reason-same why reason.ActorDestroyed).0 both.1),
  λ e. let number : m ≡ n = cc in let same : why ≡ reason.ActorDestroyed = cc in
      and_from (int_eq m n) (same_reason why reason.ActorDestroyed) ((Decides-int_eq m n).1 number) ((reason-same why reason.ActorDestroyed).1 same),
)
rejection-is n _ = (λ e. cc, λ e. cc)

rejected-among : (n : ℤ) (ws : List What) → Decides (list_any (is_rejection_of n) ws) (Contains ws (what.Rejected n reason.ActorDestroyed))
rejected-among n ws = (λ e. to (Any-from_list_any (is_rejection_of n) ws e), λ c. list_any-from_Any (is_rejection_of n) ws (c.0, what.Rejected n reason.ActorDestroyed, c.1, c.2, (rejection-is n (what.Rejected n reason.ActorDestroyed)).1 refl))
  where
    to : Any (λ w. is_rejection_of n w ≡ true) ws → Contains ws (what.Rejected n reason.ActorDestroyed)
    to a = subst (λ (w : What). Contains ws w) ((rejection-is n a.1).0 a.4) (a.0, a.2, a.3)

pub rejected-said : (end : Side) (n : ℤ) (before : List Line) → Decides (list_any (is_rejection_at end n) before) (Contains (said_by end before) (what.Rejected n reason.ActorDestroyed))
rejected-said end n before = (λ e. (rejected-among n (said_by end before)).0 (sym is ∙ e), λ c. is ∙ (rejected-among n (said_by end before)).1 c)
  where
    is : list_any (is_rejection_at end n) before ≡ list_any (is_rejection_of n) (said_by end before)
    is = any-said (is_rejection_of n) end before
