-- A request that is handled was taken at an earlier place.
use Rattle.std.proofs.Common.{◌≡◌, ◌⊎◌, inl, inr, ℕ, ◌+◌, ℤ, Bool, true, false, if◌then◌else◌, List, [], ◌∷◌, ◌++◌, None, refl, sym, ap, subst, ◌∙◌}
use Rattle.std.specs.Prelude.{option_to_list}
use Rattle.ipdl_base.specs.declared.kinds.Side.{Side}
use Rattle.ipdl_base.specs.declared.kinds.Side.TheVariants.{Parent, Child}
use Rattle.ipdl_base.specs.declared.line.Line.{Line}
use Rattle.ipdl_base.specs.declared.line.What.{What}
use Rattle.ipdl_base.specs.declared.line.What.TheVariants as what
use Rattle.ipdl_base.specs.declared.schema.Schema.{Schema}
use Rattle.ipdl_base.specs.declared.value.Values.{Values}
use Rattle.ipdl_base.specs.Lines.{same_side}
use Rattle.history_reading.specs.declared.parts.Call.{Call}
use Rattle.history_reading.specs.declared.parts.CallFrame.{CallFrame}
use Rattle.history_reading.specs.declared.parts.CallFrame.TheVariants as frame
use Rattle.history_reading.specs.declared.parts.HandledRequest.{HandledRequest}
use Rattle.channel_laws.specs.Notes.{In, here, there}
use Rattle.law_statements.specs.Said.{line_of, said_by}
use Rattle.law_statements.specs.Stack.{frame_at, frame_of, frame_with, is_sync_of, stack, stack_from, stays, wait_frame}

-- The place at which a request was taken.
pub record TakePlace (end : Side) (d : HandledRequest) (lines : List Line) : Type 0 where
  pub front : List Line
  pub values : Values
  pub back : List Line
  pub is : lines ≡ front ++ line_of end (what.Take d.seq d.route d.number values) ∷ back

either-in : {A : Type 0} (xs ys : List A) (x : A) → In x (xs ++ ys) → In x xs ⊎ In x ys
either-in [] ys x i = inr i
either-in (y ∷ xs) ys _ here = inl here
either-in (y ∷ xs) ys x (there i) = elim (either-in xs ys x i) [ inl j ↦ inl (there j) | inr j ↦ inr j ]

only-one : {A : Type 0} (x y : A) → In x (y ∷ []) → x ≡ y
only-one x _ here = refl
only-one x y (there i) = elim i [ ]

no-wait : {A : Type 0} (b : Bool) (c : Call) (d : HandledRequest) → frame.Dispatch d ≡ wait_frame b c → A
no-wait true c d e = cc
no-wait false c d e = cc

-- a dispatch among the frames of a line is that of its take
of-take : (sync : ℤ → Bool) (following : List What) (place : ℕ) (w : What) (d : HandledRequest) → In (frame.Dispatch d) (option_to_list (frame_of sync following place w)) → (values : Values) × (w ≡ what.Take d.seq d.route d.number values)
of-take sync following place (what.Take n route number values) d i =
    let same : frame.Dispatch d ≡ frame.Dispatch (record { seq = n; route = route; number = number }) = only-one (frame.Dispatch d) (frame.Dispatch (record { seq = n; route = route; number = number })) i in
    let is : d ≡ record { seq = n; route = route; number = number } = cc in
    (values, sym (ap (λ (x : HandledRequest). what.Take x.seq x.route x.number values) is))
of-take sync following place (what.Call n transaction route number values) d i = no-wait _ _ d (only-one (frame.Dispatch d) _ i)
of-take sync following place _ d i = elim i [ ]

of-stay : (b : Bool) (sync : ℤ → Bool) (following : List What) (place : ℕ) (w : What) (d : HandledRequest) → In (frame.Dispatch d) (option_to_list (if b then frame_of sync following place w else None)) → (values : Values) × (w ≡ what.Take d.seq d.route d.number values)
of-stay true sync following place w d i = of-take sync following place w d i
of-stay false sync following place w d i = elim i [ ]

own-side : (s end : Side) → same_side s end ≡ true → s ≡ end
own-side Parent Parent h = refl
own-side Parent Child h = cc
own-side Child Parent h = cc
own-side Child Child h = refl

of-line : (sync : ℤ → Bool) (end : Side) (place : ℕ) (l : Line) (following : List Line) (d : HandledRequest) → In (frame.Dispatch d) (option_to_list (frame_at sync end place l following)) → (values : Values) × (l ≡ line_of end (what.Take d.seq d.route d.number values))
of-line sync end place l following d i = by (same_side l.side end) refl i
  where
    by : (b : Bool) → same_side l.side end ≡ b → In (frame.Dispatch d) (option_to_list (if b then frame_with sync (said_by end following) place l.what else None)) → (values : Values) × (l ≡ line_of end (what.Take d.seq d.route d.number values))
    by true is i =
        let r = of-stay (stays (said_by end following)) sync (said_by end following) place l.what d i in
        (r.0, ap (λ (s : Side). record { side = s; what = l.what }) (own-side l.side end is) ∙ ap (line_of end) r.1)
    by false is i = elim i [ ]

from-place : (sync : ℤ → Bool) (end : Side) (place : ℕ) (lines : List Line) (d : HandledRequest) → In (frame.Dispatch d) (stack_from sync end place lines) → TakePlace end d lines
from-place sync end place [] d i = elim i [ ]
from-place sync end place (l ∷ following) d i = by (either-in (stack_from sync end (place + 1) following) (option_to_list (frame_at sync end place l following)) (frame.Dispatch d) i) (λ j. from-place sync end (place + 1) following d j)
  where
    by : In (frame.Dispatch d) (stack_from sync end (place + 1) following) ⊎ In (frame.Dispatch d) (option_to_list (frame_at sync end place l following)) → (In (frame.Dispatch d) (stack_from sync end (place + 1) following) → TakePlace end d following) → TakePlace end d (l ∷ following)
    by (inl j) rec = let p = rec j in record { front = l ∷ p.front; values = p.values; back = p.back; is = ap (λ (ls : List Line). l ∷ ls) p.is }
    by (inr j) rec = let r = of-line sync end place l following d j in record { front = []; values = r.0; back = following; is = ap (λ (x : Line). x ∷ following) r.1 }

-- the place where a request that is handled on top was taken
pub take-place : (schema : Schema) (end : Side) (lines : List Line) (d : HandledRequest) (below : List CallFrame) → stack schema end lines ≡ frame.Dispatch d ∷ below → TakePlace end d lines
take-place schema end lines d below is = from-place (is_sync_of schema (said_by end lines)) end 0 lines d (subst (In (frame.Dispatch d)) (sym is) here)
