-- The effect of one more line on the messages of numbers.
use Rattle.std.proofs.Common.{◌≡◌, ◌∙◌, ℕ, ℤ, Bool, true, false, if◌then◌else◌, List, [], ◌∷◌, ◌++◌, Option, Some, None, is_some, option_and_then, refl, sym, ap}
use Rattle.ipdl_base.specs.declared.kinds.Side.{Side}
use Rattle.ipdl_base.specs.declared.line.Line.{Line}
use Rattle.std.specs.Ordering.{int_eq}
use Rattle.history.specs.declared.messages.Messages.{Messages}
use Rattle.history.specs.Messages.{given, message_at, message_of_number}
use Rattle.ipdl_base.specs.Lines.{same_side}
use Rattle.history.specs.Noted.{Gives, Knows}

-- the first of two options that has a value
abbrev pub rather : Option ℕ → Option ℕ → Option ℕ
rather first second = if is_some first then first else second

-- for three options the grouping makes no difference
rather_twice : (a b c : Option ℕ) → rather (rather a b) c ≡ rather a (rather b c)
rather_twice None b c = refl
rather_twice (Some x) b c = refl

rather_none : (a : Option ℕ) → rather a None ≡ a
rather_none None = refl
rather_none (Some x) = refl

-- one more line decides if it gives the number a message
pub message_of_more : (end : Side) (n : ℤ) (lines : List Line) (line : Line)
    → message_of_number end (lines ++ line ∷ []) n ≡ rather (message_at end n line) (message_of_number end lines n)
message_of_more end n [] line = sym (rather_none (message_at end n line))
message_of_more end n (first ∷ rest) line =
    ap (λ (o : Option ℕ). rather o (message_at end n first)) (message_of_more end n rest line)
    ∙ rather_twice (message_at end n line) (message_of_number end rest n) (message_at end n first)

-- a message that is noted, and those from before
beside : (here same : Bool) (message : ℕ) (old : Option ℕ) → (if here then (if same then Some message else old) else old) ≡ rather (if here then (if same then Some message else None) else None) old
beside true true message old = refl
beside true false message old = refl
beside false same message old = refl

-- a line at one end that gives this number a message, if any
abbrev given_here : Bool → ℤ → Option (ℤ × ℕ) → Option ℕ
given_here here n g = if here then option_and_then (λ p. if int_eq p.0 n then Some p.1 else None) g else None

-- after a line that gives a number a message, that message is known
pub knows_given : (old new : Messages) (line : Line) (number : ℤ) (message : ℕ) → given line.what ≡ Some (number, message) → Gives old new line.side number message
    → (lines : List Line) → Knows lines old → Knows (lines ++ line ∷ []) new
knows_given old new line number message gives noted lines knows end n =
    let here : Bool = same_side line.side end in
    let same : Bool = int_eq number n in
    noted end n
    ∙ (ap (λ (o : Option ℕ). if here then (if same then Some message else o) else o) (knows end n)
    ∙ (beside here same message (message_of_number end lines n)
    ∙ (ap (λ (g : Option (ℤ × ℕ)). rather (given_here here n g) (message_of_number end lines n)) (sym gives)
    ∙ sym (message_of_more end n lines line))))

nothing_here : (here : Bool) (n : ℤ) → given_here here n None ≡ None
nothing_here true n = refl
nothing_here false n = refl

-- after a line that gives no number a message, all is as before
pub knows_none : (messages : Messages) (line : Line) → given line.what ≡ None → (lines : List Line) → Knows lines messages → Knows (lines ++ line ∷ []) messages
knows_none messages line gives lines knows end n =
    let here : Bool = same_side line.side end in
    knows end n
    ∙ (ap (λ (o : Option ℕ). rather o (message_of_number end lines n)) (sym (nothing_here here n))
    ∙ (ap (λ (g : Option (ℤ × ℕ)). rather (given_here here n g) (message_of_number end lines n)) (sym gives)
    ∙ sym (message_of_more end n lines line)))
