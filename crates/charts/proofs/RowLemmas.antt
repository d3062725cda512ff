-- What is noted of rows.
use Rattle.std.proofs.Common.{◌≡◌, ◌∙◌, refl, ℕ, ℤ, ◌+◌, true, false, ◌||◌, if◌then◌else◌, List, ◌∷◌, Option, Some, None, is_none, is_some, sym, ap}
use Rattle.ipdl_base.specs.Lines.{same_side}
use Rattle.ipdl_base.specs.declared.kinds.Side.{Side}
use Rattle.ipdl_base.specs.declared.kinds.Side.TheVariants as side
use Rattle.ipdl_base.specs.declared.line.Line.{Line}
use Rattle.ipdl_base.specs.declared.line.What.{What}
use Rattle.ipdl_base.specs.declared.schema.Schema.{Schema}
use Rattle.charts.specs.Noted.{Knows, noted, side_noted}
use Rattle.charts.specs.Rows.{empties_outbox, ends_channel, is_end, is_farewell, is_number, last_row_from, lazy_send, leave_from, outbox_row_from, row_from, rows_of, side_rows}
use Rattle.charts.specs.declared.rows.Rows.{Rows}
use Rattle.charts.specs.declared.rows.SideRows.{SideRows}

-- the rows of a side that are noted are those of the whole
pub side_is_noted : (rows : Rows) (s : Side) → side_noted rows s ≡ rows_of (noted rows) s
side_is_noted rows side.Parent = refl
side_is_noted rows side.Child = refl

kept_last : (last : Option ℕ) → (if is_some last then last else None) ≡ last
kept_last None = refl
kept_last (Some row) = refl

first_last : (last : Option ℕ) (row : ℕ) → (if is_some last then last else Some row) ≡ (if is_none last then Some row else last)
first_last None row = refl
first_last (Some later) row = refl

-- the rows of a side by its last row
abbrev by_last : SideRows → Option ℕ → SideRows
by_last rows last = record rows { last = last }

-- a line of the other side changes nothing
pub other_line : (schema : Schema) (row : ℕ) (s : Side) (line : Line) (rest : List Line) → same_side line.side s ≡ false → side_rows schema row s (line ∷ rest) ≡ side_rows schema (row + 1) s rest
other_line schema row s line rest other = rw other (ap (by_last (side_rows schema (row + 1) s rest)) (kept_last (last_row_from (row + 1) s rest)))

-- the rows of a side with one more line of its own before the others
abbrev pub with_own : Schema → ℕ → What → SideRows → SideRows
with_own schema row w rows = record {
  last = if is_none rows.last then Some row else rows.last;
  ended = is_end w || rows.ended;
  farewell = if is_farewell w then Some row else rows.farewell;
  closing = if ends_channel w then Some row else rows.closing;
  leave = if is_farewell w then None else (if empties_outbox schema w then Some row else rows.leave);
}

-- a line of the side comes before all others
pub own_line : (schema : Schema) (row : ℕ) (s : Side) (line : Line) (rest : List Line) → same_side line.side s ≡ true
    → with_own schema row line.what (side_rows schema (row + 1) s rest) ≡ side_rows schema row s (line ∷ rest)
own_line schema row s line rest own = rw own (ap (by_last (with_own schema row line.what (side_rows schema (row + 1) s rest))) (sym (first_last (last_row_from (row + 1) s rest) row)))

-- a number that is noted with its row, before later rows
pub noted_more : (f : What → Option ℤ) (row : ℕ) (line : Line) (rest : List Line) (old new : ℤ → Option ℕ) (given : Option ℤ) → given ≡ f line.what
    → ((n : ℤ) → new n ≡ (if is_number n given then Some row else old n)) → ((n : ℤ) → old n ≡ row_from (row + 1) f rest n) → (n : ℤ) → new n ≡ row_from row f (line ∷ rest) n
noted_more f row line rest old new given is gives knows n =
    gives n ∙ (ap (λ (g : Option ℤ). if is_number n g then Some row else old n) is ∙ ap (λ (o : Option ℕ). if is_number n (f line.what) then Some row else o) (knows n))

-- a lazy send that is noted with the row at which it leaves, before later ones
pub leave_more : (schema : Schema) (row : ℕ) (line : Line) (rest : List Line) (old new : ℤ → Option (Option ℕ)) (given : Option ℤ) (leave : Option ℕ) → given ≡ lazy_send schema line.what
    → leave ≡ outbox_row_from (row + 1) schema line.side rest → ((n : ℤ) → new n ≡ (if is_number n given then Some leave else old n))
    → ((n : ℤ) → old n ≡ leave_from (row + 1) schema rest n) → (n : ℤ) → new n ≡ leave_from row schema (line ∷ rest) n
leave_more schema row line rest old new given leave is leaves gives knows n =
    gives n
    ∙ (ap (λ (g : Option ℤ). if is_number n g then Some leave else old n) is
    ∙ (ap (λ (l : Option ℕ). if is_number n (lazy_send schema line.what) then Some l else old n) leaves
    ∙ ap (λ (o : Option (Option ℕ)). if is_number n (lazy_send schema line.what) then Some (outbox_row_from (row + 1) schema line.side rest) else o) (knows n)))

-- where what waits in the outbox of a side leaves
pub leave_known : (schema : Schema) (row : ℕ) (rest : List Line) (rows : Rows) (s : Side) → Knows schema row rest rows → (side_noted rows s).leave ≡ outbox_row_from row schema s rest
leave_known schema row rest rows side.Parent knows = ap (λ (r : SideRows). r.leave) knows.parent
leave_known schema row rest rows side.Child knows = ap (λ (r : SideRows). r.leave) knows.child
