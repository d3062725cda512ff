use Rattle.std.proofs.Common.{◌∙◌, ◌++◌, ap, inl, inr}
use Rattle.name_table.specs.Rows.{row_of}
use Rattle.name_table.proofs.Listing.{listed_both, listed_front, added_twice}
use Rattle.name_table.proofs.rows.declare.Goals as goal
use Rattle.name_table.proofs.rows.declare.Goals.{else-front-full-via-then-front-full+else-last-full, else-front-full-via-else-front-full}

pub returns-in_ok-list-2 : goal.returns-in_ok-list-2
returns-in_ok-list-2 c = λ text.
    added_twice (row_of c.args.rows.now text) (row_of c.list.new.rows text) (row_of c.list-then-last-full.new.rows text) _ _ _ (c.in_ok-list.ensures text) (c.in_ok-list-2.ensures text)
    (listed_both c.args.full.now c.before_argument-front.result.now c.short_name-last.result.now c.args.id c.before_argument-front.ensures c.if-front-full.true c.short_name-last.ensures c.if-last-full.true text)

pub returns-else-front-full : goal.returns-else-front-full
returns-else-front-full c = λ text.
    c.in_ok-list.ensures text
    ∙ ap (λ ds. row_of c.args.rows.now text ++ ds) (listed_front c.args.full.now c.before_argument-front.result.now c.short_name-last.result.now c.args.id c.before_argument-front.ensures c.short_name-last.ensures
    (elim c.else-front-full.branch [
      | else-front-full-via-then-front-full+else-last-full w ↦ inl (w.if-front-full.true, w.if-last-full.false)
      | else-front-full-via-else-front-full w ↦ inr w.if-front-full.false
    ]) text)
