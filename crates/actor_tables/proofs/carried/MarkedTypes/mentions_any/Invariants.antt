use Rattle.std.proofs.Common.{ℕ, ◌<◌, get_or}
use Rattle.ipdl_base.specs.Sound.{MentionsUncarried}
use Rattle.ipdl_base.specs.declared.schema.ParamRow.{ParamRow}
use Rattle.actor_tables.proofs.carried.MarkedTypes.mentions_any.Given as goal

-- no parameter so far mentions one
abbrev pub invariant-loop-param : goal.invariant-loop-param
invariant-loop-param l = (k : ℕ) (d : ParamRow) → k < l.param-index → ¬ MentionsUncarried l.self.rows.items (get_or l.params k d).shape
