use Rattle.std.proofs.Common.{rules}
use Rattle.ipdl_base.specs.declared.kinds.Side.TheVariants as side
use Rattle.charts.proofs.rows.Rows.new.Goals as goal

pub returns : goal.returns
returns c schema row = record {
  arrivals = λ n. search rules;
  reply_arrivals = λ n. search rules;
  departures = λ n. search rules;
  reply_departures = λ n. search rules;
  returns = λ n. search rules;
  leaves = λ n. search rules;
  parent = c.none.ensures schema row side.Parent;
  child = c.none-2.ensures schema row side.Child;
}
