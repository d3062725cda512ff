-- Promises that are rejected with their lines.
use Rattle.std.specs.Prelude.{◌≡◌, ◌+◌, ◌≤◌, Bool, List, ◌++◌, map}
use Rattle.ipdl_base.specs.declared.kinds.Reason.{Reason}
use Rattle.ipdl_base.specs.declared.kinds.Side.{Side}
use Rattle.promise_table.specs.declared.promise.Promise.{Promise}
use Rattle.channel_model.specs.Ends.{PromiseEntry}
use Rattle.channel_model.specs.Falls.{rejections, rejected}
use Rattle.channel_model.specs.Outputs.{line_at}
use Rattle.end_parts.specs.OutputView.{OutputView}
use Rattle.end_parts.specs.PromiseRequests.{pending_in}

-- Of some promises those that pend and pass are rejected, each with its line.
pub record HasRejected (side : Side) (test : Promise → Bool) (reason : Reason) (promises : List PromiseEntry) (out : OutputView) (promises' : List PromiseEntry) (out' : OutputView) : Type 0 where
  pub rejected : promises' ≡ rejected test reason promises
  pub said : out' ≡ record out { lines = out.lines ++ map (line_at side) (rejections test reason promises); line_spare = out'.line_spare }
  pub spare : out'.line_spare + pending_in promises ≡ out.line_spare + pending_in promises'
  pub fewer : pending_in promises' ≤ pending_in promises
