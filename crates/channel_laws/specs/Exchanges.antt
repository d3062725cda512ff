-- What an end keeps of requests and replies with its own lines alone, whatever the other end sends.
use Rattle.ipdl_base.specs.declared.schema.Schema.{Schema}
use Rattle.channel_model.specs.Ends.{End}
use Rattle.history_reading.specs.EndReading.{EndReading}
use Rattle.channel_laws.specs.AnswersOnce.{AnswersOnce}
use Rattle.channel_laws.specs.Arrivals.{ArrivalsAreRead}
use Rattle.channel_laws.specs.OwnWaits.{WaitsAreOwn}
use Rattle.channel_laws.specs.Promised.{PromisesAreRead}

-- What has arrived and what is promised are as the lines show, each request is answered at most once, and each wait
-- is for a sync request of the end.
pub record ReadsExchanges (schema : Schema) (e : End) (own : EndReading) : Type 0 where
  pub arrivals : ArrivalsAreRead e own
  pub promises : PromisesAreRead e own
  pub answers : AnswersOnce schema e own
  pub waits : WaitsAreOwn e own
