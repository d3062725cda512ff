-- The reading of the lines of every run is its world.
use Rattle.std.proofs.Common.{refl}
use Rattle.history_reading.specs.Reading.{Reading, read}
use Rattle.channel_model.specs.Ends.{World, opening}
use Rattle.channel_model.specs.Runs.{run, history_of}
use Rattle.channel_laws.specs.EndActors.{ReadsActors}
use Rattle.channel_laws.specs.Exchanges.{ReadsExchanges}
use Rattle.channel_laws.specs.ReadingLaws.{ReadingIsWorld}
use Rattle.channel_laws.proofs.Readable.{reading-is}
use Rattle.channel_laws.proofs.Reached.{actors-reached}
use Rattle.channel_laws.proofs.Runs.{AtEnds, IsReached}
use Rattle.channel_laws.proofs.WaitLaw.{exchanges-reached}

pub reading_is_world : ReadingIsWorld
reading_is_world schema sound top moves =
    let w : World = (run schema moves (opening top)).world in
    let r : Reading = read schema (history_of schema top moves) in
    let reached : IsReached schema w r = record { top = top; front = moves; world = refl; reading = refl } in
    let actors : AtEnds schema (ReadsActors schema) w r = actors-reached schema sound w r reached in
    let exchanges : AtEnds schema (ReadsExchanges schema) w r = exchanges-reached schema sound w r reached in
    record {
      between = reading-is schema sound top moves;
      parent = record { actors = actors.0; exchanges = exchanges.0 };
      child = record { actors = actors.1; exchanges = exchanges.1 };
    }
