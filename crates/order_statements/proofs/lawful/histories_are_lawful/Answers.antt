use Rattle.history_reading.specs.declared.law.Law.TheVariants as law
use Rattle.channel_model.specs.Runs.{history_of}
use Rattle.order_statements.proofs.lawful.histories_are_lawful.Goals as goal

pub returns : goal.returns
returns c schema sound top moves =
    let lines = history_of schema top moves in
    let readable = c.histories_are_readable.ensures schema sound top moves in
    let obeys = c.histories_obey_all_laws.ensures schema sound top moves in
    record {
      readable = (c.decides_readable.ensures schema lines).0 readable;
      prefix = (c.decides_prefix.ensures schema lines readable).0 (obeys law.Prefix);
      living = (c.decides_living.ensures schema lines readable).0 (obeys law.Living);
      waits = (c.decides_waits.ensures schema lines readable).0 (obeys law.Waits);
      settled = (c.decides_settled.ensures schema lines readable).0 (obeys law.Settled);
      fallen = (c.decides_fallen.ensures schema lines readable).0 (obeys law.Fallen);
    }
