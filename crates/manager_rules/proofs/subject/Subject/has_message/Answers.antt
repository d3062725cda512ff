use Rattle.std.proofs.lemmas.Bool.Decides.{Decides-at}
use Rattle.manager_rules.proofs.subject.Subject.has_message.Goals as goal

pub returns : goal.returns
returns c = Decides-at _ _ c.contains.ensures (c.requires.exact c.args.name)
