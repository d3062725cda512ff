use Rattle.std.proofs.Common.{◌≡◌, ◌↔◌, IsTrue, Some, option_map, ap, subst, ◌∙◌}
use Rattle.std.specs.List.{find}
use Rattle.channel_model.specs.Answers.{handled_resolver, has_resolver, resolver_in}
use Rattle.end_parts.specs.declared.reply.RequestKey.{RequestKey}
use Rattle.end_parts.specs.StackDetails.{is_resolver_of}
use Rattle.channel_core.specs.EndView.{EndView}
use Rattle.channel_core.proofs.LookLemmas.{holds_resolver}
use Rattle.channel_core.proofs.end.End.has_resolver.Goals as goal

pub returns : goal.returns
returns c =
    let stack = c.self.inside.stack in
    let r = c.args.resolver.now in
    let told = c.has_resolver.ensures ∙ ap (λ (k : RequestKey). is_resolver_of k.route k.number (option_map resolver_in (find (has_resolver k.seq) stack))) c.key.ensures in
    subst (λ (s : EndView). IsTrue c.has_resolver.result ↔ (handled_resolver s.end r.seq ≡ Some r)) c.self.view_is (holds_resolver stack r c.has_resolver.result told)
