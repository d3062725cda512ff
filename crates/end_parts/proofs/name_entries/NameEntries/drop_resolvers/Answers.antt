use Rattle.std.proofs.Common.{List, map, sym, ap, ◌∙◌}
use Rattle.channel_model.specs.Names.{without_resolvers}
use Rattle.end_parts.specs.declared.name_entries.NameEntry.{NameEntry}
use Rattle.end_parts.specs.NameContents.{naming_of}
use Rattle.end_parts.specs.NamesView.{NamesView}
use Rattle.end_parts.proofs.NameLemmas.{actors-names}
use Rattle.end_parts.proofs.name_entries.NameEntries.drop_resolvers.Goals as goal

pub returns : goal.returns
returns c =
    ap (λ (ns : List NameEntry). map naming_of ns) c.remove_resolvers.ensures ∙ sym (actors-names c.self.inside.entries.items) ∙ ap (λ (v : NamesView). without_resolvers v.names) c.self.view_is
