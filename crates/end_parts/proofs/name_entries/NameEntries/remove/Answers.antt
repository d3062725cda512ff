use Rattle.std.proofs.Common.{List, ℕ, map, not, sym, ap, ◌∙◌}
use Rattle.std.specs.List.{filter}
use Rattle.std.specs.Str.{bytes_eq}
use Rattle.channel_model.specs.Names.{without_name}
use Rattle.end_parts.specs.declared.name_entries.NameEntry.{NameEntry}
use Rattle.end_parts.specs.NameContents.{naming_of}
use Rattle.end_parts.specs.NamesView.{NamesView}
use Rattle.end_parts.proofs.NameLemmas.{others-names}
use Rattle.end_parts.proofs.name_entries.NameEntries.remove.Goals as goal

pub returns : goal.returns
returns c =
    ap (λ (ns : List NameEntry). map naming_of ns) (c.remove_name.ensures.items ∙ ap (λ (name : List ℕ). filter (λ (n : NameEntry). not (bytes_eq n.name name)) c.self.inside.entries.items) c.as_slice.ensures) ∙ sym (others-names c.args.name.now c.self.inside.entries.items) ∙ ap (λ (v : NamesView). without_name c.args.name.now v.names) c.self.view_is
