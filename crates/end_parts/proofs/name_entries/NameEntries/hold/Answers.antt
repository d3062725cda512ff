use Rattle.std.proofs.Common.{◌≡◌, List, [], ◌∷◌, ◌++◌, ℕ, map, not, sym, ap, ◌∙◌}
use Rattle.std.specs.List.{filter}
use Rattle.std.specs.Str.{bytes_eq}
use Rattle.std.proofs.lemmas.List.{map-append}
use Rattle.channel_model.specs.Ends.{Naming}
use Rattle.channel_model.specs.Names.{without_name}
use Rattle.end_parts.specs.declared.name_entries.NameEntry.{NameEntry}
use Rattle.end_parts.specs.NameContents.{naming_of}
use Rattle.end_parts.specs.NamesView.{NamesView}
use Rattle.end_parts.proofs.NameLemmas.{others-names}
use Rattle.end_parts.proofs.name_entries.NameEntries.hold.Goals as goal

pub returns : goal.returns
returns c =
    let ns = c.self.inside.entries.items in
    let name = c.args.name in
    let new : NameEntry = record { name = name; content = c.args.content } in
    let others : List NameEntry = filter (λ (n : NameEntry). not (bytes_eq n.name name)) ns in
    let kept : c.remove_name.new.entries.items ≡ others =
    c.remove_name.ensures.items ∙ ap (λ (bytes : List ℕ). filter (λ (n : NameEntry). not (bytes_eq n.name bytes)) ns) c.as_slice.ensures in
    ap (map naming_of) (c.push_spare.ensures ∙ ap (λ (xs : List NameEntry). xs ++ new ∷ []) kept) ∙ map-append naming_of others (new ∷ []) ∙ ap (λ (xs : List Naming). xs ++ naming_of new ∷ []) (sym (others-names name ns) ∙ ap (λ (v : NamesView). without_name name v.names) c.self.view_is)
