use Rattle.std.proofs.Common.{◌≡◌, Some, None, sym, ap, refl, ◌∙◌}
use Rattle.std.specs.Option.{option_map}
use Rattle.std.specs.List.{find}
use Rattle.std.specs.Str.{bytes_eq}
use Rattle.end_parts.specs.declared.name_entries.NameEntry.{NameEntry}
use Rattle.end_parts.proofs.NameLemmas.{content-names, named_by-content}
use Rattle.end_parts.proofs.name_entries.NameEntries.named.Goals as goal

pub returns-in-None : goal.returns-in-None
returns-in-None c =
    let ns = c.self.inside.entries.items in
    let name = c.args.name.now in
    let found : option_map (λ n. n.now) c.find_entry.result ≡ find (λ (n : NameEntry). bytes_eq n.name name) ns = rw (← c.as_slice.ensures.value, ← c.as_slice-2.ensures) c.find_entry.ensures in
    let none : find (λ (n : NameEntry). bytes_eq n.name name) ns ≡ None = sym found ∙ ap (λ f. option_map (λ n. n.now) f) c.in-None.is in
    rw (← c.self.view_is, content-names name ns, none) refl

pub returns-in-Some : goal.returns-in-Some
returns-in-Some c =
    let ns = c.self.inside.entries.items in
    let name = c.args.name.now in
    let found : option_map (λ n. n.now) c.find_entry.result ≡ find (λ (n : NameEntry). bytes_eq n.name name) ns = rw (← c.as_slice.ensures.value, ← c.as_slice-2.ensures) c.find_entry.ensures in
    let there : find (λ (n : NameEntry). bytes_eq n.name name) ns ≡ Some c.in-Some.entry.now = sym found ∙ ap (λ f. option_map (λ n. n.now) f) c.in-Some.is in
    c.named_of.ensures ∙ rw (← c.self.view_is, content-names name ns, there) (sym (named_by-content c.in-Some.entry.now.content))
