-- What names are bound to.
use Rattle.std.specs.Prelude.{ℤ, pos, Option, Some, None, if◌then◌else◌}
use Rattle.channel_model.specs.Acts.{is_positive}
use Rattle.channel_model.specs.Ends as model
use Rattle.end_parts.specs.declared.name_entries.NameContent.{NameContent}
use Rattle.end_parts.specs.declared.name_entries.NameContent.TheVariants.{Actor, Resolver}
use Rattle.end_parts.specs.declared.name_entries.NameEntry.{NameEntry}
use Rattle.end_parts.specs.declared.name_entries.Named.{Named}
use Rattle.end_parts.specs.declared.name_entries.Named.TheVariants as named

-- what a name is bound to, in the model's words
abbrev pub content_of : NameContent → model.NameContent
content_of (Actor id) = model.actor id
content_of (Resolver r) = model.resolver r

abbrev pub naming_of : NameEntry → model.Naming
naming_of entry = record { name = entry.name; holds = content_of entry.content }

-- what a name is bound to, as it is reported
abbrev pub named_by : Option model.NameContent → Named
named_by None = named.Nothing
named_by (Some (model.actor id)) = named.Actor id
named_by (Some (model.resolver r)) = named.Resolver r.number

abbrev pub named_of : NameContent → Named
named_of (Actor id) = named.Actor id
named_of (Resolver r) = named.Resolver r.number

-- what a name of this id is bound to: an id that is not positive is no actor's
abbrev pub holds_at : ℤ → Option model.NameContent
holds_at id = if is_positive id then Some (model.actor id) else None

-- the id that the line of a name shows
abbrev pub shown_id : ℤ → ℤ
shown_id id = if is_positive id then id else pos 0
