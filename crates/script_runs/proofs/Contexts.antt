-- The context of terms in a run fits their block.
use Rattle.std.proofs.Common.{◌≡◌, ◌≢◌, ℕ, ℤ, pos, true, false, List, [], ◌∷◌, find, Option, Some, None, option_and_then, refl, sym, subst}
use Rattle.std.specs.Prelude.{option_map, unwrap_or}
use Rattle.std.specs.List.{AllByRecursion}
use Rattle.handler_script.specs.Blocks.{in_main, in_handler}
use Rattle.handler_script.specs.Messages.{is_constructor}
use Rattle.handler_script.specs.Valid.{MayName, is_param}
use Rattle.handler_script.specs.ValueOf.{no_id, id_of}
use Rattle.ipdl_base.specs.declared.kinds.Side.{Side}
use Rattle.ipdl_base.specs.declared.schema.Kind.{Kind}
use Rattle.ipdl_base.specs.declared.schema.Kind.TheVariants.{Normal, Constructor, Delete}
use Rattle.ipdl_base.specs.declared.schema.MessageRow.{MessageRow}
use Rattle.ipdl_base.specs.declared.schema.Schema.{Schema}
use Rattle.script_reader.specs.declared.written.Who.{Who}
use Rattle.script_reader.specs.declared.written.Who.TheVariants as whos
use Rattle.value_types.specs.Fits.{IsLivingId, IsMadeBy}
use Rattle.value_types.specs.HasType.{HaveTypes}
use Rattle.channel_model.specs.Ends.{End, StackEntry, NameContent, actor, resolver, Naming}
use Rattle.channel_model.specs.Names.{has_name, held_by_name}
use Rattle.channel_model.proofs.FittingValues.{found-in}
use Rattle.script_steps.specs.NextEvent.{actor_in, route_on_top, context_of}
use Rattle.script_steps.specs.Progress.{HandledRequest}
use Rattle.script_runs.specs.Contexts.{FitsContext}
use Rattle.script_runs.proofs.Leaves.{HoldsNoNull, NamesNoNull, NameNoNulls}

living-some : (id : ℤ) → IsLivingId id → id ≢ pos 0
living-some id h is = absurd ((subst IsLivingId is h).0.le)

-- the actor of a name is not null
content-some : (content : NameContent) → HoldsNoNull content → unwrap_or (actor_in content) no_id ≢ pos 0
content-some (actor id) h = h
content-some (resolver r) h = λ is. cc

held-some : (names : List Naming) (name : List ℕ) → AllByRecursion NamesNoNull names → unwrap_or (option_and_then actor_in (held_by_name name names)) no_id ≢ pos 0
held-some names name h = by (find (has_name name) names) refl
  where
    by : (found : Option Naming) → find (has_name name) names ≡ found → unwrap_or (option_and_then actor_in (option_map (λ (naming : Naming). naming.holds) found)) no_id ≢ pos 0
    by None is = λ e. cc
    by (Some naming) is = content-some naming.holds (found-in NamesNoNull (has_name name) names naming h is).0

made-some : (kind : Kind) (made : ℤ) → is_constructor kind ≡ true → IsMadeBy kind made → made ≢ pos 0
made-some Normal made h k = cc
made-some (Constructor protocol) made h k = living-some made k
made-some Delete made h k = cc

pub main-context : (schema : Schema) (side : Side) (e : End) → NameNoNulls e → FitsContext schema (in_main side) (context_of e [])
main-context schema side e names = record { given = tt; who = by }
  where
    by : (w : Who) → MayName (in_main side) w → is_param w ≡ false → id_of (context_of e []) w ≢ pos 0
    by whos.Top may none = λ is. cc
    by whos.This may none = cc
    by whos.Made may none = absurd may
    by (whos.Param n) may none = cc
    by (whos.Name name) may none = held-some e.names name names

pub handler-context : (schema : Schema) (side : Side) (e : End) (entry : StackEntry) (under : List StackEntry) (row : MessageRow) (request : HandledRequest) (below : List HandledRequest) → NameNoNulls e → e.stack ≡ entry ∷ under
    → HaveTypes schema row.params request.given → IsMadeBy row.kind request.made → IsLivingId entry.route → FitsContext schema (in_handler side row) (context_of e (request ∷ below))
handler-context schema side e entry under row request below names is given made route = record { given = given; who = by }
  where
    by : (w : Who) → MayName (in_handler side row) w → is_param w ≡ false → id_of (context_of e (request ∷ below)) w ≢ pos 0
    by whos.Top may none = λ is. cc
    by whos.This may none = subst (λ (xs : List StackEntry). route_on_top xs ≢ pos 0) (sym is) (living-some entry.route route)
    by whos.Made may none = made-some row.kind request.made may made
    by (whos.Param n) may none = cc
    by (whos.Name name) may none = held-some e.names name names
