use Rattle.std.proofs.Common.{List, [], ◌∷◌, Option, None, Some, unwrap_or, ap}
use Rattle.ipdl_syntax.specs.declared.tree.Param.{Param}
use Rattle.written_parts.specs.Attributes.{AttributesOf, told, borne_by, lists_of_params}
use Rattle.written_parts.specs.declared.attributes.Bearer.TheVariants as bearer
use Rattle.written_parts.proofs.Appending.{appends_none, appends_one, appends_then, appends_held}
use Rattle.written_parts.proofs.attributes.add_message.Goals as goal

returned : Option (List Param) → List AttributesOf
returned o = lists_of_params (unwrap_or o [])

pub returns-in_ok-add_params-2 : goal.returns-in_ok-add_params-2
unfolding returned
returns-in_ok-add_params-2 c =
    let m = c.args.message.now in
    appends_then told (borne_by bearer.Message m.attributes ∷ []) _ _ _ _ (appends_one told _ _ _ _ c.in_ok-push.ensures.items (ap (borne_by bearer.Message) c.as_slice.ensures))
    (appends_then told (lists_of_params m.params) (returned m.returns) _ _ _ (rw c.as_slice-2.ensures at c.in_ok-add_params.ensures)
    (appends_held told returned m.returns (Some c.in-Some.returns) _ _ c.in-Some.is (rw c.as_slice-in-Some.ensures at c.in_ok-add_params-2.ensures)))

pub returns-in_default : goal.returns-in_default
unfolding returned
returns-in_default c =
    let m = c.args.message.now in
    appends_then told (borne_by bearer.Message m.attributes ∷ []) _ _ _ _ (appends_one told _ _ _ _ c.in_ok-push.ensures.items (ap (borne_by bearer.Message) c.as_slice.ensures))
    (appends_then told (lists_of_params m.params) (returned m.returns) _ _ _ (rw c.as_slice-2.ensures at c.in_ok-add_params.ensures)
    (appends_held told returned m.returns None _ _ c.in_default.is (appends_none told c.add_params.new.lists.items)))
