use Rattle.std.proofs.Common.{◌≡◌, ℤ, true, ◌++◌, refl, sym, ap, subst, ◌∙◌, rules, to_z, of_z}
use mir.Syntax.{w32}
use Rattle.std.proofs.lemmas.Int.{to_z-of_z}
use Rattle.ipdl_base.specs.declared.line.What.TheVariants as what
use Rattle.channel_model.specs.Events as event
use Rattle.channel_model.specs.Names.{holding, without_name}
use Rattle.channel_model.specs.Outputs.{line_at}
use Rattle.channel_model.specs.Sends.{may_act}
use Rattle.end_parts.specs.NameContents.{holds_at, shown_id}
use Rattle.end_parts.specs.OutputView.{with_line}
use Rattle.end_steps.specs.Renamings.{with_destroyed}
use Rattle.channel_core.specs.EndView.{EndView}
use Rattle.channel_core.specs.Steps.{IsStep}
use Rattle.channel_core.proofs.ActLemmas.{acted_end, CodeNames, name-steps, names-acts}
use Rattle.channel_core.proofs.EndViews.{seen_in}
use Rattle.channel_core.proofs.MadeLemmas.{seen_as}
use Rattle.channel_core.proofs.TrackLemmas.{tracks_begin}
use Rattle.channel_core.proofs.end.End.name_actor.Goals as goal

pub invariant_of-self-2 : goal.invariant_of-self-2
invariant_of-self-2 c =
    let v = seen_in c.self.inside in
    let name = c.args.name.now in
    let id = c.args.id in
    let out = c.self.inside.out in
    let new = c.in_ok-shown.field-0 in
    let ready = c.new_name.new.names in
    let room = c.new_name.new.out in
    let may : may_act v.end ≡ true = subst (λ (s : EndView). may_act s.end ≡ true) (sym c.self.view_is) c.requires in
    let id_is : to_z w32 (of_z w32 id) ≡ id = to_z-of_z w32 id c.ranges.id in
    let shown : to_z w32 (of_z w32 c.shown_id.result) ≡ shown_id id = to_z-of_z w32 c.shown_id.result (search rules) ∙ c.shown_id.ensures ∙ ap shown_id id_is in
    let did : CodeNames v (λ n. what.Let n (shown_id id)) name (holds_at id) out c.is_open.result new ready room c.push_named.new.out c.hold_actor.new.self.names = record {
      opens = c.is_open.ensures;
      makes = c.in_ok-shown.ensures.ok;
      reserves = c.new_name.ensures.same;
      keeps = c.new_name.ensures.names;
      pushes = c.push_named.ensures ∙ ap (λ (z : ℤ). with_destroyed v.end.side (with_line room (line_at v.end.side (what.Let new.shown z))) new.destroyed) shown;
      holds_it = c.hold_actor.ensures ∙ ap (λ (z : ℤ). without_name new.held ready.names ++ holding new.held (holds_at z)) id_is;
    } in
    let acts = names-acts v (event.name name id) (λ n. what.Let n (shown_id id)) v.end.stack name (holds_at id) out c.is_open.result new ready room c.push_named.new.out c.hold_actor.new.self.names (name-steps v name id may) refl (tracks_begin v out refl refl refl c.self.invariant) c.self.invariant did in
    acts.inside

pub returns-clause-ok : goal.returns-clause-ok
returns-clause-ok c =
    let v = seen_in c.self.inside in
    let name = c.args.name.now in
    let id = c.args.id in
    let out = c.self.inside.out in
    let new = c.in_ok-shown.field-0 in
    let ready = c.new_name.new.names in
    let room = c.new_name.new.out in
    let may : may_act v.end ≡ true = subst (λ (s : EndView). may_act s.end ≡ true) (sym c.self.view_is) c.requires in
    let id_is : to_z w32 (of_z w32 id) ≡ id = to_z-of_z w32 id c.ranges.id in
    let shown : to_z w32 (of_z w32 c.shown_id.result) ≡ shown_id id = to_z-of_z w32 c.shown_id.result (search rules) ∙ c.shown_id.ensures ∙ ap shown_id id_is in
    let did : CodeNames v (λ n. what.Let n (shown_id id)) name (holds_at id) out c.is_open.result new ready room c.push_named.new.out c.hold_actor.new.self.names = record {
      opens = c.is_open.ensures;
      makes = c.in_ok-shown.ensures.ok;
      reserves = c.new_name.ensures.same;
      keeps = c.new_name.ensures.names;
      pushes = c.push_named.ensures ∙ ap (λ (z : ℤ). with_destroyed v.end.side (with_line room (line_at v.end.side (what.Let new.shown z))) new.destroyed) shown;
      holds_it = c.hold_actor.ensures ∙ ap (λ (z : ℤ). without_name new.held ready.names ++ holding new.held (holds_at z)) id_is;
    } in
    let acts = names-acts v (event.name name id) (λ n. what.Let n (shown_id id)) v.end.stack name (holds_at id) out c.is_open.result new ready room c.push_named.new.out c.hold_actor.new.self.names (name-steps v name id may) refl (tracks_begin v out refl refl refl c.self.invariant) c.self.invariant did in
    subst (λ (s : EndView). IsStep s (event.name name id) (seen_as v (acted_end v v.end.stack c.hold_actor.new.self.names c.push_named.new.out) c.push_named.new.out)) c.self.view_is acts.steps
