use Rattle.std.proofs.Common.{◌≡◌, ℤ, true, Some, refl, sym, ap, subst, ◌∙◌, rules, to_z, of_z}
use mir.Syntax.{w32}
use Rattle.std.proofs.lemmas.Int.{to_z-of_z}
use Rattle.ipdl_base.specs.declared.line.What.TheVariants as what
use Rattle.channel_model.specs.Answers.{handled_resolver, kept_by, released}
use Rattle.channel_model.specs.Events as event
use Rattle.channel_model.specs.Outputs.{line_at}
use Rattle.channel_model.specs.Sends.{may_act}
use Rattle.end_parts.specs.OutputView.{with_line}
use Rattle.end_steps.specs.Renamings.{with_destroyed}
use Rattle.channel_core.specs.Room.{waits_in}
use Rattle.channel_core.specs.EndView.{EndView}
use Rattle.channel_core.specs.Steps.{IsStep}
use Rattle.channel_core.proofs.ActLemmas.{acted_end, CodeNames, keep-steps, names-acts, waits-released}
use Rattle.channel_core.proofs.EndViews.{seen_in}
use Rattle.channel_core.proofs.MadeLemmas.{seen_as}
use Rattle.channel_core.proofs.TrackLemmas.{tracks_begin}
use Rattle.channel_core.proofs.end.End.keep.Goals as goal

pub invariant_of-self-in-Ok : goal.invariant_of-self-in-Ok
invariant_of-self-in-Ok c =
    let v = seen_in c.self.inside in
    let r = c.args.resolver in
    let name = c.args.name.now in
    let out = c.self.inside.out in
    let new = c.in-Ok.new in
    let ready = c.new_name-new.new.names in
    let room = c.new_name-new.new.out in
    let may : may_act v.end ≡ true = subst (λ (s : EndView). may_act s.end ≡ true) (sym c.self.view_is) c.requires.may in
    let own : handled_resolver v.end r.seq ≡ Some r = subst (λ (s : EndView). handled_resolver s.end r.seq ≡ Some r) (sym c.self.view_is) c.requires.own in
    let seq : to_z w32 (of_z w32 c.seq-seq.result) ≡ r.seq = to_z-of_z w32 c.seq-seq.result (search rules) ∙ c.seq-seq.ensures in
    let stack : c.release.new.self ≡ released r.seq v.end.stack = c.release.ensures ∙ ap (λ (z : ℤ). released z v.end.stack) seq in
    let did : CodeNames v (λ n. what.Keep r.seq n) name (kept_by v.end r) out c.is_open.result new ready room c.push_named.new.out c.hold_resolver.new.names.names = record {
      opens = c.is_open.ensures;
      makes = c.in-Ok.ensures.ok;
      reserves = c.new_name-new.ensures.same;
      keeps = c.new_name-new.ensures.names;
      pushes = c.push_named.ensures ∙ ap (λ (z : ℤ). with_destroyed v.end.side (with_line room (line_at v.end.side (what.Keep z new.shown))) new.destroyed) seq;
      holds_it = c.hold_resolver.ensures;
    } in
    let acts = names-acts v (event.keep r.seq name) (λ n. what.Keep r.seq n) c.release.new.self name (kept_by v.end r) out c.is_open.result new ready room c.push_named.new.out c.hold_resolver.new.names.names
    (keep-steps v r name c.release.new.self stack may own) (ap waits_in stack ∙ waits-released r.seq v.end.stack) (tracks_begin v out refl refl refl c.self.invariant) c.self.invariant did in
    acts.inside

pub returns-in-Ok : goal.returns-in-Ok
returns-in-Ok c =
    let v = seen_in c.self.inside in
    let r = c.args.resolver in
    let name = c.args.name.now in
    let out = c.self.inside.out in
    let new = c.in-Ok.new in
    let ready = c.new_name-new.new.names in
    let room = c.new_name-new.new.out in
    let may : may_act v.end ≡ true = subst (λ (s : EndView). may_act s.end ≡ true) (sym c.self.view_is) c.requires.may in
    let own : handled_resolver v.end r.seq ≡ Some r = subst (λ (s : EndView). handled_resolver s.end r.seq ≡ Some r) (sym c.self.view_is) c.requires.own in
    let seq : to_z w32 (of_z w32 c.seq-seq.result) ≡ r.seq = to_z-of_z w32 c.seq-seq.result (search rules) ∙ c.seq-seq.ensures in
    let stack : c.release.new.self ≡ released r.seq v.end.stack = c.release.ensures ∙ ap (λ (z : ℤ). released z v.end.stack) seq in
    let did : CodeNames v (λ n. what.Keep r.seq n) name (kept_by v.end r) out c.is_open.result new ready room c.push_named.new.out c.hold_resolver.new.names.names = record {
      opens = c.is_open.ensures;
      makes = c.in-Ok.ensures.ok;
      reserves = c.new_name-new.ensures.same;
      keeps = c.new_name-new.ensures.names;
      pushes = c.push_named.ensures ∙ ap (λ (z : ℤ). with_destroyed v.end.side (with_line room (line_at v.end.side (what.Keep z new.shown))) new.destroyed) seq;
      holds_it = c.hold_resolver.ensures;
    } in
    let acts = names-acts v (event.keep r.seq name) (λ n. what.Keep r.seq n) c.release.new.self name (kept_by v.end r) out c.is_open.result new ready room c.push_named.new.out c.hold_resolver.new.names.names
    (keep-steps v r name c.release.new.self stack may own) (ap waits_in stack ∙ waits-released r.seq v.end.stack) (tracks_begin v out refl refl refl c.self.invariant) c.self.invariant did in
    subst (λ (s : EndView). IsStep s (event.keep r.seq name) (seen_as v (acted_end v c.release.new.self c.hold_resolver.new.names.names c.push_named.new.out) c.push_named.new.out)) c.self.view_is acts.steps
