use Rattle.std.proofs.Common.{◌≡◌, ◌+◌, ◌≤◌, List, [], ◌∷◌, Some, None, option_map, false, refl, sym, ap, subst, ◌∙◌, rules}
use Rattle.std.specs.Prelude.{is_err}
use Rattle.std.proofs.lemmas.Int.{to_z-of_z}
use Rattle.std.proofs.lemmas.Option.{same_Some}
use mir.Val.{SFits}
use mir.Syntax.{w32}
use Rattle.actor_tree.specs.declared.actor.Actor.{Actor}
use Rattle.actor_tree.specs.Tree.{without}
use Rattle.ipdl_base.specs.declared.line.What.TheVariants as what
use Rattle.ipdl_base.specs.declared.message.Message.{Message}
use Rattle.ipdl_base.specs.declared.schema.MessageRow.{MessageRow}
use Rattle.ipdl_base.specs.declared.value.Values.{Values}
use Rattle.ipdl_base.specs.Plain.{plain_message, plain_values}
use Rattle.ipdl_base.specs.Sound.{message_of}
use Rattle.pending_queue.specs.Compression.{is_request}
use Rattle.pending_queue.proofs.PlainLemmas.{is_request-plain}
use Rattle.channel_model.specs.Events as event
use Rattle.channel_model.specs.Outputs.{line_at}
use Rattle.channel_model.specs.Takes.{dispatch_of, deferral_context_of}
use Rattle.channel_model.specs.ValueActors.{nulled}
use Rattle.end_steps.specs.BuiltActors.{with_built}
use Rattle.end_parts.specs.OutputView.{with_line}
use Rattle.channel_core.specs.declared.answers.Handling.{Handling}
use Rattle.channel_core.specs.declared.answers.TakeAnswer.TheVariants as answer
use Rattle.channel_core.specs.NextItems.{IsNextHandling}
use Rattle.channel_core.specs.EndView.{EndView}
use Rattle.channel_core.specs.Taken.{IsHandling, IsKindOf, TakeGives, TakeKind, kind_of}
use Rattle.channel_core.proofs.EndViews.{seen_in}
use Rattle.channel_core.proofs.HandleLemmas.{CodeHandles, handle_kind, handle_room, handled_with, handles}
use Rattle.channel_core.proofs.MadeLemmas.{seen_as, made_step, made_inside}
use Rattle.channel_core.proofs.NewActorLemmas.{new_free, new_left_out}
use Rattle.channel_core.proofs.TakeLemmas.{left_items, taken_message, when_ok}
use Rattle.channel_core.proofs.TrackLemmas.{tracks_begin}
use Rattle.channel_core.proofs.end.End.handle_request.Goals as goal

pub reserve_and_build-requires : goal.reserve_and_build-requires
reserve_and_build-requires c =
    let v = seen_in c.self.inside in
    let shown : Values = plain_values c.args.shown in
    let built = c.args.built in
    let n : IsNextHandling v shown built = subst (λ (s : EndView). IsNextHandling s shown built) (sym c.self.view_is) c.requires.next in
    new_free v shown built n c.self.invariant.kept

pub take_message-message-requires : goal.take_message-message-requires
take_message-message-requires c =
    let v = seen_in c.self.inside in
    let shown : Values = plain_values c.args.shown in
    let built = c.args.built in
    let n : IsNextHandling v shown built = subst (λ (s : EndView). IsNextHandling s shown built) (sym c.self.view_is) c.requires.next in
    let hold : c.args.holding.now ≡ deferral_context_of v.end = c.requires.holding ∙ ap (λ (s : EndView). deferral_context_of s.end) (sym c.self.view_is) in
    (taken_message v c.args.holding.now c.self.inside.pending.items n.m n.m refl hold n.is_next).0

pub unreachable-requires : goal.unreachable-requires
unreachable-requires c =
    let v = seen_in c.self.inside in
    let shown : Values = plain_values c.args.shown in
    let built = c.args.built in
    let n : IsNextHandling v shown built = subst (λ (s : EndView). IsNextHandling s shown built) (sym c.self.view_is) c.requires.next in
    let hold : c.args.holding.now ≡ deferral_context_of v.end = c.requires.holding ∙ ap (λ (s : EndView). deferral_context_of s.end) (sym c.self.view_is) in
    let taken : Message = c.take_message-message.result in
    let plain : plain_message taken ≡ n.m = (taken_message v c.args.holding.now c.self.inside.pending.items n.m taken refl hold n.is_next).1 c.take_message-message.ensures.taken in
    let none : None ≡ message_of v.schema taken.number = ap (λ r. option_map (λ x. x.now) r) (sym c.in_default.is) ∙ c.message.ensures in
    let bad : None ≡ Some n.handled.row = none ∙ ap (λ (m : Message). message_of v.schema m.number) plain ∙ n.handled.found in
    cc

pub handling_of-requires : goal.handling_of-requires
handling_of-requires c =
    let v = seen_in c.self.inside in
    let shown : Values = plain_values c.args.shown in
    let built = c.args.built in
    let n : IsNextHandling v shown built = subst (λ (s : EndView). IsNextHandling s shown built) (sym c.self.view_is) c.requires.next in
    let hold : c.args.holding.now ≡ deferral_context_of v.end = c.requires.holding ∙ ap (λ (s : EndView). deferral_context_of s.end) (sym c.self.view_is) in
    let taken : Message = c.take_message-message.result in
    let plain : plain_message taken ≡ n.m = (taken_message v c.args.holding.now c.self.inside.pending.items n.m taken refl hold n.is_next).1 c.take_message-message.ensures.taken in
    sym (is_request-plain taken.body) ∙ ap is_request (ap (λ (m : Message). m.body) plain ∙ n.handled.body)

pub invariant_of-self-2 : goal.invariant_of-self-2
invariant_of-self-2 c =
    let v = seen_in c.self.inside in
    let shown : Values = plain_values c.args.shown in
    let built = c.args.built in
    let n : IsNextHandling v shown built = subst (λ (s : EndView). IsNextHandling s shown built) (sym c.self.view_is) c.requires.next in
    let out = c.self.inside.out in
    let mid = c.reserve_and_build.new.out in
    let actors = c.reserve_and_build.new.tree in
    let hold : c.args.holding.now ≡ deferral_context_of v.end = c.requires.holding ∙ ap (λ (s : EndView). deferral_context_of s.end) (sym c.self.view_is) in
    let items = c.take_message-message.new.pending.items in
    let taken : Message = c.take_message-message.result in
    let plain : plain_message taken ≡ n.m = (taken_message v c.args.holding.now c.self.inside.pending.items n.m taken refl hold n.is_next).1 c.take_message-message.ensures.taken in
    let row : MessageRow = c.in-Some.row.now in
    let row_found : message_of v.schema taken.number ≡ Some row = sym c.message.ensures ∙ ap (λ r. option_map (λ x. x.now) r) c.in-Some.is in
    let same_row : n.handled.row ≡ row = same_Some n.handled.row row (sym n.handled.found ∙ ap (λ (m : Message). message_of v.schema m.number) (sym plain) ∙ row_found) in
    let ok : is_err c.reserve_and_build.result ≡ false = sym c.if-is_err.ensures.value in
    let seq_fits : SFits w32 taken.seq = search rules in
    let route_fits : SFits w32 taken.route = search rules in
    let plainly : c.push_line.new.self ≡ with_line mid (line_at v.end.side (what.Take taken.seq taken.route taken.number shown)) = simp (to_z-of_z, seq_fits, route_fits) at c.push_line.ensures in
    let tree : actors ≡ with_built built v.end.actors = when_ok c.reserve_and_build.result (actors ≡ with_built built v.end.actors) ok c.reserve_and_build.ensures.built in
    let stack = c.push_dispatch.new.stack in
    let out' = c.push_built.new.out in
    let h : CodeHandles v out mid c.push_line.new.self out' n.m n.handled.row shown built actors items stack = record {
      same = c.reserve_and_build.ensures.same;
      lines = when_ok c.reserve_and_build.result (out.lines_owed + 3 ≤ mid.line_spare) ok c.reserve_and_build.ensures.lines;
      packets = c.reserve_and_build.ensures.more_packets;
      tree = tree;
      leaves = left_items v c.args.holding.now c.self.inside.pending.items items refl hold c.take_message-message.ensures.rest;
      says = plainly ∙ ap (λ (m : Message). with_line mid (line_at v.end.side (what.Take m.seq m.route m.number shown))) plain;
      builds = c.push_built.ensures;
      dispatch = c.push_dispatch.ensures ∙ ap (λ (r : MessageRow). dispatch_of r taken ∷ v.end.stack) (sym same_row) ∙ ap (λ (m : Message). dispatch_of n.handled.row m ∷ v.end.stack) plain;
    } in
    let e = handled_with v.end actors items stack out' in
    let made = handles v shown built n out mid c.push_line.new.self out' actors items stack (tracks_begin v out refl refl refl c.self.invariant) h in
    made_inside v [] event.take e out out' made c.self.invariant c.self.invariant.kept.few tt (handle_room v shown built n out mid c.push_line.new.self out' actors items stack refl c.self.invariant h)

pub returns : goal.returns
returns c =
    let v = seen_in c.self.inside in
    let shown : Values = plain_values c.args.shown in
    let built = c.args.built in
    let n : IsNextHandling v shown built = subst (λ (s : EndView). IsNextHandling s shown built) (sym c.self.view_is) c.requires.next in
    let out = c.self.inside.out in
    let mid = c.reserve_and_build.new.out in
    let actors = c.reserve_and_build.new.tree in
    let hold : c.args.holding.now ≡ deferral_context_of v.end = c.requires.holding ∙ ap (λ (s : EndView). deferral_context_of s.end) (sym c.self.view_is) in
    let items = c.take_message-message.new.pending.items in
    let taken : Message = c.take_message-message.result in
    let plain : plain_message taken ≡ n.m = (taken_message v c.args.holding.now c.self.inside.pending.items n.m taken refl hold n.is_next).1 c.take_message-message.ensures.taken in
    let row : MessageRow = c.in-Some.row.now in
    let row_found : message_of v.schema taken.number ≡ Some row = sym c.message.ensures ∙ ap (λ r. option_map (λ x. x.now) r) c.in-Some.is in
    let same_row : n.handled.row ≡ row = same_Some n.handled.row row (sym n.handled.found ∙ ap (λ (m : Message). message_of v.schema m.number) (sym plain) ∙ row_found) in
    let ok : is_err c.reserve_and_build.result ≡ false = sym c.if-is_err.ensures.value in
    let seq_fits : SFits w32 taken.seq = search rules in
    let route_fits : SFits w32 taken.route = search rules in
    let plainly : c.push_line.new.self ≡ with_line mid (line_at v.end.side (what.Take taken.seq taken.route taken.number shown)) = simp (to_z-of_z, seq_fits, route_fits) at c.push_line.ensures in
    let tree : actors ≡ with_built built v.end.actors = when_ok c.reserve_and_build.result (actors ≡ with_built built v.end.actors) ok c.reserve_and_build.ensures.built in
    let stack = c.push_dispatch.new.stack in
    let out' = c.push_built.new.out in
    let h : CodeHandles v out mid c.push_line.new.self out' n.m n.handled.row shown built actors items stack = record {
      same = c.reserve_and_build.ensures.same;
      lines = when_ok c.reserve_and_build.result (out.lines_owed + 3 ≤ mid.line_spare) ok c.reserve_and_build.ensures.lines;
      packets = c.reserve_and_build.ensures.more_packets;
      tree = tree;
      leaves = left_items v c.args.holding.now c.self.inside.pending.items items refl hold c.take_message-message.ensures.rest;
      says = plainly ∙ ap (λ (m : Message). with_line mid (line_at v.end.side (what.Take m.seq m.route m.number shown))) plain;
      builds = c.push_built.ensures;
      dispatch = c.push_dispatch.ensures ∙ ap (λ (r : MessageRow). dispatch_of r taken ∷ v.end.stack) (sym same_row) ∙ ap (λ (m : Message). dispatch_of n.handled.row m ∷ v.end.stack) plain;
    } in
    let e = handled_with v.end actors items stack out' in
    let made = handles v shown built n out mid c.push_line.new.self out' actors items stack (tracks_begin v out refl refl refl c.self.invariant) h in
    let given = n.handled.given in
    let handling : Handling = c.handling_of.result in
    let told : IsHandling (plain_message taken) row (nulled v.schema (without taken.made actors) row.params given) handling = c.handling_of.ensures given (ap (λ (m : Message). m.body) plain ∙ n.handled.body) in
    let as_taken : IsHandling n.m row (nulled v.schema (without n.m.made actors) row.params given) handling = subst (λ (m : Message). IsHandling m row (nulled v.schema (without m.made actors) row.params given) handling) plain told in
    let of_row : IsHandling n.m n.handled.row (nulled v.schema (without n.m.made actors) n.handled.row.params given) handling =
    subst (λ (r : MessageRow). IsHandling n.m r (nulled v.schema (without n.m.made actors) r.params given) handling) (sym same_row) as_taken in
    let values : nulled v.schema (without n.m.made actors) n.handled.row.params given ≡ shown =
    ap (λ (xs : List Actor). nulled v.schema xs n.handled.row.params given) (new_left_out v shown built n c.self.invariant.kept actors tree) ∙ sym n.handled.nulls in
    let is : IsHandling n.m n.handled.row shown handling = subst (λ (ws : Values). IsHandling n.m n.handled.row ws handling) values of_row in
    let kind : IsKindOf (kind_of v) (answer.Handle handling) = subst (λ (k : TakeKind). IsKindOf k (answer.Handle handling)) (sym (handle_kind v shown built n)) is in
    subst (λ (s : EndView). TakeGives s (answer.Handle handling) (seen_as v e out')) c.self.view_is (kind, made_step v [] event.take e out' made)
