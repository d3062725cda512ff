use Rattle.std.proofs.Common.{◌≡◌, ◌<◌, ℤ, Bool, Some, None, refl, sym, ap, subst, ◌∙◌, option_map}
use mir.Val.{to_z, of_z}
use mir.Syntax.{w32}
use Rattle.ipdl_base.specs.declared.message.Message.{Message}
use Rattle.ipdl_base.specs.declared.schema.MessageRow.{MessageRow}
use Rattle.ipdl_base.specs.declared.value.Values.{Values}
use Rattle.ipdl_base.specs.Plain.{plain_body, plain_values, plain_message}
use Rattle.ipdl_base.specs.Sound.{message_of}
use Rattle.channel_model.specs.Numbers.{request_row}
use Rattle.channel_model.specs.Outputs.{is_open}
use Rattle.channel_model.specs.Sends.{send_refusal, request_of, frames_of}
use Rattle.end_steps.specs.Refusals.{send_refusal_by}
use Rattle.end_steps.specs.SentRequests.{values_carried}
use Rattle.channel_core.specs.Answers.{refusal_of_send}
use Rattle.channel_core.specs.EndView.{EndView}
use Rattle.channel_core.specs.Sending.{IsAccepted}
use Rattle.channel_core.specs.Steps.{MaySend}
use Rattle.channel_core.proofs.AcceptLemmas.{accepts, refused_so, row_is, refusal_at}
use Rattle.channel_core.proofs.EndViews.{seen_in}
use Rattle.channel_core.proofs.end.End.send.Goals as goal

pub refuse_send-requires-clause-refused : goal.refuse_send-requires-clause-refused
refuse_send-requires-clause-refused c =
    let v = seen_in c.self.inside in
    let vs = c.args.values.now in
    let name = option_map (λ n. n.now) c.args.name in
    let z : ℤ = to_z w32 (of_z w32 c.args.route) in
    let row : MessageRow = c.in-Some.row.now in
    let m : Message = request_of v.end row z vs in
    let may : MaySend v c.args.number (plain_values vs) name = subst (λ (s : EndView). MaySend s c.args.number (plain_values vs) name) (sym c.self.view_is) c.requires.may in
    let there : message_of v.schema c.args.number ≡ Some row = sym c.message.ensures ∙ ap (λ r. option_map (λ x. x.now) r) c.in-Some.is in
    let same : may.row ≡ row = row_is v c.args.number (plain_values vs) name row may there in
    let found : request_row v.schema c.args.number ≡ Some row = may.found ∙ ap (λ (r : MessageRow). Some r) same in
    let refused : c.send_refusal-refused.result ≡ send_refusal_by (is_open v.end.state) v.schema v.end.actors (frames_of v.end) row m vs =
    c.send_refusal-refused.ensures ∙ ap (λ (b : Bool). send_refusal_by b v.schema v.end.actors (frames_of v.end) row m vs) c.is_open.ensures in
    let here : refusal_of_send v z c.args.number (plain_values vs) ≡ Some c.in-Some-refused.cause =
    refusal_at v z c.args.number (plain_values vs) row found ∙ sym (refused_so v.schema v.end row z vs m refl) ∙ sym refused ∙ c.in-Some-refused.is in
    subst (λ (s : EndView). refusal_of_send s z c.args.number (plain_values vs) ≡ Some c.in-Some-refused.cause) c.self.view_is here

pub send_accepted-requires : goal.send_accepted-requires
send_accepted-requires c =
    let v = seen_in c.self.inside in
    let vs = c.args.values.now in
    let name = option_map (λ n. n.now) c.args.name in
    let row : MessageRow = c.in-Some.row.now in
    let m : Message = c.in-Ok.message in
    let may : MaySend v c.args.number (plain_values vs) name = subst (λ (s : EndView). MaySend s c.args.number (plain_values vs) name) (sym c.self.view_is) c.requires.may in
    let few : v.end.sent < 268435456 = subst (λ (s : EndView). s.end.sent < 268435456) (sym c.self.view_is) c.requires.few in
    let there : message_of v.schema c.args.number ≡ Some row = sym c.message.ensures ∙ ap (λ r. option_map (λ x. x.now) r) c.in-Some.is in
    let to : m.route ≡ to_z w32 (of_z w32 c.args.route) = ap (λ (x : Message). x.route) c.in-Ok.ensures in
    let is : plain_message m ≡ request_of v.end row m.route (plain_values vs) = c.in-Ok.ensures ∙ ap (λ (z : ℤ). request_of v.end row z (plain_values vs)) (sym to) in
    let z : ℤ = to_z w32 (of_z w32 c.args.route) in
    let asked : Message = request_of v.end row z vs in
    let refused : c.send_refusal-refused.result ≡ send_refusal_by (is_open v.end.state) v.schema v.end.actors (frames_of v.end) row asked vs =
    c.send_refusal-refused.ensures ∙ ap (λ (b : Bool). send_refusal_by b v.schema v.end.actors (frames_of v.end) row asked vs) c.is_open.ensures in
    let free : send_refusal v.schema v.end row m.route (plain_values vs) ≡ None =
    ap (λ (r : ℤ). send_refusal v.schema v.end row r (plain_values vs)) to ∙ sym (refused_so v.schema v.end row z vs asked refl) ∙ sym refused ∙ c.in-None.is in
    let carried : plain_values vs ≡ values_carried (plain_body m.body) = ap (λ (x : Message). values_carried x.body) (sym c.in-Ok.ensures) in
    subst (λ (s : EndView). IsAccepted s row (plain_message m) (values_carried (plain_body m.body)) name) c.self.view_is
    (subst (λ (ws : Values). IsAccepted v row (plain_message m) ws name) carried (accepts v c.args.number (plain_values vs) name row (plain_message m) may there free is few))
