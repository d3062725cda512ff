use Rattle.std.proofs.Common.{◌≡◌, ℕ, List, Option, None, sym, ap, subst, option_map}
use Rattle.ipdl_base.specs.declared.schema.Kind.{Kind}
use Rattle.ipdl_base.specs.Plain.{plain_body, plain_message}
use Rattle.channel_model.specs.Numbers.{is_constructor}
use Rattle.end_steps.specs.SentRequests.{values_carried}
use Rattle.channel_core.specs.Answers.{SendGives}
use Rattle.channel_core.specs.Sending.{IsAccepted}
use Rattle.channel_core.proofs.AcceptLemmas.{no_name}
use Rattle.channel_core.proofs.end.End.send_accepted.Goals as goal

pub send_lazy-requires-clause-accepted : goal.send_lazy-requires-clause-accepted
send_lazy-requires-clause-accepted c =
    let name = option_map (λ n. n.now) c.args.name in
    let none : name ≡ None = no_name c.args.self.now c.args.row.now (plain_message c.args.message) (values_carried (plain_body c.args.message.body)) name c.requires (ap (λ (k : Kind). is_constructor k) c.in-Normal.is) in
    subst (λ (n : Option (List ℕ)). IsAccepted c.args.self.now c.args.row.now (plain_message c.args.message) (values_carried (plain_body c.args.message.body)) n) none c.requires

pub send_eager-requires-clause-accepted : goal.send_eager-requires-clause-accepted
send_eager-requires-clause-accepted c =
    let name = option_map (λ n. n.now) c.args.name in
    let none : name ≡ None = no_name c.args.self.now c.args.row.now (plain_message c.args.message) (values_carried (plain_body c.args.message.body)) name c.requires (ap (λ (k : Kind). is_constructor k) c.in-Normal.is) in
    subst (λ (n : Option (List ℕ)). IsAccepted c.args.self.now c.args.row.now (plain_message c.args.message) (values_carried (plain_body c.args.message.body)) n) none c.requires

pub send_destructor-requires-clause-accepted : goal.send_destructor-requires-clause-accepted
send_destructor-requires-clause-accepted c =
    let name = option_map (λ n. n.now) c.args.name in
    let none : name ≡ None = no_name c.args.self.now c.args.row.now (plain_message c.args.message) (values_carried (plain_body c.args.message.body)) name c.requires (ap (λ (k : Kind). is_constructor k) c.in-Delete.is) in
    subst (λ (n : Option (List ℕ)). IsAccepted c.args.self.now c.args.row.now (plain_message c.args.message) (values_carried (plain_body c.args.message.body)) n) none c.requires

pub returns-then-row : goal.returns-then-row
returns-then-row c =
    let name = option_map (λ n. n.now) c.args.name in
    let none : name ≡ None = no_name c.args.self.now c.args.row.now (plain_message c.args.message) (values_carried (plain_body c.args.message.body)) name c.requires (ap (λ (k : Kind). is_constructor k) c.in-Normal.is) in
    subst (λ (n : Option (List ℕ)). SendGives c.args.self.now c.args.message.route c.args.row.now.number (values_carried (plain_body c.args.message.body)) n c.send_lazy.result c.send_lazy.new.self) (sym none) c.send_lazy.ensures

pub returns-else-row : goal.returns-else-row
returns-else-row c =
    let name = option_map (λ n. n.now) c.args.name in
    let none : name ≡ None = no_name c.args.self.now c.args.row.now (plain_message c.args.message) (values_carried (plain_body c.args.message.body)) name c.requires (ap (λ (k : Kind). is_constructor k) c.in-Normal.is) in
    subst (λ (n : Option (List ℕ)). SendGives c.args.self.now c.args.message.route c.args.row.now.number (values_carried (plain_body c.args.message.body)) n c.send_eager.result c.send_eager.new.self) (sym none) c.send_eager.ensures

pub returns-in-Delete : goal.returns-in-Delete
returns-in-Delete c =
    let name = option_map (λ n. n.now) c.args.name in
    let none : name ≡ None = no_name c.args.self.now c.args.row.now (plain_message c.args.message) (values_carried (plain_body c.args.message.body)) name c.requires (ap (λ (k : Kind). is_constructor k) c.in-Delete.is) in
    subst (λ (n : Option (List ℕ)). SendGives c.args.self.now c.args.message.route c.args.row.now.number (values_carried (plain_body c.args.message.body)) n c.send_destructor.result c.send_destructor.new.self) (sym none) c.send_destructor.ensures
