use Rattle.std.proofs.Common.{◌≡◌, ◌≤◌, ◌≢◌, ◌/◌, ◌%◌, length, Some, None, sym, ◌∙◌, ap, arith}
use Rattle.std.specs.List.{slice_get}
use Rattle.std.proofs.lemmas.Option.{slice_get_past}
use Rattle.std.proofs.lemmas.Bool.Decides.{nat_tests}
use Rattle.ipdl_base.proofs.Numbers.{slice_get-same, no_protocol, no_message, request_found, reply_found, no_reply}
use Rattle.ipdl_base.proofs.schema.Schema.message.Goals as goal
use Rattle.ipdl_base.proofs.schema.Schema.message.Goals.{then-number-eq0, else-number-eq0}

pub returns-in_err-protocol : goal.returns-in_err-protocol
returns-in_err-protocol c =
    rw c.from_residual.ensures (no_protocol c.args.self.now c.args.number c.requires (sym c.in_err-protocol.ensures))

pub returns-in_err-message : goal.returns-in_err-message
returns-in_err-message c =
    let f = c.in_err-message.ensures.lookup in
    let beyond : length c.as_slice.result.now ≤ c.args.number % 65536 / 2 = grind (arith, nat_tests, f) in
    let past : slice_get c.in_ok-protocol.protocol.now.messages (c.args.number % 65536 / 2) ≡ None =
    ap (λ xs. slice_get xs (c.args.number % 65536 / 2)) (sym c.as_slice.ensures) ∙ slice_get_past c.as_slice.result.now (c.args.number % 65536 / 2) beyond
    in
    rw c.from_residual-in_err-message.ensures (no_message c.args.self.now c.args.number c.requires c.in_ok-protocol.protocol.now (sym c.in_ok-protocol.ensures) past)

pub returns-then-has_reply : goal.returns-then-has_reply
returns-then-has_reply c =
    let f = c.in_ok-message.ensures.lookup in
    let at : slice_get c.in_ok-protocol.protocol.now.messages (c.args.number % 65536 / 2) ≡ Some c.in_ok-message.message.now =
    slice_get-same _ _ _ _ c.as_slice.ensures f.3.0 f.1
    in
    elim c.if-number-eq0.branch [
      | then-number-eq0 w ↦ request_found c.args.self.now c.args.number c.requires c.in_ok-protocol.protocol.now (sym c.in_ok-protocol.ensures) c.in_ok-message.message.now at w.if-number-eq0.true
      | else-number-eq0 w ↦ reply_found c.args.self.now c.args.number c.requires c.in_ok-protocol.protocol.now (sym c.in_ok-protocol.ensures) c.in_ok-message.message.now at w.if-number-eq0.false (cc)
    ]

pub returns-else-has_reply : goal.returns-else-has_reply
returns-else-has_reply c =
    let f = c.in_ok-message.ensures.lookup in
    let at : slice_get c.in_ok-protocol.protocol.now.messages (c.args.number % 65536 / 2) ≡ Some c.in_ok-message.message.now =
    slice_get-same _ _ _ _ c.as_slice.ensures f.3.0 f.1
    in
    elim c.if-number-eq0.branch [
      | then-number-eq0 w ↦ (let not_even : c.args.number % 2 ≢ 0 = grind (arith, nat_tests) in absurd (not_even w.if-number-eq0.true))
      | else-number-eq0 w ↦ no_reply c.args.self.now c.args.number c.requires c.in_ok-protocol.protocol.now (sym c.in_ok-protocol.ensures) c.in_ok-message.message.now at w.if-number-eq0.false (cc)
    ]
