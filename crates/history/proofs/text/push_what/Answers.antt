use Rattle.std.proofs.Common.{◌≡◌, ◌++◌, ℤ, SFits, w32, rules, subst, to_z-of_z, codes}
use Rattle.std.specs.Result.{OnOk}
use Rattle.history.specs.Text.{numbered}
use Rattle.history.proofs.Lines.{put_one}
use Rattle.history.proofs.text.push_what.Goals as goal

pub returns-in-DeliverRequest : goal.returns-in-DeliverRequest
returns-in-DeliverRequest c =
    let p = c.push_numbered-in-DeliverRequest in
    let fits : SFits w32 c.in-DeliverRequest.n = search rules in
    rw c.in-DeliverRequest.is (subst (λ (n : ℤ). OnOk p.result (p.new.out.items ≡ c.args.out.now.items ++ numbered (codes "deliver request ") n)) (to_z-of_z fits) p.ensures)

pub returns-in-DeliverReply : goal.returns-in-DeliverReply
returns-in-DeliverReply c =
    let p = c.push_numbered-in-DeliverReply in
    let fits : SFits w32 c.in-DeliverReply.n = search rules in
    rw c.in-DeliverReply.is (subst (λ (n : ℤ). OnOk p.result (p.new.out.items ≡ c.args.out.now.items ++ numbered (codes "deliver reply ") n)) (to_z-of_z fits) p.ensures)

pub returns-in-DeliverBroken : goal.returns-in-DeliverBroken
returns-in-DeliverBroken c = let e = c.extend_from_slice-in-DeliverBroken in rw c.in-DeliverBroken.is (put_one e.result c.args.out.now.items _ e.new.self.items e.ensures.items)

pub returns-in-ShutNormal : goal.returns-in-ShutNormal
returns-in-ShutNormal c = let e = c.extend_from_slice-in-ShutNormal in rw c.in-ShutNormal.is (put_one e.result c.args.out.now.items _ e.new.self.items e.ensures.items)

pub returns-in-ShutAbnormal : goal.returns-in-ShutAbnormal
returns-in-ShutAbnormal c = let e = c.extend_from_slice-in-ShutAbnormal in rw c.in-ShutAbnormal.is (put_one e.result c.args.out.now.items _ e.new.self.items e.ensures.items)
