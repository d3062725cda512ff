use Rattle.std.proofs.Common.{◌≡◌, [], ◌∷◌, ap, subst}
use Rattle.std.specs.Prelude.{MatchOption}
use Rattle.world_core.proofs.KeptHalves.{put-gives-each}
use Rattle.world_core.proofs.half.Half.put.Goals as goal
use Rattle.world_core.specs.HalfView.{HalfView}

pub returns : goal.returns
returns c =
    put-gives-each c.args.self.now _ (ap (λ (h : HalfView). record h { end = c.outgoing.new.self }) c.self.view_is) c.outgoing.result
    (subst (λ (h : HalfView). MatchOption c.outgoing.result ((h.end.packets ≡ []) × (c.outgoing.new.self ≡ h.end)) (λ packet. h.end ≡ record c.outgoing.new.self { packets = packet ∷ c.outgoing.new.self.packets })) c.self.view_is c.outgoing.ensures)
