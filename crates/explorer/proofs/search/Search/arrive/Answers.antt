use Rattle.std.proofs.Common.{◌||◌, ◌&&◌, Bool, Some, ap, leb, length, sym, ◌∙◌}
use Rattle.explorations.specs.Explorations.{most_states}
use Rattle.explorer.proofs.Going.{arrives-added, arrives-full}
use Rattle.explorer.specs.declared.search.Search.{Search}
use Rattle.explorer.proofs.search.Search.arrive.Goals as goal

pub returns-then-is_full : goal.returns-then-is_full
returns-then-is_full c =
    arrives-full c.args.self.now c.requires
    (ap (λ (b : Bool). leb most_states (length c.args.self.now.states.met.keys) || (b && leb c.args.self.now.most (length c.args.self.now.found.ways.items))) (sym c.is_quiet-quiet.ensures) ∙ sym c.is_full.ensures ∙ c.if-is_full.true)

pub returns : goal.returns
returns c =
    let n = c.add_rest.new.self in
    let a = c.in_ok-add_rest.ensures in
    let b = c.in_ok-add.ensures in
    arrives-added c.args.self.now (record { runner = n.runner; most = n.most; word = n.word; spots = n.spots; spot = n.spot; next = Some c.first_letter.result; states = n.states; found = n.found })
    c.is_quiet-quiet.result c.requires c.is_quiet-quiet.ensures (sym c.is_full.ensures ∙ c.if-is_full.false)
    (ap (λ (s : Search). s.states.histories) a.same ∙ b.same) (ap (λ (s : Search). s.states.met.keys) a.same ∙ b.added)
    (ap (λ (s : Search). s.runner) a.same) (ap (λ (s : Search). s.most) a.same) (ap (λ (s : Search). s.word) a.same) (ap (λ (s : Search). s.spots) a.same) (ap (λ (s : Search). s.spot) a.same)
    (ap Some c.first_letter.ensures) (a.whole ∙ c.requires.whole) a.added
