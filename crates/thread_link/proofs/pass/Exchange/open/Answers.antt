use Rattle.std.proofs.Common.{◌≡◌, ◌∙◌, ◌*◌, ◌<◌, ◌^◌, ℕ, List, [], ◌∷◌, Option, Some, ap, sym, subst, arith, length}
use Rattle.atomic_table.specs.Table.{Me, opening}
use Rattle.thread_link.proofs.Ends.{parts}
use Rattle.thread_link.proofs.HalfMeetings.{few}
use Rattle.thread_link.proofs.RuleSteps.{opens}
use Rattle.thread_link.proofs.pass.Exchange.open.Goals as goal
use Rattle.thread_link.specs.declared.parts.SeatView.{SeatView}
use Rattle.thread_link.specs.declared.parts.SharedLink.{SharedLink}
use Rattle.thread_link.specs.LinkRule.{IsLawful}
use Rattle.thread_link.specs.Steps.{first_view}
use Rattle.world_core.specs.declared.link.Link.{Link}
use Rattle.world_core.specs.HalfView.{HalfView, setting_of}
use Rattle.world_core.specs.Halves.{IsHome}

opens-with : (half topic : HalfView) (shared : SharedLink) (link told : Link) (n : ℕ) (slots : List (Option SharedLink)) → topic ≡ half → shared.link ≡ link → told ≡ link → n ≡ 4 * length link.lines → IsHome (setting_of half) link → slots ≡ Some shared ∷ []
    → IsLawful (setting_of topic) (opening (n ∷ 0 ∷ []) slots (first_view (setting_of topic) told.lines))
opens-with half topic shared link told n slots same e f four home is =
    let o = opens (setting_of half) shared n (subst (IsHome (setting_of half)) (sym e) home) (four ∙ ap (λ (l : Link). 4 * length l.lines) (sym e)) in
    subst (λ (h : HalfView). IsLawful (setting_of h) (opening (n ∷ 0 ∷ []) slots (first_view (setting_of h) told.lines))) (sym same)
    (subst (λ (xs : List (Option SharedLink)). IsLawful (setting_of half) (opening (n ∷ 0 ∷ []) xs (first_view (setting_of half) told.lines))) (sym is)
    (subst (λ (l : Link). IsLawful (setting_of half) (opening (n ∷ 0 ∷ []) (Some shared ∷ []) (first_view (setting_of half) l.lines))) (e ∙ sym f) o))

pub free_word-word-requires : goal.free_word-word-requires
free_word-word-requires c = subst (λ (n : ℕ). 4 * n < 2 ^ 64) (sym c.lines.ensures) (few (setting_of c.args.half.now) c.args.link c.requires.home)

pub new-requires : goal.new-requires
new-requires c =
    opens-with c.args.half.now c.topic_of-topic.result.half.value c.untouched.result c.args.link c.topic_of-topic.result.link.value c.free_word-word.result c.in-Ok.slots.items c.topic_of-topic.ensures.half c.untouched.ensures c.topic_of-topic.ensures.link
    (c.free_word-word.ensures ∙ ap (λ (n : ℕ). 4 * n) c.lines.ensures) c.requires.home c.in-Ok.ensures.ok

pub split_seat-child-requires : goal.split_seat-child-requires
split_seat-child-requires c =
    let t = c.in-Ok-new.ensures.ok in
    (t.2, omega (arith, t.0), parts (setting_of c.in-Ok-new.table.shared.key.half.value) c.in-Ok-new.parent.id c.in-Ok-new.parent.me.0 (ap (λ (m : Me (Option SharedLink) SeatView). m.0.holds) t.4))
