use Rattle.std.proofs.Common.{◌∙◌, List, sym, ap, subst, refl, true, false}
use Rattle.ipdl_base.specs.declared.kinds.Side.{Side}
use Rattle.ipdl_base.specs.declared.line.Line.{Line}
use Rattle.script_steps.specs.Choices.{Setting}
use Rattle.thread_link.proofs.HalfMeetings.{few, fits-on, met-adds, met-grows}
use Rattle.thread_link.proofs.Seats.{told-seen, told-setting}
use Rattle.thread_link.proofs.pass.Exchange.turn.Goals as goal
use Rattle.thread_link.specs.Passes.{about}
use Rattle.thread_link.specs.Seats.{Adds}
use Rattle.world_core.specs.declared.link.Link.{Link}
use Rattle.world_core.specs.Halves.{FitsAfter, HasMet, IsHome, MeetEnds}

pub meet-answer-requires : goal.meet-answer-requires
meet-answer-requires g c =
    let t = c.take-shared.ensures in
    let setting = about c.args.self.now in
    let side = c.args.pass.now.side in
    let link = c.take-shared.result.link in
    let home : IsHome setting link = subst (λ (s : Setting). IsHome s link) c.requires.1.1.belongs.setting t.home in (
      subst (λ (at : Setting × Side). FitsAfter at.0 at.1 link.lines c.args.half.now) (sym c.requires.1.0) (fits-on c.halves_fit_after_more.ensures setting side _ link c.args.half.now c.requires.1.1.fits t.seen home),
      subst (λ (at : Setting × Side). IsHome at.0 link) (sym c.requires.1.0) home,
    )

pub give-turns-requires-clause-adds : goal.give-turns-requires-clause-adds
give-turns-requires-clause-adds g c =
    let t = c.take-shared.ensures in
    let side = c.args.pass.now.side in
    let met = subst (λ (at : Setting × Side). HasMet at.0 at.1 c.args.half.now c.take-shared.result.link c.meet-answer.new.self c.meet-answer.new.link) c.requires.1.0 c.meet-answer.ensures.met in
    subst (λ (ls : List Line). Adds side ls c.tell.new.self.link.lines) (sym (told-seen true side _ _ c.take-shared.new.seat.me _ t.me))
    (subst (λ (l : Link). Adds side c.take-shared.result.link.lines l.lines) (sym c.tell.ensures) (met-adds (about c.args.self.now) side _ _ _ _ met))

pub give-turns-requires-clause-home : goal.give-turns-requires-clause-home
give-turns-requires-clause-home g c =
    let t = c.take-shared.ensures in
    let side = c.args.pass.now.side in
    let met = subst (λ (at : Setting × Side). HasMet at.0 at.1 c.args.half.now c.take-shared.result.link c.meet-answer.new.self c.meet-answer.new.link) c.requires.1.0 c.meet-answer.ensures.met in
    subst (λ (s : Setting). IsHome s c.tell.new.self.link) (sym (told-setting true side _ _ c.take-shared.new.seat.me _ t.me ∙ c.requires.1.1.belongs.setting))
    (subst (IsHome (about c.args.self.now)) (sym c.tell.ensures) met.home)

pub give-turns-requires-clause-short : goal.give-turns-requires-clause-short
give-turns-requires-clause-short g c =
    let met = subst (λ (at : Setting × Side). HasMet at.0 at.1 c.args.half.now c.take-shared.result.link c.meet-answer.new.self c.meet-answer.new.link) c.requires.1.0 c.meet-answer.ensures.met in
    few (about c.args.self.now) c.tell.new.self.link (subst (IsHome (about c.args.self.now)) (sym c.tell.ensures) met.home)

pub returns-clause-meets : goal.returns-clause-meets
returns-clause-meets g c =
    let t = c.take-shared.ensures in
    let side = c.args.pass.now.side in
    let met = subst (λ (at : Setting × Side). HasMet at.0 at.1 c.args.half.now c.take-shared.result.link c.meet-answer.new.self c.meet-answer.new.link) c.requires.1.0 c.meet-answer.ensures.met in
    record {
      found = c.take-shared.result.link;
      left = c.meet-answer.new.link;
      front = t.seen;
      met = met;
      ends = subst (λ (at : Setting × Side). MeetEnds at.1 c.args.half.now c.meet-answer.result c.meet-answer.new.self c.meet-answer.new.link) c.requires.1.0 c.meet-answer.ensures.ends;
      told = told-seen false side _ _ c.give-turns.new.seat.me _ c.give-turns.ensures.me ∙ ap (λ (l : Link). l.lines) c.tell.ensures;
    }

pub returns-clause-worked : goal.returns-clause-worked
returns-clause-worked g c =
    let t = c.take-shared.ensures in
    let side = c.args.pass.now.side in
    let setting = about c.args.self.now in
    let met = subst (λ (at : Setting × Side). HasMet at.0 at.1 c.args.half.now c.take-shared.result.link c.meet-answer.new.self c.meet-answer.new.link) c.requires.1.0 c.meet-answer.ensures.met in
    let gave = c.give-turns.ensures in
    let told = told-seen false side _ _ c.give-turns.new.seat.me _ gave.me ∙ ap (λ (l : Link). l.lines) c.tell.ensures in
    record {
      at_work = record {
        side = refl;
        may = record {
          belongs = record {
            table = gave.table ∙ (t.table ∙ c.requires.1.1.belongs.table);
            setting = told-setting false side _ _ c.give-turns.new.seat.me _ gave.me ∙ (told-setting true side _ _ c.take-shared.new.seat.me _ t.me ∙ c.requires.1.1.belongs.setting);
          };
          fits = subst (λ (ls : List Line). FitsAfter setting side ls c.meet-answer.new.self) (sym told) met.fits;
        };
        grows = met-grows side _ _ _ _ t.seen (met-adds setting side _ _ _ _ met) told;
      };
      emptied = met.emptied;
    }
