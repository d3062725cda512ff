use Rattle.std.proofs.Common.{SFits, w32, rules, to_z-of_z}
use Rattle.history_reading.proofs.WantedLemmas.{first_here, first_later}
use Rattle.history_reading.proofs.nulled.+wanted.Goals as goal

pub wanted_in_each-returns-in-Some : goal.wanted_in_each-returns-in-Some
wanted_in_each-returns-in-Some t c =
    let fits : SFits w32 c.in-Some.id = search rules in
    rw (c.in-First.is, to_z-of_z fits) (first_here c.args.wanted _ _ _ _ (rw c.deref.ensures at c.in-Some.ensures))

pub wanted_in_each-returns-in-None : goal.wanted_in_each-returns-in-None
wanted_in_each-returns-in-None t c =
    rw c.in-First.is (first_later c.args.wanted _ _ _ _ (rw c.deref.ensures at c.in-None.ensures) (rw c.deref-in-None.ensures at c.wanted_in_each.ensures))

pub wanted_in_fields-returns-in-Some : goal.wanted_in_fields-returns-in-Some
wanted_in_fields-returns-in-Some t c =
    let fits : SFits w32 c.in-Some.id = search rules in
    rw (c.in-First.is, to_z-of_z fits) (first_here c.args.wanted _ _ _ _ (rw (c.deref.ensures, c.split_fields.ensures.first) at c.in-Some.ensures))

pub wanted_in_fields-returns-in-None : goal.wanted_in_fields-returns-in-None
wanted_in_fields-returns-in-None t c =
    rw c.in-First.is
    (first_later c.args.wanted _ _ _ _ (rw (c.deref.ensures, c.split_fields.ensures.first) at c.in-None.ensures) (rw (c.deref-in-None.ensures, c.split_fields.ensures.others) at c.wanted_in_fields.ensures))
