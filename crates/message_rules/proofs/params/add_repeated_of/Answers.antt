use Rattle.std.proofs.Common.{◌≡◌, ℕ, List, [], ◌++◌, OnOk, sym, ◌∙◌, ap, subst}
use Rattle.std.proofs.lemmas.List.{append-nil}
use Rattle.ipdl_base.specs.declared.finding.Place.{Place}
use Rattle.ipdl_base.specs.declared.finding.TheConstants.Rule as rule
use Rattle.findings.specs.Adds.{Adds}
use Rattle.findings.specs.Repeats.{IsRepeatedAt}
use Rattle.message_rules.specs.Broken.{returns_of}
use Rattle.message_rules.specs.Gathered.{plain_names, param_names}
use Rattle.message_rules.proofs.Whole.{all_names}
use Rattle.message_rules.proofs.params.add_repeated_of.Goals as goal
use Rattle.message_rules.proofs.params.add_repeated_of.Goals.{in-Some+in_ok-add_names-2, in_default}

pub returns : goal.returns
returns c =
    let m = c.args.message.now in
    let first : plain_names c.add_names.new.names.items ≡ param_names m.params = rw (c.clear.ensures.items, c.as_slice.ensures) at c.in_ok-add_names.ensures in
    let whole : plain_names c.match-message.names.items ≡ param_names (m.params ++ returns_of m.returns) = elim c.match-message.branch [
      | in-Some+in_ok-add_names-2 w ↦ all_names m.params m.returns w.in-Some.returns _ (ap returns_of w.in-Some.is) (rw w.names-is (rw (first, w.as_slice-in-Some.ensures) at w.in_ok-add_names-2.ensures))
      | in_default w ↦ all_names m.params m.returns [] _ (ap returns_of w.in_default.is) (rw w.names-is (first ∙ sym (append-nil (param_names m.params))))
    ] in
    let P : List (List ℕ × Place) → Type 0 = λ names. OnOk c.add_repeated.result (Adds rule.REPEATED_PARAMETER (IsRepeatedAt names) c.args.found.now.items c.add_repeated.new.found.items) in
    subst P (ap plain_names c.as_slice-2.ensures.value ∙ whole) c.add_repeated.ensures
