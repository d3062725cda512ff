use Rattle.std.proofs.lemmas.Bool.Decides.{Decides-at, Decides-like, Decides-eqb}
use Rattle.std.proofs.lemmas.Map.Made.{is_member-Decides}
use Rattle.manager_rules.proofs.rows.row_of.Goals as goal

pub returns : goal.returns
returns c =
    let told = c.in_ok-files.ensures in
    record {
      files = told;
      set = λ other. Decides-at _ _ (c.in_ok-set.ensures.0 other) (rw c.as_slice.ensures.value (Decides-like _ (told other).0 (told other).1 (is_member-Decides Decides-eqb c.in_ok-files.files.items other)));
    }
