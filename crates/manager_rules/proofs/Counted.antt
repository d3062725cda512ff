-- What the number of found declarations means for a single one.
use Rattle.std.proofs.Common.{◌≡◌, ℕ, ap, sym, ◌∙◌}
use Rattle.name_table.specs.declared.decl.DeclId.{DeclId}
use Rattle.name_table.specs.declared.decl.DeclId.TheVariants.{Protocol}
use Rattle.name_table.specs.declared.decl.Found.{Found}
use Rattle.name_table.specs.declared.decl.Found.TheVariants as found
use Rattle.name_table.specs.Finds.{Counts}

-- if there is exactly one, the answer is that one
pub counted_one : (P : DeclId → Type 0) (answer : Found) (d : DeclId) → Counts P answer → Counts P (found.One d) → answer ≡ found.One d
counted_one P found.None d counts one = absurd (counts d one.0)
counted_one P (found.One e) d counts one = ap found.One (one.1 e counts.0)
counted_one P (found.Many e f) d counts one = absurd (counts.2 (one.1 e counts.0 ∙ sym (one.1 f counts.1)))

protocol_number : DeclId → ℕ
protocol_number (Protocol p) = p
protocol_number _ = 0

-- one protocol at most is the only one
pub one_number : (P : DeclId → Type 0) (a b : ℕ) → Counts P (found.One (Protocol a)) → Counts P (found.One (Protocol b)) → a ≡ b
unfolding protocol_number
one_number P a b one other = ap protocol_number (other.1 (Protocol a) one.0)
