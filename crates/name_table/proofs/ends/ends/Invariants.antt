use Rattle.std.proofs.Common.{◌≡◌, ◌<◌, ℕ, List, true, slice_get, Some, Bor, Vec, Global}
use Rattle.std.specs.List.{slice_index_or}
use Rattle.name_table.specs.declared.decl.DeclId.{DeclId}
use Rattle.name_table.specs.Ends.{ends_of}
use Rattle.name_table.proofs.ends.ends.Given as goal

-- the ends of the texts so far are marked
abbrev pub invariant-loop-index : goal.invariant-loop-index
invariant-loop-index l = (i : ℕ) (e : Bor (List ℕ) × Vec DeclId Global) → i < l.index → slice_get l.rows.entries i ≡ Some e → slice_index_or l.marks.items (ends_of e.0.now) true ≡ true
