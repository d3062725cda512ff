use Rattle.std.proofs.Common.{ℕ, take}
use Rattle.std.specs.Prelude.{◌↔◌}
use Rattle.std.specs.List.{Any, Contains}
use Rattle.name_table.specs.Decls.{FindsOneProtocol}
use Rattle.manager_rules.proofs.rows.files_of.Given as goal

-- the files of the names so far
abbrev pub invariant-loop-name : goal.invariant-loop-name
invariant-loop-name l = (other : ℕ) → Contains l.files.items other ↔ Any (λ n. FindsOneProtocol l.names l.file n.name other) (take l.name-index l.list)
