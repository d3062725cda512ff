use Rattle.std.proofs.Common.{sym, subst, None}
use Rattle.name_table.specs.declared.decl.DeclId.{DeclId}
use Rattle.name_table.specs.Candidates.{IsBuiltinOrEndpoint}
use Rattle.name_table.specs.Finds.{Finds, Counts}
use Rattle.name_table.proofs.Counting.{builtin_one, builtin_none}
use Rattle.name_table.proofs.names.Names.find.Goals as goal
use Rattle.name_table.proofs.names.Names.find.Goals.{in-Some-builtin_of, in-None-builtin_of}

pub with_declared-requires : goal.with_declared-requires
with_declared-requires c =
    let P = λ (d : DeclId). IsBuiltinOrEndpoint d × Finds c.args.self.now c.args.file c.as_slice-text.result.now None d in
    elim c.match-builtin_of.branch [
      | in-Some-builtin_of w ↦ subst (Counts P) (sym w.first-is) (builtin_one c.args.self.now c.args.file c.as_slice-text.result.now w.in-Some-builtin_of.builtin w.in-Some-builtin_of.ensures.some)
      | in-None-builtin_of w ↦ subst (Counts P) (sym w.first-is) (builtin_none c.args.self.now c.args.file c.as_slice-text.result.now w.in-None-builtin_of.ensures.none)
    ]
