use Rattle.std.proofs.Common.{◌≡◌, List, ℕ, ap, subst, sym}
use Rattle.std.specs.Option.{option_copied}
use Rattle.std.specs.Prelude.{IfOk, IfSome, Option, Some}
use Rattle.ipdl_base.specs.Outside.{IsHeldWithin}
use Rattle.file_log.specs.Log.{ForReads}
use Rattle.file_log.specs.Recorded.{files_of, reads_of}
use Rattle.file_log.proofs.Between.{no_reads, no_reads_failed, read_ends}
use Rattle.ipdl_top.proofs.Found.{read_so}
use Rattle.ipdl_top.proofs.reading.read_if_named.Goals as goal

pub returns-in-Some-clause-reads : goal.returns-in-Some-clause-reads
returns-in-Some-clause-reads g c =
    let told = g.F.Files.known (files_of c.args.files.now) in
    let old = reads_of c.args.files.now in
    let new = reads_of c.read.new.self in
    let limit = c.args.limit in
    let name = c.in-Some.name.now in
    let word : option_copied c.args.name ≡ Some name = ap option_copied c.in-Some.is in
    subst (λ (o : Option (List ℕ)). IfOk c.read.result (λ found. ForReads told old new (λ map. IfSome o (λ w. IsHeldWithin limit (map w) found)))) (sym word)
    (read_so told old new name limit c.read.result c.read.ensures.logged c.read.ensures.small c.read.ensures.held)

pub returns-in-Some-clause-ended : goal.returns-in-Some-clause-ended
returns-in-Some-clause-ended g c = read_ends (reads_of c.args.files.now) (reads_of c.read.new.self) c.in-Some.name.now c.args.limit c.read.result c.read.ensures.logged

pub returns-in-None-clause-reads : goal.returns-in-None-clause-reads
returns-in-None-clause-reads g c = no_reads _ _ _ (λ map. rw c.in-None.is tt)

pub returns-in-None-clause-ended : goal.returns-in-None-clause-ended
returns-in-None-clause-ended g c = no_reads_failed _
