use Rattle.std.proofs.Common.{◌≡◌, ◌≤◌, ℕ, map, length, ap, ◌∙◌, Vec, Global}
use Rattle.std.proofs.lemmas.Result.{IfOk-weaker}
use Rattle.program_schema.specs.Numbers.{AreProtocolFiles}
use Rattle.actor_tables.proofs.NamedFiles.{Named, files_ordered, files_few}
use Rattle.actor_tables.proofs.numbers.protocol_files.Goals as goal

pub returns-clause-files : goal.returns-clause-files
returns-clause-files c =
    IfOk-weaker c.files_of.result (λ (files : Vec ℕ Global). files.items ≡ map (λ (n : Named). n.1) c.as_slice.result.now) (λ (files : Vec ℕ Global). AreProtocolFiles c.args.program.now files.items)
    (λ (files : Vec ℕ Global) is. files_ordered c.args.program.now c.in_ok-named.named.items c.sort_unstable.new.self.items files.items c.requires.is_program c.requires.named c.in_ok-named.ensures c.sort_unstable.ensures.permutation
    c.sort_unstable.ensures.sorted (is ∙ ap (map (λ (n : Named). n.1)) c.as_slice.ensures.value))
    c.files_of.ensures

pub returns-clause-few : goal.returns-clause-few
returns-clause-few c =
    IfOk-weaker c.files_of.result (λ (files : Vec ℕ Global). files.items ≡ map (λ (n : Named). n.1) c.as_slice.result.now) (λ (files : Vec ℕ Global). length files.items ≤ 4096)
    (λ (files : Vec ℕ Global) is. files_few c.args.program.now c.in_ok-named.named.items c.sort_unstable.new.self.items files.items c.requires.is_program c.in_ok-named.ensures c.sort_unstable.ensures.permutation
    (is ∙ ap (map (λ (n : Named). n.1)) c.as_slice.ensures.value))
    c.files_of.ensures
