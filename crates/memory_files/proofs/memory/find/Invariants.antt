use Rattle.std.proofs.Common.{◌≡◌, drop, map}
use Rattle.std.specs.Prelude.{string_bytes}
use Rattle.memory_files.specs.Memory.{file_named}
use Rattle.memory_files.proofs.memory.find.Given as goal

-- the files that are left decide
abbrev pub invariant-loop-file : goal.invariant-loop-file
invariant-loop-file l =
    file_named (map (λ f. (string_bytes f.0, f.1.items)) (drop l.file-index l.files)) l.name ≡ file_named (map (λ f. (string_bytes f.0, f.1.items)) l.files) l.name
