use Rattle.std.proofs.Common.{◌≡◌, ◌∙◌, List, ℕ, [], ◌∷◌, codes, refl, sym, ap, subst, arith, inl}
use Rattle.std.proofs.lemmas.Result.{IfOk-weaker}
use Rattle.std.specs.Prelude.{None, Some, map, string_bytes}
use Rattle.include_graph.specs.Keys.{AreFileWords}
use Rattle.ipdl_base.specs.Outside.{FileMap}
use Rattle.ipdl_top.specs.FileViews.{steady}
use Rattle.ipdl_top.specs.Gen.{case_files, case_path, files_of, holder_name, script_name}
use Rattle.ipdl_top.specs.CommandFiles.{NamedView, case_named, program_named}
use Rattle.ipdl_top.specs.FilesFound.{AreNamedFound, named_view}
use Rattle.ipdl_top.specs.declared.generation.CaseFiles.{CaseFiles}
use Rattle.ipdl_top.proofs.generation.read_case.Goals as goal

pub read_named-requires : goal.read_named-requires
read_named-requires c =
    let named : AreFileWords (holder_name ∷ []) = record { few = omega arith; files = ((codes "PGen", inl refl), tt) } in
    subst AreFileWords (sym (ap (λ (named : NamedView). named.program) c.named_of.ensures ∙ c.in_ok-names.ensures.program)) named

pub returns-clause-found : goal.returns-clause-found
returns-clause-found c =
    let case = case_files c.args.rounds c.args.actors in
    let files : files_of c.new-files.result.files.case ≡ case = ap (λ (files : CaseFiles). files_of files.case) c.new-files.ensures.files ∙ c.in_ok-case.ensures in
    let named : named_view c.named_of.result ≡ case_named =
    c.named_of.ensures
    ∙ ap (λ (path : List (List ℕ)). record (program_named None path (map string_bytes c.in_ok-names.names.program.items)) { script = Some script_name }) c.in_ok-names.ensures.path
    ∙ ap (λ (program : List (List ℕ)). record (program_named None case_path program) { script = Some script_name }) c.in_ok-names.ensures.program in
    IfOk-weaker c.read_named.result _ _
    (λ found reads. subst (λ (n : NamedView). AreNamedFound n (steady case) found) named (subst (λ (map : FileMap). AreNamedFound (named_view c.named_of.result) (steady map) found) files (reads.each (steady (files_of c.new-files.result.files.case)) reads.told_agrees))) c.read_named.ensures.reads
