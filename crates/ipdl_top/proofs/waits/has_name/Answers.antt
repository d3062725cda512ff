use Rattle.std.proofs.Common.{◌≡◌, ◌∙◌, ◌++◌, List, ℕ, ap, codes}
use Rattle.std.specs.Str.{bytes_eq}
use Rattle.ipdl_base.specs.Words.{short_name}
use Rattle.ipdl_base.specs.FileNames.{key_of}
use Rattle.ipdl_top.proofs.Tops.{bears-cut, bears-none}
use Rattle.ipdl_top.proofs.waits.has_name.Goals as goal

pub returns-in-Some : goal.returns-in-Some
returns-in-Some c =
    let own : c.short_name.result.now ≡ short_name c.args.row.now.name = c.short_name.ensures ∙ ap short_name c.as_slice.ensures in
    let key : c.key_of.result.now ≡ key_of c.args.file.now = c.key_of.ensures ∙ ap key_of c.as_bytes.ensures.value in
    c.eq.ensures ∙ bears-cut c.short_name.result.now c.in-Some.name.now c.key_of.result.now c.in-Some.ensures.cases.0 c.in-Some.ensures.cases.1
    ∙ ap (λ (o : List ℕ). bytes_eq (o ++ codes ".ipdl") c.key_of.result.now) own ∙ ap (bytes_eq (short_name c.args.row.now.name ++ codes ".ipdl")) key

pub returns-in-None : goal.returns-in-None
returns-in-None c =
    let key : c.key_of.result.now ≡ key_of c.args.file.now = c.key_of.ensures ∙ ap key_of c.as_bytes.ensures.value in
    bears-none (short_name c.args.row.now.name) c.key_of.result.now c.in-None.ensures.cases ∙ ap (bytes_eq (short_name c.args.row.now.name ++ codes ".ipdl")) key
