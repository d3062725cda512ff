-- What holds for what a call sees of the files, by what its reads gave.
use Rattle.std.proofs.Common.{◌≡◌, List, [], ◌++◌, ◌∙◌, ap, append_assoc, subst, sym}
use Rattle.std.specs.Prelude.{IfSome, None, Option, Some}
use Rattle.std.proofs.lemmas.List.{append-nil}
use Rattle.file_log.specs.Log.{Agrees, ForReads, ReadEntry}
use Rattle.ipdl_base.specs.Outside.{FileMap}
use Rattle.ipdl_top.specs.FileViews.{AgreeParts, FileViews, ForMap, ForViews, ReadParts, steady}

regrouped : (log files list script input : List ReadEntry) → ((((log ++ files) ++ list) ++ script) ++ input) ≡ log ++ (files ++ (list ++ (script ++ input)))
regrouped log files list script input = simp append_assoc

-- a known map agrees with each part
agreed : (told : Option FileMap) (parts : ReadParts) → IfSome told (λ map. Agrees map parts.files) → IfSome told (λ map. Agrees map parts.list) → IfSome told (λ map. Agrees map parts.script)
    → IfSome told (λ map. Agrees map parts.input) → IfSome told (λ map. AgreeParts (steady map) parts)
agreed None parts files list script input = tt
agreed (Some map) parts files list script input = record { files = files; list = list; script = script; input = input }

-- The reads of the files, then of the list, of the script and of the input.
pub of_parts : {told second third fourth : Option FileMap} {old first next last new : List ReadEntry} (P Q S T : FileMap → Type 0) (R : FileViews → Type 0) → second ≡ told → third ≡ second → fourth ≡ third
    → ((seen : FileViews) → P seen.files → Q seen.list → S seen.script → T seen.input → R seen)
    → ForReads told old first P → ForReads second first next Q → ForReads third next last S → ForReads fourth last new T → ForViews told old new R
of_parts {told} {second} {third} {fourth} {old} P Q S T R e f g to files list script input =
    let parts : ReadParts = record { files = files.reads; list = list.reads; script = script.reads; input = input.reads } in
    record {
      parts = parts;
      logged = input.logged ∙ ap (λ log. log ++ input.reads) (script.logged ∙ ap (λ log. log ++ script.reads) (list.logged ∙ ap (λ log. log ++ list.reads) files.logged)) ∙ regrouped old files.reads list.reads script.reads input.reads;
      told_agrees = agreed told parts files.told_agrees (subst (λ (o : Option FileMap). IfSome o (λ map. Agrees map list.reads)) e list.told_agrees) (subst (λ (o : Option FileMap). IfSome o (λ map. Agrees map script.reads)) (f ∙ e) script.told_agrees)
          (subst (λ (o : Option FileMap). IfSome o (λ map. Agrees map input.reads)) (g ∙ (f ∙ e)) input.told_agrees);
      consistent = (
        record { files = files.consistent.0; list = list.consistent.0; script = script.consistent.0; input = input.consistent.0 },
        record { files = files.consistent.1; list = list.consistent.1; script = script.consistent.1; input = input.consistent.1 },
      );
      each = λ seen agree. to seen (files.each seen.files agree.files) (list.each seen.list agree.list) (script.each seen.script agree.script) (input.each seen.input agree.input);
    }

-- Nothing was read.
pub no_views : (told : Option FileMap) (log : List ReadEntry) (P : FileViews → Type 0) → ((seen : FileViews) → P seen) → ForViews told log log P
no_views told log P every =
    let parts : ReadParts = record { files = []; list = []; script = []; input = [] } in
    record {
      parts = parts;
      logged = sym (append-nil log);
      told_agrees = of_none told;
      consistent = (steady (λ name. None), record { files = tt; list = tt; script = tt; input = tt });
      each = λ seen agree. every seen;
    }
  where
    of_none : (o : Option FileMap) → IfSome o (λ map. AgreeParts (steady map) (record { files = []; list = []; script = []; input = [] }))
    of_none None = tt
    of_none (Some map) = record { files = tt; list = tt; script = tt; input = tt }

-- what follows for each view
pub for_each_view : {told : Option FileMap} {old new : List ReadEntry} (P Q : FileViews → Type 0) → ((seen : FileViews) → P seen → Q seen) → ForViews told old new P → ForViews told old new Q
for_each_view P Q to h = record { parts = h.parts; logged = h.logged; told_agrees = h.told_agrees; consistent = h.consistent; each = λ seen agree. to seen (h.each seen agree) }

-- something is seen
pub some_seen : {told : Option FileMap} {old new : List ReadEntry} (P : FileViews → Type 0) → ForViews told old new P → (seen : FileViews) × P seen
some_seen P h = (h.consistent.0, h.each h.consistent.0 h.consistent.1)

-- the known map is seen
pub of_reads : (told : Option FileMap) {old new : List ReadEntry} (P : FileViews → Type 0) → ForViews told old new P → ForMap told P
of_reads None P h = some_seen P h
of_reads (Some map) P h = h.each (steady map) h.told_agrees
