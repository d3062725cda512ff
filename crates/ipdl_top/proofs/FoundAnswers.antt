-- What a command answers, by what was found of the files that it reads.
use Rattle.std.proofs.Common.{List, ℕ, [], ◌∷◌, codes, refl}
use Rattle.command_words.specs.Command.{CommandView, Say, audit, chart, compile, explore, feed, frames, gen, relay, run, waits}
use Rattle.ipdl_top.specs.CommandAnswer.{AnswersTo, SaysOf}
use Rattle.ipdl_top.specs.FileViews.{FileViews}
use Rattle.std.specs.Prelude.{None}
use Rattle.ipdl_top.specs.Gen.{case_files, case_path, holder_name}
use Rattle.ipdl_top.specs.Relay.{Relaying}
use Rattle.ipdl_top.specs.Run.{Driving}
use Rattle.ipdl_top.specs.CommandFiles.{files_by, given_by, names_read, seen_by}
use Rattle.ipdl_top.specs.FilesFound.{AreFound}
use Rattle.ipdl_top.specs.Steps.{HasTop, IsToldOf}
use Rattle.ipdl_top.specs.declared.answer.CommandAnswer.{CommandAnswer}
use Rattle.ipdl_top.specs.declared.checked.CheckResult.{CheckResult}
use Rattle.ipdl_top.specs.declared.reading.FoundFiles.{FoundFiles}
use Rattle.ipdl_top.proofs.Compilations.{of_told}
use Rattle.ipdl_top.proofs.Tops.{has_top}

-- Tops

-- what was found has a protocol with the name of the command's own file, if the command goes by one
abbrev pub HasOwnTop : CommandView → CheckResult → Type 0
HasOwnTop (compile list path names) checked = Unit {0}
HasOwnTop (frames list path file name convert) checked = Unit {0}
HasOwnTop (waits list path file) checked = HasTop file checked
HasOwnTop (run list path course script file) checked = HasTop file checked
HasOwnTop (gen rounds actors) checked = HasTop holder_name checked
HasOwnTop (feed list path course script file name) checked = HasTop file checked
HasOwnTop (audit list path limit script file name) checked = HasTop file checked
HasOwnTop (relay list path course script file) checked = HasTop file checked
HasOwnTop (chart list path course script file) checked = HasTop file checked
HasOwnTop (explore list path course script file) checked = HasTop file checked

-- so it is where words say the command
pub own_top : (command : CommandView) (words : List (List ℕ)) (seen : FileViews) (found : FoundFiles) → Say words command → AreFound (files_by command) seen found → HasOwnTop command found.checked
own_top (compile list path names) words seen found said are = tt
own_top (frames list path file name convert) words seen found said are = tt
own_top (waits list path file) [] seen found said are = absurd said
own_top (waits list path file) (word ∷ words) seen found said are = has_top (given_by seen.files path (file ∷ [])) seen.list list file said.1.operand.front refl said.1.operand.ending found.checked are.checked
own_top (run list path course script file) [] seen found said are = absurd said
own_top (run list path course script file) (word ∷ words) seen found said are = has_top (given_by seen.files path (file ∷ [])) seen.list list file said.1.operands.front refl said.1.operands.ending found.checked are.checked
own_top (gen rounds actors) words seen found said are =
    has_top (given_by (case_files rounds actors) case_path (holder_name ∷ [])) (case_files rounds actors) None holder_name (codes "PGen") refl refl found.checked are.checked
own_top (feed list path course script file name) [] seen found said are = absurd said
own_top (feed list path course script file name) (word ∷ words) seen found said are = has_top (given_by seen.files path (file ∷ [])) seen.list list file said.1.operands.front refl said.1.operands.ending found.checked are.checked
own_top (audit list path limit script file name) [] seen found said are = absurd said
own_top (audit list path limit script file name) (word ∷ words) seen found said are = has_top (given_by seen.files path (file ∷ [])) seen.list list file said.1.operands.front refl said.1.operands.ending found.checked are.checked
own_top (relay list path course script file) [] seen found said are = absurd said
own_top (relay list path course script file) (word ∷ words) seen found said are = has_top (given_by seen.files path (file ∷ [])) seen.list list file said.1.operands.front refl said.1.operands.ending found.checked are.checked
own_top (chart list path course script file) [] seen found said are = absurd said
own_top (chart list path course script file) (word ∷ words) seen found said are = has_top (given_by seen.files path (file ∷ [])) seen.list list file said.1.operands.front refl said.1.operands.ending found.checked are.checked
own_top (explore list path course script file) [] seen found said are = absurd said
own_top (explore list path course script file) (word ∷ words) seen found said are = has_top (given_by seen.files path (file ∷ [])) seen.list list file said.1.operands.front refl said.1.operands.ending found.checked are.checked

-- Answers

-- the answer is that to a command, for all views of the files by which this was found
abbrev pub IsAnswerFound : Driving → Relaying → CommandView → FoundFiles → CommandAnswer → Type 0
IsAnswerFound Gives Relays command found answer = (seen : FileViews) → AreFound (files_by command) seen found → AnswersTo Gives Relays seen command answer

-- the answer is what the command says of the schema that was found, for all such views
abbrev pub IsToldFound : Driving → Relaying → CommandView → FoundFiles → CommandAnswer → Type 0
IsToldFound Gives Relays command found answer = (seen : FileViews) → AreFound (files_by command) seen found → IsToldOf (SaysOf Gives Relays (seen_by (files_by command) seen) command) found.checked answer

pub of_found : (Gives : Driving) (Relays : Relaying) (command : CommandView) (found : FoundFiles) (answer : CommandAnswer) → IsToldFound Gives Relays command found answer → IsAnswerFound Gives Relays command found answer
of_found Gives Relays command found answer told seen are =
    let names = names_read (files_by command) in
    let views = seen_by (files_by command) seen in
    of_told (SaysOf Gives Relays views command) (given_by views.files names.path names.program) views.list names.list found.checked answer are.checked (told seen are)
