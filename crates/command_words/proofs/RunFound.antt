-- The commands that run a script, by what is found in their words.
use Rattle.std.proofs.Common.{◌≡◌, ◌≢◌, ◌∙◌, ◌<◌, ℕ, List, [], ◌∷◌, Option, Some, None, refl, sym, ap, subst, arith, codes}
use Rattle.std.specs.Prelude.{slice_index, unwrap_or}
use Rattle.std.proofs.lemmas.Option.{same_Some}
use Rattle.clap.specs.Words.{all_of, first_of, found_of, rows_of}
use Rattle.clap.specs.declared.parser.matches.ArgMatches.{ArgMatches}
use Rattle.schedules.specs.declared.stop.Stop.{Stop}
use Rattle.schedules.specs.declared.turn.Turn.{Turn}
use Rattle.command_words.specs.Options.{own_words, value_of}
use Rattle.command_words.specs.Forms.{own_id}
use Rattle.command_words.specs.Tables.{IsTable, by_letter}
use Rattle.command_words.specs.Found.{IsFound}
use Rattle.command_words.specs.Compile.{IsPath, path_option}
use Rattle.command_words.specs.Run.{AreRunOperands, Course, IsRunBy, SaysNoRun, SaysRun, die_option, limit_option, run_options, schedule_option}
use Rattle.command_words.specs.RunOptions.{IsDeath, IsLimit, IsSchedule}
use Rattle.command_words.proofs.OneCourse.{one_death, one_limit, one_schedule}
use Rattle.command_words.proofs.Lookups.{some_none}
use Rattle.command_words.proofs.Compiled.{found_value, found_words, list_ne, no_letter, one_path, path_ne, same_value, same_words, some_list}

abbrev Text : Type 0
Text = List ℕ

list_letter : (l : ℕ) → Some 115 ≡ Some l → (l < 128) × (l ≢ 45) × (by_letter (path_option ∷ schedule_option ∷ limit_option ∷ die_option ∷ []) l ≡ None)
list_letter l e = let is : 115 ≡ l = same_Some 115 l e in (omega arith, λ f. absurd (omega arith), refl)

path_letter : (l : ℕ) → None ≡ Some l → (l < 128) × (l ≢ 45) × (by_letter (schedule_option ∷ limit_option ∷ die_option ∷ []) l ≡ None)
path_letter l e = absurd (some_none l (sym e))

pub schedule_letter : (l : ℕ) → None ≡ Some l → (l < 128) × (l ≢ 45) × (by_letter (limit_option ∷ die_option ∷ []) l ≡ None)
schedule_letter l e = absurd (some_none l (sym e))

pub limit_letter : (l : ℕ) → None ≡ Some l → (l < 128) × (l ≢ 45) × (by_letter (die_option ∷ []) l ≡ None)
limit_letter l e = absurd (some_none l (sym e))

-- the options can be distinguished
pub run_table : IsTable run_options
run_table = (
  λ e. cc,
  refl,
  refl,
  refl,
  list_letter,
  (λ e. cc, refl, refl, refl, path_letter, (λ e. cc, refl, refl, refl, schedule_letter, (λ e. cc, refl, refl, refl, limit_letter, (λ e. cc, refl, refl, refl, no_letter, tt)))),
)

schedule_ne : codes "schedule" ≢ own_id
schedule_ne e = let first : 115 ≡ 119 = ap (λ (t : Text). slice_index t 0) e in absurd (omega (arith, first))

pub limit_ne : codes "limit" ≢ own_id
limit_ne e = let first : 108 ≡ 119 = ap (λ (t : Text). slice_index t 0) e in absurd (omega (arith, first))

pub die_ne : codes "die" ≢ own_id
die_ne e = let first : 100 ≡ 119 = ap (λ (t : Text). slice_index t 0) e in absurd (omega (arith, first))

-- what is found makes the command
pub run_found : (words : List Text) (found : ArgMatches) (list : Option Text) (path : List Text) (course : Course) (script file : Text) → IsFound run_options words found
    → list ≡ first_of (codes "sync-msg-list") (rows_of (found_of found)) → IsPath (first_of (codes "path") (rows_of (found_of found))) path → IsSchedule (first_of (codes "schedule") (rows_of (found_of found))) course.schedule
    → IsLimit (first_of (codes "limit") (rows_of (found_of found))) course.limit → IsDeath (first_of (codes "die") (rows_of (found_of found))) course.death
    → AreRunOperands (unwrap_or (all_of own_id (rows_of (found_of found))) []) script file → SaysRun words list path course script file
run_found words found list path course script file is list_is path_is schedule_is limit_is death_is operands = record {
  said = is.said;
  reads = is.reads;
  once = is.once;
  list_is = list_is ∙ is.values (codes "sync-msg-list") list_ne;
  path_is = subst (λ (v : Option Text). IsPath v path) (is.values (codes "path") path_ne) path_is;
  schedule_is = subst (λ (v : Option Text). IsSchedule v course.schedule) (is.values (codes "schedule") schedule_ne) schedule_is;
  limit_is = subst (λ (v : Option Text). IsLimit v course.limit) (is.values (codes "limit") limit_ne) limit_is;
  death_is = subst (λ (v : Option Text). IsDeath v course.death) (is.values (codes "die") die_ne) death_is;
  operands = subst (λ (ws : List Text). AreRunOperands ws script file) (ap (λ (o : Option (List Text)). unwrap_or o []) is.others ∙ some_list (own_words is.said)) operands;
}

-- without the value of an option, or without operands, the words do not say the command
pub no_path_found : (words : List Text) (found : ArgMatches) → IsFound run_options words found → ((path : List Text) → ¬ IsPath (first_of (codes "path") (rows_of (found_of found))) path) → SaysNoRun words
no_path_found words found is none list path course script file command =
    none path (subst (λ (v : Option Text). IsPath v path) (found_value run_options words found command.said run_table is command.reads command.once (codes "path") path_ne) command.path_is)

pub no_schedule_found : (words : List Text) (found : ArgMatches) → IsFound run_options words found → ((schedule : Option (List Turn)) → ¬ IsSchedule (first_of (codes "schedule") (rows_of (found_of found))) schedule) → SaysNoRun words
no_schedule_found words found is none list path course script file command =
    none course.schedule (subst (λ (v : Option Text). IsSchedule v course.schedule) (found_value run_options words found command.said run_table is command.reads command.once (codes "schedule") schedule_ne) command.schedule_is)

pub no_limit_found : (words : List Text) (found : ArgMatches) → IsFound run_options words found → ((limit : ℕ) → ¬ IsLimit (first_of (codes "limit") (rows_of (found_of found))) limit) → SaysNoRun words
no_limit_found words found is none list path course script file command =
    none course.limit (subst (λ (v : Option Text). IsLimit v course.limit) (found_value run_options words found command.said run_table is command.reads command.once (codes "limit") limit_ne) command.limit_is)

pub no_death_found : (words : List Text) (found : ArgMatches) → IsFound run_options words found → ((death : Option Stop) → ¬ IsDeath (first_of (codes "die") (rows_of (found_of found))) death) → SaysNoRun words
no_death_found words found is none list path course script file command =
    none course.death (subst (λ (v : Option Text). IsDeath v course.death) (found_value run_options words found command.said run_table is command.reads command.once (codes "die") die_ne) command.death_is)

pub no_operands_found : (words : List Text) (found : ArgMatches) → IsFound run_options words found → ((script file : Text) → ¬ AreRunOperands (unwrap_or (all_of own_id (rows_of (found_of found))) []) script file) → SaysNoRun words
no_operands_found words found is none list path course script file command =
    none script file (subst (λ (ws : List Text). AreRunOperands ws script file)
    (found_words run_options words found command.said run_table is command.reads command.once) command.operands)

-- ---- one command

pub same_first : (a b c d : Text) → a ∷ b ∷ [] ≡ c ∷ d ∷ [] → a ≡ c
same_first a b c d e = cc

pub same_second : (a b c d : Text) → a ∷ b ∷ [] ≡ c ∷ d ∷ [] → b ≡ d
same_second a b c d e = cc

same_course : (a b : Course) → a.schedule ≡ b.schedule → a.limit ≡ b.limit → a.death ≡ b.death → a ≡ b
same_course a b e f g = rw (e, f, g) refl

pub one_run : (first : Text) (words : List Text) (list list' : Option Text) (path path' : List Text) (course course' : Course) (script script' file file' : Text) → IsRunBy first words list path course script file → IsRunBy first words list' path' course' script' file'
    → (list ≡ list') × (path ≡ path') × (course ≡ course') × (script ≡ script') × (file ≡ file')
one_run first [] list list' path path' course course' script script' file file' a b = absurd a
one_run first (word ∷ words) list list' path path' course course' script script' file file' (e, a) (f, b) =
    let value = same_value run_options words a.said b.said run_table a.reads a.once b.reads b.once in
    let operands : script ∷ file ∷ [] ≡ script' ∷ file' ∷ [] = sym a.operands.both ∙ same_words run_options words a.said b.said run_table a.reads a.once b.reads b.once ∙ b.operands.both in (
      a.list_is ∙ value (codes "sync-msg-list") list_ne ∙ sym b.list_is,
      one_path (value_of (codes "path") b.said) path path' (subst (λ (v : Option Text). IsPath v path) (value (codes "path") path_ne) a.path_is) b.path_is,
      same_course course course'
          (one_schedule (value_of (codes "schedule") b.said) course.schedule course'.schedule (subst (λ (v : Option Text). IsSchedule v course.schedule) (value (codes "schedule") schedule_ne) a.schedule_is) b.schedule_is)
          (one_limit (value_of (codes "limit") b.said) course.limit course'.limit (subst (λ (v : Option Text). IsLimit v course.limit) (value (codes "limit") limit_ne) a.limit_is) b.limit_is)
          (one_death (value_of (codes "die") b.said) course.death course'.death (subst (λ (v : Option Text). IsDeath v course.death) (value (codes "die") die_ne) a.death_is) b.death_is),
      same_first script file script' file' operands,
      same_second script file script' file' operands,
    )
