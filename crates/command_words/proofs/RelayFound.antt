-- The command that runs a script over two queues, by what is found in its words.
use Rattle.std.proofs.Common.{◌≡◌, ◌≢◌, ◌∙◌, ◌<◌, ℕ, List, [], ◌∷◌, Option, Some, None, refl, sym, ap, subst, arith, codes}
use Rattle.std.specs.Prelude.{unwrap_or}
use Rattle.std.proofs.lemmas.Option.{same_Some}
use Rattle.clap.specs.Words.{all_of, first_of, found_of, rows_of}
use Rattle.clap.specs.declared.parser.matches.ArgMatches.{ArgMatches}
use Rattle.schedules.specs.declared.stop.Stop.{Stop}
use Rattle.command_words.specs.Options.{own_words, value_of}
use Rattle.command_words.specs.Forms.{own_id}
use Rattle.command_words.specs.Tables.{IsTable, by_letter}
use Rattle.command_words.specs.Found.{IsFound}
use Rattle.command_words.specs.Compile.{IsPath, path_option}
use Rattle.command_words.specs.Run.{AreRunOperands, die_option, limit_option}
use Rattle.command_words.specs.Relay.{RelayCourse, IsNoRelay, IsRelay, SaysRelay, relay_options, relay_word}
use Rattle.command_words.specs.RunOptions.{IsDeath, IsLimit}
use Rattle.command_words.proofs.OneCourse.{one_death, one_limit}
use Rattle.command_words.proofs.Compiled.{Text, found_value, found_words, list_ne, no_letter, one_path, path_ne, same_value, same_words, some_list}
use Rattle.command_words.proofs.RunFound.{die_ne, limit_letter, limit_ne, same_first, same_second, schedule_letter}

list_letter : (l : ℕ) → Some 115 ≡ Some l → (l < 128) × (l ≢ 45) × (by_letter (path_option ∷ limit_option ∷ die_option ∷ []) l ≡ None)
list_letter l e = let is : 115 ≡ l = same_Some 115 l e in (omega arith, λ f. absurd (omega arith), refl)

-- the options can be distinguished
pub relay_table : IsTable relay_options
relay_table = (
  λ e. cc,
  refl,
  refl,
  refl,
  list_letter,
  (λ e. cc, refl, refl, refl, schedule_letter, (λ e. cc, refl, refl, refl, limit_letter, (λ e. cc, refl, refl, refl, no_letter, tt))),
)

-- what is found makes the command
pub relay_found : (words : List Text) (found : ArgMatches) (list : Option Text) (path : List Text) (course : RelayCourse) (script file : Text) → IsFound relay_options words found
    → list ≡ first_of (codes "sync-msg-list") (rows_of (found_of found)) → IsPath (first_of (codes "path") (rows_of (found_of found))) path
    → IsLimit (first_of (codes "limit") (rows_of (found_of found))) course.limit → IsDeath (first_of (codes "die") (rows_of (found_of found))) course.death
    → AreRunOperands (unwrap_or (all_of own_id (rows_of (found_of found))) []) script file → SaysRelay words list path course script file
relay_found words found list path course script file is list_is path_is limit_is death_is operands = record {
  said = is.said;
  reads = is.reads;
  once = is.once;
  list_is = list_is ∙ is.values (codes "sync-msg-list") list_ne;
  path_is = subst (λ (v : Option Text). IsPath v path) (is.values (codes "path") path_ne) path_is;
  limit_is = subst (λ (v : Option Text). IsLimit v course.limit) (is.values (codes "limit") limit_ne) limit_is;
  death_is = subst (λ (v : Option Text). IsDeath v course.death) (is.values (codes "die") die_ne) death_is;
  operands = subst (λ (ws : List Text). AreRunOperands ws script file) (ap (λ (o : Option (List Text)). unwrap_or o []) is.others ∙ some_list (own_words is.said)) operands;
}

-- without the value of an option, or without operands, the words are not the command
pub no_path_found : (words : List Text) (found : ArgMatches) → IsFound relay_options words found → ((path : List Text) → ¬ IsPath (first_of (codes "path") (rows_of (found_of found))) path) → IsNoRelay (relay_word ∷ words)
no_path_found words found is none list path course script file command =
    none path (subst (λ (v : Option Text). IsPath v path) (found_value relay_options words found command.1.said relay_table is command.1.reads command.1.once (codes "path") path_ne) command.1.path_is)

pub no_limit_found : (words : List Text) (found : ArgMatches) → IsFound relay_options words found → ((limit : ℕ) → ¬ IsLimit (first_of (codes "limit") (rows_of (found_of found))) limit) → IsNoRelay (relay_word ∷ words)
no_limit_found words found is none list path course script file command =
    none course.limit (subst (λ (v : Option Text). IsLimit v course.limit) (found_value relay_options words found command.1.said relay_table is command.1.reads command.1.once (codes "limit") limit_ne) command.1.limit_is)

pub no_death_found : (words : List Text) (found : ArgMatches) → IsFound relay_options words found → ((death : Option Stop) → ¬ IsDeath (first_of (codes "die") (rows_of (found_of found))) death) → IsNoRelay (relay_word ∷ words)
no_death_found words found is none list path course script file command =
    none course.death (subst (λ (v : Option Text). IsDeath v course.death) (found_value relay_options words found command.1.said relay_table is command.1.reads command.1.once (codes "die") die_ne) command.1.death_is)

pub no_operands_found : (words : List Text) (found : ArgMatches) → IsFound relay_options words found → ((script file : Text) → ¬ AreRunOperands (unwrap_or (all_of own_id (rows_of (found_of found))) []) script file) → IsNoRelay (relay_word ∷ words)
no_operands_found words found is none list path course script file command =
    none script file (subst (λ (ws : List Text). AreRunOperands ws script file)
    (found_words relay_options words found command.1.said relay_table is command.1.reads command.1.once) command.1.operands)

-- ---- one command

same_course : (a b : RelayCourse) → a.limit ≡ b.limit → a.death ≡ b.death → a ≡ b
same_course a b e f = rw (e, f) refl

pub one_relay : (words : List Text) (list list' : Option Text) (path path' : List Text) (course course' : RelayCourse) (script script' file file' : Text) → IsRelay words list path course script file → IsRelay words list' path' course' script' file'
    → (list ≡ list') × (path ≡ path') × (course ≡ course') × (script ≡ script') × (file ≡ file')
one_relay [] list list' path path' course course' script script' file file' a b = absurd a
one_relay (word ∷ words) list list' path path' course course' script script' file file' (e, a) (f, b) =
    let value = same_value relay_options words a.said b.said relay_table a.reads a.once b.reads b.once in
    let operands : script ∷ file ∷ [] ≡ script' ∷ file' ∷ [] = sym a.operands.both ∙ same_words relay_options words a.said b.said relay_table a.reads a.once b.reads b.once ∙ b.operands.both in (
      a.list_is ∙ value (codes "sync-msg-list") list_ne ∙ sym b.list_is,
      one_path (value_of (codes "path") b.said) path path' (subst (λ (v : Option Text). IsPath v path) (value (codes "path") path_ne) a.path_is) b.path_is,
      same_course course course'
          (one_limit (value_of (codes "limit") b.said) course.limit course'.limit (subst (λ (v : Option Text). IsLimit v course.limit) (value (codes "limit") limit_ne) a.limit_is) b.limit_is)
          (one_death (value_of (codes "die") b.said) course.death course'.death (subst (λ (v : Option Text). IsDeath v course.death) (value (codes "die") die_ne) a.death_is) b.death_is),
      same_first script file script' file' operands,
      same_second script file script' file' operands,
    )
