-- The command that lists the ways of a script, by what is found in its words.
use Rattle.std.proofs.Common.{◌≡◌, ◌≢◌, ◌∙◌, ◌<◌, ℕ, List, [], ◌∷◌, Option, Some, None, refl, sym, ap, subst, arith, codes}
use Rattle.std.specs.Prelude.{slice_index, unwrap_or}
use Rattle.std.proofs.lemmas.Option.{same_Some}
use Rattle.clap.specs.Words.{all_of, first_of, found_of, rows_of}
use Rattle.clap.specs.declared.parser.matches.ArgMatches.{ArgMatches}
use Rattle.command_words.specs.Options.{own_words, value_of}
use Rattle.command_words.specs.Forms.{own_id}
use Rattle.command_words.specs.Tables.{IsTable, by_letter}
use Rattle.command_words.specs.Found.{IsFound}
use Rattle.command_words.specs.Compile.{IsPath, path_option}
use Rattle.command_words.specs.Explore.{ExploreCourse, IsExplore, IsMostWays, IsNoExplore, SaysExplore, explore_options, explore_word, ways_option}
use Rattle.command_words.specs.Run.{AreRunOperands, limit_option}
use Rattle.command_words.specs.RunOptions.{IsLimit}
use Rattle.command_words.proofs.OneCourse.{one_limit}
use Rattle.command_words.proofs.Lookups.{some_none}
use Rattle.command_words.proofs.Compiled.{Text, found_value, found_words, list_ne, no_letter, one_path, path_ne, same_value, same_words, some_list}
use Rattle.command_words.proofs.RunFound.{limit_ne, same_first, same_second}

list_letter : (l : ℕ) → Some 115 ≡ Some l → (l < 128) × (l ≢ 45) × (by_letter (path_option ∷ limit_option ∷ ways_option ∷ []) l ≡ None)
list_letter l e = let is : 115 ≡ l = same_Some 115 l e in (omega arith, λ f. absurd (omega arith), refl)

path_letter : (l : ℕ) → None ≡ Some l → (l < 128) × (l ≢ 45) × (by_letter (limit_option ∷ ways_option ∷ []) l ≡ None)
path_letter l e = absurd (some_none l (sym e))

limit_letter : (l : ℕ) → None ≡ Some l → (l < 128) × (l ≢ 45) × (by_letter (ways_option ∷ []) l ≡ None)
limit_letter l e = absurd (some_none l (sym e))

-- the options can be distinguished
pub explore_table : IsTable explore_options
explore_table = (
  λ e. cc,
  refl,
  refl,
  refl,
  list_letter,
  (λ e. cc, refl, refl, refl, path_letter, (λ e. cc, refl, refl, refl, limit_letter, (λ e. cc, refl, refl, refl, no_letter, tt))),
)

pub ways_ne : codes "ways" ≢ own_id
ways_ne e = let second : 97 ≡ 111 = ap (λ (t : Text). slice_index t 1) e in absurd (omega (arith, second))

-- what is found makes the command
pub explore_found : (words : List Text) (found : ArgMatches) (list : Option Text) (path : List Text) (course : ExploreCourse) (script file : Text) → IsFound explore_options words found
    → list ≡ first_of (codes "sync-msg-list") (rows_of (found_of found)) → IsPath (first_of (codes "path") (rows_of (found_of found))) path
    → IsLimit (first_of (codes "limit") (rows_of (found_of found))) course.limit → IsMostWays (first_of (codes "ways") (rows_of (found_of found))) course.ways
    → AreRunOperands (unwrap_or (all_of own_id (rows_of (found_of found))) []) script file → SaysExplore words list path course script file
explore_found words found list path course script file is list_is path_is limit_is ways_are operands = record {
  said = is.said;
  reads = is.reads;
  once = is.once;
  list_is = list_is ∙ is.values (codes "sync-msg-list") list_ne;
  path_is = subst (λ (v : Option Text). IsPath v path) (is.values (codes "path") path_ne) path_is;
  limit_is = subst (λ (v : Option Text). IsLimit v course.limit) (is.values (codes "limit") limit_ne) limit_is;
  ways_are = subst (λ (v : Option Text). IsMostWays v course.ways) (is.values (codes "ways") ways_ne) ways_are;
  operands = subst (λ (ws : List Text). AreRunOperands ws script file) (ap (λ (o : Option (List Text)). unwrap_or o []) is.others ∙ some_list (own_words is.said)) operands;
}

-- without the value of an option, or without operands, the words are not the command
pub no_path_found : (words : List Text) (found : ArgMatches) → IsFound explore_options words found → ((path : List Text) → ¬ IsPath (first_of (codes "path") (rows_of (found_of found))) path) → IsNoExplore (explore_word ∷ words)
no_path_found words found is none list path course script file command =
    none path (subst (λ (v : Option Text). IsPath v path) (found_value explore_options words found command.1.said explore_table is command.1.reads command.1.once (codes "path") path_ne) command.1.path_is)

pub no_limit_found : (words : List Text) (found : ArgMatches) → IsFound explore_options words found → ((limit : ℕ) → ¬ IsLimit (first_of (codes "limit") (rows_of (found_of found))) limit) → IsNoExplore (explore_word ∷ words)
no_limit_found words found is none list path course script file command =
    none course.limit (subst (λ (v : Option Text). IsLimit v course.limit) (found_value explore_options words found command.1.said explore_table is command.1.reads command.1.once (codes "limit") limit_ne) command.1.limit_is)

pub no_ways_found : (words : List Text) (found : ArgMatches) → IsFound explore_options words found → ((ways : ℕ) → ¬ IsMostWays (first_of (codes "ways") (rows_of (found_of found))) ways) → IsNoExplore (explore_word ∷ words)
no_ways_found words found is none list path course script file command =
    none course.ways (subst (λ (v : Option Text). IsMostWays v course.ways) (found_value explore_options words found command.1.said explore_table is command.1.reads command.1.once (codes "ways") ways_ne) command.1.ways_are)

pub no_operands_found : (words : List Text) (found : ArgMatches) → IsFound explore_options words found → ((script file : Text) → ¬ AreRunOperands (unwrap_or (all_of own_id (rows_of (found_of found))) []) script file) → IsNoExplore (explore_word ∷ words)
no_operands_found words found is none list path course script file command =
    none script file (subst (λ (ws : List Text). AreRunOperands ws script file)
    (found_words explore_options words found command.1.said explore_table is command.1.reads command.1.once) command.1.operands)

-- ---- one command

one_most : (value : Option Text) (ways other : ℕ) → IsMostWays value ways → IsMostWays value other → ways ≡ other
one_most None ways other p q = p ∙ sym q
one_most (Some text) ways other p q = p.number.value ∙ sym q.number.value

same_course : (a b : ExploreCourse) → a.limit ≡ b.limit → a.ways ≡ b.ways → a ≡ b
same_course a b e f = rw (e, f) refl

pub one_explore : (words : List Text) (list list' : Option Text) (path path' : List Text) (course course' : ExploreCourse) (script script' file file' : Text)
    → IsExplore words list path course script file → IsExplore words list' path' course' script' file' → (list ≡ list') × (path ≡ path') × (course ≡ course') × (script ≡ script') × (file ≡ file')
one_explore [] list list' path path' course course' script script' file file' a b = absurd a
one_explore (word ∷ words) list list' path path' course course' script script' file file' (e, a) (f, b) =
    let value = same_value explore_options words a.said b.said explore_table a.reads a.once b.reads b.once in
    let operands : script ∷ file ∷ [] ≡ script' ∷ file' ∷ [] = sym a.operands.both ∙ same_words explore_options words a.said b.said explore_table a.reads a.once b.reads b.once ∙ b.operands.both in (
      a.list_is ∙ value (codes "sync-msg-list") list_ne ∙ sym b.list_is,
      one_path (value_of (codes "path") b.said) path path' (subst (λ (v : Option Text). IsPath v path) (value (codes "path") path_ne) a.path_is) b.path_is,
      same_course course course'
          (one_limit (value_of (codes "limit") b.said) course.limit course'.limit (subst (λ (v : Option Text). IsLimit v course.limit) (value (codes "limit") limit_ne) a.limit_is) b.limit_is)
          (one_most (value_of (codes "ways") b.said) course.ways course'.ways (subst (λ (v : Option Text). IsMostWays v course.ways) (value (codes "ways") ways_ne) a.ways_are) b.ways_are),
      same_first script file script' file' operands,
      same_second script file script' file' operands,
    )
