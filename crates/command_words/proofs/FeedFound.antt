-- The command that runs one end on a file of bytes, by what is found in its words.
use Rattle.std.proofs.Common.{◌≡◌, ◌≢◌, ◌∙◌, ◌<◌, ℕ, List, [], ◌∷◌, Option, Some, None, refl, sym, ap, subst, arith, codes}
use Rattle.std.specs.Prelude.{slice_index, unwrap_or}
use Rattle.std.proofs.lemmas.Option.{same_Some}
use Rattle.clap.specs.Words.{all_of, first_of, found_of, rows_of}
use Rattle.clap.specs.declared.parser.matches.ArgMatches.{ArgMatches}
use Rattle.ipdl_base.specs.declared.kinds.Side.{Side}
use Rattle.ipdl_base.specs.declared.kinds.Side.TheVariants.{Parent, Child}
use Rattle.command_words.specs.Options.{own_words, value_of}
use Rattle.command_words.specs.Forms.{own_id}
use Rattle.command_words.specs.Tables.{IsTable, by_letter}
use Rattle.command_words.specs.Found.{IsFound}
use Rattle.command_words.specs.Compile.{IsPath, path_option}
use Rattle.command_words.specs.Feed.{FeedCourse, IsFeed, IsNoFeed, IsSide, SaysFeed, feed_options, feed_word, side_option}
use Rattle.command_words.specs.Operands.{AreScriptOperands}
use Rattle.command_words.specs.Run.{limit_option}
use Rattle.command_words.specs.RunOptions.{IsLimit, word_of}
use Rattle.command_words.proofs.OneCourse.{one_limit}
use Rattle.command_words.proofs.Lookups.{some_none}
use Rattle.command_words.proofs.Compiled.{Text, found_value, found_words, list_ne, no_letter, one_path, path_ne, same_value, same_words, some_list}
use Rattle.command_words.proofs.RunFound.{limit_ne}

list_letter : (l : ℕ) → Some 115 ≡ Some l → (l < 128) × (l ≢ 45) × (by_letter (path_option ∷ limit_option ∷ side_option ∷ []) l ≡ None)
list_letter l e = let is : 115 ≡ l = same_Some 115 l e in (omega arith, λ f. absurd (omega arith), refl)

path_letter : (l : ℕ) → None ≡ Some l → (l < 128) × (l ≢ 45) × (by_letter (limit_option ∷ side_option ∷ []) l ≡ None)
path_letter l e = absurd (some_none l (sym e))

limit_letter : (l : ℕ) → None ≡ Some l → (l < 128) × (l ≢ 45) × (by_letter (side_option ∷ []) l ≡ None)
limit_letter l e = absurd (some_none l (sym e))

-- the options can be distinguished
pub feed_table : IsTable feed_options
feed_table = (λ e. cc, refl, refl, refl, list_letter, (λ e. cc, refl, refl, refl, path_letter, (λ e. cc, refl, refl, refl, limit_letter, (λ e. cc, refl, refl, refl, no_letter, tt))))

side_ne : codes "side" ≢ own_id
side_ne e = let first : 115 ≡ 119 = ap (λ (t : Text). slice_index t 0) e in absurd (omega (arith, first))

-- what is found makes the command
pub feed_found : (words : List Text) (found : ArgMatches) (list : Option Text) (path : List Text) (course : FeedCourse) (script file frames : Text) → IsFound feed_options words found
    → list ≡ first_of (codes "sync-msg-list") (rows_of (found_of found)) → IsPath (first_of (codes "path") (rows_of (found_of found))) path → IsLimit (first_of (codes "limit") (rows_of (found_of found))) course.limit
    → IsSide (first_of (codes "side") (rows_of (found_of found))) course.side → AreScriptOperands (unwrap_or (all_of own_id (rows_of (found_of found))) []) script file frames
    → SaysFeed words list path course script file frames
feed_found words found list path course script file frames is list_is path_is limit_is side_is operands = record {
  said = is.said;
  reads = is.reads;
  once = is.once;
  list_is = list_is ∙ is.values (codes "sync-msg-list") list_ne;
  path_is = subst (λ (v : Option Text). IsPath v path) (is.values (codes "path") path_ne) path_is;
  limit_is = subst (λ (v : Option Text). IsLimit v course.limit) (is.values (codes "limit") limit_ne) limit_is;
  side_is = subst (λ (v : Option Text). IsSide v course.side) (is.values (codes "side") side_ne) side_is;
  operands = subst (λ (ws : List Text). AreScriptOperands ws script file frames) (ap (λ (o : Option (List Text)). unwrap_or o []) is.others ∙ some_list (own_words is.said)) operands;
}

-- without the value of an option, or without operands, the words are not the command
pub no_path_found : (words : List Text) (found : ArgMatches) → IsFound feed_options words found → ((path : List Text) → ¬ IsPath (first_of (codes "path") (rows_of (found_of found))) path) → IsNoFeed (feed_word ∷ words)
no_path_found words found is none list path course script file frames command =
    none path (subst (λ (v : Option Text). IsPath v path) (found_value feed_options words found command.1.said feed_table is command.1.reads command.1.once (codes "path") path_ne) command.1.path_is)

pub no_limit_found : (words : List Text) (found : ArgMatches) → IsFound feed_options words found → ((limit : ℕ) → ¬ IsLimit (first_of (codes "limit") (rows_of (found_of found))) limit) → IsNoFeed (feed_word ∷ words)
no_limit_found words found is none list path course script file frames command =
    none course.limit (subst (λ (v : Option Text). IsLimit v course.limit) (found_value feed_options words found command.1.said feed_table is command.1.reads command.1.once (codes "limit") limit_ne) command.1.limit_is)

pub no_side_found : (words : List Text) (found : ArgMatches) → IsFound feed_options words found → ((side : Side) → ¬ IsSide (first_of (codes "side") (rows_of (found_of found))) side) → IsNoFeed (feed_word ∷ words)
no_side_found words found is none list path course script file frames command =
    none course.side (subst (λ (v : Option Text). IsSide v course.side) (found_value feed_options words found command.1.said feed_table is command.1.reads command.1.once (codes "side") side_ne) command.1.side_is)

pub no_operands_found : (words : List Text) (found : ArgMatches) → IsFound feed_options words found → ((script file frames : Text) → ¬ AreScriptOperands (unwrap_or (all_of own_id (rows_of (found_of found))) []) script file frames)
    → IsNoFeed (feed_word ∷ words)
no_operands_found words found is none list path course script file frames command =
    none script file frames (subst (λ (ws : List Text). AreScriptOperands ws script file frames)
    (found_words feed_options words found command.1.said feed_table is command.1.reads command.1.once) command.1.operands)

-- ---- one command

-- the word of a side is that of one
same_side : (s t : Side) → word_of s ≡ word_of t → s ≡ t
same_side Parent Parent e = refl
same_side Child Child e = refl
same_side Parent Child e = let first : 112 ≡ 99 = ap (λ (t : Text). slice_index t 0) e in absurd (omega (arith, first))
same_side Child Parent e = let first : 99 ≡ 112 = ap (λ (t : Text). slice_index t 0) e in absurd (omega (arith, first))

one_side : (value : Option Text) (side other : Side) → IsSide value side → IsSide value other → side ≡ other
one_side None side other p q = absurd p
one_side (Some text) side other p q = same_side side other (sym p ∙ q)

pub same_operands : (a b c a' b' c' : Text) → a ∷ b ∷ c ∷ [] ≡ a' ∷ b' ∷ c' ∷ [] → (a ≡ a') × (b ≡ b') × (c ≡ c')
same_operands a b c a' b' c' e = (cc, cc, cc)

same_course : (a b : FeedCourse) → a.side ≡ b.side → a.limit ≡ b.limit → a ≡ b
same_course a b e f = rw (e, f) refl

pub one_feed : (words : List Text) (list list' : Option Text) (path path' : List Text) (course course' : FeedCourse) (script script' file file' frames frames' : Text)
    → IsFeed words list path course script file frames → IsFeed words list' path' course' script' file' frames'
    → (list ≡ list') × (path ≡ path') × (course ≡ course') × (script ≡ script') × (file ≡ file') × (frames ≡ frames')
one_feed [] list list' path path' course course' script script' file file' frames frames' a b = absurd a
one_feed (word ∷ words) list list' path path' course course' script script' file file' frames frames' (e, a) (f, b) =
    let value = same_value feed_options words a.said b.said feed_table a.reads a.once b.reads b.once in
    let operands : script ∷ file ∷ frames ∷ [] ≡ script' ∷ file' ∷ frames' ∷ [] = sym a.operands.all ∙ same_words feed_options words a.said b.said feed_table a.reads a.once b.reads b.once ∙ b.operands.all in
    let same = same_operands script file frames script' file' frames' operands in (
      a.list_is ∙ value (codes "sync-msg-list") list_ne ∙ sym b.list_is,
      one_path (value_of (codes "path") b.said) path path' (subst (λ (v : Option Text). IsPath v path) (value (codes "path") path_ne) a.path_is) b.path_is,
      same_course course course'
          (one_side (value_of (codes "side") b.said) course.side course'.side (subst (λ (v : Option Text). IsSide v course.side) (value (codes "side") side_ne) a.side_is) b.side_is)
          (one_limit (value_of (codes "limit") b.said) course.limit course'.limit (subst (λ (v : Option Text). IsLimit v course.limit) (value (codes "limit") limit_ne) a.limit_is) b.limit_is),
      same.0,
      same.1,
      same.2,
    )
