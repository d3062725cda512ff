-- The command that prints frames, by what is found in its words.
use Rattle.std.proofs.Common.{◌≡◌, ◌≢◌, ◌∙◌, ◌<◌, ℕ, Bool, List, [], ◌∷◌, Option, Some, None, refl, sym, ap, subst, arith, codes}
use Rattle.std.specs.Prelude.{unwrap_or}
use Rattle.std.proofs.lemmas.Option.{same_Some}
use Rattle.clap.specs.Words.{all_of, first_of, found_of, rows_of}
use Rattle.clap.specs.declared.parser.matches.ArgMatches.{ArgMatches}
use Rattle.command_words.specs.Options.{own_words, value_of}
use Rattle.command_words.specs.Forms.{own_id}
use Rattle.command_words.specs.Tables.{IsTable, by_letter}
use Rattle.command_words.specs.Found.{IsFound}
use Rattle.command_words.specs.Compile.{IsPath, path_option}
use Rattle.command_words.specs.Frames.{AreOperands, IsConversion, IsFrames, IsNoFrames, SaysFrames, frames_options, frames_word, to_option}
use Rattle.command_words.proofs.Lookups.{some_none}
use Rattle.command_words.proofs.Compiled.{found_value, found_words, list_ne, no_letter, one_path, path_ne, same_value, same_words, some_list}

abbrev Text : Type 0
Text = List ℕ

list_letter : (l : ℕ) → Some 115 ≡ Some l → (l < 128) × (l ≢ 45) × (by_letter (path_option ∷ to_option ∷ []) l ≡ None)
list_letter l e = let is : 115 ≡ l = same_Some 115 l e in (omega arith, λ f. absurd (omega arith), refl)

path_letter : (l : ℕ) → None ≡ Some l → (l < 128) × (l ≢ 45) × (by_letter (to_option ∷ []) l ≡ None)
path_letter l e = absurd (some_none l (sym e))

-- the options can be distinguished
pub frames_table : IsTable frames_options
frames_table = (λ e. cc, refl, refl, refl, list_letter, (λ e. cc, refl, refl, refl, path_letter, (λ e. cc, refl, refl, refl, no_letter, tt)))

to_ne : codes "to" ≢ own_id
to_ne e = cc

-- what is found makes the command
pub frames_found : (words : List Text) (found : ArgMatches) (list : Option Text) (path : List Text) (file frames : Text) (convert : Bool) → IsFound frames_options words found
    → list ≡ first_of (codes "sync-msg-list") (rows_of (found_of found)) → IsPath (first_of (codes "path") (rows_of (found_of found))) path
    → IsConversion (first_of (codes "to") (rows_of (found_of found))) convert → AreOperands (unwrap_or (all_of own_id (rows_of (found_of found))) []) file frames
    → SaysFrames words list path file frames convert
frames_found words found list path file frames convert is list_is path_is convert_is operands = record {
  said = is.said;
  reads = is.reads;
  once = is.once;
  list_is = list_is ∙ is.values (codes "sync-msg-list") list_ne;
  path_is = subst (λ (v : Option Text). IsPath v path) (is.values (codes "path") path_ne) path_is;
  convert_is = subst (λ (v : Option Text). IsConversion v convert) (is.values (codes "to") to_ne) convert_is;
  operands = subst (λ (ws : List Text). AreOperands ws file frames) (ap (λ (o : Option (List Text)). unwrap_or o []) is.others ∙ some_list (own_words is.said)) operands;
}

-- without a path, a value of `--to` or operands the words are not the command
pub no_path_found : (words : List Text) (found : ArgMatches) → IsFound frames_options words found → ((path : List Text) → ¬ IsPath (first_of (codes "path") (rows_of (found_of found))) path) → IsNoFrames (frames_word ∷ words)
no_path_found words found is none list path file frames convert command =
    none path (subst (λ (v : Option Text). IsPath v path) (found_value frames_options words found command.1.said frames_table is command.1.reads command.1.once (codes "path") path_ne) command.1.path_is)

pub no_conversion_found : (words : List Text) (found : ArgMatches) → IsFound frames_options words found → ((convert : Bool) → ¬ IsConversion (first_of (codes "to") (rows_of (found_of found))) convert) → IsNoFrames (frames_word ∷ words)
no_conversion_found words found is none list path file frames convert command =
    none convert (subst (λ (v : Option Text). IsConversion v convert) (found_value frames_options words found command.1.said frames_table is command.1.reads command.1.once (codes "to") to_ne) command.1.convert_is)

pub no_operands_found : (words : List Text) (found : ArgMatches) → IsFound frames_options words found → ((file frames : Text) → ¬ AreOperands (unwrap_or (all_of own_id (rows_of (found_of found))) []) file frames) → IsNoFrames (frames_word ∷ words)
no_operands_found words found is none list path file frames convert command =
    none file frames (subst (λ (ws : List Text). AreOperands ws file frames)
    (found_words frames_options words found command.1.said frames_table is command.1.reads command.1.once) command.1.operands)

-- ---- one command

one_conversion : (value : Option Text) (convert other : Bool) → IsConversion value convert → IsConversion value other → convert ≡ other
one_conversion None convert other p q = p ∙ sym q
one_conversion (Some text) convert other p q = p.1 ∙ sym q.1

same_first : (a b c d : Text) → a ∷ b ∷ [] ≡ c ∷ d ∷ [] → a ≡ c
same_first a b c d e = cc

same_second : (a b c d : Text) → a ∷ b ∷ [] ≡ c ∷ d ∷ [] → b ≡ d
same_second a b c d e = cc

pub one_frames : (words : List Text) (list list' : Option Text) (path path' : List Text) (file file' frames frames' : Text) (convert convert' : Bool)
    → IsFrames words list path file frames convert → IsFrames words list' path' file' frames' convert'
    → (list ≡ list') × (path ≡ path') × (file ≡ file') × (frames ≡ frames') × (convert ≡ convert')
one_frames [] list list' path path' file file' frames frames' convert convert' a b = absurd a
one_frames (word ∷ words) list list' path path' file file' frames frames' convert convert' (e, a) (f, b) =
    let value = same_value frames_options words a.said b.said frames_table a.reads a.once b.reads b.once in
    let operands : file ∷ frames ∷ [] ≡ file' ∷ frames' ∷ [] = sym a.operands.both ∙ same_words frames_options words a.said b.said frames_table a.reads a.once b.reads b.once ∙ b.operands.both in (
      a.list_is ∙ value (codes "sync-msg-list") list_ne ∙ sym b.list_is,
      one_path (value_of (codes "path") b.said) path path' (subst (λ (v : Option Text). IsPath v path) (value (codes "path") path_ne) a.path_is) b.path_is,
      same_first file frames file' frames' operands,
      same_second file frames file' frames' operands,
      one_conversion (value_of (codes "to") b.said) convert convert' (subst (λ (v : Option Text). IsConversion v convert) (value (codes "to") to_ne) a.convert_is) b.convert_is,
    )
