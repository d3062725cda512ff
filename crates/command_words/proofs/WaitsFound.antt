-- The command that lists what may interrupt a wait, by what is found in its words.
use Rattle.std.proofs.Common.{◌≡◌, ◌∙◌, List, [], ◌∷◌, Option, sym, ap, subst, codes}
use Rattle.std.specs.Prelude.{unwrap_or}
use Rattle.clap.specs.Words.{all_of, first_of, found_of, rows_of}
use Rattle.clap.specs.declared.parser.matches.ArgMatches.{ArgMatches}
use Rattle.command_words.specs.Options.{own_words, value_of}
use Rattle.command_words.specs.Forms.{own_id}
use Rattle.command_words.specs.Found.{IsFound}
use Rattle.command_words.specs.Compile.{IsPath, compile_options}
use Rattle.command_words.specs.Waits.{IsNoWaits, IsOperand, IsWaits, SaysWaits, waits_word}
use Rattle.command_words.proofs.Compiled.{Text, found_value, found_words, list_ne, one_path, path_ne, same_value, same_words, some_list, table}

-- what is found makes the command
pub waits_found : (words : List Text) (found : ArgMatches) (list : Option Text) (path : List Text) (file : Text) → IsFound compile_options words found
    → list ≡ first_of (codes "sync-msg-list") (rows_of (found_of found)) → IsPath (first_of (codes "path") (rows_of (found_of found))) path → IsOperand (unwrap_or (all_of own_id (rows_of (found_of found))) []) file
    → SaysWaits words list path file
waits_found words found list path file is list_is path_is operand = record {
  said = is.said;
  reads = is.reads;
  once = is.once;
  list_is = list_is ∙ is.values (codes "sync-msg-list") list_ne;
  path_is = subst (λ (v : Option Text). IsPath v path) (is.values (codes "path") path_ne) path_is;
  operand = subst (λ (ws : List Text). IsOperand ws file) (ap (λ (o : Option (List Text)). unwrap_or o []) is.others ∙ some_list (own_words is.said)) operand;
}

-- without a path or an operand the words are not the command
pub no_path_found : (words : List Text) (found : ArgMatches) → IsFound compile_options words found → ((path : List Text) → ¬ IsPath (first_of (codes "path") (rows_of (found_of found))) path) → IsNoWaits (waits_word ∷ words)
no_path_found words found is none list path file command =
    none path (subst (λ (v : Option Text). IsPath v path) (found_value compile_options words found command.1.said table is command.1.reads command.1.once (codes "path") path_ne) command.1.path_is)

pub no_operand_found : (words : List Text) (found : ArgMatches) → IsFound compile_options words found → ((file : Text) → ¬ IsOperand (unwrap_or (all_of own_id (rows_of (found_of found))) []) file) → IsNoWaits (waits_word ∷ words)
no_operand_found words found is none list path file command =
    none file (subst (λ (ws : List Text). IsOperand ws file)
    (found_words compile_options words found command.1.said table is command.1.reads command.1.once) command.1.operand)

-- ---- one command

same_one : (a b : Text) → a ∷ [] ≡ b ∷ [] → a ≡ b
same_one a b e = cc

pub one_waits : (words : List Text) (list list' : Option Text) (path path' : List Text) (file file' : Text) → IsWaits words list path file → IsWaits words list' path' file' → (list ≡ list') × (path ≡ path') × (file ≡ file')
one_waits [] list list' path path' file file' a b = absurd a
one_waits (word ∷ words) list list' path path' file file' (e, a) (f, b) =
    let value = same_value compile_options words a.said b.said table a.reads a.once b.reads b.once in
    let operand : file ∷ [] ≡ file' ∷ [] = sym a.operand.one ∙ same_words compile_options words a.said b.said table a.reads a.once b.reads b.once ∙ b.operand.one in (
      a.list_is ∙ value (codes "sync-msg-list") list_ne ∙ sym b.list_is,
      one_path (value_of (codes "path") b.said) path path' (subst (λ (v : Option Text). IsPath v path) (value (codes "path") path_ne) a.path_is) b.path_is,
      same_one file file' operand,
    )
