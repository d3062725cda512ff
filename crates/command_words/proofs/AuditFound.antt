-- The command that says whether a text is a transcript, by what is found in its words.
use Rattle.std.proofs.Common.{◌≡◌, ◌≢◌, ◌∙◌, ◌<◌, ℕ, List, [], ◌∷◌, Option, Some, None, refl, sym, ap, subst, arith, codes}
use Rattle.std.specs.Prelude.{unwrap_or}
use Rattle.std.proofs.lemmas.Option.{same_Some}
use Rattle.clap.specs.Words.{all_of, first_of, found_of, rows_of}
use Rattle.clap.specs.declared.parser.matches.ArgMatches.{ArgMatches}
use Rattle.command_words.specs.Options.{own_words, value_of}
use Rattle.command_words.specs.Forms.{own_id}
use Rattle.command_words.specs.Tables.{IsTable, by_letter}
use Rattle.command_words.specs.Found.{IsFound}
use Rattle.command_words.specs.Compile.{IsPath, path_option}
use Rattle.command_words.specs.Audit.{IsAudit, IsNoAudit, SaysAudit, audit_options, audit_word}
use Rattle.command_words.specs.Operands.{AreScriptOperands}
use Rattle.command_words.specs.Run.{limit_option}
use Rattle.command_words.specs.RunOptions.{IsLimit}
use Rattle.command_words.proofs.OneCourse.{one_limit}
use Rattle.command_words.proofs.Lookups.{some_none}
use Rattle.command_words.proofs.Compiled.{Text, found_value, found_words, list_ne, no_letter, one_path, path_ne, same_value, same_words, some_list}
use Rattle.command_words.proofs.FeedFound.{same_operands}
use Rattle.command_words.proofs.RunFound.{limit_ne}

list_letter : (l : ℕ) → Some 115 ≡ Some l → (l < 128) × (l ≢ 45) × (by_letter (path_option ∷ limit_option ∷ []) l ≡ None)
list_letter l e = let is : 115 ≡ l = same_Some 115 l e in (omega arith, λ f. absurd (omega arith), refl)

path_letter : (l : ℕ) → None ≡ Some l → (l < 128) × (l ≢ 45) × (by_letter (limit_option ∷ []) l ≡ None)
path_letter l e = absurd (some_none l (sym e))

-- the options can be distinguished
pub audit_table : IsTable audit_options
audit_table = (λ e. cc, refl, refl, refl, list_letter, (λ e. cc, refl, refl, refl, path_letter, (λ e. cc, refl, refl, refl, no_letter, tt)))

-- what is found makes the command
pub audit_found : (words : List Text) (found : ArgMatches) (list : Option Text) (path : List Text) (limit : ℕ) (script file transcript : Text) → IsFound audit_options words found
    → list ≡ first_of (codes "sync-msg-list") (rows_of (found_of found)) → IsPath (first_of (codes "path") (rows_of (found_of found))) path → IsLimit (first_of (codes "limit") (rows_of (found_of found))) limit
    → AreScriptOperands (unwrap_or (all_of own_id (rows_of (found_of found))) []) script file transcript
    → SaysAudit words list path limit script file transcript
audit_found words found list path limit script file transcript is list_is path_is limit_is operands = record {
  said = is.said;
  reads = is.reads;
  once = is.once;
  list_is = list_is ∙ is.values (codes "sync-msg-list") list_ne;
  path_is = subst (λ (v : Option Text). IsPath v path) (is.values (codes "path") path_ne) path_is;
  limit_is = subst (λ (v : Option Text). IsLimit v limit) (is.values (codes "limit") limit_ne) limit_is;
  operands = subst (λ (ws : List Text). AreScriptOperands ws script file transcript) (ap (λ (o : Option (List Text)). unwrap_or o []) is.others ∙ some_list (own_words is.said)) operands;
}

-- without the value of an option, or without operands, the words are not the command
pub no_path_found : (words : List Text) (found : ArgMatches) → IsFound audit_options words found → ((path : List Text) → ¬ IsPath (first_of (codes "path") (rows_of (found_of found))) path) → IsNoAudit (audit_word ∷ words)
no_path_found words found is none list path limit script file transcript command =
    none path (subst (λ (v : Option Text). IsPath v path) (found_value audit_options words found command.1.said audit_table is command.1.reads command.1.once (codes "path") path_ne) command.1.path_is)

pub no_limit_found : (words : List Text) (found : ArgMatches) → IsFound audit_options words found → ((limit : ℕ) → ¬ IsLimit (first_of (codes "limit") (rows_of (found_of found))) limit) → IsNoAudit (audit_word ∷ words)
no_limit_found words found is none list path limit script file transcript command =
    none limit (subst (λ (v : Option Text). IsLimit v limit) (found_value audit_options words found command.1.said audit_table is command.1.reads command.1.once (codes "limit") limit_ne) command.1.limit_is)

pub no_operands_found : (words : List Text) (found : ArgMatches) → IsFound audit_options words found → ((script file transcript : Text) → ¬ AreScriptOperands (unwrap_or (all_of own_id (rows_of (found_of found))) []) script file transcript)
    → IsNoAudit (audit_word ∷ words)
no_operands_found words found is none list path limit script file transcript command =
    none script file transcript (subst (λ (ws : List Text). AreScriptOperands ws script file transcript)
    (found_words audit_options words found command.1.said audit_table is command.1.reads command.1.once) command.1.operands)

-- ---- one command

pub one_audit : (words : List Text) (list list' : Option Text) (path path' : List Text) (limit limit' : ℕ) (script script' file file' transcript transcript' : Text)
    → IsAudit words list path limit script file transcript → IsAudit words list' path' limit' script' file' transcript'
    → (list ≡ list') × (path ≡ path') × (limit ≡ limit') × (script ≡ script') × (file ≡ file') × (transcript ≡ transcript')
one_audit [] list list' path path' limit limit' script script' file file' transcript transcript' a b = absurd a
one_audit (word ∷ words) list list' path path' limit limit' script script' file file' transcript transcript' (e, a) (f, b) =
    let value = same_value audit_options words a.said b.said audit_table a.reads a.once b.reads b.once in
    let operands : script ∷ file ∷ transcript ∷ [] ≡ script' ∷ file' ∷ transcript' ∷ [] = sym a.operands.all ∙ same_words audit_options words a.said b.said audit_table a.reads a.once b.reads b.once ∙ b.operands.all in
    let same = same_operands script file transcript script' file' transcript' operands in (
      a.list_is ∙ value (codes "sync-msg-list") list_ne ∙ sym b.list_is,
      one_path (value_of (codes "path") b.said) path path' (subst (λ (v : Option Text). IsPath v path) (value (codes "path") path_ne) a.path_is) b.path_is,
      one_limit (value_of (codes "limit") b.said) limit limit' (subst (λ (v : Option Text). IsLimit v limit) (value (codes "limit") limit_ne) a.limit_is) b.limit_is,
      same.0,
      same.1,
      same.2,
    )
