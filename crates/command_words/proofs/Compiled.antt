-- The command that compiles files, by what is found in its words.
use Rattle.std.proofs.Common.{◌≡◌, ◌≢◌, ◌∙◌, ◌<◌, ℕ, List, [], ◌∷◌, Option, Some, None, option_map, map, refl, sym, ap, subst, arith, codes, Bor}
use Rattle.std.specs.Prelude.{unwrap_or}
use Rattle.std.proofs.lemmas.Option.{same_Some}
use Rattle.clap.specs.Words.{all_of, first_of, found_of, rows_of}
use Rattle.clap.specs.declared.parser.matches.ArgMatches.{ArgMatches}
use Rattle.command_words.specs.Options.{Choice, EachOnce, Reads, WordUse, own_words, value_of}
use Rattle.command_words.specs.Forms.{own_id}
use Rattle.command_words.specs.Tables.{IsTable, by_letter}
use Rattle.command_words.specs.Found.{IsFound, some_of}
use Rattle.command_words.specs.Compile.{AreFiles, IsCompile, IsForCompile, IsNoCompile, IsPath, compile_options, firsts, path_option}
use Rattle.command_words.proofs.Lookups.{some_none}
use Rattle.command_words.proofs.Parsed.{said_found}
use Rattle.command_words.proofs.Pieces.{dirs_are}

abbrev pub Text : Type 0
Text = List ℕ

some_is : (ws vs : List Text) → some_of ws ≡ some_of vs → ws ≡ vs
some_is [] [] e = refl
some_is [] (v ∷ vs) e = absurd (some_none (v ∷ vs) (sym e))
some_is (w ∷ ws) [] e = absurd (some_none (w ∷ ws) e)
some_is (w ∷ ws) (v ∷ vs) e = same_Some (w ∷ ws) (v ∷ vs) e

pub some_list : (ws : List Text) → unwrap_or (some_of ws) [] ≡ ws
some_list [] = refl
some_list (w ∷ ws) = refl

-- words say one thing: the values of options, and the other words
pub same_value : (options : List Choice) (words : List Text) (said other : List WordUse) → IsTable options → Reads options words said → EachOnce said → Reads options words other → EachOnce other
    → (name : Text) → name ≢ own_id → value_of name said ≡ value_of name other
same_value options words said other t reads once reads' once' name ne = sym ((said_found options words said t reads once).0 name ne) ∙ (said_found options words other t reads' once').0 name ne

pub same_words : (options : List Choice) (words : List Text) (said other : List WordUse) → IsTable options → Reads options words said → EachOnce said → Reads options words other → EachOnce other → own_words said ≡ own_words other
same_words options words said other t reads once reads' once' = some_is (own_words said) (own_words other) (sym (said_found options words said t reads once).1 ∙ (said_found options words other t reads' once').1)

-- and this is what is found in them
pub found_value : (options : List Choice) (words : List Text) (found : ArgMatches) (said : List WordUse) → IsTable options → IsFound options words found → Reads options words said → EachOnce said → (name : Text) → name ≢ own_id
    → value_of name said ≡ first_of name (rows_of (found_of found))
found_value options words found said t is reads once name ne = same_value options words said is.said t reads once is.reads is.once name ne ∙ sym (is.values name ne)

pub found_words : (options : List Choice) (words : List Text) (found : ArgMatches) (said : List WordUse) → IsTable options → IsFound options words found → Reads options words said → EachOnce said
    → own_words said ≡ unwrap_or (all_of own_id (rows_of (found_of found))) []
found_words options words found said t is reads once =
    same_words options words said is.said t reads once is.reads is.once ∙ sym (ap (λ (o : Option (List Text)). unwrap_or o []) is.others ∙ some_list (own_words is.said))

pub no_letter : (l : ℕ) → None ≡ Some l → (l < 128) × (l ≢ 45) × (by_letter [] l ≡ None)
no_letter l e = absurd (some_none l (sym e))

list_letter : (l : ℕ) → Some 115 ≡ Some l → (l < 128) × (l ≢ 45) × (by_letter (path_option ∷ []) l ≡ None)
list_letter l e = let is : 115 ≡ l = same_Some 115 l e in (omega arith, λ f. absurd (omega arith), refl)

-- the options can be distinguished
pub table : IsTable compile_options
table = (λ e. cc, refl, refl, refl, list_letter, (λ e. cc, refl, refl, refl, no_letter, tt))

pub list_ne : codes "sync-msg-list" ≢ own_id
list_ne e = cc

pub path_ne : codes "path" ≢ own_id
path_ne e = cc

-- what is found makes the command
pub command_found : (words : List Text) (found : ArgMatches) (list : Option Text) (path files : List Text) → IsFound compile_options words found → IsForCompile words
    → list ≡ first_of (codes "sync-msg-list") (rows_of (found_of found)) → IsPath (first_of (codes "path") (rows_of (found_of found))) path → AreFiles (unwrap_or (all_of own_id (rows_of (found_of found))) []) files
    → IsCompile words list path files
command_found words found list path files is chosen list_is path_is files_are = record {
  chosen = chosen;
  said = is.said;
  reads = is.reads;
  once = is.once;
  list_is = list_is ∙ is.values (codes "sync-msg-list") list_ne;
  path_is = subst (λ (v : Option Text). IsPath v path) (is.values (codes "path") path_ne) path_is;
  files_are = subst (λ (ws : List Text). AreFiles ws files) (ap (λ (o : Option (List Text)). unwrap_or o []) is.others ∙ some_list (own_words is.said)) files_are;
}

-- without a path or without files the words are not the command
pub no_path_found : (words : List Text) (found : ArgMatches) → IsFound compile_options words found → ((path : List Text) → ¬ IsPath (first_of (codes "path") (rows_of (found_of found))) path) → IsNoCompile words
no_path_found words found is none list path files command =
    none path (subst (λ (v : Option Text). IsPath v path) (found_value compile_options words found command.said table is command.reads command.once (codes "path") path_ne) command.path_is)

pub no_files_found : (words : List Text) (found : ArgMatches) → IsFound compile_options words found → ((files : List Text) → ¬ AreFiles (unwrap_or (all_of own_id (rows_of (found_of found))) []) files) → IsNoCompile words
no_files_found words found is none list path files command =
    none files (subst (λ (ws : List Text). AreFiles ws files)
    (found_words compile_options words found command.said table is command.reads command.once) command.files_are)

-- ---- one command

pub one_path : (value : Option Text) (path other : List Text) → IsPath value path → IsPath value other → path ≡ other
one_path None path other p q = p ∙ sym q
one_path (Some text) path other p q = dirs_are text path p ∙ sym (dirs_are text other q)

pub one_compile : (words : List Text) (list list' : Option Text) (path path' files files' : List Text)
    → IsCompile words list path files → IsCompile words list' path' files' → (list ≡ list') × (path ≡ path') × (files ≡ files')
one_compile words list list' path path' files files' a b =
    let value = same_value compile_options words a.said b.said table a.reads a.once b.reads b.once in (
      a.list_is ∙ value (codes "sync-msg-list") list_ne ∙ sym b.list_is,
      one_path (value_of (codes "path") b.said) path path' (subst (λ (v : Option Text). IsPath v path) (value (codes "path") path_ne) a.path_is) b.path_is,
      a.files_are.listed.files_are ∙ ap firsts (same_words compile_options words a.said b.said table a.reads a.once b.reads b.once) ∙ sym b.files_are.listed.files_are,
    )

-- what the parser lends, as lists
pub lent : (found : Option (Bor (List (Bor Text)))) (none : Bor (List (Bor Text))) → none.now ≡ [] → map (λ w. w.now) (unwrap_or found none).now ≡ unwrap_or (option_map (λ s. map (λ v. v.now) s.now) found) []
lent None none e = ap (map (λ w. w.now)) e
lent (Some s) none e = refl
