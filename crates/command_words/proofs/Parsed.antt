-- What the parser answers on words that are read, and on words that are not.
use Rattle.std.proofs.Common.{◌≡◌, ◌≢◌, ◌∙◌, Bool, true, false, List, [], ◌∷◌, String, Global, map, string_bytes, inl, inr, refl, sym, ap, subst}
use Rattle.std.specs.Str.{bytes_eq}
use Rattle.std.proofs.lemmas.Str.{IsUtf8-string_bytes}
use Rattle.clap.specs.Words.{HasKind, Kinds, Text, all_of, fault_of, first_of, found_of, kind_of, matches_of, rows_of}
use Rattle.clap.specs.declared.error.Error.{Error}
use Rattle.clap.specs.declared.error.kind.ErrorKind.TheVariants.{OutOfMemory}
use Rattle.clap.specs.declared.parser.matches.ArgMatches.{ArgMatches}
use Rattle.command_words.specs.Options.{Choice, EachOnce, Reads, WordUse, own_words, value_of}
use Rattle.command_words.specs.Tables.{IsTable}
use Rattle.command_words.specs.Forms.{form_of, own_id}
use Rattle.command_words.specs.Found.{IsFound, some_of}
use Rattle.command_words.proofs.Comparisons.{text_is}
use Rattle.command_words.proofs.Rows.{fresh_once, once_fresh, others_found, read_proper, value_found}
use Rattle.command_words.proofs.Walks.{AreTexts, fresh_words, words_read}

-- words of strings are texts
pub are_texts : (words : List (String Global)) → AreTexts (map string_bytes words)
are_texts [] = tt
are_texts (w ∷ ws) = (IsUtf8-string_bytes w, are_texts ws)

-- words that are read, each option once, are taken
pub read_taken : (options : List Choice) (words : List Text) (said : List WordUse) → IsTable options → Reads options words said → EachOnce said → fault_of (form_of options) words ≡ []
read_taken options words said t reads once = (fresh_words options words said t reads (once_fresh said (read_proper options t words said reads) once)).0

-- so an error is of memory
pub read_no_usage : (options : List Choice) (words : List Text) (e : Error) → IsTable options → HasKind (fault_of (form_of options) words) e → kind_of e ≢ OutOfMemory → (said : List WordUse) → Reads options words said → ¬ EachOnce said
read_no_usage options words e t fails other said reads once =
    elim (subst (λ (k : Kinds). HasKind k e) (read_taken options words said t reads once) fails) [ inl memory ↦ other memory | inr none ↦ none ]

other_id : (name : Text) → name ≢ own_id → bytes_eq own_id name ≡ false
other_id name ne = go (bytes_eq own_id name) refl
  where
    go : (b : Bool) → bytes_eq own_id name ≡ b → b ≡ false
    go true e = absurd (ne (sym (text_is own_id name e)))
    go false e = refl

-- what words say, in the rows that the parser gives
pub said_found : (options : List Choice) (words : List Text) (said : List WordUse) → IsTable options → Reads options words said → EachOnce said
    → ((name : Text) → name ≢ own_id → first_of name (matches_of (form_of options) words) ≡ value_of name said) × (all_of own_id (matches_of (form_of options) words) ≡ some_of (own_words said))
said_found options words said t reads once =
    let proper = read_proper options t words said reads in
    let fresh = once_fresh said proper once in
    let rows = (fresh_words options words said t reads fresh).1 in
    (λ name ne. ap (first_of name) rows ∙ value_found name said (other_id name ne) fresh, ap (all_of own_id) rows ∙ others_found said proper fresh)

-- words that are taken are read, and what the parser finds is what they say
pub taken_found : (options : List Choice) (words : List Text) (found : ArgMatches) → IsTable options → AreTexts words → fault_of (form_of options) words ≡ [] → rows_of (found_of found) ≡ matches_of (form_of options) words → IsFound options words found
taken_found options words found t texts none rows =
    let got = words_read options words t texts none in
    let once = fresh_once got.0 (read_proper options t words got.0 got.1) got.2 in
    let in_rows = said_found options words got.0 t got.1 once in
    record {
      said = got.0;
      reads = got.1;
      once = once;
      values = λ name ne. ap (first_of name) rows ∙ in_rows.0 name ne;
      others = ap (all_of own_id) rows ∙ in_rows.1;
    }
