-- The command that runs a generated case, by what is found in its words.
use Rattle.std.proofs.Common.{◌≡◌, ◌≢◌, ◌∙◌, ℕ, List, [], ◌∷◌, Option, Some, None, refl, sym, ap, subst, codes}
use Rattle.std.specs.Prelude.{unwrap_or}
use Rattle.std.specs.Str.Parse.{digits_value}
use Rattle.clap.specs.Words.{all_of, first_of, found_of, rows_of}
use Rattle.clap.specs.declared.parser.matches.ArgMatches.{ArgMatches}
use Rattle.command_words.specs.Options.{own_words, value_of}
use Rattle.command_words.specs.Forms.{own_id}
use Rattle.command_words.specs.Tables.{IsTable}
use Rattle.command_words.specs.Found.{IsFound}
use Rattle.command_words.specs.Gen.{IsActors, IsGen, IsNoGen, IsRounds, SaysGen, gen_options, gen_word}
use Rattle.command_words.proofs.Compiled.{Text, found_value, found_words, no_letter, same_value, same_words, some_list}

-- the option can be distinguished from the other words
pub gen_table : IsTable gen_options
gen_table = (λ e. cc, refl, refl, refl, no_letter, tt)

actors_ne : codes "actors" ≢ own_id
actors_ne e = cc

-- what is found makes the command
pub gen_found : (words : List Text) (found : ArgMatches) (rounds actors : ℕ) → IsFound gen_options words found
    → IsActors (first_of (codes "actors") (rows_of (found_of found))) actors → IsRounds (unwrap_or (all_of own_id (rows_of (found_of found))) []) rounds → SaysGen words rounds actors
gen_found words found rounds actors is actors_is rounds_is = record {
  said = is.said;
  reads = is.reads;
  once = is.once;
  actors_is = subst (λ (v : Option Text). IsActors v actors) (is.values (codes "actors") actors_ne) actors_is;
  rounds_is = subst (λ (ws : List Text). IsRounds ws rounds) (ap (λ (o : Option (List Text)). unwrap_or o []) is.others ∙ some_list (own_words is.said)) rounds_is;
}

-- without a number of actors or of rounds the words are not the command
pub no_actors_found : (words : List Text) (found : ArgMatches) → IsFound gen_options words found → ((actors : ℕ) → ¬ IsActors (first_of (codes "actors") (rows_of (found_of found))) actors) → IsNoGen (gen_word ∷ words)
no_actors_found words found is none rounds actors command =
    none actors (subst (λ (v : Option Text). IsActors v actors)
    (found_value gen_options words found command.1.said gen_table is command.1.reads command.1.once (codes "actors") actors_ne) command.1.actors_is)

pub no_rounds_found : (words : List Text) (found : ArgMatches) → IsFound gen_options words found → ((rounds : ℕ) → ¬ IsRounds (unwrap_or (all_of own_id (rows_of (found_of found))) []) rounds) → IsNoGen (gen_word ∷ words)
no_rounds_found words found is none rounds actors command =
    none rounds (subst (λ (ws : List Text). IsRounds ws rounds)
    (found_words gen_options words found command.1.said gen_table is command.1.reads command.1.once) command.1.rounds_is)

-- ---- one command

same_text : (a b : Text) → a ∷ [] ≡ b ∷ [] → a ≡ b
same_text a b e = cc

one_actors : (value : Option Text) (actors other : ℕ) → IsActors value actors → IsActors value other → actors ≡ other
one_actors None actors other p q = p ∙ sym q
one_actors (Some text) actors other p q = p.number.value ∙ sym q.number.value

one_rounds : (words : List Text) (rounds other : ℕ) → IsRounds words rounds → IsRounds words other → rounds ≡ other
one_rounds words rounds other p q = p.count.number.value ∙ ap (digits_value 10) (same_text p.text q.text (sym p.one ∙ q.one)) ∙ sym q.count.number.value

pub one_gen : (words : List Text) (rounds rounds' actors actors' : ℕ) → IsGen words rounds actors → IsGen words rounds' actors' → (rounds ≡ rounds') × (actors ≡ actors')
one_gen [] rounds rounds' actors actors' a b = absurd a
one_gen (word ∷ words) rounds rounds' actors actors' (e, a) (f, b) = (
  one_rounds (own_words b.said) rounds rounds' (subst (λ (ws : List Text). IsRounds ws rounds) (same_words gen_options words a.said b.said gen_table a.reads a.once b.reads b.once) a.rounds_is) b.rounds_is,
  one_actors (value_of (codes "actors") b.said) actors actors'
      (subst (λ (v : Option Text). IsActors v actors) (same_value gen_options words a.said b.said gen_table a.reads a.once b.reads b.once (codes "actors") actors_ne) a.actors_is) b.actors_is,
)
