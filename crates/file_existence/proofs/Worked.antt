-- Worked texts, with tokens and without, and worked tokens, with a tree and without.
use Rattle.std.proofs.Common.{[], codes, refl}
use Rattle.std.proofs.lemmas.List.Elements.{All-nil}
use Rattle.ipdl_base.specs.declared.finding.Place.{Place}
use Rattle.ipdl_lex.specs.declared.token.LexFault.TheVariants.{OpenString}
use Rattle.ipdl_lex.specs.Tokens.{IsShort}
use Rattle.ipdl_lex.proofs.Fronts.{no_quote-end, open_string_at}
use Rattle.ipdl_syntax.specs.declared.tree.FileKind.TheVariants as file
use Rattle.tree_reader.specs.Machine.{refusal}
use Rattle.ipdl_parse.specs.Place.{HasTree}
use Rattle.ipdl_parse.proofs.Places.{refuses_at_place, refuses_tree}
use Rattle.ipdl_parse.proofs.Whole.{taken_tree}
use Rattle.file_existence.specs.Laws.{HasFault, HasSyntaxPlace, HasTokens}

-- an empty text has no token, and ends where it begins
empty_text : HasTokens 7 []
empty_text = (record { tokens = []; end = record { file = 7; line = 1; column = 1 } }, record { pieces = []; cut = refl; short = All-nil IsShort; tokens = refl; end = refl })

-- a text that is a quote has a fault, and no tokens
a_quote : HasFault 7 (codes "\"")
a_quote = (
  OpenString (record { file = 7; line = 1; column = 1 }),
  record {
    pieces = [];
    before = [];
    rest = codes "\"";
    split = refl;
    cut = refl;
    short = All-nil IsShort;
    fails = (refl, open_string_at (codes "\"") [] refl refl (no_quote-end [] refl));
  },
)

-- the empty list of tokens is a header
empty_header : HasTree file.Header []
unfolding refusal
empty_header = taken_tree file.Header [] refl

-- the empty list of tokens is not a protocol file, and the syntax place is the end
empty_protocol : (end : Place) → HasSyntaxPlace file.Protocol [] end
unfolding refusal
empty_protocol end = record { none = refuses_tree file.Protocol [] 0 refl; index = 0; longest = refuses_at_place file.Protocol [] 0 refl; place = end; here = refl }
