-- The machine takes tokens or refuses them: they have a tree, or a syntax place.
use Rattle.std.proofs.Common.{◌≡◌, ◌⊎◌, ℕ, ◌-◌, List, [], length, Option, Some, None, refl, inl, inr}
use Rattle.std.specs.Prelude.{slice_get, MatchOption}
use Rattle.ipdl_base.specs.declared.finding.Place.{Place}
use Rattle.ipdl_base.specs.declared.token.Token.{Token}
use Rattle.ipdl_syntax.specs.declared.tree.FileKind.{FileKind}
use Rattle.tree_reader.specs.Machine.{begin, refusal}
use Rattle.ipdl_parse.specs.Place.{HasTree}
use Rattle.ipdl_parse.proofs.Places.{refuses_at_place, refuses_tree}
use Rattle.ipdl_parse.proofs.Whole.{taken_tree}
use Rattle.file_existence.specs.Laws.{HasSyntaxPlace, TokensHaveAnswers, FilesHaveAnswers}
use Rattle.file_existence.proofs.Texts.{texts_have_answers}

-- a token has a place, and the end has a place
place_of : (end : Place) (token : Option Token) → (place : Place) × MatchOption token (place ≡ end) (λ t. place ≡ t.place)
place_of end None = (end, refl)
place_of end (Some t) = (t.place, refl)

by_refusal : (kind : FileKind) (tokens : List Token) (end : Place) (refused : Option ℕ) → refusal [] (begin kind) tokens ≡ refused → HasTree kind tokens ⊎ HasSyntaxPlace kind tokens end
by_refusal kind tokens end None e = inl (taken_tree kind tokens e)
by_refusal kind tokens end (Some left) e =
    let place = place_of end (slice_get tokens (length tokens - left)) in
    inr (record {
      none = refuses_tree kind tokens left e;
      index = length tokens - left;
      longest = refuses_at_place kind tokens left e;
      place = place.0;
      here = place.1;
    })

pub tokens_have_answers : TokensHaveAnswers
tokens_have_answers kind tokens end = by_refusal kind tokens end (refusal [] (begin kind) tokens) refl

pub files_have_answers : FilesHaveAnswers
files_have_answers kind file text = elim (texts_have_answers file text) [
  | inl (lexed, tokens) ↦ inl (lexed, tokens, tokens_have_answers kind lexed.tokens lexed.end)
  | inr fault ↦ inr fault
]
