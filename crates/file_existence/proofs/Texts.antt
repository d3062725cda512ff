-- A text is cut piece by piece to its end or to a fault.
use Rattle.std.proofs.Common.{◌⊎◌, ℕ, zero, suc, ◌<◌, ◌≤◌, List, [], ◌∷◌, ◌++◌, Option, Some, None, length, take, drop, refl, inl, inr, arith, length-drop, length-take-le, le_refl}
use Rattle.std.proofs.lemmas.Bool.{cases_lt}
use Rattle.ipdl_base.specs.declared.finding.Place.{Place}
use Rattle.ipdl_base.specs.declared.token.Token.{Token}
use Rattle.ipdl_base.specs.declared.token.TokenKind.{TokenKind}
use Rattle.ipdl_lex.specs.declared.token.LexFault.TheVariants.{TooLong}
use Rattle.ipdl_lex.specs.Places.{place_after}
use Rattle.ipdl_lex.specs.Tokens.{IsShortOf, token_at}
use Rattle.ipdl_lex.specs.Scan.{IsFront, after_bytes}
use Rattle.ipdl_lex.proofs.Classes.{piece_nonempty}
use Rattle.ipdl_lex.proofs.Fronts.{too_long}
use Rattle.ipdl_lex.proofs.Steps.{Reaches, Reaches-start, Reaches-step, IsTokens-done, IsFault-reached}
use Rattle.file_existence.specs.Laws.{HasTokens, HasFault, TextsHaveAnswers}
use Rattle.file_existence.proofs.Pieces.{Fails, front_or_fault}

-- a piece has a byte
some_byte : (rest : List ℕ) (kind : Option TokenKind) (len : ℕ) → IsFront rest kind len → 0 < len
some_byte rest kind zero front = absurd (piece_nonempty kind front.begins.is_piece)
some_byte rest kind (suc len) front = omega arith

-- a token has at most 256 bytes, or is too long
short_or_long : (rest : List ℕ) (here : Place) (kind : Option TokenKind) (len : ℕ) → IsFront rest kind len → IsShortOf kind (take len rest) ⊎ Fails rest here
short_or_long rest here None len front = inl tt
short_or_long rest here (Some kind) len front = elim (cases_lt 256 len) [
  | inl long ↦ inr (TooLong here, (refl, too_long rest (Some kind) len front refl long))
  | inr short ↦ inl (let e = length-take-le len rest front.fits in omega arith)
]

-- a text that is cut up to a rest of at most this number of bytes
cut_on : (most file : ℕ) (text : List ℕ) (tokens : List Token) (here : Place) (rest : List ℕ) → length rest ≤ most → Reaches file text tokens here rest → HasTokens file text ⊎ HasFault file text
cut_on most file text tokens here [] enough reached = inl (record { tokens = tokens; end = here }, IsTokens-done file text tokens here [] tokens reached refl refl)
cut_on zero file text tokens here (b ∷ bs) enough reached = absurd (omega arith)
cut_on (suc most) file text tokens here (b ∷ bs) enough reached = elim (front_or_fault b bs here) [
  | inl (kind, len, front) ↦ elim (short_or_long (b ∷ bs) here kind len front) [
    | inl short ↦ cut_on most file text (tokens ++ token_at here kind (take len (b ∷ bs))) (after_bytes here (take len (b ∷ bs))) (drop len (b ∷ bs))
        (let some = some_byte (b ∷ bs) kind len front in let left = length-drop len (b ∷ bs) in omega arith)
        (Reaches-step file text tokens here (b ∷ bs) kind len reached front short)
    | inr fails ↦ inr (fails.0, IsFault-reached file text tokens here (b ∷ bs) fails.0 reached fails.1)
  ]
  | inr fails ↦ inr (fails.0, IsFault-reached file text tokens here (b ∷ bs) fails.0 reached fails.1)
]

pub texts_have_answers : TextsHaveAnswers
texts_have_answers file text = cut_on (length text) file text [] (place_after file []) text (le_refl (length text)) (Reaches-start file text)
