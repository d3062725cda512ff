-- What the loop of the scan has found so far.
use Rattle.std.proofs.Common.{◌≡◌, ℕ, ◌+◌, ◌≤◌, ◌==◌, true, false, not, cond, List, [], ◌∷◌, ◌++◌, Option, length, take, drop, count_by, reverse, refl, subst, sym, ap, ◌∙◌, ⊎_elim, arith}
use Rattle.std.specs.Prelude.{All}
use Rattle.std.specs.List.{flat_map, suffix_len, prefix_len}
use Rattle.std.proofs.lemmas.Bool.{cases_Bool, eqb-true}
use Rattle.std.proofs.lemmas.List.{append-nil, append_assoc, nil_from_length, reverse-append, length-append, flat_map_more}
use Rattle.std.proofs.lemmas.List.Sums.{sum_by_push, count_by-le-length, suffix_len-le-length}
use Rattle.std.proofs.lemmas.List.Elements.{All-push, All-nil}
use Rattle.ipdl_base.specs.declared.finding.Place.{Place}
use Rattle.ipdl_base.specs.declared.token.TokenKind.{TokenKind}
use Rattle.ipdl_base.specs.declared.token.Token.{Token}
use Rattle.ipdl_lex.specs.declared.token.LexFault.{LexFault}
use Rattle.ipdl_lex.specs.Pieces.{is_line_feed, Piece}
use Rattle.ipdl_lex.specs.Places.{place_after}
use Rattle.ipdl_lex.specs.Tokens.{Begins, Cuts, IsShort, IsShortOf, token_at, tokens_of, IsTokens, FailsAt, IsFault}
use Rattle.ipdl_lex.specs.Scan.{IsFront, after_byte, after_bytes}

-- places

line_after : (before : List ℕ) (b : ℕ) → 1 + count_by is_line_feed (before ++ b ∷ []) ≡ cond (is_line_feed b) (1 + count_by is_line_feed before + 1) (1 + count_by is_line_feed before)
line_after before b =
    let push = sum_by_push (λ x. cond (is_line_feed x) 1 0) before b in
    ⊎_elim
    (λ (feed : is_line_feed b ≡ true). rw feed (let p = rw feed at push in omega arith))
    (λ (none : is_line_feed b ≡ false). rw none (let p = rw none at push in omega arith))
    (cases_Bool (is_line_feed b))

column_after : (before : List ℕ) (b : ℕ) → 1 + suffix_len (λ x. not (is_line_feed x)) (before ++ b ∷ []) ≡ cond (is_line_feed b) 1 (1 + suffix_len (λ x. not (is_line_feed x)) before + 1)
column_after before b =
    let turned : reverse (before ++ b ∷ []) ≡ b ∷ reverse before = reverse-append before (b ∷ []) in
    let push = ap (prefix_len (λ x. not (is_line_feed x))) turned in
    ⊎_elim
    (λ (feed : is_line_feed b ≡ true). rw feed (let p = rw feed at push in omega arith))
    (λ (none : is_line_feed b ≡ false). rw none (let p = rw none at push in omega arith))
    (cases_Bool (is_line_feed b))

place_after-push : (file : ℕ) (before : List ℕ) (b : ℕ) → place_after file (before ++ b ∷ []) ≡ after_byte (place_after file before) b
place_after-push file before b = λ i. record { file = file; line = line_after before b i; column = column_after before b i }

-- the place that the scan keeps is that of the definition
place_after-append : (file : ℕ) (before bytes : List ℕ) → after_bytes (place_after file before) bytes ≡ place_after file (before ++ bytes)
place_after-append file before [] = ap (place_after file) (sym (append-nil before))
place_after-append file before (b ∷ bs) =
    ap (λ p. after_bytes p bs) (sym (place_after-push file before b)) ∙ place_after-append file (before ++ b ∷ []) bs
    ∙ ap (place_after file) (append_assoc before (b ∷ []) bs)

-- the tokens that are found so far

-- the bytes of pieces, one piece after another
abbrev pub spelling : List Piece → List ℕ
spelling pieces = flat_map (λ p. p.bytes) pieces

spelling-push : (pieces : List Piece) (piece : Piece) → spelling (pieces ++ piece ∷ []) ≡ spelling pieces ++ piece.bytes
spelling-push pieces piece = sym (flat_map_more (λ (p : Piece). p.bytes) [] pieces piece)

pub Cuts-spelling : (text : List ℕ) (pieces : List Piece) (rest : List ℕ) → Cuts text pieces rest → text ≡ spelling pieces ++ rest
Cuts-spelling text [] rest cut = cut
Cuts-spelling text (piece ∷ pieces) rest cut =
    cut.1.split ∙ ap (λ l. piece.bytes ++ l) (Cuts-spelling cut.0 pieces rest cut.2) ∙ sym (append_assoc piece.bytes (spelling pieces) rest)

Cuts-push : (text : List ℕ) (pieces : List Piece) (rest : List ℕ) (piece : Piece) (after : List ℕ) → Cuts text pieces rest → Begins rest piece after → Cuts text (pieces ++ piece ∷ []) after
Cuts-push text [] rest piece after cut begins = (after, subst (λ t. Begins t piece after) (sym cut) begins, refl)
Cuts-push text (p ∷ ps) rest piece after cut begins = (cut.0, cut.1, Cuts-push cut.0 ps rest piece after cut.2 begins)

tokens_of-push : (file : ℕ) (before : List ℕ) (pieces : List Piece) (piece : Piece)
    → tokens_of file before (pieces ++ piece ∷ []) ≡ tokens_of file before pieces ++ token_at (place_after file (before ++ spelling pieces)) piece.kind piece.bytes
tokens_of-push file before [] piece = append-nil _ ∙ ap (λ b. token_at (place_after file b) piece.kind piece.bytes) (sym (append-nil before))
tokens_of-push file before (p ∷ ps) piece =
    ap (λ l. token_at (place_after file before) p.kind p.bytes ++ l) (tokens_of-push file (before ++ p.bytes) ps piece)
    ∙ sym (append_assoc (token_at (place_after file before) p.kind p.bytes) (tokens_of file (before ++ p.bytes) ps) _)
    ∙ ap (λ b. (token_at (place_after file before) p.kind p.bytes ++ tokens_of file (before ++ p.bytes) ps) ++ token_at (place_after file b) piece.kind piece.bytes)
    (append_assoc before p.bytes (spelling ps))

-- the text is cut up to the rest, and these are the tokens before it and its place
pub record Reaches (file : ℕ) (text : List ℕ) (tokens : List Token) (here : Place) (rest : List ℕ) : Type 0 where
  pub pieces : List Piece
  pub cut : Cuts text pieces rest
  pub short : All IsShort pieces
  pub tokens_are : tokens ≡ tokens_of file [] pieces
  pub here_is : here ≡ place_after file (spelling pieces)

pub Reaches-start : (file : ℕ) (text : List ℕ) → Reaches file text [] (place_after file []) text
Reaches-start file text = record { pieces = []; cut = refl; short = All-nil IsShort; tokens_are = refl; here_is = refl }

pub Reaches-step : (file : ℕ) (text : List ℕ) (tokens : List Token) (here : Place) (rest : List ℕ) (kind : Option TokenKind) (len : ℕ)
    → Reaches file text tokens here rest → IsFront rest kind len → IsShortOf kind (take len rest)
    → Reaches file text (tokens ++ token_at here kind (take len rest)) (after_bytes here (take len rest)) (drop len rest)
Reaches-step file text tokens here rest kind len reached front short =
    let piece : Piece = record { kind = kind; bytes = take len rest } in
    let spelled = spelling-push reached.pieces piece in
    record {
      pieces = reached.pieces ++ piece ∷ [];
      cut = Cuts-push text reached.pieces rest piece (drop len rest) reached.cut front.begins;
      short = All-push IsShort reached.pieces piece reached.short short;
      tokens_are =
          (λ i. reached.tokens_are i ++ token_at (reached.here_is i) kind (take len rest)) ∙ sym (tokens_of-push file [] reached.pieces piece);
      here_is =
          ap (λ p. after_bytes p (take len rest)) reached.here_is
          ∙ place_after-append file (spelling reached.pieces) (take len rest)
          ∙ ap (place_after file) (sym spelled);
    }

-- the same for values that are equal to these
pub Reaches-next : (file : ℕ) (text : List ℕ) (tokens : List Token) (here : Place) (rest : List ℕ) (kind : Option TokenKind) (len : ℕ)
    → Reaches file text tokens here rest → IsFront rest kind len → IsShortOf kind (take len rest)
    → (bytes after : List ℕ) (more : List Token) (next : Place) → bytes ≡ take len rest → after ≡ drop len rest → more ≡ tokens ++ token_at here kind bytes → next ≡ after_bytes here bytes
    → Reaches file text more next after
Reaches-next file text tokens here rest kind len reached front short bytes after more next is_bytes is_after is_more is_next =
    subst (Reaches file text more next) (sym is_after)
    (subst (λ p. Reaches file text more p (drop len rest)) (sym (is_next ∙ ap (after_bytes here) is_bytes))
    (subst (λ t. Reaches file text t (after_bytes here (take len rest)) (drop len rest)) (sym (is_more ∙ ap (λ b. tokens ++ token_at here kind b) is_bytes))
    (Reaches-step file text tokens here rest kind len reached front short)))

-- the whole text is cut
IsTokens-reached : (file : ℕ) (text : List ℕ) (tokens : List Token) (here : Place) → Reaches file text tokens here [] → IsTokens file text (record { tokens = tokens; end = here })
IsTokens-reached file text tokens here reached = record {
  pieces = reached.pieces;
  cut = reached.cut;
  short = reached.short;
  tokens = reached.tokens_are;
  end = reached.here_is ∙ ap (place_after file) (sym (Cuts-spelling text reached.pieces [] reached.cut ∙ append-nil _));
}

pub IsTokens-done : (file : ℕ) (text : List ℕ) (tokens : List Token) (here : Place) (rest : List ℕ) (all : List Token) → Reaches file text tokens here rest → (length rest == 0) ≡ true → all ≡ tokens
    → IsTokens file text (record { tokens = all; end = here })
IsTokens-done file text tokens here rest all reached is_empty is_all =
    let none : rest ≡ [] = nil_from_length rest (eqb-true (length rest) 0 is_empty) in
    IsTokens-reached file text all here (subst (Reaches file text all here) none (subst (λ t. Reaches file text t here rest) (sym is_all) reached))

-- the text fails at the rest
pub IsFault-reached : (file : ℕ) (text : List ℕ) (tokens : List Token) (here : Place) (rest : List ℕ) (fault : LexFault) → Reaches file text tokens here rest → FailsAt rest here fault → IsFault file text fault
IsFault-reached file text tokens here rest fault reached fails = record {
  pieces = reached.pieces;
  before = spelling reached.pieces;
  rest = rest;
  split = Cuts-spelling text reached.pieces rest reached.cut;
  cut = reached.cut;
  short = reached.short;
  fails = subst (λ p. FailsAt rest p fault) reached.here_is fails;
}

-- the line and the column of a place are bounded by the length of the text
pub Reaches-small : (file : ℕ) (text : List ℕ) (tokens : List Token) (here : Place) (rest : List ℕ) → Reaches file text tokens here rest
    → (here.line + length rest ≤ 1 + length text) × (here.column + length rest ≤ 1 + length text)
Reaches-small file text tokens here rest reached =
    let before = spelling reached.pieces in
    let whole = ap length (Cuts-spelling text reached.pieces rest reached.cut) in
    let sum = length-append before rest in
    let line = ap (λ (p : Place). p.line) reached.here_is in
    let column = ap (λ (p : Place). p.column) reached.here_is in
    let lines = count_by-le-length is_line_feed before in
    let columns = suffix_len-le-length (λ x. not (is_line_feed x)) before in
    (omega arith, omega arith)
