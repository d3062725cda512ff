-- A text has one answer: one list of tokens, or one fault.
use Rattle.std.proofs.Common.{◌≡◌, ℕ, ◌≤◌, List, [], ◌∷◌, ◌++◌, Option, Some, Result, Ok, Err, length, refl, subst, sym, ap, ◌∙◌, ⊎_elim, inl, inr, arith}
use Rattle.std.specs.Prelude.{◌⊎◌, IfOk, IfErr}
use Rattle.std.specs.List.{AllByRecursion}
use Rattle.std.proofs.lemmas.List.{append_cancel_right}
use Rattle.std.proofs.lemmas.List.Elements.{recursion_from_All}
use Rattle.ipdl_base.specs.declared.finding.Place.{Place}
use Rattle.ipdl_base.specs.declared.token.TokenKind.{TokenKind}
use Rattle.ipdl_lex.specs.declared.token.LexedText.{LexedText}
use Rattle.ipdl_lex.specs.declared.token.LexFault.{LexFault}
use Rattle.ipdl_lex.specs.declared.token.LexFault.TheVariants.{BadByte, OpenComment, OpenString, TooLong, NoMemory}
use Rattle.ipdl_lex.specs.Pieces.{Piece, IsPieceOf}
use Rattle.ipdl_lex.specs.Places.{place_after}
use Rattle.ipdl_lex.specs.Tokens.{Begins, Cuts, IsShort, tokens_of, IsTokens, IsStuck, IsOpenComment, IsOpenString, IsTooLong, FailsAt, IsFault, Gives}
use Rattle.ipdl_lex.proofs.Classes.{kind_unique, piece_nonempty}

-- two prefixes of one list with the same length are equal, and the rests are too
fronts_same : (a b r s : List ℕ) → a ++ r ≡ b ++ s → length a ≡ length b → (a ≡ b) × (r ≡ s)
fronts_same [] [] r s e l = (refl, e)
fronts_same [] (y ∷ ys) r s e l = absurd (omega arith)
fronts_same (x ∷ xs) [] r s e l = absurd (omega arith)
fronts_same (x ∷ xs) (y ∷ ys) r s e l =
    let tails : xs ++ r ≡ ys ++ s = cc in
    let same = fronts_same xs ys r s tails (omega arith) in
    let same_tail = same.0 in
    (cc, same.1)

kinds_same : (k l : Option TokenKind) (bytes : List ℕ) → IsPieceOf k bytes → IsPieceOf l bytes → k ≡ l
kinds_same k l [] h i = absurd (piece_nonempty k h)
kinds_same k l (b ∷ bs) h i = kind_unique k l b bs h i

-- one piece begins a text
begins_same : (text : List ℕ) (p q : Piece) (r s : List ℕ) → Begins text p r → Begins text q s → (p ≡ q) × (r ≡ s)
begins_same text p q r s h i =
    let below = h.longest q s i.is_piece i.split in
    let above = i.longest p r h.is_piece h.split in
    let same = fronts_same p.bytes q.bytes r s (sym h.split ∙ i.split) (omega arith) in
    let kinds = kinds_same p.kind q.kind p.bytes h.is_piece (subst (IsPieceOf q.kind) (sym same.0) i.is_piece) in
    (λ j. record { kind = kinds j; bytes = same.0 j }, same.1)

-- no short piece begins the rest of a text that is cut as far as it goes
abbrev Ends : List ℕ → Type 0
Ends rest = (piece : Piece) (after : List ℕ) → Begins rest piece after → IsShort piece → ⊥

ends_stuck : (rest : List ℕ) → IsStuck rest → Ends rest
ends_stuck rest stuck piece after begins short = stuck piece after begins.is_piece begins.split

ends_empty : Ends []
ends_empty piece after begins short = empty_front piece.kind piece.bytes after begins.is_piece begins.split
  where
    empty_front : (k : Option TokenKind) (bytes after : List ℕ) → IsPieceOf k bytes → [] ≡ bytes ++ after → ⊥
    empty_front k [] after is e = piece_nonempty k is
    empty_front k (b ∷ bs) after is e = cc

ends_long : (rest : List ℕ) → IsTooLong rest → Ends rest
ends_long rest long piece after begins short =
    let same = begins_same rest piece (record { kind = Some long.kind; bytes = long.bytes }) after long.after begins long.begins in
    let fits : length long.bytes ≤ 256 = subst IsShort same.0 short in
    let too_many = long.long in
    omega arith

ends_failing : (rest : List ℕ) (here : Place) (fault : LexFault) → FailsAt rest here fault → Ends rest
ends_failing rest here (BadByte place) fails = ends_stuck rest fails.1.stuck
ends_failing rest here (OpenComment place) fails = ends_stuck rest fails.1.stuck
ends_failing rest here (OpenString place) fails = ends_stuck rest fails.1.stuck
ends_failing rest here (TooLong place) fails = ends_long rest fails.1
ends_failing rest here NoMemory fails = absurd fails

-- a text is cut in one way as far as it goes
cuts_same : (text : List ℕ) (ps qs : List Piece) (r s : List ℕ) → Cuts text ps r → Cuts text qs s → AllByRecursion IsShort ps → AllByRecursion IsShort qs → Ends r → Ends s → (ps ≡ qs) × (r ≡ s)
cuts_same text [] [] r s c d short_p short_q ends_r ends_s = (refl, sym c ∙ d)
cuts_same text [] (q ∷ qs) r s c d short_p short_q ends_r ends_s = absurd (ends_r q d.0 (subst (λ t. Begins t q d.0) c d.1) short_q.0)
cuts_same text (p ∷ ps) [] r s c d short_p short_q ends_r ends_s = absurd (ends_s p c.0 (subst (λ t. Begins t p c.0) d c.1) short_p.0)
cuts_same text (p ∷ ps) (q ∷ qs) r s c d short_p short_q ends_r ends_s =
    let same = begins_same text p q c.0 d.0 c.1 d.1 in
    let rest = cuts_same c.0 ps qs r s c.2 (subst (λ t. Cuts t qs s) (sym same.1) d.2) short_p.1 short_q.1 ends_r ends_s in
    (λ i. same.0 i ∷ rest.0 i, rest.1)

pub tokens_unique : (file : ℕ) (text : List ℕ) (a b : LexedText) → IsTokens file text a → IsTokens file text b → a ≡ b
tokens_unique file text a b h i =
    let short_h = recursion_from_All IsShort h.pieces h.short in
    let short_i = recursion_from_All IsShort i.pieces i.short in
    let same = cuts_same text h.pieces i.pieces [] [] h.cut i.cut short_h short_i ends_empty ends_empty in
    let tokens : a.tokens ≡ b.tokens = h.tokens ∙ ap (tokens_of file []) same.0 ∙ sym i.tokens in
    let end : a.end ≡ b.end = h.end ∙ sym i.end in
    λ j. record { tokens = tokens j; end = end j }

-- a text with a fault, cut as far as it goes, ends where the fault is
faults_same : (file : ℕ) (text : List ℕ) (a b : LexFault) (h : IsFault file text a) (i : IsFault file text b) → (h.rest ≡ i.rest) × (h.before ≡ i.before)
faults_same file text a b h i =
    let short_h = recursion_from_All IsShort h.pieces h.short in
    let short_i = recursion_from_All IsShort i.pieces i.short in
    let same = cuts_same text h.pieces i.pieces h.rest i.rest h.cut i.cut short_h short_i (ends_failing h.rest _ a h.fails) (ends_failing i.rest _ b i.fails) in
    (same.1, append_cancel_right h.before i.before i.rest (ap (λ r. h.before ++ r) (sym same.1) ∙ sym h.split ∙ i.split))

-- one fault comes at a rest

not_stuck : (rest : List ℕ) → IsStuck rest → IsTooLong rest → ⊥
not_stuck rest stuck long = stuck (record { kind = Some long.kind; bytes = long.bytes }) long.after long.begins.is_piece long.begins.split

not_both_open : (rest : List ℕ) → IsOpenComment rest → IsOpenString rest → ⊥
not_both_open rest comment string =
    let is = comment.opens.1 in
    let is_too = string.opens.1 in
    let never : ◌≡◌ {A = ℕ} 47 34 = cc in
    omega arith

fails_same : (rest : List ℕ) (here : Place) (a b : LexFault) → FailsAt rest here a → FailsAt rest here b → a ≡ b
fails_same rest here (BadByte p) (BadByte q) h i = ap BadByte (h.0 ∙ sym i.0)
fails_same rest here (BadByte p) (OpenComment q) h i = absurd (h.1.no_comment i.1.opens)
fails_same rest here (BadByte p) (OpenString q) h i = absurd (h.1.no_string i.1.opens)
fails_same rest here (BadByte p) (TooLong q) h i = absurd (not_stuck rest h.1.stuck i.1)
fails_same rest here (OpenComment p) (BadByte q) h i = absurd (i.1.no_comment h.1.opens)
fails_same rest here (OpenComment p) (OpenComment q) h i = ap OpenComment (h.0 ∙ sym i.0)
fails_same rest here (OpenComment p) (OpenString q) h i = absurd (not_both_open rest h.1 i.1)
fails_same rest here (OpenComment p) (TooLong q) h i = absurd (not_stuck rest h.1.stuck i.1)
fails_same rest here (OpenString p) (BadByte q) h i = absurd (i.1.no_string h.1.opens)
fails_same rest here (OpenString p) (OpenComment q) h i = absurd (not_both_open rest i.1 h.1)
fails_same rest here (OpenString p) (OpenString q) h i = ap OpenString (h.0 ∙ sym i.0)
fails_same rest here (OpenString p) (TooLong q) h i = absurd (not_stuck rest h.1.stuck i.1)
fails_same rest here (TooLong p) (BadByte q) h i = absurd (not_stuck rest i.1.stuck h.1)
fails_same rest here (TooLong p) (OpenComment q) h i = absurd (not_stuck rest i.1.stuck h.1)
fails_same rest here (TooLong p) (OpenString q) h i = absurd (not_stuck rest i.1.stuck h.1)
fails_same rest here (TooLong p) (TooLong q) h i = ap TooLong (h.0 ∙ sym i.0)
fails_same rest here NoMemory b h i = absurd h
fails_same rest here (BadByte p) NoMemory h i = absurd i
fails_same rest here (OpenComment p) NoMemory h i = absurd i
fails_same rest here (OpenString p) NoMemory h i = absurd i
fails_same rest here (TooLong p) NoMemory h i = absurd i

pub fault_unique : (file : ℕ) (text : List ℕ) (a b : LexFault) → IsFault file text a → IsFault file text b → a ≡ b
fault_unique file text a b h i =
    let same = faults_same file text a b h i in
    fails_same i.rest (place_after file i.before) a b
    (subst (λ r. FailsAt r (place_after file i.before) a) same.0 (subst (λ x. FailsAt h.rest (place_after file x) a) same.1 h.fails))
    i.fails

-- there is no fault where a text ends
fails_nowhere : (here : Place) (fault : LexFault) → FailsAt [] here fault → ⊥
fails_nowhere here (BadByte place) fails = fails.1.is_byte refl
fails_nowhere here (OpenComment place) fails = let is = fails.1.opens.1 in cc
fails_nowhere here (OpenString place) fails = let is = fails.1.opens.1 in cc
fails_nowhere here (TooLong place) fails =
    ends_empty_piece fails.1.kind fails.1.bytes fails.1.after fails.1.begins.is_piece fails.1.begins.split
  where
    ends_empty_piece : (k : TokenKind) (bytes after : List ℕ) → IsPieceOf (Some k) bytes → [] ≡ bytes ++ after → ⊥
    ends_empty_piece k [] after is e = piece_nonempty (Some k) is
    ends_empty_piece k (b ∷ bs) after is e = cc
fails_nowhere here NoMemory fails = fails

pub never_both : (file : ℕ) (text : List ℕ) (lexed : LexedText) (fault : LexFault) → IsTokens file text lexed → IsFault file text fault → ⊥
never_both file text lexed fault h i =
    let short_h = recursion_from_All IsShort h.pieces h.short in
    let short_i = recursion_from_All IsShort i.pieces i.short in
    let same = cuts_same text h.pieces i.pieces [] i.rest h.cut i.cut short_h short_i ends_empty (ends_failing i.rest _ fault i.fails) in
    fails_nowhere (place_after file i.before) fault (subst (λ r. FailsAt r (place_after file i.before) fault) (sym same.1) i.fails)

-- so a call that gives tokens or a fault gives the only ones

pub only_tokens : (file : ℕ) (text : List ℕ) (r : Result LexedText LexFault) → IfOk r (IsTokens file text) → IfErr r (λ fault. (fault ≡ NoMemory) ⊎ IsFault file text fault)
    → (lexed : LexedText) → IsTokens file text lexed → Gives r (Ok lexed)
only_tokens file text (Ok found) h i lexed is = inr (ap Ok (tokens_unique file text found lexed h is))
only_tokens file text (Err fault) h i lexed is = ⊎_elim (λ e. inl (ap Err e)) (λ f. absurd (never_both file text lexed fault is f)) i

pub only_fault : (file : ℕ) (text : List ℕ) (r : Result LexedText LexFault) → IfOk r (IsTokens file text) → IfErr r (λ fault. (fault ≡ NoMemory) ⊎ IsFault file text fault)
    → (fault : LexFault) → IsFault file text fault → Gives r (Err fault)
only_fault file text (Ok found) h i fault is = absurd (never_both file text found fault h is)
only_fault file text (Err found) h i fault is = ⊎_elim (λ e. inl (ap Err e)) (λ f. inr (ap Err (fault_unique file text found fault f is))) i
