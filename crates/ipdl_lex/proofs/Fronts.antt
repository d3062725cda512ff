-- Which piece begins a text, and where no piece does.
use Rattle.std.proofs.Common.{◌≡◌, ◌≢◌, ℕ, ◌+◌, ◌<◌, ◌≤◌, true, false, not, ◌==◌, List, [], ◌∷◌, ◌++◌, Option, Some, None, length, take, drop, get_or, is_some, unwrap_or, position, refl, subst, sym, ap, ◌∙◌, ⊎_elim, inl, inr, arith}
use Rattle.std.specs.Prelude.{IsTrue, All}
use Rattle.std.specs.List.{AllByRecursion}
use Rattle.std.proofs.lemmas.Bool.{false≢true, true≢false, both_ways, cases_lt, not-false, not-true, or_parts, or_cases, eqb-true, eqb-false}
use Rattle.std.proofs.lemmas.List.{append-nil, length-take-le, append_assoc, take_at, drop_at, length-append, get_or_at}
use Rattle.std.proofs.lemmas.List.Elements.{All-from_recursion, recursion_from_All}
use Rattle.ipdl_base.specs.declared.token.TokenKind.{TokenKind}
use Rattle.ipdl_base.specs.declared.token.TokenKind.TheVariants.{Quoted, Mark}
use Rattle.ipdl_lex.specs.declared.scan.PieceClass.TheVariants as class
use Rattle.ipdl_base.specs.Words.{is_word_start, is_word_byte, IsWord}
use Rattle.ipdl_lex.specs.Pieces.{is_line_feed, IsBlockComment, Spells, IsPieceOf}
use Rattle.ipdl_lex.specs.Tokens.{Begins, IsStuck, IsOpenComment, IsOpenString, IsBadByte, IsTooLong}
use Rattle.ipdl_lex.specs.Scan.{class_of, ends_quoted, ClosesAt, IsFront}
use Rattle.ipdl_lex.proofs.Classes.{blank_piece, slash_piece, letter_piece, quote_piece, mark_piece, other_piece, piece_nonempty, is_blank-class, slash-class, quote-class, is_mark-class, word_start-class, word_rest, word_of}
use Rattle.ipdl_lex.proofs.Runs.{StopsAt, Run, run_up_to, cut_by, closes_at, closes_split}

-- a fact that follows from another, of each element
all_weaker : (P Q : ℕ → Type 0) → ((x : ℕ) → P x → Q x) → (xs : List ℕ) → AllByRecursion P xs → AllByRecursion Q xs
all_weaker P Q f [] h = tt
all_weaker P Q f (x ∷ xs) h = (f x h.0, all_weaker P Q f xs h.1)

-- a longer prefix of a list begins with the shorter one, and continues into the rest
pub record GoesOn (front rest more after : List ℕ) : Type 0 where
  pub next : ℕ
  pub tail : List ℕ
  pub more_is : more ≡ front ++ next ∷ tail
  pub rest_is : rest ≡ next ∷ (tail ++ after)

goes_on : (front rest more after : List ℕ) → front ++ rest ≡ more ++ after → length front < length more → GoesOn front rest more after
goes_on [] rest [] after e h = absurd (omega arith)
goes_on [] rest (y ∷ ys) after e h = record { next = y; tail = ys; more_is = refl; rest_is = e }
goes_on (x ∷ xs) rest [] after e h = absurd (omega arith)
goes_on (x ∷ xs) rest (y ∷ ys) after e h =
    let tails : xs ++ rest ≡ ys ++ after = cc in
    let g = goes_on xs rest ys after tails (omega arith) in
    let more_is = g.more_is in
    record { next = g.next; tail = g.tail; more_is = cc; rest_is = g.rest_is }

-- a piece begins a text if no piece continues into the rest
begins_by : (k : Option TokenKind) (bytes rest : List ℕ) → IsPieceOf k bytes
    → ((l : Option TokenKind) (next : ℕ) (tail after : List ℕ) → IsPieceOf l (bytes ++ next ∷ tail) → rest ≡ next ∷ (tail ++ after) → ⊥)
    → Begins (bytes ++ rest) (record { kind = k; bytes = bytes }) rest
begins_by k bytes rest piece none = record {
  is_piece = piece;
  split = refl;
  longest = λ other after is e.
      ⊎_elim
      (λ (longer : length bytes < length other.bytes).
      let g = goes_on bytes rest other.bytes after e longer in
      absurd (none other.kind g.next g.tail after (subst (IsPieceOf other.kind) g.more_is is) g.rest_is))
      (λ shorter. shorter)
      (cases_lt (length bytes) (length other.bytes));
}

-- `IsFront` of bytes that are written out
front_of : (text bytes rest : List ℕ) (k : Option TokenKind) (n : ℕ) → text ≡ bytes ++ rest → length bytes ≡ n → Begins (bytes ++ rest) (record { kind = k; bytes = bytes }) rest → IsFront text k n
front_of text bytes rest k n e len begins =
    let front : take n text ≡ bytes = ap (take n) e ∙ take_at bytes rest n len in
    let following : drop n text ≡ rest = ap (drop n) e ∙ drop_at bytes rest n len in
    let lengths = ap length e ∙ length-append bytes rest in
    record {
      fits = omega arith;
      begins =
          subst (λ t. Begins t (record { kind = k; bytes = take n text }) (drop n text)) (sym e)
          (subst (λ b. Begins (bytes ++ rest) (record { kind = k; bytes = b }) (drop n text)) (sym front)
          (subst (λ r. Begins (bytes ++ rest) (record { kind = k; bytes = bytes }) r) (sym following) begins));
    }

-- a piece at the beginning of a text has its first byte
pub record Opened (b : ℕ) (bs : List ℕ) (k : Option TokenKind) (after : List ℕ) : Type 0 where
  pub more : List ℕ
  pub piece : IsPieceOf k (b ∷ more)
  pub rest_is : bs ≡ more ++ after

opened : (b : ℕ) (bs : List ℕ) (k : Option TokenKind) (bytes after : List ℕ) → IsPieceOf k bytes → b ∷ bs ≡ bytes ++ after → Opened b bs k after
opened b bs k [] after is e = absurd (piece_nonempty k is)
opened b bs k (y ∷ ys) after is e =
    let first : y ≡ b = cc in
    record { more = ys; piece = subst (λ x. IsPieceOf k (x ∷ ys)) first is; rest_is = cc }

-- a text is stuck if no piece with its first byte is there
stuck_by : (b : ℕ) (bs : List ℕ) → ((k : Option TokenKind) (more after : List ℕ) → IsPieceOf k (b ∷ more) → bs ≡ more ++ after → ⊥) → IsStuck (b ∷ bs)
stuck_by b bs none piece after is e =
    let o = opened b bs piece.kind piece.bytes after is e in
    none piece.kind o.more after o.piece o.rest_is

-- a blank

blank_begins : (b : ℕ) (rest : List ℕ) → class_of b ≡ class.Blank → Begins ((b ∷ []) ++ rest) (record { kind = None; bytes = b ∷ [] }) rest
blank_begins b rest h =
    begins_by None (b ∷ []) rest (inl (b, is_blank-class b h, refl))
    (λ l next tail after piece e. let tail_is = blank_piece l b (next ∷ tail) h piece in cc)

pub blank_front : (b : ℕ) (rest : List ℕ) → class_of b ≡ class.Blank → IsFront (b ∷ rest) None 1
blank_front b rest h = front_of (b ∷ rest) (b ∷ []) rest None 1 refl refl (blank_begins b rest h)

-- a word

last_of : (P : ℕ → Type 0) (xs : List ℕ) (y : ℕ) (ys : List ℕ) → AllByRecursion P (xs ++ y ∷ ys) → P y
last_of P [] y ys h = h.0
last_of P (x ∷ xs) y ys h = last_of P xs y ys h.1

word_begins : (k : TokenKind) (b : ℕ) (bs rest : List ℕ) → class_of b ≡ class.Letter → Spells k (b ∷ bs) → StopsAt (λ c. not (is_word_byte c)) rest
    → Begins ((b ∷ bs) ++ rest) (record { kind = Some k; bytes = b ∷ bs }) rest
word_begins k b bs rest h word stops =
    begins_by (Some k) (b ∷ bs) rest word
    (λ l next tail after piece e.
    let all = word_rest b (bs ++ next ∷ tail) (letter_piece l b (bs ++ next ∷ tail) h piece) in
    let goes : is_word_byte next ≡ true = last_of (λ c. IsTrue (is_word_byte c)) bs next tail all in
    let ends : not (is_word_byte next) ≡ true = subst (StopsAt (λ c. not (is_word_byte c))) e stops in
    both_ways (is_word_byte next) (not-true _ ends) goes)

-- the bytes up to the first that is not a word byte
word_parts : (b : ℕ) (bs front rest : List ℕ) → class_of b ≡ class.Letter → Run (λ c. not (is_word_byte c)) (b ∷ bs) front rest → (more : List ℕ) × (front ≡ b ∷ more) × IsWord (b ∷ more)
word_parts b bs [] rest h run =
    let letter = word_start-class b h in
    let starts : not (is_word_byte b) ≡ true = subst (StopsAt (λ c. not (is_word_byte c))) (sym run.split) run.stops in
    absurd (true≢false (sym letter ∙ (or_parts (is_word_start b) _ (not-true _ starts)).0))
word_parts b bs (y ∷ ys) rest h run =
    let split = run.split in
    let same : y ≡ b = cc in (
      ys,
      ap (λ x. x ∷ ys) same,
      word_of b ys (word_start-class b h) (all_weaker (λ c. not (is_word_byte c) ≡ false) (λ c. is_word_byte c ≡ true) (λ c e. not-false _ e) ys run.fails.1),
    )

-- the bytes of a text up to the first that is not a word byte are a word
pub word_taken : (text : List ℕ) (n : ℕ) → class_of (get_or text 0 0) ≡ class.Letter → n ≡ unwrap_or (position (λ c. not (is_word_byte c)) text) (length text) → (n ≤ length text) × IsWord (take n text)
word_taken [] n h e = absurd (let never : class.Other ≡ class.Letter = h in cc)
word_taken (b ∷ bs) n h e =
    let r = run_up_to (λ c. not (is_word_byte c)) (b ∷ bs) n e in
    let p = word_parts b bs r.0 r.1 h r.2 in
    let front : take n (b ∷ bs) ≡ r.0 = ap (take n) r.2.split ∙ take_at r.0 r.1 n r.3 in
    let lengths = ap length r.2.split ∙ length-append r.0 r.1 in
    let len = r.3 in
    (omega arith, subst IsWord (sym (front ∙ p.1)) p.2)

-- the word at the beginning of a text
pub word_front : (text : List ℕ) (n : ℕ) (k : TokenKind) → class_of (get_or text 0 0) ≡ class.Letter → n ≡ unwrap_or (position (λ c. not (is_word_byte c)) text) (length text) → Spells k (take n text) → IsFront text (Some k) n
word_front [] n k h e word = absurd (let never : class.Other ≡ class.Letter = h in cc)
word_front (b ∷ bs) n k h e word =
    let r = run_up_to (λ c. not (is_word_byte c)) (b ∷ bs) n e in
    let p = word_parts b bs r.0 r.1 h r.2 in
    let front : take n (b ∷ bs) ≡ b ∷ p.0 = ap (take n) r.2.split ∙ take_at r.0 r.1 n r.3 ∙ p.1 in
    front_of (b ∷ bs) (b ∷ p.0) r.1 (Some k) n (r.2.split ∙ ap (λ f. f ++ r.1) p.1) (ap length (sym p.1) ∙ r.3)
    (word_begins k b p.0 r.1 h (subst (Spells k) front word) r.2.stops)

-- a comment

-- a piece that begins with two slashes is a line comment, and one that begins with `/*` a block comment
line_piece : (k : Option TokenKind) (bs : List ℕ) → IsPieceOf k (47 ∷ 47 ∷ bs) → AllByRecursion (λ c. c ≢ 10) bs
line_piece k bs piece =
    ⊎_elim
    (λ line. let is = line.spelled in let inner : bs ≡ line.inner = cc in subst (AllByRecursion (λ c. c ≢ 10)) (sym inner) (recursion_from_All _ line.inner line.within_line))
    (λ block. absurd (let is = block.spelled in let never : ◌≡◌ {A = ℕ} 47 42 = cc in omega arith))
    (slash_piece k 47 (47 ∷ bs) refl piece)

block_piece : (k : Option TokenKind) (bs : List ℕ) → IsPieceOf k (47 ∷ 42 ∷ bs) → IsBlockComment (47 ∷ 42 ∷ bs)
block_piece k bs piece =
    ⊎_elim
    (λ line. absurd (let is = line.spelled in let never : ◌≡◌ {A = ℕ} 42 47 = cc in omega arith))
    (λ block. block)
    (slash_piece k 47 (42 ∷ bs) refl piece)

line_begins : (inner rest : List ℕ) → AllByRecursion (λ c. is_line_feed c ≡ false) inner → StopsAt is_line_feed rest
    → Begins ((47 ∷ 47 ∷ inner) ++ rest) (record { kind = None; bytes = 47 ∷ 47 ∷ inner }) rest
line_begins inner rest none stops =
    begins_by None (47 ∷ 47 ∷ inner) rest
    (inr (inl (record {
      inner = inner;
      spelled = refl;
      within_line = All-from_recursion (λ c. c ≢ 10) inner (all_weaker (λ c. is_line_feed c ≡ false) (λ c. c ≢ 10) (λ c e. eqb-false c 10 e) inner none);
    })))
    (λ l next tail after piece e.
    let ends : is_line_feed next ≡ true = subst (StopsAt is_line_feed) e stops in
    last_of (λ c. c ≢ 10) inner next tail (line_piece l (inner ++ next ∷ tail) piece) (eqb-true next 10 ends))

pub line_front : (inner : List ℕ) (n : ℕ) → n ≡ unwrap_or (position is_line_feed inner) (length inner) → IsFront (47 ∷ 47 ∷ inner) None (2 + n)
line_front inner n e =
    let r = run_up_to is_line_feed inner n e in
    let len = r.3 in
    front_of (47 ∷ 47 ∷ inner) (47 ∷ 47 ∷ r.0) r.1 None (2 + n) (ap (λ l. 47 ∷ 47 ∷ l) r.2.split) (omega arith)
    (line_begins r.0 r.1 r.2.fails r.2.stops)

-- no `*/` is before the end of these bytes
abbrev ClosesFirst : List ℕ → Type 0
ClosesFirst inner = (before after : List ℕ) → inner ++ 42 ∷ 47 ∷ [] ≡ before ++ 42 ∷ 47 ∷ after → after ≡ []

-- two bytes and the rest after some bytes, grouped otherwise
closed : (inner rest : List ℕ) → inner ++ 42 ∷ 47 ∷ rest ≡ (inner ++ 42 ∷ 47 ∷ []) ++ rest
closed inner rest = sym (append_assoc inner (42 ∷ 47 ∷ []) rest)

closes_first : (text inner rest : List ℕ) → text ≡ inner ++ 42 ∷ 47 ∷ rest → ((k : ℕ) → k < length inner → ClosesAt text k → ⊥) → ClosesFirst inner
closes_first text inner rest e none before [] same = refl
closes_first text inner rest e none before (a ∷ more) same =
    let lengths = ap length same in
    let left = length-append inner (42 ∷ 47 ∷ []) in
    let right = length-append before (42 ∷ 47 ∷ a ∷ more) in
    let is : text ≡ before ++ 42 ∷ 47 ∷ ((a ∷ more) ++ rest) =
    e ∙ closed inner rest ∙ ap (λ l. l ++ rest) same ∙ append_assoc before (42 ∷ 47 ∷ a ∷ more) rest in
    absurd (none (length before) (omega arith) (subst (λ t. ClosesAt t (length before)) (sym is) (closes_at before ((a ∷ more) ++ rest))))

block_begins : (inner rest : List ℕ) → ClosesFirst inner
    → Begins ((47 ∷ 42 ∷ (inner ++ 42 ∷ 47 ∷ [])) ++ rest) (record { kind = None; bytes = 47 ∷ 42 ∷ (inner ++ 42 ∷ 47 ∷ []) }) rest
block_begins inner rest first =
    begins_by None (47 ∷ 42 ∷ (inner ++ 42 ∷ 47 ∷ [])) rest
    (inr (inr (record { inner = inner; spelled = refl; first = first })))
    (λ l next tail after piece e.
    let block = block_piece l ((inner ++ 42 ∷ 47 ∷ []) ++ next ∷ tail) piece in
    let is = block.spelled in
    let same : (inner ++ 42 ∷ 47 ∷ []) ++ next ∷ tail ≡ block.inner ++ 42 ∷ 47 ∷ [] = cc in
    let ends = block.first inner (next ∷ tail) (sym same ∙ append_assoc inner (42 ∷ 47 ∷ []) (next ∷ tail)) in
    cc)

pub block_front : (text : List ℕ) (n : ℕ) → ClosesAt text n → ((k : ℕ) → k < n → ClosesAt text k → ⊥) → IsFront (47 ∷ 42 ∷ text) None (n + 4)
block_front text n closes none =
    let s = closes_split text n closes in
    let len = s.3 in
    let lengths = length-append s.0 (42 ∷ 47 ∷ []) in
    front_of (47 ∷ 42 ∷ text) (47 ∷ 42 ∷ (s.0 ++ 42 ∷ 47 ∷ [])) s.1 None (n + 4) (ap (λ l. 47 ∷ 42 ∷ l) (s.2 ∙ closed s.0 s.1)) (omega arith)
    (block_begins s.0 s.1 (closes_first text s.0 s.1 s.2 (λ k below. none k (omega arith))))

pub open_comment : (text : List ℕ) → ((k : ℕ) → ClosesAt text k → ⊥) → IsOpenComment (47 ∷ 42 ∷ text)
open_comment text none = record {
  stuck =
      stuck_by 47 (42 ∷ text)
      (λ k more after piece e. open_more k more after piece e);
  opens = (text, refl);
}
  where
    open_more : (k : Option TokenKind) (more after : List ℕ) → IsPieceOf k (47 ∷ more) → 42 ∷ text ≡ more ++ after → ⊥
    open_more k [] after piece e = ⊎_elim (λ line. let is = line.spelled in cc) (λ block. let is = block.spelled in cc) (slash_piece k 47 [] refl piece)
    open_more k (y ∷ ys) after piece e =
        let first : y ≡ 42 = cc in
        let block = block_piece k ys (subst (λ x. IsPieceOf k (47 ∷ x ∷ ys)) first piece) in
        let is = block.spelled in
        let inner : ys ≡ block.inner ++ 42 ∷ 47 ∷ [] = cc in
        let whole : text ≡ block.inner ++ 42 ∷ 47 ∷ after =
        (let tails : text ≡ ys ++ after = cc in tails ∙ ap (λ l. l ++ after) inner ∙ sym (closed block.inner after)) in
        none (length block.inner) (subst (λ t. ClosesAt t (length block.inner)) (sym whole) (closes_at block.inner after))

-- a quoted text

-- bytes that end no quoted text are as `IsQuoted` requires
within_line : (inner : List ℕ) → AllByRecursion (λ c. ends_quoted c ≡ false) inner → All (λ c. (c ≢ 34) × (c ≢ 10)) inner
within_line inner none =
    All-from_recursion (λ c. (c ≢ 34) × (c ≢ 10)) inner
    (all_weaker (λ c. ends_quoted c ≡ false) (λ c. (c ≢ 34) × (c ≢ 10))
    (λ c e. let parts = or_parts (c == 34) (is_line_feed c) e in (eqb-false c 34 parts.0, eqb-false c 10 parts.1)) inner none)

-- a quote at the end of bytes without quotes is the first
quote_first : (inner front : List ℕ) (tail : List ℕ) → AllByRecursion (λ c. (c ≢ 34) × (c ≢ 10)) inner → inner ++ 34 ∷ [] ≡ front ++ 34 ∷ tail → tail ≡ []
quote_first [] [] tail none e = cc
quote_first [] (y ∷ ys) tail none e =
    let never : [] ≡ ys ++ 34 ∷ tail = cc in
    let lengths = ap length never in
    let sum = length-append ys (34 ∷ tail) in
    absurd (omega arith)
quote_first (x ∷ xs) [] tail none e = absurd (none.0.0 cc)
quote_first (x ∷ xs) (y ∷ ys) tail none e = quote_first xs ys tail none.1 cc

quoted_piece : (k : Option TokenKind) (bs : List ℕ) → IsPieceOf k (34 ∷ bs) → (inner : List ℕ) × (bs ≡ inner ++ 34 ∷ []) × AllByRecursion (λ c. (c ≢ 34) × (c ≢ 10)) inner
quoted_piece k bs piece =
    let quoted = quote_piece k 34 bs refl piece in
    let is = quoted.spelled in
    (quoted.inner, cc, recursion_from_All _ quoted.inner quoted.within_line)

quoted_begins : (inner rest : List ℕ) → AllByRecursion (λ c. ends_quoted c ≡ false) inner
    → Begins ((34 ∷ (inner ++ 34 ∷ [])) ++ rest) (record { kind = Some Quoted; bytes = 34 ∷ (inner ++ 34 ∷ []) }) rest
quoted_begins inner rest none =
    begins_by (Some Quoted) (34 ∷ (inner ++ 34 ∷ [])) rest
    (record { inner = inner; spelled = refl; within_line = within_line inner none })
    (λ l next tail after piece e.
    let q = quoted_piece l ((inner ++ 34 ∷ []) ++ next ∷ tail) piece in
    let ends = quote_first q.0 inner (next ∷ tail) q.2 (sym q.1 ∙ append_assoc inner (34 ∷ []) (next ∷ tail)) in
    cc)

pub quoted_front : (text : List ℕ) (n : ℕ) → Some n ≡ position ends_quoted text → get_or text n 0 ≡ 34 → IsFront (34 ∷ text) (Some Quoted) (n + 2)
quoted_front text n e h =
    let c = cut_by ends_quoted text (Some n) e in
    let len = c.6 in
    let first : c.1 ≡ 34 = sym (ap (λ t. get_or t n 0) c.3 ∙ get_or_at c.0 c.1 c.2 0 n c.6) ∙ h in
    let lengths = length-append c.0 (34 ∷ []) in
    let is : text ≡ (c.0 ++ 34 ∷ []) ++ c.2 = c.3 ∙ ap (λ b. c.0 ++ b ∷ c.2) first ∙ sym (append_assoc c.0 (34 ∷ []) c.2) in
    front_of (34 ∷ text) (34 ∷ (c.0 ++ 34 ∷ [])) c.2 (Some Quoted) (n + 2) (ap (λ l. 34 ∷ l) is) (omega arith)
    (quoted_begins c.0 c.2 c.4)

-- no quote in some bytes, or only after a line feed
pub record NoQuote (text : List ℕ) : Type 0 where
  pub front : List ℕ
  pub rest : List ℕ
  pub split : text ≡ front ++ rest
  pub none : AllByRecursion (λ c. ends_quoted c ≡ false) front
  pub stops : StopsAt is_line_feed rest

pub no_quote-end : (text : List ℕ) → None ≡ position ends_quoted text → NoQuote text
no_quote-end text e = record { front = text; rest = []; split = sym (append-nil text); none = cut_by ends_quoted text None e; stops = tt }

pub no_quote-line : (text : List ℕ) (n : ℕ) → Some n ≡ position ends_quoted text → (get_or text n 0 ≡ 34 → ⊥) → NoQuote text
no_quote-line text n e h =
    let c = cut_by ends_quoted text (Some n) e in
    let at = ap (λ t. get_or t n 0) c.3 ∙ get_or_at c.0 c.1 c.2 0 n c.6 in
    record {
      front = c.0;
      rest = c.1 ∷ c.2;
      split = c.3;
      none = c.4;
      stops = ⊎_elim (λ quote. absurd (h (at ∙ eqb-true c.1 34 quote))) (λ feed. feed) (or_cases (c.1 == 34) (is_line_feed c.1) c.5);
    }

-- a quote that no quote follows before the line feed or the end
unquoted : (front rest inner after : List ℕ) → AllByRecursion (λ c. ends_quoted c ≡ false) front → StopsAt is_line_feed rest
    → AllByRecursion (λ c. (c ≢ 34) × (c ≢ 10)) inner → front ++ rest ≡ (inner ++ 34 ∷ []) ++ after → ⊥
unquoted [] [] inner after none stops all e =
    let lengths = ap length e in
    let sum = length-append (inner ++ 34 ∷ []) after in
    let sum2 = length-append inner (34 ∷ []) in
    omega arith
unquoted [] (c ∷ cs) [] after none stops all e = let is : c ≡ 34 = cc in false≢true (subst (λ x. is_line_feed x ≡ true) is stops)
unquoted [] (c ∷ cs) (x ∷ xs) after none stops all e = let is : x ≡ c = cc in all.0.1 (is ∙ eqb-true c 10 stops)
unquoted (y ∷ ys) rest [] after none stops all e = let is : y ≡ 34 = cc in true≢false (subst (λ x. ends_quoted x ≡ false) is none.0)
unquoted (y ∷ ys) rest (x ∷ xs) after none stops all e = unquoted ys rest xs after none.1 stops all.1 cc

pub open_string : (text : List ℕ) → NoQuote text → IsOpenString (34 ∷ text)
open_string text h = record {
  stuck =
      stuck_by 34 text
      (λ k more after piece e.
      let q = quoted_piece k more piece in
      unquoted h.front h.rest q.0 after h.none h.stops q.2 (sym h.split ∙ e ∙ ap (λ l. l ++ after) q.1));
  opens = (text, refl);
}

-- a mark

pub double_front : (rest : List ℕ) → IsFront (58 ∷ 58 ∷ rest) (Some Mark) 2
double_front rest =
    front_of (58 ∷ 58 ∷ rest) (58 ∷ 58 ∷ []) rest (Some Mark) 2 refl refl
    (begins_by (Some Mark) (58 ∷ 58 ∷ []) rest (inl refl)
    (λ l next tail after piece e. ⊎_elim (λ double. cc) (λ one. let is = one.2 in cc) (mark_piece l 58 (58 ∷ next ∷ tail) refl piece)))

pub mark_front : (b : ℕ) (rest : List ℕ) → class_of b ≡ class.Mark → (b ≡ 58 → (after : List ℕ) → rest ≡ 58 ∷ after → ⊥) → IsFront (b ∷ rest) (Some Mark) 1
mark_front b rest h single =
    front_of (b ∷ rest) (b ∷ []) rest (Some Mark) 1 refl refl
    (begins_by (Some Mark) (b ∷ []) rest (inr (b, is_mark-class b h, refl))
    (λ l next tail after piece e.
    ⊎_elim
    (λ double. let first : b ≡ 58 = cc in let second : next ≡ 58 = cc in single first (tail ++ after) (e ∙ ap (λ x. x ∷ (tail ++ after)) second))
    (λ one. let is = one.2 in cc)
    (mark_piece l b (next ∷ tail) h piece)))

-- any other byte

pub bad_byte : (b : ℕ) (rest : List ℕ) → class_of b ≡ class.Other → IsBadByte (b ∷ rest)
bad_byte b rest h = record {
  stuck = stuck_by b rest (λ k more after piece e. other_piece k b more h piece);
  is_byte = λ e. cc;
  no_comment = λ opens. let e = opens.1 in let first : b ≡ 47 = cc in let never : class.Other ≡ class.Slash = sym h ∙ ap class_of first in cc;
  no_string = λ opens. let e = opens.1 in let first : b ≡ 34 = cc in let never : class.Other ≡ class.Quote = sym h ∙ ap class_of first in cc;
}

-- the same of a text whose first bytes the code knows

first_is : (b : ℕ) (bs : List ℕ) (c : ℕ) (P : List ℕ → Type 0) → b ≡ c → P (c ∷ bs) → P (b ∷ bs)
first_is b bs c P e h = subst (λ x. P (x ∷ bs)) (sym e) h

second_is : (b d : ℕ) (bs : List ℕ) (c e : ℕ) (P : List ℕ → Type 0) → b ≡ c → d ≡ e → P (c ∷ e ∷ bs) → P (b ∷ d ∷ bs)
second_is b d bs c e P p q h = subst (λ x. P (x ∷ d ∷ bs)) (sym p) (subst (λ x. P (c ∷ x ∷ bs)) (sym q) h)

pub blank_at : (text : List ℕ) → class_of (get_or text 0 0) ≡ class.Blank → IsFront text None 1
blank_at [] h = absurd (let never : class.Other ≡ class.Blank = h in cc)
blank_at (b ∷ bs) h = blank_front b bs h

pub bad_byte_at : (text : List ℕ) → 0 < length text → class_of (get_or text 0 0) ≡ class.Other → IsBadByte text
bad_byte_at [] l h = absurd (omega arith)
bad_byte_at (b ∷ bs) l h = bad_byte b bs h

pub line_at : (text inner : List ℕ) (n : ℕ) → inner ≡ drop 2 text → class_of (get_or text 0 0) ≡ class.Slash → get_or text 1 0 ≡ 47 → n ≡ unwrap_or (position is_line_feed inner) (length inner) → IsFront text None (2 + n)
line_at [] inner n i h k e = absurd (let never : class.Other ≡ class.Slash = h in cc)
line_at (x ∷ []) inner n i h k e = absurd (omega arith)
line_at (x ∷ y ∷ ys) inner n i h k e =
    second_is x y ys 47 47 (λ t. IsFront t None (2 + n)) (slash-class x h) k
    (line_front ys n (subst (λ l. n ≡ unwrap_or (position is_line_feed l) (length l)) i e))

pub block_at : (text inner : List ℕ) (n : ℕ) → inner ≡ drop 2 text → class_of (get_or text 0 0) ≡ class.Slash → get_or text 1 0 ≡ 42 → ClosesAt inner n → ((k : ℕ) → k < n → ClosesAt inner k → ⊥) → IsFront text None (n + 4)
block_at [] inner n i h k e f = absurd (let never : class.Other ≡ class.Slash = h in cc)
block_at (x ∷ []) inner n i h k e f = absurd (omega arith)
block_at (x ∷ y ∷ ys) inner n i h k e f =
    second_is x y ys 47 42 (λ t. IsFront t None (n + 4)) (slash-class x h) k
    (block_front ys n (subst (λ l. ClosesAt l n) i e) (λ j below closes. f j below (subst (λ l. ClosesAt l j) (sym i) closes)))

pub open_comment_at : (text inner : List ℕ) → inner ≡ drop 2 text → class_of (get_or text 0 0) ≡ class.Slash → get_or text 1 0 ≡ 42 → ((k : ℕ) → ClosesAt inner k → ⊥) → IsOpenComment text
open_comment_at [] inner i h k e = absurd (let never : class.Other ≡ class.Slash = h in cc)
open_comment_at (x ∷ []) inner i h k e = absurd (omega arith)
open_comment_at (x ∷ y ∷ ys) inner i h k e =
    second_is x y ys 47 42 IsOpenComment (slash-class x h) k (open_comment ys (λ j closes. e j (subst (λ l. ClosesAt l j) (sym i) closes)))

pub quoted_at : (text inner : List ℕ) (n : ℕ) → inner ≡ drop 1 text → class_of (get_or text 0 0) ≡ class.Quote → Some n ≡ position ends_quoted inner → get_or inner n 0 ≡ 34 → IsFront text (Some Quoted) (n + 2)
quoted_at [] inner n i h e k = absurd (let never : class.Other ≡ class.Quote = h in cc)
quoted_at (x ∷ xs) inner n i h e k =
    first_is x xs 34 (λ t. IsFront t (Some Quoted) (n + 2)) (quote-class x h)
    (quoted_front xs n (subst (λ l. Some n ≡ position ends_quoted l) i e) (subst (λ l. get_or l n 0 ≡ 34) i k))

pub open_string_at : (text inner : List ℕ) → inner ≡ drop 1 text → class_of (get_or text 0 0) ≡ class.Quote → NoQuote inner → IsOpenString text
open_string_at [] inner i h k = absurd (let never : class.Other ≡ class.Quote = h in cc)
open_string_at (x ∷ xs) inner i h k = first_is x xs 34 IsOpenString (quote-class x h) (open_string xs (subst NoQuote i k))

pub double_at : (text rest : List ℕ) → text ≡ 58 ∷ 58 ∷ rest → IsFront text (Some Mark) 2
double_at text rest e = subst (λ t. IsFront t (Some Mark) 2) (sym e) (double_front rest)

pub mark_at : (text : List ℕ) → class_of (get_or text 0 0) ≡ class.Mark → ((rest : List ℕ) → text ≡ 58 ∷ 58 ∷ rest → ⊥) → IsFront text (Some Mark) 1
mark_at [] h k = absurd (let never : class.Other ≡ class.Mark = h in cc)
mark_at (x ∷ xs) h k = mark_front x xs h (λ e after is. k after cc)

-- a token that is too long
pub too_long : (text : List ℕ) (k : Option TokenKind) (n : ℕ) → IsFront text k n → is_some k ≡ true → 256 < n → IsTooLong text
too_long text None n front e long = absurd (false≢true e)
too_long text (Some kind) n front e long =
    let len = length-take-le n text front.fits in
    record { kind = kind; bytes = take n text; after = drop n text; begins = front.begins; long = omega arith }
