-- What the first byte of a piece means for it.
use Rattle.std.proofs.Common.{◌≡◌, ℕ, Bool, true, false, ◌&&◌, ◌==◌, ◌⊎◌, List, [], ◌∷◌, ◌++◌, Option, Some, None, Contains, cond, not, refl, subst, sym, ap, ◌∙◌, ⊎_elim}
use Rattle.std.specs.Prelude.{codes, IsTrue}
use Rattle.std.specs.List.{list_any, list_all, AllByRecursion}
use Rattle.std.proofs.lemmas.Bool.{false≢true, true≢false, eqb-true, or_cases, and_parts, cases_Bool, both_ways, not-true, and_from}
use Rattle.std.proofs.lemmas.List.Elements.{All-contains, All-from_recursion, recursion_from_All}
use Rattle.std.proofs.lemmas.List.Sums.{AllPass-from_list_all, list_all-from_AllPass}
use Rattle.ipdl_base.specs.Words.{is_word_start, is_word_byte, is_word, IsWord}
use Rattle.ipdl_base.specs.declared.token.TokenKind.{TokenKind}
use Rattle.ipdl_base.specs.declared.token.TokenKind.TheVariants.{Word, Reserved, Quoted, Mark}
use Rattle.ipdl_lex.specs.declared.scan.PieceClass.{PieceClass}
use Rattle.ipdl_lex.specs.declared.scan.PieceClass.TheVariants as class
use Rattle.ipdl_lex.specs.Pieces.{is_blank, is_mark, reserved_words, IsQuoted, IsMark, IsLineComment, IsBlockComment, IsPieceOf}
use Rattle.ipdl_lex.specs.Scan.{class_of}

-- a property of each byte of a list holds of a byte that the test finds among them
each_in : (P : ℕ → Type 0) (cs : List ℕ) → AllByRecursion P cs → (b : ℕ) → list_any (λ c. c == b) cs ≡ true → P b
each_in P [] all b h = absurd (false≢true h)
each_in P (c ∷ cs) all b h =
    ⊎_elim (λ e. subst P (eqb-true c b e) all.0) (λ e. each_in P cs all.1 b e) (or_cases (c == b) (list_any (λ d. d == b) cs) h)

-- the class by the five tests
abbrev class_from : Bool → Bool → Bool → Bool → Bool → PieceClass
class_from blank slash quote mark letter =
    cond blank class.Blank (cond slash class.Slash (cond quote class.Quote (cond mark class.Mark (cond letter class.Letter class.Other))))

abbrev marks : List ℕ
marks = codes "{}()[]<>;,:=?"

-- each class by its test

class_of-blank : (b : ℕ) → is_blank b ≡ true → class_of b ≡ class.Blank
class_of-blank b h = each_in (λ c. class_of c ≡ class.Blank) (codes " \t\r\n") (refl, (refl, (refl, (refl, tt)))) b h

class_of-mark : (b : ℕ) → is_mark b ≡ true → class_of b ≡ class.Mark
class_of-mark b h =
    each_in (λ c. class_of c ≡ class.Mark) marks
    (refl, (refl, (refl, (refl, (refl, (refl, (refl, (refl, (refl, (refl, (refl, (refl, (refl, tt))))))))))))) b h

letter_from : (a s q m l : Bool) → a ≡ false → s ≡ false → q ≡ false → m ≡ false → l ≡ true → class_from a s q m l ≡ class.Letter
letter_from a s q m l ha hs hq hm hl = cc

letter_not_blank : (b : ℕ) → is_word_start b ≡ true → is_blank b ≡ false
letter_not_blank b h =
    ⊎_elim
    (λ e. absurd (true≢false (sym h ∙ each_in (λ c. is_word_start c ≡ false) (codes " \t\r\n") (refl, (refl, (refl, (refl, tt)))) b e)))
    (λ e. e) (cases_Bool (is_blank b))

letter_not_mark : (b : ℕ) → is_word_start b ≡ true → is_mark b ≡ false
letter_not_mark b h =
    ⊎_elim
    (λ e. absurd (true≢false (sym h ∙ each_in (λ c. is_word_start c ≡ false) marks
    (refl, (refl, (refl, (refl, (refl, (refl, (refl, (refl, (refl, (refl, (refl, (refl, (refl, tt))))))))))))) b e)))
    (λ e. e) (cases_Bool (is_mark b))

letter_is_not : (b c : ℕ) → is_word_start b ≡ true → is_word_start c ≡ false → (b == c) ≡ false
letter_is_not b c h k =
    ⊎_elim (λ e. absurd (true≢false (sym h ∙ ap is_word_start (eqb-true b c e) ∙ k))) (λ e. e) (cases_Bool (b == c))

pub class_of-letter : (b : ℕ) → is_word_start b ≡ true → class_of b ≡ class.Letter
class_of-letter b h =
    letter_from (is_blank b) (b == 47) (b == 34) (is_mark b) (is_word_start b)
    (letter_not_blank b h) (letter_is_not b 47 h refl) (letter_is_not b 34 h refl) (letter_not_mark b h) h

-- each test by its class

from_blank : (a s q m l : Bool) → class_from a s q m l ≡ class.Blank → a ≡ true
from_blank true s q m l h = refl
from_blank false true q m l h = cc
from_blank false false true m l h = cc
from_blank false false false true l h = cc
from_blank false false false false true h = cc
from_blank false false false false false h = cc

from_slash : (a s q m l : Bool) → class_from a s q m l ≡ class.Slash → s ≡ true
from_slash true s q m l h = cc
from_slash false true q m l h = refl
from_slash false false true m l h = cc
from_slash false false false true l h = cc
from_slash false false false false true h = cc
from_slash false false false false false h = cc

from_quote : (a s q m l : Bool) → class_from a s q m l ≡ class.Quote → q ≡ true
from_quote true s q m l h = cc
from_quote false true q m l h = cc
from_quote false false true m l h = refl
from_quote false false false true l h = cc
from_quote false false false false true h = cc
from_quote false false false false false h = cc

from_mark : (a s q m l : Bool) → class_from a s q m l ≡ class.Mark → m ≡ true
from_mark true s q m l h = cc
from_mark false true q m l h = cc
from_mark false false true m l h = cc
from_mark false false false true l h = refl
from_mark false false false false true h = cc
from_mark false false false false false h = cc

from_letter : (a s q m l : Bool) → class_from a s q m l ≡ class.Letter → l ≡ true
from_letter true s q m l h = cc
from_letter false true q m l h = cc
from_letter false false true m l h = cc
from_letter false false false true l h = cc
from_letter false false false false true h = refl
from_letter false false false false false h = cc

pub is_blank-class : (b : ℕ) → class_of b ≡ class.Blank → is_blank b ≡ true
is_blank-class b h = from_blank (is_blank b) (b == 47) (b == 34) (is_mark b) (is_word_start b) h

pub slash-class : (b : ℕ) → class_of b ≡ class.Slash → b ≡ 47
slash-class b h = eqb-true b 47 (from_slash (is_blank b) (b == 47) (b == 34) (is_mark b) (is_word_start b) h)

pub quote-class : (b : ℕ) → class_of b ≡ class.Quote → b ≡ 34
quote-class b h = eqb-true b 34 (from_quote (is_blank b) (b == 47) (b == 34) (is_mark b) (is_word_start b) h)

pub is_mark-class : (b : ℕ) → class_of b ≡ class.Mark → is_mark b ≡ true
is_mark-class b h = from_mark (is_blank b) (b == 47) (b == 34) (is_mark b) (is_word_start b) h

pub word_start-class : (b : ℕ) → class_of b ≡ class.Letter → is_word_start b ≡ true
word_start-class b h = from_letter (is_blank b) (b == 47) (b == 34) (is_mark b) (is_word_start b) h

-- a word begins with a letter, and continues with letters and digits

pub word_first : (b : ℕ) (bytes : List ℕ) → IsWord (b ∷ bytes) → is_word_start b ≡ true
word_first b bytes h = (and_parts (is_word_start b) (list_all is_word_byte bytes) h).0

pub word_rest : (b : ℕ) (bytes : List ℕ) → IsWord (b ∷ bytes) → AllByRecursion (λ c. IsTrue (is_word_byte c)) bytes
word_rest b bytes h =
    recursion_from_All (λ c. IsTrue (is_word_byte c)) bytes (AllPass-from_list_all is_word_byte bytes (and_parts (is_word_start b) (list_all is_word_byte bytes) h).1)

pub word_of : (b : ℕ) (bytes : List ℕ) → is_word_start b ≡ true → AllByRecursion (λ c. IsTrue (is_word_byte c)) bytes → IsWord (b ∷ bytes)
word_of b bytes start rest =
    and_from (is_word_start b) (list_all is_word_byte bytes) start (list_all-from_AllPass is_word_byte bytes (All-from_recursion (λ c. IsTrue (is_word_byte c)) bytes rest))

-- a reserved word is a word
pub IsWord-from_reserved : (bytes : List ℕ) → Contains reserved_words bytes → IsWord bytes
IsWord-from_reserved bytes h = All-contains IsWord reserved_words bytes (AllPass-from_list_all is_word reserved_words refl) h

-- the class of the first byte of a piece of each kind

abbrev allows : Option TokenKind → PieceClass → Bool
allows None class.Blank = true
allows None class.Slash = true
allows None class.Quote = false
allows None class.Mark = false
allows None class.Letter = false
allows None class.Other = false
allows (Some Word) class.Letter = true
allows (Some Reserved) class.Letter = true
allows (Some Quoted) class.Quote = true
allows (Some Mark) class.Mark = true
allows (Some kind) c = false

allows_at : (k : Option TokenKind) (b c : ℕ) (bs cs : List ℕ) → b ∷ bs ≡ c ∷ cs → allows k (class_of c) ≡ true → allows k (class_of b) ≡ true
allows_at k b c bs cs e h = let same : b ≡ c = cc in ap (λ x. allows k (class_of x)) same ∙ h

spacing_allows : (b : ℕ) (bs : List ℕ) → IsPieceOf None (b ∷ bs) → allows None (class_of b) ≡ true
spacing_allows b bs h =
    ⊎_elim
    (λ blank. allows_at None b blank.0 bs [] blank.2 (ap (allows None) (class_of-blank blank.0 blank.1)))
    (λ comment. ⊎_elim
    (λ line. allows_at None b 47 bs (47 ∷ line.inner) line.spelled refl)
    (λ block. allows_at None b 47 bs (42 ∷ block.inner ++ 42 ∷ 47 ∷ []) block.spelled refl)
    comment)
    h

mark_allows : (b : ℕ) (bs : List ℕ) → IsPieceOf (Some Mark) (b ∷ bs) → allows (Some Mark) (class_of b) ≡ true
mark_allows b bs h =
    ⊎_elim
    (λ double. allows_at (Some Mark) b 58 bs (58 ∷ []) double refl)
    (λ one. allows_at (Some Mark) b one.0 bs [] one.2 (ap (allows (Some Mark)) (class_of-mark one.0 one.1)))
    h

kind_allows : (k : Option TokenKind) (b : ℕ) (bs : List ℕ) → IsPieceOf k (b ∷ bs) → allows k (class_of b) ≡ true
kind_allows None b bs h = spacing_allows b bs h
kind_allows (Some Word) b bs h = ap (allows (Some Word)) (class_of-letter b (word_first b bs h.0))
kind_allows (Some Reserved) b bs h = ap (allows (Some Reserved)) (class_of-letter b (word_first b bs (IsWord-from_reserved (b ∷ bs) h)))
kind_allows (Some Quoted) b bs h = allows_at (Some Quoted) b 34 bs (h.inner ++ 34 ∷ []) h.spelled refl
kind_allows (Some Mark) b bs h = mark_allows b bs h

-- there is no piece of a kind that the class of its first byte does not allow
disallowed : (k : Option TokenKind) (b : ℕ) (bs : List ℕ) (c : PieceClass) → class_of b ≡ c → allows k c ≡ false → IsPieceOf k (b ∷ bs) → ⊥
disallowed k b bs c e refused h = false≢true (sym refused ∙ ap (allows k) (sym e) ∙ kind_allows k b bs h)

-- what a piece is by the class of its first byte

pub blank_piece : (k : Option TokenKind) (b : ℕ) (bs : List ℕ) → class_of b ≡ class.Blank → IsPieceOf k (b ∷ bs) → bs ≡ []
blank_piece None b bs e h =
    ⊎_elim
    (λ blank. let tail : bs ≡ [] = let is = blank.2 in cc in tail)
    (λ comment. ⊎_elim
    (λ line. let is = line.spelled in let first : b ≡ 47 = cc in let other : class_of b ≡ class.Slash = ap class_of first in cc)
    (λ block. let is = block.spelled in let first : b ≡ 47 = cc in let other : class_of b ≡ class.Slash = ap class_of first in cc)
    comment)
    h
blank_piece (Some Word) b bs e h = absurd (disallowed (Some Word) b bs class.Blank e refl h)
blank_piece (Some Reserved) b bs e h = absurd (disallowed (Some Reserved) b bs class.Blank e refl h)
blank_piece (Some Quoted) b bs e h = absurd (disallowed (Some Quoted) b bs class.Blank e refl h)
blank_piece (Some Mark) b bs e h = absurd (disallowed (Some Mark) b bs class.Blank e refl h)

pub slash_piece : (k : Option TokenKind) (b : ℕ) (bs : List ℕ) → class_of b ≡ class.Slash → IsPieceOf k (b ∷ bs) → IsLineComment (b ∷ bs) ⊎ IsBlockComment (b ∷ bs)
slash_piece None b bs e h =
    ⊎_elim
    (λ blank. let is = blank.2 in let first : b ≡ blank.0 = cc in let other : class_of b ≡ class.Blank = ap class_of first ∙ class_of-blank blank.0 blank.1 in cc)
    (λ comment. comment)
    h
slash_piece (Some Word) b bs e h = absurd (disallowed (Some Word) b bs class.Slash e refl h)
slash_piece (Some Reserved) b bs e h = absurd (disallowed (Some Reserved) b bs class.Slash e refl h)
slash_piece (Some Quoted) b bs e h = absurd (disallowed (Some Quoted) b bs class.Slash e refl h)
slash_piece (Some Mark) b bs e h = absurd (disallowed (Some Mark) b bs class.Slash e refl h)

pub letter_piece : (k : Option TokenKind) (b : ℕ) (bs : List ℕ) → class_of b ≡ class.Letter → IsPieceOf k (b ∷ bs) → IsWord (b ∷ bs)
letter_piece None b bs e h = absurd (disallowed None b bs class.Letter e refl h)
letter_piece (Some Word) b bs e h = h.0
letter_piece (Some Reserved) b bs e h = IsWord-from_reserved (b ∷ bs) h
letter_piece (Some Quoted) b bs e h = absurd (disallowed (Some Quoted) b bs class.Letter e refl h)
letter_piece (Some Mark) b bs e h = absurd (disallowed (Some Mark) b bs class.Letter e refl h)

pub quote_piece : (k : Option TokenKind) (b : ℕ) (bs : List ℕ) → class_of b ≡ class.Quote → IsPieceOf k (b ∷ bs) → IsQuoted (b ∷ bs)
quote_piece None b bs e h = absurd (disallowed None b bs class.Quote e refl h)
quote_piece (Some Word) b bs e h = absurd (disallowed (Some Word) b bs class.Quote e refl h)
quote_piece (Some Reserved) b bs e h = absurd (disallowed (Some Reserved) b bs class.Quote e refl h)
quote_piece (Some Quoted) b bs e h = h
quote_piece (Some Mark) b bs e h = absurd (disallowed (Some Mark) b bs class.Quote e refl h)

pub mark_piece : (k : Option TokenKind) (b : ℕ) (bs : List ℕ) → class_of b ≡ class.Mark → IsPieceOf k (b ∷ bs) → IsMark (b ∷ bs)
mark_piece None b bs e h = absurd (disallowed None b bs class.Mark e refl h)
mark_piece (Some Word) b bs e h = absurd (disallowed (Some Word) b bs class.Mark e refl h)
mark_piece (Some Reserved) b bs e h = absurd (disallowed (Some Reserved) b bs class.Mark e refl h)
mark_piece (Some Quoted) b bs e h = absurd (disallowed (Some Quoted) b bs class.Mark e refl h)
mark_piece (Some Mark) b bs e h = h

pub other_piece : (k : Option TokenKind) (b : ℕ) (bs : List ℕ) → class_of b ≡ class.Other → IsPieceOf k (b ∷ bs) → ⊥
other_piece None b bs e h = disallowed None b bs class.Other e refl h
other_piece (Some Word) b bs e h = disallowed (Some Word) b bs class.Other e refl h
other_piece (Some Reserved) b bs e h = disallowed (Some Reserved) b bs class.Other e refl h
other_piece (Some Quoted) b bs e h = disallowed (Some Quoted) b bs class.Other e refl h
other_piece (Some Mark) b bs e h = disallowed (Some Mark) b bs class.Other e refl h

-- no piece is empty
pub piece_nonempty : (k : Option TokenKind) → IsPieceOf k [] → ⊥
piece_nonempty None h =
    ⊎_elim (λ blank. let is = blank.2 in cc) (λ comment. ⊎_elim (λ line. let is = line.spelled in cc) (λ block. let is = block.spelled in cc) comment) h
piece_nonempty (Some Word) h = false≢true h.0
piece_nonempty (Some Reserved) h = false≢true (IsWord-from_reserved [] h)
piece_nonempty (Some Quoted) h = let is = h.spelled in cc
piece_nonempty (Some Mark) h = ⊎_elim (λ double. cc) (λ one. let is = one.2 in cc) h

-- no class allows both kinds
abbrev neither : Option TokenKind → Option TokenKind → PieceClass → Bool
neither k l c = not (allows k c && allows l c)

abbrev are_apart : Option TokenKind → Option TokenKind → Bool
are_apart k l =
    neither k l class.Blank && (neither k l class.Slash && (neither k l class.Quote
    && (neither k l class.Mark && (neither k l class.Letter && neither k l class.Other))))

not_both : (x y : Bool) → not (x && y) ≡ true → x ≡ true → y ≡ true → ⊥
not_both x y n h i = both_ways (x && y) (not-true (x && y) n) (and_from x y h i)

neither_at : (k l : Option TokenKind) → are_apart k l ≡ true → (c : PieceClass) → neither k l c ≡ true
neither_at k l a =
    let p = and_parts _ _ a in
    let q = and_parts _ _ p.1 in
    let r = and_parts _ _ q.1 in
    let s = and_parts _ _ r.1 in
    let t = and_parts _ _ s.1 in
    elim [ class.Blank ↦ p.0 | class.Slash ↦ q.0 | class.Quote ↦ r.0 | class.Mark ↦ s.0 | class.Letter ↦ t.0 | class.Other ↦ t.1 ]

unlike : (k l : Option TokenKind) → are_apart k l ≡ true → (b : ℕ) (bs : List ℕ) → IsPieceOf k (b ∷ bs) → IsPieceOf l (b ∷ bs) → ⊥
unlike k l a b bs h i = not_both (allows k (class_of b)) (allows l (class_of b)) (neither_at k l a (class_of b)) (kind_allows k b bs h) (kind_allows l b bs i)

-- a piece is of one kind
pub kind_unique : (k l : Option TokenKind) (b : ℕ) (bs : List ℕ) → IsPieceOf k (b ∷ bs) → IsPieceOf l (b ∷ bs) → k ≡ l
kind_unique None None b bs h i = refl
kind_unique (Some Word) (Some Word) b bs h i = refl
kind_unique (Some Reserved) (Some Reserved) b bs h i = refl
kind_unique (Some Quoted) (Some Quoted) b bs h i = refl
kind_unique (Some Mark) (Some Mark) b bs h i = refl
kind_unique (Some Word) (Some Reserved) b bs h i = absurd (h.1 i)
kind_unique (Some Reserved) (Some Word) b bs h i = absurd (i.1 h)
kind_unique None (Some Word) b bs h i = absurd (unlike None (Some Word) refl b bs h i)
kind_unique None (Some Reserved) b bs h i = absurd (unlike None (Some Reserved) refl b bs h i)
kind_unique None (Some Quoted) b bs h i = absurd (unlike None (Some Quoted) refl b bs h i)
kind_unique None (Some Mark) b bs h i = absurd (unlike None (Some Mark) refl b bs h i)
kind_unique (Some Word) None b bs h i = absurd (unlike (Some Word) None refl b bs h i)
kind_unique (Some Word) (Some Quoted) b bs h i = absurd (unlike (Some Word) (Some Quoted) refl b bs h i)
kind_unique (Some Word) (Some Mark) b bs h i = absurd (unlike (Some Word) (Some Mark) refl b bs h i)
kind_unique (Some Reserved) None b bs h i = absurd (unlike (Some Reserved) None refl b bs h i)
kind_unique (Some Reserved) (Some Quoted) b bs h i = absurd (unlike (Some Reserved) (Some Quoted) refl b bs h i)
kind_unique (Some Reserved) (Some Mark) b bs h i = absurd (unlike (Some Reserved) (Some Mark) refl b bs h i)
kind_unique (Some Quoted) None b bs h i = absurd (unlike (Some Quoted) None refl b bs h i)
kind_unique (Some Quoted) (Some Word) b bs h i = absurd (unlike (Some Quoted) (Some Word) refl b bs h i)
kind_unique (Some Quoted) (Some Reserved) b bs h i = absurd (unlike (Some Quoted) (Some Reserved) refl b bs h i)
kind_unique (Some Quoted) (Some Mark) b bs h i = absurd (unlike (Some Quoted) (Some Mark) refl b bs h i)
kind_unique (Some Mark) None b bs h i = absurd (unlike (Some Mark) None refl b bs h i)
kind_unique (Some Mark) (Some Word) b bs h i = absurd (unlike (Some Mark) (Some Word) refl b bs h i)
kind_unique (Some Mark) (Some Reserved) b bs h i = absurd (unlike (Some Mark) (Some Reserved) refl b bs h i)
kind_unique (Some Mark) (Some Quoted) b bs h i = absurd (unlike (Some Mark) (Some Quoted) refl b bs h i)
