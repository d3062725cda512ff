-- The statement of tokens, as a function, and that it finds a statement exactly if there is one.
use Rattle.std.proofs.Common.{◌≡◌, ℕ, false, if◌then◌else◌, List, [], ◌∷◌, Option, Some, None, option_map, option_and_then, inl, inr, refl, sym, ap, ◌∙◌, subst}
use Rattle.std.specs.Prelude.{codes}
use Rattle.std.specs.Str.{bytes_eq}
use Rattle.std.proofs.lemmas.Bool.{cases_Bool, true≢false}
use Rattle.std.proofs.lemmas.Slice.Eq.{bytes_eq-Decides}
use Rattle.ipdl_base.specs.declared.kinds.Side.{Side}
use Rattle.script_reader.specs.declared.parts.Bracket.TheVariants as bracket
use Rattle.script_reader.specs.declared.parts.Keyword.{Keyword}
use Rattle.script_reader.specs.declared.parts.Keyword.TheVariants as keyword
use Rattle.script_reader.specs.declared.statement.MessageName.{MessageName}
use Rattle.script_reader.specs.declared.statement.Statement.{Statement}
use Rattle.script_reader.specs.declared.statement.Statement.TheVariants as forms
use Rattle.script_reader.specs.declared.statement.WrittenMessage.{WrittenMessage}
use Rattle.script_reader.specs.declared.token.ScriptToken.{ScriptToken}
use Rattle.script_reader.specs.declared.token.ScriptToken.TheVariants as token
use Rattle.script_reader.specs.declared.written.Who.{Who}
use Rattle.script_reader.specs.declared.written.WrittenValues.{WrittenValues}
use Rattle.script_reader.specs.Grammar.{name_of, name, who_of, who, keyword_of, message, listed, arguments, call, keyword_for, following_keyword, statement}
use Rattle.script_reader.specs.Parts.{Part, ◌⨾◌, word, single}
use Rattle.script_reader.specs.Reading.{IsAfter}
use Rattle.script_reader.proofs.StatementForms.{same_word, same_name, same_who, same_message, same_arguments, same_call, not_after, not_whole, only_send, only_new, only_let, only_resolve, only_reject, only_keep, only_return, only_on, mark_no_name}
use Rattle.script_reader.proofs.ValueForms.{one_single, tail_of}
use Rattle.script_existence.proofs.Found.{Finds, AtFront, finds_as, finds_then, finds_also}
use Rattle.script_existence.proofs.ValueReader.{read_single, single_finds, read_mark, marked, mark_finds, read_listed, listed_finds}

-- Parts one after another

-- such a part ends at one place
abbrev EndsOnce : {X : Type 0} → (X → Part) → Type 0
EndsOnce {X} P = (x y : X) (from to end : List ScriptToken) → P x from to → P y from end → to ≡ end

abbrev Both : {X Z : Type 0} → (X → Part) → (Z → Part) → X × Z → Part
Both P Q both = P both.0 ⨾ Q both.1

abbrev second : {X Z : Type 0} → (List ScriptToken → Option (Z × List ScriptToken)) → X × List ScriptToken → Option ((X × Z) × List ScriptToken)
second next found = option_map (λ more. ((found.0, more.0), more.1)) (next found.1)

-- one part, and after it another
abbrev read_both : {X Z : Type 0} → Option (X × List ScriptToken) → (List ScriptToken → Option (Z × List ScriptToken)) → Option ((X × Z) × List ScriptToken)
read_both first next = option_and_then (second next) first

both_find : {X Z : Type 0} (P : X → Part) (Q : Z → Part) → EndsOnce P → (from : List ScriptToken) (first : Option (X × List ScriptToken)) → Finds (AtFront P from) first
    → (next : List ScriptToken → Option (Z × List ScriptToken)) → ((middle : List ScriptToken) → Finds (AtFront Q middle) (next middle)) → Finds (AtFront (Both P Q) from) (read_both first next)
both_find P Q once from first h next each =
    finds_then (AtFront P from) (AtFront (Both P Q) from) (second next)
    (λ found is.
    finds_as (AtFront Q found.1) (AtFront (Both P Q) from) (λ more. ((found.0, more.0), more.1)) (λ more k. (found.1, is, k))
    (λ none both. not_after P once found.0 from found.1 is (Q both.0.1) both.1 (none (both.0.1, both.1)) both.0.0)
    (next found.1)
    (each found.1))
    (λ none both k. none (both.0.0, k.0) k.1)
    first
    h

both_once : {X Z : Type 0} (P : X → Part) (Q : Z → Part) → EndsOnce P → EndsOnce Q → EndsOnce (Both P Q)
both_once P Q one other x y from to end h k =
    let S : List ScriptToken → Type 0 = λ l. Q x.1 l to in
    other x.1 y.1 k.0 to end (subst S (one x.0 y.0 from h.0 k.0 h.1 k.1) h.2) k.2

abbrev whole_by : {X : Type 0} → X → List ScriptToken → Option X
whole_by x [] = Some x
whole_by x (t ∷ rest) = None

-- a part after which no token is left
abbrev whole : {X : Type 0} → Option (X × List ScriptToken) → Option X
whole o = option_and_then (λ found. whole_by found.0 found.1) o

whole_finds : {X : Type 0} (P : X → Part) → EndsOnce P → (from : List ScriptToken) (o : Option (X × List ScriptToken)) → Finds (AtFront P from) o → Finds (λ x. P x from []) (whole o)
whole_finds P once from None h = λ x k. h (x, []) k
whole_finds P once from (Some (x, [])) h = h
whole_finds P once from (Some (x, t ∷ rest)) h = not_whole P once x from (t ∷ rest) h (λ e. let no : ⊥ = cc in no)

-- Parts

abbrev read_word : List ScriptToken → Option (List ℕ × List ScriptToken)
read_word (token.Word w ∷ to) = Some (w, to)
read_word _ = None

word_finds : (from : List ScriptToken) → Finds (AtFront word from) (read_word from)
word_finds (token.Word w ∷ to) = refl
word_finds from = λ found h. let no : ⊥ = cc in no

word_once : EndsOnce word
word_once v w from to end h k = (same_word v w from to end h k).1

mark_once : (b : ℕ) → EndsOnce (marked b)
mark_once b x y from to end h k = tail_of (token.Mark b) (token.Mark b) from to end h k

-- a message, as `P.M`
abbrev read_message : List ScriptToken → Option (MessageName × List ScriptToken)
read_message from = option_map (λ found. (record { protocol = found.0.0; message = found.0.1.1 }, found.1)) (read_both (read_word from) (λ dot. read_both (read_mark 46 dot) read_word))

message_finds : (from : List ScriptToken) → Finds (AtFront message from) (read_message from)
message_finds from =
    finds_as (AtFront (Both word (Both (marked 46) word)) from) (AtFront message from) (λ found. (record { protocol = found.0.0; message = found.0.1.1 }, found.1)) (λ found h. h)
    (λ none m h. none ((m.0.protocol, (tt, m.0.message)), m.1) h)
    (read_both (read_word from) (λ dot. read_both (read_mark 46 dot) read_word))
    (both_find word (Both (marked 46) word) word_once from (read_word from) (word_finds from) (λ dot. read_both (read_mark 46 dot) read_word)
    (λ dot. both_find (marked 46) word (mark_once 46) dot (read_mark 46 dot) (mark_finds 46 dot) read_word word_finds))

-- values in round brackets
abbrev read_arguments : List ScriptToken → Option (WrittenValues × List ScriptToken)
read_arguments from = option_map (λ found. (found.0.1, found.1)) (read_both (read_mark 40 from) (read_listed bracket.Round))

arguments_find : (from : List ScriptToken) → Finds (AtFront arguments from) (read_arguments from)
arguments_find from =
    finds_as (AtFront (Both (marked 40) (listed bracket.Round)) from) (AtFront arguments from) (λ found. (found.0.1, found.1)) (λ found h. h) (λ none vs h. none ((tt, vs.0), vs.1) h)
    (read_both (read_mark 40 from) (read_listed bracket.Round))
    (both_find (marked 40) (listed bracket.Round) (mark_once 40) from (read_mark 40 from) (mark_finds 40 from) (read_listed bracket.Round) (listed_finds bracket.Round))

-- a message with values
abbrev read_call : List ScriptToken → Option (WrittenMessage × List ScriptToken)
read_call from = option_map (λ found. (record { message = found.0.0; values = found.0.1 }, found.1)) (read_both (read_message from) read_arguments)

call_finds : (from : List ScriptToken) → Finds (AtFront call from) (read_call from)
call_finds from =
    finds_as (AtFront (Both message arguments) from) (AtFront call from) (λ found. (record { message = found.0.0; values = found.0.1 }, found.1)) (λ found h. h)
    (λ none c h. none ((c.0.message, c.0.values), c.1) h)
    (read_both (read_message from) read_arguments)
    (both_find message arguments same_message from (read_message from) (message_finds from) read_arguments arguments_find)

-- an actor that is named, and a message with values
abbrev read_sent : List ScriptToken → Option ((Who × WrittenMessage) × List ScriptToken)
read_sent from = read_both (read_single who_of from) read_call

sent_finds : (from : List ScriptToken) → Finds (AtFront (Both who call) from) (read_sent from)
sent_finds from = both_find who call same_who from (read_single who_of from) (single_finds who_of from) read_call call_finds

-- Statements by their keywords

-- the statement of one word
abbrev ended : Statement → List ScriptToken → Option Statement
ended s [] = Some s
ended s (t ∷ rest) = None

-- after `reject`: nothing, or a name and a message
abbrev read_rejected : List ScriptToken → Option Statement
read_rejected [] = Some forms.Reject
read_rejected from = option_map (λ found. forms.RejectKept found.0 found.1) (whole (read_both (read_single name_of from) read_message))

-- after `resolve`, if a bracket is first, or is not
abbrev resolved_by : List ScriptToken → Option (Unit {0} × List ScriptToken) → Option Statement
resolved_by from (Some bracket_mark) = option_map forms.Resolve (whole (read_arguments from))
resolved_by from None = option_map (λ found. forms.ResolveKept found.0 found.1) (whole (read_both (read_single name_of from) read_call))

-- after a side: `main`, or `on` and a message
abbrev opened_by : Side → List ℕ × List ScriptToken → Option Statement
opened_by side found =
    if bytes_eq found.0 (codes "main") then ended (forms.Main side) found.1 else
    (if bytes_eq found.0 (codes "on") then option_map (forms.On side) (whole (read_message found.1)) else None)

-- the statement after a keyword
abbrev read_after : Keyword → List ScriptToken → Option Statement
read_after (keyword.Side side) from = option_and_then (opened_by side) (read_word from)
read_after keyword.End from = ended forms.End from
read_after keyword.Send from = option_map (λ found. forms.Send found.0 found.1) (whole (read_sent from))
read_after keyword.New from = option_map (λ found. forms.New found.0 found.1.0 found.1.1) (whole (read_both (read_single name_of from) read_sent))
read_after keyword.Let from = option_map (λ found. forms.Let found.0 found.1) (whole (read_both (read_single name_of from) (read_single who_of)))
read_after keyword.Resolve from = resolved_by from (read_mark 40 from)
read_after keyword.Reject from = read_rejected from
read_after keyword.Keep from = option_map forms.Keep (whole (read_single name_of from))
read_after keyword.Close from = ended forms.Close from
read_after keyword.Die from = ended forms.Die from
read_after keyword.Return from = option_map forms.Return (whole (read_arguments from))

-- the statement of tokens
abbrev pub read_statement : List ScriptToken → Option Statement
read_statement from = option_and_then (λ found. read_after found.0 found.1) (read_single keyword_of from)

-- no statement of one word follows its keyword if tokens are left

only_end : (from : List ScriptToken) → ¬ (from ≡ []) → (s : Statement) → ¬ IsAfter keyword.End from s
only_end from some forms.End h = some h.1
only_end from some s h = let e = h.0 in let no : ⊥ = cc in no

only_close : (from : List ScriptToken) → ¬ (from ≡ []) → (s : Statement) → ¬ IsAfter keyword.Close from s
only_close from some forms.Close h = some h.1
only_close from some s h = let e = h.0 in let no : ⊥ = cc in no

only_die : (from : List ScriptToken) → ¬ (from ≡ []) → (s : Statement) → ¬ IsAfter keyword.Die from s
only_die from some forms.Die h = some h.1
only_die from some s h = let e = h.0 in let no : ⊥ = cc in no

ended-finds : (k : Keyword) (s : Statement) (from : List ScriptToken) → (from ≡ [] → IsAfter k from s) → (¬ (from ≡ []) → (u : Statement) → ¬ IsAfter k from u) → Finds (IsAfter k from) (ended s from)
ended-finds k s [] is none = is refl
ended-finds k s (t ∷ rest) is none = none (λ e. let no : ⊥ = cc in no)

-- after a side

no_word : (side : Side) (from : List ScriptToken) → ((found : List ℕ × List ScriptToken) → ¬ word found.0 from found.1) → (s : Statement) → ¬ IsAfter (keyword.Side side) from s
no_word side from none (forms.Main t) h = none (codes "main", []) h.1
no_word side from none (forms.On t m) h = none (codes "on", h.1.0) h.1.1
no_word side from none s h = let e = h.0 in let no : ⊥ = cc in no

only_main : (side : Side) (from : List ScriptToken) (w : List ℕ) (rest : List ScriptToken) → word w from rest → w ≡ codes "main" → ¬ (rest ≡ []) → (s : Statement) → ¬ IsAfter (keyword.Side side) from s
only_main side from w rest read is some (forms.Main t) h = some (same_word w (codes "main") from rest [] read h.1).1
only_main side from w rest read is some (forms.On t m) h = let e = (same_word w (codes "on") from rest h.1.0 read h.1.1).0 in let f : codes "main" ≡ codes "on" = sym is ∙ e in let no : ⊥ = cc in no
only_main side from w rest read is some s h = let e = h.0 in let no : ⊥ = cc in no

main_finds : (side : Side) (from : List ScriptToken) (w : List ℕ) (rest : List ScriptToken) → word w from rest → w ≡ codes "main" → Finds (IsAfter (keyword.Side side) from) (ended (forms.Main side) rest)
main_finds side from w [] read is = (refl, read ∙ ap (λ v. token.Word v ∷ []) is)
main_finds side from w (t ∷ rest) read is = only_main side from w (t ∷ rest) read is (λ e. let no : ⊥ = cc in no)

neither_word : (side : Side) (from : List ScriptToken) (w : List ℕ) (rest : List ScriptToken) → word w from rest → ¬ (w ≡ codes "main") → ¬ (w ≡ codes "on") → (s : Statement) → ¬ IsAfter (keyword.Side side) from s
neither_word side from w rest read main on (forms.Main t) h = main (same_word w (codes "main") from rest [] read h.1).0
neither_word side from w rest read main on (forms.On t m) h = on (same_word w (codes "on") from rest h.1.0 read h.1.1).0
neither_word side from w rest read main on s h = let e = h.0 in let no : ⊥ = cc in no

not_it : (w v : List ℕ) → bytes_eq w v ≡ false → ¬ (w ≡ v)
not_it w v other e = true≢false (sym ((bytes_eq-Decides w v).1 e) ∙ other)

opened_by-finds : (side : Side) (from : List ScriptToken) (found : List ℕ × List ScriptToken) → word found.0 from found.1 → Finds (IsAfter (keyword.Side side) from) (opened_by side found)
opened_by-finds side from found read = elim (cases_Bool (bytes_eq found.0 (codes "main"))) [
  | inl main ↦ rw main (main_finds side from found.0 found.1 read ((bytes_eq-Decides found.0 (codes "main")).0 main))
  | inr no_main ↦ elim (cases_Bool (bytes_eq found.0 (codes "on"))) [
    | inl on ↦ (
        let is = (bytes_eq-Decides found.0 (codes "on")).0 on in
        rw (no_main, on) (finds_as (λ m. message m found.1 []) (IsAfter (keyword.Side side) from) (forms.On side)
        (λ m h. (refl, (found.1, read ∙ ap (λ v. token.Word v ∷ found.1) is, h)))
        (only_on side from found.0 found.1 read is)
        (whole (read_message found.1))
        (whole_finds message same_message found.1 (read_message found.1) (message_finds found.1))))
    | inr no_on ↦ rw (no_main, no_on) (neither_word side from found.0 found.1 read (not_it found.0 (codes "main") no_main) (not_it found.0 (codes "on") no_on))
  ]
]

-- after `resolve` and `reject`

resolved_by-finds : (from : List ScriptToken) (o : Option (Unit {0} × List ScriptToken)) → Finds (AtFront (marked 40) from) o → Finds (IsAfter keyword.Resolve from) (resolved_by from o)
resolved_by-finds from (Some bracket_mark) at =
    finds_as (λ vs. arguments vs from []) (IsAfter keyword.Resolve from) forms.Resolve (λ vs h. (refl, h))
    (λ none. only_resolve from none (λ n c h. mark_no_name 40 n from bracket_mark.1 h.0 at h.1))
    (whole (read_arguments from))
    (whole_finds arguments same_arguments from (read_arguments from) (arguments_find from))
resolved_by-finds from None closed =
    finds_as (λ both. Both name call both from []) (IsAfter keyword.Resolve from) (λ found. forms.ResolveKept found.0 found.1) (λ both h. (refl, h))
    (λ none. only_resolve from (λ vs h. closed (tt, h.0) h.1) (λ n c. none (n, c)))
    (whole (read_both (read_single name_of from) read_call))
    (whole_finds (Both name call) (both_once name call same_name same_call) from (read_both (read_single name_of from) read_call)
    (both_find name call same_name from (read_single name_of from) (single_finds name_of from) read_call call_finds))

rejected_finds : (from : List ScriptToken) → Finds (IsAfter keyword.Reject from) (read_rejected from)
rejected_finds [] = (refl, refl)
rejected_finds (t ∷ rest) =
    let from : List ScriptToken = t ∷ rest in
    finds_as (λ both. Both name message both from []) (IsAfter keyword.Reject from) (λ found. forms.RejectKept found.0 found.1) (λ both h. (refl, h))
    (λ none. only_reject from (λ e. let no : ⊥ = cc in no) (λ n m. none (n, m)))
    (whole (read_both (read_single name_of from) read_message))
    (whole_finds (Both name message) (both_once name message same_name same_message) from (read_both (read_single name_of from) read_message)
    (both_find name message same_name from (read_single name_of from) (single_finds name_of from) read_message message_finds))

-- after each keyword

after_finds : (k : Keyword) (from : List ScriptToken) → Finds (IsAfter k from) (read_after k from)
after_finds (keyword.Side side) from = finds_then (AtFront word from) (IsAfter (keyword.Side side) from) (opened_by side) (opened_by-finds side from) (no_word side from) (read_word from) (word_finds from)
after_finds keyword.End from = ended-finds keyword.End forms.End from (λ e. (refl, e)) (only_end from)
after_finds keyword.Send from =
    finds_as (λ both. Both who call both from []) (IsAfter keyword.Send from) (λ found. forms.Send found.0 found.1) (λ both h. (refl, h)) (λ none. only_send from (λ w c. none (w, c)))
    (whole (read_sent from))
    (whole_finds (Both who call) (both_once who call same_who same_call) from (read_sent from) (sent_finds from))
after_finds keyword.New from =
    finds_as (λ both. Both name (Both who call) both from []) (IsAfter keyword.New from) (λ found. forms.New found.0 found.1.0 found.1.1) (λ both h. (refl, h)) (λ none. only_new from (λ n w c. none (n, (w, c))))
    (whole (read_both (read_single name_of from) read_sent))
    (whole_finds (Both name (Both who call)) (both_once name (Both who call) same_name (both_once who call same_who same_call)) from (read_both (read_single name_of from) read_sent)
    (both_find name (Both who call) same_name from (read_single name_of from) (single_finds name_of from) read_sent sent_finds))
after_finds keyword.Let from =
    finds_as (λ both. Both name who both from []) (IsAfter keyword.Let from) (λ found. forms.Let found.0 found.1) (λ both h. (refl, h)) (λ none. only_let from (λ n w. none (n, w)))
    (whole (read_both (read_single name_of from) (read_single who_of)))
    (whole_finds (Both name who) (both_once name who same_name same_who) from (read_both (read_single name_of from) (read_single who_of))
    (both_find name who same_name from (read_single name_of from) (single_finds name_of from) (read_single who_of) (single_finds who_of)))
after_finds keyword.Resolve from = resolved_by-finds from (read_mark 40 from) (mark_finds 40 from)
after_finds keyword.Reject from = rejected_finds from
after_finds keyword.Keep from =
    finds_as (λ n. name n from []) (IsAfter keyword.Keep from) forms.Keep (λ n h. (refl, h)) (only_keep from)
    (whole (read_single name_of from))
    (whole_finds name same_name from (read_single name_of from) (single_finds name_of from))
after_finds keyword.Close from = ended-finds keyword.Close forms.Close from (λ e. (refl, e)) (only_close from)
after_finds keyword.Die from = ended-finds keyword.Die forms.Die from (λ e. (refl, e)) (only_die from)
after_finds keyword.Return from =
    finds_as (λ vs. arguments vs from []) (IsAfter keyword.Return from) forms.Return (λ vs h. (refl, h)) (only_return from)
    (whole (read_arguments from))
    (whole_finds arguments same_arguments from (read_arguments from) (arguments_find from))

after_keyword : (from : List ScriptToken) (k : Keyword) (rest : List ScriptToken) → single keyword_of k from rest → (s : Statement) → statement s from [] → IsAfter k rest s
after_keyword from k rest read s h =
    let e = one_single keyword_of (keyword_for s) k from h.0 rest h.1 read in
    let P : List ScriptToken → Type 0 = λ l. following_keyword s l [] in
    (e.0, subst P e.1 h.2)

before_keyword : (from : List ScriptToken) (k : Keyword) (rest : List ScriptToken) → single keyword_of k from rest → (s : Statement) → IsAfter k rest s → statement s from []
before_keyword from k rest read s h = let P : Keyword → Type 0 = λ l. single keyword_of l from rest in (rest, subst P (sym h.0) read, h.1)

-- the statement is found exactly if there is one
pub statement_finds : (from : List ScriptToken) → Finds (λ s. statement s from []) (read_statement from)
statement_finds from =
    finds_then (AtFront (single keyword_of) from) (λ s. statement s from []) (λ found. read_after found.0 found.1)
    (λ found read. finds_also (IsAfter found.0 found.1) (λ s. statement s from []) (before_keyword from found.0 found.1 read) (after_keyword from found.0 found.1 read) (read_after found.0 found.1) (after_finds found.0 found.1))
    (λ none s h. none (keyword_for s, h.0) h.1)
    (read_single keyword_of from)
    (single_finds keyword_of from)
