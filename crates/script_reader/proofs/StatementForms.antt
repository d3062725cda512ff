-- A statement can be read in at most one way, and the cases in which it cannot be read.
use Rattle.std.proofs.Common.{◌≡◌, ◌≢◌, ℕ, List, [], refl, sym, ap, ◌∙◌, subst}
use Rattle.std.specs.Prelude.{Some, codes}
use Rattle.std.proofs.lemmas.Option.{none-some}
use Rattle.ipdl_base.specs.declared.kinds.Side.{Side}
use Rattle.script_reader.specs.declared.parts.Bracket.TheVariants as bracket
use Rattle.script_reader.specs.declared.parts.Keyword.{Keyword}
use Rattle.script_reader.specs.declared.parts.Keyword.TheVariants as keyword
use Rattle.script_reader.specs.declared.statement.WrittenMessage.{WrittenMessage}
use Rattle.script_reader.specs.declared.statement.MessageName.{MessageName}
use Rattle.script_reader.specs.declared.statement.Statement.{Statement}
use Rattle.script_reader.specs.declared.statement.Statement.TheVariants as forms
use Rattle.script_reader.specs.declared.token.ScriptToken.{ScriptToken}
use Rattle.script_reader.specs.declared.token.ScriptToken.TheVariants as token
use Rattle.script_reader.specs.declared.written.Who.{Who}
use Rattle.script_reader.specs.declared.written.WrittenValues.{WrittenValues}
use Rattle.script_reader.specs.Grammar.{name_of, name, who_of, who, keyword_of, message, listed, arguments, call, keyword_for, following_keyword, statement}
use Rattle.script_reader.specs.Parts.{Part, ◌⨾◌, mark, word, single}
use Rattle.script_reader.specs.Plain.{plain_values, plain_call, plain_statement}
use Rattle.script_reader.specs.Reading.{IsAfter}
use Rattle.script_reader.proofs.ValueForms.{one_single, one_listed, tail_of, head_of}

-- Parts are read in one way

pub same_word : (v w : List ℕ) (from to end : List ScriptToken) → word v from to → word w from end → (v ≡ w) × (to ≡ end)
same_word v w from to end h k = let e : token.Word v ≡ token.Word w = head_of _ _ from to end h k in (cc, tail_of _ _ from to end h k)

pub same_name : (m n : List ℕ) (from to end : List ScriptToken) → name m from to → name n from end → to ≡ end
same_name m n from to end h k = (one_single name_of m n from to end h k).1

pub same_who : (v w : Who) (from to end : List ScriptToken) → who v from to → who w from end → to ≡ end
same_who v w from to end h k = (one_single who_of v w from to end h k).1

one_message : (m n : MessageName) (from to end : List ScriptToken) → message m from to → message n from end → (m ≡ n) × (to ≡ end)
one_message m n from to end h k =
    let p = same_word m.protocol n.protocol from h.0 k.0 h.1 k.1 in
    let M : List ScriptToken → Type 0 = λ l. mark 46 l h.2.0 in
    let dot = tail_of _ _ k.0 h.2.0 k.2.0 (subst M p.1 h.2.1) k.2.1 in
    let W : List ScriptToken → Type 0 = λ l. word m.message l to in
    let q = same_word m.message n.message k.2.0 to end (subst W dot h.2.2) k.2.2 in
    (ap (λ x. let y : MessageName = record { protocol = x; message = m.message } in y) p.0 ∙ ap (λ x. let y : MessageName = record { protocol = n.protocol; message = x } in y) q.0, q.1)

pub same_message : (m n : MessageName) (from to end : List ScriptToken) → message m from to → message n from end → to ≡ end
same_message m n from to end h k = (one_message m n from to end h k).1

one_arguments : (vs ws : WrittenValues) (from to end : List ScriptToken) → arguments vs from to → arguments ws from end → (plain_values vs ≡ plain_values ws) × (to ≡ end)
one_arguments vs ws from to end h k =
    let P : List ScriptToken → Type 0 = λ l. listed bracket.Round vs l to in
    one_listed bracket.Round vs ws k.0 to end (subst P (tail_of _ _ from h.0 k.0 h.1 k.1) h.2) k.2

pub same_arguments : (vs ws : WrittenValues) (from to end : List ScriptToken) → arguments vs from to → arguments ws from end → to ≡ end
same_arguments vs ws from to end h k = (one_arguments vs ws from to end h k).1

one_call : (c d : WrittenMessage) (from to end : List ScriptToken) → call c from to → call d from end → (plain_call c ≡ plain_call d) × (to ≡ end)
one_call c d from to end h k =
    let m = one_message c.message d.message from h.0 k.0 h.1 k.1 in
    let P : List ScriptToken → Type 0 = λ l. arguments c.values l to in
    let a = one_arguments c.values d.values k.0 to end (subst P m.1 h.2) k.2 in
    (ap (λ x. let y : WrittenMessage = record { message = x; values = plain_values c.values } in y) m.0 ∙ ap (λ x. let y : WrittenMessage = record { message = d.message; values = x } in y) a.0, a.1)

pub same_call : (c d : WrittenMessage) (from to end : List ScriptToken) → call c from to → call d from end → to ≡ end
same_call c d from to end h k = (one_call c d from to end h k).1

-- If a part after another is not read, both are not read

pub not_after : {X : Type 0} (P : X → Part) → ((x y : X) (from to end : List ScriptToken) → P x from to → P y from end → to ≡ end)
    → (x : X) (from middle : List ScriptToken) → P x from middle → (Q : Part) (to : List ScriptToken) → ¬ Q middle to → (y : X) → ¬ (P y ⨾ Q) from to
not_after P same x from middle read Q to none y h = let S : List ScriptToken → Type 0 = λ l. Q l to in none (subst S (same y x from h.0 middle h.1 read) h.2)

-- nor if tokens are left after a part
pub not_whole : {X : Type 0} (P : X → Part) → ((x y : X) (from to end : List ScriptToken) → P x from to → P y from end → to ≡ end)
    → (x : X) (from rest : List ScriptToken) → P x from rest → rest ≢ [] → (y : X) → ¬ P y from []
not_whole P same x from rest read some y h = some (same x y from rest [] read h)

-- Statements by their keywords

pub only_send : (from : List ScriptToken) → ((w : Who) (c : WrittenMessage) → ¬ (who w ⨾ call c) from []) → (s : Statement) → ¬ IsAfter keyword.Send from s
only_send from none (forms.Send w c) h = none w c h.1
only_send from none s h = let e = h.0 in let no : ⊥ = cc in no

pub only_new : (from : List ScriptToken) → ((n : List ℕ) (w : Who) (c : WrittenMessage) → ¬ (name n ⨾ who w ⨾ call c) from []) → (s : Statement) → ¬ IsAfter keyword.New from s
only_new from none (forms.New n w c) h = none n w c h.1
only_new from none s h = let e = h.0 in let no : ⊥ = cc in no

pub only_let : (from : List ScriptToken) → ((n : List ℕ) (w : Who) → ¬ (name n ⨾ who w) from []) → (s : Statement) → ¬ IsAfter keyword.Let from s
only_let from none (forms.Let n w) h = none n w h.1
only_let from none s h = let e = h.0 in let no : ⊥ = cc in no

pub only_resolve : (from : List ScriptToken) → ((vs : WrittenValues) → ¬ arguments vs from []) → ((n : List ℕ) (c : WrittenMessage) → ¬ (name n ⨾ call c) from []) → (s : Statement) → ¬ IsAfter keyword.Resolve from s
only_resolve from none never (forms.Resolve vs) h = none vs h.1
only_resolve from none never (forms.ResolveKept n c) h = never n c h.1
only_resolve from none never s h = let e = h.0 in let no : ⊥ = cc in no

pub only_reject : (from : List ScriptToken) → from ≢ [] → ((n : List ℕ) (m : MessageName) → ¬ (name n ⨾ message m) from []) → (s : Statement) → ¬ IsAfter keyword.Reject from s
only_reject from some never forms.Reject h = some h.1
only_reject from some never (forms.RejectKept n m) h = never n m h.1
only_reject from some never s h = let e = h.0 in let no : ⊥ = cc in no

pub only_keep : (from : List ScriptToken) → ((n : List ℕ) → ¬ name n from []) → (s : Statement) → ¬ IsAfter keyword.Keep from s
only_keep from none (forms.Keep n) h = none n h.1
only_keep from none s h = let e = h.0 in let no : ⊥ = cc in no

pub only_return : (from : List ScriptToken) → ((vs : WrittenValues) → ¬ arguments vs from []) → (s : Statement) → ¬ IsAfter keyword.Return from s
only_return from none (forms.Return vs) h = none vs h.1
only_return from none s h = let e = h.0 in let no : ⊥ = cc in no

-- after the word `on` of a side
pub only_on : (side : Side) (from : List ScriptToken) (w : List ℕ) (middle : List ScriptToken) → word w from middle → w ≡ codes "on" → ((m : MessageName) → ¬ message m middle []) → (s : Statement) → ¬ IsAfter (keyword.Side side) from s
only_on side from w middle read is none (forms.Main t) h = let e = (same_word w (codes "main") from middle [] read h.1).0 in let f : codes "on" ≡ codes "main" = sym is ∙ e in let no : ⊥ = cc in no
only_on side from w middle read is none (forms.On t m) h =
    let S : List ScriptToken → Type 0 = λ l. message m l [] in
    none m (subst S ((same_word (codes "on") w from h.1.0 middle h.1.1 read).1) h.1.2)
only_on side from w middle read is none s h = let e = h.0 in let no : ⊥ = cc in no

-- if there is no keyword, there is no statement
pub no_keyword : (from : List ScriptToken) → ((k : Keyword) (to : List ScriptToken) → ¬ single keyword_of k from to) → (s : Statement) → ¬ statement s from []
no_keyword from none s h = none (keyword_for s) h.0 h.1

-- a mark is not a name
pub mark_no_name : (b : ℕ) (n : List ℕ) (from to end : List ScriptToken) → mark b from to → ¬ name n from end
mark_no_name b n from to end m h =
    let e : token.Mark b ≡ h.0 = head_of _ _ from to end m h.1 in
    let P : ScriptToken → Type 0 = λ t. name_of t ≡ Some n in
    none-some n (subst P (sym e) h.2)

both_names : (m n : List ℕ) (P Q : Part) (from : List ScriptToken) → (name m ⨾ P) from [] → (name n ⨾ Q) from [] → (m ≡ n) × ((middle : List ScriptToken) × P middle [] × Q middle [])
both_names m n P Q from h k =
    let e = one_single name_of m n from h.0 k.0 h.1 k.1 in
    let S : List ScriptToken → Type 0 = λ l. P l [] in
    (e.0, (k.0, subst S e.1 h.2, k.2))

both_whos : (v w : Who) (P Q : Part) (from : List ScriptToken) → (who v ⨾ P) from [] → (who w ⨾ Q) from [] → (v ≡ w) × ((middle : List ScriptToken) × P middle [] × Q middle [])
both_whos v w P Q from h k =
    let e = one_single who_of v w from h.0 k.0 h.1 k.1 in
    let S : List ScriptToken → Type 0 = λ l. P l [] in
    (e.0, (k.0, subst S e.1 h.2, k.2))

-- the same statement follows the same keyword
pub one_after : (s u : Statement) (from : List ScriptToken) → keyword_for s ≡ keyword_for u → following_keyword s from [] → following_keyword u from [] → plain_statement s ≡ plain_statement u
one_after (forms.Main s) (forms.Main u) from e h k = let same : s ≡ u = cc in ap forms.Main same
one_after (forms.Main s) (forms.On u m) from e h k = absurd (let f = (same_word (codes "main") (codes "on") from [] k.0 h k.1).0 in let no : ⊥ = cc in no)
one_after (forms.On s m) (forms.Main u) from e h k = absurd (let f = (same_word (codes "on") (codes "main") from h.0 [] h.1 k).0 in let no : ⊥ = cc in no)
one_after (forms.On s m) (forms.On u n) from e h k =
    let same : s ≡ u = cc in
    let S : List ScriptToken → Type 0 = λ l. message m l [] in
    let f = one_message m n k.0 [] [] (subst S ((same_word (codes "on") (codes "on") from h.0 k.0 h.1 k.1).1) h.2) k.2 in
    ap (λ x. forms.On x m) same ∙ ap (λ x. forms.On u x) f.0
one_after forms.End forms.End from e h k = refl
one_after (forms.Send v c) (forms.Send w d) from e h k =
    let f = both_whos v w (call c) (call d) from h k in
    ap (λ x. forms.Send x (plain_call c)) f.0 ∙ ap (λ x. forms.Send w x) (one_call c d f.1.0 [] [] f.1.1 f.1.2).0
one_after (forms.New m v c) (forms.New n w d) from e h k =
    let f = both_names m n (who v ⨾ call c) (who w ⨾ call d) from h k in
    let g = both_whos v w (call c) (call d) f.1.0 f.1.1 f.1.2 in
    ap (λ x. forms.New x v (plain_call c)) f.0 ∙ ap (λ x. forms.New n x (plain_call c)) g.0 ∙ ap (λ x. forms.New n w x) (one_call c d g.1.0 [] [] g.1.1 g.1.2).0
one_after (forms.Let m v) (forms.Let n w) from e h k =
    let f = both_names m n (who v) (who w) from h k in
    ap (λ x. forms.Let x v) f.0 ∙ ap (λ x. forms.Let n x) (one_single who_of v w f.1.0 [] [] f.1.1 f.1.2).0
one_after (forms.Resolve vs) (forms.Resolve ws) from e h k = ap forms.Resolve (one_arguments vs ws from [] [] h k).0
one_after (forms.Resolve vs) (forms.ResolveKept n d) from e h k = absurd (mark_no_name 40 n from h.0 k.0 h.1 k.1)
one_after (forms.ResolveKept m c) (forms.Resolve ws) from e h k = absurd (mark_no_name 40 m from k.0 h.0 k.1 h.1)
one_after (forms.ResolveKept m c) (forms.ResolveKept n d) from e h k =
    let f = both_names m n (call c) (call d) from h k in
    ap (λ x. forms.ResolveKept x (plain_call c)) f.0 ∙ ap (λ x. forms.ResolveKept n x) (one_call c d f.1.0 [] [] f.1.1 f.1.2).0
one_after forms.Reject forms.Reject from e h k = refl
one_after forms.Reject (forms.RejectKept n l) from e h k = absurd (let a : from ≡ [] = h in let b = k.1.1 in let no : ⊥ = cc in no)
one_after (forms.RejectKept m j) forms.Reject from e h k = absurd (let a : from ≡ [] = k in let b = h.1.1 in let no : ⊥ = cc in no)
one_after (forms.RejectKept m j) (forms.RejectKept n l) from e h k =
    let f = both_names m n (message j) (message l) from h k in
    ap (λ x. forms.RejectKept x j) f.0 ∙ ap (λ x. forms.RejectKept n x) (one_message j l f.1.0 [] [] f.1.1 f.1.2).0
one_after (forms.Keep m) (forms.Keep n) from e h k = ap forms.Keep (one_single name_of m n from [] [] h k).0
one_after forms.Close forms.Close from e h k = refl
one_after forms.Die forms.Die from e h k = refl
one_after (forms.Return vs) (forms.Return ws) from e h k = ap forms.Return (one_arguments vs ws from [] [] h k).0
one_after s u from e h k = absurd (let no : ⊥ = cc in no)
