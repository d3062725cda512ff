-- The brackets of a statement are balanced: the same number open and close.
use Rattle.std.proofs.Common.{◌≡◌, ℕ, ◌+◌, ◌<◌, Bool, true, false, cond, List, [], ◌∷◌, Option, None, refl, sym, ap, ◌∙◌, arith}
use Rattle.std.specs.Prelude.{count_by, codes}
use Rattle.std.proofs.lemmas.List.Sums.{sum_by-cons}
use Rattle.std.proofs.lemmas.Option.{none-some}
use Rattle.script_reader.specs.declared.parts.Bracket.{Bracket}
use Rattle.script_reader.specs.declared.parts.Bracket.TheVariants as bracket
use Rattle.script_reader.specs.declared.statement.WrittenMessage.{WrittenMessage}
use Rattle.script_reader.specs.declared.statement.MessageName.{MessageName}
use Rattle.script_reader.specs.declared.statement.Statement.{Statement}
use Rattle.script_reader.specs.declared.statement.Statement.TheVariants as forms
use Rattle.script_reader.specs.declared.token.ScriptToken.{ScriptToken}
use Rattle.script_reader.specs.declared.token.ScriptToken.TheVariants as token
use Rattle.script_reader.specs.declared.written.Who.{Who}
use Rattle.script_reader.specs.declared.written.WrittenValue.{WrittenValue, Union', Held'}
use Rattle.script_reader.specs.declared.written.WrittenValue.TheVariants as written
use Rattle.script_reader.specs.declared.written.WrittenValues.{WrittenValues, First'}
use Rattle.script_reader.specs.declared.written.WrittenValues.TheVariants as values
use Rattle.script_reader.specs.Grammar.{name_of, name, who_of, who, atom_of, keyword_of, closing, value, listed, more, message, arguments, call, keyword_for, following_keyword, statement}
use Rattle.script_reader.specs.Heads.{is_opening, is_closing}
use Rattle.script_reader.specs.Parts.{mark, single}

opens : List ScriptToken → ℕ
opens ts = count_by is_opening ts

closes : List ScriptToken → ℕ
closes ts = count_by is_closing ts

-- what is between two points has the same number of marks that open and of marks that close
record Even (from to : List ScriptToken) : Type 0 where
  even : opens from + closes to ≡ opens to + closes from

-- it has one more mark that closes
record Closed (from to : List ScriptToken) : Type 0 where
  closed : opens from + closes to + 1 ≡ opens to + closes from

even_none : (from to : List ScriptToken) → from ≡ to → Even from to
even_none from to e = record { even = ap (λ l. opens l + closes to) e ∙ ap (λ l. opens to + closes l) (sym e) }

even_then : (a b c : List ScriptToken) → Even a b → Even b c → Even a c
even_then a b c x y = let p = x.even in let q = y.even in record { even = omega (arith, p, q) }

plain_token : (t : ScriptToken) (from to : List ScriptToken) → from ≡ t ∷ to → is_opening t ≡ false → is_closing t ≡ false → Even from to
unfolding opens closes
plain_token t from to e o c = record { even = rw e (rw (o, c) refl) }

plain_single : {X : Type 0} (read : ScriptToken → Option X) → ((b : ℕ) → read (token.Mark b) ≡ None) → (x : X) (from to : List ScriptToken) → single read x from to → Even from to
plain_single read none x from to (token.Mark b, e, found) = absurd (none-some x (sym (none b) ∙ found))
plain_single read none x from to (t, e, found) = plain_token t from to e refl refl

count_more : (p : ScriptToken → Bool) (t : ScriptToken) (ts from : List ScriptToken) → from ≡ t ∷ ts → p t ≡ true → count_by p from ≡ count_by p ts + 1
count_more p t ts from e holds =
    let h : ◌≡◌ {A = ℕ} (cond (p t) 1 0) 1 = ap (λ x. cond x 1 0) holds in
    let f : count_by p from ≡ cond (p t) 1 0 + count_by p ts = ap (count_by p) e ∙ sum_by-cons (λ x. cond (p x) 1 0) t ts in
    omega (arith, h, f)

count_same : (p : ScriptToken → Bool) (t : ScriptToken) (ts from : List ScriptToken) → from ≡ t ∷ ts → p t ≡ false → count_by p from ≡ count_by p ts
count_same p t ts from e fails =
    let h : ◌≡◌ {A = ℕ} (cond (p t) 1 0) 0 = ap (λ x. cond x 1 0) fails in
    let f : count_by p from ≡ cond (p t) 1 0 + count_by p ts = ap (count_by p) e ∙ sum_by-cons (λ x. cond (p x) 1 0) t ts in
    omega (arith, h, f)

opening_token : (b : ℕ) (from to : List ScriptToken) → is_opening (token.Mark b) ≡ true → is_closing (token.Mark b) ≡ false → from ≡ token.Mark b ∷ to → (opens from ≡ opens to + 1) × (closes from ≡ closes to)
unfolding opens closes
opening_token b from to o c e = (count_more is_opening (token.Mark b) to from e o, count_same is_closing (token.Mark b) to from e c)

closing_mark : (b : ℕ) (from to : List ScriptToken) → is_opening (token.Mark b) ≡ false → is_closing (token.Mark b) ≡ true → from ≡ token.Mark b ∷ to → Closed from to
unfolding opens closes
closing_mark b from to o c e =
    let p = count_same is_opening (token.Mark b) to from e o in
    let q = count_more is_closing (token.Mark b) to from e c in
    record { closed = omega (arith, p, q) }

closing_token : (c : Bracket) (from to : List ScriptToken) → mark (closing c) from to → Closed from to
closing_token bracket.Round from to e = closing_mark 41 from to refl refl e
closing_token bracket.Square from to e = closing_mark 93 from to refl refl e
closing_token bracket.Curly from to e = closing_mark 125 from to refl refl e

bracketed : (b : ℕ) (from middle to : List ScriptToken) → is_opening (token.Mark b) ≡ true → is_closing (token.Mark b) ≡ false → from ≡ token.Mark b ∷ middle → Closed middle to → Even from to
bracketed b from middle to o c e h = let p = opening_token b from middle o c e in let q = h.closed in let r = p.0 in let s = p.1 in record { even = omega (arith, q, r, s) }

closed_then : (a b c : List ScriptToken) → Even a b → Closed b c → Closed a c
closed_then a b c x y = let p = x.even in let q = y.closed in record { closed = omega (arith, p, q) }

mutual
  value_even : (v : WrittenValue) (from to : List ScriptToken) → value v from to → Even from to
  value_even (written.Atom a) from to h = plain_single atom_of (λ b. refl) a from to h
  value_even (written.Struct vs) from to h = bracketed 123 from h.0 to refl refl h.1 (listed_closed bracket.Curly vs h.0 to h.2)
  value_even (written.Array vs) from to h = bracketed 91 from h.0 to refl refl h.1 (listed_closed bracket.Square vs h.0 to h.2)
  value_even (Union' index _ v) from to h = even_then from h.0 to (plain_token (token.Index index) from h.0 h.1 refl refl) (value_even v h.0 to h.2)
  value_even (Held' _ v) from to h = even_then from h.0 to (plain_token (token.Word (codes "some")) from h.0 h.1 refl refl) (value_even v h.0 to h.2)

  listed_closed : (c : Bracket) (vs : WrittenValues) (from to : List ScriptToken) → listed c vs from to → Closed from to
  listed_closed c values.Nothing from to h = closing_token c from to h
  listed_closed c (First' _ v _ vs) from to h = closed_then from h.0 to (value_even v from h.0 h.1) (more_closed c vs h.0 to h.2)

  more_closed : (c : Bracket) (vs : WrittenValues) (from to : List ScriptToken) → more c vs from to → Closed from to
  more_closed c values.Nothing from to h = closing_token c from to h
  more_closed c (First' _ v _ vs) from to h =
      closed_then from h.0 to (plain_token (token.Mark 44) from h.0 h.1 refl refl) (closed_then h.0 h.2.0 to (value_even v h.0 h.2.0 h.2.1) (more_closed c vs h.2.0 to h.2.2))

arguments_even : (vs : WrittenValues) (from to : List ScriptToken) → arguments vs from to → Even from to
arguments_even vs from to h = bracketed 40 from h.0 to refl refl h.1 (listed_closed bracket.Round vs h.0 to h.2)

message_even : (m : MessageName) (from to : List ScriptToken) → message m from to → Even from to
message_even m from to h =
    even_then from h.0 to (plain_token (token.Word m.protocol) from h.0 h.1 refl refl)
    (even_then h.0 h.2.0 to (plain_token (token.Mark 46) h.0 h.2.0 h.2.1 refl refl) (plain_token (token.Word m.message) h.2.0 to h.2.2 refl refl))

call_even : (c : WrittenMessage) (from to : List ScriptToken) → call c from to → Even from to
call_even c from to h = even_then from h.0 to (message_even c.message from h.0 h.1) (arguments_even c.values h.0 to h.2)

name_even : (n : List ℕ) (from to : List ScriptToken) → name n from to → Even from to
name_even n from to h = plain_single name_of (λ b. refl) n from to h

who_even : (w : Who) (from to : List ScriptToken) → who w from to → Even from to
who_even w from to h = plain_single who_of (λ b. refl) w from to h

after_even : (s : Statement) (from to : List ScriptToken) → following_keyword s from to → Even from to
after_even (forms.Main s) from to h = plain_token (token.Word (codes "main")) from to h refl refl
after_even (forms.On s m) from to h = even_then from h.0 to (plain_token (token.Word (codes "on")) from h.0 h.1 refl refl) (message_even m h.0 to h.2)
after_even forms.End from to h = even_none from to h
after_even (forms.Send w c) from to h = even_then from h.0 to (who_even w from h.0 h.1) (call_even c h.0 to h.2)
after_even (forms.New n w c) from to h = even_then from h.0 to (name_even n from h.0 h.1) (even_then h.0 h.2.0 to (who_even w h.0 h.2.0 h.2.1) (call_even c h.2.0 to h.2.2))
after_even (forms.Let n w) from to h = even_then from h.0 to (name_even n from h.0 h.1) (who_even w h.0 to h.2)
after_even (forms.Resolve vs) from to h = arguments_even vs from to h
after_even forms.Reject from to h = even_none from to h
after_even (forms.Keep n) from to h = name_even n from to h
after_even (forms.ResolveKept n c) from to h = even_then from h.0 to (name_even n from h.0 h.1) (call_even c h.0 to h.2)
after_even (forms.RejectKept n m) from to h = even_then from h.0 to (name_even n from h.0 h.1) (message_even m h.0 to h.2)
after_even forms.Close from to h = even_none from to h
after_even forms.Die from to h = even_none from to h
after_even (forms.Return vs) from to h = arguments_even vs from to h

-- tokens with more marks that open than marks that close are not a statement
pub unbalanced : (s : Statement) (tokens : List ScriptToken) → count_by is_closing tokens < count_by is_opening tokens → ¬ statement s tokens []
unfolding opens closes
unbalanced s tokens less h =
    let e = even_then tokens h.0 [] (plain_single keyword_of (λ b. refl) (keyword_for s) tokens h.0 h.1) (after_even s h.0 [] h.2) in
    let p = e.even in
    omega (arith, p, less)
