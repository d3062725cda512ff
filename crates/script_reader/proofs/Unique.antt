-- A line has at most one reading.
use Rattle.std.proofs.Common.{◌≡◌, ℕ, List, [], refl, ap, subst, arith}
use denote.RawPtr.{null_ptr}
use Rattle.script_reader.specs.declared.line.LineReading.TheVariants as line
use Rattle.script_reader.specs.declared.statement.Statement.{Statement}
use Rattle.script_reader.specs.declared.token.ScriptToken.{ScriptToken}
use Rattle.script_reader.specs.Grammar.{keyword_of, keyword_for, following_keyword, statement}
use Rattle.script_reader.specs.Laws.{OneReading}
use Rattle.script_reader.specs.Lines.{IsStatement}
use Rattle.script_reader.specs.Plain.{plain_statement}
use Rattle.script_reader.proofs.StatementForms.{one_after}
use Rattle.script_reader.proofs.TokenLists.{one_tokens}
use Rattle.script_reader.proofs.ValueForms.{one_single}

one_statement : (s u : Statement) (from : List ScriptToken) → statement s from [] → statement u from [] → plain_statement s ≡ plain_statement u
one_statement s u from h k =
    let e = one_single keyword_of (keyword_for s) (keyword_for u) from h.0 k.0 h.1 k.1 in
    let P : List ScriptToken → Type 0 = λ l. following_keyword s l [] in
    one_after s u k.0 e.0 (subst P e.1 h.2) k.2

one_line : (line : List ℕ) (s u : Statement) → IsStatement line s → IsStatement line u → plain_statement s ≡ plain_statement u
one_line line s u x y = let P : List ScriptToken → Type 0 = λ l. statement s l [] in one_statement s u y.0 (subst P (one_tokens x.0 y.0 line x.1 y.1) x.2) y.2

pub one_reading : OneReading
one_reading l line.Silent line.Silent x y = refl
one_reading l line.Silent (line.Statement t) x y = absurd (y.1 x.1)
one_reading l line.Silent line.NoStatement x y = absurd (y.1 x.1)
one_reading l line.Silent line.TooLong x y = let a = x.0 in absurd (omega (arith, a, y))
one_reading l (line.Statement s) line.Silent x y = absurd (x.1 y.1)
one_reading l (line.Statement s) (line.Statement t) x y =
    ap (λ (v : Statement). line.Statement (record { ptr = null_ptr; alloc = record { memory = record { seal = tt } }; value = v })) (one_line l s.value t.value x.2 y.2)
one_reading l (line.Statement s) line.NoStatement x y = absurd (y.2 s.value x.2)
one_reading l (line.Statement s) line.TooLong x y = let a = x.0 in absurd (omega (arith, a, y))
one_reading l line.NoStatement line.Silent x y = absurd (x.1 y.1)
one_reading l line.NoStatement (line.Statement t) x y = absurd (x.2 t.value y.2)
one_reading l line.NoStatement line.NoStatement x y = refl
one_reading l line.NoStatement line.TooLong x y = let a = x.0 in absurd (omega (arith, a, y))
one_reading l line.TooLong line.TooLong x y = refl
one_reading l line.TooLong line.Silent x y = let a = y.0 in absurd (omega (arith, a, x))
one_reading l line.TooLong (line.Statement t) x y = let a = y.0 in absurd (omega (arith, a, x))
one_reading l line.TooLong line.NoStatement x y = let a = y.0 in absurd (omega (arith, a, x))
