-- What a value begins with.
use Rattle.std.proofs.Common.{◌≡◌, ℕ, false, eqb, List, ◌∷◌, subst, Some, inl, inr, refl, sym, ap, ◌∙◌}
use Rattle.std.specs.Prelude.{codes}
use Rattle.std.specs.Str.{bytes_eq}
use Rattle.std.proofs.lemmas.Bool.{cases_Bool}
use Rattle.std.proofs.lemmas.Option.{none-some}
use Rattle.std.proofs.lemmas.Slice.Eq.{bytes_eq-Decides}
use Rattle.script_reader.specs.declared.parts.Bracket.{Bracket}
use Rattle.script_reader.specs.declared.parts.Bracket.TheVariants as bracket
use Rattle.script_reader.specs.declared.reader.ValueForm.{ValueForm}
use Rattle.script_reader.specs.declared.reader.ValueForm.TheVariants as begin
use Rattle.script_reader.specs.declared.token.ScriptToken.{ScriptToken}
use Rattle.script_reader.specs.declared.token.ScriptToken.TheVariants as token
use Rattle.script_reader.specs.declared.written.Atom.{Atom}
use Rattle.script_reader.specs.declared.written.WrittenValue.{WrittenValue, Union', Held'}
use Rattle.script_reader.specs.declared.written.WrittenValue.TheVariants as written
use Rattle.script_reader.specs.Grammar.{atom_named, atom_of, closing, value}
use Rattle.script_reader.specs.Heads.{begin_with, begin_of}

-- the word `some` is not a value on its own
atom_begin : (t : ScriptToken) (a : Atom) → atom_of t ≡ Some a → begin_with t ≡ begin.Atom
atom_begin (token.Word w) a h = elim (cases_Bool (bytes_eq w (codes "some"))) [
  | inl e ↦ absurd (let P : List ℕ → Type 0 = λ l. atom_named l ≡ Some a in none-some a (subst P ((bytes_eq-Decides w (codes "some")).0 e) h))
  | inr e ↦ rw e refl
]
atom_begin (token.Index n) a h = absurd (none-some a h)
atom_begin (token.Mark b) a h = absurd (none-some a h)
atom_begin t a h = refl

abbrev pub begin_for : WrittenValue → ValueForm
begin_for (written.Atom a) = begin.Atom
begin_for (written.Struct vs) = begin.Struct
begin_for (written.Array vs) = begin.Array
begin_for (Union' index _ v) = begin.Union index
begin_for (Held' _ v) = begin.Held

-- a value begins as its form requires
pub value_begin : (v : WrittenValue) (from to : List ScriptToken) → value v from to → begin_of from ≡ begin_for v
value_begin (written.Atom a) from to h = ap begin_of h.1 ∙ atom_begin h.0 a h.2
value_begin (written.Struct vs) from to h = ap begin_of h.1
value_begin (written.Array vs) from to h = ap begin_of h.1
value_begin (Union' index _ v) from to h = ap begin_of h.1
value_begin (Held' _ v) from to h = ap begin_of h.1

-- no value begins with a mark that closes or separates values
pub no_value : (b : ℕ) → begin_with (token.Mark b) ≡ begin.Atom → (v : WrittenValue) (rest to : List ScriptToken) → ¬ value v (token.Mark b ∷ rest) to
no_value b plain (written.Atom a) rest to h =
    let e : token.Mark b ∷ rest ≡ h.0 ∷ to = h.1 in
    let same : token.Mark b ≡ h.0 = cc in
    let P : ScriptToken → Type 0 = λ t. atom_of t ≡ Some a in
    none-some a (subst P (sym same) h.2)
no_value b plain v rest to h = let e = value_begin v (token.Mark b ∷ rest) to h in let no : ⊥ = cc in no

pub closing_begin : (c : Bracket) → begin_with (token.Mark (closing c)) ≡ begin.Atom
closing_begin bracket.Round = refl
closing_begin bracket.Square = refl
closing_begin bracket.Curly = refl

pub closing_comma : (c : Bracket) → eqb (closing c) 44 ≡ false
closing_comma bracket.Round = refl
closing_comma bracket.Square = refl
closing_comma bracket.Curly = refl
