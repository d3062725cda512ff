-- Where there is no way to read values.
use Rattle.std.proofs.Common.{◌≡◌, ℕ, List, ◌∷◌, drop, sym, ap, ◌∙◌, subst}
use Rattle.script_reader.specs.declared.parts.Bracket.{Bracket}
use Rattle.script_reader.specs.declared.parts.Bracket.TheVariants as bracket
use Rattle.script_reader.specs.declared.reader.ValueForm.TheVariants as begin
use Rattle.script_reader.specs.declared.token.ScriptToken.{ScriptToken}
use Rattle.script_reader.specs.declared.written.Atom.{Atom}
use Rattle.script_reader.specs.declared.written.WrittenValue.{WrittenValue, Union', Held'}
use Rattle.script_reader.specs.declared.written.WrittenValue.TheVariants as written
use Rattle.script_reader.specs.declared.written.WrittenValues.{WrittenValues, First'}
use Rattle.script_reader.specs.declared.written.WrittenValues.TheVariants as values
use Rattle.script_reader.specs.Grammar.{atom_of, closing, value, listed, more}
use Rattle.script_reader.specs.Heads.{begin_of}
use Rattle.script_reader.specs.Parts.{mark, single}
use Rattle.script_reader.proofs.Heads.{begin_for, value_begin}
use Rattle.script_reader.proofs.ValueForms.{one_value, tail_of}

-- what follows the first token is what is left of the tokens without it
after_first : (t : ScriptToken) (from middle rest : List ScriptToken) → middle ≡ drop 1 from → from ≡ t ∷ rest → rest ≡ middle
after_first t from middle rest is e = sym (ap (drop 1) e) ∙ sym is

pub no_struct : (from middle : List ScriptToken) → begin_of from ≡ begin.Struct → middle ≡ drop 1 from → ((vs : WrittenValues) (to : List ScriptToken) → ¬ listed bracket.Curly vs middle to) → (v : WrittenValue) (to : List ScriptToken) → ¬ value v from to
no_struct from middle b is none (written.Struct vs) to h = let P : List ScriptToken → Type 0 = λ l. listed bracket.Curly vs l to in none vs to (subst P (after_first _ from middle h.0 is h.1) h.2)
no_struct from middle b is none v to h = let e : begin_of from ≡ begin_for v = value_begin v from to h in let no : ⊥ = cc in no

pub no_array : (from middle : List ScriptToken) → begin_of from ≡ begin.Array → middle ≡ drop 1 from → ((vs : WrittenValues) (to : List ScriptToken) → ¬ listed bracket.Square vs middle to) → (v : WrittenValue) (to : List ScriptToken) → ¬ value v from to
no_array from middle b is none (written.Array vs) to h = let P : List ScriptToken → Type 0 = λ l. listed bracket.Square vs l to in none vs to (subst P (after_first _ from middle h.0 is h.1) h.2)
no_array from middle b is none v to h = let e : begin_of from ≡ begin_for v = value_begin v from to h in let no : ⊥ = cc in no

pub no_union : (from middle : List ScriptToken) (n : ℕ) → begin_of from ≡ begin.Union n → middle ≡ drop 1 from → ((v : WrittenValue) (to : List ScriptToken) → ¬ value v middle to) → (v : WrittenValue) (to : List ScriptToken) → ¬ value v from to
no_union from middle n b is none (Union' index _ v) to h = let P : List ScriptToken → Type 0 = λ l. value v l to in none v to (subst P (after_first _ from middle h.0 is h.1) h.2)
no_union from middle n b is none v to h = let e : begin_of from ≡ begin_for v = value_begin v from to h in let no : ⊥ = cc in no

pub no_held : (from middle : List ScriptToken) → begin_of from ≡ begin.Held → middle ≡ drop 1 from → ((v : WrittenValue) (to : List ScriptToken) → ¬ value v middle to) → (v : WrittenValue) (to : List ScriptToken) → ¬ value v from to
no_held from middle b is none (Held' _ v) to h = let P : List ScriptToken → Type 0 = λ l. value v l to in none v to (subst P (after_first _ from middle h.0 is h.1) h.2)
no_held from middle b is none v to h = let e : begin_of from ≡ begin_for v = value_begin v from to h in let no : ⊥ = cc in no

pub no_atom : (from : List ScriptToken) → begin_of from ≡ begin.Atom → ((a : Atom) (to : List ScriptToken) → ¬ single atom_of a from to) → (v : WrittenValue) (to : List ScriptToken) → ¬ value v from to
no_atom from b none (written.Atom a) to h = none a to h
no_atom from b none v to h = let e : begin_of from ≡ begin_for v = value_begin v from to h in let no : ⊥ = cc in no

-- If the closing mark is not first, and what follows is not a value, or is not followed as it should be, then values are not read.
not_closed : (c : Bracket) (b : ℕ) (from to : List ScriptToken) → b ≡ closing c → ((to : List ScriptToken) → ¬ mark b from to) → ¬ mark (closing c) from to
not_closed c b from to is none h = let P : ℕ → Type 0 = λ x. mark x from to in none to (subst P (sym is) h)

pub no_listed_value : (c : Bracket) (b : ℕ) (from at : List ScriptToken) → b ≡ closing c → ((to : List ScriptToken) → ¬ mark b from to) → at ≡ from → ((v : WrittenValue) (to : List ScriptToken) → ¬ value v at to) → (vs : WrittenValues) (to : List ScriptToken) → ¬ listed c vs from to
no_listed_value c b from at is closed kept none values.Nothing to h = not_closed c b from to is closed h
no_listed_value c b from at is closed kept none (First' _ v _ vs) to h = let P : List ScriptToken → Type 0 = λ l. value v l h.0 in none v h.0 (subst P (sym kept) h.1)

pub no_listed_more : (c : Bracket) (b : ℕ) (from at middle : List ScriptToken) (v : WrittenValue) → b ≡ closing c → ((to : List ScriptToken) → ¬ mark b from to) → at ≡ from → value v at middle → ((vs : WrittenValues) (to : List ScriptToken) → ¬ more c vs middle to) → (vs : WrittenValues) (to : List ScriptToken) → ¬ listed c vs from to
no_listed_more c b from at middle v is closed kept read none values.Nothing to h = not_closed c b from to is closed h
no_listed_more c b from at middle v is closed kept read none (First' _ w _ vs) to h =
    let P : List ScriptToken → Type 0 = λ l. value w l h.0 in
    let Q : List ScriptToken → Type 0 = λ l. more c vs l to in
    none vs to (subst Q (one_value w v at h.0 middle (subst P (sym kept) h.1) read).1 h.2)

pub no_more_comma : (c : Bracket) (b : ℕ) (from at : List ScriptToken) → b ≡ closing c → ((to : List ScriptToken) → ¬ mark b from to) → at ≡ from → ((to : List ScriptToken) → ¬ mark 44 at to) → (vs : WrittenValues) (to : List ScriptToken) → ¬ more c vs from to
no_more_comma c b from at is closed kept none values.Nothing to h = not_closed c b from to is closed h
no_more_comma c b from at is closed kept none (First' _ v _ vs) to h = let P : List ScriptToken → Type 0 = λ l. mark 44 l h.0 in none h.0 (subst P (sym kept) h.1)

-- what follows a comma is determined
after_comma : (from at following middle : List ScriptToken) → at ≡ from → mark 44 at following → mark 44 from middle → middle ≡ following
after_comma from at following middle kept comma h = tail_of _ _ from middle following h (sym kept ∙ comma)

pub no_more_value : (c : Bracket) (b : ℕ) (from at following : List ScriptToken) → b ≡ closing c → ((to : List ScriptToken) → ¬ mark b from to) → at ≡ from → mark 44 at following → ((v : WrittenValue) (to : List ScriptToken) → ¬ value v following to) → (vs : WrittenValues) (to : List ScriptToken) → ¬ more c vs from to
no_more_value c b from at following is closed kept comma none values.Nothing to h = not_closed c b from to is closed h
no_more_value c b from at following is closed kept comma none (First' _ v _ vs) to h =
    let P : List ScriptToken → Type 0 = λ l. value v l h.2.0 in
    none v h.2.0 (subst P (after_comma from at following h.0 kept comma h.1) h.2.1)

pub no_more_more : (c : Bracket) (b : ℕ) (from at following middle : List ScriptToken) (v : WrittenValue) → b ≡ closing c → ((to : List ScriptToken) → ¬ mark b from to) → at ≡ from → mark 44 at following → value v following middle → ((vs : WrittenValues) (to : List ScriptToken) → ¬ more c vs middle to) → (vs : WrittenValues) (to : List ScriptToken) → ¬ more c vs from to
no_more_more c b from at following middle v is closed kept comma read none values.Nothing to h = not_closed c b from to is closed h
no_more_more c b from at following middle v is closed kept comma read none (First' _ w _ vs) to h =
    let P : List ScriptToken → Type 0 = λ l. value w l h.2.0 in
    let Q : List ScriptToken → Type 0 = λ l. more c vs l to in
    none vs to (subst Q (one_value w v following h.2.0 middle (subst P (after_comma from at following h.0 kept comma h.1) h.2.1) read).1 h.2.2)
