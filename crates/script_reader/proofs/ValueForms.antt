-- Values can be read in at most one way, and the cases in which they cannot be read.
use Rattle.std.proofs.Common.{◌≡◌, List, ◌∷◌, Option, Some, refl, sym, ap, ◌∙◌, subst}
use Rattle.std.proofs.lemmas.Bool.{true≢false, eq-eqb}
use Rattle.ipdl_base.specs.Plain.{one_box}
use Rattle.script_reader.specs.declared.parts.Bracket.{Bracket}
use Rattle.script_reader.specs.declared.parts.Bracket.TheVariants as bracket
use Rattle.script_reader.specs.declared.token.ScriptToken.{ScriptToken}
use Rattle.script_reader.specs.declared.token.ScriptToken.TheVariants as token
use Rattle.script_reader.specs.declared.written.WrittenValue.{WrittenValue, Union', Held'}
use Rattle.script_reader.specs.declared.written.WrittenValue.TheVariants as written
use Rattle.script_reader.specs.declared.written.WrittenValues.{WrittenValues, First'}
use Rattle.script_reader.specs.declared.written.WrittenValues.TheVariants as values
use Rattle.script_reader.specs.Grammar.{atom_of, closing, value, listed, more}
use Rattle.script_reader.specs.Parts.{mark, single}
use Rattle.script_reader.specs.Plain.{plain_written, plain_values}
use Rattle.script_reader.proofs.Heads.{begin_for, value_begin, no_value, closing_begin, closing_comma}

-- one token is read in one way
pub one_single : {X : Type 0} (read : ScriptToken → Option X) (x y : X) (from to end : List ScriptToken) → single read x from to → single read y from end → (x ≡ y) × (to ≡ end)
one_single {X} read x y from to end h k =
    let e : h.0 ∷ to ≡ k.0 ∷ end = sym h.1 ∙ k.1 in
    let same : h.0 ≡ k.0 = cc in
    let rest : to ≡ end = cc in
    let found : Some x ≡ Some y = sym h.2 ∙ ap read same ∙ k.2 in
    let held : x ≡ y = cc in
    (held, rest)

pub tail_of : (t u : ScriptToken) (from to end : List ScriptToken) → from ≡ t ∷ to → from ≡ u ∷ end → to ≡ end
tail_of t u from to end h k = let e : t ∷ to ≡ u ∷ end = sym h ∙ k in cc

pub head_of : (t u : ScriptToken) (from to end : List ScriptToken) → from ≡ t ∷ to → from ≡ u ∷ end → t ≡ u
head_of t u from to end h k = let e : t ∷ to ≡ u ∷ end = sym h ∙ k in cc

closing_no_value : (c : Bracket) (v : WrittenValue) (from to end : List ScriptToken) → mark (closing c) from to → ¬ value v from end
closing_no_value c v from to end m h = let P : List ScriptToken → Type 0 = λ l. value v l end in no_value (closing c) (closing_begin c) v to end (subst P m h)

closing_no_comma : (c : Bracket) (from to end : List ScriptToken) → mark (closing c) from to → ¬ mark 44 from end
closing_no_comma c from to end m h =
    let e : token.Mark (closing c) ≡ token.Mark 44 = head_of _ _ from to end m h in
    let same : closing c ≡ 44 = cc in
    true≢false (sym (eq-eqb (closing c) 44 same) ∙ closing_comma c)

mutual
  -- a value, and values, are read in one way
  pub one_value : (v w : WrittenValue) (from to end : List ScriptToken) → value v from to → value w from end → (plain_written v ≡ plain_written w) × (to ≡ end)
  one_value (written.Atom a) (written.Atom b) from to end h k = let e = one_single atom_of a b from to end h k in (ap written.Atom e.0, e.1)
  one_value (written.Struct vs) (written.Struct ws) from to end h k =
      let P : List ScriptToken → Type 0 = λ l. listed bracket.Curly vs l to in
      let e = one_listed bracket.Curly vs ws k.0 to end (subst P (tail_of _ _ from h.0 k.0 h.1 k.1) h.2) k.2 in
      (ap written.Struct e.0, e.1)
  one_value (written.Array vs) (written.Array ws) from to end h k =
      let P : List ScriptToken → Type 0 = λ l. listed bracket.Square vs l to in
      let e = one_listed bracket.Square vs ws k.0 to end (subst P (tail_of _ _ from h.0 k.0 h.1 k.1) h.2) k.2 in
      (ap written.Array e.0, e.1)
  one_value (Union' m _ v) (Union' n _ w) from to end h k =
      let P : List ScriptToken → Type 0 = λ l. value v l to in
      let e = one_value v w k.0 to end (subst P (tail_of _ _ from h.0 k.0 h.1 k.1) h.2) k.2 in
      let i : token.Index m ≡ token.Index n = head_of _ _ from h.0 k.0 h.1 k.1 in
      let same : m ≡ n = cc in
      (ap (λ x. Union' x one_box (plain_written v)) same ∙ ap (λ x. Union' n one_box x) e.0, e.1)
  one_value (Held' _ v) (Held' _ w) from to end h k =
      let P : List ScriptToken → Type 0 = λ l. value v l to in
      let e = one_value v w k.0 to end (subst P (tail_of _ _ from h.0 k.0 h.1 k.1) h.2) k.2 in
      (ap (λ x. Held' one_box x) e.0, e.1)
  one_value v w from to end h k =
      absurd (let e : begin_for v ≡ begin_for w = sym (value_begin v from to h) ∙ value_begin w from end k in let no : ⊥ = cc in no)

  pub one_listed : (c : Bracket) (vs ws : WrittenValues) (from to end : List ScriptToken) → listed c vs from to → listed c ws from end → (plain_values vs ≡ plain_values ws) × (to ≡ end)
  one_listed c values.Nothing values.Nothing from to end h k = (refl, tail_of _ _ from to end h k)
  one_listed c values.Nothing (First' _ w _ ws) from to end h k = absurd (closing_no_value c w from to k.0 h k.1)
  one_listed c (First' _ v _ vs) values.Nothing from to end h k = absurd (closing_no_value c v from end h.0 k h.1)
  one_listed c (First' _ v _ vs) (First' _ w _ ws) from to end h k =
      let e = one_value v w from h.0 k.0 h.1 k.1 in
      let P : List ScriptToken → Type 0 = λ l. more c vs l to in
      let f = one_more c vs ws k.0 to end (subst P e.1 h.2) k.2 in
      (ap (λ x. First' one_box x one_box (plain_values vs)) e.0 ∙ ap (λ x. First' one_box (plain_written w) one_box x) f.0, f.1)

  pub one_more : (c : Bracket) (vs ws : WrittenValues) (from to end : List ScriptToken) → more c vs from to → more c ws from end → (plain_values vs ≡ plain_values ws) × (to ≡ end)
  one_more c values.Nothing values.Nothing from to end h k = (refl, tail_of _ _ from to end h k)
  one_more c values.Nothing (First' _ w _ ws) from to end h k = absurd (closing_no_comma c from to k.0 h k.1)
  one_more c (First' _ v _ vs) values.Nothing from to end h k = absurd (closing_no_comma c from end h.0 k h.1)
  one_more c (First' _ v _ vs) (First' _ w _ ws) from to end h k =
      let Q : List ScriptToken → Type 0 = λ l. value v l h.2.0 in
      let e = one_value v w k.0 h.2.0 k.2.0 (subst Q (tail_of _ _ from h.0 k.0 h.1 k.1) h.2.1) k.2.1 in
      let P : List ScriptToken → Type 0 = λ l. more c vs l to in
      let f = one_more c vs ws k.2.0 to end (subst P e.1 h.2.2) k.2.2 in
      (ap (λ x. First' one_box x one_box (plain_values vs)) e.0 ∙ ap (λ x. First' one_box (plain_written w) one_box x) f.0, f.1)
