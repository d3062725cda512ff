-- Rows of the files whose protocols a file's protocol names.
use Rattle.std.proofs.Common.{◌≡◌, ℕ, Bool, ◌<◌, List, [], ◌∷◌, ◌++◌, length, Option, Some, None, slice_get, inl, inr, refl, sym, ◌∙◌, ap, subst, arith}
use Rattle.std.specs.Option.{option_and_then, option_map_or}
use Rattle.std.specs.Bool.{Decides}
use Rattle.std.specs.List.{Any}
use Rattle.std.proofs.lemmas.Bool.Decides.{Decides-like}
use Rattle.std.proofs.lemmas.Option.{same_Some, slice_get_within, slice_get_cases}
use Rattle.ipdl_syntax.specs.declared.program.Entry.{Entry}
use Rattle.ipdl_syntax.specs.declared.tree.NameAt.{NameAt}
use Rattle.ipdl_syntax.specs.declared.tree.ProtocolDecl.{ProtocolDecl}
use Rattle.name_table.specs.Decls.{FindsOneProtocol, protocol_of}
use Rattle.name_table.proofs.Places.{read_more}
use Rattle.manager_rules.specs.declared.rows.ManagerRow.{ManagerRow}
use Rattle.manager_rules.specs.declared.side.Relation.{Relation}
use Rattle.manager_rules.specs.declared.side.Relation.TheVariants.{Managers}
use Rattle.manager_rules.specs.Managers.{HasManager}
use Rattle.manager_rules.specs.Rows.{IsRow, AreRows}
use Rattle.manager_rules.specs.Sides.{names_on, names_in, NamesOn, HasBond}

-- the protocol of the entry at a number is that of the file
pub protocol_at : (program : List Entry) (file : ℕ) (entry : Entry) → slice_get program file ≡ Some entry → protocol_of program file ≡ entry.unit.protocol
protocol_at program file entry at = ap (option_and_then (λ (e : Entry). e.unit.protocol)) at

-- a file with a protocol is one of the program
pub protocol_within : (program : List Entry) (file : ℕ) (p : ProtocolDecl) → protocol_of program file ≡ Some p → file < length program
protocol_within program file p there = go (slice_get program file) refl there
  where
    go : (o : Option Entry) → slice_get program file ≡ o → option_and_then (λ e. e.unit.protocol) o ≡ Some p → file < length program
    go None e h = absurd (let x : ⊥ = cc in x)
    go (Some entry) e h = slice_get_within program file entry e

-- a name of an optional protocol is a name of a protocol that is there
some_names : {P : NameAt → Type 0} (side : Relation) (o : Option ProtocolDecl) → Any P (option_map_or (names_on side) o []) → (p : ProtocolDecl) × (o ≡ Some p) × Any P (names_on side p)
some_names side None any = absurd (omega (arith, any.2))
some_names side (Some p) any = (p, refl, any)

names_some : {P : NameAt → Type 0} (side : Relation) (o : Option ProtocolDecl) (p : ProtocolDecl) → o ≡ Some p → Any P (names_on side p) → Any P (option_map_or (names_on side) o [])
names_some {P} side o p e any = let Q : Option ProtocolDecl → Type 0 = λ o. Any P (option_map_or (names_on side) o []) in subst Q (sym e) any

-- the row of the names of an entry's protocol is that of the file
row_like : (side : Relation) (program : List Entry) (file : ℕ) (entry : Entry) (row : ManagerRow) → slice_get program file ≡ Some entry → IsRow (λ other. Any (λ n. FindsOneProtocol program file n.name other) (names_in side entry)) row → IsRow (HasBond side program file) row
row_like side program file entry row at is =
    let Finds : ℕ → NameAt → Type 0 = λ other n. FindsOneProtocol program file n.name other in
    let to : (other : ℕ) → Any (Finds other) (names_in side entry) → HasBond side program file other =
    λ other any. let some = some_names {P = Finds other} side entry.unit.protocol any in record { protocol = some.0; there = protocol_at program file entry at ∙ some.1; names = some.2 } in
    let from : (other : ℕ) → HasBond side program file other → Any (Finds other) (names_in side entry) =
    λ other bond. names_some {P = Finds other} side entry.unit.protocol bond.protocol (sym (protocol_at program file entry at) ∙ bond.there) bond.names in
    record {
      files = λ other. (λ c. to other ((is.files other).0 c), λ h. (is.files other).1 (from other h));
      set = λ other. (λ c. to other ((is.set other).0 c), λ h. (is.set other).1 (from other h));
    }

-- one more row
pub rows_more : (side : Relation) (program : List Entry) (old : List ManagerRow) (file : ℕ) (entry : Entry) (one : ManagerRow) (new : List ManagerRow) → slice_get program file ≡ Some entry → length old ≡ file → new ≡ old ++ one ∷ [] → ((k : ℕ) (row : ManagerRow) → slice_get old k ≡ Some row → IsRow (HasBond side program k) row)
    → IsRow (λ other. Any (λ n. FindsOneProtocol program file n.name other) (names_in side entry)) one → (k : ℕ) (row : ManagerRow) → slice_get new k ≡ Some row → IsRow (HasBond side program k) row
rows_more side program old file entry one new at long e before is k row there =
    elim (read_more old one k row (sym (ap (λ (rows : List ManagerRow). slice_get rows k) e) ∙ there)) [
      | inl h ↦ before k row h
      | inr h ↦ (
          let P : ℕ → Type 0 = λ n. IsRow (HasBond side program n) row in
          let Q : ManagerRow → Type 0 = λ r. IsRow (HasBond side program file) r in
          subst P (sym (h.0 ∙ long)) (subst Q h.1 (row_like side program file entry one at is))
          )
    ]

-- a file without a row names no protocol
pub no_row : (side : Relation) (program : List Entry) (rows : List ManagerRow) (file other : ℕ) → AreRows side program rows → slice_get rows file ≡ None → ¬ HasBond side program file other
no_row side program rows file other are none bond =
    elim (slice_get_cases rows file).1 [
      | inl h ↦ (let e = sym none ∙ h.2 in let x : ⊥ = cc in x)
      | inr h ↦ (let within = protocol_within program file bond.protocol bond.there in omega (arith, within, h.0, are.size))
    ]

-- the managers are the bonds of their relation
pub bond_of : (program : List Entry) (file other : ℕ) → HasManager program file other → HasBond Managers program file other
bond_of program file other h = record { protocol = h.protocol; there = h.there; names = h.names }

pub manager_of : (program : List Entry) (file other : ℕ) → HasBond Managers program file other → HasManager program file other
manager_of program file other h = record { protocol = h.protocol; there = h.there; names = h.names }

-- a file's protocol names another in a relation if there is such a bond
pub bond_names : (side : Relation) (program : List Entry) (file other : ℕ) (p : ProtocolDecl) (told : Bool) → protocol_of program file ≡ Some p → Decides told (HasBond side program file other) → Decides told (NamesOn side program file p other)
bond_names side program file other p told there decides =
    Decides-like told
    (λ bond. let P : ProtocolDecl → Type 0 = λ q. NamesOn side program file q other in subst P (same_Some bond.protocol p (sym bond.there ∙ there)) bond.names)
    (λ names. record { protocol = p; there = there; names = names })
    decides
