-- The top of a file is that of every schema that is the same up to boxes.
use Rattle.std.proofs.Common.{◌≡◌, ℕ, ◌+◌, Bool, cond, List, [], ◌∷◌, map, refl, sym, ◌∙◌, ap}
use Rattle.std.specs.List.{position_or_len}
use Rattle.ipdl_base.specs.declared.schema.ProtocolRow.{ProtocolRow}
use Rattle.ipdl_base.specs.declared.schema.Schema.{Schema}
use Rattle.program_schema.specs.Laws.{plain_protocol_row, plain_schema}
use Rattle.ipdl_top.specs.Waits.{IsTop, bears_name}
use Rattle.ipdl_top.proofs.Tops.{position-cons}

-- the place of the first that passes, if all are as plain
place_alike : (p : ProtocolRow → Bool) → ((row : ProtocolRow) → p (plain_protocol_row row) ≡ p row) → (rows : List ProtocolRow) → position_or_len p (map plain_protocol_row rows) ≡ position_or_len p rows
place_alike p blind [] = refl
place_alike p blind (row ∷ rows) =
    position-cons p (plain_protocol_row row) (map plain_protocol_row rows) ∙ ap (λ (b : Bool). cond b 0 (1 + position_or_len p (map plain_protocol_row rows))) (blind row)
    ∙ ap (λ (n : ℕ). cond (p row) 0 (1 + n)) (place_alike p blind rows) ∙ sym (position-cons p row rows)

-- the top of a file
pub one_top : (file : List ℕ) (a b : Schema) → plain_schema a ≡ plain_schema b → (top other : ℕ) → IsTop file a top → IsTop file b other → top ≡ other
one_top file a b same top other x y =
    sym x.first ∙ sym (place_alike (bears_name file) (λ row. refl) a.protocols) ∙ ap (λ (s : Schema). position_or_len (bears_name file) s.protocols) same
    ∙ place_alike (bears_name file) (λ row. refl) b.protocols ∙ y.first
