-- Marks on the first and last bytes of the texts of a table.
use Rattle.std.specs.Prelude.{◌≡◌, ℕ, ◌+◌, ◌-◌, Bool, true, false, List, [], length, slice_index, slice_index_or}
use Rattle.std.specs.Borrow.{Bor}
use Rattle.std.specs.declared.alloc.Global.{Global}
use Rattle.std.specs.declared.vec.Vec.{Vec}
use Rattle.indexmap.specs.IndexMap.{IndexMap}
use Rattle.name_table.specs.declared.decl.DeclId.{DeclId}
use Rattle.name_table.specs.Rows.{row_of}

-- the sum of a text's first and last bytes
abbrev pub ends_of : List ℕ → ℕ
ends_of text = slice_index text 0 + slice_index text (length text - 1)

-- nothing is listed under a text whose ends are not marked
abbrev pub AreEnds : {S : Type 0} → IndexMap (Bor (List ℕ)) (Vec DeclId Global) S → List Bool → Type 0
AreEnds rows marks = (text : List ℕ) → slice_index_or marks (ends_of text) true ≡ false → row_of rows text ≡ []
