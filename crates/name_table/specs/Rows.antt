-- The declarations of a program that are listed under each text.
use Rattle.std.specs.Prelude.{◌≡◌, ℕ, ◌+◌, Bool, ◌&&◌, ◌||◌, ◌==◌, not, List, [], ◌∷◌, ◌++◌, map, filter, Option, Some, None, unwrap_or, option_map}
use Rattle.std.specs.List.{list_any, before_first}
use Rattle.std.specs.Str.{bytes_eq}
use Rattle.std.specs.Borrow.{Bor}
use Rattle.std.specs.declared.alloc.Global.{Global}
use Rattle.std.specs.declared.vec.Vec.{Vec}
use Rattle.indexmap.specs.IndexMap.{IndexMap, get_by}
use Rattle.ipdl_base.specs.Words.{short_name}
use Rattle.ipdl_syntax.specs.declared.program.Entry.{Entry}
use Rattle.ipdl_syntax.specs.declared.tree.ProtocolDecl.{ProtocolDecl}
use Rattle.name_table.specs.declared.decl.DeclId.{DeclId}
use Rattle.name_table.specs.declared.decl.DeclId.TheVariants.{Using, Struct, Union, Protocol}

-- a list of full names as declarations: the index of each in the list, counted from this one on, is its number
abbrev pub numbered : (ℕ → DeclId) → ℕ → List (List ℕ) → List (DeclId × List ℕ)
numbered make place [] = []
numbered make place (full ∷ rest) = (make place, full) ∷ numbered make (place + 1) rest

abbrev pub protocol_in : ℕ → Option ProtocolDecl → List (DeclId × List ℕ)
protocol_in file None = []
protocol_in file (Some p) = (Protocol file, p.full) ∷ []

-- the declarations of the file of this number, in order
abbrev pub declared_in : ℕ → Entry → List (DeclId × List ℕ)
declared_in file entry =
    numbered (Using file) 0 (map (λ u. u.full) entry.unit.usings)
    ++ (numbered (Struct file) 0 (map (λ s. s.full) entry.unit.structs)
    ++ (numbered (Union file) 0 (map (λ u. u.full) entry.unit.unions)
    ++ protocol_in file entry.unit.protocol))

-- the declarations of the files from this number on, in order
abbrev pub declared_from : ℕ → List Entry → List (DeclId × List ℕ)
declared_from file [] = []
declared_from file (entry ∷ rest) = declared_in file entry ++ declared_from (file + 1) rest

-- a full name is listed under the text before its argument, and if it has no argument under its short name too
abbrev pub is_listed_under : List ℕ → List ℕ → Bool
is_listed_under text full = bytes_eq text (before_first (λ b. b == 60) full) || (not (list_any (λ b. b == 60) full) && bytes_eq text (short_name full))

-- the declarations that are listed under a text
abbrev pub listed_under : List ℕ → List (DeclId × List ℕ) → List DeclId
listed_under text all = map (λ p. p.0) (filter (λ p. is_listed_under text p.1) all)

-- the rows of a table from texts to declarations

-- the declarations that are listed under a text; no declarations if the table lacks the text
abbrev pub row_of : {S : Type 0} → IndexMap (Bor (List ℕ)) (Vec DeclId Global) S → List ℕ → List DeclId
row_of rows text = unwrap_or (option_map (λ row. row.items) (get_by (λ k. bytes_eq text k.now) rows)) []

-- these declarations were listed after the earlier ones
abbrev pub Lists : {S : Type 0} → List (DeclId × List ℕ) → IndexMap (Bor (List ℕ)) (Vec DeclId Global) S → IndexMap (Bor (List ℕ)) (Vec DeclId Global) S → Type 0
Lists these old new = (text : List ℕ) → row_of new text ≡ row_of old text ++ listed_under text these

-- all declarations of a program are listed
abbrev pub AreRows : {S : Type 0} → List Entry → IndexMap (Bor (List ℕ)) (Vec DeclId Global) S → Type 0
AreRows program rows = (text : List ℕ) → row_of rows text ≡ listed_under text (declared_from 0 program)
