-- A worked program: a protocol file that includes a header, which is in a ring with another one, and a protocol file that nothing includes.
use Rattle.std.proofs.Common.{◌≡◌, inl, inr, ℕ, zero, suc, List, [], ◌∷◌, Option, Some, None, codes, refl, false, arith}
use Rattle.std.specs.List.{Contains}
use Rattle.ipdl_base.specs.declared.builtin.Builtin.TheVariants as builtin
use Rattle.ipdl_base.specs.declared.finding.Place.{Place}
use Rattle.ipdl_base.specs.declared.kinds.Semantics.TheVariants.{Async}
use Rattle.ipdl_syntax.specs.declared.program.Entry.{Entry}
use Rattle.ipdl_syntax.specs.declared.tree.ProtocolDecl.{ProtocolDecl}
use Rattle.ipdl_syntax.specs.declared.tree.StructDecl.{StructDecl}
use Rattle.ipdl_syntax.specs.declared.tree.Using.{Using as Foreign}
use Rattle.name_table.specs.declared.decl.DeclId.TheVariants.{Builtin, Struct, Protocol, Endpoint}
use Rattle.name_table.specs.Finds.{Finds}
use Rattle.name_table.specs.Visible.{Sees, own, protocol, header}
use Rattle.name_table.proofs.Seeing.{sees_shown}

abbrev here : Place
here = record { file = 0; line = 1; column = 1 }

abbrev a_using : List ℕ → Foreign
a_using full = record { full = full; place = here; attributes = [] }

abbrev a_struct : List ℕ → StructDecl
a_struct full = record { full = full; place = here; fields = []; attributes = [] }

abbrev a_protocol : List ℕ → ProtocolDecl
a_protocol full = record { full = full; place = here; semantics = Async; managers = []; manages = []; messages = []; attributes = [] }

abbrev a_file : List ℕ → List ℕ → List Foreign → List StructDecl → Option ProtocolDecl → Entry
a_file key includes usings structs held = record {
  key = key;
  name = key;
  unit = record { includes = []; usings = usings; structs = structs; unions = []; protocol = held };
  includes = includes;
}

-- PA and PB in their files, and the headers H and G, which include one another; PA includes H, and H includes PB
abbrev worked : List Entry
worked =
    a_file (codes "PA.ipdl") (1 ∷ []) [] [] (Some (a_protocol (codes "N::PA")))
    ∷ a_file (codes "H.ipdlh") (2 ∷ 3 ∷ []) (a_using (codes "q::U") ∷ []) [] None
    ∷ a_file (codes "G.ipdlh") (1 ∷ []) (a_using (codes "q::U") ∷ a_using (codes "A<B>") ∷ []) (a_struct (codes "M::S") ∷ []) None
    ∷ a_file (codes "PB.ipdl") [] [] (a_struct (codes "Hidden") ∷ []) (Some (a_protocol (codes "PB")))
    ∷ []

-- the struct in the second header of the ring is seen in the protocol file, and through the ring in the header itself
far_struct : Sees worked 0 (Struct 2 0) (codes "M::S")
far_struct = header {other = 1} (0, omega arith, refl) refl (header {other = 2} (0, omega arith, refl) refl (own (refl, refl)))

round_the_ring : Sees worked 2 (Struct 2 0) (codes "M::S")
round_the_ring = header {other = 1} (0, omega arith, refl) refl (header {other = 2} (0, omega arith, refl) refl (own (refl, refl)))

-- the struct is found by its short name
short : Finds worked 0 (codes "S") None (Struct 2 0)
short = (codes "M::S", far_struct, inr (refl, refl, no_open))
  where
    no_open : ¬ Contains (codes "M::S") 60
    no_open c = elim (apart c) [ ]
      where
        apart : Contains (codes "M::S") 60 → ⊥
        apart (zero, b, e) = let h : 77 ≡ 60 = e in absurd (omega (arith, h))
        apart (suc zero, b, e) = let h : 58 ≡ 60 = e in absurd (omega (arith, h))
        apart (suc (suc zero), b, e) = let h : 58 ≡ 60 = e in absurd (omega (arith, h))
        apart (suc (suc (suc zero)), b, e) = let h : 83 ≡ 60 = e in absurd (omega (arith, h))
        apart (suc (suc (suc (suc k))), b, e) = absurd (omega (arith, b))

-- the protocol that a header includes is seen where the header is included, and its endpoint is found there
far_protocol : Sees worked 0 (Protocol 3) (codes "PB")
far_protocol = header {other = 1} (0, omega arith, refl) refl (protocol {other = 3} (1, omega arith, refl) (refl, refl))

-- the other declarations of that file are not seen: the file is not a header
not_hidden : ¬ Sees worked 0 (Struct 3 0) (codes "Hidden")
not_hidden s = elim (sees_shown worked s).0.1 [ inl same ↦ absurd (omega (arith, same)) | inr is ↦ absurd (wrong is) ]
  where
    wrong : Some (a_protocol (codes "PB")) ≡ None → ⊥
    wrong e = cc

-- a builtin type is found by its full name and by its word, and not with an argument
bytes : Finds worked 3 (codes "mozilla::ipc::ByteBuf") None (Builtin builtin.ByteBuf)
bytes = (refl, inl refl)

bytes_by_word : Finds worked 3 (codes "ByteBuf") None (Builtin builtin.ByteBuf)
bytes_by_word = (refl, inr refl)

-- a bare `Endpoint` finds no endpoint
bare : ¬ Finds worked 0 (codes "Endpoint") None (Endpoint 3 false)
bare h = h.1
