-- Rows that are read from the same tokens make the same file.
use Rattle.std.proofs.Common.{◌≡◌, ℕ, List, [], ◌∷◌, ◌++◌, Some, refl, sym, subst}
use Rattle.grammar_laws.specs.Boxes.{unboxed}
use Rattle.grammar_laws.proofs.Heads.{is_end}
use Rattle.grammar_laws.proofs.Settling.{Settles, told, nothing_settles, mark_settles, reserved_settles, word_settles, next_settle, next_given}
use Rattle.grammar_laws.proofs.Protocols.{protocol_settles}
use Rattle.grammar_laws.proofs.Declarations.{include_settles, using_settles, struct_settles, union_settles}
use Rattle.grammar_laws.proofs.Pieces.{Piece, the_include, the_using, the_struct, the_union, the_protocol, opening, closing, Scopes, innermost, around, row, row_unit}
use Rattle.grammar_laws.proofs.Sorts.{sort_of, not_end, same_sort}

-- what follows from two rows: the files that they make are the same, up to where boxes lie
abbrev pub Same : List Piece → List Piece → Type 0
Same one other = unboxed (row_unit one) ≡ unboxed (row_unit other)

-- what follows from two rows that begin with pieces of one sort follows in any case
given_sort : (scopes : Scopes) (one other : List Piece) {Told : Type 0} → (sort_of one ≡ sort_of other → Settles (row scopes one) (row scopes other) is_end Told) → Settles (row scopes one) (row scopes other) is_end Told
given_sort scopes one other f = record {
  settle = λ from to to' d d' b b'.
      (f (same_sort scopes one other from to to' d d' b b')).settle from to to' d d' b b';
}

-- the same row, inside a namespace of an equal name
renamed : (scopes : Scopes) (name other : List ℕ) (one two : List Piece) {Told : Type 0} → name ≡ other → Settles (row ((innermost scopes ++ name ∷ []) ∷ scopes) one) (row ((innermost scopes ++ name ∷ []) ∷ scopes) two) is_end Told → Settles (row ((innermost scopes ++ name ∷ []) ∷ scopes) one) (row ((innermost scopes ++ other ∷ []) ∷ scopes) two) is_end Told
renamed scopes name other one two {Told} e s = subst (λ (x : List ℕ). Settles (row ((innermost scopes ++ name ∷ []) ∷ scopes) one) (row ((innermost scopes ++ x ∷ []) ∷ scopes) two) is_end Told) e s

-- rows whose first pieces are of one sort make the same file
row_by_sort : (scopes : Scopes) (one other : List Piece) → sort_of one ≡ sort_of other → Settles (row scopes one) (row scopes other) is_end (Same one other)
row_by_sort scopes [] [] e = nothing_settles refl
row_by_sort scopes [] (p ∷ other) e = absurd (not_end p (sym e))
row_by_sort scopes (p ∷ one) [] e = absurd (not_end p e)
row_by_sort scopes (the_include i ∷ one) (the_include j ∷ other) e =
    told (λ t i. record (t.1 i) { includes = t.0 i ∷ (t.1 i).includes })
    (next_settle (include_settles i j) (given_sort scopes one other (row_by_sort scopes one other)))
row_by_sort scopes (the_using u ∷ one) (the_using v ∷ other) e =
    told (λ t i. record (t.1 i) { usings = t.0 i ∷ (t.1 i).usings })
    (next_settle (using_settles u v) (given_sort scopes one other (row_by_sort scopes one other)))
row_by_sort scopes (the_struct s ∷ one) (the_struct r ∷ other) e =
    told (λ t i. record (t.1 i) { structs = t.0 i ∷ (t.1 i).structs })
    (next_settle (struct_settles (innermost scopes) s r) (given_sort scopes one other (row_by_sort scopes one other)))
row_by_sort scopes (the_union u ∷ one) (the_union v ∷ other) e =
    told (λ t i. record (t.1 i) { unions = t.0 i ∷ (t.1 i).unions })
    (next_settle (union_settles (innermost scopes) u v) (given_sort scopes one other (row_by_sort scopes one other)))
row_by_sort scopes (the_protocol p ∷ one) (the_protocol q ∷ other) e =
    told (λ t i. record (t.1 i) { protocol = Some (t.0 i) })
    (next_settle (protocol_settles (innermost scopes) p q) (given_sort scopes one other (row_by_sort scopes one other)))
row_by_sort scopes (opening name ∷ one) (opening name' ∷ other) e =
    told (λ t. t.1.1.1)
    (next_settle reserved_settles (next_given word_settles (λ same. next_settle mark_settles (renamed scopes name name' one other same
    (given_sort ((innermost scopes ++ name ∷ []) ∷ scopes) one other (row_by_sort ((innermost scopes ++ name ∷ []) ∷ scopes) one other))))))
row_by_sort scopes (closing ∷ one) (closing ∷ other) e =
    told (λ t. t.1) (next_settle mark_settles (given_sort (around scopes) one other (row_by_sort (around scopes) one other)))
row_by_sort scopes _ _ e = absurd (cc)

-- rows up to the end make the same file
pub row_settles : (scopes : Scopes) (one other : List Piece) → Settles (row scopes one) (row scopes other) is_end (Same one other)
row_settles scopes one other = given_sort scopes one other (row_by_sort scopes one other)
