-- A program has one numbering, and in it nothing has two numbers.
use Rattle.std.proofs.Common.{◌≡◌, ◌∙◌, ℕ, List, Option, Some, None, IsSome, slice_get, refl, sym, ap, Ordering, Less}
use Rattle.std.specs.Cmp.{IsTotalOrder}
use Rattle.std.specs.Ordering.{nat_cmp, ordering_reverse, ordering_then}
use Rattle.std.proofs.lemmas.Cmp.{nat_cmp_total, nat_list_cmp_total, on_total, then_total}
use Rattle.ipdl_base.specs.declared.finding.Place.{Place}
use Rattle.ipdl_syntax.specs.declared.program.Entry.{Entry}
use Rattle.findings.specs.Order.{place_cmp}
use Rattle.findings.proofs.Order.{place_total}
use Rattle.name_table.specs.declared.decl.DeclId.{DeclId}
use Rattle.name_table.specs.Decls.{protocol_of}
use Rattle.program_schema.specs.Numbers.{IsNamedBefore, IsDeclaredBefore, AreProtocolFiles, AreTypes, Numbering, place_of, list_number, index_of}
use Rattle.program_schema.proofs.Lists.{in_place, one_place, same_ordered}

pub some_of : {X : Type 0} (o : Option X) → IsSome o → (x : X) × (o ≡ Some x)
some_of None is = cc
some_of (Some x) is = (x, refl)

pub not_both : {K : Type 0} {R : K → K → Ordering} → IsTotalOrder R → (x y : K) → R x y ≡ Less → ¬ (R y x ≡ Less)
not_both total x y before after =
    let turned : Less ≡ ordering_reverse Less = sym before ∙ total.antisymm x y ∙ ap ordering_reverse after in
    cc

-- files by the names of their protocols
files_apart : (program : List Entry) (a b : ℕ) → IsSome (protocol_of program a) → IsSome (protocol_of program b) → IsNamedBefore program a b → ¬ IsNamedBefore program b a
files_apart program a b is other before after =
    let p = some_of (protocol_of program a) is in
    let q = some_of (protocol_of program b) other in
    not_both nat_list_cmp_total p.0.full q.0.full (before p.0 q.0 p.1 q.1) (after q.0 p.0 q.1 p.1)

pub one_files : (program : List Entry) (xs ys : List ℕ) → AreProtocolFiles program xs → AreProtocolFiles program ys → xs ≡ ys
one_files program xs ys p q =
    same_ordered (IsNamedBefore program) (λ file. IsSome (protocol_of program file)) (files_apart program) xs ys p.ordered q.ordered
    (λ z h. (p.exact z).0 h) (λ z h. (q.exact z).1 ((p.exact z).0 h)) (λ z h. (p.exact z).1 ((q.exact z).0 h))

pub one_number_of_file : (program : List Entry) (files : List ℕ) → AreProtocolFiles program files → (a b file : ℕ) → slice_get files a ≡ Some file → slice_get files b ≡ Some file → a ≡ b
one_number_of_file program files are a b file p q =
    let is = (are.exact file).0 (in_place files a file p) in
    one_place (IsNamedBefore program) files file a b are.ordered (λ before. files_apart program file file is is before before) p q

-- the order of structs and unions by their places
declared_cmp : Place × DeclId → Place × DeclId → Ordering
declared_cmp a b = ordering_then (place_cmp a.0 b.0) (ordering_then (nat_cmp (list_number a.1) (list_number b.1)) (nat_cmp (index_of a.1) (index_of b.1)))

declared_total : IsTotalOrder declared_cmp
unfolding declared_cmp
declared_total = then_total (on_total (λ (x : Place × DeclId). x.0) place_total) (then_total (on_total (λ (x : Place × DeclId). list_number x.1) nat_cmp_total) (on_total (λ (x : Place × DeclId). index_of x.1) nat_cmp_total))

types_apart : (program : List Entry) (d e : DeclId) → IsSome (place_of program d) → IsSome (place_of program e) → IsDeclaredBefore program d e → ¬ IsDeclaredBefore program e d
unfolding declared_cmp
types_apart program d e is other before after =
    let p = some_of (place_of program d) is in
    let q = some_of (place_of program e) other in
    not_both declared_total (p.0, d) (q.0, e) (before p.0 q.0 p.1 q.1) (after q.0 p.0 q.1 p.1)

pub one_types : (program : List Entry) (xs ys : List DeclId) → AreTypes program xs → AreTypes program ys → xs ≡ ys
one_types program xs ys p q =
    same_ordered (IsDeclaredBefore program) (λ d. IsSome (place_of program d)) (types_apart program) xs ys p.ordered q.ordered
    (λ z h. (p.exact z).0 h) (λ z h. (q.exact z).1 ((p.exact z).0 h)) (λ z h. (p.exact z).1 ((q.exact z).0 h))

pub one_number_of_type : (program : List Entry) (types : List DeclId) → AreTypes program types → (a b : ℕ) (d : DeclId) → slice_get types a ≡ Some d → slice_get types b ≡ Some d → a ≡ b
one_number_of_type program types are a b d p q =
    let is = (are.exact d).0 (in_place types a d p) in
    one_place (IsDeclaredBefore program) types d a b are.ordered (λ before. types_apart program d d is is before before) p q

-- In a numbering nothing has two numbers.
pub record HasOneNumberEach (n : Numbering) : Type 0 where
  pub files : (a b file : ℕ) → slice_get n.files a ≡ Some file → slice_get n.files b ≡ Some file → a ≡ b
  pub types : (a b : ℕ) (d : DeclId) → slice_get n.types a ≡ Some d → slice_get n.types b ≡ Some d → a ≡ b

pub one_number_each : (program : List Entry) (n : Numbering) → AreProtocolFiles program n.files → AreTypes program n.types → HasOneNumberEach n
one_number_each program n files types = record {
  files = one_number_of_file program n.files files;
  types = one_number_of_type program n.types types;
}

abbrev numbering_of : List ℕ → List DeclId → Numbering
numbering_of files types = record { files = files; types = types }

pub one_numbering : (program : List Entry) (n m : Numbering) → AreProtocolFiles program n.files → AreTypes program n.types → AreProtocolFiles program m.files → AreTypes program m.types → n ≡ m
one_numbering program n m files types others there =
    ap (λ xs. numbering_of xs n.types) (one_files program n.files m.files files others) ∙ ap (numbering_of m.files) (one_types program n.types m.types types there)
