-- A struct or union is defined exactly if its node is derived.
use Rattle.std.proofs.Common.{◌≡◌, ℕ, List, [], Option, Some, None, inl, inr, refl, sym, ap, subst, ◌∙◌, arith, option_map}
use Rattle.std.specs.Prelude.{slice_get, option_and_then}
use Rattle.std.specs.List.{Contains}
use Rattle.std.proofs.lemmas.Option.{none-some, same_Some}
use Rattle.ipdl_syntax.specs.declared.program.Entry.{Entry}
use Rattle.ipdl_syntax.specs.declared.tree.Base.{Base, Named, Unique'}
use Rattle.ipdl_syntax.specs.declared.tree.Param.{Param}
use Rattle.ipdl_syntax.specs.declared.tree.StructDecl.{StructDecl}
use Rattle.ipdl_syntax.specs.declared.tree.TypeSpec.{TypeSpec}
use Rattle.ipdl_syntax.specs.declared.tree.UnionDecl.{UnionDecl}
use Rattle.least_fixed_points.specs.Derived.{IsDerived, all as derived_all, one as derived_one}
use Rattle.least_fixed_points.specs.declared.nodes.Need.TheVariants.{All, One}
use Rattle.least_fixed_points.specs.declared.nodes.Node.{Node}
use Rattle.name_table.specs.declared.decl.DeclId.{DeclId}
use Rattle.name_table.specs.declared.decl.DeclId.TheVariants.{Builtin, Using, Struct, Union, Protocol, Endpoint}
use Rattle.name_table.specs.declared.decl.Found.{Found}
use Rattle.name_table.specs.declared.decl.Found.TheVariants as found
use Rattle.name_table.specs.Decls.{FindsOne, struct_of, union_of}
use Rattle.name_table.specs.Finds.{Finds, Counts}
use Rattle.name_table.proofs.Seeing.{sees_shown}
use Rattle.type_rules.specs.Compounds.{NumberedType, struct as the_struct, union as the_union, IsDefinedCompound, number_of, number_found, AllNumbered}
use Rattle.type_rules.specs.Defined.{IsCompound, IsDefined, loose, atom, struct, union, inside}
use Rattle.type_rules.specs.Parts.{IsPart, IsFree, IsNodeOf, AreNodes}
use Rattle.type_rules.specs.declared.compounds.FileNumbers.{FileNumbers}
use Rattle.type_rules.proofs.Lists.{any_of_map, any_to_map, contains_map}

-- What is found is in the program

inner_there : {E X Y : Type 0} (f : E → Option X) (g : X → Y) (o : Option E) (y : Y) → option_and_then (λ e. option_map g (f e)) o ≡ Some y → (x : X) × (option_and_then f o ≡ Some x)
inner_there {E} {X} {Y} f g None y h = absurd (none-some y h)
inner_there {E} {X} {Y} f g (Some e) y h = go (f e) h
  where
    go : (o : Option X) → option_map g o ≡ Some y → (x : X) × (o ≡ Some x)
    go None h = absurd (none-some y h)
    go (Some x) h = (x, refl)

struct_there : (program : List Entry) (file : ℕ) (name : List ℕ) (argument : Option (List ℕ)) (other place : ℕ) → FindsOne program file name argument (Struct other place) → (s : StructDecl) × (struct_of program other place ≡ Some s)
struct_there program file name argument other place one =
    inner_there (λ (e : Entry). slice_get e.unit.structs place) (λ (s : StructDecl). s.full) (slice_get program other) one.0.0 (sees_shown program one.0.1).1

union_there : (program : List Entry) (file : ℕ) (name : List ℕ) (argument : Option (List ℕ)) (other place : ℕ) → FindsOne program file name argument (Union other place) → (u : UnionDecl) × (union_of program other place ≡ Some u)
union_there program file name argument other place one =
    inner_there (λ (e : Entry). slice_get e.unit.unions place) (λ (u : UnionDecl). u.full) (slice_get program other) one.0.0 (sees_shown program one.0.1).1

-- Bases

free_name : (program : List Entry) (all : List NumberedType) (files : List FileNumbers) → AllNumbered program all files → (file : ℕ) (name : List ℕ) (argument : Option (List ℕ)) (finds : Found) → Counts (Finds program file name argument) finds → number_found files finds ≡ None → IsDefined program file (Named name argument)
free_name program all files numbered file name argument found.None counts none = loose (λ d one. counts d one.0)
free_name program all files numbered file name argument (found.Many a b) counts none = loose (λ d one. counts.2 (one.1 a counts.0 ∙ sym (one.1 b counts.1)))
free_name program all files numbered file name argument (found.One (Struct other place)) counts none =
    let s = struct_there program file name argument other place counts in
    let n = numbered.structs other place s.0 s.1 in
    absurd (none-some n.0 (sym none ∙ n.1))
free_name program all files numbered file name argument (found.One (Union other place)) counts none =
    let u = union_there program file name argument other place counts in
    let n = numbered.unions other place u.0 u.1 in
    absurd (none-some n.0 (sym none ∙ n.1))
free_name program all files numbered file name argument (found.One (Builtin type)) counts none = atom (Builtin type) counts (λ x. x)
free_name program all files numbered file name argument (found.One (Using other place)) counts none = atom (Using other place) counts (λ x. x)
free_name program all files numbered file name argument (found.One (Protocol other)) counts none = atom (Protocol other) counts (λ x. x)
free_name program all files numbered file name argument (found.One (Endpoint other managed)) counts none = atom (Endpoint other managed) counts (λ x. x)

-- a base without a number is defined
free_defined : (program : List Entry) (all : List NumberedType) (files : List FileNumbers) → AllNumbered program all files → (file : ℕ) (base : Base) → IsFree program files file base → IsDefined program file base
free_defined program all files numbered file (Named name argument) (finds, counts, none) = free_name program all files numbered file name argument finds counts none
free_defined program all files numbered file (Unique' at nullable inner after place) free = inside (free_defined program all files numbered file inner free)

part_name : (program : List Entry) (all : List NumberedType) (files : List FileNumbers) → AllNumbered program all files → (file : ℕ) (name : List ℕ) (argument : Option (List ℕ)) (n : ℕ) (d : DeclId) → FindsOne program file name argument d → number_of files d ≡ Some n
    → (c : NumberedType) × (slice_get all n ≡ Some c) × (IsDefinedCompound program c → IsDefined program file (Named name argument))
part_name program all files numbered file name argument n (Struct other place) one at =
    let s = struct_there program file name argument other place one in
    let m = numbered.structs other place s.0 s.1 in
    let same : m.0 ≡ n = same_Some m.0 n (sym m.1 ∙ at) in
    (the_struct other s.0, ap (slice_get all) (sym same) ∙ m.2, λ h. struct other place s.0 one s.1 h)
part_name program all files numbered file name argument n (Union other place) one at =
    let u = union_there program file name argument other place one in
    let m = numbered.unions other place u.0 u.1 in
    let same : m.0 ≡ n = same_Some m.0 n (sym m.1 ∙ at) in
    (the_union other u.0, ap (slice_get all) (sym same) ∙ m.2, λ h. union other place u.0 h.0 one u.1 h.1 h.2)
part_name program all files numbered file name argument n (Builtin type) one at = absurd (none-some n at)
part_name program all files numbered file name argument n (Using other place) one at = absurd (none-some n at)
part_name program all files numbered file name argument n (Protocol other) one at = absurd (none-some n at)
part_name program all files numbered file name argument n (Endpoint other managed) one at = absurd (none-some n at)

-- a base with a number is defined if the struct or union of this number is
part_defined : (program : List Entry) (all : List NumberedType) (files : List FileNumbers) → AllNumbered program all files → (file : ℕ) (base : Base) (n : ℕ) → IsPart program files file base n
    → (c : NumberedType) × (slice_get all n ≡ Some c) × (IsDefinedCompound program c → IsDefined program file base)
part_defined program all files numbered file (Named name argument) n (d, one, at) = part_name program all files numbered file name argument n d one at
part_defined program all files numbered file (Unique' at nullable inner after place) n part =
    let t = part_defined program all files numbered file inner n part in
    (t.0, t.1, λ h. inside (t.2 h))

-- Lists

none_in_nothing : (l : List ℕ) (n : ℕ) → l ≡ [] → ¬ Contains l n
none_in_nothing l n empty h = let P : List ℕ → Type 0 = λ l. Contains l n in let k = subst P empty h in let x : ⊥ = omega (arith, k.1) in x

all_or_one : (node : Node) → node.need ≡ All → node.need ≡ One → ⊥
all_or_one node a b = let e : All ≡ One = sym a ∙ b in cc

-- From derivations of nodes to definedness

from_all : (program : List Entry) (all : List NumberedType) (files : List FileNumbers) → AllNumbered program all files → (c : NumberedType) (node : Node) → IsNodeOf program files c node → node.need ≡ All
    → ((n : ℕ) → Contains node.parts.items n → (d : NumberedType) → slice_get all n ≡ Some d → IsDefinedCompound program d) → IsDefinedCompound program c
from_all program all files numbered (the_struct file s) node (parts, are, is) need ih =
    λ field contains. elim (are.each field.spec.base (contains_map (λ (f : Param). f.spec.base) s.fields field contains)) [
      | inl free ↦ free_defined program all files numbered file field.spec.base free
      | inr p ↦ (
          let t = part_defined program all files numbered file field.spec.base p.0 p.1 in
          let Q : List ℕ → Type 0 = λ l. Contains l p.0 in
          t.2 (ih p.0 (subst Q (sym is.parts_are) p.2) t.0 t.1)
          )
    ]
from_all program all files numbered (the_union file u) node (parts, are, inl is) need ih =
    let h = any_of_map (λ (x : TypeSpec). x.base) (IsFree program files file) u.components (are.free.0 is.0) in
    (h.1, (h.0, h.2, h.3), free_defined program all files numbered file h.1.base h.4)
from_all program all files numbered (the_union file u) node (parts, are, inr is) need ih = absurd (all_or_one node need is.1)

from_one : (program : List Entry) (all : List NumberedType) (files : List FileNumbers) → AllNumbered program all files → (c : NumberedType) (node : Node) → IsNodeOf program files c node → node.need ≡ One → (n : ℕ) → Contains node.parts.items n
    → ((d : NumberedType) → slice_get all n ≡ Some d → IsDefinedCompound program d) → IsDefinedCompound program c
from_one program all files numbered (the_struct file s) node (parts, are, is) need n contains ih = absurd (all_or_one node is.need need)
from_one program all files numbered (the_union file u) node (parts, are, inl is) need n contains ih = absurd (all_or_one node is.1 need)
from_one program all files numbered (the_union file u) node (parts, are, inr is) need n contains ih =
    let Q : List ℕ → Type 0 = λ l. Contains l n in
    let h = any_of_map (λ (x : TypeSpec). x.base) (λ base. IsPart program files file base n) u.components (are.only n (subst Q is.2 contains)) in
    let t = part_defined program all files numbered file h.1.base n h.4 in
    (h.1, (h.0, h.2, h.3), t.2 (ih t.0 t.1))

-- the struct or union of a derived node is defined
pub derived_defined : (program : List Entry) (all : List NumberedType) (files : List FileNumbers) (nodes : List Node) → AllNumbered program all files → AreNodes program files all nodes → {k : ℕ} → IsDerived nodes k → (c : NumberedType) → slice_get all k ≡ Some c → IsDefinedCompound program c
derived_defined program all files nodes numbered are (derived_all {k} node at need parts) c here =
    let n = are.each k c here in
    let same : n.0 ≡ node = same_Some n.0 node (sym n.1 ∙ at) in
    let Q : Node → Type 0 = IsNodeOf program files c in
    from_all program all files numbered c node (subst Q same n.2) need (λ m contains d there. derived_defined program all files nodes numbered are (parts m contains) d there)
derived_defined program all files nodes numbered are (derived_one {k} node part at need contains step) c here =
    let n = are.each k c here in
    let same : n.0 ≡ node = same_Some n.0 node (sym n.1 ∙ at) in
    let Q : Node → Type 0 = IsNodeOf program files c in
    from_one program all files numbered c node (subst Q same n.2) need part contains (λ d there. derived_defined program all files nodes numbered are step d there)

-- From definedness to derivations of nodes

struct_derived : (program : List Entry) (files : List FileNumbers) (nodes : List Node) (k file : ℕ) (s : StructDecl) (node : Node) → slice_get nodes k ≡ Some node → IsNodeOf program files (the_struct file s) node
    → ((field : Param) → Contains s.fields field → (n : ℕ) → IsPart program files file field.spec.base n → IsDerived nodes n) → IsDerived nodes k
struct_derived program files nodes k file s node at (parts, are, is) ih =
    derived_all node at is.need (λ n contains.
    let Q : List ℕ → Type 0 = λ l. Contains l n in
    let h = any_of_map (λ (f : Param). f.spec.base) (λ base. IsPart program files file base n) s.fields (are.only n (subst Q is.parts_are contains)) in
    ih h.1 (h.0, h.2, h.3) n h.4)

union_derived : (program : List Entry) (files : List FileNumbers) (nodes : List Node) (k file : ℕ) (u : UnionDecl) (node : Node) (component : TypeSpec) → slice_get nodes k ≡ Some node → IsNodeOf program files (the_union file u) node → Contains u.components component
    → ((n : ℕ) → IsPart program files file component.base n → IsDerived nodes n) → IsDerived nodes k
union_derived program files nodes k file u node component at (parts, are, inl is) contains ih = derived_all node at is.1 (λ n h. absurd (none_in_nothing node.parts.items n is.2 h))
union_derived program files nodes k file u node component at (parts, are, inr is) contains ih =
    elim (are.each component.base (contains_map (λ (x : TypeSpec). x.base) u.components component contains)) [
      | inl free ↦ absurd (is.0 (are.free.1 (any_to_map (λ (x : TypeSpec). x.base) (IsFree program files file) u.components (contains.0, component, contains.1, contains.2, free))))
      | inr p ↦ (let Q : List ℕ → Type 0 = λ l. Contains l p.0 in derived_one node p.0 at is.1 (subst Q (sym is.2) p.2) (ih p.0 p.1))
    ]

no_number : (files : List FileNumbers) (d : DeclId) (n : ℕ) → ¬ IsCompound d → number_of files d ≡ Some n → ⊥
no_number files (Struct other place) n not at = not (tt {0})
no_number files (Union other place) n not at = not (tt {0})
no_number files (Builtin type) n not at = none-some n at
no_number files (Using other place) n not at = none-some n at
no_number files (Protocol other) n not at = none-some n at
no_number files (Endpoint other managed) n not at = none-some n at

-- the node of what a defined base finds is derived
part_derived : (program : List Entry) (all : List NumberedType) (files : List FileNumbers) (nodes : List Node) → AllNumbered program all files → AreNodes program files all nodes → {file : ℕ} {base : Base} → IsDefined program file base → (n : ℕ) → IsPart program files file base n → IsDerived nodes n
part_derived program all files nodes numbered are (loose none) n (d, one, at) = absurd (none d one)
part_derived program all files nodes numbered are (atom d one not) n (e, other, at) = absurd (no_number files d n not (ap (number_of files) (other.1 d one.0) ∙ at))
part_derived program all files nodes numbered are (struct other place s one of fields) n (e, two, at) =
    let m = numbered.structs other place s of in
    let same : m.0 ≡ n = same_Some m.0 n (sym m.1 ∙ ap (number_of files) (two.1 (Struct other place) one.0) ∙ at) in
    let node = are.each n (the_struct other s) (ap (slice_get all) (sym same) ∙ m.2) in
    struct_derived program files nodes n other s node.0 node.1 node.2 (λ field contains k part. part_derived program all files nodes numbered are (fields field contains) k part)
part_derived program all files nodes numbered are (union other place u component one of contains defined) n (e, two, at) =
    let m = numbered.unions other place u of in
    let same : m.0 ≡ n = same_Some m.0 n (sym m.1 ∙ ap (number_of files) (two.1 (Union other place) one.0) ∙ at) in
    let node = are.each n (the_union other u) (ap (slice_get all) (sym same) ∙ m.2) in
    union_derived program files nodes n other u node.0 component node.1 node.2 contains (λ k part. part_derived program all files nodes numbered are defined k part)
part_derived program all files nodes numbered are (inside defined) n part = part_derived program all files nodes numbered are defined n part

-- the node of a defined struct or union is derived
pub defined_derived : (program : List Entry) (all : List NumberedType) (files : List FileNumbers) (nodes : List Node) → AllNumbered program all files → AreNodes program files all nodes → (k : ℕ) (c : NumberedType) → slice_get all k ≡ Some c → IsDefinedCompound program c → IsDerived nodes k
defined_derived program all files nodes numbered are k (the_struct file s) here defined =
    let node = are.each k (the_struct file s) here in
    struct_derived program files nodes k file s node.0 node.1 node.2 (λ field contains n part. part_derived program all files nodes numbered are (defined field contains) n part)
defined_derived program all files nodes numbered are k (the_union file u) here (component, contains, defined) =
    let node = are.each k (the_union file u) here in
    union_derived program files nodes k file u node.0 component node.1 node.2 contains (λ n part. part_derived program all files nodes numbered are defined n part)
