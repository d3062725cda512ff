-- The types of programs that are alike have the same shapes in a schema.
use Rattle.std.proofs.Common.{◌≡◌, ◌∙◌, ℕ, Bool, List, [], ◌∷◌, sym, subst}
use Rattle.ipdl_base.specs.declared.schema.Shape.{Shape}
use Rattle.ipdl_base.specs.declared.schema.Shape as shape
use Rattle.ipdl_syntax.specs.declared.program.Entry.{Entry}
use Rattle.ipdl_syntax.specs.declared.tree.Base.{Base, Named, Unique'}
use Rattle.ipdl_syntax.specs.declared.tree.Suffix.{Suffix}
use Rattle.ipdl_syntax.specs.declared.tree.Suffix.TheVariants.{Array, Maybe}
use Rattle.ipdl_syntax.specs.declared.tree.TypeSpec.{TypeSpec}
use Rattle.grammar_laws.specs.Boxes.{unboxed_base, unboxed_type}
use Rattle.name_table.specs.declared.decl.DeclId.{DeclId}
use Rattle.name_table.specs.declared.decl.DeclId.TheVariants.{Builtin, Using, Struct, Union, Protocol, Endpoint}
use Rattle.program_schema.specs.Numbers.{Numbering}
use Rattle.program_schema.specs.Shapes.{IsShapeOfDecl, IsSuffixedBy, IsSuffixed, IsUnique, IsShapeOfBase, IsShapeOf}
use Rattle.answer_laws.specs.Programs.{AreProgramsAlike}
use Rattle.answer_laws.proofs.Names.{full_alike, one_alike}
use Rattle.answer_laws.proofs.Written.{SameBase}

-- Suffixes and owned pointers

-- each shape with the one property has the other
abbrev Implies : (Shape → Type 0) → (Shape → Type 0) → Type 0
Implies P Q = (s : Shape) → P s → Q s

suffixed_by : (suffix : Suffix) (P Q : Shape → Type 0) → Implies P Q → Implies (IsSuffixedBy suffix P) (IsSuffixedBy suffix Q)
suffixed_by Array P Q more (shape.Array' at element) is = more element is
suffixed_by Array P Q more _ is = absurd is
suffixed_by Maybe P Q more (shape.Maybe' at held) is = more held is
suffixed_by Maybe P Q more _ is = absurd is

suffixed : (after : List Suffix) (P Q : Shape → Type 0) → Implies P Q → Implies (IsSuffixed P after) (IsSuffixed Q after)
suffixed [] P Q more = more
suffixed (s ∷ rest) P Q more = suffixed rest (IsSuffixedBy s P) (IsSuffixedBy s Q) (suffixed_by s P Q more)

unique : (P Q : Shape → Type 0) → Implies P Q → Implies (IsUnique P) (IsUnique Q)
unique P Q more (shape.Unique' at held) is = more held is
unique P Q more _ is = absurd is

-- Types

module _ (program other : List Entry) (alike : AreProgramsAlike program other) (n : Numbering) where
  of_decl : (nullable : Bool) (d : DeclId) → Implies (IsShapeOfDecl program n nullable d) (IsShapeOfDecl other n nullable d)
  of_decl nullable (Builtin type) (shape.Builtin found) is = is
  of_decl nullable (Builtin type) _ is = absurd is
  of_decl nullable (Using file index) (shape.Using name) is = sym (full_alike program other alike (Using file index)) ∙ is
  of_decl nullable (Using file index) _ is = absurd is
  of_decl nullable (Struct file index) (shape.Named number) is = is
  of_decl nullable (Struct file index) _ is = absurd is
  of_decl nullable (Union file index) (shape.Named number) is = is
  of_decl nullable (Union file index) _ is = absurd is
  of_decl nullable (Protocol file) (shape.Actor number flag) is = is
  of_decl nullable (Protocol file) _ is = absurd is
  of_decl nullable (Endpoint file managed) (shape.Endpoint number flag) is = is
  of_decl nullable (Endpoint file managed) _ is = absurd is

  of_base : (file : ℕ) (nullable : Bool) (b c : Base) → SameBase b c → Implies (IsShapeOfBase program n file nullable b) (IsShapeOfBase other n file nullable c)
  of_base file nullable (Named name argument) (Named word inner) same s is =
      let names : name ≡ word = cc in
      let arguments : argument ≡ inner = cc in
      subst (λ w. IsShapeOfBase other n file nullable (Named w inner) s) names
      (subst (λ a. IsShapeOfBase other n file nullable (Named name a) s) arguments (is.0, one_alike program other alike file name argument is.0 is.1, of_decl nullable is.0 s is.2))
  of_base file nullable (Named name argument) (Unique' at flag c after place) same s is = absurd (let no : ⊥ = cc in no)
  of_base file nullable (Unique' at flag b after place) (Named name argument) same s is = absurd (let no : ⊥ = cc in no)
  of_base file nullable (Unique' at flag b after place) (Unique' at' flag' c after' place') same s is =
      let flags : flag ≡ flag' = cc in
      let inside : unboxed_base b ≡ unboxed_base c = cc in
      let suffixes : after ≡ after' = cc in
      subst (λ f. IsUnique (IsSuffixed (IsShapeOfBase other n file f c) after') s) flags
      (subst (λ a. IsUnique (IsSuffixed (IsShapeOfBase other n file flag c) a) s) suffixes
      (unique (IsSuffixed (IsShapeOfBase program n file flag b) after) (IsSuffixed (IsShapeOfBase other n file flag c) after)
      (suffixed after (IsShapeOfBase program n file flag b) (IsShapeOfBase other n file flag c) (of_base file flag b c inside)) s is))

  pub shape_alike : (file : ℕ) (s t : TypeSpec) → unboxed_type s ≡ unboxed_type t → Implies (IsShapeOf program n file s) (IsShapeOf other n file t)
  shape_alike file s t same whole is =
      subst (λ (x : TypeSpec). IsSuffixed (IsShapeOfBase other n file x.nullable t.base) x.suffixes whole) same
      (suffixed s.suffixes (IsShapeOfBase program n file s.nullable s.base) (IsShapeOfBase other n file s.nullable t.base) (of_base file s.nullable s.base t.base (λ i. (same i).base)) whole is)
