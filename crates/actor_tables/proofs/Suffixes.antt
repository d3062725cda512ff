-- Shapes of bases and of suffixes.
use Rattle.std.proofs.Common.{◌≡◌, ℕ, ◌+◌, ◌<◌, List, [], ◌∷◌, ◌++◌, length, take, get_or, subst, sym, Box, Global}
use Rattle.std.specs.Prelude.{Bool, Option, Result, IfOk}
use Rattle.std.proofs.lemmas.List.{take_more}
use Rattle.std.proofs.lemmas.Result.{IfOk-weaker}
use Rattle.ipdl_base.specs.declared.schema.Shape.{Shape, Array', Maybe'}
use Rattle.ipdl_base.specs.declared.schema.Shape as shape
use Rattle.ipdl_syntax.specs.declared.tree.Suffix.{Suffix}
use Rattle.ipdl_syntax.specs.declared.tree.Suffix.TheVariants.{Array, Maybe}
use Rattle.ipdl_syntax.specs.declared.tree.Base.{Base, Named}
use Rattle.ipdl_syntax.specs.declared.tree.Base as base
use Rattle.ipdl_syntax.specs.declared.tree.TypeSpec.{TypeSpec}
use Rattle.ipdl_syntax.specs.declared.program.Entry.{Entry}
use Rattle.name_table.specs.declared.decl.DeclId.{DeclId}
use Rattle.name_table.specs.Decls.{FindsOne}
use Rattle.program_schema.specs.Numbers.{Numbering}
use Rattle.program_schema.specs.Shapes.{IsSuffixedBy, IsSuffixed, IsShapeOfBase, IsShapeOfDecl, IsShapeOf}

-- one more suffix
suffixed_more : (P : Shape → Type 0) (xs : List Suffix) (s : Suffix) (whole : Shape) → IsSuffixedBy s (IsSuffixed P xs) whole → IsSuffixed P (xs ++ s ∷ []) whole
suffixed_more P [] s whole h = h
suffixed_more P (x ∷ xs) s whole h = suffixed_more (IsSuffixedBy x P) xs s whole h

suffixed_next : (P : Shape → Type 0) (xs : List Suffix) (i : ℕ) (s d : Suffix) (whole : Shape) → i < length xs → get_or xs i d ≡ s → IsSuffixedBy s (IsSuffixed P (take i xs)) whole → IsSuffixed P (take (i + 1) xs) whole
suffixed_next P xs i s d whole below at h =
    let Q : List Suffix → Type 0 = λ ys. IsSuffixed P ys whole in
    subst Q (sym (take_more xs i d below)) (subst (λ (t : Suffix). IsSuffixed P (take i xs ++ t ∷ []) whole) (sym at) (suffixed_more P (take i xs) s whole h))

pub suffixed_array : (P : Shape → Type 0) (xs : List Suffix) (i : ℕ) (old whole : Shape) (b : Box Shape Global) → i < length xs → get_or xs i Array ≡ Array → whole ≡ shape.Array b → b.value ≡ old
    → IsSuffixed P (take i xs) old → IsSuffixed P (take (i + 1) xs) whole
suffixed_array P xs i old whole b below at made held h =
    suffixed_next P xs i Array Array whole below at (subst (IsSuffixedBy Array (IsSuffixed P (take i xs))) (sym made) (subst (IsSuffixed P (take i xs)) (sym held) h))

pub suffixed_maybe : (P : Shape → Type 0) (xs : List Suffix) (i : ℕ) (old whole : Shape) (b : Box Shape Global) → i < length xs → get_or xs i Array ≡ Maybe → whole ≡ shape.Maybe b → b.value ≡ old
    → IsSuffixed P (take i xs) old → IsSuffixed P (take (i + 1) xs) whole
suffixed_maybe P xs i old whole b below at made held h =
    suffixed_next P xs i Maybe Array whole below at (subst (IsSuffixedBy Maybe (IsSuffixed P (take i xs))) (sym made) (subst (IsSuffixed P (take i xs)) (sym held) h))

by_like : (s : Suffix) (P Q : Shape → Type 0) → ((t : Shape) → P t → Q t) → (whole : Shape) → IsSuffixedBy s P whole → IsSuffixedBy s Q whole
by_like Array P Q to (Array' at element) h = to element h
by_like Array P Q to whole h = elim h [ ]
by_like Maybe P Q to (Maybe' at held) h = to held h
by_like Maybe P Q to whole h = elim h [ ]

-- what holds without the suffixes may be weakened
pub suffixed_like : (P Q : Shape → Type 0) → ((t : Shape) → P t → Q t) → (xs : List Suffix) (whole : Shape) → IsSuffixed P xs whole → IsSuffixed Q xs whole
suffixed_like P Q to [] whole h = to whole h
suffixed_like P Q to (x ∷ xs) whole h = suffixed_like (IsSuffixedBy x P) (IsSuffixedBy x Q) (by_like x P Q to) xs whole h

-- the shape of a name is that of what it finds
pub named_shape : {E : Type 0} (program : List Entry) (n : Numbering) (file : ℕ) (nullable : Bool) (whole : Base) (name : List ℕ) (argument : Option (List ℕ)) (d : DeclId) (r : Result Shape E) → whole ≡ Named name argument
    → FindsOne program file name argument d → IfOk r (IsShapeOfDecl program n nullable d) → IfOk r (IsShapeOfBase program n file nullable whole)
named_shape program n file nullable whole name argument d r is finds h =
    subst (λ (b : Base). IfOk r (IsShapeOfBase program n file nullable b)) (sym is)
    (IfOk-weaker r (IsShapeOfDecl program n nullable d) (IsShapeOfBase program n file nullable (Named name argument)) (λ shape s. (d, finds, s)) h)

-- an owned pointer
pub unique_shape : (program : List Entry) (n : Numbering) (file : ℕ) (nullable : Bool) (whole : Base) (inner : Box TypeSpec Global) (at : Box Shape Global) (one two three : TypeSpec) (suffixes : List Suffix) (held following : Shape)
    → whole ≡ base.Unique inner → one ≡ inner.value → two ≡ inner.value → three ≡ inner.value → suffixes ≡ three.suffixes
    → IsShapeOfBase program n file one.nullable two.base held → IsSuffixed (λ s. s ≡ held) suffixes following → at.value ≡ following → IsShapeOfBase program n file nullable whole (shape.Unique at)
unique_shape program n file nullable whole inner at one two three suffixes held following is e1 e2 e3 e4 h over last =
    let P : Shape → Type 0 = IsShapeOfBase program n file inner.value.nullable inner.value.base in
    let bare : P held = subst (λ (t : TypeSpec). IsShapeOfBase program n file inner.value.nullable t.base held) e2 (subst (λ (t : TypeSpec). IsShapeOfBase program n file t.nullable two.base held) e1 h) in
    let all : IsSuffixed (λ s. s ≡ held) inner.value.suffixes following = subst (λ (t : TypeSpec). IsSuffixed (λ s. s ≡ held) t.suffixes following) e3 (subst (λ (xs : List Suffix). IsSuffixed (λ s. s ≡ held) xs following) e4 over) in
    let made : IsSuffixed P inner.value.suffixes following = suffixed_like (λ s. s ≡ held) P (λ s e. subst P (sym e) bare) inner.value.suffixes following all in
    subst (λ (b : Base). IsShapeOfBase program n file nullable b (shape.Unique at)) (sym is) (subst (IsSuffixed P inner.value.suffixes) (sym last) made)

-- a type
pub whole_shape : {E : Type 0} (program : List Entry) (n : Numbering) (file : ℕ) (spec : TypeSpec) (suffixes : List Suffix) (base : Shape) (r : Result Shape E) → suffixes ≡ spec.suffixes
    → IsShapeOfBase program n file spec.nullable spec.base base → IfOk r (IsSuffixed (λ s. s ≡ base) suffixes) → IfOk r (IsShapeOf program n file spec)
whole_shape program n file spec suffixes base r same h over =
    let P : Shape → Type 0 = IsShapeOfBase program n file spec.nullable spec.base in
    IfOk-weaker r (IsSuffixed (λ s. s ≡ base) suffixes) (IsSuffixed P spec.suffixes)
    (λ whole s. suffixed_like (λ s. s ≡ base) P (λ t e. subst P (sym e) h) spec.suffixes whole (subst (λ (xs : List Suffix). IsSuffixed (λ s. s ≡ base) xs whole) same s)) over
