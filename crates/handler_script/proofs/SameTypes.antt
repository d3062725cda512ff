-- Types that are not different are the same.
use Rattle.std.proofs.Common.{◌≡◌, ℕ, Bool, true, false, List, [], ◌∷◌, get_or, inl, inr, refl, sym, ap, ◌∙◌}
use Rattle.std.proofs.lemmas.Bool.{cases_eq}
use Rattle.ipdl_base.specs.Plain.{one_box, plain_shape}
use Rattle.ipdl_base.specs.declared.builtin.Builtin.{Builtin as BuiltinType}
use Rattle.ipdl_base.specs.declared.builtin.Builtin.TheVariants as builtin
use Rattle.ipdl_base.specs.declared.schema.Shape.{Shape, Builtin, Using, Actor, Named, Array', Maybe', Unique', Endpoint}
use Rattle.handler_script.specs.Terms.{StandsFor}

pub same_nat : (m n : ℕ) → ¬ ¬ (m ≡ n) → m ≡ n
same_nat m n h = elim (cases_eq m n) [ inl e ↦ e | inr d ↦ absurd (h d) ]

same_bool : (a b : Bool) → ¬ ¬ (a ≡ b) → a ≡ b
same_bool true true h = refl
same_bool false false h = refl
same_bool a b h = absurd (h (λ e. let no : ⊥ = cc in no))

same_text : (xs ys : List ℕ) → ¬ ¬ (xs ≡ ys) → xs ≡ ys
same_text [] [] h = refl
same_text (x ∷ xs) (y ∷ ys) h =
    let first : x ≡ y = same_nat x y (λ n. h (λ e. n (let i : x ≡ y = cc in i))) in
    let rest : xs ≡ ys = same_text xs ys (λ n. h (λ e. n (let i : xs ≡ ys = cc in i))) in
    ap (λ z. z ∷ xs) first ∙ ap (λ zs. y ∷ zs) rest
same_text xs ys h = absurd (h (λ e. let no : ⊥ = cc in no))

-- builtins by their numbers

builtins : List BuiltinType
builtins = builtin.Bool ∷ builtin.Char ∷ builtin.Int8 ∷ builtin.Uint8 ∷ builtin.Short ∷ builtin.Int16 ∷ builtin.Uint16 ∷ builtin.Int ∷ builtin.Int32 ∷ builtin.Uint32 ∷ builtin.NsResult ∷ builtin.Long ∷ builtin.Int64 ∷ builtin.IntPtr ∷ builtin.Uint64 ∷ builtin.UintPtr ∷ builtin.Float ∷ builtin.Double ∷ builtin.NsString ∷ builtin.NsCString ∷ builtin.ByteBuf ∷ builtin.Shmem ∷ builtin.FileDescriptor ∷ []

number : BuiltinType → ℕ
number builtin.Bool = 0
number builtin.Char = 1
number builtin.Int8 = 2
number builtin.Uint8 = 3
number builtin.Short = 4
number builtin.Int16 = 5
number builtin.Uint16 = 6
number builtin.Int = 7
number builtin.Int32 = 8
number builtin.Uint32 = 9
number builtin.NsResult = 10
number builtin.Long = 11
number builtin.Int64 = 12
number builtin.IntPtr = 13
number builtin.Uint64 = 14
number builtin.UintPtr = 15
number builtin.Float = 16
number builtin.Double = 17
number builtin.NsString = 18
number builtin.NsCString = 19
number builtin.ByteBuf = 20
number builtin.Shmem = 21
number builtin.FileDescriptor = 22

numbered : (k : BuiltinType) → get_or builtins (number k) builtin.Bool ≡ k
unfolding builtins number
numbered builtin.Bool = refl
numbered builtin.Char = refl
numbered builtin.Int8 = refl
numbered builtin.Uint8 = refl
numbered builtin.Short = refl
numbered builtin.Int16 = refl
numbered builtin.Uint16 = refl
numbered builtin.Int = refl
numbered builtin.Int32 = refl
numbered builtin.Uint32 = refl
numbered builtin.NsResult = refl
numbered builtin.Long = refl
numbered builtin.Int64 = refl
numbered builtin.IntPtr = refl
numbered builtin.Uint64 = refl
numbered builtin.UintPtr = refl
numbered builtin.Float = refl
numbered builtin.Double = refl
numbered builtin.NsString = refl
numbered builtin.NsCString = refl
numbered builtin.ByteBuf = refl
numbered builtin.Shmem = refl
numbered builtin.FileDescriptor = refl

same_builtin : (j k : BuiltinType) → ¬ ¬ (j ≡ k) → j ≡ k
same_builtin j k h = sym (numbered j) ∙ ap (λ n. get_or builtins n builtin.Bool) (same_nat (number j) (number k) (λ n. h (λ e. n (ap number e)))) ∙ numbered k

same_shape : (a b : Shape) → ¬ ¬ (plain_shape a ≡ plain_shape b) → plain_shape a ≡ plain_shape b
same_shape (Builtin j) (Builtin k) h = ap Builtin (same_builtin j k (λ n. h (λ e. n (let i : j ≡ k = cc in i))))
same_shape (Using x) (Using y) h = ap Using (same_text x y (λ n. h (λ e. n (let i : x ≡ y = cc in i))))
same_shape (Actor p m) (Actor q n) h =
    ap (λ z. Actor z m) (same_nat p q (λ n. h (λ e. n (let i : p ≡ q = cc in i)))) ∙ ap (λ z. Actor q z) (same_bool m n (λ d. h (λ e. d (let i : m ≡ n = cc in i))))
same_shape (Named s) (Named t) h = ap Named (same_nat s t (λ n. h (λ e. n (let i : s ≡ t = cc in i))))
same_shape (Array' _ a) (Array' _ b) h = ap (λ s. Array' one_box s) (same_shape a b (λ n. h (λ e. n (let i : plain_shape a ≡ plain_shape b = cc in i))))
same_shape (Maybe' _ a) (Maybe' _ b) h = ap (λ s. Maybe' one_box s) (same_shape a b (λ n. h (λ e. n (let i : plain_shape a ≡ plain_shape b = cc in i))))
same_shape (Unique' _ a) (Unique' _ b) h = ap (λ s. Unique' one_box s) (same_shape a b (λ n. h (λ e. n (let i : plain_shape a ≡ plain_shape b = cc in i))))
same_shape (Endpoint p m) (Endpoint q n) h =
    ap (λ z. Endpoint z m) (same_nat p q (λ n. h (λ e. n (let i : p ≡ q = cc in i)))) ∙ ap (λ z. Endpoint q z) (same_bool m n (λ d. h (λ e. d (let i : m ≡ n = cc in i))))
same_shape a b h = absurd (h (λ e. let no : ⊥ = cc in no))

-- a type that does not fail to fit another one fits it
pub stands : (one other : Shape) → ¬ ¬ StandsFor one other → StandsFor one other
stands (Actor p nullable) (Actor q true) h = same_nat p q h
stands one other h = same_shape one other h
