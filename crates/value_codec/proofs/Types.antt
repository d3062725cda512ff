-- What the number of a type names, and which values the fields of a header may have.
use Rattle.std.proofs.Common.{◌≡◌, ◌≢◌, ◌≤◌, ◌<◌, ℕ, ◌+◌, ◌/◌, ◌^◌, ◌⊎◌, ℤ, pos, negsuc, Bool, true, false, not, cond, eqb, ◌||◌, ◌&&◌, List, [], ◌∷◌, length, Option, Some, None, refl, sym, ap, subst, ◌∙◌, arith, inl, inr}
use Rattle.std.proofs.lemmas.Bool.{eqb-true, ne_eqb, ltb-true, lt-ltb, false_from_ne_true}
use Rattle.std.proofs.lemmas.Bool.Decides.{Decides-int_eq, nat_tests}
use Rattle.std.proofs.lemmas.Int.{ints}
use Rattle.std.proofs.lemmas.Option.{slice_get_within}
use Rattle.std.specs.Prelude.{IsTrue, slice_get, int_lt}
use Rattle.std.specs.Int.{w32}
use Rattle.std.specs.Int.RustNames.{FitsSigned}
use Rattle.std.specs.List.{find, flat_map}
use Rattle.std.specs.Ordering.{int_eq}
use Rattle.ipdl_base.specs.declared.kinds.Compress.{Compress}
use Rattle.ipdl_base.specs.declared.kinds.Compress.TheVariants as compress
use Rattle.ipdl_base.specs.declared.kinds.Level.{Level}
use Rattle.ipdl_base.specs.declared.kinds.Level.TheVariants as level
use Rattle.ipdl_base.specs.declared.kinds.Semantics.{Semantics}
use Rattle.ipdl_base.specs.declared.kinds.Semantics.TheVariants.{Async, Sync}
use Rattle.ipdl_base.specs.declared.schema.MessageRow.{MessageRow}
use Rattle.ipdl_base.specs.declared.schema.ProtocolRow.{ProtocolRow}
use Rattle.ipdl_base.specs.declared.schema.Schema.{Schema}
use Rattle.ipdl_base.specs.Deferral.{rank}
use Rattle.ipdl_base.specs.Sound.{IsSound, is_sync, has_reply, has_number, message_of}
use Rattle.ipdl_base.proofs.Numbers.{no_protocol}
use Rattle.value_types.specs.Fits.{IsLivingId, IsFieldNumber, IsTransactionOf}
use Rattle.ipdl_base.specs.Sides.{goodbye_number}
use Rattle.value_codec.specs.Frames.{FrameType, goodbye, request, reply, request_or_reply, carried_type, type_of, are_flags, has_transaction}
use Rattle.value_codec.specs.Spelling.{truth_byte, compress_flag, request_flags, reply_flags, fault_flags}
use Rattle.value_codec.proofs.Signed.{fits_word, least_word, greatest_word}

-- Tests

pub eqb_same : (a b : ℕ) → a ≡ b → eqb a b ≡ true
eqb_same a b e = grind (arith, nat_tests)

cond_some : {X : Type 0} (b : Bool) (x y : X) → cond b (Some x) None ≡ Some y → (b ≡ true) × (x ≡ y)
cond_some true x y e = (refl, cc)
cond_some false x y e = absurd cc

found_cond : {X : Type 0} (b : Bool) (y x : X) (rest : Option X) → cond b (Some y) rest ≡ Some x → ((b ≡ true) × (y ≡ x)) ⊎ ((b ≡ false) × (rest ≡ Some x))
found_cond true y x rest e = inl (refl, cc)
found_cond false y x rest e = inr (refl, e)

find_passes : {X : Type 0} (p : X → Bool) (xs : List X) (x : X) → find p xs ≡ Some x → p x ≡ true
find_passes p [] x e = absurd cc
find_passes p (y ∷ xs) x e =
    elim (found_cond (p y) y x (find p xs) e) [
      | inl h ↦ subst (λ z. p z ≡ true) h.1 h.0
      | inr h ↦ find_passes p xs x h.1
    ]

and_both : (b c : Bool) → (b && c) ≡ true → (b ≡ true) × (c ≡ true)
and_both true c e = (refl, e)
and_both false c e = absurd cc

-- Numbers of messages

pub number_passes : (schema : Schema) (n : ℕ) (row : MessageRow) → message_of schema n ≡ Some row → has_number n row ≡ true
number_passes schema n row e = find_passes (has_number n) (flat_map (λ protocol. protocol.messages) schema.protocols) row e

in_protocol : (schema : Schema) (n : ℕ) (row : MessageRow) (o : Option ProtocolRow) → IsSound schema → slice_get schema.protocols (n / 65536) ≡ o → message_of schema n ≡ Some row → n / 65536 < length schema.protocols
in_protocol schema n row None sound at e = absurd (let none : None ≡ message_of schema n = no_protocol schema n sound at in cc)
in_protocol schema n row (Some protocol) sound at e = slice_get_within schema.protocols (n / 65536) protocol at

pub number_small : (schema : Schema) (n : ℕ) (row : MessageRow) → IsSound schema → message_of schema n ≡ Some row → n < 268435456
number_small schema n row sound e =
    let within = in_protocol schema n row (slice_get schema.protocols (n / 65536)) sound refl e in
    omega (arith, within, sound.few)

-- What a type means.
abbrev pub TypeMeans : Schema → ℕ → FrameType → Type 0
TypeMeans schema n goodbye = n ≡ goodbye_number
TypeMeans schema n (request row) = (message_of schema n ≡ Some row) × IsTrue row.carried × (n ≡ row.number)
TypeMeans schema n (reply row) = (message_of schema n ≡ Some row) × IsTrue row.carried × (n ≡ row.number + 1) × IsTrue (has_reply row)

named : (schema : Schema) (n : ℕ) (row : MessageRow) (type : FrameType) (b : Bool) → message_of schema n ≡ Some row → row.carried ≡ true → eqb row.number n ≡ b → cond b (request row) (reply row) ≡ type → TypeMeans schema n type
named schema n row type true found carried is e = subst (TypeMeans schema n) e (found, carried, sym (eqb-true row.number n is))
named schema n row type false found carried is e =
    let passes = number_passes schema n row found in
    let second : (has_reply row && eqb (row.number + 1) n) ≡ true = subst (λ b. (b || (has_reply row && eqb (row.number + 1) n)) ≡ true) is passes in
    let both = and_both (has_reply row) (eqb (row.number + 1) n) second in
    subst (TypeMeans schema n) e (found, carried, sym (eqb-true (row.number + 1) n both.1), both.0)

carried_means : (schema : Schema) (n : ℕ) (o : Option MessageRow) (type : FrameType) → message_of schema n ≡ o → carried_type n o ≡ Some type → TypeMeans schema n type
carried_means schema n None type found e = absurd cc
carried_means schema n (Some row) type found e =
    let c = cond_some row.carried (request_or_reply n row) type e in
    named schema n row type (eqb row.number n) found c.0 refl c.1

pub type_means : (schema : Schema) (n : ℕ) (type : FrameType) → type_of schema n ≡ Some type → TypeMeans schema n type
type_means schema n type e =
    elim (found_cond (eqb n goodbye_number) goodbye type (carried_type n (message_of schema n)) e) [
      | inl h ↦ subst (TypeMeans schema n) h.1 (eqb-true n goodbye_number h.0)
      | inr h ↦ carried_means schema n (message_of schema n) type refl h.1
    ]

pub request_named : (schema : Schema) (n : ℕ) (row : MessageRow) → IsSound schema → message_of schema n ≡ Some row → row.carried ≡ true → n ≡ row.number → type_of schema n ≡ Some (request row)
request_named schema n row sound found carried is =
    let other : eqb n goodbye_number ≡ false = ne_eqb n goodbye_number (λ e. absurd (omega (arith, number_small schema n row sound found))) in
    (λ i. cond (other i) (Some goodbye) (carried_type n (found i)))
    ∙ (λ i. cond (carried i) (Some (cond (eqb_same row.number n (sym is) i) (request row) (reply row))) None)

pub reply_named : (schema : Schema) (n : ℕ) (row : MessageRow) → IsSound schema → message_of schema n ≡ Some row → row.carried ≡ true → n ≡ row.number + 1 → type_of schema n ≡ Some (reply row)
reply_named schema n row sound found carried is =
    let other : eqb n goodbye_number ≡ false = ne_eqb n goodbye_number (λ e. absurd (omega (arith, number_small schema n row sound found))) in
    let not_request : eqb row.number n ≡ false = ne_eqb row.number n (λ e. absurd (omega arith)) in
    (λ i. cond (other i) (Some goodbye) (carried_type n (found i)))
    ∙ (λ i. cond (carried i) (Some (cond (not_request i) (request row) (reply row))) None)

pub goodbye_named : (schema : Schema) (n : ℕ) → n ≡ goodbye_number → type_of schema n ≡ Some goodbye
goodbye_named schema n is = λ i. cond (eqb_same n goodbye_number is i) (Some goodbye) (carried_type n (message_of schema n))

-- Flags

truth_small : (b : Bool) → truth_byte b ≤ 1
truth_small true = omega arith
truth_small false = omega arith

rank_small : (l : Level) → rank l ≤ 2
rank_small level.Not = omega arith
rank_small level.InsideSync = omega arith
rank_small level.InsideCpow = omega arith

compress_small : (c : Compress) → compress_flag c ≤ 64
compress_small compress.Plain = omega arith
compress_small compress.Last = omega arith
compress_small compress.All = omega arith

pub request_flags_small : (row : MessageRow) → request_flags row < 2 ^ 32
request_flags_small row = omega (arith, truth_small (is_sync row.semantics), rank_small row.level, compress_small row.compress)

pub reply_flags_small : (row : MessageRow) → reply_flags row < 2 ^ 32
reply_flags_small row = omega (arith, truth_small (is_sync row.semantics))

pub fault_flags_small : (row : MessageRow) → fault_flags row < 2 ^ 32
fault_flags_small row = omega (arith, truth_small (is_sync row.semantics))

pub fault_not_reply : (row : MessageRow) → eqb (fault_flags row) (reply_flags row) ≡ false
fault_not_reply row = ne_eqb (fault_flags row) (reply_flags row) (λ e. absurd (omega arith))

or_right : (b c : Bool) → c ≡ true → (b || c) ≡ true
or_right true c e = refl
or_right false c e = e

pub reply_allowed : (row : MessageRow) → are_flags (reply row) (reply_flags row) ≡ true
reply_allowed row = λ i. eqb_same (reply_flags row) (reply_flags row) refl i || eqb (reply_flags row) (fault_flags row)

pub fault_allowed : (row : MessageRow) → are_flags (reply row) (fault_flags row) ≡ true
fault_allowed row = or_right (eqb (fault_flags row) (reply_flags row)) (eqb (fault_flags row) (fault_flags row)) (eqb_same (fault_flags row) (fault_flags row) refl)

pub reply_or_fault : (row : MessageRow) (flags : ℕ) → are_flags (reply row) flags ≡ true → eqb flags (reply_flags row) ≡ false → flags ≡ fault_flags row
reply_or_fault row flags e other = eqb-true flags (fault_flags row) (subst (λ b. (b || eqb flags (fault_flags row)) ≡ true) other e)

-- Fields

pub int_same : (x y : ℤ) → int_eq x y ≡ true → x ≡ y
int_same x y e = (Decides-int_eq x y).0 e

pub same_int : (x y : ℤ) → x ≡ y → int_eq x y ≡ true
same_int x y e = (Decides-int_eq x y).1 e

not_true : (b : Bool) → not b ≡ true → b ≡ false
not_true true e = absurd cc
not_true false e = refl

pub int_other : (x y : ℤ) → not (int_eq x y) ≡ true → x ≢ y
int_other x y e same = let t = same_int x y same in let f = not_true (int_eq x y) e in cc

pub other_int : (x y : ℤ) → x ≢ y → not (int_eq x y) ≡ true
other_int x y other = ap not (false_from_ne_true (int_eq x y) (λ e. other (int_same x y e)))

pub route_lives : (z : ℤ) → int_lt (pos 0) z ≡ true → FitsSigned w32 z → IsLivingId z
route_lives (pos n) e fits = let some : 0 < n = ltb-true 0 n e in (omega (arith, ints), greatest_word (pos n) fits)
route_lives (negsuc n) e fits = absurd cc

pub lives_route : (z : ℤ) → IsLivingId z → int_lt (pos 0) z ≡ true
lives_route (pos n) h = lt-ltb 0 n (omega (arith, ints, h.0))
lives_route (negsuc n) h = absurd (omega (arith, ints, h.0))

pub field_number : (z : ℤ) → FitsSigned w32 z → IsFieldNumber z
field_number z fits = (least_word z fits, greatest_word z fits)

pub transaction_of : (semantics : Semantics) (z : ℤ) → has_transaction semantics z ≡ true → FitsSigned w32 z → IsTransactionOf semantics z
transaction_of Sync z e fits = (int_other z (pos 0) e, field_number z fits)
transaction_of Async z e fits = int_same z (pos 0) e

pub of_transaction : (semantics : Semantics) (z : ℤ) → IsTransactionOf semantics z → has_transaction semantics z ≡ true
of_transaction Sync z h = other_int z (pos 0) h.0
of_transaction Async z h = same_int z (pos 0) h

pub transaction_fits : (semantics : Semantics) (z : ℤ) → IsTransactionOf semantics z → FitsSigned w32 z
transaction_fits Sync z h = fits_word z h.1.0 h.1.1
transaction_fits Async z h = subst (FitsSigned w32) (sym h) (fits_word (pos 0) (omega (arith, ints)) (omega (arith, ints)))
