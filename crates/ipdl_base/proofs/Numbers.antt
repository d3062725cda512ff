-- What `find` gives over a list and over joined lists, and where a sound schema has a number.
use Rattle.std.proofs.Common.{◌≡◌, ◌≢◌, ℕ, zero, suc, inl, inr, ◌+◌, ◌*◌, ◌/◌, ◌%◌, ◌<◌, Bool, true, false, ◌&&◌, ◌||◌, ◌==◌, Option, Some, None, List, [], ◌∷◌, length, get_or, refl, sym, ◌∙◌, ap, arith}
use Rattle.std.specs.List.{find, flat_map, slice_get}
use Rattle.std.specs.Option.{option_or}
use Rattle.std.proofs.lemmas.List.Folds.{find-append}
use Rattle.std.proofs.lemmas.Option.{slice_get_within, slice_get_read}
use Rattle.std.proofs.lemmas.Bool.{false_from_ne_true, cases_Bool, ne_eqb}
use Rattle.std.proofs.lemmas.Bool.Decides.{nat_tests}
use Rattle.ipdl_base.specs.Sound.{IsSound, IsSoundProtocol, has_number, has_reply, message_of}
use Rattle.ipdl_base.specs.declared.schema.Schema.{Schema}
use Rattle.ipdl_base.specs.declared.schema.ProtocolRow.{ProtocolRow}
use Rattle.ipdl_base.specs.declared.schema.MessageRow.{MessageRow}

option_or-none : {X : Type 0} (o : Option X) → option_or o None ≡ o
option_or-none None = refl
option_or-none (Some x) = refl

-- what a read within a list gives is there in an equal list
pub slice_get-same : {X : Type 0} (xs ys : List X) (i : ℕ) (x : X) → ys ≡ xs → i < length ys → x ≡ get_or ys i x → slice_get xs i ≡ Some x
slice_get-same xs ys i x same within is = ap (λ zs. slice_get zs i) (sym same) ∙ slice_get_read ys (length ys) i x refl within is

module _ {X : Type 0} (p : X → Bool) where
  -- nothing is found where each element fails the test
  pub find_none : (xs : List X) → ((i : ℕ) (x : X) → slice_get xs i ≡ Some x → p x ≡ false) → find p xs ≡ None
  find_none [] h = refl
  find_none (x ∷ xs) h = rw (h zero x refl) (find_none xs (λ i y e. h (suc i) y e))

  -- an element that passes is found where each that passes is at its index
  pub find_only : (xs : List X) (i : ℕ) (x : X) → slice_get xs i ≡ Some x → p x ≡ true → ((j : ℕ) (y : X) → slice_get xs j ≡ Some y → p y ≡ true → j ≡ i) → find p xs ≡ Some x
  find_only [] i x e t h = cc
  find_only (y ∷ xs) zero x e t h =
      let same : y ≡ x = cc in
      let passes : p y ≡ true = ap p same ∙ t in
      rw passes e
  find_only (y ∷ xs) (suc i) x e t h =
      let fails : p y ≡ false = false_from_ne_true (p y) (λ passes. let zeros : zero ≡ suc i = h zero y refl passes in absurd (omega arith)) in
      rw fails (find_only xs i x e t (λ j z at passes. let sames : suc j ≡ suc i = h (suc j) z at passes in omega arith))

  module _ {Y : Type 0} (f : Y → List X) where
    -- nothing is found in joined lists where nothing is in any of them
    pub find_in_none : (ys : List Y) → ((i : ℕ) (y : Y) → slice_get ys i ≡ Some y → find p (f y) ≡ None) → find p (flat_map f ys) ≡ None
    find_in_none [] h = refl
    find_in_none (y ∷ ys) h = find-append p (f y) (flat_map f ys) ∙ rw (h zero y refl) (find_in_none ys (λ i z e. h (suc i) z e))

    -- what is found in joined lists is what is found in the one at an index, where nothing is in any other
    pub find_in : (ys : List Y) (i : ℕ) (y : Y) → slice_get ys i ≡ Some y → ((j : ℕ) (z : Y) → slice_get ys j ≡ Some z → j ≢ i → find p (f z) ≡ None) → find p (flat_map f ys) ≡ find p (f y)
    find_in [] i y e h = cc
    find_in (z ∷ ys) zero y e h =
        let same : z ≡ y = cc in
        let others : find p (flat_map f ys) ≡ None = find_in_none ys (λ j w at. h (suc j) w at (λ q. absurd (omega arith))) in
        find-append p (f z) (flat_map f ys) ∙ (rw others (option_or-none (find p (f z))) ∙ ap (λ w. find p (f w)) same)
    find_in (z ∷ ys) (suc i) y e h =
        let here : find p (f z) ≡ None = h zero z refl (λ q. absurd (omega arith)) in
        find-append p (f z) (flat_map f ys) ∙ rw here (find_in ys i y e (λ j w at other. h (suc j) w at (λ q. other (omega arith))))

-- a number that is neither that of a request nor that of its reply
number_fails : (a n : ℕ) (reply : Bool) → a ≢ n → a + 1 ≢ n → ((a == n) || (reply && (a + 1 == n))) ≡ false
number_fails a n reply request_is reply_is = rw (ne_eqb a n request_is, ne_eqb (a + 1) n reply_is) (elim reply as (λ b. (b && false) ≡ false) [ true ↦ refl | false ↦ refl ])

-- a request's number passes
request_passes : (a n : ℕ) (reply : Bool) → a ≡ n → ((a == n) || (reply && (a + 1 == n))) ≡ true
request_passes a n reply e = grind (arith, nat_tests)

-- a reply's number passes where there is a reply
reply_passes : (a n : ℕ) (reply : Bool) → a + 1 ≡ n → reply ≡ true → ((a == n) || (reply && (a + 1 == n))) ≡ true
reply_passes a n reply e r = grind (arith, nat_tests)

-- a reply's number fails where there is none
reply_fails : (a n : ℕ) (reply : Bool) → a ≢ n → reply ≡ false → ((a == n) || (reply && (a + 1 == n))) ≡ false
reply_fails a n reply ne r = rw (ne_eqb a n ne, r)

-- a message of another protocol, or at another index, has other numbers
other_protocol : (a n p i : ℕ) (reply : Bool) → a ≡ p * 65536 + 2 * i → i < 32768 → p ≢ n / 65536 → ((a == n) || (reply && (a + 1 == n))) ≡ false
other_protocol a n p i reply e low ne = number_fails a n reply (λ q. ne (omega arith)) (λ q. ne (omega arith))

same_index : (a n p i : ℕ) (reply : Bool) → a ≡ p * 65536 + 2 * i → i < 32768 → ((a == n) || (reply && (a + 1 == n))) ≡ true → i ≡ n % 65536 / 2
same_index a n p i reply e low passes =
    elim (cases_Bool (a == n)) [ inl q ↦ (let f : a ≡ n = grind (arith, nat_tests) in omega arith) | inr q ↦ (let f : a + 1 ≡ n = grind (arith, nat_tests) in omega arith) ]

module _ (s : Schema) (n : ℕ) (sound : IsSound s) where
  -- no message of another protocol has the number
  other_protocols : (p : ℕ) (row : ProtocolRow) → slice_get s.protocols p ≡ Some row → p ≢ n / 65536 → find (has_number n) row.messages ≡ None
  other_protocols p row at other =
      let rows : IsSoundProtocol s p row = sound.protocols p row at in
      find_none (has_number n) row.messages (λ i m e.
      let low : i < length row.messages = slice_get_within row.messages i m e in
      other_protocol m.number n p i (has_reply m) (rows.messages i m e).number (omega (arith, rows.few)) other)

  pub no_protocol : slice_get s.protocols (n / 65536) ≡ None → None ≡ message_of s n
  no_protocol e =
      sym (find_in_none (has_number n) (λ protocol. protocol.messages) s.protocols (λ p row at.
      other_protocols p row at (λ q. let here : slice_get s.protocols p ≡ None = ap (slice_get s.protocols) q ∙ e in cc)))

  module _ (row : ProtocolRow) (at : slice_get s.protocols (n / 65536) ≡ Some row) where
    rows : IsSoundProtocol s (n / 65536) row
    rows = sound.protocols (n / 65536) row at

    in_row : message_of s n ≡ find (has_number n) row.messages
    in_row = find_in (has_number n) (λ protocol. protocol.messages) s.protocols (n / 65536) row at other_protocols

    index : (i : ℕ) (m : MessageRow) → slice_get row.messages i ≡ Some m → has_number n m ≡ true → i ≡ n % 65536 / 2
    index i m e passes =
        let low : i < length row.messages = slice_get_within row.messages i m e in
        same_index m.number n (n / 65536) i (has_reply m) (rows.messages i m e).number (omega (arith, rows.few)) passes

    pub no_message : slice_get row.messages (n % 65536 / 2) ≡ None → None ≡ message_of s n
    no_message e =
        sym (in_row ∙ find_none (has_number n) row.messages (λ i m here. false_from_ne_true (has_number n m) (λ passes.
        let none : slice_get row.messages i ≡ None = ap (slice_get row.messages) (index i m here passes) ∙ e in cc)))

    module _ (m : MessageRow) (e : slice_get row.messages (n % 65536 / 2) ≡ Some m) where
      number : m.number ≡ n / 65536 * 65536 + 2 * (n % 65536 / 2)
      number = (rows.messages (n % 65536 / 2) m e).number

      pub message_found : has_number n m ≡ true → Some m ≡ message_of s n
      message_found passes = sym (in_row ∙ find_only (has_number n) row.messages (n % 65536 / 2) m e passes index)

      pub request_found : n % 2 ≡ 0 → Some m ≡ message_of s n
      request_found even = message_found (request_passes m.number n (has_reply m) (omega (arith, number)))

      pub reply_found : n % 2 ≢ 0 → has_reply m ≡ true → Some m ≡ message_of s n
      reply_found odd reply = message_found (reply_passes m.number n (has_reply m) (omega (arith, number)) reply)

      pub no_reply : n % 2 ≢ 0 → has_reply m ≡ false → None ≡ message_of s n
      no_reply odd none =
          sym (in_row ∙ find_none (has_number n) row.messages (λ i x here. false_from_ne_true (has_number n x) (λ passes.
          let same : Some m ≡ Some x = sym e ∙ (ap (slice_get row.messages) (sym (index i x here passes)) ∙ here) in
          let alike : m ≡ x = cc in
          let fails : has_number n m ≡ false = reply_fails m.number n (has_reply m) (λ q. odd (omega (arith, number))) none in
          let passed : has_number n m ≡ true = ap (has_number n) alike ∙ passes in
          cc)))
