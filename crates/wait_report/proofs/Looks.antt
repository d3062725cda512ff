-- The result of a round, one look after another.
use Rattle.std.proofs.Common.{◌≡◌, ◌≢◌, ◌⊎◌, inl, inr, ℕ, zero, suc, ◌+◌, ◌<◌, ◌≤◌, Bool, true, false, ◌&&◌, if◌then◌else◌, nat_le, List, [], ◌∷◌, length, take, get_or, eqb, refl, sym, ap, subst, ◌∙◌, arith}
use Rattle.std.specs.List.{Contains, slice_set, slice_index_or}
use Rattle.std.proofs.lemmas.Bool.Decides.{eqb_tells, leb_tells}
use Rattle.std.proofs.lemmas.List.{get_or-set_same, get_or-set_other, length-set, take_more}
use Rattle.std.proofs.lemmas.List.Elements.{Contains-append_cases}
use Rattle.std.proofs.lemmas.Option.{slice_get_within}
use Rattle.std.proofs.lemmas.List.Sums.{sum_by-set}
use Rattle.ipdl_base.specs.declared.schema.Kind.TheVariants.{Constructor}
use Rattle.ipdl_base.specs.declared.schema.MessageRow.{MessageRow}
use Rattle.ipdl_base.specs.declared.schema.Schema.{Schema}
use Rattle.value_types.specs.Sizes.{made_size}
use Rattle.wait_report.specs.Sendable.{home_of, IsMessage, IsBuildable, constructed, IsSendable, fits}
use Rattle.wait_report.specs.Least.{too_many, is_built, sum_of, row_least, can_send, AreSound, IsClosedType, IsClosedMessage, IsRightMessage, IsMessageOf, unbuilt, TypesLook, MessagesLook, RoundLook}
use Rattle.wait_report.proofs.SoundValues.{sound-fields}

pub both-left : (a b : Bool) → a && b ≡ true → a ≡ true
both-left true b e = refl
both-left false b e = cc

pub both-right : (a b : Bool) → a && b ≡ true → b ≡ true
both-right true b e = e
both-right false b e = cc

at-most : (a b : ℕ) → nat_le a b ≡ true → a ≤ b
at-most a b e = elim (leb_tells a b) [ inl yes_so ↦ yes_so.1 | inr not_so ↦ let both : true ≡ false = sym e ∙ not_so.0 in cc ]

-- Types

pub types-none : (schema : Schema) (built : List Bool) (old : List ℕ) → TypesLook schema built 0 old old false
types-none schema built old = record { size = refl; sound = λ top h. h; lower = omega arith; less = λ e. cc; same = λ e. refl; closed = λ e t below. absurd (omega (arith, below)) }

-- Messages

pub messages-none : (schema : Schema) (types : List ℕ) (Seen : MessageRow → Type 0) (old : List Bool) → ((row : MessageRow) → Seen row → IsClosedMessage types old row) → MessagesLook schema types Seen old old false
messages-none schema types Seen old closed = record { size = refl; sound = λ top h. h; kept = λ p h. h; lower = omega arith; less = λ e. cc; same = λ e. refl; closed = λ e. closed }

pub messages-changed : (schema : Schema) (types : List ℕ) (First Then Seen : MessageRow → Type 0) (old mid new : List Bool) (changed : Bool) → MessagesLook schema types First old mid changed → MessagesLook schema types Then mid new true → MessagesLook schema types Seen old new true
messages-changed schema types First Then Seen old mid new changed a b =
    let less = b.less refl in
    record { size = b.size ∙ a.size; sound = λ top h. b.sound top (a.sound top h); kept = λ p h. b.kept p (a.kept p h); lower = omega (arith, a.lower, b.lower); less = λ e. omega (arith, a.lower, less); same = λ e. cc; closed = λ e. cc }

pub messages-same : (schema : Schema) (types : List ℕ) (First Then Seen : MessageRow → Type 0) (old mid new : List Bool) (changed : Bool) → MessagesLook schema types First old mid changed → MessagesLook schema types Then mid new false → ((row : MessageRow) → Seen row → First row ⊎ Then row) → MessagesLook schema types Seen old new changed
messages-same schema types First Then Seen old mid new changed a b seen = record {
  size = b.size ∙ a.size;
  sound = λ top h. b.sound top (a.sound top h);
  kept = λ p h. b.kept p (a.kept p h);
  lower = omega (arith, a.lower, b.lower);
  less = λ e. let less = a.less e in omega (arith, less, b.lower);
  same = λ e. b.same refl ∙ a.same e;
  closed = λ e row is. elim (seen row is) [
    | inl one ↦ a.closed e row one
    | inr two ↦ subst (λ (l : List Bool). IsClosedMessage types l row) (a.same e) (b.closed refl row two)
  ];
}

-- One message

-- a message that can be sent by what is known can be sent
pub sound-message : (schema : Schema) (top : ℕ) (types : List ℕ) (built : List Bool) (row : MessageRow) → AreSound schema top types built → IsMessage schema row → can_send types built row ≡ true → IsSendable schema top row
sound-message schema top types built row h found is =
    let few : Bool = nat_le (made_size row.kind + sum_of types built row.params) 4096 in
    let rest : is_built built (home_of row) && few ≡ true = both-right row.carried (is_built built (home_of row) && few) is in
    let small : made_size row.kind + sum_of types built row.params ≤ 4096 = at-most (made_size row.kind + sum_of types built row.params) 4096 (both-right (is_built built (home_of row)) few rest) in
    fits (sum_of types built row.params) found (both-left row.carried (is_built built (home_of row) && few) is) (h.protocols (home_of row) (both-left (is_built built (home_of row)) few rest)) (sound-fields schema top types built h row.params (omega (arith, small))) small

module _ (schema : Schema) (types : List ℕ) (old : List Bool) (row : MessageRow) (protocol : ℕ) (kind : row.kind ≡ Constructor protocol) (right : IsRightMessage schema old row) where
  new-built : (p : ℕ) → is_built (slice_set old protocol true) p ≡ true → (is_built old p ≡ true) ⊎ (p ≡ protocol)
  new-built p e = go (eqb_tells p protocol)
    where
      go : ((eqb p protocol ≡ true) × (p ≡ protocol)) ⊎ ((eqb p protocol ≡ false) × (p ≢ protocol)) → (is_built old p ≡ true) ⊎ (p ≡ protocol)
      go (inl same) = inr same.1
      go (inr other) = inl (sym (get_or-set_other old protocol p true false other.1) ∙ e)

  still-built : (p : ℕ) → is_built old p ≡ true → is_built (slice_set old protocol true) p ≡ true
  still-built p e = go (eqb_tells p protocol)
    where
      go : ((eqb p protocol ≡ true) × (p ≡ protocol)) ⊎ ((eqb p protocol ≡ false) × (p ≢ protocol)) → is_built (slice_set old protocol true) p ≡ true
      go (inl same) = ap (is_built (slice_set old protocol true)) same.1 ∙ get_or-set_same old protocol true false (right.within protocol kind)
      go (inr other) = get_or-set_other old protocol p true false other.1 ∙ e

  pub message-built : is_built old protocol ≡ false → can_send types old row ≡ true → MessagesLook schema types (λ (seen : MessageRow). seen ≡ row) old (slice_set old protocol true) true
  message-built new is =
      let count : Bool → ℕ = λ b. if b then 0 else 1 in
      let moved : unbuilt (slice_set old protocol true) + count (get_or old protocol false) ≡ unbuilt old + count true = sum_by-set count old protocol true false (right.within protocol kind) in
      let one : count (get_or old protocol false) ≡ 1 = ap count new in
      record {
        size = length-set old protocol true;
        sound = λ top h. record {
          values = h.values;
          protocols = λ p e. elim (new-built p e) [
            | inl before ↦ h.protocols p before
            | inr same ↦ subst (IsBuildable schema top) (sym same) (constructed row (sound-message schema top types old row h right.found is) kind)
          ];
        };
        kept = still-built;
        lower = omega (arith, moved, one);
        less = λ e. omega (arith, moved, one);
        same = λ e. cc;
        closed = λ e. cc;
      }

  pub message-known : (is_built old protocol ≡ true) ⊎ (can_send types old row ≡ false) → MessagesLook schema types (λ (seen : MessageRow). seen ≡ row) old old false
  message-known h = messages-none schema types (λ (seen : MessageRow). seen ≡ row) old closed
    where
      at-row : IsClosedMessage types old row
      at-row p is e = elim h [
        | inl built ↦ subst (λ (n : ℕ). is_built old n ≡ true) (let same : protocol ≡ p = cc in same) built
        | inr not_sent ↦ let both : true ≡ false = sym e ∙ not_sent in cc
      ]

      closed : (seen : MessageRow) → seen ≡ row → IsClosedMessage types old seen
      closed seen same = subst (IsClosedMessage types old) (sym same) at-row

-- a message stays right if the number of protocols stays the same
pub right-on : (schema : Schema) (old new : List Bool) (row : MessageRow) → length new ≡ length old → IsRightMessage schema old row → IsRightMessage schema new row
right-on schema old new row size h = record { found = h.found; within = λ p kind. subst (λ (n : ℕ). p < n) (sym size) (h.within p kind) }

-- Lists of messages

the-one : {A : Type 0} (x y : A) → Contains (x ∷ []) y → y ≡ x
the-one x y (zero, below, is) = sym is
the-one x y (suc k, below, is) = absurd (omega arith)

-- one more of a list
pub seen-more : {A : Type 0} (xs : List A) (i : ℕ) (x y : A) → i < length xs → x ≡ get_or xs i x → Contains (take (i + 1) xs) y → Contains (take i xs) y ⊎ (y ≡ x)
seen-more xs i x y within is there = elim (Contains-append_cases (take i xs) (get_or xs i x ∷ []) y (subst (λ l. Contains l y) (take_more xs i x within) there)) [
  | inl before ↦ inl before
  | inr one ↦ inr (the-one (get_or xs i x) y one ∙ sym is)
]

-- the elements of a prefix of a list are elements of the list
pub in-list : {A : Type 0} (xs : List A) (i : ℕ) (x : A) → i < length xs → x ≡ get_or xs i x → Contains xs x
in-list xs i x within is = (i, within, sym is)

-- the result of a loop over messages or protocols after one more of them
pub messages-then : (schema : Schema) (types : List ℕ) (First Then Seen : MessageRow → Type 0) (old mid new : List Bool) (before more changed : Bool) → MessagesLook schema types First old mid before → MessagesLook schema types Then mid new more → ((row : MessageRow) → Seen row → First row ⊎ Then row)
    → ((more ≡ true) × (changed ≡ true)) ⊎ ((more ≡ false) × (changed ≡ before)) → MessagesLook schema types Seen old new changed
messages-then schema types First Then Seen old mid new before more changed a b seen (inl (m, c)) =
    subst (MessagesLook schema types Seen old new) (sym c) (messages-changed schema types First Then Seen old mid new before a (subst (MessagesLook schema types Then mid new) m b))
messages-then schema types First Then Seen old mid new before more changed a b seen (inr (m, c)) =
    subst (MessagesLook schema types Seen old new) (sym c) (messages-same schema types First Then Seen old mid new before a (subst (MessagesLook schema types Then mid new) m b) seen)

-- A round in which no lesser value was found: the result for its messages.
pub around-same : (schema : Schema) (types types_after : List ℕ) (built built_after : List Bool) (more : Bool) → TypesLook schema built (length schema.types) types types_after false → MessagesLook schema types_after (IsMessageOf schema.protocols) built built_after more
    → RoundLook schema types built types_after built_after more
around-same schema types types_after built built_after more a b = record {
  size = a.size;
  count = b.size;
  sound = λ top h. b.sound top (a.sound top h);
  kept = b.kept;
  less = λ e. let less = b.less e in let lower = a.lower in omega (arith, less, lower);
  closed = λ e top live. record {
    top_built = live;
    all_types = λ t row is.
        let here : IsClosedType schema types built t = a.closed refl t (slice_get_within schema.types t row is) in
        subst (λ (bs : List Bool). slice_index_or types_after t too_many ≤ row_least types_after bs row) (sym (b.same e))
        (subst (λ (ts : List ℕ). slice_index_or ts t too_many ≤ row_least ts built row) (sym (a.same refl)) (here row is));
    all_messages = λ row of. subst (λ (bs : List Bool). IsClosedMessage types_after bs row) (sym (b.same e)) (b.closed e row of);
  };
}
