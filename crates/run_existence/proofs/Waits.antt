-- What may interrupt a wait is found for every sound schema.
use Rattle.std.proofs.Common.{◌≡◌, ◌⊎◌, ℕ, zero, suc, ◌+◌, ◌<◌, ◌≤◌, Bool, true, false, List, Contains, length, Option, Some, None, refl, sym, subst, ◌∙◌, inl, inr, ⊎_elim, arith}
use Rattle.std.specs.List.{slice_get, slice_set, slice_index_or}
use Rattle.std.proofs.Math.ListN.{replicate}
use Rattle.std.proofs.lemmas.Bool.{cases_Bool, cases_lt}
use Rattle.std.proofs.lemmas.List.{get_or-set_same, get_or_default, length-replicate, length-set}
use Rattle.std.proofs.lemmas.Option.{slice_get_within}
use Rattle.ipdl_base.specs.declared.schema.Kind.{Kind}
use Rattle.ipdl_base.specs.declared.schema.Kind.TheVariants.{Normal, Constructor, Delete}
use Rattle.ipdl_base.specs.declared.schema.MessageRow.{MessageRow}
use Rattle.ipdl_base.specs.declared.schema.ProtocolRow.{ProtocolRow}
use Rattle.ipdl_base.specs.declared.schema.Schema.{Schema}
use Rattle.ipdl_base.specs.declared.schema.TypeRow.{TypeRow}
use Rattle.ipdl_base.specs.Sound.{IsSound}
use Rattle.wait_report.specs.Least.{AreSound, IsClosedMessage, IsClosedType, IsKnown, IsMessageOf, MessagesLook, TypeLook, can_send, is_built, known, row_least, too_many, unbuilt}
use Rattle.wait_report.proofs.Looks.{message-built}
use Rattle.wait_report.proofs.SchemaRows.{right-message}
use Rattle.wait_report.proofs.SoundValues.{first-sound, lower-by}
use Rattle.wait_report.proofs.Whole.{all, is-report}
use Rattle.run_existence.specs.Laws.{WaitReportsExist}
use Rattle.report_existence.proofs.Lists.{some_or_each}

-- what can be known of a schema
abbrev HasKnown : Schema → ℕ → Type 0
HasKnown schema top = (types : List ℕ) × (built : List Bool) × IsKnown schema top types built

-- a type has a lesser value than is known
record HasLesser (schema : Schema) (types : List ℕ) (built : List Bool) (t : ℕ) : Type 0 where
  row : TypeRow
  is : slice_get schema.types t ≡ Some row
  less : row_least types built row < slice_index_or types t too_many

-- a message constructs a protocol that is not known to be built
record Builds (types : List ℕ) (built : List Bool) (row : MessageRow) : Type 0 where
  protocol : ℕ
  kind : row.kind ≡ Constructor protocol
  sent : can_send types built row ≡ true
  missing : is_built built protocol ≡ false

module _ (schema : Schema) (types : List ℕ) (built : List Bool) where
  lesser_at : (t : ℕ) (found : Option TypeRow) → slice_get schema.types t ≡ found → HasLesser schema types built t ⊎ IsClosedType schema types built t
  lesser_at t None e = inr (λ row is. let none : None ≡ Some row = sym e ∙ is in cc)
  lesser_at t (Some row) e =
      ⊎_elim (λ (less : row_least types built row < slice_index_or types t too_many). inl (record { row = row; is = e; less = less }))
      (λ (most : slice_index_or types t too_many ≤ row_least types built row). inr (λ other is. subst (λ r. slice_index_or types t too_many ≤ row_least types built r) (let same : row ≡ other = (let both : Some row ≡ Some other = sym e ∙ is in cc) in same) most))
      (cases_lt (row_least types built row) (slice_index_or types t too_many))

  lesser_below : (n : ℕ) → ((t : ℕ) × HasLesser schema types built t) ⊎ ((t : ℕ) → t < n → IsClosedType schema types built t)
  lesser_below zero = inr (λ t below. absurd (omega arith))
  lesser_below (suc n) = by (lesser_at n (slice_get schema.types n) refl) (lesser_below n)
    where
      by : HasLesser schema types built n ⊎ IsClosedType schema types built n → ((t : ℕ) × HasLesser schema types built t) ⊎ ((t : ℕ) → t < n → IsClosedType schema types built t)
          → ((t : ℕ) × HasLesser schema types built t) ⊎ ((t : ℕ) → t < suc n → IsClosedType schema types built t)
      by (inl h) rest = inl (n, h)
      by (inr closed) (inl h) = inl h
      by (inr closed) (inr all) = inr (λ t below. ⊎_elim (λ (less : t < n). all t less) (λ (last : n ≤ t). subst (IsClosedType schema types built) (omega arith) closed) (cases_lt t n))

  lesser_or_closed : ((t : ℕ) × HasLesser schema types built t) ⊎ ((t : ℕ) → IsClosedType schema types built t)
  lesser_or_closed =
      ⊎_elim (λ (h : (t : ℕ) × HasLesser schema types built t). inl h)
      (λ (all : (t : ℕ) → t < length schema.types → IsClosedType schema types built t). inr (λ t row is. all t (slice_get_within schema.types t row is) row is))
      (lesser_below (length schema.types))

  by_kind : (row : MessageRow) (kind : Kind) → row.kind ≡ kind → Builds types built row ⊎ IsClosedMessage types built row
  by_kind row Normal e = inr (λ protocol is sent. let both : Normal ≡ Constructor protocol = sym e ∙ is in cc)
  by_kind row Delete e = inr (λ protocol is sent. let both : Delete ≡ Constructor protocol = sym e ∙ is in cc)
  by_kind row (Constructor p) e = by (cases_Bool (can_send types built row)) (cases_Bool (is_built built p))
    where
      by : (can_send types built row ≡ true) ⊎ (can_send types built row ≡ false) → (is_built built p ≡ true) ⊎ (is_built built p ≡ false) → Builds types built row ⊎ IsClosedMessage types built row
      by (inl sent) (inr missing) = inl (record { protocol = p; kind = e; sent = sent; missing = missing })
      by (inl sent) (inl live) = inr (λ protocol is sends. subst (λ q. is_built built q ≡ true) (let same : p ≡ protocol = (let both : Constructor p ≡ Constructor protocol = sym e ∙ is in cc) in same) live)
      by (inr unsent) live = inr (λ protocol is sends. let both : true ≡ false = sym sends ∙ unsent in cc)

  -- some message builds more, or no message does
  builds_or_closed : ((row : MessageRow) × IsMessageOf schema.protocols row × Builds types built row) ⊎ ((row : MessageRow) → IsMessageOf schema.protocols row → IsClosedMessage types built row)
  builds_or_closed =
      ⊎_elim
      (λ (h : (p : ProtocolRow) × Contains schema.protocols p × ((row : MessageRow) × Contains p.messages row × Builds types built row)). inl (h.2.0, (h.0, h.1, h.2.1), h.2.2))
      (λ (closed : (p : ProtocolRow) → Contains schema.protocols p → (row : MessageRow) → Contains p.messages row → IsClosedMessage types built row). inr (λ row of. closed of.0 of.1 row of.2))
      (some_or_each (λ (p : ProtocolRow). (row : MessageRow) × Contains p.messages row × Builds types built row) (λ (p : ProtocolRow). (row : MessageRow) → Contains p.messages row → IsClosedMessage types built row)
      (λ p. some_or_each (Builds types built) (IsClosedMessage types built) (λ row. by_kind row row.kind refl) p.messages) schema.protocols)

module _ (schema : Schema) (sound : IsSound schema) (top : ℕ) where
  -- what is known so far
  record IsSoFar (types : List ℕ) (built : List Bool) : Type 0 where
    size : length types ≡ length schema.types
    count : length built ≡ length schema.protocols
    sound_so : AreSound schema top types built
    live : is_built built top ≡ true

  -- from what is known so far, with a measure less than `fuel`, all that can be known is found
  abbrev FromHere : ℕ → Type 0
  FromHere fuel = (types : List ℕ) (built : List Bool) → IsSoFar types built → known types + unbuilt built < fuel → HasKnown schema top

  by_messages : (fuel : ℕ) → FromHere fuel → (types : List ℕ) (built : List Bool) → IsSoFar types built → known types + unbuilt built < suc fuel → ((t : ℕ) → IsClosedType schema types built t)
      → ((row : MessageRow) × IsMessageOf schema.protocols row × Builds types built row) ⊎ ((row : MessageRow) → IsMessageOf schema.protocols row → IsClosedMessage types built row) → HasKnown schema top
  by_messages fuel onward types built at few closed (inl (row, of, b)) =
      let more = slice_set built b.protocol true in
      let look : MessagesLook schema types (λ (seen : MessageRow). seen ≡ row) built more true = message-built schema types built row b.protocol b.kind (right-message schema sound built at.count row of) b.missing b.sent in
      let less = look.less refl in
      onward types more (record { size = at.size; count = look.size ∙ at.count; sound_so = look.sound top at.sound_so; live = look.kept top at.live }) (omega (arith, few, less))
  by_messages fuel onward types built at few closed (inr quiet) = (types, built, record { sound = at.sound_so; closed = record { top_built = at.live; all_types = closed; all_messages = quiet } })

  by_types : (fuel : ℕ) → FromHere fuel → (types : List ℕ) (built : List Bool) → IsSoFar types built → known types + unbuilt built < suc fuel
      → ((t : ℕ) × HasLesser schema types built t) ⊎ ((t : ℕ) → IsClosedType schema types built t) → HasKnown schema top
  by_types fuel onward types built at few (inl (t, h)) =
      let within : t < length types = subst (λ n. t < n) (sym at.size) (slice_get_within schema.types t h.row h.is) in
      let before : ℕ = slice_index_or types t too_many in
      let lower = slice_set types t (row_least types built h.row) in
      let look : TypeLook schema built t types lower true = lower-by schema built t types h.row h.is within (row_least types built h.row) before refl (get_or_default types t too_many before within) h.less in
      let less = look.less refl in
      onward lower built (record { size = look.size ∙ at.size; count = at.count; sound_so = look.sound top at.sound_so; live = at.live }) (omega (arith, few, less))
  by_types fuel onward types built at few (inr closed) = by_messages fuel onward types built at few closed (builds_or_closed schema types built)

  all_known : (fuel : ℕ) → FromHere fuel
  all_known zero types built at few = absurd (omega arith)
  all_known (suc fuel) types built at few = by_types fuel (λ more more_built at_more less. all_known fuel more more_built at_more less) types built at few (lesser_or_closed schema types built)

  has_known : top < length schema.protocols → HasKnown schema top
  has_known there =
      let types : List ℕ = replicate (length schema.types) too_many in
      let none : List Bool = replicate (length schema.protocols) false in
      let size = length-replicate (length schema.types) too_many in
      let count = length-replicate (length schema.protocols) false in
      let built : List Bool = slice_set none top true in
      all_known (suc (known types + unbuilt built)) types built
      (record {
        size = size;
        count = length-set none top true ∙ count;
        sound_so = first-sound schema top (length schema.types) (length schema.protocols) types none refl refl;
        live = get_or-set_same none top true false (omega (arith, count, there));
      })
      (omega arith)

pub wait_reports_exist : WaitReportsExist
wait_reports_exist schema sound top there =
    let k = has_known schema sound top there in (all schema sound top k.0 k.1 k.2, is-report schema sound top k.0 k.1 k.2)
