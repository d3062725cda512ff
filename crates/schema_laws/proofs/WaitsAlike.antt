-- The report of what may interrupt a wait does not depend on where the boxes of a schema are, and there is one
-- report.
use Rattle.std.proofs.Common.{◌≡◌, ◌∙◌, ℕ, ◌+◌, ◌≤◌, Bool, true, List, [], ◌∷◌, map, Option, Some, None, slice_get, refl, sym, ap, subst, Less}
use Rattle.std.specs.Prelude.{option_map, IsTrue}
use Rattle.std.specs.Cmp.{IsTotalOrder}
use Rattle.std.specs.List.{Contains}
use Rattle.std.proofs.lemmas.Cmp.{nat_cmp_total, on_total, then_total}
use Rattle.std.proofs.lemmas.Option.{slice_get-map}
use Rattle.ipdl_base.specs.declared.kinds.Side.{Side}
use Rattle.ipdl_base.specs.declared.kinds.Side.TheVariants.{Parent, Child}
use Rattle.ipdl_base.specs.declared.schema.Kind.TheVariants.{Constructor}
use Rattle.ipdl_base.specs.declared.schema.MessageRow.{MessageRow}
use Rattle.ipdl_base.specs.declared.schema.ParamRow.{ParamRow}
use Rattle.ipdl_base.specs.declared.schema.Schema.{Schema}
use Rattle.ipdl_base.specs.declared.schema.Shape.{Shape, Builtin, Using, Actor, Named, Array', Maybe', Unique', Endpoint}
use Rattle.ipdl_base.specs.declared.schema.TypeRow.{TypeRow}
use Rattle.ipdl_base.specs.declared.schema.TypeRow.TheVariants.{Struct, Union}
use Rattle.ipdl_base.specs.Plain.{plain_shape}
use Rattle.ipdl_base.specs.Sound.{message_of}
use Rattle.program_schema.specs.Laws.{plain_message_row, plain_param_row, plain_schema, plain_type_row}
use Rattle.program_schema.proofs.Numberings.{not_both}
use Rattle.program_schema.proofs.Lists.{in_place, place_in, same_ordered}
use Rattle.wait_report.specs.declared.pair.Pair.{Pair}
use Rattle.wait_report.specs.Pairs.{IsInterruption, IsSendableOne, may_interrupt, may_wait, pair_cmp, side_rank}
use Rattle.wait_report.specs.Sendable.{HasValueWithin, HaveValuesWithin, IsBuildable, IsMessage, IsSendable, home_of}
use Rattle.wait_report.specs.Sendable as send
use Rattle.value_types.specs.Sizes.{made_size}
use Rattle.history.specs.Text.{message_text}
use Rattle.schema_laws.specs.Waits.{OneWaitReport, WaitsAlike}
use Rattle.schema_laws.proofs.LinesAlike.{text_alike}
use Rattle.schema_laws.proofs.Rows.{message_alike, type_alike, under}

-- To the schema with every box at one place

type_there : (s : Schema) (t : ℕ) (row : TypeRow) → slice_get s.types t ≡ Some row → slice_get (plain_schema s).types t ≡ Some (plain_type_row row)
type_there s t row at = type_alike s t ∙ ap (option_map plain_type_row) at

message_there : (s : Schema) (row : MessageRow) → IsMessage s row → IsMessage (plain_schema s) (plain_message_row row)
message_there s row is = message_alike s row.number ∙ ap (option_map plain_message_row) is

component_there : (components : List Shape) (component : Shape) → Contains components component → Contains (map plain_shape components) (plain_shape component)
component_there components component among =
    let place = place_in components component among in
    in_place (map plain_shape components) place.0 (plain_shape component) (slice_get-map plain_shape components place.0 ∙ ap (option_map plain_shape) place.1)

module _ (s : Schema) (top : ℕ) where
  mutual
    built_there : {protocol : ℕ} → IsBuildable s top protocol → IsBuildable (plain_schema s) top protocol
    built_there send.is_top = send.is_top
    built_there (send.constructed row sent kind) = send.constructed (plain_message_row row) (sent_there sent) kind

    sent_there : {row : MessageRow} → IsSendable s top row → IsSendable (plain_schema s) top (plain_message_row row)
    sent_there {row} (send.fits bytes is carried home params small) = send.fits bytes (message_there s row is) carried (built_there home) (values_there params) small

    value_there : {shape : Shape} {bytes : ℕ} → HasValueWithin s top shape bytes → HasValueWithin (plain_schema s) top (plain_shape shape) bytes
    value_there (send.builtin carried least) = send.builtin carried least
    value_there (send.using_type least) = send.using_type least
    value_there (send.null least) = send.null least
    value_there (send.actor built least) = send.actor (built_there built) least
    value_there (send.array least) = send.array least
    value_there (send.maybe least) = send.maybe least
    value_there (send.unique least) = send.unique least
    value_there (send.struct {t} name fields inside at are least) = send.struct name (map plain_param_row fields) inside (type_there s t (Struct name fields) at) (values_there are) least
    value_there (send.union {t} name components component inside at among is least) =
        send.union name (map plain_shape components) (plain_shape component) inside (type_there s t (Union name components) at) (component_there components component among) (value_there is) least

    values_there : {fields : List ParamRow} {bytes : ℕ} → HaveValuesWithin s top fields bytes → HaveValuesWithin (plain_schema s) top (map plain_param_row fields) bytes
    values_there send.nothing = send.nothing
    values_there (send.first here others is are least) = send.first here others (value_there is) (values_there are) least

-- The other direction

struct_back : (o : Option TypeRow) (name : List ℕ) (others : List ParamRow) → option_map plain_type_row o ≡ Some (Struct name others) → (fields : List ParamRow) × (o ≡ Some (Struct name fields)) × (map plain_param_row fields ≡ others)
struct_back None name others e = absurd (let no : ⊥ = cc in no)
struct_back (Some (Struct own fields)) name others e =
    let same : own ≡ name = cc in
    let alike : map plain_param_row fields ≡ others = cc in
    (fields, ap (λ n. Some (Struct n fields)) same, alike)
struct_back (Some (Union own components)) name others e = absurd (let no : ⊥ = cc in no)

union_back : (o : Option TypeRow) (name : List ℕ) (others : List Shape) → option_map plain_type_row o ≡ Some (Union name others) → (components : List Shape) × (o ≡ Some (Union name components)) × (map plain_shape components ≡ others)
union_back None name others e = absurd (let no : ⊥ = cc in no)
union_back (Some (Struct own fields)) name others e = absurd (let no : ⊥ = cc in no)
union_back (Some (Union own components)) name others e =
    let same : own ≡ name = cc in
    let alike : map plain_shape components ≡ others = cc in
    (components, ap (λ n. Some (Union n components)) same, alike)

-- a component, from its plain form
component_back : (components : List Shape) (other : Shape) → Contains (map plain_shape components) other → (component : Shape) × Contains components component × (plain_shape component ≡ other)
component_back components other among =
    let place = place_in (map plain_shape components) other among in
    let found = under plain_shape (slice_get components place.0) other (sym (slice_get-map plain_shape components place.0) ∙ place.1) in
    (found.0, in_place components place.0 found.0 found.1, found.2)

-- Types, from their plain forms

builtin_back : (shape : Shape) (b : _) → plain_shape shape ≡ Builtin b → shape ≡ Builtin b
builtin_back (Builtin b') b e = e
builtin_back (Using name') b e = absurd (let no : ⊥ = cc in no)
builtin_back (Actor p' nullable') b e = absurd (let no : ⊥ = cc in no)
builtin_back (Named t') b e = absurd (let no : ⊥ = cc in no)
builtin_back (Array' at' element') b e = absurd (let no : ⊥ = cc in no)
builtin_back (Maybe' at' held') b e = absurd (let no : ⊥ = cc in no)
builtin_back (Unique' at' held') b e = absurd (let no : ⊥ = cc in no)
builtin_back (Endpoint p' managed') b e = absurd (let no : ⊥ = cc in no)

using_back : (shape : Shape) (name : _) → plain_shape shape ≡ Using name → shape ≡ Using name
using_back (Builtin b') name e = absurd (let no : ⊥ = cc in no)
using_back (Using name') name e = e
using_back (Actor p' nullable') name e = absurd (let no : ⊥ = cc in no)
using_back (Named t') name e = absurd (let no : ⊥ = cc in no)
using_back (Array' at' element') name e = absurd (let no : ⊥ = cc in no)
using_back (Maybe' at' held') name e = absurd (let no : ⊥ = cc in no)
using_back (Unique' at' held') name e = absurd (let no : ⊥ = cc in no)
using_back (Endpoint p' managed') name e = absurd (let no : ⊥ = cc in no)

actor_back : (shape : Shape) (p : ℕ) (nullable : _) → plain_shape shape ≡ Actor p nullable → shape ≡ Actor p nullable
actor_back (Builtin b') p nullable e = absurd (let no : ⊥ = cc in no)
actor_back (Using name') p nullable e = absurd (let no : ⊥ = cc in no)
actor_back (Actor p' nullable') p nullable e = e
actor_back (Named t') p nullable e = absurd (let no : ⊥ = cc in no)
actor_back (Array' at' element') p nullable e = absurd (let no : ⊥ = cc in no)
actor_back (Maybe' at' held') p nullable e = absurd (let no : ⊥ = cc in no)
actor_back (Unique' at' held') p nullable e = absurd (let no : ⊥ = cc in no)
actor_back (Endpoint p' managed') p nullable e = absurd (let no : ⊥ = cc in no)

named_back : (shape : Shape) (t : ℕ) → plain_shape shape ≡ Named t → shape ≡ Named t
named_back (Builtin b') t e = absurd (let no : ⊥ = cc in no)
named_back (Using name') t e = absurd (let no : ⊥ = cc in no)
named_back (Actor p' nullable') t e = absurd (let no : ⊥ = cc in no)
named_back (Named t') t e = e
named_back (Array' at' element') t e = absurd (let no : ⊥ = cc in no)
named_back (Maybe' at' held') t e = absurd (let no : ⊥ = cc in no)
named_back (Unique' at' held') t e = absurd (let no : ⊥ = cc in no)
named_back (Endpoint p' managed') t e = absurd (let no : ⊥ = cc in no)

array_back : (shape : Shape) (at : _) (element : Shape) → plain_shape shape ≡ Array' at element → (at' : _) × (element' : Shape) × (shape ≡ Array' at' element')
array_back (Builtin b') at element e = absurd (let no : ⊥ = cc in no)
array_back (Using name') at element e = absurd (let no : ⊥ = cc in no)
array_back (Actor p' nullable') at element e = absurd (let no : ⊥ = cc in no)
array_back (Named t') at element e = absurd (let no : ⊥ = cc in no)
array_back (Array' at' element') at element e = (at', element', refl)
array_back (Maybe' at' held') at element e = absurd (let no : ⊥ = cc in no)
array_back (Unique' at' held') at element e = absurd (let no : ⊥ = cc in no)
array_back (Endpoint p' managed') at element e = absurd (let no : ⊥ = cc in no)

maybe_back : (shape : Shape) (at : _) (held : Shape) → plain_shape shape ≡ Maybe' at held → (at' : _) × (held' : Shape) × (shape ≡ Maybe' at' held')
maybe_back (Builtin b') at held e = absurd (let no : ⊥ = cc in no)
maybe_back (Using name') at held e = absurd (let no : ⊥ = cc in no)
maybe_back (Actor p' nullable') at held e = absurd (let no : ⊥ = cc in no)
maybe_back (Named t') at held e = absurd (let no : ⊥ = cc in no)
maybe_back (Array' at' element') at held e = absurd (let no : ⊥ = cc in no)
maybe_back (Maybe' at' held') at held e = (at', held', refl)
maybe_back (Unique' at' held') at held e = absurd (let no : ⊥ = cc in no)
maybe_back (Endpoint p' managed') at held e = absurd (let no : ⊥ = cc in no)

unique_back : (shape : Shape) (at : _) (held : Shape) → plain_shape shape ≡ Unique' at held → (at' : _) × (held' : Shape) × (shape ≡ Unique' at' held')
unique_back (Builtin b') at held e = absurd (let no : ⊥ = cc in no)
unique_back (Using name') at held e = absurd (let no : ⊥ = cc in no)
unique_back (Actor p' nullable') at held e = absurd (let no : ⊥ = cc in no)
unique_back (Named t') at held e = absurd (let no : ⊥ = cc in no)
unique_back (Array' at' element') at held e = absurd (let no : ⊥ = cc in no)
unique_back (Maybe' at' held') at held e = absurd (let no : ⊥ = cc in no)
unique_back (Unique' at' held') at held e = (at', held', refl)
unique_back (Endpoint p' managed') at held e = absurd (let no : ⊥ = cc in no)

-- A message that can be sent, from its plain form.
record IsSentUnder (s : Schema) (top : ℕ) (other : MessageRow) : Type 0 where
  pub row : MessageRow
  pub plain : plain_message_row row ≡ other
  pub sent : IsSendable s top row

module _ (s : Schema) (top : ℕ) where
  mutual
    built_back : {protocol : ℕ} → IsBuildable (plain_schema s) top protocol → IsBuildable s top protocol
    built_back send.is_top = send.is_top
    built_back (send.constructed {protocol = protocol} other sent kind) =
        let under = sent_back sent in
        send.constructed under.row under.sent (subst (λ (r : MessageRow). r.kind ≡ Constructor protocol) (sym under.plain) kind)

    sent_back : {other : MessageRow} → IsSendable (plain_schema s) top other → IsSentUnder s top other
    sent_back {other} (send.fits bytes is carried home params small) =
        let found = under plain_message_row (message_of s other.number) other (sym (message_alike s other.number) ∙ is) in
        record {
          row = found.0;
          plain = found.2;
          sent = send.fits bytes (subst (λ n. message_of s n ≡ Some found.0) (sym (ap (λ (r : MessageRow). r.number) found.2)) found.1)
              (subst (λ (r : MessageRow). IsTrue r.carried) (sym found.2) carried) (subst (λ (r : MessageRow). IsBuildable s top (home_of r)) (sym found.2) (built_back home))
              (values_back params found.0.params (ap (λ (r : MessageRow). r.params) found.2)) (subst (λ (r : MessageRow). made_size r.kind + bytes ≤ 4096) (sym found.2) small);
        }

    value_back : {other : Shape} {bytes : ℕ} → HasValueWithin (plain_schema s) top other bytes → (shape : Shape) → plain_shape shape ≡ other → HasValueWithin s top shape bytes
    value_back {other} {bytes} (send.builtin {b = b} carried least) shape e = subst (λ (x : Shape). HasValueWithin s top x bytes) (sym (builtin_back shape b e)) (send.builtin carried least)
    value_back {other} {bytes} (send.using_type {name = name} least) shape e = subst (λ (x : Shape). HasValueWithin s top x bytes) (sym (using_back shape name e)) (send.using_type least)
    value_back {other} {bytes} (send.null {protocol = p} least) shape e = subst (λ (x : Shape). HasValueWithin s top x bytes) (sym (actor_back shape p true e)) (send.null least)
    value_back {other} {bytes} (send.actor {protocol = p} {nullable = nullable} built least) shape e = subst (λ (x : Shape). HasValueWithin s top x bytes) (sym (actor_back shape p nullable e)) (send.actor (built_back built) least)
    value_back {other} {bytes} (send.array {at = at} {element = element} least) shape e = subst (λ (x : Shape). HasValueWithin s top x bytes) (sym (array_back shape at element e).2) (send.array least)
    value_back {other} {bytes} (send.maybe {at = at} {held = held} least) shape e = subst (λ (x : Shape). HasValueWithin s top x bytes) (sym (maybe_back shape at held e).2) (send.maybe least)
    value_back {other} {bytes} (send.unique {at = at} {held = held} least) shape e = subst (λ (x : Shape). HasValueWithin s top x bytes) (sym (unique_back shape at held e).2) (send.unique least)
    value_back {other} {bytes} (send.struct {t = t} name others inside at are least) shape e =
        let found = struct_back (slice_get s.types t) name others (sym (type_alike s t) ∙ at) in
        subst (λ (x : Shape). HasValueWithin s top x bytes) (sym (named_back shape t e)) (send.struct name found.0 inside found.1 (values_back are found.0 found.2) least)
    value_back {other} {bytes} (send.union {t = t} name others component inside at among is least) shape e =
        let found = union_back (slice_get s.types t) name others (sym (type_alike s t) ∙ at) in
        let own = component_back found.0 component (subst (λ (cs : List Shape). Contains cs component) (sym found.2) among) in
        subst (λ (x : Shape). HasValueWithin s top x bytes) (sym (named_back shape t e)) (send.union name found.0 own.0 inside found.1 own.1 (value_back is own.0 own.2) least)

    values_back : {others : List ParamRow} {bytes : ℕ} → HaveValuesWithin (plain_schema s) top others bytes → (fields : List ParamRow) → map plain_param_row fields ≡ others → HaveValuesWithin s top fields bytes
    values_back send.nothing [] e = send.nothing
    values_back send.nothing (field ∷ fields) e = absurd (let no : ⊥ = cc in no)
    values_back (send.first here rest is are least) [] e = absurd (let no : ⊥ = cc in no)
    values_back (send.first {field = other} {fields = others} here rest is are least) (field ∷ fields) e =
        let head : plain_param_row field ≡ other = cc in
        let tail : map plain_param_row fields ≡ others = cc in
        send.first here rest (value_back is field.shape (ap (λ (r : ParamRow). r.shape) head)) (values_back are fields tail) least

-- Interruptions

one_there : (s : Schema) (top : ℕ) (test : MessageRow → Bool) → ((row : MessageRow) → test (plain_message_row row) ≡ test row) → (number : ℕ) → IsSendableOne s top test number → IsSendableOne (plain_schema s) top test number
one_there s top test blind number is = record { row = plain_message_row is.row; number_is = is.number_is; sendable = sent_there s top is.sendable; passes = blind is.row ∙ is.passes }

one_back : (s : Schema) (top : ℕ) (test : MessageRow → Bool) → ((row : MessageRow) → test (plain_message_row row) ≡ test row) → (number : ℕ) → IsSendableOne (plain_schema s) top test number → IsSendableOne s top test number
one_back s top test blind number is =
    let under = sent_back s top is.sendable in
    record {
      row = under.row;
      number_is = ap (λ (r : MessageRow). r.number) under.plain ∙ is.number_is;
      sendable = under.sent;
      passes = sym (blind under.row) ∙ ap test under.plain ∙ is.passes;
    }

wait_blind : (side : Side) (row : MessageRow) → may_wait side (plain_message_row row) ≡ may_wait side row
wait_blind Parent row = refl
wait_blind Child row = refl

interrupt_blind : (side : Side) (row : MessageRow) → may_interrupt side (plain_message_row row) ≡ may_interrupt side row
interrupt_blind Parent row = refl
interrupt_blind Child row = refl

there : (s : Schema) (top : ℕ) (pair : Pair) → IsInterruption s top pair → IsInterruption (plain_schema s) top pair
there s top pair is = record {
  waits = one_there s top (may_wait pair.side) (wait_blind pair.side) pair.waits is.waits;
  takes = one_there s top (may_interrupt pair.side) (interrupt_blind pair.side) pair.takes is.takes;
}

back : (s : Schema) (top : ℕ) (pair : Pair) → IsInterruption (plain_schema s) top pair → IsInterruption s top pair
back s top pair is = record {
  waits = one_back s top (may_wait pair.side) (wait_blind pair.side) pair.waits is.waits;
  takes = one_back s top (may_interrupt pair.side) (interrupt_blind pair.side) pair.takes is.takes;
}

across : (a b : Schema) → plain_schema a ≡ plain_schema b → (top : ℕ) (pair : Pair) → IsInterruption a top pair → IsInterruption b top pair
across a b alike top pair is = back b top pair (subst (λ (s : Schema). IsInterruption s top pair) alike (there a top pair is))

pub waits_alike : WaitsAlike
waits_alike = record {
  reports = λ a b alike top pairs is. record {
    ordered = is.ordered;
    exact = λ pair. (λ among. across a b alike top pair ((is.exact pair).0 among), λ interruption. (is.exact pair).1 (across b a (sym alike) top pair interruption));
  };
  names = λ a b alike number. sym (text_alike a number) ∙ (λ i. message_text (alike i) number) ∙ text_alike b number;
}

-- The one report

pairs_total : IsTotalOrder pair_cmp
pairs_total = then_total (on_total (λ (p : Pair). side_rank p.side) nat_cmp_total) (then_total (on_total (λ (p : Pair). p.waits) nat_cmp_total) (on_total (λ (p : Pair). p.takes) nat_cmp_total))

pub one_report : OneWaitReport
one_report schema top pairs others is other =
    same_ordered (λ (a b : Pair). pair_cmp a b ≡ Less) (λ (p : Pair). IsInterruption schema top p) (λ a b p q before after. not_both pairs_total a b before after) pairs others is.ordered other.ordered
    (λ p among. (is.exact p).0 among) (λ p among. (other.exact p).1 ((is.exact p).0 among)) (λ p among. (is.exact p).1 ((other.exact p).0 among))
