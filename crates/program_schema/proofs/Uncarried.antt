-- Whether a message mentions a type that is not carried does not depend on where boxes lie.
use Rattle.std.proofs.Common.{◌≡◌, ◌∙◌, inl, inr, ℕ, Bool, List, map, Option, Some, None, IsSomeAnd, option_map, refl, sym, ap, subst}
use Rattle.std.specs.List.{Any, Contains}
use Rattle.ipdl_base.specs.Plain.{plain_shape, one_box}
use Rattle.ipdl_base.specs.Sound.{MentionsUncarried, MessageMentionsUncarried}
use Rattle.ipdl_base.specs.Sound.{builtin, endpoint, in_array, in_maybe, in_unique, in_struct, in_union}
use Rattle.ipdl_base.specs.declared.builtin.Builtin.{Builtin as BuiltinType}
use Rattle.ipdl_base.specs.declared.schema.MessageRow.{MessageRow}
use Rattle.ipdl_base.specs.declared.schema.ParamRow.{ParamRow}
use Rattle.ipdl_base.specs.declared.schema.Shape.{Shape, Builtin, Named, Array', Maybe', Unique', Endpoint}
use Rattle.ipdl_base.specs.declared.schema.TypeRow.{TypeRow}
use Rattle.ipdl_base.specs.declared.schema.TypeRow.TheVariants.{Struct, Union}
use Rattle.program_schema.specs.Laws.{plain_param_row, plain_type_row}
use Rattle.program_schema.proofs.Lists.{place_in, in_place, any_place, any_at, alike_at}

-- what the plain form means for a shape

like_builtin : (type : BuiltinType) (s : Shape) → plain_shape s ≡ Builtin type → s ≡ Builtin type
like_builtin type (Builtin other) is = is
like_builtin type _ is = cc

like_endpoint : (p : ℕ) (managed : Bool) (s : Shape) → plain_shape s ≡ Endpoint p managed → s ≡ Endpoint p managed
like_endpoint p managed (Endpoint q flag) is = is
like_endpoint p managed _ is = cc

like_named : (t : ℕ) (s : Shape) → plain_shape s ≡ Named t → s ≡ Named t
like_named t (Named u) is = is
like_named t _ is = cc

like_array : (e : Shape) (s : Shape) → plain_shape s ≡ Array' one_box e → (at : _) × (element : Shape) × (s ≡ Array' at element) × (plain_shape element ≡ e)
like_array e (Array' at element) is = (at, element, refl, cc)
like_array e _ is = cc

like_maybe : (e : Shape) (s : Shape) → plain_shape s ≡ Maybe' one_box e → (at : _) × (held : Shape) × (s ≡ Maybe' at held) × (plain_shape held ≡ e)
like_maybe e (Maybe' at held) is = (at, held, refl, cc)
like_maybe e _ is = cc

like_unique : (e : Shape) (s : Shape) → plain_shape s ≡ Unique' one_box e → (at : _) × (held : Shape) × (s ≡ Unique' at held) × (plain_shape held ≡ e)
like_unique e (Unique' at held) is = (at, held, refl, cc)
like_unique e _ is = cc

like_struct : (name : List ℕ) (fields : List ParamRow) (row : TypeRow) → plain_type_row row ≡ Struct name (map plain_param_row fields) → (others : List ParamRow) × (row ≡ Struct name others) × (map plain_param_row fields ≡ map plain_param_row others)
like_struct name fields (Struct other others) is =
    let same : other ≡ name = cc in
    (others, ap (λ (text : List ℕ). Struct text others) same, cc)
like_struct name fields (Union other others) is = cc

like_union : (name : List ℕ) (components : List Shape) (row : TypeRow) → plain_type_row row ≡ Union name (map plain_shape components) → (others : List Shape) × (row ≡ Union name others) × (map plain_shape components ≡ map plain_shape others)
like_union name components (Union other others) is =
    let same : other ≡ name = cc in
    (others, ap (λ (text : List ℕ). Union text others) same, cc)
like_union name components (Struct other others) is = cc

-- in lists that look alike, each member of one has a member of the other that looks like it
alike_in : {Y Z : Type 0} (look : Y → Z) (us vs : List Y) → map look us ≡ map look vs → (u : Y) → Contains us u → (v : Y) × Contains vs v × (look v ≡ look u)
alike_in look us vs same u among =
    let place = place_in us u among in
    let there = alike_at look us vs same place.0 u place.1 in
    (there.0, in_place vs place.0 there.0 there.1, there.2)

module _ (others : List TypeRow) where
  still_mentions : (types : List TypeRow) → map plain_type_row types ≡ map plain_type_row others → {s : Shape} → MentionsUncarried types s → (u : Shape) → plain_shape u ≡ plain_shape s → MentionsUncarried others u
  still_mentions types same (builtin {b} is) u like = subst (MentionsUncarried others) (sym (like_builtin b u like)) (builtin is)
  still_mentions types same (endpoint {p} {managed}) u like = subst (MentionsUncarried others) (sym (like_endpoint p managed u like)) endpoint
  still_mentions types same (in_array {at} {s} m) u like =
      let part = like_array (plain_shape s) u like in
      subst (MentionsUncarried others) (sym part.2) (in_array (still_mentions types same m part.1 part.3))
  still_mentions types same (in_maybe {at} {s} m) u like =
      let part = like_maybe (plain_shape s) u like in
      subst (MentionsUncarried others) (sym part.2) (in_maybe (still_mentions types same m part.1 part.3))
  still_mentions types same (in_unique {at} {s} m) u like =
      let part = like_unique (plain_shape s) u like in
      subst (MentionsUncarried others) (sym part.2) (in_unique (still_mentions types same m part.1 part.3))
  still_mentions types same (in_struct {t} name fields field at among m) u like =
      let row = alike_at plain_type_row types others same t (Struct name fields) at in
      let its = like_struct name fields row.0 row.2 in
      let there = alike_in plain_param_row fields its.0 its.2 field among in
      subst (MentionsUncarried others) (sym (like_named t u like))
      (in_struct name its.0 there.0 (row.1 ∙ ap Some its.1) there.1 (still_mentions types same m there.0.shape (ap (λ (r : ParamRow). r.shape) there.2)))
  still_mentions types same (in_union {t} name components component at among m) u like =
      let row = alike_at plain_type_row types others same t (Union name components) at in
      let its = like_union name components row.0 row.2 in
      let there = alike_in plain_shape components its.0 its.2 component among in
      subst (MentionsUncarried others) (sym (like_named t u like))
      (in_union name its.0 there.0 (row.1 ∙ ap Some its.1) there.1 (still_mentions types same m there.0 there.2))

  params_mention : (types : List TypeRow) → map plain_type_row types ≡ map plain_type_row others → (us vs : List ParamRow) → map plain_param_row us ≡ map plain_param_row vs
      → Any (λ p. MentionsUncarried types p.shape) us → Any (λ p. MentionsUncarried others p.shape) vs
  params_mention types same us vs alike some =
      let place = any_place (λ (p : ParamRow). MentionsUncarried types p.shape) us some in
      let there = alike_at plain_param_row us vs alike place.0 place.1 place.2 in
      any_at (λ (p : ParamRow). MentionsUncarried others p.shape) vs place.0 there.0 there.1 (still_mentions types same place.3 there.0.shape (ap (λ (r : ParamRow). r.shape) there.2))

  returns_mention : (types : List TypeRow) → map plain_type_row types ≡ map plain_type_row others → (us vs : Option (List ParamRow)) → option_map (map plain_param_row) us ≡ option_map (map plain_param_row) vs
      → IsSomeAnd us (λ ps. Any (λ p. MentionsUncarried types p.shape) ps) → IsSomeAnd vs (λ ps. Any (λ p. MentionsUncarried others p.shape) ps)
  returns_mention types same None vs alike m = absurd m
  returns_mention types same (Some us) None alike m = cc
  returns_mention types same (Some us) (Some vs) alike m =
      let rows : map plain_param_row us ≡ map plain_param_row vs = cc in
      params_mention types same us vs rows m

  pub message_mentions : (types : List TypeRow) → map plain_type_row types ≡ map plain_type_row others → (a b : MessageRow) → map plain_param_row a.params ≡ map plain_param_row b.params
      → option_map (map plain_param_row) a.returns ≡ option_map (map plain_param_row) b.returns → MessageMentionsUncarried types a → MessageMentionsUncarried others b
  message_mentions types same a b params returns (inl m) = inl (params_mention types same a.params b.params params m)
  message_mentions types same a b params returns (inr m) = inr (returns_mention types same a.returns b.returns returns m)
