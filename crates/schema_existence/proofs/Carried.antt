-- Whether a type mentions one that is not carried is decided.
use Rattle.std.proofs.lemmas.Bool.{cases_eq}
use Rattle.report_existence.proofs.Lists.{bool_or_not}
use Rattle.std.proofs.Common.{◌≡◌, ◌⊎◌, ℕ, Bool, true, false, List, Any, Contains, length, Option, Some, None, IsSomeAnd, slice_get, refl, sym, subst, inl, inr, true≢false}
use Rattle.std.specs.Prelude.{◌↔◌, IsTrue}
use Rattle.std.proofs.lemmas.Option.{slice_get_within}
use Rattle.ipdl_base.specs.Builtins.{is_carried}
use Rattle.ipdl_base.specs.Sound.{MentionsUncarried, builtin, endpoint, in_array, in_maybe, in_unique, in_struct, in_union}
use Rattle.ipdl_base.specs.declared.schema.ParamRow.{ParamRow}
use Rattle.ipdl_base.specs.declared.schema.Shape.{Shape, Builtin, Using, Actor, Named, Array', Maybe', Unique', Endpoint}
use Rattle.ipdl_base.specs.declared.schema.TypeRow.{TypeRow}
use Rattle.ipdl_base.specs.declared.schema.TypeRow.TheVariants.{Struct, Union}
use Rattle.report_existence.proofs.Finite.{any_or_not, either_or_not}
use Rattle.name_existence.proofs.Decisions.{contains_or_not, like_or_not, some_and_or_not}
use Rattle.name_existence.proofs.Derivations.{is_below, numbers_below}
use Rattle.name_existence.proofs.Least.{closed_marks}

-- under its suffixes a type is one that is not carried, or a numbered one that is marked
abbrev EndsIn : List ℕ → Shape → Type 0
EndsIn marks (Builtin b) = is_carried b ≡ false
EndsIn marks (Endpoint p managed) = Unit {0}
EndsIn marks (Named t) = Contains marks t
EndsIn marks (Array' at s) = EndsIn marks s
EndsIn marks (Maybe' at s) = EndsIn marks s
EndsIn marks (Unique' at s) = EndsIn marks s
EndsIn marks _ = ⊥

end_or_not : (marks : List ℕ) (s : Shape) → EndsIn marks s ⊎ (EndsIn marks s → ⊥)
end_or_not marks (Builtin b) = bool_or_not (is_carried b) false
end_or_not marks (Endpoint p managed) = inl tt
end_or_not marks (Named t) = contains_or_not cases_eq marks t
end_or_not marks (Array' at s) = end_or_not marks s
end_or_not marks (Maybe' at s) = end_or_not marks s
end_or_not marks (Unique' at s) = end_or_not marks s
end_or_not marks (Using name) = inr (λ h. h)
end_or_not marks (Actor p nullable) = inr (λ h. h)

-- from marks a step leads to a struct with a field whose type ends in them, and to a union with such a component
abbrev RowStep : List ℕ → TypeRow → Type 0
RowStep marks (Struct name fields) = Any (λ f. EndsIn marks f.shape) fields
RowStep marks (Union name components) = Any (EndsIn marks) components

row_step_or_not : (marks : List ℕ) (row : TypeRow) → RowStep marks row ⊎ (RowStep marks row → ⊥)
row_step_or_not marks (Struct name fields) = any_or_not (λ f. EndsIn marks f.shape) (λ f. end_or_not marks f.shape) fields
row_step_or_not marks (Union name components) = any_or_not (EndsIn marks) (end_or_not marks) components

module _ (types : List TypeRow) where
  abbrev Step : List ℕ → ℕ → Type 0
  Step marks t = IsSomeAnd (slice_get types t) (RowStep marks)

  abbrev AreSound : List ℕ → Type 0
  AreSound marks = (t : ℕ) → Contains marks t → MentionsUncarried types (Named t)

  -- a type that ends in marked types that mention one that is not carried mentions one

  end_mentions : (marks : List ℕ) → AreSound marks → (s : Shape) → EndsIn marks s → MentionsUncarried types s
  end_mentions marks sound (Builtin b) is = builtin is
  end_mentions marks sound (Endpoint p managed) is = endpoint
  end_mentions marks sound (Named t) is = sound t is
  end_mentions marks sound (Array' at s) is = in_array (end_mentions marks sound s is)
  end_mentions marks sound (Maybe' at s) is = in_maybe (end_mentions marks sound s is)
  end_mentions marks sound (Unique' at s) is = in_unique (end_mentions marks sound s is)
  end_mentions marks sound (Using name) is = absurd is
  end_mentions marks sound (Actor p nullable) is = absurd is

  row_mentions : (marks : List ℕ) → AreSound marks → (t : ℕ) (row : Option TypeRow) → slice_get types t ≡ row → IsSomeAnd row (RowStep marks) → MentionsUncarried types (Named t)
  row_mentions marks sound t None at step = absurd step
  row_mentions marks sound t (Some (Struct name fields)) at (i, field, below, here, ends) = in_struct name fields field at (i, below, here) (end_mentions marks sound field.shape ends)
  row_mentions marks sound t (Some (Union name components)) at (i, component, below, here, ends) = in_union name components component at (i, below, here) (end_mentions marks sound component ends)

  -- a type that mentions one that is not carried ends in closed marks
  mentions_end : (marks : List ℕ) → ((t : ℕ) → Contains (numbers_below (length types)) t → Step marks t → Contains marks t) → {s : Shape} → MentionsUncarried types s → EndsIn marks s
  mentions_end marks closed (builtin is) = is
  mentions_end marks closed endpoint = tt
  mentions_end marks closed (in_array m) = mentions_end marks closed m
  mentions_end marks closed (in_maybe m) = mentions_end marks closed m
  mentions_end marks closed (in_unique m) = mentions_end marks closed m
  mentions_end marks closed (in_struct {t} name fields field at (i, below, here) m) =
      closed t (is_below (length types) t (slice_get_within types t (Struct name fields) at))
      (subst (λ (row : Option TypeRow). IsSomeAnd row (RowStep marks)) (sym at) (i, field, below, here, mentions_end marks closed m))
  mentions_end marks closed (in_union {t} name components component at (i, below, here) m) =
      closed t (is_below (length types) t (slice_get_within types t (Union name components) at))
      (subst (λ (row : Option TypeRow). IsSomeAnd row (RowStep marks)) (sym at) (i, component, below, here, mentions_end marks closed m))

  mentions_or_not : (s : Shape) → MentionsUncarried types s ⊎ (MentionsUncarried types s → ⊥)
  mentions_or_not s =
      let end = closed_marks (numbers_below (length types)) (λ t. MentionsUncarried types (Named t)) Step (λ marks t. some_and_or_not (slice_get types t) (RowStep marks) (row_step_or_not marks)) (λ marks sound t step. row_mentions marks sound t (slice_get types t) refl step) in
      like_or_not (end_mentions end.0 end.1.sound s) (λ m. mentions_end end.0 end.1.closed m) (end_or_not end.0 s)

  abbrev SomeMention : List ParamRow → Type 0
  SomeMention params = Any (λ p. MentionsUncarried types p.shape) params

  some_mention_or_not : (params : List ParamRow) → SomeMention params ⊎ (SomeMention params → ⊥)
  some_mention_or_not params = any_or_not (λ p. MentionsUncarried types p.shape) (λ p. mentions_or_not p.shape) params

  -- whether parameters and returns mention no uncarried type
  pub carried_flag : (params : List ParamRow) (returns : Option (List ParamRow)) → (flag : Bool) × (IsTrue flag ↔ ¬ (SomeMention params ⊎ IsSomeAnd returns SomeMention))
  carried_flag params returns = elim (either_or_not (some_mention_or_not params) (some_and_or_not returns SomeMention some_mention_or_not)) [
    | inl some ↦ (false, (λ is. absurd (true≢false (sym is)), λ none. absurd (none some)))
    | inr none ↦ (true, (λ is. none, λ nor. refl))
  ]
