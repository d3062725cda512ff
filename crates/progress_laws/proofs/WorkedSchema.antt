-- The schema of the worked weights, and a proof that it is sound: a lazy request with returns to the parent, and a
-- call by which the parent makes an actor.
use Rattle.std.proofs.Common.{◌≡◌, ◌≢◌, ℕ, zero, suc, inl, inr, ◌<◌, true, false, Some, None, [], ◌∷◌, codes, refl, sym, subst, arith}
use Rattle.std.specs.List.{slice_get, AllPairs, Contains}
use Rattle.std.proofs.lemmas.Option.{same_Some}
use Rattle.std.proofs.lemmas.List.Elements.{All-nil, All-from_recursion, All-contains}
use Rattle.ipdl_base.specs.declared.kinds.Compress.TheVariants as compress
use Rattle.ipdl_base.specs.declared.kinds.Direction.TheVariants as direction
use Rattle.ipdl_base.specs.declared.kinds.Level.TheVariants as level
use Rattle.ipdl_base.specs.declared.kinds.Semantics.TheVariants.{Async, Sync}
use Rattle.ipdl_base.specs.declared.schema.Kind.TheVariants.{Normal, Constructor}
use Rattle.ipdl_base.specs.declared.schema.MessageRow.{MessageRow}
use Rattle.ipdl_base.specs.declared.schema.ProtocolRow.{ProtocolRow}
use Rattle.ipdl_base.specs.declared.schema.Schema.{Schema}
use Rattle.ipdl_base.specs.Sound.{MessageMentionsUncarried, IsNamed, IsSoundMessage, IsSoundProtocol, IsSound}
use Rattle.ipdl_base.specs.Words.{short_name}
use Rattle.ipdl_base.proofs.WorkedSchema.{differ}

abbrev get : MessageRow
get = record {
  number = 0;
  name = codes "Get";
  direction = direction.Parent;
  semantics = Async;
  level = level.Not;
  compress = compress.Plain;
  kind = Normal;
  params = [];
  returns = Some [];
  carried = true;
  lazy = true;
}

abbrev make : MessageRow
make = record {
  number = 2;
  name = codes "PMade";
  direction = direction.Child;
  semantics = Sync;
  level = level.InsideSync;
  compress = compress.Plain;
  kind = Constructor 1;
  params = [];
  returns = None;
  carried = true;
  lazy = false;
}

abbrev maker : ProtocolRow
maker = record { name = codes "PMaker"; semantics = Sync; level = level.InsideSync; managers = []; manages = 1 ∷ []; messages = get ∷ make ∷ [] }

abbrev made : ProtocolRow
made = record { name = codes "PMade"; semantics = Async; level = level.Not; managers = 0 ∷ []; manages = []; messages = [] }

abbrev pub making : Schema
making = record { protocols = maker ∷ made ∷ []; types = [] }

get_mentions : ¬ MessageMentionsUncarried [] get
get_mentions (inl (k, param, low, is, m)) = absurd (omega (arith, low))
get_mentions (inr (k, param, low, is, m)) = absurd (omega (arith, low))

make_mentions : ¬ MessageMentionsUncarried [] make
make_mentions (inl (k, param, low, is, m)) = absurd (omega (arith, low))
make_mentions (inr m) = m

-- the maker manages the other protocol alone
only_managed : (p : ℕ) → Contains (1 ∷ []) p → p ≡ 1
only_managed p among = All-contains (λ (q : ℕ). q ≡ 1) (1 ∷ []) p (All-from_recursion (λ (q : ℕ). q ≡ 1) (1 ∷ []) (refl, tt)) among

makes_none : (p : ℕ) → Contains (1 ∷ []) p → ¬ IsNamed making.protocols p (codes "Get")
makes_none p among = subst (λ (q : ℕ). ¬ IsNamed making.protocols q (codes "Get")) (sym (only_managed p among)) (differ (codes "PMade") (codes "Get") refl)

sound_get : IsSoundMessage making 0 maker 0 get
sound_get = record {
  number = refl;
  name = refl;
  params = All-nil _;
  returns = All-nil _;
  kind = (differ (codes "Get") (codes "__delete__") refl, makes_none);
  carried = ((λ t. get_mentions), λ none. refl);
  plain_sync = λ s l. cc;
  inside_sync = λ l. cc;
  inside_cpow = λ l. cc;
  compressed = λ ne. absurd (ne refl);
  lazy = λ l. (refl, refl);
  delete = λ k. cc;
  constructor = λ made k s. cc;
}

sound_make : IsSoundMessage making 0 maker 1 make
sound_make = record {
  number = refl;
  name = refl;
  params = All-nil _;
  returns = tt;
  kind = (differ (codes "PMade") (codes "__delete__") refl, (0, omega arith, refl), refl);
  carried = ((λ t. make_mentions), λ none. refl);
  plain_sync = λ s l. cc;
  inside_sync = λ l. refl;
  inside_cpow = λ l. cc;
  compressed = λ ne. absurd (ne refl);
  lazy = λ l. cc;
  delete = λ k. cc;
  constructor = λ made k s. cc;
}

maker_messages : (i : ℕ) (row : MessageRow) → slice_get maker.messages i ≡ Some row → IsSoundMessage making 0 maker i row
maker_messages zero row e = subst (IsSoundMessage making 0 maker 0) (same_Some _ _ e) sound_get
maker_messages (suc zero) row e = subst (IsSoundMessage making 0 maker 1) (same_Some _ _ e) sound_make
maker_messages (suc (suc i)) row e = cc

distinct_messages : AllPairs (λ a b. a.name ≢ b.name) maker.messages
distinct_messages zero zero d lt low = absurd (omega arith)
distinct_messages zero (suc zero) d lt low = differ (codes "Get") (codes "PMade") refl
distinct_messages zero (suc (suc j)) d lt low = absurd (omega arith)
distinct_messages (suc i) zero d lt low = absurd (omega arith)
distinct_messages (suc i) (suc j) d lt low = absurd (omega arith)

sound_maker : IsSoundProtocol making 0 maker
sound_maker = record {
  name = (codes "PMaker", [], (refl, tt), refl);
  managers = All-nil _;
  manages = All-from_recursion (λ (m : ℕ). m < 2) (1 ∷ []) (omega arith, tt);
  few = omega arith;
  messages = maker_messages;
  distinct = distinct_messages;
}

sound_made : IsSoundProtocol making 1 made
sound_made = record {
  name = (codes "PMade", [], (refl, tt), refl);
  managers = All-from_recursion (λ (m : ℕ). m < 2) (0 ∷ []) (omega arith, tt);
  manages = All-nil _;
  few = omega arith;
  messages = λ i row e. cc;
  distinct = λ i j d lt low. absurd (omega arith);
}

sound_protocols : (p : ℕ) (row : ProtocolRow) → slice_get making.protocols p ≡ Some row → IsSoundProtocol making p row
sound_protocols zero row e = subst (IsSoundProtocol making 0) (same_Some _ _ e) sound_maker
sound_protocols (suc zero) row e = subst (IsSoundProtocol making 1) (same_Some _ _ e) sound_made
sound_protocols (suc (suc p)) row e = cc

distinct_protocols : AllPairs (λ a b. short_name a.name ≢ short_name b.name) making.protocols
distinct_protocols zero zero d lt low = absurd (omega arith)
distinct_protocols zero (suc zero) d lt low = differ (codes "PMaker") (codes "PMade") refl
distinct_protocols zero (suc (suc j)) d lt low = absurd (omega arith)
distinct_protocols (suc i) zero d lt low = absurd (omega arith)
distinct_protocols (suc i) (suc j) d lt low = absurd (omega arith)

pub making_is_sound : IsSound making
making_is_sound = record {
  few = omega arith;
  protocols = sound_protocols;
  types = All-nil _;
  defined = λ t low. absurd (omega (arith, low));
  distinct = distinct_protocols;
}
