-- The schema of worked runs, and a proof that it is sound: calls of one protocol, in both directions, and one of the
-- highest level.
use Rattle.std.proofs.Common.{◌≡◌, ◌≢◌, ℕ, zero, suc, inl, inr, ◌+◌, ◌*◌, true, false, Some, None, List, [], ◌∷◌, codes, refl, subst, arith}
use Rattle.std.specs.List.{slice_get, AllPairs}
use Rattle.std.proofs.lemmas.Option.{same_Some}
use Rattle.std.proofs.lemmas.List.Elements.{All-nil}
use Rattle.ipdl_base.specs.declared.kinds.Compress.TheVariants as compress
use Rattle.ipdl_base.specs.declared.kinds.Direction.{Direction}
use Rattle.ipdl_base.specs.declared.kinds.Direction.TheVariants as direction
use Rattle.ipdl_base.specs.declared.kinds.Level.{Level}
use Rattle.ipdl_base.specs.declared.kinds.Level.TheVariants as level
use Rattle.ipdl_base.specs.declared.kinds.Semantics.TheVariants.{Sync}
use Rattle.ipdl_base.specs.declared.schema.Kind.TheVariants.{Normal}
use Rattle.ipdl_base.specs.declared.schema.MessageRow.{MessageRow}
use Rattle.ipdl_base.specs.declared.schema.ProtocolRow.{ProtocolRow}
use Rattle.ipdl_base.specs.declared.schema.Schema.{Schema}
use Rattle.ipdl_base.specs.Sound.{MessageMentionsUncarried, IsSoundMessage, IsSoundProtocol, IsSound}
use Rattle.ipdl_base.specs.Words.{IsWord, short_name}
use Rattle.ipdl_base.proofs.WorkedSchema.{differ}

-- a sync message without parameters and returns
abbrev call : ℕ → List ℕ → Direction → Level → MessageRow
call number name receiver of_level = record {
  number = number;
  name = name;
  direction = receiver;
  semantics = Sync;
  level = of_level;
  compress = compress.Plain;
  kind = Normal;
  params = [];
  returns = None;
  carried = true;
  lazy = false;
}

abbrev pub ask : ℕ
ask = 0

abbrev pub tell : ℕ
tell = 2

abbrev pub peek : ℕ
peek = 4

-- The child asks and peeks, the parent tells.
abbrev messages : List MessageRow
messages = call ask (codes "Ask") direction.Parent level.InsideSync ∷ call tell (codes "Tell") direction.Child level.InsideSync ∷ call peek (codes "Peek") direction.Parent level.InsideCpow ∷ []

abbrev talking : ProtocolRow
talking = record { name = codes "PTalk"; semantics = Sync; level = level.InsideCpow; managers = []; manages = []; messages = messages }

abbrev pub calling : Schema
calling = record { protocols = talking ∷ []; types = [] }

mentions_nothing : (number : ℕ) (name : List ℕ) (receiver : Direction) (of_level : Level) → ¬ MessageMentionsUncarried [] (call number name receiver of_level)
mentions_nothing number name receiver of_level (inl (k, param, low, is, m)) = absurd (omega (arith, low))
mentions_nothing number name receiver of_level (inr m) = m

sound_call : (i number : ℕ) (name : List ℕ) (receiver : Direction) (of_level : Level) → number ≡ 0 * 65536 + 2 * i → IsWord name → name ≢ codes "__delete__" → (of_level ≡ level.Not → receiver ≡ direction.Parent) → (of_level ≡ level.InsideCpow → receiver ≡ direction.Parent) → IsSoundMessage calling 0 talking i (call number name receiver of_level)
sound_call i number name receiver of_level is_number word other plain cpow = record {
  number = is_number;
  name = word;
  params = All-nil _;
  returns = tt;
  kind = (other, λ p among. absurd (omega (arith, among.1)));
  carried = ((λ t. mentions_nothing number name receiver of_level), λ none. refl);
  plain_sync = λ s l. plain l;
  inside_sync = λ l. refl;
  inside_cpow = λ l. cpow l;
  compressed = λ ne. absurd (ne refl);
  lazy = λ l. cc;
  delete = λ k. cc;
  constructor = λ made k s. cc;
}

sound_messages : (i : ℕ) (row : MessageRow) → slice_get messages i ≡ Some row → IsSoundMessage calling 0 talking i row
sound_messages zero row e = subst (IsSoundMessage calling 0 talking 0) (same_Some _ _ e) (sound_call 0 ask (codes "Ask") direction.Parent level.InsideSync refl refl (differ (codes "Ask") (codes "__delete__") refl) (λ l. refl) (λ l. refl))
sound_messages (suc zero) row e = subst (IsSoundMessage calling 0 talking 1) (same_Some _ _ e) (sound_call 1 tell (codes "Tell") direction.Child level.InsideSync refl refl (differ (codes "Tell") (codes "__delete__") refl) (λ l. cc) (λ l. cc))
sound_messages (suc (suc zero)) row e = subst (IsSoundMessage calling 0 talking 2) (same_Some _ _ e) (sound_call 2 peek (codes "Peek") direction.Parent level.InsideCpow refl refl (differ (codes "Peek") (codes "__delete__") refl) (λ l. refl) (λ l. refl))
sound_messages (suc (suc (suc i))) row e = cc

distinct_messages : AllPairs (λ a b. a.name ≢ b.name) messages
distinct_messages zero zero d lt low = absurd (omega arith)
distinct_messages zero (suc zero) d lt low = differ (codes "Ask") (codes "Tell") refl
distinct_messages zero (suc (suc zero)) d lt low = differ (codes "Ask") (codes "Peek") refl
distinct_messages zero (suc (suc (suc j))) d lt low = absurd (omega arith)
distinct_messages (suc zero) zero d lt low = absurd (omega arith)
distinct_messages (suc zero) (suc zero) d lt low = absurd (omega arith)
distinct_messages (suc zero) (suc (suc zero)) d lt low = differ (codes "Tell") (codes "Peek") refl
distinct_messages (suc zero) (suc (suc (suc j))) d lt low = absurd (omega arith)
distinct_messages (suc (suc i)) j d lt low = absurd (omega arith)

sound_talking : IsSoundProtocol calling 0 talking
sound_talking = record {
  name = (codes "PTalk", [], (refl, tt), refl);
  managers = All-nil _;
  manages = All-nil _;
  few = omega arith;
  messages = sound_messages;
  distinct = distinct_messages;
}

sound_protocols : (p : ℕ) (row : ProtocolRow) → slice_get calling.protocols p ≡ Some row → IsSoundProtocol calling p row
sound_protocols zero row e = subst (IsSoundProtocol calling 0) (same_Some _ _ e) sound_talking
sound_protocols (suc p) row e = cc

distinct_protocols : AllPairs (λ a b. short_name a.name ≢ short_name b.name) calling.protocols
distinct_protocols zero zero d lt low = absurd (omega arith)
distinct_protocols zero (suc j) d lt low = absurd (omega arith)
distinct_protocols (suc i) j d lt low = absurd (omega arith)

pub calling_is_sound : IsSound calling
calling_is_sound = record {
  few = omega arith;
  protocols = sound_protocols;
  types = All-nil _;
  defined = λ t low. absurd (omega (arith, low));
  distinct = distinct_protocols;
}
