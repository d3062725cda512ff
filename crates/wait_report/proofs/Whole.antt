-- The list of pairs is the report.
use Rattle.std.proofs.Common.{◌≡◌, inl, inr, ℕ, suc, ◌+◌, ◌*◌, ◌<◌, ◌≤◌, Bool, true, false, cond, List, [], ◌∷◌, ◌++◌, length, map, filter, flat_map, Some, refl, sym, subst, arith}
use Rattle.std.specs.List.{AllByRecursion, Contains, slice_get}
use Rattle.std.specs.declared.cmp.Ordering.TheVariants.{Less, Equal}
use Rattle.std.specs.Cmp.{nat_cmp_is}
use Rattle.std.specs.Ordering.{nat_cmp}
use Rattle.std.proofs.lemmas.List.Elements.{Contains-append_cases, Contains-append_left, Contains-append_right}
use Rattle.ipdl_base.specs.declared.kinds.Side.{Side}
use Rattle.ipdl_base.specs.declared.kinds.Side.TheVariants.{Parent, Child}
use Rattle.ipdl_base.specs.declared.schema.MessageRow.{MessageRow}
use Rattle.ipdl_base.specs.declared.schema.ProtocolRow.{ProtocolRow}
use Rattle.ipdl_base.specs.declared.schema.Schema.{Schema}
use Rattle.ipdl_base.specs.Sound.{IsSound, IsSoundProtocol}
use Rattle.wait_report.specs.declared.pair.Pair.{Pair}
use Rattle.wait_report.specs.declared.roles.Role.{Role}
use Rattle.wait_report.specs.declared.roles.Role.TheVariants.{Waits, Takes}
use Rattle.wait_report.specs.Least.{can_send, IsKnown, IsMessageOf}
use Rattle.wait_report.specs.Listed.{plays, is_player, numbers_in, numbers_of, pairs_under, pairs_at, pairs_of}
use Rattle.wait_report.specs.Pairs.{IsSendableOne, IsInterruption, side_rank, pair_cmp, IsReport}
use Rattle.wait_report.proofs.Complete.{both, is-sendable-message, known-exactly}
use Rattle.wait_report.proofs.Looks.{both-left, both-right}
use Rattle.wait_report.proofs.SchemaRows.{flat-there, flat-in, of-protocol, is-message}
use Rattle.wait_report.proofs.Sorting.{IsOrdered, all-both, all-kept, ordered-both, ordered-turned, all-pairs, map-in, map-there, filter-in, filter-there}

-- Numbers in order

-- numbers of a part of a range
abbrev AreWithin : ℕ → ℕ → List ℕ → Type 0
AreWithin low high numbers = AllByRecursion (λ n. (low ≤ n) × (n < high)) numbers

abbrev Rise : List ℕ → Type 0
Rise numbers = IsOrdered (λ a b. a < b) numbers

-- messages that are in a protocol, from a place on
abbrev StandFrom : ℕ → ℕ → List MessageRow → Type 0
StandFrom p i rows = (k : ℕ) (row : MessageRow) → slice_get rows k ≡ Some row → row.number ≡ p * 65536 + 2 * (i + k)

module _ (test : MessageRow → Bool) where
  abbrev chosen : List MessageRow → List ℕ
  chosen rows = map (λ row. row.number) (filter test rows)

  rows-within : (p i : ℕ) (rows : List MessageRow) → StandFrom p i rows → i + length rows ≤ 32768 → AreWithin (p * 65536 + 2 * i) (p * 65536 + 65536) (chosen rows)
  rows-within p i [] stand few = tt
  rows-within p i (row ∷ rows) stand few = by (test row) (rows-within p (i + 1) rows (λ k r is. omega (arith, stand (suc k) r is)) (omega (arith, few)))
    where
      number : row.number ≡ p * 65536 + 2 * (i + 0)
      number = stand 0 row refl

      more : AreWithin (p * 65536 + 2 * (i + 1)) (p * 65536 + 65536) (chosen rows) → AreWithin (p * 65536 + 2 * i) (p * 65536 + 65536) (chosen rows)
      more h = all-kept _ _ (chosen rows) (λ n w. (omega (arith, w.0), w.1)) h

      by : (b : Bool) → AreWithin (p * 65536 + 2 * (i + 1)) (p * 65536 + 65536) (chosen rows) → AreWithin (p * 65536 + 2 * i) (p * 65536 + 65536) (map (λ r. r.number) (cond b (row ∷ filter test rows) (filter test rows)))
      by true h = ((omega (arith, number), omega (arith, number, few)), more h)
      by false h = more h

  rows-rise : (p i : ℕ) (rows : List MessageRow) → StandFrom p i rows → i + length rows ≤ 32768 → Rise (chosen rows)
  rows-rise p i [] stand few = tt
  rows-rise p i (row ∷ rows) stand few = by (test row) (rows-rise p (i + 1) rows later (omega (arith, few))) (rows-within p (i + 1) rows later (omega (arith, few)))
    where
      number : row.number ≡ p * 65536 + 2 * (i + 0)
      number = stand 0 row refl

      later : StandFrom p (i + 1) rows
      later k r is = omega (arith, stand (suc k) r is)

      by : (b : Bool) → Rise (chosen rows) → AreWithin (p * 65536 + 2 * (i + 1)) (p * 65536 + 65536) (chosen rows) → Rise (map (λ r. r.number) (cond b (row ∷ filter test rows) (filter test rows)))
      by true h w = (all-kept _ _ (chosen rows) (λ n m. omega (arith, m.0, number)) w, h)
      by false h w = h

  -- protocols from a place on, each with its messages
  abbrev ProtocolsFrom : ℕ → List ProtocolRow → Type 0
  ProtocolsFrom p protocols = (k : ℕ) (protocol : ProtocolRow) → slice_get protocols k ≡ Some protocol → StandFrom (p + k) 0 protocol.messages × (0 + length protocol.messages ≤ 32768)

  abbrev all-chosen : List ProtocolRow → List ℕ
  all-chosen protocols = flat_map (λ protocol. chosen protocol.messages) protocols

  next-protocols : (p : ℕ) (protocol : ProtocolRow) (protocols : List ProtocolRow) → ProtocolsFrom p (protocol ∷ protocols) → ProtocolsFrom (p + 1) protocols
  next-protocols p protocol protocols h k q is = let here = h (suc k) q is in ((λ j row there. omega (arith, here.0 j row there)), here.1)

  first-rows : (p : ℕ) (protocol : ProtocolRow) (protocols : List ProtocolRow) → ProtocolsFrom p (protocol ∷ protocols) → StandFrom p 0 protocol.messages
  first-rows p protocol protocols h j row there = omega (arith, (h 0 protocol refl).0 j row there)

  protocols-high : (p : ℕ) (protocols : List ProtocolRow) → ProtocolsFrom p protocols → AllByRecursion (λ n. p * 65536 ≤ n) (all-chosen protocols)
  protocols-high p [] h = tt
  protocols-high p (protocol ∷ protocols) h =
      all-both _ (chosen protocol.messages) (all-chosen protocols)
      (all-kept _ _ (chosen protocol.messages) (λ n w. omega (arith, w.0)) (rows-within p 0 protocol.messages (first-rows p protocol protocols h) (h 0 protocol refl).1))
      (all-kept _ _ (all-chosen protocols) (λ n w. omega (arith, w)) (protocols-high (p + 1) protocols (next-protocols p protocol protocols h)))

  pub protocols-rise : (p : ℕ) (protocols : List ProtocolRow) → ProtocolsFrom p protocols → Rise (all-chosen protocols)
  protocols-rise p [] h = tt
  protocols-rise p (protocol ∷ protocols) h =
      let next : ProtocolsFrom (p + 1) protocols = next-protocols p protocol protocols h in
      let high : AllByRecursion (λ n. (p + 1) * 65536 ≤ n) (all-chosen protocols) = protocols-high (p + 1) protocols next in
      let within = rows-within p 0 protocol.messages (first-rows p protocol protocols h) (h 0 protocol refl).1 in
      ordered-both (λ a b. a < b) (chosen protocol.messages) (all-chosen protocols) (rows-rise p 0 protocol.messages (first-rows p protocol protocols h) (h 0 protocol refl).1) (protocols-rise (p + 1) protocols next)
      (all-kept _ _ (chosen protocol.messages) (λ n w. all-kept _ _ (all-chosen protocols) (λ m k. omega (arith, w.1, k)) high) within)

sound-protocols : (schema : Schema) → IsSound schema → ProtocolsFrom (λ row. true) 0 schema.protocols
sound-protocols schema sound k protocol is =
    let p : IsSoundProtocol schema k protocol = sound.protocols k protocol is in
    ((λ j row there. omega (arith, (p.messages j row there).number)), omega (arith, p.few))

-- Pairs in order

abbrev IsBefore : Pair → Pair → Type 0
IsBefore a b = pair_cmp a b ≡ Less

cmp-less : (a b : ℕ) → a < b → nat_cmp a b ≡ Less
cmp-less a b h = sym (nat_cmp_is a b Less h)

cmp-equal : (a : ℕ) → nat_cmp a a ≡ Equal
cmp-equal a = sym (nat_cmp_is a a Equal refl)

same-wait : (side : Side) (wait a b : ℕ) → a < b → IsBefore (record { side = side; waits = wait; takes = a }) (record { side = side; waits = wait; takes = b })
same-wait side wait a b h = rw (cmp-equal (side_rank side), cmp-equal wait, cmp-less a b h) refl

other-wait : (side : Side) (v w a b : ℕ) → v < w → IsBefore (record { side = side; waits = v; takes = a }) (record { side = side; waits = w; takes = b })
other-wait side v w a b h = rw (cmp-equal (side_rank side), cmp-less v w h) refl

parent-first : (a b : Pair) → a.side ≡ Parent → b.side ≡ Child → IsBefore a b
parent-first a b p c = rw (p, c, cmp-less 0 1 (omega arith)) refl

pairs-rise : (side : Side) (taken : List ℕ) (waiting : List ℕ) → Rise taken → Rise waiting → IsOrdered IsBefore (pairs_at side waiting taken)
pairs-rise side taken [] t w = tt
pairs-rise side taken (v ∷ waiting) t w =
    ordered-both IsBefore (pairs_under side taken v) (pairs_at side waiting taken)
    (ordered-turned (λ a b. a < b) IsBefore (λ n. record { side = side; waits = v; takes = n }) taken (λ a b h. same-wait side v a b h) t)
    (pairs-rise side taken waiting t w.1)
    (under taken)
  where
    later : (a : ℕ) (ws : List ℕ) → AllByRecursion (λ b. v < b) ws → AllByRecursion (IsBefore (record { side = side; waits = v; takes = a })) (pairs_at side ws taken)
    later a [] h = tt
    later a (x ∷ xs) h = all-both _ (pairs_under side taken x) (pairs_at side xs taken) (one taken) (later a xs h.1)
      where
        one : (ns : List ℕ) → AllByRecursion (IsBefore (record { side = side; waits = v; takes = a })) (pairs_under side ns x)
        one [] = tt
        one (n ∷ ns) = (other-wait side v x a n h.0, one ns)

    under : (ns : List ℕ) → AllByRecursion (λ p. AllByRecursion (IsBefore p) (pairs_at side waiting taken)) (pairs_under side ns v)
    under [] = tt
    under (n ∷ ns) = (later n waiting w.0, under ns)

side-is : (side : Side) (taken waiting : List ℕ) → AllByRecursion (λ p. p.side ≡ side) (pairs_at side waiting taken)
side-is side taken [] = tt
side-is side taken (v ∷ waiting) = all-both _ (pairs_under side taken v) (pairs_at side waiting taken) (one taken) (side-is side taken waiting)
  where
    one : (ns : List ℕ) → AllByRecursion (λ p. p.side ≡ side) (pairs_under side ns v)
    one [] = tt
    one (n ∷ ns) = (refl, one ns)

-- The elements of these lists

module _ (schema : Schema) (sound : IsSound schema) (top : ℕ) (types : List ℕ) (built : List Bool) (h : IsKnown schema top types built) where
  number-one : (role : Role) (side : Side) (n : ℕ) → Contains (numbers_of types built role side schema.protocols) n → IsSendableOne schema top (plays role side) n
  number-one role side n there =
      let p = flat-there (λ (protocol : ProtocolRow). numbers_in types built role side protocol.messages) schema.protocols n there in
      let r = map-there (λ (row : MessageRow). row.number) (filter (is_player types built role side) p.0.messages) n p.2 in
      let f = filter-there (is_player types built role side) p.0.messages r.0 r.1 in
      let of : IsMessageOf schema.protocols r.0 = (p.0, p.1, f.0) in
      record {
        row = r.0;
        number_is = r.2;
        sendable = (known-exactly schema top types built h r.0 (is-message schema sound r.0 of)).0 (both-right (plays role side r.0) (can_send types built r.0) f.1);
        passes = both-left (plays role side r.0) (can_send types built r.0) f.1;
      }

  one-number : (role : Role) (side : Side) (n : ℕ) → IsSendableOne schema top (plays role side) n → Contains (numbers_of types built role side schema.protocols) n
  one-number role side n one =
      let found = is-sendable-message schema top one.row one.sendable in
      let of = of-protocol schema one.row found in
      let player : is_player types built role side one.row ≡ true = both (plays role side one.row) (can_send types built one.row) one.passes ((known-exactly schema top types built h one.row found).1 one.sendable) in
      subst (Contains (numbers_of types built role side schema.protocols)) one.number_is
      (flat-in (λ (protocol : ProtocolRow). numbers_in types built role side protocol.messages) schema.protocols of.0 one.row.number of.1
      (map-in (λ (row : MessageRow). row.number) (filter (is_player types built role side) of.0.messages) one.row (filter-in (is_player types built role side) of.0.messages one.row of.2 player)))

  pair-there : (side : Side) (pair : Pair) → Contains (pairs_of types built schema.protocols side) pair → IsInterruption schema top pair
  pair-there side pair there =
      let w = flat-there (pairs_under side (numbers_of types built Takes side schema.protocols)) (numbers_of types built Waits side schema.protocols) pair there in
      let t = map-there (λ (number : ℕ). record { side = side; waits = w.0; takes = number }) (numbers_of types built Takes side schema.protocols) pair w.2 in
      subst (IsInterruption schema top) t.2 (record { waits = number-one Waits side w.0 w.1; takes = number-one Takes side t.0 t.1 })

  there-pair : (pair : Pair) → IsInterruption schema top pair → Contains (pairs_of types built schema.protocols pair.side) pair
  there-pair pair i =
      flat-in (pairs_under pair.side (numbers_of types built Takes pair.side schema.protocols)) (numbers_of types built Waits pair.side schema.protocols) pair.waits pair (one-number Waits pair.side pair.waits i.waits)
      (map-in (λ (number : ℕ). record { side = pair.side; waits = pair.waits; takes = number }) (numbers_of types built Takes pair.side schema.protocols) pair.takes (one-number Takes pair.side pair.takes i.takes))

  abbrev pub all : List Pair
  all = pairs_of types built schema.protocols Parent ++ pairs_of types built schema.protocols Child

  in-all : (side : Side) (pair : Pair) → Contains (pairs_of types built schema.protocols side) pair → Contains all pair
  in-all Parent pair there = Contains-append_left (pairs_of types built schema.protocols Parent) (pairs_of types built schema.protocols Child) pair there
  in-all Child pair there = Contains-append_right (pairs_of types built schema.protocols Parent) (pairs_of types built schema.protocols Child) pair there

  numbers-rise : (role : Role) (side : Side) → Rise (numbers_of types built role side schema.protocols)
  numbers-rise role side = protocols-rise (is_player types built role side) 0 schema.protocols (λ k protocol is. sound-protocols schema sound k protocol is)

  side-rises : (side : Side) → IsOrdered IsBefore (pairs_of types built schema.protocols side)
  side-rises side = pairs-rise side (numbers_of types built Takes side schema.protocols) (numbers_of types built Waits side schema.protocols) (numbers-rise Takes side) (numbers-rise Waits side)

  all-rise : IsOrdered IsBefore all
  all-rise =
      ordered-both IsBefore (pairs_of types built schema.protocols Parent) (pairs_of types built schema.protocols Child) (side-rises Parent) (side-rises Child)
      (all-kept _ _ (pairs_of types built schema.protocols Parent) (λ a p. all-kept _ _ (pairs_of types built schema.protocols Child) (λ b c. parent-first a b p c) (side-is Child (numbers_of types built Takes Child schema.protocols) (numbers_of types built Waits Child schema.protocols))) (side-is Parent (numbers_of types built Takes Parent schema.protocols) (numbers_of types built Waits Parent schema.protocols)))

  pub is-report : IsReport schema top all
  is-report = record {
    ordered = all-pairs IsBefore all all-rise;
    exact = λ pair. (
      λ there. elim (Contains-append_cases (pairs_of types built schema.protocols Parent) (pairs_of types built schema.protocols Child) pair there) [ inl p ↦ pair-there Parent pair p | inr c ↦ pair-there Child pair c ],
      λ i. in-all pair.side pair (there-pair pair i),
    );
  }
