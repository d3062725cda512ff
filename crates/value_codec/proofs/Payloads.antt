-- The content of a payload is what is spelled there, and what is spelled is read again.
use Rattle.std.proofs.Common.{◌≡◌, ℕ, zero, suc, ℤ, pos, negsuc, Bool, true, false, cond, eqb, List, [], ◌∷◌, ◌++◌, replicate, Option, Some, None, Result, Ok, refl, sym, ap, subst, ◌∙◌, arith, unwrap_or}
use Rattle.std.proofs.lemmas.Bool.{eqb-true}
use Rattle.std.proofs.lemmas.Int.{ints}
use Rattle.std.proofs.lemmas.List.{append-nil}
use Rattle.std.specs.Int.{w32}
use Rattle.std.specs.Int.RustNames.{FitsSigned}
use Rattle.std.specs.List.{AllByRecursion}
use Rattle.ipdl_base.specs.declared.kinds.Reason.{Reason}
use Rattle.ipdl_base.specs.declared.kinds.Reason.TheVariants.{ChannelClosed, HandlerRejected, ActorDestroyed, ResolverDestroyed}
use Rattle.ipdl_base.specs.declared.kinds.Semantics.{Semantics}
use Rattle.ipdl_base.specs.declared.kinds.Semantics.TheVariants.{Async, Sync}
use Rattle.ipdl_base.specs.declared.message.Body.{Body}
use Rattle.ipdl_base.specs.declared.message.Body.TheVariants as body
use Rattle.ipdl_base.specs.declared.schema.Kind.{Kind}
use Rattle.ipdl_base.specs.declared.schema.Kind.TheVariants as kind
use Rattle.ipdl_base.specs.declared.schema.MessageRow.{MessageRow}
use Rattle.ipdl_base.specs.declared.schema.ParamRow.{ParamRow}
use Rattle.ipdl_base.specs.declared.schema.Schema.{Schema}
use Rattle.ipdl_base.specs.declared.value.Values.{Values}
use Rattle.ipdl_base.specs.Plain.{plain_values}
use Rattle.value_types.specs.declared.layout.Layout.{Layout}
use Rattle.value_types.specs.Fits.{all_actor_ids, IsCarriedId, IsLivingId, IsMadeBy, IsFaultOf}
use Rattle.value_types.specs.HasType.{HaveTypes}
use Rattle.value_types.specs.Sizes.{padding}
use Rattle.value_codec.specs.declared.fault.Fault.{Fault}
use Rattle.value_codec.specs.Frames.{made_at, ended, reason_of, resolver_reason, reason_in, reason_at, request_at, returns_at, fault_at}
use Rattle.value_codec.specs.Reading.{◌>>=◌, zeros, is_id, Inside, values_at, value_at}
use Rattle.value_codec.specs.Spelling.{part, reason_byte, made_bytes, request_bytes, reply_bytes, values_bytes}
use Rattle.value_codec.proofs.LittleEndian.{IsBytes}
use Rattle.value_codec.proofs.Signed.{fits_word, greatest_word}
use Rattle.value_codec.proofs.Taken.{bind_ok, moved, first_is, second_is, Takes, Takes-then, zeros_takes, zeros_again, part_takes, id_takes, id_again}
use Rattle.value_codec.proofs.ValuesRead.{ReadsSoundly, values_read}
use Rattle.value_codec.proofs.ValuesAgain.{IsRoomy, roomy_right, values_again}

-- Reasons

chain : (semantics : Semantics) (p q s : Bool) (b : ℕ) (r : Reason) → (p ≡ true → b ≡ 3) → (q ≡ true → b ≡ 4) → (s ≡ true → b ≡ 5)
    → cond p (Some HandlerRejected) (cond q (Some ActorDestroyed) (cond s (resolver_reason semantics) None)) ≡ Some r → (b ≡ reason_byte r) × IsFaultOf semantics r
chain semantics true q s b r three four five e = let same : HandlerRejected ≡ r = cc in subst (λ (r : Reason). (b ≡ reason_byte r) × IsFaultOf semantics r) same (three refl, tt)
chain semantics false true s b r three four five e = let same : ActorDestroyed ≡ r = cc in subst (λ (r : Reason). (b ≡ reason_byte r) × IsFaultOf semantics r) same (four refl, tt)
chain Async false false true b r three four five e = let same : ResolverDestroyed ≡ r = cc in subst (λ (r : Reason). (b ≡ reason_byte r) × IsFaultOf Async r) same (five refl, tt)
chain Sync false false true b r three four five e = absurd cc
chain semantics false false false b r three four five e = absurd cc

reason_means : (semantics : Semantics) (b : ℕ) (r : Reason) → reason_of semantics b ≡ Some r → (b ≡ reason_byte r) × IsFaultOf semantics r
reason_means semantics b r e = chain semantics (eqb b 3) (eqb b 4) (eqb b 5) b r (eqb-true b 3) (eqb-true b 4) (eqb-true b 5) e

reason_found : (layout : Layout) (semantics : Semantics) (b : ℕ) (bytes : List ℕ) (o : Option Reason) (r : Reason) (rest : List ℕ) → reason_of semantics b ≡ o → IsBytes bytes → reason_in layout o (b ∷ bytes) bytes ≡ Ok (r, rest)
    → Takes (b ∷ bytes) (part layout (reason_byte r ∷ [])) rest × IsFaultOf semantics r
unfolding reason_in
reason_found layout semantics b bytes None r rest is fits e = absurd cc
reason_found layout semantics b bytes (Some reason) r rest is fits e =
    let t = bind_ok (zeros (padding layout 1) bytes) (λ following. Ok (reason, following)) (r, rest) e in
    let means = reason_means semantics b reason is in
    let z = zeros_takes (padding layout 1) bytes t.0 fits t.1 in
    let whole = part_takes layout (b ∷ bytes) (reason_byte reason ∷ []) bytes t.0 (ap (λ (c : ℕ). c ∷ bytes) means.0) z in
    moved (λ (r : Reason) (rest : List ℕ). Takes (b ∷ bytes) (part layout (reason_byte r ∷ [])) rest × IsFaultOf semantics r) reason t.0 r rest t.2 (whole, means.1)

reason_takes : (layout : Layout) (semantics : Semantics) (bytes : List ℕ) (r : Reason) (rest : List ℕ) → IsBytes bytes → reason_at layout semantics bytes ≡ Ok (r, rest) → Takes bytes (part layout (reason_byte r ∷ [])) rest × IsFaultOf semantics r
unfolding reason_at
reason_takes layout semantics [] r rest fits e = absurd cc
reason_takes layout semantics (b ∷ bytes) r rest fits e = reason_found layout semantics b bytes (reason_of semantics b) r rest refl (λ i. fits (suc i)) e

reason_of-byte : (semantics : Semantics) (r : Reason) → IsFaultOf semantics r → reason_of semantics (reason_byte r) ≡ Some r
reason_of-byte semantics ChannelClosed h = absurd h
reason_of-byte semantics HandlerRejected h = refl
reason_of-byte semantics ActorDestroyed h = refl
reason_of-byte Async ResolverDestroyed h = refl
reason_of-byte Sync ResolverDestroyed h = absurd h

reason_again : (layout : Layout) (semantics : Semantics) (r : Reason) (rest : List ℕ) → IsFaultOf semantics r → reason_at layout semantics (part layout (reason_byte r ∷ []) ++ rest) ≡ Ok (r, rest)
unfolding reason_at reason_in
reason_again layout semantics r rest h =
    let bytes : List ℕ = part layout (reason_byte r ∷ []) ++ rest in
    let following : List ℕ = replicate (padding layout 1) 0 ++ rest in
    ap (λ (o : Option Reason). reason_in layout o bytes following) (reason_of-byte semantics r h)
    ∙ ap (λ (z : Result (List ℕ) Fault). z >>= λ b. Ok (r, b)) (zeros_again (padding layout 1) rest)

-- Ends

ended_ok : (S : ℤ → Body → Type 0) (made : ℤ) (b : Body) (bytes : List ℕ) (made' : ℤ) (b' : Body) → ended made b bytes ≡ Ok (made', b') → (bytes ≡ [] → S made b) → S made' b'
unfolding ended
ended_ok S made b [] made' b' e h = subst (λ y. S made' y) (second_is made b made' b' e) (subst (λ x. S x b) (first_is made b made' b' e) (h refl))
ended_ok S made b (x ∷ bytes) made' b' e h = absurd cc

nothing_left : (bytes text rest : List ℕ) → Takes bytes text rest → rest ≡ [] → bytes ≡ text
nothing_left bytes text rest t none = t.parts ∙ ap (λ (r : List ℕ). text ++ r) none ∙ append-nil text

-- The new actor of a constructor

living : (id : ℤ) → is_id false id ≡ true → FitsSigned w32 id → IsLivingId id
living (pos zero) e fits = absurd cc
living (pos (suc n)) e fits = (omega (arith, ints), greatest_word (pos (suc n)) fits)
living (negsuc n) e fits = absurd cc

made_takes : (k : Kind) (bytes : List ℕ) (made : ℤ) (rest : List ℕ) → IsBytes bytes → made_at k bytes ≡ Ok (made, rest) → Takes bytes (made_bytes k made) rest × IsMadeBy k made
unfolding made_at
made_takes kind.Normal bytes made rest fits e = moved (λ (made : ℤ) (rest : List ℕ). Takes bytes (made_bytes kind.Normal made) rest × IsMadeBy kind.Normal made) (pos 0) bytes made rest e (record { parts = refl; rest_fits = fits }, refl)
made_takes (kind.Constructor p) bytes made rest fits e = let t = id_takes false bytes made rest fits e in (t.takes, living made t.allowed t.fits)
made_takes kind.Delete bytes made rest fits e = moved (λ (made : ℤ) (rest : List ℕ). Takes bytes (made_bytes kind.Delete made) rest × IsMadeBy kind.Delete made) (pos 0) bytes made rest e (record { parts = refl; rest_fits = fits }, refl)

living_allowed : (id : ℤ) → IsLivingId id → is_id false id ≡ true
living_allowed (pos zero) h = absurd (omega (arith, ints, h.0))
living_allowed (pos (suc n)) h = refl
living_allowed (negsuc n) h = absurd (omega (arith, ints, h.0))

made_again : (k : Kind) (made : ℤ) (rest : List ℕ) → IsMadeBy k made → made_at k (made_bytes k made ++ rest) ≡ Ok (made, rest)
unfolding made_at
made_again kind.Normal made rest h = ap (λ (z : ℤ). Ok (z, rest)) (sym h)
made_again (kind.Constructor p) made rest h = id_again false made rest (fits_word made (omega (arith, ints, h.0)) h.1) (living_allowed made h)
made_again kind.Delete made rest h = ap (λ (z : ℤ). Ok (z, rest)) (sym h)

-- Bodies

pub request_read : (layout : Layout) (schema : Schema) (inside : Inside) (sound : ReadsSoundly layout schema inside) (row : MessageRow) (S : ℤ → Body → Type 0) (bytes : List ℕ) (made : ℤ) (b : Body) → IsBytes bytes → request_at inside row bytes ≡ Ok (made, b)
    → ((made : ℤ) (vs : Values) → bytes ≡ request_bytes layout schema made vs row → IsMadeBy row.kind made → HaveTypes schema row.params vs → AllByRecursion IsCarriedId (all_actor_ids vs) → S made (body.Request vs)) → S made b
unfolding request_at
request_read layout schema inside sound row S bytes made b fits e h =
    let m = bind_ok (made_at row.kind bytes) (λ made. values_at inside row.params made.1 >>= λ found. ended made.0 (body.Request found.0) found.1) (made, b) e in
    let v = bind_ok (values_at inside row.params m.0.1) (λ found. ended m.0.0 (body.Request found.0) found.1) (made, b) m.2 in
    let mt = made_takes row.kind bytes m.0.0 m.0.1 fits m.1 in
    let vt = values_read layout schema inside sound row.params m.0.1 v.0.0 v.0.1 mt.0.rest_fits v.1 in
    let whole = Takes-then bytes (made_bytes row.kind m.0.0) m.0.1 (values_bytes layout schema row.params v.0.0) v.0.1 mt.0 vt.takes in
    ended_ok S m.0.0 (body.Request v.0.0) v.0.1 made b v.2 (λ none. h m.0.0 v.0.0 (nothing_left bytes (request_bytes layout schema m.0.0 v.0.0 row) v.0.1 whole none) mt.1 vt.types vt.ids)

pub returns_read : (layout : Layout) (schema : Schema) (inside : Inside) (sound : ReadsSoundly layout schema inside) (row : MessageRow) (S : ℤ → Body → Type 0) (bytes : List ℕ) (made : ℤ) (b : Body) → IsBytes bytes → returns_at inside row bytes ≡ Ok (made, b)
    → ((vs : Values) → bytes ≡ reply_bytes layout schema vs row → HaveTypes schema (unwrap_or row.returns []) vs → AllByRecursion IsCarriedId (all_actor_ids vs) → S (pos 0) (body.Reply vs)) → S made b
unfolding returns_at
returns_read layout schema inside sound row S bytes made b fits e h =
    let v = bind_ok (values_at inside (unwrap_or row.returns []) bytes) (λ found. ended (pos 0) (body.Reply found.0) found.1) (made, b) e in
    let vt = values_read layout schema inside sound (unwrap_or row.returns []) bytes v.0.0 v.0.1 fits v.1 in
    ended_ok S (pos 0) (body.Reply v.0.0) v.0.1 made b v.2 (λ none. h v.0.0 (nothing_left bytes (reply_bytes layout schema v.0.0 row) v.0.1 vt.takes none) vt.types vt.ids)

pub fault_read : (layout : Layout) (row : MessageRow) (S : ℤ → Body → Type 0) (bytes : List ℕ) (made : ℤ) (b : Body) → IsBytes bytes → fault_at layout row bytes ≡ Ok (made, b)
    → ((r : Reason) → bytes ≡ part layout (reason_byte r ∷ []) → IsFaultOf row.semantics r → S (pos 0) (body.Fault r)) → S made b
unfolding fault_at
fault_read layout row S bytes made b fits e h =
    let r = bind_ok (reason_at layout row.semantics bytes) (λ reason. ended (pos 0) (body.Fault reason.0) reason.1) (made, b) e in
    let t = reason_takes layout row.semantics bytes r.0.0 r.0.1 fits r.1 in
    ended_ok S (pos 0) (body.Fault r.0.0) r.0.1 made b r.2 (λ none. h r.0.0 (nothing_left bytes (part layout (reason_byte r.0.0 ∷ [])) r.0.1 t.0 none) t.1)

pub goodbye_read : (S : ℤ → Body → Type 0) (bytes : List ℕ) (made : ℤ) (b : Body) → ended (pos 0) body.Goodbye bytes ≡ Ok (made, b) → (bytes ≡ [] → S (pos 0) body.Goodbye) → S made b
goodbye_read S bytes made b e h = ended_ok S (pos 0) body.Goodbye bytes made b e h

pub ended_again : (made : ℤ) (b : Body) → ended made b [] ≡ Ok (made, b)
unfolding ended
ended_again made b = refl

pub request_again : (layout : Layout) (schema : Schema) (depth : ℕ) (row : MessageRow) (made : ℤ) (vs : Values) → IsMadeBy row.kind made → HaveTypes schema row.params vs → AllByRecursion IsCarriedId (all_actor_ids vs) → IsRoomy depth (request_bytes layout schema made vs row)
    → request_at (value_at depth layout schema) row (request_bytes layout schema made vs row) ≡ Ok (made, body.Request (plain_values vs))
unfolding request_at
request_again layout schema depth row made vs is_made types ids room =
    let bytes : List ℕ = values_bytes layout schema row.params vs in
    let front : List ℕ = made_bytes row.kind made in
    let inside : Inside = value_at depth layout schema in
    let read = values_again layout schema vs row.params depth [] types ids (roomy_right depth front bytes room) in
    ap (λ (r : Result (ℤ × List ℕ) Fault). r >>= λ m. values_at inside row.params m.1 >>= λ found. ended m.0 (body.Request found.0) found.1) (made_again row.kind made bytes is_made)
    ∙ ap (λ (xs : List ℕ). values_at inside row.params xs >>= λ found. ended made (body.Request found.0) found.1) (sym (append-nil bytes))
    ∙ ap (λ (r : Result (Values × List ℕ) Fault). r >>= λ found. ended made (body.Request found.0) found.1) read
    ∙ ended_again made (body.Request (plain_values vs))

pub returns_again : (layout : Layout) (schema : Schema) (depth : ℕ) (row : MessageRow) (vs : Values) → HaveTypes schema (unwrap_or row.returns []) vs → AllByRecursion IsCarriedId (all_actor_ids vs) → IsRoomy depth (reply_bytes layout schema vs row)
    → returns_at (value_at depth layout schema) row (reply_bytes layout schema vs row) ≡ Ok (pos 0, body.Reply (plain_values vs))
unfolding returns_at
returns_again layout schema depth row vs types ids room =
    let fields : List ParamRow = unwrap_or row.returns [] in
    let bytes : List ℕ = values_bytes layout schema fields vs in
    let inside : Inside = value_at depth layout schema in
    ap (λ (xs : List ℕ). values_at inside fields xs >>= λ found. ended (pos 0) (body.Reply found.0) found.1) (sym (append-nil bytes))
    ∙ ap (λ (r : Result (Values × List ℕ) Fault). r >>= λ found. ended (pos 0) (body.Reply found.0) found.1) (values_again layout schema vs fields depth [] types ids room)
    ∙ ended_again (pos 0) (body.Reply (plain_values vs))

pub fault_again : (layout : Layout) (row : MessageRow) (r : Reason) → IsFaultOf row.semantics r → fault_at layout row (part layout (reason_byte r ∷ [])) ≡ Ok (pos 0, body.Fault r)
unfolding fault_at
fault_again layout row r h =
    ap (λ (xs : List ℕ). reason_at layout row.semantics xs >>= λ reason. ended (pos 0) (body.Fault reason.0) reason.1) (sym (append-nil (part layout (reason_byte r ∷ []))))
    ∙ ap (λ (z : Result (Reason × List ℕ) Fault). z >>= λ reason. ended (pos 0) (body.Fault reason.0) reason.1) (reason_again layout row.semantics r [] h)
    ∙ ended_again (pos 0) (body.Fault r)
