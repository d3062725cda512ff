-- Arrivals and departures keep the reading of arrivals.
use Rattle.std.proofs.Common.{◌≡◌, ℕ, ◌+◌, ◌≤◌, ℤ, Bool, true, false, not, List, [], ◌∷◌, ◌++◌, map, Some, refl, sym, ap, subst, ◌∙◌, arith}
use Rattle.std.specs.List.{AllByRecursion}
use Rattle.std.proofs.lemmas.Bool.{false≢true}
use Rattle.std.proofs.lemmas.List.{map-append}
use Rattle.ipdl_base.specs.Deferral.{Arrival, reply, defers_arrival}
use Rattle.ipdl_base.specs.declared.kinds.Level.{Level}
use Rattle.ipdl_base.specs.declared.kinds.Side.{Side}
use Rattle.ipdl_base.specs.declared.message.Body.{Body}
use Rattle.ipdl_base.specs.declared.message.Body.TheVariants.{Request, Reply, Fault, Goodbye}
use Rattle.ipdl_base.specs.declared.message.Message.{Message}
use Rattle.ipdl_base.specs.declared.value.Values.{Values}
use Rattle.nesting_core.specs.declared.frame.Answer.{Answer}
use Rattle.nesting_core.specs.declared.frame.Answer.TheVariants as answer
use Rattle.pending_queue.specs.declared.deferral_context.DeferralContext.{DeferralContext}
use Rattle.pending_queue.specs.declared.item.Item.{Item}
use Rattle.pending_queue.specs.declared.item.Item.TheVariants as item
use Rattle.pending_queue.specs.DeferralContext.{is_free, arrival_of_body}
use Rattle.ipdl_base.specs.Sides.{other}
use Rattle.channel_model.specs.Numbers.{seq_of}
use Rattle.channel_model.specs.Outputs.{body_of}
use Rattle.channel_model.proofs.Known.{all-append}
use Rattle.history_reading.specs.declared.parts.PacketKind.{PacketKind}
use Rattle.history_reading.specs.declared.parts.PacketKind.TheVariants as kind
use Rattle.history_reading.specs.Numbers.{same_packet}
use Rattle.history_reading.specs.Reading as reads
use Rattle.channel_laws.specs.Delivered.{body_kind}
use Rattle.channel_laws.specs.Counts.{one_if, how_many, is_number, is_packet, AreNumberedOnce}
use Rattle.channel_laws.specs.Arrivals.{item_kind, ArrivalReading, requests_delivered, IsAsyncReply, IsNoSyncReply, HasArrivals}
use Rattle.channel_laws.proofs.Counting.{many-append, many-middle, many-last, none-passes, next-once, fewer-once}
use Rattle.channel_laws.proofs.Leaving.{TakenFrom, FirstTaken, ShowOthers, leaves-alike, same_packet-refl}

-- Arrivals

-- the reading when a packet is delivered, and when it has arrived too
abbrev pub delivering : PacketKind → ArrivalReading → ArrivalReading
delivering p a = record a { delivered = a.delivered ++ p ∷ [] }

abbrev pub arriving : PacketKind → ArrivalReading → ArrivalReading
arriving p a = record a { delivered = a.delivered ++ p ∷ []; arrived = a.arrived ++ p ∷ [] }

-- what arrives is counted as it is delivered
more-arrived : (side : Side) (items : List Item) (count next : ℕ) (a : ArrivalReading) (x : Item) → HasArrivals side items count a → IsNoSyncReply x → AreNumberedOnce (other side) next (requests_delivered (arriving (item_kind x) a)) → HasArrivals side (items ++ x ∷ []) next (arriving (item_kind x) a)
more-arrived side items count next a x h async numbered =
    let p : PacketKind = item_kind x in
    record {
      arrived = ap (λ (ps : List PacketKind). ps ++ p ∷ []) h.arrived ∙ sym (map-append item_kind items (x ∷ []));
      async = all-append IsNoSyncReply items (x ∷ []) h.async (async, tt);
      requests = λ n.
          let low = h.requests n in
          let d = many-last (is_packet (kind.Request n)) a.delivered p in
          let r = many-last (is_packet (kind.Request n)) a.arrived p in
          omega arith;
      replies = λ n.
          let low = h.replies n in
          let d = many-last (is_packet (kind.Reply n)) a.delivered p in
          let r = many-last (is_packet (kind.Reply n)) a.arrived p in
          omega arith;
      numbered = numbered;
    }

-- a request arrives, with the next number
pub request-arrives : (side : Side) (items : List Item) (count : ℕ) (a : ArrivalReading) (x : Item) (n : ℤ) → HasArrivals side items count a → IsNoSyncReply x → item_kind x ≡ kind.Request n → n ≡ seq_of (other side) (count + 1) → HasArrivals side (items ++ x ∷ []) (count + 1) (arriving (item_kind x) a)
request-arrives side items count a x n h async shows is =
    more-arrived side items count (count + 1) a x h async
    (next-once (other side) count (requests_delivered a) (requests_delivered (arriving (item_kind x) a)) n h.numbered is
    (λ m. many-last (is_packet (kind.Request m)) a.delivered (item_kind x) ∙ ap (λ (p : PacketKind). requests_delivered a m + one_if (same_packet p (kind.Request m))) shows))

-- what is no request
abbrev pub IsNoRequest : PacketKind → Type 0
IsNoRequest p = (m : ℤ) → same_packet p (kind.Request m) ≡ false

same-delivered : (count : ℕ) (a : ArrivalReading) (p : PacketKind) → IsNoRequest p → (m : ℤ) → requests_delivered (delivering p a) m ≤ requests_delivered a m
same-delivered count a p not_request m =
    let d = many-last (is_packet (kind.Request m)) a.delivered p in
    let z : one_if (same_packet p (kind.Request m)) ≡ 0 = ap one_if (not_request m) in
    omega arith

-- anything else arrives
pub other-arrives : (side : Side) (items : List Item) (count : ℕ) (a : ArrivalReading) (x : Item) → HasArrivals side items count a → IsNoSyncReply x → IsNoRequest (item_kind x) → HasArrivals side (items ++ x ∷ []) count (arriving (item_kind x) a)
other-arrives side items count a x h async not_request =
    more-arrived side items count count a x h async
    (fewer-once (other side) count (requests_delivered a) (requests_delivered (arriving (item_kind x) a)) h.numbered (same-delivered count a (item_kind x) not_request))

-- a reply is delivered and does not arrive
pub reply-delivered : (side : Side) (items : List Item) (count : ℕ) (a : ArrivalReading) (n : ℤ) → HasArrivals side items count a → HasArrivals side items count (delivering (kind.Reply n) a)
reply-delivered side items count a n h = record {
  arrived = h.arrived;
  async = h.async;
  requests = λ m. let low = h.requests m in let d = many-last (is_packet (kind.Request m)) a.delivered (kind.Reply n) in omega arith;
  replies = λ m. let low = h.replies m in let d = many-last (is_packet (kind.Reply m)) a.delivered (kind.Reply n) in omega arith;
  numbered = fewer-once (other side) count (requests_delivered a) (requests_delivered (delivering (kind.Reply n) a)) h.numbered (same-delivered count a (kind.Reply n) (λ m. refl));
}

-- nothing more has arrived
pub nothing-arrived : (side : Side) (items : List Item) (count : ℕ) (a : ArrivalReading) → HasArrivals side items count a → HasArrivals side [] count (record a { arrived = [] })
nothing-arrived side items count a h = record {
  arrived = refl;
  async = tt;
  requests = λ m. let low = h.requests m in omega arith;
  replies = λ m. let low = h.replies m in omega arith;
  numbered = h.numbered;
}

-- Leaving

pub leaves-count : (test : PacketKind → Bool) (items rest : List Item) (x : Item) → TakenFrom items rest x → how_many test (map item_kind items) ≡ one_if (test (item_kind x)) + how_many test (map item_kind rest)
leaves-count test items rest x t =
    ap (λ (xs : List Item). how_many test (map item_kind xs)) t.whole
    ∙ (ap (how_many test) (map-append item_kind t.front (x ∷ t.back))
    ∙ (many-middle test (map item_kind t.front) (item_kind x) (map item_kind t.back)
    ∙ ap (λ (ps : List PacketKind). one_if (test (item_kind x)) + how_many test ps) (sym (map-append item_kind t.front t.back) ∙ ap (map item_kind) (sym t.left))))

all-left : (P : Item → Type 0) (front back : List Item) (x : Item) → AllByRecursion P (front ++ x ∷ back) → AllByRecursion P (front ++ back)
all-left P [] back x h = h.1
all-left P (y ∷ front) back x h = (h.0, all-left P front back x h.1)

all-taken : (P : Item → Type 0) (items rest : List Item) (x : Item) → TakenFrom items rest x → AllByRecursion P items → AllByRecursion P rest
all-taken P items rest x t h = subst (AllByRecursion P) (sym t.left) (all-left P t.front t.back x (subst (AllByRecursion P) t.whole h))

-- An item that leaves, with the packet that it shows, where no item before it shows the same.
pub record Leaves (items rest : List Item) (x : Item) (p : PacketKind) : Type 0 where
  pub taken : TakenFrom items rest x
  pub shows : item_kind x ≡ p
  pub others : ShowOthers x taken.front

module _ (side : Side) (items rest : List Item) (count : ℕ) (a : ArrivalReading) (x : Item) where
  left-arrived : (p : PacketKind) → HasArrivals side items count a → Leaves items rest x p → reads.without_first p a.arrived ≡ map item_kind rest
  left-arrived p h l =
      ap (reads.without_first p) h.arrived
      ∙ (ap (λ (q : PacketKind). reads.without_first q (map item_kind items)) (sym l.shows) ∙ leaves-alike items rest x l.taken l.others)

  pub left-count : (p : PacketKind) (test : PacketKind → Bool) → HasArrivals side items count a → Leaves items rest x p → how_many test a.arrived ≡ one_if (test p) + how_many test (reads.without_first p a.arrived)
  left-count p test h l =
      ap (how_many test) h.arrived
      ∙ (leaves-count test items rest x l.taken
      ∙ (ap (λ (q : PacketKind). one_if (test q) + how_many test (map item_kind rest)) l.shows ∙ ap (λ (ps : List PacketKind). one_if (test p) + how_many test ps) (sym (left-arrived p h l))))

  -- a request leaves for good
  pub request-goes : (n : ℤ) → HasArrivals side items count a → Leaves items rest x (kind.Request n) → HasArrivals side rest count (record a { arrived = reads.without_first (kind.Request n) a.arrived; gone = a.gone ++ n ∷ [] })
  request-goes n h l = record {
    arrived = left-arrived (kind.Request n) h l;
    async = all-taken IsNoSyncReply items rest x l.taken h.async;
    requests = λ m.
        let low = h.requests m in
        let c = left-count (kind.Request n) (is_packet (kind.Request m)) h l in
        let g = many-last (is_number m) a.gone n in
        omega arith;
    replies = λ m. let low = h.replies m in let c = left-count (kind.Request n) (is_packet (kind.Reply m)) h l in omega arith;
    numbered = h.numbered;
  }

  -- a request is replaced
  pub request-replaced : (n : ℤ) → HasArrivals side items count a → Leaves items rest x (kind.Request n) → HasArrivals side rest count (record a { arrived = reads.without_first (kind.Request n) a.arrived; replaced = a.replaced ++ n ∷ [] })
  request-replaced n h l = record {
    arrived = left-arrived (kind.Request n) h l;
    async = all-taken IsNoSyncReply items rest x l.taken h.async;
    requests = λ m.
        let low = h.requests m in
        let c = left-count (kind.Request n) (is_packet (kind.Request m)) h l in
        let g = many-last (is_number m) a.replaced n in
        omega arith;
    replies = λ m. let low = h.replies m in let c = left-count (kind.Request n) (is_packet (kind.Reply m)) h l in omega arith;
    numbered = h.numbered;
  }

  -- a reply is taken
  pub reply-leaves : (n : ℤ) → HasArrivals side items count a → Leaves items rest x (kind.Reply n) → HasArrivals side rest count (record a { arrived = reads.without_first (kind.Reply n) a.arrived; replies = a.replies ++ n ∷ [] })
  reply-leaves n h l = record {
    arrived = left-arrived (kind.Reply n) h l;
    async = all-taken IsNoSyncReply items rest x l.taken h.async;
    requests = λ m. let low = h.requests m in let c = left-count (kind.Reply n) (is_packet (kind.Request m)) h l in omega arith;
    replies = λ m.
        let low = h.replies m in
        let c = left-count (kind.Reply n) (is_packet (kind.Reply m)) h l in
        let g = many-last (is_number m) a.replies n in
        omega arith;
    numbered = h.numbered;
  }

  -- a request that leaves is the only one of its number
  pub request-alone : (n : ℤ) → HasArrivals side items count a → (t : TakenFrom items rest x) → item_kind x ≡ kind.Request n → ShowOthers x t.front
  request-alone n h t shows =
      let once = h.numbered.once n in
      let low = h.requests n in
      let same : how_many (is_packet (kind.Request n)) a.arrived ≡ how_many (is_packet (kind.Request n)) (map item_kind t.front ++ item_kind x ∷ map item_kind t.back) = ap (how_many (is_packet (kind.Request n))) (h.arrived ∙ (ap (map item_kind) t.whole ∙ map-append item_kind t.front (x ∷ t.back))) in
      let c = many-append (is_packet (kind.Request n)) (map item_kind t.front) (item_kind x ∷ map item_kind t.back) in
      let one : one_if (same_packet (item_kind x) (kind.Request n)) ≡ 1 = ap (λ (p : PacketKind). one_if (same_packet p (kind.Request n))) shows ∙ ap one_if (same_packet-refl (kind.Request n)) in
      subst (λ (p : PacketKind). AllByRecursion (λ q. same_packet q p ≡ false) (map item_kind t.front)) (sym shows) (none-passes (is_packet (kind.Request n)) (map item_kind t.front) (omega arith))

-- no reply before the first free one shows the same packet: it would be free as well

-- No reply before the first free one shows the same packet, since it would be free as well.

-- what is deferred, by what arrives
abbrev defers : DeferralContext → Arrival → Bool
defers holding arrival = defers_arrival holding.side holding.level (Some holding.transaction) arrival

shows-other : (holding : DeferralContext) (s : Bool) (level : Level) (transaction seq n : ℤ) (body : Body) → not (defers holding (reply false)) ≡ true → IsAsyncReply s body → not (defers holding (arrival_of_body s level transaction body)) ≡ false → same_packet (body_kind seq body) (kind.Reply n) ≡ false
shows-other holding s level transaction seq n (Request vs) free async deferred = refl
shows-other holding s level transaction seq n (Reply vs) free async deferred = absurd (false≢true (sym deferred ∙ (ap (λ (b : Bool). not (defers holding (reply b))) async ∙ free)))
shows-other holding s level transaction seq n (Fault reason) free async deferred = absurd (false≢true (sym deferred ∙ (ap (λ (b : Bool). not (defers holding (reply b))) async ∙ free)))
shows-other holding s level transaction seq n Goodbye free async deferred = refl

item-shows-other : (holding : DeferralContext) (n : ℤ) (y : Item) → not (defers holding (reply false)) ≡ true → IsNoSyncReply y → is_free holding y ≡ false → same_packet (item_kind y) (kind.Reply n) ≡ false
item-shows-other holding n (item.Message m s level) free async deferred = shows-other holding s level m.transaction m.seq n m.body free async deferred
item-shows-other holding n item.Broken free async deferred = refl

all-show-others : (holding : DeferralContext) (n : ℤ) (items : List Item) → not (defers holding (reply false)) ≡ true → AllByRecursion IsNoSyncReply items → AllByRecursion (λ y. is_free holding y ≡ false) items → AllByRecursion (λ q. same_packet q (kind.Reply n) ≡ false) (map item_kind items)
all-show-others holding n [] free async deferred = tt
all-show-others holding n (y ∷ items) free async deferred = (item-shows-other holding n y free async.0 deferred.0, all-show-others holding n items free async.1 deferred.1)

all-front : (P : Item → Type 0) (front back : List Item) (x : Item) → AllByRecursion P (front ++ x ∷ back) → AllByRecursion P front × P x
all-front P [] back x h = (tt, h.0)
all-front P (y ∷ front) back x h = let r = all-front P front back x h.1 in ((h.0, r.0), r.1)

reply-free : (holding : DeferralContext) (sync : Bool) (level : Level) (transaction : ℤ) (a : Answer) (body : Body) → body ≡ body_of a → IsAsyncReply sync body → not (defers holding (arrival_of_body sync level transaction body)) ≡ true → not (defers holding (reply false)) ≡ true
reply-free holding sync level transaction (answer.Ok vs) body is async free =
    let none : sync ≡ false = subst (IsAsyncReply sync) is async in
    sym (ap (λ (b : Body). not (defers holding (arrival_of_body sync level transaction b))) is ∙ ap (λ (b : Bool). not (defers holding (reply b))) none) ∙ free
reply-free holding sync level transaction (answer.Fault reason) body is async free =
    let none : sync ≡ false = subst (IsAsyncReply sync) is async in
    sym (ap (λ (b : Body). not (defers holding (arrival_of_body sync level transaction b))) is ∙ ap (λ (b : Bool). not (defers holding (reply b))) none) ∙ free

-- what a message shows, by its body
pub request-kind : (seq : ℤ) (vs : Values) (body : Body) → body ≡ Request vs → body_kind seq body ≡ kind.Request seq
request-kind seq vs body is = ap (body_kind seq) is

pub reply-kind : (seq : ℤ) (a : Answer) (body : Body) → body ≡ body_of a → body_kind seq body ≡ kind.Reply seq
reply-kind seq (answer.Ok vs) body is = ap (body_kind seq) is
reply-kind seq (answer.Fault reason) body is = ap (body_kind seq) is

pub reply-alone : (holding : DeferralContext) (items : List Item) (m : Message) (sync : Bool) (level : Level) (a : Answer) → (f : FirstTaken (is_free holding) items (item.Message m sync level)) → AllByRecursion IsNoSyncReply items → m.body ≡ body_of a → ShowOthers (item.Message m sync level) f.taken.front
reply-alone holding items m sync level a f async body =
    let all = all-front IsNoSyncReply f.taken.front f.taken.back (item.Message m sync level) (subst (AllByRecursion IsNoSyncReply) f.taken.whole async) in
    subst (λ (p : PacketKind). AllByRecursion (λ q. same_packet q p ≡ false) (map item_kind f.taken.front)) (sym (reply-kind m.seq a m.body body))
    (all-show-others holding m.seq f.taken.front (reply-free holding sync level m.transaction a m.body body all.1 f.passes) all.0 f.others)
