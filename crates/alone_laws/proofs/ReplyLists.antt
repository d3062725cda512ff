-- Answers among packets and items, and promises that wait for them.
use Rattle.std.proofs.Common.{◌≡◌, ◌≢◌, ◌⊎◌, inl, inr, ℕ, ◌+◌, ℤ, Bool, true, false, ◌&&◌, cond, if◌then◌else◌, int_eq, find, List, [], ◌∷◌, ◌++◌, map, Option, Some, None, refl, sym, ap, subst, ◌∙◌}
use Rattle.std.specs.List.{AllByRecursion, filter_map, cons_option, slice_get}
use Rattle.std.specs.Option.{option_map_or}
use Rattle.std.proofs.lemmas.Bool.{false≢true}
use Rattle.std.proofs.lemmas.Bool.Decides.{Decides-int_eq}
use Rattle.std.proofs.lemmas.List.{append-nil}
use Rattle.std.proofs.lemmas.List.Elements.{filter_map-append}
use Rattle.ipdl_base.specs.declared.kinds.Reason.{Reason}
use Rattle.ipdl_base.specs.declared.kinds.Side.{Side}
use Rattle.ipdl_base.specs.declared.message.Body.{Body}
use Rattle.ipdl_base.specs.declared.message.Body.TheVariants.{Request, Reply, Fault, Goodbye}
use Rattle.ipdl_base.specs.declared.message.Message.{Message}
use Rattle.nesting_core.specs.declared.frame.Answer.{Answer}
use Rattle.nesting_core.specs.declared.frame.Answer.TheVariants as answer
use Rattle.pending_queue.specs.declared.item.Item.{Item}
use Rattle.pending_queue.specs.declared.item.Item.TheVariants as item
use Rattle.promise_table.specs.declared.promise.Outcome.{Outcome}
use Rattle.promise_table.specs.declared.promise.Promise.{Promise}
use Rattle.promise_table.specs.Promises.{has_number, is_pending}
use Rattle.channel_model.specs.Ends.{Packet, message, mark, PromiseEntry}
use Rattle.channel_model.specs.Falls.{passes, rejected, rejected_entry}
use Rattle.channel_model.specs.Numbers.{seq_of}
use Rattle.channel_model.specs.Outputs.{body_of}
use Rattle.channel_model.specs.Requests.{IsSeqOf}
use Rattle.channel_model.specs.Takes.{is_awaited, settled_entry}
use Rattle.channel_model.proofs.Numbered.{more_seqs, next-is_free}
use Rattle.channel_model.proofs.Known.{all-map}
use Rattle.channel_laws.proofs.Leaving.{TakenFrom}
use Rattle.channel_laws.proofs.Promising.{int-apart}
use Rattle.alone_laws.specs.KeptReplies.{item_answer, answers_in, BodyIsKnown, PacketIsKnown, ItemIsKnown}
use Rattle.alone_laws.specs.Received.{answer_in, answer_to, answers_to}

-- What a reply answers

pub answer-of : (a : Answer) (body : Body) → body ≡ body_of a → answer_in body ≡ Some a
answer-of (answer.Ok vs) body is = ap answer_in is
answer-of (answer.Fault why) body is = ap answer_in is

if-apart : (b : Bool) (o : Option Answer) → b ≡ false → (if b then o else None) ≡ None
if-apart true o e = cc
if-apart false o e = refl

if-same : (b : Bool) (o : Option Answer) → b ≡ true → (if b then o else None) ≡ o
if-same true o e = refl
if-same false o e = cc

if-none : (b : Bool) (o : Option Answer) → o ≡ None → (if b then o else None) ≡ None
if-none true o e = e
if-none false o e = refl

-- a packet answers only its own number
pub answer-apart : (n : ℤ) (m : Message) → m.seq ≢ n → answer_to n (message m) ≡ None
answer-apart n m apart = if-apart (int_eq m.seq n) (answer_in m.body) (int-apart m.seq n apart)

pub answer-same : (n : ℤ) (m : Message) (a : Answer) → m.seq ≡ n → m.body ≡ body_of a → answer_to n (message m) ≡ Some a
answer-same n m a same body = if-same (int_eq m.seq n) (answer_in m.body) ((Decides-int_eq m.seq n).1 same) ∙ answer-of a m.body body

pub answers-none : (n : ℤ) (m : Message) → answer_in m.body ≡ None → answer_to n (message m) ≡ None
answers-none n m none = if-none (int_eq m.seq n) (answer_in m.body) none

-- Lists

pub answers-last : (n : ℤ) (packets : List Packet) (p : Packet) → answers_to n (packets ++ p ∷ []) ≡ answers_to n packets ++ cons_option (answer_to n p) []
answers-last n packets p = filter_map-append (answer_to n) packets (p ∷ [])

pub answers-other : (n : ℤ) (packets : List Packet) (p : Packet) → answer_to n p ≡ None → answers_to n (packets ++ p ∷ []) ≡ answers_to n packets
answers-other n packets p none = answers-last n packets p ∙ (ap (λ (o : Option Answer). answers_to n packets ++ cons_option o []) none ∙ append-nil (answers_to n packets))

pub items-last : (n : ℤ) (items : List Item) (x : Item) → answers_in n (items ++ x ∷ []) ≡ answers_in n items ++ cons_option (item_answer n x) []
items-last n items x = filter_map-append (item_answer n) items (x ∷ [])

-- removing an item that answers nothing changes no answers
pub items-taken : (n : ℤ) (items rest : List Item) (x : Item) → TakenFrom items rest x → item_answer n x ≡ None → answers_in n rest ≡ answers_in n items
items-taken n items rest x t none =
    ap (answers_in n) t.left
    ∙ (filter_map-append (item_answer n) t.front t.back
    ∙ (ap (λ (o : Option Answer). answers_in n t.front ++ cons_option o (answers_in n t.back)) (sym none)
    ∙ (sym (filter_map-append (item_answer n) t.front (x ∷ t.back)) ∙ ap (answers_in n) (sym t.whole))))

-- the first element of a list that begins so
pub first-stays : (xs ys : List Answer) (a : Answer) → slice_get xs 0 ≡ Some a → slice_get (xs ++ ys) 0 ≡ Some a
first-stays [] ys a e = cc
first-stays (x ∷ xs) ys a e = e

-- Known replies

body-none : (side : Side) (count : ℕ) (n seq : ℤ) (b : Body) → BodyIsKnown side count seq b → n ≡ seq_of side (count + 1) → (if int_eq seq n then answer_in b else None) ≡ None
body-none side count n seq (Request vs) k is = if-none (int_eq seq n) None refl
body-none side count n seq (Reply vs) k is = if-apart (int_eq seq n) (Some (answer.Ok vs)) (int-apart seq n (λ e. next-is_free side count seq k (e ∙ is)))
body-none side count n seq (Fault why) k is = if-apart (int_eq seq n) (Some (answer.Fault why)) (int-apart seq n (λ e. next-is_free side count seq k (e ∙ is)))
body-none side count n seq Goodbye k is = if-none (int_eq seq n) None refl

packet-none : (side : Side) (count : ℕ) (n : ℤ) (p : Packet) → PacketIsKnown side count p → n ≡ seq_of side (count + 1) → answer_to n p ≡ None
packet-none side count n (message m) k is = body-none side count n m.seq m.body k is
packet-none side count n mark k is = refl

-- nothing answers the next request yet
pub none-yet : (side : Side) (count : ℕ) (n : ℤ) (packets : List Packet) → AllByRecursion (PacketIsKnown side count) packets → n ≡ seq_of side (count + 1) → answers_to n packets ≡ []
none-yet side count n [] h is = refl
none-yet side count n (p ∷ packets) h is = ap (λ (o : Option Answer). cons_option o (answers_to n packets)) (packet-none side count n p h.0 is) ∙ none-yet side count n packets h.1 is

item-none : (side : Side) (count : ℕ) (n : ℤ) (x : Item) → ItemIsKnown side count x → n ≡ seq_of side (count + 1) → item_answer n x ≡ None
item-none side count n (item.Message m sync level) k is = body-none side count n m.seq m.body k is
item-none side count n item.Broken k is = refl

pub none-arrived : (side : Side) (count : ℕ) (n : ℤ) (items : List Item) → AllByRecursion (ItemIsKnown side count) items → n ≡ seq_of side (count + 1) → answers_in n items ≡ []
none-arrived side count n [] h is = refl
none-arrived side count n (x ∷ items) h is = ap (λ (o : Option Answer). cons_option o (answers_in n items)) (item-none side count n x h.0 is) ∙ none-arrived side count n items h.1 is

body-more : (side : Side) (count : ℕ) (seq : ℤ) (b : Body) → BodyIsKnown side count seq b → BodyIsKnown side (count + 1) seq b
body-more side count seq (Request vs) k = tt
body-more side count seq (Reply vs) k = more_seqs side count seq k
body-more side count seq (Fault why) k = more_seqs side count seq k
body-more side count seq Goodbye k = tt

packet-more : (side : Side) (count : ℕ) (p : Packet) → PacketIsKnown side count p → PacketIsKnown side (count + 1) p
packet-more side count (message m) k = body-more side count m.seq m.body k
packet-more side count mark k = tt

item-more : (side : Side) (count : ℕ) (x : Item) → ItemIsKnown side count x → ItemIsKnown side (count + 1) x
item-more side count (item.Message m sync level) k = body-more side count m.seq m.body k
item-more side count item.Broken k = tt

pub packets-more : (side : Side) (count : ℕ) (packets : List Packet) → AllByRecursion (PacketIsKnown side count) packets → AllByRecursion (PacketIsKnown side (count + 1)) packets
packets-more side count packets = all-map (PacketIsKnown side count) (PacketIsKnown side (count + 1)) packets (packet-more side count)

pub items-more : (side : Side) (count : ℕ) (items : List Item) → AllByRecursion (ItemIsKnown side count) items → AllByRecursion (ItemIsKnown side (count + 1)) items
items-more side count items = all-map (ItemIsKnown side count) (ItemIsKnown side (count + 1)) items (item-more side count)

-- Promises that wait

-- a promise that waits after one more was made waits already, or is that one
pub awaited-last : (n : ℤ) (promises : List PromiseEntry) (new : PromiseEntry) → is_awaited n (promises ++ new ∷ []) ≡ true → (is_awaited n promises ≡ true) ⊎ (new.promise.seq ≡ n)
awaited-last n [] new e = by (int_eq new.promise.seq n) refl e
  where
    by : (b : Bool) → int_eq new.promise.seq n ≡ b → option_map_or (λ (x : PromiseEntry). is_pending x.promise) (cond b (Some new) None) false ≡ true → (false ≡ true) ⊎ (new.promise.seq ≡ n)
    by true is e = inr ((Decides-int_eq new.promise.seq n).0 is)
    by false is e = cc
awaited-last n (entry ∷ promises) new e = by (int_eq entry.promise.seq n) e (awaited-last n promises new)
  where
    by : (b : Bool) → option_map_or (λ (x : PromiseEntry). is_pending x.promise) (cond b (Some entry) (find (λ x. has_number n x.promise) (promises ++ new ∷ []))) false ≡ true
        → (is_awaited n (promises ++ new ∷ []) ≡ true → (is_awaited n promises ≡ true) ⊎ (new.promise.seq ≡ n))
        → (option_map_or (λ (x : PromiseEntry). is_pending x.promise) (cond b (Some entry) (find (λ x. has_number n x.promise) promises)) false ≡ true) ⊎ (new.promise.seq ≡ n)
    by true e rec = inl e
    by false e rec = rec e

-- a promise that waits after a rejection waited before
pub awaited-rejected : (n : ℤ) (test : Promise → Bool) (why : Reason) (promises : List PromiseEntry) → is_awaited n (rejected test why promises) ≡ true → is_awaited n promises ≡ true
awaited-rejected n test why [] e = cc
awaited-rejected n test why (entry ∷ promises) e = by (passes test entry) (int_eq entry.promise.seq n) refl e (awaited-rejected n test why promises)
  where
    by : (b c : Bool) → int_eq entry.promise.seq n ≡ c
        → option_map_or (λ (x : PromiseEntry). is_pending x.promise) (cond (has_number n (if b then rejected_entry why entry else entry).promise) (Some (if b then rejected_entry why entry else entry)) (find (λ x. has_number n x.promise) (rejected test why promises))) false ≡ true
        → (is_awaited n (rejected test why promises) ≡ true → is_awaited n promises ≡ true)
        → option_map_or (λ (x : PromiseEntry). is_pending x.promise) (cond c (Some entry) (find (λ x. has_number n x.promise) promises)) false ≡ true
    by true true is e rec =
        let z : false ≡ true = sym (ap (λ (x : Bool). option_map_or (λ (y : PromiseEntry). is_pending y.promise) (cond x (Some (rejected_entry why entry)) (find (λ y. has_number n y.promise) (rejected test why promises))) false) is) ∙ e in
        cc
    by true false is e rec = rec (sym (ap (λ (x : Bool). option_map_or (λ (y : PromiseEntry). is_pending y.promise) (cond x (Some (rejected_entry why entry)) (find (λ y. has_number n y.promise) (rejected test why promises))) false) is) ∙ e)
    by false true is e rec = sym (ap (λ (x : Bool). option_map_or (λ (y : PromiseEntry). is_pending y.promise) (cond x (Some entry) (find (λ y. has_number n y.promise) (rejected test why promises))) false) is) ∙ e
    by false false is e rec = rec (sym (ap (λ (x : Bool). option_map_or (λ (y : PromiseEntry). is_pending y.promise) (cond x (Some entry) (find (λ y. has_number n y.promise) (rejected test why promises))) false) is) ∙ e)

-- a promise that waits after a settling waited before, and is another
pub awaited-settled : (n k : ℤ) (outcome : Outcome) (promises : List PromiseEntry) → is_awaited n (map (settled_entry k outcome) promises) ≡ true → (is_awaited n promises ≡ true) × (k ≢ n)
awaited-settled n k outcome [] e = cc
awaited-settled n k outcome (entry ∷ promises) e = by (int_eq entry.promise.seq k) (is_pending entry.promise) (int_eq entry.promise.seq n) refl refl refl e (awaited-settled n k outcome promises)
  where
    later : List PromiseEntry
    later = map (settled_entry k outcome) promises

    by : (a b c : Bool) → int_eq entry.promise.seq k ≡ a → is_pending entry.promise ≡ b → int_eq entry.promise.seq n ≡ c
        → option_map_or (λ (x : PromiseEntry). is_pending x.promise)
        (cond (has_number n (if a && b then record entry.promise { outcome = Some outcome } else entry.promise)) (Some (record entry { promise = if a && b then record entry.promise { outcome = Some outcome } else entry.promise })) (find (λ x. has_number n x.promise) later)) false ≡ true
        → (is_awaited n later ≡ true → (is_awaited n promises ≡ true) × (k ≢ n))
        → (option_map_or (λ (x : PromiseEntry). is_pending x.promise) (cond c (Some entry) (find (λ x. has_number n x.promise) promises)) false ≡ true) × (k ≢ n)
    by true true true s p is e rec =
        let z : false ≡ true = sym (ap (λ (x : Bool). option_map_or (λ (y : PromiseEntry). is_pending y.promise) (cond x (Some (record entry { promise = record entry.promise { outcome = Some outcome } })) (find (λ y. has_number n y.promise) later)) false) is) ∙ e in
        cc
    by true true false s p is e rec = rec (sym (ap (λ (x : Bool). option_map_or (λ (y : PromiseEntry). is_pending y.promise) (cond x (Some (record entry { promise = record entry.promise { outcome = Some outcome } })) (find (λ y. has_number n y.promise) later)) false) is) ∙ e)
    by true false true s p is e rec =
        let z : false ≡ true = sym p ∙ (sym (ap (λ (x : Bool). option_map_or (λ (y : PromiseEntry). is_pending y.promise) (cond x (Some entry) (find (λ y. has_number n y.promise) later)) false) is) ∙ e) in
        cc
    by true false false s p is e rec = rec (sym (ap (λ (x : Bool). option_map_or (λ (y : PromiseEntry). is_pending y.promise) (cond x (Some entry) (find (λ y. has_number n y.promise) later)) false) is) ∙ e)
    by false b true s p is e rec = (
      sym (ap (λ (x : Bool). option_map_or (λ (y : PromiseEntry). is_pending y.promise) (cond x (Some entry) (find (λ y. has_number n y.promise) later)) false) is) ∙ e,
      λ same. false≢true (sym s ∙ (ap (int_eq entry.promise.seq) same ∙ is)),
    )
    by false b false s p is e rec = rec (sym (ap (λ (x : Bool). option_map_or (λ (y : PromiseEntry). is_pending y.promise) (cond x (Some entry) (find (λ y. has_number n y.promise) later)) false) is) ∙ e)
