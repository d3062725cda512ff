-- While an end is open it may answer by a resolver until it has done so: how the changes of a step keep that.
use Rattle.std.proofs.Common.{◌≡◌, ◌≢◌, ℕ, ◌+◌, ◌≤◌, inl, inr, ℤ, Bool, true, false, not, ◌&&◌, ◌||◌, cond, List, [], ◌∷◌, ◌++◌, filter, find, map, Option, Some, None, option_map, refl, sym, ap, subst, ◌∙◌}
use Rattle.std.specs.List.{AllByRecursion}
use Rattle.std.specs.Str.{bytes_eq}
use Rattle.std.proofs.lemmas.Bool.{cases_Bool}
use Rattle.std.proofs.lemmas.Option.{same_Some}
use Rattle.std.proofs.lemmas.Slice.Eq.{bytes_eq-Decides}
use Rattle.ipdl_base.specs.declared.kinds.Reason.TheVariants.{ResolverDestroyed}
use Rattle.ipdl_base.specs.declared.line.What.{What}
use Rattle.ipdl_base.specs.declared.message.Message.{Message}
use Rattle.ipdl_base.specs.declared.schema.Kind.{Kind}
use Rattle.ipdl_base.specs.declared.schema.Kind.TheVariants.{Normal, Constructor, Delete}
use Rattle.nesting_core.specs.declared.frame.Answer.{Answer}
use Rattle.nesting_core.specs.declared.frame.Answer.TheVariants as answer
use Rattle.nesting_core.specs.Frames.{head_of, is_dispatch}
use Rattle.pending_queue.specs.declared.item.Item.{Item}
use Rattle.channel_model.specs.Answers.{has_resolver, resolver_in, released}
use Rattle.channel_model.specs.Ends.{Packet, message, StackEntry, Naming, NameContent, actor, resolver, Resolver}
use Rattle.channel_model.specs.Falls as falls
use Rattle.channel_model.specs.Names.{has_name, held_by_name, without_name, let_go, holding}
use Rattle.channel_model.specs.Outputs.{Output, Change, is_open, ◌▷◌, when, line, put, AnsweredRequest, answered, answer_line, request_answered, resolver_answered, reply_to, body_of}
use Rattle.channel_model.specs.Sends as sends
use Rattle.channel_model.proofs.Known.{all-append, all-filter}
use Rattle.channel_laws.specs.AnswersOnce.{owes_answer}
use Rattle.channel_laws.specs.Counts.{how_many}
use Rattle.channel_laws.specs.Notes.{In, here, there}
use Rattle.channel_laws.proofs.Growing.{in-before, in-following}
use Rattle.progress_laws.specs.Promises.{BringsResolver, AnswersFor}
use Rattle.progress_laws.proofs.Members.{only-found}

-- Names

-- no two names are the same
abbrev pub NamesDiffer : List Naming → Type 0
NamesDiffer [] = Unit {0}
NamesDiffer (naming ∷ names) = AllByRecursion (λ later. later.name ≢ naming.name) names × NamesDiffer names

pub filter-differ : (test : Naming → Bool) (names : List Naming) → NamesDiffer names → NamesDiffer (filter test names)
filter-differ test [] h = tt
filter-differ test (naming ∷ names) h = by (test naming) (all-filter (λ later. later.name ≢ naming.name) test names h.0) (filter-differ test names h.1)
  where
    by : (b : Bool) → AllByRecursion (λ later. later.name ≢ naming.name) (filter test names) → NamesDiffer (filter test names) → NamesDiffer (cond b (naming ∷ filter test names) (filter test names))
    by true first rest = (first, rest)
    by false first rest = rest

-- a name that no other has goes last
differ-last : (names : List Naming) (last : Naming) → NamesDiffer names → AllByRecursion (λ naming. last.name ≢ naming.name) names → NamesDiffer (names ++ last ∷ [])
differ-last [] last h new = (tt, tt)
differ-last (naming ∷ names) last h new = (all-append (λ later. later.name ≢ naming.name) names (last ∷ []) h.0 (new.0, tt), differ-last names last h.1 new.1)

without-new : (name : List ℕ) (names : List Naming) → AllByRecursion (λ naming. name ≢ naming.name) (without_name name names)
without-new name [] = tt
without-new name (naming ∷ names) = by (has_name name naming) refl (without-new name names)
  where
    by : (b : Bool) → has_name name naming ≡ b → AllByRecursion (λ naming. name ≢ naming.name) (without_name name names) → AllByRecursion (λ naming. name ≢ naming.name) (cond (not b) (naming ∷ without_name name names) (without_name name names))
    by true is rest = rest
    by false is rest = ((λ same. let k : bytes_eq naming.name name ≡ true = (bytes_eq-Decides naming.name name).1 (sym same) in let l : true ≡ false = sym k ∙ is in cc), rest)

pub holding-differ : (name : List ℕ) (holds : Option NameContent) (names : List Naming) → NamesDiffer names → NamesDiffer (without_name name names ++ holding name holds)
holding-differ name None names h = append-none (without_name name names) (filter-differ _ names h)
  where
    append-none : (names : List Naming) → NamesDiffer names → NamesDiffer (names ++ [])
    append-none [] h = tt
    append-none (naming ∷ names) h = (all-append (λ later. later.name ≢ naming.name) names [] h.0 tt, append-none names h.1)
holding-differ name (Some holds) names h = differ-last (without_name name names) (record { name = name; holds = holds }) (filter-differ _ names h) (without-new name names)

-- where names differ, a name finds its content
pub name-finds : (name : List ℕ) (names : List Naming) (naming : Naming) → NamesDiffer names → In naming names → has_name name naming ≡ true → held_by_name name names ≡ Some naming.holds
name-finds name [] naming h i is = elim i [ ]
name-finds name (first ∷ names) naming h here is = ap (λ (b : Bool). option_map (λ (x : Naming). x.holds) (cond b (Some naming) (find (has_name name) names))) is
name-finds name (first ∷ names) naming h (there i) is = elim (cases_Bool (has_name name first)) [
  | inl found ↦ absurd (other names i h.0 ((bytes_eq-Decides naming.name name).0 is ∙ sym ((bytes_eq-Decides first.name name).0 found)))
  | inr not_found ↦ ap (λ (b : Bool). option_map (λ (x : Naming). x.holds) (cond b (Some first) (find (has_name name) names))) not_found ∙ name-finds name names naming h.1 i is
]
  where
    other : (names : List Naming) → In naming names → AllByRecursion (λ later. later.name ≢ first.name) names → naming.name ≢ first.name
    other [] i h = elim i [ ]
    other (x ∷ xs) here h = h.0
    other (x ∷ xs) (there i) h = other xs i h.1

-- Stacks

-- a frame whose resolver is not the one that is used or kept stays as it is
pub in-released : (seq : ℤ) (stack : List StackEntry) (entry : StackEntry) → In entry stack → has_resolver seq entry ≡ false → In entry (released seq stack)
in-released seq [] entry i other = elim i [ ]
in-released seq (first ∷ stack) entry here other = subst (λ (b : Bool). In entry (cond b (record entry { resolves = false }) entry ∷ released seq stack)) (sym other) here
in-released seq (first ∷ stack) entry (there i) other = there (in-released seq stack entry i other)

-- a frame that has a resolver owes an answer
resolver-owes : (seq : ℤ) (entry : StackEntry) → has_resolver seq entry ≡ true → owes_answer seq entry ≡ true
resolver-owes seq entry = by (is_dispatch entry.frame) entry.resolves (head_of entry.frame).sync _
  where
    by : (dispatch resolves sync same : Bool) → dispatch && (resolves && same) ≡ true → dispatch && ((resolves || sync) && same) ≡ true
    by true true sync same h = h
    by true false sync same h = cc
    by false resolves sync same h = cc

-- the resolver of a number that an end finds is that of the frame with the number, if no two owe an answer to one
-- request
pub resolver-found : (seq : ℤ) (stack : List StackEntry) (entry : StackEntry) (found : Resolver) → how_many (owes_answer seq) stack ≤ 1 → In entry stack → has_resolver seq entry ≡ true → option_map resolver_in (find (has_resolver seq) stack) ≡ Some found → resolver_in entry ≡ found
resolver-found seq stack entry found few i has = by (find (has_resolver seq) stack) refl
  where
    by : (first : Option StackEntry) → find (has_resolver seq) stack ≡ first → option_map resolver_in first ≡ Some found → resolver_in entry ≡ found
    by None is e = cc
    by (Some first) is e = ap resolver_in (only-found (owes_answer seq) (has_resolver seq) (resolver-owes seq) stack entry first few i has is) ∙ same_Some (resolver_in first) found e

-- Packets

-- the answer of a resolver is among packets
pub record IsAnswered (r : Resolver) (packets : List Packet) : Type 0 where
  pub reply : Message
  pub sent : In (message reply) packets
  pub answers : AnswersFor r reply

pub answered-more : (r : Resolver) (packets more : List Packet) → ((packet : Packet) → In packet packets → In packet more) → IsAnswered r packets → IsAnswered r more
answered-more r packets more grow h = record { reply = h.reply; sent = grow (message h.reply) h.sent; answers = h.answers }

-- Outputs that keep all as it was, and add to it

-- What had arrived, the frames and the packets are still there, and names and state are the same.
pub record Grows (a b : Output) : Type 0 where
  pub arrived : (x : Item) → In x a.end.arrived → In x b.end.arrived
  pub stack : (x : StackEntry) → In x a.end.stack → In x b.end.stack
  pub names : b.end.names ≡ a.end.names
  pub state : b.end.state ≡ a.end.state
  pub packets : (x : Packet) → In x a.packets → In x b.packets

abbrev pub Growing : Change → Type 0
Growing change = (o : Output) → Grows o (change o)

pub grow-chain : (a b c : Output) → Grows a b → Grows b c → Grows a c
grow-chain a b c f g = record {
  arrived = λ x i. g.arrived x (f.arrived x i);
  stack = λ x i. g.stack x (f.stack x i);
  names = g.names ∙ f.names;
  state = g.state ∙ f.state;
  packets = λ x i. g.packets x (f.packets x i);
}

abbrev pub grow-same : (o : Output) → Grows o o
grow-same o = record { arrived = λ x i. i; stack = λ x i. i; names = refl; state = refl; packets = λ x i. i }

pub grow-put : (packet : Packet) → Growing (put packet)
grow-put packet o = record { arrived = λ x i. i; stack = λ x i. i; names = refl; state = refl; packets = λ x i. in-before (packet ∷ []) (in-before (map message o.end.outbox) i) }

pub grow-line : (w : What) → Growing (line w)
grow-line w o = record { arrived = λ x i. i; stack = λ x i. i; names = refl; state = refl; packets = λ x i. i }

pub grow-when : (b : Bool) (change : Change) → Growing change → Growing (when b change)
grow-when true change g o = g o
grow-when false change g o = grow-same o

pub grow-answered : (q : AnsweredRequest) (a : Answer) → Growing (answered q a)
grow-answered q a o = grow-when (is_open o.end.state) (line (answer_line q.seq a) ▷ put (message (reply_to q (body_of a)))) (λ n. grow-chain n (line (answer_line q.seq a) n) _ (grow-line (answer_line q.seq a) n) (grow-put (message (reply_to q (body_of a))) (line (answer_line q.seq a) n))) o

pub grow-let_go : (holds : Option NameContent) → Growing (let_go holds)
grow-let_go None o = grow-same o
grow-let_go (Some (actor id)) o = grow-same o
grow-let_go (Some (resolver r)) o = grow-answered (resolver_answered r) (answer.Fault ResolverDestroyed) o

pub grow-constructs : (id route : ℤ) (kind : Kind) → Growing (sends.constructs id route kind)
grow-constructs id route Normal o = grow-same o
grow-constructs id route (Constructor protocol) o = record { arrived = λ x i. i; stack = λ x i. i; names = refl; state = refl; packets = λ x i. i }
grow-constructs id route Delete o = grow-same o

pub grow-deletes : (route : ℤ) (kind : Kind) → Growing (falls.deletes route kind)
grow-deletes route Normal o = grow-same o
grow-deletes route (Constructor protocol) o = grow-same o
grow-deletes route Delete o = record { arrived = λ x i. i; stack = λ x i. i; names = refl; state = refl; packets = λ x i. i }

-- an open end sends the answer
pub answer-sent : (q : AnsweredRequest) (a : Answer) (o : Output) → is_open o.end.state ≡ true → In (message (reply_to q (body_of a))) (answered q a o).packets
answer-sent q a o opened = by (is_open o.end.state) opened
  where
    by : (b : Bool) → b ≡ true → In (message (reply_to q (body_of a))) (when b (line (answer_line q.seq a) ▷ put (message (reply_to q (body_of a)))) o).packets
    by true is = in-following (o.packets ++ map message o.end.outbox) here
    by false is = cc

pub resolver-answered : (r : Resolver) (a : Answer) (o : Output) → is_open o.end.state ≡ true → IsAnswered r (answered (resolver_answered r) a o).packets
resolver-answered r a o opened = record { reply = _; sent = answer-sent (resolver_answered r) a o opened; answers = record { answer = a; body = refl; seq = refl; route = refl; number = refl } }

-- the answer to the request that brings a resolver
pub answers-request : (r : Resolver) (m : Message) (a : Answer) → BringsResolver r m → AnswersFor r (reply_to (request_answered m) (body_of a))
answers-request r m a brings = record { answer = a; body = refl; seq = brings.seq; route = brings.route; number = ap (λ (n : ℕ). n + 1) brings.number }

pub same-resolver : (r : Resolver) (seq route : ℤ) (number : ℕ) → seq ≡ r.seq → route ≡ r.route → number ≡ r.number → record { seq = seq; route = route; number = number } ≡ r
same-resolver r seq route number a b c =
    ap (λ (x : ℤ). record { seq = x; route = route; number = number }) a ∙ (ap (λ (x : ℤ). record { seq = r.seq; route = x; number = number }) b ∙ ap (λ (x : ℕ). record { seq = r.seq; route = r.route; number = x }) c)
