-- Parts of steps that add lines at the end, do not change the dispatches of the stack, and bind no name to null.
use Rattle.std.proofs.Common.{◌≡◌, ◌≢◌, ℕ, ◌+◌, ℤ, pos, Bool, true, false, not, List, [], ◌∷◌, ◌++◌, map, flat_map, Option, Some, None, refl, sym, ap, subst, ◌∙◌, append_assoc}
use Rattle.std.specs.List.{AllByRecursion}
use Rattle.std.proofs.lemmas.List.{append-nil}
use Rattle.ipdl_base.specs.declared.kinds.Destroy.{Destroy}
use Rattle.ipdl_base.specs.declared.kinds.Reason.TheVariants as reason
use Rattle.ipdl_base.specs.declared.line.Line.{Line}
use Rattle.ipdl_base.specs.declared.line.What.{What}
use Rattle.ipdl_base.specs.declared.line.What.TheVariants as what
use Rattle.ipdl_base.specs.declared.kinds.EndState.TheVariants.{Closed}
use Rattle.ipdl_base.specs.declared.message.Message.{Message}
use Rattle.ipdl_base.specs.declared.schema.Kind.{Kind}
use Rattle.ipdl_base.specs.declared.schema.Kind.TheVariants.{Normal, Constructor, Delete}
use Rattle.ipdl_base.specs.declared.schema.MessageRow.{MessageRow}
use Rattle.actor_tree.specs.Fall.{post_order}
use Rattle.nesting_core.specs.declared.frame.Answer.{Answer}
use Rattle.nesting_core.specs.declared.frame.Answer.TheVariants as answer
use Rattle.promise_table.specs.Promises as promises
use Rattle.channel_model.specs.Ends.{End, Packet, message, Resolver, NameContent, actor, resolver, Naming}
use Rattle.channel_model.specs.Falls as falls
use Rattle.channel_model.specs.Names.{has_name, held_by_name, without_name, without_resolvers, is_actor, let_go, holding, renamed}
use Rattle.ipdl_base.specs.Sides.{top_id}
use Rattle.channel_model.specs.Numbers.{makes_promise, is_sync_row, counting}
use Rattle.channel_model.specs.Outputs.{Output, Change, unchanged, ◌▷◌, when, on_end, line, line_at, put, is_open, when_open, AnsweredRequest, answered, destroyed, answer_line, body_of, reply_to, resolver_answered}
use Rattle.channel_model.specs.Sends as send
use Rattle.channel_model.proofs.Known.{all-append, all-filter}
use Rattle.script_runs.specs.Dispatches.{dispatches}

-- the actor of a name is not null
abbrev pub HoldsNoNull : NameContent → Type 0
HoldsNoNull (actor id) = id ≢ pos 0
HoldsNoNull (resolver r) = Unit {0}

abbrev pub NamesNoNull : Naming → Type 0
NamesNoNull naming = HoldsNoNull naming.holds

abbrev pub NameNoNulls : End → Type 0
NameNoNulls e = AllByRecursion NamesNoNull e.names

-- an output continues to another: with more lines, the same dispatches, and no name that is bound to null
pub record Leads (o p : Output) : Type 0 where
  pub more : List Line
  pub lines : p.lines ≡ o.lines ++ more
  pub stack : dispatches p.end.stack ≡ dispatches o.end.stack
  pub names : NameNoNulls o.end → NameNoNulls p.end

pub leads-same : (o : Output) → Leads o o
leads-same o = record { more = []; lines = sym (append-nil o.lines); stack = refl; names = λ h. h }

pub leads-on : (o p q : Output) → Leads o p → Leads p q → Leads o q
leads-on o p q h k = record {
  more = h.more ++ k.more;
  lines = k.lines ∙ ap (λ ls. ls ++ k.more) h.lines ∙ append_assoc o.lines h.more k.more;
  stack = k.stack ∙ h.stack;
  names = λ n. k.names (h.names n);
}

abbrev pub Leaves : Change → Type 0
Leaves change = (o : Output) → Leads o (change o)

pub leaves-unchanged : Leaves unchanged
leaves-unchanged o = leads-same o

pub leaves-both : (c d : Change) → Leaves c → Leaves d → Leaves (c ▷ d)
leaves-both c d h k o = leads-on o (c o) (d (c o)) (h o) (k (c o))

pub leaves-when : (b : Bool) (c : Change) → Leaves c → Leaves (when b c)
leaves-when true c h o = h o
leaves-when false c h o = leads-same o

-- a change of the end that keeps its dispatches and its names
pub leaves-end : (f : End → End) → ((e : End) → dispatches (f e).stack ≡ dispatches e.stack) → ((e : End) → (f e).names ≡ e.names) → Leaves (on_end f)
leaves-end f h k o = record { more = []; lines = sym (append-nil o.lines); stack = h o.end; names = λ n. subst (AllByRecursion NamesNoNull) (sym (k o.end)) n }

-- a change of names only
pub leaves-names : (f : List Naming → List Naming) → ((names : List Naming) → AllByRecursion NamesNoNull names → AllByRecursion NamesNoNull (f names)) → Leaves (on_end (λ e. record e { names = f e.names }))
leaves-names f h o = record { more = []; lines = sym (append-nil o.lines); stack = refl; names = h o.end.names }

pub leaves-line : (w : What) → Leaves (line w)
leaves-line w o = record { more = line_at o.end.side w ∷ []; lines = refl; stack = refl; names = λ n. n }

pub leaves-put : (packet : Packet) → Leaves (put packet)
leaves-put packet o = record { more = []; lines = sym (append-nil o.lines); stack = refl; names = λ n. n }

pub leaves-open : (c : Change) → Leaves c → Leaves (when_open c)
leaves-open c h o = leaves-when (is_open o.end.state) c h o

pub leaves-answered : (q : AnsweredRequest) (a : Answer) → Leaves (answered q a)
leaves-answered q a =
    leaves-open (line (answer_line q.seq a) ▷ put (message (reply_to q (body_of a))))
    (leaves-both (line (answer_line q.seq a)) (put (message (reply_to q (body_of a)))) (leaves-line (answer_line q.seq a)) (leaves-put (message (reply_to q (body_of a)))))

pub leaves-destroyed : (r : Resolver) → Leaves (destroyed r)
leaves-destroyed r = leaves-answered (resolver_answered r) (answer.Fault reason.ResolverDestroyed)

leaves-let_go : (held : Option NameContent) → Leaves (let_go held)
leaves-let_go None o = leads-same o
leaves-let_go (Some (actor id)) o = leads-same o
leaves-let_go (Some (resolver r)) o = leaves-destroyed r o

-- the actor that a name will be bound to is not null
abbrev pub IsNoNull : Option NameContent → Type 0
IsNoNull None = Unit {0}
IsNoNull (Some holds) = HoldsNoNull holds

holding-no-null : (name : List ℕ) (holds : Option NameContent) → IsNoNull holds → AllByRecursion NamesNoNull (holding name holds)
holding-no-null name None h = tt
holding-no-null name (Some holds) h = (h, tt)

pub leaves-renamed : (name : List ℕ) (holds : Option NameContent) → IsNoNull holds → Leaves (renamed name holds)
leaves-renamed name holds h o =
    let before : Option NameContent = held_by_name name o.end.names in
    let off : Change = on_end (λ e. record e { names = without_name name e.names }) in
    let anew : Change = on_end (λ e. record e { names = e.names ++ holding name holds }) in
    leaves-both off (let_go before ▷ anew) (leaves-names (without_name name) (λ names n. all-filter NamesNoNull (λ naming. not (has_name name naming)) names n))
    (leaves-both (let_go before) anew (leaves-let_go before) (leaves-names (λ names. names ++ holding name holds) (λ names n. all-append NamesNoNull names (holding name holds) n (holding-no-null name holds h)))) o

-- Falls and closing

pub leaves-fallen : (id : ℤ) (why : ℤ → Destroy) → Leaves (falls.fallen id why)
leaves-fallen id why o = record {
  more = map (line_at o.end.side) (flat_map (falls.fall_lines why o.end.promises) (post_order id o.end.actors));
  lines = refl;
  stack = refl;
  names = λ n. n;
}

pub leaves-deletes : (route : ℤ) (kind : Kind) → Leaves (falls.deletes route kind)
leaves-deletes route Normal o = leads-same o
leaves-deletes route (Constructor protocol) o = leads-same o
leaves-deletes route Delete o = leaves-fallen route (falls.why_deleted route) o

leaves-abandoned : Leaves falls.abandoned
leaves-abandoned o = record { more = map (line_at o.end.side) (falls.rejections (λ p. true) reason.ChannelClosed o.end.promises); lines = refl; stack = refl; names = λ n. n }

leaves-shut : Leaves (on_end (λ e. record e { state = Closed; arrived = []; names = without_resolvers e.names }))
leaves-shut o = record { more = []; lines = sym (append-nil o.lines); stack = refl; names = λ n. all-filter NamesNoNull is_actor o.end.names n }

pub leaves-closed : (why : Destroy) → Leaves (falls.closed why)
leaves-closed why o =
    leads-on o (falls.abandoned o) (falls.closed why o) (leaves-abandoned o)
    (leads-on (falls.abandoned o) (falls.fallen top_id (λ id. why) (falls.abandoned o)) (falls.closed why o) (leaves-fallen top_id (λ id. why) (falls.abandoned o)) (leaves-shut (falls.fallen top_id (λ id. why) (falls.abandoned o))))

-- Sends

pub leaves-constructs : (id route : ℤ) (kind : Kind) → Leaves (send.constructs id route kind)
leaves-constructs id route Normal o = leads-same o
leaves-constructs id route (Constructor protocol) o = record { more = line_at o.end.side (what.Built id protocol) ∷ []; lines = refl; stack = refl; names = λ n. n }
leaves-constructs id route Delete o = leads-same o

leaves-posted : (lazy : Bool) (m : Message) → Leaves (send.posted_by lazy m)
leaves-posted true m o = leaves-end (λ e. record e { outbox = e.outbox ++ m ∷ [] }) (λ e. refl) (λ e. refl) o
leaves-posted false m o = leaves-put (message m) o

leaves-awaits : (row : MessageRow) (m : Message) → Leaves (send.awaits_reply row m)
leaves-awaits row m =
    let waits : Change = on_end (λ e. record e { stack = send.wait_for row m ∷ e.stack }) in
    let promised : Change = on_end (λ e. record e { promises = e.promises ++ record { promise = promises.made m.seq m.route; number = m.number } ∷ [] }) in
    leaves-both (when (is_sync_row row) waits) (when (makes_promise row) promised) (leaves-when (is_sync_row row) waits (leaves-end (λ e. record e { stack = send.wait_for row m ∷ e.stack }) (λ e. refl) (λ e. refl)))
    (leaves-when (makes_promise row) promised (leaves-end (λ e. record e { promises = e.promises ++ record { promise = promises.made m.seq m.route; number = m.number } ∷ [] }) (λ e. refl) (λ e. refl)))

-- a name is for an actor that is not null
abbrev pub NamesSome : ℤ → Option (List ℕ) → Type 0
NamesSome id None = Unit {0}
NamesSome id (Some name) = id ≢ pos 0

leaves-names_actor : (id : ℤ) (name : Option (List ℕ)) → NamesSome id name → Leaves (send.names_actor id name)
leaves-names_actor id None h o = leads-same o
leaves-names_actor id (Some name) h o = leaves-renamed name (Some (actor id)) h o

-- what a request does after its line
abbrev pub following_line : MessageRow → Message → Option (List ℕ) → Change
following_line row m name =
    on_end (λ e. record e { sent = e.sent + 1; constructors_sent = counting row.kind e.constructors_sent })
    ▷ send.posted row m
    ▷ send.awaits_reply row m
    ▷ send.names_actor m.made name
    ▷ send.constructs m.made m.route row.kind
    ▷ falls.deletes m.route row.kind

pub leaves-sent : (row : MessageRow) (m : Message) (name : Option (List ℕ)) → NamesSome m.made name → Leaves (following_line row m name)
leaves-sent row m name h =
    let counts : Change = on_end (λ e. record e { sent = e.sent + 1; constructors_sent = counting row.kind e.constructors_sent }) in
    let last : Change = send.constructs m.made m.route row.kind ▷ falls.deletes m.route row.kind in
    leaves-both counts (send.posted row m ▷ send.awaits_reply row m ▷ send.names_actor m.made name ▷ last)
    (leaves-end (λ e. record e { sent = e.sent + 1; constructors_sent = counting row.kind e.constructors_sent }) (λ e. refl) (λ e. refl))
    (leaves-both (send.posted row m) (send.awaits_reply row m ▷ send.names_actor m.made name ▷ last) (leaves-posted row.lazy m)
    (leaves-both (send.awaits_reply row m) (send.names_actor m.made name ▷ last) (leaves-awaits row m)
    (leaves-both (send.names_actor m.made name) last (leaves-names_actor m.made name h)
    (leaves-both (send.constructs m.made m.route row.kind) (falls.deletes m.route row.kind) (leaves-constructs m.made m.route row.kind) (leaves-deletes m.route row.kind)))))
