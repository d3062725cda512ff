use Rattle.std.proofs.Common.{◌≡◌, ◌≢◌, ◌<◌, ℕ, ℤ, List, [], ◌∷◌, ◌++◌, length, get_or, refl, sym, ap, subst, ◌∙◌}
use Rattle.std.specs.List.{AllByRecursion}
use Rattle.std.proofs.lemmas.Int.{to_z-of_z}
use mir.Val.{to_z, of_z}
use mir.Syntax.{w32}
use Rattle.std.specs.Map.{values_of, lookup}
use Rattle.std.specs.Ordering.{int_eq}
use Rattle.promise_table.specs.declared.promise.Promise.{Promise}
use Rattle.promise_table.specs.Promises.{made, HaveDistinctNumbers}
use Rattle.channel_model.specs.Ends.{PromiseEntry}
use Rattle.end_parts.specs.declared.reply.RequestKey.{RequestKey}
use Rattle.end_parts.specs.PromiseRequests.{entries_of, AreByNumber, AreRequestsOf, IsRequestOf}
use Rattle.end_parts.proofs.PromiseLemmas.{apart, unmade, one_more, distinct_more}
use Rattle.end_parts.proofs.RequestLemmas.{by_number_more, length-requests, none_at, requests_more, values_more}
use Rattle.end_parts.proofs.promise_entries.PromiseEntries.make.Goals as goal

-- none of some promises has the number, as the code passes it
none_has : (ps : List Promise) (ns : List RequestKey) (seq z : ℤ) (es : List PromiseEntry) → length ns ≡ length ps → entries_of ps ns ≡ es → AllByRecursion (λ (e : PromiseEntry). e.promise.seq ≢ seq) es → z ≡ seq → (k : ℕ) (d : Promise) → k < length ps → (get_or ps k d).seq ≢ z
none_has ps ns seq z es e is h same k d l bad =
    unmade seq ps ns e (subst (AllByRecursion (λ (e : PromiseEntry). e.promise.seq ≢ seq)) (sym is) h) k d l (bad ∙ same)

pub make-requires : goal.make-requires
make-requires c =
    let same = length-requests c.self.inside.promises (values_of c.self.inside.requests.entries) c.self.invariant.0 in
    none_has c.self.inside.promises (values_of c.self.inside.requests.entries) c.args.seq (to_z w32 (of_z w32 c.args.seq)) c.args.self.now same c.self.view_is c.requires (to_z-of_z w32 c.args.seq c.ranges.seq)

pub put_request-requires-clause-free : goal.put_request-requires-clause-free
put_request-requires-clause-free c =
    let ps = c.self.inside.promises in
    let es = c.self.inside.requests.entries in
    let same = length-requests ps (values_of es) c.self.invariant.0 in
    let z = to_z w32 (of_z w32 c.args.seq) in
    ap (lookup (int_eq z)) c.in_ok-reserve.ensures.entries
    ∙ none_at z ps es c.self.invariant.0 c.self.invariant.2 (apart z ps (none_has ps (values_of es) c.args.seq z c.args.self.now same c.self.view_is c.requires (to_z-of_z w32 c.args.seq c.ranges.seq)))

pub invariant_of-self-2 : goal.invariant_of-self-2
invariant_of-self-2 c =
    let ps = c.self.inside.promises in
    let es = c.self.inside.requests.entries in
    let same = length-requests ps (values_of es) c.self.invariant.0 in
    let z = to_z w32 (of_z w32 c.args.seq) in
    let y = to_z w32 (of_z w32 c.args.actor) in
    let key : RequestKey = record { seq = z; route = y; number = c.args.number } in
    let now : c.make.new.self ≡ ps ++ made z y ∷ [] = c.in_ok-make.ensures.ok in
    let entries : c.put_request.new.requests.entries ≡ es ++ (z, key) ∷ [] = c.put_request.ensures ∙ ap (λ (xs : List (ℤ × RequestKey)). xs ++ (z, key) ∷ []) c.in_ok-reserve.ensures.entries in
    let is : IsRequestOf (made z y) key = record { seq = refl; actor = refl } in
    let are : AreRequestsOf (ps ++ made z y ∷ []) (values_of es ++ key ∷ []) = requests_more (made z y) key is ps (values_of es) c.self.invariant.0 in
    let distinct : HaveDistinctNumbers (ps ++ made z y ∷ []) = distinct_more z y ps c.self.invariant.1 (none_has ps (values_of es) c.args.seq z c.args.self.now same c.self.view_is c.requires (to_z-of_z w32 c.args.seq c.ranges.seq)) in (
      subst (λ (qs : List Promise). AreRequestsOf qs (values_of c.put_request.new.requests.entries)) (sym now) (subst (AreRequestsOf (ps ++ made z y ∷ [])) (sym (ap values_of entries ∙ values_more key es)) are),
      subst HaveDistinctNumbers (sym now) distinct,
      subst AreByNumber (sym entries) (by_number_more key es c.self.invariant.2),
    )

pub returns-clause-ok : goal.returns-clause-ok
returns-clause-ok c =
    let ps = c.self.inside.promises in
    let es = c.self.inside.requests.entries in
    let same = length-requests ps (values_of es) c.self.invariant.0 in
    let z = to_z w32 (of_z w32 c.args.seq) in
    let y = to_z w32 (of_z w32 c.args.actor) in
    let key : RequestKey = record { seq = z; route = y; number = c.args.number } in
    let now : c.make.new.self ≡ ps ++ made z y ∷ [] = c.in_ok-make.ensures.ok in
    let entries : c.put_request.new.requests.entries ≡ es ++ (z, key) ∷ [] = c.put_request.ensures ∙ ap (λ (xs : List (ℤ × RequestKey)). xs ++ (z, key) ∷ []) c.in_ok-reserve.ensures.entries in
    ap (λ (qs : List Promise). entries_of qs (values_of c.put_request.new.requests.entries)) now ∙ ap (entries_of (ps ++ made z y ∷ [])) (ap values_of entries ∙ values_more key es)
    ∙ one_more z y key ps (values_of es) same
    ∙ ap (λ (xs : List PromiseEntry). xs ++ record { promise = made z y; number = c.args.number } ∷ []) c.self.view_is
    ∙ ap (λ (a : ℤ). c.args.self.now ++ record { promise = made a y; number = c.args.number } ∷ []) (to_z-of_z w32 c.args.seq c.ranges.seq)
    ∙ ap (λ (a : ℤ). c.args.self.now ++ record { promise = made c.args.seq a; number = c.args.number } ∷ []) (to_z-of_z w32 c.args.actor c.ranges.actor)
