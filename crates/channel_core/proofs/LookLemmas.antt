-- The resolver that an end has of a request.
use Rattle.std.proofs.Common.{◌≡◌, ◌==◌, ℤ, Bool, true, false, ◌&&◌, cond, IsTrue, ◌↔◌, List, [], ◌∷◌, find, Option, Some, None, option_map, refl, sym, ap, ◌∙◌}
use Rattle.std.specs.Ordering.{int_eq}
use Rattle.std.proofs.lemmas.Bool.Decides.{Decides-int_eq, Decides-eqb}
use Rattle.nesting_core.specs.Frames.{head_of, is_dispatch}
use Rattle.channel_model.specs.Answers.{has_resolver, resolver_in}
use Rattle.channel_model.specs.Ends.{Resolver, StackEntry}
use Rattle.channel_model.proofs.Tests.{and-left, and-right}
use Rattle.end_parts.specs.StackDetails.{is_resolver_of}

own_seq : (seq : ℤ) (entry : StackEntry) → has_resolver seq entry ≡ true → (resolver_in entry).seq ≡ seq
own_seq seq entry h =
    let inner = and-right (is_dispatch entry.frame) (entry.resolves && int_eq (head_of entry.frame).seq seq) h in
    (Decides-int_eq (head_of entry.frame).seq seq).0 (and-right entry.resolves (int_eq (head_of entry.frame).seq seq) inner)

found_by : (seq : ℤ) (b : Bool) (entry : StackEntry) (rest : Option StackEntry) (r : Resolver) → has_resolver seq entry ≡ b → (option_map resolver_in rest ≡ Some r → r.seq ≡ seq) → option_map resolver_in (cond b (Some entry) rest) ≡ Some r → r.seq ≡ seq
found_by seq true entry rest r is h e =
    let same : resolver_in entry ≡ r = cc in
    ap (λ (x : Resolver). x.seq) (sym same) ∙ own_seq seq entry is
found_by seq false entry rest r is h e = h e

found_seq : (seq : ℤ) (stack : List StackEntry) (r : Resolver) → option_map resolver_in (find (has_resolver seq) stack) ≡ Some r → r.seq ≡ seq
found_seq seq [] r e = cc
found_seq seq (entry ∷ stack) r e = found_by seq (has_resolver seq entry) entry (find (has_resolver seq) stack) r refl (found_seq seq stack r) e

same_resolver : (one other : Resolver) → one.seq ≡ other.seq → one.route ≡ other.route → one.number ≡ other.number → one ≡ other
same_resolver one other s t n =
    ap (λ z. record { seq = z; route = one.route; number = one.number }) s
    ∙ ap (λ z. record { seq = other.seq; route = z; number = one.number }) t
    ∙ ap (λ z. record { seq = other.seq; route = other.route; number = z }) n

told_true : (r : Resolver) (found : Option Resolver) → ((x : Resolver) → found ≡ Some x → x.seq ≡ r.seq) → is_resolver_of r.route r.number found ≡ true → found ≡ Some r
told_true r None h e = cc
told_true r (Some x) h e =
    let route = and-left (int_eq x.route r.route) (x.number == r.number) e in
    let number = and-right (int_eq x.route r.route) (x.number == r.number) e in
    ap Some (same_resolver x r (h x refl) ((Decides-int_eq x.route r.route).0 route) ((Decides-eqb x.number r.number).0 number))

and_true : (a b : Bool) → a ≡ true → b ≡ true → (a && b) ≡ true
and_true true b h k = k
and_true false b h k = cc

told_back : (r : Resolver) (found : Option Resolver) → found ≡ Some r → is_resolver_of r.route r.number found ≡ true
told_back r found e =
    ap (is_resolver_of r.route r.number) e
    ∙ and_true (int_eq r.route r.route) (r.number == r.number) ((Decides-int_eq r.route r.route).1 refl) ((Decides-eqb r.number r.number).1 refl)

-- a look finds the resolver exactly where the stack has it
pub holds_resolver : (stack : List StackEntry) (r : Resolver) (told : Bool) → told ≡ is_resolver_of r.route r.number (option_map resolver_in (find (has_resolver r.seq) stack))
    → IsTrue told ↔ (option_map resolver_in (find (has_resolver r.seq) stack) ≡ Some r)
holds_resolver stack r told is = (
  λ t. told_true r (option_map resolver_in (find (has_resolver r.seq) stack)) (λ x e. found_seq r.seq stack x e) (sym is ∙ t),
  λ e. is ∙ told_back r (option_map resolver_in (find (has_resolver r.seq) stack)) e,
)
