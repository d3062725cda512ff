-- Whole runs of the machine.
use Rattle.std.proofs.Common.{◌≡◌, ℕ, ◌+◌, Bool, true, false, cond, List, [], ◌∷◌, ◌++◌, length, Option, Some, None, refl, sym, ap, subst, ◌∙◌, arith, append_assoc}
use Rattle.ipdl_base.specs.declared.token.Token.{Token}
use Rattle.tree_reader.specs.Symbols.{symbol}
use Rattle.tree_reader.specs.Machine.{Form, production, FileState, step, is_end, gone_at, gone_in, refusal}
use Rattle.ipdl_parse.proofs.Meaning.{TakeAll, Following, together, apart}
use Rattle.ipdl_parse.proofs.Built.{built}
use Rattle.ipdl_parse.proofs.Opened.{opened}

-- what the tokens of forms lead to

pub heads : (f : Form) (t u : Token) (rest more to : List Token) → t ∷ rest ≡ u ∷ more → Following (production f (symbol u)) more to → Following (production f (symbol t)) rest to
heads f t u rest more to e d =
    let one : u ≡ t = cc in let other : more ≡ rest = cc in
    subst (λ (x : Token). Following (production f (symbol x)) rest to) one (subst (λ (x : List Token). Following (production f (symbol u)) x to) other d)

passes_in : (o : Option (List Form)) (fs stack : List Form) (at : FileState) (rest middle to : List Token) (left : ℕ) (end : Option ℕ) → ((ss : List Form) → TakeAll ss rest to → refusal (ss ++ stack) at rest ≡ end) → Following o rest middle → TakeAll fs middle to →
    gone_in o left (λ new. refusal (new ++ (fs ++ stack)) at rest) ≡ end
passes_in None fs stack at rest middle to left end ih d more = absurd d
passes_in (Some new) fs stack at rest middle to left end ih d more =
    subst (λ (x : List Form). refusal x at rest ≡ end) (append_assoc new fs stack) (ih (new ++ fs) (together new fs rest middle to d more))

-- the machine takes what forms take, and is then after them
pub passes : (ss stack : List Form) (at : FileState) (from to : List Token) → TakeAll ss from to → refusal (ss ++ stack) at from ≡ refusal stack at to
unfolding refusal
passes [] stack at from to same = ap (λ (x : List Token). refusal stack at x) same
passes (f ∷ fs) stack at [] to (m, here, more) = let r = opened f [] m here in absurd (cc r.2)
passes (f ∷ fs) stack at (t ∷ rest) to (m, here, more) =
    let r = opened f (t ∷ rest) m here in
    passes_in (production f (symbol t)) fs stack at rest m to (length rest + 1) (refusal stack at to) (λ ss d. passes ss stack at rest to d) (heads f t r.0 rest r.1 m r.2 r.3) more

-- what the machine takes to its end begins with what its forms take

abbrev Accepted : List Form → List Form → FileState → List Token → Type 0
Accepted ss stack at from = (to : List Token) × TakeAll ss from to × (refusal stack at to ≡ None)

accepted_in : (o : Option (List Form)) (f : Form) (fs stack : List Form) (at : FileState) (t : Token) (rest : List Token) → production f (symbol t) ≡ o →
    ((ss : List Form) → refusal (ss ++ stack) at rest ≡ None → Accepted ss stack at rest) →
    gone_in o (length rest + 1) (λ new. refusal (new ++ (fs ++ stack)) at rest) ≡ None → Accepted (f ∷ fs) stack at (t ∷ rest)
accepted_in None f fs stack at t rest is ih h = absurd (cc)
accepted_in (Some new) f fs stack at t rest is ih h =
    let r = ih (new ++ fs) (subst (λ (x : List Form). refusal x at rest ≡ None) (sym (append_assoc new fs stack)) h) in
    let a = apart new fs rest r.0 r.1 in
    (r.0, (a.0, built f (symbol t) t rest a.0 refl (subst (λ (x : Option (List Form)). Following x rest a.0) (sym is) a.1), a.2), r.2)

pub accepted : (ss stack : List Form) (at : FileState) (from : List Token) → refusal (ss ++ stack) at from ≡ None → Accepted ss stack at from
unfolding refusal
accepted [] stack at from h = (from, refl, h)
accepted (f ∷ fs) stack at [] h = absurd (cc)
accepted (f ∷ fs) stack at (t ∷ rest) h = accepted_in (production f (symbol t)) f fs stack at t rest refl (λ ss e. accepted ss stack at rest e) h

-- the machine takes all tokens before its refusal, whatever comes after, and refuses there

abbrev pub Refusing : List Form → FileState → List Token → Type 0
Refusing forms at [] = refusal forms at [] ≡ Some 0
Refusing forms at (t ∷ rest) = (more : List Token) → refusal forms at (t ∷ more) ≡ Some (length more + 1)

pub record Stops (forms : List Form) (at : FileState) (tokens : List Token) (left : ℕ) : Type 0 where
  pub taken : List Token
  pub rest : List Token
  pub forms_then : List Form
  pub at_then : FileState
  pub whole : tokens ≡ taken ++ rest
  pub count : length rest ≡ left
  pub goes : (more : List Token) → refusal forms at (taken ++ more) ≡ refusal forms_then at_then more
  pub refuses : Refusing forms_then at_then rest

stops_here : (forms : List Form) (at : FileState) (tokens : List Token) (left : ℕ) → length tokens ≡ left → Refusing forms at tokens → Stops forms at tokens left
stops_here forms at tokens left count r = record { taken = []; rest = tokens; forms_then = forms; at_then = at; whole = refl; count = count; goes = λ more. refl; refuses = r }

-- one more token before
stops_later : (forms forms' : List Form) (at at' : FileState) (t : Token) (tokens : List Token) (left : ℕ) → ((more : List Token) → refusal forms at (t ∷ more) ≡ refusal forms' at' more) → Stops forms' at' tokens left → Stops forms at (t ∷ tokens) left
stops_later forms forms' at at' t tokens left one s = record {
  taken = t ∷ s.taken;
  rest = s.rest;
  forms_then = s.forms_then;
  at_then = s.at_then;
  whole = ap (λ (x : List Token). t ∷ x) s.whole;
  count = s.count;
  goes = λ more. one (s.taken ++ more) ∙ s.goes more;
  refuses = s.refuses;
}

stops_in : (o : Option (List Form)) (f : Form) (fs : List Form) (at : FileState) (t : Token) (rest : List Token) (left : ℕ) → production f (symbol t) ≡ o →
    ((ss : List Form) → refusal ss at rest ≡ Some left → Stops ss at rest left) →
    gone_in o (length rest + 1) (λ new. refusal (new ++ fs) at rest) ≡ Some left → Stops (f ∷ fs) at (t ∷ rest) left
unfolding refusal
stops_in None f fs at t rest left is ih h =
    let n : length rest + 1 ≡ left = cc in
    stops_here (f ∷ fs) at (t ∷ rest) left (omega arith)
    (λ more. ap (λ (x : Option (List Form)). gone_in x (length more + 1) (λ new. refusal (new ++ fs) at more)) is)
stops_in (Some new) f fs at t rest left is ih h =
    stops_later (f ∷ fs) (new ++ fs) at at t rest left
    (λ more. ap (λ (x : Option (List Form)). gone_in x (length more + 1) (λ y. refusal (y ++ fs) at more)) is)
    (ih (new ++ fs) h)

stops_at : (o : Option (List Form × FileState)) (at : FileState) (t : Token) (rest : List Token) (left : ℕ) → step at (symbol t) ≡ o →
    ((ss : List Form) (to : FileState) → refusal ss to rest ≡ Some left → Stops ss to rest left) →
    gone_at o (length rest + 1) (λ forms to. refusal forms to rest) ≡ Some left → Stops [] at (t ∷ rest) left
unfolding refusal
stops_at None at t rest left is ih h =
    let n : length rest + 1 ≡ left = cc in
    stops_here [] at (t ∷ rest) left (omega arith)
    (λ more. ap (λ (x : Option (List Form × FileState)). gone_at x (length more + 1) (λ forms to. refusal forms to more)) is)
stops_at (Some next) at t rest left is ih h =
    stops_later [] next.0 at next.1 t rest left
    (λ more. ap (λ (x : Option (List Form × FileState)). gone_at x (length more + 1) (λ forms to. refusal forms to more)) is)
    (ih next.0 next.1 h)

end_left : (b : Bool) (left : ℕ) → cond b None (Some 0) ≡ Some left → left ≡ 0
end_left true left h = absurd (cc)
end_left false left h = cc

pub stops : (forms : List Form) (at : FileState) (tokens : List Token) (left : ℕ) → refusal forms at tokens ≡ Some left → Stops forms at tokens left
unfolding refusal
stops forms at [] left h =
    let z = end_left (is_end forms at) left h in
    stops_here forms at [] left (sym z) (subst (λ (x : ℕ). cond (is_end forms at) None (Some 0) ≡ Some x) z h)
stops [] at (t ∷ rest) left h = stops_at (step at (symbol t)) at t rest left refl (λ ss to e. stops ss to rest left e) h
stops (f ∷ fs) at (t ∷ rest) left h = stops_in (production f (symbol t)) f fs at t rest left refl (λ ss e. stops ss at rest left e) h
