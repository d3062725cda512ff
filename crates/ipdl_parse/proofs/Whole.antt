-- Whole files: the machine takes exactly the files of the grammar to their end.
use Rattle.std.proofs.Common.{◌≡◌, ℕ, zero, suc, ◌+◌, inl, inr, Bool, true, false, cond, List, [], ◌∷◌, ◌++◌, length, Option, Some, None, refl, sym, ap, subst, arith}
use Rattle.ipdl_base.specs.declared.token.Token.{Token}
use Rattle.ipdl_syntax.specs.declared.tree.FileKind.{FileKind}
use Rattle.ipdl_syntax.specs.declared.tree.FileKind.TheVariants as file_kind
use Rattle.ipdl_syntax.specs.declared.tree.Unit.{Unit as FileUnit}
use Rattle.ipdl_syntax.specs.Grammar.{outside_end}
use Rattle.ipdl_syntax.specs.Program.{Tree, unit_of, declared_outside, declared_round, protocol_of, ◌&◌}
use Rattle.tree_reader.specs.Symbols.{symbol}
use Rattle.tree_reader.specs.Machine.{Form, production, FileState, stand, step, is_end, begin, gone_at, gone_in, refusal}
use Rattle.ipdl_parse.proofs.Meaning.{Following, together, apart}
use Rattle.ipdl_parse.proofs.Built.{built}
use Rattle.ipdl_parse.proofs.Opened.{opened}
use Rattle.ipdl_parse.proofs.Files.{FileRest, Whole, AfterAt}
use Rattle.ipdl_parse.proofs.FileBuilt.{file_built}
use Rattle.ipdl_parse.proofs.FileOpened.{FileOpened, file_opened}
use Rattle.ipdl_parse.proofs.Runs.{heads}

-- a whole file is taken

taken_at : (o : Option (List Form × FileState)) (rest : List Token) (left : ℕ) → ((forms : List Form) (at : FileState) → Whole forms at rest → refusal forms at rest ≡ None) → AfterAt o rest → gone_at o left (λ forms to. refusal forms to rest) ≡ None
taken_at None rest left ih d = absurd d
taken_at (Some next) rest left ih d = ih next.0 next.1 d

taken_in : (o : Option (List Form)) (fs : List Form) (at : FileState) (rest middle : List Token) (left : ℕ) → ((forms : List Form) → Whole forms at rest → refusal forms at rest ≡ None) → Following o rest middle → Whole fs at middle →
    gone_in o left (λ new. refusal (new ++ fs) at rest) ≡ None
taken_in None fs at rest middle left ih d w = absurd d
taken_in (Some new) fs at rest middle left ih d (m, more, r) = ih (new ++ fs) (m, together new fs rest middle m d more, r)

file_heads : (at : FileState) (t u : Token) (rest more : List Token) → t ∷ rest ≡ u ∷ more → AfterAt (step at (symbol u)) more → AfterAt (step at (symbol t)) rest
file_heads at t u rest more e d =
    let one : u ≡ t = cc in let other : more ≡ rest = cc in
    subst (λ (x : Token). AfterAt (step at (symbol x)) rest) one (subst (λ (x : List Token). AfterAt (step at (symbol u)) x) other d)

taken_end : (at : FileState) → FileOpened at [] → refusal [] at [] ≡ None
unfolding refusal
taken_end at (inl h) = ap (λ (b : Bool). cond b None (Some 0)) h.1
taken_end at (inr (t, rest, e, d)) = absurd (cc)

taken_begin : (at : FileState) (t : Token) (rest : List Token) → FileOpened at (t ∷ rest) → AfterAt (step at (symbol t)) rest
taken_begin at t rest (inl h) = absurd (cc h.0)
taken_begin at t rest (inr (u, more, e, d)) = file_heads at t u rest more e d

pub taken : (forms : List Form) (at : FileState) (from : List Token) → Whole forms at from → refusal forms at from ≡ None
unfolding refusal
taken [] at [] (m, same, r) = taken_end at (file_opened at [] (subst (λ (x : List Token). FileRest at x) (sym same) r))
taken [] at (t ∷ rest) (m, same, r) =
    taken_at (step at (symbol t)) rest (length rest + 1) (λ forms to w. taken forms to rest w)
    (taken_begin at t rest (file_opened at (t ∷ rest) (subst (λ (x : List Token). FileRest at x) (sym same) r)))
taken (f ∷ fs) at [] (m, (m1, here, more), r) = let q = opened f [] m1 here in absurd (cc q.2)
taken (f ∷ fs) at (t ∷ rest) (m, (m1, here, more), r) =
    let q = opened f (t ∷ rest) m1 here in
    taken_in (production f (symbol t)) fs at rest m1 (length rest + 1) (λ forms w. taken forms at rest w) (heads f t q.0 rest q.1 m1 q.2 q.3) (m, more, r)

-- tokens that are taken are a whole file

not_end : (n : ℕ) (h : Bool) → is_end [] (stand false (suc n) h) ≡ true → ⊥
not_end n h e = grind arith

end_whole : (at : FileState) → is_end [] at ≡ true → FileRest at []
end_whole (stand true d h) e = absurd (cc)
end_whole (stand false zero true) e = absurd (cc)
end_whole (stand false zero false) e = (outside_end, refl)
end_whole (stand false (suc n) h) e = absurd (not_end n h e)

whole_at : (o : Option (List Form × FileState)) (at : FileState) (t : Token) (rest : List Token) → step at (symbol t) ≡ o → ((forms : List Form) (to : FileState) → refusal forms to rest ≡ None → Whole forms to rest) →
    gone_at o (length rest + 1) (λ forms to. refusal forms to rest) ≡ None → FileRest at (t ∷ rest)
whole_at None at t rest is ih h = absurd (cc)
whole_at (Some next) at t rest is ih h = file_built at (symbol t) t rest refl (subst (λ (x : Option (List Form × FileState)). AfterAt x rest) (sym is) (ih next.0 next.1 h))

whole_in : (o : Option (List Form)) (f : Form) (fs : List Form) (at : FileState) (t : Token) (rest : List Token) → production f (symbol t) ≡ o → ((forms : List Form) → refusal forms at rest ≡ None → Whole forms at rest) →
    gone_in o (length rest + 1) (λ new. refusal (new ++ fs) at rest) ≡ None → Whole (f ∷ fs) at (t ∷ rest)
whole_in None f fs at t rest is ih h = absurd (cc)
whole_in (Some new) f fs at t rest is ih h =
    let w = ih (new ++ fs) h in
    let a = apart new fs rest w.0 w.1 in
    (w.0, (a.0, built f (symbol t) t rest a.0 refl (subst (λ (x : Option (List Form)). Following x rest a.0) (sym is) a.1), a.2), w.2)

end_of : (b : Bool) (o : Option ℕ) → o ≡ None → cond b None (Some 0) ≡ o → b ≡ true
end_of true o n h = refl
end_of false o n h = absurd (cc)

pub whole : (forms : List Form) (at : FileState) (from : List Token) → refusal forms at from ≡ None → Whole forms at from
unfolding refusal
whole [] at [] h = ([], refl, end_whole at (end_of (is_end [] at) None refl h))
whole [] at (t ∷ rest) h = (t ∷ rest, refl, whole_at (step at (symbol t)) at t rest refl (λ forms to e. whole forms to rest e) h)
whole (f ∷ fs) at [] h = absurd (cc)
whole (f ∷ fs) at (t ∷ rest) h = whole_in (production f (symbol t)) f fs at t rest refl (λ forms e. whole forms at rest e) h

-- trees

pub tree_taken : (kind : FileKind) (tokens : List Token) (unit : FileUnit) → Tree kind tokens unit → refusal [] (begin kind) tokens ≡ None
tree_taken file_kind.Header tokens unit (all, d, e) = taken [] (begin file_kind.Header) tokens (tokens, refl, (all, d))
tree_taken file_kind.Protocol tokens unit (before, one, after, d, e) = taken [] (begin file_kind.Protocol) tokens (tokens, refl, (before, one, after, d))

rest_tree : (kind : FileKind) (tokens : List Token) → FileRest (begin kind) tokens → (unit : FileUnit) × Tree kind tokens unit
rest_tree file_kind.Header tokens (x, d) = (unit_of (declared_outside x) None, (x, d, refl))
rest_tree file_kind.Protocol tokens (x, h, y, d) = (unit_of (declared_outside x & declared_round h & declared_outside y) (Some (protocol_of h)), (x, h, y, d, refl))

pub taken_tree : (kind : FileKind) (tokens : List Token) → refusal [] (begin kind) tokens ≡ None → (unit : FileUnit) × Tree kind tokens unit
taken_tree kind tokens h =
    let w = whole [] (begin kind) tokens h in
    rest_tree kind tokens (subst (λ (x : List Token). FileRest (begin kind) x) (sym w.1) w.2)
