-- The tokens of a line, taken one after another.
use Rattle.std.proofs.Common.{◌≡◌, ℕ, true, false, List, [], ◌∷◌, ◌++◌, refl, sym, ap, ◌∙◌, subst, append_assoc}
use Rattle.std.specs.List.{list_all}
use Rattle.std.proofs.lemmas.Bool.{true≢false}
use Rattle.std.proofs.lemmas.List.{append-nil}
use Rattle.script_reader.specs.declared.token.ScriptToken.{ScriptToken}
use Rattle.script_reader.specs.Tokens.{is_blank, following, IsToken, AreTokens}
use Rattle.script_reader.proofs.Begins.{one_token, blank_no_token}

-- These tokens of the line have been taken, and this is what is left: the line's tokens are those and the tokens of what is left.
pub record HasTaken (line : List ℕ) (done : List ScriptToken) (rest : List ℕ) : Type 0 where
  pub forward : (ts : List ScriptToken) → AreTokens ts rest → AreTokens (done ++ ts) line
  pub back : (ts : List ScriptToken) → AreTokens ts line → (more : List ScriptToken) × (ts ≡ done ++ more) × AreTokens more rest

pub HasTaken-none : (line : List ℕ) (done : List ScriptToken) → done ≡ [] → HasTaken line done line
HasTaken-none line [] e = record { forward = λ ts h. h; back = λ ts h. (ts, refl, h) }
HasTaken-none line (t ∷ done) e = absurd (let no : ⊥ = cc in no)

-- what is left, if it is not blank, begins with the token there
first_taken : (t : ScriptToken) (rest to : List ℕ) (ts : List ScriptToken) → list_all is_blank rest ≡ false → IsToken t (following is_blank rest) to → AreTokens ts rest → (more : List ScriptToken) × (ts ≡ t ∷ more) × AreTokens more to
first_taken t rest to [] some is h = absurd (true≢false (sym h ∙ some))
first_taken t rest to (u ∷ ts) some is h =
    let e = one_token u t (following is_blank rest) h.0 to h.1 is in
    (ts, ap (λ x. x ∷ ts) e.0, let P : List ℕ → Type 0 = λ l. AreTokens ts l in subst P e.1 h.2)

pub HasTaken-next : (line : List ℕ) (done all : List ScriptToken) (t : ScriptToken) (rest to : List ℕ) → HasTaken line done rest → list_all is_blank rest ≡ false → IsToken t (following is_blank rest) to → all ≡ done ++ t ∷ [] → HasTaken line all to
HasTaken-next line done all t rest to taken some is e = rw e (record {
  forward = λ ts h. rw (append_assoc done (t ∷ []) ts) (taken.forward (t ∷ ts) (to, is, h));
  back = λ ts h.
      let b = taken.back ts h in
      let f = first_taken t rest to b.0 some is b.2 in
      (f.0, b.1 ∙ ap (λ l. done ++ l) f.1 ∙ sym (append_assoc done (t ∷ []) f.0), f.2);
})

-- if only blanks are left, these are all tokens
pub taken_whole : (line : List ℕ) (done : List ScriptToken) (rest : List ℕ) → HasTaken line done rest → list_all is_blank rest ≡ true → AreTokens done line
taken_whole line done rest taken blank = let P : List ScriptToken → Type 0 = λ l. AreTokens l line in subst P (append-nil done) (taken.forward [] blank)

-- if there is no token at a place, the line has no list of tokens
pub none_taken : (line : List ℕ) (done : List ScriptToken) (rest : List ℕ) → HasTaken line done rest → list_all is_blank rest ≡ false → ((t : ScriptToken) (to : List ℕ) → ¬ IsToken t (following is_blank rest) to) → (ts : List ScriptToken) → ¬ AreTokens ts line
none_taken line done rest taken some none ts h = let b = taken.back ts h in no_first b.0 b.2
  where
    no_first : (more : List ScriptToken) → ¬ AreTokens more rest
    no_first [] g = true≢false (sym g ∙ some)
    no_first (u ∷ us) g = none u g.0 g.1

-- a line has one list of tokens
pub one_tokens : (ts us : List ScriptToken) (line : List ℕ) → AreTokens ts line → AreTokens us line → ts ≡ us
one_tokens [] [] line x y = refl
one_tokens [] (u ∷ us) line x y = absurd (blank_no_token line u y.0 x y.1)
one_tokens (t ∷ ts) [] line x y = absurd (blank_no_token line t x.0 y x.1)
one_tokens (t ∷ ts) (u ∷ us) line x y =
    let e = one_token t u (following is_blank line) x.0 y.0 x.1 y.1 in
    let P : List ℕ → Type 0 = λ l. AreTokens ts l in
    ap (λ v. v ∷ ts) e.0 ∙ ap (λ l. u ∷ l) (one_tokens ts us y.0 (subst P e.1 x.2) y.2)
