-- Nothing is listed under a text whose ends are not marked.
use Rattle.std.proofs.Common.{◌≡◌, ◌∙◌, ℕ, suc, Bool, true, false, List, [], ◌∷◌, Some, None, slice_get, refl, sym, ap, cond, true≢false, Bor, Vec, Global}
use Rattle.std.specs.List.{slice_index_or}
use Rattle.std.specs.Map.{lookup}
use Rattle.std.specs.Str.{bytes_eq}
use Rattle.std.proofs.lemmas.Slice.Eq.{bytes_eq-Decides}
use Rattle.name_table.specs.declared.decl.DeclId.{DeclId}
use Rattle.name_table.specs.Ends.{ends_of}

-- no entry has a text whose ends are not marked, if the ends of all entries are marked
pub not_listed : (marks : List Bool) (text : List ℕ) (entries : List (Bor (List ℕ) × Vec DeclId Global)) → ((i : ℕ) (e : Bor (List ℕ) × Vec DeclId Global) → slice_get entries i ≡ Some e → slice_index_or marks (ends_of e.0.now) true ≡ true)
    → slice_index_or marks (ends_of text) true ≡ false → lookup (λ (k : Bor (List ℕ)). bytes_eq text k.now) entries ≡ None
not_listed marks text [] all h = refl
not_listed marks text (e ∷ es) all h = go (not_listed marks text es (λ i f at. all (suc i) f at) h) (bytes_eq text e.0.now) refl
  where
    go : lookup (λ (k : Bor (List ℕ)). bytes_eq text k.now) es ≡ None → (b : Bool) → bytes_eq text e.0.now ≡ b → lookup (λ (k : Bor (List ℕ)). bytes_eq text k.now) (e ∷ es) ≡ None
    go rest true q = absurd (true≢false (sym (all 0 e refl) ∙ ap (λ (t : List ℕ). slice_index_or marks (ends_of t) true) (sym ((bytes_eq-Decides text e.0.now).0 q)) ∙ h))
    go rest false q = ap (λ (b : Bool). cond b (Some e.1) (lookup (λ (k : Bor (List ℕ)). bytes_eq text k.now) es)) q ∙ rest
