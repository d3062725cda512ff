-- The entries of a program, made from the last one on.
use Rattle.std.proofs.Common.{◌≡◌, ℕ, List, [], ◌∷◌, ◌++◌, reverse, sym, ◌∙◌, ap, subst, append_assoc}
use Rattle.std.specs.List.{AllByRecursion, Contains}
use Rattle.std.proofs.lemmas.List.{append-nil, reverse-append}
use Rattle.std.proofs.lemmas.List.Elements.{All-from_recursion, All-contains, Contains-append_left, Contains-push}
use Rattle.ipdl_syntax.specs.declared.program.Entry.{Entry}
use Rattle.include_graph.specs.declared.walk.ReachedFile.{ReachedFile}
use Rattle.include_graph.specs.Reading.{IsOfTree, IsEntryFrom, AreEntriesFrom}

-- Entries are made of the last keys and files; the others are left.
pub record Making (keys : List (List ℕ)) (files : List ReachedFile) (left_keys : List (List ℕ)) (left : List ReachedFile) (program : List Entry) : Type 0 where
  pub done_keys : List (List ℕ)
  pub done : List ReachedFile
  pub all_keys : keys ≡ left_keys ++ done_keys
  pub all : files ≡ left ++ done
  pub made : AreEntriesFrom done_keys done (reverse program)

-- no entry is made yet
pub making_none : (keys : List (List ℕ)) (files : List ReachedFile) → Making keys files keys files []
making_none keys files = record { done_keys = []; done = []; all_keys = sym (append-nil keys); all = sym (append-nil files); made = tt }

-- one more entry is made
pub making_more : (keys : List (List ℕ)) (files : List ReachedFile) (left_keys rest_keys : List (List ℕ)) (left rest : List ReachedFile) (program : List Entry) (key : List ℕ) (file : ReachedFile) (entry : Entry)
    → Making keys files left_keys left program → left_keys ≡ rest_keys ++ key ∷ [] → left ≡ rest ++ file ∷ [] → IsEntryFrom key file entry → Making keys files rest_keys rest (program ++ entry ∷ [])
making_more keys files left_keys rest_keys left rest program key file entry m a b e = record {
  done_keys = key ∷ m.done_keys;
  done = file ∷ m.done;
  all_keys = m.all_keys ∙ ap (λ ks. ks ++ m.done_keys) a ∙ append_assoc rest_keys (key ∷ []) m.done_keys;
  all = m.all ∙ ap (λ (fs : List ReachedFile). fs ++ m.done) b ∙ append_assoc rest (file ∷ []) m.done;
  made =
      let first : AreEntriesFrom (key ∷ m.done_keys) (file ∷ m.done) (entry ∷ reverse program) = (e, m.made) in
      subst (λ (es : List Entry). AreEntriesFrom (key ∷ m.done_keys) (file ∷ m.done) es) (sym (reverse-append program (entry ∷ []))) first;
}

-- a file that is left is one of all
pub left_tree : (keys : List (List ℕ)) (files : List ReachedFile) (left_keys : List (List ℕ)) (left rest : List ReachedFile) (program : List Entry) (file : ReachedFile)
    → Making keys files left_keys left program → left ≡ rest ++ file ∷ [] → AllByRecursion (λ f. IsOfTree f.source.content) files → IsOfTree file.source.content
left_tree keys files left_keys left rest program file m b all =
    All-contains (λ (f : ReachedFile). IsOfTree f.source.content) files file (All-from_recursion (λ (f : ReachedFile). IsOfTree f.source.content) files all)
    (subst (λ (fs : List ReachedFile). Contains fs file) (sym m.all) (Contains-append_left left m.done file (subst (λ (fs : List ReachedFile). Contains fs file) (sym b) (Contains-push rest file))))
