use Rattle.std.proofs.Common.{◌≡◌, ℕ, List, ◌∷◌, [], ◌++◌, map, take, sym, ap, ◌∙◌, subst, string_bytes, String, Global, Bor, not, if◌then◌else◌}
use Rattle.std.specs.List.{list_any}
use Rattle.std.specs.declared.vec.Vec.{Vec}
use Rattle.std.proofs.lemmas.List.{map-append}
use Rattle.include_graph.specs.Growth.{HasWords}
use Rattle.ipdl_base.specs.FileNames.{key_of}
use Rattle.include_graph.specs.Keys.{is_same}
use Rattle.include_graph.proofs.Inserted.{kept, more_texts, turned}
use Rattle.include_graph.proofs.WordKeys.{words_old, words_new}
use Rattle.include_graph.proofs.walk.add_words.Goals as goal
use Rattle.include_graph.proofs.walk.add_words.Goals.{then-branch+in_ok-push, else-branch}

pub loop-word-preserved : goal.loop-word-preserved
loop-word-preserved c =
    let words = c.args.words.now in
    let i = c.loop-word.word-index in
    let word = string_bytes c.word-item.result in
    let list = c.loop-word.keys.keys in
    let firsts = map (λ (f : Bor (List ℕ)). f.now) c.loop-word.firsts.items in
    let before = map string_bytes (take i words) in
    let front = ap (λ (s : String Global). before ++ string_bytes s ∷ []) c.word-item.is ∙ sym (more_texts words i c.word-item.result c.loop-word-test.true) in
    let is : c.in_ok-key.key ≡ key_of word = c.in_ok-key.ensures.ok ∙ (c.key_of.ensures ∙ ap key_of c.as_bytes.ensures.value) in
    let put = subst (λ k. c.insert.new.self.keys ≡ (if list_any (is_same k) list then list else list ++ k ∷ [])) is c.in_ok-insert.ensures.keys in
    let added = subst (λ k. c.in_ok-insert.field-0 ≡ not (list_any (is_same k) list)) is c.in_ok-insert.ensures.added in
    elim c.if-branch.branch [
      | then-branch+in_ok-push w ↦
          let fresh = turned c.in_ok-insert.field-0 (list_any (is_same (key_of word)) list) added w.if-branch.true in
          let told : map (λ (f : Bor (List ℕ)). f.now) c.if-branch.firsts.items ≡ firsts ++ word ∷ [] =
          ap (λ (v : Vec (Bor (List ℕ)) Global). map (λ (f : Bor (List ℕ)). f.now) v.items) w.firsts-is
          ∙ ap (map (λ (f : Bor (List ℕ)). f.now)) w.in_ok-push.ensures.items
          ∙ map-append (λ (f : Bor (List ℕ)). f.now) c.loop-word.firsts.items (w.as_str.result ∷ [])
          ∙ ap (λ x. firsts ++ x ∷ []) w.as_str.ensures.value in
          subst (λ ws. HasWords ws c.insert.new.self.keys (map (λ (f : Bor (List ℕ)). f.now) c.if-branch.firsts.items)) front
          (subst (λ fs. HasWords (before ++ word ∷ []) c.insert.new.self.keys fs) (sym told)
          (subst (λ ks. HasWords (before ++ word ∷ []) ks (firsts ++ word ∷ [])) (sym (rw fresh at put)) (words_new before list firsts word c.loop-word.invariant fresh)))
      | else-branch w ↦
          let there = kept c.in_ok-insert.field-0 (list_any (is_same (key_of word)) list) added w.if-branch.false in
          let told : map (λ (f : Bor (List ℕ)). f.now) c.if-branch.firsts.items ≡ firsts = ap (λ (v : Vec (Bor (List ℕ)) Global). map (λ (f : Bor (List ℕ)). f.now) v.items) w.firsts-is in
          subst (λ ws. HasWords ws c.insert.new.self.keys (map (λ (f : Bor (List ℕ)). f.now) c.if-branch.firsts.items)) front
          (subst (λ fs. HasWords (before ++ word ∷ []) c.insert.new.self.keys fs) (sym told)
          (subst (λ ks. HasWords (before ++ word ∷ []) ks firsts) (sym (rw there at put)) (words_old before list firsts word c.loop-word.invariant there)))
    ]
