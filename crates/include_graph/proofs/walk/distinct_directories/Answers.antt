use Rattle.std.proofs.Common.{◌≡◌, ℕ, List, ◌∷◌, [], ◌++◌, map, take, sym, ap, ◌∙◌, subst, string_bytes, String, Global, Bor, not, if◌then◌else◌}
use Rattle.std.specs.List.{list_any}
use Rattle.std.specs.declared.vec.Vec.{Vec}
use Rattle.std.proofs.lemmas.List.{take_all, map-append}
use Rattle.include_graph.specs.Growth.{AreDifferent}
use Rattle.include_graph.specs.Keys.{is_same}
use Rattle.include_graph.proofs.Inserted.{kept, more_texts, turned}
use Rattle.include_graph.proofs.WordKeys.{still_different, more_different}
use Rattle.include_graph.proofs.walk.distinct_directories.Goals as goal
use Rattle.include_graph.proofs.walk.distinct_directories.Goals.{then-branch+in_ok-push, else-branch}

pub loop-directory-preserved : goal.loop-directory-preserved
loop-directory-preserved c =
    let path = c.args.path.now in
    let i = c.loop-directory.directory-index in
    let text = string_bytes c.directory-item.result in
    let list = c.loop-directory.seen.keys in
    let distinct = map (λ (d : Bor (List ℕ)). d.now) c.loop-directory.distinct.items in
    let before = map string_bytes (take i path) in
    let front = ap (λ (s : String Global). before ++ string_bytes s ∷ []) c.directory-item.is ∙ sym (more_texts path i c.directory-item.result c.loop-directory-test.true) in
    let is : c.in_ok-name.name ≡ text = c.in_ok-name.ensures.ok ∙ c.as_bytes.ensures.value in
    let put = subst (λ k. c.insert.new.self.keys ≡ (if list_any (is_same k) list then list else list ++ k ∷ [])) is c.in_ok-insert.ensures.keys in
    let added = subst (λ k. c.in_ok-insert.field-0 ≡ not (list_any (is_same k) list)) is c.in_ok-insert.ensures.added in
    elim c.if-branch.branch [
      | then-branch+in_ok-push w ↦
          let fresh = turned c.in_ok-insert.field-0 (list_any (is_same text) list) added w.if-branch.true in
          let now : c.insert.new.self.keys ≡ list ++ text ∷ [] = rw fresh at put in
          let pushed : map (λ (d : Bor (List ℕ)). d.now) c.if-branch.distinct.items ≡ distinct ++ text ∷ [] =
          ap (λ (v : Vec (Bor (List ℕ)) Global). map (λ (d : Bor (List ℕ)). d.now) v.items) w.distinct-is
          ∙ ap (map (λ (d : Bor (List ℕ)). d.now)) w.in_ok-push.ensures.items
          ∙ map-append (λ (d : Bor (List ℕ)). d.now) c.loop-directory.distinct.items (w.as_str.result ∷ [])
          ∙ ap (λ x. distinct ++ x ∷ []) w.as_str.ensures.value in
          record {
            seen = subst (λ ds. AreDifferent ds c.insert.new.self.keys) front (subst (AreDifferent (before ++ text ∷ [])) (sym now) (more_different before list text c.loop-directory.invariant.seen fresh));
            same = pushed ∙ ap (λ ds. ds ++ text ∷ []) c.loop-directory.invariant.same ∙ sym now;
          }
      | else-branch w ↦
          let there = kept c.in_ok-insert.field-0 (list_any (is_same text) list) added w.if-branch.false in
          let now : c.insert.new.self.keys ≡ list = rw there at put in
          record {
            seen = subst (λ ds. AreDifferent ds c.insert.new.self.keys) front (subst (AreDifferent (before ++ text ∷ [])) (sym now) (still_different before list text c.loop-directory.invariant.seen there));
            same = ap (λ (v : Vec (Bor (List ℕ)) Global). map (λ (d : Bor (List ℕ)). d.now) v.items) w.distinct-is ∙ c.loop-directory.invariant.same ∙ sym now;
          }
    ]

pub returns : goal.returns
returns c =
    let path = c.args.path.now in
    let list = c.loop-directory.seen.keys in
    subst (AreDifferent (map string_bytes path)) (sym c.loop-directory.invariant.same)
    (subst (λ (ds : List (String Global)). AreDifferent (map string_bytes ds) list) (take_all c.loop-directory.directory-index path c.loop-directory-test.false) c.loop-directory.invariant.seen)
