use Rattle.std.proofs.Common.{◌≡◌, ◌≤◌, ◌+◌, ℕ, List, ◌∷◌, [], ◌++◌, length, map, sym, ◌∙◌, ap, subst, arith, string_bytes, Bor, refl, true≢false, inl, inr}
use Rattle.std.specs.Prelude.{Some, None, slice_get}
use Rattle.std.specs.Option.{option_or, option_copied}
use Rattle.std.specs.Str.{IsUtf8}
use Rattle.std.proofs.lemmas.Bool.{cases_lt}
use Rattle.std.proofs.lemmas.List.{length-append}
use Rattle.std.proofs.lemmas.Str.{IsUtf8-from_ascii}
use Rattle.ipdl_base.specs.FileNames.{key_of, IsFileWord}
use Rattle.ipdl_base.specs.Outside.{FileMap}
use Rattle.file_log.specs.Log.{ForReads, HaveNames}
use Rattle.file_log.specs.Recorded.{files_of, reads_of}
use Rattle.file_log.proofs.Between.{failed_ends, for_both, for_each, for_some, for_succeeded, more_names, no_memory_ends, no_names, no_reads, then_ends}
use Rattle.include_graph.specs.declared.walk.ReachedFile.{ReachedFile}
use Rattle.include_graph.specs.Growth.{add_keys}
use Rattle.include_graph.specs.Reading.{AreRead, IsSource, row_of}
use Rattle.include_graph.specs.Sources.{word_of, name_on_path}
use Rattle.include_graph.proofs.Walks.{AreReached, Walking, key_more, reached_more, walk_more}
use Rattle.include_graph.proofs.WalkEnds.{IsBefore, apart, copied_is, first_word, none_reached, past_first, same_key, walk_end, walk_start}
use Rattle.include_graph.proofs.WordKeys.{word_found}
use Rattle.include_graph.proofs.walk.walk.Goals as goal

pub files-init : goal.files-init
files-init g c =
    let words = map string_bytes c.args.words.now in
    let path = map (λ (d : Bor (List ℕ)). d.now) c.args.path.now in
    let list = c.args.keys.now.keys in
    let none : [] ≡ c.in_ok-reached.reached.items = sym c.in_ok-reached.ensures.items in
    let P : FileMap → Type 0 = λ files. AreReached (record { files = files; words = words; path = path }) list [] in
    record {
      walking = subst (λ (fs : List ReachedFile). Walking words list fs) none (walk_start words list (map (λ (f : Bor (List ℕ)). f.now) c.args.firsts.now) c.requires.words c.requires.keys);
      reached = subst (λ (fs : List ReachedFile). ForReads (g.F.Files.known (files_of c.args.files.now)) (reads_of c.args.files.now) (reads_of c.args.files.now) (λ files. AreReached (record { files = files; words = words; path = path }) list fs)) none
          (no_reads (g.F.Files.known (files_of c.args.files.now)) (reads_of c.args.files.now) P (λ files. none_reached (record { files = files; words = words; path = path }) list));
      names = no_names _ (reads_of c.args.files.now);
      told = refl;
      count = omega arith;
    }

pub read_key-requires-clause-word : goal.read_key-requires-clause-word
read_key-requires-clause-word g c =
    let n = length c.files.reached.items in
    let number : c.len.result ≡ n = omega (arith, c.len.ensures, c.files.reached.ok.0) in
    let at : slice_get c.files.keys.keys n ≡ Some c.in-Some.key.now = sym (c.in-Some.ensures.key ∙ ap (slice_get c.files.keys.keys) number) in
    subst IsFileWord (sym c.as_slice.ensures) (c.files.invariant.walking.whole n c.in-Some.key.now at).ended

pub read_key-requires-clause-own : goal.read_key-requires-clause-own
read_key-requires-clause-own g c =
    let n = length c.files.reached.items in
    let number : c.len.result ≡ n = omega (arith, c.len.ensures, c.files.reached.ok.0) in
    let at : slice_get c.files.keys.keys n ≡ Some c.in-Some.key.now = sym (c.in-Some.ensures.key ∙ ap (slice_get c.files.keys.keys) number) in
    subst (λ k. key_of k ≡ k) (sym c.as_slice.ensures) (c.files.invariant.walking.whole n c.in-Some.key.now at).own

pub read_key-requires-clause-named : goal.read_key-requires-clause-named
read_key-requires-clause-named g c text is =
    let n = length c.files.reached.items in
    let key = c.in-Some.key.now in
    let list = c.files.keys.keys in
    let words = map string_bytes c.args.words.now in
    let firsts = map (λ (f : Bor (List ℕ)). f.now) c.args.firsts.now in
    let number : c.len.result ≡ n = omega (arith, c.len.ensures, c.files.reached.ok.0) in
    let again : c.len-number.result ≡ n = omega (arith, c.len-number.ensures, c.files.reached.ok.0) in
    let at : slice_get list n ≡ Some key = sym (c.in-Some.ensures.key ∙ ap (slice_get list) number) in
    let w = c.files.invariant.walking in
    let word : option_copied c.copied-word.result ≡ word_of words key =
    ap option_copied c.copied-word.ensures ∙ (copied_is c.args.firsts.now c.len-number.result c.get.result c.get.ensures.lookup.3 ∙ (ap (slice_get firsts) again ∙ first_word words c.args.keys.now.keys list w.grown.further firsts n key c.requires.keys w.grown.begins w.grown.once at)) in
    (word_found words key text (sym word ∙ is)).1 ∙ sym c.as_slice.ensures

pub read_key-requires-clause-utf8 : goal.read_key-requires-clause-utf8
read_key-requires-clause-utf8 g c none =
    let n = length c.files.reached.items in
    let key = c.in-Some.key.now in
    let words = map string_bytes c.args.words.now in
    let firsts = map (λ (f : Bor (List ℕ)). f.now) c.args.firsts.now in
    let number : c.len.result ≡ n = omega (arith, c.len.ensures, c.files.reached.ok.0) in
    let again : c.len-number.result ≡ n = omega (arith, c.len-number.ensures, c.files.reached.ok.0) in
    let at : slice_get c.files.keys.keys n ≡ Some key = sym (c.in-Some.ensures.key ∙ ap (slice_get c.files.keys.keys) number) in
    let w = c.files.invariant.walking in
    let beside : slice_get firsts n ≡ None = ap (slice_get firsts) (sym again) ∙ (sym (copied_is c.args.firsts.now c.len-number.result c.get.result c.get.ensures.lookup.3) ∙ (ap option_copied (sym c.copied-word.ensures) ∙ none)) in
    subst IsUtf8 (sym c.as_slice.ensures) (IsUtf8-from_ascii key (w.plain n key at (past_first words c.args.keys.now.keys firsts n c.requires.keys beside)))

pub returns-in_err-source-clause-ended : goal.returns-in_err-source-clause-ended
returns-in_err-source-clause-ended g c =
    let mid = reads_of c.files.files in
    let new = reads_of c.read_key.new.files in
    then_ends (reads_of c.args.files.now) mid new c.from_residual-in_err-source.result (for_succeeded c.files.invariant.reached)
    (failed_ends mid new c.read_key.result c.from_residual-in_err-source.result c.in_err-source.field-0.0 c.in_err-source.was c.from_residual-in_err-source.ensures.1 c.read_key.ensures.ended)

pub returns-in_err-targets-clause-ended : goal.returns-in_err-targets-clause-ended
returns-in_err-targets-clause-ended g c =
    let mid = reads_of c.files.files in
    let new = reads_of c.read_key.new.files in
    then_ends (reads_of c.args.files.now) mid new c.from_residual-in_err-targets.result (for_succeeded c.files.invariant.reached)
    (no_memory_ends mid new c.from_residual-in_err-targets.result c.from_residual-in_err-targets.ensures.1 (for_succeeded c.in_ok-source.ensures.source))

pub returns-in_err-push-clause-ended : goal.returns-in_err-push-clause-ended
returns-in_err-push-clause-ended g c =
    let mid = reads_of c.files.files in
    let new = reads_of c.read_key.new.files in
    then_ends (reads_of c.args.files.now) mid new c.from_residual-in_err-push.result (for_succeeded c.files.invariant.reached)
    (no_memory_ends mid new c.from_residual-in_err-push.result c.from_residual-in_err-push.ensures.1 (for_succeeded c.in_ok-source.ensures.source))

pub files-preserved : goal.files-preserved
files-preserved g c =
    let n = length c.files.reached.items in
    let key = c.in-Some.key.now in
    let list = c.files.keys.keys in
    let words = map string_bytes c.args.words.now in
    let path = map (λ (d : Bor (List ℕ)). d.now) c.args.path.now in
    let firsts = map (λ (f : Bor (List ℕ)). f.now) c.args.firsts.now in
    let number : c.len.result ≡ n = omega (arith, c.len.ensures, c.files.reached.ok.0) in
    let again : c.len-number.result ≡ n = omega (arith, c.len-number.ensures, c.files.reached.ok.0) in
    let at : slice_get list n ≡ Some key = sym (c.in-Some.ensures.key ∙ ap (slice_get list) number) in
    let w = c.files.invariant.walking in
    let old = reads_of c.args.files.now in
    let mid = reads_of c.files.files in
    let end = reads_of c.read_key.new.files in
    let told = g.F.Files.known (files_of c.args.files.now) in
    let word : option_copied c.copied-word.result ≡ word_of words key =
    ap option_copied c.copied-word.ensures ∙ (copied_is c.args.firsts.now c.len-number.result c.get.result c.get.ensures.lookup.3 ∙ (ap (slice_get firsts) again ∙ first_word words c.args.keys.now.keys list w.grown.further firsts n key c.requires.keys w.grown.begins w.grown.once at)) in
    let source = c.in_ok-source.source in
    let read = c.in_ok-source.ensures.source in
    let file : ReachedFile = record { source = source; targets = c.in_ok-targets.targets } in
    let files = c.files.reached.items in
    let new = c.add_named.new.keys.keys in
    let all = c.push.new.self.items in
    let grows : new ≡ add_keys list (row_of source.content) = c.in_ok-targets.ensures.keys in
    let is : all ≡ files ++ file ∷ [] = c.in_ok-push.ensures.items in
    let names_read : HaveNames (λ name. key_of name ≡ key) mid end = subst (λ k. HaveNames (λ name. key_of name ≡ k) mid end) c.as_slice.ensures c.in_ok-source.ensures.names in
    let some = for_some read in
    let P : FileMap → Type 0 = λ m. AreReached (record { files = m; words = words; path = path }) list files in
    let Q : FileMap → Type 0 = λ m. IsSource c.len-number.result c.as_slice.result.now m (option_or (option_copied c.copied-word.result) (name_on_path m path c.as_slice.result.now)) source in
    let R : FileMap → Type 0 = λ m. AreReached (record { files = m; words = words; path = path }) new all in
    let long : length all ≡ n + 1 = ap length is ∙ length-append files (file ∷ []) in
    record {
      walking = walk_more list new files all key file at grows is c.words_hold.ensures c.names_hold.ensures words _ _ _ some.1.content w;
      reached = for_both P Q R c.files.invariant.told c.files.invariant.names names_read
          (λ name earlier this. apart list earlier.0 n (key_of name) key w.grown.once earlier.1 earlier.2 at this)
          (λ m each here. reached_more list new files all key file at grows is (record { files = m; words = words; path = path }) c.in_ok-targets.ensures.targets (same_key path source again c.as_slice.ensures word m here) each)
          c.files.invariant.reached read;
      names = more_names (λ name. IsBefore list n (key_of name)) (λ name. key_of name ≡ key) (λ name. IsBefore new (length all) (key_of name))
          (λ name earlier. (
            earlier.0,
            (let below = earlier.1 in omega (arith, long)),
            subst (λ ks. slice_get ks earlier.0 ≡ Some (key_of name)) (sym grows) (key_more list (row_of source.content) earlier.0 (key_of name) earlier.2),
          ))
          (λ name this. (
            n,
            omega (arith, long),
            subst (λ ks. slice_get ks n ≡ Some (key_of name)) (sym grows) (subst (λ k. slice_get (add_keys list (row_of source.content)) n ≡ Some k) (sym this) (key_more list (row_of source.content) n key at)),
          ))
          c.files.invariant.names names_read;
      told = c.read_key.ensures.told ∙ c.files.invariant.told;
      count = (let a = c.files.invariant.count in let b = c.read_key.ensures.count in omega arith);
    }

pub returns-clause-read : goal.returns-clause-read
returns-clause-read g c =
    let n = length c.files.reached.items in
    let list = c.files.keys.keys in
    let words = map string_bytes c.args.words.now in
    let path = map (λ (d : Bor (List ℕ)). d.now) c.args.path.now in
    let number : c.len.result ≡ n = omega (arith, c.len.ensures, c.files.reached.ok.0) in
    let all : length list ≤ n = elim (cases_lt n (length list)) [
      | inl less ↦ absurd (true≢false (sym (c.in_default.ensures.found.1 (omega (arith, number, less)))))
      | inr more ↦ more
    ] in
    let P : FileMap → Type 0 = λ m. AreReached (record { files = m; words = words; path = path }) list c.files.reached.items in
    let Q : FileMap → Type 0 = λ m. AreRead (record { files = m; words = words; path = path }) list c.files.reached.items in
    for_each P Q (λ m each. walk_end (record { files = m; words = words; path = path }) list c.files.reached.items c.files.invariant.walking all each) c.files.invariant.reached

pub returns-clause-ended : goal.returns-clause-ended
returns-clause-ended g c = for_succeeded c.files.invariant.reached
