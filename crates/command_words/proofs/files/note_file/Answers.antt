use Rattle.std.proofs.Common.{◌≡◌, ◌∙◌, ◌∷◌, ◌++◌, [], List, ℕ, false, true≢false, sym, ap, subst, arith, length, ◌<◌, ◌≤◌}
use Rattle.std.specs.Str.{bytes_eq}
use Rattle.indexmap.proofs.CallerLemmas.{insert_entry-new}
use Rattle.ipdl_base.specs.FileNames.{IsFileWord, key_of}
use Rattle.command_words.specs.Compile.{AreListed, HasWord}
use Rattle.command_words.specs.Listed.{names_of}
use Rattle.command_words.proofs.Comparisons.{same_text, text_is}
use Rattle.command_words.proofs.FileLists.{again_listed, full_listed, key_listed, new_listed, not_listed}
use Rattle.command_words.proofs.Noting.{found_key, keyed_new, lacks_key, names_length, names_new}
use Rattle.command_words.proofs.files.note_file.Goals as goal

pub returns-then-not-is_file_word-clause-usage : goal.returns-then-not-is_file_word-clause-usage
returns-then-not-is_file_word-clause-usage c is seen more all before =
    not_listed seen more all c.args.word.now (λ file. absurd (true≢false (sym (c.is_file_word.ensures.1 (subst IsFileWord (sym c.as_bytes-bytes.ensures.value) file)) ∙ c.if-not-is_file_word.true)))

pub returns-then-len-ge-MOST_FILES-clause-usage : goal.returns-then-len-ge-MOST_FILES-clause-usage
returns-then-len-ge-MOST_FILES-clause-usage c is seen more all before =
    let key : key_of c.args.word.now ≡ c.key_of-key.result.now = sym (c.key_of-key.ensures ∙ ap key_of c.as_bytes-bytes.ensures.value) in
    let full : 4096 ≤ length (names_of c.args.files.now) = omega (arith, names_length c.args.files.now.entries) in
    full_listed seen more (names_of c.args.files.now) all c.args.word.now before (λ v stands same. lacks_key c.key_of-key.result.now c.args.files.now.entries c.requires c.in-None.ensures.value v stands (same ∙ key)) full

pub returns-then-eq-clause-noted : goal.returns-then-eq-clause-noted
returns-then-eq-clause-noted c seen before =
    let found = found_key c.key_of-key.result.now c.args.files.now.entries c.in-Some.first.now c.requires c.in-Some.ensures.value in
    let same : c.in-Some.first.now.now ≡ c.args.word.now = text_is c.in-Some.first.now.now c.args.word.now (sym c.if-eq.ensures) in
    again_listed seen (names_of c.args.files.now) c.args.word.now before (subst (λ (t : List ℕ). HasWord (names_of c.args.files.now) t) same found.0)

pub returns-else-eq-clause-usage : goal.returns-else-eq-clause-usage
returns-else-eq-clause-usage c is seen more all before =
    let key : key_of c.args.word.now ≡ c.key_of-key.result.now = sym (c.key_of-key.ensures ∙ ap key_of c.as_bytes-bytes.ensures.value) in
    let found = found_key c.key_of-key.result.now c.args.files.now.entries c.in-Some.first.now c.requires c.in-Some.ensures.value in
    let other : bytes_eq c.in-Some.first.now.now c.args.word.now ≡ false = sym c.if-eq.ensures in
    key_listed seen more (names_of c.args.files.now) all c.in-Some.first.now.now c.args.word.now before found.0 (found.1 ∙ sym key)
    (λ same. absurd (true≢false (sym (same_text c.args.word.now) ∙ ap (λ (t : List ℕ). bytes_eq t c.args.word.now) (sym same) ∙ other)))

pub returns-in_ok-insert-in-None-clause-keyed : goal.returns-in_ok-insert-in-None-clause-keyed
returns-in_ok-insert-in-None-clause-keyed c =
    let key : key_of c.args.word.now ≡ c.key_of-key.result.now = sym (c.key_of-key.ensures ∙ ap key_of c.as_bytes-bytes.ensures.value) in
    keyed_new c.args.files.now.entries c.insert.new.self.entries c.key_of-key.result c.args.word c.requires key (c.in_ok-insert-in-None.ensures.entries ∙ insert_entry-new _ c.args.files.now c.key_of-key.result c.args.word (sym c.in-None.ensures.value))

pub returns-in_ok-insert-in-None-clause-noted : goal.returns-in_ok-insert-in-None-clause-noted
returns-in_ok-insert-in-None-clause-noted c seen before =
    let key : key_of c.args.word.now ≡ c.key_of-key.result.now = sym (c.key_of-key.ensures ∙ ap key_of c.as_bytes-bytes.ensures.value) in
    let few : length (names_of c.args.files.now) < 4096 = omega (arith, names_length c.args.files.now.entries) in
    let last = names_new c.args.files.now.entries c.insert.new.self.entries c.key_of-key.result c.args.word (c.in_ok-insert-in-None.ensures.entries ∙ insert_entry-new _ c.args.files.now c.key_of-key.result c.args.word (sym c.in-None.ensures.value)) in
    subst (λ (ws : List (List ℕ)). AreListed (seen ++ c.args.word.now ∷ []) ws) last
    (new_listed seen (names_of c.args.files.now) c.args.word.now before (subst IsFileWord c.as_bytes-bytes.ensures.value (c.is_file_word.ensures.0 c.if-not-is_file_word.false)) (λ v stands same. lacks_key c.key_of-key.result.now c.args.files.now.entries c.requires c.in-None.ensures.value v stands (same ∙ key)) few)
