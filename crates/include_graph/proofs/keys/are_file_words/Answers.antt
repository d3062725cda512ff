use Rattle.std.proofs.Common.{◌<◌, refl, map, length, get_or, sym, subst, ◌∙◌, arith, string_bytes, true≢false, String, Global}
use Rattle.std.specs.List.{All}
use Rattle.std.proofs.lemmas.List.{take_all, length-map, get_or-map}
use Rattle.std.proofs.lemmas.List.Elements.{All-more, All-map, All-from_recursion, recursion_from_All, All-get_or}
use Rattle.ipdl_base.specs.FileNames.{IsFileWord}
use Rattle.include_graph.proofs.keys.are_file_words.Goals as goal

pub loop-word-preserved : goal.loop-word-preserved
loop-word-preserved c =
    let P : String Global → Type 0 = λ w. IsFileWord (string_bytes w) in
    let here : IsFileWord c.as_bytes.result.now = c.is_file_word.ensures.0 c.if-not-is_file_word.false in
    All-more P c.args.words.now c.loop-word.word-index c.word-item.result c.loop-word-test.true c.loop-word.invariant
    (subst P c.word-item.is (subst IsFileWord c.as_bytes.ensures.value here))

pub returns-then-not-is_file_word : goal.returns-then-not-is_file_word
returns-then-not-is_file_word c = (
  λ h. absurd (true≢false (sym h)),
  λ w.
      let i = c.loop-word.word-index in
      let words = c.args.words.now in
      let within : i < length (map string_bytes words) = omega (arith, length-map words string_bytes, c.loop-word-test.true) in
      let all = All-from_recursion IsFileWord (map string_bytes words) w.files in
      let at : IsFileWord (get_or (map string_bytes words) i (string_bytes c.word-item.result)) = All-get_or IsFileWord (map string_bytes words) i (string_bytes c.word-item.result) within all in
      let is = get_or-map string_bytes words i c.word-item.result (string_bytes c.word-item.result) c.loop-word-test.true in
      let item : IsFileWord (string_bytes c.word-item.result) = subst (λ (s : String Global). IsFileWord (string_bytes s)) (sym c.word-item.is) (subst IsFileWord is at) in
      absurd (true≢false (sym (c.is_file_word.ensures.1 (subst IsFileWord (sym c.as_bytes.ensures.value) item)) ∙ c.if-not-is_file_word.true)),
)

pub returns : goal.returns
returns c = (
  λ _. record {
    few = omega (arith, length-map c.args.words.now string_bytes, c.if-words-gt-MOST_WORDS.false);
    files = recursion_from_All IsFileWord (map string_bytes c.args.words.now) (All-map IsFileWord string_bytes c.args.words.now (subst (All (λ (w : String Global). IsFileWord (string_bytes w))) (take_all c.loop-word.word-index c.args.words.now c.loop-word-test.false) c.loop-word.invariant));
  },
  λ _. refl,
)
