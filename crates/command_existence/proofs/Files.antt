-- It is decided which files words name, or that they name no files.
use Rattle.std.proofs.Common.{◌≡◌, ◌⊎◌, ◌∙◌, ℕ, ◌<◌, ◌≤◌, List, [], ◌∷◌, ◌++◌, length, refl, sym, ap, subst, inl, inr, ⊎_elim, arith, codes, append_assoc}
use Rattle.std.proofs.lemmas.Bool.{cases_eq, cases_lt}
use Rattle.std.proofs.lemmas.List.{append-nil}
use Rattle.ipdl_base.specs.FileNames.{IsFileWord, key_of}
use Rattle.command_words.specs.Compile.{AreFiles, AreListed, HasWord}
use Rattle.command_words.specs.Frames.{AreOperands}
use Rattle.command_words.specs.Gen.{IsRounds}
use Rattle.command_words.specs.Operands.{AreScriptOperands}
use Rattle.command_words.specs.Run.{AreRunOperands}
use Rattle.command_words.specs.RunOptions.{IsCount}
use Rattle.command_words.specs.Waits.{IsOperand}
use Rattle.command_words.proofs.FileLists.{again_listed, full_listed, key_listed, new_listed, not_listed}
use Rattle.report_existence.proofs.Lists.{EndsWith, ends_or_not, text_or_not}
use Rattle.command_existence.proofs.Values.{Decided, Text, rounds_decided}

-- Lists of files

file_or_not : (word : Text) → IsFileWord word ⊎ (IsFileWord word → ⊥)
file_or_not word = by (ends_or_not cases_eq (codes ".ipdl") word) (ends_or_not cases_eq (codes ".ipdlh") word)
  where
    by : EndsWith (codes ".ipdl") word ⊎ (EndsWith (codes ".ipdl") word → ⊥) → EndsWith (codes ".ipdlh") word ⊎ (EndsWith (codes ".ipdlh") word → ⊥) → IsFileWord word ⊎ (IsFileWord word → ⊥)
    by (inl (front, e)) header = inl (front, inl e)
    by (inr no_file) (inl (front, e)) = inl (front, inr e)
    by (inr no_file) (inr no_header) = inr (λ is. ⊎_elim (λ (e : word ≡ is.0 ++ codes ".ipdl"). no_file (is.0, e)) (λ (e : word ≡ is.0 ++ codes ".ipdlh"). no_header (is.0, e)) is.1)

-- a word of the list has the key of another, or no word has it
HasKey : List Text → Text → Text → Type 0
HasKey words w v = HasWord words v × (key_of v ≡ key_of w)

key_decided : (words : List Text) (w : Text) → Decided (HasKey words w)
unfolding HasKey
key_decided [] w = inr (λ v h. h.0)
key_decided (x ∷ xs) w = by (text_or_not (key_of x) (key_of w)) (key_decided xs w)
  where
    none : (key_of x ≡ key_of w → ⊥) → ((v : Text) → HasKey xs w v → ⊥) → (v : Text) → (x ≡ v) ⊎ HasWord xs v → key_of v ≡ key_of w → ⊥
    none differ later v (inl e) same = differ (subst (λ y. key_of y ≡ key_of w) (sym e) same)
    none differ later v (inr h) same = later v (h, same)

    by : (key_of x ≡ key_of w) ⊎ (key_of x ≡ key_of w → ⊥) → Decided (HasKey xs w) → Decided (HasKey (x ∷ xs) w)
    by (inl same) later = inl (x, (inl refl, same))
    by (inr differ) (inl (v, h)) = inl (v, (inr h.0, h.1))
    by (inr differ) (inr later) = inr (λ v h. none differ later v h.0 h.1)

-- the files that more words name, after the listed ones
listed_after : (seen rest files : List Text) → AreListed seen files → Decided (AreListed (seen ++ rest))
unfolding HasKey
listed_after seen [] files listed = inl (files, subst (λ ws. AreListed ws files) (sym (append-nil seen)) listed)
listed_after seen (w ∷ rest) files listed = by (λ more h. listed_after (seen ++ w ∷ []) rest more h) (file_or_not w) (key_decided files w)
  where
    so : Decided (AreListed ((seen ++ w ∷ []) ++ rest)) → Decided (AreListed (seen ++ w ∷ rest))
    so = subst (λ ws. Decided (AreListed ws)) (append_assoc seen (w ∷ []) rest)

    by_word : ((more : List Text) → AreListed (seen ++ w ∷ []) more → Decided (AreListed ((seen ++ w ∷ []) ++ rest))) → (v : Text) → HasWord files v → key_of v ≡ key_of w → (v ≡ w) ⊎ (v ≡ w → ⊥) → Decided (AreListed (seen ++ w ∷ rest))
    by_word goes v stands same (inl e) = so (goes files (again_listed seen files w listed (subst (HasWord files) e stands)))
    by_word goes v stands same (inr differ) = inr (λ all. key_listed seen rest files all v w listed stands same differ)

    by : ((more : List Text) → AreListed (seen ++ w ∷ []) more → Decided (AreListed ((seen ++ w ∷ []) ++ rest))) → IsFileWord w ⊎ (IsFileWord w → ⊥) → Decided (HasKey files w) → Decided (AreListed (seen ++ w ∷ rest))
    by goes (inr no_file) key = inr (λ all. not_listed seen rest all w no_file)
    by goes (inl file) (inl (v, h)) = by_word goes v h.0 h.1 (text_or_not v w)
    by goes (inl file) (inr fresh) =
        ⊎_elim (λ (few : length files < 4096). so (goes (files ++ w ∷ []) (new_listed seen files w listed file (λ v stands same. fresh v (stands, same)) few)))
        (λ (full : 4096 ≤ length files). inr (λ all. full_listed seen rest files all w listed (λ v stands same. fresh v (stands, same)) full)) (cases_lt (length files) 4096)

pub files_decided : (words : List Text) → Decided (AreFiles words)
files_decided words = by (listed_after [] words [] (record { files_are = refl; each = tt; most = omega arith; keys = λ v w h. absurd h }))
  where
    some : (files : List Text) → AreListed words files → Decided (AreFiles words)
    some [] listed = inr (λ files is. let least = is.least in let same : files ≡ [] = is.listed.files_are ∙ sym listed.files_are in let long : length files ≡ 0 = ap length same in omega (arith, least, long))
    some (f ∷ fs) listed = inl (f ∷ fs, record { listed = listed; least = omega arith })

    by : Decided (AreListed words) → Decided (AreFiles words)
    by (inr none) = inr (λ files is. none files is.listed)
    by (inl (files, listed)) = some files listed

-- Operands

ends_in_ipdl : (file : Text) → EndsWith (codes ".ipdl") file ⊎ (EndsWith (codes ".ipdl") file → ⊥)
ends_in_ipdl = ends_or_not cases_eq (codes ".ipdl")

-- FILE
pub operand_decided : (words : List Text) → Decided (IsOperand words)
operand_decided [] = inr (λ file is. let e = is.one in cc)
operand_decided (file ∷ []) =
    ⊎_elim (λ (h : EndsWith (codes ".ipdl") file). inl (file, record { front = h.0; ending = h.1; one = refl }))
    (λ (none : EndsWith (codes ".ipdl") file → ⊥). inr (λ f is. let e = is.one in let same : file ≡ f = cc in none (is.front, same ∙ is.ending)))
    (ends_in_ipdl file)
operand_decided (a ∷ b ∷ more) = inr (λ file is. let e = is.one in cc)

-- FILE and FRAMES
pub frames_operands_decided : (words : List Text) → ((file : Text) × (frames : Text) × AreOperands words file frames) ⊎ ((file frames : Text) → AreOperands words file frames → ⊥)
frames_operands_decided [] = inr (λ file frames is. let e = is.both in cc)
frames_operands_decided (a ∷ []) = inr (λ file frames is. let e = is.both in cc)
frames_operands_decided (a ∷ b ∷ []) =
    ⊎_elim (λ (h : EndsWith (codes ".ipdl") a). inl (a, b, record { front = h.0; ending = h.1; both = refl }))
    (λ (none : EndsWith (codes ".ipdl") a → ⊥). inr (λ file frames is. let e = is.both in let same : a ≡ file = cc in none (is.front, same ∙ is.ending)))
    (ends_in_ipdl a)
frames_operands_decided (a ∷ b ∷ c ∷ more) = inr (λ file frames is. let e = is.both in cc)

-- SCRIPT and FILE
pub run_operands_decided : (words : List Text) → ((script : Text) × (file : Text) × AreRunOperands words script file) ⊎ ((script file : Text) → AreRunOperands words script file → ⊥)
run_operands_decided [] = inr (λ script file is. let e = is.both in cc)
run_operands_decided (a ∷ []) = inr (λ script file is. let e = is.both in cc)
run_operands_decided (a ∷ b ∷ []) =
    ⊎_elim (λ (h : EndsWith (codes ".ipdl") b). inl (a, b, record { front = h.0; ending = h.1; both = refl }))
    (λ (none : EndsWith (codes ".ipdl") b → ⊥). inr (λ script file is. let e = is.both in let same : b ≡ file = cc in none (is.front, same ∙ is.ending)))
    (ends_in_ipdl b)
run_operands_decided (a ∷ b ∷ c ∷ more) = inr (λ script file is. let e = is.both in cc)

-- SCRIPT, FILE and the input file
pub script_operands_decided : (words : List Text) → ((script : Text) × (file : Text) × (input : Text) × AreScriptOperands words script file input) ⊎ ((script file input : Text) → AreScriptOperands words script file input → ⊥)
script_operands_decided [] = inr (λ script file input is. let e = is.all in cc)
script_operands_decided (a ∷ []) = inr (λ script file input is. let e = is.all in cc)
script_operands_decided (a ∷ b ∷ []) = inr (λ script file input is. let e = is.all in cc)
script_operands_decided (a ∷ b ∷ c ∷ []) =
    ⊎_elim (λ (h : EndsWith (codes ".ipdl") b). inl (a, b, c, record { front = h.0; ending = h.1; all = refl }))
    (λ (none : EndsWith (codes ".ipdl") b → ⊥). inr (λ script file input is. let e = is.all in let same : b ≡ file = cc in none (is.front, same ∙ is.ending)))
    (ends_in_ipdl b)
script_operands_decided (a ∷ b ∷ c ∷ d ∷ more) = inr (λ script file input is. let e = is.all in cc)

-- N
pub rounds_word_decided : (words : List Text) → Decided (IsRounds words)
rounds_word_decided [] = inr (λ n is. let e = is.one in cc)
rounds_word_decided (text ∷ []) =
    ⊎_elim (λ (h : (n : ℕ) × IsCount 1000 text n). inl (h.0, record { text = text; one = refl; count = h.1 }))
    (λ (none : (n : ℕ) → IsCount 1000 text n → ⊥). inr (λ n is. let e = is.one in let same : is.text ≡ text = cc in none n (subst (λ t. IsCount 1000 t n) same is.count)))
    (rounds_decided text)
rounds_word_decided (a ∷ b ∷ more) = inr (λ n is. let e = is.one in cc)
