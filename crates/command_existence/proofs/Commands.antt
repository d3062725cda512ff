-- It is decided what the words after the first word of a command mean, or that they mean nothing.
use Rattle.std.proofs.Common.{◌≡◌, ◌≢◌, ◌⊎◌, ◌∙◌, List, [], ◌∷◌, Option, refl, sym, ap, subst, inl, inr, arith, codes}
use Rattle.std.specs.Prelude.{slice_index}
use Rattle.std.specs.List.{AllByRecursion}
use Rattle.std.specs.Str.{IsUtf8}
use Rattle.clap.specs.Words.{Kinds, fault_of}
use Rattle.command_words.specs.Audit.{IsNoAudit, audit_options, audit_word}
use Rattle.command_words.specs.Command.{CommandView, Say, audit, chart, compile, explore, feed, frames, gen, relay, run, waits}
use Rattle.command_words.specs.Compile.{AreFiles, IsForCompile, IsNoCompile, IsPath, compile_options}
use Rattle.command_words.specs.Explore.{IsMostWays, IsNoExplore, explore_options, explore_word}
use Rattle.command_words.specs.Feed.{IsNoFeed, IsSide, feed_options, feed_word}
use Rattle.command_words.specs.Forms.{form_of, own_id}
use Rattle.command_words.specs.Frames.{AreOperands, IsConversion, IsNoFrames, frames_options, frames_word}
use Rattle.command_words.specs.Gen.{IsActors, IsNoGen, IsRounds, gen_options, gen_word}
use Rattle.command_words.specs.Operands.{AreScriptOperands}
use Rattle.command_words.specs.Options.{Choice, EachOnce, Reads, WordUse, own_words, value_of}
use Rattle.command_words.specs.Relay.{IsNoRelay, relay_options, relay_word}
use Rattle.command_words.specs.Run.{AreRunOperands, Course, IsNoChart, IsNoRun, IsNoRunBy, SaysNoRun, SaysRun, chart_word, run_options, run_word}
use Rattle.command_words.specs.RunOptions.{IsDeath, IsLimit, IsSchedule}
use Rattle.command_words.specs.Tables.{IsTable}
use Rattle.command_words.specs.Waits.{IsNoWaits, IsOperand, waits_word}
use Rattle.command_words.proofs.AuditFound.{audit_table}
use Rattle.command_words.proofs.Compiled.{path_ne, same_value, same_words, table}
use Rattle.command_words.proofs.ExploreFound.{explore_table, ways_ne}
use Rattle.command_words.proofs.FeedFound.{feed_table}
use Rattle.command_words.proofs.FramesFound.{frames_table}
use Rattle.command_words.proofs.GenFound.{gen_table}
use Rattle.command_words.proofs.Parsed.{read_taken}
use Rattle.command_words.proofs.RelayFound.{relay_table}
use Rattle.command_words.proofs.Rows.{fresh_once, read_proper}
use Rattle.command_words.proofs.RunFound.{die_ne, limit_ne, run_table}
use Rattle.command_words.proofs.Walks.{AreTexts, words_read}
use Rattle.command_existence.proofs.Files.{files_decided, frames_operands_decided, operand_decided, rounds_word_decided, run_operands_decided, script_operands_decided}
use Rattle.command_existence.proofs.Values.{Decided, Text, actors_decided, conversion_decided, death_decided, limit_decided, most_ways_decided, path_decided, schedule_decided, side_decided}

-- What words mean for their options

-- words as the parser takes them
are_texts : (words : List Text) → AllByRecursion IsUtf8 words → AreTexts words
are_texts [] texts = tt
are_texts (w ∷ ws) texts = (texts.0, are_texts ws texts.1)

-- the meaning of words that give no option twice
pub record IsSaid (options : List Choice) (words : List Text) (said : List WordUse) : Type 0 where
  pub reads : Reads options words said
  pub once : EachOnce said

said_decided : (options : List Choice) → IsTable options → (words : List Text) → AllByRecursion IsUtf8 words → Decided (IsSaid options words)
said_decided options is words texts = by (fault_of (form_of options) words) refl
  where
    by : (faults : Kinds) → fault_of (form_of options) words ≡ faults → Decided (IsSaid options words)
    by [] e = let got = words_read options words is (are_texts words texts) e in inl (got.0, record { reads = got.1; once = fresh_once got.0 (read_proper options is words got.0 got.1) got.2 })
    by (fault ∷ faults) e = inr (λ said s. let both : fault ∷ faults ≡ [] = sym e ∙ read_taken options words said is s.reads s.once in cc)

schedule_ne : codes "schedule" ≢ own_id
schedule_ne e = let first : 115 ≡ 119 = ap (λ (t : Text). slice_index t 0) e in absurd (omega (arith, first))

side_ne : codes "side" ≢ own_id
side_ne e = let first : 115 ≡ 119 = ap (λ (t : Text). slice_index t 0) e in absurd (omega (arith, first))

to_ne : codes "to" ≢ own_id
to_ne e = let first : 116 ≡ 119 = ap (λ (t : Text). slice_index t 0) e in absurd (omega (arith, first))

actors_ne : codes "actors" ≢ own_id
actors_ne e = let first : 97 ≡ 119 = ap (λ (t : Text). slice_index t 0) e in absurd (omega (arith, first))

-- Another meaning of the words has the same values and the same other words.
module _ (options : List Choice) (is : IsTable options) (words : List Text) (said : List WordUse) (s : IsSaid options words said) (other : List WordUse) (o : IsSaid options words other) where
  given_so : (Holds : Option Text → Type 0) (name : Text) → name ≢ own_id → Holds (value_of name other) → Holds (value_of name said)
  given_so Holds name ne = subst Holds (same_value options words other said is o.reads o.once s.reads s.once name ne)

  others_so : (Holds : List Text → Type 0) → Holds (own_words other) → Holds (own_words said)
  others_so Holds = subst Holds (same_words options words other said is o.reads o.once s.reads s.once)

-- Each command

module _ (words : List Text) (texts : AllByRecursion IsUtf8 words) where
  pub compile_decided : IsForCompile words → ((command : CommandView) × Say words command) ⊎ IsNoCompile words
  compile_decided chosen = by (said_decided compile_options table words texts)
    where
      by_values : (said : List WordUse) → IsSaid compile_options words said → Decided (IsPath (value_of (codes "path") said)) → Decided (AreFiles (own_words said)) → ((command : CommandView) × Say words command) ⊎ IsNoCompile words
      by_values said s (inl (path, p)) (inl (files, f)) =
          inl (compile (value_of (codes "sync-msg-list") said) path files, record { chosen = chosen; said = said; reads = s.reads; once = s.once; list_is = refl; path_is = p; files_are = f })
      by_values said s (inr none) files =
          inr (λ list path files c. none path (given_so compile_options table words said s c.said (record { reads = c.reads; once = c.once }) (λ v. IsPath v path) (codes "path") path_ne c.path_is))
      by_values said s (inl path) (inr none) =
          inr (λ list path files c. none files (others_so compile_options table words said s c.said (record { reads = c.reads; once = c.once }) (λ ws. AreFiles ws files) c.files_are))

      by : Decided (IsSaid compile_options words) → ((command : CommandView) × Say words command) ⊎ IsNoCompile words
      by (inr none) = inr (λ list path files c. none c.said (record { reads = c.reads; once = c.once }))
      by (inl (said, s)) = by_values said s (path_decided (value_of (codes "path") said)) (files_decided (own_words said))

  pub frames_decided : ((command : CommandView) × Say (frames_word ∷ words) command) ⊎ IsNoFrames (frames_word ∷ words)
  frames_decided = by (said_decided frames_options frames_table words texts)
    where
      by_values : (said : List WordUse) → IsSaid frames_options words said → Decided (IsPath (value_of (codes "path") said)) → Decided (IsConversion (value_of (codes "to") said))
          → ((file : Text) × (given : Text) × AreOperands (own_words said) file given) ⊎ ((file given : Text) → AreOperands (own_words said) file given → ⊥)
          → ((command : CommandView) × Say (frames_word ∷ words) command) ⊎ IsNoFrames (frames_word ∷ words)
      by_values said s (inl (path, p)) (inl (convert, c)) (inl (file, given, o)) =
          inl (frames (value_of (codes "sync-msg-list") said) path file given convert, (refl, record { said = said; reads = s.reads; once = s.once; list_is = refl; path_is = p; convert_is = c; operands = o }))
      by_values said s (inr none) convert operands =
          inr (λ list path file given convert c. none path (given_so frames_options frames_table words said s c.1.said (record { reads = c.1.reads; once = c.1.once }) (λ v. IsPath v path) (codes "path") path_ne c.1.path_is))
      by_values said s (inl path) (inr none) operands =
          inr (λ list path file given convert c. none convert (given_so frames_options frames_table words said s c.1.said (record { reads = c.1.reads; once = c.1.once }) (λ v. IsConversion v convert) (codes "to") to_ne c.1.convert_is))
      by_values said s (inl path) (inl convert) (inr none) =
          inr (λ list path file given convert c. none file given (others_so frames_options frames_table words said s c.1.said (record { reads = c.1.reads; once = c.1.once }) (λ ws. AreOperands ws file given) c.1.operands))

      by : Decided (IsSaid frames_options words) → ((command : CommandView) × Say (frames_word ∷ words) command) ⊎ IsNoFrames (frames_word ∷ words)
      by (inr none) = inr (λ list path file given convert c. none c.1.said (record { reads = c.1.reads; once = c.1.once }))
      by (inl (said, s)) = by_values said s (path_decided (value_of (codes "path") said)) (conversion_decided (value_of (codes "to") said)) (frames_operands_decided (own_words said))

  pub waits_decided : ((command : CommandView) × Say (waits_word ∷ words) command) ⊎ IsNoWaits (waits_word ∷ words)
  waits_decided = by (said_decided compile_options table words texts)
    where
      by_values : (said : List WordUse) → IsSaid compile_options words said → Decided (IsPath (value_of (codes "path") said)) → Decided (IsOperand (own_words said)) → ((command : CommandView) × Say (waits_word ∷ words) command) ⊎ IsNoWaits (waits_word ∷ words)
      by_values said s (inl (path, p)) (inl (file, o)) =
          inl (waits (value_of (codes "sync-msg-list") said) path file, (refl, record { said = said; reads = s.reads; once = s.once; list_is = refl; path_is = p; operand = o }))
      by_values said s (inr none) operand =
          inr (λ list path file c. none path (given_so compile_options table words said s c.1.said (record { reads = c.1.reads; once = c.1.once }) (λ v. IsPath v path) (codes "path") path_ne c.1.path_is))
      by_values said s (inl path) (inr none) =
          inr (λ list path file c. none file (others_so compile_options table words said s c.1.said (record { reads = c.1.reads; once = c.1.once }) (λ ws. IsOperand ws file) c.1.operand))

      by : Decided (IsSaid compile_options words) → ((command : CommandView) × Say (waits_word ∷ words) command) ⊎ IsNoWaits (waits_word ∷ words)
      by (inr none) = inr (λ list path file c. none c.1.said (record { reads = c.1.reads; once = c.1.once }))
      by (inl (said, s)) = by_values said s (path_decided (value_of (codes "path") said)) (operand_decided (own_words said))

  -- what the words after the first word of a command that runs a script say
  abbrev IsRunSaid : Type 0
  IsRunSaid = (list : Option Text) × (path : List Text) × (course : Course) × (script : Text) × (file : Text) × SaysRun words list path course script file

  run_words_decided : IsRunSaid ⊎ SaysNoRun words
  run_words_decided = by (said_decided run_options run_table words texts)
    where
      by_values : (said : List WordUse) → IsSaid run_options words said → Decided (IsPath (value_of (codes "path") said)) → Decided (IsSchedule (value_of (codes "schedule") said)) → Decided (IsLimit (value_of (codes "limit") said))
          → Decided (IsDeath (value_of (codes "die") said)) → ((script : Text) × (file : Text) × AreRunOperands (own_words said) script file) ⊎ ((script file : Text) → AreRunOperands (own_words said) script file → ⊥)
          → IsRunSaid ⊎ SaysNoRun words
      by_values said s (inl (path, p)) (inl (schedule, w)) (inl (limit, l)) (inl (death, d)) (inl (script, file, o)) =
          inl (
            value_of (codes "sync-msg-list") said,
            path,
            record { schedule = schedule; limit = limit; death = death },
            script,
            file,
            record { said = said; reads = s.reads; once = s.once; list_is = refl; path_is = p; schedule_is = w; limit_is = l; death_is = d; operands = o },
          )
      by_values said s (inr none) schedule limit death operands =
          inr (λ list path course script file c. none path (given_so run_options run_table words said s c.said (record { reads = c.reads; once = c.once }) (λ v. IsPath v path) (codes "path") path_ne c.path_is))
      by_values said s (inl path) (inr none) limit death operands =
          inr (λ list path course script file c. none course.schedule (given_so run_options run_table words said s c.said (record { reads = c.reads; once = c.once }) (λ v. IsSchedule v course.schedule) (codes "schedule") schedule_ne c.schedule_is))
      by_values said s (inl path) (inl schedule) (inr none) death operands =
          inr (λ list path course script file c. none course.limit (given_so run_options run_table words said s c.said (record { reads = c.reads; once = c.once }) (λ v. IsLimit v course.limit) (codes "limit") limit_ne c.limit_is))
      by_values said s (inl path) (inl schedule) (inl limit) (inr none) operands =
          inr (λ list path course script file c. none course.death (given_so run_options run_table words said s c.said (record { reads = c.reads; once = c.once }) (λ v. IsDeath v course.death) (codes "die") die_ne c.death_is))
      by_values said s (inl path) (inl schedule) (inl limit) (inl death) (inr none) =
          inr (λ list path course script file c. none script file (others_so run_options run_table words said s c.said (record { reads = c.reads; once = c.once }) (λ ws. AreRunOperands ws script file) c.operands))

      by : Decided (IsSaid run_options words) → IsRunSaid ⊎ SaysNoRun words
      by (inr none) = inr (λ list path course script file c. none c.said (record { reads = c.reads; once = c.once }))
      by (inl (said, s)) =
          by_values said s (path_decided (value_of (codes "path") said)) (schedule_decided (value_of (codes "schedule") said)) (limit_decided (value_of (codes "limit") said)) (death_decided (value_of (codes "die") said)) (run_operands_decided (own_words said))

  -- so the words with the first word are that command, or are not
  run_by_decided : (first : Text) (command : Option Text → List Text → Course → Text → Text → CommandView) → ((list : Option Text) (path : List Text) (course : Course) (script file : Text) → SaysRun words list path course script file → Say (first ∷ words) (command list path course script file))
      → ((command : CommandView) × Say (first ∷ words) command) ⊎ IsNoRunBy first (first ∷ words)
  run_by_decided first command says = by run_words_decided
    where
      by : IsRunSaid ⊎ SaysNoRun words → ((command : CommandView) × Say (first ∷ words) command) ⊎ IsNoRunBy first (first ∷ words)
      by (inl (list, path, course, script, file, said)) = inl (command list path course script file, says list path course script file said)
      by (inr none) = inr (λ list path course script file c. none list path course script file c.1)

  pub run_decided : ((command : CommandView) × Say (run_word ∷ words) command) ⊎ IsNoRun (run_word ∷ words)
  run_decided = run_by_decided run_word run (λ list path course script file said. (refl, said))

  pub chart_decided : ((command : CommandView) × Say (chart_word ∷ words) command) ⊎ IsNoChart (chart_word ∷ words)
  chart_decided = run_by_decided chart_word chart (λ list path course script file said. (refl, said))

  pub gen_decided : ((command : CommandView) × Say (gen_word ∷ words) command) ⊎ IsNoGen (gen_word ∷ words)
  gen_decided = by (said_decided gen_options gen_table words texts)
    where
      by_values : (said : List WordUse) → IsSaid gen_options words said → Decided (IsActors (value_of (codes "actors") said)) → Decided (IsRounds (own_words said)) → ((command : CommandView) × Say (gen_word ∷ words) command) ⊎ IsNoGen (gen_word ∷ words)
      by_values said s (inl (actors, a)) (inl (rounds, r)) = inl (gen rounds actors, (refl, record { said = said; reads = s.reads; once = s.once; actors_is = a; rounds_is = r }))
      by_values said s (inr none) rounds =
          inr (λ rounds actors c. none actors (given_so gen_options gen_table words said s c.1.said (record { reads = c.1.reads; once = c.1.once }) (λ v. IsActors v actors) (codes "actors") actors_ne c.1.actors_is))
      by_values said s (inl actors) (inr none) =
          inr (λ rounds actors c. none rounds (others_so gen_options gen_table words said s c.1.said (record { reads = c.1.reads; once = c.1.once }) (λ ws. IsRounds ws rounds) c.1.rounds_is))

      by : Decided (IsSaid gen_options words) → ((command : CommandView) × Say (gen_word ∷ words) command) ⊎ IsNoGen (gen_word ∷ words)
      by (inr none) = inr (λ rounds actors c. none c.1.said (record { reads = c.1.reads; once = c.1.once }))
      by (inl (said, s)) = by_values said s (actors_decided (value_of (codes "actors") said)) (rounds_word_decided (own_words said))

  pub feed_decided : ((command : CommandView) × Say (feed_word ∷ words) command) ⊎ IsNoFeed (feed_word ∷ words)
  feed_decided = by (said_decided feed_options feed_table words texts)
    where
      by_values : (said : List WordUse) → IsSaid feed_options words said → Decided (IsPath (value_of (codes "path") said)) → Decided (IsLimit (value_of (codes "limit") said)) → Decided (IsSide (value_of (codes "side") said))
          → ((script : Text) × (file : Text) × (given : Text) × AreScriptOperands (own_words said) script file given) ⊎ ((script file given : Text) → AreScriptOperands (own_words said) script file given → ⊥)
          → ((command : CommandView) × Say (feed_word ∷ words) command) ⊎ IsNoFeed (feed_word ∷ words)
      by_values said s (inl (path, p)) (inl (limit, l)) (inl (side, d)) (inl (script, file, given, o)) =
          inl (
            feed (value_of (codes "sync-msg-list") said) path (record { side = side; limit = limit }) script file given,
            (refl, record { said = said; reads = s.reads; once = s.once; list_is = refl; path_is = p; limit_is = l; side_is = d; operands = o }),
          )
      by_values said s (inr none) limit side operands =
          inr (λ list path course script file given c. none path (given_so feed_options feed_table words said s c.1.said (record { reads = c.1.reads; once = c.1.once }) (λ v. IsPath v path) (codes "path") path_ne c.1.path_is))
      by_values said s (inl path) (inr none) side operands =
          inr (λ list path course script file given c. none course.limit (given_so feed_options feed_table words said s c.1.said (record { reads = c.1.reads; once = c.1.once }) (λ v. IsLimit v course.limit) (codes "limit") limit_ne c.1.limit_is))
      by_values said s (inl path) (inl limit) (inr none) operands =
          inr (λ list path course script file given c. none course.side (given_so feed_options feed_table words said s c.1.said (record { reads = c.1.reads; once = c.1.once }) (λ v. IsSide v course.side) (codes "side") side_ne c.1.side_is))
      by_values said s (inl path) (inl limit) (inl side) (inr none) =
          inr (λ list path course script file given c. none script file given (others_so feed_options feed_table words said s c.1.said (record { reads = c.1.reads; once = c.1.once }) (λ ws. AreScriptOperands ws script file given) c.1.operands))

      by : Decided (IsSaid feed_options words) → ((command : CommandView) × Say (feed_word ∷ words) command) ⊎ IsNoFeed (feed_word ∷ words)
      by (inr none) = inr (λ list path course script file given c. none c.1.said (record { reads = c.1.reads; once = c.1.once }))
      by (inl (said, s)) =
          by_values said s (path_decided (value_of (codes "path") said)) (limit_decided (value_of (codes "limit") said)) (side_decided (value_of (codes "side") said)) (script_operands_decided (own_words said))

  pub audit_decided : ((command : CommandView) × Say (audit_word ∷ words) command) ⊎ IsNoAudit (audit_word ∷ words)
  audit_decided = by (said_decided audit_options audit_table words texts)
    where
      by_values : (said : List WordUse) → IsSaid audit_options words said → Decided (IsPath (value_of (codes "path") said)) → Decided (IsLimit (value_of (codes "limit") said))
          → ((script : Text) × (file : Text) × (given : Text) × AreScriptOperands (own_words said) script file given) ⊎ ((script file given : Text) → AreScriptOperands (own_words said) script file given → ⊥)
          → ((command : CommandView) × Say (audit_word ∷ words) command) ⊎ IsNoAudit (audit_word ∷ words)
      by_values said s (inl (path, p)) (inl (limit, l)) (inl (script, file, given, o)) =
          inl (audit (value_of (codes "sync-msg-list") said) path limit script file given, (refl, record { said = said; reads = s.reads; once = s.once; list_is = refl; path_is = p; limit_is = l; operands = o }))
      by_values said s (inr none) limit operands =
          inr (λ list path limit script file given c. none path (given_so audit_options audit_table words said s c.1.said (record { reads = c.1.reads; once = c.1.once }) (λ v. IsPath v path) (codes "path") path_ne c.1.path_is))
      by_values said s (inl path) (inr none) operands =
          inr (λ list path limit script file given c. none limit (given_so audit_options audit_table words said s c.1.said (record { reads = c.1.reads; once = c.1.once }) (λ v. IsLimit v limit) (codes "limit") limit_ne c.1.limit_is))
      by_values said s (inl path) (inl limit) (inr none) =
          inr (λ list path limit script file given c. none script file given (others_so audit_options audit_table words said s c.1.said (record { reads = c.1.reads; once = c.1.once }) (λ ws. AreScriptOperands ws script file given) c.1.operands))

      by : Decided (IsSaid audit_options words) → ((command : CommandView) × Say (audit_word ∷ words) command) ⊎ IsNoAudit (audit_word ∷ words)
      by (inr none) = inr (λ list path limit script file given c. none c.1.said (record { reads = c.1.reads; once = c.1.once }))
      by (inl (said, s)) = by_values said s (path_decided (value_of (codes "path") said)) (limit_decided (value_of (codes "limit") said)) (script_operands_decided (own_words said))

  pub relay_decided : ((command : CommandView) × Say (relay_word ∷ words) command) ⊎ IsNoRelay (relay_word ∷ words)
  relay_decided = by (said_decided relay_options relay_table words texts)
    where
      by_values : (said : List WordUse) → IsSaid relay_options words said → Decided (IsPath (value_of (codes "path") said)) → Decided (IsLimit (value_of (codes "limit") said)) → Decided (IsDeath (value_of (codes "die") said))
          → ((script : Text) × (file : Text) × AreRunOperands (own_words said) script file) ⊎ ((script file : Text) → AreRunOperands (own_words said) script file → ⊥)
          → ((command : CommandView) × Say (relay_word ∷ words) command) ⊎ IsNoRelay (relay_word ∷ words)
      by_values said s (inl (path, p)) (inl (limit, l)) (inl (death, d)) (inl (script, file, o)) =
          inl (
            relay (value_of (codes "sync-msg-list") said) path (record { limit = limit; death = death }) script file,
            (refl, record { said = said; reads = s.reads; once = s.once; list_is = refl; path_is = p; limit_is = l; death_is = d; operands = o }),
          )
      by_values said s (inr none) limit death operands =
          inr (λ list path course script file c. none path (given_so relay_options relay_table words said s c.1.said (record { reads = c.1.reads; once = c.1.once }) (λ v. IsPath v path) (codes "path") path_ne c.1.path_is))
      by_values said s (inl path) (inr none) death operands =
          inr (λ list path course script file c. none course.limit (given_so relay_options relay_table words said s c.1.said (record { reads = c.1.reads; once = c.1.once }) (λ v. IsLimit v course.limit) (codes "limit") limit_ne c.1.limit_is))
      by_values said s (inl path) (inl limit) (inr none) operands =
          inr (λ list path course script file c. none course.death (given_so relay_options relay_table words said s c.1.said (record { reads = c.1.reads; once = c.1.once }) (λ v. IsDeath v course.death) (codes "die") die_ne c.1.death_is))
      by_values said s (inl path) (inl limit) (inl death) (inr none) =
          inr (λ list path course script file c. none script file (others_so relay_options relay_table words said s c.1.said (record { reads = c.1.reads; once = c.1.once }) (λ ws. AreRunOperands ws script file) c.1.operands))

      by : Decided (IsSaid relay_options words) → ((command : CommandView) × Say (relay_word ∷ words) command) ⊎ IsNoRelay (relay_word ∷ words)
      by (inr none) = inr (λ list path course script file c. none c.1.said (record { reads = c.1.reads; once = c.1.once }))
      by (inl (said, s)) = by_values said s (path_decided (value_of (codes "path") said)) (limit_decided (value_of (codes "limit") said)) (death_decided (value_of (codes "die") said)) (run_operands_decided (own_words said))

  pub explore_decided : ((command : CommandView) × Say (explore_word ∷ words) command) ⊎ IsNoExplore (explore_word ∷ words)
  explore_decided = by (said_decided explore_options explore_table words texts)
    where
      by_values : (said : List WordUse) → IsSaid explore_options words said → Decided (IsPath (value_of (codes "path") said)) → Decided (IsLimit (value_of (codes "limit") said)) → Decided (IsMostWays (value_of (codes "ways") said))
          → ((script : Text) × (file : Text) × AreRunOperands (own_words said) script file) ⊎ ((script file : Text) → AreRunOperands (own_words said) script file → ⊥)
          → ((command : CommandView) × Say (explore_word ∷ words) command) ⊎ IsNoExplore (explore_word ∷ words)
      by_values said s (inl (path, p)) (inl (limit, l)) (inl (ways, w)) (inl (script, file, o)) =
          inl (
            explore (value_of (codes "sync-msg-list") said) path (record { limit = limit; ways = ways }) script file,
            (refl, record { said = said; reads = s.reads; once = s.once; list_is = refl; path_is = p; limit_is = l; ways_are = w; operands = o }),
          )
      by_values said s (inr none) limit ways operands =
          inr (λ list path course script file c. none path (given_so explore_options explore_table words said s c.1.said (record { reads = c.1.reads; once = c.1.once }) (λ v. IsPath v path) (codes "path") path_ne c.1.path_is))
      by_values said s (inl path) (inr none) ways operands =
          inr (λ list path course script file c. none course.limit (given_so explore_options explore_table words said s c.1.said (record { reads = c.1.reads; once = c.1.once }) (λ v. IsLimit v course.limit) (codes "limit") limit_ne c.1.limit_is))
      by_values said s (inl path) (inl limit) (inr none) operands =
          inr (λ list path course script file c. none course.ways (given_so explore_options explore_table words said s c.1.said (record { reads = c.1.reads; once = c.1.once }) (λ v. IsMostWays v course.ways) (codes "ways") ways_ne c.1.ways_are))
      by_values said s (inl path) (inl limit) (inl ways) (inr none) =
          inr (λ list path course script file c. none script file (others_so explore_options explore_table words said s c.1.said (record { reads = c.1.reads; once = c.1.once }) (λ ws. AreRunOperands ws script file) c.1.operands))

      by : Decided (IsSaid explore_options words) → ((command : CommandView) × Say (explore_word ∷ words) command) ⊎ IsNoExplore (explore_word ∷ words)
      by (inr none) = inr (λ list path course script file c. none c.1.said (record { reads = c.1.reads; once = c.1.once }))
      by (inl (said, s)) = by_values said s (path_decided (value_of (codes "path") said)) (limit_decided (value_of (codes "limit") said)) (most_ways_decided (value_of (codes "ways") said)) (run_operands_decided (own_words said))
