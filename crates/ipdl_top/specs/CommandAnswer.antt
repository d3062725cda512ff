-- What the program answers.
use Rattle.std.specs.Prelude.{◌≡◌, ◌≢◌, ◌⊎◌, ℕ, List, [], ◌++◌, map, length, Option, IsSomeAnd}
use Rattle.ipdl_base.specs.Outside.{FileMap}
use Rattle.ipdl_base.specs.declared.finding.Finding.{Finding}
use Rattle.ipdl_base.specs.declared.finding.Report.{Report}
use Rattle.ipdl_base.specs.declared.schema.Schema.{Schema}
use Rattle.ipdl_syntax.specs.declared.program.Entry.{Entry}
use Rattle.ipdl_syntax.specs.Programs.{IsProgram}
use Rattle.command_words.specs.declared.topic.Topic.{Topic}
use Rattle.command_words.specs.Topics.{Asks, AskNothing}
use Rattle.command_words.specs.Command.{CommandView, IsNoCommand, Say, audit, chart, compile, explore, feed, frames, gen, relay, run, waits}
use Rattle.findings.specs.Report.{IsReport}
use Rattle.include_graph.specs.Load.{IsProgramOf}
use Rattle.include_graph.specs.Reach.{IsReach}
use Rattle.include_graph.specs.Rules.{IsBroken}
use Rattle.include_graph.specs.Sources.{LoadInput, text_of}
use Rattle.sync_list.specs.declared.list.Section.{Section}
use Rattle.sync_list.specs.Broken as sync
use Rattle.type_rules.specs.Broken as types
use Rattle.program_schema.specs.ProtocolRules as protocols
use Rattle.program_schema.specs.SchemaOf.{IsSchemaOf}
use Rattle.actor_tables.specs.TableText.{table_text}
use Rattle.ipdl_top.specs.declared.answer.CommandAnswer.{CommandAnswer}
use Rattle.ipdl_top.specs.declared.rendering.Rendering.TheVariants.{Chart, Transcript}
use Rattle.ipdl_top.specs.declared.status.Status.TheVariants.{Done, Broken, Usage}
use Rattle.ipdl_top.specs.Audit.{SaysAudit}
use Rattle.ipdl_top.specs.Command.{usage_text}
use Rattle.ipdl_top.specs.CommandFiles.{NamedView, files_by, given_by, names_read, seen_by}
use Rattle.ipdl_top.specs.Explore.{SaysExplore}
use Rattle.ipdl_top.specs.Feed.{SaysFeed}
use Rattle.ipdl_top.specs.Frames.{SaysFrames}
use Rattle.ipdl_top.specs.Gen.{SaysGen}
use Rattle.ipdl_top.specs.Help.{topic_text}
use Rattle.ipdl_top.specs.Lists.{IsFaultOfList, AreSections, list_names}
use Rattle.ipdl_top.specs.Relay.{Relaying, SaysRelay}
use Rattle.ipdl_top.specs.Report.{TellsReport}
use Rattle.ipdl_top.specs.Run.{Driving, SaysRun}
use Rattle.ipdl_top.specs.FileViews.{FileViews}
use Rattle.ipdl_top.specs.Waits.{SaysWaits}

-- the answer that is a table
abbrev pub table_answer : List ℕ → CommandAnswer
table_answer text = record { status = Done; out = text; err = [] }

-- the answer to words that are no command
abbrev pub usage_answer : CommandAnswer
usage_answer = record { status = Usage; out = []; err = usage_text }

-- Rules on files

-- What the files of the reach break by how they are read and named, and what the list breaks as the file after them.
abbrev pub IsBrokenFile : LoadInput → FileMap → Option (List ℕ) → List (List ℕ) → Finding → Type 0
IsBrokenFile given lists list keys f = IsBroken given keys f ⊎ IsFaultOfList lists list (length keys) f

-- The report on the files and the list, which is not empty, and which calls each file by its name.
pub record IsFileReport (given : LoadInput) (lists : FileMap) (list : Option (List ℕ)) (report : Report) : Type 0 where
  pub keys : List (List ℕ)
  pub reach : IsReach given keys
  pub is_report : IsReport (IsBrokenFile given lists list keys) report.findings
  pub some : report.findings ≢ []
  pub called : report.names ≡ map (text_of given) keys ++ list_names list

-- Rules of the language

-- No rule on files is broken: this is the program, and these are the sections of the list, if one is named.
pub record IsReading (given : LoadInput) (lists : FileMap) (list : Option (List ℕ)) (program : List Entry) (sections : Option (List Section)) : Type 0 where
  pub is_program : IsProgramOf given program
  pub whole : IsProgram program
  pub are_sections : AreSections lists list sections

-- What a program breaks: rules on types and on protocols, and if there is a list, those of the list.
abbrev pub BreaksRules : List Entry → Option (List Section) → Finding → Type 0
BreaksRules program sections f =
    types.BrokenAt program f ⊎ (protocols.BrokenAt program f ⊎ IsSomeAnd sections (λ list. sync.BrokenAt program list f))

-- The report on the program and the list, which is not empty, and which calls each file by its name.
pub record IsRuleReport (given : LoadInput) (lists : FileMap) (list : Option (List ℕ)) (report : Report) : Type 0 where
  pub program : List Entry
  pub sections : Option (List Section)
  pub reading : IsReading given lists list program sections
  pub is_report : IsReport (BreaksRules program sections) report.findings
  pub some : report.findings ≢ []
  pub called : report.names ≡ map (λ e. e.name) program ++ list_names list

-- No rule is broken: this is the schema of the program that is read.
pub record IsSchemaRead (given : LoadInput) (lists : FileMap) (list : Option (List ℕ)) (schema : Schema) : Type 0 where
  pub program : List Entry
  pub sections : Option (List Section)
  pub reading : IsReading given lists list program sections
  pub clean : (f : Finding) → ¬ BreaksRules program sections f
  pub schema_of : IsSchemaOf program schema

-- The answer is what is said of the schema of a program that breaks no rule.
pub record IsSaidOf (Says : Schema → CommandAnswer → Type 0) (given : LoadInput) (lists : FileMap) (list : Option (List ℕ)) (answer : CommandAnswer) : Type 0 where
  pub schema : Schema
  pub read : IsSchemaRead given lists list schema
  pub says : Says schema answer

-- The answer of a command that compiles files: the report on them, or else the report on their program, or else what the
-- command says of its schema.
abbrev pub IsCompilation : (Schema → CommandAnswer → Type 0) → LoadInput → FileMap → Option (List ℕ) → CommandAnswer → Type 0
IsCompilation Says given lists list answer =
    TellsReport Broken (IsFileReport given lists list) answer ⊎ (TellsReport Broken (IsRuleReport given lists list) answer ⊎ IsSaidOf Says given lists list answer)

-- what the command that compiles says of a schema: its tables
abbrev pub SaysTables : Schema → CommandAnswer → Type 0
SaysTables schema answer = answer ≡ table_answer (table_text schema)

-- What a command says of the schema of its program, by what is seen of its script and its input. Without a word of turns a run
-- goes as the driver gives it, and a relay goes as `Relays` gives it.
abbrev pub SaysOf : Driving → Relaying → FileViews → CommandView → Schema → CommandAnswer → Type 0
SaysOf Gives Relays seen (compile list path names) = SaysTables
SaysOf Gives Relays seen (frames list path file name convert) = SaysFrames name convert (seen.input name)
SaysOf Gives Relays seen (waits list path file) = SaysWaits file
SaysOf Gives Relays seen (run list path course script file) = SaysRun Gives Transcript course script (seen.script script) file
SaysOf Gives Relays seen (gen rounds actors) = SaysGen Gives rounds actors
SaysOf Gives Relays seen (feed list path course script file name) = SaysFeed course script (seen.script script) name (seen.input name) file
SaysOf Gives Relays seen (audit list path limit script file name) = SaysAudit limit script (seen.script script) name (seen.input name) file
SaysOf Gives Relays seen (relay list path course script file) = SaysRelay Relays course script (seen.script script) file
SaysOf Gives Relays seen (chart list path course script file) = SaysRun Gives Chart course script (seen.script script) file
SaysOf Gives Relays seen (explore list path course script file) = SaysExplore course script (seen.script script) file

-- the answer of a command by files of these names, of which this is seen
abbrev pub IsAnswerBy : (Schema → CommandAnswer → Type 0) → NamedView → FileViews → CommandAnswer → Type 0
IsAnswerBy Says names seen answer = IsCompilation Says (given_by seen.files names.path names.program) seen.list names.list answer

-- The answer to a command, with these files.
abbrev pub AnswersTo : Driving → Relaying → FileViews → CommandView → CommandAnswer → Type 0
AnswersTo Gives Relays seen command answer = IsAnswerBy (SaysOf Gives Relays (seen_by (files_by command) seen) command) (names_read (files_by command)) (seen_by (files_by command) seen) answer

-- the words are a command, and the answer is the one to it
pub record IsCommandAnswer (Gives : Driving) (Relays : Relaying) (seen : FileViews) (words : List (List ℕ)) (answer : CommandAnswer) : Type 0 where
  pub command : CommandView
  pub said : Say words command
  pub answers : AnswersTo Gives Relays seen command answer

-- The answer to words that are no command: the text on what they ask about, or how the program is called.
abbrev pub IsAnswerWithout : List (List ℕ) → CommandAnswer → Type 0
IsAnswerWithout words answer = ((topic : Topic) × Asks words topic × (answer ≡ table_answer (topic_text topic))) ⊎ (AskNothing words × (answer ≡ usage_answer))

-- The answer to words, with these files: that of the command that they are, or that of no command.
abbrev pub IsAnswer : Driving → Relaying → FileViews → List (List ℕ) → CommandAnswer → Type 0
IsAnswer Gives Relays seen words answer = IsCommandAnswer Gives Relays seen words answer ⊎ (IsNoCommand words × IsAnswerWithout words answer)
