-- What exists by the definitions of tokens, trees, reaches and programs, for all files, words that name files, and paths.
use Rattle.std.specs.Prelude.{ℕ, ◌⊎◌, List}
use Rattle.ipdl_base.specs.declared.finding.Finding.{Finding}
use Rattle.ipdl_base.specs.declared.finding.Place.{Place}
use Rattle.ipdl_base.specs.declared.token.Token.{Token}
use Rattle.ipdl_lex.specs.declared.token.LexedText.{LexedText}
use Rattle.ipdl_lex.specs.declared.token.LexFault.{LexFault}
use Rattle.ipdl_lex.specs.Tokens.{IsTokens, IsFault}
use Rattle.ipdl_syntax.specs.declared.program.Entry.{Entry}
use Rattle.ipdl_syntax.specs.declared.tree.FileKind.{FileKind}
use Rattle.ipdl_syntax.specs.Programs.{IsProgram, BearTheirNames}
use Rattle.ipdl_parse.specs.Place.{HasTree, IsSyntaxPlace, IsPlaceAt}
use Rattle.include_graph.specs.declared.loader.BrokenFiles.{BrokenFiles}
use Rattle.include_graph.specs.Keys.{AreFileWords}
use Rattle.include_graph.specs.Load.{AreBrokenFiles, IsProgramOf}
use Rattle.include_graph.specs.Reach.{IsReach}
use Rattle.include_graph.specs.Rules.{IsBroken}
use Rattle.include_graph.specs.Sources.{LoadInput}
use Rattle.report_existence.specs.Laws.{IsListed}

-- the text has tokens
abbrev pub HasTokens : ℕ → List ℕ → Type 0
HasTokens file text = (lexed : LexedText) × IsTokens file text lexed

-- the text has a first fault
abbrev pub HasFault : ℕ → List ℕ → Type 0
HasFault file text = (fault : LexFault) × IsFault file text fault

-- The tokens have no tree and a syntax place: that of the first token with which they cannot continue to a tree, or
-- that of the end.
pub record HasSyntaxPlace (kind : FileKind) (tokens : List Token) (end : Place) : Type 0 where
  pub none : ¬ HasTree kind tokens
  pub index : ℕ
  pub longest : IsSyntaxPlace kind tokens index
  pub place : Place
  pub here : IsPlaceAt tokens end index place

-- Each text has tokens or a first fault.
abbrev pub TextsHaveAnswers : Type 0
TextsHaveAnswers = (file : ℕ) (text : List ℕ) → HasTokens file text ⊎ HasFault file text

-- Every list of tokens has a tree, or no tree and a syntax place.
abbrev pub TokensHaveAnswers : Type 0
TokensHaveAnswers = (kind : FileKind) (tokens : List Token) (end : Place) → HasTree kind tokens ⊎ HasSyntaxPlace kind tokens end

-- Each text has a first fault, or tokens, and these have a tree, or no tree and a syntax place.
abbrev pub FilesHaveAnswers : Type 0
FilesHaveAnswers =
    (kind : FileKind) (file : ℕ) (text : List ℕ)
    → ((lexed : LexedText) × IsTokens file text lexed × (HasTree kind lexed.tokens ⊎ HasSyntaxPlace kind lexed.tokens lexed.end)) ⊎ HasFault file text

-- All files, words that name files, and paths have a reach.
abbrev pub ReachesExist : Type 0
ReachesExist = (given : LoadInput) → AreFileWords given.words → (keys : List (List ℕ)) × IsReach given keys

-- For all files and keys some list has exactly the findings of the rules that the files of the keys break.
abbrev pub FindingsAreListed : Type 0
FindingsAreListed = (given : LoadInput) (keys : List (List ℕ)) → IsListed (IsBroken given keys)

-- the files that the words reach have a program, whose protocols have the names of their files
pub record HasProgram (given : LoadInput) : Type 0 where
  pub program : List Entry
  pub is_of : IsProgramOf given program
  pub is_program : IsProgram program
  pub named : BearTheirNames program

-- If the files that words reach break no rule, they make a program.
abbrev pub CleanFilesHavePrograms : Type 0
CleanFilesHavePrograms =
    (given : LoadInput) (keys : List (List ℕ)) → AreFileWords given.words → IsReach given keys → ((f : Finding) → ¬ IsBroken given keys f) → HasProgram given

-- the files that words reach break rules, and these are their findings
abbrev pub HasBrokenFiles : LoadInput → Type 0
HasBrokenFiles given = (files : BrokenFiles) × AreBrokenFiles given files

-- For all files, words that name files, and paths, the files that the words reach break a rule, or make a program.
abbrev pub LoadsHaveAnswers : Type 0
LoadsHaveAnswers = (given : LoadInput) → AreFileWords given.words → HasBrokenFiles given ⊎ HasProgram given
