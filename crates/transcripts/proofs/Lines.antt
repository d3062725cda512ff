-- The lines of a transcript are the texts of the lines of its history.
use Rattle.std.proofs.Common.{◌≡◌, ℕ, ◌==◌, ℤ, Bool, true, false, not, ◌&&◌, if◌then◌else◌, List, [], ◌∷◌, ◌++◌, codes, refl, sym, ap, ◌∙◌, append_assoc}
use Rattle.std.specs.Fmt.{decimal}
use Rattle.ipdl_base.specs.declared.kinds.Destroy.{Destroy}
use Rattle.ipdl_base.specs.declared.kinds.Destroy.TheVariants as destroy
use Rattle.ipdl_base.specs.declared.kinds.Reason.{Reason}
use Rattle.ipdl_base.specs.declared.kinds.Reason.TheVariants as reason
use Rattle.ipdl_base.specs.declared.kinds.SendRefusal.{SendRefusal}
use Rattle.ipdl_base.specs.declared.kinds.SendRefusal.TheVariants as refusal
use Rattle.ipdl_base.specs.declared.kinds.Side.{Side}
use Rattle.ipdl_base.specs.declared.kinds.Side.TheVariants as sides
use Rattle.ipdl_base.specs.declared.line.Line.{Line}
use Rattle.ipdl_base.specs.declared.line.What.{What}
use Rattle.ipdl_base.specs.declared.line.What.TheVariants as what
use Rattle.ipdl_base.specs.declared.schema.ParamRow.{ParamRow}
use Rattle.ipdl_base.specs.declared.schema.Schema.{Schema}
use Rattle.ipdl_base.specs.declared.value.Values.{Values}
use Rattle.ipdl_base.specs.Lines.{is_effect}
use Rattle.ipdl_base.specs.Signatures.{params_of}
use Rattle.ipdl_base.specs.Sound.{IsSound}
use Rattle.history.specs.Messages.{message_of_number}
use Rattle.history.specs.Text.{line_begin, line_saying, line_text, lines_text, listed_values, message_text, numbered, protocol_text, refused_text, request_text, returns_named, tailed, what_text}
use Rattle.history.specs.Words.{side_word, refusal_word, reason_word, destroy_word}
use Rattle.transcripts.specs.Laws.{TranscriptsAreLines}
use Rattle.transcripts.specs.Printed.{SaysWord, SayWords, line_texts}
use Rattle.transcripts.specs.TextLines.{text_lines, with_first}
use Rattle.transcripts.proofs.Feedless.{has_no_feed, feedless-append, feedless-three, decimal-feedless, numbered-feedless, word-feedless, protocol-feedless, message-feedless, listed-feedless}

-- a text up to its line feed is its first line
pub cut-line : (xs rest : List ℕ) → has_no_feed xs ≡ true → text_lines (xs ++ 10 ∷ rest) ≡ (xs ++ 10 ∷ []) ∷ text_lines rest
cut-line [] rest h = refl
cut-line (x ∷ xs) rest h = by (x == 10) h (cut-line xs rest)
  where
    by : (b : Bool) → (not b && has_no_feed xs) ≡ true → (has_no_feed xs ≡ true → text_lines (xs ++ 10 ∷ rest) ≡ (xs ++ 10 ∷ []) ∷ text_lines rest)
        → (if b then (x ∷ []) ∷ text_lines (xs ++ 10 ∷ rest) else with_first x (text_lines (xs ++ 10 ∷ rest))) ≡ (x ∷ xs ++ 10 ∷ []) ∷ text_lines rest
    by true k next = cc
    by false k next = ap (with_first x) (next k)

-- Words

refusal-feedless : (cause : SendRefusal) → has_no_feed (refusal_word cause) ≡ true
refusal-feedless refusal.Closed = refl
refusal-feedless refusal.DeadActor = refl
refusal-feedless refusal.NestedInNormal = refl
refusal-feedless refusal.InsideCpow = refl
refusal-feedless refusal.LevelTooLow = refl
refusal-feedless refusal.TooDeep = refl
refusal-feedless refusal.TooLarge = refl
refusal-feedless refusal.InCall = refl
refusal-feedless refusal.DeadValue = refl

reason-feedless : (why : Reason) → has_no_feed (reason_word why) ≡ true
reason-feedless reason.ChannelClosed = refl
reason-feedless reason.HandlerRejected = refl
reason-feedless reason.ActorDestroyed = refl
reason-feedless reason.ResolverDestroyed = refl

destroy-feedless : (why : Destroy) → has_no_feed (destroy_word why) ≡ true
destroy-feedless destroy.Deletion = refl
destroy-feedless destroy.AncestorDeletion = refl
destroy-feedless destroy.NormalShutdown = refl
destroy-feedless destroy.AbnormalShutdown = refl

side-feedless : (side : Side) → has_no_feed (side_word side) ≡ true
side-feedless sides.Parent = refl
side-feedless sides.Child = refl

refused-feedless : (cause : SendRefusal) (act : List ℕ) → has_no_feed act ≡ true → has_no_feed (refused_text cause act) ≡ true
refused-feedless cause act h = feedless-three (codes "refused ") (refusal_word cause) act refl (refusal-feedless cause) h

tailed-feedless : (word : List ℕ) (n : ℤ) (between tail : List ℕ) → has_no_feed word ≡ true → has_no_feed between ≡ true → has_no_feed tail ≡ true → has_no_feed (tailed word n between tail) ≡ true
tailed-feedless word n between tail h k l = feedless-three (numbered word n) between tail (numbered-feedless word n h) k l

routed-feedless : (word : List ℕ) (n : ℤ) (between : List ℕ) (route : ℤ) (tail : List ℕ) → has_no_feed word ≡ true → has_no_feed between ≡ true → has_no_feed tail ≡ true → has_no_feed (numbered word n ++ numbered between route ++ tail) ≡ true
routed-feedless word n between route tail h k l = feedless-three (numbered word n) (numbered between route) tail (numbered-feedless word n h) (numbered-feedless between route k) l

module _ (schema : Schema) (sound : IsSound schema) where
  request-feedless : (number : ℕ) (vs : Values) → has_no_feed (codes " " ++ request_text schema number vs) ≡ true
  request-feedless number vs =
      feedless-append (codes " ") (request_text schema number vs) refl
      (feedless-append (message_text schema number) (listed_values schema (params_of schema number) vs) (message-feedless schema sound number) (listed-feedless schema (params_of schema number) vs))

  named-feedless : (number : ℕ) → has_no_feed (codes " " ++ message_text schema number) ≡ true
  named-feedless number = feedless-append (codes " ") (message_text schema number) refl (message-feedless schema sound number)

  what-feedless : (types : ℤ → List ParamRow) (w : What) → SaysWord w → has_no_feed (what_text schema types w) ≡ true
  what-feedless types (what.Send n route number vs) h = routed-feedless (codes "send ") n (codes " to ") route (codes " " ++ request_text schema number vs) refl refl (request-feedless number vs)
  what-feedless types (what.Call n transaction route number vs) h =
      feedless-append (numbered (codes "call ") n ++ numbered (codes "/") transaction ++ numbered (codes " to ") route) (codes " " ++ request_text schema number vs)
      (routed-feedless (codes "call ") n (codes "/") transaction (numbered (codes " to ") route) refl refl (numbered-feedless (codes " to ") route refl)) (request-feedless number vs)
  what-feedless types (what.RefusedSend cause number) h = feedless-append (refused_text cause (codes " ")) (message_text schema number) (refused-feedless cause (codes " ") refl) (message-feedless schema sound number)
  what-feedless types (what.RefusedClose cause) h = refused-feedless cause (codes " close") refl
  what-feedless types (what.RefusedResolve cause) h = refused-feedless cause (codes " resolve") refl
  what-feedless types (what.RefusedReject cause) h = refused-feedless cause (codes " reject") refl
  what-feedless types (what.Resolve n vs) h = tailed-feedless (codes "resolve ") n (codes " ") (listed_values schema (types n) vs) refl refl (listed-feedless schema (types n) vs)
  what-feedless types (what.Reject n) h = numbered-feedless (codes "reject ") n refl
  what-feedless types (what.Keep n name) h = tailed-feedless (codes "keep ") n (codes " ") name refl refl (word-feedless name h)
  what-feedless types (what.Let name id) h = feedless-three (codes "let ") name (numbered (codes " ") id) refl (word-feedless name h) (numbered-feedless (codes " ") id refl)
  what-feedless types what.Close h = refl
  what-feedless types what.Die h = refl
  what-feedless types (what.DeliverRequest n) h = numbered-feedless (codes "deliver request ") n refl
  what-feedless types (what.DeliverReply n) h = numbered-feedless (codes "deliver reply ") n refl
  what-feedless types what.DeliverGoodbye h = refl
  what-feedless types what.DeliverBroken h = refl
  what-feedless types (what.Take n route number vs) h = routed-feedless (codes "take ") n (codes " at ") route (codes " " ++ request_text schema number vs) refl refl (request-feedless number vs)
  what-feedless types (what.Drop n route number id) h =
      feedless-append (numbered (codes "drop ") n ++ numbered (codes " at ") route ++ (codes " " ++ message_text schema number)) (numbered (codes " for ") id)
      (routed-feedless (codes "drop ") n (codes " at ") route (codes " " ++ message_text schema number) refl refl (named-feedless number)) (numbered-feedless (codes " for ") id refl)
  what-feedless types (what.TakeReply n) h = numbered-feedless (codes "take reply ") n refl
  what-feedless types what.ShutNormal h = refl
  what-feedless types what.ShutAbnormal h = refl
  what-feedless types (what.Return n) h = numbered-feedless (codes "return ") n refl
  what-feedless types (what.ResumeOk n vs) h = tailed-feedless (codes "resume ") n (codes " ok ") (listed_values schema (types n) vs) refl refl (listed-feedless schema (types n) vs)
  what-feedless types (what.ResumeFault n why) h = tailed-feedless (codes "resume ") n (codes " fault ") (reason_word why) refl refl (reason-feedless why)
  what-feedless types (what.Flush count) h = feedless-append (codes "flush ") (decimal count) refl (decimal-feedless count)
  what-feedless types (what.Built id protocol) h = tailed-feedless (codes "built ") id (codes " ") (protocol_text schema protocol) refl refl (protocol-feedless schema sound protocol)
  what-feedless types (what.Replaced n) h = numbered-feedless (codes "replaced ") n refl
  what-feedless types (what.AnswerOk n vs) h = tailed-feedless (codes "answer ") n (codes " ok ") (listed_values schema (types n) vs) refl refl (listed-feedless schema (types n) vs)
  what-feedless types (what.AnswerFault n why) h = tailed-feedless (codes "answer ") n (codes " fault ") (reason_word why) refl refl (reason-feedless why)
  what-feedless types (what.Fails n) h = numbered-feedless (codes "fails ") n refl
  what-feedless types (what.Resolved n vs) h = tailed-feedless (codes "settle ") n (codes " resolved ") (listed_values schema (types n) vs) refl refl (listed-feedless schema (types n) vs)
  what-feedless types (what.Rejected n why) h = tailed-feedless (codes "settle ") n (codes " rejected ") (reason_word why) refl refl (reason-feedless why)
  what-feedless types (what.Fall id why) h = tailed-feedless (codes "fall ") id (codes " ") (destroy_word why) refl refl (destroy-feedless why)

  begin-feedless : (line : Line) → has_no_feed (line_begin line) ≡ true
  begin-feedless line = by (is_effect line.what)
    where
      by : (b : Bool) → has_no_feed (if b then codes "  " else side_word line.side ++ codes " ") ≡ true
      by true = refl
      by false = feedless-append (side_word line.side) (codes " ") (side-feedless line.side) refl

  -- a line's text is the first line of what begins with it
  cut-saying : (types : ℤ → List ParamRow) (line : Line) (rest : List ℕ) → SaysWord line.what → text_lines (line_saying schema types line ++ rest) ≡ line_saying schema types line ∷ text_lines rest
  cut-saying types line rest h =
      let said : List ℕ = line_begin line ++ what_text schema types line.what in
      ap text_lines (append_assoc said (10 ∷ []) rest) ∙ cut-line said rest (feedless-append (line_begin line) (what_text schema types line.what) (begin-feedless line) (what-feedless types line.what h))

  pub cut-lines : (before lines : List Line) (rest : List ℕ) → SayWords lines → text_lines (lines_text schema before lines ++ rest) ≡ line_texts schema before lines ++ text_lines rest
  cut-lines before [] rest h = refl
  cut-lines before (line ∷ lines) rest h =
      let first : List ℕ = line_text schema before line in
      let others : List ℕ = lines_text schema (before ++ line ∷ []) lines in
      ap text_lines (append_assoc first others rest)
      ∙ cut-saying (λ n. returns_named schema (message_of_number line.side before n)) line (others ++ rest) h.0
      ∙ ap (λ (xs : List (List ℕ)). first ∷ xs) (cut-lines (before ++ line ∷ []) lines rest h.1)

pub transcripts_are_lines : TranscriptsAreLines
transcripts_are_lines schema lines rest sound h = cut-lines schema sound [] lines rest h
