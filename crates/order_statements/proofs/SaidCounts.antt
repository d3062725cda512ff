-- Counts and tests of the lines of an end: what it answers, what was delivered to it and has left, and whether it is
-- open.
use Rattle.std.proofs.Common.{◌≡◌, ◌⊎◌, inl, inr, ℕ, ◌+◌, ◌≤◌, ℤ, Bool, true, false, ◌||◌, if◌then◌else◌, int_eq, List, [], ◌∷◌, ◌++◌, filter_map, map, Option, Some, None, refl, sym, ap, subst, append_assoc, ◌∙◌, arith}
use Rattle.std.specs.List.{cons_option, list_any}
use Rattle.std.specs.Prelude.{unwrap_or}
use Rattle.std.proofs.lemmas.Bool.{false≢true, or_cases, or_left}
use Rattle.std.proofs.lemmas.Bool.Decides.{Decides-int_eq}
use Rattle.std.proofs.lemmas.List.{append-nil}
use Rattle.std.proofs.lemmas.List.Elements.{filter_map-append}
use Rattle.std.proofs.lemmas.List.Folds.{list_any-append}
use Rattle.std.proofs.lemmas.Option.{same_Some}
use Rattle.ipdl_base.specs.declared.kinds.EndState.{EndState}
use Rattle.ipdl_base.specs.declared.kinds.EndState.TheVariants as state
use Rattle.ipdl_base.specs.declared.kinds.Side.{Side}
use Rattle.ipdl_base.specs.declared.kinds.Side.TheVariants.{Parent, Child}
use Rattle.ipdl_base.specs.declared.line.Line.{Line}
use Rattle.ipdl_base.specs.declared.line.What.{What}
use Rattle.ipdl_base.specs.declared.line.What.TheVariants as what
use Rattle.ipdl_base.specs.declared.schema.Schema.{Schema}
use Rattle.channel_laws.specs.Counts.{how_many, is_number, is_packet, one_if}
use Rattle.channel_laws.proofs.Counting.{int-same, many-append, none-any}
use Rattle.history_reading.specs.declared.parts.PacketKind.{PacketKind}
use Rattle.history_reading.specs.declared.parts.PacketKind.TheVariants as kind
use Rattle.history_reading.specs.Numbers.{has, has_packet, same_packet}
use Rattle.history_reading.specs.SentPacket.{SentPacket, broken, packet_kind}
use Rattle.law_statements.specs.Arrived.{state_after, state_of}
use Rattle.law_statements.specs.Packets.{delivered, delivery, gone, number_gone, sent, sent_at}
use Rattle.law_statements.specs.Prefix.{Prefix}
use Rattle.law_statements.specs.Said.{is_event, last_event, line_of, made_of, said_by}
use Rattle.law_statements.proofs.Deciding.{through}
use Rattle.law_statements.proofs.Ends.{said-other, said-own}
use Rattle.law_statements.proofs.Lists.{last-add}
use Rattle.order_statements.specs.Shape.{answered, is_open, number_answered}
use Rattle.order_statements.proofs.LateReplies.{has-append}
use Rattle.order_statements.proofs.Tells.{state-more}

-- Answers

abbrev replies_to : ℤ → List SentPacket → ℕ
replies_to n ps = how_many (is_packet (kind.Reply n)) (map packet_kind ps)

one-answers : (schema : Schema) (n : ℤ) (before : List What) (w : What) (ps : List SentPacket) (ns : List ℤ) → replies_to n ps ≡ how_many (is_number n) ns → replies_to n (cons_option (sent_at schema before w) ps) ≡ how_many (is_number n) (cons_option (number_answered w) ns)
one-answers schema n before (what.Send m route number values) ps ns h = omega (arith, h)
one-answers schema n before (what.Call m transaction route number values) ps ns h = omega (arith, h)
one-answers schema n before (what.Resolve m values) ps ns h = ap (λ (k : ℕ). one_if (int_eq m n) + k) h
one-answers schema n before (what.Reject m) ps ns h = ap (λ (k : ℕ). one_if (int_eq m n) + k) h
one-answers schema n before (what.AnswerOk m values) ps ns h = ap (λ (k : ℕ). one_if (int_eq m n) + k) h
one-answers schema n before (what.AnswerFault m why) ps ns h = ap (λ (k : ℕ). one_if (int_eq m n) + k) h
one-answers schema n before what.Close ps ns h = omega (arith, h)
one-answers schema n before what.Die ps ns h = by _
  where
    by : (b : Bool) → replies_to n (cons_option (if b then None else Some broken) ps) ≡ how_many (is_number n) ns
    by true = h
    by false = omega (arith, h)
one-answers schema n before _ ps ns h = h

sent-answers : (schema : Schema) (n : ℤ) (before ws : List What) → replies_to n (made_of (sent_at schema) before ws) ≡ how_many (is_number n) (filter_map number_answered ws)
sent-answers schema n before [] = refl
sent-answers schema n before (w ∷ ws) = one-answers schema n before w (made_of (sent_at schema) (before ++ w ∷ []) ws) (filter_map number_answered ws) (sent-answers schema n (before ++ w ∷ []) ws)

-- the number of replies to a request that were sent is the number of lines that answer it
pub replies-answered : (schema : Schema) (n : ℤ) (own : List What) → replies_to n (sent schema own) ≡ how_many (is_number n) (answered own)
replies-answered schema n own = sent-answers schema n [] own

-- a request that a line answers, and that is answered once in total, was not answered before
pub first-answer : (own rest : List What) (w : What) (n : ℤ) → number_answered w ≡ Some n → how_many (is_number n) (answered (own ++ w ∷ rest)) ≤ 1 → has (answered own) n ≡ false
first-answer own rest w n is once =
    let all = ap (how_many (is_number n)) (filter_map-append number_answered own (w ∷ rest)) ∙ many-append (is_number n) (answered own) (answered (w ∷ rest)) in
    let one : how_many (is_number n) (answered (w ∷ rest)) ≡ 1 + how_many (is_number n) (answered rest) =
    ap (λ (o : Option ℤ). how_many (is_number n) (cons_option o (answered rest))) is ∙ ap (λ (b : Bool). one_if b + how_many (is_number n) (answered rest)) (int-same n) in
    none-any (is_number n) (answered own) (omega (arith, all, one, once))

-- some element passes: at least one is counted
pub any-some : {A : Type 0} (test : A → Bool) (xs : List A) → list_any test xs ≡ true → 1 ≤ how_many test xs
any-some test [] h = cc
any-some {A} test (x ∷ xs) h = by (test x) h (λ k. any-some test xs k)
  where
    by : (b : Bool) → b || list_any test xs ≡ true → (list_any test xs ≡ true → 1 ≤ how_many test xs) → 1 ≤ one_if b + how_many test xs
    by true k rec = omega arith
    by false k rec = let low = rec k in omega arith

-- States

not-open : (w : What) (s : EndState) → state_after w ≡ Some s → is_open s ≡ false
not-open what.DeliverGoodbye s e = let k : state.Draining ≡ s = same_Some state.Draining s e in ap is_open (sym k)
not-open what.DeliverBroken s e = let k : state.Draining ≡ s = same_Some state.Draining s e in ap is_open (sym k)
not-open what.Close s e = let k : state.Closed ≡ s = same_Some state.Closed s e in ap is_open (sym k)
not-open what.ShutNormal s e = let k : state.Closed ≡ s = same_Some state.Closed s e in ap is_open (sym k)
not-open what.ShutAbnormal s e = let k : state.Closed ≡ s = same_Some state.Closed s e in ap is_open (sym k)
not-open what.Die s e = let k : state.Dead ≡ s = same_Some state.Dead s e in ap is_open (sym k)
not-open _ s e = cc

-- an end that is open was open before
pub open-before : (own more : List What) → is_open (state_of (own ++ more)) ≡ true → is_open (state_of own) ≡ true
open-before own [] h = ap (λ (ws : List What). is_open (state_of ws)) (sym (append-nil own)) ∙ h
open-before own (w ∷ more) h = by (state_after w) refl (sym (ap is_open (state-more own w)) ∙ open-before (own ++ w ∷ []) more (ap (λ (ws : List What). is_open (state_of ws)) (append_assoc own (w ∷ []) more) ∙ h))
  where
    by : (o : Option EndState) → state_after w ≡ o → is_open (unwrap_or o (state_of own)) ≡ true → is_open (state_of own) ≡ true
    by None is k = k
    by (Some s) is k = absurd (false≢true (sym (not-open w s is) ∙ k))

-- Requests that were delivered, and have left

own-or-other : (end : Side) (front : List Line) (line : Line) → ((said_by end (front ++ line ∷ []) ≡ said_by end front ++ line.what ∷ []) × (line ≡ line_of end line.what)) ⊎ (said_by end (front ++ line ∷ []) ≡ said_by end front)
own-or-other end front line = by end line.side line.what
  where
    by : (end side : Side) (w : What) → ((said_by end (front ++ line_of side w ∷ []) ≡ said_by end front ++ w ∷ []) × (line_of side w ≡ line_of end w)) ⊎ (said_by end (front ++ line_of side w ∷ []) ≡ said_by end front)
    by Parent Parent w = inl (said-own Parent front w, refl)
    by Child Child w = inl (said-own Child front w, refl)
    by Parent Child w = inr (said-other Child front w)
    by Child Parent w = inr (said-other Parent front w)

said-first : (end : Side) (w : What) (ls : List Line) → said_by end (line_of end w ∷ ls) ≡ w ∷ said_by end ls
said-first Parent w ls = refl
said-first Child w ls = refl

-- what was delivered is still delivered after more lines
pub delivered-more : (own more : List What) (p : PacketKind) → has_packet (delivered own) p ≡ true → has_packet (delivered (own ++ more)) p ≡ true
delivered-more own more p h =
    ap (λ (ps : List PacketKind). has_packet ps p) (filter_map-append delivery own more)
    ∙ (list_any-append (λ (q : PacketKind). same_packet q p) (delivered own) (delivered more) ∙ or_left (has_packet (delivered own) p) (has_packet (delivered more) p) h)

effect-stays : (w : What) → is_event w ≡ false → number_gone w ≡ None
effect-stays (what.Take n route number values) e = cc
effect-stays (what.Drop n route number id) e = cc
effect-stays _ e = refl

module _ (schema : Schema) (lines : List Line) (prefix : Prefix schema lines) (end : Side) where
  -- what has left was delivered
  abbrev LeftWasDelivered : List Line → Type 0
  LeftWasDelivered front = (n : ℤ) → has (gone (said_by end front)) n ≡ true → has_packet (delivered (said_by end front)) (kind.Request n) ≡ true

  -- what was delivered in the last event has not left
  abbrev pub LastHasNotLeft : List Line → Type 0
  LastHasNotLeft front = (n : ℤ) → last_event (said_by end front) ≡ Some (what.DeliverRequest n) → has (gone (said_by end front)) n ≡ false

  first-true : (b : Bool) → b || false ≡ true → b ≡ true
  first-true true h = refl
  first-true false h = cc

  leaves-delivered : (front following : List Line) (w : What) → lines ≡ front ++ line_of end w ∷ following → (n : ℤ) → has (gone (w ∷ [])) n ≡ true → has_packet (delivered (said_by end front)) (kind.Request n) ≡ true
  leaves-delivered front following (what.Take m route number values) at n h =
      let same : m ≡ n = (Decides-int_eq m n).0 (first-true (int_eq m n) h) in
      ap (λ (k : ℤ). has_packet (delivered (said_by end front)) (kind.Request k)) (sym same) ∙ (prefix.takes end m route number values front following at).0.delivered
  leaves-delivered front following (what.Drop m route number id) at n h =
      let same : m ≡ n = (Decides-int_eq m n).0 (first-true (int_eq m n) h) in
      ap (λ (k : ℤ). has_packet (delivered (said_by end front)) (kind.Request k)) (sym same) ∙ (prefix.drops end m route number id front following at).0.delivered
  leaves-delivered front following _ at n h = cc

  left-step : (front : List Line) (line : Line) (following : List Line) → lines ≡ front ++ line ∷ following → LeftWasDelivered front → LeftWasDelivered (front ++ line ∷ [])
  left-step front line following at h n = by (own-or-other end front line)
    where
      own : List What
      own = said_by end front

      said-then : said_by end (front ++ line ∷ []) ≡ said_by end front ++ line.what ∷ [] → line ≡ line_of end line.what → has (gone (said_by end front ++ line.what ∷ [])) n ≡ true → has_packet (delivered (said_by end front ++ line.what ∷ [])) (kind.Request n) ≡ true
      said-then is same left = from (or_cases (has (gone (said_by end front)) n) (has (gone (line.what ∷ [])) n) (sym (has-append number_gone (said_by end front) (line.what ∷ []) n) ∙ left))
        where
          from : (has (gone (said_by end front)) n ≡ true) ⊎ (has (gone (line.what ∷ [])) n ≡ true) → has_packet (delivered (said_by end front ++ line.what ∷ [])) (kind.Request n) ≡ true
          from (inl k) = delivered-more (said_by end front) (line.what ∷ []) (kind.Request n) (h n k)
          from (inr k) = delivered-more (said_by end front) (line.what ∷ []) (kind.Request n) (leaves-delivered front following line.what (at ∙ ap (λ (l : Line). front ++ l ∷ following) same) n k)

      by : ((said_by end (front ++ line ∷ []) ≡ said_by end front ++ line.what ∷ []) × (line ≡ line_of end line.what)) ⊎ (said_by end (front ++ line ∷ []) ≡ said_by end front) → has (gone (said_by end (front ++ line ∷ []))) n ≡ true → has_packet (delivered (said_by end (front ++ line ∷ []))) (kind.Request n) ≡ true
      by (inl (is, same)) left = subst (λ (ws : List What). has_packet (delivered ws) (kind.Request n) ≡ true) (sym is) (said-then is same (subst (λ (ws : List What). has (gone ws) n ≡ true) is left))
      by (inr is) left = subst (λ (ws : List What). has_packet (delivered ws) (kind.Request n) ≡ true) (sym is) (h n (subst (λ (ws : List What). has (gone ws) n ≡ true) is left))

  module _ (once : (n : ℤ) → how_many (is_packet (kind.Request n)) (delivered (said_by end lines)) ≤ 1) where
    -- a request that was delivered is not delivered again
    not-again : (front following : List Line) (n : ℤ) → lines ≡ front ++ following → (rest : List What) → said_by end following ≡ rest → has_packet (delivered (said_by end front)) (kind.Request n) ≡ true → 1 ≤ how_many (is_packet (kind.Request n)) (delivered rest) → ⊥
    not-again front following n at rest is before again =
        let whole : said_by end lines ≡ said_by end front ++ rest = ap (said_by end) at ∙ (filter_map-append _ front following ∙ ap (λ (ws : List What). said_by end front ++ ws) is) in
        let count = ap (λ (ws : List What). how_many (is_packet (kind.Request n)) (delivered ws)) whole ∙ (ap (how_many (is_packet (kind.Request n))) (filter_map-append delivery (said_by end front) rest) ∙ many-append (is_packet (kind.Request n)) (delivered (said_by end front)) (delivered rest)) in
        let first = any-some (is_packet (kind.Request n)) (delivered (said_by end front)) before in
        let all = once n in
        absurd (omega (arith, count, first, all, again))

    last-step : (front : List Line) (line : Line) (following : List Line) → lines ≡ front ++ line ∷ following → LeftWasDelivered front → LastHasNotLeft front → LastHasNotLeft (front ++ line ∷ [])
    last-step front line following at left h n = by (own-or-other end front line)
      where
        event-case : (w : What) → line ≡ line_of end w → (b : Bool) → is_event w ≡ b → (if b then Some w else last_event (said_by end front)) ≡ Some (what.DeliverRequest n) → has (gone (said_by end front ++ w ∷ [])) n ≡ false
        event-case w same true is e = from (has (gone (said_by end front)) n) refl
          where
            this : w ≡ what.DeliverRequest n
            this = same_Some w (what.DeliverRequest n) e

            stays : has (gone (said_by end front ++ w ∷ [])) n ≡ has (gone (said_by end front)) n || false
            stays = has-append number_gone (said_by end front) (w ∷ []) n ∙ ap (λ (v : What). has (gone (said_by end front)) n || has (gone (v ∷ [])) n) this

            again : 1 ≤ how_many (is_packet (kind.Request n)) (delivered (w ∷ said_by end following))
            again = any-some (is_packet (kind.Request n)) (delivered (w ∷ said_by end following)) (ap (λ (v : What). has_packet (delivered (v ∷ said_by end following)) (kind.Request n)) this ∙ or_left (int_eq n n) (has_packet (delivered (said_by end following)) (kind.Request n)) (int-same n))

            from : (c : Bool) → has (gone (said_by end front)) n ≡ c → has (gone (said_by end front ++ w ∷ [])) n ≡ false
            from false k = stays ∙ ap (λ (x : Bool). x || false) k
            from true k = absurd (not-again front (line ∷ following) n at (w ∷ said_by end following) (ap (λ (l : Line). said_by end (l ∷ following)) same ∙ said-first end w following) (left n k) again)
        event-case w same false is e =
            has-append number_gone (said_by end front) (w ∷ []) n
            ∙ (ap (λ (o : Option ℤ). has (gone (said_by end front)) n || has (cons_option o []) n) (effect-stays w is) ∙ ap (λ (x : Bool). x || false) (h n e))

        by : ((said_by end (front ++ line ∷ []) ≡ said_by end front ++ line.what ∷ []) × (line ≡ line_of end line.what)) ⊎ (said_by end (front ++ line ∷ []) ≡ said_by end front) → last_event (said_by end (front ++ line ∷ [])) ≡ Some (what.DeliverRequest n) → has (gone (said_by end (front ++ line ∷ []))) n ≡ false
        by (inl (is, same)) e =
            subst (λ (ws : List What). has (gone ws) n ≡ false) (sym is)
            (event-case line.what same (is_event line.what) refl (sym (last-add is_event (said_by end front) line.what) ∙ (ap last_event (sym is) ∙ e)))
        by (inr is) e = subst (λ (ws : List What). has (gone ws) n ≡ false) (sym is) (h n (ap last_event (sym is) ∙ e))

    pub last-not-left : (before following : List Line) → lines ≡ before ++ following → LastHasNotLeft before
    last-not-left before following at =
        (through lines (λ front. LeftWasDelivered front × LastHasNotLeft front) ((λ n k. cc), λ n k. cc) (λ front line later is p. (left-step front line later is p.0, last-step front line later is p.0 p.1)) before following at).1
