-- What tests of effects decide.
use Rattle.std.proofs.Common.{◌≡◌, ◌≤◌, ◌==◌, ℕ, ℤ, subst, Bool, true, false, not, IsTrue, List, [], ◌∷◌, ◌++◌, length, Some, refl, sym, ap, ◌∙◌, arith}
use Rattle.std.specs.Bool.{Decides}
use Rattle.std.specs.List.{list_all}
use Rattle.std.specs.Ordering.{int_eq}
use Rattle.std.proofs.lemmas.Bool.{and_parts, and_from, not-true}
use Rattle.std.proofs.lemmas.Bool.Decides.{Decides-eqb, Decides-int_eq}
use Rattle.ipdl_base.specs.declared.kinds.Reason.{Reason}
use Rattle.ipdl_base.specs.declared.kinds.Reason.TheVariants as reason
use Rattle.ipdl_base.specs.declared.line.What.{What}
use Rattle.ipdl_base.specs.declared.line.What.TheVariants as what
use Rattle.history_reading.specs.Numbers.{has}
use Rattle.history_reading.specs.Waits.{same_reason}
use Rattle.law_statements.specs.Packets.{number_settled}
use Rattle.law_statements.proofs.Deciding.{is-this}
use Rattle.law_statements.proofs.Replies.{reason-same}
use Rattle.order_statements.specs.Effects.{IsReturned, fault_due, lets_go, with_rejection, with_values}
use Rattle.order_checks.specs.EffectTests.{is_birth, is_birth_alone, is_birth_last, is_fault_alone, is_fault_due, is_fault_first, is_fault_to, is_handler_fault, is_none, is_return_first, is_returned, is_settling_alone}

pub none : (effects : List What) → Decides (is_none effects) (effects ≡ [])
none [] = (λ e. refl, λ e. refl)
none (w ∷ more) = (λ e. cc, λ e. cc)

-- Faults

fault-to : (n : ℤ) (why : Reason) (w : What) → Decides (is_fault_to n why w) (w ≡ what.AnswerFault n why)
fault-to n why (what.AnswerFault m given) = (
  λ e. let both : IsTrue (int_eq m n) × IsTrue (same_reason given why) = and_parts (int_eq m n) (same_reason given why) e in
      ap (λ (k : ℤ). what.AnswerFault k given) ((Decides-int_eq m n).0 both.0) ∙ ap (λ (r : Reason). what.AnswerFault n r) ((reason-same given why).0 both.1),
  λ e. let number : m ≡ n = cc in let same : given ≡ why = cc in and_from (int_eq m n) (same_reason given why) ((Decides-int_eq m n).1 number) ((reason-same given why).1 same),
)
fault-to n why _ = (λ e. cc, λ e. cc)

pub fault-alone : (n : ℤ) (why : Reason) (effects : List What) → Decides (is_fault_alone n why effects) (effects ≡ what.AnswerFault n why ∷ [])
fault-alone n why [] = (λ e. cc, λ e. cc)
fault-alone n why (w ∷ []) = (λ e. ap (λ (v : What). v ∷ []) ((fault-to n why w).0 e), λ e. let same : w ≡ what.AnswerFault n why = cc in (fault-to n why w).1 same)
fault-alone n why (w ∷ v ∷ more) = (λ e. cc, λ e. cc)

pub fault-first : (n : ℤ) (why : Reason) (effects : List What) → Decides (is_fault_first n why effects) ((more : List What) × (effects ≡ what.AnswerFault n why ∷ more))
fault-first n why [] = (λ e. cc, λ h. cc (h.1))
fault-first n why (w ∷ more) = (λ e. (more, ap (λ (v : What). v ∷ more) ((fault-to n why w).0 e)), λ h. (fault-to n why w).1 (by h.0 h.1))
  where
    by : (rest : List What) → w ∷ more ≡ what.AnswerFault n why ∷ rest → w ≡ what.AnswerFault n why
    by rest e = cc

pub fault-is-due : (due : Bool) (n : ℤ) (why : Reason) (effects : List What) → Decides (is_fault_due due n why effects) (effects ≡ fault_due due n why)
fault-is-due true n why effects = fault-alone n why effects
fault-is-due false n why effects = none effects

-- Returns

handler-fault : (why : Reason) → is_handler_fault why ≡ true → why ≡ reason.HandlerRejected
handler-fault why e = (reason-same why reason.HandlerRejected).0 e

returned-to : (n : ℤ) (w : What) → is_returned n w ≡ true → IsReturned n w
returned-to n (what.AnswerOk m values) e = subst (λ (k : ℤ). IsReturned n (what.AnswerOk k values)) (sym ((Decides-int_eq m n).0 e)) (with_values values)
returned-to n (what.AnswerFault m why) e =
    let both : IsTrue (int_eq m n) × IsTrue (is_handler_fault why) = and_parts (int_eq m n) (is_handler_fault why) e in
    subst (λ (w : What). IsReturned n w) (sym (ap (λ (k : ℤ). what.AnswerFault k why) ((Decides-int_eq m n).0 both.0) ∙ ap (λ (r : Reason). what.AnswerFault n r) (handler-fault why both.1))) with_rejection
returned-to n _ e = cc

returned-from : (n : ℤ) (w : What) → IsReturned n w → is_returned n w ≡ true
returned-from n _ (with_values values) = (Decides-int_eq n n).1 refl
returned-from n _ with_rejection = and_from (int_eq n n) (is_handler_fault reason.HandlerRejected) ((Decides-int_eq n n).1 refl) refl

pub return-first : (n : ℤ) (effects : List What) → Decides (is_return_first n effects) ((w : What) × (more : List What) × IsReturned n w × (effects ≡ w ∷ more))
return-first n [] = (λ e. cc, λ h. cc (h.3))
return-first n (v ∷ rest) = (λ e. (v, rest, returned-to n v e, refl), λ h. by h.0 h.1 h.2 h.3)
  where
    by : (w : What) (more : List What) → IsReturned n w → v ∷ rest ≡ w ∷ more → is_returned n v ≡ true
    by w more r e = let same : v ≡ w = cc in subst (λ (x : What). is_returned n x ≡ true) (sym same) (returned-from n w r)

-- Settlings

pub settling-alone : (n : ℤ) (effects : List What) → Decides (is_settling_alone n effects) ((w : What) × (number_settled w ≡ Some n) × (effects ≡ w ∷ []))
settling-alone n [] = (λ e. cc, λ h. cc (h.2))
settling-alone n (v ∷ []) = (λ e. (v, (is-this (number_settled v) n).0 e, refl), λ h. (is-this (number_settled v) n).1 (by h.0 h.1 h.2))
  where
    by : (w : What) → number_settled w ≡ Some n → v ∷ [] ≡ w ∷ [] → number_settled v ≡ Some n
    by w s e = let same : v ≡ w = cc in ap number_settled same ∙ s
settling-alone n (v ∷ u ∷ more) = (λ e. cc, λ h. cc (h.2))

-- Births

pub record Birth (fallen : List ℤ) (lost : List What) (protocol : ℕ) (effects : List What) : Type 0 where
  pub id : ℤ
  pub are : effects ≡ lost ++ what.Built id protocol ∷ []
  pub alive : has fallen id ≡ false

birth-to : (fallen : List ℤ) (protocol : ℕ) (w : What) → is_birth fallen protocol w ≡ true → (id : ℤ) × (w ≡ what.Built id protocol) × (has fallen id ≡ false)
birth-to fallen protocol (what.Built id p) e =
    let both : IsTrue (p == protocol) × IsTrue (not (has fallen id)) = and_parts (p == protocol) (not (has fallen id)) e in
    (id, ap (λ (q : ℕ). what.Built id q) ((Decides-eqb p protocol).0 both.0), not-true (has fallen id) both.1)
birth-to fallen protocol _ e = cc

birth-from : (fallen : List ℤ) (protocol : ℕ) (id : ℤ) → has fallen id ≡ false → is_birth fallen protocol (what.Built id protocol) ≡ true
birth-from fallen protocol id e = and_from (protocol == protocol) (not (has fallen id)) ((Decides-eqb protocol protocol).1 refl) (ap not e)

pub birth-alone : (fallen : List ℤ) (protocol : ℕ) (effects : List What) → Decides (is_birth_alone fallen protocol effects) (Birth fallen [] protocol effects)
birth-alone fallen protocol [] = (λ e. cc, λ h. cc (h.are))
birth-alone fallen protocol (w ∷ []) = (λ e. to (birth-to fallen protocol w e), λ h. from h.id h.are h.alive)
  where
    to : (id : ℤ) × (w ≡ what.Built id protocol) × (has fallen id ≡ false) → Birth fallen [] protocol (w ∷ [])
    to b = record { id = b.0; are = ap (λ (v : What). v ∷ []) b.1; alive = b.2 }

    from : (id : ℤ) → w ∷ [] ≡ what.Built id protocol ∷ [] → has fallen id ≡ false → is_birth fallen protocol w ≡ true
    from id e f = let same : w ≡ what.Built id protocol = cc in ap (is_birth fallen protocol) same ∙ birth-from fallen protocol id f
birth-alone fallen protocol (w ∷ v ∷ more) = (λ e. cc, λ h. cc (h.are))

pub record LastBirth (fallen : List ℤ) (protocol : ℕ) (effects : List What) : Type 0 where
  pub lost : List What
  pub few : length lost ≤ 1
  pub answers : IsTrue (list_all lets_go lost)
  pub birth : Birth fallen lost protocol effects

last-to : (fallen : List ℤ) (protocol : ℕ) (effects : List What) → is_birth_last fallen protocol effects ≡ true → LastBirth fallen protocol effects
last-to fallen protocol [] e = cc
last-to fallen protocol (w ∷ []) e = record { lost = []; few = omega arith; answers = refl; birth = (birth-alone fallen protocol (w ∷ [])).0 e }
last-to fallen protocol (l ∷ w ∷ []) e =
    let both : IsTrue (lets_go l) × IsTrue (is_birth fallen protocol w) = and_parts (lets_go l) (is_birth fallen protocol w) e in
    let b : (id : ℤ) × (w ≡ what.Built id protocol) × (has fallen id ≡ false) = birth-to fallen protocol w both.1 in
    record {
      lost = l ∷ [];
      few = omega arith;
      answers = and_from (lets_go l) true both.0 refl;
      birth = record { id = b.0; are = ap (λ (v : What). l ∷ v ∷ []) b.1; alive = b.2 };
    }
last-to fallen protocol (l ∷ w ∷ v ∷ more) e = cc

last-from : (fallen : List ℤ) (protocol : ℕ) (effects lost : List What) (id : ℤ) → length lost ≤ 1 → IsTrue (list_all lets_go lost) → effects ≡ lost ++ what.Built id protocol ∷ [] → has fallen id ≡ false → is_birth_last fallen protocol effects ≡ true
last-from fallen protocol effects [] id few answers e f = ap (is_birth_last fallen protocol) e ∙ birth-from fallen protocol id f
last-from fallen protocol effects (l ∷ []) id few answers e f =
    ap (is_birth_last fallen protocol) e ∙ and_from (lets_go l) (is_birth fallen protocol (what.Built id protocol)) ((and_parts (lets_go l) true answers).0) (birth-from fallen protocol id f)
last-from fallen protocol effects (l ∷ k ∷ lost) id few answers e f = absurd (omega (arith, few))

pub birth-last : (fallen : List ℤ) (protocol : ℕ) (effects : List What) → Decides (is_birth_last fallen protocol effects) (LastBirth fallen protocol effects)
birth-last fallen protocol effects = (last-to fallen protocol effects, λ h. last-from fallen protocol effects h.lost h.birth.id h.few h.answers h.birth.are h.birth.alive)
