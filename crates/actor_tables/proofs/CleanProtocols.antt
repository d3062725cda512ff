-- In a program that breaks no rule the names in a protocol find neither nothing nor two declarations.
use Rattle.std.proofs.Common.{◌≡◌, ℕ, ◌<◌, ◌≤◌, Bool, true, false, List, length, get_or, Option, Some, IsSomeAnd, slice_get, inl, inr, refl, subst, arith}
use Rattle.std.specs.Prelude.{IfSome, codes, if◌then◌else◌}
use Rattle.std.specs.List.{Any, list_any}
use Rattle.std.specs.Str.{bytes_eq}
use Rattle.std.proofs.lemmas.Bool.{cases_lt}
use Rattle.std.proofs.lemmas.List.Elements.{All-from_recursion}
use Rattle.std.proofs.lemmas.List.Folds.{Any-from_list_any}
use Rattle.std.proofs.lemmas.Option.{slice_get-get_or, slice_get_cases, option_and_then_some}
use Rattle.std.proofs.lemmas.Slice.Eq.{bytes_eq-Decides}
use Rattle.ipdl_base.specs.Words.{IsWord}
use Rattle.ipdl_base.specs.declared.finding.Place.{Place}
use Rattle.ipdl_base.specs.declared.finding.TheConstants.Rule as rule
use Rattle.ipdl_syntax.specs.declared.program.Entry.{Entry}
use Rattle.ipdl_syntax.specs.declared.tree.MessageDecl.{MessageDecl}
use Rattle.ipdl_syntax.specs.declared.tree.NameAt.{NameAt}
use Rattle.ipdl_syntax.specs.declared.tree.ProtocolDecl.{ProtocolDecl}
use Rattle.ipdl_syntax.specs.Units.{ProtocolHasWords}
use Rattle.findings.specs.Gains.{AtSome}
use Rattle.manager_rules.specs.Broken.{IsUnknownProtocol}
use Rattle.message_rules.specs.Broken as messages
use Rattle.message_rules.specs.Messages.{IsTooMany}
use Rattle.name_table.specs.declared.kinds.MessageKind.TheVariants as kind
use Rattle.name_table.specs.Decls.{FindsNoProtocol, protocol_of}
use Rattle.type_rules.proofs.Places.{InParams, InMessage}
use Rattle.program_schema.specs.Clean.{IsClean}
use Rattle.program_schema.proofs.Lists.{any_at}
use Rattle.message_rules.proofs.Whole.{some_in}
use Rattle.actor_tables.specs.SchemaSource.{FindsSoleProtocol, NamesFindSole, MessageFindsSole, ProtocolFindsSole}
use Rattle.actor_tables.proofs.CleanTypes.{Unknown, Ambiguous, params_sole, unit_unknown, unit_ambiguous}
use Rattle.actor_tables.proofs.Protocols.{never_two}

-- a property of the protocol that is there
held : (P : ProtocolDecl → Type 0) (o : Option ProtocolDecl) (p : ProtocolDecl) → o ≡ Some p → P p → IsSomeAnd o P
held P o p has h = some_in P o p has h

-- a constructor has the name of a managed protocol
constructor_managed : (delete managed : Bool) → kind.Constructor ≡ (if delete then kind.Destructor else (if managed then kind.Constructor else kind.Normal)) → managed ≡ true
constructor_managed true managed e = let wrong : ⊥ = cc in absurd wrong
constructor_managed false true e = refl
constructor_managed false false e = let wrong : ⊥ = cc in absurd wrong

never_unknown_protocol : (program : List Entry) → IsClean program → (place : Place) → ¬ IsUnknownProtocol program place
never_unknown_protocol program clean place h = clean.managers (record { place = place; rule = rule.UNKNOWN_PROTOCOL }) (inl (refl, h))

never_many : (program : List Entry) → IsClean program → (place : Place) → ¬ messages.SomeMessage (λ p index m. IsTooMany index) program place
never_many program clean place h = clean.messages (record { place = place; rule = rule.TOO_MANY_MESSAGES }) (inl (refl, h))

module _ (program : List Entry) (file : ℕ) (e : Entry) (p : ProtocolDecl) (clean : IsClean program) (at : slice_get program file ≡ Some e) (has : e.unit.protocol ≡ Some p) where
  words : ProtocolHasWords p
  words = let all : IfSome e.unit.protocol ProtocolHasWords = (clean.is_program.entries file e at).words.protocol in let Q : Option ProtocolDecl → Type 0 = λ o. IfSome o ProtocolHasWords in subst Q has all

  name_sole : (n : NameAt) → ((place : Place) → ¬ (FindsNoProtocol program file n.name × (n.place ≡ place))) → IsWord n.name → FindsSoleProtocol program file n.name
  name_sole n known word = record {
    some = λ none. known n.place (none, refl);
    one = never_two program file n.name clean.is_program clean.named word;
  }

  managers_sole : NamesFindSole program file p.managers
  managers_sole = λ k d below.
      let n : NameAt = get_or p.managers k d in
      name_sole n
      (λ place h. never_unknown_protocol program clean place (file, e, at, held _ e.unit.protocol p has (inl (any_at (λ (x : NameAt). FindsNoProtocol program file x.name × (x.place ≡ place)) p.managers k n (slice_get-get_or p.managers k d below) h))))
      (All-from_recursion (λ (x : NameAt). IsWord x.name) p.managers words.managers k d below)

  manages_sole : NamesFindSole program file p.manages
  manages_sole = λ k d below.
      let n : NameAt = get_or p.manages k d in
      name_sole n
      (λ place h. never_unknown_protocol program clean place (file, e, at, held _ e.unit.protocol p has (inr (any_at (λ (x : NameAt). FindsNoProtocol program file x.name × (x.place ≡ place)) p.manages k n (slice_get-get_or p.manages k d below) h))))
      (All-from_recursion (λ (x : NameAt). IsWord x.name) p.manages words.manages k d below)

  few : length p.messages ≤ 32768
  few = elim (cases_lt 32768 (length p.messages)) [
    | inl more ↦ absurd (too_many more)
    | inr fits ↦ fits
  ]
    where
      too_many : 32768 < length p.messages → ⊥
      too_many more = elim (slice_get_cases p.messages 32768).1 [
        | inl one ↦ never_many program clean one.0.place (any_at (λ (x : Entry). IsSomeAnd x.unit.protocol (λ q. AtSome (λ index m. IsTooMany index × (m.place ≡ one.0.place)) q.messages)) program file e at
            (held (λ q. AtSome (λ index m. IsTooMany index × (m.place ≡ one.0.place)) q.messages) e.unit.protocol p has (32768, one.0, one.2, (let few_more : 32768 ≤ 32768 = omega arith in few_more, refl))))
        | inr past ↦ absurd (omega arith)
      ]

  message_sole : (k : ℕ) (m : MessageDecl) → slice_get p.messages k ≡ Some m → MessageFindsSole program file p m
  message_sole k m there = record {
    params = params_sole program file m.params
        (λ place h. unit_unknown program file e clean at place (inr (inr (held (λ q. Any (InMessage (Unknown program file place)) q.messages) e.unit.protocol p has (any_at (InMessage (Unknown program file place)) p.messages k m there (inl h))))))
        (λ place h. unit_ambiguous program file e clean at place (inr (inr (held (λ q. Any (InMessage (Ambiguous program file place)) q.messages) e.unit.protocol p has (any_at (InMessage (Ambiguous program file place)) p.messages k m there (inl h))))));
    returns = λ params is. params_sole program file params
        (λ place h. unit_unknown program file e clean at place (inr (inr (held (λ q. Any (InMessage (Unknown program file place)) q.messages) e.unit.protocol p has
        (any_at (InMessage (Unknown program file place)) p.messages k m there (inr (some_in (InParams (Unknown program file place)) m.returns params is h)))))))
        (λ place h. unit_ambiguous program file e clean at place (inr (inr (held (λ q. Any (InMessage (Ambiguous program file place)) q.messages) e.unit.protocol p has
        (any_at (InMessage (Ambiguous program file place)) p.messages k m there (inr (some_in (InParams (Ambiguous program file place)) m.returns params is h)))))));
    made = λ makes.
        let n = Any-from_list_any (λ (x : NameAt). bytes_eq x.name m.name) p.manages (constructor_managed (bytes_eq m.name (codes "__delete__")) (list_any (λ (x : NameAt). bytes_eq x.name m.name) p.manages) makes) in
        let there : FindsSoleProtocol program file n.1.name = subst (λ (x : NameAt). FindsSoleProtocol program file x.name) n.3 (manages_sole n.0 n.1 n.2) in
        subst (FindsSoleProtocol program file) ((bytes_eq-Decides n.1.name m.name).0 n.4) there;
  }

  whole : ProtocolFindsSole program file p
  whole = record {
    managers = managers_sole;
    manages = manages_sole;
    messages = λ k d below. message_sole k (get_or p.messages k d) (slice_get-get_or p.messages k d below);
    few = few;
  }

pub protocol_sole : (program : List Entry) (file : ℕ) (p : ProtocolDecl) → IsClean program → protocol_of program file ≡ Some p → ProtocolFindsSole program file p
protocol_sole program file p clean is = option_and_then_some (λ (e : Entry). e.unit.protocol) (slice_get program file) p is (λ e at has. whole program file e p clean at has)
