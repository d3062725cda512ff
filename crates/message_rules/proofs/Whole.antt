-- The findings of the protocols are those of the program.
use Rattle.std.proofs.Common.{◌≡◌, ℕ, List, ◌++◌, Option, Some, None, ◌⊎◌, inl, inr, refl, sym, subst}
use Rattle.std.specs.Prelude.{IsSomeAnd}
use Rattle.std.specs.List.{Any}
use Rattle.std.proofs.lemmas.List.{map-append}
use Rattle.ipdl_base.specs.declared.finding.Finding.{Finding}
use Rattle.ipdl_base.specs.declared.finding.Place.{Place}
use Rattle.ipdl_base.specs.declared.finding.TheConstants.Rule as rule
use Rattle.ipdl_syntax.specs.declared.program.Entry.{Entry}
use Rattle.ipdl_syntax.specs.declared.tree.Param.{Param}
use Rattle.ipdl_syntax.specs.declared.tree.ProtocolDecl.{ProtocolDecl}
use Rattle.findings.specs.Gains.{AtSome}
use Rattle.findings.specs.Repeats.{IsRepeatedAt}
use Rattle.message_rules.specs.declared.message.MessageBreach.{MessageBreach}
use Rattle.message_rules.specs.declared.message.MessageBreach.TheVariants.{TooMany, PlainSyncToChild, AsyncInsideSync, InsideCpowToChild, Stronger, BadCompress, BadMaker, BadLazy}
use Rattle.message_rules.specs.Breaches.{rule_of, Breaks}
use Rattle.message_rules.specs.Broken.{SomeMessage, IsRepeatedParameter, returns_of, BrokenAt}
use Rattle.message_rules.specs.Gathered.{IsFoundIn, IsRepeatedIn, param_names}

-- the names of the parameters, and then of the returns, if there are any
pub all_names : (params : List Param) (returns : Option (List Param)) (held : List Param) (names : List (List ℕ × Place)) → returns_of returns ≡ held → names ≡ param_names params ++ param_names held → names ≡ param_names (params ++ returns_of returns)
all_names params returns held names same e = rw (same, map-append {B = List ℕ × Place} (λ (p : Param). (p.name, p.place)) params held) e

some_out : {X : Type 0} (P : X → Type 0) (o : Option X) → IsSomeAnd o P → (x : X) × (o ≡ Some x) × P x
some_out P None h = absurd h
some_out P (Some x) h = (x, refl, h)

pub some_in : {X : Type 0} (P : X → Type 0) (o : Option X) (x : X) → o ≡ Some x → P x → IsSomeAnd o P
some_in {X} P o x e h = let Q : Option X → Type 0 = λ o. IsSomeAnd o P in subst Q (sym e) h

-- the findings of the protocol of an entry
abbrev pub IsFoundAt : Entry → Finding → Type 0
IsFoundAt e f = IsSomeAnd e.unit.protocol (λ p. IsFoundIn p f ⊎ IsRepeatedIn p.messages f)

-- a breach of some message
abbrev OfBreach : List Entry → Finding → MessageBreach → Type 0
OfBreach program f b = (f.rule ≡ rule_of b) × SomeMessage (Breaks b) program f.place

of_breach : (program : List Entry) (f : Finding) (b : MessageBreach) → OfBreach program f b → BrokenAt program f
of_breach program f TooMany h = inl h
of_breach program f PlainSyncToChild h = inr (inl h)
of_breach program f AsyncInsideSync h = inr (inr (inl h))
of_breach program f InsideCpowToChild h = inr (inr (inr (inl h)))
of_breach program f Stronger h = inr (inr (inr (inr (inl h))))
of_breach program f BadCompress h = inr (inr (inr (inr (inr (inl h)))))
of_breach program f BadMaker h = inr (inr (inr (inr (inr (inr (inr (inl h)))))))
of_breach program f BadLazy h = inr (inr (inr (inr (inr (inr (inr (inr h)))))))

of_repeat : (program : List Entry) (f : Finding) → f.rule ≡ rule.REPEATED_PARAMETER → IsRepeatedParameter program f.place → BrokenAt program f
of_repeat program f r h = inr (inr (inr (inr (inr (inr (inl (r, h)))))))

cases : (program : List Entry) (f : Finding) → BrokenAt program f → ((b : MessageBreach) × OfBreach program f b) ⊎ ((f.rule ≡ rule.REPEATED_PARAMETER) × IsRepeatedParameter program f.place)
cases program f h = elim h [
  | inl x ↦ inl (TooMany, x)
  | inr h ↦ elim h [
    | inl x ↦ inl (PlainSyncToChild, x)
    | inr h ↦ elim h [
      | inl x ↦ inl (AsyncInsideSync, x)
      | inr h ↦ elim h [
        | inl x ↦ inl (InsideCpowToChild, x)
        | inr h ↦ elim h [
          | inl x ↦ inl (Stronger, x)
          | inr h ↦ elim h [
            | inl x ↦ inl (BadCompress, x)
            | inr h ↦ elim h [
              | inl x ↦ inr x
              | inr h ↦ elim h [ inl x ↦ inl (BadMaker, x) | inr x ↦ inl (BadLazy, x) ]
            ]
          ]
        ]
      ]
    ]
  ]
]

-- what was gathered is a broken rule
pub gathered_is_broken : (program : List Entry) (f : Finding) → Any (λ e. IsFoundAt e f) program → BrokenAt program f
gathered_is_broken program f (k, e, lt, at, h) =
    let held = some_out (λ (p : ProtocolDecl). IsFoundIn p f ⊎ IsRepeatedIn p.messages f) e.unit.protocol h in
    let p = held.0 in
    elim held.2 [
      | inl found ↦ (
          let by = found.3.1 in
          let Messages : ProtocolDecl → Type 0 = λ p. AtSome (λ index m. Breaks found.3.0 p index m × (m.place ≡ f.place)) p.messages in
          of_breach program f found.3.0 (sym by.rule, (k, e, lt, at, some_in Messages e.unit.protocol p held.1 (found.0, found.1, found.2, (by.breaks, by.here))))
          )
      | inr again ↦ (
          let Repeats : ProtocolDecl → Type 0 = λ p. Any (λ m. IsRepeatedAt (param_names (m.params ++ returns_of m.returns)) f.place) p.messages in
          of_repeat program f again.4.0 (k, e, lt, at, some_in Repeats e.unit.protocol p held.1 (again.0, again.1, again.2, again.3, again.4.1))
          )
    ]

-- each broken rule was gathered
pub broken_is_gathered : (program : List Entry) (f : Finding) → BrokenAt program f → Any (λ e. IsFoundAt e f) program
broken_is_gathered program f h = elim (cases program f h) [
  | inl x ↦ (
      let at = x.1.1 in
      let held = some_out (λ (p : ProtocolDecl). AtSome (λ index m. Breaks x.0 p index m × (m.place ≡ f.place)) p.messages) at.1.unit.protocol at.4 in
      let found = held.2 in (
        at.0,
        at.1,
        at.2,
        at.3,
        some_in (λ (p : ProtocolDecl). IsFoundIn p f ⊎ IsRepeatedIn p.messages f) at.1.unit.protocol held.0 held.1
            (inl (found.0, found.1, found.2, (x.0, record { rule = sym x.1.0; breaks = found.3.0; here = found.3.1 }))),
      )
      )
  | inr x ↦ (
      let at = x.1 in
      let held = some_out (λ (p : ProtocolDecl). Any (λ m. IsRepeatedAt (param_names (m.params ++ returns_of m.returns)) f.place) p.messages) at.1.unit.protocol at.4 in
      let again = held.2 in (
        at.0,
        at.1,
        at.2,
        at.3,
        some_in (λ (p : ProtocolDecl). IsFoundIn p f ⊎ IsRepeatedIn p.messages f) at.1.unit.protocol held.0 held.1
            (inr (again.0, again.1, again.2, again.3, (x.0, again.4))),
      )
      )
]
