-- A program that breaks no rule, of one protocol with one message; so its schema would be sound.
use Rattle.std.proofs.Common.{◌≡◌, ◌≢◌, ◌∙◌, ◌⊎◌, inl, inr, ℕ, zero, suc, true, false, leb, List, [], ◌∷◌, length, Some, None, slice_get, codes, refl, sym, ap, subst, arith}
use Rattle.std.specs.List.{Any}
use Rattle.std.proofs.lemmas.Bool.{true≢false}
use Rattle.ipdl_base.specs.declared.finding.Finding.{Finding}
use Rattle.ipdl_base.specs.declared.finding.Place.{Place}
use Rattle.ipdl_base.specs.declared.kinds.Direction.TheVariants as direction
use Rattle.ipdl_syntax.specs.Programs.{IsEntry, IsProgram}
use Rattle.ipdl_syntax.specs.declared.program.Entry.{Entry}
use Rattle.ipdl_syntax.specs.declared.tree.FileKind.TheVariants as file
use Rattle.ipdl_syntax.specs.declared.tree.MessageDecl.{MessageDecl}
use Rattle.ipdl_syntax.specs.declared.tree.ProtocolDecl.{ProtocolDecl}
use Rattle.findings.specs.Gains.{AtSome}
use Rattle.findings.specs.Repeats.{IsRepeatedAt}
use Rattle.name_table.specs.declared.kinds.MessageKind.TheVariants as kind
use Rattle.name_table.specs.Finds.{FindsProtocol, IsNameOf}
use Rattle.name_table.proofs.Seeing.{sees_shown}
use Rattle.manager_rules.specs.Broken as managers
use Rattle.manager_rules.specs.Managers.{HasManager, LeadsTo, NamesManager, one, more}
use Rattle.message_rules.specs.Broken as messages
use Rattle.message_rules.specs.Messages.{IsBadMaker}
use Rattle.type_rules.specs.Attributes.{HasRepeat, HasUnlisted, IsBadAttribute}
use Rattle.type_rules.specs.Broken as types
use Rattle.type_rules.specs.Declarations.{Declaration, IsRepeatedDeclaration, IsTypeWord}
use Rattle.type_rules.specs.TypeNames.{IsAmbiguous, IsNoActor, IsUnknown}
use Rattle.type_rules.specs.Written.{OfType, SomeType}
use Rattle.type_rules.proofs.Lists.{any_parts}
use Rattle.written_parts.specs.Attributes.{AttributesOf, borne_by}
use Rattle.written_parts.specs.declared.attributes.Bearer.{Bearer}
use Rattle.written_parts.specs.declared.attributes.Bearer.TheVariants as bearer
use Rattle.program_schema.specs.Clean.{IsClean}
use Rattle.program_schema.proofs.Lists.{any_place}
use Rattle.program_schema.proofs.Worked.{in_file, a_message, a_protocol, a_file, long_name, no_name}

abbrev go : MessageDecl
go = a_message 0 (codes "Go") direction.Child []

abbrev the_protocol : ProtocolDecl
the_protocol = a_protocol 0 (codes "PA") [] [] (go ∷ [])

abbrev the_file : Entry
the_file = a_file (codes "PA.ipdl") [] [] (Some the_protocol)

abbrev program : List Entry
program = the_file ∷ []

-- Members of short lists

none_any : {X : Type 0} (P : X → Type 0) → ¬ Any P []
none_any P (k, x, within, at, holds) = absurd (omega (arith, within))

one_any : {X : Type 0} (P : X → Type 0) (x : X) → Any P (x ∷ []) → P x
one_any P x some = only (any_place P (x ∷ []) some)
  where
    only : (k : ℕ) × (y : _) × (slice_get (x ∷ []) k ≡ Some y) × P y → P x
    only (zero, y, at, holds) = let same : y ≡ x = cc in subst P same holds
    only (suc k, y, at, holds) = cc

only_file : (P : ℕ → Entry → Type 0) → AtSome P program → P 0 the_file
only_file P (zero, e, at, holds) = let same : e ≡ the_file = cc in subst (P 0) same holds
only_file P (suc k, e, at, holds) = cc

only_message : (P : ℕ → MessageDecl → Type 0) → AtSome P (go ∷ []) → P 0 go
only_message P (zero, m, at, holds) = let same : m ≡ go = cc in subst (P 0) same holds
only_message P (suc k, m, at, holds) = cc

none_repeated : (name : List ℕ × Place) (place : Place) → ¬ IsRepeatedAt (name ∷ []) place
none_repeated name place (zero, n, at, holds) = let within = holds.0.1 in absurd (omega arith)
none_repeated name place (suc i, n, at, holds) = cc

never_repeated : (place : Place) → ¬ IsRepeatedAt [] place
never_repeated place (i, n, at, holds) = cc

-- The program

the_entry : IsEntry program 0 the_file
the_entry = record {
  keyed = record { kind = file.Protocol; front = codes "PA"; key = refl; unit = refl };
  words = record {
    includes = tt;
    structs = tt;
    unions = tt;
    protocol = record { full = (codes "PA", [], (refl, tt), refl); managers = tt; manages = tt; messages = (record { name = refl; params = tt; returns = tt }, tt) };
  };
  places = record {
    includes = tt;
    usings = tt;
    structs = tt;
    unions = tt;
    protocol = record { place = refl; managers = tt; manages = tt; messages = (record { place = refl; params = tt; returns = tt; attributes = tt }, tt); attributes = tt };
  };
  below = tt;
  includes = refl;
}

entries : (index : ℕ) (entry : Entry) → slice_get program index ≡ Some entry → IsEntry program index entry
entries zero entry at = let same : the_file ≡ entry = cc in subst (IsEntry program 0) same the_entry
entries (suc k) entry at = cc

is_program : IsProgram program
is_program = record { few = omega arith; distinct = λ i j d before within. absurd (omega arith); entries = entries }

-- Rules on types

no_type : (Holds : ℕ → OfType) → ¬ SomeType Holds program
no_type Holds some = none_any _ some

not_type_word : ¬ IsTypeWord (codes "PA")
not_type_word (inl (type, is)) = true≢false (sym (long_name type) ∙ ap (λ text. leb 3 (length text)) is)
not_type_word (inr (false, is)) = cc
not_type_word (inr (true, is)) = cc

abbrev the_declaration : Declaration
the_declaration = record { full = codes "PA"; place = in_file 0; is_using = false }

no_declaration : (place : Place) → ¬ IsRepeatedDeclaration program place
no_declaration place broken = elim (one_any _ the_declaration (one_any _ the_file broken)).0 [
  | inl earlier ↦ let before = (one_any _ the_declaration earlier).before in cc
  | inr taken ↦ not_type_word taken.word
]

abbrev IsBadIn : Place → AttributesOf → Type 0
IsBadIn place l = HasRepeat place l.attributes ⊎ HasUnlisted place l.bearer l.attributes

-- the protocol and its message have lists, and these are empty
none_bad : (place : Place) (bearer : Bearer) → ¬ IsBadIn place (borne_by bearer [])
none_bad place bearer (inl repeated) = never_repeated place repeated
none_bad place bearer (inr unlisted) = none_any _ unlisted

no_attribute : (place : Place) → ¬ IsBadAttribute program place
no_attribute place broken = elim (any_parts (IsBadIn place) (borne_by bearer.Protocol []) (borne_by bearer.Message [] ∷ []) broken) [
  | inl of_protocol ↦ none_bad place bearer.Protocol of_protocol
  | inr of_message ↦ none_bad place bearer.Message (one_any (IsBadIn place) (borne_by bearer.Message []) of_message)
]

no_types : (f : Finding) → ¬ types.BrokenAt program f
no_types f (inl broken) = no_type (λ number nullable base here. IsUnknown program number base × (here ≡ f.place)) broken.1
no_types f (inr (inl broken)) = no_type (λ number nullable base here. IsAmbiguous program number base × (here ≡ f.place)) broken.1
no_types f (inr (inr (inl broken))) = elim (only_file _ broken.1) [ inl some ↦ none_any _ some | inr some ↦ none_any _ some ]
no_types f (inr (inr (inr (inl broken)))) = no_declaration f.place broken.1
no_types f (inr (inr (inr (inr (inl broken))))) = no_type (λ number nullable base here. (nullable ≡ true) × IsNoActor program number base × (here ≡ f.place)) broken.1
no_types f (inr (inr (inr (inr (inr (inl broken)))))) = none_any _ (one_any _ the_file broken.1)
no_types f (inr (inr (inr (inr (inr (inr broken)))))) = no_attribute f.place broken.1

-- Rules on managers

no_manager : (other : ℕ) → ¬ HasManager program 0 other
no_manager other has =
    let there : Some the_protocol ≡ Some has.protocol = has.there in
    let same : has.protocol ≡ the_protocol = cc in
    none_any _ (subst (λ (p : ProtocolDecl). NamesManager program 0 p other) same has.names)

leads_nowhere : {file : ℕ} (other : ℕ) → LeadsTo program file other → file ≢ 0
leads_nowhere other (one {other = next} has) from = no_manager next (subst (λ f. HasManager program f next) from has)
leads_nowhere other (more {middle = next} has rest) from = no_manager next (subst (λ f. HasManager program f next) from has)

finds_none : (p : ℕ) → ¬ FindsProtocol program 0 (codes "Go") p
finds_none zero found =
    let is : Some (codes "PA") ≡ Some found.0 = (sees_shown program found.1).1 in
    let same : found.0 ≡ codes "PA" = cc in
    no_name (codes "Go") (codes "PA") refl refl (subst (IsNameOf (codes "Go") None) same found.2)
finds_none (suc k) found = let is : None ≡ Some found.0 = (sees_shown program found.1).1 in cc

no_managers : (f : Finding) → ¬ managers.BrokenAt program f
no_managers f (inl broken) = elim (only_file _ broken.1) [ inl some ↦ none_any _ some | inr some ↦ none_any _ some ]
no_managers f (inr (inl broken)) = elim (only_file _ broken.1) [ inl some ↦ none_any _ some | inr some ↦ none_any _ some ]
no_managers f (inr (inr (inl broken))) = none_any _ (only_file _ broken.1)
no_managers f (inr (inr (inr (inl broken)))) = let cycle = (only_file _ broken.1).0 in leads_nowhere cycle.other cycle.there refl
no_managers f (inr (inr (inr (inr (inl broken))))) = none_any _ (only_file _ broken.1)
no_managers f (inr (inr (inr (inr (inr (inl broken)))))) = (only_file _ broken.1).0 refl
no_managers f (inr (inr (inr (inr (inr (inr (inl broken))))))) = let found = (one_any _ go (only_file _ broken.1)).0 in finds_none found.other found.finds.0
no_managers f (inr (inr (inr (inr (inr (inr (inr broken))))))) = elim (only_file _ broken.1) [
  | inl named ↦ never_repeated f.place named
  | inr (inl named) ↦ never_repeated f.place named
  | inr (inr named) ↦ none_repeated (codes "Go", in_file 0) f.place named
]

-- Rules on messages

of_the_message : (Holds : ProtocolDecl → ℕ → MessageDecl → Type 0) (place : Place) → messages.SomeMessage Holds program place → Holds the_protocol 0 go
of_the_message Holds place some = (only_message (λ index m. Holds the_protocol index m × (m.place ≡ place)) (one_any _ the_file some)).0

no_bad_maker : ¬ IsBadMaker the_protocol go
no_bad_maker (inl destroys) = let is : kind.Destructor ≡ kind.Normal = destroys.0 in cc
no_bad_maker (inr constructs) = let is : kind.Constructor ≡ kind.Normal = constructs.0 in cc

no_messages : (f : Finding) → ¬ messages.BrokenAt program f
no_messages f (inl broken) = let past = of_the_message _ f.place broken.1 in omega arith
no_messages f (inr (inl broken)) = let sync = (of_the_message _ f.place broken.1).sync in cc
no_messages f (inr (inr (inl broken))) = let level = (of_the_message _ f.place broken.1).level in cc
no_messages f (inr (inr (inr (inl broken)))) = let level = (of_the_message _ f.place broken.1).level in cc
no_messages f (inr (inr (inr (inr (inl broken))))) = of_the_message _ f.place broken.1 (record { least = omega arith; most = omega arith; semantics = inl refl })
no_messages f (inr (inr (inr (inr (inr (inl broken)))))) = (of_the_message _ f.place broken.1).compressed refl
no_messages f (inr (inr (inr (inr (inr (inr (inl broken))))))) = never_repeated f.place (one_any _ go (one_any _ the_file broken.1))
no_messages f (inr (inr (inr (inr (inr (inr (inr (inl broken)))))))) = no_bad_maker (of_the_message _ f.place broken.1)
no_messages f (inr (inr (inr (inr (inr (inr (inr (inr broken)))))))) = let lazy = (of_the_message _ f.place broken.1).lazy in cc

pub is_clean : IsClean program
is_clean = record { is_program = is_program; named = (refl, tt); types = no_types; managers = no_managers; messages = no_messages }
