-- Worked lists, and texts that are not lists.
use Rattle.std.proofs.Common.{◌≡◌, ℕ, true, false, List, [], ◌∷◌, inl, inr, refl, arith}
use Rattle.std.specs.Prelude.{codes}
use Rattle.std.proofs.lemmas.Bool.Decides.{not_from_Decides}
use Rattle.std.proofs.lemmas.List.Elements.{Contains-push}
use Rattle.ipdl_base.specs.Words.{is_word}
use Rattle.ipdl_lex.specs.Scan.{is_reserved}
use Rattle.ipdl_lex.proofs.Words.{reserved_decided}
use Rattle.sync_list.specs.Lines.{IsIdentifier, IsSectionLine, IsValueLine, IsIndented}
use Rattle.sync_list.specs.Forms.{blank, comment, section, value, more}
use Rattle.sync_list.specs.Lists.{description, sections_from, IsListOf, IsFirstBad}
use Rattle.sync_list.proofs.Refused.{bad_indented, bad_section}

identifier : (bytes : List ℕ) → is_word bytes ≡ true → is_reserved bytes ≡ false → IsIdentifier bytes
identifier bytes word free = (word, not_from_Decides (is_reserved bytes) (reserved_decided bytes) free)

-- a section line
a_section : IsSectionLine (codes "[PL::B] \r") (codes "PL") (codes "B")
a_section = record {
  of_protocol = identifier (codes "PL") refl refl;
  of_message = identifier (codes "B") refl refl;
  after = codes " \r";
  blanks = refl;
  spelled = refl;
}

-- a value line with an empty value
a_value : IsValueLine (codes "description =") description []
a_value = record { is_word = refl; between = codes " "; blanks = refl; sign = 61; is_sign = inl refl; spelled = refl }

-- a line that continues a value
goes_on : IsIndented (codes "  why")
goes_on = record { begins = refl; no_blank_line = λ e. absurd (let x : ⊥ = cc in x); no_comment = λ h. elim h [ inl e ↦ absurd (let x : ⊥ = cc in x) | inr e ↦ absurd (let x : ⊥ = cc in x) ] }

-- a list of one section, which is described in a line that continues a value
worked : IsListOf (codes "[PL::B] \r\ndescription =\n  why\n") (record { protocol = codes "PL"; message = codes "B"; described = true; line = 1 } ∷ [])
worked = record {
  forms = section (codes "PL") (codes "B") ∷ value description [] ∷ more description ∷ blank ∷ [];
  each = ((a_section, λ none. absurd (let x : ⊥ = omega (arith, none.1) in x)), ((a_value, refl), ((goes_on, refl), (refl, tt))));
  sections = refl;
}

-- an empty description does not count, even if a value of another word continues
undescribed : sections_from 1 (section (codes "P") (codes "M") ∷ value description (codes " ") ∷ value (codes "bug") [] ∷ more (codes "bug") ∷ []) ≡ record { protocol = codes "P"; message = codes "M"; described = false; line = 1 } ∷ []
undescribed = refl

-- one of two descriptions is enough
one_of_two : sections_from 7 (section (codes "P") (codes "M") ∷ value description (codes " x") ∷ comment ∷ value description [] ∷ []) ≡ record { protocol = codes "P"; message = codes "M"; described = true; line = 7 } ∷ []
one_of_two = refl

-- a line after a comment cannot continue a value
after_a_comment : IsFirstBad (codes "[PL::B] \r\ndescription =\n #\n  why") 4
after_a_comment = record {
  before = codes "[PL::B] \r" ∷ codes "description =" ∷ codes " #" ∷ [];
  line = codes "  why";
  after = [];
  lines = refl;
  forms = section (codes "PL") (codes "B") ∷ value description [] ∷ comment ∷ [];
  each = ((a_section, λ none. absurd (let x : ⊥ = omega (arith, none.1) in x)), ((a_value, refl), (inl refl, tt)));
  bad = bad_indented (section (codes "PL") (codes "B") ∷ value description [] ∷ comment ∷ []) (codes "  why") goes_on refl;
  counted = refl;
}

-- a section cannot be repeated
repeated : IsFirstBad (codes "[PL::B] \r\n[PL::B] \r") 2
repeated = record {
  before = codes "[PL::B] \r" ∷ [];
  line = codes "[PL::B] \r";
  after = [];
  lines = refl;
  forms = section (codes "PL") (codes "B") ∷ [];
  each = ((a_section, λ none. absurd (let x : ⊥ = omega (arith, none.1) in x)), tt);
  bad = bad_section (section (codes "PL") (codes "B") ∷ []) (codes "[PL::B] \r") (codes "PL") (codes "B") a_section (Contains-push [] (section (codes "PL") (codes "B")));
  counted = refl;
}
